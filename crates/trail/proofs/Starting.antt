-- What is left at the start: the forms of the main function, and nothing behind them.
use Rattle.std.specs.Prelude.{List, [], ◌≡◌, ℕ, ◌+◌, ◌-◌, ◌≤◌, ◌<◌, get_or, length}
use Rattle.std.proofs.Common.{refl, ◌∙◌, arith}
use Rattle.model.specs.Forms.{done}
use Rattle.model.proofs.Steps.{⊕-done}
use Rattle.short_runs.specs.Listing.{short_runs, least}
use Rattle.short_runs.specs.Told.{NumbersTell}
use Rattle.short_runs.proofs.Least.{none_listed}
use Rattle.rows.specs.declared.Code.{Code}
use Rattle.place.specs.Lent.{CodeTable, main_forms}
use Rattle.least_visits.specs.Least.{TableLeasts}
use Rattle.trail.specs.declared.Rest.{Rest}
use Rattle.trail.specs.declared.Extent.{Extent}
use Rattle.trail.specs.declared.Trail.{Trail}
use Rattle.trail.specs.Trails.{ExtentIs, Left, none_left, numbered_rest, TrailOf, ShortRunsOn}
use Rattle.trail.specs.Private.{CanPut, Puts, CanDescend, Descends}
use Rattle.trail.proofs.Moving.{function_lies}
use Rattle.trail.proofs.Resting.{left_least}

-- The records of the main function.
abbrev main_of : Code → Extent
main_of c = record { from = get_or c.bounds.now (c.functions - 1) 0; to = get_or c.bounds.now (c.functions - 1 + 1) 0; rounds = 0 }

pub main_is : (c : Code) {s : Extent} {a b : ℕ} → a ≡ get_or c.bounds.now (c.functions - 1) 0 → b ≡ get_or c.bounds.now (c.functions - 1 + 1) 0 →
    s ≡ record { from = a; to = b; rounds = 0 } → s ≡ main_of c
main_is c from to e = rw (← from, ← to) e

module _ (c : Code) (column : List ℕ) {s : Extent} (main : s ≡ main_of c) where
  main_lies : (t : CodeTable c) → TableLeasts t column → ExtentIs t column s (main_forms t)
  main_lies t noted = rw main (function_lies (c.functions - 1) (omega (arith, t.count)) noted)

  pub can_put_main : ShortRunsOn c column → (rests : List Rest) → (numbered_rest rests 0).least ≡ 0 → CanPut column rests 1 s 0
  can_put_main r rests z =
      record {
        row = _;
        starts = _;
        count = _;
        table = r.table;
        forms = main_forms r.table;
        rest = done;
        lies = main_lies r.table r.noted;
        left = none_left refl refl z;
        early = omega arith;
        few = omega arith;
      }

  module _ {old new : List Rest} {here : ℕ} (none : (numbered_rest old 0).least ≡ 0) (p : Puts column old new 1 s 0 here) where
    main_left : (t : CodeTable c) → TableLeasts t column → Left t column new here (main_forms t)
    main_left t noted =
        rw (⊕-done (main_forms t)) at (p.left t (main_forms t) done (main_lies t noted) (none_left refl refl none) (omega arith))

    pub no_runs : 64 < (numbered_rest new here).least → (t : CodeTable c) → TableLeasts t column → short_runs 64 (main_forms t) ≡ []
    no_runs h t noted = none_listed 64 (main_forms t) (omega (arith, left_least (main_left t noted)))

    module _ (fits : (numbered_rest new here).least ≤ 64) (x : Trail) (rests_are : x.rests ≡ new) where
      left_there : (t : CodeTable c) → TableLeasts t column → Left t column x.rests here (main_forms t)
      left_there t noted = rw rests_are (main_left t noted)

      main_fits : (t : CodeTable c) → TableLeasts t column → least (main_forms t) ≤ 64
      main_fits t noted = omega (arith, left_least (main_left t noted))

      pub can_descend_main : ShortRunsOn c column → CanDescend c column x 0 here
      can_descend_main r =
          record {
            table = r.table;
            noted = r.noted;
            forms = main_forms r.table;
            left = left_there r.table r.noted;
            told = r.told;
            early = omega (arith, p.near);
            few = omega arith;
            fits = main_fits r.table r.noted;
          }

      pub first_stands : length x.leaves ≡ 64 → (y : Trail) → Descends c column x y 0 here → (t : CodeTable c) → TableLeasts t column →
          NumbersTell (main_forms t) →
          TrailOf t column y (short_runs 64 (main_forms t))
      first_stands room y d t noted told =
          let z : y.len - 0 ≡ y.len = omega arith in
          record { short = d.short; room = d.room ∙ room; runs = rw z at (d.runs t (main_forms t) noted (left_there t noted) told (main_fits t noted)) }
