-- The runs of a trail from a visit on, from those behind it, and what stays of them where the trail changes behind.
use Rattle.std.specs.Prelude.{Option, Some, None, List, [], ◌∷◌, ◌++◌, ◌≡◌, ℕ, zero, suc, ◌+◌, ◌-◌, ◌*◌, ◌≤◌, ◌<◌, get_or, set, length}
use Rattle.std.proofs.Common.{length-set, refl, ap, ◌∙◌, arith, get_or-set_same, get_or-set_other}
use Rattle.model.specs.Plan.{Block}
use Rattle.model.specs.Forms.{Forms, done}
use Rattle.short_runs.specs.Listing.{ways, in_front, short_runs, least}
use Rattle.short_runs.proofs.Least.{least-⊕}
use Rattle.short_runs.specs.Told.{NumbersTell}
use Rattle.rows.specs.declared.Code.{Code}
use Rattle.rows.specs.Rows.{block_at}
use Rattle.place.specs.Stack.{FunctionTable}
use Rattle.place.specs.Lent.{CodeTable}
use Rattle.least_visits.specs.Least.{TableLeasts}
use Rattle.trail.specs.declared.Choice.{Choice}
use Rattle.trail.specs.declared.Rest.{Rest}
use Rattle.trail.specs.declared.Trail.{Trail}
use Rattle.trail.specs.Trails.{first_rest, Left, none_left, some_left, numbered_rest, Later, RunsFrom}
use Rattle.trail.specs.Private.{Chooses, CanDescend, Descends}
use Rattle.trail.proofs.Moving.{in_row}
use Rattle.trail.proofs.Resting.{Front, lies_least, left_front, left_kept}

-- Forms that are not at their end have a visit.
pub front_least : {w starts : List ℕ} {n : ℕ} {t : FunctionTable w starts n} {column : List ℕ} {rests : List Rest} {i : ℕ} {f : Forms} →
    Front t column rests i f → 0 < least f
front_least x = omega (arith, ap least x.same, least-⊕ x.first x.behind, lies_least x.lies x.there)

listed_done : (m : ℕ) → short_runs m done ≡ [] ∷ []
unfolding short_runs ways
listed_done zero = refl
listed_done (suc m) = refl

end_run : {w starts : List ℕ} {n : ℕ} (t : FunctionTable w starts n) (column : List ℕ) (x : Trail) (k m : ℕ) (f : Forms) → m ≡ 0 → f ≡ done →
    RunsFrom t column x k m (short_runs (64 - k) f)
unfolding RunsFrom
end_run t column x k m f e d = rw (e, d) (listed_done (64 - k))

-- At the end one run is left, without visits.
pub end_runs : {w starts : List ℕ} {n : ℕ} {t : FunctionTable w starts n} {column : List ℕ} {rests : List Rest} {here : ℕ} {f : Forms} (x : Trail) (k : ℕ) →
    here ≡ 0 → x.len ≡ k → Left t column rests here f → RunsFrom t column x k (x.len - k) (short_runs (64 - k) f)
end_runs {t = t} {column = column} {f = f} x k z e (none_left y d l) = end_run t column x k (x.len - k) f (omega arith) d
end_runs x k z e (some_left g h more early there lies left y l) = absurd (omega arith)

later_kept : {w starts : List ℕ} {n : ℕ} (t : FunctionTable w starts n) (column : List ℕ) (old new : List Rest) (k : ℕ) (o p : Option ℕ)
    (ws : List (List Block)) → ((j : ℕ) → j < first_rest (suc k) → numbered_rest new j ≡ numbered_rest old j) → p ≡ o → Later t column old k o ws →
    Later t column new k p ws
later_kept t column old new k None p ws same e l = rw e l
later_kept t column old new k (Some i) p ws same e (f, near, left, told, fits, runs) =
    rw e (f, near, left_kept t column old new (first_rest (suc k)) (omega arith) same i f near left, told, fits, runs)

-- One visit more in front.
pub runs_step : {w starts : List ℕ} {n : ℕ} (t : FunctionTable w starts n) (column : List ℕ) (x : Trail) (rests : List Rest) (k m leaf : ℕ) (o : Option ℕ)
    (us ws vs : List (List Block)) → ((j : ℕ) → j < first_rest (suc k) → numbered_rest x.rests j ≡ numbered_rest rests j) → get_or x.leaves k 0 ≡ leaf →
    get_or x.later k None ≡ o →
    leaf * 8 + 8 ≤ length w → RunsFrom t column x (suc k) m us → Later t column rests k o ws → vs ≡ in_front (block_at w leaf) (us ++ ws) →
    RunsFrom t column x k (suc m) vs
unfolding RunsFrom
runs_step {w} t column x rests k m leaf o us ws vs same e d room r l z =
    (us, ws, omega arith, r, later_kept t column rests x.rests k o (get_or x.later k None) ws same d l, rw e z)

-- THE WAY DOWN

-- The trail with its visit number k put down, and with what is left behind it.
abbrev pub visited : Trail → List Rest → ℕ → ℕ → Option ℕ → Trail
visited x rests k leaf later = record { len = x.len; leaves = set x.leaves k leaf; later = set x.later k later; rests = rests }

module _ {c : Code} {column : List ℕ} {old : Trail} {rests : List Rest} {x : Choice} {k here : ℕ} (r : CanDescend c column old k here)
    (h : Chooses c column old.rests rests here k x) (some : here ≡ 0 → ⊥) (room_leaves : length old.leaves ≡ 64) (room_later : length old.later ≡ 64) where
  abbrev leaf : ℕ
  leaf = (numbered_rest old.rests here).forms.from

  pub few : k < 64
  few = omega (arith, front_least (left_front (omega arith) r.left), r.fits)

  pub can_go_on : CanDescend c column (visited old rests k leaf x.later) (k + 1) x.go
  can_go_on =
      let s = h.splits r.table r.forms r.noted r.left r.told r.fits in
      record {
        table = r.table;
        noted = r.noted;
        forms = s.next;
        left = s.left;
        told = s.told;
        early = omega (arith, h.near);
        few = omega (arith, few);
        fits = omega (arith, s.fits);
      }

  module _ (new : Trail) (d : Descends c column (visited old rests k leaf x.later) new (k + 1) x.go) where
    leaf_is : get_or new.leaves k 0 ≡ leaf
    leaf_is = d.leaves k (omega arith) ∙ get_or-set_same old.leaves k leaf 0 (omega (arith, few))

    later_is : get_or new.later k None ≡ x.later
    later_is = d.later k (omega arith) ∙ get_or-set_same old.later k x.later None (omega (arith, few))

    runs_on : (t : CodeTable c) (f : Forms) → TableLeasts t column → Left t column old.rests here f → NumbersTell f → least f ≤ 64 - k →
        RunsFrom t column new k (new.len - k) (short_runs (64 - k) f)
    runs_on t f noted left told fits =
        let s = h.splits t f noted left told fits in
        let e : 64 - suc k ≡ 63 - k = omega arith in
        let z : new.len - k ≡ suc (new.len - suc k) = omega (arith, d.more) in
        let q : k + 1 ≡ suc k = omega arith in
        let y = left_front (omega arith) left in
        let u = d.runs t s.next noted s.left s.told (omega (arith, s.fits)) in
        rw z (runs_step t column new rests k (new.len - suc k) leaf x.later (short_runs (64 - suc k) s.next) s.later_runs (short_runs (64 - k) f)
        (λ j i. d.rests j (omega arith)) leaf_is later_is (in_row y.lies y.there).0 (rw q at u) s.later (rw e s.runs))

    pub descends : Descends c column old new k here
    descends =
        record {
          runs = runs_on;
          more = omega (arith, d.more);
          short = d.short;
          room = d.room ∙ length-set old.leaves k leaf;
          leaves = λ j i. d.leaves j (omega arith) ∙ get_or-set_other old.leaves k j leaf 0 (λ e. omega arith);
          later = λ j i. d.later j (omega arith) ∙ get_or-set_other old.later k j x.later None (λ e. omega arith);
          rests = λ j i. d.rests j (omega arith) ∙ h.others j i;
        }
