-- The way that opens with the lower leaf number is taken, if a run on it ends within 64 visits, and the other one is kept for a later run, if one on it does
-- too.
use Rattle.std.specs.Prelude.{true, false, ◌≡◌, ◌-◌, ◌≤◌, ◌<◌}
use Rattle.std.proofs.Common.{sym, ◌∙◌, arith, inl, inr}
use lib.Dec.{eqb}
use mathlib.Core.Bool.{not}
use borrow.Author.Tests.{eq-eqb, leb-true, leb-false}
use Rattle.short_runs.specs.Listing.{ways as ways_of, on_way}
use Rattle.trail.specs.Trails.{first_rest, numbered_rest}
use Rattle.trail.specs.Private.{ForkedOn}
use Rattle.trail.proofs.Choosing.{both, can_open, ways_down, goes_round, one_way, splits_one}
use Rattle.trail.proofs.Choosing.{chooses_high, chooses_both, chooses_low}
use Rattle.trail.proofs.Resting.{left_front, left_kept}
use Rattle.trail.proofs.choose.Goals as goal
use Rattle.trail.proofs.choose.Goals.{then-b-a, else-b-a, then-a-b, else-a-b, then-fits, else-fits}
use Rattle.trail.proofs.choose.Goals.{else-fits-2-via-then-fits-2+else-keep, else-fits-2-via-else-fits-2}

pub behind-one-requires : goal.behind-one-requires
behind-one-requires c =
    let r = c.requires in
    record {
      table = r.table;
      noted = r.noted;
      forms = r.forms;
      left = r.left;
      some = r.some;
      early = r.early;
      few = omega (arith, r.few);
      round = λ e. absurd (cc);
    }

pub forked-requires : goal.forked-requires
forked-requires c =
    let r = c.requires in
    let o = left_front r.some r.left in
    record { table = r.table; column = c.args.leasts.now; forms = o.first; lies = o.lies; there = o.there }

pub returns-then-not-forked : goal.returns-then-not-forked
returns-then-not-forked c =
    let r = c.requires in
    let a = c.args in
    let x = c.behind-one in
    let h : ForkedOn a.code.now (numbered_rest a.rests.now a.here).forms false = rw c.if-not-forked.true at c.forked.ensures in
    record {
      splits = λ t f noted left told fits.
          splits_one t a.leasts.now a.rests.now x.new.rests a.here a.k f r.few told fits x.result (on_way false (ways_of f))
          (one_way a.code.now t (left_front r.some left) h) (x.ensures.left t f noted left);
      near = omega (arith, x.ensures.near);
      others = x.ensures.others;
    }

pub behind-other-requires : goal.behind-other-requires
behind-other-requires c =
    let r = c.requires in
    let a = c.args in
    let x = c.behind-one in
    let h : ForkedOn a.code.now (numbered_rest a.rests.now a.here).forms true = rw c.if-not-forked.false at c.forked.ensures in
    record {
      table = r.table;
      noted = r.noted;
      forms = r.forms;
      left = left_kept r.table a.leasts.now a.rests.now x.new.rests (first_rest a.k) (omega arith) x.ensures.others a.here r.forms r.early r.left;
      some = r.some;
      early = omega (arith, r.early);
      few = omega (arith, r.few);
      round = λ e. let same = x.ensures.others a.here r.early in rw same (goes_round a.code.now r.table (left_front r.some r.left) h);
    }

pub next_leaf-b-requires : goal.next_leaf-b-requires
next_leaf-b-requires c =
    let r = c.requires in
    let y = c.behind-other.ensures in
    let (first, second) = ways_down c.args.k c.behind-one.ensures y r.early r.table r.forms r.noted r.left in
    can_open second (omega (arith, y.near, r.few)) (omega (arith, c.told-leasts))

pub next_leaf-a-requires : goal.next_leaf-a-requires
next_leaf-a-requires c =
    let r = c.requires in
    let x = c.behind-one.ensures in
    let (first, second) = ways_down c.args.k x c.behind-other.ensures r.early r.table r.forms r.noted r.left in
    can_open first (omega (arith, x.near, r.few)) (omega (arith, c.told-leasts))

pub returns-then-keep : goal.returns-then-keep
returns-then-keep c =
    let high = (numbered_rest c.behind-other.new.rests c.if-b-a.low.1).least in
    let ways = both c.args.k c.if-b-a.low c.behind-one.ensures c.behind-other.ensures c.forked.result c.if-not-forked.false c.forked.ensures
    c.next_leaf-a.result c.next_leaf-a.ensures c.next_leaf-b.result c.next_leaf-b.ensures
    (elim c.if-b-a.branch [ then-b-a w ↦ inl (w.if-b-a.true, w.low-is) | else-b-a w ↦ inr (w.if-b-a.false, w.low-is) ]) in
    let (d, m) = elim c.if-a-b.branch as (λ _. (c.next_leaf-a.result ≡ c.next_leaf-b.result → ⊥) × (high ≤ 63 - c.args.k)) [
      | then-a-b w ↦ (w.if-a-b.true, leb-true high (63 - c.args.k) (sym w.keep-is ∙ c.if-keep.true))
      | else-a-b w ↦
          let e : eqb c.next_leaf-a.result c.next_leaf-b.result ≡ true = eq-eqb c.next_leaf-a.result c.next_leaf-b.result w.if-a-b.false in
          let z : true ≡ not (eqb c.next_leaf-a.result c.next_leaf-b.result) = sym c.if-keep.true ∙ w.keep-is in
          absurd (let f : true ≡ false = rw e at z in cc)
    ] in
    let g : c.if-fits.result ≡ c.if-b-a.low.0 = elim c.if-fits.branch [
      | then-fits w ↦ w.result-is
      | else-fits w ↦ absurd (omega (arith, w.if-fits.false, c.if-fits-2.true))
    ] in
    rw g (chooses_both ways c.requires (omega (arith, c.if-fits-2.true)) d m)

pub returns-else-fits-2 : goal.returns-else-fits-2
returns-else-fits-2 c =
    let high = (numbered_rest c.behind-other.new.rests c.if-b-a.low.1).least in
    let ways = both c.args.k c.if-b-a.low c.behind-one.ensures c.behind-other.ensures c.forked.result c.if-not-forked.false c.forked.ensures
    c.next_leaf-a.result c.next_leaf-a.ensures c.next_leaf-b.result c.next_leaf-b.ensures
    (elim c.if-b-a.branch [ then-b-a w ↦ inl (w.if-b-a.true, w.low-is) | else-b-a w ↦ inr (w.if-b-a.false, w.low-is) ]) in
    elim c.if-fits.branch [
      | then-fits w ↦
          let none : c.if-a-b.keep ≡ false = elim c.else-fits-2.branch [
            | else-fits-2-via-then-fits-2+else-keep v ↦ v.if-keep.false
            | else-fits-2-via-else-fits-2 v ↦ absurd (omega (arith, w.if-fits.true, v.if-fits-2.false))
          ] in
          let late = elim c.if-a-b.branch as (λ _. (c.next_leaf-a.result ≡ c.next_leaf-b.result → ⊥) → 63 - c.args.k < high) [
            | then-a-b v ↦ λ u. leb-false high (63 - c.args.k) (sym v.keep-is ∙ none)
            | else-a-b v ↦ λ u. absurd (u v.if-a-b.false)
          ] in
          rw w.result-is (chooses_low ways c.requires (omega (arith, w.if-fits.true)) late)
      | else-fits w ↦ rw w.result-is (chooses_high ways c.requires (omega (arith, w.if-fits.false)))
    ]
