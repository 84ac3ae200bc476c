-- A state's stack and the place of the controller over places: the levels that a stack decodes to are moved by the next report as that place is.
use mathlib.Core.Bool.{Bool, true, false, ◌&&◌}
use mathlib.Core.List.{List, [], ◌∷◌, ◌++◌}
use mathlib.Core.Option.{some}
use mathlib.Core.Path.{◌≡◌, refl, ap, sym, ◌∙◌, subst}
use Prim.Native.Nat.{ℕ, ◌-◌, ◌≤◌}
use native.Mathlib.Omega.{arith}
use lib.ListN.{length, take, drop, length-append, length-take}
use Rattle.model.specs.Plan.{Plan, all_leaves}
use Rattle.model.specs.Forms.{Forms, done, leaf, call, loop, cond, main}
use Rattle.model.specs.Levels.{Standing, so_far, history, Frame, framed, stacked, stack}
use Rattle.model.specs.Acceptance.{Accepted}
use Rattle.model.specs.Places.{seek, locate}
use Rattle.model.specs.Stack.{Levels, below, whole, seek_at, onward_at, flat, decode}
use Rattle.model.specs.Controller.{is_point}
use Rattle.model.proofs.Steps.{Step, past, into, out, first, ⊕-done}
use Rattle.model.proofs.Links.{accepted_traceable}
use Rattle.model.proofs.Histories.{leads_reported, locate_first}
use Rattle.model.proofs.Blocks.{is_point_of, point_of_is}
use Rattle.model.proofs.Heights.{levels_low}
use Rattle.model.proofs.Standing.{standing_of}
use Rattle.model.proofs.Levels.{flat_seek}
use Rattle.model.proofs.Trails.{locate_at, locate_snoc, locate_flat}
use Rattle.model.proofs.OneStack.{Named, placed_named, decode_one, decode_more, decode_length, first_stands, onward_stands}
use Rattle.model.proofs.Decoded.{known_plan}
use Rattle.model.proofs.Points.{AllPoints, standing_points}
use Rattle.model.proofs.Reachable.{stack_stands}
use Rattle.model.proofs.Nexts.{Top}
use Rattle.control.specs.State.{points?}
use Rattle.control.proofs.Moving.{first_stack, first_number, later_stack, last_number}

-- Frames of points, as a test.
both_true : (a b : Bool) → (a && b) ≡ true → (a ≡ true) × (b ≡ true)
both_true true b e = (refl, e)
both_true false b e = absurd (let z : ◌≡◌ {A = ℕ} 0 1 = cc in omega arith)

pub points_all : (p : Plan) (ss : List Frame) → points? p ss ≡ true → AllPoints p ss
unfolding points? AllPoints
points_all p [] e = tt
points_all p (s ∷ ss) e = let (a, b) = both_true (is_point (all_leaves p.functions) s.leaf) (points? p ss) e in (is_point_of p s.leaf a, points_all p ss b)

pub all_points : (p : Plan) (ss : List Frame) → AllPoints p ss → points? p ss ≡ true
unfolding points? AllPoints
all_points p [] a = refl
all_points p (s ∷ ss) (a, b) = rw (point_of_is p s.leaf a, all_points p ss b)

-- What a stack decodes to opens with a visit.
named_step : (g : Forms) (n : ℕ) → Named g n → Step g
unfolding Named
named_step done n e = absurd e
named_step (leaf b rest) n e = past
named_step (call b fun rest) n e = into
named_step (loop b m body rest) n e = out
named_step (cond b then else rest) n e = first

pub decode_top : (f : Forms) (ks : Levels) (ss : List Frame) (ls : Levels) → decode f ks ss ≡ some ls → Top ls
unfolding decode
decode_top f ks [] ls e = absurd (let z : ◌≡◌ {A = ℕ} 0 1 = cc in omega arith)
decode_top f ks (s ∷ []) ls e = let (g, a, b) = decode_one f ks s ls e in (g, ks, b, named_step g s.leaf (placed_named f s g a))
decode_top f ks (s ∷ t ∷ ss) ls e = let (g, x, a, b, d) = decode_more f ks s t ss ls e in decode_top x (g ∷ ks) (t ∷ ss) ls d

-- THE NEXT REPORT

-- The frames after the report of n at level l.
abbrev pub moved : List Frame → ℕ → ℕ → List Frame
moved ss n l = take (l - 1) ss ++ (framed n (drop (l - 1) ss) ∷ [])

pub record Moved (p : Plan) (ss : List Frame) (n : ℕ) (ls : Levels) : Type 0 where
  pub decoded : decode (main p) [] (moved ss n (length ls)) ≡ some ls
  pub points : points? p (moved ss n (length ls)) ≡ true
  pub low : 1 ≤ length ls
  pub high : length ls ≤ 32
  pub fits : length ls - 1 ≤ length ss

moved_fits : (p : Plan) (ss : List Frame) (n : ℕ) (ls : Levels) → decode (main p) [] (moved ss n (length ls)) ≡ some ls → length ls - 1 ≤ length ss
moved_fits p ss n ls d =
    let k = length ls in
    omega (arith, decode_length (main p) [] (moved ss n k) ls d, length-append (take (k - 1) ss) (framed n (drop (k - 1) ss) ∷ []), length-take (k - 1) ss)

-- From a run that stands a report later.
standing_moved : (p : Plan) → Accepted p → (ss : List Frame) (n : ℕ) (ls : Levels) (t : Standing (main p)) →
    stack [] (so_far t) ≡ stacked true t.last ss → t.last.block.number ≡ n → decode (main p) [] (stack [] (so_far t)) ≡ some ls → length ls ≡ t.last.level → Moved p ss n ls
standing_moved p a ss n ls t e q d l =
    let z : stack [] (so_far t) ≡ moved ss n (length ls) = e ∙ rw (q, ← l) in
    let (low, high) = levels_low p a.formed t.run t.last (t.before, t.behind, t.split) in
    let d' : decode (main p) [] (moved ss n (length ls)) ≡ some ls = rw z at d in
    record {
      decoded = d';
      points = subst (λ x. points? p x ≡ true) z (all_points p (stack [] (so_far t)) (standing_points p t));
      low = omega arith;
      high = omega arith;
      fits = moved_fits p ss n ls d';
    }

-- At the first report.
pub first_moved : (p : Plan) → Accepted p → (n : ℕ) (ls : Levels) → seek_at (main p) [] n ≡ some ls → Moved p [] n ls
unfolding below
first_moved p a n ls e =
    let f : seek (main p) n ≡ some (whole ls) = ap (λ g. seek g n) (sym (⊕-done (main p))) ∙ (sym (flat_seek (main p) [] n) ∙ ap flat e) in
    let r = (leads_reported (main p) (n ∷ []) (accepted_traceable p a)).0 (whole ls, locate_first (main p) n ∙ f) in
    let (t, h) = standing_of p (n ∷ []) r in
    let k = known_plan p a t in
    let c : seek_at (main p) [] n ≡ some k.ls = first_stands p a t n h k.ls k.decoded in
    let z : some k.ls ≡ some ls = sym c ∙ e in
    let y : k.ls ≡ ls = cc in
    standing_moved p a [] n ls t (first_stack t n h) (first_number t n h) (k.decoded ∙ z) (sym (ap length y) ∙ k.depth)

-- At a report behind a stack of points that decodes.
pub next_moved : (p : Plan) → Accepted p → (ss : List Frame) (ls : Levels) → decode (main p) [] ss ≡ some ls → points? p ss ≡ true → (n : ℕ) (ls' : Levels) →
    onward_at ls n ≡ some ls' → Moved p ss n ls'
unfolding below
next_moved p a ss ls d q n ls' e =
    let (s, i) = stack_stands p a ss ls d (points_all p ss q) in
    let k = known_plan p a s in
    let ds : decode (main p) [] (stack [] (so_far s)) ≡ some ls = rw (← i) at d in
    let z : some k.ls ≡ some ls = sym k.decoded ∙ ds in
    let y : k.ls ≡ ls = cc in
    let l : locate_at (main p) [] (history s) ≡ some ls = k.located ∙ z in
    let l' : locate_at (main p) [] (history s ++ (n ∷ [])) ≡ some ls' = locate_snoc (main p) [] (history s) ls n l ∙ e in
    let f : locate (main p) (history s ++ (n ∷ [])) ≡ some (whole ls') =
    ap (λ g. locate g (history s ++ (n ∷ []))) (sym (⊕-done (main p))) ∙ locate_flat (main p) [] (history s ++ (n ∷ [])) ls' l' in
    let (t, h) = standing_of p (history s ++ (n ∷ [])) ((leads_reported (main p) (history s ++ (n ∷ [])) (accepted_traceable p a)).0 (whole ls', f)) in
    let kt = known_plan p a t in
    let c : onward_at ls n ≡ some kt.ls = onward_stands p a s t n h ls kt.ls ds kt.decoded in
    let x : some kt.ls ≡ some ls' = sym c ∙ e in
    let w : kt.ls ≡ ls' = cc in
    standing_moved p a ss n ls' t (later_stack p a s t n h ∙ ap (λ v. stacked true t.last v) i) (last_number s t n h) (kt.decoded ∙ x) (sym (ap length w) ∙ kt.depth)
