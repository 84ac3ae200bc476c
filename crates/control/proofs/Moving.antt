-- The stack after the next report: a run that stands at the state's stack, and one that stands a report later, tell that the frames which the next
-- state holds decode to the levels which are found next.
use mathlib.Core.Bool.{Bool, true, false}
use mathlib.Core.List.{List, [], ◌∷◌, ◌++◌, append_assoc}
use mathlib.Core.Path.{◌≡◌, refl, ap, sym, ◌∙◌, subst}
use Prim.Native.Nat.{ℕ}
use native.Mathlib.Omega.{arith}
use Rattle.model.specs.Plan.{Plan}
use Rattle.model.specs.Forms.{Forms, main}
use Rattle.model.specs.Runs.{reports, noted}
use Rattle.model.specs.Levels.{Leveled, blocks, Standing, so_far, history, Frame, stacked, stack}
use Rattle.model.specs.Acceptance.{Accepted}
use Rattle.model.proofs.Places.{reports_append}
use Rattle.model.proofs.OneStack.{same_stack}

-- LISTS

no_last : {A : Type 0} (x : A) (u : List A) → ◌≡◌ {A = List A} [] (x ∷ u) → {B : Type 0} → B
no_last x u e = absurd (let z : ◌≡◌ {A = ℕ} 0 1 = cc in omega arith)

-- Two lists with a last member are the same only if their ends are.
same_end : (u v : List ℕ) (m n : ℕ) → u ++ (m ∷ []) ≡ v ++ (n ∷ []) → (u ≡ v) × (m ≡ n)
same_end [] [] m n e = (refl, cc)
same_end [] (y ∷ []) m n e = let z : ◌≡◌ {A = List ℕ} [] (n ∷ []) = cc in no_last n [] z
same_end [] (y ∷ w ∷ v) m n e = let z : ◌≡◌ {A = List ℕ} [] (w ∷ (v ++ (n ∷ []))) = cc in no_last w (v ++ (n ∷ [])) z
same_end (x ∷ []) [] m n e = let z : ◌≡◌ {A = List ℕ} [] (m ∷ []) = cc in no_last m [] z
same_end (x ∷ w ∷ u) [] m n e = let z : ◌≡◌ {A = List ℕ} [] (w ∷ (u ++ (m ∷ []))) = cc in no_last w (u ++ (m ∷ [])) z
same_end (x ∷ u) (y ∷ v) m n e =
    let i : x ≡ y = cc in
    let j : u ++ (m ∷ []) ≡ v ++ (n ∷ []) = cc in
    let (a, b) = same_end u v m n j in
    (rw (i, a), b)

blocks_append : (u v : List Leveled) → blocks (u ++ v) ≡ blocks u ++ blocks v
blocks_append [] v = refl
blocks_append (x ∷ u) v = ap (λ w. x.block ∷ w) (blocks_append u v)

stack_append : (u v : List Leveled) (ss : List Frame) → stack ss (u ++ v) ≡ stack (stack ss u) v
unfolding stack
stack_append [] v ss = refl
stack_append (x ∷ u) v ss = stack_append u v (stacked x.block.point x ss)

-- Silent visits leave the stack.
stack_silent : (u : List Leveled) (ss : List Frame) → reports (blocks u) ≡ [] → stack ss u ≡ ss
unfolding stack reports
stack_silent [] ss e = refl
stack_silent (x ∷ u) ss e = by (λ q. stack_silent u ss q) x.block.point e
  where
    by : (reports (blocks u) ≡ [] → stack ss u ≡ ss) → (p : Bool) → noted p x.block.number (reports (blocks u)) ≡ [] → stack (stacked p x ss) u ≡ ss
    by f true e = absurd (let z : ◌≡◌ {A = ℕ} 0 1 = cc in omega arith)
    by f false e = f e

-- Visits with a report, split at the last one.
pub record LastReport (u : List Leveled) (h : List ℕ) : Type 0 where
  pub before : List Leveled
  pub last : Leveled
  pub behind : List Leveled
  pub split : u ≡ before ++ (last ∷ behind)
  pub point : last.block.point ≡ true
  pub reported : reports (blocks (before ++ (last ∷ []))) ≡ h
  pub silent : reports (blocks behind) ≡ []

later : (x : Leveled) (u : List Leveled) (h k : List ℕ) → noted x.block.point x.block.number h ≡ k → LastReport u h → LastReport (x ∷ u) k
unfolding reports
later x u h k e r =
    record {
      before = x ∷ r.before;
      last = r.last;
      behind = r.behind;
      split = ap (λ w. x ∷ w) r.split;
      point = r.point;
      reported = ap (noted x.block.point x.block.number) r.reported ∙ e;
      silent = r.silent;
    }

here : (x : Leveled) (u : List Leveled) (k : List ℕ) → x.block.point ≡ true → reports (blocks u) ≡ [] → noted x.block.point x.block.number (reports (blocks u)) ≡ k →
    LastReport (x ∷ u) k
unfolding reports
here x u k p z e =
    record {
      before = [];
      last = x;
      behind = u;
      split = refl;
      point = p;
      reported = ap (noted x.block.point x.block.number) (sym z) ∙ e;
      silent = z;
    }

last_report : (u : List Leveled) (n : ℕ) (h : List ℕ) → reports (blocks u) ≡ n ∷ h → LastReport u (n ∷ h)
unfolding reports
last_report [] n h e = no_last n h e
last_report (x ∷ u) n h e = by (λ m k z. last_report u m k z) (reports (blocks u)) refl x.block.point refl
  where
    by : ((m : ℕ) (k : List ℕ) → reports (blocks u) ≡ m ∷ k → LastReport u (m ∷ k)) → (k : List ℕ) → reports (blocks u) ≡ k → (p : Bool) → x.block.point ≡ p →
        LastReport (x ∷ u) (n ∷ h)
    by f [] z true p = here x u (n ∷ h) p z e
    by f [] z false p = no_last n h (sym z ∙ (sym (rw p) ∙ e))
    by f (m ∷ k) z q p = later x u (reports (blocks u)) (n ∷ h) e (subst (λ l. LastReport u l) (sym z) (f m k z))

-- THE STACK A REPORT LATER

-- The reports before the last one.
reports_point : (u : List Leveled) (x : Leveled) → x.block.point ≡ true → reports (blocks (u ++ (x ∷ []))) ≡ reports (blocks u) ++ (x.block.number ∷ [])
unfolding reports
reports_point u x p = ap reports (blocks_append u (x ∷ [])) ∙ (reports_append (blocks u) (x.block ∷ []) ∙ rw p)

history_last : {fs : Forms} (t : Standing fs) (h : List ℕ) (n : ℕ) → history t ≡ h ++ (n ∷ []) → (reports (blocks t.before) ≡ h) × (t.last.block.number ≡ n)
history_last t h n e = same_end (reports (blocks t.before)) h t.last.block.number n (sym (reports_point t.before t.last t.point) ∙ e)

stack_last : {fs : Forms} (t : Standing fs) → stack [] (so_far t) ≡ stacked true t.last (stack [] t.before)
unfolding stack
stack_last t = stack_append t.before (t.last ∷ []) [] ∙ ap (λ q. stacked q t.last (stack [] t.before)) t.point

-- A run that stands at a first report has the one frame of it.
pub first_stack : {fs : Forms} (t : Standing fs) (n : ℕ) → history t ≡ n ∷ [] → stack [] (so_far t) ≡ stacked true t.last []
first_stack t n e = stack_last t ∙ ap (λ ss. stacked true t.last ss) (stack_silent t.before [] (history_last t [] n e).0)

-- A run that stands at a report stood, at the report before, at a stack that the report moves.
previous : {fs : Forms} (t : Standing fs) (m : ℕ) (h : List ℕ) → reports (blocks t.before) ≡ m ∷ h →
    (s : Standing fs) × (history s ≡ m ∷ h) × (stack [] t.before ≡ stack [] (so_far s))
previous t m h e =
    let r = last_report t.before m h e in (
      record {
        run = t.run;
        before = r.before;
        last = r.last;
        behind = r.behind ++ (t.last ∷ t.behind);
        split = t.split ∙ (ap (λ w. w ++ (t.last ∷ t.behind)) r.split ∙ append_assoc r.before (r.last ∷ r.behind) (t.last ∷ t.behind));
        point = r.point;
      },
      r.reported,
      ap (stack []) (r.split ∙ sym (append_assoc r.before (r.last ∷ []) r.behind)) ∙
          (stack_append (r.before ++ (r.last ∷ [])) r.behind [] ∙ stack_silent r.behind (stack [] (r.before ++ (r.last ∷ []))) r.silent),
    )

next_stack : (p : Plan) → Accepted p → (s t : Standing (main p)) (m : ℕ) (h : List ℕ) (n : ℕ) → history s ≡ m ∷ h → history t ≡ (m ∷ h) ++ (n ∷ []) →
    stack [] (so_far t) ≡ stacked true t.last (stack [] (so_far s))
next_stack p a s t m h n e f =
    let (r, i, j) = previous t m h (history_last t (m ∷ h) n f).0 in
    stack_last t ∙ ap (λ ss. stacked true t.last ss) (j ∙ same_stack p a r s (i ∙ sym e))

-- A history of a standing run has a last report, so it is not empty.
some_history : {fs : Forms} (s : Standing fs) → (m : ℕ) × (h : List ℕ) × (history s ≡ m ∷ h)
some_history s = by (reports (blocks s.before)) (reports_point s.before s.last s.point)
  where
    by : (u : List ℕ) → history s ≡ u ++ (s.last.block.number ∷ []) → (m : ℕ) × (h : List ℕ) × (history s ≡ m ∷ h)
    by [] e = (s.last.block.number, [], e)
    by (x ∷ u) e = (x, u ++ (s.last.block.number ∷ []), e)

-- The stack a report later is the one before, moved by that report.
pub later_stack : (p : Plan) → Accepted p → (s t : Standing (main p)) (n : ℕ) → history t ≡ history s ++ (n ∷ []) →
    stack [] (so_far t) ≡ stacked true t.last (stack [] (so_far s))
later_stack p a s t n e = let (m, h, q) = some_history s in next_stack p a s t m h n q (e ∙ ap (λ u. u ++ (n ∷ [])) q)

-- The last report is of the point that was added.
pub first_number : {fs : Forms} (t : Standing fs) (n : ℕ) → history t ≡ n ∷ [] → t.last.block.number ≡ n
first_number t n e = (history_last t [] n e).1

pub last_number : {fs : Forms} (s t : Standing fs) (n : ℕ) → history t ≡ history s ++ (n ∷ []) → t.last.block.number ≡ n
last_number s t n e = (history_last t (history s) n e).1
