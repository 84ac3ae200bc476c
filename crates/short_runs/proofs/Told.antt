-- Every visit of a run of an accepted plan tells the place behind it: where there is a choice, the two ways open with different leaves, or one of
-- them is at its end and the other not, or they are the same.
use mathlib.Core.List.{List, [], ◌∷◌, ◌++◌}
use mathlib.Core.Logic.{◌⊎◌, inl, inr}
use mathlib.Core.Path.{◌≡◌, refl, ap, sym, ◌∙◌}
use Prim.Native.Nat.{ℕ, zero, suc, ◌≤◌, ◌<◌}
use native.Mathlib.Omega.{arith}
use lib.ListN.{get_or}
use Rattle.model.specs.Plan.{Block, Lines, close, leaf_line, call_line, loop_line, if_line, Plan}
use Rattle.model.specs.Forms.{Forms, done, leaf, call, loop, cond, forms, linked, main, ◌⊕◌}
use Rattle.model.specs.Acceptance.{Accepted}
use Rattle.model.proofs.Links.{Spans, SpansAll, push, at_last, plan_spans}
use Rattle.short_runs.specs.Listing.{Ways, at_end, one, two, ways, next_leaf}
use Rattle.short_runs.specs.Told.{Holds, Unlike, Apart, NumbersTell}

-- BEHIND A VISIT

unlike-⊕ : (n : ℕ) (f g : Forms) → Unlike n f → Unlike n g → Unlike n (f ⊕ g)
unfolding next_leaf ◌⊕◌
unlike-⊕ n done g x y = y
unlike-⊕ n (leaf b rest) g x y = x
unlike-⊕ n (call b fun rest) g x y = x
unlike-⊕ n (loop b m body rest) g x y = x
unlike-⊕ n (cond b then else rest) g x y = x

apart-⊕ : (x f g : Forms) → Apart x f → Apart x g → Apart x (f ⊕ g)
apart-⊕ x f g p q n h = unlike-⊕ n f g (p n h) (q n h)

told-⊕ : (f g : Forms) → NumbersTell f → NumbersTell g → Apart f g → NumbersTell (f ⊕ g)
unfolding NumbersTell Holds ◌⊕◌
told-⊕ done g x y a = y
told-⊕ (leaf b rest) g x y a = told-⊕ rest g x y (λ n h. a n (inr h))
told-⊕ (call b fun rest) g x y a =
    (apart-⊕ fun rest g (x.0) (λ n h. a n (inr (inl h))), x.1, told-⊕ rest g (x.2) y (λ n h. a n (inr (inr h))))
told-⊕ (loop b m body rest) g x y a = (
  apart-⊕ body rest g (x.0) (λ n h. a n (inr (inl h))),
  unlike-⊕ (b.number) rest g (x.1) (a (b.number) (inl refl)),
  x.2,
  x.3,
  told-⊕ rest g (x.4) y (λ n h. a n (inr (inr h))),
)
told-⊕ (cond b then else rest) g x y a = (
  x.0,
  apart-⊕ then rest g (x.1) (λ n h. a n (inr (inl h))),
  apart-⊕ else rest g (x.2) (λ n h. a n (inr (inr (inl h)))),
  x.3,
  x.4,
  told-⊕ rest g (x.5) y (λ n h. a n (inr (inr (inr h)))),
)

-- Forms are at their end, or open with a leaf of theirs.
abbrev Opens : Forms → Type 0
Opens f = (n : ℕ) × Holds n f × (next_leaf f ≡ suc n) × ((g : Forms) → next_leaf (f ⊕ g) ≡ suc n)

opens : (f : Forms) → (f ≡ done) ⊎ Opens f
unfolding Holds next_leaf ◌⊕◌
opens done = inl refl
opens (leaf b rest) = inr (b.number, inl refl, refl, λ g. refl)
opens (call b fun rest) = inr (b.number, inl refl, refl, λ g. refl)
opens (loop b m body rest) = inr (b.number, inl refl, refl, λ g. refl)
opens (cond b then else rest) = inr (b.number, inl refl, refl, λ g. refl)

done-⊕ : (f g : Forms) → f ≡ done → f ⊕ g ≡ g
unfolding ◌⊕◌
done-⊕ f g e = rw e

same_parts : (f g rest : Forms) → Apart f g → Apart f rest → Apart g rest → next_leaf (f ⊕ rest) ≡ next_leaf (g ⊕ rest) → f ⊕ rest ≡ g ⊕ rest
same_parts f g rest a p q e = by (opens f) (opens g)
  where
    by : (f ≡ done) ⊎ Opens f → (g ≡ done) ⊎ Opens g → f ⊕ rest ≡ g ⊕ rest
    by (inl i) (inl j) = done-⊕ f rest i ∙ sym (done-⊕ g rest j)
    by (inl i) (inr (n, h, o, k)) = absurd (q n h (ap next_leaf (sym (done-⊕ f rest i)) ∙ (e ∙ k rest)))
    by (inr (n, h, o, k)) (inl j) = absurd (p n h (ap next_leaf (sym (done-⊕ g rest j)) ∙ (sym e ∙ k rest)))
    by (inr (n, h, o, k)) (inr (m, i, r, l)) = absurd (a n h (r ∙ (sym (l rest) ∙ (sym e ∙ k rest))))

never_round : (b : Block) (n : ℕ) (body rest : Forms) → Apart body rest → Unlike (b.number) rest → ¬ (next_leaf rest ≡ next_leaf (body ⊕ loop b n body rest))
unfolding next_leaf
never_round b n body rest a u e = by (opens body)
  where
    by : (body ≡ done) ⊎ Opens body → ⊥
    by (inl i) = u (e ∙ ap next_leaf (done-⊕ body (loop b n body rest) i))
    by (inr (m, h, o, k)) = a m h (e ∙ k (loop b n body rest))

-- What is left behind a visit is told too.
unfoldable pub WaysTell : Ways → Type 0
WaysTell at_end = Unit
WaysTell (one b f) = NumbersTell f
WaysTell (two b f g) = NumbersTell f × NumbersTell g × (next_leaf f ≡ next_leaf g → f ≡ g)

pub told_ways : (fs : Forms) → NumbersTell fs → WaysTell (ways fs)
unfolding NumbersTell WaysTell ways next_leaf
told_ways done x = tt
told_ways (leaf b rest) x = x
told_ways (call b fun rest) x = told-⊕ fun rest (x.1) (x.2) (x.0)
told_ways (loop b zero body rest) x = x.4
told_ways (loop b (suc n) body rest) x = (
  x.4,
  told-⊕ body (loop b n body rest) (x.3) x (λ m h e. x.2 (let d : m ≡ b.number = omega arith in rw d at h)),
  λ e. absurd (never_round b n body rest (x.0) (x.1) e),
)
told_ways (cond b then else rest) x =
    (told-⊕ then rest (x.3) (x.5) (x.1), told-⊕ else rest (x.4) (x.5) (x.2), same_parts then else rest (x.0) (x.1) (x.2))

-- FROM THE NUMBERING

module _ (fs : List Forms) (base : ℕ) (early : (f n : ℕ) → Holds n (get_or fs f done) → n < base) where
  grows : (l : Lines) (lo hi : ℕ) → Spans l lo hi → lo ≤ hi
  unfolding Spans
  grows close lo hi h = omega arith
  grows (leaf_line b rest) lo hi (e, h) = omega (arith, grows rest (suc lo) hi h)
  grows (call_line b f rest) lo hi (e, h) = omega (arith, grows rest (suc lo) hi h)
  grows (loop_line b n body rest) lo hi (e, (m, h, i)) = omega (arith, grows body (suc lo) m h, grows rest m hi i)
  grows (if_line b then else rest) lo hi (e, (m, k, h, i, j)) = omega (arith, grows then (suc lo) m h, grows else m k i, grows rest k hi j)

  -- Lines open with their lowest number.
  opens_low : (l : Lines) (lo hi n : ℕ) → Spans l lo hi → next_leaf (forms fs l) ≡ suc n → n ≡ lo
  unfolding Spans next_leaf forms
  opens_low close lo hi n h e = absurd (omega arith)
  opens_low (leaf_line b rest) lo hi n (q, h) e = omega arith
  opens_low (call_line b f rest) lo hi n (q, h) e = omega arith
  opens_low (loop_line b m body rest) lo hi n (q, h) e = omega arith
  opens_low (if_line b then else rest) lo hi n (q, h) e = omega arith

  -- Their numbers, and those of earlier functions, are below hi; none of an earlier function is from base on.
  abbrev Ranged : ℕ → ℕ → ℕ → Type 0
  Ranged lo hi n = (n < base) ⊎ ((lo ≤ n) × (n < hi))

  wider : (lo lo' hi' hi n : ℕ) → lo ≤ lo' → hi' ≤ hi → Ranged lo' hi' n → Ranged lo hi n
  wider lo lo' hi' hi n a b (inl h) = inl h
  wider lo lo' hi' hi n a b (inr h) = inr (omega arith)

  holds_range : (l : Lines) (lo hi n : ℕ) → Spans l lo hi → Holds n (forms fs l) → Ranged lo hi n
  unfolding Spans Holds forms
  holds_range close lo hi n h u = absurd u
  holds_range (leaf_line b rest) lo hi n (e, h) (inl u) = inr (omega (arith, grows rest (suc lo) hi h))
  holds_range (leaf_line b rest) lo hi n (e, h) (inr u) = wider lo (suc lo) hi hi n (omega arith) (omega arith) (holds_range rest (suc lo) hi n h u)
  holds_range (call_line b f rest) lo hi n (e, h) (inl u) = inr (omega (arith, grows rest (suc lo) hi h))
  holds_range (call_line b f rest) lo hi n (e, h) (inr (inl u)) = inl (early f n u)
  holds_range (call_line b f rest) lo hi n (e, h) (inr (inr u)) = wider lo (suc lo) hi hi n (omega arith) (omega arith) (holds_range rest (suc lo) hi n h u)
  holds_range (loop_line b m body rest) lo hi n (e, (k, h, i)) (inl u) = inr (omega (arith, grows body (suc lo) k h, grows rest k hi i))
  holds_range (loop_line b m body rest) lo hi n (e, (k, h, i)) (inr (inl u)) =
      wider lo (suc lo) k hi n (omega arith) (omega (arith, grows rest k hi i)) (holds_range body (suc lo) k n h u)
  holds_range (loop_line b m body rest) lo hi n (e, (k, h, i)) (inr (inr u)) =
      wider lo k hi hi n (omega (arith, grows body (suc lo) k h)) (omega arith) (holds_range rest k hi n i u)
  holds_range (if_line b then else rest) lo hi n (e, (m, k, h, i, j)) (inl u) =
      inr (omega (arith, grows then (suc lo) m h, grows else m k i, grows rest k hi j))
  holds_range (if_line b then else rest) lo hi n (e, (m, k, h, i, j)) (inr (inl u)) =
      wider lo (suc lo) m hi n (omega arith) (omega (arith, grows else m k i, grows rest k hi j)) (holds_range then (suc lo) m n h u)
  holds_range (if_line b then else rest) lo hi n (e, (m, k, h, i, j)) (inr (inr (inl u))) =
      wider lo m k hi n (omega (arith, grows then (suc lo) m h)) (omega (arith, grows rest k hi j)) (holds_range else m k n i u)
  holds_range (if_line b then else rest) lo hi n (e, (m, k, h, i, j)) (inr (inr (inr u))) =
      wider lo k hi hi n (omega (arith, grows then (suc lo) m h, grows else m k i)) (omega arith) (holds_range rest k hi n j u)

  under : (lo hi n : ℕ) → base ≤ hi → Ranged lo hi n → n < hi
  under lo hi n b (inl h) = omega arith
  under lo hi n b (inr h) = omega arith

  -- What is numbered below lo does not open lines that are numbered from there.
  unlike_low : (l : Lines) (lo hi n : ℕ) → Spans l lo hi → n < lo → Unlike n (forms fs l)
  unlike_low l lo hi n h u e = omega (arith, opens_low l lo hi n h e)

  apart_lines : (l k : Lines) (lo hi lo' hi' : ℕ) → base ≤ hi → hi ≤ lo' → Spans l lo hi → Spans k lo' hi' → Apart (forms fs l) (forms fs k)
  apart_lines l k lo hi lo' hi' b q h i n u = unlike_low k lo' hi' n i (omega (arith, under lo hi n b (holds_range l lo hi n h u)))

  not_outside : (lo hi n : ℕ) → base ≤ n → n < lo → ¬ Ranged lo hi n
  not_outside lo hi n b u (inl h) = omega arith
  not_outside lo hi n b u (inr h) = omega arith

  told_forms : ((f : ℕ) → NumbersTell (get_or fs f done)) → (l : Lines) (lo hi : ℕ) → base ≤ lo → Spans l lo hi → NumbersTell (forms fs l)
  unfolding NumbersTell Spans forms
  told_forms t close lo hi b h = tt
  told_forms t (leaf_line x rest) lo hi b (q, h) = told_forms t rest (suc lo) hi (omega arith) h
  told_forms t (call_line x f rest) lo hi b (q, h) =
      ((λ n u. unlike_low rest (suc lo) hi n h (omega (arith, early f n u))), t f, told_forms t rest (suc lo) hi (omega arith) h)
  told_forms t (loop_line x m body rest) lo hi b (q, (c, h, i)) =
      let g : suc lo ≤ c = grows body (suc lo) c h in (
        apart_lines body rest (suc lo) c c hi (omega arith) (omega arith) h i,
        unlike_low rest c hi (x.number) i (omega arith),
        (λ v. not_outside (suc lo) c (x.number) (omega arith) (omega arith) (holds_range body (suc lo) c (x.number) h v)),
        told_forms t body (suc lo) c (omega arith) h,
        told_forms t rest c hi (omega arith) i,
      )
  told_forms t (if_line x then else rest) lo hi b (q, (m, c, h, i, j)) =
      let g₁ : suc lo ≤ m = grows then (suc lo) m h in
      let g₂ : m ≤ c = grows else m c i in (
        apart_lines then else (suc lo) m m c (omega arith) (omega arith) h i,
        apart_lines then rest (suc lo) m c hi (omega arith) (omega arith) h j,
        apart_lines else rest m c c hi (omega arith) (omega arith) i j,
        told_forms t then (suc lo) m (omega arith) h,
        told_forms t else m c (omega arith) i,
        told_forms t rest c hi (omega arith) j,
      )

told_all : (ls : List Lines) (fs : List Forms) (base : ℕ) → ((f n : ℕ) → Holds n (get_or fs f done) → n < base) → ((f : ℕ) → NumbersTell (get_or fs f done)) →
    SpansAll ls base → (f : ℕ) → NumbersTell (get_or (linked fs ls) f done)
unfolding SpansAll linked Holds NumbersTell
told_all [] fs base early t h = t
told_all (l ∷ ls) fs base early t (hi, h, i) =
    let g : base ≤ hi = grows fs base early l base hi h in
    told_all ls (fs ++ (forms fs l ∷ [])) hi
    (λ f n. push (λ x. Holds n x → n < hi) fs (forms fs l) (λ u. absurd u) (λ k u. omega (arith, early k n u))
    (λ u. under fs base early base hi n g (holds_range fs base early l base hi n h u)) f)
    (push NumbersTell fs (forms fs l) tt t (told_forms fs base early t l base hi (omega arith) h)) i

-- The main function of an accepted plan.
pub accepted_told : (p : Plan) → Accepted p → NumbersTell (main p)
unfolding NumbersTell Holds
accepted_told p a =
    at_last NumbersTell (linked [] (p.functions)) tt (told_all (p.functions) [] 0 (λ f n u. absurd u) (λ f. tt) (plan_spans p (a.formed)))
