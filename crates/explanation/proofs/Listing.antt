-- The lines of the leaves, written in the order of the row, are those of what is listed of a way. Assumes nothing.
use mathlib.Core.Bool.{Bool, true, false, ◌||◌}
use mathlib.Core.List.{List, [], ◌∷◌, ◌++◌, append-nil}
use Rattle.std.specs.List.{flat_map}
use Rattle.std.proofs.lemmas.Grind.{flat_map-append}
use mathlib.Core.Path.{◌≡◌, refl, ap, sym, ◌∙◌}
use Prim.Native.Nat.{ℕ, zero, suc, ◌+◌, ◌≤◌, ◌<◌}
use native.Mathlib.Omega.{arith}
use lib.Dec.{eqb}
use lib.ListN.{length, take, get_or}
use lib.Seq.{take-suc}
use Rattle.model.specs.Plan.{Block, M}
use Rattle.model.specs.Runs.{Among}
use Rattle.model.specs.Places.{pick}
use Rattle.model.specs.Cause.{count, LeafCount, listed}
use Rattle.model.proofs.Among.{among_first, among_later}
use Rattle.model.proofs.Leaves.{Row}
use Rattle.rows.specs.Rows.{max_load_at, block_at}
use Rattle.explanation.specs.Explanation.{counted_line}
use Rattle.explanation.specs.Private.{leaf_told, leaves_told}

-- One of the blocks with the numbers from n on.
pub row_nth : (n : ℕ) (bs : List Block) → Row n bs → (i : ℕ) (d : Block) → i < length bs → ((get_or bs i d).number ≡ n + i) × Among (get_or bs i d) bs
unfolding Row
row_nth n [] r i d h = absurd (omega arith)
row_nth n (b ∷ bs) r zero d h = (omega (arith, r.0), among_first b b bs refl)
row_nth n (b ∷ bs) r (suc i) d h = let (e, a) = row_nth (suc n) bs r.1 i d (omega arith) in (omega (arith, e), among_later _ b bs a)

-- What is listed of leaves, one list behind the other.
listed_join : (w : List Block) (cs bs : List Block) → listed (cs ++ bs) w ≡ listed cs w ++ listed bs w
unfolding listed
listed_join w [] bs = refl
listed_join w (b ∷ cs) bs = go (eqb (M b) 0 || eqb (count b.number w) 0) (listed_join w cs bs)
  where
    go : (t : Bool) → listed (cs ++ bs) w ≡ listed cs w ++ listed bs w →
        pick t (listed (cs ++ bs) w) (record { leaf = b; count = count b.number w } ∷ listed (cs ++ bs) w) ≡
        pick t (listed cs w) (record { leaf = b; count = count b.number w } ∷ listed cs w) ++ listed bs w
    go true e = e
    go false e = ap (λ (l : List LeafCount). record { leaf = b; count = count b.number w } ∷ l) e

-- The line of one leaf.
one_told : (w : List Block) (b : Block) → flat_map counted_line (listed (b ∷ []) w) ≡ leaf_told b.number (M b) (count b.number w)
unfolding listed
one_told w b = go (eqb (M b) 0 || eqb (count b.number w) 0)
  where
    go : (t : Bool) → flat_map counted_line (pick t [] (record { leaf = b; count = count b.number w } ∷ [])) ≡
        pick t [] (counted_line (record { leaf = b; count = count b.number w }))
    go true = refl
    go false = append-nil (counted_line (record { leaf = b; count = count b.number w }))

-- A leaf whose visits cost nothing is left out, however often it is visited.
same_told : (n m x y : ℕ) → (0 < m → x ≡ y) → leaf_told n m x ≡ leaf_told n m y
same_told n zero x y h = refl
same_told n (suc m) x y h = ap (leaf_told n (suc m)) (h (omega arith))

-- Where the blocks are those of the row's records, and the visits of each whose visits cost something are counted.
module _ (w visits : List ℕ) (way bs : List Block) (blocks : (i : ℕ) → i < length bs → get_or bs i (block_at w 0) ≡ block_at w i)
    (counted : (i : ℕ) → i < length bs → 0 < max_load_at w i → get_or visits i 0 ≡ count i way) where
  pub first_told : (i : ℕ) → i ≤ length bs → leaves_told w visits i ≡ flat_map counted_line (listed (take i bs) way)
  unfolding leaves_told listed
  first_told zero h = refl
  first_told (suc i) h =
      let b = block_at w i in
      let more : take (suc i) bs ≡ take i bs ++ (b ∷ []) = take-suc bs i (block_at w 0) h ∙ ap (λ x. take i bs ++ (x ∷ [])) (blocks i h) in
      let this : leaf_told i (max_load_at w i) (get_or visits i 0) ≡ flat_map counted_line (listed (b ∷ []) way) =
      same_told i (max_load_at w i) _ _ (counted i h) ∙ sym (one_told way b) in
      rw (first_told i (omega arith), this) (
      sym (flat_map-append counted_line (listed (take i bs) way) (listed (b ∷ []) way)) ∙
      (ap (flat_map counted_line) (sym (listed_join way (take i bs) (b ∷ []))) ∙ ap (λ l. flat_map counted_line (listed l way)) (sym more))
      )
