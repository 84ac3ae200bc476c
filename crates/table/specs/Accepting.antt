-- Rules 3 to 10 and 19 as tests on a plan (01, 'Calls'; 02, L2 and L7). The rules themselves are in the model (Acceptance); a test holds exactly when they do.
-- Assumes nothing: these are definitions.
use Rattle.std.specs.Prelude.{Bool, true, false, ◌&&◌, ◌||◌, not, List, [], ◌∷◌, ◌++◌, ℕ, zero, suc, ◌+◌, ◌-◌, ◌^◌, eqb, leb, ltb, length}
use Rattle.model.specs.Plan.{Block, C, M, Lines, close, leaf_line, call_line, loop_line, if_line, resume_cost, Plan}
use Rattle.model.specs.Forms.{Forms, done, leaf, call, loop, cond, forms, main}
use Rattle.model.specs.Total.{total}
use Rattle.model.specs.Places.{bit}
use Rattle.model.specs.Levels.{height}
use Rattle.model.specs.Acceptance.{size, sizes, depth}

-- Range, load and costless of a leaf.
abbrev pub costs? : Block → Bool
costs? b = leb (C b) (2 ^ 20) && (leb (M b) (2 ^ 20) && (leb (C b) (M b) && leb (bit b.point) (C b)))

-- The leaves are numbered in text order, from n on.
unfoldable pub numbered? : ℕ → Lines → Bool
numbered? n close = true
numbered? n (leaf_line b rest) = eqb b.number n && numbered? (n + 1) rest
numbered? n (call_line b f rest) = eqb b.number n && numbered? (n + 1) rest
numbered? n (loop_line b m body rest) = eqb b.number n && (numbered? (n + 1) body && numbered? (n + 1 + size body) rest)
numbered? n (if_line b then else rest) =
    eqb b.number n && (numbered? (n + 1) then && (numbered? (n + 1 + size then) else && numbered? (n + 1 + size then + size else) rest))

-- Range, load, costless and target of the forms of function number i.
unfoldable pub ranged? : ℕ → Lines → Bool
ranged? i close = true
ranged? i (leaf_line b rest) = costs? b && ranged? i rest
ranged? i (call_line b f rest) = costs? b && (leb f 15 && (ltb f i && ranged? i rest))
ranged? i (loop_line b n body rest) = costs? b && (leb 1 n && (leb n 65535 && (ranged? i body && ranged? i rest)))
ranged? i (if_line b then else rest) = costs? b && (ranged? i then && (ranged? i else && ranged? i rest))

-- One function, and all of them.
abbrev pub function? : List ℕ → ℕ → Lines → Bool
function? hs n l = numbered? n l && (ranged? (length hs) l && (leb (height hs l) 32 && leb (2 + depth l) 64))

unfoldable pub functions? : List ℕ → ℕ → List Lines → Bool
functions? hs n [] = true
functions? hs n (l ∷ ls) = function? hs n l && functions? (hs ++ (height hs l ∷ [])) (n + size l) ls

-- Rules 3 to 7 and 19.
abbrev pub formed? : Plan → Bool
formed? p =
    leb 1 p.deadline && (leb p.deadline (2 ^ 40) && (leb p.switch (2 ^ 20) && (leb (resume_cost p.edition) (2 ^ 20) &&
    (leb 1 (length p.functions) && (leb (length p.functions) 16 && (leb (sizes p.functions) 512 && functions? [] 0 p.functions))))))

-- The forms have a point, inside them or in what they call.
unfoldable pub pointed? : Forms → Bool
pointed? done = false
pointed? (leaf b rest) = b.point || pointed? rest
pointed? (call b fun rest) = b.point || (pointed? fun || pointed? rest)
pointed? (loop b n body rest) = b.point || (pointed? body || pointed? rest)
pointed? (cond b then else rest) = b.point || (pointed? then || (pointed? else || pointed? rest))

-- Rule 8.
unfoldable pub seen? : Forms → Bool
seen? done = true
seen? (leaf b rest) = seen? rest
seen? (call b fun rest) = (b.point || not (pointed? fun)) && seen? rest
seen? (loop b n body rest) = (b.point || not (pointed? body)) && (seen? body && seen? rest)
seen? (cond b then else rest) = seen? then && (seen? else && seen? rest)

unfoldable pub seen_all? : List Forms → List Lines → Bool
seen_all? fs [] = true
seen_all? fs (l ∷ ls) = seen? (forms fs l) && seen_all? (fs ++ (forms fs l ∷ [])) ls

-- A call among the lines, and among the functions, names f.
unfoldable pub names? : ℕ → Lines → Bool
names? f close = false
names? f (leaf_line b rest) = names? f rest
names? f (call_line b g rest) = eqb g f || names? f rest
names? f (loop_line b n body rest) = names? f body || names? f rest
names? f (if_line b then else rest) = names? f then || (names? f else || names? f rest)

unfoldable pub named? : ℕ → List Lines → Bool
named? f [] = false
named? f (l ∷ ls) = names? f l || named? f ls

-- Rule 9, for the k functions from number f on.
unfoldable pub called_from? : List Lines → ℕ → ℕ → Bool
called_from? ls f zero = true
called_from? ls f (suc k) = named? f ls && called_from? ls (suc f) k

-- Rule 10, read from the totals.
abbrev pub short? : Plan → Bool
short? p = leb (total C (main p)) (2 ^ 40) && leb (total M (main p)) (2 ^ 40)

-- All of them.
abbrev pub accepted? : Plan → Bool
accepted? p = formed? p && (seen_all? [] p.functions && (called_from? p.functions 0 (length p.functions - 1) && short? p))
