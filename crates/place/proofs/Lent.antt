-- Records of leaves and their numbers; places on lent code. Assumes nothing.
use mathlib.Core.List.{List}
use Prim.Native.Nat.{ℕ, ◌+◌, ◌*◌, ◌≤◌, ◌<◌}
use native.Mathlib.Omega.{arith}
use lib.ListN.{length}
use Rattle.rows.specs.declared.Code.{Code}
use Rattle.rows.specs.declared.Leaf.{Leaf}
use Rattle.rows.specs.Leaves.{numbers}
use Rattle.rows.proofs.Leaves.{numbers_length}
use Rattle.place.specs.declared.Place.{Place}
use Rattle.place.specs.Lent.{PlaceDecoded}
use Rattle.place.specs.Spans.{CodeRunning, LevelOpen}
use Rattle.place.specs.Private.{PlaceStands}
use Rattle.place.proofs.Falling.{head_of}
use Rattle.place.proofs.Finding.{running}
use Rattle.place.proofs.Stacking.{placed}

-- The numbers of the records up to e are there where those records are.
pub leaves_held : (row : List Leaf) {e : ℕ} → e * 8 ≤ length (numbers row) → e ≤ length row
leaves_held row h = omega (arith, numbers_length row)

pub numbers_held : (row : List Leaf) {e : ℕ} → e ≤ length row → e * 8 ≤ length (numbers row)
numbers_held row h = omega (arith, numbers_length row)

-- The same of one record.
pub leaf_held : (row : List Leaf) {i : ℕ} → i * 8 + 8 ≤ length (numbers row) → i < length row
leaf_held row h = omega (arith, numbers_length row)

-- A place that decodes, as the code's proofs take it apart.
abbrev pub standing : {c : Code} {p : Place} → PlaceDecoded c p → PlaceStands c p
standing q = record { least = q.least; most = q.most; placed = placed q.least q.decoded }

-- The same without the visit counts.
abbrev pub run_of : {c : Code} {p : Place} → PlaceStands c p → CodeRunning c p.leaves p.level
run_of q = record { least = q.least; most = q.most; running = running q.placed }

-- The records of its level can be looked up.
abbrev pub level_open : {c : Code} {leaves : List ℕ} {l : ℕ} → CodeRunning c leaves l → LevelOpen c leaves l
level_open q =
    let r = q.running in
    record {
      least = q.least;
      most = q.most;
      count = r.table.count;
      fits = r.table.fits;
      enterable = λ h. head_of r h;
    }
