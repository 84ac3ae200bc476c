-- Lines that lie in a row are read back out of it. Assumes nothing.
use mathlib.Core.List.{List}
use mathlib.Core.Path.{◌≡◌, refl, ap, sym}
use Prim.Native.Nat.{ℕ, zero, suc, ◌+◌, ◌≤◌, ◌<◌}
use native.Mathlib.Omega.{arith}
use borrow.Author.Tests.{lt-ltb, le-ltb}
use Rattle.model.specs.Plan.{Lines, close, leaf_line, call_line, loop_line, if_line}
use Rattle.model.specs.Acceptance.{size}
use Rattle.rows.specs.Rows.{other_at, after_at, Rep}
use Rattle.rows.specs.Reading.{by_kind, lines_at}
use Rattle.rows.proofs.Shape.{rep_le}

-- Where no records are, no lines are read.
nothing_more : (fuel : ℕ) (w : List ℕ) (i e : ℕ) → e ≤ i → lines_at fuel w i e ≡ close
unfolding lines_at
nothing_more zero w i e h = refl
nothing_more (suc fuel) w i e h = rw (le-ltb i e h)

-- Lines that lie in the row, fewer than the fuel, are read.
pub rep_lines : (l : Lines) (fuel : ℕ) (w : List ℕ) (L i e : ℕ) → size l < fuel → Rep w L i e l → lines_at fuel w i e ≡ l
unfolding Rep size lines_at by_kind
rep_lines close fuel w L i e h r = nothing_more fuel w i e (omega arith)
rep_lines (leaf_line b rest) zero w L i e h r = absurd (omega arith)
rep_lines (leaf_line b rest) (suc k) w L i e h r =
    rw (lt-ltb i e (omega (arith, r.3, rep_le w L (after_at w i) e rest r.4)), r.0.0, rep_lines rest k w L (after_at w i) e (omega arith) r.4)
    (ap (λ x. leaf_line x rest) (sym r.0.1))
rep_lines (call_line b f rest) zero w L i e h r = absurd (omega arith)
rep_lines (call_line b f rest) (suc k) w L i e h r =
    rw (lt-ltb i e (omega (arith, r.3, rep_le w L (after_at w i) e rest r.4)), r.0.0, rep_lines rest k w L (after_at w i) e (omega arith) r.4, r.1)
    (ap (λ x. call_line x f rest) (sym r.0.1))
rep_lines (loop_line b n body rest) zero w L i e h r = absurd (omega arith)
rep_lines (loop_line b n body rest) (suc k) w L i e h r =
    rw (
      lt-ltb i e (omega (arith, rep_le w (suc L) (i + 1) (after_at w i) body r.3, rep_le w L (after_at w i) e rest r.4)),
      r.0.0,
      rep_lines rest k w L (after_at w i) e (omega arith) r.4,
      rep_lines body k w (suc L) (i + 1) (after_at w i) (omega arith) r.3,
      r.1,
    )
    (ap (λ x. loop_line x n body rest) (sym r.0.1))
rep_lines (if_line b then else rest) zero w L i e h r = absurd (omega arith)
rep_lines (if_line b then else rest) (suc k) w L i e h r =
    rw (
      lt-ltb i e (omega (arith, rep_le w L (i + 1) (other_at w i) then r.2, rep_le w L (other_at w i) (after_at w i) else r.3, rep_le w L (after_at w i) e rest r.4)),
      r.0.0,
      rep_lines rest k w L (after_at w i) e (omega arith) r.4,
      rep_lines then k w L (i + 1) (other_at w i) (omega arith) r.2,
      rep_lines else k w L (other_at w i) (after_at w i) (omega arith) r.3,
    )
    (ap (λ x. if_line x then else rest) (sym r.0.1))
