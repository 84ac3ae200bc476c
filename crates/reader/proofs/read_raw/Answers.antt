-- `reader::read_raw` meets its contract: the leaves in use are read into. Assumes nothing.
use mathlib.Core.Path.{◌≡◌, refl}
use native.Mathlib.Omega.{arith}
use Rattle.std.proofs.Common.{rules}
use Rattle.std.specs.Prelude.{Err}
use Rattle.rows.specs.Leaves.{numbers}
use Rattle.reader.specs.Machine.{outcome}
use Rattle.reader.proofs.Parts.{derived_behind, read_behind, left_accepted, left_refused}
use Rattle.reader.proofs.read_raw.Goals as goal

pub returns-in_err-raw : goal.returns-in_err-raw
returns-in_err-raw c =
    let a = c.args in
    let ls = a.row.now in
    let ms = c.read_lines.new.row in
    let e : c.from_residual.result ≡ Err c.in_err-raw.field-0.0 = search rules in
    let said = read_behind a.text.now a.capacity c.min-n.result ls ms c.min-n.ensures (omega (arith, c.min-n.ensures)) c.in_err-raw.ensures.answers c.in_err-raw.ensures.writes in
    rw e (record { answers = said.0; writes = left_refused (outcome a.capacity a.text.now) (numbers ls) said.0; keeps = refl })

pub returns : goal.returns
returns c =
    let a = c.args in
    let n = c.min-n.result in
    let ls = a.row.now in
    let ms = c.read_lines.new.row in
    let said = read_behind a.text.now a.capacity n ls ms c.min-n.ensures (omega (arith, c.min-n.ensures)) c.in_ok-raw.ensures.answers c.in_ok-raw.ensures.writes in
    record {
      answers = said.0;
      writes = left_accepted (outcome a.capacity a.text.now) (numbers ls) _ said.0 said.1;
      keeps = derived_behind n ls ms c.in_ok-raw.ensures.keeps;
    }
