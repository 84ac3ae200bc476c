-- Forms in a row of records. Assumes nothing: these are definitions.
use Rattle.std.specs.Prelude.{ℕ, ◌*◌, ◌≤◌, List, ◌≡◌, length}
use Rattle.model.specs.Forms.{Forms, forms}
use Rattle.rows.specs.Rows.{Piece}

-- The records from i up to e are the forms f, where calls name one of the k functions of G.
pub record Spanned (w : List ℕ) (G : List Forms) (k i e : ℕ) (f : Forms) : Type 0 where
  pub piece : Piece w 62 i e
  pub few : length piece.heights ≤ k
  pub same : f ≡ forms G piece.part.lines
  pub room : e * 8 ≤ length w
