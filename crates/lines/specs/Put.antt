-- Bytes put into a text.
--
--   Put l at vs l' r      l' is l with vs in place of what stood from at on, and r is where vs ends
--
-- It leaves one l' and one r. Assumes nothing. NOT here: what `sets` is (lib.Seq).
use Rattle.std.specs.Prelude.{ℕ, ◌+◌, ◌≡◌, List, length}
use Rattle.std.proofs.lemmas.List.Edits.{sets}

pub record Put (l : List ℕ) (at : ℕ) (vs : List ℕ) (l' : List ℕ) (r : ℕ) : Type 0 where
  pub text : l' ≡ sets l at vs
  pub end : r ≡ at + length vs
