-- The three steps that fill an index, over plain lists: the words x are cleared to y, and the places are laid in them, z.
--
--   filled_places      in z the places are in no chain yet
--   filled_whole       linked they are the index in x
--
-- Assumes nothing.
use Prim.Native.Nat.{ℕ}
use mathlib.Core.Path.{◌≡◌, sym, ap, ◌∙◌}
use mathlib.Core.List.{List}
use lib.ListN.{length}
use Rattle.listed.specs.Lines.{lines_of}
use Rattle.chains.specs.Index.{partly, built, cleared, laid_in}
use Rattle.chains.proofs.Index.Parts.{partly_again, laid_cleared}

module _ (names x y z : List ℕ) (clears : y ≡ cleared x) (lays : z ≡ laid_in names y) where
  laid : z ≡ partly (lines_of names) (length (lines_of names)) x
  laid = lays ∙ ap (laid_in names) clears ∙ laid_cleared names x

  again : (k : ℕ) → partly (lines_of names) k z ≡ partly (lines_of names) k x
  again k = ap (partly (lines_of names) k) laid ∙ partly_again (lines_of names) x k (length (lines_of names))

  pub filled_places : (count : ℕ) → count ≡ length (lines_of names) → z ≡ partly (lines_of names) count z
  filled_places count all = laid ∙ ap (λ k. partly (lines_of names) k x) (sym all) ∙ sym (again count)

  pub filled_whole : built names z ≡ built names x
  unfolding built
  filled_whole = again 0
