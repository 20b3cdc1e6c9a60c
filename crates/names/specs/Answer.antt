-- The answer of a build, and the words after it.
--
--   build_answer names x       the answer: 45 where an index has no room in the words x, else the answer to the list
--   index_after names x        the words after it: x where the build is refused, else the index of the list in x
--   BuildGives names x y r    THE PROMISE of `build`: from the words x it makes y, and answers r
--
-- Assumes nothing. NOT here: what the words of an index are (crate chains, Index), the promise in words (Built).
use Rattle.std.specs.Prelude.{ℕ, ◌≡◌, List, eqb, ltb, length}
use Rattle.choice.specs.When.{when}
use Rattle.xml.specs.Refused.{scant}
use Rattle.listed.specs.Listed.{Listing, refused, list_answer}
use Rattle.chains.specs.Index.{index_words, built}

-- "less room is lent than a call needs"
unfoldable pub build_answer : List ℕ → List ℕ → Listing
build_answer names x = when (ltb (length x) index_words) (refused scant 0) (list_answer names)

unfoldable pub index_after : List ℕ → List ℕ → List ℕ
index_after names x = when (ltb (length x) index_words) x (when (eqb (list_answer names).refusal 0) (built names x) x)

pub record BuildGives (names x y : List ℕ) (r : Listing) : Type 0 where
  pub answer : r ≡ build_answer names x
  pub words : y ≡ index_after names x
