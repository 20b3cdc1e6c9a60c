-- The order in which a query's steps are given bits, and the mask of a set of steps in any such order.
--
--   predicates q i     the predicate steps of q with their numbers, the first step having number i
--   back_path q         the main path from its last step to its first: the step after one is the one before it in this list
--   order q            the path, then the predicate steps: the last main-path step is bit 0
--   any_of ps A         some step of the list ps is in A
--   at ps A t          the step of ps at place t is in A; false past the end
--   mask ps A          the set A as a mask: the step of ps at place t is bit t
--
-- Assumes nothing. NOT here: laws of masks in any order (Order.Mask), that the order of a query has all its steps (Order.All), what
-- the rules make of the path (Order.Path).
pub mod Mask
pub mod All
pub mod Path
use Rattle.std.specs.Prelude.{ℕ, zero, suc, Bool, true, false, ◌||◌, List, [], ◌∷◌, ◌++◌, reverse, length}
use Rattle.meaning.specs.Query.{Step, Query, Steps, Numbered, main_path}
use Rattle.sets.specs.Set.{mask_of}

unfoldable pub predicate_if : Bool → Step → ℕ → List Numbered → List Numbered
predicate_if true st i ps = ps
predicate_if false st i ps = record { step = st; number = i } ∷ ps

unfoldable pub predicates : Query → ℕ → List Numbered
predicates [] i = []
predicates (st ∷ q) i = predicate_if st.main st i (predicates q (suc i))

unfoldable pub back_path : Query → List Numbered
back_path q = reverse (main_path q 1)

unfoldable pub order : Query → List Numbered
order q = back_path q ++ predicates q 1

unfoldable pub any_of : List Numbered → Steps → Bool
any_of [] A = false
any_of (p ∷ ps) A = A p.step p.number || any_of ps A

unfoldable pub at : List Numbered → Steps → ℕ → Bool
at [] A t = false
at (p ∷ ps) A zero = A p.step p.number
at (p ∷ ps) A (suc t) = at ps A t

unfoldable pub mask : List Numbered → Steps → ℕ
mask ps A = mask_of (length ps) (at ps A)
