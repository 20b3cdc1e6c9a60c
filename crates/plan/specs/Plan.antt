-- The plan of a query: what the engine keeps of it, and the engine's operations on masks.
--
--   Plan               the name test and the hanging predicate steps of each bit, and sets of steps as masks
--   plan q             the plan of q, its bits in the order of q
--   named P n          the steps whose name test an element named n passes
--   meets P pass K     the steps that an element meets whose name passes `pass` and in whose content K is met
--   lift P M K         what an element meeting M, with K met in its content, amounts to for those above it: of M the predicate steps
--   turn P M r         the main-path steps whose turn it is in the content of an element that meets M, r being whose turn it is around it
--   last_given M r      the last main-path step is given to an element that meets M where r is whose turn it is
--   up P M need        what a node needs around an element that meets M; a need of 0 stands for the element itself
--
-- In the order of q the step after a main-path step is one bit lower, so a turn that comes is a shift to the right, and a need that moves
-- up a shift to the left; the last step's bit falls out. Assumes nothing. NOT here: what the masks are as numbers (Plan.Laws), that these
-- are the meaning's operations (MaskOps.Laws).
use Rattle.std.specs.Prelude.{ℕ, ◌*◌, ◌/◌, Bool, true, false, not, List, map, eqb, length, get_or}
use Rattle.meaning.specs.Name.{passes}
use Rattle.meaning.specs.Query.{Query, all_step, hangs, goes_deep}
use Rattle.meaning.specs.Selection.{start}
use Rattle.sets.specs.Set.{join, meet, without, covers, mask_of}
use Rattle.plan.specs.Order.{back_path, order, mask}
unfoldable pub use Rattle.sets.specs.Set.{last_given}

pub record Plan : Type 0 where
  pub tests : List ℕ
  pub hung : List ℕ
  pub deep : ℕ
  pub main : ℕ
  pub plain : ℕ
  pub first : ℕ

unfoldable pub plan : Query → Plan
plan q =
    record {
      tests = map (λ p. p.step.name) (order q);
      hung = map (λ p. mask (order q) (λ t i. hangs t p.number)) (order q);
      deep = mask (order q) (λ st i. goes_deep st.axis);
      main = mask (order q) (λ st i. st.main);
      plain = mask (order q) (λ st s. all_step q 1 (λ t i. not (hangs t s)));
      first = mask (back_path q) start.steps;
    }

unfoldable pub named : Plan → ℕ → ℕ
named P n = mask_of (length P.tests) (λ t. passes (get_or P.tests t 0) n)

unfoldable pub meets : Plan → ℕ → ℕ → ℕ
meets P pass K = meet (mask_of (length P.tests) (λ t. covers K (get_or P.hung t 0))) pass

-- only predicate steps rise: what is below is asked for what hangs on a step, and only they hang on one (Plan.Laws, meets-predicates)
unfoldable pub lift : Plan → ℕ → ℕ → ℕ
lift P M K = join (without M P.main) (meet K P.deep)

unfoldable pub turn : Plan → ℕ → ℕ → ℕ
turn P M r = join (meet M r / 2) (meet r P.deep)

unfoldable pub up_if : Bool → Plan → ℕ → ℕ → ℕ
up_if true P M need = meet M 1
up_if false P M need = join (meet (meet (need * 2) M) P.main) (meet need P.deep)

unfoldable pub up : Plan → ℕ → ℕ → ℕ
up P M need = up_if (eqb need 0) P M need
