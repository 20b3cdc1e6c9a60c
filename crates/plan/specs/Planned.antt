-- What plan is made of a query's bytes.
--
--   step_at q s         the step of the bytes q that has s steps before it
--   size_of n           how many of n steps are planned
--   planned q          the query that is planned: the first steps that the bytes mean, 32 at most
--   starts st          st is on the main path and hangs on the document
--   before p           how many steps are before p in the query
--   placed m ms l      the place of a step, on the main path or not, where ms main-path steps have theirs and l places stay free
--   zeros n            n times 0
--   filled xs          32 slots: xs, then 0
--   padded n f         32 slots: f t in slot t under n, 0 in the others
--   order_of q n        the first n steps of the bytes q in the order of their places, as the numbers of steps before them
--   bucket_count        how many buckets the names are put into;  several_steps: what a bucket says for several steps
--   columns P          a plan as the code's struct
--   plan_of q           the plan that is made of the bytes q
--   PlanGives q r      THE PROMISE of `plan_of`: r is that plan
--   Columns Q r        r is the plan of the query Q, column by column
--   Long r             r has 32 slots in each column, 64 buckets, and 32 steps at most
--
-- Assumes nothing. NOT here: the plan of a query (Plan), that plan_of is that of an admitted query (Planned.Laws).
use Rattle.std.specs.Prelude.{ℕ, ◌+◌, ◌-◌, ◌≤◌, min, ◌≡◌, Bool, true, false, ◌&&◌, List, ◌++◌, map, eqb, length, replicate}
use Rattle.meaning.specs.Query.{Step, Query, Numbered}
use Rattle.sets.specs.Table.{table_of}
use Rattle.plan.specs.Asked.{stars_of, bucket}
use Rattle.query.specs.Rules.{most_steps, steps, step_of}
use Rattle.query.specs.Decode.{decode_step, decode_from}
use Rattle.plan.specs.Order.{order}
use Rattle.plan.specs.Plan as Of
use Rattle.plan.specs.Plan.{plan}
use Rattle.plan.specs.declared.Plan.{Plan}

abbrev pub step_at : List ℕ → ℕ → Step
step_at q s = decode_step (step_of q s)

abbrev pub size_of : ℕ → ℕ
size_of n = min n most_steps

abbrev pub planned : List ℕ → Query
planned q = decode_from q (size_of (steps q)) 0

abbrev pub starts : Step → Bool
starts st = st.main && eqb st.parent 0

abbrev pub before : Numbered → ℕ
before p = p.number - 1

abbrev pub placed : Bool → ℕ → ℕ → ℕ
placed true mains left = mains
placed false mains left = mains + left

abbrev pub zeros : ℕ → List ℕ
zeros n = replicate n 0

abbrev pub filled : List ℕ → List ℕ
filled xs = xs ++ zeros (most_steps - length xs)

unfoldable pub padded : ℕ → (ℕ → ℕ) → List ℕ
padded n f = filled (table_of n f)

unfoldable pub order_of : List ℕ → ℕ → List ℕ
order_of q n = filled (map before (order (decode_from q n 0)))

abbrev pub bucket_count : ℕ
bucket_count = 64

-- no step is at this place
abbrev pub several_steps : ℕ
several_steps = most_steps

unfoldable pub columns : Of.Plan → Plan
columns P =
    record {
      names = filled P.tests;
      hung = filled P.hung;
      size = length P.tests;
      deep = P.deep;
      main = P.main;
      plain = P.plain;
      first = P.first;
      stars = stars_of P.tests;
      buckets = table_of bucket_count (bucket several_steps bucket_count P.tests);
    }

unfoldable pub plan_of : List ℕ → Plan
plan_of q = columns (plan (planned q))

abbrev pub PlanGives : List ℕ → Plan → Type 0
PlanGives q r = r ≡ plan_of q

pub record Columns (Q : Query) (r : Plan) : Type 0 where
  pub names : r.names ≡ (plan Q).tests ++ zeros (most_steps - length Q)
  pub hung : r.hung ≡ (plan Q).hung ++ zeros (most_steps - length Q)
  pub size : r.size ≡ length Q
  pub deep : r.deep ≡ (plan Q).deep
  pub main : r.main ≡ (plan Q).main
  pub plain : r.plain ≡ (plan Q).plain
  pub first : r.first ≡ (plan Q).first
  pub stars : r.stars ≡ stars_of (plan Q).tests
  pub buckets : r.buckets ≡ table_of bucket_count (bucket several_steps bucket_count (plan Q).tests)

pub record Long (r : Plan) : Type 0 where
  pub names : length r.names ≡ most_steps
  pub hung : length r.hung ≡ most_steps
  pub buckets : length r.buckets ≡ bucket_count
  pub size : r.size ≤ most_steps
