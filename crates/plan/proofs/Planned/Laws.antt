-- The plan that is made of an admitted query's bytes is the plan of the query that they mean.
--
--   planned_all       of at most 32 steps all are planned
--   plan_of_short      so where the bytes mean at most 32 steps, the plan made of them is that of these steps
--   plan_of_admitted   and so for every query that the check admits; columns_admitted: column by column
--   right_admitted    and that plan is right, as its order is
--   plan_hung         a plan keeps for each step what hangs on it
--   plan_of_long       a plan of any bytes has 32 slots, 64 buckets, and at most 32 steps
--   plan_one          two results that the promise of `plan_of` allows are equal
--
-- Assumes nothing but admission.
use Rattle.std.specs.Prelude.{ℕ, ◌-◌, ◌≤◌, ◌≡◌, refl, List, ◌++◌, length}
use Rattle.std.proofs.Math.Nat.{min-eq_left, min-le_right}
use Rattle.std.proofs.Common.{arith, sym, ap, ◌∙◌, subst, length-append}
use Rattle.std.proofs.lemmas.List.{length-map, length-replicate}
use Rattle.meaning.specs.Query.{Query}
use Rattle.query.specs.Rules.{most_steps, Right, steps}
use Rattle.query.proofs.Rules.Laws.{right_length}
use Rattle.query.specs.Answer.{admitted, answer_to}
use Rattle.query.proofs.Answer.Laws.{admitted_exactly}
use Rattle.query.specs.Decode.{decode_from, decode, Bytes}
use Rattle.query.proofs.Decode.Laws.{decode_length, meant}
use Rattle.sets.specs.Table.{length_table_of}
use Rattle.plan.specs.Order.{order}
use Rattle.plan.specs.Plan.{plan}
use Rattle.plan.proofs.Masks.{plan_size}
use Rattle.plan.specs.Places.{OrderRight, PlanRight}
use Rattle.plan.proofs.Places.Laws.{order_length}
use Rattle.plan.proofs.Places.Order.{order_right}
use Rattle.plan.proofs.Places.Plan.{plan_right}
use Rattle.plan.specs.Planned.{size_of, planned, zeros, filled, bucket_count, columns, plan_of, PlanGives, Columns, Long}
use Rattle.query.proofs.Decode.Laws.{from_length}
use Rattle.plan.specs.declared.Plan.{Plan}

pub planned_all : (q : List ℕ) → length (decode q) ≤ most_steps → planned q ≡ decode q
unfolding decode
planned_all q h = ap (λ n. decode_from q n 0) (min-eq_left (omega (arith, decode_length q)))

pub plan_of_short : (q : List ℕ) → length (decode q) ≤ most_steps → plan_of q ≡ columns (plan (decode q))
unfolding plan_of
plan_of_short q h = ap (λ Q. columns (plan Q)) (planned_all q h)

admitted_short : (q : List ℕ) → answer_to q ≡ admitted → length (decode q) ≤ most_steps
admitted_short q given =
    let right : Right (length q) = right_length (length q) ((admitted_exactly q).0 given).right in
    omega (arith, decode_length q)

pub plan_of_admitted : (q : List ℕ) → answer_to q ≡ admitted → plan_of q ≡ columns (plan (decode q))
plan_of_admitted q given = plan_of_short q (admitted_short q given)

pub plan_hung : (Q : Query) → length (plan Q).hung ≡ length Q
unfolding plan
plan_hung Q = length-map (order Q) _ ∙ order_length Q

columns_are : (Q : Query) → Columns Q (columns (plan Q))
unfolding columns
columns_are Q =
    record {
      names = ap (λ n. (plan Q).tests ++ zeros (most_steps - n)) (plan_size Q);
      hung = ap (λ n. (plan Q).hung ++ zeros (most_steps - n)) (plan_hung Q);
      size = plan_size Q;
      deep = refl;
      main = refl;
      plain = refl;
      first = refl;
      stars = refl;
      buckets = refl;
    }

pub columns_admitted : (q : List ℕ) (r : Plan) → answer_to q ≡ admitted → r ≡ plan_of q → Columns (decode q) r
columns_admitted q r given made = subst (Columns (decode q)) (sym (made ∙ plan_of_admitted q given)) (columns_are (decode q))

pub right_admitted : (q : List ℕ) → Bytes q → answer_to q ≡ admitted → OrderRight (decode q) × PlanRight (decode q) (plan (decode q))
right_admitted q bytes given =
    let ruled = (meant q bytes given).admitted in
    (order_right (decode q) ruled, plan_right (decode q) ruled)

filled_long : (xs : List ℕ) → length xs ≤ most_steps → length (filled xs) ≡ most_steps
filled_long xs h =
    let rest : length (zeros (most_steps - length xs)) ≡ most_steps - length xs = length-replicate (most_steps - length xs) 0 in
    omega (arith, length-append xs (zeros (most_steps - length xs)))

pub plan_of_long : (q : List ℕ) → Long (plan_of q)
unfolding plan_of columns
plan_of_long q =
    let few : length (planned q) ≤ most_steps = omega (arith, from_length q (size_of (steps q)) 0, min-le_right (steps q) most_steps) in
    record {
      names = filled_long (plan (planned q)).tests (omega (arith, plan_size (planned q)));
      hung = filled_long (plan (planned q)).hung (omega (arith, plan_hung (planned q)));
      buckets = length_table_of bucket_count _;
      size = omega (arith, plan_size (planned q));
    }

pub plan_one : (q : List ℕ) (r s : Plan) → PlanGives q r → PlanGives q s → r ≡ s
plan_one q r s a b = a ∙ sym b
