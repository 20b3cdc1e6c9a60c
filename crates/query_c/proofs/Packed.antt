-- What is shown of the query check's answer as one number.
--
--   export_parts      refusal, step and reason are read from the result again, as its bytes: each has a place of its own
--   export_one        two results that the promise allows are equal
--
-- Assumes nothing. NOT here: which answer a query gets (crate query, Answer).
use Rattle.std.specs.Prelude.{ℕ, ◌/◌, ◌%◌, ◌≡◌, List}
use Rattle.std.proofs.Common.{arith, sym, ap, ◌∙◌}
use Rattle.meaning.specs.Refusals.{bad_step}
use Rattle.query.specs.Answer.{refused_at, answer_to}
use Rattle.query.proofs.Answer.Laws.{step_within}
use Rattle.query_c.specs.Packed.{packed, ExportGives}

pub export_parts :
    (q : List ℕ) (r k reason : ℕ) → ExportGives q r → answer_to q ≡ refused_at bad_step k reason →
    (r % 256 ≡ bad_step) × ((r / 256) % 256 ≡ k) × ((r / 256) / 256 ≡ reason)
unfolding packed
export_parts q r k reason gives answered =
    let number = gives ∙ ap packed answered in
    let few = (step_within q k reason answered).1 in
    (omega (arith, number, few), omega (arith, number, few), omega (arith, number, few))

pub export_one : (q : List ℕ) (r s : ℕ) → ExportGives q r → ExportGives q s → r ≡ s
export_one q r s a b = a ∙ sym b
