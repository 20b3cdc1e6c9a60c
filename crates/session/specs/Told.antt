-- What the answers of event and finish stand for, in document 01's numbers and values.
--
--   told a out      the answer that a case of `Answer` stands for beside the buffer out: the refusal's number, or the nodes handed out, which
--                   stand as list records at the start of the buffer
--   ended f         the answer that a result of `finish` stands for: the refusal's number, or the nodes opened and those handed out
--   told_one, ended_one      two answers, or results, that stand for one answer are equal
--
-- Assumes nothing. NOT here: the answer to a query (crate query, Answer: `said`).
use Rattle.std.specs.Prelude.{ℕ, ◌≡◌, List, Result, Ok, Err, length}
use Rattle.std.proofs.Common.{arith, sym, ap, ◌∙◌}
use Rattle.meaning.specs.Answer as meaning
use Rattle.limits.specs.declared.Refusal.{Refusal}
use Rattle.limits.specs.Number.{number}
use Rattle.limits.specs.Number.Laws.{number_one}
use Rattle.records.specs.Write.{nodes_in}
use Rattle.records.proofs.Write.Laws.{length_nodes}
use Rattle.session.specs.declared.Answer.{Answer}
use Rattle.session.specs.declared.Answer.TheVariants.{Refused, Taken}
use Rattle.session.specs.declared.Counts.{Counts}

unfoldable pub told : Answer → List ℕ → meaning.Answer
told (Refused n) out = meaning.refused n
told (Taken k) out = meaning.taken (nodes_in k out)

unfoldable pub ended : Result Counts Refusal → meaning.Answer
ended (Err r) = meaning.refused (number r)
ended (Ok c) = meaning.ended c.opened c.handed

taken_one : (k l : ℕ) (out : List ℕ) → nodes_in k out ≡ nodes_in l out → k ≡ l
taken_one k l out e = sym (length_nodes k out) ∙ ap length e ∙ length_nodes l out

pub told_one : (a b : Answer) (out : List ℕ) → told a out ≡ told b out → a ≡ b
unfolding told
told_one (Refused n) (Refused m) out e = ap Refused (cc)
told_one (Refused n) (Taken k) out e = let z : ◌≡◌ {A = ℕ} 0 1 = cc in absurd (omega arith)
told_one (Taken k) (Refused n) out e = let z : ◌≡◌ {A = ℕ} 0 1 = cc in absurd (omega arith)
told_one (Taken k) (Taken l) out e = ap Taken (taken_one k l out (cc))

pub ended_one : (a b : Result Counts Refusal) → ended a ≡ ended b → a ≡ b
unfolding ended
ended_one (Err r) (Err t) e = ap Err (number_one r t (cc))
ended_one (Err r) (Ok c) e = let z : ◌≡◌ {A = ℕ} 0 1 = cc in absurd (omega arith)
ended_one (Ok c) (Err r) e = let z : ◌≡◌ {A = ℕ} 0 1 = cc in absurd (omega arith)
ended_one (Ok c) (Ok d) e =
    let opened : c.opened ≡ d.opened = cc in
    let handed : c.handed ≡ d.handed = cc in
    λ i. Ok (record { opened = opened i; handed = handed i })
