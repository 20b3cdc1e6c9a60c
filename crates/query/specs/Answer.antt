-- What the query check answers, in document 01's numbers.
--
--   Answer               admitted, or refused by a number, or refused by a number at a step for a reason
--   said a               the answer that a result of the check stands for
--   FirstBreaking q k r  the length is right, step k is the first that breaks a rule, reason r applies to it and no lower one does
--   Kept q               the length is right and every step keeps every rule
--   Owed q a             a is the answer that document 01 gives q
--   judged_from q n s     the answer of n steps, of which the first has s steps before it: the first that breaks a rule decides
--   judged q             the answer of a query of right length
--   answer_to q           the answer to the bytes q
--   CheckGives q r       THE PROMISE of `check`: r, as it stands for an answer, is the answer to q
--
-- Assumes nothing. NOT here: the rules (Rules) and the reasons (Reasons); that `answer_to` gives exactly what is owed (Answer.Laws).
use Rattle.std.specs.Prelude.{ℕ, zero, suc, ◌≤◌, ◌<◌, ◌≡◌, Bool, true, false, List, length, Result, Ok, Err}
use Rattle.std.proofs.Math.Option.{Option, none, some}
use Rattle.limits.specs.Number.{reason_number}
use Rattle.meaning.specs.Refusals.{bad_length, bad_step}
use Rattle.meaning.specs.Table.{first}
use Rattle.query.specs.Rules.{wrong_length, steps, keeps}
use Rattle.query.specs.Reasons.{Due, reasons}
use Rattle.query.specs.declared.QueryFault.{QueryFault}
use Rattle.query.specs.declared.QueryFault.TheVariants.{Length, Step}

pub data Answer : Type 0 where
  admitted : Answer
  refused : (number : ℕ) → Answer
  refused_at : (number step reason : ℕ) → Answer

unfoldable pub said : Result (Unit {0}) QueryFault → Answer
said (Ok x) = admitted
said (Err Length) = refused bad_length
said (Err (Step k r)) = refused_at bad_step k (reason_number r)

-- "With refusal 10 comes a reason, the lowest that applies to the first step at fault."
pub record FirstBreaking (q : List ℕ) (k r : ℕ) : Type 0 where
  pub right : wrong_length (length q) ≡ false
  pub before : ℕ
  pub number : k ≡ suc before
  pub there : before < steps q
  pub due : Due q before r
  pub least : (t : ℕ) → Due q before t → r ≤ t
  pub earlier : (s : ℕ) → s < before → keeps q s ≡ true

pub record Kept (q : List ℕ) : Type 0 where
  pub right : wrong_length (length q) ≡ false
  pub each : (s : ℕ) → s < steps q → keeps q s ≡ true

abbrev pub Owed : List ℕ → Answer → Type 0
Owed q admitted = Kept q
Owed q (refused n) = (n ≡ bad_length) × (wrong_length (length q) ≡ true)
Owed q (refused_at n k r) = (n ≡ bad_step) × FirstBreaking q k r

-- the same as a computation

unfoldable pub if_none : Option ℕ → ℕ → Answer → Answer
if_none none k rest = rest
if_none (some r) k rest = refused_at bad_step k r

unfoldable pub judged_from : List ℕ → ℕ → ℕ → Answer
judged_from q zero s = admitted
judged_from q (suc n) s = if_none (first (reasons q s)) (suc s) (judged_from q n (suc s))

unfoldable pub judged : List ℕ → Answer
judged q = judged_from q (steps q) 0

unfoldable pub if_wrong : Bool → Answer → Answer
if_wrong true rest = refused bad_length
if_wrong false rest = rest

-- "The lowest number that applies is given."
unfoldable pub answer_to : List ℕ → Answer
answer_to q = if_wrong (wrong_length (length q)) (judged q)

abbrev pub CheckGives : List ℕ → Result (Unit {0}) QueryFault → Type 0
CheckGives q r = said r ≡ answer_to q
