-- What a return goes by: a row of rules, in the order of their reasons, of which the first ones are checked.
--
--   kept      the check of the rule t finds it kept: the rest of the row decides
--   broken    it finds it broken: its reason is the lowest
--   last      no rule is left after it
--
-- Assumes nothing.
use Rattle.std.specs.Prelude.{ℕ, ◌≡◌, Bool, true, false, not, List, [], ◌∷◌, Result, Ok, Err}
use Rattle.std.proofs.Common.{ap}
use Rattle.limits.specs.Number.{reason_number, reason_in}
use Rattle.limits.specs.declared.Reason.{Reason}
use Rattle.meaning.specs.Table.{Refusal, refusal, first_or, first}
use Rattle.query.specs.Reasons.{lowest, checked}

module _ (R : Reason) (t : Bool) (rs : List Refusal) {c : Result (Unit {0}) Reason} (given : c ≡ checked R t) where
  pub kept : {u : Unit {0}} (x : ℕ) → c ≡ Ok u → x ≡ lowest rs → x ≡ lowest (refusal (reason_number R) (not t) ∷ rs)
  unfolding lowest first first_or
  kept {u} x is e = go t given
    where
      go : (b : Bool) → c ≡ checked R b → x ≡ lowest (refusal (reason_number R) (not b) ∷ rs)
      go true g = e
      go false g = cc

  pub broken : {e : Reason} → c ≡ Err e → reason_number e ≡ lowest (refusal (reason_number R) (not t) ∷ rs)
  unfolding lowest first first_or
  broken {e} is = go t given
    where
      go : (b : Bool) → c ≡ checked R b → reason_number e ≡ lowest (refusal (reason_number R) (not b) ∷ rs)
      go true g = cc
      go false g = let same : e ≡ R = cc in ap reason_number same

pub last :
    (R : Reason) (t : Bool) (n : ℕ) {c : Result (Unit {0}) Reason} → c ≡ checked R t →
    reason_in c ≡ lowest (refusal (reason_number R) (not t) ∷ refusal n false ∷ [])
unfolding lowest first first_or
last R true n g = ap reason_in g
last R false n g = ap reason_in g
