-- An admitted query is one of crate meaning's, and every theorem there applies to it.
--
--   from_length, decode_length     as many steps as were decoded; as records
--   decode_step_lem         step s + 1 is what its record means
--   rules_exactly       crate meaning's rules hold of the decoded steps exactly if each hangs by the rules
--   meant               an admitted query meets crate meaning's rules, and has 1 to 32 steps
--   admitted_exactly_admits    where the rest is in order, the check admits exactly what crate meaning's rules admit
--
-- Assumes nothing.
use Prim.Native.Nat.{ℕ, zero, suc, ◌+◌, ◌*◌, ◌≤◌, ◌<◌}
use Rattle.std.specs.Prelude.{◌≡◌, false, ◌&&◌, List, ◌↔◌, T, length, get_or}
use Rattle.std.proofs.Math.Path.{refl, sym}
use Rattle.std.proofs.Common.{ap, subst, ◌∙◌, eq-or-lt_of_le, add-zero, zero-add, suc-add, add-suc, arith, get_or-take, get_or-drop}
use Rattle.std.proofs.Math.Bool.{true, and-eq-true_iff}
use Rattle.std.proofs.Math.Logic.{⊎_elim}
use borrow.Author.Tests.{le-leb}
use Rattle.meaning.specs.Logic.{is_true}
use Rattle.meaning.specs.Name.{last_name}
use Rattle.meaning.specs.Record.{Bytes}
use Rattle.meaning.specs.Query.{Step, rules, is_empty, admits}
use Rattle.query.specs.Rules.{Right, steps, step_of, name_number, nearest, hang_rule, keeps}
use Rattle.query.proofs.Rules.Laws.{hang_rule_is, keeps_plain, right_length}
use Rattle.query.specs.Answer.{admitted, answer_to, Kept}
use Rattle.query.proofs.Answer.Laws.{admitted_exactly}
use Rattle.query.specs.Decode.{decode_step, decode_from, decode, Meant, Shaped}

-- the decoded steps

pub from_length : (q : List ℕ) (n s : ℕ) → length (decode_from q n s) ≡ n
unfolding decode_from
from_length q zero s = refl
from_length q (suc n) s = ap suc (from_length q n (suc s))

pub decode_length : (q : List ℕ) → length (decode q) ≡ steps q
unfolding decode
decode_length q = from_length q (steps q) 0

from_step : (q : List ℕ) (n s t : ℕ) (d : Step) → t < n → get_or (decode_from q n s) t d ≡ decode_step (step_of q (s + t))
unfolding decode_from
from_step q zero s t d h = absurd (omega arith)
from_step q (suc n) s zero d h = rw (add-zero s)
from_step q (suc n) s (suc t) d h = from_step q n (suc s) t d (omega arith) ∙ rw (suc-add s t, add-suc s t)

pub decode_step_lem : (q : List ℕ) (s : ℕ) (d : Step) → s < steps q → get_or (decode q) s d ≡ decode_step (step_of q s)
unfolding decode
decode_step_lem q s d h = from_step q (steps q) 0 s d h ∙ rw (zero-add s)

-- the rules on what each step hangs on

module _ (q : List ℕ) (bytes : Bytes q) where
  byte_small : (s i : ℕ) → i < 8 → get_or (step_of q s) i 0 < 256
  byte_small s i h = rw (get_or-take, get_or-drop) (bytes (8 * s + i))

  name_small : (s : ℕ) → name_number (step_of q s) ≤ last_name
  name_small s = omega (arith, byte_small s 4 (omega arith), byte_small s 5 (omega arith))

  HangFrom : ℕ → ℕ → Type 0
  HangFrom n s = (t : ℕ) → s ≤ t → t < s + n → hang_rule q t ≡ true

  rules_step :
      (n s : ℕ) →
      rules (decode_from q (suc n) s) (suc s) (nearest q s) ≡ (hang_rule q s && rules (decode_from q n (suc s)) (suc (suc s)) (nearest q (suc s)))
  unfolding decode_from decode_step rules nearest
  rules_step n s = rw (hang_rule_is q s, le-leb _ _ (name_small s))

  rules_if : (n s : ℕ) → HangFrom n s → rules (decode_from q n s) (suc s) (nearest q s) ≡ true
  unfolding decode_from rules HangFrom
  rules_if zero s h = refl
  rules_if (suc n) s h =
      rules_step n s ∙ (and-eq-true_iff _ _).1 (h s (omega arith) (omega arith), rules_if n (suc s) (λ t low high. h t (omega arith) (omega arith)))

  rules_then : (n s : ℕ) → rules (decode_from q n s) (suc s) (nearest q s) ≡ true → HangFrom n s
  unfolding HangFrom
  rules_then zero s e t low high = absurd (omega arith)
  rules_then (suc n) s e t low high =
      let parts : (hang_rule q s && rules (decode_from q n (suc s)) (suc (suc s)) (nearest q (suc s))) ≡ true = sym (rules_step n s) ∙ e in
      ⊎_elim (λ same. rw (← same) ((and-eq-true_iff (hang_rule q s) _).0 parts).0)
      (λ later. rules_then n (suc s) ((and-eq-true_iff (hang_rule q s) _).0 parts).1 t later (omega arith)) (eq-or-lt_of_le low)

  pub rules_exactly : (rules (decode q) 1 0 ≡ true) ↔ ((t : ℕ) → t < steps q → hang_rule q t ≡ true)
  unfolding decode nearest HangFrom
  rules_exactly = (λ e t high. rules_then (steps q) 0 e t (omega arith) (omega arith), λ h. rules_if (steps q) 0 (λ t low high. h t (omega arith)))

-- a query that has a step is not empty

full : (q : List ℕ) (n : ℕ) → 1 ≤ n → is_empty (decode_from q n 0) ≡ false
unfolding decode_from is_empty
full q zero h = absurd (omega arith)
full q (suc n) h = refl

some_step : (q : List ℕ) → Right (length q) → 1 ≤ steps q
some_step q right = omega arith

admits_is : (q : List ℕ) → Right (length q) → admits (decode q) ≡ rules (decode q) 1 0
unfolding admits decode
admits_is q right = rw (full q (steps q) (some_step q right))

-- admission

shaped_keeps : (q : List ℕ) (shaped : Shaped q) (s : ℕ) → s < steps q → hang_rule q s ≡ true → keeps q s ≡ true
shaped_keeps q shaped s there hangs =
    (keeps_plain q s).1 (shaped.axis s there, shaped.role s there, hangs, shaped.zero s there)

kept_admits : (q : List ℕ) → Bytes q → Kept q → T (admits (decode q))
kept_admits q bytes kept =
    let right : Right (length q) = right_length (length q) kept.right in
    let ruled : rules (decode q) 1 0 ≡ true = (rules_exactly q bytes).1 (λ t there. ((keeps_plain q t).0 (kept.each t there)).2) in
    subst T (sym (admits_is q right ∙ ruled)) tt

pub meant : (q : List ℕ) → Bytes q → answer_to q ≡ admitted → Meant q
meant q bytes given =
    let kept : Kept q = (admitted_exactly q).0 given in
    let right : Right (length q) = right_length (length q) kept.right in
    let count : length (decode q) ≡ steps q = decode_length q in
    record { admitted = kept_admits q bytes kept; whole = omega arith; some = omega arith; most = omega arith }

pub admitted_exactly_admits : (q : List ℕ) → Bytes q → Shaped q → (answer_to q ≡ admitted) ↔ T (admits (decode q))
admitted_exactly_admits q bytes shaped =
    let right : Right (length q) = right_length (length q) shaped.right in (
      λ given. (meant q bytes given).admitted,
      λ passed. (admitted_exactly q).1 (record {
        right = shaped.right;
        each = λ s there. shaped_keeps q shaped s there ((rules_exactly q bytes).0 (sym (admits_is q right) ∙ is_true _ passed) s there);
      }),
    )
