-- The tests of numbers, by what was read.
--
--   ended_yes, ended_no        whether the document element has been closed;  none_yes, none_no: whether no element is open
--   at_least, less             a test against a limit;  past, within: one for numbers past it
--   name_other, name_same      the innermost name
--
-- Assumes nothing.
use Rattle.std.proofs.Common.{◌≡◌, ℕ, ◌-◌, ◌<◌, ◌≤◌, true, false, not, eqb, ltb, leb, sym, ap, ◌∙◌, arith, le-ltb, lt-ltb, eq-eqb, ne_eqb, le-leb}
use borrow.Author.Tests.{lt-leb}
use Rattle.element.specs.Element.{Elements, frame_at}
use Rattle.numbers.specs.Numbers.{Numbers}

module _ (read v : ℕ) (e : read ≡ v) where
  pub ended_yes : (read ≡ 0 → ⊥) → not (eqb v 0) ≡ true
  ended_yes d = ap not (ne_eqb v 0 (λ z. d (e ∙ z)))

  pub ended_no : read ≡ 0 → not (eqb v 0) ≡ false
  ended_no z = ap not (eq-eqb v 0 (sym e ∙ z))

  pub none_yes : read ≡ 0 → eqb v 0 ≡ true
  none_yes z = eq-eqb v 0 (sym e ∙ z)

  pub none_no : (read ≡ 0 → ⊥) → eqb v 0 ≡ false
  none_no d = ne_eqb v 0 (λ z. d (e ∙ z))

  pub at_least : (n : ℕ) → n ≤ read → leb n v ≡ true
  at_least n h = le-leb n v (omega arith)

  pub less : (n : ℕ) → read < n → leb n v ≡ false
  less n h = lt-leb n v (omega arith)

  pub past : (n : ℕ) → n < read → ltb n v ≡ true
  past n h = lt-ltb n v (omega arith)

  pub within : (n : ℕ) → read ≤ n → ltb n v ≡ false
  within n h = le-ltb n v (omega arith)

-- the innermost name

module _ (n : Numbers) (E : Elements) (x depth name : ℕ) (ed : depth ≡ n.depth) (en : name ≡ (frame_at E (depth - 1)).name) where
  read : name ≡ (frame_at E (n.depth - 1)).name
  read = en ∙ ap (λ d. (frame_at E (d - 1)).name) ed

  pub name_other : (name ≡ x → ⊥) → eqb (frame_at E (n.depth - 1)).name x ≡ false
  name_other d = ne_eqb _ _ (λ e. d (read ∙ e))

  pub name_same : name ≡ x → eqb (frame_at E (n.depth - 1)).name x ≡ true
  name_same e = eq-eqb _ _ (sym read ∙ e)
