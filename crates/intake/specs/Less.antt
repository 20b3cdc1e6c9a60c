-- The turns end.
--
--   text_left i           how much is still to come at most: bytes to be read, bytes to be asked for, a refusal, the end
--   advance_less         each turn leaves less
--
-- Assumes nothing.
use Rattle.std.specs.Prelude.{ℕ, ◌+◌, ◌-◌, ◌≤◌, ◌<◌, ◌⊎◌, ◌≡◌, refl, Bool, true, false, not, List, eqb, length}
use Rattle.std.proofs.Common.{arith, inl, inr, ap, ap₂, ◌∙◌, ne_eqb, eqb-true}
use mir.Val.{bool_byte}
use Rattle.std.proofs.lemmas.Bool.{eqb-false}
use Rattle.choice.specs.Count.{positive, bool_byte_le}
use Rattle.limits.specs.Number.{text_of}
use Rattle.xml.specs.Grammar.{Ev}
use Rattle.reader.specs.Feed.{too_scant, feed_answer}
use Rattle.reader_right.proofs.TextRead.{feed_on}
use Rattle.system.specs.declared.File.{File}
use Rattle.intake.specs.declared.Intake.{Intake}
use Rattle.intake.specs.Intake.{longest, unread_text, FedText, TextCame, Advanced, fed, came}
use Rattle.intake.specs.Intake.Laws.{unread_long, taken_within}
use Rattle.intake.specs.InText.{InText, t, few_more}

abbrev pub text_left : Intake → ℕ
text_left i =
    (longest + 65536 - i.taken) + (longest + 65536 - (i.taken + (i.end - i.from))) + (bool_byte (eqb i.refusal 0) + bool_byte (not i.ended))

module _ (N X : List ℕ) (file : File) (i : Intake) (input R : List ℕ) (es : List Ev) (h : InText N X file i input R es) (going : i.refusal ≡ 0)
    (on : i.ended ≡ false) where
  flags : bool_byte (eqb i.refusal 0) + bool_byte (not i.ended) ≡ 2
  flags = ap₂ (λ (x : ℕ) (y : Bool). bool_byte (eqb x 0) + bool_byte (not y)) going on

  fed_less :
      (out : List ℕ) → too_scant (length R) (length X) (length out) ≡ false → (i' : Intake) (R' out' : List ℕ) → i.from < i.end →
      FedText N X i (unread_text i input) R out i' R' out' → text_left i' < text_left i
  fed_less out lent i' R' out' left f =
      go (feed_on N X (t N X file i input R es h going) i.reader R es (unread_text i input) out (h.read going) f.bytes lent
      (omega (arith, left, unread_long i input h.within)))
    where
      k : (feed_answer N X (unread_text i input) i.reader R out).taken ≤ i.end - i.from
      k = omega (arith, taken_within N X (unread_text i input) i.reader R out, unread_long i input h.within)

      go :
          (0 < (feed_answer N X (unread_text i input) i.reader R out).taken)
          ⊎ (0 < text_of (feed_answer N X (unread_text i input) i.reader R out).refusal) →
          text_left i' < text_left i
      go (inl some) =
          omega (arith, flags, some, k, h.few, f.from_so, f.end_same, f.taken_so, bool_byte_le (eqb i'.refusal 0), bool_byte_le (not i'.ended))
      go (inr some) =
          let refused : bool_byte (eqb i'.refusal 0) ≡ 0 = ap bool_byte (ne_eqb i'.refusal 0 (λ z. omega (arith, some, z, f.refusal_so))) in
          omega (arith, flags, refused, k, h.few, f.from_so, f.end_same, f.taken_so, bool_byte_le (not i'.ended))

  came_less :
      (out : List ℕ) (i' : Intake) (input' : List ℕ) → i.end ≤ i.from → length input' ≤ 65536 → 0 < length input → TextCame file i input i' input' →
      text_left i' < text_left i
  came_less out i' input' none_left short some m = go (eqb (length m.bytes) 0) refl
    where
      go : (b : Bool) → eqb (length m.bytes) 0 ≡ b → text_left i' < text_left i
      go true e =
          let last : bool_byte (not i'.ended) ≡ 0 = ap (λ (x : Bool). bool_byte (not x)) (m.ended_so ∙ e) in
          omega (arith, flags, last, eqb-true (length m.bytes) 0 e, m.count, m.taken_same, none_left, bool_byte_le (eqb i'.refusal 0))
      go false e =
          omega (
            arith,
            flags,
            positive (length m.bytes) (eqb-false (length m.bytes) 0 e),
            m.count,
            m.taken_same,
            none_left,
            few_more N X file i input R es h going out i' input' none_left short some m,
            bool_byte_le (eqb i'.refusal 0),
            bool_byte_le (not i'.ended),
          )

  pub advance_less :
      (out : List ℕ) → too_scant (length R) (length X) (length out) ≡ false → (i' : Intake) (input' R' out' : List ℕ) → length input' ≤ 65536 →
      0 < length input → Advanced N X file i input R out i' input' R' out' → text_left i' < text_left i
  advance_less out lent i' input' R' out' short some (fed left same f) = fed_less out lent i' R' out' left f
  advance_less out lent i' input' R' out' short some (came none_left a b m) = came_less out i' input' none_left short some m
