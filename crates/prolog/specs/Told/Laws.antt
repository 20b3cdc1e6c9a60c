-- A byte of a part's value, by what was found out of it.
--
--   row_told, row_unquoted      the value is whole, and the byte is its closing quote, or is not
--   row_on, row_other           the byte is the value's next, or is not
--
-- Assumes nothing.
use Rattle.std.specs.Prelude.{ℕ, ◌+◌, ◌≡◌}
use Rattle.std.proofs.Math.Path.{sym, ap}
use Rattle.std.proofs.Common.{◌∙◌, eq-eqb, ne_eqb}
use Rattle.choice.specs.When.{when_yes, when_no}
use Rattle.limits.specs.declared.TextRefusal.{TextRefusal}
use Rattle.modes.specs.declared.Mode.TheVariants as mode
use Rattle.modes.specs.declared.Prolog.TheVariants as prolog
use Rattle.modes.specs.declared.Reader.{Reader}
use Rattle.modes.specs.Moves.{refuse_with, spell_on, count_to}
use Rattle.chars.specs.Said.{left_is, left_other}
use Rattle.prolog.specs.Told.{value_byte, part_of, small, value_refusal, quoted_in}

module _ (r : Reader) (b quote row want : ℕ) (e : want ≡ value_byte row r.n) where
  pub row_told :
      {x : Reader} {part : ℕ} → want ≡ 0 → b ≡ quote → part ≡ part_of row → x ≡ count_to r (mode.Prolog prolog.Told) part
      → x ≡ quoted_in r b quote row
  unfolding quoted_in
  row_told z q p h =
      when_yes _ _ _ _ (left_is want _ 0 e z) (when_yes _ _ _ _ (eq-eqb b quote q) (h ∙ ap (count_to r (mode.Prolog prolog.Told)) p))

  pub row_unquoted :
      {x : Reader} {refusal : TextRefusal} → want ≡ 0 → (b ≡ quote → ⊥) → refusal ≡ value_refusal row → x ≡ refuse_with r refusal → x ≡ quoted_in r b quote row
  unfolding quoted_in
  row_unquoted z q p h = when_yes _ _ _ _ (left_is want _ 0 e z) (when_no _ _ _ _ (ne_eqb b quote q) (h ∙ ap (refuse_with r) p))

  module _ (z : want ≡ 0 → ⊥) {letter : ℕ} (l : letter ≡ small row b) where
    pub row_on : {x : Reader} → letter ≡ want → x ≡ spell_on r r.mode row (r.n + 1) → x ≡ quoted_in r b quote row
    unfolding quoted_in
    row_on q h = when_no _ _ _ _ (left_other want _ 0 e z) (when_yes _ _ _ _ (left_is letter _ _ l (q ∙ e)) h)

    pub row_other : {x : Reader} {refusal : TextRefusal} →
        (letter ≡ want → ⊥) → refusal ≡ value_refusal row → x ≡ refuse_with r refusal → x ≡ quoted_in r b quote row
    unfolding quoted_in
    row_other q p h =
        when_no _ _ _ _ (left_other want _ 0 e z)
        (when_no _ _ _ _ (left_other letter _ _ l (λ k. q (k ∙ sym e))) (h ∙ ap (refuse_with r) p))
