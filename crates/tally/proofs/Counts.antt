-- The numbers after an event, by what was read and written.
--
--   count_open, count_close    after an open and after a close
--
-- Assumes nothing.
use Rattle.std.proofs.Common.{◌≡◌, ℕ, ◌+◌, ◌-◌, ◌%◌, ◌^◌, eqb, ap, ◌∙◌, ap₂}
use mir.Val.{bool_byte}
use Rattle.numbers.specs.Numbers.{Numbers, numbers_of}
use Rattle.tally.specs.Tally.{open_numbers, close_numbers}

module _ (n : Numbers) (held listed depth opened handed sum : ℕ) (ed : depth ≡ n.depth) (eo : opened ≡ n.opened) (eh : handed ≡ n.handed)
    (es : sum ≡ (handed + listed) % 2 ^ 32) where
  total : sum ≡ (n.handed + listed) % 2 ^ 32
  total = es ∙ ap (λ h. (h + listed) % 2 ^ 32) eh

  pub count_open : (n' : Numbers) → n' ≡ numbers_of (depth + 1) held (opened + 1) sum 0 n.stopped → n' ≡ open_numbers n held listed
  unfolding open_numbers
  count_open n' e =
      e ∙ ap₂ (λ d o. numbers_of (d + 1) held (o + 1) sum 0 n.stopped) ed eo
      ∙ ap (λ s. numbers_of (n.depth + 1) held (n.opened + 1) s 0 n.stopped) total

  pub count_close :
      (n' : Numbers) → n' ≡ numbers_of (depth - 1) held opened sum (bool_byte (eqb (depth - 1) 0)) n.stopped → n' ≡ close_numbers n held listed
  unfolding close_numbers
  count_close n' e =
      e ∙ ap₂ (λ d o. numbers_of (d - 1) held o sum (bool_byte (eqb (d - 1) 0)) n.stopped) ed eo
      ∙ ap (λ s. numbers_of (n.depth - 1) held n.opened s (bool_byte (eqb (n.depth - 1) 0)) n.stopped) total
