-- A move by a number that a call has answered: what a return goes by, beside `tests`.
--
--   spelled_row, spelled_on, gone_aside      the number answered is the one that is meant
--   moved                                    these laws, for a search
--
-- The laws take all their arguments, so that a search can give them. Assumes nothing.
use Rattle.std.specs.Prelude.{ℕ, ◌≡◌}
use Rattle.std.proofs.Common.{ap, ◌∙◌}
use Rattle.modes.specs.declared.Mode.{Mode}
use Rattle.modes.specs.declared.Reader.{Reader}
use Rattle.modes.specs.Moves.{spell_on, go_aside}

pub spelled_row : (x r : Reader) (m : Mode) (row q n : ℕ) → row ≡ q → x ≡ spell_on r m row n → x ≡ spell_on r m q n
spelled_row x r m row q n e h = h ∙ ap (λ k. spell_on r m k n) e

pub spelled_on : (x r : Reader) (m : Mode) (row n k : ℕ) → n ≡ k → x ≡ spell_on r m row n → x ≡ spell_on r m row k
spelled_on x r m row n k e h = h ∙ ap (spell_on r m row) e

pub gone_aside : (x r : Reader) (m : Mode) (n k : ℕ) (back : Mode) → n ≡ k → x ≡ go_aside r m n back → x ≡ go_aside r m k back
gone_aside x r m n k back e h = h ∙ ap (λ j. go_aside r m j back) e

pub ruleset moved = (spelled_row, spelled_on, gone_aside)
