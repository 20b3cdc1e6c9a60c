-- The bytes that a loop takes, and the one after them.
--
--   Turned                  the reader, how far it went, and the room
--   ticked_at x end          after the byte at `end`, which came to x: past it, or before it where it was refused
--   turned_from M r t w      after the loop went as w says
--   turning                 what a turn of the code goes by
--   turned M r t at R       a turn from `at` on in the text t
--   turn_end, turn_refused, turn_on      at the text's end, at a byte that is refused, and at one that is taken
--
-- M are the marks of the bytes, R the room. Assumes nothing.
use Rattle.std.specs.Prelude.{ℕ, ◌+◌, ◌≤◌, ◌<◌, ◌≡◌, List, eqb, leb, length, get_or, drop}
use Rattle.std.proofs.Math.Path.{sym, ap}
use Rattle.std.proofs.Common.{◌∙◌, eq-eqb, ne_eqb, le-leb}
use Rattle.std.proofs.lemmas.Bool.{lt-leb}
use Rattle.choice.specs.When.{when, when_true, when_false}
use Rattle.choice.specs.Tests.{tests}
use Rattle.slots.specs.Copied.{Copied}
use Rattle.modes.specs.declared.Reader.{Reader}
use Rattle.modes.specs.Moves.{spell_on}
use Rattle.tags.specs.Markup.{Ticked}
use Rattle.tick.specs.Tick.{tick}
use Rattle.walk.specs.Walk.{walked}

pub record Turned : Type 0 where
  pub reader : Reader
  pub at : ℕ
  pub room : List ℕ

unfoldable pub ticked_at : Ticked → ℕ → Turned
ticked_at x end = record { reader = x.reader; at = when (eqb x.reader.refusal 0) (end + 1) end; room = x.room }

-- the reader after the loop
abbrev pub here_after : Reader → Copied → Reader
here_after r w = spell_on r r.mode r.row w.n

unfoldable pub turned_from : List ℕ → Reader → List ℕ → Copied → Turned
turned_from M r t w =
    when (leb (length t) w.at) (record { reader = here_after r w; at = w.at; room = w.room })
    (ticked_at (tick M (here_after r w) (get_or t w.at 0) w.room) w.at)

unfoldable pub turned : List ℕ → Reader → List ℕ → ℕ → List ℕ → Turned
turned M r t at R = turned_from M r t (walked M r at (drop at t) R)

module _
    (M : List ℕ) (r : Reader) (t : List ℕ) (at : ℕ) (R : List ℕ) (w : Copied) (e : w ≡ walked M r at (drop at t) R) {h : Reader} (s : h ≡ here_after r w)
  where
    whole : turned_from M r t w ≡ turned M r t at R
    unfolding turned
    whole = ap (turned_from M r t) e

    pub turn_end : length t ≤ w.at → record { reader = h; at = w.at; room = w.room } ≡ turned M r t at R
    unfolding turned_from
    turn_end l =
        ap (λ z. record { reader = z; at = w.at; room = w.room }) s ∙ sym (when_true _ _ _ (le-leb (length t) w.at l)) ∙ whole

    module _ (l : w.at < length t) (x : Ticked) (k : x ≡ tick M h (get_or t w.at 0) w.room) where
      ticks : ticked_at x w.at ≡ turned M r t at R
      unfolding turned_from
      ticks =
          ap (λ z. ticked_at z w.at) (k ∙ ap (λ z. tick M z (get_or t w.at 0) w.room) s)
          ∙ sym (when_false _ _ _ (lt-leb (length t) w.at l))
          ∙ whole

      pub turn_refused : (x.reader.refusal ≡ 0 → ⊥) → record { reader = x.reader; at = w.at; room = x.room } ≡ turned M r t at R
      unfolding ticked_at
      turn_refused f = ap (λ z. record { reader = x.reader; at = z; room = x.room }) (sym (when_false _ (w.at + 1) _ (ne_eqb _ 0 f))) ∙ ticks

      pub turn_on : x.reader.refusal ≡ 0 → record { reader = x.reader; at = w.at + 1; room = x.room } ≡ turned M r t at R
      unfolding ticked_at
      turn_on f = ap (λ z. record { reader = x.reader; at = z; room = x.room }) (sym (when_true _ _ w.at (eq-eqb _ 0 f))) ∙ ticks

pub ruleset turning = (tests)
