-- Some bytes of text at once.
--
--   innermost_of p             the slot of the innermost open element; the first where none is open
--   pace_in m r, pace_of r      which loop the mode has
--   in_mode, at_pace          by the mode, and by the pace, that was found
--   walked M r at t R         how far the loop goes in the text t that begins at `at`, how many bytes of a name are read then, and the room
--
-- M are the marks of the bytes, R the room. Assumes nothing.
use Rattle.std.specs.Prelude.{ℕ, ◌+◌, ◌-◌, ◌≡◌, List, eqb}
use Rattle.std.proofs.Common.{sym, ap, ◌∙◌}
use Rattle.choice.specs.When.{when}
use Rattle.chars.specs.Marks.{span}
use Rattle.slots.specs.Slots.{attribute_slot}
use Rattle.slots.specs.Copied.{Copied, copied, Agreed, agreed}
use Rattle.modes.specs.declared.Mode.{Mode}
use Rattle.modes.specs.declared.Mode.TheVariants as mode
use Rattle.modes.specs.declared.Reader.{Reader}
use Rattle.walk.specs.declared.Pace.{Pace}
use Rattle.walk.specs.declared.Pace.TheVariants as pace

unfoldable pub innermost_of : ℕ → ℕ
innermost_of p = when (eqb p 0) 0 (p - 1)

unfoldable pub pace_in : Mode → Reader → Pace
pace_in (mode.Prolog p) r = pace.Skips 0
pace_in mode.First r = pace.Skips 0
pace_in mode.Around r = pace.Skips 64
pace_in mode.Data r = pace.Skips 1
pace_in mode.Bracket r = pace.Skips 0
pace_in mode.Brackets r = pace.Skips 0
pace_in mode.Markup r = pace.Skips 0
pace_in mode.Bang r = pace.Skips 0
pace_in mode.Note r = pace.Skips 8
pace_in mode.Dash r = pace.Skips 0
pace_in mode.Dashes r = pace.Skips 0
pace_in mode.Amper r = pace.Skips 0
pace_in mode.Char r = pace.Skips 0
pace_in mode.Tag r = pace.Copies r.place
pace_in mode.Tagged r = pace.Skips 0
pace_in mode.Gap r = pace.Skips 64
pace_in mode.Att r = pace.Copies (attribute_slot + r.count)
pace_in mode.Equals r = pace.Skips 64
pace_in mode.Value r = pace.Skips 64
pace_in mode.Double r = pace.Skips 2
pace_in mode.Single r = pace.Skips 4
pace_in mode.Slash r = pace.Skips 0
pace_in mode.End r = pace.Agrees (innermost_of r.place)
pace_in mode.Ended r = pace.Skips 64

unfoldable pub pace_of : Reader → Pace
pace_of r = pace_in r.mode r

abbrev pub beside : Agreed → List ℕ → Copied
beside x R = record { at = x.at; n = x.n; room = R }

unfoldable pub walked_by : Pace → List ℕ → Reader → ℕ → List ℕ → List ℕ → Copied
walked_by (pace.Copies s) M r at t R = copied M R s r.n at t
walked_by (pace.Agrees s) M r at t R = beside (agreed R s r.n at t) R
walked_by (pace.Skips mark) M r at t R = record { at = at + span M mark t; n = r.n; room = R }

unfoldable pub walked : List ℕ → Reader → ℕ → List ℕ → List ℕ → Copied
walked M r at t R = walked_by (pace_of r) M r at t R

-- what is found in a mode that is known
pub in_mode : (r : Reader) {k : Mode} {x : Pace} → r.mode ≡ k → x ≡ pace_in k r → x ≡ pace_of r
unfolding pace_of
in_mode r e h = h ∙ ap (λ m. pace_in m r) (sym e)

-- what is found at a pace that is known
pub at_pace :
    {p k : Pace} (M : List ℕ) (r : Reader) (at : ℕ) (t R : List ℕ) {x : Copied}
    → p ≡ pace_of r
    → p ≡ k
    → x ≡ walked_by k M r at t R
    → x ≡ walked M r at t R
unfolding walked
at_pace M r at t R e f h = h ∙ ap (λ z. walked_by z M r at t R) (sym f ∙ e)
