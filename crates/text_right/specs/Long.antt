-- A byte of text leaves the room as long as it was.
--
--   kept_long, set_long, either_long      the room as it was, or with a byte written; the two ways of a test
--   tick_long         so does a byte, whatever the reader and the room are
--
-- R is the room. Assumes nothing.
use Rattle.std.specs.Prelude.{ℕ, ◌≡◌, Bool, List, length, set}
use Rattle.std.proofs.Math.Path.{refl}
use Rattle.std.proofs.Common.{length-set}
use Rattle.choice.specs.When.{when, when_either}
use Rattle.modes.specs.declared.Mode.{Mode}
use Rattle.modes.specs.declared.Mode.TheVariants as mode
use Rattle.modes.specs.declared.Reader.{Reader}
use Rattle.tags.specs.Markup.{Ticked, kept, begun, markup_tick, first_tick}
use Rattle.tags.specs.Tag.{name_byte, tag_tick, att_begun, gap_tick, named_tick, att_tick}
use Rattle.tick.specs.Tick.{tick_in, tick}

module _ (R : List ℕ) where
  pub kept_long : (x : Reader) → length (kept x R).room ≡ length R
  kept_long x = refl

  pub set_long : (x : Reader) (i v : ℕ) → length (kept x (set R i v)).room ≡ length R
  set_long x i v = length-set R i v

  pub either_long :
      (t : Bool) (x y : Ticked) → length x.room ≡ length R → length y.room ≡ length R → length (when t x y).room ≡ length R
  either_long t x y h k = when_either (λ (z : Ticked). length z.room ≡ length R) t x y h k

pub ruleset long = (kept_long, set_long, either_long)

module _ (M : List ℕ) (r : Reader) (b : ℕ) (R : List ℕ) where
  tick_in_long : (m : Mode) → length (tick_in m M r b R).room ≡ length R
  unfolding tick_in begun markup_tick first_tick name_byte tag_tick att_begun gap_tick named_tick att_tick
  tick_in_long (mode.Prolog p) = refl
  tick_in_long mode.First = search long depth 20
  tick_in_long mode.Around = refl
  tick_in_long mode.Data = refl
  tick_in_long mode.Bracket = refl
  tick_in_long mode.Brackets = refl
  tick_in_long mode.Markup = search long depth 20
  tick_in_long mode.Bang = refl
  tick_in_long mode.Note = refl
  tick_in_long mode.Dash = refl
  tick_in_long mode.Dashes = refl
  tick_in_long mode.Amper = refl
  tick_in_long mode.Char = refl
  tick_in_long mode.Tag = search long depth 20
  tick_in_long mode.Tagged = refl
  tick_in_long mode.Gap = search long depth 20
  tick_in_long mode.Att = search long depth 20
  tick_in_long mode.Equals = refl
  tick_in_long mode.Value = refl
  tick_in_long mode.Double = refl
  tick_in_long mode.Single = refl
  tick_in_long mode.Slash = refl
  tick_in_long mode.End = refl
  tick_in_long mode.Ended = refl

  pub tick_long : length (tick M r b R).room ≡ length R
  unfolding tick
  tick_long = tick_in_long r.mode
