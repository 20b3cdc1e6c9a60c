-- The kind of a mode's loop, and the mark that it goes by.
--
--   kind_in m                 a loop that goes over bytes with a mark, or that of a name in a start tag, of an attribute, or in an end tag
--   mark_in m                 the mark; 0, which no byte has, where the loop is another
--   pace_by k mark r          the loop of the kind k
--   by_kind, of_kind         by kind and mark it is the loop that the mode has;  kind_and_mark: the same, as the code goes by it
--   skips, agrees, copies_tag, copies_attribute      what it is, by the kind that was found
--
-- Assumes nothing.
use Rattle.std.specs.Prelude.{ℕ, ◌+◌, ◌≡◌, refl}
use Rattle.std.proofs.Common.{sym, ap, ◌∙◌}
use Rattle.slots.specs.Slots.{attribute_slot}
use Rattle.modes.specs.declared.Mode.{Mode}
use Rattle.modes.specs.declared.Mode.TheVariants as mode
use Rattle.modes.specs.declared.Reader.{Reader}
use Rattle.walk.specs.declared.Kind.{Kind}
use Rattle.walk.specs.declared.Kind.TheVariants as kind
use Rattle.walk.specs.declared.Pace.{Pace}
use Rattle.walk.specs.declared.Pace.TheVariants as pace
use Rattle.walk.specs.Walk.{innermost_of, pace_in, pace_of}

unfoldable pub kind_in : Mode → Kind
kind_in mode.Tag = kind.TagName
kind_in mode.Att = kind.AttributeName
kind_in mode.End = kind.EndName
kind_in _ = kind.Skips

unfoldable pub mark_in : Mode → ℕ
mark_in mode.Around = 64
mark_in mode.Data = 1
mark_in mode.Note = 8
mark_in mode.Gap = 64
mark_in mode.Equals = 64
mark_in mode.Value = 64
mark_in mode.Double = 2
mark_in mode.Single = 4
mark_in mode.Ended = 64
mark_in _ = 0

abbrev pub pace_by : Kind → ℕ → Reader → Pace
pace_by kind.Skips mark r = pace.Skips mark
pace_by kind.TagName mark r = pace.Copies r.place
pace_by kind.AttributeName mark r = pace.Copies (attribute_slot + r.count)
pace_by kind.EndName mark r = pace.Agrees (innermost_of r.place)

pub by_kind : (m : Mode) (r : Reader) → pace_by (kind_in m) (mark_in m) r ≡ pace_in m r
unfolding kind_in mark_in pace_in
by_kind (mode.Prolog p) r = refl
by_kind mode.First r = refl
by_kind mode.Around r = refl
by_kind mode.Data r = refl
by_kind mode.Bracket r = refl
by_kind mode.Brackets r = refl
by_kind mode.Markup r = refl
by_kind mode.Bang r = refl
by_kind mode.Note r = refl
by_kind mode.Dash r = refl
by_kind mode.Dashes r = refl
by_kind mode.Amper r = refl
by_kind mode.Char r = refl
by_kind mode.Tag r = refl
by_kind mode.Tagged r = refl
by_kind mode.Gap r = refl
by_kind mode.Att r = refl
by_kind mode.Equals r = refl
by_kind mode.Value r = refl
by_kind mode.Double r = refl
by_kind mode.Single r = refl
by_kind mode.Slash r = refl
by_kind mode.End r = refl
by_kind mode.Ended r = refl

-- the same, as the code goes by it
pub kind_and_mark : (m : Mode) (r : Reader) → pace_in m r ≡ pace_by (kind_in m) (mark_in m) r
kind_and_mark m r = sym (by_kind m r)

-- the kind and the mark that were found in a reader's mode
pub of_kind : (r : Reader) {k : Kind} {x : Pace} → x ≡ pace_by k (mark_in r.mode) r → k ≡ kind_in r.mode → x ≡ pace_of r
unfolding pace_of
of_kind r e f = e ∙ ap (λ (j : Kind). pace_by j (mark_in r.mode) r) f ∙ by_kind r.mode r

module _ (k : Kind) (mark : ℕ) (r : Reader) where
  pub skips : k ≡ kind.Skips → pace.Skips mark ≡ pace_by k mark r
  skips e = ap (λ (j : Kind). pace_by j mark r) (sym e)

  pub agrees : k ≡ kind.EndName → pace.Agrees (innermost_of r.place) ≡ pace_by k mark r
  agrees e = ap (λ (j : Kind). pace_by j mark r) (sym e)

  pub copies_tag : k ≡ kind.TagName → pace.Copies r.place ≡ pace_by k mark r
  copies_tag e = ap (λ (j : Kind). pace_by j mark r) (sym e)

  pub copies_attribute : k ≡ kind.AttributeName → pace.Copies (attribute_slot + r.count) ≡ pace_by k mark r
  copies_attribute e = ap (λ (j : Kind). pace_by j mark r) (sym e)
