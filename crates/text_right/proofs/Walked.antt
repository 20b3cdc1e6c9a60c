-- Some bytes of text at once: what a loop goes over is what the machine reads without an event.
--
--   walked_quiet         the bytes that the loop goes over are quiet, and take the reader and its room to where the loop says
--   walk_run             whatever comes then, the machine reads it from where the loop ends as after what the loop went over
--   walk_sound           the reader and its room are sound then
--
-- Assumes nothing.
use Rattle.std.specs.Prelude.{ℕ, ◌+◌, ◌-◌, ◌<◌, ◌≡◌, true, List, ◌++◌, length, get_or}
use Rattle.std.proofs.Common.{arith, sym, ◌∙◌, length-append}
use Rattle.std.proofs.Math.Path.{ap, subst}
use Rattle.std.proofs.Math.Bool.{false}
use Rattle.std.proofs.Math.Dec.{eqb}
use Rattle.std.proofs.Math.ListN.{get_or-append}
use borrow.Author.Tests.{ne_eqb, eq-eqb, lt-leb}
use Rattle.choice.specs.When.{when_true, when_false}
use Rattle.xml.specs.Class.{in_class, disjoint, disjoint_ranges, out_of}
use Rattle.xml.specs.Chars.{blank, name_start}
use Rattle.xml.specs.Machine.{run}
use Rattle.xml.specs.Limited.{bounds}
use Rattle.chars.specs.Marks.{marked}
use Rattle.slots.specs.Slots.{attribute_slot, base_of, length_in}
use Rattle.slots.specs.Copied.{agreed}
use Rattle.modes.specs.declared.Mode.{Mode}
use Rattle.modes.specs.declared.Mode.TheVariants as mode
use Rattle.modes.specs.declared.Reader.{Reader}
use Rattle.prolog.specs.Around.{around}
use Rattle.content.specs.Text.{data_tick, note_tick}
use Rattle.tags.specs.Markup.{kept}
use Rattle.tags.specs.Tag.{name_byte, tag_tick, gap_tick, att_tick, equals_tick, value_tick, quoted_tick}
use Rattle.text_right.proofs.Bounds.{not_long}
use Rattle.ends.specs.Ends.{ended_tick, end_tick}
use Rattle.tick.specs.Tick.{tick_in, tick}
use Rattle.walk.specs.Walk.{innermost_of, pace_in, pace_of, beside, walked_by, walked}
use Rattle.walk.specs.Turn.{here_after}
use Rattle.text_right.specs.Marked.{marks_table, start_mark, blank_mark}
use Rattle.text_right.specs.Stands.{state_of}
use Rattle.text_right.specs.Sound.{Inner, Back, Fits, Sound}
use Rattle.text_right.proofs.Values.{moded}
use Rattle.text_right.proofs.Ends.{other_class}
use Rattle.text_right.proofs.Quiet.{Bytes, quiet_run, quiet_sound}
use Rattle.text_right.proofs.Loops.{Walks, skips_walk, copies_walk, agrees_walk, none_walk}

-- a blank begins no name
blank_only : (b : ℕ) → marked marks_table b 64 ≡ true → marked marks_table b 32 ≡ false
unfolding in_class disjoint disjoint_ranges out_of
blank_only b e = start_mark b ∙ other_class name_start blank b tt (sym (blank_mark b) ∙ e)

-- the first bytes of some
front : (u v : List ℕ) → Bytes (u ++ v) → Bytes u
front u v f =
    record {
      each =
          λ i h.
          let k : i < length u = h in
          subst (λ x. x < 256) (get_or-append u v 0 i h) (f.each i (subst (λ n. i < n) (sym (length-append u v)) (omega arith)));
    }

module _ (r : Reader) (R t : List ℕ) (at : ℕ) where
  -- the walk in a mode
  In : Mode → Type 0
  In m = Walks (moded r m) R t at (walked_by (pace_in m (moded r m)) marks_table (moded r m) at t R)

  back_walks : {m : Mode} → Back R r.place r.count m → In m
  unfolding In walked_by pace_in tick tick_in data_tick note_tick quoted_tick
  back_walks (Back.data' h) = skips_walk (moded r mode.Data) R 1 (λ g z b e. ap (λ x. kept x R) (when_true _ _ _ e)) t r.gives r.refusal at
  back_walks (Back.note h) = skips_walk (moded r mode.Note) R 8 (λ g z b e. ap (λ x. kept x R) (when_true _ _ _ e)) t r.gives r.refusal at
  back_walks (Back.double h) = skips_walk (moded r mode.Double) R 2 (λ g z b e. ap (λ x. kept x R) (when_true _ _ _ e)) t r.gives r.refusal at
  back_walks (Back.single h) = skips_walk (moded r mode.Single) R 4 (λ g z b e. ap (λ x. kept x R) (when_true _ _ _ e)) t r.gives r.refusal at

  end_walks : Inner r.place → In mode.End
  unfolding In walked_by pace_in tick tick_in end_tick innermost_of
  end_walks i =
      let l = i.low in
      let ne : eqb r.place 0 ≡ false = ne_eqb r.place 0 (λ z. omega arith) in
      subst (λ s. Walks (moded r mode.End) R t at (beside (agreed R s r.n at t) R)) (sym (when_false (eqb r.place 0) 0 (r.place - 1) ne))
      (agrees_walk (moded r mode.End) R (r.place - 1)
      (λ g z n b h e.
      ap (λ x. kept x R)
      (when_false _ _ _ ne ∙ when_false _ _ _ (lt-leb (length_in R (r.place - 1)) n h) ∙ when_true _ _ _ (eq-eqb b (get_or R (base_of (r.place - 1) + n) 0) e)))
      t r.gives r.refusal r.n at)

  in_walks : {m : Mode} → Fits R r m → In m
  unfolding In walked_by pace_in tick tick_in around gap_tick equals_tick value_tick ended_tick tag_tick att_tick name_byte
  in_walks (Fits.prolog' {p = p} h k) = none_walk (moded r (mode.Prolog p)) R t at
  in_walks (Fits.first h) = none_walk (moded r mode.First) R t at
  in_walks (Fits.around h) = skips_walk (moded r mode.Around) R 64 (λ g z b e. ap (λ x. kept x R) (when_true _ _ _ e)) t r.gives r.refusal at
  in_walks (Fits.back h) = back_walks h
  in_walks (Fits.bracket h) = none_walk (moded r mode.Bracket) R t at
  in_walks (Fits.brackets h) = none_walk (moded r mode.Brackets) R t at
  in_walks (Fits.markup h) = none_walk (moded r mode.Markup) R t at
  in_walks (Fits.bang h k) = none_walk (moded r mode.Bang) R t at
  in_walks (Fits.dash h) = none_walk (moded r mode.Dash) R t at
  in_walks (Fits.dashes h) = none_walk (moded r mode.Dashes) R t at
  in_walks (Fits.amper h k) = none_walk (moded r mode.Amper) R t at
  in_walks (Fits.char h k i) = none_walk (moded r mode.Char) R t at
  in_walks (Fits.tag h k i) =
      copies_walk (moded r mode.Tag) r.place (λ g z n b S e l. when_true _ _ _ e ∙ when_false _ _ _ (not_long n l)) t r.gives r.refusal r.n at R
  in_walks (Fits.tagged h) = none_walk (moded r mode.Tagged) R t at
  in_walks (Fits.gap h) =
      skips_walk (moded r mode.Gap) R 64 (λ g z b e. when_false _ _ _ (blank_only b e) ∙ when_true _ _ _ e) t r.gives r.refusal at
  in_walks (Fits.att h k i j) =
      copies_walk (moded r mode.Att) (attribute_slot + r.count) (λ g z n b S e l. when_true _ _ _ e ∙ when_false _ _ _ (not_long n l)) t r.gives
      r.refusal r.n at R
  in_walks (Fits.equals h) = skips_walk (moded r mode.Equals) R 64 (λ g z b e. ap (λ x. kept x R) (when_true _ _ _ e)) t r.gives r.refusal at
  in_walks (Fits.value h) = skips_walk (moded r mode.Value) R 64 (λ g z b e. ap (λ x. kept x R) (when_true _ _ _ e)) t r.gives r.refusal at
  in_walks (Fits.slash h k) = none_walk (moded r mode.Slash) R t at
  in_walks (Fits.end h) = end_walks h
  in_walks (Fits.ended h) = skips_walk (moded r mode.Ended) R 64 (λ g z b e. ap (λ x. kept x R) (when_true _ _ _ e)) t r.gives r.refusal at

  module _ (s : Sound r R) where
    pub walked_quiet : Walks r R t at (walked marks_table r at t R)
    unfolding walked pace_of In
    walked_quiet = in_walks s.fits

    pub walk_run :
        Bytes t → (v : List ℕ)
        → run bounds (walked_quiet.over ++ v) (state_of r R)
        ≡ run bounds v (state_of (here_after r (walked marks_table r at t R)) (walked marks_table r at t R).room)
    walk_run f v = let w = walked_quiet in quiet_run v s (front w.over w.rest (subst Bytes w.split f)) w.quiet

    pub walk_sound : Bytes t → Sound (here_after r (walked marks_table r at t R)) (walked marks_table r at t R).room
    walk_sound f = let w = walked_quiet in quiet_sound s (front w.over w.rest (subst Bytes w.split f)) w.quiet
