-- Where a byte of text takes the reader, by what it gives.
--
--   Placed r x           from the reader r to the reader x: with nothing given, or a comment, the place stays; an open is one element deeper, and a close one
--                        less deep; after an empty element as many are open as before it
--   moved, either, either_ticked      a move that gives nothing; the two ways of a test
--   tick_placed          so does a byte for a reader and its room that calls lead to
--
-- Assumes nothing.
use Rattle.std.specs.Prelude.{ℕ, ◌+◌, ◌-◌, ◌≤◌, ◌<◌, ◌≡◌, Bool, List, eqb, leb}
use native.Mathlib.Omega.{arith}
use Rattle.std.proofs.Math.Path.{refl, sym}
use Rattle.std.proofs.Common.{◌∙◌}
use borrow.Author.Tests.{eqb-true, leb-true, leb-false}
use Rattle.choice.specs.When.{when, when_either, when_known}
use Rattle.meaning.specs.Limits.{depth_limit}
use Rattle.meaning.proofs.Limits.Laws.{depth_is}
use Rattle.modes.specs.declared.Mode.{Mode}
use Rattle.modes.specs.declared.Mode.TheVariants as mode
use Rattle.modes.specs.declared.Prolog.{Prolog}
use Rattle.modes.specs.declared.Prolog.TheVariants as prolog
use Rattle.modes.specs.declared.Gives.TheVariants as gives
use Rattle.modes.specs.declared.Reader.{Reader}
use Rattle.modes.specs.Moves.{after_place, open_at}
use Rattle.prolog.specs.Around.{around, start_tick, mark_tick, xml_tick, declared_tick, query_tick}
use Rattle.prolog.specs.Told as told
use Rattle.prolog.specs.Told.{piece_tick, told_tick, part_tick, part_equals_tick, part_value_tick, quoted_in}
use Rattle.prolog.specs.Tick.{prolog_tick}
use Rattle.content.specs.Text.{wide_tick, char_tick, data_tick, bang_tick, note_tick, remarked_tick, entity_tick, amper_tick}
use Rattle.tags.specs.Markup.{Ticked, begun, slashed_tick, markup_tick, first_tick}
use Rattle.tags.specs.Tag.{name_byte, tag_end, tag_tick, tagged_tick, att_begun, gap_tick}
use Rattle.tags.specs.Tag.{named_tick, att_tick, equals_tick, value_tick, att_ended, quoted_tick}
use Rattle.ends.specs.Ends.{emptied_tick, closed, ended_tick, whole_tick, end_tick}
use Rattle.tick.specs.Tick.{tick_in, tick}
use Rattle.text_right.specs.Sound.{Inner, Back, Fits, Sound}
use Rattle.text_right.proofs.Frames.{open_is}

pub after_none : open_at after_place ≡ 0
unfolding open_at when
after_none = refl

pub data Placed (r x : Reader) : Type 0 where
  -- nothing is given, or the byte is refused
  still : x.gives ≡ gives.Nothing → x.place ≡ r.place → Placed r x
  remarked : x.gives ≡ gives.Remark → x.refusal ≡ 0 → x.place ≡ r.place → Placed r x
  deeper : x.gives ≡ gives.Open → x.refusal ≡ 0 → x.mode ≡ mode.Data → x.place ≡ r.place + 1 → r.place < 256 → Placed r x
  higher : x.gives ≡ gives.Close → x.refusal ≡ 0 → open_at x.place ≡ r.place - 1 → 1 ≤ r.place → r.place ≤ 256 → Placed r x
  empty : x.gives ≡ gives.Both → x.refusal ≡ 0 → open_at x.place ≡ r.place → r.place < 256 → Placed r x

module _ (r : Reader) where
  pub moved :
      (m b : Mode) (n row count refusal : ℕ)
      → Placed r (record { mode = m; back = b; n = n; row = row; count = count; gives = gives.Nothing; refusal = refusal; place = r.place })
  moved m b n row count refusal = Placed.still refl refl

  pub either : (t : Bool) (x y : Reader) → Placed r x → Placed r y → Placed r (when t x y)
  either t x y h k = when_either (Placed r) t x y h k

  pub either_ticked : (t : Bool) (x y : Ticked) → Placed r x.reader → Placed r y.reader → Placed r (when t x y).reader
  either_ticked t x y h k = when_either (λ (z : Ticked). Placed r z.reader) t x y h k

pub ruleset placing = (moved, either, either_ticked)

module _ (M : List ℕ) (r : Reader) (b : ℕ) (R : List ℕ) where
  prolog_placed : (p : Prolog) → Placed r (prolog_tick p M r b)
  unfolding
      prolog_tick start_tick around mark_tick xml_tick declared_tick query_tick piece_tick told_tick part_tick part_equals_tick part_value_tick quoted_in
      told.quoted_tick
  prolog_placed prolog.Start = search placing depth 20
  prolog_placed prolog.Mark = search placing depth 20
  prolog_placed prolog.Fresh = search placing depth 20
  prolog_placed prolog.Xml = search placing depth 20
  prolog_placed prolog.Declared = search placing depth 20
  prolog_placed prolog.Piece = search placing depth 20
  prolog_placed prolog.Part = search placing depth 20
  prolog_placed prolog.PartEquals = search placing depth 20
  prolog_placed prolog.PartValue = search placing depth 20
  prolog_placed prolog.PartDouble = search placing depth 20
  prolog_placed prolog.PartSingle = search placing depth 20
  prolog_placed prolog.Told = search placing depth 20
  prolog_placed prolog.Query = search placing depth 20

  remarked_placed : Placed r (remarked_tick r b)
  unfolding remarked_tick
  remarked_placed =
      either r _ _ _ (either r _ _ _ (Placed.still refl refl) (either r _ _ _ (Placed.still refl refl) (Placed.remarked refl refl refl)))
      (Placed.still refl refl)

  end_placed : Placed r (tag_end r b)
  unfolding tag_end
  end_placed =
      either r _ _ _ (Placed.still refl refl)
      (either r _ _ _
      (when_known (Placed r) (leb depth_limit r.place) _ _ (λ e. Placed.still refl refl)
      (λ e.
      let h : r.place < depth_limit = leb-false _ _ e in
      let d = depth_is in
      Placed.deeper refl refl refl refl (omega arith)))
      (Placed.still refl refl))

  closed_placed : Inner r.place → Placed r (closed r)
  unfolding closed
  closed_placed i =
      let low = i.low in
      let high = i.high in
      when_known (Placed r) (leb r.place 1) _ _
      (λ e.
      let h : r.place ≤ 1 = leb-true _ _ e in
      Placed.higher refl refl (after_none ∙ (let z : 0 ≡ r.place - 1 = omega arith in z)) low high)
      (λ e. Placed.higher refl refl (open_is (r.place - 1) (omega arith)) low high)

  ended_placed : Inner r.place → Placed r (ended_tick M r b)
  unfolding ended_tick
  ended_placed i = either r _ _ _ (Placed.still refl refl) (either r _ _ _ (closed_placed i) (Placed.still refl refl))

  endtag_placed : Inner r.place → Placed r (end_tick M r b R)
  unfolding end_tick whole_tick
  endtag_placed i =
      either r _ _ _ (Placed.still refl refl)
      (either r _ _ _ (either r _ _ _ (Placed.still refl refl) (either r _ _ _ (Placed.still refl refl) (ended_placed i)))
      (either r _ _ _ (Placed.still refl refl) (Placed.still refl refl)))

  emptied_placed : r.place < 256 → Placed r (emptied_tick r b)
  unfolding emptied_tick
  emptied_placed d =
      either r _ _ _
      (when_known (Placed r) (eqb r.place 0) _ _
      (λ e.
      let h : r.place ≡ 0 = eqb-true _ _ e in
      Placed.empty refl refl (after_none ∙ sym h) d)
      (λ e. Placed.empty refl refl (open_is r.place (omega arith)) d))
      (Placed.still refl refl)

  In : Mode → Type 0
  In m = Placed r (tick_in m M r b R).reader

  back_placed : {m : Mode} → Back R r.place r.count m → In m
  unfolding In tick_in data_tick note_tick quoted_tick att_ended wide_tick
  back_placed (Back.data' h) = search placing depth 20
  back_placed (Back.note h) = search placing depth 20
  back_placed (Back.double h) = search placing depth 20
  back_placed (Back.single h) = search placing depth 20

  in_placed : {m : Mode} → Fits R r m → In m
  unfolding
      In tick_in around data_tick wide_tick bang_tick note_tick entity_tick amper_tick char_tick begun slashed_tick markup_tick first_tick name_byte
      tag_tick tagged_tick att_begun
      gap_tick named_tick att_tick equals_tick value_tick
  in_placed (Fits.prolog' {p = p} h k) = prolog_placed p
  in_placed (Fits.first h) = search placing depth 20
  in_placed (Fits.around h) = search placing depth 20
  in_placed (Fits.back h) = back_placed h
  in_placed (Fits.bracket h) = search placing depth 20
  in_placed (Fits.brackets h) = search placing depth 20
  in_placed (Fits.markup h) = search placing depth 20
  in_placed (Fits.bang h k) = search placing depth 20
  in_placed (Fits.dash h) = search placing depth 20
  in_placed (Fits.dashes h) = remarked_placed
  in_placed (Fits.amper h k) = search placing depth 20
  in_placed (Fits.char h k i) = search placing depth 20
  in_placed (Fits.tag d k i) = search (placing, end_placed) depth 20
  in_placed (Fits.tagged h) = search (placing, end_placed) depth 20
  in_placed (Fits.gap h) = search (placing, end_placed) depth 20
  in_placed (Fits.att h k i j) = search placing depth 20
  in_placed (Fits.equals h) = search placing depth 20
  in_placed (Fits.value h) = search placing depth 20
  in_placed (Fits.slash d k) = emptied_placed d
  in_placed (Fits.end h) = endtag_placed h
  in_placed (Fits.ended h) = ended_placed h

  pub tick_placed : Sound r R → Placed r (tick M r b R).reader
  unfolding tick In
  tick_placed s = in_placed s.fits
