-- One byte of text: what the code does is the machine's step.
--
--   prolog_right      in a mode of the prolog;  in_right: in any mode
--   tick_right        for a reader and a room that calls lead to, and any byte
--   next, room        the reader and its room after the byte
--   tick_goes, tick_stops      so, as equations: where the code goes on, and where it refuses;  tick_sound: what it goes on with is sound
--
-- Assumes nothing.
use Rattle.std.specs.Prelude.{ℕ, ◌<◌, ◌≡◌, refl, List}
use Rattle.std.proofs.Common.{arith}
use Rattle.xml.specs.Machine.{Outcome, refused, goes, step}
use Rattle.xml.specs.Limited.{bounds}
use Rattle.modes.specs.declared.Mode.{Mode}
use Rattle.modes.specs.declared.Mode.TheVariants as mode
use Rattle.modes.specs.declared.Prolog.{Prolog}
use Rattle.modes.specs.declared.Reader.{Reader}
use Rattle.prolog.specs.Tick.{prolog_tick}
use Rattle.tick.specs.Tick.{tick_in, tick}
use Rattle.text_right.specs.Marked.{marks_table}
use Rattle.text_right.specs.Stands.{prolog_state, state_in, state_of, evs_of}
use Rattle.text_right.specs.Sound.{Kept, Back, FitsIn, Fits, Sound}
use Rattle.text_right.proofs.Matched.{Matches, Ticks}
use Rattle.text_right.proofs.Content.{char_right, around_right, data_right, bracket_right, brackets_right}
use Rattle.text_right.proofs.Content.{note_right, dash_right, dashes_right, bang_right}
use Rattle.text_right.proofs.Values
use Rattle.text_right.proofs.Values.{tagged_right}
use Rattle.text_right.proofs.Ends.{slash_right, ended_right, end_right}
use Rattle.text_right.proofs.Markup.{markup_right, first_right}
use Rattle.text_right.proofs.Names.{tag_right, gap_right, att_right}
use Rattle.text_right.proofs.Entities.{amper_right}
use Rattle.text_right.proofs.Opening.{start_right, mark_right, fresh_right, xml_right, declared_right, told_right, query_right}
use Rattle.text_right.proofs.Parts
use Rattle.text_right.proofs.Parts.{piece_right, part_right}
use Rattle.text_right.proofs.Quoted

module _ (r : Reader) (R : List ℕ) (b : ℕ) (kept : Kept R r.place) (l : b < 256) where
  pub prolog_right :
      {p : Prolog} → FitsIn r p → r.place ≡ 0 → r.mode ≡ mode.Prolog p
      → Matches (step bounds (prolog_state R r.back r.place r.count r.row r.n p) b) (prolog_tick p marks_table r b) R
  unfolding prolog_state prolog_tick
  prolog_right FitsIn.start at e = start_right r R b kept at
  prolog_right (FitsIn.mark h) at e = mark_right r R b kept at h
  prolog_right FitsIn.fresh at e = fresh_right r R b kept at
  prolog_right (FitsIn.xml h) at e = xml_right r R b kept at h
  prolog_right FitsIn.declared at e = declared_right r R b kept at l
  prolog_right (FitsIn.piece h) at e = piece_right r R b kept at h
  prolog_right (FitsIn.part h k) at e = part_right r R b kept at h k
  prolog_right (FitsIn.part_equals h k) at e = Parts.equals_right r R b kept at h k
  prolog_right (FitsIn.part_value h k) at e = Parts.value_right r R b kept at h k
  prolog_right (FitsIn.part_double h) at e = Quoted.double_right r R b kept at l e h
  prolog_right (FitsIn.part_single h) at e = Quoted.single_right r R b kept at l e h
  prolog_right (FitsIn.told h) at e = told_right r R b kept at h
  prolog_right FitsIn.query at e = query_right r R b kept at

  back_right :
      {m : Mode} → Back R r.place r.count m → r.mode ≡ m
      → Ticks (step bounds (state_in R r.back r.place r.count r.row r.n m) b) (tick_in m marks_table r b R)
  unfolding state_in tick_in
  back_right (Back.data' h) e = data_right r R b kept l h
  back_right (Back.note h) e = note_right r R b kept l h
  back_right (Back.double h) e = Values.double_right r R b kept l e h
  back_right (Back.single h) e = Values.single_right r R b kept l e h

  pub in_right :
      {m : Mode} → Fits R r m → r.mode ≡ m
      → Ticks (step bounds (state_in R r.back r.place r.count r.row r.n m) b) (tick_in m marks_table r b R)
  unfolding state_in tick_in
  in_right (Fits.prolog' at h) e = prolog_right h at e
  in_right (Fits.first at) e = first_right r R b kept l at
  in_right (Fits.around h) e = around_right r R b kept h
  in_right (Fits.back h) e = back_right h e
  in_right (Fits.bracket h) e = bracket_right r R b kept l h
  in_right (Fits.brackets h) e = brackets_right r R b kept l h
  in_right (Fits.markup h) e = markup_right r R b kept l h
  in_right (Fits.bang h k) e = bang_right r R b kept h k
  in_right (Fits.dash h) e = dash_right r R b kept l h
  in_right (Fits.dashes h) e = dashes_right r R b kept h
  in_right (Fits.amper h k) e = amper_right r R b kept l h k
  in_right (Fits.char h low high) e = char_right r R b kept l h low high
  in_right (Fits.tag deep low most) e = tag_right r R b kept deep low most l
  in_right (Fits.tagged h) e = tagged_right r R b kept h
  in_right (Fits.gap h) e = gap_right r R b kept l h
  in_right (Fits.att h few low most) e = att_right r R b kept h few low most l
  in_right (Fits.equals h) e = Values.equals_right r R b kept h
  in_right (Fits.value h) e = Values.value_right r R b kept h
  in_right (Fits.slash deep named) e = slash_right r R b kept deep named
  in_right (Fits.end h) e = end_right r R b kept l h
  in_right (Fits.ended h) e = ended_right r R b kept h

pub tick_right : (r : Reader) (R : List ℕ) (b : ℕ) → Sound r R → b < 256 → Ticks (step bounds (state_of r R) b) (tick marks_table r b R)
unfolding tick
tick_right r R b s l = in_right r R b s.kept l s.fits refl

-- the same, as equations
unfolded_goes : {o : Outcome} {x : Reader} {R : List ℕ} → x.refusal ≡ 0 → Matches o x R → o ≡ goes (evs_of x R) (state_of x R)
unfolded_goes e (Matches.moves f g h) = g
unfolded_goes e (Matches.stops f g) = absurd (omega arith)

unfolded_sound : {o : Outcome} {x : Reader} {R : List ℕ} → x.refusal ≡ 0 → Matches o x R → Sound x R
unfolded_sound e (Matches.moves f g h) = h
unfolded_sound e (Matches.stops f g) = absurd (omega arith)

unfolded_stops : {o : Outcome} {x : Reader} {R : List ℕ} → 0 < x.refusal → Matches o x R → o ≡ refused x.refusal
unfolded_stops e (Matches.moves f g h) = absurd (omega arith)
unfolded_stops e (Matches.stops f g) = g

module _ (r : Reader) (R : List ℕ) (b : ℕ) (s : Sound r R) (l : b < 256) where
  -- the reader and its room after the byte
  abbrev pub next : Reader
  next = (tick marks_table r b R).reader

  abbrev pub room : List ℕ
  room = (tick marks_table r b R).room

  pub tick_goes : next.refusal ≡ 0 → step bounds (state_of r R) b ≡ goes (evs_of next room) (state_of next room)
  tick_goes e = unfolded_goes e (tick_right r R b s l)

  pub tick_sound : next.refusal ≡ 0 → Sound next room
  tick_sound e = unfolded_sound e (tick_right r R b s l)

  pub tick_stops : 0 < next.refusal → step bounds (state_of r R) b ≡ refused next.refusal
  tick_stops e = unfolded_stops e (tick_right r R b s l)
