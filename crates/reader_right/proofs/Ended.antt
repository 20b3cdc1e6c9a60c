-- The end of a text: what the code asks of the reader is whether the machine stands behind a whole document.
--
--   after_is             there is one state behind a whole document (specs/Ended)
--   fits_after           for a reader and its room that calls lead to this is what the code asks
--   finish_exactly       `finish` refuses nothing exactly if the text is a document;  finish_stops, finish_either: else it refuses with 44
--
-- R is the room. Assumes nothing.
use Rattle.std.specs.Prelude.{ℕ, ◌↔◌, ◌⊎◌, ◌≡◌, Bool, List, eqb}
use Rattle.std.proofs.Common.{arith, ◌∙◌, eq-eqb}
use Rattle.std.proofs.Math.Logic.{inl, inr}
use Rattle.std.proofs.Math.Path.{refl, sym, ap}
use Rattle.std.proofs.Math.Bool.{true, false}
use Rattle.choice.specs.When.{when, when_either, when_true, when_false, never}
use Rattle.xml.specs.Refused.{unended}
use Rattle.xml.specs.Grammar.{Ev, b0, b1, b2, Document}
use Rattle.xml.specs.Machine.{Place, State, stands}
use Rattle.xml.specs.Limited.{bounds}
use Rattle.reading.specs.Exactly.{accepts_exactly}
use Rattle.limits.specs.Number.{text_of}
use Rattle.modes.specs.declared.Mode.{Mode}
use Rattle.modes.specs.declared.Mode.TheVariants as mode
use Rattle.modes.specs.declared.Prolog.{Prolog}
use Rattle.modes.specs.declared.Prolog.TheVariants as prolog
use Rattle.modes.specs.declared.Reader.{Reader}
use Rattle.reader.specs.declared.Finished.{Finished}
use Rattle.reader.specs.Feed.{around_only, whole_at, finish_answer}
use Rattle.text_right.specs.Stands.{place_of, prolog_state, end_state, amper_state, bang_state, state_in, state_of}
use Rattle.text_right.specs.Sound.{Inner, Outer, before, after, Back, FitsIn, Fits}
use Rattle.text_right.proofs.Matched.{place_before, place_after, place_inner}
use Rattle.reader_right.specs.TextRead.{TextRead, used}
use Rattle.reader_right.specs.Ended.{is_after}

pub after_is : (s : State) → is_after s ≡ true → s ≡ State.at Place.after b0
unfolding is_after
after_is State.start e = never e
after_is State.fresh e = never e
after_is State.opening e = never e
after_is State.declared e = never e
after_is (State.rows rs q es s) e = never e
after_is (State.at Place.before k) e = never e
after_is (State.at (Place.inside n ns) k) e = never e
after_is (State.at Place.after b0) e = refl
after_is (State.at Place.after b1) e = never e
after_is (State.at Place.after b2) e = never e
after_is (State.markup p) e = never e
after_is (State.bang p) e = never e
after_is (State.note p) e = never e
after_is (State.dash p) e = never e
after_is (State.amper s) e = never e
after_is (State.tag p n) e = never e
after_is (State.tagged p n ms) e = never e
after_is (State.gap p n ms) e = never e
after_is (State.att p n ms m) e = never e
after_is (State.eqs p n ms m) e = never e
after_is (State.val p n ms m) e = never e
after_is (State.value p n ms m q) e = never e
after_is (State.ending n ns) e = never e
after_is (State.ended n ns) e = never e
after_is (State.told k) e = never e
after_is (State.apiece o) e = never e
after_is (State.part_eq o k) e = never e
after_is (State.part_val o k) e = never e

-- a bracket stands before
one_bracket : (p : Place) → is_after (State.at p b1) ≡ false
unfolding is_after
one_bracket Place.before = refl
one_bracket (Place.inside n ns) = refl
one_bracket Place.after = refl

two_brackets : (p : Place) → is_after (State.at p b2) ≡ false
unfolding is_after
two_brackets Place.before = refl
two_brackets (Place.inside n ns) = refl
two_brackets Place.after = refl

module _ (R : List ℕ) (r : Reader) where
  -- the state in a mode
  In : Mode → State
  In m = state_in R r.back r.place r.count r.row r.n m

  -- so it is in a mode which is not that around the document element
  elsewhere : (m : Mode) → around_only m ≡ false → is_after (In m) ≡ false → is_after (In m) ≡ whole_at r.place m
  unfolding whole_at
  elsewhere m e f = f ∙ sym (ap (λ z. when (eqb r.place 65_535) z false) e ∙ when_either (λ z. z ≡ false) _ false false refl refl)

  inner_data : Inner r.place → is_after (State.at (place_of R r.place) b0) ≡ false
  unfolding is_after
  inner_data i = ap (λ p. is_after (State.at p b0)) (place_inner R r.place i)

  around_after : Outer r.place → is_after (In mode.Around) ≡ whole_at r.place mode.Around
  unfolding In state_in is_after whole_at around_only when
  around_after (before e) =
      ap (λ p. is_after (State.at (place_of R p) b0)) e ∙ ap (λ p. is_after (State.at p b0)) (place_before R 0 refl)
      ∙ ap (λ p. when (eqb p 65_535) true false) (sym e)
  around_after (after e) =
      ap (λ p. is_after (State.at (place_of R p) b0)) e ∙ ap (λ p. is_after (State.at p b0)) (place_after R 65_535 refl)
      ∙ ap (λ p. when (eqb p 65_535) true false) (sym e)

  back_after : {m : Mode} → Back R r.place r.count m → is_after (In m) ≡ whole_at r.place m
  unfolding In state_in is_after around_only
  back_after (Back.data' h) = elsewhere mode.Data refl (inner_data h)
  back_after (Back.note h) = elsewhere mode.Note refl refl
  back_after (Back.double h) = elsewhere mode.Double refl refl
  back_after (Back.single h) = elsewhere mode.Single refl refl

  prolog_after : {p : Prolog} → FitsIn r p → is_after (In (mode.Prolog p)) ≡ whole_at r.place (mode.Prolog p)
  unfolding In state_in prolog_state is_after around_only
  prolog_after FitsIn.start = elsewhere (mode.Prolog prolog.Start) refl refl
  prolog_after (FitsIn.mark h) = elsewhere (mode.Prolog prolog.Mark) refl refl
  prolog_after FitsIn.fresh = elsewhere (mode.Prolog prolog.Fresh) refl refl
  prolog_after (FitsIn.xml h) = elsewhere (mode.Prolog prolog.Xml) refl refl
  prolog_after FitsIn.declared = elsewhere (mode.Prolog prolog.Declared) refl refl
  prolog_after (FitsIn.piece h) = elsewhere (mode.Prolog prolog.Piece) refl refl
  prolog_after (FitsIn.part h k) = elsewhere (mode.Prolog prolog.Part) refl refl
  prolog_after (FitsIn.part_equals h k) = elsewhere (mode.Prolog prolog.PartEquals) refl refl
  prolog_after (FitsIn.part_value h k) = elsewhere (mode.Prolog prolog.PartValue) refl refl
  prolog_after (FitsIn.part_double h) = elsewhere (mode.Prolog prolog.PartDouble) refl refl
  prolog_after (FitsIn.part_single h) = elsewhere (mode.Prolog prolog.PartSingle) refl refl
  prolog_after (FitsIn.told h) = elsewhere (mode.Prolog prolog.Told) refl refl
  prolog_after FitsIn.query = elsewhere (mode.Prolog prolog.Query) refl refl

  pub fits_after : {m : Mode} → Fits R r m → is_after (state_in R r.back r.place r.count r.row r.n m) ≡ whole_at r.place m
  unfolding In state_in end_state amper_state bang_state is_after around_only
  fits_after (Fits.prolog' h k) = prolog_after k
  fits_after (Fits.first h) = elsewhere mode.First refl refl
  fits_after (Fits.around h) = around_after h
  fits_after (Fits.back h) = back_after h
  fits_after (Fits.bracket h) = elsewhere mode.Bracket refl (one_bracket (place_of R r.place))
  fits_after (Fits.brackets h) = elsewhere mode.Brackets refl (two_brackets (place_of R r.place))
  fits_after (Fits.markup h) = elsewhere mode.Markup refl refl
  fits_after (Fits.bang h k) = elsewhere mode.Bang refl (when_either (λ s. is_after s ≡ false) _ _ _ refl refl)
  fits_after (Fits.dash h) = elsewhere mode.Dash refl refl
  fits_after (Fits.dashes h) = elsewhere mode.Dashes refl refl
  fits_after (Fits.amper h k) = elsewhere mode.Amper refl (when_either (λ s. is_after s ≡ false) _ _ _ refl refl)
  fits_after (Fits.char h k i) = elsewhere mode.Char refl refl
  fits_after (Fits.tag d k i) = elsewhere mode.Tag refl refl
  fits_after (Fits.tagged h) = elsewhere mode.Tagged refl refl
  fits_after (Fits.gap h) = elsewhere mode.Gap refl refl
  fits_after (Fits.att h k i j) = elsewhere mode.Att refl refl
  fits_after (Fits.equals h) = elsewhere mode.Equals refl refl
  fits_after (Fits.value h) = elsewhere mode.Value refl refl
  fits_after (Fits.slash d k) = elsewhere mode.Slash refl refl
  fits_after (Fits.end h) = elsewhere mode.End refl (when_either (λ s. is_after s ≡ false) _ _ _ refl refl)
  fits_after (Fits.ended h) = elsewhere mode.Ended refl refl

module _ (N X t : List ℕ) (r : Reader) (R : List ℕ) (es : List Ev) (h : TextRead N X t r R es) where
  asked : is_after (state_of r (used R)) ≡ whole_at r.place r.mode
  asked = fits_after (used R) r h.sound.fits

  by_whole : (b : Bool) → whole_at r.place r.mode ≡ b → text_of (finish_answer r).refusal ≡ when b 0 unended
  unfolding finish_answer when
  by_whole true e = ap (λ (z : Finished). text_of z.refusal) (when_true _ _ _ (eq-eqb r.refusal 0 h.unrefused) ∙ when_true _ _ _ e)
  by_whole false e = ap (λ (z : Finished). text_of z.refusal) (when_true _ _ _ (eq-eqb r.refusal 0 h.unrefused) ∙ when_false _ _ _ e)

  whole_none : text_of (finish_answer r).refusal ≡ 0 → whole_at r.place r.mode ≡ true
  unfolding when
  whole_none e = go (whole_at r.place r.mode) refl
    where
      go : (b : Bool) → whole_at r.place r.mode ≡ b → whole_at r.place r.mode ≡ true
      go true w = w
      go false w = absurd (omega (arith, e, by_whole false w))

  pub finish_exactly : (text_of (finish_answer r).refusal ≡ 0) ↔ Document bounds t es
  unfolding is_after when
  finish_exactly = (
    λ e. (accepts_exactly bounds t es).0 (h.reads ∙ ap (stands es) (after_is (state_of r (used R)) (asked ∙ whole_none e))),
    λ d.
        let s : state_of r (used R) ≡ State.at Place.after b0 = let q = sym h.reads ∙ (accepts_exactly bounds t es).1 d in cc in
        by_whole true (sym asked ∙ ap is_after s),
  )

  -- 44 is the only other answer, and stops the reader
  pub finish_stops :
      (text_of (finish_answer r).refusal ≡ 0 → ⊥)
      → (text_of (finish_answer r).refusal ≡ unended) × ((finish_answer r).reader.refusal ≡ unended)
  unfolding finish_answer when
  finish_stops wrong = go (whole_at r.place r.mode) refl
    where
      go : (b : Bool) → whole_at r.place r.mode ≡ b → (text_of (finish_answer r).refusal ≡ unended) × ((finish_answer r).reader.refusal ≡ unended)
      go true e = absurd (wrong (by_whole true e))
      go false e =
          let z = when_true _ _ _ (eq-eqb r.refusal 0 h.unrefused) ∙ when_false _ _ _ e in
          (by_whole false e, ap (λ (a : Finished). a.reader.refusal) z)

  pub finish_either : (text_of (finish_answer r).refusal ≡ 0) ⊎ (text_of (finish_answer r).refusal ≡ unended)
  unfolding when
  finish_either = go (whole_at r.place r.mode) refl
    where
      go : (b : Bool) → whole_at r.place r.mode ≡ b → (text_of (finish_answer r).refusal ≡ 0) ⊎ (text_of (finish_answer r).refusal ≡ unended)
      go true e = inl (by_whole true e)
      go false e = inr (by_whole false e)
