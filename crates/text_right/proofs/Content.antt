-- Character data, comments and characters of several bytes, byte by byte.
--
--   wide_right, char_right        the first byte of a character of several bytes, and another
--   back_is, inner_of              the state that the reader comes back to; a place that is inside
--   around_right                  around the document element
--   data_right, bracket_right, brackets_right        character data, by the ']' at its end
--   note_right, dash_right, dashes_right, bang_right        a comment, from its '<!' on
--
-- Assumes nothing.
use Rattle.std.specs.Prelude.{ℕ, ◌≤◌, ◌<◌, ◌≡◌, ◌⊎◌, Bool, eqb}
use Rattle.std.proofs.Common.{arith, sym, ◌∙◌, inl, inr}
use Rattle.std.proofs.Math.Path.{refl, ap, subst}
use Rattle.std.proofs.Math.Bool.{true, false}
use mathlib.Core.List.{List, [], ◌∷◌}
use borrow.Author.Tests.{ne_eqb, eqb-true, eqb-false}
use Rattle.choice.specs.When.{when, when_true, when_false}
use Rattle.xml.specs.Class.{in_class, keep, derive, word}
use Rattle.xml.specs.Chars.{utf8, plain, blank}
use Rattle.xml.specs.Refused.{misplaced, not_char}
use Rattle.xml.specs.Grammar.{Br, b0, b1, b2, bracket}
use Rattle.xml.specs.Machine.{Place, State, refused, goes, Arms, one_of, lit, greater, settle, pick, step, then_byte, remarks}
use Rattle.xml.specs.Limited.{bounds}
use Rattle.chars.specs.Forms.{lead_form, follows, whole}
use Rattle.limits.specs.declared.TextRefusal.TheVariants.{Cdata, Doctype, Misplaced}
use Rattle.modes.specs.declared.Mode.{Mode}
use Rattle.modes.specs.declared.Mode.TheVariants as mode
use Rattle.modes.specs.declared.Reader.{Reader}
use Rattle.modes.specs.Moves.{after_place, go_to, refuse_with, spell_on}
use Rattle.prolog.specs.Around.{around}
use Rattle.content.specs.Text.{wide_tick, char_tick, data_tick, note_tick, remarked_tick, bang_tick}
use Rattle.text_right.specs.Marked.{marks_table, plain_mark, dash_mark, blank_mark}
use Rattle.text_right.specs.Stands.{place_of, form_rows, back_state, state_in, bang_state, amper_state, evs_in}
use Rattle.text_right.specs.Sound.{Inner, Outer, Spot, Kept, Back, entity_none, Fits}
use Rattle.text_right.proofs.Matched.{Matches, tuned, lift, turn, both, by_test, place_before, place_after, place_inner, word_on, word_step}
use Rattle.text_right.proofs.Forms.{next_rows, lead_rows, lead_most, form_rows_lem, follow_most, settle_waits, form_waits}

positive : (x : ℕ) → (x ≡ 0 → ⊥) → 1 ≤ x
positive x f = omega arith

under : (x : ℕ) → x < 11 → (x ≡ whole → ⊥) → x ≤ 9
under x h f = omega arith

-- a place that is neither before the document element nor after it
pub inner_of : {p : ℕ} → Spot p → (p ≡ 0 → ⊥) → (p ≡ after_place → ⊥) → Inner p
inner_of (Spot.outer (Outer.before e)) f g = absurd (f e)
inner_of (Spot.outer (Outer.after e)) f g = absurd (g e)
inner_of (Spot.inner h) f g = h

-- the state in a mode to which the reader comes back
pub back_is :
    (R : List ℕ) (back : Mode) (p k row n : ℕ) {m : Mode} → Back R p k m → state_in R back p k row n m ≡ back_state R p k m
unfolding state_in back_state
back_is R back p k row n (Back.data' h) = refl
back_is R back p k row n (Back.note h) = refl
back_is R back p k row n (Back.double h) = refl
back_is R back p k row n (Back.single h) = refl

bang_dash : (P : Place) → step bounds (State.bang P) 45 ≡ goes [] (State.rows (word (45 ∷ []) ∷ []) misplaced [] (State.note P))
unfolding step pick when derive keep word in_class
bang_dash P = refl

third_is : (R : List ℕ) (back : Mode) (p k row : ℕ) → State.rows (word (45 ∷ []) ∷ []) misplaced [] (State.note (place_of R p)) ≡ bang_state R back p k row 3
unfolding bang_state when
third_is R back p k row = refl

module _ (r : Reader) (R : List ℕ) (b : ℕ) (kept : Kept R r.place) where
  pub wide_right :
      {m : Mode} → b < 256 → Back R r.place r.count m
      → Matches (settle (derive b utf8) not_char [] (back_state R r.place r.count m)) (wide_tick r b m) R
  unfolding wide_tick next_rows state_in evs_in
  wide_right {m} l h =
      let k = back_state R r.place r.count m in
      let most : lead_form b < 10 = lead_most b l in
      lift (ap (λ z. settle z not_char [] k) (lead_rows b l))
      (by_test (eqb (lead_form b) 0)
      (λ e. Matches.stops (omega arith) (ap (λ z. settle z not_char [] k) (when_true _ _ _ e)))
      (λ e.
      let g : 1 ≤ lead_form b = positive _ (eqb-false (lead_form b) 0 e) in
      Matches.moves refl
      (ap (λ z. settle z not_char [] k) (when_false _ _ _ e ∙ when_false _ _ _ (ne_eqb (lead_form b) whole (λ z. omega arith)))
      ∙ settle_waits (form_rows (lead_form b)) not_char [] k (form_waits _ (omega arith)))
      (record { kept = kept; fits = Fits.char h g (omega arith) })))

  pub char_right :
      b < 256 → Back R r.place r.count r.back → 1 ≤ r.n → r.n ≤ 9
      → Matches (step bounds (State.rows (form_rows r.n) not_char [] (back_state R r.place r.count r.back)) b) (char_tick r b) R
  unfolding step pick char_tick next_rows state_in evs_in
  char_right l h low high =
      let k = back_state R r.place r.count r.back in
      let x = follows r.n b in
      let most : follows r.n b < 11 = follow_most r.n b low high l in
      lift (ap (λ z. settle z not_char [] k) (form_rows_lem r.n b low high l))
      (by_test (eqb x 0)
      (λ e. Matches.stops (omega arith) (ap (λ z. settle z not_char [] k) (when_true _ _ _ e)))
      (λ e.
      let g : 1 ≤ follows r.n b = positive _ (eqb-false x 0 e) in
      by_test (eqb x whole)
      (λ f.
      Matches.moves refl
      (ap (λ z. settle z not_char [] k) (when_false _ _ _ e ∙ when_true _ _ _ f) ∙ ap (goes []) (sym (back_is R r.back _ _ _ _ h)))
      (record { kept = kept; fits = Fits.back h }))
      (λ f.
      let d = eqb-false x whole f in
      let y : follows r.n b ≤ 9 = under _ most d in
      Matches.moves refl
      (ap (λ z. settle z not_char [] k) (when_false _ _ _ e ∙ when_false _ _ _ f)
      ∙ settle_waits (form_rows x) not_char [] k (form_waits _ y))
      (record { kept = kept; fits = Fits.char h g y }))))

  -- around the document element: blanks and '<'
  at_outer :
      Outer r.place
      → step bounds (State.at (place_of R r.place) b0) b
      ≡ when (in_class blank b) (goes [] (State.at (place_of R r.place) b0))
      (when (eqb b 60) (goes [] (State.markup (place_of R r.place))) (refused misplaced))
  unfolding step pick
  at_outer (Outer.before e) =
      subst
      (λ P. step bounds (State.at P b0) b ≡ when (in_class blank b) (goes [] (State.at P b0)) (when (eqb b 60) (goes [] (State.markup P)) (refused misplaced)))
      (sym (place_before R _ e)) refl
  at_outer (Outer.after e) =
      subst
      (λ P. step bounds (State.at P b0) b ≡ when (in_class blank b) (goes [] (State.at P b0)) (when (eqb b 60) (goes [] (State.markup P)) (refused misplaced)))
      (sym (place_after R _ e)) refl

  pub around_right : Outer r.place → Matches (step bounds (State.at (place_of R r.place) b0) b) (around marks_table r b mode.Markup) R
  unfolding around state_in evs_in
  around_right h =
      lift (at_outer h)
      (both _ _ (blank_mark b)
      (λ e. Matches.moves refl refl (record { kept = kept; fits = Fits.around h }))
      (λ e.
      both _ _ refl
      (λ f. Matches.moves refl refl (record { kept = kept; fits = Fits.markup (Spot.outer h) }))
      (λ f. Matches.stops (omega arith) refl)))

  -- what comes of a byte that is not plain
  rest : Br → Place → Arms
  rest k P =
      lit 93 (goes [] (State.at P (bracket k)))
      (lit 62 (greater k (State.at P b0))
      (lit 60 (goes [] (State.markup P)) (lit 38 (goes [] (State.amper (State.at P b0))) (one_of utf8 not_char [] (State.at P b0)))))

  at_inner :
      (k : Br) → Inner r.place
      → step bounds (State.at (place_of R r.place) k) b
      ≡ when (in_class plain b) (goes [] (State.at (place_of R r.place) b0)) (pick (rest k (place_of R r.place)) b)
  unfolding step pick rest
  at_inner k h =
      subst (λ P. step bounds (State.at P k) b ≡ when (in_class plain b) (goes [] (State.at P b0)) (pick (rest k P) b)) (sym (place_inner R _ h)) refl

  by_brackets :
      (k : Br) (m : Mode) (shut : Bool)
      → b < 256
      → Inner r.place
      → Matches (goes [] (State.at (place_of R r.place) (bracket k))) (go_to r m) R
      → Matches (greater k (State.at (place_of R r.place) b0)) (when shut (refuse_with r Misplaced) (go_to r mode.Data)) R
      → Matches (step bounds (State.at (place_of R r.place) k) b) (data_tick marks_table r b m shut) R
  unfolding data_tick state_in evs_in rest pick when amper_state wide_tick back_state
  by_brackets k m shut l h f g =
      let P = place_of R r.place in
      lift (at_inner k h)
      (both _ _ (plain_mark b)
      (λ e. Matches.moves refl refl (record { kept = kept; fits = Fits.back (Back.data' h) }))
      (λ e.
      by_test (eqb b 60)
      (λ e₁. Matches.moves refl (ap (pick (rest k P)) (eqb-true b 60 e₁)) (record { kept = kept; fits = Fits.markup (Spot.inner h) }))
      (λ e₁.
      by_test (eqb b 38)
      (λ e₂. Matches.moves refl (ap (pick (rest k P)) (eqb-true b 38 e₂)) (record { kept = kept; fits = Fits.amper (Back.data' h) entity_none }))
      (λ e₂.
      by_test (eqb b 93)
      (λ e₃. lift (ap (pick (rest k P)) (eqb-true b 93 e₃)) f)
      (λ e₃.
      by_test (eqb b 62)
      (λ e₄. lift (ap (pick (rest k P)) (eqb-true b 62 e₄)) g)
      (λ e₄. lift (when_false _ _ _ e₃ ∙ when_false _ _ _ e₄ ∙ when_false _ _ _ e₁ ∙ when_false _ _ _ e₂) (wide_right {m = mode.Data} l (Back.data' h))))))))

  pub data_right : b < 256 → Inner r.place → Matches (step bounds (State.at (place_of R r.place) b0) b) (data_tick marks_table r b mode.Bracket false) R
  unfolding state_in evs_in when
  data_right l h =
      by_brackets b0 mode.Bracket false l h
      (Matches.moves refl refl (record { kept = kept; fits = Fits.bracket h }))
      (Matches.moves refl refl (record { kept = kept; fits = Fits.back (Back.data' h) }))

  pub bracket_right :
      b < 256 → Inner r.place → Matches (step bounds (State.at (place_of R r.place) b1) b) (data_tick marks_table r b mode.Brackets false) R
  unfolding state_in evs_in when
  bracket_right l h =
      by_brackets b1 mode.Brackets false l h
      (Matches.moves refl refl (record { kept = kept; fits = Fits.brackets h }))
      (Matches.moves refl refl (record { kept = kept; fits = Fits.back (Back.data' h) }))

  pub brackets_right :
      b < 256 → Inner r.place → Matches (step bounds (State.at (place_of R r.place) b2) b) (data_tick marks_table r b mode.Brackets true) R
  unfolding state_in evs_in when
  brackets_right l h =
      by_brackets b2 mode.Brackets true l h
      (Matches.moves refl refl (record { kept = kept; fits = Fits.brackets h }))
      (Matches.stops (omega arith) refl)

  pub note_right : b < 256 → Spot r.place → Matches (step bounds (State.note (place_of R r.place)) b) (note_tick marks_table r b mode.Dash) R
  unfolding step pick note_tick state_in evs_in back_state
  note_right l h =
      both _ _ (dash_mark b)
      (λ e. Matches.moves refl refl (record { kept = kept; fits = Fits.back (Back.note h) }))
      (λ e.
      both _ _ refl
      (λ f. Matches.moves refl refl (record { kept = kept; fits = Fits.dash h }))
      (λ f. wide_right {m = mode.Note} l (Back.note h)))

  pub dash_right : b < 256 → Spot r.place → Matches (step bounds (State.dash (place_of R r.place)) b) (note_tick marks_table r b mode.Dashes) R
  unfolding step pick note_tick state_in evs_in back_state
  dash_right l h =
      both _ _ (dash_mark b)
      (λ e. Matches.moves refl refl (record { kept = kept; fits = Fits.back (Back.note h) }))
      (λ e.
      both _ _ refl
      (λ f. Matches.moves refl refl (record { kept = kept; fits = Fits.dashes h }))
      (λ f. wide_right {m = mode.Note} l (Back.note h)))

  pub dashes_right :
      Spot r.place
      → Matches (step bounds (then_byte 62 (remarks (place_of R r.place)) (State.at (place_of R r.place) b0)) b) (remarked_tick r b) R
  unfolding step pick remarked_tick state_in evs_in word_on
  dashes_right h =
      let P = place_of R r.place in
      lift (word_step 62 [] misplaced (remarks P) (State.at P b0) b)
      (both _ _ refl
      (λ e.
      by_test (eqb r.place 0)
      (λ f.
      let z : r.place ≡ 0 = eqb-true _ 0 f in
      Matches.moves refl (ap (λ es. goes es (State.at P b0)) (ap remarks (place_before R _ z))) (record { kept = kept; fits = Fits.around (Outer.before z) }))
      (λ f.
      by_test (eqb r.place after_place)
      (λ g.
      let z : r.place ≡ after_place = eqb-true _ after_place g in
      Matches.moves refl (ap (λ es. goes es (State.at P b0)) (ap remarks (place_after R _ z))) (record { kept = kept; fits = Fits.around (Outer.after z) }))
      (λ g.
      let i = inner_of h (eqb-false _ 0 f) (eqb-false _ after_place g) in
      Matches.moves refl (ap (λ es. goes es (State.at P b0)) (ap remarks (place_inner R _ i))) (record { kept = kept; fits = Fits.back (Back.data' i) }))))
      (λ e. Matches.stops (omega arith) refl))

  two : Reader
  two = tuned r r.count r.row 2

  three : Reader
  three = tuned r r.count r.row 3

  first_tick_lem :
      bang_tick two b
      ≡ when (eqb b 45) (spell_on two mode.Bang 0 3)
      (when (eqb b 91) (refuse_with two Cdata) (when (eqb b 68) (refuse_with two Doctype) (refuse_with two Misplaced)))
  unfolding bang_tick when two
  first_tick_lem = refl

  second_tick : bang_tick three b ≡ when (eqb b 45) (go_to three mode.Note) (refuse_with three Misplaced)
  unfolding bang_tick when three
  second_tick = refl

  -- '<!' was read
  bang_first :
      Spot r.place
      → Matches (step bounds (State.bang (place_of R r.place)) b) (bang_tick two b) R
  unfolding step pick state_in evs_in two
  bang_first h =
      let P = place_of R r.place in
      turn first_tick_lem
      (by_test (eqb b 45)
      (λ e.
      Matches.moves refl (ap (step bounds (State.bang P)) (eqb-true b 45 e) ∙ bang_dash P ∙ ap (goes []) (third_is R _ _ _ _))
      (record { kept = kept; fits = Fits.bang h (inr refl) }))
      (λ e.
      both _ _ refl
      (λ f. Matches.stops (omega arith) refl)
      (λ f.
      both _ _ refl
      (λ g. Matches.stops (omega arith) refl)
      (λ g. Matches.stops (omega arith) (word_step 45 (45 ∷ []) misplaced [] (State.note P) b ∙ when_false _ _ _ e)))))

  -- '<!-' was read
  bang_second :
      Spot r.place
      → Matches (step bounds (State.rows (word (45 ∷ []) ∷ []) misplaced [] (State.note (place_of R r.place))) b) (bang_tick three b) R
  unfolding step pick state_in evs_in word_on three
  bang_second h =
      turn second_tick
      (lift (word_step 45 [] misplaced [] (State.note (place_of R r.place)) b)
      (both _ _ refl
      (λ e. Matches.moves refl refl (record { kept = kept; fits = Fits.back (Back.note h) }))
      (λ e. Matches.stops (omega arith) refl)))

  pub bang_right :
      Spot r.place → (r.n ≡ 2) ⊎ (r.n ≡ 3)
      → Matches (step bounds (bang_state R r.back r.place r.count r.row r.n) b) (bang_tick r b) R
  unfolding bang_state when two three
  bang_right h (inl e) =
      subst (λ n. Matches (step bounds (bang_state R r.back r.place r.count r.row n) b) (bang_tick (tuned r r.count r.row n) b) R)
      (sym e) (bang_first h)
  bang_right h (inr e) =
      subst (λ n. Matches (step bounds (bang_state R r.back r.place r.count r.row n) b) (bang_tick (tuned r r.count r.row n) b) R)
      (sym e) (bang_second h)
