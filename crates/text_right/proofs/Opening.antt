-- The prolog, byte by byte, but for the parts of the XML declaration.
--
--   none_said, some_said                  the parts by their numbers
--   outset_right                          blanks and '<' before anything else
--   start_right, mark_right, fresh_right  the start of the text; the byte order mark; after it
--   xml_right, declared_right             '<?xml'; after it
--   told_right, query_right               after a part of the declaration; after its '?'
--
-- Assumes nothing.
use Rattle.std.specs.Prelude.{ℕ, ◌≤◌, ◌<◌, ◌≡◌, ◌⊎◌, eqb}
use native.Mathlib.Omega.{arith}
use Rattle.std.proofs.Math.Path.{refl, subst}
use Rattle.std.proofs.Common.{sym, ap, inl, inr, ne_eqb}
use Rattle.std.proofs.Math.Option.{none, some}
use mathlib.Core.List.{List, [], ◌∷◌}
use Rattle.choice.specs.When.{when, when_false}
use Rattle.xml.specs.Class.{in_class, word}
use Rattle.xml.specs.Chars.{blank}
use Rattle.xml.specs.Refused.{misplaced, instruction}
use Rattle.xml.specs.Grammar.{b0}
use Rattle.xml.specs.Machine.{Place, State, refused, goes, then_byte, pick, step}
use Rattle.xml.specs.Limited.{bounds}
use Rattle.limits.specs.declared.TextRefusal.TheVariants.{Instruction, Misplaced}
use Rattle.modes.specs.declared.Mode.TheVariants as mode
use Rattle.modes.specs.declared.Prolog.TheVariants as prolog
use Rattle.modes.specs.declared.Reader.{Reader}
use Rattle.modes.specs.Moves.{go_to, refuse_with, spell_on}
use Rattle.prolog.specs.Around.{around, start_tick, mark_tick, xml_tick, declared_tick, query_tick}
use Rattle.prolog.specs.Told.{told_tick}
use Rattle.text_right.specs.Marked.{marks_table, name_mark_lem, blank_mark, beyond_mark}
use Rattle.text_right.specs.Stands.{part_no, said_no, prolog_state, state_in, evs_in}
use Rattle.text_right.specs.Sound.{Outer, Kept, PartAt, FitsIn, Fits}
use Rattle.text_right.proofs.Matched.{Matches, tuned, lift, turn, both, place_before, word_on, word_step}

pub none_said : said_no 0 ≡ none
unfolding said_no when
none_said = refl

pub some_said : (k : ℕ) → 1 ≤ k → said_no k ≡ some (part_no k)
unfolding said_no
some_said k h = when_false _ _ _ (ne_eqb k 0 (λ z. omega arith))

module _ (r : Reader) (R : List ℕ) (b : ℕ) (kept : Kept R r.place) (at : r.place ≡ 0) where
  pub outset_right :
      Matches (when (in_class blank b) (goes [] (State.at Place.before b0)) (when (eqb b 60) (goes [] State.opening) (refused misplaced)))
      (around marks_table r b mode.First) R
  unfolding around state_in evs_in
  outset_right =
      both _ _ (blank_mark b)
      (λ e. Matches.moves refl (ap (λ P. goes [] (State.at P b0)) (sym (place_before R _ at))) (record { kept = kept; fits = Fits.around (Outer.before at) }))
      (λ e.
      both _ _ refl
      (λ f. Matches.moves refl refl (record { kept = kept; fits = Fits.first at }))
      (λ f. Matches.stops (omega arith) refl))

  pub fresh_right : Matches (step bounds State.fresh b) (around marks_table r b mode.First) R
  unfolding step pick
  fresh_right = outset_right

  pub start_right : Matches (step bounds State.start b) (start_tick marks_table r b) R
  unfolding step pick start_tick state_in prolog_state evs_in
  start_right =
      both _ _ refl
      (λ e. Matches.moves refl refl (record { kept = kept; fits = Fits.prolog' at (FitsIn.mark (inl refl)) }))
      (λ e. outset_right)

  -- n bytes were read
  read : ℕ → Reader
  read n = tuned r r.count r.row n

  mark_first_tick : mark_tick (read 1) b ≡ when (eqb b 187) (spell_on (read 1) (mode.Prolog prolog.Mark) 0 2) (refuse_with (read 1) Misplaced)
  unfolding mark_tick when read
  mark_first_tick = refl

  mark_second_tick : mark_tick (read 2) b ≡ when (eqb b 191) (go_to (read 2) (mode.Prolog prolog.Fresh)) (refuse_with (read 2) Misplaced)
  unfolding mark_tick when read
  mark_second_tick = refl

  mark_first : Matches (step bounds (State.rows (word (187 ∷ 191 ∷ []) ∷ []) misplaced [] State.fresh) b) (mark_tick (read 1) b) R
  unfolding step pick state_in prolog_state evs_in word_on read
  mark_first =
      turn mark_first_tick
      (lift (word_step 187 (191 ∷ []) misplaced [] State.fresh b)
      (both _ _ refl
      (λ e. Matches.moves refl refl (record { kept = kept; fits = Fits.prolog' at (FitsIn.mark (inr refl)) }))
      (λ e. Matches.stops (omega arith) refl)))

  mark_second : Matches (step bounds (State.rows (word (191 ∷ []) ∷ []) misplaced [] State.fresh) b) (mark_tick (read 2) b) R
  unfolding step pick state_in prolog_state evs_in word_on read
  mark_second =
      turn mark_second_tick
      (lift (word_step 191 [] misplaced [] State.fresh b)
      (both _ _ refl
      (λ e. Matches.moves refl refl (record { kept = kept; fits = Fits.prolog' at FitsIn.fresh }))
      (λ e. Matches.stops (omega arith) refl)))

  pub mark_right :
      (r.n ≡ 1) ⊎ (r.n ≡ 2)
      → Matches (step bounds (prolog_state R r.back r.place r.count r.row r.n prolog.Mark) b) (mark_tick r b) R
  unfolding prolog_state read
  mark_right (inl e) =
      subst (λ n. Matches (step bounds (prolog_state R r.back r.place r.count r.row n prolog.Mark) b) (mark_tick (read n) b) R) (sym e) mark_first
  mark_right (inr e) =
      subst (λ n. Matches (step bounds (prolog_state R r.back r.place r.count r.row n prolog.Mark) b) (mark_tick (read n) b) R) (sym e) mark_second

  xml_on : (n c : ℕ) → Reader → Reader
  xml_on n c x = when (eqb b c) x (refuse_with (read n) Instruction)

  xml_tick_2 : xml_tick (read 2) b ≡ xml_on 2 120 (spell_on (read 2) (mode.Prolog prolog.Xml) 0 3)
  unfolding xml_tick when read xml_on
  xml_tick_2 = refl

  xml_tick_3 : xml_tick (read 3) b ≡ xml_on 3 109 (spell_on (read 3) (mode.Prolog prolog.Xml) 0 4)
  unfolding xml_tick when read xml_on
  xml_tick_3 = refl

  xml_tick_4 : xml_tick (read 4) b ≡ xml_on 4 108 (go_to (read 4) (mode.Prolog prolog.Declared))
  unfolding xml_tick when read xml_on
  xml_tick_4 = refl

  xml_2 : Matches (step bounds (State.rows (word (120 ∷ 109 ∷ 108 ∷ []) ∷ []) instruction [] State.declared) b) (xml_tick (read 2) b) R
  unfolding step pick state_in prolog_state evs_in word_on read xml_on
  xml_2 =
      turn xml_tick_2
      (lift (word_step 120 (109 ∷ 108 ∷ []) instruction [] State.declared b)
      (both _ _ refl
      (λ e. Matches.moves refl refl (record { kept = kept; fits = Fits.prolog' at (FitsIn.xml (inr (inl refl))) }))
      (λ e. Matches.stops (omega arith) refl)))

  xml_3 : Matches (step bounds (State.rows (word (109 ∷ 108 ∷ []) ∷ []) instruction [] State.declared) b) (xml_tick (read 3) b) R
  unfolding step pick state_in prolog_state evs_in word_on read xml_on
  xml_3 =
      turn xml_tick_3
      (lift (word_step 109 (108 ∷ []) instruction [] State.declared b)
      (both _ _ refl
      (λ e. Matches.moves refl refl (record { kept = kept; fits = Fits.prolog' at (FitsIn.xml (inr (inr refl))) }))
      (λ e. Matches.stops (omega arith) refl)))

  xml_4 : Matches (step bounds (State.rows (word (108 ∷ []) ∷ []) instruction [] State.declared) b) (xml_tick (read 4) b) R
  unfolding step pick state_in prolog_state evs_in word_on read xml_on
  xml_4 =
      turn xml_tick_4
      (lift (word_step 108 [] instruction [] State.declared b)
      (both _ _ refl
      (λ e. Matches.moves refl refl (record { kept = kept; fits = Fits.prolog' at FitsIn.declared }))
      (λ e. Matches.stops (omega arith) refl)))

  pub xml_right :
      (r.n ≡ 2) ⊎ ((r.n ≡ 3) ⊎ (r.n ≡ 4))
      → Matches (step bounds (prolog_state R r.back r.place r.count r.row r.n prolog.Xml) b) (xml_tick r b) R
  unfolding prolog_state read
  xml_right (inl e) =
      subst (λ n. Matches (step bounds (prolog_state R r.back r.place r.count r.row n prolog.Xml) b) (xml_tick (read n) b) R) (sym e) xml_2
  xml_right (inr (inl e)) =
      subst (λ n. Matches (step bounds (prolog_state R r.back r.place r.count r.row n prolog.Xml) b) (xml_tick (read n) b) R) (sym e) xml_3
  xml_right (inr (inr e)) =
      subst (λ n. Matches (step bounds (prolog_state R r.back r.place r.count r.row n prolog.Xml) b) (xml_tick (read n) b) R) (sym e) xml_4

  pub declared_right : b < 256 → Matches (step bounds State.declared b) (declared_tick marks_table r b) R
  unfolding step pick declared_tick state_in prolog_state evs_in
  declared_right l =
      both _ _ (blank_mark b)
      (λ e.
      Matches.moves refl (ap (λ o. goes [] (State.apiece o)) (sym none_said))
      (record { kept = kept; fits = Fits.prolog' at (FitsIn.piece (record { most = omega arith })) }))
      (λ e.
      both _ _ (name_mark_lem b)
      (λ f. Matches.stops (omega arith) refl)
      (λ f. both _ _ (beyond_mark b l) (λ g. Matches.stops (omega arith) refl) (λ g. Matches.stops (omega arith) refl)))

  pub told_right : PartAt r.count → Matches (step bounds (State.told (part_no r.count)) b) (told_tick marks_table r b) R
  unfolding step pick told_tick state_in prolog_state evs_in
  told_right h =
      let l = h.high in
      both _ _ (blank_mark b)
      (λ e.
      Matches.moves refl (ap (λ o. goes [] (State.apiece o)) (sym (some_said r.count h.low)))
      (record { kept = kept; fits = Fits.prolog' at (FitsIn.piece (record { most = l })) }))
      (λ e.
      both _ _ refl
      (λ f. Matches.moves refl refl (record { kept = kept; fits = Fits.prolog' at FitsIn.query }))
      (λ f. Matches.stops (omega arith) refl))

  pub query_right : Matches (step bounds (then_byte 62 [] (State.at Place.before b0)) b) (query_tick r b) R
  unfolding step pick query_tick state_in evs_in word_on
  query_right =
      lift (word_step 62 [] misplaced [] (State.at Place.before b0) b)
      (both _ _ refl
      (λ e. Matches.moves refl (ap (λ P. goes [] (State.at P b0)) (sym (place_before R _ at))) (record { kept = kept; fits = Fits.around (Outer.before at) }))
      (λ e. Matches.stops (omega arith) refl))
