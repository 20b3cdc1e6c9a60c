-- The first bytes of markup.
--
--   check_yes, check_no      what is checked, by the test
--   one_fits                 a name of one byte is short enough
--   begun_right              the first byte of an element's name
--   slashed_right            the '/' of an end tag
--   markup_right             after '<';  first_right: after '<' at the very start of the text
--
-- Assumes nothing.
use Rattle.std.specs.Prelude.{ℕ, suc, ◌+◌, ◌-◌, ◌≤◌, ◌<◌, ◌≡◌, Bool, true, false, eqb, leb, ltb, length}
use Rattle.std.proofs.Common.{arith, sym, ap, ◌∙◌, inl}
use Rattle.std.proofs.Math.Path.{refl, ap₂}
use mathlib.Core.List.{List, [], ◌∷◌}
use borrow.Author.Tests.{ne_eqb, eqb-true, eqb-false, leb-true, leb-false, le-leb, lt-leb, ltb-true, ltb-false, lt-ltb}
use Rattle.choice.specs.When.{when, when_true, when_false}
use Rattle.meaning.specs.Limits.{depth_limit}
use Rattle.meaning.proofs.Limits.Laws.{depth_is}
use Rattle.xml.specs.Class.{in_class}
use Rattle.xml.specs.Chars.{beyond}
use Rattle.xml.specs.Refused
use Rattle.xml.specs.Refused.{misplaced, long_name}
use Rattle.xml.specs.Bounds.{name_limit}
use Rattle.xml.proofs.Bounds.Laws.{name_limit_is}
use Rattle.xml.specs.Machine.{State, Outcome, refused, goes, check, foreign, begins, slashed, markup_arms, pick, step}
use Rattle.xml.specs.Limited.{bounds}
use Rattle.slots.specs.Slots.{base_of, length_in}
use Rattle.limits.specs.declared.TextRefusal.TheVariants.{ForeignName, Misplaced}
use Rattle.modes.specs.declared.Mode.{Mode}
use Rattle.modes.specs.declared.Reader.{Reader}
use Rattle.modes.specs.Moves.{after_place, refuse_with}
use Rattle.tags.specs.Markup
use Rattle.tags.specs.Markup.{begun, slashed_tick, markup_tick, first_tick}
use Rattle.text_right.proofs.Bounds.{not_deeper, deeper}
use Rattle.text_right.specs.Marked.{marks_table, start_mark, beyond_mark}
use Rattle.text_right.specs.Stands.{names, place_of, begun_in, end_state, bang_state, prolog_state, state_in, evs_in}
use Rattle.text_right.specs.Sound.{Inner, Outer, Spot, Kept, FitsIn, Fits}
use Rattle.text_right.proofs.Matched.{Matches, Ticks, lift, turn, both_ticks, by_test, by_ticks, place_before, place_after, place_inner}
use Rattle.text_right.proofs.Frames.{base_is, begun_more, place_kept, kept_set, names_length, open_is}

pub check_yes : (x : Bool) (r : ℕ) (o : Outcome) → x ≡ true → check x r o ≡ o
unfolding check
check_yes x r o e = ap (λ z. check z r o) e

pub check_no : (x : Bool) (r : ℕ) (o : Outcome) → x ≡ false → check x r o ≡ refused r
unfolding check
check_no x r o e = ap (λ z. check z r o) e

-- a name of one byte is short enough
pub one_fits : leb 1 name_limit ≡ true
one_fits = le-leb 1 name_limit (omega (arith, name_limit_is))

-- where an element may begin, as far as the depth goes
data Takes (p : ℕ) : Type 0 where
  outside : p ≡ 0 → Takes p
  within : Inner p → Takes p

begins_is :
    (R : List ℕ) (p b : ℕ) → Takes p
    → begins bounds (place_of R p) b
    ≡ check (leb (p + 1) depth_limit) Refused.nested (check (leb 1 name_limit) long_name (goes [] (State.tag (place_of R p) (b ∷ []))))
begins_is R p b (Takes.outside e) =
    let z : 1 ≡ p + 1 = omega arith in
    ap (λ P. begins bounds P b) (place_before R p e)
    ∙ ap₂ (λ d P. check (leb d depth_limit) Refused.nested (check (leb 1 name_limit) long_name (goes [] (State.tag P (b ∷ []))))) z (sym (place_before R p e))
begins_is R p b (Takes.within i) =
    let l = i.low in
    let y = names_length R (p - 1) in
    let z : suc (suc (length (names R (p - 1)))) ≡ p + 1 = omega arith in
    ap (λ P. begins bounds P b) (place_inner R p i)
    ∙ ap₂ (λ d P. check (leb d depth_limit) Refused.nested (check (leb 1 name_limit) long_name (goes [] (State.tag P (b ∷ []))))) z (sym (place_inner R p i))

second_is : (R : List ℕ) (back : Mode) (p k row : ℕ) → State.bang (place_of R p) ≡ bang_state R back p k row 2
unfolding bang_state when
second_is R back p k row = refl

takes_low : {p : ℕ} → Takes p → p ≤ 256
takes_low (Takes.outside e) = omega arith
takes_low (Takes.within i) = i.high

module _ (r : Reader) (R : List ℕ) (b : ℕ) (kept : Kept R r.place) where
  begun_in_lem : Takes r.place → Ticks (begins bounds (place_of R r.place) b) (begun r b R)
  unfolding begun state_in evs_in begun_in
  begun_in_lem t =
      let p = r.place in
      let l = takes_low t in
      lift (begins_is R p b t)
      (by_ticks (eqb p after_place)
      (λ e. let z : r.place ≡ after_place = eqb-true _ _ e in absurd (omega arith))
      (λ e.
      by_ticks (leb depth_limit p)
      (λ f.
      let m : depth_limit ≤ r.place = leb-true _ _ f in
      Matches.stops (omega arith) (check_no _ _ _ (lt-leb (p + 1) depth_limit (omega arith))))
      (λ f.
      let m : r.place < depth_limit = leb-false _ _ f in
      let d = depth_is in
      let g = base_is r.place (omega arith) in
      let u = kept.long in
      Matches.moves refl
      (check_yes _ _ _ (le-leb (p + 1) depth_limit (omega arith))
      ∙ check_yes _ _ _ one_fits
      ∙ ap₂ (λ P n. goes [] (State.tag P n)) (sym (place_kept R (base_of p + 0) b p l (omega arith))) (sym (begun_more R p 0 b (omega arith))))
      (record { kept = kept_set R (base_of p + 0) b l (omega arith) kept; fits = Fits.tag (omega arith) (omega arith) (omega arith) }))))

  begun_right : Spot r.place → Ticks (begins bounds (place_of R r.place) b) (begun r b R)
  unfolding begun
  begun_right (Spot.outer (Outer.before e)) = begun_in_lem (Takes.outside e)
  begun_right (Spot.outer (Outer.after e)) =
      lift (ap (λ P. begins bounds P b) (place_after R _ e))
      (by_ticks (eqb r.place after_place) (λ f. Matches.stops (omega arith) refl) (λ f. absurd (eqb-false _ _ f e)))
  begun_right (Spot.inner i) = begun_in_lem (Takes.within i)

  slashed_inner : (i : Inner r.place) → 1 ≤ length_in R (r.place - 1)
  slashed_inner i =
      let l = i.low in
      let z = open_is r.place i.high in
      kept.filled (r.place - 1) (omega arith)

  slashed_right : Spot r.place → Matches (slashed bounds (place_of R r.place)) (slashed_tick r) R
  unfolding slashed_tick state_in end_state evs_in
  slashed_right (Spot.outer (Outer.before e)) =
      lift (ap (slashed bounds) (place_before R _ e))
      (by_test (eqb r.place 0) (λ f. Matches.stops (omega arith) refl) (λ f. absurd (eqb-false _ _ f e)))
  slashed_right (Spot.outer (Outer.after e)) =
      lift (ap (slashed bounds) (place_after R _ e))
      (by_test (eqb r.place 0) (λ f. Matches.stops (omega arith) refl)
      (λ f. turn (when_true _ _ _ (deeper r.place (omega arith))) (Matches.stops (omega arith) refl)))
  slashed_right (Spot.inner i) =
      let l = i.low in
      lift (ap (slashed bounds) (place_inner R _ i))
      (turn (when_false _ _ _ (ne_eqb r.place 0 (λ z. omega arith)))
      (turn (when_false _ _ _ (not_deeper r.place i.high))
      (Matches.moves refl
      (ap (goes []) (sym (when_true _ _ _ (lt-ltb 0 (length_in R (r.place - 1)) (slashed_inner i)))))
      (record { kept = kept; fits = Fits.end i }))))

  -- a byte that begins no markup
  foreign_right :
      b < 256 → Spot r.place
      → Ticks (when (in_class beyond b) (foreign (place_of R r.place)) (refused misplaced))
      (when (ltb b 128) (Markup.kept (refuse_with r Misplaced) R)
      (when (eqb r.place after_place) (Markup.kept (refuse_with r Misplaced) R) (Markup.kept (refuse_with r ForeignName) R)))
  foreign_right l h =
      by_ticks (ltb b 128)
      (λ e. Matches.stops (omega arith) (when_false _ _ _ (sym (beyond_mark b l) ∙ lt-leb 128 b (ltb-true _ _ e))))
      (λ e.
      let z : in_class beyond b ≡ true = sym (beyond_mark b l) ∙ le-leb 128 b (ltb-false _ _ e) in
      by_ticks (eqb r.place after_place)
      (λ f. Matches.stops (omega arith) (when_true _ _ _ z ∙ ap foreign (place_after R _ (eqb-true _ _ f))))
      (λ f. Matches.stops (omega arith) (when_true _ _ _ z ∙ foreign_is h (eqb-false _ _ f))))
    where
      foreign_is : Spot r.place → (r.place ≡ after_place → ⊥) → foreign (place_of R r.place) ≡ refused Refused.foreign_name
      foreign_is (Spot.outer (Outer.before e)) f = ap foreign (place_before R _ e)
      foreign_is (Spot.outer (Outer.after e)) f = absurd (f e)
      foreign_is (Spot.inner i) f = ap foreign (place_inner R _ i)

  pub markup_right : b < 256 → Spot r.place → Ticks (step bounds (State.markup (place_of R r.place)) b) (markup_tick marks_table r b R)
  unfolding markup_tick state_in evs_in step pick
  markup_right l h =
      both_ticks _ _ (start_mark b)
      (λ e. begun_right h)
      (λ e.
      both_ticks _ _ refl
      (λ f. Matches.moves refl (ap (goes []) (second_is R _ _ _ _)) (record { kept = kept; fits = Fits.bang h (inl refl) }))
      (λ f.
      both_ticks _ _ refl
      (λ g. slashed_right h)
      (λ g. both_ticks _ _ refl (λ i. Matches.stops (omega arith) refl) (λ i. foreign_right l h))))

  pub first_right : b < 256 → r.place ≡ 0 → Ticks (step bounds State.opening b) (first_tick marks_table r b R)
  unfolding first_tick state_in prolog_state evs_in step pick
  first_right l e =
      both_ticks _ _ refl
      (λ f. Matches.moves refl refl (record { kept = kept; fits = Fits.prolog' e (FitsIn.xml (inl refl)) }))
      (λ f. lift (ap (λ P. pick (markup_arms bounds P) b) (sym (place_before R _ e))) (markup_right l (Spot.outer (Outer.before e))))
