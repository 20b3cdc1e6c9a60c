-- A start tag after its name, byte by byte, but for the names of its attributes.
--
--   moded r m             the reader in the mode m
--   opened_is, more_atts  the place inside one more element, and the attributes with one more
--   in_more, amper_first  a tag with one attribute more; the state right after '&'
--   close_right           the '>' or '/' of a tag
--   tagged_right          after a value;  equals_right, value_right: after an attribute's name, and after its '='
--   quoted_right          in a value;  double_right, single_right: by its quotes
--
-- Assumes nothing.
use Rattle.std.specs.Prelude.{ℕ, zero, suc, ◌+◌, ◌-◌, ◌≤◌, ◌<◌, ◌≡◌, Bool, eqb, get_or}
use native.Mathlib.Omega.{arith}
use Rattle.std.proofs.Common.{add-one, ◌∙◌, eqb-true}
use Rattle.std.proofs.Math.Path.{refl, sym, ap, ap₂, subst}
use Rattle.std.proofs.Math.Bool.{true, false}
use mathlib.Core.List.{List, [], ◌∷◌}
use Rattle.std.proofs.lemmas.Bool.{eqb-false}
use Rattle.choice.specs.When.{when, when_false}
use Rattle.xml.specs.Class.{in_class, derive}
use Rattle.xml.specs.Chars.{utf8, unquoted, quote}
use Rattle.xml.specs.Refused.{not_char}
use Rattle.xml.specs.Grammar.{opens, closes, b0}
use Rattle.xml.specs.Machine.{Place, State, goes, opened, emptied, then_byte, close_arms, settle, pick, step}
use Rattle.xml.specs.Limited.{bounds}
use Rattle.chars.specs.Marks.{marked}
use Rattle.slots.specs.Slots.{attribute_slot, base_of, length_in, name_in}
use Rattle.modes.specs.declared.Mode.{Mode}
use Rattle.modes.specs.declared.Mode.TheVariants as mode
use Rattle.modes.specs.declared.Reader.{Reader}
use Rattle.tags.specs.Tag.{tag_end, tagged_tick, equals_tick, value_tick, quoted_tick, att_ended}
use Rattle.text_right.proofs.Bounds.{not_deep, not_many}
use Rattle.text_right.specs.Marked.{marks_table, double_mark, single_mark, blank_mark}
use Rattle.text_right.specs.Stands.{names, atts_of, place_of, back_state, amper_state, state_in, evs_in}
use Rattle.text_right.specs.Sound.{Kept, InTag, InAtt, Back, entity_none, Fits}
use Rattle.text_right.proofs.Matched.{Matches, lift, turn, both, by_test, place_before, place_inner}
use Rattle.text_right.proofs.Frames.{kept_more}
use Rattle.text_right.proofs.Content.{back_is, wide_right}

abbrev pub moded : Reader → Mode → Reader
moded r m =
    record { mode = m; back = r.back; n = r.n; row = r.row; count = r.count; gives = r.gives; refusal = r.refusal; place = r.place }

pub opened_is : (R : List ℕ) (p : ℕ) → p < 256 → opened (place_of R p) (name_in R p) ≡ place_of R (p + 1)
unfolding names
opened_is R zero h =
    ap (λ P. opened P (name_in R 0)) (place_before R 0 refl) ∙ sym (place_inner R 1 (record { low = omega arith; high = omega arith }))
opened_is R (suc d) h =
    let e : suc d + 1 - 1 ≡ suc d = omega arith in
    let f : suc d - 1 ≡ d = omega arith in
    ap (λ P. opened P (name_in R (suc d))) (place_inner R (suc d) (record { low = omega arith; high = omega arith }))
    ∙ ap (λ x. Place.inside (name_in R (suc d)) (name_in R x ∷ names R x)) f
    ∙ sym (place_inner R (suc d + 1) (record { low = omega arith; high = omega arith }) ∙ ap (λ x. Place.inside (name_in R x) (names R x)) e)

pub more_atts : (R : List ℕ) (k : ℕ) → name_in R (attribute_slot + k) ∷ atts_of R k ≡ atts_of R (k + 1)
unfolding atts_of
more_atts R k = sym (ap (atts_of R) (add-one k))

-- one attribute more
pub in_more : {R : List ℕ} {p k : ℕ} → InAtt R p k → InTag R p (k + 1)
in_more {R} {p} {k} h =
    let l = h.fewer in
    record { deep = h.tag.deep; named = h.tag.named; few = omega arith; short = λ j m. go j m (eqb j k) refl }
  where
    less : (j : ℕ) → j < k + 1 → (j ≡ k → ⊥) → j < k
    less j m d = omega arith

    go : (j : ℕ) → j < k + 1 → (x : Bool) → eqb j k ≡ x → get_or R (base_of (attribute_slot + j) + 64) 0 ≤ 64
    go j m true e = subst (λ z. get_or R (base_of (attribute_slot + z) + 64) 0 ≤ 64) (sym (eqb-true j k e)) h.shorter
    go j m false e = h.tag.short j (less j m (eqb-false j k e))

close_open : (P : Place) (n : List ℕ) → pick (close_arms bounds P n) 62 ≡ goes (opens n ∷ []) (State.at (opened P n) b0)
unfolding pick when
close_open P n = refl

close_slash : (P : Place) (n : List ℕ) → pick (close_arms bounds P n) 47 ≡ goes [] (then_byte 62 (opens n ∷ closes n ∷ []) (State.at (emptied P) b0))
unfolding pick when
close_slash P n = refl

pub amper_first : (R : List ℕ) (back : Mode) (p k row : ℕ) → State.amper (back_state R p k back) ≡ state_in R back p k row 0 mode.Amper
unfolding state_in amper_state when
amper_first R back p k row = refl

module _ (r : Reader) (R : List ℕ) (b : ℕ) (kept : Kept R r.place) where
  pub close_right :
      r.place < 256 → 1 ≤ length_in R r.place
      → Matches (pick (close_arms bounds (place_of R r.place) (name_in R r.place)) b) (tag_end r b) R
  unfolding tag_end state_in evs_in pick
  close_right l h =
      let P = place_of R r.place in
      let n = name_in R r.place in
      by_test (eqb b 47)
      (λ e. Matches.moves refl (ap (pick (close_arms bounds P n)) (eqb-true b 47 e) ∙ close_slash P n) (record { kept = kept; fits = Fits.slash l h }))
      (λ e.
      by_test (eqb b 62)
      (λ f.
      turn (when_false _ _ _ (not_deep r.place l))
      (Matches.moves refl
      (ap (pick (close_arms bounds P n)) (eqb-true b 62 f)
      ∙ close_open P n
      ∙ ap₂ (λ z Q. goes (opens (name_in R z) ∷ []) (State.at Q b0)) (let z : r.place ≡ r.place + 1 - 1 = omega arith in z) (opened_is R r.place l))
      (record { kept = kept_more R r.place l kept h; fits = Fits.back (Back.data' (record { low = omega arith; high = omega arith })) })))
      (λ f. Matches.stops (omega arith) (when_false _ _ _ f ∙ when_false _ _ _ e)))

  pub tagged_right :
      InTag R r.place r.count
      → Matches (step bounds (State.tagged (place_of R r.place) (name_in R r.place) (atts_of R r.count)) b) (tagged_tick marks_table r b) R
  unfolding tagged_tick state_in evs_in step pick
  tagged_right h =
      both _ _ (blank_mark b)
      (λ e. Matches.moves refl refl (record { kept = kept; fits = Fits.gap h }))
      (λ e. close_right h.deep h.named)

  pub equals_right :
      InAtt R r.place r.count
      → Matches (step bounds (state_in R r.back r.place r.count r.row r.n mode.Equals) b) (equals_tick marks_table r b) R
  unfolding equals_tick state_in evs_in step pick
  equals_right h =
      both _ _ (blank_mark b)
      (λ e. Matches.moves refl refl (record { kept = kept; fits = Fits.equals h }))
      (λ e.
      both _ _ refl
      (λ f. Matches.moves refl refl (record { kept = kept; fits = Fits.value h }))
      (λ f. Matches.stops (omega arith) refl))

  pub value_right :
      InAtt R r.place r.count
      → Matches (step bounds (state_in R r.back r.place r.count r.row r.n mode.Value) b) (value_tick marks_table r b) R
  unfolding value_tick state_in evs_in step pick
  value_right h =
      both _ _ (blank_mark b)
      (λ e. Matches.moves refl refl (record { kept = kept; fits = Fits.value h }))
      (λ e.
      both _ _ refl
      (λ f. Matches.moves refl refl (record { kept = kept; fits = Fits.back (Back.double h) }))
      (λ f.
      both _ _ refl
      (λ g. Matches.moves refl refl (record { kept = kept; fits = Fits.back (Back.single h) }))
      (λ g. Matches.stops (omega arith) refl)))

  att_ended_lem :
      (m : Mode) → InAtt R r.place r.count
      → Matches
      (goes [] (State.tagged (place_of R r.place) (name_in R r.place) (name_in R (attribute_slot + r.count) ∷ atts_of R r.count)))
      (att_ended (moded r m)) R
  unfolding att_ended state_in evs_in
  att_ended_lem m h =
      turn (when_false _ _ _ (not_many r.count h.fewer))
      (Matches.moves refl (ap (λ z. goes [] (State.tagged (place_of R r.place) (name_in R r.place) z)) (more_atts R r.count))
      (record { kept = kept; fits = Fits.tagged (in_more h) }))

  pub quoted_right :
      (m : Mode) (q : Bool) (mark : ℕ)
      → b < 256
      → marked marks_table b mark ≡ in_class (unquoted q) b
      → InAtt R r.place r.count
      → Back R r.place r.count m
      → State.value (place_of R r.place) (name_in R r.place) (atts_of R r.count) (name_in R (attribute_slot + r.count)) q
      ≡ back_state R r.place r.count m
      → Matches
      (step bounds (State.value (place_of R r.place) (name_in R r.place) (atts_of R r.count) (name_in R (attribute_slot + r.count)) q) b)
      (quoted_tick marks_table (moded r m) b mark (quote q)) R
  unfolding quoted_tick evs_in step pick
  quoted_right m q mark l is h k s =
      both _ _ is
      (λ e. Matches.moves refl (ap (goes []) (s ∙ sym (back_is R _ _ _ _ _ k))) (record { kept = kept; fits = Fits.back k }))
      (λ e.
      both _ _ refl
      (λ f. att_ended_lem m h)
      (λ f.
      both _ _ refl
      (λ g.
      Matches.moves refl (ap (λ z. goes [] (State.amper z)) s ∙ ap (goes []) (amper_first R m _ _ 0))
      (record { kept = kept; fits = Fits.amper k entity_none }))
      (λ g.
      both _ _ refl
      (λ i. Matches.stops (omega arith) refl)
      (λ i. lift (ap (settle (derive b utf8) not_char []) s) (wide_right (moded r m) R b kept l k)))))

  pub double_right :
      b < 256
      → r.mode ≡ mode.Double
      → InAtt R r.place r.count
      → Matches (step bounds (state_in R r.back r.place r.count r.row r.n mode.Double) b) (quoted_tick marks_table r b 2 34) R
  unfolding state_in back_state
  double_right l e h =
      subst
      (λ m. Matches (step bounds (state_in R r.back r.place r.count r.row r.n mode.Double) b) (quoted_tick marks_table (moded r m) b 2 34) R)
      (sym e)
      (quoted_right mode.Double true 2 l (double_mark b) h (Back.double h) refl)

  pub single_right :
      b < 256
      → r.mode ≡ mode.Single
      → InAtt R r.place r.count
      → Matches (step bounds (state_in R r.back r.place r.count r.row r.n mode.Single) b) (quoted_tick marks_table r b 4 39) R
  unfolding state_in back_state
  single_right l e h =
      subst
      (λ m. Matches (step bounds (state_in R r.back r.place r.count r.row r.n mode.Single) b) (quoted_tick marks_table (moded r m) b 4 39) R)
      (sym e)
      (quoted_right mode.Single false 4 l (single_mark b) h (Back.single h) refl)
