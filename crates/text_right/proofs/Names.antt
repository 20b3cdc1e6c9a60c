-- The names of a tag and of its attributes, byte by byte.
--
--   in_tag_kept          what holds of a tag in the room goes on to hold
--   longer_right         one byte more of a name
--   tag_right            in a tag's name;  gap_right: after a blank in a tag
--   named_right          an attribute's name is whole;  att_right: in its name
--
-- Assumes nothing.
use Rattle.std.specs.Prelude.{ℕ, suc, ◌+◌, ◌*◌, ◌≤◌, ◌<◌, ◌≡◌, eqb, leb}
use native.Mathlib.Omega.{arith}
use Rattle.std.proofs.Math.Path.{refl, sym, ap, ap₂, subst}
use Rattle.std.proofs.Common.{◌∙◌, get_or-set_same, get_or-set_other}
use Rattle.std.proofs.Math.Bool.{not}
use mathlib.Core.List.{List, [], ◌∷◌, ◌++◌}
use Rattle.std.proofs.Math.ListN.{length, set, length-append}
use borrow.Author.Tests.{leb-true, leb-false, le-leb, lt-leb, le-ltb}
use Rattle.choice.specs.When.{when_false}
use Rattle.xml.specs.Refused
use Rattle.xml.specs.Refused.{long_name}
use Rattle.xml.specs.Bounds.{name_limit, attribute_limit}
use Rattle.xml.proofs.Bounds.Laws.{name_limit_is, attribute_limit_is}
use Rattle.xml.specs.Grammar.{among}
use Rattle.xml.specs.Machine.{Place, State, Outcome, goes, check, longer, named, close_arms, pick, step}
use Rattle.xml.specs.Limited.{bounds}
use Rattle.slots.specs.Slots.{attribute_slot, base_of, length_in, name_in}
use Rattle.slots.specs.Copied.{doubled_in}
use Rattle.modes.specs.declared.Mode.{Mode}
use Rattle.modes.specs.declared.Mode.TheVariants as mode
use Rattle.modes.specs.declared.Reader.{Reader}
use Rattle.modes.specs.Moves.{go_to, spell_on}
use Rattle.tags.specs.Markup.{Ticked}
use Rattle.tags.specs.Tag.{name_byte, tag_end, tag_tick, gap_tick, att_begun, att_tick, named_tick}
use Rattle.text_right.specs.Marked.{marks_table, name_mark_lem, start_mark, blank_mark, beyond_mark}
use Rattle.text_right.specs.Stands.{atts_of, place_of, begun_in, state_in, state_of, evs_in}
use Rattle.text_right.specs.Sound.{Kept, InTag, InAtt, Sound, Fits}
use Rattle.text_right.proofs.Matched.{Matches, Ticks, lift, both_ticks, by_ticks}
use Rattle.text_right.proofs.Frames.{base_is, Out, length_kept, name_kept, place_kept, atts_kept, kept_set, begun_more, length_measured, measured_is}
use Rattle.text_right.proofs.Frames.{atts_length, begun_length}
use Rattle.text_right.proofs.Values.{close_right}
use Rattle.text_right.proofs.Markup.{check_yes, check_no, one_fits}
use Rattle.text_right.proofs.Doubled.{doubled_is}

turn_tick : {o : Outcome} {x y : Ticked} → x ≡ y → Ticks o y → Ticks o x
turn_tick {o} e h = subst (λ z. Ticks o z) (sym e) h

-- a byte past the attributes is written
pub in_tag_kept : (R : List ℕ) (i v : ℕ) {p k : ℕ} → (256 + k) * 68 ≤ i → InTag R p k → InTag (set R i v) p k
in_tag_kept R i v {p} {k} h t =
    let d = t.deep in
    let f = t.few in
    let e = base_is p (omega arith) in
    record {
      deep = d;
      named = subst (λ z. 1 ≤ z) (sym (length_kept R i v p (Out.over (omega arith)))) t.named;
      few = f;
      short = λ j m. subst (λ z. z ≤ 64) (sym (get_or-set_other R i _ v 0 (other j m (base_is (attribute_slot + j) (less j m f))))) (t.short j m);
    }
  where
    less : (j : ℕ) → j < k → k ≤ 16 → attribute_slot + j < 272
    less j m f = omega arith

    other : (j : ℕ) → j < k → base_of (attribute_slot + j) ≡ (attribute_slot + j) * 68 → (base_of (attribute_slot + j) + 64 ≡ i → ⊥)
    other j m e z = omega arith

module _ (r : Reader) (R : List ℕ) (b : ℕ) (kept : Kept R r.place) where
  -- one byte more of the name in the slot s, to go on in the mode m, whose state is f of the name
  pub longer_right :
      (s : ℕ) (m : Mode) (f : List ℕ → State)
      → s < 272
      → 1 ≤ r.n
      → r.n ≤ 64
      → (r.n < 64 → f (begun_in (set R (base_of s + r.n) b) s (r.n + 1)) ≡ state_of (spell_on r m r.row (r.n + 1)) (set R (base_of s + r.n) b))
      → (r.n < 64 → Sound (spell_on r m r.row (r.n + 1)) (set R (base_of s + r.n) b))
      → Ticks (longer bounds (begun_in R s r.n) f b) (name_byte r b R s m)
  unfolding name_byte evs_in
  longer_right s m f ls low most is ok =
      let e = base_is s ls in
      let u = kept.long in
      let v = name_limit_is in
      let w : length (begun_in R s r.n ++ (b ∷ [])) ≡ r.n + 1 =
      length-append (begun_in R s r.n) (b ∷ []) ∙ ap (λ z. z + 1) (begun_length R s r.n (omega arith)) in
      by_ticks (leb name_limit r.n)
      (λ g.
      let z : name_limit ≤ r.n = leb-true _ _ g in
      Matches.stops (omega arith) (check_no _ _ _ (lt-leb (length (begun_in R s r.n ++ (b ∷ []))) name_limit (omega arith))))
      (λ g.
      let z : r.n < name_limit = leb-false _ _ g in
      let y : r.n < 64 = omega arith in
      Matches.moves refl
      (check_yes _ _ _ (le-leb (length (begun_in R s r.n ++ (b ∷ []))) name_limit (omega arith))
      ∙ ap (λ w. goes [] (f w)) (sym (begun_more R s r.n b (omega arith)))
      ∙ ap (goes []) (is y))
      (ok y))

  module _ (deep : r.place < 256) (low : 1 ≤ r.n) (most : r.n ≤ 64) where
    -- the tag's name is whole
    whole : List ℕ
    whole = set R (base_of r.place + 64) r.n

    whole_kept : Kept whole r.place
    unfolding whole
    whole_kept = let e = base_is r.place (omega arith) in kept_set R _ r.n (omega arith) (omega arith) kept

    whole_place : place_of R r.place ≡ place_of whole r.place
    unfolding whole
    whole_place = let e = base_is r.place (omega arith) in sym (place_kept R (base_of r.place + 64) r.n r.place (omega arith) (omega arith))

    whole_name : begun_in R r.place r.n ≡ name_in whole r.place
    unfolding whole
    whole_name =
        let e = base_is r.place (omega arith) in
        let u = kept.long in
        sym (measured_is R r.place r.n most (omega arith))

    whole_length : 1 ≤ length_in whole r.place
    unfolding whole
    whole_length =
        let e = base_is r.place (omega arith) in
        let u = kept.long in
        subst (λ z. 1 ≤ z) (sym (length_measured R r.place r.n most (omega arith))) low

    close_tag : Matches (pick (close_arms bounds (place_of R r.place) (begun_in R r.place r.n)) b) (tag_end r b) whole
    close_tag =
        lift (ap₂ (λ P n. pick (close_arms bounds P n) b) whole_place whole_name) (close_right r whole b whole_kept deep whole_length)

    pub tag_right : b < 256 → Ticks (step bounds (State.tag (place_of R r.place) (begun_in R r.place r.n)) b) (tag_tick marks_table r b R)
    unfolding tag_tick state_in evs_in step pick atts_of whole
    tag_right l =
        let e = base_is r.place (omega arith) in
        both_ticks _ _ (name_mark_lem b)
        (λ f.
        longer_right r.place mode.Tag (State.tag (place_of R r.place)) (omega arith) low most
        (λ g.
        ap (λ P. State.tag P (begun_in (set R (base_of r.place + r.n) b) r.place (r.n + 1)))
        (sym (place_kept R (base_of r.place + r.n) b r.place (omega arith) (omega arith))))
        (λ g.
        record {
          kept = kept_set R (base_of r.place + r.n) b (omega arith) (omega arith) kept;
          fits = Fits.tag deep (omega arith) (omega arith);
        }))
        (λ f.
        both_ticks _ _ (blank_mark b)
        (λ g.
        Matches.moves refl (ap₂ (λ P n. goes [] (State.gap P n [])) whole_place whole_name)
        (record {
          kept = whole_kept;
          fits = Fits.gap (record { deep = deep; named = whole_length; few = omega arith; short = λ j m. absurd (none j m) });
        }))
        (λ g.
        both_ticks _ _ (beyond_mark b l)
        (λ h. Matches.stops (omega arith) refl)
        (λ h.
        by_ticks (eqb b 62)
        (λ i. close_tag)
        (λ i.
        by_ticks (eqb b 47)
        (λ j. close_tag)
        (λ j. Matches.stops (omega arith) (when_false _ _ _ i ∙ when_false _ _ _ j))))))
      where
        none : (j : ℕ) → j < 0 → ⊥
        none j m = omega arith

  -- an attribute begins
  att_begun_lem :
      InTag R r.place r.count
      → Ticks
      (check (leb (suc (length (atts_of R r.count))) attribute_limit) Refused.many_attributes
      (check (leb 1 name_limit) long_name (goes [] (State.att (place_of R r.place) (name_in R r.place) (atts_of R r.count) (b ∷ [])))))
      (att_begun r b R)
  unfolding att_begun state_in evs_in begun_in
  att_begun_lem h =
      let s = attribute_slot + r.count in
      let u = kept.long in
      let v = attribute_limit_is in
      let d = h.deep in
      let w = atts_length R r.count in
      by_ticks (leb attribute_limit r.count)
      (λ e.
      let z : attribute_limit ≤ r.count = leb-true _ _ e in
      Matches.stops (omega arith) (check_no _ _ _ (lt-leb (suc (length (atts_of R r.count))) attribute_limit (omega arith))))
      (λ e.
      let z : r.count < attribute_limit = leb-false _ _ e in
      let f = base_is s (omega arith) in
      let g = base_is r.place (omega arith) in
      let R' = set R (base_of s + 0) b in
      Matches.moves refl
      (check_yes _ _ _ (le-leb (suc (length (atts_of R r.count))) attribute_limit (omega arith))
      ∙ check_yes _ _ _ one_fits
      ∙ ap₂ (λ P n. goes [] (State.att P n (atts_of R r.count) (b ∷ [])))
      (sym (place_kept R (base_of s + 0) b r.place (omega arith) (omega arith)))
      (sym (name_kept R (base_of s + 0) b r.place (Out.over (omega arith))))
      ∙ ap₂ (λ ms m. goes [] (State.att (place_of R' r.place) (name_in R' r.place) ms m))
      (sym (atts_kept R (base_of s + 0) b r.count (omega arith) (omega arith)))
      (sym (begun_more R s 0 b (omega arith))))
      (record {
        kept = kept_set R (base_of s + 0) b (omega arith) (omega arith) kept;
        fits = Fits.att (in_tag_kept R (base_of s + 0) b (omega arith) h) (omega arith) (omega arith) (omega arith);
      }))

  pub gap_right :
      b < 256 → InTag R r.place r.count
      → Ticks (step bounds (State.gap (place_of R r.place) (name_in R r.place) (atts_of R r.count)) b) (gap_tick marks_table r b R)
  unfolding gap_tick state_in evs_in step pick
  gap_right l h =
      both_ticks _ _ (start_mark b)
      (λ e. att_begun_lem h)
      (λ e.
      both_ticks _ _ (blank_mark b)
      (λ f. Matches.moves refl refl (record { kept = kept; fits = Fits.gap h }))
      (λ f.
      both_ticks _ _ (beyond_mark b l)
      (λ g. Matches.stops (omega arith) refl)
      (λ g. close_right r R b kept h.deep h.named)))

  module _ (tag : InTag R r.place r.count) (few : r.count < 16) (low : 1 ≤ r.n) (most : r.n ≤ 64) where
    -- the slot of the attribute, and the room with its name whole
    slot : ℕ
    slot = attribute_slot + r.count

    done : List ℕ
    done = set R (base_of slot + 64) r.n

    done_att : InAtt done r.place r.count
    unfolding done slot
    done_att =
        let e = base_is (attribute_slot + r.count) (omega arith) in
        let u = kept.long in
        record {
          tag = in_tag_kept R (base_of (attribute_slot + r.count) + 64) r.n (omega arith) tag;
          fewer = few;
          shorter = subst (λ z. z ≤ 64) (sym (get_or-set_same R (base_of (attribute_slot + r.count) + 64) r.n 0 (omega arith))) most;
        }

    done_kept : Kept done r.place
    unfolding done slot
    done_kept =
        let e = base_is (attribute_slot + r.count) (omega arith) in
        let d = tag.deep in
        kept_set R (base_of (attribute_slot + r.count) + 64) r.n (omega arith) (omega arith) kept

    done_is :
        (f : Place → List ℕ → List (List ℕ) → List ℕ → State)
        → f (place_of R r.place) (name_in R r.place) (atts_of R r.count) (begun_in R slot r.n)
        ≡ f (place_of done r.place) (name_in done r.place) (atts_of done r.count) (name_in done slot)
    unfolding done slot
    done_is f =
        let i = base_of (attribute_slot + r.count) + 64 in
        let e = base_is (attribute_slot + r.count) (omega arith) in
        let d = tag.deep in
        let g = base_is r.place (omega arith) in
        let u = kept.long in
        ap₂ (λ P n. f P n (atts_of R r.count) (begun_in R (attribute_slot + r.count) r.n))
        (sym (place_kept R i r.n r.place (omega arith) (omega arith))) (sym (name_kept R i r.n r.place (Out.over (omega arith))))
        ∙ ap₂ (f (place_of (set R i r.n) r.place) (name_in (set R i r.n) r.place))
        (sym (atts_kept R i r.n r.count (omega arith) (omega arith))) (sym (measured_is R (attribute_slot + r.count) r.n most (omega arith)))

    named_right :
        (m : Mode) (f : Place → List ℕ → List (List ℕ) → List ℕ → State)
        → f (place_of done r.place) (name_in done r.place) (atts_of done r.count) (name_in done slot) ≡ state_of (go_to r m) done
        → Fits done (go_to r m) m
        → Ticks
        (named bounds (begun_in R slot r.n) (atts_of R r.count)
        (f (place_of R r.place) (name_in R r.place) (atts_of R r.count) (begun_in R slot r.n)))
        (named_tick r R m)
    unfolding named_tick evs_in done slot
    named_right m f is ok =
        turn_tick (when_false _ _ _ (le-ltb 64 r.n most))
        (by_ticks (doubled_in R r.count r.n)
        (λ e. Matches.stops (omega arith) (check_no _ _ _ (ap not (sym same ∙ e))))
        (λ e.
        Matches.moves refl (check_yes _ _ _ (ap not (sym same ∙ e)) ∙ ap (goes []) (done_is f ∙ is))
        (record { kept = done_kept; fits = ok })))
      where
        same : doubled_in R r.count r.n ≡ among (begun_in R (attribute_slot + r.count) r.n) (atts_of R r.count)
        same = doubled_is R r.count r.n kept.long few most tag.short

    pub att_right :
        b < 256
        → Ticks (step bounds (State.att (place_of R r.place) (name_in R r.place) (atts_of R r.count) (begun_in R (attribute_slot + r.count) r.n)) b)
        (att_tick marks_table r b R)
    unfolding att_tick state_in evs_in step pick slot
    att_right l =
        let i = base_of (attribute_slot + r.count) + r.n in
        let e = base_is (attribute_slot + r.count) (omega arith) in
        let d = tag.deep in
        let g = base_is r.place (omega arith) in
        both_ticks _ _ (name_mark_lem b)
        (λ h.
        longer_right (attribute_slot + r.count) mode.Att (State.att (place_of R r.place) (name_in R r.place) (atts_of R r.count)) (omega arith) low most
        (λ j.
        ap₂ (λ P n. State.att P n (atts_of R r.count) (begun_in (set R i b) (attribute_slot + r.count) (r.n + 1)))
        (sym (place_kept R i b r.place (omega arith) (omega arith))) (sym (name_kept R i b r.place (Out.over (omega arith))))
        ∙ ap (λ ms. State.att (place_of (set R i b) r.place) (name_in (set R i b) r.place) ms (begun_in (set R i b) (attribute_slot + r.count) (r.n + 1)))
        (sym (atts_kept R i b r.count (omega arith) (omega arith))))
        (λ j.
        record {
          kept = kept_set R i b (omega arith) (omega arith) kept;
          fits = Fits.att (in_tag_kept R i b (omega arith) tag) few (omega arith) (omega arith);
        }))
        (λ h.
        both_ticks _ _ (blank_mark b)
        (λ j. named_right mode.Equals State.eqs refl (Fits.equals done_att))
        (λ j.
        both_ticks _ _ refl
        (λ k. named_right mode.Value State.val refl (Fits.value done_att))
        (λ k. both_ticks _ _ (beyond_mark b l) (λ z. Matches.stops (omega arith) refl) (λ z. Matches.stops (omega arith) refl))))
