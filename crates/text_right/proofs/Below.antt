-- A byte of text changes nothing in the slots of the elements that are open.
--
--   Same R S p           the rooms R and S agree in the slots below p
--   tick_below           so do the rooms before and after a byte, below the place before it
--   number_same, name_same      the number and the name in a slot below stay
--   copied_below, walked_below      so do the rooms before and after a loop
--
-- Assumes nothing.
use Rattle.std.specs.Prelude.{ℕ, ◌+◌, ◌*◌, ◌≤◌, ◌<◌, ◌≡◌, refl, List, [], ◌∷◌, leb, ltb, get_or, set, drop}
use native.Mathlib.Omega.{arith}
use Rattle.std.proofs.Math.Path.{sym, ap, ap₂}
use Rattle.std.proofs.Common.{◌∙◌, get_or-set_other}
use Rattle.std.proofs.Math.ListN.{length, take, length-take, length-drop}
use Rattle.std.proofs.Math.Seq.{get_or-take, get_or-drop, ext_get_or}
use borrow.Author.Tests.{leb-false}
use Rattle.choice.specs.When.{when, when_either, when_known}
use Rattle.meaning.specs.Limits.{depth_limit}
use Rattle.meaning.proofs.Limits.Laws.{depth_is}
use Rattle.xml.specs.Bounds.{attribute_limit}
use Rattle.xml.proofs.Bounds.Laws.{attribute_limit_is}
use Rattle.slots.specs.Slots.{attribute_slot, base_of, length_in, name_in, number_in}
use Rattle.slots.specs.Copied.{Copied, copied, name_mark}
use Rattle.chars.specs.Marks.{marked}
use Rattle.modes.specs.declared.Mode.{Mode}
use Rattle.modes.specs.declared.Mode.TheVariants as mode
use Rattle.modes.specs.declared.Reader.{Reader}
use Rattle.tags.specs.Markup.{Ticked, begun, markup_tick, first_tick}
use Rattle.tags.specs.Tag.{name_byte, tag_tick, gap_tick, att_begun, att_tick, named_tick}
use Rattle.tick.specs.Tick.{tick_in, tick}
use Rattle.walk.specs.Walk.{pace_in, pace_of, walked_by, walked}
use Rattle.text_right.specs.Sound.{Back, Fits, Sound}
use Rattle.text_right.proofs.Frames.{base_is, length_most}

pub record Same (R S : List ℕ) (p : ℕ) : Type 0 where
  pub agree : (i : ℕ) → i < p * 68 → get_or S i 0 ≡ get_or R i 0

unchanged : (R : List ℕ) (p : ℕ) → Same R R p
unchanged R p = record { agree = λ i h. refl }

written : (R : List ℕ) (p j v : ℕ) → p * 68 ≤ j → Same R (set R j v) p
written R p j v l = record { agree = λ i h. get_or-set_other R j i v 0 (other i h) }
  where
    other : (i : ℕ) → i < p * 68 → (i ≡ j → ⊥)
    other i h e = omega arith

module _ (M : List ℕ) (r : Reader) (b : ℕ) (R : List ℕ) where
  -- the room of a tick
  To : Ticked → Type 0
  To x = Same R x.room r.place

  name_below : (s : ℕ) (m : Mode) → r.place * 68 ≤ base_of s → To (name_byte r b R s m)
  unfolding name_byte To
  name_below s m l = when_either To _ _ _ (unchanged R _) (written R r.place (base_of s + r.n) b (omega arith))

  tag_below : r.place < 256 → To (tag_tick M r b R)
  unfolding tag_tick To
  tag_below d =
      let e = base_is r.place (omega arith) in
      when_either To _ _ _ (name_below r.place mode.Tag (omega arith))
      (when_either To _ _ _ (written R r.place _ _ (omega arith))
      (when_either To _ _ _ (unchanged R _)
      (when_either To _ _ _ (written R r.place _ _ (omega arith))
      (when_either To _ _ _ (written R r.place _ _ (omega arith)) (unchanged R _)))))

  begun_below : To (begun r b R)
  unfolding begun To
  begun_below =
      when_either To _ _ _ (unchanged R _)
      (when_known To (leb depth_limit r.place) _ _ (λ e. unchanged R _)
      (λ e.
      let h : r.place < depth_limit = leb-false _ _ e in
      let d = depth_is in
      let u = base_is r.place (omega arith) in
      written R r.place (base_of r.place + 0) b (omega arith)))

  markup_below : To (markup_tick M r b R)
  unfolding markup_tick To
  markup_below =
      when_either To _ _ _ begun_below
      (when_either To _ _ _ (unchanged R _)
      (when_either To _ _ _ (unchanged R _)
      (when_either To _ _ _ (unchanged R _)
      (when_either To _ _ _ (unchanged R _) (when_either To _ _ _ (unchanged R _) (unchanged R _))))))

  first_below : To (first_tick M r b R)
  unfolding first_tick To
  first_below = when_either To _ _ _ (unchanged R _) markup_below

  gap_below : r.place < 256 → To (gap_tick M r b R)
  unfolding gap_tick att_begun To
  gap_below d =
      when_either To _ _ _
      (when_known To (leb attribute_limit r.count) _ _ (λ e. unchanged R _)
      (λ e.
      let h : r.count < attribute_limit = leb-false _ _ e in
      let a = attribute_limit_is in
      let u = base_is (attribute_slot + r.count) (omega arith) in
      written R r.place (base_of (attribute_slot + r.count) + 0) b (omega arith)))
      (when_either To _ _ _ (unchanged R _) (when_either To _ _ _ (unchanged R _) (unchanged R _)))

  named_below : (m : Mode) → r.place < 256 → r.count < 16 → To (named_tick r R m)
  unfolding named_tick To
  named_below m d few =
      let u = base_is (attribute_slot + r.count) (omega arith) in
      when_either To _ _ _ (unchanged R _)
      (when_either To _ _ _ (unchanged R _) (written R r.place (base_of (attribute_slot + r.count) + 64) r.n (omega arith)))

  att_below : r.place < 256 → r.count < 16 → To (att_tick M r b R)
  unfolding att_tick To
  att_below d few =
      let u = base_is (attribute_slot + r.count) (omega arith) in
      when_either To _ _ _ (name_below (attribute_slot + r.count) mode.Att (omega arith))
      (when_either To _ _ _ (named_below mode.Equals d few)
      (when_either To _ _ _ (named_below mode.Value d few) (when_either To _ _ _ (unchanged R _) (unchanged R _))))

  back_below : {m : Mode} → Back R r.place r.count m → To (tick_in m M r b R)
  unfolding tick_in To
  back_below (Back.data' h) = unchanged R _
  back_below (Back.note h) = unchanged R _
  back_below (Back.double h) = unchanged R _
  back_below (Back.single h) = unchanged R _

  in_below : {m : Mode} → Fits R r m → To (tick_in m M r b R)
  unfolding tick_in To
  in_below (Fits.prolog' h k) = unchanged R _
  in_below (Fits.first h) = first_below
  in_below (Fits.around h) = unchanged R _
  in_below (Fits.back h) = back_below h
  in_below (Fits.bracket h) = unchanged R _
  in_below (Fits.brackets h) = unchanged R _
  in_below (Fits.markup h) = markup_below
  in_below (Fits.bang h k) = unchanged R _
  in_below (Fits.dash h) = unchanged R _
  in_below (Fits.dashes h) = unchanged R _
  in_below (Fits.amper h k) = unchanged R _
  in_below (Fits.char h k i) = unchanged R _
  in_below (Fits.tag d k i) = tag_below d
  in_below (Fits.tagged h) = unchanged R _
  in_below (Fits.gap h) = gap_below h.deep
  in_below (Fits.att h k i j) = att_below h.deep k
  in_below (Fits.equals h) = unchanged R _
  in_below (Fits.value h) = unchanged R _
  in_below (Fits.slash h k) = unchanged R _
  in_below (Fits.end h) = unchanged R _
  in_below (Fits.ended h) = unchanged R _

  pub tick_below : Sound r R → Same R (tick M r b R).room r.place
  unfolding tick To
  tick_below s = in_below s.fits

-- the name and the number in a slot below
module _ (R S : List ℕ) (p s : ℕ) (h : Same R S p) (l : s < p) (m : p ≤ 256) where
  pub number_same : number_in S s ≡ number_in R s
  unfolding number_in
  number_same =
      let e = base_is s (omega arith) in
      ap₂ (λ x y. x * 256 + y) (h.agree (base_of s + 65) (omega arith)) (h.agree (base_of s + 66) (omega arith))

  module _ (long : length S ≡ length R) where
    length_same : length_in S s ≡ length_in R s
    unfolding length_in
    length_same = let e = base_is s (omega arith) in ap (λ x. when (ltb 64 x) 64 x) (h.agree (base_of s + 64) (omega arith))

    pub name_same : name_in S s ≡ name_in R s
    unfolding name_in
    name_same =
        let e = base_is s (omega arith) in
        let most = length_most R s in
        ap (λ n. take n (drop (base_of s) S)) length_same
        ∙ ext_get_or 0 (take (length_in R s) (drop (base_of s) S)) (take (length_in R s) (drop (base_of s) R)) (simp (length-take, length-drop, long))
        (λ i k.
        let k' : i < length (take (length_in R s) (drop (base_of s) S)) = k in
        let u = length-take (length_in R s) (drop (base_of s) S) in
        let v : i < length_in R s = omega arith in
        get_or-take (length_in R s) (drop (base_of s) S) i 0 v
        ∙ get_or-drop (base_of s) S i 0
        ∙ h.agree (base_of s + i) (omega arith)
        ∙ sym (get_or-take (length_in R s) (drop (base_of s) R) i 0 v ∙ get_or-drop (base_of s) R i 0))

-- one change after another
pub same_trans : {R S T : List ℕ} {p : ℕ} → Same R S p → Same S T p → Same R T p
same_trans h k = record { agree = λ i l. k.agree i l ∙ h.agree i l }

pub copied_below : (M R : List ℕ) (s n at : ℕ) (t : List ℕ) (p : ℕ) → p * 68 ≤ base_of s → Same R (copied M R s n at t).room p
unfolding copied
copied_below M R s n at [] p l = unchanged R p
copied_below M R s n at (b ∷ t) p l =
    when_either (λ (w : Copied). Same R w.room p) (marked M b name_mark) _ _
    (when_either (λ (w : Copied). Same R w.room p) (leb 64 n) _ _ (unchanged R p)
    (same_trans (written R p (base_of s + n) b (omega arith)) (copied_below M (set R (base_of s + n) b) s (n + 1) (at + 1) t p l)))
    (unchanged R p)

module _ (M : List ℕ) (r : Reader) (at : ℕ) (t R : List ℕ) where
  On : Mode → Type 0
  On m = Same R (walked_by (pace_in m r) M r at t R).room r.place

  back_walked : {m : Mode} → Back R r.place r.count m → On m
  unfolding On walked_by pace_in
  back_walked (Back.data' h) = unchanged R _
  back_walked (Back.note h) = unchanged R _
  back_walked (Back.double h) = unchanged R _
  back_walked (Back.single h) = unchanged R _

  in_walked : {m : Mode} → Fits R r m → On m
  unfolding On walked_by pace_in
  in_walked (Fits.prolog' h k) = unchanged R _
  in_walked (Fits.first h) = unchanged R _
  in_walked (Fits.around h) = unchanged R _
  in_walked (Fits.back h) = back_walked h
  in_walked (Fits.bracket h) = unchanged R _
  in_walked (Fits.brackets h) = unchanged R _
  in_walked (Fits.markup h) = unchanged R _
  in_walked (Fits.bang h k) = unchanged R _
  in_walked (Fits.dash h) = unchanged R _
  in_walked (Fits.dashes h) = unchanged R _
  in_walked (Fits.amper h k) = unchanged R _
  in_walked (Fits.char h k i) = unchanged R _
  in_walked (Fits.tag d k i) = let e = base_is r.place (omega arith) in copied_below M R r.place r.n at t r.place (omega arith)
  in_walked (Fits.tagged h) = unchanged R _
  in_walked (Fits.gap h) = unchanged R _
  in_walked (Fits.att h k i j) =
      let d = h.deep in
      let e = base_is (attribute_slot + r.count) (omega arith) in
      copied_below M R (attribute_slot + r.count) r.n at t r.place (omega arith)
  in_walked (Fits.equals h) = unchanged R _
  in_walked (Fits.value h) = unchanged R _
  in_walked (Fits.slash h k) = unchanged R _
  in_walked (Fits.end h) = unchanged R _
  in_walked (Fits.ended h) = unchanged R _

  pub walked_below : Sound r R → Same R (walked M r at t R).room r.place
  unfolding walked pace_of On
  walked_below s = in_walked s.fits
