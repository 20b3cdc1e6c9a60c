-- The end of an element, byte by byte.
--
--   slot_after, slot_inner      the slot of what was closed;  word_at: after some bytes of a word
--   other_class, other_byte     a byte of a class is in none that is apart from it, and is no byte outside it
--   slash_right       after the '/' of an empty tag
--   closed_right      an end tag's '>'
--   ended_right       after its name and a blank;  end_right: in its name, and right after it
--
-- Assumes nothing.
use Prim.Native.Nat.{ℕ, suc, ◌+◌, ◌-◌, ◌≤◌, ◌<◌}
use native.Mathlib.Omega.{arith}
use Rattle.std.proofs.Common.{add-one, ap₂, ◌∙◌, subst, length-take, length-drop, drop_of_length-le, drop-cons}
use Rattle.std.specs.Prelude.{◌≡◌, Bool, true, false, T, eqb, leb, ltb, length, get_or, drop}
use Rattle.std.proofs.Math.Path.{refl, sym, ap}
use mathlib.Core.List.{List, [], ◌∷◌}
use Rattle.std.proofs.Math.Seq.{get_or-take, get_or-drop}
use borrow.Author.Tests.{eqb-true, eqb-false, ne_eqb, leb-true, leb-false, ltb-true, ltb-false, lt-ltb, le-ltb}
use Rattle.choice.specs.When.{when, when_true, when_false, never}
use Rattle.xml.specs.Class.{Class, in_class, derive, disjoint, disjoint_ranges, out_of, word}
use Rattle.xml.proofs.Class.Laws.{not_in}
use Rattle.xml.specs.Chars.{blank, name_char, beyond}
use Rattle.xml.specs.Refused.{misplaced, other_end}
use Rattle.xml.specs.Grammar.{opens, closes, b0}
use Rattle.xml.specs.Machine.{Place, State, refused, goes, up, emptied, settle, pick, step}
use Rattle.xml.specs.Limited.{bounds}
use Rattle.chars.specs.Marks.{marked}
use Rattle.slots.specs.Slots.{base_of, length_in, name_in}
use Rattle.modes.specs.declared.Mode.TheVariants as mode
use Rattle.modes.specs.declared.Reader.{Reader}
use Rattle.modes.specs.Moves.{after_place, open_at}
use Rattle.ends.specs.Ends.{emptied_tick, closed, ended_tick, whole_tick, end_tick}
use Rattle.text_right.specs.Marked.{marks_table, name_mark_lem, blank_mark, beyond_mark}
use Rattle.text_right.specs.Stands.{names, place_of, end_state, state_in, evs_in}
use Rattle.text_right.specs.Sound.{Inner, Outer, Kept, Back, Fits}
use Rattle.text_right.proofs.Matched.{Matches, lift, turn, both, by_test, place_before, place_after, place_inner, word_on, word_step}
use Rattle.text_right.proofs.Frames.{base_is, length_most, kept_less, kept_none}

pub slot_after : open_at after_place ≡ 0
unfolding open_at when
slot_after = refl

pub slot_inner : (p : ℕ) → p ≤ 256 → open_at p ≡ p
unfolding open_at
slot_inner p h = when_false _ _ _ (ne_eqb p after_place (λ z. omega arith))

-- the place around the innermost element
up_first : (R : List ℕ) (p : ℕ) → p ≡ 1 → up (names R (p - 1)) ≡ place_of R after_place
unfolding names
up_first R p e =
    let z : p - 1 ≡ 0 = omega arith in
    ap (λ x. up (names R x)) z ∙ sym (place_after R after_place refl)

up_deeper : (R : List ℕ) (d : ℕ) → d < 256 → up (names R (suc d)) ≡ place_of R (suc d)
unfolding names
up_deeper R d h =
    let z : d ≡ suc d - 1 = omega arith in
    ap (λ x. Place.inside (name_in R x) (names R x)) z ∙ sym (place_inner R (suc d) (record { low = omega arith; high = omega arith }))

-- a byte of a class is none of another, and none of the others
pub other_class : (c d : Class) (b : ℕ) → T (disjoint c d) → in_class d b ≡ true → in_class c b ≡ false
other_class c d b t e = not_in c d b t (subst T (sym e) tt)

pub other_byte : (c : Class) (b n : ℕ) → in_class c b ≡ true → in_class c n ≡ false → eqb b n ≡ false
other_byte c b n e f = ne_eqb b n (λ z. never (sym f ∙ sym (ap (in_class c) z) ∙ e))

-- right after an end tag's name comes no byte of a name
name_next : (n : List ℕ) (ns : List (List ℕ)) (b : ℕ) → in_class name_char b ≡ true → step bounds (State.ending n ns) b ≡ refused other_end
unfolding step pick in_class disjoint disjoint_ranges out_of
name_next n ns b e =
    when_false _ _ _ (other_class blank name_char b tt e)
    ∙ when_false _ _ _ (other_byte name_char b 62 e refl)
    ∙ when_true _ _ _ e

beyond_next : (n : List ℕ) (ns : List (List ℕ)) (b : ℕ) → in_class beyond b ≡ true → step bounds (State.ending n ns) b ≡ refused other_end
unfolding step pick in_class disjoint disjoint_ranges out_of
beyond_next n ns b e =
    when_false _ _ _ (other_class blank beyond b tt e)
    ∙ when_false _ _ _ (other_byte beyond b 62 e refl)
    ∙ when_false _ _ _ (other_class name_char beyond b tt e)
    ∙ when_true _ _ _ e

-- after m bytes of a word
pub word_at :
    (w : List ℕ) (m r : ℕ) (k : State) (x : Bool)
    → ltb m (length w) ≡ x
    → word_on (drop m w) r [] k ≡ goes [] (when x (State.rows (word (drop m w) ∷ []) r [] k) k)
unfolding word_on when
word_at w m r k true e =
    let h : m < length w = ltb-true _ _ e in
    subst (λ v. word_on v r [] k ≡ goes [] (State.rows (word v ∷ []) r [] k)) (sym (drop-cons w m 0 h)) refl
word_at w m r k false e = ap (λ v. word_on v r [] k) (drop_of_length-le w (ltb-false _ _ e))

module _ (r : Reader) (R : List ℕ) (b : ℕ) (kept : Kept R r.place) where
  pub slash_right :
      r.place < 256 → 1 ≤ length_in R r.place
      → Matches (step bounds (state_in R r.back r.place r.count r.row r.n mode.Slash) b) (emptied_tick r b) R
  unfolding emptied_tick state_in evs_in step pick word_on
  slash_right l h =
      let P = place_of R r.place in
      let n = name_in R r.place in
      lift (word_step 62 [] misplaced (opens n ∷ closes n ∷ []) (State.at (emptied P) b0) b)
      (both _ _ refl
      (λ e.
      by_test (eqb r.place 0)
      (λ f.
      let z : r.place ≡ 0 = eqb-true _ 0 f in
      Matches.moves refl
      (ap₂ (λ x Q. goes (opens (name_in R x) ∷ closes (name_in R x) ∷ []) (State.at Q b0)) (z ∙ sym slot_after)
      (ap emptied (place_before R _ z) ∙ sym (place_after R after_place refl)))
      (record { kept = kept_none R _ kept; fits = Fits.around (Outer.after refl) }))
      (λ f.
      let i = inner r.place l (eqb-false _ 0 f) in
      Matches.moves refl
      (ap₂ (λ x Q. goes (opens (name_in R x) ∷ closes (name_in R x) ∷ []) (State.at Q b0)) (sym (slot_inner r.place (omega arith)))
      (ap emptied (place_inner R _ i) ∙ sym (place_inner R _ i)))
      (record { kept = kept; fits = Fits.back (Back.data' i) })))
      (λ e. Matches.stops (omega arith) refl))
    where
      inner : (p : ℕ) → p < 256 → (p ≡ 0 → ⊥) → Inner p
      inner p l f = record { low = omega arith; high = omega arith }

  pub closed_right :
      Inner r.place
      → Matches (goes (closes (name_in R (r.place - 1)) ∷ []) (State.at (up (names R (r.place - 1))) b0)) (closed r) R
  unfolding closed state_in evs_in
  closed_right i =
      let l = i.low in
      let h = i.high in
      by_test (leb r.place 1)
      (λ e.
      let m : r.place ≤ 1 = leb-true _ _ e in
      let z : r.place ≡ 1 = omega arith in
      Matches.moves refl
      (ap₂ (λ x Q. goes (closes (name_in R x) ∷ []) (State.at Q b0)) (let y : r.place - 1 ≡ 0 = omega arith in y ∙ sym slot_after) (up_first R _ z))
      (record { kept = kept_none R _ kept; fits = Fits.around (Outer.after refl) }))
      (λ e.
      let m : 1 < r.place = leb-false _ _ e in
      let y : r.place - 1 ≡ suc (r.place - 2) = omega arith in
      Matches.moves refl
      (ap₂ (λ x Q. goes (closes (name_in R x) ∷ []) (State.at Q b0)) (sym (slot_inner (r.place - 1) (omega arith)))
      (ap (λ x. up (names R x)) y ∙ up_deeper R (r.place - 2) (omega arith) ∙ ap (place_of R) (sym y)))
      (record { kept = kept_less R _ h kept; fits = Fits.back (Back.data' (record { low = omega arith; high = omega arith })) }))

  pub ended_right :
      Inner r.place
      → Matches (step bounds (State.ended (name_in R (r.place - 1)) (names R (r.place - 1))) b) (ended_tick marks_table r b) R
  unfolding ended_tick state_in evs_in step pick
  ended_right i =
      both _ _ (blank_mark b)
      (λ e. Matches.moves refl refl (record { kept = kept; fits = Fits.ended i }))
      (λ e. both _ _ refl (λ f. closed_right i) (λ f. Matches.stops (omega arith) refl))

  whole_right :
      b < 256 → Inner r.place
      → Matches (step bounds (State.ending (name_in R (r.place - 1)) (names R (r.place - 1))) b) (whole_tick marks_table r b) R
  unfolding whole_tick ended_tick state_in evs_in step pick
  whole_right l i =
      by_test (marked marks_table b 16)
      (λ e. Matches.stops (omega arith) (name_next _ _ b (sym (name_mark_lem b) ∙ e)))
      (λ e.
      by_test (leb 128 b)
      (λ f. Matches.stops (omega arith) (beyond_next _ _ b (sym (beyond_mark b l) ∙ f)))
      (λ f.
      both _ _ (blank_mark b)
      (λ g. Matches.moves refl refl (record { kept = kept; fits = Fits.ended i }))
      (λ g.
      both _ _ refl
      (λ j. closed_right i)
      (λ j. Matches.stops (omega arith) (when_false _ _ _ (sym (name_mark_lem b) ∙ e) ∙ when_false _ _ _ (sym (beyond_mark b l) ∙ f))))))

  name_long : Inner r.place → length (name_in R (r.place - 1)) ≡ length_in R (r.place - 1)
  unfolding name_in
  name_long i =
      let l = i.low in
      let h = i.high in
      let z = kept.long in
      let e = base_is (r.place - 1) (omega arith) in
      let m = length_most R (r.place - 1) in
      simp (length-take, length-drop) (omega arith)

  name_byte_lem : (n : ℕ) → n < length_in R (r.place - 1) → get_or (name_in R (r.place - 1)) n 0 ≡ get_or R (base_of (r.place - 1) + n) 0
  unfolding name_in
  name_byte_lem n h = get_or-take (length_in R (r.place - 1)) (drop (base_of (r.place - 1)) R) n 0 h ∙ get_or-drop (base_of (r.place - 1)) R n 0

  pub end_right :
      b < 256 → Inner r.place
      → Matches (step bounds (state_in R r.back r.place r.count r.row r.n mode.End) b) (end_tick marks_table r b R) R
  unfolding end_tick state_in end_state evs_in step pick
  end_right l i =
      let low = i.low in
      let name = name_in R (r.place - 1) in
      let k = State.ending name (names R (r.place - 1)) in
      turn (when_false _ _ _ (ne_eqb r.place 0 (λ z. omega arith)))
      (by_test (leb (length_in R (r.place - 1)) r.n)
      (λ e. lift (ap (λ s. step bounds s b) (when_false _ _ _ (le-ltb r.n (length_in R (r.place - 1)) (leb-true _ _ e)))) (whole_right l i))
      (λ e.
      let h : r.n < length_in R (r.place - 1) = leb-false _ _ e in
      let z = name_long i in
      lift
      (ap (λ s. step bounds s b) (when_true _ _ _ (lt-ltb r.n (length_in R (r.place - 1)) h))
      ∙ ap (λ v. settle (derive b (word v ∷ [])) other_end [] k) (drop-cons name r.n 0 (omega arith))
      ∙ word_step (get_or name r.n 0) (drop (suc r.n) name) other_end [] k b
      ∙ ap (λ c. when (eqb b c) (word_on (drop (suc r.n) name) other_end [] k) (refused other_end)) (name_byte_lem r.n h))
      (both _ _ refl
      (λ f.
      Matches.moves refl
      (ap (λ m. word_on (drop m name) other_end [] k) (sym (add-one r.n))
      ∙ word_at name (r.n + 1) other_end k (ltb (r.n + 1) (length name)) refl
      ∙ ap (λ x. goes [] (when (ltb (r.n + 1) x) (State.rows (word (drop (r.n + 1) name) ∷ []) other_end [] k) k)) z)
      (record { kept = kept; fits = Fits.end i }))
      (λ f. Matches.stops (omega arith) refl))))
