-- The number of a name, written beside it in its slot, changes no name.
--
--   beside, numbered_name     the two bytes of a number are none of any name
--   numbered_names, numbered_place, numbered_kept      the names of the open elements stay, and what holds of the room
--   numbered_state, numbered_sound      so do the reader's state and all that holds, in character data
--
-- Assumes nothing.
use Prim.Native.Nat.{ℕ, zero, suc, ◌+◌, ◌-◌, ◌/◌, ◌%◌, ◌≤◌, ◌<◌}
use Rattle.std.proofs.Common.{arith, ◌∙◌, ltb-true, ltb-false}
use Rattle.std.specs.Prelude.{◌≡◌, Bool, true, false, List, ◌∷◌, eqb, ltb, set}
use Rattle.std.proofs.Math.Path.{refl, sym, ap, ap₂, subst}
use Rattle.std.proofs.Math.ListN.{length-set}
use Rattle.choice.specs.When.{when}
use Rattle.xml.specs.Grammar.{b0}
use Rattle.xml.specs.Machine.{Place, State}
use Rattle.slots.specs.Slots.{base_of, length_in, name_in, numbered}
use Rattle.modes.specs.declared.Mode.TheVariants as mode
use Rattle.modes.specs.declared.Reader.{Reader}
use Rattle.modes.specs.Moves.{after_place, open_at}
use Rattle.text_right.specs.Stands.{names, place_of, state_in, state_of}
use Rattle.text_right.specs.Sound.{Inner, Kept, Back, Fits, Sound}
use Rattle.text_right.proofs.Frames.{base_is, Out, length_kept, name_kept, open_is}

-- the byte k of slot s, behind the name and its length, is none of the slot j's name
beside : (s j k : ℕ) → s < 272 → j < 272 → 64 < k → k < 68 → Out (base_of s + k) j
beside s j k ls lj low high = go (ltb s j) refl
  where
    go : (x : Bool) → ltb s j ≡ x → Out (base_of s + k) j
    go true e =
        let h : s < j = ltb-true s j e in
        let p = base_is s ls in
        let q = base_is j lj in
        Out.under (omega arith)
    go false e =
        let h : j ≤ s = ltb-false s j e in
        let p = base_is s ls in
        let q = base_is j lj in
        Out.over (omega arith)

data_inner : {R : List ℕ} {r : Reader} → Fits R r mode.Data → Inner r.place
data_inner (Fits.back (Back.data' h)) = h

module _ (R : List ℕ) (s x : ℕ) (ls : s < 272) where
  pub numbered_name : (j : ℕ) → j < 272 → name_in (numbered R s x) j ≡ name_in R j
  unfolding numbered
  numbered_name j lj =
      name_kept (set R (base_of s + 65) (x / 256)) (base_of s + 66) (x % 256) j (beside s j 66 ls lj (omega arith) (omega arith))
      ∙ name_kept R (base_of s + 65) (x / 256) j (beside s j 65 ls lj (omega arith) (omega arith))

  numbered_length : (j : ℕ) → j < 272 → length_in (numbered R s x) j ≡ length_in R j
  unfolding numbered
  numbered_length j lj =
      length_kept (set R (base_of s + 65) (x / 256)) (base_of s + 66) (x % 256) j (beside s j 66 ls lj (omega arith) (omega arith))
      ∙ length_kept R (base_of s + 65) (x / 256) j (beside s j 65 ls lj (omega arith) (omega arith))

  pub numbered_names : (d : ℕ) → d ≤ 256 → names (numbered R s x) d ≡ names R d
  unfolding names
  numbered_names zero h = refl
  numbered_names (suc d) h = ap₂ (λ n ns. n ∷ ns) (numbered_name d (omega arith)) (numbered_names d (omega arith))

  pub numbered_place : (p : ℕ) → p ≤ 256 → place_of (numbered R s x) p ≡ place_of R p
  unfolding place_of
  numbered_place p h =
      ap₂ (λ n ns. when (eqb p 0) Place.before (when (eqb p after_place) Place.after (Place.inside n ns)))
      (numbered_name (p - 1) (omega arith)) (numbered_names (p - 1) (omega arith))

  pub numbered_kept : (p : ℕ) → p ≤ 256 → Kept R p → Kept (numbered R s x) p
  unfolding numbered
  numbered_kept p h k =
      record {
        long = length-set (set R (base_of s + 65) (x / 256)) (base_of s + 66) (x % 256) ∙ length-set R (base_of s + 65) (x / 256) ∙ k.long;
        filled =
            λ j m.
            let m' : j < open_at p = m in
            let u = open_is p h in
            subst (λ z. 1 ≤ z) (sym (numbered_length j (omega arith))) (k.filled j m);
      }

  -- in character data, where an element was just opened
  module _ (r : Reader) (e : r.mode ≡ mode.Data) (ok : Sound r R) where
    inner : Inner r.place
    inner = data_inner (subst (Fits R r) e ok.fits)

    pub numbered_state : state_of r (numbered R s x) ≡ state_of r R
    unfolding state_in
    numbered_state =
        ap (state_in (numbered R s x) r.back r.place r.count r.row r.n) e
        ∙ ap (λ P. State.at P b0) (numbered_place r.place inner.high)
        ∙ sym (ap (state_in R r.back r.place r.count r.row r.n) e)

    pub numbered_sound : Sound r (numbered R s x)
    numbered_sound =
        record {
          kept = numbered_kept r.place inner.high ok.kept;
          fits = subst (Fits (numbered R s x) r) (sym e) (Fits.back (Back.data' inner));
        }
