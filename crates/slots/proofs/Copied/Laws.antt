-- Names read from a text, byte by byte.
--
--   copied_end, copied_other, copied_full, copied_on      at the text's end, at a byte of no name, with as many bytes as a name may have, and at one byte more
--   agreed_end, agreed_whole, agreed_other, agreed_on     at the text's end, at the name's, at a byte that differs, and at one byte more
--   name_length_lem, name_bytes_lem      a slot's name by its length, and by its bytes
--   doubled_begin                all attributes are left
--   doubled_done, doubled_here, doubled_next              no attribute is left, the attribute looked at has the name, and has it not
--   copying, agreeing, doubling                           these laws, loop by loop, for a proof that goes by them
--
-- Assumes nothing.
use Rattle.std.specs.Prelude.{ℕ, ◌+◌, ◌-◌, ◌≤◌, ◌<◌, ◌≡◌, Bool, true, List, ◌∷◌, length, set, drop}
use Rattle.std.proofs.Common.{arith, add-one, ◌∙◌, drop_of_length-le, drop-cons, eq-eqb, ne_eqb, le-leb}
use Rattle.std.proofs.Math.Path.{sym, ap}
use Rattle.std.proofs.Math.Bool.{false}
use Rattle.std.proofs.Math.ListN.{get_or}
use Rattle.std.proofs.lemmas.Bool.{lt-leb}
use Rattle.choice.specs.When.{when_true, when_false}
use Rattle.choice.specs.Count.{left, gone}
use Rattle.chars.specs.Marks.{marked}
use Rattle.chars.specs.Same.{same_bytes}
use Rattle.slots.specs.Slots.{attribute_slot, name_bytes, base_of, length_in}
use Rattle.slots.specs.Copied.{name_mark, copied, agreed, is_name, doubled_from, doubled_in}

-- the next byte, and the text after it
next : (t : List ℕ) (at : ℕ) → at < length t → drop at t ≡ get_or t at 0 ∷ drop (at + 1) t
next t at h = drop-cons t at 0 h ∙ ap (λ k. get_or t at 0 ∷ drop k t) (sym (add-one at))

module _ (M R : List ℕ) (s n at : ℕ) (t : List ℕ) where
  pub copied_end : length t ≤ at → copied M R s n at (drop at t) ≡ record { at = at; n = n; room = R }
  unfolding copied
  copied_end h = ap (copied M R s n at) (drop_of_length-le t h)

  pub copied_other : at < length t → marked M (get_or t at 0) name_mark ≡ false → copied M R s n at (drop at t) ≡ record { at = at; n = n; room = R }
  unfolding copied
  copied_other h m = ap (copied M R s n at) (next t at h) ∙ when_false _ _ _ m

  pub copied_full :
      at < length t → marked M (get_or t at 0) name_mark ≡ true → name_bytes ≤ n → copied M R s n at (drop at t) ≡ record { at = at; n = n; room = R }
  unfolding copied
  copied_full h m l = ap (copied M R s n at) (next t at h) ∙ when_true _ _ _ m ∙ when_true _ _ _ (le-leb name_bytes n l)

  pub copied_on :
      at < length t → marked M (get_or t at 0) name_mark ≡ true → n < name_bytes
      → copied M R s n at (drop at t) ≡ copied M (set R (base_of s + n) (get_or t at 0)) s (n + 1) (at + 1) (drop (at + 1) t)
  unfolding copied
  copied_on h m l = ap (copied M R s n at) (next t at h) ∙ when_true _ _ _ m ∙ when_false _ _ _ (lt-leb name_bytes n l)

module _ (R : List ℕ) (s n at : ℕ) (t : List ℕ) where
  pub agreed_end : length t ≤ at → agreed R s n at (drop at t) ≡ record { at = at; n = n }
  unfolding agreed
  agreed_end h = ap (agreed R s n at) (drop_of_length-le t h)

  pub agreed_whole : at < length t → length_in R s ≤ n → agreed R s n at (drop at t) ≡ record { at = at; n = n }
  unfolding agreed
  agreed_whole h l = ap (agreed R s n at) (next t at h) ∙ when_true _ _ _ (le-leb (length_in R s) n l)

  pub agreed_other :
      at < length t → n < length_in R s → (get_or t at 0 ≡ get_or R (base_of s + n) 0 → ⊥) → agreed R s n at (drop at t) ≡ record { at = at; n = n }
  unfolding agreed
  agreed_other h l d = ap (agreed R s n at) (next t at h) ∙ when_false _ _ _ (lt-leb (length_in R s) n l) ∙ when_false _ _ _ (ne_eqb _ _ d)

  pub agreed_on :
      at < length t → n < length_in R s → get_or t at 0 ≡ get_or R (base_of s + n) 0
      → agreed R s n at (drop at t) ≡ agreed R s (n + 1) (at + 1) (drop (at + 1) t)
  unfolding agreed
  agreed_on h l e = ap (agreed R s n at) (next t at h) ∙ when_false _ _ _ (lt-leb (length_in R s) n l) ∙ when_true _ _ _ (eq-eqb _ _ e)

module _ (R : List ℕ) (s at n other : ℕ) (e : other ≡ base_of s) where
  pub name_length_lem : (get_or R (other + name_bytes) 0 ≡ n → ⊥) → false ≡ is_name R s at n
  unfolding is_name
  name_length_lem d = sym (when_false _ (same_bytes R (base_of s) R at n) _ (ne_eqb _ n (λ q. d (ap (λ k. get_or R (k + name_bytes) 0) e ∙ q))))

  pub name_bytes_lem : {r : Bool} → get_or R (other + name_bytes) 0 ≡ n → r ≡ same_bytes R other R at n → r ≡ is_name R s at n
  unfolding is_name
  name_bytes_lem l h =
      h
      ∙ ap (λ k. same_bytes R k R at n) e
      ∙ sym (when_true _ _ false (eq-eqb _ n (ap (λ k. get_or R (k + name_bytes) 0) (sym e) ∙ l)))

pub doubled_begin : (R : List ℕ) (count n at : ℕ) → at ≡ base_of (attribute_slot + count) → doubled_in R count n ≡ doubled_from R at n 0 (count - 0)
unfolding doubled_in
doubled_begin R count n at e =
    let f : count ≡ count - 0 = omega arith in
    ap (λ z. doubled_from R z n 0 count) (sym e) ∙ ap (doubled_from R at n 0) f

module _ (R : List ℕ) (at n k count : ℕ) where
  pub doubled_done : count ≤ k → doubled_from R at n k (count - k) ≡ false
  unfolding doubled_from
  doubled_done h = ap (doubled_from R at n k) (gone count k h)

  pub doubled_here : k < count → is_name R (attribute_slot + k) at n ≡ true → doubled_from R at n k (count - k) ≡ true
  unfolding doubled_from
  doubled_here h e = ap (doubled_from R at n k) (left count k h) ∙ when_true _ _ _ e

  pub doubled_next :
      k < count → is_name R (attribute_slot + k) at n ≡ false → doubled_from R at n k (count - k) ≡ doubled_from R at n (k + 1) (count - (k + 1))
  unfolding doubled_from
  doubled_next h e = ap (doubled_from R at n k) (left count k h) ∙ when_false _ _ _ e

pub ruleset copying = (copied_end, copied_other, copied_full, copied_on)

pub ruleset agreeing = (agreed_end, agreed_whole, agreed_other, agreed_on)

pub ruleset doubling = (doubled_begin, doubled_done, doubled_here, doubled_next)
