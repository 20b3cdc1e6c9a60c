-- Bytes put into a text, part by part.
--
--   put_none      nothing is put
--   put_one       one byte
--   put_then      one part, and then another behind it
--   put_more      one byte more of a word
--   put_all       the whole word
--   put_part      a part of the text is replaced by the bytes of a word
--   put_counts    what is put has so many bytes of the text
--   put_taken     what is put at the start is what the first bytes of the text then are
--   put_once      there is one text and one end
--   digit_put     the last digit of a number may be put before the others
--   digit_last    a number under 10 is put by its digit
--
-- Assumes nothing.
use Rattle.std.specs.Prelude.{ℕ, suc, ◌+◌, ◌-◌, ◌/◌, ◌%◌, ◌≤◌, ◌<◌, ◌≡◌, refl, List, [], ◌∷◌, ◌++◌, length, get_or, take, set}
use Rattle.std.proofs.Common.{add-zero, add-one, arith, sym, ap, ◌∙◌, length-append, append_assoc, drop, take_at, take-suc, take_all, length-take-le}
use Rattle.std.proofs.lemmas.List.Edits.{sets, sets-eq}
use Rattle.std.proofs.lemmas.List.{set_comm}
use borrow.Rule.Slice.PartMut.{put_mid, Post-is}
use Rattle.io.specs.Counts.{IsPrefixLen}
use Rattle.lines.specs.Decimal.{digit, decimal}
use Rattle.lines.proofs.Decimal.Laws.{decimal_single, decimal_more, length_more}
use Rattle.lines.specs.Put.{Put}

-- a run of stores is one part, and then the other behind it
sets_append : (l : List ℕ) (i : ℕ) (vs ws : List ℕ) → sets l i (vs ++ ws) ≡ sets (sets l i vs) (i + length vs) ws
sets_append l i [] ws = ap (λ k. sets l k ws) (sym (add-zero i))
sets_append l i (v ∷ vs) ws =
    sets_append (set l i v) (suc i) vs ws ∙ ap (λ k. sets (sets (set l i v) (suc i) vs) k ws) (omega arith)

-- a store behind a run may come before it
sets_past : (l : List ℕ) (i : ℕ) (vs : List ℕ) (j v : ℕ) → i + length vs ≤ j → set (sets l i vs) j v ≡ sets (set l j v) i vs
sets_past l i [] j v h = refl
sets_past l i (w ∷ vs) j v h =
    sets_past (set l i w) (suc i) vs j v (omega arith) ∙ ap (λ x. sets x (suc i) vs) (set_comm l i j w v (λ e. omega arith))

pub put_none : (l : List ℕ) (at : ℕ) → Put l at [] l at
put_none l at = record { text = refl; end = sym (add-zero at) }

pub put_one : (l : List ℕ) (at v : ℕ) → Put l at (v ∷ []) (set l at v) (at + 1)
put_one l at v = record { text = refl; end = refl }

pub put_then : {l : List ℕ} {at : ℕ} {vs l' : List ℕ} {e : ℕ} {ws l'' : List ℕ} {r : ℕ} →
    Put l at vs l' e → Put l' e ws l'' r → Put l at (vs ++ ws) l'' r
put_then {l} {at} {vs} {l'} {e} {ws} p q =
    record {
      text = q.text ∙ ap (λ x. sets x e ws) p.text ∙ ap (λ k. sets (sets l at vs) k ws) p.end ∙ sym (sets_append l at vs ws);
      end = omega (arith, p.end, q.end, length-append vs ws);
    }

pub put_more : {l : List ℕ} {at : ℕ} {l' : List ℕ} {e : ℕ} (vs : List ℕ) (i : ℕ) →
    i < length vs → Put l at (take i vs) l' e → Put l at (take (i + 1) vs) (set l' e (get_or vs i 0)) (e + 1)
put_more {l} {at} {l'} {e} vs i h p = rw (add-one i, take-suc vs i 0 h) (put_then p (put_one l' e (get_or vs i 0)))

pub put_all : {l : List ℕ} {at : ℕ} {l' : List ℕ} {e : ℕ} (vs : List ℕ) (i : ℕ) → length vs ≤ i → Put l at (take i vs) l' e → Put l at vs l' e
put_all vs i h p = rw (take_all i vs h) at p

-- what `text[at..at + n].copy_from_slice(vs)` leaves
pub put_part : (l vs : List ℕ) (at : ℕ) → at + length vs ≤ length l → Put l at vs (put_mid at (at + length vs - at) l vs) (at + length vs)
put_part l vs at h =
    record {
      text =
          ap (λ x. take at l ++ (vs ++ x)) (Post-is at (at + length vs) l (omega arith))
          ∙ sym (append_assoc (take at l) vs (drop (at + length vs) l)) ∙ sym (sets-eq vs l at h);
      end = refl;
    }

-- what `&text[..r]` asks
pub put_counts : {l : List ℕ} {at : ℕ} {vs l' : List ℕ} {r : ℕ} → Put l at vs l' r → r ≤ length l' → Put l at vs l' r × IsPrefixLen r l'
put_counts {l' = l'} {r} p fits = (p, (fits, sym (length-take-le r l' fits)))

pub put_taken : {l vs l' : List ℕ} {r : ℕ} → Put l 0 vs l' r → r ≤ length l → take r l' ≡ vs
put_taken {l} {vs} {l'} {r} p fits =
    let n : r ≡ length vs = omega (arith, p.end) in
    ap (take r) (p.text ∙ sets-eq vs l 0 (omega arith)) ∙ take_at vs _ r (sym n)

pub put_once : {l : List ℕ} {at : ℕ} {vs x y : List ℕ} {r s : ℕ} → Put l at vs x r → Put l at vs y s → (x ≡ y) × (r ≡ s)
put_once p q = (p.text ∙ sym q.text, p.end ∙ sym q.end)

pub digit_put :
    (l : List ℕ) (at n i : ℕ) → 10 ≤ n → i ≡ at + length (decimal n) →
    sets (set l (i - 1) (digit (n % 10))) at (decimal (n / 10)) ≡ sets l at (decimal n)
digit_put l at n i h e =
    let here : i - 1 ≡ at + length (decimal (n / 10)) = omega (arith, length_more n h) in
    sym (sets_past l at (decimal (n / 10)) (i - 1) (digit (n % 10)) (omega arith))
    ∙ ap (λ k. set (sets l at (decimal (n / 10))) k (digit (n % 10))) here
    ∙ sym (ap (sets l at) (decimal_more n h) ∙ sets_append l at (decimal (n / 10)) (digit (n % 10) ∷ []))

pub digit_last : (l : List ℕ) (at n : ℕ) → n < 10 → set l at (digit n) ≡ sets l at (decimal n)
digit_last l at n h = rw (decimal_single n h)
