-- Each refusal is given exactly when its sentence in the table holds.
--
--   one_number            a byte is refused with one number
--   table_exactly         a byte is refused with a number other than 30 exactly if the number's sentence holds
--   misplaced_exactly     with 30 exactly if it is refused and none of the sentences holds
--   sentence_number       the sentences are those of 31 to 43;  one_sentence: no two of them hold of one text and byte
--   table, misplaced_is   the same for the reader's own limits
--
-- Assumes nothing of the reader's own limits; of others that one element may be open and a name may have one byte.
pub mod Explained
pub mod Given
use Rattle.std.specs.Prelude.{ℕ, ◌≤◌, ◌≡◌, refl, ◌⊎◌, ◌↔◌, List, [], ◌∷◌, ◌++◌, T}
use Rattle.std.proofs.Common.{arith, sym, ap, ◌∙◌, subst}
use Rattle.xml.specs.Limited.{bounds}
use Rattle.xml.specs.Grammar.{Limits, Ev}
use Rattle.xml.specs.Machine.{State, Outcome, refused, goes, step, stopped, stands, run, given, next}
use Rattle.xml.specs.Sentences.{Begins, RefusedAt, Spent}
use Rattle.xml.specs.Table.{Refusal}
use Rattle.reading.specs.Cut.{run_byte}
use Rattle.reading.specs.Account.Sound.{run_account}
use Rattle.reading.specs.Refusing.{Stands, refused_stands, never_both}
use Rattle.reading.specs.Earliest.{earliest, one_open, one_name}
use Explained.{Said, other, said, Spoken, goes', says, step_said}
use Given.{sentence_given}

pub one_number : (L : Limits) (r q : ℕ) (t : List ℕ) (b : ℕ) → RefusedAt L r t b → RefusedAt L q t b → r ≡ q
one_number L r q t b h g = let e : stopped h.evs r (b ∷ []) ≡ stopped g.evs q (b ∷ []) = sym h.refuses ∙ g.refuses in cc

-- the step that a refused byte is
refused_step :
    (L : Limits) (r : ℕ) (t : List ℕ) (b : ℕ) (es : List Ev) (k : State) → run L t State.start ≡ stands es k → RefusedAt L r t b → step L k b ≡ refused r
unfolding next given run
refused_step L r t b es k e h = go (step L k b) refl
  where
    go : (o : Outcome) → step L k b ≡ o → step L k b ≡ refused r
    go (refused q) f =
        let x : stopped (es ++ []) q (b ∷ []) ≡ stopped h.evs r (b ∷ []) =
        sym (run_byte L t b es State.start k e ∙ ap (λ z. given es (next z (run L []) (b ∷ []))) f) ∙ h.refuses in
        let y : q ≡ r = cc in
        f ∙ ap refused y
    go (goes fs j) f = never_both (sym (run_byte L t b es State.start k e ∙ ap (λ z. given es (next z (run L []) (b ∷ []))) f) ∙ h.refuses)

spoken_said : (L : Limits) {t : List ℕ} {b : ℕ} {o : Outcome} (r : ℕ) → Spoken L t b o → o ≡ refused r → Said L r t b
spoken_said L {t} {b} r (goes' {es = es} {k = k}) e = let z : ◌≡◌ {A = ℕ} 0 1 = clash e in absurd (omega arith)
  where
    clash : goes es k ≡ refused r → ◌≡◌ {A = ℕ} 0 1
    clash e = cc
spoken_said L {t} {b} r (says {r = q} h) e = subst (λ z. Said L z t b) (same e) h
  where
    same : refused q ≡ refused r → q ≡ r
    same e = cc

-- the numbers of the sentences
pub sentence_number : (L : Limits) {r : ℕ} {t : List ℕ} {b : ℕ} → Refusal L r t b → (31 ≤ r) × (r ≤ 43)
sentence_number L (Refusal.not_char h f) = omega arith
sentence_number L (Refusal.doctype a) = omega arith
sentence_number L (Refusal.instruction a l) = omega arith
sentence_number L (Refusal.target m f) = omega arith
sentence_number L (Refusal.longer_target m h) = omega arith
sentence_number L (Refusal.cdata a) = omega arith
sentence_number L (Refusal.char_reference h) = omega arith
sentence_number L (Refusal.other_entity h f g) = omega arith
sentence_number L (Refusal.long_tag i f h) = omega arith
sentence_number L (Refusal.long_attribute i f h) = omega arith
sentence_number L (Refusal.many_attributes g u f h) = omega arith
sentence_number L (Refusal.twice i x h) = omega arith
sentence_number L (Refusal.other_end a f) = omega arith
sentence_number L (Refusal.longer_end a h) = omega arith
sentence_number L (Refusal.nested a f h) = omega arith
sentence_number L (Refusal.other_encoding q i e f) = omega arith
sentence_number L (Refusal.foreign_tag a x h) = omega arith
sentence_number L (Refusal.foreign_in_tag i h) = omega arith
sentence_number L (Refusal.foreign_attribute g u h) = omega arith
sentence_number L (Refusal.foreign_in_attribute i h) = omega arith

-- no two sentences hold of one text and byte
pub one_sentence : (L : Limits) (r q : ℕ) (t : List ℕ) (b : ℕ) → Refusal L r t b → Refusal L q t b → r ≡ q
one_sentence L r q t b h g = one_number L r q t b (sentence_given L h) (sentence_given L g)

module _ (L : Limits) (one_open : T (L.nest 1)) (one_name : T (L.name 1)) where
  refused_said : (r : ℕ) (t : List ℕ) (b : ℕ) → RefusedAt L r t b → Said L r t b
  refused_said r t b h =
      let s : Stands L t = refused_stands L r t b h in
      spoken_said L r (step_said L one_open one_name b (run_account L t s.evs s.state s.reads)) (refused_step L r t b s.evs s.state s.reads h)

  unless : {r : ℕ} {t : List ℕ} {b : ℕ} → (r ≡ 30 → ⊥) → Said L r t b → Refusal L r t b
  unless f other = absurd (f refl)
  unless f (said h) = h

  pub table_exactly : (r : ℕ) (t : List ℕ) (b : ℕ) → (r ≡ 30 → ⊥) → RefusedAt L r t b ↔ Refusal L r t b
  table_exactly r t b f = (λ h. unless f (refused_said r t b h), sentence_given L)

  pub misplaced_exactly :
      (t : List ℕ) (b : ℕ) → RefusedAt L 30 t b ↔ (((r : ℕ) × RefusedAt L r t b) × ((r : ℕ) → Refusal L r t b → ⊥))
  misplaced_exactly t b = (
    λ h. (
      (30, h),
      λ r g. let e : r ≡ 30 = one_number L r 30 t b (sentence_given L g) h in let n = sentence_number L g in omega arith,
    ),
    λ h. only h.0.1 h.1 (refused_said h.0.0 t b h.0.1),
  )
    where
      only : {r : ℕ} → RefusedAt L r t b → ((r : ℕ) → Refusal L r t b → ⊥) → Said L r t b → RefusedAt L 30 t b
      only x f other = x
      only x f (said g) = absurd (f _ g)

pub table : (r : ℕ) (t : List ℕ) (b : ℕ) → (r ≡ 30 → ⊥) → RefusedAt bounds r t b ↔ Refusal bounds r t b
table = table_exactly bounds one_open one_name

-- "no text that is read goes on with this byte, and none of 31 to 43 applies"
pub misplaced_is :
    (t : List ℕ) (b : ℕ)
    → RefusedAt bounds 30 t b
    ↔ (((Begins bounds t ⊎ Spent bounds t) × (Begins bounds (t ++ (b ∷ [])) → ⊥) × (Spent bounds (t ++ (b ∷ [])) → ⊥)) × ((r : ℕ) → Refusal bounds r t b → ⊥))
misplaced_is t b = (
  λ h. let (x, y) = (misplaced_exactly bounds one_open one_name t b).0 h in ((earliest t b).0 x, y),
  λ h. (misplaced_exactly bounds one_open one_name t b).1 ((earliest t b).1 h.0, h.1),
)
