-- Where a text is refused: the text before the byte is read, and what stands behind the byte does not matter.
--
--   Stands L t             the reader goes through t
--   Came L t k             what came of t from the state k: one of the two results
--   refused_reads, refused_stands      where a byte is refused, the text before it is not, and has the same events
--   step_refused, step_goes      a refused step is a refused byte, and any other is none
--   refused_anywhere       a byte is refused whatever stands behind it
--
-- Assumes nothing.
use Rattle.std.specs.Prelude.{ℕ, suc, ◌+◌, ◌≡◌, refl, ◌↔◌, length}
use Rattle.std.proofs.Common.{arith, ◌∙◌, length-append}
use Rattle.std.proofs.Math.Path.{sym, ap}
use mathlib.Core.List.{List, [], ◌∷◌, ◌++◌, append_assoc, append_cancel_right}
use Rattle.xml.specs.Grammar.{Limits, Ev}
use Rattle.xml.specs.Machine.{State, Outcome, refused, goes, step, run, Result, stopped, stands, given, next}
use Rattle.xml.specs.Sentences.{RefusedAt}
use Rattle.reading.specs.Last.{snoc_same}
use Rattle.reading.specs.Cut.{cut_anywhere, onward, run_byte, stopped_after}

pub record Stands (L : Limits) (t : List ℕ) : Type 0 where
  pub evs : List Ev
  pub state : State
  pub reads : run L t State.start ≡ stands evs state

pub data Came (L : Limits) (t : List ℕ) (k : State) : Type 0 where
  stood : (es : List Ev) (j : State) → run L t k ≡ stands es j → Came L t k
  stopped' : (es : List Ev) (r : ℕ) (v : List ℕ) → run L t k ≡ stopped es r v → Came L t k

pub came : (L : Limits) (t : List ℕ) (k : State) → Came L t k
came L t k = go (run L t k) refl
  where
    go : (r : Result) → run L t k ≡ r → Came L t k
    go (stopped es r v) e = stopped' es r v e
    go (stands es j) e = stood es j e

pub never_both : {A : Type 0} {es fs : List Ev} {k : State} {r : ℕ} {v : List ℕ} → stands es k ≡ stopped fs r v → A
never_both e = let z : ◌≡◌ {A = ℕ} 0 1 = cc in absurd (omega arith)

pub refused_reads :
    (L : Limits) (r : ℕ) (t : List ℕ) (b : ℕ) (es : List Ev)
    → run L (t ++ (b ∷ [])) State.start ≡ stopped es r (b ∷ [])
    → (k : State) × (run L t State.start ≡ stands es k)
refused_reads L r t b es h =
    let (u, k, x, y) = stopped_after L (t ++ (b ∷ [])) State.start es r (b ∷ []) h in
    (k, ap (λ z. run L z State.start) (snoc_same t u b b x).0 ∙ y)

pub refused_stands : (L : Limits) (r : ℕ) (t : List ℕ) (b : ℕ) → RefusedAt L r t b → Stands L t
refused_stands L r t b h = let (k, e) = refused_reads L r t b h.evs h.refuses in record { evs = h.evs; state = k; reads = e }

pub step_refused :
    (L : Limits) (r : ℕ) (t : List ℕ) (b : ℕ) (es : List Ev) (k : State)
    → run L t State.start ≡ stands es k
    → step L k b ≡ refused r
    → RefusedAt L r t b
unfolding next given
step_refused L r t b es k e f =
    record { evs = es ++ []; refuses = run_byte L t b es State.start k e ∙ ap (λ z. given es (next z (run L []) (b ∷ []))) f }

pub step_goes :
    (L : Limits) (t : List ℕ) (b : ℕ) (es fs : List Ev) (j k : State)
    → run L t State.start ≡ stands es k
    → step L k b ≡ goes fs j
    → Stands L (t ++ (b ∷ []))
unfolding next given run
step_goes L t b es fs j k e f =
    record { evs = es ++ (fs ++ []); state = j; reads = run_byte L t b es State.start k e ∙ ap (λ z. given es (next z (run L []) (b ∷ []))) f }

-- what is left of a text is no longer than it
no_longer : (v u : List ℕ) (b : ℕ) → v ≡ u ++ (b ∷ v) → ⊥
no_longer v u b e = let l : length v ≡ length u + suc (length v) = ap length e ∙ length-append u (b ∷ v) in omega arith

module _ (L : Limits) (r : ℕ) (t : List ℕ) (b : ℕ) (v : List ℕ) where
  -- with something behind the byte
  longer_run :
      (es : List Ev) (k : State)
      → run L t State.start ≡ stands es k
      → run L (t ++ (b ∷ v)) State.start ≡ given es (next (step L k b) (run L v) (b ∷ v))
  unfolding run
  longer_run es k e = cut_anywhere L t (b ∷ v) State.start ∙ ap (λ z. onward L z (run L (b ∷ v)) (b ∷ v)) e

  goes_never : (es fs gs : List Ev) (j : State) → given es (given fs (run L v j)) ≡ stopped gs r (b ∷ v) → ⊥
  unfolding given
  goes_never es fs gs j e = go (came L v j)
    where
      go : Came L v j → ⊥
      go (stood hs k x) = never_both (sym (ap (λ z. given es (given fs z)) x) ∙ e)
      go (stopped' hs q w x) =
          let y : stopped (es ++ (fs ++ hs)) q w ≡ stopped gs r (b ∷ v) = sym (ap (λ z. given es (given fs z)) x) ∙ e in
          let c : w ≡ b ∷ v = cc in
          let (u, k, z, a) = stopped_after L v j hs q w x in
          no_longer v u b (z ∙ ap (λ i. u ++ i) c)

  pub refused_anywhere : RefusedAt L r t b ↔ ((es : List Ev) × (run L (t ++ (b ∷ v)) State.start ≡ stopped es r (b ∷ v)))
  unfolding next given
  refused_anywhere = (
    λ h. (
      h.evs,
      ap (λ z. run L z State.start) (sym (append_assoc t (b ∷ []) v))
          ∙ cut_anywhere L (t ++ (b ∷ [])) v State.start
          ∙ ap (λ z. onward L z (run L v) v) h.refuses,
    ),
    λ h. back h.0 h.1,
  )
    where
      back : (es : List Ev) → run L (t ++ (b ∷ v)) State.start ≡ stopped es r (b ∷ v) → RefusedAt L r t b
      back es e = go (stopped_after L (t ++ (b ∷ v)) State.start es r (b ∷ v) e)
        where
          at : (k : State) → run L t State.start ≡ stands es k → (o : Outcome) → step L k b ≡ o → RefusedAt L r t b
          at k y (refused q) f =
              let x : stopped (es ++ []) q (b ∷ v) ≡ stopped es r (b ∷ v) = sym (longer_run es k y ∙ ap (λ z. given es (next z (run L v) (b ∷ v))) f) ∙ e in
              let z : q ≡ r = cc in
              step_refused L r t b es k y (f ∙ ap refused z)
          at k y (goes fs j) f = absurd (goes_never es fs es j (sym (longer_run es k y ∙ ap (λ z. given es (next z (run L v) (b ∷ v))) f) ∙ e))

          go : (u : List ℕ) × (k : State) × (t ++ (b ∷ v) ≡ u ++ (b ∷ v)) × (run L u State.start ≡ stands es k) → RefusedAt L r t b
          go (u, k, x, y) = at k (ap (λ z. run L z State.start) (append_cancel_right t u (b ∷ v) x) ∙ y) (step L k b) refl
