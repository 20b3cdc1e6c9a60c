-- Reading a text is reading its first part and then the rest: any cutting gives the same.
--
--   onward r f u       go on from the result r with the text u
--   cut_anywhere       run (t ++ u) is run t and then run u
--   run_byte           the same for a last byte: its outcome behind what came of the text before it
--   stopped_after      what has been read before a refused byte is read without refusal, with the same events
--
-- Assumes nothing.
use Rattle.std.specs.Prelude.{ℕ}
use Rattle.std.proofs.Common.{arith, sym, ◌∙◌}
use Rattle.std.proofs.Math.Path.{◌≡◌, refl, ap}
use mathlib.Core.List.{List, [], ◌∷◌, ◌++◌, append_assoc}
use Rattle.xml.specs.Grammar.{Limits, Ev}
use Rattle.xml.specs.Machine.{State, Outcome, refused, goes, step, Result, stopped, stands, given, next, run}

module _ (L : Limits) where
  -- go on from a result
  abbrev pub onward : Result → (State → Result) → List ℕ → Result
  onward (stopped es r t) f u = stopped es r (t ++ u)
  onward (stands es k) f u = given es (f k)

  given_onward : (es : List Ev) (r : Result) (f : State → Result) (u : List ℕ) → given es (onward r f u) ≡ onward (given es r) f u
  unfolding given
  given_onward es (stopped fs r t) f u = refl
  given_onward es (stands fs k) f u = given_given es fs (f k)
    where
      given_given : (es fs : List Ev) (r : Result) → given es (given fs r) ≡ given (es ++ fs) r
      given_given es fs (stopped gs r t) = ap (λ z. stopped z r t) (sym (append_assoc es fs gs))
      given_given es fs (stands gs k) = ap (λ z. stands z k) (sym (append_assoc es fs gs))

  next_onward :
      (o : Outcome) (b : ℕ) (t u : List ℕ)
      → ((k : State) → run L (t ++ u) k ≡ onward (run L t k) (run L u) u)
      → next o (run L (t ++ u)) (b ∷ (t ++ u)) ≡ onward (next o (run L t) (b ∷ t)) (run L u) u
  unfolding next
  next_onward (refused r) b t u h = refl
  next_onward (goes es k) b t u h = ap (given es) (h k) ∙ given_onward es (run L t k) (run L u) u

  given_none : (r : Result) → r ≡ given [] r
  unfolding given
  given_none (stopped es r t) = refl
  given_none (stands es k) = refl

  pub cut_anywhere : (t u : List ℕ) (k : State) → run L (t ++ u) k ≡ onward (run L t k) (run L u) u
  unfolding run
  cut_anywhere [] u k = given_none (run L u k)
  cut_anywhere (b ∷ t) u k = next_onward (step L k b) b t u (cut_anywhere t u)

  -- a text and one byte more
  pub run_byte :
      (t : List ℕ) (b : ℕ) (es : List Ev) (j k : State) → run L t j ≡ stands es k → run L (t ++ (b ∷ [])) j ≡ given es (next (step L k b) (run L []) (b ∷ []))
  unfolding run
  run_byte t b es j k e = cut_anywhere t (b ∷ []) j ∙ ap (λ z. onward z (run L (b ∷ [])) (b ∷ [])) e

  -- what has been read before the refused byte
  abbrev Before : List ℕ → State → List Ev → List ℕ → Type 0
  Before t k es v = (u : List ℕ) × (j : State) × (t ≡ u ++ v) × (run L u k ≡ stands es j)

  next_before :
      (o : Outcome) (b : ℕ) (t v : List ℕ) (k : State) (es : List Ev) (r : ℕ)
      → step L k b ≡ o
      → next o (run L t) (b ∷ t) ≡ stopped es r v
      → ((j : State) (fs : List Ev) (r : ℕ) (v : List ℕ) → run L t j ≡ stopped fs r v → Before t j fs v)
      → Before (b ∷ t) k es v
  unfolding next run given
  next_before (refused q) b t v k es r f e h =
      let x : es ≡ [] = cc in
      let y : b ∷ t ≡ v = cc in
      ([], k, y, ap (λ z. stands z k) (sym x))
  next_before (goes fs j) b t v k es r f e h = go (run L t j) refl e
    where
      go : (q : Result) → run L t j ≡ q → given fs q ≡ stopped es r v → Before (b ∷ t) k es v
      go (stands gs i) e' e = let z : ◌≡◌ {A = ℕ} 0 1 = cc in absurd (omega arith)
      go (stopped gs q w) e' e =
          let (u, i, x, y) = h j gs q w e' in
          let a : fs ++ gs ≡ es = cc in
          let c : w ≡ v = cc in
          (b ∷ u, i, ap (λ z. b ∷ z) (x ∙ ap (λ z. u ++ z) c), ap (λ z. next z (run L u) (b ∷ u)) f ∙ ap (given fs) y ∙ ap (λ z. stands z i) a)

  pub stopped_after : (t : List ℕ) (k : State) (es : List Ev) (r : ℕ) (v : List ℕ) → run L t k ≡ stopped es r v → Before t k es v
  unfolding run
  stopped_after [] k es r v e = let z : ◌≡◌ {A = ℕ} 0 1 = cc in absurd (omega arith)
  stopped_after (b ∷ t) k es r v e = next_before (step L k b) b t v k es r refl e (λ j fs r v h. stopped_after t j fs r v h)
