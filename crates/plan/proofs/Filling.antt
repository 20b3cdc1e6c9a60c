-- A loop that fills 32 slots from the first on.
--
--   padded_put      where f has been put into the slots under s, putting f s into slot s leads to the next
--   padded_none     before the first slot
--
-- Assumes nothing.
use Prim.Native.Nat.{ℕ, zero, suc, ◌+◌, ◌-◌, ◌<◌}
use native.Mathlib.Numerals.{add-one}
use native.Mathlib.Omega.{arith}
use mathlib.Core.Path.{◌≡◌, refl, sym, ap, ap₂, ◌∙◌}
use mathlib.Core.List.{List, [], ◌∷◌, ◌++◌}
use lib.ListN.{length, set}
use lib.Seq.{set_at, append_snoc}
use Rattle.sets.specs.Table.{table_of, length_table_of}
use Rattle.query.specs.Rules.{most_steps}
use Rattle.plan.specs.Planned.{zeros, filled, padded}

table_snoc : (n : ℕ) (f : ℕ → ℕ) → table_of (suc n) f ≡ table_of n f ++ (f n ∷ [])
unfolding table_of
table_snoc zero f = refl
table_snoc (suc n) f = ap (λ xs. f zero ∷ xs) (table_snoc n (λ t. f (suc t)))

pub padded_none : (f : ℕ → ℕ) → zeros most_steps ≡ padded 0 f
unfolding padded table_of
padded_none f = refl

pub padded_put :
    (s : ℕ) (f : ℕ → ℕ) {v : ℕ} {slots : List ℕ} → s < most_steps → slots ≡ padded s f → v ≡ f s →
    set slots s v ≡ padded (s + 1) f
unfolding padded
padded_put s f {v} {slots} h e put =
    let room : most_steps - length (table_of s f) ≡ suc (most_steps - suc s) = omega (arith, length_table_of s f) in
    let left : most_steps - suc s ≡ most_steps - length (table_of (suc s) f) = omega (arith, length_table_of (suc s) f) in
    ap (λ xs. set xs s v) (e ∙ ap (λ n. table_of s f ++ zeros n) room)
    ∙ set_at (table_of s f) 0 (zeros (most_steps - suc s)) v s (length_table_of s f)
    ∙ ap (λ x. table_of s f ++ x ∷ zeros (most_steps - suc s)) put
    ∙ sym (append_snoc (table_of s f) (f s) (zeros (most_steps - suc s)))
    ∙ ap₂ (λ xs n. xs ++ zeros n) (sym (table_snoc s f)) left
    ∙ ap (λ n. filled (table_of n f)) (sym (add-one s))
