-- The steps of the planned query, and what a plan's slots and masks are where each place is read through the order.
--
--   Whose q p          p is the step of the bytes q that its number says
--   order_whose        each step of the order is
--   read_table         slots made place by place from what is kept of each step
--   read_mask          a mask so made
--
-- Assumes nothing.
use Prim.Native.Nat.{ℕ, zero, suc, ◌+◌, ◌*◌, ◌-◌}
use Rattle.std.proofs.Common.{arith, sym, ap}
use Rattle.std.specs.Prelude.{◌≡◌, Bool, length, get_or}
use Rattle.std.proofs.Math.Path.{refl, ap₂}
use mathlib.Core.List.{List, ◌∷◌, ◌++◌, map}
use Rattle.meaning.specs.Query.{Steps, Numbered}
use Rattle.sets.specs.Set.{bit, mask_of}
use Rattle.sets.specs.Table.{table_of}
use Rattle.query.specs.Decode.{decode_from}
use Rattle.plan.specs.Every.{Every, e_nil, e_cons}
use Rattle.plan.specs.Order.{order, at, mask}
use Rattle.plan.specs.Places.{numbered}
use Rattle.plan.proofs.Places.Laws.{every_order}
use Rattle.plan.specs.Planned.{step_at, before}

-- whose

pub record Whose (q : List ℕ) (p : Numbered) : Type 0 where
  pub step : p.step ≡ step_at q (before p)
  pub number : p.number ≡ before p + 1

module _ (q : List ℕ) where
  whose : (s : ℕ) → Whose q (record { step = step_at q s; number = suc s })
  whose s =
      let e : suc s - 1 ≡ s = omega arith in
      record { step = ap (step_at q) (sym e); number = omega arith }

  numbered_whose : (n s : ℕ) → Every (Whose q) (numbered (decode_from q n s) (suc s))
  unfolding decode_from numbered
  numbered_whose zero s = e_nil
  numbered_whose (suc n) s = e_cons (whose s) (numbered_whose n (suc s))

  pub order_whose : (n : ℕ) → Every (Whose q) (order (decode_from q n 0))
  order_whose n = every_order (decode_from q n 0) (numbered_whose n 0)

-- place by place: `kept` is what is kept of each step, zs what stands in the slots after them

module _ (kept : Numbered → ℕ) (zs : List ℕ) where
  pub read_table :
      (f : ℕ → ℕ) (g : Numbered → ℕ) {ps : List Numbered} → Every (λ p. f (kept p) ≡ g p) ps →
      table_of (length ps) (λ t. f (get_or (map kept ps ++ zs) t 0)) ≡ map g ps
  unfolding table_of
  read_table f g e_nil = refl
  read_table f g (e_cons e t) = ap₂ ◌∷◌ e (read_table f g t)

  pub read_mask :
      (test : ℕ → Bool) (A : Steps) {ps : List Numbered} → Every (λ p. test (kept p) ≡ A p.step p.number) ps →
      mask_of (length ps) (λ t. test (get_or (map kept ps ++ zs) t 0)) ≡ mask ps A
  unfolding mask_of at mask
  read_mask test A e_nil = refl
  read_mask test A (e_cons e t) = ap₂ (λ x b. x * 2 + bit b) (read_mask test A t) e
