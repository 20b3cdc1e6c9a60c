-- The loop that gives the steps their places, from the last step on.
--
--   laid q l n       the slots where the n steps after the first l have their places: the main path's, l free ones, the predicates'
--   mains q l n      how many of these steps are on the main path
--   laid_none        before the last step
--   laid_step        one step more; mains_step: and its count
--   flag_small       a flag counts 1 at most
--   laid_all         after the first step: the order of all
--
-- Assumes nothing.
use Prim.Native.Nat.{ℕ, suc, ◌+◌, ◌-◌, ◌≤◌}
use native.Mathlib.Nat.{add-zero}
use native.Mathlib.Omega.{arith}
use mathlib.Core.Path.{◌≡◌, sym, ap, ap₂, ◌∙◌}
use mathlib.Core.Bool.{Bool, true, false}
use mathlib.Core.List.{List, [], ◌∷◌, ◌++◌, map, map-append, append_assoc, reverse, reverse-cons}
use mir.Val.{bool_byte}
use lib.ListN.{length, set, length-append, length-map, length-reverse, length-replicate, replicate-append-replicate}
use lib.Seq.{set_at, append_snoc}
use Rattle.meaning.specs.Query.{Step, Numbered, main_if, main_path}
use Rattle.query.specs.Rules.{most_steps}
use Rattle.query.specs.Decode.{decode_from}
use Rattle.plan.specs.Order.{predicate_if, predicates, back_path, order}
use Rattle.plan.proofs.Places.Laws.{order_length}
use Rattle.query.proofs.Decode.Laws.{from_length}
use Rattle.plan.specs.Planned.{step_at, before, placed, zeros, order_of}

abbrev numbers_of : List Numbered → List ℕ
numbers_of ps = map before ps

-- ms the main-path steps and rs the predicate steps that have their places, zs what stands after them
abbrev slots : List Numbered → ℕ → List Numbered → List ℕ → List ℕ
slots ms free rs zs = numbers_of (reverse ms) ++ (zeros free ++ (numbers_of rs ++ zs))

unfoldable pub laid : List ℕ → ℕ → ℕ → List ℕ
laid q l n = slots (main_path (decode_from q n l) (suc l)) l (predicates (decode_from q n l) (suc l)) (zeros (most_steps - (l + n)))

unfoldable pub mains : List ℕ → ℕ → ℕ → ℕ
mains q l n = length (main_path (decode_from q n l) (suc l))

pub laid_none : (q : List ℕ) (n : ℕ) → n ≤ most_steps → zeros most_steps ≡ laid q n (n - n)
unfolding laid decode_from main_path predicates
laid_none q n h =
    let none : n - n ≡ 0 = omega arith in
    let all : n + (most_steps - (n + 0)) ≡ most_steps = omega arith in
    rw none (sym (replicate-append-replicate n (most_steps - (n + 0)) 0 ∙ ap (λ k. zeros k) all))

pub mains_none : (q : List ℕ) (n : ℕ) → 0 ≡ mains q n (n - n)
unfolding mains decode_from main_path
mains_none q n = let none : n - n ≡ 0 = omega arith in rw none

-- one step

one_fewer : (k : ℕ) → zeros (suc k) ≡ zeros k ++ (0 ∷ [])
one_fewer k = sym (replicate-append-replicate k 1 0 ∙ let e : k + 1 ≡ suc k = omega arith in ap (λ n. zeros n) e)

lay : (b : Bool) (st : Step) (k : ℕ) (ms rs : List Numbered) (zs : List ℕ) →
    set (slots ms (suc k) rs zs) (placed b (length ms) k) k ≡ slots (main_if b st (suc k) ms) k (predicate_if b st (suc k) rs) zs
unfolding main_if predicate_if
lay true st k ms rs zs =
    let here : suc k - 1 ≡ k = omega arith in
    set_at (numbers_of (reverse ms)) 0 (zeros k ++ (numbers_of rs ++ zs)) k (length ms) (length-map (reverse ms) before ∙ length-reverse ms)
    ∙ sym (append_snoc (numbers_of (reverse ms)) k _)
    ∙ ap (λ xs. xs ++ (zeros k ++ (numbers_of rs ++ zs)))
    (sym
    (ap numbers_of (reverse-cons (record { step = st; number = suc k }) ms)
    ∙ map-append before (reverse ms) _
    ∙ ap (λ x. numbers_of (reverse ms) ++ (x ∷ [])) here))
lay false st k ms rs zs =
    let here : suc k - 1 ≡ k = omega arith in
    ap (λ xs. set xs (length ms + k) k)
    (ap (λ xs. numbers_of (reverse ms) ++ (xs ++ (numbers_of rs ++ zs))) (one_fewer k)
    ∙ ap (λ xs. numbers_of (reverse ms) ++ xs) (append_snoc (zeros k) 0 (numbers_of rs ++ zs))
    ∙ sym (append_assoc (numbers_of (reverse ms)) (zeros k) _))
    ∙ set_at (numbers_of (reverse ms) ++ zeros k) 0 (numbers_of rs ++ zs) k (length ms + k) long
    ∙ append_assoc (numbers_of (reverse ms)) (zeros k) _
    ∙ ap (λ x. numbers_of (reverse ms) ++ (zeros k ++ (x ∷ (numbers_of rs ++ zs)))) (sym here)
  where
    long : length (numbers_of (reverse ms) ++ zeros k) ≡ length ms + k
    long = length-append (numbers_of (reverse ms)) (zeros k) ∙ ap₂ ◌+◌ (length-map (reverse ms) before ∙ length-reverse ms) (length-replicate k 0)

pub flag_small : (b : Bool) → bool_byte b ≤ 1
flag_small true = omega arith
flag_small false = omega arith

count : (b : Bool) (st : Step) (i : ℕ) (ms : List Numbered) → length ms + bool_byte b ≡ length (main_if b st i ms)
unfolding main_if
count true st i ms = omega arith
count false st i ms = add-zero (length ms)

laid_next : (q : List ℕ) (k n : ℕ) → set (laid q (suc k) n) (placed (step_at q k).main (mains q (suc k) n) k) k ≡ laid q k (suc n)
unfolding laid mains decode_from main_path predicates
laid_next q k n =
    let same : suc k + n ≡ k + suc n = omega arith in
    lay (step_at q k).main (step_at q k) k (main_path (decode_from q n (suc k)) (suc (suc k))) (predicates (decode_from q n (suc k)) (suc (suc k))) _
    ∙ ap (λ z. slots (main_path (decode_from q (suc n) k) (suc k)) k (predicates (decode_from q (suc n) k) (suc k)) (zeros (most_steps - z))) same

mains_next : (q : List ℕ) (k n : ℕ) → mains q (suc k) n + bool_byte (step_at q k).main ≡ mains q k (suc n)
unfolding mains decode_from main_path
mains_next q k n = count (step_at q k).main (step_at q k) (suc k) (main_path (decode_from q n (suc k)) (suc (suc k)))

module _
    (q : List ℕ) (size left k : ℕ) (l : left ≡ suc k) (within : left ≤ size) {m : ℕ} {b : Bool}
    (counted : m ≡ mains q left (size - left)) (role : b ≡ (step_at q k).main) where
  more : suc (size - left) ≡ size - k
  more = omega arith

  pub laid_step : {slot : List ℕ} {at : ℕ} → slot ≡ laid q left (size - left) → at ≡ placed b m k → set slot at k ≡ laid q k (size - k)
  laid_step e place =
      ap₂ (λ xs at. set xs at k) (e ∙ ap (λ x. laid q x (size - left)) l)
      (place ∙ ap₂ (λ a n. placed a n k) role (counted ∙ ap (λ x. mains q x (size - left)) l))
      ∙ laid_next q k (size - left)
      ∙ ap (laid q k) more

  pub mains_step : m + bool_byte b ≡ mains q k (size - k)
  mains_step =
      ap₂ (λ n a. n + bool_byte a) (counted ∙ ap (λ x. mains q x (size - left)) l) role ∙ mains_next q k (size - left) ∙ ap (mains q k) more

laid_order : (q : List ℕ) (n : ℕ) → laid q 0 n ≡ order_of q n
unfolding laid order_of order back_path
laid_order q n =
    let Q = decode_from q n 0 in
    let long : most_steps - (0 + n) ≡ most_steps - length (numbers_of (order Q)) =
    omega (arith, length-map (order Q) before, order_length Q, from_length q n 0) in
    sym (append_assoc (numbers_of (back_path Q)) (numbers_of (predicates Q 1)) _)
    ∙ ap₂ (λ xs k. xs ++ zeros k) (sym (map-append before (back_path Q) (predicates Q 1))) long

pub laid_all : (q : List ℕ) (size left : ℕ) {slot : List ℕ} → left ≡ 0 → slot ≡ laid q left (size - left) → slot ≡ order_of q size
laid_all q size left none e =
    let all : size - left ≡ size = omega arith in
    e ∙ ap₂ (laid q) none all ∙ laid_order q size
