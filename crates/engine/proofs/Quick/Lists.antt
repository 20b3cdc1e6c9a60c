-- Laws of the quick engine's lists, over any type of nodes.
--
--   front_take, past_drop      the beginning that passes c, by its count
--   counted_hom, counted_same  the count, along a map; by a test that agrees
--   counted_none               it is 0 where the first does not pass
--   snoc_queue                 one more node at the end: all go, or those counted
--   keep_append, keep_whole    what is kept of two lists, of a list that passes
--   keep_le, keep_length       no more is kept than there is; all is where the list gets no shorter
--   cut_append, cut_from, cut_hom     a cut list put together, its end, a cut along a map
--   Layers level hi lo xs      along xs levels rise, from lo on and up to hi
--   cut_before                 then what stands before the end at level hi is below hi
--   layers_low                 and every level is at most hi
--   layers_keep, layers_past, layers_map     what is kept, what is past a beginning, what is mapped
--
-- Assumes nothing.
use Rattle.std.specs.Prelude.{ℕ, suc, ◌≤◌, ◌<◌, ◌≡◌, Bool, ◌&&◌, length, take, drop}
use Rattle.std.proofs.Math.Nat.{le_refl}
use Rattle.std.proofs.Common.{le_trans, ◌∙◌}
use native.Mathlib.Omega.{arith}
use Rattle.std.proofs.Math.Path.{refl, sym, ap, ap₂}
use Rattle.std.proofs.Math.Bool.{true, false, and-false}
use Rattle.std.proofs.lemmas.Bool.{false≢true}
use mathlib.Core.List.{List, [], ◌∷◌, ◌++◌, map, map-id, append-nil, cons-ne-nil}
use Rattle.std.proofs.Math.Dec.{eqb, eqb-zero-suc, eqb-suc-suc}
use borrow.Author.Tests.{eqb-true, eqb-false, eq-eqb}
use Rattle.engine.proofs.Every.{Every, e_nil, e_cons}
use Rattle.engine.specs.Engine.{keep_if, keep, front_if, front, past_if, past}
use Rattle.engine.specs.Quick.{counted_if, counted, queue_after, out_after, cut_if, cut}

-- counting

module _ {A : Type 0} (c : A → Bool) where
  take_if : (b : Bool) (x : A) (xs r : List A) (k : ℕ) → r ≡ take k xs → front_if b x r ≡ take (counted_if b k) (x ∷ xs)
  unfolding front_if counted_if
  take_if true x xs r k e = ap (◌∷◌ x) e
  take_if false x xs r k e = refl

  pub front_take : (xs : List A) → front c xs ≡ take (counted c xs) xs
  unfolding front counted
  front_take [] = refl
  front_take (x ∷ xs) = take_if (c x) x xs (front c xs) (counted c xs) (front_take xs)

  drop_if : (b : Bool) (x : A) (xs r : List A) (k : ℕ) → r ≡ drop k xs → past_if b (x ∷ xs) r ≡ drop (counted_if b k) (x ∷ xs)
  unfolding past_if counted_if
  drop_if true x xs r k e = e
  drop_if false x xs r k e = refl

  pub past_drop : (xs : List A) → past c xs ≡ drop (counted c xs) xs
  unfolding past counted
  past_drop [] = refl
  past_drop (x ∷ xs) = drop_if (c x) x xs (past c xs) (counted c xs) (past_drop xs)

  pub counted_none : (x : A) (xs : List A) → c x ≡ false → counted c (x ∷ xs) ≡ 0
  unfolding counted counted_if
  counted_none x xs e = ap (λ b. counted_if b (counted c xs)) e

pub counted_hom :
    {A B : Type 0} (g : A → B) (c : A → Bool) (c' : B → Bool) {xs : List A} → Every (λ x. c x ≡ c' (g x)) xs →
    counted c xs ≡ counted c' (map g xs)
unfolding counted
counted_hom g c c' e_nil = refl
counted_hom g c c' (e_cons e t) = ap₂ counted_if e (counted_hom g c c' t)

pub counted_same : {A : Type 0} (c c' : A → Bool) {xs : List A} → Every (λ x. c x ≡ c' x) xs → counted c xs ≡ counted c' xs
counted_same c c' {xs} t = counted_hom (λ x. x) c c' t ∙ ap (counted c') (map-id xs)

-- one more

module _ {A : Type 0} (c : A → Bool) (n : A) where
  abbrev Goes : List A → Bool
  Goes xs = eqb (counted c xs) (length xs) && c n

  all_step_lem :
      (b : Bool) (x : A) (xs : List A) → (eqb (counted_if b (counted c xs)) (suc (length xs)) && c n) ≡ true →
      (Goes xs ≡ true → (front c (xs ++ (n ∷ [])) ≡ xs ++ (n ∷ [])) × (past c (xs ++ (n ∷ [])) ≡ [])) →
      (front_if b x (front c (xs ++ (n ∷ []))) ≡ x ∷ (xs ++ (n ∷ []))) × (past_if b (x ∷ (xs ++ (n ∷ []))) (past c (xs ++ (n ∷ []))) ≡ [])
  unfolding counted_if front_if past_if
  all_step_lem true x xs e ih = let r = ih (ap (λ b. b && c n) (sym (eqb-suc-suc (counted c xs) (length xs))) ∙ e) in (ap (◌∷◌ x) r.0, r.1)
  all_step_lem false x xs e ih = absurd (false≢true (sym (ap (λ b. b && c n) (eqb-zero-suc (length xs))) ∙ e))

  snoc_all : (xs : List A) → Goes xs ≡ true → (front c (xs ++ (n ∷ [])) ≡ xs ++ (n ∷ [])) × (past c (xs ++ (n ∷ [])) ≡ [])
  unfolding front past counted front_if past_if
  snoc_all [] e = (ap (λ b. front_if b n []) e, ap (λ b. past_if b (n ∷ []) []) e)
  snoc_all (x ∷ xs) e = all_step_lem (c x) x xs e (snoc_all xs)

  some_step :
      (b : Bool) (x : A) (xs : List A) → (eqb (counted_if b (counted c xs)) (suc (length xs)) && c n) ≡ false →
      (Goes xs ≡ false →
      (front c (xs ++ (n ∷ [])) ≡ take (counted c xs) xs) × (past c (xs ++ (n ∷ [])) ≡ drop (counted c xs) xs ++ (n ∷ []))) →
      (front_if b x (front c (xs ++ (n ∷ []))) ≡ take (counted_if b (counted c xs)) (x ∷ xs))
      × (past_if b (x ∷ (xs ++ (n ∷ []))) (past c (xs ++ (n ∷ []))) ≡ drop (counted_if b (counted c xs)) (x ∷ xs) ++ (n ∷ []))
  unfolding counted_if front_if past_if
  some_step true x xs e ih = let r = ih (ap (λ b. b && c n) (sym (eqb-suc-suc (counted c xs) (length xs))) ∙ e) in (ap (◌∷◌ x) r.0, r.1)
  some_step false x xs e ih = (refl, refl)

  snoc_some :
      (xs : List A) → Goes xs ≡ false →
      (front c (xs ++ (n ∷ [])) ≡ take (counted c xs) xs) × (past c (xs ++ (n ∷ [])) ≡ drop (counted c xs) xs ++ (n ∷ []))
  unfolding front past counted front_if past_if
  snoc_some [] e = (ap (λ b. front_if b n []) e, ap (λ b. past_if b (n ∷ []) []) e)
  snoc_some (x ∷ xs) e = some_step (c x) x xs e (snoc_some xs)

  -- n is there only if b
  pub snoc_queue :
      (g b : Bool) (xs : List A) → Goes xs ≡ g → (b ≡ false → c n ≡ false) →
      (past c (xs ++ keep_if b n []) ≡ queue_after g b xs n (counted c xs)) × (front c (xs ++ keep_if b n []) ≡ out_after g xs n (counted c xs))
  unfolding keep_if queue_after out_after
  snoc_queue true true xs e f = let r = snoc_all xs e in (r.1, r.0)
  snoc_queue true false xs e f =
      absurd (false≢true (sym (ap (λ x. eqb (counted c xs) (length xs) && x) (f refl) ∙ and-false (eqb (counted c xs) (length xs))) ∙ e))
  snoc_queue false true xs e f = let r = snoc_some xs e in (r.1, r.0)
  snoc_queue false false xs e f = (ap (past c) (append-nil xs) ∙ past_drop c xs, ap (front c) (append-nil xs) ∙ front_take c xs)

-- keeping

module _ {A : Type 0} (p : A → Bool) where
  keep_onto : (b : Bool) (x : A) (r s : List A) → keep_if b x (r ++ s) ≡ keep_if b x r ++ s
  unfolding keep_if
  keep_onto true x r s = refl
  keep_onto false x r s = refl

  pub keep_append : (xs ys : List A) → keep p (xs ++ ys) ≡ keep p xs ++ keep p ys
  unfolding keep
  keep_append [] ys = refl
  keep_append (x ∷ xs) ys = ap (keep_if (p x) x) (keep_append xs ys) ∙ keep_onto (p x) x (keep p xs) (keep p ys)

  pub keep_whole : {xs : List A} → Every (λ x. p x ≡ true) xs → keep p xs ≡ xs
  unfolding keep keep_if
  keep_whole e_nil = refl
  keep_whole (e_cons {x} {xs} e t) = ap (λ b. keep_if b x (keep p xs)) e ∙ ap (◌∷◌ x) (keep_whole t)

  keep_le_if : (b : Bool) (x : A) (r : List A) (n : ℕ) → length r ≤ n → length (keep_if b x r) ≤ suc n
  unfolding keep_if
  keep_le_if true x r n h = omega arith
  keep_le_if false x r n h = omega arith

  pub keep_le : (xs : List A) → length (keep p xs) ≤ length xs
  unfolding keep
  keep_le [] = le_refl 0
  keep_le (x ∷ xs) = keep_le_if (p x) x (keep p xs) (length xs) (keep_le xs)

  whole_if :
      (b : Bool) (x : A) (r xs : List A) → length r ≤ length xs → (length xs ≤ length r → r ≡ xs) →
      suc (length xs) ≤ length (keep_if b x r) → keep_if b x r ≡ x ∷ xs
  unfolding keep_if
  whole_if true x r xs h f e = ap (◌∷◌ x) (f (omega arith))
  whole_if false x r xs h f e = absurd (omega arith)

  pub keep_length : (xs : List A) → length xs ≤ length (keep p xs) → keep p xs ≡ xs
  unfolding keep
  keep_length [] e = refl
  keep_length (x ∷ xs) e = whole_if (p x) x (keep p xs) xs (keep_le xs) (keep_length xs) e

-- cutting

module _ {A : Type 0} (level : A → ℕ) (l : ℕ) where
  append_if : (b : Bool) (x : A) (bs fs xs : List A) → xs ≡ bs ++ fs → x ∷ xs ≡ (cut_if b x bs fs).before ++ (cut_if b x bs fs).from
  unfolding cut_if
  append_if true x [] fs xs e = ap (◌∷◌ x) e
  append_if true x (y ∷ bs) fs xs e = ap (◌∷◌ x) e
  append_if false x bs fs xs e = ap (◌∷◌ x) e

  pub cut_append : (xs : List A) → xs ≡ (cut level l xs).before ++ (cut level l xs).from
  unfolding cut
  cut_append [] = refl
  cut_append (x ∷ xs) = append_if (eqb (level x) l) x _ _ xs (cut_append xs)

  from_if :
      (b : Bool) (x : A) (bs fs : List A) → eqb (level x) l ≡ b → Every (λ y. level y ≡ l) fs →
      Every (λ y. level y ≡ l) (cut_if b x bs fs).from
  unfolding cut_if
  from_if true x [] fs e t = e_cons (eqb-true (level x) l e) t
  from_if true x (y ∷ bs) fs e t = t
  from_if false x bs fs e t = t

  pub cut_from : (xs : List A) → Every (λ y. level y ≡ l) (cut level l xs).from
  unfolding cut
  cut_from [] = e_nil
  cut_from (x ∷ xs) = from_if (eqb (level x) l) x _ _ refl (cut_from xs)

  all_if : (b : Bool) (x : A) (bs fs : List A) → b ≡ true → bs ≡ [] → (cut_if b x bs fs).before ≡ []
  unfolding cut_if
  all_if b x bs fs e z = ap₂ (λ b bs. (cut_if b x bs fs).before) e z

  cut_all : {xs : List A} → Every (λ y. level y ≡ l) xs → (cut level l xs).before ≡ []
  unfolding cut
  cut_all e_nil = refl
  cut_all (e_cons {x} {xs} e t) = all_if (eqb (level x) l) x _ _ (eq-eqb (level x) l e) (cut_all t)

module _ {A B : Type 0} (g : A → B) (level : B → ℕ) (l : ℕ) where
  map_if :
      (b : Bool) (x : A) (bs fs : List A) →
      record { before = map g (cut_if b x bs fs).before; from = map g (cut_if b x bs fs).from } ≡ cut_if b (g x) (map g bs) (map g fs)
  unfolding cut_if
  map_if true x [] fs = refl
  map_if true x (y ∷ bs) fs = refl
  map_if false x bs fs = refl

  pub cut_hom :
      (xs : List A) →
      cut level l (map g xs) ≡ record { before = map g (cut (λ x. level (g x)) l xs).before; from = map g (cut (λ x. level (g x)) l xs).from }
  unfolding cut
  cut_hom [] = refl
  cut_hom (x ∷ xs) =
      ap (λ c. cut_if (eqb (level (g x)) l) (g x) c.before c.from) (cut_hom xs) ∙ sym (map_if (eqb (level (g x)) l) x _ _)

-- layers

module _ {A : Type 0} (level : A → ℕ) (hi : ℕ) where
  pub data Layers : ℕ → List A → Type 0 where
    l_nil : {lo : ℕ} → Layers lo []
    l_cons : {lo : ℕ} {x : A} {xs : List A} → lo ≤ level x → level x ≤ hi → Layers (level x) xs → Layers lo (x ∷ xs)

  pub layers_low : {lo : ℕ} {xs : List A} → Layers lo xs → Every (λ x. level x ≤ hi) xs
  layers_low l_nil = e_nil
  layers_low (l_cons a b t) = e_cons b (layers_low t)

  layers_top : {lo : ℕ} {xs : List A} → hi ≤ lo → Layers lo xs → Every (λ x. level x ≡ hi) xs
  layers_top h l_nil = e_nil
  layers_top h (l_cons {lo} {x} a b t) =
      let e : level x ≡ hi = omega arith in
      let k : hi ≤ level x = omega arith in
      e_cons e (layers_top k t)

  before_if :
      (b : Bool) (x : A) (bs fs : List A) → eqb (level x) hi ≡ b → level x ≤ hi → (level x ≡ hi → bs ≡ []) → Every (λ y. level y < hi) bs →
      Every (λ y. level y < hi) (cut_if b x bs fs).before
  unfolding cut_if
  before_if true x [] fs e h z t = e_nil
  before_if true x (y ∷ bs) fs e h z t = absurd (cons-ne-nil y bs (z (eqb-true (level x) hi e)))
  before_if false x bs fs e h z t =
      let ne : level x ≡ hi → ⊥ = eqb-false (level x) hi e in
      let k : level x < hi = omega arith in
      e_cons k t

  pub cut_before : {lo : ℕ} {xs : List A} → Layers lo xs → Every (λ y. level y < hi) (cut level hi xs).before
  unfolding cut
  cut_before l_nil = e_nil
  cut_before (l_cons {lo} {x} {xs} a b t) =
      before_if (eqb (level x) hi) x _ _ refl b (λ e. cut_all level hi (layers_top (above e) t)) (cut_before t)
    where
      above : level x ≡ hi → hi ≤ level x
      above e = omega arith

  lower : {lo lo' : ℕ} {xs : List A} → lo ≤ lo' → Layers lo' xs → Layers lo xs
  lower h l_nil = l_nil
  lower h (l_cons {x} a b t) = l_cons {x = x} (le_trans h a) b t

  keep_if_lem : (v : Bool) (lo : ℕ) (x : A) {r : List A} → lo ≤ level x → level x ≤ hi → Layers (level x) r → Layers lo (keep_if v x r)
  unfolding keep_if
  keep_if_lem true lo x a b t = l_cons {x = x} a b t
  keep_if_lem false lo x a b t = lower a t

  pub layers_keep : (p : A → Bool) {lo : ℕ} {xs : List A} → Layers lo xs → Layers lo (keep p xs)
  unfolding keep
  layers_keep p l_nil = l_nil
  layers_keep p (l_cons {lo} {x} a b t) = keep_if_lem (p x) lo x a b (layers_keep p t)

  past_if_lem : (v : Bool) (lo : ℕ) {xs r : List A} → Layers lo xs → Layers lo r → Layers lo (past_if v xs r)
  unfolding past_if
  past_if_lem true lo t u = u
  past_if_lem false lo t u = t

  pub layers_past : (c : A → Bool) {lo : ℕ} {xs : List A} → Layers lo xs → Layers lo (past c xs)
  unfolding past
  layers_past c l_nil = l_nil
  layers_past c (l_cons {lo} {x} a b t) = past_if_lem (c x) lo (l_cons {x = x} a b t) (lower a (layers_past c t))

pub layers_map :
    {A B : Type 0} (g : A → B) (level : B → ℕ) (hi : ℕ) {lo : ℕ} {xs : List A} → Layers (λ x. level (g x)) hi lo xs →
    Layers level hi lo (map g xs)
layers_map g level hi l_nil = l_nil
layers_map g level hi (l_cons {x} a b t) = l_cons {x = g x} a b (layers_map g level hi t)
