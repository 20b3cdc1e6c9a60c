-- A fact at every member of a list.
--
--   Every F xs           F holds at each of xs
--   every_head, every_all        at the first; a fact that always holds
--   every_map, every_both, every_mapped      from one fact, from two facts, to another; along a map
--   every_append, every_left, every_right, every_reverse      of two lists together, of a list turned round
--   every_same           two maps that agree along a list
--
-- Assumes nothing.
use Rattle.std.specs.Prelude.{◌≡◌, refl}
use Rattle.std.proofs.Common.{ap₂}
use mathlib.Core.List.{List, [], ◌∷◌, ◌++◌, map, reverse, reverse_aux}

pub data Every {A : Type 0} (F : A → Type 0) : List A → Type 0 where
  e_nil : Every F []
  e_cons : {x : A} {xs : List A} → F x → Every F xs → Every F (x ∷ xs)

module _ {A : Type 0} {F : A → Type 0} where
  pub every_head : {x : A} {xs : List A} → Every F (x ∷ xs) → F x
  every_head (e_cons a t) = a

  pub every_all : ((x : A) → F x) → (xs : List A) → Every F xs
  every_all f [] = e_nil
  every_all f (x ∷ xs) = e_cons (f x) (every_all f xs)

  pub every_map : {G : A → Type 0} → ((x : A) → F x → G x) → {xs : List A} → Every F xs → Every G xs
  every_map f e_nil = e_nil
  every_map f (e_cons {x} a t) = e_cons (f x a) (every_map f t)

  pub every_both : {G H : A → Type 0} → ((x : A) → F x → G x → H x) → {xs : List A} → Every F xs → Every G xs → Every H xs
  every_both f e_nil e_nil = e_nil
  every_both f (e_cons {x} a t) (e_cons b u) = e_cons (f x a b) (every_both f t u)

  pub every_append : {xs ys : List A} → Every F xs → Every F ys → Every F (xs ++ ys)
  every_append e_nil u = u
  every_append (e_cons a t) u = e_cons a (every_append t u)

  pub every_left : (xs ys : List A) → Every F (xs ++ ys) → Every F xs
  every_left [] ys t = e_nil
  every_left (x ∷ xs) ys (e_cons a t) = e_cons a (every_left xs ys t)

  pub every_right : (xs ys : List A) → Every F (xs ++ ys) → Every F ys
  every_right [] ys t = t
  every_right (x ∷ xs) ys (e_cons a t) = every_right xs ys t

  reverse_onto : {xs ys : List A} → Every F xs → Every F ys → Every F (reverse_aux xs ys)
  reverse_onto e_nil u = u
  reverse_onto (e_cons a t) u = reverse_onto t (e_cons a u)

  pub every_reverse : {xs : List A} → Every F xs → Every F (reverse xs)
  every_reverse t = reverse_onto t e_nil

pub every_mapped : {A B : Type 0} {F : B → Type 0} (f : A → B) {xs : List A} → Every (λ x. F (f x)) xs → Every F (map f xs)
every_mapped f e_nil = e_nil
every_mapped f (e_cons {x} a t) = e_cons {x = f x} a (every_mapped f t)

pub every_same : {A B : Type 0} {f g : A → B} {xs : List A} → Every (λ x. f x ≡ g x) xs → map f xs ≡ map g xs
every_same e_nil = refl
every_same (e_cons a t) = ap₂ ◌∷◌ a (every_same t)
