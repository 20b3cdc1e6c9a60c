-- A fact at every member of a list, where some members are kept and where a beginning is past.
--
--   every_keep     of those kept;  every_past: of those past a beginning
--
-- What Every says and its other laws are crate plan's, and handed on from here. Assumes nothing.
pub use Rattle.plan.specs.Every.{Every, e_nil, e_cons, every_head, every_all, every_map, every_both}
pub use Rattle.plan.specs.Every.{every_append, every_left, every_right, every_reverse, every_mapped, every_same}
use Rattle.std.specs.Prelude.{Bool, List}
use Rattle.std.proofs.Math.Bool.{true, false}
use Rattle.engine.specs.Engine.{keep_if, keep, past_if, past}

module _ {A : Type 0} {F : A → Type 0} where
  keep_if_lem : (b : Bool) (x : A) {xs : List A} → F x → Every F xs → Every F (keep_if b x xs)
  unfolding keep_if
  keep_if_lem true x a t = e_cons a t
  keep_if_lem false x a t = t

  pub every_keep : (p : A → Bool) {xs : List A} → Every F xs → Every F (keep p xs)
  unfolding keep
  every_keep p e_nil = e_nil
  every_keep p (e_cons {x} a t) = keep_if_lem (p x) x a (every_keep p t)

  past_if_lem : (b : Bool) {xs ys : List A} → Every F xs → Every F ys → Every F (past_if b xs ys)
  unfolding past_if
  past_if_lem true t u = u
  past_if_lem false t u = t

  pub every_past : (c : A → Bool) {xs : List A} → Every F xs → Every F (past c xs)
  unfolding past
  every_past c e_nil = e_nil
  every_past c (e_cons {x} a t) = past_if_lem (c x) (e_cons a t) (every_past c t)
