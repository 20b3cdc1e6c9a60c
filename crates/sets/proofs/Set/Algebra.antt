-- The Boolean laws, lifted to sets: each holds because it holds member by member. For any number of steps.
--
--   join_assoc, meet_assoc          (a join b) join c ≡ a join (b join c), and so for meet
--   meet_join, join_meet            each distributes over the other
--   meet_absorbs, join_absorbs      a meet (a join b) ≡ a, a join (a meet b) ≡ a
--   without_join, without_meet      a without (b join c) is a without b without c; without a meet, what is without the one or the other
--   joined_without, met_without     (a join b) without c, (a meet b) without c, part by part
--   meet_apart                      met with a, which has none of c, b without c is b
--   join_without                    what is in a, or in b and not in a, is what is in a or b
--   without_self, without_none      nothing is left of a without a; without the empty set all of a is
--
-- Commutation, idempotence and the empty set under join and meet are lib.Bits' or-comm, and-comm, or-self, and-self, or-zero-r, and-zero-r.
-- Assumes nothing.
use Rattle.std.specs.Prelude.{ℕ, ◌≡◌, refl, Bool, true, false, not, ◌&&◌, ◌||◌}
use Rattle.std.proofs.Common.{sym, ap, ◌∙◌, true≢false}
use Rattle.std.proofs.Math.Bool.{and_assoc, or_assoc, and-true, and-not_self, and-or_distrib_left, and-or_distrib_right, or-and_distrib_left}
use Rattle.sets.specs.Set.{member, join, meet, without}
use Rattle.sets.proofs.Set.Laws.{member_join, member_meet, member_without, member_none, same_members}

ruleset members = (member_join, member_meet, member_without, member_none)

module _ (a b c : ℕ) where
  pub join_assoc : join (join a b) c ≡ join a (join b c)
  join_assoc = same_members _ _ (λ t. simp members (or_assoc (member a t) (member b t) (member c t)))

  pub meet_assoc : meet (meet a b) c ≡ meet a (meet b c)
  meet_assoc = same_members _ _ (λ t. simp members (and_assoc (member a t) (member b t) (member c t)))

  pub meet_join : meet a (join b c) ≡ join (meet a b) (meet a c)
  meet_join = same_members _ _ (λ t. simp members (and-or_distrib_left (member a t) (member b t) (member c t)))

  pub join_meet : join a (meet b c) ≡ meet (join a b) (join a c)
  join_meet = same_members _ _ (λ t. simp members (or-and_distrib_left (member a t) (member b t) (member c t)))

  pub without_join : without a (join b c) ≡ without (without a b) c
  without_join = same_members _ _ (λ t. simp members (law (member a t) (member b t) (member c t)))
    where
      law : (x y z : Bool) → (x && not (y || z)) ≡ (x && not y && not z)
      law true true z = refl
      law true false z = refl
      law false y z = refl

  pub without_meet : without a (meet b c) ≡ join (without a b) (without a c)
  without_meet = same_members _ _ (λ t. simp members (law (member a t) (member b t) (member c t)))
    where
      law : (x y z : Bool) → (x && not (y && z)) ≡ (x && not y || x && not z)
      law true true z = refl
      law true false z = refl
      law false y z = refl

  pub joined_without : without (join a b) c ≡ join (without a c) (without b c)
  joined_without = same_members _ _ (λ t. simp members (and-or_distrib_right (member a t) (member b t) (not (member c t))))

  pub met_without : without (meet a b) c ≡ meet a (without b c)
  met_without = same_members _ _ (λ t. simp members (and_assoc (member a t) (member b t) (not (member c t))))

  pub meet_apart : meet a c ≡ 0 → meet a (without b c) ≡ meet a b
  meet_apart e = same_members _ _ (λ t. simp members (law (member a t) (member b t) (member c t) (apart t)))
    where
      apart : (t : ℕ) → (member a t && member c t) ≡ false
      apart t = sym (member_meet a c t) ∙ ap (λ x. member x t) e ∙ member_none t

      law : (x y z : Bool) → (x && z) ≡ false → (x && (y && not z)) ≡ (x && y)
      law true y true f = absurd (true≢false f)
      law true y false f = and-true y
      law false y z f = refl

module _ (a b : ℕ) where
  pub meet_absorbs : meet a (join a b) ≡ a
  meet_absorbs = same_members _ _ (λ t. simp members (law (member a t) (member b t)))
    where
      law : (x y : Bool) → (x && (x || y)) ≡ x
      law true y = refl
      law false y = refl

  pub join_absorbs : join a (meet a b) ≡ a
  join_absorbs = same_members _ _ (λ t. simp members (law (member a t) (member b t)))
    where
      law : (x y : Bool) → (x || (x && y)) ≡ x
      law true y = refl
      law false y = refl

  pub join_without : join a (without b a) ≡ join a b
  join_without = same_members _ _ (λ t. simp members (law (member a t) (member b t)))
    where
      law : (x y : Bool) → (x || (y && not x)) ≡ (x || y)
      law true y = refl
      law false y = and-true y

pub without_self : (a : ℕ) → without a a ≡ 0
without_self a = same_members _ _ (λ t. simp members (and-not_self (member a t)))

pub without_none : (a : ℕ) → without a 0 ≡ a
without_none a = same_members _ _ (λ t. simp members (and-true (member a t)))
