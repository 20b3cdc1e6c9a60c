-- covers and overlaps: what they say of members, and how they go with the operations. For any number of steps.
--
--   bool_iff            two tests that hold together are equal
--   covers_iff          have covers need exactly if every member of need is a member of have
--   overlaps_iff        a and b overlap exactly if they have a member in common
--   covers_self, covers_trans, covers_both     an order: sets that cover one another are equal
--   covers_none         every set covers the empty one
--   covers_join         a set covers a join exactly if it covers both parts
--   covers_wider        what a set covers, its join with another covers
--   overlaps_comm, overlaps_none, overlaps_join, overlaps_one     over the other operations
--
-- Assumes nothing.
use Rattle.std.specs.Prelude.{ℕ, zero, suc, ◌<◌, ◌≡◌, refl, Bool, true, false, not, ◌&&◌, ◌||◌, ◌↔◌, ◌⊎◌, eqb}
use Rattle.std.proofs.Common.{zero-lt-suc, sym, ap, ap₂, ◌∙◌, subst, true≢false, inl, inr, eqb-true, eq-eqb, ne_eqb}
use Rattle.std.proofs.Math.Bool.{and-eq-true_iff, or-true}
use Rattle.std.proofs.lemmas.Bool.{false≢true, not-true}
use Rattle.std.proofs.lemmas.Nat.{and_comm as meet_comm}
use Rattle.std.specs.Int.Bits.{and_zero_r}
use Rattle.sets.specs.Set.{member, join, meet, one, covers, overlaps}
use Rattle.sets.proofs.Set.Laws.{member_join, member_meet, member_none, member_one, same_members, some_member}

pub bool_iff : (a b : Bool) → (a ≡ true → b ≡ true) → (b ≡ true → a ≡ true) → a ≡ b
bool_iff true b f g = sym (f refl)
bool_iff false true f g = g refl
bool_iff false false f g = refl

either : (x y : Bool) → (x || y) ≡ true → (x ≡ true) ⊎ (y ≡ true)
either true y e = inl refl
either false y e = inr e

-- covers

narrow : (x y : Bool) → (x ≡ true → y ≡ true) → (x && y) ≡ x
narrow true y f = f refl
narrow false y f = refl

wide : (x y : Bool) → (x && y) ≡ x → x ≡ true → y ≡ true
wide true y e p = e
wide false y e p = absurd (false≢true p)

pub covers_iff : (have need : ℕ) → (covers have need ≡ true) ↔ ((t : ℕ) → member need t ≡ true → member have t ≡ true)
unfolding covers
covers_iff have need = (to, from)
  where
    to : eqb (meet need have) need ≡ true → (t : ℕ) → member need t ≡ true → member have t ≡ true
    to e t = wide (member need t) (member have t) (sym (member_meet need have t) ∙ ap (λ x. member x t) (eqb-true _ _ e))

    from : ((t : ℕ) → member need t ≡ true → member have t ≡ true) → eqb (meet need have) need ≡ true
    from f = eq-eqb _ _ (same_members _ _ (λ t. member_meet need have t ∙ narrow (member need t) (member have t) (f t)))

pub covers_self : (a : ℕ) → covers a a ≡ true
covers_self a = (covers_iff a a).1 (λ t e. e)

pub covers_trans : (a b c : ℕ) → covers a b ≡ true → covers b c ≡ true → covers a c ≡ true
covers_trans a b c p q = (covers_iff a c).1 (λ t e. (covers_iff a b).0 p t ((covers_iff b c).0 q t e))

pub covers_both : (a b : ℕ) → covers a b ≡ true → covers b a ≡ true → a ≡ b
covers_both a b p q =
    same_members a b (λ t. bool_iff (member a t) (member b t) ((covers_iff b a).0 q t) ((covers_iff a b).0 p t))

pub covers_none : (a : ℕ) → covers a 0 ≡ true
covers_none a = (covers_iff a 0).1 (λ t e. absurd (false≢true (sym (member_none t) ∙ e)))

-- what is in one part is in the join
in_left : (a b t : ℕ) → member a t ≡ true → member (join a b) t ≡ true
in_left a b t e = member_join a b t ∙ ap (λ x. x || member b t) e

in_right : (a b t : ℕ) → member b t ≡ true → member (join a b) t ≡ true
in_right a b t e = member_join a b t ∙ ap (λ x. member a t || x) e ∙ or-true (member a t)

in_either : (a b t : ℕ) → member (join a b) t ≡ true → (member a t ≡ true) ⊎ (member b t ≡ true)
in_either a b t e = either (member a t) (member b t) (sym (member_join a b t) ∙ e)

pub covers_wider : (a b need : ℕ) → covers a need ≡ true → covers (join a b) need ≡ true
covers_wider a b need p = (covers_iff (join a b) need).1 (λ t e. in_left a b t ((covers_iff a need).0 p t e))

pub covers_join : (have a b : ℕ) → covers have (join a b) ≡ (covers have a && covers have b)
covers_join have a b = bool_iff _ _ to from
  where
    to : covers have (join a b) ≡ true → (covers have a && covers have b) ≡ true
    to e =
        let all : (t : ℕ) → member (join a b) t ≡ true → member have t ≡ true = (covers_iff have (join a b)).0 e in
        ap₂ ◌&&◌ ((covers_iff have a).1 (λ t p. all t (in_left a b t p))) ((covers_iff have b).1 (λ t p. all t (in_right a b t p)))

    from : (covers have a && covers have b) ≡ true → covers have (join a b) ≡ true
    from e = (covers_iff have (join a b)).1 (λ t p. part t (in_either a b t p))
      where
        part : (t : ℕ) → (member a t ≡ true) ⊎ (member b t ≡ true) → member have t ≡ true
        part t (inl p) = (covers_iff have a).0 ((and-eq-true_iff (covers have a) (covers have b)).0 e).0 t p
        part t (inr p) = (covers_iff have b).0 ((and-eq-true_iff (covers have a) (covers have b)).0 e).1 t p

-- overlaps

pub overlaps_iff : (a b : ℕ) → (overlaps a b ≡ true) ↔ ((t : ℕ) × (member a t ≡ true) × (member b t ≡ true))
unfolding overlaps
overlaps_iff a b = (λ e. to (meet a b) refl (not-true _ e), from)
  where
    to : (m : ℕ) → meet a b ≡ m → eqb (meet a b) 0 ≡ false → (t : ℕ) × (member a t ≡ true) × (member b t ≡ true)
    to zero p e = absurd (true≢false (sym (eq-eqb _ _ p) ∙ e))
    to (suc m) p e =
        let here = some_member (meet a b) (subst (λ x. 0 < x) (sym p) (zero-lt-suc m)) in
        let both = (and-eq-true_iff (member a here.0) (member b here.0)).0 (sym (member_meet a b here.0) ∙ here.1) in
        (here.0, both.0, both.1)

    from : (t : ℕ) × (member a t ≡ true) × (member b t ≡ true) → not (eqb (meet a b) 0) ≡ true
    from (t, p, q) =
        ap not (ne_eqb _ _ (λ z. false≢true (sym (member_none t) ∙ ap (λ x. member x t) (sym z) ∙ member_meet a b t ∙ ap₂ ◌&&◌ p q)))

pub overlaps_comm : (a b : ℕ) → overlaps a b ≡ overlaps b a
unfolding overlaps
overlaps_comm a b = ap (λ x. not (eqb x 0)) (meet_comm a b)

pub overlaps_none : (a : ℕ) → overlaps a 0 ≡ false
unfolding overlaps
overlaps_none a = ap (λ x. not (eqb x 0)) (and_zero_r a)

pub overlaps_join : (a b c : ℕ) → overlaps a (join b c) ≡ (overlaps a b || overlaps a c)
overlaps_join a b c = bool_iff _ _ (λ e. to ((overlaps_iff a (join b c)).0 e)) (λ e. from (either _ _ e))
  where
    to : (t : ℕ) × (member a t ≡ true) × (member (join b c) t ≡ true) → (overlaps a b || overlaps a c) ≡ true
    to (t, p, q) = part (in_either b c t q)
      where
        part : (member b t ≡ true) ⊎ (member c t ≡ true) → (overlaps a b || overlaps a c) ≡ true
        part (inl r) = ap (λ x. x || overlaps a c) ((overlaps_iff a b).1 (t, p, r))
        part (inr r) = ap (λ x. overlaps a b || x) ((overlaps_iff a c).1 (t, p, r)) ∙ or-true (overlaps a b)

    from : (overlaps a b ≡ true) ⊎ (overlaps a c ≡ true) → overlaps a (join b c) ≡ true
    from (inl e) = let h = (overlaps_iff a b).0 e in (overlaps_iff a (join b c)).1 (h.0, h.1, in_left b c h.0 h.2)
    from (inr e) = let h = (overlaps_iff a c).0 e in (overlaps_iff a (join b c)).1 (h.0, h.1, in_right b c h.0 h.2)

pub overlaps_one : (m s : ℕ) → overlaps m (one s) ≡ member m s
overlaps_one m s = bool_iff _ _ to from
  where
    to : overlaps m (one s) ≡ true → member m s ≡ true
    to e =
        let h = (overlaps_iff m (one s)).0 e in
        subst (λ t. member m t ≡ true) (sym (eqb-true s h.0 (sym (member_one s h.0) ∙ h.2))) h.1

    from : member m s ≡ true → overlaps m (one s) ≡ true
    from e = (overlaps_iff m (one s)).1 (s, e, member_one s s ∙ eq-eqb s s refl)
