-- Laws of the query rules.
--
--   hang_rule_is     what a step hangs on, in one line for every step: crate meaning's `hangs_right`
--   keeps_each      a step keeps every rule exactly if it keeps each
--   keeps_plain     of its role only the byte need be asked: that "Step 1 is on the main path" is said by what it hangs on as well, so it refuses nothing more
--   right_length    a length that is not wrong is right
--
-- Assumes nothing. NOT here: what `nearest` finds (Rules.Nearest).
use Rattle.std.specs.Prelude.{ℕ, zero, suc, ◌%◌, ◌≡◌, refl, Bool, true, false, not, ◌&&◌, ◌||◌, List, ◌≢◌, ◌↔◌, eqb, leb, ltb}
use Rattle.std.proofs.Common.{sym, arith, eqb-true, lt-ltb, ltb-false}
use Rattle.std.proofs.Math.Bool.{and-true, or-true, and-eq-true_iff}
use Rattle.std.proofs.lemmas.Bool.{eqb-false, not-false}
use Rattle.std.proofs.Math.Dec.{leb-zero, leb-suc-zero, leb-suc-suc, eqb-suc-zero}
use Rattle.meaning.specs.Logic.{neither}
use Rattle.meaning.specs.Query.{hangs_right}
use Rattle.query.specs.Rules.{step_bytes, longest, wrong_length, Right, step_of, axis_byte, role_byte, on_byte, is_main, is_role}
use Rattle.query.specs.Rules.{axis_rule, role_rule, nearest, later_rule, hang_rule, zero_rule, keeps}

-- no step comes before step 1, so no predicate is step 1
none_between : (on : ℕ) → (leb 1 on && ltb on 1) ≡ false
none_between zero = refl
none_between (suc n) = rw (leb-suc-suc 0 n, leb-zero n, leb-suc-suc (suc n) 0, leb-suc-zero n)

first_is : (main : Bool) (on : ℕ) → (main && eqb on 0) ≡ hangs_right main on 1 0
unfolding hangs_right
first_is true on = refl
first_is false on = sym (none_between on)

earlier_is : (on s : ℕ) → (leb on s && not (eqb on 0)) ≡ (leb 1 on && ltb on (suc s))
earlier_is zero s = simp (leb-zero)
earlier_is (suc n) s = rw (eqb-suc-zero n, leb-suc-suc 0 n, leb-zero n, leb-suc-suc (suc n) s) (and-true (leb (suc n) s))

later_is : (main : Bool) (on s near : ℕ) → later_rule main on s near ≡ hangs_right main on (suc s) near
unfolding later_rule hangs_right
later_is true on s near = refl
later_is false on s near = earlier_is on s

pub hang_rule_is : (q : List ℕ) (s : ℕ) → hang_rule q s ≡ hangs_right (is_main (step_of q s)) (on_byte (step_of q s)) (suc s) (nearest q s)
unfolding hang_rule nearest
hang_rule_is q zero = first_is (is_main (step_of q zero)) (on_byte (step_of q zero))
hang_rule_is q (suc s) = later_is (is_main (step_of q (suc s))) (on_byte (step_of q (suc s))) (suc s) (nearest q (suc s))

later_role : (b s : ℕ) → is_role b ≡ true → role_rule (suc (suc s)) b ≡ true
later_role b s e = rw (e, lt-ltb 1 (suc (suc s)) (omega arith)) (or-true (eqb b 1))

role_hung : (q : List ℕ) (s : ℕ) → is_role (role_byte (step_of q s)) ≡ true → hang_rule q s ≡ true → role_rule (suc s) (role_byte (step_of q s)) ≡ true
unfolding hang_rule
role_hung q zero e h = rw (e, ((and-eq-true_iff (is_main (step_of q zero)) _).0 h).0)
role_hung q (suc s) e h = later_role (role_byte (step_of q (suc s))) s e

pub keeps_each :
    (q : List ℕ) (s : ℕ) →
    (keeps q s ≡ true)
    ↔ ((axis_rule (axis_byte (step_of q s)) ≡ true)
    × (role_rule (suc s) (role_byte (step_of q s)) ≡ true)
    × (hang_rule q s ≡ true)
    × (zero_rule (step_of q s) ≡ true))
unfolding keeps
keeps_each q s =
    let axis = and-eq-true_iff (axis_rule (axis_byte (step_of q s))) _ in
    let role = and-eq-true_iff (role_rule (suc s) (role_byte (step_of q s))) _ in
    let hang = and-eq-true_iff (hang_rule q s) (zero_rule (step_of q s)) in (
      λ e.
          let rest = role.0 (axis.0 e).1 in
          ((axis.0 e).0, rest.0, (hang.0 rest.1).0, (hang.0 rest.1).1),
      λ each. axis.1 (each.0, role.1 (each.1, hang.1 (each.2, each.3))),
    )

pub keeps_plain :
    (q : List ℕ) (s : ℕ) →
    (keeps q s ≡ true)
    ↔ ((axis_rule (axis_byte (step_of q s)) ≡ true)
    × (is_role (role_byte (step_of q s)) ≡ true)
    × (hang_rule q s ≡ true)
    × (zero_rule (step_of q s) ≡ true))
keeps_plain q s = (
  λ e.
      let each = (keeps_each q s).0 e in
      (each.0, ((and-eq-true_iff (is_role (role_byte (step_of q s))) _).0 each.1).0, each.2, each.3),
  λ each. (keeps_each q s).1 (each.0, role_hung q s each.1 each.2, each.2, each.3),
)

pub right_length : (n : ℕ) → wrong_length n ≡ false → Right n
right_length n e =
    let some : eqb n 0 ≡ false = (neither _ _ e).0 in
    let rest : (not (eqb (n % step_bytes) 0) || ltb longest n) ≡ false = (neither (eqb n 0) _ e).1 in
    let parts : (not (eqb (n % step_bytes) 0) ≡ false) × (ltb longest n ≡ false) = neither _ _ rest in
    let positive : n ≢ 0 = eqb-false n 0 some in
    record { some = omega arith; whole = eqb-true _ _ (not-false _ parts.0); short = ltb-false _ _ parts.1 }
