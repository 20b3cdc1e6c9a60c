-- The check gives exactly the answer that document 01 owes.
--
--   owed_given         the answer given is owed
--   owed_one           at most one answer is owed
--   answer_exactly     an answer is given exactly if it is owed; nine-, ten-, admitted_exactly: the same of each case
--   five_never         the reasons given are 1 to 4: 5 is not given yet
--   step_within        the step with it is one from 1 to 32
--   said_one           two results of the code that stand for one answer are equal
--   check_one          two results that the check's promise allows are equal
--
-- Assumes nothing.
use Prim.Native.Nat.{ℕ, zero, suc, ◌+◌, ◌≤◌, ◌<◌}
use Rattle.std.specs.Prelude.{◌≡◌, Bool, true, false, List, ◌↔◌, length, Result, Ok, Err}
use Rattle.std.proofs.Math.Path.{refl}
use Rattle.std.proofs.Common.{sym, ap, ap₂, subst, ◌∙◌, true≢false, not-suc-le-zero, arith}
use Rattle.std.proofs.Math.Option.{Option}
use borrow.Author.Count.{below_more}
use Rattle.limits.specs.Number.{reason_number}
use Rattle.limits.specs.declared.Reason.{Reason}
use Rattle.limits.specs.declared.Reason.TheVariants.{Axis, Role, Hang, Zero}
use Rattle.meaning.specs.Refusals.{bad_length, bad_step}
use Rattle.meaning.proofs.Table.Laws.{Outcome, first_is, none_is}
use Rattle.query.specs.Rules.{most_steps, wrong_length, steps, keeps}
use Rattle.query.proofs.Rules.Laws.{right_length}
use Rattle.query.specs.Reasons.{Due, reasons}
use Rattle.query.proofs.Reasons.Laws.{applies_exactly, reason_given, keeps_exactly, four_at_most}
use Rattle.query.specs.Answer.{Answer, admitted, refused, refused_at, said, FirstBreaking}
use Rattle.query.specs.Answer.{Kept, Owed, if_none, judged_from, judged, if_wrong, answer_to, CheckGives}
use Rattle.query.specs.declared.QueryFault.{QueryFault}
use Rattle.query.specs.declared.QueryFault.TheVariants.{Length, Step}

-- the answer given is owed

module _ (q : List ℕ) (right : wrong_length (length q) ≡ false) where
  KeptTo : ℕ → Type 0
  KeptTo s = (t : ℕ) → t < s → keeps q t ≡ true

  one_more : (s : ℕ) → KeptTo s → keeps q s ≡ true → KeptTo (suc s)
  unfolding KeptTo
  one_more s h kept t lt = below_more (λ (u : ℕ). keeps q u ≡ true) s h kept t (omega arith)

  owed_step :
      (s : ℕ) {o : Option ℕ} (rest : Answer) → s < steps q → KeptTo s → Outcome (λ r. r) (reasons q s) o → (keeps q s ≡ true → Owed q rest) →
      Owed q (if_none o (suc s) rest)
  unfolding KeptTo if_none
  owed_step s rest there h (none_is f) go = go ((keeps_exactly q s).1 (λ r a. f r ((applies_exactly q s r).1 a)))
  owed_step s rest there h (first_is {r} m f) go = (
    refl,
    record {
      right = right;
      before = s;
      number = refl;
      there = there;
      due = (applies_exactly q s r).0 m;
      least = λ t a. f t ((applies_exactly q s t).1 a);
      earlier = h;
    },
  )

  owed_from : (n s : ℕ) → s + n ≡ steps q → KeptTo s → Owed q (judged_from q n s)
  unfolding KeptTo judged_from
  owed_from zero s e h = record { right = right; each = λ t lt. h t (omega arith) }
  owed_from (suc n) s e h =
      owed_step s (judged_from q n (suc s)) (omega arith) h (reason_given q s) (λ kept. owed_from n (suc s) (omega arith) (one_more s h kept))

owed_by_length : (q : List ℕ) (b : Bool) → wrong_length (length q) ≡ b → Owed q (if_wrong b (judged q))
unfolding if_wrong judged
owed_by_length q true is = (refl, is)
owed_by_length q false is = owed_from q is (steps q) 0 (omega arith) (unfold KeptTo in λ t lt. absurd (not-suc-le-zero lt))

pub owed_given : (q : List ℕ) → Owed q (answer_to q)
unfolding answer_to
owed_given q = owed_by_length q (wrong_length (length q)) refl

-- at most one answer is owed

clash : (b : Bool) → b ≡ true → b ≡ false → ⊥
clash b p n = true≢false (sym p ∙ n)

-- of two steps that break a rule, the later is not the first
not_before : (q : List ℕ) {k l r t : ℕ} (f : FirstBreaking q k r) (g : FirstBreaking q l t) → f.before < g.before → ⊥
not_before q {r = r} f g lt = (keeps_exactly q f.before).0 (g.earlier f.before lt) r f.due

same_step : (q : List ℕ) {k l r t : ℕ} (f : FirstBreaking q k r) (g : FirstBreaking q l t) → f.before ≡ g.before
same_step q f g = omega (arith, not_before q f g, not_before q g f)

first_one : (q : List ℕ) {k l r t : ℕ} → FirstBreaking q k r → FirstBreaking q l t → k ≡ l
first_one q f g = f.number ∙ ap suc (same_step q f g) ∙ sym g.number

-- of two reasons at one step neither is below the other
reason_one : (q : List ℕ) {k l r t : ℕ} → FirstBreaking q k r → FirstBreaking q l t → r ≡ t
reason_one q {r = r} {t} f g =
    let here = same_step q f g in
    omega (
      arith,
      f.least t (subst (λ s. Due q s t) (sym here) g.due),
      g.least r (subst (λ s. Due q s r) here f.due),
    )

kept_or_first : (q : List ℕ) {k r : ℕ} → Kept q → FirstBreaking q k r → ⊥
kept_or_first q {r = r} all f = (keeps_exactly q f.before).0 (all.each f.before f.there) r f.due

pub owed_one : (q : List ℕ) (a b : Answer) → Owed q a → Owed q b → a ≡ b
owed_one q admitted admitted o p = refl
owed_one q admitted (refused n) o p = absurd (clash _ p.1 o.right)
owed_one q admitted (refused_at n k r) o p = absurd (kept_or_first q o p.1)
owed_one q (refused n) admitted o p = absurd (clash _ o.1 p.right)
owed_one q (refused n) (refused m) o p = ap refused (o.0 ∙ sym p.0)
owed_one q (refused n) (refused_at m k r) o p = absurd (clash _ o.1 p.1.right)
owed_one q (refused_at n k r) admitted o p = absurd (kept_or_first q p o.1)
owed_one q (refused_at n k r) (refused m) o p = absurd (clash _ p.1 o.1.right)
owed_one q (refused_at n k r) (refused_at m l t) o p =
    ap₂ (λ i j. refused_at i j r) (o.0 ∙ sym p.0) (first_one q o.1 p.1) ∙ ap (refused_at m l) (reason_one q o.1 p.1)

pub answer_exactly : (q : List ℕ) (a : Answer) → (answer_to q ≡ a) ↔ Owed q a
answer_exactly q a = (λ given. subst (Owed q) given (owed_given q), λ owed. owed_one q (answer_to q) a (owed_given q) owed)

pub nine_exactly : (q : List ℕ) → (answer_to q ≡ refused bad_length) ↔ (wrong_length (length q) ≡ true)
nine_exactly q = (λ given. ((answer_exactly q (refused bad_length)).0 given).1, λ wrong. (answer_exactly q (refused bad_length)).1 (refl, wrong))

pub ten_exactly : (q : List ℕ) (k r : ℕ) → (answer_to q ≡ refused_at bad_step k r) ↔ FirstBreaking q k r
ten_exactly q k r = (
  λ given. ((answer_exactly q (refused_at bad_step k r)).0 given).1,
  λ first. (answer_exactly q (refused_at bad_step k r)).1 (refl, first),
)

pub five_never : (q : List ℕ) (k r : ℕ) → answer_to q ≡ refused_at bad_step k r → (1 ≤ r) × (r ≤ 4)
five_never q k r given = let f = (ten_exactly q k r).0 given in four_at_most q f.before f.due

pub step_within : (q : List ℕ) (k r : ℕ) → answer_to q ≡ refused_at bad_step k r → (1 ≤ k) × (k ≤ most_steps)
step_within q k r given =
    let f = (ten_exactly q k r).0 given in
    let right = right_length (length q) f.right in
    (omega (arith, f.number), omega (arith, f.number, f.there, right.short))

pub admitted_exactly : (q : List ℕ) → (answer_to q ≡ admitted) ↔ Kept q
admitted_exactly q = answer_exactly q admitted

-- one possible result

reason_told : ℕ → Reason
reason_told (suc zero) = Axis
reason_told (suc (suc zero)) = Role
reason_told (suc (suc (suc zero))) = Hang
reason_told _ = Zero

told_reason : (r : Reason) → reason_told (reason_number r) ≡ r
unfolding reason_told
told_reason Axis = refl
told_reason Role = refl
told_reason Hang = refl
told_reason Zero = refl

unsaid : Answer → Result (Unit {0}) QueryFault
unsaid admitted = Ok tt
unsaid (refused n) = Err Length
unsaid (refused_at n k r) = Err (Step k (reason_told r))

unsaid_said : (a : Result (Unit {0}) QueryFault) → unsaid (said a) ≡ a
unfolding said unsaid
unsaid_said (Ok x) = refl
unsaid_said (Err Length) = refl
unsaid_said (Err (Step k r)) = ap (λ x. Err (Step k x)) (told_reason r)

pub said_one : (a b : Result (Unit {0}) QueryFault) → said a ≡ said b → a ≡ b
said_one a b e = sym (unsaid_said a) ∙ ap unsaid e ∙ unsaid_said b

pub check_one : (q : List ℕ) (a b : Result (Unit {0}) QueryFault) → CheckGives q a → CheckGives q b → a ≡ b
check_one q a b p r = said_one a b (p ∙ sym r)
