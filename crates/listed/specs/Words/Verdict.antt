-- What is wrong with a line, in words and as a test.
--
--   name_exactly      is_name is Name
--   Verdict n line r  line number n gets the refusal r, or 0: a constructor for each
--   judged            fault_of gives the verdict
--   is_right, is_over, is_no_name, is_long       what a verdict says, by its number
--   one_verdict       there is one
--
-- Assumes nothing.
use Rattle.std.specs.Prelude.{ℕ, zero, suc, ◌<◌, ◌↔◌, ◌≡◌, refl, true, false, not, List, [], ◌∷◌, T, ltb, length, get_or}
use Rattle.std.proofs.Common.{arith, sym, subst, ◌∙◌, ltb-true, ltb-false}
use Rattle.std.proofs.lemmas.Bool.{not-true, not-false}
use Rattle.choice.specs.When.{never, when_known}
use Rattle.xml.specs.Class.{Class, in_class, In}
use Rattle.xml.proofs.Class.Laws.{and_l, and_r, and_i, T_true}
use Rattle.xml.specs.Chars.{name_start, name_char}
use Rattle.xml.specs.Bounds.{name_limit, list_limit}
use Rattle.xml.specs.Refused.{many_names, long_listed, not_name}
use Rattle.listed.specs.Listed.{all_in, is_name, fault_of}
use Rattle.listed.specs.Words.{Name, Right, Over, NoName, Long}

-- a Name

all_each : (c : Class) (t : List ℕ) → T (all_in c t) → (i : ℕ) → i < length t → In c (get_or t i 0)
unfolding all_in
all_each c [] h i l = absurd (omega arith)
all_each c (b ∷ t) h zero l = record { holds = and_l (in_class c b) _ h }
all_each c (b ∷ t) h (suc i) l = all_each c t (and_r (in_class c b) _ h) i (omega arith)

each_all : (c : Class) (t : List ℕ) → ((i : ℕ) → i < length t → In c (get_or t i 0)) → T (all_in c t)
unfolding all_in
each_all c [] h = tt
each_all c (b ∷ t) h = and_i (in_class c b) _ (h zero (omega arith)).holds (each_all c t (λ i l. h (suc i) (omega arith)))

is_named_lem : (line : List ℕ) → T (is_name line) → Name line
unfolding is_name
is_named_lem [] h = absurd h
is_named_lem (b ∷ t) h =
    record {
      some = omega arith;
      starts = record { holds = and_l (in_class name_start b) _ h };
      goes_on = λ i. further i;
    }
  where
    further : (i : ℕ) → 0 < i → i < suc (length t) → In name_char (get_or (b ∷ t) i 0)
    further zero p l = absurd (omega arith)
    further (suc i) p l = all_each name_char t (and_r (in_class name_start b) _ h) i (omega arith)

named_is : (line : List ℕ) → Name line → T (is_name line)
unfolding is_name
named_is [] n = absurd (let l = n.some in omega arith)
named_is (b ∷ t) n =
    and_i (in_class name_start b) _ n.starts.holds (each_all name_char t (λ i l. n.goes_on (suc i) (omega arith) (omega arith)))

pub name_exactly : (line : List ℕ) → (is_name line ≡ true) ↔ Name line
name_exactly line = (λ e. is_named_lem line (subst T (sym e) tt), λ n. T_true _ (named_is line n))

name_not : (line : List ℕ) → is_name line ≡ false → Name line → ⊥
name_not line e n = never (sym e ∙ (name_exactly line).1 n)

-- a line's fault

pub data Verdict (n : ℕ) (line : List ℕ) : ℕ → Type 0 where
  right : Right n line → Verdict n line 0
  over : Over n line → Verdict n line many_names
  no_name : NoName n line → Verdict n line not_name
  long : Long n line → Verdict n line long_listed

pub judged : (n : ℕ) (line : List ℕ) → Verdict n line (fault_of n line)
unfolding fault_of
judged n line =
    when_known (Verdict n line) (ltb list_limit n) _ _ (λ t. over (record { over = ltb-true _ _ t }))
    (λ u. let few = ltb-false _ _ u in
    when_known (Verdict n line) (not (is_name line)) _ _
    (λ t. no_name (record { few = few; wrong = name_not line (not-true _ t) }))
    (λ v. let name = (name_exactly line).0 (not-false _ v) in
    when_known (Verdict n line) (ltb name_limit (length line)) _ _
    (λ t. long (record { few = few; name = name; long = ltb-true _ _ t }))
    (λ w. right (record { few = few; name = name; short = ltb-false _ _ w }))))

module _ {n : ℕ} {line : List ℕ} where
  pub is_right : {r : ℕ} → Verdict n line r → r ≡ 0 → Right n line
  is_right (right x) e = x
  is_right (over x) e = absurd (omega arith)
  is_right (no_name x) e = absurd (omega arith)
  is_right (long x) e = absurd (omega arith)

  pub is_over : {r : ℕ} → Verdict n line r → r ≡ many_names → Over n line
  is_over (right x) e = absurd (omega arith)
  is_over (over x) e = x
  is_over (no_name x) e = absurd (omega arith)
  is_over (long x) e = absurd (omega arith)

  pub is_no_name : {r : ℕ} → Verdict n line r → r ≡ not_name → NoName n line
  is_no_name (right x) e = absurd (omega arith)
  is_no_name (over x) e = absurd (omega arith)
  is_no_name (no_name x) e = x
  is_no_name (long x) e = absurd (omega arith)

  pub is_long : {r : ℕ} → Verdict n line r → r ≡ long_listed → Long n line
  is_long (right x) e = absurd (omega arith)
  is_long (over x) e = absurd (omega arith)
  is_long (no_name x) e = absurd (omega arith)
  is_long (long x) e = x

  pub one_verdict : {r q : ℕ} → Verdict n line r → Verdict n line q → r ≡ q
  one_verdict (right x) (right y) = refl
  one_verdict (right x) (over y) = absurd (omega (arith, x.few, y.over))
  one_verdict (right x) (no_name y) = absurd (y.wrong x.name)
  one_verdict (right x) (long y) = absurd (omega (arith, x.short, y.long))
  one_verdict (over x) (right y) = absurd (omega (arith, x.over, y.few))
  one_verdict (over x) (over y) = refl
  one_verdict (over x) (no_name y) = absurd (omega (arith, x.over, y.few))
  one_verdict (over x) (long y) = absurd (omega (arith, x.over, y.few))
  one_verdict (no_name x) (right y) = absurd (x.wrong y.name)
  one_verdict (no_name x) (over y) = absurd (omega (arith, x.few, y.over))
  one_verdict (no_name x) (no_name y) = refl
  one_verdict (no_name x) (long y) = absurd (x.wrong y.name)
  one_verdict (long x) (right y) = absurd (omega (arith, x.long, y.short))
  one_verdict (long x) (over y) = absurd (omega (arith, x.few, y.over))
  one_verdict (long x) (no_name y) = absurd (y.wrong x.name)
  one_verdict (long x) (long y) = refl
