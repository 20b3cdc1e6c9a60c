-- The answer to a list is what the words say.
--
--   fine_exactly        a list is fine exactly if it has at most 65,533 lines and each is a Name of at most 64 bytes
--   many_exactly        47 comes with line n exactly if that is the first line at fault, and over the limit
--   no_name_exactly     49 exactly if it is within the limit and no Name
--   long_exactly        48 exactly if it is within the limit and a Name of more than 64 bytes
--   many_line           47 comes with line 65,534 alone
--   one_of_these        there is no other answer;  no_refusal: and none without a refusal but that to a fine list
--
-- Assumes nothing.
use Rattle.std.specs.Prelude.{ℕ, zero, suc, ◌+◌, ◌≤◌, ◌<◌, ◌↔◌, ◌⊎◌, ◌≡◌, refl, eqb, length, drop}
use Rattle.std.proofs.Common.{arith, ap, ◌∙◌, drop-cons, eqb-true, eq-eqb, ne_eqb}
use Rattle.std.proofs.Math.Logic.{inl, inr}
use Rattle.std.proofs.Math.Path.{sym}
use mathlib.Core.List.{List, [], ◌∷◌}
use Rattle.std.proofs.Math.Seq.{drop-length}
use Rattle.std.proofs.lemmas.Bool.{eqb-false}
use Rattle.choice.specs.When.{when_true, when_false, when_known}
use Rattle.xml.specs.Bounds.{list_limit}
use Rattle.xml.specs.Refused.{many_names, long_listed, not_name}
use Rattle.listed.specs.Lines.{lines_of, line_at}
use Rattle.listed.specs.Listed.{Listing, fault_of, fine, refused, answer_from, list_answer}
use Rattle.listed.specs.Words.{Right, Over, NoName, Long, First, Fine}
use Rattle.listed.specs.Words.Verdict.{Verdict, right, over, no_name, long, judged, is_right, is_over, is_no_name, is_long, one_verdict}

-- the first line at fault, among lines of which the first is number m

record FirstFrom (m : ℕ) (ls : List (List ℕ)) (r n : ℕ) : Type 0 where
  before : ℕ
  number : n ≡ m + before
  there : before < length ls
  fault : fault_of n (line_at ls before) ≡ r
  earlier : (k : ℕ) → k < before → fault_of (m + k) (line_at ls k) ≡ 0

module _ (m : ℕ) (line : List ℕ) (ls : List (List ℕ)) where
  kept_first :
      (k : ℕ) → fault_of m line ≡ 0 → ((i : ℕ) → i < k → fault_of (suc m + i) (line_at ls i) ≡ 0) →
      (i : ℕ) → i < suc k → fault_of (m + i) (line_at (line ∷ ls) i) ≡ 0
  kept_first k e f zero l = ap (λ j. fault_of j line) (let z : m + 0 ≡ m = omega arith in z) ∙ e
  kept_first k e f (suc i) l = ap (λ j. fault_of j (line_at ls i)) (let z : m + suc i ≡ suc m + i = omega arith in z) ∙ f i (omega arith)

  later : (r n : ℕ) → fault_of m line ≡ 0 → FirstFrom (suc m) ls r n → FirstFrom m (line ∷ ls) r n
  later r n e f =
      record {
        before = suc f.before;
        number = omega (arith, f.number);
        there = omega (arith, f.there);
        fault = f.fault;
        earlier = kept_first f.before e f.earlier;
      }

  now_at : (r n : ℕ) → refused (fault_of m line) m ≡ refused r n → FirstFrom m (line ∷ ls) r n
  now_at r n e =
      let same : m ≡ n = ap (λ (a : Listing). a.line) e in
      record {
        before = 0;
        number = omega arith;
        there = omega arith;
        fault = ap (λ j. fault_of j line) (sym same) ∙ ap (λ (a : Listing). a.refusal) e;
        earlier = λ k l. absurd (omega arith);
      }

first_is : (m : ℕ) (ls : List (List ℕ)) (r n : ℕ) → 0 < r → answer_from m ls ≡ refused r n → FirstFrom m ls r n
unfolding answer_from
first_is m [] r n pos e = absurd (let z : 0 ≡ r = ap (λ (a : Listing). a.refusal) e in omega arith)
first_is m (line ∷ ls) r n pos e =
    when_known (λ a. a ≡ refused r n → FirstFrom m (line ∷ ls) r n) (eqb (fault_of m line) 0) _ _
    (λ kept g. later m line ls r n (eqb-true _ _ kept) (first_is (suc m) ls r n pos g))
    (λ broken g. now_at m line ls r n g)
    e

fine_is : (m : ℕ) (ls : List (List ℕ)) → answer_from m ls ≡ fine → (k : ℕ) → k < length ls → fault_of (m + k) (line_at ls k) ≡ 0
unfolding answer_from
fine_is m [] e = λ k l. absurd (omega arith)
fine_is m (line ∷ ls) e =
    when_known (λ a. a ≡ fine → (k : ℕ) → k < suc (length ls) → fault_of (m + k) (line_at (line ∷ ls) k) ≡ 0) (eqb (fault_of m line) 0) _ _
    (λ kept g. kept_first m line ls (length ls) (eqb-true _ _ kept) (fine_is (suc m) ls g))
    (λ broken g. absurd (eqb-false _ _ broken (ap (λ (a : Listing). a.refusal) g)))
    e

none_fine : (m : ℕ) (ls : List (List ℕ)) → (answer_from m ls).refusal ≡ 0 → answer_from m ls ≡ fine
unfolding answer_from
none_fine m [] e = refl
none_fine m (line ∷ ls) e =
    when_known (λ a. a.refusal ≡ 0 → a ≡ fine) (eqb (fault_of m line) 0) _ _ (λ kept. none_fine (suc m) ls) (λ broken z. absurd (eqb-false _ _ broken z)) e

-- the lines before the first at fault do not decide
passed :
    (m : ℕ) (ls : List (List ℕ)) (k : ℕ) → k ≤ length ls → ((i : ℕ) → i < k → fault_of (m + i) (line_at ls i) ≡ 0) →
    answer_from m ls ≡ answer_from (m + k) (drop k ls)
unfolding answer_from
passed m ls zero l f = ap (λ j. answer_from j ls) (let z : m ≡ m + 0 = omega arith in z)
passed m [] (suc k) l f = absurd (omega arith)
passed m (line ∷ ls) (suc k) l f =
    let here : fault_of m line ≡ 0 = ap (λ j. fault_of j line) (let z : m ≡ m + 0 = omega arith in z) ∙ f 0 (omega arith) in
    when_true _ _ _ (eq-eqb _ _ here)
    ∙ passed (suc m) ls k (omega arith)
    (λ i h. ap (λ j. fault_of j (line_at ls i)) (let z : suc m + i ≡ m + suc i = omega arith in z) ∙ f (suc i) (omega arith))
    ∙ ap (λ j. answer_from j (drop k ls)) (let z : suc m + k ≡ m + suc k = omega arith in z)

is_first : (m : ℕ) (ls : List (List ℕ)) (r n : ℕ) → 0 < r → FirstFrom m ls r n → answer_from m ls ≡ refused r n
unfolding answer_from
is_first m ls r n pos f =
    let k = f.before in
    passed m ls k (omega (arith, f.there)) f.earlier
    ∙ ap (λ j. answer_from j (drop k ls)) (sym f.number)
    ∙ ap (answer_from n) (drop-cons ls k [] f.there)
    ∙ when_false _ _ _ (ne_eqb (fault_of n (line_at ls k)) 0 (λ z. omega (arith, f.fault)))
    ∙ ap (λ q. refused q n) f.fault

is_fine : (m : ℕ) (ls : List (List ℕ)) → ((k : ℕ) → k < length ls → fault_of (m + k) (line_at ls k) ≡ 0) → answer_from m ls ≡ fine
unfolding answer_from
is_fine m ls f =
    passed m ls (length ls) (omega arith) f ∙ ap (answer_from (m + length ls)) (drop-length ls)

-- from lines to the list

right_exactly : (n : ℕ) (line : List ℕ) → (fault_of n line ≡ 0) ↔ Right n line
right_exactly n line = (is_right (judged n line), λ x. one_verdict (judged n line) (right x))

one_more : (k : ℕ) → 1 + k ≡ suc k
one_more k = omega arith

module _ (names : List ℕ) where
  from_first : (k : ℕ) → fault_of (1 + k) (line_at (lines_of names) k) ≡ 0 → Right (suc k) (line_at (lines_of names) k)
  from_first k e = (right_exactly (suc k) (line_at (lines_of names) k)).0 (ap (λ n. fault_of n (line_at (lines_of names) k)) (sym (one_more k)) ∙ e)

  to_first : (k : ℕ) → Right (suc k) (line_at (lines_of names) k) → fault_of (1 + k) (line_at (lines_of names) k) ≡ 0
  to_first k x = ap (λ n. fault_of n (line_at (lines_of names) k)) (one_more k) ∙ (right_exactly (suc k) (line_at (lines_of names) k)).1 x

  up_to : (n : ℕ) → ((k : ℕ) → k < n → Right (suc k) (line_at (lines_of names) k)) → n ≤ list_limit
  up_to zero f = omega arith
  up_to (suc k) f = (f k (omega arith)).few

  each_right : answer_from 1 (lines_of names) ≡ fine → (k : ℕ) → k < length (lines_of names) → Right (suc k) (line_at (lines_of names) k)
  each_right e k l = from_first k (fine_is 1 (lines_of names) e k l)

  pub fine_exactly : (list_answer names ≡ fine) ↔ Fine names
  unfolding list_answer
  fine_exactly = (
    λ e.
        record { few = up_to _ (each_right e); each = λ k l. (each_right e k l).name; short = λ k l. (each_right e k l).short },
    λ f. is_fine 1 (lines_of names) (λ k l. to_first k (record { few = omega (arith, f.few); name = f.each k l; short = f.short k l })),
  )

  module _ (Fault : ℕ → List ℕ → Type 0) (r : ℕ) (some : 0 < r) (exactly : (n : ℕ) (line : List ℕ) → (fault_of n line ≡ r) ↔ Fault n line) where
    first_exactly : (n : ℕ) → (list_answer names ≡ refused r n) ↔ First Fault names n
    unfolding list_answer
    first_exactly n = (
      λ e. let f = first_is 1 (lines_of names) r n some e in
          record {
            before = f.before;
            number = f.number ∙ one_more f.before;
            there = f.there;
            fault = (exactly n _).0 f.fault;
            earlier = λ k l. from_first k (f.earlier k l);
          },
      λ f. is_first 1 (lines_of names) r n some
          (record {
            before = f.before;
            number = f.number ∙ sym (one_more f.before);
            there = f.there;
            fault = (exactly n _).1 f.fault;
            earlier = λ k l. to_first k (f.earlier k l);
          }),
    )

  pub many_exactly : (n : ℕ) → (list_answer names ≡ refused many_names n) ↔ First Over names n
  many_exactly = first_exactly Over many_names (omega arith) (λ n line. (is_over (judged n line), λ x. one_verdict (judged n line) (over x)))

  pub no_name_exactly : (n : ℕ) → (list_answer names ≡ refused not_name n) ↔ First NoName names n
  no_name_exactly = first_exactly NoName not_name (omega arith) (λ n line. (is_no_name (judged n line), λ x. one_verdict (judged n line) (no_name x)))

  pub long_exactly : (n : ℕ) → (list_answer names ≡ refused long_listed n) ↔ First Long names n
  long_exactly = first_exactly Long long_listed (omega arith) (λ n line. (is_long (judged n line), λ x. one_verdict (judged n line) (long x)))

  pub many_line : (n : ℕ) → list_answer names ≡ refused many_names n → n ≡ suc list_limit
  many_line n e =
      let f = (many_exactly n).0 e in
      omega (arith, f.number, f.fault.over, up_to f.before f.earlier)

  pub no_refusal : (list_answer names).refusal ≡ 0 → list_answer names ≡ fine
  unfolding list_answer
  no_refusal e = none_fine 1 (lines_of names) e

  pub one_of_these : (r n : ℕ) → 0 < r → list_answer names ≡ refused r n → (r ≡ many_names) ⊎ ((r ≡ not_name) ⊎ (r ≡ long_listed))
  unfolding list_answer
  one_of_these r n some e = let f = first_is 1 (lines_of names) r n some e in go (judged n _) f.fault
    where
      go : {line : List ℕ} {q : ℕ} → Verdict n line q → q ≡ r → (r ≡ many_names) ⊎ ((r ≡ not_name) ⊎ (r ≡ long_listed))
      go (right x) z = absurd (omega arith)
      go (over x) z = inl (sym z)
      go (no_name x) z = inr (inl (sym z))
      go (long x) z = inr (inr (sym z))
