-- The three answers of a build, over plain lists.
--
--   answer_scant      too few words: nothing is written
--   answer_refused    a list at fault: nothing is written;  refusal_told: the same by the refusal;  answer_passed: as `?` passes it on
--   answer_built      a list that is taken: the index is built;  none_told: the same where there is no fault;  answer_ready: it may be
--
-- Assumes nothing.
use Prim.Native.Nat.{ℕ, ◌≤◌, ◌<◌}
use native.Mathlib.Omega.{arith}
use mathlib.Core.Path.{◌≡◌, refl, sym, ap, ◌∙◌}
use mathlib.Core.Bool.{false}
use mathlib.Core.List.{List}
use lib.Dec.{ltb}
use lib.ListN.{length}
use borrow.Author.Tests.{eq-eqb, ne_eqb, lt-ltb, le-ltb}
use Rattle.choice.specs.When.{when_yes, when_no}
use Rattle.xml.specs.Refused.{scant}
use Rattle.std.specs.Prelude.{Result, Ok, Err}
use Rattle.std.specs.Result.{IsErrAnd}
use Rattle.limits.specs.Number.{text_number}
use Rattle.listed.specs.declared.ListFault.{ListFault}
use Rattle.listed.specs.Answer.{listing}
use Rattle.limits.specs.Number.Laws.{some_text}
use Rattle.limits.specs.declared.TextRefusal.{TextRefusal}
use Rattle.listed.specs.Listed.{Listing, fine, refused, list_answer}
use Rattle.chains.specs.Index.{index_words, built, Ready}
use Rattle.chains.proofs.Index.Room.{index_words_is}
use Rattle.names.specs.Answer.{build_answer, index_after, BuildGives}

module _ (names x : List ℕ) where
  pub answer_scant : length x < 196602 → BuildGives names x x (refused scant 0)
  unfolding build_answer index_after
  answer_scant short =
      let few = lt-ltb (length x) index_words (omega (arith, index_words_is)) in
      record { answer = when_yes _ _ _ _ few refl; words = when_yes _ _ _ _ few refl }

  module _ (y : List ℕ) (r : Listing) (enough : 196602 ≤ length x) (told : r ≡ list_answer names) where
    room : ltb (length x) index_words ≡ false
    room = le-ltb (length x) index_words (omega (arith, index_words_is))

    pub answer_refused : (r.refusal ≡ 0 → ⊥) → y ≡ x → BuildGives names x y r
    unfolding build_answer index_after
    answer_refused wrong kept =
        record {
          answer = when_no _ _ _ _ room told;
          words = when_no _ _ _ _ room (when_no _ _ _ _ (ne_eqb _ _ (λ z. wrong (ap (λ (a : Listing). a.refusal) told ∙ z))) kept);
        }

    pub answer_built : r.refusal ≡ 0 → y ≡ built names x → BuildGives names x y r
    unfolding build_answer index_after
    answer_built right made =
        record {
          answer = when_no _ _ _ _ room told;
          words = when_no _ _ _ _ room (when_yes _ _ _ _ (eq-eqb _ _ (sym (ap (λ (a : Listing). a.refusal) told) ∙ right)) made);
        }

  -- the same of the results of the code
  module _ (enough : 196602 ≤ length x) where
    pub refusal_told : (r : TextRefusal) (n : ℕ) → refused (text_number r) n ≡ list_answer names → BuildGives names x x (refused (text_number r) n)
    refusal_told r n told = answer_refused x (refused (text_number r) n) enough told (λ z. omega (arith, some_text r)) refl

    -- the same as `?` passes it on
    pub answer_passed :
        {A : Type 0} (r : Result A ListFault) (f : ListFault) → IsErrAnd r (λ g. g ≡ f) → refused (text_number f.refusal) f.line ≡ list_answer names →
        BuildGives names x x (listing r)
    answer_passed (Ok a) f h told = absurd h
    answer_passed (Err g) f h told = refusal_told g.refusal g.line (ap (λ (e : ListFault). refused (text_number e.refusal) e.line) h ∙ told)

    pub none_told : (y : List ℕ) → fine ≡ list_answer names → y ≡ built names x → BuildGives names x y fine
    none_told y told made = answer_built y fine enough told refl made

    pub answer_ready : fine ≡ list_answer names → Ready names x
    answer_ready told = record { taken = sym told; room = omega (arith, index_words_is) }
