-- What a build gives, in words.
--
--   build_finds       after a build without a refusal the number of every word is its first place in the list, or 65,534
--   build_keeps       a build with a refusal has written nothing
--   build_length      there are as many words as before;  build_past: those behind the last place are as they were
--   scant_exactly     45 comes exactly if there are fewer words than an index has;  list_refused: else the answer is that to the list
--   build_one         there is one answer, and one index
--   scant_told, build_listed_one, both of the record that an answer stands for
--
-- Assumes nothing.
use Rattle.std.specs.Prelude.{ℕ, ◌+◌, ◌*◌, ◌≤◌, ◌<◌, ◌↔◌, ◌⊎◌, ◌≡◌, refl, Bool, true, false, List, eqb, ltb, drop, Result, Err}
use Rattle.std.proofs.Common.{arith, inl, inr, sym, ◌∙◌, eq-eqb, ne_eqb, eqb-true, lt-ltb, le-ltb, ltb-true, ltb-false}
use Rattle.std.proofs.Math.Path.{ap}
use Rattle.std.proofs.Math.ListN.{length}
use Rattle.std.proofs.lemmas.Bool.{eqb-false}
use Rattle.choice.specs.When.{when_true, when_false}
use Rattle.limits.specs.declared.TextRefusal.TheVariants.{Scant}
use Rattle.xml.specs.Refused.{scant, many_names, long_listed, not_name}
use Rattle.listed.specs.Lines.{lines_of}
use Rattle.listed.specs.Listed.{Listing, refused, list_answer}
use Rattle.listed.specs.Words.Laws.{no_refusal, one_of_these}
use Rattle.listed.specs.declared.ListFault.{ListFault}
use Rattle.listed.specs.Answer.{listing}
use Rattle.listed.proofs.Answer.{listing_one}
use Rattle.spelling.specs.Bucket.{buckets}
use Rattle.chains.specs.Index.{index_words, built, Ready}
use Rattle.chains.proofs.Index.Parts.{partly_length, partly_past}
use Rattle.chains.proofs.Index.Room.{ready_room}
use Rattle.names.specs.Answer.{build_answer, index_after, BuildGives}
use Rattle.names.specs.Number.{number_of}
use Rattle.names.specs.First.{first_place}
use Rattle.names.proofs.Found.{number_first}

-- too few words, or enough
by_room : {P : Type 0} (x : List ℕ) → (length x < index_words → P) → (index_words ≤ length x → P) → P
by_room {P} x short enough = go (ltb (length x) index_words) refl
  where
    go : (t : Bool) → ltb (length x) index_words ≡ t → P
    go true e = short (ltb-true _ _ e)
    go false e = enough (ltb-false _ _ e)

module _ (names x y : List ℕ) (r : Listing) (gives : BuildGives names x y r) where
  scant_answer : length x < index_words → r ≡ refused scant 0
  unfolding build_answer
  scant_answer short = gives.answer ∙ when_true _ _ _ (lt-ltb _ _ short)

  scant_words : length x < index_words → y ≡ x
  unfolding index_after
  scant_words short = gives.words ∙ when_true _ _ _ (lt-ltb _ _ short)

  pub list_refused : index_words ≤ length x → r ≡ list_answer names
  unfolding build_answer
  list_refused enough = gives.answer ∙ when_false _ _ _ (le-ltb _ _ enough)

  module _ (enough : index_words ≤ length x) where
    same_refusal : (list_answer names).refusal ≡ r.refusal
    same_refusal = ap (λ (a : Listing). a.refusal) (sym (list_refused enough))

    refused_words : (r.refusal ≡ 0 → ⊥) → y ≡ x
    unfolding index_after
    refused_words wrong =
        gives.words ∙ when_false _ _ _ (le-ltb _ _ enough) ∙ when_false _ _ _ (ne_eqb _ _ (λ z. wrong (sym same_refusal ∙ z)))

    built_words : r.refusal ≡ 0 → y ≡ built names x
    unfolding index_after
    built_words right = gives.words ∙ when_false _ _ _ (le-ltb _ _ enough) ∙ when_true _ _ _ (eq-eqb _ _ (same_refusal ∙ right))

    enough_ready : r.refusal ≡ 0 → Ready names x
    enough_ready right = record { taken = no_refusal names (same_refusal ∙ right); room = enough }

  pub build_keeps : (r.refusal ≡ 0 → ⊥) → y ≡ x
  build_keeps wrong = by_room x scant_words (λ enough. refused_words enough wrong)

  not_scant : r.refusal ≡ 0 → index_words ≤ length x
  not_scant right =
      by_room x (λ short. absurd (let z : scant ≡ 0 = sym (ap (λ (a : Listing). a.refusal) (scant_answer short)) ∙ right in omega arith)) (λ enough. enough)

  module _ (right : r.refusal ≡ 0) where
    ready : Ready names x
    ready = enough_ready (not_scant right) right

    made : y ≡ built names x
    made = built_words (not_scant right) right

    -- "A name's number is its first place in the list of names, counted from 1, and 65,534 for a name that the list has not."
    pub build_finds : (w : List ℕ) → number_of names y w ≡ first_place (lines_of names) w
    build_finds w = ap (λ t. number_of names t w) made ∙ number_first names x w ready

    pub build_past : drop (buckets + 2 * length (lines_of names)) y ≡ drop (buckets + 2 * length (lines_of names)) x
    unfolding built
    build_past = ap (drop (buckets + 2 * length (lines_of names))) made ∙ partly_past (lines_of names) x 0

    made_length : length y ≡ length x
    unfolding built
    made_length = ap length made ∙ partly_length (lines_of names) x 0 (ready_room ready)

  pub build_length : length y ≡ length x
  build_length = go (eqb r.refusal 0) refl
    where
      go : (t : Bool) → eqb r.refusal 0 ≡ t → length y ≡ length x
      go true e = made_length (eqb-true _ _ e)
      go false e = ap length (build_keeps (eqb-false _ _ e))

  pub scant_told : (r ≡ refused scant 0) ↔ (length x < index_words)
  scant_told = (
    λ e. by_room x (λ short. short) (λ enough. absurd (other (one_of_these names scant 0 (omega arith) (sym (list_refused enough) ∙ e)))),
    scant_answer,
  )
    where
      other : (scant ≡ many_names) ⊎ ((scant ≡ not_name) ⊎ (scant ≡ long_listed)) → ⊥
      other (inl z) = omega arith
      other (inr (inl z)) = omega arith
      other (inr (inr z)) = omega arith

pub build_listed_one :
    (names x y z : List ℕ) (r q : Listing) → BuildGives names x y r → BuildGives names x z q → (r ≡ q) × (y ≡ z)
build_listed_one names x y z r q g h = (g.answer ∙ sym h.answer, g.words ∙ sym h.words)

-- the same of the results of the code
pub scant_exactly :
    (names x y : List ℕ) (r : Result (Unit {0}) ListFault) → BuildGives names x y (listing r) →
    (r ≡ Err (record { refusal = Scant; line = 0 })) ↔ (length x < index_words)
scant_exactly names x y r g =
    let told = scant_told names x y (listing r) g in
    (λ e. told.0 (ap listing e), λ short. listing_one r (Err (record { refusal = Scant; line = 0 })) (told.1 short))

pub build_one :
    (names x y z : List ℕ) (r q : Result (Unit {0}) ListFault) → BuildGives names x y (listing r) → BuildGives names x z (listing q) → (r ≡ q) × (y ≡ z)
build_one names x y z r q g h =
    let one = build_listed_one names x y z (listing r) (listing q) g h in
    (listing_one r q one.0, one.1)
