-- The steps whose tests a name passes, told from what bytes keep for the name tests. For any bytes.
--
--   named_quick      by the plan that the bytes stand for they are those that buckets tell
--   told_none        for no name: the stars
--   told_few         of few steps: the stars, and those that ask for the name
--   told_one         where its bucket says a step's place: the stars, and that step if it asks for the name
--   told_all         where it says no step's place: as of few
--
-- Assumes a name of 4 bytes.
use Rattle.std.specs.Prelude.{ℕ, ◌%◌, ◌≤◌, ◌<◌, ◌≡◌, Bool, cond, List, eqb, length, get_or}
use Rattle.std.proofs.Common.{arith, sym, ◌∙◌, lt-ltb, le-ltb}
use Rattle.std.proofs.Math.Path.{ap, ap₂}
use Rattle.meaning.specs.Name.{star, passes}
use Rattle.sets.specs.Set.{member, join, only_if, mask_of}
use Rattle.sets.proofs.Set.Of.{mask_of_agree}
use Rattle.plan.specs.Asked.{Asking, quick, nobody, test_of, place_by}
use Rattle.plan.proofs.Asked.Laws.{quick_tests, quick_none, quick_one, quick_all}
use Rattle.plan.specs.Plan.{named}
use Rattle.plan.specs.Planned.{bucket_count}
use Rattle.words.specs.Rows.{rows_length, rows_at}
use Rattle.plan_bytes.specs.Kept.{few_steps, size_in, bucket_in, asking_in, kept_in}
use Rattle.plan_bytes.specs.Kept.Laws.{asked_size}

module _ (bs : List ℕ) (x : ℕ) (small : x < nobody) where
  abbrev A : Asking
  A = asking_in bs

  named_quick : quick A x ≡ named (kept_in bs) x
  unfolding named kept_in asking_in
  named_quick =
      quick_tests A x small
      ∙ mask_of_agree (size_in bs) _ _ (λ t l. ap (λ n. passes n x) (sym (rows_at (size_in bs) (test_of A) 0 t l)))
      ∙ ap (λ n. mask_of n (λ t. passes (get_or (kept_in bs).tests t 0) x)) (sym (rows_length (size_in bs) (test_of A)))

  abbrev asks : ℕ → Bool
  asks t = eqb (A.name t) x

  -- by what is read: how many steps there are, the stars, and what the bucket of the name says
  module _ (size stars said : ℕ) (es : size ≡ length (kept_in bs).tests) (em : stars ≡ mask_of A.size (member A.stars))
      (eb : said ≡ bucket_in bs (x % bucket_count)) where
    size_is : size ≡ A.size
    size_is = es ∙ asked_size bs

    place_is : A.place x ≡ place_by few_steps size said
    unfolding asking_in
    place_is = ap₂ (place_by few_steps) (sym size_is) (sym eb)

    -- every step is compared
    all_told : (set : ℕ) → (x ≡ star → ⊥) → size ≤ place_by few_steps size said → set ≡ mask_of size asks → join stars set ≡ named (kept_in bs) x
    all_told set f h e =
        ap₂ join em (e ∙ ap (λ n. mask_of n asks) size_is) ∙ sym (quick_all A x f (omega (arith, size_is, place_is))) ∙ named_quick

    pub told_none : x ≡ star → stars ≡ named (kept_in bs) x
    told_none e = em ∙ sym (quick_none A x e) ∙ named_quick

    pub told_few : (set : ℕ) → (x ≡ star → ⊥) → size < few_steps → set ≡ mask_of size asks → join stars set ≡ named (kept_in bs) x
    told_few set f h = all_told set f (omega (arith, ap (λ b. cond b size said) (lt-ltb size few_steps h)))

    module _ (set : ℕ) (f : x ≡ star → ⊥) (many : few_steps ≤ size) where
      by_bucket : place_by few_steps size said ≡ said
      by_bucket = ap (λ b. cond b size said) (le-ltb size few_steps many)

      pub told_one : said < size → set ≡ only_if (asks said) said → join stars set ≡ named (kept_in bs) x
      told_one h e =
          let here : said ≡ A.place x = sym by_bucket ∙ sym place_is in
          ap₂ join em (e ∙ ap (λ p. only_if (asks p) p) here) ∙ sym (quick_one A x f (omega (arith, here, size_is))) ∙ named_quick

      pub told_all : size ≤ said → set ≡ mask_of size asks → join stars set ≡ named (kept_in bs) x
      told_all h = all_told set f (omega (arith, by_bucket))
