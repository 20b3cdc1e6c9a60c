-- Which steps ask for a name, told by buckets: a name belongs to the bucket that its remainder says, and a bucket says which step is compared with the
-- names that belong to it. So a name is compared with one step, or with all where several steps ask for names of its bucket.
--
--   Asking             what is kept for the name tests: how many steps there are, which are stars, the name that each other asks for, and for a name
--                      the place of the step that is compared with it; a place past the steps stands for all of them
--   compared A x t     step t is compared with the name x
--   finds A x t        the name x finds step t: a star, or a step that it is compared with and that asks for it;  quick A x: the steps that it finds
--   nobody             a test that no name of 4 bytes passes
--   test_of A t         the test of step t that `quick` goes by: nobody for a step that is not compared with its own name
--   stars_of T          the stars of the tests T
--   belongs w s n      the test n asks for a name of bucket s of w
--   added_to m t l      what a bucket says with step t before the steps for which it says l
--   bucket_from m w s t T      what bucket s of w says for the tests T of the steps from t on: the only step that asks for a name of it, m for several,
--                      0 for none
--   bucket m w T s     the same for all steps
--   filed m w t n B    the buckets B with step t added, which has the test n and comes before the steps that they know
--   place_by few n b    where the step stands that is compared, by what the bucket says: of few steps all are
--   asking few m w T   what is kept for the tests T
--
-- Assumes nothing. NOT here: that `quick` on what is kept for tests tells the steps that pass them (Asked.Laws).
use Rattle.std.specs.Prelude.{ℕ, suc, ◌%◌, Bool, not, ◌&&◌, ◌||◌, cond, List, [], ◌∷◌, eqb, ltb, length, get_or, set}
use Rattle.meaning.specs.Name.{star}
use Rattle.sets.specs.Set.{member, mask_of}

pub record Asking : Type 0 where
  pub size : ℕ
  pub stars : ℕ
  pub name : ℕ → ℕ
  pub place : ℕ → ℕ

unfoldable pub compared : Asking → ℕ → ℕ → Bool
compared A x t = eqb (A.place x) t || not (ltb (A.place x) A.size)

unfoldable pub finds : Asking → ℕ → ℕ → Bool
finds A x t = member A.stars t || (not (eqb x star) && (eqb (A.name t) x && compared A x t))

unfoldable pub quick : Asking → ℕ → ℕ
quick A x = mask_of A.size (finds A x)

abbrev pub nobody : ℕ
nobody = 4_294_967_296

unfoldable pub test_of : Asking → ℕ → ℕ
test_of A t = cond (member A.stars t) star (cond (not (eqb (A.name t) star) && compared A (A.name t) t) (A.name t) nobody)

abbrev pub stars_of : List ℕ → ℕ
stars_of T = mask_of (length T) (λ t. eqb (get_or T t 0) star)

abbrev pub belongs : ℕ → ℕ → ℕ → Bool
belongs w s n = not (eqb n star) && eqb (n % w) s

-- step t has been found to ask for a name of the bucket, and `later` is what the bucket says for the steps after it; a step after another is not step 0
abbrev pub added_to : ℕ → ℕ → ℕ → ℕ
added_to m t later = cond (eqb later 0) t m

unfoldable pub bucket_from : ℕ → ℕ → ℕ → ℕ → List ℕ → ℕ
bucket_from m w s t [] = 0
bucket_from m w s t (n ∷ ns) = cond (belongs w s n) (added_to m t (bucket_from m w s (suc t) ns)) (bucket_from m w s (suc t) ns)

abbrev pub bucket : ℕ → ℕ → List ℕ → ℕ → ℕ
bucket m w T s = bucket_from m w s 0 T

unfoldable pub filed : ℕ → ℕ → ℕ → ℕ → List ℕ → List ℕ
filed m w t n B = cond (eqb n star) B (set B (n % w) (added_to m t (get_or B (n % w) 0)))

abbrev pub place_by : ℕ → ℕ → ℕ → ℕ
place_by few n b = cond (ltb n few) n b

abbrev pub asking : ℕ → ℕ → ℕ → List ℕ → Asking
asking few m w T =
    record {
      size = length T;
      stars = stars_of T;
      name = λ t. get_or T t 0;
      place = λ x. place_by few (length T) (bucket m w T (x % w));
    }
