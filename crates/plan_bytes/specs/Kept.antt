-- What a session keeps of its query, as it stands in lent bytes: 72 numbers of 4 bytes.
--
--   plan_room            how many bytes it takes
--   few_steps            of fewer steps a name is compared with all
--   size_in bs           how many steps there are: 32 at most
--   name_in bs t         the name that step t asks for, in 2 bytes;  bucket_in bs s: what bucket s says, in one
--   asking_in bs         what the bytes keep for the name tests
--   kept_in bs           the plan that bytes stand for: any bytes stand for one. Its name tests are those by which its steps are found (test_of)
--   set_place which      which of the numbers is a set of steps;  set_of which P: that set of the plan P
--   slots l             the first 32 of l, 0 past its end;  slot l t: number t of them
--   pairs l, fours l    32 numbers of 2 bytes as 16 of 4;  64 of one byte as 16 of 4.  pair l i, four l i: number i of them
--   RowsOfCalls R i n ws ws'   ws' is ws with n numbers from place i on, those of some calls, R saying what a call may answer
--   packed_over p ws     the numbers ws with those of the plan p written over them;  packed p: over zeros
--
-- Assumes nothing. NOT here: that the plan of a query is read as it was packed (Kept.Packed, Kept.Planned).
pub mod Laws
pub mod Asked
pub mod Packed
pub mod Planned
use Rattle.std.specs.Prelude.{ℕ, ◌+◌, ◌*◌, ◌%◌, ◌<◌, ◌≡◌, List, [], ◌∷◌, get_or, replicate}
use Rattle.std.proofs.lemmas.List.Edits.{sets}
use Rattle.plan.specs.declared.Plan as struct
use Rattle.plan_bytes.specs.declared.Set.{Set}
use Rattle.plan_bytes.specs.declared.Set.TheVariants.{Deep, Main, Plain, First}
use Rattle.plan.specs.Plan.{Plan}
use Rattle.query.specs.Rules.{most_steps}
use Rattle.plan.specs.Asked.{Asking, test_of, place_by}
use Rattle.plan.specs.Planned.{size_of, bucket_count}
use Rattle.words.specs.Words.{word, words}
use Rattle.words.specs.Rows.{rows}

unfoldable pub plan_room : ℕ
plan_room = 4 * 72

abbrev pub few_steps : ℕ
few_steps = 4

abbrev pub size_in : List ℕ → ℕ
size_in bs = size_of (get_or (words bs) 0 0)

abbrev pub name_in : List ℕ → ℕ → ℕ
name_in bs t = get_or bs (32 + 2 * t) 0 + 256 * get_or bs (33 + 2 * t) 0

abbrev pub bucket_in : List ℕ → ℕ → ℕ
bucket_in bs s = get_or bs (96 + s) 0

unfoldable pub asking_in : List ℕ → Asking
asking_in bs =
    record {
      size = size_in bs;
      stars = get_or (words bs) 5 0;
      name = name_in bs;
      place = λ x. place_by few_steps (size_in bs) (bucket_in bs (x % bucket_count));
    }

unfoldable pub kept_in : List ℕ → Plan
kept_in bs =
    record {
      tests = rows (size_in bs) (test_of (asking_in bs));
      hung = rows (size_in bs) (λ t. get_or (words bs) (40 + t) 0);
      deep = get_or (words bs) 1 0;
      main = get_or (words bs) 2 0;
      plain = get_or (words bs) 3 0;
      first = get_or (words bs) 4 0;
    }

abbrev pub set_place : Set → ℕ
set_place Deep = 1
set_place Main = 2
set_place Plain = 3
set_place First = 4

abbrev pub set_of : Set → Plan → ℕ
set_of Deep P = P.deep
set_of Main P = P.main
set_of Plain P = P.plain
set_of First P = P.first

abbrev pub slot : List ℕ → ℕ → ℕ
slot l t = get_or l t 0

abbrev pub pair : List ℕ → ℕ → ℕ
pair l i = get_or l (2 * i) 0 + 65536 * get_or l (2 * i + 1) 0

abbrev pub four : List ℕ → ℕ → ℕ
four l i = word (get_or l (4 * i) 0) (get_or l (4 * i + 1) 0) (get_or l (4 * i + 2) 0) (get_or l (4 * i + 3) 0)

unfoldable pub slots : List ℕ → List ℕ
slots l = rows most_steps (slot l)

unfoldable pub pairs : List ℕ → List ℕ
pairs l = rows 16 (pair l)

unfoldable pub fours : List ℕ → List ℕ
fours l = rows 16 (four l)

-- the numbers are those that the calls answered, a call for each place
pub record RowsOfCalls (R : ℕ → ℕ → Type 0) (at n : ℕ) (ws ws' : List ℕ) : Type 0 where
  pub number : ℕ → ℕ
  pub written : ws' ≡ sets ws at (rows n number)
  pub answered : (i : ℕ) → i < n → R i (number i)

unfoldable pub packed_over : struct.Plan → List ℕ → List ℕ
packed_over p ws =
    sets
    (sets
    (sets (sets ws 0 (size_of p.size ∷ p.deep ∷ p.main ∷ p.plain ∷ p.first ∷ p.stars ∷ [])) 8 (pairs p.names))
    24 (fours p.buckets))
    40 (slots p.hung)

unfoldable pub packed : struct.Plan → List ℕ
packed p = packed_over p (words (replicate plan_room 0))
