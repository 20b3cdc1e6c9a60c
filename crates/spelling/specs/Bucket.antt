-- The bucket of a spelling: its bytes four at a time, each mixed into those before it. Any function of the bytes would do; this one spreads names well.
--
--   four_at w i          the number of the four bytes of w from i on, 0 for each that w has not
--   mixed h x           x mixed into h;  mix_limit: what is mixed is below it
--   mixed_from w n i h   n times four bytes of w, from i on, mixed into h
--   settled h           the bucket that is made of what is mixed
--   bucket_of w          the bucket: its fours from the front as long as more than four bytes are left, then its last four
--   buckets             how many buckets there are
--
-- Assumes nothing. NOT here: one turn of the loop (Bucket.Laws).
pub mod Laws
use Rattle.std.specs.Prelude.{ℕ, zero, suc, ◌+◌, ◌-◌, ◌*◌, ◌/◌, ◌%◌, List, length, get_or}
use Rattle.words.specs.Words.{word}

abbrev pub four_at : List ℕ → ℕ → ℕ
four_at w i = word (get_or w i 0) (get_or w (i + 1) 0) (get_or w (i + 2) 0) (get_or w (i + 3) 0)

unfoldable pub mixed : ℕ → ℕ → ℕ
mixed h x = (h + x) % 4294967296 * 2654435769 / 65536

abbrev pub mix_limit : ℕ
mix_limit = 281474976710656

unfoldable pub mixed_from : List ℕ → ℕ → ℕ → ℕ → ℕ
mixed_from w zero i h = h
mixed_from w (suc n) i h = mixed_from w n (i + 4) (mixed h (four_at w i))

unfoldable pub buckets : ℕ
buckets = 65536

unfoldable pub settled : ℕ → ℕ
settled h = h / 256 % 65536

unfoldable pub bucket_of : List ℕ → ℕ
bucket_of w = settled (mixed (mixed_from w ((length w - 1) / 4) 0 0) (four_at w (length w - 4)))
