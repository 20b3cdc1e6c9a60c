-- What a list that is taken gives an index, in plain numbers.
--
--   ready_words, ready_few, ready_short      196,602 words, at most 65,533 lines, each of at most 64 bytes
--   ready_room        the places have room
--   index_words_is    196,602
--
-- Assumes nothing.
use Rattle.std.specs.Prelude.{ℕ, ◌+◌, ◌*◌, ◌≤◌, ◌<◌, ◌≡◌, List, length}
use Rattle.std.proofs.Common.{arith}
use Rattle.xml.proofs.Bounds.Laws.{name_limit_is, list_limit_is}
use Rattle.listed.specs.Lines.{lines_of, line_at}
use Rattle.listed.specs.Words.Laws.{fine_exactly}
use Rattle.spelling.specs.Bucket.{buckets}
use Rattle.spelling.specs.Bucket.Laws.{buckets_is}
use Rattle.chains.specs.Index.{index_words, Ready}

pub index_words_is : index_words ≡ 196602
unfolding index_words
index_words_is = omega (arith, list_limit_is, buckets_is)

module _ {names x : List ℕ} (ready : Ready names x) where
  pub ready_words : 196602 ≤ length x
  ready_words = omega (arith, ready.room, index_words_is)

  pub ready_few : length (lines_of names) ≤ 65533
  ready_few = omega (arith, ((fine_exactly names).0 ready.taken).few, list_limit_is)

  pub ready_short : (k : ℕ) → k < length (lines_of names) → length (line_at (lines_of names) k) ≤ 64
  ready_short k l = omega (arith, ((fine_exactly names).0 ready.taken).short k l, name_limit_is)

  pub ready_room : buckets + 2 * length (lines_of names) ≤ length x
  ready_room = omega (arith, ready_words, ready_few, buckets_is)
