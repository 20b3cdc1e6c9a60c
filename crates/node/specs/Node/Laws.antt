-- The laws of records (crate words, Records) for those of the waiting nodes.
--
--   whole             the shape is one that the laws of records speak of
--   room_is           the records take just the room that is needed (crate meaning, Limits)
--   get_is, put_is    a number read is a field read, a number written a field written
--   write_parts       the writes of one call together
--   nodes_length      how many records there are
--   nodes_same        bytes with the same records are the same
--
-- Assumes nothing.
use Rattle.std.specs.Prelude.{ℕ, zero, suc, ◌+◌, ◌*◌, ◌<◌, ◌≡◌, refl, List, length, get_or, set}
use Rattle.std.proofs.Common.{arith, sym, ◌∙◌}
use Rattle.std.proofs.Math.Path.{ap}
use Rattle.choice.specs.When.{when}
use Rattle.meaning.specs.Limits.{held_limit, waiting_record, nodes_needed}
use Rattle.engine.specs.Quick.{Waiting}
use Rattle.words.specs.Words.{words, Bytes}
use Rattle.words.specs.Records.{set_at, room, with_field, put_at, laid}
use Rattle.words.specs.Records.Laws as records
use Rattle.words.specs.Records.Laws.{Whole}
use Rattle.node.specs.Node.{waiting_of, field_of, shape, Queue, queue_in, node_at, wrote_in}

same_node : (r s : ℕ → ℕ) → r 0 ≡ s 0 → r 1 ≡ s 1 → r 2 ≡ s 2 → waiting_of r ≡ waiting_of s
same_node r s e₀ e₁ e₂ = cc

read : (r : ℕ → ℕ) (g : ℕ) → g < 3 → field_of g (waiting_of r) ≡ r g
read r zero h = refl
read r (suc zero) h = refl
read r (suc (suc zero)) h = refl
read r (suc (suc (suc g))) h = absurd (omega arith)

pub whole : Whole shape
whole =
    record {
      some = omega arith;
      fits = omega arith;
      made = λ r s e. same_node r s (e 0 (omega arith)) (e 1 (omega arith)) (e 2 (omega arith));
      read = read;
    }

room_is : room shape ≡ nodes_needed
unfolding nodes_needed waiting_record room
room_is = omega arith

pub nodes_length : (bs : List ℕ) → length (queue_in bs).list ≡ held_limit
unfolding queue_in
nodes_length bs = records.list_length shape whole bs

pub get_is :
    (bs : List ℕ) (i g r : ℕ) → i < held_limit → g < 3 → r ≡ get_or (words bs) (8 * i + g) 0 → r ≡ field_of g (node_at (queue_in bs) i)
unfolding queue_in
get_is bs i g r hi hg e = records.get_is shape whole bs i g r hi hg e

pub put_is :
    (bs bs' : List ℕ) (i g v : ℕ) → length bs ≡ nodes_needed → i < held_limit → g < 3 → words bs' ≡ set (words bs) (8 * i + g) v →
    queue_in bs' ≡ put_at shape i g v (queue_in bs)
unfolding queue_in
put_is bs bs' i g v long hi hg e = records.put_is shape whole bs bs' i g v (long ∙ sym room_is) hi hg e

module _ (bs : List ℕ) (i : ℕ) (h : i < held_limit) where
  abbrev N : Queue
  N = queue_in bs

  again : (w : Waiting) (g : Waiting → Waiting) (N₁ N₂ : Queue) → N₁ ≡ set_at i w N → N₂ ≡ set_at i (g (node_at N₁ i)) N₁ → N₂ ≡ set_at i (g w) N
  again = records.again shape whole i N (omega (arith, nodes_length bs))

  pub write_parts :
      (node level need : ℕ) (N₁ N₂ N₃ : Queue) → N₁ ≡ put_at shape i 0 node N → N₂ ≡ put_at shape i 1 level N₁ → N₃ ≡ put_at shape i 2 need N₂ →
      N₃ ≡ wrote_in i node level need N
  unfolding put_at wrote_in
  write_parts node level need N₁ N₂ N₃ e₁ e₂ e₃ =
      let s₂ = again _ (with_field shape 1 level) N₁ N₂ e₁ e₂ in
      again _ (with_field shape 2 need) N₂ N₃ s₂ e₃ ∙ ap (λ w. set_at i w N) (unfold when in refl)

pub nodes_long : (R : Queue) → length (laid shape R) ≡ nodes_needed
nodes_long R = records.laid_length shape whole R ∙ room_is

pub nodes_laid : (bs : List ℕ) → length bs ≡ nodes_needed → Bytes bs → laid shape (queue_in bs) ≡ bs
unfolding queue_in
nodes_laid bs e h = records.records_laid shape whole bs (e ∙ sym room_is) h

pub nodes_same :
    (bs cs : List ℕ) → length bs ≡ nodes_needed → length cs ≡ nodes_needed → Bytes bs → Bytes cs → queue_in bs ≡ queue_in cs → bs ≡ cs
unfolding queue_in
nodes_same bs cs e f = records.records_same shape whole bs cs (e ∙ sym room_is) (f ∙ sym room_is)
