-- What is written as list records is read again.
--
--   sets_four           four bytes written one after the other, as one run
--   one_run             bytes that were copied to a place are written there
--   length_records      a list record has 4 bytes;  records_append: records end to end
--   length_nodes        k list records are k nodes
--   nodes_in_append      nodes that were written as list records are read as the nodes, and then those of the records behind them
--   nodes_in_records_of   the same where no more are read
--   buffer_none, buffer_snoc      no record at the start of the buffer; one record more
--   buffer_length       the buffer is as long as it was
--
-- Assumes nothing.
use borrow.Rule.Slice.PartMut.{put_mid, Post-is}
use Prim.Native.Nat.{ℕ, zero, suc, ◌+◌, ◌-◌, ◌*◌, ◌/◌, ◌%◌, ◌≤◌, ◌<◌}
use Rattle.std.proofs.Common.{zero-add, add-zero, suc-add, add-one, arith, ◌∙◌, append-nil, append_assoc, take_at, drop_at}
use Rattle.std.proofs.Math.Nat.{div-div-eq-div-mul}
use Rattle.std.specs.Prelude.{◌≡◌, List, [], ◌∷◌, ◌++◌, get_or, set, take}
use Rattle.std.proofs.Math.Path.{refl, sym, ap, ap₂}
use Rattle.std.proofs.Math.ListN.{length, drop, length-append, length-drop}
use Rattle.std.proofs.lemmas.List.Edits.{sets}
use Rattle.std.proofs.Math.Seq.{sets-eq, drop-drop}
use Rattle.choice.specs.Count.{add_two, add_three}
use Rattle.records.specs.Write.{node_bytes, records_of, node_at, nodes_in, buffer}

pub sets_four :
    (l : List ℕ) (at a b c d : ℕ) → set (set (set (set l at a) (at + 1) b) (at + 2) c) (at + 3) d ≡ sets l at (a ∷ b ∷ c ∷ d ∷ [])
sets_four l at a b c d = rw (add-one at, add_two at, add_three at)

pub one_run :
    (l vs ys : List ℕ) (at : ℕ) → ys ≡ vs → at + length vs ≤ length l → put_mid at (at + length vs - at) l ys ≡ sets l at vs
one_run l vs ys at same fits =
    ap₂ (λ x y. take at l ++ (x ++ y)) same (Post-is at (at + length vs) l (omega arith))
    ∙ sym (append_assoc (take at l) vs (drop (at + length vs) l)) ∙ sym (sets-eq vs l at fits)

pub length_records : (ns : List ℕ) → length (records_of ns) ≡ 4 * length ns
unfolding records_of
length_records [] = refl
length_records (n ∷ ns) = omega (arith, length-append (node_bytes n) (records_of ns), length_records ns)

pub records_append : (ns ms : List ℕ) → records_of (ns ++ ms) ≡ records_of ns ++ records_of ms
unfolding records_of
records_append [] ms = refl
records_append (n ∷ ns) ms = ap (λ l. node_bytes n ++ l) (records_append ns ms) ∙ sym (append_assoc (node_bytes n) (records_of ns) (records_of ms))

pub length_nodes : (k : ℕ) (bs : List ℕ) → length (nodes_in k bs) ≡ k
unfolding nodes_in
length_nodes zero bs = refl
length_nodes (suc k) bs = omega (arith, length-append (nodes_in k bs) (node_at bs k ∷ []), length_nodes k bs)

-- a node has four bytes
abbrev pub Nodes : List ℕ → Type 0
Nodes ns = (i : ℕ) → get_or ns i 0 < 4294967296

-- a number under 2 ^ 32 is its four bytes
byte_by_byte : (n q r s : ℕ) → n / 256 ≡ q → q / 256 ≡ r → r / 256 ≡ s → s < 256 → s % 256 * 16777216 + r % 256 * 65536 + q % 256 * 256 + n % 256 ≡ n
byte_by_byte n q r s e f g h = omega arith

four_bytes : (n : ℕ) → n < 4294967296 → n / 16777216 % 256 * 16777216 + n / 65536 % 256 * 65536 + n / 256 % 256 * 256 + n % 256 ≡ n
four_bytes n h = byte_by_byte n (n / 256) (n / 65536) (n / 16777216) refl (div-div-eq-div-mul n 256 256) (div-div-eq-div-mul n 65536 256) (omega arith)

-- the first node, and then those of the records behind it
module _ (a b c d : ℕ) (bs : List ℕ) where
  behind : (i j : ℕ) → i ≡ suc (suc (suc (suc j))) → get_or (a ∷ b ∷ c ∷ d ∷ bs) i 0 ≡ get_or bs j 0
  behind i j e = ap (λ k. get_or (a ∷ b ∷ c ∷ d ∷ bs) k 0) e

  node_at_behind : (k : ℕ) → node_at (a ∷ b ∷ c ∷ d ∷ bs) (suc k) ≡ node_at bs k
  node_at_behind k =
      rw (
        behind (4 * suc k) (4 * k) (omega arith),
        behind (4 * suc k + 1) (4 * k + 1) (omega arith),
        behind (4 * suc k + 2) (4 * k + 2) (omega arith),
        behind (4 * suc k + 3) (4 * k + 3) (omega arith),
      )

  nodes_in_cons : (k : ℕ) → nodes_in (suc k) (a ∷ b ∷ c ∷ d ∷ bs) ≡ (a * 16777216 + b * 65536 + c * 256 + d) ∷ nodes_in k bs
  unfolding nodes_in
  nodes_in_cons zero = refl
  nodes_in_cons (suc k) = rw (nodes_in_cons k, node_at_behind k)

pub nodes_in_append : (ns rest : List ℕ) (k : ℕ) → Nodes ns → nodes_in (length ns + k) (records_of ns ++ rest) ≡ ns ++ nodes_in k rest
unfolding records_of
nodes_in_append [] rest k h = ap (λ m. nodes_in m rest) (zero-add k)
nodes_in_append (n ∷ ns) rest k h =
    ap (λ m. nodes_in m (records_of (n ∷ ns) ++ rest)) (suc-add (length ns) k)
    ∙ nodes_in_cons (n / 16777216 % 256) (n / 65536 % 256) (n / 256 % 256) (n % 256) (records_of ns ++ rest) (length ns + k)
    ∙ ap₂ ◌∷◌ (four_bytes n (h 0)) (nodes_in_append ns rest k (λ i. h (suc i)))

pub nodes_in_records_of : (ns rest : List ℕ) → Nodes ns → nodes_in (length ns) (records_of ns ++ rest) ≡ ns
unfolding nodes_in
nodes_in_records_of ns rest h =
    ap (λ m. nodes_in m (records_of ns ++ rest)) (sym (add-zero (length ns))) ∙ nodes_in_append ns rest 0 h ∙ append-nil ns

pub buffer_none : (out : List ℕ) → buffer [] out ≡ out
unfolding buffer records_of
buffer_none out = refl

module _ (ns : List ℕ) (n : ℕ) (out : List ℕ) where
  records_snoc : records_of (ns ++ (n ∷ [])) ≡ records_of ns ++ node_bytes n
  unfolding records_of
  records_snoc = records_append ns (n ∷ [])

  pub buffer_snoc : 4 * length ns + 4 ≤ length out → sets (buffer ns out) (4 * length ns) (node_bytes n) ≡ buffer (ns ++ (n ∷ [])) out
  unfolding buffer
  buffer_snoc h =
      let k : ℕ = 4 * length ns in
      let d : length (drop k out) ≡ length out - k = length-drop k out in
      let l : length (records_of ns ++ drop k out) ≡ length (records_of ns) + length (drop k out) = length-append (records_of ns) (drop k out) in
      let r : length (records_of ns) ≡ k = length_records ns in
      let e : 4 * length (ns ++ (n ∷ [])) ≡ k + 4 = omega (arith, length-append ns (n ∷ [])) in
      sets-eq (node_bytes n) (records_of ns ++ drop k out) k (omega arith)
      ∙ ap₂ (λ x y. x ++ node_bytes n ++ y)
      (take_at (records_of ns) _ k r)
      (sym (drop-drop 4 k _) ∙ ap (drop 4) (drop_at (records_of ns) _ k r) ∙ drop-drop 4 k out)
      ∙ sym (ap₂ (λ x y. x ++ drop y out) records_snoc e)

pub buffer_length : (ns out : List ℕ) → 4 * length ns ≤ length out → length (buffer ns out) ≡ length out
unfolding buffer
buffer_length ns out h =
    omega (arith, length-append (records_of ns) (drop (4 * length ns) out), length_records ns, length-drop (4 * length ns) out)
