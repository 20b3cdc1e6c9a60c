-- What is unread, and what a feed takes of it.
--
--   unread_long          how many bytes are unread
--   unread_on            what is unread after some more bytes were taken
--   taken_within         a feed takes no more than it is given
--   lent_enough          what is lent is not too little
--
-- Assumes nothing.
use Rattle.std.specs.Prelude.{ℕ, zero, suc, ◌+◌, ◌-◌, ◌≤◌, ◌≡◌, false, List, [], ◌∷◌, take, drop}
use Rattle.std.proofs.Math.Nat.{sub-zero}
use Rattle.std.proofs.Common.{arith, sym, ap, ap₂, ◌∙◌, length-drop, length-take-le, drop-drop, le-ltb}
use Rattle.std.proofs.Math.Path.{subst}
use Rattle.std.proofs.Math.ListN.{length}
use Rattle.std.proofs.Math.Seq.{take-nil}
use Rattle.choice.specs.When.{when_false, when_either}
use Rattle.modes.specs.declared.Reader.{Reader}
use Rattle.slots.specs.Slots.{room_needed}
use Rattle.chains.specs.Index.{index_words}
use Rattle.reader.specs.Fed.{read_for, begun_with, read_on}
use Rattle.reader.specs.Feed.{Came, too_scant, feed_answer}
use Rattle.text_right.specs.Marked.{table_is}
use Rattle.reader_right.proofs.Reached.{read_within}
use Rattle.intake.specs.declared.Intake.{Intake}
use Rattle.intake.specs.Intake.{unread_text, WithinText}

pub unread_long : (i : Intake) (input : List ℕ) → WithinText i (length input) → length (unread_text i input) ≡ i.end - i.from
unread_long i input w = length-take-le (i.end - i.from) (drop i.from input) (omega (arith, length-drop i.from input, w.inside))

pub drop_take : (k n : ℕ) (l : List ℕ) → drop k (take n l) ≡ take (n - k) (drop k l)
drop_take zero n l = ap (λ (m : ℕ). take m l) (sym (sub-zero n))
drop_take (suc k) zero l = let z : 0 - suc k ≡ 0 = omega arith in ap (λ (m : ℕ). take m (drop (suc k) l)) (sym z)
drop_take (suc k) (suc n) [] = sym (take-nil (suc n - suc k))
drop_take (suc k) (suc n) (x ∷ l) =
    let m : n - k ≡ suc n - suc k = omega arith in drop_take k n l ∙ ap (λ (i : ℕ). take i (drop k l)) m

pub unread_on : (a e k : ℕ) (input : List ℕ) → take (e - (a + k)) (drop (a + k) input) ≡ drop k (take (e - a) (drop a input))
unread_on a e k input =
    let n : e - (a + k) ≡ e - a - k = omega arith in
    ap₂ (λ (m : ℕ) (x : List ℕ). take m x) n (sym (drop-drop k a input)) ∙ sym (drop_take k (e - a) (drop a input))

module _ (N X u : List ℕ) (r : Reader) (R out : List ℕ) where
  read_on_within : (read_on N X u r (take room_needed R) out).at ≤ length u
  unfolding read_on
  read_on_within =
      subst (λ M. (read_for (suc (length u)) N X M u (begun_with r (take room_needed R) out)).at ≤ length u) table_is
      (read_within N X u (suc (length u)) (begun_with r (take room_needed R) out) (omega arith))

  pub taken_within : (feed_answer N X u r R out).taken ≤ length u
  unfolding feed_answer
  taken_within =
      when_either (λ (c : Came). c.taken ≤ length u) (too_scant (length R) (length X) (length out)) _ _ (omega arith)
      (when_either (λ (c : Came). c.taken ≤ length u) _ _ _ read_on_within (omega arith))

pub lent_enough : (room index out : ℕ) → room_needed ≤ room → index_words ≤ index → 16 ≤ out → too_scant room index out ≡ false
unfolding too_scant
lent_enough room index out a b c = when_false _ _ _ (le-ltb _ _ a) ∙ when_false _ _ _ (le-ltb _ _ b) ∙ le-ltb _ _ c
