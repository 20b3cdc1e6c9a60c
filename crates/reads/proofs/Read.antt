-- The state after a read, over what the calls answered.
--
--   left_over      what is left over has moved to the start
--   read_so_moved  the state after a read;  read_so: the same where the library's `copy_within` moved what is left over
--   read_nothing, read_some      a read that gave nothing, and one that gave bytes
--
-- What is large is given explicitly. Assumes nothing.
use Rattle.std.specs.Prelude.{ℕ, ◌+◌, ◌-◌, ◌<◌, ◌≡◌, refl, true, false, List, ◌++◌, eqb, length, take, drop}
use Rattle.std.specs.List.{copy_within}
use Rattle.std.proofs.Common.{arith, sym, ap, ◌∙◌, eqb-true, eq-eqb, ne_eqb, length-drop, length-take-le, subst}
use Rattle.std.proofs.Math.Nat.{sub-zero}
use Rattle.std.proofs.Math.Seq.{take-add, length-sets}
use Rattle.choice.specs.When.{when, when_yes, when_no, never}
use Rattle.lines.specs.Put.{Put}
use Rattle.lines.proofs.Put.Laws.{put_taken}
use Rattle.system.specs.declared.File.{File}
use Rattle.system.specs.Marks.{ReadAt}
use Rattle.reads.specs.declared.State.{State}
use Rattle.reads.specs.State.{unread, UnreadWithin, leftover_of, ReadMore}
use Rattle.reads.proofs.Moved.{put_copied}

module _ (file : File) (s : State) (input moved_down input' : List ℕ) (r : ℕ) (w : UnreadWithin s (length input))
    (moved : Put input 0 (unread s input) moved_down (s.end - s.from)) (got : ReadAt file (s.end - s.from) moved_down input' r)
    (room : s.end - s.from < length input) where
  abbrev left : ℕ
  left = s.end - s.from

  abbrev bytes : List ℕ
  bytes = take r (drop left input')

  long : length moved_down ≡ length input
  long = ap length moved.text ∙ length-sets input 0 (unread s input)

  left_over : take left moved_down ≡ unread s input
  left_over = put_taken moved (omega (arith, w.inside))

  so_many : length bytes ≡ r
  so_many = length-take-le r (drop left input') (omega (arith, got.within, length-drop left input'))

  behind : take (left + r - 0) input' ≡ unread s input ++ bytes
  behind =
      ap (λ (k : ℕ). take k input') (sub-zero (left + r))
      ∙ take-add left r input'
      ∙ ap (λ (x : List ℕ). x ++ bytes) (got.kept ∙ left_over)

  pub read_so_moved :
      (n x : ℕ) → n ≡ left + r → x ≡ when (eqb r 0) (leftover_of left) 0 →
      ReadMore file s input (record { session = s.session; from = 0; end = n; taken = s.taken; refusal = x; ended = eqb r 0; written = s.written }) input'
  read_so_moved n x so e =
      record {
        bytes = bytes;
        given = got.given;
        behind = ap (λ (k : ℕ). take (k - 0) input') so ∙ behind;
        within = record { forward = omega arith; inside = omega (arith, so, got.within) };
        session_same = refl;
        taken_same = refl;
        written_same = refl;
        ended_so = ap (λ (n : ℕ). eqb n 0) (sym so_many);
        refused_so = e;
        over = λ t. got.over (eqb-true r 0 t) (omega (arith, room, long));
      }

  pub read_nothing :
      r ≡ 0 → (x : ℕ) → x ≡ leftover_of left →
      ReadMore file s input (record { session = s.session; from = 0; end = left; taken = s.taken; refusal = x; ended = true; written = s.written }) input'
  read_nothing z x e =
      let all : left - 0 ≡ left + r - 0 = omega arith in
      record {
        bytes = bytes;
        given = got.given;
        behind = ap (λ (k : ℕ). take k input') all ∙ behind;
        within = record { forward = omega arith; inside = omega (arith, got.within) };
        session_same = refl;
        taken_same = refl;
        written_same = refl;
        ended_so = sym (eq-eqb (length bytes) 0 (so_many ∙ z));
        refused_so = when_yes true x (leftover_of left) 0 refl e;
        over = λ t. got.over z (omega (arith, room, long));
      }

  pub read_some :
      (r ≡ 0 → ⊥) →
      ReadMore file s input
      (record { session = s.session; from = 0; end = left + r; taken = s.taken; refusal = 0; ended = false; written = s.written }) input'
  read_some z =
      record {
        bytes = bytes;
        given = got.given;
        behind = behind;
        within = record { forward = omega arith; inside = got.within };
        session_same = refl;
        taken_same = refl;
        written_same = refl;
        ended_so = sym (ne_eqb (length bytes) 0 (λ e. z (sym so_many ∙ e)));
        refused_so = when_no false 0 (leftover_of left) 0 refl refl;
        over = λ t. never t;
      }

pub read_so :
    (file : File) (s : State) (input moved_down input' : List ℕ) (r : ℕ) → UnreadWithin s (length input) →
    moved_down ≡ copy_within input s.from s.end 0 → length moved_down ≡ length input → ReadAt file (s.end - s.from) moved_down input' r →
    s.end - s.from < length input → (x : ℕ) → x ≡ when (eqb r 0) (leftover_of (s.end - s.from)) 0 →
    ReadMore file s input
    (record { session = s.session; from = 0; end = s.end - s.from + r; taken = s.taken; refusal = x; ended = eqb r 0; written = s.written }) input'
read_so file s input moved_down input' r w moved as_long got room x e =
    let put = subst (λ l. Put input 0 (unread s input) l (s.end - s.from)) (sym moved) (put_copied input s.from s.end w.forward w.inside) in
    read_so_moved file s input moved_down input' r w put got room _ x refl e
