-- The intake after a feed and after a read, over what the calls answered.
--
--   part_bytes           a part of bytes is bytes
--   fed_so               a feed of what is unread
--   came_so              at most one read
--
-- What is large is given explicitly. Assumes nothing.
use Prim.Native.Nat.{ℕ, ◌+◌, ◌≤◌, ◌<◌}
use native.Mathlib.Nat.{sub-zero}
use native.Mathlib.Omega.{arith}
use mathlib.Core.Logic.{◌⊎◌, inl, inr}
use mathlib.Core.Path.{◌≡◌, refl, sym, ap, ◌∙◌, subst}
use mathlib.Core.Bool.{Bool, false}
use mathlib.Core.List.{List, append-nil, ◌++◌}
use lib.Dec.{eqb}
use lib.ListN.{length, get_or, take, drop, length-take}
use lib.Seq.{get_or-take, get_or-drop, length-take-le}
use Rattle.limits.specs.Number.{text_of}
use Rattle.text_right.proofs.Quiet.{Bytes}
use Rattle.reader.specs.Feed.{Came, feed_answer}
use Rattle.system.specs.declared.File.{File}
use Rattle.system.specs.Marks.{ReadOver, Received, received}
use Rattle.intake.specs.declared.Intake.{Intake}
use Rattle.intake.specs.Intake.{longest, FedText, Asked, enough, asked, TextCame}

pub part_bytes : (l : List ℕ) (a n : ℕ) → ((i : ℕ) → get_or l i 0 < 256) → Bytes (take n (drop a l))
part_bytes l a n b =
    record {
      each =
          λ i h.
          let inside : i < n = omega (arith, h, length-take n (drop a l)) in
          subst (λ (x : ℕ). x < 256) (sym (get_or-take n (drop a l) i 0 inside ∙ get_or-drop a l i 0)) (b (a + i));
    }

pub fed_so :
    (N X : List ℕ) (i : Intake) (u R out : List ℕ) (z : Came) (q : ℕ) → Bytes u → z ≡ feed_answer N X u i.reader R out → q ≡ text_of z.refusal →
    FedText N X i u R out
    (record {
      reader = z.reader;
      from = i.from + z.taken;
      end = i.end;
      taken = i.taken + z.taken;
      refusal = q;
      ended = false;
      written = z.written;
    })
    z.room z.out
fed_so N X i u R out z q b e number =
    record {
      bytes = b;
      reader_so = ap (λ (c : Came). c.reader) e;
      from_so = ap (λ (c : Came). i.from + c.taken) e;
      end_same = refl;
      taken_so = ap (λ (c : Came). i.taken + c.taken) e;
      refusal_so = number ∙ ap (λ (c : Came). text_of c.refusal) e;
      written_so = ap (λ (c : Came). c.written) e;
      room_so = ap (λ (c : Came). c.room) e;
      out_so = ap (λ (c : Came). c.out) e;
      not_ended = refl;
    }

module _ (file : File) (i : Intake) (input input' : List ℕ) (r : ℕ) where
  abbrev after : Bool → Intake
  after e = record { reader = i.reader; from = 0; end = r; taken = i.taken; refusal = 0; ended = e; written = 0 }

  came_with :
      (e : Bool) → e ≡ eqb r 0 → r ≤ length input' → ((before : List ℕ) → Received file before → Received file (before ++ take r input')) →
      (r ≡ 0 → 0 < length input → ReadOver file ⊎ (longest ≤ i.taken)) → (0 < r → i.taken < longest) → TextCame file i input (after e) input'
  came_with e so fits got over some =
      let long : length (take r input') ≡ r = length-take-le r input' fits in
      record {
        bytes = take r input';
        received = got;
        unread_so = ap (λ (n : ℕ). take n input') (sub-zero r);
        count = sub-zero r ∙ sym long;
        within = record { forward = omega arith; inside = fits };
        reader_same = refl;
        taken_same = refl;
        unrefused = refl;
        none_written = refl;
        ended_so = so ∙ ap (λ (n : ℕ). eqb n 0) (sym long);
        over = λ z room. over (sym long ∙ z) room;
        some = λ z. some (omega (arith, z, long));
      }

  pub came_so : (e : Bool) → e ≡ eqb r 0 → Asked file i.taken input input' r → TextCame file i input (after e) input'
  came_so e so (enough l same z) =
      came_with e so (omega arith)
      (λ before x. subst (λ (k : ℕ). Received file (before ++ take k input')) (sym z) (subst (Received file) (sym (append-nil before)) x))
      (λ y room. inr l) (λ y. absurd (omega arith))
  came_so e so (asked l g) =
      came_with e so (omega (arith, g.within)) (λ before x. received x (take r input') g.given) (λ y room. inl (g.over y room)) (λ y. l)
