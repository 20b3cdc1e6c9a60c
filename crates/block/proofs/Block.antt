-- The state after a block of events, over what the calls answered.
--
--   part_short      a part from a to e has at most e - a bytes
--   worked_so       a block of events and its lines
--
-- What is large is given explicitly. Assumes nothing.
use Prim.Native.Nat.{ℕ, zero, suc, ◌+◌, ◌-◌, ◌*◌, ◌≤◌}
use native.Mathlib.Nat.{sub-zero}
use native.Mathlib.Omega.{arith}
use mathlib.Core.Path.{◌≡◌, refl, sym, ap, ap₂, ◌∙◌, subst}
use mathlib.Core.Bool.{Bool, false}
use mathlib.Core.List.{List, [], ◌∷◌}
use lib.ListN.{length, take, drop, length-take}
use lib.Seq.{drop-drop, length-sets}
use Rattle.feed.specs.Fed.{Fed}
use Rattle.limits.specs.Number.{fault_of}
use Rattle.session.specs.declared.Ran.{Ran}
use Rattle.session.specs.Run.{Housed, ran}
use Rattle.lines.specs.Put.{Put}
use Rattle.lines.proofs.Put.Laws.{put_taken}
use Rattle.lines.specs.Text.{lines_of, nodes_in}
use Rattle.system.specs.Marks.{WriteTold}
use Rattle.reads.specs.declared.State.{State}
use Rattle.reads.specs.State.{unread, UnreadWithin}
use Rattle.block.specs.Worked.{block_of, Worked}

drop_take : (k n : ℕ) (l : List ℕ) → drop k (take n l) ≡ take (n - k) (drop k l)
drop_take zero n l = ap (λ (m : ℕ). take m l) (sym (sub-zero n))
drop_take (suc k) zero l = let z : 0 - suc k ≡ 0 = omega arith in ap (λ (m : ℕ). take m (drop (suc k) l)) (sym z)
drop_take (suc k) (suc n) [] = sym (take_nil (suc n - suc k))
  where
    take_nil : (m : ℕ) → ◌≡◌ {A = List ℕ} (take m []) []
    take_nil zero = refl
    take_nil (suc m) = refl
drop_take (suc k) (suc n) (x ∷ l) =
    let m : n - k ≡ suc n - suc k = omega arith in drop_take k n l ∙ ap (λ (i : ℕ). take i (drop k l)) m

pub part_short : (l : List ℕ) (a e : ℕ) → length (take (e - a) (drop a l)) ≤ e - a
part_short l a e = rw (length-take (e - a) (drop a l)) (omega arith)

module _ (s : State) (input E N out : List ℕ) (r : Ran) (E' N' out' text text' : List ℕ) (k : ℕ) (written : Bool) (w : UnreadWithin s (length input))
    (block : ran r E' N' out' ≡ block_of s input E N out) (few : 8 * r.taken ≤ length (unread s input))
    (put : Put text 0 (lines_of (nodes_in r.listed out')) text' k) (fits : k ≤ length text') (handed : WriteTold (take k text') written) where
  past : take (s.end - (s.from + 8 * r.taken)) (drop (s.from + 8 * r.taken) input) ≡ drop (8 * r.taken) (unread s input)
  past =
      let n : s.end - (s.from + 8 * r.taken) ≡ s.end - s.from - 8 * r.taken = omega arith in
      ap₂ (λ (m : ℕ) (x : List ℕ). take m x) n (sym (drop-drop (8 * r.taken) s.from input))
      ∙ sym (drop_take (8 * r.taken) (s.end - s.from) (drop s.from input))

  pub worked_so :
      (x : ℕ) → x ≡ fault_of r.refusal →
      Worked s input E N out
      (record {
        session = r.session;
        from = s.from + 8 * r.taken;
        end = s.end;
        taken = s.taken + r.taken;
        refusal = x;
        ended = false;
        written = written;
      })
      E' N'
  worked_so x e =
      let room : length text' ≡ length text = ap length put.text ∙ length-sets text 0 (lines_of (nodes_in r.listed out')) in
      record {
        seat_so = ap (λ (g : Fed Housed). g.seat) block;
        taken_so = ap (λ (g : Fed Housed). s.taken + g.taken) block;
        refusal_so = e ∙ ap (λ (g : Fed Housed). g.refusal) block;
        left = past ∙ ap (λ (g : Fed Housed). drop (8 * g.taken) (unread s input)) block;
        within = record { forward = omega (arith, few, part_short input s.from s.end, w.forward); inside = w.inside };
        not_ended = refl;
        handed =
            subst (λ (l : List ℕ). WriteTold l written)
            (put_taken put (omega arith) ∙ ap (λ (g : Fed Housed). lines_of (nodes_in g.listed g.out)) block) handed;
      }
