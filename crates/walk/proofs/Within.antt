-- A loop and a turn stay inside the text, a turn that is not refused goes on, and one that is refused has a refusal's number.
--
--   span_within, copied_within, agreed_within      how far each loop goes
--   walked_within        a loop stays inside the text
--   turned_within        so does a turn;  turned_on: one that is not refused goes on by a byte at least
--   turned_told          a turn is refused with a refusal of text and with no other number
--
-- Assumes nothing.
use Rattle.std.specs.Prelude.{ℕ, suc, ◌+◌, ◌≤◌, ◌<◌, ◌≡◌, refl, List, [], ◌∷◌, eqb, leb, get_or, set, drop}
use Rattle.std.proofs.Common.{arith, sym, length-drop}
use Rattle.std.proofs.Math.Path.{subst}
use Rattle.std.proofs.Math.ListN.{length}
use borrow.Author.Tests.{leb-true, leb-false, eq-eqb}
use Rattle.choice.specs.When.{when_true, when_known, when_either}
use Rattle.chars.specs.Marks.{marked, span}
use Rattle.slots.specs.Slots.{name_bytes, base_of, length_in}
use Rattle.slots.specs.Copied.{Copied, copied, Agreed, agreed, name_mark}
use Rattle.limits.specs.Number.{text_of}
use Rattle.limits.specs.Number.Laws.{text_at}
use Rattle.modes.specs.declared.Reader.{Reader}
use Rattle.tick.specs.Tick.{tick}
use Rattle.tick.proofs.Told.{Told, on, tick_told}
use Rattle.walk.specs.declared.Pace.{Pace}
use Rattle.walk.specs.declared.Pace.TheVariants as pace
use Rattle.walk.specs.Walk.{pace_of, walked_by, walked}
use Rattle.walk.specs.Turn.{Turned, here_after, ticked_at, turned_from, turned}

span_within : (M : List ℕ) (mark : ℕ) (t : List ℕ) → span M mark t ≤ length t
unfolding span
span_within M mark [] = omega arith
span_within M mark (b ∷ t) =
    when_either (λ n. n ≤ suc (length t)) (marked M b mark) (suc (span M mark t)) 0
    (let h : span M mark t ≤ length t = span_within M mark t in let z : suc (span M mark t) ≤ suc (length t) = omega arith in z)
    (let z : 0 ≤ suc (length t) = omega arith in z)

-- between two places
abbrev Between : ℕ → ℕ → ℕ → Type 0
Between a b n = (a ≤ n) × (n ≤ b)

copied_within : (M R : List ℕ) (s n at : ℕ) (t : List ℕ) → Between at (at + length t) (copied M R s n at t).at
unfolding copied
copied_within M R s n at [] = (omega arith, omega arith)
copied_within M R s n at (b ∷ t) =
    when_either (λ (w : Copied). Between at (at + suc (length t)) w.at) (marked M b name_mark) _ _
    (when_either (λ (w : Copied). Between at (at + suc (length t)) w.at) (leb name_bytes n) _ _ (omega arith, omega arith)
    (let h = copied_within M (set R (base_of s + n) b) s (n + 1) (at + 1) t in (omega (arith, h.0), omega (arith, h.1))))
    (omega arith, omega arith)

agreed_within : (R : List ℕ) (s n at : ℕ) (t : List ℕ) → Between at (at + length t) (agreed R s n at t).at
unfolding agreed
agreed_within R s n at [] = (omega arith, omega arith)
agreed_within R s n at (b ∷ t) =
    when_either (λ (w : Agreed). Between at (at + suc (length t)) w.at) (leb (length_in R s) n) _ _ (omega arith, omega arith)
    (when_either (λ (w : Agreed). Between at (at + suc (length t)) w.at) (eqb b (get_or R (base_of s + n) 0)) _ _
    (let h = agreed_within R s (n + 1) (at + 1) t in (omega (arith, h.0), omega (arith, h.1)))
    (omega arith, omega arith))

by_pace : (p : Pace) (M : List ℕ) (r : Reader) (at : ℕ) (t R : List ℕ) → Between at (at + length t) (walked_by p M r at t R).at
unfolding walked_by
by_pace (pace.Copies s) M r at t R = copied_within M R s r.n at t
by_pace (pace.Agrees s) M r at t R = agreed_within R s r.n at t
by_pace (pace.Skips mark) M r at t R = let h = span_within M mark t in (omega arith, omega (arith, h))

pub walked_within :
    (M : List ℕ) (r : Reader) (t : List ℕ) (at : ℕ) (R : List ℕ) → at ≤ length t → Between at (length t) (walked M r at (drop at t) R).at
unfolding walked
walked_within M r t at R l =
    let h = by_pace (pace_of r) M r at (drop at t) R in
    (h.0, omega (arith, h.1, length-drop at t))

module _ (M : List ℕ) (r : Reader) (t : List ℕ) (at : ℕ) (R : List ℕ) (l : at ≤ length t) where
  w : Copied
  w = walked M r at (drop at t) R

  inside : Between at (length t) w.at
  unfolding w
  inside = walked_within M r t at R l

  pub turned_within : Between at (length t) (turned M r t at R).at
  unfolding turned turned_from ticked_at w
  turned_within =
      when_known (λ (z : Turned). Between at (length t) z.at) (leb (length t) w.at) _ _ (λ e. inside)
      (λ e.
      let x = tick M (here_after r w) (get_or t w.at 0) w.room in
      let k : w.at < length t = leb-false _ _ e in
      when_either (Between at (length t)) (eqb x.reader.refusal 0) (w.at + 1) w.at (omega (arith, inside.0), omega arith) inside)

  pub turned_on : at < length t → (turned M r t at R).reader.refusal ≡ 0 → at < (turned M r t at R).at
  unfolding turned turned_from ticked_at w
  turned_on h =
      when_known (λ (z : Turned). z.reader.refusal ≡ 0 → at < z.at) (leb (length t) w.at) _ _
      (λ e f. let k : length t ≤ w.at = leb-true _ _ e in omega arith)
      (λ e f.
      let x = tick M (here_after r w) (get_or t w.at 0) w.room in
      subst (λ n. at < n) (sym (when_true (eqb x.reader.refusal 0) (w.at + 1) w.at (eq-eqb _ 0 f)))
      (let z : at < w.at + 1 = omega (arith, inside.0) in z))

told : (M : List ℕ) (r : Reader) (t : List ℕ) (at : ℕ) (R : List ℕ) → Told (turned M r t at R).reader
unfolding turned turned_from ticked_at
told M r t at R =
    let w = walked M r at (drop at t) R in
    when_either (λ (z : Turned). Told z.reader) (leb (length t) w.at) _ _ (on refl) (tick_told M (here_after r w) (get_or t w.at 0) w.room)

pub turned_told :
    (M : List ℕ) (r : Reader) (t : List ℕ) (at : ℕ) (R : List ℕ)
    → text_of (text_at (turned M r t at R).reader.refusal) ≡ (turned M r t at R).reader.refusal
turned_told M r t at R = (told M r t at R).back
