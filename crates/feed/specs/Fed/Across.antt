-- Two ways to take one event that differ only in what they are taken at.
--
--   across f c, all_across f r      what one event came to, and a block, with the seat as f shows it
--   Alike one-S one-T f Ok         at the seats that are Ok the first way, at what f shows, comes to what the second does, as f shows it
--   fed_across                     so a block does
--
-- Assumes nothing.
use Prim.Native.Nat.{ℕ, zero, suc, ◌*◌, ◌≤◌}
use Rattle.std.specs.Prelude.{◌≡◌, List, eqb, ltb, length, take, drop}
use Rattle.std.proofs.Math.Path.{refl, sym, ap}
use Rattle.std.proofs.Common.{◌∙◌, ltb-false}
use Rattle.choice.specs.When.{when, when_ap, when_known, when_yes, when_no}
use Rattle.meaning.specs.Limits.{output_needed}
use Rattle.feed.specs.Fed.{Came, Fed, one, and_then, fed}

module _ {S T : Type 0} (f : T → S) where
  abbrev pub across : Came T → Came S
  across c = record { refusal = c.refusal; listed = c.listed; seat = f c.seat; out = c.out }

  abbrev pub all_across : Fed T → Fed S
  all_across r = record { seat = f r.seat; taken = r.taken; listed = r.listed; refusal = r.refusal; out = r.out }

  module _ (one-S : S → List ℕ → List ℕ → Came S) (one-T : T → List ℕ → List ℕ → Came T) (Ok : T → Type 0) where
    pub record Alike : Type 0 where
      pub stays : (t : T) (bytes out : List ℕ) → Ok t → Ok (one-T t bytes out).seat
      pub same : (t : T) (bytes out : List ℕ) → Ok t → output_needed ≤ length out → one-S (f t) bytes out ≡ across (one-T t bytes out)

    module _ (alike : Alike) where
      -- one event and what follows
      next_S : ℕ → List ℕ → Came S → Fed S
      next_S n es c = when (eqb c.refusal 0) (and_then (one c) (fed one-S n c.seat (drop 8 es) (drop (4 * c.listed) c.out))) (one c)

      next_T : ℕ → List ℕ → Came T → Fed T
      next_T n es c = when (eqb c.refusal 0) (and_then (one c) (fed one-T n c.seat (drop 8 es) (drop (4 * c.listed) c.out))) (one c)

      then_across : (r f' : Fed T) → and_then (all_across r) (all_across f') ≡ all_across (and_then r f')
      unfolding and_then
      then_across r f' = refl

      next_across :
          (n : ℕ) (es : List ℕ) (c : Came T) →
          fed one-S n (f c.seat) (drop 8 es) (drop (4 * c.listed) c.out)
          ≡ all_across (fed one-T n c.seat (drop 8 es) (drop (4 * c.listed) c.out)) →
          next_S n es (across c) ≡ all_across (next_T n es c)
      unfolding next_S next_T
      next_across n es c e =
          ap (λ (r : Fed S). when (eqb c.refusal 0) (and_then (one (across c)) r) (one (across c))) e
          ∙ ap (λ (r : Fed S). when (eqb c.refusal 0) r (one (across c))) (then_across (one c) _)
          ∙ sym (when_ap (λ (r : Fed T). all_across r) (eqb c.refusal 0) _ _)

      pub fed_across : (n : ℕ) (t : T) (es out : List ℕ) → Ok t → fed one-S n (f t) es out ≡ all_across (fed one-T n t es out)
      unfolding fed next_S next_T
      fed_across zero t es out ok = refl
      fed_across (suc n) t es out ok =
          let c : Came T = one-T t (take 8 es) out in
          when_known (λ (r : Fed S). r ≡ all_across (fed one-T (suc n) t es out)) (ltb (length out) output_needed) _ _
          (λ e. ap (λ (r : Fed T). all_across r) (when_yes _ _ _ _ e refl))
          (λ e.
          ap (next_S n es) (alike.same t (take 8 es) out ok (ltb-false _ _ e))
          ∙ next_across n es c (fed_across n c.seat (drop 8 es) (drop (4 * c.listed) c.out) (alike.stays t (take 8 es) out ok))
          ∙ ap (λ (r : Fed T). all_across r) (when_no _ _ _ _ e refl))
