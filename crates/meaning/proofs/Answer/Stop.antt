-- What a stop is, over any calls: request C-12.
--
--   Faulted a              the answer a is one of the refusals 2 to 7
--   Stopping as'           one of the answers as' is one of them
--   TurnedAway a           the answer a is refusal 1, 15 or 11
--   call_stopped           after a call a session is stopped exactly if it was before, or if the call's answer is one of the refusals 2 to 7
--   calls_stopped          after any calls it is exactly if it was before, or if one of their answers is
--   stopped_exactly        so after any calls from the start it is exactly if one of their answers is
--   refused_nothing        every other refusal changes nothing at all
--   stopped_answer, stopped_answers      a stopped session answers a call, and any calls, with 1, 15 and 11 only
--   stopped_same, stopped_for_ever       a call, and any calls, change nothing of it: neither the list nor a count, which are the accepted events'
--   stopped_hands          and they hand out nothing
--
-- Assumes nothing. NOT here: when a stopped session answers 1, when 15 and when 11 (Answer.Exactly).
use Rattle.std.specs.Prelude.{ℕ, ◌≤◌, ◌↔◌, ◌⊎◌, ◌≡◌, Bool, ◌||◌, ltb}
use Rattle.std.proofs.Common.{arith, sym, ◌∙◌}
use Rattle.std.proofs.Math.Logic.{inl, inr}
use Rattle.std.proofs.Math.Path.{refl, ap, ap₂, subst}
use Rattle.std.proofs.Math.Bool.{true, false, or-false}
use mathlib.Core.List.Memᴰ
use mathlib.Core.List.{List, [], ◌∷◌, ◌++◌, Memᴰ}
use Rattle.std.proofs.Math.Option.{Option, none, some}
use Rattle.std.proofs.Math.Dec.{T}
use Rattle.meaning.specs.Limits.{output_needed}
use Rattle.meaning.specs.Logic.{or_l, or_r, or_case}
use Rattle.meaning.specs.Refusals.{short_output, short_room, already_stopped, stops}
use Rattle.meaning.proofs.Refusals.Laws.{stops_exactly}
use Rattle.meaning.specs.Query.{Query}
use Rattle.meaning.specs.Stream.{document}
use Rattle.meaning.specs.Answer.{Call, event, finish, Answer, refused, Past, going, too_small, event_refusals, refusals, first_or, first}
use Rattle.meaning.specs.Answer.{yield, answer_if, answer, call_events, after_if, after, answers, after_all, handed_by, handed_out}
use Rattle.meaning.proofs.Answer.Laws.{refused_same, never_refuses}
use Rattle.meaning.proofs.Answer.Exactly.{stopped_finish_exactly}
use Rattle.meaning.specs.Answer.Stop.{Faulted, Stopping, TurnedAway}

-- "Once a session has given one of the refusals 2 to 7 it is stopped"
pub call_stopped : (q : Query) (p : Past) (c : Call) → T (after q p c).stopped ↔ (T p.stopped ⊎ Faulted (answer q p c))
unfolding answer after answer_if after_if
call_stopped q p c = go (first (refusals q p c))
  where
    given : (r : ℕ) → T p.stopped ⊎ T (stops r) → T p.stopped ⊎ Faulted (refused r)
    given r (inl t) = inl t
    given r (inr t) = let w = (stops_exactly r).0 t in inr (r, refl, w.0, w.1)

    back : (r : ℕ) → T p.stopped ⊎ Faulted (refused r) → T (p.stopped || stops r)
    back r (inl t) = or_l p.stopped _ t
    back r (inr (k, e, l, m)) = let z : k ≡ r = cc in or_r p.stopped _ (subst (λ n. T (stops n)) z ((stops_exactly k).1 (l, m)))

    yielded : T p.stopped ⊎ Faulted (yield q (document p.events) c) → T p.stopped
    yielded (inl t) = t
    yielded (inr (r, e, l, m)) = absurd (never_refuses q (document p.events) c r e)

    go :
        (o : Option ℕ) →
        T (after_if o p (call_events c)).stopped ↔ (T p.stopped ⊎ Faulted (answer_if o (yield q (document p.events) c)))
    go (some r) = (λ t. given r (or_case p.stopped _ t), back r)
    go none = (inl, yielded)

pub calls_stopped : (q : Query) (p : Past) (cs : List Call) → T (after_all q p cs).stopped ↔ (T p.stopped ⊎ Stopping (answers q p cs))
unfolding after_all answers
calls_stopped q p [] = (inl, back)
  where
    back : T p.stopped ⊎ Stopping [] → T p.stopped
    back (inl t) = t
    back (inr (r, m, l, k)) = absurd (Memᴰ.not-nil m)
calls_stopped q p (c ∷ cs) =
    let one = call_stopped q p c in
    let more = calls_stopped q (after q p c) cs in
    (λ t. to one.0 (more.0 t), λ w. from one.1 more.1 w)
  where
    Rest : Type 0
    Rest = Stopping (answers q (after q p c) cs)

    earlier : T p.stopped ⊎ Faulted (answer q p c) → T p.stopped ⊎ Stopping (answer q p c ∷ answers q (after q p c) cs)
    earlier (inl t) = inl t
    earlier (inr (r, e, l, k)) = inr (r, Memᴰ.head (sym e), l, k)

    to :
        (T (after q p c).stopped → T p.stopped ⊎ Faulted (answer q p c)) → T (after q p c).stopped ⊎ Rest →
        T p.stopped ⊎ Stopping (answer q p c ∷ answers q (after q p c) cs)
    to f (inl t) = earlier (f t)
    to f (inr (r, m, l, k)) = inr (r, Memᴰ.tail m, l, k)

    placed :
        (r : ℕ) → (2 ≤ r) × (r ≤ 7) → (refused r ≡ answer q p c) ⊎ Memᴰ (refused r) (answers q (after q p c) cs) →
        Faulted (answer q p c) ⊎ Rest
    placed r h (inl e) = inl (r, sym e, h.0, h.1)
    placed r h (inr m) = inr (r, m, h.0, h.1)

    from :
        (T p.stopped ⊎ Faulted (answer q p c) → T (after q p c).stopped) → (T (after q p c).stopped ⊎ Rest → T (after_all q (after q p c) cs).stopped) →
        T p.stopped ⊎ Stopping (answer q p c ∷ answers q (after q p c) cs) → T (after_all q (after q p c) cs).stopped
    from f g (inl t) = g (inl (f (inl t)))
    from f g (inr (r, m, l, k)) = by (placed r (l, k) (Memᴰ.cases_cons m))
      where
        by : Faulted (answer q p c) ⊎ Rest → T (after_all q (after q p c) cs).stopped
        by (inl w) = g (inl (f (inr w)))
        by (inr w) = g (inr w)

pub stopped_exactly : (q : Query) (cs : List Call) → T (after_all q (going []) cs).stopped ↔ Stopping (answers q (going []) cs)
stopped_exactly q cs = let w = calls_stopped q (going []) cs in (λ t. given (w.0 t), λ s. w.1 (inr s))
  where
    given : T false ⊎ Stopping (answers q (going []) cs) → Stopping (answers q (going []) cs)
    given (inl t) = absurd t
    given (inr s) = s

-- "Refusals 1, 15 and 8 stop nothing", and "A call refused with 11 changes nothing at all"
pub refused_nothing : (q : Query) (p : Past) (c : Call) (r : ℕ) → answer q p c ≡ refused r → ((2 ≤ r) × (r ≤ 7) → ⊥) → after q p c ≡ p
refused_nothing q p c r e f = refused_same q p c r e ∙ go (stops r) (λ t. f ((stops_exactly r).0 t))
  where
    go : (b : Bool) → (T b → ⊥) → record { events = p.events; stopped = p.stopped || b } ≡ p
    go true f = absurd (f tt)
    go false f = ap (λ b. record { events = p.events; stopped = b }) (or-false p.stopped)

module _ (q : Query) (p : Past) (t : T p.stopped) where
  -- "every later event and every later finish gets 11", but where 1 or 15 comes before it
  pub stopped_answer : (c : Call) → TurnedAway (answer q p c)
  stopped_answer finish = inr (inr ((stopped_finish_exactly q p).1 t))
  stopped_answer (event bs lent) =
      unfold answer refusals event_refusals first in go (ltb lent.out output_needed) (too_small lent.elements lent.nodes) p.stopped _ _ t
    where
      go :
          (x y b : Bool) (o : Option ℕ) (a : Answer) → T b →
          TurnedAway (answer_if (first_or x short_output (first_or y short_room (first_or b already_stopped o))) a)
      go true y b o a t = unfold first_or answer_if in inl refl
      go false true b o a t = unfold first_or answer_if in inr (inl refl)
      go false false true o a t = unfold first_or answer_if in inr (inr refl)
      go false false false o a t = absurd t

  pub stopped_same : (c : Call) → after q p c ≡ p
  stopped_same c = go (stopped_answer c)
    where
      go : TurnedAway (answer q p c) → after q p c ≡ p
      go (inl e) = refused_nothing q p c 1 e (λ h. omega (arith, h.0))
      go (inr (inl e)) = refused_nothing q p c 15 e (λ h. omega (arith, h.1))
      go (inr (inr e)) = refused_nothing q p c 11 e (λ h. omega (arith, h.1))

  pub stopped_for_ever : (cs : List Call) → after_all q p cs ≡ p
  unfolding after_all
  stopped_for_ever [] = refl
  stopped_for_ever (c ∷ cs) = ap (λ r. after_all q r cs) (stopped_same c) ∙ stopped_for_ever cs

  pub stopped_answers : (cs : List Call) (a : Answer) → Memᴰ a (answers q p cs) → TurnedAway a
  unfolding answers
  stopped_answers [] a m = absurd (Memᴰ.not-nil m)
  stopped_answers (c ∷ cs) a m = go (stopped_answers cs a) (Memᴰ.cases_cons m)
    where
      go : (Memᴰ a (answers q p cs) → TurnedAway a) → (a ≡ answer q p c) ⊎ Memᴰ a (answers q (after q p c) cs) → TurnedAway a
      go f (inl e) = subst TurnedAway (sym e) (stopped_answer c)
      go f (inr u) = f (subst (λ r. Memᴰ a (answers q r cs)) (stopped_same c) u)

  pub stopped_hands : (cs : List Call) → handed_out (answers q p cs) ≡ []
  unfolding answers handed_out
  stopped_hands [] = refl
  stopped_hands (c ∷ cs) = ap₂ ◌++◌ (go (stopped_answer c)) (ap (λ r. handed_out (answers q r cs)) (stopped_same c) ∙ stopped_hands cs)
    where
      go : TurnedAway (answer q p c) → handed_by (answer q p c) ≡ []
      go (inl e) = unfold handed_by in ap handed_by e
      go (inr (inl e)) = unfold handed_by in ap handed_by e
      go (inr (inr e)) = unfold handed_by in ap handed_by e
