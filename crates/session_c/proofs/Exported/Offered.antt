-- That an event on the session's bytes is one on the session in them. The numbers there may say by any value whether the document element has been closed and
-- whether the session is stopped, a session says it by tests: an event asks no more (crate offer, proofs/Alike).
--
--   takes_bytes                     what `offer` gives on the numbers in the bytes
--   takes_parts                     what `offer` gives on the bytes is what is owed of the session's event
--
-- What is large is given explicitly. Assumes nothing.
use Rattle.std.specs.Prelude.{ℕ, ◌*◌, Bool, not, eqb, length, drop}
use Rattle.std.proofs.Math.Path.{◌≡◌, refl, sym, ap, subst}
use Rattle.std.proofs.Common.{ap₂, ◌∙◌, eqb-true, eq-eqb, ne_eqb}
use Rattle.std.proofs.Math.Bool.{true, false}
use mathlib.Core.List.{List, ◌++◌}
use mir.Val.{bool_byte}
use Rattle.std.proofs.Math.ListN.{take}
use Rattle.std.proofs.lemmas.Bool.{eqb-false}
use Rattle.choice.specs.When.{when, when_true, when_false}
use Rattle.choice.specs.Count.{bool_byte_le}
use Rattle.words.specs.Words.{bytes_of, Bytes}
use Rattle.plan.specs.Plan.{Plan}
use Rattle.numbers.specs.Numbers.{Numbers, Said, numbers_room, numbers_in}
use Rattle.plan_bytes.specs.Kept.{plan_room, kept_in}
use Rattle.feed.specs.Fed.{Came}
use Rattle.feed.specs.Steps.{Seat, seat, came, stopped_at}
use Rattle.offer.specs.Offer.{offered}
use Rattle.offer.specs.Offer.Laws.{offered_refused}
use Rattle.offer.proofs.Alike.{offered_said, offered_alike}
use Rattle.session.specs.declared.Session.{Session}
use Rattle.session.specs.declared.Answer.{Answer}
use Rattle.session.specs.declared.Answer.TheVariants.{Refused, Taken}
use Rattle.session.specs.Event.{session_of, session_numbers, with_numbers, answer_by, settled, event}
use Rattle.session.specs.Event.Laws.{there, event_refused}
use Rattle.session_c.specs.Laid.{session_room, session_in, session_bytes, marked_bytes}
use Rattle.session_c.proofs.Laid.Laws.{six, numbers_laid, last_bytes, kept_all, rest_all, marked_laid}
use Rattle.session_c.specs.Exported.{Took, number_of, laid_by, took_with, took, ExportTakes}
use Rattle.session_c.specs.Exported.Offered.{event_number}

bit_zero : (b : Bool) → eqb (bool_byte (not b)) 0 ≡ b
bit_zero true = refl
bit_zero false = refl

module _ (S bytes E N out : List ℕ) (long : length S ≡ session_room) (bytes-S : Bytes S) where
  abbrev P : Plan
  P = kept_in (take plan_room S)

  abbrev n : Numbers
  n = numbers_in (drop plan_room S)

  abbrev s : Session
  s = session_of (take plan_room S) n

  -- an event on the numbers in the bytes, and one on the session's
  abbrev on_bytes : Came Seat
  on_bytes = offered P (seat n E N) bytes out

  abbrev on_session : Came Seat
  on_session = offered P (seat (session_numbers s) E N) bytes out

  alike : (on_session.refusal ≡ on_bytes.refusal) × (on_bytes.refusal ≡ 0 → on_session ≡ on_bytes)
  alike =
      offered_alike P n (bool_byte (not (eqb n.ended 0))) (bool_byte (not (eqb n.stopped 0))) E N bytes out (bit_zero (eqb n.ended 0))
      (bit_zero (eqb n.stopped 0))

  took_is : took S bytes E N out ≡ took_with S (event s bytes E N out)
  unfolding took session_in
  took_is = when_true _ _ _ (eq-eqb _ _ long)

  -- the bytes of the numbers on return
  module _ (refusal listed : ℕ) (nums E' N' out' : List ℕ) (long-n : length nums ≡ numbers_room) (bytes-n : Bytes nums)
      (given : came refusal listed (seat (numbers_in nums) E' N') out' ≡ on_bytes) where
    abbrev result : ℕ → Took
    result number = record { number = number; session = take plan_room S ++ nums; elements = E'; nodes = N'; out = out' }

    refusal_is : refusal ≡ on_bytes.refusal
    refusal_is = ap (λ (c : Came Seat). c.refusal) given

    same_answer : (event s bytes E N out).answer ≡ answer_by refusal on_session.listed
    unfolding event settled
    same_answer = ap (λ (k : ℕ). answer_by k on_session.listed) (alike.0 ∙ sym refusal_is)

    refused_took : (refusal ≡ 0 → ⊥) → result refusal ≡ took_with S (event s bytes E N out)
    unfolding answer_by number_of laid_by
    refused_took f =
        let e = given ∙ offered_refused P (seat n E N) bytes out (λ z. f (refusal_is ∙ z))
        ∙ ap (λ (k : ℕ). came k 0 (stopped_at k (seat n E N)) out) (sym refusal_is) in
        let laid : take plan_room S ++ nums ≡ marked_bytes refusal S =
        marked_laid S long bytes-S refusal nums long-n bytes-n (ap (λ (c : Came Seat). c.seat.numbers) e) in
        as_it_was laid (ap (λ (c : Came Seat). c.seat.elements) e) (ap (λ (c : Came Seat). c.seat.nodes) e) (ap (λ (c : Came Seat). c.out) e)
        ∙ ap (took_with S)
        (sym (event_refused s bytes E N out refusal (same_answer ∙ when_false (eqb refusal 0) _ (Refused refusal) (ne_eqb refusal 0 f))))
      where
        as_it_was : {A A' B B' C C' D D' : List ℕ} → A ≡ A' → B ≡ B' → C ≡ C' → D ≡ D' →
            ◌≡◌ {A = Took} (record { number = refusal; session = A; elements = B; nodes = C; out = D })
            (record { number = refusal; session = A'; elements = B'; nodes = C'; out = D' })
        as_it_was a b c d = λ i. record { number = refusal; session = a i; elements = b i; nodes = c i; out = d i }

    laid_is : Said (numbers_in nums) → take plan_room S ++ nums ≡ session_bytes (with_numbers s (numbers_in nums))
    unfolding session_bytes
    laid_is said =
        ap (λ (x : List ℕ). take plan_room S ++ x)
        (numbers_laid nums (numbers_in nums) long-n bytes-n refl ∙ ap (λ (x : Numbers). bytes_of (six x)) (sym (there s (numbers_in nums) said)))

    taken_took : refusal ≡ 0 → result (256 * listed) ≡ took_with S (event s bytes E N out)
    unfolding event settled answer_by number_of laid_by
    taken_took z =
        let e : on_session ≡ came refusal listed (seat (numbers_in nums) E' N') out' = alike.1 (sym refusal_is ∙ z) ∙ sym given in
        let said : Said (numbers_in nums) =
        subst (λ (c : Came Seat). Said c.seat.numbers) e
        (offered_said P (seat (session_numbers s) E N) bytes out (record { ended = bool_byte_le s.ended; stopped = bool_byte_le s.stopped })) in
        ap (λ (x : List ℕ). record { number = 256 * listed; session = x; elements = E'; nodes = N'; out = out' }) (laid_is said)
        ∙ ap (took_with S)
        (ap (λ (a : Answer). record { answer = a; session = with_numbers s (numbers_in nums); elements = E'; nodes = N'; out = out' })
        (sym (when_true (eqb refusal 0) (Taken listed) _ (eq-eqb refusal 0 z)))
        ∙ ap (settled s) (sym e))

    either : (b : Bool) → eqb refusal 0 ≡ b → result (when b (256 * listed) refusal) ≡ took_with S (event s bytes E N out)
    unfolding when
    either true e = taken_took (eqb-true _ _ e)
    either false e = refused_took (eqb-false _ _ e)

    pub takes_bytes : result (event_number refusal listed) ≡ took S bytes E N out
    unfolding event_number
    takes_bytes = either (eqb refusal 0) refl ∙ sym took_is

  -- by the parts of the session's bytes as the code lends them
  pub takes_parts :
      (kept rest : List ℕ) (refusal listed number : ℕ) (nums E' N' out' : List ℕ) → kept ≡ take 288 S → rest ≡ drop 288 S →
      length nums ≡ numbers_room → Bytes (kept ++ nums) →
      came refusal listed (seat (numbers_in nums) E' N') out' ≡ offered (kept_in kept) (seat (numbers_in rest) E N) bytes out →
      number ≡ event_number refusal listed → ExportTakes S bytes E N out number (kept ++ nums) E' N' out'
  takes_parts kept rest refusal listed number nums E' N' out' ek en long-n bytes-b given er =
      let front : kept ≡ take plan_room S = ek ∙ kept_all S in
      ap₂ (λ (x : ℕ) (X : List ℕ). record { number = x; session = X ++ nums; elements = E'; nodes = N'; out = out' }) er front
      ∙ takes_bytes refusal listed nums E' N' out' long-n (last_bytes kept nums bytes-b)
      (given
      ∙ ap₂ (λ (x y : List ℕ). offered (kept_in x) (seat (numbers_in y) E N) bytes out) front (en ∙ rest_all S))
