-- Offers that follow each other.
--
--   progress_none        before the first record
--   progress_going       where no record was refused the session is not stopped
--   progress_then        some records, and then some of those behind them
--   progress_more        bytes that come behind change nothing, as long as no record was refused
--   progress_short       what is left is under 8 bytes: a bad record
--   progress_all, progress_refused     all is taken, or one was refused: what offering all of the bytes comes to
--   progress_same        where a whole record was refused, what follows changes nothing
--   progress_count       each taken record is an event
--   progress_few         no more than two events for each node that may be opened are accepted
--
-- Assumes nothing.
use Rattle.std.specs.Prelude.{ℕ, ◌+◌, ◌-◌, ◌*◌, ◌/◌, ◌≤◌, ◌<◌, ◌≡◌, refl, Bool, false, List, [], ◌++◌, length, drop}
use Rattle.std.proofs.Common.{zero-add, arith, sym, ap, ◌∙◌, subst, append-nil, append_assoc, length-append, length-drop, drop-drop}
use Rattle.std.proofs.Math.Option.{none, some}
use Rattle.meaning.specs.Limits.{node_limit}
use Rattle.meaning.specs.Stream.{Event, document}
use Rattle.meaning.specs.Standing.{listed}
use Rattle.meaning.specs.Answer.{going}
use Rattle.meaning.specs.Offering.{offering, offering_all}
use Rattle.meaning.proofs.Offering.Laws.{offering_then, offering_refused, offering_more, offering_short, length_offered, most_events}
use Rattle.query.specs.Decode.{decode}
use Rattle.session.specs.Run.{Housed}
use Rattle.promise.specs.Promise.{Of}
use Rattle.turns.specs.Progress.{Progress}

pub progress_none : {b : List ℕ} {es : List Event} {l : Housed} (bs : List ℕ) → Of b (going es) l → Progress b es bs l 0 0 []
unfolding offering
progress_none {b} {es} bs o =
    record {
      events = es;
      stop = false;
      reached = o;
      going_on = λ z. refl;
      within = omega arith;
      accepted = refl;
      left = λ z. absurd (z refl);
      refused = λ z. absurd (z refl);
      listing = append-nil (listed (decode b) (document es));
    }

module _ {b : List ℕ} {es : List Event} {bs : List ℕ} {l : Housed} {t : ℕ} {ns : List ℕ} (o : Progress b es bs l t 0 ns) where
  pub progress_going : Of b (going o.events) l
  progress_going = subst (λ (x : Bool). Of b (record { events = o.events; stopped = x }) l) (o.going_on refl) o.reached

  pub progress_then :
      {l' : Housed} {t' r : ℕ} {ns' : List ℕ} → Progress b o.events (drop (8 * t) bs) l' t' r ns' → Progress b es bs l' (t + t') r (ns ++ ns')
  progress_then {l'} {t'} {r} {ns'} p =
      let at : 8 * t + 8 * t' ≡ 8 * (t + t') = omega arith in
      let rest : drop (8 * t') (drop (8 * t) bs) ≡ drop (8 * (t + t')) bs = drop-drop (8 * t') (8 * t) bs ∙ ap (λ (k : ℕ). drop k bs) at in
      record {
        events = p.events;
        stop = p.stop;
        reached = p.reached;
        going_on = p.going_on;
        within = omega (arith, o.within, p.within, length-drop (8 * t) bs);
        accepted = offering_then (decode b) t t' es o.events bs o.accepted ∙ p.accepted;
        left = λ z. omega (arith, o.within, p.left z, length-drop (8 * t) bs);
        refused = λ z. ap (offering (decode b) 1 p.events) (sym rest) ∙ p.refused z;
        listing =
            sym (append_assoc (listed (decode b) (document es)) ns ns')
            ∙ ap (λ (l : List ℕ). l ++ ns') o.listing
            ∙ p.listing;
      }

  pub progress_more : (more : List ℕ) → Progress b es (bs ++ more) l t 0 ns
  progress_more more =
      record {
        events = o.events;
        stop = o.stop;
        reached = o.reached;
        going_on = o.going_on;
        within = omega (arith, o.within, length-append bs more);
        accepted = offering_more (decode b) t es bs more o.within ∙ o.accepted;
        left = λ z. absurd (z refl);
        refused = λ z. absurd (z refl);
        listing = o.listing;
      }

  -- "Leftover bytes under 8 are a bad record."
  pub progress_short : 8 * t < length bs → length bs < 8 * t + 8 → Progress b es bs l t 2 ns
  progress_short beyond few =
      record {
        events = o.events;
        stop = o.stop;
        reached = o.reached;
        going_on = λ z. absurd (omega arith);
        within = o.within;
        accepted = o.accepted;
        left = λ z. beyond;
        refused = λ z. offering_short (decode b) o.events (drop (8 * t) bs) (omega (arith, length-drop (8 * t) bs));
        listing = o.listing;
      }

-- the whole of the bytes

module _ {b bs : List ℕ} {l : Housed} {t r : ℕ} {ns : List ℕ} (o : Progress b [] bs l t r ns) where
  pub progress_all : r ≡ 0 → length bs ≤ 8 * t → offering_all (decode b) bs ≡ record { events = o.events; refusal = none }
  progress_all z h =
      let n : (length bs + 7) / 8 ≡ t = omega (arith, o.within) in
      ap (λ (k : ℕ). offering (decode b) k [] bs) n ∙ o.accepted

  pub progress_refused : (r ≡ 0 → ⊥) → offering_all (decode b) bs ≡ record { events = o.events; refusal = some r }
  progress_refused z =
      let n : (length bs + 7) / 8 ≡ (t + 1) + ((length bs + 7) / 8 - (t + 1)) = omega (arith, o.left z) in
      ap (λ (k : ℕ). offering (decode b) k [] bs) n
      ∙ offering_refused (decode b) (t + 1) _ [] o.events r bs
      (offering_then (decode b) t 1 [] o.events bs o.accepted ∙ o.refused z)

  -- a refused record that is whole is refused whatever follows it
  pub progress_same : (r ≡ 0 → ⊥) → 8 * t + 8 ≤ length bs → (more : List ℕ) → offering_all (decode b) (bs ++ more) ≡ offering_all (decode b) bs
  progress_same z h more =
      let n : (length (bs ++ more) + 7) / 8 ≡ (t + 1) + ((length (bs ++ more) + 7) / 8 - (t + 1)) = omega (arith, length-append bs more) in
      ap (λ (k : ℕ). offering (decode b) k [] (bs ++ more)) n
      ∙ offering_refused (decode b) (t + 1) _ [] o.events r (bs ++ more)
      (offering_more (decode b) (t + 1) [] bs more (omega arith) ∙ offering_then (decode b) t 1 [] o.events bs o.accepted ∙ o.refused z)
      ∙ sym (progress_refused z)

  pub progress_count : length o.events ≡ t
  progress_count = length_offered (decode b) t [] o.events bs o.accepted ∙ zero-add t

  pub progress_few : t ≤ 2 * node_limit
  progress_few = omega (arith, progress_count, most_events (decode b) o.events o.reached.stream o.reached.bounds)
