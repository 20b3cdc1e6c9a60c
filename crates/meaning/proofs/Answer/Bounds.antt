-- What the refusals bound: after any calls a session's limits hold, and what one event hands out fits into the output that is needed.
--
--   Bounded q es        after the accepted events es no more elements are open, nodes opened and nodes held than may be
--   closed_held         a close never raises the number held
--   after_bounded       a call leaves the bounds true
--   accepted_within     any calls from the start leave them true
--   handed_few          one call hands out at most the nodes held before and one more
--   answer_fits         after any calls, the list records of one more call fit into the output that is needed
--   handed_within       no number that a call hands out is past the last node's
--
-- Assumes nothing.
use Rattle.std.specs.Prelude.{ℕ, suc, pred, ◌+◌, ◌*◌, ◌≤◌, ◌<◌, ◌≡◌, List, [], ◌∷◌, ◌++◌, length, get_or}
use Rattle.std.proofs.Common.{arith, sym, ap, ◌∙◌, append-nil, length-append, get_or-append-add}
use Rattle.std.proofs.Math.Path.{refl, subst}
use Rattle.std.proofs.Math.Option.{Option, none, some}
use Rattle.meaning.specs.Limits.{depth_limit, held_limit, node_limit, output_needed}
use Rattle.meaning.proofs.Limits.Laws.{depth_is, held_is, node_limit_is, output_is}
use Rattle.meaning.specs.Refusals.{too_deep, too_many_nodes, too_many_held}
use Rattle.meaning.specs.Query.{Query}
use Rattle.meaning.specs.Document.{count_row, count, depth}
use Rattle.meaning.proofs.Document.Laws.{depth_opened, depth_closed, count_opened, count_closed}
use Rattle.meaning.specs.Stream.{Event, opens, closes, act, run, document}
use Rattle.meaning.proofs.Stream.Laws.{document_append}
use Rattle.meaning.specs.Record.{event_of}
use Rattle.meaning.proofs.Record.Laws.{event_exactly}
use Rattle.meaning.specs.Selection.{marks_row, marks, selections}
use Rattle.meaning.specs.Standing.{standings_of, standings, held_from, listed, held}
use Rattle.meaning.proofs.Standing.Laws.{listed_within}
use Rattle.meaning.proofs.Standing.Settling.{held_shrinks, listed_most}
use Rattle.meaning.proofs.Demands.{standings_run, length_standings}
use Rattle.meaning.specs.Answer.{Lent, Call, event, finish, Past, going, refusals, first, answer, events_of, call_events, after_if, after}
use Rattle.meaning.specs.Answer.{after_all, handed_by}
use Rattle.meaning.proofs.Answer.Laws.{none_applies, call_listed}
use Rattle.meaning.specs.Answer.Exactly.{Due, too_deep_lem, too_many, too_many_held_lem}
use Rattle.meaning.proofs.Answer.Exactly.{applies_exactly}

pub record Bounded (q : Query) (es : List Event) : Type 0 where
  pub deep : depth (document es) ≤ depth_limit
  pub nodes : count (document es) ≤ node_limit
  pub held_nodes : length (held q (document es)) ≤ held_limit

-- the document after one more event
document_one : (es : List Event) (e : Event) → document (es ++ (e ∷ [])) ≡ act e (document es)
unfolding run
document_one es e = document_append es (e ∷ [])

depth_open : (es : List Event) (n : ℕ) → depth (document (es ++ (opens n ∷ []))) ≡ suc (depth (document es))
unfolding act
depth_open es n = ap depth (document_one es (opens n)) ∙ depth_opened _ (document es)

depth_close : (es : List Event) (n : ℕ) → depth (document (es ++ (closes n ∷ []))) ≡ pred (depth (document es))
unfolding act
depth_close es n = ap depth (document_one es (closes n)) ∙ depth_closed (document es)

count_open : (es : List Event) (n : ℕ) → count (document (es ++ (opens n ∷ []))) ≡ suc (count (document es))
unfolding act
count_open es n = ap count (document_one es (opens n)) ∙ count_opened _ (document es)

count_close : (es : List Event) (n : ℕ) → count (document (es ++ (closes n ∷ []))) ≡ count (document es)
unfolding act
count_close es n = ap count (document_one es (closes n)) ∙ count_closed (document es)

open_bounded :
    (q : Query) (es : List Event) (n : ℕ) → (depth_limit ≤ depth (document es) → ⊥) → (node_limit ≤ count (document es) → ⊥) →
    (held_limit < length (held q (document (es ++ (opens n ∷ [])))) → ⊥) → Bounded q (es ++ (opens n ∷ []))
open_bounded q es n f g h =
    record { deep = omega (arith, depth_open es n); nodes = omega (arith, count_open es n); held_nodes = omega arith }

pub closed_held : (q : Query) (es : List Event) (n : ℕ) → length (held q (document (es ++ (closes n ∷ [])))) ≤ length (held q (document es))
unfolding held
closed_held q es n =
    held_shrinks 1 (standings_run q es (closes n ∷ []))
    (length_standings q (document es) ∙ sym (length_standings q (document (es ++ (closes n ∷ []))) ∙ count_close es n))

close_bounded : (q : Query) (es : List Event) (n : ℕ) → Bounded q es → Bounded q (es ++ (closes n ∷ []))
close_bounded q es n w =
    record {
      deep = omega (arith, depth_close es n, w.deep);
      nodes = omega (arith, count_close es n, w.nodes);
      held_nodes = omega (arith, closed_held q es n, w.held_nodes);
    }

module _ (q : Query) (p : Past) where
  event_bounded :
      (bs : List ℕ) (lent : Lent) → ((s : ℕ) → Due q p (event bs lent) s → ⊥) → Bounded q p.events →
      (o : Option Event) → event_of bs ≡ o → Bounded q (p.events ++ events_of o)
  unfolding events_of
  event_bounded bs lent f w none is = subst (Bounded q) (sym (append-nil p.events)) w
  event_bounded bs lent f w (some (opens n)) is =
      let k = (event_exactly bs (opens n)).0 is in
      open_bounded q p.events n (λ h. f too_deep (too_deep_lem k (omega (arith, depth_is, h))))
      (λ h. f too_many_nodes (too_many k (omega (arith, node_limit_is, h)))) (λ h. f too_many_held (too_many_held_lem k (omega (arith, held_is, h))))
  event_bounded bs lent f w (some (closes n)) is = close_bounded q p.events n w

  call_bounded : (c : Call) → ((s : ℕ) → Due q p c s → ⊥) → Bounded q p.events → Bounded q (p.events ++ call_events c)
  unfolding call_events
  call_bounded (event bs lent) f w = event_bounded bs lent f w (event_of bs) refl
  call_bounded finish f w = subst (Bounded q) (sym (append-nil p.events)) w

  pub after_bounded : (c : Call) → Bounded q p.events → Bounded q (after q p c).events
  unfolding after after_if
  after_bounded c w = go (first (refusals q p c)) refl
    where
      go : (o : Option ℕ) → first (refusals q p c) ≡ o → Bounded q (after_if o p (call_events c)).events
      go (some r) e = w
      go none e = call_bounded c (λ s d. none_applies q p c e s ((applies_exactly q p c s).1 d)) w

accepted_bounded : (q : Query) (p : Past) (cs : List Call) → Bounded q p.events → Bounded q (after_all q p cs).events
unfolding after_all
accepted_bounded q p [] w = w
accepted_bounded q p (c ∷ cs) w = accepted_bounded q (after q p c) cs (after_bounded q p c w)

start_bounded : (q : Query) → Bounded q []
unfolding document run depth count count_row held held_from standings standings_of selections marks marks_row
start_bounded q = record { deep = omega arith; nodes = omega arith; held_nodes = omega arith }

pub accepted_within : (q : Query) (cs : List Call) → Bounded q (after_all q (going []) cs).events
accepted_within q cs = accepted_bounded q (going []) cs (start_bounded q)

-- one event opens at most one node
count_one : (es : List Event) (o : Option Event) → count (document (es ++ events_of o)) ≤ suc (count (document es))
unfolding events_of
count_one es none = let e : count (document (es ++ [])) ≡ count (document es) = ap (λ fs. count (document fs)) (append-nil es) in omega arith
count_one es (some (opens n)) = omega (arith, count_open es n)
count_one es (some (closes n)) = omega (arith, count_close es n)

after_one : (q : Query) (p : Past) (c : Call) → (o : Option Event) × ((after q p c).events ≡ p.events ++ events_of o)
unfolding after after_if events_of call_events
after_one q p c = go (first (refusals q p c)) c
  where
    go : (o : Option ℕ) (c : Call) → (x : Option Event) × ((after_if o p (call_events c)).events ≡ p.events ++ events_of x)
    go (some r) c = (none, sym (append-nil p.events))
    go none (event bs lent) = (event_of bs, refl)
    go none finish = (none, refl)

listed_grows_by :
    (q : Query) (es fs : List Event) →
    length (listed q (document (es ++ fs))) + count (document es) ≤
    length (listed q (document es)) + length (held q (document es)) + count (document (es ++ fs))
unfolding listed held
listed_grows_by q es fs =
    let a : length (standings q (document es)) ≡ count (document es) = length_standings q (document es) in
    let b : length (standings q (document (es ++ fs))) ≡ count (document (es ++ fs)) = length_standings q (document (es ++ fs)) in
    omega (arith, listed_most 1 (standings_run q es fs))

pub handed_few : (q : Query) (p : Past) (c : Call) → length (handed_by (answer q p c)) ≤ suc (length (held q (document p.events)))
handed_few q p c =
    let es = p.events in
    let w = after_one q p c in
    let e : length (listed q (document es)) + length (handed_by (answer q p c)) ≡ length (listed q (document (es ++ events_of w.0))) =
    sym (length-append (listed q (document es)) (handed_by (answer q p c)))
    ∙ ap length (call_listed q p c ∙ ap (λ fs. listed q (document fs)) w.1) in
    omega (arith, listed_grows_by q es (events_of w.0), count_one es w.0)

-- "1,024 held nodes and the newly opened one can all go at once"
pub answer_fits : (q : Query) (cs : List Call) (c : Call) → 4 * length (handed_by (answer q (after_all q (going []) cs) c)) ≤ output_needed
answer_fits q cs c = omega (arith, held_is, output_is, handed_few q (after_all q (going []) cs) c, (accepted_within q cs).held_nodes)

pub handed_within : (q : Query) (p : Past) (c : Call) (i : ℕ) → get_or (handed_by (answer q p c)) i 0 ≤ suc (count (document (after q p c).events))
unfolding listed
handed_within q p c i =
    let l = listed q (document p.events) in
    let d = document (after q p c).events in
    let e : get_or (l ++ handed_by (answer q p c)) (length l + i) 0 ≡ get_or (handed_by (answer q p c)) i 0 =
    get_or-append-add l (handed_by (answer q p c)) i 0 in
    let g : get_or (listed q d) (length l + i) 0 ≤ 1 + length (standings q d) = listed_within 1 (standings q d) _ in
    let k : length (standings q d) ≡ count d = length_standings q d in
    omega (arith, ap (λ ns. get_or ns (length l + i) 0) (call_listed q p c))
