-- The proof of what is promised of a stopped session: further uses change nothing of it.
--
--   ceased_session      it is the same session afterwards
--   ceased              THE STOP is for ever, and the list, the waiting nodes and the counts are those of its moment
--
-- Assumes nothing.
use Rattle.std.specs.Prelude.{ℕ, ◌≡◌, refl, T, length}
use Rattle.std.proofs.Common.{arith, inl, inr, sym, ap, ◌∙◌, subst}
use mathlib.Core.List.{List, [], ◌++◌, map, Memᴰ}
use borrow.Table.Elements.{map_app}
use Rattle.choice.specs.When.{when_either}
use Rattle.meaning.specs.Query.{Query}
use Rattle.meaning.specs.Standing.{listed, held}
use Rattle.meaning.specs.Stream.{Event, document}
use Rattle.meaning.specs.Answer as meaning
use Rattle.meaning.specs.Answer.{Call, Past, going, too_small, answer, after_all}
use Rattle.meaning.proofs.Answer.Laws.{after_append}
use Rattle.meaning.specs.Answer.Stop.{TurnedAway}
use Rattle.meaning.proofs.Answer.Stop.{stopped_answer, stopped_same, stopped_for_ever, stopped_answers}
use Rattle.query.specs.Decode.{decode}
use Rattle.session.specs.declared.Session.{Session}
use Rattle.session.specs.declared.Answer.{Answer}
use Rattle.session.specs.declared.Answer.TheVariants.{Refused, Taken}
use Rattle.session.specs.declared.Next.{Next}
use Rattle.session.specs.Run.{Housed}
use Rattle.session.specs.Told.{told}
use Rattle.promise.specs.Lending.{left_by}
use Rattle.promise.specs.Promise.{Of, waiting_held}
use Rattle.promise.specs.Promise.Event.{event_answered, event_of_lem}
use Rattle.promise.specs.Theorem.{Use, Reply, Played, unused, by_event, by_finish, Reached, call_of, stream_of, Same, Ceased}
use Rattle.promise.specs.Theorem.Replies.{play_kept, reached_of, nodes_listed, same}
use Rattle.promise.specs.Theorem.Blocks.{played_append, reached_by}

-- an answer that is a refusal by its number is one of the code's
told_refused : (a : Answer) (out : List ℕ) (n : ℕ) → told a out ≡ meaning.refused n → a ≡ Refused n
unfolding told
told_refused (Refused m) out n e = ap Refused (cc)
told_refused (Taken k) out n e = let z : ◌≡◌ {A = ℕ} 0 1 = cc in absurd (omega arith)

left_session : (l : Housed) (E N : List ℕ) (s : Session) (E' N' : List ℕ) → (left_by l E N s E' N').session ≡ s
unfolding left_by
left_session l E N s E' N' = when_either (λ (k : Housed). k.session ≡ s) (too_small (length E) (length N)) _ _ refl refl

turned_session :
    {s : Session} {bytes E N out : List ℕ} {r : Next} {E' N' out' : List ℕ} → Same s bytes E N out r E' N' out' → TurnedAway (told r.answer out') →
    r.session ≡ s
turned_session {r} {out'} w (inl e) = w.others_same 1 (told_refused r.answer out' 1 e) (λ h. omega (arith, h.0))
turned_session {r} {out'} w (inr (inl e)) = w.others_same 15 (told_refused r.answer out' 15 e) (λ h. omega (arith, h.1))
turned_session {r} {out'} w (inr (inr e)) = w.others_same 11 (told_refused r.answer out' 11 e) (λ h. omega (arith, h.1))

ceased_session :
    {b : List ℕ} {p : Past} {l k : Housed} {us : List Use} {rs : List Reply} → T p.stopped → Of b p l → Played l us rs k → k.session ≡ l.session
ceased_session t o unused = refl
ceased_session {b} {p} {l} t o (by_event {bytes} {E} {N} {out} {E'} {N'} {out'} {r} used g rest) =
    let c : Call = Call.event bytes (record { out = length out; elements = length E; nodes = length N }) in
    let away : TurnedAway (told r.answer out') =
    subst TurnedAway (sym (event_answered o bytes E N out used r E' N' out' g)) (stopped_answer (decode b) p t c) in
    let next : Of b p (left_by l E N r.session E' N') =
    subst (λ (x : Past). Of b x (left_by l E N r.session E' N')) (stopped_same (decode b) p t c) (event_of_lem o bytes E N out used r E' N' out' g) in
    ceased_session t next rest ∙ left_session l E N r.session E' N'
    ∙ turned_session (same l.session bytes E N out r E' N' out' g) away
ceased_session t o (by_finish g rest) = ceased_session t o rest

module _ {b : List ℕ} {us us' : List Use} {rs rs' : List Reply} {l k : Housed} (x : Reached b us rs l) (t : T l.session.stopped)
    (y : Played l us' rs' k) where
  abbrev q : Query
  q = decode b

  abbrev p : Past
  p = after_all q (going []) (map call_of us)

  stopped_past : T p.stopped
  stopped_past = subst T (reached_of x).stop t

  abbrev both : Reached b (us ++ us') (rs ++ rs') k
  both = reached_by x (played_append x.played y)

  past_same : after_all q (going []) (map call_of (us ++ us')) ≡ p
  past_same =
      ap (after_all q (going [])) (map_app call_of us us')
      ∙ after_append q (going []) (map call_of us) (map call_of us')
      ∙ stopped_for_ever q p stopped_past (map call_of us')

  pub ceased : Ceased b us rs l us' rs' k
  ceased =
      let stream : stream_of b (us ++ us') ≡ stream_of b us = ap (λ (r : Past). r.events) past_same in
      record {
        session = ceased_session stopped_past (reached_of x) y;
        answered =
            λ a m. stopped_answers q p stopped_past (map call_of us') a (subst (Memᴰ a) (play_kept (reached_of x) y).answered m);
        stream = stream;
        list = nodes_listed both ∙ ap (λ (es : List Event). listed q (document es)) stream ∙ sym (nodes_listed x);
        waits = waiting_held (reached_of both) ∙ ap (λ (es : List Event). held q (document es)) stream ∙ sym (waiting_held (reached_of x));
      }
