-- The promise of the reader holds.
--
--   promised             so
--   fed_read             calls lead to a text that is read
--
-- Assumes nothing.
use Rattle.std.specs.Prelude.{ℕ, suc, ◌+◌, ◌-◌, ◌≤◌, ◌<◌, ◌↔◌, ◌⊎◌, ◌≡◌, Bool, true, false, ltb}
use Rattle.std.proofs.Common.{arith, ap₂, ◌∙◌, length-append, take-append-drop, length-take-le, ltb-true, ltb-false}
use Rattle.std.proofs.Math.Decide.{ℕ_discrete}
use Rattle.std.proofs.Math.Logic.{inl, inr}
use Rattle.std.proofs.Math.Path.{refl, sym, ap, subst}
use mathlib.Core.List.{List, [], ◌∷◌, ◌++◌, append_assoc}
use Rattle.std.proofs.Math.ListN.{length, take, drop}
use Rattle.std.proofs.Math.Seq.{take-append_seam, take-append-add, drop-append_seam}
use Rattle.choice.specs.When.{never}
use Rattle.meaning.specs.Stream.{Stream}
use Rattle.xml.specs.Refused.{scant}
use Rattle.xml.specs.Grammar.{Ev, Document}
use Rattle.xml.specs.Limited.{bounds}
use Rattle.xml.specs.Machine.{State, stands, run}
use Rattle.xml.specs.Sentences.{Begins, Spent, RefusedAt}
use Rattle.xml.specs.Table.{Refusal}
use Rattle.xml.specs.Numbered.{Numbering, numbered, events}
use Rattle.reading.specs.Exactly.{accepts_exactly}
use Rattle.reading.specs.Earliest.{read_exactly, earliest}
use Rattle.reading.specs.Refusing.{Stands, never_both, refused_reads, refused_stands, refused_anywhere}
use Rattle.reading.specs.Streams as streams
use Rattle.reading.specs.Table.{one_number, table, misplaced_is}
use Rattle.listed.specs.Lines.{lines_of}
use Rattle.names.proofs.Built.{build_finds}
use Rattle.names.specs.First.{first_place}
use Rattle.names.specs.Number.{number_of}
use Rattle.names.specs.Number.Laws.{number_within}
use Rattle.limits.specs.Number.{text_of}
use Rattle.modes.specs.declared.Reader.{Reader}
use Rattle.modes.specs.Moves.{open_at}
use Rattle.slots.specs.Slots.{room_needed}
use Rattle.reader.specs.declared.Fed as answered
use Rattle.reader.specs.declared.Finished.{Finished}
use Rattle.reader.specs.Feed.{Came, too_scant, finish_answer, FeedGives, FinishGives, feed_scant, feed_stopped}
use Rattle.text_right.specs.Stands.{state_of}
use Rattle.text_right.specs.Sound.{Sound}
use Rattle.text_right.proofs.Quiet.{Bytes}
use Rattle.reader_right.specs.Records.{records_of, records_in, records_more, same_records}
use Rattle.reader_right.specs.Wrote.{wrote_first, wrote_rest}
use Rattle.reader_right.specs.Counted.{Counted}
use Rattle.reader_right.specs.TextRead.{TextRead, used}
use Rattle.reader_right.proofs.TextRead.{text_begun, FeedCame, feed_came, feed_on}
use Rattle.reader_right.proofs.Ended.{finish_exactly, finish_stops}
use Rattle.reader_right.specs.Theorem.{Fed, begun, fed, lent_scant, Events, Feeds, stopped_at, Refuses, Promised}

module _ (N X : List ℕ) where
  abbrev f : List ℕ → ℕ
  f = number_of N X

  numbering : Numbering f
  numbering = record { from = λ n. (number_within N X n).0; to = λ n. (number_within N X n).1 }

  -- the part of the room that is used is all that counts
  relent : {t R : List ℕ} {r : Reader} {es : List Ev} (S : List ℕ) → used S ≡ used R → TextRead N X t r R es → TextRead N X t r S es
  relent {r = r} {es = es} S e h =
      record {
        unrefused = h.unrefused;
        reads = h.reads ∙ ap (λ Q. stands es (state_of r Q)) (sym e);
        sound = subst (Sound r) (sym e) h.sound;
        counted = subst (λ Q. Counted f Q (open_at r.place)) (sym e) h.counted;
      }

  -- what a feed answered, as the models have it
  as_came : answered.Fed → List ℕ → List ℕ → Came
  as_came c S out = record { reader = c.reader; taken = c.taken; room = S; out = out; written = c.written; refusal = c.refusal }

  -- the text that calls have taken, its events, and their records
  pub record Read (t : List ℕ) (r : Reader) (R bs : List ℕ) : Type 0 where
    pub es : List Ev
    pub read : TextRead N X t r R es
    pub written : bs ≡ records_in f es

  module _
      {t R S' bs out' : List ℕ} {r : Reader} {c : answered.Fed} (u S out : List ℕ)
      (h : Read t r R bs) (bytes : Bytes u) (same : used S ≡ used R) (gives : FeedGives N X u r S out c S' out')
    where
      answer_came : FeedCame N X t r S h.es u out (as_came c S' out')
      unfolding as_came
      answer_came = subst (FeedCame N X t r S h.es u out) (sym gives) (feed_came N X t r S h.es u out (relent S same h.read) bytes)

      more_written : (fs : List Ev) → take c.written out' ≡ records_in f fs → bs ++ take c.written out' ≡ records_in f (h.es ++ fs)
      more_written fs e = ap₂ ◌++◌ h.written e ∙ sym (records_more f h.es fs)

      fed_on : text_of c.refusal ≡ 0 → Read (t ++ take c.taken u) c.reader S' (bs ++ take c.written out')
      unfolding as_came
      fed_on z = go answer_came
        where
          go : FeedCame N X t r S h.es u out (as_came c S' out') → Read (t ++ take c.taken u) c.reader S' (bs ++ take c.written out')
          go (FeedCame.lent_scant e g) =
              let x : text_of c.refusal ≡ scant = ap (λ (y : Came). text_of y.refusal) g in
              absurd (omega (arith, x, z))
          go (FeedCame.went fs e x y k) = record { es = h.es ++ fs; read = x; written = more_written fs (wrote_first k.wrote) }
          go (FeedCame.refused fs b w l q j e k) = absurd (omega (arith, l, z))

  pub fed_read : {t R bs : List ℕ} {r : Reader} → Fed N X t r R bs → Read t r R bs
  unfolding records_of numbered
  fed_read {R = R} {r = r} (begun e l) = record { es = []; read = subst (λ (z : Reader). TextRead N X [] z R []) (sym e) (text_begun N X R l); written = refl }
  fed_read (fed u S out h bytes same gives z) = fed_on u S out (fed_read h) bytes same gives z
  fed_read {t = t} {R = R} {bs = bs} (lent_scant {r = r} u S out h gives e) =
      subst (λ (z : Reader). Read t z R bs) (ap (λ (y : Came). y.reader) (feed_scant N X u r S out e ∙ sym gives)) (fed_read h)

  -- the events of a text that is read
  module _ (t bs : List ℕ) (es : List Ev) (k : State) (e : run bounds t State.start ≡ stands es k) where
    one_reading : (fs : List Ev) → Document bounds t fs → es ≡ fs
    one_reading fs d =
        let q = sym e ∙ (accepts_exactly bounds t fs).1 d in
        (let z : es ≡ fs = cc in z)

    events_of_lem : bs ≡ records_in f es → Events N X t bs
    events_of_lem w =
        let same : events (run bounds t State.start) ≡ es = ap events e in
        record {
          es = es;
          written = w;
          stream = subst (λ gs. Stream (numbered f gs)) same (streams.run_stream f numbering bounds t);
          never_faulted = λ gs hs i q ls lent n s x y. streams.never_faulted f numbering bounds t gs hs i (ap (numbered f) same ∙ s) q ls lent n x y;
          only = one_reading;
        }

  so_far_so : {t R bs : List ℕ} {r : Reader} → Fed N X t r R bs → Events N X t bs × (Begins bounds t ⊎ Spent bounds t)
  so_far_so {t} {R} {bs} {r} h =
      let x = fed_read h in (
        events_of_lem t bs x.es (state_of r (used R)) x.read.reads x.written,
        (read_exactly t).0 (record { evs = x.es; state = state_of r (used R); reads = x.read.reads }),
      )

  -- the end of the text
  module _ {t R bs : List ℕ} {r : Reader} {a : Finished} (h : Read t r R bs) (gives : FinishGives r a) where
    same_refusal : text_of a.refusal ≡ text_of (finish_answer r).refusal
    same_refusal = ap (λ (z : Finished). text_of z.refusal) gives

    accepts_so : (text_of a.refusal ≡ 0) ↔ ((es : List Ev) × Document bounds t es)
    accepts_so = (
      λ e. (h.es, (finish_exactly N X t r R h.es h.read).0 (sym same_refusal ∙ e)),
      λ d.
          same_refusal
          ∙ (finish_exactly N X t r R h.es h.read).1
          (subst (Document bounds t) (sym (one_reading t bs h.es (state_of r (used R)) h.read.reads d.0 d.1))
          d.1),
    )

    unended_so : (text_of a.refusal ≡ 0 → ⊥) → (text_of a.refusal ≡ 44) × (a.reader.refusal ≡ 44)
    unended_so wrong =
        let k = finish_stops N X t r R h.es h.read (λ e. wrong (same_refusal ∙ e)) in
        (same_refusal ∙ k.0, ap (λ (z : Finished). z.reader.refusal) gives ∙ k.1)

  -- a feed
  module _ {t u R bs out out' : List ℕ} {r : Reader} {c : answered.Fed} (x : Feeds N X t u r R bs out c out') where
    before : Read t r R bs
    before = fed_read x.before

    feeds_came : FeedCame N X t r x.S before.es u out (as_came c x.S' out')
    feeds_came = answer_came u x.S out before x.bytes x.same x.gives

    taken_so : text_of c.refusal ≡ 0 → (c.taken ≡ length u) ⊎ (length out < c.written + 16)
    unfolding as_came
    taken_so z = go feeds_came
      where
        go : FeedCame N X t r x.S before.es u out (as_came c x.S' out') → (c.taken ≡ length u) ⊎ (length out < c.written + 16)
        go (FeedCame.lent_scant e g) = never (sym x.enough ∙ e)
        go (FeedCame.went fs e y k w) = k
        go (FeedCame.refused fs b w l q j e k) = absurd (omega (arith, l, z))

    goes_on_so : 0 < length u → (0 < c.taken) ⊎ (0 < text_of c.refusal)
    goes_on_so l =
        subst (λ (y : Came). (0 < y.taken) ⊎ (0 < text_of y.refusal)) (sym x.gives)
        (feed_on N X t r x.S before.es u out (relent x.S x.same before.read) x.bytes x.enough l)

    refuses_so : (text_of c.refusal ≡ 0 → ⊥) → Refuses N X t u bs c out'
    unfolding as_came
    refuses_so wrong = go feeds_came
      where
        sentence_so :
            (b : ℕ) → RefusedAt bounds (text_of c.refusal) (stopped_at t u c) b → Dec (text_of c.refusal ≡ 30)
            → ((text_of c.refusal ≡ 30) × ((q : ℕ) → Refusal bounds q (stopped_at t u c) b → ⊥)) ⊎ Refusal bounds (text_of c.refusal) (stopped_at t u c) b
        sentence_so b at (yes e) = inl (e, ((misplaced_is (stopped_at t u c) b).0 (subst (λ n. RefusedAt bounds n (stopped_at t u c) b) e at)).1)
        sentence_so b at (no d) = inr ((table (text_of c.refusal) (stopped_at t u c) b d).0 at)

        go : FeedCame N X t r x.S before.es u out (as_came c x.S' out') → Refuses N X t u bs c out'
        go (FeedCame.lent_scant e g) = never (sym x.enough ∙ e)
        go (FeedCame.went fs e y k w) = absurd (wrong e)
        go (FeedCame.refused fs b w l q j e k) =
            let at : RefusedAt bounds (text_of c.refusal) (stopped_at t u c) b = record { evs = before.es ++ fs; refuses = e } in
            let reads = refused_reads bounds (text_of c.refusal) (stopped_at t u c) b (before.es ++ fs) e in
            record {
              b = b;
              rest = w;
              byte = j;
              refused_at_lem = at;
              earliest = (earliest (stopped_at t u c) b).0 (text_of c.refusal, at);
              sentence = sentence_so b at (ℕ_discrete (text_of c.refusal) 30);
              events =
                  events_of_lem (stopped_at t u c) (bs ++ take c.written out') (before.es ++ fs) reads.0 reads.1
                  (more_written u x.S out before x.bytes x.same x.gives fs (wrote_first k.wrote));
              stops = q;
            }

    touches_so : (drop c.written out' ≡ drop c.written out) × (drop room_needed x.S' ≡ drop room_needed x.S)
    unfolding as_came
    touches_so = go feeds_came
      where
        go :
            FeedCame N X t r x.S before.es u out (as_came c x.S' out')
            → (drop c.written out' ≡ drop c.written out) × (drop room_needed x.S' ≡ drop room_needed x.S)
        go (FeedCame.lent_scant e g) = never (sym x.enough ∙ e)
        go (FeedCame.went fs e y k w) = (wrote_rest w.wrote, w.past)
        go (FeedCame.refused fs b w l q j e k) = (wrote_rest k.wrote, k.past)

    -- what is taken is read
    taken_stands : Stands bounds (stopped_at t u c)
    unfolding as_came
    taken_stands = go feeds_came
      where
        go : FeedCame N X t r x.S before.es u out (as_came c x.S' out') → Stands bounds (stopped_at t u c)
        go (FeedCame.lent_scant e g) = never (sym x.enough ∙ e)
        go (FeedCame.went fs e y k w) = record { evs = before.es ++ fs; state = state_of c.reader (used x.S'); reads = y.reads }
        go (FeedCame.refused fs b w l q j e k) = refused_stands bounds (text_of c.refusal) (stopped_at t u c) b (record { evs = before.es ++ fs; refuses = e })

  -- no text is read that goes on behind a refused byte
  no_longer : (q b : ℕ) (v w : List ℕ) → RefusedAt bounds q v b → Stands bounds (v ++ (b ∷ w)) → ⊥
  no_longer q b v w h y = never_both (sym y.reads ∙ ((refused_anywhere bounds q v b w).0 h).1)

  -- a part of a block that goes past the byte b behind v
  past : (u v w : List ℕ) (b n : ℕ) → u ≡ v ++ (b ∷ w) → length v < n → take n u ≡ v ++ (b ∷ take (n - suc (length v)) w)
  past u v w b n e l =
      let m : n ≡ length v + suc (n - suc (length v)) = omega arith in
      ap (take n) e ∙ ap (λ k. take k (v ++ (b ∷ w))) m ∙ take-append-add v (b ∷ w) (suc (n - suc (length v)))

  module _ {t u R bs out out' : List ℕ} {r : Reader} {c : answered.Fed} (v w : List ℕ) (b q : ℕ)
      (x : Feeds N X t u r R bs out c out') (e : u ≡ v ++ (b ∷ w)) (at : RefusedAt bounds q (t ++ v) b) where
    not_past : length v < c.taken → ⊥
    not_past l =
        no_longer q b (t ++ v) (take (c.taken - suc (length v)) w) at
        (subst (Stands bounds) (ap (λ z. t ++ z) (past u v w b c.taken e l) ∙ sym (append_assoc t v _)) (taken_stands x))

    -- nor does it stop before
    not_before : (text_of c.refusal ≡ 0 → ⊥) → c.taken < length v → ⊥
    not_before wrong l =
        let y = refuses_so x wrong in
        let p = take c.taken u in
        let far : length u ≡ length v + suc (length w) = ap length e ∙ length-append v (b ∷ w) in
        let n = length-take-le c.taken u (omega arith) in
        let split : u ≡ take c.taken u ++ (y.b ∷ y.rest) = sym (take-append-drop c.taken u) ∙ ap (λ z. p ++ z) y.byte in
        let here = sym (ap (take (length v)) e ∙ take-append_seam v (b ∷ w)) ∙ past u p y.rest y.b (length v) split (omega arith) in
        no_longer (text_of c.refusal) y.b (stopped_at t u c) (take (length v - suc (length p)) y.rest) y.refused_at_lem
        (subst (Stands bounds) (ap (λ z. t ++ z) here ∙ sym (append_assoc t p _)) (refused_stands bounds q (t ++ v) b at))

    no_further_so : (c.taken ≤ length v) × ((text_of c.refusal ≡ 0 → ⊥) → (c.taken ≡ length v) × (text_of c.refusal ≡ q))
    no_further_so = (most, λ wrong. (exactly wrong, number wrong))
      where
        most : c.taken ≤ length v
        most = go (ltb (length v) c.taken) refl
          where
            go : (z : Bool) → ltb (length v) c.taken ≡ z → c.taken ≤ length v
            go true l = absurd (not_past (ltb-true _ _ l))
            go false l = ltb-false _ _ l

        exactly : (text_of c.refusal ≡ 0 → ⊥) → c.taken ≡ length v
        exactly wrong = go (ltb c.taken (length v)) refl
          where
            go : (z : Bool) → ltb c.taken (length v) ≡ z → c.taken ≡ length v
            go true l = absurd (not_before wrong (ltb-true _ _ l))
            go false l = let k : length v ≤ c.taken = ltb-false _ _ l in omega (arith, most, k)

        number : (text_of c.refusal ≡ 0 → ⊥) → text_of c.refusal ≡ q
        number wrong =
            let y = refuses_so x wrong in
            let n = exactly wrong in
            let first : take c.taken u ≡ v = ap (λ k. take k u) n ∙ ap (take (length v)) e ∙ take-append_seam v (b ∷ w) in
            let later : y.b ∷ y.rest ≡ b ∷ w = sym y.byte ∙ ap (λ k. drop k u) n ∙ ap (drop (length v)) e ∙ drop-append_seam v (b ∷ w) in
            let same : y.b ≡ b = cc in
            one_number bounds (text_of c.refusal) q (t ++ v) b
            (subst (λ z. RefusedAt bounds (text_of c.refusal) (t ++ v) z) same
            (subst (λ z. RefusedAt bounds (text_of c.refusal) (t ++ z) y.b) first y.refused_at_lem)) at

  document_so :
      {t u R bs out out' : List ℕ} {r : Reader} {c : answered.Fed} {es : List Ev} (v : List ℕ)
      → Feeds N X t u r R bs out c out'
      → Document bounds (t ++ (u ++ v)) es
      → text_of c.refusal ≡ 0
  document_so {t} {u} {bs = bs} {out' = out'} {c = c} {es = es} v x d = by_test (ℕ_discrete (text_of c.refusal) 0)
    where
      -- a document that goes on behind a refused byte
      refused_document : Refuses N X t u bs c out' → ⊥
      refused_document y =
          let p = take c.taken u in
          let split : u ++ v ≡ p ++ ((y.b ∷ []) ++ (y.rest ++ v)) =
          ap (λ z. z ++ v) (sym (take-append-drop c.taken u) ∙ ap (λ z. p ++ z) y.byte) ∙ append_assoc p (y.b ∷ y.rest) v in
          let whole : t ++ (u ++ v) ≡ (stopped_at t u c ++ (y.b ∷ [])) ++ (y.rest ++ v) =
          ap (λ z. t ++ z) split
          ∙ sym (append_assoc t p ((y.b ∷ []) ++ (y.rest ++ v)))
          ∙ sym (append_assoc (t ++ p) (y.b ∷ []) (y.rest ++ v)) in
          y.earliest.1 (record { rest = y.rest ++ v; evs = es; whole = subst (λ z. Document bounds z es) whole d })

      by_test : Dec (text_of c.refusal ≡ 0) → text_of c.refusal ≡ 0
      by_test (yes e) = e
      by_test (no wrong) = absurd (refused_document (refuses_so x wrong))

  -- a stopped reader
  stopped_so :
      {S' out' : List ℕ} {r : Reader} {c : answered.Fed} (u S out : List ℕ)
      → FeedGives N X u r S out c S' out'
      → too_scant (length S) (length X) (length out) ≡ false
      → (r.refusal ≡ 0 → ⊥)
      → (text_of c.refusal ≡ 46) × (c.reader ≡ r) × (c.taken ≡ 0) × (c.written ≡ 0) × (S' ≡ S) × (out' ≡ out)
  stopped_so {r = r} u S out gives lent wrong =
      let e = gives ∙ sym (feed_stopped N X u r S out lent wrong) in (
        ap (λ (y : Came). text_of y.refusal) e,
        ap (λ (y : Came). y.reader) e,
        ap (λ (y : Came). y.taken) e,
        ap (λ (y : Came). y.written) e,
        ap (λ (y : Came). y.room) e,
        ap (λ (y : Came). y.out) e,
      )

pub promised : (N X : List ℕ) → Promised N X
promised N X =
    record {
      so_far = so_far_so N X;
      accepts = λ h gives. accepts_so N X (fed_read N X h) gives;
      unended_else = λ h gives wrong. unended_so N X (fed_read N X h) gives wrong;
      never_unfinished = λ {t} {R} {bs} {r} {es} q n h d e. streams.never_unfinished (number_of N X) (numbering N X) bounds q t es n d e;
      taken = taken_so N X;
      goes_on = goes_on_so N X;
      touches = touches_so N X;
      document_taken = document_so N X;
      refuses = refuses_so N X;
      no_further = no_further_so N X;
      stopped = stopped_so N X;
      numbers_first = λ x l gives right es. same_records (number_of N X) (first_place (lines_of N)) (build_finds N x X l gives right) es;
    }
