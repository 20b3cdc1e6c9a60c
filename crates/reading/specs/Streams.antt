-- The events of a text are a stream that a session takes: the refusals 2, 3 and 4 never apply to one of them, nor 8 at the end of a document.
--
--   run_stream             the events of any text, refused or not, are a stream
--   document_finished      those of a document are a finished one
--   always_at              what always holds holds of each event as it comes
--   recorded               each event has a record
--   never_faulted          none of them, offered after those before it, is refused with 2, 3 or 4
--   never_unfinished       after those of a document finish is not refused
--
-- Assumes nothing. NOT here: refusals 5, 6 and 7, which limits of a session give.
use Rattle.std.specs.Prelude.{ℕ, ◌+◌, ◌*◌, ◌/◌, ◌%◌, ◌≡◌, refl, Bool, List, [], ◌∷◌, ◌++◌}
use Rattle.std.proofs.Common.{arith, sym, T_not}
use Rattle.std.proofs.Math.Path.{subst}
use Rattle.std.proofs.Math.Dec.{T}
use Rattle.meaning.specs.Name.{is_name}
use Rattle.meaning.specs.Query.{Query}
use Rattle.meaning.specs.Document.{Doc, done, within, blank, finished, ends_at}
use Rattle.meaning.proofs.Document.Laws.{finished_exactly, ends_exactly}
use Rattle.meaning.specs.Stream as stream
use Rattle.meaning.specs.Stream.{Event, fits, act, document, always, Stream}
use Rattle.meaning.specs.Record.Laws.{Number, Records, open_record, close_record}
use Rattle.meaning.proofs.Record.Laws.{name_exactly, event_exactly}
use Rattle.meaning.specs.Answer.{Lent, event, finish, refused, going, answer}
use Rattle.meaning.specs.Answer.Exactly.{Due}
use Rattle.meaning.proofs.Answer.Exactly.{refused_exactly}
use Rattle.xml.specs.Bounds.{remark_name}
use Rattle.xml.proofs.Class.Laws.{and_l, and_r, and_i}
use Rattle.xml.specs.Grammar.{Limits, Ev, opens, closes, remark, Document}
use Rattle.xml.specs.Machine.{State, Result, stopped, stands, run}
use Rattle.xml.specs.Numbered.{Numbering, numbered, events}
use Rattle.reading.specs.Cut.{stopped_after}
use Rattle.reading.specs.Account.Sound.{run_account}
use Rattle.reading.specs.Feeds.{named, remark_named, document_fed, after_fed}

-- what always holds holds of each event as it comes
pub always_at :
    (ok : Event → Doc → Bool) (es : List Event) (e : Event) (gs : List Event) (d : Doc)
    → T (always ok (es ++ (e ∷ gs)) d)
    → T (ok e (stream.run es d))
unfolding always stream.run
always_at ok [] e gs d t = and_l (ok e d) _ t
always_at ok (x ∷ es) e gs d t = always_at ok es e gs (act x d) (and_r (ok x d) _ t)

-- the name of an event is one
is_named : Event → Doc → Bool
is_named (stream.opens n) d = is_name n
is_named (stream.closes n) d = is_name n

numbered_named : (f : List ℕ → ℕ) → Numbering f → (es : List Ev) (d : Doc) → T (always is_named (numbered f es) d)
unfolding numbered always is_named
numbered_named f F [] d = tt
numbered_named f F (opens n ∷ es) d = and_i (is_name (f n)) _ (named f F n) (numbered_named f F es _)
numbered_named f F (closes n ∷ es) d = and_i (is_name (f n)) _ (named f F n) (numbered_named f F es _)
numbered_named f F (remark ∷ es) d =
    and_i (is_name remark_name) _ (remark_named f F) (and_i (is_name remark_name) _ (remark_named f F) (numbered_named f F es _))

-- "Byte 0 is the kind: 1 opens an element, 2 closes one. Byte 1 is 0. Bytes 2 and 3 are the name number, 1 to 65,535. Bytes 4 to 7 are 0."
abbrev pub record_bytes : ℕ → ℕ → List ℕ
record_bytes kind n = kind ∷ 0 ∷ (n / 256) ∷ (n % 256) ∷ 0 ∷ 0 ∷ 0 ∷ 0 ∷ []

two_bytes : (n : ℕ) → 256 * (n / 256) + n % 256 ≡ n
two_bytes n = omega arith

-- an event with a name has a record
named_record : (e : Event) (d : Doc) → T (is_named e d) → (bs : List ℕ) × Records bs e
unfolding is_named
named_record (stream.opens n) d t =
    let k : Number (256 * (n / 256) + n % 256) = subst Number (sym (two_bytes n)) ((name_exactly n).0 t) in
    (record_bytes 1 n, subst (λ m. Records (record_bytes 1 n) (stream.opens m)) (two_bytes n) (open_record k))
named_record (stream.closes n) d t =
    let k : Number (256 * (n / 256) + n % 256) = subst Number (sym (two_bytes n)) ((name_exactly n).0 t) in
    (record_bytes 2 n, subst (λ m. Records (record_bytes 2 n) (stream.closes m)) (two_bytes n) (close_record k))

-- two events of one record are one
same_event : (bs : List ℕ) (e e' : Event) → Records bs e → Records bs e' → e ≡ e'
same_event bs e e' h g = let x = (event_exactly bs e).1 h in let y = (event_exactly bs e').1 g in cc

ends_unfinished : (n : ℕ) (d : Doc) → T (ends_at n d) → T (finished d) → ⊥
unfolding ends_at finished
ends_unfinished n (done r) t u = t
ends_unfinished n (within p x d) t u = u

fits_unfinished : (e : Event) (d : Doc) → T (fits e d) → T (finished d) → ⊥
unfolding fits
fits_unfinished (stream.opens n) d t u = T_not (finished d) (and_r (is_name n) _ t) u
fits_unfinished (stream.closes n) d t u = ends_unfinished n d t u

fits_closes : (n : ℕ) (d : Doc) → T (fits (stream.closes n) d) → T (ends_at n d)
unfolding fits
fits_closes n d t = t

-- an event that fits is no bad record, does not come after the end, and does not close another element
fits_taken :
    (q : Query) (fs : List Event) (e : Event) (bs : List ℕ) (lent : Lent) {r : ℕ}
    → T (fits e (document fs))
    → Records bs e
    → Due q (going fs) (event bs lent) r
    → (r ≡ 2 → ⊥) × (r ≡ 3 → ⊥) × (r ≡ 4 → ⊥)
fits_taken q fs e bs lent t h (Due.short_output_lem x) = omega arith
fits_taken q fs e bs lent t h (Due.short_room_lem x) = omega arith
fits_taken q fs e bs lent t h (Due.already_stopped_lem x) = omega arith
fits_taken q fs e bs lent t h (Due.bad_record_lem x) = absurd (x e h)
fits_taken q fs e bs lent t h (Due.document_closed x y) = absurd (fits_unfinished e (document fs) t ((finished_exactly (document fs)).1 (x, y)))
fits_taken q fs e bs lent t h (Due.wrong_close_lem {n = n} x y) =
    absurd
    (y ((ends_exactly n (document fs)).0 (fits_closes n (document fs) (subst (λ z. T (fits z (document fs))) (same_event bs e (stream.closes n) h x) t))))
fits_taken q fs e bs lent t h (Due.too_deep_lem x y) = omega arith
fits_taken q fs e bs lent t h (Due.too_many x y) = omega arith
fits_taken q fs e bs lent t h (Due.too_many_held_lem x y) = omega arith

module _ (f : List ℕ → ℕ) (F : Numbering f) (L : Limits) where
  -- the events of any text are a stream
  pub run_stream : (t : List ℕ) → Stream (numbered f (events (run L t State.start)))
  run_stream t = go (run L t State.start) refl
    where
      go : (r : Result) → run L t State.start ≡ r → Stream (numbered f (events r))
      go (stands es k) e = after_fed f F L (run_account L t es k e)
      go (stopped es r v) e = let (u, k, x, y) = stopped_after L t State.start es r v e in after_fed f F L (run_account L u es k y)

  pub document_finished : (t : List ℕ) (es : List Ev) → Document L t es → T (finished (document (numbered f es)))
  unfolding document
  document_finished t es d =
      let h = document_fed f F L d in
      subst (λ z. T (finished z)) (sym h.leads.to) (subst T (sym h.looks.ended) tt)

  -- an event of a text, and those before it and behind it
  module _ (t : List ℕ) (fs gs : List Event) (e : Event) (s : numbered f (events (run L t State.start)) ≡ fs ++ (e ∷ gs)) where
    pub fits_each : T (fits e (document fs))
    unfolding document
    fits_each = always_at fits fs e gs blank (subst (λ z. T (always fits z blank)) s (run_stream t))

    pub recorded : (bs : List ℕ) × Records bs e
    recorded =
        named_record e (stream.run fs blank)
        (always_at is_named fs e gs blank (subst (λ z. T (always is_named z blank)) s (numbered_named f F (events (run L t State.start)) blank)))

    -- offered after those before it, it is not refused with 2, 3 or 4
    pub never_faulted :
        (q : Query) (bs : List ℕ) (lent : Lent) (r : ℕ)
        → Records bs e
        → answer q (going fs) (event bs lent) ≡ refused r
        → (r ≡ 2 → ⊥) × (r ≡ 3 → ⊥) × (r ≡ 4 → ⊥)
    never_faulted q bs lent r h x = fits_taken q fs e bs lent fits_each h ((refused_exactly q (going fs) (event bs lent) r).0 x).0

  finish_due : (q : Query) (es : List Event) {r : ℕ} → T (finished (document es)) → Due q (going es) finish r → ⊥
  finish_due q es t (Due.already_stopped_lem x) = x
  finish_due q es t (Due.no_document x) = let z = (finished_exactly (document es)).0 t in omega (arith, z.0)
  finish_due q es t (Due.still_open x) = let z = (finished_exactly (document es)).0 t in omega (arith, z.1)

  -- after the events of a document finish is not refused
  pub never_unfinished :
      (q : Query) (t : List ℕ) (es : List Ev) (r : ℕ) → Document L t es → answer q (going (numbered f es)) finish ≡ refused r → ⊥
  never_unfinished q t es r d x = finish_due q (numbered f es) (document_finished t es d) ((refused_exactly q (going (numbered f es)) finish r).0 x).0
