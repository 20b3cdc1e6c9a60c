-- THE PROMISE OF THE READER, on one page: what its own calls come to, for every text, cut into blocks anywhere, and every output.
--
--   Fed N X t r R bs     calls from begin on have taken the text t, in which nothing was refused; the reader r and the room R are as they left them, and bs is
--                        what they wrote, end to end. Of each call nothing is known but its promise, and of the room that is lent to it only that its used
--                        part is as the call before left it
--   Events N X t bs      bs are the records of the events of t: a stream that a session takes up to its own limits
--   Feeds .. c out'      one more feed, of the block u, which is lent enough: c is what it answers, and out' the output on return
--   stopped_at t u c      the text up to the byte that a feed of u stopped before
--   Promised N X         the theorem; it is proved in proofs/Theorem/Proof
--
-- N and X are the list of names and its index: any bytes, and any words. Document, Begins, Spent, RefusedAt and Refusal are docs/XML.md's words (crate xml:
-- Grammar, Sentences, Table). BeginGives, FeedGives, FinishGives and BuildGives are what `begin`, `feed`, `finish` and `names::build` ensure.
-- Assumes that a text's bytes are bytes. NOT promised: what a reader does whose room was changed between calls, but that it is one thing (crate reader, Feed).
use Rattle.std.specs.Prelude.{ℕ, ◌+◌, ◌≤◌, ◌<◌, ◌↔◌, ◌⊎◌, ◌≡◌, true, false, List, [], ◌∷◌, ◌++◌, length, take, drop}
use Rattle.meaning.specs.Query.{Query}
use Rattle.meaning.specs.Stream.{Event, Stream}
use Rattle.meaning.specs.Record.Laws.{Records}
use Rattle.meaning.specs.Answer.{Lent, event, finish, refused, going, answer}
use Rattle.xml.specs.Grammar.{Ev, Document}
use Rattle.xml.specs.Limited.{bounds}
use Rattle.xml.specs.Sentences.{Begins, Spent, RefusedAt}
use Rattle.xml.specs.Table.{Refusal}
use Rattle.xml.specs.Numbered.{numbered}
use Rattle.listed.specs.Lines.{lines_of}
use Rattle.listed.specs.Listed.{Listing}
use Rattle.names.specs.Answer.{BuildGives}
use Rattle.names.specs.First.{first_place}
use Rattle.names.specs.Number.{number_of}
use Rattle.limits.specs.Number.{text_of}
use Rattle.modes.specs.declared.Reader.{Reader}
use Rattle.slots.specs.Slots.{room_needed}
use Rattle.reader.specs.declared.Fed as answered
use Rattle.reader.specs.declared.Finished.{Finished}
use Rattle.reader.specs.Feed.{too_scant, BeginGives, FeedGives, FinishGives}
use Rattle.text_right.proofs.Quiet.{Bytes}
use Rattle.reader_right.specs.Records.{records_in}
use Rattle.reader_right.specs.TextRead.{used}

pub data Fed (N X : List ℕ) : List ℕ → Reader → List ℕ → List ℕ → Type 0 where
  begun : {r : Reader} {R : List ℕ} → BeginGives r → room_needed ≤ length R → Fed N X [] r R []
  fed :
      {t bs R S' out' : List ℕ} {r : Reader} {c : answered.Fed} (u S out : List ℕ)
      → Fed N X t r R bs
      → Bytes u
      → used S ≡ used R
      → FeedGives N X u r S out c S' out'
      → text_of c.refusal ≡ 0
      → Fed N X (t ++ take c.taken u) c.reader S' (bs ++ take c.written out')
  -- "less room is lent than a call needs": nothing is changed
  lent_scant :
      {t bs R S' out' : List ℕ} {r : Reader} {c : answered.Fed} (u S out : List ℕ)
      → Fed N X t r R bs
      → FeedGives N X u r S out c S' out'
      → too_scant (length S) (length X) (length out) ≡ true
      → Fed N X t c.reader R bs

pub record Events (N X t bs : List ℕ) : Type 0 where
  pub es : List Ev
  pub written : bs ≡ records_in (number_of N X) es
  pub stream : Stream (numbered (number_of N X) es)
  -- each of them, offered to a session after those before it
  pub never_faulted :
      (fs gs : List Event) (e : Event) (q : Query) (record' : List ℕ) (lent : Lent) (n : ℕ)
      → numbered (number_of N X) es ≡ fs ++ (e ∷ gs)
      → Records record' e
      → answer q (going fs) (event record' lent) ≡ refused n
      → (n ≡ 2 → ⊥) × (n ≡ 3 → ⊥) × (n ≡ 4 → ⊥)
  -- there is one reading
  pub only : (fs : List Ev) → Document bounds t fs → es ≡ fs

pub record Feeds (N X t u : List ℕ) (r : Reader) (R bs out : List ℕ) (c : answered.Fed) (out' : List ℕ) : Type 0 where
  pub before : Fed N X t r R bs
  pub bytes : Bytes u
  pub S : List ℕ
  pub S' : List ℕ
  pub same : used S ≡ used R
  pub enough : too_scant (length S) (length X) (length out) ≡ false
  pub gives : FeedGives N X u r S out c S' out'

abbrev pub stopped_at : List ℕ → List ℕ → answered.Fed → List ℕ
stopped_at t u c = t ++ take c.taken u

-- "no text that is read goes on with this byte"
abbrev pub Earliest : List ℕ → ℕ → Type 0
Earliest t b = (Begins bounds t ⊎ Spent bounds t) × (Begins bounds (t ++ (b ∷ [])) → ⊥) × (Spent bounds (t ++ (b ∷ [])) → ⊥)

-- a byte was refused: the one behind what was taken, by the earliest refusal, with its number by the table; what is written are the events before it
pub record Refuses (N X t u bs : List ℕ) (c : answered.Fed) (out' : List ℕ) : Type 0 where
  pub b : ℕ
  pub rest : List ℕ
  pub byte : drop c.taken u ≡ b ∷ rest
  pub refused_at_lem : RefusedAt bounds (text_of c.refusal) (stopped_at t u c) b
  pub earliest : Earliest (stopped_at t u c) b
  pub sentence : ((text_of c.refusal ≡ 30) × ((q : ℕ) → Refusal bounds q (stopped_at t u c) b → ⊥)) ⊎ Refusal bounds (text_of c.refusal) (stopped_at t u c) b
  pub events : Events N X (stopped_at t u c) (bs ++ take c.written out')
  pub stops : c.reader.refusal ≡ text_of c.refusal

pub record Promised (N X : List ℕ) : Type 0 where
  -- what is written so far are the events so far, and the text so far begins a document or is spent
  pub so_far : {t R bs : List ℕ} {r : Reader} → Fed N X t r R bs → Events N X t bs × (Begins bounds t ⊎ Spent bounds t)
  -- accepted exactly: the end of the text is not refused exactly if it is a document; else it is refused with 44, and the reader is stopped
  pub accepts :
      {t R bs : List ℕ} {r : Reader} {f : Finished} → Fed N X t r R bs → FinishGives r f
      → (text_of f.refusal ≡ 0) ↔ ((es : List Ev) × Document bounds t es)
  pub unended_else :
      {t R bs : List ℕ} {r : Reader} {f : Finished} → Fed N X t r R bs → FinishGives r f → (text_of f.refusal ≡ 0 → ⊥)
      → (text_of f.refusal ≡ 44) × (f.reader.refusal ≡ 44)
  -- and after the events of a document no session refuses its finish
  pub never_unfinished :
      {t R bs : List ℕ} {r : Reader} {es : List Ev} (q : Query) (n : ℕ) → Fed N X t r R bs → Document bounds t es
      → answer q (going (numbered (number_of N X) es)) finish ≡ refused n
      → ⊥
  -- a feed that is not refused takes its block, or fills the output;  of a block that is not empty it takes a byte or refuses one
  pub taken :
      {t u R bs out out' : List ℕ} {r : Reader} {c : answered.Fed} → Feeds N X t u r R bs out c out' → text_of c.refusal ≡ 0
      → (c.taken ≡ length u) ⊎ (length out < c.written + 16)
  pub goes_on :
      {t u R bs out out' : List ℕ} {r : Reader} {c : answered.Fed} → Feeds N X t u r R bs out c out' → 0 < length u → (0 < c.taken) ⊎ (0 < text_of c.refusal)
  -- the output behind what is written, and the room past its needed part, are as they were
  pub touches :
      {t u R bs out out' : List ℕ} {r : Reader} {c : answered.Fed} (x : Feeds N X t u r R bs out c out')
      → (drop c.written out' ≡ drop c.written out) × (drop room_needed x.S' ≡ drop room_needed x.S)
  -- nothing of a document is refused
  pub document_taken :
      {t u R bs out out' : List ℕ} {r : Reader} {c : answered.Fed} {es : List Ev} (v : List ℕ)
      → Feeds N X t u r R bs out c out'
      → Document bounds (t ++ (u ++ v)) es
      → text_of c.refusal ≡ 0
  -- refused exactly: at a byte that is refused, and at no other; a feed goes no further than up to such a byte
  pub refuses :
      {t u R bs out out' : List ℕ} {r : Reader} {c : answered.Fed} → Feeds N X t u r R bs out c out' → (text_of c.refusal ≡ 0 → ⊥) → Refuses N X t u bs c out'
  pub no_further :
      {t u R bs out out' : List ℕ} {r : Reader} {c : answered.Fed} (v w : List ℕ) (b q : ℕ)
      → Feeds N X t u r R bs out c out'
      → u ≡ v ++ (b ∷ w)
      → RefusedAt bounds q (t ++ v) b
      → (c.taken ≤ length v) × ((text_of c.refusal ≡ 0 → ⊥) → (c.taken ≡ length v) × (text_of c.refusal ≡ q))
  -- a stopped reader takes nothing
  pub stopped :
      {S' out' : List ℕ} {r : Reader} {c : answered.Fed} (u S out : List ℕ)
      → FeedGives N X u r S out c S' out'
      → too_scant (length S) (length X) (length out) ≡ false
      → (r.refusal ≡ 0 → ⊥)
      → (text_of c.refusal ≡ 46) × (c.reader ≡ r) × (c.taken ≡ 0) × (c.written ≡ 0) × (S' ≡ S) × (out' ≡ out)
  -- by an index that a build made the numbers are the first places in the list
  pub numbers_first :
      (x : List ℕ) (l : Listing) → BuildGives N x X l → l.refusal ≡ 0 → (es : List Ev)
      → records_in (number_of N X) es ≡ records_in (first_place (lines_of N)) es
