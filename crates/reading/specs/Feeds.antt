-- The events of what has been read are a stream: each fits as it comes.
--
--   Feeds es d ms b        the events es fit from d on, one after the other, and lead to a document that looks as ms and b say
--   derives_feeds          those of an element or of a content do
--   document_fed           those of a document lead to a finished one
--   after_fed              those of any account are a stream
--
-- Assumes nothing. NOT here: texts, and what a session answers (Streams).
use Rattle.std.specs.Prelude.{ℕ, ◌≡◌, Bool, true, false, T}
use Rattle.std.proofs.Common.{arith, sym, subst}
use Rattle.std.proofs.Math.Path.{refl, ap}
use mathlib.Core.List.{List, [], ◌∷◌, ◌++◌}
use Rattle.meaning.specs.Name.{is_name}
use Rattle.meaning.specs.Document.{Doc, blank}
use Rattle.meaning.specs.Stream as stream
use Rattle.meaning.specs.Stream.{fits, act, always, Stream}
use Rattle.meaning.proofs.Stream.Laws.{Leads, leads_none, leads_append}
use Rattle.meaning.proofs.Record.Laws.{name_exactly}
use Rattle.xml.specs.Bounds.{remark_name}
use Rattle.xml.proofs.Bounds.Laws.{unknown_is, remark_is}
use Rattle.xml.specs.Grammar.{Limits, Ev, opens, closes, remark, Symbol, element', content', Derives, element, empty, data', child, refer, Document}
use Rattle.xml.specs.Grammar.{document as document'}
use Rattle.xml.specs.Machine.{Place, State}
use Rattle.xml.specs.Unfinished.{Open, first, deeper, At, before, inside, after, InName, tag, InTag, attributed, InAtt, attribute, InValue, quoting}
use Rattle.xml.specs.Numbered.{Numbering, numbered}
use Rattle.reading.specs.Account.{Refers, Reads, Due as Must, Begun, After}
use Rattle.reading.specs.Spine.{none, Looks, blank_looks, opens_fit, closes_fit}

module _ (f : List ℕ → ℕ) where
  numbered_append : (es gs : List Ev) → numbered f (es ++ gs) ≡ numbered f es ++ numbered f gs
  unfolding numbered
  numbered_append [] gs = refl
  numbered_append (opens n ∷ es) gs = ap (λ z. stream.opens (f n) ∷ z) (numbered_append es gs)
  numbered_append (closes n ∷ es) gs = ap (λ z. stream.closes (f n) ∷ z) (numbered_append es gs)
  numbered_append (remark ∷ es) gs = ap (λ z. stream.opens remark_name ∷ stream.closes remark_name ∷ z) (numbered_append es gs)

  numbers : List (List ℕ) → List ℕ
  numbers [] = []
  numbers (n ∷ ns) = f n ∷ numbers ns

  pub record Feeds (es : List Ev) (d : Doc) (ms : List ℕ) (b : Bool) : Type 0 where
    pub to : Doc
    pub leads : Leads fits (numbered f es) d to
    pub looks : Looks to ms b

  feeds_none : (d : Doc) (ms : List ℕ) (b : Bool) → Looks d ms b → Feeds [] d ms b
  unfolding numbered
  feeds_none d ms b l = record { to = d; leads = leads_none fits d; looks = l }

  feeds_then :
      {es gs : List Ev} {d : Doc} {ms ks : List ℕ} {b c : Bool}
      → Feeds es d ms b
      → ((d' : Doc) → Looks d' ms b → Feeds gs d' ks c)
      → Feeds (es ++ gs) d ks c
  feeds_then {es} {gs} {d} h g =
      let k = g h.to h.looks in
      record {
        to = k.to;
        leads = subst (λ z. Leads fits z d k.to) (sym (numbered_append es gs)) (leads_append fits (numbered f es) (numbered f gs) h.leads k.leads);
        looks = k.looks;
      }

module _ (f : List ℕ → ℕ) (F : Numbering f) where
  pub named : (n : List ℕ) → T (is_name (f n))
  named n = (name_exactly (f n)).1 (record { from = F.from n; to = omega (arith, F.to n, unknown_is) })

  pub remark_named : T (is_name remark_name)
  remark_named = (name_exactly remark_name).1 (record { from = omega (arith, remark_is); to = omega (arith, remark_is) })

  open_feeds : (n : List ℕ) (d : Doc) (ms : List ℕ) → Looks d ms false → Feeds f (opens n ∷ []) d (f n ∷ ms) false
  unfolding numbered
  open_feeds n d ms l = let (x, y) = opens_fit (f n) d ms (named n) l in record { to = _; leads = x; looks = y }

  close_feeds : (n : List ℕ) (d : Doc) (ms : List ℕ) → Looks d (f n ∷ ms) false → Feeds f (closes n ∷ []) d ms (none ms)
  unfolding numbered
  close_feeds n d ms l = let (x, y) = closes_fit (f n) d ms l in record { to = _; leads = x; looks = y }

  remark_feeds : (d : Doc) (m : ℕ) (ms : List ℕ) → Looks d (m ∷ ms) false → Feeds f (remark ∷ []) d (m ∷ ms) false
  unfolding numbered
  remark_feeds d m ms l =
      let (x, y) = opens_fit remark_name d (m ∷ ms) remark_named l in
      let (z, w) = closes_fit remark_name (act (stream.opens remark_name) d) (m ∷ ms) y in
      record { to = _; leads = leads_append fits _ _ x z; looks = w }

  module _ (L : Limits) where
    abbrev Fed : Symbol → List Ev → Type 0
    Fed (element' d) es = (doc : Doc) (ms : List ℕ) → Looks doc ms false → Feeds f es doc ms (none ms)
    Fed (content' d k) es = (doc : Doc) (m : ℕ) (ms : List ℕ) → Looks doc (m ∷ ms) false → Feeds f es doc (m ∷ ms) false

    pub derives_feeds : {y : Symbol} {u : List ℕ} {es : List Ev} → Derives L y u es → Fed y es
    derives_feeds (empty {n = n} x t) = λ doc ms l. feeds_then f (open_feeds n doc ms l) (λ d k. close_feeds n d ms k)
    derives_feeds (element {n = n} x t c v) =
        let c' = derives_feeds c in
        λ doc ms l.
        feeds_then f (open_feeds n doc ms l) (λ d k. feeds_then f (c' d (f n) ms k) (λ d' k'. close_feeds n d' ms k'))
    derives_feeds (data' r) = λ doc m ms l. feeds_none f doc (m ∷ ms) false l
    derives_feeds (child c e r) =
        let c' = derives_feeds c in
        let e' = derives_feeds e in
        λ doc m ms l. feeds_then f (c' doc m ms l) (λ d k. e' d (m ∷ ms) k)
    derives_feeds (refer c e r) = derives_feeds c
    derives_feeds (Derives.remarked c e r) =
        let c' = derives_feeds c in
        λ doc m ms l. feeds_then f (c' doc m ms l) (λ d k. remark_feeds d m ms k)

    open_fed : {n t : List ℕ} {ns : List (List ℕ)} {es : List Ev} → Open L n ns t es → Feeds f es blank (f n ∷ numbers f ns) false
    unfolding numbers
    open_fed (first {n = n} x p g) = open_feeds n blank [] blank_looks
    open_fed (deeper {n = n} {m = m} {ms = ms} x o c g) =
        feeds_then f (open_fed o) (λ d k. feeds_then f (derives_feeds c d (f m) (numbers f ms) k) (λ d' k'. open_feeds n d' (f m ∷ numbers f ms) k'))

    pub document_fed : {t : List ℕ} {es : List Ev} → Document L t es → Feeds f es blank [] true
    document_fed (document' p e m) = derives_feeds e blank [] blank_looks

    at_fed : {p : Place} {k : Rattle.xml.specs.Grammar.Br} {t : List ℕ} {es : List Ev} → At L p k t es → Stream (numbered f es)
    unfolding numbered always
    at_fed (before p) = tt
    at_fed (inside {n = n} {ns = ns} o c) = (feeds_then f (open_fed o) (λ d k. derives_feeds c d (f n) (numbers f ns) k)).leads.fit
    at_fed (after d) = (document_fed d).leads.fit

    name_fed : {p : Place} {n t : List ℕ} {es : List Ev} → InName L p n t es → Stream (numbered f es)
    name_fed (tag a x i) = at_fed a

    tag_fed : {p : Place} {n t : List ℕ} {ms : List (List ℕ)} {es : List Ev} → InTag L p n ms t es → Stream (numbered f es)
    tag_fed (attributed i g) = name_fed i

    att_fed : {p : Place} {n m t : List ℕ} {ms : List (List ℕ)} {es : List Ev} → InAtt L p n ms m t es → Stream (numbered f es)
    att_fed (attribute g u x i) = tag_fed g

    value_fed : {p : Place} {n m t : List ℕ} {ms : List (List ℕ)} {q : Bool} {es : List Ev} → InValue L p n ms m q t es → Stream (numbered f es)
    value_fed (quoting q i x e v) = att_fed i

    refers_fed : {t : List ℕ} {es : List Ev} {k : State} → Refers L t es k → Stream (numbered f es)
    refers_fed (Refers.data' a) = at_fed a
    refers_fed (Refers.value v) = value_fed v

    begun_fed : {t w : List ℕ} {es gs : List Ev} {rs : Rattle.xml.specs.Class.Rows} {r : ℕ} {k : State} → Begun L t es w rs r gs k → Stream (numbered f es)
    unfolding numbered always
    begun_fed (Begun.due Must.mark) = tt
    begun_fed (Begun.due (Must.xml m)) = tt
    begun_fed (Begun.due (Must.note a r)) = at_fed a
    begun_fed (Begun.due (Must.empty g e)) = tag_fed g
    begun_fed (Begun.due (Must.end a)) = at_fed a
    begun_fed (Begun.due (Must.told m d e)) = tt
    begun_fed (Begun.due (Must.name m d x e)) = tt
    begun_fed (Begun.due (Must.value q i e)) = tt
    begun_fed (Begun.reads (Reads.data' a)) = at_fed a
    begun_fed (Begun.reads (Reads.value v)) = value_fed v
    begun_fed (Begun.reads (Reads.note a r)) = at_fed a
    begun_fed (Begun.reads (Reads.dash a r)) = at_fed a
    begun_fed (Begun.reads (Reads.amper h)) = refers_fed h
    begun_fed (Begun.reads (Reads.bang a)) = at_fed a

    pub after_fed : {t : List ℕ} {es : List Ev} {k : State} → After L t es k → Stream (numbered f es)
    unfolding numbered always
    after_fed After.start = tt
    after_fed After.fresh = tt
    after_fed (After.opening m) = tt
    after_fed (After.declared m) = tt
    after_fed (After.rows h u) = begun_fed h
    after_fed (After.at a l) = at_fed a
    after_fed (After.markup a l) = at_fed a
    after_fed (After.bang a) = at_fed a
    after_fed (After.note a r) = at_fed a
    after_fed (After.dash a r) = at_fed a
    after_fed (After.amper h) = refers_fed h
    after_fed (After.tag i) = name_fed i
    after_fed (After.tagged g) = tag_fed g
    after_fed (After.gap g u) = tag_fed g
    after_fed (After.att i) = att_fed i
    after_fed (After.eqs i x u) = att_fed i
    after_fed (After.val i x e) = att_fed i
    after_fed (After.value v) = value_fed v
    after_fed (After.ending a) = at_fed a
    after_fed (After.ended a u) = at_fed a
    after_fed (After.told m d) = tt
    after_fed (After.apiece m d e) = tt
    after_fed (After.part_eq i e) = tt
    after_fed (After.part_val i e) = tt
