-- Offers that follow each other.
--
--   offering_then           n records after m that were all accepted: two blocks one after the other are one stream
--   offering_refused        nothing is offered after a refusal
--   offering_more           bytes behind the records that are offered change nothing
--   offering_short          fewer than 8 bytes are a bad record
--   one_record, refused_record     one record that is accepted, or refused
--   length_offered          each record that is accepted is one event more
--   length_stream           every element that is no longer open has been opened and closed
--   most_events             no calls lead to more accepted events than twice the nodes that may be opened: each is closed once
--
-- Assumes nothing.
use Prim.Native.Nat.{ℕ, zero, suc, ◌+◌, ◌*◌, ◌≤◌, ◌<◌}
use Rattle.std.proofs.Common.{zero-add, suc-add, sym, ◌∙◌, drop-drop, take_all, ne_eqb}
use native.Mathlib.Omega.{arith}
use Rattle.std.specs.Prelude.{◌≡◌, Bool, true, ◌&&◌, T, eqb}
use Rattle.std.proofs.Math.Path.{refl, ap, ap₂}
use Rattle.std.proofs.Math.Bool.{false}
use mathlib.Core.List.{List, [], ◌∷◌, ◌++◌}
use Rattle.std.proofs.Math.Option.{Option, none, some}
use Rattle.std.proofs.Math.ListN.{length, take, drop, length-append, length-drop}
use Rattle.std.proofs.Math.Seq.{take-append-le, drop-append-le}
use Rattle.meaning.specs.Limits.{depth_limit, held_limit, node_limit, output_needed, element_record, waiting_record, elements_needed, nodes_needed}
use Rattle.meaning.specs.Logic.{and_l, and_r}
use Rattle.meaning.specs.Query.{Query}
use Rattle.meaning.specs.Document.{Doc, done, within, blank, count_row, count, depth, ends_at}
use Rattle.meaning.proofs.Document.Laws.{depth_opened, depth_closed, count_opened, count_closed}
use Rattle.meaning.specs.Stream.{Event, opens, closes, fits, act, run, document, always, Stream}
use Rattle.meaning.specs.Record.{is_record, event_if, event_of}
use Rattle.meaning.specs.Answer.{enough, event, Past, going, is_bad, too_small, event_refusals, refusals, first_or, first, yield, answer_if, answer, after}
use Rattle.meaning.proofs.Answer.Laws.{taken_added}
use Rattle.meaning.proofs.Answer.Bounds.{Bounded}
use Rattle.meaning.specs.Offering.{Offering, offer, unless_refused, offering}

abbrev accepted : List Event → Offering
accepted es = record { events = es; refusal = none }

abbrev refused_after : List Event → ℕ → Offering
refused_after es r = record { events = es; refusal = some r }

some_none : (r : ℕ) → ◌≡◌ {A = Option ℕ} (some r) none → ⊥
some_none r e = let z : ◌≡◌ {A = ℕ} 0 1 = cc in omega arith

-- "Anything else is a bad record"
not_eight : (b c is_opening : Bool) (n : ℕ) → b ≡ false → event_if (b && c) is_opening n ≡ none
unfolding event_if
not_eight true c is_opening n e = let z : ◌≡◌ {A = ℕ} 0 1 = cc in absurd (omega arith)
not_eight false c is_opening n e = refl

short_bad : (bs : List ℕ) → length bs < 8 → event_of bs ≡ none
unfolding event_of is_record
short_bad bs h = not_eight (eqb (length bs) 8) _ _ _ (ne_eqb (length bs) 8 (λ z. omega arith))

module _ (q : Query) where
  -- one record and then others
  then_by :
      (o : Option ℕ) (es es' : List Event) (v w w' : Offering) → (v ≡ accepted es' → w ≡ w') → unless_refused o es v ≡ accepted es' → unless_refused o es w ≡ w'
  unfolding unless_refused
  then_by none es es' v w w' f e = f e
  then_by (some r) es es' v w w' f e = absurd (some_none r (ap (λ (x : Offering). x.refusal) e))

  pub offering_then :
      (m n : ℕ) (es es' : List Event) (bs : List ℕ) → offering q m es bs ≡ accepted es' → offering q (m + n) es bs ≡ offering q n es' (drop (8 * m) bs)
  unfolding offering
  offering_then zero n es es' bs e =
      ap₂ (λ (k : ℕ) (fs : List Event). offering q k fs bs) (zero-add n) (ap (λ (x : Offering). x.events) e)
  offering_then (suc m) n es es' bs e =
      ap (λ (k : ℕ). offering q k es bs) (suc-add m n)
      ∙ then_by _ es es' _ _ _
      (λ h.
      let at : 8 + 8 * m ≡ 8 * suc m = omega arith in
      offering_then m n (after q (going es) (offer bs)).events es' (drop 8 bs) h
      ∙ ap (offering q n es') (drop-drop (8 * m) 8 bs ∙ ap (λ (k : ℕ). drop k bs) at))
      e

  refuses_by :
      (o : Option ℕ) (es es' : List Event) (r : ℕ) (v w : Offering) → (v ≡ refused_after es' r → w ≡ refused_after es' r) →
      unless_refused o es v ≡ refused_after es' r → unless_refused o es w ≡ refused_after es' r
  unfolding unless_refused
  refuses_by none es es' r v w f e = f e
  refuses_by (some k) es es' r v w f e = e

  pub offering_refused :
      (m n : ℕ) (es es' : List Event) (r : ℕ) (bs : List ℕ) → offering q m es bs ≡ refused_after es' r → offering q (m + n) es bs ≡ refused_after es' r
  unfolding offering
  offering_refused zero n es es' r bs e = absurd (some_none r (sym (ap (λ (x : Offering). x.refusal) e)))
  offering_refused (suc m) n es es' r bs e =
      ap (λ (k : ℕ). offering q k es bs) (suc-add m n)
      ∙ refuses_by _ es es' r _ _ (offering_refused m n (after q (going es) (offer bs)).events es' r (drop 8 bs)) e

  pub offering_more : (n : ℕ) (es : List Event) (bs more : List ℕ) → 8 * n ≤ length bs → offering q n es (bs ++ more) ≡ offering q n es bs
  unfolding offering
  offering_more zero es bs more h = refl
  offering_more (suc n) es bs more h =
      let head : take 8 (bs ++ more) ≡ take 8 bs = take-append-le 8 bs more (omega arith) in
      let tail : drop 8 (bs ++ more) ≡ drop 8 bs ++ more = drop-append-le 8 bs more (omega arith) in
      ap₂
      (λ (x y : List ℕ). unless_refused (first (refusals q (going es) (event x enough))) es (offering q n (after q (going es) (event x enough)).events y))
      head tail
      ∙ ap (unless_refused (first (refusals q (going es) (offer bs))) es)
      (offering_more n (after q (going es) (offer bs)).events (drop 8 bs) more (omega (arith, length-drop 8 bs)))

  -- one record
  pub one_record :
      (es : List Event) (bs : List ℕ) → first (refusals q (going es) (offer bs)) ≡ none →
      offering q 1 es bs ≡ accepted (after q (going es) (offer bs)).events
  unfolding offering unless_refused
  one_record es bs e = ap (λ (o : Option ℕ). unless_refused o es (accepted (after q (going es) (offer bs)).events)) e

  pub refused_record : (es : List Event) (bs : List ℕ) (r : ℕ) → first (refusals q (going es) (offer bs)) ≡ some r → offering q 1 es bs ≡ refused_after es r
  unfolding offering unless_refused
  refused_record es bs r e = ap (λ (o : Option ℕ). unless_refused o es (accepted (after q (going es) (offer bs)).events)) e

  -- "Leftover bytes under 8 are a bad record": 2 applies, and 1, 15 and 11 do not
  pub offering_short : (es : List Event) (bs : List ℕ) → length bs < 8 → offering q 1 es bs ≡ refused_after es 2
  offering_short es bs h =
      refused_record es bs 2
      (unfold refusals event_refusals too_small first first_or is_bad output_needed elements_needed nodes_needed element_record waiting_record depth_limit
      held_limit in
      ap (λ (x : Option Event). first (event_refusals q false (document es) x enough)) (ap event_of (take_all 8 bs (omega arith)) ∙ short_bad bs h))

  -- each record that is accepted is one event more
  record_added :
      (es : List Event) (bs : List ℕ) → first (refusals q (going es) (offer bs)) ≡ none →
      length (after q (going es) (offer bs)).events ≡ length es + 1
  unfolding answer answer_if yield
  record_added es bs e =
      let t = taken_added q (going es) (take 8 bs) enough _ (ap (λ (o : Option ℕ). answer_if o (yield q (document es) (offer bs))) e) in
      ap (λ (p : Past). length p.events) t.2 ∙ length-append es (t.0 ∷ [])

  pub length_offered : (n : ℕ) (es es' : List Event) (bs : List ℕ) → offering q n es bs ≡ accepted es' → length es' ≡ length es + n
  unfolding offering unless_refused
  length_offered zero es es' bs e = let s : es ≡ es' = ap (λ (x : Offering). x.events) e in omega (arith, ap length s)
  length_offered (suc n) es es' bs e =
      by (first (refusals q (going es) (offer bs))) refl (length_offered n (after q (going es) (offer bs)).events es' (drop 8 bs)) e
    where
      by :
          (o : Option ℕ) → first (refusals q (going es) (offer bs)) ≡ o →
          (offering q n (after q (going es) (offer bs)).events (drop 8 bs) ≡ accepted es' → length es' ≡ length (after q (going es) (offer bs)).events + n) →
          unless_refused o es (offering q n (after q (going es) (offer bs)).events (drop 8 bs)) ≡ accepted es' → length es' ≡ length es + suc n
      by none l f e = omega (arith, f e, record_added es bs l)
      by (some r) l f e = absurd (some_none r (ap (λ (x : Offering). x.refusal) e))

-- an open is a node more and one deeper, a close one less deep
ends_deep : (n : ℕ) (d : Doc) → T (ends_at n d) → 0 < depth d
unfolding ends_at depth
ends_deep n (done f) t = absurd t
ends_deep n (within p x d) t = omega arith

length_run : (es : List Event) (d : Doc) → T (always fits es d) → length es + (depth (run es d) + 2 * count d) ≡ 2 * count (run es d) + depth d
unfolding always run fits act
length_run [] d t = omega arith
length_run (e ∷ es) d t = by e (and_l (fits e d) _ t) (length_run es (act e d) (and_r (fits e d) _ t))
  where
    by :
        (e : Event) → T (fits e d) → length es + (depth (run es (act e d)) + 2 * count (act e d)) ≡ 2 * count (run es (act e d)) + depth (act e d) →
        suc (length es) + (depth (run es (act e d)) + 2 * count d) ≡ 2 * count (run es (act e d)) + depth d
    by (opens n) f h = omega (arith, h, count_opened (record { name = n }) d, depth_opened (record { name = n }) d)
    by (closes n) f h = omega (arith, h, count_closed d, depth_closed d, ends_deep n d f)

pub length_stream : (es : List Event) → Stream es → length es + depth (document es) ≡ 2 * count (document es)
unfolding document count count_row depth
length_stream es t = let h = length_run es blank t in omega (arith, h)

pub most_events : (q : Query) (es : List Event) → Stream es → Bounded q es → length es ≤ 2 * node_limit
most_events q es t b = omega (arith, length_stream es t, b.nodes)
