-- Every document is accepted, with its events.
--
--   Gate p ns j          at j markup may begin as at the place p, and an element that begins there is inside ns
--   Prior j              the document element has not begun at j
--   derives_leads        elements and contents are read
--   prolog_leads         what stands before the document element;  misc_after: what stands behind it
--   document_leads       a document takes the start to its end;  document_accepted: it is accepted
--
-- Assumes nothing. NOT here: tags (Leads.Tags), character data and comments (Leads.Data).
use Rattle.std.specs.Prelude.{ℕ, suc, ◌≡◌, ◌⊎◌, T, length}
use Rattle.std.proofs.Math.Path.{refl}
use Rattle.std.proofs.Common.{sym, ap, ◌∙◌, subst, inl, inr}
use mathlib.Core.List.{List, [], ◌∷◌, ◌++◌, append_assoc, append-nil}
use Rattle.choice.specs.When.{when}
use Rattle.xml.specs.Class.{in_class, In, disjoint, disjoint_ranges, out_of}
use Rattle.xml.specs.Chars.{blank, name_start}
use Rattle.xml.specs.Refused.{misplaced, nested, long_name}
use Rattle.xml.specs.Grammar.{Limits, Ev, opens, closes, Br, b0, Name, name, STag, stag, EmptyElemTag, etag, Symbol, element', content', Derives}
use Rattle.xml.specs.Grammar.{element, empty, data', child, refer, Misc, Mark, Decl, decl, Prolog, prolog, Document, document}
use Rattle.xml.specs.Machine.{Place, State, goes, opened, up, emptied, begins, pick, step, stands, run}
use Rattle.reading.specs.Leads.{pick_arms, past, check_true, Leads, stay, byte, leads_append, leads_quiet, leads_run, one, by_class, by_word}
use Rattle.reading.specs.Leads.{refer_leads}
use Rattle.reading.specs.Leads.Data.{comment_leads, run_leads, data_amper}
use Rattle.reading.specs.Leads.Tags.{name_first, grow_leads, tag_grows, close_leads, slash_leads, ctag_leads}
use Rattle.reading.specs.Leads.Declaration.{decl_leads}

module _ (L : Limits) where
  -- at j an element may begin as at the place p, inside the open elements ns
  pub record Gate (p : Place) (ns : List (List ℕ)) (j : State) : Type 0 where
    pub door : State
    pub less : step L j 60 ≡ goes [] door
    pub begin : (b : ℕ) → In name_start b → T (L.nest (suc (length ns))) → T (L.name 1) → step L door b ≡ goes [] (State.tag p (b ∷ []))
    pub bangs : step L door 33 ≡ goes [] (State.bang p)
    pub open' : (n : List ℕ) → opened p n ≡ Place.inside n ns
    pub empty' : emptied p ≡ up ns

  pub gate_inside : (n : List ℕ) (ns : List (List ℕ)) (k : Br) → Gate (Place.inside n ns) (n ∷ ns) (State.at (Place.inside n ns) k)
  unfolding past pick_arms disjoint out_of disjoint_ranges in_class step pick when
  gate_inside n ns k =
      record {
        door = State.markup (Place.inside n ns);
        less = refl;
        begin = λ b h x y. by_class L (State.markup (Place.inside n ns)) name_start _ _ refl h ∙ check_true _ nested _ x ∙ check_true _ long_name _ y;
        bangs = refl;
        open' = λ m. refl;
        empty' = refl;
      }

  gate_before :
      (j m : State) (f : (b : ℕ) → In name_start b → step L m b ≡ begins L Place.before b)
      → step L j 60 ≡ goes [] m
      → step L m 33 ≡ goes [] (State.bang Place.before)
      → Gate Place.before [] j
  gate_before j m f e g =
      record {
        door = m;
        less = e;
        begin = λ b h x y. f b h ∙ check_true _ nested _ x ∙ check_true _ long_name _ y;
        bangs = g;
        open' = λ n. refl;
        empty' = refl;
      }

  module _ {p : Place} {ns : List (List ℕ)} {j : State} (G : Gate p ns j) where
    pub name_leads : {n : List ℕ} → T (L.nest (suc (length ns))) → Name L n → Leads L j (60 ∷ n) [] (State.tag p n)
    name_leads x (name {b = b} {t = t} h e l) =
        byte G.less (byte (G.begin b h x (name_first L b t l)) (grow_leads L (State.tag p) (b ∷ []) (tag_grows L p) e l))

    pub stag_leads : {n t : List ℕ} → T (L.nest (suc (length ns))) → STag L n t → Leads L j t (opens n ∷ []) (State.at (Place.inside n ns) b0)
    stag_leads {n} {t} x (stag i g e) =
        subst (λ z. Leads L j t (opens n ∷ []) (State.at z b0)) (G.open' n) (leads_append L (name_leads x i) (close_leads L p n g e))

    etag_leads : {n t : List ℕ} → T (L.nest (suc (length ns))) → EmptyElemTag L n t → Leads L j t (opens n ∷ closes n ∷ []) (State.at (up ns) b0)
    etag_leads {n} {t} x (etag i g e) =
        subst (λ z. Leads L j t (opens n ∷ closes n ∷ []) (State.at z b0)) G.empty' (leads_append L (name_leads x i) (slash_leads L p n g e))

  stag_name : {n t : List ℕ} → STag L n t → Name L n
  stag_name (stag i g e) = i

  abbrev Led : Symbol → List ℕ → List Ev → Type 0
  Led (element' d) u es = (p : Place) (ns : List (List ℕ)) (j : State) → length ns ≡ d → Gate p ns j → Leads L j u es (State.at (up ns) b0)
  Led (content' d k) u es =
      (n : List ℕ) (ns : List (List ℕ)) → suc (length ns) ≡ d → Leads L (State.at (Place.inside n ns) b0) u es (State.at (Place.inside n ns) k)

  nest_at : {d : ℕ} (ns : List (List ℕ)) → length ns ≡ d → T (L.nest (suc d)) → T (L.nest (suc (length ns)))
  nest_at ns e x = subst (λ z. T (L.nest (suc z))) (sym e) x

  pub derives_leads : {y : Symbol} {u : List ℕ} {es : List Ev} → Derives L y u es → Led y u es
  derives_leads (empty x t) = λ p ns j e g. etag_leads g (nest_at ns e x) t
  derives_leads (element {n = n} {k = k} x t c v) =
      let c' = derives_leads c in
      λ p ns j e g. leads_append L (stag_leads g (nest_at ns e x) t) (leads_append L (c' n ns (ap suc e)) (ctag_leads L n ns k (stag_name t) v))
  derives_leads (data' r) = λ n ns e. run_leads L n ns r
  derives_leads (child {j = j} {k = k} c f r) =
      let c' = derives_leads c in
      let f' = derives_leads f in
      λ n ns e.
      leads_append L (c' n ns e)
      (leads_quiet L (f' (Place.inside n ns) (n ∷ ns) (State.at (Place.inside n ns) j) e (gate_inside n ns j)) (run_leads L n ns r))
  derives_leads (refer {j = j} {k = k} c f r) =
      let c' = derives_leads c in
      λ n ns e.
      leads_quiet L (c' n ns e)
      (leads_append L
      (refer_leads L (State.at (Place.inside n ns) j) (State.at (Place.inside n ns) b0) (data_amper L n ns j) f)
      (run_leads L n ns r))
  derives_leads (Derives.remarked {j = j} {k = k} c f r) =
      let c' = derives_leads c in
      λ n ns e.
      leads_append L (c' n ns e)
      (leads_append L
      (comment_leads L (Place.inside n ns) (State.at (Place.inside n ns) j) (gate_inside n ns j).door (gate_inside n ns j).less (gate_inside n ns j).bangs f)
      (run_leads L n ns r))

  -- the document element has not begun, and nothing but a byte order mark and a declaration need have been read
  pub record Prior (j : State) : Type 0 where
    pub gate : Gate Place.before [] j
    pub space : (b : ℕ) → In blank b → step L j b ≡ goes [] (State.at Place.before b0)

  opening_begins : (b : ℕ) → In name_start b → step L State.opening b ≡ begins L Place.before b
  unfolding past pick_arms disjoint out_of disjoint_ranges in_class
  opening_begins b h = by_class L State.opening name_start _ _ refl h

  before_begins : (b : ℕ) → In name_start b → step L (State.markup Place.before) b ≡ begins L Place.before b
  unfolding past pick_arms disjoint out_of disjoint_ranges in_class
  before_begins b h = by_class L (State.markup Place.before) name_start _ _ refl h

  pub prior_start : Prior State.start
  unfolding past pick_arms disjoint out_of disjoint_ranges in_class step pick when
  prior_start =
      record { gate = gate_before State.start State.opening opening_begins refl refl; space = λ b h. by_class L State.start blank _ _ refl h }

  pub prior_fresh : Prior State.fresh
  unfolding past pick_arms disjoint out_of disjoint_ranges in_class step pick when
  prior_fresh =
      record { gate = gate_before State.fresh State.opening opening_begins refl refl; space = λ b h. by_class L State.fresh blank _ _ refl h }

  pub prior_before : Prior (State.at Place.before b0)
  unfolding past pick_arms disjoint out_of disjoint_ranges in_class step pick when
  prior_before =
      record {
        gate = gate_before (State.at Place.before b0) (State.markup Place.before) before_begins refl refl;
        space = λ b h. by_class L (State.at Place.before b0) blank _ _ refl h;
      }

  -- a state before the document element that a text takes the start to: past the very start, or there
  pub record Reached (t : List ℕ) : Type 0 where
    pub state : State
    pub leads : Leads L State.start t [] state
    pub prior : Prior state
    pub where' : (state ≡ State.at Place.before b0) ⊎ Mark t

  pub mark_leads : {t : List ℕ} → Mark t → (j : State) × Leads L State.start t [] j × (step L j 60 ≡ goes [] State.opening) × Prior j
  unfolding step pick in_class when
  mark_leads Mark.none = (State.start, stay, refl, prior_start)
  mark_leads Mark.mark = (State.fresh, byte refl (by_word L _ State.fresh _ _ misplaced [] refl), refl, prior_fresh)

  decl_reached : {t u : List ℕ} → Mark t → Decl u → Reached (t ++ u)
  decl_reached {t} m Decl.none =
      let (j, l, e, r) = mark_leads m in
      subst Reached (sym (append-nil t)) (record { state = j; leads = l; prior = r; where' = inr m })
  decl_reached m (decl d f) =
      let (j, l, e, r) = mark_leads m in
      record { state = State.at Place.before b0; leads = leads_append L l (decl_leads L j e d f); prior = prior_before; where' = inl refl }

  misc_reached : {t u : List ℕ} → Reached t → Misc u → Reached (t ++ u)
  misc_reached {t} r Misc.none = subst Reached (sym (append-nil t)) r
  misc_reached {t} r (Misc.space {t = u} {b = b} m h) =
      let i = misc_reached r m in
      subst Reached (append_assoc t u (b ∷ []))
      (record { state = State.at Place.before b0; leads = leads_append L i.leads (one L (i.prior.space _ h)); prior = prior_before; where' = inl refl })
  misc_reached {t} r (Misc.remarked {t = u} {u = v} m c) =
      let i = misc_reached r m in
      let g = i.prior.gate in
      subst Reached (append_assoc t u v)
      (record {
        state = State.at Place.before b0;
        leads = leads_append L i.leads (comment_leads L Place.before i.state g.door g.less g.bangs c);
        prior = prior_before;
        where' = inl refl;
      })

  pub prolog_leads : {t : List ℕ} → Prolog t → Reached t
  prolog_leads (prolog {t = t} {u = u} {v = v} k d m) = subst Reached (append_assoc t u v) (misc_reached (decl_reached k d) m)

  after_space : (b : ℕ) → In blank b → step L (State.at Place.after b0) b ≡ goes [] (State.at Place.after b0)
  unfolding past pick_arms disjoint out_of disjoint_ranges
  after_space b h = by_class L (State.at Place.after b0) blank _ _ refl h

  pub misc_after : {t : List ℕ} → Misc t → Leads L (State.at Place.after b0) t [] (State.at Place.after b0)
  unfolding in_class step pick when
  misc_after Misc.none = stay
  misc_after (Misc.space m h) = leads_append L (misc_after m) (one L (after_space _ h))
  misc_after (Misc.remarked m c) = leads_append L (misc_after m) (comment_leads L Place.after (State.at Place.after b0) (State.markup Place.after) refl refl c)

  pub document_leads : {t : List ℕ} {es : List Ev} → Document L t es → Leads L State.start t es (State.at Place.after b0)
  document_leads (document p e m) =
      let r = prolog_leads p in
      leads_append L r.leads (leads_quiet L (derives_leads e Place.before [] r.state refl r.prior.gate) (misc_after m))

  -- every document is accepted, with its events
  pub document_accepted : (t : List ℕ) (es : List Ev) → Document L t es → run L t State.start ≡ stands es (State.at Place.after b0)
  document_accepted t es d = leads_run L (document_leads d)
