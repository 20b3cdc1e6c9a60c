-- Every account is reached: what the grammar says has been read takes the start to the state of the account.
--
--   at_leads, at_door      what ends between two markups, and the two bytes '<!' behind it
--   name_reached, tag_reached, att_reached, value_reached       what ends in a tag
--   reads_leads, due_leads      what ends where some rows may come, or must
--   after_leads            every account
--   accounts_exactly       after t and with es the reader stands in s exactly if s has the account t, es
--
-- Assumes nothing.
use Rattle.std.specs.Prelude.{ℕ, ◌≡◌, ◌⊎◌, ◌↔◌, Bool, T}
use Rattle.std.proofs.Math.Path.{refl}
use Rattle.std.proofs.Common.{subst, inl, inr}
use Rattle.std.proofs.Math.Option.{Option}
use mathlib.Core.List.{List, [], ◌∷◌, ◌++◌, append_assoc}
use Rattle.choice.specs.When.{when}
use Rattle.xml.specs.Class.{Rows, in_class, word, words, disjoint, disjoint_ranges, out_of, waiting}
use Rattle.xml.proofs.Class.Laws.{some_spelling, waiting_sound}
use Rattle.xml.specs.Chars.{quote}
use Rattle.xml.specs.Refused.{misplaced}
use Rattle.xml.specs.Grammar.{Limits, Ev, Br, b0, Part, part_values, Eq, Mark}
use Rattle.xml.specs.Grammar
use Rattle.xml.specs.Machine.{Place, State, part_refusal, goes, one_of, arms, pick, step, stands, run}
use Rattle.xml.specs.Unfinished.{Late, Open, first, deeper, At, before, inside, after, Fits, InName, tag, InTag, attributed, InAtt, attribute}
use Rattle.xml.specs.Unfinished.{InValue, quoting, InDecl, named}
use Rattle.reading.specs.Left.{left, left_back}
use Rattle.reading.specs.Account.{Refers, Reads, Due, Begun, After}
use Rattle.reading.specs.Account.Grows.{open_name}
use Rattle.reading.specs.Account.Done.{reads_waiting, due_waiting}
use Rattle.reading.specs.Account.Sound.{run_account}
use Rattle.reading.specs.Leads.{pick_arms, past, firsts, in_firsts, Leads, stay, byte, leads_run, leads_append, leads_quiet, leads_same, one}
use Rattle.reading.specs.Leads.{by_word, rows_part, own_part}
use Rattle.reading.specs.Leads.Data.{note_wide, dash_wide, note_dash, dash_dash, remarked_leads, bang_note, data_wide, data_amper, value_wide}
use Rattle.reading.specs.Leads.Data.{value_amper, value_open, value_leads, s_leads}
use Rattle.reading.specs.Leads.Tags.{atts_as, gap_leads, atts_lead, gap_name, att_blank, eqs_blank, eq_leads, slashed_leads, ending_blank}
use Rattle.reading.specs.Leads.Tags.{ended_blank, slash_inside, ending_leads}
use Rattle.reading.specs.Leads.Declaration.{xml_leads, told_leads, piece_leads, part_leads, blanks_lead, equals_leads, quote_leads, name_byte_lem}
use Rattle.reading.specs.Leads.Declaration.{decl_end}
use Rattle.reading.specs.Leads.Whole.{gate_inside, name_leads, stag_leads, derives_leads, mark_leads, prolog_leads, document_leads}

module _ (L : Limits) where
  open_leads : {n t : List ℕ} {ns : List (List ℕ)} {es : List Ev} → Open L n ns t es → Leads L State.start t es (State.at (Place.inside n ns) b0)
  open_leads (first x p g) = let r = prolog_leads L p in leads_append L r.leads (stag_leads L r.prior.gate x g)
  open_leads (deeper {m = m} {ms = ms} {k = k} x o c g) =
      leads_append L (open_leads o) (leads_append L (derives_leads L c m ms refl) (stag_leads L (gate_inside L m ms k) x g))

  inside_leads :
      {n t : List ℕ} {ns : List (List ℕ)} {k : Br} {es : List Ev} → At L (Place.inside n ns) k t es → Leads L State.start t es (State.at (Place.inside n ns) k)
  inside_leads {n} {ns = ns} (inside o c) = leads_append L (open_leads o) (derives_leads L c n ns refl)

  pub at_leads : {p : Place} {k : Br} {t : List ℕ} {es : List Ev} → At L p k t es → Late p t → Leads L State.start t es (State.at p k)
  at_leads {t = t} (before p) (Late.before f) = let r = prolog_leads L p in go r.state r.leads r.where'
    where
      go : (j : State) → Leads L State.start t [] j → (j ≡ State.at Place.before b0) ⊎ Mark t → Leads L State.start t [] (State.at Place.before b0)
      go j l (inl e) = subst (λ z. Leads L State.start t [] z) e l
      go j l (inr m) = absurd (f m)
  at_leads (inside o c) Late.inside = inside_leads (inside o c)
  at_leads (after d) Late.after = document_leads L d

  -- a '<' may come, and a '!' behind it
  record Door (p : Place) (t : List ℕ) (es : List Ev) : Type 0 where
    state : State
    door : State
    leads : Leads L State.start t es state
    less : step L state 60 ≡ goes [] door
    bangs : step L door 33 ≡ goes [] (State.bang p)

  at_door : {p : Place} {k : Br} {t : List ℕ} {es : List Ev} → At L p k t es → Door p t es
  unfolding in_class step pick when
  at_door (before p) =
      let r = prolog_leads L p in
      let g = r.prior.gate in
      record { state = r.state; door = g.door; leads = r.leads; less = g.less; bangs = g.bangs }
  at_door {p = Place.inside n ns} {k = k} (inside o c) =
      let g = gate_inside L n ns k in
      record { state = State.at (Place.inside n ns) k; door = g.door; leads = inside_leads (inside o c); less = g.less; bangs = g.bangs }
  at_door (after d) =
      record { state = State.at Place.after b0; door = State.markup Place.after; leads = document_leads L d; less = refl; bangs = refl }

  bang_reached : {p : Place} {k : Br} {t : List ℕ} {es : List Ev} → At L p k t es → Leads L State.start (t ++ (60 ∷ 33 ∷ [])) es (State.bang p)
  bang_reached a = let d = at_door a in leads_quiet L d.leads (byte d.less (one L d.bangs))

  note_reached :
      {p : Place} {k : Br} {t u : List ℕ} {es : List Ev}
      → At L p k t es
      → Grammar.Remarked u
      → Leads L State.start (t ++ (60 ∷ 33 ∷ 45 ∷ 45 ∷ u)) es (State.note p)
  note_reached {p} a r =
      leads_same L (leads_quiet L (bang_reached a) (leads_append L (bang_note L p) (remarked_leads L p r))) (simp append_assoc)

  dash_reached :
      {p : Place} {k : Br} {t u : List ℕ} {es : List Ev}
      → At L p k t es
      → Grammar.Remarked u
      → Leads L State.start (t ++ (60 ∷ 33 ∷ 45 ∷ 45 ∷ (u ++ (45 ∷ [])))) es (State.dash p)
  dash_reached {p} a r =
      leads_same L (leads_quiet L (note_reached a r) (one L (note_dash L p))) (simp append_assoc)

  pub name_reached : {p : Place} {n t : List ℕ} {es : List Ev} → InName L p n t es → Leads L State.start t es (State.tag p n)
  name_reached (tag (before p) (Fits.before x) i) = let r = prolog_leads L p in leads_quiet L r.leads (name_leads L r.prior.gate x i)
  name_reached (tag {p = Place.inside n ns} {k = k} (inside o c) (Fits.inside x) i) =
      leads_quiet L (inside_leads (inside o c)) (name_leads L (gate_inside L n ns k) x i)
  name_reached {n = n} {es = es} (tag {t = t} (At.after _) x20 i) = elim x20 [ ]

  pub tag_reached : {p : Place} {n t : List ℕ} {ms : List (List ℕ)} {es : List Ev} → InTag L p n ms t es → Leads L State.start t es (atts_as L p n ms)
  tag_reached {p} {n} (attributed i g) = leads_quiet L (name_reached i) (atts_lead L p n g)

  pub att_reached :
      {p : Place} {n m t : List ℕ} {ms : List (List ℕ)} {es : List Ev} → InAtt L p n ms m t es → Leads L State.start t es (State.att p n ms m)
  att_reached {p} {n} {ms = ms} (attribute g u x i) = leads_quiet L (tag_reached g) (leads_append L (gap_leads L p n ms u) (gap_name L p n ms x i))

  pub value_reached :
      {p : Place} {n m t : List ℕ} {ms : List (List ℕ)} {q : Bool} {es : List Ev}
      → InValue L p n ms m q t es
      → Leads L State.start t es (State.value p n ms m q)
  value_reached {p} {n} {m} {ms = ms} (quoting q i x e v) =
      leads_quiet L (att_reached i) (leads_append L (eq_leads L p n ms m x e) (byte (value_open L p n ms m q) (value_leads L p n ms m q v)))

  refers_leads : {t : List ℕ} {es : List Ev} {k : State} → Refers L t es k → Leads L State.start (t ++ (38 ∷ [])) es (State.amper k)
  refers_leads (Refers.data' {n = n} {ns = ns} {k = k} a) = leads_quiet L (inside_leads a) (one L (data_amper L n ns k))
  refers_leads (Refers.value {p = p} {n = n} {m = m} {ms = ms} {q = q} v) = leads_quiet L (value_reached v) (one L (value_amper L p n ms m q))

  pub reads_leads : {t : List ℕ} {es : List Ev} {rs : Rows} {r : ℕ} {j k : State} → Reads L t es j rs r k → Leads L State.start t es j
  reads_leads (Reads.data' a) = inside_leads a
  reads_leads (Reads.value v) = value_reached v
  reads_leads (Reads.note a r) = note_reached a r
  reads_leads (Reads.dash a r) = dash_reached a r
  reads_leads (Reads.amper h) = refers_leads h
  reads_leads (Reads.bang a) = bang_reached a

  pub reads_own : {t : List ℕ} {es : List Ev} {rs : Rows} {r : ℕ} {j k : State} → Reads L t es j rs r k → past (firsts rs) (arms L j) ≡ one_of rs r [] k
  unfolding past pick_arms disjoint out_of disjoint_ranges firsts in_class word words
  reads_own (Reads.data' {n = n} {ns = ns} {k = k} a) = data_wide L n ns k
  reads_own (Reads.value {p = p} {n = n} {m = m} {ms = ms} {q = q} v) = value_wide L p n ms m q
  reads_own (Reads.note {p = p} a r) = note_wide L p
  reads_own (Reads.dash {p = p} a r) = dash_wide L p
  reads_own (Reads.amper h) = refl
  reads_own (Reads.bang a) = refl

  value_due :
      {o : Option Part} {k : Part} {t u : List ℕ} (q : Bool)
      → InDecl o k t
      → Eq u
      → Leads L State.start (t ++ (u ++ (quote q ∷ []))) [] (State.rows (part_values k (quote q)) (part_refusal k) [] (State.told k))
  value_due {o = o} {k = k} q (named m d x f) g =
      let (j, l, e, r) = mark_leads L m in
      leads_append L (leads_append L l (part_leads L j e k d x f)) (leads_append L (equals_leads L o k g) (one L (quote_leads L o k q)))

  pub due_leads : {t : List ℕ} {es fs : List Ev} {rs : Rows} {r : ℕ} {k : State} → Due L t es rs r fs k → Leads L State.start t es (State.rows rs r fs k)
  unfolding step pick when
  due_leads Due.mark = one L refl
  due_leads (Due.xml m) = let (j, l, e, r) = mark_leads L m in leads_append L l (xml_leads L j e)
  due_leads (Due.note {p = p} a r) =
      leads_same L (leads_quiet L (dash_reached a r) (one L (dash_dash L p))) (simp append_assoc)
  due_leads (Due.empty {p = p} {n = n} {ms = ms} g e) = leads_quiet L (tag_reached g) (slashed_leads L p n ms e)
  due_leads (Due.end {n = n} {ns = ns} {k = k} a) = leads_quiet L (inside_leads a) (slash_inside L n ns k)
  due_leads (Due.told m d f) = let (j, l, e, r) = mark_leads L m in leads_append L l (decl_end L j e d f)
  due_leads (Due.name {o = o} {k = k} m d x f) =
      let (j, l, e, r) = mark_leads L m in
      leads_same L (leads_append L (leads_append L l (piece_leads L j e d f)) (one L (name_byte_lem L o k x))) (simp append_assoc)
  due_leads (Due.value q i g) = value_due q i g

  rows_leads :
      {t w : List ℕ} {es fs : List Ev} {rs : Rows} {r : ℕ} {k : State}
      → Begun L t es w rs r fs k
      → T (waiting (left w rs))
      → Leads L State.start (t ++ w) es (State.rows (left w rs) r fs k)
  rows_leads {w = w} {fs = fs} {rs = rs} {r = r} {k = k} (Begun.due d) u =
      leads_quiet L (due_leads d) (rows_part L w rs r fs k (waiting_sound rs (due_waiting L d)) u)
  rows_leads (Begun.reads {w = w} {b = b} {rs = rs} {r = r} {j = j} {k = k} h) u =
      let (v, o) = some_spelling (left (b ∷ w) rs) u in
      leads_quiet L (reads_leads h) (own_part L b w j k rs r (reads_own h) (in_firsts (left_back (b ∷ w) rs o)) (waiting_sound rs (reads_waiting L h)) u)

  end_name : {n t : List ℕ} {ns : List (List ℕ)} {k : Br} {es : List Ev} → At L (Place.inside n ns) k t es → Grammar.Name L n
  end_name (inside o c) = open_name L o

  ending_reached :
      {n t : List ℕ} {ns : List (List ℕ)} {k : Br} {es : List Ev}
      → At L (Place.inside n ns) k t es
      → Leads L State.start (t ++ (60 ∷ 47 ∷ n)) es (State.ending n ns)
  ending_reached {n} {ns = ns} {k = k} a = leads_quiet L (inside_leads a) (ending_leads L n ns k (end_name a))

  part_reached : {o : Option Part} {k : Part} {t : List ℕ} → InDecl o k t → Leads L State.start t [] (State.part_eq o k)
  part_reached {k = k} (named m d x f) = let (j, l, e, r) = mark_leads L m in leads_append L l (part_leads L j e k d x f)

  markup_reached : {p : Place} {k : Br} {t : List ℕ} {es : List Ev} → At L p k t es → Late p t → Leads L State.start (t ++ (60 ∷ [])) es (State.markup p)
  unfolding in_class step pick when
  markup_reached (before p) f = leads_quiet L (at_leads (before p) f) (one L refl)
  markup_reached (inside o c) f = leads_quiet L (inside_leads (inside o c)) (one L refl)
  markup_reached (after d) f = leads_quiet L (document_leads L d) (one L refl)

  -- every account is reached
  pub after_leads : {t : List ℕ} {es : List Ev} {k : State} → After L t es k → Leads L State.start t es k
  unfolding step pick when
  after_leads After.start = stay
  after_leads After.fresh = byte refl (by_word L _ State.fresh _ _ misplaced [] refl)
  after_leads (After.opening m) = let (j, l, e, r) = mark_leads L m in leads_append L l (one L e)
  after_leads (After.declared m) = let (j, l, e, r) = mark_leads L m in leads_append L l (told_leads L j e Grammar.begun)
  after_leads (After.rows h u) = rows_leads h u
  after_leads (After.at a f) = at_leads a f
  after_leads (After.markup a f) = markup_reached a f
  after_leads (After.bang a) = bang_reached a
  after_leads (After.note a r) = note_reached a r
  after_leads (After.dash a r) = dash_reached a r
  after_leads (After.amper h) = refers_leads h
  after_leads (After.tag i) = name_reached i
  after_leads (After.tagged g) = tag_reached g
  after_leads (After.gap {p = p} {n = n} {ms = ms} g u) = leads_quiet L (tag_reached g) (gap_leads L p n ms u)
  after_leads (After.att i) = att_reached i
  after_leads (After.eqs {p = p} {n = n} {m = m} {ms = ms} i x u) =
      leads_quiet L (att_reached i) (s_leads L (State.att p n ms m) (State.eqs p n ms m) (att_blank L p n ms m x) (eqs_blank L p n ms m) u)
  after_leads (After.val {p = p} {n = n} {m = m} {ms = ms} i x e) = leads_quiet L (att_reached i) (eq_leads L p n ms m x e)
  after_leads (After.value v) = value_reached v
  after_leads (After.ending a) = ending_reached a
  after_leads (After.ended {n = n} {t = t} {u = u} {ns = ns} a f) =
      leads_same L
      (leads_quiet L (ending_reached a) (s_leads L (State.ending n ns) (State.ended n ns) (ending_blank L n ns) (ended_blank L n ns) f))
      (append_assoc t (60 ∷ 47 ∷ n) u)
  after_leads (After.told m d) = let (j, l, e, r) = mark_leads L m in leads_append L l (told_leads L j e d)
  after_leads (After.apiece m d f) = let (j, l, e, r) = mark_leads L m in leads_append L l (piece_leads L j e d f)
  after_leads (After.part_eq {o = o} {k = k} i e) = leads_append L (part_reached i) (blanks_lead L o k e)
  after_leads (After.part_val {o = o} {k = k} i e) = leads_append L (part_reached i) (equals_leads L o k e)

  -- accounts are exact
  pub accounts_exactly : (t : List ℕ) (es : List Ev) (k : State) → After L t es k ↔ (run L t State.start ≡ stands es k)
  accounts_exactly t es k = (λ h. leads_run L (after_leads h), run_account L t es k)
