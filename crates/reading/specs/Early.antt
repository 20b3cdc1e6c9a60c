-- A refusal comes as early as it can: as long as the reader goes on, some text behind makes a document of what has been read.
--
--   Alive k            some text takes k to the end of a document
--   Standing t es k    k is alive, or it is inside an attribute's name
--   standing           each account's state is one of these
--   alive              every state that has been reached is alive, where names may have any length
--   alive_or           the same where they may not, but for a doubled one: in an attribute's name that so far spells an earlier one
--   reaches_document   a text that is read without refusal begins a document, where names may have any length
--   refused_none       a text that is refused begins none
--
-- Assumes that one element may be open and a name may have one byte. NOT here: the reader's own limits (Earliest).
use Rattle.std.specs.Prelude.{ℕ, zero, suc, ◌+◌, ◌≤◌, ◌≡◌, ◌⊎◌, Bool, true, false, not, ◌||◌, T, eqb, length}
use Rattle.std.proofs.Common.{arith, sym, ◌∙◌, subst, inl, inr, length-append}
use Rattle.std.proofs.Math.Path.{refl, ap}
use Rattle.std.proofs.Math.Option.{Option, none, some}
use mathlib.Core.List.{List, [], ◌∷◌, ◌++◌}
use Rattle.std.proofs.Math.Dec.{not_T}
use Rattle.choice.specs.When.{when}
use Rattle.xml.specs.Class.{Rows, in_class, this, words, waiting, all_apart}
use Rattle.xml.proofs.Class.Laws.{some_spelling, waiting_sound, waiting_filled, and_l, and_r, word_spells}
use Rattle.xml.specs.Chars.{name_char, quote}
use Rattle.xml.specs.Grammar
use Rattle.xml.specs.Grammar.{Limits, Ev, Br, b0, among, same_name, Part, version, part_values, may_follow, Each, eq, Value, quoted, Name, name}
use Rattle.xml.specs.Grammar.{Attributes, etag, ctag, empty, Document}
use Rattle.xml.specs.Machine.{Place, State, goes, remarks, up, emptied, step, pick, run, stopped, stands, given, then_byte}
use Rattle.xml.specs.Unfinished.{Open, first, deeper, At, before, inside, after, Fits, InName, tag, InTag, attributed, InAtt, attribute, InValue}
use Rattle.xml.specs.Unfinished.{quoting}
use Rattle.reading.specs.Left.{left}
use Rattle.reading.specs.Cut.{cut_anywhere, onward}
use Rattle.reading.specs.Account.{Refers, Reads, Due, Begun, After}
use Rattle.reading.specs.Account.Grows.{open_name}
use Rattle.reading.specs.Account.Done.{values_waiting}
use Rattle.reading.specs.Account.Sound.{run_account, accepted_document}
use Rattle.reading.specs.Leads.{past, Leads, stay, leads_run, leads_append, one, by_rows, entity_leads}
use Rattle.reading.specs.Leads.Data.{byte_leads, note_dash, dash_dash, bang_note, quoted_leads, value_close}
use Rattle.reading.specs.Leads.Tags.{TagEnd, tag_end_lem, tagged_end, gap_end, grow_leads, att_grows, eqs_eq, eq_leads, ended_leads, ctag_leads}
use Rattle.reading.specs.Leads.Declaration.{told_blank, equals_leads, value_leads, name_leads}
use Rattle.reading.specs.Leads.Whole.{Prior, prior_start, prior_fresh, prior_before, derives_leads, document_accepted}

-- names of 'a' alone, as long as is asked
each_a : (n : ℕ) → (t : List ℕ) × Each name_char t × (length t ≡ n)
unfolding in_class
each_a zero = ([], Each.none, refl)
each_a (suc n) =
    let (t, e, l) = each_a n in
    (t ++ (97 ∷ []), Each.more e (record { holds = tt }), length-append t (97 ∷ []) ∙ (let h : length t + 1 ≡ suc n = omega (arith, l) in h))

total : List (List ℕ) → ℕ
total [] = 0
total (m ∷ ms) = length m + total ms

same_length : (t u : List ℕ) → T (same_name t u) → length t ≡ length u
unfolding same_name
same_length [] [] h = refl
same_length [] (b ∷ u) h = absurd h
same_length (a ∷ t) [] h = absurd h
same_length (a ∷ t) (b ∷ u) h = ap suc (same_length t u (and_r (eqb a b) _ h))

among_short : (m : List ℕ) (ms : List (List ℕ)) → T (among m ms) → length m ≤ total ms
unfolding among total
among_short m [] h = absurd h
among_short m (k ∷ ms) h = go (same_name m k) (among m ms) refl h (among_short m ms)
  where
    go : (x y : Bool) → same_name m k ≡ x → T (x || y) → (T y → length m ≤ total ms) → length m ≤ length k + total ms
    go true y e h f = let l : length m ≡ length k = same_length m k (subst T (sym e) tt) in omega arith
    go false y e h f = let l : length m ≤ total ms = f h in omega arith

module _ (L : Limits) (one_open : T (L.nest 1)) (one_name : T (L.name 1)) where
  pub record Alive (k : State) : Type 0 where
    pub rest : List ℕ
    pub evs : List Ev
    pub leads : Leads L k rest evs (State.at Place.after b0)

  done : Alive (State.at Place.after b0)
  done = record { rest = []; evs = []; leads = stay }

  pub on_to : {j k : State} {u : List ℕ} {fs : List Ev} → Leads L j u fs k → Alive k → Alive j
  on_to {u = u} {fs = fs} l a = record { rest = u ++ a.rest; evs = fs ++ a.evs; leads = leads_append L l a.leads }

  along : {j : State} (b : ℕ) (es : List Ev) (k : State) → step L j b ≡ goes es k → Alive k → Alive j
  along b es k e a = on_to (one L {b = b} {es = es} e) a

  byte_alive : (b : ℕ) (fs : List Ev) (k : State) → Alive k → Alive (then_byte b fs k)
  byte_alive b fs k a = on_to (byte_leads L b fs k) a

  data Names : List (List ℕ) → Type 0 where
    no_names : Names []
    named : {n : List ℕ} {ns : List (List ℕ)} → Name L n → Names ns → Names (n ∷ ns)

  open_names : {n t : List ℕ} {ns : List (List ℕ)} {es : List Ev} → Open L n ns t es → Names (n ∷ ns)
  open_names (first x p g) = named (open_name L (first x p g)) no_names
  open_names (deeper x o c g) = named (open_name L (deeper x o c g)) (open_names o)

  up_alive : {ns : List (List ℕ)} → Names ns → Alive (State.at (up ns) b0)
  up_alive no_names = done
  up_alive (named {n = n} {ns = ns} i h) = on_to (ctag_leads L n ns b0 i (ctag Each.none)) (up_alive h)

  inside_alive : {n t : List ℕ} {ns : List (List ℕ)} {es : List Ev} (k : Br) → Open L n ns t es → Alive (State.at (Place.inside n ns) k)
  inside_alive {n} {ns = ns} k o = go (open_names o)
    where
      go : Names (n ∷ ns) → Alive (State.at (Place.inside n ns) k)
      go (named i h) = on_to (ctag_leads L n ns k i (ctag Each.none)) (up_alive h)

  ended_alive : {n t : List ℕ} {ns : List (List ℕ)} {k : Br} {es : List Ev} → At L (Place.inside n ns) k t es → Alive (State.at (up ns) b0)
  ended_alive (inside o c) = go (open_names o)
    where
      go : {n : List ℕ} {ns : List (List ℕ)} → Names (n ∷ ns) → Alive (State.at (up ns) b0)
      go (named i h) = up_alive h

  name_a : Name L (97 ∷ [])
  unfolding in_class
  name_a = name (record { holds = tt }) Each.none one_name

  prior_alive : (k : State) → Prior L k → Alive k
  prior_alive k r = on_to (derives_leads L (empty one_open (etag name_a Attributes.none Each.none)) Place.before [] k refl r.gate) done

  before_alive : Alive (State.at Place.before b0)
  before_alive = prior_alive _ (prior_before L)

  at_alive : {p : Place} {k : Br} {t : List ℕ} {es : List Ev} → At L p k t es → Alive (State.at p k)
  at_alive (before p) = before_alive
  at_alive {k = k} (inside o c) = inside_alive k o
  at_alive (after d) = done

  -- with no brackets at the end
  at_alive₀ : {p : Place} {k : Br} {t : List ℕ} {es : List Ev} → At L p k t es → Alive (State.at p b0)
  at_alive₀ (before p) = before_alive
  at_alive₀ (inside o c) = inside_alive b0 o
  at_alive₀ (after d) = done

  name_alive : {p : Place} {n t : List ℕ} {es : List Ev} → InName L p n t es → Alive (State.at (emptied p) b0)
  name_alive (tag (before p) (Fits.before x) i) = done
  name_alive (tag (inside o c) (Fits.inside x) i) = inside_alive b0 o
  name_alive {n = n} {es = es} (tag {t = t} (At.after _) x20 i) = elim x20 [ ]

  tag_alive : {p : Place} {n t : List ℕ} {ms ms' : List (List ℕ)} {j : State} {es : List Ev} → InTag L p n ms t es → TagEnd L p n ms' j → Alive j
  tag_alive (attributed i g) e = along 47 _ _ e.slash (byte_alive 62 _ _ (name_alive i))

  dash_alive : {p : Place} {k : Br} {t : List ℕ} {es : List Ev} → At L p k t es → Alive (State.dash p)
  dash_alive {p} a = along 45 [] _ (dash_dash L p) (byte_alive 62 (remarks p) _ (at_alive₀ a))

  note_alive : {p : Place} {k : Br} {t : List ℕ} {es : List Ev} → At L p k t es → Alive (State.note p)
  note_alive {p} a = along 45 [] (State.dash p) (note_dash L p) (dash_alive a)

  bang_alive : {p : Place} {k : Br} {t : List ℕ} {es : List Ev} → At L p k t es → Alive (State.bang p)
  bang_alive {p} a = on_to (bang_note L p) (note_alive a)

  att_tag : {p : Place} {n m t : List ℕ} {ms ms' : List (List ℕ)} {j : State} {es : List Ev} → InAtt L p n ms m t es → TagEnd L p n ms' j → Alive j
  att_tag (attribute g u x i) e = tag_alive g e

  val_alive : {p : Place} {n m t : List ℕ} {ms : List (List ℕ)} {es : List Ev} (m' : List ℕ) → InAtt L p n ms m t es → Alive (State.val p n ms m')
  val_alive {p} {n} {ms = ms} m' i = on_to (quoted_leads L p n ms m' (quoted true Value.none)) (att_tag i (tagged_end L p n (m' ∷ ms)))

  -- an attribute's name that can be made longer into a new one
  pub grown_alive :
      {p : Place} {n m t u : List ℕ} {ms : List (List ℕ)} {es : List Ev}
      → InAtt L p n ms m t es
      → Each name_char u
      → T (L.name (length (m ++ u)))
      → T (not (among (m ++ u) ms))
      → Alive (State.att p n ms m)
  grown_alive {p} {n} {m} {u = u} {ms = ms} i e l x =
      on_to (grow_leads L (State.att p n ms) m (att_grows L p n ms) e l) (on_to (eq_leads L p n ms (m ++ u) x (eq Each.none Each.none)) (val_alive (m ++ u) i))

  value_alive : {p : Place} {n m t : List ℕ} {ms : List (List ℕ)} {q : Bool} {es : List Ev} → InValue L p n ms m q t es → Alive (State.value p n ms m q)
  value_alive {p} {n} {m} {ms = ms} (quoting q i x e v) =
      along (quote q) [] (State.tagged p n (m ∷ ms)) (value_close L p n ms m q) (att_tag i (tagged_end L p n (m ∷ ms)))

  told_alive : (k : Part) → Alive (State.told k)
  unfolding in_class step pick when
  told_alive k = along 63 [] _ refl (byte_alive 62 [] _ before_alive)

  values_alive : (o : Option Part) (k : Part) → Alive (State.part_val o k)
  values_alive o k = on_to (value_leads L o k true (some_spelling (part_values k 34) (values_waiting k true)).1) (told_alive k)

  part_eq_alive : (o : Option Part) (k : Part) → Alive (State.part_eq o k)
  part_eq_alive o k = on_to (equals_leads L o k (eq Each.none Each.none)) (values_alive o k)

  apiece_alive : (o : Option Part) → Alive (State.apiece o)
  unfolding in_class step pick when may_follow
  apiece_alive none = on_to (name_leads L none version tt) (part_eq_alive none version)
  apiece_alive (some k) = along 63 [] _ refl (byte_alive 62 [] _ before_alive)

  declared_alive : Alive State.declared
  unfolding in_class
  declared_alive = along 32 [] _ (told_blank L none 32 (record { holds = tt })) (apiece_alive none)

  refers_alive : {t : List ℕ} {es : List Ev} {k : State} → Refers L t es k → Alive k
  refers_alive (Refers.data' a) = at_alive₀ a
  refers_alive (Refers.value v) = value_alive v

  reads_alive : {t : List ℕ} {es : List Ev} {rs : Rows} {r : ℕ} {j k : State} → Reads L t es j rs r k → Alive k
  reads_alive (Reads.data' a) = at_alive₀ a
  reads_alive (Reads.value v) = value_alive v
  reads_alive (Reads.note a r) = note_alive a
  reads_alive (Reads.dash a r) = note_alive a
  reads_alive (Reads.amper h) = refers_alive h
  reads_alive (Reads.bang a) = note_alive a

  empty_alive : {p : Place} {n t : List ℕ} {ms : List (List ℕ)} {es : List Ev} → InTag L p n ms t es → Alive (State.at (emptied p) b0)
  empty_alive (attributed i g) = name_alive i

  ending_alive : {n t : List ℕ} {ns : List (List ℕ)} {k : Br} {es : List Ev} → At L (Place.inside n ns) k t es → Alive (State.ending n ns)
  ending_alive {n} {ns = ns} a = on_to (ended_leads L n ns Each.none) (ended_alive a)

  due_alive : {t : List ℕ} {es fs : List Ev} {rs : Rows} {r : ℕ} {k : State} → Due L t es rs r fs k → Alive k
  due_alive Due.mark = prior_alive _ (prior_fresh L)
  due_alive (Due.xml m) = declared_alive
  due_alive (Due.note a r) = at_alive₀ a
  due_alive (Due.empty g e) = empty_alive g
  due_alive (Due.end a) = ending_alive a
  due_alive (Due.told m d e) = before_alive
  due_alive (Due.name {o = o} {k = k} m d x f) = part_eq_alive o k
  due_alive (Due.value {k = k} q i e) = told_alive k

  begun_alive : {t w : List ℕ} {es fs : List Ev} {rs : Rows} {r : ℕ} {k : State} → Begun L t es w rs r fs k → Alive k
  begun_alive (Begun.due d) = due_alive d
  begun_alive (Begun.reads h) = reads_alive h

  rows_alive : (rs : Rows) (r : ℕ) (fs : List Ev) (k : State) → T (waiting rs) → Alive k → Alive (State.rows rs r fs k)
  unfolding past
  rows_alive rs r fs k u a =
      let (w, o) = some_spelling rs u in
      on_to (by_rows L (State.rows rs r fs k) k rs r fs w refl (and_l (all_apart rs) _ (waiting_sound rs u)) (waiting_filled rs u) o) a

  pub data Standing : List ℕ → List Ev → State → Type 0 where
    living : {t : List ℕ} {es : List Ev} {k : State} → Alive k → Standing t es k
    naming : {p : Place} {n m t : List ℕ} {ms : List (List ℕ)} {es : List Ev} → InAtt L p n ms m t es → Standing t es (State.att p n ms m)

  amper_alive : (k : State) → Alive k → Alive (State.amper k)
  unfolding words
  amper_alive k a = on_to (entity_leads L k (this (word_spells (108 ∷ 116 ∷ 59 ∷ [])))) a

  pub standing : {t : List ℕ} {es : List Ev} {k : State} → After L t es k → Standing t es k
  unfolding in_class step pick when
  standing After.start = living (prior_alive _ (prior_start L))
  standing After.fresh = living (prior_alive _ (prior_fresh L))
  standing (After.opening m) = living (along 33 [] (State.bang Place.before) refl (bang_alive (before (Grammar.prolog m Grammar.Decl.none Grammar.Misc.none))))
  standing (After.declared m) = living declared_alive
  standing (After.rows {w = w} {fs = fs} {rs = rs} {r = r} {k = k} h u) = living (rows_alive (left w rs) r fs k u (begun_alive h))
  standing (After.at a f) = living (at_alive a)
  standing (After.markup {p = p} a f) = living (along 33 [] (State.bang p) refl (bang_alive a))
  standing (After.bang a) = living (bang_alive a)
  standing (After.note a r) = living (note_alive a)
  standing (After.dash a r) = living (dash_alive a)
  standing (After.amper h) = living (amper_alive _ (refers_alive h))
  standing (After.tag {p = p} {n = n} i) = living (along 47 _ _ (tag_end_lem L p n).slash (byte_alive 62 _ _ (name_alive i)))
  standing (After.tagged {p = p} {n = n} {m = m} {ms = ms} g) = living (tag_alive g (tagged_end L p n (m ∷ ms)))
  standing (After.gap {p = p} {n = n} {ms = ms} g u) = living (tag_alive g (gap_end L p n ms))
  standing (After.att i) = naming i
  standing (After.eqs {p = p} {n = n} {m = m} {ms = ms} i x u) = living (along 61 [] (State.val p n ms m) (eqs_eq L p n ms m) (val_alive m i))
  standing (After.val {m = m} i x e) = living (val_alive m i)
  standing (After.value v) = living (value_alive v)
  standing (After.ending a) = living (ending_alive a)
  standing (After.ended {n = n} {ns = ns} a u) = living (along 62 (Grammar.closes n ∷ []) (State.at (up ns) b0) refl (ended_alive a))
  standing (After.told {k = k} m d) = living (told_alive k)
  standing (After.apiece {o = o} m d e) = living (apiece_alive o)
  standing (After.part_eq {o = o} {k = k} i e) = living (part_eq_alive o k)
  standing (After.part_val {o = o} {k = k} i e) = living (values_alive o k)

  any_alive :
      {p : Place} {n m t : List ℕ} {ms : List (List ℕ)} {es : List Ev} → ((n : ℕ) → T (L.name n)) → InAtt L p n ms m t es → Alive (State.att p n ms m)
  any_alive {m = m} {ms = ms} any_name i =
      let (u, e, l) = each_a (suc (total ms)) in
      grown_alive i e (any_name _)
      (not_T (among (m ++ u) ms) (λ h. let y : length (m ++ u) ≤ total ms = among_short (m ++ u) ms h in omega (arith, length-append m u, l)))

  -- a name that is not given yet need not be longer
  pub new_alive : {p : Place} {n m t : List ℕ} {ms : List (List ℕ)} {es : List Ev} → InAtt L p n ms m t es → T (not (among m ms)) → Alive (State.att p n ms m)
  new_alive {p} {n} {m} {ms = ms} i x = on_to (eq_leads L p n ms m x (eq Each.none Each.none)) (val_alive m i)

  pub alive : ((n : ℕ) → T (L.name n)) → {t : List ℕ} {es : List Ev} {k : State} → After L t es k → Alive k
  alive any_name h = go (standing h)
    where
      go : {t : List ℕ} {es : List Ev} {k : State} → Standing t es k → Alive k
      go (living a) = a
      go (naming i) = any_alive any_name i

  -- the text ends in an attribute's name that so far spells an earlier one of its tag
  pub data Doubled : State → Type 0 where
    doubled : {p : Place} {n m : List ℕ} {ms : List (List ℕ)} → T (among m ms) → Doubled (State.att p n ms m)

  pub alive_or : {t : List ℕ} {es : List Ev} {k : State} → After L t es k → Alive k ⊎ Doubled k
  alive_or h = go (standing h)
    where
      name_or :
          {p : Place} {n m t : List ℕ} {ms : List (List ℕ)} {es : List Ev} (x : Bool)
          → among m ms ≡ x
          → InAtt L p n ms m t es
          → Alive (State.att p n ms m) ⊎ Doubled (State.att p n ms m)
      name_or true e i = inr (doubled (subst T (sym e) tt))
      name_or false e i = inl (new_alive i (subst (λ z. T (not z)) (sym e) tt))

      go : {t : List ℕ} {es : List Ev} {k : State} → Standing t es k → Alive k ⊎ Doubled k
      go (living a) = inl a
      go (naming {m = m} {ms = ms} i) = name_or (among m ms) refl i

  -- a living state is on the way to a document
  pub alive_document :
      (t : List ℕ) (es : List Ev) (k : State) → run L t State.start ≡ stands es k → Alive k → (u : List ℕ) × (fs : List Ev) × Document L (t ++ u) (es ++ fs)
  unfolding given
  alive_document t es k e a =
      let r : run L (t ++ a.rest) State.start ≡ stands (es ++ a.evs) (State.at Place.after b0) =
      cut_anywhere L t a.rest State.start
      ∙ ap (λ z. onward L z (run L a.rest) a.rest) e
      ∙ ap (given es) (leads_run L a.leads) in
      (a.rest, a.evs, accepted_document L _ _ r)

  pub reaches_document :
      ((n : ℕ) → T (L.name n))
      → (t : List ℕ) (es : List Ev) (k : State)
      → run L t State.start ≡ stands es k
      → (u : List ℕ) × (fs : List Ev) × Document L (t ++ u) (es ++ fs)
  reaches_document any_name t es k e = alive_document t es k e (alive any_name (run_account L t es k e))

  -- a text that is refused begins none
  pub refused_none :
      (t : List ℕ) (es : List Ev) (r : ℕ) (v : List ℕ) → run L t State.start ≡ stopped es r v → (u : List ℕ) (fs : List Ev) → Document L (t ++ u) fs → ⊥
  refused_none t es r v e u fs d =
      let p : stopped es r (v ++ u) ≡ stands fs (State.at Place.after b0) =
      sym (cut_anywhere L t u State.start ∙ ap (λ z. onward L z (run L u) u) e) ∙ document_accepted L (t ++ u) fs d in
      let z : ◌≡◌ {A = ℕ} 0 1 = cc in
      omega arith
