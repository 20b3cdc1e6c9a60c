-- Comments, character data and values are read.
--
--   comment_leads          a comment, at any place
--   run_leads              character data, inside an element
--   quoted_leads           a value in its quotes
--   blanks_then, s_leads   blanks that take one state to another and leave that, and what comes behind them
--
-- Assumes nothing. NOT here: tags (Leads.Tags).
use Rattle.std.specs.Prelude.{ℕ, ◌≡◌, Bool}
use Rattle.std.proofs.Math.Path.{refl}
use Rattle.std.proofs.Math.Bool.{true, false}
use mathlib.Core.List.{List, [], ◌∷◌, ◌++◌}
use Rattle.xml.specs.Class.{in_class, In, this, word, disjoint, disjoint_ranges, out_of, apart_from, all_apart, filled}
use Rattle.xml.proofs.Class.Laws.{word_spells}
use Rattle.xml.specs.Chars.{blank, utf8, no_dash, plain, unquoted, quote}
use Rattle.xml.specs.Refused.{misplaced, not_char}
use Rattle.xml.specs.Grammar.{Limits, Ev, Br, b0, Each, S, s, Remarked, Comment, comment, Run, Value, AttValue, quoted}
use Rattle.xml.specs.Machine.{Place, State, goes, one_of, remarks, arms, pick, step, then_byte}
use Rattle.choice.specs.When.{when}
use Rattle.reading.specs.Leads.{pick_arms, past, firsts, Leads, stay, byte, leads_append, one, by_class, by_rows, by_word, char_leads}
use Rattle.reading.specs.Leads.{refer_leads}

module _ (L : Limits) where
  -- this one byte, and the events that wait for it
  pub byte_leads : (b : ℕ) (es : List Ev) (k : State) → Leads L (then_byte b es k) (b ∷ []) es k
  byte_leads b es k = by_word L (then_byte b es k) k [] b misplaced es refl

  noted : (p : Place) (b : ℕ) → In no_dash b → step L (State.note p) b ≡ goes [] (State.note p)
  unfolding past pick_arms disjoint out_of disjoint_ranges
  noted p b h = by_class L (State.note p) no_dash _ _ refl h

  dashed : (p : Place) (b : ℕ) → In no_dash b → step L (State.dash p) b ≡ goes [] (State.note p)
  unfolding past pick_arms disjoint out_of disjoint_ranges
  dashed p b h = by_class L (State.dash p) no_dash _ _ refl h

  pub note_wide : (p : Place) → past (firsts utf8) (arms L (State.note p)) ≡ one_of utf8 not_char [] (State.note p)
  unfolding past pick_arms disjoint out_of disjoint_ranges firsts in_class
  note_wide p = refl

  pub dash_wide : (p : Place) → past (firsts utf8) (arms L (State.dash p)) ≡ one_of utf8 not_char [] (State.note p)
  unfolding past pick_arms disjoint out_of disjoint_ranges firsts in_class
  dash_wide p = refl

  pub note_dash : (p : Place) → step L (State.note p) 45 ≡ goes [] (State.dash p)
  unfolding in_class step pick when
  note_dash p = refl

  pub dash_dash : (p : Place) → step L (State.dash p) 45 ≡ goes [] (then_byte 62 (remarks p) (State.at p b0))
  unfolding in_class step pick when
  dash_dash p = refl

  pub remarked_leads : {u : List ℕ} (p : Place) → Remarked u → Leads L (State.note p) u [] (State.note p)
  remarked_leads p Remarked.none = stay
  remarked_leads p (Remarked.char r c) =
      leads_append L (remarked_leads p r) (char_leads L (State.note p) (State.note p) no_dash (noted p) (note_wide p) c)
  remarked_leads p (Remarked.dashed r c) =
      leads_append L (remarked_leads p r) (byte (note_dash p) (char_leads L (State.dash p) (State.note p) no_dash (dashed p) (dash_wide p) c))

  pub bang_note : (p : Place) → Leads L (State.bang p) (45 ∷ 45 ∷ []) [] (State.note p)
  unfolding past pick_arms disjoint out_of disjoint_ranges firsts in_class all_apart apart_from filled word
  bang_note p =
      by_rows L (State.bang p) (State.note p) (word (45 ∷ 45 ∷ []) ∷ []) misplaced [] (45 ∷ 45 ∷ []) refl tt tt (this (word_spells (45 ∷ 45 ∷ [])))

  pub comment_leads :
      {u : List ℕ} (p : Place) (j m : State)
      → step L j 60 ≡ goes [] m
      → step L m 33 ≡ goes [] (State.bang p)
      → Comment u
      → Leads L j u (remarks p) (State.at p b0)
  comment_leads p j m e f (comment r) =
      byte e
      (byte f
      (leads_append L (bang_note p)
      (leads_append L (remarked_leads p r) (byte (note_dash p) (byte (dash_dash p) (byte_leads 62 (remarks p) (State.at p b0)))))))

  module _ (n : List ℕ) (ns : List (List ℕ)) where
    plainly : (k : Br) (b : ℕ) → In plain b → step L (State.at (Place.inside n ns) k) b ≡ goes [] (State.at (Place.inside n ns) b0)
    unfolding past pick_arms disjoint out_of disjoint_ranges
    plainly k b h = by_class L (State.at (Place.inside n ns) k) plain _ _ refl h

    pub data_wide : (k : Br) → past (firsts utf8) (arms L (State.at (Place.inside n ns) k)) ≡ one_of utf8 not_char [] (State.at (Place.inside n ns) b0)
    unfolding past pick_arms disjoint out_of disjoint_ranges firsts in_class
    data_wide k = refl

    pub run_leads : {k : Br} {u : List ℕ} → Run k u → Leads L (State.at (Place.inside n ns) b0) u [] (State.at (Place.inside n ns) k)
    unfolding in_class step pick when
    run_leads Run.none = stay
    run_leads (Run.char {k = k} r c) =
        leads_append L (run_leads r) (char_leads L (State.at (Place.inside n ns) k) (State.at (Place.inside n ns) b0) plain (plainly k) (data_wide k) c)
    run_leads (Run.close r) = leads_append L (run_leads r) (one L refl)
    run_leads (Run.gt0 r) = leads_append L (run_leads r) (one L refl)
    run_leads (Run.gt1 r) = leads_append L (run_leads r) (one L refl)

    pub data_amper : (k : Br) → step L (State.at (Place.inside n ns) k) 38 ≡ goes [] (State.amper (State.at (Place.inside n ns) b0))
    unfolding in_class step pick when
    data_amper k = refl

  module _ (p : Place) (n : List ℕ) (ms : List (List ℕ)) (m : List ℕ) where
    valued : (q : Bool) (b : ℕ) → In (unquoted q) b → step L (State.value p n ms m q) b ≡ goes [] (State.value p n ms m q)
    unfolding past pick_arms disjoint out_of disjoint_ranges
    valued true b h = by_class L (State.value p n ms m true) (unquoted true) _ _ refl h
    valued false b h = by_class L (State.value p n ms m false) (unquoted false) _ _ refl h

    pub value_wide : (q : Bool) → past (firsts utf8) (arms L (State.value p n ms m q)) ≡ one_of utf8 not_char [] (State.value p n ms m q)
    unfolding past pick_arms disjoint out_of disjoint_ranges firsts in_class
    value_wide true = refl
    value_wide false = refl

    pub value_amper : (q : Bool) → step L (State.value p n ms m q) 38 ≡ goes [] (State.amper (State.value p n ms m q))
    unfolding step pick in_class when
    value_amper true = refl
    value_amper false = refl

    pub value_close : (q : Bool) → step L (State.value p n ms m q) (quote q) ≡ goes [] (State.tagged p n (m ∷ ms))
    unfolding step pick in_class when
    value_close true = refl
    value_close false = refl

    pub value_open : (q : Bool) → step L (State.val p n ms m) (quote q) ≡ goes [] (State.value p n ms m q)
    unfolding step pick in_class when
    value_open true = refl
    value_open false = refl

    pub value_leads : (q : Bool) {u : List ℕ} → Value q u → Leads L (State.value p n ms m q) u [] (State.value p n ms m q)
    value_leads q Value.none = stay
    value_leads q (Value.char v c) =
        leads_append L (value_leads q v) (char_leads L (State.value p n ms m q) (State.value p n ms m q) (unquoted q) (valued q) (value_wide q) c)
    value_leads q (Value.ref v r) = leads_append L (value_leads q v) (refer_leads L (State.value p n ms m q) (State.value p n ms m q) (value_amper q) r)

    pub quoted_leads : {u : List ℕ} → AttValue u → Leads L (State.val p n ms m) u [] (State.tagged p n (m ∷ ms))
    quoted_leads (quoted q v) = byte (value_open q) (leads_append L (value_leads q v) (one L (value_close q)))

  -- blanks that take j to k and leave k
  data Via (j k : State) : List ℕ → Type 0 where
    here : Via j k []
    there : {t : List ℕ} → Leads L j t [] k → Via j k t

  module _ (j k : State) (f : (b : ℕ) → In blank b → step L j b ≡ goes [] k) (g : (b : ℕ) → In blank b → step L k b ≡ goes [] k) where
    via_more : {t : List ℕ} {b : ℕ} → Via j k t → In blank b → Leads L j (t ++ (b ∷ [])) [] k
    via_more here h = one L (f _ h)
    via_more (there l) h = leads_append L l (one L (g _ h))

    via : {t : List ℕ} → Each blank t → Via j k t
    via Each.none = here
    via (Each.more e h) = there (via_more (via e) h)

    pub s_leads : {t : List ℕ} → S t → Leads L j t [] k
    s_leads (s e h) = via_more (via e) h

    via_then :
        {t : List ℕ} (b : ℕ) {l : State} {es : List Ev}
        → Via j k t
        → step L j b ≡ goes es l
        → step L k b ≡ goes es l
        → Leads L j (t ++ (b ∷ [])) es l
    via_then b here x y = one L x
    via_then b (there h) x y = leads_append L h (one L y)

    pub blanks_then :
        {t : List ℕ} (b : ℕ) {l : State} {es : List Ev}
        → Each blank t
        → step L j b ≡ goes es l
        → step L k b ≡ goes es l
        → Leads L j (t ++ (b ∷ [])) es l
    blanks_then b e x y = via_then b (via e) x y
