-- Tags are read: their names, attributes and ends.
--
--   grow_leads             a name grows within its limit
--   TagEnd p n ms k        at k a tag may end or go on with an attribute, the attributes so far being ms
--   gap_leads, gap_name, eq_leads      blanks, an attribute's name and its '=';  atts_lead: all attributes
--   close_leads, slash_leads      the end of a start tag and of an empty one
--   ended_leads, ctag_leads       an end tag
--
-- Assumes nothing. NOT here: where a tag may begin (Leads.Whole), values (Leads.Data).
use Rattle.std.specs.Prelude.{ℕ, suc, ◌≡◌, not, List, [], ◌∷◌, ◌++◌, T, length}
use Rattle.std.proofs.Math.Path.{refl}
use Rattle.std.proofs.Common.{sym, ◌∙◌, subst, append_assoc, append-nil}
use Rattle.choice.specs.When.{when}
use Rattle.xml.specs.Class.{in_class, In, word, disjoint, disjoint_ranges, out_of}
use Rattle.xml.specs.Chars.{blank, name_start, name_char}
use Rattle.xml.specs.Refused.{long_name, many_attributes, twice, other_end}
use Rattle.xml.specs.Grammar.{Limits, opens, closes, Br, b0, among, Each, S, Eq, eq, Name, name, Attributes, ETag, ctag}
use Rattle.xml.specs.Machine.{Place, State, goes, opened, up, emptied, longer, pick, step, then_byte}
use Rattle.reading.specs.Last.{length_snoc}
use Rattle.reading.specs.Leads.{pick_arms, past, check_true, Leads, stay, byte, leads_append, one, by_class, by_word, each_leads}
use Rattle.reading.specs.Leads.Data.{byte_leads, quoted_leads, s_leads, blanks_then}

module _ (L : Limits) where
  pub name_first : (b : ℕ) (t : List ℕ) → T (L.name (length (b ∷ t))) → T (L.name 1)
  name_first b [] h = h
  name_first b (c ∷ t) h = name_first b t (L.name_down _ h)

  pub grow_leads :
      {t : List ℕ} (f : List ℕ → State) (n : List ℕ)
      → ((m : List ℕ) (b : ℕ) → In name_char b → step L (f m) b ≡ longer L m f b)
      → Each name_char t
      → T (L.name (length (n ++ t)))
      → Leads L (f n) t [] (f (n ++ t))
  grow_leads f n g Each.none h = subst (λ z. Leads L (f n) [] [] (f z)) (sym (append-nil n)) stay
  grow_leads f n g (Each.more {t = t} {b = b} e i) h =
      let a : n ++ (t ++ (b ∷ [])) ≡ (n ++ t) ++ (b ∷ []) = sym (append_assoc n t (b ∷ [])) in
      let l : T (L.name (length ((n ++ t) ++ (b ∷ [])))) = subst (λ z. T (L.name (length z))) a h in
      let l' : T (L.name (length (n ++ t))) = L.name_down _ (subst (λ z. T (L.name z)) (length_snoc (n ++ t) b) l) in
      subst (λ z. Leads L (f n) (t ++ (b ∷ [])) [] (f z)) (sym a)
      (leads_append L (grow_leads f n g e l') (one L (g (n ++ t) b i ∙ check_true _ long_name _ l)))

  pub tag_grows : (p : Place) (n : List ℕ) (b : ℕ) → In name_char b → step L (State.tag p n) b ≡ longer L n (State.tag p) b
  unfolding past pick_arms disjoint out_of disjoint_ranges
  tag_grows p n b h = by_class L (State.tag p n) name_char _ _ refl h

  pub att_grows :
      (p : Place) (n : List ℕ) (ms : List (List ℕ)) (m : List ℕ) (b : ℕ) → In name_char b → step L (State.att p n ms m) b ≡ longer L m (State.att p n ms) b
  unfolding past pick_arms disjoint out_of disjoint_ranges
  att_grows p n ms m b h = by_class L (State.att p n ms m) name_char _ _ refl h

  pub record TagEnd (p : Place) (n : List ℕ) (ms : List (List ℕ)) (k : State) : Type 0 where
    pub space : (b : ℕ) → In blank b → step L k b ≡ goes [] (State.gap p n ms)
    pub close : step L k 62 ≡ goes (opens n ∷ []) (State.at (opened p n) b0)
    pub slash : step L k 47 ≡ goes [] (then_byte 62 (opens n ∷ closes n ∷ []) (State.at (emptied p) b0))

  module _ (p : Place) (n : List ℕ) where
    pub tag_end_lem : TagEnd p n [] (State.tag p n)
    unfolding past pick_arms disjoint out_of disjoint_ranges in_class step pick when
    tag_end_lem = record { space = λ b h. by_class L (State.tag p n) blank _ _ refl h; close = refl; slash = refl }

    pub tagged_end : (ms : List (List ℕ)) → TagEnd p n ms (State.tagged p n ms)
    unfolding past pick_arms disjoint out_of disjoint_ranges in_class step pick when
    tagged_end ms = record { space = λ b h. by_class L (State.tagged p n ms) blank _ _ refl h; close = refl; slash = refl }

    pub gap_end : (ms : List (List ℕ)) → TagEnd p n ms (State.gap p n ms)
    unfolding past pick_arms disjoint out_of disjoint_ranges in_class step pick when
    gap_end ms = record { space = λ b h. by_class L (State.gap p n ms) blank _ _ refl h; close = refl; slash = refl }

    pub gap_name : {m : List ℕ} (ms : List (List ℕ)) → T (L.atts (suc (length ms))) → Name L m → Leads L (State.gap p n ms) m [] (State.att p n ms m)
    unfolding past pick_arms disjoint out_of disjoint_ranges
    gap_name ms x (name {b = b} {t = t} h e l) =
        byte
        (by_class L (State.gap p n ms) name_start _ _ refl h ∙ check_true _ many_attributes _ x ∙ check_true _ long_name _ (name_first b t l))
        (grow_leads (State.att p n ms) (b ∷ []) (att_grows p n ms) e l)

    module _ (ms : List (List ℕ)) (m : List ℕ) where
      pub eqs_blank : (b : ℕ) → In blank b → step L (State.eqs p n ms m) b ≡ goes [] (State.eqs p n ms m)
      unfolding past pick_arms disjoint out_of disjoint_ranges
      eqs_blank b h = by_class L (State.eqs p n ms m) blank _ _ refl h

      val_blank : (b : ℕ) → In blank b → step L (State.val p n ms m) b ≡ goes [] (State.val p n ms m)
      unfolding past pick_arms disjoint out_of disjoint_ranges
      val_blank b h = by_class L (State.val p n ms m) blank _ _ refl h

      pub eqs_eq : step L (State.eqs p n ms m) 61 ≡ goes [] (State.val p n ms m)
      unfolding step pick in_class when
      eqs_eq = refl

      module _ (x : T (not (among m ms))) where
        pub att_blank : (b : ℕ) → In blank b → step L (State.att p n ms m) b ≡ goes [] (State.eqs p n ms m)
        unfolding past pick_arms disjoint out_of disjoint_ranges
        att_blank b h = by_class L (State.att p n ms m) blank _ _ refl h ∙ check_true _ twice _ x

        att_eq : step L (State.att p n ms m) 61 ≡ goes [] (State.val p n ms m)
        unfolding step pick in_class when
        att_eq = check_true _ twice _ x

        pub eq_leads : {u : List ℕ} → Eq u → Leads L (State.att p n ms m) u [] (State.val p n ms m)
        eq_leads (eq {t = t} {u = u} e f) =
            subst (λ z. Leads L (State.att p n ms m) z [] (State.val p n ms m)) (append_assoc t (61 ∷ []) u)
            (leads_append L
            (blanks_then L (State.att p n ms m) (State.eqs p n ms m) att_blank eqs_blank 61 e att_eq eqs_eq)
            (each_leads L blank (State.val p n ms m) val_blank f))

    -- behind a name, or behind a value
    abbrev pub atts_as : List (List ℕ) → State
    atts_as [] = State.tag p n
    atts_as (m ∷ ms) = State.tagged p n (m ∷ ms)

    pub atts_end : (ms : List (List ℕ)) → TagEnd p n ms (atts_as ms)
    atts_end [] = tag_end_lem
    atts_end (m ∷ ms) = tagged_end (m ∷ ms)

    pub gap_leads : {u : List ℕ} (ms : List (List ℕ)) → S u → Leads L (atts_as ms) u [] (State.gap p n ms)
    gap_leads ms u = s_leads L (atts_as ms) (State.gap p n ms) (atts_end ms).space (gap_end ms).space u

    pub atts_lead : {ms : List (List ℕ)} {t : List ℕ} → Attributes L ms t → Leads L (State.tag p n) t [] (atts_as ms)
    atts_lead Attributes.none = stay
    atts_lead (Attributes.more {ms = ms} {m = m} g u x i y v w) =
        leads_append L (atts_lead g)
        (leads_append L (gap_leads ms u) (leads_append L (gap_name ms x i) (leads_append L (eq_leads ms m y v) (quoted_leads L p n ms m w))))

    pub close_leads :
        {ms : List (List ℕ)} {t u : List ℕ}
        → Attributes L ms t
        → Each blank u
        → Leads L (State.tag p n) (t ++ (u ++ (62 ∷ []))) (opens n ∷ []) (State.at (opened p n) b0)
    close_leads {ms} g e =
        leads_append L (atts_lead g)
        (blanks_then L (atts_as ms) (State.gap p n ms) (atts_end ms).space (gap_end ms).space 62 e (atts_end ms).close (gap_end ms).close)

    pub slashed_leads :
        {u : List ℕ} (ms : List (List ℕ))
        → Each blank u
        → Leads L (atts_as ms) (u ++ (47 ∷ [])) [] (then_byte 62 (opens n ∷ closes n ∷ []) (State.at (emptied p) b0))
    slashed_leads ms e = blanks_then L (atts_as ms) (State.gap p n ms) (atts_end ms).space (gap_end ms).space 47 e (atts_end ms).slash (gap_end ms).slash

    pub slash_leads :
        {ms : List (List ℕ)} {t u : List ℕ}
        → Attributes L ms t
        → Each blank u
        → Leads L (State.tag p n) (t ++ (u ++ (47 ∷ 62 ∷ []))) (opens n ∷ closes n ∷ []) (State.at (emptied p) b0)
    slash_leads {ms} {u = u} g e =
        leads_append L (atts_lead g)
        (subst (λ z. Leads L (atts_as ms) z (opens n ∷ closes n ∷ []) (State.at (emptied p) b0)) (append_assoc u (47 ∷ []) (62 ∷ []))
        (leads_append L (slashed_leads ms e) (byte_leads L 62 (opens n ∷ closes n ∷ []) (State.at (emptied p) b0))))

  module _ (n : List ℕ) (ns : List (List ℕ)) where
    pub ending_blank : (b : ℕ) → In blank b → step L (State.ending n ns) b ≡ goes [] (State.ended n ns)
    unfolding past pick_arms disjoint out_of disjoint_ranges
    ending_blank b h = by_class L (State.ending n ns) blank _ _ refl h

    pub ended_blank : (b : ℕ) → In blank b → step L (State.ended n ns) b ≡ goes [] (State.ended n ns)
    unfolding past pick_arms disjoint out_of disjoint_ranges
    ended_blank b h = by_class L (State.ended n ns) blank _ _ refl h

    pub ended_leads : {u : List ℕ} → Each blank u → Leads L (State.ending n ns) (u ++ (62 ∷ [])) (closes n ∷ []) (State.at (up ns) b0)
    unfolding in_class step pick when
    ended_leads e = blanks_then L (State.ending n ns) (State.ended n ns) ending_blank ended_blank 62 e refl refl

  spelled : (n : List ℕ) (ns : List (List ℕ)) → Name L n → Leads L (State.rows (word n ∷ []) other_end [] (State.ending n ns)) n [] (State.ending n ns)
  spelled n ns (name {b = b} {t = t} h e l) =
      by_word L (State.rows (word (b ∷ t) ∷ []) other_end [] (State.ending (b ∷ t) ns)) (State.ending (b ∷ t) ns) t b other_end [] refl

  module _ (n : List ℕ) (ns : List (List ℕ)) (k : Br) where
    pub slash_inside : Leads L (State.at (Place.inside n ns) k) (60 ∷ 47 ∷ []) [] (State.rows (word n ∷ []) other_end [] (State.ending n ns))
    unfolding in_class step pick when
    slash_inside = byte refl (byte refl stay)

    pub ending_leads : Name L n → Leads L (State.at (Place.inside n ns) k) (60 ∷ 47 ∷ n) [] (State.ending n ns)
    ending_leads i = leads_append L slash_inside (spelled n ns i)

    pub ctag_leads : {t : List ℕ} → Name L n → ETag L n t → Leads L (State.at (Place.inside n ns) k) t (closes n ∷ []) (State.at (up ns) b0)
    ctag_leads i (ctag e) = leads_append L (ending_leads i) (ended_leads n ns e)
