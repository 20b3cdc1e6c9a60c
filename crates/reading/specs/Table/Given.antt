-- Where the sentence of a number holds, the byte is refused with that number.
--
--   beside c a          the cases a, without those in front that no byte beside c meets
--   fails_given         where a spelling breaks off, its refusal is given;  first_given: at its first byte
--   sentence_given      each sentence's refusal is given
--
-- Assumes nothing. NOT here: the other way round (Table.Explained).
use Rattle.std.specs.Prelude.{ℕ, suc, ◌≡◌, ◌⊎◌, Bool, T, eqb, length}
use Rattle.std.proofs.Common.{arith, sym, ◌∙◌, subst, inl, inr, ⊎_elim, eqb→eq}
use Rattle.std.proofs.Math.Path.{refl, ap}
use Rattle.std.proofs.Math.Bool.{true, false}
use mathlib.Core.List.{List, [], ◌∷◌, ◌++◌, append_assoc, append-nil}
use Rattle.std.proofs.Math.Dec.{T_not}
use Rattle.choice.specs.When.{when, when_false}
use Rattle.xml.specs.Class.{Class, Rows, in_class, In, this, that, place, end, derive, disjoint, out_of, disjoint_ranges}
use Rattle.xml.proofs.Class.Laws.{T_false, waiting_sound}
use Rattle.xml.specs.Chars.{blank, name_start, name_char, beyond, utf8}
use Rattle.xml.specs.Refused
use Rattle.xml.specs.Grammar.{Limits, Ev, entities, Br, b0, among, Mark}
use Rattle.xml.specs.Machine.{Place, State, Outcome, refused, Arms, stop, one_of, lit, on, check, arms, settle, pick, step}
use Rattle.xml.specs.Unfinished.{Late, At, before, inside, after}
use Rattle.xml.specs.Sentences.{Fails, RefusedAt}
use Rattle.xml.specs.Table.{ascii, character, NameByte, Texted, Referring, Refusal}
use Rattle.xml.specs.Table
use Rattle.reading.specs.Last.{length_snoc}
use Rattle.reading.specs.Left.{left}
use Rattle.reading.specs.Within.{part_of, holds, part_within, Within, here, there, in_within, within_in}
use Rattle.reading.specs.Fails.{fails_waiting, fails_left, character_fails}
use Rattle.reading.specs.Account.{Refers, Reads, Due, Begun, After}
use Rattle.reading.specs.Account.Done.{begun_waiting, reads_waiting}
use Rattle.reading.specs.Account.Sound.{run_account}
use Rattle.reading.specs.Leads.{pick_arms_past, pick_arms, past, leads_run, by_class}
use Rattle.reading.specs.Leads.Tags.{tag_grows, att_grows}
use Rattle.reading.specs.Leads.Whole.{prolog_leads}
use Rattle.reading.specs.Leads.Accounts.{after_leads, reads_leads}
use Rattle.reading.specs.Refusing.{step_refused}

unfoldable pub beside : Class → Arms → Arms
beside c (stop r) = stop r
beside c (one_of rs r es k) = one_of rs r es k
beside c (lit n o a) = pick_arms (in_class c n) (beside c a) (lit n o a)
beside c (on d f a) = pick_arms (part_of d c) (beside c a) (on d f a)

pick_beside : (c : Class) (a : Arms) (b : ℕ) → (In c b → ⊥) → pick a b ≡ pick (beside c a) b
unfolding beside pick
pick_beside c (stop r) b h = refl
pick_beside c (one_of rs r es k) b h = refl
pick_beside c (lit n o a) b h =
    pick_arms_past (in_class c n) (beside c a) (lit n o a) b
    (λ t. when_false _ o _ (T_false _ (λ e. h (record { holds = subst (λ z. T (in_class c z)) (sym (eqb→eq b n e)) t }))) ∙ pick_beside c a b h)
pick_beside c (on d f a) b h =
    pick_arms_past (part_of d c) (beside c a) (on d f a) b
    (λ t. when_false _ (f b) _ (T_false _ (λ u. h (within_in (part_within c d b t (in_within (record { holds = u })))))) ∙ pick_beside c a b h)

check_false : (x : Bool) (r : ℕ) (o : Outcome) → (T x → ⊥) → check x r o ≡ refused r
unfolding check
check_false true r o f = absurd (f tt)
check_false false r o f = refl

module _ (L : Limits) where
  -- an account, and a step that is refused
  given : {r : ℕ} {t : List ℕ} {b : ℕ} {es : List Ev} (k : State) → After L t es k → step L k b ≡ refused r → RefusedAt L r t b
  given {r} {t} {b} {es} k h e = step_refused L r t b es k (leads_run L (after_leads L h)) e

  same : {r : ℕ} {t u : List ℕ} {b : ℕ} → RefusedAt L r t b → t ≡ u → RefusedAt L r u b
  same {r} {b = b} h e = subst (λ z. RefusedAt L r z b) e h

  fails_given :
      {t w : List ℕ} {es fs : List Ev} {rs : Rows} {r : ℕ} {k : State} {b : ℕ} → Begun L t es w rs r fs k → Fails rs w b → RefusedAt L r (t ++ w) b
  unfolding step pick
  fails_given {w = w} {fs = fs} {rs = rs} {r = r} {k = k} {b = b} h f =
      let s = waiting_sound rs (begun_waiting L h) in
      given _ (After.rows h (fails_waiting rs w b s f)) (ap (λ z. settle z r fs k) (fails_left rs w b s f))

  -- at the first byte, where no case before the last meets it
  first_given :
      {t : List ℕ} {es : List Ev} {rs : Rows} {r : ℕ} {j k : State} {b : ℕ}
      → Reads L t es j rs r k
      → step L j b ≡ settle (derive b rs) r [] k
      → Fails rs [] b
      → RefusedAt L r t b
  unfolding left
  first_given {t} {es} {rs} {r} {j} {k} {b} h e f =
      let s = waiting_sound rs (reads_waiting L h) in
      step_refused L r t b es j (leads_run L (reads_leads L h)) (e ∙ ap (λ z. settle z r [] k) (fails_left rs [] b s f))

  -- a byte that is no ASCII Char
  beside_ascii : {b : ℕ} → Fails character [] b → In ascii b → ⊥
  beside_ascii f h = f.stuck [] (this (place h end))

  wide_fails : {b : ℕ} → Fails character [] b → Fails utf8 [] b
  unfolding in_class
  wide_fails f =
      record { begins = (194, 128 ∷ [], this (place (record { holds = tt }) (place (record { holds = tt }) end))); stuck = λ v o. f.stuck v (that o) }

  chars_given :
      {t w : List ℕ} {es : List Ev} {j k : State} {b : ℕ}
      → Reads L t es j utf8 Refused.not_char k
      → beside ascii (arms L j) ≡ one_of utf8 Refused.not_char [] k
      → Fails character w b
      → RefusedAt L Refused.not_char (t ++ w) b
  unfolding step pick
  chars_given {t} {w = []} {j = j} {b = b} h e f =
      same (first_given h (pick_beside ascii (arms L j) b (beside_ascii f) ∙ ap (λ z. pick z b) e) (wide_fails f)) (sym (append-nil t))
  chars_given {w = c ∷ w} h e f = fails_given (Begun.reads h) (character_fails _ _ _ f)

  note_beside : (p : Place) → beside ascii (arms L (State.note p)) ≡ one_of utf8 Refused.not_char [] (State.note p)
  unfolding beside pick_arms part_of holds in_class
  note_beside p = refl

  dash_beside : (p : Place) → beside ascii (arms L (State.dash p)) ≡ one_of utf8 Refused.not_char [] (State.note p)
  unfolding beside pick_arms part_of holds in_class
  dash_beside p = refl

  data_beside :
      (n : List ℕ) (ns : List (List ℕ)) (k : Br)
      → beside ascii (arms L (State.at (Place.inside n ns) k)) ≡ one_of utf8 Refused.not_char [] (State.at (Place.inside n ns) b0)
  unfolding beside pick_arms part_of holds in_class
  data_beside n ns k = refl

  value_beside :
      (p : Place) (n : List ℕ) (ms : List (List ℕ)) (m : List ℕ) (q : Bool)
      → beside ascii (arms L (State.value p n ms m q)) ≡ one_of utf8 Refused.not_char [] (State.value p n ms m q)
  unfolding beside pick_arms part_of holds in_class
  value_beside p n ms m true = refl
  value_beside p n ms m false = refl

  texted_given : {t w : List ℕ} {b : ℕ} → Texted L t → Fails character w b → RefusedAt L Refused.not_char (t ++ w) b
  texted_given (Texted.data' {n = n} {ns = ns} {k = k} a) f = chars_given (Reads.data' a) (data_beside n ns k) f
  texted_given (Texted.value {p = p} {n = n} {m = m} {ms = ms} {q = q} v) f = chars_given (Reads.value v) (value_beside p n ms m q) f
  texted_given (Texted.note {p = p} a r) f = chars_given (Reads.note a r) (note_beside p) f
  texted_given (Texted.dash {p = p} a r) f = chars_given (Reads.dash a r) (dash_beside p) f

  refers : {t : List ℕ} → Referring L t → (es : List Ev) × (k : State) × Refers L t es k
  refers (Referring.data' a) = (_, _, Refers.data' a)
  refers (Referring.value v) = (_, _, Refers.value v)

  entity_given : {t w : List ℕ} {b : ℕ} → Referring L t → Fails entities w b → (w ≡ [] → b ≡ 35 → ⊥) → RefusedAt L Refused.other_entity (t ++ (38 ∷ w)) b
  unfolding step pick
  entity_given {w = []} {b = b} h f g =
      let (es, k, r) = refers h in
      first_given (Reads.amper r) (when_false (eqb b 35) _ _ (T_false _ (λ e. g refl (eqb→eq b 35 e)))) f
  entity_given {t} {w = c ∷ w} h f g = let (es, k, r) = refers h in same (fails_given (Begun.reads (Reads.amper r)) f) (append_assoc t (38 ∷ []) (c ∷ w))

  -- the very start is past, or not
  late_or : {p : Place} {k : Br} {t : List ℕ} {es : List Ev} → At L p k t es → Late p t ⊎ Mark t
  late_or {t = t} (before p) =
      let r = prolog_leads L p in
      ⊎_elim (λ e. inl (reached (run_account L t [] r.state (leads_run L r.leads)) e)) (λ m. inr m) r.where'
    where
      late : {u : List ℕ} {es : List Ev} {p : Place} {k : Br} → After L u es (State.at p k) → Late p u
      late (After.at a l) = l

      reached : {es : List Ev} {k : State} → After L t es k → k ≡ State.at Place.before b0 → Late Place.before t
      reached {es} h e = late (subst (λ z. After L t es z) e h)
  late_or (inside o c) = inl Late.inside
  late_or (after d) = inl Late.after

  foreign_markup : (p : Place) (b : ℕ) → Table.Takes p → In beyond b → step L (State.markup p) b ≡ refused Refused.foreign_name
  unfolding past pick_arms disjoint out_of disjoint_ranges in_class
  foreign_markup Place.before b x h = by_class L (State.markup Place.before) beyond _ _ refl h
  foreign_markup (Place.inside n ns) b x h = by_class L (State.markup (Place.inside n ns)) beyond _ _ refl h
  foreign_markup Place.after b x h = elim x [ ]

  foreign_opening : (b : ℕ) → In beyond b → step L State.opening b ≡ refused Refused.foreign_name
  unfolding past pick_arms disjoint out_of disjoint_ranges in_class
  foreign_opening b h = by_class L State.opening beyond _ _ refl h

  foreign_given :
      {p : Place} {k : Br} {t : List ℕ} {es : List Ev} {b : ℕ}
      → At L p k t es
      → Table.Takes p
      → In beyond b
      → RefusedAt L Refused.foreign_name (t ++ (60 ∷ [])) b
  foreign_given {p} {t = t} {b = b} a x h =
      ⊎_elim
      (λ l. given (State.markup p) (After.markup a l) (foreign_markup p b x h))
      (λ m. given State.opening (After.opening m) (foreign_opening b h))
      (late_or a)

  longer_given :
      (b : ℕ) (m : List ℕ) (o : Outcome)
      → (T (L.name (suc (length m))) → ⊥)
      → check (L.name (length (m ++ (b ∷ [])))) Refused.long_name o ≡ refused Refused.long_name
  longer_given b m o f = check_false _ _ o (λ t. f (subst (λ z. T (L.name z)) (length_snoc m b) t))

  equals_or : {b : ℕ} → In (Rattle.xml.specs.Class.only 61 ∷ blank) b → (b ≡ 61) ⊎ In blank b
  equals_or h = go (in_within h)
    where
      go : {b : ℕ} → Within (Rattle.xml.specs.Class.only 61 ∷ blank) b → (b ≡ 61) ⊎ In blank b
      go (here l h) = inl (omega arith)
      go (there h) = inr (within_in h)

  pub sentence_given : {r : ℕ} {t : List ℕ} {b : ℕ} → Refusal L r t b → RefusedAt L r t b
  unfolding past pick_arms disjoint out_of disjoint_ranges in_class step pick when
  sentence_given (Refusal.not_char h f) = texted_given h f
  sentence_given (Refusal.doctype {p = p} a) = given (State.bang p) (After.bang a) refl
  sentence_given (Refusal.instruction {p = p} a l) = given (State.markup p) (After.markup a l) refl
  sentence_given (Refusal.target {t = t} {w = w} m f) = same (fails_given (Begun.due (Due.xml m)) f) (append_assoc t (60 ∷ 63 ∷ []) w)
  sentence_given (Refusal.longer_target m (NameByte.plain h)) = given State.declared (After.declared m) (by_class L State.declared name_char _ _ refl h)
  sentence_given (Refusal.longer_target m (NameByte.foreign h)) = given State.declared (After.declared m) (by_class L State.declared beyond _ _ refl h)
  sentence_given (Refusal.cdata {p = p} a) = given (State.bang p) (After.bang a) refl
  sentence_given (Refusal.char_reference h) = let (es, k, r) = refers h in given (State.amper k) (After.amper r) refl
  sentence_given (Refusal.other_entity h f g) = entity_given h f g
  sentence_given (Refusal.long_tag {p = p} {n = n} {b = b} i f h) = given (State.tag p n) (After.tag i) (tag_grows L p n b h ∙ longer_given b n _ f)
  sentence_given (Refusal.long_attribute {p = p} {n = n} {m = m} {ms = ms} {b = b} i f h) =
      given (State.att p n ms m) (After.att i) (att_grows L p n ms m b h ∙ longer_given b m _ f)
  sentence_given (Refusal.many_attributes {p = p} {n = n} {ms = ms} g u f h) =
      given (State.gap p n ms) (After.gap g u) (by_class L (State.gap p n ms) name_start _ _ refl h ∙ check_false _ _ _ f)
  sentence_given (Refusal.twice {p = p} {n = n} {m = m} {ms = ms} {b = b} i x h) =
      given (State.att p n ms m) (After.att i)
      (⊎_elim
      (λ e. ap (step L (State.att p n ms m)) e ∙ check_false _ _ _ (λ t. T_not (among m ms) t x))
      (λ y. by_class L (State.att p n ms m) blank _ _ refl y ∙ check_false _ _ _ (λ t. T_not (among m ms) t x))
      (equals_or h))
  sentence_given (Refusal.other_end {t = t} {w = w} a f) = same (fails_given (Begun.due (Due.end a)) f) (append_assoc t (60 ∷ 47 ∷ []) w)
  sentence_given (Refusal.longer_end {n = n} {ns = ns} a (NameByte.plain h)) =
      given (State.ending n ns) (After.ending a) (by_class L (State.ending n ns) name_char _ _ refl h)
  sentence_given (Refusal.longer_end {n = n} {ns = ns} a (NameByte.foreign h)) =
      given (State.ending n ns) (After.ending a) (by_class L (State.ending n ns) beyond _ _ refl h)
  sentence_given (Refusal.nested {n = n} {ns = ns} a f h) =
      given (State.markup (Place.inside n ns)) (After.markup a Late.inside)
      (by_class L (State.markup (Place.inside n ns)) name_start _ _ refl h ∙ check_false _ _ _ f)
  sentence_given (Refusal.other_encoding {t = t} {u = u} {w = w} q i e f) = same (fails_given (Begun.due (Due.value q i e)) f) (simp append_assoc)
  sentence_given (Refusal.foreign_tag a x h) = foreign_given a x h
  sentence_given (Refusal.foreign_in_tag {p = p} {n = n} i h) = given (State.tag p n) (After.tag i) (by_class L (State.tag p n) beyond _ _ refl h)
  sentence_given (Refusal.foreign_attribute {p = p} {n = n} {ms = ms} g u h) =
      given (State.gap p n ms) (After.gap g u) (by_class L (State.gap p n ms) beyond _ _ refl h)
  sentence_given (Refusal.foreign_in_attribute {p = p} {n = n} {m = m} {ms = ms} i h) =
      given (State.att p n ms m) (After.att i) (by_class L (State.att p n ms m) beyond _ _ refl h)
