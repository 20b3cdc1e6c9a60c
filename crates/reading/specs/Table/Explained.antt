-- A byte that is refused is refused as the table says: the sentence of its number holds.
--
--   Said r t b          r is 30, or the sentence of r holds where b comes after t
--   Spoken t b o        o is no refusal, or it is one with its sentence
--   Explains K t a      what the cases a owe where K is known of the byte: no case of a before them met it
--   explained           the cases of each account's state owe it
--   step_said           each step pays it
--
-- Assumes that one element may be open and a name may have one byte. NOT here: the other way round (Table.Given).
use Rattle.std.specs.Prelude.{ℕ, suc, ◌≡◌, refl, Bool, not, eqb, length}
use Rattle.std.proofs.Common.{arith, sym, ap, ◌∙◌}
use Rattle.std.proofs.Math.Path.{subst}
use Rattle.std.proofs.Math.Bool.{true, false}
use Rattle.std.proofs.Math.Option.{Option, none, some}
use mathlib.Core.List.{List, [], ◌∷◌, ◌++◌, append_assoc, append-nil, cons≢nil}
use Rattle.std.proofs.Math.Dec.{T, eqb→eq}
use Rattle.choice.specs.When.{when_known, never}
use Rattle.xml.specs.Class.{Rows, in_class, In, derive}
use Rattle.xml.specs.Chars.{name_start, beyond}
use Rattle.xml.specs.Refused
use Rattle.xml.specs.Grammar.{Limits, Ev, entities, Br, b0, b1, b2, among, Part, version, encoding, standalone}
use Rattle.xml.specs.Machine
use Rattle.xml.specs.Machine.{Place, State, Outcome, refused, goes, Arms, stop, one_of, lit, on, check, greater, part_arm, arms, settle, pick, step}
use Rattle.xml.specs.Unfinished.{Late, At, before, inside, after, InValue}
use Rattle.xml.specs.Sentences.{Fails}
use Rattle.xml.specs.Table.{character, NameByte, Texted, Referring, Refusal}
use Rattle.xml.specs.Table
use Rattle.reading.specs.Last.{length_snoc}
use Rattle.reading.specs.Within.{here, there, in_within, within_in}
use Rattle.reading.specs.Fails.{data_unlike, note_unlike, value_unlike, left_fails, first_fails, fails_character}
use Rattle.reading.specs.Account.Grows.{at_mark}
use Rattle.reading.specs.Account.Done.{reads_waiting}
use Rattle.reading.specs.Account.{Refers, Reads, Due, Begun, After}

-- nothing is known of the byte
abbrev Any : ℕ → Type 0
Any b = Unit {0}

module _ (L : Limits) where
  pub data Said : ℕ → List ℕ → ℕ → Type 0 where
    other : {t : List ℕ} {b : ℕ} → Said Refused.misplaced t b
    said : {r : ℕ} {t : List ℕ} {b : ℕ} → Refusal L r t b → Said r t b

  pub data Spoken (t : List ℕ) (b : ℕ) : Outcome → Type 0 where
    goes' : {es : List Ev} {k : State} → Spoken t b (goes es k)
    says : {r : ℕ} → Said r t b → Spoken t b (refused r)

  abbrev Explains : (ℕ → Type 0) → List ℕ → Arms → Type 0
  Explains K t (stop r) = (b : ℕ) → K b → Said r t b
  Explains K t (one_of rs r fs k) = (b : ℕ) → K b → derive b rs ≡ [] → Said r t b
  Explains K t (lit n o a) = (K n → Spoken t n o) × Explains (λ b. K b × (eqb b n ≡ false)) t a
  Explains K t (on c f a) = ((b : ℕ) → K b → In c b → Spoken t b (f b)) × Explains (λ b. K b × (in_class c b ≡ false)) t a

  settle_said : (t : List ℕ) (b : ℕ) (rs : Rows) (r : ℕ) (fs : List Ev) (k : State) → (rs ≡ [] → Said r t b) → Spoken t b (settle rs r fs k)
  settle_said t b [] r fs k h = says (h refl)
  settle_said t b ([] ∷ rs) r fs k h = goes'
  settle_said t b ((c ∷ w) ∷ rs) r fs k h = goes'

  pick_said : (K : ℕ → Type 0) (t : List ℕ) (a : Arms) (b : ℕ) → Explains K t a → K b → Spoken t b (pick a b)
  unfolding pick
  pick_said K t (stop r) b h x = says (h b x)
  pick_said K t (one_of rs r fs k) b h x = settle_said t b (derive b rs) r fs k (h b x)
  pick_said K t (lit n o a) b h x =
      when_known (Spoken t b) (eqb b n) o (pick a b)
      (λ e. let z : b ≡ n = eqb→eq b n (subst T (sym e) tt) in subst (λ y. Spoken t y o) (sym z) (h.0 (subst K z x)))
      (λ e. pick_said (λ y. K y × (eqb y n ≡ false)) t a b h.1 (x, e))
  pick_said K t (on c f a) b h x =
      when_known (Spoken t b) (in_class c b) (f b) (pick a b)
      (λ e. h.0 b x (record { holds = subst T (sym e) tt })) (λ e. pick_said (λ y. K y × (in_class c y ≡ false)) t a b h.1 (x, e))

  moved : {r : ℕ} {t u : List ℕ} {b : ℕ} → Refusal L r t b → t ≡ u → Said r u b
  moved {r} {b = b} h e = said (subst (λ z. Refusal L r z b) e h)

  check_said : {t : List ℕ} {b : ℕ} (x : Bool) (r : ℕ) (o : Outcome) → ((T x → ⊥) → Said r t b) → Spoken t b o → Spoken t b (check x r o)
  unfolding check
  check_said true r o f h = h
  check_said false r o f h = says (f (λ t. t))

  -- inside a name, the limit is reached
  longer_said :
      {t : List ℕ} {b : ℕ} (n : List ℕ) (f : List ℕ → State)
      → ((T (L.name (suc (length n))) → ⊥) → Said Refused.long_name t b)
      → Spoken t b (Machine.longer L n f b)
  longer_said {b = b} n f h = check_said _ _ _ (λ g. h (λ y. g (subst (λ z. T (L.name z)) (sym (length_snoc n b)) y))) goes'

  amper_said : {t : List ℕ} {es : List Ev} {k : State} → Refers L t es k → Referring L t
  amper_said (Refers.data' a) = Referring.data' a
  amper_said (Refers.value v) = Referring.value v

  due_said : {t w : List ℕ} {b : ℕ} {es fs : List Ev} {rs : Rows} {r : ℕ} {k : State} → Due L t es rs r fs k → Fails rs w b → Said r (t ++ w) b
  due_said Due.mark f = other
  due_said (Due.xml m) f = moved (Refusal.target m f) (simp append_assoc)
  due_said (Due.note a r) f = other
  due_said (Due.empty g e) f = other
  due_said (Due.end a) f = moved (Refusal.other_end a f) (simp append_assoc)
  due_said (Due.told m d e) f = other
  due_said (Due.name m d x e) f = other
  due_said (Due.value {k = version} q i e) f = other
  due_said (Due.value {k = encoding} q i e) f = moved (Refusal.other_encoding q i e f) (simp append_assoc)
  due_said (Due.value {k = standalone} q i e) f = other

  reads_said :
      {t w : List ℕ} {b c : ℕ} {es : List Ev} {rs : Rows} {r : ℕ} {j k : State} → Reads L t es j rs r k → Fails rs (c ∷ w) b → Said r (t ++ (c ∷ w)) b
  reads_said (Reads.data' a) f = said (Refusal.not_char (Texted.data' a) (fails_character _ _ _ f))
  reads_said (Reads.value v) f = said (Refusal.not_char (Texted.value v) (fails_character _ _ _ f))
  reads_said (Reads.note a r) f = said (Refusal.not_char (Texted.note a r) (fails_character _ _ _ f))
  reads_said (Reads.dash a r) f = said (Refusal.not_char (Texted.dash a r) (fails_character _ _ _ f))
  reads_said (Reads.amper h) f = moved (Refusal.other_entity (amper_said h) f (λ e. absurd (cons≢nil e))) (simp append_assoc)
  reads_said (Reads.bang a) f = other

  begun_said : {t w : List ℕ} {b : ℕ} {es fs : List Ev} {rs : Rows} {r : ℕ} {k : State} → Begun L t es w rs r fs k → Fails rs w b → Said r (t ++ w) b
  begun_said (Begun.due d) f = due_said d f
  begun_said (Begun.reads h) f = reads_said h f

  -- a Char breaks off at its first byte
  texted : {t : List ℕ} {b : ℕ} → Texted L t → Fails character [] b → Said Refused.not_char t b
  texted {t} h f = moved (Refusal.not_char h f) (append-nil t)

  module _ (one_open : T (L.nest 1)) (one_name : T (L.name 1)) where
    begins_said :
        {p : Place} {k : Br} {t : List ℕ} {es : List Ev} → At L p k t es → (b : ℕ) → In name_start b → Spoken (t ++ (60 ∷ [])) b (Machine.begins L p b)
    begins_said (before p) b h = check_said _ _ _ (λ f. absurd (f one_open)) (check_said _ _ _ (λ f. absurd (f one_name)) goes')
    begins_said (inside o c) b h = check_said _ _ _ (λ f. said (Refusal.nested (inside o c) f h)) (check_said _ _ _ (λ f. absurd (f one_name)) goes')
    begins_said (after d) b h = says other

    slashed_said : {t : List ℕ} {b : ℕ} (p : Place) → Spoken t b (Machine.slashed L p)
    slashed_said Place.before = says other
    slashed_said (Place.inside n ns) = goes'
    slashed_said Place.after = says other

    foreign_said : {p : Place} {k : Br} {t : List ℕ} {es : List Ev} → At L p k t es → (b : ℕ) → In beyond b → Spoken (t ++ (60 ∷ [])) b (Machine.foreign p)
    foreign_said (before p) b h = says (said (Refusal.foreign_tag (before p) Table.Takes.before h))
    foreign_said (inside o c) b h = says (said (Refusal.foreign_tag (inside o c) Table.Takes.inside h))
    foreign_said (after d) b h = says other

    markup_said :
        (K : ℕ → Type 0) {p : Place} {k : Br} {t : List ℕ} {es : List Ev}
        → At L p k t es
        → (K 63 → Late p t)
        → Explains K (t ++ (60 ∷ [])) (Machine.markup_arms L p)
    markup_said K {p} a l = (
      λ b x h. begins_said a b h,
      (
        λ x. goes',
        (λ x. slashed_said p, (λ x. says (said (Refusal.instruction a (l x.0.0.0))), (λ b x h. foreign_said a b h, λ b x. other))),
      ),
    )

    close_said : (K : ℕ → Type 0) (t : List ℕ) (p : Place) (n : List ℕ) → Explains K t (Machine.close_arms L p n)
    close_said K t p n = (λ x. goes', (λ x. goes', λ b x. other))

    greater_said : {t : List ℕ} {b : ℕ} (k : Br) (j : State) → Spoken t b (greater k j)
    greater_said b0 j = goes'
    greater_said b1 j = goes'
    greater_said b2 j = says other

    apiece_said : {t : List ℕ} {b : ℕ} (o : Option Part) → Spoken t b (Machine.apiece_end o)
    apiece_said none = says other
    apiece_said (some k) = goes'

    part_said : {t : List ℕ} {b : ℕ} (o : Option Part) (k : Part) (w : List ℕ) → Spoken t b (part_arm o k w)
    part_said o k w = check_said _ _ _ (λ f. other) goes'

    named_said :
        {t : List ℕ} {b : ℕ} (m : List ℕ) (ms : List (List ℕ)) (j : State) → (T (among m ms) → Said Refused.twice t b) → Spoken t b (Machine.named L m ms j)
    named_said m ms j f = check_said _ _ _ (λ g. f (doubted (among m ms) g)) goes'
      where
        doubted : (x : Bool) → (T (not x) → ⊥) → T x
        doubted true g = tt
        doubted false g = absurd (g tt)

    inside_said :
        {n t : List ℕ} {ns : List (List ℕ)} {k : Br} {es : List Ev}
        → At L (Place.inside n ns) k t es
        → Explains Any t (arms L (State.at (Place.inside n ns) k))
    inside_said {k = k} a = (
      λ b x h. goes',
      (
        λ x. goes',
        (
          λ x. greater_said k _,
          (λ x. goes', (λ x. goes', λ b x e. texted (Texted.data' a) (data_unlike b (x.0.0.0.0.1, x.0.0.0.1, x.0.0.1, x.0.1, x.1) e))),
        ),
      ),
    )

    value_said :
        {p : Place} {n m t : List ℕ} {ms : List (List ℕ)} (q : Bool) {es : List Ev}
        → InValue L p n ms m q t es
        → Explains Any t (arms L (State.value p n ms m q))
    value_said q v = (
      λ b x h. goes',
      (λ x. goes', (λ x. goes', (λ x. says other, λ b x e. texted (Texted.value v) (value_unlike q b (x.0.0.0.1, x.0.0.1, x.0.1, x.1) e)))),
    )

    first_said : (K : ℕ → Type 0) (t : List ℕ) → Explains K t (arms L State.fresh)
    first_said K t = (λ b x h. goes', (λ x. goes', λ b x. other))

    explained : {t : List ℕ} {es : List Ev} {k : State} → After L t es k → Explains Any t (arms L k)
    explained {t} After.start = (λ x. goes', first_said _ [])
    explained {t} After.fresh = first_said Any (239 ∷ 187 ∷ 191 ∷ [])
    explained (After.opening m) = (λ x. goes', markup_said _ (at_mark L m) (λ x. never (sym x.1)))
    explained (After.declared m) = (
      λ b x h. goes',
      (λ b x h. says (said (Refusal.longer_target m (NameByte.plain h))), (λ b x h. says (said (Refusal.longer_target m (NameByte.foreign h))), λ b x. other)),
    )
    explained (After.rows {w = w} {rs = rs} h u) = λ b x e. begun_said h (left_fails rs w b u e)
    explained (After.at (before p) l) = (λ b x h. goes', (λ x. goes', λ b x. other))
    explained (After.at (inside o c) l) = inside_said (inside o c)
    explained (After.at (after d) l) = (λ b x h. goes', (λ x. goes', λ b x. other))
    explained (After.markup a l) = markup_said Any a (λ x. l)
    explained (After.bang a) = (λ x. says (said (Refusal.cdata a)), (λ x. says (said (Refusal.doctype a)), λ b x e. other))
    explained (After.note a r) =
        (λ b x h. goes', (λ x. goes', λ b x e. texted (Texted.note a r) (note_unlike b (x.0.1, x.1) e)))
    explained (After.dash a r) =
        (λ b x h. goes', (λ x. goes', λ b x e. texted (Texted.dash a r) (note_unlike b (x.0.1, x.1) e)))
    explained (After.amper h) = (
      λ x. says (said (Refusal.char_reference (amper_said h))),
      λ b x e.
          said
          (Refusal.other_entity (amper_said h) (first_fails entities b (reads_waiting L (Reads.amper h)) e)
          (λ y z. never (sym x.1 ∙ ap (λ c. eqb c 35) z))),
    )
    explained (After.tag {p = p} {n = n} {t = t} i) = (
      λ b x h. longer_said n (State.tag p) (λ f. said (Refusal.long_tag i f h)),
      (λ b x h. goes', (λ b x h. says (said (Refusal.foreign_in_tag i h)), close_said _ t p n)),
    )
    explained (After.tagged {p = p} {n = n} {t = t} g) = (λ b x h. goes', close_said _ t p n)
    explained (After.gap {p = p} {n = n} {t = t} {u = u} g e) = (
      λ b x h. check_said _ _ _ (λ f. said (Refusal.many_attributes g e f h)) (check_said _ _ _ (λ f. absurd (f one_name)) goes'),
      (λ b x h. goes', (λ b x h. says (said (Refusal.foreign_attribute g e h)), close_said _ (t ++ u) p n)),
    )
    explained (After.att {p = p} {n = n} {m = m} {ms = ms} i) = (
      λ b x h. longer_said m (State.att p n ms) (λ f. said (Refusal.long_attribute i f h)),
      (
        λ b x h. named_said m ms _ (λ y. said (Refusal.twice i y (within_in (there (in_within h))))),
        (
          λ x. named_said m ms _ (λ y. said (Refusal.twice i y (within_in (here (omega arith) (omega arith))))),
          (λ b x h. says (said (Refusal.foreign_in_attribute i h)), λ b x. other),
        ),
      ),
    )
    explained (After.eqs i y e) = (λ b x h. goes', (λ x. goes', λ b x. other))
    explained (After.val i y e) = (λ b x h. goes', (λ x. goes', (λ x. goes', λ b x. other)))
    explained (After.value {q = q} v) = value_said q v
    explained (After.ending a) = (
      λ b x h. goes',
      (
        λ x. goes',
        (λ b x h. says (said (Refusal.longer_end a (NameByte.plain h))), (λ b x h. says (said (Refusal.longer_end a (NameByte.foreign h))), λ b x. other)),
      ),
    )
    explained (After.ended a e) = (λ b x h. goes', (λ x. goes', λ b x. other))
    explained (After.told m d) = (λ b x h. goes', (λ x. goes', λ b x. other))
    explained (After.apiece {o = o} m d e) = (
      λ b x h. goes',
      (
        λ x. apiece_said o,
        (λ x. part_said o version _, (λ x. part_said o encoding _, (λ x. part_said o standalone _, λ b x. other))),
      ),
    )
    explained (After.part_eq i e) = (λ b x h. goes', (λ x. goes', λ b x. other))
    explained (After.part_val i e) = (λ b x h. goes', (λ x. goes', (λ x. goes', λ b x. other)))

    -- each step is as the table says
    pub step_said : {t : List ℕ} {es : List Ev} {k : State} (b : ℕ) → After L t es k → Spoken t b (step L k b)
    unfolding step
    step_said {t} {es} {k} b h = pick_said Any t (arms L k) b (explained h) tt
