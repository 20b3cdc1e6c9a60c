-- A byte that is not refused takes an account to an account.
--
--   Reach t es o         the outcome o has an account, if it is no refusal
--   Owed t es a          what the cases a owe, one by one
--   owed                 the cases of a state owe it
--   step_sound           each step pays it
--
-- Assumes nothing. NOT here: texts (Account.Sound), where a word has come (Account.Done).
use Rattle.std.specs.Prelude.{ℕ, ◌≡◌, Bool, List, [], ◌∷◌, ◌++◌, T, eqb}
use Rattle.std.proofs.Math.Path.{refl, subst}
use Rattle.std.proofs.Common.{sym, ◌∙◌, append_assoc, append-nil, eqb→eq}
use Rattle.std.proofs.Math.Bool.{true, false}
use Rattle.std.proofs.Math.Option.{Option, none, some}
use Rattle.choice.specs.When.{when}
use Rattle.xml.specs.Class.{Rows, in_class, In, OneOf, this, Spells, derive, sound, waiting}
use Rattle.xml.proofs.Class.Laws.{sound_waiting, waiting_sound}
use Rattle.xml.specs.Chars.{blank, name_start, quote}
use Rattle.xml.specs.Refused
use Rattle.xml.specs.Grammar.{Limits, Ev, Br, b0, b1, b2, Part, version, encoding, standalone, Each, narrow, S, s, Eq, eq, Remarked, Run, Value, name}
use Rattle.xml.specs.Grammar.{ctag, Mark, Told, begun}
use Rattle.xml.specs.Machine
use Rattle.xml.specs.Machine.{Place, State, Outcome, refused, goes, Arms, stop, one_of, lit, on, check, greater, part_arm, told_end, apiece_end, arms}
use Rattle.xml.specs.Machine.{settle, pick, step}
use Rattle.xml.specs.Unfinished.{Late, At, before, inside, after, Fits, tag, InTag, attribute, quoting, InDecl}
use Rattle.reading.specs.Left.{left, left_snoc, left_back, left_sound}
use Rattle.reading.specs.Account.{plus, part_first, part_rest, Refers, Reads, Due, Begun, After}
use Rattle.reading.specs.Account.Grows.{move_at, at_mark, at_space_before, at_space_after, at_open, at_close, at_grow, tag_more, att_more}
use Rattle.reading.specs.Account.Grows.{no_attributes, s_more, s_each, eq_more, value_char, value_end, blank_late, greater_late}
use Rattle.reading.specs.Account.Done.{move, begun_done, due_waiting, begun_waiting}

module _ (L : Limits) where
  begun_more :
      {t w : List ℕ} {es fs : List Ev} {rs : Rows} {r : ℕ} {k : State} (b : ℕ) → Begun L t es w rs r fs k → Begun L t es (w ++ (b ∷ [])) rs r fs k
  begun_more b (Begun.due d) = Begun.due d
  begun_more b (Begun.reads h) = Begun.reads h

  -- what an outcome must have an account of
  pub data Reach : List ℕ → List Ev → Outcome → Type 0 where
    refuses : {t : List ℕ} {es : List Ev} {r : ℕ} → Reach t es (refused r)
    reaches : {t : List ℕ} {es fs : List Ev} {k : State} → After L t (plus es fs) k → Reach t es (goes fs k)

  -- as `reaches`; as a function it takes its implicit arguments from the goal
  onto : {t : List ℕ} {es fs : List Ev} {k : State} → After L t (plus es fs) k → Reach t es (goes fs k)
  onto h = reaches h

  -- one of the rows may come, w of it having come
  data Comes : List ℕ → List Ev → Rows → ℕ → List Ev → State → Type 0 where
    own : {t : List ℕ} {es : List Ev} {rs : Rows} {r : ℕ} {j k : State} → Reads L t es j rs r k → Comes t es rs r [] k
    rest :
        {t w : List ℕ} {es fs : List Ev} {rs : Rows} {r : ℕ} {k : State} → Begun L t es w rs r fs k → Comes (t ++ w) es (left w rs) r fs k

  -- what each case of a state owes
  abbrev Owed : List ℕ → List Ev → Arms → Type 0
  Owed t es (stop r) = Unit {0}
  Owed t es (one_of rs r fs k) = Comes t es rs r fs k
  Owed t es (lit b o a) = Reach (t ++ (b ∷ [])) es o × Owed t es a
  Owed t es (on c f a) = ((b : ℕ) → In c b → Reach (t ++ (b ∷ [])) es (f b)) × Owed t es a

  settle_owed :
      {t w : List ℕ} {es fs : List Ev} {rs : Rows} {r : ℕ} {k : State} (ss : Rows)
      → Begun L t es w rs r fs k
      → left w rs ≡ ss
      → Reach (t ++ w) es (settle ss r fs k)
  settle_owed [] h e = refuses
  settle_owed {t} {w} {rs = rs} ([] ∷ ss) h e =
      onto (move L (begun_done L h (w ++ []) (left_back w rs (subst (λ z. OneOf z []) (sym e) (this Spells.end)))) (simp append-nil))
  settle_owed {t} {w} {es} {fs} {rs} {r} {k} ((c ∷ x) ∷ ss) h e =
      let y : T (waiting (left w rs)) =
      subst (λ z. T (waiting z)) (sym e) (sound_waiting c x ss (subst (λ z. T (sound z)) e (left_sound w rs (waiting_sound rs (begun_waiting L h))))) in
      subst (λ z. Reach (t ++ w) es (goes [] (State.rows z r fs k))) e (reaches (After.rows h y))

  comes_owed :
      {t : List ℕ} {es fs : List Ev} {rs : Rows} {r : ℕ} {k : State} (b : ℕ) → Comes t es rs r fs k → Reach (t ++ (b ∷ [])) es (settle (derive b rs) r fs k)
  unfolding left
  comes_owed b (own h) = settle_owed _ (Begun.reads {w = []} {b = b} h) refl
  comes_owed {es = es} {fs = fs} {r = r} {k = k} b (rest {t = t} {w = w} {rs = rs} h) =
      subst (λ z. Reach z es (settle (derive b (left w rs)) r fs k)) (sym (append_assoc t w (b ∷ [])))
      (settle_owed (derive b (left w rs)) (begun_more b h) (left_snoc w b rs))

  when_owed : (t : List ℕ) (es : List Ev) (o o' : Outcome) (x : Bool) → (T x → Reach t es o) → Reach t es o' → Reach t es (when x o o')
  unfolding when
  when_owed t es o o' true f h = f tt
  when_owed t es o o' false f h = h

  pick_owed : (t : List ℕ) (es : List Ev) (a : Arms) (b : ℕ) → Owed t es a → Reach (t ++ (b ∷ [])) es (pick a b)
  unfolding pick
  pick_owed t es (stop r) b h = refuses
  pick_owed t es (one_of rs r fs k) b h = comes_owed b h
  pick_owed t es (lit n o a) b h =
      when_owed _ es o (pick a b) (eqb b n) (λ x. subst (λ z. Reach (t ++ (z ∷ [])) es o) (sym (eqb→eq b n x)) h.0) (pick_owed t es a b h.1)
  pick_owed t es (on c f a) b h = when_owed _ es (f b) (pick a b) (in_class c b) (λ x. h.0 b (record { holds = x })) (pick_owed t es a b h.1)

  check_owed : {t : List ℕ} {es : List Ev} (o : Outcome) (x : Bool) (r : ℕ) → (T x → Reach t es o) → Reach t es (check x r o)
  unfolding check
  check_owed o true r f = f tt
  check_owed o false r f = refuses

  -- something must come
  dues : {t u : List ℕ} {es fs : List Ev} {rs : Rows} {r : ℕ} {k : State} → Due L t es rs r fs k → t ≡ u → Reach u es (goes [] (State.rows rs r fs k))
  unfolding left
  dues {t} d e = onto (move L (After.rows {w = []} (Begun.due d) (due_waiting L d)) (append-nil t ∙ e))

  begins_owed :
      {p : Place} {k : Br} {t : List ℕ} {es : List Ev}
      → At L p k t es
      → (b : ℕ)
      → In name_start b
      → Reach ((t ++ (60 ∷ [])) ++ (b ∷ [])) es (Machine.begins L p b)
  begins_owed (before p) b h =
      check_owed _ _ Refused.nested
      (λ x. check_owed _ _ Refused.long_name (λ y. onto (move L (After.tag (tag (before p) (Fits.before x) (name h Each.none y))) (simp append_assoc))))
  begins_owed (inside o c) b h =
      check_owed _ _ Refused.nested
      (λ x. check_owed _ _ Refused.long_name (λ y. onto (move L (After.tag (tag (inside o c) (Fits.inside x) (name h Each.none y))) (simp append_assoc))))
  begins_owed (after d) b h = refuses

  slashed_owed : {p : Place} {k : Br} {t : List ℕ} {es : List Ev} → At L p k t es → Reach ((t ++ (60 ∷ [])) ++ (47 ∷ [])) es (Machine.slashed L p)
  slashed_owed (before p) = refuses
  slashed_owed (inside o c) = dues (Due.end (inside o c)) (simp append_assoc)
  slashed_owed (after d) = refuses

  foreign_owed : {t : List ℕ} {es : List Ev} (p : Place) → Reach t es (Machine.foreign p)
  foreign_owed Place.before = refuses
  foreign_owed (Place.inside n ns) = refuses
  foreign_owed Place.after = refuses

  markup_owed : {p : Place} {k : Br} {t : List ℕ} {es : List Ev} → At L p k t es → Owed (t ++ (60 ∷ [])) es (Machine.markup_arms L p)
  markup_owed {p} a =
      (begins_owed a, (onto (move L (After.bang a) (simp append_assoc)), (slashed_owed a, (refuses, (λ b h. foreign_owed p, tt)))))

  close_owed :
      {p : Place} {n t u : List ℕ} {ms : List (List ℕ)} {es : List Ev} → InTag L p n ms t es → Each blank u → Owed (t ++ u) es (Machine.close_arms L p n)
  close_owed {t = t} {u = u} g e = (
    onto (After.at (move_at L (at_open L g e) (simp append_assoc) refl) (greater_late _ (t ++ u))),
    (dues (Due.empty g e) (simp append_assoc), tt),
  )

  close_owed₀ : {p : Place} {n t : List ℕ} {ms : List (List ℕ)} {es : List Ev} → InTag L p n ms t es → Owed t es (Machine.close_arms L p n)
  close_owed₀ {p} {n} {t} {ms} {es} g = subst (λ z. Owed z es (Machine.close_arms L p n)) (append-nil t) (close_owed g Each.none)

  greater_owed :
      {n t : List ℕ} {ns : List (List ℕ)} (k : Br) {es : List Ev}
      → At L (Place.inside n ns) k t es
      → Reach (t ++ (62 ∷ [])) es (greater k (State.at (Place.inside n ns) b0))
  greater_owed b0 a = onto (After.at (at_grow L a (λ u r. Run.gt0 r)) Late.inside)
  greater_owed b1 a = onto (After.at (at_grow L a (λ u r. Run.gt1 r)) Late.inside)
  greater_owed b2 a = refuses

  inside_owed :
      {n t : List ℕ} {ns : List (List ℕ)} {k : Br} {es : List Ev} → At L (Place.inside n ns) k t es → Owed t es (arms L (State.at (Place.inside n ns) k))
  inside_owed {k = k} a = (
    λ b h. onto (After.at (at_grow L a (λ u r. Run.char r (narrow h))) Late.inside),
    (
      onto (After.at (at_grow L a (λ u r. Run.close r)) Late.inside),
      (greater_owed k a, (onto (After.markup a Late.inside), (onto (After.amper (Refers.data' a)), own (Reads.data' a)))),
    ),
  )

  told_owed : {k : Part} {t u v : List ℕ} → Mark t → Told (some k) u → Each blank v → Reach ((t ++ (u ++ v)) ++ (63 ∷ [])) [] told_end
  told_owed m d e = dues (Due.told m d e) (simp append_assoc)

  apiece_owed : (o : Option Part) {t u v : List ℕ} → Mark t → Told o u → Each blank v → Reach ((t ++ (u ++ v)) ++ (63 ∷ [])) [] (apiece_end o)
  apiece_owed none m d e = refuses
  apiece_owed (some k) m d e = told_owed m d e

  part_owed :
      {o : Option Part} (k : Part) {t u v : List ℕ} → Mark t → Told o u → S v → Reach ((t ++ (u ++ v)) ++ (part_first k ∷ [])) [] (part_arm o k (part_rest k))
  part_owed k m d f = check_owed _ _ Refused.misplaced (λ x. dues (Due.name {k = k} m d x f) (simp append_assoc))

  quote_owed :
      {o : Option Part} {k : Part} {t u : List ℕ} (q : Bool) → InDecl o k t → Eq u → Reach ((t ++ u) ++ (quote q ∷ [])) [] (Machine.part_quote k q)
  quote_owed q i e = dues (Due.value q i e) (simp append_assoc)

  first_owed : {t : List ℕ} → Mark t → Owed t [] (arms L State.fresh)
  first_owed {t} m =
      (λ b h. onto (After.at (at_space_before L (at_mark L m) h) (blank_late t h)), (onto (After.opening m), tt))

  owed : {t : List ℕ} {es : List Ev} {k : State} → After L t es k → Owed t es (arms L k)
  owed After.start = (dues Due.mark refl, first_owed Mark.none)
  owed After.fresh = first_owed Mark.mark
  owed (After.opening m) = (dues (Due.xml m) (simp append_assoc), markup_owed (at_mark L m))
  owed (After.declared m) =
      (λ b h. onto (move L (After.apiece m begun (s Each.none h)) (simp append_assoc)), (λ b h. refuses, (λ b h. refuses, tt)))
  owed (After.rows h y) = rest h
  owed (After.at {t = t} (before p) l) = (λ b h. onto (After.at (at_space_before L (before p) h) (blank_late t h)), (onto (After.markup (before p) l), tt))
  owed (After.at (inside o c) l) = inside_owed (inside o c)
  owed (After.at (after d) l) = (λ b h. onto (After.at (at_space_after L (after d) h) Late.after), (onto (After.markup (after d) Late.after), tt))
  owed (After.markup a l) = markup_owed a
  owed (After.bang a) = (refuses, (refuses, own (Reads.bang a)))
  owed (After.note a r) = (
    λ b h. onto (move L (After.note a (Remarked.char r (narrow h))) (simp append_assoc)),
    (onto (move L (After.dash a r) (simp append_assoc)), own (Reads.note a r)),
  )
  owed (After.dash a r) = (
    λ b h. onto (move L (After.note a (Remarked.dashed r (narrow h))) (simp append_assoc)),
    (
      dues (Due.note a r) (simp append_assoc),
      own (Reads.dash a r),
    ),
  )
  owed (After.amper h) = (refuses, own (Reads.amper h))
  owed (After.tag i) = (
    λ b h. check_owed _ _ Refused.long_name (λ x. onto (After.tag (tag_more L i h x))),
    (λ b h. onto (After.gap (no_attributes L i) (s Each.none h)), (λ b h. refuses, close_owed₀ (no_attributes L i))),
  )
  owed (After.tagged g) = (λ b h. onto (After.gap g (s Each.none h)), close_owed₀ g)
  owed (After.gap g e) = (
    λ b h. check_owed _ _ Refused.many_attributes
        (λ x. check_owed _ _ Refused.long_name (λ y. onto (move L (After.att (attribute g e x (name h Each.none y))) (simp append_assoc)))),
    (λ b h. onto (move L (After.gap g (s_more L e h)) (simp append_assoc)), (λ b h. refuses, close_owed g (s_each L e))),
  )
  owed (After.att i) = (
    λ b h. check_owed _ _ Refused.long_name (λ x. onto (After.att (att_more L i h x))),
    (
      λ b h. check_owed _ _ Refused.twice (λ x. onto (After.eqs i x (s Each.none h))),
      (check_owed _ _ Refused.twice (λ x. onto (After.val i x (eq Each.none Each.none))), (λ b h. refuses, tt)),
    ),
  )
  owed (After.eqs i x e) = (
    λ b h. onto (move L (After.eqs i x (s_more L e h)) (simp append_assoc)),
    (onto (move L (After.val i x (eq (s_each L e) Each.none)) (simp append_assoc)), tt),
  )
  owed (After.val i x e) = (
    λ b h. onto (move L (After.val i x (eq_more L e h)) (simp append_assoc)),
    (
      onto (move L (After.value (quoting true i x e Value.none)) (simp append_assoc)),
      (onto (move L (After.value (quoting false i x e Value.none)) (simp append_assoc)), tt),
    ),
  )
  owed (After.value {q = q} v) = (
    λ b h. onto (After.value (value_char L v (narrow h))),
    (onto (After.tagged (value_end L v)), (onto (After.amper (Refers.value v)), (refuses, own (Reads.value v)))),
  )
  owed (After.ending {n = n} {t = t} a) = (
    λ b h. onto (move L (After.ended a (s Each.none h)) (simp append_assoc)),
    (
      onto (After.at (move_at L (at_close L a (ctag Each.none)) (simp append_assoc) refl) (greater_late _ (t ++ (60 ∷ 47 ∷ n)))),
      (λ b h. refuses, (λ b h. refuses, tt)),
    ),
  )
  owed (After.ended {n = n} {t = t} {u = u} a e) = (
    λ b h. onto (move L (After.ended a (s_more L e h)) (simp append_assoc)),
    (onto (After.at (move_at L (at_close L a (ctag (s_each L e))) (simp append_assoc) refl) (greater_late _ (t ++ (60 ∷ 47 ∷ (n ++ u))))), tt),
  )
  owed (After.told {t = t} {u = u} m d) = (
    λ b h. onto (move L (After.apiece m d (s Each.none h)) (simp append_assoc)),
    (subst (λ z. Reach ((t ++ z) ++ (63 ∷ [])) [] told_end) (append-nil u) (told_owed m d Each.none), tt),
  )
  owed (After.apiece {o = o} m d e) = (
    λ b h. onto (move L (After.apiece m d (s_more L e h)) (simp append_assoc)),
    (
      apiece_owed o m d (s_each L e),
      (part_owed version m d e, (part_owed encoding m d e, (part_owed standalone m d e, tt))),
    ),
  )
  owed (After.part_eq i e) = (
    λ b h. onto (move L (After.part_eq i (Each.more e h)) (simp append_assoc)),
    (onto (move L (After.part_val i (eq e Each.none)) (simp append_assoc)), tt),
  )
  owed (After.part_val i e) =
      (λ b h. onto (move L (After.part_val i (eq_more L e h)) (simp append_assoc)), (quote_owed true i e, (quote_owed false i e, tt)))

  -- a byte that is not refused takes an account to an account
  pub step_sound : {t : List ℕ} {es : List Ev} {k : State} (b : ℕ) → After L t es k → Reach (t ++ (b ∷ [])) es (step L k b)
  unfolding step
  step_sound {t} {es} {k} b h = pick_owed t es (arms L k) b (owed h)
