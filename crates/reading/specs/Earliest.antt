-- A refusal comes at the first byte with which no text that is read goes on.
--
--   goes_on                     a text is read without refusal exactly if it begins a document, or is spent
--   earliest_within             it is refused at a byte exactly if it goes on without this byte, and with it does not
--   spent_stops_within          a spent text begins no document, and is refused at whatever byte comes
--   read_exactly, earliest, spent_stops       the same for the reader's own limits;  spent_long: where a spent text ends in a name of 64 bytes
--
-- Assumes nothing of the reader's own limits; of others that one element may be open, a name may have one byte, and a tag at most 26 attributes.
use Rattle.std.specs.Prelude.{ℕ, suc, ◌+◌, ◌≤◌, ◌≡◌, refl, ◌⊎◌, ◌↔◌, Bool, true, false, not, List, [], ◌∷◌, ◌++◌, length}
use Rattle.std.proofs.Common.{arith, sym, ◌∙◌, subst, inl, inr, append_assoc, append-nil}
use Rattle.std.proofs.Math.Decide.{ℕ_discrete}
use Rattle.std.proofs.Math.Dec.{T, T_not}
use Rattle.choice.specs.When.{when_either}
use Rattle.xml.specs.Class.{in_class}
use Rattle.xml.specs.Limited.{bounds}
use Rattle.xml.proofs.Limited.Laws.{name_taken, atts_taken, nest_taken}
use Rattle.xml.specs.Grammar.{Limits, Ev, b0, among, Each, name, Document}
use Rattle.xml.specs.Machine.{Place, State, Outcome, refused, goes, check, step, pick, run, stands}
use Rattle.xml.specs.Unfinished.{InAtt, attribute}
use Rattle.xml.specs.Sentences.{Begins, RefusedAt, Spent, spent}
use Rattle.reading.specs.Last.{length_snoc}
use Rattle.reading.specs.Refusing.{Stands, Came, stood, stopped', came, never_both, refused_stands, step_refused, step_goes}
use Rattle.reading.specs.Account.Sound.{run_account}
use Rattle.reading.specs.Leads.{leads_run}
use Rattle.reading.specs.Leads.Accounts.{att_reached}
use Rattle.reading.specs.Leads.Whole.{document_accepted}
use Rattle.reading.specs.Another.{another, small_letter}
use Rattle.reading.specs.Early.{Alive, Standing, living, naming, standing, grown_alive, new_alive, alive_document, refused_none}

-- an outcome that is a refusal
pub data Stuck : Outcome → Type 0 where
  stuck : {r : ℕ} → Stuck (refused r)

check_stuck : (x : Bool) (r : ℕ) (o : Outcome) → (T x → ⊥) → Stuck (check x r o)
unfolding check
check_stuck true r o f = absurd (f tt)
check_stuck false r o f = stuck

module _ (L : Limits) where
  spent_step :
      (p : Place) (n : List ℕ) (ms : List (List ℕ)) (m : List ℕ) (b : ℕ)
      → T (among m ms)
      → (T (L.name (suc (length m))) → ⊥)
      → Stuck (step L (State.att p n ms m) b)
  unfolding step pick
  spent_step p n ms m b x f =
      when_either Stuck (in_class _ b) _ _ (check_stuck _ _ _ (λ t. f (subst (λ z. T (L.name z)) (length_snoc m b) t)))
      (when_either Stuck (in_class _ b) _ _ (check_stuck _ _ _ (λ t. T_not (among m ms) t x))
      (when_either Stuck _ _ _ (check_stuck _ _ _ (λ t. T_not (among m ms) t x)) (when_either Stuck (in_class _ b) _ _ stuck stuck)))

  -- whatever comes, a spent text is refused at it
  spent_refused : (t : List ℕ) (b : ℕ) → Spent L t → (r : ℕ) × RefusedAt L r t b
  spent_refused t b (spent {p = p} {n = n} {m = m} {ms = ms} {es = es} i x f) =
      go (step L (State.att p n ms m) b) refl (spent_step p n ms m b x f)
    where
      go : (o : Outcome) → step L (State.att p n ms m) b ≡ o → Stuck o → (r : ℕ) × RefusedAt L r t b
      go (refused r) e h = (r, step_refused L r t b es (State.att p n ms m) (leads_run L (att_reached L i)) e)
      go (goes _ _) e h = elim h [ ]

  spent_stands : (t : List ℕ) → Spent L t → Stands L t
  spent_stands t (spent {es = es} i x f) = record { evs = es; state = _; reads = leads_run L (att_reached L i) }

  module _ (one_open : T (L.nest 1)) (one_name : T (L.name 1)) (few : (n : ℕ) → T (L.atts n) → n ≤ 26) where
    living_begins : (t : List ℕ) (es : List Ev) (k : State) → run L t State.start ≡ stands es k → Alive L one_open one_name k → Begins L t
    living_begins t es k e a = let (u, fs, d) = alive_document L one_open one_name t es k e a in record { rest = u; evs = es ++ fs; whole = d }

    -- inside an attribute's name: new, or to be made so, or spent
    name_begins :
        {p : Place} {n m : List ℕ} {ms : List (List ℕ)} (t : List ℕ) (es : List Ev) (x y : Bool)
        → among m ms ≡ x
        → L.name (suc (length m)) ≡ y
        → run L t State.start ≡ stands es (State.att p n ms m)
        → InAtt L p n ms m t es
        → Begins L t ⊎ Spent L t
    name_begins t es false y e f h i = inl (living_begins t es _ h (new_alive L one_open one_name i (subst (λ z. T (not z)) (sym e) tt)))
    name_begins t es true false e f h i = inr (spent i (subst T (sym e) tt) (λ u. subst T f u))
    name_begins {m = m} {ms = ms} t es true true e f h (attribute g u l j) =
        let z : suc (length ms) ≤ 26 = few (suc (length ms)) l in
        let (c, k, w) = another m ms 26 (omega arith) in
        let a : T (L.name (length (m ++ ((97 + c) ∷ [])))) = subst (λ z. T (L.name z)) (sym (length_snoc m (97 + c))) (subst T (sym f) tt) in
        inl (living_begins t es _ h (grown_alive L one_open one_name (attribute g u l j) (Each.more Each.none (small_letter c k)) a w))

    stands_begins : (t : List ℕ) → Stands L t → Begins L t ⊎ Spent L t
    stands_begins t h = go h.reads (standing L one_open one_name (run_account L t h.evs h.state h.reads))
      where
        go : {es : List Ev} {k : State} → run L t State.start ≡ stands es k → Standing L one_open one_name t es k → Begins L t ⊎ Spent L t
        go {es} {k} e (living a) = inl (living_begins t es k e a)
        go {es} e (naming {m = m} {ms = ms} i) = name_begins t es (among m ms) (L.name (suc (length m))) refl refl e i

    begins_stands : (t : List ℕ) → Begins L t → Stands L t
    begins_stands t h = go (came L t State.start)
      where
        go : Came L t State.start → Stands L t
        go (stood es k e) = record { evs = es; state = k; reads = e }
        go (stopped' es r v e) = absurd (refused_none L one_open one_name t es r v e h.rest h.evs h.whole)

    pub goes_on : (t : List ℕ) → Stands L t ↔ (Begins L t ⊎ Spent L t)
    goes_on t = (stands_begins t, either)
      where
        either : Begins L t ⊎ Spent L t → Stands L t
        either (inl h) = begins_stands t h
        either (inr h) = spent_stands t h

    refused_stops : (r : ℕ) (t : List ℕ) (b : ℕ) → RefusedAt L r t b → Stands L (t ++ (b ∷ [])) → ⊥
    refused_stops r t b h g = never_both (sym g.reads ∙ h.refuses)

    pub earliest_within :
        (t : List ℕ) (b : ℕ)
        → ((r : ℕ) × RefusedAt L r t b) ↔ ((Begins L t ⊎ Spent L t) × (Begins L (t ++ (b ∷ [])) → ⊥) × (Spent L (t ++ (b ∷ [])) → ⊥))
    earliest_within t b = (
      λ h. (
        stands_begins t (refused_stands L h.0 t b h.1),
        λ x. refused_stops _ t b h.1 (begins_stands _ x),
        λ x. refused_stops _ t b h.1 (spent_stands _ x),
      ),
      λ h. back ((goes_on t).1 h.0) (λ g. none h.1 h.2 (stands_begins _ g)),
    )
      where
        none : {A B : Type 0} → (A → ⊥) → (B → ⊥) → A ⊎ B → ⊥
        none f g (inl x) = f x
        none f g (inr x) = g x

        back : Stands L t → (Stands L (t ++ (b ∷ [])) → ⊥) → (r : ℕ) × RefusedAt L r t b
        back g f = go (step L g.state b) refl
          where
            go : (o : Outcome) → step L g.state b ≡ o → (r : ℕ) × RefusedAt L r t b
            go (refused r) e = (r, step_refused L r t b g.evs g.state g.reads e)
            go (goes fs j) e = absurd (f (step_goes L t b g.evs fs j g.state g.reads e))

    spent_none : (t u : List ℕ) (es : List Ev) → Spent L t → Document L (t ++ u) es → ⊥
    spent_none t [] es (spent {p = p} {n = n} {m = m} {ms = ms} {es = fs} i x f) d =
        let e : stands fs (State.att p n ms m) ≡ stands es (State.at Place.after b0) =
        sym (leads_run L (att_reached L i)) ∙ document_accepted L t es (subst (λ z. Document L z es) (append-nil t) d) in
        let z : ◌≡◌ {A = ℕ} 0 1 = cc in
        omega arith
    spent_none t (b ∷ u) es h d =
        let (r, g) = spent_refused t b h in
        refused_none L one_open one_name (t ++ (b ∷ [])) g.evs r (b ∷ []) g.refuses u es
        (subst (λ z. Document L z es) (sym (append_assoc t (b ∷ []) u)) d)

    -- a spent text begins no document, and is refused at whatever byte comes
    pub spent_stops_within : (t : List ℕ) → Spent L t → (Begins L t → ⊥) × ((b : ℕ) → (r : ℕ) × RefusedAt L r t b)
    spent_stops_within t h = (λ g. spent_none t g.rest g.evs h g.whole, λ b. spent_refused t b h)

-- the reader's own limits
pub one_open : T (bounds.nest 1)
one_open = (nest_taken 1).1 (omega arith)

pub one_name : T (bounds.name 1)
one_name = (name_taken 1).1 (omega arith)

few_attributes : (n : ℕ) → T (bounds.atts n) → n ≤ 26
few_attributes n t = omega (arith, (atts_taken n).0 t)

pub read_exactly : (t : List ℕ) → Stands bounds t ↔ (Begins bounds t ⊎ Spent bounds t)
read_exactly = goes_on bounds one_open one_name few_attributes

pub earliest :
    (t : List ℕ) (b : ℕ)
    → ((r : ℕ) × RefusedAt bounds r t b) ↔ ((Begins bounds t ⊎ Spent bounds t) × (Begins bounds (t ++ (b ∷ [])) → ⊥) × (Spent bounds (t ++ (b ∷ [])) → ⊥))
earliest = earliest_within bounds one_open one_name few_attributes

pub spent_stops : (t : List ℕ) → Spent bounds t → (Begins bounds t → ⊥) × ((b : ℕ) → (r : ℕ) × RefusedAt bounds r t b)
spent_stops = spent_stops_within bounds one_open one_name few_attributes

attribute_name : {p : Place} {n m t : List ℕ} {ms : List (List ℕ)} {es : List Ev} → InAtt bounds p n ms m t es → length m ≤ 64
attribute_name (attribute g u x (name {b = b} {t = t} h e l)) = (name_taken (length (b ∷ t))).0 l

-- the names that may not be longer are those of 64 bytes
pub spent_long :
    {p : Place} {n m t : List ℕ} {ms : List (List ℕ)} {es : List Ev}
    → InAtt bounds p n ms m t es
    → (T (bounds.name (suc (length m))) → ⊥) ↔ (length m ≡ 64)
spent_long {m = m} i =
    (λ f. long (ℕ_discrete (length m) 64) f (attribute_name i), λ e t. omega (arith, (name_taken (suc (length m))).0 t))
  where
    long : Dec (length m ≡ 64) → (T (bounds.name (suc (length m))) → ⊥) → length m ≤ 64 → length m ≡ 64
    long (yes e) f h = e
    long (no d) f h = absurd (f ((name_taken (suc (length m))).1 (omega arith)))
