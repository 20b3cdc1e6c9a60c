-- What a text does: from one state to another, with its events. Steps by classes of bytes, and by rows.
--
--   Leads s t es s'            the text t takes the state s to s' and gives es
--   leads_run                  what it leads to is what `run` says
--   past c a                   the cases a, without those in front that no byte of c meets
--   by_class                   a byte of a class takes the first case that is left for the class
--   by_rows, by_word           so does a spelling of some rows, or a word;  rows_part: a part of one
--   each_leads, char_leads, refer_leads        bytes of a class, characters, references
--
-- Assumes nothing. NOT here: what the states' cases are (crate xml, Machine).
pub mod Data
pub mod Tags
pub mod Declaration
pub mod Whole
pub mod Accounts
use Rattle.std.specs.Prelude.{ℕ, ◌≡◌, Bool, true, false, not, ◌||◌, T, eqb}
use Rattle.std.proofs.Math.Path.{refl, ap}
use Rattle.std.proofs.Common.{sym, ◌∙◌, subst, eqb→eq, T_not}
use mathlib.Core.List.{List, [], ◌∷◌, ◌++◌, append_assoc, append-nil}
use Rattle.choice.specs.When.{when_true, when_false}
use Rattle.xml.specs.Class.{Class, Row, Rows, in_range, in_class, In, OneOf, this, that, derive, word, words, place, disjoint, disjoint_ranges, out_of}
use Rattle.xml.specs.Class.{apart, apart_from, all_apart, filled, some_row, sound, waiting}
use Rattle.xml.proofs.Class.Laws.{derive_on, derive_apart, derive_sound, word_spells, not_in, and_l, and_r, T_true, T_false, or_r}
use Rattle.xml.specs.Chars.{utf8}
use Rattle.xml.specs.Refused.{not_char, other_entity}
use Rattle.xml.specs.Grammar.{Limits, Ev, entities, Each, Char, narrow, wide, Reference, reference}
use Rattle.xml.specs.Machine.{State, Outcome, goes, Arms, stop, one_of, lit, on, check, arms, settle, pick, step, stands, given, next, run}
use Rattle.reading.specs.Left.{left, none_of, filled_none, waiting_back}

unfoldable pub pick_arms : Bool → Arms → Arms → Arms
pick_arms true a b = a
pick_arms false a b = b

unfoldable pub past : Class → Arms → Arms
past c (stop r) = stop r
past c (one_of rs r es k) = one_of rs r es k
past c (lit n o a) = pick_arms (not (in_class c n)) (past c a) (lit n o a)
past c (on d f a) = pick_arms (disjoint d c) (past c a) (on d f a)

pub pick_arms_past : (x : Bool) (a a' : Arms) (b : ℕ) → (T x → pick a' b ≡ pick a b) → pick a' b ≡ pick (pick_arms x a a') b
unfolding pick_arms
pick_arms_past true a a' b f = f tt
pick_arms_past false a a' b f = refl

not_lit : (c : Class) (b n : ℕ) → In c b → T (not (in_class c n)) → eqb b n ≡ false
not_lit c b n h t = T_false _ (λ e. T_not (in_class c n) t (subst (λ z. T (in_class c z)) (eqb→eq b n e) h.holds))

pub pick_past : (c : Class) (a : Arms) (b : ℕ) → In c b → pick a b ≡ pick (past c a) b
unfolding past pick
pick_past c (stop r) b h = refl
pick_past c (one_of rs r es k) b h = refl
pick_past c (lit n o a) b h =
    pick_arms_past (not (in_class c n)) (past c a) (lit n o a) b (λ t. when_false _ o _ (not_lit c b n h t) ∙ pick_past c a b h)
pick_past c (on d f a) b h =
    pick_arms_past (disjoint d c) (past c a) (on d f a) b (λ t. when_false _ (f b) _ (not_in d c b t h.holds) ∙ pick_past c a b h)

-- the bytes that begin a row
unfoldable pub firsts : Rows → Class
firsts [] = []
firsts ([] ∷ rs) = firsts rs
firsts ((c ∷ r) ∷ rs) = c ++ firsts rs

or_mono : (x y z : Bool) → (T y → T z) → T (x || y) → T (x || z)
or_mono true y z f u = tt
or_mono false y z f u = f u

in_append_l : (c d : Class) (b : ℕ) → T (in_class c b) → T (in_class (c ++ d) b)
unfolding in_class
in_append_l [] d b t = absurd t
in_append_l (r ∷ c) d b t = or_mono (in_range r b) _ _ (in_append_l c d b) t

in_append_r : (c d : Class) (b : ℕ) → T (in_class d b) → T (in_class (c ++ d) b)
unfolding in_class
in_append_r [] d b t = t
in_append_r (r ∷ c) d b t = or_r (in_range r b) _ (in_append_r c d b t)

pub in_firsts : {b : ℕ} {rs : Rows} {w : List ℕ} → OneOf rs (b ∷ w) → T (in_class (firsts rs) b)
unfolding firsts
in_firsts {b} (this {rs = rs} (place {c = c} t h)) = in_append_l c (firsts rs) b t.holds
in_firsts (that {r = []} h) = in_firsts h
in_firsts {b} (that {r = c ∷ r} {rs = rs} h) = in_append_r c (firsts rs) b (in_firsts h)

apart_none : (c : Class) (r : Row) (rs : Rows) → T (apart_from (c ∷ r) rs) → OneOf rs [] → ⊥
unfolding apart_from apart
apart_none c r ([] ∷ rs) t h = t
apart_none c r ((d ∷ u) ∷ rs) t (that h) = apart_none c r rs (and_r (apart (c ∷ r) (d ∷ u)) _ t) h
apart_none c r [] t h = elim h [ ]
apart_none c r ((d ∷ u) ∷ rs) t (this x10) = elim x10 [ ]

none_longer : {b : ℕ} {w : List ℕ} → OneOf ([] ∷ []) (b ∷ w) → ⊥
none_longer (that h) = none_of h
none_longer {b = b} {w = w} (this x4) = elim x4 [ ]

settle_waiting : (rs : Rows) (r : ℕ) (fs : List Ev) (k : State) → T (waiting rs) → settle rs r fs k ≡ goes [] (State.rows rs r fs k)
unfolding some_row filled
settle_waiting [] r fs k t = absurd t
settle_waiting ([] ∷ rs) r fs k t = absurd t
settle_waiting ((c ∷ x) ∷ rs) r fs k t = refl

pub check_true : (x : Bool) (r : ℕ) (o : Outcome) → T x → check x r o ≡ o
unfolding check
check_true true r o t = refl
check_true false r o t = absurd t

module _ (L : Limits) where
  pub data Leads : State → List ℕ → List Ev → State → Type 0 where
    stay : {k : State} → Leads k [] [] k
    byte :
        {j k l : State} {b : ℕ} {t : List ℕ} {es fs : List Ev}
        → step L j b ≡ goes es k
        → Leads k t fs l
        → Leads j (b ∷ t) (es ++ fs) l

  pub leads_run : {t : List ℕ} {es : List Ev} {j k : State} → Leads j t es k → run L t j ≡ stands es k
  unfolding run next given
  leads_run stay = refl
  leads_run (byte {k = k} {b = b} {t = t} e h) = ap (λ z. next z (run L t) (b ∷ t)) e ∙ ap (given _) (leads_run h)

  pub leads_append : {j k l : State} {t u : List ℕ} {es fs : List Ev} → Leads j t es k → Leads k u fs l → Leads j (t ++ u) (es ++ fs) l
  leads_append stay g = g
  leads_append {j = j} {l = l} {u = u} {fs = fs} (byte {b = b} {t = t} {es = es} {fs = es'} e h) g =
      subst (λ z. Leads j (b ∷ (t ++ u)) z l) (sym (append_assoc es es' fs)) (byte e (leads_append h g))

  -- and then something without events
  pub leads_quiet : {j k l : State} {t u : List ℕ} {es : List Ev} → Leads j t es k → Leads k u [] l → Leads j (t ++ u) es l
  leads_quiet {j} {k} {l} {t} {u} {es} h g = subst (λ z. Leads j (t ++ u) z l) (append-nil es) (leads_append h g)

  -- the same text, put together otherwise
  pub leads_same : {j k : State} {t u : List ℕ} {es : List Ev} → Leads j t es k → t ≡ u → Leads j u es k
  leads_same {j} {k} {es = es} h e = subst (λ z. Leads j z es k) e h

  pub one : {j k : State} {b : ℕ} {es : List Ev} → step L j b ≡ goes es k → Leads j (b ∷ []) es k
  one {j} {k} {b} {es} e = subst (λ z. Leads j (b ∷ []) z k) (append-nil es) (byte e stay)

  pub by_class : (k : State) (c : Class) (f : ℕ → Outcome) (a : Arms) {b : ℕ} → past c (arms L k) ≡ on c f a → In c b → step L k b ≡ f b
  unfolding step pick
  by_class k c f a {b} e h =
      pick_past c (arms L k) b h ∙ ap (λ z. pick z b) e ∙ when_true (in_class c b) (f b) (pick a b) (T_true (in_class c b) h.holds)

  settle_nil :
      (rs : Rows) (r b : ℕ) (fs : List Ev) (j k : State) → T (all_apart rs) → OneOf rs [] → step L j b ≡ settle rs r fs k → Leads j (b ∷ []) fs k
  unfolding all_apart apart_from apart
  settle_nil ([] ∷ []) r b fs j k t h e = one e
  settle_nil ([] ∷ (x ∷ rs)) r b fs j k t h e = absurd t
  settle_nil ((c ∷ x) ∷ rs) r b fs j k t (that h) e = absurd (apart_none c x rs (and_l (apart_from (c ∷ x) rs) _ t) h)
  settle_nil [] r b fs j k t h e = elim h [ ]
  settle_nil ((c ∷ x) ∷ rs) r b fs j k t (this x18) e = elim x18 [ ]

  settle_cons :
      (rs : Rows) (r b b' : ℕ) (w : List ℕ) (fs : List Ev) (j k : State)
      → T (all_apart rs)
      → OneOf rs (b' ∷ w)
      → step L j b ≡ settle rs r fs k
      → Leads (State.rows rs r fs k) (b' ∷ w) fs k
      → Leads j (b ∷ b' ∷ w) fs k
  unfolding all_apart apart_from apart
  settle_cons ([] ∷ []) r b b' w fs j k t h e g = absurd (none_longer h)
  settle_cons ([] ∷ (x ∷ rs)) r b b' w fs j k t h e g = absurd t
  settle_cons ((c ∷ x) ∷ rs) r b b' w fs j k t h e g = byte e g
  settle_cons [] r b b' w fs j k t h e g = elim h [ ]

  settle_leads :
      (w : List ℕ) (rs : Rows) (r b : ℕ) (fs : List Ev) (j k : State)
      → T (all_apart rs)
      → OneOf rs w
      → step L j b ≡ settle rs r fs k
      → Leads j (b ∷ w) fs k
  unfolding step pick
  settle_leads [] rs r b fs j k t h e = settle_nil rs r b fs j k t h e
  settle_leads (b' ∷ w) rs r b fs j k t h e =
      settle_cons rs r b b' w fs j k t h e
      (settle_leads w (derive b' rs) r b' fs (State.rows rs r fs k) k (derive_apart b' rs t) (derive_on h) refl)

  -- the first byte of a spelling
  pub row_byte :
      (j k : State) (rs : Rows) (r : ℕ) (fs : List Ev) (b : ℕ)
      → past (firsts rs) (arms L j) ≡ one_of rs r fs k
      → T (in_class (firsts rs) b)
      → step L j b ≡ settle (derive b rs) r fs k
  unfolding step pick
  row_byte j k rs r fs b e h = pick_past (firsts rs) (arms L j) b (record { holds = h }) ∙ ap (λ z. pick z b) e

  pub by_rows :
      (j k : State) (rs : Rows) (r : ℕ) (fs : List Ev) (w : List ℕ)
      → past (firsts rs) (arms L j) ≡ one_of rs r fs k
      → T (all_apart rs)
      → T (filled rs)
      → OneOf rs w
      → Leads j w fs k
  by_rows j k rs r fs [] e t u h = absurd (filled_none rs u h)
  by_rows j k rs r fs (b ∷ w) e t u h =
      settle_leads w (derive b rs) r b fs j k (derive_apart b rs t) (derive_on h) (row_byte j k rs r fs b e (in_firsts h))

  pub by_word : (j k : State) (v : List ℕ) (b : ℕ) (r : ℕ) (fs : List Ev) → arms L j ≡ one_of (word (b ∷ v) ∷ []) r fs k → Leads j (b ∷ v) fs k
  unfolding step pick all_apart apart_from word
  by_word j k v b r fs e =
      settle_leads v (derive b (word (b ∷ v) ∷ [])) r b fs j k (derive_apart b (word (b ∷ v) ∷ []) tt) (derive_on (this (word_spells (b ∷ v))))
      (ap (λ z. pick z b) e)

  -- a part of a spelling
  pub rows_part :
      (w : List ℕ) (rs : Rows) (r : ℕ) (fs : List Ev) (k : State)
      → T (sound rs)
      → T (waiting (left w rs))
      → Leads (State.rows rs r fs k) w [] (State.rows (left w rs) r fs k)
  unfolding left step pick
  rows_part [] rs r fs k t u = stay
  rows_part (b ∷ w) rs r fs k t u =
      byte
      (settle_waiting (derive b rs) r fs k (waiting_back w (derive b rs) (derive_sound b rs t) u))
      (rows_part w (derive b rs) r fs k (derive_sound b rs t) u)

  pub own_part :
      (b : ℕ) (w : List ℕ) (j k : State) (rs : Rows) (r : ℕ)
      → past (firsts rs) (arms L j) ≡ one_of rs r [] k
      → T (in_class (firsts rs) b)
      → T (sound rs)
      → T (waiting (left (b ∷ w) rs))
      → Leads j (b ∷ w) [] (State.rows (left (b ∷ w) rs) r [] k)
  unfolding left
  own_part b w j k rs r e h t u =
      byte
      (row_byte j k rs r [] b e h ∙ settle_waiting (derive b rs) r [] k (waiting_back w (derive b rs) (derive_sound b rs t) u))
      (rows_part w (derive b rs) r [] k (derive_sound b rs t) u)

  pub each_leads : (c : Class) {t : List ℕ} (k : State) → ((b : ℕ) → In c b → step L k b ≡ goes [] k) → Each c t → Leads k t [] k
  each_leads c k f Each.none = stay
  each_leads c k f (Each.more e h) = leads_append (each_leads c k f e) (one (f _ h))

  pub char_leads :
      {w : List ℕ} (j k : State) (c : Class)
      → ((b : ℕ) → In c b → step L j b ≡ goes [] k)
      → past (firsts utf8) (arms L j) ≡ one_of utf8 not_char [] k
      → Char c w
      → Leads j w [] k
  unfolding all_apart apart_from apart disjoint out_of disjoint_ranges filled
  char_leads j k c f e (narrow h) = one (f _ h)
  char_leads j k c f e (wide o) = by_rows j k utf8 not_char [] _ e tt tt o

  pub entity_leads : {w : List ℕ} (k : State) → OneOf entities w → Leads (State.amper k) w [] k
  unfolding all_apart apart_from apart disjoint out_of disjoint_ranges filled firsts past pick_arms in_class word words
  entity_leads k o = by_rows (State.amper k) k entities other_entity [] _ refl tt tt o

  pub refer_leads : {w : List ℕ} (j k : State) → step L j 38 ≡ goes [] (State.amper k) → Reference w → Leads j w [] k
  refer_leads j k e (reference o) = byte e (entity_leads k o)
