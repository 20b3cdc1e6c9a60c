-- Unfinished documents: what has been read of the grammar's productions where a text ends before its document does.
--
--   Open n ns t es         t ends with the start tag of n, inside the open elements ns; es are the events so far
--   At p k t es            t ends between two markups at the place p, after k brackets
--   Late p t               t is past the very start of a text, where only a byte order mark may stand
--   Fits p                 the depth allows an element that begins at the place p
--   InName p n t es        t ends in a tag, behind its name or inside it: n so far
--   InTag p n ms t es      t ends in a tag of the name n, behind its attributes: ms so far, the last first
--   InAtt p n ms m t es    the same, then behind an attribute's name or inside it: m so far
--   InValue p n ms m q t es    the same, then in that attribute's value in the quotes q
--   InDecl o k t           t ends in the XML declaration, behind the name of the part k, the part before it being o
--
-- Assumes nothing. NOT here: the productions (Grammar), which state of the reader stands for each (crate reading, Account).
use Rattle.std.specs.Prelude.{ℕ, suc, Bool, not, List, [], ◌∷◌, ◌++◌, T, length}
use Rattle.std.proofs.Math.Option.{Option}
use Rattle.xml.specs.Chars.{quote}
use Rattle.xml.specs.Grammar.{Limits, Ev, opens, Br, b0, among, Part, part_name, may_follow, S, Eq, Value, Name, Attributes, STag, Content, Mark}
use Rattle.xml.specs.Grammar.{Told, Prolog, Document}
use Rattle.xml.specs.Machine.{Place}

pub data Late : Place → List ℕ → Type 0 where
  before : {t : List ℕ} → (Mark t → ⊥) → Late Place.before t
  inside : {n t : List ℕ} {ns : List (List ℕ)} → Late (Place.inside n ns) t
  after : {t : List ℕ} → Late Place.after t

pub data InDecl : Option Part → Part → List ℕ → Type 0 where
  named :
      {o : Option Part} {k : Part} {t u v : List ℕ} → Mark t → Told o u → T (may_follow o k) → S v → InDecl o k (t ++ (u ++ (v ++ part_name k)))

module _ (L : Limits) where
  pub data Open : List ℕ → List (List ℕ) → List ℕ → List Ev → Type 0 where
    first : {n t u : List ℕ} → T (L.nest 1) → Prolog t → STag L n u → Open n [] (t ++ u) (opens n ∷ [])
    deeper :
        {n m : List ℕ} {ms : List (List ℕ)} {k : Br} {t u v : List ℕ} {es fs : List Ev}
        → T (L.nest (suc (suc (length ms))))
        → Open m ms t es
        → Content L (suc (length ms)) k u fs
        → STag L n v
        → Open n (m ∷ ms) (t ++ (u ++ v)) (es ++ (fs ++ (opens n ∷ [])))

  pub data At : Place → Br → List ℕ → List Ev → Type 0 where
    before : {t : List ℕ} → Prolog t → At Place.before b0 t []
    inside :
        {n : List ℕ} {ns : List (List ℕ)} {k : Br} {t u : List ℕ} {es fs : List Ev}
        → Open n ns t es
        → Content L (suc (length ns)) k u fs
        → At (Place.inside n ns) k (t ++ u) (es ++ fs)
    after : {t : List ℕ} {es : List Ev} → Document L t es → At Place.after b0 t es

  pub data Fits : Place → Type 0 where
    before : T (L.nest 1) → Fits Place.before
    inside : {n : List ℕ} {ns : List (List ℕ)} → T (L.nest (suc (suc (length ns)))) → Fits (Place.inside n ns)

  pub data InName : Place → List ℕ → List ℕ → List Ev → Type 0 where
    tag : {p : Place} {k : Br} {n t : List ℕ} {es : List Ev} → At p k t es → Fits p → Name L n → InName p n (t ++ (60 ∷ n)) es

  pub data InTag : Place → List ℕ → List (List ℕ) → List ℕ → List Ev → Type 0 where
    attributed : {p : Place} {n t u : List ℕ} {ms : List (List ℕ)} {es : List Ev} → InName p n t es → Attributes L ms u → InTag p n ms (t ++ u) es

  pub data InAtt : Place → List ℕ → List (List ℕ) → List ℕ → List ℕ → List Ev → Type 0 where
    attribute :
        {p : Place} {n m t u : List ℕ} {ms : List (List ℕ)} {es : List Ev}
        → InTag p n ms t es
        → S u
        → T (L.atts (suc (length ms)))
        → Name L m
        → InAtt p n ms m (t ++ (u ++ m)) es

  pub data InValue : Place → List ℕ → List (List ℕ) → List ℕ → Bool → List ℕ → List Ev → Type 0 where
    quoting :
        {p : Place} {n m t u v : List ℕ} {ms : List (List ℕ)} {es : List Ev} (q : Bool)
        → InAtt p n ms m t es
        → T (not (among m ms))
        → Eq u
        → Value q v
        → InValue p n ms m q (t ++ (u ++ (quote q ∷ v))) es
