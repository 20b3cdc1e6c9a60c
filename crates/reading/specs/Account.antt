-- The grammar's account of each state: what has been read when the reader stands there.
--
--   Refers t es k               after t a reference may begin, and k is next
--   Reads t es j rs r k         after t the reader stands in j, where one of rs may come: then k is next, and else r is given
--   Due t es rs r fs k          after t one of rs must come: then fs are given and k is next, and else r is given
--   Begun t es w rs r fs k      the same for either, with w behind t, and in w the first byte of what Reads
--   After t es s                the account of the state s: t has been read, and es are its events
--   part_first k, part_rest k     the name of a part of the declaration, taken apart
--   plus es fs                  es ++ fs, and es itself where fs is none
--
-- Assumes nothing. NOT here: that each byte takes an account to an account (Account.Steps), that each account is reached (Leads.Accounts).
pub mod Grows
pub mod Done
pub mod Steps
pub mod Sound
use Rattle.std.specs.Prelude.{ℕ, ◌≡◌, refl, Bool, not, List, [], ◌∷◌, ◌++◌, T}
use Rattle.std.proofs.Math.Option.{Option, some}
use Rattle.xml.specs.Class.{Rows, word, waiting}
use Rattle.xml.specs.Chars.{blank, utf8, quote}
use Rattle.xml.specs.Refused.{misplaced, not_char, instruction, other_entity, other_end}
use Rattle.xml.specs.Grammar.{Limits, Ev, opens, closes, entities, Br, b0, among, Part, version, encoding, standalone, part_name, part_values}
use Rattle.xml.specs.Grammar.{may_follow, Each, S, Eq, Remarked, Mark, Told}
use Rattle.xml.specs.Machine.{Place, State, emptied, remarks, part_refusal}
use Rattle.xml.specs.Unfinished.{At, Late, InName, InTag, InAtt, InValue, InDecl}
use Rattle.reading.specs.Left.{left}

abbrev pub plus : List Ev → List Ev → List Ev
plus es [] = es
plus es (f ∷ fs) = es ++ (f ∷ fs)

-- the first byte of a part's name, and the others
abbrev pub part_first : Part → ℕ
part_first version = 118
part_first encoding = 101
part_first standalone = 115

abbrev pub part_rest : Part → List ℕ
part_rest version = 101 ∷ 114 ∷ 115 ∷ 105 ∷ 111 ∷ 110 ∷ []
part_rest encoding = 110 ∷ 99 ∷ 111 ∷ 100 ∷ 105 ∷ 110 ∷ 103 ∷ []
part_rest standalone = 116 ∷ 97 ∷ 110 ∷ 100 ∷ 97 ∷ 108 ∷ 111 ∷ 110 ∷ 101 ∷ []

pub name_parts : (k : Part) → part_name k ≡ part_first k ∷ part_rest k
unfolding part_name
name_parts version = refl
name_parts encoding = refl
name_parts standalone = refl

module _ (L : Limits) where
  pub data Refers : List ℕ → List Ev → State → Type 0 where
    data' :
        {n t : List ℕ} {ns : List (List ℕ)} {k : Br} {es : List Ev}
        → At L (Place.inside n ns) k t es
        → Refers t es (State.at (Place.inside n ns) b0)
    value :
        {p : Place} {n m t : List ℕ} {ms : List (List ℕ)} {q : Bool} {es : List Ev}
        → InValue L p n ms m q t es
        → Refers t es (State.value p n ms m q)

  pub data Reads : List ℕ → List Ev → State → Rows → ℕ → State → Type 0 where
    data' :
        {n t : List ℕ} {ns : List (List ℕ)} {k : Br} {es : List Ev}
        → At L (Place.inside n ns) k t es
        → Reads t es (State.at (Place.inside n ns) k) utf8 not_char (State.at (Place.inside n ns) b0)
    value :
        {p : Place} {n m t : List ℕ} {ms : List (List ℕ)} {q : Bool} {es : List Ev}
        → InValue L p n ms m q t es
        → Reads t es (State.value p n ms m q) utf8 not_char (State.value p n ms m q)
    note :
        {p : Place} {k : Br} {t u : List ℕ} {es : List Ev}
        → At L p k t es
        → Remarked u
        → Reads (t ++ (60 ∷ 33 ∷ 45 ∷ 45 ∷ u)) es (State.note p) utf8 not_char (State.note p)
    dash :
        {p : Place} {k : Br} {t u : List ℕ} {es : List Ev}
        → At L p k t es
        → Remarked u
        → Reads (t ++ (60 ∷ 33 ∷ 45 ∷ 45 ∷ (u ++ (45 ∷ [])))) es (State.dash p) utf8 not_char (State.note p)
    amper : {t : List ℕ} {es : List Ev} {k : State} → Refers t es k → Reads (t ++ (38 ∷ [])) es (State.amper k) entities other_entity k
    bang :
        {p : Place} {k : Br} {t : List ℕ} {es : List Ev}
        → At L p k t es
        → Reads (t ++ (60 ∷ 33 ∷ [])) es (State.bang p) (word (45 ∷ 45 ∷ []) ∷ []) misplaced (State.note p)

  pub data Due : List ℕ → List Ev → Rows → ℕ → List Ev → State → Type 0 where
    mark : Due (239 ∷ []) [] (word (187 ∷ 191 ∷ []) ∷ []) misplaced [] State.fresh
    xml : {t : List ℕ} → Mark t → Due (t ++ (60 ∷ 63 ∷ [])) [] (word (120 ∷ 109 ∷ 108 ∷ []) ∷ []) instruction [] State.declared
    note :
        {p : Place} {k : Br} {t u : List ℕ} {es : List Ev}
        → At L p k t es
        → Remarked u
        → Due (t ++ (60 ∷ 33 ∷ 45 ∷ 45 ∷ (u ++ (45 ∷ 45 ∷ [])))) es (word (62 ∷ []) ∷ []) misplaced (remarks p) (State.at p b0)
    empty :
        {p : Place} {n t u : List ℕ} {ms : List (List ℕ)} {es : List Ev}
        → InTag L p n ms t es
        → Each blank u
        → Due (t ++ (u ++ (47 ∷ []))) es (word (62 ∷ []) ∷ []) misplaced (opens n ∷ closes n ∷ []) (State.at (emptied p) b0)
    end :
        {n t : List ℕ} {ns : List (List ℕ)} {k : Br} {es : List Ev}
        → At L (Place.inside n ns) k t es
        → Due (t ++ (60 ∷ 47 ∷ [])) es (word n ∷ []) other_end [] (State.ending n ns)
    told :
        {k : Part} {t u v : List ℕ}
        → Mark t
        → Told (some k) u
        → Each blank v
        → Due (t ++ (u ++ (v ++ (63 ∷ [])))) [] (word (62 ∷ []) ∷ []) misplaced [] (State.at Place.before b0)
    name :
        {o : Option Part} {k : Part} {t u v : List ℕ}
        → Mark t
        → Told o u
        → T (may_follow o k)
        → S v
        → Due (t ++ (u ++ (v ++ (part_first k ∷ [])))) [] (word (part_rest k) ∷ []) misplaced [] (State.part_eq o k)
    value :
        {o : Option Part} {k : Part} {t u : List ℕ} (q : Bool)
        → InDecl o k t
        → Eq u
        → Due (t ++ (u ++ (quote q ∷ []))) [] (part_values k (quote q)) (part_refusal k) [] (State.told k)

  pub data Begun : List ℕ → List Ev → List ℕ → Rows → ℕ → List Ev → State → Type 0 where
    due : {t w : List ℕ} {es fs : List Ev} {rs : Rows} {r : ℕ} {k : State} → Due t es rs r fs k → Begun t es w rs r fs k
    reads :
        {t w : List ℕ} {b : ℕ} {es : List Ev} {rs : Rows} {r : ℕ} {j k : State} → Reads t es j rs r k → Begun t es (b ∷ w) rs r [] k

  pub data After : List ℕ → List Ev → State → Type 0 where
    start : After [] [] State.start
    fresh : After (239 ∷ 187 ∷ 191 ∷ []) [] State.fresh
    opening : {t : List ℕ} → Mark t → After (t ++ (60 ∷ [])) [] State.opening
    declared : {t : List ℕ} → Mark t → After (t ++ (60 ∷ 63 ∷ 120 ∷ 109 ∷ 108 ∷ [])) [] State.declared
    rows :
        {t w : List ℕ} {es fs : List Ev} {rs : Rows} {r : ℕ} {k : State}
        → Begun t es w rs r fs k
        → T (waiting (left w rs))
        → After (t ++ w) es (State.rows (left w rs) r fs k)
    at : {p : Place} {k : Br} {t : List ℕ} {es : List Ev} → At L p k t es → Late p t → After t es (State.at p k)
    markup : {p : Place} {k : Br} {t : List ℕ} {es : List Ev} → At L p k t es → Late p t → After (t ++ (60 ∷ [])) es (State.markup p)
    bang : {p : Place} {k : Br} {t : List ℕ} {es : List Ev} → At L p k t es → After (t ++ (60 ∷ 33 ∷ [])) es (State.bang p)
    note :
        {p : Place} {k : Br} {t u : List ℕ} {es : List Ev}
        → At L p k t es
        → Remarked u
        → After (t ++ (60 ∷ 33 ∷ 45 ∷ 45 ∷ u)) es (State.note p)
    dash :
        {p : Place} {k : Br} {t u : List ℕ} {es : List Ev}
        → At L p k t es
        → Remarked u
        → After (t ++ (60 ∷ 33 ∷ 45 ∷ 45 ∷ (u ++ (45 ∷ [])))) es (State.dash p)
    amper : {t : List ℕ} {es : List Ev} {k : State} → Refers t es k → After (t ++ (38 ∷ [])) es (State.amper k)
    tag : {p : Place} {n t : List ℕ} {es : List Ev} → InName L p n t es → After t es (State.tag p n)
    tagged :
        {p : Place} {n m t : List ℕ} {ms : List (List ℕ)} {es : List Ev}
        → InTag L p n (m ∷ ms) t es
        → After t es (State.tagged p n (m ∷ ms))
    gap :
        {p : Place} {n t u : List ℕ} {ms : List (List ℕ)} {es : List Ev}
        → InTag L p n ms t es
        → S u
        → After (t ++ u) es (State.gap p n ms)
    att : {p : Place} {n m t : List ℕ} {ms : List (List ℕ)} {es : List Ev} → InAtt L p n ms m t es → After t es (State.att p n ms m)
    eqs :
        {p : Place} {n m t u : List ℕ} {ms : List (List ℕ)} {es : List Ev}
        → InAtt L p n ms m t es
        → T (not (among m ms))
        → S u
        → After (t ++ u) es (State.eqs p n ms m)
    val :
        {p : Place} {n m t u : List ℕ} {ms : List (List ℕ)} {es : List Ev}
        → InAtt L p n ms m t es
        → T (not (among m ms))
        → Eq u
        → After (t ++ u) es (State.val p n ms m)
    value :
        {p : Place} {n m t : List ℕ} {ms : List (List ℕ)} {q : Bool} {es : List Ev}
        → InValue L p n ms m q t es
        → After t es (State.value p n ms m q)
    ending :
        {n t : List ℕ} {ns : List (List ℕ)} {k : Br} {es : List Ev}
        → At L (Place.inside n ns) k t es
        → After (t ++ (60 ∷ 47 ∷ n)) es (State.ending n ns)
    ended :
        {n t u : List ℕ} {ns : List (List ℕ)} {k : Br} {es : List Ev}
        → At L (Place.inside n ns) k t es
        → S u
        → After (t ++ (60 ∷ 47 ∷ (n ++ u))) es (State.ended n ns)
    told : {k : Part} {t u : List ℕ} → Mark t → Told (some k) u → After (t ++ u) [] (State.told k)
    apiece : {o : Option Part} {t u v : List ℕ} → Mark t → Told o u → S v → After (t ++ (u ++ v)) [] (State.apiece o)
    part_eq : {o : Option Part} {k : Part} {t u : List ℕ} → InDecl o k t → Each blank u → After (t ++ u) [] (State.part_eq o k)
    part_val : {o : Option Part} {k : Part} {t u : List ℕ} → InDecl o k t → Eq u → After (t ++ u) [] (State.part_val o k)
