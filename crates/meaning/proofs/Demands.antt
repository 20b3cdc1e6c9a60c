-- Demands 2 and 3 in the words of document 01, for every admitted query and every well-formed stream.
--
--   SelectedByAll q es n     every continuation of the stream es to a finished document selects node n
--   SelectedBySome, SelectedByNone, MissedBySome    some does; none does; some does not
--   Undecided q es n         n is opened, some continuation selects it and some does not
--   sure_exactly             n is selected in the sure reading exactly if every continuation selects it
--   possible_exactly         n is selected in the open reading exactly if some does
--   certain_exactly          an opened node's standing is certain exactly if every continuation selects it
--   ruled_out_exactly        ... ruled out exactly if none does
--   undecided_exactly        ... undecided exactly if some does and some does not
--   listed_exactly           n is listed exactly if it is certain and no undecided node stands before it
--   held_exactly             n is held exactly if some continuation selects it and it or an earlier node is undecided
--   ruled_out_list_exactly   n is among the nodes ruled out exactly if it is opened and no continuation selects it
--   neither_exactly          an opened node is neither listed nor held exactly if no continuation selects it
--   list_order               the list is in document order, each node once; held_order, ruled_out_order: so are the held and the ruled out
--   standings_run            events settle the standings: certain stays certain, ruled out stays ruled out
--   list_grows               the list only ever grows at its end
--   list_whole               at the end of the document the list is exactly the nodes selected in the sure reading
--   list_explicit            at the end of the document the list is exactly the nodes that document 01's sentence selects
--   counts_add_up            nodes opened = handed out + ruled out + held
--
-- Assumes `T (admits q)`, the query rules, and `Stream es`; nothing else. A continuation knows no limit.
use Prim.Native.Nat.{ℕ, zero, suc, ◌+◌, ◌≤◌, ◌<◌}
use Rattle.std.proofs.Common.{arith, ◌∙◌, T_not}
use Rattle.std.specs.Prelude.{◌↔◌, ◌≡◌, false, not, T, get_or}
use Rattle.std.proofs.Math.Path.{refl, sym, ap, subst}
use mathlib.Core.List.{List, ◌∷◌, ◌++◌, Memᴰ}
use Rattle.std.proofs.Math.Dec.{not_T}
use Rattle.std.proofs.Math.ListN.{length}
use Rattle.meaning.specs.Logic.{Imp, b_cons, both_at, test_within}
use Rattle.meaning.specs.Query.{Query, admits}
use Rattle.meaning.specs.Document.{Doc, done, within, count, finished}
use Rattle.meaning.specs.Selection.{sure-reading, open-reading, marks, selections, selected}
use Rattle.meaning.proofs.Selection.Laws.{sure_possible, length_selections}
use Rattle.meaning.specs.Explicit.{Selected}
use Rattle.meaning.proofs.Explicit.Ways.{selected_explicit}
use Rattle.meaning.specs.Standing.{Standing, certain, undecided, ruled_out, standing, standings, standing_of, listed, held, ruled_out_nodes}
use Rattle.meaning.proofs.Standing.Laws.{StandAt, Alive, listed_is, is_listed, held_is, is_held, ruled_is, is_ruled, Place, is_in_list, is_in_hold}
use Rattle.meaning.proofs.Standing.Laws.{is_out, placed, Rising, listed_rising, held_rising, ruled_rising, listed_grows, Settling}
use Rattle.meaning.proofs.Standing.Laws.{standings_settle, standings_add_up, stand_intro, stand_elim, stand_get, certain_test, undecided_test}
use Rattle.meaning.proofs.Standing.Laws.{ruled_out_test, alive_test, test_alive, test_certain, test_undecided, test_ruled_out, length_standings_of}
use Rattle.meaning.specs.Stream.{Event, run, document, Stream}
use Rattle.meaning.proofs.Stream.Laws.{document_append, sure_run, possible_run}
use Rattle.meaning.specs.Continuation.{Opened}
use Rattle.meaning.proofs.Continuation.{closing, closing_finishes, closing_selects, certain_every, possible_some}
use Rattle.meaning.specs.Demands.{SelectedByAll, SelectedBySome, SelectedByNone, MissedBySome, Undecided}

-- a node's standing and its two selections
one_more : (k : ℕ) → 1 + k ≡ suc k
one_more k = omega arith

module _ (q : Query) (d : Doc) where
  -- of a number that is no node's, both sides are ruled out
  standing_by : (n : ℕ) → standing_of q d n ≡ standing (selected q sure-reading d n) (selected q open-reading d n)
  unfolding standing_of standings standing selected
  standing_by zero = refl
  standing_by (suc k) = stand_get (sure_possible q d) k

  stand_node : (n : ℕ) → Opened d n → StandAt (standings q d) 1 n (standing_of q d n)
  unfolding standings selected
  stand_node zero o = absurd (omega (arith, o.from))
  stand_node (suc k) o =
      subst (StandAt (standings q d) 1 (suc k)) (sym (standing_by (suc k)))
      (subst (λ n. StandAt (standings q d) 1 n (standing (selected q sure-reading d (suc k)) (selected q open-reading d (suc k)))) (one_more k)
      (stand_intro (sure_possible q d) 1 k
      (let e : length (selections q sure-reading d) ≡ count d = length_selections q sure-reading d in omega (arith, o.to))))

  node_stand : {n : ℕ} {s : Standing} → StandAt (standings q d) 1 n s → Opened d n × (standing_of q d n ≡ s)
  unfolding standings
  node_stand {n} {s} x =
      let t = stand_elim (selections q sure-reading d) (selections q open-reading d) x in
      let e : n ≡ 1 + t.place = t.number in
      let l : length (selections q sure-reading d) ≡ count d = length_selections q sure-reading d in (
        record { from = omega arith; to = omega (arith, t.within) },
        ap (standing_of q d) (e ∙ one_more t.place) ∙ unfold standing_of in (stand_get (sure_possible q d) t.place ∙ sym t.standing_is),
      )

  sure_within : (n : ℕ) → Imp (selected q sure-reading d n) (selected q open-reading d n)
  unfolding selected
  sure_within n = both_at (b_cons (record { to = λ t. t }) (sure_possible q d)) n

-- the readings and the standings, in the words of continuations
module _ (q : Query) (ok : T (admits q)) (es : List Event) (stream : Stream es) where
  pub sure_exactly : (n : ℕ) → Opened (document es) n → T (selected q sure-reading (document es) n) ↔ SelectedByAll q es n
  sure_exactly n o = certain_every q es stream n o

  pub possible_exactly : (n : ℕ) → Opened (document es) n → T (selected q open-reading (document es) n) ↔ SelectedBySome q es n
  possible_exactly n o = possible_some q es stream n o ok

  pub certain_exactly : (n : ℕ) → Opened (document es) n → (standing_of q (document es) n ≡ certain) ↔ SelectedByAll q es n
  certain_exactly n o = (
    λ e. (sure_exactly n o).0 (certain_test _ _ (sym e ∙ standing_by q (document es) n)),
    λ a. standing_by q (document es) n ∙ test_certain _ _ ((sure_exactly n o).1 a),
  )

  pub ruled_out_exactly : (n : ℕ) → Opened (document es) n → (standing_of q (document es) n ≡ ruled_out) ↔ SelectedByNone q es n
  ruled_out_exactly n o = (
    λ e fs x u.
        T_not (selected q open-reading (document es) n)
        (ruled_out_test _ _ (sym e ∙ standing_by q (document es) n)) ((possible_exactly n o).1 (fs, x, u)),
    λ f.
        standing_by q (document es) n
        ∙ test_ruled_out _ _ (sure_within q (document es) n)
        (not_T (selected q open-reading (document es) n) (λ t. let w = (possible_exactly n o).0 t in f w.0 w.1 w.2)),
  )

  missed_closing : (n : ℕ) → Opened (document es) n → T (not (selected q sure-reading (document es) n)) → MissedBySome q es n
  missed_closing n o t = (
    closing q es stream n o,
    closing_finishes q es stream n o,
    λ u. T_not (selected q sure-reading (document es) n) t (subst T (closing_selects q es stream n o) u),
  )

  missed_not : (n : ℕ) → Opened (document es) n → MissedBySome q es n → T (not (selected q sure-reading (document es) n))
  missed_not n o m = not_T (selected q sure-reading (document es) n) (λ t. m.2 ((sure_exactly n o).0 t m.0 m.1))

  pub undecided_exactly : (n : ℕ) → Opened (document es) n → (standing_of q (document es) n ≡ undecided) ↔ Undecided q es n
  undecided_exactly n o = (
    λ e.
        let t = undecided_test (selected q sure-reading (document es) n) (selected q open-reading (document es) n) (sym e ∙ standing_by q (document es) n) in
        record { opened = o; some = (possible_exactly n o).0 t.1; missed = missed_closing n o t.0 },
    λ u. standing_by q (document es) n ∙ test_undecided _ _ (missed_not n o u.missed) ((possible_exactly n o).1 u.some),
  )

  standing_undecided : {n : ℕ} → StandAt (standings q (document es)) 1 n undecided → Undecided q es n
  standing_undecided {n} x = let w = node_stand q (document es) x in (undecided_exactly n w.0).0 w.1

  undecided_standing : {n : ℕ} → Undecided q es n → StandAt (standings q (document es)) 1 n undecided
  undecided_standing {n} u =
      subst (StandAt (standings q (document es)) 1 n) ((undecided_exactly n u.opened).1 u) (stand_node q (document es) n u.opened)

  -- the list
  pub record ListedBy (n : ℕ) : Type 0 where
    pub opened : Opened (document es) n
    pub all : SelectedByAll q es n
    pub clear : (m : ℕ) → Undecided q es m → n < m

  pub listed_exactly : (n : ℕ) → Memᴰ n (listed q (document es)) ↔ ListedBy n
  unfolding listed
  listed_exactly n = (to, from)
    where
      to : Memᴰ n (listed q (document es)) → ListedBy n
      to x =
          let l = listed_is (standings q (document es)) 1 x in
          let w = node_stand q (document es) l.certain_at in
          record { opened = w.0; all = (certain_exactly n w.0).0 w.1; clear = λ m u. l.clear m (undecided_standing u) }

      from : ListedBy n → Memᴰ n (listed q (document es))
      from l =
          is_listed
          (subst (StandAt (standings q (document es)) 1 n) ((certain_exactly n l.opened).1 l.all) (stand_node q (document es) n l.opened))
          (λ m x. l.clear m (standing_undecided x))

  -- `cause` is the undecided node for which n is held: it or an earlier one
  pub record HeldBy (n : ℕ) : Type 0 where
    pub opened : Opened (document es) n
    pub some : SelectedBySome q es n
    pub cause : ℕ
    pub before : cause ≤ n
    pub undecided_cause : Undecided q es cause

  pub held_exactly : (n : ℕ) → Memᴰ n (held q (document es)) ↔ HeldBy n
  unfolding held
  held_exactly n = (to, from)
    where
      to : Memᴰ n (held q (document es)) → HeldBy n
      to x =
          let h = held_is (standings q (document es)) 1 x in
          let w = node_stand q (document es) h.living.at in
          record {
            opened = w.0;
            some = (possible_exactly n w.0).0
                (alive_test _ _ (sure_within q (document es) n) h.living.alive (sym w.1 ∙ standing_by q (document es) n));
            cause = h.cause;
            before = h.before;
            undecided_cause = standing_undecided h.undecided_at;
          }

      from : HeldBy n → Memᴰ n (held q (document es))
      from h =
          is_held (standings q (document es)) 1 n h.cause
          (subst Alive (sym (standing_by q (document es) n)) (test_alive _ _ ((possible_exactly n h.opened).1 h.some)))
          (stand_node q (document es) n h.opened) h.before (undecided_standing h.undecided_cause)

  pub ruled_out_list_exactly : (n : ℕ) → Memᴰ n (ruled_out_nodes q (document es)) ↔ (Opened (document es) n × SelectedByNone q es n)
  unfolding ruled_out_nodes
  ruled_out_list_exactly n = (to, from)
    where
      to : Memᴰ n (ruled_out_nodes q (document es)) → Opened (document es) n × SelectedByNone q es n
      to x = let w = node_stand q (document es) (ruled_is (standings q (document es)) 1 x) in (w.0, (ruled_out_exactly n w.0).0 w.1)

      from : Opened (document es) n × SelectedByNone q es n → Memᴰ n (ruled_out_nodes q (document es))
      from x = is_ruled (subst (StandAt (standings q (document es)) 1 n) ((ruled_out_exactly n x.0).1 x.1) (stand_node q (document es) n x.0))

  abbrev pub Neither : ℕ → Type 0
  Neither n = (Memᴰ n (listed q (document es)) → ⊥) × (Memᴰ n (held q (document es)) → ⊥)

  neither_out : (n : ℕ) → Neither n → {s : Standing} → Place (standings q (document es)) 1 n s → s ≡ ruled_out
  unfolding listed held
  neither_out n f (is_in_list m) = absurd (f.0 m)
  neither_out n f (is_in_hold m) = absurd (f.1 m)
  neither_out n f is_out = refl

  pub neither_exactly : (n : ℕ) → Opened (document es) n → Neither n ↔ SelectedByNone q es n
  neither_exactly n o = (
    λ f. (ruled_out_exactly n o).0 (neither_out n f (placed (standings q (document es)) 1 (stand_node q (document es) n o))),
    λ g. (
      λ m. let l = (listed_exactly n).0 m in g (closing q es stream n o) (closing_finishes q es stream n o) (l.all _ (closing_finishes q es stream n o)),
      λ m. let h = (held_exactly n).0 m in g h.some.0 h.some.1 h.some.2,
    ),
  )

-- order, growth, the end, counts: these ask nothing of the query or the stream
pub list_order : (q : Query) (d : Doc) → Rising 1 (listed q d)
unfolding listed
list_order q d = listed_rising 1 (standings q d)

pub held_order : (q : Query) (d : Doc) → Rising 1 (held q d)
unfolding held
held_order q d = held_rising 1 (standings q d)

pub ruled_out_order : (q : Query) (d : Doc) → Rising 1 (ruled_out_nodes q d)
unfolding ruled_out_nodes
ruled_out_order q d = ruled_rising 1 (standings q d)

pub standings_run : (q : Query) (es fs : List Event) → Settling (standings q (document es)) (standings q (document (es ++ fs)))
unfolding standings
standings_run q es fs =
    subst (λ d. Settling (standings q (document es)) (standings q d)) (sym (document_append es fs))
    (standings_settle (sure_possible q (document es)) (sure_run q fs (document es)) (possible_run q fs (document es)) (sure_possible q (run fs (document es))))

pub list_grows : (q : Query) (es fs : List Event) → (more : List ℕ) × (listed q (document (es ++ fs)) ≡ listed q (document es) ++ more)
unfolding listed
list_grows q es fs = listed_grows 1 (standings_run q es fs)

-- a finished document has one reading
readings_agree : (q : Query) (d : Doc) → T (finished d) → selections q open-reading d ≡ selections q sure-reading d
unfolding finished selections marks
readings_agree q (done f) t = refl
readings_agree q (within p x d) t = absurd t

possible_sure : (q : Query) (d : Doc) → T (finished d) → (n : ℕ) → T (selected q open-reading d n) → T (selected q sure-reading d n)
unfolding selected
possible_sure q d fin n t = subst (λ l. T (get_or (false ∷ l) n false)) (readings_agree q d fin) t

none_undecided : (q : Query) (d : Doc) → T (finished d) → {n : ℕ} → StandAt (standings q d) 1 n undecided → ⊥
none_undecided q d fin {n} x =
    let w = node_stand q d x in
    let u = undecided_test _ _ (sym w.1 ∙ standing_by q d n) in
    T_not (selected q sure-reading d n) u.0 (possible_sure q d fin n u.1)

selected_opened : (q : Query) (d : Doc) (n : ℕ) → T (selected q sure-reading d n) → Opened d n
unfolding selected
selected_opened q d zero t = absurd t
selected_opened q d (suc k) t =
    let e : length (selections q sure-reading d) ≡ count d = length_selections q sure-reading d in
    record { from = omega arith; to = omega (arith, test_within (selections q sure-reading d) k t) }

pub list_whole : (q : Query) (d : Doc) → T (finished d) → (n : ℕ) → Memᴰ n (listed q d) ↔ T (selected q sure-reading d n)
unfolding listed
list_whole q d fin n = (
  λ x.
      let w = node_stand q d (listed_is (standings q d) 1 x).certain_at in
      certain_test _ _ (sym w.1 ∙ standing_by q d n),
  λ t.
      is_listed
      (subst (StandAt (standings q d) 1 n) (standing_by q d n ∙ test_certain _ _ t) (stand_node q d n (selected_opened q d n t)))
      (λ m x. absurd (none_undecided q d fin x)),
)

-- DEMAND 2: the nodes listed by the end are exactly those that document 01's sentence selects
pub list_explicit :
    (q : Query) → T (admits q) → (es : List Event) → T (finished (document es)) → (n : ℕ) →
    Memᴰ n (listed q (document es)) ↔ Selected q sure-reading (document es) n
list_explicit q ok es fin n =
    let a = list_whole q (document es) fin n in
    let b = selected_explicit q ok sure-reading (document es) n in
    (λ m. b.0 (a.0 m), λ w. a.1 (b.1 w))

pub length_standings : (q : Query) (d : Doc) → length (standings q d) ≡ count d
unfolding standings
length_standings q d = length_standings_of (sure_possible q d) ∙ length_selections q sure-reading d

pub counts_add_up : (q : Query) (d : Doc) → count d ≡ length (listed q d) + length (ruled_out_nodes q d) + length (held q d)
unfolding listed ruled_out_nodes held
counts_add_up q d = sym (standings_add_up 1 (standings q d) ∙ length_standings q d)
