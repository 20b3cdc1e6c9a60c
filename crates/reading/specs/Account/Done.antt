-- Where one of the rows that may come has come, the state behind them has its account.
--
--   reads_done, due_done, begun_done    what it is
--   reads_waiting, due_waiting, begun_waiting     the rows that may come spell something, and no two begin alike and end differently
--   move                                an account of the same text, put together otherwise
--
-- Assumes nothing.
use Rattle.std.specs.Prelude.{ℕ, ◌≡◌, refl, Bool, true, false, List, [], ◌∷◌, ◌++◌, T}
use Rattle.std.proofs.Common.{sym, ap, ◌∙◌, subst, append_assoc, append-nil}
use Rattle.std.proofs.Math.Option.{Option}
use Rattle.xml.specs.Class.{Rows, OneOf, word, words, waiting, all_apart, apart_from, apart, disjoint, out_of, disjoint_ranges, all_spelled, spelled}
use Rattle.xml.specs.Class.{some_byte, some_row, filled}
use Rattle.xml.proofs.Class.Laws.{one_word, word_waiting}
use Rattle.xml.specs.Chars.{quote}
use Rattle.xml.specs.Grammar.{Limits, Ev, Br, Part, version, encoding, standalone, part_values, Each, Eq, wide, reference, Remarked, comment, Run, Name}
use Rattle.xml.specs.Grammar.{name, Misc, decl, part, prolog}
use Rattle.xml.specs.Machine.{Place, State}
use Rattle.xml.specs.Unfinished.{Late, At, InDecl, before, inside, named}
use Rattle.reading.specs.Account.{plus, part_first, part_rest, name_parts, Refers, Reads, Due, Begun, After}
use Rattle.reading.specs.Account.Grows.{move_at, at_note, at_empty, at_refer, at_grow, value_char, value_ref, open_name, greater_late}

word_name : {L : Limits} {n : List ℕ} → Name L n → T (waiting (word n ∷ []))
word_name (name x y z) = word_waiting _ _

rest_waiting : (k : Part) → T (waiting (word (part_rest k) ∷ []))
rest_waiting version = word_waiting _ _
rest_waiting encoding = word_waiting _ _
rest_waiting standalone = word_waiting _ _

pub values_waiting : (k : Part) (q : Bool) → T (waiting (part_values k (quote q)))
unfolding all_apart apart_from apart disjoint out_of disjoint_ranges all_spelled spelled some_byte some_row filled word words part_values
values_waiting version true = tt
values_waiting version false = tt
values_waiting encoding true = tt
values_waiting encoding false = tt
values_waiting standalone true = tt
values_waiting standalone false = tt

module _ (L : Limits) where
  pub move : {t u : List ℕ} {es : List Ev} {k : State} → After L t es k → t ≡ u → After L u es k
  move {es = es} {k = k} h e = subst (λ z. After L z es k) e h

  -- one word may come
  worded : {es : List Ev} {k : State} (t v : List ℕ) → After L (t ++ v) es k → (w : List ℕ) → OneOf (word v ∷ []) w → After L (t ++ w) es k
  worded {es} {k} t v h w o = subst (λ z. After L (t ++ z) es k) (sym (one_word v o)) h

  pub reads_done : {t : List ℕ} {es : List Ev} {rs : Rows} {r : ℕ} {j k : State} → Reads L t es j rs r k → (w : List ℕ) → OneOf rs w → After L (t ++ w) es k
  reads_done (Reads.data' a) w o = After.at (at_grow L a (λ u r. Run.char r (wide o))) Late.inside
  reads_done (Reads.value v) w o = After.value (value_char L v (wide o))
  reads_done (Reads.note a r) w o = move (After.note a (Remarked.char r (wide o))) (simp append_assoc)
  reads_done (Reads.dash a r) w o = move (After.note a (Remarked.dashed r (wide o))) (simp append_assoc)
  reads_done (Reads.amper (Refers.data' a)) w o = move (After.at (at_refer L a (reference o)) Late.inside) (simp append_assoc)
  reads_done (Reads.amper (Refers.value v)) w o = move (After.value (value_ref L v (reference o))) (simp append_assoc)
  reads_done (Reads.bang {t = t} a) w o = worded (t ++ (60 ∷ 33 ∷ [])) (45 ∷ 45 ∷ []) (move (After.note a Remarked.none) (simp append_assoc)) w o

  valued :
      {o : Option Part} {k : Part} {t u w : List ℕ} (q : Bool)
      → InDecl o k t
      → Eq u
      → OneOf (part_values k (quote q)) w
      → After L ((t ++ (u ++ (quote q ∷ []))) ++ w) [] (State.told k)
  valued {k = k} q (named m d x f) e h = move (After.told m (part k q d x f e h)) (simp append_assoc)

  pub due_done :
      {t : List ℕ} {es fs : List Ev} {rs : Rows} {r : ℕ} {k : State} → Due L t es rs r fs k → (w : List ℕ) → OneOf rs w → After L (t ++ w) (plus es fs) k
  due_done Due.mark w o = worded (239 ∷ []) (187 ∷ 191 ∷ []) After.fresh w o
  due_done (Due.xml {t = t} m) w o = worded (t ++ (60 ∷ 63 ∷ [])) (120 ∷ 109 ∷ 108 ∷ []) (move (After.declared m) (simp append_assoc)) w o
  due_done (Due.note {p = p} {t = t} {u = u} a r) w o =
      let x : List ℕ = t ++ (60 ∷ 33 ∷ 45 ∷ 45 ∷ (u ++ (45 ∷ 45 ∷ []))) in
      worded x (62 ∷ []) (After.at (move_at L (at_note L a (comment r)) (simp append_assoc) refl) (greater_late p x)) w o
  due_done (Due.empty {t = t} {u = u} g e) w o =
      let x : List ℕ = t ++ (u ++ (47 ∷ [])) in
      worded x (62 ∷ []) (After.at (move_at L (at_empty L g e) (simp append_assoc) refl) (greater_late _ x)) w o
  due_done (Due.end {n = n} {t = t} a) w o = worded (t ++ (60 ∷ 47 ∷ [])) n (move (After.ending a) (simp append_assoc)) w o
  due_done (Due.told {t = t} {u = u} {v = v} m d e) w o =
      let x : List ℕ = t ++ (u ++ (v ++ (63 ∷ []))) in
      worded x (62 ∷ []) (After.at (move_at L (before (prolog m (decl d e) Misc.none)) (simp (append_assoc, append-nil)) refl) (greater_late _ x)) w o
  due_done (Due.name {k = k} {t = t} {u = u} {v = v} m d x f) w o =
      worded (t ++ (u ++ (v ++ (part_first k ∷ [])))) (part_rest k)
      (move (After.part_eq (named m d x f) Each.none) (ap (λ z. (t ++ (u ++ (v ++ z))) ++ []) (name_parts k) ∙ simp (append_assoc, append-nil))) w o
  due_done (Due.value q i e) w o = valued q i e o

  pub begun_done :
      {t w : List ℕ} {es fs : List Ev} {rs : Rows} {r : ℕ} {k : State} → Begun L t es w rs r fs k → (v : List ℕ) → OneOf rs v → After L (t ++ v) (plus es fs) k
  begun_done (Begun.due d) v o = due_done d v o
  begun_done (Begun.reads h) v o = reads_done h v o

  pub reads_waiting : {t : List ℕ} {es : List Ev} {rs : Rows} {r : ℕ} {j k : State} → Reads L t es j rs r k → T (waiting rs)
  unfolding all_apart apart_from apart disjoint out_of disjoint_ranges all_spelled spelled some_byte some_row filled word words
  reads_waiting (Reads.data' a) = tt
  reads_waiting (Reads.value v) = tt
  reads_waiting (Reads.note a r) = tt
  reads_waiting (Reads.dash a r) = tt
  reads_waiting (Reads.amper h) = tt
  reads_waiting (Reads.bang a) = tt

  end_waiting : {n t : List ℕ} {ns : List (List ℕ)} {k : Br} {es : List Ev} → At L (Place.inside n ns) k t es → T (waiting (word n ∷ []))
  end_waiting (inside o c) = word_name (open_name L o)

  pub due_waiting : {t : List ℕ} {es fs : List Ev} {rs : Rows} {r : ℕ} {k : State} → Due L t es rs r fs k → T (waiting rs)
  due_waiting Due.mark = word_waiting _ _
  due_waiting (Due.xml m) = word_waiting _ _
  due_waiting (Due.note a r) = word_waiting _ _
  due_waiting (Due.empty g e) = word_waiting _ _
  due_waiting (Due.end a) = end_waiting a
  due_waiting (Due.told m d e) = word_waiting _ _
  due_waiting (Due.name {k = k} m d x f) = rest_waiting k
  due_waiting (Due.value {k = k} q i e) = values_waiting k q

  pub begun_waiting : {t w : List ℕ} {es fs : List Ev} {rs : Rows} {r : ℕ} {k : State} → Begun L t es w rs r fs k → T (waiting rs)
  begun_waiting (Begun.due d) = due_waiting d
  begun_waiting (Begun.reads h) = reads_waiting h
