-- The two readings in the words of continuations.
--
--   Opened d n               n is the number of a node of d
--   SelectedBy q es fs n     the continuation fs of the stream es selects node n in the finished document
--   certain_every            selected in the sure reading, exactly if every continuation to a finished document selects it
--   closing                  the continuation that closes every open element now: what it selects is the sure reading
--   possible_some            selected in the open reading, exactly if some continuation selects it
--
-- A continuation is any list of events that finishes the stream: it knows no limit of depth, room or node count.
-- Assumes that es is a well-formed stream and, where one continuation must be built, that the query is admitted.
use Rattle.std.specs.Prelude.{ℕ, ◌≤◌, ◌↔◌, ◌≡◌, false, List, ◌∷◌, ◌++◌, length}
use Rattle.std.proofs.Common.{arith, sym, ◌∙◌}
use Rattle.std.proofs.Math.Path.{ap, subst}
use Rattle.std.proofs.Math.Dec.{T}
use Rattle.std.proofs.Math.ListN.{get_or}
use Rattle.meaning.specs.Logic.{Imp, Pmi, imp, pmi, Pre, p_cons, pre_imp_at, pre_pmi_at, both_pre}
use Rattle.meaning.specs.Query.{Query, admits}
use Rattle.meaning.specs.Document.{Row, nil, Doc, done, blank, count, finished}
use Rattle.meaning.specs.Selection.{Reading, sure-reading, open-reading, selections, selected}
use Rattle.meaning.proofs.Selection.Laws.{sure_possible, length_selections}
use Rattle.meaning.specs.Stream.{Event, fits, run, document, Stream, Finishes}
use Rattle.meaning.proofs.Stream.Laws.{document_append, always_append, sure_run, possible_run, Leads}
use Rattle.meaning.specs.Completion.{named_row, complete, rest}
use Rattle.meaning.proofs.Completion.Laws.{rest_leads, complete_finished, sure_complete, possible_complete}
use Rattle.meaning.proofs.Witness.{witnesses, witnesses_serve, witnesses_named}
use Rattle.meaning.specs.Continuation.{Opened, SelectedBy}

-- selections in two lists, node by node
selected_imp :
    (q : Query) (v v' : Reading) (d d' : Doc) → Pre Imp (selections q v d) (selections q v' d') → (n : ℕ) →
    T (selected q v d n) → T (selected q v' d' n)
unfolding selected
selected_imp q v v' d d' p n t = pre_imp_at (p_cons (imp.same false) p) n t

selected_pmi :
    (q : Query) (v v' : Reading) (d d' : Doc) → Pre Pmi (selections q v d) (selections q v' d') → (n : ℕ) → n ≤ count d →
    T (selected q v' d' n) → T (selected q v d n)
unfolding selected
selected_pmi q v v' d d' p n h t =
    pre_pmi_at (p_cons (pmi.same false) p) n (let e : length (selections q v d) ≡ count d = length_selections q v d in omega arith) t

-- the continuation that adds w to each open element
module _ (es : List Event) (stream : Stream es) (w : Row) (names : T (named_row w)) where
  leads : Leads fits (rest w (document es)) (document es) (done (complete w (document es)))
  leads = rest_leads w names (document es)

  pub completed : document (es ++ rest w (document es)) ≡ done (complete w (document es))
  completed = document_append es (rest w (document es)) ∙ leads.to

  pub finishes : 1 ≤ count (document es) → Finishes es (rest w (document es))
  finishes h =
      record {
        stream = always_append fits es (rest w (document es)) blank stream (unfold document in leads.fit);
        whole = subst (λ d. T (finished d)) (sym completed) (complete_finished w (document es) h);
      }

module _ (q : Query) (es : List Event) (stream : Stream es) (n : ℕ) (opened : Opened (document es) n) where
  begun : 1 ≤ count (document es)
  begun = omega (arith, opened.from, opened.to)

  -- closing everything now is one continuation
  pub closing : List Event
  closing = rest nil (document es)

  pub closing_finishes : Finishes es closing
  unfolding closing
  closing_finishes = finishes es stream nil (unfold named_row in tt) begun

  pub closing_selects : selected q sure-reading (document (es ++ closing)) n ≡ selected q sure-reading (document es) n
  unfolding closing selected
  closing_selects =
      ap (λ l. get_or (false ∷ l) n false)
      (ap (selections q sure-reading) (completed es stream nil (unfold named_row in tt)) ∙ sure_complete q (document es))

  pub certain_every :
      T (selected q sure-reading (document es) n) ↔ ((fs : List Event) → Finishes es fs → SelectedBy q es fs n)
  certain_every = (
    λ t fs x. subst (λ d. T (selected q sure-reading d n)) (sym (document_append es fs))
        (selected_imp q sure-reading sure-reading (document es) (run fs (document es)) (sure_run q fs (document es)) n t),
    λ h. subst T closing_selects (h closing closing_finishes),
  )

  pub possible_some :
      T (admits q) →
      T (selected q open-reading (document es) n) ↔ ((fs : List Event) × Finishes es fs × SelectedBy q es fs n)
  possible_some ok = (
    λ t. (
      rest (witnesses q) (document es),
      finishes es stream (witnesses q) (witnesses_named q ok) begun,
      subst (λ d. T (selected q sure-reading d n)) (sym (completed es stream (witnesses q) (witnesses_named q ok)))
          (selected_imp q open-reading sure-reading (document es) _ (possible_complete q (witnesses q) (witnesses_serve q ok) (document es)) n t),
    ),
    λ x.
        selected_pmi q open-reading open-reading (document es) (run x.0 (document es)) (possible_run q x.0 (document es)) n opened.to
        (selected_imp q sure-reading open-reading _ _ (both_pre (sure_possible q (run x.0 (document es)))) n
        (subst (λ d. T (selected q sure-reading d n)) (document_append es x.0) x.2)),
  )
