-- Streams put together, and the readings along a stream.
--
--   run_append, always_append     a stream and its continuation
--   sure_run, possible_run        certain stays certain, ruled out stays ruled out
--   Leads ok es d d'              es, each ok as it comes, lead from d to d'
--
-- Assumes nothing.
use Rattle.std.specs.Prelude.{◌≡◌, Bool, T}
use Rattle.std.proofs.Math.Path.{refl}
use Rattle.std.proofs.Common.{sym, ap, ◌∙◌, subst}
use Rattle.std.proofs.Math.Bool.{true}
use mathlib.Core.List.{List, [], ◌∷◌, ◌++◌}
use Rattle.meaning.specs.Logic.{and_l, and_r, and_i, Imp, Pmi, imp, pmi, Pre, both_pre, pre_same, pre_imp_trans, pre_pmi_trans}
use Rattle.meaning.specs.Query.{Query}
use Rattle.meaning.specs.Document.{Doc, blank}
use Rattle.meaning.specs.Selection.{sure-reading, open-reading, selections}
use Rattle.meaning.proofs.Selection.Laws.{sure_open, sure_close, possible_open, possible_close}
use Rattle.meaning.specs.Stream.{Event, opens, closes, act, run, document, always}

pub run_append : (es fs : List Event) (d : Doc) → run (es ++ fs) d ≡ run fs (run es d)
unfolding run
run_append [] fs d = refl
run_append (e ∷ es) fs d = run_append es fs (act e d)

pub document_append : (es fs : List Event) → document (es ++ fs) ≡ run fs (document es)
unfolding document
document_append es fs = run_append es fs blank

module _ (ok : Event → Doc → Bool) where
  pub always_append : (es fs : List Event) (d : Doc) → T (always ok es d) → T (always ok fs (run es d)) → T (always ok (es ++ fs) d)
  unfolding always run
  always_append [] fs d t u = u
  always_append (e ∷ es) fs d t u =
      and_i (ok e d) _ (and_l (ok e d) _ t) (always_append es fs (act e d) (and_r (ok e d) _ t) u)

  pub record Leads (es : List Event) (d d' : Doc) : Type 0 where
    pub fit : T (always ok es d)
    pub to : run es d ≡ d'

  pub leads_none : (d : Doc) → Leads [] d d
  unfolding always run
  leads_none d = record { fit = tt; to = refl }

  pub leads_one : (e : Event) (d : Doc) → T (ok e d) → Leads (e ∷ []) d (act e d)
  unfolding always run
  leads_one e d t = record { fit = and_i (ok e d) true t tt; to = refl }

  pub leads_append : {d d' d'' : Doc} (es fs : List Event) → Leads es d d' → Leads fs d' d'' → Leads (es ++ fs) d d''
  leads_append {d} es fs x y =
      record {
        fit = always_append es fs d x.fit (subst (λ z. T (always ok fs z)) (sym x.to) y.fit);
        to = run_append es fs d ∙ ap (run fs) x.to ∙ y.to;
      }

-- certain stays certain
sure_act : (q : Query) (e : Event) (d : Doc) → Pre Imp (selections q sure-reading d) (selections q sure-reading (act e d))
unfolding act
sure_act q (opens n) d = sure_open q _ d
sure_act q (closes n) d = both_pre (sure_close q d)

pub sure_run : (q : Query) (es : List Event) (d : Doc) → Pre Imp (selections q sure-reading d) (selections q sure-reading (run es d))
unfolding run
sure_run q [] d = pre_same imp _
sure_run q (e ∷ es) d = pre_imp_trans (sure_act q e d) (sure_run q es (act e d))

-- ruled out stays ruled out
possible_act : (q : Query) (e : Event) (d : Doc) → Pre Pmi (selections q open-reading d) (selections q open-reading (act e d))
unfolding act
possible_act q (opens n) d = possible_open q _ d
possible_act q (closes n) d = both_pre (possible_close q d)

pub possible_run : (q : Query) (es : List Event) (d : Doc) → Pre Pmi (selections q open-reading d) (selections q open-reading (run es d))
unfolding run
possible_run q [] d = pre_same pmi _
possible_run q (e ∷ es) d = pre_pmi_trans (possible_act q e d) (possible_run q es (act e d))
