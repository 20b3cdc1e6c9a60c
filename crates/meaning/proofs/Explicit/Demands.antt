-- Demand 3 with explicit nodes, so that no reader need trust the recursion of Selection or that of Standing.
--
--   SelectedBy q es fs n     in the finished document of es ++ fs the main-path steps can be given nodes, the last being n
--   SelectedByAll q es n     every continuation of the stream es to a finished document selects node n
--   SelectedBySome, SelectedByNone, MissedBySome    some does; none does; some does not
--   Undecided q es n         n is opened, some continuation selects it and some does not
--   ListedBy q es n          n is opened, every continuation selects it, and no undecided node stands before it
--   HeldBy q es n            n is opened, some continuation selects it, and it or an earlier node is undecided
--   listed_exactly           n is listed exactly if ListedBy
--   held_exactly             n is held exactly if HeldBy
--   ruled_out_exactly        n is among the nodes ruled out exactly if it is opened and no continuation selects it
--   neither_exactly          an opened node is neither listed nor held exactly if no continuation selects it
--
-- Assumes `T (admits q)`, the query rules, and `Stream es`. The same words over the computed selection are in Demands.
use Rattle.std.specs.Prelude.{ℕ, ◌↔◌, T}
use mathlib.Core.List.{List, ◌++◌, Memᴰ}
use Rattle.meaning.specs.Query.{Query, admits}
use Rattle.meaning.specs.Selection.{sure-reading}
use Rattle.meaning.specs.Stream.{Event, document, Stream}
use Rattle.meaning.specs.Continuation as computed
use Rattle.meaning.specs.Continuation.{Opened}
use Rattle.meaning.specs.Standing.{listed, held, ruled_out_nodes}
use Rattle.meaning.specs.Demands as demands
use Rattle.meaning.proofs.Demands as shown
use Rattle.meaning.proofs.Explicit.Ways.{selected_explicit}
use Rattle.meaning.specs.Explicit.Demands.{SelectedBy, SelectedBySome, SelectedByNone, Undecided, ListedBy, HeldBy}

module _ (q : Query) (ok : T (admits q)) (es : List Event) (stream : Stream es) where
  explicit : (fs : List Event) (n : ℕ) → computed.SelectedBy q es fs n ↔ SelectedBy q es fs n
  explicit fs n = selected_explicit q ok sure-reading (document (es ++ fs)) n

  some_explicit : (n : ℕ) → demands.SelectedBySome q es n ↔ SelectedBySome q es n
  some_explicit n = (λ x. (x.0, x.1, (explicit x.0 n).0 x.2), λ x. (x.0, x.1, (explicit x.0 n).1 x.2))

  none_explicit : (n : ℕ) → demands.SelectedByNone q es n ↔ SelectedByNone q es n
  none_explicit n = (λ f fs x u. f fs x ((explicit fs n).1 u), λ f fs x u. f fs x ((explicit fs n).0 u))

  undecided_explicit : (n : ℕ) → demands.Undecided q es n ↔ Undecided q es n
  undecided_explicit n = (
    λ u.
        record {
          opened = u.opened;
          some = (some_explicit n).0 u.some;
          missed = (u.missed.0, u.missed.1, λ x. u.missed.2 ((explicit u.missed.0 n).1 x));
        },
    λ u.
        record {
          opened = u.opened;
          some = (some_explicit n).1 u.some;
          missed = (u.missed.0, u.missed.1, λ x. u.missed.2 ((explicit u.missed.0 n).0 x));
        },
  )

  pub listed_exactly : (n : ℕ) → Memᴰ n (listed q (document es)) ↔ ListedBy q es n
  listed_exactly n =
      let e = shown.listed_exactly q ok es stream n in (
        λ x.
            let l = e.0 x in
            record { opened = l.opened; all = λ fs f. (explicit fs n).0 (l.all fs f); clear = λ m u. l.clear m ((undecided_explicit m).1 u) },
        λ l.
            e.1
            (record { opened = l.opened; all = λ fs f. (explicit fs n).1 (l.all fs f); clear = λ m u. l.clear m ((undecided_explicit m).0 u) }),
      )

  pub held_exactly : (n : ℕ) → Memᴰ n (held q (document es)) ↔ HeldBy q es n
  held_exactly n =
      let e = shown.held_exactly q ok es stream n in (
        λ x.
            let h = e.0 x in
            record {
              opened = h.opened;
              some = (some_explicit n).0 h.some;
              cause = h.cause;
              before = h.before;
              undecided_cause = (undecided_explicit h.cause).0 h.undecided_cause;
            },
        λ h.
            e.1
            (record {
              opened = h.opened;
              some = (some_explicit n).1 h.some;
              cause = h.cause;
              before = h.before;
              undecided_cause = (undecided_explicit h.cause).1 h.undecided_cause;
            }),
      )

  pub ruled_out_exactly : (n : ℕ) → Memᴰ n (ruled_out_nodes q (document es)) ↔ (Opened (document es) n × SelectedByNone q es n)
  ruled_out_exactly n =
      let e = shown.ruled_out_list_exactly q ok es stream n in
      (λ x. ((e.0 x).0, (none_explicit n).0 (e.0 x).1), λ x. e.1 (x.0, (none_explicit n).1 x.1))

  pub neither_exactly :
      (n : ℕ) → Opened (document es) n →
      ((Memᴰ n (listed q (document es)) → ⊥) × (Memᴰ n (held q (document es)) → ⊥)) ↔ SelectedByNone q es n
  neither_exactly n o =
      let e = shown.neither_exactly q ok es stream n o in (λ x. (none_explicit n).0 (e.0 x), λ f. e.1 ((none_explicit n).1 f))
