-- The reader accepts exactly the grammar, with the grammar's events.
--
--   accepts_exactly     a text is accepted with es exactly if it is a document with the events es
--   one_reading         a text has at most one list of events
--
-- Assumes nothing.
use Rattle.std.specs.Prelude.{ℕ, ◌≡◌, ◌↔◌, List}
use Rattle.std.proofs.Common.{sym, ◌∙◌}
use Rattle.xml.specs.Grammar.{Limits, Ev, b0, Document}
use Rattle.xml.specs.Machine.{Place, State, stands, run}
use Rattle.reading.specs.Account.Sound.{accepted_document}
use Rattle.reading.specs.Leads.Whole.{document_accepted}

module _ (L : Limits) where
  pub accepts_exactly : (t : List ℕ) (es : List Ev) → (run L t State.start ≡ stands es (State.at Place.after b0)) ↔ Document L t es
  accepts_exactly t es = (accepted_document L t es, document_accepted L t es)

  pub one_reading : (t : List ℕ) (es fs : List Ev) → Document L t es → Document L t fs → es ≡ fs
  one_reading t es fs d e =
      let p : stands es (State.at Place.after b0) ≡ stands fs (State.at Place.after b0) = sym (document_accepted L t es d) ∙ document_accepted L t fs e in
      cc
