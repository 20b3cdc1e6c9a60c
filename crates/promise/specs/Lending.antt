-- What is asked of the room that an event is lent, and which room the session has after it.
--
--   SameUsed l E N            the room E and N has the records in use as the room of l has them; the rest is anything
--   left_by l E N s E' N'      the session s and its room after an event that was lent E and N and left E' and N': room that is too small is not touched, so
--                             the records stay where they were
--
-- The records in use are the first ones, as many as elements are open and nodes held. Assumes nothing.
use Rattle.std.specs.Prelude.{ℕ, ◌*◌, ◌≡◌, List, length, take}
use Rattle.choice.specs.When.{when}
use Rattle.meaning.specs.Limits.{element_record, waiting_record}
use Rattle.meaning.specs.Answer.{too_small}
use Rattle.session.specs.declared.Session.{Session}
use Rattle.session.specs.Run.{Housed, housed}

pub record SameUsed (l : Housed) (E N : List ℕ) : Type 0 where
  pub elements : take (element_record * l.session.depth) E ≡ take (element_record * l.session.depth) l.elements
  pub nodes : take (waiting_record * l.session.held) N ≡ take (waiting_record * l.session.held) l.nodes

unfoldable pub left_by : Housed → List ℕ → List ℕ → Session → List ℕ → List ℕ → Housed
left_by l E N s E' N' = when (too_small (length E) (length N)) (housed s l.elements l.nodes) (housed s E' N')
