-- The events as a session takes them, with numbers for names.
--
--   Numbering f        f gives each name a number from 1 to 65,534
--   numbered f es      the events es with their names' numbers by f; a comment is an open and a close of 65,535
--   events r           the events that a text came to, refused or not
--
-- Assumes nothing. NOT here: which number a name has by a list of names, an event's bytes (crate meaning, Record).
use Rattle.std.specs.Prelude.{ℕ, ◌≤◌, List, [], ◌∷◌}
use Rattle.meaning.specs.Stream as stream
use Rattle.xml.specs.Bounds.{unknown_name, remark_name}
use Rattle.xml.specs.Grammar.{Ev, opens, closes, remark}
use Rattle.xml.specs.Machine.{Result, stopped, stands}

pub record Numbering (f : List ℕ → ℕ) : Type 0 where
  pub from : (n : List ℕ) → 1 ≤ f n
  pub to : (n : List ℕ) → f n ≤ unknown_name

unfoldable pub numbered : (List ℕ → ℕ) → List Ev → List stream.Event
numbered f [] = []
numbered f (opens n ∷ es) = stream.opens (f n) ∷ numbered f es
numbered f (closes n ∷ es) = stream.closes (f n) ∷ numbered f es
numbered f (remark ∷ es) = stream.opens remark_name ∷ stream.closes remark_name ∷ numbered f es

abbrev pub events : Result → List Ev
events (stopped es r t) = es
events (stands es k) = es
