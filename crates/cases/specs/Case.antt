-- What a case of the table is, and the words that its rows are written in.
--
--   Case           a query; a stream taken as accepted before (none: a fresh session); calls, each with its answer; and when nodes change their standing
--   holds c        the query and the stream before are well-formed, each call of c gets its answer and, for each (node, call, standing)
--                  of c's `becomes`, the node has that standing after that call of c and not after the call before
--   all_hold cs     every case of cs holds
--   same_nodes      two lists of nodes are equal
--   a' to r', book', section', table', cell', position', author'      the names of the documents
--   main_child, main_descendant, has_child, has_descendant     a step on the main path or in a predicate: the step it hangs on, and its name
--   enter n, leave n      the calls that open and close n, each with buffers just large enough
--   quiet k        the answers of k calls that hand out nothing;  gives ns: that of a call that hands out ns
--
-- Assumes nothing. NOT here: the rows (Cases).
use Rattle.std.specs.Prelude.{ℕ, pred, Bool, true, false, not, ◌&&◌, List, [], ◌∷◌, eqb, take, replicate}
use Rattle.meaning.specs.Query.{child, descendant, Step, Query, admits}
use Rattle.meaning.specs.Document.{blank}
use Rattle.meaning.specs.Standing.{Standing, certain, undecided, ruled_out, standing_of}
use Rattle.meaning.specs.Stream.{Event, fits, document, always}
use Rattle.meaning.specs.Answer.{enough, Call, event, Answer, refused, taken, ended, going, answers, after_all}

pub record Case : Type 0 where
  pub query : Query
  pub before : List Event
  pub calls : List Call
  pub replies : List Answer
  pub becomes : List (ℕ × ℕ × Standing)

-- the answers compared
unfoldable pub same_nodes : List ℕ → List ℕ → Bool
same_nodes [] [] = true
same_nodes [] (y ∷ ys) = false
same_nodes (x ∷ xs) [] = false
same_nodes (x ∷ xs) (y ∷ ys) = eqb x y && same_nodes xs ys

same : Answer → Answer → Bool
same (refused r) (refused s) = eqb r s
same (refused r) (taken ns) = false
same (refused r) (ended k h) = false
same (taken ms) (refused s) = false
same (taken ms) (taken ns) = same_nodes ms ns
same (taken ms) (ended k h) = false
same (ended k h) (refused s) = false
same (ended k h) (taken ns) = false
same (ended k h) (ended l j) = eqb k l && eqb h j

same_all : List Answer → List Answer → Bool
same_all [] [] = true
same_all [] (y ∷ ys) = false
same_all (x ∷ xs) [] = false
same_all (x ∷ xs) (y ∷ ys) = same x y && same_all xs ys

same_standing : Standing → Standing → Bool
same_standing certain certain = true
same_standing certain undecided = false
same_standing certain ruled_out = false
same_standing undecided certain = false
same_standing undecided undecided = true
same_standing undecided ruled_out = false
same_standing ruled_out certain = false
same_standing ruled_out undecided = false
same_standing ruled_out ruled_out = true

-- node n has the standing s after k calls
stands : Case → ℕ → ℕ → Standing → Bool
stands c n k s = same_standing (standing_of c.query (document (after_all c.query (going c.before) (take k c.calls)).events) n) s

become : Case → List (ℕ × ℕ × Standing) → Bool
become c [] = true
become c (x ∷ xs) = stands c x.0 x.1 x.2 && (not (stands c x.0 (pred x.1) x.2) && become c xs)

unfoldable pub holds : Case → Bool
unfolding same_nodes same same_all same_standing stands become
holds c =
    admits c.query
    && (always fits c.before blank
    && (same_all (answers c.query (going c.before) c.calls) c.replies && become c c.becomes))

unfoldable pub all_hold : List Case → Bool
all_hold [] = true
all_hold (c ∷ cs) = holds c && all_hold cs

-- the names of the cases, as numbers
abbrev pub a' : ℕ
a' = 1

abbrev pub b' : ℕ
b' = 2

abbrev pub c' : ℕ
c' = 3

abbrev pub d' : ℕ
d' = 4

abbrev pub r' : ℕ
r' = 5

abbrev pub book' : ℕ
book' = 6

abbrev pub section' : ℕ
section' = 7

abbrev pub table' : ℕ
table' = 8

abbrev pub cell' : ℕ
cell' = 9

abbrev pub position' : ℕ
position' = 10

abbrev pub author' : ℕ
author' = 11

-- the steps of the cases: what it hangs on, then its name
abbrev pub main_child : ℕ → ℕ → Step
main_child s n = record { axis = child; main = true; parent = s; name = n }

abbrev pub main_descendant : ℕ → ℕ → Step
main_descendant s n = record { axis = descendant; main = true; parent = s; name = n }

abbrev pub has_child : ℕ → ℕ → Step
has_child s n = record { axis = child; main = false; parent = s; name = n }

abbrev pub has_descendant : ℕ → ℕ → Step
has_descendant s n = record { axis = descendant; main = false; parent = s; name = n }

-- the calls of the cases, each with buffers just large enough
abbrev pub enter : ℕ → Call
enter n = event (1 ∷ 0 ∷ 0 ∷ n ∷ 0 ∷ 0 ∷ 0 ∷ 0 ∷ []) enough

abbrev pub leave : ℕ → Call
leave n = event (2 ∷ 0 ∷ 0 ∷ n ∷ 0 ∷ 0 ∷ 0 ∷ 0 ∷ []) enough

-- k calls that hand out nothing
abbrev pub quiet : ℕ → List Answer
quiet k = replicate k (taken [])

abbrev pub gives : List ℕ → Answer
gives = taken
