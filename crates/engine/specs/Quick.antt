-- The quick engine: lists of frames and waiting nodes over masks, touching no more of them than an event can change. Total on any state.
--
--   Frame              an open element: its name; the steps whose name test it passes (pass); the predicate steps that are surely met
--                      in its content so far (below); the steps it surely meets (met); whose turn it is in its content, in the sure
--                      reading (sure) and in the open reading (possible)
--   Waiting            a waiting node: its number, the level where it waits (the depth of its deepest open ancestor or self), its need
--   State              the open elements, outermost first; the waiting nodes, in document order; the nodes opened and handed out so
--                      far; whether the document element has been closed
--   Result             the next state and the nodes handed out
--   begun              the state before the first event
--   name_at, met_at, sure_at, possible_at     what the frames hold at a level; level 0 is the document
--   certain P fs w     w is selected in the sure reading: its need meets its level's turn, or it is given the last step itself
--   counted c ws       how many at the beginning of ws pass c
--   rise P a fs        a met anew inside the frames fs rises through them, until it is no news: which stay (kept), which have risen, and
--                      what is left of it for the level above (0 if some frame stays)
--   refresh P s fs     the frames fs with `sure` computed again, under s
--   went_if look P fs ws       how many nodes at the front of ws are certain, if they are looked for
--   Opening, opening P n s     what the opening of an element named n comes to: the frames, how many waiting nodes go out (went), whether
--                      all of them and the newcomer do (all), whether the newcomer waits if not (joins)
--   over limit s o     the opening o leaves more than limit nodes waiting
--   opens s o, quick_open P n s        the next state and what is handed out
--   cut level l xs     the end of xs that is at level l (from), and what stands before it
--   Closing, closing P s       what a close comes to: the frames, the nodes that still wait, how many of them go out
--   closes s c, quick_close P s        the next state and what is handed out
--   quick_act P e s     the event e
--
-- Assumes nothing. That this is the engine, on the states that the meaning prescribes (Quick.Of), is shown in Quick.Theorem;
-- what a session reads off such a state is in Quick.Reads.
pub mod Of
use Rattle.std.specs.Prelude.{ℕ, suc, pred, ◌+◌, ◌-◌, Bool, true, false, not, ◌&&◌, eqb, leb, ltb, length, get_or, take, drop}
use mathlib.Core.List.{List, [], ◌∷◌, ◌++◌, map, drop_last}
use Rattle.meaning.specs.Stream.{Event}
use Rattle.sets.specs.Set.{join, meet, without, overlaps}
use Rattle.engine.specs.Engine.{keep}
use Rattle.plan.specs.Plan.{Plan, named, meets, lift, turn, last_given, up}

pub record Frame : Type 0 where
  pub name : ℕ
  pub pass : ℕ
  pub below : ℕ
  pub met : ℕ
  pub sure : ℕ
  pub possible : ℕ

pub record Waiting : Type 0 where
  pub node : ℕ
  pub level : ℕ
  pub need : ℕ

pub record State : Type 0 where
  pub frames : List Frame
  pub queue : List Waiting
  pub opened : ℕ
  pub handed : ℕ
  pub ended : Bool

pub record Result : Type 0 where
  pub state : State
  pub out : List ℕ

unfoldable pub begun : State
begun = record { frames = []; queue = []; opened = 0; handed = 0; ended = false }

unfoldable pub name_at : List Frame → ℕ → ℕ
name_at fs l = get_or (0 ∷ map (λ f. f.name) fs) l 0

unfoldable pub met_at : List Frame → ℕ → ℕ
met_at fs l = get_or (0 ∷ map (λ f. f.met) fs) l 0

unfoldable pub sure_at : Plan → List Frame → ℕ → ℕ
sure_at P fs l = get_or (P.first ∷ map (λ f. f.sure) fs) l 0

unfoldable pub possible_at : Plan → List Frame → ℕ → ℕ
possible_at P fs l = get_or (P.first ∷ map (λ f. f.possible) fs) l 0

unfoldable pub certain_if : Bool → Plan → List Frame → ℕ → ℕ → Bool
certain_if true P fs l need = last_given (met_at fs l) (sure_at P fs (pred l))
certain_if false P fs l need = overlaps need (sure_at P fs l)

unfoldable pub certain : Plan → List Frame → Waiting → Bool
certain P fs w = certain_if (eqb w.need 0) P fs w.level w.need

unfoldable pub counted_if : Bool → ℕ → ℕ
counted_if true k = suc k
counted_if false k = 0

unfoldable pub counted : {A : Type 0} → (A → Bool) → List A → ℕ
counted c [] = 0
counted c (x ∷ xs) = counted_if (c x) (counted c xs)

-- open

pub record Rise : Type 0 where
  pub kept : List Frame
  pub risen : List Frame
  pub carry : ℕ

unfoldable pub raised : Plan → Frame → ℕ → Frame
raised P f new =
    record { name = f.name; pass = f.pass; below = new; met = meets P f.pass new; sure = f.sure; possible = f.possible }

unfoldable pub rise_if : Bool → Plan → Frame → ℕ → List Frame → Rise
rise_if true P f new risen = record { kept = f ∷ []; risen = risen; carry = 0 }
rise_if false P f new risen = record { kept = []; risen = raised P f new ∷ risen; carry = lift P (meets P f.pass new) new }

-- where a frame inside stays, nothing rises any further
unfoldable pub rise_at : Plan → Frame → List Frame → List Frame → ℕ → Rise
rise_at P f [] risen carry = rise_if (eqb (join f.below carry) f.below) P f (join f.below carry) risen
rise_at P f (k ∷ kept) risen carry = record { kept = f ∷ (k ∷ kept); risen = risen; carry = 0 }

unfoldable pub rise : Plan → ℕ → List Frame → Rise
rise P a [] = record { kept = []; risen = []; carry = a }
rise P a (f ∷ fs) = rise_at P f (rise P a fs).kept (rise P a fs).risen (rise P a fs).carry

unfoldable pub refreshed : Frame → ℕ → Frame
refreshed f s = record { name = f.name; pass = f.pass; below = f.below; met = f.met; sure = s; possible = f.possible }

unfoldable pub refresh : Plan → ℕ → List Frame → List Frame
refresh P s [] = []
refresh P s (f ∷ fs) = refreshed f (turn P f.met s) ∷ refresh P (turn P f.met s) fs

-- nothing is met yet in the new element: it meets the steps on which no predicate hangs
unfoldable pub fresh : Plan → ℕ → ℕ → Frame
fresh P n possible =
    record {
      name = n;
      pass = named P n;
      below = 0;
      met = meet (named P n) P.plain;
      sure = 0;
      possible = turn P (named P n) possible;
    }

-- `sure` is refreshed from the highest change on
unfoldable pub frames_after : Plan → ℕ → List Frame → Rise → List Frame
frames_after P n fs r =
    r.kept ++ refresh P (sure_at P r.kept (length r.kept)) (r.risen ++ (fresh P n (possible_at P fs (length fs)) ∷ []))

pub record Opening : Type 0 where
  pub frames : List Frame
  pub went : ℕ
  pub all : Bool
  pub joins : Bool

-- the queue is looked at only where something may have become certain at its front
unfoldable pub went_if : Bool → Plan → List Frame → List Waiting → ℕ
went_if true P fs ws = counted (certain P fs) ws
went_if false P fs ws = 0

unfoldable pub judged : Plan → ℕ → State → List Frame → ℕ → Opening
judged P n s fs went =
    record {
      frames = fs;
      went = went;
      all =
          eqb went (length s.queue) && last_given (meet (named P n) P.plain) (sure_at P fs (length s.frames));
      joins = last_given (named P n) (possible_at P s.frames (length s.frames));
    }

-- where nothing has risen no older node can have become certain
unfoldable pub opening_from : Plan → ℕ → State → Rise → Opening
opening_from P n s r =
    judged P n s (frames_after P n s.frames r)
    (went_if (ltb (length r.kept) (length s.frames)) P (frames_after P n s.frames r) s.queue)

-- the predicate steps that the new element meets rise
unfoldable pub opening : Plan → ℕ → State → Opening
opening P n s = opening_from P n s (rise P (without (meet (named P n) P.plain) P.main) s.frames)

-- "an open after which more than 1,024 nodes would be held"
unfoldable pub over : ℕ → State → Opening → Bool
over limit s o = not o.all && (o.joins && leb limit (length s.queue - o.went))

unfoldable pub newcomer : State → Waiting
newcomer s = record { node = suc s.opened; level = suc (length s.frames); need = 0 }

unfoldable pub queue_after : {A : Type 0} → Bool → Bool → List A → A → ℕ → List A
queue_after true joins ws w went = []
queue_after false true ws w went = drop went ws ++ (w ∷ [])
queue_after false false ws w went = drop went ws

unfoldable pub out_after : {A : Type 0} → Bool → List A → A → ℕ → List A
out_after true ws w went = ws ++ (w ∷ [])
out_after false ws w went = take went ws

unfoldable pub opens : State → Opening → Result
opens s o =
    record {
      state =
          record {
            frames = o.frames;
            queue = queue_after o.all o.joins s.queue (newcomer s) o.went;
            opened = suc s.opened;
            handed = s.handed + length (out_after o.all s.queue (newcomer s) o.went);
            ended = false;
          };
      out = map (λ w. w.node) (out_after o.all s.queue (newcomer s) o.went);
    }

unfoldable pub quick_open : Plan → ℕ → State → Result
quick_open P n s = opens s (opening P n s)

-- close

pub record Cut (A : Type 0) : Type 0 where
  pub before : List A
  pub from : List A

unfoldable pub cut_if : {A : Type 0} → Bool → A → List A → List A → Cut A
cut_if true x [] from = record { before = []; from = x ∷ from }
cut_if true x (y ∷ before) from = record { before = x ∷ (y ∷ before); from = from }
cut_if false x before from = record { before = x ∷ before; from = from }

unfoldable pub cut : {A : Type 0} → (A → ℕ) → ℕ → List A → Cut A
cut level l [] = record { before = []; from = [] }
cut level l (x ∷ xs) = cut_if (eqb (level x) l) x (cut level l xs).before (cut level l xs).from

unfoldable pub moved : Plan → ℕ → ℕ → Waiting → Waiting
moved P M l w = record { node = w.node; level = l; need = up P M w.need }

-- a node whose need meets no turn of the open reading is ruled out
unfoldable pub stay : Plan → ℕ → ℕ → ℕ → List Waiting → List Waiting
stay P M l possible ws = keep (λ w. overlaps w.need possible) (map (moved P M l) ws)

pub record Closing : Type 0 where
  pub frames : List Frame
  pub waiting : List Waiting
  pub went : ℕ

-- where none has left the queue its first node is undecided as before
unfoldable pub closing_from : Plan → List Frame → List Waiting → List Waiting → List Waiting → Closing
closing_from P fs before from stays =
    record {
      frames = fs;
      waiting = before ++ stays;
      went = went_if (ltb (length stays) (length from)) P fs (before ++ stays);
    }

unfoldable pub closing_at : Plan → State → ℕ → Cut Waiting → Closing
closing_at P s l c =
    closing_from P (drop_last s.frames) c.before c.from
    (stay P (met_at s.frames (length s.frames)) l (possible_at P s.frames l) c.from)

unfoldable pub closing : Plan → State → Closing
closing P s = closing_at P s (pred (length s.frames)) (cut (λ w. w.level) (length s.frames) s.queue)

unfoldable pub closes : State → Closing → Result
closes s c =
    record {
      state =
          record {
            frames = c.frames;
            queue = drop c.went c.waiting;
            opened = s.opened;
            handed = s.handed + length (take c.went c.waiting);
            ended = eqb (length c.frames) 0;
          };
      out = map (λ w. w.node) (take c.went c.waiting);
    }

unfoldable pub quick_close : Plan → State → Result
quick_close P s = closes s (closing P s)

unfoldable pub quick_act : Plan → Event → State → Result
quick_act P (Event.opens n) s = quick_open P n s
quick_act P (Event.closes n) s = quick_close P s
