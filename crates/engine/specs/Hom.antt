-- Sets in another coat.
--
--   Coat               how sets, what is below, readys and needs are turned
--   frame_in, place_in, waiting_in, state_in, result_in     the same of what the engine keeps
--   Hom O P k          k turns each operation of O into that of P
--
-- Assumes nothing. What is shown of them is in proofs/Hom.
use Rattle.std.specs.Prelude.{◌≡◌}
use mathlib.Core.List.{map}
use Rattle.meaning.specs.Document.{Node}
use Rattle.engine.specs.Engine.{Ops, Frame, Place, Waiting, State, Result}

pub record Coat (S B R N S' B' R' N' : Type 0) : Type 0 where
  pub set : S → S'
  pub below : B → B'
  pub ready : R → R'
  pub need : N → N'

module _ {S B R N S' B' R' N' : Type 0} (k : Coat S B R N S' B' R' N') where
  abbrev pub frame_in : Frame B R → Frame B' R'
  frame_in f = record { node = f.node; below = k.below f.below; sure = k.ready f.sure; possible = k.ready f.possible }

  abbrev pub place_in : Place N → Place N'
  place_in x = record { level = x.level; need = k.need x.need }

  abbrev pub waiting_in : Waiting N → Waiting N'
  waiting_in w = record { number = w.number; place = place_in w.place }

  abbrev pub state_in : State B R N → State B' R' N'
  state_in s = record { frames = map frame_in s.frames; queue = map waiting_in s.queue; opened = s.opened }

  abbrev pub result_in : Result B R N → Result B' R' N'
  result_in r = record { state = state_in r.state; out = r.out }

pub record Hom {S B R N S' B' R' N' : Type 0} (O : Ops S B R N) (P : Ops S' B' R' N') (k : Coat S B R N S' B' R' N') : Type 0 where
  pub none : k.set O.none ≡ P.none
  pub empty : k.below O.empty ≡ P.empty
  pub join : (a b : B) → k.below (O.join a b) ≡ P.join (k.below a) (k.below b)
  pub lift : (M : S) (a : B) → k.below (O.lift M a) ≡ P.lift (k.set M) (k.below a)
  pub named : (x : Node) → k.set (O.named x) ≡ P.named x
  pub meets : (x : Node) (a : B) → k.set (O.meets x a) ≡ P.meets x (k.below a)
  pub turn : (M : S) (r : R) → k.ready (O.turn M r) ≡ P.turn (k.set M) (k.ready r)
  pub start : k.ready O.start ≡ P.start
  pub value : (r : R) (n : N) → O.value r n ≡ P.value (k.ready r) (k.need n)
  pub up : (M : S) (n : N) → k.need (O.up M n) ≡ P.up (k.set M) (k.need n)
  pub itself : k.need O.itself ≡ P.itself
