-- `link` puts one place a turn into its chain. The invariant is Linking.Chaining.
-- Assumes nothing.
use native.Mathlib.Omega.{arith}
use mathlib.Core.Path.{◌≡◌, refl, ap, ◌∙◌}
use lib.ListN.{length-set}
use Rattle.listed.specs.Lines.{lines_of}
use Rattle.chains.specs.Index.{partly, built}
use Rattle.chains.proofs.Linking.{bucket_within, turn}
use Rattle.chains.proofs.link.Goals as goal

pub loop-place-init : goal.loop-place-init
loop-place-init c =
    let given = c.requires in
    record { long = refl; most = omega (arith, given.all); words = given.places }

pub loop-place-preserved : goal.loop-place-preserved
loop-place-preserved c =
    turn c.requires.ready c.loop-place.invariant (omega arith) c.bucket_at-bucket.ensures

pub returns : goal.returns
unfolding built
returns c =
    let none : c.loop-place.place ≡ 0 = omega arith in
    c.loop-place.invariant.words ∙ ap (λ n. partly (lines_of c.args.names.now) n c.args.index.now) none

pub bounds-index-bucket-in-loop-place : goal.bounds-index-bucket-in-loop-place
bounds-index-bucket-in-loop-place c =
    simp length-set (bucket_within c.requires.ready c.loop-place.invariant (omega arith) c.bucket_at-bucket.ensures)
