-- `fill` takes the three steps of Filling. Assumes nothing.
use Rattle.std.proofs.Common.{rules}
use mathlib.Core.Path.{◌∙◌}
use Rattle.chains.proofs.Filling.{filled_places, filled_whole}
use Rattle.chains.proofs.fill.Goals as goal

pub returns : goal.returns
returns c =
    let linking = c.link in
    let laying = c.lay-count in
    let clearing = c.clear in
    linking.ensures ∙ filled_whole _ _ _ _ clearing.ensures laying.ensures.index_after

pub link-requires : goal.link-requires
link-requires c =
    let laying = c.lay-count in
    let clearing = c.clear in
    record {
      ready = search rules;
      all = laying.ensures.value;
      places = filled_places _ _ _ _ clearing.ensures laying.ensures.index_after _ laying.ensures.value;
    }
