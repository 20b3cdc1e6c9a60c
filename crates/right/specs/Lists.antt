-- The records of the waiting nodes after some have been handed out, and after one more has joined.
--
--   rest_length          how many are left of `held` nodes where the first k leave
--   shifted_list         those stand at the front, and behind them all is as it was
--   shifted_took         they are in use then;  shifted_length: as many records as before
--   joined_list          one more, behind them;  joined_took, joined_length: those in use, and as many as before
--
-- Assumes nothing.
use Rattle.std.specs.Prelude.{ℕ, suc, ◌+◌, ◌-◌, ◌≤◌, ◌<◌, ◌≡◌, List, [], ◌∷◌, ◌++◌, length, take}
use Rattle.std.proofs.Common.{zero-add, arith, sym, ◌∙◌, append_assoc, length-append, length-drop, drop-cons, take_at, length-take-le}
use Rattle.std.proofs.Math.Path.{ap}
use Rattle.std.proofs.Math.ListN.{set, drop, length-set}
use Rattle.std.proofs.Math.Seq.{set_at}
use Rattle.engine.specs.Quick.{Waiting}
use Rattle.node.specs.Node.{Queue, no_node, wrote_in}
use Rattle.nodes.specs.Nodes.{shifted}

module _ (N : Queue) (k held : ℕ) (fits : held ≤ length N.list) (few : k ≤ held) where
  abbrev rest : List Waiting
  rest = drop k (take held N.list)

  pub rest_length : length rest ≡ held - k
  rest_length = length-drop k (take held N.list) ∙ ap (λ n. n - k) (length-take-le held N.list fits)

  pub shifted_list : (shifted k held 0 N).list ≡ rest ++ drop (held - k) N.list
  unfolding shifted
  shifted_list = ap (λ j. drop j (take held N.list) ++ drop (held - k) N.list) (zero-add k)

  pub shifted_took : take (held - k) (shifted k held 0 N).list ≡ rest
  shifted_took = ap (take (held - k)) shifted_list ∙ take_at rest (drop (held - k) N.list) (held - k) rest_length

  pub shifted_length : length (shifted k held 0 N).list ≡ length N.list
  shifted_length =
      ap length shifted_list ∙ length-append rest (drop (held - k) N.list) ∙ omega (arith, rest_length, length-drop (held - k) N.list)

  module _ (node level : ℕ) where
    abbrev new : Waiting
    new = record { node = node; level = level; need = 0 }

    pub joined_length : length (wrote_in (held - k) node level 0 (shifted k held 0 N)).list ≡ length N.list
    unfolding wrote_in
    joined_length = length-set (shifted k held 0 N).list (held - k) new ∙ shifted_length

    module _ (room : held - k < length N.list) where
      pub joined_list : (wrote_in (held - k) node level 0 (shifted k held 0 N)).list ≡ rest ++ (new ∷ drop (suc (held - k)) N.list)
      unfolding wrote_in
      joined_list =
          ap (λ l. set l (held - k) new) (shifted_list ∙ ap (λ l. rest ++ l) (drop-cons N.list (held - k) no_node room))
          ∙ set_at rest _ (drop (suc (held - k)) N.list) new (held - k) rest_length

      pub joined_took : take (held - k + 1) (wrote_in (held - k) node level 0 (shifted k held 0 N)).list ≡ rest ++ (new ∷ [])
      joined_took =
          ap (take (held - k + 1)) (joined_list ∙ sym (append_assoc rest (new ∷ []) (drop (suc (held - k)) N.list)))
          ∙ take_at (rest ++ (new ∷ [])) (drop (suc (held - k)) N.list) (held - k + 1)
          (length-append rest (new ∷ []) ∙ ap (λ m. m + 1) rest_length)
