-- The last line by the cases of the code.
--
--   query_line_is, finish_line_is, refused_line_is      what is put is the line that the answers ask for
--
-- Assumes nothing.
use Prim.Native.Nat.{ℕ, ◌+◌, ◌≤◌, ◌<◌}
use mathlib.Core.Path.{◌≡◌}
use mathlib.Core.List.{List}
use borrow.Author.Tests.{lt-ltb, le-ltb}
use Rattle.std.specs.Prelude.{Result}
use Rattle.io.specs.Counts.{IsPrefixLen}
use Rattle.lines.specs.Put.{Put}
use Rattle.lines.specs.Text.{refused_at_line}
use Rattle.session.specs.declared.StartFault.{StartFault}
use Rattle.session.specs.declared.Counts.{Counts}
use Rattle.closing.specs.Line.{query_line, finish_line, last_line}

module _ {l l' : List ℕ} {n : ℕ} where
  pub query_line_is :
      {a b : Result (Unit {0}) StartFault} → a ≡ b → Put l 0 (query_line b) l' n × IsPrefixLen n l' → Put l 0 (query_line a) l' n × IsPrefixLen n l'
  query_line_is e p = rw e p

  pub finish_line_is :
      {f g : Result Counts ℕ} (taken r : ℕ) → f ≡ g → r ≤ 0 → Put l 0 (finish_line g taken) l' n × IsPrefixLen n l' →
      Put l 0 (last_line f taken r) l' n × IsPrefixLen n l'
  finish_line_is taken r e h p = rw (le-ltb 0 r h, e) p

  pub refused_line_is :
      (f : Result Counts ℕ) (taken r : ℕ) → 0 < r → Put l 0 (refused_at_line r (taken + 1)) l' n × IsPrefixLen n l' →
      Put l 0 (last_line f taken r) l' n × IsPrefixLen n l'
  refused_line_is f taken r h p = rw (lt-ltb 0 r h) p
