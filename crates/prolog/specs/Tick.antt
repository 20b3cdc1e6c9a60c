-- One byte in a mode of the prolog, mode by mode.
--
--   prolog_tick m M r b      the reader after the byte b;  in_mode: by the mode that was found
--
-- M are the marks of the bytes. Assumes nothing.
use Rattle.std.specs.Prelude.{ℕ, ◌≡◌, List}
use Rattle.std.proofs.Common.{sym, ap, ◌∙◌}
use Rattle.modes.specs.declared.Mode.TheVariants as mode
use Rattle.modes.specs.declared.Prolog.{Prolog}
use Rattle.modes.specs.declared.Prolog.TheVariants as prolog
use Rattle.modes.specs.declared.Reader.{Reader}
use Rattle.prolog.specs.Around.{around, start_tick, mark_tick, xml_tick, declared_tick, query_tick}
use Rattle.prolog.specs.Told.{piece_tick, told_tick, part_tick, part_equals_tick, part_value_tick, quoted_tick}

unfoldable pub prolog_tick : Prolog → List ℕ → Reader → ℕ → Reader
prolog_tick prolog.Start M r b = start_tick M r b
prolog_tick prolog.Mark M r b = mark_tick r b
prolog_tick prolog.Fresh M r b = around M r b mode.First
prolog_tick prolog.Xml M r b = xml_tick r b
prolog_tick prolog.Declared M r b = declared_tick M r b
prolog_tick prolog.Piece M r b = piece_tick M r b
prolog_tick prolog.Part M r b = part_tick r b
prolog_tick prolog.PartEquals M r b = part_equals_tick M r b
prolog_tick prolog.PartValue M r b = part_value_tick M r b
prolog_tick prolog.PartDouble M r b = quoted_tick r b 34
prolog_tick prolog.PartSingle M r b = quoted_tick r b 39
prolog_tick prolog.Told M r b = told_tick M r b
prolog_tick prolog.Query M r b = query_tick r b

-- what is found in a mode that is known
pub in_mode : {m k : Prolog} (M : List ℕ) (r : Reader) (b : ℕ) {x : Reader} → m ≡ k → x ≡ prolog_tick k M r b → x ≡ prolog_tick m M r b
in_mode M r b e h = h ∙ ap (λ z. prolog_tick z M r b) (sym e)
