-- The reader's moves.
--
--   after_place             the place after the document element
--   open_at p               how many elements are open at the place p: so, too, the slot of the one that was just closed
--   go_to r m               on in the mode m;  stay_in r m: with nothing else changed
--   stop_with r n           stopped by the refusal with the number n, where it stands;  refuse_with r x: by the refusal x
--   spell_on r m row n      on in a spelling, n bytes of which were read
--   go_aside r m n k        on in the mode m, to come back to k
--   give_out r g m p        events are given, and the reader is at the place p
--   count_to r m k          the count is k
--   refused_test o          the number of a refusal is 0 exactly where there is none
--
-- Assumes nothing.
pub mod Laws
use Rattle.std.specs.Prelude.{ℕ, ◌≡◌, refl, not, eqb, Option, Some, None, is_some}
use Rattle.std.proofs.Common.{arith, ne_eqb}
use Rattle.choice.specs.When.{when}
use Rattle.limits.specs.declared.TextRefusal.{TextRefusal}
use Rattle.limits.specs.Number.{text_number, text_of}
use Rattle.limits.specs.Number.Laws.{some_text}
use Rattle.modes.specs.declared.Mode.{Mode}
use Rattle.modes.specs.declared.Gives.{Gives}
use Rattle.modes.specs.declared.Gives.TheVariants.{Nothing}
use Rattle.modes.specs.declared.Reader.{Reader}

abbrev pub after_place : ℕ
after_place = 65_535

unfoldable pub open_at : ℕ → ℕ
open_at p = when (eqb p after_place) 0 p

abbrev pub go_to : Reader → Mode → Reader
go_to r m = record { mode = m; back = r.back; n = 0; row = r.row; count = r.count; gives = Nothing; refusal = 0; place = r.place }

abbrev pub stay_in : Reader → Mode → Reader
stay_in r m = record { mode = m; back = r.back; n = r.n; row = r.row; count = r.count; gives = Nothing; refusal = 0; place = r.place }

abbrev pub stop_with : Reader → ℕ → Reader
stop_with r x =
    record { mode = r.mode; back = r.back; n = r.n; row = r.row; count = r.count; gives = Nothing; refusal = x; place = r.place }

abbrev pub refuse_with : Reader → TextRefusal → Reader
refuse_with r x = stop_with r (text_number x)

abbrev pub spell_on : Reader → Mode → ℕ → ℕ → Reader
spell_on r m row n = record { mode = m; back = r.back; n = n; row = row; count = r.count; gives = Nothing; refusal = 0; place = r.place }

abbrev pub go_aside : Reader → Mode → ℕ → Mode → Reader
go_aside r m n k = record { mode = m; back = k; n = n; row = 0; count = r.count; gives = Nothing; refusal = 0; place = r.place }

abbrev pub give_out : Reader → Gives → Mode → ℕ → Reader
give_out r g m p = record { mode = m; back = r.back; n = 0; row = r.row; count = 0; gives = g; refusal = 0; place = p }

abbrev pub count_to : Reader → Mode → ℕ → Reader
count_to r m k = record { mode = m; back = r.back; n = 0; row = r.row; count = k; gives = Nothing; refusal = 0; place = r.place }

pub refused_test : (o : Option TextRefusal) → eqb (text_of o) 0 ≡ not (is_some o)
refused_test None = refl
refused_test (Some x) =
    let l = some_text x in
    ne_eqb (text_number x) 0 (λ e. omega arith)
