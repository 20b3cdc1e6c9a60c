-- What a feed does, turn by turn.
--
--   fresh_reader                     a reader at the start of a text
--   more_to_read r at end w out       another byte is read: nothing was refused, a byte is there, and the output has room for what one can give
--   Going                           how far a feed has come: the reader, the place in the text, the room, the output and how many of its bytes are written
--   advanced names x M t g          one turn more, in the list `names` with its index x
--   read_for k ...                   k turns at most;  read_on: as many as there are
--
-- Assumes nothing. NOT here: that this is the machine's run (crate text_right).
pub mod Laws
use Rattle.std.specs.Prelude.{ℕ, zero, suc, ◌-◌, Bool, false, List, eqb, leb, length}
use Rattle.choice.specs.When.{when}
use Rattle.chars.specs.Table.{marks_table}
use Rattle.modes.specs.declared.Mode.TheVariants as mode
use Rattle.modes.specs.declared.Prolog.TheVariants as prolog
use Rattle.modes.specs.declared.Gives.TheVariants as gives
use Rattle.modes.specs.declared.Reader.{Reader}
use Rattle.walk.specs.Turn.{Turned, turned}
use Rattle.emit.specs.Emit.{Emitted, emitted}

abbrev pub fresh_reader : Reader
fresh_reader =
    record { mode = mode.Prolog prolog.Start; back = mode.Data; n = 0; row = 0; count = 0; gives = gives.Nothing; refusal = 0; place = 0 }

unfoldable pub more_to_read : ℕ → ℕ → ℕ → ℕ → ℕ → Bool
more_to_read r at end w out = when (eqb r 0) (when (leb end at) false (leb 16 (out - w))) false

pub record Going : Type 0 where
  pub reader : Reader
  pub at : ℕ
  pub room : List ℕ
  pub out : List ℕ
  pub written : ℕ

-- by what the turn and its events came to
abbrev pub gone_on : Turned → Emitted → Going
gone_on t e = record { reader = t.reader; at = t.at; room = e.room; out = e.out; written = e.written }

unfoldable pub advanced_by : List ℕ → List ℕ → Going → Turned → Going
advanced_by names x g t = gone_on t (emitted names x t.reader t.room g.out g.written)

unfoldable pub advanced : List ℕ → List ℕ → List ℕ → List ℕ → Going → Going
advanced names x M t g = advanced_by names x g (turned M g.reader t g.at g.room)

abbrev pub goes_on : List ℕ → Going → Bool
goes_on t g = more_to_read g.reader.refusal g.at (length t) g.written (length g.out)

unfoldable pub read_for : ℕ → List ℕ → List ℕ → List ℕ → List ℕ → Going → Going
read_for zero names x M t g = g
read_for (suc k) names x M t g = when (goes_on t g) (read_for k names x M t (advanced names x M t g)) g

abbrev pub begun_with : Reader → List ℕ → List ℕ → Going
begun_with r R out = record { reader = r; at = 0; room = R; out = out; written = 0 }

unfoldable pub read_on : List ℕ → List ℕ → List ℕ → Reader → List ℕ → List ℕ → Going
read_on names x t r R out = read_for (suc (length t)) names x marks_table t (begun_with r R out)
