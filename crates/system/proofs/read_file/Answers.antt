-- `read_file` opens the file, reads it and closes it. Assumes nothing.
use Rattle.system.proofs.read_file.Goals as goal

pub returns-clause-given : goal.returns-clause-given
returns-clause-given c = record { file = c.open-file.result; opened = c.open-file.ensures; full = c.read_full-n.ensures; closed = c.close.ensures }
