-- The refusal numbers of the reader of XML text, each in this one place.
--
--   misplaced, not_char, doctype, instruction, cdata, char_reference, other_entity       a byte's
--   long_name, many_attributes, twice, other_end, nested, other_encoding, foreign_name     a byte's
--   unended                                      the end's
--   scant, reader_stopped                         a call's
--   many_names, long_listed, not_name               a line's of the list of names
--
-- Assumes nothing. NOT here: when each is given (Machine for a byte, crate names for a line), in plain words (docs/XML.md).
use Rattle.std.specs.Prelude.{ℕ}

abbrev pub misplaced : ℕ
misplaced = 30

abbrev pub not_char : ℕ
not_char = 31

abbrev pub doctype : ℕ
doctype = 32

abbrev pub instruction : ℕ
instruction = 33

abbrev pub cdata : ℕ
cdata = 34

abbrev pub char_reference : ℕ
char_reference = 35

abbrev pub other_entity : ℕ
other_entity = 36

abbrev pub long_name : ℕ
long_name = 37

abbrev pub many_attributes : ℕ
many_attributes = 38

abbrev pub twice : ℕ
twice = 39

abbrev pub other_end : ℕ
other_end = 40

abbrev pub nested : ℕ
nested = 41

abbrev pub other_encoding : ℕ
other_encoding = 42

abbrev pub foreign_name : ℕ
foreign_name = 43

abbrev pub unended : ℕ
unended = 44

abbrev pub scant : ℕ
scant = 45

abbrev pub reader_stopped : ℕ
reader_stopped = 46

abbrev pub many_names : ℕ
many_names = 47

abbrev pub long_listed : ℕ
long_listed = 48

abbrev pub not_name : ℕ
not_name = 49
