-- The limits of the reader of XML text and of its list of names, each in this one place, and the numbers that stand for no name of the list.
--
--   name_limit, attribute_limit      how many bytes a name may have, and how many attributes a tag
--   nest_limit                      how many elements may be inside each other: as many as a session may have open
--   list_limit                      how many names a list may have
--   unknown_name, remark_name        the numbers of a name that the list has not, and of a comment
--
-- Each is shut, so that a number is not unrolled: a proof that needs one says `unfolding`, or cites its law (Bounds.Laws).
-- Assumes nothing. NOT here: which refusal each limit gives (Machine), the refusals' numbers (Refused).
use Rattle.std.specs.Prelude.{ℕ}
use Rattle.meaning.specs.Limits.{depth_limit}

-- "Names are ASCII, at most 64 bytes"
unfoldable pub name_limit : ℕ
name_limit = 64

-- "a tag has at most 16 attributes"
unfoldable pub attribute_limit : ℕ
attribute_limit = 16

abbrev pub nest_limit : ℕ
nest_limit = depth_limit

-- "a list the caller lends of at most 65,533 names"
unfoldable pub list_limit : ℕ
list_limit = 65_533

-- "an unknown name gets number 65,534"
unfoldable pub unknown_name : ℕ
unknown_name = 65_534

-- "A comment inside the document element is an open and a close of 65,535"
unfoldable pub remark_name : ℕ
remark_name = 65_535
