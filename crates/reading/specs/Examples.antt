-- Worked examples, by computation: the reader on closed texts, with its own limits.
--
--   simple, marked, declared         texts that are taken
--   the others                       a text for each of some refusals
--
-- Assumes nothing.
use Rattle.std.specs.Prelude.{◌≡◌, refl, [], ◌∷◌}
use Rattle.choice.specs.When.{when}
use Rattle.meaning.specs.Limits.{depth_limit}
use Rattle.xml.specs.Class.{in_class, derive, keep, word, words}
use Rattle.xml.specs.Bounds.{name_limit, attribute_limit}
use Rattle.xml.specs.Limited.{bounds}
use Rattle.xml.specs.Refused
use Rattle.xml.specs.Grammar.{opens, closes, remark, b0, among, same_name, may_follow, part_values}
use Rattle.xml.specs.Machine.{Place, State, stands, stopped, run, step, pick, next, given, check}

-- <a b="1"><!----></a >
simple :
    run bounds (60 ∷ 97 ∷ 32 ∷ 98 ∷ 61 ∷ 34 ∷ 49 ∷ 34 ∷ 62 ∷ 60 ∷ 33 ∷ 45 ∷ 45 ∷ 45 ∷ 45 ∷ 62 ∷ 60 ∷ 47 ∷ 97 ∷ 32 ∷ 62 ∷ []) State.start
    ≡ stands (opens (97 ∷ []) ∷ remark ∷ closes (97 ∷ []) ∷ []) (State.at Place.after b0)
unfolding run step pick next given check when in_class derive keep word words among same_name name_limit attribute_limit depth_limit
simple = refl

-- the byte order mark, then <a/>
marked :
    run bounds (239 ∷ 187 ∷ 191 ∷ 60 ∷ 97 ∷ 47 ∷ 62 ∷ []) State.start ≡ stands (opens (97 ∷ []) ∷ closes (97 ∷ []) ∷ []) (State.at Place.after b0)
unfolding run step pick next given check when in_class derive keep word words name_limit depth_limit
marked = refl

-- <?xml version='1.0' encoding="utf-8"?><a/>
declared :
    run bounds
    (60 ∷ 63 ∷ 120 ∷ 109 ∷ 108 ∷ 32 ∷ 118 ∷ 101 ∷ 114 ∷ 115 ∷ 105 ∷ 111 ∷ 110 ∷ 61 ∷ 39 ∷ 49 ∷ 46 ∷ 48 ∷ 39 ∷ 32 ∷ 101 ∷ 110 ∷ 99 ∷ 111 ∷ 100 ∷ 105 ∷ 110
    ∷ 103 ∷ 61 ∷ 34 ∷ 117 ∷ 116 ∷ 102 ∷ 45 ∷ 56 ∷ 34 ∷ 63 ∷ 62 ∷ 60 ∷ 97 ∷ 47 ∷ 62 ∷ [])
    State.start
    ≡ stands (opens (97 ∷ []) ∷ closes (97 ∷ []) ∷ []) (State.at Place.after b0)
unfolding run step pick next given check when in_class derive keep word words may_follow part_values name_limit depth_limit
declared = refl

-- <a b='' b=''/> : the second name is refused at its '='
twice :
    run bounds (60 ∷ 97 ∷ 32 ∷ 98 ∷ 61 ∷ 39 ∷ 39 ∷ 32 ∷ 98 ∷ 61 ∷ 39 ∷ 39 ∷ 47 ∷ 62 ∷ []) State.start
    ≡ stopped [] Refused.twice (61 ∷ 39 ∷ 39 ∷ 47 ∷ 62 ∷ [])
unfolding run step pick next given check when in_class among same_name name_limit attribute_limit depth_limit
twice = refl

-- <ab></ac> : refused at the 'c'
other_end :
    run bounds (60 ∷ 97 ∷ 98 ∷ 62 ∷ 60 ∷ 47 ∷ 97 ∷ 99 ∷ 62 ∷ []) State.start ≡ stopped (opens (97 ∷ 98 ∷ []) ∷ []) Refused.other_end (99 ∷ 62 ∷ [])
unfolding run step pick next given check when in_class derive keep word name_limit depth_limit
other_end = refl

-- <a>]]&gt;]]></a> : refused at the second '>'
brackets :
    run bounds (60 ∷ 97 ∷ 62 ∷ 93 ∷ 93 ∷ 38 ∷ 103 ∷ 116 ∷ 59 ∷ 93 ∷ 93 ∷ 62 ∷ []) State.start ≡ stopped (opens (97 ∷ []) ∷ []) Refused.misplaced (62 ∷ [])
unfolding run step pick next given check when in_class derive keep word words name_limit depth_limit
brackets = refl

-- <a> and an overlong form of '/', C0 AF : refused at its first byte
overlong : run bounds (60 ∷ 97 ∷ 62 ∷ 192 ∷ 175 ∷ []) State.start ≡ stopped (opens (97 ∷ []) ∷ []) Refused.not_char (192 ∷ 175 ∷ [])
unfolding run step pick next given check when in_class derive keep name_limit depth_limit
overlong = refl

-- <aé : refused at the first byte of the 'é'
foreign : run bounds (60 ∷ 97 ∷ 195 ∷ 169 ∷ []) State.start ≡ stopped [] Refused.foreign_name (195 ∷ 169 ∷ [])
unfolding run step pick next given check when in_class name_limit depth_limit
foreign = refl

-- <?xml-x : a processing instruction, refused at the '-'
instruction : run bounds (60 ∷ 63 ∷ 120 ∷ 109 ∷ 108 ∷ 45 ∷ 120 ∷ []) State.start ≡ stopped [] Refused.instruction (45 ∷ 120 ∷ [])
unfolding run step pick next given when in_class derive keep word
instruction = refl

-- <?xml version='1.0' encoding="utf-16 : refused at the '1'
other_encoding :
    run bounds
    (60 ∷ 63 ∷ 120 ∷ 109 ∷ 108 ∷ 32 ∷ 118 ∷ 101 ∷ 114 ∷ 115 ∷ 105 ∷ 111 ∷ 110 ∷ 61 ∷ 39 ∷ 49 ∷ 46 ∷ 48 ∷ 39 ∷ 32 ∷ 101 ∷ 110 ∷ 99 ∷ 111 ∷ 100 ∷ 105 ∷ 110
    ∷ 103 ∷ 61 ∷ 34 ∷ 117 ∷ 116 ∷ 102 ∷ 45 ∷ 49 ∷ 54 ∷ [])
    State.start
    ≡ stopped [] Refused.other_encoding (49 ∷ 54 ∷ [])
unfolding run step pick next given check when in_class derive keep word words may_follow part_values
other_encoding = refl
