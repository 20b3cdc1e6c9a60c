-- Each limit's number.
--
--   name_limit_is, attribute_limit_is, list_limit_is       64, 16 and 65,533
--   unknown_is, remark_is                                  65,534 and 65,535
--
-- Assumes nothing.
use Rattle.std.specs.Prelude.{◌≡◌, refl}
use Rattle.xml.specs.Bounds.{name_limit, attribute_limit, list_limit, unknown_name, remark_name}

pub name_limit_is : name_limit ≡ 64
unfolding name_limit
name_limit_is = refl

pub attribute_limit_is : attribute_limit ≡ 16
unfolding attribute_limit
attribute_limit_is = refl

pub list_limit_is : list_limit ≡ 65_533
unfolding list_limit
list_limit_is = refl

pub unknown_is : unknown_name ≡ 65_534
unfolding unknown_name
unknown_is = refl

pub remark_is : remark_name ≡ 65_535
unfolding remark_name
remark_is = refl
