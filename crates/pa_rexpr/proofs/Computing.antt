-- What has to unfold where an expression is typed by computation: rows name it.
use Rattle.std.specs.Prelude.{ℕ}
use Rattle.pa_num.specs.Arithmetic.{unsigned64, wrap}
use Rattle.pa_ctype.specs.Equality.{same_type}
use Rattle.pa_ctype.specs.Layouts.{layout_by, laid, members_from, member_from}
use Rattle.pa_rexpr.specs.Constants.{is_integer_form, evaluated, is_address_form, address_flaw}
use Rattle.pa_ctype.specs.Bounds.{fits_by}
use Rattle.pa_ctype.specs.Qualifiers.{with_const, bare}
use Rattle.pa_ctype.specs.Types.{type_depth}
use Rattle.pa_rexpr.specs.Names.{texts}
use Rattle.pa_rexpr.specs.Places.{constant_by, constant_within}
use Rattle.pa_scope.specs.Scope.{in_block, in_blocks, completed_in, completed_around, tag_in, has_name}
use Rattle.pa_rexpr.specs.Typing.{typing}

unfoldable pub computing : ℕ
unfolding typing is_integer_form evaluated is_address_form address_flaw with_const bare type_depth fits_by texts in_block in_blocks completed_in completed_around tag_in has_name same_type layout_by laid members_from member_from constant_by constant_within unsigned64 wrap
computing = 0
