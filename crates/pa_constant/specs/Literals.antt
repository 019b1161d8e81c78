-- Integer constants (C11 6.4.4.1), and which types of the list one has where none before it in the list has the number.
use Rattle.std.specs.Prelude.{◌≡◌, ℕ, ◌^◌, nat_lt, Bool, not, ◌&&◌, ◌||◌, Option, option_map}
use Rattle.pa_ctype.specs.Types.{TypeTree}
use Rattle.pa_scope.specs.Answers.{Answer}
use Rattle.pa_convert.specs.Conversions as conversions
use Rattle.pa_rexpr.specs.Values.{Typed}
use Rattle.pa_rexpr.specs.Names.{integer_literal, first_fit, candidates}
use Rattle.pa_constant.specs.declared.literal.IntegerConstant.{IntegerConstant}
use Rattle.pa_constant.specs.declared.literal.IntegerType.{IntegerType}

abbrev pub integer_tree : IntegerType → TypeTree
integer_tree t = conversions.integer t.bits t.signed

abbrev pub takes_int : IntegerConstant → Bool
takes_int c = not c.unsigned && (not c.long && nat_lt c.value (2 ^ 31))

abbrev pub takes_unsigned_int : IntegerConstant → Bool
takes_unsigned_int c = (c.unsigned || not c.decimal) && (not c.long && nat_lt c.value (2 ^ 32))

abbrev pub takes_long : IntegerConstant → Bool
takes_long c = not c.unsigned && nat_lt c.value (2 ^ 63)

-- the first type of its list that has the number, if one has it
abbrev pub IsFirstFit : IntegerConstant → Option IntegerType → Type 0
IsFirstFit c found = option_map integer_tree found ≡ first_fit c.value (candidates c.decimal c.unsigned c.long)

abbrev pub constant_at : IntegerConstant → ℕ → Answer Typed
constant_at c place = integer_literal c.value c.decimal c.unsigned c.long place
