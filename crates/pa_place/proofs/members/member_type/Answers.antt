use Rattle.std.proofs.Common.{sym}
use Rattle.pa_convert.proofs.Conversions.{without_more}
use Rattle.pa_place.proofs.members.member_type.Goals as goal

pub returns-else-is_constant-clause-is : goal.returns-else-is_constant-clause-is
returns-else-is_constant-clause-is c m fits =
    rw (← c.is_constant.ensures m fits, c.if-is_constant.false) (sym (without_more (m c.args.of)))
