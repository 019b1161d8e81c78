use Rattle.pa_type_rows.proofs.layouts.member_place.Goals as goal

pub member-requires-clause-laid : goal.member-requires-clause-laid
member-requires-clause-laid c = c.in_ok-is_laid.ensures.laid c.if-not-branch.false
