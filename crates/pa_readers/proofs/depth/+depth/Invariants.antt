-- Specifiers hold expressions of their own depth, and all other parts are one level down.
use Rattle.std.proofs.Common.{◌*◌, ◌+◌}
use Rattle.pa_readers.proofs.depth.+depth.Given as goal

abbrev pub decreases-read_expr : goal.decreases-read_expr
decreases-read_expr l = 2 * l.depth

abbrev pub decreases-read_opened : goal.decreases-read_opened
decreases-read_opened l = 2 * l.depth

abbrev pub decreases-read_specs : goal.decreases-read_specs
decreases-read_specs l = 2 * l.depth + 1

abbrev pub decreases-read_declarator : goal.decreases-read_declarator
decreases-read_declarator l = 2 * l.depth
