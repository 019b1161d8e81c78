use Rattle.std.proofs.Common.{◌≡◌, ◌==◌, length, reverse, sym, ap, ◌∙◌, subst}
use Rattle.pa_blocks.specs.Blocks.{Blocks}
use Rattle.pa_blocks.specs.Steps.{newest_of}
use Rattle.pa_blocks.proofs.Steps.{level_is}
use Rattle.pa_blocks.proofs.declarations.Declarations.is_file_level.Goals as goal

pub returns : goal.returns
returns c =
    let e = level_is (newest_of c.self.inside.newest.items) (reverse c.self.inside.steps) c.self.inside.level c.self.invariant in
    subst (λ (b : Blocks). (c.self.inside.level == 0) ≡ (length b.around == 0)) c.self.view_is (ap (λ n. n == 0) (sym e))
