use Rattle.std.proofs.Common.{◌<◌, ◌∙◌, IfSome, arith, length, sym, subst}
use Rattle.pa_ctype.specs.Nodes.{AllBelow}
use Rattle.pa_ctype.proofs.Functions.{below_push}
use Rattle.pa_type_rows.proofs.samples.part_numbers.Goals as goal

pub parts-preserved : goal.parts-preserved
parts-preserved c =
    record {
      known = subst (AllBelow (length c.part_number.new.types.nodes)) (sym c.in_ok-push.ensures.ok)
          (below_push _ _ c.part_number.ensures.longer c.parts.numbers _ c.parts.invariant.known (subst (λ o. IfSome o (λ n. n < length c.part_number.new.types.nodes)) c.in-Some.is c.in_ok-number.ensures.known));
      longer = omega (arith, c.parts.invariant.longer, c.part_number.ensures.longer);
      grows = λ m fits. c.parts.invariant.grows m (c.part_number.ensures.grows m fits);
      structs = c.part_number.ensures.structs ∙ c.parts.invariant.structs;
      names = c.part_number.ensures.names ∙ c.parts.invariant.names;
    }
