use Rattle.std.proofs.Common.{option_map, ap, sym, ◌∙◌}
use Rattle.pa_ctype.specs.declared.node.Shape.TheVariants as shape
use Rattle.pa_ctype.specs.declared.ctype.Layout.{Layout}
use Rattle.pa_ctype.specs.Layouts.{layout_in, table_of}
use Rattle.pa_ctype.specs.Shapes.{shape_of}
use Rattle.pa_ctype.proofs.TypeLaws.{plain_shape}
use Rattle.pa_ctype.proofs.types.Types.shape.Goals as goal

pub returns-in-Pointer : goal.returns-in-Pointer
returns-in-Pointer c names m fits =
    let table = table_of names m c.args.self.now.structs in
    let step = c.bytes.ensures ∙ ap (option_map (λ l. l.size)) (c.layout_of.ensures.value names m fits) in
    ap (λ s. shape.Pointer s c.schema.result) step ∙ ap (shape.Pointer (option_map (λ (l : Layout). l.size) (layout_in table (m c.in-Pointer.to)))) c.schema.ensures
    ∙ ap (shape_of table) (sym (c.in-Pointer.ensures.is m fits)) ∙ plain_shape table (m c.args.number) (m c.without_const.result) (c.without_const.ensures.is m fits)
