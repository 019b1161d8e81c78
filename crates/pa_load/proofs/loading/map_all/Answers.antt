use Rattle.std.proofs.Common.{◌≡◌, ℕ, ◌+◌, ◌∙◌, ap, sym, subst, arith}
use Rattle.pa_macho.specs.Layout.{base_of}
use Rattle.pa_macho.specs.declared.header.Role.TheVariants.{Library}
use Rattle.pa_load.specs.Loaded.{stack_base}
use Rattle.pa_load.specs.Mapping.{AllBelow}
use Rattle.pa_load.proofs.Regions.{below_more}
use Rattle.pa_load.proofs.Whole.{below_segments, below_stack, memory_made}
use Rattle.pa_load.proofs.loading.map_all.Goals as goal

pub map-requires-clause-above : goal.map-requires-clause-above
map-requires-clause-above c = subst (AllBelow c.args.base) (sym c.new-space.ensures) tt

pub add_stack-requires : goal.add_stack-requires
add_stack-requires c =
    let none = subst (AllBelow c.args.base) (sym c.new-space.ensures) tt in
    let first = below_segments c.args.base c.args.places.now c.args.program c.new-space.result c.map.new.space c.in_ok-map.ensures none c.requires.program in
    below_more (c.args.base + c.args.places.now.end + 0x4000) stack_base c.map.new.space (omega arith) first

pub map-requires-2-clause-above : goal.map-requires-2-clause-above
map-requires-2-clause-above c =
    let none = subst (AllBelow c.args.base) (sym c.new-space.ensures) tt in
    let first = below_segments c.args.base c.args.places.now c.args.program c.new-space.result c.map.new.space c.in_ok-map.ensures none c.requires.program in
    let under = below_more (c.args.base + c.args.places.now.end + 0x4000) stack_base c.map.new.space (omega arith) first in
    let library : c.base.result ≡ base_of Library = c.base.ensures ∙ ap base_of c.requires.library in
    subst (λ (n : ℕ). AllBelow n c.add_stack.new.space) (sym library) (below_stack c.map.new.space c.add_stack.new.space c.in_ok-add_stack.ensures under)

pub returns : goal.returns
returns c =
    memory_made c.args.base c.args.places.now c.args.program c.in_ok-of.field-0 c.args.runtime.now c.base.result c.places-runtime_places.result c.new-space.result c.map.new.space c.add_stack.new.space c.map-2.new.space
    c.new-space.ensures c.in_ok-map.ensures c.in_ok-add_stack.ensures c.in_ok-map-2.ensures (c.base.ensures ∙ ap base_of c.requires.library) c.places-runtime_places.ensures.value c.in_ok-of.ensures
