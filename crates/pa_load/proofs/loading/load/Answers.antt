use Rattle.std.proofs.Common.{◌≡◌, ℕ, ◌+◌, ◌-◌, ◌*◌, ◌∙◌, ap, sym, subst, refl, arith}
use Rattle.pa_macho.specs.declared.header.Role.{Role}
use Rattle.pa_macho.specs.declared.header.Role.TheVariants.{Main}
use Rattle.pa_macho.specs.declared.places.Places.{Places}
use Rattle.pa_macho.specs.Layout.{base_of}
use Rattle.pa_mem.specs.Memory.{write_xor_run}
use Rattle.pa_image.specs.Places.{base_at}
use Rattle.pa_load.specs.Filling.{Filling}
use Rattle.pa_load.specs.Mapping.{Fits, memory_of}
use Rattle.pa_load.specs.Ready.{AllReady}
use Rattle.pa_load.proofs.Slots.{fillable}
use Rattle.pa_load.proofs.Whole.{program_fits, state_made, write_xor_run-memory}
use Rattle.pa_load.proofs.loading.load.Goals as goal

pub fill_program-requires-clause-ready : goal.fill_program-requires-clause-ready
fill_program-requires-clause-ready g c =
    let placed = c.place-placed.ensures c.args.runtime.now c.in_ok-imports.ensures.found in
    let slots = fillable c.args.main.now c.args.runtime.now c.args.slide (c.places-places.result.linkedit - c.places-places.result.got) c.requires.main_legal c.requires.main_small c.requires.program c.ranges.slide.fits c.requires.runtime_legal c.requires.runtime_small c.in_ok-imports.ensures.missing
    (ap (λ (p : Places). p.linkedit - p.got) c.places-places.ensures.value) in
    subst (λ (f : Filling). AllReady f (c.places-places.result.linkedit - c.places-places.result.got) c.args.main.now.fixes) (sym placed) slots.ready

pub map_all-requires-clause-program : goal.map_all-requires-clause-program
map_all-requires-clause-program g c =
    let placed = c.place-placed.ensures c.args.runtime.now c.in_ok-imports.ensures.found in
    let slots = fillable c.args.main.now c.args.runtime.now c.args.slide (c.places-places.result.linkedit - c.places-places.result.got) c.requires.main_legal c.requires.main_small c.requires.program c.ranges.slide.fits c.requires.runtime_legal c.requires.runtime_small c.in_ok-imports.ensures.missing
    (ap (λ (p : Places). p.linkedit - p.got) c.places-places.ensures.value) in
    let base : c.placed.inside.base ≡ base_of Main + 0x4000 * c.args.slide = ap (λ (f : Filling). f.base) (c.placed.view_is ∙ placed) ∙ ap (λ (r : Role). base_at r c.args.slide) c.requires.program in
    let slide = c.ranges.slide.fits in
    let end = ap (λ (p : Places). p.end) c.places-places.ensures.value in
    let small = c.requires.main_small in
    subst (Fits c.placed.inside.base c.places-places.result) (sym c.in_ok-segments.ensures.segments)
    (program_fits (g.P.Pac.code c.args.p.now) c.place-placed.result c.args.main.now c.places-places.result c.placed.inside.base c.places-places.ensures.value c.requires.main_legal (omega arith) (omega arith) slots.spaced)

pub returns-clause-loaded : goal.returns-clause-loaded
returns-clause-loaded g c =
    let placed = c.place-placed.ensures c.args.runtime.now c.in_ok-imports.ensures.found in
    let base = ap (λ (f : Filling). f.base) c.placed.view_is in
    let memory = c.in_ok-space.ensures ∙ ap (λ (n : ℕ). memory_of n c.places-places.result c.in_ok-segments.field-0.segments c.args.runtime.now) base in
    record {
      program = c.requires.program;
      library = c.requires.library;
      no_fixes = c.requires.no_fixes;
      no_imports = c.requires.no_imports;
      slide_fits = c.ranges.slide.fits;
      found = c.in_ok-imports.ensures.missing;
      state_is = state_made (g.P.Pac.code c.args.p.now) c.args.main.now c.args.runtime.now c.args.slide c.place-placed.result c.places-places.result c.in_ok-segments.field-0.segments c.in_ok-space.space c.in_ok-segments.field-0.log.entries (c.placed.inside.base + 1024) 6174015488
          c.requires.library placed c.places-places.ensures.value c.in_ok-segments.ensures.segments memory c.in_ok-segments.ensures.log (ap (λ (n : ℕ). n + 1024) base) refl;
    }

pub returns-clause-write_xor_run : goal.returns-clause-write_xor_run
returns-clause-write_xor_run g c =
    ap write_xor_run c.in_ok-space.ensures ∙ write_xor_run-memory c.placed.inside.base c.places-places.result c.in_ok-segments.field-0.segments c.args.runtime.now
