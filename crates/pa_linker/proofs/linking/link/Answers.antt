use Rattle.std.proofs.Common.{◌≡◌, ◌∙◌, ◌*◌, ℕ, List, length, true, false, ap, arith}
use Rattle.pa_object.specs.Linkable.{Text}
use Rattle.pa_linker.specs.declared.section.LaidGlobal.{LaidGlobal}
use Rattle.pa_linker.specs.Layout.{Laid}
use Rattle.pa_linker.specs.Linked.{bytes_from, fixes_with}
use Rattle.pa_linker.specs.Tables.{all_shown, layout_in}
use Rattle.pa_linker.proofs.Fits.{fits, made_fill, made_follow, made_section, made_small}
use Rattle.pa_linker.proofs.Tables.{image_is}
use Rattle.pa_linker.proofs.linking.link.Goals as goal

pub marks-requires-clause-stand : goal.marks-requires-clause-stand
marks-requires-clause-stand c = (fits c.args.objects.now c.requires).marks

pub marks-requires-clause-few : goal.marks-requires-clause-few
marks-requires-clause-few c = (fits c.args.objects.now c.requires).words

pub of-requires : goal.of-requires
of-requires c = (fits c.args.objects.now c.requires).globals

pub of-requires-2 : goal.of-requires-2
of-requires-2 c = (fits c.args.objects.now c.requires).globals

pub of-requires-3-clause-fits : goal.of-requires-3-clause-fits
of-requires-3-clause-fits c = fits c.args.objects.now c.requires

pub of-requires-3-clause-literals : goal.of-requires-3-clause-literals
of-requires-3-clause-literals c =
    let made = c.in_ok-literals.ensures in made_section c.in_ok-literals.literals c.args.objects.now true c.requires made.globals made.end made.small

pub of-requires-3-clause-variables : goal.of-requires-3-clause-variables
of-requires-3-clause-variables c =
    let made = c.in_ok-variables.ensures in made_section c.in_ok-variables.variables c.args.objects.now false c.requires made.globals made.end made.small

pub text-requires-clause-small : goal.text-requires-clause-small
text-requires-clause-small c = made_small (layout_in c.in_ok-layout.layout) c.args.objects.now c.requires c.in_ok-layout.ensures

pub text-requires-clause-stand : goal.text-requires-clause-stand
text-requires-clause-stand c = (fits c.args.objects.now c.requires).refs

pub text-requires-clause-few : goal.text-requires-clause-few
text-requires-clause-few c = (fits c.args.objects.now c.requires).words

pub stubs-requires : goal.stubs-requires
stubs-requires c = made_small (layout_in c.in_ok-layout.layout) c.args.objects.now c.requires c.in_ok-layout.ensures

pub fixes-requires-clause-small : goal.fixes-requires-clause-small
fixes-requires-clause-small c = made_small (layout_in c.in_ok-layout.layout) c.args.objects.now c.requires c.in_ok-layout.ensures

pub fixes-requires-clause-fill : goal.fixes-requires-clause-fill
fixes-requires-clause-fill c =
    made_fill (all_shown c.as_slice.result.now) c.args.objects.now false c.requires
    (ap (λ (ls : List LaidGlobal). all_shown ls) c.as_slice.ensures ∙ c.in_ok-variables.ensures.globals)

pub bytes-requires-clause-follow : goal.bytes-requires-clause-follow
bytes-requires-clause-follow c =
    made_follow (all_shown c.in_ok-literals.literals.globals) c.args.objects.now true c.requires c.in_ok-literals.ensures.globals

pub bytes-requires-clause-fill : goal.bytes-requires-clause-fill
bytes-requires-clause-fill c =
    made_fill (all_shown c.in_ok-literals.literals.globals) c.args.objects.now true c.requires c.in_ok-literals.ensures.globals

pub bytes-requires-2-clause-follow : goal.bytes-requires-2-clause-follow
bytes-requires-2-clause-follow c =
    made_follow (all_shown c.in_ok-variables.variables.globals) c.args.objects.now false c.requires c.in_ok-variables.ensures.globals

pub bytes-requires-2-clause-fill : goal.bytes-requires-2-clause-fill
bytes-requires-2-clause-fill c =
    made_fill (all_shown c.in_ok-variables.variables.globals) c.args.objects.now false c.requires c.in_ok-variables.ensures.globals

pub overflow_cast-result : goal.overflow_cast-result
overflow_cast-result c =
    let few = (made_small (layout_in c.in_ok-layout.layout) c.args.objects.now c.requires c.in_ok-layout.ensures).imports in
    let same : length c.into_imports-imports.result ≡ length c.in_ok-layout.layout.imports.names = ap (λ (ns : List Text). length ns) c.into_imports-imports.ensures in
    let counted = c.len.ensures in
    omega arith

pub overflow_mul-result : goal.overflow_mul-result
overflow_mul-result c =
    let few = (made_small (layout_in c.in_ok-layout.layout) c.args.objects.now c.requires c.in_ok-layout.ensures).imports in
    let same : length c.into_imports-imports.result ≡ length c.in_ok-layout.layout.imports.names = ap (λ (ns : List Text). length ns) c.into_imports-imports.ensures in
    let counted = c.len.ensures in
    omega arith

pub returns : goal.returns
returns c =
    let l = layout_in c.in_ok-layout.layout in
    let variables = ap (λ (ls : List LaidGlobal). all_shown ls) c.as_slice.ensures ∙ c.in_ok-variables.ensures.globals in
    image_is c.args.objects.now l _ _ _ _ _ _ _ _ c.in_ok-layout.ensures c.in_ok-text.ensures c.in_ok-stubs.ensures
    (c.in_ok-consts.ensures ∙ ap (λ (ls : List Laid). bytes_from 0 ls) c.in_ok-literals.ensures.globals)
    (ap (λ (n : ℕ). 8 * n) c.len.ensures)
    (c.in_ok-cells.ensures ∙ ap (λ (ls : List Laid). bytes_from 0 ls) c.in_ok-variables.ensures.globals)
    c.in_ok-marks.ensures c.into_imports-imports.ensures
    (c.in_ok-fixes.ensures ∙ ap (λ (ls : List Laid). fixes_with l ls) variables)
