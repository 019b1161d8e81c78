use Rattle.std.proofs.Common.{◌≡◌, ◌+◌, ◌-◌, ◌∙◌, arith, length, take, drop}
use Rattle.std.proofs.lemmas.List.{take_all, length-drop}
use Rattle.pa_layout.proofs.Facts.{refused_answers}
use Rattle.pa_fixups.specs.Fixups.{fixups_flaw}
use Rattle.pa_fixups.proofs.Parts.{parts_flaw, left_le}
use Rattle.pa_fixups.proofs.fixups.read_parts.Goals as goal

pub overflow_sub-part : goal.overflow_sub-part
overflow_sub-part c = left_le c.number_of_four-count.result c.in_ok-imports.left (c.names-names.result + 1) c.args.part.now c.in_ok-imports.ensures.value.1

pub returns-in_err-check-clause-exact : goal.returns-in_err-check-clause-exact
returns-in_err-check-clause-exact c =
    let part = c.args.part.now in
    let names = c.names-names.result in
    let text = take (length part - (names + 1)) (drop (names + 1) part) in
    let whole : text ≡ drop (names + 1) part = take_all (length part - (names + 1)) (drop (names + 1) part) (omega (arith, length-drop (names + 1) part)) in
    let flaw = parts_flaw c.args.at part text c.number_of_four-count.result c.imports-entries.result names c.in_ok-imports.left c.number_of_four-count.ensures c.imports-entries.ensures c.names-names.ensures whole c.in_ok-imports.ensures.value.1 c.in_ok-check_starts.ensures c.in_ok-check_tables.ensures c.in_ok-check_entries.ensures c.in_ok-check_zeros.ensures c.in_ok-imports.ensures.exact in
    refused_answers c.from_residual-in_err-check.result c.in_err-check.field-0.0 (fixups_flaw c.args.at part) c.from_residual-in_err-check.ensures.1 (flaw ∙ c.in_err-check.ensures)

pub returns-clause-exact : goal.returns-clause-exact
returns-clause-exact c =
    let part = c.args.part.now in
    let names = c.names-names.result in
    let text = take (length part - (names + 1)) (drop (names + 1) part) in
    let whole : text ≡ drop (names + 1) part = take_all (length part - (names + 1)) (drop (names + 1) part) (omega (arith, length-drop (names + 1) part)) in
    let flaw = parts_flaw c.args.at part text c.number_of_four-count.result c.imports-entries.result names c.in_ok-imports.left c.number_of_four-count.ensures c.imports-entries.ensures c.names-names.ensures whole c.in_ok-imports.ensures.value.1 c.in_ok-check_starts.ensures c.in_ok-check_tables.ensures c.in_ok-check_entries.ensures c.in_ok-check_zeros.ensures c.in_ok-imports.ensures.exact in
    flaw ∙ c.in_ok-check.ensures
