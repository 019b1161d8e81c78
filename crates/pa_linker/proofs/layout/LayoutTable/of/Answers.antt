use Rattle.std.proofs.Common.{◌≡◌, ◌∙◌, ◌≤◌, List, length, sym, ap, subst}
use Rattle.std.specs.Option.{option_or}
use Rattle.pa_object.specs.Linkable.{Text}
use Rattle.pa_linker.specs.declared.section.LaidGlobal.{LaidGlobal}
use Rattle.pa_linker.specs.Layout.{find, functions_from, globals_from, marks_of, literals_of, variables_of, Laid}
use Rattle.pa_linker.specs.Tables.{all_shown, kept_place}
use Rattle.pa_linker.proofs.Few.{few_imports}
use Rattle.pa_linker.proofs.Tables.{found_after, layout_is, sections_are}
use Rattle.pa_linker.proofs.layout.LayoutTable.of.Goals as goal

pub of-sections-requires-clause-imports : goal.of-sections-requires-clause-imports
of-sections-requires-clause-imports c =
    subst (λ (ns : List Text). length ns ≤ 2) (sym (c.names.ensures ∙ c.in_ok-imports.ensures.names)) (few_imports c.args.objects.now)

pub returns : goal.returns
returns c =
    let objects = c.args.objects.now in
    let sections = c.of-sections.result in
    let imports = c.in_ok-imports.imports in
    let symbols = c.note_globals-2.new.self in
    let functions = functions_from (marks_of objects) in
    let literals : all_shown c.as_slice.result.now ≡ literals_of objects = ap (λ (ls : List LaidGlobal). all_shown ls) c.as_slice.ensures ∙ c.requires.literals.globals in
    let variables : all_shown c.as_slice-2.result.now ≡ variables_of objects = ap (λ (ls : List LaidGlobal). all_shown ls) c.as_slice-2.ensures ∙ c.requires.variables.globals in
    layout_is (record { sections = sections; imports = imports; symbols = symbols }) objects
    (sections_are objects sections _ _ _ _ c.of-sections.ensures.value c.code_words-words.ensures (ap (λ (ns : List Text). length ns) (c.names.ensures ∙ c.in_ok-imports.ensures.names))
    c.requires.literals.end c.requires.variables.end)
    c.in_ok-imports.ensures.names c.in_ok-imports.ensures.indexed
    (λ (name : Text).
    found_after (kept_place c.new-symbols.result name) (kept_place c.note_functions.new.self name) (kept_place c.note_globals.new.self name) (kept_place symbols name)
    functions (globals_from sections.consts (literals_of objects)) (globals_from sections.cells (variables_of objects)) name
    (c.new-symbols.ensures name) (c.in_ok-note_functions.ensures name)
    (c.in_ok-note_globals.ensures name ∙ ap (λ (ls : List Laid). option_or (kept_place c.note_functions.new.self name) (find (globals_from sections.consts ls) name)) literals)
    (c.in_ok-note_globals-2.ensures name ∙ ap (λ (ls : List Laid). option_or (kept_place c.note_globals.new.self name) (find (globals_from sections.cells ls) name)) variables))
