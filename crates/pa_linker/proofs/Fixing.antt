-- The slots of an image rise.
use Rattle.std.proofs.Common.{◌≡◌, ℕ, ◌+◌, ◌-◌, ◌*◌, ◌≤◌, true, false, List, [], ◌∷◌, ◌++◌, length, map, refl, sym, ap, subst, ◌∙◌, arith}
use Rattle.std.specs.List.{AllByRecursion, flat_map}
use Rattle.std.proofs.lemmas.List.{map-append}
use Rattle.std.proofs.lemmas.List.Elements.{recursion_from_All}
use Rattle.pa_object.specs.declared.object.Object.{Object}
use Rattle.pa_object.specs.declared.object.Global.{Global}
use Rattle.pa_object.specs.declared.object.Slot.{Slot}
use Rattle.pa_object.specs.Linkable.{Text, Named, Linkable, IsGlobal, Ascends, functions_of, data_of, globals_of}
use Rattle.pa_fixups.specs.declared.kind.Fix.{Fix}
use Rattle.pa_macho.specs.Layout.{up}
use Rattle.pa_linker.specs.Imports.{imports_of}
use Rattle.pa_linker.specs.Layout.{start_words, words_after, is_of, laid_end, laid_from, globals_that, variables_of, Layout, layout_of, sections_of}
use Rattle.pa_linker.specs.Linked.{slots_behind, global_fixes, import_fixes, fixes_with}
use Rattle.pa_linker.specs.Tables.{SlotsInside}
use Rattle.pa_linker.proofs.Few.{few_imports}
use Rattle.pa_linker.proofs.Fits.{are_globals, fits, section_small}
use Rattle.pa_linker.proofs.Rising.{RisesFrom, lower, rises, ascends}
use Rattle.pa_linker.proofs.Room.{all_filter, slots_inside, up_low}
use Rattle.pa_linker.proofs.Small.{places_small}

abbrev places : List Fix → List ℕ
places fixes = map (λ f. f.at) fixes

-- the slots of a global at a place, and what stands behind the global
slots_rise : (l : Layout) (place low size : ℕ) (slots : List Slot) (behind : List ℕ) → RisesFrom low (map (λ s. s.offset) slots) → SlotsInside size slots → low ≤ size
    → RisesFrom (place + size) behind → RisesFrom (place + low) (places (slots_behind l place slots) ++ behind)
slots_rise l place low size [] behind r inside h next = lower (place + low) (place + size) behind (omega arith) next
slots_rise l place low size (s ∷ slots) behind r inside h next =
    let here = r.0 in
    let at = inside.0 in (
      omega arith,
      lower (place + s.offset + 1) (place + (s.offset + 1)) (places (slots_behind l place slots) ++ behind) (omega arith)
          (slots_rise l place (s.offset + 1) size slots behind r.1 inside.1 (omega arith) next),
    )

globals_rise : (F D : List Named) (l : Layout) (end : ℕ) (globals : List Global) → AllByRecursion (IsGlobal F D) globals
    → RisesFrom (l.sections.cells - l.sections.got + end) (places (flat_map (global_fixes l) (laid_from end globals)))
globals_rise F D l end [] h = tt
globals_rise F D l end (g ∷ globals) h =
    let at : ℕ = up g.align end in
    let before : ℕ = l.sections.cells - l.sections.got in
    let size : ℕ = length g.bytes in
    let low = up_low F D g end h.0 in
    let rest = flat_map (global_fixes l) (laid_from (at + size) globals) in
    let more = lower (before + at + size) (before + (at + size)) (places rest) (omega arith) (globals_rise F D l (at + size) globals h.1) in
    let inside = slots_inside F D size g.slots (recursion_from_All _ g.slots h.0.slots) in
    let whole = slots_rise l (before + at) 0 size g.slots (places rest) (rises (map (λ (s : Slot). s.offset) g.slots) h.0.slots_ascend) inside (omega arith) more in
    subst (λ (xs : List ℕ). RisesFrom (before + end) xs) (sym (map-append (λ (f : Fix). f.at) (slots_behind l (before + at) g.slots) rest))
    (lower (before + end) (before + at + 0) (places (slots_behind l (before + at) g.slots) ++ places rest) (omega arith) whole)

imports_rise : (i : ℕ) (imports : List Text) (behind : List ℕ) → RisesFrom (8 * (i + length imports)) behind → RisesFrom (8 * i) (places (import_fixes i imports) ++ behind)
imports_rise i [] behind next = lower (8 * i) (8 * (i + 0)) behind (omega arith) next
imports_rise i (name ∷ imports) behind next =
    let more = imports_rise (i + 1) imports behind (lower (8 * (i + 1 + length imports)) (8 * (i + length (name ∷ imports))) behind (omega arith) next) in
    (omega arith, lower (8 * i + 1) (8 * (i + 1)) (places (import_fixes (i + 1) imports) ++ behind) (omega arith) more)

fixes_rise : (F D : List Named) (l : Layout) (globals : List Global) → AllByRecursion (IsGlobal F D) globals → l.sections.got + 8 * length l.imports ≤ l.sections.cells
    → Ascends (places (fixes_with l (laid_from 0 globals)))
fixes_rise F D l globals h room =
    let before : ℕ = l.sections.cells - l.sections.got in
    let rest = flat_map (global_fixes l) (laid_from 0 globals) in
    let more = lower (8 * (0 + length l.imports)) (before + 0) (places rest) (omega arith) (globals_rise F D l 0 globals h) in
    ascends 0 (places (fixes_with l (laid_from 0 globals)))
    (subst (λ (xs : List ℕ). RisesFrom 0 xs) (sym (map-append (λ (f : Fix). f.at) (import_fixes 0 l.imports) rest)) (imports_rise 0 l.imports (places rest) more))

-- first those of imports, then those of globals, each above the one before
pub fixes_ascend : (objects : List Object) → Linkable objects → Ascends (map (λ f. f.at) (fixes_with (layout_of objects) (variables_of objects)))
unfolding layout_of sections_of
fixes_ascend objects l =
    let begin = places_small (words_after start_words objects) (length (imports_of objects)) (laid_end 0 (globals_that true objects)) (laid_end 0 (globals_that false objects))
    (fits objects l).words (few_imports objects) (section_small objects true l)
    in
    fixes_rise (functions_of objects) (data_of objects) (layout_of objects) (globals_that false objects)
    (all_filter _ (is_of false) (globals_of objects) (are_globals objects l)) begin.room
