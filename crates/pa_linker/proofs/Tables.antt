-- The layout that the tables hold, and the image that is made of its parts.
use Rattle.std.proofs.Common.{◌≡◌, ℕ, ◌*◌, List, ◌++◌, length, sym, ◌∙◌, ap, arith, true, false, Option, None}
use Rattle.std.specs.Option.{option_or, option_map_or}
use Rattle.std.proofs.Math.Path.{fun_ext}
use Rattle.pa_names.proofs.Kept.{or-assoc}
use Rattle.pa_object.specs.declared.object.Object.{Object}
use Rattle.pa_object.specs.declared.object.Mark.{Mark}
use Rattle.pa_object.specs.Linkable.{Text}
use Rattle.pa_macho.specs.declared.header.Role.TheVariants.{Main}
use Rattle.pa_macho.specs.Layout.{places_of}
use Rattle.pa_fixups.specs.declared.kind.Fix.{Fix}
use Rattle.pa_image.specs.declared.image.Image.{Image}
use Rattle.pa_linker.specs.declared.layout.Sections.{Sections}
use Rattle.pa_linker.specs.declared.layout.LayoutTable.{LayoutTable}
use Rattle.pa_linker.specs.Imports.{imports_of, import_index}
use Rattle.pa_linker.specs.Layout.{start_words, words_after, laid_end, globals_that, header_with, begins, Symbol, find, symbols_with, sections_of, Layout, layout_of, marks_of, literals_of, variables_of}
use Rattle.pa_linker.specs.Linked.{text_with, stubs_from, bytes_from, fixes_with, image_with, image_of}
use Rattle.pa_linker.specs.Tables.{index_in, index_of, kept_place, layout_in, IsIndexed}
use Rattle.pa_linker.proofs.Uses.{index_is}
use Rattle.pa_linker.proofs.Words.{find-append}

-- ---- names

pub found_after : (zero one two three : Option ℕ) (xs ys zs : List Symbol) (name : Text) → zero ≡ None → one ≡ option_or zero (find xs name) → two ≡ option_or one (find ys name)
    → three ≡ option_or two (find zs name) → three ≡ find (xs ++ (ys ++ zs)) name
found_after zero one two three xs ys zs name a b c d =
    let first : one ≡ find xs name = b ∙ ap (λ o. option_or o (find xs name)) a in
    let second : two ≡ option_or (find xs name) (find ys name) = c ∙ ap (λ o. option_or o (find ys name)) first in
    d ∙ ap (λ o. option_or o (find zs name)) second ∙ or-assoc (find xs name) (find ys name) (find zs name)
    ∙ ap (option_or (find xs name)) (sym (find-append ys zs name)) ∙ sym (find-append xs (ys ++ zs) name)

index_same : (names : List Text) (name : Text) → option_map_or (λ k. k) (index_in 0 names name) (length names) ≡ import_index names name
index_same names name =
    ap (option_map_or (λ k. k) (index_in 0 names name)) (omega arith) ∙ index_is 0 names name ∙ omega arith

-- ---- the layout

pub sections_are : (objects : List Object) (sections : Sections) (words imports literals variables : ℕ) → sections ≡ begins (places_of (header_with words imports literals variables))
    → words ≡ words_after start_words objects → imports ≡ length (imports_of objects) → literals ≡ laid_end 0 (globals_that true objects) → variables ≡ laid_end 0 (globals_that false objects)
    → sections ≡ sections_of objects
unfolding sections_of
sections_are objects sections words imports literals variables e a b c d =
    e ∙ ap (λ (n : ℕ). begins (places_of (header_with n imports literals variables))) a
    ∙ ap (λ (n : ℕ). begins (places_of (header_with (words_after start_words objects) n literals variables))) b
    ∙ ap (λ (n : ℕ). begins (places_of (header_with (words_after start_words objects) (length (imports_of objects)) n variables))) c
    ∙ ap (λ (n : ℕ). begins (places_of (header_with (words_after start_words objects) (length (imports_of objects)) (laid_end 0 (globals_that true objects)) n))) d

layout_same : (s s' : Sections) (n n' : List Text) (i i' : Text → ℕ) (f f' : Text → Option ℕ) → s ≡ s' → n ≡ n' → i ≡ i' → f ≡ f'
    → (let one : Layout = record { sections = s; imports = n; index = i; find = f } in one) ≡ record { sections = s'; imports = n'; index = i'; find = f' }
layout_same s s' n n' i i' f f' a b c d = cc

pub layout_is : (table : LayoutTable) (objects : List Object) → table.sections ≡ sections_of objects → table.imports.names ≡ imports_of objects → IsIndexed table.imports
    → ((name : Text) → kept_place table.symbols name ≡ find (symbols_with table.sections objects) name) → layout_in table ≡ layout_of objects
unfolding layout_of
layout_is table objects sections names indexed found =
    let index : index_of table.imports ≡ import_index (imports_of objects) = fun_ext (λ name.
    ap (λ o. option_map_or (λ k. k) o (length table.imports.names)) (indexed name) ∙ index_same table.imports.names name ∙ ap (λ ns. import_index ns name) names) in
    let finds : kept_place table.symbols ≡ find (symbols_with (sections_of objects) objects) = fun_ext (λ name. found name ∙ ap (λ s. find (symbols_with s objects) name) sections) in
    layout_same table.sections (sections_of objects) table.imports.names (imports_of objects) (index_of table.imports) (import_index (imports_of objects)) (kept_place table.symbols) (find (symbols_with (sections_of objects) objects)) sections names index finds

-- ---- the image

image_same : (text text' stubs stubs' : List ℕ) (consts consts' : List ℕ) (got got' : ℕ) (cells cells' : List ℕ) (marks marks' : List Mark) (imports imports' : List Text) (fixes fixes' : List Fix)
    → text ≡ text' → stubs ≡ stubs' → consts ≡ consts' → got ≡ got' → cells ≡ cells' → marks ≡ marks' → imports ≡ imports' → fixes ≡ fixes'
    → (let one : Image = record { role = Main; text = text; stubs = stubs; consts = consts; got = got; cells = cells; marks = marks; imports = imports; fixes = fixes } in one)
    ≡ record { role = Main; text = text'; stubs = stubs'; consts = consts'; got = got'; cells = cells'; marks = marks'; imports = imports'; fixes = fixes' }
image_same text text' stubs stubs' consts consts' got got' cells cells' marks marks' imports imports' fixes fixes' a b c d e f g h = cc

pub image_is : (objects : List Object) (l : Layout) (text stubs consts cells : List ℕ) (got : ℕ) (marks : List Mark) (imports : List Text) (fixes : List Fix) → l ≡ layout_of objects
    → text ≡ text_with l objects → stubs ≡ stubs_from l 0 l.imports → consts ≡ bytes_from 0 (literals_of objects) → got ≡ 8 * length imports → cells ≡ bytes_from 0 (variables_of objects)
    → marks ≡ marks_of objects → imports ≡ l.imports → fixes ≡ fixes_with l (variables_of objects)
    → (let one : Image = record { role = Main; text = text; stubs = stubs; consts = consts; got = got; cells = cells; marks = marks; imports = imports; fixes = fixes } in one) ≡ image_of objects
unfolding image_of
image_is objects l text stubs consts cells got marks imports fixes same a b c d e f g h =
    image_same text _ stubs _ consts _ got _ cells _ marks _ imports _ fixes _ a b c (d ∙ ap (λ ns. 8 * length ns) g) e f g h ∙ ap (λ x. image_with x objects) same
