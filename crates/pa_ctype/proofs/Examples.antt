-- The cells of an object by hand: of `const struct { char a; struct { int b[2]; _Bool c; } d; }`, where the inner struct
-- has padding at its end.
use Rattle.std.proofs.Common.{◌≡◌, Bool, true, false, [], ◌∷◌, Some, None, refl, codes}
use Rattle.pa_ctype.specs.Types.{TypeTree, Of, Boolean, Integer, Array, Struct}
use Rattle.pa_ctype.specs.Layouts.{Body, Table, layout_in, laid, layout_by, form_layout_by, members_from}
use Rattle.pa_ctype.specs.Values.{cells_in, cells_of, cells_by, form_cells_by, member_cells, elements}

abbrev int : Bool → TypeTree
int constant = Of constant (Integer 32 true)

abbrev inner : Body
inner = record { name = codes "b"; of = Of false (Array (int false) (Some 2)) } ∷ record { name = codes "c"; of = Of false Boolean } ∷ []

abbrev outer : Body
outer = record { name = codes "a"; of = Of false (Integer 8 true) } ∷ record { name = codes "d"; of = Of false (Struct 1) } ∷ []

abbrev table : Table
table = Some outer ∷ Some inner ∷ []

layout : layout_in table (Of true (Struct 0)) ≡ Some (record { size = 16; align = 4 })
unfolding laid layout_by form_layout_by members_from
layout = refl

cells : cells_in table (Of true (Struct 0))
    ≡ record { at = 0; of = Of true (Integer 8 true); value = None } ∷ record { at = 4; of = int true; value = None } ∷ record { at = 8; of = int true; value = None } ∷ record { at = 12; of = Of true Boolean; value = None } ∷ []
unfolding laid layout_by form_layout_by members_from cells_of cells_by form_cells_by member_cells elements
cells = refl

-- a struct that holds itself has no layout
itself : layout_in (Some (record { name = codes "a"; of = Of false (Struct 0) } ∷ []) ∷ []) (Of false (Struct 0)) ≡ None
unfolding laid layout_by form_layout_by members_from
itself = refl
