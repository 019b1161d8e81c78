-- The program of several files (C11 5.1.1.1, 6.2.2, 6.9p5), or the first rule that it breaks.
use Rattle.std.specs.Prelude.{ℕ, suc, ◌+◌, ◌==◌, nat_lt, Bool, true, false, not, ◌&&◌, ◌||◌, List, [], ◌∷◌, length, map, flat_map, filter_map, sum_by, if◌then◌else◌, Option, Some, None, option_map, Result, Ok, Err}
use Rattle.std.specs.Int.{next_multiple_of}
use Rattle.std.specs.List.{list_any}
use Rattle.std.specs.Str.{bytes_eq}
use Rattle.pa_ctype.specs.Types.{Of, Function, Nil}
use Rattle.pa_ctype.specs.Equality.{same_type}
use Rattle.pa_typed.specs.Units.{FunctionTree, GlobalTree, DeclaredTree, UnitTree, ProgramTree, function_named, sizes_of}
use Rattle.pa_cmean.specs.Calls.{int, putchar, getchar, main, runtime_type}
use Rattle.pa_ctype.specs.Layouts.{Table}
use Rattle.pa_ctype.specs.Raised.{followed}
use Rattle.pa_link.specs.declared.rule.LinkFault.{LinkFault}
use Rattle.pa_link.specs.declared.rule.LinkRule.{LinkRule}
use Rattle.pa_link.specs.declared.rule.LinkRule.TheVariants.{L1, L2, L3, L4, M1, M2, M3, M4}
use Rattle.pa_link.specs.Moved.{Move, moved_function, moved_global, moved_declared}
use Rattle.pa_link.specs.Uses.{Use, uses}

abbrev pub fault : LinkRule → ℕ → ℕ → LinkFault
fault rule file place = record { rule = rule; file = file; place = place }

-- ---- the files in the program

-- what the file of this number declares and defines, with its names, structs and string literals as in the program
pub record Part : Type 0 where
  pub file : ℕ
  pub functions : List FunctionTree
  pub globals : List GlobalTree
  pub declared : List DeclaredTree

-- names that a declaration of the file gives internal linkage (6.2.2p3)
abbrev pub internal_name : DeclaredTree → Option (List ℕ)
internal_name d = if d.public then None else Some d.name

abbrev pub move_of : ℕ → ℕ → ℕ → UnitTree → Move
move_of file structs texts unit = record { file = file; internal = filter_map internal_name unit.declared; structs = structs; texts = texts }

abbrev pub part_of : Move → UnitTree → Part
part_of m unit = record {
  file = m.file;
  functions = map (moved_function m) unit.functions;
  globals = map (moved_global m) unit.globals;
  declared = map (moved_declared m) unit.declared;
}

-- the files from a number on, behind so many structs and string literals
unfoldable pub parts_from : ℕ → ℕ → ℕ → List UnitTree → List Part
parts_from file structs texts [] = []
parts_from file structs texts (unit ∷ units) =
    part_of (move_of file structs texts unit) unit ∷ parts_from (suc file) (structs + length unit.structs) (texts + length unit.texts) units

abbrev pub parts : List UnitTree → List Part
parts units = parts_from 1 0 0 units

-- the structs of the files behind those of a table
unfoldable pub structs_from : Table → List UnitTree → Table
structs_from table [] = table
structs_from table (unit ∷ units) = structs_from (followed table unit.structs) units

abbrev pub together : List UnitTree → List Part → ProgramTree
together units ps = record {
  functions = flat_map (λ part. part.functions) ps;
  globals = flat_map (λ part. part.globals) ps;
  declared = flat_map (λ part. part.declared) ps;
  structs = structs_from [] units;
  texts = flat_map (λ unit. unit.texts) units;
  nodes = sum_by (λ unit. unit.nodes) units;
}

-- ---- declarations, in file and source order: at each of them L2 before L3

-- the declaration defines its name
abbrev pub is_function_at : DeclaredTree → FunctionTree → Bool
is_function_at d f = bytes_eq f.name d.name && f.place == d.place

abbrev pub is_global_at : DeclaredTree → GlobalTree → Bool
is_global_at d g = bytes_eq g.name d.name && g.place == d.place

abbrev pub defines : Part → DeclaredTree → Bool
defines part d = list_any (is_function_at d) part.functions || list_any (is_global_at d) part.globals

-- what is known of names so far: their types, and which are defined
pub record Known : Type 0 where
  pub types : List DeclaredTree
  pub defined : List (List ℕ)

abbrev pub runtime_declared : List ℕ → Option DeclaredTree
runtime_declared name = option_map (λ of. record { name = name; place = 0; public = true; of = of }) (runtime_type name)

-- the runtime's two, from the start
abbrev pub known_at_start : Known
known_at_start = record { types = filter_map runtime_declared (putchar ∷ getchar ∷ []); defined = putchar ∷ getchar ∷ [] }

abbrev pub differs : DeclaredTree → DeclaredTree → Bool
differs d known = bytes_eq known.name d.name && not (same_type known.of d.of)

abbrev pub breaks_at : Part → Known → DeclaredTree → Option LinkRule
breaks_at part known d =
    if defines part d && list_any (bytes_eq d.name) known.defined then Some L2
    else if list_any (differs d) known.types then Some L3
    else None

abbrev pub learnt : Part → Known → DeclaredTree → Known
learnt part known d = record { types = d ∷ known.types; defined = if defines part d then d.name ∷ known.defined else known.defined }

-- the first declaration of a file that breaks a rule, or what is known behind it
abbrev pub declares_more : (Known → Result Known LinkFault) → Part → Known → DeclaredTree → Option LinkRule → Result Known LinkFault
declares_more more part known d None = more (learnt part known d)
declares_more more part known d (Some rule) = Err (fault rule part.file d.place)

unfoldable pub declares : Part → List DeclaredTree → Known → Result Known LinkFault
declares part [] known = Ok known
declares part (d ∷ ds) known = declares_more (declares part ds) part known d (breaks_at part known d)

abbrev pub then_part : (Known → Option LinkFault) → Result Known LinkFault → Option LinkFault
then_part more (Ok known) = more known
then_part more (Err fault) = Some fault

unfoldable pub declaration_fault : List Part → Known → Option LinkFault
declaration_fault [] known = None
declaration_fault (part ∷ ps) known = then_part (declaration_fault ps) (declares part part.declared known)

-- ---- uses, in file and source order

abbrev pub is_defined : ProgramTree → List ℕ → Bool
is_defined program name =
    (list_any (λ f. bytes_eq f.name name) program.functions || list_any (λ g. bytes_eq g.name name) program.globals) || (bytes_eq name putchar || bytes_eq name getchar)

-- the place of a use without a definition
abbrev pub missing : ProgramTree → Use → Option ℕ
missing program u = if is_defined program u.name then None else Some u.place

abbrev pub less : Option ℕ → ℕ → ℕ
less None b = b
less (Some a) b = if nat_lt a b then a else b

unfoldable pub least : List ℕ → Option ℕ
least [] = None
least (n ∷ ns) = Some (less (least ns) n)

abbrev pub unit_use_fault : ProgramTree → Part → Option LinkFault
unit_use_fault program part = option_map (fault L1 part.file) (least (filter_map (missing program) (uses part.globals part.functions)))

-- ---- `main`, and the limits

abbrev pub is_main : Option FunctionTree → Bool
is_main None = false
is_main (Some f) = same_type f.of (Of false (Function Nil int))

abbrev pub main_fault : ProgramTree → Option LinkFault
main_fault program = if is_main (function_named program.functions main) then None else Some (fault L4 0 0)

abbrev pub most_nodes : ℕ
most_nodes = 16384

abbrev pub most_static_bytes : ℕ
most_static_bytes = 1048576

abbrev pub most_functions : ℕ
most_functions = 4096

abbrev pub most_local_bytes : ℕ
most_local_bytes = 16384

abbrev pub passes : LinkRule → ℕ → ℕ → Option LinkFault
passes rule count limit = if nat_lt limit count then Some (fault rule 0 count) else None

-- each global rounded up to 8, each string literal with its zero
abbrev pub static_bytes : ProgramTree → ℕ
static_bytes program = sum_by (λ g. next_multiple_of g.size 8) program.globals + sum_by (λ bytes. suc (length bytes)) program.texts

abbrev pub local_fault : ℕ → FunctionTree → Option LinkFault
local_fault file f = if nat_lt most_local_bytes (sizes_of f.locals) then Some (fault M4 file f.place) else None

abbrev pub unit_local_faults : Part → List LinkFault
unit_local_faults part = filter_map (local_fault part.file) part.functions

-- ---- the program

unfoldable pub first_fault : List (Option LinkFault) → Option LinkFault
first_fault [] = None
first_fault (None ∷ faults) = first_fault faults
first_fault (Some fault ∷ faults) = Some fault

abbrev pub first : List LinkFault → Option LinkFault
first [] = None
first (fault ∷ faults) = Some fault

-- the first rule that is broken: declarations, uses, `main`, and then the limits in order
abbrev pub program_fault : List Part → ProgramTree → Option LinkFault
program_fault ps program = first_fault
    (declaration_fault ps known_at_start
    ∷ first (filter_map (unit_use_fault program) ps)
    ∷ main_fault program
    ∷ passes M1 program.nodes most_nodes
    ∷ passes M2 (static_bytes program) most_static_bytes
    ∷ passes M3 (length program.functions) most_functions
    ∷ first (flat_map unit_local_faults ps)
    ∷ [])

abbrev pub program_or : ProgramTree → Option LinkFault → Result ProgramTree LinkFault
program_or program None = Ok program
program_or program (Some fault) = Err fault

-- the program of these units, or the first rule that it breaks
unfoldable pub program_of : List UnitTree → Result ProgramTree LinkFault
program_of units = program_or (together units (parts units)) (program_fault (parts units) (together units (parts units)))
