-- What initializers of local objects give their cells, by hand.
use Rattle.std.proofs.Common.{◌≡◌, ℕ, true, false, List, [], ◌∷◌, Some, None, refl, codes}
use Rattle.std.specs.Prelude.{pos, negsuc}
use Rattle.pa_ctype.specs.Types.{TypeTree, Of, Integer, Array, Struct}
use Rattle.pa_ctype.specs.Layouts.{Body}
use Rattle.pa_typed.specs.Typed.{TypedExpr, LocalPlace, Member, Index, Load, AddressOf, Convert, GivenValue, GivenText, TypedGiven, TypedInitial, InitLocal}
use Rattle.pa_typed.specs.Units.{ProgramTree}
use Rattle.pa_cmean.specs.Results.{Meaning, End, Done, Undefined}
use Rattle.pa_cmean.proofs.Runs.{result}
use Rattle.pa_cmean.proofs.Trees.{char, int, to, array, number, sum, print, give, local_tree, main, program}

abbrev gives : ProgramTree → End × List ℕ
gives p = let m : Meaning = result p [] 600 in (m.end, m.output)

abbrev part : ℕ → TypeTree → TypedGiven → TypedInitial
part at of given = record { at = at; of = of; given = given }

-- `struct { int a; char s[3]; int b; }` of 12 bytes, with the text "h" and one that is longer than its array
abbrev body : Body
body = record { name = codes "a"; of = int } ∷ record { name = codes "s"; of = array 3 char } ∷ record { name = codes "b"; of = int } ∷ []

abbrev object : TypeTree
object = Of false (Struct 0)

abbrev with_parts : List TypedInitial → TypedExpr → ProgramTree
with_parts parts e = record (program (main (local_tree object 12 ∷ []) (InitLocal (record { local = 0; initials = Some parts }) ∷ give e ∷ []) ∷ [])) { structs = Some body ∷ []; texts = codes "h" ∷ codes "abcd" ∷ [] }

abbrev member : ℕ → ℕ → TypedExpr
member index offset = Load (Member (LocalPlace 0 object) index offset int) int

abbrev letter : ℕ → TypedExpr
letter i = Convert (Load (Index (AddressOf (Member (LocalPlace 0 object) 1 4 (array 3 char)) (to char)) (number i) true char) char) int

abbrev all_parts : List TypedInitial
all_parts = part 0 int (GivenValue (print (number 65))) ∷ part 4 (array 3 char) (GivenText 0) ∷ part 8 int (GivenValue (print (number 66))) ∷ []

-- in the order of the cells; the text's byte, and a zero behind it
values_in_order : gives (with_parts all_parts (member 2 8)) ≡ (Done (pos 66), 65 ∷ 66 ∷ [])
unfolding result
values_in_order = refl

byte_of_text : gives (with_parts all_parts (letter 0)) ≡ (Done (pos 104), 65 ∷ 66 ∷ [])
unfolding result
byte_of_text = refl

behind_text : gives (with_parts all_parts (letter 2)) ≡ (Done (pos 0), 65 ∷ 66 ∷ [])
unfolding result
behind_text = refl

-- of a longer text the bytes that the array has
long_text : gives (with_parts (part 4 (array 3 char) (GivenText 1) ∷ []) (sum (letter 2) (member 2 8))) ≡ (Done (pos 99), [])
unfolding result
long_text = refl

-- zeros in front of the first part that is named
zero_in_front : gives (with_parts (part 8 int (GivenValue (number 3)) ∷ []) (sum (member 0 0) (member 2 8))) ≡ (Done (pos 3), [])
unfolding result
zero_in_front = refl

-- `char s[2] = "hi"; return s[1];`: the zero at the end may be cut
cut_zero : gives (record (program (main (local_tree (array 2 char) 2 ∷ [])
    (InitLocal (record { local = 0; initials = Some (part 0 (array 2 char) (GivenText 0) ∷ []) }) ∷ give (Convert (Load (Index (AddressOf (LocalPlace 0 (array 2 char)) (to char)) (number 1) true char) char) int) ∷ []) ∷ [])) { texts = codes "hi" ∷ [] }) ≡ (Done (pos 105), [])
unfolding result
cut_zero = refl

-- `struct { char a[2]; char b[2]; } s = { "x", "y" };`: `s.b[0]` and `s.a[1]`
abbrev two_texts : ℕ → ℕ → ℕ → ProgramTree
two_texts index offset i = record (program (main (local_tree object 4 ∷ [])
    (InitLocal (record { local = 0; initials = Some (part 0 (array 2 char) (GivenText 0) ∷ part 2 (array 2 char) (GivenText 1) ∷ []) })
    ∷ give (Convert (Load (Index (AddressOf (Member (LocalPlace 0 object) index offset (array 2 char)) (to char)) (number i) true char) char) int) ∷ []) ∷ [])) {
      structs = Some (record { name = codes "a"; of = array 2 char } ∷ record { name = codes "b"; of = array 2 char } ∷ []) ∷ [];
      texts = codes "x" ∷ codes "y" ∷ [];
    }

second_text : gives (two_texts 1 2 0) ≡ (Done (pos 121), [])
unfolding result
second_text = refl

behind_first_text : gives (two_texts 0 0 1) ≡ (Done (pos 0), [])
unfolding result
behind_first_text = refl

-- an unsigned array has the bytes themselves, that of a signed `char` is negative
abbrev high_byte : TypeTree → ProgramTree
high_byte of = record (program (main (local_tree (array 1 of) 1 ∷ [])
    (InitLocal (record { local = 0; initials = Some (part 0 (array 1 of) (GivenText 0) ∷ []) }) ∷ give (Convert (Load (Index (AddressOf (LocalPlace 0 (array 1 of)) (to of)) (number 0) true of) of) int) ∷ []) ∷ [])) { texts = (200 ∷ []) ∷ [] }

unsigned_bytes : gives (high_byte (Of false (Integer 8 false))) ≡ (Done (pos 200), [])
unfolding result
unsigned_bytes = refl

signed_bytes : gives (high_byte char) ≡ (Done (negsuc 55), [])
unfolding result
signed_bytes = refl

-- trees that no program has: a text in an array without a length, a literal that isn't there, parts that are no cells
no_length : gives (with_parts (part 4 (Of false (Array char None)) (GivenText 0) ∷ []) (member 0 0)) ≡ (Undefined, [])
unfolding result
no_length = refl

no_literal : gives (with_parts (part 4 (array 3 char) (GivenText 2) ∷ []) (member 0 0)) ≡ (Undefined, [])
unfolding result
no_literal = refl

between_cells : gives (with_parts (part 2 int (GivenValue (number 1)) ∷ []) (member 0 0)) ≡ (Undefined, [])
unfolding result
between_cells = refl

behind_cells : gives (with_parts (part 12 int (GivenValue (number 1)) ∷ []) (member 0 0)) ≡ (Undefined, [])
unfolding result
behind_cells = refl
