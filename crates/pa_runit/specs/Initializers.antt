-- Initializers (C11 6.7.9): which parts of an object get which values. Each aggregate inside another has braces of its own, but for a
-- string that an array of characters gets.
use Rattle.std.specs.Prelude.{ℕ, zero, suc, ◌+◌, ◌*◌, ◌==◌, nat_lt, nat_le, pos, Bool, true, false, ◌||◌, if◌then◌else◌, List, [], ◌∷◌, ◌++◌, length, Option, Some, None, Result, Ok, Err}
use Rattle.std.specs.Int.{next_multiple_of}
use Rattle.pa_num.specs.Arithmetic.{unsigned64}
use Rattle.pa_tree.specs.Exprs.{ExprTree}
use Rattle.pa_tree.specs.Exprs as tree
use Rattle.pa_tree.specs.Stmts.{InitializerTree, InitializerTrees}
use Rattle.pa_tree.specs.Stmts as init
use Rattle.pa_ctype.specs.declared.ctype.Layout.{Layout}
use Rattle.pa_ctype.specs.Types.{TypeTree, Of, Integer, Array, Struct}
use Rattle.pa_ctype.specs.Layouts.{Body, Table, body_of, layout_in, placed, empty}
use Rattle.pa_typed.specs.Typed.{TypedExpr, TypedInitial, TypedGiven, GivenValue, GivenText}
use Rattle.pa_typed.specs.Typed as to
use Rattle.pa_scope.specs.declared.rule.TypeRule.{TypeRule}
use Rattle.pa_scope.specs.declared.rule.TypeRule.TheVariants.{C10, C13, C23, C25}
use Rattle.pa_scope.specs.Answers.{Answer, breaks_at, then_with, at_place}
use Rattle.pa_rexpr.specs.Constants.{Flaw, flaw_rule, initial_flaw, in_type}
use Rattle.pa_convert.specs.Conversions.{is_scalar, value_type}
use Rattle.pa_scope.specs.Scope.{Spelling, Scope, with_length}
use Rattle.pa_rexpr.specs.Values.{Typed, read, given}
use Rattle.pa_rexpr.specs.Names.{text_of, texts, from_of}
use Rattle.pa_rexpr.specs.Typing.{typing}

-- What an object gets: its parts, ascending; the string literals among them that lie in memory by themselves; how many items a list
-- has, or elements a string fills; whether items are left over.
pub record Filled : Type 0 where
  pub parts : List TypedInitial
  pub texts : List (List ℕ)
  pub count : ℕ
  pub excess : Bool

abbrev pub nothing : Filled
nothing = record { parts = []; texts = []; count = 0; excess = false }

-- ---- scalars

abbrev pub one_part : Spelling → ℕ → TypeTree → ExprTree → TypedExpr → Filled
one_part spelling at of e value = record { parts = record { at = at; of = of; given = GivenValue value } ∷ []; texts = texts spelling e; count = 1; excess = false }

abbrev pub without_flaw : Option Flaw → TypedExpr → Result TypedExpr TypeRule
without_flaw None value = Ok value
without_flaw (Some flaw) value = Err (flaw_rule flaw)

-- an object of the file gets constants (6.7.9p4), and a struct is none
abbrev pub constant_if : Bool → TypeTree → Result TypedExpr TypeRule → Result TypedExpr TypeRule
constant_if true of (Err C23) = Err C13
constant_if static of (Err rule) = Err rule
constant_if false of (Ok value) = Ok value
constant_if true of (Ok value) = without_flaw (initial_flaw of value) value

-- ---- strings (6.7.9p14)

-- the characters of an array, where it is one
abbrev pub characters : TypeTree → Option TypeTree
characters (Of c (Array (Of d (Integer bits signed)) count)) = if bits == 8 then Some (Of d (Integer bits signed)) else None
characters t = None

abbrev pub length_of : TypeTree → Option ℕ
length_of (Of c (Array of count)) = count
length_of t = None

abbrev pub count_or : ℕ → Option ℕ → ℕ
count_or n None = n
count_or n (Some count) = count

-- as many elements as the array has, or the string with its zero
abbrev pub string_count : TypeTree → List ℕ → ℕ
string_count of bytes = count_or (suc (length bytes)) (length_of of)

abbrev pub character_at : TypeTree → ℕ → ℕ → TypedInitial
character_at of at byte = record { at = at; of = of; given = GivenValue (to.Number (unsigned64 (in_type of (pos byte))) (value_type of)) }

abbrev pub characters_from : TypeTree → ℕ → ℕ → List ℕ → List TypedInitial
characters_from of at left [] = []
characters_from of at zero (byte ∷ bytes) = []
characters_from of at (suc left) (byte ∷ bytes) = character_at of at byte ∷ characters_from of (suc at) left bytes

-- an object of the file holds the string itself, with its zero where that fits; a local one gets it from memory
abbrev pub string_filled : Bool → TypeTree → TypeTree → ℕ → ℕ → List ℕ → Filled
string_filled true of element at n bytes =
    record { parts = characters_from element at (string_count of bytes) (bytes ++ (0 ∷ [])); texts = []; count = string_count of bytes; excess = false }
string_filled false of element at n bytes =
    record { parts = record { at = at; of = with_length (string_count of bytes) of; given = GivenText n } ∷ []; texts = bytes ∷ []; count = string_count of bytes; excess = false }

-- the zero at the end may be cut
abbrev pub string_into : Bool → TypeTree → TypeTree → ℕ → ℕ → ℕ → List ℕ → Answer Filled
string_into static of element at n place bytes =
    if nat_le (length bytes) (string_count of bytes) then Ok (string_filled static of element at n bytes) else breaks_at C25 place

-- a string literal for an array of characters
pub record StringFor : Type 0 where
  pub element : TypeTree
  pub place : ℕ
  pub bytes : List ℕ

abbrev pub text_place : ExprTree → ℕ
text_place (tree.Paren inner a z) = text_place inner
text_place e = from_of e

abbrev pub string_by : ℕ → Option TypeTree → Option (List ℕ) → Option StringFor
string_by place (Some element) (Some bytes) = Some (record { element = element; place = place; bytes = bytes })
string_by place _ _ = None

abbrev pub string_for : TypeTree → ExprTree → Option StringFor
string_for of e = string_by (text_place e) (characters of) (text_of e)

-- it may stand in one pair of braces
abbrev pub only_string : TypeTree → InitializerTrees → Option StringFor
only_string of (init.ConsInitializer (init.Value e a z) init.NoInitializers) = string_for of e
only_string of items = None

-- a string that there is, or else what is read otherwise
abbrev pub string_or : Bool → TypeTree → ℕ → ℕ → Option StringFor → Answer Filled → Answer Filled
string_or static of at n None other = other
string_or static of at n (Some string) other = string_into static of string.element at n string.place string.bytes

-- ---- the parts that a list goes through (6.7.9p17, p18)

-- a part of an object, and where it begins
pub record Slot : Type 0 where
  pub at : ℕ
  pub of : TypeTree

abbrev pub element_slot : TypeTree → Option ℕ → ℕ → ℕ → Option Layout → Option Slot
element_slot of count at index None = None
element_slot of None at index (Some l) = Some (record { at = at + index * l.size; of = of })
element_slot of (Some count) at index (Some l) = if nat_lt index count then Some (record { at = at + index * l.size; of = of }) else None

abbrev pub field_slot_by : (ℕ → Layout → Option Slot) → ℕ → ℕ → TypeTree → Layout → Option Layout → Option Slot
field_slot_by more at zero of so_far None = None
field_slot_by more at zero of so_far (Some l) = Some (record { at = at + next_multiple_of so_far.size l.align; of = of })
field_slot_by more at (suc index) of so_far None = None
field_slot_by more at (suc index) of so_far (Some l) = more index (placed so_far l)

-- the member of that number, behind those that are laid so far
abbrev pub field_slot : Table → ℕ → Body → ℕ → Layout → Option Slot
field_slot table at [] index so_far = None
field_slot table at (field ∷ body) index so_far = field_slot_by (field_slot table at body) at index field.of so_far (layout_in table field.of)

abbrev pub body_slot : Table → ℕ → ℕ → Option Body → Option Slot
body_slot table at index None = None
body_slot table at index (Some body) = field_slot table at body index empty

abbrev pub scalar_slot : TypeTree → ℕ → ℕ → Option Slot
scalar_slot of at zero = Some (record { at = at; of = of })
scalar_slot of at (suc index) = None

-- the part of a type that the item of that number goes to
abbrev pub slot : Table → TypeTree → ℕ → ℕ → Option Slot
slot table (Of c (Array of count)) at index = element_slot of count at index (layout_in table of)
slot table (Of c (Struct id)) at index = body_slot table at index (body_of table id)
slot table of at index = scalar_slot of at index

-- ---- initializers without an object: items that are left over, and what a typedef or a function has

abbrev mutual
  pub expressions_in : Spelling → Scope → InitializerTree → Answer ℕ
  expressions_in spelling s (init.Value e a z) = then_with (typing spelling s 0 e) (λ x. Ok 0)
  expressions_in spelling s (init.Braced items a z) = expressions_in_all spelling s items

  pub expressions_in_all : Spelling → Scope → InitializerTrees → Answer ℕ
  expressions_in_all spelling s init.NoInitializers = Ok 0
  expressions_in_all spelling s (init.ConsInitializer first rest) = then_with (expressions_in spelling s first) (λ n. expressions_in_all spelling s rest)

-- ---- lists

abbrev pub followed : Filled → Filled → Filled
followed first rest = record { parts = first.parts ++ rest.parts; texts = first.texts ++ rest.texts; count = suc rest.count; excess = rest.excess }

abbrev pub left_over : Filled → Filled
left_over rest = record rest { count = suc rest.count; excess = true }

-- too many items are told behind all of them, at the brace
abbrev pub list_at : ℕ → Filled → Answer Filled
list_at place filled = if filled.excess then breaks_at C25 place else Ok filled

-- a value without braces: of a scalar, or of the object itself
abbrev pub value_given : Spelling → Bool → Bool → Scope → ℕ → TypeTree → ℕ → ExprTree → Typed → Answer Filled
value_given spelling static outermost s place of at e x =
    if outermost || is_scalar of then then_with (at_place place (constant_if static of (given s.structs of (read x)))) (λ value. Ok (one_part spelling at of e value))
    else breaks_at C10 place

-- the item for a part, or one that is left over, and then the others
abbrev pub next_filled : Option Slot → (Slot → Answer Filled) → Answer ℕ → (ℕ → Answer Filled) → Answer Filled
next_filled None item expressions others = then_with expressions (λ _. then_with (others 0) (λ rest. Ok (left_over rest)))
next_filled (Some slot) item expressions others = then_with (item slot) (λ first. then_with (others (length first.texts)) (λ rest. Ok (followed first rest)))

-- `static`: the object is one of the file; `outermost`: it is the object itself, and no part of it; `n`: how many string literals
-- that lie in memory stand in front
module _ (spelling : Spelling) (static : Bool) (s : Scope) where
  unfoldable mutual
    pub filled : Bool → TypeTree → ℕ → ℕ → InitializerTree → Answer Filled
    filled outermost of at n (init.Value e a z) = string_or static of at n (string_for of e) (then_with (typing spelling s n e) (value_given spelling static outermost s a of at e))
    filled outermost of at n (init.Braced items a z) = string_or static of at n (only_string of items) (then_with (list_filled of at n 0 items) (list_at a))

    pub list_filled : TypeTree → ℕ → ℕ → ℕ → InitializerTrees → Answer Filled
    list_filled of at n index init.NoInitializers = Ok nothing
    list_filled of at n index (init.ConsInitializer first rest) =
        next_filled (slot s.structs of at index) (λ part. filled false part.of part.at n first) (expressions_in spelling s first) (λ more. list_filled of at (n + more) (suc index) rest)
