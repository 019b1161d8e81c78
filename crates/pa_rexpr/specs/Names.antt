-- Names, literals and the discriminator of a string (C11 6.4.4, 6.4.5, 6.5.1; Clang's Pointer Authentication page).
use Rattle.std.specs.Prelude.{ℕ, suc, ◌^◌, ◌==◌, nat_eq, nat_lt, ℤ, Bool, true, false, ◌&&◌, if◌then◌else◌, List, [], ◌∷◌, ◌++◌, length, Option, Some, None, Ok, codes}
use Rattle.std.specs.List.{starts_with}
use Rattle.std.specs.Str.{bytes_eq}
use Rattle.pa_num.specs.Arithmetic.{unsigned64}
use Rattle.pa_sip.specs.Discriminator.{discriminator}
use Rattle.pa_tree.specs.Exprs.{ExprTree, ExprTrees}
use Rattle.pa_tree.specs.Exprs as tree
use Rattle.pa_ctype.specs.Types.{TypeTree, Of, Array}
use Rattle.pa_typed.specs.Typed as to
use Rattle.pa_scope.specs.declared.rule.TypeRule.TheVariants.{C1, C14, C24}
use Rattle.pa_scope.specs.Answers.{Answer, breaks_at}
use Rattle.pa_convert.specs.Conversions.{char, int, unsigned_int, long, unsigned_long, pointer_to, is_function}
use Rattle.pa_scope.specs.Scope.{Spelling, Scope, Meaning, Local, Global, Constant, meaning}
use Rattle.pa_rexpr.specs.Values.{Typed, lvalue, designator}
use Rattle.pa_rexpr.specs.declared.category.Category.TheVariants.{Value}

-- ---- names (6.5.1p2)

abbrev pub ptrauth_prefix : List ℕ
ptrauth_prefix = codes "ptrauth_"

abbrev pub is_reserved : List ℕ → Bool
is_reserved name = starts_with nat_eq name ptrauth_prefix

abbrev pub is_null_name : List ℕ → Bool
is_null_name name = bytes_eq name (codes "NULL")

-- a number of a type
abbrev pub number : ℕ → TypeTree → Bool → Typed
number n of null = record { tree = to.Number n of; of = of; category = Value; null = null }

-- an enumerator or a constant of a header is a number (6.4.4.3); `NULL` goes with every pointer
abbrev pub constant_name : List ℕ → ℤ → Bool → Typed
constant_name name z brought = number (unsigned64 z) int (brought && is_null_name name)

abbrev pub local_name : ℕ → TypeTree → Typed
local_name number of = lvalue (to.LocalPlace number of) of

-- a function is the pointer to it until more is known
abbrev pub global_name : List ℕ → ℕ → TypeTree → Typed
global_name name place of =
    if is_function of then designator (to.FunctionValue name place (pointer_to of)) of else lvalue (to.GlobalPlace name place of) of

abbrev pub named_by : List ℕ → ℕ → Option Meaning → Answer Typed
named_by name place (Some (Local number of)) = Ok (local_name number of)
named_by name place (Some (Global of)) = Ok (global_name name place of)
named_by name place (Some (Constant z brought)) = Ok (constant_name name z brought)
named_by name place _ = breaks_at C1 place

-- of the names that begin so only the constants of the header may be used
abbrev pub reserved_by : List ℕ → ℕ → Option Meaning → Answer Typed
reserved_by name place (Some (Constant z true)) = Ok (constant_name name z true)
reserved_by name place _ = breaks_at C24 place

abbrev pub named : Scope → List ℕ → ℕ → Answer Typed
named s name place = if is_reserved name then reserved_by name place (meaning s name) else named_by name place (meaning s name)

-- ---- literals

-- the first type of the list in which the number lies (6.4.4.1p5)
abbrev pub first_fit : ℕ → List (TypeTree × ℕ) → Option TypeTree
first_fit n [] = None
first_fit n (t ∷ ts) = if nat_lt n (2 ^ t.1) then Some t.0 else first_fit n ts

abbrev pub without_suffix : Bool → List (TypeTree × ℕ)
without_suffix true = (int, 31) ∷ (long, 63) ∷ []
without_suffix false = (int, 31) ∷ (unsigned_int, 32) ∷ (long, 63) ∷ (unsigned_long, 64) ∷ []

abbrev pub with_long : Bool → List (TypeTree × ℕ)
with_long true = (long, 63) ∷ []
with_long false = (long, 63) ∷ (unsigned_long, 64) ∷ []

-- by whether it is decimal and has the suffixes `u` and `l`
abbrev pub candidates : Bool → Bool → Bool → List (TypeTree × ℕ)
candidates decimal false false = without_suffix decimal
candidates decimal false true = with_long decimal
candidates decimal true false = (unsigned_int, 32) ∷ (unsigned_long, 64) ∷ []
candidates decimal true true = (unsigned_long, 64) ∷ []

abbrev pub integer_by : ℕ → ℕ → Option TypeTree → Answer Typed
integer_by n place None = breaks_at C14 place
integer_by n place (Some t) = Ok (number n t (n == 0))

abbrev pub integer_literal : ℕ → Bool → Bool → Bool → ℕ → Answer Typed
integer_literal n decimal has_u has_l place = integer_by n place (first_fit n (candidates decimal has_u has_l))

-- 6.4.4.4p10
abbrev pub character : ℤ → Typed
character z = number (unsigned64 z) int false

abbrev pub char_array : ℕ → TypeTree
char_array count = Of false (Array char (Some count))

-- an array of the bytes and a zero (6.4.5p6)
abbrev pub string : ℕ → List ℕ → Typed
string number bytes = lvalue (to.StringPlace number (char_array (suc (length bytes)))) (char_array (suc (length bytes)))

-- ---- the discriminator of a string

abbrev pub is_discriminator_name : Spelling → ExprTree → Bool
is_discriminator_name spelling (tree.Identifier name a z) = bytes_eq (spelling name) (codes "ptrauth_string_discriminator")
is_discriminator_name spelling (tree.Paren inner a z) = is_discriminator_name spelling inner
is_discriminator_name spelling _ = false

-- the bytes of a string literal, in parentheses or not
abbrev pub text_of : ExprTree → Option (List ℕ)
text_of (tree.Text bytes a z) = Some bytes
text_of (tree.Paren inner a z) = text_of inner
text_of _ = None

abbrev pub only_text : ExprTrees → Option (List ℕ)
only_text (tree.ConsExpr e tree.NoExprs) = text_of e
only_text _ = None

abbrev pub discriminator_value : List ℕ → Typed
discriminator_value bytes = number (discriminator bytes) unsigned_long false

abbrev pub is_name : ExprTree → Bool
is_name (tree.Identifier name a z) = true
is_name (tree.Paren inner a z) = is_name inner
is_name _ = false

-- The string literals of an expression that lie in memory by themselves, in order: not those of an operand of `sizeof`, and not that
-- of a discriminator.
unfoldable mutual
  pub texts : Spelling → ExprTree → List (List ℕ)
  texts spelling (tree.Text bytes a z) = bytes ∷ []
  texts spelling (tree.Paren inner a z) = texts spelling inner
  texts spelling (tree.Index of at a z) = texts spelling of ++ texts spelling at
  texts spelling (tree.Call of arguments a z) = if is_discriminator_name spelling of then [] else texts spelling of ++ texts_of_all spelling arguments
  texts spelling (tree.Dot of member a z) = texts spelling of
  texts spelling (tree.Arrow of member a z) = texts spelling of
  texts spelling (tree.Postfix op of a z) = texts spelling of
  texts spelling (tree.Prefix op of a z) = texts spelling of
  texts spelling (tree.Cast wanted of a z) = texts spelling of
  texts spelling (tree.Binary op left right a z) = texts spelling left ++ texts spelling right
  texts spelling (tree.Conditional test when_true when_false a z) = texts spelling test ++ (texts spelling when_true ++ texts spelling when_false)
  texts spelling _ = []

  pub texts_of_all : Spelling → ExprTrees → List (List ℕ)
  texts_of_all spelling tree.NoExprs = []
  texts_of_all spelling (tree.ConsExpr e es) = texts spelling e ++ texts_of_all spelling es

-- where the first byte of an expression stands
abbrev pub from_of : ExprTree → ℕ
from_of (tree.Identifier name a z) = a
from_of (tree.Integer value decimal has_u has_l a z) = a
from_of (tree.Character value a z) = a
from_of (tree.Text bytes a z) = a
from_of (tree.Paren inner a z) = a
from_of (tree.Index of at a z) = a
from_of (tree.Call of arguments a z) = a
from_of (tree.Dot of member a z) = a
from_of (tree.Arrow of member a z) = a
from_of (tree.Postfix op of a z) = a
from_of (tree.Prefix op of a z) = a
from_of (tree.SizeofExpr of a z) = a
from_of (tree.SizeofType of a z) = a
from_of (tree.Cast wanted of a z) = a
from_of (tree.Binary op left right a z) = a
from_of (tree.Conditional test when_true when_false a z) = a

abbrev pub places_of : ExprTrees → List ℕ
places_of tree.NoExprs = []
places_of (tree.ConsExpr e es) = from_of e ∷ places_of es
