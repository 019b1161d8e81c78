-- The names that an include line brings in (C11 7.20.1.1, 7.21.1, 7.21.7.6, 7.21.7.8; `ptrauth.h` of Clang).
use Rattle.std.specs.Prelude.{ℕ, pos, negsuc, Bool, true, false, ◌||◌, if◌then◌else◌, List, [], ◌∷◌, Ok, codes}
use Rattle.pa_lex.specs.declared.token.Include.{Include}
use Rattle.pa_lex.specs.declared.token.Include.TheVariants as include
use Rattle.pa_ctype.specs.Types.{TypeTree, Of, Function, Nil, Cons}
use Rattle.pa_scope.specs.Answers.{Answer, breaks_at, then_with}
use Rattle.pa_convert.specs.Conversions.{int, integer}
use Rattle.pa_scope.specs.Scope.{Scope, Declaration, Meaning, Global, Constant, TypeName, Discriminator, declared, is_twice}
use Rattle.pa_scope.specs.declared.rule.TypeRule.TheVariants.{C2}

abbrev pub brings : List ℕ → Meaning → Declaration
brings name means = record { name = name; means = means }

abbrev pub putchar_type : TypeTree
putchar_type = Of false (Function (Cons int Nil) int)

abbrev pub getchar_type : TypeTree
getchar_type = Of false (Function Nil int)

abbrev pub header_names : Include → List Declaration
header_names include.Stdio =
    brings (codes "putchar") (Global putchar_type)
    ∷ brings (codes "getchar") (Global getchar_type)
    ∷ brings (codes "EOF") (Constant (negsuc 0) true)
    ∷ brings (codes "NULL") (Constant (pos 0) true)
    ∷ []
header_names include.Stdint =
    brings (codes "int8_t") (TypeName (integer 8 true))
    ∷ brings (codes "int16_t") (TypeName (integer 16 true))
    ∷ brings (codes "int32_t") (TypeName (integer 32 true))
    ∷ brings (codes "int64_t") (TypeName (integer 64 true))
    ∷ brings (codes "uint8_t") (TypeName (integer 8 false))
    ∷ brings (codes "uint16_t") (TypeName (integer 16 false))
    ∷ brings (codes "uint32_t") (TypeName (integer 32 false))
    ∷ brings (codes "uint64_t") (TypeName (integer 64 false))
    ∷ []
header_names include.Ptrauth =
    brings (codes "ptrauth_key_asia") (Constant (pos 0) true)
    ∷ brings (codes "ptrauth_key_asib") (Constant (pos 1) true)
    ∷ brings (codes "ptrauth_key_asda") (Constant (pos 2) true)
    ∷ brings (codes "ptrauth_key_asdb") (Constant (pos 3) true)
    ∷ brings (codes "ptrauth_key_function_pointer") (Constant (pos 0) true)
    ∷ brings (codes "ptrauth_key_process_independent_code") (Constant (pos 0) true)
    ∷ brings (codes "ptrauth_key_return_address") (Constant (pos 1) true)
    ∷ brings (codes "ptrauth_key_process_dependent_code") (Constant (pos 1) true)
    ∷ brings (codes "ptrauth_string_discriminator") Discriminator
    ∷ []

abbrev pub all_declared : ℕ → List Declaration → Scope → Answer Scope
all_declared place [] s = Ok s
all_declared place (d ∷ ds) s = then_with (declared d.name place d.means s) (all_declared place ds)

abbrev pub any_twice : List Declaration → Scope → Bool
any_twice [] s = false
any_twice (d ∷ ds) s = is_twice d.name d.means s || any_twice ds s

-- with the names of a line, whose place this is: it is one construct
abbrev pub brought_in : ℕ → List Declaration → Scope → Answer Scope
brought_in place ds s = if any_twice ds s then breaks_at C2 place else all_declared place ds s

abbrev pub is_same_header : Include → Include → Bool
is_same_header include.Stdio include.Stdio = true
is_same_header include.Stdint include.Stdint = true
is_same_header include.Ptrauth include.Ptrauth = true
is_same_header _ _ = false

abbrev pub has_header : List Include → Include → Bool
has_header [] line = false
has_header (h ∷ hs) line = is_same_header h line || has_header hs line
