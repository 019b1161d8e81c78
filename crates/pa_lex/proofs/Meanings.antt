-- What forms mean.
use Rattle.std.proofs.Common.{◌≡◌, ℕ, ◌^◌, ◌<◌, Bool, true, false, cond, List, [], ◌∷◌, Option, Some, None, refl, sym, ◌∙◌, ap, arith}
use Rattle.std.specs.List.{find, list_any}
use Rattle.std.specs.Str.{bytes_eq}
use Rattle.std.specs.Str.Parse.{digits_value}
use Rattle.std.proofs.lemmas.Slice.Eq.{bytes_eq-Decides}
use Rattle.std.proofs.lemmas.Bool.Decides.{nat_tests}
use Rattle.pa_lex.specs.declared.token.Keyword.{Keyword}
use Rattle.pa_lex.specs.declared.token.Keyword.TheVariants as k
use Rattle.pa_lex.specs.declared.token.Kind.TheVariants as kind
use Rattle.pa_lex.specs.declared.form.Base.{Base}
use Rattle.pa_lex.specs.declared.form.Quote.TheVariants.{Single}
use Rattle.pa_lex.specs.Texts.{Text, keyword_text, keywords_at}
use Rattle.pa_lex.specs.Literals.{radix, is_decimal, is_u, is_l}
use Rattle.pa_lex.specs.Forms.{Number, Quoted, Meaning, Other, NoKeyword, Means, IsInteger}
use Rattle.pa_lex.specs.Reading.{keyword_of, within_u64, IsCharacterOf}

pub keyword_is : (keyword : Keyword) → keyword_of (keyword_text keyword) ≡ Some keyword
unfolding keyword_of
keyword_is k.Auto = refl
keyword_is k.Break = refl
keyword_is k.Case = refl
keyword_is k.Char = refl
keyword_is k.Const = refl
keyword_is k.Continue = refl
keyword_is k.Default = refl
keyword_is k.Do = refl
keyword_is k.Double = refl
keyword_is k.Else = refl
keyword_is k.Enum = refl
keyword_is k.Extern = refl
keyword_is k.Float = refl
keyword_is k.For = refl
keyword_is k.Goto = refl
keyword_is k.If = refl
keyword_is k.Inline = refl
keyword_is k.Int = refl
keyword_is k.Long = refl
keyword_is k.Register = refl
keyword_is k.Restrict = refl
keyword_is k.Return = refl
keyword_is k.Short = refl
keyword_is k.Signed = refl
keyword_is k.Sizeof = refl
keyword_is k.Static = refl
keyword_is k.Struct = refl
keyword_is k.Switch = refl
keyword_is k.Typedef = refl
keyword_is k.Union = refl
keyword_is k.Unsigned = refl
keyword_is k.Void = refl
keyword_is k.Volatile = refl
keyword_is k.While = refl
keyword_is k.Alignas = refl
keyword_is k.Alignof = refl
keyword_is k.Atomic = refl
keyword_is k.Bool = refl
keyword_is k.Complex = refl
keyword_is k.Generic = refl
keyword_is k.Imaginary = refl
keyword_is k.Noreturn = refl
keyword_is k.StaticAssert = refl
keyword_is k.ThreadLocal = refl
keyword_is k.Ptrauth = refl

found_by : (text : Text) (x keyword : Keyword) (b : Bool) (rest : Option Keyword) → bytes_eq (keyword_text x) text ≡ b → (rest ≡ Some keyword → text ≡ keyword_text keyword) → cond b (Some x) rest ≡ Some keyword → text ≡ keyword_text keyword
found_by text x keyword true rest h more f = let same : x ≡ keyword = cc in sym ((bytes_eq-Decides (keyword_text x) text).0 h) ∙ ap keyword_text same
found_by text x keyword false rest h more f = more f

found_in : (text : Text) (keywords : List Keyword) (keyword : Keyword) → find (λ x. bytes_eq (keyword_text x) text) keywords ≡ Some keyword → text ≡ keyword_text keyword
found_in text [] keyword e = cc
found_in text (x ∷ xs) keyword e = found_by text x keyword (bytes_eq (keyword_text x) text) (find (λ y. bytes_eq (keyword_text y) text) xs) refl (found_in text xs keyword) e

pub keyword_found : (text : Text) (keyword : Keyword) → keyword_of text ≡ Some keyword → text ≡ keyword_text keyword
unfolding keyword_of
keyword_found [] keyword e = cc
keyword_found (c ∷ t) keyword e = found_in (c ∷ t) (keywords_at c) keyword e

pub keyword_none : (text : Text) → keyword_of text ≡ None → NoKeyword text
keyword_none text e keyword same = let f : Some keyword ≡ None = sym (keyword_is keyword) ∙ ap keyword_of (sym same) ∙ e in cc

within_some : (n m : ℕ) → within_u64 n ≡ Some m → (m ≡ n) × (m < 2 ^ 64)
within_some n m e = (grind (arith, nat_tests), grind (arith, nat_tests))

within_none : (n : ℕ) → within_u64 n ≡ None → n < 2 ^ 64 → ⊥
within_none n e h = grind (arith, nat_tests)

pub number_means : (base : Base) (digits suffix : Text) (value : ℕ) (decimal unsigned long : Bool) → within_u64 (digits_value (radix base) digits) ≡ Some value → decimal ≡ is_decimal base → unsigned ≡ list_any is_u suffix → long ≡ list_any is_l suffix
    → IsInteger base digits suffix value decimal unsigned long
number_means base digits suffix value decimal unsigned long e d u l =
    let w = within_some (digits_value (radix base) digits) value e in record { value_is = w.0; small = w.1; decimal_is = d; unsigned_is = u; long_is = l }

pub number_none : (base : Base) (digits suffix : Text) (meaning : Meaning) → within_u64 (digits_value (radix base) digits) ≡ None → Means (Number base digits suffix) meaning → ⊥
number_none base digits suffix (Other (kind.Integer value decimal unsigned long)) e m = let s = m.small in let v = m.value_is in within_none (digits_value (radix base) digits) e (omega arith)
number_none base digits suffix _ e m = elim m [ ]

pub character_none : (body : Text) (meaning : Meaning) → IsCharacterOf body None → Means (Quoted Single body) meaning → ⊥
character_none body (Other (kind.Character value)) none (byte, stands, v) = none byte stands
character_none body _ none m = elim m [ ]
