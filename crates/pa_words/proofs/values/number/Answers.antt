-- A number that `parse` doesn't take is 2^64 at least.
use Rattle.std.proofs.Common.{◌≡◌, ℕ, ◌<◌, ◌^◌, length, true, false, List, arith, Result, Err}
use Rattle.std.specs.Prelude.{nat_le, None}
use Rattle.std.specs.Str.{all_ascii_digits}
use Rattle.std.specs.Str.Parse.{digits_value, ParsesUnsigned}
use Rattle.std.proofs.lemmas.Result.{OkIff-at_err}
use Rattle.std.proofs.lemmas.Str.Parse.{IsNumeralModel, numerals_by_value, tells_all_ascii_digits, parse_digits}
use Rattle.std.proofs.lemmas.Grind.{common_steps}
use Rattle.pa_words.specs.Values as spec
use Rattle.pa_words.proofs.values.number.Goals as goal

own_digits : IsNumeralModel (λ ds. all_ascii_digits ds ≡ true) (digits_value 10)
own_digits = numerals_by_value (λ ds. all_ascii_digits ds ≡ true) tells_all_ascii_digits

too_great : {E : Type 0} (ds : List ℕ) (most : ℕ) (r : Result ℕ E) (err : E) → ParsesUnsigned 64 10 ds r → all_ascii_digits ds ≡ true → 0 < length ds
    → r ≡ Err err → most < 2 ^ 64 → nat_le (digits_value 10 ds) most ≡ false
too_great ds most r err p all some e fits =
    let not_both = OkIff-at_err r _ _ err (parse_digits own_digits 64 ds r p all) e in
    grind (arith, common_steps, not_both)

none_of : (least most : ℕ) (w : List ℕ) → nat_le (digits_value 10 w) most ≡ false → None ≡ spec.number_within least most w
none_of least most w e = grind (arith, common_steps, e)

pub returns-in_default-3 : goal.returns-in_default-3
returns-in_default-3 c =
    let digits : all_ascii_digits c.args.word.now ≡ true = grind (arith, common_steps) in
    let some : 0 < length c.args.word.now = grind (arith, common_steps) in
    let great = too_great c.args.word.now c.args.most c.parse.result c.in_default.field-0 c.parse.ensures.value.0 digits some c.in_default.is (omega arith) in
    none_of c.args.least c.args.most c.args.word.now great
