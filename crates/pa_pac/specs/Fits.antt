-- The codes are numbers of 64 bits.
use Rattle.std.proofs.Common.{ℕ, ◌/◌, ◌%◌, ◌^◌, ◌<◌, List, [], ◌∷◌, arith, lit<, bit_xor}
use Rattle.std.proofs.lemmas.Nat.{xor_lt, shl_below}
use Rattle.std.proofs.lemmas.Bool.{cond_both}
use Rattle.pa_pac.specs.declared.key.Key.{Key}
use Rattle.pa_pac.specs.declared.key.Key.TheVariants.{IA, IB, DA, DB, GA}
use Rattle.pa_pac.specs.declared.pac.PacRow.{PacRow}
use Rattle.pa_pac.specs.Key.{key_number}
use Rattle.pa_pac.specs.Functions.{sip_value, fold_value, table_value, folded, is_for}

pub key_number-lt : (key : Key) → key_number key < 5
key_number-lt IA = lit< tt
key_number-lt IB = lit< tt
key_number-lt DA = lit< tt
key_number-lt DB = lit< tt
key_number-lt GA = lit< tt

pub folded-lt : (x : ℕ) → folded x < 2 ^ 16
folded-lt x =
    let first : x % 2 ^ 16 < 2 ^ 16 = omega arith in
    let second : x / 2 ^ 16 % 2 ^ 16 < 2 ^ 16 = omega arith in
    let third : x / 2 ^ 32 % 2 ^ 16 < 2 ^ 16 = omega arith in
    let fourth : x / 2 ^ 48 % 2 ^ 16 < 2 ^ 16 = omega arith in
    xor_lt 16 _ _ (xor_lt 16 _ _ first second) (xor_lt 16 _ _ third fourth)

pub fold_value-fits : (key : Key) (pointer modifier : ℕ) → fold_value key pointer modifier < 2 ^ 64
unfolding fold_value
fold_value-fits key pointer modifier =
    let number : key_number key < 2 ^ 16 = omega (arith, key_number-lt key) in
    shl_below _ 16 48 (xor_lt 16 _ _ (folded-lt (bit_xor pointer modifier)) number)

pub table_value-fits : (rows : List PacRow) (key : Key) (pointer modifier : ℕ) → table_value rows key pointer modifier < 2 ^ 64
unfolding table_value
table_value-fits [] key pointer modifier = lit< tt
table_value-fits (row ∷ rows) key pointer modifier =
    cond_both (is_for row key pointer modifier) (row.value % 2 ^ 64) (table_value rows key pointer modifier)
    (λ x. x < 2 ^ 64) (λ _. omega arith) (λ _. table_value-fits rows key pointer modifier)

pub sip_value-fits : (k0 k1 : ℕ) (key : Key) (pointer modifier : ℕ) → sip_value k0 k1 key pointer modifier < 2 ^ 64
unfolding sip_value
sip_value-fits k0 k1 key pointer modifier = omega arith
