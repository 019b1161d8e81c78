use Rattle.std.proofs.Common.{◌≡◌, ◌/◌, ◌^◌, ◌<◌, ◌∙◌, arith, bit_xor}
use Rattle.std.proofs.lemmas.Nat.{and_mask, shl_whole, xor_lt}
use Rattle.pa_pac.specs.Functions.{fold_value, folded}
use Rattle.pa_pac.specs.Fits.{folded-lt, key_number-lt}
use Rattle.pa_pac.specs.Key.{key_number}
use Rattle.pa_pac.proofs.pac.FoldPacPac.pac.Goals as goal

pub returns : goal.returns
unfolding fold_value
returns c =
    let x = bit_xor c.args.pointer c.args.modifier in
    let number : c.from.result ≡ key_number c.args.key = c.from.ensures ∙ c.number.ensures in
    let small : key_number c.args.key < 2 ^ 16 = omega (arith, key_number-lt c.args.key) in
    rw (and_mask x 16, and_mask (x / 2 ^ 16) 16, and_mask (x / 2 ^ 32) 16, and_mask (x / 2 ^ 48) 16, number)
    (shl_whole (bit_xor (folded x) (key_number c.args.key)) 16 48 64 (xor_lt 16 _ _ (folded-lt x) small) (omega arith))
