-- The place of the slot of `_putchar`.
use Rattle.std.proofs.Common.{◌≡◌, ℕ, suc, ◌+◌, ◌-◌, ◌*◌, ◌/◌, ◌%◌, ◌^◌, ◌<◌, ◌≤◌, true, false, List, [], ◌∷◌, ◌++◌, length, take, drop, replicate, refl, sym, ap, subst, ◌∙◌, arith, length-append}
use Rattle.std.proofs.lemmas.Bool.{le-leb, and_from, or_left, or_right}
use Rattle.std.proofs.lemmas.List.{length-replicate, take_at}
use Rattle.byteorder.specs.Endian.{little_number, little_bytes}
use Rattle.byteorder.specs.Numbers.{little_number-reads_back}
use Rattle.pa_num.specs.Arithmetic.{add64, scaled64}
use Rattle.std.specs.Prelude.{pos}
use Rattle.pa_pac.specs.Schema.{blend, modifier}
use Rattle.pa_mem.specs.Memory.{Region, Right, has, load, allowed, bytes_at, all_apart}
use Rattle.pa_mem.proofs.Apart.{IsAt, bytes_at-region}
use Rattle.pa_mem.proofs.Numbers.{load-bytes_at}
use Rattle.pa_object.proofs.Steps.{add64_small, scaled64_small}
use Rattle.pa_fixups.specs.Chain.{put_at}

-- what the slot is signed over is its own address
pub own_address : (at : ℕ) → at < 2 ^ 48 → modifier true 0 at ≡ at
unfolding blend
own_address at low = omega arith

-- from the stub the slot's page is reached
pub page_reached : (slide place : ℕ) → slide < 2 ^ 16 → place < 0x4000
    → add64 (0x100000000 + 0x4000 * slide + place - (0x100000000 + 0x4000 * slide + place) % 4096) (scaled64 4096 (pos (4 - place / 4096))) ≡ 0x100000000 + 0x4000 * slide + 0x4000
page_reached slide place low inside =
    ap (add64 (0x100000000 + 0x4000 * slide + place - (0x100000000 + 0x4000 * slide + place) % 4096)) (scaled64_small 4096 (4 - place / 4096) (omega arith))
    ∙ add64_small (0x100000000 + 0x4000 * slide + place - (0x100000000 + 0x4000 * slide + place) % 4096) (4096 * (4 - place / 4096)) (omega arith)
    ∙ omega arith
