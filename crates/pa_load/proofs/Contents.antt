-- Bytes that are in memory as they stand in an image: constants, and data beside the slots.
use Rattle.std.proofs.Common.{◌≡◌, ℕ, ◌+◌, ◌-◌, ◌≤◌, ◌<◌, true, List, [], ◌∷◌, ◌++◌, length, take, drop, get_or, refl, sym, ap, subst, ◌∙◌, arith, ◌⊎◌}
use Rattle.std.proofs.lemmas.List.{get_or-take, get_or-drop, get_or_append_left}
use Rattle.byteorder.specs.Endian.{little_bytes}
use Rattle.byteorder.specs.Numbers.{length-bytes_low_first}
use Rattle.pa_layout.specs.Fields.{IsAt}
use Rattle.pa_pac.specs.Signing.{Code}
use Rattle.pa_fixups.specs.declared.kind.Fix.{Fix}
use Rattle.pa_fixups.specs.Chain.{put_at}
use Rattle.pa_fixups.proofs.Written.{length-put_at}
use Rattle.pa_slots.proofs.Beside.{Outside, put_outside}
use Rattle.pa_mem.specs.Memory.{Region, bytes_at, byte_at, all_apart}
use Rattle.pa_mem.proofs.Apart as mem
use Rattle.pa_image.specs.Bytes.{part}
use Rattle.pa_load.specs.Filling.{Filling, slot_value, filled}
use Rattle.pa_load.proofs.Filled.{Spaced}

-- a byte that is in no slot stays as it is when the slots are filled
pub filled_outside : (code : Code) (f : Filling) (fixes : List Fix) (bytes : List ℕ) (low k : ℕ) → Spaced low (length bytes) fixes → Outside k fixes → get_or (filled code f fixes bytes) k 0 ≡ get_or bytes k 0
unfolding filled
filled_outside code f [] bytes low k s o = refl
filled_outside code f (fix ∷ fixes) bytes low k s o =
    let word = little_bytes 8 (slot_value code f fix) in
    let inside = s.1 in
    let len : length word ≡ 8 = length-bytes_low_first 0 8 (slot_value code f fix) in
    let same : length (put_at fix.at word bytes) ≡ length bytes = length-put_at fix.at word bytes (omega arith) in
    filled_outside code f fixes (put_at fix.at word bytes) (fix.at + 8) k (subst (λ (n : ℕ). Spaced (fix.at + 8) n fixes) (sym same) s.2) o.1
    ∙ put_outside fix.at k word bytes (omega arith) (subst (λ (n : ℕ). (k < fix.at) ⊎ (fix.at + n ≤ k)) (sym len) o.0)

-- a byte of a region
pub byte_here : (regions : List Region) (i : ℕ) (region : Region) (at o : ℕ) → mem.IsAt regions i region → all_apart regions ≡ true → region.base + o ≡ at → o < length region.bytes → byte_at regions at ≡ get_or region.bytes o 0
unfolding bytes_at
byte_here regions i region at o s apart place inside =
    ap (λ (l : List ℕ). get_or l 0 0) (mem.bytes_at-region 1 regions i region at o s apart place (omega arith))
    ∙ get_or-take 1 (drop o region.bytes) 0 0 (omega arith) ∙ get_or-drop o region.bytes 0 0 ∙ ap (λ (n : ℕ). get_or region.bytes n 0) (omega arith)

-- a byte of a part of the file
pub byte_in_part : (low high k : ℕ) (bytes : List ℕ) → k < high - low → get_or (part low high bytes) k 0 ≡ get_or bytes (low + k) 0
byte_in_part low high k bytes lt = get_or-take (high - low) (drop low bytes) k 0 lt ∙ get_or-drop low bytes k 0

-- a byte of what stands at a place
pub byte_that_stands : (at k : ℕ) (bytes xs : List ℕ) → IsAt bytes at xs → k < length xs → get_or bytes (at + k) 0 ≡ get_or xs k 0
byte_that_stands at k bytes xs s lt =
    sym (get_or-drop at bytes k 0) ∙ ap (λ (l : List ℕ). get_or l k 0) s.reads ∙ get_or_append_left xs (drop (at + length xs) bytes) 0 k lt
