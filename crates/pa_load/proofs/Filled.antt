-- What slots hold once they are filled.
use Rattle.std.proofs.Common.{◌≡◌, ℕ, ◌+◌, ◌^◌, ◌≤◌, ◌<◌, List, [], ◌∷◌, ◌++◌, length, take, drop, refl, sym, ap, subst, ◌∙◌, arith, Option, Some, None, ℤ, pos, negsuc}
use Rattle.std.specs.Prelude.{slice_index, ◌<ℤ◌}
use Rattle.std.proofs.lemmas.Int.{ints}
use Rattle.std.proofs.lemmas.List.{length-take-le, length-drop, drop-append-le, take-append-drop, drop_at}
use Rattle.byteorder.specs.Endian.{little_number, little_bytes}
use Rattle.byteorder.specs.Numbers.{length-bytes_low_first, little_from-append, little_number-reads_back}
use Rattle.pa_layout.specs.Fields.{number}
use Rattle.pa_pac.specs.Signing.{Code}
use Rattle.pa_pac.specs.Schema.{modifier}
use Rattle.pa_pac.proofs.Laws.{sign-lt}
use Rattle.pa_fixups.specs.declared.kind.Fix.{Fix}
use Rattle.pa_fixups.specs.declared.kind.FixKind.{FixKind}
use Rattle.pa_fixups.specs.declared.kind.FixKind.TheVariants.{Rebase, Bind, AuthRebase, AuthBind}
use Rattle.pa_fixups.specs.declared.kind.Sig.{Sig}
use Rattle.pa_fixups.specs.Slots.{FieldsFit}
use Rattle.pa_fixups.specs.Chain.{put_at}
use Rattle.pa_fixups.proofs.Written.{length-put_at}
use Rattle.pa_load.specs.Filling.{Filling, plus, pointer, sig_of, stored, slot_address, slot_value, filled}
use Rattle.pa_load.specs.Ready.{PointerFits}

-- ---- a number in place of what stood there

length-word : (w : ℕ) → length (little_bytes 8 w) ≡ 8
length-word w = length-bytes_low_first 0 8 w

length-put_word : (at w : ℕ) (bytes : List ℕ) → at + 8 ≤ length bytes → length (put_at at (little_bytes 8 w) bytes) ≡ length bytes
length-put_word at w bytes le = let e = length-word w in length-put_at at (little_bytes 8 w) bytes (omega arith)

-- a number below it is as before
put_below : (at below : ℕ) (part bytes : List ℕ) → at ≤ length bytes → below + 8 ≤ at → number 8 below (put_at at part bytes) ≡ number 8 below bytes
put_below at below part bytes le lt =
    let len = length-take-le at bytes le in
    let long : 8 ≤ length (drop below (take at bytes)) = omega (arith, length-drop below (take at bytes)) in
    let a : drop below (put_at at part bytes) ≡ drop below (take at bytes) ++ (part ++ drop (at + length part) bytes) = drop-append-le below (take at bytes) (part ++ drop (at + length part) bytes) (omega arith) in
    let b : drop below bytes ≡ drop below (take at bytes) ++ drop at bytes = ap (drop below) (sym (take-append-drop at bytes)) ∙ drop-append-le below (take at bytes) (drop at bytes) (omega arith) in
    ap (little_number 8) a ∙ little_from-append 8 (drop below (take at bytes)) (part ++ drop (at + length part) bytes) long ∙ sym (ap (little_number 8) b ∙ little_from-append 8 (drop below (take at bytes)) (drop at bytes) long)

-- and it is there
put_here : (at w : ℕ) (bytes : List ℕ) → at ≤ length bytes → w < 2 ^ 64 → number 8 at (put_at at (little_bytes 8 w) bytes) ≡ w
put_here at w bytes le lt =
    let a : drop at (put_at at (little_bytes 8 w) bytes) ≡ little_bytes 8 w ++ drop (at + length (little_bytes 8 w)) bytes = drop_at (take at bytes) (little_bytes 8 w ++ drop (at + length (little_bytes 8 w)) bytes) at (length-take-le at bytes le) in
    ap (little_number 8) a ∙ little_number-reads_back 8 w (drop (at + length (little_bytes 8 w)) bytes) lt

-- ---- slots one after the other

-- each slot has its eight bytes, from a place on and before an end
abbrev pub Spaced : (low len : ℕ) → List Fix → Type 0
Spaced low len [] = Unit {0}
Spaced low len (fix ∷ fixes) = (low ≤ fix.at) × (fix.at + 8 ≤ len) × Spaced (fix.at + 8) len fixes

pub length-filled : (code : Code) (f : Filling) (fixes : List Fix) (bytes : List ℕ) (low : ℕ) → Spaced low (length bytes) fixes → length (filled code f fixes bytes) ≡ length bytes
unfolding filled
length-filled code f [] bytes low s = refl
length-filled code f (fix ∷ fixes) bytes low s =
    let next = put_at fix.at (little_bytes 8 (slot_value code f fix)) bytes in
    let same : length next ≡ length bytes = length-put_word fix.at (slot_value code f fix) bytes s.1 in
    length-filled code f fixes next (fix.at + 8) (subst (λ (n : ℕ). Spaced (fix.at + 8) n fixes) (sym same) s.2) ∙ same

slot_kept : (code : Code) (f : Filling) (fixes : List Fix) (bytes : List ℕ) (low below : ℕ) → Spaced low (length bytes) fixes → below + 8 ≤ low → number 8 below (filled code f fixes bytes) ≡ number 8 below bytes
unfolding filled
slot_kept code f [] bytes low below s le = refl
slot_kept code f (fix ∷ fixes) bytes low below s le =
    let next = put_at fix.at (little_bytes 8 (slot_value code f fix)) bytes in
    let a = s.0 in
    let b = s.1 in
    let same : length next ≡ length bytes = length-put_word fix.at (slot_value code f fix) bytes s.1 in
    slot_kept code f fixes next (fix.at + 8) below (subst (λ (n : ℕ). Spaced (fix.at + 8) n fixes) (sym same) s.2) (omega arith)
    ∙ put_below fix.at below (little_bytes 8 (slot_value code f fix)) bytes (omega arith) (omega arith)

-- the value of a slot stands in it
pub slot_held : (code : Code) (f : Filling) (before : List Fix) (fix : Fix) (after : List Fix) (bytes : List ℕ) (low : ℕ) → Spaced low (length bytes) (before ++ fix ∷ after) → slot_value code f fix < 2 ^ 64 → number 8 fix.at (filled code f (before ++ fix ∷ after) bytes) ≡ slot_value code f fix
unfolding filled
slot_held code f [] fix after bytes low s lt =
    let next = put_at fix.at (little_bytes 8 (slot_value code f fix)) bytes in
    let b = s.1 in
    let same : length next ≡ length bytes = length-put_word fix.at (slot_value code f fix) bytes s.1 in
    slot_kept code f after next (fix.at + 8) fix.at (subst (λ (n : ℕ). Spaced (fix.at + 8) n after) (sym same) s.2) (omega arith)
    ∙ put_here fix.at (slot_value code f fix) bytes (omega arith) lt
slot_held code f (first ∷ before) fix after bytes low s lt =
    let next = put_at first.at (little_bytes 8 (slot_value code f first)) bytes in
    let same : length next ≡ length bytes = length-put_word first.at (slot_value code f first) bytes s.1 in
    slot_held code f before fix after next (first.at + 8) (subst (λ (n : ℕ). Spaced (first.at + 8) n (before ++ fix ∷ after)) (sym same) s.2) lt

pub slot_inside : (before : List Fix) (fix : Fix) (after : List Fix) (low len : ℕ) → Spaced low len (before ++ fix ∷ after) → fix.at + 8 ≤ len
slot_inside [] fix after low len s = s.1
slot_inside (first ∷ before) fix after low len s = slot_inside before fix after (first.at + 8) len s.2

-- ---- values are numbers of 64 bits

plus-lt : (address : ℕ) (addend : ℤ) → address < 2 ^ 63 → addend <ℤ pos 262144 → plus address addend < 2 ^ 64
plus-lt address (pos n) le lt = omega (arith, ints)
plus-lt address (negsuc n) le lt = omega arith

pointer-lt : (f : Filling) (kind : FixKind) → PointerFits f kind → FieldsFit kind → pointer f kind < 2 ^ 64
pointer-lt f (Rebase target high8) p k = let a = k.1 in omega arith
pointer-lt f (Bind ordinal addend) p k = let a = p.1.1 in plus-lt (slice_index f.imports ordinal) addend (omega arith) k.2
pointer-lt f (AuthRebase target sig) p k = let a = k.0 in omega arith
pointer-lt f (AuthBind ordinal sig) p k = let a = p.1.1 in omega arith

stored-lt : (code : Code) (sig : Option Sig) (at raw : ℕ) → raw < 2 ^ 64 → stored code sig at raw < 2 ^ 64
stored-lt code None at raw lt = lt
stored-lt code (Some sig) at raw lt = sign-lt code sig.key (modifier sig.addr sig.disc at) raw lt

pub slot_value-lt : (code : Code) (f : Filling) (fix : Fix) → PointerFits f fix.kind → FieldsFit fix.kind → slot_value code f fix < 2 ^ 64
slot_value-lt code f fix p k = stored-lt code (sig_of fix.kind) (slot_address f fix) (pointer f fix.kind) (pointer-lt f fix.kind p k)
