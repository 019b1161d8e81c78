-- Filling slot by slot.
use Rattle.std.proofs.Common.{◌≡◌, ℕ, ◌+◌, ◌≤◌, List, [], ◌∷◌, ◌++◌, length, refl, sym, ap, subst, ◌∙◌, append_assoc, arith, Option, Some, None}
use Rattle.std.specs.Prelude.{reverse}
use Rattle.std.specs.List.{flat_map}
use Rattle.std.proofs.lemmas.List.{append-nil, reverse-append}
use Rattle.byteorder.specs.Endian.{little_bytes}
use Rattle.byteorder.specs.Numbers.{length-bytes_low_first}
use Rattle.pa_pac.specs.Log.{Log}
use Rattle.pa_pac.specs.Signing.{Code}
use Rattle.pa_fixups.specs.declared.kind.Fix.{Fix}
use Rattle.pa_fixups.specs.declared.kind.Sig.{Sig}
use Rattle.pa_fixups.specs.Chain.{put_at}
use Rattle.pa_fixups.proofs.Written.{length-put_at}
use Rattle.pa_load.specs.Filling.{Filling, pointer, sig_of, signed, slot_address, slot_value, slot_signs, filled, filling_log}
use Rattle.pa_load.specs.Ready.{AllReady}

-- what is left to fill, once some slots are filled
pub record Going (code : Code) (f : Filling) (fixes : List Fix) (first : List ℕ) (rest : List Fix) (contents : List ℕ) (entries : Log) (spare : ℕ) : Type 0 where
  pub ready : AllReady f (length contents) rest
  pub room : length rest ≤ spare
  pub held : filled code f rest contents ≡ filled code f fixes first
  pub log : reverse (flat_map (slot_signs code f) rest) ++ entries ≡ filling_log code f fixes

pub going_first : (code : Code) (f : Filling) (fixes : List Fix) (first : List ℕ) (entries : Log) (spare : ℕ) → AllReady f (length first) fixes → length fixes ≤ spare → entries ≡ [] → Going code f fixes first fixes first entries spare
unfolding filling_log
going_first code f fixes first entries spare ready room empty = record {
  ready = ready;
  room = room;
  held = refl;
  log = ap (λ (l : Log). reverse (flat_map (slot_signs code f) fixes) ++ l) empty ∙ append-nil (reverse (flat_map (slot_signs code f) fixes));
}

pub one_signed : (code : Code) (sig : Option Sig) (at raw : ℕ) → reverse (signed code sig at raw) ≡ signed code sig at raw
one_signed code None at raw = refl
one_signed code (Some sig) at raw = refl

log_more : (code : Code) (f : Filling) (fix : Fix) (behind : List Fix) (old : Log) → reverse (flat_map (slot_signs code f) behind) ++ (slot_signs code f fix ++ old) ≡ reverse (flat_map (slot_signs code f) (fix ∷ behind)) ++ old
log_more code f fix behind old =
    let later = flat_map (slot_signs code f) behind in
    let one = one_signed code (sig_of fix.kind) (slot_address f fix) (pointer f fix.kind) in
    sym (append_assoc (reverse later) (slot_signs code f fix) old)
    ∙ ap (λ (l : Log). (reverse later ++ l) ++ old) (sym one)
    ∙ ap (λ (l : Log). l ++ old) (sym (reverse-append (slot_signs code f fix) later))

pub going_on : (code : Code) (f : Filling) (fixes : List Fix) (first : List ℕ) (rest : List Fix) (fix : Fix) (behind : List Fix) (contents next : List ℕ) (word : ℕ) (old new : Log) (spare left : ℕ) → Going code f fixes first rest contents old spare
    → rest ≡ fix ∷ behind → word ≡ slot_value code f fix → next ≡ put_at fix.at (little_bytes 8 word) contents → new ≡ slot_signs code f fix ++ old → spare ≤ left + 1 → Going code f fixes first behind next new left
unfolding filled
going_on code f fixes first rest fix behind contents next word old new spare left g e v p n le =
    let h = subst (λ (l : List Fix). Going code f fixes first l contents old spare) e g in
    let room = h.room in
    let ready = h.ready.0 in
    let word_size = length-bytes_low_first 0 8 word in
    let same : length next ≡ length contents = ap length p ∙ length-put_at fix.at (little_bytes 8 word) contents (omega arith) in
    let put : next ≡ put_at fix.at (little_bytes 8 (slot_value code f fix)) contents = p ∙ ap (λ (w : ℕ). put_at fix.at (little_bytes 8 w) contents) v in
    record {
      ready = subst (λ (k : ℕ). AllReady f k behind) (sym same) h.ready.1;
      room = omega arith;
      held = ap (filled code f behind) put ∙ h.held;
      log = ap (λ (l : Log). reverse (flat_map (slot_signs code f) behind) ++ l) n ∙ log_more code f fix behind old ∙ h.log;
    }

pub going_done : (code : Code) (f : Filling) (fixes : List Fix) (first : List ℕ) (rest : List Fix) (contents : List ℕ) (entries : Log) (spare : ℕ) → Going code f fixes first rest contents entries spare → length rest ≡ 0
    → (contents ≡ filled code f fixes first) × (entries ≡ filling_log code f fixes)
unfolding filled
going_done code f fixes first [] contents entries spare g e = (g.held, g.log)
going_done code f fixes first (fix ∷ rest) contents entries spare g e = absurd (omega arith)
