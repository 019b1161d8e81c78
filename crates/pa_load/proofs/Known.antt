-- The log of a loaded state: each slot with a schema is known in it, and nothing else stands there.
use Rattle.std.proofs.Common.{◌≡◌, ℕ, suc, ◌<◌, Bool, true, false, List, [], ◌∷◌, ◌++◌, length, refl, sym, ap, subst, ◌∙◌, arith, Option, Some, None}
use Rattle.std.specs.Prelude.{All, reverse, ◌||◌, ◌&&◌}
use Rattle.std.specs.List.{flat_map}
use Rattle.std.proofs.lemmas.Bool.{or_left, or_right, and_from}
use Rattle.std.proofs.lemmas.List.{reverse-append}
use Rattle.std.proofs.lemmas.List.Elements.{All-append, All-cons}
use Rattle.pa_pac.specs.declared.key.Key.{Key}
use Rattle.pa_pac.specs.declared.event.Event.{Event}
use Rattle.pa_pac.specs.declared.event.Event.TheVariants.{Sign, Take, Land}
use Rattle.pa_pac.specs.declared.event.Entry.{Entry}
use Rattle.pa_pac.specs.declared.event.When.TheVariants.{Load}
use Rattle.pa_pac.specs.Log.{Log, is_sign, is_known}
use Rattle.pa_pac.specs.Schema.{modifier}
use Rattle.pa_pac.specs.Signing.{Code}
use Rattle.pa_fixups.specs.declared.kind.Fix.{Fix}
use Rattle.pa_fixups.specs.declared.kind.Sig.{Sig}
use Rattle.pa_object.specs.Marked.{IsMarked, IsMarkedOver}
use Rattle.pa_object.specs.Shape.{is_known_take, all_known}
use Rattle.pa_object.proofs.StepsRun.{AreBefore, IsBefore, is_known-sign}
use Rattle.pa_load.specs.Filling.{Filling, pointer, sig_of, stored, signed, slot_address, slot_signs, filling_log}
use Rattle.pa_load.proofs.Going.{one_signed}
use Rattle.pa_load.proofs.Signs.{IsLoadSign, SignsLow}

-- ---- logs one after another

or_assoc : (a b c : Bool) → (a || (b || c)) ≡ ((a || b) || c)
or_assoc true b c = refl
or_assoc false b c = refl

is_known-append : (one two : Log) (key : Key) (modifier raw : ℕ) → is_known (one ++ two) key modifier raw ≡ (is_known one key modifier raw || is_known two key modifier raw)
unfolding is_known
is_known-append [] two key modifier raw = refl
is_known-append (entry ∷ one) two key modifier raw =
    ap (λ b. is_sign key modifier raw entry.event || b) (is_known-append one two key modifier raw)
    ∙ or_assoc (is_sign key modifier raw entry.event) (is_known one key modifier raw) (is_known two key modifier raw)

-- the signatures of slots, the last one's first
log_split : (code : Code) (f : Filling) (fix : Fix) (fixes : List Fix) → filling_log code f (fix ∷ fixes) ≡ filling_log code f fixes ++ slot_signs code f fix
unfolding filling_log
log_split code f fix fixes =
    let later = flat_map (slot_signs code f) fixes in
    reverse-append (slot_signs code f fix) later ∙ ap (λ (l : Log). reverse later ++ l) (one_signed code (sig_of fix.kind) (slot_address f fix) (pointer f fix.kind))

-- ---- what is known

signed_known : (code : Code) (sig : Sig) (at raw : ℕ) → is_known (signed code (Some sig) at raw) sig.key (modifier sig.addr sig.disc at) raw ≡ true
signed_known code sig at raw = is_known-sign sig.key (modifier sig.addr sig.disc at) raw (stored code (Some sig) at raw) Load []

-- a slot with a schema is known
pub slot_known : (code : Code) (f : Filling) (before : List Fix) (fix : Fix) (behind : List Fix) (sig : Sig) → sig_of fix.kind ≡ Some sig
    → is_known (filling_log code f (before ++ fix ∷ behind)) sig.key (modifier sig.addr sig.disc (slot_address f fix)) (pointer f fix.kind) ≡ true
slot_known code f [] fix behind sig e =
    let m = modifier sig.addr sig.disc (slot_address f fix) in
    let raw = pointer f fix.kind in
    ap (λ (l : Log). is_known l sig.key m raw) (log_split code f fix behind ∙ ap (λ s. filling_log code f behind ++ signed code s (slot_address f fix) raw) e)
    ∙ is_known-append (filling_log code f behind) (signed code (Some sig) (slot_address f fix) raw) sig.key m raw
    ∙ or_right _ _ (signed_known code sig (slot_address f fix) raw)
slot_known code f (first ∷ before) fix behind sig e =
    let m = modifier sig.addr sig.disc (slot_address f fix) in
    let raw = pointer f fix.kind in
    ap (λ (l : Log). is_known l sig.key m raw) (log_split code f first (before ++ fix ∷ behind))
    ∙ is_known-append (filling_log code f (before ++ fix ∷ behind)) (slot_signs code f first) sig.key m raw
    ∙ or_left _ _ (slot_known code f before fix behind sig e)

-- ---- what stands in the log

-- the entry is the signature of one of these slots
pub record IsSlotSign (code : Code) (f : Filling) (fixes : List Fix) (entry : Entry) : Type 0 where
  pub before : List Fix
  pub fix : Fix
  pub behind : List Fix
  pub split : fixes ≡ before ++ fix ∷ behind
  pub sig : Sig
  pub schema : sig_of fix.kind ≡ Some sig
  pub entry_is : entry ≡ record {
    when = Load;
    event = Sign sig.key (modifier sig.addr sig.disc (slot_address f fix)) (pointer f fix.kind) (stored code (Some sig) (slot_address f fix) (pointer f fix.kind));
  }

later_sign : (code : Code) (f : Filling) (first : Fix) (fixes : List Fix) (log : Log) → All (IsSlotSign code f fixes) log → All (IsSlotSign code f (first ∷ fixes)) log
later_sign code f first fixes log all k d lt =
    let s = all k d lt in
    record { before = first ∷ s.before; fix = s.fix; behind = s.behind; split = ap (λ l. first ∷ l) s.split; sig = s.sig; schema = s.schema; entry_is = s.entry_is }

own_sign : (code : Code) (f : Filling) (fix : Fix) (fixes : List Fix) (o : Option Sig) → sig_of fix.kind ≡ o → All (IsSlotSign code f (fix ∷ fixes)) (signed code o (slot_address f fix) (pointer f fix.kind))
own_sign code f fix fixes None e = λ k d h. absurd (omega arith)
own_sign code f fix fixes (Some sig) e =
    All-cons (IsSlotSign code f (fix ∷ fixes)) _ [] (record { before = []; fix = fix; behind = fixes; split = refl; sig = sig; schema = e; entry_is = refl }) (λ k d h. absurd (omega arith))

-- each entry is the signature of a slot
pub log_signs : (code : Code) (f : Filling) (fixes : List Fix) → All (IsSlotSign code f fixes) (filling_log code f fixes)
unfolding filling_log
log_signs code f [] = λ k d h. absurd (omega arith)
log_signs code f (fix ∷ fixes) =
    subst (All (IsSlotSign code f (fix ∷ fixes))) (sym (log_split code f fix fixes))
    (All-append (IsSlotSign code f (fix ∷ fixes)) (filling_log code f fixes) (slot_signs code f fix)
    (later_sign code f fix fixes (filling_log code f fixes) (log_signs code f fixes)) (own_sign code f fix fixes (sig_of fix.kind) refl))

-- ---- logs of signatures of loading

sign_known : (e : Event) → SignsLow e → is_known_take e ≡ true
sign_known (Sign key modifier raw signed) s = refl
sign_known (Take key modifier raw known) s = absurd s
sign_known (Land way target) s = absurd s

sign_marked : (log : Log) (e : Event) → SignsLow e → IsMarkedOver log e
sign_marked log (Sign key modifier raw signed) s = tt
sign_marked log (Take key modifier raw known) s = absurd s
sign_marked log (Land way target) s = absurd s

rest : (entry : Entry) (log : Log) → All IsLoadSign (entry ∷ log) → All IsLoadSign log
rest entry log all k d lt = all (suc k) d (omega arith)

-- no authentication is in them, known or not
pub signs_known : (log : Log) → All IsLoadSign log → all_known log ≡ true
unfolding all_known
signs_known [] all = refl
signs_known (entry ∷ log) all = and_from _ _ (sign_known entry.event (all 0 entry (omega arith)).1) (signs_known log (rest entry log all))

pub signs_marked : (log : Log) → All IsLoadSign log → IsMarked log
unfolding IsMarked
signs_marked [] all = tt
signs_marked (entry ∷ log) all = (sign_marked log entry.event (all 0 entry (omega arith)).1, signs_marked log (rest entry log all))

-- they come before every instruction
pub signs_before : (n : ℕ) (log : Log) → All IsLoadSign log → AreBefore n log
signs_before n [] all = tt
signs_before n (entry ∷ log) all = (subst (IsBefore n) (sym (all 0 entry (omega arith)).0) tt, signs_before n log (rest entry log all))
