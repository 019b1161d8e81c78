-- What loading signs, and what the runtime image exports.
use Rattle.std.proofs.Common.{◌≡◌, ℕ, ◌+◌, ◌^◌, ◌≤◌, ◌<◌, Bool, true, false, cond, eqb, List, [], ◌∷◌, ◌++◌, length, map, refl, sym, ap, subst, ◌∙◌, arith, Option, Some, None, eq-eqb}
use Rattle.std.specs.Prelude.{All, reverse, filter, ◌||◌}
use Rattle.std.specs.List.{flat_map, list_any}
use Rattle.std.specs.Str.{bytes_eq}
use Rattle.std.proofs.lemmas.List.{reverse-append}
use Rattle.std.proofs.lemmas.List.Elements.{All-append, All-cons}
use Rattle.pa_pac.specs.declared.event.Event.{Event}
use Rattle.pa_pac.specs.declared.event.Event.TheVariants.{Sign, Take, Land}
use Rattle.pa_pac.specs.declared.event.Entry.{Entry}
use Rattle.pa_pac.specs.declared.event.When.TheVariants.{Load}
use Rattle.pa_pac.specs.Log.{Log}
use Rattle.pa_pac.specs.Signing.{Code}
use Rattle.pa_fixups.specs.declared.kind.Fix.{Fix}
use Rattle.pa_fixups.specs.declared.kind.FixKind.{FixKind}
use Rattle.pa_fixups.specs.declared.kind.FixKind.TheVariants.{Rebase, Bind, AuthRebase, AuthBind}
use Rattle.pa_object.specs.declared.object.Mark.{Mark}
use Rattle.pa_image.specs.Places.{exported, function_at, mark_address}
use Rattle.pa_load.specs.Filling.{Filling, pointer, sig_of, signed, slot_address, slot_signs, filling_log}
use Rattle.pa_load.specs.Ready.{PointerFits, AllReady}
use Rattle.pa_load.proofs.Going.{one_signed}
use Rattle.pa_load.proofs.Regions.{or_right}

-- ---- signatures of loading

-- a signature of a low address, which is canonical
abbrev pub SignsLow : Event → Type 0
SignsLow (Sign key modifier raw signed) = raw < 2 ^ 47
SignsLow (Take key modifier raw known) = ⊥
SignsLow (Land way target) = ⊥

abbrev pub IsLoadSign : Entry → Type 0
IsLoadSign entry = (entry.when ≡ Load) × SignsLow entry.event

none_signs : All IsLoadSign []
none_signs = λ k d h. absurd (omega arith)

one_signs : (entry : Entry) → IsLoadSign entry → All IsLoadSign (entry ∷ [])
one_signs entry s = All-cons IsLoadSign entry [] s none_signs

slot_signs_low : (code : Code) (f : Filling) (at : ℕ) (kind : FixKind) → PointerFits f kind → All IsLoadSign (signed code (sig_of kind) at (pointer f kind))
slot_signs_low code f at (Rebase target high8) p = none_signs
slot_signs_low code f at (Bind ordinal addend) p = none_signs
slot_signs_low code f at (AuthRebase target sig) p = one_signs _ (refl, p)
slot_signs_low code f at (AuthBind ordinal sig) p = one_signs _ (refl, p.1.1)

pub log_signs_low : (code : Code) (f : Filling) (len : ℕ) (fixes : List Fix) → AllReady f len fixes → All IsLoadSign (filling_log code f fixes)
unfolding filling_log
log_signs_low code f len [] r = none_signs
log_signs_low code f len (fix ∷ fixes) r =
    let later = flat_map (slot_signs code f) fixes in
    let order : reverse (slot_signs code f fix ++ later) ≡ reverse later ++ slot_signs code f fix =
    reverse-append (slot_signs code f fix) later ∙ ap (λ (l : Log). reverse later ++ l) (one_signed code (sig_of fix.kind) (slot_address f fix) (pointer f fix.kind)) in
    subst (All IsLoadSign) (sym order)
    (All-append IsLoadSign (reverse later) (slot_signs code f fix) (log_signs_low code f len fixes r.1) (slot_signs_low code f (slot_address f fix) fix.kind r.0.pointer))

-- ---- what is exported

-- a function that is exported is one of the functions
pub exported_among : (base : ℕ) (marks : List Mark) (name : List ℕ) (address : ℕ) → exported base marks name ≡ Some address → list_any (λ (entry : ℕ). eqb entry address) (map (mark_address base) marks) ≡ true
exported_among base [] name address e = cc
exported_among base (mark ∷ marks) name address e =
    go (λ (h : exported base marks name ≡ Some address). exported_among base marks name address h) mark.public e
  where
    others : Bool
    others = list_any (λ (entry : ℕ). eqb entry address) (map (mark_address base) marks)

    some : (x y : ℕ) → Some x ≡ Some y → x ≡ y
    some x y e = cc

    here : mark_address base mark ≡ address → (eqb (mark_address base mark) address || others) ≡ true
    here e = rw (eq-eqb (mark_address base mark) address e) refl

    named : (exported base marks name ≡ Some address → others ≡ true) → (b : Bool) → cond b (Some (mark_address base mark)) (exported base marks name) ≡ Some address → (eqb (mark_address base mark) address || others) ≡ true
    named more true e = here (some (mark_address base mark) address e)
    named more false e = or_right (eqb (mark_address base mark) address) others (more e)

    go : (exported base marks name ≡ Some address → others ≡ true) → (b : Bool) → function_at base (cond b (mark ∷ filter (λ (m : Mark). m.public) marks) (filter (λ (m : Mark). m.public) marks)) name ≡ Some address → (eqb (mark_address base mark) address || others) ≡ true
    go more true e = named more (bytes_eq name mark.name) e
    go more false e = or_right (eqb (mark_address base mark) address) others (more e)
