-- Globals that are laid one behind another, each with room.
use Rattle.std.proofs.Common.{◌≡◌, ℕ, ◌+◌, ◌-◌, ◌<◌, ◌≤◌, Bool, true, false, List, [], ◌∷◌, length, filter, arith, ◌⊎◌, inl, inr}
use Rattle.std.specs.Prelude.{pos, negsuc}
use Rattle.std.specs.List.{AllByRecursion}
use Rattle.std.proofs.Math.Nat.{div-mul-le_self}
use Rattle.std.proofs.lemmas.List.Elements.{recursion_from_All}
use Rattle.std.proofs.lemmas.List.Sums.{sum_by-cons}
use Rattle.pa_object.specs.declared.object.Global.{Global}
use Rattle.pa_object.specs.declared.object.Slot.{Slot}
use Rattle.pa_object.specs.declared.object.SlotValue.{SlotValue}
use Rattle.pa_object.specs.declared.object.SlotValue.TheVariants.{Address, Signed}
use Rattle.pa_object.specs.Linkable.{Named, IsGlobal, IsSlot, IsSlotValue}
use Rattle.pa_macho.specs.Layout.{up}
use Rattle.pa_linker.specs.Layout.{laid_behind, laid_from, end_of}
use Rattle.pa_linker.specs.Tables.{room_of, most_data, Follow, CanFill, IsForward, SlotsInside}
use Rattle.pa_linker.proofs.OnBool.{on_bool}

-- ---- alignment

pub up_high : (align end : ℕ) → 0 < align → up align end < end + align
up_high align end some = let h = div-mul-le_self (end + (align - 1)) align in omega arith

pub aligned : (F D : List Named) (g : Global) → IsGlobal F D g → 0 < g.align
aligned F D g h = one_of h.alignment
  where
    one_of : (g.align ≡ 1) ⊎ ((g.align ≡ 2) ⊎ ((g.align ≡ 4) ⊎ ((g.align ≡ 8) ⊎ (g.align ≡ 16)))) → 0 < g.align
    one_of (inl e) = omega arith
    one_of (inr (inl e)) = omega arith
    one_of (inr (inr (inl e))) = omega arith
    one_of (inr (inr (inr (inl e)))) = omega arith
    one_of (inr (inr (inr (inr e)))) = omega arith

pub up_low : (F D : List Named) (g : Global) (end : ℕ) → IsGlobal F D g → end ≤ up g.align end
up_low F D g end h = one_of h.alignment
  where
    one_of : (g.align ≡ 1) ⊎ ((g.align ≡ 2) ⊎ ((g.align ≡ 4) ⊎ ((g.align ≡ 8) ⊎ (g.align ≡ 16)))) → end ≤ up g.align end
    one_of (inl e) = rw e (omega arith)
    one_of (inr (inl e)) = rw e (omega arith)
    one_of (inr (inr (inl e))) = rw e (omega arith)
    one_of (inr (inr (inr (inl e)))) = rw e (omega arith)
    one_of (inr (inr (inr (inr e)))) = rw e (omega arith)

-- ---- slots

forward : (F D : List Named) (value : SlotValue) → IsSlotValue F D value → IsForward value
forward F D (Address name (pos addend)) h = tt
forward F D (Address name (negsuc addend)) h = h
forward F D (Signed name schema) h = tt

pub slots_inside : (F D : List Named) (size : ℕ) (slots : List Slot) → AllByRecursion (IsSlot F D size) slots → SlotsInside size slots
slots_inside F D size [] h = tt
slots_inside F D size (slot ∷ slots) h = (h.0.inside, slots_inside F D size slots h.1)

slots_forward : (F D : List Named) (size : ℕ) (slots : List Slot) → AllByRecursion (IsSlot F D size) slots → AllByRecursion (λ slot. IsForward slot.value) slots
slots_forward F D size [] h = tt
slots_forward F D size (slot ∷ slots) h = (forward F D slot.value h.0.value, slots_forward F D size slots h.1)

-- ---- globals

pub room_cons : (g : Global) (globals : List Global) → room_of (g ∷ globals) ≡ g.align + length g.bytes + room_of globals
room_cons g globals = sum_by-cons (λ (g : Global). g.align + length g.bytes) g globals

pub all_aligned : (F D : List Named) (globals : List Global) → AllByRecursion (IsGlobal F D) globals → AllByRecursion (λ g. 0 < g.align) globals
all_aligned F D [] h = tt
all_aligned F D (g ∷ globals) h = (aligned F D g h.0, all_aligned F D globals h.1)

pub all_follow : (F D : List Named) (end : ℕ) (globals : List Global) → AllByRecursion (IsGlobal F D) globals → Follow end (laid_from end globals)
all_follow F D end [] h = tt
all_follow F D end (g ∷ globals) h = (up_low F D g end h.0, all_follow F D (end_of (laid_behind end g)) globals h.1)

pub all_fill : (F D : List Named) (end : ℕ) (globals : List Global) → AllByRecursion (IsGlobal F D) globals → end + room_of globals ≤ most_data → AllByRecursion CanFill (laid_from end globals)
all_fill F D end [] h room = tt
all_fill F D end (g ∷ globals) h room =
    let high = up_high g.align end (aligned F D g h.0) in
    let first = room_cons g globals in
    let slots = recursion_from_All _ g.slots h.0.slots in (
      record { ends = omega arith; inside = slots_inside F D (length g.bytes) g.slots slots; forward = slots_forward F D (length g.bytes) g.slots slots },
      all_fill F D (end_of (laid_behind end g)) globals h.1 (omega arith),
    )

-- ---- some of the globals

pub all_filter : {X : Type 0} (P : X → Type 0) (p : X → Bool) (xs : List X) → AllByRecursion P xs → AllByRecursion P (filter p xs)
all_filter P p [] h = tt
all_filter P p (x ∷ xs) h = on_bool (p x)
    (λ (e : p x ≡ true). rw e (h.0, all_filter P p xs h.1))
    (λ (e : p x ≡ false). rw e (all_filter P p xs h.1))

pub room_filter : (p : Global → Bool) (globals : List Global) → room_of (filter p globals) ≤ room_of globals
room_filter p [] = omega arith
room_filter p (g ∷ globals) =
    let more = room_filter p globals in
    let whole = room_cons g globals in
    on_bool (p g)
    (λ (e : p g ≡ true). let part = room_cons g (filter p globals) in rw e (omega arith))
    (λ (e : p g ≡ false). rw e (omega arith))
