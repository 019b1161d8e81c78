-- What is known by a log, from its entries in either order.
use Rattle.std.proofs.Common.{◌≡◌, ℕ, List, [], ◌∷◌, refl, ap, ◌∙◌}
use Rattle.std.specs.Prelude.{Bool, true, false, ◌||◌, reverse}
use Rattle.std.specs.List.{list_any}
use Rattle.std.proofs.lemmas.List.{reverse-append}
use Rattle.std.proofs.lemmas.List.Folds.{list_any-append}
use Rattle.pa_pac.specs.declared.key.Key.{Key}
use Rattle.pa_pac.specs.declared.event.Event.{Event}
use Rattle.pa_pac.specs.declared.event.Event.TheVariants.{Sign, Take, Land}
use Rattle.pa_pac.specs.declared.event.Entry.{Entry}
use Rattle.pa_pac.specs.Key.{key_number}
use Rattle.pa_pac.specs.Log.{is_known, is_sign}
use Rattle.pa_log.specs.declared.signing.Signing.{Signing}
use Rattle.pa_log.specs.Index.{signs, any_signs}

or-last : (a b : Bool) → (b || (a || false)) ≡ (a || b)
or-last true true = refl
or-last true false = refl
or-last false true = refl
or-last false false = refl

list_any-reverse : {X : Type 0} (p : X → Bool) (xs : List X) → list_any p (reverse xs) ≡ list_any p xs
list_any-reverse p [] = refl
list_any-reverse p (x ∷ xs) =
    ap (list_any p) (reverse-append (x ∷ []) xs) ∙ list_any-append p (reverse xs) (x ∷ [])
    ∙ ap (λ b. b || (p x || false)) (list_any-reverse p xs) ∙ or-last (p x) (list_any p xs)

-- the order of the entries says nothing of what they sign
pub any_signs-reverse : (signing : Signing) (entries : List Entry) → any_signs signing (reverse entries) ≡ any_signs signing entries
any_signs-reverse signing entries = list_any-reverse (λ entry. signs signing entry.event) entries

signs-is_sign : (key : Key) (modifier raw : ℕ) (event : Event) → is_sign key modifier raw event ≡ signs (record { key = key_number key; modifier = modifier; raw = raw }) event
signs-is_sign key modifier raw (Sign k m r s) = refl
signs-is_sign key modifier raw (Take k m r b) = refl
signs-is_sign key modifier raw (Land w t) = refl

-- what is known is what some entry signs
pub is_known-any_signs : (entries : List Entry) (key : Key) (modifier raw : ℕ) → is_known entries key modifier raw ≡ any_signs (record { key = key_number key; modifier = modifier; raw = raw }) entries
unfolding is_known
is_known-any_signs [] key modifier raw = refl
is_known-any_signs (entry ∷ older) key modifier raw =
    rw (signs-is_sign key modifier raw entry.event, is_known-any_signs older key modifier raw)
