-- The two cases of a test.
use Rattle.std.proofs.Common.{◌≡◌, Bool, true, false, refl}

pub on_bool : {X : Type 0} (b : Bool) → (b ≡ true → X) → (b ≡ false → X) → X
on_bool true f g = f refl
on_bool false f g = g refl
