-- Values that are kept for names.
use Rattle.std.proofs.Common.{◌≡◌, ℕ, Bool, true, false, cond, List, refl, sym, ◌∙◌, ap, Option, Some, None, is_some}
use Rattle.std.specs.Option.{option_or}
use Rattle.std.specs.Str.{bytes_eq}
use Rattle.std.proofs.lemmas.Slice.Eq.{bytes_eq-Decides}
use Rattle.pa_names.specs.Kept.{noted}

pub or-none : {A : Type 0} (o : Option A) → option_or o None ≡ o
or-none None = refl
or-none (Some value) = refl

pub or-assoc : {A : Type 0} (a b c : Option A) → option_or (option_or a b) c ≡ option_or a (option_or b c)
or-assoc None b c = refl
or-assoc (Some a) b c = refl

pub none_of : {A : Type 0} (o : Option A) → is_some o ≡ false → o ≡ None
none_of None e = refl
none_of (Some value) e = cc

bytes_eq-flip : (a b : List ℕ) → bytes_eq a b ≡ bytes_eq b a
bytes_eq-flip a b = go (bytes_eq a b) (bytes_eq b a) refl refl
  where
    go : (x y : Bool) → bytes_eq a b ≡ x → bytes_eq b a ≡ y → x ≡ y
    go true true e f = refl
    go false false e f = refl
    go true false e f = let g = (bytes_eq-Decides b a).1 (sym ((bytes_eq-Decides a b).0 e)) in cc
    go false true e f = let g = (bytes_eq-Decides a b).1 (sym ((bytes_eq-Decides b a).0 f)) in cc

-- what an insertion makes of the value of a name, where the name that is inserted had none
pub noted_new : {A : Type 0} (kept : List ℕ → Option A) (own name : List ℕ) (value : A) (new : Option A) → kept own ≡ None
    → new ≡ cond (bytes_eq own name) (Some value) (kept name) → new ≡ option_or (kept name) (noted own value name)
noted_new kept own name value new none e = e ∙ go (bytes_eq own name) refl
  where
    go : (b : Bool) → bytes_eq own name ≡ b → cond b (Some value) (kept name) ≡ option_or (kept name) (noted own value name)
    go true f =
        let same = (bytes_eq-Decides own name).0 f in
        let flip = bytes_eq-flip name own ∙ f in
        let missing = ap kept (sym same) ∙ none in
        rw (missing, flip) refl
    go false f =
        let flip = bytes_eq-flip name own ∙ f in
        rw flip (sym (or-none (kept name)))

-- where the name has a value, nothing changes
pub noted_old : {A : Type 0} (kept : List ℕ → Option A) (own name : List ℕ) (value other : A) → kept own ≡ Some other → kept name ≡ option_or (kept name) (noted own value name)
noted_old kept own name value other some = go (bytes_eq name own) refl
  where
    go : (b : Bool) → bytes_eq name own ≡ b → kept name ≡ option_or (kept name) (cond b (Some value) None)
    go true f =
        let here = ap kept ((bytes_eq-Decides name own).0 f) ∙ some in
        rw here refl
    go false f = sym (or-none (kept name))

pub ruleset nothing_noted = (or-none)
