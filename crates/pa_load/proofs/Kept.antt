-- The functions that are exported, with their addresses.
use Rattle.std.proofs.Common.{◌≡◌, ℕ, Bool, true, false, cond, List, [], ◌∷◌, refl, sym, ◌∙◌, ap, Option, Some, None}
use Rattle.std.specs.Prelude.{filter}
use Rattle.std.specs.Option.{option_or}
use Rattle.std.specs.Str.{bytes_eq}
use Rattle.pa_names.proofs.Kept.{or-assoc}
use Rattle.pa_object.specs.declared.object.Mark.{Mark}
use Rattle.pa_image.specs.Places.{function_at, exported}

-- the first mark before the others
pub exported-cons : (base : ℕ) (mark : Mark) (marks : List Mark) (name : List ℕ) → exported base (mark ∷ marks) name ≡ option_or (exported base (mark ∷ []) name) (exported base marks name)
exported-cons base mark marks name = go mark.public
  where
    found : (b : Bool) (here : ℕ) (next : Option ℕ) → cond b (Some here) next ≡ option_or (cond b (Some here) None) next
    found true here next = refl
    found false here next = refl

    go : (b : Bool) → function_at base (cond b (mark ∷ filter (λ (m : Mark). m.public) marks) (filter (λ (m : Mark). m.public) marks)) name ≡ option_or (function_at base (cond b (mark ∷ []) []) name) (exported base marks name)
    go true = found (bytes_eq name mark.name) _ _
    go false = refl

-- one more is kept
pub kept-more : (old new : Option ℕ) (base : ℕ) (mark : Mark) (marks : List Mark) (name : List ℕ) → new ≡ option_or old (exported base (mark ∷ []) name) → option_or new (exported base marks name) ≡ option_or old (exported base (mark ∷ marks) name)
kept-more old new base mark marks name e =
    ap (λ (o : Option ℕ). option_or o (exported base marks name)) e ∙ or-assoc old (exported base (mark ∷ []) name) (exported base marks name)
    ∙ ap (option_or old) (sym (exported-cons base mark marks name))
