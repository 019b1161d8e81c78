-- Lists of items.
use Rattle.std.proofs.Common.{◌≡◌, ℕ, List, [], ◌∷◌, ◌++◌, map, Bool, true, false, refl, ap, if◌then◌else◌, Some, None}
use Rattle.std.specs.Str.{bytes_eq}
use Rattle.std.specs.Option.{option_or}
use Rattle.pa_words.specs.Usage.{Item, Pair, Bare, Operand, operands, value_of}

-- the value of an option behind more items
pub value_of-append : (option : List ℕ) (front behind : List Item) → value_of option (front ++ behind) ≡ option_or (value_of option front) (value_of option behind)
unfolding value_of
value_of-append option [] behind = refl
value_of-append option (Pair name value ∷ more) behind = go (bytes_eq name option) (value_of-append option more behind)
  where
    go : (b : Bool) → value_of option (more ++ behind) ≡ option_or (value_of option more) (value_of option behind)
        → (if b then Some value else value_of option (more ++ behind)) ≡ option_or (if b then Some value else value_of option more) (value_of option behind)
    go true e = refl
    go false e = e
value_of-append option (Bare name ∷ more) behind = value_of-append option more behind
value_of-append option (Operand word ∷ more) behind = value_of-append option more behind

pub operands-append : (front behind : List Item) → operands (front ++ behind) ≡ operands front ++ operands behind
unfolding operands
operands-append [] behind = refl
operands-append (Pair name value ∷ more) behind = operands-append more behind
operands-append (Bare name ∷ more) behind = operands-append more behind
operands-append (Operand word ∷ more) behind = ap (λ ws. word ∷ ws) (operands-append more behind)

pub operands-map : (words : List (List ℕ)) → operands (map Operand words) ≡ words
unfolding operands
operands-map [] = refl
operands-map (w ∷ ws) = ap (λ x. w ∷ x) (operands-map ws)

pub value_of-operands : (option : List ℕ) (words : List (List ℕ)) → value_of option (map Operand words) ≡ None
unfolding value_of
value_of-operands option [] = refl
value_of-operands option (w ∷ ws) = value_of-operands option ws
