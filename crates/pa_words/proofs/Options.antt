-- An option more.
use Rattle.std.proofs.Common.{◌≡◌, ℕ, List, [], ◌∷◌, ◌++◌, Bool, true, false, refl, sym, ap, subst, ◌∙◌, codes, arith, Option, Some, None, ◌⊎◌, inl, inr}
use Rattle.std.specs.Prelude.{is_some, if◌then◌else◌}
use Rattle.std.specs.Option.{option_or, option_map, option_and_then}
use Rattle.std.specs.Str.{bytes_eq}
use Rattle.std.proofs.lemmas.Grind.{common_steps}
use Rattle.std.proofs.lemmas.Slice.Eq.{bytes_eq-Decides}
use Rattle.pa_words.specs.declared.names.CommandName.{CommandName}
use Rattle.pa_words.specs.declared.names.OptionName.{OptionName}
use Rattle.pa_words.specs.declared.names.OptionName.TheVariants as option
use Rattle.pa_words.specs.Names.{option_named, takes}
use Rattle.pa_words.specs.Values.{allowed}
use Rattle.pa_words.specs.Fields.{given_in, is_given, with_option}
use Rattle.pa_words.specs.Reading.{word_of}
use Rattle.pa_words.specs.Usage.{Item, Pair, input_of, value_of, is_some_and, allows, takes_word}
use Rattle.pa_words.proofs.Items.{value_of-append}

pub bytes_same : (xs ys : List ℕ) → bytes_eq xs ys ≡ true → xs ≡ ys
bytes_same xs ys e = grind (arith, common_steps, bytes_eq-Decides xs ys, e)

-- a name of a table is that of its line, or stands further down
pick : {A : Type 0} (w k : List ℕ) (a o : A) (rest : Option A) → (if bytes_eq w k then Some a else rest) ≡ Some o → ((w ≡ k) × (a ≡ o)) ⊎ (rest ≡ Some o)
pick {A} w k a o rest e = go (bytes_eq w k) refl e
  where
    go : (b : Bool) → bytes_eq w k ≡ b → (if b then Some a else rest) ≡ Some o → ((w ≡ k) × (a ≡ o)) ⊎ (rest ≡ Some o)
    go true t e = inl (bytes_same w k t, grind (arith, common_steps, e))
    go false t e = inr e

-- an option is named by its word alone
pub named_is : (w : List ℕ) (o : OptionName) → option_named w ≡ Some o → w ≡ word_of o
named_is w o =
    line (codes "--input") option.Input _ refl
    (line (codes "--script") option.Script _ refl
    (line (codes "--steps") option.Steps _ refl
    (line (codes "--slide") option.Slide _ refl
    (line (codes "--pac") option.Pac _ refl
    (line (codes "--seed") option.Seed _ refl
    (line (codes "--log") option.Log _ refl
    (line (codes "--fuel") option.Fuel _ refl
    (λ e. grind (arith, common_steps, e)))))))))
  where
    Down : Option OptionName → Type 0
    Down rest = rest ≡ Some o → w ≡ word_of o

    line : (k : List ℕ) (a : OptionName) (rest : Option OptionName) → k ≡ word_of a → Down rest → Down (if bytes_eq w k then Some a else rest)
    line k a rest is down e = elim (pick w k a o rest e) [
      | inl h ↦ h.0 ∙ is ∙ ap word_of h.1
      | inr h ↦ down h
    ]

pub named_of : (o : OptionName) → option_named (word_of o) ≡ Some o
named_of option.Input = refl
named_of option.Script = refl
named_of option.Steps = refl
named_of option.Slide = refl
named_of option.Pac = refl
named_of option.Seed = refl
named_of option.Log = refl
named_of option.Fuel = refl

-- ---- values behind a pair more

one_pair : (w v n : List ℕ) → value_of n (Pair w v ∷ []) ≡ (if bytes_eq w n then Some v else None)
unfolding value_of
one_pair w v n = refl

pub value_more : (done : List Item) (w v n : List ℕ) → value_of n (done ++ Pair w v ∷ []) ≡ option_or (value_of n done) (if bytes_eq w n then Some v else None)
value_more done w v n = value_of-append n done (Pair w v ∷ []) ∙ ap (λ x. option_or (value_of n done) x) (one_pair w v n)

pub option_or-none : {A : Type 0} (x : Option A) → option_or x None ≡ x
option_or-none None = refl
option_or-none (Some x) = refl

-- where the pair's option had no value, it has this one, and no other option has another
pub value_now : (done : List Item) (w v : List ℕ) → value_of w done ≡ None → (n : List ℕ)
    → value_of n (done ++ Pair w v ∷ []) ≡ (if bytes_eq w n then Some v else value_of n done)
value_now done w v none n = value_more done w v n ∙ go (bytes_eq w n) refl
  where
    go : (b : Bool) → bytes_eq w n ≡ b → option_or (value_of n done) (if b then Some v else None) ≡ (if b then Some v else value_of n done)
    go true same = ap (λ x. option_or x (Some v)) (subst (λ x. value_of x done ≡ None) (bytes_same w n same) none)
    go false other = option_or-none (value_of n done)

-- ---- fields behind a pair more

pub given_more : (done : List Item) (v : List ℕ) (o : OptionName) → value_of (word_of o) done ≡ None
    → given_in (done ++ Pair (word_of o) v ∷ []) ≡ with_option (given_in done) o v
given_more done v option.Input none = simp (value_now done (codes "--input") v none) refl
given_more done v option.Script none = simp (value_now done (codes "--script") v none) refl
given_more done v option.Steps none = simp (value_now done (codes "--steps") v none) refl
given_more done v option.Slide none = simp (value_now done (codes "--slide") v none) refl
given_more done v option.Pac none = simp (value_now done (codes "--pac") v none) refl
given_more done v option.Seed none = simp (value_now done (codes "--seed") v none) refl
given_more done v option.Log none = simp (value_now done (codes "--log") v none) refl
given_more done v option.Fuel none = simp (value_now done (codes "--fuel") v none) refl

-- ---- values that are allowed

pub AllAllowed : List Item → Type 0
AllAllowed done = (o : OptionName) (v : List ℕ) → value_of (word_of o) done ≡ Some v → allowed o v ≡ true

some_then : {A : Type 0} (f : List ℕ → Option A) (x : Option (List ℕ)) → ((v : List ℕ) → x ≡ Some v → is_some (f v) ≡ true)
    → is_some (option_and_then f x) ≡ is_some x
some_then f None good = refl
some_then f (Some v) good = good v refl

mapped : {A : Type 0} (f : List ℕ → A) (x : Option (List ℕ)) → is_some (option_map f x) ≡ is_some x
mapped f None = refl
mapped f (Some v) = refl

-- an option was given where it has a value
pub given_is : (done : List Item) (o : OptionName) → ((v : List ℕ) → value_of (word_of o) done ≡ Some v → allowed o v ≡ true)
    → is_given (given_in done) o ≡ is_some (value_of (word_of o) done)
given_is done option.Input good = mapped input_of (value_of (codes "--input") done)
given_is done option.Script good = refl
given_is done option.Steps good = some_then _ (value_of (codes "--steps") done) good
given_is done option.Slide good = some_then _ (value_of (codes "--slide") done) good
given_is done option.Pac good = some_then _ (value_of (codes "--pac") done) good
given_is done option.Seed good = some_then _ (value_of (codes "--seed") done) good
given_is done option.Log good = some_then _ (value_of (codes "--log") done) good
given_is done option.Fuel good = some_then _ (value_of (codes "--fuel") done) good

pub allows_is : (w v : List ℕ) (o : OptionName) → option_named w ≡ Some o → allows w v ≡ allowed o v
allows_is w v o e = ap (λ x. is_some_and (λ option. allowed option v) x) e

pub allowed_more : (done : List Item) (w v : List ℕ) (o : OptionName) (x : List ℕ) → allows w v ≡ true
    → ((y : List ℕ) → value_of (word_of o) done ≡ Some y → allowed o y ≡ true)
    → value_of (word_of o) (done ++ Pair w v ∷ []) ≡ Some x → allowed o x ≡ true
allowed_more done w v o x allow good e = go (value_of (word_of o) done) refl (sym (value_more done w v (word_of o)) ∙ e)
  where
    here : (b : Bool) → bytes_eq w (word_of o) ≡ b → (if b then Some v else None) ≡ Some x → allowed o x ≡ true
    here true same f =
        let named : option_named w ≡ Some o = ap option_named (bytes_same w (word_of o) same) ∙ named_of o in
        let value : v ≡ x = grind (arith, common_steps, f) in
        subst (λ y. allowed o y ≡ true) value (sym (allows_is w v o named) ∙ allow)
    here false other f = grind (arith, common_steps, f)

    go : (had : Option (List ℕ)) → value_of (word_of o) done ≡ had → option_or had (if bytes_eq w (word_of o) then Some v else None) ≡ Some x
        → allowed o x ≡ true
    go (Some y) was f = good x (was ∙ f)
    go None was f = here (bytes_eq w (word_of o)) refl f

-- ---- options of a command

pub takes_is : (name : CommandName) (w : List ℕ) (o : OptionName) → option_named w ≡ Some o → takes_word name w ≡ takes name o
takes_is name w o e = ap (λ x. is_some_and (takes name) x) e

pub takes_none : (name : CommandName) (w : List ℕ) → option_named w ≡ None → takes_word name w ≡ false
takes_none name w e = ap (λ x. is_some_and (takes name) x) e
