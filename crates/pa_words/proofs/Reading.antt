-- A word more is read.
use Rattle.std.proofs.Common.{◌≡◌, ℕ, List, [], ◌∷◌, ◌++◌, map, true, false, refl, sym, ap, subst, ◌∙◌, codes, arith, if◌then◌else◌, Option, Some, None}
use Rattle.std.specs.Prelude.{is_some}
use Rattle.std.specs.Option.{option_or}
use Rattle.std.specs.Str.{bytes_eq}
use Rattle.std.proofs.lemmas.List.{append-nil, append_assoc}
use Rattle.std.proofs.lemmas.Grind.{common_steps}
use Rattle.pa_words.specs.declared.command.UseFault.TheVariants.{U2, U3, U4, U5}
use Rattle.pa_words.specs.declared.given.Given.{Given}
use Rattle.pa_words.specs.declared.names.CommandName.{CommandName}
use Rattle.pa_words.specs.declared.names.OptionName.{OptionName}
use Rattle.pa_words.specs.Answers.{AllRead}
use Rattle.pa_words.specs.Names.{option_named}
use Rattle.pa_words.specs.Fields.{given_in, is_given, with_option}
use Rattle.pa_words.specs.Reading.{word_of, Reaches}
use Rattle.pa_words.specs.Usage.{Item, Pair, Operand, is_option, items, with_value, value_of, operands, takes_word, allows, first_flaw}
use Rattle.pa_words.proofs.Items.{operands-append, operands-map, value_of-append, value_of-operands}
use Rattle.pa_words.proofs.Options.{named_is, given_more, given_is, allowed_more, option_or-none}

-- ---- what the next item is

pub items-option : (w : List ℕ) (ws : List (List ℕ)) → bytes_eq w (codes "--") ≡ false → is_option w ≡ true → items (w ∷ ws) ≡ with_value w ws
unfolding items
items-option w ws other is =
    ap (λ b. if b then map Operand ws else if is_option w then with_value w ws else Operand w ∷ items ws) other
    ∙ ap (λ b. if b then with_value w ws else Operand w ∷ items ws) is

pub items-operand : (w : List ℕ) (ws : List (List ℕ)) → bytes_eq w (codes "--") ≡ false → is_option w ≡ false → items (w ∷ ws) ≡ Operand w ∷ items ws
unfolding items
items-operand w ws other is =
    ap (λ b. if b then map Operand ws else if is_option w then with_value w ws else Operand w ∷ items ws) other
    ∙ ap (λ b. if b then with_value w ws else Operand w ∷ items ws) is

pub items-end : (w : List ℕ) (ws : List (List ℕ)) → bytes_eq w (codes "--") ≡ true → items (w ∷ ws) ≡ map Operand ws
unfolding items
items-end w ws is = ap (λ b. if b then map Operand ws else if is_option w then with_value w ws else Operand w ∷ items ws) is

-- ---- the rule that an option breaks

unknown : (name : CommandName) (done : List Item) (w : List ℕ) (ws : List (List ℕ)) → takes_word name w ≡ false → first_flaw name done (with_value w ws) ≡ Some U2
unfolding items first_flaw
unknown name done w [] e = grind (arith, common_steps, e)
unknown name done w (v ∷ ws) e = grind (arith, common_steps, e)

twice : (name : CommandName) (done : List Item) (w : List ℕ) (ws : List (List ℕ)) → takes_word name w ≡ true → is_some (value_of w done) ≡ true
    → first_flaw name done (with_value w ws) ≡ Some U5
unfolding items first_flaw
twice name done w [] e f = grind (arith, common_steps, e, f)
twice name done w (v ∷ ws) e f = grind (arith, common_steps, e, f)

bare : (name : CommandName) (done : List Item) (w : List ℕ) → takes_word name w ≡ true → is_some (value_of w done) ≡ false
    → first_flaw name done (with_value w []) ≡ Some U3
unfolding items first_flaw
bare name done w e f = grind (arith, common_steps, e, f)

wrong : (name : CommandName) (done : List Item) (w v : List ℕ) (ws : List (List ℕ)) → takes_word name w ≡ true → is_some (value_of w done) ≡ false
    → allows w v ≡ false → first_flaw name done (with_value w (v ∷ ws)) ≡ Some U4
unfolding items first_flaw
wrong name done w v ws e f g = grind (arith, common_steps, e, f, g)

right : (name : CommandName) (done : List Item) (w v : List ℕ) (ws : List (List ℕ)) → takes_word name w ≡ true → is_some (value_of w done) ≡ false
    → allows w v ≡ true → first_flaw name done (with_value w (v ∷ ws)) ≡ first_flaw name (done ++ Pair w v ∷ []) (items ws)
unfolding items first_flaw
right name done w v ws e f g = grind (arith, common_steps, e, f, g)

-- ---- how far words have been read

pub reaches-none : (name : CommandName) (all : List (List ℕ)) → Reaches name all (given_in []) [] all
unfolding value_of operands
reaches-none name all = record {
  done = [];
  split = refl;
  flaw = refl;
  fields = refl;
  allowed_values = λ option value e. grind (arith, common_steps, e);
  words = refl;
}

-- whether an option was given is told by the fields
pub had : {name : CommandName} {all : List (List ℕ)} {given : Given} {got rest : List (List ℕ)} (r : Reaches name all given got rest)
    → (w : List ℕ) (o : OptionName) → option_named w ≡ Some o → is_given given o ≡ is_some (value_of w r.done)
had {given} r w o named =
    ap (λ g. is_given g o) r.fields ∙ given_is r.done o (r.allowed_values o) ∙ ap (λ x. is_some (value_of x r.done)) (sym (named_is w o named))

pub reaches-unknown : (name : CommandName) (all : List (List ℕ)) (given : Given) (got : List (List ℕ)) (w : List ℕ) (ws : List (List ℕ))
    → bytes_eq w (codes "--") ≡ false → is_option w ≡ true → takes_word name w ≡ false
    → Reaches name all given got (w ∷ ws) → first_flaw name [] (items all) ≡ Some U2
reaches-unknown name all given got w ws other is e r = r.flaw ∙ ap (first_flaw name r.done) (items-option w ws other is) ∙ unknown name r.done w ws e

pub reaches-twice : (name : CommandName) (all : List (List ℕ)) (given : Given) (got : List (List ℕ)) (w : List ℕ) (ws : List (List ℕ)) (o : OptionName)
    → bytes_eq w (codes "--") ≡ false → is_option w ≡ true → takes_word name w ≡ true → option_named w ≡ Some o → is_given given o ≡ true
    → Reaches name all given got (w ∷ ws) → first_flaw name [] (items all) ≡ Some U5
reaches-twice name all given got w ws o other is e named before r =
    r.flaw ∙ ap (first_flaw name r.done) (items-option w ws other is) ∙ twice name r.done w ws e (sym (had r w o named) ∙ before)

pub reaches-bare : (name : CommandName) (all : List (List ℕ)) (given : Given) (got : List (List ℕ)) (w : List ℕ) (o : OptionName)
    → bytes_eq w (codes "--") ≡ false → is_option w ≡ true → takes_word name w ≡ true → option_named w ≡ Some o → is_given given o ≡ false
    → Reaches name all given got (w ∷ []) → first_flaw name [] (items all) ≡ Some U3
reaches-bare name all given got w o other is e named before r =
    r.flaw ∙ ap (first_flaw name r.done) (items-option w [] other is) ∙ bare name r.done w e (sym (had r w o named) ∙ before)

pub reaches-wrong : (name : CommandName) (all : List (List ℕ)) (given : Given) (got : List (List ℕ)) (w v : List ℕ) (ws : List (List ℕ)) (o : OptionName)
    → bytes_eq w (codes "--") ≡ false → is_option w ≡ true → takes_word name w ≡ true → option_named w ≡ Some o → is_given given o ≡ false
    → allows w v ≡ false → Reaches name all given got (w ∷ v ∷ ws) → first_flaw name [] (items all) ≡ Some U4
reaches-wrong name all given got w v ws o other is e named before not_one r =
    r.flaw ∙ ap (first_flaw name r.done) (items-option w (v ∷ ws) other is) ∙ wrong name r.done w v ws e (sym (had r w o named) ∙ before) not_one

no_value : {A : Type 0} (x : Option A) → is_some x ≡ false → x ≡ None
no_value None e = refl
no_value (Some x) e = grind (arith, common_steps, e)

operands-pair : (done : List Item) (w v : List ℕ) → operands (done ++ Pair w v ∷ []) ≡ operands done
unfolding operands
operands-pair done w v = operands-append done (Pair w v ∷ []) ∙ append-nil (operands done)

with_value-pair : (w v : List ℕ) (ws : List (List ℕ)) → with_value w (v ∷ ws) ≡ Pair w v ∷ items ws
unfolding items
with_value-pair w v ws = refl

-- an option is taken with its value
pub reaches-option : (name : CommandName) (all : List (List ℕ)) (given : Given) (got : List (List ℕ)) (w v : List ℕ) (ws : List (List ℕ)) (o : OptionName)
    → bytes_eq w (codes "--") ≡ false → is_option w ≡ true → takes_word name w ≡ true → option_named w ≡ Some o → is_given given o ≡ false
    → allows w v ≡ true → Reaches name all given got (w ∷ v ∷ ws) → Reaches name all (with_option given o v) got ws
reaches-option name all given got w v ws o other is e named before one r =
    let new : value_of w r.done ≡ None = no_value (value_of w r.done) (sym (had r w o named) ∙ before) in
    let word : w ≡ word_of o = named_is w o named in
    let none : value_of (word_of o) r.done ≡ None = subst (λ x. value_of x r.done ≡ None) word new in
    record {
      done = r.done ++ Pair w v ∷ [];
      split = r.split ∙ ap (λ x. r.done ++ x) (items-option w (v ∷ ws) other is ∙ with_value-pair w v ws) ∙ sym (append_assoc r.done (Pair w v ∷ []) (items ws));
      flaw = r.flaw ∙ ap (first_flaw name r.done) (items-option w (v ∷ ws) other is) ∙ right name r.done w v ws e (sym (had r w o named) ∙ before) one;
      fields = ap (λ g. with_option g o v) r.fields ∙ sym (given_more r.done v o none) ∙ ap (λ x. given_in (r.done ++ Pair x v ∷ [])) (sym word);
      allowed_values = λ option value. allowed_more r.done w v option value one (r.allowed_values option);
      words = r.words ∙ sym (operands-pair r.done w v);
    }

-- ---- operands

value_of-operand : (option : List ℕ) (done : List Item) (ws : List (List ℕ)) → value_of option (done ++ map Operand ws) ≡ value_of option done
value_of-operand option done ws = value_of-append option done (map Operand ws) ∙ ap (λ x. option_or (value_of option done) x) (value_of-operands option ws) ∙ option_or-none (value_of option done)

given-operands : (done : List Item) (ws : List (List ℕ)) → given_in (done ++ map Operand ws) ≡ given_in done
given-operands done ws = let same : (option : List ℕ) → value_of option (done ++ map Operand ws) ≡ value_of option done = λ option. value_of-operand option done ws in simp same refl

flaw-operands : (name : CommandName) (done : List Item) (ws : List (List ℕ)) → first_flaw name done (map Operand ws) ≡ None
unfolding first_flaw
flaw-operands name done [] = refl
flaw-operands name done (w ∷ ws) = flaw-operands name (done ++ Operand w ∷ []) ws

flaw-operand : (name : CommandName) (done : List Item) (w : List ℕ) (more : List Item) → first_flaw name done (Operand w ∷ more) ≡ first_flaw name (done ++ Operand w ∷ []) more
unfolding first_flaw
flaw-operand name done w more = refl

flaw-none : (name : CommandName) (done : List Item) → first_flaw name done (items []) ≡ None
unfolding first_flaw items
flaw-none name done = refl

items-none : items [] ≡ []
unfolding items
items-none = refl

pub reaches-operand : (name : CommandName) (all : List (List ℕ)) (given : Given) (got : List (List ℕ)) (w : List ℕ) (ws : List (List ℕ))
    → bytes_eq w (codes "--") ≡ false → is_option w ≡ false
    → Reaches name all given got (w ∷ ws) → Reaches name all given (got ++ w ∷ []) ws
reaches-operand name all given got w ws other is r = record {
  done = r.done ++ Operand w ∷ [];
  split = r.split ∙ ap (λ x. r.done ++ x) (items-operand w ws other is) ∙ sym (append_assoc r.done (Operand w ∷ []) (items ws));
  flaw = r.flaw ∙ ap (first_flaw name r.done) (items-operand w ws other is) ∙ flaw-operand name r.done w (items ws);
  fields = r.fields ∙ sym (given-operands r.done (w ∷ []));
  allowed_values = λ option value e. r.allowed_values option value (sym (value_of-operand (word_of option) r.done (w ∷ [])) ∙ e);
  words = ap (λ x. x ++ w ∷ []) r.words ∙ sym (operands-append r.done (Operand w ∷ []) ∙ ap (λ x. operands r.done ++ x) (operands-map (w ∷ [])));
}

-- behind `--` stand operands alone
pub reaches-end : (name : CommandName) (all : List (List ℕ)) (given : Given) (got : List (List ℕ)) (w : List ℕ) (ws : List (List ℕ))
    → bytes_eq w (codes "--") ≡ true
    → Reaches name all given got (w ∷ ws) → Reaches name all given (got ++ ws) []
reaches-end name all given got w ws is r = record {
  done = r.done ++ map Operand ws;
  split = r.split ∙ ap (λ x. r.done ++ x) (items-end w ws is) ∙ sym (ap (λ x. (r.done ++ map Operand ws) ++ x) items-none ∙ append-nil (r.done ++ map Operand ws));
  flaw = r.flaw ∙ ap (first_flaw name r.done) (items-end w ws is) ∙ flaw-operands name r.done ws ∙ sym (flaw-none name (r.done ++ map Operand ws));
  fields = r.fields ∙ sym (given-operands r.done ws);
  allowed_values = λ option value e. r.allowed_values option value (sym (value_of-operand (word_of option) r.done ws) ∙ e);
  words = ap (λ x. x ++ ws) r.words ∙ sym (operands-append r.done (map Operand ws) ∙ ap (λ x. operands r.done ++ x) (operands-map ws));
}

-- ---- all words are read

pub reaches-all : (name : CommandName) (all : List (List ℕ)) (given : Given) (got : List (List ℕ)) → Reaches name all given got []
    → AllRead name all given got
reaches-all name all given got r =
    let whole : r.done ≡ items all = sym (r.split ∙ ap (λ x. r.done ++ x) items-none ∙ append-nil r.done) in
    record { flawless = r.flaw ∙ flaw-none name r.done; fields = r.fields ∙ ap given_in whole; words_got = r.words ∙ ap operands whole }
