-- What a layer of a type tells of the type.
use Rattle.std.proofs.Common.{◌≡◌, ℕ, zero, suc, ◌+◌, ◌<◌, ◌≤◌, Bool, false, IsTrue, List, [], ◌∷◌, ◌++◌, length, get_or, refl, ap, sym, ◌∙◌, arith}
use Rattle.std.proofs.lemmas.List.{length-append}
use Rattle.pa_ctype.specs.Types.{TypeTree, TypeTrees, Of, Void, Boolean, Integer, Pointer, Array, Struct, Function, Nil}
use Rattle.pa_ctype.specs.Tables.{TypeTable, ForTypes}
use Rattle.pa_ctype.specs.Nodes.{Below, at, grown, trees, tree, taking, constant}
use Rattle.pa_ctype.specs.declared.node.Node.{Node}
use Rattle.pa_ctype.specs.declared.node.Node.TheVariants as node
use Rattle.pa_lower.specs.declared.source.Ending.TheVariants.{Behind, Gives, Nowhere}
use Rattle.pa_lower.specs.Sources.{ending_of}
use Rattle.pa_convert.specs.Conversions.{is_function}
use Rattle.pa_cmean.specs.Calls.{gives_nothing}
use Rattle.pa_lower.specs.Operations.{bytes_of, is_signed, is_void, convert_ops, wrap_ops}

-- ---- numbers of the table

-- what is so for all that give each number its type
pub of_table : (t : TypeTable) (P : (ℕ → TypeTree) → Type 0) → ForTypes t P → P (at t.nodes)
of_table t P h = h (at t.nodes) (record { by = λ i k. refl })

length_grown : (ts : List TypeTree) (ns : List Node) → length (grown ts ns) ≡ length ts + length ns
unfolding grown
length_grown ts [] = omega arith
length_grown ts (n ∷ ns) = let t = tree (λ i. get_or ts i (Of false Void)) n in let e = length_grown (ts ++ t ∷ []) ns in let f = length-append ts (t ∷ []) in omega (arith, e, f)

none : (ts : List TypeTree) (i : ℕ) → length ts ≤ i → get_or ts i (Of false Void) ≡ Of false Void
none [] i h = refl
none (t ∷ ts) zero h = absurd (omega (arith, h))
none (t ∷ ts) (suc i) h = none ts i (omega (arith, h))

-- a number that isn't in the table
pub outside : (ns : List Node) (i : ℕ) → length ns ≤ i → at ns i ≡ Of false Void
unfolding at
outside ns i h = let e = length_grown [] ns in none (trees ns) i (omega (arith, e, h))

-- ---- functions

of_function : {A : Type 0} (f : TypeTree → A) (d : A) → ((c : Bool) (params : TypeTrees) (result : TypeTree) → f (Of c (Function params result)) ≡ d) → (t : TypeTree) → IsTrue (is_function t) → f t ≡ d
of_function f d e (Of c Void) h = cc
of_function f d e (Of c Boolean) h = cc
of_function f d e (Of c (Integer bits signed)) h = cc
of_function f d e (Of c (Pointer to schema)) h = cc
of_function f d e (Of c (Array of count)) h = cc
of_function f d e (Of c (Struct id)) h = cc
of_function f d e (Of c (Function params result)) h = e c params result

pub function_bytes : (t : TypeTree) → IsTrue (is_function t) → bytes_of t ≡ 8
function_bytes = of_function bytes_of 8 (λ c ps r. refl)

pub function_signed : (t : TypeTree) → IsTrue (is_function t) → is_signed t ≡ false
function_signed = of_function is_signed false (λ c ps r. refl)

pub function_void : (t : TypeTree) → IsTrue (is_function t) → is_void t ≡ false
function_void = of_function is_void false (λ c ps r. refl)

pub function_converts : (temp free : ℕ) (t : TypeTree) → IsTrue (is_function t) → convert_ops t temp free ≡ []
function_converts temp free = of_function (λ t. convert_ops t temp free) [] (λ c ps r. refl)

pub function_wraps : (temp : ℕ) (t : TypeTree) → IsTrue (is_function t) → wrap_ops t temp ≡ []
function_wraps temp = of_function (λ t. wrap_ops t temp) [] (λ c ps r. refl)

-- ---- what a function gives

taking_gives : (p t : TypeTree) → gives_nothing (taking p t) ≡ gives_nothing t
taking_gives p (Of c Void) = refl
taking_gives p (Of c Boolean) = refl
taking_gives p (Of c (Integer bits signed)) = refl
taking_gives p (Of c (Pointer to schema)) = refl
taking_gives p (Of c (Array of count)) = refl
taking_gives p (Of c (Struct id)) = refl
taking_gives p (Of c (Function params (Of d Void))) = refl
taking_gives p (Of c (Function params (Of d Boolean))) = refl
taking_gives p (Of c (Function params (Of d (Integer bits signed)))) = refl
taking_gives p (Of c (Function params (Of d (Pointer to schema)))) = refl
taking_gives p (Of c (Function params (Of d (Array of count)))) = refl
taking_gives p (Of c (Function params (Of d (Struct id)))) = refl
taking_gives p (Of c (Function params (Of d (Function ps r)))) = refl

constant_gives : (t : TypeTree) → gives_nothing (constant t) ≡ gives_nothing t
constant_gives (Of c form) = refl

returns_gives : (t : TypeTree) → gives_nothing (Of false (Function Nil t)) ≡ is_void t
returns_gives (Of c Void) = refl
returns_gives (Of c Boolean) = refl
returns_gives (Of c (Integer bits signed)) = refl
returns_gives (Of c (Pointer to schema)) = refl
returns_gives (Of c (Array of count)) = refl
returns_gives (Of c (Struct id)) = refl
returns_gives (Of c (Function params result)) = refl

-- what is so where a node's type says it
pub behind_gives : (m : ℕ → TypeTree) (n : Node) (rest : ℕ) → ending_of n ≡ Behind rest → gives_nothing (tree m n) ≡ gives_nothing (m rest)
behind_gives m (node.Takes param others) rest e = let f : others ≡ rest = cc in taking_gives (m param) (m others) ∙ ap (λ i. gives_nothing (m i)) f
behind_gives m (node.Constant of) rest e = let f : of ≡ rest = cc in constant_gives (m of) ∙ ap (λ i. gives_nothing (m i)) f
behind_gives m (node.Returns of) rest e = cc
behind_gives m node.Void rest e = cc
behind_gives m node.Bool rest e = cc
behind_gives m (node.Int bits signed) rest e = cc
behind_gives m (node.Pointer to qualifier) rest e = cc
behind_gives m (node.Array of count) rest e = cc
behind_gives m (node.Struct id) rest e = cc

pub here_gives : (m : ℕ → TypeTree) (n : Node) (of : ℕ) → ending_of n ≡ Gives of → gives_nothing (tree m n) ≡ is_void (m of)
here_gives m (node.Takes param others) of e = cc
here_gives m (node.Constant other) of e = cc
here_gives m (node.Returns given) of e = let f : given ≡ of = cc in returns_gives (m given) ∙ ap (λ i. is_void (m i)) f
here_gives m node.Void of e = cc
here_gives m node.Bool of e = cc
here_gives m (node.Int bits signed) of e = cc
here_gives m (node.Pointer to qualifier) of e = cc
here_gives m (node.Array other count) of e = cc
here_gives m (node.Struct id) of e = cc

pub nowhere_gives : (m : ℕ → TypeTree) (n : Node) → ending_of n ≡ Nowhere → gives_nothing (tree m n) ≡ false
nowhere_gives m (node.Takes param others) e = cc
nowhere_gives m (node.Constant other) e = cc
nowhere_gives m (node.Returns given) e = cc
nowhere_gives m node.Void e = refl
nowhere_gives m node.Bool e = refl
nowhere_gives m (node.Int bits signed) e = refl
nowhere_gives m (node.Pointer to qualifier) e = refl
nowhere_gives m (node.Array other count) e = refl
nowhere_gives m (node.Struct id) e = refl

-- a part of a function's type stands before it in the table
pub behind_below : (n : Node) (i rest : ℕ) → Below i n → ending_of n ≡ Behind rest → rest < i
behind_below (node.Takes param others) i rest h e = let f : others ≡ rest = cc in rw (sym f) h.1.0
behind_below (node.Constant of) i rest h e = let f : of ≡ rest = cc in rw (sym f) h.0
behind_below (node.Returns of) i rest h e = cc
behind_below node.Void i rest h e = cc
behind_below node.Bool i rest h e = cc
behind_below (node.Int bits signed) i rest h e = cc
behind_below (node.Pointer to qualifier) i rest h e = cc
behind_below (node.Array of count) i rest h e = cc
behind_below (node.Struct id) i rest h e = cc
