-- What is kept of a type, from what is kept of its parts.
use Rattle.std.proofs.Common.{◌≡◌, suc, max, true, false, List, [], ◌∷◌, ◌++◌, None, refl, ap, arith}
use Rattle.pa_ctype.specs.Types.{TypeTree, Of, FormTree, Void, Boolean, Integer, Pointer, Array, Struct, Function, TypeTrees, Nil, Cons, trees_of, type_depth}
use Rattle.pa_ctype.specs.Qualifiers.{bare, bare_form, bare_types, with_const}
use Rattle.pa_ctype.specs.declared.node.Extent.TheVariants.{Nowhere}
use Rattle.pa_ctype.specs.Nodes.{taking, constant, is_function, takes_const, extent_of}

mutual
  unfolding bare bare_form bare_types

  pub bare_bare : (t : TypeTree) → bare (bare t) ≡ bare t
  bare_bare (Of c form) = ap (Of false) (bare_bare_form form)

  bare_bare_form : (form : FormTree) → bare_form (bare_form form) ≡ bare_form form
  bare_bare_form Void = refl
  bare_bare_form Boolean = refl
  bare_bare_form (Integer bits signed) = refl
  bare_bare_form (Pointer to schema) = ap (λ t. Pointer t None) (bare_bare to)
  bare_bare_form (Array of count) = ap (λ t. Array t count) (bare_bare of)
  bare_bare_form (Struct id) = refl
  bare_bare_form (Function params result) = rw (bare_bare_types params, bare_bare result) refl

  bare_bare_types : (ts : TypeTrees) → bare_types (bare_types ts) ≡ bare_types ts
  bare_bare_types Nil = refl
  bare_bare_types (Cons t ts) = rw (bare_bare t, bare_bare_types ts) refl

-- a function, by its parts
pub function_is : (t : TypeTree) → is_function t ≡ true → (params : TypeTrees) × (result : TypeTree) × (t ≡ Of false (Function params result))
function_is (Of false (Function params result)) h = (params, result, refl)
function_is (Of true form) h = cc
function_is (Of false Void) h = cc
function_is (Of false Boolean) h = cc
function_is (Of false (Integer bits signed)) h = cc
function_is (Of false (Pointer to schema)) h = cc
function_is (Of false (Array of count)) h = cc
function_is (Of false (Struct id)) h = cc

pub taking_bare : (p t : TypeTree) → is_function t ≡ true → taking (bare p) (bare t) ≡ bare (taking p t)
unfolding bare
taking_bare p t h = let (params, result, e) = function_is t h in rw e refl

pub bare_function : (t : TypeTree) → is_function t ≡ true → is_function (bare t) ≡ true
unfolding bare
bare_function t h = let (params, result, e) = function_is t h in rw e refl

pub taking_depth : (p t : TypeTree) → is_function t ≡ true → type_depth (taking p t) ≡ max (suc (type_depth p)) (type_depth t)
unfolding type_depth
taking_depth p t h = let (params, result, e) = function_is t h in rw e (omega arith)

pub taking_extent : (p t : TypeTree) → is_function t ≡ true → Nowhere ≡ extent_of (taking p t)
unfolding extent_of
taking_extent p t h = let (params, result, e) = function_is t h in rw e refl

-- of a constant type
pub constant_bare : (t : TypeTree) → bare t ≡ bare (constant t)
unfolding bare
constant_bare (Of c form) = refl

pub constant_depth : (t : TypeTree) → type_depth (constant t) ≡ type_depth t
unfolding type_depth
constant_depth (Of c form) = refl

pub constant_extent : (t : TypeTree) → extent_of (constant t) ≡ extent_of t
unfolding extent_of
constant_extent (Of c form) = refl

-- ---- `const`

-- what takes `const` gets it, and has it then
pub const_is : (t : TypeTree) → takes_const t ≡ true → with_const true t ≡ constant t
unfolding with_const
const_is (Of true form) h = cc
const_is (Of false Void) h = refl
const_is (Of false Boolean) h = refl
const_is (Of false (Integer bits signed)) h = refl
const_is (Of false (Pointer to schema)) h = refl
const_is (Of false (Array of count)) h = cc
const_is (Of false (Struct id)) h = refl
const_is (Of false (Function params result)) h = cc

pub const_const : (t : TypeTree) → takes_const t ≡ true → with_const true (constant t) ≡ constant t
unfolding with_const
const_const (Of true form) h = cc
const_const (Of false Void) h = refl
const_const (Of false Boolean) h = refl
const_const (Of false (Integer bits signed)) h = refl
const_const (Of false (Pointer to schema)) h = refl
const_const (Of false (Array of count)) h = cc
const_const (Of false (Struct id)) h = refl
const_const (Of false (Function params result)) h = cc

pub function_const : (p t : TypeTree) → is_function t ≡ true → with_const true (taking p t) ≡ taking p t
unfolding with_const
function_const p t h = let (params, result, e) = function_is t h in rw e refl

-- ---- functions, one parameter after the other
abbrev pub onto : List TypeTree → TypeTree → TypeTree
onto [] t = t
onto (p ∷ ps) t = taking p (onto ps t)

pub onto_last : (ps : List TypeTree) (p t : TypeTree) → onto (ps ++ p ∷ []) t ≡ onto ps (taking p t)
onto_last [] p t = refl
onto_last (q ∷ ps) p t = ap (taking q) (onto_last ps p t)

pub onto_function : (ps : List TypeTree) (r : TypeTree) → onto ps (Of false (Function Nil r)) ≡ Of false (Function (trees_of ps) r)
onto_function [] r = refl
onto_function (p ∷ ps) r = ap (taking p) (onto_function ps r)

pub taking_function : (p t : TypeTree) → is_function t ≡ true → is_function (taking p t) ≡ true
taking_function p t h = let (params, result, e) = function_is t h in rw e refl
