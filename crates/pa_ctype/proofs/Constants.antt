-- Which types take `const`, by their nodes.
use Rattle.std.proofs.Common.{◌≡◌, ℕ, ◌<◌, Bool, true, List, length, get_or, Option, refl, sym, ap, ◌∙◌, ◌⊎◌, inl, inr}
use Rattle.pa_ctype.specs.declared.node.Qualifier.{Qualifier}
use Rattle.pa_ctype.specs.declared.node.Node.{Node}
use Rattle.pa_ctype.specs.declared.node.Node.TheVariants.{Void, Int, Pointer, Struct, Returns, Takes, Constant}
use Rattle.pa_ctype.specs.declared.node.Node.TheVariants as variant
use Rattle.pa_ctype.specs.declared.node.Facts.{Facts}
use Rattle.pa_ctype.specs.Types.{TypeTree}
use Rattle.pa_ctype.specs.Qualifiers.{with_const}
use Rattle.pa_ctype.specs.Nodes.{takes_const, at, IsTable}
use Rattle.pa_ctype.proofs.KindLaws.{const_const, function_const}
use Rattle.pa_ctype.proofs.NodeTable.{layer_is, proper_is}

module _ (ns : List Node) (fs : List Facts) (t : IsTable ns fs) (i : ℕ) (n : Node) (h : i < length ns) (e : n ≡ get_or ns i Void) where
  abbrev IsPlain : Type 0
  IsPlain =
      (n ≡ Void) ⊎ ((n ≡ variant.Bool) ⊎ (((b : ℕ) × (s : Bool) × (n ≡ Int b s)) ⊎ (((to : ℕ) × (q : Option Qualifier) × (n ≡ Pointer to q)) ⊎ ((id : ℕ) × (n ≡ Struct id)))))

  pub takes_it : IsPlain → takes_const (at ns i) ≡ true
  takes_it (inl f) = ap takes_const (layer_is ns fs t i n _ h e f)
  takes_it (inr (inl f)) = ap takes_const (layer_is ns fs t i n _ h e f)
  takes_it (inr (inr (inl (b, s, f)))) = ap takes_const (layer_is ns fs t i n (Int b s) h e f)
  takes_it (inr (inr (inr (inl (to, q, f))))) = ap takes_const (layer_is ns fs t i n (Pointer to q) h e f)
  takes_it (inr (inr (inr (inr (id, f))))) = ap takes_const (layer_is ns fs t i n (Struct id) h e f)

  by_layer : (u : TypeTree) → at ns i ≡ u → with_const true u ≡ u → at ns i ≡ with_const true (at ns i)
  by_layer u f g = f ∙ sym g ∙ ap (with_const true) (sym f)

  abbrev HasConst : Type 0
  HasConst = ((of : ℕ) × (n ≡ Constant of)) ⊎ (((of : ℕ) × (n ≡ Returns of)) ⊎ ((param : ℕ) × (rest : ℕ) × (n ≡ Takes param rest)))

  pub has_it : HasConst → at ns i ≡ with_const true (at ns i)
  unfolding with_const
  has_it (inl (of, f)) = by_layer _ (layer_is ns fs t i n (Constant of) h e f) (const_const (at ns of) (proper_is ns fs t i n (Constant of) h e f))
  has_it (inr (inl (of, f))) = by_layer _ (layer_is ns fs t i n (Returns of) h e f) refl
  has_it (inr (inr (param, rest, f))) = by_layer _ (layer_is ns fs t i n (Takes param rest) h e f) (function_const (at ns param) (at ns rest) (proper_is ns fs t i n (Takes param rest) h e f))
