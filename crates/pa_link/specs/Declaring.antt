-- What is known of one name while the declarations of the files are gone through.
use Rattle.std.specs.Prelude.{◌≡◌, ℕ, Bool, false, not, ◌&&◌, ◌||◌, List, if◌then◌else◌, Option, Some, None}
use Rattle.std.specs.List.{list_any}
use Rattle.std.specs.Option.{option_or}
use Rattle.std.specs.Str.{bytes_eq}
use Rattle.pa_ctype.specs.Types.{TypeTree}
use Rattle.pa_ctype.specs.Equality.{same_type}
use Rattle.pa_typed.specs.Units.{DeclaredTree}
use Rattle.pa_link.specs.declared.known.KnownName.{KnownName}
use Rattle.pa_link.specs.declared.rule.LinkRule.{LinkRule}
use Rattle.pa_link.specs.declared.rule.LinkRule.TheVariants.{L2, L3}
use Rattle.pa_link.specs.Program.{Known, differs}

module _ (m : ℕ → TypeTree) where
  -- a type differs from the one that the name has
  abbrev pub is_other : Option ℕ → TypeTree → Bool
  is_other None of = false
  is_other (Some first) of = not (same_type (m first) of)

  -- the rule that a declaration of the name breaks, which may be its definition
  abbrev pub broken : KnownName → Bool → TypeTree → Option LinkRule
  broken k defines of = if defines && k.defined then Some L2 else if is_other k.of of then Some L3 else None

  -- what is known of the names of all declarations so far, for one of them
  pub record IsKnownOf (known : Known) (name : List ℕ) (k : KnownName) : Type 0 where
    pub defined : k.defined ≡ list_any (bytes_eq name) known.defined
    pub types : (d : DeclaredTree) → d.name ≡ name → list_any (differs d) known.types ≡ is_other k.of d.of

-- with a declaration of this type, which may define it
abbrev pub with_declaration : KnownName → Bool → ℕ → KnownName
with_declaration k defines of = record { of = option_or k.of (Some of); defined = k.defined || defines }
