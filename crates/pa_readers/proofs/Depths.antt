-- The readers of a depth that isn't 0, over those of the depth below.
use Rattle.std.proofs.Common.{◌≡◌, ◌<◌, ◌-◌, ℕ, zero, suc, List, refl, ap, arith}
use Rattle.pa_tree.specs.Cursors.{Cursor}
use Rattle.pa_grammar.specs.declared.rule.Naming.{Naming}
use Rattle.pa_grammar.specs.Reading.{parsers, expr_level, opened_level, declarator_level}

module _ (names : List ℕ) where
  one_less : (d : ℕ) → 0 < d → d ≡ suc (d - 1)
  one_less d h = omega (arith, h)

  pub expr_deeper : (d : ℕ) → 0 < d → (level : ℕ) (c : Cursor) → (parsers names d).expr level c ≡ expr_level names (d - 1) (parsers names (d - 1)) level c
  unfolding parsers
  expr_deeper d h level c = ap (λ n. (parsers names n).expr level c) (one_less d h)

  pub opened_deeper : (d : ℕ) → 0 < d → (from : ℕ) (c : Cursor) → (parsers names d).opened from c ≡ opened_level names (d - 1) (parsers names (d - 1)) from c
  unfolding parsers
  opened_deeper d h from c = ap (λ n. (parsers names n).opened from c) (one_less d h)

  pub declarator_deeper : (d : ℕ) → 0 < d → (name : Naming) (c : Cursor) → (parsers names d).declarator name c ≡ declarator_level names (d - 1) (parsers names (d - 1)) name c
  unfolding parsers
  declarator_deeper d h name c = ap (λ n. (parsers names n).declarator name c) (one_less d h)
