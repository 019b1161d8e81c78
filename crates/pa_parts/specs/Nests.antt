-- Function values that read the parts of a tree, to a depth.
use Rattle.std.specs.Prelude.{ℕ, Bool, List, Result}
use Rattle.std.specs.declared.alloc.Global.{Global}
use Rattle.std.specs.Borrow.{Bor, MutBor}
use Rattle.pa_tree.specs.declared.expr.Expr.{Expr}
use Rattle.pa_tree.specs.declared.expr.Specs.{Specs}
use Rattle.pa_tree.specs.declared.expr.Declarator.{Declarator}
use Rattle.pa_tree.specs.Cursors.{Cursor}
use Rattle.pa_parts.specs.declared.measured.Measured.{Measured}
use Rattle.pa_parts.specs.Measures.{Measures}
use Rattle.pa_parts.specs.Nonterminals as nonterminal
use Rattle.pa_parts.specs.Trees as tree
use Rattle.pa_grammar.specs.declared.rule.Naming.{Naming}
use Rattle.pa_grammar.specs.declared.rule.ParseError.{ParseError}
use Rattle.pa_grammar.specs.Rule.{Follows}

pub record NestsExpr (d : ℕ) (pre : Global → Bor (List ℕ) → MutBor Cursor → ℕ → ℕ → Type 0)
    (post : Global → Bor (List ℕ) → MutBor Cursor → ℕ → ℕ → Result (Measured Expr) ParseError → MutBor Cursor → Type 0) : Type 0 where
  pub callable : (alloc : Global) (names : Bor (List ℕ)) (old : MutBor Cursor) (level : ℕ) → pre alloc names old d level
  pub reads : (alloc : Global) (names : Bor (List ℕ)) (old new : MutBor Cursor) (level : ℕ) (r : Result (Measured Expr) ParseError) → post alloc names old d level r new
      → Follows (nonterminal.expr names.now d level) old.now r new.now × Measures tree.expr d r

pub record NestsOpened (d : ℕ) (pre : Global → Bor (List ℕ) → MutBor Cursor → ℕ → ℕ → Type 0)
    (post : Global → Bor (List ℕ) → MutBor Cursor → ℕ → ℕ → Result (Measured Expr) ParseError → MutBor Cursor → Type 0) : Type 0 where
  pub callable : (alloc : Global) (names : Bor (List ℕ)) (old : MutBor Cursor) (from : ℕ) → pre alloc names old d from
  pub reads : (alloc : Global) (names : Bor (List ℕ)) (old new : MutBor Cursor) (from : ℕ) (r : Result (Measured Expr) ParseError) → post alloc names old d from r new
      → Follows (nonterminal.opened names.now d from) old.now r new.now × Measures tree.expr d r

pub record NestsSpecs (d : ℕ) (pre : Global → Bor (List ℕ) → MutBor Cursor → ℕ → Bool → Type 0)
    (post : Global → Bor (List ℕ) → MutBor Cursor → ℕ → Bool → Result (Measured Specs) ParseError → MutBor Cursor → Type 0) : Type 0 where
  pub callable : (alloc : Global) (names : Bor (List ℕ)) (old : MutBor Cursor) (bodies : Bool) → pre alloc names old d bodies
  pub reads : (alloc : Global) (names : Bor (List ℕ)) (old new : MutBor Cursor) (bodies : Bool) (r : Result (Measured Specs) ParseError) → post alloc names old d bodies r new
      → Follows (nonterminal.specs names.now d bodies) old.now r new.now × Measures tree.specs d r

pub record NestsDeclarator (d : ℕ) (pre : Global → Bor (List ℕ) → MutBor Cursor → ℕ → Naming → Type 0)
    (post : Global → Bor (List ℕ) → MutBor Cursor → ℕ → Naming → Result (Measured Declarator) ParseError → MutBor Cursor → Type 0) : Type 0 where
  pub callable : (alloc : Global) (names : Bor (List ℕ)) (old : MutBor Cursor) (name : Naming) → pre alloc names old d name
  pub reads : (alloc : Global) (names : Bor (List ℕ)) (old new : MutBor Cursor) (name : Naming) (r : Result (Measured Declarator) ParseError) → post alloc names old d name r new
      → Follows (nonterminal.declarator names.now d name) old.now r new.now × Measures tree.declarator d r
