-- Function values that read initializers and statements, to a depth.
use Rattle.std.specs.Prelude.{ℕ, List, Result}
use Rattle.std.specs.declared.alloc.Global.{Global}
use Rattle.std.specs.Borrow.{Bor, MutBor}
use Rattle.pa_tree.specs.declared.declaration.Initializer.{Initializer}
use Rattle.pa_tree.specs.declared.stmt.Stmt.{Stmt}
use Rattle.pa_tree.specs.Cursors.{Cursor}
use Rattle.pa_grammar.specs.declared.rule.ParseError.{ParseError}
use Rattle.pa_grammar.specs.Rule.{Follows}
use Rattle.pa_pdecl.specs.Rules as rule

pub record NestsInitializer (d : ℕ) (pre : Global → Bor (List ℕ) → MutBor Cursor → ℕ → Type 0)
    (post : Global → Bor (List ℕ) → MutBor Cursor → ℕ → Result Initializer ParseError → MutBor Cursor → Type 0) : Type 0 where
  pub callable : (alloc : Global) (names : Bor (List ℕ)) (old : MutBor Cursor) → pre alloc names old d
  pub reads : (alloc : Global) (names : Bor (List ℕ)) (old new : MutBor Cursor) (r : Result Initializer ParseError) → post alloc names old d r new
      → Follows (rule.initializer names.now d) old.now r new.now

pub record NestsStmt (d : ℕ) (pre : Global → Bor (List ℕ) → MutBor Cursor → ℕ → Type 0)
    (post : Global → Bor (List ℕ) → MutBor Cursor → ℕ → Result Stmt ParseError → MutBor Cursor → Type 0) : Type 0 where
  pub callable : (alloc : Global) (names : Bor (List ℕ)) (old : MutBor Cursor) → pre alloc names old d
  pub reads : (alloc : Global) (names : Bor (List ℕ)) (old new : MutBor Cursor) (r : Result Stmt ParseError) → post alloc names old d r new
      → Follows (rule.statement names.now d) old.now r new.now
