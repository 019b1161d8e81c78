-- Tokens are spelled by at most one expression, one list of specifiers, one declarator.
use Rattle.std.proofs.Common.{◌≡◌, ◌≤◌, ℕ, max, List, [], Result, Ok, Bool, refl, sym, ◌∙◌, ap, arith}
use Rattle.pa_grammar.specs.declared.rule.Naming.{Naming}
use Rattle.pa_tree.specs.Cursors.{Cursor}
use Rattle.pa_tree.specs.Exprs.{ExprTree, SpecsTree, DeclaratorTree}
use Rattle.pa_tree.specs.Heights.{expr_height, specs_height, declarator_height}
use Rattle.pa_tree.specs.Spells.{ExprSpells, SpecsSpell, DeclaratorSpells, has_name}
use Rattle.pa_grammar.specs.Parser.{Outcome, Stop}
use Rattle.pa_grammar.proofs.Sound.{Fits}
use Rattle.pa_grammar.proofs.CompleteDeclarators.{complete}

pub same_answer : {A : Type 0} {o : Outcome A} {x y : A} {c d : Cursor} → o ≡ Ok (x, c) → o ≡ Ok (y, d) → x ≡ y
same_answer {A = A} {x = x} {y = y} {c = c} {d = d} e h = let q : ◌≡◌ {A = Result (A × Cursor) Stop} (Ok (x, c)) (Ok (y, d)) = sym e ∙ h in let r : ◌≡◌ {A = A × Cursor} (x, c) (y, d) = cc in ap (λ z. z.0) r

module _ (names : List ℕ) where
  -- the tokens from a place on to their end
  pub one_expr : (t u : ExprTree) (level : ℕ) (c : Cursor) (y z : ℕ) → level ≤ 14 → ExprSpells names level t c (record { ended = y; ahead = [] }) → ExprSpells names level u c (record { ended = z; ahead = [] }) → t ≡ u
  one_expr t u level c y z l h i =
      let d = max (expr_height t) (expr_height u) in
      let g = (complete names d).core in
      same_answer (g.expr t level c (record { ended = y; ahead = [] }) l h (omega arith) (omega arith)) (g.expr u level c (record { ended = z; ahead = [] }) l i (omega arith) (omega arith))

  pub one_specs : (s t : SpecsTree) (bodies : Bool) (c : Cursor) (y z : ℕ) → SpecsSpell names bodies s c (record { ended = y; ahead = [] }) → SpecsSpell names bodies t c (record { ended = z; ahead = [] }) → s ≡ t
  one_specs s t bodies c y z h i =
      let d = max (specs_height s) (specs_height t) in
      let g = complete names d in
      same_answer (g.specs s bodies c (record { ended = y; ahead = [] }) h (omega arith) refl) (g.specs t bodies c (record { ended = z; ahead = [] }) i (omega arith) refl)

  pub one_declarator : (x y : DeclaratorTree) (name : Naming) (c : Cursor) (u v : ℕ) → Fits name (has_name x) → Fits name (has_name y) → DeclaratorSpells names 0 x c (record { ended = u; ahead = [] }) → DeclaratorSpells names 0 y c (record { ended = v; ahead = [] }) → x ≡ y
  one_declarator x y name c u v f g h i =
      let d = max (declarator_height x) (declarator_height y) in
      let w = complete names d in
      same_answer (w.declarator x name c (record { ended = u; ahead = [] }) f h (omega arith) refl) (w.declarator y name c (record { ended = v; ahead = [] }) g i (omega arith) refl)
