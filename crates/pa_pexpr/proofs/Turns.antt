-- One turn of a list, and of the operators behind an operand.
use Rattle.std.proofs.Common.{◌≡◌, ◌<◌, ◌≤◌, ◌-◌, ◌+◌, ℕ, suc, max, List, [], ◌∷◌, ◌++◌, map, length, Result, Ok, Err, OnOk, refl, arith}
use Rattle.std.proofs.lemmas.List.{map-append}
use Rattle.pa_lex.specs.declared.token.Punct.TheVariants as p
use Rattle.pa_tree.specs.Cursors.{Cursor}
use Rattle.pa_tree.specs.Exprs.{ExprTree}
use Rattle.pa_tree.specs.Heights.{expr_height, exprs_height}
use Rattle.pa_tree.specs.declared.expr.Expr.{Expr}
use Rattle.pa_tree.specs.Views.{expr_tree, exprs_of}
use Rattle.pa_grammar.specs.declared.rule.ParseError.{ParseError}
use Rattle.pa_grammar.specs.Commas.{behind_comma}
use Rattle.pa_parts.specs.declared.measured.Measured.{Measured}
use Rattle.pa_parts.specs.Nonterminals as nonterminal
use Rattle.pa_grammar.specs.Parser.{Parser, and_then, goes, iterate, mark, sees, many, item_step}
use Rattle.pa_grammar.specs.Rule.{Follows}
use Rattle.pa_grammar.specs.Reading.{Parsers, text_step, parsers, next, turn, last, climb}
use Rattle.pa_grammar.proofs.Meets.{IfRead}
use Rattle.pa_grammar.proofs.Iterated.{one_turn}
use Rattle.pa_grammar.proofs.Eats.{Eats, Fewer, eats_left, eats_mark, item_step-shrinks}
use Rattle.pa_grammar.proofs.LocalReading.{text-shrinks, parsers-local}
use Rattle.pa_grammar.proofs.Steps.{then_is}

pub text_turn : (all : List ℕ) (c : Cursor) → iterate text_step all c ≡ and_then (text_step all c) (goes (iterate text_step))
text_turn all c = one_turn text_step text-shrinks all c

module _ (names : List ℕ) (d : ℕ) where
  -- a comma and an argument
  abbrev pub argument : Parser ExprTree
  argument = behind_comma ((parsers names d).expr 1)

  argument-eats : Eats argument
  argument-eats = eats_left (eats_mark p.Comma) (λ _. (parsers-local names d).expr 1)

  pub argument_turn : (all : List ExprTree) (c : Cursor) → many (sees p.Comma) argument all c ≡ and_then (item_step (sees p.Comma) argument all c) (goes (many (sees p.Comma) argument))
  argument_turn all c = one_turn (item_step (sees p.Comma) argument) (item_step-shrinks (sees p.Comma) argument argument-eats) all c

  pub argument_fewer : (t : ExprTree) (c e : Cursor) → argument c ≡ Ok (t, e) → length e.ahead < length c.ahead
  argument_fewer t c e h = let f = (argument-eats.holds c).holds in rw h at f

pub next_fewer : (names : List ℕ) (d : ℕ) (old middle new : Cursor) (r : Result (Measured Expr) ParseError) → mark p.Comma old ≡ Ok (tt, middle) → Follows (nonterminal.expr names d 1) middle r new → OnOk r (length new.ahead < length old.ahead)
next_fewer names d old middle new (Ok q) m h = argument_fewer names d (expr_tree q.tree) old new (then_is (mark p.Comma) ((parsers names d).expr 1) old middle tt (Ok (expr_tree q.tree, new)) m h)
next_fewer names d old middle new (Err e) m h = tt

pub exprs_snoc : (ts : List ExprTree) (t : ExprTree) → exprs_height (exprs_of (ts ++ t ∷ [])) ≡ max (exprs_height (exprs_of ts)) (expr_height t)
exprs_snoc [] t = grind arith
exprs_snoc (x ∷ xs) t = let e = exprs_snoc xs t in grind (arith, e)

pub shown_snoc : (es : List Expr) (e : Expr) → map expr_tree (es ++ e ∷ []) ≡ map expr_tree es ++ expr_tree e ∷ []
shown_snoc es e = map-append expr_tree es (e ∷ [])

module _ (names : List ℕ) (d : ℕ) (below : Parsers) (from level : ℕ) where
  pub climb_more : (n i : ℕ) (left : ExprTree) (c : Cursor) → i < n → climb names d below from level (n - i) left c ≡ and_then (next level left c) (turn names d below from left (climb names d below from level (n - (i + 1))))
  unfolding climb
  climb_more n i left c h = let e : n - i ≡ suc (n - (i + 1)) = omega arith in rw e refl

  pub climb_last : (n i : ℕ) (left : ExprTree) (c : Cursor) → n ≤ i → climb names d below from level (n - i) left c ≡ and_then (next level left c) (last names d below left)
  unfolding climb
  climb_last n i left c h = let e : n - i ≡ 0 = omega arith in rw e refl
