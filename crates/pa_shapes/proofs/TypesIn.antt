-- The types in a typed tree, a variant at a time.
use Rattle.std.proofs.Common.{◌≡◌, ℕ, Bool, List, [], ◌∷◌, ◌++◌, map, Option, ap, sym, ◌∙◌}
use Rattle.pa_pac.specs.declared.schema.Schema.{Schema}
use Rattle.pa_typed.specs.declared.expr.ExprType.{ExprType}
use Rattle.pa_typed.specs.declared.expr.UnaryOperation.{UnaryOperation}
use Rattle.pa_typed.specs.declared.expr.BinaryOperation.{BinaryOperation}
use Rattle.pa_typed.specs.declared.expr.Comparison.{Comparison}
use Rattle.pa_typed.specs.declared.stmt.LocalInit.{LocalInit}
use Rattle.pa_typed.specs.declared.expr.TExpr.{TExpr, fold-TExpr, fold-roll-TExpr}
use Rattle.pa_typed.specs.declared.expr.TExpr.TheVariants as vTExpr
use Rattle.pa_typed.specs.declared.expr.TExpr.TheOpen.{TExpr-F}
use Rattle.pa_typed.specs.declared.stmt.TForStart.{TForStart}
use Rattle.pa_typed.specs.declared.stmt.TStmt.{TStmt, fold-TStmt, fold-roll-TStmt}
use Rattle.pa_typed.specs.declared.stmt.TStmt.TheVariants as vTStmt
use Rattle.pa_typed.specs.declared.stmt.TStmt.TheOpen.{TStmt-F}
use Rattle.pa_shapes.specs.TypesIn.{all_of, expr_types_layer, expr_types, maybe_types, local_init_types, for_start_types, stmt_types_layer, stmt_types}

pub types-LocalPlace : (local : ℕ) (of : ExprType) → expr_types (vTExpr.LocalPlace local of) ≡ of ∷ []
unfolding expr_types
types-LocalPlace local of = ap (fold-TExpr (List ExprType) expr_types_layer) (sym (vTExpr.rolls-LocalPlace local of)) ∙ fold-roll-TExpr (List ExprType) expr_types_layer (TExpr-F.LocalPlace local of)

pub types-GlobalPlace : (name : ℕ) (place : ℕ) (of : ExprType) → expr_types (vTExpr.GlobalPlace name place of) ≡ of ∷ []
unfolding expr_types
types-GlobalPlace name place of = ap (fold-TExpr (List ExprType) expr_types_layer) (sym (vTExpr.rolls-GlobalPlace name place of)) ∙ fold-roll-TExpr (List ExprType) expr_types_layer (TExpr-F.GlobalPlace name place of)

pub types-StringPlace : (text : ℕ) (of : ExprType) → expr_types (vTExpr.StringPlace text of) ≡ of ∷ []
unfolding expr_types
types-StringPlace text of = ap (fold-TExpr (List ExprType) expr_types_layer) (sym (vTExpr.rolls-StringPlace text of)) ∙ fold-roll-TExpr (List ExprType) expr_types_layer (TExpr-F.StringPlace text of)

pub types-Same : (of : ExprType) → expr_types (vTExpr.Same of) ≡ of ∷ []
unfolding expr_types
types-Same of = ap (fold-TExpr (List ExprType) expr_types_layer) (sym (vTExpr.rolls-Same of)) ∙ fold-roll-TExpr (List ExprType) expr_types_layer (TExpr-F.Same of)

pub types-Member : (owner : TExpr) (index : ℕ) (offset : ℕ) (of : ExprType) → expr_types (vTExpr.Member owner index offset of) ≡ of ∷ expr_types owner
unfolding expr_types
types-Member owner index offset of = ap (fold-TExpr (List ExprType) expr_types_layer) (sym (vTExpr.rolls-Member owner index offset of)) ∙ fold-roll-TExpr (List ExprType) expr_types_layer (TExpr-F.Member owner index offset of)

pub types-Index : (left : TExpr) (right : TExpr) (pointer_left : Bool) (of : ExprType) → expr_types (vTExpr.Index left right pointer_left of) ≡ of ∷ (expr_types left ++ expr_types right)
unfolding expr_types
types-Index left right pointer_left of = ap (fold-TExpr (List ExprType) expr_types_layer) (sym (vTExpr.rolls-Index left right pointer_left of)) ∙ fold-roll-TExpr (List ExprType) expr_types_layer (TExpr-F.Index left right pointer_left of)

pub types-Deref : (pointer : TExpr) (of : ExprType) → expr_types (vTExpr.Deref pointer of) ≡ of ∷ expr_types pointer
unfolding expr_types
types-Deref pointer of = ap (fold-TExpr (List ExprType) expr_types_layer) (sym (vTExpr.rolls-Deref pointer of)) ∙ fold-roll-TExpr (List ExprType) expr_types_layer (TExpr-F.Deref pointer of)

pub types-Number : (value : ℕ) (of : ExprType) → expr_types (vTExpr.Number value of) ≡ of ∷ []
unfolding expr_types
types-Number value of = ap (fold-TExpr (List ExprType) expr_types_layer) (sym (vTExpr.rolls-Number value of)) ∙ fold-roll-TExpr (List ExprType) expr_types_layer (TExpr-F.Number value of)

pub types-Load : (from : TExpr) (of : ExprType) → expr_types (vTExpr.Load from of) ≡ of ∷ expr_types from
unfolding expr_types
types-Load from of = ap (fold-TExpr (List ExprType) expr_types_layer) (sym (vTExpr.rolls-Load from of)) ∙ fold-roll-TExpr (List ExprType) expr_types_layer (TExpr-F.Load from of)

pub types-LoadSigned : (from : TExpr) (schema : Schema) (of : ExprType) → expr_types (vTExpr.LoadSigned from schema of) ≡ of ∷ expr_types from
unfolding expr_types
types-LoadSigned from schema of = ap (fold-TExpr (List ExprType) expr_types_layer) (sym (vTExpr.rolls-LoadSigned from schema of)) ∙ fold-roll-TExpr (List ExprType) expr_types_layer (TExpr-F.LoadSigned from schema of)

pub types-Store : (to : TExpr) (value : TExpr) (old : Bool) (of : ExprType) → expr_types (vTExpr.Store to value old of) ≡ of ∷ (expr_types to ++ expr_types value)
unfolding expr_types
types-Store to value old of = ap (fold-TExpr (List ExprType) expr_types_layer) (sym (vTExpr.rolls-Store to value old of)) ∙ fold-roll-TExpr (List ExprType) expr_types_layer (TExpr-F.Store to value old of)

pub types-StoreSigned : (to : TExpr) (value : TExpr) (old : Bool) (schema : Schema) (of : ExprType) → expr_types (vTExpr.StoreSigned to value old schema of) ≡ of ∷ (expr_types to ++ expr_types value)
unfolding expr_types
types-StoreSigned to value old schema of = ap (fold-TExpr (List ExprType) expr_types_layer) (sym (vTExpr.rolls-StoreSigned to value old schema of)) ∙ fold-roll-TExpr (List ExprType) expr_types_layer (TExpr-F.StoreSigned to value old schema of)

pub types-AddressOf : (at : TExpr) (of : ExprType) → expr_types (vTExpr.AddressOf at of) ≡ of ∷ expr_types at
unfolding expr_types
types-AddressOf at of = ap (fold-TExpr (List ExprType) expr_types_layer) (sym (vTExpr.rolls-AddressOf at of)) ∙ fold-roll-TExpr (List ExprType) expr_types_layer (TExpr-F.AddressOf at of)

pub types-FunctionValue : (name : ℕ) (place : ℕ) (of : ExprType) → expr_types (vTExpr.FunctionValue name place of) ≡ of ∷ []
unfolding expr_types
types-FunctionValue name place of = ap (fold-TExpr (List ExprType) expr_types_layer) (sym (vTExpr.rolls-FunctionValue name place of)) ∙ fold-roll-TExpr (List ExprType) expr_types_layer (TExpr-F.FunctionValue name place of)

pub types-Convert : (value : TExpr) (of : ExprType) → expr_types (vTExpr.Convert value of) ≡ of ∷ expr_types value
unfolding expr_types
types-Convert value of = ap (fold-TExpr (List ExprType) expr_types_layer) (sym (vTExpr.rolls-Convert value of)) ∙ fold-roll-TExpr (List ExprType) expr_types_layer (TExpr-F.Convert value of)

pub types-Unary : (op : UnaryOperation) (value : TExpr) (of : ExprType) → expr_types (vTExpr.Unary op value of) ≡ of ∷ expr_types value
unfolding expr_types
types-Unary op value of = ap (fold-TExpr (List ExprType) expr_types_layer) (sym (vTExpr.rolls-Unary op value of)) ∙ fold-roll-TExpr (List ExprType) expr_types_layer (TExpr-F.Unary op value of)

pub types-Binary : (op : BinaryOperation) (left : TExpr) (right : TExpr) (of : ExprType) → expr_types (vTExpr.Binary op left right of) ≡ of ∷ (expr_types left ++ expr_types right)
unfolding expr_types
types-Binary op left right of = ap (fold-TExpr (List ExprType) expr_types_layer) (sym (vTExpr.rolls-Binary op left right of)) ∙ fold-roll-TExpr (List ExprType) expr_types_layer (TExpr-F.Binary op left right of)

pub types-PointerAdd : (left : TExpr) (right : TExpr) (pointer_left : Bool) (subtracts : Bool) (of : ExprType) → expr_types (vTExpr.PointerAdd left right pointer_left subtracts of) ≡ of ∷ (expr_types left ++ expr_types right)
unfolding expr_types
types-PointerAdd left right pointer_left subtracts of = ap (fold-TExpr (List ExprType) expr_types_layer) (sym (vTExpr.rolls-PointerAdd left right pointer_left subtracts of)) ∙ fold-roll-TExpr (List ExprType) expr_types_layer (TExpr-F.PointerAdd left right pointer_left subtracts of)

pub types-PointerSub : (left : TExpr) (right : TExpr) (of : ExprType) → expr_types (vTExpr.PointerSub left right of) ≡ of ∷ (expr_types left ++ expr_types right)
unfolding expr_types
types-PointerSub left right of = ap (fold-TExpr (List ExprType) expr_types_layer) (sym (vTExpr.rolls-PointerSub left right of)) ∙ fold-roll-TExpr (List ExprType) expr_types_layer (TExpr-F.PointerSub left right of)

pub types-Compare : (op : Comparison) (left : TExpr) (right : TExpr) (of : ExprType) → expr_types (vTExpr.Compare op left right of) ≡ of ∷ (expr_types left ++ expr_types right)
unfolding expr_types
types-Compare op left right of = ap (fold-TExpr (List ExprType) expr_types_layer) (sym (vTExpr.rolls-Compare op left right of)) ∙ fold-roll-TExpr (List ExprType) expr_types_layer (TExpr-F.Compare op left right of)

pub types-And : (left : TExpr) (right : TExpr) (of : ExprType) → expr_types (vTExpr.And left right of) ≡ of ∷ (expr_types left ++ expr_types right)
unfolding expr_types
types-And left right of = ap (fold-TExpr (List ExprType) expr_types_layer) (sym (vTExpr.rolls-And left right of)) ∙ fold-roll-TExpr (List ExprType) expr_types_layer (TExpr-F.And left right of)

pub types-Or : (left : TExpr) (right : TExpr) (of : ExprType) → expr_types (vTExpr.Or left right of) ≡ of ∷ (expr_types left ++ expr_types right)
unfolding expr_types
types-Or left right of = ap (fold-TExpr (List ExprType) expr_types_layer) (sym (vTExpr.rolls-Or left right of)) ∙ fold-roll-TExpr (List ExprType) expr_types_layer (TExpr-F.Or left right of)

pub types-Choose : (test : TExpr) (when_true : TExpr) (when_false : TExpr) (of : ExprType) → expr_types (vTExpr.Choose test when_true when_false of) ≡ of ∷ (expr_types test ++ (expr_types when_true ++ expr_types when_false))
unfolding expr_types
types-Choose test when_true when_false of = ap (fold-TExpr (List ExprType) expr_types_layer) (sym (vTExpr.rolls-Choose test when_true when_false of)) ∙ fold-roll-TExpr (List ExprType) expr_types_layer (TExpr-F.Choose test when_true when_false of)

pub types-Comma : (first : TExpr) (second : TExpr) (of : ExprType) → expr_types (vTExpr.Comma first second of) ≡ of ∷ (expr_types first ++ expr_types second)
unfolding expr_types
types-Comma first second of = ap (fold-TExpr (List ExprType) expr_types_layer) (sym (vTExpr.rolls-Comma first second of)) ∙ fold-roll-TExpr (List ExprType) expr_types_layer (TExpr-F.Comma first second of)

pub types-CallDirect : (name : ℕ) (place : ℕ) (arguments : List TExpr) (of : ExprType) → expr_types (vTExpr.CallDirect name place arguments of) ≡ of ∷ all_of (map expr_types arguments)
unfolding expr_types
types-CallDirect name place arguments of = ap (fold-TExpr (List ExprType) expr_types_layer) (sym (vTExpr.rolls-CallDirect name place arguments of)) ∙ fold-roll-TExpr (List ExprType) expr_types_layer (TExpr-F.CallDirect name place arguments of)

pub types-CallPointer : (arguments : List TExpr) (function : TExpr) (of : ExprType) → expr_types (vTExpr.CallPointer arguments function of) ≡ of ∷ (all_of (map expr_types arguments) ++ expr_types function)
unfolding expr_types
types-CallPointer arguments function of = ap (fold-TExpr (List ExprType) expr_types_layer) (sym (vTExpr.rolls-CallPointer arguments function of)) ∙ fold-roll-TExpr (List ExprType) expr_types_layer (TExpr-F.CallPointer arguments function of)

pub types-Compound : (items : List TStmt) → stmt_types (vTStmt.Compound items) ≡ all_of (map stmt_types items)
unfolding stmt_types
types-Compound items = ap (fold-TStmt (List ExprType) stmt_types_layer) (sym (vTStmt.rolls-Compound items)) ∙ fold-roll-TStmt (List ExprType) stmt_types_layer (TStmt-F.Compound items)

pub types-InitLocal : (name : LocalInit) → stmt_types (vTStmt.InitLocal name) ≡ local_init_types name
unfolding stmt_types
types-InitLocal name = ap (fold-TStmt (List ExprType) stmt_types_layer) (sym (vTStmt.rolls-InitLocal name)) ∙ fold-roll-TStmt (List ExprType) stmt_types_layer (TStmt-F.InitLocal name)

pub types-Expression : (value : Option TExpr) → stmt_types (vTStmt.Expression value) ≡ maybe_types value
unfolding stmt_types
types-Expression value = ap (fold-TStmt (List ExprType) stmt_types_layer) (sym (vTStmt.rolls-Expression value)) ∙ fold-roll-TStmt (List ExprType) stmt_types_layer (TStmt-F.Expression value)

pub types-If : (test : TExpr) (body : TStmt) → stmt_types (vTStmt.If test body) ≡ expr_types test ++ stmt_types body
unfolding stmt_types
types-If test body = ap (fold-TStmt (List ExprType) stmt_types_layer) (sym (vTStmt.rolls-If test body)) ∙ fold-roll-TStmt (List ExprType) stmt_types_layer (TStmt-F.If test body)

pub types-IfElse : (test : TExpr) (when_true : TStmt) (when_false : TStmt) → stmt_types (vTStmt.IfElse test when_true when_false) ≡ expr_types test ++ (stmt_types when_true ++ stmt_types when_false)
unfolding stmt_types
types-IfElse test when_true when_false = ap (fold-TStmt (List ExprType) stmt_types_layer) (sym (vTStmt.rolls-IfElse test when_true when_false)) ∙ fold-roll-TStmt (List ExprType) stmt_types_layer (TStmt-F.IfElse test when_true when_false)

pub types-While : (test : TExpr) (body : TStmt) → stmt_types (vTStmt.While test body) ≡ expr_types test ++ stmt_types body
unfolding stmt_types
types-While test body = ap (fold-TStmt (List ExprType) stmt_types_layer) (sym (vTStmt.rolls-While test body)) ∙ fold-roll-TStmt (List ExprType) stmt_types_layer (TStmt-F.While test body)

pub types-DoWhile : (body : TStmt) (test : TExpr) → stmt_types (vTStmt.DoWhile body test) ≡ stmt_types body ++ expr_types test
unfolding stmt_types
types-DoWhile body test = ap (fold-TStmt (List ExprType) stmt_types_layer) (sym (vTStmt.rolls-DoWhile body test)) ∙ fold-roll-TStmt (List ExprType) stmt_types_layer (TStmt-F.DoWhile body test)

pub types-For : (start : TForStart) (test : Option TExpr) (step : Option TExpr) (body : TStmt) → stmt_types (vTStmt.For start test step body) ≡ for_start_types start ++ (maybe_types test ++ (maybe_types step ++ stmt_types body))
unfolding stmt_types
types-For start test step body = ap (fold-TStmt (List ExprType) stmt_types_layer) (sym (vTStmt.rolls-For start test step body)) ∙ fold-roll-TStmt (List ExprType) stmt_types_layer (TStmt-F.For start test step body)

pub types-Switch : (value : TExpr) (body : TStmt) → stmt_types (vTStmt.Switch value body) ≡ expr_types value ++ stmt_types body
unfolding stmt_types
types-Switch value body = ap (fold-TStmt (List ExprType) stmt_types_layer) (sym (vTStmt.rolls-Switch value body)) ∙ fold-roll-TStmt (List ExprType) stmt_types_layer (TStmt-F.Switch value body)

pub types-Case : (value : ℕ) (of : ExprType) (body : TStmt) → stmt_types (vTStmt.Case value of body) ≡ of ∷ stmt_types body
unfolding stmt_types
types-Case value of body = ap (fold-TStmt (List ExprType) stmt_types_layer) (sym (vTStmt.rolls-Case value of body)) ∙ fold-roll-TStmt (List ExprType) stmt_types_layer (TStmt-F.Case value of body)

pub types-Default : (body : TStmt) → stmt_types (vTStmt.Default body) ≡ stmt_types body
unfolding stmt_types
types-Default body = ap (fold-TStmt (List ExprType) stmt_types_layer) (sym (vTStmt.rolls-Default body)) ∙ fold-roll-TStmt (List ExprType) stmt_types_layer (TStmt-F.Default body)

pub types-Break : stmt_types vTStmt.Break ≡ []
unfolding stmt_types
types-Break = ap (fold-TStmt (List ExprType) stmt_types_layer) (sym vTStmt.rolls-Break) ∙ fold-roll-TStmt (List ExprType) stmt_types_layer TStmt-F.Break

pub types-Continue : stmt_types vTStmt.Continue ≡ []
unfolding stmt_types
types-Continue = ap (fold-TStmt (List ExprType) stmt_types_layer) (sym vTStmt.rolls-Continue) ∙ fold-roll-TStmt (List ExprType) stmt_types_layer TStmt-F.Continue

pub types-Return : (value : Option TExpr) → stmt_types (vTStmt.Return value) ≡ maybe_types value
unfolding stmt_types
types-Return value = ap (fold-TStmt (List ExprType) stmt_types_layer) (sym (vTStmt.rolls-Return value)) ∙ fold-roll-TStmt (List ExprType) stmt_types_layer (TStmt-F.Return value)

pub ruleset expr_types_by = (types-LocalPlace, types-GlobalPlace, types-StringPlace, types-Same, types-Member, types-Index, types-Deref, types-Number, types-Load, types-LoadSigned, types-Store, types-StoreSigned, types-AddressOf, types-FunctionValue, types-Convert, types-Unary, types-Binary, types-PointerAdd, types-PointerSub, types-Compare, types-And, types-Or, types-Choose, types-Comma, types-CallDirect, types-CallPointer)

pub ruleset stmt_types_by = (types-Compound, types-InitLocal, types-Expression, types-If, types-IfElse, types-While, types-DoWhile, types-For, types-Switch, types-Case, types-Default, types-Break, types-Continue, types-Return)
