-- Expressions, specifiers and declarators of C11 (6.5, 6.7.2, 6.7.6, 6.7.7) as plain data.
use Rattle.std.specs.Prelude.{ℕ, ℤ, Bool, List, Option}
use Rattle.pa_tree.specs.declared.operator.Step.{Step}
use Rattle.pa_tree.specs.declared.operator.PrefixOperator.{PrefixOperator}
use Rattle.pa_tree.specs.declared.operator.BinaryOperator.{BinaryOperator}
use Rattle.pa_tree.specs.declared.operator.IntegerWord.{IntegerWord}
use Rattle.pa_tree.specs.declared.expr.Tag.{Tag}

mutual
  pub data ExprTree : Type 0 where
    Identifier : (name : ℕ) (from to : ℕ) → ExprTree
    Integer : (value : ℕ) (decimal : Bool) (unsigned : Bool) (long : Bool) (from to : ℕ) → ExprTree
    Character : (value : ℤ) (from to : ℕ) → ExprTree
    Text : (bytes : List ℕ) (from to : ℕ) → ExprTree
    Paren : (inner : ExprTree) (from to : ℕ) → ExprTree
    Index : (of : ExprTree) (at : ExprTree) (from to : ℕ) → ExprTree
    Call : (of : ExprTree) (arguments : ExprTrees) (from to : ℕ) → ExprTree
    Dot : (of : ExprTree) (member : ℕ) (from to : ℕ) → ExprTree
    Arrow : (of : ExprTree) (member : ℕ) (from to : ℕ) → ExprTree
    Postfix : (op : Step) (of : ExprTree) (from to : ℕ) → ExprTree
    Prefix : (op : PrefixOperator) (of : ExprTree) (from to : ℕ) → ExprTree
    SizeofExpr : (of : ExprTree) (from to : ℕ) → ExprTree
    SizeofType : (of : TypeNameTree) (from to : ℕ) → ExprTree
    Cast : (wanted : TypeNameTree) (of : ExprTree) (from to : ℕ) → ExprTree
    Binary : (op : BinaryOperator) (left : ExprTree) (right : ExprTree) (from to : ℕ) → ExprTree
    Conditional : (test : ExprTree) (when_true : ExprTree) (when_false : ExprTree) (from to : ℕ) → ExprTree

  pub data TypeNameTree : Type 0 where
    OfTypeName : (specs : SpecsTree) (declarator : DeclaratorTree) (from to : ℕ) → TypeNameTree

  pub data SpecsTree : Type 0 where
    OfSpecs : (before : QualifierTrees) (base : BaseTree) (after : QualifierTrees) (from to : ℕ) → SpecsTree

  pub data QualifierTree : Type 0 where
    Const : (from to : ℕ) → QualifierTree
    Ptrauth : (arguments : ExprTrees) (from to : ℕ) → QualifierTree

  pub data BaseTree : Type 0 where
    Void : (from to : ℕ) → BaseTree
    Boolean : (from to : ℕ) → BaseTree
    Words : (words : List IntegerWord) (from to : ℕ) → BaseTree
    TypedefName : (name : ℕ) (from to : ℕ) → BaseTree
    StructTag : (tag : Tag) (from to : ℕ) → BaseTree
    StructBody : (tag : Option Tag) (members : MemberTrees) (from to : ℕ) → BaseTree
    EnumTag : (tag : Tag) (from to : ℕ) → BaseTree
    EnumBody : (tag : Option Tag) (enumerators : EnumeratorTrees) (from to : ℕ) → BaseTree

  pub data MemberTree : Type 0 where
    OfMember : (specs : SpecsTree) (declarators : DeclaratorTrees) (from to : ℕ) → MemberTree

  pub data EnumeratorTree : Type 0 where
    OfEnumerator : (name : ℕ) (value : MaybeExprTree) (from to : ℕ) → EnumeratorTree

  pub data DeclaratorTree : Type 0 where
    Named : (name : ℕ) (from to : ℕ) → DeclaratorTree
    Absent : (from to : ℕ) → DeclaratorTree
    Pointer : (qualifiers : QualifierTrees) (of : DeclaratorTree) (from to : ℕ) → DeclaratorTree
    Grouped : (inner : DeclaratorTree) (from to : ℕ) → DeclaratorTree
    Array : (of : DeclaratorTree) (length : MaybeExprTree) (from to : ℕ) → DeclaratorTree
    Function : (of : DeclaratorTree) (parameters : ParametersTree) (from to : ℕ) → DeclaratorTree

  pub data ParametersTree : Type 0 where
    Empty : (from to : ℕ) → ParametersTree
    OnlyVoid : (from to : ℕ) → ParametersTree
    Listed : (parameters : ParameterTrees) (from to : ℕ) → ParametersTree

  pub data ParameterTree : Type 0 where
    OfParameter : (specs : SpecsTree) (declarator : DeclaratorTree) (from to : ℕ) → ParameterTree

  pub data ExprTrees : Type 0 where
    NoExprs : ExprTrees
    ConsExpr : (first : ExprTree) (rest : ExprTrees) → ExprTrees

  pub data QualifierTrees : Type 0 where
    NoQualifiers : QualifierTrees
    ConsQualifier : (first : QualifierTree) (rest : QualifierTrees) → QualifierTrees

  pub data MemberTrees : Type 0 where
    NoMembers : MemberTrees
    ConsMember : (first : MemberTree) (rest : MemberTrees) → MemberTrees

  pub data EnumeratorTrees : Type 0 where
    NoEnumerators : EnumeratorTrees
    ConsEnumerator : (first : EnumeratorTree) (rest : EnumeratorTrees) → EnumeratorTrees

  pub data DeclaratorTrees : Type 0 where
    NoDeclarators : DeclaratorTrees
    ConsDeclarator : (first : DeclaratorTree) (rest : DeclaratorTrees) → DeclaratorTrees

  pub data ParameterTrees : Type 0 where
    NoParameters : ParameterTrees
    ConsParameter : (first : ParameterTree) (rest : ParameterTrees) → ParameterTrees

  pub data MaybeExprTree : Type 0 where
    NoExpr : MaybeExprTree
    SomeExpr : (of : ExprTree) → MaybeExprTree
