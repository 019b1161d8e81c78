-- Initializers, declarations, statements and files of C11 (6.7 to 6.9) as plain data.
use Rattle.std.specs.Prelude.{ℕ, List, Option}
use Rattle.pa_lex.specs.declared.token.Include.{Include}
use Rattle.pa_tree.specs.declared.file.Storage.{Storage}
use Rattle.pa_tree.specs.Exprs.{ExprTree, SpecsTree, DeclaratorTree}

mutual
  pub data InitializerTree : Type 0 where
    Value : (value : ExprTree) (from to : ℕ) → InitializerTree
    Braced : (items : InitializerTrees) (from to : ℕ) → InitializerTree

  pub data InitializerTrees : Type 0 where
    NoInitializers : InitializerTrees
    ConsInitializer : (first : InitializerTree) (rest : InitializerTrees) → InitializerTrees

pub data InitDeclaratorTree : Type 0 where
  OfInitDeclarator : (declarator : DeclaratorTree) (initializer : Option InitializerTree) (from to : ℕ) → InitDeclaratorTree

pub data BlockDeclarationTree : Type 0 where
  OfBlockDeclaration : (specs : SpecsTree) (declarators : List InitDeclaratorTree) (from to : ℕ) → BlockDeclarationTree

pub data ForStartTree : Type 0 where
  Declares : (declaration : BlockDeclarationTree) (from to : ℕ) → ForStartTree
  Evaluates : (value : Option ExprTree) (from to : ℕ) → ForStartTree

mutual
  pub data StmtTree : Type 0 where
    Compound : (items : BlockItemTrees) (from to : ℕ) → StmtTree
    Expression : (value : Option ExprTree) (from to : ℕ) → StmtTree
    If : (test : ExprTree) (when_true : StmtTree) (from to : ℕ) → StmtTree
    IfElse : (test : ExprTree) (when_true : StmtTree) (when_false : StmtTree) (from to : ℕ) → StmtTree
    While : (test : ExprTree) (body : StmtTree) (from to : ℕ) → StmtTree
    DoWhile : (body : StmtTree) (test : ExprTree) (from to : ℕ) → StmtTree
    For : (start : ForStartTree) (test : Option ExprTree) (step : Option ExprTree) (body : StmtTree) (from to : ℕ) → StmtTree
    Switch : (value : ExprTree) (body : StmtTree) (from to : ℕ) → StmtTree
    Case : (value : ExprTree) (body : StmtTree) (from to : ℕ) → StmtTree
    Default : (body : StmtTree) (from to : ℕ) → StmtTree
    Break : (from to : ℕ) → StmtTree
    Continue : (from to : ℕ) → StmtTree
    Return : (value : Option ExprTree) (from to : ℕ) → StmtTree

  pub data BlockItemTree : Type 0 where
    DeclarationItem : (declaration : BlockDeclarationTree) (from to : ℕ) → BlockItemTree
    StatementItem : (statement : StmtTree) (from to : ℕ) → BlockItemTree

  pub data BlockItemTrees : Type 0 where
    NoBlockItems : BlockItemTrees
    ConsBlockItem : (first : BlockItemTree) (rest : BlockItemTrees) → BlockItemTrees

pub data DeclarationTree : Type 0 where
  OfDeclaration : (storage : Option Storage) (specs : SpecsTree) (declarators : List InitDeclaratorTree) (from to : ℕ) → DeclarationTree

pub data FunctionDefinitionTree : Type 0 where
  OfFunctionDefinition : (storage : Option Storage) (specs : SpecsTree) (declarator : DeclaratorTree) (body : StmtTree) (from to : ℕ) → FunctionDefinitionTree

pub data FileItemTree : Type 0 where
  Included : (include : Include) (from to : ℕ) → FileItemTree
  Declared : (declaration : DeclarationTree) (from to : ℕ) → FileItemTree
  Defined : (definition : FunctionDefinitionTree) (from to : ℕ) → FileItemTree

abbrev pub FileTree : Type 0
FileTree = List FileItemTree
