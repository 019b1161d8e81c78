-- Which tokens a statement, a declaration or a file spells.
use Rattle.std.specs.Prelude.{◌≡◌, ◌≢◌, ℕ, Bool, true, false, List, [], ◌∷◌, ◌++◌, Option, Some, None}
use Rattle.pa_lex.specs.declared.token.Kind.TheVariants as kind
use Rattle.pa_lex.specs.declared.token.Keyword.{Keyword}
use Rattle.pa_lex.specs.declared.token.Keyword.TheVariants as w
use Rattle.pa_lex.specs.declared.token.Punct.TheVariants as p
use Rattle.pa_lex.specs.declared.token.Include.TheVariants as include
use Rattle.pa_lex.specs.declared.token.Token.{Token}
use Rattle.pa_lex.specs.Numbering.{stdint_numbers}
use Rattle.pa_tree.specs.declared.file.Storage.{Storage}
use Rattle.pa_tree.specs.declared.file.Storage.TheVariants as storage
use Rattle.pa_tree.specs.Cursors.{Cursor, start, Takes, Lies, Mark, Word}
use Rattle.pa_tree.specs.Exprs.{ExprTree, DeclaratorTree, Named, Absent, Pointer, Grouped, Array, Function}
use Rattle.pa_tree.specs.Spells.{LastComma, has_name, ExprSpells, SpecsSpell, DeclaratorSpells}
use Rattle.pa_tree.specs.Stmts.{InitializerTree, Value, Braced, InitializerTrees, NoInitializers, ConsInitializer, InitDeclaratorTree, OfInitDeclarator, BlockDeclarationTree, OfBlockDeclaration, ForStartTree, Declares, Evaluates, StmtTree, Compound, Expression, If, IfElse, While, DoWhile, For, Switch, Case, Default, Break, Continue, Return, BlockItemTree, DeclarationItem, StatementItem, BlockItemTrees, NoBlockItems, ConsBlockItem, DeclarationTree, OfDeclaration, FunctionDefinitionTree, OfFunctionDefinition, FileItemTree, Included, Declared, Defined, FileTree}

-- an `else` behind the statement would belong to an `if` at its end
abbrev pub is_open : StmtTree → Bool
is_open (If test body a z) = true
is_open (IfElse test when_true when_false a z) = is_open when_false
is_open (While test body a z) = is_open body
is_open (For start test step body a z) = is_open body
is_open (Switch value body a z) = is_open body
is_open (Case value body a z) = is_open body
is_open (Default body a z) = is_open body
is_open _ = false

abbrev pub is_compound : StmtTree → Bool
is_compound (Compound items a z) = true
is_compound _ = false

-- The names that are type names.
module _ (names : List ℕ) where
  abbrev pub MaybeExprSpells : Option ExprTree → Cursor → Cursor → Type 0
  MaybeExprSpells None c d = c ≡ d
  MaybeExprSpells (Some e) c d = ExprSpells names 0 e c d

  abbrev mutual
    pub InitializerSpells : InitializerTree → Cursor → Cursor → Type 0
    InitializerSpells (Value value a z) c d = ExprSpells names 1 value c d × Lies a z c d
    InitializerSpells (Braced items a z) c d = (m n o : Cursor) × Mark p.LeftBrace c m × InitializersSpell items m n × LastComma n o × Mark p.RightBrace o d × Lies a z c d

    pub CommaInitializers : InitializerTrees → Cursor → Cursor → Type 0
    CommaInitializers NoInitializers c d = c ≡ d
    CommaInitializers (ConsInitializer x xs) c d = (m n : Cursor) × Mark p.Comma c m × InitializerSpells x m n × CommaInitializers xs n d

    pub InitializersSpell : InitializerTrees → Cursor → Cursor → Type 0
    InitializersSpell NoInitializers c d = ⊥
    InitializersSpell (ConsInitializer x xs) c d = (m : Cursor) × InitializerSpells x c m × CommaInitializers xs m d

  abbrev pub MaybeInitializerSpells : Option InitializerTree → Cursor → Cursor → Type 0
  MaybeInitializerSpells None c d = c ≡ d
  MaybeInitializerSpells (Some i) c d = (m : Cursor) × Mark p.Assign c m × InitializerSpells i m d

-- the name that a declarator declares
abbrev pub declared_name : DeclaratorTree → Option ℕ
declared_name (Named name a z) = Some name
declared_name (Absent a z) = None
declared_name (Pointer _ of a z) = declared_name of
declared_name (Grouped inner a z) = declared_name inner
declared_name (Array of length a z) = declared_name of
declared_name (Function of parameters a z) = declared_name of

abbrev pub with_type : Option ℕ → List ℕ → List ℕ
with_type None names = names
with_type (Some name) names = name ∷ names

-- the names that are type names behind a declarator: a typedef makes its name one, from the declarator's end on
abbrev pub behind : Option Storage → DeclaratorTree → List ℕ → List ℕ
behind (Some storage.Typedef) declarator names = with_type (declared_name declarator) names
behind _ declarator names = names

abbrev pub behind_all : Option Storage → List InitDeclaratorTree → List ℕ → List ℕ
behind_all word [] names = names
behind_all word (OfInitDeclarator declarator initializer a z ∷ more) names = behind_all word more (behind word declarator names)

-- `storage`: the word in front of the declaration
module _ (word : Option Storage) where
  abbrev pub InitDeclaratorSpells : List ℕ → InitDeclaratorTree → Cursor → Cursor → Type 0
  InitDeclaratorSpells names (OfInitDeclarator declarator initializer a z) c d =
      (m : Cursor) × (has_name declarator ≡ true) × DeclaratorSpells names 0 declarator c m × MaybeInitializerSpells (behind word declarator names) initializer m d × Lies a z c d

  abbrev pub CommaInitDeclarators : List ℕ → List InitDeclaratorTree → Cursor → Cursor → Type 0
  CommaInitDeclarators names [] c d = c ≡ d
  CommaInitDeclarators names (x ∷ xs) c d = (m n : Cursor) × Mark p.Comma c m × InitDeclaratorSpells names x m n × CommaInitDeclarators (behind_all word (x ∷ []) names) xs n d

  abbrev pub InitDeclaratorsSpell : List ℕ → List InitDeclaratorTree → Cursor → Cursor → Type 0
  InitDeclaratorsSpell names [] c d = c ≡ d
  InitDeclaratorsSpell names (x ∷ xs) c d = (m : Cursor) × InitDeclaratorSpells names x c m × CommaInitDeclarators (behind_all word (x ∷ []) names) xs m d

module _ (names : List ℕ) where
  abbrev pub BlockDeclarationSpells : BlockDeclarationTree → Cursor → Cursor → Type 0
  BlockDeclarationSpells (OfBlockDeclaration specs declarators a z) c d =
      (m n : Cursor) × SpecsSpell names false specs c m × (declarators ≢ []) × InitDeclaratorsSpell None names declarators m n × Mark p.Semicolon n d × Lies a z c d

  abbrev pub ForStartSpells : ForStartTree → Cursor → Cursor → Type 0
  ForStartSpells (Declares declaration a z) c d = BlockDeclarationSpells declaration c d × Lies a z c d
  ForStartSpells (Evaluates value a z) c d = (m : Cursor) × MaybeExprSpells names value c m × Mark p.Semicolon m d × Lies a z c d

  abbrev mutual
    pub StmtSpells : StmtTree → Cursor → Cursor → Type 0
    StmtSpells (Compound items a z) c d = (m n : Cursor) × Mark p.LeftBrace c m × BlockItemsSpell items m n × Mark p.RightBrace n d × Lies a z c d
    StmtSpells (Expression value a z) c d = (m : Cursor) × MaybeExprSpells names value c m × Mark p.Semicolon m d × Lies a z c d
    StmtSpells (If test body a z) c d = (m n o q : Cursor) × Word w.If c m × Mark p.LeftParenthesis m n × ExprSpells names 0 test n o × Mark p.RightParenthesis o q × StmtSpells body q d × Lies a z c d
    StmtSpells (IfElse test when_true when_false a z) c d =
        (m n o q r s : Cursor) × Word w.If c m × Mark p.LeftParenthesis m n × ExprSpells names 0 test n o × Mark p.RightParenthesis o q × StmtSpells when_true q r × (is_open when_true ≡ false) × Word w.Else r s × StmtSpells when_false s d × Lies a z c d
    StmtSpells (While test body a z) c d = (m n o q : Cursor) × Word w.While c m × Mark p.LeftParenthesis m n × ExprSpells names 0 test n o × Mark p.RightParenthesis o q × StmtSpells body q d × Lies a z c d
    StmtSpells (DoWhile body test a z) c d =
        (m n o q r s : Cursor) × Word w.Do c m × StmtSpells body m n × Word w.While n o × Mark p.LeftParenthesis o q × ExprSpells names 0 test q r × Mark p.RightParenthesis r s × Mark p.Semicolon s d × Lies a z c d
    StmtSpells (For begins test step body a z) c d =
        (m n o q r s t : Cursor) × Word w.For c m × Mark p.LeftParenthesis m n × ForStartSpells begins n o × MaybeExprSpells names test o q × Mark p.Semicolon q r × MaybeExprSpells names step r s × Mark p.RightParenthesis s t × StmtSpells body t d × Lies a z c d
    StmtSpells (Switch value body a z) c d = (m n o q : Cursor) × Word w.Switch c m × Mark p.LeftParenthesis m n × ExprSpells names 0 value n o × Mark p.RightParenthesis o q × StmtSpells body q d × Lies a z c d
    StmtSpells (Case value body a z) c d = (m n o : Cursor) × Word w.Case c m × ExprSpells names 2 value m n × Mark p.Colon n o × StmtSpells body o d × Lies a z c d
    StmtSpells (Default body a z) c d = (m n : Cursor) × Word w.Default c m × Mark p.Colon m n × StmtSpells body n d × Lies a z c d
    StmtSpells (Break a z) c d = (m : Cursor) × Word w.Break c m × Mark p.Semicolon m d × Lies a z c d
    StmtSpells (Continue a z) c d = (m : Cursor) × Word w.Continue c m × Mark p.Semicolon m d × Lies a z c d
    StmtSpells (Return value a z) c d = (m n : Cursor) × Word w.Return c m × MaybeExprSpells names value m n × Mark p.Semicolon n d × Lies a z c d

    pub BlockItemSpells : BlockItemTree → Cursor → Cursor → Type 0
    BlockItemSpells (DeclarationItem declaration a z) c d = BlockDeclarationSpells declaration c d × Lies a z c d
    BlockItemSpells (StatementItem statement a z) c d = StmtSpells statement c d × Lies a z c d

    pub BlockItemsSpell : BlockItemTrees → Cursor → Cursor → Type 0
    BlockItemsSpell NoBlockItems c d = c ≡ d
    BlockItemsSpell (ConsBlockItem x xs) c d = (m : Cursor) × BlockItemSpells x c m × BlockItemsSpell xs m d

abbrev pub storage_word : Storage → Keyword
storage_word storage.Typedef = w.Typedef
storage_word storage.Static = w.Static
storage_word storage.Extern = w.Extern

abbrev pub StorageSpells : Option Storage → Cursor → Cursor → Type 0
StorageSpells None c d = c ≡ d
StorageSpells (Some word) c d = Word (storage_word word) c d

abbrev pub DeclarationSpells : List ℕ → DeclarationTree → Cursor → Cursor → Type 0
DeclarationSpells names (OfDeclaration word specs declarators a z) c d =
    (m n o : Cursor) × StorageSpells word c m × SpecsSpell names true specs m n × InitDeclaratorsSpell word names declarators n o × Mark p.Semicolon o d × Lies a z c d

abbrev pub FunctionDefinitionSpells : List ℕ → FunctionDefinitionTree → Cursor → Cursor → Type 0
FunctionDefinitionSpells names (OfFunctionDefinition word specs declarator body a z) c d =
    (m n o : Cursor) × (word ≢ Some storage.Typedef) × StorageSpells word c m × SpecsSpell names true specs m n × (has_name declarator ≡ true) × DeclaratorSpells names 0 declarator n o
    × (is_compound body ≡ true) × StmtSpells names body o d × Lies a z c d

abbrev pub FileItemSpells : List ℕ → FileItemTree → Cursor → Cursor → Type 0
FileItemSpells names (Included line a z) c d = Takes (kind.Include line) a z c d
FileItemSpells names (Declared declaration a z) c d = DeclarationSpells names declaration c d × Lies a z c d
FileItemSpells names (Defined definition a z) c d = FunctionDefinitionSpells names definition c d × Lies a z c d

-- the names that are type names behind an item of a file
abbrev pub behind_item : FileItemTree → List ℕ → List ℕ
behind_item (Included include.Stdint a z) names = stdint_numbers ++ names
behind_item (Included _ a z) names = names
behind_item (Declared (OfDeclaration word specs declarators _ _) a z) names = behind_all word declarators names
behind_item (Defined definition a z) names = names

abbrev pub FileItemsSpell : List ℕ → FileTree → Cursor → Cursor → Type 0
FileItemsSpell names [] c d = c ≡ d
FileItemsSpell names (x ∷ xs) c d = (m : Cursor) × FileItemSpells names x c m × FileItemsSpell (behind_item x names) xs m d

-- The tokens are the leaves of the file's tree.
pub record Spells (file : FileTree) (tokens : List Token) : Type 0 where
  pub to : ℕ
  pub spells : FileItemsSpell [] file (start tokens) (record { ended = to; ahead = [] })
