-- Files that break the rules on types that go together and on complete types.
use Rattle.std.proofs.Common.{◌≡◌, pos, true, false, [], ◌∷◌, Some, None, refl, codes}
use Rattle.pa_tree.specs.declared.operator.PrefixOperator.TheVariants as prefix
use Rattle.pa_tree.specs.declared.operator.BinaryOperator.TheVariants as op
use Rattle.pa_tree.specs.declared.operator.IntegerWord.TheVariants as word
use Rattle.pa_tree.specs.declared.file.Storage.TheVariants as storage
use Rattle.pa_tree.specs.Exprs as tree
use Rattle.pa_tree.specs.Stmts as src
use Rattle.pa_scope.specs.Answers.{breaks_at}
use Rattle.pa_scope.specs.declared.rule.TypeRule.TheVariants.{C7, C8, C9, C10, C11, C12}
use Rattle.pa_runit.specs.Units.{typed}
use Rattle.pa_runit.proofs.Computing.{computing}
use Rattle.pa_rexpr.proofs.Spelled.{names}

-- `int a; char *p = &a;`
pointer_of_another_type : typed (names (codes "a" ∷ codes "p" ∷ [])) ((src.Declared (src.OfDeclaration None (tree.OfSpecs tree.NoQualifiers (tree.Words (word.Int ∷ []) 0 3) tree.NoQualifiers 0 3) ((src.OfInitDeclarator (tree.Named 8 4 5) None 4 5) ∷ []) 0 6) 0 6) ∷ (src.Declared (src.OfDeclaration None (tree.OfSpecs tree.NoQualifiers (tree.Words (word.Char ∷ []) 7 11) tree.NoQualifiers 7 11) ((src.OfInitDeclarator (tree.Pointer tree.NoQualifiers (tree.Named 9 13 14) 12 14) (Some (src.Value (tree.Prefix prefix.Address (tree.Identifier 8 18 19) 17 19) 17 19)) 12 19) ∷ []) 7 20) 7 20) ∷ []) ≡ breaks_at C7 17
unfolding computing
pointer_of_another_type = refl

-- `int f(int *p, char *q){return p == q;}`
pointers_compared : typed (names (codes "f" ∷ codes "p" ∷ codes "q" ∷ [])) ((src.Defined (src.OfFunctionDefinition None (tree.OfSpecs tree.NoQualifiers (tree.Words (word.Int ∷ []) 0 3) tree.NoQualifiers 0 3) (tree.Function (tree.Named 8 4 5) (tree.Listed (tree.ConsParameter (tree.OfParameter (tree.OfSpecs tree.NoQualifiers (tree.Words (word.Int ∷ []) 6 9) tree.NoQualifiers 6 9) (tree.Pointer tree.NoQualifiers (tree.Named 9 11 12) 10 12) 6 12) (tree.ConsParameter (tree.OfParameter (tree.OfSpecs tree.NoQualifiers (tree.Words (word.Char ∷ []) 14 18) tree.NoQualifiers 14 18) (tree.Pointer tree.NoQualifiers (tree.Named 10 20 21) 19 21) 14 21) tree.NoParameters)) 6 21) 4 22) (src.Compound (src.ConsBlockItem (src.StatementItem (src.Return (Some (tree.Binary op.Equal (tree.Identifier 9 30 31) (tree.Identifier 10 35 36) 30 36)) 23 37) 23 37) src.NoBlockItems) 22 38) 0 38) 0 38) ∷ []) ≡ breaks_at C7 30
unfolding computing
pointers_compared = refl

-- `void g(int *p); void f(char *q){g(q, 1);}`
pointer_before_count : typed (names (codes "g" ∷ codes "p" ∷ codes "f" ∷ codes "q" ∷ [])) ((src.Declared (src.OfDeclaration None (tree.OfSpecs tree.NoQualifiers (tree.Void 0 4) tree.NoQualifiers 0 4) ((src.OfInitDeclarator (tree.Function (tree.Named 8 5 6) (tree.Listed (tree.ConsParameter (tree.OfParameter (tree.OfSpecs tree.NoQualifiers (tree.Words (word.Int ∷ []) 7 10) tree.NoQualifiers 7 10) (tree.Pointer tree.NoQualifiers (tree.Named 9 12 13) 11 13) 7 13) tree.NoParameters) 7 13) 5 14) None 5 14) ∷ []) 0 15) 0 15) ∷ (src.Defined (src.OfFunctionDefinition None (tree.OfSpecs tree.NoQualifiers (tree.Void 16 20) tree.NoQualifiers 16 20) (tree.Function (tree.Named 10 21 22) (tree.Listed (tree.ConsParameter (tree.OfParameter (tree.OfSpecs tree.NoQualifiers (tree.Words (word.Char ∷ []) 23 27) tree.NoQualifiers 23 27) (tree.Pointer tree.NoQualifiers (tree.Named 11 29 30) 28 30) 23 30) tree.NoParameters) 23 30) 21 31) (src.Compound (src.ConsBlockItem (src.StatementItem (src.Expression (Some (tree.Call (tree.Identifier 8 32 33) (tree.ConsExpr (tree.Identifier 11 34 35) (tree.ConsExpr (tree.Integer 1 true false false 37 38) tree.NoExprs)) 32 39)) 32 40) 32 40) src.NoBlockItems) 31 41) 16 41) 16 41) ∷ []) ≡ breaks_at C7 32
unfolding computing
pointer_before_count = refl

-- `void f(const int *p){int *q = p;}`
constant_dropped : typed (names (codes "f" ∷ codes "p" ∷ codes "q" ∷ [])) ((src.Defined (src.OfFunctionDefinition None (tree.OfSpecs tree.NoQualifiers (tree.Void 0 4) tree.NoQualifiers 0 4) (tree.Function (tree.Named 8 5 6) (tree.Listed (tree.ConsParameter (tree.OfParameter (tree.OfSpecs (tree.ConsQualifier (tree.Const 7 12) tree.NoQualifiers) (tree.Words (word.Int ∷ []) 13 16) tree.NoQualifiers 7 16) (tree.Pointer tree.NoQualifiers (tree.Named 9 18 19) 17 19) 7 19) tree.NoParameters) 7 19) 5 20) (src.Compound (src.ConsBlockItem (src.DeclarationItem (src.OfBlockDeclaration (tree.OfSpecs tree.NoQualifiers (tree.Words (word.Int ∷ []) 21 24) tree.NoQualifiers 21 24) ((src.OfInitDeclarator (tree.Pointer tree.NoQualifiers (tree.Named 10 26 27) 25 27) (Some (src.Value (tree.Identifier 9 30 31) 30 31)) 25 31) ∷ []) 21 32) 21 32) src.NoBlockItems) 20 33) 0 33) 0 33) ∷ []) ≡ breaks_at C7 30
unfolding computing
constant_dropped = refl

-- `int (* __ptrauth(0,0,1) p)(void); int (* __ptrauth(0,0,2) *q)(void) = &p;`
other_schema : typed (names (codes "p" ∷ codes "q" ∷ [])) ((src.Declared (src.OfDeclaration None (tree.OfSpecs tree.NoQualifiers (tree.Words (word.Int ∷ []) 0 3) tree.NoQualifiers 0 3) ((src.OfInitDeclarator (tree.Function (tree.Grouped (tree.Pointer (tree.ConsQualifier (tree.Ptrauth (tree.ConsExpr (tree.Integer 0 false false false 17 18) (tree.ConsExpr (tree.Integer 0 false false false 19 20) (tree.ConsExpr (tree.Integer 1 true false false 21 22) tree.NoExprs))) 7 23) tree.NoQualifiers) (tree.Named 8 24 25) 5 25) 4 26) (tree.OnlyVoid 27 31) 4 32) None 4 32) ∷ []) 0 33) 0 33) ∷ (src.Declared (src.OfDeclaration None (tree.OfSpecs tree.NoQualifiers (tree.Words (word.Int ∷ []) 34 37) tree.NoQualifiers 34 37) ((src.OfInitDeclarator (tree.Function (tree.Grouped (tree.Pointer (tree.ConsQualifier (tree.Ptrauth (tree.ConsExpr (tree.Integer 0 false false false 51 52) (tree.ConsExpr (tree.Integer 0 false false false 53 54) (tree.ConsExpr (tree.Integer 2 true false false 55 56) tree.NoExprs))) 41 57) tree.NoQualifiers) (tree.Pointer tree.NoQualifiers (tree.Named 9 59 60) 58 60) 39 60) 38 61) (tree.OnlyVoid 62 66) 38 67) (Some (src.Value (tree.Prefix prefix.Address (tree.Identifier 8 71 72) 70 72) 70 72)) 38 72) ∷ []) 34 73) 34 73) ∷ []) ≡ breaks_at C7 70
unfolding computing
other_schema = refl

-- `int a; void f(void){a();}`
object_called : typed (names (codes "a" ∷ codes "f" ∷ [])) ((src.Declared (src.OfDeclaration None (tree.OfSpecs tree.NoQualifiers (tree.Words (word.Int ∷ []) 0 3) tree.NoQualifiers 0 3) ((src.OfInitDeclarator (tree.Named 8 4 5) None 4 5) ∷ []) 0 6) 0 6) ∷ (src.Defined (src.OfFunctionDefinition None (tree.OfSpecs tree.NoQualifiers (tree.Void 7 11) tree.NoQualifiers 7 11) (tree.Function (tree.Named 9 12 13) (tree.OnlyVoid 14 18) 12 19) (src.Compound (src.ConsBlockItem (src.StatementItem (src.Expression (Some (tree.Call (tree.Identifier 8 20 21) tree.NoExprs 20 23)) 20 24) 20 24) src.NoBlockItems) 19 25) 7 25) 7 25) ∷ []) ≡ breaks_at C8 20
unfolding computing
object_called = refl

-- `void g(int a); void f(void){g();}`
argument_missing : typed (names (codes "g" ∷ codes "a" ∷ codes "f" ∷ [])) ((src.Declared (src.OfDeclaration None (tree.OfSpecs tree.NoQualifiers (tree.Void 0 4) tree.NoQualifiers 0 4) ((src.OfInitDeclarator (tree.Function (tree.Named 8 5 6) (tree.Listed (tree.ConsParameter (tree.OfParameter (tree.OfSpecs tree.NoQualifiers (tree.Words (word.Int ∷ []) 7 10) tree.NoQualifiers 7 10) (tree.Named 9 11 12) 7 12) tree.NoParameters) 7 12) 5 13) None 5 13) ∷ []) 0 14) 0 14) ∷ (src.Defined (src.OfFunctionDefinition None (tree.OfSpecs tree.NoQualifiers (tree.Void 15 19) tree.NoQualifiers 15 19) (tree.Function (tree.Named 10 20 21) (tree.OnlyVoid 22 26) 20 27) (src.Compound (src.ConsBlockItem (src.StatementItem (src.Expression (Some (tree.Call (tree.Identifier 8 28 29) tree.NoExprs 28 31)) 28 32) 28 32) src.NoBlockItems) 27 33) 15 33) 15 33) ∷ []) ≡ breaks_at C9 28
unfolding computing
argument_missing = refl

-- `int *p; int a = p;`
pointer_for_a_number : typed (names (codes "p" ∷ codes "a" ∷ [])) ((src.Declared (src.OfDeclaration None (tree.OfSpecs tree.NoQualifiers (tree.Words (word.Int ∷ []) 0 3) tree.NoQualifiers 0 3) ((src.OfInitDeclarator (tree.Pointer tree.NoQualifiers (tree.Named 8 5 6) 4 6) None 4 6) ∷ []) 0 7) 0 7) ∷ (src.Declared (src.OfDeclaration None (tree.OfSpecs tree.NoQualifiers (tree.Words (word.Int ∷ []) 8 11) tree.NoQualifiers 8 11) ((src.OfInitDeclarator (tree.Named 9 12 13) (Some (src.Value (tree.Identifier 8 16 17) 16 17)) 12 17) ∷ []) 8 18) 8 18) ∷ []) ≡ breaks_at C10 16
unfolding computing
pointer_for_a_number = refl

-- `typedef int t = 1;`
typedef_initialized : typed (names (codes "t" ∷ [])) ((src.Declared (src.OfDeclaration (Some storage.Typedef) (tree.OfSpecs tree.NoQualifiers (tree.Words (word.Int ∷ []) 8 11) tree.NoQualifiers 8 11) ((src.OfInitDeclarator (tree.Named 8 12 13) (Some (src.Value (tree.Integer 1 true false false 16 17) 16 17)) 12 17) ∷ []) 0 18) 0 18) ∷ []) ≡ breaks_at C10 12
unfolding computing
typedef_initialized = refl

-- `int f(void) = 1;`
function_initialized : typed (names (codes "f" ∷ [])) ((src.Declared (src.OfDeclaration None (tree.OfSpecs tree.NoQualifiers (tree.Words (word.Int ∷ []) 0 3) tree.NoQualifiers 0 3) ((src.OfInitDeclarator (tree.Function (tree.Named 8 4 5) (tree.OnlyVoid 6 10) 4 11) (Some (src.Value (tree.Integer 1 true false false 14 15) 14 15)) 4 15) ∷ []) 0 16) 0 16) ∷ []) ≡ breaks_at C10 4
unfolding computing
function_initialized = refl

-- `int a[1][1] = {1};`
inner_braces_missing : typed (names (codes "a" ∷ [])) ((src.Declared (src.OfDeclaration None (tree.OfSpecs tree.NoQualifiers (tree.Words (word.Int ∷ []) 0 3) tree.NoQualifiers 0 3) ((src.OfInitDeclarator (tree.Array (tree.Array (tree.Named 8 4 5) (tree.SomeExpr (tree.Integer 1 true false false 6 7)) 4 8) (tree.SomeExpr (tree.Integer 1 true false false 9 10)) 4 11) (Some (src.Braced (src.ConsInitializer (src.Value (tree.Integer 1 true false false 15 16) 15 16) src.NoInitializers) 14 17)) 4 17) ∷ []) 0 18) 0 18) ∷ []) ≡ breaks_at C10 15
unfolding computing
inner_braces_missing = refl

-- `void f(int *p){1 ? p : 1;}`
alternatives_apart : typed (names (codes "f" ∷ codes "p" ∷ [])) ((src.Defined (src.OfFunctionDefinition None (tree.OfSpecs tree.NoQualifiers (tree.Void 0 4) tree.NoQualifiers 0 4) (tree.Function (tree.Named 8 5 6) (tree.Listed (tree.ConsParameter (tree.OfParameter (tree.OfSpecs tree.NoQualifiers (tree.Words (word.Int ∷ []) 7 10) tree.NoQualifiers 7 10) (tree.Pointer tree.NoQualifiers (tree.Named 9 12 13) 11 13) 7 13) tree.NoParameters) 7 13) 5 14) (src.Compound (src.ConsBlockItem (src.StatementItem (src.Expression (Some (tree.Conditional (tree.Integer 1 true false false 15 16) (tree.Identifier 9 19 20) (tree.Integer 1 true false false 23 24) 15 24)) 15 25) 15 25) src.NoBlockItems) 14 26) 0 26) 0 26) ∷ []) ≡ breaks_at C10 15
unfolding computing
alternatives_apart = refl

-- `int *p = '\0';`
zero_character_for_a_pointer : typed (names (codes "p" ∷ [])) ((src.Declared (src.OfDeclaration None (tree.OfSpecs tree.NoQualifiers (tree.Words (word.Int ∷ []) 0 3) tree.NoQualifiers 0 3) ((src.OfInitDeclarator (tree.Pointer tree.NoQualifiers (tree.Named 8 5 6) 4 6) (Some (src.Value (tree.Character (pos 0) 9 13) 9 13)) 4 13) ∷ []) 0 14) 0 14) ∷ []) ≡ breaks_at C10 9
unfolding computing
zero_character_for_a_pointer = refl

-- `void a;`
void_object : typed (names (codes "a" ∷ [])) ((src.Declared (src.OfDeclaration None (tree.OfSpecs tree.NoQualifiers (tree.Void 0 4) tree.NoQualifiers 0 4) ((src.OfInitDeclarator (tree.Named 8 5 6) None 5 6) ∷ []) 0 7) 0 7) ∷ []) ≡ breaks_at C11 5
unfolding computing
void_object = refl

-- `int a[];`
array_without_length : typed (names (codes "a" ∷ [])) ((src.Declared (src.OfDeclaration None (tree.OfSpecs tree.NoQualifiers (tree.Words (word.Int ∷ []) 0 3) tree.NoQualifiers 0 3) ((src.OfInitDeclarator (tree.Array (tree.Named 8 4 5) tree.NoExpr 4 7) None 4 7) ∷ []) 0 8) 0 8) ∷ []) ≡ breaks_at C11 4
unfolding computing
array_without_length = refl

-- `extern int a[];`
extern_without_length : typed (names (codes "a" ∷ [])) ((src.Declared (src.OfDeclaration (Some storage.Extern) (tree.OfSpecs tree.NoQualifiers (tree.Words (word.Int ∷ []) 7 10) tree.NoQualifiers 7 10) ((src.OfInitDeclarator (tree.Array (tree.Named 8 11 12) tree.NoExpr 11 14) None 11 14) ∷ []) 0 15) 0 15) ∷ []) ≡ breaks_at C11 11
unfolding computing
extern_without_length = refl

-- `struct s a;`
struct_without_body : typed (names (codes "s" ∷ codes "a" ∷ [])) ((src.Declared (src.OfDeclaration None (tree.OfSpecs tree.NoQualifiers (tree.StructTag (record { name = 8; from = 7; to = 8 }) 0 8) tree.NoQualifiers 0 8) ((src.OfInitDeclarator (tree.Named 9 9 10) None 9 10) ∷ []) 0 11) 0 11) ∷ []) ≡ breaks_at C11 9
unfolding computing
struct_without_body = refl

-- `void f(void a);`
void_parameter : typed (names (codes "f" ∷ codes "a" ∷ [])) ((src.Declared (src.OfDeclaration None (tree.OfSpecs tree.NoQualifiers (tree.Void 0 4) tree.NoQualifiers 0 4) ((src.OfInitDeclarator (tree.Function (tree.Named 8 5 6) (tree.Listed (tree.ConsParameter (tree.OfParameter (tree.OfSpecs tree.NoQualifiers (tree.Void 7 11) tree.NoQualifiers 7 11) (tree.Named 9 12 13) 7 13) tree.NoParameters) 7 13) 5 14) None 5 14) ∷ []) 0 15) 0 15) ∷ []) ≡ breaks_at C11 7
unfolding computing
void_parameter = refl

-- `int f(void)[3];`
array_as_a_result : typed (names (codes "f" ∷ [])) ((src.Declared (src.OfDeclaration None (tree.OfSpecs tree.NoQualifiers (tree.Words (word.Int ∷ []) 0 3) tree.NoQualifiers 0 3) ((src.OfInitDeclarator (tree.Array (tree.Function (tree.Named 8 4 5) (tree.OnlyVoid 6 10) 4 11) (tree.SomeExpr (tree.Integer 3 true false false 12 13)) 4 14) None 4 14) ∷ []) 0 15) 0 15) ∷ []) ≡ breaks_at C11 4
unfolding computing
array_as_a_result = refl

-- `int a[2](void);`
array_of_functions : typed (names (codes "a" ∷ [])) ((src.Declared (src.OfDeclaration None (tree.OfSpecs tree.NoQualifiers (tree.Words (word.Int ∷ []) 0 3) tree.NoQualifiers 0 3) ((src.OfInitDeclarator (tree.Function (tree.Array (tree.Named 8 4 5) (tree.SomeExpr (tree.Integer 2 true false false 6 7)) 4 8) (tree.OnlyVoid 9 13) 4 14) None 4 14) ∷ []) 0 15) 0 15) ∷ []) ≡ breaks_at C11 4
unfolding computing
array_of_functions = refl

-- `int a[2][];`
array_of_arrays_without_length : typed (names (codes "a" ∷ [])) ((src.Declared (src.OfDeclaration None (tree.OfSpecs tree.NoQualifiers (tree.Words (word.Int ∷ []) 0 3) tree.NoQualifiers 0 3) ((src.OfInitDeclarator (tree.Array (tree.Array (tree.Named 8 4 5) (tree.SomeExpr (tree.Integer 2 true false false 6 7)) 4 8) tree.NoExpr 4 10) None 4 10) ∷ []) 0 11) 0 11) ∷ []) ≡ breaks_at C11 4
unfolding computing
array_of_arrays_without_length = refl

-- `int f(void){int g(void); return 0;}`
function_in_a_block : typed (names (codes "f" ∷ codes "g" ∷ [])) ((src.Defined (src.OfFunctionDefinition None (tree.OfSpecs tree.NoQualifiers (tree.Words (word.Int ∷ []) 0 3) tree.NoQualifiers 0 3) (tree.Function (tree.Named 8 4 5) (tree.OnlyVoid 6 10) 4 11) (src.Compound (src.ConsBlockItem (src.DeclarationItem (src.OfBlockDeclaration (tree.OfSpecs tree.NoQualifiers (tree.Words (word.Int ∷ []) 12 15) tree.NoQualifiers 12 15) ((src.OfInitDeclarator (tree.Function (tree.Named 9 16 17) (tree.OnlyVoid 18 22) 16 23) None 16 23) ∷ []) 12 24) 12 24) (src.ConsBlockItem (src.StatementItem (src.Return (Some (tree.Integer 0 false false false 32 33)) 25 34) 25 34) src.NoBlockItems)) 11 35) 0 35) 0 35) ∷ []) ≡ breaks_at C11 16
unfolding computing
function_in_a_block = refl

-- `int x { }`
body_of_an_object : typed (names (codes "x" ∷ [])) ((src.Defined (src.OfFunctionDefinition None (tree.OfSpecs tree.NoQualifiers (tree.Words (word.Int ∷ []) 0 3) tree.NoQualifiers 0 3) (tree.Named 8 4 5) (src.Compound src.NoBlockItems 6 9) 0 9) 0 9) ∷ []) ≡ breaks_at C11 4
unfolding computing
body_of_an_object = refl

-- `typedef int t(void); t f { }`
body_of_a_typedef : typed (names (codes "t" ∷ codes "f" ∷ [])) ((src.Declared (src.OfDeclaration (Some storage.Typedef) (tree.OfSpecs tree.NoQualifiers (tree.Words (word.Int ∷ []) 8 11) tree.NoQualifiers 8 11) ((src.OfInitDeclarator (tree.Function (tree.Named 8 12 13) (tree.OnlyVoid 14 18) 12 19) None 12 19) ∷ []) 0 20) 0 20) ∷ (src.Defined (src.OfFunctionDefinition None (tree.OfSpecs tree.NoQualifiers (tree.TypedefName 8 21 22) tree.NoQualifiers 21 22) (tree.Named 9 23 24) (src.Compound src.NoBlockItems 25 28) 21 28) 21 28) ∷ []) ≡ breaks_at C11 23
unfolding computing
body_of_a_typedef = refl

-- `void g(void); int f(void){return g();}`
void_value : typed (names (codes "g" ∷ codes "f" ∷ [])) ((src.Declared (src.OfDeclaration None (tree.OfSpecs tree.NoQualifiers (tree.Void 0 4) tree.NoQualifiers 0 4) ((src.OfInitDeclarator (tree.Function (tree.Named 8 5 6) (tree.OnlyVoid 7 11) 5 12) None 5 12) ∷ []) 0 13) 0 13) ∷ (src.Defined (src.OfFunctionDefinition None (tree.OfSpecs tree.NoQualifiers (tree.Words (word.Int ∷ []) 14 17) tree.NoQualifiers 14 17) (tree.Function (tree.Named 9 18 19) (tree.OnlyVoid 20 24) 18 25) (src.Compound (src.ConsBlockItem (src.StatementItem (src.Return (Some (tree.Call (tree.Identifier 8 33 34) tree.NoExprs 33 36)) 26 37) 26 37) src.NoBlockItems) 25 38) 14 38) 14 38) ∷ []) ≡ breaks_at C11 26
unfolding computing
void_value = refl

-- `void g(void); int a[g()];`
void_length : typed (names (codes "g" ∷ codes "a" ∷ [])) ((src.Declared (src.OfDeclaration None (tree.OfSpecs tree.NoQualifiers (tree.Void 0 4) tree.NoQualifiers 0 4) ((src.OfInitDeclarator (tree.Function (tree.Named 8 5 6) (tree.OnlyVoid 7 11) 5 12) None 5 12) ∷ []) 0 13) 0 13) ∷ (src.Declared (src.OfDeclaration None (tree.OfSpecs tree.NoQualifiers (tree.Words (word.Int ∷ []) 14 17) tree.NoQualifiers 14 17) ((src.OfInitDeclarator (tree.Array (tree.Named 9 18 19) (tree.SomeExpr (tree.Call (tree.Identifier 8 20 21) tree.NoExprs 20 23)) 18 24) None 18 24) ∷ []) 14 25) 14 25) ∷ []) ≡ breaks_at C11 20
unfolding computing
void_length = refl

-- `void f(char a[5000000000]);`
parameter_too_large : typed (names (codes "f" ∷ codes "a" ∷ [])) ((src.Declared (src.OfDeclaration None (tree.OfSpecs tree.NoQualifiers (tree.Void 0 4) tree.NoQualifiers 0 4) ((src.OfInitDeclarator (tree.Function (tree.Named 8 5 6) (tree.Listed (tree.ConsParameter (tree.OfParameter (tree.OfSpecs tree.NoQualifiers (tree.Words (word.Char ∷ []) 7 11) tree.NoQualifiers 7 11) (tree.Array (tree.Named 9 12 13) (tree.SomeExpr (tree.Integer 5000000000 true false false 14 24)) 12 25) 7 25) tree.NoParameters) 7 25) 5 26) None 5 26) ∷ []) 0 27) 0 27) ∷ []) ≡ breaks_at C11 7
unfolding computing
parameter_too_large = refl

-- `struct s {int a;}; void g(void){(struct s)g();}`
void_cast_to_a_struct : typed (names (codes "s" ∷ codes "a" ∷ codes "g" ∷ [])) ((src.Declared (src.OfDeclaration None (tree.OfSpecs tree.NoQualifiers (tree.StructBody (Some (record { name = 8; from = 7; to = 8 })) (tree.ConsMember (tree.OfMember (tree.OfSpecs tree.NoQualifiers (tree.Words (word.Int ∷ []) 10 13) tree.NoQualifiers 10 13) (tree.ConsDeclarator (tree.Named 9 14 15) tree.NoDeclarators) 10 16) tree.NoMembers) 0 17) tree.NoQualifiers 0 17) [] 0 18) 0 18) ∷ (src.Defined (src.OfFunctionDefinition None (tree.OfSpecs tree.NoQualifiers (tree.Void 19 23) tree.NoQualifiers 19 23) (tree.Function (tree.Named 10 24 25) (tree.OnlyVoid 26 30) 24 31) (src.Compound (src.ConsBlockItem (src.StatementItem (src.Expression (Some (tree.Cast (tree.OfTypeName (tree.OfSpecs tree.NoQualifiers (tree.StructTag (record { name = 8; from = 40; to = 41 }) 33 41) tree.NoQualifiers 33 41) (tree.Absent 41 41) 33 41) (tree.Call (tree.Identifier 10 42 43) tree.NoExprs 42 45) 32 45)) 32 46) 32 46) src.NoBlockItems) 31 47) 19 47) 19 47) ∷ []) ≡ breaks_at C11 32
unfolding computing
void_cast_to_a_struct = refl

-- `int f(void){return sizeof f;}`
size_of_a_function : typed (names (codes "f" ∷ [])) ((src.Defined (src.OfFunctionDefinition None (tree.OfSpecs tree.NoQualifiers (tree.Words (word.Int ∷ []) 0 3) tree.NoQualifiers 0 3) (tree.Function (tree.Named 8 4 5) (tree.OnlyVoid 6 10) 4 11) (src.Compound (src.ConsBlockItem (src.StatementItem (src.Return (Some (tree.SizeofExpr (tree.Identifier 8 26 27) 19 27)) 12 28) 12 28) src.NoBlockItems) 11 29) 0 29) 0 29) ∷ []) ≡ breaks_at C11 19
unfolding computing
size_of_a_function = refl

-- `char a[5000000000];`
too_large : typed (names (codes "a" ∷ [])) ((src.Declared (src.OfDeclaration None (tree.OfSpecs tree.NoQualifiers (tree.Words (word.Char ∷ []) 0 4) tree.NoQualifiers 0 4) ((src.OfInitDeclarator (tree.Array (tree.Named 8 5 6) (tree.SomeExpr (tree.Integer 5000000000 true false false 7 17)) 5 18) None 5 18) ∷ []) 0 19) 0 19) ∷ []) ≡ breaks_at C11 5
unfolding computing
too_large = refl

-- `char (*p)[5000000000];`
too_large_behind_a_pointer : typed (names (codes "p" ∷ [])) ((src.Declared (src.OfDeclaration None (tree.OfSpecs tree.NoQualifiers (tree.Words (word.Char ∷ []) 0 4) tree.NoQualifiers 0 4) ((src.OfInitDeclarator (tree.Array (tree.Grouped (tree.Pointer tree.NoQualifiers (tree.Named 8 7 8) 6 8) 5 9) (tree.SomeExpr (tree.Integer 5000000000 true false false 10 20)) 5 21) None 5 21) ∷ []) 0 22) 0 22) ∷ []) ≡ breaks_at C11 5
unfolding computing
too_large_behind_a_pointer = refl

-- `struct s {struct s a;};`
struct_in_itself : typed (names (codes "s" ∷ codes "a" ∷ [])) ((src.Declared (src.OfDeclaration None (tree.OfSpecs tree.NoQualifiers (tree.StructBody (Some (record { name = 8; from = 7; to = 8 })) (tree.ConsMember (tree.OfMember (tree.OfSpecs tree.NoQualifiers (tree.StructTag (record { name = 8; from = 17; to = 18 }) 10 18) tree.NoQualifiers 10 18) (tree.ConsDeclarator (tree.Named 9 19 20) tree.NoDeclarators) 10 21) tree.NoMembers) 0 22) tree.NoQualifiers 0 22) [] 0 23) 0 23) ∷ []) ≡ breaks_at C11 19
unfolding computing
struct_in_itself = refl

-- `int *********************************************************************************************************************************************************************************************************p;`
too_deep : typed (names (codes "p" ∷ [])) ((src.Declared (src.OfDeclaration None (tree.OfSpecs tree.NoQualifiers (tree.Words (word.Int ∷ []) 0 3) tree.NoQualifiers 0 3) ((src.OfInitDeclarator (tree.Pointer tree.NoQualifiers (tree.Pointer tree.NoQualifiers (tree.Pointer tree.NoQualifiers (tree.Pointer tree.NoQualifiers (tree.Pointer tree.NoQualifiers (tree.Pointer tree.NoQualifiers (tree.Pointer tree.NoQualifiers (tree.Pointer tree.NoQualifiers (tree.Pointer tree.NoQualifiers (tree.Pointer tree.NoQualifiers (tree.Pointer tree.NoQualifiers (tree.Pointer tree.NoQualifiers (tree.Pointer tree.NoQualifiers (tree.Pointer tree.NoQualifiers (tree.Pointer tree.NoQualifiers (tree.Pointer tree.NoQualifiers (tree.Pointer tree.NoQualifiers (tree.Pointer tree.NoQualifiers (tree.Pointer tree.NoQualifiers (tree.Pointer tree.NoQualifiers (tree.Pointer tree.NoQualifiers (tree.Pointer tree.NoQualifiers (tree.Pointer tree.NoQualifiers (tree.Pointer tree.NoQualifiers (tree.Pointer tree.NoQualifiers (tree.Pointer tree.NoQualifiers (tree.Pointer tree.NoQualifiers (tree.Pointer tree.NoQualifiers (tree.Pointer tree.NoQualifiers (tree.Pointer tree.NoQualifiers (tree.Pointer tree.NoQualifiers (tree.Pointer tree.NoQualifiers (tree.Pointer tree.NoQualifiers (tree.Pointer tree.NoQualifiers (tree.Pointer tree.NoQualifiers (tree.Pointer tree.NoQualifiers (tree.Pointer tree.NoQualifiers (tree.Pointer tree.NoQualifiers (tree.Pointer tree.NoQualifiers (tree.Pointer tree.NoQualifiers (tree.Pointer tree.NoQualifiers (tree.Pointer tree.NoQualifiers (tree.Pointer tree.NoQualifiers (tree.Pointer tree.NoQualifiers (tree.Pointer tree.NoQualifiers (tree.Pointer tree.NoQualifiers (tree.Pointer tree.NoQualifiers (tree.Pointer tree.NoQualifiers (tree.Pointer tree.NoQualifiers (tree.Pointer tree.NoQualifiers (tree.Pointer tree.NoQualifiers (tree.Pointer tree.NoQualifiers (tree.Pointer tree.NoQualifiers (tree.Pointer tree.NoQualifiers (tree.Pointer tree.NoQualifiers (tree.Pointer tree.NoQualifiers (tree.Pointer tree.NoQualifiers (tree.Pointer tree.NoQualifiers (tree.Pointer tree.NoQualifiers (tree.Pointer tree.NoQualifiers (tree.Pointer tree.NoQualifiers (tree.Pointer tree.NoQualifiers (tree.Pointer tree.NoQualifiers (tree.Pointer tree.NoQualifiers (tree.Pointer tree.NoQualifiers (tree.Pointer tree.NoQualifiers (tree.Pointer tree.NoQualifiers (tree.Pointer tree.NoQualifiers (tree.Pointer tree.NoQualifiers (tree.Pointer tree.NoQualifiers (tree.Pointer tree.NoQualifiers (tree.Pointer tree.NoQualifiers (tree.Pointer tree.NoQualifiers (tree.Pointer tree.NoQualifiers (tree.Pointer tree.NoQualifiers (tree.Pointer tree.NoQualifiers (tree.Pointer tree.NoQualifiers (tree.Pointer tree.NoQualifiers (tree.Pointer tree.NoQualifiers (tree.Pointer tree.NoQualifiers (tree.Pointer tree.NoQualifiers (tree.Pointer tree.NoQualifiers (tree.Pointer tree.NoQualifiers (tree.Pointer tree.NoQualifiers (tree.Pointer tree.NoQualifiers (tree.Pointer tree.NoQualifiers (tree.Pointer tree.NoQualifiers (tree.Pointer tree.NoQualifiers (tree.Pointer tree.NoQualifiers (tree.Pointer tree.NoQualifiers (tree.Pointer tree.NoQualifiers (tree.Pointer tree.NoQualifiers (tree.Pointer tree.NoQualifiers (tree.Pointer tree.NoQualifiers (tree.Pointer tree.NoQualifiers (tree.Pointer tree.NoQualifiers (tree.Pointer tree.NoQualifiers (tree.Pointer tree.NoQualifiers (tree.Pointer tree.NoQualifiers (tree.Pointer tree.NoQualifiers (tree.Pointer tree.NoQualifiers (tree.Pointer tree.NoQualifiers (tree.Pointer tree.NoQualifiers (tree.Pointer tree.NoQualifiers (tree.Pointer tree.NoQualifiers (tree.Pointer tree.NoQualifiers (tree.Pointer tree.NoQualifiers (tree.Pointer tree.NoQualifiers (tree.Pointer tree.NoQualifiers (tree.Pointer tree.NoQualifiers (tree.Pointer tree.NoQualifiers (tree.Pointer tree.NoQualifiers (tree.Pointer tree.NoQualifiers (tree.Pointer tree.NoQualifiers (tree.Pointer tree.NoQualifiers (tree.Pointer tree.NoQualifiers (tree.Pointer tree.NoQualifiers (tree.Pointer tree.NoQualifiers (tree.Pointer tree.NoQualifiers (tree.Pointer tree.NoQualifiers (tree.Pointer tree.NoQualifiers (tree.Pointer tree.NoQualifiers (tree.Pointer tree.NoQualifiers (tree.Pointer tree.NoQualifiers (tree.Pointer tree.NoQualifiers (tree.Pointer tree.NoQualifiers (tree.Pointer tree.NoQualifiers (tree.Pointer tree.NoQualifiers (tree.Pointer tree.NoQualifiers (tree.Pointer tree.NoQualifiers (tree.Pointer tree.NoQualifiers (tree.Pointer tree.NoQualifiers (tree.Pointer tree.NoQualifiers (tree.Pointer tree.NoQualifiers (tree.Pointer tree.NoQualifiers (tree.Pointer tree.NoQualifiers (tree.Pointer tree.NoQualifiers (tree.Pointer tree.NoQualifiers (tree.Pointer tree.NoQualifiers (tree.Pointer tree.NoQualifiers (tree.Pointer tree.NoQualifiers (tree.Pointer tree.NoQualifiers (tree.Pointer tree.NoQualifiers (tree.Pointer tree.NoQualifiers (tree.Pointer tree.NoQualifiers (tree.Pointer tree.NoQualifiers (tree.Pointer tree.NoQualifiers (tree.Pointer tree.NoQualifiers (tree.Pointer tree.NoQualifiers (tree.Pointer tree.NoQualifiers (tree.Pointer tree.NoQualifiers (tree.Pointer tree.NoQualifiers (tree.Pointer tree.NoQualifiers (tree.Pointer tree.NoQualifiers (tree.Pointer tree.NoQualifiers (tree.Pointer tree.NoQualifiers (tree.Pointer tree.NoQualifiers (tree.Pointer tree.NoQualifiers (tree.Pointer tree.NoQualifiers (tree.Pointer tree.NoQualifiers (tree.Pointer tree.NoQualifiers (tree.Pointer tree.NoQualifiers (tree.Pointer tree.NoQualifiers (tree.Pointer tree.NoQualifiers (tree.Pointer tree.NoQualifiers (tree.Pointer tree.NoQualifiers (tree.Pointer tree.NoQualifiers (tree.Pointer tree.NoQualifiers (tree.Pointer tree.NoQualifiers (tree.Pointer tree.NoQualifiers (tree.Pointer tree.NoQualifiers (tree.Pointer tree.NoQualifiers (tree.Pointer tree.NoQualifiers (tree.Pointer tree.NoQualifiers (tree.Pointer tree.NoQualifiers (tree.Pointer tree.NoQualifiers (tree.Pointer tree.NoQualifiers (tree.Pointer tree.NoQualifiers (tree.Pointer tree.NoQualifiers (tree.Pointer tree.NoQualifiers (tree.Pointer tree.NoQualifiers (tree.Pointer tree.NoQualifiers (tree.Pointer tree.NoQualifiers (tree.Pointer tree.NoQualifiers (tree.Pointer tree.NoQualifiers (tree.Pointer tree.NoQualifiers (tree.Pointer tree.NoQualifiers (tree.Pointer tree.NoQualifiers (tree.Pointer tree.NoQualifiers (tree.Pointer tree.NoQualifiers (tree.Pointer tree.NoQualifiers (tree.Pointer tree.NoQualifiers (tree.Pointer tree.NoQualifiers (tree.Pointer tree.NoQualifiers (tree.Pointer tree.NoQualifiers (tree.Pointer tree.NoQualifiers (tree.Pointer tree.NoQualifiers (tree.Pointer tree.NoQualifiers (tree.Pointer tree.NoQualifiers (tree.Pointer tree.NoQualifiers (tree.Pointer tree.NoQualifiers (tree.Named 8 205 206) 204 206) 203 206) 202 206) 201 206) 200 206) 199 206) 198 206) 197 206) 196 206) 195 206) 194 206) 193 206) 192 206) 191 206) 190 206) 189 206) 188 206) 187 206) 186 206) 185 206) 184 206) 183 206) 182 206) 181 206) 180 206) 179 206) 178 206) 177 206) 176 206) 175 206) 174 206) 173 206) 172 206) 171 206) 170 206) 169 206) 168 206) 167 206) 166 206) 165 206) 164 206) 163 206) 162 206) 161 206) 160 206) 159 206) 158 206) 157 206) 156 206) 155 206) 154 206) 153 206) 152 206) 151 206) 150 206) 149 206) 148 206) 147 206) 146 206) 145 206) 144 206) 143 206) 142 206) 141 206) 140 206) 139 206) 138 206) 137 206) 136 206) 135 206) 134 206) 133 206) 132 206) 131 206) 130 206) 129 206) 128 206) 127 206) 126 206) 125 206) 124 206) 123 206) 122 206) 121 206) 120 206) 119 206) 118 206) 117 206) 116 206) 115 206) 114 206) 113 206) 112 206) 111 206) 110 206) 109 206) 108 206) 107 206) 106 206) 105 206) 104 206) 103 206) 102 206) 101 206) 100 206) 99 206) 98 206) 97 206) 96 206) 95 206) 94 206) 93 206) 92 206) 91 206) 90 206) 89 206) 88 206) 87 206) 86 206) 85 206) 84 206) 83 206) 82 206) 81 206) 80 206) 79 206) 78 206) 77 206) 76 206) 75 206) 74 206) 73 206) 72 206) 71 206) 70 206) 69 206) 68 206) 67 206) 66 206) 65 206) 64 206) 63 206) 62 206) 61 206) 60 206) 59 206) 58 206) 57 206) 56 206) 55 206) 54 206) 53 206) 52 206) 51 206) 50 206) 49 206) 48 206) 47 206) 46 206) 45 206) 44 206) 43 206) 42 206) 41 206) 40 206) 39 206) 38 206) 37 206) 36 206) 35 206) 34 206) 33 206) 32 206) 31 206) 30 206) 29 206) 28 206) 27 206) 26 206) 25 206) 24 206) 23 206) 22 206) 21 206) 20 206) 19 206) 18 206) 17 206) 16 206) 15 206) 14 206) 13 206) 12 206) 11 206) 10 206) 9 206) 8 206) 7 206) 6 206) 5 206) 4 206) None 4 206) ∷ []) 0 207) 0 207) ∷ []) ≡ breaks_at C11 4
unfolding computing
too_deep = refl

-- `struct s {char a[4000000000];}; struct s v[] = {{{0}}, {{0}}};`
completed_too_large : typed (names (codes "s" ∷ codes "a" ∷ codes "v" ∷ [])) ((src.Declared (src.OfDeclaration None (tree.OfSpecs tree.NoQualifiers (tree.StructBody (Some (record { name = 8; from = 7; to = 8 })) (tree.ConsMember (tree.OfMember (tree.OfSpecs tree.NoQualifiers (tree.Words (word.Char ∷ []) 10 14) tree.NoQualifiers 10 14) (tree.ConsDeclarator (tree.Array (tree.Named 9 15 16) (tree.SomeExpr (tree.Integer 4000000000 true false false 17 27)) 15 28) tree.NoDeclarators) 10 29) tree.NoMembers) 0 30) tree.NoQualifiers 0 30) [] 0 31) 0 31) ∷ (src.Declared (src.OfDeclaration None (tree.OfSpecs tree.NoQualifiers (tree.StructTag (record { name = 8; from = 39; to = 40 }) 32 40) tree.NoQualifiers 32 40) ((src.OfInitDeclarator (tree.Array (tree.Named 10 41 42) tree.NoExpr 41 44) (Some (src.Braced (src.ConsInitializer (src.Braced (src.ConsInitializer (src.Braced (src.ConsInitializer (src.Value (tree.Integer 0 false false false 50 51) 50 51) src.NoInitializers) 49 52) src.NoInitializers) 48 53) (src.ConsInitializer (src.Braced (src.ConsInitializer (src.Braced (src.ConsInitializer (src.Value (tree.Integer 0 false false false 57 58) 57 58) src.NoInitializers) 56 59) src.NoInitializers) 55 60) src.NoInitializers)) 47 61)) 41 61) ∷ []) 32 62) 32 62) ∷ []) ≡ breaks_at C11 41
unfolding computing
completed_too_large = refl

-- `struct s {char a[4000000000]; char b[4000000000];};`
struct_too_large : typed (names (codes "s" ∷ codes "a" ∷ codes "b" ∷ [])) ((src.Declared (src.OfDeclaration None (tree.OfSpecs tree.NoQualifiers (tree.StructBody (Some (record { name = 8; from = 7; to = 8 })) (tree.ConsMember (tree.OfMember (tree.OfSpecs tree.NoQualifiers (tree.Words (word.Char ∷ []) 10 14) tree.NoQualifiers 10 14) (tree.ConsDeclarator (tree.Array (tree.Named 9 15 16) (tree.SomeExpr (tree.Integer 4000000000 true false false 17 27)) 15 28) tree.NoDeclarators) 10 29) (tree.ConsMember (tree.OfMember (tree.OfSpecs tree.NoQualifiers (tree.Words (word.Char ∷ []) 30 34) tree.NoQualifiers 30 34) (tree.ConsDeclarator (tree.Array (tree.Named 10 35 36) (tree.SomeExpr (tree.Integer 4000000000 true false false 37 47)) 35 48) tree.NoDeclarators) 30 49) tree.NoMembers)) 0 50) tree.NoQualifiers 0 50) [] 0 51) 0 51) ∷ []) ≡ breaks_at C11 0
unfolding computing
struct_too_large = refl

-- `struct s {int a;} b; int f(void){return b.c;}`
no_such_member : typed (names (codes "s" ∷ codes "a" ∷ codes "b" ∷ codes "f" ∷ codes "c" ∷ [])) ((src.Declared (src.OfDeclaration None (tree.OfSpecs tree.NoQualifiers (tree.StructBody (Some (record { name = 8; from = 7; to = 8 })) (tree.ConsMember (tree.OfMember (tree.OfSpecs tree.NoQualifiers (tree.Words (word.Int ∷ []) 10 13) tree.NoQualifiers 10 13) (tree.ConsDeclarator (tree.Named 9 14 15) tree.NoDeclarators) 10 16) tree.NoMembers) 0 17) tree.NoQualifiers 0 17) ((src.OfInitDeclarator (tree.Named 10 18 19) None 18 19) ∷ []) 0 20) 0 20) ∷ (src.Defined (src.OfFunctionDefinition None (tree.OfSpecs tree.NoQualifiers (tree.Words (word.Int ∷ []) 21 24) tree.NoQualifiers 21 24) (tree.Function (tree.Named 11 25 26) (tree.OnlyVoid 27 31) 25 32) (src.Compound (src.ConsBlockItem (src.StatementItem (src.Return (Some (tree.Dot (tree.Identifier 10 40 41) 12 40 43)) 33 44) 33 44) src.NoBlockItems) 32 45) 21 45) 21 45) ∷ []) ≡ breaks_at C12 40
unfolding computing
no_such_member = refl

-- `int f(int a){return a.b;}`
member_of_a_number : typed (names (codes "f" ∷ codes "a" ∷ codes "b" ∷ [])) ((src.Defined (src.OfFunctionDefinition None (tree.OfSpecs tree.NoQualifiers (tree.Words (word.Int ∷ []) 0 3) tree.NoQualifiers 0 3) (tree.Function (tree.Named 8 4 5) (tree.Listed (tree.ConsParameter (tree.OfParameter (tree.OfSpecs tree.NoQualifiers (tree.Words (word.Int ∷ []) 6 9) tree.NoQualifiers 6 9) (tree.Named 9 10 11) 6 11) tree.NoParameters) 6 11) 4 12) (src.Compound (src.ConsBlockItem (src.StatementItem (src.Return (Some (tree.Dot (tree.Identifier 9 20 21) 10 20 23)) 13 24) 13 24) src.NoBlockItems) 12 25) 0 25) 0 25) ∷ []) ≡ breaks_at C12 20
unfolding computing
member_of_a_number = refl

-- `int f(struct s *p){return p->a;}`
member_without_body : typed (names (codes "f" ∷ codes "s" ∷ codes "p" ∷ codes "a" ∷ [])) ((src.Defined (src.OfFunctionDefinition None (tree.OfSpecs tree.NoQualifiers (tree.Words (word.Int ∷ []) 0 3) tree.NoQualifiers 0 3) (tree.Function (tree.Named 8 4 5) (tree.Listed (tree.ConsParameter (tree.OfParameter (tree.OfSpecs tree.NoQualifiers (tree.StructTag (record { name = 9; from = 13; to = 14 }) 6 14) tree.NoQualifiers 6 14) (tree.Pointer tree.NoQualifiers (tree.Named 10 16 17) 15 17) 6 17) tree.NoParameters) 6 17) 4 18) (src.Compound (src.ConsBlockItem (src.StatementItem (src.Return (Some (tree.Arrow (tree.Identifier 10 26 27) 11 26 30)) 19 31) 19 31) src.NoBlockItems) 18 32) 0 32) 0 32) ∷ []) ≡ breaks_at C12 26
unfolding computing
member_without_body = refl
