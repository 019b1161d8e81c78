-- Files that break the rules on constants, casts and qualifiers.
use Rattle.std.proofs.Common.{◌≡◌, true, false, [], ◌∷◌, Some, None, refl, codes}
use Rattle.pa_tree.specs.declared.operator.PrefixOperator.TheVariants as prefix
use Rattle.pa_tree.specs.declared.operator.BinaryOperator.TheVariants as op
use Rattle.pa_tree.specs.declared.operator.IntegerWord.TheVariants as word
use Rattle.pa_tree.specs.declared.file.Storage.TheVariants as storage
use Rattle.pa_tree.specs.Exprs as tree
use Rattle.pa_tree.specs.Stmts as src
use Rattle.pa_scope.specs.Answers.{breaks_at}
use Rattle.pa_scope.specs.declared.rule.TypeRule.TheVariants.{C13, C14, C15, C16, C17, C18, C19}
use Rattle.pa_runit.specs.Units.{typed}
use Rattle.pa_runit.proofs.Computing.{computing}
use Rattle.pa_rexpr.proofs.Spelled.{names}

-- `int a; int b = a;`
global_not_constant : typed (names (codes "a" ∷ codes "b" ∷ [])) ((src.Declared (src.OfDeclaration None (tree.OfSpecs tree.NoQualifiers (tree.Words (word.Int ∷ []) 0 3) tree.NoQualifiers 0 3) ((src.OfInitDeclarator (tree.Named 8 4 5) None 4 5) ∷ []) 0 6) 0 6) ∷ (src.Declared (src.OfDeclaration None (tree.OfSpecs tree.NoQualifiers (tree.Words (word.Int ∷ []) 7 10) tree.NoQualifiers 7 10) ((src.OfInitDeclarator (tree.Named 9 11 12) (Some (src.Value (tree.Identifier 8 15 16) 15 16)) 11 16) ∷ []) 7 17) 7 17) ∷ []) ≡ breaks_at C13 15
unfolding computing
global_not_constant = refl

-- `int f(int n){int a[n]; return 0;}`
length_not_constant : typed (names (codes "f" ∷ codes "n" ∷ codes "a" ∷ [])) ((src.Defined (src.OfFunctionDefinition None (tree.OfSpecs tree.NoQualifiers (tree.Words (word.Int ∷ []) 0 3) tree.NoQualifiers 0 3) (tree.Function (tree.Named 8 4 5) (tree.Listed (tree.ConsParameter (tree.OfParameter (tree.OfSpecs tree.NoQualifiers (tree.Words (word.Int ∷ []) 6 9) tree.NoQualifiers 6 9) (tree.Named 9 10 11) 6 11) tree.NoParameters) 6 11) 4 12) (src.Compound (src.ConsBlockItem (src.DeclarationItem (src.OfBlockDeclaration (tree.OfSpecs tree.NoQualifiers (tree.Words (word.Int ∷ []) 13 16) tree.NoQualifiers 13 16) ((src.OfInitDeclarator (tree.Array (tree.Named 10 17 18) (tree.SomeExpr (tree.Identifier 9 19 20)) 17 21) None 17 21) ∷ []) 13 22) 13 22) (src.ConsBlockItem (src.StatementItem (src.Return (Some (tree.Integer 0 false false false 30 31)) 23 32) 23 32) src.NoBlockItems)) 12 33) 0 33) 0 33) ∷ []) ≡ breaks_at C13 19
unfolding computing
length_not_constant = refl

-- `int a = 1/0;`
zero_divisor : typed (names (codes "a" ∷ [])) ((src.Declared (src.OfDeclaration None (tree.OfSpecs tree.NoQualifiers (tree.Words (word.Int ∷ []) 0 3) tree.NoQualifiers 0 3) ((src.OfInitDeclarator (tree.Named 8 4 5) (Some (src.Value (tree.Binary op.Divide (tree.Integer 1 true false false 8 9) (tree.Integer 0 false false false 10 11) 8 11) 8 11)) 4 11) ∷ []) 0 12) 0 12) ∷ []) ≡ breaks_at C13 8
unfolding computing
zero_divisor = refl

-- `struct s {int a;} a; struct s b = a;`
struct_of_the_file : typed (names (codes "s" ∷ codes "a" ∷ codes "b" ∷ [])) ((src.Declared (src.OfDeclaration None (tree.OfSpecs tree.NoQualifiers (tree.StructBody (Some (record { name = 8; from = 7; to = 8 })) (tree.ConsMember (tree.OfMember (tree.OfSpecs tree.NoQualifiers (tree.Words (word.Int ∷ []) 10 13) tree.NoQualifiers 10 13) (tree.ConsDeclarator (tree.Named 9 14 15) tree.NoDeclarators) 10 16) tree.NoMembers) 0 17) tree.NoQualifiers 0 17) ((src.OfInitDeclarator (tree.Named 9 18 19) None 18 19) ∷ []) 0 20) 0 20) ∷ (src.Declared (src.OfDeclaration None (tree.OfSpecs tree.NoQualifiers (tree.StructTag (record { name = 8; from = 28; to = 29 }) 21 29) tree.NoQualifiers 21 29) ((src.OfInitDeclarator (tree.Named 10 30 31) (Some (src.Value (tree.Identifier 9 34 35) 34 35)) 30 35) ∷ []) 21 36) 21 36) ∷ []) ≡ breaks_at C13 34
unfolding computing
struct_of_the_file = refl

-- `int a = (1, 2);`
comma_not_constant : typed (names (codes "a" ∷ [])) ((src.Declared (src.OfDeclaration None (tree.OfSpecs tree.NoQualifiers (tree.Words (word.Int ∷ []) 0 3) tree.NoQualifiers 0 3) ((src.OfInitDeclarator (tree.Named 8 4 5) (Some (src.Value (tree.Paren (tree.Binary op.Comma (tree.Integer 1 true false false 9 10) (tree.Integer 2 true false false 12 13) 9 13) 8 14) 8 14)) 4 14) ∷ []) 0 15) 0 15) ∷ []) ≡ breaks_at C13 8
unfolding computing
comma_not_constant = refl

-- `int f(void); int a = 0 && f();`
call_not_evaluated : typed (names (codes "f" ∷ codes "a" ∷ [])) ((src.Declared (src.OfDeclaration None (tree.OfSpecs tree.NoQualifiers (tree.Words (word.Int ∷ []) 0 3) tree.NoQualifiers 0 3) ((src.OfInitDeclarator (tree.Function (tree.Named 8 4 5) (tree.OnlyVoid 6 10) 4 11) None 4 11) ∷ []) 0 12) 0 12) ∷ (src.Declared (src.OfDeclaration None (tree.OfSpecs tree.NoQualifiers (tree.Words (word.Int ∷ []) 13 16) tree.NoQualifiers 13 16) ((src.OfInitDeclarator (tree.Named 9 17 18) (Some (src.Value (tree.Binary op.LogicalAnd (tree.Integer 0 false false false 21 22) (tree.Call (tree.Identifier 8 26 27) tree.NoExprs 26 29) 21 29) 21 29)) 17 29) ∷ []) 13 30) 13 30) ∷ []) ≡ breaks_at C13 21
unfolding computing
call_not_evaluated = refl

-- `int a[2]; long b = &a[1] - a;`
distance_not_constant : typed (names (codes "a" ∷ codes "b" ∷ [])) ((src.Declared (src.OfDeclaration None (tree.OfSpecs tree.NoQualifiers (tree.Words (word.Int ∷ []) 0 3) tree.NoQualifiers 0 3) ((src.OfInitDeclarator (tree.Array (tree.Named 8 4 5) (tree.SomeExpr (tree.Integer 2 true false false 6 7)) 4 8) None 4 8) ∷ []) 0 9) 0 9) ∷ (src.Declared (src.OfDeclaration None (tree.OfSpecs tree.NoQualifiers (tree.Words (word.Long ∷ []) 10 14) tree.NoQualifiers 10 14) ((src.OfInitDeclarator (tree.Named 9 15 16) (Some (src.Value (tree.Binary op.Subtract (tree.Prefix prefix.Address (tree.Index (tree.Identifier 8 20 21) (tree.Integer 1 true false false 22 23) 20 24) 19 24) (tree.Identifier 8 27 28) 19 28) 19 28)) 15 28) ∷ []) 10 29) 10 29) ∷ []) ≡ breaks_at C13 19
unfolding computing
distance_not_constant = refl

-- `int a; _Bool b = &a;`
address_as_truth : typed (names (codes "a" ∷ codes "b" ∷ [])) ((src.Declared (src.OfDeclaration None (tree.OfSpecs tree.NoQualifiers (tree.Words (word.Int ∷ []) 0 3) tree.NoQualifiers 0 3) ((src.OfInitDeclarator (tree.Named 8 4 5) None 4 5) ∷ []) 0 6) 0 6) ∷ (src.Declared (src.OfDeclaration None (tree.OfSpecs tree.NoQualifiers (tree.Boolean 7 12) tree.NoQualifiers 7 12) ((src.OfInitDeclarator (tree.Named 9 13 14) (Some (src.Value (tree.Prefix prefix.Address (tree.Identifier 8 18 19) 17 19) 17 19)) 13 19) ∷ []) 7 20) 7 20) ∷ []) ≡ breaks_at C13 17
unfolding computing
address_as_truth = refl

-- `int a[2]; int *p = &a[2147483647 + 1];`
evaluated_in_an_address : typed (names (codes "a" ∷ codes "p" ∷ [])) ((src.Declared (src.OfDeclaration None (tree.OfSpecs tree.NoQualifiers (tree.Words (word.Int ∷ []) 0 3) tree.NoQualifiers 0 3) ((src.OfInitDeclarator (tree.Array (tree.Named 8 4 5) (tree.SomeExpr (tree.Integer 2 true false false 6 7)) 4 8) None 4 8) ∷ []) 0 9) 0 9) ∷ (src.Declared (src.OfDeclaration None (tree.OfSpecs tree.NoQualifiers (tree.Words (word.Int ∷ []) 10 13) tree.NoQualifiers 10 13) ((src.OfInitDeclarator (tree.Pointer tree.NoQualifiers (tree.Named 9 15 16) 14 16) (Some (src.Value (tree.Prefix prefix.Address (tree.Index (tree.Identifier 8 20 21) (tree.Binary op.Add (tree.Integer 2147483647 true false false 22 32) (tree.Integer 1 true false false 35 36) 22 36) 20 37) 19 37) 19 37)) 14 37) ∷ []) 10 38) 10 38) ∷ []) ≡ breaks_at C14 19
unfolding computing
evaluated_in_an_address = refl

-- `int a = -1 << 1;`
negative_shifted : typed (names (codes "a" ∷ [])) ((src.Declared (src.OfDeclaration None (tree.OfSpecs tree.NoQualifiers (tree.Words (word.Int ∷ []) 0 3) tree.NoQualifiers 0 3) ((src.OfInitDeclarator (tree.Named 8 4 5) (Some (src.Value (tree.Binary op.ShiftLeft (tree.Prefix prefix.Minus (tree.Integer 1 true false false 9 10) 8 10) (tree.Integer 1 true false false 14 15) 8 15) 8 15)) 4 15) ∷ []) 0 16) 0 16) ∷ []) ≡ breaks_at C14 8
unfolding computing
negative_shifted = refl

-- `int a[0];`
no_elements : typed (names (codes "a" ∷ [])) ((src.Declared (src.OfDeclaration None (tree.OfSpecs tree.NoQualifiers (tree.Words (word.Int ∷ []) 0 3) tree.NoQualifiers 0 3) ((src.OfInitDeclarator (tree.Array (tree.Named 8 4 5) (tree.SomeExpr (tree.Integer 0 false false false 6 7)) 4 8) None 4 8) ∷ []) 0 9) 0 9) ∷ []) ≡ breaks_at C14 6
unfolding computing
no_elements = refl

-- `int a = 2147483647 + 1;`
constant_too_large : typed (names (codes "a" ∷ [])) ((src.Declared (src.OfDeclaration None (tree.OfSpecs tree.NoQualifiers (tree.Words (word.Int ∷ []) 0 3) tree.NoQualifiers 0 3) ((src.OfInitDeclarator (tree.Named 8 4 5) (Some (src.Value (tree.Binary op.Add (tree.Integer 2147483647 true false false 8 18) (tree.Integer 1 true false false 21 22) 8 22) 8 22)) 4 22) ∷ []) 0 23) 0 23) ∷ []) ≡ breaks_at C14 8
unfolding computing
constant_too_large = refl

-- `enum {a = 2147483648};`
enumerator_too_large : typed (names (codes "a" ∷ [])) ((src.Declared (src.OfDeclaration None (tree.OfSpecs tree.NoQualifiers (tree.EnumBody None (tree.ConsEnumerator (tree.OfEnumerator 8 (tree.SomeExpr (tree.Integer 2147483648 true false false 10 20)) 6 20) tree.NoEnumerators) 0 21) tree.NoQualifiers 0 21) [] 0 22) 0 22) ∷ []) ≡ breaks_at C14 10
unfolding computing
enumerator_too_large = refl

-- `enum {a = 2147483647, b};`
next_enumerator_too_large : typed (names (codes "a" ∷ codes "b" ∷ [])) ((src.Declared (src.OfDeclaration None (tree.OfSpecs tree.NoQualifiers (tree.EnumBody None (tree.ConsEnumerator (tree.OfEnumerator 8 (tree.SomeExpr (tree.Integer 2147483647 true false false 10 20)) 6 20) (tree.ConsEnumerator (tree.OfEnumerator 9 tree.NoExpr 22 23) tree.NoEnumerators)) 0 24) tree.NoQualifiers 0 24) [] 0 25) 0 25) ∷ []) ≡ breaks_at C14 22
unfolding computing
next_enumerator_too_large = refl

-- `int (* __ptrauth(0,2,0) p)(int);`
address_flag : typed (names (codes "p" ∷ [])) ((src.Declared (src.OfDeclaration None (tree.OfSpecs tree.NoQualifiers (tree.Words (word.Int ∷ []) 0 3) tree.NoQualifiers 0 3) ((src.OfInitDeclarator (tree.Function (tree.Grouped (tree.Pointer (tree.ConsQualifier (tree.Ptrauth (tree.ConsExpr (tree.Integer 0 false false false 17 18) (tree.ConsExpr (tree.Integer 2 true false false 19 20) (tree.ConsExpr (tree.Integer 0 false false false 21 22) tree.NoExprs))) 7 23) tree.NoQualifiers) (tree.Named 8 24 25) 5 25) 4 26) (tree.Listed (tree.ConsParameter (tree.OfParameter (tree.OfSpecs tree.NoQualifiers (tree.Words (word.Int ∷ []) 27 30) tree.NoQualifiers 27 30) (tree.Absent 30 30) 27 30) tree.NoParameters) 27 30) 4 31) None 4 31) ∷ []) 0 32) 0 32) ∷ []) ≡ breaks_at C14 19
unfolding computing
address_flag = refl

-- `int (* __ptrauth(0,0,65536) p)(int);`
discriminator_too_large : typed (names (codes "p" ∷ [])) ((src.Declared (src.OfDeclaration None (tree.OfSpecs tree.NoQualifiers (tree.Words (word.Int ∷ []) 0 3) tree.NoQualifiers 0 3) ((src.OfInitDeclarator (tree.Function (tree.Grouped (tree.Pointer (tree.ConsQualifier (tree.Ptrauth (tree.ConsExpr (tree.Integer 0 false false false 17 18) (tree.ConsExpr (tree.Integer 0 false false false 19 20) (tree.ConsExpr (tree.Integer 65536 true false false 21 26) tree.NoExprs))) 7 27) tree.NoQualifiers) (tree.Named 8 28 29) 5 29) 4 30) (tree.Listed (tree.ConsParameter (tree.OfParameter (tree.OfSpecs tree.NoQualifiers (tree.Words (word.Int ∷ []) 31 34) tree.NoQualifiers 31 34) (tree.Absent 34 34) 31 34) tree.NoParameters) 31 34) 4 35) None 4 35) ∷ []) 0 36) 0 36) ∷ []) ≡ breaks_at C14 21
unfolding computing
discriminator_too_large = refl

-- `long f(void){return 9223372036854775808;}`
literal_too_large : typed (names (codes "f" ∷ [])) ((src.Defined (src.OfFunctionDefinition None (tree.OfSpecs tree.NoQualifiers (tree.Words (word.Long ∷ []) 0 4) tree.NoQualifiers 0 4) (tree.Function (tree.Named 8 5 6) (tree.OnlyVoid 7 11) 5 12) (src.Compound (src.ConsBlockItem (src.StatementItem (src.Return (Some (tree.Integer 9223372036854775808 true false false 20 39)) 13 40) 13 40) src.NoBlockItems) 12 41) 0 41) 0 41) ∷ []) ≡ breaks_at C14 20
unfolding computing
literal_too_large = refl

-- `int f(int a); long g(void){return (long)f;}`
function_cast : typed (names (codes "f" ∷ codes "a" ∷ codes "g" ∷ [])) ((src.Declared (src.OfDeclaration None (tree.OfSpecs tree.NoQualifiers (tree.Words (word.Int ∷ []) 0 3) tree.NoQualifiers 0 3) ((src.OfInitDeclarator (tree.Function (tree.Named 8 4 5) (tree.Listed (tree.ConsParameter (tree.OfParameter (tree.OfSpecs tree.NoQualifiers (tree.Words (word.Int ∷ []) 6 9) tree.NoQualifiers 6 9) (tree.Named 9 10 11) 6 11) tree.NoParameters) 6 11) 4 12) None 4 12) ∷ []) 0 13) 0 13) ∷ (src.Defined (src.OfFunctionDefinition None (tree.OfSpecs tree.NoQualifiers (tree.Words (word.Long ∷ []) 14 18) tree.NoQualifiers 14 18) (tree.Function (tree.Named 10 19 20) (tree.OnlyVoid 21 25) 19 26) (src.Compound (src.ConsBlockItem (src.StatementItem (src.Return (Some (tree.Cast (tree.OfTypeName (tree.OfSpecs tree.NoQualifiers (tree.Words (word.Long ∷ []) 35 39) tree.NoQualifiers 35 39) (tree.Absent 39 39) 35 39) (tree.Identifier 8 40 41) 34 41)) 27 42) 27 42) src.NoBlockItems) 26 43) 14 43) 14 43) ∷ []) ≡ breaks_at C15 34
unfolding computing
function_cast = refl

-- `int f(int a); void g(void){(void)f;}`
function_discarded : typed (names (codes "f" ∷ codes "a" ∷ codes "g" ∷ [])) ((src.Declared (src.OfDeclaration None (tree.OfSpecs tree.NoQualifiers (tree.Words (word.Int ∷ []) 0 3) tree.NoQualifiers 0 3) ((src.OfInitDeclarator (tree.Function (tree.Named 8 4 5) (tree.Listed (tree.ConsParameter (tree.OfParameter (tree.OfSpecs tree.NoQualifiers (tree.Words (word.Int ∷ []) 6 9) tree.NoQualifiers 6 9) (tree.Named 9 10 11) 6 11) tree.NoParameters) 6 11) 4 12) None 4 12) ∷ []) 0 13) 0 13) ∷ (src.Defined (src.OfFunctionDefinition None (tree.OfSpecs tree.NoQualifiers (tree.Void 14 18) tree.NoQualifiers 14 18) (tree.Function (tree.Named 10 19 20) (tree.OnlyVoid 21 25) 19 26) (src.Compound (src.ConsBlockItem (src.StatementItem (src.Expression (Some (tree.Cast (tree.OfTypeName (tree.OfSpecs tree.NoQualifiers (tree.Void 28 32) tree.NoQualifiers 28 32) (tree.Absent 32 32) 28 32) (tree.Identifier 8 33 34) 27 34)) 27 35) 27 35) src.NoBlockItems) 26 36) 14 36) 14 36) ∷ []) ≡ breaks_at C15 27
unfolding computing
function_discarded = refl

-- `int *p; long g(void){return (long)p;}`
pointer_cast_to_a_number : typed (names (codes "p" ∷ codes "g" ∷ [])) ((src.Declared (src.OfDeclaration None (tree.OfSpecs tree.NoQualifiers (tree.Words (word.Int ∷ []) 0 3) tree.NoQualifiers 0 3) ((src.OfInitDeclarator (tree.Pointer tree.NoQualifiers (tree.Named 8 5 6) 4 6) None 4 6) ∷ []) 0 7) 0 7) ∷ (src.Defined (src.OfFunctionDefinition None (tree.OfSpecs tree.NoQualifiers (tree.Words (word.Long ∷ []) 8 12) tree.NoQualifiers 8 12) (tree.Function (tree.Named 9 13 14) (tree.OnlyVoid 15 19) 13 20) (src.Compound (src.ConsBlockItem (src.StatementItem (src.Return (Some (tree.Cast (tree.OfTypeName (tree.OfSpecs tree.NoQualifiers (tree.Words (word.Long ∷ []) 29 33) tree.NoQualifiers 29 33) (tree.Absent 33 33) 29 33) (tree.Identifier 8 34 35) 28 35)) 21 36) 21 36) src.NoBlockItems) 20 37) 8 37) 8 37) ∷ []) ≡ breaks_at C16 28
unfolding computing
pointer_cast_to_a_number = refl

-- `int *f(void){return (int *)0;}`
zero_cast_to_a_pointer : typed (names (codes "f" ∷ [])) ((src.Defined (src.OfFunctionDefinition None (tree.OfSpecs tree.NoQualifiers (tree.Words (word.Int ∷ []) 0 3) tree.NoQualifiers 0 3) (tree.Pointer tree.NoQualifiers (tree.Function (tree.Named 8 5 6) (tree.OnlyVoid 7 11) 5 12) 4 12) (src.Compound (src.ConsBlockItem (src.StatementItem (src.Return (Some (tree.Cast (tree.OfTypeName (tree.OfSpecs tree.NoQualifiers (tree.Words (word.Int ∷ []) 21 24) tree.NoQualifiers 21 24) (tree.Pointer tree.NoQualifiers (tree.Absent 26 26) 25 26) 21 26) (tree.Integer 0 false false false 27 28) 20 28)) 13 29) 13 29) src.NoBlockItems) 12 30) 0 30) 0 30) ∷ []) ≡ breaks_at C16 20
unfolding computing
zero_cast_to_a_pointer = refl

-- `int __ptrauth(0,0,0) x;`
schema_on_a_number : typed (names (codes "x" ∷ [])) ((src.Declared (src.OfDeclaration None (tree.OfSpecs tree.NoQualifiers (tree.Words (word.Int ∷ []) 0 3) (tree.ConsQualifier (tree.Ptrauth (tree.ConsExpr (tree.Integer 0 false false false 14 15) (tree.ConsExpr (tree.Integer 0 false false false 16 17) (tree.ConsExpr (tree.Integer 0 false false false 18 19) tree.NoExprs))) 4 20) tree.NoQualifiers) 0 20) ((src.OfInitDeclarator (tree.Named 8 21 22) None 21 22) ∷ []) 0 23) 0 23) ∷ []) ≡ breaks_at C17 4
unfolding computing
schema_on_a_number = refl

-- `int * __ptrauth(0,0,0) x;`
schema_on_an_object_pointer : typed (names (codes "x" ∷ [])) ((src.Declared (src.OfDeclaration None (tree.OfSpecs tree.NoQualifiers (tree.Words (word.Int ∷ []) 0 3) tree.NoQualifiers 0 3) ((src.OfInitDeclarator (tree.Pointer (tree.ConsQualifier (tree.Ptrauth (tree.ConsExpr (tree.Integer 0 false false false 16 17) (tree.ConsExpr (tree.Integer 0 false false false 18 19) (tree.ConsExpr (tree.Integer 0 false false false 20 21) tree.NoExprs))) 6 22) tree.NoQualifiers) (tree.Named 8 23 24) 4 24) None 4 24) ∷ []) 0 25) 0 25) ∷ []) ≡ breaks_at C17 6
unfolding computing
schema_on_an_object_pointer = refl

-- `int (* __ptrauth(0,0,1) __ptrauth(0,0,2) p)(int);`
second_schema : typed (names (codes "p" ∷ [])) ((src.Declared (src.OfDeclaration None (tree.OfSpecs tree.NoQualifiers (tree.Words (word.Int ∷ []) 0 3) tree.NoQualifiers 0 3) ((src.OfInitDeclarator (tree.Function (tree.Grouped (tree.Pointer (tree.ConsQualifier (tree.Ptrauth (tree.ConsExpr (tree.Integer 0 false false false 17 18) (tree.ConsExpr (tree.Integer 0 false false false 19 20) (tree.ConsExpr (tree.Integer 1 true false false 21 22) tree.NoExprs))) 7 23) (tree.ConsQualifier (tree.Ptrauth (tree.ConsExpr (tree.Integer 0 false false false 34 35) (tree.ConsExpr (tree.Integer 0 false false false 36 37) (tree.ConsExpr (tree.Integer 2 true false false 38 39) tree.NoExprs))) 24 40) tree.NoQualifiers)) (tree.Named 8 41 42) 5 42) 4 43) (tree.Listed (tree.ConsParameter (tree.OfParameter (tree.OfSpecs tree.NoQualifiers (tree.Words (word.Int ∷ []) 44 47) tree.NoQualifiers 44 47) (tree.Absent 47 47) 44 47) tree.NoParameters) 44 47) 4 48) None 4 48) ∷ []) 0 49) 0 49) ∷ []) ≡ breaks_at C17 24
unfolding computing
second_schema = refl

-- `void f(int (* __ptrauth(0,0,1) p)(int));`
schema_of_a_parameter : typed (names (codes "f" ∷ codes "p" ∷ [])) ((src.Declared (src.OfDeclaration None (tree.OfSpecs tree.NoQualifiers (tree.Void 0 4) tree.NoQualifiers 0 4) ((src.OfInitDeclarator (tree.Function (tree.Named 8 5 6) (tree.Listed (tree.ConsParameter (tree.OfParameter (tree.OfSpecs tree.NoQualifiers (tree.Words (word.Int ∷ []) 7 10) tree.NoQualifiers 7 10) (tree.Function (tree.Grouped (tree.Pointer (tree.ConsQualifier (tree.Ptrauth (tree.ConsExpr (tree.Integer 0 false false false 24 25) (tree.ConsExpr (tree.Integer 0 false false false 26 27) (tree.ConsExpr (tree.Integer 1 true false false 28 29) tree.NoExprs))) 14 30) tree.NoQualifiers) (tree.Named 9 31 32) 12 32) 11 33) (tree.Listed (tree.ConsParameter (tree.OfParameter (tree.OfSpecs tree.NoQualifiers (tree.Words (word.Int ∷ []) 34 37) tree.NoQualifiers 34 37) (tree.Absent 37 37) 34 37) tree.NoParameters) 34 37) 11 38) 7 38) tree.NoParameters) 7 38) 5 39) None 5 39) ∷ []) 0 40) 0 40) ∷ []) ≡ breaks_at C18 14
unfolding computing
schema_of_a_parameter = refl

-- `typedef int (*t)(int); void f(__ptrauth(0,0,1) t p);`
schema_of_a_parameter_in_front : typed (names (codes "t" ∷ codes "f" ∷ codes "p" ∷ [])) ((src.Declared (src.OfDeclaration (Some storage.Typedef) (tree.OfSpecs tree.NoQualifiers (tree.Words (word.Int ∷ []) 8 11) tree.NoQualifiers 8 11) ((src.OfInitDeclarator (tree.Function (tree.Grouped (tree.Pointer tree.NoQualifiers (tree.Named 8 14 15) 13 15) 12 16) (tree.Listed (tree.ConsParameter (tree.OfParameter (tree.OfSpecs tree.NoQualifiers (tree.Words (word.Int ∷ []) 17 20) tree.NoQualifiers 17 20) (tree.Absent 20 20) 17 20) tree.NoParameters) 17 20) 12 21) None 12 21) ∷ []) 0 22) 0 22) ∷ (src.Declared (src.OfDeclaration None (tree.OfSpecs tree.NoQualifiers (tree.Void 23 27) tree.NoQualifiers 23 27) ((src.OfInitDeclarator (tree.Function (tree.Named 9 28 29) (tree.Listed (tree.ConsParameter (tree.OfParameter (tree.OfSpecs (tree.ConsQualifier (tree.Ptrauth (tree.ConsExpr (tree.Integer 0 false false false 40 41) (tree.ConsExpr (tree.Integer 0 false false false 42 43) (tree.ConsExpr (tree.Integer 1 true false false 44 45) tree.NoExprs))) 30 46) tree.NoQualifiers) (tree.TypedefName 8 47 48) tree.NoQualifiers 30 48) (tree.Named 10 49 50) 30 50) tree.NoParameters) 30 50) 28 51) None 28 51) ∷ []) 23 52) 23 52) ∷ []) ≡ breaks_at C18 30
unfolding computing
schema_of_a_parameter_in_front = refl

-- `typedef int (* __ptrauth(0,0,1) t)(int); void f(t p);`
schema_by_a_typedef : typed (names (codes "t" ∷ codes "f" ∷ codes "p" ∷ [])) ((src.Declared (src.OfDeclaration (Some storage.Typedef) (tree.OfSpecs tree.NoQualifiers (tree.Words (word.Int ∷ []) 8 11) tree.NoQualifiers 8 11) ((src.OfInitDeclarator (tree.Function (tree.Grouped (tree.Pointer (tree.ConsQualifier (tree.Ptrauth (tree.ConsExpr (tree.Integer 0 false false false 25 26) (tree.ConsExpr (tree.Integer 0 false false false 27 28) (tree.ConsExpr (tree.Integer 1 true false false 29 30) tree.NoExprs))) 15 31) tree.NoQualifiers) (tree.Named 8 32 33) 13 33) 12 34) (tree.Listed (tree.ConsParameter (tree.OfParameter (tree.OfSpecs tree.NoQualifiers (tree.Words (word.Int ∷ []) 35 38) tree.NoQualifiers 35 38) (tree.Absent 38 38) 35 38) tree.NoParameters) 35 38) 12 39) None 12 39) ∷ []) 0 40) 0 40) ∷ (src.Declared (src.OfDeclaration None (tree.OfSpecs tree.NoQualifiers (tree.Void 41 45) tree.NoQualifiers 41 45) ((src.OfInitDeclarator (tree.Function (tree.Named 9 46 47) (tree.Listed (tree.ConsParameter (tree.OfParameter (tree.OfSpecs tree.NoQualifiers (tree.TypedefName 8 48 49) tree.NoQualifiers 48 49) (tree.Named 10 50 51) 48 51) tree.NoParameters) 48 51) 46 52) None 46 52) ∷ []) 41 53) 41 53) ∷ []) ≡ breaks_at C18 48
unfolding computing
schema_by_a_typedef = refl

-- `typedef int (* __ptrauth(0,0,1) t)(int); t f(void);`
schema_of_a_result : typed (names (codes "t" ∷ codes "f" ∷ [])) ((src.Declared (src.OfDeclaration (Some storage.Typedef) (tree.OfSpecs tree.NoQualifiers (tree.Words (word.Int ∷ []) 8 11) tree.NoQualifiers 8 11) ((src.OfInitDeclarator (tree.Function (tree.Grouped (tree.Pointer (tree.ConsQualifier (tree.Ptrauth (tree.ConsExpr (tree.Integer 0 false false false 25 26) (tree.ConsExpr (tree.Integer 0 false false false 27 28) (tree.ConsExpr (tree.Integer 1 true false false 29 30) tree.NoExprs))) 15 31) tree.NoQualifiers) (tree.Named 8 32 33) 13 33) 12 34) (tree.Listed (tree.ConsParameter (tree.OfParameter (tree.OfSpecs tree.NoQualifiers (tree.Words (word.Int ∷ []) 35 38) tree.NoQualifiers 35 38) (tree.Absent 38 38) 35 38) tree.NoParameters) 35 38) 12 39) None 12 39) ∷ []) 0 40) 0 40) ∷ (src.Declared (src.OfDeclaration None (tree.OfSpecs tree.NoQualifiers (tree.TypedefName 8 41 42) tree.NoQualifiers 41 42) ((src.OfInitDeclarator (tree.Function (tree.Named 9 43 44) (tree.OnlyVoid 45 49) 43 50) None 43 50) ∷ []) 41 51) 41 51) ∷ []) ≡ breaks_at C18 43
unfolding computing
schema_of_a_result = refl

-- `typedef int (* __ptrauth(0,0,1) t)(int); void f(long a){(t)a;}`
schema_of_a_cast : typed (names (codes "t" ∷ codes "f" ∷ codes "a" ∷ [])) ((src.Declared (src.OfDeclaration (Some storage.Typedef) (tree.OfSpecs tree.NoQualifiers (tree.Words (word.Int ∷ []) 8 11) tree.NoQualifiers 8 11) ((src.OfInitDeclarator (tree.Function (tree.Grouped (tree.Pointer (tree.ConsQualifier (tree.Ptrauth (tree.ConsExpr (tree.Integer 0 false false false 25 26) (tree.ConsExpr (tree.Integer 0 false false false 27 28) (tree.ConsExpr (tree.Integer 1 true false false 29 30) tree.NoExprs))) 15 31) tree.NoQualifiers) (tree.Named 8 32 33) 13 33) 12 34) (tree.Listed (tree.ConsParameter (tree.OfParameter (tree.OfSpecs tree.NoQualifiers (tree.Words (word.Int ∷ []) 35 38) tree.NoQualifiers 35 38) (tree.Absent 38 38) 35 38) tree.NoParameters) 35 38) 12 39) None 12 39) ∷ []) 0 40) 0 40) ∷ (src.Defined (src.OfFunctionDefinition None (tree.OfSpecs tree.NoQualifiers (tree.Void 41 45) tree.NoQualifiers 41 45) (tree.Function (tree.Named 9 46 47) (tree.Listed (tree.ConsParameter (tree.OfParameter (tree.OfSpecs tree.NoQualifiers (tree.Words (word.Long ∷ []) 48 52) tree.NoQualifiers 48 52) (tree.Named 10 53 54) 48 54) tree.NoParameters) 48 54) 46 55) (src.Compound (src.ConsBlockItem (src.StatementItem (src.Expression (Some (tree.Cast (tree.OfTypeName (tree.OfSpecs tree.NoQualifiers (tree.TypedefName 8 57 58) tree.NoQualifiers 57 58) (tree.Absent 58 58) 57 58) (tree.Identifier 10 59 60) 56 60)) 56 61) 56 61) src.NoBlockItems) 55 62) 41 62) 41 62) ∷ []) ≡ breaks_at C18 57
unfolding computing
schema_of_a_cast = refl

-- `int (* __ptrauth(2,0,0) p)(int);`
data_key : typed (names (codes "p" ∷ [])) ((src.Declared (src.OfDeclaration None (tree.OfSpecs tree.NoQualifiers (tree.Words (word.Int ∷ []) 0 3) tree.NoQualifiers 0 3) ((src.OfInitDeclarator (tree.Function (tree.Grouped (tree.Pointer (tree.ConsQualifier (tree.Ptrauth (tree.ConsExpr (tree.Integer 2 true false false 17 18) (tree.ConsExpr (tree.Integer 0 false false false 19 20) (tree.ConsExpr (tree.Integer 0 false false false 21 22) tree.NoExprs))) 7 23) tree.NoQualifiers) (tree.Named 8 24 25) 5 25) 4 26) (tree.Listed (tree.ConsParameter (tree.OfParameter (tree.OfSpecs tree.NoQualifiers (tree.Words (word.Int ∷ []) 27 30) tree.NoQualifiers 27 30) (tree.Absent 30 30) 27 30) tree.NoParameters) 27 30) 4 31) None 4 31) ∷ []) 0 32) 0 32) ∷ []) ≡ breaks_at C19 17
unfolding computing
data_key = refl

-- `int (* __ptrauth(1,0,0) p)(int);`
return_key : typed (names (codes "p" ∷ [])) ((src.Declared (src.OfDeclaration None (tree.OfSpecs tree.NoQualifiers (tree.Words (word.Int ∷ []) 0 3) tree.NoQualifiers 0 3) ((src.OfInitDeclarator (tree.Function (tree.Grouped (tree.Pointer (tree.ConsQualifier (tree.Ptrauth (tree.ConsExpr (tree.Integer 1 true false false 17 18) (tree.ConsExpr (tree.Integer 0 false false false 19 20) (tree.ConsExpr (tree.Integer 0 false false false 21 22) tree.NoExprs))) 7 23) tree.NoQualifiers) (tree.Named 8 24 25) 5 25) 4 26) (tree.Listed (tree.ConsParameter (tree.OfParameter (tree.OfSpecs tree.NoQualifiers (tree.Words (word.Int ∷ []) 27 30) tree.NoQualifiers 27 30) (tree.Absent 30 30) 27 30) tree.NoParameters) 27 30) 4 31) None 4 31) ∷ []) 0 32) 0 32) ∷ []) ≡ breaks_at C19 17
unfolding computing
return_key = refl

-- `int (* __ptrauth(2,0,0) p)(struct s a);`
key_before_struct_parameter : typed (names (codes "p" ∷ codes "s" ∷ codes "a" ∷ [])) ((src.Declared (src.OfDeclaration None (tree.OfSpecs tree.NoQualifiers (tree.Words (word.Int ∷ []) 0 3) tree.NoQualifiers 0 3) ((src.OfInitDeclarator (tree.Function (tree.Grouped (tree.Pointer (tree.ConsQualifier (tree.Ptrauth (tree.ConsExpr (tree.Integer 2 true false false 17 18) (tree.ConsExpr (tree.Integer 0 false false false 19 20) (tree.ConsExpr (tree.Integer 0 false false false 21 22) tree.NoExprs))) 7 23) tree.NoQualifiers) (tree.Named 8 24 25) 5 25) 4 26) (tree.Listed (tree.ConsParameter (tree.OfParameter (tree.OfSpecs tree.NoQualifiers (tree.StructTag (record { name = 9; from = 34; to = 35 }) 27 35) tree.NoQualifiers 27 35) (tree.Named 10 36 37) 27 37) tree.NoParameters) 27 37) 4 38) None 4 38) ∷ []) 0 39) 0 39) ∷ []) ≡ breaks_at C19 17
unfolding computing
key_before_struct_parameter = refl
