-- Files that break the rules on names, lvalues and operands.
use Rattle.std.proofs.Common.{◌≡◌, true, false, [], ◌∷◌, Some, None, refl, codes}
use Rattle.pa_lex.specs.declared.token.Include.TheVariants as include
use Rattle.pa_tree.specs.declared.operator.Step.TheVariants as step
use Rattle.pa_tree.specs.declared.operator.PrefixOperator.TheVariants as prefix
use Rattle.pa_tree.specs.declared.operator.BinaryOperator.TheVariants as op
use Rattle.pa_tree.specs.declared.operator.IntegerWord.TheVariants as word
use Rattle.pa_tree.specs.declared.file.Storage.TheVariants as storage
use Rattle.pa_tree.specs.Exprs as tree
use Rattle.pa_tree.specs.Stmts as src
use Rattle.pa_scope.specs.Answers.{breaks_at}
use Rattle.pa_scope.specs.declared.rule.TypeRule.TheVariants.{C1, C2, C3, C4, C5, C6}
use Rattle.pa_runit.specs.Units.{typed}
use Rattle.pa_runit.proofs.Computing.{computing}
use Rattle.pa_rexpr.proofs.Spelled.{names}

-- `int main(void){return x;}`
undeclared_name : typed (names (codes "main" ∷ codes "x" ∷ [])) ((src.Defined (src.OfFunctionDefinition None (tree.OfSpecs tree.NoQualifiers (tree.Words (word.Int ∷ []) 0 3) tree.NoQualifiers 0 3) (tree.Function (tree.Named 8 4 8) (tree.OnlyVoid 9 13) 4 14) (src.Compound (src.ConsBlockItem (src.StatementItem (src.Return (Some (tree.Identifier 9 22 23)) 15 24) 15 24) src.NoBlockItems) 14 25) 0 25) 0 25) ∷ []) ≡ breaks_at C1 22
unfolding computing
undeclared_name = refl

-- `enum e x;`
undeclared_enum_tag : typed (names (codes "e" ∷ codes "x" ∷ [])) ((src.Declared (src.OfDeclaration None (tree.OfSpecs tree.NoQualifiers (tree.EnumTag (record { name = 8; from = 5; to = 6 }) 0 6) tree.NoQualifiers 0 6) ((src.OfInitDeclarator (tree.Named 9 7 8) None 7 8) ∷ []) 0 9) 0 9) ∷ []) ≡ breaks_at C1 0
unfolding computing
undeclared_enum_tag = refl

-- `int x = sizeof(struct s *);`
struct_tag_in_an_expression : typed (names (codes "x" ∷ codes "s" ∷ [])) ((src.Declared (src.OfDeclaration None (tree.OfSpecs tree.NoQualifiers (tree.Words (word.Int ∷ []) 0 3) tree.NoQualifiers 0 3) ((src.OfInitDeclarator (tree.Named 8 4 5) (Some (src.Value (tree.SizeofType (tree.OfTypeName (tree.OfSpecs tree.NoQualifiers (tree.StructTag (record { name = 9; from = 22; to = 23 }) 15 23) tree.NoQualifiers 15 23) (tree.Pointer tree.NoQualifiers (tree.Absent 25 25) 24 25) 15 25) 8 26) 8 26)) 4 26) ∷ []) 0 27) 0 27) ∷ []) ≡ breaks_at C1 15
unfolding computing
struct_tag_in_an_expression = refl

-- `struct s {int a;} b; void f(void){if (b) x;}`
inner_first : typed (names (codes "s" ∷ codes "a" ∷ codes "b" ∷ codes "f" ∷ codes "x" ∷ [])) ((src.Declared (src.OfDeclaration None (tree.OfSpecs tree.NoQualifiers (tree.StructBody (Some (record { name = 8; from = 7; to = 8 })) (tree.ConsMember (tree.OfMember (tree.OfSpecs tree.NoQualifiers (tree.Words (word.Int ∷ []) 10 13) tree.NoQualifiers 10 13) (tree.ConsDeclarator (tree.Named 9 14 15) tree.NoDeclarators) 10 16) tree.NoMembers) 0 17) tree.NoQualifiers 0 17) ((src.OfInitDeclarator (tree.Named 10 18 19) None 18 19) ∷ []) 0 20) 0 20) ∷ (src.Defined (src.OfFunctionDefinition None (tree.OfSpecs tree.NoQualifiers (tree.Void 21 25) tree.NoQualifiers 21 25) (tree.Function (tree.Named 11 26 27) (tree.OnlyVoid 28 32) 26 33) (src.Compound (src.ConsBlockItem (src.StatementItem (src.If (tree.Identifier 10 38 39) (src.Expression (Some (tree.Identifier 12 41 42)) 41 43) 34 43) 34 43) src.NoBlockItems) 33 44) 21 44) 21 44) ∷ []) ≡ breaks_at C1 41
unfolding computing
inner_first = refl

-- `void f(void){int a; int a;}`
local_twice : typed (names (codes "f" ∷ codes "a" ∷ [])) ((src.Defined (src.OfFunctionDefinition None (tree.OfSpecs tree.NoQualifiers (tree.Void 0 4) tree.NoQualifiers 0 4) (tree.Function (tree.Named 8 5 6) (tree.OnlyVoid 7 11) 5 12) (src.Compound (src.ConsBlockItem (src.DeclarationItem (src.OfBlockDeclaration (tree.OfSpecs tree.NoQualifiers (tree.Words (word.Int ∷ []) 13 16) tree.NoQualifiers 13 16) ((src.OfInitDeclarator (tree.Named 9 17 18) None 17 18) ∷ []) 13 19) 13 19) (src.ConsBlockItem (src.DeclarationItem (src.OfBlockDeclaration (tree.OfSpecs tree.NoQualifiers (tree.Words (word.Int ∷ []) 20 23) tree.NoQualifiers 20 23) ((src.OfInitDeclarator (tree.Named 9 24 25) None 24 25) ∷ []) 20 26) 20 26) src.NoBlockItems)) 12 27) 0 27) 0 27) ∷ []) ≡ breaks_at C2 24
unfolding computing
local_twice = refl

-- `void f(int a){int a;}`
local_like_a_parameter : typed (names (codes "f" ∷ codes "a" ∷ [])) ((src.Defined (src.OfFunctionDefinition None (tree.OfSpecs tree.NoQualifiers (tree.Void 0 4) tree.NoQualifiers 0 4) (tree.Function (tree.Named 8 5 6) (tree.Listed (tree.ConsParameter (tree.OfParameter (tree.OfSpecs tree.NoQualifiers (tree.Words (word.Int ∷ []) 7 10) tree.NoQualifiers 7 10) (tree.Named 9 11 12) 7 12) tree.NoParameters) 7 12) 5 13) (src.Compound (src.ConsBlockItem (src.DeclarationItem (src.OfBlockDeclaration (tree.OfSpecs tree.NoQualifiers (tree.Words (word.Int ∷ []) 14 17) tree.NoQualifiers 14 17) ((src.OfInitDeclarator (tree.Named 9 18 19) None 18 19) ∷ []) 14 20) 14 20) src.NoBlockItems) 13 21) 0 21) 0 21) ∷ []) ≡ breaks_at C2 18
unfolding computing
local_like_a_parameter = refl

-- `void f(int a, int a);`
parameter_twice : typed (names (codes "f" ∷ codes "a" ∷ [])) ((src.Declared (src.OfDeclaration None (tree.OfSpecs tree.NoQualifiers (tree.Void 0 4) tree.NoQualifiers 0 4) ((src.OfInitDeclarator (tree.Function (tree.Named 8 5 6) (tree.Listed (tree.ConsParameter (tree.OfParameter (tree.OfSpecs tree.NoQualifiers (tree.Words (word.Int ∷ []) 7 10) tree.NoQualifiers 7 10) (tree.Named 9 11 12) 7 12) (tree.ConsParameter (tree.OfParameter (tree.OfSpecs tree.NoQualifiers (tree.Words (word.Int ∷ []) 14 17) tree.NoQualifiers 14 17) (tree.Named 9 18 19) 14 19) tree.NoParameters)) 7 19) 5 20) None 5 20) ∷ []) 0 21) 0 21) ∷ []) ≡ breaks_at C2 18
unfolding computing
parameter_twice = refl

-- `struct s {int a; int a;};`
member_twice : typed (names (codes "s" ∷ codes "a" ∷ [])) ((src.Declared (src.OfDeclaration None (tree.OfSpecs tree.NoQualifiers (tree.StructBody (Some (record { name = 8; from = 7; to = 8 })) (tree.ConsMember (tree.OfMember (tree.OfSpecs tree.NoQualifiers (tree.Words (word.Int ∷ []) 10 13) tree.NoQualifiers 10 13) (tree.ConsDeclarator (tree.Named 9 14 15) tree.NoDeclarators) 10 16) (tree.ConsMember (tree.OfMember (tree.OfSpecs tree.NoQualifiers (tree.Words (word.Int ∷ []) 17 20) tree.NoQualifiers 17 20) (tree.ConsDeclarator (tree.Named 9 21 22) tree.NoDeclarators) 17 23) tree.NoMembers)) 0 24) tree.NoQualifiers 0 24) [] 0 25) 0 25) ∷ []) ≡ breaks_at C2 21
unfolding computing
member_twice = refl

-- `void f(void){} void f(void){}`
second_function_body : typed (names (codes "f" ∷ [])) ((src.Defined (src.OfFunctionDefinition None (tree.OfSpecs tree.NoQualifiers (tree.Void 0 4) tree.NoQualifiers 0 4) (tree.Function (tree.Named 8 5 6) (tree.OnlyVoid 7 11) 5 12) (src.Compound src.NoBlockItems 12 14) 0 14) 0 14) ∷ (src.Defined (src.OfFunctionDefinition None (tree.OfSpecs tree.NoQualifiers (tree.Void 15 19) tree.NoQualifiers 15 19) (tree.Function (tree.Named 8 20 21) (tree.OnlyVoid 22 26) 20 27) (src.Compound src.NoBlockItems 27 29) 15 29) 15 29) ∷ []) ≡ breaks_at C2 20
unfolding computing
second_function_body = refl

-- `int a = 1; int a = 2;`
second_initializer : typed (names (codes "a" ∷ [])) ((src.Declared (src.OfDeclaration None (tree.OfSpecs tree.NoQualifiers (tree.Words (word.Int ∷ []) 0 3) tree.NoQualifiers 0 3) ((src.OfInitDeclarator (tree.Named 8 4 5) (Some (src.Value (tree.Integer 1 true false false 8 9) 8 9)) 4 9) ∷ []) 0 10) 0 10) ∷ (src.Declared (src.OfDeclaration None (tree.OfSpecs tree.NoQualifiers (tree.Words (word.Int ∷ []) 11 14) tree.NoQualifiers 11 14) ((src.OfInitDeclarator (tree.Named 8 15 16) (Some (src.Value (tree.Integer 2 true false false 19 20) 19 20)) 15 20) ∷ []) 11 21) 11 21) ∷ []) ≡ breaks_at C2 15
unfolding computing
second_initializer = refl

-- `struct s {int a;}; struct s {int b;};`
second_struct_body : typed (names (codes "s" ∷ codes "a" ∷ codes "b" ∷ [])) ((src.Declared (src.OfDeclaration None (tree.OfSpecs tree.NoQualifiers (tree.StructBody (Some (record { name = 8; from = 7; to = 8 })) (tree.ConsMember (tree.OfMember (tree.OfSpecs tree.NoQualifiers (tree.Words (word.Int ∷ []) 10 13) tree.NoQualifiers 10 13) (tree.ConsDeclarator (tree.Named 9 14 15) tree.NoDeclarators) 10 16) tree.NoMembers) 0 17) tree.NoQualifiers 0 17) [] 0 18) 0 18) ∷ (src.Declared (src.OfDeclaration None (tree.OfSpecs tree.NoQualifiers (tree.StructBody (Some (record { name = 8; from = 26; to = 27 })) (tree.ConsMember (tree.OfMember (tree.OfSpecs tree.NoQualifiers (tree.Words (word.Int ∷ []) 29 32) tree.NoQualifiers 29 32) (tree.ConsDeclarator (tree.Named 10 33 34) tree.NoDeclarators) 29 35) tree.NoMembers) 19 36) tree.NoQualifiers 19 36) [] 19 37) 19 37) ∷ []) ≡ breaks_at C2 26
unfolding computing
second_struct_body = refl

-- `enum e {a}; enum e {b};`
second_enum_body : typed (names (codes "e" ∷ codes "a" ∷ codes "b" ∷ [])) ((src.Declared (src.OfDeclaration None (tree.OfSpecs tree.NoQualifiers (tree.EnumBody (Some (record { name = 8; from = 5; to = 6 })) (tree.ConsEnumerator (tree.OfEnumerator 9 tree.NoExpr 8 9) tree.NoEnumerators) 0 10) tree.NoQualifiers 0 10) [] 0 11) 0 11) ∷ (src.Declared (src.OfDeclaration None (tree.OfSpecs tree.NoQualifiers (tree.EnumBody (Some (record { name = 8; from = 17; to = 18 })) (tree.ConsEnumerator (tree.OfEnumerator 10 tree.NoExpr 20 21) tree.NoEnumerators) 12 22) tree.NoQualifiers 12 22) [] 12 23) 12 23) ∷ []) ≡ breaks_at C2 17
unfolding computing
second_enum_body = refl

-- `int EOF;⏎#include <stdio.h>⏎`
name_of_a_header : typed (names (codes "EOF" ∷ [])) ((src.Declared (src.OfDeclaration None (tree.OfSpecs tree.NoQualifiers (tree.Words (word.Int ∷ []) 0 3) tree.NoQualifiers 0 3) ((src.OfInitDeclarator (tree.Named 8 4 7) None 4 7) ∷ []) 0 8) 0 8) ∷ (src.Included include.Stdio 9 27) ∷ []) ≡ breaks_at C2 9
unfolding computing
name_of_a_header = refl

-- `long putchar(int); int EOF;⏎#include <stdio.h>⏎`
header_twice_before_types : typed (names (codes "putchar" ∷ codes "EOF" ∷ [])) ((src.Declared (src.OfDeclaration None (tree.OfSpecs tree.NoQualifiers (tree.Words (word.Long ∷ []) 0 4) tree.NoQualifiers 0 4) ((src.OfInitDeclarator (tree.Function (tree.Named 8 5 12) (tree.Listed (tree.ConsParameter (tree.OfParameter (tree.OfSpecs tree.NoQualifiers (tree.Words (word.Int ∷ []) 13 16) tree.NoQualifiers 13 16) (tree.Absent 16 16) 13 16) tree.NoParameters) 13 16) 5 17) None 5 17) ∷ []) 0 18) 0 18) ∷ (src.Declared (src.OfDeclaration None (tree.OfSpecs tree.NoQualifiers (tree.Words (word.Int ∷ []) 19 22) tree.NoQualifiers 19 22) ((src.OfInitDeclarator (tree.Named 9 23 26) None 23 26) ∷ []) 19 27) 19 27) ∷ (src.Included include.Stdio 28 46) ∷ []) ≡ breaks_at C2 28
unfolding computing
header_twice_before_types = refl

-- `int a; typedef int a;`
typedef_of_an_object : typed (names (codes "a" ∷ [])) ((src.Declared (src.OfDeclaration None (tree.OfSpecs tree.NoQualifiers (tree.Words (word.Int ∷ []) 0 3) tree.NoQualifiers 0 3) ((src.OfInitDeclarator (tree.Named 8 4 5) None 4 5) ∷ []) 0 6) 0 6) ∷ (src.Declared (src.OfDeclaration (Some storage.Typedef) (tree.OfSpecs tree.NoQualifiers (tree.Words (word.Int ∷ []) 15 18) tree.NoQualifiers 15 18) ((src.OfInitDeclarator (tree.Named 8 19 20) None 19 20) ∷ []) 7 21) 7 21) ∷ []) ≡ breaks_at C2 19
unfolding computing
typedef_of_an_object = refl

-- `enum {a, a};`
enumerator_twice : typed (names (codes "a" ∷ [])) ((src.Declared (src.OfDeclaration None (tree.OfSpecs tree.NoQualifiers (tree.EnumBody None (tree.ConsEnumerator (tree.OfEnumerator 8 tree.NoExpr 6 7) (tree.ConsEnumerator (tree.OfEnumerator 8 tree.NoExpr 9 10) tree.NoEnumerators)) 0 11) tree.NoQualifiers 0 11) [] 0 12) 0 12) ∷ []) ≡ breaks_at C2 9
unfolding computing
enumerator_twice = refl

-- `void f(void){1 = 2;}`
number_on_the_left : typed (names (codes "f" ∷ [])) ((src.Defined (src.OfFunctionDefinition None (tree.OfSpecs tree.NoQualifiers (tree.Void 0 4) tree.NoQualifiers 0 4) (tree.Function (tree.Named 8 5 6) (tree.OnlyVoid 7 11) 5 12) (src.Compound (src.ConsBlockItem (src.StatementItem (src.Expression (Some (tree.Binary op.Assign (tree.Integer 1 true false false 13 14) (tree.Integer 2 true false false 17 18) 13 18)) 13 19) 13 19) src.NoBlockItems) 12 20) 0 20) 0 20) ∷ []) ≡ breaks_at C3 13
unfolding computing
number_on_the_left = refl

-- `int a[2]; void f(void){a = 0;}`
array_on_the_left : typed (names (codes "a" ∷ codes "f" ∷ [])) ((src.Declared (src.OfDeclaration None (tree.OfSpecs tree.NoQualifiers (tree.Words (word.Int ∷ []) 0 3) tree.NoQualifiers 0 3) ((src.OfInitDeclarator (tree.Array (tree.Named 8 4 5) (tree.SomeExpr (tree.Integer 2 true false false 6 7)) 4 8) None 4 8) ∷ []) 0 9) 0 9) ∷ (src.Defined (src.OfFunctionDefinition None (tree.OfSpecs tree.NoQualifiers (tree.Void 10 14) tree.NoQualifiers 10 14) (tree.Function (tree.Named 9 15 16) (tree.OnlyVoid 17 21) 15 22) (src.Compound (src.ConsBlockItem (src.StatementItem (src.Expression (Some (tree.Binary op.Assign (tree.Identifier 8 23 24) (tree.Integer 0 false false false 27 28) 23 28)) 23 29) 23 29) src.NoBlockItems) 22 30) 10 30) 10 30) ∷ []) ≡ breaks_at C3 23
unfolding computing
array_on_the_left = refl

-- `int f(int a){return &(a + 1);}`
address_of_a_value : typed (names (codes "f" ∷ codes "a" ∷ [])) ((src.Defined (src.OfFunctionDefinition None (tree.OfSpecs tree.NoQualifiers (tree.Words (word.Int ∷ []) 0 3) tree.NoQualifiers 0 3) (tree.Function (tree.Named 8 4 5) (tree.Listed (tree.ConsParameter (tree.OfParameter (tree.OfSpecs tree.NoQualifiers (tree.Words (word.Int ∷ []) 6 9) tree.NoQualifiers 6 9) (tree.Named 9 10 11) 6 11) tree.NoParameters) 6 11) 4 12) (src.Compound (src.ConsBlockItem (src.StatementItem (src.Return (Some (tree.Prefix prefix.Address (tree.Paren (tree.Binary op.Add (tree.Identifier 9 22 23) (tree.Integer 1 true false false 26 27) 22 27) 21 28) 20 28)) 13 29) 13 29) src.NoBlockItems) 12 30) 0 30) 0 30) ∷ []) ≡ breaks_at C3 20
unfolding computing
address_of_a_value = refl

-- `void f(void *p){*p = 1;}`
store_through_void : typed (names (codes "f" ∷ codes "p" ∷ [])) ((src.Defined (src.OfFunctionDefinition None (tree.OfSpecs tree.NoQualifiers (tree.Void 0 4) tree.NoQualifiers 0 4) (tree.Function (tree.Named 8 5 6) (tree.Listed (tree.ConsParameter (tree.OfParameter (tree.OfSpecs tree.NoQualifiers (tree.Void 7 11) tree.NoQualifiers 7 11) (tree.Pointer tree.NoQualifiers (tree.Named 9 13 14) 12 14) 7 14) tree.NoParameters) 7 14) 5 15) (src.Compound (src.ConsBlockItem (src.StatementItem (src.Expression (Some (tree.Binary op.Assign (tree.Prefix prefix.Indirection (tree.Identifier 9 17 18) 16 18) (tree.Integer 1 true false false 21 22) 16 22)) 16 23) 16 23) src.NoBlockItems) 15 24) 0 24) 0 24) ∷ []) ≡ breaks_at C3 16
unfolding computing
store_through_void = refl

-- `const int a = 1; void f(void){a = 2;}`
constant_written : typed (names (codes "a" ∷ codes "f" ∷ [])) ((src.Declared (src.OfDeclaration None (tree.OfSpecs (tree.ConsQualifier (tree.Const 0 5) tree.NoQualifiers) (tree.Words (word.Int ∷ []) 6 9) tree.NoQualifiers 0 9) ((src.OfInitDeclarator (tree.Named 8 10 11) (Some (src.Value (tree.Integer 1 true false false 14 15) 14 15)) 10 15) ∷ []) 0 16) 0 16) ∷ (src.Defined (src.OfFunctionDefinition None (tree.OfSpecs tree.NoQualifiers (tree.Void 17 21) tree.NoQualifiers 17 21) (tree.Function (tree.Named 9 22 23) (tree.OnlyVoid 24 28) 22 29) (src.Compound (src.ConsBlockItem (src.StatementItem (src.Expression (Some (tree.Binary op.Assign (tree.Identifier 8 30 31) (tree.Integer 2 true false false 34 35) 30 35)) 30 36) 30 36) src.NoBlockItems) 29 37) 17 37) 17 37) ∷ []) ≡ breaks_at C4 30
unfolding computing
constant_written = refl

-- `struct s {const int a;}; void f(struct s *p){p->a = 1;}`
constant_member_written : typed (names (codes "s" ∷ codes "a" ∷ codes "f" ∷ codes "p" ∷ [])) ((src.Declared (src.OfDeclaration None (tree.OfSpecs tree.NoQualifiers (tree.StructBody (Some (record { name = 8; from = 7; to = 8 })) (tree.ConsMember (tree.OfMember (tree.OfSpecs (tree.ConsQualifier (tree.Const 10 15) tree.NoQualifiers) (tree.Words (word.Int ∷ []) 16 19) tree.NoQualifiers 10 19) (tree.ConsDeclarator (tree.Named 9 20 21) tree.NoDeclarators) 10 22) tree.NoMembers) 0 23) tree.NoQualifiers 0 23) [] 0 24) 0 24) ∷ (src.Defined (src.OfFunctionDefinition None (tree.OfSpecs tree.NoQualifiers (tree.Void 25 29) tree.NoQualifiers 25 29) (tree.Function (tree.Named 10 30 31) (tree.Listed (tree.ConsParameter (tree.OfParameter (tree.OfSpecs tree.NoQualifiers (tree.StructTag (record { name = 8; from = 39; to = 40 }) 32 40) tree.NoQualifiers 32 40) (tree.Pointer tree.NoQualifiers (tree.Named 11 42 43) 41 43) 32 43) tree.NoParameters) 32 43) 30 44) (src.Compound (src.ConsBlockItem (src.StatementItem (src.Expression (Some (tree.Binary op.Assign (tree.Arrow (tree.Identifier 11 45 46) 9 45 49) (tree.Integer 1 true false false 52 53) 45 53)) 45 54) 45 54) src.NoBlockItems) 44 55) 25 55) 25 55) ∷ []) ≡ breaks_at C4 45
unfolding computing
constant_member_written = refl

-- `struct s {int a; const int b[2];}; struct t {struct s c;} x, y; void f(void){x = y;}`
constant_element_of_a_member_written : typed (names (codes "s" ∷ codes "a" ∷ codes "b" ∷ codes "t" ∷ codes "c" ∷ codes "x" ∷ codes "y" ∷ codes "f" ∷ [])) ((src.Declared (src.OfDeclaration None (tree.OfSpecs tree.NoQualifiers (tree.StructBody (Some (record { name = 8; from = 7; to = 8 })) (tree.ConsMember (tree.OfMember (tree.OfSpecs tree.NoQualifiers (tree.Words (word.Int ∷ []) 10 13) tree.NoQualifiers 10 13) (tree.ConsDeclarator (tree.Named 9 14 15) tree.NoDeclarators) 10 16) (tree.ConsMember (tree.OfMember (tree.OfSpecs (tree.ConsQualifier (tree.Const 17 22) tree.NoQualifiers) (tree.Words (word.Int ∷ []) 23 26) tree.NoQualifiers 17 26) (tree.ConsDeclarator (tree.Array (tree.Named 10 27 28) (tree.SomeExpr (tree.Integer 2 true false false 29 30)) 27 31) tree.NoDeclarators) 17 32) tree.NoMembers)) 0 33) tree.NoQualifiers 0 33) [] 0 34) 0 34) ∷ (src.Declared (src.OfDeclaration None (tree.OfSpecs tree.NoQualifiers (tree.StructBody (Some (record { name = 11; from = 42; to = 43 })) (tree.ConsMember (tree.OfMember (tree.OfSpecs tree.NoQualifiers (tree.StructTag (record { name = 8; from = 52; to = 53 }) 45 53) tree.NoQualifiers 45 53) (tree.ConsDeclarator (tree.Named 12 54 55) tree.NoDeclarators) 45 56) tree.NoMembers) 35 57) tree.NoQualifiers 35 57) ((src.OfInitDeclarator (tree.Named 13 58 59) None 58 59) ∷ (src.OfInitDeclarator (tree.Named 14 61 62) None 61 62) ∷ []) 35 63) 35 63) ∷ (src.Defined (src.OfFunctionDefinition None (tree.OfSpecs tree.NoQualifiers (tree.Void 64 68) tree.NoQualifiers 64 68) (tree.Function (tree.Named 15 69 70) (tree.OnlyVoid 71 75) 69 76) (src.Compound (src.ConsBlockItem (src.StatementItem (src.Expression (Some (tree.Binary op.Assign (tree.Identifier 13 77 78) (tree.Identifier 14 81 82) 77 82)) 77 83) 77 83) src.NoBlockItems) 76 84) 64 84) 64 84) ∷ []) ≡ breaks_at C4 77
unfolding computing
constant_element_of_a_member_written = refl

-- `const int a = 1; void f(void){a++;}`
constant_incremented : typed (names (codes "a" ∷ codes "f" ∷ [])) ((src.Declared (src.OfDeclaration None (tree.OfSpecs (tree.ConsQualifier (tree.Const 0 5) tree.NoQualifiers) (tree.Words (word.Int ∷ []) 6 9) tree.NoQualifiers 0 9) ((src.OfInitDeclarator (tree.Named 8 10 11) (Some (src.Value (tree.Integer 1 true false false 14 15) 14 15)) 10 15) ∷ []) 0 16) 0 16) ∷ (src.Defined (src.OfFunctionDefinition None (tree.OfSpecs tree.NoQualifiers (tree.Void 17 21) tree.NoQualifiers 17 21) (tree.Function (tree.Named 9 22 23) (tree.OnlyVoid 24 28) 22 29) (src.Compound (src.ConsBlockItem (src.StatementItem (src.Expression (Some (tree.Postfix step.Increment (tree.Identifier 8 30 31) 30 33)) 30 34) 30 34) src.NoBlockItems) 29 35) 17 35) 17 35) ∷ []) ≡ breaks_at C4 30
unfolding computing
constant_incremented = refl

-- `struct s {int a;} b; int f(void){return 1 + b;}`
struct_in_a_sum : typed (names (codes "s" ∷ codes "a" ∷ codes "b" ∷ codes "f" ∷ [])) ((src.Declared (src.OfDeclaration None (tree.OfSpecs tree.NoQualifiers (tree.StructBody (Some (record { name = 8; from = 7; to = 8 })) (tree.ConsMember (tree.OfMember (tree.OfSpecs tree.NoQualifiers (tree.Words (word.Int ∷ []) 10 13) tree.NoQualifiers 10 13) (tree.ConsDeclarator (tree.Named 9 14 15) tree.NoDeclarators) 10 16) tree.NoMembers) 0 17) tree.NoQualifiers 0 17) ((src.OfInitDeclarator (tree.Named 10 18 19) None 18 19) ∷ []) 0 20) 0 20) ∷ (src.Defined (src.OfFunctionDefinition None (tree.OfSpecs tree.NoQualifiers (tree.Words (word.Int ∷ []) 21 24) tree.NoQualifiers 21 24) (tree.Function (tree.Named 11 25 26) (tree.OnlyVoid 27 31) 25 32) (src.Compound (src.ConsBlockItem (src.StatementItem (src.Return (Some (tree.Binary op.Add (tree.Integer 1 true false false 40 41) (tree.Identifier 10 44 45) 40 45)) 33 46) 33 46) src.NoBlockItems) 32 47) 21 47) 21 47) ∷ []) ≡ breaks_at C5 40
unfolding computing
struct_in_a_sum = refl

-- `void f(void *p){p + 1;}`
arithmetic_on_void : typed (names (codes "f" ∷ codes "p" ∷ [])) ((src.Defined (src.OfFunctionDefinition None (tree.OfSpecs tree.NoQualifiers (tree.Void 0 4) tree.NoQualifiers 0 4) (tree.Function (tree.Named 8 5 6) (tree.Listed (tree.ConsParameter (tree.OfParameter (tree.OfSpecs tree.NoQualifiers (tree.Void 7 11) tree.NoQualifiers 7 11) (tree.Pointer tree.NoQualifiers (tree.Named 9 13 14) 12 14) 7 14) tree.NoParameters) 7 14) 5 15) (src.Compound (src.ConsBlockItem (src.StatementItem (src.Expression (Some (tree.Binary op.Add (tree.Identifier 9 16 17) (tree.Integer 1 true false false 20 21) 16 21)) 16 22) 16 22) src.NoBlockItems) 15 23) 0 23) 0 23) ∷ []) ≡ breaks_at C5 16
unfolding computing
arithmetic_on_void = refl

-- `void f(int *p){switch(p) ;}`
switch_on_a_pointer : typed (names (codes "f" ∷ codes "p" ∷ [])) ((src.Defined (src.OfFunctionDefinition None (tree.OfSpecs tree.NoQualifiers (tree.Void 0 4) tree.NoQualifiers 0 4) (tree.Function (tree.Named 8 5 6) (tree.Listed (tree.ConsParameter (tree.OfParameter (tree.OfSpecs tree.NoQualifiers (tree.Words (word.Int ∷ []) 7 10) tree.NoQualifiers 7 10) (tree.Pointer tree.NoQualifiers (tree.Named 9 12 13) 11 13) 7 13) tree.NoParameters) 7 13) 5 14) (src.Compound (src.ConsBlockItem (src.StatementItem (src.Switch (tree.Identifier 9 22 23) (src.Expression None 25 26) 15 26) 15 26) src.NoBlockItems) 14 27) 0 27) 0 27) ∷ []) ≡ breaks_at C5 15
unfolding computing
switch_on_a_pointer = refl

-- `int f(int *p){return p == 1;}`
pointer_and_number : typed (names (codes "f" ∷ codes "p" ∷ [])) ((src.Defined (src.OfFunctionDefinition None (tree.OfSpecs tree.NoQualifiers (tree.Words (word.Int ∷ []) 0 3) tree.NoQualifiers 0 3) (tree.Function (tree.Named 8 4 5) (tree.Listed (tree.ConsParameter (tree.OfParameter (tree.OfSpecs tree.NoQualifiers (tree.Words (word.Int ∷ []) 6 9) tree.NoQualifiers 6 9) (tree.Pointer tree.NoQualifiers (tree.Named 9 11 12) 10 12) 6 12) tree.NoParameters) 6 12) 4 13) (src.Compound (src.ConsBlockItem (src.StatementItem (src.Return (Some (tree.Binary op.Equal (tree.Identifier 9 21 22) (tree.Integer 1 true false false 26 27) 21 27)) 14 28) 14 28) src.NoBlockItems) 13 29) 0 29) 0 29) ∷ []) ≡ breaks_at C5 21
unfolding computing
pointer_and_number = refl

-- `int f(int a){return *a;}`
star_on_a_number : typed (names (codes "f" ∷ codes "a" ∷ [])) ((src.Defined (src.OfFunctionDefinition None (tree.OfSpecs tree.NoQualifiers (tree.Words (word.Int ∷ []) 0 3) tree.NoQualifiers 0 3) (tree.Function (tree.Named 8 4 5) (tree.Listed (tree.ConsParameter (tree.OfParameter (tree.OfSpecs tree.NoQualifiers (tree.Words (word.Int ∷ []) 6 9) tree.NoQualifiers 6 9) (tree.Named 9 10 11) 6 11) tree.NoParameters) 6 11) 4 12) (src.Compound (src.ConsBlockItem (src.StatementItem (src.Return (Some (tree.Prefix prefix.Indirection (tree.Identifier 9 21 22) 20 22)) 13 23) 13 23) src.NoBlockItems) 12 24) 0 24) 0 24) ∷ []) ≡ breaks_at C5 20
unfolding computing
star_on_a_number = refl

-- `void f(int *p){p -= p;}`
pointer_minus_a_pointer_stored : typed (names (codes "f" ∷ codes "p" ∷ [])) ((src.Defined (src.OfFunctionDefinition None (tree.OfSpecs tree.NoQualifiers (tree.Void 0 4) tree.NoQualifiers 0 4) (tree.Function (tree.Named 8 5 6) (tree.Listed (tree.ConsParameter (tree.OfParameter (tree.OfSpecs tree.NoQualifiers (tree.Words (word.Int ∷ []) 7 10) tree.NoQualifiers 7 10) (tree.Pointer tree.NoQualifiers (tree.Named 9 12 13) 11 13) 7 13) tree.NoParameters) 7 13) 5 14) (src.Compound (src.ConsBlockItem (src.StatementItem (src.Expression (Some (tree.Binary op.SubtractAssign (tree.Identifier 9 15 16) (tree.Identifier 9 20 21) 15 21)) 15 22) 15 22) src.NoBlockItems) 14 23) 0 23) 0 23) ∷ []) ≡ breaks_at C5 15
unfolding computing
pointer_minus_a_pointer_stored = refl

-- `void f(_Bool b, int *p){b += p;}`
pointer_added_to_a_truth : typed (names (codes "f" ∷ codes "b" ∷ codes "p" ∷ [])) ((src.Defined (src.OfFunctionDefinition None (tree.OfSpecs tree.NoQualifiers (tree.Void 0 4) tree.NoQualifiers 0 4) (tree.Function (tree.Named 8 5 6) (tree.Listed (tree.ConsParameter (tree.OfParameter (tree.OfSpecs tree.NoQualifiers (tree.Boolean 7 12) tree.NoQualifiers 7 12) (tree.Named 9 13 14) 7 14) (tree.ConsParameter (tree.OfParameter (tree.OfSpecs tree.NoQualifiers (tree.Words (word.Int ∷ []) 16 19) tree.NoQualifiers 16 19) (tree.Pointer tree.NoQualifiers (tree.Named 10 21 22) 20 22) 16 22) tree.NoParameters)) 7 22) 5 23) (src.Compound (src.ConsBlockItem (src.StatementItem (src.Expression (Some (tree.Binary op.AddAssign (tree.Identifier 9 24 25) (tree.Identifier 10 29 30) 24 30)) 24 31) 24 31) src.NoBlockItems) 23 32) 0 32) 0 32) ∷ []) ≡ breaks_at C5 24
unfolding computing
pointer_added_to_a_truth = refl

-- `void f(int a, int *p){a += p;}`
pointer_added_to_a_number : typed (names (codes "f" ∷ codes "a" ∷ codes "p" ∷ [])) ((src.Defined (src.OfFunctionDefinition None (tree.OfSpecs tree.NoQualifiers (tree.Void 0 4) tree.NoQualifiers 0 4) (tree.Function (tree.Named 8 5 6) (tree.Listed (tree.ConsParameter (tree.OfParameter (tree.OfSpecs tree.NoQualifiers (tree.Words (word.Int ∷ []) 7 10) tree.NoQualifiers 7 10) (tree.Named 9 11 12) 7 12) (tree.ConsParameter (tree.OfParameter (tree.OfSpecs tree.NoQualifiers (tree.Words (word.Int ∷ []) 14 17) tree.NoQualifiers 14 17) (tree.Pointer tree.NoQualifiers (tree.Named 10 19 20) 18 20) 14 20) tree.NoParameters)) 7 20) 5 21) (src.Compound (src.ConsBlockItem (src.StatementItem (src.Expression (Some (tree.Binary op.AddAssign (tree.Identifier 9 22 23) (tree.Identifier 10 27 28) 22 28)) 22 29) 22 29) src.NoBlockItems) 21 30) 0 30) 0 30) ∷ []) ≡ breaks_at C5 22
unfolding computing
pointer_added_to_a_number = refl

-- `int f(void){return f < f;}`
order_of_functions : typed (names (codes "f" ∷ [])) ((src.Defined (src.OfFunctionDefinition None (tree.OfSpecs tree.NoQualifiers (tree.Words (word.Int ∷ []) 0 3) tree.NoQualifiers 0 3) (tree.Function (tree.Named 8 4 5) (tree.OnlyVoid 6 10) 4 11) (src.Compound (src.ConsBlockItem (src.StatementItem (src.Return (Some (tree.Binary op.Less (tree.Identifier 8 19 20) (tree.Identifier 8 23 24) 19 24)) 12 25) 12 25) src.NoBlockItems) 11 26) 0 26) 0 26) ∷ []) ≡ breaks_at C5 19
unfolding computing
order_of_functions = refl

-- `struct s {int a;} b; void f(void){if (b) ;}`
struct_as_a_condition : typed (names (codes "s" ∷ codes "a" ∷ codes "b" ∷ codes "f" ∷ [])) ((src.Declared (src.OfDeclaration None (tree.OfSpecs tree.NoQualifiers (tree.StructBody (Some (record { name = 8; from = 7; to = 8 })) (tree.ConsMember (tree.OfMember (tree.OfSpecs tree.NoQualifiers (tree.Words (word.Int ∷ []) 10 13) tree.NoQualifiers 10 13) (tree.ConsDeclarator (tree.Named 9 14 15) tree.NoDeclarators) 10 16) tree.NoMembers) 0 17) tree.NoQualifiers 0 17) ((src.OfInitDeclarator (tree.Named 10 18 19) None 18 19) ∷ []) 0 20) 0 20) ∷ (src.Defined (src.OfFunctionDefinition None (tree.OfSpecs tree.NoQualifiers (tree.Void 21 25) tree.NoQualifiers 21 25) (tree.Function (tree.Named 11 26 27) (tree.OnlyVoid 28 32) 26 33) (src.Compound (src.ConsBlockItem (src.StatementItem (src.If (tree.Identifier 10 38 39) (src.Expression None 41 42) 34 42) 34 42) src.NoBlockItems) 33 43) 21 43) 21 43) ∷ []) ≡ breaks_at C6 34
unfolding computing
struct_as_a_condition = refl

-- `struct s {int a;} b; int f(void){return !b;}`
struct_negated : typed (names (codes "s" ∷ codes "a" ∷ codes "b" ∷ codes "f" ∷ [])) ((src.Declared (src.OfDeclaration None (tree.OfSpecs tree.NoQualifiers (tree.StructBody (Some (record { name = 8; from = 7; to = 8 })) (tree.ConsMember (tree.OfMember (tree.OfSpecs tree.NoQualifiers (tree.Words (word.Int ∷ []) 10 13) tree.NoQualifiers 10 13) (tree.ConsDeclarator (tree.Named 9 14 15) tree.NoDeclarators) 10 16) tree.NoMembers) 0 17) tree.NoQualifiers 0 17) ((src.OfInitDeclarator (tree.Named 10 18 19) None 18 19) ∷ []) 0 20) 0 20) ∷ (src.Defined (src.OfFunctionDefinition None (tree.OfSpecs tree.NoQualifiers (tree.Words (word.Int ∷ []) 21 24) tree.NoQualifiers 21 24) (tree.Function (tree.Named 11 25 26) (tree.OnlyVoid 27 31) 25 32) (src.Compound (src.ConsBlockItem (src.StatementItem (src.Return (Some (tree.Prefix prefix.Not (tree.Identifier 10 41 42) 40 42)) 33 43) 33 43) src.NoBlockItems) 32 44) 21 44) 21 44) ∷ []) ≡ breaks_at C6 40
unfolding computing
struct_negated = refl

-- `struct s {int a;} b; int f(void){return b && 1;}`
struct_in_a_conjunction : typed (names (codes "s" ∷ codes "a" ∷ codes "b" ∷ codes "f" ∷ [])) ((src.Declared (src.OfDeclaration None (tree.OfSpecs tree.NoQualifiers (tree.StructBody (Some (record { name = 8; from = 7; to = 8 })) (tree.ConsMember (tree.OfMember (tree.OfSpecs tree.NoQualifiers (tree.Words (word.Int ∷ []) 10 13) tree.NoQualifiers 10 13) (tree.ConsDeclarator (tree.Named 9 14 15) tree.NoDeclarators) 10 16) tree.NoMembers) 0 17) tree.NoQualifiers 0 17) ((src.OfInitDeclarator (tree.Named 10 18 19) None 18 19) ∷ []) 0 20) 0 20) ∷ (src.Defined (src.OfFunctionDefinition None (tree.OfSpecs tree.NoQualifiers (tree.Words (word.Int ∷ []) 21 24) tree.NoQualifiers 21 24) (tree.Function (tree.Named 11 25 26) (tree.OnlyVoid 27 31) 25 32) (src.Compound (src.ConsBlockItem (src.StatementItem (src.Return (Some (tree.Binary op.LogicalAnd (tree.Identifier 10 40 41) (tree.Integer 1 true false false 45 46) 40 46)) 33 47) 33 47) src.NoBlockItems) 32 48) 21 48) 21 48) ∷ []) ≡ breaks_at C6 40
unfolding computing
struct_in_a_conjunction = refl
