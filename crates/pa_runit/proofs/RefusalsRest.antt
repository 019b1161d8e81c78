-- Files that break the rules on labels, counts, structs, initializers and declarations again.
use Rattle.std.proofs.Common.{◌≡◌, true, false, [], ◌∷◌, Some, None, refl, codes}
use Rattle.pa_lex.specs.declared.token.Include.TheVariants as include
use Rattle.pa_tree.specs.declared.operator.BinaryOperator.TheVariants as op
use Rattle.pa_tree.specs.declared.operator.IntegerWord.TheVariants as word
use Rattle.pa_tree.specs.declared.file.Storage.TheVariants as storage
use Rattle.pa_tree.specs.Exprs as tree
use Rattle.pa_tree.specs.Stmts as src
use Rattle.pa_scope.specs.Answers.{breaks_at}
use Rattle.pa_scope.specs.declared.rule.TypeRule.TheVariants.{C20, C21, C22, C23, C24, C25, C26, C27}
use Rattle.pa_runit.specs.Units.{typed}
use Rattle.pa_runit.proofs.Computing.{computing}
use Rattle.pa_rexpr.proofs.Spelled.{names}

-- `int f(void){switch(1) case 1: { case 2: ; } return 0;}`
case_behind_a_case : typed (names (codes "f" ∷ [])) ((src.Defined (src.OfFunctionDefinition None (tree.OfSpecs tree.NoQualifiers (tree.Words (word.Int ∷ []) 0 3) tree.NoQualifiers 0 3) (tree.Function (tree.Named 8 4 5) (tree.OnlyVoid 6 10) 4 11) (src.Compound (src.ConsBlockItem (src.StatementItem (src.Switch (tree.Integer 1 true false false 19 20) (src.Case (tree.Integer 1 true false false 27 28) (src.Compound (src.ConsBlockItem (src.StatementItem (src.Case (tree.Integer 2 true false false 37 38) (src.Expression None 40 41) 32 41) 32 41) src.NoBlockItems) 30 43) 22 43) 12 43) 12 43) (src.ConsBlockItem (src.StatementItem (src.Return (Some (tree.Integer 0 false false false 51 52)) 44 53) 44 53) src.NoBlockItems)) 11 54) 0 54) 0 54) ∷ []) ≡ breaks_at C20 32
unfolding computing
case_behind_a_case = refl

-- `void f(void){break;}`
break_outside : typed (names (codes "f" ∷ [])) ((src.Defined (src.OfFunctionDefinition None (tree.OfSpecs tree.NoQualifiers (tree.Void 0 4) tree.NoQualifiers 0 4) (tree.Function (tree.Named 8 5 6) (tree.OnlyVoid 7 11) 5 12) (src.Compound (src.ConsBlockItem (src.StatementItem (src.Break 13 19) 13 19) src.NoBlockItems) 12 20) 0 20) 0 20) ∷ []) ≡ breaks_at C20 13
unfolding computing
break_outside = refl

-- `void f(void){case 1: ;}`
case_outside : typed (names (codes "f" ∷ [])) ((src.Defined (src.OfFunctionDefinition None (tree.OfSpecs tree.NoQualifiers (tree.Void 0 4) tree.NoQualifiers 0 4) (tree.Function (tree.Named 8 5 6) (tree.OnlyVoid 7 11) 5 12) (src.Compound (src.ConsBlockItem (src.StatementItem (src.Case (tree.Integer 1 true false false 18 19) (src.Expression None 21 22) 13 22) 13 22) src.NoBlockItems) 12 23) 0 23) 0 23) ∷ []) ≡ breaks_at C20 13
unfolding computing
case_outside = refl

-- `void f(int a){switch(a) { case 1: continue; }}`
continue_in_a_switch : typed (names (codes "f" ∷ codes "a" ∷ [])) ((src.Defined (src.OfFunctionDefinition None (tree.OfSpecs tree.NoQualifiers (tree.Void 0 4) tree.NoQualifiers 0 4) (tree.Function (tree.Named 8 5 6) (tree.Listed (tree.ConsParameter (tree.OfParameter (tree.OfSpecs tree.NoQualifiers (tree.Words (word.Int ∷ []) 7 10) tree.NoQualifiers 7 10) (tree.Named 9 11 12) 7 12) tree.NoParameters) 7 12) 5 13) (src.Compound (src.ConsBlockItem (src.StatementItem (src.Switch (tree.Identifier 9 21 22) (src.Compound (src.ConsBlockItem (src.StatementItem (src.Case (tree.Integer 1 true false false 31 32) (src.Continue 34 43) 26 43) 26 43) src.NoBlockItems) 24 45) 14 45) 14 45) src.NoBlockItems) 13 46) 0 46) 0 46) ∷ []) ≡ breaks_at C20 34
unfolding computing
continue_in_a_switch = refl

-- `void f(int a){switch(a) { { case 1: ; } }}`
case_in_an_inner_block : typed (names (codes "f" ∷ codes "a" ∷ [])) ((src.Defined (src.OfFunctionDefinition None (tree.OfSpecs tree.NoQualifiers (tree.Void 0 4) tree.NoQualifiers 0 4) (tree.Function (tree.Named 8 5 6) (tree.Listed (tree.ConsParameter (tree.OfParameter (tree.OfSpecs tree.NoQualifiers (tree.Words (word.Int ∷ []) 7 10) tree.NoQualifiers 7 10) (tree.Named 9 11 12) 7 12) tree.NoParameters) 7 12) 5 13) (src.Compound (src.ConsBlockItem (src.StatementItem (src.Switch (tree.Identifier 9 21 22) (src.Compound (src.ConsBlockItem (src.StatementItem (src.Compound (src.ConsBlockItem (src.StatementItem (src.Case (tree.Integer 1 true false false 33 34) (src.Expression None 36 37) 28 37) 28 37) src.NoBlockItems) 26 39) 26 39) src.NoBlockItems) 24 41) 14 41) 14 41) src.NoBlockItems) 13 42) 0 42) 0 42) ∷ []) ≡ breaks_at C20 28
unfolding computing
case_in_an_inner_block = refl

-- `void f(int a){switch(a) { case 1: ; case 1: ; }}`
case_twice : typed (names (codes "f" ∷ codes "a" ∷ [])) ((src.Defined (src.OfFunctionDefinition None (tree.OfSpecs tree.NoQualifiers (tree.Void 0 4) tree.NoQualifiers 0 4) (tree.Function (tree.Named 8 5 6) (tree.Listed (tree.ConsParameter (tree.OfParameter (tree.OfSpecs tree.NoQualifiers (tree.Words (word.Int ∷ []) 7 10) tree.NoQualifiers 7 10) (tree.Named 9 11 12) 7 12) tree.NoParameters) 7 12) 5 13) (src.Compound (src.ConsBlockItem (src.StatementItem (src.Switch (tree.Identifier 9 21 22) (src.Compound (src.ConsBlockItem (src.StatementItem (src.Case (tree.Integer 1 true false false 31 32) (src.Expression None 34 35) 26 35) 26 35) (src.ConsBlockItem (src.StatementItem (src.Case (tree.Integer 1 true false false 41 42) (src.Expression None 44 45) 36 45) 36 45) src.NoBlockItems)) 24 47) 14 47) 14 47) src.NoBlockItems) 13 48) 0 48) 0 48) ∷ []) ≡ breaks_at C21 36
unfolding computing
case_twice = refl

-- `void f(int a){switch(a) { case 1: case 1: ; }}`
case_twice_in_a_row : typed (names (codes "f" ∷ codes "a" ∷ [])) ((src.Defined (src.OfFunctionDefinition None (tree.OfSpecs tree.NoQualifiers (tree.Void 0 4) tree.NoQualifiers 0 4) (tree.Function (tree.Named 8 5 6) (tree.Listed (tree.ConsParameter (tree.OfParameter (tree.OfSpecs tree.NoQualifiers (tree.Words (word.Int ∷ []) 7 10) tree.NoQualifiers 7 10) (tree.Named 9 11 12) 7 12) tree.NoParameters) 7 12) 5 13) (src.Compound (src.ConsBlockItem (src.StatementItem (src.Switch (tree.Identifier 9 21 22) (src.Compound (src.ConsBlockItem (src.StatementItem (src.Case (tree.Integer 1 true false false 31 32) (src.Case (tree.Integer 1 true false false 39 40) (src.Expression None 42 43) 34 43) 26 43) 26 43) src.NoBlockItems) 24 45) 14 45) 14 45) src.NoBlockItems) 13 46) 0 46) 0 46) ∷ []) ≡ breaks_at C21 34
unfolding computing
case_twice_in_a_row = refl

-- `void f(int a){switch(a) { default: ; default: ; }}`
default_twice : typed (names (codes "f" ∷ codes "a" ∷ [])) ((src.Defined (src.OfFunctionDefinition None (tree.OfSpecs tree.NoQualifiers (tree.Void 0 4) tree.NoQualifiers 0 4) (tree.Function (tree.Named 8 5 6) (tree.Listed (tree.ConsParameter (tree.OfParameter (tree.OfSpecs tree.NoQualifiers (tree.Words (word.Int ∷ []) 7 10) tree.NoQualifiers 7 10) (tree.Named 9 11 12) 7 12) tree.NoParameters) 7 12) 5 13) (src.Compound (src.ConsBlockItem (src.StatementItem (src.Switch (tree.Identifier 9 21 22) (src.Compound (src.ConsBlockItem (src.StatementItem (src.Default (src.Expression None 35 36) 26 36) 26 36) (src.ConsBlockItem (src.StatementItem (src.Default (src.Expression None 46 47) 37 47) 37 47) src.NoBlockItems)) 24 49) 14 49) 14 49) src.NoBlockItems) 13 50) 0 50) 0 50) ∷ []) ≡ breaks_at C21 37
unfolding computing
default_twice = refl

-- `void f(int a){switch(a) { case 0: ; case 4294967296: ; }}`
case_twice_when_converted : typed (names (codes "f" ∷ codes "a" ∷ [])) ((src.Defined (src.OfFunctionDefinition None (tree.OfSpecs tree.NoQualifiers (tree.Void 0 4) tree.NoQualifiers 0 4) (tree.Function (tree.Named 8 5 6) (tree.Listed (tree.ConsParameter (tree.OfParameter (tree.OfSpecs tree.NoQualifiers (tree.Words (word.Int ∷ []) 7 10) tree.NoQualifiers 7 10) (tree.Named 9 11 12) 7 12) tree.NoParameters) 7 12) 5 13) (src.Compound (src.ConsBlockItem (src.StatementItem (src.Switch (tree.Identifier 9 21 22) (src.Compound (src.ConsBlockItem (src.StatementItem (src.Case (tree.Integer 0 false false false 31 32) (src.Expression None 34 35) 26 35) 26 35) (src.ConsBlockItem (src.StatementItem (src.Case (tree.Integer 4294967296 true false false 41 51) (src.Expression None 53 54) 36 54) 36 54) src.NoBlockItems)) 24 56) 14 56) 14 56) src.NoBlockItems) 13 57) 0 57) 0 57) ∷ []) ≡ breaks_at C21 36
unfolding computing
case_twice_when_converted = refl

-- `void f(int, int, int, int, int, int, int, int, int);`
nine_parameters : typed (names (codes "f" ∷ [])) ((src.Declared (src.OfDeclaration None (tree.OfSpecs tree.NoQualifiers (tree.Void 0 4) tree.NoQualifiers 0 4) ((src.OfInitDeclarator (tree.Function (tree.Named 8 5 6) (tree.Listed (tree.ConsParameter (tree.OfParameter (tree.OfSpecs tree.NoQualifiers (tree.Words (word.Int ∷ []) 7 10) tree.NoQualifiers 7 10) (tree.Absent 10 10) 7 10) (tree.ConsParameter (tree.OfParameter (tree.OfSpecs tree.NoQualifiers (tree.Words (word.Int ∷ []) 12 15) tree.NoQualifiers 12 15) (tree.Absent 15 15) 12 15) (tree.ConsParameter (tree.OfParameter (tree.OfSpecs tree.NoQualifiers (tree.Words (word.Int ∷ []) 17 20) tree.NoQualifiers 17 20) (tree.Absent 20 20) 17 20) (tree.ConsParameter (tree.OfParameter (tree.OfSpecs tree.NoQualifiers (tree.Words (word.Int ∷ []) 22 25) tree.NoQualifiers 22 25) (tree.Absent 25 25) 22 25) (tree.ConsParameter (tree.OfParameter (tree.OfSpecs tree.NoQualifiers (tree.Words (word.Int ∷ []) 27 30) tree.NoQualifiers 27 30) (tree.Absent 30 30) 27 30) (tree.ConsParameter (tree.OfParameter (tree.OfSpecs tree.NoQualifiers (tree.Words (word.Int ∷ []) 32 35) tree.NoQualifiers 32 35) (tree.Absent 35 35) 32 35) (tree.ConsParameter (tree.OfParameter (tree.OfSpecs tree.NoQualifiers (tree.Words (word.Int ∷ []) 37 40) tree.NoQualifiers 37 40) (tree.Absent 40 40) 37 40) (tree.ConsParameter (tree.OfParameter (tree.OfSpecs tree.NoQualifiers (tree.Words (word.Int ∷ []) 42 45) tree.NoQualifiers 42 45) (tree.Absent 45 45) 42 45) (tree.ConsParameter (tree.OfParameter (tree.OfSpecs tree.NoQualifiers (tree.Words (word.Int ∷ []) 47 50) tree.NoQualifiers 47 50) (tree.Absent 50 50) 47 50) tree.NoParameters))))))))) 7 50) 5 51) None 5 51) ∷ []) 0 52) 0 52) ∷ []) ≡ breaks_at C22 5
unfolding computing
nine_parameters = refl

-- `struct s {int a;}; void f(struct s p);`
struct_parameter : typed (names (codes "s" ∷ codes "a" ∷ codes "f" ∷ codes "p" ∷ [])) ((src.Declared (src.OfDeclaration None (tree.OfSpecs tree.NoQualifiers (tree.StructBody (Some (record { name = 8; from = 7; to = 8 })) (tree.ConsMember (tree.OfMember (tree.OfSpecs tree.NoQualifiers (tree.Words (word.Int ∷ []) 10 13) tree.NoQualifiers 10 13) (tree.ConsDeclarator (tree.Named 9 14 15) tree.NoDeclarators) 10 16) tree.NoMembers) 0 17) tree.NoQualifiers 0 17) [] 0 18) 0 18) ∷ (src.Declared (src.OfDeclaration None (tree.OfSpecs tree.NoQualifiers (tree.Void 19 23) tree.NoQualifiers 19 23) ((src.OfInitDeclarator (tree.Function (tree.Named 10 24 25) (tree.Listed (tree.ConsParameter (tree.OfParameter (tree.OfSpecs tree.NoQualifiers (tree.StructTag (record { name = 8; from = 33; to = 34 }) 26 34) tree.NoQualifiers 26 34) (tree.Named 11 35 36) 26 36) tree.NoParameters) 26 36) 24 37) None 24 37) ∷ []) 19 38) 19 38) ∷ []) ≡ breaks_at C23 26
unfolding computing
struct_parameter = refl

-- `struct s {int a;}; struct s f(void);`
struct_result : typed (names (codes "s" ∷ codes "a" ∷ codes "f" ∷ [])) ((src.Declared (src.OfDeclaration None (tree.OfSpecs tree.NoQualifiers (tree.StructBody (Some (record { name = 8; from = 7; to = 8 })) (tree.ConsMember (tree.OfMember (tree.OfSpecs tree.NoQualifiers (tree.Words (word.Int ∷ []) 10 13) tree.NoQualifiers 10 13) (tree.ConsDeclarator (tree.Named 9 14 15) tree.NoDeclarators) 10 16) tree.NoMembers) 0 17) tree.NoQualifiers 0 17) [] 0 18) 0 18) ∷ (src.Declared (src.OfDeclaration None (tree.OfSpecs tree.NoQualifiers (tree.StructTag (record { name = 8; from = 26; to = 27 }) 19 27) tree.NoQualifiers 19 27) ((src.OfInitDeclarator (tree.Function (tree.Named 10 28 29) (tree.OnlyVoid 30 34) 28 35) None 28 35) ∷ []) 19 36) 19 36) ∷ []) ≡ breaks_at C23 28
unfolding computing
struct_result = refl

-- `struct s {int a;} a, b; void f(void){a = b;}`
struct_assigned : typed (names (codes "s" ∷ codes "a" ∷ codes "b" ∷ codes "f" ∷ [])) ((src.Declared (src.OfDeclaration None (tree.OfSpecs tree.NoQualifiers (tree.StructBody (Some (record { name = 8; from = 7; to = 8 })) (tree.ConsMember (tree.OfMember (tree.OfSpecs tree.NoQualifiers (tree.Words (word.Int ∷ []) 10 13) tree.NoQualifiers 10 13) (tree.ConsDeclarator (tree.Named 9 14 15) tree.NoDeclarators) 10 16) tree.NoMembers) 0 17) tree.NoQualifiers 0 17) ((src.OfInitDeclarator (tree.Named 9 18 19) None 18 19) ∷ (src.OfInitDeclarator (tree.Named 10 21 22) None 21 22) ∷ []) 0 23) 0 23) ∷ (src.Defined (src.OfFunctionDefinition None (tree.OfSpecs tree.NoQualifiers (tree.Void 24 28) tree.NoQualifiers 24 28) (tree.Function (tree.Named 11 29 30) (tree.OnlyVoid 31 35) 29 36) (src.Compound (src.ConsBlockItem (src.StatementItem (src.Expression (Some (tree.Binary op.Assign (tree.Identifier 9 37 38) (tree.Identifier 10 41 42) 37 42)) 37 43) 37 43) src.NoBlockItems) 36 44) 24 44) 24 44) ∷ []) ≡ breaks_at C23 37
unfolding computing
struct_assigned = refl

-- `struct s {int a;} a; void f(void){struct s b = a;}`
struct_initialized : typed (names (codes "s" ∷ codes "a" ∷ codes "f" ∷ codes "b" ∷ [])) ((src.Declared (src.OfDeclaration None (tree.OfSpecs tree.NoQualifiers (tree.StructBody (Some (record { name = 8; from = 7; to = 8 })) (tree.ConsMember (tree.OfMember (tree.OfSpecs tree.NoQualifiers (tree.Words (word.Int ∷ []) 10 13) tree.NoQualifiers 10 13) (tree.ConsDeclarator (tree.Named 9 14 15) tree.NoDeclarators) 10 16) tree.NoMembers) 0 17) tree.NoQualifiers 0 17) ((src.OfInitDeclarator (tree.Named 9 18 19) None 18 19) ∷ []) 0 20) 0 20) ∷ (src.Defined (src.OfFunctionDefinition None (tree.OfSpecs tree.NoQualifiers (tree.Void 21 25) tree.NoQualifiers 21 25) (tree.Function (tree.Named 10 26 27) (tree.OnlyVoid 28 32) 26 33) (src.Compound (src.ConsBlockItem (src.DeclarationItem (src.OfBlockDeclaration (tree.OfSpecs tree.NoQualifiers (tree.StructTag (record { name = 8; from = 41; to = 42 }) 34 42) tree.NoQualifiers 34 42) ((src.OfInitDeclarator (tree.Named 11 43 44) (Some (src.Value (tree.Identifier 9 47 48) 47 48)) 43 48) ∷ []) 34 49) 34 49) src.NoBlockItems) 33 50) 21 50) 21 50) ∷ []) ≡ breaks_at C23 47
unfolding computing
struct_initialized = refl

-- `int f(void){return ptrauth_strip(0);}`
reserved_name : typed (names (codes "f" ∷ codes "ptrauth_strip" ∷ [])) ((src.Defined (src.OfFunctionDefinition None (tree.OfSpecs tree.NoQualifiers (tree.Words (word.Int ∷ []) 0 3) tree.NoQualifiers 0 3) (tree.Function (tree.Named 8 4 5) (tree.OnlyVoid 6 10) 4 11) (src.Compound (src.ConsBlockItem (src.StatementItem (src.Return (Some (tree.Call (tree.Identifier 9 19 32) (tree.ConsExpr (tree.Integer 0 false false false 33 34) tree.NoExprs) 19 35)) 12 36) 12 36) src.NoBlockItems) 11 37) 0 37) 0 37) ∷ []) ≡ breaks_at C24 19
unfolding computing
reserved_name = refl

-- `int ptrauth_a; int f(void){return ptrauth_a;}`
reserved_name_declared : typed (names (codes "ptrauth_a" ∷ codes "f" ∷ [])) ((src.Declared (src.OfDeclaration None (tree.OfSpecs tree.NoQualifiers (tree.Words (word.Int ∷ []) 0 3) tree.NoQualifiers 0 3) ((src.OfInitDeclarator (tree.Named 8 4 13) None 4 13) ∷ []) 0 14) 0 14) ∷ (src.Defined (src.OfFunctionDefinition None (tree.OfSpecs tree.NoQualifiers (tree.Words (word.Int ∷ []) 15 18) tree.NoQualifiers 15 18) (tree.Function (tree.Named 9 19 20) (tree.OnlyVoid 21 25) 19 26) (src.Compound (src.ConsBlockItem (src.StatementItem (src.Return (Some (tree.Identifier 8 34 43)) 27 44) 27 44) src.NoBlockItems) 26 45) 15 45) 15 45) ∷ []) ≡ breaks_at C24 34
unfolding computing
reserved_name_declared = refl

-- `#include <ptrauth.h>⏎int f(void){return ptrauth_string_discriminator(1);}`
discriminator_of_a_number : typed (names (codes "f" ∷ codes "ptrauth_string_discriminator" ∷ [])) ((src.Included include.Ptrauth 0 20) ∷ (src.Defined (src.OfFunctionDefinition None (tree.OfSpecs tree.NoQualifiers (tree.Words (word.Int ∷ []) 21 24) tree.NoQualifiers 21 24) (tree.Function (tree.Named 8 25 26) (tree.OnlyVoid 27 31) 25 32) (src.Compound (src.ConsBlockItem (src.StatementItem (src.Return (Some (tree.Call (tree.Identifier 9 40 68) (tree.ConsExpr (tree.Integer 1 true false false 69 70) tree.NoExprs) 40 71)) 33 72) 33 72) src.NoBlockItems) 32 73) 21 73) 21 73) ∷ []) ≡ breaks_at C24 40
unfolding computing
discriminator_of_a_number = refl

-- `#include <ptrauth.h>⏎int f(void){return ptrauth_string_discriminator;}`
discriminator_not_called : typed (names (codes "f" ∷ codes "ptrauth_string_discriminator" ∷ [])) ((src.Included include.Ptrauth 0 20) ∷ (src.Defined (src.OfFunctionDefinition None (tree.OfSpecs tree.NoQualifiers (tree.Words (word.Int ∷ []) 21 24) tree.NoQualifiers 21 24) (tree.Function (tree.Named 8 25 26) (tree.OnlyVoid 27 31) 25 32) (src.Compound (src.ConsBlockItem (src.StatementItem (src.Return (Some (tree.Identifier 9 40 68)) 33 69) 33 69) src.NoBlockItems) 32 70) 21 70) 21 70) ∷ []) ≡ breaks_at C24 40
unfolding computing
discriminator_not_called = refl

-- `typedef int ptrauth_t; ptrauth_t x;`
reserved_type_name : typed (names (codes "ptrauth_t" ∷ codes "x" ∷ [])) ((src.Declared (src.OfDeclaration (Some storage.Typedef) (tree.OfSpecs tree.NoQualifiers (tree.Words (word.Int ∷ []) 8 11) tree.NoQualifiers 8 11) ((src.OfInitDeclarator (tree.Named 8 12 21) None 12 21) ∷ []) 0 22) 0 22) ∷ (src.Declared (src.OfDeclaration None (tree.OfSpecs tree.NoQualifiers (tree.TypedefName 8 23 32) tree.NoQualifiers 23 32) ((src.OfInitDeclarator (tree.Named 9 33 34) None 33 34) ∷ []) 23 35) 23 35) ∷ []) ≡ breaks_at C24 23
unfolding computing
reserved_type_name = refl

-- `int a[2] = {1, 2, 3};`
too_many_items : typed (names (codes "a" ∷ [])) ((src.Declared (src.OfDeclaration None (tree.OfSpecs tree.NoQualifiers (tree.Words (word.Int ∷ []) 0 3) tree.NoQualifiers 0 3) ((src.OfInitDeclarator (tree.Array (tree.Named 8 4 5) (tree.SomeExpr (tree.Integer 2 true false false 6 7)) 4 8) (Some (src.Braced (src.ConsInitializer (src.Value (tree.Integer 1 true false false 12 13) 12 13) (src.ConsInitializer (src.Value (tree.Integer 2 true false false 15 16) 15 16) (src.ConsInitializer (src.Value (tree.Integer 3 true false false 18 19) 18 19) src.NoInitializers))) 11 20)) 4 20) ∷ []) 0 21) 0 21) ∷ []) ≡ breaks_at C25 11
unfolding computing
too_many_items = refl

-- `char a[2] = "abc";`
string_too_long : typed (names (codes "a" ∷ [])) ((src.Declared (src.OfDeclaration None (tree.OfSpecs tree.NoQualifiers (tree.Words (word.Char ∷ []) 0 4) tree.NoQualifiers 0 4) ((src.OfInitDeclarator (tree.Array (tree.Named 8 5 6) (tree.SomeExpr (tree.Integer 2 true false false 7 8)) 5 9) (Some (src.Value (tree.Text (97 ∷ 98 ∷ 99 ∷ []) 12 17) 12 17)) 5 17) ∷ []) 0 18) 0 18) ∷ []) ≡ breaks_at C25 12
unfolding computing
string_too_long = refl

-- `int a = {1, 2};`
two_items_for_a_number : typed (names (codes "a" ∷ [])) ((src.Declared (src.OfDeclaration None (tree.OfSpecs tree.NoQualifiers (tree.Words (word.Int ∷ []) 0 3) tree.NoQualifiers 0 3) ((src.OfInitDeclarator (tree.Named 8 4 5) (Some (src.Braced (src.ConsInitializer (src.Value (tree.Integer 1 true false false 9 10) 9 10) (src.ConsInitializer (src.Value (tree.Integer 2 true false false 12 13) 12 13) src.NoInitializers)) 8 14)) 4 14) ∷ []) 0 15) 0 15) ∷ []) ≡ breaks_at C25 8
unfolding computing
two_items_for_a_number = refl

-- `int a; long a;`
other_type : typed (names (codes "a" ∷ [])) ((src.Declared (src.OfDeclaration None (tree.OfSpecs tree.NoQualifiers (tree.Words (word.Int ∷ []) 0 3) tree.NoQualifiers 0 3) ((src.OfInitDeclarator (tree.Named 8 4 5) None 4 5) ∷ []) 0 6) 0 6) ∷ (src.Declared (src.OfDeclaration None (tree.OfSpecs tree.NoQualifiers (tree.Words (word.Long ∷ []) 7 11) tree.NoQualifiers 7 11) ((src.OfInitDeclarator (tree.Named 8 12 13) None 12 13) ∷ []) 7 14) 7 14) ∷ []) ≡ breaks_at C26 12
unfolding computing
other_type = refl

-- `int f(int); int f(long);`
other_function_type : typed (names (codes "f" ∷ [])) ((src.Declared (src.OfDeclaration None (tree.OfSpecs tree.NoQualifiers (tree.Words (word.Int ∷ []) 0 3) tree.NoQualifiers 0 3) ((src.OfInitDeclarator (tree.Function (tree.Named 8 4 5) (tree.Listed (tree.ConsParameter (tree.OfParameter (tree.OfSpecs tree.NoQualifiers (tree.Words (word.Int ∷ []) 6 9) tree.NoQualifiers 6 9) (tree.Absent 9 9) 6 9) tree.NoParameters) 6 9) 4 10) None 4 10) ∷ []) 0 11) 0 11) ∷ (src.Declared (src.OfDeclaration None (tree.OfSpecs tree.NoQualifiers (tree.Words (word.Int ∷ []) 12 15) tree.NoQualifiers 12 15) ((src.OfInitDeclarator (tree.Function (tree.Named 8 16 17) (tree.Listed (tree.ConsParameter (tree.OfParameter (tree.OfSpecs tree.NoQualifiers (tree.Words (word.Long ∷ []) 18 22) tree.NoQualifiers 18 22) (tree.Absent 22 22) 18 22) tree.NoParameters) 18 22) 16 23) None 16 23) ∷ []) 12 24) 12 24) ∷ []) ≡ breaks_at C26 16
unfolding computing
other_function_type = refl

-- `long putchar(int);⏎#include <stdio.h>⏎`
other_type_of_a_header : typed (names (codes "putchar" ∷ [])) ((src.Declared (src.OfDeclaration None (tree.OfSpecs tree.NoQualifiers (tree.Words (word.Long ∷ []) 0 4) tree.NoQualifiers 0 4) ((src.OfInitDeclarator (tree.Function (tree.Named 8 5 12) (tree.Listed (tree.ConsParameter (tree.OfParameter (tree.OfSpecs tree.NoQualifiers (tree.Words (word.Int ∷ []) 13 16) tree.NoQualifiers 13 16) (tree.Absent 16 16) 13 16) tree.NoParameters) 13 16) 5 17) None 5 17) ∷ []) 0 18) 0 18) ∷ (src.Included include.Stdio 19 37) ∷ []) ≡ breaks_at C26 19
unfolding computing
other_type_of_a_header = refl

-- `int a[2]; int a[] = {1, 2};`
length_first : typed (names (codes "a" ∷ [])) ((src.Declared (src.OfDeclaration None (tree.OfSpecs tree.NoQualifiers (tree.Words (word.Int ∷ []) 0 3) tree.NoQualifiers 0 3) ((src.OfInitDeclarator (tree.Array (tree.Named 8 4 5) (tree.SomeExpr (tree.Integer 2 true false false 6 7)) 4 8) None 4 8) ∷ []) 0 9) 0 9) ∷ (src.Declared (src.OfDeclaration None (tree.OfSpecs tree.NoQualifiers (tree.Words (word.Int ∷ []) 10 13) tree.NoQualifiers 10 13) ((src.OfInitDeclarator (tree.Array (tree.Named 8 14 15) tree.NoExpr 14 17) (Some (src.Braced (src.ConsInitializer (src.Value (tree.Integer 1 true false false 21 22) 21 22) (src.ConsInitializer (src.Value (tree.Integer 2 true false false 24 25) 24 25) src.NoInitializers)) 20 26)) 14 26) ∷ []) 10 27) 10 27) ∷ []) ≡ breaks_at C26 14
unfolding computing
length_first = refl

-- `void f(void){return 1;}`
value_returned_from_void : typed (names (codes "f" ∷ [])) ((src.Defined (src.OfFunctionDefinition None (tree.OfSpecs tree.NoQualifiers (tree.Void 0 4) tree.NoQualifiers 0 4) (tree.Function (tree.Named 8 5 6) (tree.OnlyVoid 7 11) 5 12) (src.Compound (src.ConsBlockItem (src.StatementItem (src.Return (Some (tree.Integer 1 true false false 20 21)) 13 22) 13 22) src.NoBlockItems) 12 23) 0 23) 0 23) ∷ []) ≡ breaks_at C27 13
unfolding computing
value_returned_from_void = refl

-- `int f(void){return;}`
no_value_returned : typed (names (codes "f" ∷ [])) ((src.Defined (src.OfFunctionDefinition None (tree.OfSpecs tree.NoQualifiers (tree.Words (word.Int ∷ []) 0 3) tree.NoQualifiers 0 3) (tree.Function (tree.Named 8 4 5) (tree.OnlyVoid 6 10) 4 11) (src.Compound (src.ConsBlockItem (src.StatementItem (src.Return None 12 19) 12 19) src.NoBlockItems) 11 20) 0 20) 0 20) ∷ []) ≡ breaks_at C27 12
unfolding computing
no_value_returned = refl
