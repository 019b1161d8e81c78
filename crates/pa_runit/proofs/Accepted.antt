-- Files that keep all rules: declarations, constants, initializers, pointers to functions.
use Rattle.std.proofs.Common.{◌≡◌, pos, Bool, true, false, [], ◌∷◌, Some, None, Ok, Err, refl, codes}
use Rattle.pa_lex.specs.declared.token.Include.TheVariants as include
use Rattle.pa_tree.specs.declared.operator.PrefixOperator.TheVariants as prefix
use Rattle.pa_tree.specs.declared.operator.BinaryOperator.TheVariants as op
use Rattle.pa_tree.specs.declared.operator.IntegerWord.TheVariants as word
use Rattle.pa_tree.specs.declared.file.Storage.TheVariants as storage
use Rattle.pa_tree.specs.Exprs as tree
use Rattle.pa_tree.specs.Stmts as src
use Rattle.pa_tree.specs.Stmts.{FileTree}
use Rattle.pa_scope.specs.Answers.{Answer}
use Rattle.pa_typed.specs.Units.{UnitTree}
use Rattle.pa_runit.specs.Units.{typed}
use Rattle.pa_runit.proofs.Computing.{computing}
use Rattle.pa_rexpr.proofs.Spelled.{names}

abbrev keeps_the_rules : Answer UnitTree → Bool
keeps_the_rules (Ok u) = true
keeps_the_rules (Err b) = false

-- #include <stdio.h>
-- #include <ptrauth.h>
-- struct op { int key; int (* __ptrauth(ptrauth_key_function_pointer, 1, ptrauth_string_discriminator("cb")) run)(int); };
-- static int same(int c) { return c; }
-- static int next(int c) { return c + 1; }
-- static struct op table[2] = { { 's', same }, { 'n', next } };
-- int main(void) {
--     int c = getchar();
--     while (c != EOF) {
--         int i;
--         for (i = 0; i < 2; i = i + 1)
--             if (table[i].key == c) putchar(table[i].run('A'));
--         c = getchar();
--     }
--     return 0;
-- }
callback_table : keeps_the_rules (typed (names (codes "op" ∷ codes "key" ∷ codes "ptrauth_key_function_pointer" ∷ codes "ptrauth_string_discriminator" ∷ codes "run" ∷ codes "same" ∷ codes "c" ∷ codes "next" ∷ codes "table" ∷ codes "main" ∷ codes "getchar" ∷ codes "EOF" ∷ codes "i" ∷ codes "putchar" ∷ [])) ((src.Included include.Stdio 0 18) ∷ (src.Included include.Ptrauth 19 39) ∷ (src.Declared (src.OfDeclaration None (tree.OfSpecs tree.NoQualifiers (tree.StructBody (Some (record { name = 8; from = 47; to = 49 })) (tree.ConsMember (tree.OfMember (tree.OfSpecs tree.NoQualifiers (tree.Words (word.Int ∷ []) 52 55) tree.NoQualifiers 52 55) (tree.ConsDeclarator (tree.Named 9 56 59) tree.NoDeclarators) 52 60) (tree.ConsMember (tree.OfMember (tree.OfSpecs tree.NoQualifiers (tree.Words (word.Int ∷ []) 61 64) tree.NoQualifiers 61 64) (tree.ConsDeclarator (tree.Function (tree.Grouped (tree.Pointer (tree.ConsQualifier (tree.Ptrauth (tree.ConsExpr (tree.Identifier 10 78 106) (tree.ConsExpr (tree.Integer 1 true false false 108 109) (tree.ConsExpr (tree.Call (tree.Identifier 11 111 139) (tree.ConsExpr (tree.Text (99 ∷ 98 ∷ []) 140 144) tree.NoExprs) 111 145) tree.NoExprs))) 68 146) tree.NoQualifiers) (tree.Named 12 147 150) 66 150) 65 151) (tree.Listed (tree.ConsParameter (tree.OfParameter (tree.OfSpecs tree.NoQualifiers (tree.Words (word.Int ∷ []) 152 155) tree.NoQualifiers 152 155) (tree.Absent 155 155) 152 155) tree.NoParameters) 152 155) 65 156) tree.NoDeclarators) 61 157) tree.NoMembers)) 40 159) tree.NoQualifiers 40 159) [] 40 160) 40 160) ∷ (src.Defined (src.OfFunctionDefinition (Some storage.Static) (tree.OfSpecs tree.NoQualifiers (tree.Words (word.Int ∷ []) 168 171) tree.NoQualifiers 168 171) (tree.Function (tree.Named 13 172 176) (tree.Listed (tree.ConsParameter (tree.OfParameter (tree.OfSpecs tree.NoQualifiers (tree.Words (word.Int ∷ []) 177 180) tree.NoQualifiers 177 180) (tree.Named 14 181 182) 177 182) tree.NoParameters) 177 182) 172 183) (src.Compound (src.ConsBlockItem (src.StatementItem (src.Return (Some (tree.Identifier 14 193 194)) 186 195) 186 195) src.NoBlockItems) 184 197) 161 197) 161 197) ∷ (src.Defined (src.OfFunctionDefinition (Some storage.Static) (tree.OfSpecs tree.NoQualifiers (tree.Words (word.Int ∷ []) 205 208) tree.NoQualifiers 205 208) (tree.Function (tree.Named 15 209 213) (tree.Listed (tree.ConsParameter (tree.OfParameter (tree.OfSpecs tree.NoQualifiers (tree.Words (word.Int ∷ []) 214 217) tree.NoQualifiers 214 217) (tree.Named 14 218 219) 214 219) tree.NoParameters) 214 219) 209 220) (src.Compound (src.ConsBlockItem (src.StatementItem (src.Return (Some (tree.Binary op.Add (tree.Identifier 14 230 231) (tree.Integer 1 true false false 234 235) 230 235)) 223 236) 223 236) src.NoBlockItems) 221 238) 198 238) 198 238) ∷ (src.Declared (src.OfDeclaration (Some storage.Static) (tree.OfSpecs tree.NoQualifiers (tree.StructTag (record { name = 8; from = 253; to = 255 }) 246 255) tree.NoQualifiers 246 255) ((src.OfInitDeclarator (tree.Array (tree.Named 16 256 261) (tree.SomeExpr (tree.Integer 2 true false false 262 263)) 256 264) (Some (src.Braced (src.ConsInitializer (src.Braced (src.ConsInitializer (src.Value (tree.Character (pos 115) 271 274) 271 274) (src.ConsInitializer (src.Value (tree.Identifier 13 276 280) 276 280) src.NoInitializers)) 269 282) (src.ConsInitializer (src.Braced (src.ConsInitializer (src.Value (tree.Character (pos 110) 286 289) 286 289) (src.ConsInitializer (src.Value (tree.Identifier 15 291 295) 291 295) src.NoInitializers)) 284 297) src.NoInitializers)) 267 299)) 256 299) ∷ []) 239 300) 239 300) ∷ (src.Defined (src.OfFunctionDefinition None (tree.OfSpecs tree.NoQualifiers (tree.Words (word.Int ∷ []) 301 304) tree.NoQualifiers 301 304) (tree.Function (tree.Named 17 305 309) (tree.OnlyVoid 310 314) 305 315) (src.Compound (src.ConsBlockItem (src.DeclarationItem (src.OfBlockDeclaration (tree.OfSpecs tree.NoQualifiers (tree.Words (word.Int ∷ []) 322 325) tree.NoQualifiers 322 325) ((src.OfInitDeclarator (tree.Named 14 326 327) (Some (src.Value (tree.Call (tree.Identifier 18 330 337) tree.NoExprs 330 339) 330 339)) 326 339) ∷ []) 322 340) 322 340) (src.ConsBlockItem (src.StatementItem (src.While (tree.Binary op.NotEqual (tree.Identifier 14 352 353) (tree.Identifier 19 357 360) 352 360) (src.Compound (src.ConsBlockItem (src.DeclarationItem (src.OfBlockDeclaration (tree.OfSpecs tree.NoQualifiers (tree.Words (word.Int ∷ []) 372 375) tree.NoQualifiers 372 375) ((src.OfInitDeclarator (tree.Named 20 376 377) None 376 377) ∷ []) 372 378) 372 378) (src.ConsBlockItem (src.StatementItem (src.For (src.Evaluates (Some (tree.Binary op.Assign (tree.Identifier 20 392 393) (tree.Integer 0 false false false 396 397) 392 397)) 392 398) (Some (tree.Binary op.Less (tree.Identifier 20 399 400) (tree.Integer 2 true false false 403 404) 399 404)) (Some (tree.Binary op.Assign (tree.Identifier 20 406 407) (tree.Binary op.Add (tree.Identifier 20 410 411) (tree.Integer 1 true false false 414 415) 410 415) 406 415)) (src.If (tree.Binary op.Equal (tree.Dot (tree.Index (tree.Identifier 16 433 438) (tree.Identifier 20 439 440) 433 441) 9 433 445) (tree.Identifier 14 449 450) 433 450) (src.Expression (Some (tree.Call (tree.Identifier 21 452 459) (tree.ConsExpr (tree.Call (tree.Dot (tree.Index (tree.Identifier 16 460 465) (tree.Identifier 20 466 467) 460 468) 12 460 472) (tree.ConsExpr (tree.Character (pos 65) 473 476) tree.NoExprs) 460 477) tree.NoExprs) 452 478)) 452 479) 429 479) 387 479) 387 479) (src.ConsBlockItem (src.StatementItem (src.Expression (Some (tree.Binary op.Assign (tree.Identifier 14 488 489) (tree.Call (tree.Identifier 18 492 499) tree.NoExprs 492 501) 488 501)) 488 502) 488 502) src.NoBlockItems))) 362 508) 345 508) 345 508) (src.ConsBlockItem (src.StatementItem (src.Return (Some (tree.Integer 0 false false false 520 521)) 513 522) 513 522) src.NoBlockItems))) 316 524) 301 524) 301 524) ∷ [])) ≡ true
unfolding computing
callback_table = refl

-- `int f(int a){switch(a) { case 1: case 2: default: return 1; } return 0;}`
labels_in_a_row : keeps_the_rules (typed (names (codes "f" ∷ codes "a" ∷ [])) ((src.Defined (src.OfFunctionDefinition None (tree.OfSpecs tree.NoQualifiers (tree.Words (word.Int ∷ []) 0 3) tree.NoQualifiers 0 3) (tree.Function (tree.Named 8 4 5) (tree.Listed (tree.ConsParameter (tree.OfParameter (tree.OfSpecs tree.NoQualifiers (tree.Words (word.Int ∷ []) 6 9) tree.NoQualifiers 6 9) (tree.Named 9 10 11) 6 11) tree.NoParameters) 6 11) 4 12) (src.Compound (src.ConsBlockItem (src.StatementItem (src.Switch (tree.Identifier 9 20 21) (src.Compound (src.ConsBlockItem (src.StatementItem (src.Case (tree.Integer 1 true false false 30 31) (src.Case (tree.Integer 2 true false false 38 39) (src.Default (src.Return (Some (tree.Integer 1 true false false 57 58)) 50 59) 41 59) 33 59) 25 59) 25 59) src.NoBlockItems) 23 61) 13 61) 13 61) (src.ConsBlockItem (src.StatementItem (src.Return (Some (tree.Integer 0 false false false 69 70)) 62 71) 62 71) src.NoBlockItems)) 12 72) 0 72) 0 72) ∷ [])) ≡ true
unfolding computing
labels_in_a_row = refl

-- `void f(int a){while (a) switch(a) { case 1: continue; }}`
continue_in_a_loop : keeps_the_rules (typed (names (codes "f" ∷ codes "a" ∷ [])) ((src.Defined (src.OfFunctionDefinition None (tree.OfSpecs tree.NoQualifiers (tree.Void 0 4) tree.NoQualifiers 0 4) (tree.Function (tree.Named 8 5 6) (tree.Listed (tree.ConsParameter (tree.OfParameter (tree.OfSpecs tree.NoQualifiers (tree.Words (word.Int ∷ []) 7 10) tree.NoQualifiers 7 10) (tree.Named 9 11 12) 7 12) tree.NoParameters) 7 12) 5 13) (src.Compound (src.ConsBlockItem (src.StatementItem (src.While (tree.Identifier 9 21 22) (src.Switch (tree.Identifier 9 31 32) (src.Compound (src.ConsBlockItem (src.StatementItem (src.Case (tree.Integer 1 true false false 41 42) (src.Continue 44 53) 36 53) 36 53) src.NoBlockItems) 34 55) 24 55) 14 55) 14 55) src.NoBlockItems) 13 56) 0 56) 0 56) ∷ [])) ≡ true
unfolding computing
continue_in_a_loop = refl

-- `void f(int n, int a[sizeof n]);`
parameter_in_its_list : keeps_the_rules (typed (names (codes "f" ∷ codes "n" ∷ codes "a" ∷ [])) ((src.Declared (src.OfDeclaration None (tree.OfSpecs tree.NoQualifiers (tree.Void 0 4) tree.NoQualifiers 0 4) ((src.OfInitDeclarator (tree.Function (tree.Named 8 5 6) (tree.Listed (tree.ConsParameter (tree.OfParameter (tree.OfSpecs tree.NoQualifiers (tree.Words (word.Int ∷ []) 7 10) tree.NoQualifiers 7 10) (tree.Named 9 11 12) 7 12) (tree.ConsParameter (tree.OfParameter (tree.OfSpecs tree.NoQualifiers (tree.Words (word.Int ∷ []) 14 17) tree.NoQualifiers 14 17) (tree.Array (tree.Named 10 18 19) (tree.SomeExpr (tree.SizeofExpr (tree.Identifier 9 27 28) 20 28)) 18 29) 14 29) tree.NoParameters)) 7 29) 5 30) None 5 30) ∷ []) 0 31) 0 31) ∷ [])) ≡ true
unfolding computing
parameter_in_its_list = refl

-- `void f(struct s *p); struct s {int a;}; void g(struct s *p){p->a = 1; f(p);}`
tag_of_a_parameter : keeps_the_rules (typed (names (codes "f" ∷ codes "s" ∷ codes "p" ∷ codes "a" ∷ codes "g" ∷ [])) ((src.Declared (src.OfDeclaration None (tree.OfSpecs tree.NoQualifiers (tree.Void 0 4) tree.NoQualifiers 0 4) ((src.OfInitDeclarator (tree.Function (tree.Named 8 5 6) (tree.Listed (tree.ConsParameter (tree.OfParameter (tree.OfSpecs tree.NoQualifiers (tree.StructTag (record { name = 9; from = 14; to = 15 }) 7 15) tree.NoQualifiers 7 15) (tree.Pointer tree.NoQualifiers (tree.Named 10 17 18) 16 18) 7 18) tree.NoParameters) 7 18) 5 19) None 5 19) ∷ []) 0 20) 0 20) ∷ (src.Declared (src.OfDeclaration None (tree.OfSpecs tree.NoQualifiers (tree.StructBody (Some (record { name = 9; from = 28; to = 29 })) (tree.ConsMember (tree.OfMember (tree.OfSpecs tree.NoQualifiers (tree.Words (word.Int ∷ []) 31 34) tree.NoQualifiers 31 34) (tree.ConsDeclarator (tree.Named 11 35 36) tree.NoDeclarators) 31 37) tree.NoMembers) 21 38) tree.NoQualifiers 21 38) [] 21 39) 21 39) ∷ (src.Defined (src.OfFunctionDefinition None (tree.OfSpecs tree.NoQualifiers (tree.Void 40 44) tree.NoQualifiers 40 44) (tree.Function (tree.Named 12 45 46) (tree.Listed (tree.ConsParameter (tree.OfParameter (tree.OfSpecs tree.NoQualifiers (tree.StructTag (record { name = 9; from = 54; to = 55 }) 47 55) tree.NoQualifiers 47 55) (tree.Pointer tree.NoQualifiers (tree.Named 10 57 58) 56 58) 47 58) tree.NoParameters) 47 58) 45 59) (src.Compound (src.ConsBlockItem (src.StatementItem (src.Expression (Some (tree.Binary op.Assign (tree.Arrow (tree.Identifier 10 60 61) 11 60 64) (tree.Integer 1 true false false 67 68) 60 68)) 60 69) 60 69) (src.ConsBlockItem (src.StatementItem (src.Expression (Some (tree.Call (tree.Identifier 8 70 71) (tree.ConsExpr (tree.Identifier 10 72 73) tree.NoExprs) 70 74)) 70 75) 70 75) src.NoBlockItems)) 59 76) 40 76) 40 76) ∷ [])) ≡ true
unfolding computing
tag_of_a_parameter = refl

-- `struct s {struct s *next; int a;} *p; int f(void){return p->next->a;}`
struct_of_itself : keeps_the_rules (typed (names (codes "s" ∷ codes "next" ∷ codes "a" ∷ codes "p" ∷ codes "f" ∷ [])) ((src.Declared (src.OfDeclaration None (tree.OfSpecs tree.NoQualifiers (tree.StructBody (Some (record { name = 8; from = 7; to = 8 })) (tree.ConsMember (tree.OfMember (tree.OfSpecs tree.NoQualifiers (tree.StructTag (record { name = 8; from = 17; to = 18 }) 10 18) tree.NoQualifiers 10 18) (tree.ConsDeclarator (tree.Pointer tree.NoQualifiers (tree.Named 9 20 24) 19 24) tree.NoDeclarators) 10 25) (tree.ConsMember (tree.OfMember (tree.OfSpecs tree.NoQualifiers (tree.Words (word.Int ∷ []) 26 29) tree.NoQualifiers 26 29) (tree.ConsDeclarator (tree.Named 10 30 31) tree.NoDeclarators) 26 32) tree.NoMembers)) 0 33) tree.NoQualifiers 0 33) ((src.OfInitDeclarator (tree.Pointer tree.NoQualifiers (tree.Named 11 35 36) 34 36) None 34 36) ∷ []) 0 37) 0 37) ∷ (src.Defined (src.OfFunctionDefinition None (tree.OfSpecs tree.NoQualifiers (tree.Words (word.Int ∷ []) 38 41) tree.NoQualifiers 38 41) (tree.Function (tree.Named 12 42 43) (tree.OnlyVoid 44 48) 42 49) (src.Compound (src.ConsBlockItem (src.StatementItem (src.Return (Some (tree.Arrow (tree.Arrow (tree.Identifier 11 57 58) 9 57 64) 10 57 67)) 50 68) 50 68) src.NoBlockItems) 49 69) 38 69) 38 69) ∷ [])) ≡ true
unfolding computing
struct_of_itself = refl

-- `struct s {int s;}; enum s {s}; int f(struct s *p){return p->s + s;}`
tags_apart : keeps_the_rules (typed (names (codes "s" ∷ codes "f" ∷ codes "p" ∷ [])) ((src.Declared (src.OfDeclaration None (tree.OfSpecs tree.NoQualifiers (tree.StructBody (Some (record { name = 8; from = 7; to = 8 })) (tree.ConsMember (tree.OfMember (tree.OfSpecs tree.NoQualifiers (tree.Words (word.Int ∷ []) 10 13) tree.NoQualifiers 10 13) (tree.ConsDeclarator (tree.Named 8 14 15) tree.NoDeclarators) 10 16) tree.NoMembers) 0 17) tree.NoQualifiers 0 17) [] 0 18) 0 18) ∷ (src.Declared (src.OfDeclaration None (tree.OfSpecs tree.NoQualifiers (tree.EnumBody (Some (record { name = 8; from = 24; to = 25 })) (tree.ConsEnumerator (tree.OfEnumerator 8 tree.NoExpr 27 28) tree.NoEnumerators) 19 29) tree.NoQualifiers 19 29) [] 19 30) 19 30) ∷ (src.Defined (src.OfFunctionDefinition None (tree.OfSpecs tree.NoQualifiers (tree.Words (word.Int ∷ []) 31 34) tree.NoQualifiers 31 34) (tree.Function (tree.Named 9 35 36) (tree.Listed (tree.ConsParameter (tree.OfParameter (tree.OfSpecs tree.NoQualifiers (tree.StructTag (record { name = 8; from = 44; to = 45 }) 37 45) tree.NoQualifiers 37 45) (tree.Pointer tree.NoQualifiers (tree.Named 10 47 48) 46 48) 37 48) tree.NoParameters) 37 48) 35 49) (src.Compound (src.ConsBlockItem (src.StatementItem (src.Return (Some (tree.Binary op.Add (tree.Arrow (tree.Identifier 10 57 58) 8 57 61) (tree.Identifier 8 64 65) 57 65)) 50 66) 50 66) src.NoBlockItems) 49 67) 31 67) 31 67) ∷ [])) ≡ true
unfolding computing
tags_apart = refl

-- `int a[] = {1, 2, 3}; int b[sizeof a / sizeof(int) - 2];`
length_by_items : keeps_the_rules (typed (names (codes "a" ∷ codes "b" ∷ [])) ((src.Declared (src.OfDeclaration None (tree.OfSpecs tree.NoQualifiers (tree.Words (word.Int ∷ []) 0 3) tree.NoQualifiers 0 3) ((src.OfInitDeclarator (tree.Array (tree.Named 8 4 5) tree.NoExpr 4 7) (Some (src.Braced (src.ConsInitializer (src.Value (tree.Integer 1 true false false 11 12) 11 12) (src.ConsInitializer (src.Value (tree.Integer 2 true false false 14 15) 14 15) (src.ConsInitializer (src.Value (tree.Integer 3 true false false 17 18) 17 18) src.NoInitializers))) 10 19)) 4 19) ∷ []) 0 20) 0 20) ∷ (src.Declared (src.OfDeclaration None (tree.OfSpecs tree.NoQualifiers (tree.Words (word.Int ∷ []) 21 24) tree.NoQualifiers 21 24) ((src.OfInitDeclarator (tree.Array (tree.Named 9 25 26) (tree.SomeExpr (tree.Binary op.Subtract (tree.Binary op.Divide (tree.SizeofExpr (tree.Identifier 8 34 35) 27 35) (tree.SizeofType (tree.OfTypeName (tree.OfSpecs tree.NoQualifiers (tree.Words (word.Int ∷ []) 45 48) tree.NoQualifiers 45 48) (tree.Absent 48 48) 45 48) 38 49) 27 49) (tree.Integer 2 true false false 52 53) 27 53)) 25 54) None 25 54) ∷ []) 21 55) 21 55) ∷ [])) ≡ true
unfolding computing
length_by_items = refl

-- `char a[2] = "ab"; unsigned char b[] = {"x" "y"};`
string_without_zero : keeps_the_rules (typed (names (codes "a" ∷ codes "b" ∷ [])) ((src.Declared (src.OfDeclaration None (tree.OfSpecs tree.NoQualifiers (tree.Words (word.Char ∷ []) 0 4) tree.NoQualifiers 0 4) ((src.OfInitDeclarator (tree.Array (tree.Named 8 5 6) (tree.SomeExpr (tree.Integer 2 true false false 7 8)) 5 9) (Some (src.Value (tree.Text (97 ∷ 98 ∷ []) 12 16) 12 16)) 5 16) ∷ []) 0 17) 0 17) ∷ (src.Declared (src.OfDeclaration None (tree.OfSpecs tree.NoQualifiers (tree.Words (word.Unsigned ∷ word.Char ∷ []) 18 31) tree.NoQualifiers 18 31) ((src.OfInitDeclarator (tree.Array (tree.Named 9 32 33) tree.NoExpr 32 35) (Some (src.Braced (src.ConsInitializer (src.Value (tree.Text (120 ∷ 121 ∷ []) 39 46) 39 46) src.NoInitializers) 38 47)) 32 47) ∷ []) 18 48) 18 48) ∷ [])) ≡ true
unfolding computing
string_without_zero = refl

-- `int a = {{1}}; int *p = {0};`
scalar_in_braces : keeps_the_rules (typed (names (codes "a" ∷ codes "p" ∷ [])) ((src.Declared (src.OfDeclaration None (tree.OfSpecs tree.NoQualifiers (tree.Words (word.Int ∷ []) 0 3) tree.NoQualifiers 0 3) ((src.OfInitDeclarator (tree.Named 8 4 5) (Some (src.Braced (src.ConsInitializer (src.Braced (src.ConsInitializer (src.Value (tree.Integer 1 true false false 10 11) 10 11) src.NoInitializers) 9 12) src.NoInitializers) 8 13)) 4 13) ∷ []) 0 14) 0 14) ∷ (src.Declared (src.OfDeclaration None (tree.OfSpecs tree.NoQualifiers (tree.Words (word.Int ∷ []) 15 18) tree.NoQualifiers 15 18) ((src.OfInitDeclarator (tree.Pointer tree.NoQualifiers (tree.Named 9 20 21) 19 21) (Some (src.Braced (src.ConsInitializer (src.Value (tree.Integer 0 false false false 25 26) 25 26) src.NoInitializers) 24 27)) 19 27) ∷ []) 15 28) 15 28) ∷ [])) ≡ true
unfolding computing
scalar_in_braces = refl

-- `int a[3]; struct s {char c; int b[2];} v; int *p = &a[1]; int *q = a + 2; int *r = 1 ? v.b : 0; void *w = &v.c; char *t = "ab" + 1; int (*f(void))[3]; int (*(*g)(void))[3] = f;`
address_constants : keeps_the_rules (typed (names (codes "a" ∷ codes "s" ∷ codes "c" ∷ codes "b" ∷ codes "v" ∷ codes "p" ∷ codes "q" ∷ codes "r" ∷ codes "w" ∷ codes "t" ∷ codes "f" ∷ codes "g" ∷ [])) ((src.Declared (src.OfDeclaration None (tree.OfSpecs tree.NoQualifiers (tree.Words (word.Int ∷ []) 0 3) tree.NoQualifiers 0 3) ((src.OfInitDeclarator (tree.Array (tree.Named 8 4 5) (tree.SomeExpr (tree.Integer 3 true false false 6 7)) 4 8) None 4 8) ∷ []) 0 9) 0 9) ∷ (src.Declared (src.OfDeclaration None (tree.OfSpecs tree.NoQualifiers (tree.StructBody (Some (record { name = 9; from = 17; to = 18 })) (tree.ConsMember (tree.OfMember (tree.OfSpecs tree.NoQualifiers (tree.Words (word.Char ∷ []) 20 24) tree.NoQualifiers 20 24) (tree.ConsDeclarator (tree.Named 10 25 26) tree.NoDeclarators) 20 27) (tree.ConsMember (tree.OfMember (tree.OfSpecs tree.NoQualifiers (tree.Words (word.Int ∷ []) 28 31) tree.NoQualifiers 28 31) (tree.ConsDeclarator (tree.Array (tree.Named 11 32 33) (tree.SomeExpr (tree.Integer 2 true false false 34 35)) 32 36) tree.NoDeclarators) 28 37) tree.NoMembers)) 10 38) tree.NoQualifiers 10 38) ((src.OfInitDeclarator (tree.Named 12 39 40) None 39 40) ∷ []) 10 41) 10 41) ∷ (src.Declared (src.OfDeclaration None (tree.OfSpecs tree.NoQualifiers (tree.Words (word.Int ∷ []) 42 45) tree.NoQualifiers 42 45) ((src.OfInitDeclarator (tree.Pointer tree.NoQualifiers (tree.Named 13 47 48) 46 48) (Some (src.Value (tree.Prefix prefix.Address (tree.Index (tree.Identifier 8 52 53) (tree.Integer 1 true false false 54 55) 52 56) 51 56) 51 56)) 46 56) ∷ []) 42 57) 42 57) ∷ (src.Declared (src.OfDeclaration None (tree.OfSpecs tree.NoQualifiers (tree.Words (word.Int ∷ []) 58 61) tree.NoQualifiers 58 61) ((src.OfInitDeclarator (tree.Pointer tree.NoQualifiers (tree.Named 14 63 64) 62 64) (Some (src.Value (tree.Binary op.Add (tree.Identifier 8 67 68) (tree.Integer 2 true false false 71 72) 67 72) 67 72)) 62 72) ∷ []) 58 73) 58 73) ∷ (src.Declared (src.OfDeclaration None (tree.OfSpecs tree.NoQualifiers (tree.Words (word.Int ∷ []) 74 77) tree.NoQualifiers 74 77) ((src.OfInitDeclarator (tree.Pointer tree.NoQualifiers (tree.Named 15 79 80) 78 80) (Some (src.Value (tree.Conditional (tree.Integer 1 true false false 83 84) (tree.Dot (tree.Identifier 12 87 88) 11 87 90) (tree.Integer 0 false false false 93 94) 83 94) 83 94)) 78 94) ∷ []) 74 95) 74 95) ∷ (src.Declared (src.OfDeclaration None (tree.OfSpecs tree.NoQualifiers (tree.Void 96 100) tree.NoQualifiers 96 100) ((src.OfInitDeclarator (tree.Pointer tree.NoQualifiers (tree.Named 16 102 103) 101 103) (Some (src.Value (tree.Prefix prefix.Address (tree.Dot (tree.Identifier 12 107 108) 10 107 110) 106 110) 106 110)) 101 110) ∷ []) 96 111) 96 111) ∷ (src.Declared (src.OfDeclaration None (tree.OfSpecs tree.NoQualifiers (tree.Words (word.Char ∷ []) 112 116) tree.NoQualifiers 112 116) ((src.OfInitDeclarator (tree.Pointer tree.NoQualifiers (tree.Named 17 118 119) 117 119) (Some (src.Value (tree.Binary op.Add (tree.Text (97 ∷ 98 ∷ []) 122 126) (tree.Integer 1 true false false 129 130) 122 130) 122 130)) 117 130) ∷ []) 112 131) 112 131) ∷ (src.Declared (src.OfDeclaration None (tree.OfSpecs tree.NoQualifiers (tree.Words (word.Int ∷ []) 132 135) tree.NoQualifiers 132 135) ((src.OfInitDeclarator (tree.Array (tree.Grouped (tree.Pointer tree.NoQualifiers (tree.Function (tree.Named 18 138 139) (tree.OnlyVoid 140 144) 138 145) 137 145) 136 146) (tree.SomeExpr (tree.Integer 3 true false false 147 148)) 136 149) None 136 149) ∷ []) 132 150) 132 150) ∷ (src.Declared (src.OfDeclaration None (tree.OfSpecs tree.NoQualifiers (tree.Words (word.Int ∷ []) 151 154) tree.NoQualifiers 151 154) ((src.OfInitDeclarator (tree.Array (tree.Grouped (tree.Pointer tree.NoQualifiers (tree.Function (tree.Grouped (tree.Pointer tree.NoQualifiers (tree.Named 19 159 160) 158 160) 157 161) (tree.OnlyVoid 162 166) 157 167) 156 167) 155 168) (tree.SomeExpr (tree.Integer 3 true false false 169 170)) 155 171) (Some (src.Value (tree.Identifier 18 174 175) 174 175)) 155 175) ∷ []) 151 176) 151 176) ∷ [])) ≡ true
unfolding computing
address_constants = refl

-- `enum e {a, b = a + 2, c}; int x = (1 ? 3 : 1/0) + (0 && 1/0) + c; char y = 300; unsigned z = -1; _Bool w = 2;`
integer_constants : keeps_the_rules (typed (names (codes "e" ∷ codes "a" ∷ codes "b" ∷ codes "c" ∷ codes "x" ∷ codes "y" ∷ codes "z" ∷ codes "w" ∷ [])) ((src.Declared (src.OfDeclaration None (tree.OfSpecs tree.NoQualifiers (tree.EnumBody (Some (record { name = 8; from = 5; to = 6 })) (tree.ConsEnumerator (tree.OfEnumerator 9 tree.NoExpr 8 9) (tree.ConsEnumerator (tree.OfEnumerator 10 (tree.SomeExpr (tree.Binary op.Add (tree.Identifier 9 15 16) (tree.Integer 2 true false false 19 20) 15 20)) 11 20) (tree.ConsEnumerator (tree.OfEnumerator 11 tree.NoExpr 22 23) tree.NoEnumerators))) 0 24) tree.NoQualifiers 0 24) [] 0 25) 0 25) ∷ (src.Declared (src.OfDeclaration None (tree.OfSpecs tree.NoQualifiers (tree.Words (word.Int ∷ []) 26 29) tree.NoQualifiers 26 29) ((src.OfInitDeclarator (tree.Named 12 30 31) (Some (src.Value (tree.Binary op.Add (tree.Binary op.Add (tree.Paren (tree.Conditional (tree.Integer 1 true false false 35 36) (tree.Integer 3 true false false 39 40) (tree.Binary op.Divide (tree.Integer 1 true false false 43 44) (tree.Integer 0 false false false 45 46) 43 46) 35 46) 34 47) (tree.Paren (tree.Binary op.LogicalAnd (tree.Integer 0 false false false 51 52) (tree.Binary op.Divide (tree.Integer 1 true false false 56 57) (tree.Integer 0 false false false 58 59) 56 59) 51 59) 50 60) 34 60) (tree.Identifier 11 63 64) 34 64) 34 64)) 30 64) ∷ []) 26 65) 26 65) ∷ (src.Declared (src.OfDeclaration None (tree.OfSpecs tree.NoQualifiers (tree.Words (word.Char ∷ []) 66 70) tree.NoQualifiers 66 70) ((src.OfInitDeclarator (tree.Named 13 71 72) (Some (src.Value (tree.Integer 300 true false false 75 78) 75 78)) 71 78) ∷ []) 66 79) 66 79) ∷ (src.Declared (src.OfDeclaration None (tree.OfSpecs tree.NoQualifiers (tree.Words (word.Unsigned ∷ []) 80 88) tree.NoQualifiers 80 88) ((src.OfInitDeclarator (tree.Named 14 89 90) (Some (src.Value (tree.Prefix prefix.Minus (tree.Integer 1 true false false 94 95) 93 95) 93 95)) 89 95) ∷ []) 80 96) 80 96) ∷ (src.Declared (src.OfDeclaration None (tree.OfSpecs tree.NoQualifiers (tree.Boolean 97 102) tree.NoQualifiers 97 102) ((src.OfInitDeclarator (tree.Named 15 103 104) (Some (src.Value (tree.Integer 2 true false false 107 108) 107 108)) 103 108) ∷ []) 97 109) 97 109) ∷ [])) ≡ true
unfolding computing
integer_constants = refl

-- `int a[] = {1, 2}; int a[2]; extern int a[2];`
length_later : keeps_the_rules (typed (names (codes "a" ∷ [])) ((src.Declared (src.OfDeclaration None (tree.OfSpecs tree.NoQualifiers (tree.Words (word.Int ∷ []) 0 3) tree.NoQualifiers 0 3) ((src.OfInitDeclarator (tree.Array (tree.Named 8 4 5) tree.NoExpr 4 7) (Some (src.Braced (src.ConsInitializer (src.Value (tree.Integer 1 true false false 11 12) 11 12) (src.ConsInitializer (src.Value (tree.Integer 2 true false false 14 15) 14 15) src.NoInitializers)) 10 16)) 4 16) ∷ []) 0 17) 0 17) ∷ (src.Declared (src.OfDeclaration None (tree.OfSpecs tree.NoQualifiers (tree.Words (word.Int ∷ []) 18 21) tree.NoQualifiers 18 21) ((src.OfInitDeclarator (tree.Array (tree.Named 8 22 23) (tree.SomeExpr (tree.Integer 2 true false false 24 25)) 22 26) None 22 26) ∷ []) 18 27) 18 27) ∷ (src.Declared (src.OfDeclaration (Some storage.Extern) (tree.OfSpecs tree.NoQualifiers (tree.Words (word.Int ∷ []) 35 38) tree.NoQualifiers 35 38) ((src.OfInitDeclarator (tree.Array (tree.Named 8 39 40) (tree.SomeExpr (tree.Integer 2 true false false 41 42)) 39 43) None 39 43) ∷ []) 28 44) 28 44) ∷ [])) ≡ true
unfolding computing
length_later = refl

-- `int ********************************************************************************************************************************************************************************************************p;`
deep_type : keeps_the_rules (typed (names (codes "p" ∷ [])) ((src.Declared (src.OfDeclaration None (tree.OfSpecs tree.NoQualifiers (tree.Words (word.Int ∷ []) 0 3) tree.NoQualifiers 0 3) ((src.OfInitDeclarator (tree.Pointer tree.NoQualifiers (tree.Pointer tree.NoQualifiers (tree.Pointer tree.NoQualifiers (tree.Pointer tree.NoQualifiers (tree.Pointer tree.NoQualifiers (tree.Pointer tree.NoQualifiers (tree.Pointer tree.NoQualifiers (tree.Pointer tree.NoQualifiers (tree.Pointer tree.NoQualifiers (tree.Pointer tree.NoQualifiers (tree.Pointer tree.NoQualifiers (tree.Pointer tree.NoQualifiers (tree.Pointer tree.NoQualifiers (tree.Pointer tree.NoQualifiers (tree.Pointer tree.NoQualifiers (tree.Pointer tree.NoQualifiers (tree.Pointer tree.NoQualifiers (tree.Pointer tree.NoQualifiers (tree.Pointer tree.NoQualifiers (tree.Pointer tree.NoQualifiers (tree.Pointer tree.NoQualifiers (tree.Pointer tree.NoQualifiers (tree.Pointer tree.NoQualifiers (tree.Pointer tree.NoQualifiers (tree.Pointer tree.NoQualifiers (tree.Pointer tree.NoQualifiers (tree.Pointer tree.NoQualifiers (tree.Pointer tree.NoQualifiers (tree.Pointer tree.NoQualifiers (tree.Pointer tree.NoQualifiers (tree.Pointer tree.NoQualifiers (tree.Pointer tree.NoQualifiers (tree.Pointer tree.NoQualifiers (tree.Pointer tree.NoQualifiers (tree.Pointer tree.NoQualifiers (tree.Pointer tree.NoQualifiers (tree.Pointer tree.NoQualifiers (tree.Pointer tree.NoQualifiers (tree.Pointer tree.NoQualifiers (tree.Pointer tree.NoQualifiers (tree.Pointer tree.NoQualifiers (tree.Pointer tree.NoQualifiers (tree.Pointer tree.NoQualifiers (tree.Pointer tree.NoQualifiers (tree.Pointer tree.NoQualifiers (tree.Pointer tree.NoQualifiers (tree.Pointer tree.NoQualifiers (tree.Pointer tree.NoQualifiers (tree.Pointer tree.NoQualifiers (tree.Pointer tree.NoQualifiers (tree.Pointer tree.NoQualifiers (tree.Pointer tree.NoQualifiers (tree.Pointer tree.NoQualifiers (tree.Pointer tree.NoQualifiers (tree.Pointer tree.NoQualifiers (tree.Pointer tree.NoQualifiers (tree.Pointer tree.NoQualifiers (tree.Pointer tree.NoQualifiers (tree.Pointer tree.NoQualifiers (tree.Pointer tree.NoQualifiers (tree.Pointer tree.NoQualifiers (tree.Pointer tree.NoQualifiers (tree.Pointer tree.NoQualifiers (tree.Pointer tree.NoQualifiers (tree.Pointer tree.NoQualifiers (tree.Pointer tree.NoQualifiers (tree.Pointer tree.NoQualifiers (tree.Pointer tree.NoQualifiers (tree.Pointer tree.NoQualifiers (tree.Pointer tree.NoQualifiers (tree.Pointer tree.NoQualifiers (tree.Pointer tree.NoQualifiers (tree.Pointer tree.NoQualifiers (tree.Pointer tree.NoQualifiers (tree.Pointer tree.NoQualifiers (tree.Pointer tree.NoQualifiers (tree.Pointer tree.NoQualifiers (tree.Pointer tree.NoQualifiers (tree.Pointer tree.NoQualifiers (tree.Pointer tree.NoQualifiers (tree.Pointer tree.NoQualifiers (tree.Pointer tree.NoQualifiers (tree.Pointer tree.NoQualifiers (tree.Pointer tree.NoQualifiers (tree.Pointer tree.NoQualifiers (tree.Pointer tree.NoQualifiers (tree.Pointer tree.NoQualifiers (tree.Pointer tree.NoQualifiers (tree.Pointer tree.NoQualifiers (tree.Pointer tree.NoQualifiers (tree.Pointer tree.NoQualifiers (tree.Pointer tree.NoQualifiers (tree.Pointer tree.NoQualifiers (tree.Pointer tree.NoQualifiers (tree.Pointer tree.NoQualifiers (tree.Pointer tree.NoQualifiers (tree.Pointer tree.NoQualifiers (tree.Pointer tree.NoQualifiers (tree.Pointer tree.NoQualifiers (tree.Pointer tree.NoQualifiers (tree.Pointer tree.NoQualifiers (tree.Pointer tree.NoQualifiers (tree.Pointer tree.NoQualifiers (tree.Pointer tree.NoQualifiers (tree.Pointer tree.NoQualifiers (tree.Pointer tree.NoQualifiers (tree.Pointer tree.NoQualifiers (tree.Pointer tree.NoQualifiers (tree.Pointer tree.NoQualifiers (tree.Pointer tree.NoQualifiers (tree.Pointer tree.NoQualifiers (tree.Pointer tree.NoQualifiers (tree.Pointer tree.NoQualifiers (tree.Pointer tree.NoQualifiers (tree.Pointer tree.NoQualifiers (tree.Pointer tree.NoQualifiers (tree.Pointer tree.NoQualifiers (tree.Pointer tree.NoQualifiers (tree.Pointer tree.NoQualifiers (tree.Pointer tree.NoQualifiers (tree.Pointer tree.NoQualifiers (tree.Pointer tree.NoQualifiers (tree.Pointer tree.NoQualifiers (tree.Pointer tree.NoQualifiers (tree.Pointer tree.NoQualifiers (tree.Pointer tree.NoQualifiers (tree.Pointer tree.NoQualifiers (tree.Pointer tree.NoQualifiers (tree.Pointer tree.NoQualifiers (tree.Pointer tree.NoQualifiers (tree.Pointer tree.NoQualifiers (tree.Pointer tree.NoQualifiers (tree.Pointer tree.NoQualifiers (tree.Pointer tree.NoQualifiers (tree.Pointer tree.NoQualifiers (tree.Pointer tree.NoQualifiers (tree.Pointer tree.NoQualifiers (tree.Pointer tree.NoQualifiers (tree.Pointer tree.NoQualifiers (tree.Pointer tree.NoQualifiers (tree.Pointer tree.NoQualifiers (tree.Pointer tree.NoQualifiers (tree.Pointer tree.NoQualifiers (tree.Pointer tree.NoQualifiers (tree.Pointer tree.NoQualifiers (tree.Pointer tree.NoQualifiers (tree.Pointer tree.NoQualifiers (tree.Pointer tree.NoQualifiers (tree.Pointer tree.NoQualifiers (tree.Pointer tree.NoQualifiers (tree.Pointer tree.NoQualifiers (tree.Pointer tree.NoQualifiers (tree.Pointer tree.NoQualifiers (tree.Pointer tree.NoQualifiers (tree.Pointer tree.NoQualifiers (tree.Pointer tree.NoQualifiers (tree.Pointer tree.NoQualifiers (tree.Pointer tree.NoQualifiers (tree.Pointer tree.NoQualifiers (tree.Pointer tree.NoQualifiers (tree.Pointer tree.NoQualifiers (tree.Pointer tree.NoQualifiers (tree.Pointer tree.NoQualifiers (tree.Pointer tree.NoQualifiers (tree.Pointer tree.NoQualifiers (tree.Pointer tree.NoQualifiers (tree.Pointer tree.NoQualifiers (tree.Pointer tree.NoQualifiers (tree.Pointer tree.NoQualifiers (tree.Pointer tree.NoQualifiers (tree.Pointer tree.NoQualifiers (tree.Pointer tree.NoQualifiers (tree.Pointer tree.NoQualifiers (tree.Pointer tree.NoQualifiers (tree.Pointer tree.NoQualifiers (tree.Pointer tree.NoQualifiers (tree.Pointer tree.NoQualifiers (tree.Pointer tree.NoQualifiers (tree.Pointer tree.NoQualifiers (tree.Pointer tree.NoQualifiers (tree.Pointer tree.NoQualifiers (tree.Pointer tree.NoQualifiers (tree.Pointer tree.NoQualifiers (tree.Pointer tree.NoQualifiers (tree.Pointer tree.NoQualifiers (tree.Pointer tree.NoQualifiers (tree.Pointer tree.NoQualifiers (tree.Pointer tree.NoQualifiers (tree.Pointer tree.NoQualifiers (tree.Pointer tree.NoQualifiers (tree.Pointer tree.NoQualifiers (tree.Pointer tree.NoQualifiers (tree.Pointer tree.NoQualifiers (tree.Pointer tree.NoQualifiers (tree.Pointer tree.NoQualifiers (tree.Pointer tree.NoQualifiers (tree.Pointer tree.NoQualifiers (tree.Pointer tree.NoQualifiers (tree.Pointer tree.NoQualifiers (tree.Pointer tree.NoQualifiers (tree.Named 8 204 205) 203 205) 202 205) 201 205) 200 205) 199 205) 198 205) 197 205) 196 205) 195 205) 194 205) 193 205) 192 205) 191 205) 190 205) 189 205) 188 205) 187 205) 186 205) 185 205) 184 205) 183 205) 182 205) 181 205) 180 205) 179 205) 178 205) 177 205) 176 205) 175 205) 174 205) 173 205) 172 205) 171 205) 170 205) 169 205) 168 205) 167 205) 166 205) 165 205) 164 205) 163 205) 162 205) 161 205) 160 205) 159 205) 158 205) 157 205) 156 205) 155 205) 154 205) 153 205) 152 205) 151 205) 150 205) 149 205) 148 205) 147 205) 146 205) 145 205) 144 205) 143 205) 142 205) 141 205) 140 205) 139 205) 138 205) 137 205) 136 205) 135 205) 134 205) 133 205) 132 205) 131 205) 130 205) 129 205) 128 205) 127 205) 126 205) 125 205) 124 205) 123 205) 122 205) 121 205) 120 205) 119 205) 118 205) 117 205) 116 205) 115 205) 114 205) 113 205) 112 205) 111 205) 110 205) 109 205) 108 205) 107 205) 106 205) 105 205) 104 205) 103 205) 102 205) 101 205) 100 205) 99 205) 98 205) 97 205) 96 205) 95 205) 94 205) 93 205) 92 205) 91 205) 90 205) 89 205) 88 205) 87 205) 86 205) 85 205) 84 205) 83 205) 82 205) 81 205) 80 205) 79 205) 78 205) 77 205) 76 205) 75 205) 74 205) 73 205) 72 205) 71 205) 70 205) 69 205) 68 205) 67 205) 66 205) 65 205) 64 205) 63 205) 62 205) 61 205) 60 205) 59 205) 58 205) 57 205) 56 205) 55 205) 54 205) 53 205) 52 205) 51 205) 50 205) 49 205) 48 205) 47 205) 46 205) 45 205) 44 205) 43 205) 42 205) 41 205) 40 205) 39 205) 38 205) 37 205) 36 205) 35 205) 34 205) 33 205) 32 205) 31 205) 30 205) 29 205) 28 205) 27 205) 26 205) 25 205) 24 205) 23 205) 22 205) 21 205) 20 205) 19 205) 18 205) 17 205) 16 205) 15 205) 14 205) 13 205) 12 205) 11 205) 10 205) 9 205) 8 205) 7 205) 6 205) 5 205) 4 205) None 4 205) ∷ []) 0 206) 0 206) ∷ [])) ≡ true
unfolding computing
deep_type = refl

-- `extern int a; int a; int a = 1; extern int a; int a;`
extern_and_tentative : keeps_the_rules (typed (names (codes "a" ∷ [])) ((src.Declared (src.OfDeclaration (Some storage.Extern) (tree.OfSpecs tree.NoQualifiers (tree.Words (word.Int ∷ []) 7 10) tree.NoQualifiers 7 10) ((src.OfInitDeclarator (tree.Named 8 11 12) None 11 12) ∷ []) 0 13) 0 13) ∷ (src.Declared (src.OfDeclaration None (tree.OfSpecs tree.NoQualifiers (tree.Words (word.Int ∷ []) 14 17) tree.NoQualifiers 14 17) ((src.OfInitDeclarator (tree.Named 8 18 19) None 18 19) ∷ []) 14 20) 14 20) ∷ (src.Declared (src.OfDeclaration None (tree.OfSpecs tree.NoQualifiers (tree.Words (word.Int ∷ []) 21 24) tree.NoQualifiers 21 24) ((src.OfInitDeclarator (tree.Named 8 25 26) (Some (src.Value (tree.Integer 1 true false false 29 30) 29 30)) 25 30) ∷ []) 21 31) 21 31) ∷ (src.Declared (src.OfDeclaration (Some storage.Extern) (tree.OfSpecs tree.NoQualifiers (tree.Words (word.Int ∷ []) 39 42) tree.NoQualifiers 39 42) ((src.OfInitDeclarator (tree.Named 8 43 44) None 43 44) ∷ []) 32 45) 32 45) ∷ (src.Declared (src.OfDeclaration None (tree.OfSpecs tree.NoQualifiers (tree.Words (word.Int ∷ []) 46 49) tree.NoQualifiers 46 49) ((src.OfInitDeclarator (tree.Named 8 50 51) None 50 51) ∷ []) 46 52) 46 52) ∷ [])) ≡ true
unfolding computing
extern_and_tentative = refl

-- `static int f(void); int f(void){return 1;} extern int f(void);`
static_after : keeps_the_rules (typed (names (codes "f" ∷ [])) ((src.Declared (src.OfDeclaration (Some storage.Static) (tree.OfSpecs tree.NoQualifiers (tree.Words (word.Int ∷ []) 7 10) tree.NoQualifiers 7 10) ((src.OfInitDeclarator (tree.Function (tree.Named 8 11 12) (tree.OnlyVoid 13 17) 11 18) None 11 18) ∷ []) 0 19) 0 19) ∷ (src.Defined (src.OfFunctionDefinition None (tree.OfSpecs tree.NoQualifiers (tree.Words (word.Int ∷ []) 20 23) tree.NoQualifiers 20 23) (tree.Function (tree.Named 8 24 25) (tree.OnlyVoid 26 30) 24 31) (src.Compound (src.ConsBlockItem (src.StatementItem (src.Return (Some (tree.Integer 1 true false false 39 40)) 32 41) 32 41) src.NoBlockItems) 31 42) 20 42) 20 42) ∷ (src.Declared (src.OfDeclaration (Some storage.Extern) (tree.OfSpecs tree.NoQualifiers (tree.Words (word.Int ∷ []) 50 53) tree.NoQualifiers 50 53) ((src.OfInitDeclarator (tree.Function (tree.Named 8 54 55) (tree.OnlyVoid 56 60) 54 61) None 54 61) ∷ []) 43 62) 43 62) ∷ [])) ≡ true
unfolding computing
static_after = refl

-- `int f(int a){return a;} int (*p)(int) = f; int (*q)(int) = &f; int g(void){return p(1) + (*p)(2) + (**q)(3) + (*f)(4) + (&f)(5);}`
functions_given : keeps_the_rules (typed (names (codes "f" ∷ codes "a" ∷ codes "p" ∷ codes "q" ∷ codes "g" ∷ [])) ((src.Defined (src.OfFunctionDefinition None (tree.OfSpecs tree.NoQualifiers (tree.Words (word.Int ∷ []) 0 3) tree.NoQualifiers 0 3) (tree.Function (tree.Named 8 4 5) (tree.Listed (tree.ConsParameter (tree.OfParameter (tree.OfSpecs tree.NoQualifiers (tree.Words (word.Int ∷ []) 6 9) tree.NoQualifiers 6 9) (tree.Named 9 10 11) 6 11) tree.NoParameters) 6 11) 4 12) (src.Compound (src.ConsBlockItem (src.StatementItem (src.Return (Some (tree.Identifier 9 20 21)) 13 22) 13 22) src.NoBlockItems) 12 23) 0 23) 0 23) ∷ (src.Declared (src.OfDeclaration None (tree.OfSpecs tree.NoQualifiers (tree.Words (word.Int ∷ []) 24 27) tree.NoQualifiers 24 27) ((src.OfInitDeclarator (tree.Function (tree.Grouped (tree.Pointer tree.NoQualifiers (tree.Named 10 30 31) 29 31) 28 32) (tree.Listed (tree.ConsParameter (tree.OfParameter (tree.OfSpecs tree.NoQualifiers (tree.Words (word.Int ∷ []) 33 36) tree.NoQualifiers 33 36) (tree.Absent 36 36) 33 36) tree.NoParameters) 33 36) 28 37) (Some (src.Value (tree.Identifier 8 40 41) 40 41)) 28 41) ∷ []) 24 42) 24 42) ∷ (src.Declared (src.OfDeclaration None (tree.OfSpecs tree.NoQualifiers (tree.Words (word.Int ∷ []) 43 46) tree.NoQualifiers 43 46) ((src.OfInitDeclarator (tree.Function (tree.Grouped (tree.Pointer tree.NoQualifiers (tree.Named 11 49 50) 48 50) 47 51) (tree.Listed (tree.ConsParameter (tree.OfParameter (tree.OfSpecs tree.NoQualifiers (tree.Words (word.Int ∷ []) 52 55) tree.NoQualifiers 52 55) (tree.Absent 55 55) 52 55) tree.NoParameters) 52 55) 47 56) (Some (src.Value (tree.Prefix prefix.Address (tree.Identifier 8 60 61) 59 61) 59 61)) 47 61) ∷ []) 43 62) 43 62) ∷ (src.Defined (src.OfFunctionDefinition None (tree.OfSpecs tree.NoQualifiers (tree.Words (word.Int ∷ []) 63 66) tree.NoQualifiers 63 66) (tree.Function (tree.Named 12 67 68) (tree.OnlyVoid 69 73) 67 74) (src.Compound (src.ConsBlockItem (src.StatementItem (src.Return (Some (tree.Binary op.Add (tree.Binary op.Add (tree.Binary op.Add (tree.Binary op.Add (tree.Call (tree.Identifier 10 82 83) (tree.ConsExpr (tree.Integer 1 true false false 84 85) tree.NoExprs) 82 86) (tree.Call (tree.Paren (tree.Prefix prefix.Indirection (tree.Identifier 10 91 92) 90 92) 89 93) (tree.ConsExpr (tree.Integer 2 true false false 94 95) tree.NoExprs) 89 96) 82 96) (tree.Call (tree.Paren (tree.Prefix prefix.Indirection (tree.Prefix prefix.Indirection (tree.Identifier 11 102 103) 101 103) 100 103) 99 104) (tree.ConsExpr (tree.Integer 3 true false false 105 106) tree.NoExprs) 99 107) 82 107) (tree.Call (tree.Paren (tree.Prefix prefix.Indirection (tree.Identifier 8 112 113) 111 113) 110 114) (tree.ConsExpr (tree.Integer 4 true false false 115 116) tree.NoExprs) 110 117) 82 117) (tree.Call (tree.Paren (tree.Prefix prefix.Address (tree.Identifier 8 122 123) 121 123) 120 124) (tree.ConsExpr (tree.Integer 5 true false false 125 126) tree.NoExprs) 120 127) 82 127)) 75 128) 75 128) src.NoBlockItems) 74 129) 63 129) 63 129) ∷ [])) ≡ true
unfolding computing
functions_given = refl

-- `int f(void){return 0;} int (* __ptrauth(0,1,1) p)(void)=f; int (* __ptrauth(0,0,2) q)(void)=f; int main(void){return p==q;}`
qualified_apart : keeps_the_rules (typed (names (codes "f" ∷ codes "p" ∷ codes "q" ∷ codes "main" ∷ [])) ((src.Defined (src.OfFunctionDefinition None (tree.OfSpecs tree.NoQualifiers (tree.Words (word.Int ∷ []) 0 3) tree.NoQualifiers 0 3) (tree.Function (tree.Named 8 4 5) (tree.OnlyVoid 6 10) 4 11) (src.Compound (src.ConsBlockItem (src.StatementItem (src.Return (Some (tree.Integer 0 false false false 19 20)) 12 21) 12 21) src.NoBlockItems) 11 22) 0 22) 0 22) ∷ (src.Declared (src.OfDeclaration None (tree.OfSpecs tree.NoQualifiers (tree.Words (word.Int ∷ []) 23 26) tree.NoQualifiers 23 26) ((src.OfInitDeclarator (tree.Function (tree.Grouped (tree.Pointer (tree.ConsQualifier (tree.Ptrauth (tree.ConsExpr (tree.Integer 0 false false false 40 41) (tree.ConsExpr (tree.Integer 1 true false false 42 43) (tree.ConsExpr (tree.Integer 1 true false false 44 45) tree.NoExprs))) 30 46) tree.NoQualifiers) (tree.Named 9 47 48) 28 48) 27 49) (tree.OnlyVoid 50 54) 27 55) (Some (src.Value (tree.Identifier 8 56 57) 56 57)) 27 57) ∷ []) 23 58) 23 58) ∷ (src.Declared (src.OfDeclaration None (tree.OfSpecs tree.NoQualifiers (tree.Words (word.Int ∷ []) 59 62) tree.NoQualifiers 59 62) ((src.OfInitDeclarator (tree.Function (tree.Grouped (tree.Pointer (tree.ConsQualifier (tree.Ptrauth (tree.ConsExpr (tree.Integer 0 false false false 76 77) (tree.ConsExpr (tree.Integer 0 false false false 78 79) (tree.ConsExpr (tree.Integer 2 true false false 80 81) tree.NoExprs))) 66 82) tree.NoQualifiers) (tree.Named 10 83 84) 64 84) 63 85) (tree.OnlyVoid 86 90) 63 91) (Some (src.Value (tree.Identifier 8 92 93) 92 93)) 63 93) ∷ []) 59 94) 59 94) ∷ (src.Defined (src.OfFunctionDefinition None (tree.OfSpecs tree.NoQualifiers (tree.Words (word.Int ∷ []) 95 98) tree.NoQualifiers 95 98) (tree.Function (tree.Named 11 99 103) (tree.OnlyVoid 104 108) 99 109) (src.Compound (src.ConsBlockItem (src.StatementItem (src.Return (Some (tree.Binary op.Equal (tree.Identifier 9 117 118) (tree.Identifier 10 120 121) 117 121)) 110 122) 110 122) src.NoBlockItems) 109 123) 95 123) 95 123) ∷ [])) ≡ true
unfolding computing
qualified_apart = refl

-- `int (* __ptrauth(0,1,9) p)(void); int main(void){p=0;return p==0;}`
qualified_null : keeps_the_rules (typed (names (codes "p" ∷ codes "main" ∷ [])) ((src.Declared (src.OfDeclaration None (tree.OfSpecs tree.NoQualifiers (tree.Words (word.Int ∷ []) 0 3) tree.NoQualifiers 0 3) ((src.OfInitDeclarator (tree.Function (tree.Grouped (tree.Pointer (tree.ConsQualifier (tree.Ptrauth (tree.ConsExpr (tree.Integer 0 false false false 17 18) (tree.ConsExpr (tree.Integer 1 true false false 19 20) (tree.ConsExpr (tree.Integer 9 true false false 21 22) tree.NoExprs))) 7 23) tree.NoQualifiers) (tree.Named 8 24 25) 5 25) 4 26) (tree.OnlyVoid 27 31) 4 32) None 4 32) ∷ []) 0 33) 0 33) ∷ (src.Defined (src.OfFunctionDefinition None (tree.OfSpecs tree.NoQualifiers (tree.Words (word.Int ∷ []) 34 37) tree.NoQualifiers 34 37) (tree.Function (tree.Named 9 38 42) (tree.OnlyVoid 43 47) 38 48) (src.Compound (src.ConsBlockItem (src.StatementItem (src.Expression (Some (tree.Binary op.Assign (tree.Identifier 8 49 50) (tree.Integer 0 false false false 51 52) 49 52)) 49 53) 49 53) (src.ConsBlockItem (src.StatementItem (src.Return (Some (tree.Binary op.Equal (tree.Identifier 8 60 61) (tree.Integer 0 false false false 63 64) 60 64)) 53 65) 53 65) src.NoBlockItems)) 48 66) 34 66) 34 66) ∷ [])) ≡ true
unfolding computing
qualified_null = refl

-- `int (* __ptrauth(0) p)(void);`
arguments_of_a_schema_left_out : keeps_the_rules (typed (names (codes "p" ∷ [])) ((src.Declared (src.OfDeclaration None (tree.OfSpecs tree.NoQualifiers (tree.Words (word.Int ∷ []) 0 3) tree.NoQualifiers 0 3) ((src.OfInitDeclarator (tree.Function (tree.Grouped (tree.Pointer (tree.ConsQualifier (tree.Ptrauth (tree.ConsExpr (tree.Integer 0 false false false 17 18) tree.NoExprs) 7 19) tree.NoQualifiers) (tree.Named 8 20 21) 5 21) 4 22) (tree.OnlyVoid 23 27) 4 28) None 4 28) ∷ []) 0 29) 0 29) ∷ [])) ≡ true
unfolding computing
arguments_of_a_schema_left_out = refl

-- `int (* __ptrauth(0,0,65535) p)(int);`
largest_discriminator : keeps_the_rules (typed (names (codes "p" ∷ [])) ((src.Declared (src.OfDeclaration None (tree.OfSpecs tree.NoQualifiers (tree.Words (word.Int ∷ []) 0 3) tree.NoQualifiers 0 3) ((src.OfInitDeclarator (tree.Function (tree.Grouped (tree.Pointer (tree.ConsQualifier (tree.Ptrauth (tree.ConsExpr (tree.Integer 0 false false false 17 18) (tree.ConsExpr (tree.Integer 0 false false false 19 20) (tree.ConsExpr (tree.Integer 65535 true false false 21 26) tree.NoExprs))) 7 27) tree.NoQualifiers) (tree.Named 8 28 29) 5 29) 4 30) (tree.Listed (tree.ConsParameter (tree.OfParameter (tree.OfSpecs tree.NoQualifiers (tree.Words (word.Int ∷ []) 31 34) tree.NoQualifiers 31 34) (tree.Absent 34 34) 31 34) tree.NoParameters) 31 34) 4 35) None 4 35) ∷ []) 0 36) 0 36) ∷ [])) ≡ true
unfolding computing
largest_discriminator = refl

-- #include <stdio.h>
-- void a(void){putchar(97);}
-- void b(void){putchar(98);}
-- void (* __ptrauth(0,0,7) p)(void) = a;
-- void (* __ptrauth(0,0,7) q)(void) = b;
-- int main(void){p();return 0;}
replay : keeps_the_rules (typed (names (codes "a" ∷ codes "putchar" ∷ codes "b" ∷ codes "p" ∷ codes "q" ∷ codes "main" ∷ [])) ((src.Included include.Stdio 0 18) ∷ (src.Defined (src.OfFunctionDefinition None (tree.OfSpecs tree.NoQualifiers (tree.Void 19 23) tree.NoQualifiers 19 23) (tree.Function (tree.Named 8 24 25) (tree.OnlyVoid 26 30) 24 31) (src.Compound (src.ConsBlockItem (src.StatementItem (src.Expression (Some (tree.Call (tree.Identifier 9 32 39) (tree.ConsExpr (tree.Integer 97 true false false 40 42) tree.NoExprs) 32 43)) 32 44) 32 44) src.NoBlockItems) 31 45) 19 45) 19 45) ∷ (src.Defined (src.OfFunctionDefinition None (tree.OfSpecs tree.NoQualifiers (tree.Void 46 50) tree.NoQualifiers 46 50) (tree.Function (tree.Named 10 51 52) (tree.OnlyVoid 53 57) 51 58) (src.Compound (src.ConsBlockItem (src.StatementItem (src.Expression (Some (tree.Call (tree.Identifier 9 59 66) (tree.ConsExpr (tree.Integer 98 true false false 67 69) tree.NoExprs) 59 70)) 59 71) 59 71) src.NoBlockItems) 58 72) 46 72) 46 72) ∷ (src.Declared (src.OfDeclaration None (tree.OfSpecs tree.NoQualifiers (tree.Void 73 77) tree.NoQualifiers 73 77) ((src.OfInitDeclarator (tree.Function (tree.Grouped (tree.Pointer (tree.ConsQualifier (tree.Ptrauth (tree.ConsExpr (tree.Integer 0 false false false 91 92) (tree.ConsExpr (tree.Integer 0 false false false 93 94) (tree.ConsExpr (tree.Integer 7 true false false 95 96) tree.NoExprs))) 81 97) tree.NoQualifiers) (tree.Named 11 98 99) 79 99) 78 100) (tree.OnlyVoid 101 105) 78 106) (Some (src.Value (tree.Identifier 8 109 110) 109 110)) 78 110) ∷ []) 73 111) 73 111) ∷ (src.Declared (src.OfDeclaration None (tree.OfSpecs tree.NoQualifiers (tree.Void 112 116) tree.NoQualifiers 112 116) ((src.OfInitDeclarator (tree.Function (tree.Grouped (tree.Pointer (tree.ConsQualifier (tree.Ptrauth (tree.ConsExpr (tree.Integer 0 false false false 130 131) (tree.ConsExpr (tree.Integer 0 false false false 132 133) (tree.ConsExpr (tree.Integer 7 true false false 134 135) tree.NoExprs))) 120 136) tree.NoQualifiers) (tree.Named 12 137 138) 118 138) 117 139) (tree.OnlyVoid 140 144) 117 145) (Some (src.Value (tree.Identifier 10 148 149) 148 149)) 117 149) ∷ []) 112 150) 112 150) ∷ (src.Defined (src.OfFunctionDefinition None (tree.OfSpecs tree.NoQualifiers (tree.Words (word.Int ∷ []) 151 154) tree.NoQualifiers 151 154) (tree.Function (tree.Named 13 155 159) (tree.OnlyVoid 160 164) 155 165) (src.Compound (src.ConsBlockItem (src.StatementItem (src.Expression (Some (tree.Call (tree.Identifier 11 166 167) tree.NoExprs 166 169)) 166 170) 166 170) (src.ConsBlockItem (src.StatementItem (src.Return (Some (tree.Integer 0 false false false 177 178)) 170 179) 170 179) src.NoBlockItems)) 165 180) 151 180) 151 180) ∷ [])) ≡ true
unfolding computing
replay = refl
