-- Files that keep all rules: conversions, parameters, types, statements.
use Rattle.std.proofs.Common.{◌≡◌, pos, Bool, true, false, [], ◌∷◌, Some, None, Ok, Err, refl, codes}
use Rattle.pa_lex.specs.declared.token.Include.TheVariants as include
use Rattle.pa_tree.specs.declared.operator.Step.TheVariants as step
use Rattle.pa_tree.specs.declared.operator.PrefixOperator.TheVariants as prefix
use Rattle.pa_tree.specs.declared.operator.BinaryOperator.TheVariants as op
use Rattle.pa_tree.specs.declared.operator.IntegerWord.TheVariants as word
use Rattle.pa_tree.specs.declared.file.Storage.TheVariants as storage
use Rattle.pa_tree.specs.Exprs as tree
use Rattle.pa_tree.specs.Stmts as src
use Rattle.pa_tree.specs.Stmts.{FileTree}
use Rattle.pa_scope.specs.Answers.{Answer}
use Rattle.pa_typed.specs.Units.{UnitTree}
use Rattle.pa_runit.specs.Units.{typed}
use Rattle.pa_runit.proofs.Computing.{computing}
use Rattle.pa_rexpr.proofs.Spelled.{names}

abbrev keeps_the_rules : Answer UnitTree → Bool
keeps_the_rules (Ok u) = true
keeps_the_rules (Err b) = false

-- `void *f(const int *p, void *v){const void *w = p; int *q = v; v = q; return q == v ? v : q;}`
void_pointers : keeps_the_rules (typed (names (codes "f" ∷ codes "p" ∷ codes "v" ∷ codes "w" ∷ codes "q" ∷ [])) ((src.Defined (src.OfFunctionDefinition None (tree.OfSpecs tree.NoQualifiers (tree.Void 0 4) tree.NoQualifiers 0 4) (tree.Pointer tree.NoQualifiers (tree.Function (tree.Named 8 6 7) (tree.Listed (tree.ConsParameter (tree.OfParameter (tree.OfSpecs (tree.ConsQualifier (tree.Const 8 13) tree.NoQualifiers) (tree.Words (word.Int ∷ []) 14 17) tree.NoQualifiers 8 17) (tree.Pointer tree.NoQualifiers (tree.Named 9 19 20) 18 20) 8 20) (tree.ConsParameter (tree.OfParameter (tree.OfSpecs tree.NoQualifiers (tree.Void 22 26) tree.NoQualifiers 22 26) (tree.Pointer tree.NoQualifiers (tree.Named 10 28 29) 27 29) 22 29) tree.NoParameters)) 8 29) 6 30) 5 30) (src.Compound (src.ConsBlockItem (src.DeclarationItem (src.OfBlockDeclaration (tree.OfSpecs (tree.ConsQualifier (tree.Const 31 36) tree.NoQualifiers) (tree.Void 37 41) tree.NoQualifiers 31 41) ((src.OfInitDeclarator (tree.Pointer tree.NoQualifiers (tree.Named 11 43 44) 42 44) (Some (src.Value (tree.Identifier 9 47 48) 47 48)) 42 48) ∷ []) 31 49) 31 49) (src.ConsBlockItem (src.DeclarationItem (src.OfBlockDeclaration (tree.OfSpecs tree.NoQualifiers (tree.Words (word.Int ∷ []) 50 53) tree.NoQualifiers 50 53) ((src.OfInitDeclarator (tree.Pointer tree.NoQualifiers (tree.Named 12 55 56) 54 56) (Some (src.Value (tree.Identifier 10 59 60) 59 60)) 54 60) ∷ []) 50 61) 50 61) (src.ConsBlockItem (src.StatementItem (src.Expression (Some (tree.Binary op.Assign (tree.Identifier 10 62 63) (tree.Identifier 12 66 67) 62 67)) 62 68) 62 68) (src.ConsBlockItem (src.StatementItem (src.Return (Some (tree.Conditional (tree.Binary op.Equal (tree.Identifier 12 76 77) (tree.Identifier 10 81 82) 76 82) (tree.Identifier 10 85 86) (tree.Identifier 12 89 90) 76 90)) 69 91) 69 91) src.NoBlockItems)))) 30 92) 0 92) 0 92) ∷ [])) ≡ true
unfolding computing
void_pointers = refl

-- `_Bool f(int *p){_Bool b = p; return p && b;}`
truth_of_a_pointer : keeps_the_rules (typed (names (codes "f" ∷ codes "p" ∷ codes "b" ∷ [])) ((src.Defined (src.OfFunctionDefinition None (tree.OfSpecs tree.NoQualifiers (tree.Boolean 0 5) tree.NoQualifiers 0 5) (tree.Function (tree.Named 8 6 7) (tree.Listed (tree.ConsParameter (tree.OfParameter (tree.OfSpecs tree.NoQualifiers (tree.Words (word.Int ∷ []) 8 11) tree.NoQualifiers 8 11) (tree.Pointer tree.NoQualifiers (tree.Named 9 13 14) 12 14) 8 14) tree.NoParameters) 8 14) 6 15) (src.Compound (src.ConsBlockItem (src.DeclarationItem (src.OfBlockDeclaration (tree.OfSpecs tree.NoQualifiers (tree.Boolean 16 21) tree.NoQualifiers 16 21) ((src.OfInitDeclarator (tree.Named 10 22 23) (Some (src.Value (tree.Identifier 9 26 27) 26 27)) 22 27) ∷ []) 16 28) 16 28) (src.ConsBlockItem (src.StatementItem (src.Return (Some (tree.Binary op.LogicalAnd (tree.Identifier 9 36 37) (tree.Identifier 10 41 42) 36 42)) 29 43) 29 43) src.NoBlockItems)) 15 44) 0 44) 0 44) ∷ [])) ≡ true
unfolding computing
truth_of_a_pointer = refl

-- #include <stdio.h>
-- long g[1]; int main(void){g[-2]=0;putchar(65);return 0;}
outside_its_object : keeps_the_rules (typed (names (codes "g" ∷ codes "main" ∷ codes "putchar" ∷ [])) ((src.Included include.Stdio 0 18) ∷ (src.Declared (src.OfDeclaration None (tree.OfSpecs tree.NoQualifiers (tree.Words (word.Long ∷ []) 19 23) tree.NoQualifiers 19 23) ((src.OfInitDeclarator (tree.Array (tree.Named 8 24 25) (tree.SomeExpr (tree.Integer 1 true false false 26 27)) 24 28) None 24 28) ∷ []) 19 29) 19 29) ∷ (src.Defined (src.OfFunctionDefinition None (tree.OfSpecs tree.NoQualifiers (tree.Words (word.Int ∷ []) 30 33) tree.NoQualifiers 30 33) (tree.Function (tree.Named 9 34 38) (tree.OnlyVoid 39 43) 34 44) (src.Compound (src.ConsBlockItem (src.StatementItem (src.Expression (Some (tree.Binary op.Assign (tree.Index (tree.Identifier 8 45 46) (tree.Prefix prefix.Minus (tree.Integer 2 true false false 48 49) 47 49) 45 50) (tree.Integer 0 false false false 51 52) 45 52)) 45 53) 45 53) (src.ConsBlockItem (src.StatementItem (src.Expression (Some (tree.Call (tree.Identifier 10 53 60) (tree.ConsExpr (tree.Integer 65 true false false 61 63) tree.NoExprs) 53 64)) 53 65) 53 65) (src.ConsBlockItem (src.StatementItem (src.Return (Some (tree.Integer 0 false false false 72 73)) 65 74) 65 74) src.NoBlockItems))) 44 75) 30 75) 30 75) ∷ [])) ≡ true
unfolding computing
outside_its_object = refl

-- `int f(int n){int a[4000];a[0]=n;return f(a[0]+1);} int main(void){return f(0);}`
deep_calls : keeps_the_rules (typed (names (codes "f" ∷ codes "n" ∷ codes "a" ∷ codes "main" ∷ [])) ((src.Defined (src.OfFunctionDefinition None (tree.OfSpecs tree.NoQualifiers (tree.Words (word.Int ∷ []) 0 3) tree.NoQualifiers 0 3) (tree.Function (tree.Named 8 4 5) (tree.Listed (tree.ConsParameter (tree.OfParameter (tree.OfSpecs tree.NoQualifiers (tree.Words (word.Int ∷ []) 6 9) tree.NoQualifiers 6 9) (tree.Named 9 10 11) 6 11) tree.NoParameters) 6 11) 4 12) (src.Compound (src.ConsBlockItem (src.DeclarationItem (src.OfBlockDeclaration (tree.OfSpecs tree.NoQualifiers (tree.Words (word.Int ∷ []) 13 16) tree.NoQualifiers 13 16) ((src.OfInitDeclarator (tree.Array (tree.Named 10 17 18) (tree.SomeExpr (tree.Integer 4000 true false false 19 23)) 17 24) None 17 24) ∷ []) 13 25) 13 25) (src.ConsBlockItem (src.StatementItem (src.Expression (Some (tree.Binary op.Assign (tree.Index (tree.Identifier 10 25 26) (tree.Integer 0 false false false 27 28) 25 29) (tree.Identifier 9 30 31) 25 31)) 25 32) 25 32) (src.ConsBlockItem (src.StatementItem (src.Return (Some (tree.Call (tree.Identifier 8 39 40) (tree.ConsExpr (tree.Binary op.Add (tree.Index (tree.Identifier 10 41 42) (tree.Integer 0 false false false 43 44) 41 45) (tree.Integer 1 true false false 46 47) 41 47) tree.NoExprs) 39 48)) 32 49) 32 49) src.NoBlockItems))) 12 50) 0 50) 0 50) ∷ (src.Defined (src.OfFunctionDefinition None (tree.OfSpecs tree.NoQualifiers (tree.Words (word.Int ∷ []) 51 54) tree.NoQualifiers 51 54) (tree.Function (tree.Named 11 55 59) (tree.OnlyVoid 60 64) 55 65) (src.Compound (src.ConsBlockItem (src.StatementItem (src.Return (Some (tree.Call (tree.Identifier 8 73 74) (tree.ConsExpr (tree.Integer 0 false false false 75 76) tree.NoExprs) 73 77)) 66 78) 66 78) src.NoBlockItems) 65 79) 51 79) 51 79) ∷ [])) ≡ true
unfolding computing
deep_calls = refl

-- `int *f(void){int x; int *p; x=1; p=&x; return p;} int main(void){return f()==f();}`
two_dead_objects : keeps_the_rules (typed (names (codes "f" ∷ codes "x" ∷ codes "p" ∷ codes "main" ∷ [])) ((src.Defined (src.OfFunctionDefinition None (tree.OfSpecs tree.NoQualifiers (tree.Words (word.Int ∷ []) 0 3) tree.NoQualifiers 0 3) (tree.Pointer tree.NoQualifiers (tree.Function (tree.Named 8 5 6) (tree.OnlyVoid 7 11) 5 12) 4 12) (src.Compound (src.ConsBlockItem (src.DeclarationItem (src.OfBlockDeclaration (tree.OfSpecs tree.NoQualifiers (tree.Words (word.Int ∷ []) 13 16) tree.NoQualifiers 13 16) ((src.OfInitDeclarator (tree.Named 9 17 18) None 17 18) ∷ []) 13 19) 13 19) (src.ConsBlockItem (src.DeclarationItem (src.OfBlockDeclaration (tree.OfSpecs tree.NoQualifiers (tree.Words (word.Int ∷ []) 20 23) tree.NoQualifiers 20 23) ((src.OfInitDeclarator (tree.Pointer tree.NoQualifiers (tree.Named 10 25 26) 24 26) None 24 26) ∷ []) 20 27) 20 27) (src.ConsBlockItem (src.StatementItem (src.Expression (Some (tree.Binary op.Assign (tree.Identifier 9 28 29) (tree.Integer 1 true false false 30 31) 28 31)) 28 32) 28 32) (src.ConsBlockItem (src.StatementItem (src.Expression (Some (tree.Binary op.Assign (tree.Identifier 10 33 34) (tree.Prefix prefix.Address (tree.Identifier 9 36 37) 35 37) 33 37)) 33 38) 33 38) (src.ConsBlockItem (src.StatementItem (src.Return (Some (tree.Identifier 10 46 47)) 39 48) 39 48) src.NoBlockItems))))) 12 49) 0 49) 0 49) ∷ (src.Defined (src.OfFunctionDefinition None (tree.OfSpecs tree.NoQualifiers (tree.Words (word.Int ∷ []) 50 53) tree.NoQualifiers 50 53) (tree.Function (tree.Named 11 54 58) (tree.OnlyVoid 59 63) 54 64) (src.Compound (src.ConsBlockItem (src.StatementItem (src.Return (Some (tree.Binary op.Equal (tree.Call (tree.Identifier 8 72 73) tree.NoExprs 72 75) (tree.Call (tree.Identifier 8 77 78) tree.NoExprs 77 80) 72 80)) 65 81) 65 81) src.NoBlockItems) 64 82) 50 82) 50 82) ∷ [])) ≡ true
unfolding computing
two_dead_objects = refl

-- #include <stdio.h>
-- struct pt { char c; long n; };
-- struct pt v[2] = { { 'x', 2 }, { 'y', 1 } };
-- int main(void) {
--     struct pt *p;
--     char *s = "!\n";
--     for (p = v; p < v + 2; p = p + 1) { long i; for (i = 0; i < p->n; i = i + 1) putchar(p->c); }
--     while (*s) { putchar(*s); s = s + 1; }
--     return sizeof(struct pt);
-- }
points : keeps_the_rules (typed (names (codes "pt" ∷ codes "c" ∷ codes "n" ∷ codes "v" ∷ codes "main" ∷ codes "p" ∷ codes "s" ∷ codes "i" ∷ codes "putchar" ∷ [])) ((src.Included include.Stdio 0 18) ∷ (src.Declared (src.OfDeclaration None (tree.OfSpecs tree.NoQualifiers (tree.StructBody (Some (record { name = 8; from = 26; to = 28 })) (tree.ConsMember (tree.OfMember (tree.OfSpecs tree.NoQualifiers (tree.Words (word.Char ∷ []) 31 35) tree.NoQualifiers 31 35) (tree.ConsDeclarator (tree.Named 9 36 37) tree.NoDeclarators) 31 38) (tree.ConsMember (tree.OfMember (tree.OfSpecs tree.NoQualifiers (tree.Words (word.Long ∷ []) 39 43) tree.NoQualifiers 39 43) (tree.ConsDeclarator (tree.Named 10 44 45) tree.NoDeclarators) 39 46) tree.NoMembers)) 19 48) tree.NoQualifiers 19 48) [] 19 49) 19 49) ∷ (src.Declared (src.OfDeclaration None (tree.OfSpecs tree.NoQualifiers (tree.StructTag (record { name = 8; from = 57; to = 59 }) 50 59) tree.NoQualifiers 50 59) ((src.OfInitDeclarator (tree.Array (tree.Named 11 60 61) (tree.SomeExpr (tree.Integer 2 true false false 62 63)) 60 64) (Some (src.Braced (src.ConsInitializer (src.Braced (src.ConsInitializer (src.Value (tree.Character (pos 120) 71 74) 71 74) (src.ConsInitializer (src.Value (tree.Integer 2 true false false 76 77) 76 77) src.NoInitializers)) 69 79) (src.ConsInitializer (src.Braced (src.ConsInitializer (src.Value (tree.Character (pos 121) 83 86) 83 86) (src.ConsInitializer (src.Value (tree.Integer 1 true false false 88 89) 88 89) src.NoInitializers)) 81 91) src.NoInitializers)) 67 93)) 60 93) ∷ []) 50 94) 50 94) ∷ (src.Defined (src.OfFunctionDefinition None (tree.OfSpecs tree.NoQualifiers (tree.Words (word.Int ∷ []) 95 98) tree.NoQualifiers 95 98) (tree.Function (tree.Named 12 99 103) (tree.OnlyVoid 104 108) 99 109) (src.Compound (src.ConsBlockItem (src.DeclarationItem (src.OfBlockDeclaration (tree.OfSpecs tree.NoQualifiers (tree.StructTag (record { name = 8; from = 123; to = 125 }) 116 125) tree.NoQualifiers 116 125) ((src.OfInitDeclarator (tree.Pointer tree.NoQualifiers (tree.Named 13 127 128) 126 128) None 126 128) ∷ []) 116 129) 116 129) (src.ConsBlockItem (src.DeclarationItem (src.OfBlockDeclaration (tree.OfSpecs tree.NoQualifiers (tree.Words (word.Char ∷ []) 134 138) tree.NoQualifiers 134 138) ((src.OfInitDeclarator (tree.Pointer tree.NoQualifiers (tree.Named 14 140 141) 139 141) (Some (src.Value (tree.Text (33 ∷ 10 ∷ []) 144 149) 144 149)) 139 149) ∷ []) 134 150) 134 150) (src.ConsBlockItem (src.StatementItem (src.For (src.Evaluates (Some (tree.Binary op.Assign (tree.Identifier 13 160 161) (tree.Identifier 11 164 165) 160 165)) 160 166) (Some (tree.Binary op.Less (tree.Identifier 13 167 168) (tree.Binary op.Add (tree.Identifier 11 171 172) (tree.Integer 2 true false false 175 176) 171 176) 167 176)) (Some (tree.Binary op.Assign (tree.Identifier 13 178 179) (tree.Binary op.Add (tree.Identifier 13 182 183) (tree.Integer 1 true false false 186 187) 182 187) 178 187)) (src.Compound (src.ConsBlockItem (src.DeclarationItem (src.OfBlockDeclaration (tree.OfSpecs tree.NoQualifiers (tree.Words (word.Long ∷ []) 191 195) tree.NoQualifiers 191 195) ((src.OfInitDeclarator (tree.Named 15 196 197) None 196 197) ∷ []) 191 198) 191 198) (src.ConsBlockItem (src.StatementItem (src.For (src.Evaluates (Some (tree.Binary op.Assign (tree.Identifier 15 204 205) (tree.Integer 0 false false false 208 209) 204 209)) 204 210) (Some (tree.Binary op.Less (tree.Identifier 15 211 212) (tree.Arrow (tree.Identifier 13 215 216) 10 215 219) 211 219)) (Some (tree.Binary op.Assign (tree.Identifier 15 221 222) (tree.Binary op.Add (tree.Identifier 15 225 226) (tree.Integer 1 true false false 229 230) 225 230) 221 230)) (src.Expression (Some (tree.Call (tree.Identifier 16 232 239) (tree.ConsExpr (tree.Arrow (tree.Identifier 13 240 241) 9 240 244) tree.NoExprs) 232 245)) 232 246) 199 246) 199 246) src.NoBlockItems)) 189 248) 155 248) 155 248) (src.ConsBlockItem (src.StatementItem (src.While (tree.Prefix prefix.Indirection (tree.Identifier 14 261 262) 260 262) (src.Compound (src.ConsBlockItem (src.StatementItem (src.Expression (Some (tree.Call (tree.Identifier 16 266 273) (tree.ConsExpr (tree.Prefix prefix.Indirection (tree.Identifier 14 275 276) 274 276) tree.NoExprs) 266 277)) 266 278) 266 278) (src.ConsBlockItem (src.StatementItem (src.Expression (Some (tree.Binary op.Assign (tree.Identifier 14 279 280) (tree.Binary op.Add (tree.Identifier 14 283 284) (tree.Integer 1 true false false 287 288) 283 288) 279 288)) 279 289) 279 289) src.NoBlockItems)) 264 291) 253 291) 253 291) (src.ConsBlockItem (src.StatementItem (src.Return (Some (tree.SizeofType (tree.OfTypeName (tree.OfSpecs tree.NoQualifiers (tree.StructTag (record { name = 8; from = 317; to = 319 }) 310 319) tree.NoQualifiers 310 319) (tree.Absent 319 319) 310 319) 303 320)) 296 321) 296 321) src.NoBlockItems))))) 110 323) 95 323) 95 323) ∷ [])) ≡ true
unfolding computing
points = refl

-- `char a[2][3] = {"ab", "cd"}; char *b[] = {"x", "yz"}; struct s {char c[3]; int n;} v = {"ab"}; int f(void){char c[2][2] = {{'a'}, "b"}; return c[1][0];}`
texts_in_rows : keeps_the_rules (typed (names (codes "a" ∷ codes "b" ∷ codes "s" ∷ codes "c" ∷ codes "n" ∷ codes "v" ∷ codes "f" ∷ [])) ((src.Declared (src.OfDeclaration None (tree.OfSpecs tree.NoQualifiers (tree.Words (word.Char ∷ []) 0 4) tree.NoQualifiers 0 4) ((src.OfInitDeclarator (tree.Array (tree.Array (tree.Named 8 5 6) (tree.SomeExpr (tree.Integer 2 true false false 7 8)) 5 9) (tree.SomeExpr (tree.Integer 3 true false false 10 11)) 5 12) (Some (src.Braced (src.ConsInitializer (src.Value (tree.Text (97 ∷ 98 ∷ []) 16 20) 16 20) (src.ConsInitializer (src.Value (tree.Text (99 ∷ 100 ∷ []) 22 26) 22 26) src.NoInitializers)) 15 27)) 5 27) ∷ []) 0 28) 0 28) ∷ (src.Declared (src.OfDeclaration None (tree.OfSpecs tree.NoQualifiers (tree.Words (word.Char ∷ []) 29 33) tree.NoQualifiers 29 33) ((src.OfInitDeclarator (tree.Pointer tree.NoQualifiers (tree.Array (tree.Named 9 35 36) tree.NoExpr 35 38) 34 38) (Some (src.Braced (src.ConsInitializer (src.Value (tree.Text (120 ∷ []) 42 45) 42 45) (src.ConsInitializer (src.Value (tree.Text (121 ∷ 122 ∷ []) 47 51) 47 51) src.NoInitializers)) 41 52)) 34 52) ∷ []) 29 53) 29 53) ∷ (src.Declared (src.OfDeclaration None (tree.OfSpecs tree.NoQualifiers (tree.StructBody (Some (record { name = 10; from = 61; to = 62 })) (tree.ConsMember (tree.OfMember (tree.OfSpecs tree.NoQualifiers (tree.Words (word.Char ∷ []) 64 68) tree.NoQualifiers 64 68) (tree.ConsDeclarator (tree.Array (tree.Named 11 69 70) (tree.SomeExpr (tree.Integer 3 true false false 71 72)) 69 73) tree.NoDeclarators) 64 74) (tree.ConsMember (tree.OfMember (tree.OfSpecs tree.NoQualifiers (tree.Words (word.Int ∷ []) 75 78) tree.NoQualifiers 75 78) (tree.ConsDeclarator (tree.Named 12 79 80) tree.NoDeclarators) 75 81) tree.NoMembers)) 54 82) tree.NoQualifiers 54 82) ((src.OfInitDeclarator (tree.Named 13 83 84) (Some (src.Braced (src.ConsInitializer (src.Value (tree.Text (97 ∷ 98 ∷ []) 88 92) 88 92) src.NoInitializers) 87 93)) 83 93) ∷ []) 54 94) 54 94) ∷ (src.Defined (src.OfFunctionDefinition None (tree.OfSpecs tree.NoQualifiers (tree.Words (word.Int ∷ []) 95 98) tree.NoQualifiers 95 98) (tree.Function (tree.Named 14 99 100) (tree.OnlyVoid 101 105) 99 106) (src.Compound (src.ConsBlockItem (src.DeclarationItem (src.OfBlockDeclaration (tree.OfSpecs tree.NoQualifiers (tree.Words (word.Char ∷ []) 107 111) tree.NoQualifiers 107 111) ((src.OfInitDeclarator (tree.Array (tree.Array (tree.Named 11 112 113) (tree.SomeExpr (tree.Integer 2 true false false 114 115)) 112 116) (tree.SomeExpr (tree.Integer 2 true false false 117 118)) 112 119) (Some (src.Braced (src.ConsInitializer (src.Braced (src.ConsInitializer (src.Value (tree.Character (pos 97) 124 127) 124 127) src.NoInitializers) 123 128) (src.ConsInitializer (src.Value (tree.Text (98 ∷ []) 130 133) 130 133) src.NoInitializers)) 122 134)) 112 134) ∷ []) 107 135) 107 135) (src.ConsBlockItem (src.StatementItem (src.Return (Some (tree.Index (tree.Index (tree.Identifier 11 143 144) (tree.Integer 1 true false false 145 146) 143 147) (tree.Integer 0 false false false 148 149) 143 150)) 136 151) 136 151) src.NoBlockItems)) 106 152) 95 152) 95 152) ∷ [])) ≡ true
unfolding computing
texts_in_rows = refl

-- #include <stdio.h>
-- int f(int *p, void (*g)(void)){return p == 0 || NULL != g || (p < (0));}
null_compared : keeps_the_rules (typed (names (codes "f" ∷ codes "p" ∷ codes "g" ∷ codes "NULL" ∷ [])) ((src.Included include.Stdio 0 18) ∷ (src.Defined (src.OfFunctionDefinition None (tree.OfSpecs tree.NoQualifiers (tree.Words (word.Int ∷ []) 19 22) tree.NoQualifiers 19 22) (tree.Function (tree.Named 8 23 24) (tree.Listed (tree.ConsParameter (tree.OfParameter (tree.OfSpecs tree.NoQualifiers (tree.Words (word.Int ∷ []) 25 28) tree.NoQualifiers 25 28) (tree.Pointer tree.NoQualifiers (tree.Named 9 30 31) 29 31) 25 31) (tree.ConsParameter (tree.OfParameter (tree.OfSpecs tree.NoQualifiers (tree.Void 33 37) tree.NoQualifiers 33 37) (tree.Function (tree.Grouped (tree.Pointer tree.NoQualifiers (tree.Named 10 40 41) 39 41) 38 42) (tree.OnlyVoid 43 47) 38 48) 33 48) tree.NoParameters)) 25 48) 23 49) (src.Compound (src.ConsBlockItem (src.StatementItem (src.Return (Some (tree.Binary op.LogicalOr (tree.Binary op.LogicalOr (tree.Binary op.Equal (tree.Identifier 9 57 58) (tree.Integer 0 false false false 62 63) 57 63) (tree.Binary op.NotEqual (tree.Identifier 11 67 71) (tree.Identifier 10 75 76) 67 76) 57 76) (tree.Paren (tree.Binary op.Less (tree.Identifier 9 81 82) (tree.Paren (tree.Integer 0 false false false 86 87) 85 88) 81 88) 80 89) 57 89)) 50 90) 50 90) src.NoBlockItems) 49 91) 19 91) 19 91) ∷ [])) ≡ true
unfolding computing
null_compared = refl

-- `int f(int, char *s){return *s;}`
parameters_without_names : keeps_the_rules (typed (names (codes "f" ∷ codes "s" ∷ [])) ((src.Defined (src.OfFunctionDefinition None (tree.OfSpecs tree.NoQualifiers (tree.Words (word.Int ∷ []) 0 3) tree.NoQualifiers 0 3) (tree.Function (tree.Named 8 4 5) (tree.Listed (tree.ConsParameter (tree.OfParameter (tree.OfSpecs tree.NoQualifiers (tree.Words (word.Int ∷ []) 6 9) tree.NoQualifiers 6 9) (tree.Absent 9 9) 6 9) (tree.ConsParameter (tree.OfParameter (tree.OfSpecs tree.NoQualifiers (tree.Words (word.Char ∷ []) 11 15) tree.NoQualifiers 11 15) (tree.Pointer tree.NoQualifiers (tree.Named 9 17 18) 16 18) 11 18) tree.NoParameters)) 6 18) 4 19) (src.Compound (src.ConsBlockItem (src.StatementItem (src.Return (Some (tree.Prefix prefix.Indirection (tree.Identifier 9 28 29) 27 29)) 20 30) 20 30) src.NoBlockItems) 19 31) 0 31) 0 31) ∷ [])) ≡ true
unfolding computing
parameters_without_names = refl

-- `int f(int a[], int g(int)){return g(a[0]);} int h(int *a, int (*g)(int)); int (*p)(int *, int (*)(int)) = f;`
parameters_adjusted : keeps_the_rules (typed (names (codes "f" ∷ codes "a" ∷ codes "g" ∷ codes "h" ∷ codes "p" ∷ [])) ((src.Defined (src.OfFunctionDefinition None (tree.OfSpecs tree.NoQualifiers (tree.Words (word.Int ∷ []) 0 3) tree.NoQualifiers 0 3) (tree.Function (tree.Named 8 4 5) (tree.Listed (tree.ConsParameter (tree.OfParameter (tree.OfSpecs tree.NoQualifiers (tree.Words (word.Int ∷ []) 6 9) tree.NoQualifiers 6 9) (tree.Array (tree.Named 9 10 11) tree.NoExpr 10 13) 6 13) (tree.ConsParameter (tree.OfParameter (tree.OfSpecs tree.NoQualifiers (tree.Words (word.Int ∷ []) 15 18) tree.NoQualifiers 15 18) (tree.Function (tree.Named 10 19 20) (tree.Listed (tree.ConsParameter (tree.OfParameter (tree.OfSpecs tree.NoQualifiers (tree.Words (word.Int ∷ []) 21 24) tree.NoQualifiers 21 24) (tree.Absent 24 24) 21 24) tree.NoParameters) 21 24) 19 25) 15 25) tree.NoParameters)) 6 25) 4 26) (src.Compound (src.ConsBlockItem (src.StatementItem (src.Return (Some (tree.Call (tree.Identifier 10 34 35) (tree.ConsExpr (tree.Index (tree.Identifier 9 36 37) (tree.Integer 0 false false false 38 39) 36 40) tree.NoExprs) 34 41)) 27 42) 27 42) src.NoBlockItems) 26 43) 0 43) 0 43) ∷ (src.Declared (src.OfDeclaration None (tree.OfSpecs tree.NoQualifiers (tree.Words (word.Int ∷ []) 44 47) tree.NoQualifiers 44 47) ((src.OfInitDeclarator (tree.Function (tree.Named 11 48 49) (tree.Listed (tree.ConsParameter (tree.OfParameter (tree.OfSpecs tree.NoQualifiers (tree.Words (word.Int ∷ []) 50 53) tree.NoQualifiers 50 53) (tree.Pointer tree.NoQualifiers (tree.Named 9 55 56) 54 56) 50 56) (tree.ConsParameter (tree.OfParameter (tree.OfSpecs tree.NoQualifiers (tree.Words (word.Int ∷ []) 58 61) tree.NoQualifiers 58 61) (tree.Function (tree.Grouped (tree.Pointer tree.NoQualifiers (tree.Named 10 64 65) 63 65) 62 66) (tree.Listed (tree.ConsParameter (tree.OfParameter (tree.OfSpecs tree.NoQualifiers (tree.Words (word.Int ∷ []) 67 70) tree.NoQualifiers 67 70) (tree.Absent 70 70) 67 70) tree.NoParameters) 67 70) 62 71) 58 71) tree.NoParameters)) 50 71) 48 72) None 48 72) ∷ []) 44 73) 44 73) ∷ (src.Declared (src.OfDeclaration None (tree.OfSpecs tree.NoQualifiers (tree.Words (word.Int ∷ []) 74 77) tree.NoQualifiers 74 77) ((src.OfInitDeclarator (tree.Function (tree.Grouped (tree.Pointer tree.NoQualifiers (tree.Named 12 80 81) 79 81) 78 82) (tree.Listed (tree.ConsParameter (tree.OfParameter (tree.OfSpecs tree.NoQualifiers (tree.Words (word.Int ∷ []) 83 86) tree.NoQualifiers 83 86) (tree.Pointer tree.NoQualifiers (tree.Absent 88 88) 87 88) 83 88) (tree.ConsParameter (tree.OfParameter (tree.OfSpecs tree.NoQualifiers (tree.Words (word.Int ∷ []) 90 93) tree.NoQualifiers 90 93) (tree.Function (tree.Grouped (tree.Pointer tree.NoQualifiers (tree.Absent 96 96) 95 96) 94 97) (tree.Listed (tree.ConsParameter (tree.OfParameter (tree.OfSpecs tree.NoQualifiers (tree.Words (word.Int ∷ []) 98 101) tree.NoQualifiers 98 101) (tree.Absent 101 101) 98 101) tree.NoParameters) 98 101) 94 102) 90 102) tree.NoParameters)) 83 102) 78 103) (Some (src.Value (tree.Identifier 8 106 107) 106 107)) 78 107) ∷ []) 74 108) 74 108) ∷ [])) ≡ true
unfolding computing
parameters_adjusted = refl

-- `int f(const int a); int f(int a){return a;}`
parameter_const : keeps_the_rules (typed (names (codes "f" ∷ codes "a" ∷ [])) ((src.Declared (src.OfDeclaration None (tree.OfSpecs tree.NoQualifiers (tree.Words (word.Int ∷ []) 0 3) tree.NoQualifiers 0 3) ((src.OfInitDeclarator (tree.Function (tree.Named 8 4 5) (tree.Listed (tree.ConsParameter (tree.OfParameter (tree.OfSpecs (tree.ConsQualifier (tree.Const 6 11) tree.NoQualifiers) (tree.Words (word.Int ∷ []) 12 15) tree.NoQualifiers 6 15) (tree.Named 9 16 17) 6 17) tree.NoParameters) 6 17) 4 18) None 4 18) ∷ []) 0 19) 0 19) ∷ (src.Defined (src.OfFunctionDefinition None (tree.OfSpecs tree.NoQualifiers (tree.Words (word.Int ∷ []) 20 23) tree.NoQualifiers 20 23) (tree.Function (tree.Named 8 24 25) (tree.Listed (tree.ConsParameter (tree.OfParameter (tree.OfSpecs tree.NoQualifiers (tree.Words (word.Int ∷ []) 26 29) tree.NoQualifiers 26 29) (tree.Named 9 30 31) 26 31) tree.NoParameters) 26 31) 24 32) (src.Compound (src.ConsBlockItem (src.StatementItem (src.Return (Some (tree.Identifier 9 40 41)) 33 42) 33 42) src.NoBlockItems) 32 43) 20 43) 20 43) ∷ [])) ≡ true
unfolding computing
parameter_const = refl

-- `int a; int f(int a){{int a = 1; return a;} return a;}`
inner_block : keeps_the_rules (typed (names (codes "a" ∷ codes "f" ∷ [])) ((src.Declared (src.OfDeclaration None (tree.OfSpecs tree.NoQualifiers (tree.Words (word.Int ∷ []) 0 3) tree.NoQualifiers 0 3) ((src.OfInitDeclarator (tree.Named 8 4 5) None 4 5) ∷ []) 0 6) 0 6) ∷ (src.Defined (src.OfFunctionDefinition None (tree.OfSpecs tree.NoQualifiers (tree.Words (word.Int ∷ []) 7 10) tree.NoQualifiers 7 10) (tree.Function (tree.Named 9 11 12) (tree.Listed (tree.ConsParameter (tree.OfParameter (tree.OfSpecs tree.NoQualifiers (tree.Words (word.Int ∷ []) 13 16) tree.NoQualifiers 13 16) (tree.Named 8 17 18) 13 18) tree.NoParameters) 13 18) 11 19) (src.Compound (src.ConsBlockItem (src.StatementItem (src.Compound (src.ConsBlockItem (src.DeclarationItem (src.OfBlockDeclaration (tree.OfSpecs tree.NoQualifiers (tree.Words (word.Int ∷ []) 21 24) tree.NoQualifiers 21 24) ((src.OfInitDeclarator (tree.Named 8 25 26) (Some (src.Value (tree.Integer 1 true false false 29 30) 29 30)) 25 30) ∷ []) 21 31) 21 31) (src.ConsBlockItem (src.StatementItem (src.Return (Some (tree.Identifier 8 39 40)) 32 41) 32 41) src.NoBlockItems)) 20 42) 20 42) (src.ConsBlockItem (src.StatementItem (src.Return (Some (tree.Identifier 8 50 51)) 43 52) 43 52) src.NoBlockItems)) 19 53) 7 53) 7 53) ∷ [])) ≡ true
unfolding computing
inner_block = refl

-- `typedef int t; typedef t *pt; typedef t array[2]; const array a = {1, 2}; int f(pt p){const array *q = &a; return *p + (*q)[1];}`
typedefs : keeps_the_rules (typed (names (codes "t" ∷ codes "pt" ∷ codes "array" ∷ codes "a" ∷ codes "f" ∷ codes "p" ∷ codes "q" ∷ [])) ((src.Declared (src.OfDeclaration (Some storage.Typedef) (tree.OfSpecs tree.NoQualifiers (tree.Words (word.Int ∷ []) 8 11) tree.NoQualifiers 8 11) ((src.OfInitDeclarator (tree.Named 8 12 13) None 12 13) ∷ []) 0 14) 0 14) ∷ (src.Declared (src.OfDeclaration (Some storage.Typedef) (tree.OfSpecs tree.NoQualifiers (tree.TypedefName 8 23 24) tree.NoQualifiers 23 24) ((src.OfInitDeclarator (tree.Pointer tree.NoQualifiers (tree.Named 9 26 28) 25 28) None 25 28) ∷ []) 15 29) 15 29) ∷ (src.Declared (src.OfDeclaration (Some storage.Typedef) (tree.OfSpecs tree.NoQualifiers (tree.TypedefName 8 38 39) tree.NoQualifiers 38 39) ((src.OfInitDeclarator (tree.Array (tree.Named 10 40 45) (tree.SomeExpr (tree.Integer 2 true false false 46 47)) 40 48) None 40 48) ∷ []) 30 49) 30 49) ∷ (src.Declared (src.OfDeclaration None (tree.OfSpecs (tree.ConsQualifier (tree.Const 50 55) tree.NoQualifiers) (tree.TypedefName 10 56 61) tree.NoQualifiers 50 61) ((src.OfInitDeclarator (tree.Named 11 62 63) (Some (src.Braced (src.ConsInitializer (src.Value (tree.Integer 1 true false false 67 68) 67 68) (src.ConsInitializer (src.Value (tree.Integer 2 true false false 70 71) 70 71) src.NoInitializers)) 66 72)) 62 72) ∷ []) 50 73) 50 73) ∷ (src.Defined (src.OfFunctionDefinition None (tree.OfSpecs tree.NoQualifiers (tree.Words (word.Int ∷ []) 74 77) tree.NoQualifiers 74 77) (tree.Function (tree.Named 12 78 79) (tree.Listed (tree.ConsParameter (tree.OfParameter (tree.OfSpecs tree.NoQualifiers (tree.TypedefName 9 80 82) tree.NoQualifiers 80 82) (tree.Named 13 83 84) 80 84) tree.NoParameters) 80 84) 78 85) (src.Compound (src.ConsBlockItem (src.DeclarationItem (src.OfBlockDeclaration (tree.OfSpecs (tree.ConsQualifier (tree.Const 86 91) tree.NoQualifiers) (tree.TypedefName 10 92 97) tree.NoQualifiers 86 97) ((src.OfInitDeclarator (tree.Pointer tree.NoQualifiers (tree.Named 14 99 100) 98 100) (Some (src.Value (tree.Prefix prefix.Address (tree.Identifier 11 104 105) 103 105) 103 105)) 98 105) ∷ []) 86 106) 86 106) (src.ConsBlockItem (src.StatementItem (src.Return (Some (tree.Binary op.Add (tree.Prefix prefix.Indirection (tree.Identifier 13 115 116) 114 116) (tree.Index (tree.Paren (tree.Prefix prefix.Indirection (tree.Identifier 14 121 122) 120 122) 119 123) (tree.Integer 1 true false false 124 125) 119 126) 114 126)) 107 127) 107 127) src.NoBlockItems)) 85 128) 74 128) 74 128) ∷ [])) ≡ true
unfolding computing
typedefs = refl

-- `unsigned long int a; long long unsigned b; short c; signed char d; char *e = &d;`
signed_words : keeps_the_rules (typed (names (codes "a" ∷ codes "b" ∷ codes "c" ∷ codes "d" ∷ codes "e" ∷ [])) ((src.Declared (src.OfDeclaration None (tree.OfSpecs tree.NoQualifiers (tree.Words (word.Unsigned ∷ word.Long ∷ word.Int ∷ []) 0 17) tree.NoQualifiers 0 17) ((src.OfInitDeclarator (tree.Named 8 18 19) None 18 19) ∷ []) 0 20) 0 20) ∷ (src.Declared (src.OfDeclaration None (tree.OfSpecs tree.NoQualifiers (tree.Words (word.Long ∷ word.Long ∷ word.Unsigned ∷ []) 21 39) tree.NoQualifiers 21 39) ((src.OfInitDeclarator (tree.Named 9 40 41) None 40 41) ∷ []) 21 42) 21 42) ∷ (src.Declared (src.OfDeclaration None (tree.OfSpecs tree.NoQualifiers (tree.Words (word.Short ∷ []) 43 48) tree.NoQualifiers 43 48) ((src.OfInitDeclarator (tree.Named 10 49 50) None 49 50) ∷ []) 43 51) 43 51) ∷ (src.Declared (src.OfDeclaration None (tree.OfSpecs tree.NoQualifiers (tree.Words (word.Signed ∷ word.Char ∷ []) 52 63) tree.NoQualifiers 52 63) ((src.OfInitDeclarator (tree.Named 11 64 65) None 64 65) ∷ []) 52 66) 52 66) ∷ (src.Declared (src.OfDeclaration None (tree.OfSpecs tree.NoQualifiers (tree.Words (word.Char ∷ []) 67 71) tree.NoQualifiers 67 71) ((src.OfInitDeclarator (tree.Pointer tree.NoQualifiers (tree.Named 12 73 74) 72 74) (Some (src.Value (tree.Prefix prefix.Address (tree.Identifier 11 78 79) 77 79) 77 79)) 72 79) ∷ []) 67 80) 67 80) ∷ [])) ≡ true
unfolding computing
signed_words = refl

-- #include <stdint.h>
-- uint8_t a; unsigned char *p = &a; int64_t b; long *q = &b;
-- #include <stdint.h>
stdint_names : keeps_the_rules (typed (names (codes "a" ∷ codes "p" ∷ codes "b" ∷ codes "q" ∷ [])) ((src.Included include.Stdint 0 19) ∷ (src.Declared (src.OfDeclaration None (tree.OfSpecs tree.NoQualifiers (tree.TypedefName 4 20 27) tree.NoQualifiers 20 27) ((src.OfInitDeclarator (tree.Named 8 28 29) None 28 29) ∷ []) 20 30) 20 30) ∷ (src.Declared (src.OfDeclaration None (tree.OfSpecs tree.NoQualifiers (tree.Words (word.Unsigned ∷ word.Char ∷ []) 31 44) tree.NoQualifiers 31 44) ((src.OfInitDeclarator (tree.Pointer tree.NoQualifiers (tree.Named 9 46 47) 45 47) (Some (src.Value (tree.Prefix prefix.Address (tree.Identifier 8 51 52) 50 52) 50 52)) 45 52) ∷ []) 31 53) 31 53) ∷ (src.Declared (src.OfDeclaration None (tree.OfSpecs tree.NoQualifiers (tree.TypedefName 3 54 61) tree.NoQualifiers 54 61) ((src.OfInitDeclarator (tree.Named 10 62 63) None 62 63) ∷ []) 54 64) 54 64) ∷ (src.Declared (src.OfDeclaration None (tree.OfSpecs tree.NoQualifiers (tree.Words (word.Long ∷ []) 65 69) tree.NoQualifiers 65 69) ((src.OfInitDeclarator (tree.Pointer tree.NoQualifiers (tree.Named 11 71 72) 70 72) (Some (src.Value (tree.Prefix prefix.Address (tree.Identifier 10 76 77) 75 77) 75 77)) 70 77) ∷ []) 65 78) 65 78) ∷ (src.Included include.Stdint 79 98) ∷ [])) ≡ true
unfolding computing
stdint_names = refl

-- `int f(int a){int b; do {if (a) break; else continue;} while (a--); for (int i = 0; i < 3; i++) ; for (;;) return a; b; f; ; return 1;}`
statements : keeps_the_rules (typed (names (codes "f" ∷ codes "a" ∷ codes "b" ∷ codes "i" ∷ [])) ((src.Defined (src.OfFunctionDefinition None (tree.OfSpecs tree.NoQualifiers (tree.Words (word.Int ∷ []) 0 3) tree.NoQualifiers 0 3) (tree.Function (tree.Named 8 4 5) (tree.Listed (tree.ConsParameter (tree.OfParameter (tree.OfSpecs tree.NoQualifiers (tree.Words (word.Int ∷ []) 6 9) tree.NoQualifiers 6 9) (tree.Named 9 10 11) 6 11) tree.NoParameters) 6 11) 4 12) (src.Compound (src.ConsBlockItem (src.DeclarationItem (src.OfBlockDeclaration (tree.OfSpecs tree.NoQualifiers (tree.Words (word.Int ∷ []) 13 16) tree.NoQualifiers 13 16) ((src.OfInitDeclarator (tree.Named 10 17 18) None 17 18) ∷ []) 13 19) 13 19) (src.ConsBlockItem (src.StatementItem (src.DoWhile (src.Compound (src.ConsBlockItem (src.StatementItem (src.IfElse (tree.Identifier 9 28 29) (src.Break 31 37) (src.Continue 43 52) 24 52) 24 52) src.NoBlockItems) 23 53) (tree.Postfix step.Decrement (tree.Identifier 9 61 62) 61 64) 20 66) 20 66) (src.ConsBlockItem (src.StatementItem (src.For (src.Declares (src.OfBlockDeclaration (tree.OfSpecs tree.NoQualifiers (tree.Words (word.Int ∷ []) 72 75) tree.NoQualifiers 72 75) ((src.OfInitDeclarator (tree.Named 11 76 77) (Some (src.Value (tree.Integer 0 false false false 80 81) 80 81)) 76 81) ∷ []) 72 82) 72 82) (Some (tree.Binary op.Less (tree.Identifier 11 83 84) (tree.Integer 3 true false false 87 88) 83 88)) (Some (tree.Postfix step.Increment (tree.Identifier 11 90 91) 90 93)) (src.Expression None 95 96) 67 96) 67 96) (src.ConsBlockItem (src.StatementItem (src.For (src.Evaluates None 102 103) None None (src.Return (Some (tree.Identifier 9 113 114)) 106 115) 97 115) 97 115) (src.ConsBlockItem (src.StatementItem (src.Expression (Some (tree.Identifier 10 116 117)) 116 118) 116 118) (src.ConsBlockItem (src.StatementItem (src.Expression (Some (tree.Identifier 8 119 120)) 119 121) 119 121) (src.ConsBlockItem (src.StatementItem (src.Expression None 122 123) 122 123) (src.ConsBlockItem (src.StatementItem (src.Return (Some (tree.Integer 1 true false false 131 132)) 124 133) 124 133) src.NoBlockItems)))))))) 12 134) 0 134) 0 134) ∷ [])) ≡ true
unfolding computing
statements = refl

-- `struct s {int a; int b[2];} v, w; int f(int c){v; (c, v); return (c ? v : w).a + (c, w).b[1];}`
struct_places : keeps_the_rules (typed (names (codes "s" ∷ codes "a" ∷ codes "b" ∷ codes "v" ∷ codes "w" ∷ codes "f" ∷ codes "c" ∷ [])) ((src.Declared (src.OfDeclaration None (tree.OfSpecs tree.NoQualifiers (tree.StructBody (Some (record { name = 8; from = 7; to = 8 })) (tree.ConsMember (tree.OfMember (tree.OfSpecs tree.NoQualifiers (tree.Words (word.Int ∷ []) 10 13) tree.NoQualifiers 10 13) (tree.ConsDeclarator (tree.Named 9 14 15) tree.NoDeclarators) 10 16) (tree.ConsMember (tree.OfMember (tree.OfSpecs tree.NoQualifiers (tree.Words (word.Int ∷ []) 17 20) tree.NoQualifiers 17 20) (tree.ConsDeclarator (tree.Array (tree.Named 10 21 22) (tree.SomeExpr (tree.Integer 2 true false false 23 24)) 21 25) tree.NoDeclarators) 17 26) tree.NoMembers)) 0 27) tree.NoQualifiers 0 27) ((src.OfInitDeclarator (tree.Named 11 28 29) None 28 29) ∷ (src.OfInitDeclarator (tree.Named 12 31 32) None 31 32) ∷ []) 0 33) 0 33) ∷ (src.Defined (src.OfFunctionDefinition None (tree.OfSpecs tree.NoQualifiers (tree.Words (word.Int ∷ []) 34 37) tree.NoQualifiers 34 37) (tree.Function (tree.Named 13 38 39) (tree.Listed (tree.ConsParameter (tree.OfParameter (tree.OfSpecs tree.NoQualifiers (tree.Words (word.Int ∷ []) 40 43) tree.NoQualifiers 40 43) (tree.Named 14 44 45) 40 45) tree.NoParameters) 40 45) 38 46) (src.Compound (src.ConsBlockItem (src.StatementItem (src.Expression (Some (tree.Identifier 11 47 48)) 47 49) 47 49) (src.ConsBlockItem (src.StatementItem (src.Expression (Some (tree.Paren (tree.Binary op.Comma (tree.Identifier 14 51 52) (tree.Identifier 11 54 55) 51 55) 50 56)) 50 57) 50 57) (src.ConsBlockItem (src.StatementItem (src.Return (Some (tree.Binary op.Add (tree.Dot (tree.Paren (tree.Conditional (tree.Identifier 14 66 67) (tree.Identifier 11 70 71) (tree.Identifier 12 74 75) 66 75) 65 76) 9 65 78) (tree.Index (tree.Dot (tree.Paren (tree.Binary op.Comma (tree.Identifier 14 82 83) (tree.Identifier 12 85 86) 82 86) 81 87) 10 81 89) (tree.Integer 1 true false false 90 91) 81 92) 65 92)) 58 93) 58 93) src.NoBlockItems))) 46 94) 34 94) 34 94) ∷ [])) ≡ true
unfolding computing
struct_places = refl

-- `int a[3]; int f(void){return sizeof a + sizeof(int (*)[3]) + sizeof f() + sizeof *a;}`
size_of : keeps_the_rules (typed (names (codes "a" ∷ codes "f" ∷ [])) ((src.Declared (src.OfDeclaration None (tree.OfSpecs tree.NoQualifiers (tree.Words (word.Int ∷ []) 0 3) tree.NoQualifiers 0 3) ((src.OfInitDeclarator (tree.Array (tree.Named 8 4 5) (tree.SomeExpr (tree.Integer 3 true false false 6 7)) 4 8) None 4 8) ∷ []) 0 9) 0 9) ∷ (src.Defined (src.OfFunctionDefinition None (tree.OfSpecs tree.NoQualifiers (tree.Words (word.Int ∷ []) 10 13) tree.NoQualifiers 10 13) (tree.Function (tree.Named 9 14 15) (tree.OnlyVoid 16 20) 14 21) (src.Compound (src.ConsBlockItem (src.StatementItem (src.Return (Some (tree.Binary op.Add (tree.Binary op.Add (tree.Binary op.Add (tree.SizeofExpr (tree.Identifier 8 36 37) 29 37) (tree.SizeofType (tree.OfTypeName (tree.OfSpecs tree.NoQualifiers (tree.Words (word.Int ∷ []) 47 50) tree.NoQualifiers 47 50) (tree.Array (tree.Grouped (tree.Pointer tree.NoQualifiers (tree.Absent 53 53) 52 53) 51 54) (tree.SomeExpr (tree.Integer 3 true false false 55 56)) 51 57) 47 57) 40 58) 29 58) (tree.SizeofExpr (tree.Call (tree.Identifier 9 68 69) tree.NoExprs 68 71) 61 71) 29 71) (tree.SizeofExpr (tree.Prefix prefix.Indirection (tree.Identifier 8 82 83) 81 83) 74 83) 29 83)) 22 84) 22 84) src.NoBlockItems) 21 85) 10 85) 10 85) ∷ [])) ≡ true
unfolding computing
size_of = refl

-- `struct s {int a;} v; void f(int a){(void)a; (void)v; (void)0;}`
value_cast_away : keeps_the_rules (typed (names (codes "s" ∷ codes "a" ∷ codes "v" ∷ codes "f" ∷ [])) ((src.Declared (src.OfDeclaration None (tree.OfSpecs tree.NoQualifiers (tree.StructBody (Some (record { name = 8; from = 7; to = 8 })) (tree.ConsMember (tree.OfMember (tree.OfSpecs tree.NoQualifiers (tree.Words (word.Int ∷ []) 10 13) tree.NoQualifiers 10 13) (tree.ConsDeclarator (tree.Named 9 14 15) tree.NoDeclarators) 10 16) tree.NoMembers) 0 17) tree.NoQualifiers 0 17) ((src.OfInitDeclarator (tree.Named 10 18 19) None 18 19) ∷ []) 0 20) 0 20) ∷ (src.Defined (src.OfFunctionDefinition None (tree.OfSpecs tree.NoQualifiers (tree.Void 21 25) tree.NoQualifiers 21 25) (tree.Function (tree.Named 11 26 27) (tree.Listed (tree.ConsParameter (tree.OfParameter (tree.OfSpecs tree.NoQualifiers (tree.Words (word.Int ∷ []) 28 31) tree.NoQualifiers 28 31) (tree.Named 9 32 33) 28 33) tree.NoParameters) 28 33) 26 34) (src.Compound (src.ConsBlockItem (src.StatementItem (src.Expression (Some (tree.Cast (tree.OfTypeName (tree.OfSpecs tree.NoQualifiers (tree.Void 36 40) tree.NoQualifiers 36 40) (tree.Absent 40 40) 36 40) (tree.Identifier 9 41 42) 35 42)) 35 43) 35 43) (src.ConsBlockItem (src.StatementItem (src.Expression (Some (tree.Cast (tree.OfTypeName (tree.OfSpecs tree.NoQualifiers (tree.Void 45 49) tree.NoQualifiers 45 49) (tree.Absent 49 49) 45 49) (tree.Identifier 10 50 51) 44 51)) 44 52) 44 52) (src.ConsBlockItem (src.StatementItem (src.Expression (Some (tree.Cast (tree.OfTypeName (tree.OfSpecs tree.NoQualifiers (tree.Void 54 58) tree.NoQualifiers 54 58) (tree.Absent 58 58) 54 58) (tree.Integer 0 false false false 59 60) 53 60)) 53 61) 53 61) src.NoBlockItems))) 34 62) 21 62) 21 62) ∷ [])) ≡ true
unfolding computing
value_cast_away = refl

-- `void f(void){1 ? f() : f(); f(), f();}`
comma_and_choice_of_void : keeps_the_rules (typed (names (codes "f" ∷ [])) ((src.Defined (src.OfFunctionDefinition None (tree.OfSpecs tree.NoQualifiers (tree.Void 0 4) tree.NoQualifiers 0 4) (tree.Function (tree.Named 8 5 6) (tree.OnlyVoid 7 11) 5 12) (src.Compound (src.ConsBlockItem (src.StatementItem (src.Expression (Some (tree.Conditional (tree.Integer 1 true false false 13 14) (tree.Call (tree.Identifier 8 17 18) tree.NoExprs 17 20) (tree.Call (tree.Identifier 8 23 24) tree.NoExprs 23 26) 13 26)) 13 27) 13 27) (src.ConsBlockItem (src.StatementItem (src.Expression (Some (tree.Binary op.Comma (tree.Call (tree.Identifier 8 28 29) tree.NoExprs 28 31) (tree.Call (tree.Identifier 8 33 34) tree.NoExprs 33 36) 28 36)) 28 37) 28 37) src.NoBlockItems)) 12 38) 0 38) 0 38) ∷ [])) ≡ true
unfolding computing
comma_and_choice_of_void = refl

-- `int; struct s {int a;}; enum {e};`
nothing_declared : keeps_the_rules (typed (names (codes "s" ∷ codes "a" ∷ codes "e" ∷ [])) ((src.Declared (src.OfDeclaration None (tree.OfSpecs tree.NoQualifiers (tree.Words (word.Int ∷ []) 0 3) tree.NoQualifiers 0 3) [] 0 4) 0 4) ∷ (src.Declared (src.OfDeclaration None (tree.OfSpecs tree.NoQualifiers (tree.StructBody (Some (record { name = 8; from = 12; to = 13 })) (tree.ConsMember (tree.OfMember (tree.OfSpecs tree.NoQualifiers (tree.Words (word.Int ∷ []) 15 18) tree.NoQualifiers 15 18) (tree.ConsDeclarator (tree.Named 9 19 20) tree.NoDeclarators) 15 21) tree.NoMembers) 5 22) tree.NoQualifiers 5 22) [] 5 23) 5 23) ∷ (src.Declared (src.OfDeclaration None (tree.OfSpecs tree.NoQualifiers (tree.EnumBody None (tree.ConsEnumerator (tree.OfEnumerator 10 tree.NoExpr 30 31) tree.NoEnumerators) 24 32) tree.NoQualifiers 24 32) [] 24 33) 24 33) ∷ [])) ≡ true
unfolding computing
nothing_declared = refl
