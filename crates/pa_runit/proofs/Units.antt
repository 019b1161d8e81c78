-- The units of small files, by hand: whole or a part.
use Rattle.std.proofs.Common.{◌≡◌, ℕ, pos, Bool, true, false, List, [], ◌∷◌, Some, None, Ok, Err, refl, codes}
use Rattle.pa_lex.specs.declared.token.Include.TheVariants as include
use Rattle.pa_tree.specs.declared.operator.Step.TheVariants as step
use Rattle.pa_tree.specs.declared.operator.PrefixOperator.TheVariants as prefix
use Rattle.pa_tree.specs.declared.operator.BinaryOperator.TheVariants as op
use Rattle.pa_tree.specs.declared.operator.IntegerWord.TheVariants as word
use Rattle.pa_tree.specs.declared.file.Storage.TheVariants as storage
use Rattle.pa_tree.specs.Exprs as tree
use Rattle.pa_tree.specs.Stmts as src
use Rattle.pa_tree.specs.Stmts.{FileTree}
use Rattle.pa_scope.specs.Answers.{Answer}
use Rattle.pa_typed.specs.Units.{UnitTree, LocalTree, CellTree, GlobalTree}
use Rattle.pa_runit.specs.Units.{typed}
use Rattle.pa_runit.proofs.Computing.{computing}
use Rattle.pa_ctype.specs.Types.{TypeTree, Of, Array, Struct, Function, Nil, Cons}
use Rattle.pa_typed.specs.declared.expr.BinaryOperation.TheVariants as binary
use Rattle.pa_typed.specs.declared.expr.Comparison.TheVariants as comparison
use Rattle.pa_typed.specs.Typed.{TypedExpr, LocalPlace, StringPlace, Same, Deref, Number, Load, Store, AddressOf, Convert, Binary, Compare, GivenValue, GivenText, Evaluates, Compound, InitLocal, Expression, For, Switch, Case, Default, Break, Return, NoTStmts, ConsTStmt}
use Rattle.pa_convert.specs.Conversions.{char, int, long, unsigned_long, void, pointer_to}
use Rattle.pa_rexpr.proofs.Spelled.{names}

abbrev array : TypeTree → ℕ → TypeTree
array of count = Of false (Array of (Some count))

abbrev no_arguments : TypeTree → TypeTree
no_arguments result = Of false (Function Nil result)

abbrev object : TypeTree → ℕ → ℕ → LocalTree
object of size align = record { of = of; size = size; align = align }

abbrev cell : ℕ → TypeTree → TypedExpr → CellTree
cell at of value = record { at = at; of = of; value = value }

abbrev global : List ℕ → ℕ → Bool → LocalTree → List CellTree → GlobalTree
global name place public o cells = record { name = name; place = place; public = public; of = o.of; size = o.size; align = o.align; cells = cells }

-- a part of a unit
abbrev part : {A : Type 0} → (UnitTree → A) → Answer UnitTree → Answer A
part choose (Ok u) = Ok (choose u)
part choose (Err b) = Err b

-- `int main(void){return 0;}`
smallest : typed (names (codes "main" ∷ [])) ((src.Defined (src.OfFunctionDefinition None (tree.OfSpecs tree.NoQualifiers (tree.Words (word.Int ∷ []) 0 3) tree.NoQualifiers 0 3) (tree.Function (tree.Named 8 4 8) (tree.OnlyVoid 9 13) 4 14) (src.Compound (src.ConsBlockItem (src.StatementItem (src.Return (Some (tree.Integer 0 false false false 22 23)) 15 24) 15 24) src.NoBlockItems) 14 25) 0 25) 0 25) ∷ [])
    ≡ Ok (record {
      functions = record { name = codes "main"; place = 4; public = true; of = no_arguments int; parameters = 0; locals = []; body = Compound (ConsTStmt (Return (Some (Number 0 int))) NoTStmts) } ∷ [];
      globals = [];
      declared = record { name = codes "main"; place = 4; public = true; of = no_arguments int } ∷ [];
      structs = [];
      texts = [];
      nodes = 4;
    })
unfolding computing
smallest = refl

-- ``
empty : typed (names []) []
    ≡ Ok (record { functions = []; globals = []; declared = []; structs = []; texts = []; nodes = 0 })
unfolding computing
empty = refl

-- static int f(void); int f(void){return 1;} int g(int);
-- #include <stdio.h>
declarations : part (λ u. u.declared) (typed (names (codes "f" ∷ codes "g" ∷ [])) ((src.Declared (src.OfDeclaration (Some storage.Static) (tree.OfSpecs tree.NoQualifiers (tree.Words (word.Int ∷ []) 7 10) tree.NoQualifiers 7 10) ((src.OfInitDeclarator (tree.Function (tree.Named 8 11 12) (tree.OnlyVoid 13 17) 11 18) None 11 18) ∷ []) 0 19) 0 19) ∷ (src.Defined (src.OfFunctionDefinition None (tree.OfSpecs tree.NoQualifiers (tree.Words (word.Int ∷ []) 20 23) tree.NoQualifiers 20 23) (tree.Function (tree.Named 8 24 25) (tree.OnlyVoid 26 30) 24 31) (src.Compound (src.ConsBlockItem (src.StatementItem (src.Return (Some (tree.Integer 1 true false false 39 40)) 32 41) 32 41) src.NoBlockItems) 31 42) 20 42) 20 42) ∷ (src.Declared (src.OfDeclaration None (tree.OfSpecs tree.NoQualifiers (tree.Words (word.Int ∷ []) 43 46) tree.NoQualifiers 43 46) ((src.OfInitDeclarator (tree.Function (tree.Named 9 47 48) (tree.Listed (tree.ConsParameter (tree.OfParameter (tree.OfSpecs tree.NoQualifiers (tree.Words (word.Int ∷ []) 49 52) tree.NoQualifiers 49 52) (tree.Absent 52 52) 49 52) tree.NoParameters) 49 52) 47 53) None 47 53) ∷ []) 43 54) 43 54) ∷ (src.Included include.Stdio 55 73) ∷ []))
    ≡ Ok (record { name = codes "f"; place = 11; public = false; of = no_arguments int } ∷ record { name = codes "f"; place = 24; public = false; of = no_arguments int }
    ∷ record { name = codes "g"; place = 47; public = true; of = Of false (Function (Cons int Nil) int) } ∷ record { name = codes "putchar"; place = 55; public = true; of = Of false (Function (Cons int Nil) int) }
    ∷ record { name = codes "getchar"; place = 55; public = true; of = no_arguments int } ∷ [])
unfolding computing
declarations = refl

-- `int a; extern int b; int c; int a = 3; static char s[] = "hi";`
objects : part (λ u. u.globals) (typed (names (codes "a" ∷ codes "b" ∷ codes "c" ∷ codes "s" ∷ [])) ((src.Declared (src.OfDeclaration None (tree.OfSpecs tree.NoQualifiers (tree.Words (word.Int ∷ []) 0 3) tree.NoQualifiers 0 3) ((src.OfInitDeclarator (tree.Named 8 4 5) None 4 5) ∷ []) 0 6) 0 6) ∷ (src.Declared (src.OfDeclaration (Some storage.Extern) (tree.OfSpecs tree.NoQualifiers (tree.Words (word.Int ∷ []) 14 17) tree.NoQualifiers 14 17) ((src.OfInitDeclarator (tree.Named 9 18 19) None 18 19) ∷ []) 7 20) 7 20) ∷ (src.Declared (src.OfDeclaration None (tree.OfSpecs tree.NoQualifiers (tree.Words (word.Int ∷ []) 21 24) tree.NoQualifiers 21 24) ((src.OfInitDeclarator (tree.Named 10 25 26) None 25 26) ∷ []) 21 27) 21 27) ∷ (src.Declared (src.OfDeclaration None (tree.OfSpecs tree.NoQualifiers (tree.Words (word.Int ∷ []) 28 31) tree.NoQualifiers 28 31) ((src.OfInitDeclarator (tree.Named 8 32 33) (Some (src.Value (tree.Integer 3 true false false 36 37) 36 37)) 32 37) ∷ []) 28 38) 28 38) ∷ (src.Declared (src.OfDeclaration (Some storage.Static) (tree.OfSpecs tree.NoQualifiers (tree.Words (word.Char ∷ []) 46 50) tree.NoQualifiers 46 50) ((src.OfInitDeclarator (tree.Array (tree.Named 11 51 52) tree.NoExpr 51 54) (Some (src.Value (tree.Text (104 ∷ 105 ∷ []) 57 61) 57 61)) 51 61) ∷ []) 39 62) 39 62) ∷ []))
    ≡ Ok (global (codes "c") 25 true (object int 4 4) []
    ∷ global (codes "a") 32 true (object int 4 4) (cell 0 int (Number 3 int) ∷ [])
    ∷ global (codes "s") 51 false (object (array char 3) 3 1) (cell 0 char (Number 104 char) ∷ cell 1 char (Number 105 char) ∷ cell 2 char (Number 0 char) ∷ []) ∷ [])
unfolding computing
objects = refl

-- `struct p {char c; long n;}; struct p v[2] = {{'x', 2}, {'y'}};`
structs_in_an_array : part (λ u. u.globals) (typed (names (codes "p" ∷ codes "c" ∷ codes "n" ∷ codes "v" ∷ [])) ((src.Declared (src.OfDeclaration None (tree.OfSpecs tree.NoQualifiers (tree.StructBody (Some (record { name = 8; from = 7; to = 8 })) (tree.ConsMember (tree.OfMember (tree.OfSpecs tree.NoQualifiers (tree.Words (word.Char ∷ []) 10 14) tree.NoQualifiers 10 14) (tree.ConsDeclarator (tree.Named 9 15 16) tree.NoDeclarators) 10 17) (tree.ConsMember (tree.OfMember (tree.OfSpecs tree.NoQualifiers (tree.Words (word.Long ∷ []) 18 22) tree.NoQualifiers 18 22) (tree.ConsDeclarator (tree.Named 10 23 24) tree.NoDeclarators) 18 25) tree.NoMembers)) 0 26) tree.NoQualifiers 0 26) [] 0 27) 0 27) ∷ (src.Declared (src.OfDeclaration None (tree.OfSpecs tree.NoQualifiers (tree.StructTag (record { name = 8; from = 35; to = 36 }) 28 36) tree.NoQualifiers 28 36) ((src.OfInitDeclarator (tree.Array (tree.Named 11 37 38) (tree.SomeExpr (tree.Integer 2 true false false 39 40)) 37 41) (Some (src.Braced (src.ConsInitializer (src.Braced (src.ConsInitializer (src.Value (tree.Character (pos 120) 46 49) 46 49) (src.ConsInitializer (src.Value (tree.Integer 2 true false false 51 52) 51 52) src.NoInitializers)) 45 53) (src.ConsInitializer (src.Braced (src.ConsInitializer (src.Value (tree.Character (pos 121) 56 59) 56 59) src.NoInitializers) 55 60) src.NoInitializers)) 44 61)) 37 61) ∷ []) 28 62) 28 62) ∷ []))
    ≡ Ok (global (codes "v") 37 true (object (array (Of false (Struct 0)) 2) 32 8)
    (cell 0 char (Convert (Number 120 int) char) ∷ cell 8 long (Convert (Number 2 int) long) ∷ cell 16 char (Convert (Number 121 int) char) ∷ []) ∷ [])
unfolding computing
structs_in_an_array = refl

-- `struct a {struct b *p;}; struct {int n;} v; struct b {struct a q;};`
table_of_structs : part (λ u. u.structs) (typed (names (codes "a" ∷ codes "b" ∷ codes "p" ∷ codes "n" ∷ codes "v" ∷ codes "q" ∷ [])) ((src.Declared (src.OfDeclaration None (tree.OfSpecs tree.NoQualifiers (tree.StructBody (Some (record { name = 8; from = 7; to = 8 })) (tree.ConsMember (tree.OfMember (tree.OfSpecs tree.NoQualifiers (tree.StructTag (record { name = 9; from = 17; to = 18 }) 10 18) tree.NoQualifiers 10 18) (tree.ConsDeclarator (tree.Pointer tree.NoQualifiers (tree.Named 10 20 21) 19 21) tree.NoDeclarators) 10 22) tree.NoMembers) 0 23) tree.NoQualifiers 0 23) [] 0 24) 0 24) ∷ (src.Declared (src.OfDeclaration None (tree.OfSpecs tree.NoQualifiers (tree.StructBody None (tree.ConsMember (tree.OfMember (tree.OfSpecs tree.NoQualifiers (tree.Words (word.Int ∷ []) 33 36) tree.NoQualifiers 33 36) (tree.ConsDeclarator (tree.Named 11 37 38) tree.NoDeclarators) 33 39) tree.NoMembers) 25 40) tree.NoQualifiers 25 40) ((src.OfInitDeclarator (tree.Named 12 41 42) None 41 42) ∷ []) 25 43) 25 43) ∷ (src.Declared (src.OfDeclaration None (tree.OfSpecs tree.NoQualifiers (tree.StructBody (Some (record { name = 9; from = 51; to = 52 })) (tree.ConsMember (tree.OfMember (tree.OfSpecs tree.NoQualifiers (tree.StructTag (record { name = 8; from = 61; to = 62 }) 54 62) tree.NoQualifiers 54 62) (tree.ConsDeclarator (tree.Named 13 63 64) tree.NoDeclarators) 54 65) tree.NoMembers) 44 66) tree.NoQualifiers 44 66) [] 44 67) 44 67) ∷ []))
    ≡ Ok (Some (record { name = codes "p"; of = pointer_to (Of false (Struct 1)) } ∷ []) ∷ Some (record { name = codes "q"; of = Of false (Struct 0) } ∷ [])
    ∷ Some (record { name = codes "n"; of = int } ∷ []) ∷ [])
unfolding computing
table_of_structs = refl

-- `char *p = "x"; char q[] = "y"; int f(void){char r[] = "z"; return sizeof "w" + *"v";}`
texts : part (λ u. u.texts) (typed (names (codes "p" ∷ codes "q" ∷ codes "f" ∷ codes "r" ∷ [])) ((src.Declared (src.OfDeclaration None (tree.OfSpecs tree.NoQualifiers (tree.Words (word.Char ∷ []) 0 4) tree.NoQualifiers 0 4) ((src.OfInitDeclarator (tree.Pointer tree.NoQualifiers (tree.Named 8 6 7) 5 7) (Some (src.Value (tree.Text (120 ∷ []) 10 13) 10 13)) 5 13) ∷ []) 0 14) 0 14) ∷ (src.Declared (src.OfDeclaration None (tree.OfSpecs tree.NoQualifiers (tree.Words (word.Char ∷ []) 15 19) tree.NoQualifiers 15 19) ((src.OfInitDeclarator (tree.Array (tree.Named 9 20 21) tree.NoExpr 20 23) (Some (src.Value (tree.Text (121 ∷ []) 26 29) 26 29)) 20 29) ∷ []) 15 30) 15 30) ∷ (src.Defined (src.OfFunctionDefinition None (tree.OfSpecs tree.NoQualifiers (tree.Words (word.Int ∷ []) 31 34) tree.NoQualifiers 31 34) (tree.Function (tree.Named 10 35 36) (tree.OnlyVoid 37 41) 35 42) (src.Compound (src.ConsBlockItem (src.DeclarationItem (src.OfBlockDeclaration (tree.OfSpecs tree.NoQualifiers (tree.Words (word.Char ∷ []) 43 47) tree.NoQualifiers 43 47) ((src.OfInitDeclarator (tree.Array (tree.Named 11 48 49) tree.NoExpr 48 51) (Some (src.Value (tree.Text (122 ∷ []) 54 57) 54 57)) 48 57) ∷ []) 43 58) 43 58) (src.ConsBlockItem (src.StatementItem (src.Return (Some (tree.Binary op.Add (tree.SizeofExpr (tree.Text (119 ∷ []) 73 76) 66 76) (tree.Prefix prefix.Indirection (tree.Text (118 ∷ []) 80 83) 79 83) 66 83)) 59 84) 59 84) src.NoBlockItems)) 42 85) 31 85) 31 85) ∷ []))
    ≡ Ok ((120 ∷ []) ∷ (122 ∷ []) ∷ (118 ∷ []) ∷ [])
unfolding computing
texts = refl

-- `char *p = "x"; char q[] = "y"; int f(void){char r[] = "z"; return sizeof "w" + *"v";}`
first_text : part (λ u. u.functions) (typed (names (codes "p" ∷ codes "q" ∷ codes "f" ∷ codes "r" ∷ [])) ((src.Declared (src.OfDeclaration None (tree.OfSpecs tree.NoQualifiers (tree.Words (word.Char ∷ []) 0 4) tree.NoQualifiers 0 4) ((src.OfInitDeclarator (tree.Pointer tree.NoQualifiers (tree.Named 8 6 7) 5 7) (Some (src.Value (tree.Text (120 ∷ []) 10 13) 10 13)) 5 13) ∷ []) 0 14) 0 14) ∷ (src.Declared (src.OfDeclaration None (tree.OfSpecs tree.NoQualifiers (tree.Words (word.Char ∷ []) 15 19) tree.NoQualifiers 15 19) ((src.OfInitDeclarator (tree.Array (tree.Named 9 20 21) tree.NoExpr 20 23) (Some (src.Value (tree.Text (121 ∷ []) 26 29) 26 29)) 20 29) ∷ []) 15 30) 15 30) ∷ (src.Defined (src.OfFunctionDefinition None (tree.OfSpecs tree.NoQualifiers (tree.Words (word.Int ∷ []) 31 34) tree.NoQualifiers 31 34) (tree.Function (tree.Named 10 35 36) (tree.OnlyVoid 37 41) 35 42) (src.Compound (src.ConsBlockItem (src.DeclarationItem (src.OfBlockDeclaration (tree.OfSpecs tree.NoQualifiers (tree.Words (word.Char ∷ []) 43 47) tree.NoQualifiers 43 47) ((src.OfInitDeclarator (tree.Array (tree.Named 11 48 49) tree.NoExpr 48 51) (Some (src.Value (tree.Text (122 ∷ []) 54 57) 54 57)) 48 57) ∷ []) 43 58) 43 58) (src.ConsBlockItem (src.StatementItem (src.Return (Some (tree.Binary op.Add (tree.SizeofExpr (tree.Text (119 ∷ []) 73 76) 66 76) (tree.Prefix prefix.Indirection (tree.Text (118 ∷ []) 80 83) 79 83) 66 83)) 59 84) 59 84) src.NoBlockItems)) 42 85) 31 85) 31 85) ∷ []))
    ≡ Ok (record {
      name = codes "f";
      place = 35;
      public = true;
      of = no_arguments int;
      parameters = 0;
      locals = object (array char 2) 2 1 ∷ [];
      body = Compound (ConsTStmt (InitLocal (record { local = 0; initials = Some (record { at = 0; of = array char 2; given = GivenText 1 } ∷ []) }))
          (ConsTStmt (Return (Some (Convert (Binary binary.Add (Number 2 unsigned_long) (Convert (Load (Deref (AddressOf (StringPlace 2 (array char 2)) (pointer_to char)) char) char) unsigned_long) unsigned_long) int))) NoTStmts));
    } ∷ [])
unfolding computing
first_text = refl

-- `long f(int n){int i; long s = 0; for (i = 0; i < n; i++) s += i; return s;}`
loop : part (λ u. u.functions) (typed (names (codes "f" ∷ codes "n" ∷ codes "i" ∷ codes "s" ∷ [])) ((src.Defined (src.OfFunctionDefinition None (tree.OfSpecs tree.NoQualifiers (tree.Words (word.Long ∷ []) 0 4) tree.NoQualifiers 0 4) (tree.Function (tree.Named 8 5 6) (tree.Listed (tree.ConsParameter (tree.OfParameter (tree.OfSpecs tree.NoQualifiers (tree.Words (word.Int ∷ []) 7 10) tree.NoQualifiers 7 10) (tree.Named 9 11 12) 7 12) tree.NoParameters) 7 12) 5 13) (src.Compound (src.ConsBlockItem (src.DeclarationItem (src.OfBlockDeclaration (tree.OfSpecs tree.NoQualifiers (tree.Words (word.Int ∷ []) 14 17) tree.NoQualifiers 14 17) ((src.OfInitDeclarator (tree.Named 10 18 19) None 18 19) ∷ []) 14 20) 14 20) (src.ConsBlockItem (src.DeclarationItem (src.OfBlockDeclaration (tree.OfSpecs tree.NoQualifiers (tree.Words (word.Long ∷ []) 21 25) tree.NoQualifiers 21 25) ((src.OfInitDeclarator (tree.Named 11 26 27) (Some (src.Value (tree.Integer 0 false false false 30 31) 30 31)) 26 31) ∷ []) 21 32) 21 32) (src.ConsBlockItem (src.StatementItem (src.For (src.Evaluates (Some (tree.Binary op.Assign (tree.Identifier 10 38 39) (tree.Integer 0 false false false 42 43) 38 43)) 38 44) (Some (tree.Binary op.Less (tree.Identifier 10 45 46) (tree.Identifier 9 49 50) 45 50)) (Some (tree.Postfix step.Increment (tree.Identifier 10 52 53) 52 55)) (src.Expression (Some (tree.Binary op.AddAssign (tree.Identifier 11 57 58) (tree.Identifier 10 62 63) 57 63)) 57 64) 33 64) 33 64) (src.ConsBlockItem (src.StatementItem (src.Return (Some (tree.Identifier 11 72 73)) 65 74) 65 74) src.NoBlockItems)))) 13 75) 0 75) 0 75) ∷ []))
    ≡ Ok (record {
      name = codes "f";
      place = 5;
      public = true;
      of = Of false (Function (Cons int Nil) long);
      parameters = 1;
      locals = object int 4 4 ∷ object int 4 4 ∷ object long 8 8 ∷ [];
      body = Compound (ConsTStmt (InitLocal (record { local = 1; initials = None }))
          (ConsTStmt (InitLocal (record { local = 2; initials = Some (record { at = 0; of = long; given = GivenValue (Convert (Number 0 int) long) } ∷ []) }))
          (ConsTStmt (For (Evaluates (Some (Store (LocalPlace 1 int) (Number 0 int) false int)))
          (Some (Compare comparison.Less (Load (LocalPlace 1 int) int) (Load (LocalPlace 0 int) int) int))
          (Some (Store (LocalPlace 1 int) (Binary binary.Add (Load (Same int) int) (Number 1 int) int) true int))
          (Expression (Some (Store (LocalPlace 2 long) (Binary binary.Add (Load (Same long) long) (Convert (Load (LocalPlace 1 int) int) long) long) false long))))
          (ConsTStmt (Return (Some (Load (LocalPlace 2 long) long))) NoTStmts))));
    } ∷ [])
unfolding computing
loop = refl

-- `void f(char c){switch(c) {case 'a': c = 1; break; default: ; case 4294967295: return;}}`
labels : part (λ u. u.functions) (typed (names (codes "f" ∷ codes "c" ∷ [])) ((src.Defined (src.OfFunctionDefinition None (tree.OfSpecs tree.NoQualifiers (tree.Void 0 4) tree.NoQualifiers 0 4) (tree.Function (tree.Named 8 5 6) (tree.Listed (tree.ConsParameter (tree.OfParameter (tree.OfSpecs tree.NoQualifiers (tree.Words (word.Char ∷ []) 7 11) tree.NoQualifiers 7 11) (tree.Named 9 12 13) 7 13) tree.NoParameters) 7 13) 5 14) (src.Compound (src.ConsBlockItem (src.StatementItem (src.Switch (tree.Identifier 9 22 23) (src.Compound (src.ConsBlockItem (src.StatementItem (src.Case (tree.Character (pos 97) 31 34) (src.Expression (Some (tree.Binary op.Assign (tree.Identifier 9 36 37) (tree.Integer 1 true false false 40 41) 36 41)) 36 42) 26 42) 26 42) (src.ConsBlockItem (src.StatementItem (src.Break 43 49) 43 49) (src.ConsBlockItem (src.StatementItem (src.Default (src.Expression None 59 60) 50 60) 50 60) (src.ConsBlockItem (src.StatementItem (src.Case (tree.Integer 4294967295 true false false 66 76) (src.Return None 78 85) 61 85) 61 85) src.NoBlockItems)))) 25 86) 15 86) 15 86) src.NoBlockItems) 14 87) 0 87) 0 87) ∷ []))
    ≡ Ok (record {
      name = codes "f";
      place = 5;
      public = true;
      of = Of false (Function (Cons char Nil) void);
      parameters = 1;
      locals = object char 1 1 ∷ [];
      body = Compound (ConsTStmt (Switch (Convert (Load (LocalPlace 0 char) char) int)
          (Compound (ConsTStmt (Case 97 int (Expression (Some (Store (LocalPlace 0 char) (Convert (Number 1 int) char) false char))))
          (ConsTStmt Break
          (ConsTStmt (Default (Expression None))
          (ConsTStmt (Case 0xFFFFFFFFFFFFFFFF int (Return None)) NoTStmts)))))) NoTStmts);
    } ∷ [])
unfolding computing
labels = refl

-- `struct p {char c; int a[2];}; void f(void){struct p v = {'x', {1}}; char t[3] = "a";}`
local_parts : part (λ u. u.functions) (typed (names (codes "p" ∷ codes "c" ∷ codes "a" ∷ codes "f" ∷ codes "v" ∷ codes "t" ∷ [])) ((src.Declared (src.OfDeclaration None (tree.OfSpecs tree.NoQualifiers (tree.StructBody (Some (record { name = 8; from = 7; to = 8 })) (tree.ConsMember (tree.OfMember (tree.OfSpecs tree.NoQualifiers (tree.Words (word.Char ∷ []) 10 14) tree.NoQualifiers 10 14) (tree.ConsDeclarator (tree.Named 9 15 16) tree.NoDeclarators) 10 17) (tree.ConsMember (tree.OfMember (tree.OfSpecs tree.NoQualifiers (tree.Words (word.Int ∷ []) 18 21) tree.NoQualifiers 18 21) (tree.ConsDeclarator (tree.Array (tree.Named 10 22 23) (tree.SomeExpr (tree.Integer 2 true false false 24 25)) 22 26) tree.NoDeclarators) 18 27) tree.NoMembers)) 0 28) tree.NoQualifiers 0 28) [] 0 29) 0 29) ∷ (src.Defined (src.OfFunctionDefinition None (tree.OfSpecs tree.NoQualifiers (tree.Void 30 34) tree.NoQualifiers 30 34) (tree.Function (tree.Named 11 35 36) (tree.OnlyVoid 37 41) 35 42) (src.Compound (src.ConsBlockItem (src.DeclarationItem (src.OfBlockDeclaration (tree.OfSpecs tree.NoQualifiers (tree.StructTag (record { name = 8; from = 50; to = 51 }) 43 51) tree.NoQualifiers 43 51) ((src.OfInitDeclarator (tree.Named 12 52 53) (Some (src.Braced (src.ConsInitializer (src.Value (tree.Character (pos 120) 57 60) 57 60) (src.ConsInitializer (src.Braced (src.ConsInitializer (src.Value (tree.Integer 1 true false false 63 64) 63 64) src.NoInitializers) 62 65) src.NoInitializers)) 56 66)) 52 66) ∷ []) 43 67) 43 67) (src.ConsBlockItem (src.DeclarationItem (src.OfBlockDeclaration (tree.OfSpecs tree.NoQualifiers (tree.Words (word.Char ∷ []) 68 72) tree.NoQualifiers 68 72) ((src.OfInitDeclarator (tree.Array (tree.Named 13 73 74) (tree.SomeExpr (tree.Integer 3 true false false 75 76)) 73 77) (Some (src.Value (tree.Text (97 ∷ []) 80 83) 80 83)) 73 83) ∷ []) 68 84) 68 84) src.NoBlockItems)) 42 85) 30 85) 30 85) ∷ []))
    ≡ Ok (record {
      name = codes "f";
      place = 35;
      public = true;
      of = no_arguments void;
      parameters = 0;
      locals = object (Of false (Struct 0)) 12 4 ∷ object (array char 3) 3 1 ∷ [];
      body = Compound (ConsTStmt (InitLocal (record { local = 0; initials = Some (record { at = 0; of = char; given = GivenValue (Convert (Number 120 int) char) } ∷ record { at = 4; of = int; given = GivenValue (Number 1 int) } ∷ []) }))
          (ConsTStmt (InitLocal (record { local = 1; initials = Some (record { at = 0; of = array char 3; given = GivenText 0 } ∷ []) })) NoTStmts));
    } ∷ [])
unfolding computing
local_parts = refl
