-- The typed forms of names, places, calls and literals, by hand.
use Rattle.std.proofs.Common.{◌≡◌, pos, true, false, [], ◌∷◌, Ok, refl, codes}
use Rattle.pa_sip.specs.Discriminator.{discriminator}
use Rattle.pa_tree.specs.declared.operator.PrefixOperator.TheVariants as prefix
use Rattle.pa_tree.specs.declared.operator.BinaryOperator.TheVariants as op
use Rattle.pa_tree.specs.declared.operator.IntegerWord.TheVariants as word
use Rattle.pa_tree.specs.Exprs as tree
use Rattle.pa_typed.specs.declared.expr.BinaryOperation.TheVariants as binary
use Rattle.pa_typed.specs.declared.expr.Comparison.TheVariants as comparison
use Rattle.pa_typed.specs.Typed.{GlobalPlace, StringPlace, Member, Index, Deref, Number, Load, LoadSigned, Store, StoreSigned, AddressOf, FunctionValue, Convert, Binary, Compare, Choose, CallDirect, CallPointer, NoTExprs, ConsTExpr}
use Rattle.pa_convert.specs.Conversions.{char, int, unsigned_int, long, unsigned_long, pointer_to}
use Rattle.pa_rexpr.specs.Values.{lvalue, temporary, value}
use Rattle.pa_rexpr.specs.Typing.{typing}
use Rattle.pa_rexpr.proofs.Computing.{computing}
use Rattle.pa_rexpr.proofs.Sample.{array, int_pointer, pair, pair_pointer, f_pointer, seven, scope, c_place, x_place, p_place, a_place, s_place, t_place, q_place, one}
use Rattle.pa_rexpr.proofs.Spelled.{names}

-- five string literals that lie in memory stand in front of each

-- `x`
read_local_row : typing (names (codes "x" ∷ [])) scope 5 (tree.Identifier 8 0 1)
    ≡ Ok (lvalue x_place int)
unfolding computing
read_local_row = refl

-- `x = 1`
left_of_assignment_row : typing (names (codes "x" ∷ [])) scope 5 (tree.Binary op.Assign (tree.Identifier 8 0 1) (tree.Integer 1 true false false 4 5) 0 5)
    ≡ Ok (value (Store x_place one false int) int)
unfolding computing
left_of_assignment_row = refl

-- `a[x]`
subscript_row : typing (names (codes "a" ∷ codes "x" ∷ [])) scope 5 (tree.Index (tree.Identifier 8 0 1) (tree.Identifier 9 2 3) 0 4)
    ≡ Ok (lvalue (Index (AddressOf a_place int_pointer) (Load x_place int) true int) int)
unfolding computing
subscript_row = refl

-- `x[p]`
subscript_turned_row : typing (names (codes "x" ∷ codes "p" ∷ [])) scope 5 (tree.Index (tree.Identifier 8 0 1) (tree.Identifier 9 2 3) 0 4)
    ≡ Ok (lvalue (Index (Load x_place int) (Load p_place int_pointer) false int) int)
unfolding computing
subscript_turned_row = refl

-- `*p`
star_row : typing (names (codes "p" ∷ [])) scope 5 (tree.Prefix prefix.Indirection (tree.Identifier 8 1 2) 0 2)
    ≡ Ok (lvalue (Deref (Load p_place int_pointer) int) int)
unfolding computing
star_row = refl

-- `&*p`
address_of_star_row : typing (names (codes "p" ∷ [])) scope 5 (tree.Prefix prefix.Address (tree.Prefix prefix.Indirection (tree.Identifier 8 2 3) 1 3) 0 3)
    ≡ Ok (value (AddressOf (Deref (Load p_place int_pointer) int) int_pointer) int_pointer)
unfolding computing
address_of_star_row = refl

-- `p = a`
array_as_pointer_row : typing (names (codes "p" ∷ codes "a" ∷ [])) scope 5 (tree.Binary op.Assign (tree.Identifier 8 0 1) (tree.Identifier 9 4 5) 0 5)
    ≡ Ok (value (Store p_place (AddressOf a_place int_pointer) false int_pointer) int_pointer)
unfolding computing
array_as_pointer_row = refl

-- `s.n`
member_row : typing (names (codes "s" ∷ codes "n" ∷ [])) scope 5 (tree.Dot (tree.Identifier 8 0 1) 9 0 3)
    ≡ Ok (lvalue (Member s_place 1 8 long) long)
unfolding computing
member_row = refl

-- `t->c`
member_behind_pointer_row : typing (names (codes "t" ∷ codes "c" ∷ [])) scope 5 (tree.Arrow (tree.Identifier 8 0 1) 9 0 4)
    ≡ Ok (lvalue (Member (Deref (Load t_place pair_pointer) pair) 0 0 char) char)
unfolding computing
member_behind_pointer_row = refl

-- `(x ? s : *t).n`
member_of_a_chosen_struct_row : typing (names (codes "x" ∷ codes "s" ∷ codes "t" ∷ codes "n" ∷ [])) scope 5 (tree.Dot (tree.Paren (tree.Conditional (tree.Identifier 8 1 2) (tree.Identifier 9 5 6) (tree.Prefix prefix.Indirection (tree.Identifier 10 10 11) 9 11) 1 11) 0 12) 11 0 14)
    ≡ Ok (temporary (Member (Choose (Load x_place int) s_place (Deref (Load t_place pair_pointer) pair) pair) 1 8 long) long)
unfolding computing
member_of_a_chosen_struct_row = refl

-- `s`
struct_alone_row : typing (names (codes "s" ∷ [])) scope 5 (tree.Identifier 8 0 1)
    ≡ Ok (lvalue s_place pair)
unfolding computing
struct_alone_row = refl

-- `sizeof a`
size_of_an_array_row : typing (names (codes "a" ∷ [])) scope 5 (tree.SizeofExpr (tree.Identifier 8 7 8) 0 8)
    ≡ Ok (value (Number 12 unsigned_long) unsigned_long)
unfolding computing
size_of_an_array_row = refl

-- `sizeof(struct pair)`
size_of_a_struct_row : typing (names (codes "pair" ∷ [])) scope 5 (tree.SizeofType (tree.OfTypeName (tree.OfSpecs tree.NoQualifiers (tree.StructTag (record { name = 8; from = 14; to = 18 }) 7 18) tree.NoQualifiers 7 18) (tree.Absent 18 18) 7 18) 0 19)
    ≡ Ok (value (Number 16 unsigned_long) unsigned_long)
unfolding computing
size_of_a_struct_row = refl

-- `sizeof(char *[2])`
size_of_a_type_row : typing (names []) scope 5 (tree.SizeofType (tree.OfTypeName (tree.OfSpecs tree.NoQualifiers (tree.Words (word.Char ∷ []) 7 11) tree.NoQualifiers 7 11) (tree.Pointer tree.NoQualifiers (tree.Array (tree.Absent 13 13) (tree.SomeExpr (tree.Integer 2 true false false 14 15)) 13 16) 12 16) 7 16) 0 17)
    ≡ Ok (value (Number 16 unsigned_long) unsigned_long)
unfolding computing
size_of_a_type_row = refl

-- `f(c)`
direct_row : typing (names (codes "f" ∷ codes "c" ∷ [])) scope 5 (tree.Call (tree.Identifier 8 0 1) (tree.ConsExpr (tree.Identifier 9 2 3) tree.NoExprs) 0 4)
    ≡ Ok (value (CallDirect (codes "f") 0 (ConsTExpr (Convert (Load c_place char) int) NoTExprs) int) int)
unfolding computing
direct_row = refl

-- `(f)(1)`
direct_in_parentheses_row : typing (names (codes "f" ∷ [])) scope 5 (tree.Call (tree.Paren (tree.Identifier 8 1 2) 0 3) (tree.ConsExpr (tree.Integer 1 true false false 4 5) tree.NoExprs) 0 6)
    ≡ Ok (value (CallDirect (codes "f") 1 (ConsTExpr one NoTExprs) int) int)
unfolding computing
direct_in_parentheses_row = refl

-- `(*f)(1)`
by_pointer_row : typing (names (codes "f" ∷ [])) scope 5 (tree.Call (tree.Paren (tree.Prefix prefix.Indirection (tree.Identifier 8 2 3) 1 3) 0 4) (tree.ConsExpr (tree.Integer 1 true false false 5 6) tree.NoExprs) 0 7)
    ≡ Ok (value (CallPointer (ConsTExpr one NoTExprs) (FunctionValue (codes "f") 2 f_pointer) int) int)
unfolding computing
by_pointer_row = refl

-- `(&f)(1)`
by_address_row : typing (names (codes "f" ∷ [])) scope 5 (tree.Call (tree.Paren (tree.Prefix prefix.Address (tree.Identifier 8 2 3) 1 3) 0 4) (tree.ConsExpr (tree.Integer 1 true false false 5 6) tree.NoExprs) 0 7)
    ≡ Ok (value (CallPointer (ConsTExpr one NoTExprs) (FunctionValue (codes "f") 2 f_pointer) int) int)
unfolding computing
by_address_row = refl

-- `q(1)`
by_qualified_row : typing (names (codes "q" ∷ [])) scope 5 (tree.Call (tree.Identifier 8 0 1) (tree.ConsExpr (tree.Integer 1 true false false 2 3) tree.NoExprs) 0 4)
    ≡ Ok (value (CallPointer (ConsTExpr one NoTExprs) (LoadSigned q_place seven f_pointer) int) int)
unfolding computing
by_qualified_row = refl

-- `q = f`
qualified_stored_row : typing (names (codes "q" ∷ codes "f" ∷ [])) scope 5 (tree.Binary op.Assign (tree.Identifier 8 0 1) (tree.Identifier 9 4 5) 0 5)
    ≡ Ok (value (StoreSigned q_place (FunctionValue (codes "f") 4 f_pointer) false seven f_pointer) f_pointer)
unfolding computing
qualified_stored_row = refl

-- `q == 0`
qualified_read_row : typing (names (codes "q" ∷ [])) scope 5 (tree.Binary op.Equal (tree.Identifier 8 0 1) (tree.Integer 0 false false false 5 6) 0 6)
    ≡ Ok (value (Compare comparison.Equal (LoadSigned q_place seven f_pointer) (Convert (Number 0 int) f_pointer) int) int)
unfolding computing
qualified_read_row = refl

-- `g`
global_row : typing (names (codes "g" ∷ [])) scope 5 (tree.Identifier 8 0 1)
    ≡ Ok (lvalue (GlobalPlace (codes "g") 0 int) int)
unfolding computing
global_row = refl

-- `"a" == "bc"`
texts_row : typing (names []) scope 5 (tree.Binary op.Equal (tree.Text (97 ∷ []) 0 3) (tree.Text (98 ∷ 99 ∷ []) 7 11) 0 11)
    ≡ Ok (value (Compare comparison.Equal (AddressOf (StringPlace 5 (array char 2)) (pointer_to char)) (AddressOf (StringPlace 6 (array char 3)) (pointer_to char)) int) int)
unfolding computing
texts_row = refl

-- `sizeof "a" + ("bc" == 0)`
texts_measured_row : typing (names []) scope 5 (tree.Binary op.Add (tree.SizeofExpr (tree.Text (97 ∷ []) 7 10) 0 10) (tree.Paren (tree.Binary op.Equal (tree.Text (98 ∷ 99 ∷ []) 14 18) (tree.Integer 0 false false false 22 23) 14 23) 13 24) 0 24)
    ≡ Ok (value (Binary binary.Add (Number 2 unsigned_long) (Convert (Compare comparison.Equal (AddressOf (StringPlace 5 (array char 3)) (pointer_to char)) (Convert (Number 0 int) (pointer_to char)) int) unsigned_long) unsigned_long) unsigned_long)
unfolding computing
texts_measured_row = refl

-- `x == EOF`
end_of_file_row : typing (names (codes "x" ∷ codes "EOF" ∷ [])) scope 5 (tree.Binary op.Equal (tree.Identifier 8 0 1) (tree.Identifier 9 5 8) 0 8)
    ≡ Ok (value (Compare comparison.Equal (Load x_place int) (Number 0xFFFFFFFFFFFFFFFF int) int) int)
unfolding computing
end_of_file_row = refl

-- `'a'`
character_row : typing (names []) scope 5 (tree.Character (pos 97) 0 3)
    ≡ Ok (value (Number 97 int) int)
unfolding computing
character_row = refl

-- `4294967296`
wide_literal_row : typing (names []) scope 5 (tree.Integer 4294967296 true false false 0 10)
    ≡ Ok (value (Number 4294967296 long) long)
unfolding computing
wide_literal_row = refl

-- `0xFFFFFFFF`
wide_hexadecimal_row : typing (names []) scope 5 (tree.Integer 4294967295 false false false 0 10)
    ≡ Ok (value (Number 4294967295 unsigned_int) unsigned_int)
unfolding computing
wide_hexadecimal_row = refl

-- `ptrauth_string_discriminator(("cb"))`
discriminator_row : typing (names (codes "ptrauth_string_discriminator" ∷ [])) scope 5 (tree.Call (tree.Identifier 8 0 28) (tree.ConsExpr (tree.Paren (tree.Text (99 ∷ 98 ∷ []) 30 34) 29 35) tree.NoExprs) 0 36)
    ≡ Ok (value (Number (discriminator (99 ∷ 98 ∷ [])) unsigned_long) unsigned_long)
unfolding computing
discriminator_row = refl

-- `ptrauth_key_return_address`
key_row : typing (names (codes "ptrauth_key_return_address" ∷ [])) scope 5 (tree.Identifier 8 0 26)
    ≡ Ok (value (Number 1 int) int)
unfolding computing
key_row = refl
