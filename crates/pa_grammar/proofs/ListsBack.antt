-- Lists of the grammar as lists of items, each with what its reader asks for.
use Rattle.std.proofs.Common.{◌≡◌, ◌≤◌, ℕ, List, [], ◌∷◌, true, refl, ap, arith}
use Rattle.pa_lex.specs.declared.token.Punct.TheVariants as p
use Rattle.pa_tree.specs.Cursors.{Cursor, Mark}
use Rattle.pa_tree.specs.Exprs.{ExprTree, QualifierTree, MemberTree, EnumeratorTree, DeclaratorTree, ParameterTree, ExprTrees, NoExprs, ConsExpr, QualifierTrees, NoQualifiers, ConsQualifier, MemberTrees, NoMembers, ConsMember, EnumeratorTrees, NoEnumerators, ConsEnumerator, DeclaratorTrees, NoDeclarators, ConsDeclarator, ParameterTrees, NoParameters, ConsParameter}
use Rattle.pa_tree.specs.Heights.{expr_height, exprs_height, qualifier_height, qualifiers_height, member_height, members_height, enumerator_height, enumerators_height, declarator_height, declarators_height, parameter_height, parameter_list_height}
use Rattle.pa_tree.specs.Spells.{has_name, ExprSpells, CommaExprs, QualifierSpells, QualifiersSpell, MemberSpells, MembersSpell, EnumeratorSpells, CommaEnumerators, DeclaratorSpells, CommaDeclarators, ParameterSpells, CommaParameters}
use Rattle.pa_tree.specs.Views.{exprs_of, qualifiers_of, members_of, enumerators_of, declarators_of, parameters_of}
use Rattle.pa_grammar.proofs.Chains.{Chain, Behind}

abbrev pub exprs_list : ExprTrees → List ExprTree
exprs_list NoExprs = []
exprs_list (ConsExpr x xs) = x ∷ exprs_list xs

pub exprs_back : (xs : ExprTrees) → exprs_of (exprs_list xs) ≡ xs
exprs_back NoExprs = refl
exprs_back (ConsExpr x xs) = ap (ConsExpr x) (exprs_back xs)

abbrev pub qualifiers_list : QualifierTrees → List QualifierTree
qualifiers_list NoQualifiers = []
qualifiers_list (ConsQualifier x xs) = x ∷ qualifiers_list xs

pub qualifiers_back : (xs : QualifierTrees) → qualifiers_of (qualifiers_list xs) ≡ xs
qualifiers_back NoQualifiers = refl
qualifiers_back (ConsQualifier x xs) = ap (ConsQualifier x) (qualifiers_back xs)

abbrev pub members_list : MemberTrees → List MemberTree
members_list NoMembers = []
members_list (ConsMember x xs) = x ∷ members_list xs

pub members_back : (xs : MemberTrees) → members_of (members_list xs) ≡ xs
members_back NoMembers = refl
members_back (ConsMember x xs) = ap (ConsMember x) (members_back xs)

abbrev pub enumerators_list : EnumeratorTrees → List EnumeratorTree
enumerators_list NoEnumerators = []
enumerators_list (ConsEnumerator x xs) = x ∷ enumerators_list xs

pub enumerators_back : (xs : EnumeratorTrees) → enumerators_of (enumerators_list xs) ≡ xs
enumerators_back NoEnumerators = refl
enumerators_back (ConsEnumerator x xs) = ap (ConsEnumerator x) (enumerators_back xs)

abbrev pub declarators_list : DeclaratorTrees → List DeclaratorTree
declarators_list NoDeclarators = []
declarators_list (ConsDeclarator x xs) = x ∷ declarators_list xs

pub declarators_back : (xs : DeclaratorTrees) → declarators_of (declarators_list xs) ≡ xs
declarators_back NoDeclarators = refl
declarators_back (ConsDeclarator x xs) = ap (ConsDeclarator x) (declarators_back xs)

abbrev pub parameters_list : ParameterTrees → List ParameterTree
parameters_list NoParameters = []
parameters_list (ConsParameter x xs) = x ∷ parameters_list xs

pub parameters_back : (xs : ParameterTrees) → parameters_of (parameters_list xs) ≡ xs
parameters_back NoParameters = refl
parameters_back (ConsParameter x xs) = ap (ConsParameter x) (parameters_back xs)

-- E: what holds where an item ends
module _ (names : List ℕ) (E : Cursor → Type 0) (at_comma : (c d : Cursor) → Mark p.Comma c d → E c) where
  abbrev pub AsExpr : ℕ → ℕ → ExprTree → Cursor → Cursor → Type 0
  AsExpr n level x c d = ExprSpells names level x c d × (expr_height x ≤ n) × E d

  -- where an item ends
  pub exprs_end : (n level : ℕ) (xs : ExprTrees) (c d : Cursor) → CommaExprs names level xs c d → E d → E c
  exprs_end n level NoExprs c d h e = rw h e
  exprs_end n level (ConsExpr x xs) c d h e = at_comma c h.0 h.2

  pub comma_exprs_back : (n level : ℕ) (xs : ExprTrees) (c d : Cursor) → CommaExprs names level xs c d → exprs_height xs ≤ n → E d → Chain (Behind (AsExpr n level)) (exprs_list xs) c d
  comma_exprs_back n level NoExprs c d h k e = h
  comma_exprs_back n level (ConsExpr x xs) c d (m, o, a, b, r) k e = (o, (m, a, (b, omega (arith, k), exprs_end n level xs o d r e)), comma_exprs_back n level xs o d r (omega (arith, k)) e)

  abbrev pub AsEnumerator : ℕ → EnumeratorTree → Cursor → Cursor → Type 0
  AsEnumerator n x c d = EnumeratorSpells names x c d × (enumerator_height x ≤ n) × E d

  -- where an item ends
  pub enumerators_end : (n : ℕ) (xs : EnumeratorTrees) (c d : Cursor) → CommaEnumerators names xs c d → E d → E c
  enumerators_end n NoEnumerators c d h e = rw h e
  enumerators_end n (ConsEnumerator x xs) c d h e = at_comma c h.0 h.2

  pub comma_enumerators_back : (n : ℕ) (xs : EnumeratorTrees) (c d : Cursor) → CommaEnumerators names xs c d → enumerators_height xs ≤ n → E d → Chain (Behind (AsEnumerator n)) (enumerators_list xs) c d
  comma_enumerators_back n NoEnumerators c d h k e = h
  comma_enumerators_back n (ConsEnumerator x xs) c d (m, o, a, b, r) k e = (o, (m, a, (b, omega (arith, k), enumerators_end n xs o d r e)), comma_enumerators_back n xs o d r (omega (arith, k)) e)

  abbrev pub AsNamed : ℕ → DeclaratorTree → Cursor → Cursor → Type 0
  AsNamed n x c d = ((has_name x ≡ true) × DeclaratorSpells names 0 x c d) × (declarator_height x ≤ n) × E d

  -- where an item ends
  pub declarators_end : (n : ℕ) (xs : DeclaratorTrees) (c d : Cursor) → CommaDeclarators names xs c d → E d → E c
  declarators_end n NoDeclarators c d h e = rw h e
  declarators_end n (ConsDeclarator x xs) c d h e = at_comma c h.0 h.2

  pub comma_declarators_back : (n : ℕ) (xs : DeclaratorTrees) (c d : Cursor) → CommaDeclarators names xs c d → declarators_height xs ≤ n → E d → Chain (Behind (AsNamed n)) (declarators_list xs) c d
  comma_declarators_back n NoDeclarators c d h k e = h
  comma_declarators_back n (ConsDeclarator x xs) c d (m, o, a, q, b, r) k e = (o, (m, a, ((q, b), omega (arith, k), declarators_end n xs o d r e)), comma_declarators_back n xs o d r (omega (arith, k)) e)

  abbrev pub AsParameter : ℕ → ParameterTree → Cursor → Cursor → Type 0
  AsParameter n x c d = ParameterSpells names x c d × (parameter_height x ≤ n) × E d

  -- where an item ends
  pub parameters_end : (n : ℕ) (xs : ParameterTrees) (c d : Cursor) → CommaParameters names xs c d → E d → E c
  parameters_end n NoParameters c d h e = rw h e
  parameters_end n (ConsParameter x xs) c d h e = at_comma c h.0 h.2

  pub comma_parameters_back : (n : ℕ) (xs : ParameterTrees) (c d : Cursor) → CommaParameters names xs c d → parameter_list_height xs ≤ n → E d → Chain (Behind (AsParameter n)) (parameters_list xs) c d
  comma_parameters_back n NoParameters c d h k e = h
  comma_parameters_back n (ConsParameter x xs) c d (m, o, a, b, r) k e = (o, (m, a, (b, omega (arith, k), parameters_end n xs o d r e)), comma_parameters_back n xs o d r (omega (arith, k)) e)

module _ (names : List ℕ) where
  abbrev pub AsQualifier : ℕ → QualifierTree → Cursor → Cursor → Type 0
  AsQualifier n x c d = QualifierSpells names x c d × (qualifier_height x ≤ n)

  pub qualifiers_chain : (n : ℕ) (xs : QualifierTrees) (c d : Cursor) → QualifiersSpell names xs c d → qualifiers_height xs ≤ n → Chain (AsQualifier n) (qualifiers_list xs) c d
  qualifiers_chain n NoQualifiers c d h k = h
  qualifiers_chain n (ConsQualifier x xs) c d (m, a, r) k = (m, (a, omega (arith, k)), qualifiers_chain n xs m d r (omega (arith, k)))

  abbrev pub AsMember : ℕ → MemberTree → Cursor → Cursor → Type 0
  AsMember n x c d = MemberSpells names x c d × (member_height x ≤ n)

  pub members_chain : (n : ℕ) (xs : MemberTrees) (c d : Cursor) → MembersSpell names xs c d → members_height xs ≤ n → Chain (AsMember n) (members_list xs) c d
  members_chain n NoMembers c d h k = h
  members_chain n (ConsMember x xs) c d (m, a, r) k = (m, (a, omega (arith, k)), members_chain n xs m d r (omega (arith, k)))
