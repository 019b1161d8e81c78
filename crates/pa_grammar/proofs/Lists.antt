-- Lists of the grammar as items one behind the other, both ways.
use Rattle.std.proofs.Common.{◌≡◌, ◌≤◌, ℕ, List, [], ◌∷◌, true, arith}
use Rattle.pa_tree.specs.Cursors.{Cursor}
use Rattle.pa_tree.specs.Exprs.{ExprTree, QualifierTree, MemberTree, EnumeratorTree, DeclaratorTree, ParameterTree}
use Rattle.pa_tree.specs.Heights.{expr_height, exprs_height, qualifier_height, qualifiers_height, member_height, members_height, enumerator_height, enumerators_height, declarator_height, declarators_height, parameter_height, parameter_list_height}
use Rattle.pa_tree.specs.Spells.{has_name, ExprSpells, CommaExprs, QualifierSpells, QualifiersSpell, MemberSpells, MembersSpell, EnumeratorSpells, CommaEnumerators, DeclaratorSpells, CommaDeclarators, ParameterSpells, CommaParameters}
use Rattle.pa_tree.specs.Views.{exprs_of, qualifiers_of, members_of, enumerators_of, declarators_of, parameters_of}
use Rattle.pa_grammar.proofs.Chains.{Chain, Behind}

module _ (names : List ℕ) where
  -- what stands there is spelled, and no deeper than n
  abbrev pub IsExpr : ℕ → ℕ → ExprTree → Cursor → Cursor → Type 0
  IsExpr n level e c d = ExprSpells names level e c d × (expr_height e ≤ n)

  abbrev pub IsQualifier : ℕ → QualifierTree → Cursor → Cursor → Type 0
  IsQualifier n q c d = QualifierSpells names q c d × (qualifier_height q ≤ n)

  abbrev pub IsMember : ℕ → MemberTree → Cursor → Cursor → Type 0
  IsMember n x c d = MemberSpells names x c d × (member_height x ≤ n)

  abbrev pub IsEnumerator : ℕ → EnumeratorTree → Cursor → Cursor → Type 0
  IsEnumerator n x c d = EnumeratorSpells names x c d × (enumerator_height x ≤ n)

  abbrev pub IsNamed : ℕ → DeclaratorTree → Cursor → Cursor → Type 0
  IsNamed n x c d = (has_name x ≡ true) × DeclaratorSpells names 0 x c d × (declarator_height x ≤ n)

  abbrev pub IsParameter : ℕ → ParameterTree → Cursor → Cursor → Type 0
  IsParameter n x c d = ParameterSpells names x c d × (parameter_height x ≤ n)

  pub comma_exprs : (n level : ℕ) (xs : List ExprTree) (c d : Cursor) → Chain (Behind (IsExpr n level)) xs c d → CommaExprs names level (exprs_of xs) c d × (exprs_height (exprs_of xs) ≤ n)
  comma_exprs n level [] c d h = (h, omega arith)
  comma_exprs n level (x ∷ xs) c d (m, (o, k, (s, l)), h) = let r = comma_exprs n level xs m d h in let a = r.1 in ((o, m, k, s, r.0), omega (arith, l, a))

  pub qualifiers_spell : (n : ℕ) (xs : List QualifierTree) (c d : Cursor) → Chain (IsQualifier n) xs c d → QualifiersSpell names (qualifiers_of xs) c d × (qualifiers_height (qualifiers_of xs) ≤ n)
  qualifiers_spell n [] c d h = (h, omega arith)
  qualifiers_spell n (x ∷ xs) c d (m, (s, l), h) = let r = qualifiers_spell n xs m d h in let a = r.1 in ((m, s, r.0), omega (arith, l, a))

  pub members_spell : (n : ℕ) (xs : List MemberTree) (c d : Cursor) → Chain (IsMember n) xs c d → MembersSpell names (members_of xs) c d × (members_height (members_of xs) ≤ n)
  members_spell n [] c d h = (h, omega arith)
  members_spell n (x ∷ xs) c d (m, (s, l), h) = let r = members_spell n xs m d h in let a = r.1 in ((m, s, r.0), omega (arith, l, a))

  pub comma_enumerators : (n : ℕ) (xs : List EnumeratorTree) (c d : Cursor) → Chain (Behind (IsEnumerator n)) xs c d → CommaEnumerators names (enumerators_of xs) c d × (enumerators_height (enumerators_of xs) ≤ n)
  comma_enumerators n [] c d h = (h, omega arith)
  comma_enumerators n (x ∷ xs) c d (m, (o, k, (s, l)), h) = let r = comma_enumerators n xs m d h in let a = r.1 in ((o, m, k, s, r.0), omega (arith, l, a))

  pub comma_declarators : (n : ℕ) (xs : List DeclaratorTree) (c d : Cursor) → Chain (Behind (IsNamed n)) xs c d → CommaDeclarators names (declarators_of xs) c d × (declarators_height (declarators_of xs) ≤ n)
  comma_declarators n [] c d h = (h, omega arith)
  comma_declarators n (x ∷ xs) c d (m, (o, k, (q, s, l)), h) = let r = comma_declarators n xs m d h in let a = r.1 in ((o, m, k, q, s, r.0), omega (arith, l, a))

  pub comma_parameters : (n : ℕ) (xs : List ParameterTree) (c d : Cursor) → Chain (Behind (IsParameter n)) xs c d → CommaParameters names (parameters_of xs) c d × (parameter_list_height (parameters_of xs) ≤ n)
  comma_parameters n [] c d h = (h, omega arith)
  comma_parameters n (x ∷ xs) c d (m, (o, k, (s, l)), h) = let r = comma_parameters n xs m d h in let a = r.1 in ((o, m, k, s, r.0), omega (arith, l, a))
