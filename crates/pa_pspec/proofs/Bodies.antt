-- Each item of a body takes a token, and enumeration constants one more at a time.
use Rattle.std.proofs.Common.{◌≡◌, ◌≤◌, ◌-◌, ℕ, suc, List, [], ◌∷◌, ◌++◌, map, Option, Ok, Err, refl, sym, ◌∙◌, ap, arith, subst}
use Rattle.std.proofs.lemmas.Bool.{le-leb}
use Rattle.std.proofs.lemmas.List.{map-append}
use Rattle.pa_tree.specs.declared.expr.Enumerator.{Enumerator}
use Rattle.pa_tree.specs.declared.expr.Tag.{Tag}
use Rattle.pa_tree.specs.Cursors.{Cursor}
use Rattle.pa_tree.specs.Exprs.{EnumeratorTree}
use Rattle.pa_tree.specs.Views.{enumerator_tree}
use Rattle.pa_pspec.specs.Bodies.{member_inside, struct_inside, step_inside, enum_inside}
use Rattle.pa_grammar.specs.Commas.{behind_comma}
use Rattle.pa_grammar.specs.declared.rule.Naming.TheVariants as naming
use Rattle.pa_grammar.specs.Parser.{Outcome, Stop, Done, More, iterate}
use Rattle.pa_grammar.specs.Reading.{parsers, struct_body, enum_body}
use Rattle.pa_grammar.proofs.Eats.{Eats}
use Rattle.pa_grammar.proofs.Iterated.{Shrinks, Shorter, one_turn}
use Rattle.pa_grammar.proofs.LocalReading.{parsers-local, member-eats, enumerator-shrinks}
use Rattle.pa_grammar.proofs.Meets.{IfRead}
use Rattle.pa_grammar.proofs.Turned.{behind-eats}

pub takes_declarator : (names : List ℕ) (d : ℕ) → Eats (behind_comma ((parsers names d).declarator naming.Named))
takes_declarator names d = behind-eats ((parsers names d).declarator naming.Named) ((parsers-local names d).declarator naming.Named)

-- a body with room, over parts one level deeper
module _ (names : List ℕ) (d : ℕ) where
  one_less : 2 ≤ d → d ≡ suc (d - 1)
  one_less h = omega (arith, h)

  pub struct_deeper : (from : ℕ) (tag : Option Tag) (c : Cursor) → 2 ≤ d → struct_body names d (parsers names d) (parsers names (d - 1)) from tag c ≡ struct_inside names (suc (d - 1)) (d - 1) from tag c
  struct_deeper from tag c h = rw (le-leb 2 d h) refl ∙ ap (λ n. struct_inside names n (d - 1) from tag c) (one_less h)

  pub enum_deeper : (from : ℕ) (tag : Option Tag) (c : Cursor) → 2 ≤ d → enum_body names d (parsers names d) (parsers names (d - 1)) from tag c ≡ enum_inside names (suc (d - 1)) (d - 1) from tag c
  enum_deeper from tag c h = rw (le-leb 2 d h) refl ∙ ap (λ n. enum_inside names n (d - 1) from tag c) (one_less h)

module _ (names : List ℕ) (k : ℕ) where
  pub takes_member : Eats (member_inside names (suc k) k)
  takes_member = member-eats names (suc k) (parsers names (suc k)) (parsers names k) (λ level. (parsers-local names (suc k)).expr level) (parsers-local names k)

  abbrev pub constants : List EnumeratorTree → Cursor → Outcome (List EnumeratorTree)
  constants = iterate (step_inside names (suc k) k)

  shrinks : Shrinks (step_inside names (suc k) k)
  shrinks = enumerator-shrinks names (suc k) (parsers names (suc k)) (parsers names k) (λ level. (parsers-local names (suc k)).expr level) (parsers-local names k)

  module _ (o : Outcome (List EnumeratorTree)) (all : List Enumerator) (c : Cursor) where
    pub constants_more : (every : List Enumerator) (x : Enumerator) (e : Cursor) → constants (map enumerator_tree all) c ≡ o → every ≡ all ++ x ∷ []
        → step_inside names (suc k) k (map enumerator_tree all) c ≡ Ok (More (map enumerator_tree all ++ enumerator_tree x ∷ []), e) → constants (map enumerator_tree every) e ≡ o
    constants_more every x e h m i = ap (λ l. constants l e) (ap (map enumerator_tree) m ∙ map-append enumerator_tree all (x ∷ [])) ∙ sym (one_turn (step_inside names (suc k) k) shrinks (map enumerator_tree all) c ∙ rw i refl) ∙ h

    pub constants_stop : constants (map enumerator_tree all) c ≡ o → (s : Stop) → step_inside names (suc k) k (map enumerator_tree all) c ≡ Err s → o ≡ Err s
    constants_stop h s i = sym h ∙ one_turn (step_inside names (suc k) k) shrinks (map enumerator_tree all) c ∙ rw i refl

    pub constants_end : (e : Cursor) → constants (map enumerator_tree all) c ≡ o → step_inside names (suc k) k (map enumerator_tree all) c ≡ Ok (Done (map enumerator_tree all), e) → o ≡ Ok (map enumerator_tree all, e)
    constants_end e h i = sym h ∙ one_turn (step_inside names (suc k) k) shrinks (map enumerator_tree all) c ∙ rw i refl

    pub constants_shorter : (all' : List EnumeratorTree) (e : Cursor) → step_inside names (suc k) k (map enumerator_tree all) c ≡ Ok (More all', e) → Shorter (step_inside names (suc k) k) c (More all') e
    constants_shorter all' e i = subst (λ o. IfRead o (Shorter (step_inside names (suc k) k) c)) i ((shrinks.holds (map enumerator_tree all) c).holds)
