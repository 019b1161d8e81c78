-- The readers of the three forms, in what a reader has to give.
use Rattle.std.proofs.Common.{◌≡◌, ◌≤◌, ℕ, List, [], Bool, true, false, refl, sym, ◌∙◌, ap, arith}
use Rattle.pa_grammar.specs.declared.rule.Level.{Level}
use Rattle.pa_grammar.specs.declared.rule.Level.TheVariants as l
use Rattle.pa_grammar.specs.declared.rule.Naming.{Naming}
use Rattle.pa_tree.specs.Cursors.{Cursor}
use Rattle.pa_tree.specs.Exprs.{ExprTree, DeclaratorTree}
use Rattle.pa_tree.specs.Heights.{expr_height, specs_height, declarator_height}
use Rattle.pa_tree.specs.Spells.{ExprSpells, SpecsSpell, has_name}
use Rattle.pa_grammar.specs.Answers.{level_number, naming_of, DeclaratorOf}
use Rattle.pa_grammar.specs.Parser.{Outcome}
use Rattle.pa_grammar.specs.Reading.{parsers}
use Rattle.pa_grammar.proofs.LocalReading.{parsers-local}
use Rattle.pa_grammar.proofs.Meets.{meets_weaken}
use Rattle.pa_grammar.proofs.Sound.{Fits}
use Rattle.pa_grammar.proofs.SoundSpecs.{sound}
use Rattle.pa_grammar.proofs.CompleteDeclarators.{complete}
use Rattle.pa_grammar.proofs.Frame.{on_expr, on_specs, on_declarator}
use Rattle.pa_grammar.proofs.Runs.{Reader, Readers}
use Rattle.pa_grammar.proofs.Deeper.{parsers-deeper, stops_deeper}

pub level_small : (level : Level) → level_number level ≤ 14
level_small l.Expr = omega arith
level_small l.Assign = omega arith
level_small l.Cond = omega arith

fits_of : (named : Bool) (b : Bool) → b ≡ named → Fits (naming_of named) b
fits_of true b e = e
fits_of false b e = e

named_of : (named : Bool) (b : Bool) → Fits (naming_of named) b → b ≡ named
named_of true b e = e
named_of false b e = e

module _ (names : List ℕ) (d : ℕ) where
  pub at_level : {o : Outcome ExprTree} (c : Cursor) (m n : ℕ) → m ≡ n → (parsers names d).expr m c ≡ o → (parsers names d).expr n c ≡ o
  at_level c m n e h = ap (λ k. (parsers names d).expr k c) (sym e) ∙ h

  pub at_naming : {o : Outcome DeclaratorTree} (c : Cursor) (m n : Naming) → m ≡ n → (parsers names d).declarator m c ≡ o → (parsers names d).declarator n c ≡ o
  at_naming c m n e h = ap (λ k. (parsers names d).declarator k c) (sym e) ∙ h

  pub expr_reader : (level : ℕ) → level ≤ 14 → Reader (ExprSpells names level) expr_height d ((parsers names d).expr level)
  expr_reader level h = record {
    near = (parsers-local names d).expr level;
    sound = λ c. (sound names d).expr level c h;
    complete = λ t c z s l. ((complete names d).core).expr t level c (record { ended = z; ahead = [] }) h s l (omega arith);
    frame = λ x t c e s. on_expr x names t level c e s;
  }

  pub specs_reader : (bodies : Bool) → Reader (SpecsSpell names bodies) specs_height d ((parsers names d).specs bodies)
  specs_reader bodies = record {
    near = (parsers-local names d).specs bodies;
    sound = λ c. (sound names d).specs bodies c;
    complete = λ t c z s l. (complete names d).specs t bodies c (record { ended = z; ahead = [] }) s l refl;
    frame = λ x t c e s. on_specs x names bodies t c e s;
  }

  pub declarator_reader : (named : Bool) → Reader (DeclaratorOf names named) declarator_height d ((parsers names d).declarator (naming_of named))
  declarator_reader named = record {
    near = (parsers-local names d).declarator (naming_of named);
    sound = λ c. meets_weaken ((sound names d).declarator (naming_of named) c) (λ x e (f, s, l). ((named_of named (has_name x) f, s), l));
    complete = λ x c z (f, s) l. (complete names d).declarator x (naming_of named) c (record { ended = z; ahead = [] }) (fits_of named (has_name x) f) s l refl;
    frame = λ y x c e (f, s). (f, on_declarator y names x 0 c e s);
  }

-- the same for each depth
module _ (names : List ℕ) where
  pub expr_readers : (level : ℕ) → level ≤ 14 → Readers (ExprSpells names level) expr_height (λ d. (parsers names d).expr level)
  expr_readers level h = record {
    of = λ d. expr_reader names d level h;
    stops = stops_deeper (λ d. (parsers names d).expr level) (λ d. (parsers-deeper names d).expr level);
  }

  pub specs_readers : (bodies : Bool) → Readers (SpecsSpell names bodies) specs_height (λ d. (parsers names d).specs bodies)
  specs_readers bodies = record {
    of = λ d. specs_reader names d bodies;
    stops = stops_deeper (λ d. (parsers names d).specs bodies) (λ d. (parsers-deeper names d).specs bodies);
  }

  pub declarator_readers : (named : Bool) → Readers (DeclaratorOf names named) declarator_height (λ d. (parsers names d).declarator (naming_of named))
  declarator_readers named = record {
    of = λ d. declarator_reader names d named;
    stops = stops_deeper (λ d. (parsers names d).declarator (naming_of named)) (λ d. (parsers-deeper names d).declarator (naming_of named));
  }
