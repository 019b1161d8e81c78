-- Files are gone through from their beginning: a file that goes on from one that breaks a rule breaks that rule, at that place.
use Rattle.std.proofs.Common.{◌≡◌, ℕ, [], ◌∷◌, ◌++◌, Ok, Err, refl}
use Rattle.pa_tree.specs.Stmts.{FileTree}
use Rattle.pa_scope.specs.declared.rule.TypeRule.{TypeRule}
use Rattle.pa_scope.specs.Answers.{Answer, Broken, breaks_at, then_with}
use Rattle.pa_typed.specs.Units.{UnitTree}
use Rattle.pa_runit.specs.Units.{Reading, nothing_read, file_item, file_items, unit_of, typed}
use Rattle.pa_scope.specs.Scope.{Spelling}

-- a part, and then two more
in_turn : {A B : Type 0} (x : Answer A) (f g : A → Answer B) (h : B → Answer B) → ((a : A) → f a ≡ then_with (g a) h) → then_with x f ≡ then_with (then_with x g) h
in_turn (Ok a) f g h e = e a
in_turn (Err b) f g h e = refl

pub goes_on : (spelling : Spelling) (r : Reading) (a b : FileTree) → file_items spelling r (a ++ b) ≡ then_with (file_items spelling r a) (λ next. file_items spelling next b)
goes_on spelling r [] b = refl
goes_on spelling r (item ∷ items) b = in_turn (file_item spelling r item) (λ next. file_items spelling next (items ++ b)) (λ next. file_items spelling next items) (λ next. file_items spelling next b) (λ next. goes_on spelling next items b)

read_breaks : (x : Answer Reading) (file : FileTree) (rule : TypeRule) (place : ℕ) → then_with x (λ r. Ok (unit_of file r)) ≡ breaks_at rule place → x ≡ breaks_at rule place
read_breaks (Ok r) file rule place e = cc
read_breaks (Err b) file rule place e = broken b rule place e
  where
    broken : (c : Broken) (q : TypeRule) (p : ℕ) → ◌≡◌ {A = Answer UnitTree} (Err c) (breaks_at q p) → ◌≡◌ {A = Answer Reading} (Err c) (breaks_at q p)
    broken c q p h = cc

pub first_breaks : (spelling : Spelling) (a b : FileTree) (rule : TypeRule) (place : ℕ) → typed spelling a ≡ breaks_at rule place → typed spelling (a ++ b) ≡ breaks_at rule place
first_breaks spelling a b rule place e = rw (goes_on spelling nothing_read a b, read_breaks (file_items spelling nothing_read a) a rule place e) refl
