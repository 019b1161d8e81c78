-- Parts of a run without a second writer, one behind another.
use Rattle.std.proofs.Common.{◌≡◌, ℕ, ◌+◌, List, [], ◌++◌, length, true, refl, sym, ap, ◌∙◌, arith, None}
use Rattle.std.proofs.lemmas.List.{append_assoc}
use Rattle.pa_pac.specs.declared.key.Key.{Key}
use Rattle.pa_pac.specs.Log.{is_known}
use Rattle.pa_pac.specs.Signing.{Code}
use Rattle.pa_object.specs.Machine.{Machine}
use Rattle.pa_object.specs.Run.{Place, watched}
use Rattle.pa_object.specs.Shape.{Shown, shape, all_known}
use Rattle.pa_object.proofs.Steps.{watching, no_step}
use Rattle.pa_object.proofs.StepsRun.{watched-then, AreBefore}

-- what holds of the machine before each of the parts of a run
pub record IsReady (m : Machine) (trail : List Place) : Type 0 where
  pub going : m.ended ≡ None
  pub wide : length m.registers ≡ 31
  pub counted : length trail ≡ m.count
  pub before : AreBefore (length trail) m.log
  pub known : all_known m.log ≡ true

-- so many instructions lead from one machine to another, and show this, where these are the addresses of the imports' slots
pub record Leads (code : Code) (got : List ℕ) (n : ℕ) (m : Machine) (trail : List Place) (shown : List Shown) (later : Machine) (longer : List Place) : Type 0 where
  pub runs : watched code [] n (watching m trail) ≡ watching later longer
  pub ready : IsReady later longer
  pub counted : later.count ≡ m.count + n
  pub shows : shape got longer later.log ≡ shown ++ shape got trail m.log
  pub kept : (key : Key) (modifier raw : ℕ) → is_known m.log key modifier raw ≡ true → is_known later.log key modifier raw ≡ true

pub leads-then : (code : Code) (got : List ℕ) (n k : ℕ) (m : Machine) (trail : List Place) (shown more : List Shown) (middle : Machine) (between : List Place) (later : Machine) (longer : List Place)
    → Leads code got n m trail shown middle between → Leads code got k middle between more later longer → Leads code got (n + k) m trail (more ++ shown) later longer
leads-then code got n k m trail shown more middle between later longer one two =
    let first = one.counted in
    let second = two.counted in
    record {
      runs = watched-then code [] n k _ _ _ one.runs two.runs;
      ready = two.ready;
      counted = omega arith;
      shows = two.shows ∙ ap (λ x. more ++ x) one.shows ∙ sym (append_assoc more shown (shape got trail m.log));
      kept = λ key modifier raw h. two.kept key modifier raw (one.kept key modifier raw h);
    }

pub no_leads : (code : Code) (got : List ℕ) (m : Machine) (trail : List Place) → IsReady m trail → Leads code got 0 m trail [] m trail
no_leads code got m trail ready = record { runs = no_step code _; ready = ready; counted = omega arith; shows = refl; kept = λ key modifier raw h. h }
