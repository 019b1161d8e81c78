-- Control flow is kept under every script.
use Rattle.std.specs.Prelude.{◌≡◌, ℕ, true, List, []}
use Rattle.pa_pac.specs.Signing.{Code}
use Rattle.pa_object.specs.Script.{all_fit}
use Rattle.pa_object.specs.Run.{Script, Watched, watched, run}
use Rattle.pa_image.specs.declared.image.Image.{Image}
use Rattle.pa_image.specs.Small.{IsSmall}
use Rattle.pa_image.specs.Writing.{IsLegal}
use Rattle.pa_image.specs.Pal.{pal}
use Rattle.pa_check.specs.Windowed.{IsWindowed}
use Rattle.pa_load.specs.Loaded.{State, IsLoaded, begun_in, both}
use Rattle.pa_kept.specs.Kept.{IsKept}
use Rattle.pa_kept.specs.Images.{code_of}

-- a program and a runtime image that the checker accepts
pub record AreWindowed (main runtime : Image) : Type 0 where
  pub main_legal : IsLegal main
  pub main_small : IsSmall main
  pub main_windowed : IsWindowed main
  pub runtime_legal : IsLegal runtime
  pub runtime_small : IsSmall runtime
  pub runtime_windowed : IsWindowed runtime

-- the run of a loaded state with its trail
abbrev pub watched_run : Code → Script → State → (input : List ℕ) → (n : ℕ) → Watched
watched_run code script state input n = watched code script n (record { machine = begun_in state input; trail = [] })

pub record KeepsControlFlow (code : Code) (main runtime : Image) (slide : ℕ) (state : State) (script : Script) (input : List ℕ) (n : ℕ) : Type 0 where
  -- what is watched is the run
  pub the_run : (watched_run code script state input n).machine ≡ run code script n (begun_in state input)
  pub kept : IsKept (code_of (both main runtime slide)) (watched_run code script state input n)

-- for each function for authentication codes, slide, script that fits, input and bound
abbrev pub Secure : Type 0
Secure =
    (main runtime : Image) → AreWindowed main runtime → (code : Code) (slide : ℕ) (state : State)
    → IsLoaded code main runtime slide state → (script : Script) → all_fit script state.memory ≡ true
    → (input : List ℕ) (n : ℕ) → KeepsControlFlow code main runtime slide state script input n

-- the same of a program alone, with the runtime image that programs bind to
abbrev pub ProgramsSecure : Type 0
ProgramsSecure =
    (main : Image) → IsLegal main → IsSmall main → IsWindowed main → (code : Code) (slide : ℕ) (state : State)
    → IsLoaded code main pal slide state → (script : Script) → all_fit script state.memory ≡ true
    → (input : List ℕ) (n : ℕ) → KeepsControlFlow code main pal slide state script input n
