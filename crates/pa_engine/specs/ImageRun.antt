-- What the run of an image's bytes answers: the first check that fails, or what the run of the loaded program leaves.
use Rattle.std.specs.Prelude.{◌≡◌, ℕ, List, ◌⊎◌, Option, Some, None, Result, Ok, Err}
use Rattle.std.specs.Option.{option_or}
use Rattle.pa_pac.specs.Signing.{Code}
use Rattle.pa_layout.specs.declared.checks.Flaw as layout
use Rattle.pa_macho.specs.declared.header.Role.{Role}
use Rattle.pa_macho.specs.declared.header.Role.TheVariants.{Main, Library}
use Rattle.pa_object.specs.Machine.{Machine}
use Rattle.pa_object.specs.Run.{Script, run, end_of}
use Rattle.pa_image.specs.declared.image.Image.{Image}
use Rattle.pa_image.specs.Bytes.{IsImage}
use Rattle.pa_image.specs.Pal.{pal}
use Rattle.pa_image.specs.Reading as reading
use Rattle.pa_check.specs.declared.rule.Flaw as check
use Rattle.pa_check.specs.Windowed as windowed
use Rattle.pa_load.specs.declared.rule.LoadRule.TheVariants.{B1}
use Rattle.pa_load.specs.Loaded.{State, IsLoaded, begun_in, first_missing, loaded}
use Rattle.pa_load.specs.Loaded as loading
use Rattle.pa_processor.specs.declared.loaded.Loaded.{Loaded}
use Rattle.pa_script.specs.declared.rule.ScriptRule.TheVariants.{P4}
use Rattle.pa_script.specs.Rules.{first_unfit}
use Rattle.pa_kept.specs.Secure.{KeepsControlFlow}
use Rattle.pa_engine.specs.declared.fault.Rule.TheVariants as rule
use Rattle.pa_engine.specs.declared.fault.Refusal.{Refusal}
use Rattle.pa_engine.specs.declared.fault.EngineFault.{EngineFault}
use Rattle.pa_engine.specs.declared.fault.EngineFault.TheVariants.{Refused, Memory}
use Rattle.pa_engine.specs.declared.reports.Ran.{Ran}

-- what is run: an image's bytes under a PAC function and a slide, beside a script, with an input, for so many steps
pub record ImageRun : Type 0 where
  pub code : Code
  pub bytes : List ℕ
  pub slide : ℕ
  pub script : Script
  pub input : List ℕ
  pub steps : ℕ

-- ---- refusals: the image is file 1, the script file 66

-- by the first flaw of the bytes
abbrev pub unread : Option layout.Flaw → Option Refusal
unread None = None
unread (Some flaw) = Some (record { rule = rule.Image flaw.rule; file = 1; place = flaw.place })

-- by the first word or slot that breaks a rule of the checker
abbrev pub unwindowed : Option check.Flaw → Option Refusal
unwindowed None = None
unwindowed (Some flaw) = Some (record { rule = rule.Code flaw.rule; file = 1; place = flaw.offset })

-- by the role, at the file type of the header
abbrev pub no_program : Role → Option Refusal
no_program Main = None
no_program Library = Some (record { rule = rule.B2; file = 1; place = 12 })

-- by the first import that the runtime image doesn't export
abbrev pub unexported : Option ℕ → Option Refusal
unexported None = None
unexported (Some index) = Some (record { rule = rule.Load B1; file = 1; place = index })

-- by the first line whose item doesn't fit the memory
abbrev pub unfit : Option ℕ → Option Refusal
unfit None = None
unfit (Some line) = Some (record { rule = rule.Script P4; file = 66; place = line })

-- the first check that an image fails: windowed, a program, its imports exported, the script within its memory
unfoldable pub refusal_of : Code → (slide : ℕ) → Script → Image → Option Refusal
refusal_of code slide script image =
    option_or (unwindowed (windowed.first_flaw image))
    (option_or (no_program image.role)
    (option_or (unexported (first_missing image pal))
    (unfit (first_unfit script (loaded code image pal slide).memory))))

-- the bytes stand for no image, or for one that fails a check
abbrev pub IsRefused : ImageRun → Refusal → Type 0
IsRefused r refusal =
    (unread (reading.first_flaw r.bytes) ≡ Some refusal)
    ⊎ ((image : Image) × IsImage image r.bytes × (refusal_of r.code r.slide r.script image ≡ Some refusal))

-- the bytes stand for this image, and it fails none
abbrev pub IsAccepted : ImageRun → Image → Type 0
IsAccepted r image = IsImage image r.bytes × (refusal_of r.code r.slide r.script image ≡ None)

-- ---- runs

-- a program in memory beside the runtime image
abbrev pub IsBegun : Code → Image → (slide : ℕ) → Loaded → Type 0
IsBegun code image slide made = IsLoaded code image pal slide (loading.state_of made)

abbrev pub run_of : Code → Script → (steps : ℕ) → State → (input : List ℕ) → Machine
run_of code script steps state input = run code script steps (begun_in state input)

-- the state in which the program begins
abbrev pub state_of : ImageRun → Image → State
state_of r image = loaded r.code image pal r.slide

-- the output, the end and the log of a machine
pub record IsLeftBy (m : Machine) (ran : Ran) : Type 0 where
  pub output : ran.output ≡ m.output
  pub end_is : ran.end ≡ end_of m
  pub log : ran.log.entries ≡ m.log

-- what a run leaves that begins in a loaded state
abbrev pub Leaves : Code → Script → (steps : ℕ) → State → (input : List ℕ) → Ran → Type 0
Leaves code script steps state input ran = IsLeftBy (run_of code script steps state input) ran

-- what the run of an accepted image leaves, in which control flow is kept
pub record IsRan (r : ImageRun) (ran : Ran) : Type 0 where
  pub image : Image
  pub accepted : IsAccepted r image
  pub left : IsLeftBy (run_of r.code r.script r.steps (state_of r image) r.input) ran
  pub kept : KeepsControlFlow r.code image pal r.slide (state_of r image) r.script r.input r.steps

-- ---- answers

-- Ok exactly where nothing is refused, and else the refusal; want of memory may come at any time
abbrev pub Answers : {A : Type 0} → Result A EngineFault → Option Refusal → Type 0
Answers (Ok value) refusal = refusal ≡ None
Answers (Err (Refused told)) refusal = refusal ≡ Some told
Answers (Err Memory) refusal = Unit {0}

-- each answer has its cause
abbrev pub Cause : ImageRun → Result Ran EngineFault → Type 0
Cause r (Ok ran) = IsRan r ran
Cause r (Err (Refused refusal)) = IsRefused r refusal
Cause r (Err Memory) = Unit {0}

abbrev pub RefusesWith : {A : Type 0} → Refusal → Result A EngineFault → Type 0
RefusesWith refusal (Ok value) = ⊥
RefusesWith refusal (Err (Refused told)) = told ≡ refusal
RefusesWith refusal (Err Memory) = Unit {0}

abbrev pub DoesNotRefuse : {A : Type 0} → Result A EngineFault → Type 0
DoesNotRefuse (Ok value) = Unit {0}
DoesNotRefuse (Err (Refused told)) = ⊥
DoesNotRefuse (Err Memory) = Unit {0}

-- and each cause its answer, but for want of memory
pub record IsAnswer (r : ImageRun) (result : Result Ran EngineFault) : Type 0 where
  pub cause : Cause r result
  pub refused : (refusal : Refusal) → IsRefused r refusal → RefusesWith refusal result
  pub accepted : (image : Image) → IsAccepted r image → DoesNotRefuse result
