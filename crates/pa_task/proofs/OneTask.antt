-- Where the texts are told and no reading fails, the task that is read, or the refusal that stops it, is that of the texts.
use Rattle.std.proofs.Common.{◌≡◌, ℕ, ◌+◌, ◌<◌, ◌≤◌, List, [], ◌++◌, length, length-append, ◌⊎◌, inl, inr, Option, Some, None, refl, sym, subst, ap, ◌∙◌, arith}
use Rattle.std.specs.Prelude.{IfSome}
use Rattle.std.specs.Io.KnownBytes.{Consumes}
use Rattle.pa_io.specs.Outside.{Holds, Rose, ShelfSeen, SourceSeen}
use Rattle.pa_object.specs.declared.script.Item.{Item}
use Rattle.pa_script.specs.Rules.{Says}
use Rattle.pa_script.proofs.Settled.{settled}
use Rattle.pa_straight.specs.declared.source.Straight.{Straight}
use Rattle.pa_words.specs.declared.command.Input.{Input}
use Rattle.pa_words.specs.declared.command.Input.TheVariants as from
use Rattle.pa_words.specs.declared.command.RunOptions.{RunOptions}
use Rattle.pa_task.specs.declared.exit.Exit.{Exit}
use Rattle.pa_task.specs.declared.exit.Exit.TheVariants.{Refused, InputFault, Memory}
use Rattle.pa_task.specs.declared.exit.Refusal.{Refusal}
use Rattle.pa_task.specs.declared.task.Task.{Task}
use Rattle.pa_task.specs.Refusals.{most_bytes, first_file, input_file, script_file, too_long}
use Rattle.pa_task.specs.Reading.{Text, Shelf, Outside, ProgramRead, ProgramStops, IsOtherForm, SourceStops, InputRead, InputStops, IsNoScript, ScriptRead, ScriptStops, TaskRead, TaskStops, AtProgram, AtInput, AtScript}
use Rattle.pa_task.specs.Texts.{Texts, texts_of, HasProgram, IsInput, HasInput, HasScript, HasTask, ProgramRefused, InputRefused, ScriptRefused, TaskRefused, ByProgram, ByInput, ByScript, NoReadFault, IsUnlessMemory}
use Rattle.pa_task.proofs.OneText.{text_is, faults_kept, file_stops, passes, refused, not_refused, program_form, one_form, script_form, one_line}

abbrev texts : Shelf → Option Text → Texts
texts told left = record { told = told; left = left }

-- ---- the program

same_program : (told : Shelf) (left : Option Text) (file : Text) (before now : ShelfSeen) (program other : Straight)
    → ProgramRead told file before now program → HasProgram (texts told left) file other → program ≡ other
same_program told left file before now program other read has =
    has.2.only program read.2.source (read.2.spelled ∙ text_is told file before now read.0 has.0 read.1 has.1.holds)

program_not_refused : (told : Shelf) (left : Option Text) (file : Text) (before now : ShelfSeen) (program : Straight) (refusal : Refusal)
    → ProgramRead told file before now program → ProgramRefused (texts told left) file refusal → ⊥
program_not_refused told left file before now program refusal read due =
    not_refused told first_file file before now IsOtherForm refusal read.0 read.1 due (λ other. other.1 program read.2.source read.2.spelled)

program_stops : (told : Shelf) (left : Option Text) (file : Text) (before now : ShelfSeen) (program : Straight) (answer : Exit)
    → ProgramStops told file before now answer → HasProgram (texts told left) file program → ¬ Rose before.faults now.faults → answer ≡ Memory
program_stops told left file before now program answer stops has calm =
    passes told first_file file before now IsOtherForm answer has.0 stops has.1 calm (program_form has.0 program answer has.2)

program_refused : (told : Shelf) (left : Option Text) (file : Text) (before now : ShelfSeen) (refusal : Refusal) (answer : Exit)
    → ProgramStops told file before now answer → ProgramRefused (texts told left) file refusal → ¬ Rose before.faults now.faults
    → IsUnlessMemory (Refused refusal) answer
program_refused told left file before now refusal answer stops due calm =
    refused told first_file file before now IsOtherForm answer refusal stops due calm (λ t. one_form t refusal answer)

-- ---- the input

same_input : (told : Shelf) (left : Option Text) (of : Input) (before now : Outside) (bytes other : Text)
    → InputRead told of before now bytes → before.source.left ≡ left → IsInput (texts told left) of other → bytes ≡ other
same_input told left from.Empty before now bytes other read at is = read.0 ∙ sym is
same_input told left from.Source before now bytes other read at is =
    subst (λ (o : Option Text). IfSome o (λ all. bytes ≡ all)) (at ∙ is) read.1.whole
same_input told left (from.File name) before now bytes other read at is = text_is told name before.shelf now.shelf bytes other read.0 is

within : (told : Shelf) (of : Input) (before now : Outside) (bytes : Text) → InputRead told of before now bytes → length bytes ≤ most_bytes
within told from.Empty before now bytes read = subst (λ (t : Text). length t ≤ most_bytes) (sym read.0) (omega arith)
within told from.Source before now bytes read = read.1.within
within told (from.File name) before now bytes read = read.0.within

shelf_kept : (told : Shelf) (of : Input) (before now : Outside) (bytes : Text) → InputRead told of before now bytes → now.shelf.faults ≡ before.shelf.faults
shelf_kept told from.Empty before now bytes read = ap (λ (o : Outside). o.shelf.faults) read.1
shelf_kept told from.Source before now bytes read = ap (λ (s : ShelfSeen). s.faults) read.0
shelf_kept told (from.File name) before now bytes read = faults_kept told name before.shelf now.shelf bytes read.0

source_kept : (told : Shelf) (of : Input) (before now : Outside) (bytes : Text) → InputRead told of before now bytes → now.source.faults ≡ before.source.faults
source_kept told from.Empty before now bytes read = ap (λ (o : Outside). o.source.faults) read.1
source_kept told from.Source before now bytes read = read.1.came.faults
source_kept told (from.File name) before now bytes read = ap (λ (s : SourceSeen). s.faults) read.1

consumed : (before now : Option Text) (bytes all : Text) → Consumes before now bytes → before ≡ Some all → length bytes ≤ length all
consumed before None bytes all came is = absurd (subst (λ (o : Option Text). Consumes o None bytes) is came)
consumed before (Some rest) bytes all came is =
    let parts : all ≡ bytes ++ rest = subst (λ (o : Option Text). Consumes o (Some rest) bytes) is came in
    let count : length all ≡ length bytes + length rest = ap length parts ∙ length-append bytes rest in
    omega (arith, count)

source_stops : (before now : SourceSeen) (answer : Exit) (bytes : Text) → SourceStops before now answer → before.left ≡ Some bytes
    → ¬ Rose before.faults now.faults → (P : Type 0) → (answer ≡ Memory → P)
    → (most_bytes < length bytes → answer ≡ Refused (too_long input_file) → P) → P
source_stops before now InputFault bytes stops is calm P memory long = absurd (calm stops.0)
source_stops before now (Refused refusal) bytes stops is calm P memory long =
    let most = consumed before.left now.left stops.1.0 bytes stops.1.2.left is in
    let count = stops.1.1 in
    long (omega (arith, most, count)) (ap Refused stops.0)
source_stops before now Memory bytes stops is calm P memory long = memory refl
source_stops before now answer bytes stops is calm P memory long = absurd stops

input_stops : (told : Shelf) (left : Option Text) (of : Input) (before now : Outside) (answer : Exit) (bytes : Text)
    → InputStops told of before now answer → before.source.left ≡ left → IsInput (texts told left) of bytes → NoReadFault before now
    → (P : Type 0) → (answer ≡ Memory → P) → (most_bytes < length bytes → answer ≡ Refused (too_long input_file) → P) → P
input_stops told left from.Empty before now answer bytes stops at is calm P memory long = absurd stops
input_stops told left from.Source before now answer bytes stops at is calm P memory long =
    source_stops before.source now.source answer bytes stops.1 (at ∙ is) calm.source P memory long
input_stops told left (from.File name) before now answer bytes stops at is calm P memory long =
    file_stops told input_file name before.shelf now.shelf answer bytes stops.0 is calm.shelf P memory long

input_passes : (told : Shelf) (left : Option Text) (of : Input) (before now : Outside) (answer : Exit) (bytes : Text)
    → InputStops told of before now answer → before.source.left ≡ left → HasInput (texts told left) of bytes → NoReadFault before now
    → answer ≡ Memory
input_passes told left of before now answer bytes stops at has calm =
    input_stops told left of before now answer bytes stops at has.0 calm (answer ≡ Memory) (λ m. m)
    (λ long _. let short = has.1 in absurd (omega (arith, long, short)))

input_refused : (told : Shelf) (left : Option Text) (of : Input) (before now : Outside) (refusal : Refusal) (answer : Exit)
    → InputStops told of before now answer → before.source.left ≡ left → InputRefused (texts told left) of refusal → NoReadFault before now
    → IsUnlessMemory (Refused refusal) answer
input_refused told left of before now refusal answer stops at due calm =
    input_stops told left of before now answer due.0 stops at due.1 calm (IsUnlessMemory (Refused refusal) answer) (λ m. inr m)
    (λ long is. inl (is ∙ ap Refused (sym due.3)))

input_not_refused : (told : Shelf) (left : Option Text) (of : Input) (before now : Outside) (bytes : Text) (refusal : Refusal)
    → InputRead told of before now bytes → before.source.left ≡ left → InputRefused (texts told left) of refusal → ⊥
input_not_refused told left of before now bytes refusal read at due =
    let same = ap length (same_input told left of before now bytes due.0 read at due.1) in
    let short = within told of before now bytes read in
    let long = due.2 in
    omega (arith, same, short, long)

-- ---- the script

same_script : (told : Shelf) (left name : Option Text) (before now : ShelfSeen) (items other : List Item)
    → ScriptRead told name before now items → HasScript (texts told left) name other → items ≡ other
same_script told left None before now items other read has = read.0 ∙ sym has
same_script told left (Some name) before now items other read has =
    let same = text_is told name before now read.0 has.0 read.1 has.1.holds in
    (settled has.0).one items other (subst (λ (t : Text). Says t items) same read.2) has.2

script_stops : (told : Shelf) (left name : Option Text) (before now : ShelfSeen) (items : List Item) (answer : Exit)
    → ScriptStops told name before now answer → HasScript (texts told left) name items → ¬ Rose before.faults now.faults → answer ≡ Memory
script_stops told left None before now items answer stops has calm = absurd stops
script_stops told left (Some name) before now items answer stops has calm =
    passes told script_file name before now IsNoScript answer has.0 stops has.1 calm (script_form has.0 items answer has.2)

script_refused : (told : Shelf) (left name : Option Text) (before now : ShelfSeen) (refusal : Refusal) (answer : Exit)
    → ScriptStops told name before now answer → ScriptRefused (texts told left) name refusal → ¬ Rose before.faults now.faults
    → IsUnlessMemory (Refused refusal) answer
script_refused told left None before now refusal answer stops due calm = absurd stops
script_refused told left (Some name) before now refusal answer stops due calm =
    refused told script_file name before now IsNoScript answer refusal stops due calm (λ t. one_line t refusal answer)

script_not_refused : (told : Shelf) (left name : Option Text) (before now : ShelfSeen) (items : List Item) (refusal : Refusal)
    → ScriptRead told name before now items → ScriptRefused (texts told left) name refusal → ⊥
script_not_refused told left None before now items refusal read due = absurd due
script_not_refused told left (Some name) before now items refusal read due =
    not_refused told script_file name before now IsNoScript refusal read.0 read.1 due
    (λ none. (settled read.0).not_both items none.0 none.1 read.2 none.3)

-- ---- the whole task

-- no reading fails after a part that was read, either
later : (before first now : Outside) → first.shelf.faults ≡ before.shelf.faults → first.source.faults ≡ before.source.faults
    → NoReadFault before now → NoReadFault first now
later before first now shelf source calm = record {
  shelf = λ rose. calm.shelf (subst (λ (n : ℕ). Rose n now.shelf.faults) shelf rose);
  source = λ rose. calm.source (subst (λ (n : ℕ). Rose n now.source.faults) source rose);
}

behind_program : (told : Shelf) (file : Text) (before first now : Outside) (program : Straight) → ProgramRead told file before.shelf first.shelf program
    → first.source ≡ before.source → NoReadFault before now → NoReadFault first now
behind_program told file before first now program read same calm =
    later before first now (faults_kept told file before.shelf first.shelf read.0 read.1) (ap (λ (s : SourceSeen). s.faults) same) calm

behind_input : (told : Shelf) (of : Input) (first second now : Outside) (bytes : Text) → InputRead told of first second bytes
    → NoReadFault first now → NoReadFault second now
behind_input told of first second now bytes read calm =
    later first second now (shelf_kept told of first second bytes read) (source_kept told of first second bytes read) calm

left_kept : (before first : Outside) → first.source ≡ before.source → first.source.left ≡ before.source.left
left_kept before first same = ap (λ (s : SourceSeen). s.left) same

abbrev made : Straight → Text → List Item → Task
made program input script = record { program = program; input = input; script = script }

one_task : (task other : Task) → task.program ≡ other.program → task.input ≡ other.input → task.script ≡ other.script → task ≡ other
one_task task other program input script =
    ap (λ (p : Straight). made p task.input task.script) program
    ∙ ap (λ (i : Text). made other.program i task.script) input
    ∙ ap (made other.program other.input) script

pub same_task : (told : Shelf) (file : Text) (options : RunOptions) (before now : Outside) (task other : Task)
    → TaskRead told file options before now task → HasTask (texts_of told before) file options other → task ≡ other
same_task told file options before now task other read has =
    let left = before.source.left in
    one_task task other (same_program told left file before.shelf read.first.shelf task.program other.program read.program has.program)
    (same_input told left options.input read.first read.second task.input other.input read.input (left_kept before read.first read.no_source) has.input.0)
    (same_script told left options.script read.second.shelf now.shelf task.script other.script read.script has.script)

pub task_not_refused : (told : Shelf) (file : Text) (options : RunOptions) (before now : Outside) (task : Task) (refusal : Refusal)
    → TaskRead told file options before now task → TaskRefused (texts_of told before) file options refusal → ⊥
task_not_refused told file options before now task refusal read (ByProgram due) =
    program_not_refused told before.source.left file before.shelf read.first.shelf task.program refusal read.program due
task_not_refused told file options before now task refusal read (ByInput program has due) =
    input_not_refused told before.source.left options.input read.first read.second task.input refusal read.input (left_kept before read.first read.no_source) due
task_not_refused told file options before now task refusal read (ByScript program bytes has input due) =
    script_not_refused told before.source.left options.script read.second.shelf now.shelf task.script refusal read.script due

-- a task whose texts all pass stops only where memory is short
pub task_stops : (told : Shelf) (file : Text) (options : RunOptions) (before now : Outside) (task : Task) (answer : Exit)
    → TaskStops told file options before now answer → HasTask (texts_of told before) file options task → NoReadFault before now → answer ≡ Memory
task_stops told file options before now task answer (AtProgram stops same) has calm =
    program_stops told before.source.left file before.shelf now.shelf task.program answer stops has.program calm.shelf
task_stops told file options before now task answer (AtInput first program read same stops) has calm =
    input_passes told before.source.left options.input first now answer task.input stops (left_kept before first same) has.input
    (behind_program told file before first now program read same calm)
task_stops told file options before now task answer (AtScript first second program bytes read same input stops same_too) has calm =
    script_stops told before.source.left options.script second.shelf now.shelf task.script answer stops has.script
    (behind_input told options.input first second now bytes input (behind_program told file before first now program read same calm)).shelf

-- a task that its texts refuse stops with that refusal, or where memory is short
pub task_refused : (told : Shelf) (file : Text) (options : RunOptions) (before now : Outside) (refusal : Refusal) (answer : Exit)
    → TaskStops told file options before now answer → TaskRefused (texts_of told before) file options refusal → NoReadFault before now
    → IsUnlessMemory (Refused refusal) answer
task_refused told file options before now refusal answer (AtProgram stops same) (ByProgram due) calm =
    program_refused told before.source.left file before.shelf now.shelf refusal answer stops due calm.shelf
task_refused told file options before now refusal answer (AtProgram stops same) (ByInput program has due) calm =
    inr (program_stops told before.source.left file before.shelf now.shelf program answer stops has calm.shelf)
task_refused told file options before now refusal answer (AtProgram stops same) (ByScript program bytes has input due) calm =
    inr (program_stops told before.source.left file before.shelf now.shelf program answer stops has calm.shelf)
task_refused told file options before now refusal answer (AtInput first program read same stops) (ByProgram due) calm =
    absurd (program_not_refused told before.source.left file before.shelf first.shelf program refusal read due)
task_refused told file options before now refusal answer (AtInput first program read same stops) (ByInput other has due) calm =
    input_refused told before.source.left options.input first now refusal answer stops (left_kept before first same) due
    (behind_program told file before first now program read same calm)
task_refused told file options before now refusal answer (AtInput first program read same stops) (ByScript other bytes has input due) calm =
    inr (input_passes told before.source.left options.input first now answer bytes stops (left_kept before first same) input
    (behind_program told file before first now program read same calm))
task_refused told file options before now refusal answer (AtScript first second program bytes read same input stops same_too) (ByProgram due) calm =
    absurd (program_not_refused told before.source.left file before.shelf first.shelf program refusal read due)
task_refused told file options before now refusal answer (AtScript first second program bytes read same input stops same_too) (ByInput other has due) calm =
    absurd (input_not_refused told before.source.left options.input first second bytes refusal input (left_kept before first same) due)
task_refused told file options before now refusal answer (AtScript first second program bytes read same input stops same_too) (ByScript other more has input_has due) calm =
    script_refused told before.source.left options.script second.shelf now.shelf refusal answer stops due
    (behind_input told options.input first second now bytes input (behind_program told file before first now program read same calm)).shelf
