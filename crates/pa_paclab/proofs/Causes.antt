-- Causes of a command's answers from those of its parts.
use Rattle.std.proofs.Common.{◌≡◌, ◌≤◌, ◌<◌, List, [], ◌∷◌, length, inl, inr, Result, Ok, Err, IfErr, refl, sym, subst, ap, ◌∙◌, arith, get_or}
use Rattle.pa_pac.specs.Signing.{Code}
use Rattle.pa_words.specs.Answers.{IsUsage}
use Rattle.pa_words.specs.Usage.{spelled}
use Rattle.pa_words.specs.declared.command.Command.{Command}
use Rattle.pa_words.specs.declared.command.Command.TheVariants as command
use Rattle.pa_words.specs.declared.command.Input.{Input}
use Rattle.pa_words.specs.declared.command.Input.TheVariants as from
use Rattle.pa_words.specs.declared.command.RunOptions.{RunOptions}
use Rattle.pa_words.specs.declared.command.UseFault.{UseFault}
use Rattle.pa_words.specs.declared.command.WordsFault.{WordsFault}
use Rattle.pa_words.specs.declared.command.WordsFault.TheVariants as fault
use Rattle.pa_task.specs.declared.exit.Exit.{Exit}
use Rattle.pa_task.specs.declared.task.Task.{Task}
use Rattle.pa_task.specs.Reading.{Text, Shelf, Outside, TaskRead, TaskStops, NotSource}
use Rattle.pa_task.specs.Refusals.{exit_of}
use Rattle.pa_paclab.specs.Runs.{code_of, RunStops}
use Rattle.pa_paclab.specs.Answers.{RunFails, Prints, CommandStops, KeepsSource, IsDone, IsStopped, UnlessFromSource}

pub unread : (host : Code) (told : Shelf) (file : Text) (options : RunOptions) (before now : Outside) (answer : Exit)
    → TaskStops told file options before now answer → RunFails host told file options before now answer
unread host told file options before now answer stops = inl stops

pub not_run : (host : Code) (told : Shelf) (file : Text) (options : RunOptions) (before now : Outside) (answer : Exit) (task : Task)
    → TaskRead told file options before now task → RunStops (code_of host options) options task answer
    → RunFails host told file options before now answer
not_run host told file options before now answer task read stops = inr (task, read, stops)

-- no command is spelled
pub no_command : (words : List Text) (host : Code) (told : Shelf) (now : Outside) (f : WordsFault)
    → IsUsage words f → IsStopped words host told now now (exit_of f)
no_command words host told now (fault.Usage rule) broken = inl (broken, refl)
no_command words host told now fault.Memory broken = inl (tt, refl)

pub command_stops : (words : List Text) (host : Code) (told : Shelf) (before now : Outside) (answer : Exit) (c : Command)
    → spelled words ≡ Ok c → CommandStops host told c before now answer → IsStopped words host told before now answer
command_stops words host told before now answer c is stops = inr (c, is, stops)

pub command_done : (words : List Text) (host : Code) (told : Shelf) (before now : Outside) (text : Text) (c : Command)
    → spelled words ≡ Ok c → Prints host told c before now text → IsDone words host told before now text
command_done words host told before now text c is prints = (c, is, prints)

-- ---- the source

not_source : (of : Input) (P : Type 0) → P → NotSource of P
not_source from.Empty P p = p
not_source from.Source P p = tt
not_source (from.File name) P p = p

pub keeps_source : (c : Command) (P : Type 0) → P → KeepsSource c P
keeps_source (command.Run [] options) P p = p
keeps_source (command.Run (file ∷ []) options) P p = not_source options.input P p
keeps_source (command.Run (file ∷ other ∷ more) options) P p = p
keeps_source (command.Build files) P p = p
keeps_source (command.Exec image options) P p = p
keeps_source (command.Check image) P p = p
keeps_source (command.Mean files options) P p = p
keeps_source (command.Disc word) P p = p
keeps_source (command.Bulk seed size) P p = p

pub kept_without_command : (r : Result Command UseFault) (P : Type 0) → P → UnlessFromSource r P
kept_without_command (Ok c) P p = keeps_source c P p
kept_without_command (Err f) P p = p

pub kept_by_command : (r : Result Command UseFault) (c : Command) (P : Type 0) → r ≡ Ok c → KeepsSource c P → UnlessFromSource r P
kept_by_command r c P is kept = subst (λ (x : Result Command UseFault). UnlessFromSource x P) (sym is) kept

-- ---- a run of one file

pub one_file : (host : Code) (told : Shelf) (c : Command) (files : List Text) (file : Text) (options : RunOptions) (before now : Outside)
    → c ≡ command.Run files options → files ≡ file ∷ [] → (answer : Exit) → RunFails host told file options before now answer
    → CommandStops host told c before now answer
one_file host told c files file options before now run one answer fails =
    subst (λ (x : Command). CommandStops host told x before now answer) (sym run)
    (subst (λ (x : List Text). CommandStops host told (command.Run x options) before now answer) (sym one) fails)

one_item : (files : List Text) (file : Text) → 1 ≤ length files → length files < 2 → file ≡ get_or files 0 file → files ≡ file ∷ []
one_item [] file some few is = absurd (omega (arith, some))
one_item (x ∷ []) file some few is = ap (λ y. y ∷ []) (sym is)
one_item (x ∷ y ∷ more) file some few is = absurd (omega (arith, few))

-- in the form that a match on the operands gives
pub matched : (files slice : List Text) (file text : Text) → slice ≡ files → 1 ≤ length slice → length slice < 2 → file ≡ get_or slice 0 file
    → text ≡ file → files ≡ text ∷ []
matched files slice file text same some few is read = sym same ∙ one_item slice file some few is ∙ ap (λ y. y ∷ []) (sym read)

pub err_map : {T E : Type 0} {P Q : E → Type 0} (r : Result T E) → ((e : E) → P e → Q e) → IfErr r P → IfErr r Q
err_map (Ok x) f p = tt
err_map (Err e) f p = f e p
