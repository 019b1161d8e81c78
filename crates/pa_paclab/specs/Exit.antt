-- The status of an answer to a call.
use Rattle.std.specs.Prelude.{◌≡◌, ℕ}
use Rattle.std.specs.declared.io.ErrorKind.{ErrorKind}
use Rattle.std.specs.declared.io.ErrorKind.TheVariants.{OutOfMemory}
use Rattle.pa_paclab.specs.Answers.{Call, IsAnswer}
use Rattle.pa_task.specs.declared.exit.Exit.{Exit}
use Rattle.pa_task.specs.declared.exit.Exit.TheVariants.{Memory}
use Rattle.pa_task.specs.Status.{status_of}

-- the status of an answer to a call
abbrev pub IsStatusOf : Call → ℕ → Type 0
IsStatusOf call status = (answer : Exit) × (status ≡ status_of answer) × IsAnswer call answer

-- the status where an error of this kind stands in place of the words: that of out of memory, or one that no answer has
abbrev pub no_words_status : ErrorKind → ℕ
no_words_status OutOfMemory = status_of Memory
no_words_status kind = 8
