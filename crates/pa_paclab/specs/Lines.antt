-- The line that a command prints where it isn't done.
use Rattle.std.specs.Prelude.{ℕ, List, ◌++◌, codes, decimal}
use Rattle.pa_task.specs.declared.exit.Exit.{Exit}
use Rattle.pa_task.specs.declared.exit.Exit.TheVariants.{Done, Usage, Refused, ReadFault, InputFault, WriteFault, Memory}
use Rattle.pa_words.specs.declared.command.UseFault.{UseFault}
use Rattle.pa_words.specs.declared.command.UseFault.TheVariants.{U1, U2, U3, U4, U5, U6}
use Rattle.pa_script.specs.declared.rule.ScriptRule.{ScriptRule}
use Rattle.pa_script.specs.declared.rule.ScriptRule.TheVariants.{P1, P2, P3, P4}
use Rattle.pa_task.specs.declared.exit.Rule.{Rule}
use Rattle.pa_task.specs.declared.exit.Rule.TheVariants.{Script, M6, N1}

abbrev pub use_fault_text : UseFault → List ℕ
use_fault_text U1 = codes "U1"
use_fault_text U2 = codes "U2"
use_fault_text U3 = codes "U3"
use_fault_text U4 = codes "U4"
use_fault_text U5 = codes "U5"
use_fault_text U6 = codes "U6"

abbrev pub script_rule_text : ScriptRule → List ℕ
script_rule_text P1 = codes "P1"
script_rule_text P2 = codes "P2"
script_rule_text P3 = codes "P3"
script_rule_text P4 = codes "P4"

abbrev pub rule_text : Rule → List ℕ
rule_text (Script rule) = script_rule_text rule
rule_text M6 = codes "M6"
rule_text N1 = codes "N1"

-- nothing where the command is done or its text couldn't be written
unfoldable pub line_of : Exit → List ℕ
line_of Done = codes ""
line_of (Usage fault) = codes "usage " ++ use_fault_text fault ++ codes "\n"
line_of (Refused refusal) = codes "refused " ++ rule_text refusal.rule ++ codes " " ++ decimal refusal.file ++ codes " " ++ decimal refusal.place ++ codes "\n"
line_of (ReadFault file) = codes "read fault " ++ decimal file ++ codes "\n"
line_of InputFault = codes "input fault\n"
line_of WriteFault = codes ""
line_of Memory = codes "memory\n"
