use Rattle.std.proofs.Common.{◌≡◌, take}
use Rattle.pa_lex.specs.Numbering.{stdint_types}
use Rattle.pa_lex.specs.Inside.{texts}
use Rattle.pa_lex.proofs.names.Names.new.Given as goal

abbrev pub invariant-loop-text : goal.invariant-loop-text
invariant-loop-text l = record {
  items : texts l.text-items ≡ stdint_types;
  noted : l.names ≡ take l.text-index stdint_types;
}
