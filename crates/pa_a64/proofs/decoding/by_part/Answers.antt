-- Bits 28 to 25 leave the rows of one part, or none.
use Rattle.std.proofs.Common.{[], ◌∷◌, refl, ◌∙◌, arith}
use Rattle.pa_a64.specs.Table.{branch_rows, immediate_rows, memory_rows, register_rows}
use Rattle.pa_a64.proofs.Rows.{whole_table, none_in_table}
use Rattle.pa_a64.proofs.decoding.by_part.Goals as goal

pub returns-in-8 : goal.returns-in-8
returns-in-8 c = c.immediate.ensures ∙ whole_table immediate_rows 25 4 (0b1000 ∷ 0b1001 ∷ []) refl c.args.word c.get.ensures.value (grind arith)

pub returns-in-10 : goal.returns-in-10
returns-in-10 c = c.branch-word.ensures ∙ whole_table branch_rows 25 4 (0b1010 ∷ 0b1011 ∷ []) refl c.args.word c.get.ensures.value (grind arith)

pub returns-in-4 : goal.returns-in-4
returns-in-4 c = c.memory.ensures ∙ whole_table memory_rows 25 4 (0b0100 ∷ 0b0110 ∷ 0b1100 ∷ 0b1110 ∷ []) refl c.args.word c.get.ensures.value (grind arith)

pub returns-in-5 : goal.returns-in-5
returns-in-5 c = c.register.ensures ∙ whole_table register_rows 25 4 (0b0101 ∷ 0b1101 ∷ []) refl c.args.word c.get.ensures.value (grind arith)

pub returns-in_default : goal.returns-in_default
returns-in_default c =
    none_in_table 25 4 ((0b1000 ∷ 0b1001 ∷ []) ∷ (0b1010 ∷ 0b1011 ∷ []) ∷ (0b0100 ∷ 0b0110 ∷ 0b1100 ∷ 0b1110 ∷ []) ∷ (0b0101 ∷ 0b1101 ∷ []) ∷ []) refl c.args.word c.get.ensures.value
    (grind arith, (grind arith, (grind arith, (grind arith, tt))))

pub returns-in_default-2 : goal.returns-in_default-2
returns-in_default-2 c =
    none_in_table 25 4 ((0b1000 ∷ 0b1001 ∷ []) ∷ (0b1010 ∷ 0b1011 ∷ []) ∷ (0b0100 ∷ 0b0110 ∷ 0b1100 ∷ 0b1110 ∷ []) ∷ (0b0101 ∷ 0b1101 ∷ []) ∷ []) refl c.args.word c.get.ensures.value
    (grind arith, (grind arith, (grind arith, (grind arith, tt))))
