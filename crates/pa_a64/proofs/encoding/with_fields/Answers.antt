-- The fields of each line, put one after the other into the fixed bits of its row, make the word.
use Rattle.std.proofs.Common.{refl, ◌∙◌, rules, w8, w16, w32, SFits}
use Rattle.pa_a64.proofs.TwosComplement.{bits-passed, bits-widened}
use Rattle.pa_a64.proofs.RoundTrip.{encoded-puts, then_put, bit_of-bool, pages_above, pages_below}
use Rattle.pa_a64.proofs.encoding.with_fields.Goals as goal

pub returns-in-Adrp : goal.returns-in-Adrp
returns-in-Adrp c =
    let fits : SFits w32 c.in-Adrp.pages = search rules in
    let bits = c.to_bits-bits.ensures.bits ∙ bits-passed w32 21 _ fits in
    then_put 29 2 c.put-word-in-Adrp-2.ensures.value
    (then_put 5 19 c.put-word-in-Adrp.ensures.value (then_put 0 5 c.put-word.ensures.value refl c.from.ensures)
    (c.get.ensures.value ∙ pages_above c.to_bits-bits.result _ c.to_bits-bits.ensures.fits bits))
    (c.get-in-Adrp.ensures.value ∙ pages_below c.to_bits-bits.result _ bits)
    ∙ encoded-puts c.args.instr _ c.args.word c.requires.range c.in-Adrp.is c.requires.row

pub returns-in-SumImmediate : goal.returns-in-SumImmediate
returns-in-SumImmediate c =
    then_put 22 1 c.put-word-in-SumImmediate-4.ensures.value (then_put 10 12 c.put-word-in-SumImmediate-3.ensures.value (then_put 5 5 c.put-word-in-SumImmediate-2.ensures.value (then_put 0 5 c.put-word-in-SumImmediate.ensures.value refl c.from-in-SumImmediate.ensures) c.from-in-SumImmediate-2.ensures) c.from-in-SumImmediate-3.ensures) (c.from-in-SumImmediate-4.ensures ∙ bit_of-bool c.in-SumImmediate.shifted)
    ∙ encoded-puts c.args.instr _ c.args.word c.requires.range c.in-SumImmediate.is c.requires.row

pub returns-in-SubsImmediate : goal.returns-in-SubsImmediate
returns-in-SubsImmediate c =
    then_put 22 1 c.put-word-in-SubsImmediate-4.ensures.value (then_put 10 12 c.put-word-in-SubsImmediate-3.ensures.value (then_put 5 5 c.put-word-in-SubsImmediate-2.ensures.value (then_put 0 5 c.put-word-in-SubsImmediate.ensures.value refl c.from-in-SubsImmediate.ensures) c.from-in-SubsImmediate-2.ensures) c.from-in-SubsImmediate-3.ensures) (c.from-in-SubsImmediate-4.ensures ∙ bit_of-bool c.in-SubsImmediate.shifted)
    ∙ encoded-puts c.args.instr _ c.args.word c.requires.range c.in-SubsImmediate.is c.requires.row

pub returns-in-MoveWide : goal.returns-in-MoveWide
returns-in-MoveWide c =
    then_put 21 2 c.put-word-in-MoveWide-3.ensures.value (then_put 5 16 c.put-word-in-MoveWide-2.ensures.value (then_put 0 5 c.put-word-in-MoveWide.ensures.value refl c.from-in-MoveWide.ensures) c.from-in-MoveWide-2.ensures) c.from-in-MoveWide-3.ensures
    ∙ encoded-puts c.args.instr _ c.args.word c.requires.range c.in-MoveWide.is c.requires.row

pub returns-in-Bitfield : goal.returns-in-Bitfield
returns-in-Bitfield c =
    then_put 16 6 c.put-word-in-Bitfield-4.ensures.value (then_put 10 6 c.put-word-in-Bitfield-3.ensures.value (then_put 5 5 c.put-word-in-Bitfield-2.ensures.value (then_put 0 5 c.put-word-in-Bitfield.ensures.value refl c.from-in-Bitfield.ensures) c.from-in-Bitfield-2.ensures) c.from-in-Bitfield-3.ensures) c.from-in-Bitfield-4.ensures
    ∙ encoded-puts c.args.instr _ c.args.word c.requires.range c.in-Bitfield.is c.requires.row

pub returns-in-Logical : goal.returns-in-Logical
returns-in-Logical c =
    then_put 16 5 c.put-word-in-Logical-3.ensures.value (then_put 5 5 c.put-word-in-Logical-2.ensures.value (then_put 0 5 c.put-word-in-Logical.ensures.value refl c.from-in-Logical.ensures) c.from-in-Logical-2.ensures) c.from-in-Logical-3.ensures
    ∙ encoded-puts c.args.instr _ c.args.word c.requires.range c.in-Logical.is c.requires.row

pub returns-in-Sum : goal.returns-in-Sum
returns-in-Sum c =
    then_put 16 5 c.put-word-in-Sum-3.ensures.value (then_put 5 5 c.put-word-in-Sum-2.ensures.value (then_put 0 5 c.put-word-in-Sum.ensures.value refl c.from-in-Sum.ensures) c.from-in-Sum-2.ensures) c.from-in-Sum-3.ensures
    ∙ encoded-puts c.args.instr _ c.args.word c.requires.range c.in-Sum.is c.requires.row

pub returns-in-MultiplyAdd : goal.returns-in-MultiplyAdd
returns-in-MultiplyAdd c =
    then_put 16 5 c.put-word-in-MultiplyAdd-4.ensures.value (then_put 10 5 c.put-word-in-MultiplyAdd-3.ensures.value (then_put 5 5 c.put-word-in-MultiplyAdd-2.ensures.value (then_put 0 5 c.put-word-in-MultiplyAdd.ensures.value refl c.from-in-MultiplyAdd.ensures) c.from-in-MultiplyAdd-2.ensures) c.from-in-MultiplyAdd-3.ensures) c.from-in-MultiplyAdd-4.ensures
    ∙ encoded-puts c.args.instr _ c.args.word c.requires.range c.in-MultiplyAdd.is c.requires.row

pub returns-in-Divide : goal.returns-in-Divide
returns-in-Divide c =
    then_put 16 5 c.put-word-in-Divide-3.ensures.value (then_put 5 5 c.put-word-in-Divide-2.ensures.value (then_put 0 5 c.put-word-in-Divide.ensures.value refl c.from-in-Divide.ensures) c.from-in-Divide-2.ensures) c.from-in-Divide-3.ensures
    ∙ encoded-puts c.args.instr _ c.args.word c.requires.range c.in-Divide.is c.requires.row

pub returns-in-Shift : goal.returns-in-Shift
returns-in-Shift c =
    then_put 16 5 c.put-word-in-Shift-3.ensures.value (then_put 5 5 c.put-word-in-Shift-2.ensures.value (then_put 0 5 c.put-word-in-Shift.ensures.value refl c.from-in-Shift.ensures) c.from-in-Shift-2.ensures) c.from-in-Shift-3.ensures
    ∙ encoded-puts c.args.instr _ c.args.word c.requires.range c.in-Shift.is c.requires.row

pub returns-in-Csinc : goal.returns-in-Csinc
returns-in-Csinc c =
    then_put 16 5 c.put-word-in-Csinc-4.ensures.value (then_put 12 4 c.put-word-in-Csinc-3.ensures.value (then_put 5 5 c.put-word-in-Csinc-2.ensures.value (then_put 0 5 c.put-word-in-Csinc.ensures.value refl c.from-in-Csinc.ensures) c.from-in-Csinc-2.ensures) c.from-in-Csinc-3.ensures) c.from-in-Csinc-4.ensures
    ∙ encoded-puts c.args.instr _ c.args.word c.requires.range c.in-Csinc.is c.requires.row

pub returns-in-Pacga : goal.returns-in-Pacga
returns-in-Pacga c =
    then_put 16 5 c.put-word-in-Pacga-3.ensures.value (then_put 5 5 c.put-word-in-Pacga-2.ensures.value (then_put 0 5 c.put-word-in-Pacga.ensures.value refl c.from-in-Pacga.ensures) c.from-in-Pacga-2.ensures) c.from-in-Pacga-3.ensures
    ∙ encoded-puts c.args.instr _ c.args.word c.requires.range c.in-Pacga.is c.requires.row

pub returns-in-Sign : goal.returns-in-Sign
returns-in-Sign c =
    then_put 5 5 c.put-word-in-Sign-2.ensures.value (then_put 0 5 c.put-word-in-Sign.ensures.value refl c.from-in-Sign.ensures) c.from-in-Sign-2.ensures
    ∙ encoded-puts c.args.instr _ c.args.word c.requires.range c.in-Sign.is c.requires.row

pub returns-in-Authenticate : goal.returns-in-Authenticate
returns-in-Authenticate c =
    then_put 5 5 c.put-word-in-Authenticate-2.ensures.value (then_put 0 5 c.put-word-in-Authenticate.ensures.value refl c.from-in-Authenticate.ensures) c.from-in-Authenticate-2.ensures
    ∙ encoded-puts c.args.instr _ c.args.word c.requires.range c.in-Authenticate.is c.requires.row

pub returns-in-Plain : goal.returns-in-Plain
returns-in-Plain c =
    then_put 0 5 c.put-word-in-Plain.ensures.value refl c.from-in-Plain.ensures
    ∙ encoded-puts c.args.instr _ c.args.word c.requires.range c.in-Plain.is c.requires.row

pub returns-in-LoadStore : goal.returns-in-LoadStore
returns-in-LoadStore c =
    then_put 10 12 c.put-word-in-LoadStore-3.ensures.value (then_put 5 5 c.put-word-in-LoadStore-2.ensures.value (then_put 0 5 c.put-word-in-LoadStore.ensures.value refl c.from-in-LoadStore.ensures) c.from-in-LoadStore-2.ensures) c.from-in-LoadStore-3.ensures
    ∙ encoded-puts c.args.instr _ c.args.word c.requires.range c.in-LoadStore.is c.requires.row

pub returns-in-LoadStoreWord : goal.returns-in-LoadStoreWord
returns-in-LoadStoreWord c =
    then_put 10 12 c.put-word-in-LoadStoreWord-3.ensures.value (then_put 5 5 c.put-word-in-LoadStoreWord-2.ensures.value (then_put 0 5 c.put-word-in-LoadStoreWord.ensures.value refl c.from-in-LoadStoreWord.ensures) c.from-in-LoadStoreWord-2.ensures) c.from-in-LoadStoreWord-3.ensures
    ∙ encoded-puts c.args.instr _ c.args.word c.requires.range c.in-LoadStoreWord.is c.requires.row

pub returns-in-LoadStoreHalf : goal.returns-in-LoadStoreHalf
returns-in-LoadStoreHalf c =
    then_put 10 12 c.put-word-in-LoadStoreHalf-3.ensures.value (then_put 5 5 c.put-word-in-LoadStoreHalf-2.ensures.value (then_put 0 5 c.put-word-in-LoadStoreHalf.ensures.value refl c.from-in-LoadStoreHalf.ensures) c.from-in-LoadStoreHalf-2.ensures) c.from-in-LoadStoreHalf-3.ensures
    ∙ encoded-puts c.args.instr _ c.args.word c.requires.range c.in-LoadStoreHalf.is c.requires.row

pub returns-in-LoadStoreByte : goal.returns-in-LoadStoreByte
returns-in-LoadStoreByte c =
    then_put 10 12 c.put-word-in-LoadStoreByte-3.ensures.value (then_put 5 5 c.put-word-in-LoadStoreByte-2.ensures.value (then_put 0 5 c.put-word-in-LoadStoreByte.ensures.value refl c.from-in-LoadStoreByte.ensures) c.from-in-LoadStoreByte-2.ensures) c.from-in-LoadStoreByte-3.ensures
    ∙ encoded-puts c.args.instr _ c.args.word c.requires.range c.in-LoadStoreByte.is c.requires.row

pub returns-in-LoadStoreUnscaled : goal.returns-in-LoadStoreUnscaled
returns-in-LoadStoreUnscaled c =
    let fits : SFits w16 c.in-LoadStoreUnscaled.imm = search rules in
    then_put 12 9 c.put-word-in-LoadStoreUnscaled-3.ensures.value (then_put 5 5 c.put-word-in-LoadStoreUnscaled-2.ensures.value (then_put 0 5 c.put-word-in-LoadStoreUnscaled.ensures.value refl c.from-in-LoadStoreUnscaled.ensures) c.from-in-LoadStoreUnscaled-2.ensures) (c.to_bits.ensures.bits ∙ bits-widened w16 9 c.from-in-LoadStoreUnscaled-3.result _ fits (record { sfits = c.from-in-LoadStoreUnscaled-3.type_inv }) c.from-in-LoadStoreUnscaled-3.ensures)
    ∙ encoded-puts c.args.instr _ c.args.word c.requires.range c.in-LoadStoreUnscaled.is c.requires.row

pub returns-in-LoadStorePair : goal.returns-in-LoadStorePair
returns-in-LoadStorePair c =
    let fits : SFits w8 c.in-LoadStorePair.imm = search rules in
    then_put 15 7 c.put-word-in-LoadStorePair-4.ensures.value (then_put 10 5 c.put-word-in-LoadStorePair-3.ensures.value (then_put 5 5 c.put-word-in-LoadStorePair-2.ensures.value (then_put 0 5 c.put-word-in-LoadStorePair.ensures.value refl c.from-in-LoadStorePair.ensures) c.from-in-LoadStorePair-2.ensures) c.from-in-LoadStorePair-3.ensures) (c.to_bits-in-LoadStorePair.ensures.bits ∙ bits-widened w8 7 c.from-in-LoadStorePair-4.result _ fits (record { sfits = c.from-in-LoadStorePair-4.type_inv }) c.from-in-LoadStorePair-4.ensures)
    ∙ encoded-puts c.args.instr _ c.args.word c.requires.range c.in-LoadStorePair.is c.requires.row

pub returns-in-Branch : goal.returns-in-Branch
returns-in-Branch c =
    let fits : SFits w32 c.in-Branch.words = search rules in
    then_put 0 26 c.put-word-in-Branch.ensures.value refl (c.to_bits-in-Branch.ensures.bits ∙ bits-passed w32 26 _ fits)
    ∙ encoded-puts c.args.instr _ c.args.word c.requires.range c.in-Branch.is c.requires.row

pub returns-in-BranchConditional : goal.returns-in-BranchConditional
returns-in-BranchConditional c =
    let fits : SFits w32 c.in-BranchConditional.words = search rules in
    then_put 5 19 c.put-word-in-BranchConditional-2.ensures.value (then_put 0 4 c.put-word-in-BranchConditional.ensures.value refl c.from-in-BranchConditional.ensures) (c.to_bits-in-BranchConditional.ensures.bits ∙ bits-passed w32 19 _ fits)
    ∙ encoded-puts c.args.instr _ c.args.word c.requires.range c.in-BranchConditional.is c.requires.row

pub returns-in-CompareBranch : goal.returns-in-CompareBranch
returns-in-CompareBranch c =
    let fits : SFits w32 c.in-CompareBranch.words = search rules in
    then_put 5 19 c.put-word-in-CompareBranch-2.ensures.value (then_put 0 5 c.put-word-in-CompareBranch.ensures.value refl c.from-in-CompareBranch.ensures) (c.to_bits-in-CompareBranch.ensures.bits ∙ bits-passed w32 19 _ fits)
    ∙ encoded-puts c.args.instr _ c.args.word c.requires.range c.in-CompareBranch.is c.requires.row

pub returns-in-Exception : goal.returns-in-Exception
returns-in-Exception c =
    then_put 5 16 c.put-word-in-Exception.ensures.value refl c.from-in-Exception.ensures
    ∙ encoded-puts c.args.instr _ c.args.word c.requires.range c.in-Exception.is c.requires.row

pub returns-in-Nop : goal.returns-in-Nop
returns-in-Nop c =
    encoded-puts c.args.instr _ c.args.word c.requires.range c.in-Nop.is c.requires.row

pub returns-in-Stack : goal.returns-in-Stack
returns-in-Stack c =
    encoded-puts c.args.instr _ c.args.word c.requires.range c.in-Stack.is c.requires.row

pub returns-in-BranchRegister : goal.returns-in-BranchRegister
returns-in-BranchRegister c =
    then_put 5 5 c.put-word-in-BranchRegister.ensures.value refl c.from-in-BranchRegister.ensures
    ∙ encoded-puts c.args.instr _ c.args.word c.requires.range c.in-BranchRegister.is c.requires.row

pub returns-in-Blraaz : goal.returns-in-Blraaz
returns-in-Blraaz c =
    then_put 5 5 c.put-word-in-Blraaz.ensures.value refl c.from-in-Blraaz.ensures
    ∙ encoded-puts c.args.instr _ c.args.word c.requires.range c.in-Blraaz.is c.requires.row

pub returns-in-BranchAuthenticated : goal.returns-in-BranchAuthenticated
returns-in-BranchAuthenticated c =
    then_put 5 5 c.put-word-in-BranchAuthenticated-2.ensures.value (then_put 0 5 c.put-word-in-BranchAuthenticated.ensures.value refl c.from-in-BranchAuthenticated.ensures) c.from-in-BranchAuthenticated-2.ensures
    ∙ encoded-puts c.args.instr _ c.args.word c.requires.range c.in-BranchAuthenticated.is c.requires.row
