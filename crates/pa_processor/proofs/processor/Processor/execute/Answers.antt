use Rattle.std.proofs.Common.{rules}
use Rattle.std.specs.Prelude.{FitsSigned}
use Rattle.std.specs.Int.{w8, w16}
use Rattle.std.proofs.lemmas.Int.{to_z-of_z}
use Rattle.pa_processor.proofs.processor.Processor.execute.Goals as goal

pub returns-in-LoadStoreUnscaled : goal.returns-in-LoadStoreUnscaled
returns-in-LoadStoreUnscaled g c =
    let imm = c.in-LoadStoreUnscaled.imm in
    let fits : FitsSigned w16 imm = search rules in
    let done = c.load_store_unscaled.ensures (g.P.Pac.code c.args.p.now) in
    rw c.in-LoadStoreUnscaled.is (rw (to_z-of_z w16 imm fits) at done)

pub returns-in-LoadStorePair : goal.returns-in-LoadStorePair
returns-in-LoadStorePair g c =
    let imm = c.in-LoadStorePair.imm in
    let fits : FitsSigned w8 imm = search rules in
    let done = c.load_store_pair.ensures (g.P.Pac.code c.args.p.now) in
    rw c.in-LoadStorePair.is (rw (to_z-of_z w8 imm fits) at done)
