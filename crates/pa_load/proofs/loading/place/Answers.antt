use Rattle.std.proofs.Common.{ℕ, ◌+◌, ◌*◌, ap, refl}
use Rattle.pa_load.proofs.Whole.{placed_is}
use Rattle.pa_load.proofs.loading.place.Goals as goal

pub returns : goal.returns
returns c = λ runtime found.
    let shift = 0x4000 * c.from.result in
    placed_is c.args.main.now runtime c.args.slide shift (c.base.result + shift) (c.base.result + shift + c.args.places.now.got) c.args.imports c.args.places.now c.requires.program c.requires.places
    (ap (λ (n : ℕ). 0x4000 * n) c.from.ensures) (ap (λ (n : ℕ). n + shift) c.base.ensures) refl found
