use Rattle.std.proofs.Common.{◌≡◌, true, Ok, Err, is_ok, if◌then◌else◌, ◌++◌, ◌∷◌, []}
use Rattle.pa_mem.specs.Memory.{all_apart, apart_from_all}
use Rattle.pa_mem.proofs.Apart.{all_apart-append}
use Rattle.pa_mem.proofs.space.Space.add.Goals as goal

pub invariant_of-self : goal.invariant_of-self
invariant_of-self c =
    let apart : apart_from_all c.new.result c.self.inside.regions.items ≡ true = rw (c.new.ensures, c.self.view_is) c.requires.apart in
    rw c.push.ensures.items
    (elim c.push.result as (λ r. all_apart (if is_ok r then c.self.inside.regions.items ++ c.new.result ∷ [] else c.self.inside.regions.items) ≡ true) [
      | Ok x ↦ all_apart-append c.self.inside.regions.items c.new.result c.self.invariant apart
      | Err e ↦ c.self.invariant
    ])
