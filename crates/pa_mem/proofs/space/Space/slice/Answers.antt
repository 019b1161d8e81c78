use Rattle.std.proofs.Common.{◌≡◌, ◌+◌, ◌-◌, ap, sym, ◌∙◌, arith}
use Rattle.pa_mem.proofs.Apart.{at-read, bytes_at-region}
use Rattle.pa_mem.proofs.space.Space.slice.Goals as goal

pub returns-clause-value : goal.returns-clause-value
returns-clause-value c =
    let region = c.index-region.result.now in
    let start = c.in_ok-place.place.start in
    let p = at-read c.self.inside.regions.items c.args.self.now c.in_ok-place.place.region region c.self.view_is c.index-region.ensures c.in_ok-place.ensures.region in
    let place = rw p.found at (c.in_ok-place.ensures.place region) in
    let apart = rw c.self.view_is at c.self.invariant in
    let bytes : c.deref.result.now ≡ region.bytes = c.deref.ensures.value ∙ ap (λ r. r.bytes) c.region.view_is in
    let count : start + c.args.count - start ≡ c.args.count = omega arith in
    rw (count, bytes) (sym (bytes_at-region c.args.count c.args.self.now c.in_ok-place.place.region region c.args.at start p apart place.address place.room))
