use Rattle.std.proofs.Common.{◌≡◌, set, ap, sym, ◌∙◌}
use Rattle.pa_mem.specs.Memory.{with_bytes, all_apart}
use Rattle.pa_mem.proofs.Apart.{at-read, with_bytes-region}
use Rattle.pa_mem.proofs.Bytes.{all_apart-with_bytes}
use Rattle.pa_mem.proofs.space.Space.write_bytes.Goals as goal

written : (c : goal.After-self-1) → set c.self.inside.regions.items c.in_ok-place.place.region c.patch.new.self ≡ with_bytes c.args.self.now c.args.at c.args.bytes.now
written c =
    let region = c.index_mut.result.now in
    let p = at-read c.self.inside.regions.items c.args.self.now c.in_ok-place.place.region region c.self.view_is c.index_mut.ensures.value c.in_ok-place.ensures.region in
    let place = rw p.found at (c.in_ok-place.ensures.place region) in
    let apart = rw c.self.view_is at c.self.invariant in
    rw (c.patch.ensures, c.self.view_is) (sym (with_bytes-region c.args.bytes.now c.args.self.now c.in_ok-place.place.region region c.args.at c.in_ok-place.place.start p apart place.address place.room))

pub invariant_of-self : goal.invariant_of-self
invariant_of-self c =
    let apart = rw c.self.view_is at c.self.invariant in
    ap all_apart (written c) ∙ all_apart-with_bytes c.args.self.now c.args.at c.args.bytes.now ∙ apart

pub returns-clause-ok : goal.returns-clause-ok
returns-clause-ok c = written c
