use Rattle.std.proofs.Common.{◌≡◌, length, take, ap, ◌∙◌}
use Rattle.std.proofs.lemmas.List.{take_at}
use Rattle.pa_mem.specs.Memory.{bytes_at}
use Rattle.pa_mem.proofs.Numbers.{length-bytes_at}
use Rattle.pa_mem.proofs.space.Space.copy.Goals as goal

pub returns-clause-ok : goal.returns-clause-ok
returns-clause-ok c =
    let value = c.in_ok-read_bytes.ensures.value in
    let size : length c.in_ok-read_bytes.field-0.now ≡ c.args.count = ap length value ∙ length-bytes_at c.args.count c.args.self.now c.args.from in
    let front : take c.args.count c.fill.new.buffer ≡ bytes_at c.args.count c.args.self.now c.args.from = ap (take c.args.count) c.fill.ensures ∙ take_at c.in_ok-read_bytes.field-0.now _ c.args.count size ∙ value in
    rw (← front) c.write_bytes.ensures.ok
