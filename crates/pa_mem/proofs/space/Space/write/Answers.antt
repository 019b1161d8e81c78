use Rattle.std.proofs.Common.{◌≤◌, lit≤}
use Rattle.pa_mem.specs.declared.access.Size.{Size}
use Rattle.pa_mem.specs.declared.access.Size.TheVariants.{B1, B2, B4, B8}
use Rattle.pa_mem.specs.Access.{byte_count}
use Rattle.pa_mem.proofs.Numbers.{store-to_le_bytes}
use Rattle.pa_mem.proofs.space.Space.write.Goals as goal

byte_count-le : (size : Size) → byte_count size ≤ 8
byte_count-le B1 = lit≤ tt
byte_count-le B2 = lit≤ tt
byte_count-le B4 = lit≤ tt
byte_count-le B8 = lit≤ tt

pub returns-clause-ok : goal.returns-clause-ok
returns-clause-ok c =
    let stored = store-to_le_bytes (byte_count c.args.size) c.args.self.now c.args.at c.args.value (byte_count-le c.args.size) in
    rw (stored, ← c.to_le_bytes-bytes.ensures, ← c.count.ensures) c.write_bytes.ensures.ok
