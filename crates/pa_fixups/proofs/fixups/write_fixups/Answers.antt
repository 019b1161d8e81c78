use Rattle.pa_fixups.proofs.Whole.{part_written}
use Rattle.pa_fixups.proofs.fixups.write_fixups.Goals as goal

pub returns : goal.returns
returns c =
    part_written c.args.at c.args.fixups.now c.as_slice.result.now c.as_slice-2.result.now c.new-out.result.items c.put_fixups.new.out.items c.requires c.as_slice.ensures c.as_slice-2.ensures c.new-out.ensures.items c.in_ok-put_fixups.ensures
