use Rattle.bench_machine.proofs.Below.{below_apart, below_added}
use Rattle.bench_machine.proofs.add.Goals as goal

pub add-requires : goal.add-requires
add-requires c = record { apart = below_apart c.args.base c.args.bytes c.args.rights c.args.space.now c.requires }

pub returns : goal.returns
returns c = below_added c.args.base c.args.bytes c.args.rights c.args.space.now c.add.new.self c.add.result c.requires c.add.ensures.ok
