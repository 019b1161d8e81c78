-- How many faults the objects in memory have had.
use Rattle.std.proofs.Common.{ℕ, ◌^◌, ◌<◌, arith}
use Rattle.pa_io.specs.declared.memory.MemShelf.{MemShelf}
use Rattle.pa_io.specs.declared.memory.MemSource.{MemSource}
use Rattle.pa_io.specs.declared.memory.MemSink.{MemSink}
use Rattle.pa_io.specs.Calls.{fault_count}

-- the listed calls, and those that asked for a name without a file
unfoldable pub shelf_faults : MemShelf → ℕ
shelf_faults shelf = fault_count shelf.fails shelf.calls shelf.missing

-- the listed calls
unfoldable pub source_faults : MemSource → ℕ
source_faults source = fault_count source.fails source.calls 0

-- the listed calls, and those that found no memory to grow
unfoldable pub sink_faults : MemSink → ℕ
sink_faults sink = fault_count sink.fails sink.calls sink.refused

-- the counts are numbers of 64 bits
pub shelf_faults-lt : (shelf : MemShelf) → shelf_faults shelf < 2 ^ 64
unfolding shelf_faults
shelf_faults-lt shelf = omega arith

pub source_faults-lt : (source : MemSource) → source_faults source < 2 ^ 64
unfolding source_faults
source_faults-lt source = omega arith

pub sink_faults-lt : (sink : MemSink) → sink_faults sink < 2 ^ 64
unfolding sink_faults
sink_faults-lt sink = omega arith
