-- What is told of a region beside its bytes.
use Rattle.std.specs.Prelude.{length}
use Rattle.pa_mem.specs.declared.mapping.Extent.{Extent}
use Rattle.pa_mem.specs.Memory.{Region, rights_of}

abbrev pub extent_of : Region → Extent
extent_of region = record { base = region.base; len = length region.bytes; rights = rights_of region }
