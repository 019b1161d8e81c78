-- Two values that are places in one object.
use Rattle.std.specs.Prelude.{Option, Some, None, if◌then◌else◌}
use Rattle.pa_ctype.specs.Values.{CValue, At, same_owner}
use Rattle.pa_store.specs.declared.pointers.Offsets.{Offsets}

abbrev pub offsets_of : CValue → CValue → Option Offsets
offsets_of (At a) (At b) = if same_owner a.owner b.owner then Some (record { left = a.offset; right = b.offset }) else None
offsets_of _ _ = None
