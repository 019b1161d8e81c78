-- What operations read and write, and what is counted on functions.
use Rattle.std.specs.Prelude.{ℕ, suc, ◌+◌, ◌*◌, max, List, [], ◌∷◌, sum_by, Option, Some, None}
use Rattle.std.specs.Option.{option_to_list}
use Rattle.std.specs.Int.{next_multiple_of}
use Rattle.pa_lir.specs.declared.op.Op.{Op}
use Rattle.pa_lir.specs.declared.op.Op.TheVariants as op
use Rattle.pa_lir.specs.declared.function.LirLocal.{LirLocal}
use Rattle.pa_lir.specs.declared.function.LirFn.{LirFn}

-- the temporary that an operation writes
abbrev pub written_by : Op → Option ℕ
written_by (op.Const to value) = Some to
written_by (op.Bin to o left right) = Some to
written_by (op.Un to o from) = Some to
written_by (op.Extend to from bits signed) = Some to
written_by (op.Local to local) = Some to
written_by (op.Global to name) = Some to
written_by (op.Code to name) = Some to
written_by (op.Load to at bytes signed) = Some to
written_by (op.Store at from bytes) = None
written_by (op.LoadSigned to at schema) = Some to
written_by (op.StoreSigned at from schema) = None
written_by (op.Call to name arguments) = to
written_by (op.CallPlain to called arguments) = to
written_by (op.CallSigned to at schema arguments) = to
written_by (op.Label label) = None
written_by (op.Jump label) = None
written_by (op.Branch on label) = None
written_by (op.Return from) = None

-- the temporaries that an operation reads
abbrev pub read_by : Op → List ℕ
read_by (op.Const to value) = []
read_by (op.Bin to o left right) = left ∷ right ∷ []
read_by (op.Un to o from) = from ∷ []
read_by (op.Extend to from bits signed) = from ∷ []
read_by (op.Local to local) = []
read_by (op.Global to name) = []
read_by (op.Code to name) = []
read_by (op.Load to at bytes signed) = at ∷ []
read_by (op.Store at from bytes) = at ∷ from ∷ []
read_by (op.LoadSigned to at schema) = at ∷ []
read_by (op.StoreSigned at from schema) = at ∷ from ∷ []
read_by (op.Call to name arguments) = arguments
read_by (op.CallPlain to called arguments) = called ∷ arguments
read_by (op.CallSigned to at schema arguments) = at ∷ arguments
read_by (op.Label label) = []
read_by (op.Jump label) = []
read_by (op.Branch on label) = on ∷ []
read_by (op.Return from) = option_to_list from

-- one more than the largest number, or 0 where there is none
unfoldable pub above : List ℕ → ℕ
above [] = 0
above (t ∷ ts) = max (suc t) (above ts)

abbrev pub above_op : Op → ℕ
above_op o = max (above (option_to_list (written_by o))) (above (read_by o))

unfoldable pub above_all : List Op → ℕ
above_all [] = 0
above_all (o ∷ os) = max (above_op o) (above_all os)

-- how many temporaries a function holds, each of which lives as long as the function runs: one more than the largest number
abbrev pub held : LirFn → ℕ
held f = above_all f.ops

-- the sizes of a function's locals, each rounded up to 8 bytes
abbrev pub rounded : LirLocal → ℕ
rounded l = next_multiple_of l.size 8

abbrev pub bytes : LirFn → ℕ
bytes f = sum_by rounded f.locals

-- the most bytes that an open call of the function has on the stack
abbrev pub frame_bound : LirFn → ℕ
frame_bound f = 224 + (2 * bytes f + 8 * held f)

-- The most instructions that run for an operation. A call's have the beginning of the called function among them, or its stub
-- and the runtime's function.
abbrev pub cost : Op → ℕ
cost (op.Const to value) = 6
cost (op.Bin to o left right) = 8
cost (op.Un to o from) = 5
cost (op.Extend to from bits signed) = 5
cost (op.Local to local) = 4
cost (op.Global to name) = 4
cost (op.Code to name) = 10
cost (op.Load to at bytes signed) = 5
cost (op.Store at from bytes) = 5
cost (op.LoadSigned to at schema) = 10
cost (op.StoreSigned at from schema) = 10
cost (op.Call to name arguments) = 31
cost (op.CallPlain to called arguments) = 34
cost (op.CallSigned to at schema arguments) = 37
cost (op.Label label) = 0
cost (op.Jump label) = 1
cost (op.Branch on label) = 4
cost (op.Return from) = 6

-- of all operations of a function, as they are written
abbrev pub costs : LirFn → ℕ
costs f = sum_by cost f.ops

-- how many operations a run counts for one: a label is none
abbrev pub counted : Op → ℕ
counted (op.Label label) = 0
counted _ = 1
