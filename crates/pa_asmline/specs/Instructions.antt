-- Which instruction a form gives, from the values of its operands.
use Rattle.std.specs.Prelude.{ℕ, zero, suc, ◌-◌, ◌^◌, ℤ, pos, negsuc, Bool, true, false, nat_lt, if◌then◌else◌, List, slice_get, unwrap_or}
use Rattle.pa_a64.specs.declared.instr.Instr.{Instr}
use Rattle.pa_a64.specs.declared.instr.Instr.TheVariants as instr
use Rattle.pa_a64.specs.declared.instr.BranchOp.TheVariants.{B, Bl}
use Rattle.pa_a64.specs.declared.instr.SumImmediateOp.TheVariants.{Add}
use Rattle.pa_asmline.specs.declared.form.Form.{Form}
use Rattle.pa_asmline.specs.declared.form.Form.TheVariants as form
use Rattle.pa_asmline.specs.declared.value.Value.{Value}
use Rattle.pa_asmline.specs.declared.value.Value.TheVariants.{Number, Out, Missing}

-- the value of the operand of this index, from 0
abbrev pub at : ℕ → List Value → Value
at index values = unwrap_or (slice_get values index) Missing

-- a number in so many bits. What has no room there, or is no number, counts as 0: no operand that is in its range is that.
abbrev pub fitted : (bits number : ℕ) → ℕ
fitted bits number = if nat_lt number (2 ^ bits) then number else 0

abbrev pub unsigned : (bits : ℕ) → Value → ℕ
unsigned bits (Number negative number) = fitted bits number
unsigned bits Out = 0
unsigned bits Missing = 0

abbrev pub with_sign : Bool → ℕ → ℤ
with_sign false number = pos number
with_sign true zero = pos zero
with_sign true (suc number) = negsuc number

abbrev pub integer : (bits : ℕ) → Value → ℤ
integer bits (Number negative number) = with_sign negative (fitted (bits - 1) number)
integer bits Out = pos 0
integer bits Missing = pos 0

abbrev pub byte : ℕ → List Value → ℕ
byte index values = unsigned 8 (at index values)

abbrev pub half : ℕ → List Value → ℕ
half index values = unsigned 16 (at index values)

abbrev pub signed_byte : ℕ → List Value → ℤ
signed_byte index values = integer 8 (at index values)

abbrev pub signed_half : ℕ → List Value → ℤ
signed_half index values = integer 16 (at index values)

abbrev pub signed : ℕ → List Value → ℤ
signed index values = integer 32 (at index values)

abbrev pub instruction : Form → List Value → Instr
instruction (form.MoveWide op) v = instr.MoveWide op (byte 0 v) (half 1 v) 0
instruction (form.MoveWideShifted op) v = instr.MoveWide op (byte 0 v) (half 1 v) (byte 2 v)
instruction (form.SumImmediate op) v = instr.SumImmediate op (byte 0 v) (byte 1 v) (half 2 v) false
instruction (form.SumImmediateShifted op) v = instr.SumImmediate op (byte 0 v) (byte 1 v) (half 2 v) true
instruction form.AddPageOffset v = instr.SumImmediate Add (byte 0 v) (byte 1 v) (half 2 v) false
instruction form.SubsImmediate v = instr.SubsImmediate (byte 0 v) (byte 1 v) (half 2 v) false
instruction form.SubsImmediateShifted v = instr.SubsImmediate (byte 0 v) (byte 1 v) (half 2 v) true
instruction (form.Sum op) v = instr.Sum op (byte 0 v) (byte 1 v) (byte 2 v)
instruction (form.Logical op) v = instr.Logical op (byte 0 v) (byte 1 v) (byte 2 v)
instruction (form.MultiplyAdd op) v = instr.MultiplyAdd op (byte 0 v) (byte 1 v) (byte 2 v) (byte 3 v)
instruction (form.Divide op) v = instr.Divide op (byte 0 v) (byte 1 v) (byte 2 v)
instruction (form.Shift op) v = instr.Shift op (byte 0 v) (byte 1 v) (byte 2 v)
instruction (form.Bitfield op) v = instr.Bitfield op (byte 0 v) (byte 1 v) (byte 2 v) (byte 3 v)
instruction form.Csinc v = instr.Csinc (byte 0 v) (byte 1 v) (byte 2 v) (byte 3 v)
instruction form.Adrp v = instr.Adrp (byte 0 v) (signed 1 v)
instruction form.AdrpPage v = instr.Adrp (byte 0 v) (signed 1 v)
instruction form.Nop v = instr.Nop
instruction (form.LoadStore op) v = instr.LoadStore op (byte 0 v) (byte 1 v) (half 2 v)
instruction (form.LoadStoreWord op) v = instr.LoadStoreWord op (byte 0 v) (byte 1 v) (half 2 v)
instruction (form.LoadStoreHalf op) v = instr.LoadStoreHalf op (byte 0 v) (byte 1 v) (half 2 v)
instruction (form.LoadStoreByte op) v = instr.LoadStoreByte op (byte 0 v) (byte 1 v) (half 2 v)
instruction (form.LoadStoreUnscaled op) v = instr.LoadStoreUnscaled op (byte 0 v) (byte 1 v) (signed_half 2 v)
instruction (form.LoadStorePair op) v = instr.LoadStorePair op (byte 0 v) (byte 1 v) (byte 2 v) (signed_byte 3 v)
instruction form.Jump v = instr.Branch B (signed 0 v)
instruction form.Call v = instr.Branch Bl (signed 0 v)
instruction form.BranchConditional v = instr.BranchConditional (byte 0 v) (signed 1 v)
instruction (form.CompareBranch op) v = instr.CompareBranch op (byte 0 v) (signed 1 v)
instruction (form.BranchRegister op) v = instr.BranchRegister op (byte 0 v)
instruction (form.BranchAuthenticated op) v = instr.BranchAuthenticated op (byte 0 v) (byte 1 v)
instruction form.Blraaz v = instr.Blraaz (byte 0 v)
instruction (form.Stack op) v = instr.Stack op
instruction (form.Sign op) v = instr.Sign op (byte 0 v) (byte 1 v)
instruction (form.Authenticate op) v = instr.Authenticate op (byte 0 v) (byte 1 v)
instruction (form.Plain op) v = instr.Plain op (byte 0 v)
instruction form.Pacga v = instr.Pacga (byte 0 v) (byte 1 v) (byte 2 v)
instruction (form.Exception op) v = instr.Exception op (half 0 v)
