-- Which instructions accept and go on, call, sign.
use Rattle.std.specs.Prelude.{Bool, true, false}
use Rattle.pa_a64.specs.declared.instr.Instr.{Instr}
use Rattle.pa_a64.specs.declared.instr.Instr.TheVariants as i
use Rattle.pa_a64.specs.declared.instr.BranchRegisterOp.TheVariants.{Blr}
use Rattle.pa_a64.specs.declared.instr.BranchAuthenticatedOp.TheVariants.{Blraa, Blrab}
use Rattle.pa_a64.specs.declared.instr.StackOp.TheVariants.{Pacibsp, Autibsp}
use Rattle.pa_a64.specs.declared.instr.PlainOp.TheVariants.{Paciza, Autiza}
use Rattle.pa_image.specs.Places.{is_call}

-- an authentication that goes on behind it, or a call: from here on a raw code pointer may stand in a register
abbrev pub begins_raw : Instr → Bool
begins_raw (i.Authenticate op rd rn) = true
begins_raw (i.Plain Autiza rd) = true
begins_raw (i.Stack Autibsp) = true
begins_raw other = is_call other

-- a signature, or a call through a register: the raw code pointer is signed or gone
abbrev pub ends_raw : Instr → Bool
ends_raw (i.Sign op rd rn) = true
ends_raw (i.Plain Paciza rd) = true
ends_raw (i.Stack Pacibsp) = true
ends_raw (i.Pacga rd rn rm) = true
ends_raw (i.BranchRegister Blr rn) = true
ends_raw (i.BranchAuthenticated Blraa rn rm) = true
ends_raw (i.BranchAuthenticated Blrab rn rm) = true
ends_raw (i.Blraaz rn) = true
ends_raw other = false
