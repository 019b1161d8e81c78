-- The table: where each form stands, and that no two forms of one name have one text.
use Rattle.std.proofs.Common.{◌≡◌, ◌⊎◌, inl, inr, ℕ, Bool, true, false, not, ◌&&◌, ◌||◌, ◌==◌, List, [], ◌∷◌, refl, get_or}
use Rattle.std.specs.List.{list_all}
use Rattle.std.specs.Str.{bytes_eq}
use Rattle.pa_a64.specs.declared.instr.AuthenticateOp.TheVariants as AuthenticateOp
use Rattle.pa_a64.specs.declared.instr.BitfieldOp.TheVariants as BitfieldOp
use Rattle.pa_a64.specs.declared.instr.BranchAuthenticatedOp.TheVariants as BranchAuthenticatedOp
use Rattle.pa_a64.specs.declared.instr.BranchRegisterOp.TheVariants as BranchRegisterOp
use Rattle.pa_a64.specs.declared.instr.CompareBranchOp.TheVariants as CompareBranchOp
use Rattle.pa_a64.specs.declared.instr.DivideOp.TheVariants as DivideOp
use Rattle.pa_a64.specs.declared.instr.ExceptionOp.TheVariants as ExceptionOp
use Rattle.pa_a64.specs.declared.instr.LoadStoreByteOp.TheVariants as LoadStoreByteOp
use Rattle.pa_a64.specs.declared.instr.LoadStoreHalfOp.TheVariants as LoadStoreHalfOp
use Rattle.pa_a64.specs.declared.instr.LoadStoreOp.TheVariants as LoadStoreOp
use Rattle.pa_a64.specs.declared.instr.LoadStorePairOp.TheVariants as LoadStorePairOp
use Rattle.pa_a64.specs.declared.instr.LoadStoreUnscaledOp.TheVariants as LoadStoreUnscaledOp
use Rattle.pa_a64.specs.declared.instr.LoadStoreWordOp.TheVariants as LoadStoreWordOp
use Rattle.pa_a64.specs.declared.instr.LogicalOp.TheVariants as LogicalOp
use Rattle.pa_a64.specs.declared.instr.MoveWideOp.TheVariants as MoveWideOp
use Rattle.pa_a64.specs.declared.instr.MultiplyAddOp.TheVariants as MultiplyAddOp
use Rattle.pa_a64.specs.declared.instr.PlainOp.TheVariants as PlainOp
use Rattle.pa_a64.specs.declared.instr.ShiftOp.TheVariants as ShiftOp
use Rattle.pa_a64.specs.declared.instr.SignOp.TheVariants as SignOp
use Rattle.pa_a64.specs.declared.instr.StackOp.TheVariants as StackOp
use Rattle.pa_a64.specs.declared.instr.SumImmediateOp.TheVariants as SumImmediateOp
use Rattle.pa_a64.specs.declared.instr.SumOp.TheVariants as SumOp
use Rattle.pa_asmline.specs.declared.form.Form.{Form}
use Rattle.pa_asmline.specs.declared.form.Form.TheVariants as form
use Rattle.pa_asmline.specs.declared.kind.Kind.{Kind}
use Rattle.pa_asmline.specs.declared.kind.Kind.TheVariants as kind
use Rattle.pa_asmline.specs.Rows.{Text, name, kinds, forms_at}

-- operands of the first kind are no operands of the second
abbrev pub kind_apart : Kind → Kind → Bool
kind_apart (kind.Number range) kind.Register = true
kind_apart (kind.Number range) kind.Page = true
kind_apart (kind.Number range) kind.PageOffset = true
kind_apart kind.PageOffset kind.Register = true
kind_apart _ _ = false

abbrev pub kinds_apart : List Kind → List Kind → Bool
kinds_apart [] [] = false
kinds_apart [] (other ∷ others) = true
kinds_apart (kind ∷ kinds) [] = true
kinds_apart (kind ∷ kinds) (other ∷ others) = kind_apart kind other || kinds_apart kinds others

abbrev pub apart : Form → Form → Bool
apart form other = not (bytes_eq (name form) (name other)) || kinds_apart (kinds form) (kinds other)

-- a form is in a list, and those before it have other texts
abbrev pub Leads : List Form → Form → Type 0
Leads [] form = ⊥
Leads (other ∷ others) form = (other ≡ form) ⊎ ((apart other form ≡ true) × Leads others form)

abbrev pub first : Text → ℕ
first text = get_or text 0 0

pub listed : (f : Form) → Leads (forms_at (first (name f))) f
listed (form.MoveWide MoveWideOp.Movz) = inl refl
listed (form.MoveWide MoveWideOp.Movn) = inr (refl, inl refl)
listed (form.MoveWide MoveWideOp.Movk) = inr (refl, inr (refl, inl refl))
listed (form.MoveWideShifted MoveWideOp.Movz) = inr (refl, inr (refl, inr (refl, inl refl)))
listed (form.MoveWideShifted MoveWideOp.Movn) = inr (refl, inr (refl, inr (refl, inr (refl, inl refl))))
listed (form.MoveWideShifted MoveWideOp.Movk) = inr (refl, inr (refl, inr (refl, inr (refl, inr (refl, inl refl)))))
listed (form.SumImmediate SumImmediateOp.Add) = inl refl
listed (form.SumImmediate SumImmediateOp.Sub) = inl refl
listed (form.SumImmediateShifted SumImmediateOp.Add) = inr (refl, inl refl)
listed (form.SumImmediateShifted SumImmediateOp.Sub) = inr (refl, inl refl)
listed form.AddPageOffset = inr (refl, inr (refl, inl refl))
listed form.SubsImmediate = inr (refl, inr (refl, inl refl))
listed form.SubsImmediateShifted = inr (refl, inr (refl, inr (refl, inl refl)))
listed (form.Sum SumOp.Add) = inr (refl, inr (refl, inr (refl, inl refl)))
listed (form.Sum SumOp.Sub) = inr (refl, inr (refl, inr (refl, inr (refl, inl refl))))
listed (form.Sum SumOp.Subs) = inr (refl, inr (refl, inr (refl, inr (refl, inr (refl, inl refl)))))
listed (form.Logical LogicalOp.And) = inr (refl, inr (refl, inr (refl, inr (refl, inl refl))))
listed (form.Logical LogicalOp.Orr) = inl refl
listed (form.Logical LogicalOp.Eor) = inl refl
listed (form.Logical LogicalOp.Orn) = inr (refl, inl refl)
listed (form.MultiplyAdd MultiplyAddOp.Madd) = inr (refl, inr (refl, inr (refl, inr (refl, inr (refl, inr (refl, inl refl))))))
listed (form.MultiplyAdd MultiplyAddOp.Msub) = inr (refl, inr (refl, inr (refl, inr (refl, inr (refl, inr (refl, inr (refl, inl refl)))))))
listed (form.Divide DivideOp.Udiv) = inl refl
listed (form.Divide DivideOp.Sdiv) = inr (refl, inr (refl, inr (refl, inr (refl, inr (refl, inr (refl, inl refl))))))
listed (form.Shift ShiftOp.Lslv) = inl refl
listed (form.Shift ShiftOp.Lsrv) = inr (refl, inl refl)
listed (form.Shift ShiftOp.Asrv) = inr (refl, inr (refl, inr (refl, inr (refl, inr (refl, inl refl)))))
listed (form.Bitfield BitfieldOp.Sbfm) = inr (refl, inr (refl, inr (refl, inr (refl, inr (refl, inr (refl, inr (refl, inl refl)))))))
listed (form.Bitfield BitfieldOp.Ubfm) = inr (refl, inl refl)
listed form.Csinc = inl refl
listed form.Adrp = inr (refl, inr (refl, inr (refl, inr (refl, inr (refl, inr (refl, inl refl))))))
listed form.AdrpPage = inr (refl, inr (refl, inr (refl, inr (refl, inr (refl, inr (refl, inr (refl, inl refl)))))))
listed form.Nop = inl refl
listed (form.LoadStore LoadStoreOp.Ldr) = inr (refl, inr (refl, inl refl))
listed (form.LoadStore LoadStoreOp.Str) = inr (refl, inr (refl, inr (refl, inr (refl, inr (refl, inr (refl, inr (refl, inr (refl, inl refl))))))))
listed (form.LoadStoreWord LoadStoreWordOp.Ldrw) = inr (refl, inr (refl, inr (refl, inl refl)))
listed (form.LoadStoreWord LoadStoreWordOp.Strw) = inr (refl, inr (refl, inr (refl, inr (refl, inr (refl, inr (refl, inr (refl, inr (refl, inr (refl, inl refl)))))))))
listed (form.LoadStoreWord LoadStoreWordOp.Ldrsw) = inr (refl, inr (refl, inr (refl, inr (refl, inl refl))))
listed (form.LoadStoreHalf LoadStoreHalfOp.Ldrh) = inr (refl, inr (refl, inr (refl, inr (refl, inr (refl, inl refl)))))
listed (form.LoadStoreHalf LoadStoreHalfOp.Strh) = inr (refl, inr (refl, inr (refl, inr (refl, inr (refl, inr (refl, inr (refl, inr (refl, inr (refl, inr (refl, inl refl))))))))))
listed (form.LoadStoreHalf LoadStoreHalfOp.Ldrsh) = inr (refl, inr (refl, inr (refl, inr (refl, inr (refl, inr (refl, inl refl))))))
listed (form.LoadStoreByte LoadStoreByteOp.Ldrb) = inr (refl, inr (refl, inr (refl, inr (refl, inr (refl, inr (refl, inr (refl, inl refl)))))))
listed (form.LoadStoreByte LoadStoreByteOp.Strb) = inr (refl, inr (refl, inr (refl, inr (refl, inr (refl, inr (refl, inr (refl, inr (refl, inr (refl, inr (refl, inr (refl, inl refl)))))))))))
listed (form.LoadStoreByte LoadStoreByteOp.Ldrsb) = inr (refl, inr (refl, inr (refl, inr (refl, inr (refl, inr (refl, inr (refl, inr (refl, inl refl))))))))
listed (form.LoadStoreUnscaled LoadStoreUnscaledOp.Ldur) = inr (refl, inr (refl, inr (refl, inr (refl, inr (refl, inr (refl, inr (refl, inr (refl, inr (refl, inl refl)))))))))
listed (form.LoadStoreUnscaled LoadStoreUnscaledOp.Stur) = inr (refl, inr (refl, inr (refl, inr (refl, inr (refl, inr (refl, inr (refl, inr (refl, inr (refl, inr (refl, inr (refl, inr (refl, inl refl))))))))))))
listed (form.LoadStorePair LoadStorePairOp.Ldp) = inr (refl, inr (refl, inr (refl, inr (refl, inr (refl, inr (refl, inr (refl, inr (refl, inr (refl, inr (refl, inl refl))))))))))
listed (form.LoadStorePair LoadStorePairOp.Stp) = inr (refl, inr (refl, inr (refl, inr (refl, inr (refl, inr (refl, inr (refl, inr (refl, inr (refl, inr (refl, inr (refl, inr (refl, inr (refl, inl refl)))))))))))))
listed form.Jump = inl refl
listed form.Call = inr (refl, inl refl)
listed form.BranchConditional = inr (refl, inr (refl, inl refl))
listed (form.CompareBranch CompareBranchOp.Cbz) = inr (refl, inl refl)
listed (form.CompareBranch CompareBranchOp.Cbnz) = inr (refl, inr (refl, inl refl))
listed (form.BranchRegister BranchRegisterOp.Br) = inr (refl, inr (refl, inr (refl, inl refl)))
listed (form.BranchRegister BranchRegisterOp.Blr) = inr (refl, inr (refl, inr (refl, inr (refl, inl refl))))
listed (form.BranchRegister BranchRegisterOp.Ret) = inl refl
listed (form.BranchAuthenticated BranchAuthenticatedOp.Braa) = inr (refl, inr (refl, inr (refl, inr (refl, inr (refl, inl refl)))))
listed (form.BranchAuthenticated BranchAuthenticatedOp.Blraa) = inr (refl, inr (refl, inr (refl, inr (refl, inr (refl, inr (refl, inl refl))))))
listed (form.BranchAuthenticated BranchAuthenticatedOp.Blrab) = inr (refl, inr (refl, inr (refl, inr (refl, inr (refl, inr (refl, inr (refl, inl refl)))))))
listed form.Blraaz = inr (refl, inr (refl, inr (refl, inr (refl, inr (refl, inr (refl, inr (refl, inr (refl, inl refl))))))))
listed (form.Stack StackOp.Retab) = inr (refl, inl refl)
listed (form.Stack StackOp.Pacibsp) = inl refl
listed (form.Stack StackOp.Autibsp) = inr (refl, inr (refl, inr (refl, inr (refl, inr (refl, inr (refl, inr (refl, inr (refl, inl refl))))))))
listed (form.Sign SignOp.Pacia) = inr (refl, inl refl)
listed (form.Sign SignOp.Pacib) = inr (refl, inr (refl, inl refl))
listed (form.Sign SignOp.Pacda) = inr (refl, inr (refl, inr (refl, inl refl)))
listed (form.Sign SignOp.Pacdb) = inr (refl, inr (refl, inr (refl, inr (refl, inl refl))))
listed (form.Authenticate AuthenticateOp.Autia) = inr (refl, inr (refl, inr (refl, inr (refl, inr (refl, inr (refl, inr (refl, inr (refl, inr (refl, inl refl)))))))))
listed (form.Authenticate AuthenticateOp.Autib) = inr (refl, inr (refl, inr (refl, inr (refl, inr (refl, inr (refl, inr (refl, inr (refl, inr (refl, inr (refl, inl refl))))))))))
listed (form.Authenticate AuthenticateOp.Autda) = inr (refl, inr (refl, inr (refl, inr (refl, inr (refl, inr (refl, inr (refl, inr (refl, inr (refl, inr (refl, inr (refl, inl refl)))))))))))
listed (form.Authenticate AuthenticateOp.Autdb) = inr (refl, inr (refl, inr (refl, inr (refl, inr (refl, inr (refl, inr (refl, inr (refl, inr (refl, inr (refl, inr (refl, inr (refl, inl refl))))))))))))
listed (form.Plain PlainOp.Paciza) = inr (refl, inr (refl, inr (refl, inr (refl, inr (refl, inl refl)))))
listed (form.Plain PlainOp.Autiza) = inr (refl, inr (refl, inr (refl, inr (refl, inr (refl, inr (refl, inr (refl, inr (refl, inr (refl, inr (refl, inr (refl, inr (refl, inr (refl, inl refl)))))))))))))
listed (form.Plain PlainOp.Xpaci) = inl refl
listed form.Pacga = inr (refl, inr (refl, inr (refl, inr (refl, inr (refl, inr (refl, inl refl))))))
listed (form.Exception ExceptionOp.Svc) = inr (refl, inr (refl, inr (refl, inr (refl, inr (refl, inr (refl, inr (refl, inr (refl, inr (refl, inr (refl, inr (refl, inr (refl, inr (refl, inr (refl, inl refl))))))))))))))
listed (form.Exception ExceptionOp.Brk) = inr (refl, inr (refl, inr (refl, inr (refl, inr (refl, inr (refl, inr (refl, inr (refl, inr (refl, inl refl)))))))))

-- neither `.` nor `/`
abbrev pub begins_row : Text → Bool
begins_row [] = false
begins_row (byte ∷ text) = not (byte == 46) && not (byte == 47)

-- a name has no space and no colon
abbrev pub is_fit : Form → Bool
is_fit f = list_all (λ byte. not (byte == 32)) (name f) && (list_all (λ byte. not (byte == 58)) (name f) && begins_row (name f))

pub fits : (f : Form) → is_fit f ≡ true
fits (form.MoveWide MoveWideOp.Movz) = refl
fits (form.MoveWide MoveWideOp.Movn) = refl
fits (form.MoveWide MoveWideOp.Movk) = refl
fits (form.MoveWideShifted MoveWideOp.Movz) = refl
fits (form.MoveWideShifted MoveWideOp.Movn) = refl
fits (form.MoveWideShifted MoveWideOp.Movk) = refl
fits (form.SumImmediate SumImmediateOp.Add) = refl
fits (form.SumImmediate SumImmediateOp.Sub) = refl
fits (form.SumImmediateShifted SumImmediateOp.Add) = refl
fits (form.SumImmediateShifted SumImmediateOp.Sub) = refl
fits form.AddPageOffset = refl
fits form.SubsImmediate = refl
fits form.SubsImmediateShifted = refl
fits (form.Sum SumOp.Add) = refl
fits (form.Sum SumOp.Sub) = refl
fits (form.Sum SumOp.Subs) = refl
fits (form.Logical LogicalOp.And) = refl
fits (form.Logical LogicalOp.Orr) = refl
fits (form.Logical LogicalOp.Eor) = refl
fits (form.Logical LogicalOp.Orn) = refl
fits (form.MultiplyAdd MultiplyAddOp.Madd) = refl
fits (form.MultiplyAdd MultiplyAddOp.Msub) = refl
fits (form.Divide DivideOp.Udiv) = refl
fits (form.Divide DivideOp.Sdiv) = refl
fits (form.Shift ShiftOp.Lslv) = refl
fits (form.Shift ShiftOp.Lsrv) = refl
fits (form.Shift ShiftOp.Asrv) = refl
fits (form.Bitfield BitfieldOp.Sbfm) = refl
fits (form.Bitfield BitfieldOp.Ubfm) = refl
fits form.Csinc = refl
fits form.Adrp = refl
fits form.AdrpPage = refl
fits form.Nop = refl
fits (form.LoadStore LoadStoreOp.Ldr) = refl
fits (form.LoadStore LoadStoreOp.Str) = refl
fits (form.LoadStoreWord LoadStoreWordOp.Ldrw) = refl
fits (form.LoadStoreWord LoadStoreWordOp.Strw) = refl
fits (form.LoadStoreWord LoadStoreWordOp.Ldrsw) = refl
fits (form.LoadStoreHalf LoadStoreHalfOp.Ldrh) = refl
fits (form.LoadStoreHalf LoadStoreHalfOp.Strh) = refl
fits (form.LoadStoreHalf LoadStoreHalfOp.Ldrsh) = refl
fits (form.LoadStoreByte LoadStoreByteOp.Ldrb) = refl
fits (form.LoadStoreByte LoadStoreByteOp.Strb) = refl
fits (form.LoadStoreByte LoadStoreByteOp.Ldrsb) = refl
fits (form.LoadStoreUnscaled LoadStoreUnscaledOp.Ldur) = refl
fits (form.LoadStoreUnscaled LoadStoreUnscaledOp.Stur) = refl
fits (form.LoadStorePair LoadStorePairOp.Ldp) = refl
fits (form.LoadStorePair LoadStorePairOp.Stp) = refl
fits form.Jump = refl
fits form.Call = refl
fits form.BranchConditional = refl
fits (form.CompareBranch CompareBranchOp.Cbz) = refl
fits (form.CompareBranch CompareBranchOp.Cbnz) = refl
fits (form.BranchRegister BranchRegisterOp.Br) = refl
fits (form.BranchRegister BranchRegisterOp.Blr) = refl
fits (form.BranchRegister BranchRegisterOp.Ret) = refl
fits (form.BranchAuthenticated BranchAuthenticatedOp.Braa) = refl
fits (form.BranchAuthenticated BranchAuthenticatedOp.Blraa) = refl
fits (form.BranchAuthenticated BranchAuthenticatedOp.Blrab) = refl
fits form.Blraaz = refl
fits (form.Stack StackOp.Retab) = refl
fits (form.Stack StackOp.Pacibsp) = refl
fits (form.Stack StackOp.Autibsp) = refl
fits (form.Sign SignOp.Pacia) = refl
fits (form.Sign SignOp.Pacib) = refl
fits (form.Sign SignOp.Pacda) = refl
fits (form.Sign SignOp.Pacdb) = refl
fits (form.Authenticate AuthenticateOp.Autia) = refl
fits (form.Authenticate AuthenticateOp.Autib) = refl
fits (form.Authenticate AuthenticateOp.Autda) = refl
fits (form.Authenticate AuthenticateOp.Autdb) = refl
fits (form.Plain PlainOp.Paciza) = refl
fits (form.Plain PlainOp.Autiza) = refl
fits (form.Plain PlainOp.Xpaci) = refl
fits form.Pacga = refl
fits (form.Exception ExceptionOp.Svc) = refl
fits (form.Exception ExceptionOp.Brk) = refl
