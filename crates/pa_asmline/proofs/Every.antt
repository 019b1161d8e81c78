-- Each instruction in range that names no label has a line.
use Rattle.std.proofs.Common.{◌≡◌, ℕ, zero, suc, ◌-◌, ◌*◌, ◌/◌, ◌%◌, ◌^◌, ◌≤◌, ◌<◌, Bool, true, false, ◌==◌, List, [], ◌∷◌, ◌++◌, length, map, get_or, refl, sym, ◌∙◌, ap, arith, codes}
use Rattle.std.specs.Prelude.{nat_lt, nat_le, pos, negsuc}
use Rattle.std.specs.List.{list_all}
use Rattle.std.specs.Char.{is_ascii_digit}
use Rattle.std.specs.Fmt.{decimal}
use Rattle.std.specs.Str.{all_ascii_digits}
use Rattle.std.specs.Str.Parse.{digits_value}
use Rattle.std.proofs.lemmas.Bool.Decides.{nat_tests}
use Rattle.std.proofs.lemmas.Fmt.{digits_decimal, digits_value-decimal, decimal_digit, decimal_nonempty, first_decimal}
use Rattle.std.proofs.lemmas.Str.Parse.{IsNumeralModel, numerals_by_value, tells_all_ascii_digits}
use Rattle.pa_a64.specs.declared.instr.Instr.{Instr}
use Rattle.pa_a64.specs.declared.instr.Instr.TheVariants as instr
use Rattle.pa_a64.specs.Decoding.{InRange}
use Rattle.pa_asmline.specs.declared.form.Form.{Form}
use Rattle.pa_asmline.specs.declared.form.Form.TheVariants as form
use Rattle.pa_asmline.specs.declared.kind.Kind.{Kind}
use Rattle.pa_asmline.specs.declared.kind.Kind.TheVariants as kind
use Rattle.pa_asmline.specs.declared.kind.Range.{Range}
use Rattle.pa_asmline.specs.declared.kind.Step.{Step}
use Rattle.pa_asmline.specs.declared.kind.Step.TheVariants.{One, Two, Four, Eight, Sixteen}
use Rattle.pa_asmline.specs.declared.value.Value.{Value}
use Rattle.pa_asmline.specs.declared.value.Value.TheVariants.{Number}
use Rattle.pa_asmline.specs.Every.{has_label, HasLine}
use Rattle.pa_asmline.specs.Instructions.{instruction, fitted, integer, with_sign}
use Rattle.pa_asmline.specs.Lines.{AreOperands}
use Rattle.pa_asmline.specs.Operands.{Given, sign, is_numeral, bound, value, register_text, IsNumber, Spells}
use Rattle.pa_asmline.specs.Rows.{Text, name, kinds, size, unsigned, signed}

-- ---- numbers

own_digits : IsNumeralModel (λ ds. all_ascii_digits ds ≡ true) (digits_value 10)
own_digits = numerals_by_value _ tells_all_ascii_digits

numeral_by : (negative : Bool) (digits : Text) → list_all is_ascii_digit digits ≡ true → 0 < length digits → 48 < get_or digits 0 0 → is_numeral negative digits ≡ true
numeral_by negative [] h k l = absurd (omega arith)
numeral_by negative (digit ∷ digits) h k l =
    let other : (digit == 48) ≡ false = grind (arith, nat_tests) in
    rw other h

zero_numeral : (negative : Bool) → (negative ≡ true → 0 < 0) → is_numeral negative (48 ∷ []) ≡ true
zero_numeral false h = refl
zero_numeral true h = absurd (let z = h refl in omega arith)

numeral_of : (negative : Bool) (n : ℕ) → n < 2 ^ 64 → (negative ≡ true → 0 < n) → is_numeral negative (decimal n) ≡ true
numeral_of negative zero h k =
    let digit : decimal 0 ≡ 48 ∷ [] = decimal_digit 0 (omega arith) in
    rw digit (zero_numeral negative k)
numeral_of negative (suc n) h k =
    numeral_by negative (decimal (suc n)) (digits_decimal own_digits (suc n) h) (decimal_nonempty (suc n) h) (first_decimal (suc n) (omega arith) h)

whole_steps : (s : Step) (n : ℕ) → ((n * size s) % size s ≡ 0) × ((n * size s) / size s ≡ n)
whole_steps One n = (omega arith, omega arith)
whole_steps Two n = (omega arith, omega arith)
whole_steps Four n = (omega arith, omega arith)
whole_steps Eight n = (omega arith, omega arith)
whole_steps Sixteen n = (omega arith, omega arith)

value_of : (range : Range) (negative : Bool) (n : ℕ) → n * size range.step ≤ bound range negative → value range negative (n * size range.step) ≡ Number negative n
value_of range negative n h =
    let steps = whole_steps range.step n in
    let inside : nat_le (n * size range.step) (bound range negative) ≡ true = grind (arith, nat_tests) in
    rw (inside, steps.0, steps.1) refl

-- a number that has a text
abbrev IsHeld : Range → Value → Type 0
IsHeld range v = (negative : Bool) × (number : ℕ) × (number < 2 ^ 64) × (negative ≡ true → 0 < number) × (value range negative number ≡ v)

held : (range : Range) (n : ℕ) → n * size range.step ≤ range.most → n * size range.step < 2 ^ 64 → IsHeld range (Number false n)
held range n h k = (false, n * size range.step, k, (λ e. absurd (let z : false ≡ true = e in cc)), value_of range false n h)

some_steps : (s : Step) (n : ℕ) → 0 < n → 0 < n * size s
some_steps One n h = omega arith
some_steps Two n h = omega arith
some_steps Four n h = omega arith
some_steps Eight n h = omega arith
some_steps Sixteen n h = omega arith

held_below : (range : Range) (n : ℕ) → 0 < n → n * size range.step ≤ range.below → n * size range.step < 2 ^ 64 → IsHeld range (Number true n)
held_below range n some h k = (true, n * size range.step, k, (λ e. some_steps range.step n some), value_of range true n h)

held_unsigned : (bits : ℕ) (s : Step) (n : ℕ) → n < 2 ^ bits → 2 ^ bits ≤ 65536 → IsHeld (unsigned bits s) (Number false n)
held_unsigned bits One n h k = held (unsigned bits One) n (omega arith) (omega arith)
held_unsigned bits Two n h k = held (unsigned bits Two) n (omega arith) (omega arith)
held_unsigned bits Four n h k = held (unsigned bits Four) n (omega arith) (omega arith)
held_unsigned bits Eight n h k = held (unsigned bits Eight) n (omega arith) (omega arith)
held_unsigned bits Sixteen n h k = held (unsigned bits Sixteen) n (omega arith) (omega arith)

number_text : (range : Range) (v : Value) → IsHeld range v → (text : Text) × IsNumber range (Given v) text
number_text range v h =
    (sign h.0 ++ decimal h.1, (h.0, decimal h.1, numeral_of h.0 h.1 h.2 h.3, refl, ap Given (sym h.4 ∙ ap (value range h.0) (sym (digits_value-decimal own_digits h.1 h.2)))))

-- ---- operands

abbrev IsRegisterValue : Value → Type 0
IsRegisterValue v = (n : ℕ) × (n < 32) × (v ≡ Number false n)

abbrev IsPrintable : Kind → Value → Type 0
IsPrintable kind.Register v = IsRegisterValue v
IsPrintable kind.RegisterOrStack v = IsRegisterValue v
IsPrintable kind.Base v = IsRegisterValue v
IsPrintable (kind.Number range) v = IsHeld range v
IsPrintable (kind.Offset range) v = IsHeld range v
IsPrintable (kind.Shift range) v = IsHeld range v
IsPrintable kind.Shift12 v = v ≡ Number false 12
IsPrintable (kind.Target range) v = ⊥
IsPrintable (kind.Callee range) v = ⊥
IsPrintable kind.Page v = ⊥
IsPrintable kind.PageOffset v = ⊥

operand_text : (k : Kind) (v : Value) → IsPrintable k v → (text : Text) × Spells k (Given v) text
operand_text kind.Register v h = (register_text (codes "xzr") h.0, (h.0, h.1, refl, ap Given h.2))
operand_text kind.RegisterOrStack v h = (register_text (codes "sp") h.0, (h.0, h.1, refl, ap Given h.2))
operand_text kind.Base v h = (codes "[" ++ register_text (codes "sp") h.0, (register_text (codes "sp") h.0, refl, (h.0, h.1, refl, ap Given h.2)))
operand_text (kind.Number range) v h = let n = number_text range v h in (codes "#" ++ n.0, (n.0, refl, n.1))
operand_text (kind.Offset range) v h = let n = number_text range v h in (codes "#" ++ (n.0 ++ codes "]"), (n.0, refl, n.1))
operand_text (kind.Shift range) v h = let n = number_text range v h in (codes "lsl #" ++ n.0, (n.0, refl, n.1))
operand_text kind.Shift12 v h = (codes "lsl #12", (refl, ap Given h))
operand_text (kind.Target range) v h = absurd h
operand_text (kind.Callee range) v h = absurd h
operand_text kind.Page v h = absurd h
operand_text kind.PageOffset v h = absurd h

abbrev ArePrintable : List Kind → List Value → Type 0
ArePrintable [] [] = Unit {0}
ArePrintable [] (v ∷ vs) = ⊥
ArePrintable (k ∷ ks) [] = ⊥
ArePrintable (k ∷ ks) (v ∷ vs) = IsPrintable k v × ArePrintable ks vs

operands_text : (separator : Text) (ks : List Kind) (vs : List Value) → ArePrintable ks vs → (text : Text) × AreOperands separator ks (map Given vs) text
operands_text separator [] [] h = ([], refl)
operands_text separator [] (v ∷ vs) h = absurd h
operands_text separator (k ∷ ks) [] h = absurd h
operands_text separator (k ∷ ks) (v ∷ vs) h =
    let own = operand_text k v h.0 in
    let rest = operands_text (codes ", ") ks vs h.1 in
    (separator ++ (own.0 ++ rest.0), (own.0, rest.0, refl, own.1, rest.1))

has_line : (f : Form) (vs : List Value) (i : Instr) → ArePrintable (kinds f) vs → instruction f vs ≡ i → HasLine i
has_line f vs i h e =
    let rest = operands_text (codes " ") (kinds f) vs h in
    record { form = f; values = vs; text = name f ++ rest.0; line = (rest.0, refl, rest.1); means = e }

-- ---- fields

fits : (bits n : ℕ) → n < 2 ^ bits → fitted bits n ≡ n
fits bits n h = let small : nat_lt n (2 ^ bits) ≡ true = grind (arith, nat_tests) in rw small refl

r : ℕ → Value
r n = Number false n

signed_is : (bits n : ℕ) → n < 2 ^ (bits - 1) → integer bits (Number false n) ≡ pos n
signed_is bits n h = ap pos (fits (bits - 1) n h)

negative_is : (bits n : ℕ) → suc n < 2 ^ (bits - 1) → integer bits (Number true (suc n)) ≡ negsuc n
negative_is bits n h = ap (with_sign true) (fits (bits - 1) (suc n) h)

byte_is : (n : ℕ) → n < 32 → fitted 8 n ≡ n
byte_is n h = fits 8 n (omega arith)

pub every : (i : Instr) → InRange i → has_label i ≡ false → HasLine i
every (instr.MoveWide op rd imm hw) h l =
    has_line (form.MoveWideShifted op) (Number false rd ∷ Number false imm ∷ Number false hw ∷ []) (instr.MoveWide op rd imm hw) ((rd, h.0, refl), (held_unsigned 16 One imm h.1 (omega arith), (held_unsigned 2 Sixteen hw h.2 (omega arith), tt)))
    (λ i. instr.MoveWide op (byte_is rd h.0 i) (fits 16 imm (let z = h.1 in omega arith) i) (fits 8 hw (let z = h.2 in omega arith) i))
every (instr.SumImmediate op rd rn imm false) h l =
    has_line (form.SumImmediate op) (Number false rd ∷ Number false rn ∷ Number false imm ∷ []) (instr.SumImmediate op rd rn imm false) ((rd, h.0, refl), ((rn, h.1, refl), (held_unsigned 12 One imm h.2 (omega arith), tt)))
    (λ i. instr.SumImmediate op (byte_is rd h.0 i) (byte_is rn h.1 i) (fits 16 imm (let z = h.2 in omega arith) i) false)
every (instr.SumImmediate op rd rn imm true) h l =
    has_line (form.SumImmediateShifted op) (Number false rd ∷ Number false rn ∷ Number false imm ∷ Number false 12 ∷ []) (instr.SumImmediate op rd rn imm true) ((rd, h.0, refl), ((rn, h.1, refl), (held_unsigned 12 One imm h.2 (omega arith), (refl, tt))))
    (λ i. instr.SumImmediate op (byte_is rd h.0 i) (byte_is rn h.1 i) (fits 16 imm (let z = h.2 in omega arith) i) true)
every (instr.SubsImmediate rd rn imm false) h l =
    has_line form.SubsImmediate (Number false rd ∷ Number false rn ∷ Number false imm ∷ []) (instr.SubsImmediate rd rn imm false) ((rd, h.0, refl), ((rn, h.1, refl), (held_unsigned 12 One imm h.2 (omega arith), tt)))
    (λ i. instr.SubsImmediate (byte_is rd h.0 i) (byte_is rn h.1 i) (fits 16 imm (let z = h.2 in omega arith) i) false)
every (instr.SubsImmediate rd rn imm true) h l =
    has_line form.SubsImmediateShifted (Number false rd ∷ Number false rn ∷ Number false imm ∷ Number false 12 ∷ []) (instr.SubsImmediate rd rn imm true) ((rd, h.0, refl), ((rn, h.1, refl), (held_unsigned 12 One imm h.2 (omega arith), (refl, tt))))
    (λ i. instr.SubsImmediate (byte_is rd h.0 i) (byte_is rn h.1 i) (fits 16 imm (let z = h.2 in omega arith) i) true)
every (instr.Sum op rd rn rm) h l =
    has_line (form.Sum op) (Number false rd ∷ Number false rn ∷ Number false rm ∷ []) (instr.Sum op rd rn rm) ((rd, h.0, refl), ((rn, h.1, refl), ((rm, h.2, refl), tt)))
    (λ i. instr.Sum op (byte_is rd h.0 i) (byte_is rn h.1 i) (byte_is rm h.2 i))
every (instr.Logical op rd rn rm) h l =
    has_line (form.Logical op) (Number false rd ∷ Number false rn ∷ Number false rm ∷ []) (instr.Logical op rd rn rm) ((rd, h.0, refl), ((rn, h.1, refl), ((rm, h.2, refl), tt)))
    (λ i. instr.Logical op (byte_is rd h.0 i) (byte_is rn h.1 i) (byte_is rm h.2 i))
every (instr.MultiplyAdd op rd rn rm ra) h l =
    has_line (form.MultiplyAdd op) (Number false rd ∷ Number false rn ∷ Number false rm ∷ Number false ra ∷ []) (instr.MultiplyAdd op rd rn rm ra) ((rd, h.0, refl), ((rn, h.1, refl), ((rm, h.2, refl), ((ra, h.3, refl), tt))))
    (λ i. instr.MultiplyAdd op (byte_is rd h.0 i) (byte_is rn h.1 i) (byte_is rm h.2 i) (byte_is ra h.3 i))
every (instr.Divide op rd rn rm) h l =
    has_line (form.Divide op) (Number false rd ∷ Number false rn ∷ Number false rm ∷ []) (instr.Divide op rd rn rm) ((rd, h.0, refl), ((rn, h.1, refl), ((rm, h.2, refl), tt)))
    (λ i. instr.Divide op (byte_is rd h.0 i) (byte_is rn h.1 i) (byte_is rm h.2 i))
every (instr.Shift op rd rn rm) h l =
    has_line (form.Shift op) (Number false rd ∷ Number false rn ∷ Number false rm ∷ []) (instr.Shift op rd rn rm) ((rd, h.0, refl), ((rn, h.1, refl), ((rm, h.2, refl), tt)))
    (λ i. instr.Shift op (byte_is rd h.0 i) (byte_is rn h.1 i) (byte_is rm h.2 i))
every (instr.Bitfield op rd rn immr imms) h l =
    has_line (form.Bitfield op) (Number false rd ∷ Number false rn ∷ Number false immr ∷ Number false imms ∷ []) (instr.Bitfield op rd rn immr imms) ((rd, h.0, refl), ((rn, h.1, refl), (held_unsigned 6 One immr h.2 (omega arith), (held_unsigned 6 One imms h.3 (omega arith), tt))))
    (λ i. instr.Bitfield op (byte_is rd h.0 i) (byte_is rn h.1 i) (fits 8 immr (let z = h.2 in omega arith) i) (fits 8 imms (let z = h.3 in omega arith) i))
every (instr.Csinc rd rn rm condition) h l =
    has_line form.Csinc (Number false rd ∷ Number false rn ∷ Number false rm ∷ Number false condition ∷ []) (instr.Csinc rd rn rm condition) ((rd, h.0, refl), ((rn, h.1, refl), ((rm, h.2, refl), (held_unsigned 4 One condition h.3 (omega arith), tt))))
    (λ i. instr.Csinc (byte_is rd h.0 i) (byte_is rn h.1 i) (byte_is rm h.2 i) (fits 8 condition (let z = h.3 in omega arith) i))
every (instr.Adrp rd (pos pages)) h l =
    has_line form.Adrp (Number false rd ∷ Number false pages ∷ []) (instr.Adrp rd (pos pages)) ((rd, h.0, refl), (held (signed 21 One) pages (let z = h.1 in omega arith) (let z = h.1 in omega arith), tt))
    (λ i. instr.Adrp (byte_is rd h.0 i) (signed_is 32 pages (let z = h.1 in omega arith) i))
every (instr.Adrp rd (negsuc pages)) h l =
    has_line form.Adrp (Number false rd ∷ Number true (suc pages) ∷ []) (instr.Adrp rd (negsuc pages)) ((rd, h.0, refl), (held_below (signed 21 One) (suc pages) (omega arith) (let z = h.1 in omega arith) (let z = h.1 in omega arith), tt))
    (λ i. instr.Adrp (byte_is rd h.0 i) (negative_is 32 pages (let z = h.1 in omega arith) i))
every instr.Nop h l = has_line form.Nop [] instr.Nop tt refl
every (instr.LoadStore op rt rn imm) h l =
    has_line (form.LoadStore op) (Number false rt ∷ Number false rn ∷ Number false imm ∷ []) (instr.LoadStore op rt rn imm) ((rt, h.0, refl), ((rn, h.1, refl), (held_unsigned 12 Eight imm h.2 (omega arith), tt)))
    (λ i. instr.LoadStore op (byte_is rt h.0 i) (byte_is rn h.1 i) (fits 16 imm (let z = h.2 in omega arith) i))
every (instr.LoadStoreWord op rt rn imm) h l =
    has_line (form.LoadStoreWord op) (Number false rt ∷ Number false rn ∷ Number false imm ∷ []) (instr.LoadStoreWord op rt rn imm) ((rt, h.0, refl), ((rn, h.1, refl), (held_unsigned 12 Four imm h.2 (omega arith), tt)))
    (λ i. instr.LoadStoreWord op (byte_is rt h.0 i) (byte_is rn h.1 i) (fits 16 imm (let z = h.2 in omega arith) i))
every (instr.LoadStoreHalf op rt rn imm) h l =
    has_line (form.LoadStoreHalf op) (Number false rt ∷ Number false rn ∷ Number false imm ∷ []) (instr.LoadStoreHalf op rt rn imm) ((rt, h.0, refl), ((rn, h.1, refl), (held_unsigned 12 Two imm h.2 (omega arith), tt)))
    (λ i. instr.LoadStoreHalf op (byte_is rt h.0 i) (byte_is rn h.1 i) (fits 16 imm (let z = h.2 in omega arith) i))
every (instr.LoadStoreByte op rt rn imm) h l =
    has_line (form.LoadStoreByte op) (Number false rt ∷ Number false rn ∷ Number false imm ∷ []) (instr.LoadStoreByte op rt rn imm) ((rt, h.0, refl), ((rn, h.1, refl), (held_unsigned 12 One imm h.2 (omega arith), tt)))
    (λ i. instr.LoadStoreByte op (byte_is rt h.0 i) (byte_is rn h.1 i) (fits 16 imm (let z = h.2 in omega arith) i))
every (instr.LoadStoreUnscaled op rt rn (pos imm)) h l =
    has_line (form.LoadStoreUnscaled op) (Number false rt ∷ Number false rn ∷ Number false imm ∷ []) (instr.LoadStoreUnscaled op rt rn (pos imm)) ((rt, h.0, refl), ((rn, h.1, refl), (held (signed 9 One) imm (let z = h.2 in omega arith) (let z = h.2 in omega arith), tt)))
    (λ i. instr.LoadStoreUnscaled op (byte_is rt h.0 i) (byte_is rn h.1 i) (signed_is 16 imm (let z = h.2 in omega arith) i))
every (instr.LoadStoreUnscaled op rt rn (negsuc imm)) h l =
    has_line (form.LoadStoreUnscaled op) (Number false rt ∷ Number false rn ∷ Number true (suc imm) ∷ []) (instr.LoadStoreUnscaled op rt rn (negsuc imm)) ((rt, h.0, refl), ((rn, h.1, refl), (held_below (signed 9 One) (suc imm) (omega arith) (let z = h.2 in omega arith) (let z = h.2 in omega arith), tt)))
    (λ i. instr.LoadStoreUnscaled op (byte_is rt h.0 i) (byte_is rn h.1 i) (negative_is 16 imm (let z = h.2 in omega arith) i))
every (instr.LoadStorePair op rt rt2 rn (pos imm)) h l =
    has_line (form.LoadStorePair op) (Number false rt ∷ Number false rt2 ∷ Number false rn ∷ Number false imm ∷ []) (instr.LoadStorePair op rt rt2 rn (pos imm)) ((rt, h.0, refl), ((rt2, h.1, refl), ((rn, h.2, refl), (held (signed 7 Eight) imm (let z = h.3 in omega arith) (let z = h.3 in omega arith), tt))))
    (λ i. instr.LoadStorePair op (byte_is rt h.0 i) (byte_is rt2 h.1 i) (byte_is rn h.2 i) (signed_is 8 imm (let z = h.3 in omega arith) i))
every (instr.LoadStorePair op rt rt2 rn (negsuc imm)) h l =
    has_line (form.LoadStorePair op) (Number false rt ∷ Number false rt2 ∷ Number false rn ∷ Number true (suc imm) ∷ []) (instr.LoadStorePair op rt rt2 rn (negsuc imm)) ((rt, h.0, refl), ((rt2, h.1, refl), ((rn, h.2, refl), (held_below (signed 7 Eight) (suc imm) (omega arith) (let z = h.3 in omega arith) (let z = h.3 in omega arith), tt))))
    (λ i. instr.LoadStorePair op (byte_is rt h.0 i) (byte_is rt2 h.1 i) (byte_is rn h.2 i) (negative_is 8 imm (let z = h.3 in omega arith) i))
every (instr.Branch op words) h l = absurd (let z : true ≡ false = l in cc)
every (instr.BranchConditional condition words) h l = absurd (let z : true ≡ false = l in cc)
every (instr.CompareBranch op rt words) h l = absurd (let z : true ≡ false = l in cc)
every (instr.BranchRegister op rn) h l =
    has_line (form.BranchRegister op) (Number false rn ∷ []) (instr.BranchRegister op rn) ((rn, h, refl), tt)
    (λ i. instr.BranchRegister op (byte_is rn h i))
every (instr.BranchAuthenticated op rn rm) h l =
    has_line (form.BranchAuthenticated op) (Number false rn ∷ Number false rm ∷ []) (instr.BranchAuthenticated op rn rm) ((rn, h.0, refl), ((rm, h.1, refl), tt))
    (λ i. instr.BranchAuthenticated op (byte_is rn h.0 i) (byte_is rm h.1 i))
every (instr.Blraaz rn) h l =
    has_line form.Blraaz (Number false rn ∷ []) (instr.Blraaz rn) ((rn, h, refl), tt)
    (λ i. instr.Blraaz (byte_is rn h i))
every (instr.Stack op) h l = has_line (form.Stack op) [] (instr.Stack op) tt refl
every (instr.Sign op rd rn) h l =
    has_line (form.Sign op) (Number false rd ∷ Number false rn ∷ []) (instr.Sign op rd rn) ((rd, h.0, refl), ((rn, h.1, refl), tt))
    (λ i. instr.Sign op (byte_is rd h.0 i) (byte_is rn h.1 i))
every (instr.Authenticate op rd rn) h l =
    has_line (form.Authenticate op) (Number false rd ∷ Number false rn ∷ []) (instr.Authenticate op rd rn) ((rd, h.0, refl), ((rn, h.1, refl), tt))
    (λ i. instr.Authenticate op (byte_is rd h.0 i) (byte_is rn h.1 i))
every (instr.Plain op rd) h l =
    has_line (form.Plain op) (Number false rd ∷ []) (instr.Plain op rd) ((rd, h, refl), tt)
    (λ i. instr.Plain op (byte_is rd h i))
every (instr.Pacga rd rn rm) h l =
    has_line form.Pacga (Number false rd ∷ Number false rn ∷ Number false rm ∷ []) (instr.Pacga rd rn rm) ((rd, h.0, refl), ((rn, h.1, refl), ((rm, h.2, refl), tt)))
    (λ i. instr.Pacga (byte_is rd h.0 i) (byte_is rn h.1 i) (byte_is rm h.2 i))
every (instr.Exception op imm) h l =
    has_line (form.Exception op) (Number false imm ∷ []) (instr.Exception op imm) (held_unsigned 16 One imm h (omega arith), tt)
    (λ i. instr.Exception op (fits 16 imm (let z = h in omega arith) i))
