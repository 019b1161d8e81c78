-- A number of 64 bits in a register, in as few moves as serve (Arm Architecture Reference Manual: MOVZ, MOVN, MOVK).
use Rattle.std.specs.Prelude.{ℕ, ◌-◌, ◌*◌, ◌/◌, ◌%◌, ◌^◌, Bool, true, false, not, ◌==◌, nat_lt, if◌then◌else◌, List, [], ◌∷◌, length}
use Rattle.std.specs.List.{filter}
use Rattle.pa_a64.specs.declared.instr.Instr.{Instr}
use Rattle.pa_a64.specs.declared.instr.Instr.TheVariants.{MoveWide}
use Rattle.pa_a64.specs.declared.instr.MoveWideOp.TheVariants.{Movz, Movn, Movk}

-- a 16-bit part of a number
abbrev pub part : (value k : ℕ) → ℕ
part value k = value / 2 ^ (16 * k) % 2 ^ 16

-- What the first move leaves in the other parts: each bit is set after MOVN, and none after MOVZ.
abbrev pub left_by : (inverted : Bool) → ℕ
left_by inverted = if inverted then 65535 else 0

-- the parts of a number that differ from that
abbrev pub others : (inverted : Bool) → (value : ℕ) → List ℕ
others inverted value = filter (λ k. not (part value k == left_by inverted)) (0 ∷ 1 ∷ 2 ∷ 3 ∷ [])

-- the first move, which sets this part
abbrev pub first_move : (inverted : Bool) → (register value k : ℕ) → Instr
first_move true register value k = MoveWide Movn register (65535 - part value k) k
first_move false register value k = MoveWide Movz register (part value k) k

abbrev pub more_moves : (register value : ℕ) → List ℕ → List Instr
more_moves register value [] = []
more_moves register value (k ∷ ks) = MoveWide Movk register (part value k) k ∷ more_moves register value ks

abbrev pub moves : (inverted : Bool) → (register value : ℕ) → List ℕ → List Instr
moves inverted register value [] = first_move inverted register value 0 ∷ []
moves inverted register value (k ∷ ks) = first_move inverted register value k ∷ more_moves register value ks

-- MOVN first serves where fewer parts differ from set bits than from zeros
abbrev pub is_inverted : ℕ → Bool
is_inverted value = nat_lt (length (others true value)) (length (others false value))

abbrev pub constant : (register value : ℕ) → List Instr
constant register value = moves (is_inverted value) register value (others (is_inverted value) value)
