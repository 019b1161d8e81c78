-- Schemas and the modifiers that they give (Clang's Pointer Authentication page).
use Rattle.std.specs.Prelude.{ℕ, ◌+◌, ◌*◌, ◌%◌, ◌^◌, Bool, if◌then◌else◌}
use Rattle.pa_pac.specs.declared.schema.Schema.{Schema}

-- the pointer with the low 16 bits of the integer in bits 63 to 48
unfoldable pub blend : ℕ → ℕ → ℕ
blend pointer integer = pointer % 2 ^ 48 + integer % 2 ^ 16 * 2 ^ 48

-- the discriminator, blended with the address where the address takes part
abbrev pub modifier : Bool → ℕ → ℕ → ℕ
modifier addr disc address = if addr then blend address disc else disc

-- the modifier under a schema of a pointer that is stored at the address
abbrev pub modifier_under : Schema → ℕ → ℕ
modifier_under schema address = modifier schema.addr schema.disc address
