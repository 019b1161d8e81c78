-- Where things stand once images are loaded: functions, the places after calls, the slots of imports and the words of code.
use Rattle.std.specs.Prelude.{ℕ, zero, suc, ◌+◌, ◌*◌, ◌/◌, Bool, true, false, ◌==◌, if◌then◌else◌, List, [], ◌∷◌, ◌++◌, map, filter, Option, Some, None}
use Rattle.std.specs.Option.{option_map_or, option_or}
use Rattle.std.specs.Str.{bytes_eq}
use Rattle.pa_a64.specs.declared.instr.Instr.{Instr}
use Rattle.pa_a64.specs.declared.instr.Instr.TheVariants as instr
use Rattle.pa_a64.specs.declared.instr.BranchOp.{BranchOp}
use Rattle.pa_a64.specs.declared.instr.BranchOp.TheVariants.{B, Bl}
use Rattle.pa_a64.specs.declared.instr.BranchRegisterOp.{BranchRegisterOp}
use Rattle.pa_a64.specs.declared.instr.BranchRegisterOp.TheVariants.{Br, Blr, Ret}
use Rattle.pa_a64.specs.declared.instr.BranchAuthenticatedOp.{BranchAuthenticatedOp}
use Rattle.pa_a64.specs.declared.instr.BranchAuthenticatedOp.TheVariants.{Braa, Blraa, Blrab}
use Rattle.pa_a64.specs.Decoding.{decoded}
use Rattle.pa_macho.specs.declared.header.Role.{Role}
use Rattle.pa_macho.specs.Layout.{base_of, places_of}
use Rattle.pa_object.specs.declared.object.Mark.{Mark}
use Rattle.pa_image.specs.declared.image.Image.{Image}
use Rattle.pa_image.specs.Bytes.{header_of}

-- ---- where an image lies

-- the address of the first byte of an image that is moved n pages up from where its file says
abbrev pub base_at : Role → (slide : ℕ) → ℕ
base_at role slide = base_of role + 0x4000 * slide

-- an image and the address of its first byte
pub record Mapped : Type 0 where
  pub base : ℕ
  pub image : Image

abbrev pub mapped : Image → (slide : ℕ) → Mapped
mapped image slide = record { base = base_at image.role slide; image = image }

-- ---- functions

abbrev pub text_base : (base : ℕ) → ℕ
text_base base = base + 0x400

abbrev pub mark_address : (base : ℕ) → Mark → ℕ
mark_address base mark = text_base base + 4 * mark.at

-- the function of a name; of several with one name it is the first
abbrev pub function_at : (base : ℕ) → List Mark → (name : List ℕ) → Option ℕ
function_at base [] name = None
function_at base (mark ∷ marks) name =
    if bytes_eq name mark.name then Some (mark_address base mark) else function_at base marks name

-- the function of a name that other images see
abbrev pub exported : (base : ℕ) → List Mark → (name : List ℕ) → Option ℕ
exported base marks name = function_at base (filter (λ mark. mark.public) marks) name

-- the functions of images, and the function of a name in them; the first image that has one counts
abbrev pub entries : List Mapped → List ℕ
entries [] = []
entries (m ∷ ms) = map (mark_address m.base) m.image.marks ++ entries ms

abbrev pub entry : List Mapped → (name : List ℕ) → Option ℕ
entry [] name = None
entry (m ∷ ms) name = option_or (function_at m.base m.image.marks name) (entry ms name)

-- ---- after calls

abbrev pub branch_calls : BranchOp → Bool
branch_calls B = false
branch_calls Bl = true

abbrev pub register_branch_calls : BranchRegisterOp → Bool
register_branch_calls Br = false
register_branch_calls Blr = true
register_branch_calls Ret = false

abbrev pub authenticated_branch_calls : BranchAuthenticatedOp → Bool
authenticated_branch_calls Braa = false
authenticated_branch_calls Blraa = true
authenticated_branch_calls Blrab = true

-- BL, BLR, BLRAA, BLRAB and BLRAAZ: an instruction that leaves the place after it in x30
abbrev pub is_call : Instr → Bool
is_call (instr.Branch op words) = branch_calls op
is_call (instr.BranchRegister op rn) = register_branch_calls op
is_call (instr.BranchAuthenticated op rn rm) = authenticated_branch_calls op
is_call (instr.Blraaz rn) = true
is_call other = false

abbrev pub calls : (word : ℕ) → Bool
calls word = option_map_or is_call (decoded word) false

-- the places after calls in words from a place on
abbrev pub afters_from : ℕ → List ℕ → List ℕ
afters_from at [] = []
afters_from at (word ∷ words) = if calls word then (at + 4) ∷ afters_from (at + 4) words else afters_from (at + 4) words

-- those in __text of images
abbrev pub afters : List Mapped → List ℕ
afters [] = []
afters (m ∷ ms) = afters_from (text_base m.base) m.image.text ++ afters ms

-- ---- slots of imports

abbrev pub slots_from : ℕ → (count : ℕ) → List ℕ
slots_from at zero = []
slots_from at (suc count) = at ∷ slots_from (at + 8) count

-- where __DATA begins, and with it __auth_got
abbrev pub data_base : Mapped → ℕ
data_base m = m.base + (places_of (header_of m.image)).got

-- the slots of __auth_got
abbrev pub got_slots : Mapped → List ℕ
got_slots m = slots_from (data_base m) (m.image.got / 8)

-- ---- words of code

-- words from a place on
pub record Area : Type 0 where
  pub from : ℕ
  pub words : List ℕ

-- __text and __auth_stubs of images
abbrev pub code_areas : List Mapped → List Area
code_areas [] = []
code_areas (m ∷ ms) =
    record { from = text_base m.base; words = m.image.text }
    ∷ record { from = m.base + (places_of (header_of m.image)).stubs; words = m.image.stubs } ∷ code_areas ms

abbrev pub word_from : ℕ → List ℕ → (at : ℕ) → Option ℕ
word_from from [] at = None
word_from from (word ∷ words) at = if from == at then Some word else word_from (from + 4) words at

-- the word that stands at a place of these areas
abbrev pub word_of : List Area → (at : ℕ) → Option ℕ
word_of [] at = None
word_of (area ∷ areas) at = option_or (word_from area.from area.words at) (word_of areas at)
