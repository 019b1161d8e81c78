-- The slots of a page along their links (mach-o/fixup-chains.h: dyld_chained_starts_in_segment).
use Rattle.std.specs.Prelude.{◌≡◌, ℕ, zero, suc, ◌+◌, ◌-◌, ◌*◌, ◌/◌, ◌%◌, ◌<◌, ◌≤◌, ◌++◌, take, drop, Bool, true, ◌&&◌, ◌||◌, not, ◌==◌, nat_le, nat_lt, if◌then◌else◌, List, [], ◌∷◌, length, replicate, Option, Some, None}
use Rattle.byteorder.specs.Endian.{little_bytes}
use Rattle.pa_num.specs.declared.fault.ImageRule.TheVariants.{F3, F4, F5, F6}
use Rattle.pa_layout.specs.declared.checks.Flaw.{Flaw}
use Rattle.pa_layout.specs.Fields.{number}
use Rattle.pa_layout.specs.Flaws.{Check, Holds, first, flaw_at, ◌then◌}
use Rattle.pa_fixups.specs.declared.kind.FixKind.{FixKind}
use Rattle.pa_fixups.specs.declared.kind.FixKind.TheVariants.{Rebase, Bind, AuthRebase, AuthBind}
use Rattle.pa_fixups.specs.declared.kind.Fix.{Fix}
use Rattle.pa_fixups.specs.declared.bounds.Bounds.{Bounds}
use Rattle.pa_fixups.specs.Slots.{kind_of, next_of, zeros_hold, packed, parts_of, FieldsFit}

-- ---- what may stand in a page

-- the next multiple of 16
abbrev pub up16 : ℕ → ℕ
up16 n = (n + 15) / 16 * 16

-- a slot may stand there: at a multiple of 8, inside the page of that length, and wholly inside one of the sections
unfoldable pub may_stand : Bounds → ℕ → ℕ → Bool
may_stand bounds len at =
    let place = bounds.page + at in
    let cells = up16 bounds.got in
    (at % 8 == 0)
    && (nat_le (at + 8) len
    && (nat_le (place + 8) bounds.got || (nat_le cells place && nat_le (place + 8) (cells + bounds.cells))))

-- an ordinal is that of an import
unfoldable pub ordinal_fits : Bounds → FixKind → Bool
ordinal_fits bounds (Bind ordinal addend) = nat_lt ordinal bounds.imports
ordinal_fits bounds (AuthBind ordinal sig) = nat_lt ordinal bounds.imports
ordinal_fits bounds (Rebase target high8) = true
ordinal_fits bounds (AuthRebase target sig) = true

-- an address lies in the image or at its end, an offset inside the image
unfoldable pub target_fits : Bounds → FixKind → Bool
target_fits bounds (Rebase target high8) = nat_le bounds.base target && nat_le (target - bounds.base) bounds.size
target_fits bounds (AuthRebase target sig) = nat_lt target bounds.size
target_fits bounds (Bind ordinal addend) = true
target_fits bounds (AuthBind ordinal sig) = true

-- a link ends the chain or leads to where a slot may stand
abbrev pub links_on : Bounds → ℕ → ℕ → ℕ → Bool
links_on bounds len at link = (link == 0) || may_stand bounds len (at + 8 * link)

-- ---- the chain that a page has

abbrev pub word_at : List ℕ → ℕ → ℕ
word_at page at = number 8 at page

abbrev pub link_at : List ℕ → ℕ → ℕ
link_at page at = next_of (word_at page at)

abbrev pub fix_at : List ℕ → ℕ → Fix
fix_at page at = record { at = at; kind = kind_of (word_at page at) }

-- the places of the slots from one on, where there are n at most: the next is where the link leads, if a slot may stand there
abbrev pub places : ℕ → Bounds → List ℕ → ℕ → List ℕ
places zero bounds page at = []
places (suc n) bounds page at =
    at ∷ (if (link_at page at == 0) || not (may_stand bounds (length page) (at + 8 * link_at page at)) then []
    else places n bounds page (at + 8 * link_at page at))

-- each slot stands after the one before it, so there are fewer than the page has bytes
unfoldable pub chain_places : Bounds → List ℕ → ℕ → List ℕ
chain_places bounds page at = places (length page - at) bounds page at

-- the checks at a slot, in their order
unfoldable pub slot_checks : Bounds → List ℕ → ℕ → List Check
slot_checks bounds page at =
    Holds F3 at (zeros_hold (word_at page at))
    ∷ Holds F5 at (ordinal_fits bounds (kind_of (word_at page at)))
    ∷ Holds F6 at (target_fits bounds (kind_of (word_at page at)))
    ∷ Holds F4 at (links_on bounds (length page) at (link_at page at))
    ∷ []

-- the first flaw at any of these places, in their order
abbrev pub first_at : (ℕ → List Check) → List ℕ → List ℕ → Option Flaw
first_at checks page [] = None
first_at checks page (at ∷ ats) = first (checks at) page then first_at checks page ats

-- the first flaw of the slots from a place on
abbrev pub slots_flaw : Bounds → List ℕ → ℕ → Option Flaw
slots_flaw bounds page from = first_at (λ at. slot_checks bounds page at) page (chain_places bounds page from)

-- the place that tells that a page's first slot may not stand where it should
abbrev pub no_place : ℕ
no_place = 65536

abbrev pub chain_flaw : Bounds → List ℕ → ℕ → Option Flaw
chain_flaw bounds page from =
    if may_stand bounds (length page) from then slots_flaw bounds page from else Some (flaw_at F4 no_place)

-- ---- what a chain is

-- the link from a slot to the next one
abbrev pub link_to : Fix → List Fix → ℕ
link_to fix [] = 0
link_to fix (next ∷ fixes) = (next.at - fix.at) / 8

-- the word of a slot before these others
abbrev pub word_of : Fix → List Fix → ℕ
word_of fix fixes = packed (parts_of fix.kind (link_to fix fixes))

-- each slot's word stands at its place and links to the next
abbrev pub Linked : List ℕ → List Fix → Type 0
Linked page [] = Unit {0}
Linked page (fix ∷ fixes) = (word_at page fix.at ≡ word_of fix fixes) × Linked page fixes

-- a slot that may stand in a page of this length
pub record FixFits (bounds : Bounds) (len : ℕ) (fix : Fix) : Type 0 where
  pub stands : may_stand bounds len fix.at ≡ true
  pub fields : FieldsFit fix.kind
  pub ordinal : ordinal_fits bounds fix.kind ≡ true
  pub target : target_fits bounds fix.kind ≡ true

abbrev pub AllFit : Bounds → ℕ → List Fix → Type 0
AllFit bounds len [] = Unit {0}
AllFit bounds len (fix ∷ fixes) = FixFits bounds len fix × AllFit bounds len fixes

-- the slots stand one after the other
abbrev pub Rising : Fix → List Fix → Type 0
Rising fix [] = Unit {0}
Rising fix (next ∷ fixes) = (fix.at < next.at) × Rising next fixes

-- these are the slots of the page's chain, the first of them at that place
abbrev pub IsChain : Bounds → List ℕ → ℕ → List Fix → Type 0
IsChain bounds page from [] = ⊥
IsChain bounds page from (fix ∷ fixes) =
    (fix.at ≡ from) × Rising fix fixes × AllFit bounds (length page) (fix ∷ fixes) × Linked page (fix ∷ fixes)

-- ---- writing

-- what a slot needs in a page of that length
pub record CanStand (len : ℕ) (fix : Fix) : Type 0 where
  pub even : fix.at % 8 ≡ 0
  pub inside : fix.at + 8 ≤ len
  pub fields : FieldsFit fix.kind

-- the slots can be written into a page of that length, one after the other
abbrev pub AreWritable : ℕ → List Fix → Type 0
AreWritable len [] = Unit {0}
AreWritable len (fix ∷ fixes) = CanStand len fix × Rising fix fixes × AreWritable len fixes

-- the bytes with a part at a place in place of what stands there
abbrev pub put_at : ℕ → List ℕ → List ℕ → List ℕ
put_at at part bytes = take at bytes ++ (part ++ drop (at + length part) bytes)

-- the page with the word of each slot
unfoldable pub with_slots : List ℕ → List Fix → List ℕ
with_slots page [] = page
with_slots page (fix ∷ fixes) = with_slots (put_at fix.at (little_bytes 8 (word_of fix fixes)) page) fixes

-- the page with zeros for each slot
unfoldable pub without_slots : List ℕ → List Fix → List ℕ
without_slots page [] = page
without_slots page (fix ∷ fixes) = without_slots (put_at fix.at (replicate 8 0) page) fixes
