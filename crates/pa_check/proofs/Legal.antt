-- What a legal image tells.
use Rattle.std.proofs.Common.{◌≡◌, ℕ, ◌+◌, ◌-◌, ◌*◌, ◌/◌, ◌%◌, ◌≤◌, ◌<◌, ◌^◌, List, [], ◌∷◌, length, map, refl, subst, arith, All}
use Rattle.std.proofs.lemmas.Bool.{eqb-true, and_parts}
use Rattle.std.proofs.lemmas.List.Elements.{All-nil, All-cons}
use Rattle.pa_fixups.specs.declared.kind.Fix.{Fix}
use Rattle.pa_fixups.specs.Chain.{may_stand}
use Rattle.pa_slots.specs.declared.slots.SlotsAt.{SlotsAt}
use Rattle.pa_slots.specs.Writing.{SlotFits, EachFits}
use Rattle.pa_macho.specs.Layout.{places_of, section_of, stubs_section, got_section}
use Rattle.pa_macho.proofs.Facts.{spans}
use Rattle.pa_object.specs.Linkable.{Ascends}
use Rattle.pa_slots.specs.Pages.{AreRising}
use Rattle.pa_image.specs.declared.image.Image.{Image}
use Rattle.pa_image.specs.Bytes.{header_of}
use Rattle.pa_image.specs.Writing.{IsLegal}
use Rattle.pa_image.proofs.Small.{fits_end}
use Rattle.pa_image.proofs.Laws.{ordered}

pub marks_ascend : (image : Image) → IsLegal image → Ascends (map (λ mark. mark.at) image.marks)
marks_ascend image legal = legal.parts.marks.ascend

text_size : (image : Image) → ((header_of image).text ≡ 4 * length image.text) × ((header_of image).stubs ≡ 4 * length image.stubs)
unfolding header_of
text_size image = (refl, refl)

pub marks_inside : (image : Image) → IsLegal image → All (λ mark. mark.at < length image.text) image.marks
marks_inside image legal =
    let e = (text_size image).0 in
    let f : (header_of image).text / 4 ≡ length image.text = omega arith in
    subst (λ n. All (λ mark. mark.at < n) image.marks) f legal.parts.marks.in_text

pub record Small (image : Image) : Type 0 where
  pub text : length image.text < 2 ^ 40
  pub stubs : length image.stubs < 2 ^ 40
  pub stubs_place : (places_of (header_of image)).stubs < 2 ^ 40
  pub got_place : (places_of (header_of image)).got < 2 ^ 40

pub small : (image : Image) → IsLegal image → Small image
small image legal =
    let p = places_of (header_of image) in
    let s = spans (header_of image) in
    let o = ordered (header_of image) legal.header in
    let e = fits_end (header_of image) legal.header in
    let t = text_size image in
    record { text = omega arith; stubs = omega arith; stubs_place = omega arith; got_place = omega arith }

pub fixes_rise : (image : Image) → IsLegal image → AreRising image.fixes
fixes_rise image legal = legal.parts.slots.rising

-- stubs have four words, and slots of __auth_got eight bytes
whole : (image : Image) → IsLegal image → ((header_of image).stubs % 16 ≡ 0) × ((header_of image).got % 8 ≡ 0)
unfolding stubs_section got_section section_of
whole image legal = (eqb-true _ _ legal.header.stubs.2.2.2.1, eqb-true _ _ legal.header.got.2.2.2.1)

got_size : (image : Image) → (header_of image).got ≡ image.got
unfolding header_of
got_size image = refl

pub stubs_whole : (image : Image) → IsLegal image → length image.stubs % 4 ≡ 0
stubs_whole image legal = let a = (whole image legal).0 in let b = (text_size image).1 in omega arith

pub got_whole : (image : Image) → IsLegal image → image.got % 8 ≡ 0
got_whole image legal = let a = (whole image legal).1 in let b = got_size image in omega arith

-- the stubs lie behind the text
pub stubs_behind : (image : Image) → 0x400 + 4 * length image.text ≤ (places_of (header_of image)).stubs
stubs_behind image = let s = spans (header_of image) in let t = (text_size image).0 in let a = s.text in let b = s.stubs_from in omega arith

pub image_end : (image : Image) → IsLegal image → (places_of (header_of image)).stubs + 4 * length image.stubs ≤ (places_of (header_of image)).end
image_end image legal =
    let s = spans (header_of image) in
    let o = ordered (header_of image) legal.header in
    let t = (text_size image).1 in
    omega arith

-- each slot stands at a multiple of 8
slot_aligned : (at : SlotsAt) (cells : List ℕ) (fix : Fix) → SlotFits at cells fix → fix.at % 8 ≡ 0
unfolding may_stand
slot_aligned at cells fix f = let a : (fix.at - 0x4000 * (fix.at / 0x4000)) % 8 ≡ 0 = eqb-true _ _ (and_parts _ _ f.fits.stands).0 in omega arith

all_aligned : (at : SlotsAt) (cells : List ℕ) (fixes : List Fix) → EachFits at cells fixes → All (λ fix. fix.at % 8 ≡ 0) fixes
all_aligned at cells [] h = All-nil (λ fix. fix.at % 8 ≡ 0)
all_aligned at cells (fix ∷ fixes) h = All-cons (λ fix. fix.at % 8 ≡ 0) fix fixes (slot_aligned at cells fix h.0) (all_aligned at cells fixes h.1)

pub fixes_aligned : (image : Image) → IsLegal image → All (λ fix. fix.at % 8 ≡ 0) image.fixes
fixes_aligned image legal = all_aligned _ _ image.fixes legal.parts.slots.each
