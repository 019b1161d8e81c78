-- The slots of a legal program are apart, and can be filled.
use Rattle.std.proofs.Common.{◌≡◌, ℕ, zero, suc, ◌+◌, ◌-◌, ◌*◌, ◌/◌, ◌%◌, ◌^◌, ◌≤◌, ◌<◌, Bool, true, false, cond, List, [], ◌∷◌, ◌++◌, length, get_or, refl, sym, ap, ◌∙◌, arith, Option, Some, None, ◌⊎◌, inl, inr}
use Rattle.std.specs.Prelude.{All, is_none, unwrap_or, slice_index, leb, ◌&&◌}
use Rattle.std.specs.List.{position_from}
use Rattle.std.specs.Str.{bytes_eq}
use Rattle.std.proofs.lemmas.Bool.{leb-true, ltb-true, eqb-true, and_parts, or_cases}
use Rattle.std.proofs.lemmas.List.{get_or-map, length-map}
use Rattle.std.proofs.lemmas.List.Elements.{All-head, All-tail, All-filter}
use Rattle.std.proofs.lemmas.Iterator.Adapters.{position_from-zero}
use Rattle.pa_macho.specs.declared.header.Role.TheVariants.{Main, Library}
use Rattle.pa_macho.specs.Layout.{base_of, places_of}
use Rattle.pa_macho.proofs.Facts.{spans}
use Rattle.pa_fixups.specs.declared.kind.Fix.{Fix}
use Rattle.pa_fixups.specs.declared.kind.FixKind.{FixKind}
use Rattle.pa_fixups.specs.declared.kind.FixKind.TheVariants.{Rebase, Bind, AuthRebase, AuthBind}
use Rattle.pa_fixups.specs.Slots.{FieldsFit}
use Rattle.pa_fixups.specs.Chain.{up16, may_stand, ordinal_fits, target_fits, Rising}
use Rattle.pa_object.specs.declared.object.Mark.{Mark}
use Rattle.pa_slots.specs.declared.slots.SlotsAt.{SlotsAt}
use Rattle.pa_slots.specs.Pages.{page_size, cells_from, bounds_of, AreRising}
use Rattle.pa_slots.specs.Writing.{page_of, EachFits}
use Rattle.pa_image.specs.declared.image.Image.{Image}
use Rattle.pa_image.specs.Bytes.{header_of, slots_at}
use Rattle.pa_image.specs.Places.{function_at, mark_address, text_base, base_at}
use Rattle.pa_image.specs.Small.{IsSmall}
use Rattle.pa_image.specs.Writing.{IsLegal}
use Rattle.pa_image.proofs.Header.{cells_place}
use Rattle.pa_load.specs.Filling.{Filling}
use Rattle.pa_load.specs.Loaded.{import_address, import_addresses, first_missing, filling}
use Rattle.pa_load.specs.Ready.{IsFarAddress, PointerFits, AllReady}
use Rattle.pa_load.proofs.Filled.{Spaced}

-- ---- where a slot stands

record Standing (at : SlotsAt) (fix : Fix) : Type 0 where
  pub even : fix.at % 8 ≡ 0
  pub inside : fix.at + 8 ≤ cells_from at + at.cells

standing : (at : SlotsAt) (fix : Fix) → may_stand (bounds_of at (page_of fix)) page_size (fix.at - page_size * page_of fix) ≡ true → Standing at fix
unfolding may_stand
standing at fix h =
    record { even = eights (eqb-true _ _ (and_parts _ _ h).0); inside = go (or_cases _ _ (and_parts _ _ (and_parts _ _ h).1).1) }
  where
    place : page_size * page_of fix + (fix.at - page_size * page_of fix) ≡ fix.at
    place = omega arith

    eights : (fix.at - page_size * page_of fix) % 8 ≡ 0 → fix.at % 8 ≡ 0
    eights e = let s = place in omega arith

    go : ((leb (page_size * page_of fix + (fix.at - page_size * page_of fix) + 8) at.got ≡ true) ⊎ ((leb (up16 at.got) (page_size * page_of fix + (fix.at - page_size * page_of fix)) && leb (page_size * page_of fix + (fix.at - page_size * page_of fix) + 8) (up16 at.got + at.cells)) ≡ true)) → fix.at + 8 ≤ cells_from at + at.cells
    go (inl e) =
        let l : page_size * page_of fix + (fix.at - page_size * page_of fix) + 8 ≤ at.got = leb-true _ _ e in
        let s = place in omega arith
    go (inr e) = let l = leb-true (page_size * page_of fix + (fix.at - page_size * page_of fix) + 8) (up16 at.got + at.cells) (and_parts (leb (up16 at.got) (page_size * page_of fix + (fix.at - page_size * page_of fix))) _ e).1 in let s = place in omega arith

rising_spaced : (at : SlotsAt) (cells : List ℕ) (fix : Fix) (fixes : List Fix) (len : ℕ) → cells_from at + at.cells ≤ len → Rising fix fixes → EachFits at cells (fix ∷ fixes) → Spaced fix.at len (fix ∷ fixes)
rising_spaced at cells fix [] len le r e =
    let s = standing at fix e.0.fits.stands in
    (omega arith, omega arith, tt)
rising_spaced at cells fix (next ∷ fixes) len le r e =
    let s = standing at fix e.0.fits.stands in
    let t = standing at next e.1.0.fits.stands in
    let lt = r.0 in
    let more = rising_spaced at cells next fixes len le r.1 e.1 in
    (omega arith, omega arith, (omega arith, more.1, more.2))

pub fixes_spaced : (at : SlotsAt) (cells : List ℕ) (fixes : List Fix) (len : ℕ) → cells_from at + at.cells ≤ len → AreRising fixes → EachFits at cells fixes → Spaced 0 len fixes
fixes_spaced at cells [] len le r e = tt
fixes_spaced at cells (fix ∷ fixes) len le r e =
    let s = rising_spaced at cells fix fixes len le r e in
    (omega arith, s.1, s.2)

-- ---- functions that are exported

record InText (base words address : ℕ) : Type 0 where
  pub low : text_base base ≤ address
  pub high : address < text_base base + 4 * words

function_in_text : (base words : ℕ) (marks : List Mark) (name : List ℕ) (address : ℕ) → All (λ (m : Mark). m.at < words) marks → function_at base marks name ≡ Some address → InText base words address
function_in_text base words [] name address a e = cc
function_in_text base words (mark ∷ marks) name address a e =
    go (λ (f : function_at base marks name ≡ Some address). function_in_text base words marks name address (All-tail (λ (m : Mark). m.at < words) mark marks a) f) (bytes_eq name mark.name) e
  where
    inside : mark.at < words
    inside = All-head (λ (m : Mark). m.at < words) mark marks a

    some : (x y : ℕ) → Some x ≡ Some y → x ≡ y
    some x y e = cc

    here : mark_address base mark ≡ address → InText base words address
    here e = let h = inside in record { low = omega arith; high = omega arith }

    go : (function_at base marks name ≡ Some address → InText base words address) → (b : Bool) → cond b (Some (mark_address base mark)) (function_at base marks name) ≡ Some address → InText base words address
    go more true f = here (some (mark_address base mark) address f)
    go more false f = more f

text_of : (image : Image) → (header_of image).text ≡ 4 * length image.text
unfolding header_of
text_of image = refl

import_far : (runtime : Image) (name : List ℕ) (address : ℕ) → IsLegal runtime → IsSmall runtime → import_address runtime name ≡ Some address → IsFarAddress address
import_far runtime name address legal small e =
    let h = header_of runtime in
    let s = spans h in
    let text : All (λ (m : Mark). m.at < h.text / 4) runtime.marks = legal.parts.marks.in_text in
    let i = function_in_text (base_of Library) (h.text / 4) _ name address (All-filter (λ (m : Mark). m.public) (λ (m : Mark). m.at < h.text / 4) runtime.marks text) e in
    (omega arith, omega arith)

-- ---- imports that are all found

none_is_missing : (p : List ℕ → Bool) (k : ℕ) (names : List (List ℕ)) (i : ℕ) (d : List ℕ) → position_from p k names ≡ None → i < length names → p (get_or names i d) ≡ false
none_is_missing p k [] i d e h = absurd (omega arith)
none_is_missing p k (name ∷ names) i d e h =
    go (λ (g : position_from p (k + 1) names ≡ None) (j : ℕ) (l : j < length names). none_is_missing p (k + 1) names j d g l) (p name) refl e i h
  where
    go : (position_from p (k + 1) names ≡ None → (j : ℕ) → j < length names → p (get_or names j d) ≡ false) → (b : Bool) → p name ≡ b → cond b (Some k) (position_from p (k + 1) names) ≡ None → (i : ℕ) → i < suc (length names) → p (get_or (name ∷ names) i d) ≡ false
    go more true f g i h = cc
    go more false f g zero h = f
    go more false f g (suc i) h = more g i (omega arith)

some_of : (o : Option ℕ) → is_none o ≡ false → o ≡ Some (unwrap_or o 0)
some_of None e = cc
some_of (Some x) e = refl

-- an import's address is that of the function that the runtime image exports
pub import_found : (main runtime : Image) (i : ℕ) → first_missing main runtime ≡ None → i < length main.imports
    → import_address runtime (get_or main.imports i []) ≡ Some (slice_index (import_addresses main runtime) i)
import_found main runtime i e h =
    let none : position_from (λ (name : List ℕ). is_none (import_address runtime name)) 0 main.imports ≡ None = sym (position_from-zero (λ (name : List ℕ). is_none (import_address runtime name)) main.imports) ∙ e in
    let there = none_is_missing (λ (name : List ℕ). is_none (import_address runtime name)) 0 main.imports i [] none h in
    some_of (import_address runtime (get_or main.imports i [])) there
    ∙ ap Some (sym (get_or-map (λ (name : List ℕ). unwrap_or (import_address runtime name) 0) main.imports i [] 0 h))

length-import_addresses : (main runtime : Image) → length (import_addresses main runtime) ≡ length main.imports
length-import_addresses main runtime = simp length-map

-- ---- pointers that fit

pointer_fits : (main runtime : Image) (slide : ℕ) (at : SlotsAt) (kind : FixKind) (page : ℕ) → main.role ≡ Main → slide < 2 ^ 16 → IsLegal runtime → IsSmall runtime → first_missing main runtime ≡ None
    → at.base ≡ base_of Main → at.size ≤ 16777216 → at.imports ≡ length main.imports → ordinal_fits (bounds_of at page) kind ≡ true → target_fits (bounds_of at page) kind ≡ true → PointerFits (filling main runtime slide) kind
unfolding ordinal_fits target_fits
pointer_fits main runtime slide at (Rebase target high8) page role s legal small found base size imports o t =
    let p = and_parts (leb at.base target) (leb (target - at.base) at.size) t in
    let low : at.base ≤ target = leb-true at.base target p.0 in
    let high : target - at.base ≤ at.size = leb-true (target - at.base) at.size p.1 in
    omega arith
pointer_fits main runtime slide at (Bind ordinal addend) page role s legal small found base size imports o t =
    let lt : ordinal < at.imports = ltb-true ordinal at.imports o in
    let len = length-import_addresses main runtime in
    (omega arith, import_far runtime (get_or main.imports ordinal []) (slice_index (import_addresses main runtime) ordinal) legal small (import_found main runtime ordinal found (omega arith)))
pointer_fits main runtime slide at (AuthRebase target sig) page role s legal small found base size imports o t =
    let b : base_of main.role ≡ base_of Main = ap base_of role in
    let lt : target < at.size = ltb-true target at.size t in
    omega arith
pointer_fits main runtime slide at (AuthBind ordinal sig) page role s legal small found base size imports o t =
    let lt : ordinal < at.imports = ltb-true ordinal at.imports o in
    let len = length-import_addresses main runtime in
    (omega arith, import_far runtime (get_or main.imports ordinal []) (slice_index (import_addresses main runtime) ordinal) legal small (import_found main runtime ordinal found (omega arith)))

fixes_ready : (main runtime : Image) (slide : ℕ) (at : SlotsAt) (cells : List ℕ) (fixes : List Fix) (len : ℕ) → main.role ≡ Main → slide < 2 ^ 16 → IsLegal runtime → IsSmall runtime → first_missing main runtime ≡ None
    → at.base ≡ base_of Main → at.size ≤ 16777216 → at.imports ≡ length main.imports → cells_from at + at.cells ≤ len → EachFits at cells fixes → AllReady (filling main runtime slide) len fixes
fixes_ready main runtime slide at cells [] len role s legal small found base size imports le e = tt
fixes_ready main runtime slide at cells (fix ∷ fixes) len role s legal small found base size imports le e =
    let f = e.0.fits in
    let t = standing at fix f.stands in (
      record {
        inside = omega arith;
        pointer = pointer_fits main runtime slide at fix.kind (page_of fix) role s legal small found base size imports f.ordinal f.target;
      },
      fixes_ready main runtime slide at cells fixes len role s legal small found base size imports le e.1,
    )

role_of : (image : Image) → (header_of image).role ≡ image.role
unfolding header_of
role_of image = refl

-- the slots of a legal program fit into its __DATA
pub record Fillable (main runtime : Image) (slide len : ℕ) : Type 0 where
  pub ready : AllReady (filling main runtime slide) len main.fixes
  pub spaced : Spaced 0 len main.fixes

pub fillable : (main runtime : Image) (slide len : ℕ) → IsLegal main → IsSmall main → main.role ≡ Main → slide < 2 ^ 16 → IsLegal runtime → IsSmall runtime → first_missing main runtime ≡ None
    → len ≡ (places_of (header_of main)).linkedit - (places_of (header_of main)).got → Fillable main runtime slide len
fillable main runtime slide len legal small role s rlegal rsmall found e =
    let h = header_of main in
    let p = places_of h in
    let at = slots_at h p (length main.imports) in
    let z = spans h in
    let c = cells_place h in
    let base : at.base ≡ base_of Main = ap base_of (role_of main ∙ role) in
    let le : cells_from at + at.cells ≤ len = omega arith in
    let fits = legal.parts.slots in
    record {
      ready = fixes_ready main runtime slide at main.cells main.fixes len role s rlegal rsmall found base small refl le fits.each;
      spaced = fixes_spaced at main.cells main.fixes len le fits.rising fits.each;
    }

-- the fields of a slot of a legal image
pub fields_fit : (at : SlotsAt) (cells : List ℕ) (before : List Fix) (fix : Fix) (after : List Fix) → EachFits at cells (before ++ fix ∷ after) → FieldsFit fix.kind
fields_fit at cells [] fix after e = e.0.fits.fields
fields_fit at cells (first ∷ before) fix after e = fields_fit at cells before fix after e.1

pub pointer_ready : (f : Filling) (len : ℕ) (before : List Fix) (fix : Fix) (after : List Fix) → AllReady f len (before ++ fix ∷ after) → PointerFits f fix.kind
pointer_ready f len [] fix after r = r.0.pointer
pointer_ready f len (first ∷ before) fix after r = pointer_ready f len before fix after r.1
