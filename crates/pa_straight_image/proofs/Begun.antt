-- The state in which a loaded program of the first form begins, and what its run shows.
use Rattle.std.proofs.Common.{◌≡◌, ℕ, zero, suc, ◌⊎◌, inl, inr, false, ◌+◌, ◌-◌, ◌*◌, ◌/◌, ◌%◌, ◌^◌, ◌<◌, ◌≤◌, true, eqb, List, [], ◌∷◌, ◌++◌, length, map, replicate, refl, sym, ap, subst, ◌∙◌, arith, codes, Some}
use Rattle.std.specs.Prelude.{pos, slice_index, unwrap_or, reverse, position, is_none, None}
use Rattle.std.specs.Int.{w32, cast_signed}
use Rattle.std.specs.List.{list_any, flat_map, AllByRecursion}
use Rattle.std.proofs.lemmas.Int.{to_z_pos}
use Rattle.std.proofs.lemmas.Bool.{eq-eqb, or_left, cases_lt}
use Rattle.std.proofs.lemmas.List.{length-map, length-replicate}
use Rattle.pa_pac.specs.declared.key.Key.TheVariants.{IA}
use Rattle.pa_pac.specs.declared.event.Event.TheVariants as event
use Rattle.pa_pac.specs.declared.event.When.TheVariants as moment
use Rattle.pa_pac.specs.Log.{Log, is_known}
use Rattle.pa_pac.specs.Schema.{modifier}
use Rattle.pa_pac.specs.Signing.{Code, sign}
use Rattle.pa_pac.proofs.Laws.{sign-lt}
use Rattle.pa_a64.specs.Decoding.{encoded, InRange}
use Rattle.pa_mem.specs.Memory.{Region, region_of, Right, Read, Write, has, fetch, load, allowed, all_apart}
use Rattle.pa_macho.specs.declared.header.Role.TheVariants.{Main, Library}
use Rattle.pa_macho.specs.declared.places.Places.{Places}
use Rattle.pa_macho.specs.Layout.{places_of, base_of}
use Rattle.pa_object.specs.declared.end.End.TheVariants.{Exit}
use Rattle.pa_object.specs.Machine.{Machine}
use Rattle.pa_object.specs.Run.{Watched, watched, advance_by}
use Rattle.pa_object.specs.Shape.{shape, Enter, all_known}
use Rattle.pa_object.specs.Placed.{HasCode}
use Rattle.pa_object.proofs.Placed.{HasCode-append}
use Rattle.pa_object.proofs.Steps.{watching}
use Rattle.pa_object.proofs.StepsRun.{watched-then, watched-machine, watched-ended, is_known-sign, AreBefore}
use Rattle.pa_image.specs.declared.image.Image.{Image}
use Rattle.pa_image.specs.Bytes.{header_of, part}
use Rattle.pa_image.specs.Writing.{bytes_of}
use Rattle.pa_image.proofs.Laws.{legal_stands}
use Rattle.pa_image.proofs.Cut.{length-part}
use Rattle.pa_macho.proofs.Laws.{header_ends}
use Rattle.pa_fixups.specs.declared.kind.Fix.{Fix}
use Rattle.pa_fixups.specs.Chain.{put_at}
use Rattle.byteorder.specs.Endian.{little_bytes}
use Rattle.pa_image.specs.Places.{Area, base_at, mapped, data_base, text_base, word_of, code_areas, got_slots, slots_from, entry}
use Rattle.pa_straight.specs.declared.source.Straight.{Straight}
use Rattle.pa_straight.specs.Source.{IsSource}
use Rattle.pa_pal.proofs.Legal as pal_legal
use Rattle.pa_load.proofs.Laws.{AreLoadable, word_fetched, slot_loaded, stack_allowed}
use Rattle.pa_load.specs.Filling.{Filling, filled, filling_log, slot_value, slot_signs}
use Rattle.pa_image.specs.Pal.{pal, putchar, getchar}
use Rattle.pa_load.specs.Loaded.{State, IsLoaded, begun_in, both, loaded, blank, filling, import_addresses, import_address, first_missing, image_regions, padded, text_rights, data_rights, linkedit_rights, stack, stack_base, stack_size}
use Rattle.pa_straight_image.specs.Code.{text, stub, gap_behind, stub_place, pages_between}
use Rattle.pa_straight_image.specs.Image.{image_of, once, putchar_slot}
use Rattle.pa_straight_image.specs.Shows.{steps, unrun, seen, Shows, RunsFrom, Runs}
use Rattle.pa_straight_image.proofs.Areas.{AreFetched, HasCode-fetched, area_fetched, word_of-first, word_of-behind, word_from-low}
use Rattle.pa_straight_image.proofs.Calls.{Ways, Leads_through, IsSigned}
use Rattle.pa_straight_image.proofs.Fits.{text-InRange, stub-InRange, prints-small}
use Rattle.pa_straight_image.proofs.Legal.{legal, small, places_with, image_places, length-text}
use Rattle.pa_straight_image.proofs.Slot.{own_address, page_reached}
use Rattle.pa_straight_image.proofs.Whole.{Begins, Finished, finish}

-- ---- places

stubs_with : (n : ℕ) → (places_with n).stubs ≡ stub_place n
stubs_with zero = refl
stubs_with (suc n) = refl

got_with : (n : ℕ) → (places_with n).got ≡ 0x4000
got_with zero = refl
got_with (suc n) = refl

base_of_image : (s : Straight) (slide : ℕ) → base_at (image_of s).role slide ≡ 0x100000000 + 0x4000 * slide
unfolding image_of
base_of_image s slide = refl

target : ℕ
target = 0x180000400

-- the ways of a program that prints n times, under a slide
ways : (prints slide : ℕ) → prints ≤ 1000 → slide < 2 ^ 16 → Ways
ways prints slide few low = record {
  stub = 0x100000000 + 0x4000 * slide + stub_place prints;
  pages = pages_between prints;
  slot = 0x100000000 + 0x4000 * slide + 0x4000;
  target = 0x180000400;
  low = omega arith;
  slot_low = omega arith;
  target_low = omega arith;
  page = page_reached slide (stub_place prints) low (omega arith);
}

abbrev base : ℕ → ℕ
base slide = 0x100000000 + 0x4000 * slide

-- ---- code

-- what is known of a loaded state
pub record Stood (code : Code) (s : Straight) (slide : ℕ) (state : State) : Type 0 where
  pub loaded : IsLoaded code (image_of s) pal slide state
  pub fetched : (at w : ℕ) → word_of (code_areas (both (image_of s) pal slide)) at ≡ Some w → fetch state.memory at ≡ Some w

once-some : {X : Type 0} (prints : List ℕ) (xs : List X) → 0 < length prints → once prints xs ≡ xs
once-some [] xs some = absurd (omega arith)
once-some (n ∷ ns) xs some = refl

abbrev text_area : Straight → ℕ → Area
text_area s slide = record { from = base slide + 0x400; words = map encoded (text s) }

abbrev stub_area : ℕ → ℕ → Area
stub_area prints slide = record { from = base slide + stub_place prints; words = map encoded (stub (pages_between prints)) }

abbrev pal_areas : List Area
pal_areas = code_areas (mapped pal 0 ∷ [])

-- where bytes are printed, these are the areas
areas_are : (s : Straight) → IsSource s → (slide : ℕ) → 0 < length s.prints
    → code_areas (both (image_of s) pal slide) ≡ text_area s slide ∷ stub_area (length s.prints) slide ∷ pal_areas
unfolding image_of
areas_are s source slide some =
    let place : (places_of (header_of (image_of s))).stubs ≡ stub_place (length s.prints) = ap (λ (p : Places). p.stubs) (image_places s source) ∙ stubs_with (length s.prints) in
    ap (λ x. text_area s slide ∷ record { from = base slide + x; words = once s.prints (map encoded (stub (pages_between (length s.prints)))) } ∷ pal_areas) place
    ∙ ap (λ x. text_area s slide ∷ record { from = base slide + stub_place (length s.prints); words = x } ∷ pal_areas) (once-some s.prints (map encoded (stub (pages_between (length s.prints)))) some)

text_end : (s : Straight) (slide : ℕ) → base slide + 0x400 + 4 * length (map encoded (text s)) ≡ base slide + 0x400 + 12 * length s.prints + 44
text_end s slide =
    let one = length-map (text s) encoded in
    let two = length-text s in
    omega arith

putchar-InRange : AllByRecursion InRange (putchar ++ getchar)
putchar-InRange = (tt, (omega arith, (tt, (tt, (omega arith, (tt, tt))))))

module _ (code : Code) (s : Straight) (source : IsSource s) (slide : ℕ) (low : slide < 2 ^ 16) (state : State) (stood : Stood code s slide state) where
  text_stands : HasCode state.memory (base slide + 0x400) (text s)
  unfolding image_of
  text_stands =
      HasCode-fetched state.memory (base slide + 0x400) (text s) (text-InRange s source)
      (area_fetched state.memory (base slide + 0x400) (map encoded (text s)) (λ at w e. stood.fetched at w (word_of-first (text_area s slide)
      (record { from = base slide + (places_of (header_of (image_of s))).stubs; words = (image_of s).stubs } ∷ pal_areas) at w e)))

  module _ (some : 0 < length s.prints) where
    fetched_among : (at w : ℕ) → word_of (text_area s slide ∷ stub_area (length s.prints) slide ∷ pal_areas) at ≡ Some w → fetch state.memory at ≡ Some w
    fetched_among at w e = stood.fetched at w (ap (λ areas. word_of areas at) (areas_are s source slide some) ∙ e)

    stub_stands : HasCode state.memory (base slide + stub_place (length s.prints)) (stub (pages_between (length s.prints)))
    stub_stands =
        let few = source.few in
        let ends = text_end s slide in
        let place = stub_place (length s.prints) in
        HasCode-fetched state.memory (base slide + place) (stub (pages_between (length s.prints))) (stub-InRange (length s.prints))
        (area_fetched state.memory (base slide + place) (map encoded (stub (pages_between (length s.prints)))) (λ at w e.
        let above = word_from-low (base slide + place) (map encoded (stub (pages_between (length s.prints)))) at w e in
        fetched_among at w (word_of-behind (text_area s slide) (stub_area (length s.prints) slide ∷ pal_areas) at w (omega arith)
        (word_of-first (stub_area (length s.prints) slide) (pal_areas) at w e))))

    putchar_stands : HasCode state.memory 0x180000400 (putchar ++ getchar)
    unfolding pal
    putchar_stands =
        let few = source.few in
        let ends = text_end s slide in
        HasCode-fetched state.memory 0x180000400 (putchar ++ getchar) putchar-InRange
        (area_fetched state.memory 0x180000400 (map encoded (putchar ++ getchar)) (λ at w e.
        let above = word_from-low 0x180000400 (map encoded (putchar ++ getchar)) at w e in
        fetched_among at w (word_of-behind (text_area s slide) (stub_area (length s.prints) slide ∷ pal_areas) at w (omega arith)
        (word_of-behind (stub_area (length s.prints) slide) (pal_areas) at w (omega arith)
        (word_of-first (record { from = 0x180000400; words = map encoded (putchar ++ getchar) }) (record { from = 0x180000000 + (places_of (header_of pal)).stubs; words = [] } ∷ []) at w e)))))

-- ---- the slot

imports_bound : (main : Image) → main.imports ≡ codes "_putchar" ∷ [] → import_addresses main pal ≡ 0x180000400 ∷ []
unfolding pal
imports_bound main e = ap (λ names. map (λ name. unwrap_or (import_address pal name) 0) names) e

-- the pointer that the slot is to hold
value_is : (code : Code) (main : Image) (slide slot : ℕ) → main.imports ≡ codes "_putchar" ∷ [] → (filling main pal slide).slots_base ≡ slot → slot < 2 ^ 47
    → slot_value code (filling main pal slide) putchar_slot ≡ sign code IA slot 0x180000400
value_is code main slide slot imports place low =
    let bound = imports_bound main imports in
    let at : (filling main pal slide).slots_base + 0 ≡ slot = omega arith in
    let modifier_is : modifier true 0 ((filling main pal slide).slots_base + 0) ≡ slot = ap (modifier true 0) at ∙ own_address slot (omega arith) in
    ap (λ m. sign code IA m (slice_index (import_addresses main pal) 0)) modifier_is ∙ ap (λ xs. sign code IA slot (slice_index xs 0)) bound

-- what signing it logs
log_is : (code : Code) (main : Image) (slide slot : ℕ) → main.imports ≡ codes "_putchar" ∷ [] → main.fixes ≡ putchar_slot ∷ [] → (filling main pal slide).slots_base ≡ slot → slot < 2 ^ 47
    → filling_log code (filling main pal slide) main.fixes ≡ record { when = moment.Load; event = event.Sign IA slot 0x180000400 (sign code IA slot 0x180000400) } ∷ []
unfolding filling_log
log_is code main slide slot imports fixes place low =
    let bound = imports_bound main imports in
    let at : (filling main pal slide).slots_base + 0 ≡ slot = omega arith in
    let modifier_is : modifier true 0 ((filling main pal slide).slots_base + 0) ≡ slot = ap (modifier true 0) at ∙ own_address slot (omega arith) in
    let value = value_is code main slide slot imports place low in
    ap (λ x. reverse (flat_map (slot_signs code (filling main pal slide)) x)) fixes
    ∙ ap (λ m. record { when = moment.Load; event = event.Sign IA m (slice_index (import_addresses main pal) 0) (slot_value code (filling main pal slide) putchar_slot) } ∷ []) modifier_is
    ∙ ap (λ xs. record { when = moment.Load; event = event.Sign IA slot (slice_index xs 0) (slot_value code (filling main pal slide) putchar_slot) } ∷ []) bound
    ∙ ap (λ v. record { when = moment.Load; event = event.Sign IA slot 0x180000400 v } ∷ []) value

-- ---- the beginning

slots_place : (s : Straight) → IsSource s → (slide : ℕ) → (filling (image_of s) pal slide).slots_base ≡ base slide + 0x4000
unfolding image_of
slots_place s source slide = ap (λ (p : Places). base slide + p.got) (image_places s source) ∙ ap (λ x. base slide + x) (got_with (length s.prints))

imports_are : (s : Straight) → 0 < length s.prints → (image_of s).imports ≡ codes "_putchar" ∷ []
unfolding image_of
imports_are s some = once-some s.prints (codes "_putchar" ∷ []) some

fixes_are : (s : Straight) → 0 < length s.prints → (image_of s).fixes ≡ putchar_slot ∷ []
unfolding image_of
fixes_are s some = once-some s.prints (putchar_slot ∷ []) some

no_fixes : (s : Straight) → length s.prints ≤ 0 → (image_of s).fixes ≡ []
unfolding image_of
no_fixes s none = go s.prints none
  where
    go : (prints : List ℕ) → length prints ≤ 0 → once prints (putchar_slot ∷ []) ≡ []
    go [] h = refl
    go (n ∷ ns) h = absurd (omega arith)

got_are : (s : Straight) → IsSource s → (slide : ℕ) → 0 < length s.prints → got_slots (mapped (image_of s) slide) ≡ (base slide + 0x4000) ∷ []
unfolding image_of
got_are s source slide some =
    ap (λ names. slots_from (data_base (mapped (image_of s) slide)) (8 * length names / 8)) (imports_are s some)
    ∙ ap (λ (at : ℕ). at ∷ []) (slots_place s source slide)

-- both images can be loaded
loadable : (s : Straight) → IsSource s → AreLoadable (image_of s) pal
loadable s source = record { main_legal = legal s source; main_small = small s source; runtime_legal = pal_legal.legal; runtime_small = pal_legal.small }

-- a log that tells nothing but that loading signed
record Told (got : List ℕ) (log : Log) : Type 0 where
  before : AreBefore 0 log
  known : all_known log ≡ true
  unshown : shape got [] log ≡ []

told_nothing : (got : List ℕ) (log : Log) → log ≡ [] → Told got log
unfolding shape all_known
told_nothing got log e = subst (Told got) (sym e) (record { before = tt; known = refl; unshown = refl })

told_sign : (got : List ℕ) (log : Log) (slot raw signed : ℕ) → log ≡ record { when = moment.Load; event = event.Sign IA slot raw signed } ∷ [] → Told got log
unfolding shape all_known
told_sign got log slot raw signed e = subst (Told got) (sym e) (record { before = (tt, tt); known = refl; unshown = refl })

no_log : (code : Code) (f : Filling) (fixes : List Fix) → fixes ≡ [] → filling_log code f fixes ≡ []
unfolding filling_log
no_log code f fixes e = ap (λ x. reverse (flat_map (slot_signs code f) x)) e

-- where a loaded state begins
record Start (code : Code) (main : Image) (slide : ℕ) (state : State) : Type 0 where
  pc : state.pc ≡ base_at main.role slide + 0x400
  sp : state.sp ≡ 0x170000000
  log : state.log ≡ filling_log code (filling main pal slide) main.fixes

start_of : (code : Code) (main : Image) (slide : ℕ) (state : State) → state ≡ loaded code main pal slide → Start code main slide state
unfolding loaded
start_of code main slide state e = record {
  pc = ap (λ (x : State). x.pc) e;
  sp = ap (λ (x : State). x.sp) e;
  log = ap (λ (x : State). x.log) e;
}

module _ (code : Code) (s : Straight) (source : IsSource s) (slide : ℕ) (low : slide < 2 ^ 16) (state : State) (stood : Stood code s slide state) where
  told : Told (got_slots (mapped (image_of s) slide)) state.log
  told =
      let start = start_of code (image_of s) slide state stood.loaded.state_is in
      let got = got_slots (mapped (image_of s) slide) in
      elim (cases_lt 0 (length s.prints)) [
        | inl some ↦
            told_sign got state.log (base slide + 0x4000) 0x180000400 (sign code IA (base slide + 0x4000) 0x180000400)
            (start.log ∙ log_is code (image_of s) slide (base slide + 0x4000) (imports_are s some) (fixes_are s some) (slots_place s source slide) (omega arith))
        | inr none ↦ told_nothing got state.log (start.log ∙ no_log code (filling (image_of s) pal slide) (image_of s).fixes (no_fixes s none))
      ]

  leads : 0 < length s.prints → Leads_through code state.memory (ways (length s.prints) slide source.few low) × IsSigned (got_slots (mapped (image_of s) slide)) state.log (ways (length s.prints) slide source.few low)
  unfolding ways
  leads some =
      let start = start_of code (image_of s) slide state stood.loaded.state_is in
      let slot : ℕ = base slide + 0x4000 in
      let place = slots_place s source slide in
      let held = slot_loaded code (image_of s) pal slide state (loadable s source) stood.loaded [] putchar_slot [] (fixes_are s some) in
      let at : (filling (image_of s) pal slide).slots_base + 0 ≡ slot = omega arith in
      let value = value_is code (image_of s) slide slot (imports_are s some) place (omega arith) in
      let log = start.log ∙ log_is code (image_of s) slide slot (imports_are s some) (fixes_are s some) place (omega arith) in (
        record {
          stub = stub_stands code s source slide low state stood some;
          putchar = (HasCode-append state.memory 0x180000400 putchar getchar (putchar_stands code s source slide low state stood some)).0;
          value = ap (load 8 state.memory) (sym at) ∙ held.0 ∙ value;
          reads = ap (λ x. allowed Read state.memory x 8) (sym at) ∙ held.1;
        },
        record {
          known = ap (λ l. is_known l IA slot 0x180000400) log ∙ is_known-sign IA slot 0x180000400 (sign code IA slot 0x180000400) moment.Load [];
          listed = ap (list_any (λ x. eqb x slot)) (got_are s source slide some) ∙ or_left _ _ (eq-eqb slot slot refl);
        },
      )

  begins : Begins code (got_slots (mapped (image_of s) slide)) (begun_in state []) s (ways (length s.prints) slide source.few low)
  unfolding ways
  begins =
      let start = start_of code (image_of s) slide state stood.loaded.state_is in
      let few = source.few in
      let based = base_of_image s slide in
      let pc : state.pc ≡ base slide + 0x400 = start.pc ∙ ap (λ x. x + 0x400) based in
      let sp = start.sp in
      record {
        ready = record { going = refl; wide = refl; counted = refl; before = told.before; known = told.known };
        count = refl;
        output = refl;
        unshown = told.unshown;
        text = subst (λ p. HasCode state.memory p (text s)) (sym pc) (text_stands code s source slide low state stood);
        leads = leads;
        stub = omega arith;
        apart = omega arith;
        slot_apart = omega arith;
        target_apart = omega arith;
        room = omega arith;
        reads = λ at from to. stack_allowed code (image_of s) pal slide state stood.loaded Read at 8 refl (omega arith) (omega arith);
        writes = λ at from to. stack_allowed code (image_of s) pal slide state stood.loaded Write at 8 refl (omega arith) (omega arith);
      }

-- ---- what a run of any bound shows

status_of : (n : ℕ) → n < 2 ^ 31 → cast_signed w32 (n % 2 ^ 32) ≡ pos n
status_of n h = let fits : n % 2 ^ 32 ≡ n = omega arith in ap (cast_signed w32) fits ∙ to_z_pos w32 n h

main_entry : (s : Straight) (slide : ℕ) → entry (both (image_of s) pal slide) (codes "_main") ≡ Some (base slide + 0x400 + 12)
unfolding image_of
main_entry s slide = refl

putchar_entry : (s : Straight) (slide : ℕ) → entry (both (image_of s) pal slide) (codes "_putchar") ≡ Some 0x180000400
unfolding image_of pal
putchar_entry s slide = refl

stays : (code : Code) (got : List ℕ) (s : Straight) (m : Machine) (w : Ways) (n : ℕ) → (done : Finished code got m s w) → steps s ≤ n → watched code [] n (unrun m) ≡ watching done.later done.longer
stays code got s m w n done enough =
    let rest : steps s + (n - steps s) ≡ n = omega arith in
    subst (λ k. watched code [] k (unrun m) ≡ watching done.later done.longer) rest
    (watched-then code [] (steps s) (n - steps s) (unrun m) (watching done.later done.longer) (watching done.later done.longer) done.runs
    (watched-ended code (n - steps s) done.later done.longer _ done.ended))

pub runs_from : (code : Code) (s : Straight) → IsSource s → (slide : ℕ) → slide < 2 ^ 16 → (state : State) → Stood code s slide state → RunsFrom (image_of s) s slide code state
unfolding ways
runs_from code s source slide low state stood n enough =
    let got = got_slots (mapped (image_of s) slide) in
    let m = begun_in state [] in
    let w = ways (length s.prints) slide source.few low in
    let small = source.status in
    let done = finish code got m s w (begins code s source slide low state stood) (prints-small s source) (omega arith) in
    let start = start_of code (image_of s) slide state stood.loaded.state_is in
    let pc : state.pc ≡ base slide + 0x400 = start.pc ∙ ap (λ x. x + 0x400) (base_of_image s slide) in
    let whole : n - 0 ≡ n = omega arith in (
      subst (Shows (image_of s) slide s) (sym (stays code got s m w n done enough)) (record {
        output = done.output;
        end = done.ended ∙ ap (λ x. Some (Exit x)) (status_of s.returns source.status);
        count = done.counted;
        known = done.known;
        main = base slide + 0x400 + 12;
        main_is = main_entry s slide;
        putchar = 0x180000400;
        putchar_is = putchar_entry s slide;
        shape = done.shows ∙ ap (λ p. map (λ _. Enter 0x180000400) s.prints ++ Enter (p + 12) ∷ []) pc;
      }),
      ap (λ k. advance_by code [] k m) whole ∙ sym (watched-machine code [] n (unrun m)),
    )

-- ---- loading

-- each import is exported
pub all_found : (s : Straight) → first_missing (image_of s) pal ≡ None
unfolding image_of pal
all_found s = go s.prints
  where
    go : (prints : List ℕ) → position (λ name. is_none (import_address pal name)) (once prints (codes "_putchar" ∷ [])) ≡ None
    go [] = refl
    go (n ∷ ns) = refl

pub is_main : (s : Straight) → (image_of s).role ≡ Main
unfolding image_of
is_main s = refl

is_loaded : (code : Code) (s : Straight) (slide : ℕ) → slide < 2 ^ 16 → IsLoaded code (image_of s) pal slide (loaded code (image_of s) pal slide)
unfolding pal
is_loaded code s slide low = record {
  program = is_main s;
  library = refl;
  no_fixes = refl;
  no_imports = refl;
  slide_fits = low;
  found = all_found s;
  state_is = refl;
}

pub runs : (s : Straight) → IsSource s → Runs (image_of s) s
runs s source code slide low =
    let state = loaded code (image_of s) pal slide in
    let is = is_loaded code s slide low in
    (is, runs_from code s source slide low state (record { loaded = is; fetched = word_fetched code (image_of s) pal slide state (loadable s source) is }))
