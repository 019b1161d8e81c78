-- The laws of a loaded state.
use Rattle.std.proofs.Common.{◌≡◌, ℕ, ◌+◌, ◌-◌, ◌*◌, ◌%◌, ◌≤◌, ◌<◌, true, List, [], ◌∷◌, ◌++◌, length, get_or, zero-add, refl, sym, ap, subst, ◌∙◌, arith, Option, Some, None, ◌⊎◌, inl, inr}
use Rattle.std.specs.Prelude.{All}
use Rattle.std.specs.Option.{option_or}
use Rattle.pa_layout.specs.Fields.{number}
use Rattle.pa_pac.specs.Signing.{Code}
use Rattle.pa_macho.specs.declared.header.Header.{Header}
use Rattle.pa_macho.specs.declared.header.Role.{Role}
use Rattle.pa_macho.specs.declared.header.Role.TheVariants.{Library}
use Rattle.pa_macho.specs.Layout.{places_of}
use Rattle.pa_macho.proofs.Facts.{spans}
use Rattle.pa_fixups.specs.declared.kind.Fix.{Fix}
use Rattle.pa_mem.specs.Memory.{Region, Right, Read, Write, has, allowed, byte_at, load, fetch, all_apart, write_xor_run, region_of}
use Rattle.pa_mem.proofs.Apart as mem
use Rattle.pa_image.specs.declared.image.Image.{Image}
use Rattle.pa_image.specs.Bytes.{header_of, part, slots_at}
use Rattle.pa_image.specs.Places.{base_at, mapped, text_base, code_areas, word_from, word_of}
use Rattle.pa_image.specs.Small.{IsSmall}
use Rattle.pa_image.specs.Writing.{IsLegal, bytes_of}
use Rattle.pa_image.proofs.Header.{cells_place}
use Rattle.pa_image.proofs.Laws.{legal_stands}
use Rattle.pa_load.specs.Filling.{slot_address, slot_value, filled}
use Rattle.pa_load.specs.Loaded.{State, IsLoaded, filling, stack, stack_base, stack_size, text_rights, data_rights, padded, loaded, both}
use Rattle.pa_slots.specs.Pages.{cells_from}
use Rattle.pa_slots.specs.Slots.{slots_with}
use Rattle.pa_slots.specs.Writing.{EachFits}
use Rattle.pa_slots.proofs.Beside.{Outside, cells_beside}
use Rattle.pa_load.specs.Ready.{AllReady}
use Rattle.pa_load.proofs.Contents.{byte_here, byte_in_part, byte_that_stands, filled_outside}
use Rattle.pa_load.proofs.Fetched.{area_fetched, or_some}
use Rattle.pa_load.proofs.Filled.{Spaced, length-filled, slot_held, slot_inside, slot_value-lt}
use Rattle.pa_load.proofs.Regions.{Ascending, ascending_apart, allowed_here, load_here}
use Rattle.pa_load.proofs.Signs.{IsLoadSign, log_signs_low}
use Rattle.pa_load.proofs.Slots.{fillable, fields_fit, pointer_ready}
use Rattle.pa_load.proofs.Whole.{others_are, length-blank, length-bytes_of, sized}

-- both images have bytes, and these are few
pub record AreLoadable (main runtime : Image) : Type 0 where
  pub main_legal : IsLegal main
  pub main_small : IsSmall main
  pub runtime_legal : IsLegal runtime
  pub runtime_small : IsSmall runtime

-- a state is the one of its images
pub one_loaded : (code : Code) (main runtime : Image) (slide : ℕ) (state other : State) → IsLoaded code main runtime slide state → IsLoaded code main runtime slide other → state ≡ other
one_loaded code main runtime slide state other i j = i.state_is ∙ sym j.state_is

-- ---- where things lie

pub record Bases (main runtime : Image) (slide : ℕ) : Type 0 where
  pub main_base : base_at main.role slide ≡ 0x100000000 + 0x4000 * slide
  pub runtime_base : base_at runtime.role 0 ≡ 0x180000000

pub bases : (code : Code) (main runtime : Image) (slide : ℕ) (state : State) → IsLoaded code main runtime slide state → Bases main runtime slide
bases code main runtime slide state i = record { main_base = ap (λ (r : Role). base_at r slide) i.program; runtime_base = ap (λ (r : Role). base_at r 0) i.library }

-- the bytes of __DATA with its slots filled
abbrev pub contents_of : Code → Image → Image → ℕ → List ℕ
contents_of code main runtime slide =
    let p = places_of (header_of main) in filled code (filling main runtime slide) main.fixes (part p.got p.linkedit (bytes_of main))

pub length-contents_of : (code : Code) (main runtime : Image) (slide : ℕ) (state : State) → AreLoadable main runtime → IsLoaded code main runtime slide state → length (contents_of code main runtime slide) ≡ (places_of (header_of main)).linkedit - (places_of (header_of main)).got
length-contents_of code main runtime slide state l i =
    let p = places_of (header_of main) in
    let z = sized main l.main_legal in
    let contents : length (part p.got p.linkedit (bytes_of main)) ≡ p.linkedit - p.got = z.contents in
    let slots = fillable main runtime slide (p.linkedit - p.got) l.main_legal l.main_small i.program i.slide_fits l.runtime_legal l.runtime_small i.found refl in
    length-filled code (filling main runtime slide) main.fixes (part p.got p.linkedit (bytes_of main)) 0 (subst (λ (n : ℕ). Spaced 0 n main.fixes) (sym contents) slots.spaced) ∙ contents

ascending : (code : Code) (main runtime : Image) (slide : ℕ) (state : State) → AreLoadable main runtime → IsLoaded code main runtime slide state → Ascending 0 (loaded code main runtime slide).memory
unfolding loaded
ascending code main runtime slide state l i =
    let p = places_of (header_of main) in
    let q = places_of (header_of runtime) in
    let b = bases code main runtime slide state i in
    let b0 = b.main_base in
    let b1 = b.runtime_base in
    let z = sized main l.main_legal in
    let o = z.order in
    let text : length (part 0 p.got (bytes_of main)) ≡ p.got = z.text in
    let contents = length-contents_of code main runtime slide state l i in
    let linkedit : length (padded (part p.linkedit p.end (bytes_of main))) < (p.end - p.linkedit) + 0x4000 = z.linkedit in
    let small = l.main_small in
    let fits = i.slide_fits in
    let y = sized runtime l.runtime_legal in
    let u = y.order in
    let text1 : length (part 0 q.got (bytes_of runtime)) ≡ q.got = y.text in
    let contents1 : length (part q.got q.linkedit (bytes_of runtime)) ≡ q.linkedit - q.got = y.contents in
    let s = length-blank stack_size in
    (omega arith, (omega arith, (omega arith, (omega arith, (omega arith, (omega arith, (omega arith, tt)))))))

pub memory_apart : (code : Code) (main runtime : Image) (slide : ℕ) (state : State) → AreLoadable main runtime → IsLoaded code main runtime slide state → all_apart (loaded code main runtime slide).memory ≡ true
memory_apart code main runtime slide state l i = ascending_apart 0 (loaded code main runtime slide).memory (ascending code main runtime slide state l i)

pub memory_of_state : (code : Code) (main runtime : Image) (slide : ℕ) (state : State) → IsLoaded code main runtime slide state → state.memory ≡ (loaded code main runtime slide).memory
memory_of_state code main runtime slide state i = ap (λ (s : State). s.memory) i.state_is

-- no two regions overlap
pub apart : (code : Code) (main runtime : Image) (slide : ℕ) (state : State) → AreLoadable main runtime → IsLoaded code main runtime slide state → all_apart state.memory ≡ true
apart code main runtime slide state l i = ap all_apart (memory_of_state code main runtime slide state i) ∙ memory_apart code main runtime slide state l i

-- no region is both written and run
pub written_or_run : (code : Code) (main runtime : Image) (slide : ℕ) (state : State) → IsLoaded code main runtime slide state → write_xor_run state.memory ≡ true
unfolding loaded write_xor_run
written_or_run code main runtime slide state i = ap write_xor_run (memory_of_state code main runtime slide state i)

-- ---- the regions

pub main_text : (code : Code) (main runtime : Image) (slide : ℕ) → mem.IsAt (loaded code main runtime slide).memory 0 (region_of (base_at main.role slide) (part 0 (places_of (header_of main)).got (bytes_of main)) text_rights)
unfolding loaded
main_text code main runtime slide = record { within = omega arith; found = refl }

pub main_data : (code : Code) (main runtime : Image) (slide : ℕ) → mem.IsAt (loaded code main runtime slide).memory 1 (region_of (base_at main.role slide + (places_of (header_of main)).got) (contents_of code main runtime slide) data_rights)
unfolding loaded
main_data code main runtime slide = record { within = omega arith; found = refl }

pub the_stack : (code : Code) (main runtime : Image) (slide : ℕ) → mem.IsAt (loaded code main runtime slide).memory 3 stack
unfolding loaded
the_stack code main runtime slide = record { within = omega arith; found = refl }

pub runtime_text : (code : Code) (main runtime : Image) (slide : ℕ) → mem.IsAt (loaded code main runtime slide).memory 4 (region_of (base_at runtime.role 0) (part 0 (places_of (header_of runtime)).got (bytes_of runtime)) text_rights)
unfolding loaded
runtime_text code main runtime slide = record { within = omega arith; found = refl }

-- the stack may be read and written
pub stack_allowed : (code : Code) (main runtime : Image) (slide : ℕ) (state : State) → IsLoaded code main runtime slide state → (right : Right) (at n : ℕ) → has right stack ≡ true → stack_base ≤ at → at + n ≤ stack_base + stack_size → allowed right state.memory at n ≡ true
stack_allowed code main runtime slide state i right at n may low high =
    let s = length-blank stack_size in
    ap (λ (m : List Region). allowed right m at n) (memory_of_state code main runtime slide state i)
    ∙ allowed_here right (loaded code main runtime slide).memory 3 stack at n (the_stack code main runtime slide) low (omega arith) may

-- ---- slots

-- a slot holds its value, and may be read and written
pub slot_loaded : (code : Code) (main runtime : Image) (slide : ℕ) (state : State) → AreLoadable main runtime → IsLoaded code main runtime slide state → (before : List Fix) (fix : Fix) (after : List Fix) → main.fixes ≡ before ++ fix ∷ after
    → (load 8 state.memory (slot_address (filling main runtime slide) fix) ≡ slot_value code (filling main runtime slide) fix) × (allowed Read state.memory (slot_address (filling main runtime slide) fix) 8 ≡ true) × (allowed Write state.memory (slot_address (filling main runtime slide) fix) 8 ≡ true)
slot_loaded code main runtime slide state l i before fix after e =
    let p = places_of (header_of main) in
    let f = filling main runtime slide in
    let at = slots_at (header_of main) p (length main.imports) in
    let contents = part p.got p.linkedit (bytes_of main) in
    let memory = (loaded code main runtime slide).memory in
    let region = region_of (base_at main.role slide + p.got) (contents_of code main runtime slide) data_rights in
    let z = sized main l.main_legal in
    let size : length contents ≡ p.linkedit - p.got = z.contents in
    let slots = fillable main runtime slide (p.linkedit - p.got) l.main_legal l.main_small i.program i.slide_fits l.runtime_legal l.runtime_small i.found refl in
    let spaced = subst (λ (fixes : List Fix). Spaced 0 (p.linkedit - p.got) fixes) e slots.spaced in
    let inside = slot_inside before fix after 0 (p.linkedit - p.got) spaced in
    let len = length-contents_of code main runtime slide state l i in
    let ready = pointer_ready f (p.linkedit - p.got) before fix after (subst (λ (fixes : List Fix). AllReady f (p.linkedit - p.got) fixes) e slots.ready) in
    let fields = fields_fit at main.cells before fix after (subst (λ (fixes : List Fix). EachFits at main.cells fixes) e l.main_legal.parts.slots.each) in
    let held : number 8 fix.at (contents_of code main runtime slide) ≡ slot_value code f fix =
    subst (λ (fixes : List Fix). number 8 fix.at (filled code f fixes contents) ≡ slot_value code f fix) (sym e)
    (slot_held code f before fix after contents 0 (subst (λ (n : ℕ). Spaced 0 n (before ++ fix ∷ after)) (sym size) spaced) (slot_value-lt code f fix ready fields)) in
    let here = main_data code main runtime slide in
    let same = memory_of_state code main runtime slide state i in (
      ap (λ (m : List Region). load 8 m (slot_address f fix)) same
          ∙ load_here 8 memory 1 region (slot_address f fix) fix.at here (memory_apart code main runtime slide state l i) refl (omega arith) ∙ held,
      ap (λ (m : List Region). allowed Read m (slot_address f fix) 8) same
          ∙ allowed_here Read memory 1 region (slot_address f fix) 8 here (omega arith) (omega arith) refl,
      ap (λ (m : List Region). allowed Write m (slot_address f fix) 8) same
          ∙ allowed_here Write memory 1 region (slot_address f fix) 8 here (omega arith) (omega arith) refl,
    )

-- the log is of signatures of loading, each of a canonical address
pub signs_of_loading : (code : Code) (main runtime : Image) (slide : ℕ) (state : State) → AreLoadable main runtime → IsLoaded code main runtime slide state → All IsLoadSign state.log
signs_of_loading code main runtime slide state l i =
    let p = places_of (header_of main) in
    let slots = fillable main runtime slide (p.linkedit - p.got) l.main_legal l.main_small i.program i.slide_fits l.runtime_legal l.runtime_small i.found refl in
    subst (All IsLoadSign) (sym (ap (λ (s : State). s.log) i.state_is ∙ (others_are code main runtime slide).0)) (log_signs_low code (filling main runtime slide) (p.linkedit - p.got) main.fixes slots.ready)

-- ---- constants and data

-- a byte of __const is in memory, and may be read
pub constant_loaded : (code : Code) (main runtime : Image) (slide : ℕ) (state : State) → AreLoadable main runtime → IsLoaded code main runtime slide state → (k : ℕ) → k < length main.consts
    → (byte_at state.memory (base_at main.role slide + (places_of (header_of main)).consts + k) ≡ get_or main.consts k 0) × (allowed Read state.memory (base_at main.role slide + (places_of (header_of main)).consts + k) 1 ≡ true)
constant_loaded code main runtime slide state l i k lt =
    let p = places_of (header_of main) in
    let bytes = bytes_of main in
    let memory = (loaded code main runtime slide).memory in
    let region = region_of (base_at main.role slide) (part 0 p.got bytes) text_rights in
    let at = base_at main.role slide + p.consts + k in
    let z = sized main l.main_legal in
    let o = z.order in
    let size : length (part 0 p.got bytes) ≡ p.got = z.text in
    let stands = legal_stands main l.main_legal in
    let s = spans (header_of main) in
    let e : (header_of main).consts ≡ length main.consts = sym stands.parts.consts_size in
    let ends = s.consts in
    let here = main_text code main runtime slide in
    let same = memory_of_state code main runtime slide state i in (
      ap (λ (m : List Region). byte_at m at) same ∙ byte_here memory 0 region at (p.consts + k) here (memory_apart code main runtime slide state l i) (omega arith) (omega arith)
          ∙ byte_in_part 0 p.got (p.consts + k) bytes (omega arith) ∙ ap (λ (n : ℕ). get_or bytes n 0) (zero-add (p.consts + k)) ∙ byte_that_stands p.consts k bytes main.consts stands.parts.consts lt,
      ap (λ (m : List Region). allowed Read m at 1) same ∙ allowed_here Read memory 0 region at 1 here (omega arith) (omega arith) refl,
    )

-- a byte of __data that is in no slot is in memory, and may be read and written
pub datum_loaded : (code : Code) (main runtime : Image) (slide : ℕ) (state : State) → AreLoadable main runtime → IsLoaded code main runtime slide state → (k : ℕ) → k < length main.cells
    → Outside (cells_from (slots_at (header_of main) (places_of (header_of main)) (length main.imports)) + k) main.fixes
    → (byte_at state.memory (base_at main.role slide + (places_of (header_of main)).cells + k) ≡ get_or main.cells k 0) × (allowed Read state.memory (base_at main.role slide + (places_of (header_of main)).cells + k) 1 ≡ true) × (allowed Write state.memory (base_at main.role slide + (places_of (header_of main)).cells + k) 1 ≡ true)
datum_loaded code main runtime slide state l i k lt outside =
    let p = places_of (header_of main) in
    let f = filling main runtime slide in
    let at = slots_at (header_of main) p (length main.imports) in
    let contents = part p.got p.linkedit (bytes_of main) in
    let memory = (loaded code main runtime slide).memory in
    let region = region_of (base_at main.role slide + p.got) (contents_of code main runtime slide) data_rights in
    let place = base_at main.role slide + p.cells + k in
    let z = sized main l.main_legal in
    let o = z.order in
    let size : length contents ≡ p.linkedit - p.got = z.contents in
    let len = length-contents_of code main runtime slide state l i in
    let slots = fillable main runtime slide (p.linkedit - p.got) l.main_legal l.main_small i.program i.slide_fits l.runtime_legal l.runtime_small i.found refl in
    let spaced = subst (λ (n : ℕ). Spaced 0 n main.fixes) (sym size) slots.spaced in
    let stands = (legal_stands main l.main_legal).parts.slots in
    let s = spans (header_of main) in
    let cells : length main.cells ≡ (header_of main).cells = stands.cells in
    let from : p.cells ≡ p.got + cells_from at = cells_place (header_of main) in
    let ends = s.cells in
    let here = main_data code main runtime slide in
    let same = memory_of_state code main runtime slide state i in (
      ap (λ (m : List Region). byte_at m place) same ∙ byte_here memory 1 region place (cells_from at + k) here (memory_apart code main runtime slide state l i) (omega arith) (omega arith)
          ∙ filled_outside code f main.fixes contents 0 (cells_from at + k) spaced outside
          ∙ cells_beside at (legal_stands main l.main_legal).parts.starts (slots_with main.cells main.fixes) contents k stands lt outside,
      ap (λ (m : List Region). allowed Read m place 1) same ∙ allowed_here Read memory 1 region place 1 here (omega arith) (omega arith) refl,
      ap (λ (m : List Region). allowed Write m place 1) same ∙ allowed_here Write memory 1 region place 1 here (omega arith) (omega arith) refl,
    )

-- ---- code

text_of : (image : Image) → ((header_of image).text ≡ 4 * length image.text) × ((header_of image).stubs ≡ 4 * length image.stubs)
unfolding header_of
text_of image = (refl, refl)

even_stubs : (h : Header) → (places_of h).stubs % 4 ≡ 0
unfolding places_of
even_stubs h = omega arith

-- the words of an image whose __TEXT is a region
image_fetched : (image : Image) (memory : List Region) (k base : ℕ) (at w : ℕ) → IsLegal image → all_apart memory ≡ true → base % 4 ≡ 0 → mem.IsAt memory k (region_of base (part 0 (places_of (header_of image)).got (bytes_of image)) text_rights)
    → (word_from (text_base base) image.text at ≡ Some w) ⊎ (word_from (base + (places_of (header_of image)).stubs) image.stubs at ≡ Some w) → fetch memory at ≡ Some w
image_fetched image memory k base at w legal apart even here h = go h
  where
    region : Region
    region = region_of base (part 0 (places_of (header_of image)).got (bytes_of image)) text_rights

    inside : (places_of (header_of image)).got ≤ length (bytes_of image)
    inside = let len = length-bytes_of image legal in let o = (sized image legal).order in omega arith

    text : 0x400 + 4 * length image.text ≤ (places_of (header_of image)).got
    text = let s = spans (header_of image) in let t = (text_of image).0 in let o = (sized image legal).order in omega arith

    stubs : (places_of (header_of image)).stubs + 4 * length image.stubs ≤ (places_of (header_of image)).got
    stubs = let s = spans (header_of image) in let t = (text_of image).1 in let o = (sized image legal).order in omega arith

    go : (word_from (text_base base) image.text at ≡ Some w) ⊎ (word_from (base + (places_of (header_of image)).stubs) image.stubs at ≡ Some w) → fetch memory at ≡ Some w
    go (inl e) = area_fetched memory k region 0x400 (places_of (header_of image)).got image.text (bytes_of image) at w here apart refl inside refl even refl text (legal_stands image legal).parts.text e
    go (inr e) = area_fetched memory k region (places_of (header_of image)).stubs (places_of (header_of image)).got image.stubs (bytes_of image) at w here apart refl inside refl even (even_stubs (header_of image)) stubs (legal_stands image legal).parts.stubs e

-- where a word of code of the images stands it is fetched
pub word_fetched : (code : Code) (main runtime : Image) (slide : ℕ) (state : State) → AreLoadable main runtime → IsLoaded code main runtime slide state → (at w : ℕ) → word_of (code_areas (both main runtime slide)) at ≡ Some w → fetch state.memory at ≡ Some w
word_fetched code main runtime slide state l i at w e =
    ap (λ (m : List Region). fetch m at) (memory_of_state code main runtime slide state i) ∙ in_first (or_some _ _ w e)
  where
    memory : List Region
    memory = (loaded code main runtime slide).memory

    from_main : (word_from (text_base (base_at main.role slide)) main.text at ≡ Some w) ⊎ (word_from (base_at main.role slide + (places_of (header_of main)).stubs) main.stubs at ≡ Some w) → fetch memory at ≡ Some w
    from_main = let b = (bases code main runtime slide state i).main_base in image_fetched main memory 0 (base_at main.role slide) at w l.main_legal (memory_apart code main runtime slide state l i) (omega arith) (main_text code main runtime slide)

    from_runtime : (word_from (text_base (base_at runtime.role 0)) runtime.text at ≡ Some w) ⊎ (word_from (base_at runtime.role 0 + (places_of (header_of runtime)).stubs) runtime.stubs at ≡ Some w) → fetch memory at ≡ Some w
    from_runtime = let b = (bases code main runtime slide state i).runtime_base in image_fetched runtime memory 4 (base_at runtime.role 0) at w l.runtime_legal (memory_apart code main runtime slide state l i) (omega arith) (runtime_text code main runtime slide)

    runtime_stubs : Option ℕ
    runtime_stubs = option_or (word_from (base_at runtime.role 0 + (places_of (header_of runtime)).stubs) runtime.stubs at) None

    in_last : (word_from (base_at runtime.role 0 + (places_of (header_of runtime)).stubs) runtime.stubs at ≡ Some w) ⊎ (None ≡ Some w) → fetch memory at ≡ Some w
    in_last (inl e) = from_runtime (inr e)
    in_last (inr e) = cc

    in_third : (word_from (text_base (base_at runtime.role 0)) runtime.text at ≡ Some w) ⊎ (runtime_stubs ≡ Some w) → fetch memory at ≡ Some w
    in_third (inl e) = from_runtime (inl e)
    in_third (inr e) = in_last (or_some _ _ w e)

    runtime_words : Option ℕ
    runtime_words = option_or (word_from (text_base (base_at runtime.role 0)) runtime.text at) runtime_stubs

    in_second : (word_from (base_at main.role slide + (places_of (header_of main)).stubs) main.stubs at ≡ Some w) ⊎ (runtime_words ≡ Some w) → fetch memory at ≡ Some w
    in_second (inl e) = from_main (inr e)
    in_second (inr e) = in_third (or_some _ _ w e)

    in_first : (word_from (text_base (base_at main.role slide)) main.text at ≡ Some w) ⊎ (option_or (word_from (base_at main.role slide + (places_of (header_of main)).stubs) main.stubs at) runtime_words ≡ Some w) → fetch memory at ≡ Some w
    in_first (inl e) = from_main (inl e)
    in_first (inr e) = in_second (or_some _ _ w e)
