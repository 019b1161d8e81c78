-- The bytes of an image whose parts are of bytes are bytes.
use Rattle.std.proofs.Common.{ℕ, zero, suc, ◌+◌, ◌-◌, ◌*◌, ◌/◌, ◌%◌, ◌^◌, ◌<◌, List, [], ◌∷◌, ◌++◌, length, take, drop, replicate, map, arith}
use Rattle.std.specs.List.{concat}
use Rattle.std.specs.Int.{bytes_low_first, byte_at}
use Rattle.byteorder.specs.Endian.{little_bytes}
use Rattle.pa_layout.specs.declared.field.FileField.{FileField}
use Rattle.pa_layout.specs.Fields.{bytes_in, four, two, spelled}
use Rattle.pa_layout.specs.Names.{ended}
use Rattle.pa_macho.specs.declared.header.Role.{Role}
use Rattle.pa_macho.specs.declared.header.Role.TheVariants.{Main, Library}
use Rattle.pa_macho.specs.declared.header.Header.{Header}
use Rattle.pa_macho.specs.declared.places.Places.{Places}
use Rattle.pa_macho.specs.Layout as fields
use Rattle.pa_macho.specs.Layout.{page_count, places_of}
use Rattle.pa_macho.specs.Writing.{command, start_parts, page_zero_parts, segment_parts, entry_parts, library_parts, front_with, front_of}
use Rattle.pa_fixups.specs.declared.kind.Fix.{Fix}
use Rattle.pa_fixups.specs.declared.tables.DataAt.{DataAt}
use Rattle.pa_fixups.specs.Chain.{word_of, put_at, with_slots}
use Rattle.pa_fixups.specs.Fixups.{header_of as fixups_header, segments_of, pages_of as pages_fields, imports_at, starts_end, entries, fixups_bytes, fixups_with}
use Rattle.pa_slots.specs.declared.slots.SlotsAt.{SlotsAt}
use Rattle.pa_slots.specs.Pages.{page_size, cells_from, page_slots, later_slots}
use Rattle.pa_slots.specs.Slots.{plain_of}
use Rattle.pa_slots.specs.Writing.{pages_of}
use Rattle.pa_slots.proofs.Pages.{IsBytes-take, IsBytes-drop}
use Rattle.pa_symbols.specs.Symbols.{names_of, entries as symbol_entries}
use Rattle.pa_image.specs.declared.image.Image.{Image}
use Rattle.pa_image.specs.Bytes.{data_at, header_of, slots_at, text_at}
use Rattle.pa_image.specs.Writing.{AreBytes, AllBytes, BesideBytes, text_parts, linkedit_parts, starts_with, pages_with, bytes_with, bytes_of}

nothing : AreBytes []
nothing = λ i. omega arith

one_more : (x : ℕ) (xs : List ℕ) → x < 256 → AreBytes xs → AreBytes (x ∷ xs)
one_more x xs lt b zero = lt
one_more x xs lt b (suc i) = b i

pub both : (xs ys : List ℕ) → AreBytes xs → AreBytes ys → AreBytes (xs ++ ys)
both [] ys a b = b
both (x ∷ xs) ys a b = one_more x (xs ++ ys) (a 0) (both xs ys (λ k. a (suc k)) b)

pub zeros : (n : ℕ) → AreBytes (replicate n 0)
zeros zero = nothing
zeros (suc n) = one_more 0 (replicate n 0) (omega arith) (zeros n)

joined : (parts : List (List ℕ)) → AllBytes parts → AreBytes (concat parts)
joined [] b = nothing
joined (part ∷ parts) b = both part (concat parts) b.0 (joined parts b.1)

byte_small : (i x : ℕ) → byte_at i x < 256
byte_small zero x = omega arith
byte_small (suc i) x = mod_small (x / 256 ^ suc i)
  where
    mod_small : (n : ℕ) → n % 256 < 256
    mod_small n = omega arith

pub low_bytes : (n i x : ℕ) → AreBytes (bytes_low_first i n x)
low_bytes zero i x = nothing
low_bytes (suc n) i x = one_more (byte_at i x) (bytes_low_first (suc i) n x) (byte_small i x) (low_bytes n (suc i) x)

fields_bytes : (row : List FileField) → AreBytes (spelled row)
fields_bytes [] = nothing
fields_bytes (field ∷ row) = both (little_bytes (bytes_in field.width) field.value) (spelled row) (low_bytes (bytes_in field.width) 0 field.value) (fields_bytes row)

names_bytes : (names : List (List ℕ)) → AllBytes names → AreBytes (ended names)
names_bytes [] b = nothing
names_bytes (name ∷ names) b = both name (0 ∷ ended names) b.0 (one_more 0 (ended names) (omega arith) (names_bytes names b.1))

-- ---- pages

pub put_bytes : (at : ℕ) (part page : List ℕ) → AreBytes part → AreBytes page → AreBytes (put_at at part page)
put_bytes at part page a b = both (take at page) (part ++ drop (at + length part) page) (IsBytes-take at page b) (both part (drop (at + length part) page) a (IsBytes-drop (at + length part) page b))

slots_bytes : (fixes : List Fix) (page : List ℕ) → AreBytes page → AreBytes (with_slots page fixes)
unfolding with_slots
slots_bytes [] page b = b
slots_bytes (fix ∷ fixes) page b = slots_bytes fixes (put_at fix.at (little_bytes 8 (word_of fix fixes)) page) (put_bytes fix.at (little_bytes 8 (word_of fix fixes)) page (low_bytes 8 0 (word_of fix fixes)) b)

pages_bytes : (i n : ℕ) (fixes : List Fix) (plain : List ℕ) → AreBytes plain → AreBytes (pages_of i n fixes plain)
pages_bytes i zero fixes plain b = nothing
pages_bytes i (suc n) fixes plain b =
    both (with_slots (take page_size plain) (page_slots i fixes)) (pages_of (i + 1) n (later_slots i fixes) (drop page_size plain))
    (slots_bytes (page_slots i fixes) (take page_size plain) (IsBytes-take page_size plain b))
    (pages_bytes (i + 1) n (later_slots i fixes) (drop page_size plain) (IsBytes-drop page_size plain b))

plain_bytes : (at : SlotsAt) (count : ℕ) (cells : List ℕ) → AreBytes cells → AreBytes (plain_of at count cells)
unfolding plain_of
plain_bytes at count cells b =
    let n = page_size * count - (cells_from at + at.cells) in
    both (replicate (cells_from at) 0) (cells ++ replicate n 0) (zeros (cells_from at)) (both cells (replicate n 0) b (zeros n))

-- ---- the front

command_bytes : (number size : ℕ) → AreBytes (spelled (four number ∷ four size ∷ []))
command_bytes number size = fields_bytes (four number ∷ four size ∷ [])

page_zero_bytes : (role : Role) (len : ℕ) → AreBytes (concat (page_zero_parts role len))
unfolding command
page_zero_bytes Main len = joined (page_zero_parts Main len) (command_bytes fields.bare_shape.number fields.bare_shape.size, (fields_bytes (fields.page_zero_of len), tt))
page_zero_bytes Library len = nothing

entry_bytes : (role : Role) → AreBytes (concat (entry_parts role))
unfolding command
entry_bytes Main = joined (entry_parts Main) (command_bytes fields.entry_shape.number fields.entry_shape.size, (fields_bytes fields.entry_command, tt))
entry_bytes Library = nothing

segments_bytes : (h : Header) (p : Places) → AreBytes (concat (segment_parts h p))
unfolding command
segments_bytes h p = joined (segment_parts h p) (
  command_bytes fields.text_shape.number fields.text_shape.size,
  (
    fields_bytes (fields.text_segment h p p.end),
    (
      fields_bytes (fields.text_section h),
      (
        fields_bytes (fields.stubs_section h p),
        (
          fields_bytes (fields.consts_section h p),
          (
            command_bytes fields.data_shape.number fields.data_shape.size,
            (
              fields_bytes (fields.data_segment h p p.end),
              (
                fields_bytes (fields.got_section h p),
                (
                  fields_bytes (fields.cells_section h p),
                  (command_bytes fields.bare_shape.number fields.bare_shape.size, (fields_bytes (fields.linkedit_segment h p p.end), (command_bytes fields.fixups_shape.number fields.fixups_shape.size, (fields_bytes (fields.fixups_command h p), (command_bytes fields.symbols_shape.number fields.symbols_shape.size, (fields_bytes (fields.symbols_command h p), tt)))))),
                ),
              ),
            ),
          ),
        ),
      ),
    ),
  ),
)

front_bytes : (h : Header) → AreBytes (front_of h)
unfolding front_of front_with command
front_bytes h =
    let p = places_of h in
    let role = h.role in
    let start = joined (start_parts role p.end) (fields_bytes (fields.start_of role), (fields_bytes (fields.counts_of role p.end), (fields_bytes (fields.flags_of role), tt))) in
    let library = joined (library_parts role) (command_bytes (fields.library_shape role).number (fields.library_shape role).size, (fields_bytes fields.library_command, (zeros (0x400 - fields.commands_end role), tt))) in
    both (concat (start_parts role p.end)) (concat (page_zero_parts role p.end) ++ (concat (segment_parts h p) ++ (concat (entry_parts role) ++ concat (library_parts role)))) start
    (both (concat (page_zero_parts role p.end)) (concat (segment_parts h p) ++ (concat (entry_parts role) ++ concat (library_parts role))) (page_zero_bytes role p.end)
    (both (concat (segment_parts h p)) (concat (entry_parts role) ++ concat (library_parts role)) (segments_bytes h p)
    (both (concat (entry_parts role)) (concat (library_parts role)) (entry_bytes role) library)))

-- ---- __LINKEDIT

fixups_are_bytes : (at : DataAt) (starts : List ℕ) (imports : List (List ℕ)) → AllBytes imports → AreBytes (fixups_bytes at (fixups_with starts imports))
unfolding fixups_bytes
fixups_are_bytes at starts imports b = joined
    (spelled (fixups_header at (length imports)) ∷ spelled (segments_of at) ∷ spelled (pages_fields at) ∷ spelled (map two starts) ∷ replicate (imports_at at - starts_end at) 0 ∷ spelled (entries 1 imports) ∷ (0 ∷ []) ∷ ended imports ∷ [])
    (fields_bytes (fixups_header at (length imports)), (fields_bytes (segments_of at), (fields_bytes (pages_fields at), (fields_bytes (map two starts), (zeros (imports_at at - starts_end at), (fields_bytes (entries 1 imports), (one_more 0 [] (omega arith) nothing, (names_bytes imports b, tt))))))))

-- ---- all

with_bytes : (image : Image) (h : Header) (p : Places) → BesideBytes image → AreBytes image.cells → AreBytes (bytes_with image h p (pages_with image h p) (starts_with image p))
with_bytes image h p b cells =
    let at = slots_at h p (length image.imports) in
    let count = page_count p in
    let starts = starts_with image p in
    let pages = pages_with image h p in
    let text = joined (text_parts image p) (fields_bytes (map four image.text), (zeros (p.stubs - p.text_end), (fields_bytes (map four image.stubs), (zeros (p.consts - p.stubs_end), (b.consts, (zeros (p.got - p.consts_end), tt)))))) in
    let strings = one_more 0 (ended (names_of image.marks)) (omega arith) (names_bytes (names_of image.marks) b.marks) in
    let linkedit = joined (linkedit_parts image h p starts) (fixups_are_bytes (data_at h.role p) starts image.imports b.imports, (zeros (p.symbols - p.fixups_end), (fields_bytes (symbol_entries 1 (text_at h).address image.marks), (zeros (p.strings - p.symbols_end), (strings, tt))))) in
    both (front_of h) (concat (text_parts image p) ++ (pages ++ concat (linkedit_parts image h p starts))) (front_bytes h)
    (both (concat (text_parts image p)) (pages ++ concat (linkedit_parts image h p starts)) text
    (both pages (concat (linkedit_parts image h p starts)) (pages_bytes 0 count image.fixes (plain_of at count image.cells) (plain_bytes at count image.cells cells)) linkedit))

pub bytes_are_bytes : (image : Image) → BesideBytes image → AreBytes image.cells → AreBytes (bytes_of image)
unfolding bytes_of
bytes_are_bytes image b cells = with_bytes image (header_of image) (places_of (header_of image)) b cells
