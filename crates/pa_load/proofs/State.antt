-- A loaded state begins a run: its memory is of bytes, its numbers are of 64 bits, its log is known and comes first, and what
-- may be read and written is there.
use Rattle.std.proofs.Common.{◌≡◌, ℕ, ◌+◌, ◌-◌, ◌*◌, ◌^◌, ◌≤◌, ◌<◌, true, List, [], ◌∷◌, ◌++◌, length, get_or, replicate, refl, sym, ap, subst, ◌∙◌, arith, Some}
use Rattle.std.proofs.lemmas.List.{get_or-replicate}
use Rattle.byteorder.specs.Endian.{little_bytes}
use Rattle.pa_pac.specs.Log.{is_known}
use Rattle.pa_pac.specs.Schema.{modifier}
use Rattle.pa_pac.specs.Signing.{Code}
use Rattle.pa_macho.specs.declared.header.Role.{Role}
use Rattle.pa_macho.specs.Layout.{base_of, places_of}
use Rattle.pa_macho.proofs.Facts.{spans}
use Rattle.pa_fixups.specs.declared.kind.Fix.{Fix}
use Rattle.pa_fixups.specs.declared.kind.Sig.{Sig}
use Rattle.pa_mem.specs.Memory.{Region, Right, Read, has, allowed, byte_at, AreBytes, IsBytes, region_of}
use Rattle.pa_object.specs.Marked.{IsMarked}
use Rattle.pa_object.specs.Shape.{all_known}
use Rattle.pa_object.specs.Widths.{HasWidths}
use Rattle.pa_object.proofs.Watching.{Watches}
use Rattle.pa_object.proofs.Fetched.{Separate}
use Rattle.pa_image.specs.declared.image.Image.{Image}
use Rattle.pa_image.specs.Bytes.{header_of, part}
use Rattle.pa_image.specs.Places.{base_at, mapped, text_base, Mapped}
use Rattle.pa_image.specs.Writing.{IsLegal, bytes_of}
use Rattle.pa_image.proofs.Cut.{IsBytes-part}
use Rattle.pa_image.proofs.Laws.{legal_stands}
use Rattle.pa_image.proofs.Numbers.{both, zeros, low_bytes, put_bytes, bytes_are_bytes}
use Rattle.pa_load.specs.Filling.{Filling, pointer, sig_of, slot_address, slot_value, filled, filling_log}
use Rattle.pa_load.specs.Loaded.{State, IsLoaded, begun_in, filling, stack, stack_base, stack_size, blank, text_rights, data_rights, padded, image_regions, loaded}
use Rattle.pa_load.proofs.Contents.{byte_here}
use Rattle.pa_load.proofs.Known.{slot_known, signs_known, signs_marked, signs_before}
use Rattle.pa_load.proofs.Laws.{AreLoadable, apart, written_or_run, bases, contents_of, length-contents_of, memory_apart, memory_of_state, main_text, main_data, the_stack, signs_of_loading}
use Rattle.pa_load.proofs.Regions.{allowed_here}
use Rattle.pa_load.proofs.Whole.{others_are, length-blank, sized}

-- ---- memory is of bytes

IsBytes-append : (one two : List Region) → IsBytes one → IsBytes two → IsBytes (one ++ two)
IsBytes-append [] two a b = b
IsBytes-append (region ∷ one) two a b = (a.0, IsBytes-append one two a.1 b)

filled_bytes : (code : Code) (f : Filling) (fixes : List Fix) (bytes : List ℕ) → AreBytes bytes → AreBytes (filled code f fixes bytes)
unfolding filled
filled_bytes code f [] bytes b = b
filled_bytes code f (fix ∷ fixes) bytes b =
    filled_bytes code f fixes _ (put_bytes fix.at (little_bytes 8 (slot_value code f fix)) bytes (low_bytes 8 0 (slot_value code f fix)) b)

image_bytes : (m : Mapped) (fill : List ℕ → List ℕ) → IsLegal m.image → ((bytes : List ℕ) → AreBytes bytes → AreBytes (fill bytes)) → IsBytes (image_regions m fill)
image_bytes m fill legal keeps =
    let p = places_of (header_of m.image) in
    let bytes = bytes_of m.image in
    let b = bytes_are_bytes m.image legal.beside legal.words.cells in
    let last = IsBytes-part p.linkedit p.end bytes b in
    (IsBytes-part 0 p.got bytes b, (keeps (part p.got p.linkedit bytes) (IsBytes-part p.got p.linkedit bytes b), (both (part p.linkedit p.end bytes) _ last (zeros _), tt)))

blank_bytes : (n : ℕ) → AreBytes (blank n)
unfolding blank
blank_bytes n = zeros n

loaded_bytes : (code : Code) (main runtime : Image) (slide : ℕ) → AreLoadable main runtime → IsBytes (loaded code main runtime slide).memory
unfolding loaded
loaded_bytes code main runtime slide l =
    IsBytes-append (image_regions (mapped main slide) (filled code (filling main runtime slide) main.fixes)) (stack ∷ image_regions (mapped runtime 0) (λ contents. contents))
    (image_bytes (mapped main slide) (filled code (filling main runtime slide) main.fixes) l.main_legal (λ bytes b. filled_bytes code (filling main runtime slide) main.fixes bytes b))
    (blank_bytes stack_size, image_bytes (mapped runtime 0) (λ contents. contents) l.runtime_legal (λ bytes b. b))

blank_zero : (n k : ℕ) → k < n → get_or (blank n) k 0 ≡ 0
unfolding blank
blank_zero n k lt = get_or-replicate n k 0 0 lt

module _ (code : Code) (main runtime : Image) (slide : ℕ) (state : State) (l : AreLoadable main runtime) (i : IsLoaded code main runtime slide state) where
  abbrev memory : List Region
  memory = (loaded code main runtime slide).memory

  same : state.memory ≡ memory
  same = memory_of_state code main runtime slide state i

  pub memory_bytes : IsBytes state.memory
  memory_bytes = subst IsBytes (sym same) (loaded_bytes code main runtime slide l)

  -- no region overlaps another, and none is both written and run
  pub memory_separate : Separate state.memory
  memory_separate = record { apart = apart code main runtime slide state l i; exclusive = written_or_run code main runtime slide state i }

  -- ---- what may be read and written

  -- all of __DATA
  pub data_allowed : (right : Right) (at n : ℕ) → has right (region_of 0 [] data_rights) ≡ true → base_at main.role slide + (places_of (header_of main)).got ≤ at
      → at + n ≤ base_at main.role slide + (places_of (header_of main)).linkedit → allowed right state.memory at n ≡ true
  data_allowed right at n may low high =
      let p = places_of (header_of main) in
      let z = sized main l.main_legal in
      let o = z.order in
      let len = length-contents_of code main runtime slide state l i in
      let region = region_of (base_at main.role slide + p.got) (contents_of code main runtime slide) data_rights in
      ap (λ (m : List Region). allowed right m at n) same
      ∙ allowed_here right memory 1 region at n (main_data code main runtime slide) low (omega arith) (granted right may)
    where
      granted : (right : Right) → has right (region_of 0 [] data_rights) ≡ true → has right (region_of (base_at main.role slide + (places_of (header_of main)).got) (contents_of code main runtime slide) data_rights) ≡ true
      granted Right.Read may = refl
      granted Right.Write may = refl
      granted Right.Run may = cc

  -- all of __TEXT may be read, and with it __const
  pub text_readable : (at n : ℕ) → base_at main.role slide ≤ at → at + n ≤ base_at main.role slide + (places_of (header_of main)).got → allowed Read state.memory at n ≡ true
  text_readable at n low high =
      let p = places_of (header_of main) in
      let z = sized main l.main_legal in
      let size : length (part 0 p.got (bytes_of main)) ≡ p.got = z.text in
      ap (λ (m : List Region). allowed Read m at n) same
      ∙ allowed_here Read memory 0 (region_of (base_at main.role slide) (part 0 p.got (bytes_of main)) text_rights) at n (main_text code main runtime slide) low (omega arith) refl

  -- ---- the stack

  -- it is of zeros
  pub stack_zero : (k : ℕ) → k < stack_size → byte_at state.memory (stack_base + k) ≡ 0
  stack_zero k lt =
      let size = length-blank stack_size in
      ap (λ (m : List Region). byte_at m (stack_base + k)) same
      ∙ byte_here memory 3 stack (stack_base + k) k (the_stack code main runtime slide) (memory_apart code main runtime slide state l i) refl (omega arith)
      ∙ blank_zero stack_size k lt

  -- ---- the log

  log_is : state.log ≡ filling_log code (filling main runtime slide) main.fixes
  log_is = ap (λ (s : State). s.log) i.state_is ∙ (others_are code main runtime slide).0

  -- a slot with a schema is known
  pub fix_known : (before : List Fix) (fix : Fix) (behind : List Fix) (sig : Sig) → main.fixes ≡ before ++ fix ∷ behind → sig_of fix.kind ≡ Some sig
      → is_known state.log sig.key (modifier sig.addr sig.disc (slot_address (filling main runtime slide) fix)) (pointer (filling main runtime slide) fix.kind) ≡ true
  fix_known before fix behind sig split e =
      let f = filling main runtime slide in
      let m = modifier sig.addr sig.disc (slot_address f fix) in
      ap (λ log. is_known log sig.key m (pointer f fix.kind)) (log_is ∙ ap (filling_log code f) split) ∙ slot_known code f before fix behind sig e

  -- no authentication is in the log
  pub log_known : all_known state.log ≡ true
  log_known = signs_known state.log (signs_of_loading code main runtime slide state l i)

  pub log_marked : IsMarked state.log
  log_marked = signs_marked state.log (signs_of_loading code main runtime slide state l i)

  -- ---- the first machine

  pub begun_watches : (input : List ℕ) → Watches (record { machine = begun_in state input; trail = [] })
  begun_watches input = record { counted = refl; before = signs_before 0 state.log (signs_of_loading code main runtime slide state l i) }

  -- where the input is of bytes its numbers have their widths
  pub begun_widths : (input : List ℕ) → AreBytes input → HasWidths (begun_in state input)
  begun_widths input b =
      let o = others_are code main runtime slide in
      let pc : state.pc ≡ text_base (base_at main.role slide) = ap (λ (s : State). s.pc) i.state_is ∙ o.1 in
      let sp : state.sp ≡ stack_base + stack_size = ap (λ (s : State). s.sp) i.state_is ∙ o.2 in
      let base = (bases code main runtime slide state i).main_base in
      let fits = i.slide_fits in
      record { registers = λ k. zero_registers 31 k; sp = omega arith; pc = omega arith; memory = memory_bytes; input = b }
    where
      zero_registers : (n k : ℕ) → get_or (replicate n 0) k 0 < 2 ^ 64
      zero_registers n k = let small = zeros n k in omega arith
