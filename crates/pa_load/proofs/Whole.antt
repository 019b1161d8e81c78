-- The whole state, from its parts.
use Rattle.std.proofs.Common.{◌≡◌, true, ℕ, ◌+◌, ◌-◌, ◌*◌, ◌^◌, ◌≤◌, ◌<◌, List, [], ◌∷◌, ◌++◌, length, replicate, refl, sym, ap, subst, ◌∙◌, append_assoc, arith}
use Rattle.std.proofs.lemmas.List.{length-append, length-replicate}
use Rattle.pa_pac.specs.Log.{Log}
use Rattle.pa_pac.specs.Signing.{Code}
use Rattle.pa_macho.specs.declared.header.Role.{Role}
use Rattle.pa_macho.specs.declared.header.Role.TheVariants.{Main, Library}
use Rattle.pa_macho.specs.declared.places.Places.{Places}
use Rattle.pa_macho.specs.Layout.{Ordered, base_of, places_of, up}
use Rattle.pa_macho.proofs.Laws.{header_ends}
use Rattle.pa_mem.specs.Memory.{Region, write_xor_run}
use Rattle.pa_image.specs.declared.image.Image.{Image}
use Rattle.pa_image.specs.Bytes.{header_of, part}
use Rattle.pa_image.specs.Places.{base_at, text_base}
use Rattle.pa_image.specs.Writing.{IsLegal, bytes_of}
use Rattle.pa_image.proofs.Cut.{length-part}
use Rattle.pa_image.proofs.Laws.{legal_stands, ordered}
use Rattle.pa_load.specs.declared.segments.Segments.{Segments}
use Rattle.pa_load.specs.Filling.{Filling, filling_log}
use Rattle.pa_load.specs.Loaded.{State, import_addresses, filling, blank, stack_base, stack_size, stack, padded, segments, loaded}
use Rattle.pa_load.specs.Mapping.{AllBelow, segments_of, program_of, Fits, memory_of}
use Rattle.pa_load.proofs.Filled.{Spaced, length-filled}
use Rattle.pa_load.proofs.Regions.{below_added, below_more}

-- ---- lengths

pub length-blank : (n : ℕ) → length (blank n) ≡ n
unfolding blank
length-blank n = length-replicate {A = ℕ} n 0

pub length-padded : (bytes : List ℕ) → (length bytes ≤ length (padded bytes)) × (length (padded bytes) < length bytes + 0x4000)
length-padded bytes =
    let n = length bytes in
    let e = length-append bytes (replicate (up 0x4000 n - n) 0) in
    let r = length-replicate {A = ℕ} (up 0x4000 n - n) 0 in
    (omega arith, omega arith)

pub length-bytes_of : (image : Image) → IsLegal image → length (bytes_of image) ≡ (places_of (header_of image)).end
length-bytes_of image legal = header_ends (header_of image) (bytes_of image) (legal_stands image legal).header

-- the segments of a file and where they end
pub record Sized (p : Places) (file : Segments) : Type 0 where
  pub order : Ordered p
  pub text : length file.text ≡ p.got
  pub contents : length file.contents ≡ p.linkedit - p.got
  pub linkedit : length file.linkedit < (p.end - p.linkedit) + 0x4000

minus_zero : (n : ℕ) → n - 0 ≡ n
minus_zero n = omega arith

pub sized : (image : Image) → IsLegal image → Sized (places_of (header_of image)) (segments_of (places_of (header_of image)) (bytes_of image))
sized image legal =
    let p = places_of (header_of image) in
    let bytes = bytes_of image in
    let o = ordered (header_of image) legal.header in
    let len = length-bytes_of image legal in
    let last = length-part p.linkedit p.end bytes (omega arith) (omega arith) in
    let pad = length-padded (part p.linkedit p.end bytes) in
    let high = pad.1 in
    record {
      order = o;
      text = length-part 0 p.got bytes (omega arith) (omega arith) ∙ minus_zero p.got;
      contents = length-part p.got p.linkedit bytes (omega arith) (omega arith);
      linkedit = omega arith;
    }

pub length-contents : (main : Image) (p : Places) → p ≡ places_of (header_of main) → IsLegal main → length (segments_of p (bytes_of main)).contents ≡ p.linkedit - p.got
length-contents main p e legal = (subst (λ (q : Places). Sized q (segments_of q (bytes_of main))) (sym e) (sized main legal)).contents

pub program_fits : (code : Code) (f : Filling) (main : Image) (p : Places) (base : ℕ) → p ≡ places_of (header_of main) → IsLegal main → p.end < 2 ^ 40 → base < 2 ^ 40 → Spaced 0 (p.linkedit - p.got) main.fixes → Fits base p (program_of code f main p)
program_fits code f main p base e legal small low spaced =
    let z = subst (λ (q : Places). Sized q (segments_of q (bytes_of main))) (sym e) (sized main legal) in
    let file = segments_of p (bytes_of main) in
    let contents = z.contents in
    let same = length-filled code f main.fixes file.contents 0 (subst (λ (n : ℕ). Spaced 0 n main.fixes) (sym contents) spaced) in
    let o = z.order in
    let text = z.text in
    let linkedit = z.linkedit in
    record {
      order = o;
      small = omega arith;
      text = omega arith;
      contents = omega arith;
      linkedit = omega arith;
    }

-- ---- memory

pub below_segments : (base : ℕ) (p : Places) (s : Segments) (old new : List Region) → new ≡ old ++ segments base p s.text s.contents s.linkedit → AllBelow base old → Fits base p s → AllBelow (base + p.end + 0x4000) new
below_segments base p s old new e b f =
    subst (AllBelow (base + p.end + 0x4000)) (sym e) (go old (below_more base (base + p.end + 0x4000) old (omega arith) b))
  where
    ends : AllBelow (base + p.end + 0x4000) (segments base p s.text s.contents s.linkedit)
    ends =
        let o = f.order in
        let t = f.text in
        let c = f.contents in
        let l = f.linkedit in
        (omega arith, (omega arith, (omega arith, tt)))

    go : (rs : List Region) → AllBelow (base + p.end + 0x4000) rs → AllBelow (base + p.end + 0x4000) (rs ++ segments base p s.text s.contents s.linkedit)
    go [] b = ends
    go (r ∷ rs) b = (b.0, go rs b.1)

pub below_stack : (old new : List Region) → new ≡ old ++ stack ∷ [] → AllBelow stack_base old → AllBelow (base_of Library) new
below_stack old new e b = let l = length-blank stack_size in below_added stack_base (base_of Library) old new stack e b (omega arith) (omega arith)

memory_joined : (first last s0 s1 s2 s3 : List Region) (mid : Region) → s0 ≡ [] → s1 ≡ s0 ++ first → s2 ≡ s1 ++ mid ∷ [] → s3 ≡ s2 ++ last → s3 ≡ first ++ mid ∷ last
memory_joined first last s0 s1 s2 s3 mid a b c d = rw (d, c, b, a) (append_assoc first (mid ∷ []) last)

pub memory_made : (base : ℕ) (p : Places) (program library : Segments) (runtime : Image) (at : ℕ) (q : Places) (s0 s1 s2 s3 : List Region) → s0 ≡ [] → s1 ≡ s0 ++ segments base p program.text program.contents program.linkedit → s2 ≡ s1 ++ stack ∷ []
    → s3 ≡ s2 ++ segments at q library.text library.contents library.linkedit → at ≡ base_of Library → q ≡ places_of (header_of runtime) → library ≡ segments_of q (bytes_of runtime) → s3 ≡ memory_of base p program runtime
memory_made base p program library runtime at q s0 s1 s2 s3 a b c d e f g =
    let first = segments base p program.text program.contents program.linkedit in
    let made = memory_joined first (segments at q library.text library.contents library.linkedit) s0 s1 s2 s3 stack a b c d in
    made
    ∙ ap (λ (l : Segments). first ++ stack ∷ segments at q l.text l.contents l.linkedit) g
    ∙ ap (λ (x : Places). first ++ stack ∷ segments at x (segments_of x (bytes_of runtime)).text (segments_of x (bytes_of runtime)).contents (segments_of x (bytes_of runtime)).linkedit) f
    ∙ ap (λ (n : ℕ). let x = places_of (header_of runtime) in first ++ stack ∷ segments n x (segments_of x (bytes_of runtime)).text (segments_of x (bytes_of runtime)).contents (segments_of x (bytes_of runtime)).linkedit) e

-- no segment is both written and run
pub write_xor_run-memory : (base : ℕ) (p : Places) (program : Segments) (runtime : Image) → write_xor_run (memory_of base p program runtime) ≡ true
unfolding write_xor_run
write_xor_run-memory base p program runtime = refl

-- ---- the state

abbrev state_with : List Region → Log → ℕ → ℕ → State
state_with memory log pc sp = record { memory = memory; log = log; pc = pc; sp = sp }

states_are : (m1 m2 : List Region) (l1 l2 : Log) (p1 p2 s1 s2 : ℕ) → m1 ≡ m2 → l1 ≡ l2 → p1 ≡ p2 → s1 ≡ s2 → state_with m1 l1 p1 s1 ≡ state_with m2 l2 p2 s2
states_are m1 m2 l1 l2 p1 p2 s1 s2 a b c d = cc

base_library : (runtime : Image) → runtime.role ≡ Library → base_of Library ≡ base_at runtime.role 0
base_library runtime e = sym (ap (λ (r : Role). base_at r 0) e)

pub memory_is : (code : Code) (main runtime : Image) (slide : ℕ) → runtime.role ≡ Library
    → memory_of (base_at main.role slide) (places_of (header_of main)) (program_of code (filling main runtime slide) main (places_of (header_of main))) runtime ≡ (loaded code main runtime slide).memory
unfolding loaded
memory_is code main runtime slide e =
    let p = places_of (header_of main) in
    let program = program_of code (filling main runtime slide) main p in
    ap (λ (n : ℕ). let x = places_of (header_of runtime) in segments (base_at main.role slide) p program.text program.contents program.linkedit ++ stack ∷ segments n x (segments_of x (bytes_of runtime)).text (segments_of x (bytes_of runtime)).contents (segments_of x (bytes_of runtime)).linkedit) (base_library runtime e)

pub others_are : (code : Code) (main runtime : Image) (slide : ℕ) → ((loaded code main runtime slide).log ≡ filling_log code (filling main runtime slide) main.fixes) × ((loaded code main runtime slide).pc ≡ text_base (base_at main.role slide)) × ((loaded code main runtime slide).sp ≡ stack_base + stack_size)
unfolding loaded
others_are code main runtime slide = (refl, refl, refl)

whole : (code : Code) (main runtime : Image) (slide : ℕ) → state_with (loaded code main runtime slide).memory (loaded code main runtime slide).log (loaded code main runtime slide).pc (loaded code main runtime slide).sp ≡ loaded code main runtime slide
whole code main runtime slide = refl

pub state_made : (code : Code) (main runtime : Image) (slide : ℕ) (f : Filling) (p : Places) (program : Segments) (memory : List Region) (log : Log) (pc sp : ℕ) → runtime.role ≡ Library → f ≡ filling main runtime slide → p ≡ places_of (header_of main)
    → program ≡ program_of code f main p → memory ≡ memory_of f.base p program runtime → log ≡ filling_log code f main.fixes → pc ≡ text_base f.base → sp ≡ stack_base + stack_size → state_with memory log pc sp ≡ loaded code main runtime slide
state_made code main runtime slide f p program memory log pc sp role ef ep eprogram ememory elog epc esp =
    let g = filling main runtime slide in
    let q = places_of (header_of main) in
    let o = others_are code main runtime slide in
    let m1 = ap (λ (s : Segments). memory_of f.base p s runtime) eprogram in
    let m2 = ap (λ (x : Places). memory_of f.base x (program_of code f main x) runtime) ep in
    let m3 = ap (λ (x : Filling). memory_of x.base q (program_of code x main q) runtime) ef in
    states_are memory _ log _ pc _ sp _ (ememory ∙ m1 ∙ m2 ∙ m3 ∙ memory_is code main runtime slide role)
    (elog ∙ ap (λ (x : Filling). filling_log code x main.fixes) ef ∙ sym o.0) (epc ∙ ap (λ (x : Filling). text_base x.base) ef ∙ sym o.1) (esp ∙ sym o.2)
    ∙ whole code main runtime slide

-- what slots are filled from
filling_with : ℕ → ℕ → ℕ → List ℕ → Filling
filling_with shift base slots imports = record { shift = shift; base = base; slots_base = slots; imports = imports }

pub placed_is : (main runtime : Image) (slide shift base slots : ℕ) (imports : List ℕ) (p : Places) → main.role ≡ Main → p ≡ places_of (header_of main) → shift ≡ 0x4000 * slide → base ≡ base_of main.role + shift → slots ≡ base + p.got → imports ≡ import_addresses main runtime
    → record { shift = shift; base = base; slots_base = slots; imports = imports } ≡ filling main runtime slide
placed_is main runtime slide shift base slots imports p role ep es eb el ei =
    let b : base ≡ base_at main.role slide = eb ∙ ap (λ (n : ℕ). base_of main.role + n) es in
    let g : slots ≡ base_at main.role slide + (places_of (header_of main)).got = el ∙ ap (λ (n : ℕ). n + p.got) b ∙ ap (λ (q : Places). base_at main.role slide + q.got) ep in
    cc
