-- The bytes that are written stand for the image.
use Rattle.std.proofs.Common.{◌≡◌, ℕ, suc, ◌+◌, ◌-◌, ◌*◌, ◌≤◌, ◌<◌, ◌^◌, List, [], ◌∷◌, ◌++◌, length, map, get_or, replicate, refl, sym, ap, subst, ◌∙◌, append_assoc, arith}
use Rattle.std.specs.List.{concat}
use Rattle.std.proofs.Math.Nat.{min-eq_right}
use Rattle.std.proofs.lemmas.List.{length-replicate, append-nil}
use Rattle.pa_layout.specs.Fields.{four, two, IsAt, AllFit}
use Rattle.pa_layout.specs.Names.{ended}
use Rattle.pa_layout.specs.Flaws.{AllMet}
use Rattle.pa_layout.proofs.Laws.{IsAt-itself, IsAt-within}
use Rattle.pa_layout.proofs.Pieces.{Piece, piece, Chained, joined, pieces-apart, length-joined}
use Rattle.pa_macho.specs.declared.header.Header.{Header}
use Rattle.pa_macho.specs.declared.places.Places.{Places}
use Rattle.pa_macho.specs.Layout.{places_of, page_count, padding_low, padding_high, commands_end, up}
use Rattle.pa_macho.specs.Reading.{gap_checks}
use Rattle.pa_macho.specs.Writing.{HeaderFits, front_of}
use Rattle.pa_macho.proofs.Facts.{spans}
use Rattle.pa_macho.proofs.Front.{front_zeros, front_enough, length-front}
use Rattle.pa_fixups.specs.declared.tables.DataAt.{DataAt}
use Rattle.pa_fixups.specs.declared.kind.Fix.{Fix}
use Rattle.pa_fixups.specs.Fixups.{pages_of, starts_end, imports_at, fixups_bytes, fixups_with, FixupsFit}
use Rattle.pa_fixups.proofs.Whole.{length-fixups, padding_zeros, imports_and_starts}
use Rattle.pa_fixups.proofs.Fitting.{count_fits}
use Rattle.pa_slots.specs.declared.slots.SlotsAt.{SlotsAt}
use Rattle.pa_slots.specs.Pages.{page_size, cells_from}
use Rattle.pa_slots.specs.Writing.{SlotsFit}
use Rattle.pa_slots.specs.Slots.{slots_with, AreSlots}
use Rattle.pa_slots.proofs.Beside.{gap_zeros, end_zeros}
use Rattle.pa_symbols.specs.Symbols.{names_of, symbols_of, strings_of}
use Rattle.pa_image.specs.declared.image.Image.{Image}
use Rattle.pa_image.specs.Bytes.{data_at, fixups_size, sections_of, header_of, slots_at, text_at, words_bytes, IsImage}
use Rattle.pa_image.specs.Writing.{PartsFit, IsLegal, gap, text_parts, linkedit_parts, bytes_with}
use Rattle.pa_image.proofs.Cut.{part_is}
use Rattle.pa_image.proofs.Header.{pages_whole, cells_place, sections_same, data_same, length-symbols}
use Rattle.pa_image.proofs.Words.{length-words}
use Rattle.pa_image.proofs.Small.{fits_end}

abbrev pub pieces : Image → Header → Places → (slots starts : List ℕ) → List Piece
pieces image h p slots starts =
    piece 0 (front_of h) ∷ piece 0x400 (words_bytes image.text) ∷ piece p.text_end (gap p.text_end p.stubs) ∷ piece p.stubs (words_bytes image.stubs) ∷ piece p.stubs_end (gap p.stubs_end p.consts)
    ∷ piece p.consts image.consts ∷ piece p.consts_end (gap p.consts_end p.got) ∷ piece p.got slots ∷ piece p.linkedit (fixups_bytes (data_at h.role p) (fixups_with starts image.imports))
    ∷ piece p.fixups_end (gap p.fixups_end p.symbols) ∷ piece p.symbols (symbols_of (text_at h) image.marks) ∷ piece p.symbols_end (gap p.symbols_end p.strings) ∷ piece p.strings (strings_of image.marks) ∷ []

concat_put : (a b c d e f rest : List ℕ) → a ++ (b ++ (c ++ (d ++ (e ++ (f ++ rest))))) ≡ concat (a ∷ b ∷ c ∷ d ∷ e ∷ f ∷ []) ++ rest
concat_put a b c d e f rest = simp (append_assoc, append-nil)

pub bytes_joined : (image : Image) (h : Header) (p : Places) (slots starts : List ℕ) → joined (pieces image h p slots starts) ≡ bytes_with image h p slots starts
bytes_joined image h p slots starts =
    ap (λ (l : List ℕ). front_of h ++ l) (concat_put (words_bytes image.text) (gap p.text_end p.stubs) (words_bytes image.stubs) (gap p.stubs_end p.consts) image.consts (gap p.consts_end p.got) (slots ++ concat (linkedit_parts image h p starts)))

-- the sizes of the parts are those of the header
pub record Sized (image : Image) (h : Header) (p : Places) (slots starts : List ℕ) : Type 0 where
  pub text : h.text ≡ 4 * length image.text
  pub stubs : h.stubs ≡ 4 * length image.stubs
  pub consts : h.consts ≡ length image.consts
  pub slots_size : length slots ≡ p.linkedit - p.got
  pub fixups : h.fixups ≡ length (fixups_bytes (data_at h.role p) (fixups_with starts image.imports))
  pub symbols : h.symbols ≡ 16 * length image.marks
  pub strings : h.strings ≡ 1 + length (ended (names_of image.marks))

length-gap : (low high : ℕ) → length (gap low high) ≡ high - low
length-gap low high = length-replicate {A = ℕ} (high - low) 0

pub chained : (image : Image) (h : Header) (slots starts : List ℕ) → Sized image h (places_of h) slots starts → Chained 0 (pieces image h (places_of h) slots starts) (places_of h).end
chained image h slots starts z =
    let p = places_of h in
    let s = spans h in
    let a = length-front h in
    let b = length-words image.text in
    let c = length-gap p.text_end p.stubs in
    let d = length-words image.stubs in
    let e = length-gap p.stubs_end p.consts in
    let f = length-gap p.consts_end p.got in
    let g = length-gap p.fixups_end p.symbols in
    let k = length-symbols (text_at h) image.marks in
    let l = length-gap p.symbols_end p.strings in
    (refl, (omega arith, (omega arith, (omega arith, (omega arith, (omega arith, (omega arith, (omega arith, (omega arith, (omega arith, (omega arith, (omega arith, (omega arith, omega arith)))))))))))))

data_pages : (image : Image) → data_at image.role (places_of (sections_of image)) ≡ data_at (header_of image).role (places_of (header_of image))
unfolding header_of
data_pages image =
    let same = sections_same (sections_of image) (header_of image) refl refl refl refl refl in
    data_same image.role image.role (places_of (sections_of image)) (places_of (header_of image)) refl same.0 same.1

header_fixups : (image : Image) → (header_of image).fixups ≡ fixups_size (data_at image.role (places_of (sections_of image))) image.imports
unfolding header_of
header_fixups image = refl

header_others : (image : Image) → ((header_of image).text ≡ 4 * length image.text) × ((header_of image).stubs ≡ 4 * length image.stubs) × ((header_of image).consts ≡ length image.consts) × ((header_of image).symbols ≡ 16 * length image.marks) × ((header_of image).strings ≡ 1 + length (ended (names_of image.marks)))
unfolding header_of
header_others image = (refl, refl, refl, refl, refl)

pub sized : (image : Image) (slots starts : List ℕ) → length slots ≡ page_size * page_count (places_of (header_of image)) → length starts ≡ page_count (places_of (header_of image)) → Sized image (header_of image) (places_of (header_of image)) slots starts
sized image slots starts ls lt =
    let h = header_of image in
    let p = places_of h in
    let o = header_others image in
    let w = pages_whole h in
    let l = length-fixups (data_at h.role p) (fixups_with starts image.imports) lt in
    record {
      text = o.0;
      stubs = o.1;
      consts = o.2;
      slots_size = omega arith;
      fixups = header_fixups image ∙ ap (λ (d : DataAt). fixups_size d image.imports) (data_pages image) ∙ sym l;
      symbols = o.3;
      strings = o.4;
    }

padding_is : (h : Header) (p : Places) → p.linkedit + up 4 (78 + 2 * page_count p) ≤ p.fixups_end → (padding_low p ≡ p.linkedit + (78 + 2 * page_count p)) × (padding_high p ≡ p.linkedit + up 4 (78 + 2 * page_count p))
padding_is h p le = (min-eq_right (omega arith), min-eq_right le)

moved_zeros : (bytes : List ℕ) (low low' n n' : ℕ) → low ≡ low' → n ≡ n' → IsAt bytes low (replicate n 0) → IsAt bytes low' (replicate n' 0)
moved_zeros bytes low low' n n' e f i = subst (λ (k : ℕ). IsAt bytes k (replicate n' 0)) e (subst (λ (k : ℕ). IsAt bytes low (replicate k 0)) f i)

gaps_met : (h : Header) (p : Places) (bytes : List ℕ) → IsAt bytes (commands_end h.role) (gap (commands_end h.role) 0x400) → IsAt bytes p.text_end (gap p.text_end p.stubs) → IsAt bytes p.stubs_end (gap p.stubs_end p.consts) → IsAt bytes p.consts_end (gap p.consts_end p.got)
    → IsAt bytes p.got_end (gap p.got_end p.cells) → IsAt bytes p.cells_end (gap p.cells_end p.linkedit) → IsAt bytes (padding_low p) (gap (padding_low p) (padding_high p)) → IsAt bytes p.fixups_end (gap p.fixups_end p.symbols) → IsAt bytes p.symbols_end (gap p.symbols_end p.strings)
    → AllMet bytes (gap_checks h.role p)
unfolding gap_checks
gaps_met h p bytes a b c d e f g k l = (a, (b, (c, (d, (e, (f, (g, (k, (l, tt)))))))))

role_same : (image : Image) → image.role ≡ (header_of image).role
unfolding header_of
role_same image = refl

got_same : (image : Image) → image.got ≡ (header_of image).got
unfolding header_of
got_same image = refl

pub image_made : (image : Image) (slots starts bytes : List ℕ) → IsLegal image → length slots ≡ page_size * page_count (places_of (header_of image)) → length starts ≡ page_count (places_of (header_of image)) → AllFit (map two starts)
    → AreSlots (slots_at (header_of image) (places_of (header_of image)) (length image.imports)) starts (slots_with image.cells image.fixes) slots → bytes ≡ bytes_with image (header_of image) (places_of (header_of image)) slots starts → IsImage image bytes
image_made image slots starts bytes legal ls lt fits held e =
    let h = header_of image in
    let p = places_of h in
    let s = spans h in
    let z = sized image slots starts ls lt in
    let c = chained image h slots starts z in
    let here : IsAt bytes 0 (joined (pieces image h p slots starts)) = subst (IsAt bytes 0) (e ∙ sym (bytes_joined image h p slots starts)) (IsAt-itself bytes) in
    let a = pieces-apart bytes 0 (pieces image h p slots starts) p.end c here in
    let whole : bytes ≡ joined (pieces image h p slots starts) = e ∙ sym (bytes_joined image h p slots starts) in
    let lj = length-joined 0 (pieces image h p slots starts) p.end c in
    let len : length bytes ≡ p.end = ap length whole ∙ (let f : length (joined (pieces image h p slots starts)) ≡ p.end = omega arith in f) in
    let at = slots_at h p (length image.imports) in
    let w = pages_whole h in
    let cp = cells_place h in
    let zt = z.text in
    let zf = z.fixups in
    let zs = z.symbols in
    let ze = z.strings in
    let front = a.0 in
    let here_slots = a.1.1.1.1.1.1.1.0 in
    let fixups = a.1.1.1.1.1.1.1.1.0 in
    let f = imports_and_starts (data_at h.role p) starts image.imports legal.parts.imports lt fits in
    let fb = fixups_bytes (data_at h.role p) (fixups_with starts image.imports) in
    let lf = length-fixups (data_at h.role p) (fixups_with starts image.imports) lt in
    let pads = padding_zeros (data_at h.role p) (fixups_with starts image.imports) fb f refl in
    let pad = padding_is h p (omega arith) in
    let pad0 = pad.0 in
    let pad1 = pad.1 in
    let between = gap_zeros at starts (slots_with image.cells image.fixes) slots (omega arith) legal.parts.slots held in
    let behind = end_zeros at starts (slots_with image.cells image.fixes) slots (omega arith) legal.parts.slots held in
    let gaps : AllMet bytes (gap_checks h.role p) =
    gaps_met h p bytes (front_zeros h bytes front) a.1.1.0 a.1.1.1.1.0 a.1.1.1.1.1.1.0
    (moved_zeros bytes (p.got + h.got) p.got_end _ _ (sym s.got) (omega arith) (IsAt-within bytes slots (replicate (cells_from at - at.got) 0) p.got h.got here_slots between))
    (moved_zeros bytes (p.got + (cells_from at + at.cells)) p.cells_end _ _ (omega arith) (omega arith) (IsAt-within bytes slots (replicate (length slots - (cells_from at + at.cells)) 0) p.got (cells_from at + at.cells) here_slots behind))
    (moved_zeros bytes (p.linkedit + starts_end (data_at h.role p)) (padding_low p) _ _ (sym pad0) (omega arith) (IsAt-within bytes fb (replicate (imports_at (data_at h.role p) - starts_end (data_at h.role p)) 0) p.linkedit (starts_end (data_at h.role p)) fixups pads))
    a.1.1.1.1.1.1.1.1.1.0 a.1.1.1.1.1.1.1.1.1.1.1.0 in
    let lsy = length-symbols (text_at h) image.marks in
    record {
      header = front_enough h bytes legal.header front gaps len;
      parts = record {
        role = role_same image;
        text_size = sym z.text;
        stubs_size = sym z.stubs;
        consts_size = sym z.consts;
        got_size = got_same image;
        text = (a.1.0, legal.words.text);
        stubs = (a.1.1.1.0, legal.words.stubs);
        consts = a.1.1.1.1.1.0;
        starts = starts;
        fixups = record { bytes_are = part_is p.linkedit p.fixups_end bytes fb (omega arith) fixups; fit = f };
        slots = subst (AreSlots at starts (slots_with image.cells image.fixes)) (sym (part_is p.got p.linkedit bytes slots z.slots_size here_slots)) held;
        marks = record {
          symbols_are = part_is p.symbols p.symbols_end bytes (symbols_of (text_at h) image.marks) (omega arith) a.1.1.1.1.1.1.1.1.1.1.0;
          strings_are = part_is p.strings p.end bytes (strings_of image.marks) (omega arith) a.1.1.1.1.1.1.1.1.1.1.1.1.0;
          legal = legal.parts.marks;
        };
      };
    }

-- ---- what is put, one after the other

pub six_put : (o0 o1 o2 o3 o4 o5 o6 a b c d e f : List ℕ) → o1 ≡ o0 ++ a → o2 ≡ o1 ++ b → o3 ≡ o2 ++ c → o4 ≡ o3 ++ d → o5 ≡ o4 ++ e → o6 ≡ o5 ++ f → o6 ≡ o0 ++ concat (a ∷ b ∷ c ∷ d ∷ e ∷ f ∷ [])
six_put o0 o1 o2 o3 o4 o5 o6 a b c d e f p q r s t u = rw (u, t, s, r, q, p) (simp (append_assoc, append-nil))

pub five_put : (o0 o1 o2 o3 o4 o5 a b c d e : List ℕ) → o1 ≡ o0 ++ a → o2 ≡ o1 ++ b → o3 ≡ o2 ++ c → o4 ≡ o3 ++ d → o5 ≡ o4 ++ e → o5 ≡ o0 ++ concat (a ∷ b ∷ c ∷ d ∷ e ∷ [])
five_put o0 o1 o2 o3 o4 o5 a b c d e p q r s t = rw (t, s, r, q, p) (simp (append_assoc, append-nil))

-- ---- what is known of a legal image

pub record Writable (image : Image) (h : Header) (p : Places) : Type 0 where
  pub end : p.end < 2 ^ 40
  pub imports_few : length image.imports < 2 ^ 32
  pub pages : page_count p < 2 ^ 16
  pub inside : cells_from (slots_at h p (length image.imports)) + h.cells ≤ page_size * page_count p
  pub header : HeaderFits h
  pub parts : PartsFit image h p

few_pages : (at : DataAt) → AllFit (pages_of at) → at.pages < 2 ^ 16
unfolding pages_of
few_pages at f = f.2.2.2.2.2.0

writable_here : (image : Image) → IsLegal image → Writable image (header_of image) (places_of (header_of image))
writable_here image l =
    let h = header_of image in
    let p = places_of h in
    let s = spans h in
    let w = pages_whole h in
    let cp = cells_place h in
    record {
      end = fits_end h l.header;
      imports_few = count_fits (data_at h.role p) image.imports l.parts.imports;
      pages = few_pages (data_at h.role p) l.parts.imports.before_starts;
      inside = omega arith;
      header = l.header;
      parts = l.parts;
    }

pub writable : (image : Image) (h : Header) (p : Places) → h ≡ header_of image → p ≡ places_of h → IsLegal image → Writable image h p
writable image h p eh ep l = subst (λ (q : Places). Writable image h q) (sym ep) (subst (λ (x : Header). Writable image x (places_of x)) (sym eh) (writable_here image l))

pub inside_pages : (a b : SlotsAt) (n m : ℕ) → a ≡ b → n ≡ m → cells_from b + b.cells ≤ page_size * m → cells_from a + a.cells ≤ page_size * n
inside_pages a b n m e f le = subst (λ (x : SlotsAt). cells_from x + x.cells ≤ page_size * n) (sym e) (subst (λ (k : ℕ). cells_from b + b.cells ≤ page_size * k) (sym f) le)

pub fits_moved : (a b : SlotsAt) (cells cells' : List ℕ) (fixes fixes' : List Fix) → a ≡ b → cells ≡ cells' → fixes ≡ fixes' → SlotsFit b (slots_with cells' fixes') → SlotsFit a (slots_with cells fixes)
fits_moved a b cells cells' fixes fixes' e f g s = rw (e, f, g) s

pub held_moved : (a b : SlotsAt) (starts bytes cells cells' : List ℕ) (fixes fixes' : List Fix) → a ≡ b → cells ≡ cells' → fixes ≡ fixes' → AreSlots a starts (slots_with cells fixes) bytes → AreSlots b starts (slots_with cells' fixes') bytes
held_moved a b starts bytes cells cells' fixes fixes' e f g s = rw (← e, ← f, ← g) s

pub fixups_fit : (image : Image) (h : Header) (p : Places) (starts : List ℕ) → PartsFit image h p → length starts ≡ page_count p → AllFit (map two starts) → FixupsFit (data_at h.role p) (fixups_with starts image.imports)
fixups_fit image h p starts f l s = imports_and_starts (data_at h.role p) starts image.imports f.imports l s

words_all : (words : List ℕ) → ((i : ℕ) → get_or words i 0 < 2 ^ 32) → AllFit (map four words)
words_all [] h = tt
words_all (x ∷ xs) h = (h 0, refl, words_all xs (λ i. h (suc i)))

pub words_fit : (words row : List ℕ) → words ≡ row → ((i : ℕ) → get_or words i 0 < 2 ^ 32) → AllFit (map four row)
words_fit words row e h = subst (λ (l : List ℕ). AllFit (map four l)) e (words_all words h)

made_at : (image : Image) (h : Header) (p : Places) (slots starts bytes : List ℕ) → h ≡ header_of image → p ≡ places_of h → IsLegal image → length slots ≡ page_size * page_count p → length starts ≡ page_count p → AllFit (map two starts)
    → AreSlots (slots_at h p (length image.imports)) starts (slots_with image.cells image.fixes) slots → bytes ≡ bytes_with image h p slots starts → IsImage image bytes
made_at image h p slots starts bytes eh ep l ls lt fits held e =
    let same : p ≡ places_of (header_of image) = ep ∙ ap places_of eh in
    image_made image slots starts bytes l (subst (λ (q : Places). length slots ≡ page_size * page_count q) same ls) (subst (λ (q : Places). length starts ≡ page_count q) same lt) fits
    (subst (λ (q : Places). AreSlots (slots_at (header_of image) q (length image.imports)) starts (slots_with image.cells image.fixes) slots) same (subst (λ (x : Header). AreSlots (slots_at x p (length image.imports)) starts (slots_with image.cells image.fixes) slots) eh held))
    (subst (λ (q : Places). bytes ≡ bytes_with image (header_of image) q slots starts) same (subst (λ (x : Header). bytes ≡ bytes_with image x p slots starts) eh e))

pub written_made : (image : Image) (h : Header) (p : Places) (slots starts o0 o1 o2 o3 : List ℕ) → h ≡ header_of image → p ≡ places_of h → IsLegal image → length slots ≡ page_size * page_count p → length starts ≡ page_count p → AllFit (map two starts)
    → AreSlots (slots_at h p (length image.imports)) starts (slots_with image.cells image.fixes) slots → o0 ≡ front_of h → o1 ≡ o0 ++ concat (text_parts image p) → o2 ≡ o1 ++ slots → o3 ≡ o2 ++ concat (linkedit_parts image h p starts) → IsImage image o3
written_made image h p slots starts o0 o1 o2 o3 eh ep l ls lt fits held e0 e1 e2 e3 =
    let all : o3 ≡ bytes_with image h p slots starts = rw (e3, e2, e1, e0) (append_assoc (front_of h ++ concat (text_parts image p)) slots (concat (linkedit_parts image h p starts)) ∙ append_assoc (front_of h) (concat (text_parts image p)) (slots ++ concat (linkedit_parts image h p starts))) in
    made_at image h p slots starts o3 eh ep l ls lt fits held all
