-- Parts of a file between two places.
use Rattle.std.proofs.Common.{◌≡◌, ℕ, ◌+◌, ◌-◌, ◌*◌, ◌%◌, ◌≤◌, ◌<◌, ◌^◌, List, ◌++◌, length, take, drop, sym, ap, ◌∙◌, arith}
use Rattle.std.proofs.lemmas.List.{length-take-le, length-drop, take_at, take-append-drop, drop-drop}
use Rattle.pa_layout.specs.Fields.{AllFit, IsAt}
use Rattle.pa_layout.proofs.Laws.{IsBytes}
use Rattle.pa_macho.specs.declared.header.Header.{Header}
use Rattle.pa_macho.specs.declared.places.Places.{Places}
use Rattle.pa_macho.specs.Layout.{page_count}
use Rattle.pa_fixups.specs.declared.tables.DataAt.{DataAt}
use Rattle.pa_fixups.specs.declared.tables.Fixups.{Fixups}
use Rattle.pa_fixups.specs.Fixups.{pages_of, IsPart}
use Rattle.pa_fixups.proofs.Whole.{count_small}
use Rattle.pa_slots.specs.Pages.{page_size, cells_from}
use Rattle.pa_slots.proofs.Pages.{IsBytes-take, IsBytes-drop}
use Rattle.pa_image.specs.Bytes.{part, data_at, slots_at}
use Rattle.pa_image.specs.Known.{Known}

pub length-part : (low high : ℕ) (bytes : List ℕ) → low ≤ high → high ≤ length bytes → length (part low high bytes) ≡ high - low
length-part low high bytes le inside = length-take-le (high - low) (drop low bytes) (omega (arith, length-drop low bytes))

pub IsBytes-part : (low high : ℕ) (bytes : List ℕ) → IsBytes bytes → IsBytes (part low high bytes)
IsBytes-part low high bytes fits = IsBytes-take (high - low) (drop low bytes) (IsBytes-drop low bytes fits)

-- a part stands where it is
pub part_stands : (low high : ℕ) (bytes : List ℕ) → low ≤ high → high ≤ length bytes → IsAt bytes low (part low high bytes)
part_stands low high bytes le inside =
    let n = high - low in
    let len = length-part low high bytes le inside in
    record {
      inside = omega arith;
      reads = sym (take-append-drop n (drop low bytes)) ∙ ap (λ (l : List ℕ). take n (drop low bytes) ++ l) (drop-drop n low bytes ∙ ap (λ (k : ℕ). drop k bytes) (omega arith));
    }

-- and what stands there is the part
pub part_is : (low high : ℕ) (bytes xs : List ℕ) → length xs ≡ high - low → IsAt bytes low xs → part low high bytes ≡ xs
part_is low high bytes xs e h = ap (take (high - low)) h.reads ∙ take_at xs (drop (low + length xs) bytes) (high - low) e

-- ---- what fixups say of the file

pub record Starts (h : Header) (p : Places) (starts : List ℕ) (imports : List (List ℕ)) (bytes : List ℕ) : Type 0 where
  pub few : length starts < 2 ^ 16
  pub imports_few : length imports < 2 ^ 32
  pub size : length (part p.got p.linkedit bytes) ≡ page_size * length starts
  pub inside : cells_from (slots_at h p (length imports)) + h.cells ≤ length (part p.got p.linkedit bytes)

pages_few : (at : DataAt) → AllFit (pages_of at) → at.pages < 2 ^ 16
unfolding pages_of
pages_few at f = f.2.2.2.2.2.0

pub starts_known : (h : Header) (p : Places) (fixups : Fixups) (bytes : List ℕ) → Known h p (length bytes) → IsPart (data_at h.role p) fixups (part p.linkedit p.fixups_end bytes) → Starts h p fixups.starts fixups.imports bytes
starts_known h p fixups bytes k i =
    let o = k.order in
    let few = pages_few (data_at h.role p) i.fit.before_starts in
    let pages : length fixups.starts ≡ page_count p = i.fit.pages in
    let len = length-part p.got p.linkedit bytes (omega arith) (omega arith) in
    record {
      few = omega arith;
      imports_few = count_small (data_at h.role p) (length fixups.imports) i.fit.header;
      size = omega arith;
      inside = omega arith;
    }

pub entries_whole : (h : Header) (p : Places) (bytes : List ℕ) → Known h p (length bytes) → length (part p.symbols p.symbols_end bytes) % 16 ≡ 0
entries_whole h p bytes k =
    let o = k.order in
    let len = length-part p.symbols p.symbols_end bytes (omega arith) (omega arith) in
    let e : length (part p.symbols p.symbols_end bytes) ≡ h.symbols = omega arith in
    ap (λ (n : ℕ). n % 16) e ∙ k.entries
