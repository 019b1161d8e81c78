-- Words of code that are fetched from an image in memory.
use Rattle.std.proofs.Common.{◌≡◌, ℕ, suc, ◌+◌, ◌*◌, ◌%◌, ◌≤◌, ◌<◌, Bool, true, false, cond, eqb, List, [], ◌∷◌, length, map, refl, sym, ap, subst, ◌∙◌, arith, Option, Some, None, ◌⊎◌, inl, inr}
use Rattle.std.specs.Option.{option_or}
use Rattle.std.proofs.lemmas.Bool.{eqb-true}
use Rattle.byteorder.specs.Endian.{little_bytes}
use Rattle.byteorder.specs.Numbers.{length-bytes_low_first}
use Rattle.pa_layout.specs.Fields.{four, number, AllFit, IsAt}
use Rattle.pa_layout.proofs.Laws.{IsAt-first, IsAt-second, number-read, number-within}
use Rattle.pa_mem.specs.Memory.{Region, fetch, all_apart}
use Rattle.pa_mem.proofs.Apart as mem
use Rattle.pa_image.specs.Bytes.{part, words_bytes}
use Rattle.pa_image.specs.Places.{word_from}
use Rattle.pa_image.proofs.Cut.{part_stands, length-part}
use Rattle.pa_load.proofs.Regions.{fetch_here}

-- a word that stands among these, and in the bytes
record WordAt (from place count : ℕ) (bytes : List ℕ) (at w : ℕ) : Type 0 where
  pub k : ℕ
  pub stands : at ≡ from + 4 * k
  pub inside : k < count
  pub reads : number 4 (place + 4 * k) bytes ≡ w

word_found : (from place : ℕ) (words bytes : List ℕ) (at w : ℕ) → IsAt bytes place (words_bytes words) → AllFit (map four words) → word_from from words at ≡ Some w → WordAt from place (length words) bytes at w
word_found from place [] bytes at w s f e = cc
word_found from place (word ∷ words) bytes at w s f e = go (λ (h : word_from (from + 4) words at ≡ Some w). next (word_found (from + 4) (place + 4) words bytes at w others f.2 h)) (eqb from at) refl e
  where
    first : number 4 place bytes ≡ word
    first = number-read 4 place word bytes f.0 (IsAt-first bytes place (little_bytes 4 word) (words_bytes words) s)

    size : length (little_bytes 4 word) ≡ 4
    size = length-bytes_low_first 0 4 word

    others : IsAt bytes (place + 4) (words_bytes words)
    others = subst (λ (n : ℕ). IsAt bytes (place + n) (words_bytes words)) size (IsAt-second bytes place (little_bytes 4 word) (words_bytes words) s)

    next : WordAt (from + 4) (place + 4) (length words) bytes at w → WordAt from place (suc (length words)) bytes at w
    next r =
        let k = r.k in
        let stands = r.stands in
        let inside = r.inside in
        let e : place + 4 * (k + 1) ≡ place + 4 + 4 * k = omega arith in
        record { k = k + 1; stands = omega arith; inside = omega arith; reads = ap (λ (n : ℕ). number 4 n bytes) e ∙ r.reads }

    here : word ≡ w → from ≡ at → WordAt from place (suc (length words)) bytes at w
    here e f =
        let z : place + 4 * 0 ≡ place = omega arith in
        record { k = 0; stands = omega arith; inside = omega arith; reads = ap (λ (n : ℕ). number 4 n bytes) z ∙ first ∙ e }

    some : (x y : ℕ) → Some x ≡ Some y → x ≡ y
    some x y e = cc

    go : (word_from (from + 4) words at ≡ Some w → WordAt from place (suc (length words)) bytes at w) → (b : Bool) → eqb from at ≡ b → cond b (Some word) (word_from (from + 4) words at) ≡ Some w → WordAt from place (suc (length words)) bytes at w
    go more true f e = here (some word w e) (eqb-true from at f)
    go more false f e = more e

-- words of a segment that may be run
pub area_fetched : (memory : List Region) (i : ℕ) (region : Region) (place high : ℕ) (words bytes : List ℕ) (at w : ℕ) → mem.IsAt memory i region → all_apart memory ≡ true → region.bytes ≡ part 0 high bytes → high ≤ length bytes → region.runs ≡ true → region.base % 4 ≡ 0 → place % 4 ≡ 0
    → place + 4 * length words ≤ high → IsAt bytes place (words_bytes words) × AllFit (map four words) → word_from (region.base + place) words at ≡ Some w → fetch memory at ≡ Some w
area_fetched memory i region place high words bytes at w s apart e inside runs base even fits stands h =
    let r = word_found (region.base + place) place words bytes at w stands.0 stands.1 h in
    let k = r.k in
    let o = place + 4 * k in
    let at_k = r.stands in
    let less = r.inside in
    let len = ap length e ∙ length-part 0 high bytes (omega arith) inside in
    let z : 0 + o ≡ o = omega arith in
    let within : number 4 (0 + o) bytes ≡ number 4 o (part 0 high bytes) = number-within 4 0 o bytes (part 0 high bytes) (part_stands 0 high bytes (omega arith) inside) (let l = length-part 0 high bytes (omega arith) inside in omega arith) in
    fetch_here memory i region at o s apart (omega arith) (omega arith) (omega arith) runs
    ∙ ap Some (ap (number 4 o) e ∙ sym within ∙ ap (λ (n : ℕ). number 4 n bytes) z ∙ r.reads)

pub or_some : (a b : Option ℕ) (w : ℕ) → option_or a b ≡ Some w → (a ≡ Some w) ⊎ (b ≡ Some w)
or_some None b w e = inr e
or_some (Some x) b w e = inl e
