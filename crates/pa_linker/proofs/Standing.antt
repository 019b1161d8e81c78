-- The code of each object stands in the image where its marks say.
use Rattle.std.proofs.Common.{◌≡◌, ℕ, ◌+◌, ◌*◌, List, [], ◌∷◌, ◌++◌, length, map, codes, refl, sym, ◌∙◌, ap, append_assoc, arith, length-append}
use Rattle.pa_a64.specs.Decoding.{encoded}
use Rattle.pa_object.specs.declared.object.Object.{Object}
use Rattle.pa_object.specs.declared.object.Ref.{Ref}
use Rattle.pa_macho.specs.Layout.{front_size}
use Rattle.pa_linker.specs.Layout.{start_words, words_after, Layout, place_of}
use Rattle.pa_linker.specs.Linked.{start, code_from, text_from, text_with}
use Rattle.pa_linker.proofs.Words.{words_more}

-- as many words as the object has
pub length-code_from : (l : Layout) (refs : List Ref) (at place : ℕ) (code : List ℕ) → length (code_from l refs at place code) ≡ length code
length-code_from l refs at place [] = refl
length-code_from l refs at place (word ∷ code) = let more = length-code_from l refs (at + 1) (place + 4) code in omega arith

length-text_from : (l : Layout) (place : ℕ) (objects : List Object) → length (text_from l place objects) ≡ words_after 0 objects
length-text_from l place [] = refl
length-text_from l place (o ∷ objects) =
    let code = code_from l o.refs 0 place o.code in
    let behind = text_from l (place + 4 * length o.code) objects in
    let whole : length (code ++ behind) ≡ length code + length behind = length-append code behind in
    let here = length-code_from l o.refs 0 place o.code in
    let there = length-text_from l (place + 4 * length o.code) objects in
    let more = words_more (0 + length o.code) objects in
    omega arith

text_from-append : (l : Layout) (place : ℕ) (before behind : List Object)
    → text_from l place (before ++ behind) ≡ text_from l place before ++ text_from l (place + 4 * words_after 0 before) behind
text_from-append l place [] behind = ap (λ (p : ℕ). text_from l p behind) (omega arith)
text_from-append l place (o ∷ before) behind =
    let next : ℕ = place + 4 * length o.code in
    let code = code_from l o.refs 0 place o.code in
    let more = words_more (0 + length o.code) before in
    let same : next + 4 * words_after 0 before ≡ place + 4 * words_after 0 (o ∷ before) = omega arith in
    ap (λ (ws : List ℕ). code ++ ws) (text_from-append l next before behind)
    ∙ sym (append_assoc code (text_from l next before) (text_from l (next + 4 * words_after 0 before) behind))
    ∙ ap (λ (p : ℕ). (code ++ text_from l next before) ++ text_from l p behind) same

-- an object's code stands in `__text` behind the words of those before it, and its references are filled for that place
pub record Stands (l : Layout) (before : List Object) (object : Object) (text : List ℕ) : Type 0 where
  pub front : List ℕ
  pub back : List ℕ
  pub behind : length front ≡ words_after start_words before
  pub here : text ≡ front ++ (code_from l object.refs 0 (front_size + 4 * words_after start_words before) object.code ++ back)

pub stands : (l : Layout) (before : List Object) (object : Object) (behind : List Object) → Stands l before object (text_with l (before ++ object ∷ behind))
stands l before object behind =
    let first = map encoded (start (place_of l (codes "_main"))) in
    let place : ℕ = front_size + 4 * start_words in
    let middle = text_from l place before in
    let here : ℕ = place + 4 * words_after 0 before in
    let back = text_from l (here + 4 * length object.code) behind in
    let more = words_more start_words before in
    let same : here ≡ front_size + 4 * words_after start_words before = omega arith in
    let whole : length (first ++ middle) ≡ length first + length middle = length-append first middle in
    let size = length-text_from l place before in
    record {
      front = first ++ middle;
      back = back;
      behind = omega arith;
      here =
          ap (λ (ws : List ℕ). first ++ ws) (text_from-append l place before (object ∷ behind))
          ∙ sym (append_assoc first middle (text_from l here (object ∷ behind)))
          ∙ ap (λ (p : ℕ). (first ++ middle) ++ (code_from l object.refs 0 p object.code ++ back)) same;
    }
