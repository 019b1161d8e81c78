-- Going through the imports of a program.
use Rattle.std.proofs.Common.{◌≡◌, ℕ, zero, suc, Bool, true, false, cond, ◌+◌, ◌<◌, ◌≤◌, List, [], ◌∷◌, ◌++◌, length, map, drop, get_or, refl, sym, ap, ◌∙◌, append_assoc, arith, Option, Some, None}
use Rattle.std.specs.Prelude.{is_none, unwrap_or, position}
use Rattle.std.specs.List.{position_from}
use Rattle.std.proofs.Math.Seq.{drop-cons}
use Rattle.std.proofs.lemmas.List.{append-nil}
use Rattle.std.proofs.lemmas.Iterator.Adapters.{position_from-zero}
use Rattle.pa_image.specs.declared.image.Image.{Image}
use Rattle.pa_load.specs.Loaded.{import_address, import_addresses, first_missing}

abbrev pub is_missing : Image → List ℕ → Bool
is_missing runtime name = is_none (import_address runtime name)

abbrev pub address_or_0 : Image → List ℕ → ℕ
address_or_0 runtime name = unwrap_or (import_address runtime name) 0

-- the first of these names have these addresses, and the others come next
pub record Resolved (main runtime : Image) (names : List (List ℕ)) (i : ℕ) (addresses : List ℕ) : Type 0 where
  pub are : names ≡ main.imports
  pub found : addresses ++ map (address_or_0 runtime) (drop i names) ≡ import_addresses main runtime
  pub missing : position_from (is_missing runtime) i (drop i names) ≡ first_missing main runtime

pub resolved_none : (main runtime : Image) (names : List (List ℕ)) → names ≡ main.imports → Resolved main runtime names 0 []
resolved_none main runtime names e = record {
  are = e;
  found = ap (map (address_or_0 runtime)) e;
  missing = sym (position_from-zero (is_missing runtime) names) ∙ ap (position (is_missing runtime)) e;
}

ahead : (names : List (List ℕ)) (i : ℕ) (name : List ℕ) → i < length names → name ≡ get_or names i name → drop i names ≡ name ∷ drop (i + 1) names
ahead names i name h e =
    let s : suc i ≡ i + 1 = omega arith in
    drop-cons names i name h ∙ ap (λ (n : List ℕ). n ∷ drop (suc i) names) (sym e) ∙ ap (λ (k : ℕ). name ∷ drop k names) s

pub resolved_more : (main runtime : Image) (names : List (List ℕ)) (i : ℕ) (name : List ℕ) (address : ℕ) (addresses new : List ℕ) → Resolved main runtime names i addresses → i < length names → name ≡ get_or names i name
    → import_address runtime name ≡ Some address → new ≡ addresses ++ address ∷ [] → Resolved main runtime names (i + 1) new
resolved_more main runtime names i name address addresses new r h e a n =
    let next = ahead names i name h e in
    let value : address_or_0 runtime name ≡ address = ap (λ (o : Option ℕ). unwrap_or o 0) a in
    let there : is_missing runtime name ≡ false = ap is_none a in
    record {
      are = r.are;
      found =
          ap (λ (l : List ℕ). l ++ map (address_or_0 runtime) (drop (i + 1) names)) n ∙ append_assoc addresses (address ∷ []) (map (address_or_0 runtime) (drop (i + 1) names))
          ∙ ap (λ (k : ℕ). addresses ++ k ∷ map (address_or_0 runtime) (drop (i + 1) names)) (sym value) ∙ ap (λ (l : List (List ℕ)). addresses ++ map (address_or_0 runtime) l) (sym next) ∙ r.found;
      missing = sym (ap (position_from (is_missing runtime) i) next ∙ ap (λ (b : Bool). cond b (Some i) (position_from (is_missing runtime) (i + 1) (drop (i + 1) names))) there) ∙ r.missing;
    }

pub missing_here : (main runtime : Image) (names : List (List ℕ)) (i : ℕ) (name : List ℕ) (addresses : List ℕ) → Resolved main runtime names i addresses → i < length names → name ≡ get_or names i name
    → import_address runtime name ≡ None → first_missing main runtime ≡ Some i
missing_here main runtime names i name addresses r h e a =
    let next = ahead names i name h e in
    let gone : is_missing runtime name ≡ true = ap is_none a in
    sym r.missing ∙ ap (position_from (is_missing runtime) i) next ∙ ap (λ (b : Bool). cond b (Some i) (position_from (is_missing runtime) (i + 1) (drop (i + 1) names))) gone

none_ahead : (names : List (List ℕ)) (i : ℕ) → length names ≤ i → drop i names ≡ []
none_ahead [] zero h = refl
none_ahead [] (suc i) h = refl
none_ahead (name ∷ names) zero h = absurd (omega arith)
none_ahead (name ∷ names) (suc i) h = none_ahead names i (omega arith)

pub resolved_all : (main runtime : Image) (names : List (List ℕ)) (i : ℕ) (addresses : List ℕ) → Resolved main runtime names i addresses → length names ≤ i → addresses ≡ import_addresses main runtime
resolved_all main runtime names i addresses r h =
    sym (append-nil addresses) ∙ ap (λ (l : List (List ℕ)). addresses ++ map (address_or_0 runtime) l) (sym (none_ahead names i h)) ∙ r.found

pub none_missing : (main runtime : Image) (names : List (List ℕ)) (i : ℕ) (addresses : List ℕ) → Resolved main runtime names i addresses → length names ≤ i → first_missing main runtime ≡ None
none_missing main runtime names i addresses r h = sym r.missing ∙ ap (position_from (is_missing runtime) i) (none_ahead names i h)
