-- Names that are cut from a text spell it, and names that are spelled are cut from it.
use Rattle.std.proofs.Common.{inl, inr, ◌≡◌, ℕ, zero, suc, ◌+◌, ◌-◌, ◌*◌, ◌≤◌, ◌<◌, Bool, true, false, cond, ltb, eqb, not, ◌&&◌, List, [], ◌∷◌, ◌++◌, length, take, drop, get_or, refl, sym, ap, subst, ◌∙◌, arith, append_assoc}
use Rattle.std.specs.List.{position_or_len, before_first, after_first}
use Rattle.std.proofs.lemmas.Bool.{cases_eq, ne_eqb, eqb-true, and_parts, and_from, not-true, cases_Bool, eq-eqb, lt-ltb, ltb-true}
use Rattle.std.proofs.lemmas.List.{take_at, length-append, length-drop, length-take-le}
use Rattle.std.proofs.lemmas.List.Sums.{split_at_first, passes_at_first, prefix_len-le-length}
use Rattle.pa_layout.specs.Names.{is_zero, ended, is_name, are_names, name_length, has_end, cut, behind}

pub name_length-le : (text : List ℕ) → name_length text ≤ length text
name_length-le text = prefix_len-le-length (λ b. not (is_zero b)) text

eqb-next : (n m : ℕ) → eqb (1 + n) (suc m) ≡ eqb n m
eqb-next n m =
    elim (cases_eq n m) [
      | inl same ↦ eq-eqb _ _ (omega arith) ∙ sym (eq-eqb n m same)
      | inr other ↦ ne_eqb _ _ (λ e. other (omega arith)) ∙ sym (ne_eqb n m other)
    ]

name_next : (t : Bool) (text : List ℕ) → eqb (name_length text) (length text) ≡ is_name text → eqb (cond (not t) (1 + name_length text) 0) (suc (length text)) ≡ (not t && is_name text)
name_next true text e = ne_eqb _ _ (λ e. omega arith)
name_next false text e = eqb-next (name_length text) (length text) ∙ e

-- a text is a name exactly where the name that it begins with is all of it
pub is_name-by_length : (text : List ℕ) → eqb (name_length text) (length text) ≡ is_name text
is_name-by_length [] = refl
is_name-by_length (b ∷ text) = name_next (is_zero b) text (is_name-by_length text)

-- ---- what is cut from a text spells it

-- each of the first n names has its end
abbrev pub HaveEnds : ℕ → List ℕ → Type 0
HaveEnds zero text = Unit {0}
HaveEnds (suc n) text = (name_length text < length text) × HaveEnds n (after_first is_zero text)

pub length-before_first : (text : List ℕ) → length (before_first is_zero text) ≡ name_length text
length-before_first text = length-take-le (name_length text) text (name_length-le text)

is_name-front : (t : Bool) (b : ℕ) (text : List ℕ) → is_zero b ≡ t → is_name (before_first is_zero text) ≡ true → is_name (take (cond (not t) (1 + name_length text) 0) (b ∷ text)) ≡ true
is_name-front true b text e h = refl
is_name-front false b text e h =
    let one : 1 + name_length text ≡ suc (name_length text) = omega arith in
    rw one (and_from (not (is_zero b)) (is_name (before_first is_zero text)) (ap not e) h)

pub is_name-before_first : (text : List ℕ) → is_name (before_first is_zero text) ≡ true
is_name-before_first [] = refl
is_name-before_first (b ∷ text) = is_name-front (is_zero b) b text refl (is_name-before_first text)

pub are_names-cut : (n : ℕ) (text : List ℕ) → are_names (cut n text) ≡ true
are_names-cut zero text = refl
are_names-cut (suc n) text = and_from (is_name (before_first is_zero text)) (are_names (cut n (after_first is_zero text))) (is_name-before_first text) (are_names-cut n (after_first is_zero text))

pub length-cut : (n : ℕ) (text : List ℕ) → length (cut n text) ≡ n
length-cut zero text = refl
length-cut (suc n) text = ap suc (length-cut n (after_first is_zero text))

pub ended-cut : (n : ℕ) (text : List ℕ) → HaveEnds n text → text ≡ ended (cut n text) ++ behind n text
ended-cut zero text h = refl
ended-cut (suc n) text h =
    let front = before_first is_zero text in
    let rest = after_first is_zero text in
    let z : get_or text (name_length text) 0 ≡ 0 = eqb-true _ _ (passes_at_first is_zero text 0 h.0) in
    split_at_first is_zero text 0 h.0 ∙ ap (λ (b : ℕ). front ++ (b ∷ rest)) z ∙ ap (λ (l : List ℕ). front ++ (0 ∷ l)) (ended-cut n rest h.1)
    ∙ sym (append_assoc front (0 ∷ ended (cut n rest)) (behind n rest))

-- ---- what is spelled is cut from the text

name_length-name : (name rest : List ℕ) → is_name name ≡ true → name_length (name ++ (0 ∷ rest)) ≡ length name
name_length-name [] rest h = refl
name_length-name (b ∷ name) rest h =
    let a = and_parts (not (is_zero b)) (is_name name) h in
    let e : 1 + length name ≡ suc (length name) = omega arith in
    rw (a.0, name_length-name name rest a.1) e

drop_name : (name rest : List ℕ) → drop (length name + 1) (name ++ (0 ∷ rest)) ≡ rest
drop_name [] rest = refl
drop_name (b ∷ name) rest =
    let e : suc (length name) + 1 ≡ suc (length name + 1) = omega arith in
    ap (λ (k : ℕ). drop k (b ∷ (name ++ (0 ∷ rest)))) e ∙ drop_name name rest

-- a name with its zero byte at the front of a text
pub record Begins (text name rest : List ℕ) : Type 0 where
  pub length_is : name_length text ≡ length name
  pub ends : name_length text < length text
  pub name_is : before_first is_zero text ≡ name
  pub rest_is : after_first is_zero text ≡ rest

pub begins : (name rest : List ℕ) → is_name name ≡ true → Begins (name ++ (0 ∷ rest)) name rest
begins name rest h =
    let text = name ++ (0 ∷ rest) in
    let p = name_length-name name rest h in
    record {
      length_is = p;
      ends = omega (arith, length-append name (0 ∷ rest), p);
      name_is = ap (λ (k : ℕ). take k text) p ∙ take_at name (0 ∷ rest) (length name) refl;
      rest_is = ap (λ (k : ℕ). drop (k + 1) text) p ∙ drop_name name rest;
    }

ended_first : (name : List ℕ) (names : List (List ℕ)) (rest : List ℕ) → ended (name ∷ names) ++ rest ≡ name ++ (0 ∷ (ended names ++ rest))
ended_first name names rest = append_assoc name (0 ∷ ended names) rest

-- what the first names of a text are, and what stands after them
pub record Cuts (text : List ℕ) (names : List (List ℕ)) (rest : List ℕ) : Type 0 where
  pub ends : HaveEnds (length names) text
  pub names_are : cut (length names) text ≡ names
  pub rest_is : behind (length names) text ≡ rest

cuts_next : (text : List ℕ) (name : List ℕ) (names : List (List ℕ)) (more rest : List ℕ) → Begins text name more → Cuts more names rest → Cuts text (name ∷ names) rest
cuts_next text name names more rest b c = record {
  ends = (b.ends, subst (HaveEnds (length names)) (sym b.rest_is) c.ends);
  names_are = ap (λ (x : List ℕ). x ∷ cut (length names) (after_first is_zero text)) b.name_is ∙ ap (λ (x : List ℕ). name ∷ cut (length names) x) b.rest_is ∙ ap (λ (x : List (List ℕ)). name ∷ x) c.names_are;
  rest_is = ap (behind (length names)) b.rest_is ∙ c.rest_is;
}

pub cuts-ended : (names : List (List ℕ)) (rest : List ℕ) → are_names names ≡ true → Cuts (ended names ++ rest) names rest
cuts-ended [] rest h = record { ends = tt; names_are = refl; rest_is = refl }
cuts-ended (name ∷ names) rest h =
    let a = and_parts (is_name name) (are_names names) h in
    let more = ended names ++ rest in
    subst (λ (text : List ℕ). Cuts text (name ∷ names) rest) (sym (ended_first name names rest)) (cuts_next (name ++ (0 ∷ more)) name names more rest (begins name more a.0) (cuts-ended names rest a.1))
