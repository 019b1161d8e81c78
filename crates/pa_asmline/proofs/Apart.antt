-- What texts of operands lack, and that operands of two forms of one name differ.
use Rattle.std.proofs.Common.{◌≡◌, ◌⊎◌, inl, inr, ℕ, ◌+◌, ◌/◌, ◌%◌, ◌<◌, Bool, true, false, cond, not, ◌&&◌, ◌||◌, ◌==◌, List, [], ◌∷◌, ◌++◌, refl, sym, ◌∙◌, subst, arith, codes}
use Rattle.std.specs.Prelude.{nat_lt}
use Rattle.std.specs.List.{list_all}
use Rattle.std.specs.Char.{is_ascii_digit}
use Rattle.std.proofs.lemmas.Bool.Decides.{nat_tests}
use Rattle.pa_asmline.specs.declared.kind.Kind.{Kind}
use Rattle.pa_asmline.specs.declared.kind.Kind.TheVariants as kind
use Rattle.pa_asmline.specs.declared.kind.Range.{Range}
use Rattle.pa_asmline.specs.Rows.{Text}
use Rattle.pa_asmline.specs.Operands.{Operand, may_begin, may_follow, is_name, sign, is_empty, is_numeral, IsRegister, IsNumber, Spells}
use Rattle.pa_asmline.specs.Lines.{AreOperands}
use Rattle.pa_asmline.proofs.Texts.{both_true, Lacks, Stops, lacks_passing, lacks_both, lacks_parts, lacks_none, one_cut, same_front}
use Rattle.pa_asmline.proofs.Table.{kind_apart, kinds_apart}

-- ---- bytes that an operand lacks

or_true : (b : Bool) → (b || true) ≡ true
or_true true = refl
or_true false = refl

digit_follows : (m : ℕ) → m < 10 → may_follow (48 + m) ≡ true
digit_follows m k = let digit : is_ascii_digit (48 + m) ≡ true = grind (arith, nat_tests) in rw digit (or_true (may_begin (48 + m)))

register_follows : (last : Text) (n : ℕ) (a b : Bool) → nat_lt n 10 ≡ a → nat_lt n 31 ≡ b → list_all may_follow last ≡ true → list_all may_follow (cond a (120 ∷ (48 + n) ∷ []) (cond b (120 ∷ (48 + n / 10) ∷ (48 + n % 10) ∷ []) last)) ≡ true
register_follows last n true b e f l =
    let small : n < 10 = grind (arith, nat_tests) in
    rw (digit_follows n small) refl
register_follows last n false true e f l =
    let under : n < 31 = grind (arith, nat_tests) in
    let ten : n / 10 < 10 = omega arith in
    let one : n % 10 < 10 = omega arith in
    rw (digit_follows (n / 10) ten, digit_follows (n % 10) one) refl
register_follows last n false false e f l = l

register_lacks : (last : Text) (v : Operand) (text : Text) (stop : ℕ) → may_follow stop ≡ false → list_all may_follow last ≡ true → IsRegister last v text → Lacks stop text
register_lacks last v text stop e l r =
    lacks_passing may_follow stop text e (subst (λ t. list_all may_follow t ≡ true) (sym r.2) (register_follows last r.0 (nat_lt r.0 10) (nat_lt r.0 31) refl refl l))

no_more_digits : (xs : Text) → is_empty xs ≡ true → list_all is_ascii_digit xs ≡ true
no_more_digits [] k = refl
no_more_digits (x ∷ xs) k = cc

digits_by : (negative : Bool) (digit : ℕ) (digits : Text) (b : Bool) → (digit == 48) ≡ b → cond b (is_empty digits && not negative) (is_ascii_digit digit && list_all is_ascii_digit digits) ≡ true → list_all is_ascii_digit (digit ∷ digits) ≡ true
digits_by negative digit digits true e k =
    let same : digit ≡ 48 = grind (arith, nat_tests) in
    rw same (no_more_digits digits (both_true (is_empty digits) (not negative) k).0)
digits_by negative digit digits false e k = k

numeral_digits : (negative : Bool) (digits : Text) → is_numeral negative digits ≡ true → list_all is_ascii_digit digits ≡ true
numeral_digits negative [] h = refl
numeral_digits negative (digit ∷ digits) h = digits_by negative digit digits (digit == 48) refl h

sign_lacks : (negative : Bool) → Lacks 44 (sign negative)
sign_lacks false = refl
sign_lacks true = refl

number_lacks : (range : Range) (v : Operand) (text : Text) → IsNumber range v text → Lacks 44 text
number_lacks range v text n =
    subst (Lacks 44) (sym n.3) (lacks_both 44 (sign n.0) n.1 (sign_lacks n.0) (lacks_passing is_ascii_digit 44 n.1 refl (numeral_digits n.0 n.1 n.2)))

name_follows : (text : Text) → is_name text ≡ true → list_all may_follow text ≡ true
name_follows [] h = cc
name_follows (byte ∷ text) h =
    let parts = both_true (may_begin byte) _ h in
    let more = both_true (list_all may_follow text) _ parts.1 in
    rw (parts.0, more.0) refl

pub name_lacks : (text : Text) (stop : ℕ) → may_follow stop ≡ false → is_name text ≡ true → Lacks stop text
name_lacks text stop e h = lacks_passing may_follow stop text e (name_follows text h)

pub spells_lacks : (k : Kind) (v : Operand) (text : Text) → Spells k v text → Lacks 44 text
spells_lacks kind.Register v text s = register_lacks (codes "xzr") v text 44 refl refl s
spells_lacks kind.RegisterOrStack v text s = register_lacks (codes "sp") v text 44 refl refl s
spells_lacks kind.Base v text s = subst (Lacks 44) (sym s.1) (lacks_both 44 (codes "[") s.0 refl (register_lacks (codes "sp") v s.0 44 refl refl s.2))
spells_lacks (kind.Number range) v text s = subst (Lacks 44) (sym s.1) (lacks_both 44 (codes "#") s.0 refl (number_lacks range v s.0 s.2))
spells_lacks (kind.Offset range) v text s =
    subst (Lacks 44) (sym s.1) (lacks_both 44 (codes "#") (s.0 ++ codes "]") refl (lacks_both 44 s.0 (codes "]") (number_lacks range v s.0 s.2) refl))
spells_lacks (kind.Shift range) v text s = subst (Lacks 44) (sym s.1) (lacks_both 44 (codes "lsl #") s.0 refl (number_lacks range v s.0 s.2))
spells_lacks kind.Shift12 v text s = subst (Lacks 44) (sym s.0) refl
spells_lacks (kind.Target range) v text s = name_lacks text 44 refl s.0
spells_lacks (kind.Callee range) v text s = name_lacks text 44 refl s.0
spells_lacks kind.Page v text s = subst (Lacks 44) (sym s.1) (lacks_both 44 s.0 (codes "@PAGE") (name_lacks s.0 44 refl s.2.0) refl)
spells_lacks kind.PageOffset v text s = subst (Lacks 44) (sym s.1) (lacks_both 44 s.0 (codes "@PAGEOFF") (name_lacks s.0 44 refl s.2.0) refl)

-- ---- kinds apart

abbrev IsNone : Kind → Kind → Text → Type 0
IsNone k j text = (v w : Operand) → Spells k v text → Spells j w text → ⊥

hash_none : (inner text : Text) → text ≡ codes "#" ++ inner → Lacks 35 text → ⊥
hash_none inner text e l = lacks_none 35 inner (subst (Lacks 35) e l)

kinds_none : (k j : Kind) (text : Text) → kind_apart k j ≡ true → IsNone k j text
kinds_none (kind.Number range) kind.Register text h v w s t = hash_none s.0 text s.1 (register_lacks (codes "xzr") w text 35 refl refl t)
kinds_none (kind.Number range) kind.Page text h v w s t =
    hash_none s.0 text s.1 (subst (Lacks 35) (sym t.1) (lacks_both 35 t.0 (codes "@PAGE") (name_lacks t.0 35 refl t.2.0) refl))
kinds_none (kind.Number range) kind.PageOffset text h v w s t =
    hash_none s.0 text s.1 (subst (Lacks 35) (sym t.1) (lacks_both 35 t.0 (codes "@PAGEOFF") (name_lacks t.0 35 refl t.2.0) refl))
kinds_none kind.PageOffset kind.Register text h v w s t =
    lacks_none 64 (codes "PAGEOFF") (lacks_parts 64 s.0 (codes "@PAGEOFF") (subst (Lacks 64) s.1 (register_lacks (codes "xzr") w text 64 refl refl t))).1
kinds_none _ _ text h v w s t = absurd (let z : false ≡ true = h in cc)

-- ---- operands apart

pub operands_stop : (s : ℕ) (separator : Text) (ks : List Kind) (vs : List Operand) (text : Text) → AreOperands (s ∷ separator) ks vs text → Stops s text
operands_stop s separator [] [] text h = subst (Stops s) (sym h) tt
operands_stop s separator [] (v ∷ vs) text h = absurd h
operands_stop s separator (k ∷ ks) [] text h = absurd h
operands_stop s separator (k ∷ ks) (v ∷ vs) text h = subst (Stops s) (sym h.2) refl

or_parts : (a b : Bool) → (a || b) ≡ true → (a ≡ true) ⊎ (b ≡ true)
or_parts true b e = inl refl
or_parts false b e = inr e

pub operands_apart : (s : ℕ) (separator : Text) (ks js : List Kind) (vs ws : List Operand) (text : Text) → kinds_apart ks js ≡ true → AreOperands (s ∷ separator) ks vs text → AreOperands (s ∷ separator) js ws text → ⊥
operands_apart s separator [] [] vs ws text h a b = let z : false ≡ true = h in cc
operands_apart s separator [] (j ∷ js) [] [] text h a b = b
operands_apart s separator [] (j ∷ js) [] (w ∷ ws) text h a b = let z = sym a ∙ b.2 in cc
operands_apart s separator [] (j ∷ js) (v ∷ vs) ws text h a b = a
operands_apart s separator (k ∷ ks) [] [] ws text h a b = a
operands_apart s separator (k ∷ ks) [] (v ∷ vs) [] text h a b = let z = sym b ∙ a.2 in cc
operands_apart s separator (k ∷ ks) [] (v ∷ vs) (w ∷ ws) text h a b = b
operands_apart s separator (k ∷ ks) (j ∷ js) [] ws text h a b = a
operands_apart s separator (k ∷ ks) (j ∷ js) (v ∷ vs) [] text h a b = b
operands_apart s separator (k ∷ ks) (j ∷ js) (v ∷ vs) (w ∷ ws) text h a b =
    let both = same_front (s ∷ separator) (a.0 ++ a.1) (b.0 ++ b.1) (sym a.2 ∙ b.2) in
    let cut = one_cut 44 a.0 b.0 a.1 b.1 (spells_lacks k v a.0 a.3) (spells_lacks j w b.0 b.3) (operands_stop 44 (codes " ") ks vs a.1 a.4) (operands_stop 44 (codes " ") js ws b.1 b.4) both in
    elim (or_parts (kind_apart k j) (kinds_apart ks js) h) [
      | inl e ↦ kinds_none k j a.0 e v w a.3 (subst (Spells j w) (sym cut.0) b.3)
      | inr e ↦ operands_apart 44 (codes " ") ks js vs ws a.1 e a.4 (subst (AreOperands (codes ", ") js ws) (sym cut.1) b.4)
    ]
