-- Parts of texts.
use Rattle.std.proofs.Common.{◌≡◌, ℕ, ◌-◌, Bool, true, false, cond, not, ◌&&◌, ◌==◌, [], ◌∷◌, ◌++◌, length, take, drop, refl, sym, ◌∙◌, ap, arith, one-add, Option, Some, None, length-append}
use Rattle.std.specs.Prelude.{option_and_then}
use Rattle.std.specs.List.{list_all}
use Rattle.std.specs.Str.{bytes_eq}
use Rattle.std.proofs.lemmas.Bool.Decides.{nat_tests}
use Rattle.std.proofs.lemmas.List.{take-append-drop}
use Rattle.std.proofs.lemmas.Slice.Eq.{bytes_eq-Decides}
use Rattle.std.proofs.Math.Seq.{take-append_seam, drop-append_seam}
use Rattle.pa_asmline.specs.Rows.{Text}
use Rattle.pa_asmline.specs.Reading.{behind, before, len_before, front, back}

pub both_true : (a b : Bool) → (a && b) ≡ true → (a ≡ true) × (b ≡ true)
both_true true b e = (refl, e)
both_true false b e = cc

pub true_is_no_false : {b : Bool} → b ≡ true → b ≡ false → ⊥
true_is_no_false e f = cc

pub bytes_same : (text : Text) → bytes_eq text text ≡ true
bytes_same text = (bytes_eq-Decides text text).1 refl

pub and_then_parts : {A B : Type 0} (f : A → Option B) (o : Option A) (y : B) → option_and_then f o ≡ Some y → (x : A) × (o ≡ Some x) × (f x ≡ Some y)
and_then_parts f None y e = cc
and_then_parts f (Some x) y e = (x, refl, e)

-- ---- fronts and backs

behind_by : (part text rest : Text) (b : Bool) → bytes_eq (take (length part) text) part ≡ b → cond b (Some (drop (length part) text)) None ≡ Some rest → text ≡ part ++ rest
behind_by part text rest true e h =
    let own : take (length part) text ≡ part = (bytes_eq-Decides _ _).0 e in
    let more : drop (length part) text ≡ rest = cc in
    sym (take-append-drop (length part) text) ∙ ap (λ x. x ++ drop (length part) text) own ∙ ap (λ x. part ++ x) more
behind_by part text rest false e h = cc

pub behind_splits : (part text rest : Text) → behind part text ≡ Some rest → text ≡ part ++ rest
behind_splits part text rest e = behind_by part text rest (bytes_eq (take (length part) text) part) refl e

pub behind_joined : (part rest : Text) → behind part (part ++ rest) ≡ Some rest
behind_joined part rest = rw (take-append_seam part rest, drop-append_seam part rest, bytes_same part) refl

before_by : (part text inner : Text) (b : Bool) → bytes_eq (drop (length text - length part) text) part ≡ b → cond b (Some (take (length text - length part) text)) None ≡ Some inner → text ≡ inner ++ part
before_by part text inner true e h =
    let own : drop (length text - length part) text ≡ part = (bytes_eq-Decides _ _).0 e in
    let more : take (length text - length part) text ≡ inner = cc in
    sym (take-append-drop (length text - length part) text) ∙ ap (λ x. take (length text - length part) text ++ x) own ∙ ap (λ x. x ++ part) more
before_by part text inner false e h = cc

pub before_splits : (part text inner : Text) → before part text ≡ Some inner → text ≡ inner ++ part
before_splits part text inner e = before_by part text inner (bytes_eq (drop (length text - length part) text) part) refl e

pub before_joined : (part inner : Text) → before part (inner ++ part) ≡ Some inner
before_joined part inner =
    let size : length (inner ++ part) - length part ≡ length inner = omega (arith, length-append inner part) in
    rw (size, take-append_seam inner part, drop-append_seam inner part, bytes_same part) refl

-- ---- bytes that a text has or lacks

abbrev pub Lacks : ℕ → Text → Type 0
Lacks stop text = list_all (λ byte. not (byte == stop)) text ≡ true

-- the text begins with this byte, or is empty
abbrev pub Stops : ℕ → Text → Type 0
Stops stop [] = Unit {0}
Stops stop (byte ∷ text) = byte ≡ stop

same_byte : (a b : ℕ) → a ≡ b → (a == b) ≡ true
same_byte a b e = grind (arith, nat_tests)

equal_bytes : (a b : ℕ) → (a == b) ≡ true → a ≡ b
equal_bytes a b e = grind (arith, nat_tests)

-- a byte that passes a test isn't one that doesn't
pub differs : (passes : ℕ → Bool) (byte stop : ℕ) → passes stop ≡ false → passes byte ≡ true → (byte == stop) ≡ false
differs passes byte stop e h = go (byte == stop) refl
  where
    go : (b : Bool) → (byte == stop) ≡ b → b ≡ false
    go false f = refl
    go true f = absurd (true_is_no_false h (ap passes (equal_bytes byte stop f) ∙ e))

pub lacks_passing : (passes : ℕ → Bool) (stop : ℕ) (text : Text) → passes stop ≡ false → list_all passes text ≡ true → Lacks stop text
lacks_passing passes stop [] e h = refl
lacks_passing passes stop (byte ∷ text) e h =
    let parts = both_true (passes byte) (list_all passes text) h in
    rw (differs passes byte stop e parts.0) (lacks_passing passes stop text e parts.1)

pub lacks_both : (stop : ℕ) (a b : Text) → Lacks stop a → Lacks stop b → Lacks stop (a ++ b)
lacks_both stop [] b h k = k
lacks_both stop (byte ∷ a) b h k =
    let parts = both_true (not (byte == stop)) (list_all (λ byte. not (byte == stop)) a) h in
    rw parts.0 (lacks_both stop a b parts.1 k)

pub lacks_parts : (stop : ℕ) (a b : Text) → Lacks stop (a ++ b) → Lacks stop a × Lacks stop b
lacks_parts stop [] b h = (refl, h)
lacks_parts stop (byte ∷ a) b h =
    let parts = both_true (not (byte == stop)) (list_all (λ byte. not (byte == stop)) (a ++ b)) h in
    let more = lacks_parts stop a b parts.1 in
    (rw parts.0 more.0, more.1)

pub lacks_none : (stop : ℕ) (text : Text) → Lacks stop (stop ∷ text) → ⊥
lacks_none stop text h =
    let parts = both_true (not (stop == stop)) (list_all (λ byte. not (byte == stop)) text) h in
    let same = same_byte stop stop refl in
    let bad : not true ≡ true = rw same at parts.0 in cc

len_stops : (stop : ℕ) (text : Text) → Stops stop text → len_before stop text ≡ 0
len_stops stop [] h = refl
len_stops stop (byte ∷ text) h = rw (same_byte byte stop h) refl

len_is : (stop : ℕ) (own rest : Text) → Lacks stop own → Stops stop rest → len_before stop (own ++ rest) ≡ length own
len_is stop [] rest h k = len_stops stop rest k
len_is stop (byte ∷ own) rest h k =
    let parts = both_true (not (byte == stop)) (list_all (λ byte. not (byte == stop)) own) h in
    rw (parts.0, len_is stop own rest parts.1 k) (one-add (length own))

pub front_is : (stop : ℕ) (own rest : Text) → Lacks stop own → Stops stop rest → front stop (own ++ rest) ≡ own
front_is stop own rest h k = rw (len_is stop own rest h k) (take-append_seam own rest)

pub back_is : (stop : ℕ) (own rest : Text) → Lacks stop own → Stops stop rest → back stop (own ++ rest) ≡ rest
back_is stop own rest h k = rw (len_is stop own rest h k) (drop-append_seam own rest)

pub front_and_back : (stop : ℕ) (text : Text) → text ≡ front stop text ++ back stop text
front_and_back stop text = sym (take-append-drop (len_before stop text) text)

-- a text is cut at a byte in one way
pub one_cut : (stop : ℕ) (a b x y : Text) → Lacks stop a → Lacks stop b → Stops stop x → Stops stop y → a ++ x ≡ b ++ y → (a ≡ b) × (x ≡ y)
one_cut stop a b x y h k l m e = (
  sym (front_is stop a x h l) ∙ ap (front stop) e ∙ front_is stop b y k m,
  sym (back_is stop a x h l) ∙ ap (back stop) e ∙ back_is stop b y k m,
)

pub same_front : (a x y : Text) → a ++ x ≡ a ++ y → x ≡ y
same_front a x y e = sym (drop-append_seam a x) ∙ ap (drop (length a)) e ∙ drop-append_seam a y
