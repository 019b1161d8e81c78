-- The longest suffix of an integer constant is the one that is read.
use Rattle.std.proofs.Common.{◌≡◌, ℕ, suc, ◌+◌, ◌≤◌, Bool, true, false, cond, ◌||◌, ◌==◌, nat_lt, [], ◌∷◌, ◌++◌, length, take, drop, refl, arith, inl, inr, codes, append_assoc, length-drop}
use Rattle.std.proofs.lemmas.Bool.Decides.{nat_tests}
use Rattle.std.specs.List.{list_all}
use Rattle.std.proofs.lemmas.List.{append-nil}
use Rattle.std.proofs.lemmas.List.Folds.{list_all-append}
use Rattle.std.proofs.Math.Seq.{take-add}
use Rattle.pa_lex.proofs.Runs.{both_true}
use Rattle.pa_lex.specs.Texts.{Text}
use Rattle.pa_lex.specs.Literals.{IsUnsignedSuffix, IsLongSuffix, IsSuffix, is_u, is_l}
use Rattle.pa_lex.specs.Reading.{unsigned_len, long_len, suffix_len}

long_one : (c : ℕ) (r : Text) → is_l c ≡ true → 1 ≤ long_len (c ∷ r)
long_one c [] h = rw h (omega arith)
long_one c (d ∷ r) h = rw h (one_or_two (c == d))
  where
    one_or_two : (b : Bool) → 1 ≤ cond b 2 1
    one_or_two true = omega arith
    one_or_two false = omega arith

-- an l or ll is at most as long as what is read
long_longest : (l r : Text) → IsLongSuffix l → length l ≤ long_len (l ++ r)
long_longest l r (inl e) = rw e (omega arith)
long_longest l r (inr (inl e)) = rw e (long_one 108 r refl)
long_longest l r (inr (inr (inl e))) = rw e (long_one 76 r refl)
long_longest l r (inr (inr (inr (inl e)))) = rw e (omega arith)
long_longest l r (inr (inr (inr (inr e)))) = rw e (omega arith)

long_alone : (l r : Text) → IsLongSuffix l → length l ≤ suffix_len (l ++ r)
unfolding suffix_len
long_alone l r (inl e) = rw e (omega arith)
long_alone l r (inr (inl e)) = rw e (omega (arith, long_one 108 r refl))
long_alone l r (inr (inr (inl e))) = rw e (omega (arith, long_one 76 r refl))
long_alone l r (inr (inr (inr (inl e)))) = rw e (omega arith)
long_alone l r (inr (inr (inr (inr e)))) = rw e (omega arith)

lower_behind : (l r : Text) → IsLongSuffix l → length (l ++ (117 ∷ [])) ≤ suffix_len (l ++ (117 ∷ r))
unfolding suffix_len
lower_behind l r (inl e) = rw e (omega arith)
lower_behind l r (inr (inl e)) = rw e (omega arith)
lower_behind l r (inr (inr (inl e))) = rw e (omega arith)
lower_behind l r (inr (inr (inr (inl e)))) = rw e (omega arith)
lower_behind l r (inr (inr (inr (inr e)))) = rw e (omega arith)

upper_behind : (l r : Text) → IsLongSuffix l → length (l ++ (85 ∷ [])) ≤ suffix_len (l ++ (85 ∷ r))
unfolding suffix_len
upper_behind l r (inl e) = rw e (omega arith)
upper_behind l r (inr (inl e)) = rw e (omega arith)
upper_behind l r (inr (inr (inl e))) = rw e (omega arith)
upper_behind l r (inr (inr (inr (inl e)))) = rw e (omega arith)
upper_behind l r (inr (inr (inr (inr e)))) = rw e (omega arith)

before_longest : (u l r : Text) → IsUnsignedSuffix u → IsLongSuffix l → length (u ++ l) ≤ suffix_len ((u ++ l) ++ r)
unfolding suffix_len
before_longest u l r (inl e) h = rw e (long_alone l r h)
before_longest u l r (inr (inl e)) h = rw e (omega (arith, long_longest l r h))
before_longest u l r (inr (inr e)) h = rw e (omega (arith, long_longest l r h))

behind_longest : (u l r : Text) → IsUnsignedSuffix u → IsLongSuffix l → length (l ++ u) ≤ suffix_len ((l ++ u) ++ r)
behind_longest u l r (inl e) h = rw (e, append-nil) (long_alone l r h)
behind_longest u l r (inr (inl e)) h = rw (e, append_assoc l (codes "u") r) (lower_behind l r h)
behind_longest u l r (inr (inr e)) h = rw (e, append_assoc l (codes "U") r) (upper_behind l r h)

-- no suffix that begins a text is longer than what is read
pub suffix_longest : (s r : Text) → IsSuffix s → length s ≤ suffix_len (s ++ r)
suffix_longest s r (u, l, h, k, inl e) = rw e (before_longest u l r h k)
suffix_longest s r (u, l, h, k, inr e) = rw e (behind_longest u l r h k)

is_u_text : (c : ℕ) → is_u c ≡ true → IsUnsignedSuffix (c ∷ [])
is_u_text c h = by_tests (c == 117) (c == 85) refl refl h
  where
    by_tests : (a b : Bool) → (c == 117) ≡ a → (c == 85) ≡ b → (a || b) ≡ true → IsUnsignedSuffix (c ∷ [])
    by_tests true b e f g = let x : c ≡ 117 = grind (arith, nat_tests) in inr (inl (rw x refl))
    by_tests false true e f g = let x : c ≡ 85 = grind (arith, nat_tests) in inr (inr (rw x refl))
    by_tests false false e f g = cc

unsigned_by : (c : ℕ) (t : Text) (b : Bool) → is_u c ≡ b → IsUnsignedSuffix (take (cond b 1 0) (c ∷ t))
unsigned_by c t true e = is_u_text c e
unsigned_by c t false e = inl refl

unsigned_fits : (t : Text) → IsUnsignedSuffix (take (unsigned_len t) t)
unsigned_fits [] = inl refl
unsigned_fits (c ∷ t) = unsigned_by c t (is_u c) refl

one_l : (c : ℕ) → is_l c ≡ true → IsLongSuffix (c ∷ [])
one_l c h = by_tests (c == 108) (c == 76) refl refl h
  where
    by_tests : (a b : Bool) → (c == 108) ≡ a → (c == 76) ≡ b → (a || b) ≡ true → IsLongSuffix (c ∷ [])
    by_tests true b e f g = let x : c ≡ 108 = grind (arith, nat_tests) in inr (inl (rw x refl))
    by_tests false true e f g = let x : c ≡ 76 = grind (arith, nat_tests) in inr (inr (inl (rw x refl)))
    by_tests false false e f g = cc

two_l : (c : ℕ) → is_l c ≡ true → IsLongSuffix (c ∷ (c ∷ []))
two_l c h = by_tests (c == 108) (c == 76) refl refl h
  where
    by_tests : (a b : Bool) → (c == 108) ≡ a → (c == 76) ≡ b → (a || b) ≡ true → IsLongSuffix (c ∷ (c ∷ []))
    by_tests true b e f g = let x : c ≡ 108 = grind (arith, nat_tests) in inr (inr (inr (inl (rw x refl))))
    by_tests false true e f g = let x : c ≡ 76 = grind (arith, nat_tests) in inr (inr (inr (inr (rw x refl))))
    by_tests false false e f g = cc

long_by : (c d : ℕ) (t : Text) (a b : Bool) → is_l c ≡ a → (c == d) ≡ b → IsLongSuffix (take (cond a (cond b 2 1) 0) (c ∷ (d ∷ t)))
long_by c d t true true e f = let x : c ≡ d = grind (arith, nat_tests) in rw (← x) (two_l c e)
long_by c d t true false e f = one_l c e
long_by c d t false b e f = inl refl

long_single : (c : ℕ) (a : Bool) → is_l c ≡ a → IsLongSuffix (take (cond a 1 0) (c ∷ []))
long_single c true e = one_l c e
long_single c false e = inl refl

long_fits : (t : Text) → IsLongSuffix (take (long_len t) t)
long_fits [] = inl refl
long_fits (c ∷ []) = long_single c (is_l c) refl
long_fits (c ∷ (d ∷ t)) = long_by c d t (is_l c) (c == d) refl refl

-- what is read is a suffix
pub suffix_fits : (t : Text) → IsSuffix (take (suffix_len t) t)
unfolding suffix_len
suffix_fits t = by_test (nat_lt 0 (unsigned_len t)) refl
  where
    by_test : (b : Bool) → nat_lt 0 (unsigned_len t) ≡ b → IsSuffix (take (cond b (unsigned_len t + long_len (drop (unsigned_len t) t)) (long_len t + unsigned_len (drop (long_len t) t))) t)
    by_test true e = (take (unsigned_len t) t, take (long_len (drop (unsigned_len t) t)) (drop (unsigned_len t) t), unsigned_fits t, long_fits (drop (unsigned_len t) t), inl (take-add (unsigned_len t) (long_len (drop (unsigned_len t) t)) t))
    by_test false e = (take (unsigned_len (drop (long_len t) t)) (drop (long_len t) t), take (long_len t) t, unsigned_fits (drop (long_len t) t), long_fits t, inr (take-add (long_len t) (unsigned_len (drop (long_len t) t)) t))

abbrev pub is_suffix_byte : ℕ → Bool
is_suffix_byte c = is_u c || is_l c

unsigned_passes : (u : Text) → IsUnsignedSuffix u → list_all is_suffix_byte u ≡ true
unsigned_passes u (inl e) = rw e refl
unsigned_passes u (inr (inl e)) = rw e refl
unsigned_passes u (inr (inr e)) = rw e refl

long_passes : (l : Text) → IsLongSuffix l → list_all is_suffix_byte l ≡ true
long_passes l (inl e) = rw e refl
long_passes l (inr (inl e)) = rw e refl
long_passes l (inr (inr (inl e))) = rw e refl
long_passes l (inr (inr (inr (inl e)))) = rw e refl
long_passes l (inr (inr (inr (inr e)))) = rw e refl

suffix_passes : (s : Text) → IsSuffix s → list_all is_suffix_byte s ≡ true
suffix_passes s (u, l, h, k, inl e) = rw (e, list_all-append is_suffix_byte u l, unsigned_passes u h, long_passes l k) refl
suffix_passes s (u, l, h, k, inr e) = rw (e, list_all-append is_suffix_byte l u, unsigned_passes u h, long_passes l k) refl

-- a suffix begins with a u or an l
pub suffix_first : (c : ℕ) (s : Text) → IsSuffix (c ∷ s) → is_suffix_byte c ≡ true
suffix_first c s h = (both_true (is_suffix_byte c) (list_all is_suffix_byte s) (suffix_passes (c ∷ s) h)).0

unsigned_within : (t : Text) → unsigned_len t ≤ length t
unsigned_within [] = omega arith
unsigned_within (c ∷ t) = by_test (is_u c)
  where
    by_test : (b : Bool) → cond b 1 0 ≤ suc (length t)
    by_test true = omega arith
    by_test false = omega arith

long_within : (t : Text) → long_len t ≤ length t
long_within [] = omega arith
long_within (c ∷ []) = by_test (is_l c)
  where
    by_test : (b : Bool) → cond b 1 0 ≤ 1
    by_test true = omega arith
    by_test false = omega arith
long_within (c ∷ (d ∷ t)) = by_tests (is_l c) (c == d)
  where
    by_tests : (a b : Bool) → cond a (cond b 2 1) 0 ≤ suc (suc (length t))
    by_tests true true = omega arith
    by_tests true false = omega arith
    by_tests false b = omega arith

pub suffix_within : (t : Text) → suffix_len t ≤ length t
unfolding suffix_len
suffix_within t = by_test (nat_lt 0 (unsigned_len t))
  where
    by_test : (b : Bool) → cond b (unsigned_len t + long_len (drop (unsigned_len t) t)) (long_len t + unsigned_len (drop (long_len t) t)) ≤ length t
    by_test true = omega (arith, unsigned_within t, long_within (drop (unsigned_len t) t), length-drop (unsigned_len t) t)
    by_test false = omega (arith, long_within t, unsigned_within (drop (long_len t) t), length-drop (long_len t) t)
