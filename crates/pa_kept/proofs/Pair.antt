-- A program and its runtime image where they are loaded: the classes of all places.
use Rattle.std.proofs.Common.{◌≡◌, ℕ, zero, suc, ◌+◌, ◌*◌, ◌^◌, ◌<◌, ◌≤◌, ◌%◌, List, [], ◌∷◌, ◌++◌, length, map, refl, sym, ap, subst, ◌∙◌, arith, Option, Some, None, ◌⊎◌, inl, inr}
use Rattle.std.specs.Prelude.{Bool, true, false, cond, ◌||◌, slice_get}
use Rattle.std.specs.Option.{option_or}
use Rattle.std.proofs.lemmas.Bool.{true≢false, or_left, or_right, or_cases, cases_lt}
use Rattle.pa_macho.specs.Layout.{places_of}
use Rattle.pa_image.specs.declared.image.Image.{Image}
use Rattle.pa_image.specs.Bytes.{header_of}
use Rattle.pa_image.specs.Writing.{IsLegal}
use Rattle.pa_image.specs.Places.{Mapped, text_base, mark_address, entries, afters, afters_from, calls, code_areas, word_of, word_from}
use Rattle.pa_check.specs.Text.{text_of, is_marked, place}
use Rattle.pa_check.specs.Windowed.{IsWindowed}
use Rattle.pa_check.proofs.Legal.{stubs_behind}
use Rattle.pa_check.proofs.Words.{length-text, stub_words_of, text_stubs}
use Rattle.pa_kept.specs.Kept.{CodeAt}
use Rattle.pa_kept.specs.Images.{code_of}
use Rattle.pa_kept.proofs.Sound.{Class, Off, Head, Free, Has, Sound}
use Rattle.pa_kept.proofs.Lists.{has, has-append, word_from-outside, marks-has, marks-only, afters-has, afters-only}
use Rattle.pa_kept.proofs.Located.{class_image, word_image, Lies, marked_text, image_has, image_after, start_here, text_class, stub_class, or_class, text_class-outside, stub_class-outside}

pub record Pair : Type 0 where
  pub main : Image
  pub runtime : Image
  pub base : ℕ
  pub runtime_base : ℕ
  pub main_legal : IsLegal main
  pub runtime_legal : IsLegal runtime
  pub main_windowed : IsWindowed main
  pub runtime_windowed : IsWindowed runtime
  pub even : base % 4096 ≡ 0
  pub runtime_even : runtime_base % 4096 ≡ 0
  pub before : base + ((places_of (header_of main)).stubs + 4 * length main.stubs) ≤ runtime_base
  pub high : runtime_base < 2 ^ 50

abbrev pub images : Pair → List Mapped
images p = record { base = p.base; image = p.main } ∷ record { base = p.runtime_base; image = p.runtime } ∷ []

abbrev class_or : Option Class → Class
class_or None = Off
class_or (Some c) = c

unfoldable pub classes : Pair → ℕ → Class
classes p a = class_or (or_class (class_image p.base (text_of p.main) a) (class_image p.runtime_base (text_of p.runtime) a))

module _ (p : Pair) where
  code : CodeAt
  code = code_of (images p)

  -- nothing of the program lies where the runtime image does
  main_none : (a : ℕ) → p.runtime_base ≤ a → class_image p.base (text_of p.main) a ≡ None
  unfolding class_image
  main_none a h =
      let b = p.before in let c = stubs_behind p.main in let d = length-text p.main in let e = stub_words_of p.main in let f = text_stubs p.main in
      rw (text_class-outside p.base (text_of p.main) a (λ z. omega arith)) (stub_class-outside p.base (text_of p.main) a (λ z. omega arith))

  low_none : (a : ℕ) → a < p.runtime_base → class_image p.runtime_base (text_of p.runtime) a ≡ None
  unfolding class_image
  low_none a h = rw (text_class-outside p.runtime_base (text_of p.runtime) a (λ z. absurd (omega arith))) (stub_class-outside p.runtime_base (text_of p.runtime) a (λ z. absurd (omega arith)))

  word_none : (a : ℕ) → p.runtime_base ≤ a → word_image p.base p.main a ≡ None
  word_none a h =
      let b = p.before in let c = stubs_behind p.main in
      rw (word_from-outside (text_base p.base) p.main.text a (λ z. omega arith)) (word_from-outside (p.base + (places_of (header_of p.main)).stubs) p.main.stubs a (λ z. omega arith))

  main_class : (a : ℕ) (c : Class) → class_image p.base (text_of p.main) a ≡ Some c → classes p a ≡ c
  unfolding classes
  main_class a c h = rw h refl

  runtime_class : (a : ℕ) (c : Class) → class_image p.runtime_base (text_of p.runtime) a ≡ Some c → classes p a ≡ c
  unfolding classes
  runtime_class a c h = rw (main_none a (low (cases_lt a p.runtime_base)), h) refl
    where
      low : ((a < p.runtime_base) ⊎ (p.runtime_base ≤ a)) → p.runtime_base ≤ a
      low (inl l) = absurd (grind (arith, sym (low_none a l) ∙ h))
      low (inr l) = l

  or_third : (a b c d : Option ℕ) → option_or a (option_or b (option_or c (option_or d None))) ≡ option_or (option_or a b) (option_or c d)
  or_third None None None None = refl
  or_third None None None (Some x) = refl
  or_third None None (Some x) d = refl
  or_third None (Some x) c d = refl
  or_third (Some x) b c d = refl

  word_is : (a : ℕ) → word_of (code_areas (images p)) a ≡ option_or (word_image p.base p.main a) (word_image p.runtime_base p.runtime a)
  word_is a = or_third (word_from (text_base p.base) p.main.text a) (word_from (p.base + (places_of (header_of p.main)).stubs) p.main.stubs a) (word_from (text_base p.runtime_base) p.runtime.text a) (word_from (p.runtime_base + (places_of (header_of p.runtime)).stubs) p.runtime.stubs a)

  main_word : (a v : ℕ) → word_image p.base p.main a ≡ Some v → (code_of (images p)).word a ≡ Some v
  unfolding code_of
  main_word a v h = word_is a ∙ rw h refl

  runtime_word : (a v : ℕ) → word_image p.runtime_base p.runtime a ≡ Some v → (code_of (images p)).word a ≡ Some v
  unfolding code_of
  runtime_word a v h = word_is a ∙ rw (word_none a (low (cases_lt a p.runtime_base))) h
    where
      low : ((a < p.runtime_base) ⊎ (p.runtime_base ≤ a)) → p.runtime_base ≤ a
      low (inl l) = absurd (grind (arith, sym none ∙ h))
        where
          none : word_image p.runtime_base p.runtime a ≡ None
          none = rw (word_from-outside (text_base p.runtime_base) p.runtime.text a (λ z. absurd (omega arith))) (word_from-outside (p.runtime_base + (places_of (header_of p.runtime)).stubs) p.runtime.stubs a (λ z. absurd (omega arith)))
      low (inr l) = l

  -- ---- functions and places behind calls

  append_nil : (xs : List ℕ) (a : ℕ) → has (xs ++ []) a ≡ has xs a
  append_nil xs a = has-append xs [] a ∙ go (has xs a)
    where
      go : (b : Bool) → (b || false) ≡ b
      go true = refl
      go false = refl

  entry_is : (a : ℕ) → (code_of (images p)).is_entry a ≡ (has (map (mark_address p.base) p.main.marks) a || has (map (mark_address p.runtime_base) p.runtime.marks) a)
  unfolding code_of
  entry_is a = has-append (map (mark_address p.base) p.main.marks) (map (mark_address p.runtime_base) p.runtime.marks ++ []) a ∙ ap (λ z. has (map (mark_address p.base) p.main.marks) a || z) (append_nil (map (mark_address p.runtime_base) p.runtime.marks) a)

  after_is : (a : ℕ) → (code_of (images p)).is_after a ≡ (has (afters_from (text_base p.base) p.main.text) a || has (afters_from (text_base p.runtime_base) p.runtime.text) a)
  unfolding code_of
  after_is a = has-append (afters_from (text_base p.base) p.main.text) (afters_from (text_base p.runtime_base) p.runtime.text ++ []) a ∙ ap (λ z. has (afters_from (text_base p.base) p.main.text) a || z) (append_nil (afters_from (text_base p.runtime_base) p.runtime.text) a)

  main_marks : (k : ℕ) → is_marked p.main.marks k ≡ true → (code_of (images p)).is_entry (p.base + place k) ≡ true
  main_marks k h = entry_is (p.base + place k) ∙ or_left _ _ (marks-has p.base p.main.marks k h)

  pub runtime_marks : (k : ℕ) → is_marked p.runtime.marks k ≡ true → (code_of (images p)).is_entry (p.runtime_base + place k) ≡ true
  runtime_marks k h = entry_is (p.runtime_base + place k) ∙ or_right _ _ (marks-has p.runtime_base p.runtime.marks k h)

  heads : (a : ℕ) → (code_of (images p)).is_entry a ≡ true → classes p a ≡ Head
  heads a h = go (or_cases _ _ (sym (entry_is a) ∙ h))
    where
      go : (has (map (mark_address p.base) p.main.marks) a ≡ true) ⊎ (has (map (mark_address p.runtime_base) p.runtime.marks) a ≡ true) → classes p a ≡ Head
      go (inl e) = let r = marks-only p.base p.main.marks a e in subst (λ z. classes p z ≡ Head) r.there (main_class (p.base + place r.k) Head (marked_text p.main p.base p.main_legal p.main_windowed r.k r.marked))
      go (inr e) = let r = marks-only p.runtime_base p.runtime.marks a e in subst (λ z. classes p z ≡ Head) r.there (runtime_class (p.runtime_base + place r.k) Head (marked_text p.runtime p.runtime_base p.runtime_legal p.runtime_windowed r.k r.marked))

  main_afters : (k v : ℕ) → slice_get p.main.text k ≡ Some v → calls v ≡ true → (code_of (images p)).is_after (p.base + place (suc k)) ≡ true
  main_afters k v g c = let e : text_base p.base + 4 * k + 4 ≡ p.base + place (suc k) = omega arith in subst (λ z. (code_of (images p)).is_after z ≡ true) e (after_is (text_base p.base + 4 * k + 4) ∙ or_left _ _ (afters-has (text_base p.base) p.main.text k v g c))

  runtime_afters : (k v : ℕ) → slice_get p.runtime.text k ≡ Some v → calls v ≡ true → (code_of (images p)).is_after (p.runtime_base + place (suc k)) ≡ true
  runtime_afters k v g c = let e : text_base p.runtime_base + 4 * k + 4 ≡ p.runtime_base + place (suc k) = omega arith in subst (λ z. (code_of (images p)).is_after z ≡ true) e (after_is (text_base p.runtime_base + 4 * k + 4) ∙ or_right _ _ (afters-has (text_base p.runtime_base) p.runtime.text k v g c))

  pub main_lies : Lies p.main p.base (code_of (images p)) (classes p)
  main_lies = record { legal = p.main_legal; windowed = p.main_windowed; even = p.even; high = (let a = p.before in let b = p.high in omega arith); class = main_class; words = main_word; marks = main_marks; heads = heads; afters = main_afters }

  runtime_lies : Lies p.runtime p.runtime_base (code_of (images p)) (classes p)
  runtime_lies = record { legal = p.runtime_legal; windowed = p.runtime_windowed; even = p.runtime_even; high = p.high; class = runtime_class; words = runtime_word; marks = runtime_marks; heads = heads; afters = runtime_afters }

  off : (a : ℕ) → class_image p.base (text_of p.main) a ≡ None → class_image p.runtime_base (text_of p.runtime) a ≡ None → classes p a ≡ Off
  unfolding classes
  off a e f = rw (e, f) refl

  each_has : (a : ℕ) → Has (code_of (images p)) (classes p) a (classes p a)
  each_has a = go (class_image p.base (text_of p.main) a) refl
    where
      second : class_image p.base (text_of p.main) a ≡ None → (o : Option Class) → class_image p.runtime_base (text_of p.runtime) a ≡ o → Has (code_of (images p)) (classes p) a (classes p a)
      second e None f = subst (λ z. Has (code_of (images p)) (classes p) a z) (sym (off a e f)) tt
      second e (Some c) f = subst (λ z. Has (code_of (images p)) (classes p) a z) (sym (runtime_class a c f)) (image_has p.runtime p.runtime_base (code_of (images p)) (classes p) runtime_lies a c f)

      go : (o : Option Class) → class_image p.base (text_of p.main) a ≡ o → Has (code_of (images p)) (classes p) a (classes p a)
      go None e = second e (class_image p.runtime_base (text_of p.runtime) a) refl
      go (Some c) e = subst (λ z. Has (code_of (images p)) (classes p) a z) (sym (main_class a c e)) (image_has p.main p.base (code_of (images p)) (classes p) main_lies a c e)

  backs : (a : ℕ) → (code_of (images p)).is_after a ≡ true → classes p a ≡ Free
  backs a h = go (or_cases _ _ (sym (after_is a) ∙ h))
    where
      go : (has (afters_from (text_base p.base) p.main.text) a ≡ true) ⊎ (has (afters_from (text_base p.runtime_base) p.runtime.text) a ≡ true) → classes p a ≡ Free
      go (inl e) = let r = afters-only (text_base p.base) p.main.text a e in let t = r.there in let q : p.base + place (suc r.k) ≡ a = omega arith in subst (λ z. classes p z ≡ Free) q (image_after p.main p.base (code_of (images p)) (classes p) main_lies r.k r.word r.get r.call)
      go (inr e) = let r = afters-only (text_base p.runtime_base) p.runtime.text a e in let t = r.there in let q : p.runtime_base + place (suc r.k) ≡ a = omega arith in subst (λ z. classes p z ≡ Free) q (image_after p.runtime p.runtime_base (code_of (images p)) (classes p) runtime_lies r.k r.word r.get r.call)

  pub pair_sound : Sound (code_of (images p)) (classes p)
  pair_sound = record { has = each_has; heads = heads; backs = backs }

  pub begins_free : (text_of p.main).start ≡ 3 → classes p (p.base + place 0) ≡ Free
  begins_free e = start_here p.main p.base (code_of (images p)) (classes p) main_lies e
