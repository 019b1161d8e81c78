-- A windowed image where it lies: the classes of its places, and that its words fit them.
use Rattle.std.proofs.Common.{◌≡◌, ℕ, ℤ, zero, suc, ◌+◌, ◌-◌, ◌*◌, ◌/◌, ◌%◌, ◌^◌, ◌<◌, ◌≤◌, List, [], ◌∷◌, length, get_or, map, refl, sym, ap, subst, ◌∙◌, arith, Option, Some, None, ◌⊎◌, inl, inr, All}
use Rattle.std.specs.Prelude.{Bool, true, false, cond, not, ◌&&◌, ◌||◌, leb, ltb, eqb, slice_get, ◌==◌, codes}
use Rattle.std.specs.Str.{bytes_eq}
use Rattle.std.specs.Option.{option_or, option_map_or}
use Rattle.std.proofs.lemmas.Bool.{true≢false, and_parts, and_from, or_cases, or_left, or_right, eqb-true, eq-eqb, leb-true, le-leb, ltb-true, ltb-false, lt-ltb, cases_lt, not-false}
use Rattle.std.proofs.lemmas.List.Elements.{All-head, All-tail}
use Rattle.std.proofs.lemmas.Option.{slice_get-get_or, slice_get_within, slice_get_past, get_or_from_slice_get}
use Rattle.pa_num.specs.Arithmetic.{add64, scaled64}
use Rattle.pa_a64.specs.declared.instr.Instr.{Instr}
use Rattle.pa_a64.specs.declared.instr.Instr.TheVariants as i
use Rattle.pa_a64.specs.declared.instr.SumImmediateOp.TheVariants as immediate
use Rattle.pa_a64.specs.declared.instr.LoadStoreOp.TheVariants.{Ldr, Str}
use Rattle.pa_a64.specs.declared.instr.BranchOp.TheVariants.{B, Bl}
use Rattle.pa_a64.specs.declared.instr.BranchAuthenticatedOp.TheVariants.{Braa, Blraa, Blrab}
use Rattle.pa_a64.specs.declared.instr.ExceptionOp.TheVariants.{Svc, Brk}
use Rattle.pa_a64.specs.Decoding.{decoded}
use Rattle.pa_macho.specs.declared.header.Role.{Role}
use Rattle.pa_macho.specs.declared.header.Role.TheVariants.{Main, Library}
use Rattle.pa_macho.specs.Layout.{places_of, base_of}
use Rattle.pa_object.specs.declared.object.Mark.{Mark}
use Rattle.pa_image.specs.declared.image.Image.{Image}
use Rattle.pa_image.specs.Bytes.{header_of}
use Rattle.pa_image.specs.Writing.{IsLegal}
use Rattle.pa_image.specs.Places.{text_base, word_from, mark_address, function_at, calls, is_call}
use Rattle.pa_check.specs.declared.rule.CheckRule.{CheckRule}
use Rattle.pa_check.specs.declared.rule.CheckRule.TheVariants.{K1, K6, K7}
use Rattle.pa_check.specs.declared.rule.Flaw.{Flaw}
use Rattle.pa_check.specs.declared.word.Word.{Word}
use Rattle.pa_check.specs.Text.{Text, text_of, start_size, is_marked, place, number_at, nth, at_place, marked_in, word_at, is_entry, is_stub, target}
use Rattle.pa_check.specs.Windows.{Spot, all_spots}
use Rattle.pa_check.specs.Rules.{is_start, start_rule, function_rule, word_rule, is_stub_word, stub_rule, given_rule}
use Rattle.pa_check.specs.Windowed.{flaw_of, first_word, flaw_from, cut_start, first_stub, first_slot, first_flaw, IsWindowed}
use Rattle.pa_check.proofs.Legal.{marks_inside, small, stubs_whole, stubs_behind}
use Rattle.pa_check.proofs.Passes.{spots_length}
use Rattle.pa_check.proofs.Words.{length-text, instr_of, marked_of, stub_words_of, text_main, text_stubs, mark_at}
use Rattle.pa_kept.specs.Kept.{CodeAt}
use Rattle.pa_kept.proofs.Sound.{Class, Off, Head, Free, Within, Adding, Stub, Fits, FitsFree, FitsStub, Stands, Has}
use Rattle.pa_kept.proofs.Locals.{Local, local, length-spots}
use Rattle.pa_kept.proofs.Checked.{class_of, class_round, Among, each_fits, each_row, after_fits, add64_small, add64_moved, number_found, number_place}
use Rattle.pa_kept.proofs.Lists.{word_from-at, word_from-outside}

-- ---- no rule is broken

pub none_or : (a b : Option Flaw) → option_or a b ≡ None → (a ≡ None) × (b ≡ None)
none_or None b h = (refl, h)
none_or (Some x) b h = absurd (grind (arith, h))

no_flaw : (at : ℕ) (r : Option CheckRule) → flaw_of at r ≡ None → r ≡ None
no_flaw at None h = refl
no_flaw at (Some r) h = absurd (grind (arith, h))

pub record Passes (image : Image) (t : Text) (from : ℕ) : Type 0 where
  pub words : first_word t (all_spots t) 0 (all_spots t) ≡ None
  pub whole : cut_start t ≡ None
  pub stubs : first_stub t from (image.got / 8) 0 image.stubs ≡ None
  pub slots : first_slot image t from ≡ None

pub passes : (image : Image) → IsWindowed image → Passes image (text_of image) (places_of (header_of image)).got
unfolding first_flaw
passes image h =
    let a = none_or _ _ h in
    let b = none_or _ _ a.1 in
    let c = none_or _ _ b.1 in
    record { words = a.0; whole = b.0; stubs = c.0; slots = c.1 }

word_passes : (t : Text) (all : List Spot) (k : ℕ) (ss : List Spot) (j : ℕ) (s : Spot) → first_word t all k ss ≡ None → slice_get ss j ≡ Some s → word_rule t all (k + j) s ≡ None
unfolding first_word
word_passes t all k [] j s h g = absurd (grind (arith, g))
word_passes t all k (x ∷ ss) zero s h g = let e : x ≡ s = grind (arith, g) in let f : k ≡ k + 0 = omega arith in subst (λ z. word_rule t all z s ≡ None) f (subst (λ z. word_rule t all k z ≡ None) e (no_flaw _ _ (none_or _ _ h).0))
word_passes t all k (x ∷ ss) (suc j) s h g = let f : suc k + j ≡ k + suc j = omega arith in subst (λ z. word_rule t all z s ≡ None) f (word_passes t all (suc k) ss j s (none_or _ _ h).1 g)

stub_passes : (t : Text) (from slots n : ℕ) (words : List ℕ) (j w : ℕ) → first_stub t from slots n words ≡ None → slice_get words j ≡ Some w → stub_rule t from slots (n + j) (decoded w) ≡ None
unfolding first_stub
stub_passes t from slots n [] j w h g = absurd (grind (arith, g))
stub_passes t from slots n (x ∷ words) zero w h g = let e : x ≡ w = grind (arith, g) in let f : n ≡ n + 0 = omega arith in subst (λ z. stub_rule t from slots z (decoded w) ≡ None) f (subst (λ z. stub_rule t from slots n (decoded z) ≡ None) e (no_flaw _ _ (none_or _ _ h).0))
stub_passes t from slots n (x ∷ words) (suc j) w h g = let f : suc n + j ≡ n + suc j = omega arith in subst (λ z. stub_rule t from slots z (decoded w) ≡ None) f (stub_passes t from slots (suc n) words j w (none_or _ _ h).1 g)

-- ---- classes by place

abbrev pub spot_class : (base : ℕ) → Text → (k : ℕ) → Option Spot → Option Class
spot_class base t k None = None
spot_class base t k (Some s) = Some (class_of base t k s)

abbrev pub number_class : (base : ℕ) → Text → Option ℕ → Option Class
number_class base t None = None
number_class base t (Some k) = spot_class base t k (slice_get (all_spots t) k)

abbrev pub text_class : (base : ℕ) → Text → (a : ℕ) → Option Class
text_class base t a = cond (leb base a) (number_class base t (number_at (a - base))) None

abbrev pub is_stub_place : (from words a : ℕ) → Bool
is_stub_place from words a = leb from a && (ltb ((a - from) / 4) words && eqb ((a - from) % 4) 0)

abbrev pub stub_class : (base : ℕ) → Text → (a : ℕ) → Option Class
stub_class base t a = cond (is_stub_place (base + t.stubs) t.stub_words a) (Some (Stub ((a - (base + t.stubs)) / 4 % 4))) None

abbrev pub or_class : Option Class → Option Class → Option Class
or_class None c = c
or_class (Some c) d = Some c

unfoldable pub class_image : (base : ℕ) → Text → (a : ℕ) → Option Class
class_image base t a = or_class (text_class base t a) (stub_class base t a)

-- the word that an image has at a place
abbrev pub word_image : (base : ℕ) → Image → (a : ℕ) → Option ℕ
word_image base image a = option_or (word_from (text_base base) image.text a) (word_from (base + (places_of (header_of image)).stubs) image.stubs a)

text_class-at : (base : ℕ) (t : Text) (k : ℕ) → text_class base t (base + place k) ≡ spot_class base t k (slice_get (all_spots t) k)
text_class-at base t k =
    let a : leb base (base + place k) ≡ true = le-leb _ _ (omega arith) in
    let b : base + place k - base ≡ place k = omega arith in
    rw (a, b, number_place k) refl

record TextAt (base : ℕ) (t : Text) (a : ℕ) (c : Class) : Type 0 where
  k : ℕ
  spot : Spot
  get : slice_get (all_spots t) k ≡ Some spot
  there : base + place k ≡ a
  is : c ≡ class_of base t k spot

text_found : (base : ℕ) (t : Text) (a : ℕ) (c : Class) → text_class base t a ≡ Some c → TextAt base t a c
text_found base t a c h = go (leb base a) refl h
  where
    last : (k : ℕ) → base + place k ≡ a → (o : Option Spot) → slice_get (all_spots t) k ≡ o → spot_class base t k o ≡ Some c → TextAt base t a c
    last k e None g z = absurd (grind (arith, z))
    last k e (Some s) g z = record { k = k; spot = s; get = g; there = e; is = grind (arith, z) }

    at : base ≤ a → (o : Option ℕ) → number_at (a - base) ≡ o → number_class base t o ≡ Some c → TextAt base t a c
    at l None g z = absurd (grind (arith, z))
    at l (Some k) g z = let e = number_found (a - base) k g in last k (omega arith) (slice_get (all_spots t) k) refl z

    go : (b : Bool) → leb base a ≡ b → cond b (number_class base t (number_at (a - base))) None ≡ Some c → TextAt base t a c
    go false e z = absurd (grind (arith, z))
    go true e z = at (leb-true _ _ e) (number_at (a - base)) refl z

pub text_class-outside : (base : ℕ) (t : Text) (a : ℕ) → (base ≤ a → base + place (length t.words) ≤ a) → text_class base t a ≡ None
text_class-outside base t a h = go (text_class base t a) refl
  where
    go : (o : Option Class) → text_class base t a ≡ o → o ≡ None
    go None e = refl
    go (Some c) e =
        let f = text_found base t a c e in
        let l = f.there in
        let m = h (omega arith) in
        let n = within f.k f.spot f.get (cases_lt f.k (length t.words)) in
        absurd (omega arith)
      where
        within : (k : ℕ) (s : Spot) → slice_get (all_spots t) k ≡ Some s → ((k < length t.words) ⊎ (length t.words ≤ k)) → k < length t.words
        within k s g (inl l) = l
        within k s g (inr l) = let z = slice_get_within (all_spots t) k s g in let n = spots_length t in omega arith

stub_class-at : (base : ℕ) (t : Text) (n : ℕ) → n < t.stub_words → stub_class base t (base + t.stubs + 4 * n) ≡ Some (Stub (n % 4))
stub_class-at base t n h =
    let a : leb (base + t.stubs) (base + t.stubs + 4 * n) ≡ true = le-leb _ _ (omega arith) in
    let b : (base + t.stubs + 4 * n - (base + t.stubs)) / 4 ≡ n = omega arith in
    let c : (base + t.stubs + 4 * n - (base + t.stubs)) % 4 ≡ 0 = omega arith in
    rw (a, b, c, lt-ltb n t.stub_words h) refl

record StubAt (base : ℕ) (t : Text) (a : ℕ) (c : Class) : Type 0 where
  n : ℕ
  within : n < t.stub_words
  there : base + t.stubs + 4 * n ≡ a
  is : c ≡ Stub (n % 4)

stub_found : (base : ℕ) (t : Text) (a : ℕ) (c : Class) → stub_class base t a ≡ Some c → StubAt base t a c
stub_found base t a c h = go (is_stub_place (base + t.stubs) t.stub_words a) refl h
  where
    go : (b : Bool) → is_stub_place (base + t.stubs) t.stub_words a ≡ b → cond b (Some (Stub ((a - (base + t.stubs)) / 4 % 4))) None ≡ Some c → StubAt base t a c
    go false e z = absurd (grind (arith, z))
    go true e z =
        let p = and_parts _ _ e in let q = and_parts _ _ p.1 in
        let l : base + t.stubs ≤ a = leb-true _ _ p.0 in
        let m : (a - (base + t.stubs)) % 4 ≡ 0 = eqb-true _ _ q.1 in
        record { n = (a - (base + t.stubs)) / 4; within = ltb-true _ _ q.0; there = omega arith; is = grind (arith, z) }

pub stub_class-outside : (base : ℕ) (t : Text) (a : ℕ) → (base + t.stubs ≤ a → base + t.stubs + 4 * t.stub_words ≤ a) → stub_class base t a ≡ None
stub_class-outside base t a h = go (stub_class base t a) refl
  where
    go : (o : Option Class) → stub_class base t a ≡ o → o ≡ None
    go None e = refl
    go (Some c) e = let f = stub_found base t a c e in let l = f.there in let w = f.within in let m = h (omega arith) in absurd (omega arith)

-- ---- `_main`

record MainAt (marks : List Mark) (at : ℕ) : Type 0 where
  k : ℕ
  marked : is_marked marks k ≡ true
  there : at ≡ place k

main_found : (marks : List Mark) (name : List ℕ) (at : ℕ) → function_at 0 marks name ≡ Some at → MainAt marks at
main_found [] name at h = absurd (grind (arith, h))
main_found (m ∷ marks) name at h = go (bytes_eq name m.name) h (λ g. later (main_found marks name at g))
  where
    later : MainAt marks at → MainAt (m ∷ marks) at
    later r = record { k = r.k; marked = or_right _ _ r.marked; there = r.there }

    go : (b : Bool) → cond b (Some (mark_address 0 m)) (function_at 0 marks name) ≡ Some at → (function_at 0 marks name ≡ Some at → MainAt (m ∷ marks) at) → MainAt (m ∷ marks) at
    go true z ih = let e : mark_address 0 m ≡ at = grind (arith, z) in record { k = m.at; marked = or_left _ _ (eq-eqb m.at m.at refl); there = omega arith }
    go false z ih = ih z

mark_inside : (n : ℕ) (marks : List Mark) (k : ℕ) → All (λ mark. mark.at < n) marks → is_marked marks k ≡ true → k < n
mark_inside n [] k a h = absurd (true≢false (sym h))
mark_inside n (m ∷ marks) k a h = go (All-head (λ mark. mark.at < n) m marks a) (or_cases _ _ h) (λ e. mark_inside n marks k (All-tail (λ mark. mark.at < n) m marks a) e)
  where
    go : m.at < n → (eqb m.at k ≡ true) ⊎ (is_marked marks k ≡ true) → (is_marked marks k ≡ true → k < n) → k < n
    go c (inl e) ih = let b = eqb-true _ _ e in omega arith
    go c (inr e) ih = ih e

-- ---- an image at a base

-- what an image and all code around it have to do with each other
pub record Lies (image : Image) (base : ℕ) (w : CodeAt) (cls : ℕ → Class) : Type 0 where
  pub legal : IsLegal image
  pub windowed : IsWindowed image
  pub even : base % 4096 ≡ 0
  pub high : base < 2 ^ 50
  pub class : (a : ℕ) (c : Class) → class_image base (text_of image) a ≡ Some c → cls a ≡ c
  pub words : (a v : ℕ) → word_image base image a ≡ Some v → w.word a ≡ Some v
  pub marks : (k : ℕ) → is_marked image.marks k ≡ true → w.is_entry (base + place k) ≡ true
  pub heads : (a : ℕ) → w.is_entry a ≡ true → cls a ≡ Head
  pub afters : (k v : ℕ) → slice_get image.text k ≡ Some v → calls v ≡ true → w.is_after (base + place (suc k)) ≡ true

-- a marked word, in a windowed image
pub marked_text : (image : Image) (base : ℕ) → IsLegal image → IsWindowed image → (k : ℕ) → is_marked image.marks k ≡ true → class_image base (text_of image) (base + place k) ≡ Some Head
unfolding class_image
marked_text image base legal win k h =
    let t = text_of image in
    let l : k < length image.text = mark_inside (length image.text) image.marks k (marks_inside image legal) h in
    let n = length-text image in
    let g = length-spots t k (omega arith) in
    let m : g.0.marked ≡ true = (local t k g.0 (omega arith) g.1).marked ∙ marked_of image k l ∙ h in
    let r = word_passes t (all_spots t) 0 (all_spots t) k g.0 (passes image win).words g.1 in
    let e : 0 + k ≡ k = omega arith in
    let c : class_of base t k g.0 ≡ Head = class_head k g.0 m (subst (λ z. word_rule t (all_spots t) z g.0 ≡ None) e r) in
    rw (text_class-at base t k, g.1) (ap Some c)
  where
    class_head : (k : ℕ) (s : Spot) → s.marked ≡ true → word_rule (text_of image) (all_spots (text_of image)) k s ≡ None → class_of base (text_of image) k s ≡ Head
    class_head k s m r = go (ltb k (text_of image).start) refl r
      where
        go : (b : Bool) → ltb k (text_of image).start ≡ b → cond b (start_rule (text_of image) k s) (function_rule (text_of image) (all_spots (text_of image)) k s) ≡ None → cond b Free (cond s.marked Head (class_round base s.window)) ≡ Head
        go true e z = absurd (started (rw m at z))
          where
            started : Some K1 ≡ None → ⊥
            started q = grind (arith, q)
        go false e z = rw m refl

has_of : (w : CodeAt) (cls : ℕ → Class) (a : ℕ) (c : Class) → Stands w cls a c → Has w cls a c
has_of w cls a Off s = tt
has_of w cls a Head s = s
has_of w cls a Free s = s
has_of w cls a (Within b d) s = s
has_of w cls a (Adding v) s = s
has_of w cls a (Stub k) s = s

module _ (image : Image) (base : ℕ) (w : CodeAt) (cls : ℕ → Class) (lies : Lies image base w cls) where
  len : length (text_of image).words ≡ length image.text
  len = length-text image

  sizes : base + place (length (text_of image).words) < 2 ^ 63
  sizes = let a = (small image lies.legal).text in let b = lies.high in let c = len in omega arith

  clean_at : (k : ℕ) (s : Spot) → slice_get (all_spots (text_of image)) k ≡ Some s → word_rule (text_of image) (all_spots (text_of image)) k s ≡ None
  clean_at k s g = let e : 0 + k ≡ k = omega arith in subst (λ z. word_rule (text_of image) (all_spots (text_of image)) z s ≡ None) e (word_passes (text_of image) (all_spots (text_of image)) 0 (all_spots (text_of image)) k s (passes image lies.windowed).words g)

  at_class : (k : ℕ) (s : Spot) → slice_get (all_spots (text_of image)) k ≡ Some s → cls (base + place k) ≡ class_of base (text_of image) k s
  unfolding class_image
  at_class k s g = lies.class (base + place k) (class_of base (text_of image) k s) (rw (text_class-at base (text_of image) k, g) refl)

  at_word : (k : ℕ) → k < length image.text → w.word (base + place k) ≡ Some (get_or image.text k 0)
  at_word k l =
      let e : text_base base + 4 * k ≡ base + place k = omega arith in
      let f : word_from (text_base base) image.text (base + place k) ≡ Some (get_or image.text k 0) = subst (λ z. word_from (text_base base) image.text z ≡ Some (get_or image.text k 0)) e (word_from-at (text_base base) image.text k (get_or image.text k 0) (slice_get-get_or image.text k 0 l)) in
      lies.words (base + place k) (get_or image.text k 0) (rw f refl)

  no_rule : (k : ℕ) (s : Spot) → (text_of image).start ≤ k → slice_get (all_spots (text_of image)) k ≡ Some s → function_rule (text_of image) (all_spots (text_of image)) k s ≡ None
  no_rule k s h g = go (ltb k (text_of image).start) refl (clean_at k s g)
    where
      go : (b : Bool) → ltb k (text_of image).start ≡ b → cond b (start_rule (text_of image) k s) (function_rule (text_of image) (all_spots (text_of image)) k s) ≡ None → function_rule (text_of image) (all_spots (text_of image)) k s ≡ None
      go true e z = let a = ltb-true _ _ e in absurd (omega arith)
      go false e z = z

  entry_there : (at : ℕ) → is_entry (text_of image) at ≡ true → w.is_entry (add64 base at) ≡ true
  entry_there at h = go (number_at at) refl h
    where
      marked_at : (k : ℕ) → at ≡ place k → ((k < length (text_of image).words) ⊎ (length (text_of image).words ≤ k)) → marked_in (slice_get (text_of image).words k) ≡ true → w.is_entry (add64 base at) ≡ true
      marked_at k e (inl l) z =
          let s = sizes in let n = len in
          let m : (word_at (text_of image) k).marked ≡ true = sym (ap marked_in (slice_get-get_or (text_of image).words k (record { marked = false; instr = None }) l)) ∙ z in
          let r : is_marked image.marks k ≡ true = sym (marked_of image k (omega arith)) ∙ m in
          let f : add64 base at ≡ base + place k = rw e (add64_small base (place k) (omega arith)) in
          rw f (lies.marks k r)
      marked_at k e (inr l) z = absurd (true≢false (sym z ∙ ap marked_in (slice_get_past (text_of image).words k l)))

      go : (o : Option ℕ) → number_at at ≡ o → marked_in (nth (text_of image).words o) ≡ true → w.is_entry (add64 base at) ≡ true
      go None e z = absurd (true≢false (sym z))
      go (Some k) e z = marked_at k (number_found at k e) (cases_lt k (length (text_of image).words)) z

  pub entry_at : (at : ℕ) → is_entry (text_of image) at ≡ true → w.is_entry (base + at) ≡ true
  entry_at at h = subst (λ z. w.is_entry z ≡ true) (small_sum (number_at at) refl h) (entry_there at h)
    where
      within : (k : ℕ) → marked_in (slice_get (text_of image).words k) ≡ true → ((k < length (text_of image).words) ⊎ (length (text_of image).words ≤ k)) → k < length (text_of image).words
      within k z (inl l) = l
      within k z (inr l) = absurd (true≢false (sym z ∙ ap marked_in (slice_get_past (text_of image).words k l)))

      small_sum : (o : Option ℕ) → number_at at ≡ o → marked_in (nth (text_of image).words o) ≡ true → add64 base at ≡ base + at
      small_sum None e z = absurd (true≢false (sym z))
      small_sum (Some k) e z = let a = number_found at k e in let s = sizes in let l = within k z (cases_lt k (length (text_of image).words)) in add64_small base at (omega arith)

  stub_there : (n : ℕ) → n < length image.stubs → cls (base + (text_of image).stubs + 4 * n) ≡ Stub (n % 4)
  unfolding class_image
  stub_there n l =
      let a = stubs_behind image in let b = text_stubs image in let c = len in
      let d = stub_words_of image in
      let e : text_class base (text_of image) (base + (text_of image).stubs + 4 * n) ≡ None = text_class-outside base (text_of image) (base + (text_of image).stubs + 4 * n) (λ z. omega arith) in
      lies.class (base + (text_of image).stubs + 4 * n) (Stub (n % 4)) (rw e (stub_class-at base (text_of image) n (omega arith)))

  stub_head : (at : ℕ) → is_stub (text_of image) at ≡ true → cls (add64 base at) ≡ Stub 0
  stub_head at h =
      let p = and_parts _ _ h in let q = and_parts _ _ p.1 in
      let l : (text_of image).stubs ≤ at = leb-true _ _ p.0 in
      let u : (at - (text_of image).stubs) / 4 < (text_of image).stub_words = ltb-true _ _ q.0 in
      let m : (at - (text_of image).stubs) % 16 ≡ 0 = eqb-true _ _ q.1 in
      let d = stub_words_of image in
      let s = small image lies.legal in let s1 = s.stubs in let s2 = s.stubs_place in let b = text_stubs image in let y = lies.high in
      let f : add64 base at ≡ base + (text_of image).stubs + 4 * ((at - (text_of image).stubs) / 4) = add64_small base at (omega arith) ∙ omega arith in
      let g : (at - (text_of image).stubs) / 4 % 4 ≡ 0 = omega arith in
      rw f (stub_there ((at - (text_of image).stubs) / 4) (omega arith) ∙ ap Stub g)

  after_there : (k : ℕ) (j : Instr) → k < length (text_of image).words → (word_at (text_of image) k).instr ≡ Some j → is_call j ≡ true → w.is_after (base + place (suc k)) ≡ true
  after_there k j l e c =
      let n = len in
      let d : decoded (get_or image.text k 0) ≡ Some j = sym (instr_of image k (omega arith)) ∙ e in
      let f : calls (get_or image.text k 0) ≡ true = ap (λ o. option_map_or is_call o false) d ∙ c in
      lies.afters k (get_or image.text k 0) (slice_get-get_or image.text k 0 (omega arith)) f

  among : Among (text_of image) base w cls
  among = record {
    class = at_class;
    entries = entry_there;
    heads = lies.heads;
    afters = after_there;
    stubs = stub_head;
    small = sizes;
    even = lies.even;
  }

  -- ---- `start`

  uncut : (text_of image).start ≤ length (text_of image).words
  uncut = go (ltb (length (text_of image).words) (text_of image).start) refl (passes image lies.windowed).whole
    where
      go : (b : Bool) → ltb (length (text_of image).words) (text_of image).start ≡ b → cond {A = Option Flaw} b (Some (record { offset = place (length (text_of image).words); rule = K6 })) None ≡ None → (text_of image).start ≤ length (text_of image).words
      go true e z = absurd (grind (arith, z))
      go false e z = ltb-false _ _ e

  started : (k : ℕ) (s : Spot) → k < (text_of image).start → slice_get (all_spots (text_of image)) k ≡ Some s → is_start (text_of image) k s.instr ≡ true
  started k s l g = go (ltb k (text_of image).start) (lt-ltb _ _ l) (clean_at k s g)
    where
      second : (b : Bool) → is_start (text_of image) k s.instr ≡ b → cond b None (Some (given_rule (text_of image) (place k) s.instr K6)) ≡ None → is_start (text_of image) k s.instr ≡ true
      second true e z = e
      second false e z = absurd (grind (arith, z))

      first : (b : Bool) → cond b (Some K1) (cond (is_start (text_of image) k s.instr) None (Some (given_rule (text_of image) (place k) s.instr K6))) ≡ None → is_start (text_of image) k s.instr ≡ true
      first true z = absurd (grind (arith, z))
      first false z = second (is_start (text_of image) k s.instr) refl z

      go : (b : Bool) → b ≡ true → cond b (start_rule (text_of image) k s) (function_rule (text_of image) (all_spots (text_of image)) k s) ≡ None → is_start (text_of image) k s.instr ≡ true
      go true e z = first s.marked z
      go false e z = absurd (true≢false (sym e))

  place_next : (k : ℕ) → k < length (text_of image).words → add64 (base + place k) 4 ≡ base + place (suc k)
  place_next k l = let s = sizes in add64_small (base + place k) 4 (omega arith) ∙ omega arith

  start_free : (k : ℕ) → k < (text_of image).start → cls (base + place k) ≡ Free
  start_free k l = let u = uncut in let g = length-spots (text_of image) k (omega arith) in let b : ltb k (text_of image).start ≡ true = lt-ltb _ _ l in at_class k g.0 g.1 ∙ rw b refl

  calls_main : (words : ℤ) (o : Option ℕ) → (text_of image).main ≡ o → option_map_or (λ main. target (place 0) words == main) o false ≡ true → 0 < length (text_of image).words → cls (add64 (base + place 0) (scaled64 4 words)) ≡ Head
  calls_main words None e h l = absurd (true≢false (sym h))
  calls_main words (Some m) e h l =
      let f = main_found image.marks (codes "_main") m (sym (text_main image) ∙ e) in
      let g : target (place 0) words ≡ m = eqb-true _ _ h in
      let s = sizes in let n = len in
      let k = marks_in f.k f.marked in
      let u = f.there in
      let r : add64 (base + place 0) (scaled64 4 words) ≡ base + place f.k = moved (scaled64 4 words) ∙ ap (add64 base) (g ∙ u) ∙ add64_small base (place f.k) (omega arith) in
      rw r (lies.heads (base + place f.k) (lies.marks f.k f.marked))
    where
      moved : (x : ℕ) → add64 (base + place 0) x ≡ add64 base (add64 (place 0) x)
      moved x = let s = sizes in add64_moved base (place 0) x (omega arith)

      marks_in : (k : ℕ) → is_marked image.marks k ≡ true → k < length image.text
      marks_in k h = mark_inside (length image.text) image.marks k (marks_inside image lies.legal) h

  three : (k : ℕ) → k < (text_of image).start → (text_of image).start ≡ 3
  unfolding text_of
  three k l = go image.role l
    where
      go : (r : Role) → k < start_size r → start_size r ≡ 3
      go Main l = refl
      go Library l = absurd (omega arith)

  start_fits : (k : ℕ) (j : Instr) → is_start (text_of image) k (Some j) ≡ true → (text_of image).start ≡ 3 → (word_at (text_of image) k).instr ≡ Some j → FitsFree w cls (base + place k) (add64 (base + place k) 4) j
  start_fits zero (i.Branch Bl words) h m e =
      let u = uncut in
      let p = place_next 0 (omega arith) in
      (rw p (after_there 0 (i.Branch Bl words) (omega arith) e refl), rw p (start_free 1 (omega arith)), inl (calls_main words (text_of image).main refl h (omega arith)))
  start_fits (suc zero) (i.Exception Svc number) h m e = inl h
  start_fits (suc (suc zero)) (i.Exception Brk number) h m e = tt
  start_fits k j h m e = absurd (true≢false (sym h))

  -- ---- each word fits its class

  spot_within : (k : ℕ) (s : Spot) → slice_get (all_spots (text_of image)) k ≡ Some s → k < length (text_of image).words
  spot_within k s g = let z = slice_get_within (all_spots (text_of image)) k s g in let n = spots_length (text_of image) in omega arith

  text_decodes : (k : ℕ) (s : Spot) (j : Instr) → slice_get (all_spots (text_of image)) k ≡ Some s → s.instr ≡ Some j → ((word_at (text_of image) k).instr ≡ Some j) × (decoded (get_or image.text k 0) ≡ Some j)
  text_decodes k s j g e =
      let l = spot_within k s g in let n = len in
      let a : (word_at (text_of image) k).instr ≡ Some j = sym (local (text_of image) k s l g).instr ∙ e in
      (a, sym (instr_of image k (omega arith)) ∙ a)

  text_stands : (k : ℕ) (s : Spot) → slice_get (all_spots (text_of image)) k ≡ Some s → Stands w cls (base + place k) (class_of base (text_of image) k s)
  text_stands k s g = go (ltb k (text_of image).start) refl
    where
      l : k < length (text_of image).words
      l = spot_within k s g

      stand : (j : Instr) (c : Class) → s.instr ≡ Some j → Fits w cls (base + place k) (add64 (base + place k) 4) c j → Stands w cls (base + place k) c
      stand j c e f = let n = len in let m = l in record { word = get_or image.text k 0; instr = j; there = at_word k (omega arith); decodes = (text_decodes k s j g e).1; fits = f }

      starts : k < (text_of image).start → (o : Option Instr) → s.instr ≡ o → is_start (text_of image) k o ≡ true → Stands w cls (base + place k) Free
      starts m None e z = absurd (start_none k z)
        where
          start_none : (k : ℕ) → is_start (text_of image) k None ≡ true → ⊥
          start_none zero z = true≢false (sym z)
          start_none (suc zero) z = true≢false (sym z)
          start_none (suc (suc zero)) z = true≢false (sym z)
          start_none (suc (suc (suc k))) z = true≢false (sym z)
      starts m (Some j) e z = stand j Free e (start_fits k j z (three k m) (text_decodes k s j g e).0)

      go : (b : Bool) → ltb k (text_of image).start ≡ b → Stands w cls (base + place k) (cond b Free (cond s.marked Head (class_round base s.window)))
      go true e = let m = ltb-true _ _ e in starts m s.instr refl (started k s m g)
      go false e =
          let m = ltb-false _ _ e in
          let r = each_row (text_of image) base w cls among no_rule k s m l g in
          stand r.0 _ r.1 (each_fits (text_of image) base w cls among no_rule k s r.0 m l g r.1)

  -- ---- stubs

  given : (b : Bool) (r : CheckRule) → cond b None (Some r) ≡ None → b ≡ true
  given true r h = refl
  given false r h = absurd (grind (arith, h))

  stub_fits : (at slot part : ℕ) (j : Instr) (q : ℕ) → is_stub_word at slot part (Some j) ≡ true → (part < 3 → cls q ≡ Stub (suc part)) → (part ≤ 3) × FitsStub w cls part q j
  stub_fits at slot zero (i.Adrp rd pages) q h n = let e : rd ≡ 17 = eqb-true _ _ (and_parts (eqb rd 17) _ h).0 in (omega arith, (rw e refl, n (omega arith)))
  stub_fits at slot (suc zero) (i.SumImmediate immediate.Add rd rn imm shifted) q h n = let e : rd ≡ 17 = eqb-true _ _ (and_parts (eqb rd 17) _ h).0 in (omega arith, (rw e refl, n (omega arith)))
  stub_fits at slot (suc (suc zero)) (i.LoadStore Ldr rt rn imm) q h n = let e : rt ≡ 16 = eqb-true _ _ (and_parts (eqb rt 16) _ h).0 in (omega arith, (rw e refl, n (omega arith)))
  stub_fits at slot (suc (suc (suc zero))) (i.BranchAuthenticated Braa rn rm) q h n = (omega arith, tt)
  stub_fits at slot part j q h n = absurd (true≢false (sym h))

  stub_stands : (n : ℕ) → n < length image.stubs → Stands w cls (base + (text_of image).stubs + 4 * n) (Stub (n % 4))
  stub_stands n l = go (decoded (get_or image.stubs n 0)) refl (and_parts (ltb (n / 4) (image.got / 8)) (is_stub_word ((text_of image).stubs + 4 * n) ((places_of (header_of image)).got + 8 * (n / 4)) (n % 4) (decoded (get_or image.stubs n 0))) (given (ltb (n / 4) (image.got / 8) && is_stub_word ((text_of image).stubs + 4 * n) ((places_of (header_of image)).got + 8 * (n / 4)) (n % 4) (decoded (get_or image.stubs n 0))) (given_rule (text_of image) ((text_of image).stubs + 4 * n) (decoded (get_or image.stubs n 0)) K7) rule)).1
    where
      from : ℕ
      from = (places_of (header_of image)).got

      rule : stub_rule (text_of image) (places_of (header_of image)).got (image.got / 8) n (decoded (get_or image.stubs n 0)) ≡ None
      rule = let e : 0 + n ≡ n = omega arith in subst (λ z. stub_rule (text_of image) (places_of (header_of image)).got (image.got / 8) z (decoded (get_or image.stubs n 0)) ≡ None) e (stub_passes (text_of image) (places_of (header_of image)).got (image.got / 8) 0 image.stubs n (get_or image.stubs n 0) (passes image lies.windowed).stubs (slice_get-get_or image.stubs n 0 l))

      word_there : w.word (base + (text_of image).stubs + 4 * n) ≡ Some (get_or image.stubs n 0)
      word_there =
          let a = stubs_behind image in let b = text_stubs image in
          let e : base + (text_of image).stubs + 4 * n ≡ base + (places_of (header_of image)).stubs + 4 * n = omega arith in
          let f : word_from (text_base base) image.text (base + (places_of (header_of image)).stubs + 4 * n) ≡ None = word_from-outside (text_base base) image.text (base + (places_of (header_of image)).stubs + 4 * n) (λ z. omega arith) in
          rw e (lies.words (base + (places_of (header_of image)).stubs + 4 * n) (get_or image.stubs n 0) (rw f (word_from-at (base + (places_of (header_of image)).stubs) image.stubs n (get_or image.stubs n 0) (slice_get-get_or image.stubs n 0 l))))

      next : n % 4 < 3 → cls (add64 (base + (text_of image).stubs + 4 * n) 4) ≡ Stub (suc (n % 4))
      next h =
          let s = small image lies.legal in let s1 = s.stubs in let s2 = s.stubs_place in let b = text_stubs image in let y = lies.high in
          let m = stubs_whole image lies.legal in
          let e : add64 (base + (text_of image).stubs + 4 * n) 4 ≡ base + (text_of image).stubs + 4 * suc n = add64_small (base + (text_of image).stubs + 4 * n) 4 (omega arith) ∙ omega arith in
          let f : suc n % 4 ≡ suc (n % 4) = omega arith in
          rw e (stub_there (suc n) (omega arith) ∙ ap Stub f)

      go : (o : Option Instr) → decoded (get_or image.stubs n 0) ≡ o → is_stub_word ((text_of image).stubs + 4 * n) ((places_of (header_of image)).got + 8 * (n / 4)) (n % 4) o ≡ true → Stands w cls (base + (text_of image).stubs + 4 * n) (Stub (n % 4))
      go None e z = absurd (no_stub_word (n % 4) z)
        where
          no_stub_word : (part : ℕ) → is_stub_word ((text_of image).stubs + 4 * n) ((places_of (header_of image)).got + 8 * (n / 4)) part None ≡ true → ⊥
          no_stub_word zero z = true≢false (sym z)
          no_stub_word (suc zero) z = true≢false (sym z)
          no_stub_word (suc (suc zero)) z = true≢false (sym z)
          no_stub_word (suc (suc (suc zero))) z = true≢false (sym z)
          no_stub_word (suc (suc (suc (suc k)))) z = true≢false (sym z)
      go (Some j) e z = record { word = get_or image.stubs n 0; instr = j; there = word_there; decodes = e; fits = stub_fits _ _ (n % 4) j _ z next }

  -- ---- the image

  pub image_has : (a : ℕ) (c : Class) → class_image base (text_of image) a ≡ Some c → Has w cls a c
  unfolding class_image
  image_has a c h = go (text_class base (text_of image) a) refl h
    where
      in_stubs : stub_class base (text_of image) a ≡ Some c → Has w cls a c
      in_stubs z =
          let f = stub_found base (text_of image) a c z in
          let d = stub_words_of image in let u = f.within in
          subst (λ y. Has w cls a y) (sym f.is) (subst (λ y. Has w cls y (Stub (f.n % 4))) f.there (stub_stands f.n (omega arith)))

      in_text : (d : Class) → text_class base (text_of image) a ≡ Some d → d ≡ c → Has w cls a c
      in_text d z e =
          let f = text_found base (text_of image) a d z in
          subst (λ y. Has w cls a y) (sym f.is ∙ e) (subst (λ y. Has w cls y (class_of base (text_of image) f.k f.spot)) f.there (has_of w cls _ _ (text_stands f.k f.spot f.get)))

      go : (o : Option Class) → text_class base (text_of image) a ≡ o → or_class o (stub_class base (text_of image) a) ≡ Some c → Has w cls a c
      go None e z = in_stubs z
      go (Some d) e z = in_text d e (grind (arith, z))

  -- behind a call nothing is known
  pub image_after : (k v : ℕ) → slice_get image.text k ≡ Some v → calls v ≡ true → cls (base + place (suc k)) ≡ Free
  image_after k v g c =
      let l : k < length image.text = slice_get_within image.text k v g in
      let n = len in
      let q = length-spots (text_of image) k (omega arith) in
      let s = text_stands k q.0 q.1 in
      let e : get_or image.text k 0 ≡ v = get_or_from_slice_get image.text k v 0 g in
      let p = place_next k (omega arith) in
      subst (λ z. cls z ≡ Free) p (after_fits w cls (base + place k) (add64 (base + place k) 4) (class_of base (text_of image) k q.0) s.instr (call_of s e c) s.fits)
    where
      called_row : (o : Option Instr) (j : Instr) → o ≡ Some j → option_map_or is_call o false ≡ true → is_call j ≡ true
      called_row o j e z = rw e at z

      call_of : {c' : Class} → (s : Stands w cls (base + place k) c') → get_or image.text k 0 ≡ v → calls v ≡ true → is_call s.instr ≡ true
      call_of s e c =
          let a : Some s.word ≡ Some (get_or image.text k 0) = sym s.there ∙ at_word k (slice_get_within image.text k v g) in
          let b : s.word ≡ v = some_number a ∙ e in
          called_row (decoded v) s.instr (ap decoded (sym b) ∙ s.decodes) c
        where
          some_number : {x y : ℕ} → Some x ≡ Some y → x ≡ y
          some_number e = grind (arith, e)

  pub start_here : (text_of image).start ≡ 3 → cls (base + place 0) ≡ Free
  start_here e = start_free 0 (omega arith)
