-- A store into a living object through a place: the whole relation holds behind it, with the object's new bytes.
use Rattle.std.proofs.Common.{◌≡◌, ◌≢◌, ◌⊎◌, inl, inr, ℕ, zero, suc, ◌+◌, ◌/◌, ◌%◌, ◌^◌, ◌≤◌, ◌<◌, Bool, true, false, cond, eqb, List, [], ◌∷◌, ◌++◌, length, take, drop, set, Some, None, refl, sym, ap, subst, ◌∙◌, arith, length-set}
use Rattle.std.specs.Prelude.{slice_get, slice_index, unwrap_or}
use Rattle.std.proofs.lemmas.List.{length-append, length-take-le, length-drop}
use Rattle.std.proofs.lemmas.Bool.{cases_lt, eqb-true}
use Rattle.pa_pac.specs.Signing as signing
use Rattle.pa_a64.specs.declared.instr.LoadStoreOp.TheVariants.{Str}
use Rattle.pa_a64.specs.declared.instr.LoadStoreWordOp.TheVariants.{Strw}
use Rattle.pa_a64.specs.declared.instr.LoadStoreHalfOp.TheVariants.{Strh}
use Rattle.pa_a64.specs.declared.instr.LoadStoreByteOp.TheVariants.{Strb}
use Rattle.pa_num.specs.Arithmetic.{add64}
use Rattle.pa_mem.specs.Memory.{Region, Read, Write, allowed, load, store, byte_at}
use Rattle.pa_mem.proofs.Bytes.{allowed-covered}
use Rattle.pa_mem.proofs.Ranges.{load-store-other, allowed-store, byte_at-store-same}
use Rattle.pa_object.specs.Machine.{Machine, register, next}
use Rattle.pa_object.specs.Effects.{with_memory}
use Rattle.pa_object.specs.Placed.{HasCode}
use Rattle.pa_object.specs.Run.{step}
use Rattle.pa_object.proofs.Steps.{add64_small}
use Rattle.pa_object.proofs.StepsMemory.{load_store_step, load_store_word_step, load_store_half_step, load_store_byte_step}
use Rattle.pa_lir.specs.WellFormed.{IsWidth}
use Rattle.pa_lir.specs.Values.{FlatValue, Number, At, Code, Byte, Object, Objects, octets, parts, bytes_of, overwritten}
use Rattle.pa_lir.specs.Meaning.{Open}
use Rattle.pa_lir.specs.Parts.{held}
use Rattle.pa_frame.specs.Frames.{place_of_temp, size_of_frame}
use Rattle.pa_select.specs.Computing as code
use Rattle.pa_selected.specs.Values.{Addresses, StandsFor, HasBytes, HasObjects}
use Rattle.pa_selected.specs.Worlds.{World, IsOff}
use Rattle.pa_selected.specs.Calls.{IsRunning, HasCallFrames}
use Rattle.pa_selected.proofs.Bytes.{HasBytes-stored, HasBytes-drop, HasBytes-take, HasBytes-append}
use Rattle.pa_selected.proofs.Contents.{octets_stored, parts_stored}
use Rattle.pa_selected.proofs.Straight.{Goes, puts}

-- ---- the instruction

-- the low bytes of x10 at the address in x9
pub store_makes : (pac : signing.Code) (m : Machine) (n : ℕ) → IsRunning m → m.pc + 4 < 2 ^ 64 → IsWidth n → allowed Write m.memory (register 9 m) n ≡ true → HasCode m.memory m.pc (code.store_sized n ∷ [])
    → Goes pac 1 m (next (with_memory n (register 9 m) (register 10 m) m)) (store n m.memory (register 9 m) (register 10 m)) (λ i. false)
store_makes pac m n running low width may c = puts pac m n (register 9 m) (register 10 m) running.going low (done width may c)
  where
    base : (k : ℕ) → k ≡ 0 → add64 (register 9 m) k ≡ register 9 m
    base k e = let fits = running.widths.registers 9 in ap (add64 (register 9 m)) e ∙ (add64_small (register 9 m) 0 (omega arith) ∙ omega arith)

    Does : ℕ → Type 0
    Does n = allowed Write m.memory (register 9 m) n ≡ true → HasCode m.memory m.pc (code.store_sized n ∷ []) → step pac m ≡ next (with_memory n (register 9 m) (register 10 m) m)

    one_byte : Does 1
    one_byte may c = load_store_byte_step pac m Strb 10 9 0 c.0 (ap (λ a. allowed Write m.memory a 1) (base 0 refl) ∙ may) ∙ ap (λ a. next (with_memory 1 a (register 10 m) m)) (base 0 refl)

    two_bytes : Does 2
    two_bytes may c = load_store_half_step pac m Strh 10 9 0 c.0 (ap (λ a. allowed Write m.memory a 2) (base 0 refl) ∙ may) ∙ ap (λ a. next (with_memory 2 a (register 10 m) m)) (base 0 refl)

    four_bytes : Does 4
    four_bytes may c = load_store_word_step pac m Strw 10 9 0 c.0 (ap (λ a. allowed Write m.memory a 4) (base 0 refl) ∙ may) ∙ ap (λ a. next (with_memory 4 a (register 10 m) m)) (base 0 refl)

    eight_bytes : Does 8
    eight_bytes may c = load_store_step pac m Str 10 9 0 c.0 (ap (λ a. allowed Write m.memory a 8) (base 0 refl) ∙ may) ∙ ap (λ a. next (with_memory 8 a (register 10 m) m)) (base 0 refl)

    done : IsWidth n → Does n
    done (inl e) = subst Does (sym e) one_byte
    done (inr (inl e)) = subst Does (sym e) two_bytes
    done (inr (inr (inl e))) = subst Does (sym e) four_bytes
    done (inr (inr (inr e))) = subst Does (sym e) eight_bytes

-- ---- the bytes

length-octets : (n x : ℕ) → length (octets n x) ≡ n
unfolding octets
length-octets zero x = refl
length-octets (suc n) x = ap suc (length-octets n (x / 256))

length-parts : (n : ℕ) (pointer : FlatValue) → length (parts n pointer) ≡ n
unfolding parts
length-parts zero pointer = refl
length-parts (suc n) pointer = ap suc (length-parts n pointer)

some_bytes : (xs ys : List Byte) → Some xs ≡ Some ys → xs ≡ ys
some_bytes xs ys e = ap (λ o. unwrap_or o xs) e

-- the bytes of a value, where its word was stored
pub record Stored (addresses : Addresses) (memory : List Region) (n to : ℕ) (new : List Byte) : Type 0 where
  pub size : length new ≡ n
  pub lie : HasBytes addresses memory to new

pub value_stored : (addresses : Addresses) (memory : List Region) (n to word : ℕ) (value : FlatValue) (new : List Byte) → word < 2 ^ 64 → StandsFor addresses value word → bytes_of n value ≡ Some new → allowed Write memory to n ≡ true
    → Stored addresses (store n memory to word) n to new
value_stored addresses memory n to word value new fits stands e may = go value stands e
  where
    each : (i : ℕ) → i < n → byte_at (store n memory to word) (to + i) ≡ word / 256 ^ i % 256
    each i low = byte_at-store-same n memory to word i (λ j below. allowed-covered Write memory to n j may below) low

    pointer_bytes : (pointer : FlatValue) → StandsFor addresses pointer word → (b : Bool) → eqb n 8 ≡ b → cond b (Some (parts 8 pointer)) None ≡ Some new → Stored addresses (store n memory to word) n to new
    pointer_bytes pointer stands true q e =
        let eight : n ≡ 8 = eqb-true n 8 q in
        let same = some_bytes (parts 8 pointer) new e in
        record {
          size = ap length (sym same) ∙ (length-parts 8 pointer ∙ sym eight);
          lie = subst (HasBytes addresses (store n memory to word) to) same (parts_stored addresses (store n memory to word) pointer word fits stands 8 to (omega arith) (λ i low. each i (omega (arith, eight)) ∙ ap (λ k. word / 256 ^ k % 256) (omega arith)));
        }
    pointer_bytes pointer stands false q e = cc

    go : (value : FlatValue) → StandsFor addresses value word → bytes_of n value ≡ Some new → Stored addresses (store n memory to word) n to new
    go (Number x) stands e =
        let same = some_bytes (octets n x) new e in
        record {
          size = ap length (sym same) ∙ length-octets n x;
          lie = subst (HasBytes addresses (store n memory to word) to) same (octets_stored addresses (store n memory to word) n x to (λ i low. each i low ∙ ap (λ v. v / 256 ^ i % 256) stands));
        }
    go (At o offset) stands e = pointer_bytes (At o offset) stands (eqb n 8) refl e
    go (Code name schema) stands e = absurd stands

-- it has so many
pub size_stored : (n : ℕ) (value : FlatValue) (new : List Byte) → bytes_of n value ≡ Some new → length new ≡ n
size_stored n value new e = go value e
  where
    pointer_size : (pointer : FlatValue) (b : Bool) → eqb n 8 ≡ b → cond b (Some (parts 8 pointer)) None ≡ Some new → length new ≡ n
    pointer_size pointer true q e = ap length (sym (some_bytes (parts 8 pointer) new e)) ∙ (length-parts 8 pointer ∙ sym (eqb-true n 8 q))
    pointer_size pointer false q e = cc

    go : (value : FlatValue) → bytes_of n value ≡ Some new → length new ≡ n
    go (Number x) e = ap length (sym (some_bytes (octets n x) new e)) ∙ length-octets n x
    go (At o offset) e = pointer_size (At o offset) (eqb n 8) refl e
    go (Code name schema) e = pointer_size (Code name schema) (eqb n 8) refl e

-- and the object keeps its size
pub size_overwritten : (old : List Byte) (offset : ℕ) (new : List Byte) → offset + length new ≤ length old → length (overwritten old offset new) ≡ length old
size_overwritten old offset new inside =
    let front = length-take-le offset old (omega arith) in
    let rest = length-drop (offset + length new) old in
    omega (arith, length-append (take offset old) (new ++ drop (offset + length new) old), length-append new (drop (offset + length new) old), front, rest)

-- over those of the object
pub overwritten_lie : (addresses : Addresses) (memory : List Region) (n first offset word : ℕ) (old new : List Byte) → offset + n ≤ length old → HasBytes addresses memory first old → Stored addresses (store n memory (first + offset) word) n (first + offset) new
    → HasBytes addresses (store n memory (first + offset) word) first (overwritten old offset new)
overwritten_lie addresses memory n first offset word old new inside h stored =
    let to = first + offset in
    let later = store n memory to word in
    let size = stored.size in
    let front : length (take offset old) ≡ offset = length-take-le offset old (omega arith) in
    let before = HasBytes-stored addresses n memory to word first (take offset old) (λ below. omega (arith, front)) (HasBytes-take addresses memory first offset old h) in
    let behind = HasBytes-stored addresses n memory to word (first + (offset + length new)) (drop (offset + length new) old) (λ below. absurd (omega (arith, size))) (HasBytes-drop addresses memory first (offset + length new) old h) in
    let place : first + (offset + length new) ≡ to + length new = omega arith in
    let rest = HasBytes-append addresses later to new (drop (offset + length new) old) stored.lie (subst (λ a. HasBytes addresses later a (drop (offset + length new) old)) place behind) in
    HasBytes-append addresses later first (take offset old) (new ++ drop (offset + length new) old) before (subst (λ a. HasBytes addresses later a (new ++ drop (offset + length new) old)) (ap (λ k. first + k) (sym front)) rest)

-- ---- the objects

-- an object of a list with one of them replaced: another one, or that one
replaced : (objects : Objects) (i p : ℕ) (changed q : Object) → slice_get (set objects i changed) p ≡ Some q → ((p ≢ i) × (slice_get objects p ≡ Some q)) ⊎ ((p ≡ i) × (q ≡ changed))
replaced [] i p changed q e = cc
replaced (x ∷ xs) zero zero changed q e = inr (refl, sym (ap (λ o. unwrap_or o changed) e))
replaced (x ∷ xs) zero (suc p) changed q e = inl (λ same. omega arith, e)
replaced (x ∷ xs) (suc i) zero changed q e = inl (λ same. omega arith, e)
replaced (x ∷ xs) (suc i) (suc p) changed q e = go (replaced xs i p changed q e)
  where
    go : (((p ≢ i) × (slice_get xs p ≡ Some q)) ⊎ ((p ≡ i) × (q ≡ changed))) → ((suc p ≢ suc i) × (slice_get (x ∷ xs) (suc p) ≡ Some q)) ⊎ ((suc p ≡ suc i) × (q ≡ changed))
    go (inl h) = inl (λ same. h.0 (omega arith), h.1)
    go (inr h) = inr (ap suc h.0, h.1)

-- the object that stood there, of the same size
pub record Was (objects : Objects) (p : ℕ) (q : Object) : Type 0 where
  pub old : Object
  pub there : slice_get objects p ≡ Some old
  pub alive : q.alive ≡ true → old.alive ≡ true
  pub constant : q.constant ≡ old.constant
  pub size : length q.bytes ≡ length old.bytes

module _ (addresses : Addresses) (objects : Objects) (memory : List Region) (lie : HasObjects addresses objects memory) (object n offset word : ℕ) (target : Object) (there : slice_get objects object ≡ Some target) (alive : target.alive ≡ true)
    (bytes : List Byte) (same_size : length bytes ≡ length target.bytes) (some : 1 ≤ n) (inside : offset + n ≤ length target.bytes) where
  abbrev changed : Object
  changed = record target { bytes = bytes }

  abbrev objects_now : Objects
  objects_now = set objects object changed

  abbrev to : ℕ
  to = slice_index addresses object + offset

  pub was : (p : ℕ) (q : Object) → slice_get objects_now p ≡ Some q → Was objects p q
  was p q e = go (replaced objects object p changed q e)
    where
      go : (((p ≢ object) × (slice_get objects p ≡ Some q)) ⊎ ((p ≡ object) × (q ≡ changed))) → Was objects p q
      go (inl h) = record { old = q; there = h.1; alive = λ a. a; constant = refl; size = refl }
      go (inr h) = record {
        old = target;
        there = ap (slice_get objects) h.0 ∙ there;
        alive = λ a. alive;
        constant = ap (λ (o : Object). o.constant) h.1;
        size = ap (λ (o : Object). length o.bytes) h.1 ∙ same_size;
      }

  pub objects_changed : HasBytes addresses (store n memory to word) (slice_index addresses object) bytes → HasObjects addresses objects_now (store n memory to word)
  objects_changed new = record {
    count = lie.count ∙ sym (length-set objects object changed);
    some = λ o low. lie.some o (omega (arith, low, length-set objects object changed));
    low = λ o q e. let h = was o q e in omega (arith, lie.low o h.old h.there, h.size);
    bytes = λ o q e a. contents o q a (replaced objects object o changed q e);
    reads = λ o q e a. let h = was o q e in allowed-store n Read memory to word _ _ ∙ (ap (allowed Read memory (slice_index addresses o)) h.size ∙ lie.reads o h.old h.there (h.alive a));
    writes = λ o q e a may. let h = was o q e in allowed-store n Write memory to word _ _ ∙ (ap (allowed Write memory (slice_index addresses o)) h.size ∙ lie.writes o h.old h.there (h.alive a) (sym h.constant ∙ may));
    apart = λ o q e a p r f b other.
        let h = was o q e in let k = was p r f in
        let off = lie.apart o h.old h.there (h.alive a) p k.old k.there (k.alive b) other in
        λ below. omega (arith, off, h.size, k.size);
  }
    where
      contents : (o : ℕ) (q : Object) → q.alive ≡ true → (((o ≢ object) × (slice_get objects o ≡ Some q)) ⊎ ((o ≡ object) × (q ≡ changed))) → HasBytes addresses (store n memory to word) (slice_index addresses o) q.bytes
      contents o q a (inl h) =
          let off = lie.apart o q h.1 a object target there alive h.0 in
          HasBytes-stored addresses n memory to word (slice_index addresses o) q.bytes (λ below. omega (arith, off, inside)) (lie.bytes o q h.1 a)
      contents o q a (inr h) = subst (λ x. HasBytes addresses (store n memory to word) (slice_index addresses x) q.bytes) (sym h.0) (subst (λ (x : Object). HasBytes addresses (store n memory to word) (slice_index addresses object) x.bytes) (sym h.1) new)

  -- ---- the frames

  -- a word of a frame stays
  pub word_stays : (low high at : ℕ) → IsOff (slice_index addresses object) (length target.bytes) low high → low ≤ at → at + 8 ≤ high → load 8 (store n memory to word) at ≡ load 8 memory at
  word_stays low high at off one two = load-store-other 8 n memory to word at (λ below. go below (cases_lt (slice_index addresses object) high))
    where
      go : at < to + n → ((slice_index addresses object < high) ⊎ (high ≤ slice_index addresses object)) → at + 8 ≤ to
      go below (inl h) = absurd (let before = off h in omega (arith, before, inside, some))
      go below (inr h) = omega (arith, h)

  pub frames_changed : (w : World) (born base : ℕ) (os : List Open) → HasCallFrames w addresses objects memory born base os → HasCallFrames w addresses objects_now (store n memory to word) born base os
  unfolding HasCallFrames
  frames_changed w born base [] h = record {
    empty = h.empty;
    globals = λ p q e a before. let k = was p q e in let off = h.globals p k.old k.there (k.alive a) before in λ below. omega (arith, off, k.size);
  }
  frames_changed w born base (o ∷ os) h =
      let words = h.0.words object target there alive in (
        record {
          named = h.0.named;
          back = h.0.back;
          saved = word_stays base (base + 96) (base + 8) words.saved (omega arith) (omega arith) ∙ h.0.saved;
          caller = h.0.caller;
          temps = λ t value e.
              let was_there = h.0.temps t value e in
              let few = was_there.0 in
              (few, subst (StandsFor addresses value) (sym (word_stays (base + place_of_temp o.function 0) (base + place_of_temp o.function (held o.function)) (base + place_of_temp o.function t) words.temps (omega arith) (omega (arith, few)))) was_there.1);
          locals = h.0.locals;
          words = λ p q e a.
              let k = was p q e in
              let off = h.0.words p k.old k.there (k.alive a) in
              record {
                saved = λ below. let s = off.saved in omega (arith, s, k.size);
                temps = λ below. let s = off.temps in omega (arith, s, k.size);
              };
          older = λ p q e a before. let k = was p q e in let off = h.0.older p k.old k.there (k.alive a) before in λ below. omega (arith, off, k.size);
          younger = λ p q e a before. let k = was p q e in h.0.younger p k.old k.there (k.alive a) before;
        },
        frames_changed w o.first (base + size_of_frame o.function) os h.1,
      )
