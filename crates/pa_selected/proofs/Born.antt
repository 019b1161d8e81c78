-- The locals of a call come to life in its frame: what was known of older objects and frames still holds, with the new objects.
use Rattle.std.proofs.Common.{◌≡◌, ◌≢◌, inl, inr, ◌⊎◌, ℕ, zero, suc, ◌+◌, ◌-◌, ◌*◌, ◌/◌, ◌^◌, ◌≤◌, ◌<◌, true, false, List, [], ◌∷◌, ◌++◌, length, take, Some, None, refl, sym, ap, subst, ◌∙◌, arith}
use Rattle.std.specs.Prelude.{slice_get, slice_index, unwrap_or}
use Rattle.std.specs.List.{sum_by}
use Rattle.std.proofs.lemmas.Bool.{cases_lt}
use Rattle.std.proofs.lemmas.List.{length-append, get_or_append_left, get_or-append-add}
use Rattle.std.proofs.lemmas.Option.{slice_get_within}
use Rattle.pa_mem.specs.Memory.{Region, Right, Read, Write, allowed, load, byte_at}
use Rattle.pa_mem.proofs.Bytes.{allowed-part}
use Rattle.pa_mem.proofs.Ranges.{load-alike}
use Rattle.pa_lir.specs.declared.function.LirLocal.{LirLocal}
use Rattle.pa_lir.specs.declared.function.LirFn.{LirFn}
use Rattle.pa_lir.specs.Parts.{rounded, bytes, held}
use Rattle.pa_lir.specs.Values.{FlatValue, Number, At, Code, Byte, Unset, Octet, Part, Object, Objects}
use Rattle.pa_lir.specs.Meaning.{Open}
use Rattle.pa_frame.specs.Frames.{bytes_before, temp_bytes_before, place_of_temp, place_of_local, size_of_frame}
use Rattle.pa_frame.proofs.Places.{bytes_rise, bytes_within}
use Rattle.pa_frame.proofs.Taken.{temps_before_parameter, temps_before_other, temp_bytes_rise, temp_bytes_most}
use Rattle.pa_selected.specs.Values.{Addresses, StandsFor, IsPart, IsByte, HasBytes, Living, HasObjects}
use Rattle.pa_selected.specs.Worlds.{World, IsOff, HasStack}
use Rattle.pa_selected.specs.Calls.{HasArguments, IsOffWords, HasLocals, HasCallFrames}
use Rattle.pa_selected.proofs.Bytes.{HasBytes-alike}
use Rattle.pa_selected.proofs.Parameters.{bytes_next, Lies, AllLie}
use Rattle.pa_object.specs.Machine.{Machine}

-- ---- where locals lie in a frame

temps_end : (f : LirFn) → place_of_temp f (held f) ≤ size_of_frame f
temps_end f = omega (arith, bytes_within f.locals f.parameters)

rounded_up : (size : ℕ) → size ≤ (size + 7) / 8 * 8
rounded_up size = omega arith

pub record IsPlace (f : LirFn) (number size : ℕ) : Type 0 where
  pub inside : place_of_local f number + size ≤ size_of_frame f
  pub off_temps : place_of_local f number < place_of_temp f (held f) → place_of_local f number + size ≤ place_of_temp f 0

module _ (f : LirFn) where
  own_bytes : (i : ℕ) (l : LirLocal) → slice_get f.locals i ≡ Some l → bytes_before f i + l.size ≤ bytes_before f (suc i)
  own_bytes i l e = omega (arith, bytes_next f.locals i l e)

  pub place_is : (i : ℕ) (l : LirLocal) → slice_get f.locals i ≡ Some l → IsPlace f i l.size
  place_is i l e = record {
    inside = omega (arith, own_bytes i l e, bytes_within f.locals (suc i), temp_bytes_most f i);
    off_temps = λ below. go below (cases_lt i f.parameters);
  }
    where
      go : place_of_local f i < place_of_temp f (held f) → ((i < f.parameters) ⊎ (f.parameters ≤ i)) → place_of_local f i + l.size ≤ place_of_temp f 0
      go below (inl less) = omega (arith, own_bytes i l e, bytes_rise f.locals (suc i) f.parameters (omega (arith, less)), temps_before_parameter f i less)
      go below (inr more) = absurd (omega (arith, below, bytes_rise f.locals f.parameters i more, temps_before_other f i more))

  pub places_apart : (i j : ℕ) (l k : LirLocal) → slice_get f.locals i ≡ Some l → slice_get f.locals j ≡ Some k → i ≢ j → place_of_local f i < place_of_local f j + k.size → place_of_local f i + l.size ≤ place_of_local f j
  places_apart i j l k e d other below = go (cases_lt i j)
    where
      go : ((i < j) ⊎ (j ≤ i)) → place_of_local f i + l.size ≤ place_of_local f j
      go (inl less) = omega (arith, own_bytes i l e, bytes_rise f.locals (suc i) j (omega (arith, less)), temp_bytes_rise f i j (omega (arith, less)))
      go (inr more) = absurd (omega (arith, below, own_bytes j k d, bytes_rise f.locals (suc j) i (omega (arith, more, other)), temp_bytes_rise f j i more))

-- ---- more addresses

-- where the locals from a number on lie, in a frame that begins at an address
unfoldable pub local_places : LirFn → (base number : ℕ) → List LirLocal → Addresses
local_places f base number [] = []
local_places f base number (l ∷ ls) = (base + place_of_local f number) ∷ local_places f base (suc number) ls

pub length-local_places : (f : LirFn) (base number : ℕ) (ls : List LirLocal) → length (local_places f base number ls) ≡ length ls
unfolding local_places
length-local_places f base number [] = refl
length-local_places f base number (l ∷ ls) = ap suc (length-local_places f base (suc number) ls)

pub local_place : (f : LirFn) (base number : ℕ) (ls : List LirLocal) (i : ℕ) → i < length ls → slice_index (local_places f base number ls) i ≡ base + place_of_local f (number + i)
unfolding local_places
local_place f base number [] i low = absurd (omega (arith, low))
local_place f base number (l ∷ ls) zero low = ap (λ k. base + place_of_local f k) (omega arith)
local_place f base number (l ∷ ls) (suc i) low = local_place f base (suc number) ls i (omega (arith, low)) ∙ ap (λ k. base + place_of_local f k) (omega arith)

module _ (addresses more : Addresses) where
  pub older_place : (p : ℕ) → p < length addresses → slice_index (addresses ++ more) p ≡ slice_index addresses p
  older_place p low = get_or_append_left addresses more 0 p low

  pub stands_more : (value : FlatValue) (word : ℕ) → StandsFor addresses value word → StandsFor (addresses ++ more) value word
  stands_more (Number x) word h = h
  stands_more (At o offset) word h = (let low = h.0 in omega (arith, low, length-append addresses more), h.1 ∙ ap (λ a. a + offset) (sym (older_place o h.0)))
  stands_more (Code name schema) word h = h

  byte_more : (b : Byte) (byte : ℕ) → IsByte addresses b byte → IsByte (addresses ++ more) b byte
  byte_more Unset byte h = h
  byte_more (Octet n) byte h = h
  byte_more (Part pointer index) byte h = record { word = h.word; fits = h.fits; stands = stands_more pointer h.word h.stands; same = h.same }

  pub bytes_more : (memory : List Region) (at : ℕ) (bs : List Byte) → HasBytes addresses memory at bs → HasBytes (addresses ++ more) memory at bs
  unfolding HasBytes
  bytes_more memory at [] h = tt
  bytes_more memory at (b ∷ bs) h = (byte_more b (byte_at memory at) h.0, bytes_more memory (at + 1) bs h.1)

  pub arguments_more : (m : Machine) (number : ℕ) (values : List FlatValue) → HasArguments addresses m number values → HasArguments (addresses ++ more) m number values
  arguments_more m number [] h = tt
  arguments_more m number (v ∷ vs) h = (stands_more v _ h.0, arguments_more m (suc number) vs h.1)

-- ---- the new objects, one by one

record LiesAt (f : LirFn) (addresses : Addresses) (memory : List Region) (base number : ℕ) (ls : List LirLocal) (i : ℕ) (object : Object) : Type 0 where
  local : LirLocal
  there : slice_get ls i ≡ Some local
  lies : Lies f addresses memory base (number + i) local object

same_object : (x y : Object) → Some x ≡ Some y → x ≡ y
same_object x y e = ap (λ o. unwrap_or o x) e

lies_at : (f : LirFn) (addresses : Addresses) (memory : List Region) (base number : ℕ) (ls : List LirLocal) (objects : Objects) → AllLie f addresses memory base number ls objects → (i : ℕ) (object : Object) → slice_get objects i ≡ Some object → LiesAt f addresses memory base number ls i object
unfolding AllLie
lies_at f addresses memory base number [] [] h i object e = cc
lies_at f addresses memory base number [] (x ∷ xs) h i object e = absurd h
lies_at f addresses memory base number (l ∷ ls) [] h i object e = absurd h
lies_at f addresses memory base number (l ∷ ls) (x ∷ xs) h zero object e = record {
  local = l;
  there = refl;
  lies = subst (λ k. Lies f addresses memory base k l object) (omega arith) (subst (Lies f addresses memory base number l) (same_object x object e) h.0);
}
lies_at f addresses memory base number (l ∷ ls) (x ∷ xs) h (suc i) object e =
    let r = lies_at f addresses memory base (suc number) ls xs h.1 i object e in
    record { local = r.local; there = r.there; lies = subst (λ k. Lies f addresses memory base k r.local object) (omega arith) r.lies }

pub length-all : (f : LirFn) (addresses : Addresses) (memory : List Region) (base number : ℕ) (ls : List LirLocal) (objects : Objects) → AllLie f addresses memory base number ls objects → length objects ≡ length ls
unfolding AllLie
length-all f addresses memory base number [] [] h = refl
length-all f addresses memory base number [] (x ∷ xs) h = absurd h
length-all f addresses memory base number (l ∷ ls) [] h = absurd h
length-all f addresses memory base number (l ∷ ls) (x ∷ xs) h = ap suc (length-all f addresses memory base (suc number) ls xs h.1)

-- one of two lists of objects, one behind the other
cut : (objects more : Objects) (p : ℕ) (object : Object) → slice_get (objects ++ more) p ≡ Some object → ((p < length objects) × (slice_get objects p ≡ Some object)) ⊎ ((i : ℕ) × (p ≡ length objects + i) × (slice_get more i ≡ Some object))
cut [] more p object e = inr (p, omega arith, e)
cut (x ∷ xs) more zero object e = inl (omega arith, e)
cut (x ∷ xs) more (suc p) object e = go (cut xs more p object e)
  where
    go : (((p < length xs) × (slice_get xs p ≡ Some object)) ⊎ ((i : ℕ) × (p ≡ length xs + i) × (slice_get more i ≡ Some object)))
        → ((suc p < length (x ∷ xs)) × (slice_get (x ∷ xs) (suc p) ≡ Some object)) ⊎ ((i : ℕ) × (suc p ≡ length (x ∷ xs) + i) × (slice_get more i ≡ Some object))
    go (inl h) = inl (let low = h.0 in omega (arith, low), h.1)
    go (inr h) = inr (h.0, let same = h.1 in omega (arith, same), h.2)

-- ---- nothing lives below the frames

module _ (w : World) (addresses : Addresses) (objects : Objects) (memory : List Region) where
  pub below_free : (born base : ℕ) (os : List Open) → HasCallFrames w addresses objects memory born base os → Living addresses objects (λ p object at size. p < born → IsOff at size w.low base)
  unfolding HasCallFrames
  below_free born base [] h p object e a before = let off = h.globals p object e a before in let end = h.empty in λ below. omega (arith, off, end, below)
  below_free born base (o ∷ os) h p object e a before = go (cases_lt p o.first)
    where
      go : ((p < o.first) ⊎ (o.first ≤ p)) → IsOff (slice_index addresses p) (length object.bytes) w.low base
      go (inl less) = let off = h.0.older p object e a less in λ below. omega (arith, off, below)
      go (inr more) =
          let young = h.0.younger p object e a before in
          let lies = h.0.locals.places (p - o.first) (omega (arith, young, more)) in
          let same : slice_index addresses (o.first + (p - o.first)) ≡ slice_index addresses p = ap (slice_index addresses) (omega (arith, more)) in
          λ below. absurd (omega (arith, below, lies, same))

-- ---- all of it

module _ (w : World) (f : LirFn) (addresses : Addresses) (objects locals : Objects) (memory later : List Region) (sp base : ℕ) (frame : base + size_of_frame f ≡ sp) (room : w.low ≤ base) (lie : HasObjects addresses objects memory)
    (all : AllLie f (addresses ++ local_places f base 0 f.locals) later base 0 f.locals locals) where
  abbrev pub grown : Addresses
  grown = addresses ++ local_places f base 0 f.locals

  abbrev pub and_locals : Objects
  and_locals = objects ++ locals

  pub count_grown : length grown ≡ length addresses + length f.locals
  count_grown = omega (arith, length-append addresses (local_places f base 0 f.locals), length-local_places f base 0 f.locals)

  -- an object of before
  record Older (p : ℕ) (object : Object) : Type 0 where
    low : p < length objects
    there : slice_get objects p ≡ Some object
    place : slice_index grown p ≡ slice_index addresses p

  -- a local of the call
  record New (p : ℕ) (object : Object) : Type 0 where
    number : ℕ
    is : p ≡ length objects + number
    local : LirLocal
    there : slice_get f.locals number ≡ Some local
    lies : Lies f grown later base number local object
    place : slice_index grown p ≡ base + place_of_local f number
    fits : IsPlace f number (length object.bytes)

  parted : (p : ℕ) (object : Object) → slice_get and_locals p ≡ Some object → Older p object ⊎ New p object
  parted p object e = go (cut objects locals p object e)
    where
      go : (((p < length objects) × (slice_get objects p ≡ Some object)) ⊎ ((i : ℕ) × (p ≡ length objects + i) × (slice_get locals i ≡ Some object))) → Older p object ⊎ New p object
      go (inl h) = inl (record { low = h.0; there = h.1; place = older_place addresses (local_places f base 0 f.locals) p (let low = h.0 in let count = lie.count in omega (arith, low, count)) })
      go (inr h) =
          let i = h.0 in
          let r = lies_at f grown later base 0 f.locals locals all i object h.2 in
          let lies = subst (λ k. Lies f grown later base k r.local object) (omega arith) r.lies in
          let within = slice_get_within f.locals i r.local r.there in
          let count = lie.count in
          let same = h.1 in
          inr (record {
            number = i;
            is = same;
            local = r.local;
            there = r.there;
            lies = lies;
            place = ap (slice_index grown) (omega (arith, same, count)) ∙ (get_or-append-add addresses (local_places f base 0 f.locals) i 0 ∙ (local_place f base 0 f.locals i within ∙ ap (λ k. base + place_of_local f k) (omega arith)));
            fits = subst (IsPlace f i) (sym lies.size) (place_is f i r.local r.there);
          })

  module _ (free : Living addresses objects (λ p object at size. IsOff at size w.low sp)) (same : (at : ℕ) → (at < sp → at < base) → byte_at later at ≡ byte_at memory at) (top_low : sp < 2 ^ 63) (some : 0 < w.low)
      (stays : (right : Right) (at k : ℕ) → allowed right later at k ≡ allowed right memory at k) (reads : allowed Read memory base (size_of_frame f) ≡ true) (writes : allowed Write memory base (size_of_frame f) ≡ true) where
    inside_allowed : (right : Right) → allowed right memory base (size_of_frame f) ≡ true → (number size at : ℕ) → at ≡ base + place_of_local f number → IsPlace f number size → allowed right later at size ≡ true
    inside_allowed right may number size at e fits = stays right at size ∙ (ap (λ a. allowed right memory a size) e ∙ allowed-part right memory base (size_of_frame f) (place_of_local f number) size may fits.inside)

    pub objects_born : HasObjects grown and_locals later
    objects_born = record {
      count = omega (arith, count_grown, lie.count, length-append objects locals, length-all f grown later base 0 f.locals locals all);
      some = λ p low. some_of p low;
      low = λ p q e. low_of p q (parted p q e);
      bytes = λ p q e a. bytes_of p q a (parted p q e);
      reads = λ p q e a. reads_of p q a (parted p q e);
      writes = λ p q e a may. writes_of p q a may (parted p q e);
      apart = λ p q e a r s d b other. apart_of p q a r s b other (parted p q e) (parted r s d);
    }
      where
        low_of : (p : ℕ) (q : Object) → Older p q ⊎ New p q → slice_index grown p + length q.bytes < 2 ^ 63
        low_of p q (inl h) = let low = lie.low p q h.there in omega (arith, low, h.place)
        low_of p q (inr h) = let inside = h.fits.inside in omega (arith, h.place, inside, frame, top_low)

        some_of : (p : ℕ) → p < length and_locals → 0 < slice_index grown p
        some_of p low = go (cases_lt p (length objects))
          where
            go : ((p < length objects) ⊎ (length objects ≤ p)) → 0 < slice_index grown p
            go (inl less) = let before = lie.some p less in let place = older_place addresses (local_places f base 0 f.locals) p (let count = lie.count in omega (arith, less, count)) in omega (arith, before, place)
            go (inr more) =
                let i = p - length objects in
                let within : i < length f.locals = omega (arith, more, low, length-append objects locals, length-all f grown later base 0 f.locals locals all) in
                let count = lie.count in
                let here : slice_index grown p ≡ base + place_of_local f (0 + i) = ap (slice_index grown) (omega (arith, more, count)) ∙ (get_or-append-add addresses (local_places f base 0 f.locals) i 0 ∙ local_place f base 0 f.locals i within) in
                omega (arith, here)

        bytes_of : (p : ℕ) (q : Object) → q.alive ≡ true → Older p q ⊎ New p q → HasBytes grown later (slice_index grown p) q.bytes
        bytes_of p q a (inl h) =
            let off = free p q h.there a in
            subst (λ at. HasBytes grown later at q.bytes) (sym h.place)
            (bytes_more addresses (local_places f base 0 f.locals) later (slice_index addresses p) q.bytes
            (HasBytes-alike addresses memory later (slice_index addresses p) q.bytes (λ i from to. same i (λ below. omega (arith, off, from, to, below, room))) (lie.bytes p q h.there a)))
        bytes_of p q a (inr h) = subst (λ at. HasBytes grown later at q.bytes) (sym h.place) h.lies.bytes

        reads_of : (p : ℕ) (q : Object) → q.alive ≡ true → Older p q ⊎ New p q → allowed Read later (slice_index grown p) (length q.bytes) ≡ true
        reads_of p q a (inl h) = stays Read (slice_index grown p) (length q.bytes) ∙ (ap (λ at. allowed Read memory at (length q.bytes)) h.place ∙ lie.reads p q h.there a)
        reads_of p q a (inr h) = inside_allowed Read reads h.number (length q.bytes) (slice_index grown p) h.place h.fits

        writes_of : (p : ℕ) (q : Object) → q.alive ≡ true → q.constant ≡ false → Older p q ⊎ New p q → allowed Write later (slice_index grown p) (length q.bytes) ≡ true
        writes_of p q a may (inl h) = stays Write (slice_index grown p) (length q.bytes) ∙ (ap (λ at. allowed Write memory at (length q.bytes)) h.place ∙ lie.writes p q h.there a may)
        writes_of p q a may (inr h) = inside_allowed Write writes h.number (length q.bytes) (slice_index grown p) h.place h.fits

        apart_of : (p : ℕ) (q : Object) → q.alive ≡ true → (r : ℕ) (s : Object) → s.alive ≡ true → p ≢ r → Older p q ⊎ New p q → Older r s ⊎ New r s → IsOff (slice_index grown p) (length q.bytes) (slice_index grown r) (slice_index grown r + length s.bytes)
        apart_of p q a r s b other (inl h) (inl k) = let off = lie.apart p q h.there a r s k.there b other in λ below. omega (arith, off, below, h.place, k.place)
        apart_of p q a r s b other (inl h) (inr k) = let off = free p q h.there a in let inside = k.fits.inside in λ below. omega (arith, off, below, h.place, k.place, inside, frame, room)
        apart_of p q a r s b other (inr h) (inl k) = let off = free r s k.there b in let inside = h.fits.inside in λ below. before_or_behind off inside below (cases_lt (slice_index addresses r) sp)
          where
            before_or_behind : (slice_index addresses r < sp → slice_index addresses r + length s.bytes ≤ w.low) → place_of_local f h.number + length q.bytes ≤ size_of_frame f → slice_index grown p < slice_index grown r + length s.bytes
                → ((slice_index addresses r < sp) ⊎ (sp ≤ slice_index addresses r)) → slice_index grown p + length q.bytes ≤ slice_index grown r
            before_or_behind off inside below (inl less) = absurd (let far = off less in omega (arith, far, below, h.place, k.place, room))
            before_or_behind off inside below (inr more) = omega (arith, h.place, k.place, inside, frame, more)
        apart_of p q a r s b other (inr h) (inr k) =
            let differ : h.number ≢ k.number = λ e. other (omega (arith, e, h.is, k.is)) in
            let one = h.lies.size in let two = k.lies.size in
            let off = places_apart f h.number k.number h.local k.local h.there k.there differ in
            λ below. omega (arith, off, below, h.place, k.place, one, two)

    -- the frames of the calls that are open
    pub frames_born : (born from : ℕ) (os : List Open) → sp ≤ from → born ≤ length objects → HasCallFrames w addresses objects memory born from os → HasCallFrames w grown and_locals later born from os
    unfolding HasCallFrames
    frames_born born from [] above few h = record { empty = h.empty; globals = λ p q e a before. go p q a before (parted p q e) }
      where
        go : (p : ℕ) (q : Object) → q.alive ≡ true → p < born → Older p q ⊎ New p q → IsOff (slice_index grown p) (length q.bytes) w.low w.top
        go p q a before (inl k) = let off = h.globals p q k.there a before in λ below. omega (arith, off, below, k.place)
        go p q a before (inr k) = absurd (omega (arith, before, k.is, few))
    frames_born born from (o ∷ os) above few h =
        let count = h.0.locals.count in
        let total = lie.count in (
          record {
            named = h.0.named;
            back = h.0.back;
            saved = word_same (from + 8) (omega arith) ∙ h.0.saved;
            caller = h.0.caller;
            temps = λ t value e. let was = h.0.temps t value e in (was.0, subst (StandsFor grown value) (sym (word_same (from + place_of_temp o.function t) (omega arith))) (stands_more addresses (local_places f base 0 f.locals) value _ was.1));
            locals = record {
              count = omega (arith, count, count_grown);
              places = λ l low. older_place addresses (local_places f base 0 f.locals) (o.first + l) (omega (arith, low, count)) ∙ h.0.locals.places l low;
            };
            words = λ p q e a. words_of p q a (parted p q e);
            older = λ p q e a before. older_of p q a before (parted p q e);
            younger = λ p q e a before. younger_of p q a before (parted p q e);
          },
          frames_born o.first (from + size_of_frame o.function) os (omega (arith, above)) (omega (arith, count, total)) h.1,
        )
      where
        word_same : (at : ℕ) → from ≤ at → load 8 later at ≡ load 8 memory at
        word_same at low = load-alike 8 memory later at (λ i lo hi. same i (λ below. omega (arith, below, lo, low, above)))

        words_of : (p : ℕ) (q : Object) → q.alive ≡ true → Older p q ⊎ New p q → IsOffWords o.function from (slice_index grown p) (length q.bytes)
        words_of p q a (inl k) =
            let off = h.0.words p q k.there a in
            record {
              saved = λ below. let s = off.saved in omega (arith, s, k.place, below);
              temps = λ below. let s = off.temps in omega (arith, s, k.place, below);
            }
        words_of p q a (inr k) =
            let inside = k.fits.inside in
            record {
              saved = λ below. omega (arith, inside, k.place, frame, above);
              temps = λ below. omega (arith, inside, k.place, frame, above);
            }

        older_of : (p : ℕ) (q : Object) → q.alive ≡ true → p < o.first → Older p q ⊎ New p q → IsOff (slice_index grown p) (length q.bytes) w.low (from + size_of_frame o.function)
        older_of p q a before (inl k) = let off = h.0.older p q k.there a before in λ below. omega (arith, off, below, k.place)
        older_of p q a before (inr k) = let count = h.0.locals.count in let total = lie.count in absurd (omega (arith, before, k.is, count, total))

        younger_of : (p : ℕ) (q : Object) → q.alive ≡ true → p < born → Older p q ⊎ New p q → p < o.first + length o.function.locals
        younger_of p q a before (inl k) = h.0.younger p q k.there a before
        younger_of p q a before (inr k) = absurd (omega (arith, before, k.is, few))

    -- that of the new call
    pub words_born : Living grown and_locals (λ p object at size. IsOffWords f base at size)
    words_born p q e a = go (parted p q e)
      where
        go : Older p q ⊎ New p q → IsOffWords f base (slice_index grown p) (length q.bytes)
        go (inl k) =
            let off = free p q k.there a in
            let inside = temps_end f in
            record {
              saved = λ below. omega (arith, off, below, k.place, frame, room, inside);
              temps = λ below. omega (arith, off, below, k.place, frame, room, inside);
            }
        go (inr k) = let off = k.fits.off_temps in record { saved = λ below. absurd (omega (arith, below, k.place)); temps = λ below. omega (arith, off, below, k.place) }

    pub older_born : Living grown and_locals (λ p object at size. p < length objects → IsOff at size w.low sp)
    older_born p q e a before = go (parted p q e)
      where
        go : Older p q ⊎ New p q → IsOff (slice_index grown p) (length q.bytes) w.low sp
        go (inl k) = let off = free p q k.there a in λ below. omega (arith, off, below, k.place)
        go (inr k) = absurd (omega (arith, before, k.is))

    pub younger_born : (p : ℕ) → p < length and_locals → p < length objects + length f.locals
    younger_born p low = omega (arith, low, length-append objects locals, length-all f grown later base 0 f.locals locals all)

    -- a word that isn't on the stack has no byte of an object
    pub word_off : (word : ℕ) → IsOff word 8 w.low w.top → sp ≤ w.top → Living addresses objects (λ p object at size. IsOff at size word (word + 8)) → Living grown and_locals (λ p object at size. IsOff at size word (word + 8))
    word_off word off high h p q e a = go (parted p q e)
      where
        go : Older p q ⊎ New p q → IsOff (slice_index grown p) (length q.bytes) word (word + 8)
        go (inl k) = let was = h p q k.there a in λ below. omega (arith, was, below, k.place)
        go (inr k) = let inside = k.fits.inside in λ below. before_or_behind k inside below (cases_lt word w.top)
          where
            before_or_behind : (k : New p q) → place_of_local f k.number + length q.bytes ≤ size_of_frame f → slice_index grown p < word + 8 → ((word < w.top) ⊎ (w.top ≤ word)) → slice_index grown p + length q.bytes ≤ word
            before_or_behind k inside below (inl less) = absurd (let far = off less in omega (arith, far, below, k.place, room))
            before_or_behind k inside below (inr more) = omega (arith, k.place, inside, frame, more, high)

    pub locals_born : HasLocals grown (record { function = f; at = 0; temps = []; first = length objects; into = None }) base
    locals_born = record {
      count = omega (arith, count_grown, lie.count);
      places = λ l low. let count = lie.count in ap (slice_index grown) (omega (arith, count)) ∙ (get_or-append-add addresses (local_places f base 0 f.locals) l 0 ∙ (local_place f base 0 f.locals l low ∙ ap (λ k. base + place_of_local f k) (omega arith)));
    }
