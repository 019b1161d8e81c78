-- Loads and stores of temporaries in the frame.
use Rattle.std.proofs.Common.{◌≡◌, ◌≢◌, ℕ, ◌+◌, ◌%◌, ◌^◌, ◌≤◌, ◌<◌, ◌⊎◌, inl, inr, Bool, false, cond, eqb, List, length, Some, sym, ap, subst, ◌∙◌, arith}
use Rattle.std.specs.Prelude.{◌||◌, unwrap_or}
use Rattle.std.proofs.lemmas.Bool.{cases_eq, eq-eqb, ne_eqb}
use Rattle.std.proofs.lemmas.List.Sums.{sum_by-take-le}
use Rattle.pa_pac.specs.Signing.{Code}
use Rattle.pa_mem.specs.Memory.{Region, Right, Read, Write, allowed, store, load}
use Rattle.pa_mem.proofs.Bytes.{allowed-part}
use Rattle.pa_mem.proofs.Ranges.{load-store-other, load-store-allowed}
use Rattle.pa_object.specs.Machine.{Machine, register}
use Rattle.pa_object.specs.Placed.{HasCode}
use Rattle.pa_lir.specs.declared.function.LirFn.{LirFn}
use Rattle.pa_lir.specs.Parts.{held, rounded}
use Rattle.pa_lir.specs.Values.{FlatValue}
use Rattle.pa_lir.specs.Meaning.{Open, temp_in, with_temp}
use Rattle.pa_frame.specs.Frames.{place_of_temp, place_of_local, size_of_frame}
use Rattle.pa_frame.proofs.Places.{bytes_aligned}
use Rattle.pa_selected.specs.Values.{Addresses, StandsFor}
use Rattle.pa_selected.specs.Calls.{IsRunning, HasFrameAt, IsOpen}
use Rattle.pa_select.specs.Selected.{load_temp, store_temp}
use Rattle.pa_selected.proofs.Straight.{Goes, no_touch, fine_later, allowed_stays}
use Rattle.pa_selected.proofs.Accessing.{Makes, Stores, loads, stores}

-- the registers that operations compute with
abbrev pub scratch : ℕ → Bool
scratch k = eqb k 9 || (eqb k 10 || (eqb k 11 || eqb k 12))

pub record NotScratch (k : ℕ) : Type 0 where
  pub not_9 : eqb k 9 ≡ false
  pub not_10 : eqb k 10 ≡ false
  pub not_11 : eqb k 11 ≡ false
  pub not_12 : eqb k 12 ≡ false

pub not_scratch : (k : ℕ) → scratch k ≡ false → NotScratch k
not_scratch k h =
    let one = no_touch (eqb k 9) (eqb k 10 || (eqb k 11 || eqb k 12)) h in
    let two = no_touch (eqb k 10) (eqb k 11 || eqb k 12) one.1 in
    let three = no_touch (eqb k 11) (eqb k 12) two.1 in
    record { not_9 = one.0; not_10 = two.0; not_11 = three.0; not_12 = three.1 }

-- ---- places

module _ (f : LirFn) (t : ℕ) (h : t < held f) where
  pub slot_inside : place_of_temp f t + 8 ≤ size_of_frame f
  slot_inside = omega (arith, h, sum_by-take-le rounded f.locals f.parameters)

  pub slot_aligned : place_of_temp f t % 8 ≡ 0
  slot_aligned = omega (arith, bytes_aligned f.locals f.parameters)

pub frame_later : (pac : Code) (f : LirFn) (n : ℕ) (m later : Machine) (left : List Region) (touched : ℕ → Bool) → HasFrameAt f m → Goes pac n m later left touched → HasFrameAt f later
frame_later pac f n m later left touched frame g =
    let same : (right : Right) → allowed right later.memory m.sp (size_of_frame f) ≡ allowed right m.memory m.sp (size_of_frame f) = λ right. allowed_stays pac n m later g.runs right m.sp (size_of_frame f) in
    record {
      reads = ap (λ s. allowed Read later.memory s (size_of_frame f)) g.sp ∙ (same Read ∙ frame.reads);
      writes = ap (λ s. allowed Write later.memory s (size_of_frame f)) g.sp ∙ (same Write ∙ frame.writes);
      low = omega (arith, g.sp, frame.low);
    }

-- ---- accesses

module _ (pac : Code) (f : LirFn) (m : Machine) (running : IsRunning m) (frame : HasFrameAt f m) (room : m.pc + 8 < 2 ^ 64) where
  pub loads_temp : (r t : ℕ) → r < 31 → t < held f → HasCode m.memory m.pc (load_temp f r t) → Makes pac (length (load_temp f r t)) m r (load 8 m.memory (m.sp + place_of_temp f t)) (λ k. eqb k 12 || eqb k r)
  loads_temp r t low h c =
      let inside = slot_inside f t h in
      loads pac m r (place_of_temp f t) running (slot_aligned f t h) (omega (arith, inside, frame.low)) room low
      (allowed-part Read m.memory m.sp (size_of_frame f) (place_of_temp f t) 8 frame.reads inside) c

  pub stores_temp : (r t : ℕ) → eqb r 12 ≡ false → t < held f → HasCode m.memory m.pc (store_temp f r t) → Stores pac (length (store_temp f r t)) m (m.sp + place_of_temp f t) (register r m) (λ k. eqb k 12 || false)
  stores_temp r t other h c =
      let inside = slot_inside f t h in
      stores pac m r (place_of_temp f t) running (slot_aligned f t h) (omega (arith, inside, frame.low)) room other
      (allowed-part Write m.memory m.sp (size_of_frame f) (place_of_temp f t) 8 frame.writes inside) c

-- ---- a temporary gets a value

some_value : (a b : FlatValue) → Some a ≡ Some b → a ≡ b
some_value a b e = ap (λ o. unwrap_or o a) e

module _ (pac : Code) (addresses : Addresses) (o : Open) (m : Machine) (call : IsOpen addresses o m) where
  -- a word that stands for a value is stored in the slot of a temporary
  pub stored_follows : (n to word : ℕ) (later : Machine) (touched : ℕ → Bool) (value : FlatValue)
      → Goes pac n m later (store 8 m.memory (m.sp + place_of_temp o.function to) word) touched → to < held o.function → word < 2 ^ 64 → StandsFor addresses value word
      → IsOpen addresses (with_temp to value o) later
  unfolding temp_in
  stored_follows n to word later touched value g few fits stands = record {
    running = fine_later pac n m later _ touched call.running g;
    frame = frame_later pac o.function n m later _ touched call.frame g;
    temps = λ t v e. temp_is t v (cases_eq to t) e;
    locals = record { count = call.locals.count; places = λ l h. call.locals.places l h ∙ ap (λ s. s + place_of_local o.function l) (sym g.sp) };
  }
    where
      at : ℕ → ℕ
      at t = m.sp + place_of_temp o.function t

      reads : (t : ℕ) → load 8 later.memory (later.sp + place_of_temp o.function t) ≡ load 8 (store 8 m.memory (at to) word) (at t)
      reads t = ap (λ x. load 8 x (later.sp + place_of_temp o.function t)) g.memory ∙ ap (λ s. load 8 (store 8 m.memory (at to) word) (s + place_of_temp o.function t)) g.sp

      own : load 8 (store 8 m.memory (at to) word) (at to) ≡ word
      own =
          let inside = slot_inside o.function to few in
          load-store-allowed Write 8 m.memory (at to) word (allowed-part Write m.memory m.sp (size_of_frame o.function) (place_of_temp o.function to) 8 call.frame.writes inside) ∙ omega arith

      other : (t : ℕ) → to ≢ t → load 8 (store 8 m.memory (at to) word) (at t) ≡ load 8 m.memory (at t)
      other t ne = load-store-other 8 8 m.memory (at to) word (at t) (λ below. omega (arith, ne))

      temp_is : (t : ℕ) (v : FlatValue) → ((to ≡ t) ⊎ (to ≢ t)) → cond (eqb to t) (Some value) (temp_in o.temps t) ≡ Some v
          → (t < held o.function) × StandsFor addresses v (load 8 later.memory (later.sp + place_of_temp o.function t))
      temp_is t v (inl same) e =
          let is : value ≡ v = some_value value v (sym (ap (λ b. cond b (Some value) (temp_in o.temps t)) (eq-eqb to t same)) ∙ e) in (
            omega (arith, same, few),
            subst (λ w. StandsFor addresses v w) (sym (reads t ∙ (ap (λ k. load 8 (store 8 m.memory (at to) word) (at k)) (sym same) ∙ own))) (subst (λ x. StandsFor addresses x word) is stands),
          )
      temp_is t v (inr ne) e =
          let was = call.temps t v (sym (ap (λ b. cond b (Some value) (temp_in o.temps t)) (ne_eqb to t ne)) ∙ e) in
          (was.0, subst (λ w. StandsFor addresses v w) (sym (reads t ∙ other t ne)) was.1)
