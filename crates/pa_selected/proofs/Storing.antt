-- Operations that compute: the machine stands to the open call as before, with the temporary's new value.
use Rattle.std.proofs.Common.{◌≡◌, ℕ, ◌+◌, ◌*◌, ◌^◌, ◌≤◌, ◌<◌, Bool, true, false, eqb, List, [], ◌∷◌, ◌++◌, length, Some, refl, sym, ap, subst, ◌∙◌, arith}
use Rattle.std.specs.Prelude.{ℤ, ◌||◌}
use Rattle.std.proofs.lemmas.List.{length-append, append_assoc}
use Rattle.std.proofs.lemmas.List.Sums.{sum_by-take-le}
use Rattle.pa_pac.specs.Signing.{Code}
use Rattle.pa_a64.specs.declared.instr.Instr.{Instr}
use Rattle.pa_mem.specs.Memory.{Read, allowed, store, load}
use Rattle.pa_object.specs.Machine.{Machine, register}
use Rattle.pa_object.specs.Placed.{HasCode}
use Rattle.pa_object.proofs.Placed.{HasCode-append}
use Rattle.pa_lir.specs.declared.op.Op.TheVariants as op
use Rattle.pa_lir.specs.declared.op.BinOp.{BinOp}
use Rattle.pa_lir.specs.declared.op.UnOp.{UnOp}
use Rattle.pa_lir.specs.declared.function.LirFn.{LirFn}
use Rattle.pa_lir.specs.Parts.{held, rounded}
use Rattle.pa_lir.specs.Operators.{of_numbers, of_number}
use Rattle.pa_lir.specs.Values.{FlatValue, Number, At, extended}
use Rattle.pa_lir.specs.Meaning.{Open, temp, with_temp}
use Rattle.pa_lir.specs.WellFormed.{IsWidth}
use Rattle.pa_frame.specs.Frames.{place_of_temp, place_of_local, size_of_frame}
use Rattle.pa_frame.proofs.Taken.{temp_bytes_most}
use Rattle.pa_selected.specs.Values.{Addresses, StandsFor}
use Rattle.pa_selected.specs.Calls.{IsRunning, HasFrameAt, IsOpen}
use Rattle.pa_select.specs.Computing as code
use Rattle.pa_select.specs.Accesses.{address}
use Rattle.pa_select.specs.Constants.{constant}
use Rattle.pa_selected.proofs.Moves.{constant_makes}
use Rattle.pa_select.specs.Selected.{load_temp, store_temp, operands, computed, code_of, words_of}
use Rattle.pa_a64.specs.declared.instr.LoadStoreOp.TheVariants.{Ldr}
use Rattle.pa_a64.specs.declared.instr.SumImmediateOp.TheVariants as immediate
use Rattle.pa_select.proofs.Costs.{length-access, length-binary, length-constant, length-moved_by}
use Rattle.pa_selected.proofs.Straight.{Goes, untouched, goes_then, goes_more, fine_later, code_later}
use Rattle.pa_selected.proofs.Accessing.{Makes, makes_address}
use Rattle.pa_selected.proofs.Operating.{computed_by, computed_means, binary_makes, unary_makes, extension_makes, load_makes}
use Rattle.pa_selected.proofs.Slots.{scratch, not_scratch, frame_later, loads_temp, stores_temp, stored_follows}

-- These instructions store this word in the slot of a temporary.
pub record StoresTemp (pac : Code) (f : LirFn) (n : ℕ) (m : Machine) (to word : ℕ) : Type 0 where
  pub later : Machine
  pub goes : Goes pac n m later (store 8 m.memory (m.sp + place_of_temp f to) word) scratch
  pub fits : word < 2 ^ 64

-- the word in the slot of a temporary
abbrev pub slot : LirFn → Machine → ℕ → ℕ
slot f m t = load 8 m.memory (m.sp + place_of_temp f t)

module _ (pac : Code) (f : LirFn) (m : Machine) (running : IsRunning m) (frame : HasFrameAt f m) where
  -- x9 is made, without a change in memory, and stored
  made_and_stored : (is : List Instr) (to word : ℕ) (made : Makes pac (length is) m 9 word scratch) → to < held f → m.pc + 4 * length is + 8 < 2 ^ 64 → HasCode m.memory m.pc (is ++ store_temp f 9 to)
      → StoresTemp pac f (length (is ++ store_temp f 9 to)) m to word
  made_and_stored is to word made few room c =
      let k = made.later in
      let running1 = fine_later pac (length is) m k m.memory scratch running made.goes in
      let frame1 = frame_later pac f (length is) m k m.memory scratch frame made.goes in
      let rest = code_later pac (length is) m k m.memory scratch (store_temp f 9 to) running made.goes (HasCode-append m.memory m.pc is (store_temp f 9 to) c).1 in
      let last = stores_temp pac f k running1 frame1 (omega (arith, made.goes.pc)) 9 to refl few rest in
      let memory : store 8 k.memory (k.sp + place_of_temp f to) (register 9 k) ≡ store 8 m.memory (m.sp + place_of_temp f to) word =
      ap (λ x. store 8 x (k.sp + place_of_temp f to) (register 9 k)) made.goes.memory
      ∙ (ap (λ s. store 8 m.memory (s + place_of_temp f to) (register 9 k)) made.goes.sp ∙ ap (store 8 m.memory (m.sp + place_of_temp f to)) made.value) in
      let both = goes_then pac (length is) (length (store_temp f 9 to)) m k last.later m.memory _ scratch _ made.goes last.goes in
      let less = goes_more pac _ m last.later _ _ scratch (λ j h. untouched (scratch j) (eqb j 12 || false) h (untouched (eqb j 12) false (not_scratch j h).not_12 refl)) both in
      record {
        later = last.later;
        goes = subst (λ n. Goes pac n m last.later (store 8 m.memory (m.sp + place_of_temp f to) word) scratch) (sym (length-append is (store_temp f 9 to)))
            (subst (λ x. Goes pac (length is + length (store_temp f 9 to)) m last.later x scratch) memory less);
        fits = subst (λ w. w < 2 ^ 64) made.value (running1.widths.registers 9);
      }

  -- x9 and x10 are the operands
  pub record Operands (left right : ℕ) : Type 0 where
    pub later : Machine
    pub goes : Goes pac (length (operands f left right)) m later m.memory scratch
    pub is_left : register 9 later ≡ slot f m left
    pub is_right : register 10 later ≡ slot f m right

  pub has_operands : (left right : ℕ) → left < held f → right < held f → m.pc + 16 < 2 ^ 64 → HasCode m.memory m.pc (operands f left right) → Operands left right
  has_operands left right a b room c =
      let parts = HasCode-append m.memory m.pc (load_temp f 9 left) (load_temp f 10 right) c in
      let one = loads_temp pac f m running frame (omega arith) 9 left (omega arith) a parts.0 in
      let k = one.later in
      let few = length-access Ldr 9 (place_of_temp f left) in
      let running1 = fine_later pac _ m k m.memory _ running one.goes in
      let frame1 = frame_later pac f _ m k m.memory _ frame one.goes in
      let rest = code_later pac _ m k m.memory _ (load_temp f 10 right) running one.goes parts.1 in
      let two = loads_temp pac f k running1 frame1 (omega (arith, one.goes.pc, few)) 10 right (omega arith) b rest in
      let both = goes_then pac _ _ m k two.later m.memory k.memory _ _ one.goes two.goes in
      let less = goes_more pac _ m two.later _ _ scratch (λ j h. let n = not_scratch j h in untouched (eqb j 12 || eqb j 9) (eqb j 12 || eqb j 10) (untouched (eqb j 12) (eqb j 9) n.not_12 n.not_9) (untouched (eqb j 12) (eqb j 10) n.not_12 n.not_10)) both in
      record {
        later = two.later;
        goes = subst (λ n. Goes pac n m two.later m.memory scratch) (sym (length-append (load_temp f 9 left) (load_temp f 10 right)))
            (subst (λ x. Goes pac (length (load_temp f 9 left) + length (load_temp f 10 right)) m two.later x scratch) one.goes.memory less);
        is_left = two.goes.others 9 refl ∙ one.value;
        is_right = two.value ∙ (ap (λ x. load 8 x (k.sp + place_of_temp f right)) one.goes.memory ∙ ap (λ s. load 8 m.memory (s + place_of_temp f right)) one.goes.sp);
      }

  -- ---- each operation that computes

  pub bin_stores : (words : ℤ) (to : ℕ) (operator : BinOp) (left right : ℕ) → to < held f → left < held f → right < held f → m.pc + 64 < 2 ^ 64 → HasCode m.memory m.pc (code_of f words (op.Bin to operator left right))
      → StoresTemp pac f (words_of f (op.Bin to operator left right)) m to (computed_by operator (slot f m left) (slot f m right))
  bin_stores words to operator left right few a b room c =
      let loaded = operands f left right in
      let made = code.binary operator in
      let parts = HasCode-append m.memory m.pc loaded (made ++ store_temp f 9 to) c in
      let one = has_operands left right a b (omega arith) parts.0 in
      let k = one.later in
      let running1 = fine_later pac _ m k m.memory scratch running one.goes in
      let four = length-append (load_temp f 9 left) (load_temp f 10 right) in
      let four_a = length-access Ldr 9 (place_of_temp f left) in
      let four_b = length-access Ldr 10 (place_of_temp f right) in
      let rest = code_later pac _ m k m.memory scratch (made ++ store_temp f 9 to) running one.goes parts.1 in
      let two = binary_makes pac k running1 (omega (arith, one.goes.pc, four, four_a, four_b)) operator (HasCode-append k.memory k.pc made (store_temp f 9 to) rest).0 in
      let both = goes_then pac _ _ m k two.later m.memory k.memory _ _ one.goes two.goes in
      let less = goes_more pac _ m two.later _ _ scratch (λ j h. let n = not_scratch j h in untouched (scratch j) (eqb j 11 || eqb j 9) h (untouched (eqb j 11) (eqb j 9) n.not_11 n.not_9)) both in
      let value : computed_by operator (register 9 k) (register 10 k) ≡ computed_by operator (slot f m left) (slot f m right) =
      ap (λ x. computed_by operator x (register 10 k)) one.is_left ∙ ap (computed_by operator (slot f m left)) one.is_right in
      let whole : Makes pac (length (loaded ++ made)) m 9 (computed_by operator (slot f m left) (slot f m right)) scratch = record {
        later = two.later;
        goes = subst (λ n. Goes pac n m two.later m.memory scratch) (sym (length-append loaded made)) (subst (λ x. Goes pac (length loaded + length made) m two.later x scratch) one.goes.memory less);
        value = two.value ∙ value;
      } in
      let grouped : (loaded ++ made) ++ store_temp f 9 to ≡ loaded ++ (made ++ store_temp f 9 to) = append_assoc loaded made (store_temp f 9 to) in
      subst (λ n. StoresTemp pac f n m to (computed_by operator (slot f m left) (slot f m right))) (ap length grouped)
      (made_and_stored (loaded ++ made) to _ whole few (omega (arith, length-append loaded made, four, four_a, four_b, length-binary operator, room))
      (subst (HasCode m.memory m.pc) (sym grouped) c))

  -- one instruction computes of a temporary in x9
  computed_stores : (instr : Instr) (from to word : ℕ) → from < held f → to < held f → m.pc + 64 < 2 ^ 64
      → ((k : Machine) → IsRunning k → k.pc + 8 < 2 ^ 64 → k.memory ≡ m.memory → register 9 k ≡ slot f m from → HasCode k.memory k.pc (instr ∷ []) → Makes pac 1 k 9 word (λ j. eqb j 11 || eqb j 9))
      → HasCode m.memory m.pc (computed f instr from to) → StoresTemp pac f (length (computed f instr from to)) m to word
  computed_stores instr from to word a few room does c =
      let loaded = load_temp f 9 from in
      let parts = HasCode-append m.memory m.pc loaded (instr ∷ store_temp f 9 to) c in
      let one = loads_temp pac f m running frame (omega arith) 9 from (omega arith) a parts.0 in
      let k = one.later in
      let short = length-access Ldr 9 (place_of_temp f from) in
      let running1 = fine_later pac _ m k m.memory _ running one.goes in
      let rest = code_later pac _ m k m.memory _ (instr ∷ store_temp f 9 to) running one.goes parts.1 in
      let two = does k running1 (omega (arith, one.goes.pc, short)) one.goes.memory one.value ((rest.0, tt)) in
      let both = goes_then pac _ _ m k two.later m.memory k.memory _ _ one.goes two.goes in
      let less = goes_more pac _ m two.later _ _ scratch (λ j h. let n = not_scratch j h in untouched (eqb j 12 || eqb j 9) (eqb j 11 || eqb j 9) (untouched (eqb j 12) (eqb j 9) n.not_12 n.not_9) (untouched (eqb j 11) (eqb j 9) n.not_11 n.not_9)) both in
      let whole : Makes pac (length (loaded ++ instr ∷ [])) m 9 word scratch = record {
        later = two.later;
        goes = subst (λ n. Goes pac n m two.later m.memory scratch) (sym (length-append loaded (instr ∷ []))) (subst (λ x. Goes pac (length loaded + 1) m two.later x scratch) one.goes.memory less);
        value = two.value;
      } in
      let grouped : (loaded ++ instr ∷ []) ++ store_temp f 9 to ≡ loaded ++ (instr ∷ store_temp f 9 to) = append_assoc loaded (instr ∷ []) (store_temp f 9 to) in
      subst (λ n. StoresTemp pac f n m to word) (ap length grouped)
      (made_and_stored (loaded ++ instr ∷ []) to word whole few (omega (arith, length-append loaded (instr ∷ []), short, room)) (subst (HasCode m.memory m.pc) (sym grouped) c))

  pub un_stores : (words : ℤ) (to : ℕ) (operator : UnOp) (from : ℕ) → to < held f → from < held f → m.pc + 64 < 2 ^ 64 → HasCode m.memory m.pc (code_of f words (op.Un to operator from))
      → StoresTemp pac f (words_of f (op.Un to operator from)) m to (of_number operator (slot f m from))
  un_stores words to operator from few a room c =
      computed_stores (code.unary operator) from to _ a few room
      (λ k r low same e at. let made = unary_makes pac k r low operator at in record { later = made.later; goes = made.goes; value = made.value ∙ ap (of_number operator) e }) c

  pub extend_stores : (words : ℤ) (to from bits : ℕ) (signed : Bool) → 1 ≤ bits → to < held f → from < held f → m.pc + 64 < 2 ^ 64 → HasCode m.memory m.pc (code_of f words (op.Extend to from bits signed))
      → StoresTemp pac f (words_of f (op.Extend to from bits signed)) m to (extended bits signed (slot f m from))
  extend_stores words to from bits signed some few a room c =
      computed_stores (code.extended bits signed) from to _ a few room
      (λ k r low same e at. let made = extension_makes pac k r low bits signed some at in record { later = made.later; goes = made.goes; value = made.value ∙ ap (extended bits signed) e }) c

  pub load_stores : (words : ℤ) (to at bytes : ℕ) (signed : Bool) → IsWidth bytes → allowed Read m.memory (slot f m at) bytes ≡ true → to < held f → at < held f → m.pc + 64 < 2 ^ 64 → HasCode m.memory m.pc (code_of f words (op.Load to at bytes signed))
      → StoresTemp pac f (words_of f (op.Load to at bytes signed)) m to (extended (8 * bytes) signed (load bytes m.memory (slot f m at)))
  load_stores words to at bytes signed width may few a room c =
      computed_stores (code.load_sized bytes signed) at to _ a few room
      (λ k r low same e here. let made = load_makes pac k r low bytes signed width (ap (λ x. allowed Read x (register 9 k) bytes) same ∙ (ap (λ p. allowed Read m.memory p bytes) e ∙ may)) here in
      record { later = made.later; goes = made.goes; value = made.value ∙ (ap (λ x. extended (8 * bytes) signed (load bytes x (register 9 k))) same ∙ ap (λ p. extended (8 * bytes) signed (load bytes m.memory p)) e) }) c

  pub local_stores : (words : ℤ) (to local : ℕ) → local < length f.locals → to < held f → m.pc + 64 < 2 ^ 64 → HasCode m.memory m.pc (code_of f words (op.Local to local))
      → StoresTemp pac f (words_of f (op.Local to local)) m to (m.sp + place_of_local f local)
  local_stores words to local within few room c =
      let parts = HasCode-append m.memory m.pc (address 9 (place_of_local f local)) (store_temp f 9 to) c in
      let inside : place_of_local f local ≤ size_of_frame f = omega (arith, sum_by-take-le rounded f.locals local, temp_bytes_most f local) in
      let made = makes_address pac m 9 (place_of_local f local) running (omega arith) refl (omega (arith, inside, frame.low)) (omega arith) parts.0 in
      made_and_stored (address 9 (place_of_local f local)) to _
      (record { later = made.later; goes = goes_more pac _ m made.later m.memory _ scratch (λ j h. let n = not_scratch j h in untouched (eqb j 9) (eqb j 9) n.not_9 n.not_9) made.goes; value = made.value })
      few (omega (arith, length-moved_by immediate.Add 9 31 (place_of_local f local), room)) c

  pub const_stores : (words : ℤ) (to value : ℕ) → value < 2 ^ 64 → to < held f → m.pc + 64 < 2 ^ 64 → HasCode m.memory m.pc (code_of f words (op.Const to value))
      → StoresTemp pac f (words_of f (op.Const to value)) m to value
  const_stores words to value small few room c =
      let parts = HasCode-append m.memory m.pc (constant 9 value) (store_temp f 9 to) c in
      let made = constant_makes pac value m small running (omega arith) parts.0 in
      made_and_stored (constant 9 value) to value
      (record { later = made.later; goes = goes_more pac _ m made.later m.memory _ scratch (λ j h. (not_scratch j h).not_9) made.goes; value = made.value })
      few (omega (arith, length-constant 9 value, room)) c

-- ---- an open call with a temporary's new value

-- so many instructions give a temporary a value, and leave all else of the call
pub record Gives (pac : Code) (addresses : Addresses) (o : Open) (n : ℕ) (m : Machine) (to : ℕ) (value : FlatValue) : Type 0 where
  pub later : Machine
  pub word : ℕ
  pub goes : Goes pac n m later (store 8 m.memory (m.sp + place_of_temp o.function to) word) scratch
  pub call : IsOpen addresses (with_temp to value o) later

module _ (pac : Code) (addresses : Addresses) (o : Open) (m : Machine) (call : IsOpen addresses o m) (room : m.pc + 64 < 2 ^ 64) where
  gives : (n to word : ℕ) (value : FlatValue) → to < held o.function → StoresTemp pac o.function n m to word → StandsFor addresses value word → Gives pac addresses o n m to value
  gives n to word value few stored stands = record {
    later = stored.later;
    word = word;
    goes = stored.goes;
    call = stored_follows pac addresses o m call n to word stored.later scratch value stored.goes few stored.fits stands;
  }

  -- a number that a temporary has stands in its slot
  number_in_slot : (t x : ℕ) → temp o t ≡ Some (Number x) → (t < held o.function) × (slot o.function m t ≡ x)
  number_in_slot t x e = call.temps t (Number x) e

  pub bin_follows : (words : ℤ) (to : ℕ) (operator : BinOp) (left right x y z : ℕ) → to < held o.function → temp o left ≡ Some (Number x) → temp o right ≡ Some (Number y) → of_numbers operator x y ≡ Some z
      → HasCode m.memory m.pc (code_of o.function words (op.Bin to operator left right)) → Gives pac addresses o (words_of o.function (op.Bin to operator left right)) m to (Number z)
  bin_follows words to operator left right x y z few l r means c =
      let a = number_in_slot left x l in
      let b = number_in_slot right y r in
      let stored = bin_stores pac o.function m call.running call.frame words to operator left right few a.0 b.0 room c in
      gives _ to _ (Number z) few stored
      (ap (λ u. computed_by operator u (slot o.function m right)) a.1 ∙ (ap (computed_by operator x) b.1 ∙ sym (computed_means operator x y z means)))

  -- whatever its operands: the word that the instructions make stands for the value
  pub bin_gives : (words : ℤ) (to : ℕ) (operator : BinOp) (left right : ℕ) (value : FlatValue) → to < held o.function → left < held o.function → right < held o.function
      → StandsFor addresses value (computed_by operator (slot o.function m left) (slot o.function m right)) → HasCode m.memory m.pc (code_of o.function words (op.Bin to operator left right)) → Gives pac addresses o (words_of o.function (op.Bin to operator left right)) m to value
  bin_gives words to operator left right value few a b stands c = gives _ to _ value few (bin_stores pac o.function m call.running call.frame words to operator left right few a b room c) stands

  pub un_follows : (words : ℤ) (to : ℕ) (operator : UnOp) (from x : ℕ) → to < held o.function → temp o from ≡ Some (Number x)
      → HasCode m.memory m.pc (code_of o.function words (op.Un to operator from)) → Gives pac addresses o (words_of o.function (op.Un to operator from)) m to (Number (of_number operator x))
  un_follows words to operator from x few e c =
      let a = number_in_slot from x e in
      gives _ to _ (Number (of_number operator x)) few (un_stores pac o.function m call.running call.frame words to operator from few a.0 room c) (ap (of_number operator) a.1)

  pub extend_follows : (words : ℤ) (to from bits : ℕ) (signed : Bool) (x : ℕ) → 1 ≤ bits → to < held o.function → temp o from ≡ Some (Number x)
      → HasCode m.memory m.pc (code_of o.function words (op.Extend to from bits signed)) → Gives pac addresses o (words_of o.function (op.Extend to from bits signed)) m to (Number (extended bits signed x))
  extend_follows words to from bits signed x some few e c =
      let a = number_in_slot from x e in
      gives _ to _ (Number (extended bits signed x)) few (extend_stores pac o.function m call.running call.frame words to from bits signed some few a.0 room c) (ap (extended bits signed) a.1)

  pub local_follows : (words : ℤ) (to local : ℕ) → local < length o.function.locals → to < held o.function
      → HasCode m.memory m.pc (code_of o.function words (op.Local to local)) → Gives pac addresses o (words_of o.function (op.Local to local)) m to (At (o.first + local) 0)
  local_follows words to local within few c =
      gives _ to _ (At (o.first + local) 0) few (local_stores pac o.function m call.running call.frame words to local within few room c)
      (let some = call.locals.count in (omega arith, let lies = call.locals.places local within in omega (arith, lies)))

  -- what is loaded from the place that a temporary has
  pub load_follows : (words : ℤ) (to at bytes from : ℕ) (signed : Bool) (value : FlatValue) → to < held o.function → at < held o.function → slot o.function m at ≡ from → IsWidth bytes → allowed Read m.memory from bytes ≡ true
      → StandsFor addresses value (extended (8 * bytes) signed (load bytes m.memory from)) → HasCode m.memory m.pc (code_of o.function words (op.Load to at bytes signed)) → Gives pac addresses o (words_of o.function (op.Load to at bytes signed)) m to value
  load_follows words to at bytes from signed value few a is width may stands c =
      gives _ to _ value few (load_stores pac o.function m call.running call.frame words to at bytes signed width (ap (λ p. allowed Read m.memory p bytes) is ∙ may) few a room c)
      (subst (λ p. StandsFor addresses value (extended (8 * bytes) signed (load bytes m.memory p))) (sym is) stands)

  pub const_follows : (words : ℤ) (to value : ℕ) → value < 2 ^ 64 → to < held o.function → HasCode m.memory m.pc (code_of o.function words (op.Const to value))
      → Gives pac addresses o (words_of o.function (op.Const to value)) m to (Number value)
  const_follows words to value small few c = gives _ to value (Number value) few (const_stores pac o.function m call.running call.frame words to value small few room c) refl
