-- Labels, jumps and branches: the machine goes on at the operation's next place, and nothing else changes.
use Rattle.std.proofs.Common.{◌≡◌, ℕ, suc, ◌+◌, ◌-◌, ◌*◌, ◌^◌, ◌≤◌, ◌<◌, ◌⊎◌, inl, inr, Bool, true, false, cond, eqb, List, [], ◌∷◌, ◌++◌, length, take, Option, Some, None, refl, sym, ap, subst, ◌∙◌, arith}
use Rattle.std.specs.Prelude.{pos, ◌||◌, slice_get, option_map, unwrap_or}
use Rattle.std.specs.List.{sum_by}
use Rattle.std.proofs.lemmas.Bool.{cases_lt, ne_eqb, le-leb, lt-leb}
use Rattle.std.proofs.lemmas.List.Sums.{sum_by-cons, sum_by-take-le}
use Rattle.pa_num.specs.Arithmetic.{scaled64}
use Rattle.pa_pac.specs.Signing.{Code}
use Rattle.pa_a64.specs.declared.instr.Instr.{Instr}
use Rattle.pa_a64.specs.declared.instr.Instr.TheVariants as i
use Rattle.pa_a64.specs.declared.instr.BranchOp.TheVariants.{B}
use Rattle.pa_a64.specs.declared.instr.CompareBranchOp.TheVariants.{Cbz}
use Rattle.pa_a64.specs.declared.instr.LoadStoreOp.TheVariants.{Ldr}
use Rattle.pa_object.specs.Machine.{Machine, register, goes_to, after}
use Rattle.pa_object.specs.Effects.{way_to}
use Rattle.pa_object.specs.Filled.{distance}
use Rattle.pa_object.specs.Run.{step, advance_by}
use Rattle.pa_object.specs.Placed.{HasCode}
use Rattle.pa_object.proofs.Placed.{HasCode-append}
use Rattle.pa_object.proofs.Growth.{advance_by-add}
use Rattle.pa_object.proofs.Steps.{add64_small}
use Rattle.pa_object.proofs.StepsBranching.{branch_step, compare_branch_step, way_forward, way_back}
use Rattle.pa_lir.specs.declared.op.Op.{Op}
use Rattle.pa_lir.specs.declared.op.Op.TheVariants as op
use Rattle.pa_lir.specs.declared.function.LirFn.{LirFn}
use Rattle.pa_lir.specs.Flow.{is_label, place_of_label}
use Rattle.pa_lir.specs.Parts.{held}
use Rattle.pa_lir.specs.Meaning.{Open}
use Rattle.pa_select.specs.Selected.{prologue, load_temp, words_of, label_from, label_at, words_to}
use Rattle.pa_select.proofs.Costs.{length-access}
use Rattle.pa_select.proofs.Lengths.{last_of_branch}
use Rattle.pa_frame.specs.Frames.{place_of_temp}
use Rattle.pa_selected.specs.Worlds.{World, IsPlaced, place_of_op}
use Rattle.pa_selected.specs.Values.{Addresses}
use Rattle.pa_selected.specs.Calls.{IsRunning, IsOpen, IsAt}
use Rattle.pa_selected.proofs.Straight.{Goes, untouched, one, fine_later, code_later}
use Rattle.pa_selected.proofs.Slots.{scratch, not_scratch, loads_temp}
use Rattle.pa_selected.proofs.Storing.{slot}
use Rattle.pa_selected.proofs.Steps.{code_of_op, next_place, room_at}

-- ---- instructions that go elsewhere

-- So many instructions lead to an address. They leave memory, and no other registers than those that operations compute with.
pub record Turns (code : Code) (n : ℕ) (m later : Machine) (to : ℕ) : Type 0 where
  pub runs : advance_by code [] n m ≡ later
  pub pc : later.pc ≡ to
  pub count : later.count ≡ m.count + n
  pub sp : later.sp ≡ m.sp
  pub memory : later.memory ≡ m.memory
  pub input : later.input ≡ m.input
  pub output : later.output ≡ m.output
  pub log : later.log ≡ m.log
  pub ended : later.ended ≡ None
  pub others : (i : ℕ) → scratch i ≡ false → register i later ≡ register i m

-- straight code, and then instructions that go elsewhere
pub goes_turns : (code : Code) (n k : ℕ) (m middle later : Machine) (to : ℕ) (touched : ℕ → Bool) → ((i : ℕ) → scratch i ≡ false → touched i ≡ false) → Goes code n m middle m.memory touched → Turns code k middle later to → Turns code (n + k) m later to
goes_turns code n k m middle later to touched less a b = record {
  runs = advance_by-add code [] n k m ∙ (ap (advance_by code [] k) a.runs ∙ b.runs);
  pc = b.pc;
  count = omega (arith, a.count, b.count);
  sp = b.sp ∙ a.sp;
  memory = b.memory ∙ a.memory;
  input = b.input ∙ a.input;
  output = b.output ∙ a.output;
  log = b.log ∙ a.log;
  ended = b.ended;
  others = λ i h. b.others i h ∙ a.others i (less i h);
}

-- one of them
pub turns_to : (code : Code) (m : Machine) (to : ℕ) → m.ended ≡ None → step code m ≡ goes_to to m → Turns code 1 m (goes_to to m) to
turns_to code m to going e = record {
  runs = one code m _ going e;
  pc = refl;
  count = omega arith;
  sp = refl;
  memory = refl;
  input = refl;
  output = refl;
  log = refl;
  ended = going;
  others = λ i h. refl;
}

-- and one more
pub turns_then : (code : Code) (m middle later : Machine) (at to : ℕ) → Turns code 1 m middle at → Turns code 1 middle later to → Turns code 2 m later to
turns_then code m middle later at to a b = record {
  runs = advance_by-add code [] 1 1 m ∙ (ap (advance_by code [] 1) a.runs ∙ b.runs);
  pc = b.pc;
  count = omega (arith, a.count, b.count);
  sp = b.sp ∙ a.sp;
  memory = b.memory ∙ a.memory;
  input = b.input ∙ a.input;
  output = b.output ∙ a.output;
  log = b.log ∙ a.log;
  ended = b.ended;
  others = λ i h. b.others i h ∙ a.others i h;
}

-- ---- distances

-- so many words from one place of a function lies another
pub way_between : (m : Machine) (entry from to : ℕ) → m.pc ≡ entry + 4 * from → m.pc < 2 ^ 64 → entry + 4 * to < 2 ^ 64 → way_to (scaled64 4 (distance from to)) m ≡ entry + 4 * to
way_between m entry from to e low high = go (cases_lt to from)
  where
    go : ((to < from) ⊎ (from ≤ to)) → way_to (scaled64 4 (distance from to)) m ≡ entry + 4 * to
    go (inr le) = rw (le-leb from to le) (way_forward m (to - from) (omega (arith, e)) ∙ omega (arith, e))
    go (inl lt) = rw (lt-leb from to lt) (way_back m (from - to - 1) (omega (arith, e)) low ∙ omega (arith, e))

some_place : (a b : ℕ) → Some a ≡ Some b → a ≡ b
some_place a b e = ap (λ o. unwrap_or o a) e

-- a label lies where its operation begins
label_at_op : (f : LirFn) (at : ℕ) (os : List Op) (label k : ℕ) → place_of_label os label ≡ Some k → label_from f at os label ≡ Some (at + sum_by (words_of f) (take k os))
unfolding label_from place_of_label
label_at_op f at [] label k e = cc
label_at_op f at (o ∷ os) label k e = go (λ j q. label_at_op f (at + words_of f o) os label j q) (is_label label o) e
  where
    Rest : Type 0
    Rest = (j : ℕ) → place_of_label os label ≡ Some j → label_from f (at + words_of f o) os label ≡ Some (at + words_of f o + sum_by (words_of f) (take j os))

    later : Rest → (p : Option ℕ) → place_of_label os label ≡ p → option_map (λ n. suc n) p ≡ Some k → label_from f (at + words_of f o) os label ≡ Some (at + sum_by (words_of f) (take k (o ∷ os)))
    later rest None q e = cc
    later rest (Some j) q e =
        let next : suc j ≡ k = some_place (suc j) k e in
        subst (λ n. label_from f (at + words_of f o) os label ≡ Some (at + sum_by (words_of f) (take n (o ∷ os)))) next
        (rest j q ∙ ap Some (omega (arith, sum_by-cons (words_of f) o (take j os))))

    go : Rest → (b : Bool) → cond b (Some 0) (option_map (λ n. suc n) (place_of_label os label)) ≡ Some k → cond b (Some at) (label_from f (at + words_of f o) os label) ≡ Some (at + sum_by (words_of f) (take k (o ∷ os)))
    go rest true e =
        let none : 0 ≡ k = some_place 0 k e in
        subst (λ n. Some at ≡ Some (at + sum_by (words_of f) (take n (o ∷ os)))) none (ap Some (omega arith))
    go rest false e = later rest (place_of_label os label) refl e

label_place : (f : LirFn) (label k : ℕ) → place_of_label f.ops label ≡ Some k → label_at f label ≡ Some (place_of_op f k)
label_place f label k e = label_at_op f (length (prologue f)) f.ops label k e

-- ---- the operations

-- the open call at another of its operations
abbrev pub moved : Open → ℕ → Open
moved o at = record o { at = at }

-- the call goes on at an operation
pub record MovesTo (w : World) (o : Open) (m : Machine) (k most : ℕ) : Type 0 where
  pub later : Machine
  pub count : ℕ
  pub some : 1 ≤ count
  pub few : count ≤ most
  pub turns : Turns w.pac count m later (w.entry o.function.name + 4 * place_of_op o.function k)

module _ (w : World) (addresses : Addresses) (o : Open) (m : Machine) (call : IsOpen addresses o m) (placed : IsPlaced w m.memory o.function) (at : IsAt w o m) where
  -- a label has no instruction
  pub label_runs : (label : ℕ) → slice_get o.function.ops o.at ≡ Some (op.Label label) → IsAt w (moved o (suc o.at)) m
  label_runs label e = omega (arith, at, next_place o.function o.at o.function.ops (op.Label label) e)

  place_low : (k : ℕ) → w.entry o.function.name + 4 * place_of_op o.function k < 2 ^ 47
  place_low k = let low = placed.low in omega (arith, low, sum_by-take-le (words_of o.function) o.function.ops k)

  -- a B that stands so many words from the function's first goes to the place of the operation
  b_turns : (x : Machine) (from label k : ℕ) → x.ended ≡ None → x.pc ≡ w.entry o.function.name + 4 * from → x.pc < 2 ^ 64 → place_of_label o.function.ops label ≡ Some k
      → HasCode x.memory x.pc (i.Branch B (words_to from (label_at o.function label)) ∷ [])
      → Turns w.pac 1 x (goes_to (w.entry o.function.name + 4 * place_of_op o.function k) x) (w.entry o.function.name + 4 * place_of_op o.function k)
  b_turns x from label k going here low e c =
      let to = label_place o.function label k e in
      let words : words_to from (label_at o.function label) ≡ distance from (place_of_op o.function k) = ap (words_to from) to in
      let way = way_between x (w.entry o.function.name) from (place_of_op o.function k) here low (omega (arith, place_low k)) in
      turns_to w.pac x _ going
      (branch_step w.pac x B (words_to from (label_at o.function label)) c.0 ∙ ap (λ t. goes_to t x) (ap (λ n. way_to (scaled64 4 n) x) words ∙ way))

  pub jump_runs : (label k : ℕ) → slice_get o.function.ops o.at ≡ Some (op.Jump label) → place_of_label o.function.ops label ≡ Some k → MovesTo w o m k 1
  jump_runs label k e to =
      let c = code_of_op w o m (op.Jump label) placed at e in
      let place = place_of_op o.function o.at in
      let same : place + 1 - 1 ≡ place = omega arith in
      record {
        later = goes_to (w.entry o.function.name + 4 * place_of_op o.function k) m;
        count = 1;
        some = omega arith;
        few = omega arith;
        turns = b_turns m place label k call.running.going at (omega (arith, room_at w o m placed at)) to
            (subst (λ n. HasCode m.memory m.pc (i.Branch B (words_to n (label_at o.function label)) ∷ [])) same c);
      }

  load_touches : (i : ℕ) → scratch i ≡ false → (eqb i 12 || eqb i 9) ≡ false
  load_touches i h = let n = not_scratch i h in untouched (eqb i 12) (eqb i 9) n.not_12 n.not_9

  -- x9 has the word of the temporary
  record Tested (on : ℕ) : Type 0 where
    middle : Machine
    goes : Goes w.pac (length (load_temp o.function 9 on)) m middle m.memory (λ k. eqb k 12 || eqb k 9)
    value : register 9 middle ≡ slot o.function m on
    running : IsRunning middle
    code : (rest : List Instr) → HasCode m.memory m.pc (load_temp o.function 9 on ++ rest) → HasCode middle.memory middle.pc rest

  tested : (on : ℕ) → on < held o.function → HasCode m.memory m.pc (load_temp o.function 9 on) → Tested on
  tested on few c =
      let made = loads_temp w.pac o.function m call.running call.frame (omega (arith, room_at w o m placed at)) 9 on (omega arith) few c in
      record {
        middle = made.later;
        goes = made.goes;
        value = made.value;
        running = fine_later w.pac _ m made.later m.memory _ call.running made.goes;
        code = λ rest c. code_later w.pac _ m made.later m.memory _ rest call.running made.goes (HasCode-append m.memory m.pc (load_temp o.function 9 on) rest c).1;
      }

  -- a temporary that is 0 goes on behind the branch, and another one to the label
  pub branch_falls : (on label : ℕ) → slice_get o.function.ops o.at ≡ Some (op.Branch on label) → on < held o.function → slot o.function m on ≡ 0 → MovesTo w o m (suc o.at) 4
  branch_falls on label e few zero_there =
      let c = code_of_op w o m (op.Branch on label) placed at e in
      let size = last_of_branch o.function on label in
      let parts = HasCode-append m.memory m.pc (load_temp o.function 9 on) _ c in
      let first = tested on few parts.0 in
      let k = first.middle in
      let here = first.code _ c in
      let short = length-access Ldr 9 (place_of_temp o.function on) in
      let pc = first.goes.pc in
      let low = room_at w o m placed at in
      let place = w.entry o.function.name + 4 * place_of_op o.function (suc o.at) in
      let next : k.pc + 8 ≡ place = omega (arith, pc, at, size, next_place o.function o.at o.function.ops (op.Branch on label) e) in
      let way = way_forward k 2 (omega (arith, pc, short, low)) in
      let done : step w.pac k ≡ goes_to place k =
      compare_branch_step w.pac k Cbz 9 (pos 2) here.0
      ∙ ap (λ v. goes_to (cond (eqb v 0) (way_to (scaled64 4 (pos 2)) k) (after k)) k) (first.value ∙ zero_there)
      ∙ ap (λ t. goes_to t k) (way ∙ next) in
      record {
        later = goes_to place k;
        count = length (load_temp o.function 9 on) + 1;
        some = omega arith;
        few = omega (arith, short);
        turns = goes_turns w.pac _ 1 m k (goes_to place k) place _ load_touches first.goes (turns_to w.pac k place first.running.going done);
      }

  pub branch_goes : (on label k : ℕ) → slice_get o.function.ops o.at ≡ Some (op.Branch on label) → on < held o.function → (slot o.function m on ≡ 0 → ⊥) → place_of_label o.function.ops label ≡ Some k → MovesTo w o m k 4
  branch_goes on label to e few other there =
      let f = o.function in
      let c = code_of_op w o m (op.Branch on label) placed at e in
      let size = last_of_branch f on label in
      let parts = HasCode-append m.memory m.pc (load_temp f 9 on) _ c in
      let first = tested on few parts.0 in
      let k = first.middle in
      let here = first.code _ c in
      let short = length-access Ldr 9 (place_of_temp f on) in
      let pc = first.goes.pc in
      let low = room_at w o m placed at in
      let from = place_of_op f o.at + words_of f (op.Branch on label) - 1 in
      let behind : after k ≡ k.pc + 4 = add64_small k.pc 4 (omega (arith, pc, short, low)) in
      let is_other : eqb (register 9 k) 0 ≡ false = ne_eqb (register 9 k) 0 (λ z. other (sym first.value ∙ z)) in
      let done : step w.pac k ≡ goes_to (k.pc + 4) k =
      compare_branch_step w.pac k Cbz 9 (pos 2) here.0
      ∙ ap (λ b. goes_to (cond b (way_to (scaled64 4 (pos 2)) k) (after k)) k) is_other
      ∙ ap (λ t. goes_to t k) behind in
      let x = goes_to (k.pc + 4) k in
      let second = turns_to w.pac k (k.pc + 4) first.running.going done in
      let last = b_turns x from label to first.running.going (omega (arith, pc, at, size)) (omega (arith, pc, short, low)) there (here.1.0, tt) in
      let place = w.entry f.name + 4 * place_of_op f to in
      record {
        later = goes_to place x;
        count = length (load_temp f 9 on) + 2;
        some = omega arith;
        few = omega (arith, short);
        turns = goes_turns w.pac _ 2 m k (goes_to place x) place _ load_touches first.goes (turns_then w.pac k x (goes_to place x) (k.pc + 4) place second last);
      }
