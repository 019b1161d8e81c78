-- The arguments of a call are stored where its parameters lie, each as the bytes of its value.
use Rattle.std.proofs.Common.{◌≡◌, inl, inr, ◌⊎◌, ℕ, zero, suc, ◌+◌, ◌*◌, ◌/◌, ◌%◌, ◌^◌, ◌≤◌, ◌<◌, Bool, true, false, cond, eqb, ltb, List, [], ◌∷◌, ◌++◌, length, take, get_or, Option, Some, None, refl, sym, ap, subst, ◌∙◌, arith}
use Rattle.std.specs.Prelude.{◌||◌, replicate, slice_get, unwrap_or, option_map}
use Rattle.std.specs.Int.{next_multiple_of}
use Rattle.std.specs.List.{sum_by}
use Rattle.std.proofs.lemmas.Bool.{cases_eq, eq-eqb, ne_eqb, lt-ltb}
use Rattle.std.proofs.lemmas.List.{length-append, length-replicate, nil_from_length}
use Rattle.std.proofs.lemmas.List.Sums.{sum_by-cons}
use Rattle.pa_pac.specs.Signing.{Code}
use Rattle.pa_a64.specs.declared.instr.Instr.TheVariants.{LoadStore, SumImmediate}
use Rattle.pa_a64.specs.declared.instr.LoadStoreOp.TheVariants.{Str}
use Rattle.pa_a64.specs.declared.instr.SumImmediateOp.TheVariants as immediate
use Rattle.pa_mem.specs.Memory.{Region, Write, allowed, store, byte_at}
use Rattle.pa_mem.proofs.Bytes.{allowed-part, allowed-covered}
use Rattle.pa_mem.proofs.Ranges.{byte_at-store-same, byte_at-store-other}
use Rattle.pa_object.specs.Machine.{Machine, register}
use Rattle.pa_object.specs.Placed.{HasCode}
use Rattle.pa_object.proofs.Placed.{HasCode-append}
use Rattle.pa_lir.specs.declared.function.LirLocal.{LirLocal}
use Rattle.pa_lir.specs.declared.function.LirFn.{LirFn}
use Rattle.pa_lir.specs.Parts.{rounded, held}
use Rattle.pa_lir.specs.Values.{FlatValue, Number, At, Code as FunctionValue, Byte, Unset, Object, Objects, octets, parts, bytes_of}
use Rattle.pa_lir.specs.Meaning.{fresh, filled, and_objects, born}
use Rattle.pa_frame.specs.Frames.{bytes_before, place_of_temp, place_of_local, size_of_frame}
use Rattle.pa_frame.proofs.Places.{bytes_rise, bytes_within, bytes_aligned}
use Rattle.pa_frame.proofs.Taken.{temps_before_parameter}
use Rattle.pa_select.specs.Accesses as access
use Rattle.pa_select.specs.Selected.{store_parameter, store_parameters}
use Rattle.pa_selected.specs.Values.{Addresses, StandsFor, HasBytes}
use Rattle.pa_selected.specs.Calls.{IsRunning, HasFrameAt, HasArguments}
use Rattle.pa_selected.proofs.Bytes.{HasBytes-alike}
use Rattle.pa_selected.proofs.Contents.{octets_stored, parts_stored}
use Rattle.pa_selected.proofs.Changing.{size_stored}
use Rattle.pa_selected.proofs.Straight.{Goes, goes_none, goes_then, goes_more, untouched, fine_later, code_later}
use Rattle.pa_selected.proofs.Accessing.{stores}
use Rattle.pa_selected.proofs.Slots.{frame_later}

-- ---- where parameters lie

same_local : (x y : LirLocal) → Some x ≡ Some y → x ≡ y
same_local x y e = ap (λ o. unwrap_or o x) e

-- the bytes before a local and its own are those before the next one
pub bytes_next : (ls : List LirLocal) (k : ℕ) (l : LirLocal) → slice_get ls k ≡ Some l → sum_by rounded (take (suc k) ls) ≡ sum_by rounded (take k ls) + rounded l
bytes_next [] k l e = cc
bytes_next (x ∷ ls) zero l e = let same = ap rounded (same_local x l e) in omega (arith, sum_by-cons rounded x [], same)
bytes_next (x ∷ ls) (suc k) l e = omega (arith, sum_by-cons rounded x (take (suc k) ls), sum_by-cons rounded x (take k ls), bytes_next ls k l e)

-- ---- the bytes of an argument

size_8 : (n : ℕ) → n ≤ 8 → (i : ℕ) → i < n → i < 8
size_8 n few i low = omega arith

pub argument_lies : (addresses : Addresses) (memory : List Region) (n to word : ℕ) (value : FlatValue) (new : List Byte) → n ≤ 8 → word < 2 ^ 64 → StandsFor addresses value word → bytes_of n value ≡ Some new → allowed Write memory to 8 ≡ true
    → HasBytes addresses (store 8 memory to word) to new
argument_lies addresses memory n to word value new few fits stands e may = go value stands e
  where
    later : List Region
    later = store 8 memory to word

    some_bytes : (xs ys : List Byte) → Some xs ≡ Some ys → xs ≡ ys
    some_bytes xs ys e = ap (λ o. unwrap_or o xs) e

    each : (i : ℕ) → i < 8 → byte_at (store 8 memory to word) (to + i) ≡ word / 256 ^ i % 256
    each i low = byte_at-store-same 8 memory to word i (λ j below. allowed-covered Write memory to 8 j may below) low

    pointer_lies : (pointer : FlatValue) → StandsFor addresses pointer word → (b : Bool) → cond b (Some (parts 8 pointer)) None ≡ Some new → HasBytes addresses (store 8 memory to word) to new
    pointer_lies pointer stands true e =
        subst (HasBytes addresses (store 8 memory to word) to) (some_bytes (parts 8 pointer) new e)
        (parts_stored addresses (store 8 memory to word) pointer word fits stands 8 to (omega arith) (λ i low. each i low ∙ ap (λ k. word / 256 ^ k % 256) (omega arith)))
    pointer_lies pointer stands false e = cc

    go : (value : FlatValue) → StandsFor addresses value word → bytes_of n value ≡ Some new → HasBytes addresses (store 8 memory to word) to new
    go (Number x) stands e =
        subst (HasBytes addresses (store 8 memory to word) to) (some_bytes (octets n x) new e)
        (octets_stored addresses (store 8 memory to word) n x to (λ i low. each i (size_8 n few i low) ∙ ap (λ v. v / 256 ^ i % 256) stands))
    go (At o offset) stands e = pointer_lies (At o offset) stands (eqb n 8) e
    go (FunctionValue name schema) stands e = absurd stands

pub unset_lies : (addresses : Addresses) (memory : List Region) (n at : ℕ) → HasBytes addresses memory at (replicate n Unset)
unfolding HasBytes
unset_lies addresses memory zero at = tt
unset_lies addresses memory (suc n) at = (tt, unset_lies addresses memory n (at + 1))

-- ---- the locals of a call

-- a local of the call, with the bytes that it has in memory
pub record Lies (f : LirFn) (addresses : Addresses) (memory : List Region) (base number : ℕ) (local : LirLocal) (object : Object) : Type 0 where
  pub alive : object.alive ≡ true
  pub changes : object.constant ≡ false
  pub size : length object.bytes ≡ local.size
  pub bytes : HasBytes addresses memory (base + place_of_local f number) object.bytes

-- all of them, from a number on
unfoldable pub AllLie : LirFn → Addresses → List Region → (base number : ℕ) → List LirLocal → Objects → Type 0
AllLie f addresses memory base number [] [] = Unit {0}
AllLie f addresses memory base number [] (object ∷ objects) = ⊥
AllLie f addresses memory base number (l ∷ ls) [] = ⊥
AllLie f addresses memory base number (l ∷ ls) (object ∷ objects) = Lies f addresses memory base number l object × AllLie f addresses memory base (suc number) ls objects

-- Those that have no argument have any bytes.
pub fresh_lie : (f : LirFn) (addresses : Addresses) (memory : List Region) (base number : ℕ) (ls : List LirLocal) (arguments : List FlatValue) (objects : Objects) → born 0 ls arguments ≡ Some objects → AllLie f addresses memory base number ls objects
unfolding born AllLie
fresh_lie f addresses memory base number [] arguments [] e = tt
fresh_lie f addresses memory base number [] arguments (object ∷ objects) e = cc
fresh_lie f addresses memory base number (l ∷ ls) arguments objects e = go (born 0 ls arguments) refl objects (λ others q. fresh_lie f addresses memory base (suc number) ls arguments others q) e
  where
    go : (rest : Option Objects) → born 0 ls arguments ≡ rest → (objects : Objects) → ((others : Objects) → born 0 ls arguments ≡ Some others → AllLie f addresses memory base (suc number) ls others) → and_objects (Some (fresh l.size)) rest ≡ Some objects → AllLie f addresses memory base number (l ∷ ls) objects
    go None q objects ih e = cc
    go (Some others) q objects ih e = subst (AllLie f addresses memory base number (l ∷ ls)) (ap (λ o. unwrap_or o objects) e) (
      record { alive = refl; changes = refl; size = length-replicate l.size Unset; bytes = unset_lies addresses memory l.size (base + place_of_local f number) },
      ih others q,
    )

-- ---- the stores

-- Bytes stay that are before the place of a parameter, or behind all of them.
abbrev pub StayOutside : LirFn → (memory later : List Region) → (base number : ℕ) → Type 0
StayOutside f memory later base number =
    (at : ℕ) → (at < base + place_of_temp f 0 → at < base + 96 + bytes_before f number) → byte_at later at ≡ byte_at memory at

-- So many instructions store the arguments of parameters from a number on.
pub record StoresArguments (code : Code) (f : LirFn) (addresses : Addresses) (m : Machine) (count most number : ℕ) (ls : List LirLocal) (objects : Objects) : Type 0 where
  pub later : Machine
  pub goes : Goes code count m later later.memory (λ k. eqb k 12)
  pub few : count ≤ most
  pub outside : StayOutside f m.memory later.memory m.sp number
  pub lie : AllLie f addresses later.memory m.sp number ls objects

-- memory that is the same from a place on to the parameters' end
lie_later : (f : LirFn) (addresses : Addresses) (memory later : List Region) (base number : ℕ) (l : LirLocal) (object : Object) → ((at : ℕ) → base + place_of_local f number ≤ at → at < base + place_of_local f number + l.size → byte_at later at ≡ byte_at memory at)
    → Lies f addresses memory base number l object → Lies f addresses later base number l object
lie_later f addresses memory later base number l object same h = record {
  alive = h.alive;
  changes = h.changes;
  size = h.size;
  bytes = HasBytes-alike addresses memory later (base + place_of_local f number) object.bytes (λ i low high. same i low (omega (arith, high, h.size))) h.bytes;
}

temps_inside : (f : LirFn) → place_of_temp f 0 ≤ size_of_frame f
temps_inside f = omega (arith, bytes_within f.locals f.parameters)

rounded_more : (size : ℕ) → size ≤ next_multiple_of size 8
rounded_more size = omega arith

none_lie : (f : LirFn) (addresses : Addresses) (memory : List Region) (base number : ℕ) → AllLie f addresses memory base number [] []
unfolding AllLie
none_lie f addresses memory base number = tt

-- registers that stores leave
pub arguments_later : (addresses : Addresses) (m later : Machine) (number : ℕ) (values : List FlatValue) → number + length values ≤ 8 → ((k : ℕ) → k < 8 → register k later ≡ register k m) → HasArguments addresses m number values → HasArguments addresses later number values
arguments_later addresses m later number [] few same h = tt
arguments_later addresses m later number (v ∷ vs) few same h = (
  subst (StandsFor addresses v) (sym (same number (omega (arith, few)))) h.0,
  arguments_later addresses m later (suc number) vs (omega (arith, few)) same h.1,
)

-- a parameter's object, with its argument if there is one
abbrev pub argument_object : LirLocal → Option FlatValue → Option Object
argument_object l None = Some (fresh l.size)
argument_object l (Some value) = filled l value

abbrev pub MayStand : Addresses → Option FlatValue → ℕ → Type 0
MayStand addresses None word = Unit {0}
MayStand addresses (Some value) word = StandsFor addresses value word

one_object : (x y : Object) → Some x ≡ Some y → x ≡ y
one_object x y e = ap (λ o. unwrap_or o x) e

-- what is known of an object of a parameter
record IsArgument (l : LirLocal) (value : Option FlatValue) (object : Object) : Type 0 where
  alive : object.alive ≡ true
  changes : object.constant ≡ false
  size : length object.bytes ≡ l.size
  bytes : (value ≡ None × object.bytes ≡ replicate l.size Unset) ⊎ ((v : FlatValue) × (value ≡ Some v) × (bytes_of l.size v ≡ Some object.bytes))

is_argument : (l : LirLocal) (value : Option FlatValue) (object : Object) → argument_object l value ≡ Some object → IsArgument l value object
is_argument l None object e =
    let same = one_object (fresh l.size) object e in
    record {
      alive = ap (λ (o : Object). o.alive) (sym same);
      changes = ap (λ (o : Object). o.constant) (sym same);
      size = ap (λ (o : Object). length o.bytes) (sym same) ∙ length-replicate l.size Unset;
      bytes = inl (refl, ap (λ (o : Object). o.bytes) (sym same));
    }
is_argument l (Some v) object e = go (bytes_of l.size v) refl e
  where
    go : (found : Option (List Byte)) → bytes_of l.size v ≡ found → option_map (λ bytes. record { alive = true; constant = false; bytes = bytes }) found ≡ Some object → IsArgument l (Some v) object
    go None q e = cc
    go (Some bytes) q e =
        let same = one_object (record { alive = true; constant = false; bytes = bytes }) object e in
        record {
          alive = ap (λ (o : Object). o.alive) (sym same);
          changes = ap (λ (o : Object). o.constant) (sym same);
          size = ap (λ (o : Object). length o.bytes) (sym same) ∙ size_stored l.size v bytes q;
          bytes = inr (v, refl, q ∙ ap (λ (o : Object). Some o.bytes) same);
        }

module _ (code : Code) (f : LirFn) (addresses : Addresses) where
  -- one parameter
  record StoresOne (m : Machine) (number : ℕ) (l : LirLocal) (object : Object) : Type 0 where
    later : Machine
    goes : Goes code (length (store_parameter f number l)) m later later.memory (λ k. eqb k 12)
    few : length (store_parameter f number l) ≤ 1
    outside : (at : ℕ) → (at < m.sp + place_of_local f number + rounded l → at < m.sp + place_of_local f number) → byte_at later.memory at ≡ byte_at m.memory at
    lies : Lies f addresses later.memory m.sp number l object

  module _ (m : Machine) (running : IsRunning m) (frame : HasFrameAt f m) (room : m.pc + 16 < 2 ^ 64) (number : ℕ) (l : LirLocal) (value : Option FlatValue) (object : Object) (is : IsArgument l value object)
      (few : number < 8) (small : l.size ≤ 8) (aligned : place_of_local f number % 8 ≡ 0) (near : place_of_local f number < 32768) (inside : place_of_local f number + rounded l ≤ size_of_frame f) where
    -- it has no bytes
    none_stored : l.size ≡ 0 → object.bytes ≡ []
    none_stored none = nil_from_length object.bytes (is.size ∙ none)

    stores_none : l.size ≡ 0 → StoresOne m number l object
    unfolding HasBytes
    stores_none none =
        let empty : store_parameter f number l ≡ [] = ap (λ b. cond b [] (access.store number (place_of_local f number))) (eq-eqb l.size 0 none) in
        record {
          later = m;
          goes = subst (λ n. Goes code n m m m.memory (λ k. eqb k 12)) (sym (ap length empty)) (goes_none code m (λ k. eqb k 12) running);
          few = omega (arith, ap length empty);
          outside = λ at h. refl;
          lies = record { alive = is.alive; changes = is.changes; size = is.size; bytes = subst (HasBytes addresses m.memory (m.sp + place_of_local f number)) (sym (none_stored none)) (nothing_lies m.memory (m.sp + place_of_local f number)) };
        }
      where
        nothing_lies : (memory : List Region) (at : ℕ) → HasBytes addresses memory at []
        nothing_lies memory at = tt

    stores_some : (l.size ≡ 0 → ⊥) → MayStand addresses value (register number m) → HasCode m.memory m.pc (store_parameter f number l) → StoresOne m number l object
    stores_some some stands c =
        let place = place_of_local f number in
        let eight : rounded l ≡ 8 = omega (arith, small, some) in
        let same : store_parameter f number l ≡ access.store number place = ap (λ b. cond b [] (access.store number place)) (ne_eqb l.size 0 some) in
        let short : length (access.store number place) ≡ 1 = ap (λ b. length (cond b (LoadStore Str number 31 (place / 8) ∷ []) (SumImmediate immediate.Add 12 31 (place / 4096) true ∷ LoadStore Str number 12 (place % 4096 / 8) ∷ []))) (lt-ltb place 32768 near) in
        let may : allowed Write m.memory (m.sp + place) 8 ≡ true = allowed-part Write m.memory m.sp (size_of_frame f) place 8 frame.writes (omega (arith, inside, eight)) in
        let made = stores code m number place running aligned (omega (arith, inside, eight, frame.low)) (omega (arith, room)) (ne_eqb number 12 (λ e. omega (arith, e, few))) may (subst (HasCode m.memory m.pc) same c) in
        let left = made.goes.memory in
        let fits = running.widths.registers number in
        record {
          later = made.later;
          goes = subst (λ n. Goes code n m made.later made.later.memory (λ k. eqb k 12)) (sym (ap length same))
              (subst (λ x. Goes code (length (access.store number place)) m made.later x (λ k. eqb k 12)) (sym left) (goes_more code _ m made.later _ _ (λ k. eqb k 12) (λ k h. untouched (eqb k 12) false h refl) made.goes));
          few = omega (arith, ap length same, short);
          outside = λ at h. ap (λ x. byte_at x at) left ∙ byte_at-store-other 8 m.memory (m.sp + place) (register number m) at (λ below. h (omega (arith, below, eight)));
          lies = record {
            alive = is.alive;
            changes = is.changes;
            size = is.size;
            bytes = subst (λ x. HasBytes addresses x (m.sp + place) object.bytes) (sym left) (go value is.bytes stands fits may);
          };
        }
      where
        go : (v : Option FlatValue) → ((v ≡ None × object.bytes ≡ replicate l.size Unset) ⊎ ((u : FlatValue) × (v ≡ Some u) × (bytes_of l.size u ≡ Some object.bytes))) → MayStand addresses v (register number m) → register number m < 2 ^ 64
            → allowed Write m.memory (m.sp + place_of_local f number) 8 ≡ true → HasBytes addresses (store 8 m.memory (m.sp + place_of_local f number) (register number m)) (m.sp + place_of_local f number) object.bytes
        go v (inl h) stands fits may = subst (HasBytes addresses (store 8 m.memory (m.sp + place_of_local f number) (register number m)) (m.sp + place_of_local f number)) (sym h.1) (unset_lies addresses _ l.size (m.sp + place_of_local f number))
        go None (inr h) stands fits may = absurd (never h.0 h.1)
          where
            never : (u : FlatValue) → None ≡ Some u → ⊥
            never u e = cc
        go (Some v) (inr h) stands fits may =
            argument_lies addresses m.memory l.size (m.sp + place_of_local f number) (register number m) v object.bytes small fits stands (ap (bytes_of l.size) (same_value v h.0 h.1) ∙ h.2) may
          where
            same_value : (x y : FlatValue) → Some x ≡ Some y → x ≡ y
            same_value x y e = ap (λ o. unwrap_or o x) e

    stores_one : MayStand addresses value (register number m) → HasCode m.memory m.pc (store_parameter f number l) → StoresOne m number l object
    stores_one stands c = go (cases_eq l.size 0)
      where
        go : ((l.size ≡ 0) ⊎ (l.size ≡ 0 → ⊥)) → StoresOne m number l object
        go (inl none) = stores_none none
        go (inr some) = stores_some some stands c

  -- ---- all of them

  -- the local of a number, among the parameters
  pub record AreParameters (n number : ℕ) (ls : List LirLocal) : Type 0 where
    pub places : (i : ℕ) (l : LirLocal) → slice_get ls i ≡ Some l → slice_get f.locals (number + i) ≡ Some l
    pub small : (i : ℕ) (l : LirLocal) → i < n → slice_get ls i ≡ Some l → l.size ≤ 8
    pub count : number + n ≤ f.parameters
    pub few : f.parameters ≤ 8
    pub low : place_of_temp f 0 ≤ 160

  module _ (n number : ℕ) (l : LirLocal) (ls : List LirLocal) (are : AreParameters (suc n) number (l ∷ ls)) where
    there : slice_get f.locals number ≡ Some l
    there = subst (λ k. slice_get f.locals k ≡ Some l) (omega arith) (are.places 0 l refl)

    first_place : place_of_local f number ≡ 96 + bytes_before f number
    first_place = let c = are.count in omega (arith, temps_before_parameter f number (omega (arith, c)))

    next_bytes : bytes_before f (suc number) ≡ bytes_before f number + rounded l
    next_bytes = bytes_next f.locals number l there

    next_low : bytes_before f (suc number) ≤ bytes_before f f.parameters
    next_low = let c = are.count in bytes_rise f.locals (suc number) f.parameters (omega (arith, c))

    are_next : AreParameters n (suc number) ls
    are_next = record {
      places = λ i x e. subst (λ k. slice_get f.locals k ≡ Some x) (omega arith) (are.places (suc i) x e);
      small = λ i x low e. are.small (suc i) x (omega (arith, low)) e;
      count = let c = are.count in omega (arith, c);
      few = are.few;
      low = are.low;
    }

  abbrev Stores : (m : Machine) (n number : ℕ) (ls : List LirLocal) (objects : Objects) → Type 0
  Stores m n number ls objects = StoresArguments code f addresses m (length (store_parameters f number (take n ls))) n number ls objects

  -- one parameter, and those behind it
  module _ (m : Machine) (running : IsRunning m) (frame : HasFrameAt f m) (n number : ℕ) (l : LirLocal) (ls : List LirLocal) (are : AreParameters (suc n) number (l ∷ ls)) (room : m.pc + 8 * suc n + 16 < 2 ^ 64) where
    stored_then : (value : Option FlatValue) (object : Object) (objects : Objects) → argument_object l value ≡ Some object → MayStand addresses value (register number m) → HasCode m.memory m.pc (store_parameters f number (l ∷ take n ls))
        → ((k : Machine) → IsRunning k → HasFrameAt f k → k.pc + 8 * n + 16 < 2 ^ 64 → ((j : ℕ) → eqb j 12 ≡ false → register j k ≡ register j m) → HasCode k.memory k.pc (store_parameters f (suc number) (take n ls)) → Stores k n (suc number) ls objects)
        → Stores m (suc n) number (l ∷ ls) (object ∷ objects)
    unfolding store_parameters AllLie
    stored_then value object objects e stands c ih =
        let count = are.count in
        let eight = are.few in
        let first = first_place n number l ls are in
        let next = next_bytes n number l ls are in
        let most = next_low n number l ls are in
        let low = are.low in
        let one_code = store_parameter f number l in
        let rest_code = store_parameters f (suc number) (take n ls) in
        let parts = HasCode-append m.memory m.pc one_code rest_code c in
        let within = temps_inside f in
        let made = stores_one m running frame (omega (arith, room)) number l value object (is_argument l value object e) (omega (arith, count, eight)) (are.small 0 l (omega arith) refl)
        (omega (arith, first, bytes_aligned f.locals number)) (omega (arith, first, next, most, low)) (omega (arith, first, next, most, within)) stands parts.0 in
        let k = made.later in
        let g = made.goes in
        let few = made.few in
        let rest = ih k (fine_later code _ m k k.memory _ running g) (frame_later code f _ m k k.memory _ frame g) (omega (arith, g.pc, few, room)) g.others (code_later code _ m k k.memory _ rest_code running g parts.1) in
        let both = goes_then code _ _ m k rest.later k.memory rest.later.memory _ _ g rest.goes in
        record {
          later = rest.later;
          goes = subst (λ n. Goes code n m rest.later rest.later.memory (λ k. eqb k 12)) (sym (length-append one_code rest_code)) (goes_more code _ m rest.later rest.later.memory _ (λ k. eqb k 12) (λ j h. untouched (eqb j 12) (eqb j 12) h h) both);
          few = let more = rest.few in omega (arith, length-append one_code rest_code, few, more);
          outside = λ at h.
              rest.outside at (λ below. let there = h (omega (arith, below, g.sp)) in omega (arith, there, g.sp, next))
              ∙ made.outside at (λ below. let there = h (omega (arith, below, first, next, most)) in omega (arith, there, first));
          lie = (
            lie_later f addresses k.memory rest.later.memory m.sp number l object (λ at from to. rest.outside at (λ below. omega (arith, to, g.sp, first, next, rounded_more l.size))) made.lies,
            subst (λ b. AllLie f addresses rest.later.memory b (suc number) ls objects) g.sp rest.lie,
          );
        }

  pub all_stored : (n number : ℕ) (ls : List LirLocal) (arguments : List FlatValue) (objects : Objects) (m : Machine) → IsRunning m → HasFrameAt f m → m.pc + 8 * n + 16 < 2 ^ 64 → AreParameters n number ls → number + length arguments ≤ 8
      → HasArguments addresses m number arguments → born n ls arguments ≡ Some objects → HasCode m.memory m.pc (store_parameters f number (take n ls)) → Stores m n number ls objects
  unfolding store_parameters born
  all_stored zero number ls arguments objects m running frame room are few stand e c = record {
    later = m;
    goes = goes_none code m (λ k. eqb k 12) running;
    few = omega arith;
    outside = λ at h. refl;
    lie = fresh_lie f addresses m.memory m.sp number ls arguments objects e;
  }
  all_stored (suc n) number [] arguments objects m running frame room are few stand e c = record {
    later = m;
    goes = goes_none code m (λ k. eqb k 12) running;
    few = omega arith;
    outside = λ at h. refl;
    lie = subst (AllLie f addresses m.memory m.sp number []) (ap (λ o. unwrap_or o objects) e) (none_lie f addresses m.memory m.sp number);
  }
  all_stored (suc n) number (l ∷ ls) [] objects m running frame room are few stand e c =
      go (born n ls []) (λ others k r fr low same here q. all_stored n (suc number) ls [] others k r fr low (are_next n number l ls are) (let count = are.count in let eight = are.few in omega (arith, count, eight)) tt q here) refl e
    where
      go : (rest : Option Objects)
          → ((others : Objects) (k : Machine) → IsRunning k → HasFrameAt f k → k.pc + 8 * n + 16 < 2 ^ 64 → ((j : ℕ) → eqb j 12 ≡ false → register j k ≡ register j m) → HasCode k.memory k.pc (store_parameters f (suc number) (take n ls)) → born n ls [] ≡ Some others → Stores k n (suc number) ls others)
          → born n ls [] ≡ rest → and_objects (Some (fresh l.size)) rest ≡ Some objects → Stores m (suc n) number (l ∷ ls) objects
      go None ih q e = cc
      go (Some others) ih q e =
          subst (Stores m (suc n) number (l ∷ ls)) (ap (λ o. unwrap_or o objects) e)
          (stored_then m running frame n number l ls are room None (fresh l.size) others refl tt c (λ k r fr low same here. ih others k r fr low same here q))
  all_stored (suc n) number (l ∷ ls) (v ∷ vs) objects m running frame room are few stand e c =
      go (filled l v) (born n ls vs) refl (λ others k r fr low same here q. all_stored n (suc number) ls vs others k r fr low (are_next n number l ls are) (omega (arith, few)) (arguments_later addresses m k (suc number) vs (omega (arith, few)) (λ j low. same j (ne_eqb j 12 (λ e. omega (arith, e, low)))) stand.1) q here) refl e
    where
      go : (first : Option Object) (rest : Option Objects) → filled l v ≡ first
          → ((others : Objects) (k : Machine) → IsRunning k → HasFrameAt f k → k.pc + 8 * n + 16 < 2 ^ 64 → ((j : ℕ) → eqb j 12 ≡ false → register j k ≡ register j m) → HasCode k.memory k.pc (store_parameters f (suc number) (take n ls)) → born n ls vs ≡ Some others → Stores k n (suc number) ls others)
          → born n ls vs ≡ rest → and_objects first rest ≡ Some objects → Stores m (suc n) number (l ∷ ls) objects
      go None rest p ih q e = cc
      go (Some object) None p ih q e = cc
      go (Some object) (Some others) p ih q e =
          subst (Stores m (suc n) number (l ∷ ls)) (ap (λ o. unwrap_or o objects) e)
          (stored_then m running frame n number l ls are room (Some v) object others p stand.0 c (λ k r fr low same here. ih others k r fr low same here q))
