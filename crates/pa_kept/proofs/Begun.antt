-- A loaded state keeps the invariant, and so does each run from it.
use Rattle.std.proofs.Common.{◌≡◌, ℕ, zero, suc, ◌+◌, ◌-◌, ◌*◌, ◌^◌, ◌<◌, ◌≤◌, ◌%◌, List, [], ◌∷◌, ◌++◌, length, map, get_or, replicate, reverse, refl, sym, ap, subst, ◌∙◌, arith, Option, Some, None, ◌⊎◌, inl, inr}
use Rattle.std.specs.Prelude.{Bool, true, false, cond, not, ◌&&◌, ◌||◌, eqb, ltb, slice_get, slice_index, is_none, position, filter, unwrap_or}
use Rattle.std.specs.List.{flat_map}
use Rattle.std.proofs.lemmas.List.{reverse-append, length-map}
use Rattle.std.specs.Option.{option_or}
use Rattle.std.specs.Str.{bytes_eq}
use Rattle.std.proofs.lemmas.Bool.{true≢false, and_parts, or_left, or_right, eqb-true, eq-eqb, cases_lt, not-false}
use Rattle.std.proofs.lemmas.Option.{slice_get-get_or, slice_get_past}
use Rattle.pa_num.specs.Arithmetic.{add64}
use Rattle.pa_pac.specs.declared.key.Key.{Key}
use Rattle.pa_pac.specs.declared.key.Key.TheVariants.{IA, IB, DA, DB, GA}
use Rattle.pa_pac.specs.declared.event.Event.TheVariants.{Sign, Take, Land}
use Rattle.pa_pac.specs.declared.event.Entry.{Entry}
use Rattle.pa_pac.specs.declared.event.When.TheVariants.{Load, Step}
use Rattle.pa_pac.specs.Key.{same_key}
use Rattle.pa_pac.specs.Log.{Log}
use Rattle.pa_pac.specs.Schema.{modifier}
use Rattle.pa_pac.specs.Signing.{Code}
use Rattle.pa_macho.specs.declared.header.Role.{Role}
use Rattle.pa_macho.specs.declared.header.Role.TheVariants.{Main, Library}
use Rattle.pa_macho.specs.Layout.{places_of, base_of}
use Rattle.pa_fixups.specs.declared.kind.Fix.{Fix}
use Rattle.pa_fixups.specs.declared.kind.FixKind.{FixKind}
use Rattle.pa_fixups.specs.declared.kind.FixKind.TheVariants.{Rebase, Bind, AuthRebase, AuthBind}
use Rattle.pa_mem.specs.Memory.{Region, fetch}
use Rattle.pa_object.specs.declared.object.Mark.{Mark}
use Rattle.pa_object.specs.Machine.{Machine, begun}
use Rattle.pa_object.specs.Run.{Script, Place, Watched, watched, watched_once, advance, advance_by, run}
use Rattle.pa_object.specs.Shape.{all_known}
use Rattle.pa_object.specs.Script.{all_fit}
use Rattle.pa_image.specs.declared.image.Image.{Image}
use Rattle.pa_image.specs.Bytes.{header_of}
use Rattle.pa_image.specs.Places.{base_at, text_base, function_at, exported, mark_address, mapped, word_of, code_areas}
use Rattle.pa_check.specs.Text.{Text, text_of, start_size, is_entry, is_marked, place}
use Rattle.pa_check.specs.Slots.{is_import, is_safe, may_hold, first_unsafe}
use Rattle.pa_check.specs.Windowed.{slot_flaw, first_slot}
use Rattle.pa_check.proofs.Legal.{image_end}
use Rattle.pa_load.specs.Filling.{Filling, pointer, sig_of, signed, stored, slot_signs, slot_address, filling_log}
use Rattle.pa_load.specs.Ready.{PointerFits, SlotReady, AllReady}
use Rattle.pa_load.specs.Loaded.{State, IsLoaded, begun_in, both, filling, import_address, import_addresses, first_missing, loaded}
use Rattle.pa_load.proofs.Laws.{AreLoadable, apart, written_or_run, word_fetched}
use Rattle.pa_load.proofs.Slots.{fillable, import_found}
use Rattle.pa_load.proofs.Whole.{others_are}
use Rattle.pa_kept.specs.Kept.{CodeAt, EventKept, raw_since, IsKept}
use Rattle.pa_kept.specs.Images.{code_of}
use Rattle.pa_kept.specs.Secure.{AreWindowed, watched_run, KeepsControlFlow, Secure, ProgramsSecure}
use Rattle.pa_kept.proofs.Unchanged.{Same, Still}
use Rattle.pa_kept.proofs.Sound.{Class, Free, At}
use Rattle.pa_kept.proofs.Invariant.{Setup, Base, Inv, AllLog}
use Rattle.pa_image.specs.Pal.{pal}
use Rattle.pa_pal.proofs.Legal as pal_legal
use Rattle.pa_kept.proofs.Runtime.{pal_windowed}
use Rattle.pa_kept.proofs.Runs.{kept}
use Rattle.pa_kept.proofs.Located.{passes, none_or, entry_at}
use Rattle.pa_kept.proofs.Pair.{Pair, images, classes, pair_sound, begins_free, main_lies, runtime_marks}

-- ---- what loading signs

-- an entry of loading that signs a function under IA
abbrev GoodSign : CodeAt → Entry → Type 0
GoodSign w e = (y : ℕ) × (r : ℕ) × (s : ℕ) × (w.is_entry r ≡ true) × (e ≡ record { when = Load; event = Sign IA y r s })

abbrev GoodSigns : CodeAt → Log → Type 0
GoodSigns w [] = Unit {0}
GoodSigns w (e ∷ es) = GoodSign w e × GoodSigns w es

signs-append : (w : CodeAt) (xs ys : Log) → GoodSigns w xs → GoodSigns w ys → GoodSigns w (xs ++ ys)
signs-append w [] ys h g = g
signs-append w (x ∷ xs) ys h g = (h.0, signs-append w xs ys h.1 g)

signs-reverse : (w : CodeAt) (xs : Log) → GoodSigns w xs → GoodSigns w (reverse xs)
signs-reverse w [] h = tt
signs-reverse w (x ∷ xs) h = subst (λ z. GoodSigns w z) (sym (reverse-append (x ∷ []) xs)) (signs-append w (reverse xs) (x ∷ []) (signs-reverse w xs h.1) (h.0, tt))

signs_known : (w : CodeAt) (es : Log) → GoodSigns w es → all_known es ≡ true
unfolding all_known
signs_known w [] h = refl
signs_known w (e ∷ es) h = rw (h.0.4, signs_known w es h.1) refl

-- ---- the slots

slots_safe : (t : Text) (base got : ℕ) (fixes : List Fix) → first_unsafe t base got fixes ≡ None → (fix : Fix) (rest : List Fix) → fixes ≡ fix ∷ rest → (may_hold t base got fix ≡ true) × (first_unsafe t base got rest ≡ None)
unfolding first_unsafe
slots_safe t base got fixes h fix rest e = go (may_hold t base got fix) refl (rw e at h)
  where
    go : (b : Bool) → may_hold t base got fix ≡ b → cond b (first_unsafe t base got rest) (Some fix.at) ≡ None → (may_hold t base got fix ≡ true) × (first_unsafe t base got rest ≡ None)
    go true m z = (m, z)
    go false m z = absurd (grind (arith, z))

no_slot_flaw : (from : ℕ) (o : Option ℕ) → slot_flaw from o ≡ None → o ≡ None
no_slot_flaw from None h = refl
no_slot_flaw from (Some at) h = absurd (grind (arith, h))

key_ia : (k : Key) → same_key k IA ≡ true → k ≡ IA
key_ia IA h = refl
key_ia IB h = absurd (true≢false (sym h))
key_ia DA h = absurd (true≢false (sym h))
key_ia DB h = absurd (true≢false (sym h))
key_ia GA h = absurd (true≢false (sym h))

-- ---- imports

exported_marked : (base : ℕ) (marks : List Mark) (name : List ℕ) (a : ℕ) → exported base marks name ≡ Some a → (k : ℕ) × (is_marked marks k ≡ true) × (base + place k ≡ a)
exported_marked base [] name a h = absurd (grind (arith, h))
exported_marked base (m ∷ marks) name a h = go m.public h (λ g. later (exported_marked base marks name a g))
  where
    later : (k : ℕ) × (is_marked marks k ≡ true) × (base + place k ≡ a) → (k : ℕ) × (is_marked (m ∷ marks) k ≡ true) × (base + place k ≡ a)
    later r = (r.0, or_right _ _ r.1, r.2)

    named : (b : Bool) → cond b (Some (mark_address base m)) (exported base marks name) ≡ Some a → (exported base marks name ≡ Some a → (k : ℕ) × (is_marked (m ∷ marks) k ≡ true) × (base + place k ≡ a)) → (k : ℕ) × (is_marked (m ∷ marks) k ≡ true) × (base + place k ≡ a)
    named true z ih = let e : mark_address base m ≡ a = grind (arith, z) in (m.at, or_left _ _ (eq-eqb m.at m.at refl), omega arith)
    named false z ih = ih z

    go : (b : Bool) → function_at base (cond b (m ∷ filter (λ (mark : Mark). mark.public) marks) (filter (λ (mark : Mark). mark.public) marks)) name ≡ Some a → (exported base marks name ≡ Some a → (k : ℕ) × (is_marked (m ∷ marks) k ≡ true) × (base + place k ≡ a)) → (k : ℕ) × (is_marked (m ∷ marks) k ≡ true) × (base + place k ≡ a)
    go true z ih = named (bytes_eq name m.name) z ih
    go false z ih = ih z

main_start : (main : Image) → main.role ≡ Main → (text_of main).start ≡ 3
unfolding text_of
main_start main e = ap start_size e

-- ---- the loaded state

module _ (main runtime : Image) (ok : AreWindowed main runtime) (code : Code) (slide : ℕ) (state : State) (l : IsLoaded code main runtime slide state) where
  loadable : AreLoadable main runtime
  loadable = record { main_legal = ok.main_legal; main_small = ok.main_small; runtime_legal = ok.runtime_legal; runtime_small = ok.runtime_small }

  base_is : base_at main.role slide ≡ 0x100000000 + 0x4000 * slide
  base_is = ap (λ (r : Role). base_at r slide) l.program

  runtime_is : base_at runtime.role 0 ≡ 0x180000000
  runtime_is = ap (λ (r : Role). base_at r 0) l.library

  abbrev pair : Pair
  pair = record {
    main = main;
    runtime = runtime;
    base = base_at main.role slide;
    runtime_base = base_at runtime.role 0;
    main_legal = ok.main_legal;
    runtime_legal = ok.runtime_legal;
    main_windowed = ok.main_windowed;
    runtime_windowed = ok.runtime_windowed;
    even = (let a = base_is in omega arith);
    runtime_even = (let a = runtime_is in omega arith);
    before = (let a = base_is in let b = runtime_is in let c = image_end main ok.main_legal in let d = ok.main_small in let e = l.slide_fits in omega arith);
    high = (let b = runtime_is in omega arith);
  }

  pointer_good : (f : Filling) (kind : FixKind) → f ≡ filling main runtime slide → PointerFits f kind → is_safe (text_of main) (base_of main.role) kind ≡ true → (at : ℕ) → GoodSigns (code_of (both main runtime slide)) (signed code (sig_of kind) at (pointer f kind))
  pointer_good f (Rebase target high8) e r s at = tt
  pointer_good f (Bind ordinal addend) e r s at = absurd (true≢false (sym s))
  pointer_good f (AuthRebase target sig) e r s at =
      let p = and_parts _ _ s in
      let k = key_ia sig.key p.0 in
      let b : f.base ≡ base_at main.role slide = ap (λ (f : Filling). f.base) e in
      let g = entry_at main (base_at main.role slide) (code_of (both main runtime slide)) (classes pair) (main_lies pair) target p.1 in
      ((modifier sig.addr sig.disc at, f.base + target, stored code (Some sig) at (f.base + target), rw b g, ap (λ z. record { when = Load; event = Sign z (modifier sig.addr sig.disc at) (f.base + target) (stored code (Some sig) at (f.base + target)) }) k), tt)
  pointer_good f (AuthBind ordinal sig) e r s at =
      let k = key_ia sig.key s in
      let n : ordinal < length main.imports = ordinal_fits e r.0 in
      let i = import_found main runtime ordinal l.found n in
      let m = exported_marked (base_of Library) runtime.marks (get_or main.imports ordinal []) (slice_index (import_addresses main runtime) ordinal) i in
      let q : base_at runtime.role 0 ≡ base_of Library = runtime_is in
      let g : (code_of (both main runtime slide)).is_entry (slice_index (import_addresses main runtime) ordinal) ≡ true = subst (λ z. (code_of (both main runtime slide)).is_entry z ≡ true) (ap (λ z. z + place m.0) q ∙ m.2) (runtime_marks pair m.0 m.1) in
      let c : slice_index f.imports ordinal ≡ slice_index (import_addresses main runtime) ordinal = ap (λ (f : Filling). slice_index f.imports ordinal) e in
      ((modifier sig.addr sig.disc at, slice_index f.imports ordinal, stored code (Some sig) at (slice_index f.imports ordinal), rw c g, ap (λ z. record { when = Load; event = Sign z (modifier sig.addr sig.disc at) (slice_index f.imports ordinal) (stored code (Some sig) at (slice_index f.imports ordinal)) }) k), tt)
    where
      ordinal_fits : f ≡ filling main runtime slide → ordinal < length f.imports → ordinal < length main.imports
      ordinal_fits e h = let a = ap (λ (f : Filling). length f.imports) e in let b = length-map main.imports (λ (name : List ℕ). unwrap_or (import_address runtime name) 0) in omega arith

  safe_kind : (got : ℕ) (fix : Fix) → may_hold (text_of main) (base_of main.role) got fix ≡ true → is_safe (text_of main) (base_of main.role) fix.kind ≡ true
  safe_kind got fix h = go (ltb fix.at got) fix.kind h
    where
      go : (b : Bool) (kind : FixKind) → cond b (is_import kind) (is_safe (text_of main) (base_of main.role) kind) ≡ true → is_safe (text_of main) (base_of main.role) kind ≡ true
      go false kind z = z
      go true (AuthBind ordinal sig) z = (and_parts _ _ z).0
      go true (Rebase target high8) z = absurd (true≢false (sym z))
      go true (Bind ordinal addend) z = absurd (true≢false (sym z))
      go true (AuthRebase target sig) z = absurd (true≢false (sym z))

  fixes_good : (f : Filling) (len : ℕ) (fixes : List Fix) → f ≡ filling main runtime slide → AllReady f len fixes → first_unsafe (text_of main) (base_of main.role) main.got fixes ≡ None → GoodSigns (code_of (both main runtime slide)) (flat_map (slot_signs code f) fixes)
  fixes_good f len [] e r h = tt
  fixes_good f len (fix ∷ fixes) e r h =
      let s = slots_safe (text_of main) (base_of main.role) main.got (fix ∷ fixes) h fix fixes refl in
      signs-append (code_of (both main runtime slide)) (slot_signs code f fix) (flat_map (slot_signs code f) fixes) (pointer_good f fix.kind e r.0.pointer (safe_kind main.got fix s.0) (slot_address f fix)) (fixes_good f len fixes e r.1 s.1)

  log_good : GoodSigns (code_of (both main runtime slide)) state.log
  unfolding filling_log
  log_good =
      let p = places_of (header_of main) in
      let s = fillable main runtime slide (p.linkedit - p.got) ok.main_legal ok.main_small l.program l.slide_fits ok.runtime_legal ok.runtime_small l.found refl in
      let u = none_or _ _ (passes main ok.main_windowed).slots in
      let log : state.log ≡ filling_log code (filling main runtime slide) main.fixes = ap (λ (s : State). s.log) l.state_is ∙ (others_are code main runtime slide).0 in
      rw log (signs-reverse (code_of (both main runtime slide)) (flat_map (slot_signs code (filling main runtime slide)) main.fixes) (fixes_good (filling main runtime slide) (p.linkedit - p.got) main.fixes refl s.ready (no_slot_flaw _ _ u.1)))

  word_there : (at word : ℕ) → (code_of (both main runtime slide)).word at ≡ Some word → fetch state.memory at ≡ Some word
  unfolding code_of
  word_there at word e = word_fetched code main runtime slide state loadable l at word e

  abbrev setup : Setup
  setup = record {
    w = code_of (both main runtime slide);
    cls = classes pair;
    code = code;
    first = state.memory;
    sound = pair_sound pair;
    stands_there = word_there;
  }

  all_log : (es : Log) → GoodSigns (code_of (both main runtime slide)) es → AllLog setup [] es
  all_log [] h = tt
  all_log (e ∷ es) h = ((subst (λ z. EventKept (code_of (both main runtime slide)) [] z.when z.event es) (sym h.0.4) h.0.3), all_log es h.1)

  none_since : raw_since [] ≡ None
  unfolding raw_since
  none_since = refl

  begins : (input : List ℕ) → Inv setup (begun_in state input) []
  begins input = record {
    base = record {
      still = record { same = record { outlines = refl; words = λ at. refl; apart = apart code main runtime slide state loadable l; rights = written_or_run code main runtime slide state l }; long = refl };
      counted = refl;
      signed = all_log state.log log_good;
      ran = tt;
      trust = signs_known (code_of (both main runtime slide)) state.log log_good;
    };
    at = λ e. subst (λ z. At (code_of (both main runtime slide)) z (begun_in state input) []) (sym at_start) none_since;
  }
    where
      start_is : (text_of main).start ≡ 3
      start_is = main_start main l.program

      at_start : classes pair state.pc ≡ Free
      at_start =
          let a : state.pc ≡ text_base (base_at main.role slide) = ap (λ (s : State). s.pc) l.state_is ∙ (others_are code main runtime slide).1 in
          let b : text_base (base_at main.role slide) ≡ base_at main.role slide + place 0 = omega arith in
          ap (classes pair) (a ∙ b) ∙ begins_free pair start_is

watched_machine : (code : Code) (script : Script) (n : ℕ) (v : Watched) → (watched code script n v).machine ≡ advance_by code script n v.machine
unfolding watched advance_by
watched_machine code script zero v = refl
watched_machine code script (suc n) v = watched_machine code script n (watched_once code script v)

pub secure : Secure
secure main runtime ok code slide state l script fits input n = record {
  the_run = (let e : n - 0 ≡ n = omega arith in watched_machine code script n (record { machine = begun_in state input; trail = [] }) ∙ subst (λ k. advance_by code script n (begun_in state input) ≡ advance_by code script k (begun_in state input)) (sym e) refl);
  kept = kept (setup main runtime ok code slide state l) script fits n (record { machine = begun_in state input; trail = [] }) (begins main runtime ok code slide state l input);
}

pub programs : ProgramsSecure
programs main legal small windowed = secure main pal (record {
  main_legal = legal;
  main_small = small;
  main_windowed = windowed;
  runtime_legal = pal_legal.legal;
  runtime_small = pal_legal.small;
  runtime_windowed = pal_windowed;
})
