-- What is kept stays right through steps and what a second writer does.
use Rattle.std.proofs.Common.{◌≡◌, ℕ, zero, suc, ◌+◌, ◌*◌, ◌<◌, true, false, Bool, cond, None, List, [], ◌∷◌, length, map, set, Some, refl, sym, ap, ◌∙◌, subst, inl, inr, arith}
use Rattle.std.specs.Prelude.{◌⊎◌, option_and_then, slice_get}
use Rattle.std.proofs.lemmas.Bool.{and_parts}
use Rattle.std.proofs.lemmas.Option.{slice_get_within}
use Rattle.pa_pac.specs.Signing.{Code}
use Rattle.pa_a64.specs.declared.instr.Instr.{Instr}
use Rattle.pa_a64.specs.declared.instr.Instr.TheVariants as i
use Rattle.pa_a64.specs.declared.instr.LoadStoreOp.TheVariants.{Str}
use Rattle.pa_a64.specs.declared.instr.LoadStoreWordOp.TheVariants.{Strw}
use Rattle.pa_a64.specs.declared.instr.LoadStoreHalfOp.TheVariants.{Strh}
use Rattle.pa_a64.specs.declared.instr.LoadStoreByteOp.TheVariants.{Strb}
use Rattle.pa_a64.specs.declared.instr.LoadStoreUnscaledOp.TheVariants.{Stur}
use Rattle.pa_a64.specs.declared.instr.LoadStorePairOp.TheVariants.{Stp}
use Rattle.pa_a64.specs.Decoding.{decoded}
use Rattle.pa_mem.specs.declared.mapping.Extent.{Extent}
use Rattle.pa_mem.specs.Extents.{extent_of}
use Rattle.pa_mem.specs.Memory.{Region, Read, Write, allowed, fetch, store, bytes_at, with_bytes, all_apart}
use Rattle.pa_mem.proofs.Bytes.{Outline, outline, outlines-with_bytes, all_apart-with_bytes}
use Rattle.pa_mem.proofs.Numbers.{length-bytes_at}
use Rattle.pa_mem.proofs.Ranges.{allowed-store, all_apart-store, outlines-store}
use Rattle.pa_mem.proofs.Runs.{IsSealed, fetch-sealed, fetch-store-sealed}
use Rattle.pa_object.specs.declared.script.Deed.{Deed}
use Rattle.pa_object.specs.declared.script.Deed.TheVariants as deed
use Rattle.pa_object.specs.Machine.{Machine}
use Rattle.pa_object.specs.Traps.{trap_of, abort_unless}
use Rattle.pa_object.specs.Effects.{effect}
use Rattle.pa_object.specs.Rows.{writes_memory}
use Rattle.pa_object.specs.Run.{step, done_to}
use Rattle.pa_object.specs.Script.{deed_fits}
use Rattle.pa_object.proofs.Rows.{effect_memory}
use Rattle.pa_object.proofs.Stepping.{StepIs, traps, does, step_is}
use Rattle.pa_machine.specs.declared.kept.Table.{Table}
use Rattle.pa_machine.specs.declared.kept.Kept.{Kept}
use Rattle.pa_machine.specs.Kept.{IsOf, IsKept}

-- ---- tables

set-got : {X : Type 0} (xs : List X) (i j : ℕ) (y x : X) → slice_get (set xs i y) j ≡ Some x → ((j ≡ i) × (x ≡ y)) ⊎ (slice_get xs j ≡ Some x)
set-got [] i j y x e = inr e
set-got (a ∷ xs) zero zero y x e = inl (refl, cc)
set-got (a ∷ xs) zero (suc j) y x e = inr e
set-got (a ∷ xs) (suc i) zero y x e = inr e
set-got (a ∷ xs) (suc i) (suc j) y x e = go (set-got xs i j y x e)
  where
    go : ((j ≡ i) × (x ≡ y)) ⊎ (slice_get xs j ≡ Some x) → ((suc j ≡ suc i) × (x ≡ y)) ⊎ (slice_get xs j ≡ Some x)
    go (inl p) = inl (ap suc p.0, p.1)
    go (inr q) = inr q

-- what holds of each table holds where one of them is another, of which it holds too
pub table_changed : (P : Table → Type 0) (old new : List Table) (at : ℕ) (table : Table) → new ≡ set old at table → ((t : ℕ) (other : Table) → slice_get old t ≡ Some other → P other) → P table → (t : ℕ) (other : Table) → slice_get new t ≡ Some other → P other
table_changed P old new at table changed each one t other e = go (set-got old at t table other (ap (λ (l : List Table). slice_get l t) (sym changed) ∙ e))
  where
    go : ((t ≡ at) × (other ≡ table)) ⊎ (slice_get old t ≡ Some other) → P other
    go (inl p) = subst P (sym p.1) one
    go (inr q) = each t other q

-- ---- extents

abbrev extent_of_outline : Outline → Extent
extent_of_outline o = record { base = o.base; len = o.size; rights = record { read = o.reads; write = o.writes; run = o.runs } }

extents : (memory : List Region) → map extent_of memory ≡ map extent_of_outline (map outline memory)
extents [] = refl
extents (region ∷ memory) = ap (λ rest. extent_of region ∷ rest) (extents memory)

-- the region that an extent is told of
region_at : (memory : List Region) (number : ℕ) (extent : Extent) → slice_get (map extent_of memory) number ≡ Some extent → (region : Region) × (slice_get memory number ≡ Some region) × (extent_of region ≡ extent)
region_at [] number extent e = cc
region_at (region ∷ memory) zero extent e = (region, refl, cc)
region_at (region ∷ memory) (suc number) extent e = region_at memory number extent e

-- the place of an entry lies in a region that may be run and may not be written
sealed-entry : (memory : List Region) (table : Table) (k : ℕ) → IsOf memory table → k < length table.entries.items → (region : Region) × (number : ℕ) × (slice_get memory number ≡ Some region) × IsSealed region (table.base + 4 * k) 4
sealed-entry memory table k own within =
    let r = region_at memory own.number own.extent own.stands in
    let base : r.0.base ≡ table.base = ap (λ (x : Extent). x.base) r.2 ∙ sym own.base in
    let len : length r.0.bytes ≡ own.extent.len = ap (λ (x : Extent). x.len) r.2 in
    let room = own.room in (
      r.0,
      own.number,
      r.1,
      record {
        low = omega arith;
        high = omega arith;
        runs = ap (λ (x : Extent). x.rights.run) r.2 ∙ own.runs;
        sealed = ap (λ (x : Extent). x.rights.write) r.2 ∙ own.sealed;
      },
    )

-- ---- what is kept, where memory changes

kept_same : (kept : Kept) (one two : List Region) → IsKept kept one → all_apart two ≡ true → map outline two ≡ map outline one
    → ((number : ℕ) (region : Region) (c : ℕ) → slice_get one number ≡ Some region → IsSealed region c 4 → fetch two c ≡ fetch one c) → IsKept kept two
kept_same kept one two is apart outlines fetched = record {
  right = λ t table e k instr f.
      let s = sealed-entry one table k (is.own t table e) (slice_get_within table.entries.items k (Some instr) f) in
      ap (option_and_then decoded) (fetched s.1 s.0 (table.base + 4 * k) s.2 s.3) ∙ is.right t table e k instr f;
  own = λ t table e.
      let own = is.own t table e in
      let same : map extent_of two ≡ map extent_of one = extents two ∙ ap (map extent_of_outline) outlines ∙ sym (extents one) in
      record {
        number = own.number;
        extent = own.extent;
        stands = ap (λ (l : List Extent). slice_get l own.number) same ∙ own.stands;
        base = own.base;
        room = own.room;
        runs = own.runs;
        sealed = own.sealed;
      };
  apart = apart;
}

kept_store : (kept : Kept) (n : ℕ) (memory : List Region) (at value : ℕ) → allowed Write memory at n ≡ true → IsKept kept memory → IsKept kept (store n memory at value)
kept_store kept n memory at value w is =
    kept_same kept memory (store n memory at value) is (all_apart-store n memory at value ∙ is.apart) (outlines-store n memory at value)
    (λ number region c e s. fetch-store-sealed n memory number region at value c e s is.apart w)

kept_bytes : (kept : Kept) (memory : List Region) (at : ℕ) (bytes : List ℕ) → allowed Write memory at (length bytes) ≡ true → IsKept kept memory → IsKept kept (with_bytes memory at bytes)
kept_bytes kept memory at bytes w is =
    kept_same kept memory (with_bytes memory at bytes) is (all_apart-with_bytes memory at bytes ∙ is.apart) (outlines-with_bytes memory at bytes)
    (λ number region c e s. fetch-sealed memory number region at bytes c e s is.apart w)

-- ---- instructions

may : (b : Bool) → abort_unless b ≡ None → b ≡ true
may true e = refl
may false e = cc

pair_may : (a b : Bool) → abort_unless (cond a b false) ≡ None → (a ≡ true) × (b ≡ true)
pair_may true true e = (refl, refl)
pair_may true false e = cc
pair_may false b e = cc

-- a row that doesn't store
quiet : (code : Code) (kept : Kept) (instr : Instr) (m : Machine) → writes_memory instr ≡ false → IsKept kept m.memory → IsKept kept (effect code instr m).memory
quiet code kept instr m w is = subst (IsKept kept) (sym (effect_memory code instr m w)) is

kept_effect : (code : Code) (kept : Kept) (instr : Instr) (m : Machine) → trap_of code instr m ≡ None → IsKept kept m.memory → IsKept kept (effect code instr m).memory
unfolding effect trap_of
kept_effect code kept (i.LoadStore Str rt rn imm) m t is = kept_store kept 8 _ _ _ (may _ t) is
kept_effect code kept (i.LoadStoreWord Strw rt rn imm) m t is = kept_store kept 4 _ _ _ (may _ t) is
kept_effect code kept (i.LoadStoreHalf Strh rt rn imm) m t is = kept_store kept 2 _ _ _ (may _ t) is
kept_effect code kept (i.LoadStoreByte Strb rt rn imm) m t is = kept_store kept 1 _ _ _ (may _ t) is
kept_effect code kept (i.LoadStoreUnscaled Stur rt rn imm) m t is = kept_store kept 8 _ _ _ (may _ t) is
kept_effect code kept (i.LoadStorePair Stp rt rt2 rn imm) m t is =
    let p = pair_may _ _ t in
    kept_store kept 8 (store 8 m.memory _ _) _ _ (allowed-store 8 Write m.memory _ _ _ _ ∙ p.1) (kept_store kept 8 m.memory _ _ p.0 is)
kept_effect code kept instr m t is = quiet code kept instr m refl is

pub kept_step : (code : Code) (kept : Kept) (m : Machine) → IsKept kept m.memory → IsKept kept (step code m).memory
kept_step code kept m is = by (step_is code m)
  where
    by : StepIs code m → IsKept kept (step code m).memory
    by (traps trap e) = subst (λ (x : Machine). IsKept kept x.memory) (sym e) is
    by (does word instr f d t e) = subst (λ (x : Machine). IsKept kept x.memory) (sym e) (kept_effect code kept instr m t is)

-- ---- the second writer

pub kept_deed : (d : Deed) (kept : Kept) (memory : List Region) → deed_fits d memory ≡ true → IsKept kept memory → IsKept kept (done_to d memory)
kept_deed (deed.Write at bytes) kept memory h is = kept_bytes kept memory at bytes h is
kept_deed (deed.Copy to from count) kept memory h is =
    let p = and_parts (allowed Read memory from count) (allowed Write memory to count) h in
    kept_bytes kept memory to (bytes_at count memory from) (rw (length-bytes_at count memory from) p.1) is
