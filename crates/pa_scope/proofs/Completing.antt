-- An object gets its completed type by number as it does by name.
use Rattle.std.proofs.Common.{◌≡◌, ℕ, suc, max, ◌≤◌, ◌<◌, ◌==◌, Bool, true, false, if◌then◌else◌, List, [], ◌∷◌, map, Option, Some, None, is_some, refl, ap, ◌∙◌, arith}
use Rattle.std.specs.Option.{option_map}
use Rattle.std.specs.Str.{bytes_eq}
use Rattle.pa_ctype.specs.Types.{TypeTree}
use Rattle.pa_ctype.specs.Tables.{TypeTable, AreApart}
use Rattle.pa_blocks.specs.declared.meant.Meant.{Meant}
use Rattle.pa_blocks.specs.declared.meant.Meant.TheVariants.{Local, Global, Constant, TypeName, Discriminator}
use Rattle.pa_blocks.specs.Blocks.{Named, Blocks, with_type, retyped_in, retyped_around, retyped, type_bound, block_types, around_types, types_bound, block_names, around_names, names_bound}
use Rattle.pa_blocks.specs.Blocks as by_number
use Rattle.pa_scope.specs.Numbered.{TagNumbers, meaning_of, block_of, scope_by}
use Rattle.pa_scope.specs.Scope.{Declaration, completed_meaning, completed_in, is_in, completed_around, completed}
use Rattle.pa_scope.proofs.Numbered.{test_same, in_block_is}

some_map : {A B : Type 0} (f : A → B) (o : Option A) → is_some (option_map f o) ≡ is_some o
some_map f None = refl
some_map f (Some a) = refl

module _ (n : ℕ) (names : ℕ → List ℕ) (m : ℕ → TypeTree) (apart : AreApart n names) (name : ℕ) (known : name < n) (whole count : ℕ) where
  -- what the name means becomes what it means once it is completed
  abbrev Completes : Option Meant → Type 0
  Completes found = (means : Meant) → found ≡ Some means → meaning_of m (with_type whole means) ≡ completed_meaning count (meaning_of m means)

  completes_block : (block : List Named) → block_names block ≤ n → Completes (by_number.in_block block name) → block_of names m (retyped_in name whole block) ≡ completed_in (names name) count (block_of names m block)
  unfolding by_number.in_block retyped_in completed_in
  completes_block [] h k = refl
  completes_block (d ∷ ds) h k = by (d.name == name) refl (λ e. completes_block ds (omega arith) (λ means f. k means (rw e f)))
    where
      by : (t : Bool) → d.name == name ≡ t
          → (d.name == name ≡ false → block_of names m (retyped_in name whole ds) ≡ completed_in (names name) count (block_of names m ds))
          → block_of names m (if t then record d { means = with_type whole d.means } ∷ ds else d ∷ retyped_in name whole ds)
          ≡ (if bytes_eq (names d.name) (names name) then record { name = names d.name; means = completed_meaning count (meaning_of m d.means) } ∷ block_of names m ds else record { name = names d.name; means = meaning_of m d.means } ∷ completed_in (names name) count (block_of names m ds))
      by true e rest = rw (← test_same n names apart d.name name (omega arith) known, e) (ap (λ means. record { name = names d.name; means = means } ∷ block_of names m ds) (k d.means (rw e refl)))
      by false e rest = rw (← test_same n names apart d.name name (omega arith) known, e) (ap (λ more. record { name = names d.name; means = meaning_of m d.means } ∷ more) (rest e))

  in_it : (block : List Named) → block_names block ≤ n → is_in (block_of names m block) (names name) ≡ by_number.is_in block name
  in_it block h = ap is_some (in_block_is n names m apart name known block h) ∙ some_map (meaning_of m) (by_number.in_block block name)

  completes_around : (blocks : List (List Named)) → around_names blocks ≤ n → Completes (by_number.in_blocks blocks name)
      → map (block_of names m) (retyped_around name whole blocks) ≡ completed_around (names name) count (map (block_of names m) blocks)
  unfolding by_number.in_blocks retyped_around completed_around
  completes_around [] h k = refl
  completes_around (block ∷ blocks) h k = by (by_number.in_block block name) refl (λ e. completes_around blocks (omega arith) (λ means f. k means (rw e f)))
    where
      by : (found : Option Meant) → by_number.in_block block name ≡ found
          → (by_number.in_block block name ≡ None → map (block_of names m) (retyped_around name whole blocks) ≡ completed_around (names name) count (map (block_of names m) blocks))
          → map (block_of names m) (if by_number.is_in block name then retyped_in name whole block ∷ blocks else block ∷ retyped_around name whole blocks)
          ≡ (if is_in (block_of names m block) (names name) then completed_in (names name) count (block_of names m block) ∷ map (block_of names m) blocks else block_of names m block ∷ completed_around (names name) count (map (block_of names m) blocks))
      by (Some means) e rest =
          rw (in_it block (omega arith), e) (ap (λ done. done ∷ map (block_of names m) blocks) (completes_block block (omega arith) (λ other f. k other (rw f refl))))
      by None e rest = rw (in_it block (omega arith), e) (ap (λ done. block_of names m block ∷ done) (rest e))

  pub completes : (b : Blocks) (tags : TagNumbers) (types : TypeTable) → names_bound b ≤ n → Completes (by_number.meaning b name)
      → scope_by names m (retyped name whole b) tags types ≡ completed (names name) count (scope_by names m b tags types)
  completes b tags types h k = by (by_number.in_block b.block name) refl
    where
      by : (found : Option Meant) → by_number.in_block b.block name ≡ found
          → scope_by names m (if by_number.is_in b.block name then record b { block = retyped_in name whole b.block } else record b { around = retyped_around name whole b.around }) tags types
          ≡ (if is_in (block_of names m b.block) (names name) then record (scope_by names m b tags types) { block = completed_in (names name) count (block_of names m b.block) } else record (scope_by names m b tags types) { around = completed_around (names name) count (map (block_of names m) b.around) })
      by (Some means) e =
          rw (in_it b.block (omega arith), e) (ap (λ (block : List Declaration). record (scope_by names m b tags types) { block = block }) (completes_block b.block (omega arith) (λ other f. k other (rw f refl))))
      by None e =
          rw (in_it b.block (omega arith), e) (ap (λ (around : List (List Declaration)). record (scope_by names m b tags types) { around = around }) (completes_around b.around (omega arith) (λ other f. k other (rw (e, f) refl))))

-- numbers of names stay, and those of types are below the new one
names_in_block : (name whole : ℕ) (block : List Named) → block_names (retyped_in name whole block) ≡ block_names block
unfolding retyped_in
names_in_block name whole [] = refl
names_in_block name whole (d ∷ ds) = by (d.name == name) (names_in_block name whole ds)
  where
    by : (t : Bool) → block_names (retyped_in name whole ds) ≡ block_names ds → block_names (if t then record d { means = with_type whole d.means } ∷ ds else d ∷ retyped_in name whole ds) ≡ max (suc d.name) (block_names ds)
    by true e = refl
    by false e = ap (max (suc d.name)) e

names_around : (name whole : ℕ) (blocks : List (List Named)) → around_names (retyped_around name whole blocks) ≡ around_names blocks
unfolding retyped_around
names_around name whole [] = refl
names_around name whole (block ∷ blocks) = by (by_number.is_in block name) (names_around name whole blocks)
  where
    by : (t : Bool) → around_names (retyped_around name whole blocks) ≡ around_names blocks
        → around_names (if t then retyped_in name whole block ∷ blocks else block ∷ retyped_around name whole blocks) ≡ max (block_names block) (around_names blocks)
    by true e = ap (λ k. max k (around_names blocks)) (names_in_block name whole block)
    by false e = ap (max (block_names block)) e

pub retyped_names : (name whole : ℕ) (b : Blocks) → names_bound (retyped name whole b) ≡ names_bound b
retyped_names name whole b = by (by_number.is_in b.block name)
  where
    by : (t : Bool) → names_bound (if t then record b { block = retyped_in name whole b.block } else record b { around = retyped_around name whole b.around }) ≡ names_bound b
    by true = ap (λ k. max k (around_names b.around)) (names_in_block name whole b.block)
    by false = ap (max (block_names b.block)) (names_around name whole b.around)

bound_with : (whole : ℕ) (means : Meant) → type_bound (with_type whole means) ≤ max (type_bound means) (suc whole)
bound_with whole (Local number of) = omega arith
bound_with whole (Global of) = omega arith
bound_with whole (Constant value brought) = omega arith
bound_with whole (TypeName of) = omega arith
bound_with whole Discriminator = omega arith

types_in_block : (name whole : ℕ) (block : List Named) → block_types (retyped_in name whole block) ≤ max (block_types block) (suc whole)
unfolding retyped_in
types_in_block name whole [] = omega arith
types_in_block name whole (d ∷ ds) = by (d.name == name) (types_in_block name whole ds)
  where
    by : (t : Bool) → block_types (retyped_in name whole ds) ≤ max (block_types ds) (suc whole)
        → block_types (if t then record d { means = with_type whole d.means } ∷ ds else d ∷ retyped_in name whole ds) ≤ max (max (type_bound d.means) (block_types ds)) (suc whole)
    by true e = let b = bound_with whole d.means in omega arith
    by false e = omega arith

types_around : (name whole : ℕ) (blocks : List (List Named)) → around_types (retyped_around name whole blocks) ≤ max (around_types blocks) (suc whole)
unfolding retyped_around
types_around name whole [] = omega arith
types_around name whole (block ∷ blocks) = by (by_number.is_in block name) (types_around name whole blocks)
  where
    by : (t : Bool) → around_types (retyped_around name whole blocks) ≤ max (around_types blocks) (suc whole)
        → around_types (if t then retyped_in name whole block ∷ blocks else block ∷ retyped_around name whole blocks) ≤ max (max (block_types block) (around_types blocks)) (suc whole)
    by true e = let b = types_in_block name whole block in omega arith
    by false e = omega arith

pub retyped_types : (name whole : ℕ) (b : Blocks) → types_bound (retyped name whole b) ≤ max (types_bound b) (suc whole)
retyped_types name whole b = by (by_number.is_in b.block name)
  where
    by : (t : Bool) → types_bound (if t then record b { block = retyped_in name whole b.block } else record b { around = retyped_around name whole b.around }) ≤ max (types_bound b) (suc whole)
    by true = let e = types_in_block name whole b.block in omega arith
    by false = let e = types_around name whole b.around in omega arith
