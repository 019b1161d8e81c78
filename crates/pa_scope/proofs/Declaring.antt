-- A declaration by number is the one by name.
use Rattle.std.proofs.Common.{◌≡◌, ℕ, ◌≤◌, ◌<◌, ◌==◌, Bool, true, false, List, [], ◌∷◌, ◌++◌, length, Some, None, Ok, refl, sym, ap, ◌∙◌, arith}
use Rattle.std.specs.Option.{option_map}
use Rattle.std.proofs.lemmas.List.{length-map, map-append, length-append}
use Rattle.pa_ctype.specs.Types.{TypeTree}
use Rattle.pa_ctype.specs.Tables.{TypeTable, AreApart}
use Rattle.pa_blocks.specs.declared.meant.Meant.{Meant}
use Rattle.pa_blocks.specs.declared.meant.Meant.TheVariants.{Local, Global, Constant, TypeName, Discriminator}
use Rattle.pa_blocks.specs.Blocks.{Named, Blocks, names_bound}
use Rattle.pa_blocks.specs.Blocks as by_number
use Rattle.pa_ctype.specs.Layouts.{table_of, fields_of}
use Rattle.pa_scope.specs.Numbered.{TagNumbers, id_of, meaning_of, block_of, struct_tag_of, scope_by, both_global, repeats, tag_names, IsSoundBy}
use Rattle.pa_scope.specs.Scope.{Scope, in_block, is_file_level, again, declared, tagged}
use Rattle.pa_scope.proofs.Numbered.{in_block_is, tag_is, tag_names_more, tag_ids_more}

again_is : (m : ℕ → TypeTree) (name : List ℕ) (place : ℕ) (file : Bool) (before means : Meant) (s : Scope) → again name place file (Some (meaning_of m before)) (meaning_of m means) s ≡ repeats m place s (both_global file before means)
again_is m name place true (Global t) (Global u) s = refl
again_is m name place true (Global t) (Local number u) s = refl
again_is m name place true (Global t) (Constant value brought) s = refl
again_is m name place true (Global t) (TypeName u) s = refl
again_is m name place true (Global t) Discriminator s = refl
again_is m name place true (Local number t) means s = refl
again_is m name place true (Constant value brought) means s = refl
again_is m name place true (TypeName t) means s = refl
again_is m name place true Discriminator means s = refl
again_is m name place false (Global t) means s = refl
again_is m name place false (Local number t) means s = refl
again_is m name place false (Constant value brought) means s = refl
again_is m name place false (TypeName t) means s = refl
again_is m name place false Discriminator means s = refl

module _ (names : ℕ → List ℕ) (m : ℕ → TypeTree) (b : Blocks) (tags : TagNumbers) (types : TypeTable) (name place : ℕ) (means : Meant)
    (apart : AreApart types.names names) (known : name < types.names) (bound : names_bound b ≤ types.names) where
  abbrev s : Scope
  s = scope_by names m b tags types

  there : in_block (block_of names m b.block) (names name) ≡ option_map (meaning_of m) (by_number.in_block b.block name)
  there = in_block_is types.names names m apart name known b.block (omega arith)

  level : is_file_level s ≡ (length b.around == 0)
  level = ap (λ n. n == 0) (length-map b.around (block_of names m))

  pub declares : (after : Blocks) → by_number.in_block b.block name ≡ None → after ≡ by_number.with_name name means b
      → declared (names name) place (meaning_of m means) s ≡ Ok (scope_by names m after tags types)
  declares after e f = rw (there, e, f) refl

  pub declares_again : (before : Meant) → by_number.in_block b.block name ≡ Some before
      → declared (names name) place (meaning_of m means) s ≡ repeats m place s (both_global (length b.around == 0) before means)
  declares_again before e = rw (there, e, level) (again_is m (names name) place (length b.around == 0) before means s)

-- ---- a new struct of a tag

module _ (names : ℕ → List ℕ) (m : ℕ → TypeTree) (b : Blocks) (tags : TagNumbers) (types : TypeTable) (tag : ℕ)
    (apart : AreApart types.names names) (known : tag < types.names) (bound : tag_names tags.structs ≤ types.names) where
  pub tag_found : (id : ℕ) → id_of tags.structs tag ≡ Some id → record { id = id; scope = scope_by names m b tags types } ≡ tagged (names tag) (scope_by names m b tags types)
  tag_found id e = rw (tag_is types.names names m apart tag known tags.structs bound, e) refl

  tag_new : (id : ℕ) → id_of tags.structs tag ≡ None → id ≡ length types.structs
      → record { id = id; scope = scope_by names m b (record tags { structs = tags.structs ++ (tag, id) ∷ [] }) (record types { structs = types.structs ++ None ∷ [] }) }
      ≡ tagged (names tag) (scope_by names m b tags types)
  tag_new id e f =
      let size : length (table_of names m types.structs) ≡ id = length-map types.structs (option_map (fields_of names m)) ∙ sym f in
      rw (tag_is types.names names m apart tag known tags.structs bound, e, size, map-append (struct_tag_of names m) tags.structs ((tag, id) ∷ []), map-append (option_map (fields_of names m)) types.structs (None ∷ [])) refl

  pub tag_added : (id : ℕ) (after : TagNumbers) (grown : TypeTable) → id_of tags.structs tag ≡ None → id ≡ length types.structs
      → after ≡ record tags { structs = tags.structs ++ (tag, id) ∷ [] } → grown ≡ record types { structs = types.structs ++ None ∷ [] }
      → record { id = id; scope = scope_by names m b after grown } ≡ tagged (names tag) (scope_by names m b tags types)
  tag_added id after grown e f p q = rw (p, q) (tag_new id e f)

-- the numbers stay below those of the table
pub tag_sound : (b : Blocks) (tags after : TagNumbers) (types grown : TypeTable) (tag id : ℕ) → tag < types.names → id ≡ length types.structs
    → after ≡ record tags { structs = tags.structs ++ (tag, id) ∷ [] } → grown ≡ record types { structs = types.structs ++ None ∷ [] } → IsSoundBy b tags types → IsSoundBy b after grown
tag_sound b tags after types grown tag id known f p q h =
    let names = tag_names_more tags.structs tag id in
    let ids = tag_ids_more tags.structs tag id in
    let size = length-append types.structs (None ∷ []) in
    let a = h.struct_names in
    let e = h.struct_ids in
    rw (p, q) (record {
      names = h.names;
      types_are = h.types_are;
      struct_names = omega (arith, names, a, known);
      struct_ids = omega (arith, ids, size, e, f);
      enum_names_are = h.enum_names_are;
    })
