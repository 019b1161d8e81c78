-- Bodies of structs by number are those by name.
use Rattle.std.proofs.Common.{◌≡◌, ℕ, zero, suc, ◌≤◌, ◌<◌, List, [], ◌∷◌, ◌++◌, length, set, slice_get, Option, Some, None, Ok, refl, sym, ap, ◌∙◌, arith}
use Rattle.std.specs.Option.{option_map, option_and_then}
use Rattle.std.proofs.Math.Seq.{set-append_seam}
use Rattle.std.proofs.lemmas.List.{length-map, length-append, map-append, map-set}
use Rattle.pa_ctype.specs.declared.ctype.Held.{Held}
use Rattle.pa_ctype.specs.Types.{TypeTree}
use Rattle.pa_ctype.specs.Layouts.{Body, Table, body_of, table_of, fields_of}
use Rattle.pa_ctype.specs.Tables.{TypeTable, AreApart}
use Rattle.pa_blocks.specs.Blocks.{Blocks}
use Rattle.pa_scope.specs.Answers.{breaks_at}
use Rattle.pa_scope.specs.declared.rule.TypeRule.TheVariants.{C2}
use Rattle.pa_scope.specs.Numbered.{TagNumbers, id_of, scope_by, tag_names, IsSoundBy}
use Rattle.pa_scope.specs.Scope.{Scope, with_body_at, with_new_struct, with_struct}
use Rattle.pa_scope.proofs.Declaring.{tag_added, tag_sound}

-- the numbers stay below those of the table
pub tagged_sound : (b : Blocks) (tags after : TagNumbers) (types grown : TypeTable) (tag id : ℕ) (members : List Held) → tag < types.names → id ≡ length types.structs
    → after ≡ record tags { structs = tags.structs ++ (tag, id) ∷ [] } → grown ≡ record types { structs = types.structs ++ Some members ∷ [] } → IsSoundBy b tags types → IsSoundBy b after grown
tagged_sound b tags after types grown tag id members known e p q h =
    let open_ : TypeTable = record types { structs = types.structs ++ None ∷ [] } in
    let sound = tag_sound b tags after types open_ tag id known e p refl h in
    let size = length-append types.structs (None ∷ []) in
    let whole = length-append types.structs (Some members ∷ []) in
    let ids = sound.struct_ids in
    rw q (record {
      names = sound.names;
      types_are = sound.types_are;
      struct_names = sound.struct_names;
      struct_ids = omega (arith, ids, size, whole);
      enum_names_are = sound.enum_names_are;
    })

last_open : (table : Table) → body_of (table ++ None ∷ []) (length table) ≡ None
last_open [] = refl
last_open (body ∷ table) = last_open table

-- the last struct gets its body
with_last : (table : Table) (id place : ℕ) (body : Body) (s : Scope) → length table ≡ id → s.structs ≡ table ++ None ∷ []
    → with_body_at place body (record { id = id; scope = s }) ≡ Ok (record { id = id; scope = record s { structs = table ++ Some body ∷ [] } })
with_last table id place body s e h = rw (h, ← e, last_open table, set-append_seam table None [] (Some body)) refl

module _ (names : ℕ → List ℕ) (m : ℕ → TypeTree) where
  pub body_at : (structs : List (Option (List Held))) (id : ℕ) → body_of (table_of names m structs) id ≡ option_map (fields_of names m) (option_and_then (λ body. body) (slice_get structs id))
  body_at [] id = refl
  body_at (body ∷ structs) zero = refl
  body_at (body ∷ structs) (suc id) = body_at structs id

  module _ (b : Blocks) (tags : TagNumbers) (types : TypeTable) (members : List Held) where
    pub untagged : (id : ℕ) (grown : TypeTable) → id ≡ length types.structs → grown ≡ record types { structs = types.structs ++ Some members ∷ [] }
        → record { id = id; scope = scope_by names m b tags grown } ≡ with_new_struct (fields_of names m members) (scope_by names m b tags types)
    untagged id grown e f =
        let size : length (table_of names m types.structs) ≡ id = length-map types.structs (option_map (fields_of names m)) ∙ sym e in
        rw (f, size, map-append (option_map (fields_of names m)) types.structs (Some members ∷ [])) refl

    pub tagged_body : (tag : ℕ) → AreApart types.names names → tag < types.names → tag_names tags.structs ≤ types.names
        → (place id : ℕ) (after : TagNumbers) (grown : TypeTable) → id_of tags.structs tag ≡ None → id ≡ length types.structs
        → after ≡ record tags { structs = tags.structs ++ (tag, id) ∷ [] } → grown ≡ record types { structs = types.structs ++ Some members ∷ [] }
        → with_struct (Some (names tag)) place (fields_of names m members) (scope_by names m b tags types) ≡ Ok (record { id = id; scope = scope_by names m b after grown })
    tagged_body tag apart known bound place id after grown new e p q =
        let field_bodies = option_map (fields_of names m) in
        let open_ : TypeTable = record types { structs = types.structs ++ None ∷ [] } in
        let added = tag_added names m b tags types tag apart known bound id after open_ new e p refl in
        let size : length (table_of names m types.structs) ≡ id = length-map types.structs field_bodies ∙ sym e in
        ap (with_body_at place (fields_of names m members)) (sym added)
        ∙ with_last (table_of names m types.structs) id place (fields_of names m members) (scope_by names m b after open_) size (map-append field_bodies types.structs (None ∷ []))
        ∙ rw (q, map-append field_bodies types.structs (Some members ∷ [])) refl

    pub body_set : (place id : ℕ) (grown : TypeTable) → option_and_then (λ body. body) (slice_get types.structs id) ≡ None → grown ≡ record types { structs = set types.structs id (Some members) }
        → with_body_at place (fields_of names m members) (record { id = id; scope = scope_by names m b tags types }) ≡ Ok (record { id = id; scope = scope_by names m b tags grown })
    body_set place id grown e f = rw (f, body_at types.structs id, e, map-set (option_map (fields_of names m)) types.structs id (Some members)) refl

    pub body_twice : (place id : ℕ) (body : List Held) → option_and_then (λ body. body) (slice_get types.structs id) ≡ Some body
        → with_body_at place (fields_of names m members) (record { id = id; scope = scope_by names m b tags types }) ≡ breaks_at C2 place
    body_twice place id body e = rw (body_at types.structs id, e) refl
