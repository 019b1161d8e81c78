-- The members of a struct that gets its body, one more at a time, while the table of types grows.
use Rattle.std.proofs.Common.{◌≡◌, ℕ, ◌<◌, ◌≤◌, true, List, [], ◌∷◌, ◌++◌, Option, length, sym, subst, arith}
use Rattle.std.specs.Option.{IsSome}
use Rattle.pa_ctype.specs.declared.ctype.Layout.{Layout}
use Rattle.pa_ctype.specs.declared.ctype.Held.{Held}
use Rattle.pa_ctype.specs.Types.{TypeTree}
use Rattle.pa_ctype.specs.Nodes.{Fits}
use Rattle.pa_ctype.specs.Bounds.{is_formed}
use Rattle.pa_ctype.specs.Layouts.{Table, layout_in, fields_of, table_of, IsLayoutOf, IsSoundBody}
use Rattle.pa_ctype.specs.Tables.{types_bound, names_bound, TypeTable, ForTypes, ForStructs, IsSoundIn}
use Rattle.pa_ctype.proofs.Forms.{formed_bound}
use Rattle.pa_ctype.proofs.Results.{complete_is}

-- no member yet
pub none_sound : (t : TypeTable) → IsSoundIn t []
unfolding IsSoundBody
none_sound t names m fits = tt

-- a member whose type has a layout, as `layout_of` answers
pub member_sound : (t : TypeTable) (held : Held) (r : Option Layout) → ForStructs t (λ table m. IsLayoutOf table (m held.of) r) → IsSome r → ForStructs t (λ table m. is_formed table (m held.of) ≡ true) → IsSoundIn t (held ∷ [])
unfolding IsSoundBody
member_sound t held r h s formed names m fits =
    let table = table_of names m t.structs in
    (record { complete = complete_is table (m held.of) r (h names m fits) s; known = formed_bound (length table) (layout_in table) (m held.of) (formed names m fits) }, tt)

push : (names : ℕ → List ℕ) (m : ℕ → TypeTree) (table : Table) (ms : List Held) (held : Held) → IsSoundBody table (fields_of names m ms) → IsSoundBody table (fields_of names m (held ∷ [])) → IsSoundBody table (fields_of names m (ms ++ held ∷ []))
unfolding IsSoundBody
push names m table [] held h k = k
push names m table (x ∷ ms) held h k = (h.0, push names m table ms held h.1 k)

-- one member more
pub sound_push : (t : TypeTable) (ms : List Held) (held : Held) → IsSoundIn t ms → IsSoundIn t (held ∷ []) → IsSoundIn t (ms ++ held ∷ [])
sound_push t ms held h k names m fits = push names m (table_of names m t.structs) ms held (h names m fits) (k names m fits)

-- more types
pub sound_grown : (old new : TypeTable) → new.structs ≡ old.structs → ForTypes new (λ m. Fits m old.nodes) → (ms : List Held) → IsSoundIn old ms → IsSoundIn new ms
sound_grown old new e grows ms h names m fits = subst (λ structs. IsSoundBody (table_of names m structs) (fields_of names m ms)) (sym e) (h names m (grows m fits))

-- ---- the numbers of its members

pub types_push : (k : ℕ) (ms : List Held) (held : Held) → types_bound ms ≤ k → held.of < k → types_bound (ms ++ held ∷ []) ≤ k
types_push k [] held h w = omega (arith, w)
types_push k (x ∷ ms) held h w = omega (arith, h, types_push k ms held (omega (arith, h)) w)

pub names_push : (k : ℕ) (ms : List Held) (held : Held) → names_bound ms ≤ k → held.name < k → names_bound (ms ++ held ∷ []) ≤ k
names_push k [] held h w = omega (arith, w)
names_push k (x ∷ ms) held h w = omega (arith, h, names_push k ms held (omega (arith, h)) w)
