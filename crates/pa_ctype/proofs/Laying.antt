-- Layouts by the layouts that are kept with bodies of structs.
use Rattle.std.proofs.Common.{◌≡◌, ℕ, ◌+◌, ◌≤◌, ◌<◌, false, List, [], ◌∷◌, Option, Some, None, option_map, refl, sym, ◌∙◌, ap, subst, arith, nat_le, length, take, drop, ◌-◌, Bool, true, cond, ◌==◌, slice_index_or}
use Rattle.std.specs.Option.{option_and_then}
use Rattle.std.specs.Int.{next_multiple_of}
use Rattle.std.specs.List.{slice_get}
use Rattle.std.proofs.lemmas.Bool.Decides.{nat_tests}
use Rattle.std.proofs.lemmas.List.{take_all}
use Rattle.std.proofs.lemmas.Option.{slice_get-map}
use Rattle.pa_ctype.specs.declared.ctype.Layout.{Layout}
use Rattle.pa_ctype.specs.declared.ctype.Held.{Held}
use Rattle.pa_ctype.specs.declared.structs.LaidBody.{LaidBody}
use Rattle.pa_ctype.specs.Types.{TypeTree}
use Rattle.pa_ctype.specs.Kept.{members_of, kept_body, kept_layout, IsKept, IsFine, AreFine, EndsWithin, unnamed, place_from, or_else}
use Rattle.pa_ctype.specs.declared.ctype.Member.{Member}
use Rattle.pa_ctype.specs.Tables.{types_bound}
use Rattle.pa_ctype.specs.Layouts.{Field, Body, body_of, small, placed, padded, most_bytes, members_from, struct_layout, layout_by, laid, layout_in, field_of, fields_of, table_of, IsSoundBody, IsSound}
use Rattle.pa_ctype.proofs.Laws.{then_some, layout_by_same, members_from_same, structs_at, structs_fine, laid_fine}
use Rattle.pa_ctype.proofs.Depth.{laid_end}

pub multiple_at_least : (n align : ℕ) → n ≤ next_multiple_of n align
multiple_at_least n align = omega arith

-- members only add bytes
pub members_at_least : (lay : TypeTree → Option Layout) (so_far : Layout) (body : Body) (l : Layout) → members_from lay so_far body ≡ Some l → so_far.size ≤ l.size
unfolding members_from
members_at_least lay so_far [] l e = let n : so_far.size ≡ l.size = ap (λ x. x.size) (let z : so_far ≡ l = cc in z) in omega arith
members_at_least lay so_far (field ∷ body) l e =
    let (k, p, q) = then_some (λ x. members_from lay (placed so_far x) body) (lay field.of) l e in
    omega (arith, multiple_at_least so_far.size k.align, members_at_least lay (placed so_far k) body l q)

-- where the members so far have too many bytes, so has the struct
pub too_large : (lay : TypeTree → Option Layout) (so_far : Layout) (body : Body) → most_bytes < so_far.size → option_and_then padded (members_from lay so_far body) ≡ None
too_large lay so_far body h = by_end (members_from lay so_far body) refl
  where
    over : (n align : ℕ) → most_bytes < n → small (record { size = n; align = align }) ≡ None
    over n align h = let e : nat_le n most_bytes ≡ false = grind (arith, nat_tests) in rw e refl

    by_end : (o : Option Layout) → members_from lay so_far body ≡ o → option_and_then padded o ≡ None
    by_end None e = refl
    by_end (Some l) e =
        let a = members_at_least lay so_far body l e in
        let b = multiple_at_least l.size l.align in
        over (next_multiple_of l.size l.align) l.align (omega arith)

-- one member less is left
pub ends_more : (lay : TypeTree → Option Layout) (so_far l : Layout) (field : Field) (body : Body) → EndsWithin lay so_far (field ∷ body) → lay field.of ≡ Some l → EndsWithin lay (placed so_far l) body
unfolding members_from
ends_more lay so_far l field body h e = record { end = h.end; ends = sym (ap (option_and_then (λ x. members_from lay (placed so_far x) body)) e) ∙ h.ends; within = h.within }

-- each part of the members has few bytes
pub ends_few : (lay : TypeTree → Option Layout) (so_far : Layout) (body : Body) → EndsWithin lay so_far body → so_far.size ≤ most_bytes
ends_few lay so_far body h = let w = h.within in omega (arith, members_at_least lay so_far body h.end h.ends)

-- each member so far has a byte at least, so its place is no more than their bytes
pub place_more : (so_far l : Layout) (index : ℕ) → IsFine l → index ≤ so_far.size → index + 1 ≤ (placed so_far l).size
place_more so_far l index f h = let s = f.some in omega (arith, multiple_at_least so_far.size l.align)

-- so the place of each member that is left is below the most bytes
pub place_fits : (m : ℕ → TypeTree) (lay : TypeTree → Option Layout) → ((t : TypeTree) (l : Layout) → lay t ≡ Some l → IsFine l) → (so_far : Layout) (index : ℕ) (rest : List Held) → 1 ≤ length rest → EndsWithin lay so_far (unnamed m rest) → index ≤ so_far.size → index + 1 ≤ most_bytes
unfolding members_from
place_fits m lay f so_far index [] n h i = absurd (omega arith)
place_fits m lay f so_far index (held ∷ more) n h i =
    let (l, p, q) = then_some (λ x. members_from lay (placed so_far x) (unnamed m more)) (lay (m held.of)) h.end h.ends in
    let w = h.within in
    omega (arith, place_more so_far l index (f (m held.of) l p) i, members_at_least lay (placed so_far l) (unnamed m more) h.end q)

-- what is left behind the first of a list
pub tail_is : {A : Type 0} (first : A) (more : List A) (n : ℕ) → n ≡ length (first ∷ more) → take (n - 1) more ≡ more
tail_is first more n e = let k : n - 1 ≡ length more = omega arith in ap (λ n. take n more) k ∙ take_all (length more) more (omega arith)

pub ends_tail : (m : ℕ → TypeTree) (lay : TypeTree → Option Layout) (so_far l : Layout) (rest : List Held) (d : Held) (n : ℕ) → 1 ≤ length rest → n ≡ length rest → lay (m (slice_index_or rest 0 d).of) ≡ Some l
    → EndsWithin lay so_far (unnamed m rest) → EndsWithin lay (placed so_far l) (unnamed m (take (n - 1) (drop 1 rest)))
ends_tail m lay so_far l [] d n h e p k = absurd (omega arith)
ends_tail m lay so_far l (first ∷ more) d n h e p k =
    subst (λ x. EndsWithin lay (placed so_far l) (unnamed m x)) (sym (tail_is first more n e)) (ends_more lay so_far l (field_of (λ name. []) m first) (unnamed m more) k p)

pub known_tail : (k : ℕ) (rest : List Held) (n : ℕ) → 1 ≤ length rest → n ≡ length rest → types_bound rest ≤ k → types_bound (take (n - 1) (drop 1 rest)) ≤ k
known_tail k [] n h e b = absurd (omega arith)
known_tail k (first ∷ more) n h e b = subst (λ x. types_bound x ≤ k) (sym (tail_is first more n e)) (omega (arith, b))

-- one more place is noted
pub place_step : (lay : ℕ → Option Layout) (rest : List Held) (d : Held) (n : ℕ) → 1 ≤ length rest → n ≡ length rest → (l so_far after : Layout) (index offset : ℕ) → lay (slice_index_or rest 0 d).of ≡ Some l → offset ≡ next_multiple_of so_far.size l.align → after ≡ placed so_far l
    → (name : ℕ) (old new : Option Member) → new ≡ or_else old (cond ((slice_index_or rest 0 d).name == name) (Some (record { offset = offset; index = index })) None)
    → or_else new (place_from lay name after (index + 1) (take (n - 1) (drop 1 rest))) ≡ or_else old (place_from lay name so_far index rest)
place_step lay [] d n h e l so_far after index offset p q a name old new k = absurd (omega arith)
place_step lay (first ∷ more) d n h e l so_far after index offset p q a name old new k =
    ap (λ x. or_else new (place_from lay name x (index + 1) (take (n - 1) more))) a ∙ ap (λ x. or_else new (place_from lay name (placed so_far l) (index + 1) x)) (tail_is first more n e) ∙ ap (λ x. or_else x (place_from lay name (placed so_far l) (index + 1) more)) k
    ∙ by_old old (first.name == name) ∙ ap (or_else old) (sym (ap (option_and_then (λ l. cond (first.name == name) (Some (record { offset = next_multiple_of so_far.size l.align; index = index })) (place_from lay name (placed so_far l) (index + 1) more))) p))
  where
    by_old : (o : Option Member) (b : Bool) → or_else (or_else o (cond b (Some (record { offset = offset; index = index })) None)) (place_from lay name (placed so_far l) (index + 1) more)
        ≡ or_else o (cond b (Some (record { offset = next_multiple_of so_far.size l.align; index = index })) (place_from lay name (placed so_far l) (index + 1) more))
    by_old (Some x) b = refl
    by_old None true = ap (λ x. Some (record { offset = x; index = index })) q
    by_old None false = refl

-- a struct with a body
pub entry_some : (o : Option (Option LaidBody)) (body : LaidBody) → option_and_then (λ body. body) o ≡ Some body → o ≡ Some (Some body)
entry_some None body e = cc
entry_some (Some None) body e = cc
entry_some (Some (Some other)) body e = ap Some e

module _ (n : ℕ) (names : ℕ → List ℕ) (m : ℕ → TypeTree) where
  -- the body of a struct, as plain data
  abbrev entry_body : Option (Option LaidBody) → Option Body
  entry_body o = option_and_then (λ body. body) (option_map (option_map (fields_of names m)) (option_map (option_map (λ body. body.members)) o))

  pub body_at : (bodies : List (Option LaidBody)) (id : ℕ) → body_of (table_of names m (members_of bodies)) id ≡ entry_body (slice_get bodies id)
  body_at bodies id =
      ap (option_and_then (λ body. body)) (slice_get-map (option_map (fields_of names m)) (members_of bodies) id ∙ ap (option_map (option_map (fields_of names m))) (slice_get-map (option_map (λ body. body.members)) bodies id))

  -- what is kept for a struct is its layout
  pub kept_is : (bodies : List (Option LaidBody)) → IsKept n names m bodies → (id : ℕ) → kept_layout bodies id ≡ structs_at (length (table_of names m (members_of bodies))) (table_of names m (members_of bodies)) id
  kept_is bodies h id = by_entry (slice_get bodies id) refl
    where
      given : (o : Option (Option LaidBody)) → slice_get bodies id ≡ o → structs_at (length (table_of names m (members_of bodies))) (table_of names m (members_of bodies)) id ≡ option_and_then (struct_layout (layout_in (table_of names m (members_of bodies)))) (entry_body o)
      given o e = ap (option_and_then (struct_layout (layout_in (table_of names m (members_of bodies))))) (body_at bodies id ∙ ap entry_body e)

      kept : (o : Option (Option LaidBody)) → slice_get bodies id ≡ o → kept_layout bodies id ≡ option_and_then (λ body. body.layout) (option_and_then (λ body. body) o)
      kept o e = ap (λ o. option_and_then (λ body. body.layout) (option_and_then (λ body. body) o)) e

      by_entry : (o : Option (Option LaidBody)) → slice_get bodies id ≡ o → kept_layout bodies id ≡ structs_at (length (table_of names m (members_of bodies))) (table_of names m (members_of bodies)) id
      by_entry None e = kept None e ∙ sym (given None e)
      by_entry (Some None) e = kept (Some None) e ∙ sym (given (Some None) e)
      by_entry (Some (Some body)) e = kept (Some (Some body)) e ∙ (h id body e).layout ∙ sym (given (Some (Some body)) e)

  -- so types have the layouts of the definition
  pub layout_kept : (bodies : List (Option LaidBody)) → IsKept n names m bodies → (t : TypeTree) → layout_by (kept_layout bodies) t ≡ layout_in (table_of names m (members_of bodies)) t
  unfolding laid
  layout_kept bodies h t =
      layout_by_same (kept_layout bodies) (structs_at (length (table_of names m (members_of bodies))) (table_of names m (members_of bodies))) (kept_is bodies h) t
      ∙ laid_end (table_of names m (members_of bodies)) t

  pub kept_fine : (bodies : List (Option LaidBody)) → IsKept n names m bodies → AreFine (kept_layout bodies)
  kept_fine bodies h id l e =
      structs_fine (length (table_of names m (members_of bodies))) (table_of names m (members_of bodies)) (laid_fine (length (table_of names m (members_of bodies))) (table_of names m (members_of bodies))) id l (sym (kept_is bodies h id) ∙ e)

  pub ends_same : (lay more : TypeTree → Option Layout) → ((t : TypeTree) → lay t ≡ more t) → (so_far : Layout) (body : Body) → EndsWithin more so_far body → EndsWithin lay so_far body
  ends_same lay more h so_far body k = record { end = k.end; ends = members_from_same lay more h so_far body ∙ k.ends; within = k.within }

  -- bodies that are kept are sound
  pub kept_sound : (bodies : List (Option LaidBody)) → IsKept n names m bodies → IsSound (table_of names m (members_of bodies))
  kept_sound bodies h id body e = by_entry (slice_get bodies id) refl
    where
      by_entry : (o : Option (Option LaidBody)) → slice_get bodies id ≡ o → IsSoundBody (table_of names m (members_of bodies)) body
      by_entry None f = let z : None ≡ Some body = sym (body_at bodies id ∙ ap entry_body f) ∙ e in cc
      by_entry (Some None) f = let z : None ≡ Some body = sym (body_at bodies id ∙ ap entry_body f) ∙ e in cc
      by_entry (Some (Some found)) f =
          let z : Some (fields_of names m found.members) ≡ Some body = sym (body_at bodies id ∙ ap entry_body f) ∙ e in
          let s : fields_of names m found.members ≡ body = cc in
          subst (IsSoundBody (table_of names m (members_of bodies))) s (h id found f).sound

  -- the members of a body, as contracts see them
  pub members_at : (bodies : List (Option LaidBody)) (id : ℕ) → option_and_then (λ body. body) (slice_get (members_of bodies) id) ≡ option_map (λ body. body.members) (kept_body bodies id)
  members_at bodies id = ap (option_and_then (λ body. body)) (slice_get-map (option_map (λ body. body.members)) bodies id) ∙ by_entry (slice_get bodies id)
    where
      by_entry : (o : Option (Option LaidBody)) → option_and_then (λ body. body) (option_map (option_map (λ body. body.members)) o) ≡ option_map (λ body. body.members) (option_and_then (λ body. body) o)
      by_entry None = refl
      by_entry (Some None) = refl
      by_entry (Some (Some body)) = refl

  pub table_body : (members : List (Option (List Held))) (id : ℕ) → body_of (table_of names m members) id ≡ option_map (fields_of names m) (option_and_then (λ body. body) (slice_get members id))
  table_body members id = ap (option_and_then (λ body. body)) (slice_get-map (option_map (fields_of names m)) members id) ∙ by_entry (slice_get members id)
    where
      by_entry : (o : Option (Option (List Held))) → option_and_then (λ body. body) (option_map (option_map (fields_of names m)) o) ≡ option_map (fields_of names m) (option_and_then (λ body. body) o)
      by_entry None = refl
      by_entry (Some None) = refl
      by_entry (Some (Some body)) = refl

  pub none_kept : (bodies : List (Option LaidBody)) → members_of bodies ≡ [] → bodies ≡ []
  none_kept [] e = refl
  none_kept (x ∷ bodies) e = cc
