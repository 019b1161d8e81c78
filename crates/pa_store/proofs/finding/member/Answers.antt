use Rattle.std.proofs.Common.{◌≡◌, ◌-◌, ℕ, [], length, take, drop, slice_index_or, Some, None, refl, sym, ◌∙◌, subst, arith}
use Rattle.pa_ctype.specs.Layouts.{laid, fields_of}
use Rattle.pa_ctype.specs.Nodes.{at}
use Rattle.pa_ctype.specs.Kept.{EndsWithin}
use Rattle.pa_ctype.proofs.Laws.{laid_fine}
use Rattle.pa_cmean.specs.Finding.{find_to, find_member}
use Rattle.pa_store.specs.Found.{structs_in, find_part}
use Rattle.pa_ctype.proofs.Laying.{known_tail, ends_few}
use Rattle.pa_store.proofs.Going.{fits_at, clash, struct_part, struct_ends, held_laid, held_known, held_below, tail_ends, member_rest, before_member, in_member, behind_member, placed_is, none_finds, shallower}
use Rattle.pa_store.proofs.finding.member.Goals as goal

pub members-init : goal.members-init
members-init c = record {
  known = c.requires.known;
  same = λ names. struct_part names c.args.types.now c.args.part c.args.members.now c.requires.body;
  ends = λ names. struct_ends names c.args.types.now c.args.part c.args.members.now c.requires.part c.requires.body;
}

pub returns-in_default-layout_of-clause-finds : goal.returns-in_default-layout_of-clause-finds
returns-in_default-layout_of-clause-finds c names =
    let t = c.args.types.now in
    let d : ℕ = c.args.part.depth - 1 in
    let some = c.in-len1-up.len_at_least in
    let h = held_laid names t d c.members.so_far c.members.rest.now (record { name = 0; of = 0 }) some (c.members.invariant.ends names) in
    absurd (clash _ h.0 h.1 (held_known names t d c.members.so_far c.members.rest.now (record { name = 0; of = 0 }) some (c.members.invariant.ends names) None (c.in_default-layout_of.ensures.answer names (at t.nodes) (fits_at t.nodes))))

pub next_multiple_of-start-requires-clause-nonzero : goal.next_multiple_of-start-requires-clause-nonzero
next_multiple_of-start-requires-clause-nonzero c =
    let t = c.args.types.now in
    let d : ℕ = c.args.part.depth - 1 in
    let lay = held_known (λ n. []) t d c.members.so_far c.members.rest.now (record { name = 0; of = 0 }) c.in-len1-up.len_at_least (c.members.invariant.ends (λ n. [])) (Some c.in-Some.layout) (c.in-Some.ensures.answer (λ n. []) (at t.nodes) (fits_at t.nodes)) in
    let positive = (laid_fine d (structs_in (λ n. []) t) (at t.nodes (slice_index_or c.members.rest.now 0 (record { name = 0; of = 0 })).of) c.in-Some.layout lay).positive in
    omega arith

pub next_multiple_of-start-requires-clause-fits : goal.next_multiple_of-start-requires-clause-fits
next_multiple_of-start-requires-clause-fits c =
    let t = c.args.types.now in
    let d : ℕ = c.args.part.depth - 1 in
    let lay = held_known (λ n. []) t d c.members.so_far c.members.rest.now (record { name = 0; of = 0 }) c.in-len1-up.len_at_least (c.members.invariant.ends (λ n. [])) (Some c.in-Some.layout) (c.in-Some.ensures.answer (λ n. []) (at t.nodes) (fits_at t.nodes)) in
    let align = (laid_fine d (structs_in (λ n. []) t) (at t.nodes (slice_index_or c.members.rest.now 0 (record { name = 0; of = 0 })).of) c.in-Some.layout lay).align in
    let few = ends_few (laid d (structs_in (λ n. []) t)) c.members.so_far (fields_of (λ n. []) (at t.nodes) c.members.rest.now) (c.members.invariant.ends (λ n. [])) in
    omega arith

pub overflow_add-end : goal.overflow_add-end
overflow_add-end c =
    let t = c.args.types.now in
    let d : ℕ = c.args.part.depth - 1 in
    let lay = held_known (λ n. []) t d c.members.so_far c.members.rest.now (record { name = 0; of = 0 }) c.in-len1-up.len_at_least (c.members.invariant.ends (λ n. [])) (Some c.in-Some.layout) (c.in-Some.ensures.answer (λ n. []) (at t.nodes) (fits_at t.nodes)) in
    let fine = laid_fine d (structs_in (λ n. []) t) (at t.nodes (slice_index_or c.members.rest.now 0 (record { name = 0; of = 0 })).of) c.in-Some.layout lay in
    let align = fine.align in
    let size = fine.size in
    let few = ends_few (laid d (structs_in (λ n. []) t)) c.members.so_far (fields_of (λ n. []) (at t.nodes) c.members.rest.now) (c.members.invariant.ends (λ n. [])) in
    let value = c.next_multiple_of-start.ensures.value in
    omega arith

pub returns-then-part-start-clause-finds : goal.returns-then-part-start-clause-finds
returns-then-part-start-clause-finds c names =
    let t = c.args.types.now in
    let d : ℕ = c.args.part.depth - 1 in
    let some = c.in-len1-up.len_at_least in
    let lay = held_known names t d c.members.so_far c.members.rest.now (record { name = 0; of = 0 }) some (c.members.invariant.ends names) (Some c.in-Some.layout) (c.in-Some.ensures.answer names (at t.nodes) (fits_at t.nodes)) in
    sym (sym (c.members.invariant.same names) ∙ member_rest names t d c.args.part.constant c.members.so_far c.in-Some.layout c.members.rest.now (record { name = 0; of = 0 }) c.args.part.offset some lay
    ∙ before_member (find_to d (structs_in names t) c.args.part.constant (at t.nodes (slice_index_or c.members.rest.now 0 (record { name = 0; of = 0 })).of)) (λ next. find_member (laid d (structs_in names t)) (find_to d (structs_in names t) c.args.part.constant) next (fields_of names (at t.nodes) (take (length c.members.rest.now - 1) (drop 1 c.members.rest.now))) c.args.part.offset) c.members.so_far c.in-Some.layout c.args.part.offset c.next_multiple_of-start.result c.next_multiple_of-start.ensures.value c.if-part-start.true)

pub returns-then-part-end-clause-finds : goal.returns-then-part-end-clause-finds
returns-then-part-end-clause-finds c names =
    let t = c.args.types.now in
    let d : ℕ = c.args.part.depth - 1 in
    let some = c.in-len1-up.len_at_least in
    let lay = held_known names t d c.members.so_far c.members.rest.now (record { name = 0; of = 0 }) some (c.members.invariant.ends names) (Some c.in-Some.layout) (c.in-Some.ensures.answer names (at t.nodes) (fits_at t.nodes)) in
    sym (sym (c.members.invariant.same names) ∙ member_rest names t d c.args.part.constant c.members.so_far c.in-Some.layout c.members.rest.now (record { name = 0; of = 0 }) c.args.part.offset some lay
    ∙ in_member (find_to d (structs_in names t) c.args.part.constant (at t.nodes (slice_index_or c.members.rest.now 0 (record { name = 0; of = 0 })).of)) (λ next. find_member (laid d (structs_in names t)) (find_to d (structs_in names t) c.args.part.constant) next (fields_of names (at t.nodes) (take (length c.members.rest.now - 1) (drop 1 c.members.rest.now))) c.args.part.offset) c.members.so_far c.in-Some.layout c.args.part.offset c.next_multiple_of-start.result c.next_multiple_of-start.ensures.value c.if-part-start.false c.if-part-end.true)

pub returns-then-part-end-clause-inside : goal.returns-then-part-end-clause-inside
returns-then-part-end-clause-inside c =
    let t = c.args.types.now in
    let d : ℕ = c.args.part.depth - 1 in
    let some = c.in-len1-up.len_at_least in
    let below = held_below (length t.nodes) c.members.rest.now (record { name = 0; of = 0 }) some c.members.invariant.known in
    let deep = c.requires.part.deep in (
      record {
        known = below;
        laid = λ names. held_laid names t d c.members.so_far c.members.rest.now (record { name = 0; of = 0 }) some (c.members.invariant.ends names);
        deep = omega arith;
      },
      shallower c.args.part.depth (length t.nodes) _ c.args.part.of c.requires.body.deep below,
    )

pub members-preserved : goal.members-preserved
members-preserved c =
    let t = c.args.types.now in
    let d : ℕ = c.args.part.depth - 1 in
    let some = c.in-len1-up.len_at_least in
    let is = placed_is c.members.so_far c.in-Some.layout c.next_multiple_of-start.result c.max.result c.next_multiple_of-start.ensures.value c.max.ensures in
    record {
      known = known_tail (length t.nodes) c.members.rest.now _ some refl c.members.invariant.known;
      same = λ names.
          let lay = held_known names t d c.members.so_far c.members.rest.now (record { name = 0; of = 0 }) some (c.members.invariant.ends names) (Some c.in-Some.layout) (c.in-Some.ensures.answer names (at t.nodes) (fits_at t.nodes)) in
          subst (λ s. find_member (laid d (structs_in names t)) (find_to d (structs_in names t) c.args.part.constant) s (fields_of names (at t.nodes) (take (length c.members.rest.now - 1) (drop 1 c.members.rest.now))) c.args.part.offset ≡ find_part names t c.args.part) is
          (sym (member_rest names t d c.args.part.constant c.members.so_far c.in-Some.layout c.members.rest.now (record { name = 0; of = 0 }) c.args.part.offset some lay
          ∙ behind_member (find_to d (structs_in names t) c.args.part.constant (at t.nodes (slice_index_or c.members.rest.now 0 (record { name = 0; of = 0 })).of)) (λ next. find_member (laid d (structs_in names t)) (find_to d (structs_in names t) c.args.part.constant) next (fields_of names (at t.nodes) (take (length c.members.rest.now - 1) (drop 1 c.members.rest.now))) c.args.part.offset) c.members.so_far c.in-Some.layout c.args.part.offset c.next_multiple_of-start.result c.next_multiple_of-start.ensures.value c.if-part-start.false c.if-part-end.false)
          ∙ c.members.invariant.same names);
      ends = λ names.
          let lay = held_known names t d c.members.so_far c.members.rest.now (record { name = 0; of = 0 }) some (c.members.invariant.ends names) (Some c.in-Some.layout) (c.in-Some.ensures.answer names (at t.nodes) (fits_at t.nodes)) in
          subst (λ s. EndsWithin (laid d (structs_in names t)) s (fields_of names (at t.nodes) (take (length c.members.rest.now - 1) (drop 1 c.members.rest.now)))) is
          (tail_ends names t d c.members.so_far c.in-Some.layout c.members.rest.now (record { name = 0; of = 0 }) some lay (c.members.invariant.ends names));
    }

pub returns-clause-finds : goal.returns-clause-finds
returns-clause-finds c names =
    let t = c.args.types.now in
    let d : ℕ = c.args.part.depth - 1 in
    let below = c.in_default.len_below in
    sym (none_finds (laid d (structs_in names t)) (find_to d (structs_in names t) c.args.part.constant) names (at t.nodes) c.members.so_far c.members.rest.now c.args.part.offset (omega arith)) ∙ c.members.invariant.same names
