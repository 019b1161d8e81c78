-- The bytes of a section.
use Rattle.std.proofs.Common.{◌≡◌, ℕ, ◌+◌, ◌-◌, ◌<◌, ◌≤◌, List, [], ◌∷◌, ◌++◌, length, drop, get_or, replicate, refl, sym, ◌∙◌, ap, subst, append_assoc, arith, length-append, suc}
use Rattle.std.proofs.lemmas.List.{length-replicate}
use Rattle.std.proofs.Math.Seq.{drop-cons}
use Rattle.pa_object.specs.declared.object.Slot.{Slot}
use Rattle.pa_fixups.specs.Chain.{put_at}
use Rattle.pa_fixups.proofs.Written.{length-put_at}
use Rattle.pa_linker.specs.declared.section.LaidGlobal.{LaidGlobal}
use Rattle.pa_linker.specs.Layout.{Laid, end_of}
use Rattle.pa_linker.specs.Linked.{cleared, bytes_from}
use Rattle.pa_linker.specs.Tables.{shown, all_shown, CanFill, SlotsInside}

length-cleared : (slots : List Slot) (bytes : List ℕ) → SlotsInside (length bytes) slots → length (cleared slots bytes) ≡ length bytes
unfolding cleared
length-cleared [] bytes h = refl
length-cleared (slot ∷ slots) bytes h =
    let next = put_at slot.offset (replicate 8 0) bytes in
    let same : length next ≡ length bytes = length-put_at slot.offset (replicate 8 0) bytes h.0 in
    length-cleared slots next (subst (λ (n : ℕ). SlotsInside n slots) (sym same) h.1) ∙ same

pub shown_next : (globals : List LaidGlobal) (i : ℕ) (laid : LaidGlobal) → i < length globals → laid ≡ get_or globals i laid
    → all_shown (drop i globals) ≡ shown laid ∷ all_shown (drop (i + 1) globals)
shown_next globals i laid h e =
    let next : suc i ≡ i + 1 = omega arith in
    ap (λ (ls : List LaidGlobal). all_shown ls) (drop-cons globals i laid h)
    ∙ ap (λ (l : LaidGlobal). shown l ∷ all_shown (drop (suc i) globals)) (sym e)
    ∙ ap (λ (n : ℕ). shown laid ∷ all_shown (drop n globals)) next

-- a global's bytes behind the others
pub record Appended (out new : List ℕ) (laid : Laid) : Type 0 where
  pub size : length new ≡ end_of laid
  pub bytes : (behind : List Laid) → new ++ bytes_from (end_of laid) behind ≡ out ++ bytes_from (length out) (laid ∷ behind)

pub appended : (out zeros new : List ℕ) (laid : Laid) → length out ≤ laid.at → CanFill laid → zeros ≡ out ++ replicate (laid.at - length out) 0
    → new ≡ zeros ++ cleared laid.global.slots laid.global.bytes → Appended out new laid
appended out zeros new laid low fill e f =
    let gap : List ℕ = replicate (laid.at - length out) 0 in
    let bytes : List ℕ = cleared laid.global.slots laid.global.bytes in
    let whole : new ≡ (out ++ gap) ++ bytes = f ∙ ap (λ (z : List ℕ). z ++ bytes) e in
    let size : length new ≡ length out + length gap + length bytes =
    ap (λ (z : List ℕ). length z) whole ∙ length-append (out ++ gap) bytes ∙ ap (λ (n : ℕ). n + length bytes) (length-append out gap)
    in
    let zero : length gap ≡ laid.at - length out = length-replicate (laid.at - length out) 0 in
    let same : length bytes ≡ length laid.global.bytes = length-cleared laid.global.slots laid.global.bytes fill.inside in
    record {
      size = omega arith;
      bytes = λ (behind : List Laid).
          let rest = bytes_from (end_of laid) behind in
          ap (λ (z : List ℕ). z ++ rest) whole ∙ append_assoc (out ++ gap) bytes rest ∙ append_assoc out gap (bytes ++ rest);
    }
