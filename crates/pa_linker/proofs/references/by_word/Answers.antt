use Rattle.std.proofs.Common.{◌≡◌, ◌∙◌, ℕ, ◌+◌, ◌-◌, ap, arith, sym, subst, set, length, replicate, refl, List, None, Some, Option}
use Rattle.std.proofs.lemmas.Option.{slice_get_read}
use Rattle.pa_object.specs.declared.object.Ref.{Ref}
use Rattle.pa_linker.proofs.ByWord.{IsTableFrom, at_all, none_yet, one_more}
use Rattle.pa_linker.proofs.references.by_word.Goals as goal

pub loop-left-init : goal.loop-left-init
loop-left-init c =
    let all : c.loop.counter ≡ c.args.words = omega arith in
    record {
      few = omega arith;
      table = none_yet c.args.refs.now c.args.words c.loop.table (c.loop.invariant ∙ ap (λ (n : ℕ). replicate n None) all);
    }

pub loop-left-preserved : goal.loop-left-preserved
loop-left-preserved c =
    let refs = c.args.refs.now in
    let ref = c.index-refs-left.result in
    let new : ℕ = c.loop-left.left - 1 in
    let next : c.loop-left.left ≡ new + 1 = omega arith in
    let before : IsTableFrom (new + 1) refs c.args.words c.loop-left.table = subst (λ (n : ℕ). IsTableFrom n refs c.args.words c.loop-left.table) next c.loop-left.invariant.table in
    let here = slice_get_read refs (length refs) new ref refl (omega arith) c.index-refs-left.is in
    let after = one_more refs c.loop-left.table c.args.words new ref here (at_all _ refs new ref c.requires here) before in
    let same : c.set.new.self ≡ set c.loop-left.table ref.at (Some new) = c.set.ensures ∙ ap (λ (r : Ref). set c.loop-left.table r.at (Some new)) (sym c.index-refs-left.is) in
    record {
      few = omega arith;
      table = subst (λ (t : List (Option ℕ)). IsTableFrom new refs c.args.words t) (sym same) after;
    }
