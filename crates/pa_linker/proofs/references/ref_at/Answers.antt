use Rattle.std.proofs.Common.{◌≡◌, ◌∙◌, ◌<◌, ℕ, List, length, get_or, None, Some, Option, Bor, sym, refl}
use Rattle.std.specs.Prelude.{IfSome, slice_get}
use Rattle.std.specs.Option.{option_copied, IsSome}
use Rattle.std.proofs.lemmas.Bool.{false≢true}
use Rattle.std.proofs.lemmas.Option.{get_or_from_slice_get, slice_get_read}
use Rattle.pa_object.specs.declared.object.Ref.{Ref}
use Rattle.pa_linker.specs.Tables.{ref_index}
use Rattle.pa_linker.proofs.ByWord.{found, absent}
use Rattle.pa_linker.proofs.references.ref_at.Goals as goal

got : (o : Option (Bor Ref)) (refs : List Ref) (i : ℕ) → i < length refs → IfSome o (λ x. x.now ≡ get_or refs i x.now) → IsSome o → option_copied o ≡ slice_get refs i
got (Some x) refs i h e s = sym (slice_get_read refs (length refs) i x.now refl h e)
got None refs i h e s = absurd (false≢true s)

pub returns-in-Some : goal.returns-in-Some
returns-in-Some c =
    let refs = c.args.refs.now in
    let entry = get_or_from_slice_get c.args.table.now c.args.word (ref_index 0 refs c.args.word) None (c.requires.table.1 c.args.word c.requires.inside) in
    let here = found refs c.args.word c.in-Some.index (sym entry ∙ c.in-Some.is) in
    got c.get.result refs c.in-Some.index here.0 c.get.ensures.lookup.1 (c.get.ensures.lookup.2 here.0) ∙ here.1

pub returns-in-None : goal.returns-in-None
returns-in-None c =
    let entry = get_or_from_slice_get c.args.table.now c.args.word (ref_index 0 c.args.refs.now c.args.word) None (c.requires.table.1 c.args.word c.requires.inside) in
    sym (absent 0 c.args.refs.now c.args.word (sym entry ∙ c.in-None.is))
