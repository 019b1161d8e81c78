use Rattle.std.proofs.Common.{◌∙◌, ◌<◌, List, length, [], ◌∷◌, filter, Some, None, sym, ap, subst, arith}
use Rattle.std.specs.Option.{option_copied}
use Rattle.pa_object.specs.declared.object.Ref.{Ref}
use Rattle.pa_object.specs.Linkable.{Text}
use Rattle.pa_linker.specs.declared.imports.Imports.{Imports}
use Rattle.pa_linker.specs.Imports.{first_uses, is_runtime, ref_at}
use Rattle.pa_linker.specs.Tables.{IsIndexed}
use Rattle.pa_linker.proofs.Uses.{uses_behind}
use Rattle.pa_linker.proofs.imports.Imports.note_refs.Goals.{in-Some+in_ok-note, in_default}
use Rattle.pa_linker.proofs.imports.Imports.note_refs.Goals as goal

pub loop-word-preserved : goal.loop-word-preserved
loop-word-preserved c =
    let refs = c.args.object.now.refs in
    let code = c.args.object.now.code in
    let word = c.loop-word.word in
    let seen = c.loop-word.self.names in
    let more = c.match-ref_at.self.names in
    let inside : word < length code = omega (arith, c.in_ok-table.ensures.0, c.len-word-end.ensures, c.len.ensures) in
    let there = ap (λ (rs : List Ref). ref_at rs word) (sym c.as_slice-refs.ensures) ∙ sym c.ref_at.ensures in
    elim c.match-ref_at.branch [
      | in-Some+in_ok-note w ↦ record {
        indexed = subst (λ (s : Imports). IsIndexed s) (sym w.self-is) w.in_ok-note.ensures.indexed;
        names =
            uses_behind (Some w.in-Some.reference.now) seen more refs code word inside (there ∙ ap option_copied w.in-Some.is)
            (ap (λ (s : Imports). s.names) w.self-is ∙ w.in_ok-note.ensures.names ∙ ap (λ (n : Text). first_uses seen (filter is_runtime (n ∷ []))) w.as_slice-in-Some.ensures)
            ∙ c.loop-word.invariant.names;
      }
      | in_default w ↦ record {
        indexed = subst (λ (s : Imports). IsIndexed s) (sym w.self-is) c.loop-word.invariant.indexed;
        names =
            uses_behind None seen more refs code word inside (there ∙ ap option_copied w.in_default.is) (ap (λ (s : Imports). s.names) w.self-is)
            ∙ c.loop-word.invariant.names;
      }
    ]
