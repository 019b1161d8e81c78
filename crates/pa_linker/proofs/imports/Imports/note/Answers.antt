use Rattle.std.proofs.Common.{◌≡◌, ℕ, ◌+◌, ◌++◌, ◌∷◌, [], List, length, None, Some, cond, sym, ap, ◌∙◌, arith}
use Rattle.std.specs.Option.{option_or}
use Rattle.std.specs.Str.{bytes_eq}
use Rattle.std.proofs.lemmas.Map.Text.{hash_map_updates_str}
use Rattle.pa_names.proofs.Kept.{noted_new, none_of}
use Rattle.pa_linker.specs.Tables.{kept_import, index_in}
use Rattle.pa_linker.proofs.Uses.{use_none, use_known, use_new, index_none, is_known, index_push}
use Rattle.pa_linker.proofs.imports.Imports.note.Goals.{then-not-is_runtime-via-then-not-is_runtime, then-not-is_runtime-via-else-not-is_runtime+then-is_some}
use Rattle.pa_linker.proofs.imports.Imports.note.Goals as goal

pub returns-then-not-is_runtime-clause-names : goal.returns-then-not-is_runtime-clause-names
returns-then-not-is_runtime-clause-names c = elim c.then-not-is_runtime.branch [
  | then-not-is_runtime-via-then-not-is_runtime w ↦
      sym (use_none c.args.self.now.names c.args.name.now (sym c.is_runtime.ensures ∙ w.if-not-is_runtime.true))
  | then-not-is_runtime-via-else-not-is_runtime+then-is_some w ↦
      sym (use_known c.args.self.now.names c.args.name.now
      (is_known c.args.self.now.names c.args.name.now w.find.result (w.find.ensures ∙ c.requires c.args.name.now) (sym w.is_some.ensures ∙ w.if-is_some.true)))
]

pub returns-in-Ok-clause-names : goal.returns-in-Ok-clause-names
returns-in-Ok-clause-names c =
    let names = c.args.self.now.names in
    let own = c.args.name.now in
    let none : index_in 0 names own ≡ None = sym (c.requires own) ∙ sym c.find.ensures ∙ none_of c.find.result (sym c.is_some.ensures ∙ c.if-is_some.false) in
    c.in_ok-push.ensures.ok ∙ ap (λ (n : List ℕ). names ++ n ∷ []) c.in_ok-from_slice.ensures
    ∙ sym (use_new names own (sym c.is_runtime.ensures ∙ c.if-not-is_runtime.false) (index_none 0 names own none))

pub returns-in-Ok-clause-indexed : goal.returns-in-Ok-clause-indexed
returns-in-Ok-clause-indexed c = λ name.
    let names = c.args.self.now.names in
    let own = c.args.name.now in
    let none : kept_import c.args.self.now own ≡ None = sym c.find.ensures ∙ none_of c.find.result (sym c.is_some.ensures ∙ c.if-is_some.false) in
    let last : c.len-index.result ≡ 0 + length names = omega arith in
    let pushed : c.push.new.self ≡ names ++ own ∷ [] = c.in_ok-push.ensures.ok ∙ ap (λ (n : List ℕ). names ++ n ∷ []) c.in_ok-from_slice.ensures in
    noted_new (kept_import c.args.self.now) own name c.len-index.result _ none
    (hash_map_updates_str own c.args.self.now.indexes c.insert.new.self (Some c.len-index.result) c.in-Ok.ensures.updates name)
    ∙ ap (λ o. option_or o (cond (bytes_eq name own) (Some c.len-index.result) None)) (c.requires name)
    ∙ ap (λ (i : ℕ). option_or (index_in 0 names name) (cond (bytes_eq name own) (Some i) None)) last
    ∙ sym (index_push 0 names own name) ∙ ap (λ (ns : List (List ℕ)). index_in 0 ns name) (sym pushed)
