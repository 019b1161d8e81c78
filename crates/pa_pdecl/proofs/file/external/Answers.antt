use Rattle.std.proofs.Common.{◌≡◌, false}
use Rattle.pa_lex.specs.declared.token.Punct.TheVariants as p
use Rattle.pa_tree.specs.Cursors.{head}
use Rattle.pa_grammar.specs.Parser.{sees}
use Rattle.pa_file_grammar.proofs.Turns.{external_behind}
use Rattle.pa_pdecl.proofs.file.external.Goals as goal

pub returns-clause-value : goal.returns-clause-value
returns-clause-value c =
    let a = c.sees.ensures in
    let b = c.if-sees.false in
    let none : sees p.Semicolon (head (c.read_specs.new.r).ahead) ≡ false = cc in
    rw (external_behind c.args.names.now c.args.depth _ _ _ _ c.args.r.now c.stored-storage.new.r c.read_specs.new.r c.read_declarator.new.r c.stored-storage.ensures c.in_ok-specs.ensures.value none c.in_ok-declarator.ensures.value, ← c.begin-from.ensures, ← c.begin-begin.ensures)
    c.declared.ensures.value
