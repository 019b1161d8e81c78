use Rattle.std.proofs.Common.{◌≡◌, true, false, arith}
use Rattle.pa_lex.specs.declared.token.Punct.TheVariants as p
use Rattle.pa_tree.specs.Cursors.{head}
use Rattle.pa_grammar.specs.Parser.{sees}
use Rattle.pa_file_grammar.proofs.Turns.{initializer_value, initializer_braced}
use Rattle.pa_pdecl.proofs.initializer.+initializer.Goals as goal

pub returns-then-not-sees : goal.returns-then-not-sees
returns-then-not-sees t c =
    let a = c.sees.ensures in
    let b = c.if-not-sees.true in
    let none : sees p.LeftBrace (head (c.args.r.now).ahead) ≡ false = cc in
    rw (initializer_value c.args.names.now c.args.depth c.args.r.now none) c.value.ensures

pub returns : goal.returns
returns t c =
    let a = c.sees.ensures in
    let b = c.if-not-sees.false in
    let brace : sees p.LeftBrace (head (c.args.r.now).ahead) ≡ true = cc in
    rw (initializer_braced c.args.names.now c.args.depth c.args.r.now brace (omega arith), ← c.begin-from.ensures) c.braced.ensures
