use Rattle.std.proofs.Common.{sym, ◌∙◌, ap, slice_get}
use Rattle.pa_lex.proofs.Lookup.{known}
use Rattle.pa_lex.proofs.names.Names.table_number.Goals as goal

pub returns-in-Some-clause-number : goal.returns-in-Some-clause-number
returns-in-Some-clause-number c =
    ap (λ names. slice_get names c.in-Some.number.now) (sym c.self.view_is) ∙ c.self.invariant.number c.args.text c.in-Some.number.now (sym c.in-Some.ensures.value)

pub returns-in-Some-clause-ok : goal.returns-in-Some-clause-ok
returns-in-Some-clause-ok c =
    known c.args.self.now c.in-Some.number.now c.args.text.now
    (ap (λ names. slice_get names c.in-Some.number.now) (sym c.self.view_is) ∙ c.self.invariant.number c.args.text c.in-Some.number.now (sym c.in-Some.ensures.value))
