use Rattle.std.proofs.Common.{true, false, sym, ◌∙◌, ap}
use Rattle.pa_ctype.specs.Nodes.{at}
use Rattle.pa_store.specs.Objects.{kept_cell}
use Rattle.std.specs.Option.{option_map}
use Rattle.pa_store.proofs.Going.{fits_at}
use Rattle.pa_store.proofs.Keeping.{has_layout_at, dead_cell, behind_cell, none_found, some_found}
use Rattle.pa_store.proofs.objects.Object.cell.Goals as goal

pub returns-then-not-self : goal.returns-then-not-self
returns-then-not-self c names = sym (dead_cell names c.args.types.now c.args.self.now c.requires.well c.args.place (at c.args.types.now.nodes c.args.of) c.if-not-self.true)

pub returns-then-place-self : goal.returns-then-place-self
returns-then-place-self c names = sym (behind_cell names c.args.types.now c.args.self.now c.requires.well c.args.place (at c.args.types.now.nodes c.args.of) c.if-place-self.true)

pub find_cell-requires-clause-complete : goal.find_cell-requires-clause-complete
find_cell-requires-clause-complete c names = has_layout_at names c.args.types.now c.args.self.now c.requires.well

pub returns-in_err-cell : goal.returns-in_err-cell
returns-in_err-cell c names =
    ap (option_map (kept_cell names c.args.types.now c.args.self.now c.args.place)) c.from_residual.ensures
    ∙ sym (none_found names c.args.types.now c.args.self.now c.requires.well c.args.place (at c.args.types.now.nodes c.args.of) c.find_cell.result c.if-not-self.false c.if-place-self.false (c.find_cell.ensures.is names) c.in_err-cell.was)

pub returns-then-is_same_but_const : goal.returns-then-is_same_but_const
returns-then-is_same_but_const c names =
    let t = c.args.types.now in
    sym (some_found names t c.args.self.now c.requires.well c.args.place (at t.nodes c.args.of) c.find_cell.result c.in_ok-cell.cell true c.if-not-self.false c.if-place-self.false (c.find_cell.ensures.is names) c.in_ok-cell.was
    (sym (c.is_same_but_const.ensures (at t.nodes) (fits_at t.nodes)) ∙ c.if-is_same_but_const.true))

pub returns-else-is_same_but_const : goal.returns-else-is_same_but_const
returns-else-is_same_but_const c names =
    let t = c.args.types.now in
    sym (some_found names t c.args.self.now c.requires.well c.args.place (at t.nodes c.args.of) c.find_cell.result c.in_ok-cell.cell false c.if-not-self.false c.if-place-self.false (c.find_cell.ensures.is names) c.in_ok-cell.was
    (sym (c.is_same_but_const.ensures (at t.nodes) (fits_at t.nodes)) ∙ c.if-is_same_but_const.false))
