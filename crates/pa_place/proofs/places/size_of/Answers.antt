use Rattle.std.proofs.Common.{List, Option, Ok, sym, ap, ◌∙◌}
use Rattle.pa_ctype.specs.declared.ctype.Held.{Held}
use Rattle.pa_ctype.specs.Layouts.{table_of}
use Rattle.pa_rexpr.specs.Places.{sized, size_of}
use Rattle.pa_place.proofs.places.size_of.Goals as goal

pub returns-in_ok-byte_count-in-Some-clause-is : goal.returns-in_ok-byte_count-in-Some-clause-is
returns-in_ok-byte_count-in-Some-clause-is c names m fits =
    let old = c.in_ok-byte_count-in-Some.ensures.grows.fits m fits in
    ap (λ (s : List (Option (List Held))). size_of (table_of names m s) c.args.place (m c.args.of))
    c.in_ok-byte_count-in-Some.ensures.grows.structs
    ∙ ap (sized c.args.place) (sym (c.in-Some.ensures.value names m old))
    ∙ ap Ok (sym (c.in_ok-byte_count-in-Some.ensures.is names m fits))

pub returns-in-None-clause-is : goal.returns-in-None-clause-is
returns-in-None-clause-is c names m fits =
    rw c.refused.ensures (ap (sized c.args.place) (sym (c.in-None.ensures.value names m fits)))
