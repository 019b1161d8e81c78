use Rattle.std.proofs.Common.{◌≡◌, ◌-◌, get_or, ap, subst, sym, ◌∙◌}
use Rattle.std.proofs.lemmas.List.{get_or_default}
use Rattle.pa_mem.specs.Place.{IsPlace}
use Rattle.pa_mem.proofs.Apart.{at-read}
use Rattle.pa_mem.proofs.Found.{offered-inside, offers-low, offers-place}
use Rattle.pa_mem.proofs.space.Space.find.Goals as goal

pub overflow_sub-start : goal.overflow_sub-start
overflow_sub-start c =
    let f = c.in-Some.ensures.some in
    let region = c.index-found.result.now in
    let p = at-read c.self.inside.regions.items c.args.self.now c.in-Some.region region c.self.view_is c.index-found.ensures f.within in
    let base : c.found.inside.base ≡ region.base = ap (λ r. r.base) c.found.view_is in
    rw base (offers-low c.args.rights c.args.at c.args.count region (rw p.found at (f.offers region)))

pub returns-clause-inside : goal.returns-clause-inside
returns-clause-inside c = offered-inside c.args.rights c.args.at c.args.count c.args.self.now c.in-Some.region c.in-Some.ensures.some

pub returns-clause-place : goal.returns-clause-place
returns-clause-place c d =
    let f = c.in-Some.ensures.some in
    let region = c.index-found.result.now in
    let p = at-read c.self.inside.regions.items c.args.self.now c.in-Some.region region c.self.view_is c.index-found.ensures f.within in
    let other = get_or c.args.self.now c.in-Some.region d in
    let base : other.base ≡ c.found.inside.base = ap (λ r. r.base) (get_or_default c.args.self.now c.in-Some.region d region f.within ∙ p.found ∙ sym c.found.view_is) in
    subst (λ b. IsPlace c.args.at c.args.count (c.args.at - b) other) base (offers-place c.args.rights c.args.at c.args.count other (f.offers d))
