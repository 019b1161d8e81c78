use Rattle.std.proofs.Common.{◌+◌, ◌∙◌, take, drop, sym, subst, arith}
use Rattle.std.specs.List.{IsDistinct}
use Rattle.std.specs.Str.{bytes_eq}
use Rattle.pa_symbols.specs.Legal.{Covers}
use Rattle.pa_symbols.specs.Symbols.{public_names}
use Rattle.pa_symbols.proofs.Distinct.{none_covered, no_names, take_on, marks_apart, distinct_on, not_distinct, not_true}
use Rattle.pa_symbols.proofs.legal.are_distinct_by.Goals as goal

pub loop-k-init : goal.loop-k-init
loop-k-init c = record { covers = none_covered c.args.key c.args.table.now; distinct = no_names }

pub returns-then-is_told_twice : goal.returns-then-is_told_twice
returns-then-is_told_twice c =
    let marks = c.args.marks.now in
    let k = c.loop-k.k in
    let mark = c.index-marks-k.result in
    let apart = marks_apart marks k mark (omega arith) c.index-marks-k.is in
    let twice = sym c.is_told_twice.ensures.twice ∙ c.if-is_told_twice.true in
    not_true (IsDistinct bytes_eq (public_names marks)) (λ d. not_distinct (take k marks) mark (drop (k + 1) marks) twice (subst (λ l. IsDistinct bytes_eq (public_names l)) apart d))

pub loop-k-preserved : goal.loop-k-preserved
loop-k-preserved c =
    let marks = c.args.marks.now in
    let k = c.loop-k.k in
    let mark = c.index-marks-k.result in
    let taken = take_on marks k mark (omega arith) c.index-marks-k.is in
    let once = sym c.is_told_twice.ensures.twice ∙ c.if-is_told_twice.false in
    record {
      covers = subst (Covers c.args.key c.is_told_twice.new.table) taken c.is_told_twice.ensures.covers;
      distinct = subst (λ l. IsDistinct bytes_eq (public_names l)) taken (distinct_on (take k marks) mark c.loop-k.invariant.distinct once);
    }
