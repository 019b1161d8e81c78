use Rattle.std.proofs.Common.{◌≡◌, ◌++◌, drop, flat_map}
use Rattle.pa_io.proofs.Growth.{Written}
use Rattle.pa_engine.specs.Report.{shown_text}
use Rattle.pa_engine.proofs.reports.write_lines.Given as goal

-- of the page at first and the lines, this page and the lines of the entries to come are left
abbrev pub invariant-loop-entry : goal.invariant-loop-entry
invariant-loop-entry g l =
    Written (g.K.Sink.written l.initial.out) (g.K.Sink.written l.out)
    (l.initial.page ++ flat_map (shown_text l.short) l.entries) (l.page ++ flat_map (shown_text l.short) (drop l.entry-index l.entries))
    × (g.K.Sink.faults l.out ≡ g.K.Sink.faults l.initial.out)
