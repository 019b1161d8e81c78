use Rattle.std.proofs.Common.{rules, refl}
use Rattle.std.proofs.lemmas.Result.{on_err_weaker, on_ok_weaker}
use Rattle.pa_engine.proofs.PieceLemmas.{cut_in_first, cut_in_second, both_written}
use Rattle.pa_engine.proofs.ReportLemmas.{report_text-pages, report_text-head}
use Rattle.pa_engine.proofs.reports.write_report.Goals as goal

pub returns-in_err-flush-clause-prefix : goal.returns-in_err-flush-clause-prefix
returns-in_err-flush-clause-prefix g c =
    let e = report_text-head c.args.output.now c.args.end c.args.entries.now c.args.short _ _ c.new-page.ensures c.push_output_line.ensures in
    search (rules, cut_in_first _ _ _ _ _ e c.in_err-flush.ensures.prefix)

pub returns-in_err-write_all-clause-prefix : goal.returns-in_err-write_all-clause-prefix
returns-in_err-write_all-clause-prefix g c =
    let e = report_text-head c.args.output.now c.args.end c.args.entries.now c.args.short _ _ c.new-page.ensures c.push_output_line.ensures in
    search (rules, cut_in_second _ _ _ _ _ _ e c.in_ok-flush.ensures.all (cut_in_first _ _ _ _ _ refl c.in_err-write_all.ensures.prefix))

pub returns-clause-all : goal.returns-clause-all
returns-clause-all g c =
    let e = report_text-pages c.args.output.now c.args.end c.args.entries.now c.args.short _ _ _ _ _ _
    c.new-page.ensures c.push_output_line.ensures c.in_ok-flush.ensures.empty c.push.ensures c.push_end_line.ensures.text c.push_counts_line.ensures in
    on_ok_weaker c.write_lines.result
    (λ p. both_written _ _ _ _ _ _ e c.in_ok-flush.ensures.all (both_written _ _ _ _ _ _ refl c.in_ok-write_all.ensures.all p))
    c.write_lines.ensures.all

pub returns-clause-prefix : goal.returns-clause-prefix
returns-clause-prefix g c =
    let e = report_text-pages c.args.output.now c.args.end c.args.entries.now c.args.short _ _ _ _ _ _
    c.new-page.ensures c.push_output_line.ensures c.in_ok-flush.ensures.empty c.push.ensures c.push_end_line.ensures.text c.push_counts_line.ensures in
    on_err_weaker c.write_lines.result
    (λ p. cut_in_second _ _ _ _ _ _ e c.in_ok-flush.ensures.all (cut_in_second _ _ _ _ _ _ refl c.in_ok-write_all.ensures.all p))
    c.write_lines.ensures.prefix
