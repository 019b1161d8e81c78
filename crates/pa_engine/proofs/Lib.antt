mod ImageRuns
mod PieceLemmas
mod ReportLemmas
