use Rattle.pa_slots.proofs.Held.{Writing}
use Rattle.pa_slots.proofs.writing.write_pages.Given as goal

abbrev pub invariant-loop-page : goal.invariant-loop-page
invariant-loop-page l = Writing l.pages l.fixes l.plain l.page l.rest l.left l.bytes.items l.starts
