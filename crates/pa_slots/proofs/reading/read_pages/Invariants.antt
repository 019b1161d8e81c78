use Rattle.std.proofs.Common.{◌≡◌, ◌+◌, ◌*◌, ◌++◌, length, drop}
use Rattle.pa_slots.specs.Pages.{page_size, pages_flaw, slots_in, plain_in}
use Rattle.pa_slots.proofs.reading.read_pages.Given as goal

abbrev pub invariant-loop-start : goal.invariant-loop-start
invariant-loop-start l = record {
  page : l.page ≡ l.start-index;
  left : length l.rest ≡ page_size * length (drop l.start-index l.starts);
  read : length l.plain.items + length l.rest ≡ length l.bytes;
  fixes : l.fixes ++ slots_in l.at l.page (drop l.start-index l.starts) l.rest ≡ slots_in l.at 0 l.starts l.bytes;
  plain : l.plain.items ++ plain_in l.at l.page (drop l.start-index l.starts) l.rest ≡ plain_in l.at 0 l.starts l.bytes;
  flaw : pages_flaw l.at l.page (drop l.start-index l.starts) l.rest ≡ pages_flaw l.at 0 l.starts l.bytes;
}
