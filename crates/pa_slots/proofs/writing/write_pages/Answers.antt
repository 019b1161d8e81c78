use Rattle.std.proofs.Common.{sym, ap, subst, ◌∙◌, ℕ, List, length, take, drop, arith}
use Rattle.pa_fixups.specs.declared.kind.Fix.{Fix}
use Rattle.pa_fixups.specs.Chain.{AreWritable, with_slots}
use Rattle.pa_slots.specs.Pages.{page_size}
use Rattle.pa_slots.specs.Writing.{start_of}
use Rattle.pa_slots.proofs.Held.{writable_now, write_on, front_length}
use Rattle.pa_slots.proofs.writing.write_pages.Goals as goal

pub start_of-requires : goal.start_of-requires
start_of-requires c =
    subst (AreWritable page_size) (sym c.as_slice.ensures)
    (writable_now c.args.pages c.args.fixes.now c.args.plain.now c.loop-page.page c.loop-page.rest.now c.loop-page.left.now c.loop-page.bytes.items c.loop-page.starts c.split_at.result.0.now c.in_ok-slots.slots c.loop-page.invariant c.loop-page-test.true
    (c.split_at.ensures.front ∙ ap (λ (n : ℕ). take n c.loop-page.rest.now) c.count_before.ensures.value) c.in_ok-slots.ensures)

pub append_page-requires-clause-fits : goal.append_page-requires-clause-fits
append_page-requires-clause-fits c =
    let len = ap length c.split_at-in-loop-page.ensures.front ∙ front_length c.args.pages c.loop-page.page c.loop-page.left.now c.loop-page.invariant.size c.loop-page-test.true in
    let w =
    writable_now c.args.pages c.args.fixes.now c.args.plain.now c.loop-page.page c.loop-page.rest.now c.loop-page.left.now c.loop-page.bytes.items c.loop-page.starts c.split_at.result.0.now c.in_ok-slots.slots c.loop-page.invariant c.loop-page-test.true
    (c.split_at.ensures.front ∙ ap (λ (n : ℕ). take n c.loop-page.rest.now) c.count_before.ensures.value) c.in_ok-slots.ensures in
    subst (λ (n : ℕ). AreWritable n c.as_slice-in-loop-page.result.now) (sym len) (subst (AreWritable page_size) (sym c.as_slice-in-loop-page.ensures) w)

pub loop-page-preserved : goal.loop-page-preserved
loop-page-preserved c =
    write_on c.args.pages c.args.fixes.now c.args.plain.now c.loop-page.page c.loop-page.rest.now c.loop-page.left.now c.loop-page.bytes.items c.loop-page.starts c.split_at.result.0.now c.split_at.result.1.now c.in_ok-slots.slots c.split_at-in-loop-page.result.0.now c.split_at-in-loop-page.result.1.now c.append_page.new.out.items c.push.new.self
    c.loop-page.invariant c.loop-page-test.true
    (c.split_at.ensures.front ∙ ap (λ (n : ℕ). take n c.loop-page.rest.now) c.count_before.ensures.value) (c.split_at.ensures.back ∙ ap (λ (n : ℕ). drop n c.loop-page.rest.now) c.count_before.ensures.value) c.in_ok-slots.ensures c.split_at-in-loop-page.ensures.front c.split_at-in-loop-page.ensures.back
    (rw c.as_slice-in-loop-page.ensures at c.in_ok-append_page.ensures) (rw (c.start_of.ensures, c.as_slice.ensures) at c.in_ok-push.ensures.ok)
