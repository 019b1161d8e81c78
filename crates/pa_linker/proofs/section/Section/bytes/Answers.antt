use Rattle.std.proofs.Common.{◌≡◌, ◌∙◌, ◌-◌, ◌++◌, ◌+◌, ℕ, List, ◌∷◌, length, drop, replicate, sym, ap, subst, arith}
use Rattle.std.specs.List.{AllByRecursion}
use Rattle.pa_linker.specs.declared.section.LaidGlobal.{LaidGlobal}
use Rattle.pa_linker.specs.Layout.{Laid}
use Rattle.pa_linker.specs.Linked.{bytes_from}
use Rattle.pa_linker.specs.Tables.{shown, all_shown, CanFill, Follow}
use Rattle.pa_linker.proofs.Clearing.{appended, shown_next}
use Rattle.pa_linker.proofs.section.Section.bytes.Goals as goal

pub loop-laid-preserved : goal.loop-laid-preserved
loop-laid-preserved c =
    let globals = c.args.self.now.globals in
    let i = c.loop-laid.laid-index in
    let out = c.loop-laid.out.items in
    let laid = shown c.laid-item.result in
    let behind = all_shown (drop (i + 1) globals) in
    let items = c.as_slice-laid-items.result.now in
    let same : items ≡ globals = c.as_slice-laid-items.ensures in
    let next : all_shown (drop i globals) ≡ laid ∷ behind =
    ap (λ (ls : List LaidGlobal). all_shown (drop i ls)) (sym same) ∙ shown_next items i c.laid-item.result (omega arith) c.laid-item.is
    ∙ ap (λ (ls : List LaidGlobal). laid ∷ all_shown (drop (i + 1) ls)) same
    in
    let follow = subst (λ (ls : List Laid). Follow (length out) ls) next c.loop-laid.invariant.follow in
    let fill = subst (λ (ls : List Laid). AllByRecursion CanFill ls) next c.loop-laid.invariant.fill in
    let size : c.len.result ≡ length out = omega (arith, c.loop-laid.out.ok.0) in
    let zeros : c.put_zeros.new.out.items ≡ out ++ replicate (laid.at - length out) 0 =
    c.in_ok-put_zeros.ensures ∙ ap (λ (n : ℕ). out ++ replicate (laid.at - n) 0) size
    in
    let new = appended out c.put_zeros.new.out.items c.put_global.new.out.items laid follow.0 fill.0 zeros c.in_ok-put_global.ensures in
    record {
      follow = subst (λ (n : ℕ). Follow n behind) (sym new.size) follow.1;
      fill = fill.1;
      bytes =
          ap (λ (n : ℕ). c.put_global.new.out.items ++ bytes_from n behind) new.size ∙ new.bytes behind
          ∙ ap (λ (ls : List Laid). out ++ bytes_from (length out) ls) (sym next) ∙ c.loop-laid.invariant.bytes;
    }
