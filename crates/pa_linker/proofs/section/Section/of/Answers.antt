use Rattle.std.proofs.Common.{◌≡◌, ◌∙◌, List, ◌∷◌, ◌++◌, filter, sym, ap, subst}
use Rattle.pa_object.specs.declared.object.Object.{Object}
use Rattle.pa_object.specs.declared.object.Global.{Global}
use Rattle.pa_object.specs.Linkable.{globals_of}
use Rattle.pa_linker.specs.Layout.{is_of, laid_from, laid_end}
use Rattle.pa_linker.specs.Tables.{all_shown, HaveRoom}
use Rattle.pa_linker.proofs.Laying.{room_front, room_behind, laid_more, end_more}
use Rattle.pa_linker.proofs.section.Section.of.Goals as goal

pub lay-requires : goal.lay-requires
lay-requires c =
    let end = c.loop-object.section.end in
    let object = c.in-Some.object.now in
    let behind = c.in-Some.behind.now in
    let room = subst (λ (os : List Object). HaveRoom end (globals_of os)) c.in-Some.ensures.cases.0 c.loop-object.invariant.room in
    subst (λ (gs : List Global). HaveRoom end gs) (sym c.as_slice.ensures) (room_front end object.globals (globals_of behind) room)

pub loop-object-preserved : goal.loop-object-preserved
loop-object-preserved c =
    let constant = c.args.constant in
    let end = c.loop-object.section.end in
    let before = all_shown c.loop-object.section.globals in
    let new = c.lay.new.self in
    let behind = c.in-Some.behind.now in
    let globals = c.as_slice.result.now in
    let split : c.loop-object.rest.now ≡ c.in-Some.object.now ∷ behind = c.in-Some.ensures.cases.0 in
    let whole : globals_of c.loop-object.rest.now ≡ globals ++ globals_of behind =
    ap (λ (os : List Object). globals_of os) split ∙ ap (λ (gs : List Global). gs ++ globals_of behind) (sym c.as_slice.ensures)
    in
    let room = subst (λ (gs : List Global). HaveRoom end gs) whole c.loop-object.invariant.room in
    record {
      room = room_behind end new.end globals (globals_of behind) room c.in_ok-lay.ensures.room;
      globals =
          laid_more constant end new.end before (all_shown new.globals) globals (globals_of behind) c.in_ok-lay.ensures.globals c.in_ok-lay.ensures.end
          ∙ ap (λ (gs : List Global). before ++ laid_from end (filter (is_of constant) gs)) (sym whole) ∙ c.loop-object.invariant.globals;
      end =
          end_more constant end new.end globals (globals_of behind) c.in_ok-lay.ensures.end
          ∙ ap (λ (gs : List Global). laid_end end (filter (is_of constant) gs)) (sym whole) ∙ c.loop-object.invariant.end;
    }
