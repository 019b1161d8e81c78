use Rattle.std.proofs.Common.{◌+◌, ◌∷◌, ◌∙◌, ap, sym, map, arith}
use Rattle.pa_asmline.specs.Reading.{line}
use Rattle.pa_asmline.specs.Shapes.{shown}
use Rattle.pa_asm.specs.Labels.{find_from}
use Rattle.std.specs.Option.{option_or}
use Rattle.pa_asm.specs.Reading.{kept, pieces_behind}
use Rattle.pa_asm.proofs.Going.{found_more, found_all, lines_ahead, none_ahead, left}
use Rattle.pa_asm.proofs.labels.Labels.of.Goals as goal

pub overflow_add-at : goal.overflow_add-at
overflow_add-at c =
    let left = left c.lines.rest c.in-Some.ahead c.cut_line.result.0.now c.cut_line.result.1 (shown c.read_line-line.result) c.words-at.result c.in-Some.is c.cut_line.ensures.len c.read_line-line.ensures.value c.words-at.ensures in
    omega (arith, left.0, c.lines.invariant.words_fit)

pub lines-preserved : goal.lines-preserved
lines-preserved c =
    let left = left c.lines.rest c.in-Some.ahead c.cut_line.result.0.now c.cut_line.result.1 (shown c.read_line-line.result) c.words-at.result c.in-Some.is c.cut_line.ensures.len c.read_line-line.ensures.value c.words-at.ensures in
    let behind = map line (pieces_behind c.cut_line.result.1) in
    record {
      found = λ name.
          ap (λ at. option_or (kept c.note_line.new.self name) (find_from name (c.lines.number + 1) (c.lines.at + at) behind)) c.words-at.ensures
          ∙ found_more (kept c.lines.labels) (kept c.note_line.new.self) c.lines.number c.lines.at (shown c.read_line-line.result) behind c.in_ok-note_line.ensures name
          ∙ ap (λ lines. option_or (kept c.lines.labels name) (find_from name c.lines.number c.lines.at lines)) (ap (λ l. l ∷ behind) c.read_line-line.ensures.value ∙ sym (lines_ahead c.lines.rest c.in-Some.ahead c.cut_line.result.0.now c.cut_line.result.1 c.in-Some.is c.cut_line.ensures.pieces))
          ∙ c.lines.invariant.found name;
      words_fit = omega (arith, left.0, c.lines.invariant.words_fit);
      lines_fit = omega (arith, left.1, c.lines.invariant.lines_fit);
    }

pub returns : goal.returns
returns c = λ name. sym (found_all (kept c.lines.labels name) name c.lines.number c.lines.at _ (none_ahead c.lines.rest c.in_default.is)) ∙ c.lines.invariant.found name
