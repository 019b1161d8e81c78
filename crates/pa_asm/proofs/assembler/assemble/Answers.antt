use Rattle.std.proofs.Common.{◌≡◌, ◌+◌, ◌∷◌, ◌∙◌, ap, sym, subst, refl, length, map, arith, length-append}
use Rattle.pa_asmline.specs.Reading.{line}
use Rattle.pa_asmline.specs.Shapes.{shown}
use Rattle.pa_asm.specs.Labels.{words}
use Rattle.pa_asm.specs.Parts.{AllGive, FirstBreaks}
use Rattle.pa_asm.specs.Reading.{kept, parts_so_far, pieces_behind}
use Rattle.pa_asm.specs.Written.{read}
use Rattle.pa_asm.proofs.Going.{left, lines_ahead, none_ahead, gives_words, gives_more, breaks_more, gives_all, refused, given}
use Rattle.std.proofs.lemmas.Result.{err_from_is_err_and}
use Rattle.pa_asm.proofs.Once.{settled}
use Rattle.pa_asm.proofs.assembler.assemble.Goals as goal

pub returns-in_err-labels-clause-settled : goal.returns-in_err-labels-clause-settled
returns-in_err-labels-clause-settled c = settled c.args.text.now

pub returns-in_err-add-clause-settled : goal.returns-in_err-add-clause-settled
returns-in_err-add-clause-settled c = settled c.args.text.now

pub returns-clause-settled : goal.returns-clause-settled
returns-clause-settled c = settled c.args.text.now

pub returns-in_err-add-clause-answer : goal.returns-in_err-add-clause-answer
returns-in_err-add-clause-answer c =
    let p = err_from_is_err_and c.from_residual-in_err-add.result c.from_residual-in_err-add.ensures.1 in
    let ahead = lines_ahead c.lines.rest c.in-Some.ahead c.cut_line.result.0.now c.cut_line.result.1 c.in-Some.is c.cut_line.ensures.pieces ∙ ap (λ l. l ∷ map line (pieces_behind c.cut_line.result.1)) (sym c.read_line.ensures.value) in
    rw (p.1, p.2)
    (refused c.in_ok-labels.labels c.args.text.now c.as_bytes-bytes.result.now (shown c.read_line.result) (map line (pieces_behind c.cut_line.result.1)) c.lines.assembly c.add.new.self c.in_err-add.field-0.0 c.in_err-add.ensures.added c.as_bytes-bytes.ensures.value c.in_ok-labels.ensures
    (λ rule place b. c.lines.invariant.breaks rule place (subst (λ lines. FirstBreaks (kept c.in_ok-labels.labels) c.lines.assembly.number (length c.lines.assembly.code) lines rule place) (sym ahead) b)))

pub lines-preserved : goal.lines-preserved
lines-preserved c =
    let labels = kept c.in_ok-labels.labels in
    let number = c.lines.assembly.number in
    let at = length c.lines.assembly.code in
    let said = shown c.read_line.result in
    let behind = map line (pieces_behind c.cut_line.result.1) in
    let ahead = lines_ahead c.lines.rest c.in-Some.ahead c.cut_line.result.0.now c.cut_line.result.1 c.in-Some.is c.cut_line.ensures.pieces ∙ ap (λ l. l ∷ behind) (sym c.read_line.ensures.value) in
    let added = c.in_ok-add.ensures.added in
    let next : c.add.new.self.number ≡ number + 1 = c.in_ok-add.ensures.number in
    let own = gives_words labels number at said added.0 added.1 in
    let grown : length c.add.new.self.code ≡ at + words said = ap (λ p. length p.code) added.2 ∙ length-append c.lines.assembly.code added.0.code ∙ ap (λ n. at + n) own in
    let left = left c.lines.rest c.in-Some.ahead c.cut_line.result.0.now c.cut_line.result.1 said (words said) c.in-Some.is c.cut_line.ensures.len c.read_line.ensures.value refl in
    record {
      gives = gives_more labels number at said behind (read c.args.text.now) (parts_so_far c.lines.assembly) added.0 (parts_so_far c.add.new.self) c.add.new.self.number (length c.add.new.self.code) added.1 added.2 next grown
          (λ more g. c.lines.invariant.gives more (subst (λ lines. AllGive labels number at lines more) (sym ahead) g));
      breaks = breaks_more labels number at said behind (read c.args.text.now) added.0 c.add.new.self.number (length c.add.new.self.code) added.1 next grown
          (λ rule place b. c.lines.invariant.breaks rule place (subst (λ lines. FirstBreaks labels number at lines rule place) (sym ahead) b));
      words_fit = omega (arith, left.0, grown, c.lines.invariant.words_fit);
      lines_fit = omega (arith, left.1, next, c.lines.invariant.lines_fit);
    }

pub returns-clause-answer : goal.returns-clause-answer
returns-clause-answer c =
    given c.in_ok-labels.labels c.args.text.now c.as_bytes-bytes.result.now c.into_object.result (parts_so_far c.lines.assembly) c.into_object.ensures.parts c.into_object.ensures.globals c.as_bytes-bytes.ensures.value c.in_ok-labels.ensures
    (gives_all (kept c.in_ok-labels.labels) c.lines.assembly.number (length c.lines.assembly.code) (map line (pieces_behind c.lines.rest)) (read c.args.text.now) (parts_so_far c.lines.assembly) (none_ahead c.lines.rest c.in_default.is) c.lines.invariant.gives)
