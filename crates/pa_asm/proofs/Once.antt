-- A text has one object, or breaks one rule first.
use Rattle.std.proofs.Common.{◌≡◌, inl, inr, ℕ, ◌+◌, List, [], ◌∷◌, map, refl, sym, ◌∙◌, ap, subst}
use Rattle.pa_object.specs.declared.object.Object.{Object}
use Rattle.pa_asmline.specs.Rows.{Text}
use Rattle.pa_asmline.specs.Lines.{Line, Blank, Label, Row, Unknown}
use Rattle.pa_asmline.specs.Reading.{line}
use Rattle.pa_asmline.proofs.Whole.{line_read}
use Rattle.pa_asm.specs.declared.rule.AsmRule.{AsmRule}
use Rattle.pa_asm.specs.Answers.{parts_of, IsSettled}
use Rattle.pa_asm.specs.Labels.{words, find}
use Rattle.pa_asm.specs.Settled.{Labels}
use Rattle.pa_asm.specs.Parts.{Parts, joined, Gives, Breaks, AllGive, FirstBreaks}
use Rattle.pa_asm.specs.Written.{pieces, AreLines, Says}

are_lines : (lines : List Line) (texts : List Text) → AreLines lines texts → lines ≡ map line texts
are_lines [] [] h = refl
are_lines [] (text ∷ texts) h = absurd h
are_lines (l ∷ lines) [] h = absurd h
are_lines (l ∷ lines) (text ∷ texts) h = ap (λ x. x ∷ lines) (sym (line_read l text h.0)) ∙ ap (λ xs. line text ∷ xs) (are_lines lines texts h.1)

says_one : (text : Text) (lines others : List Line) → Says text lines → Says text others → lines ≡ others
says_one text lines others h k = are_lines lines (pieces text) h ∙ sym (are_lines others (pieces text) k)

-- ---- a line

gives_one : (labels : Labels) (number at : ℕ) (l : Line) (own other : Parts) → Gives labels number at l own → Gives labels number at l other → own ≡ other
gives_one labels number at Blank own other g h = g ∙ sym h
gives_one labels number at (Label public name) own other g h = g.1 ∙ sym h.1
gives_one labels number at (Row form operands) own other g h = g.parts_are ∙ sym h.parts_are
gives_one labels number at Unknown own other g h = absurd g

breaks_one : (labels : Labels) (number at : ℕ) (l : Line) (rule other : AsmRule) → Breaks labels number at l rule → Breaks labels number at l other → rule ≡ other
breaks_one labels number at Blank rule other b d = absurd b
breaks_one labels number at (Label public name) rule other b d = b.1 ∙ sym d.1
breaks_one labels number at (Row form operands) rule other (inl b) (inl d) = let e = sym b ∙ d in cc
breaks_one labels number at (Row form operands) rule other (inl b) (inr d) = let e = sym b ∙ d.0 in cc
breaks_one labels number at (Row form operands) rule other (inr b) (inl d) = let e = sym d ∙ b.0 in cc
breaks_one labels number at (Row form operands) rule other (inr b) (inr d) = b.2 ∙ sym d.2
breaks_one labels number at Unknown rule other b d = b ∙ sym d

not_both : (labels : Labels) (number at : ℕ) (l : Line) (own : Parts) (rule : AsmRule) → Gives labels number at l own → Breaks labels number at l rule → ⊥
not_both labels number at Blank own rule g b = b
not_both labels number at (Label public name) own rule g b = b.0 g.0
not_both labels number at (Row form operands) own rule g (inl b) = let e = sym g.no_rule ∙ b in cc
not_both labels number at (Row form operands) own rule g (inr b) = b.1 g.in_range
not_both labels number at Unknown own rule g b = g

-- ---- lines

all_one : (labels : Labels) (number at : ℕ) (lines : List Line) (parts other : Parts) → AllGive labels number at lines parts → AllGive labels number at lines other → parts ≡ other
all_one labels number at [] parts other g h = g ∙ sym h
all_one labels number at (l ∷ lines) parts other g h =
    g.4 ∙ ap (λ own. joined own g.1) (gives_one labels number at l g.0 h.0 g.2 h.2)
    ∙ ap (joined h.0) (all_one labels (number + 1) (at + words l) lines g.1 h.1 g.3 h.3) ∙ sym h.4

first_one : (labels : Labels) (number at : ℕ) (lines : List Line) (rule other : AsmRule) (place there : ℕ) → FirstBreaks labels number at lines rule place → FirstBreaks labels number at lines other there → (rule ≡ other) × (place ≡ there)
first_one labels number at [] rule other place there b d = absurd b
first_one labels number at (l ∷ lines) rule other place there (inl b) (inl d) = (breaks_one labels number at l rule other b.0 d.0, b.1 ∙ sym d.1)
first_one labels number at (l ∷ lines) rule other place there (inl b) (inr d) = absurd (not_both labels number at l d.0 rule d.1 b.0)
first_one labels number at (l ∷ lines) rule other place there (inr b) (inl d) = absurd (not_both labels number at l b.0 other b.1 d.0)
first_one labels number at (l ∷ lines) rule other place there (inr b) (inr d) = first_one labels (number + 1) (at + words l) lines rule other place there b.2 d.2

all_not_first : (labels : Labels) (number at : ℕ) (lines : List Line) (parts : Parts) (rule : AsmRule) (place : ℕ) → AllGive labels number at lines parts → FirstBreaks labels number at lines rule place → ⊥
all_not_first labels number at [] parts rule place g b = b
all_not_first labels number at (l ∷ lines) parts rule place g (inl b) = not_both labels number at l g.0 rule g.2 b.0
all_not_first labels number at (l ∷ lines) parts rule place g (inr b) = all_not_first labels (number + 1) (at + words l) lines g.1 rule place g.3 b.2

-- ---- texts

same_object : (a b : Object) → parts_of a ≡ parts_of b → a.globals ≡ b.globals → a ≡ b
same_object a b e f = λ i. record { code = (e i).code; marks = (e i).marks; refs = (e i).refs; globals = f i }

pub settled : (text : Text) → IsSettled text
settled text = record {
  one = λ object other h k.
      same_object object other (all_one (find h.0) 1 0 h.0 (parts_of object) (parts_of other) h.2 (subst (λ lines. AllGive (find lines) 1 0 lines (parts_of other)) (sym (says_one text h.0 k.0 h.1 k.1)) k.2)) (h.3 ∙ sym k.3);
  one_rule = λ rule other number place h k.
      first_one (find h.0) 1 0 h.0 rule other number place h.2 (subst (λ lines. FirstBreaks (find lines) 1 0 lines other place) (sym (says_one text h.0 k.0 h.1 k.1)) k.2);
  not_both = λ object rule number h k.
      all_not_first (find h.0) 1 0 h.0 (parts_of object) rule number h.2 (subst (λ lines. FirstBreaks (find lines) 1 0 lines rule number) (sym (says_one text h.0 k.0 h.1 k.1)) k.2);
}
