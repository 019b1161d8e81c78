-- Going through the lines of a text.
use Rattle.std.proofs.Common.{◌≡◌, ℕ, ◌+◌, ◌≤◌, Bool, true, false, cond, List, [], ◌∷◌, length, map, refl, sym, ◌∙◌, ap, subst, arith, Option, Some, None, append_assoc, append-nil, inl, inr, Err}
use Rattle.std.specs.Borrow.{Bor}
use Rattle.pa_asmline.specs.Rows.{Text}
use Rattle.pa_asmline.specs.Lines.{Line, Blank, Label, Row, Unknown}
use Rattle.pa_asmline.specs.Reading.{line}
use Rattle.pa_asmline.proofs.Whole.{line_is}
use Rattle.pa_asm.specs.declared.labels.Place.{Place}
use Rattle.pa_asm.specs.declared.rule.AsmRule.{AsmRule}
use Rattle.pa_asm.specs.declared.assembly.Assembly.{Assembly}
use Rattle.pa_asm.specs.declared.labels.Labels.{Labels as Held}
use Rattle.pa_num.specs.declared.fault.Fault.{Fault}
use Rattle.pa_num.specs.declared.fault.Fault.TheVariants.{Refused, Memory}
use Rattle.pa_object.specs.declared.object.Object.{Object}
use Rattle.pa_asm.specs.Labels.{words, is_label, find, find_from}
use Rattle.pa_asm.specs.Settled.{Labels}
use Rattle.pa_asm.specs.Parts.{Parts, nothing, joined, Gives, AllGive, FirstBreaks}
use Rattle.pa_asm.specs.Answers.{parts_of, IsAnswer, IsObjectOf}
use Rattle.std.specs.Option.{option_or}
use Rattle.pa_asm.specs.Reading.{kept, IsAdded, noted_line, pieces_behind, own_len, len_behind}
use Rattle.pa_asm.specs.Written.{pieces, read, AreLines, Says}
use Rattle.pa_names.proofs.Kept.{or-none, or-assoc}

pub false_is_true : false ≡ true → ⊥
false_is_true e = cc

-- ---- words

one_word : (l : Line) → words l ≤ 1
one_word Blank = omega arith
one_word (Label public name) = omega arith
one_word (Row form operands) = omega arith
one_word Unknown = omega arith

-- a line has as many bytes as words
pub words_short : (text : Text) → words (line text) ≤ length text
unfolding line
words_short [] = omega arith
words_short (byte ∷ text) = omega (arith, one_word (line (byte ∷ text)))

-- ---- labels

found_or : (t : Bool) (place : Place) (other : Option Place) → option_or (cond t (Some place) None) other ≡ cond t (Some place) other
found_or true place other = refl
found_or false place other = refl

-- a line is noted
pub found_more : (old new : Text → Option Place) (number at : ℕ) (l : Line) (lines : List Line) → ((name : Text) → new name ≡ option_or (old name) (noted_line l (record { line = number; at = at }) name)) → (name : Text) → option_or (new name) (find_from name (number + 1) (at + words l) lines) ≡ option_or (old name) (find_from name number at (l ∷ lines))
unfolding find_from
found_more old new number at l lines noted name =
    ap (λ place. option_or place (find_from name (number + 1) (at + words l) lines)) (noted name)
    ∙ or-assoc (old name) _ _
    ∙ ap (option_or (old name)) (found_or (is_label name l) (record { line = number; at = at }) (find_from name (number + 1) (at + words l) lines))

pub found_all : (kept : Option Place) (name : Text) (number at : ℕ) (rest : List Line) → rest ≡ [] → option_or kept (find_from name number at rest) ≡ kept
unfolding find_from
found_all kept name number at rest e = rw e (or-none kept)

-- ---- what is left

pub lines_ahead : (rest : Option (Bor Text)) (ahead : Bor Text) (own : Text) (behind : Option (Bor Text)) → rest ≡ Some ahead → pieces ahead.now ≡ own ∷ pieces_behind behind → map line (pieces_behind rest) ≡ line own ∷ map line (pieces_behind behind)
lines_ahead rest ahead own behind e f = ap (λ r. map line (pieces_behind r)) e ∙ ap (map line) f

pub none_ahead : (rest : Option (Bor Text)) → rest ≡ None → map line (pieces_behind rest) ≡ []
none_ahead rest e = ap (λ r. map line (pieces_behind r)) e

-- how many bytes are left, where the line ahead gives n words
pub left : (rest : Option (Bor Text)) (ahead : Bor Text) (own : Text) (behind : Option (Bor Text)) (said : Line) (count : ℕ) → rest ≡ Some ahead → own_len ahead.now ≡ own_len own + len_behind behind → said ≡ line own → count ≡ words said → (count + len_behind behind + 1 ≤ len_behind rest) × (1 + len_behind behind ≤ len_behind rest)
left rest ahead own behind said count e f g h =
    let size : len_behind rest ≡ own_len ahead.now = ap len_behind e in
    let short = words_short own in
    let same : count ≡ words (line own) = h ∙ ap words g in
    (omega arith, omega arith)

-- ---- parts

joined-joined : (a b c : Parts) → joined a (joined b c) ≡ joined (joined a b) c
joined-joined a b c = λ i. record { code = sym (append_assoc a.code b.code c.code) i; marks = sym (append_assoc a.marks b.marks c.marks) i; refs = sym (append_assoc a.refs b.refs c.refs) i }

pub joined-nothing : (a : Parts) → joined a nothing ≡ a
joined-nothing a = λ i. record { code = append-nil a.code i; marks = append-nil a.marks i; refs = append-nil a.refs i }

-- a line gives as many words as it counts
pub gives_words : (labels : Labels) (number at : ℕ) (l : Line) (own : Parts) → Gives labels number at l own → length own.code ≡ words l
gives_words labels number at Blank own g = ap (λ p. length p.code) g
gives_words labels number at (Label public name) own g = ap (λ p. length p.code) g.1
gives_words labels number at (Row form operands) own g = ap (λ p. length p.code) g.parts_are
gives_words labels number at Unknown own g = absurd g

-- one more line is added
pub gives_more : (labels : Labels) (number at : ℕ) (l : Line) (lines all : List Line) (old own new : Parts) (number' at' : ℕ) → Gives labels number at l own → new ≡ joined old own → number' ≡ number + 1 → at' ≡ at + words l → ((more : Parts) → AllGive labels number at (l ∷ lines) more → AllGive labels 1 0 all (joined old more)) → (more : Parts) → AllGive labels number' at' lines more → AllGive labels 1 0 all (joined new more)
gives_more labels number at l lines all old own new number' at' g e f h inv more m =
    let moved : AllGive labels (number + 1) (at + words l) lines more = subst (λ a. AllGive labels (number + 1) a lines more) h (subst (λ n. AllGive labels n at' lines more) f m) in
    subst (AllGive labels 1 0 all) (joined-joined old own more ∙ ap (λ p. joined p more) (sym e)) (inv (joined own more) (own, more, g, moved, refl))

pub breaks_more : (labels : Labels) (number at : ℕ) (l : Line) (lines all : List Line) (own : Parts) (number' at' : ℕ) → Gives labels number at l own → number' ≡ number + 1 → at' ≡ at + words l → ((rule : AsmRule) (place : ℕ) → FirstBreaks labels number at (l ∷ lines) rule place → FirstBreaks labels 1 0 all rule place) → (rule : AsmRule) (place : ℕ) → FirstBreaks labels number' at' lines rule place → FirstBreaks labels 1 0 all rule place
breaks_more labels number at l lines all own number' at' g f h inv rule place m =
    inv rule place (inr (own, g, subst (λ a. FirstBreaks labels (number + 1) a lines rule place) h (subst (λ n. FirstBreaks labels n at' lines rule place) f m)))

pub gives_all : (labels : Labels) (number at : ℕ) (rest all : List Line) (old : Parts) → rest ≡ [] → ((more : Parts) → AllGive labels number at rest more → AllGive labels 1 0 all (joined old more)) → AllGive labels 1 0 all old
gives_all labels number at rest all old e inv =
    subst (AllGive labels 1 0 all) (joined-nothing old) (inv nothing (subst (λ lines. AllGive labels number at lines nothing) (sym e) refl))

-- ---- the lines that are read

are_read : (texts : List Text) → AreLines (map line texts) texts
are_read [] = tt
are_read (text ∷ texts) = (line_is text, are_read texts)

pub says_read : (text : Text) → Says text (read text)
says_read text = are_read (pieces text)

same_labels : (a b : Labels) → ((name : Text) → a name ≡ b name) → a ≡ b
same_labels a b h = λ i. λ name. h name i

-- ---- answers

-- a line that breaks a rule is the first that does
pub refused : (held : Held) (text bytes : Text) (l : Line) (rest : List Line) (old new : Assembly) (fault : Fault AsmRule) → IsAdded held l old (Err fault) new → bytes ≡ text → ((name : Text) → kept held name ≡ find (read bytes) name) → ((rule : AsmRule) (place : ℕ) → FirstBreaks (kept held) old.number (length old.code) (l ∷ rest) rule place → FirstBreaks (kept held) 1 0 (read text) rule place) → IsAnswer text (Err fault)
refused held text bytes l rest old new Memory a e h inv = tt
refused held text bytes l rest old new (Refused rule place) a e h inv =
    let breaks = inv rule place (inl a) in
    let same : kept held ≡ find (read text) = same_labels (kept held) (find (read bytes)) h ∙ ap (λ t. find (read t)) e in
    (read text, says_read text, subst (λ labels. FirstBreaks labels 1 0 (read text) rule place) same breaks)

pub given : (held : Held) (text bytes : Text) (object : Object) (old : Parts) → parts_of object ≡ old → object.globals ≡ [] → bytes ≡ text → ((name : Text) → kept held name ≡ find (read bytes) name) → AllGive (kept held) 1 0 (read text) old → IsObjectOf text object
given held text bytes object old f g e h all =
    let same : kept held ≡ find (read text) = same_labels (kept held) (find (read bytes)) h ∙ ap (λ t. find (read t)) e in
    (read text, says_read text, subst (AllGive (find (read text)) 1 0 (read text)) (sym f) (subst (λ labels. AllGive labels 1 0 (read text) old) same all), g)
