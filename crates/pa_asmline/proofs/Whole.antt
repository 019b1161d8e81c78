-- A line is what is read of it, and nothing else.
use Rattle.std.proofs.Common.{◌≡◌, ◌⊎◌, inl, inr, Bool, true, false, cond, not, ◌&&◌, ◌||◌, ◌==◌, List, [], ◌∷◌, ◌++◌, refl, sym, ◌∙◌, ap, subst, arith, codes, Option, Some, None}
use Rattle.std.specs.List.{list_all}
use Rattle.std.specs.Str.{bytes_eq}
use Rattle.std.proofs.lemmas.Bool.Decides.{nat_tests}
use Rattle.std.proofs.lemmas.Slice.Eq.{bytes_eq-Decides}
use Rattle.pa_asmline.specs.declared.form.Form.{Form}
use Rattle.pa_asmline.specs.declared.kind.Kind.{Kind}
use Rattle.pa_asmline.specs.Rows.{Text, name, kinds, forms_at}
use Rattle.pa_asmline.specs.Operands.{Operand, may_begin, is_name, is_empty}
use Rattle.pa_asmline.specs.Lines.{Line, Blank, Label, Row, Unknown, AreOperands, IsRow, IsKnown, IsLine, IsOne}
use Rattle.pa_asmline.specs.Reading.{behind, before, front, back, operand, operands, onto, in_front, row_of, row_by, row_among, or_else, row, is_blank, named, label, mark, or_unknown, label_or, line}
use Rattle.pa_asmline.proofs.Texts.{both_true, and_then_parts, behind_splits, behind_joined, before_splits, before_joined, differs, Lacks, Stops, lacks_both, lacks_parts, lacks_none, front_is, back_is, front_and_back, one_cut}
use Rattle.pa_asmline.proofs.Rows.{operands_one}
use Rattle.pa_asmline.proofs.Spelled.{operand_sound, operand_complete}
use Rattle.pa_asmline.proofs.Table.{apart, Leads, first, listed, begins_row, fits}
use Rattle.pa_asmline.proofs.Apart.{name_lacks, spells_lacks, operands_stop, operands_apart}

-- ---- operands

in_front_parts : (o : Option Operand) (os : Option (List Operand)) (vs : List Operand) → in_front o os ≡ Some vs → (v : Operand) × (ws : List Operand) × (o ≡ Some v) × (os ≡ Some ws) × (vs ≡ v ∷ ws)
in_front_parts None os vs e = cc
in_front_parts (Some v) None vs e = cc
in_front_parts (Some v) (Some ws) vs e = (v, ws, refl, refl, cc)

nothing_left : (separator text : Text) (vs : List Operand) → cond (is_empty text) (Some []) None ≡ Some vs → AreOperands separator [] vs text
nothing_left separator [] vs e = let none : [] ≡ vs = cc in subst (λ vs. AreOperands separator [] vs []) none refl
nothing_left separator (byte ∷ text) vs e = cc

operands_sound : (separator : Text) (ks : List Kind) (text : Text) (vs : List Operand) → operands separator ks text ≡ Some vs → AreOperands separator ks vs text
unfolding operands
operands_sound separator [] text vs e = nothing_left separator text vs e
operands_sound separator (k ∷ ks) text vs e =
    let parts = and_then_parts (λ own. in_front (operand k (front 44 own)) (operands (codes ", ") ks (back 44 own))) (behind separator text) vs e in
    let own = parts.0 in
    let more = in_front_parts (operand k (front 44 own)) (operands (codes ", ") ks (back 44 own)) vs parts.2 in
    let cut : text ≡ separator ++ (front 44 own ++ back 44 own) = behind_splits separator text own parts.1 ∙ ap (λ z. separator ++ z) (front_and_back 44 own) in
    subst (λ vs. AreOperands separator (k ∷ ks) vs text) (sym more.4)
    (front 44 own, back 44 own, cut, operand_sound k (front 44 own) more.0 more.2, operands_sound (codes ", ") ks (back 44 own) more.1 more.3)

none_left : (separator text : Text) → text ≡ [] → operands separator [] text ≡ Some []
unfolding operands
none_left separator text e = rw e refl

operands_complete : (separator : Text) (ks : List Kind) (vs : List Operand) (text : Text) → AreOperands separator ks vs text → operands separator ks text ≡ Some vs
operands_complete separator [] [] text h = none_left separator text h
operands_complete separator [] (v ∷ vs) text h = absurd h
operands_complete separator (k ∷ ks) [] text h = absurd h
operands_complete separator (k ∷ ks) (v ∷ vs) text h =
    let stops = operands_stop 44 (codes " ") ks vs h.1 h.4 in
    let lacks = spells_lacks k v h.0 h.3 in
    let own_is = front_is 44 h.0 h.1 lacks stops in
    let rest_is = back_is 44 h.0 h.1 lacks stops in
    operands_one separator k ks text (h.0 ++ h.1) v (ap (behind separator) h.2 ∙ behind_joined separator (h.0 ++ h.1)) (ap (operand k) own_is ∙ operand_complete k h.0 v h.3)
    ∙ ap (λ t. onto (v ∷ []) (operands (codes ", ") ks t)) rest_is ∙ ap (onto (v ∷ [])) (operands_complete (codes ", ") ks vs h.1 h.4)

-- ---- rows

row_of_parts : (f : Form) (o : Option (List Operand)) (l : Line) → row_of f o ≡ Some l → (vs : List Operand) × (o ≡ Some vs) × (l ≡ Row f vs)
row_of_parts f None l e = cc
row_of_parts f (Some vs) l e = (vs, refl, cc)

abbrev IsRowLine : Form → Line → Text → Type 0
IsRowLine f l text = (vs : List Operand) × (l ≡ Row f vs) × IsRow f vs text

row_by_parts : (f : Form) (text : Text) (l : Line) (b : Bool) → bytes_eq (front 32 text) (name f) ≡ b → cond b (row_of f (operands (codes " ") (kinds f) (back 32 text))) None ≡ Some l → IsRowLine f l text
row_by_parts f text l true e h =
    let parts = row_of_parts f (operands (codes " ") (kinds f) (back 32 text)) l h in
    (parts.0, parts.2, (back 32 text, front_and_back 32 text ∙ ap (λ z. z ++ back 32 text) ((bytes_eq-Decides _ _).0 e), operands_sound (codes " ") (kinds f) (back 32 text) parts.0 parts.1))
row_by_parts f text l false e h = cc

row_by_sound : (f : Form) (text : Text) (l : Line) → row_by f text ≡ Some l → IsRowLine f l text
row_by_sound f text l e = row_by_parts f text l (bytes_eq (front 32 text) (name f)) refl e

name_parts : (f : Form) → Lacks 32 (name f) × Lacks 58 (name f) × (begins_row (name f) ≡ true)
name_parts f =
    let parts = both_true (list_all (λ byte. not (byte == 32)) (name f)) _ (fits f) in
    let more = both_true (list_all (λ byte. not (byte == 58)) (name f)) _ parts.1 in
    (parts.0, more.0, more.1)

row_by_complete : (f : Form) (vs : List Operand) (text : Text) → IsRow f vs text → row_by f text ≡ Some (Row f vs)
row_by_complete f vs text r =
    let stops = operands_stop 32 [] (kinds f) vs r.0 r.2 in
    let lacks = (name_parts f).0 in
    let own : front 32 text ≡ name f = ap (front 32) r.1 ∙ front_is 32 (name f) r.0 lacks stops in
    let rest : back 32 text ≡ r.0 = ap (back 32) r.1 ∙ back_is 32 (name f) r.0 lacks stops in
    let same : bytes_eq (front 32 text) (name f) ≡ true = (bytes_eq-Decides _ _).1 own in
    ap (λ b. cond b (row_of f (operands (codes " ") (kinds f) (back 32 text))) None) same
    ∙ ap (λ t. row_of f (operands (codes " ") (kinds f) t)) rest ∙ ap (row_of f) (operands_complete (codes " ") (kinds f) vs r.0 r.2)

not_or : (a b : Bool) → (not a || b) ≡ true → a ≡ true → b ≡ true
not_or true b e f = e
not_or false b e f = cc

two_rows : (g f : Form) (ws vs : List Operand) (text : Text) → apart g f ≡ true → IsRow g ws text → IsRow f vs text → ⊥
two_rows g f ws vs text h r s =
    let cut = one_cut 32 (name g) (name f) r.0 s.0 (name_parts g).0 (name_parts f).0 (operands_stop 32 [] (kinds g) ws r.0 r.2) (operands_stop 32 [] (kinds f) vs s.0 s.2) (sym r.1 ∙ s.1) in
    let names = (bytes_eq-Decides (name g) (name f)).1 cut.0 in
    operands_apart 32 [] (kinds g) (kinds f) ws vs r.0 (not_or (bytes_eq (name g) (name f)) _ h names) r.2 (subst (AreOperands (codes " ") (kinds f) vs) (sym cut.1) s.2)

among_found : (forms : List Form) (f : Form) (vs : List Operand) (text : Text) → Leads forms f → IsRow f vs text → row_among forms text ≡ Some (Row f vs)
unfolding row_among
among_found [] f vs text h r = absurd h
among_found (g ∷ forms) f vs text (inl same) r = ap (λ o. or_else o (row_among forms text)) (ap (λ form. row_by form text) same ∙ row_by_complete f vs text r)
among_found (g ∷ forms) f vs text (inr h) r = go (row_by g text) refl (among_found forms f vs text h.1 r)
  where
    go : (o : Option Line) → row_by g text ≡ o → row_among forms text ≡ Some (Row f vs) → or_else o (row_among forms text) ≡ Some (Row f vs)
    go None e more = more
    go (Some l) e more = let other = row_by_sound g text l e in absurd (two_rows g f other.0 vs text h.0 other.2 r)

row_word : (word rest : Text) → begins_row word ≡ true → row (word ++ rest) ≡ row_among (forms_at (first word)) (word ++ rest)
row_word [] rest h = cc
row_word (byte ∷ word) rest h = refl

row_complete : (f : Form) (vs : List Operand) (text : Text) → IsRow f vs text → row text ≡ Some (Row f vs)
row_complete f vs text r =
    ap row r.1 ∙ row_word (name f) r.0 (name_parts f).2 ∙ ap (row_among (forms_at (first (name f)))) (sym r.1)
    ∙ among_found (forms_at (first (name f))) f vs text (listed f) r

among_sound : (forms : List Form) (text : Text) (l : Line) → row_among forms text ≡ Some l → IsKnown l text
unfolding row_among
among_sound [] text l e = cc
among_sound (g ∷ forms) text l e = go (row_by g text) refl e (λ h. among_sound forms text l h)
  where
    go : (o : Option Line) → row_by g text ≡ o → or_else o (row_among forms text) ≡ Some l → (row_among forms text ≡ Some l → IsKnown l text) → IsKnown l text
    go None f h more = more h
    go (Some m) f h more =
        let same : m ≡ l = cc in
        let found = row_by_sound g text l (f ∙ ap Some same) in
        subst (λ l. IsKnown l text) (sym found.1) found.2

row_sound : (text : Text) (l : Line) → row text ≡ Some l → IsKnown l text
row_sound [] l e = cc
row_sound (byte ∷ text) l e = among_sound (forms_at byte) (byte ∷ text) l e

-- ---- lines

named_parts : (o : Option Text) (n : Text) → named o ≡ Some n → (is_name n ≡ true) × (o ≡ Some n)
named_parts None n e = cc
named_parts (Some text) n e = go (is_name text) refl e
  where
    go : (b : Bool) → is_name text ≡ b → cond b (Some text) None ≡ Some n → (is_name n ≡ true) × (Some text ≡ Some n)
    go true f h = let same : text ≡ n = cc in (ap is_name (sym same) ∙ f, h)
    go false f h = cc

label_sound : (text n : Text) → label text ≡ Some n → IsKnown (Label false n) text
label_sound text n e =
    let parts = named_parts (before (codes ":") text) n e in
    (parts.0, before_splits (codes ":") text n parts.1)

label_complete : (text n : Text) → IsKnown (Label false n) text → label text ≡ Some n
label_complete text n h = rw (h.1, before_joined (codes ":") n, h.0) refl

mark_sound : (text n : Text) → mark text ≡ Some n → IsKnown (Label true n) text
mark_sound text n e =
    let parts = named_parts (behind (codes ".globl ") text) n e in
    (parts.0, behind_splits (codes ".globl ") text n parts.1)

mark_complete : (text n : Text) → IsKnown (Label true n) text → mark text ≡ Some n
mark_complete text n h = rw (h.1, behind_joined (codes ".globl ") n, h.0) refl

blank_sound : (text : Text) → is_blank text ≡ true → IsKnown Blank text
blank_sound [] h = inl refl
blank_sound (a ∷ []) h = cc
blank_sound (a ∷ b ∷ text) h =
    let parts = both_true (a == 47) (b == 47) h in
    let same : a ≡ 47 = grind (arith, nat_tests) in
    let other : b ≡ 47 = grind (arith, nat_tests) in
    inr (text, ap (λ z. z ∷ b ∷ text) same ∙ ap (λ z. 47 ∷ z ∷ text) other)

blank_complete : (text : Text) → IsKnown Blank text → is_blank text ≡ true
blank_complete text (inl e) = rw e refl
blank_complete text (inr h) = rw h.1 refl

-- a label has no space
label_lacks : (text n : Text) → IsKnown (Label false n) text → Lacks 32 text
label_lacks text n h = subst (Lacks 32) (sym h.1) (lacks_both 32 n (codes ":") (name_lacks n 32 refl h.0) refl)

mark_no_label : (text n m : Text) → IsKnown (Label true n) text → IsKnown (Label false m) text → ⊥
mark_no_label text n m h k =
    lacks_none 32 n (lacks_parts 32 (codes ".globl") (32 ∷ n) (subst (Lacks 32) h.1 (label_lacks text m k))).1

colon_none : (m word : Text) → Lacks 58 word → word ≡ m ++ codes ":" → ⊥
colon_none m word h e = lacks_none 58 [] (lacks_parts 58 m (codes ":") (subst (Lacks 58) e h)).1

row_by_rest : (f : Form) (rest text m : Text) → text ≡ name f ++ rest → Stops 32 rest → IsKnown (Label false m) text → ⊥
row_by_rest f [] text m e s k = colon_none m (name f ++ []) (lacks_both 58 (name f) [] (name_parts f).1 refl) (sym e ∙ k.1)
row_by_rest f (byte ∷ rest) text m e s k =
    lacks_none 32 rest (lacks_parts 32 (name f) (32 ∷ rest) (subst (Lacks 32) (e ∙ ap (λ z. name f ++ (z ∷ rest)) s) (label_lacks text m k))).1

row_no_label : (text : Text) (f : Form) (vs : List Operand) (m : Text) → IsRow f vs text → IsKnown (Label false m) text → ⊥
row_no_label text f vs m r k = row_by_rest f r.0 text m r.1 (operands_stop 32 [] (kinds f) vs r.0 r.2) k

word_no_mark : (word rest n : Text) → begins_row word ≡ true → word ++ rest ≡ codes ".globl " ++ n → ⊥
word_no_mark [] rest n h e = cc
word_no_mark (byte ∷ word) rest n h e =
    let same : byte ≡ 46 = cc in
    let parts = both_true (not (byte == 46)) (not (byte == 47)) h in
    let bad : false ≡ true = rw same at parts.0 in cc

-- a text that doesn't begin with a slash
abbrev no_slash : Text → Bool
no_slash [] = false
no_slash (byte ∷ text) = not (byte == 47)

no_slash_both : (a b : Bool) → not a ≡ true → (a && b) ≡ false
no_slash_both true b h = cc
no_slash_both false b h = refl

no_comment : (text : Text) → no_slash text ≡ true → is_blank text ≡ false
no_comment [] h = cc
no_comment (a ∷ []) h = refl
no_comment (a ∷ b ∷ text) h = no_slash_both (a == 47) (b == 47) h

word_no_slash : (word rest : Text) → begins_row word ≡ true → no_slash (word ++ rest) ≡ true
word_no_slash [] rest h = cc
word_no_slash (byte ∷ word) rest h = (both_true (not (byte == 46)) (not (byte == 47)) h).1

name_no_slash : (name rest : Text) → is_name name ≡ true → no_slash (name ++ rest) ≡ true
name_no_slash [] rest h = cc
name_no_slash (byte ∷ name) rest h = rw (differs may_begin byte 47 refl (both_true (may_begin byte) _ h).0) refl

-- ---- reading

abbrev read_by : Bool → Option Text → Option Text → Option Line → Line
read_by blank a b c = cond blank Blank (label_or false a (label_or true b (or_unknown c)))

line_by : (text : Text) → line text ≡ read_by (is_blank text) (label text) (mark text) (row text)
unfolding line
line_by text = refl

no_label : (text : Text) → ((n : Text) → IsKnown (Label false n) text → ⊥) → label text ≡ None
no_label text none = go (label text) refl
  where
    go : (o : Option Text) → label text ≡ o → o ≡ None
    go None e = refl
    go (Some n) e = absurd (none n (label_sound text n e))

no_mark : (text : Text) → ((n : Text) → IsKnown (Label true n) text → ⊥) → mark text ≡ None
no_mark text none = go (mark text) refl
  where
    go : (o : Option Text) → mark text ≡ o → o ≡ None
    go None e = refl
    go (Some n) e = absurd (none n (mark_sound text n e))

read_as : (text : Text) (blank : Bool) (a b : Option Text) (c : Option Line) → is_blank text ≡ blank → label text ≡ a → mark text ≡ b → row text ≡ c → line text ≡ read_by blank a b c
read_as text blank a b c e f g h = line_by text ∙ (λ i. read_by (e i) (f i) (g i) (h i))

known_read : (l : Line) (text : Text) → IsKnown l text → line text ≡ l
known_read Blank text k = read_as text true (label text) (mark text) (row text) (blank_complete text k) refl refl refl
known_read (Label false n) text k =
    read_as text false (Some n) (mark text) (row text) (ap is_blank k.1 ∙ no_comment (n ++ codes ":") (name_no_slash n (codes ":") k.0)) (label_complete text n k) refl refl
known_read (Label true n) text k =
    read_as text false None (Some n) (row text) (ap is_blank k.1) (no_label text (λ m h. mark_no_label text n m k h)) (mark_complete text n k) refl
known_read (Row f vs) text k =
    let begins = (name_parts f).2 in
    read_as text false None None (Some (Row f vs)) (ap is_blank k.1 ∙ no_comment (name f ++ k.0) (word_no_slash (name f) k.0 begins))
    (no_label text (λ m h. row_no_label text f vs m k h)) (no_mark text (λ m h. word_no_mark (name f) k.0 m begins (sym k.1 ∙ h.1))) (row_complete f vs text k)
known_read Unknown text k = absurd k

abbrev IsRead : Line → Text → Type 0
IsRead l text = (l ≡ Unknown) ⊎ IsKnown l text

read_known : (text : Text) (blank : Bool) (a b : Option Text) (c : Option Line) → is_blank text ≡ blank → label text ≡ a → mark text ≡ b → row text ≡ c → IsRead (read_by blank a b c) text
read_known text true a b c e f g h = inr (blank_sound text e)
read_known text false (Some n) b c e f g h = inr (label_sound text n f)
read_known text false None (Some n) c e f g h = inr (mark_sound text n g)
read_known text false None None (Some l) e f g h = inr (row_sound text l h)
read_known text false None None None e f g h = inl refl

from_known : (l : Line) (text : Text) → IsKnown l text → IsLine l text
from_known Blank text k = k
from_known (Label public n) text k = k
from_known (Row f vs) text k = k
from_known Unknown text k = absurd k

known_not_unknown : (l : Line) (text : Text) → IsKnown l text → l ≡ Unknown → ⊥
known_not_unknown l text k e = subst (λ l. IsKnown l text) e k

pub line_is : (text : Text) → IsLine (line text) text
line_is text = go (line text) refl (subst (λ l. IsRead l text) (sym (line_by text)) (read_known text (is_blank text) (label text) (mark text) (row text) refl refl refl refl))
  where
    go : (l : Line) → line text ≡ l → IsRead l text → IsLine l text
    go l e (inr k) = from_known l text k
    go l e (inl u) = subst (λ l. IsLine l text) (sym u) (λ m k. known_not_unknown m text k (sym (known_read m text k) ∙ e ∙ u))

pub line_read : (l : Line) (text : Text) → IsLine l text → line text ≡ l
line_read Blank text h = known_read Blank text h
line_read (Label public n) text h = known_read (Label public n) text (label_known public n text h)
  where
    label_known : (public : Bool) (n text : Text) → IsLine (Label public n) text → IsKnown (Label public n) text
    label_known public n text h = h
line_read (Row f vs) text h = known_read (Row f vs) text h
line_read Unknown text h = go (line text) refl (subst (λ l. IsRead l text) (sym (line_by text)) (read_known text (is_blank text) (label text) (mark text) (row text) refl refl refl refl))
  where
    go : (l : Line) → line text ≡ l → IsRead l text → l ≡ Unknown
    go l e (inr k) = absurd (h l k)
    go l e (inl u) = u

pub one : (text : Text) → IsOne text
one text = record {
  some = (line text, line_is text);
  only = λ l m h k. sym (line_read l text h) ∙ line_read m text k;
}
