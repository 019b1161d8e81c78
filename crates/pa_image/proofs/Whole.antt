-- What is read is the image of the bytes.
use Rattle.std.proofs.Common.{◌≡◌, ℕ, ◌+◌, ◌/◌, ◌≤◌, List, length, Option, Some, None, Result, Ok, Err, refl, sym, ap, subst, ◌∙◌, arith}
use Rattle.std.specs.Result.{IsErrAnd}
use Rattle.pa_num.specs.declared.fault.ImageRule.{ImageRule}
use Rattle.pa_num.specs.declared.fault.Fault.{Fault}
use Rattle.pa_num.specs.declared.fault.Fault.TheVariants.{Refused, Memory}
use Rattle.pa_layout.specs.declared.checks.Flaw.{Flaw}
use Rattle.pa_layout.specs.Fields.{numbers}
use Rattle.pa_layout.specs.Flaws.{flaw_at, AnswersOrMemory, GivesOrMemory, ◌then◌}
use Rattle.pa_layout.proofs.Laws.{IsBytes}
use Rattle.pa_macho.specs.declared.header.Role.{Role}
use Rattle.pa_macho.specs.declared.header.Header.{Header}
use Rattle.pa_macho.specs.declared.places.Places.{Places}
use Rattle.pa_fixups.specs.declared.kind.Fix.{Fix}
use Rattle.pa_fixups.specs.declared.tables.Fixups.{Fixups}
use Rattle.pa_fixups.specs.Fixups.{fixups_with, IsPart, fixups_flaw}
use Rattle.pa_fixups.proofs.Whole.{parts_only}
use Rattle.pa_object.specs.declared.object.Mark.{Mark}
use Rattle.pa_slots.specs.declared.slots.Slots.{Slots}
use Rattle.pa_slots.specs.Slots.{slots_with, AreSlots, slots_flaw}
use Rattle.pa_slots.specs.declared.slots.SlotsAt.{SlotsAt}
use Rattle.pa_slots.specs.Pages.{cells_from}
use Rattle.pa_symbols.specs.declared.places.TextAt.{TextAt}
use Rattle.pa_symbols.specs.Symbols.{AreMarks}
use Rattle.pa_symbols.specs.Reading.{symbols_flaw}
use Rattle.pa_image.specs.declared.image.Image.{Image}
use Rattle.pa_image.specs.Bytes.{part, data_at, slots_at, text_at, Stands}
use Rattle.pa_image.specs.Reading.{moved, fixups_in, symbols_at, parts_flaw}
use Rattle.pa_image.specs.Known.{Known}
use Rattle.pa_image.proofs.Cut.{length-part, part_stands, part_is}
use Rattle.pa_image.proofs.Words.{words_stand, words_again, length-numbers4}

abbrev pub image_with : Role → List ℕ → List ℕ → List ℕ → ℕ → List ℕ → List Mark → List (List ℕ) → List Fix → Image
image_with role text stubs consts got cells marks imports fixes = record {
  role = role;
  text = text;
  stubs = stubs;
  consts = consts;
  got = got;
  cells = cells;
  marks = marks;
  imports = imports;
  fixes = fixes;
}

images_are : (role r2 : Role) (a1 a2 b1 b2 c1 c2 : List ℕ) (g1 g2 : ℕ) (d1 d2 : List ℕ) (m1 m2 : List Mark) (i1 i2 : List (List ℕ)) (f1 f2 : List Fix) → role ≡ r2 → a1 ≡ a2 → b1 ≡ b2 → c1 ≡ c2 → g1 ≡ g2 → d1 ≡ d2 → m1 ≡ m2 → i1 ≡ i2 → f1 ≡ f2
    → image_with role a1 b1 c1 g1 d1 m1 i1 f1 ≡ image_with r2 a2 b2 c2 g2 d2 m2 i2 f2
images_are role r2 a1 a2 b1 b2 c1 c2 g1 g2 d1 d2 m1 m2 i1 i2 f1 f2 r a b c g d m i f = cc

-- ---- found

pub stands_made : (h : Header) (p : Places) (bytes text stubs consts cells : List ℕ) (marks : List Mark) (imports : List (List ℕ)) (fixes : List Fix) (starts : List ℕ) → Known h p (length bytes) → IsBytes bytes
    → text ≡ numbers (h.text / 4) 4 0x400 bytes → stubs ≡ numbers (h.stubs / 4) 4 p.stubs bytes → consts ≡ part p.consts p.consts_end bytes
    → IsPart (data_at h.role p) (fixups_with starts imports) (part p.linkedit p.fixups_end bytes)
    → AreSlots (slots_at h p (length imports)) starts (slots_with cells fixes) (part p.got p.linkedit bytes)
    → AreMarks (text_at h) marks (part p.symbols p.symbols_end bytes) (part p.strings p.end bytes)
    → Stands (image_with h.role text stubs consts h.got cells marks imports fixes) h p bytes
stands_made h p bytes text stubs consts cells marks imports fixes starts k fits et es ec i s m =
    let o = k.order in
    let lt = ap length et ∙ length-numbers4 (h.text / 4) 0x400 bytes in
    let ls = ap length es ∙ length-numbers4 (h.stubs / 4) p.stubs bytes in
    let lc = ap length ec ∙ length-part p.consts p.consts_end bytes (omega arith) (omega arith) in
    record {
      role = refl;
      text_size = omega arith;
      stubs_size = omega arith;
      consts_size = omega arith;
      got_size = refl;
      text = rw et (words_stand (h.text / 4) 0x400 bytes fits (omega arith));
      stubs = rw es (words_stand (h.stubs / 4) p.stubs bytes fits (omega arith));
      consts = rw ec (part_stands p.consts p.consts_end bytes (omega arith) (omega arith));
      starts = starts;
      fixups = i;
      slots = s;
      marks = m;
    }

-- ---- only

pub text_only : (h : Header) (p : Places) (bytes text : List ℕ) (x : Image) → Stands x h p bytes → text ≡ numbers (h.text / 4) 4 0x400 bytes → text ≡ x.text
text_only h p bytes text x s e = let size = s.text_size in e ∙ words_again (h.text / 4) 0x400 x.text bytes (omega arith) s.text

pub stubs_only : (h : Header) (p : Places) (bytes stubs : List ℕ) (x : Image) → Stands x h p bytes → stubs ≡ numbers (h.stubs / 4) 4 p.stubs bytes → stubs ≡ x.stubs
stubs_only h p bytes stubs x s e = let size = s.stubs_size in e ∙ words_again (h.stubs / 4) p.stubs x.stubs bytes (omega arith) s.stubs

pub consts_only : (h : Header) (p : Places) (bytes consts : List ℕ) (x : Image) → Known h p (length bytes) → Stands x h p bytes → consts ≡ part p.consts p.consts_end bytes → consts ≡ x.consts
consts_only h p bytes consts x k s e = let size = s.consts_size in e ∙ part_is p.consts p.consts_end bytes x.consts (omega arith) s.consts

pub image_only : (h : Header) (text stubs consts cells : List ℕ) (marks : List Mark) (imports : List (List ℕ)) (fixes : List Fix) (starts : List ℕ) (x : Image) (xs : List ℕ) → x.role ≡ h.role → x.got ≡ h.got → text ≡ x.text → stubs ≡ x.stubs → consts ≡ x.consts
    → fixups_with starts imports ≡ fixups_with xs x.imports → slots_with cells fixes ≡ slots_with x.cells x.fixes → marks ≡ x.marks → image_with h.role text stubs consts h.got cells marks imports fixes ≡ x
image_only h text stubs consts cells marks imports fixes starts x xs r g et es ec ef el em =
    images_are h.role x.role text x.text stubs x.stubs consts x.consts h.got x.got cells x.cells marks x.marks imports x.imports fixes x.fixes (sym r) et es ec (sym g) (ap (λ (s : Slots). s.cells) el) em (ap (λ (f : Fixups). f.imports) ef) (ap (λ (s : Slots). s.fixes) el)

-- the slots of an image, where its fixups are these
pub slots_moved : (h : Header) (p : Places) (bytes : List ℕ) (x : Image) (starts : List ℕ) (imports : List (List ℕ)) (s : Stands x h p bytes) → fixups_with starts imports ≡ fixups_with s.starts x.imports
    → AreSlots (slots_at h p (length imports)) starts (slots_with x.cells x.fixes) (part p.got p.linkedit bytes)
slots_moved h p bytes x starts imports s e =
    let i : imports ≡ x.imports = ap (λ (f : Fixups). f.imports) e in
    let t : starts ≡ s.starts = ap (λ (f : Fixups). f.starts) e in
    rw (i, t) s.slots

-- ---- the first flaw

fixups_taken : (h : Header) (p : Places) (bytes starts : List ℕ) (imports : List (List ℕ)) → IsPart (data_at h.role p) (fixups_with starts imports) (part p.linkedit p.fixups_end bytes)
    → (fixups_flaw (data_at h.role p) (part p.linkedit p.fixups_end bytes) ≡ None) × (fixups_in h p bytes ≡ fixups_with starts imports)
fixups_taken h p bytes starts imports i = let o = parts_only (data_at h.role p) (part p.linkedit p.fixups_end bytes) (fixups_with starts imports) i.fit i.bytes_are in (o.0, o.1)

then_some : (f : Flaw) (a b : Option Flaw) → a ≡ Some f → (a then b) ≡ Some f
then_some f a b e = rw e refl

pub fixups_first : (h : Header) (p : Places) (bytes : List ℕ) (f : Flaw) → moved p.linkedit (fixups_flaw (data_at h.role p) (part p.linkedit p.fixups_end bytes)) ≡ Some f → parts_flaw h p bytes ≡ Some f
unfolding parts_flaw
fixups_first h p bytes f e = then_some f _ _ e

-- after fixups that have no flaw
pub behind_fixups : (h : Header) (p : Places) (bytes starts : List ℕ) (imports : List (List ℕ)) → IsPart (data_at h.role p) (fixups_with starts imports) (part p.linkedit p.fixups_end bytes)
    → parts_flaw h p bytes ≡ (slots_flaw (slots_at h p (length imports)) starts (part p.got p.linkedit bytes) then symbols_flaw (text_at h) (symbols_at p) (part p.symbols p.symbols_end bytes) (part p.strings p.end bytes))
unfolding parts_flaw
behind_fixups h p bytes starts imports i =
    let t = fixups_taken h p bytes starts imports i in
    let none : moved p.linkedit (fixups_flaw (data_at h.role p) (part p.linkedit p.fixups_end bytes)) ≡ None = ap (moved p.linkedit) t.0 in
    rw none (ap (λ (f : Fixups). slots_flaw (slots_at h p (length f.imports)) f.starts (part p.got p.linkedit bytes) then symbols_flaw (text_at h) (symbols_at p) (part p.symbols p.symbols_end bytes) (part p.strings p.end bytes)) t.1)

-- ---- errors that are handed on

pub err_flaw : (A : Type 0) (result : Result Image (Fault ImageRule)) (fault : Fault ImageRule) (flaw total : Option Flaw) → IsErrAnd result (λ x. x ≡ fault) → AnswersOrMemory {A = A} (Err fault) flaw → ((f : Flaw) → flaw ≡ Some f → total ≡ Some f) → AnswersOrMemory result total
err_flaw A (Ok x) fault flaw total i a h = absurd i
err_flaw A (Err x) (Refused rule place) flaw total i a h = subst (λ (y : Fault ImageRule). AnswersOrMemory {A = Image} (Err y) total) (sym i) (h (flaw_at rule place) a)
err_flaw A (Err x) Memory flaw total i a h = subst (λ (y : Fault ImageRule). AnswersOrMemory {A = Image} (Err y) total) (sym i) tt

pub err_only : (A : Type 0) (v : A) (result : Result Image (Fault ImageRule)) (fault : Fault ImageRule) (x : Image) → IsErrAnd result (λ x. x ≡ fault) → GivesOrMemory v (Err fault) → GivesOrMemory x result
err_only A v (Ok y) fault x i g = absurd i
err_only A v (Err y) (Refused rule place) x i g = absurd g
err_only A v (Err y) Memory x i g = subst (λ (z : Fault ImageRule). GivesOrMemory x (Err z)) (sym i) tt

pub slots_first : (h : Header) (p : Places) (bytes starts : List ℕ) (imports : List (List ℕ)) (f : Flaw) → IsPart (data_at h.role p) (fixups_with starts imports) (part p.linkedit p.fixups_end bytes)
    → slots_flaw (slots_at h p (length imports)) starts (part p.got p.linkedit bytes) ≡ Some f → parts_flaw h p bytes ≡ Some f
slots_first h p bytes starts imports f i e = behind_fixups h p bytes starts imports i ∙ then_some f _ _ e

pub symbols_first : (h : Header) (p : Places) (bytes starts : List ℕ) (imports : List (List ℕ)) (flaw : Option Flaw) → IsPart (data_at h.role p) (fixups_with starts imports) (part p.linkedit p.fixups_end bytes)
    → slots_flaw (slots_at h p (length imports)) starts (part p.got p.linkedit bytes) ≡ None → symbols_flaw (text_at h) (symbols_at p) (part p.symbols p.symbols_end bytes) (part p.strings p.end bytes) ≡ flaw → parts_flaw h p bytes ≡ flaw
symbols_first h p bytes starts imports flaw i n e = behind_fixups h p bytes starts imports i ∙ rw n e

-- ---- what calls say of the values that they are given

pub marks_at : (t u : TextAt) (a b c d : List ℕ) (marks : List Mark) → t ≡ u → a ≡ b → c ≡ d → AreMarks t marks a c → AreMarks u marks b d
marks_at t u a b c d marks et ea ec m = subst (λ (x : TextAt). AreMarks x marks b d) et (subst (λ (x : List ℕ). AreMarks t marks x d) ea (subst (AreMarks t marks a) ec m))

pub inside_at : (a b : SlotsAt) (xs ys : List ℕ) → a ≡ b → xs ≡ ys → cells_from b + b.cells ≤ length ys → cells_from a + a.cells ≤ length xs
inside_at a b xs ys e f le = subst (λ (x : SlotsAt). cells_from x + x.cells ≤ length xs) (sym e) (subst (λ (l : List ℕ). cells_from b + b.cells ≤ length l) (sym f) le)
