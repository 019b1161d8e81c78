-- What a page holds once its slots are written, and once they are erased.
use Rattle.std.proofs.Common.{◌≡◌, ℕ, ◌+◌, ◌-◌, ◌≤◌, ◌<◌, ◌^◌, List, [], ◌∷◌, ◌++◌, length, take, drop, replicate, refl, sym, ap, subst, ◌∙◌, arith, append_assoc}
use Rattle.std.proofs.lemmas.List.{take_at, drop_at, length-append, length-drop, length-take-le, take-append-drop, drop-append-le}
use Rattle.std.proofs.lemmas.Int.{ints}
use Rattle.std.specs.Prelude.{ℤ, pos, negsuc, ◌<ℤ◌}
use Rattle.byteorder.specs.Endian.{little_bytes, little_number}
use Rattle.byteorder.specs.Numbers.{little_number-reads_back, little_from-append, length-bytes_low_first}
use Rattle.pa_layout.specs.Fields.{number, IsAt}
use Rattle.pa_layout.proofs.Laws.{IsBytes, number-spelled}
use Rattle.pa_fixups.specs.declared.kind.FixKind.{FixKind}
use Rattle.pa_fixups.specs.declared.kind.FixKind.TheVariants.{Rebase, Bind, AuthRebase, AuthBind}
use Rattle.pa_fixups.specs.declared.kind.Fix.{Fix}
use Rattle.pa_fixups.specs.Slots.{packed, parts_of, FieldsFit, low_bits}
use Rattle.pa_fixups.specs.Chain.{word_at, link_to, word_of, Linked, AreWritable, put_at, with_slots, without_slots}
use Rattle.pa_fixups.proofs.SlotLaws.{bit-lt}

pub link_small : (fix : Fix) (fixes : List Fix) (len : ℕ) → len ≤ 0x4000 → AreWritable len (fix ∷ fixes) → link_to fix fixes < 2 ^ 11
link_small fix [] len short w = omega arith
link_small fix (next ∷ fixes) len short w = let i = w.2.0.inside in omega arith

low_lt : (z : ℤ) → z <ℤ pos 262144 → low_bits 19 z < 2 ^ 19
low_lt (pos n) h = omega (arith, ints)
low_lt (negsuc n) h = omega arith

word_lt : (kind : FixKind) (link : ℕ) → FieldsFit kind → link < 2 ^ 11 → packed (parts_of kind link) < 2 ^ 64
word_lt (Rebase t h) link f l = omega (arith, f.0, f.1)
word_lt (Bind o z) link f l = omega (arith, f.0, low_lt z f.2)
word_lt (AuthRebase t s) link f l = omega (arith, f.0, f.1.0, bit-lt s.addr, f.1.1)
word_lt (AuthBind o s) link f l = omega (arith, f.0, f.1.0, bit-lt s.addr, f.1.1)

length-word : (w : ℕ) → length (little_bytes 8 w) ≡ 8
length-word w = length-bytes_low_first 0 8 w

-- ---- a part in place of what stood there

pub length-put_at : (at : ℕ) (part page : List ℕ) → at + length part ≤ length page → length (put_at at part page) ≡ length page
length-put_at at part page le =
    omega (arith, length-append (take at page) (part ++ drop (at + length part) page), length-append part (drop (at + length part) page), length-take-le at page (omega arith), length-drop (at + length part) page)

-- a word below the part is as before
put_below : (at below : ℕ) (part page : List ℕ) → at ≤ length page → below + 8 ≤ at → number 8 below (put_at at part page) ≡ number 8 below page
put_below at below part page le lt =
    let len = length-take-le at page le in
    let long : 8 ≤ length (drop below (take at page)) = omega (arith, length-drop below (take at page)) in
    let a : drop below (put_at at part page) ≡ drop below (take at page) ++ (part ++ drop (at + length part) page) = drop-append-le below (take at page) (part ++ drop (at + length part) page) (omega arith) in
    let b : drop below page ≡ drop below (take at page) ++ drop at page = ap (drop below) (sym (take-append-drop at page)) ∙ drop-append-le below (take at page) (drop at page) (omega arith) in
    ap (little_number 8) a ∙ little_from-append 8 (drop below (take at page)) (part ++ drop (at + length part) page) long ∙ sym (ap (little_number 8) b ∙ little_from-append 8 (drop below (take at page)) (drop at page) long)

-- the part's word is what was put
put_here : (at w : ℕ) (page : List ℕ) → at ≤ length page → w < 2 ^ 64 → number 8 at (put_at at (little_bytes 8 w) page) ≡ w
put_here at w page le lt =
    let a : drop at (put_at at (little_bytes 8 w) page) ≡ little_bytes 8 w ++ drop (at + length (little_bytes 8 w)) page = drop_at (take at page) (little_bytes 8 w ++ drop (at + length (little_bytes 8 w)) page) at (length-take-le at page le) in
    ap (little_number 8) a ∙ little_number-reads_back 8 w (drop (at + length (little_bytes 8 w)) page) lt

-- ---- slots that are written

abbrev pub Above : ℕ → List Fix → Type 0
Above below [] = Unit {0}
Above below (fix ∷ fixes) = (below + 8 ≤ fix.at) × Above below fixes

-- later slots leave a word below them alone
slots_below : (below len : ℕ) (fixes : List Fix) (page : List ℕ) → length page ≡ len → AreWritable len fixes → Above below fixes → word_at (with_slots page fixes) below ≡ word_at page below
unfolding with_slots
slots_below below len [] page e w a = refl
slots_below below len (fix ∷ fixes) page e w a =
    let l = length-word (word_of fix fixes) in
    let i = w.0.inside in
    slots_below below len fixes (put_at fix.at (little_bytes 8 (word_of fix fixes)) page) (length-put_at fix.at (little_bytes 8 (word_of fix fixes)) page (omega arith) ∙ e) w.2 a.1
    ∙ put_below fix.at below (little_bytes 8 (word_of fix fixes)) page (omega arith) a.0

above_less : (x y : ℕ) (fixes : List Fix) → x ≤ y → Above y fixes → Above x fixes
above_less x y [] le a = tt
above_less x y (fix ∷ fixes) le a = (omega (arith, a.0), above_less x y fixes le a.1)

pub rising_above : (fix : Fix) (fixes : List Fix) (len : ℕ) → AreWritable len (fix ∷ fixes) → Above fix.at fixes
rising_above fix [] len w = tt
rising_above fix (next ∷ fixes) len w =
    let lt = w.1.0 in
    let even = w.0.even in
    let even' = w.2.0.even in
    let rest = rising_above next fixes len w.2 in
    (omega arith, above_less fix.at next.at fixes (omega arith) rest)

-- what is written links as it should
pub slots_linked : (len : ℕ) (fixes : List Fix) (page : List ℕ) → length page ≡ len → len ≤ 0x4000 → AreWritable len fixes → Linked (with_slots page fixes) fixes
unfolding with_slots
slots_linked len [] page e short w = tt
slots_linked len (fix ∷ fixes) page e short w =
    let l = length-word (word_of fix fixes) in
    let i = w.0.inside in
    let next = put_at fix.at (little_bytes 8 (word_of fix fixes)) page in
    let long : length next ≡ len = length-put_at fix.at (little_bytes 8 (word_of fix fixes)) page (omega arith) ∙ e in
    let below = slots_below fix.at len fixes next long w.2 (rising_above fix fixes len w) in
    let here = put_here fix.at (word_of fix fixes) page (omega arith) (word_lt fix.kind (link_to fix fixes) w.0.fields (link_small fix fixes len short w)) in
    (below ∙ here, slots_linked len fixes next long short w.2)

pub length-with_slots : (len : ℕ) (fixes : List Fix) (page : List ℕ) → length page ≡ len → AreWritable len fixes → length (with_slots page fixes) ≡ len
unfolding with_slots
length-with_slots len [] page e w = e
length-with_slots len (fix ∷ fixes) page e w =
    let l = length-word (word_of fix fixes) in
    let i = w.0.inside in
    length-with_slots len fixes (put_at fix.at (little_bytes 8 (word_of fix fixes)) page) (length-put_at fix.at (little_bytes 8 (word_of fix fixes)) page (omega arith) ∙ e) w.2

-- ---- slots that are erased and written again

put_mid : (at : ℕ) (part front old back : List ℕ) → length front ≡ at → length old ≡ length part → put_at at part (front ++ (old ++ back)) ≡ front ++ (part ++ back)
put_mid at part front old back la lo =
    let t = take_at front (old ++ back) at la in
    let k : at + length part ≡ length (front ++ old) = omega (arith, length-append front old) in
    let d : drop (at + length part) (front ++ (old ++ back)) ≡ back = ap (drop (at + length part)) (sym (append_assoc front old back)) ∙ drop_at (front ++ old) back (at + length part) (sym k) in
    rw (t, d) refl

two_puts : (a b : ℕ) (p q front mid back old new : List ℕ) → length front ≡ a → length old ≡ length p → b ≡ a + length p + length mid → length new ≡ length q
    → put_at a p (put_at b q (front ++ (old ++ (mid ++ (new ++ back))))) ≡ front ++ (p ++ (mid ++ (q ++ back)))
two_puts a b p q front mid back old new la lo lb ln =
    let c1 : front ++ (old ++ (mid ++ (new ++ back))) ≡ (front ++ (old ++ mid)) ++ (new ++ back) = sym (append_assoc front (old ++ mid) (new ++ back) ∙ ap (λ (l : List ℕ). front ++ l) (append_assoc old mid (new ++ back))) in
    let len : length (front ++ (old ++ mid)) ≡ b = omega (arith, length-append front (old ++ mid), length-append old mid) in
    let one : put_at b q ((front ++ (old ++ mid)) ++ (new ++ back)) ≡ (front ++ (old ++ mid)) ++ (q ++ back) = put_mid b q (front ++ (old ++ mid)) new back len ln in
    let c2 : (front ++ (old ++ mid)) ++ (q ++ back) ≡ front ++ (old ++ (mid ++ (q ++ back))) = append_assoc front (old ++ mid) (q ++ back) ∙ ap (λ (l : List ℕ). front ++ l) (append_assoc old mid (q ++ back)) in
    ap (λ (l : List ℕ). put_at a p (put_at b q l)) c1 ∙ ap (put_at a p) (one ∙ c2) ∙ put_mid a p front old (mid ++ (q ++ back)) la lo

puts_two : (a b : ℕ) (p q front mid back old new : List ℕ) → length front ≡ a → length old ≡ length p → b ≡ a + length p + length mid → length new ≡ length q
    → put_at b q (put_at a p (front ++ (old ++ (mid ++ (new ++ back))))) ≡ front ++ (p ++ (mid ++ (q ++ back)))
puts_two a b p q front mid back old new la lo lb ln =
    let one = put_mid a p front old (mid ++ (new ++ back)) la lo in
    let c1 : front ++ (p ++ (mid ++ (new ++ back))) ≡ (front ++ (p ++ mid)) ++ (new ++ back) = sym (append_assoc front (p ++ mid) (new ++ back) ∙ ap (λ (l : List ℕ). front ++ l) (append_assoc p mid (new ++ back))) in
    let len : length (front ++ (p ++ mid)) ≡ b = omega (arith, length-append front (p ++ mid), length-append p mid) in
    let two = put_mid b q (front ++ (p ++ mid)) new back len ln in
    ap (put_at b q) (one ∙ c1) ∙ two ∙ append_assoc front (p ++ mid) (q ++ back) ∙ ap (λ (l : List ℕ). front ++ l) (append_assoc p mid (q ++ back))

cut_off : (n : ℕ) (l : List ℕ) → l ≡ take n l ++ drop n l
cut_off n l = sym (take-append-drop n l)

-- two parts that are apart may be put in either order
pub puts_commute : (a b : ℕ) (p q page : List ℕ) → a + length p ≤ b → b + length q ≤ length page → put_at a p (put_at b q page) ≡ put_at b q (put_at a p page)
puts_commute a b p q page apart le =
    let front = take a page in
    let r1 = drop a page in
    let old = take (length p) r1 in
    let r2 = drop (length p) r1 in
    let m = b - (a + length p) in
    let mid = take m r2 in
    let r3 = drop m r2 in
    let new = take (length q) r3 in
    let back = drop (length q) r3 in
    let l1 = length-drop a page in
    let l2 = length-drop (length p) (drop a page) in
    let l3 = length-drop (b - (a + length p)) (drop (length p) (drop a page)) in
    let e : page ≡ front ++ (old ++ (mid ++ (new ++ back))) =
    cut_off a page ∙ ap (λ (l : List ℕ). front ++ l) (cut_off (length p) r1 ∙ ap (λ (l : List ℕ). old ++ l) (cut_off m r2 ∙ ap (λ (l : List ℕ). mid ++ l) (cut_off (length q) r3))) in
    let la : length front ≡ a = length-take-le a page (omega arith) in
    let lo : length old ≡ length p = length-take-le (length p) r1 (omega arith) in
    let lm : length mid ≡ m = length-take-le m r2 (omega arith) in
    let ln : length new ≡ length q = length-take-le (length q) r3 (omega arith) in
    let lb : b ≡ a + length p + length mid = omega arith in
    ap (λ (l : List ℕ). put_at a p (put_at b q l)) e ∙ two_puts a b p q front mid back old new la lo lb ln ∙ sym (ap (λ (l : List ℕ). put_at b q (put_at a p l)) e ∙ puts_two a b p q front mid back old new la lo lb ln)

put_twice : (a : ℕ) (p q page : List ℕ) → length q ≡ length p → a + length p ≤ length page → put_at a p (put_at a q page) ≡ put_at a p page
put_twice a p q page l le = put_mid a p (take a page) q (drop (a + length q) page) (length-take-le a page (omega arith)) l ∙ ap (λ (n : ℕ). take a page ++ (p ++ drop n page)) (omega arith)

-- a part that stands there is put over itself
put_same : (a : ℕ) (p page : List ℕ) → IsAt page a p → put_at a p page ≡ page
put_same a p page h = ap (λ (l : List ℕ). take a page ++ l) (sym h.reads) ∙ take-append-drop a page

abbrev zeros8 : List ℕ
zeros8 = replicate 8 0

-- a part below the slots may be put before they are erased
without_put : (a len : ℕ) (p page : List ℕ) (fixes : List Fix) → length page ≡ len → length p ≡ 8 → AreWritable len fixes → Above a fixes → put_at a p (without_slots page fixes) ≡ without_slots (put_at a p page) fixes
unfolding without_slots
without_put a len p page [] e l w above = refl
without_put a len p page (fix ∷ fixes) e l w above =
    let i = w.0.inside in
    without_put a len p (put_at fix.at zeros8 page) fixes (length-put_at fix.at zeros8 page (omega arith) ∙ e) l w.2 above.1
    ∙ ap (λ (x : List ℕ). without_slots x fixes) (puts_commute a fix.at p zeros8 page (omega (arith, above.0)) (omega arith))

-- to erase slots before they are written changes nothing
pub with_slots-without_slots : (len : ℕ) (fixes : List Fix) (page : List ℕ) → length page ≡ len → AreWritable len fixes → with_slots (without_slots page fixes) fixes ≡ with_slots page fixes
unfolding with_slots without_slots
with_slots-without_slots len [] page e w = refl
with_slots-without_slots len (fix ∷ fixes) page e w =
    let part = little_bytes 8 (word_of fix fixes) in
    let l = length-word (word_of fix fixes) in
    let i = w.0.inside in
    let long : length (put_at fix.at zeros8 page) ≡ len = length-put_at fix.at zeros8 page (omega arith) ∙ e in
    let one = without_put fix.at len part (put_at fix.at zeros8 page) fixes long l w.2 (rising_above fix fixes len w) in
    let two = put_twice fix.at part zeros8 page (sym l) (omega arith) in
    let after : length (put_at fix.at part page) ≡ len = length-put_at fix.at part page (omega arith) ∙ e in
    ap (λ (x : List ℕ). with_slots x fixes) (one ∙ ap (λ (x : List ℕ). without_slots x fixes) two) ∙ with_slots-without_slots len fixes (put_at fix.at part page) after w.2

-- a part below the slots may be put before they are written
with_put : (a len : ℕ) (p page : List ℕ) (fixes : List Fix) → length page ≡ len → length p ≡ 8 → AreWritable len fixes → Above a fixes → put_at a p (with_slots page fixes) ≡ with_slots (put_at a p page) fixes
unfolding with_slots
with_put a len p page [] e l w above = refl
with_put a len p page (fix ∷ fixes) e l w above =
    let part = little_bytes 8 (word_of fix fixes) in
    let k = length-word (word_of fix fixes) in
    let i = w.0.inside in
    with_put a len p (put_at fix.at part page) fixes (length-put_at fix.at part page (omega arith) ∙ e) l w.2 above.1
    ∙ ap (λ (x : List ℕ). with_slots x fixes) (puts_commute a fix.at p part page (omega (arith, above.0)) (omega arith))

-- to write slots before they are erased changes nothing
pub without_slots-with_slots : (len : ℕ) (fixes : List Fix) (page : List ℕ) → length page ≡ len → AreWritable len fixes → without_slots (with_slots page fixes) fixes ≡ without_slots page fixes
unfolding with_slots without_slots
without_slots-with_slots len [] page e w = refl
without_slots-with_slots len (fix ∷ fixes) page e w =
    let part = little_bytes 8 (word_of fix fixes) in
    let l = length-word (word_of fix fixes) in
    let i = w.0.inside in
    let long : length (put_at fix.at part page) ≡ len = length-put_at fix.at part page (omega arith) ∙ e in
    let one = with_put fix.at len zeros8 (put_at fix.at part page) fixes long refl w.2 (rising_above fix fixes len w) in
    let two = put_twice fix.at zeros8 part page l (omega arith) in
    let after : length (put_at fix.at zeros8 page) ≡ len = length-put_at fix.at zeros8 page (omega arith) ∙ e in
    ap (λ (x : List ℕ). without_slots x fixes) (one ∙ ap (λ (x : List ℕ). with_slots x fixes) two) ∙ without_slots-with_slots len fixes (put_at fix.at zeros8 page) after w.2

-- to erase slots that are zero changes nothing
abbrev pub AreClear : List ℕ → List Fix → Type 0
AreClear page [] = Unit {0}
AreClear page (fix ∷ fixes) = (word_at page fix.at ≡ 0) × AreClear page fixes

-- erased slots leave a word below them alone
erased_below : (below len : ℕ) (fixes : List Fix) (page : List ℕ) → length page ≡ len → AreWritable len fixes → Above below fixes → word_at (without_slots page fixes) below ≡ word_at page below
unfolding without_slots
erased_below below len [] page e w a = refl
erased_below below len (fix ∷ fixes) page e w a =
    let i = w.0.inside in
    erased_below below len fixes (put_at fix.at zeros8 page) (length-put_at fix.at zeros8 page (omega arith) ∙ e) w.2 a.1
    ∙ put_below fix.at below zeros8 page (omega arith) a.0

-- erased slots are zero
pub erased_clear : (len : ℕ) (fixes : List Fix) (page : List ℕ) → length page ≡ len → AreWritable len fixes → AreClear (without_slots page fixes) fixes
unfolding without_slots
erased_clear len [] page e w = tt
erased_clear len (fix ∷ fixes) page e w =
    let i = w.0.inside in
    let next = put_at fix.at zeros8 page in
    let long : length next ≡ len = length-put_at fix.at zeros8 page (omega arith) ∙ e in
    let below = erased_below fix.at len fixes next long w.2 (rising_above fix fixes len w) in
    let here : number 8 fix.at next ≡ 0 = put_here fix.at 0 page (omega arith) (omega arith) in
    (below ∙ here, erased_clear len fixes next long w.2)

pub clear_without : (len : ℕ) (fixes : List Fix) (page : List ℕ) → IsBytes page → length page ≡ len → AreWritable len fixes → AreClear page fixes → without_slots page fixes ≡ page
unfolding without_slots
clear_without len [] page bytes e w c = refl
clear_without len (fix ∷ fixes) page bytes e w c =
    let i = w.0.inside in
    let at = number-spelled 8 fix.at page bytes (omega arith) in
    let here : IsAt page fix.at zeros8 = subst (λ (x : ℕ). IsAt page fix.at (little_bytes 8 x)) c.0 at in
    ap (λ (x : List ℕ). without_slots x fixes) (put_same fix.at zeros8 page here) ∙ clear_without len fixes page bytes e w.2 c.1

-- what is linked is what its slots write
pub linked_written : (len : ℕ) (fixes : List Fix) (page : List ℕ) → IsBytes page → length page ≡ len → AreWritable len fixes → Linked page fixes → with_slots page fixes ≡ page
unfolding with_slots
linked_written len [] page bytes e w l = refl
linked_written len (fix ∷ fixes) page bytes e w l =
    let i = w.0.inside in
    let at = number-spelled 8 fix.at page bytes (omega arith) in
    let here : IsAt page fix.at (little_bytes 8 (word_of fix fixes)) = subst (λ (x : ℕ). IsAt page fix.at (little_bytes 8 x)) l.0 at in
    ap (λ (x : List ℕ). with_slots x fixes) (put_same fix.at (little_bytes 8 (word_of fix fixes)) page here) ∙ linked_written len fixes page bytes e w.2 l.1

-- a page whose slots are erased and written again is as before
pub written_again : (fixes : List Fix) (page : List ℕ) → IsBytes page → AreWritable (length page) fixes → Linked page fixes → with_slots (without_slots page fixes) fixes ≡ page
written_again fixes page bytes w l = with_slots-without_slots (length page) fixes page refl w ∙ linked_written (length page) fixes page bytes refl w l

-- ---- where no slot is left

pub with_slots-none : (page : List ℕ) (rest : List Fix) → length rest ≡ 0 → with_slots page rest ≡ page
unfolding with_slots
with_slots-none page [] e = refl
with_slots-none page (fix ∷ rest) e = absurd (omega arith)

pub without_slots-none : (page : List ℕ) (rest : List Fix) → length rest ≡ 0 → without_slots page rest ≡ page
unfolding without_slots
without_slots-none page [] e = refl
without_slots-none page (fix ∷ rest) e = absurd (omega arith)
