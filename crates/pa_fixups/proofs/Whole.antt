-- A part whose checks find nothing is the bytes of what is read, and the bytes of fixups are read as these.
use Rattle.std.proofs.Common.{append_assoc, ◌≡◌, ℕ, zero, suc, ◌+◌, ◌-◌, ◌*◌, ◌/◌, ◌%◌, ◌≤◌, ◌<◌, ◌^◌, true, leb, eqb, ◌&&◌, min, List, [], ◌∷◌, ◌++◌, length, drop, map, replicate, Option, None, Result, Ok, Err, refl, sym, ap, subst, ◌∙◌, arith}
use Rattle.std.specs.Prelude.{IfOk}
use Rattle.std.specs.List.{after_first}
use Rattle.std.proofs.Math.Nat.{min-eq_left}
use Rattle.std.proofs.lemmas.Bool.{eqb-true, eq-eqb, and_parts, and_from, le-leb, lt-ltb, ltb-true}
use Rattle.std.proofs.lemmas.List.{length-replicate, length-drop, append-nil, nil_from_length}
use Rattle.pa_num.specs.declared.fault.ImageRule.{ImageRule}
use Rattle.pa_num.specs.declared.fault.ImageRule.TheVariants.{H3, F1, F2, F7}
use Rattle.pa_num.specs.declared.fault.Fault.{Fault}
use Rattle.pa_num.specs.declared.fault.Fault.TheVariants.{Refused, Memory}
use Rattle.pa_layout.specs.declared.checks.Flaw.{Flaw}
use Rattle.pa_layout.specs.Fields.{number, numbers, two, spelled, size_of, AllFit, wrong_from, IsAt}
use Rattle.pa_layout.specs.Flaws.{Zeros, Holds, first, flaw_of, AnswersOrMemory, GivesOrMemory, ◌then◌}
use Rattle.pa_layout.specs.Names.{is_zero, ended, are_names, is_name, name_length, has_end, cut, behind}
use Rattle.pa_layout.proofs.Laws.{IsBytes, IsAt-rest, IsAt-end, IsAt-itself, stand-spelled, length-spelled, numbers-stand, numbers-again, length-numbers, size_of-twos, Values, values_at}
use Rattle.pa_layout.proofs.NameLaws.{HaveEnds, length-before_first, are_names-cut, length-cut, ended-cut, cuts-ended, begins}
use Rattle.pa_layout.proofs.Facts.{then_none, none_then, each_none, holds_true}
use Rattle.pa_layout.proofs.CheckLaws.{all_met, none_first, meets_of_none, none_of_meets}
use Rattle.pa_layout.proofs.Pieces.{Piece, piece, Chained, joined, pieces-whole, pieces-apart, length-joined}
use Rattle.pa_fixups.specs.declared.tables.DataAt.{DataAt}
use Rattle.pa_fixups.specs.declared.tables.Fixups.{Fixups}
use Rattle.pa_fixups.specs.Fixups.{starts_end, imports_at, names_at, header_of, segments_of, pages_of, entries, fixups_bytes, fixups_with, FixupsFit, ImportsFit, IsPart, count_in, text_in, taken, starts_checks, table_checks, entry_checks, name_checks, end_check, fixups_flaw}
use Rattle.pa_fixups.proofs.Parts.{starts_room, tables_room}

-- ---- the parts at their places

record Stands (at : DataAt) (fixups : Fixups) (part : List ℕ) : Type 0 where
  pub header : IsAt part 0 (spelled (header_of at (length fixups.imports)))
  pub segments : IsAt part 32 (spelled (segments_of at))
  pub pages : IsAt part 56 (spelled (pages_of at))
  pub starts : IsAt part 78 (spelled (map two fixups.starts))
  pub padding : IsAt part (starts_end at) (replicate (imports_at at - starts_end at) 0)
  pub imports : IsAt part (imports_at at) (spelled (entries 1 fixups.imports))
  pub zero_byte : IsAt part (names_at at (length fixups.imports)) (0 ∷ [])
  pub names : IsAt part (names_at at (length fixups.imports) + 1) (ended fixups.imports)

abbrev pieces : DataAt → Fixups → List Piece
pieces at fixups =
    piece 0 (spelled (header_of at (length fixups.imports))) ∷ piece 32 (spelled (segments_of at)) ∷ piece 56 (spelled (pages_of at)) ∷ piece 78 (spelled (map two fixups.starts))
    ∷ piece (starts_end at) (replicate (imports_at at - starts_end at) 0) ∷ piece (imports_at at) (spelled (entries 1 fixups.imports)) ∷ piece (names_at at (length fixups.imports)) (0 ∷ [])
    ∷ piece (names_at at (length fixups.imports) + 1) (ended fixups.imports) ∷ []

size_of-entries : (place : ℕ) (names : List (List ℕ)) → size_of (entries place names) ≡ 4 * length names
size_of-entries place [] = refl
size_of-entries place (name ∷ names) = omega (arith, size_of-entries (place + (length name + 1)) names)

chained : (at : DataAt) (fixups : Fixups) → length fixups.starts ≡ at.pages → Chained 0 (pieces at fixups) (names_at at (length fixups.imports) + 1 + length (ended fixups.imports))
unfolding header_of segments_of pages_of
chained at fixups e =
    let h = length-spelled (header_of at (length fixups.imports)) in
    let s = length-spelled (segments_of at) in
    let p = length-spelled (pages_of at) in
    let t : length (spelled (map two fixups.starts)) ≡ 2 * at.pages = length-spelled (map two fixups.starts) ∙ size_of-twos fixups.starts ∙ ap (λ (n : ℕ). 2 * n) e in
    let z : length {A = ℕ} (replicate (imports_at at - starts_end at) 0) ≡ imports_at at - starts_end at = length-replicate {A = ℕ} (imports_at at - starts_end at) 0 in
    let i : length (spelled (entries 1 fixups.imports)) ≡ 4 * length fixups.imports = length-spelled (entries 1 fixups.imports) ∙ size_of-entries 1 fixups.imports in
    (refl, (omega arith, (omega arith, (omega arith, (omega arith, (omega arith, (omega arith, (omega arith, omega arith))))))))

-- the parts make the bytes
bytes_are : (at : DataAt) (fixups : Fixups) (part : List ℕ) → length fixups.starts ≡ at.pages → Stands at fixups part → names_at at (length fixups.imports) + 1 + length (ended fixups.imports) ≡ length part → part ≡ fixups_bytes at fixups
unfolding fixups_bytes
bytes_are at fixups part e s end =
    pieces-whole part (pieces at fixups) (subst (Chained 0 (pieces at fixups)) end (chained at fixups e))
    (s.header, (s.segments, (s.pages, (s.starts, (s.padding, (s.imports, (s.zero_byte, (s.names, tt))))))))

-- and stand in them
stands : (at : DataAt) (fixups : Fixups) (part : List ℕ) → length fixups.starts ≡ at.pages → part ≡ fixups_bytes at fixups → Stands at fixups part × (names_at at (length fixups.imports) + 1 + length (ended fixups.imports) ≡ length part)
unfolding fixups_bytes
stands at fixups part e b =
    let end = names_at at (length fixups.imports) + 1 + length (ended fixups.imports) in
    let c = chained at fixups e in
    let here : IsAt part 0 (joined (pieces at fixups)) = subst (λ (l : List ℕ). IsAt part 0 l) b (IsAt-itself part) in
    let a = pieces-apart part 0 (pieces at fixups) end c here in
    let len = length-joined 0 (pieces at fixups) end c in (
      record { header = a.0; segments = a.1.0; pages = a.1.1.0; starts = a.1.1.1.0; padding = a.1.1.1.1.0; imports = a.1.1.1.1.1.0; zero_byte = a.1.1.1.1.1.1.0; names = a.1.1.1.1.1.1.1.0 },
      omega (arith, ap length b),
    )

-- ---- where no check fails, the parts stand

min_is : (a b : ℕ) → a ≤ b → min a b ≡ a
min_is a b le = min-eq_left le

padding_stands : (at : DataAt) (part : List ℕ) → IsBytes part → imports_at at ≤ length part → first (starts_checks at (length part)) part ≡ None → IsAt part (starts_end at) (replicate (imports_at at - starts_end at) 0)
unfolding starts_checks
padding_stands at part bytes le e =
    let low = min_is (starts_end at) (length part) (omega arith) in
    let high = min_is (imports_at at) (length part) le in
    let z = (each_none (starts_checks at (length part)) part e).0 in
    meets_of_none (Zeros H3 (starts_end at) (imports_at at)) part bytes (omega arith, le) (rw (low, high) at z)

record TablesStand (at : DataAt) (count : ℕ) (part : List ℕ) : Type 0 where
  pub header : IsAt part 0 (spelled (header_of at count)) × AllFit (header_of at count)
  pub segments : IsAt part 32 (spelled (segments_of at)) × AllFit (segments_of at)
  pub pages : IsAt part 56 (spelled (pages_of at)) × AllFit (pages_of at)

tables_stand : (at : DataAt) (count : ℕ) (part : List ℕ) → IsBytes part → 78 ≤ length part → first (table_checks at count (length part)) part ≡ None → TablesStand at count part
unfolding table_checks
tables_stand at count part bytes le e =
    let met = all_met (table_checks at count (length part)) part bytes (omega arith, (omega arith, (omega arith, (tt, (tt, tt))))) e in
    record { header = met.0; segments = met.1.0; pages = met.1.1.0 }

-- an import's entry by its two parts
entry_whole : (n : ℕ) (at : ℕ) → n % 2 ^ 9 ≡ 1 → n / 2 ^ 9 ≡ at → n ≡ 1 + 2 ^ 9 * at
entry_whole n at low high = omega arith

-- each name has its end where its entry says
entries_stand : (n place at : ℕ) (part text : List ℕ) → place + 4 * n ≤ length part → first (entry_checks n place part) part ≡ None → first (name_checks n place at part text) part ≡ None
    → (wrong_from place (entries at (cut n text)) part ≡ None) × HaveEnds n text
entries_stand zero place at part text le e f = (refl, tt)
entries_stand (suc n) place at part text le e f =
    let a = then_none (flaw_of (Holds F2 place (eqb (number 4 place part % 2 ^ 9) 1)) part) (first (entry_checks n (place + 4) part) part) e in
    let b = then_none (flaw_of (Holds F7 place (eqb (number 4 place part / 2 ^ 9) at && has_end text)) part) (first (name_checks n (place + 4) (at + (name_length text + 1)) part (after_first is_zero text)) part) f in
    let low : number 4 place part % 2 ^ 9 ≡ 1 = eqb-true _ _ (holds_true F2 place _ part a.0) in
    let h = and_parts (eqb (number 4 place part / 2 ^ 9) at) (has_end text) (holds_true F7 place _ part b.0) in
    let high : number 4 place part / 2 ^ 9 ≡ at = eqb-true _ _ h.0 in
    let end : name_length text < length text = ltb-true _ _ h.1 in
    let rest = entries_stand n (place + 4) (at + (name_length text + 1)) part (after_first is_zero text) (omega arith) a.1 b.1 in
    let inside : leb (place + 4) (length part) ≡ true = le-leb _ _ (omega arith) in
    let value : eqb (number 4 place part) (1 + 2 ^ 9 * at) ≡ true = eq-eqb _ _ (entry_whole (number 4 place part) at low high) in
    let len : length (cut (suc n) text) ≡ suc (length (cut n (after_first is_zero text))) = refl in
    (rw (inside, value, length-before_first text) rest.0, (end, rest.1))

-- ---- what is read

six_nones : (a b c d e f : Option Flaw) → (a then b then c then d then e then f) ≡ None → (a ≡ None) × (b ≡ None) × (c ≡ None) × (d ≡ None) × (e ≡ None) × (f ≡ None)
six_nones a b c d e f h =
    let p = then_none a (b then c then d then e then f) h in
    let q = then_none b (c then d then e then f) p.1 in
    let r = then_none c (d then e then f) q.1 in
    let s = then_none d (e then f) r.1 in
    let t = then_none e f s.1 in
    (p.0, q.0, r.0, s.0, t.0, t.1)

nil_length : (l : List ℕ) → eqb (length l) 0 ≡ true → l ≡ []
nil_length l e = nil_from_length l (eqb-true _ _ e)

pub parts_found : (at : DataAt) (part : List ℕ) → IsBytes part → fixups_flaw at part ≡ None → (part ≡ fixups_bytes at (taken at part)) × FixupsFit at (taken at part)
unfolding fixups_flaw
parts_found at part bytes e =
    let count = count_in part in
    let names = names_at at count in
    let text = text_in at part in
    let f = taken at part in
    let n =
    six_nones (first (starts_checks at (length part)) part) (first (table_checks at count (length part)) part) (first (entry_checks count (imports_at at) part) part) (flaw_of (Zeros F2 names (names + 1)) part)
    (first (name_checks count (imports_at at) 1 part text) part) (flaw_of (end_check count part text) part) e in
    let room = starts_room at part n.0 in
    let room' = tables_room at count part n.1 in
    let tables = tables_stand at count part bytes (omega arith) n.1 in
    let padding = padding_stands at part bytes (omega arith) n.0 in
    let starts = stand-spelled 78 (map two (numbers at.pages 2 78 part)) part bytes (omega arith) (numbers-stand at.pages 78 part (omega arith)) in
    let es = entries_stand count (imports_at at) 1 part text (omega arith) n.2 n.4 in
    let imports = stand-spelled (imports_at at) (entries 1 (cut count text)) part bytes (omega arith) es.0 in
    let one : names + 1 - names ≡ 1 = omega arith in
    let zero_byte : IsAt part names (0 ∷ []) = subst (λ (k : ℕ). IsAt part names (replicate k 0)) one (meets_of_none (Zeros F2 names (names + 1)) part bytes (omega arith, omega arith) n.3) in
    let none : behind count text ≡ [] = nil_length (behind count text) (holds_true F1 _ _ part n.5) in
    let whole : text ≡ ended (cut count text) = ended-cut count text es.1 ∙ ap (λ (l : List ℕ). ended (cut count text) ++ l) none ∙ append-nil (ended (cut count text)) in
    let last : IsAt part (names + 1) (ended (cut count text)) = subst (λ (l : List ℕ). IsAt part (names + 1) l) whole (IsAt-rest part (names + 1) (omega arith)) in
    let k : length (cut count text) ≡ count = length-cut count text in
    let stand : Stands at f part = record {
      header = rw k tables.header.0;
      segments = tables.segments.0;
      pages = tables.pages.0;
      starts = starts.0;
      padding = padding;
      imports = imports.0;
      zero_byte = rw k zero_byte;
      names = rw k last;
    } in
    let end : names + 1 + length (ended (cut count text)) ≡ length part = omega (arith, ap length whole, length-drop (names + 1) part) in
    let pages : length (numbers at.pages 2 78 part) ≡ at.pages = length-numbers at.pages 2 78 part in (
      bytes_are at f part pages stand (rw k end),
      record { pages = pages; header = rw k tables.header.1; segments = tables.segments.1; before_starts = tables.pages.1; starts = starts.1; imports = imports.1; names = are_names-cut count text },
    )

-- ---- what is written

starts_none : (at : DataAt) (part : List ℕ) → imports_at at ≤ length part → IsAt part (starts_end at) (replicate (imports_at at - starts_end at) 0) → first (starts_checks at (length part)) part ≡ None
unfolding starts_checks
starts_none at part le p =
    let low = min_is (starts_end at) (length part) (omega arith) in
    let high = min_is (imports_at at) (length part) le in
    none_first (starts_checks at (length part)) part (rw (low, high) p, (le-leb _ _ (omega arith), (le-leb _ _ (omega arith), tt)))

tables_none : (at : DataAt) (count : ℕ) (part : List ℕ) → names_at at count < length part → TablesStand at count part → first (table_checks at count (length part)) part ≡ None
unfolding table_checks
tables_none at count part lt t =
    none_first (table_checks at count (length part)) part (t.header, (t.segments, (t.pages, (le-leb _ _ (omega arith), (lt-ltb _ _ lt, tt)))))

entries_none : (names : List (List ℕ)) (place at : ℕ) (part : List ℕ) → Values place (entries at names) part → first (entry_checks (length names) place part) part ≡ None
entries_none [] place at part v = refl
entries_none (name ∷ names) place at part v =
    let low : eqb (number 4 place part % 2 ^ 9) 1 ≡ true = eq-eqb _ _ (omega arith) in
    none_then _ _ (none_of_meets (Holds F2 place (eqb (number 4 place part % 2 ^ 9) 1)) part low) (entries_none names (place + 4) (at + (length name + 1)) part v.1)

names_none : (names : List (List ℕ)) (place at : ℕ) (part rest : List ℕ) → are_names names ≡ true → Values place (entries at names) part → first (name_checks (length names) place at part (ended names ++ rest)) part ≡ None
names_none [] place at part rest h v = refl
names_none (name ∷ names) place at part rest h v =
    let a = and_parts (is_name name) (are_names names) h in
    let more = ended names ++ rest in
    let text = name ++ (0 ∷ more) in
    let b = begins name more a.0 in
    let high : eqb (number 4 place part / 2 ^ 9) at ≡ true = eq-eqb _ _ (omega arith) in
    let end : has_end text ≡ true = lt-ltb _ _ b.ends in
    let here = none_of_meets (Holds F7 place (eqb (number 4 place part / 2 ^ 9) at && has_end text)) part (and_from (eqb (number 4 place part / 2 ^ 9) at) (has_end text) high end) in
    let rest_none = names_none names (place + 4) (at + (length name + 1)) part rest a.1 v.1 in
    let one : first (name_checks (suc (length names)) place at part text) part ≡ None = none_then _ _ here (rw (b.rest_is, b.length_is) rest_none) in
    subst (λ (t : List ℕ). first (name_checks (suc (length names)) place at part t) part ≡ None) (sym (append_assoc name (0 ∷ ended names) rest)) one

told_count : (at : DataAt) (count : ℕ) (part : List ℕ) → IsAt part 0 (spelled (header_of at count)) × AllFit (header_of at count) → count_in part ≡ count
unfolding header_of
told_count at count part h = (values_at 0 (header_of at count) part h).1.1.1.1.0

six_none : (a b c d e f : Option Flaw) → a ≡ None → b ≡ None → c ≡ None → d ≡ None → e ≡ None → f ≡ None → (a then b then c then d then e then f) ≡ None
six_none a b c d e f p q r s t u = none_then a _ p (none_then b _ q (none_then c _ r (none_then d _ s (none_then e f t u))))

no_end : (count : ℕ) (part text : List ℕ) → behind count text ≡ [] → flaw_of (end_check count part text) part ≡ None
no_end count part text e = none_of_meets (end_check count part text) part (eq-eqb _ _ (ap length e))

-- the bytes of fixups that fit have no flaw, and are read as these
pub parts_only : (at : DataAt) (part : List ℕ) (fixups : Fixups) → FixupsFit at fixups → part ≡ fixups_bytes at fixups → (fixups_flaw at part ≡ None) × (taken at part ≡ fixups)
unfolding fixups_flaw
parts_only at part fixups fit b =
    let imports : List (List ℕ) = fixups.imports in
    let count = length imports in
    let names = names_at at count in
    let s = stands at fixups part fit.pages b in
    let stand = s.0 in
    let told : count_in part ≡ count = told_count at count part (stand.header, fit.header) in
    let there : names_at at (count_in part) ≡ names = ap (names_at at) told in
    let text : text_in at part ≡ ended imports ++ [] = ap (λ (n : ℕ). drop (n + 1) part) there ∙ IsAt-end part (names + 1) (ended imports) stand.names s.1 ∙ sym (append-nil (ended imports)) in
    let v = values_at (imports_at at) (entries 1 imports) part (stand.imports, fit.imports) in
    let cuts = cuts-ended imports [] fit.names in
    let one : 1 ≡ names + 1 - names = omega arith in
    let zero_byte : IsAt part names (replicate (names + 1 - names) 0) = subst (λ (k : ℕ). IsAt part names (replicate k 0)) one stand.zero_byte in
    let row : numbers (length fixups.starts) 2 78 part ≡ fixups.starts = numbers-again fixups.starts 78 part (values_at 78 (map two fixups.starts) part (stand.starts, fit.starts)) in (
      six_none (first (starts_checks at (length part)) part) (first (table_checks at (count_in part) (length part)) part) (first (entry_checks (count_in part) (imports_at at) part) part)
          (flaw_of (Zeros F2 (names_at at (count_in part)) (names_at at (count_in part) + 1)) part) (first (name_checks (count_in part) (imports_at at) 1 part (text_in at part)) part)
          (flaw_of (end_check (count_in part) part (text_in at part)) part)
          (starts_none at part (omega (arith, s.1)) stand.padding)
          (ap (λ (n : ℕ). first (table_checks at n (length part)) part) told ∙ tables_none at count part (omega (arith, s.1)) (record { header = (stand.header, fit.header); segments = (stand.segments, fit.segments); pages = (stand.pages, fit.before_starts) }))
          (ap (λ (n : ℕ). first (entry_checks n (imports_at at) part) part) told ∙ entries_none imports (imports_at at) 1 part v)
          (ap (λ (n : ℕ). flaw_of (Zeros F2 n (n + 1)) part) there ∙ none_of_meets (Zeros F2 names (names + 1)) part zero_byte)
          (ap (λ (n : ℕ). first (name_checks n (imports_at at) 1 part (text_in at part)) part) told ∙ ap (λ (l : List ℕ). first (name_checks count (imports_at at) 1 part l) part) text ∙ names_none imports (imports_at at) 1 part [] fit.names v)
          (no_end (count_in part) part (text_in at part) (ap (λ (n : ℕ). behind n (text_in at part)) told ∙ ap (behind count) text ∙ cuts.rest_is)),
      ap (λ (n : ℕ). fixups_with (numbers n 2 78 part) (cut (count_in part) (text_in at part))) (sym fit.pages) ∙ ap (λ (l : List ℕ). fixups_with l (cut (count_in part) (text_in at part))) row
          ∙ ap (fixups_with fixups.starts) (ap (λ (n : ℕ). cut n (text_in at part)) told ∙ ap (cut count) text ∙ cuts.names_are),
    )

-- ---- answers

pub is_found : (at : DataAt) (part : List ℕ) (result : Result Fixups (Fault ImageRule)) → IsBytes part → IfOk result (λ fixups. fixups ≡ taken at part) → AnswersOrMemory result (fixups_flaw at part)
    → IfOk result (λ fixups. IsPart at fixups part)
is_found at part (Ok fixups) bytes v a =
    let p = parts_found at part bytes a in
    subst (λ (f : Fixups). IsPart at f part) (sym v) (record { bytes_are = p.0; fit = p.1 })
is_found at part (Err fault) bytes v a = tt

pub is_only : (at : DataAt) (part : List ℕ) (result : Result Fixups (Fault ImageRule)) → IfOk result (λ fixups. fixups ≡ taken at part) → AnswersOrMemory result (fixups_flaw at part)
    → (fixups : Fixups) → IsPart at fixups part → GivesOrMemory fixups result
is_only at part (Ok given) v a fixups p = v ∙ (parts_only at part fixups p.fit p.bytes_are).1
is_only at part (Err (Refused rule place)) v a fixups p = let e = (parts_only at part fixups p.fit p.bytes_are).0 in absurd cc
is_only at part (Err Memory) v a fixups p = tt

-- ---- writing

pub count_small : (at : DataAt) (count : ℕ) → AllFit (header_of at count) → count < 2 ^ 32
unfolding header_of
count_small at count h = omega (arith, h.2.2.2.2.0)

-- the parts, put one after the other
pub parts_put : (at : DataAt) (starts : List ℕ) (imports : List (List ℕ)) (o0 o1 o2 o3 o4 o5 o6 o7 o8 : List ℕ) → o1 ≡ o0 ++ spelled (header_of at (length imports)) → o2 ≡ o1 ++ spelled (segments_of at)
    → o3 ≡ o2 ++ spelled (pages_of at) → o4 ≡ o3 ++ spelled (map two starts) → o5 ≡ o4 ++ replicate (imports_at at - starts_end at) 0 → o6 ≡ o5 ++ spelled (entries 1 imports)
    → o7 ≡ o6 ++ (0 ∷ []) → o8 ≡ o7 ++ ended imports → o8 ≡ o0 ++ fixups_bytes at (fixups_with starts imports)
unfolding fixups_bytes
parts_put at starts imports o0 o1 o2 o3 o4 o5 o6 o7 o8 e1 e2 e3 e4 e5 e6 e7 e8 = rw (e8, e7, e6, e5, e4, e3, e2, e1) (simp (append_assoc, append-nil))

-- how many bytes fixups have
pub length-fixups : (at : DataAt) (fixups : Fixups) → length fixups.starts ≡ at.pages → length (fixups_bytes at fixups) ≡ names_at at (length fixups.imports) + 1 + length (ended fixups.imports)
length-fixups at fixups e = sym (stands at fixups (fixups_bytes at fixups) e refl).1

pub part_written : (at : DataAt) (fixups : Fixups) (starts : List ℕ) (imports : List (List ℕ)) (before after : List ℕ) → FixupsFit at fixups → starts ≡ fixups.starts → imports ≡ fixups.imports → before ≡ [] → after ≡ before ++ fixups_bytes at (fixups_with starts imports) → IsPart at fixups after
part_written at fixups starts imports before after fit es ei eb ea = record { bytes_are = ea ∙ rw (eb, es, ei) refl; fit = fit }

-- what pads the starts is zero
pub padding_zeros : (at : DataAt) (fixups : Fixups) (part : List ℕ) → FixupsFit at fixups → part ≡ fixups_bytes at fixups → IsAt part (starts_end at) (replicate (imports_at at - starts_end at) 0)
padding_zeros at fixups part fit b = (stands at fixups part fit.pages b).0.padding

pub imports_and_starts : (at : DataAt) (starts : List ℕ) (imports : List (List ℕ)) → ImportsFit at imports → length starts ≡ at.pages → AllFit (map two starts) → FixupsFit at (fixups_with starts imports)
imports_and_starts at starts imports i l s = record { pages = l; header = i.header; segments = i.segments; before_starts = i.before_starts; starts = s; imports = i.imports; names = i.names }
