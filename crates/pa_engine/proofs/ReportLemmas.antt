-- The report as the pieces in which it is written.
use Rattle.std.proofs.Common.{◌≡◌, ℕ, List, ◌++◌, [], reverse, flat_map, codes, Bool, cond, append_assoc, refl}
use Rattle.std.proofs.lemmas.List.{reverse-reverse}
use Rattle.std.proofs.lemmas.List.Sorted.{sum_by-IsPermutation, IsPermutation-reverse}
use Rattle.pa_pac.specs.declared.event.Event.{Event}
use Rattle.pa_pac.specs.declared.event.Entry.{Entry}
use Rattle.pa_object.specs.declared.end.End.{End}
use Rattle.pa_engine.specs.Report.{count_of, is_sign, is_take, is_land, is_unsigned, output_line, end_line, counts_line, shown_text, report_text}

count_of-reverse : (kind : Event → Bool) (entries : List Entry) → count_of kind (reverse entries) ≡ count_of kind entries
count_of-reverse kind entries =
    sum_by-IsPermutation (λ (entry : Entry). cond (kind entry.event) 1 0) entries (reverse entries) (IsPermutation-reverse entries)

counts_line-reverse : (entries : List Entry) → counts_line (reverse entries) ≡ counts_line entries
unfolding counts_line
counts_line-reverse entries =
    rw (count_of-reverse is_sign entries, count_of-reverse is_take entries, count_of-reverse is_land entries, count_of-reverse is_unsigned entries) refl

-- five parts joined from the left or from the right
regroup : (a b c d e f : List ℕ) → ((((a ++ b) ++ c) ++ d) ++ e) ++ f ≡ a ++ (b ++ (((c ++ d) ++ e) ++ f))
regroup a b c d e f = simp append_assoc

-- the page before the output, the output, the page behind it and the lines of the log
pub report_text-pages : (output : List ℕ) (end : End) (entries : List Entry) (short : Bool) (first head second feed ended counted : List ℕ)
    → first ≡ [] → head ≡ first ++ output_line output
    → second ≡ [] → feed ≡ second ++ codes "\n" → ended ≡ feed ++ end_line end → counted ≡ ended ++ counts_line entries
    → report_text output end (reverse entries) short ≡ head ++ (output ++ (counted ++ flat_map (shown_text short) entries))
unfolding report_text
report_text-pages output end entries short first head second feed ended counted e1 e2 e3 e4 e5 e6 =
    rw (reverse-reverse entries, counts_line-reverse entries, e6, e5, e4, e3, e2, e1)
    (regroup (output_line output) output (codes "\n") (end_line end) (counts_line entries) (flat_map (shown_text short) entries))

-- what stands behind the output
abbrev pub behind_output : End → List Entry → Bool → List ℕ
behind_output end entries short = ((codes "\n" ++ end_line end) ++ counts_line entries) ++ flat_map (shown_text short) entries

-- the page before the output, the output, and what stands behind it
pub report_text-head : (output : List ℕ) (end : End) (entries : List Entry) (short : Bool) (first head : List ℕ)
    → first ≡ [] → head ≡ first ++ output_line output → report_text output end (reverse entries) short ≡ head ++ (output ++ behind_output end entries short)
report_text-head output end entries short first head e1 e2 =
    report_text-pages output end entries short first head [] _ _ _ e1 e2 refl refl refl refl
