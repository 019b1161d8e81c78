-- The first flaw of a text, word by word and function by function.
use Rattle.std.proofs.Common.{◌≡◌, ℕ, zero, suc, ◌+◌, ◌-◌, ◌≤◌, ◌<◌, List, [], ◌∷◌, length, drop, map, refl, sym, ap, subst, ◌∙◌, arith, Option, Some, None, ◌⊎◌, inl, inr, All}
use Rattle.std.specs.Prelude.{Bool, true, false, cond, not, ◌&&◌, ◌||◌, eqb, ltb}
use Rattle.std.specs.Bool.{OnTrue}
use Rattle.std.specs.Option.{option_or, option_map_or}
use Rattle.std.proofs.lemmas.List.Elements.{All-head, All-tail}
use Rattle.std.proofs.lemmas.Bool.{true≢false, and_parts, ne_eqb, eq-eqb, cases_lt, lt-ltb, ltb-true}
use Rattle.std.proofs.lemmas.Option.{slice_get-get_or, slice_get_past}
use Rattle.pa_object.specs.declared.object.Mark.{Mark}
use Rattle.pa_object.specs.Linkable.{Ascends}
use Rattle.pa_image.specs.declared.image.Image.{Image}
use Rattle.pa_image.specs.Writing.{IsLegal}
use Rattle.pa_check.specs.declared.rule.CheckRule.{CheckRule}
use Rattle.pa_check.specs.declared.rule.CheckRule.TheVariants.{K1, K6}
use Rattle.pa_check.specs.declared.rule.Flaw.{Flaw}
use Rattle.pa_check.specs.declared.window.Window.{Window}
use Rattle.pa_a64.specs.declared.instr.Instr.{Instr}
use Rattle.pa_a64.specs.declared.instr.Instr.TheVariants as i
use Rattle.pa_check.specs.Rows.{may_open, is_pacibsp, may_be_last, is_forbidden, is_stray_branch, is_stray_return, is_misplaced}
use Rattle.pa_check.specs.Text.{Text, text_of, place, word_at, behind, IsFunction, is_marked}
use Rattle.pa_check.specs.Windows.{all_spots, begun, end_from, is_over}
use Rattle.pa_check.specs.Rules.{lowest, word_rule, start_rule, leaves_function, calls_elsewhere, window_broken, window_calls, enters_window}
use Rattle.pa_check.specs.Passing.{round_at, open_behind, spot_at, is_plain, IsInert, IsPassed, rule_at, start_in, start_words}
use Rattle.pa_check.specs.Windowed.{flaw_of, first_word, flaw_from, cut_start}
use Rattle.pa_check.proofs.Legal.{marks_ascend, marks_inside}
use Rattle.pa_check.proofs.Passes.{words_at, first_at, passed_here, came, spots_length}
use Rattle.pa_check.proofs.Settled.{first_stays, opens_none, is_over-next, is_over-end}
use Rattle.pa_check.proofs.Words.{length-text, marked_of, mark_at, ascending, up_to, marked_here, marked_nowhere}

-- ---- word by word

pub flaw_step : (t : Text) (k f : ℕ) (o : Option Window) → IsPassed t k f o → k < length t.words → flaw_from t k ≡ option_or (flaw_of (place k) (word_rule t (all_spots t) k (spot_at t k (first_at t k f) (round_at t k o)))) (flaw_from t (k + 1))
unfolding first_word
flaw_step t k f o p l = let q : suc k ≡ k + 1 = omega arith in ap (first_word t (all_spots t) k) (passed_here t k f o p l) ∙ ap (λ z. option_or (flaw_of (place k) (word_rule t (all_spots t) k (spot_at t k (first_at t k f) (round_at t k o)))) (first_word t (all_spots t) z (drop (k + 1) (all_spots t)))) q

drop_past : {A : Type 0} (xs : List A) (k : ℕ) → length xs ≤ k → drop k xs ≡ []
drop_past [] zero l = refl
drop_past [] (suc k) l = refl
drop_past (x ∷ xs) zero l = absurd (omega arith)
drop_past (x ∷ xs) (suc k) l = drop_past xs k (omega arith)

pub flaw_past : (t : Text) (k : ℕ) → length t.words ≤ k → flaw_from t k ≡ None
unfolding first_word
flaw_past t k l = let n = spots_length t in rw (drop_past (all_spots t) k (omega arith)) refl

-- ---- a word of a function

module _ (t : Text) (first end : ℕ) (f : IsFunction t first end) where
  marked_is : (k : ℕ) → first ≤ k → k < end → (word_at t k).marked ≡ eqb k first
  marked_is k l h = go (cases_lt first k)
    where
      go : ((first < k) ⊎ (k ≤ first)) → (word_at t k).marked ≡ eqb k first
      go (inl a) = let b : eqb k first ≡ false = ne_eqb k first (omega arith) in f.unmarked k a h ∙ sym b
      go (inr a) = let e : first ≡ k = omega arith in let b : eqb k first ≡ true = eq-eqb k first (omega arith) in subst (λ z. (word_at t z).marked ≡ true) e f.marked ∙ sym b

  over_is : (k : ℕ) → first ≤ k → k < end → is_over (behind t k) ≡ eqb (k + 1) end
  over_is k l h = go (cases_lt (k + 1) end)
    where
      go : ((k + 1 < end) ⊎ (end ≤ k + 1)) → is_over (behind t k) ≡ eqb (k + 1) end
      go (inl a) = let b : eqb (k + 1) end ≡ false = ne_eqb (k + 1) end (omega arith) in is_over-next t first end f k l a ∙ sym b
      go (inr a) = let b : eqb (k + 1) end ≡ true = eq-eqb (k + 1) end (omega arith) in is_over-end t first end f k h a ∙ sym b

  ends_at : (n k : ℕ) → k + n ≡ end → first < k → end_from k (drop k t.words) ≡ end
  ends_at zero k e l = go (cases_lt k (length t.words))
    where
      go : ((k < length t.words) ⊎ (length t.words ≤ k)) → end_from k (drop k t.words) ≡ end
      go (inl a) = let q : end ≡ k = omega arith in let m : (word_at t k).marked ≡ true = subst (λ z. (word_at t z).marked ≡ true) q (f.over (omega arith)) in ap (end_from k) (words_at t k a) ∙ rw m (omega arith)
      go (inr a) = ap (end_from k) (drop_past t.words k a) ∙ omega arith
  ends_at (suc n) k e l =
      let a = f.inside in
      let b : k < length t.words = omega arith in
      let q : suc k ≡ k + 1 = omega arith in
      let r = ends_at n (k + 1) (omega arith) (omega arith) in
      ap (end_from k) (words_at t k b) ∙ rw (f.unmarked k l (omega arith)) (subst (λ z. end_from z (behind t k) ≡ end) (sym q) r)

  end_is : (k : ℕ) → first ≤ k → k < end → end_from (suc k) (behind t k) ≡ end
  end_is k l h =
      let q : k + 1 ≡ suc k = omega arith in
      let e : (k + 1) + (end - (k + 1)) ≡ end = omega arith in
      subst (λ z. end_from z (behind t k) ≡ end) q (ends_at (end - (k + 1)) (k + 1) e (omega arith))

  k1_is : (k : ℕ) (b c : Bool) → first ≤ k → (k ≡ first → b ≡ true) → cond b c (eqb k t.start) ≡ (b && c)
  k1_is k true c l h = refl
  k1_is k false c l h = ne_eqb k t.start (λ e. true≢false (sym (h (let a = f.behind_start in omega arith))))

  -- the rule of a word, by what a pass over the function knows
  pub rule_is : (k : ℕ) (window : Option Window) → first ≤ k → k < end → rule_at t k first window
      ≡ lowest (eqb k first && not (is_pacibsp (word_at t k).instr)) (leaves_function first end (place k) (word_at t k).instr || calls_elsewhere t (place k) (word_at t k).instr)
      (is_misplaced (word_at t k).instr || (window_broken window (word_at t k).instr || enters_window (all_spots t) first end (place k) (word_at t k).instr))
      (eqb (k + 1) end && not (may_be_last (word_at t k).instr)) (is_forbidden (word_at t k).instr) (is_stray_branch (window_calls window) (word_at t k).instr) (is_stray_return (eqb k first) (word_at t k).instr)
  rule_is k window l h = rw (marked_is k l h, over_is k l h, end_is k l h, k1_is k (eqb k first) (not (is_pacibsp (word_at t k).instr)) l (λ e. eq-eqb k first e)) refl

  pub function_step : (k : ℕ) (o : Option Window) → first ≤ k → k < end → IsPassed t k first o → flaw_from t k ≡ option_or (flaw_of (place k) (rule_at t k first (round_at t k o))) (flaw_from t (k + 1))
  function_step k o l h p =
      let a = f.inside in let b = f.behind_start in
      let c : ltb k t.start ≡ false = go (ltb k t.start) refl in
      flaw_step t k first o p (omega arith) ∙ rw (c, first_stays t first end f k l h) refl
    where
      go : (b : Bool) → ltb k t.start ≡ b → b ≡ false
      go true e = let a = ltb-true _ _ e in let b = f.behind_start in absurd (omega arith)
      go false e = refl

  -- a word that computes, loads or stores
  plain_opens : (j : Option Instr) → is_plain j ≡ true → may_open j ≡ false
  plain_opens (Some (i.MoveWide op rd imm hw)) e = refl
  plain_opens (Some (i.SumImmediate op rd rn imm shifted)) e = refl
  plain_opens (Some (i.SubsImmediate rd rn imm shifted)) e = refl
  plain_opens (Some (i.Sum op rd rn rm)) e = refl
  plain_opens (Some (i.Logical op rd rn rm)) e = refl
  plain_opens (Some (i.MultiplyAdd op rd rn rm ra)) e = refl
  plain_opens (Some (i.Divide op rd rn rm)) e = refl
  plain_opens (Some (i.Shift op rd rn rm)) e = refl
  plain_opens (Some (i.Bitfield op rd rn immr imms)) e = refl
  plain_opens (Some (i.Csinc rd rn rm condition)) e = refl
  plain_opens (Some i.Nop) e = refl
  plain_opens (Some (i.LoadStore op rt rn imm)) e = refl
  plain_opens (Some (i.LoadStoreWord op rt rn imm)) e = refl
  plain_opens (Some (i.LoadStoreHalf op rt rn imm)) e = refl
  plain_opens (Some (i.LoadStoreByte op rt rn imm)) e = refl
  plain_opens (Some (i.LoadStoreUnscaled op rt rn imm)) e = refl
  plain_opens (Some (i.LoadStorePair op rt rt2 rn imm)) e = refl
  plain_opens other e = absurd (true≢false (sym e))

  abbrev inner_rule : (at : ℕ) → Option Instr → Option CheckRule
  inner_rule at j = lowest false (leaves_function first end at j || calls_elsewhere t at j)
      (is_misplaced j || (window_broken None j || enters_window (all_spots t) first end at j)) false (is_forbidden j) (is_stray_branch false j) (is_stray_return false j)

  plain_rule : (at : ℕ) (j : Option Instr) → is_plain j ≡ true → inner_rule at j ≡ None
  plain_rule at (Some (i.MoveWide op rd imm hw)) e = refl
  plain_rule at (Some (i.SumImmediate op rd rn imm shifted)) e = refl
  plain_rule at (Some (i.SubsImmediate rd rn imm shifted)) e = refl
  plain_rule at (Some (i.Sum op rd rn rm)) e = refl
  plain_rule at (Some (i.Logical op rd rn rm)) e = refl
  plain_rule at (Some (i.MultiplyAdd op rd rn rm ra)) e = refl
  plain_rule at (Some (i.Divide op rd rn rm)) e = refl
  plain_rule at (Some (i.Shift op rd rn rm)) e = refl
  plain_rule at (Some (i.Bitfield op rd rn immr imms)) e = refl
  plain_rule at (Some (i.Csinc rd rn rm condition)) e = refl
  plain_rule at (Some i.Nop) e = refl
  plain_rule at (Some (i.LoadStore op rt rn imm)) e = refl
  plain_rule at (Some (i.LoadStoreWord op rt rn imm)) e = refl
  plain_rule at (Some (i.LoadStoreHalf op rt rn imm)) e = refl
  plain_rule at (Some (i.LoadStoreByte op rt rn imm)) e = refl
  plain_rule at (Some (i.LoadStoreUnscaled op rt rn imm)) e = refl
  plain_rule at (Some (i.LoadStorePair op rt rt2 rn imm)) e = refl
  plain_rule at other e = absurd (true≢false (sym e))

  pub plain_inert : (k : ℕ) → first ≤ k → k < end → eqb k first ≡ false → eqb (k + 1) end ≡ false → is_plain (word_at t k).instr ≡ true → IsInert t k first None
  plain_inert k l h a b p =
      let r : round_at t k None ≡ None = ap begun (opens_none t first end f k (plain_opens _ p)) in
      record {
        closed = refl;
        rule = subst (λ z. rule_at t k first z ≡ None) (sym r) (rule_is k None l h ∙ rw (a, b) (plain_rule (place k) (word_at t k).instr p));
        behind = subst (λ z. open_behind t k z ≡ None) (sym r) refl;
      }

  pub plain_if : (k : ℕ) (j : Option Instr) (current : Option Window) (b : Bool) → first ≤ k → k < end → (ltb first k && ltb (k + 1) end) ≡ true → current ≡ None → j ≡ (word_at t k).instr → b ≡ is_plain j → OnTrue b (IsInert t k first current)
  plain_if k j current false l h a c e q = tt
  plain_if k j current true l h a c e q =
      let p = and_parts (ltb first k) (ltb (k + 1) end) a in
      let x : first < k = ltb-true first k p.0 in let y : k + 1 < end = ltb-true (k + 1) end p.1 in
      subst (λ z. IsInert t k first z) (sym c) (plain_inert k l h (ne_eqb k first (omega arith)) (ne_eqb (k + 1) end (omega arith)) (ap is_plain (sym e) ∙ sym q))

-- ---- functions

pub start_at : (image : Image) (i : ℕ) → i < length image.marks → start_in image i ≡ mark_at image.marks i
start_at image i l = ap (λ o. option_map_or (λ (mark : Mark). mark.at) o (length image.text)) (slice_get-get_or image.marks i (record { name = []; at = 0; public = false }) l)

pub start_past : (image : Image) (i : ℕ) → length image.marks ≤ i → start_in image i ≡ length image.text
start_past image i l = ap (λ o. option_map_or (λ (mark : Mark). mark.at) o (length image.text)) (slice_get_past image.marks i l)

inside : (n : ℕ) (marks : List Mark) (i : ℕ) → All (λ mark. mark.at < n) marks → i < length marks → mark_at marks i < n
inside n [] i a l = absurd (omega arith)
inside n (m ∷ marks) zero a l = All-head (λ mark. mark.at < n) m marks a
inside n (m ∷ marks) (suc i) a l = inside n marks i (All-tail (λ mark. mark.at < n) m marks a) (omega arith)

pub mark_inside : (image : Image) → IsLegal image → (i : ℕ) → i < length image.marks → mark_at image.marks i < length image.text
mark_inside image legal i l = inside (length image.text) image.marks i (marks_inside image legal) l

pub is_function : (image : Image) → IsLegal image → start_words image ≤ start_in image 0 → (i : ℕ) → i < length image.marks → IsFunction (text_of image) (start_in image i) (start_in image (i + 1))
is_function image legal behind_start i l = go (cases_lt (i + 1) (length image.marks))
  where
    here : start_in image i ≡ mark_at image.marks i
    here = start_at image i l

    marks : Ascends (map (λ mark. mark.at) image.marks)
    marks = marks_ascend image legal

    low : mark_at image.marks 0 ≤ mark_at image.marks i
    low = up_to image.marks 0 i marks (omega arith) l

    first : start_in image 0 ≡ mark_at image.marks 0
    first = start_at image 0 (omega arith)

    begins : (text_of image).start ≤ start_in image i
    begins = let a = here in let b = low in let c = first in let d = mark_inside image legal 0 (omega arith) in let e = behind_start in omega arith

    marked : (word_at (text_of image) (start_in image i)).marked ≡ true
    marked = let a = mark_inside image legal i l in rw here (marked_of image (mark_at image.marks i) a ∙ marked_here image.marks i (mark_at image.marks i) l refl)

    not_between : (k n : ℕ) → mark_at image.marks i < k → k < length image.text → ((j : ℕ) → i < j → j < length image.marks → k < mark_at image.marks j) → (word_at (text_of image) k).marked ≡ false
    not_between k n a b above = marked_of image k b ∙ marked_nowhere image.marks k (λ j h e. no j h e (cases_lt i j))
      where
        no : (j : ℕ) → j < length image.marks → mark_at image.marks j ≡ k → ((i < j) ⊎ (j ≤ i)) → ⊥
        no j h e (inl c) = let d = above j c h in omega arith
        no j h e (inr c) = let d = up_to image.marks j i marks c l in omega arith

    go : ((i + 1 < length image.marks) ⊎ (length image.marks ≤ i + 1)) → IsFunction (text_of image) (start_in image i) (start_in image (i + 1))
    go (inl h) =
        let n = length-text image in
        let next = start_at image (i + 1) h in
        let a = ascending image.marks i (i + 1) marks (omega arith) h in
        let b = mark_inside image legal (i + 1) h in
        let c = here in
        record {
          some = omega arith;
          inside = omega arith;
          marked = marked;
          unmarked = λ k d e. not_between k 0 (omega arith) (omega arith) (λ j u v. let z = up_to image.marks (i + 1) j marks (omega arith) v in omega arith);
          over = λ d. rw next (marked_of image (mark_at image.marks (i + 1)) b ∙ marked_here image.marks (i + 1) (mark_at image.marks (i + 1)) h refl);
          behind_start = begins;
        }
    go (inr h) =
        let n = length-text image in
        let next = start_past image (i + 1) h in
        let b = mark_inside image legal i l in
        let c = here in
        record {
          some = omega arith;
          inside = omega arith;
          marked = marked;
          unmarked = λ k d e. not_between k 0 (omega arith) (omega arith) (λ j u v. absurd (omega arith));
          over = λ d. absurd (omega arith);
          behind_start = begins;
        }

-- ---- what a loop over a function's words takes from it

pub function_stops : (t : Text) (first end : ℕ) → IsFunction t first end → (k : ℕ) (o : Option Window) (r : CheckRule) → first ≤ k → k < end → IsPassed t k first o → rule_at t k first (round_at t k o) ≡ Some r → flaw_from t k ≡ Some (record { offset = place k; rule = r })
function_stops t first end f k o r l h p e = function_step t first end f k o l h p ∙ rw e refl

pub function_goes : (t : Text) (first end : ℕ) → IsFunction t first end → (k : ℕ) (o : Option Window) → first ≤ k → k < end → IsPassed t k first o → rule_at t k first (round_at t k o) ≡ None → flaw_from t k ≡ flaw_from t (k + 1)
function_goes t first end f k o l h p e = function_step t first end f k o l h p ∙ rw e refl

-- ---- the words of `start`

pub start_step : (t : Text) (k : ℕ) (r : Option CheckRule) → k < t.start → k < length t.words → ((first : ℕ) (window : Option Window) → r ≡ start_rule t k (spot_at t k first window)) → flaw_from t k ≡ option_or (flaw_of (place k) r) (flaw_from t (k + 1))
start_step t k r l h e =
    let s = came t k (omega arith) in
    let c : ltb k t.start ≡ true = lt-ltb _ _ l in
    flaw_step t k s.first s.current s.passed h ∙ rw (c, sym (e (first_at t k s.first) (round_at t k s.current))) refl

pub start_unmarked : (t : Text) (k : ℕ) → ((first : ℕ) (window : Option Window) → None ≡ start_rule t k (spot_at t k first window)) → (word_at t k).marked ≡ false
start_unmarked t k e = go (word_at t k).marked refl (e 0 None)
  where
    go : (b : Bool) → (word_at t k).marked ≡ b → None ≡ start_rule t k (spot_at t k 0 None) → b ≡ false
    go true q z = absurd (k1 (rw q at z))
      where
        k1 : None ≡ Some K1 → ⊥
        k1 z = grind (arith, z)
    go false q z = refl

-- up to the first function only its first word is marked
pub marked_first : (image : Image) → IsLegal image → (k : ℕ) → k ≤ start_in image 0 → k < length image.text → is_marked image.marks k ≡ eqb k (start_in image 0)
marked_first image legal k h l = go (cases_lt 0 (length image.marks))
  where
    go : ((0 < length image.marks) ⊎ (length image.marks ≤ 0)) → is_marked image.marks k ≡ eqb k (start_in image 0)
    go (inr n) = let e = start_past image 0 n in let b : eqb k (start_in image 0) ≡ false = ne_eqb k (start_in image 0) (omega arith) in marked_nowhere image.marks k (λ i u v. absurd (omega arith)) ∙ sym b
    go (inl n) = at (cases_lt k (start_in image 0))
      where
        e : start_in image 0 ≡ mark_at image.marks 0
        e = start_at image 0 n

        at : ((k < start_in image 0) ⊎ (start_in image 0 ≤ k)) → is_marked image.marks k ≡ eqb k (start_in image 0)
        at (inl a) =
            let b : eqb k (start_in image 0) ≡ false = ne_eqb k (start_in image 0) (omega arith) in
            let f = e in
            marked_nowhere image.marks k (λ i u v. let z = up_to image.marks 0 i (marks_ascend image legal) (omega arith) u in omega arith) ∙ sym b
        at (inr a) =
            let b : eqb k (start_in image 0) ≡ true = eq-eqb k (start_in image 0) (omega arith) in
            let f = e in
            marked_here image.marks 0 k n (omega arith) ∙ sym b

-- the word behind `start` that isn't marked
pub first_missing : (t : Text) → t.start < length t.words → (word_at t t.start).marked ≡ false → flaw_from t t.start ≡ Some (record { offset = place t.start; rule = K1 })
first_missing t l m =
    let s = came t t.start (omega arith) in
    let c : ltb t.start t.start ≡ false = go (ltb t.start t.start) refl in
    let d : eqb t.start t.start ≡ true = eq-eqb t.start t.start refl in
    flaw_step t t.start s.first s.current s.passed l ∙ rw (c, m, d) refl
  where
    go : (b : Bool) → ltb t.start t.start ≡ b → b ≡ false
    go true e = let a = ltb-true _ _ e in absurd (omega arith)
    go false e = refl

-- ---- the whole text, where no word of `start` is a flaw

-- a text that ends inside `start`
pub cut_text : (image : Image) → IsLegal image → length image.text < (text_of image).start → flaw_from (text_of image) 0 ≡ flaw_from (text_of image) (start_words image) → option_or (flaw_from (text_of image) 0) (cut_start (text_of image)) ≡ Some (record { offset = place (length image.text); rule = K6 })
cut_text image legal l e =
    let n = length-text image in
    let a : flaw_from (text_of image) 0 ≡ None = e ∙ flaw_past (text_of image) (start_words image) (omega arith) in
    let b : ltb (length (text_of image).words) (text_of image).start ≡ true = lt-ltb _ _ (omega arith) in
    rw (a, b, n) refl

uncut : (image : Image) → (text_of image).start ≤ length image.text → cut_start (text_of image) ≡ None
uncut image l = go (ltb (length (text_of image).words) (text_of image).start) refl
  where
    go : (b : Bool) → ltb (length (text_of image).words) (text_of image).start ≡ b → cond {A = Option Flaw} b (Some (record { offset = place (length (text_of image).words); rule = K6 })) None ≡ None
    go true e = let a = ltb-true _ _ e in let n = length-text image in absurd (omega arith)
    go false e = refl

or_none : (o p : Option Flaw) → p ≡ None → option_or o p ≡ o
or_none None p e = e
or_none (Some x) p e = refl

-- no function begins behind `start`
pub missing_text : (image : Image) → IsLegal image → (text_of image).start ≤ length image.text → (text_of image).start < start_in image 0 → flaw_from (text_of image) 0 ≡ flaw_from (text_of image) (start_words image) → option_or (flaw_from (text_of image) 0) (cut_start (text_of image)) ≡ Some (record { offset = place (text_of image).start; rule = K1 })
missing_text image legal l h e =
    let n = length-text image in
    let k : start_words image ≡ (text_of image).start = omega arith in
    let m : (word_at (text_of image) (text_of image).start).marked ≡ false = marked_of image (text_of image).start below ∙ marked_first image legal (text_of image).start (omega arith) below ∙ ne_eqb _ _ (omega arith) in
    or_none _ _ (uncut image l) ∙ e ∙ ap (flaw_from (text_of image)) k ∙ first_missing (text_of image) (let b = below in omega arith) m
  where
    below : (text_of image).start < length image.text
    below = go (cases_lt 0 (length image.marks))
      where
        go : ((0 < length image.marks) ⊎ (length image.marks ≤ 0)) → (text_of image).start < length image.text
        go (inl a) = let b = start_at image 0 a in let c = mark_inside image legal 0 a in omega arith
        go (inr a) = let b = start_past image 0 a in omega arith

-- the first function begins behind `start`
pub whole_text : (image : Image) → (text_of image).start ≤ length image.text → start_in image 0 ≤ (text_of image).start → start_words image ≤ start_in image 0 → flaw_from (text_of image) 0 ≡ flaw_from (text_of image) (start_words image) → option_or (flaw_from (text_of image) 0) (cut_start (text_of image)) ≡ flaw_from (text_of image) (start_in image 0)
whole_text image l h g e =
    let k : start_words image ≡ start_in image 0 = omega arith in
    or_none _ _ (uncut image l) ∙ e ∙ ap (flaw_from (text_of image)) k
