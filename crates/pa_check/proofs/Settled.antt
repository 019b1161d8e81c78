-- Where no window is open: behind a word that ends any, and behind eight words that open none.
use Rattle.std.proofs.Common.{◌≡◌, ℕ, zero, suc, ◌+◌, ◌-◌, ◌≤◌, ◌<◌, List, [], ◌∷◌, length, drop, refl, sym, ap, subst, ◌∙◌, arith, Option, Some, None, ◌⊎◌, inl, inr}
use Rattle.std.specs.Prelude.{IfSome, Bool, true, false, cond, not, ◌&&◌, ◌||◌, leb, ltb, eqb}
use Rattle.std.proofs.lemmas.Bool.{true≢false, and_parts, not-true, le-leb, cases_lt}
use Rattle.pa_num.specs.Arithmetic.{add64}
use Rattle.pa_a64.specs.declared.instr.Instr.{Instr}
use Rattle.pa_a64.specs.declared.instr.Instr.TheVariants as i
use Rattle.pa_a64.specs.declared.instr.SumImmediateOp.TheVariants as immediate
use Rattle.pa_a64.specs.declared.instr.AuthenticateOp.TheVariants.{Autia}
use Rattle.pa_a64.specs.declared.instr.PlainOp.TheVariants.{Autiza}
use Rattle.pa_object.specs.Effects.{immediate_of}
use Rattle.pa_check.specs.declared.word.Word.{Word}
use Rattle.pa_check.specs.declared.window.Opening.{Opening}
use Rattle.pa_check.specs.declared.window.Opening.TheVariants.{Taken, Made}
use Rattle.pa_check.specs.declared.window.Window.{Window}
use Rattle.pa_check.specs.Rows.{is_pair, closes, may_stand, may_open, may_make, ends_any}
use Rattle.pa_check.specs.Text.{Text, place, word_at, behind, is_entry, page, IsFunction}
use Rattle.pa_check.specs.Windows.{is_zero, made_by, opened_by, opened_at, opening_words, is_last_of, is_over, next_in, begun}
use Rattle.pa_check.specs.Passing.{goes_on, farther, round_at, open_behind, IsPassed}
use Rattle.pa_check.proofs.Passes.{words_at, first_at, passed_next, home}

-- a window that is open was opened at most eight words before
pub record Opened (t : Text) (first k : ℕ) (r : Window) : Type 0 where
  pub least : 1 ≤ r.behind
  pub most : r.behind ≤ 8
  pub back : ℕ
  pub from : first ≤ back
  pub there : back + r.behind ≡ k
  pub opener : opened_at t back (word_at t back) (behind t back) ≡ Some r.opening

abbrev pub OpenedIf : Text → (first k : ℕ) → Option Window → Type 0
OpenedIf t first k None = Unit {0}
OpenedIf t first k (Some r) = Opened t first k r

few_behind : (c : Opening) (d : ℕ) (j : Option Instr) → 1 ≤ d → is_last_of c d j ≡ false → d ≤ 7
few_behind c d j l e = go c (cases_lt d 8) e
  where
    go : (c : Opening) → ((d < 8) ⊎ (8 ≤ d)) → is_last_of c d j ≡ false → d ≤ 7
    go c (inl h) e = omega arith
    go Taken (inr h) e = let a : leb 1 d ≡ true = le-leb _ _ (omega arith) in let b : leb 8 d ≡ true = le-leb _ _ h in absurd (true≢false (rw (a, b) at e))
    go (Made v) (inr h) e = let a : leb 2 d ≡ true = le-leb _ _ (omega arith) in let b : leb 8 d ≡ true = le-leb _ _ h in absurd (true≢false (rw (a, b) at e))

opened_next : (t : Text) (first k : ℕ) (o : Option Window) → first ≤ k → OpenedIf t first k o → OpenedIf t first (k + 1) (open_behind t k (round_at t k o))
opened_next t first k None l h = go (opened_at t k (word_at t k) (behind t k)) refl (is_over (behind t k))
  where
    go : (c : Option Opening) → opened_at t k (word_at t k) (behind t k) ≡ c → (b : Bool) → OpenedIf t first (k + 1) (cond (goes_on (begun c) (word_at t k).instr && not b) (farther (begun c)) None)
    go None q b = tt
    go (Some c) q true = tt
    go (Some c) q false = record { least = omega arith; most = omega arith; back = k; from = l; there = refl; opener = q }
opened_next t first k (Some r) l h = go (is_zero r.behind || not (is_last_of r.opening r.behind (word_at t k).instr)) refl (is_over (behind t k))
  where
    inner : (d : ℕ) → 1 ≤ d → (is_zero d || not (is_last_of r.opening d (word_at t k).instr)) ≡ true → d ≤ 7
    inner zero l q = omega arith
    inner (suc d) l q = few_behind r.opening (suc d) (word_at t k).instr l (not-true _ q)

    go : (b : Bool) → (is_zero r.behind || not (is_last_of r.opening r.behind (word_at t k).instr)) ≡ b → (c : Bool) → OpenedIf t first (k + 1) (cond (b && not c) (farther (Some r)) None)
    go true q true = tt
    go false q c = tt
    go true q false = let m = inner r.behind h.least q in let u = h.there in record { least = omega arith; most = omega arith; back = h.back; from = h.from; there = omega arith; opener = h.opener }

drop_past : {A : Type 0} (xs : List A) (k : ℕ) → length xs ≤ k → drop k xs ≡ []
drop_past [] zero l = refl
drop_past [] (suc k) l = refl
drop_past (x ∷ xs) zero l = absurd (omega arith)
drop_past (x ∷ xs) (suc k) l = drop_past xs k (omega arith)

-- ---- in a function

pub record State (t : Text) (first k : ℕ) : Type 0 where
  pub current : Option Window
  pub passed : IsPassed t k first current
  pub opened : OpenedIf t first k current

module _ (t : Text) (first end : ℕ) (f : IsFunction t first end) where
  pub first_stays : (k : ℕ) → first ≤ k → k < end → first_at t k first ≡ first
  first_stays k l h = go (cases_lt first k)
    where
      go : ((first < k) ⊎ (k ≤ first)) → first_at t k first ≡ first
      go (inl a) = rw (f.unmarked k a h) refl
      go (inr a) = let e : k ≡ first = omega arith in subst (λ z. cond (word_at t z).marked z first ≡ first) (sym e) (rw f.marked refl)

  pub passed_in : (k : ℕ) (o : Option Window) → first ≤ k → k < end → IsPassed t k first o → IsPassed t (k + 1) first (open_behind t k (round_at t k o))
  passed_in k o l h p =
      let a = f.inside in
      let b : k < length t.words = omega arith in
      subst (λ z. IsPassed t (k + 1) z (open_behind t k (round_at t k o))) (first_stays k l h) (passed_next t k first o p b)

  state_from : (j : ℕ) → first + j ≤ end → State t first (first + j)
  state_from zero h = let e : first ≡ first + 0 = omega arith in subst (λ z. State t first z) e (record { current = None; passed = home t first end f; opened = tt })
  state_from (suc j) h =
      let s = state_from j (omega arith) in
      let e : first + j + 1 ≡ first + suc j = omega arith in
      subst (λ z. State t first z) e (record {
        current = open_behind t (first + j) (round_at t (first + j) s.current);
        passed = passed_in (first + j) s.current (omega arith) (omega arith) s.passed;
        opened = opened_next t first (first + j) s.current (omega arith) s.opened;
      })

  state_at : (k : ℕ) → first ≤ k → k ≤ end → State t first k
  state_at k l h = let e : first + (k - first) ≡ k = omega arith in subst (λ z. State t first z) e (state_from (k - first) (omega arith))

  -- the word behind one in its function
  pub next_word : (k : ℕ) → first ≤ k → k + 1 < end → next_in (behind t k) ≡ (word_at t (k + 1)).instr
  next_word k l h =
      let a = f.inside in
      let b : k + 1 < length t.words = omega arith in
      let c : (word_at t (k + 1)).marked ≡ false = f.unmarked (k + 1) (omega arith) h in
      ap next_in (words_at t (k + 1) b) ∙ rw c refl

  -- ---- a word that ends any window

  made_adds : (from : ℕ) (j : Option Instr) (v : ℕ) → made_by t from j ≡ Some (Made v) → may_make j ≡ true
  made_adds from (Some (i.SumImmediate immediate.Add rd rn imm shifted)) v h = go (eqb rd 16) (eqb rn 16) h
    where
      go : (a b : Bool) → cond (a && (b && is_entry t (add64 from (immediate_of imm shifted)))) (Some (Made from)) None ≡ Some (Made v) → (a && b) ≡ true
      go true true h = refl
      go true false h = absurd (grind (arith, h))
      go false b h = absurd (grind (arith, h))
  made_adds from other v h = absurd (grind (arith, h))

  taken_not : (b : Bool) (v : ℕ) → cond b (Some Taken) None ≡ Some (Made v) → ⊥
  taken_not true v h = grind (arith, h)
  taken_not false v h = grind (arith, h)

  opened_makes : (at v : ℕ) (j next : Option Instr) → opened_by t at j next ≡ Some (Made v) → may_make next ≡ true
  opened_makes at v (Some (i.Authenticate Autia rd rn)) next h = absurd (taken_not (is_pair rd rn) v h)
  opened_makes at v (Some (i.Plain Autiza rd)) next h = absurd (taken_not (eqb rd 16) v h)
  opened_makes at v (Some (i.Adrp rd pages)) next h = go (eqb rd 16) h
    where
      go : (b : Bool) → cond b (made_by t (page at pages) next) None ≡ Some (Made v) → may_make next ≡ true
      go true h = made_adds (page at pages) next v h
      go false h = absurd (grind (arith, h))
  opened_makes at v other next h = absurd (grind (arith, h))

  opened_at_makes : (k v : ℕ) (b : Bool) → cond b None (opened_by t (place k) (word_at t k).instr (next_in (behind t k))) ≡ Some (Made v) → may_make (next_in (behind t k)) ≡ true
  opened_at_makes k v true h = absurd (grind (arith, h))
  opened_at_makes k v false h = opened_makes (place k) v (word_at t k).instr (next_in (behind t k)) h

  may_open_opens : (at : ℕ) (j next : Option Instr) → may_open j ≡ false → opened_by t at j next ≡ None
  may_open_opens at (Some (i.Authenticate Autia rd rn)) next h = rw h refl
  may_open_opens at (Some (i.Plain Autiza rd)) next h = rw h refl
  may_open_opens at (Some (i.Adrp rd pages)) next h = rw h refl
  may_open_opens at other next h = refl

  pub opens_none : (k : ℕ) → may_open (word_at t k).instr ≡ false → opened_at t k (word_at t k) (behind t k) ≡ None
  opens_none k h = go (ltb k t.start)
    where
      go : (b : Bool) → cond b None (opened_by t (place k) (word_at t k).instr (next_in (behind t k))) ≡ None
      go true = refl
      go false = may_open_opens (place k) (word_at t k).instr (next_in (behind t k)) h

  record Ends (j : Option Instr) : Type 0 where
    stands : may_stand j ≡ false
    opens : may_open j ≡ false
    makes : may_make j ≡ false

  ends_parts : (j : Option Instr) → ends_any j ≡ true → Ends j
  ends_parts j h = let a = and_parts _ _ h in let b = and_parts _ _ a.1 in record { stands = not-true _ a.0; opens = not-true _ b.0; makes = not-true _ b.1 }

  last_there : (c : Opening) (d : ℕ) (j : Option Instr) → leb (opening_words c) d ≡ true → may_stand j ≡ false → is_last_of c d j ≡ true
  last_there c d j l s = rw (l, s) (go (leb 8 d) (closes j))
    where
      go : (a b : Bool) → (a || (b || true)) ≡ true
      go true b = refl
      go false true = refl
      go false false = refl

  -- the word is the last of the window, as it isn't the ADD that made it
  is_last : (k : ℕ) (r : Window) → first ≤ k → k < end → Opened t first k r → Ends (word_at t k).instr → is_last_of r.opening r.behind (word_at t k).instr ≡ true
  is_last k r l h o e = go r.opening refl
    where
      go : (c : Opening) → r.opening ≡ c → is_last_of c r.behind (word_at t k).instr ≡ true
      go Taken q = let a = o.least in last_there Taken r.behind (word_at t k).instr (le-leb _ _ a) e.stands
      go (Made v) q = at (cases_lt r.behind 2)
        where
          at : ((r.behind < 2) ⊎ (2 ≤ r.behind)) → is_last_of (Made v) r.behind (word_at t k).instr ≡ true
          at (inr a) = last_there (Made v) r.behind (word_at t k).instr (le-leb _ _ a) e.stands
          at (inl a) =
              let b = o.least in let u = o.there in
              let c : k ≡ o.back + 1 = omega arith in
              let m = opened_at_makes o.back v (ltb o.back t.start) (o.opener ∙ ap (λ z. Some z) q) in
              absurd (true≢false (sym m ∙ one_back c))
            where
              one_back : k ≡ o.back + 1 → may_make (next_in (behind t o.back)) ≡ false
              one_back c =
                  let a = f.inside in
                  let b : o.back + 1 < length t.words = omega arith in
                  ap (λ z. may_make (next_in z)) (words_at t (o.back + 1) b) ∙ subst (λ z. may_make (cond (word_at t z).marked None (word_at t z).instr) ≡ false) c (no_make (word_at t k).marked)
                where
                  no_make : (b : Bool) → may_make (cond b None (word_at t k).instr) ≡ false
                  no_make true = refl
                  no_make false = e.makes

  nothing_goes : (b : Bool) (r : Option Window) → cond (false && b) (farther r) None ≡ None
  nothing_goes b r = refl

  closed_behind : (k : ℕ) → first ≤ k → k < end → (s : State t first k) → Ends (word_at t k).instr → open_behind t k (round_at t k s.current) ≡ None
  closed_behind k l h s e = go s.current s.opened
    where
      go : (o : Option Window) → OpenedIf t first k o → open_behind t k (round_at t k o) ≡ None
      go None q = rw (opens_none k e.opens) refl
      go (Some r) q =
          let a = is_last k r l h q e in
          let z : is_zero r.behind ≡ false = positive r.behind q.least in
          rw (z, a) refl
        where
          positive : (d : ℕ) → 1 ≤ d → is_zero d ≡ false
          positive zero c = absurd (omega arith)
          positive (suc d) c = refl

  -- behind a word that ends any window none is open
  pub settled_behind : (k : ℕ) → first ≤ k → k < end → ends_any (word_at t k).instr ≡ true → IsPassed t (k + 1) first None
  settled_behind k l h e =
      let s = state_at k l (omega arith) in
      subst (λ z. IsPassed t (k + 1) first z) (closed_behind k l h s (ends_parts _ e)) (passed_in k s.current l h s.passed)

  -- none is open where eight words before open none, or all from the function's first on
  pub settled_here : (k low : ℕ) → first ≤ low → low ≤ k → k < end → ((low ≡ first) ⊎ (low + 8 ≤ k)) → ((j : ℕ) → low ≤ j → j < k → may_open (word_at t j).instr ≡ false) → IsPassed t k first None
  settled_here k low l m h far quiet = let s = state_at k (omega arith) (omega arith) in go s.current s.passed s.opened
    where
      go : (o : Option Window) → IsPassed t k first o → OpenedIf t first k o → IsPassed t k first None
      go None p q = p
      go (Some r) p q = absurd (go2 (cases_lt q.back low))
        where
          go2 : ((q.back < low) ⊎ (low ≤ q.back)) → ⊥
          go2 (inr a) = let b = q.least in let c = q.there in grind (arith, sym (opens_none q.back (quiet q.back a (omega arith))) ∙ q.opener)
          go2 (inl a) = below far
            where
              below : ((low ≡ first) ⊎ (low + 8 ≤ k)) → ⊥
              below (inl e) = let b = q.from in omega arith
              below (inr e) = let b = q.most in let c = q.there in omega arith

  -- ---- whether a function goes on behind a word

  pub is_over-next : (k : ℕ) → first ≤ k → k + 1 < end → is_over (behind t k) ≡ false
  is_over-next k l h =
      let a = f.inside in
      let b : k + 1 < length t.words = omega arith in
      ap is_over (words_at t (k + 1) b) ∙ f.unmarked (k + 1) (omega arith) h

  behind_end : (k : ℕ) → k < end → end ≤ k + 1 → (behind t k ≡ []) ⊎ ((word_at t (k + 1)).marked ≡ true)
  behind_end k l h = go (cases_lt end (length t.words))
    where
      go : ((end < length t.words) ⊎ (length t.words ≤ end)) → (behind t k ≡ []) ⊎ ((word_at t (k + 1)).marked ≡ true)
      go (inl a) = let e : end ≡ k + 1 = omega arith in inr (subst (λ z. (word_at t z).marked ≡ true) e (f.over a))
      go (inr a) = inl (drop_past t.words (k + 1) (omega arith))

  pub is_over-end : (k : ℕ) → k < end → end ≤ k + 1 → is_over (behind t k) ≡ true
  is_over-end k l h = go (behind_end k l h)
    where
      go : (behind t k ≡ []) ⊎ ((word_at t (k + 1)).marked ≡ true) → is_over (behind t k) ≡ true
      go (inl e) = rw e refl
      go (inr e) = marked_over (cases_lt (k + 1) (length t.words))
        where
          marked_over : ((k + 1 < length t.words) ⊎ (length t.words ≤ k + 1)) → is_over (behind t k) ≡ true
          marked_over (inl b) = ap is_over (words_at t (k + 1) b) ∙ e
          marked_over (inr b) = rw (drop_past t.words (k + 1) b) refl

  pub next_over : (k : ℕ) → k < end → end ≤ k + 1 → next_in (behind t k) ≡ None
  next_over k l h = go (behind t k) (is_over-end k l h)
    where
      go : (ws : List Word) → is_over ws ≡ true → next_in ws ≡ None
      go [] e = refl
      go (x ∷ ws) e = rw e refl

-- ---- how far a window has come

pub round_short : (t : Text) (k : ℕ) (o : Option Window) → IfSome o (λ r. r.behind ≤ k) → IfSome (round_at t k o) (λ r. r.behind ≤ k)
round_short t k (Some r) h = h
round_short t k None h = go (opened_at t k (word_at t k) (behind t k))
  where
    go : (c : Option Opening) → IfSome (begun c) (λ r. r.behind ≤ k)
    go None = tt
    go (Some c) = omega arith

pub next_short : (t : Text) (k : ℕ) (r : Option Window) → IfSome r (λ r. r.behind ≤ k) → IfSome (open_behind t k r) (λ r. r.behind ≤ k + 1)
next_short t k r h = go (goes_on r (word_at t k).instr && not (is_over (behind t k))) r h
  where
    go : (b : Bool) (r : Option Window) → IfSome r (λ r. r.behind ≤ k) → IfSome (cond b (farther r) None) (λ r. r.behind ≤ k + 1)
    go false r h = tt
    go true None h = tt
    go true (Some r) h = omega arith

pub below : (r : Option Window) (k n : ℕ) → k < n → IfSome r (λ r. r.behind ≤ k) → IfSome r (λ r. r.behind < n)
below None k n l h = tt
below (Some r) k n l h = omega arith
