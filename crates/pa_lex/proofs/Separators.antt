-- The separator that begins a text is the one that is read.
use Rattle.std.proofs.Common.{◌≡◌, ℕ, zero, suc, ◌+◌, ◌≤◌, Bool, true, false, cond, not, ◌&&◌, ◌==◌, [], ◌∷◌, ◌++◌, length, take, drop, refl, sym, ◌∙◌, ap, subst, arith, Option, Some, None, codes, append_assoc, one-add}
use Rattle.std.specs.List.{prefix_len}
use Rattle.std.proofs.lemmas.Bool.Decides.{nat_tests}
use Rattle.std.proofs.lemmas.List.{take-append-drop}
use Rattle.std.proofs.Math.Seq.{take-append_seam, drop-append_seam}
use Rattle.pa_lex.specs.Texts.{Text}
use Rattle.pa_lex.specs.Bytes.{is_white, is_line_feed}
use Rattle.pa_lex.specs.Lexes.{Separator, White, BlockComment, LineComment, separator_text, IsSeparatorAt, IsLineEnd, Lacks}
use Rattle.pa_lex.specs.Reading.{next_is, plus_one, close, block, comment_at, separator_at, front}
use Rattle.pa_lex.proofs.Runs.{both_true, heads, tails, StopsRun, front_is, run_passes, run_stops}

abbrev pub no_feed : ℕ → Bool
no_feed c = not (is_line_feed c)

-- no `*/` stands at the front of a text that lacks it
not_here : (c : ℕ) (t r : Text) → Lacks (codes "*/") (c ∷ t) → (c == 42 && next_is 47 (t ++ (42 ∷ (47 ∷ r)))) ≡ false
not_here c [] r h = two (c == 42)
  where
    two : (b : Bool) → (b && false) ≡ false
    two true = refl
    two false = refl
not_here c (d ∷ t) r h = by_tests (c == 42) (d == 47) refl refl
  where
    by_tests : (a b : Bool) → (c == 42) ≡ a → (d == 47) ≡ b → (a && b) ≡ false
    by_tests false b e f = refl
    by_tests true false e f = refl
    by_tests true true e f = let x : c ≡ 42 = grind (arith, nat_tests) in let y : d ≡ 47 = grind (arith, nat_tests) in absurd (h [] t (rw (x, y) refl))

lacks_tail : (c : ℕ) (t : Text) → Lacks (codes "*/") (c ∷ t) → Lacks (codes "*/") t
lacks_tail c t h front back e = h (c ∷ front) back (ap (λ x. c ∷ x) e)

close_is : (body r : Text) → Lacks (codes "*/") body → close (body ++ (42 ∷ (47 ∷ r))) ≡ Some (length body)
unfolding close
close_is [] r h = refl
close_is (c ∷ body) r h = rw (not_here c body r h, close_is body r (lacks_tail c body h)) (ap Some (one-add (length body)))

pub record IsClosed (t : Text) (n : ℕ) : Type 0 where
  pub text_is : t ≡ take n t ++ (42 ∷ (47 ∷ drop (suc (suc n)) t))
  pub lacks : Lacks (codes "*/") (take n t)

closed_here : (c : ℕ) (t : Text) → (c == 42 && next_is 47 t) ≡ true → IsClosed (c ∷ t) zero
closed_here c [] h = let z = both_true (c == 42) false h in cc
closed_here c (d ∷ t) h =
    let b = both_true (c == 42) (d == 47) h in
    let z : (c == 42) ≡ true = b.0 in
    let y : (d == 47) ≡ true = b.1 in
    let x : c ≡ 42 = grind (arith, nat_tests) in
    let w : d ≡ 47 = grind (arith, nat_tests) in
    record { text_is = rw (x, w) refl; lacks = nothing }
  where
    nothing : Lacks (codes "*/") []
    nothing [] back e = cc
    nothing (f ∷ front) back e = cc

next_of : (n : ℕ) (t back : Text) → take n t ≡ 47 ∷ back → next_is 47 t ≡ true
next_of zero t back e = cc
next_of (suc n) [] back e = cc
next_of (suc n) (d ∷ t) back e = let x : d ≡ 47 = heads e in rw x refl

closed_more : (c : ℕ) (t : Text) (n : ℕ) → (c == 42 && next_is 47 t) ≡ false → IsClosed t n → IsClosed (c ∷ t) (suc n)
closed_more c t n h k = record { text_is = ap (λ x. c ∷ x) k.text_is; lacks = lacks_more }
  where
    lacks_more : Lacks (codes "*/") (c ∷ take n t)
    lacks_more [] back e = let x : c ≡ 42 = heads e in let y = next_of n t back (tails e) in let z : (42 == 42 && next_is 47 t) ≡ false = rw x at h in let w : next_is 47 t ≡ false = z in cc
    lacks_more (f ∷ front) back e = k.lacks front back (tails e)

close_by : (c : ℕ) (t : Text) (n : ℕ) (b : Bool) → (c == 42 && next_is 47 t) ≡ b → ((m : ℕ) → close t ≡ Some m → IsClosed t m) → cond b (Some 0) (plus_one (close t)) ≡ Some n → IsClosed (c ∷ t) n
close_by c t n true h more e = let z : 0 ≡ n = cc in rw (← z) (closed_here c t h)
close_by c t n false h more e = plus_by (close t) refl e
  where
    plus_by : (o : Option ℕ) → close t ≡ o → plus_one o ≡ Some n → IsClosed (c ∷ t) n
    plus_by None f g = cc
    plus_by (Some m) f g = let z : 1 + m ≡ n = cc in subst (IsClosed (c ∷ t)) (sym (one-add m) ∙ z) (closed_more c t m h (more m f))

close_sound : (t : Text) (n : ℕ) → close t ≡ Some n → IsClosed t n
unfolding close
close_sound [] n e = cc
close_sound (c ∷ t) n e = close_by c t n (c == 42 && next_is 47 t) refl (close_sound t) e

line_end_stops : (rest : Text) → IsLineEnd rest → StopsRun no_feed rest
line_end_stops [] h = tt
line_end_stops (c ∷ t) h = rw h refl

stops_line_end : (rest : Text) → StopsRun no_feed rest → IsLineEnd rest
stops_line_end [] h = tt
stops_line_end (c ∷ t) h = is_feed (is_line_feed c) refl
  where
    is_feed : (b : Bool) → is_line_feed c ≡ b → is_line_feed c ≡ true
    is_feed true e = e
    is_feed false e = let z : not false ≡ false = rw e at h in cc

-- the separator at the front is read
pub separator_is : (separator : Separator) (t r : Text) → IsSeparatorAt separator t r → separator_at t ≡ Some separator
unfolding separator_at
separator_is (White c) t r h = let e : t ≡ c ∷ r = h.text_is in let w : is_white c ≡ true = h.fits in rw (e, w) refl
separator_is (BlockComment body) t r h =
    let e : t ≡ 47 ∷ (42 ∷ (body ++ (42 ∷ (47 ∷ r)))) = h.text_is ∙ ap (λ x. 47 ∷ (42 ∷ x)) (append_assoc body (codes "*/") r) in
    rw (e, close_is body r h.fits, take-append_seam) refl
separator_is (LineComment body) t r h =
    let e : t ≡ 47 ∷ (47 ∷ (body ++ r)) = h.text_is in
    rw (e, front_is no_feed body r h.fits.0 (line_end_stops r h.fits.1)) refl

abbrev pub IsReadSeparator : Separator → Text → Type 0
IsReadSeparator separator t = IsSeparatorAt separator t (drop (length (separator_text separator)) t)

at_front : (separator : Separator) (t r : Text) → IsSeparatorAt separator t r → IsReadSeparator separator t
at_front separator t r h =
    let e : r ≡ drop (length (separator_text separator)) t = rw h.text_is (sym (drop-append_seam (separator_text separator) r)) in
    subst (IsSeparatorAt separator t) e h

line_sound : (t : Text) → IsReadSeparator (LineComment (front no_feed t)) (47 ∷ (47 ∷ t))
line_sound t = at_front (LineComment (front no_feed t)) (47 ∷ (47 ∷ t)) (drop (prefix_len no_feed t) t) (record {
  text_is = ap (λ x. 47 ∷ (47 ∷ x)) (sym (take-append-drop (prefix_len no_feed t) t));
  fits = (run_passes no_feed (prefix_len no_feed t) t (omega arith), stops_line_end (drop (prefix_len no_feed t) t) (run_stops no_feed t));
})

block_sound : (t : Text) (n : ℕ) → close t ≡ Some n → IsReadSeparator (BlockComment (take n t)) (47 ∷ (42 ∷ t))
block_sound t n e =
    let k = close_sound t n e in
    let r : Text = drop (suc (suc n)) t in
    at_front (BlockComment (take n t)) (47 ∷ (42 ∷ t)) r (record {
      text_is = ap (λ x. 47 ∷ (42 ∷ x)) (k.text_is ∙ sym (append_assoc (take n t) (codes "*/") r));
      fits = k.lacks;
    })

block_by : (t : Text) (separator : Separator) (o : Option ℕ) → close t ≡ o → block t o ≡ Some separator → IsReadSeparator separator (47 ∷ (42 ∷ t))
block_by t separator None e f = cc
block_by t separator (Some n) e f = let same : BlockComment (take n t) ≡ separator = cc in subst (λ s. IsReadSeparator s (47 ∷ (42 ∷ t))) same (block_sound t n e)

comment_by : (d : ℕ) (t : Text) (separator : Separator) (a b : Bool) → (d == 47) ≡ a → (d == 42) ≡ b → cond a (Some (LineComment (front no_feed t))) (cond b (block t (close t)) None) ≡ Some separator → IsReadSeparator separator (47 ∷ (d ∷ t))
comment_by d t separator true b e f g =
    let x : d ≡ 47 = grind (arith, nat_tests) in
    let same : LineComment (front no_feed t) ≡ separator = cc in
    rw x (subst (λ s. IsReadSeparator s (47 ∷ (47 ∷ t))) same (line_sound t))
comment_by d t separator false true e f g = let x : d ≡ 42 = grind (arith, nat_tests) in rw x (block_by t separator (close t) refl g)
comment_by d t separator false false e f g = cc

comment_sound : (t : Text) (separator : Separator) → comment_at t ≡ Some separator → IsReadSeparator separator (47 ∷ t)
comment_sound [] separator e = cc
comment_sound (d ∷ t) separator e = comment_by d t separator (d == 47) (d == 42) refl refl e

separator_by : (c : ℕ) (t : Text) (separator : Separator) (a b : Bool) → is_white c ≡ a → (c == 47) ≡ b → cond a (Some (White c)) (cond b (comment_at t) None) ≡ Some separator → IsReadSeparator separator (c ∷ t)
separator_by c t separator true b e f g =
    let same : White c ≡ separator = cc in
    subst (λ s. IsReadSeparator s (c ∷ t)) same (at_front (White c) (c ∷ t) t (record { text_is = refl; fits = e }))
separator_by c t separator false true e f g = let x : c ≡ 47 = grind (arith, nat_tests) in rw x (comment_sound t separator g)
separator_by c t separator false false e f g = cc

pub separator_sound : (t : Text) (separator : Separator) → separator_at t ≡ Some separator → IsReadSeparator separator t
unfolding separator_at
separator_sound [] separator e = cc
separator_sound (c ∷ t) separator e = separator_by c t separator (is_white c) (c == 47) refl refl e

-- the rest is what stands behind
pub separator_rest : (separator : Separator) (t r : Text) → IsSeparatorAt separator t r → r ≡ drop (length (separator_text separator)) t
separator_rest separator t r h = rw h.text_is (sym (drop-append_seam (separator_text separator) r))

pub separator_long : (separator : Separator) → 1 ≤ length (separator_text separator)
separator_long (White c) = omega arith
separator_long (BlockComment body) = omega arith
separator_long (LineComment body) = omega arith

-- where none is read, none begins
pub separator_none : (t : Text) → separator_at t ≡ None → (separator : Separator) (r : Text) → IsSeparatorAt separator t r → ⊥
separator_none t e separator r h = let f : Some separator ≡ None = sym (separator_is separator t r h) ∙ e in cc

pub none_separator : (t : Text) → ((separator : Separator) (r : Text) → IsSeparatorAt separator t r → ⊥) → separator_at t ≡ None
none_separator t h = by_option (separator_at t) refl
  where
    by_option : (o : Option Separator) → separator_at t ≡ o → separator_at t ≡ None
    by_option None e = e
    by_option (Some s) e = absurd (h s (drop (length (separator_text s)) t) (separator_sound t s e))
