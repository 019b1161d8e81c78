-- The body of a literal.
use Rattle.std.proofs.Common.{◌≡◌, ℕ, suc, ◌+◌, Bool, true, false, cond, not, ◌&&◌, ◌==◌, [], ◌∷◌, ◌++◌, length, take, drop, refl, sym, ◌∙◌, ap, subst, arith, Option, Some, None, one-add}
use Rattle.std.proofs.lemmas.Bool.Decides.{nat_tests}
use Rattle.pa_lex.specs.declared.form.Quote.{Quote}
use Rattle.pa_lex.specs.declared.form.Quote.TheVariants.{Single, Double}
use Rattle.pa_lex.specs.Texts.{Text}
use Rattle.pa_lex.specs.Bytes.{is_line_feed}
use Rattle.pa_lex.specs.Forms.{quote_byte, is_body}
use Rattle.pa_lex.specs.Reading.{body_len, plus_one}

complete_step : (feed taken end : Bool) (z1 z2 : Bool) (o1 o2 : Option ℕ) (n : ℕ) → (not feed && cond taken z1 (not end && z2)) ≡ true → (z1 ≡ true → o1 ≡ Some n) → (z2 ≡ true → o2 ≡ Some n)
    → cond feed None (cond taken (plus_one o1) (cond end (Some 0) (plus_one o2))) ≡ Some (suc n)
complete_step true taken end z1 z2 o1 o2 n h f g = cc
complete_step false true end z1 z2 o1 o2 n h f g = rw (f h) (ap Some (one-add n))
complete_step false false true z1 z2 o1 o2 n h f g = cc
complete_step false false false z1 z2 o1 o2 n h f g = rw (g h) (ap Some (one-add n))

quote_feed : (quote : Quote) → is_line_feed (quote_byte quote) ≡ false
quote_feed Single = refl
quote_feed Double = refl

ends : (quote : Quote) (r : Text) → body_len quote false (quote_byte quote ∷ r) ≡ Some 0
unfolding body_len
ends Single r = refl
ends Double r = refl

-- a body and its quote are read
pub body_is : (quote : Quote) (taken : Bool) (x r : Text) → is_body quote taken x ≡ true → body_len quote taken (x ++ (quote_byte quote ∷ r)) ≡ Some (length x)
unfolding body_len is_body
body_is quote true [] r h = cc
body_is quote false [] r h = ends quote r
body_is quote taken (c ∷ x) r h = complete_step (is_line_feed c) taken (c == quote_byte quote) (is_body quote false x) (is_body quote (c == 92) x) _ _ (length x) h (body_is quote false x r) (body_is quote (c == 92) x r)

pub record IsBodyOf (quote : Quote) (taken : Bool) (t : Text) (n : ℕ) : Type 0 where
  pub is : is_body quote taken (take n t) ≡ true
  pub text_is : t ≡ take n t ++ (quote_byte quote ∷ drop (suc n) t)

plus_some : (o : Option ℕ) (n : ℕ) → plus_one o ≡ Some n → (m : ℕ) × (o ≡ Some m) × (suc m ≡ n)
plus_some None n e = cc
plus_some (Some m) n e = let z : 1 + m ≡ n = cc in (m, refl, sym (one-add m) ∙ z)

body_longer : (quote : Quote) (taken next : Bool) (c : ℕ) (t : Text) (n : ℕ) (o : Option ℕ) → plus_one o ≡ Some n → ((m : ℕ) → o ≡ Some m → IsBodyOf quote next t m) → ((x : Text) → is_body quote next x ≡ true → is_body quote taken (c ∷ x) ≡ true) → IsBodyOf quote taken (c ∷ t) n
body_longer quote taken next c t n o e f g =
    let (m, w, s) = plus_some o n e in
    let k = f m w in
    subst (IsBodyOf quote taken (c ∷ t)) s (record { is = g (take m t) k.is; text_is = ap (λ x. c ∷ x) k.text_is })

sound_step : (quote : Quote) (taken feed end : Bool) (c : ℕ) (t : Text) (n : ℕ) → is_line_feed c ≡ feed → (c == quote_byte quote) ≡ end
    → cond feed None (cond taken (plus_one (body_len quote false t)) (cond end (Some 0) (plus_one (body_len quote (c == 92) t)))) ≡ Some n
    → ((next : Bool) (m : ℕ) → body_len quote next t ≡ Some m → IsBodyOf quote next t m) → IsBodyOf quote taken (c ∷ t) n
unfolding is_body
sound_step quote taken true end c t n l k e f = cc
sound_step quote true false end c t n l k e f = body_longer quote true false c t n (body_len quote false t) e (f false) (λ x h. rw (l, h) refl)
sound_step quote false false true c t n l k e f = let z : 0 ≡ n = cc in let y : c ≡ quote_byte quote = grind (arith, nat_tests) in rw (← z) (record { is = refl; text_is = rw y refl })
sound_step quote false false false c t n l k e f = body_longer quote false (c == 92) c t n (body_len quote (c == 92) t) e (f (c == 92)) (λ x h. rw (l, k, h) refl)

-- what is read is a body and its quote
pub body_sound : (quote : Quote) (taken : Bool) (t : Text) (n : ℕ) → body_len quote taken t ≡ Some n → IsBodyOf quote taken t n
unfolding body_len
body_sound quote taken [] n e = cc
body_sound quote taken (c ∷ t) n e = sound_step quote taken (is_line_feed c) (c == quote_byte quote) c t n refl refl e (λ next. body_sound quote next t)
