-- Each parameter takes a token, and the parts behind a declarator one more at a time.
use Rattle.std.proofs.Common.{◌≡◌, ◌<◌, ◌≤◌, ◌-◌, ◌+◌, ℕ, zero, suc, List, Option, Some, None, Bool, true, false, Ok, Err, refl, sym, ◌∙◌, ap, arith, subst}
use Rattle.std.proofs.lemmas.Bool.{lt-leb}
use Rattle.pa_lex.specs.declared.token.Kind.{Kind}
use Rattle.pa_lex.specs.declared.token.Punct.TheVariants as p
use Rattle.pa_lex.specs.declared.token.Token.{Token}
use Rattle.pa_tree.specs.Cursors.{Cursor, head}
use Rattle.pa_tree.specs.Exprs.{DeclaratorTree}
use Rattle.pa_tree.specs.Heights.{declarator_height}
use Rattle.pa_pspec.specs.declared.declarators.Suffix.{Suffix}
use Rattle.pa_pspec.specs.declared.declarators.Suffix.TheVariants as part
use Rattle.pa_grammar.specs.declared.rule.ParseError.TheVariants.{Broken}
use Rattle.pa_grammar.specs.declared.rule.SynRule.TheVariants.{S2}
use Rattle.pa_grammar.specs.Commas.{behind_comma}
use Rattle.pa_grammar.specs.Parser.{Parser, Outcome, Stop, and_then, ◌>>=◌, ◌>>◌, pure, after, needs}
use Rattle.pa_grammar.specs.Reading as reading
use Rattle.pa_grammar.specs.Reading.{Parsers, parsers, suffix, suffixes, parameter}
use Rattle.pa_pspec.specs.Suffixes.{with_token, suffix_ahead, suffix_of}
use Rattle.pa_grammar.specs.Tokens.{is_mark}
use Rattle.pa_grammar.proofs.LocalReading.{parsers-local, parameter-local}
use Rattle.pa_grammar.proofs.Eats.{Eats}
use Rattle.pa_grammar.proofs.Turned.{behind-eats}

pub takes_parameter : (names : List ℕ) (d : ℕ) → Eats (behind_comma (parameter names d (parsers names d)))
takes_parameter names d = behind-eats (parameter names d (parsers names d)) (parameter-local names d (parsers names d) (parsers-local names d))

from_some : (x y : Suffix × Token) → Some x ≡ Some y → x ≡ y
from_some x y e = cc

module _ (names : List ℕ) (d : ℕ) (below : Parsers) (from : ℕ) (of : DeclaratorTree) where
  abbrev some : DeclaratorTree → Parser (Option DeclaratorTree)
  some x = pure (Some x)

  regroup : (o : Outcome (Unit {0})) (t : Token) (q : Parser DeclaratorTree) → and_then o (λ _. after t >> (q >>= some)) ≡ and_then (and_then o (λ _. after t >> q)) some
  regroup (Ok a) t q = refl
  regroup (Err s) t q = refl

  -- the part that the tests of its token say, as the reading asks them
  abbrev asked : Token → Bool → Bool → Parser (Option DeclaratorTree)
  asked t true b = needs (declarator_height of) d >> after t >> reading.array names d below from of >>= some
  asked t false true = needs (declarator_height of) d >> after t >> reading.function names d below from of >>= some
  asked t false false = pure None

  abbrev found : Bool → Bool → Option Suffix
  found true b = Some part.Array
  found false true = Some part.Function
  found false false = None

  asked_is : (t : Token) (a b : Bool) (c : Cursor) → is_mark p.LeftBracket t.kind ≡ a → is_mark p.LeftParenthesis t.kind ≡ b → reading.suffix_by names d below from of t t.kind c ≡ asked t a b c
  asked_is t true b c e f = rw e refl
  asked_is t false true c e f = rw e (rw f refl)
  asked_is t false false c e f = rw e (rw f refl)

  found_is : (t : Token) (a b : Bool) → is_mark p.LeftBracket t.kind ≡ a → is_mark p.LeftParenthesis t.kind ≡ b → suffix_ahead (Some t) ≡ with_token t (found a b)
  found_is t true b e f = rw e refl
  found_is t false true e f = rw e (rw f refl)
  found_is t false false e f = rw e (rw f refl)

  asked_none : (t : Token) (a b : Bool) (c : Cursor) → with_token t (found a b) ≡ None → asked t a b c ≡ Ok (None, c)
  asked_none t true b c e = cc
  asked_none t false true c e = cc
  asked_none t false false c e = refl

  asked_some : (t u : Token) (s : Suffix) (a b : Bool) (c : Cursor) → with_token t (found a b) ≡ Some (s, u) → asked t a b c ≡ and_then (suffix_of names d below s from of u c) some
  asked_some t u s true b c e = subst (λ (x : Suffix × Token). asked t true b c ≡ and_then (suffix_of names d below x.0 from of x.1 c) some) (from_some (part.Array, t) (s, u) e) (regroup (needs (declarator_height of) d c) t (reading.array names d below from of))
  asked_some t u s false true c e = subst (λ (x : Suffix × Token). asked t false true c ≡ and_then (suffix_of names d below x.0 from of x.1 c) some) (from_some (part.Function, t) (s, u) e) (regroup (needs (declarator_height of) d c) t (reading.function names d below from of))
  asked_some t u s false false c e = cc

  suffix_at-none : (h : Option Token) (c : Cursor) → suffix_ahead h ≡ None → reading.suffix_at names d below from of h c ≡ Ok (None, c)
  suffix_at-none None c e = refl
  suffix_at-none (Some t) c e = asked_is t _ _ c refl refl ∙ asked_none t _ _ c (sym (found_is t _ _ refl refl) ∙ e)

  suffix_at-some : (h : Option Token) (u : Token) (s : Suffix) (c : Cursor) → suffix_ahead h ≡ Some (s, u) → reading.suffix_at names d below from of h c ≡ and_then (suffix_of names d below s from of u c) some
  suffix_at-some None u s c e = cc
  suffix_at-some (Some t) u s c e = asked_is t _ _ c refl refl ∙ asked_some t u s _ _ c (sym (found_is t _ _ refl refl) ∙ e)

  pub suffixes_done : (n : ℕ) (c : Cursor) → suffix_ahead (head c.ahead) ≡ None → suffixes names d below from n of c ≡ Ok (of, c)
  unfolding suffixes suffix
  suffixes_done zero c e = rw (suffix_at-none (head c.ahead) c e) refl
  suffixes_done (suc n) c e = rw (suffix_at-none (head c.ahead) c e) refl

  pub suffixes_more : (n i : ℕ) (x : DeclaratorTree) (u : Token) (s : Suffix) (c e : Cursor) → suffix_ahead (head c.ahead) ≡ Some (s, u) → suffix_of names d below s from of u c ≡ Ok (x, e) → i < n
      → suffixes names d below from (n - i) of c ≡ suffixes names d below from (n - (i + 1)) x e
  unfolding suffixes suffix
  suffixes_more n i x u s c e h k l = let m : n - i ≡ suc (n - (i + 1)) = omega arith in rw m (rw (suffix_at-some (head c.ahead) u s c h) (rw k refl))

  pub suffixes_fail : (n : ℕ) (u : Token) (s : Suffix) (z : Stop) (c : Cursor) → suffix_ahead (head c.ahead) ≡ Some (s, u) → suffix_of names d below s from of u c ≡ Err z → suffixes names d below from n of c ≡ Err z
  unfolding suffixes suffix
  suffixes_fail zero u s z c h k = rw (suffix_at-some (head c.ahead) u s c h) (rw k refl)
  suffixes_fail (suc n) u s z c h k = rw (suffix_at-some (head c.ahead) u s c h) (rw k refl)

  too_deep : (u : Token) (s : Suffix) (c : Cursor) → d < declarator_height of → suffix_of names d below s from of u c ≡ Err (record { rule = Broken S2; at = c })
  too_deep u s c h = rw (lt-leb (declarator_height of) d h) refl

  -- what is deep already has no room for another part
  pub suffixes_full : (n : ℕ) (u : Token) (s : Suffix) (c : Cursor) → suffix_ahead (head c.ahead) ≡ Some (s, u) → d < declarator_height of → suffixes names d below from n of c ≡ Err (record { rule = Broken S2; at = c })
  suffixes_full n u s c h k = suffixes_fail n u s (record { rule = Broken S2; at = c }) c h (too_deep u s c k)
