-- From what is read at a place to what is answered there.
use Rattle.std.proofs.Common.{◌≡◌, ◌≢◌, ◌≤◌, ◌<◌, ◌-◌, ◌+◌, ℕ, zero, suc, max, List, [], ◌∷◌, ◌++◌, length, take, drop, Option, Some, None, Result, Ok, Err, refl, sym, ◌∙◌, ap, subst, arith, append_assoc}
use Rattle.std.specs.Prelude.{slice_get}
use Rattle.std.proofs.lemmas.List.{take-append-drop, drop-append-le, length-append, length-take, length-drop, append-nil, append_cancel_right}
use Rattle.std.proofs.Math.Nat.{le-max_left, le-max_right}
use Rattle.std.proofs.Math.Seq.{drop-append_seam}
use Rattle.pa_lex.specs.declared.token.Token.{Token}
use Rattle.pa_tree.specs.Cursors.{Cursor, head}
use Rattle.pa_num.specs.declared.fault.Fault.{Fault}
use Rattle.pa_num.specs.declared.fault.Fault.TheVariants.{Refused}
use Rattle.pa_grammar.specs.declared.rule.SynRule.{SynRule}
use Rattle.pa_grammar.specs.declared.rule.SynRule.TheVariants.{S1, S2}
use Rattle.pa_grammar.specs.declared.rule.ParseError.{ParseError}
use Rattle.pa_grammar.specs.declared.rule.ParseError.TheVariants.{Broken}
use Rattle.pa_grammar.specs.Answers.{to_of, ended_at, cursor_at, place_at, NoneGoesOn, Fitting, Asked, IsLongest, IsRefused, IsAnswer, Stopped, IsStop}
use Rattle.pa_grammar.specs.Parser.{Parser, Outcome, Stop}
use Rattle.pa_grammar.proofs.Local.{Local, LocalAt, Gives, Stops, with_ahead}
use Rattle.pa_grammar.proofs.Meets.{Meets}
use Rattle.pa_grammar.proofs.Frame.{on}

-- the token of a number stands first behind those in front of it
pub get_at : (n : ℕ) (ts : List Token) → slice_get ts n ≡ head (drop n ts)
get_at zero [] = refl
get_at zero (t ∷ ts) = refl
get_at (suc n) [] = refl
get_at (suc n) (t ∷ ts) = get_at n ts

get_front : (n end : ℕ) (ts : List Token) → n < end → slice_get (take end ts) n ≡ slice_get ts n
get_front n zero ts h = absurd (omega (arith, h))
get_front n (suc e) [] h = refl
get_front zero (suc e) (t ∷ ts) h = refl
get_front (suc n) (suc e) (t ∷ ts) h = get_front n e ts (omega (arith, h))

ended_front : (at end : ℕ) (ts : List Token) → at ≤ end → ended_at (take end ts) at ≡ ended_at ts at
ended_front zero end ts h = refl
ended_front (suc n) end ts h = ap to_of (get_front n end ts (omega (arith, h)))

-- how many tokens stand in front of those that are left
pub left_of : (at : ℕ) (tokens front rest : List Token) → drop at tokens ≡ front ++ rest → drop (length tokens - length rest) tokens ≡ rest
left_of at tokens front rest h =
    let whole : tokens ≡ (take at tokens ++ front) ++ rest = sym (take-append-drop at tokens) ∙ ap (λ l. take at tokens ++ l) h ∙ sym (append_assoc (take at tokens) front rest) in
    let count : length tokens ≡ length (take at tokens ++ front) + length rest = ap length whole ∙ length-append (take at tokens ++ front) rest in
    let n : length tokens - length rest ≡ length (take at tokens ++ front) = omega (arith, count) in
    ap (λ k. drop k tokens) n ∙ ap (drop (length (take at tokens ++ front))) whole ∙ drop-append_seam (take at tokens ++ front) rest

front_behind : (at end : ℕ) (tokens : List Token) → at ≤ end → end ≤ length tokens → drop at (take end tokens) ++ drop end tokens ≡ drop at tokens
front_behind at end tokens h k =
    let n : at ≤ length (take end tokens) = omega (arith, h, k, length-take end tokens) in
    sym (drop-append-le at (take end tokens) (drop end tokens) n) ∙ ap (drop at) (take-append-drop end tokens)

-- the tokens in front of a place and then those from it on
pub behind_front : (at end : ℕ) (tokens : List Token) → at ≤ end → end ≤ length tokens → on (drop end tokens) (cursor_at (take end tokens) at) ≡ cursor_at tokens at
behind_front at end tokens h k = ap (λ z. record { ended = z; ahead = drop at (take end tokens) ++ drop end tokens }) (ended_front at end tokens h) ∙ ap (λ l. record { ended = ended_at tokens at; ahead = l }) (front_behind at end tokens h k)

none_left : (ts : List Token) → length ts ≡ 0 → ts ≡ []
none_left [] e = refl
none_left (t ∷ ts) e = absurd (omega (arith, e))

ok_ahead : {A : Type 0} {x y : A} {c d : Cursor} → ◌≡◌ {A = Result (A × Cursor) Stop} (Ok (x, c)) (Ok (y, d)) → c.ahead ≡ d.ahead
ok_ahead {A = A} {x = x} {y = y} {c = c} {d = d} e = let r : ◌≡◌ {A = A × Cursor} (x, c) (y, d) = cc in ap (λ z. (z.1).ahead) r

no_token : (t : Token) (ts : List Token) → Some t ≡ head ts → ts ≡ [] → ⊥
no_token t ts h e = let n : ◌≡◌ {A = Option Token} (Some t) None = h ∙ ap head e in cc

gives_of : {A : Type 0} (p : Parser A) (c e : Cursor) (t : A) → LocalAt p c (p c) → p c ≡ Ok (t, e) → Gives p c t e
gives_of p c e t h q = rw q at h

stops_of : {A : Type 0} (p : Parser A) (c : Cursor) (s : Stop) → LocalAt p c (p c) → p c ≡ Err s → Stops p c s
stops_of p c s h q = rw q at h

-- a reader of a form of trees, to a depth
module _ {A : Type 0} (Spelled : A → Cursor → Cursor → Type 0) (height : A → ℕ) (room : ℕ) (p : Parser A) where
  pub record Reader : Type 0 where
    pub near : Local p
    pub sound : (c : Cursor) → Meets p c (λ t e. Spelled t c e × (height t ≤ room))
    pub complete : (t : A) (c : Cursor) (z : ℕ) → Spelled t c (record { ended = z; ahead = [] }) → height t ≤ room → p c ≡ Ok (t, record { ended = z; ahead = [] })
    pub frame : (x : List Token) (t : A) (c d : Cursor) → Spelled t c d → Spelled t (on x c) (on x d)

  sound_of : (c e : Cursor) (t : A) → Meets p c (λ t e. Spelled t c e × (height t ≤ room)) → p c ≡ Ok (t, e) → Spelled t c e × (height t ≤ room)
  sound_of c e t h q = let g = h.holds in rw q at g

  module _ (r : Reader) where
    -- no longer list begins a tree where one is read
    ends_there : (c e : Cursor) (t : A) (g : Gives p c t e) (u : Token) → head e.ahead ≡ Some u → NoneGoesOn Spelled (Fitting height room) c.ended g.front (Some u)
    ends_there c e t g u h = record {
      none = λ tree more to w s l.
          no_token u more w (ok_ahead (sym (g.again more (h ∙ w)) ∙ r.complete tree (record { ended = c.ended; ahead = g.front ++ more }) to s l));
    }

    stops_there : (c : Cursor) (s : Stop) (g : Stops p c s) → NoneGoesOn Spelled (Fitting height room) c.ended g.front (head (s.at).ahead)
    stops_there c s g = record {
      none = λ tree more to w h l.
          let a = g.again more w in let b = r.complete tree (record { ended = c.ended; ahead = g.front ++ more }) to h l in cc;
    }

    pub read_whole : (tokens : List Token) (at : ℕ) (t : A) (e : Cursor) → p (cursor_at tokens at) ≡ Ok (t, e) → IsLongest Spelled height room tokens at t (length tokens - length e.ahead)
    read_whole tokens at t e q =
        let g = gives_of p (cursor_at tokens at) e t (r.near.holds (cursor_at tokens at)) q in
        let s = sound_of (cursor_at tokens at) e t (r.sound (cursor_at tokens at)) q in
        let d : drop (length tokens - length e.ahead) tokens ≡ e.ahead = left_of at tokens g.front e.ahead g.split in
        record {
          within = omega arith;
          run = g.front;
          split = g.split ∙ ap (λ l. g.front ++ l) (sym d);
          to = e.ended;
          spells = subst (λ l. Spelled t (cursor_at tokens at) (record { ended = e.ended; ahead = l })) (sym d) s.0;
          fits = s.1;
          longest = λ u h. ends_there (cursor_at tokens at) e t g u (sym (ap head d) ∙ sym (get_at (length tokens - length e.ahead) tokens) ∙ h);
        }

    stop_within : (tokens : List Token) (at : ℕ) (s : Stop) → at ≤ length tokens → p (cursor_at tokens at) ≡ Err s → at ≤ length tokens - length (s.at).ahead
    stop_within tokens at s k q =
        let g = stops_of p (cursor_at tokens at) s (r.near.holds (cursor_at tokens at)) q in
        let n = ap length g.split ∙ length-append g.front (s.at).ahead in omega (arith, k, n, length-drop at tokens)

    -- where reading stops behind a whole tree
    pub read_front : (tokens : List Token) (at : ℕ) (s : Stop) (t : A) (e : Cursor) → at ≤ length tokens → p (cursor_at tokens at) ≡ Err s
        → p (cursor_at (take (length tokens - length (s.at).ahead) tokens) at) ≡ Ok (t, e) → e.ahead ≡ [] → IsLongest Spelled height room tokens at t (length tokens - length (s.at).ahead)
    read_front tokens at s t e k q f n =
        let end = length tokens - length (s.at).ahead in
        let g = stops_of p (cursor_at tokens at) s (r.near.holds (cursor_at tokens at)) q in
        let i : at ≤ end = stop_within tokens at s k q in
        let w : end ≤ length tokens = omega arith in
        let h = sound_of (cursor_at (take end tokens) at) e t (r.sound (cursor_at (take end tokens) at)) f in
        let d : drop end tokens ≡ (s.at).ahead = left_of at tokens g.front (s.at).ahead g.split in
        let o = r.frame (drop end tokens) t (cursor_at (take end tokens) at) e h.0 in
        record {
          within = w;
          run = g.front;
          split = g.split ∙ ap (λ l. g.front ++ l) (sym d);
          to = e.ended;
          spells = subst (λ x. Spelled t x (record { ended = e.ended; ahead = drop end tokens })) (behind_front at end tokens i w)
              (subst (λ l. Spelled t (on (drop end tokens) (cursor_at (take end tokens) at)) (record { ended = e.ended; ahead = l ++ drop end tokens })) n o);
          fits = h.1;
          longest = λ u v. subst (NoneGoesOn Spelled (Fitting height room) (ended_at tokens at) g.front) (sym (ap head d) ∙ sym (get_at end tokens) ∙ v) (stops_there (cursor_at tokens at) s g);
        }

    -- the same, as a program comes to it: its reader stands at c, and so many tokens are left
    module _ (tokens : List Token) (at : ℕ) (c : Cursor) (is : c ≡ cursor_at tokens at) where
      from_start : (o : Outcome A) → p c ≡ o → p (cursor_at tokens at) ≡ o
      from_start o h = ap p (sym is) ∙ h

      pub read_within : (t : A) (e : Cursor) (n : ℕ) → p c ≡ Ok (t, e) → n ≡ length e.ahead → n ≤ length tokens
      read_within t e n h q =
          let g = gives_of p (cursor_at tokens at) e t (r.near.holds (cursor_at tokens at)) (from_start (Ok (t, e)) h) in
          let a = ap length g.split ∙ length-append g.front e.ahead in omega (arith, a, q, length-drop at tokens)

      pub answer_read : (t : A) (e : Cursor) (n : ℕ) → p c ≡ Ok (t, e) → n ≡ length e.ahead → IsLongest Spelled height room tokens at t (length tokens - n)
      answer_read t e n h q = subst (λ k. IsLongest Spelled height room tokens at t (length tokens - k)) (sym q) (read_whole tokens at t e (from_start (Ok (t, e)) h))

      module _ (s : Stop) (n : ℕ) (h : p c ≡ Err s) (q : n ≡ length (s.at).ahead) where
        pub stop_left : n ≤ length tokens
        stop_left =
            let g = stops_of p (cursor_at tokens at) s (r.near.holds (cursor_at tokens at)) (from_start (Err s) h) in
            let a = ap length g.split ∙ length-append g.front (s.at).ahead in omega (arith, a, q, length-drop at tokens)

        pub stop_behind : at ≤ length tokens → at ≤ length (take (length tokens - n) tokens)
        stop_behind k = let a = stop_within tokens at s k (from_start (Err s) h) in omega (arith, a, q, length-take (length tokens - n) tokens)

        pub answer_front : (d : Cursor) (t : A) (e : Cursor) → at ≤ length tokens → d ≡ cursor_at (take (length tokens - n) tokens) at → p d ≡ Ok (t, e) → length e.ahead ≡ 0 → IsLongest Spelled height room tokens at t (length tokens - n)
        answer_front d t e k b f z =
            let f' : p (cursor_at (take (length tokens - length (s.at).ahead) tokens) at) ≡ Ok (t, e) = ap (λ m. p (cursor_at (take (length tokens - m) tokens) at)) (sym q) ∙ ap p (sym b) ∙ f in
            subst (λ m. IsLongest Spelled height room tokens at t (length tokens - m)) (sym q) (read_front tokens at s t e k (from_start (Err s) h) f' (none_left e.ahead z))

-- what is read in front of a stop is no whole tree
abbrev pub NotWhole : {A : Type 0} → Outcome A → Type 0
NotWhole (Ok q) = length (q.1).ahead ≢ 0
NotWhole (Err s) = Unit {0}

-- a reader of a form of trees for each depth, where more depth changes no refusal but those by depth
module _ {A : Type 0} (Spelled : A → Cursor → Cursor → Type 0) (height : A → ℕ) (p : ℕ → Parser A) where
  pub record Readers : Type 0 where
    pub of : (room : ℕ) → Reader Spelled height room (p room)
    pub stops : (room more : ℕ) (c : Cursor) (s : Stop) → room ≤ more → s.rule ≢ Broken S2 → p room c ≡ Err s → p more c ≡ Err s

  module _ (rs : Readers) (room : ℕ) where
    is_whole : (tree : A) (to : ℕ) (o : Outcome A) → o ≡ Ok (tree, record { ended = to; ahead = [] }) → NotWhole o → ⊥
    is_whole tree to (Ok r) e n = n (ap length (ok_ahead {x = r.0} {y = tree} {c = r.1} {d = record { ended = to; ahead = [] }} e))
    is_whole tree to (Err s) e n = cc

    stops_all : (c : Cursor) (s : Stop) (g : Stops (p room) c s) → s.rule ≢ Broken S2 → NoneGoesOn Spelled (Asked height room S1) c.ended g.front (head (s.at).ahead)
    stops_all c s g n = record {
      none = λ tree more to w h _.
          let d = max room (height tree) in
          let a = rs.stops room d (record { ended = c.ended; ahead = g.front ++ more }) (record { rule = s.rule; at = with_ahead s.at more }) (le-max_left room (height tree)) n (g.again more w) in
          let b = (rs.of d).complete tree (record { ended = c.ended; ahead = g.front ++ more }) to h (le-max_right room (height tree)) in cc;
    }

    stops_by : (rule : SynRule) (c : Cursor) (s : Stop) (g : Stops (p room) c s) → s.rule ≡ Broken rule → NoneGoesOn Spelled (Asked height room rule) c.ended g.front (head (s.at).ahead)
    stops_by S1 c s g b = stops_all c s g (λ e. cc)
    stops_by S2 c s g b = stops_there Spelled height room (p room) (rs.of room) c s g

    whole_not : (o : Outcome A) (ended : ℕ) (run : List Token) → NotWhole o → p room (record { ended = ended; ahead = run }) ≡ o
        → (tree : A) (more : List Token) (to : ℕ) → None ≡ head more → Spelled tree (record { ended = ended; ahead = run ++ more }) (record { ended = to; ahead = [] }) → height tree ≤ room → ⊥
    whole_not o ended run n q tree (t ∷ more) to w h l = cc
    whole_not o ended run n q tree [] to w h l =
        let a : p room (record { ended = ended; ahead = run }) ≡ Ok (tree, record { ended = to; ahead = [] }) = (rs.of room).complete tree (record { ended = ended; ahead = run }) to (subst (λ x. Spelled tree (record { ended = ended; ahead = x }) (record { ended = to; ahead = [] })) (append-nil run) h) l in
        is_whole tree to o (sym q ∙ a) n

    -- what does not read these tokens whole spells none of the trees that fit
    not_whole : (o : Outcome A) (ended : ℕ) (run : List Token) → NotWhole o → p room (record { ended = ended; ahead = run }) ≡ o → NoneGoesOn Spelled (Fitting height room) ended run None
    not_whole o ended run n q = record { none = λ tree more to w h l. whole_not o ended run n q tree more to w h l }

    module _ (tokens : List Token) (at : ℕ) (c : Cursor) (is : c ≡ cursor_at tokens at) (e : ParseError) (to : Cursor) (n : ℕ) (h : p room c ≡ Err (record { rule = e; at = to })) (q : n ≡ length to.ahead) where
      at_start : p room (cursor_at tokens at) ≡ Err (record { rule = e; at = to })
      at_start = ap (p room) (sym is) ∙ h

      place_left : (place : ℕ) → place ≡ place_at tokens (length tokens - n) → place ≡ place_at tokens (length tokens - length to.ahead)
      place_left place i = i ∙ ap (λ m. place_at tokens (length tokens - m)) q

      module _ (rule : SynRule) (b : e ≡ Broken rule) (place : ℕ) (i : place ≡ place_at tokens (length tokens - n)) where
        is_refused : (o : Outcome A) (d : Cursor) → at ≤ length tokens → d ≡ cursor_at (take (length tokens - n) tokens) at → p room d ≡ o → NotWhole o → IsRefused Spelled height room tokens at rule place
        is_refused o d k f r w =
            let s : Stop = record { rule = e; at = to } in
            let end = length tokens - length to.ahead in
            let g = stops_of (p room) (cursor_at tokens at) s (((rs.of room).near).holds (cursor_at tokens at)) at_start in
            let left : drop end tokens ≡ to.ahead = left_of at tokens g.front to.ahead g.split in
            let split : drop at tokens ≡ g.front ++ drop end tokens = g.split ∙ ap (λ l. g.front ++ l) (sym left) in
            let less : at ≤ end = stop_within Spelled height room (p room) (rs.of room) tokens at s k at_start in
            let most : end ≤ length tokens = omega arith in
            let run : drop at (take end tokens) ≡ g.front = append_cancel_right (drop at (take end tokens)) g.front (drop end tokens) (front_behind at end tokens less most ∙ split) in
            let front : p room (record { ended = ended_at tokens at; ahead = g.front }) ≡ o =
            ap (λ l. p room (record { ended = ended_at tokens at; ahead = l })) (sym run) ∙ ap (λ z. p room (record { ended = z; ahead = drop at (take end tokens) })) (sym (ended_front at end tokens less)) ∙ ap (λ m. p room (cursor_at (take (length tokens - m) tokens) at)) (sym q) ∙ ap (p room) (sym f) ∙ r in
            record {
              end = end;
              within = most;
              run = g.front;
              split = split;
              place_is = place_left place i;
              alone = not_whole o (ended_at tokens at) g.front w front;
              refused = subst (NoneGoesOn Spelled (Asked height room rule) (ended_at tokens at) g.front) (sym (ap head left) ∙ sym (get_at end tokens)) (stops_by rule (cursor_at tokens at) s g b);
            }

        is_stop : Stopped (p room) tokens at rule place
        is_stop = record { stop = to; stops = rw (← b) at_start; place_is = place_left place i }

      pub answer_refused : {B : Type 0} (tree : B → A) (rule : SynRule) (f : Fault SynRule) (o : Outcome A) (d : Cursor) → e ≡ Broken rule → f ≡ Refused rule (place_at tokens (length tokens - n)) → at ≤ length tokens
          → d ≡ cursor_at (take (length tokens - n) tokens) at → p room d ≡ o → NotWhole o → IsAnswer Spelled height room tree tokens at (Err f)
      answer_refused tree rule f o d b i k m r w = subst (λ g. IsAnswer Spelled height room tree tokens at (Err g)) (sym i) (is_refused rule b (place_at tokens (length tokens - n)) refl o d k m r w)

      pub answer_stop : (B : Type 0) (rule : SynRule) (f : Fault SynRule) → e ≡ Broken rule → f ≡ Refused rule (place_at tokens (length tokens - n)) → IsStop {B = B} (p room) tokens at (Err f)
      answer_stop B rule f b i = subst (λ g. IsStop {B = B} (p room) tokens at (Err g)) (sym i) (is_stop rule b (place_at tokens (length tokens - n)) refl)
