-- What is read gives the answers.
use Rattle.std.proofs.Common.{◌≡◌, ◌≤◌, ℕ, max, List, ◌++◌, Ok, Err, refl, sym, ◌∙◌}
use Rattle.std.proofs.Math.Nat.{le-max_left, le-max_right}
use Rattle.std.proofs.lemmas.List.{append_cancel_right}
use Rattle.pa_lex.specs.declared.token.Token.{Token}
use Rattle.pa_grammar.specs.declared.rule.SynRule.{SynRule}
use Rattle.pa_grammar.specs.declared.rule.SynRule.TheVariants.{S1, S2}
use Rattle.pa_grammar.specs.declared.rule.ParseError.TheVariants.{Broken}
use Rattle.pa_tree.specs.Cursors.{Cursor, start, head, place}
use Rattle.pa_tree.specs.Files.{Spells}
use Rattle.pa_tree.specs.Heights.{file_height}
use Rattle.pa_tree.specs.Stmts.{FileTree}
use Rattle.pa_grammar.specs.Parser.{Stop}
use Rattle.pa_grammar.proofs.Local.{LocalAt, Stops, with_ahead}
use Rattle.pa_grammar.specs.Answers.{most_levels, Asked}
use Rattle.pa_file_grammar.specs.Answers.{IsFile, IsRefused}
use Rattle.pa_file_grammar.specs.Reading.{file}
use Rattle.pa_file_grammar.proofs.Deeper.{file_stops}
use Rattle.pa_file_grammar.proofs.LocalReading.{file-local}
use Rattle.pa_file_grammar.proofs.Complete.{file_is, one_file}
use Rattle.pa_file_grammar.proofs.Sound.{file_sound}

pub read_file : (tokens : List Token) (f : FileTree) (e : Cursor) → file most_levels (start tokens) ≡ Ok (f, e) → IsFile tokens f
read_file tokens f e h = let r = file_sound most_levels f tokens e h in record { spells = r.0; fits = r.1; only = λ g s. one_file g f tokens s r.0 }

stops_at : (d : ℕ) (tokens : List Token) (s : Stop) → LocalAt (file d) (start tokens) (file d (start tokens)) → file d (start tokens) ≡ Err s → Stops (file d) (start tokens) s
stops_at d tokens s h e = rw e at h

stops : (d : ℕ) (tokens : List Token) (s : Stop) → file d (start tokens) ≡ Err s → Stops (file d) (start tokens) s
stops d tokens s e = stops_at d tokens s ((file-local d).holds (start tokens)) e

-- In this depth no file begins with the tokens up to and with the one where reading stops.
none_at : (d : ℕ) (tokens : List Token) (s : Stop) → file d (start tokens) ≡ Err s → (front : List Token) → tokens ≡ front ++ (s.at).ahead
    → (x : List Token) (f : FileTree) → head (s.at).ahead ≡ head x → Spells f (front ++ x) → file_height f ≤ d → ⊥
none_at d tokens s e front split x f w sp l =
    let h = stops d tokens s e in
    let same : h.front ≡ front = append_cancel_right h.front front (s.at).ahead (sym h.split ∙ split) in
    let a : file d (with_ahead (start tokens) (front ++ x)) ≡ Err (record { rule = s.rule; at = with_ahead s.at x }) = rw same at (h.again x w) in
    let b = file_is d f (front ++ x) sp l in
    cc

-- A file that the rule speaks of is within a depth in which reading stops too.
none_meant : (tokens : List Token) (rule : SynRule) (s : Stop) → s.rule ≡ Broken rule → file most_levels (start tokens) ≡ Err s → (front : List Token) → tokens ≡ front ++ (s.at).ahead
    → (x : List Token) (f : FileTree) → head (s.at).ahead ≡ head x → Spells f (front ++ x) → Asked file_height most_levels rule f → ⊥
none_meant tokens S1 s r e front split x f w sp _ =
    let d = max most_levels (file_height f) in
    none_at d tokens s (file_stops most_levels d (start tokens) s (le-max_left most_levels (file_height f)) (λ q. cc) e) front split x f w sp (le-max_right most_levels (file_height f))
none_meant tokens S2 s r e front split x f w sp l = none_at most_levels tokens s e front split x f w sp l

-- Where reading stops, no file begins with the tokens up to and with the one there; for S2, none within the depth.
pub refused_file : (tokens : List Token) (rule : SynRule) (at : Cursor) → file most_levels (start tokens) ≡ Err (record { rule = Broken rule; at = at }) → IsRefused tokens rule (place at)
refused_file tokens rule at e = let h = stops most_levels tokens _ e in record {
  front = h.front;
  stop = at;
  split = h.split;
  at_is = refl;
  stops = e;
  none = λ x f w sp m. none_meant tokens rule _ refl e h.front h.split x f w sp m;
}
