-- What a run of flat code never takes back: output and trace only grow, and so do its counts.
use Rattle.std.proofs.Common.{◌≡◌, ℕ, zero, suc, ◌+◌, ◌%◌, ◌≤◌, Bool, true, false, cond, List, [], ◌∷◌, ◌++◌, Option, Some, None, refl, sym, ap, ◌∙◌, arith, append_assoc, append-nil}
use Rattle.std.specs.Prelude.{reverse, slice_get}
use Rattle.std.specs.Str.{bytes_eq}
use Rattle.std.proofs.lemmas.List.{reverse-append}
use Rattle.pa_ctype.specs.Traces.{Enter, Trace}
use Rattle.pa_lir.specs.declared.op.Op.{Op}
use Rattle.pa_lir.specs.declared.function.LirFn.{LirFn}
use Rattle.pa_lir.specs.declared.function.Lir.{Lir}
use Rattle.pa_lir.specs.Values.{FlatValue, Number, At, Code, Objects}
use Rattle.pa_lir.specs.Meaning.{Open, Coming, Flat, FlatEnd, FlatMeaning, Act, Gives, Changes, Goes, Calls, Returns, with_result, resumes, finishes, leaves, applied, applied_if, act_of, counts, operates, continues, putchar, getchar, enters, answers, prints, byte_or_end, rest_of, reads, enters_named, arrives, born, function_named, unit_from, unless_ended, unit, run, begun, shown, lmean}
use Rattle.pa_lir.proofs.Runs.{run_add}

-- a state behind one with this output and trace and these counts
pub record Longer (output : List ℕ) (trace : Trace) (operations cost deep : ℕ) (new : Flat) : Type 0 where
  pub bytes : List ℕ
  pub printed : new.output ≡ output ++ bytes
  pub events : Trace
  pub seen : new.trace ≡ events ++ trace
  pub more_operations : operations ≤ new.operations
  pub more_cost : cost ≤ new.cost
  pub deeper : deep ≤ new.deep

abbrev pub Grows : (old new : Flat) → Type 0
Grows old new = Longer old.output old.trace old.operations old.cost old.deep new

-- the same output, and these events
traces : (old new : Flat) (events : Trace) → new.output ≡ old.output → new.trace ≡ events ++ old.trace → old.operations ≤ new.operations → old.cost ≤ new.cost → old.deep ≤ new.deep → Grows old new
traces old new events o t n c d = record {
  bytes = [];
  printed = o ∙ sym (append-nil old.output);
  events = events;
  seen = t;
  more_operations = n;
  more_cost = c;
  deeper = d;
}

pub Grows-then : (a b c : Flat) → Grows a b → Grows b c → Grows a c
Grows-then a b c one two = record {
  bytes = one.bytes ++ two.bytes;
  printed = two.printed ∙ (ap (λ x. x ++ two.bytes) one.printed ∙ append_assoc a.output one.bytes two.bytes);
  events = two.events ++ one.events;
  seen = two.seen ∙ (ap (λ x. two.events ++ x) one.seen ∙ sym (append_assoc two.events one.events a.trace));
  more_operations = omega (arith, one.more_operations, two.more_operations);
  more_cost = omega (arith, one.more_cost, two.more_cost);
  deeper = omega (arith, one.deeper, two.deeper);
}

-- nothing more is shown, and nothing is counted
stays : (old new : Flat) → new.output ≡ old.output → new.trace ≡ old.trace → new.operations ≡ old.operations → new.cost ≡ old.cost → new.deep ≡ old.deep → Grows old new
stays old new o t n c d = traces old new [] o t (omega (arith, n)) (omega (arith, c)) (omega (arith, d))

-- ---- an operation

resumes_grows : (o : Option Open) (os : List Open) (s : Flat) → Grows s (resumes o os s)
resumes_grows None os s = stays s _ refl refl refl refl refl
resumes_grows (Some o) os s = stays s _ refl refl refl refl refl

finishes_grows : (value : Option FlatValue) (s : Flat) → Grows s (finishes value s)
finishes_grows None s = stays s _ refl refl refl refl refl
finishes_grows (Some (Number x)) s = stays s _ refl refl refl refl refl
finishes_grows (Some (At o offset)) s = stays s _ refl refl refl refl refl
finishes_grows (Some (Code name schema)) s = stays s _ refl refl refl refl refl

leaves_grows : (into : Option ℕ) (value : Option FlatValue) (os : List Open) (s : Flat) → Grows s (leaves into value os s)
leaves_grows into value [] s = finishes_grows value (record s { opens = [] })
leaves_grows into value (o ∷ os) s = resumes_grows (with_result into value o) os s

applied_grows : (o : Open) (os : List Open) (act : Act) (s : Flat) → Grows s (applied o os act s)
unfolding applied
applied_grows o os (Gives to value seen) s = traces s _ seen refl refl (omega arith) (omega arith) (omega arith)
applied_grows o os (Changes object to) s = stays s _ refl refl refl refl refl
applied_grows o os (Goes at) s = stays s _ refl refl refl refl refl
applied_grows o os (Calls coming seen) s = traces s _ seen refl refl (omega arith) (omega arith) (omega arith)
applied_grows o os (Returns value) s = leaves_grows o.into value os _

applied_if_grows : (o : Open) (os : List Open) (act : Option Act) (s : Flat) → Grows s (applied_if o os act s)
applied_if_grows o os None s = stays s _ refl refl refl refl refl
applied_if_grows o os (Some act) s = applied_grows o os act s

counts_grows : (o : Op) (s : Flat) → Grows s (counts o s)
counts_grows o s = traces s _ [] refl refl (omega arith) (omega arith) (omega arith)

operates_grows : (lir : Lir) (o : Open) (os : List Open) (operation : Option Op) (s : Flat) → Grows s (operates lir o os operation s)
operates_grows lir o os None s = stays s _ refl refl refl refl refl
operates_grows lir o os (Some operation) s =
    Grows-then s _ _ (counts_grows operation s) (applied_if_grows o os (act_of lir s.objects o operation) (counts operation s))

continues_grows : (lir : Lir) (os : List Open) (s : Flat) → Grows s (continues lir os s)
continues_grows lir [] s = stays s _ refl refl refl refl refl
continues_grows lir (o ∷ os) s = operates_grows lir o os (slice_get o.function.ops o.at) s

-- ---- an entry

enters_grows : (f : LirFn) (into : Option ℕ) (s : Flat) (locals : Option Objects) → Grows s (enters f into s locals)
enters_grows f into s None = stays s _ refl refl refl refl refl
enters_grows f into s (Some locals) = traces s _ (Enter f.name ∷ []) refl refl (omega arith) (omega arith) (omega arith)

answers_grows : (into : Option ℕ) (value : FlatValue) (s : Flat) (os : List Open) → Grows s (answers into value s os)
answers_grows into value s [] = stays s _ refl refl refl refl refl
answers_grows into value s (o ∷ os) = resumes_grows (with_result into (Some value) o) os s

prints_grows : (into : Option ℕ) (arguments : List FlatValue) (s : Flat) → Grows s (prints into arguments s)
prints_grows into [] s = stays s _ refl refl refl refl refl
prints_grows into (Number x ∷ arguments) s = Grows-then s _ _ printed (answers_grows into _ _ s.opens)
  where
    printed : Grows s (record s { output = s.output ++ x % 256 ∷ []; trace = Enter putchar ∷ s.trace })
    printed = record {
      bytes = x % 256 ∷ [];
      printed = refl;
      events = Enter putchar ∷ [];
      seen = refl;
      more_operations = omega arith;
      more_cost = omega arith;
      deeper = omega arith;
    }
prints_grows into (At o offset ∷ arguments) s = stays s _ refl refl refl refl refl
prints_grows into (Code name schema ∷ arguments) s = stays s _ refl refl refl refl refl

reads_grows : (into : Option ℕ) (s : Flat) → Grows s (reads into s)
reads_grows into s =
    let read : Flat = record s { input = rest_of s.input; trace = Enter getchar ∷ s.trace } in
    Grows-then s read _ (traces s read (Enter getchar ∷ []) refl refl (omega arith) (omega arith) (omega arith)) (answers_grows into (Number (byte_or_end s.input)) read s.opens)

enters_named_grows : (c : Coming) (s : Flat) (f : Option LirFn) → Grows s (enters_named c s f)
enters_named_grows c s None = stays s _ refl refl refl refl refl
enters_named_grows c s (Some f) = enters_grows f c.into s (born f.parameters f.locals c.arguments)

arrives_grows : (lir : Lir) (c : Coming) (s : Flat) → Grows s (arrives lir c s)
unfolding arrives
arrives_grows lir c s = at (bytes_eq c.name putchar) (bytes_eq c.name getchar)
  where
    other : (b : Bool) → Grows s (cond b (reads c.into s) (enters_named c s (function_named lir.functions c.name)))
    other true = reads_grows c.into s
    other false = enters_named_grows c s (function_named lir.functions c.name)

    at : (a b : Bool) → Grows s (cond a (prints c.into c.arguments s) (cond b (reads c.into s) (enters_named c s (function_named lir.functions c.name))))
    at true b = prints_grows c.into c.arguments s
    at false b = other b

-- ---- runs

unit_from_grows : (lir : Lir) (c : Option Coming) (s : Flat) → Grows s (unit_from lir c s)
unit_from_grows lir None s = continues_grows lir s.opens s
unit_from_grows lir (Some c) s = arrives_grows lir c (record s { coming = None })

unless_ended_grows : (e : Option FlatEnd) (s t : Flat) → Grows s t → Grows s (unless_ended e s t)
unless_ended_grows None s t h = h
unless_ended_grows (Some e) s t h = stays s s refl refl refl refl refl

pub unit_grows : (lir : Lir) (s : Flat) → Grows s (unit lir s)
unfolding unit
unit_grows lir s = unless_ended_grows s.ended s (unit_from lir s.coming s) (unit_from_grows lir s.coming s)

pub run_grows : (lir : Lir) (n : ℕ) (s : Flat) → Grows s (run lir n s)
unfolding run
run_grows lir zero s = stays s s refl refl refl refl refl
run_grows lir (suc n) s = Grows-then s (unit lir s) _ (unit_grows lir s) (run_grows lir n (unit lir s))

-- ---- meanings

-- what a meaning has shown within a smaller bound comes first
pub record Extends (small large : FlatMeaning) : Type 0 where
  pub bytes : List ℕ
  pub printed : large.output ≡ small.output ++ bytes
  pub events : Trace
  pub seen : large.trace ≡ small.trace ++ events
  pub more_operations : small.operations ≤ large.operations
  pub more_cost : small.cost ≤ large.cost
  pub deeper : small.deep ≤ large.deep

shown_extends : (s t : Flat) → Grows s t → Extends (shown s) (shown t)
shown_extends s t h = record {
  bytes = h.bytes;
  printed = h.printed;
  events = reverse h.events;
  seen = ap reverse h.seen ∙ reverse-append h.events s.trace;
  more_operations = h.more_operations;
  more_cost = h.more_cost;
  deeper = h.deeper;
}

pub meaning_extends : (lir : Lir) (input : List ℕ) (m n : ℕ) → Extends (lmean lir input m) (lmean lir input (m + n))
meaning_extends lir input m n = shown_extends (run lir m (begun lir input)) (run lir (m + n) (begun lir input)) grown
  where
    grown : Grows (run lir m (begun lir input)) (run lir (m + n) (begun lir input))
    grown = rw (run_add lir m n (begun lir input)) (run_grows lir n (run lir m (begun lir input)))
