-- A walk reaches what it should, and what it reaches shows whether a temporary is written first.
use Rattle.std.proofs.Common.{◌≡◌, ◌<◌, ◌⊎◌, inl, inr, ⊎_elim, ℕ, Bool, true, false, not, List, [], ◌∷◌, ◌++◌, length, get_or, replicate, Option, Some, None, refl, ap, sym, ◌∙◌, subst, arith}
use Rattle.std.specs.Prelude.{◌&&◌, ◌||◌, nat_eq, nat_lt}
use Rattle.std.specs.List.{slice_get}
use Rattle.std.specs.Option.{option_and_then}
use Rattle.std.proofs.lemmas.Bool.{or_cases, and_parts, or_left, or_right, cases_lt, eq-eqb, eqb-true, lt-ltb, ltb-true, false≢true}
use Rattle.std.proofs.lemmas.List.{get_or-replicate, length-replicate}
use Rattle.std.proofs.lemmas.List.Folds.{list_any-append}
use Rattle.std.proofs.lemmas.Option.{slice_get_past, slice_get_within, slice_get-get_or}
use Rattle.std.proofs.Math.ListN.{get_or-eq_default}
use Rattle.pa_lir.specs.declared.op.Op.{Op}
use Rattle.pa_lir.specs.declared.walk.Walk.{Walk}
use Rattle.pa_lir.specs.Parts.{written_by, read_by}
use Rattle.pa_lir.specs.Flow.{is_among, next_places, next_places_of, Follows, IsPath, Writes, Reads, WritesOn, IsWrittenFirst}
use Rattle.pa_lir.specs.Walks.{is_reached, is_waiting, Reaches, IsUnwritten, IsDone, IsWalk, Passes}

-- ---- tests

two : (b : Bool) → (b ≡ true) ⊎ (b ≡ false)
two true = inl refl
two false = inr refl

either : (a b c : Bool) → c ≡ (a || b) → c ≡ true → (a ≡ true) ⊎ (b ≡ true)
either a b c e h = or_cases a b (sym e ∙ h)

both_true : (a b : Bool) → a ≡ true → b ≡ true → (a && b) ≡ true
both_true true b h k = k
both_true false b h k = absurd (false≢true h)

not_true : (a : Bool) → a ≡ false → not a ≡ true
not_true a h = ap not h

among_one : (n m : ℕ) → is_among (m ∷ []) n ≡ true → n ≡ m
among_one n m h = ⊎_elim (λ e. eqb-true n m e) (λ none. absurd (false≢true none)) (or_cases (nat_eq n m) false h)

all_false : (n k : ℕ) → get_or (replicate n false) k false ≡ false
all_false n k =
    ⊎_elim (λ less. get_or-replicate n k false false less)
    (λ more. get_or-eq_default (replicate n false) false (omega (arith, more, length-replicate n false)))
    (cases_lt k n)

-- ---- what a walk has reached lies in the code

reached_within : (ops : List Op) (t : ℕ) (w : Walk) → IsWalk ops t w → (at : ℕ) → is_reached w at ≡ true → at < length ops
reached_within ops t w walk at h =
    ⊎_elim
    (λ less. omega (arith, less, walk.count))
    (λ more. absurd (false≢true (sym (get_or-eq_default w.reached.items false more) ∙ h)))
    (cases_lt at (length w.reached.items))

last_waits : (w : Walk) (waiting : List ℕ) (at : ℕ) → w.waiting.items ≡ waiting ++ at ∷ [] → is_waiting w at ≡ true
last_waits w waiting at e =
    ap (λ ws. is_among ws at) e ∙ (list_any-append (nat_eq at) waiting (at ∷ []) ∙ or_right (is_among waiting at) (is_among (at ∷ []) at) (or_left (nat_eq at at) false (eq-eqb at at refl)))

-- what waits next lies in the code, and nothing writes the temporary before it
pub next_within : (ops : List Op) (t : ℕ) (w : Walk) → IsWalk ops t w → (waiting : List ℕ) (at : ℕ) → w.waiting.items ≡ waiting ++ at ∷ [] → at < length ops
next_within ops t w walk waiting at e = reached_within ops t w walk at (walk.waiting at (last_waits w waiting at e))

next_unwritten : (ops : List Op) (t : ℕ) (w : Walk) → IsWalk ops t w → (waiting : List ℕ) (at : ℕ) → w.waiting.items ≡ waiting ++ at ∷ [] → IsUnwritten ops t at
next_unwritten ops t w walk waiting at e = walk.unwritten at (walk.waiting at (last_waits w waiting at e))

-- ---- a step

still_reached : (old new : Walk) (places : List ℕ) → Reaches old new places → (at : ℕ) → is_reached old at ≡ true → is_reached new at ≡ true
still_reached old new places r at h = r.reached at ∙ or_left (is_reached old at) (is_among places at && nat_lt at (length old.reached.items)) h

pub still_done : (ops : List Op) (t : ℕ) (old new : Walk) (places : List ℕ) → Reaches old new places → (at : ℕ) → IsDone ops t old at → IsDone ops t new at
still_done ops t old new places r at d = record {
  no_read = d.no_read;
  onward = ⊎_elim (λ writes. inl writes) (λ on. inr (λ next follows within. still_reached old new places r next (on next follows within))) d.onward;
}

-- a walk goes on from a place that waited, to places that nothing leads to but unwritten paths
stepped : (ops : List Op) (t : ℕ) (w old new : Walk) (places : List ℕ) (at : ℕ) → IsWalk ops t w → old.reached.items ≡ w.reached.items → w.waiting.items ≡ old.waiting.items ++ at ∷ [] → Reaches old new places
    → ((k : ℕ) → is_among places k ≡ true → k < length ops → IsUnwritten ops t k) → IsDone ops t new at → IsWalk ops t new
stepped ops t w old new places at walk same popped r fresh done =
    let same_at : (k : ℕ) → is_reached old k ≡ is_reached w k = λ k. ap (λ xs. get_or xs k false) same in
    let count : length old.reached.items ≡ length ops = ap length same ∙ walk.count in
    let back : (k : ℕ) → is_reached old k ≡ true → is_reached w k ≡ true = λ k h. sym (same_at k) ∙ h in
    record {
      count = r.count ∙ count;
      unwritten = λ k h. ⊎_elim
          (λ before. walk.unwritten k (back k before))
          (λ now. fresh k (and_parts (is_among places k) (nat_lt k (length old.reached.items)) now).0 (omega (arith, ltb-true k (length old.reached.items) (and_parts (is_among places k) (nat_lt k (length old.reached.items)) now).1, count)))
          (either (is_reached old k) (is_among places k && nat_lt k (length old.reached.items)) (is_reached new k) (r.reached k) h);
      waiting = λ k h. ⊎_elim
          (λ before. still_reached old new places r k (same_at k ∙ walk.waiting k (ap (λ ws. is_among ws k) popped ∙ (list_any-append (nat_eq k) old.waiting.items (at ∷ []) ∙ or_left (is_among old.waiting.items k) (is_among (at ∷ []) k) before))))
          (λ now. (and_parts (not (is_reached old k)) (is_reached new k) now).1)
          (either (is_waiting old k) (not (is_reached old k) && is_reached new k) (is_waiting new k) (r.waiting k) h);
      done = λ k h. ⊎_elim
          (λ before. ⊎_elim
          (λ waits. ⊎_elim
          (λ yet. inl (r.waiting k ∙ or_left (is_waiting old k) (not (is_reached old k) && is_reached new k) yet))
          (λ one. inr (subst (IsDone ops t new) (sym (among_one k at one)) done))
          (or_cases (is_among old.waiting.items k) (is_among (at ∷ []) k) (sym (list_any-append (nat_eq k) old.waiting.items (at ∷ [])) ∙ (sym (ap (λ ws. is_among ws k) popped) ∙ waits))))
          (λ was. inr (still_done ops t old new places r k (record { no_read = was.no_read; onward = ⊎_elim (λ writes. inl writes) (λ on. inr (λ next follows within. same_at next ∙ on next follows within)) was.onward })))
          (walk.done k (back k before)))
          (λ not_before. inl (r.waiting k ∙ or_right (is_waiting old k) (not (is_reached old k) && is_reached new k) (both_true (not (is_reached old k)) (is_reached new k) (not_true (is_reached old k) not_before) h)))
          (two (is_reached old k));
      entry = λ some. still_reached old new places r 0 (same_at 0 ∙ walk.entry some);
    }

-- what writes at a place is the operation there
same_op : (ops : List Op) (t at : ℕ) (o : Op) → slice_get ops at ≡ Some o → Writes ops t at → written_by o ≡ Some t
same_op ops t at o e writes = let same : Some o ≡ Some writes.0 = sym e ∙ writes.1 in ap (option_and_then written_by) same ∙ writes.2

-- a path goes on behind a place that doesn't write the temporary
longer : (ops : List Op) (t at : ℕ) (o : Op) → slice_get ops at ≡ Some o → (written_by o ≡ Some t → ⊥) → IsUnwritten ops t at → (k : ℕ) → is_among (next_places ops at o) k ≡ true → IsUnwritten ops t k
unfolding IsPath WritesOn
longer ops t at o e silent path k next =
    (at ∷ path.0, (ap (λ found. is_among (next_places_of ops at found) k) e ∙ next, path.1), λ writes. ⊎_elim (λ here. silent (same_op ops t at o e here)) path.2 writes)

-- one place of a walk, which doesn't read the temporary
pub walk_step : (ops : List Op) (t : ℕ) (w old new : Walk) (at : ℕ) → IsWalk ops t w → old.reached.items ≡ w.reached.items → w.waiting.items ≡ old.waiting.items ++ at ∷ [] → (Reads ops t at → ⊥) → Passes ops t at old new → IsWalk ops t new
walk_step ops t w old new at walk same popped silent passes =
    ⊎_elim
    (λ writes. stepped ops t w old new [] at walk same popped writes.1 (λ k none within. absurd (false≢true none))
    (record { no_read = silent; onward = inl (passes.0, passes.1, writes.0) }))
    (λ goes. stepped ops t w old new (next_places ops at passes.0) at walk same popped goes.1
    (λ k next within. longer ops t at passes.0 passes.1 goes.0 (next_unwritten ops t w walk old.waiting.items at popped) k next)
    (record {
      no_read = silent;
      onward = inr (λ next follows within.
          goes.1.reached next ∙ or_right (is_reached old next) (is_among (next_places ops at passes.0) next && nat_lt next (length old.reached.items))
          (both_true (is_among (next_places ops at passes.0) next) (nat_lt next (length old.reached.items))
          (sym (ap (λ found. is_among (next_places_of ops at found) next) passes.1) ∙ follows)
          (lt-ltb next (length old.reached.items) (omega (arith, within, ap length same, walk.count)))));
    }))
    passes.2

-- ---- the beginning

pub walk_begins : (ops : List Op) (t : ℕ) (old new : Walk) → old.reached.items ≡ replicate (length ops) false → old.waiting.items ≡ [] → Reaches old new (0 ∷ []) → IsWalk ops t new
unfolding IsPath WritesOn
walk_begins ops t old new none empty r =
    let count : length old.reached.items ≡ length ops = ap length none ∙ length-replicate (length ops) false in
    let unreached : (k : ℕ) → is_reached old k ≡ false = λ k. ap (λ xs. get_or xs k false) none ∙ all_false (length ops) k in
    let first : (k : ℕ) → is_reached new k ≡ true → k ≡ 0 = λ k h. ⊎_elim
    (λ before. absurd (false≢true (sym (unreached k) ∙ before)))
    (λ now. among_one k 0 (and_parts (is_among (0 ∷ []) k) (nat_lt k (length old.reached.items)) now).0)
    (either (is_reached old k) (is_among (0 ∷ []) k && nat_lt k (length old.reached.items)) (is_reached new k) (r.reached k) h) in
    record {
      count = r.count ∙ count;
      unwritten = λ k h. ([], first k h, λ none. none);
      waiting = λ k h. ⊎_elim
          (λ before. absurd (false≢true (sym (ap (λ ws. is_among ws k) empty) ∙ before)))
          (λ now. (and_parts (not (is_reached old k)) (is_reached new k) now).1)
          (either (is_waiting old k) (not (is_reached old k) && is_reached new k) (is_waiting new k) (r.waiting k) h);
      done = λ k h. inl (r.waiting k ∙ or_right (is_waiting old k) (not (is_reached old k) && is_reached new k) (both_true (not (is_reached old k)) (is_reached new k) (not_true (is_reached old k) (unreached k)) h));
      entry = λ some. r.reached 0 ∙ or_right (is_reached old 0) (is_among (0 ∷ []) 0 && nat_lt 0 (length old.reached.items)) (lt-ltb 0 (length old.reached.items) (omega (arith, some, count)));
    }

-- ---- the end

follows_within : (ops : List Op) (before after : ℕ) → Follows ops before after → before < length ops
follows_within ops before after follows =
    ⊎_elim (λ less. less)
    (λ more. absurd (false≢true (sym (ap (λ found. is_among (next_places_of ops before found) after) (slice_get_past ops before more)) ∙ follows)))
    (cases_lt before (length ops))

-- where nothing waits any more, a path to a place that isn't reached has a write
covered : (ops : List Op) (t : ℕ) (w : Walk) → IsWalk ops t w → w.waiting.items ≡ [] → (before : List ℕ) (at : ℕ) → IsPath ops (at ∷ before) → at < length ops → WritesOn ops t before ⊎ (is_reached w at ≡ true)
unfolding IsPath WritesOn
covered ops t w walk none [] at path within = inr (subst (λ k. is_reached w k ≡ true) (sym path) (walk.entry (omega (arith, within))))
covered ops t w walk none (b ∷ before) at path within =
    ⊎_elim
    (λ earlier. inl (inr earlier))
    (λ reached. ⊎_elim
    (λ waits. absurd (false≢true (sym (ap (λ ws. is_among ws b) none) ∙ waits)))
    (λ done. ⊎_elim (λ writes. inl (inl writes)) (λ on. inr (on at path.0 within)) done.onward)
    (walk.done b reached))
    (covered ops t w walk none before b path.1 (follows_within ops b at path.0))

pub walk_ends : (ops : List Op) (t : ℕ) (w : Walk) → IsWalk ops t w → w.waiting.items ≡ [] → IsWrittenFirst ops t
walk_ends ops t w walk none at before path reads =
    ⊎_elim
    (λ writes. writes)
    (λ reached. ⊎_elim
    (λ waits. absurd (false≢true (sym (ap (λ ws. is_among ws at) none) ∙ waits)))
    (λ done. absurd (done.no_read reads))
    (walk.done at reached))
    (covered ops t w walk none before at path (slice_get_within ops at reads.0 reads.1))

-- a place that waits and reads the temporary shows that it isn't written first
pub walk_refutes : (ops : List Op) (t : ℕ) (w : Walk) → IsWalk ops t w → (waiting : List ℕ) (at : ℕ) → w.waiting.items ≡ waiting ++ at ∷ [] → Reads ops t at → IsWrittenFirst ops t → ⊥
walk_refutes ops t w walk waiting at popped reads first =
    let path = next_unwritten ops t w walk waiting at popped in
    path.2 (first at path.0 path.1 reads)

-- ---- what the code sees

pub read_here : (ops : List Op) (t at : ℕ) (d : Op) → at < length ops → is_among (read_by (get_or ops at d)) t ≡ true → Reads ops t at
read_here ops t at d within h = (get_or ops at d, slice_get-get_or ops at d within, h)

abbrev pub holds_in : {X : Type 0} → (X → Bool) → Option X → Bool
holds_in p None = false
holds_in p (Some x) = p x

pub not_read_here : (ops : List Op) (t at : ℕ) (d : Op) → at < length ops → is_among (read_by (get_or ops at d)) t ≡ false → Reads ops t at → ⊥
not_read_here ops t at d within h reads =
    let same : Some (get_or ops at d) ≡ Some reads.0 = sym (slice_get-get_or ops at d within) ∙ reads.1 in
    false≢true (sym h ∙ (ap (holds_in (λ o. is_among (read_by o) t)) same ∙ reads.2))

pub empty_list : {X : Type 0} (xs : List X) → length xs ≡ 0 → xs ≡ []
empty_list [] h = refl
empty_list (x ∷ xs) h = absurd (omega (arith, h))
