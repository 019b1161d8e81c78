-- A walk along a script: the items of one number are applied, and those behind them are left.
use Rattle.std.proofs.Common.{◌≡◌, ◌≢◌, ℕ, ◌+◌, ◌<◌, ◌≤◌, true, false, cond, eqb, leb, ◌&&◌, List, [], ◌∷◌, ◌++◌, length, refl, sym, ap, ◌∙◌, subst, append_assoc, arith}
use Rattle.std.proofs.lemmas.Bool.{and_parts, and_from, leb-true, le-leb, eq-eqb, ne_eqb}
use Rattle.std.specs.Prelude.{All}
use Rattle.std.proofs.lemmas.List.Elements.{All-nil, All-head, All-tail, All-append, All-push}
use Rattle.pa_mem.specs.Memory.{Region}
use Rattle.pa_object.specs.declared.script.Deed.{Deed}
use Rattle.pa_object.specs.declared.script.Deed.TheVariants as deed
use Rattle.pa_object.specs.declared.script.Item.{Item}
use Rattle.pa_object.specs.Machine.{Machine}
use Rattle.pa_object.specs.Run.{applied, applied_all, done_to}
use Rattle.pa_object.specs.Script.{deed_fits, all_fit, size_of_deed, copy_is_short, writes_bytes, is_line, all_lines, ordered_from, is_script}
use Rattle.pa_object.proofs.Growth.{outlines-deed, all_fit-outlines, applied_all-before}
use Rattle.pa_machine.specs.Items.{IsRest, next_number}
use Rattle.pa_machine.specs.Running.{Running}

-- ---- lines

pub script-lines : (items : List Item) → is_script items ≡ true → all_lines items ≡ true
script-lines items h = (and_parts (all_lines items) (ordered_from 0 items) (and_parts (leb (length items) 65536) (all_lines items && ordered_from 0 items) h).1).0

pub script-ordered : (items : List Item) → is_script items ≡ true → ordered_from 0 items ≡ true
script-ordered items h = (and_parts (all_lines items) (ordered_from 0 items) (and_parts (leb (length items) 65536) (all_lines items && ordered_from 0 items) h).1).1

all_lines-first : (item : Item) (items : List Item) → all_lines (item ∷ items) ≡ true → is_line item ≡ true
all_lines-first item items h = (and_parts (is_line item) (all_lines items) h).0

all_lines-rest : (item : Item) (items : List Item) → all_lines (item ∷ items) ≡ true → all_lines items ≡ true
all_lines-rest item items h = (and_parts (is_line item) (all_lines items) h).1

-- a line copies no more than a copy may
line-short : (item : Item) → is_line item ≡ true → copy_is_short item.deed ≡ true
line-short item h =
    let sizes = and_parts (leb 1 (size_of_deed item.deed)) (leb (size_of_deed item.deed) 4096 && writes_bytes item.deed) h in
    short item.deed (and_parts (leb (size_of_deed item.deed) 4096) (writes_bytes item.deed) sizes.1).0
  where
    short : (d : Deed) → leb (size_of_deed d) 4096 ≡ true → copy_is_short d ≡ true
    short (deed.Write at bytes) h = refl
    short (deed.Copy to from count) h = h

all_fit-first : (item : Item) (items : List Item) (memory : List Region) → all_fit (item ∷ items) memory ≡ true → deed_fits item.deed memory ≡ true
all_fit-first item items memory h = (and_parts (deed_fits item.deed memory) (all_fit items memory) h).0

all_fit-rest : (item : Item) (items : List Item) (memory : List Region) → all_fit (item ∷ items) memory ≡ true → all_fit items memory ≡ true
all_fit-rest item items memory h = (and_parts (deed_fits item.deed memory) (all_fit items memory) h).1

-- ---- what is left of a script

pub rest-none : (number : ℕ) (items : List Item) → IsRest number items items
rest-none number items = record { before = []; split = refl; below = All-nil (λ (item : Item). item.step < number) }

-- the next item is below the number
pub rest-next : (number : ℕ) (items left : List Item) (item : Item) (behind : List Item) → IsRest number items left → left ≡ item ∷ behind → item.step < number → IsRest number items behind
rest-next number items left item behind rest is lt = record {
  before = rest.before ++ item ∷ [];
  split = rest.split ∙ ap (λ l. rest.before ++ l) is ∙ sym (append_assoc rest.before (item ∷ []) behind);
  below = All-push (λ (item : Item). item.step < number) rest.before item rest.below lt;
}

-- what is left of what is left
pub rest-rest : (first number : ℕ) (items left behind : List Item) → first ≤ number → IsRest first items left → IsRest number left behind → IsRest number items behind
rest-rest first number items left behind le one two = record {
  before = one.before ++ two.before;
  split = one.split ∙ ap (λ l. one.before ++ l) two.split ∙ sym (append_assoc one.before two.before behind);
  below = All-append (λ (item : Item). item.step < number) one.before two.before (λ k d lt. let h = one.below k d lt in omega arith) two.below;
}

applied_all-below : (before rest : List Item) (number k : ℕ) (m : Machine) → All (λ (item : Item). item.step < number) before → number ≤ k → applied_all (before ++ rest) k m ≡ applied_all rest k m
unfolding applied_all
applied_all-below [] rest number k m below le = refl
applied_all-below (item ∷ before) rest number k m below le =
    let lt = All-head (λ (item : Item). item.step < number) item before below in
    let other : eqb item.step k ≡ false = ne_eqb item.step k (omega arith) in
    ap (λ b. applied_all (before ++ rest) k (cond b (applied item m) m)) other
    ∙ applied_all-below before rest number k m (All-tail (λ (item : Item). item.step < number) item before below) le

all_fit-behind : (before rest : List Item) (memory : List Region) → all_fit (before ++ rest) memory ≡ true → all_fit rest memory ≡ true
all_fit-behind [] rest memory h = h
all_fit-behind (item ∷ before) rest memory h = all_fit-behind before rest memory (all_fit-rest item (before ++ rest) memory h)

all_lines-behind : (before rest : List Item) → all_lines (before ++ rest) ≡ true → all_lines rest ≡ true
all_lines-behind [] rest h = h
all_lines-behind (item ∷ before) rest h = all_lines-behind before rest (all_lines-rest item (before ++ rest) h)

-- what is left does the same from the number on
pub rest-applied : (number : ℕ) (items left : List Item) → IsRest number items left → (k : ℕ) (m : Machine) → number ≤ k → applied_all items k m ≡ applied_all left k m
rest-applied number items left rest k m le = ap (λ l. applied_all l k m) rest.split ∙ applied_all-below rest.before left number k m rest.below le

pub rest-fits : (number : ℕ) (items left : List Item) → IsRest number items left → (memory : List Region) → all_fit items memory ≡ true → all_fit left memory ≡ true
rest-fits number items left rest memory h = all_fit-behind rest.before left memory (subst (λ l. all_fit l memory ≡ true) rest.split h)

pub rest-lines : (number : ℕ) (items left : List Item) → IsRest number items left → all_lines items ≡ true → all_lines left ≡ true
rest-lines number items left rest h = all_lines-behind rest.before left (subst (λ l. all_lines l ≡ true) rest.split h)

-- ---- the items of a number

-- so far along the items of a number: `left` is what stands behind those that are done
pub record Walked {P : Type 0} (number : ℕ) (items left : List Item) (first now : Running P) : Type 0 where
  pub done : applied_all items number first.machine ≡ applied_all left number now.machine
  pub fits : all_fit left now.machine.memory ≡ true
  pub lines : all_lines left ≡ true
  pub ordered : ordered_from number left ≡ true
  pub rest : IsRest (number + 1) items left
  pub same : now ≡ record first { machine = now.machine }

pub walked-none : {P : Type 0} (number : ℕ) (items : List Item) (m : Running P) → all_fit items m.machine.memory ≡ true → all_lines items ≡ true → ordered_from number items ≡ true → Walked number items items m m
walked-none number items m fits lines ordered = record {
  done = refl;
  fits = fits;
  lines = lines;
  ordered = ordered;
  rest = rest-none (number + 1) items;
  same = refl;
}

module _ {P : Type 0} (number : ℕ) (items left : List Item) (item : Item) (behind : List Item) (first now : Running P) (walked : Walked number items left first now) (is : left ≡ item ∷ behind) where
  pub walked-fits : deed_fits item.deed now.machine.memory ≡ true
  walked-fits = all_fit-first item behind now.machine.memory (subst (λ l. all_fit l now.machine.memory ≡ true) is walked.fits)

  walked-line : is_line item ≡ true
  walked-line = all_lines-first item behind (subst (λ l. all_lines l ≡ true) is walked.lines)

  pub walked-short : copy_is_short item.deed ≡ true
  walked-short = line-short item walked-line

  -- the next item is of this number, and is done
  pub walked-item : (new : Running P) → item.step ≡ number → new ≡ record now { machine = applied item now.machine } → Walked number items behind first new
  unfolding applied_all
  walked-item new here made =
      let machine = ap (λ (x : Running P). x.machine) made in
      let parts = and_parts (leb number item.step) (ordered_from item.step behind) (subst (λ l. ordered_from number l ≡ true) is walked.ordered) in
      let fits = all_fit-rest item behind now.machine.memory (subst (λ l. all_fit l now.machine.memory ≡ true) is walked.fits) in
      let done = walked.done ∙ ap (λ l. applied_all l number now.machine) is ∙ ap (λ b. applied_all behind number (cond b (applied item now.machine) now.machine)) (eq-eqb item.step number here) in
      record {
        done = done ∙ ap (applied_all behind number) (sym machine);
        fits = ap (λ (x : Machine). all_fit behind x.memory) machine ∙ all_fit-outlines behind (done_to item.deed now.machine.memory) now.machine.memory (outlines-deed item.deed now.machine.memory) ∙ fits;
        ordered = ap (λ n. ordered_from n behind) (sym here) ∙ parts.1;
        lines = all_lines-rest item behind (subst (λ l. all_lines l ≡ true) is walked.lines);
        rest = rest-next (number + 1) items left item behind walked.rest is (omega arith);
        same = made ∙ ap (λ (x : Running P). record x { machine = applied item now.machine }) walked.same ∙ ap (λ m. record first { machine = m }) (sym machine);
      }

-- the walk is over
pub record Over {P : Type 0} (number : ℕ) (items left : List Item) (first now : Running P) : Type 0 where
  pub done : now ≡ record first { machine = applied_all items number first.machine }
  pub ordered : ordered_from (number + 1) left ≡ true

ordered_from-none : (number : ℕ) → ordered_from number [] ≡ true
ordered_from-none number = refl

over-ordered : {P : Type 0} (number : ℕ) (items left : List Item) (first now : Running P) → Walked number items left first now → ordered_from (number + 1) left ≡ true → Over number items left first now
over-ordered {P} number items left first now walked ordered =
    let next : number < number + 1 = omega arith in
    let all : now.machine ≡ applied_all items number first.machine = sym (walked.done ∙ applied_all-before left (number + 1) number now.machine ordered next) in
    record { done = walked.same ∙ ap (λ m. record first { machine = m }) all; ordered = ordered }

-- no item is left
pub over-none : {P : Type 0} (number : ℕ) (items left : List Item) (first now : Running P) → Walked number items left first now → length left ≡ 0 → Over number items left first now
over-none number items left first now walked none = over-ordered number items left first now walked (no_items left none)
  where
    no_items : (left : List Item) → length left ≡ 0 → ordered_from (number + 1) left ≡ true
    no_items [] h = ordered_from-none (number + 1)
    no_items (item ∷ behind) h = cc

-- the next item is of a greater number
pub over-other : {P : Type 0} (number : ℕ) (items left : List Item) (item : Item) (behind : List Item) (first now : Running P) → Walked number items left first now → left ≡ item ∷ behind → item.step ≢ number → Over number items left first now
over-other number items left item behind first now walked is other =
    let parts = and_parts (leb number item.step) (ordered_from item.step behind) (subst (λ l. ordered_from number l ≡ true) is walked.ordered) in
    let below : number ≤ item.step = leb-true number item.step parts.0 in
    let above : number + 1 ≤ item.step = omega arith in
    let ordered : ordered_from (number + 1) (item ∷ behind) ≡ true = and_from (leb (number + 1) item.step) (ordered_from item.step behind) (le-leb (number + 1) item.step above) parts.1 in
    over-ordered number items left first now walked (subst (λ l. ordered_from (number + 1) l ≡ true) (sym is) ordered)

-- ---- the items of a number and those behind them

ordered_from-less : (number from : ℕ) (items : List Item) → from ≤ number → ordered_from number items ≡ true → ordered_from from items ≡ true
ordered_from-less number from [] le h = refl
ordered_from-less number from (item ∷ items) le h =
    let parts = and_parts (leb number item.step) (ordered_from item.step items) h in
    let low : number ≤ item.step = leb-true number item.step parts.0 in
    and_from (leb from item.step) (ordered_from item.step items) (le-leb from item.step (omega arith)) parts.1

-- so far along a script: `left` is what stands behind items of smaller numbers
pub record Skipped (number : ℕ) (items left : List Item) : Type 0 where
  pub ordered : ordered_from 0 left ≡ true
  pub rest : IsRest number items left

pub skipped-none : (number : ℕ) (items : List Item) → ordered_from 0 items ≡ true → Skipped number items items
skipped-none number items h = record { ordered = h; rest = rest-none number items }

pub skipped-item : (number : ℕ) (items left : List Item) (item : Item) (behind : List Item) → Skipped number items left → left ≡ item ∷ behind → item.step < number → Skipped number items behind
skipped-item number items left item behind skipped is below =
    let parts = and_parts (leb 0 item.step) (ordered_from item.step behind) (subst (λ l. ordered_from 0 l ≡ true) is skipped.ordered) in
    record {
      ordered = ordered_from-less item.step 0 behind (omega arith) parts.1;
      rest = rest-next number items left item behind skipped.rest is below;
    }

pub skipped-all : (number : ℕ) (left : List Item) → length left ≡ 0 → ordered_from number left ≡ true
skipped-all number [] h = ordered_from-none number
skipped-all number (item ∷ behind) h = cc

pub skipped-other : (number : ℕ) (items left : List Item) (item : Item) (behind : List Item) → Skipped number items left → left ≡ item ∷ behind → number ≤ item.step → ordered_from number left ≡ true
skipped-other number items left item behind skipped is above =
    let parts = and_parts (leb 0 item.step) (ordered_from item.step behind) (subst (λ l. ordered_from 0 l ≡ true) is skipped.ordered) in
    subst (λ l. ordered_from number l ≡ true) (sym is) (and_from (leb number item.step) (ordered_from item.step behind) (le-leb number item.step above) parts.1)

-- ---- the number of the next item

pub next-most : (items : List Item) (bound : ℕ) → next_number items bound ≤ bound
next-most [] bound = omega arith
next-most (item ∷ items) bound = omega arith

pub next-least : (number bound : ℕ) (items : List Item) → number ≤ bound → ordered_from number items ≡ true → number ≤ next_number items bound
next-least number bound [] le h = le
next-least number bound (item ∷ items) le h = let low = leb-true number item.step (and_parts (leb number item.step) (ordered_from item.step items) h).0 in omega arith

pub next-ordered : (number bound from : ℕ) (items : List Item) → ordered_from number items ≡ true → from ≤ next_number items bound → ordered_from from items ≡ true
next-ordered number bound from [] h le = refl
next-ordered number bound from (item ∷ items) h le =
    let parts = and_parts (leb number item.step) (ordered_from item.step items) h in
    and_from (leb from item.step) (ordered_from item.step items) (le-leb from item.step (omega arith)) parts.1
