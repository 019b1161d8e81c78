-- The fields of a program's instructions have room, and so their words have four bytes.
use Rattle.std.proofs.Common.{ℕ, ◌^◌, ◌<◌, List, [], ◌∷◌, ◌++◌, length, map, refl, arith}
use Rattle.std.specs.List.{AllByRecursion}
use Rattle.std.proofs.lemmas.List.Elements.{recursion_from_All}
use Rattle.pa_a64.specs.declared.instr.Instr.{Instr}
use Rattle.pa_a64.specs.Decoding.{InRange, encoded}
use Rattle.pa_a64.proofs.RoundTrip.{encoded-lt}
use Rattle.pa_layout.specs.Fields.{four, AllFit}
use Rattle.pa_straight.specs.declared.source.Straight.{Straight}
use Rattle.pa_straight.specs.Source.{IsSource}
use Rattle.pa_straight_image.specs.Code.{start, prologue, call, calls, epilogue, gap_behind, text, stub, pages_between}

pub all-append : {X : Type 0} (P : X → Type 0) (xs ys : List X) → AllByRecursion P xs → AllByRecursion P ys → AllByRecursion P (xs ++ ys)
all-append P [] ys h k = k
all-append P (x ∷ xs) ys h k = (h.0, all-append P xs ys h.1 k)

call-InRange : (gap n behind : ℕ) → gap < 4 → n < 2 ^ 32 → behind < 2 ^ 20 → AllByRecursion InRange (call gap n behind)
call-InRange gap n behind g h k = ((omega arith, omega arith, omega arith), ((omega arith, omega arith, omega arith), (omega arith, tt)))

calls-InRange : (gap : ℕ) (ns : List ℕ) → gap < 4 → AllByRecursion (λ n. n < 2 ^ 32) ns → length ns < 2 ^ 20 → AllByRecursion InRange (calls gap ns)
calls-InRange gap [] g h k = tt
calls-InRange gap (n ∷ ns) g h k =
    all-append InRange (call gap n (length ns)) (calls gap ns) (call-InRange gap n (length ns) g h.0 (omega arith)) (calls-InRange gap ns g h.1 (omega arith))

start-InRange : AllByRecursion InRange start
start-InRange = (omega arith, (omega arith, (omega arith, tt)))

prologue-InRange : AllByRecursion InRange prologue
prologue-InRange = (tt, ((omega arith, omega arith, omega arith), ((omega arith, omega arith, omega arith, omega arith, refl), tt)))

epilogue-InRange : (n : ℕ) → n < 2 ^ 32 → AllByRecursion InRange (epilogue n)
epilogue-InRange n h = (
  (omega arith, omega arith, omega arith),
  ((omega arith, omega arith, omega arith), ((omega arith, omega arith, omega arith, omega arith, refl), ((omega arith, omega arith, omega arith), (tt, tt)))),
)

-- numbers of a source, as numbers of 32 bits
below_32 : (ns : List ℕ) → AllByRecursion (λ n. n < 2 ^ 31) ns → AllByRecursion (λ n. n < 2 ^ 32) ns
below_32 [] h = tt
below_32 (n ∷ ns) h = let small = h.0 in (omega arith, below_32 ns h.1)

pub prints-small : (s : Straight) → IsSource s → AllByRecursion (λ n. n < 2 ^ 32) s.prints
prints-small s source = below_32 s.prints (recursion_from_All _ s.prints source.small)

pub text-InRange : (s : Straight) → IsSource s → AllByRecursion InRange (text s)
text-InRange s source =
    let few = source.few in
    let status = source.status in
    let gap = gap_behind (length s.prints) in
    all-append InRange (start ++ prologue) (calls gap s.prints ++ epilogue s.returns) (all-append InRange start prologue start-InRange prologue-InRange)
    (all-append InRange (calls gap s.prints) (epilogue s.returns) (calls-InRange gap s.prints (omega arith) (prints-small s source) (omega arith)) (epilogue-InRange s.returns (omega arith)))

pub stub-InRange : (prints : ℕ) → AllByRecursion InRange (stub (pages_between prints))
stub-InRange prints = ((omega arith, omega arith), ((omega arith, omega arith, omega arith), ((omega arith, omega arith, omega arith), ((omega arith, omega arith), tt))))

pub words_fit : (is : List Instr) → AllByRecursion InRange is → AllFit (map four (map encoded is))
words_fit [] h = tt
words_fit (i ∷ is) h = (encoded-lt i h.0, refl, words_fit is h.1)
