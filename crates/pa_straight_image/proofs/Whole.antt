-- The whole run of a program of the first form.
use Rattle.std.proofs.Common.{◌≡◌, ℕ, ◌+◌, ◌-◌, ◌*◌, ◌/◌, ◌%◌, ◌^◌, ◌<◌, ◌≤◌, true, List, [], ◌∷◌, ◌++◌, length, map, get_or, refl, sym, ap, subst, ◌∙◌, arith, Some, length-set, ◌⊎◌, inl, inr}
use Rattle.std.specs.Prelude.{pos}
use Rattle.std.proofs.lemmas.List.{append-nil}
use Rattle.std.specs.List.{AllByRecursion}
use Rattle.std.specs.Int.{w32, cast_signed}
use Rattle.pa_num.specs.Arithmetic.{add64, scaled64}
use Rattle.pa_pac.specs.declared.key.Key.{Key}
use Rattle.pa_pac.specs.declared.key.Key.TheVariants.{IA, IB}
use Rattle.pa_pac.specs.Log.{is_known}
use Rattle.pa_pac.specs.Signing.{Code, sign, auth}
use Rattle.pa_pac.proofs.Laws.{auth-sign, sign-lt, canonical-user}
use Rattle.pa_a64.specs.declared.instr.Instr.{Instr}
use Rattle.pa_a64.specs.declared.instr.Instr.TheVariants.{Exception}
use Rattle.pa_a64.specs.declared.instr.ExceptionOp.TheVariants.{Svc}
use Rattle.pa_straight.specs.declared.source.Straight.{Straight}
use Rattle.pa_mem.specs.Memory.{Region, Right, Read, Write, allowed, load, store}
use Rattle.pa_mem.proofs.Ranges.{allowed-store, load-store-allowed, load-store-other, fetch-store-other}
use Rattle.pa_object.specs.declared.end.End.TheVariants.{Exit}
use Rattle.pa_object.specs.Machine.{Machine}
use Rattle.pa_object.specs.Run.{Place, watched}
use Rattle.pa_object.specs.Shape.{Enter, shape, all_known}
use Rattle.pa_object.specs.Placed.{Stands, HasCode}
use Rattle.pa_object.proofs.Placed.{HasCode-append, HasCode-same}
use Rattle.pa_object.proofs.Steps.{register-set, watching, reach, no_step, movz_step, movk_step, add_sp_step, sub_sp_step, stp_sp_step, ldp_sp_step, bl_step, pacibsp_step, retab_step, exit_step, add64_small, scaled64_small}
use Rattle.pa_object.proofs.StepsRun.{watched-then, is_known-more, is_known-sign, AreBefore-more, shape-more, shape-entered, shape-return, all_known-enter, all_known-return}
use Rattle.pa_object.proofs.StepsLeads.{IsReady, Leads, leads-then}
use Rattle.pa_image.specs.Pal.{putchar}
use Rattle.pa_straight_image.specs.Code.{start, prologue, epilogue, calls, stub, text, gap_behind}
use Rattle.pa_straight_image.proofs.Calls.{Ways, Leads_through, IsSigned, Printed, calls_run, two_parts}

-- ---- the beginning

-- `_main` was entered, and its return address saved
pub record Entered (code : Code) (got : List ℕ) (m : Machine) (trail : List Place) : Type 0 where
  pub later : Machine
  pub longer : List Place
  pub leads : Leads code got 4 m trail (Enter (m.pc + 12) ∷ []) later longer
  pub pc : later.pc ≡ m.pc + 24
  pub sp : later.sp ≡ m.sp - 16
  pub memory : later.memory ≡ store 8 (store 8 m.memory (m.sp - 16 + 8 * 0) (get_or m.registers 29 0)) (m.sp - 16 + 8 * 0 + 8) (sign code IB m.sp (m.pc + 4))
  pub output : later.output ≡ m.output
  pub known : is_known later.log IB m.sp (m.pc + 4) ≡ true

entered : (code : Code) (got : List ℕ) (m : Machine) (trail : List Place) (later : Machine) (longer : List Place)
    → watched code [] 4 (watching m trail) ≡ watching later longer
    → IsReady later longer → later.count ≡ m.count + 4 → shape got longer later.log ≡ (Enter (m.pc + 12) ∷ []) ++ shape got trail m.log
    → ((key : Key) (modifier raw : ℕ) → is_known m.log key modifier raw ≡ true → is_known later.log key modifier raw ≡ true)
    → later.pc ≡ m.pc + 24 → later.sp ≡ m.sp - 16
    → later.memory ≡ store 8 (store 8 m.memory (m.sp - 16 + 8 * 0) (get_or m.registers 29 0)) (m.sp - 16 + 8 * 0 + 8) (sign code IB m.sp (m.pc + 4))
    → later.output ≡ m.output → is_known later.log IB m.sp (m.pc + 4) ≡ true → Entered code got m trail
entered code got m trail later longer runs ready counted shows kept at sp memory output known = record {
  later = later;
  longer = longer;
  leads = record { runs = runs; ready = ready; counted = counted; shows = shows; kept = kept };
  pc = at;
  sp = sp;
  memory = memory;
  output = output;
  known = known;
}

pub enter_runs : (code : Code) (got : List ℕ) (m : Machine) (trail : List Place) → IsReady m trail
    → 16 ≤ m.sp → m.sp < 2 ^ 63 → m.pc + 24 < 2 ^ 47
    → allowed Write m.memory (m.sp - 16 + 8 * 0) 8 ≡ true → allowed Write m.memory (m.sp - 16 + 8 * 0 + 8) 8 ≡ true
    → HasCode m.memory m.pc (start ++ prologue) → Entered code got m trail
enter_runs code got m trail ready room top low first second (c0, (c1, (c2, (c3, (c4, (c5, c6)))))) =
    let going = ready.going in
    let wide = ready.wide in
    let numbered = ready.counted in
    let raw : ℕ = m.pc + 4 in
    let words : scaled64 4 (pos 3) ≡ 12 = scaled64_small 4 3 (omega arith) in
    let main : m.pc + 12 ≡ m.pc + 4 + 4 + 4 = omega arith in
    let there : add64 m.pc (scaled64 4 (pos 3)) ≡ m.pc + 4 + 4 + 4 = ap (add64 m.pc) words ∙ add64_small m.pc 12 (omega arith) ∙ main in
    entered code got m trail _ _ (
    reach code 3 m _ trail _ _ c0 going (bl_step code m (omega arith) _ (m.pc + 4 + 4 + 4) c0 there) refl
    (reach code 2 _ _ _ _ _ c3 going (pacibsp_step code _ (omega arith) raw c3 (simp (register-set, wide))) refl
    (reach code 1 _ _ _ _ _ c4 going (sub_sp_step code _ (omega arith) 16 c4 room (omega arith)) refl
    (reach code 0 _ _ _ _ _ c5 going (stp_sp_step code _ (omega arith) 29 30 0 (get_or m.registers 29 0) (sign code IB m.sp raw) c5 (simp register-set) (simp (register-set, length-set, wide)) (omega arith) first second) refl
    (no_step code _)))))
    (record {
      going = going;
      wide = simp length-set wide;
      counted = omega arith;
      before = (omega arith, AreBefore-more _ _ m.log (omega arith) ready.before);
      known = all_known-enter _ IB m.sp raw _ m.log ready.known;
    })
    (omega arith)
    (shape-entered got (_ ∷ _ ∷ []) _ (_ ∷ []) trail _ _ _ _ m.log (omega arith) ready.before ∙ ap (λ at. Enter at ∷ shape got trail m.log) (sym main))
    (λ key modifier r h. is_known-more _ _ key modifier r h)
    (omega arith) refl refl refl
    (is_known-sign IB m.sp raw _ _ m.log)

-- ---- the end

-- `_main` returned, and the program ended
pub record Ended (code : Code) (got : List ℕ) (m : Machine) (trail : List Place) (status : ℕ) : Type 0 where
  pub later : Machine
  pub longer : List Place
  pub runs : watched code [] 6 (watching m trail) ≡ watching later longer
  pub ended : later.ended ≡ Some (Exit (cast_signed w32 (status % 2 ^ 32)))
  pub counted : later.count ≡ m.count + 6
  pub known : all_known later.log ≡ true
  pub shows : shape got longer later.log ≡ shape got trail m.log
  pub output : later.output ≡ m.output

ended : (code : Code) (got : List ℕ) (m : Machine) (trail : List Place) (status : ℕ) (later : Machine) (longer : List Place)
    → watched code [] 6 (watching m trail) ≡ watching later longer → later.ended ≡ Some (Exit (cast_signed w32 (status % 2 ^ 32))) → later.count ≡ m.count + 6
    → all_known later.log ≡ true → shape got longer later.log ≡ shape got trail m.log → later.output ≡ m.output → Ended code got m trail status
ended code got m trail status later longer runs end counted known shows output = record {
  later = later;
  longer = longer;
  runs = runs;
  ended = end;
  counted = counted;
  known = known;
  shows = shows;
  output = output;
}

pub end_runs : (code : Code) (got : List ℕ) (m : Machine) (trail : List Place) → IsReady m trail
    → (status raw signed top : ℕ) → status < 2 ^ 32 → m.pc + 20 < 2 ^ 47 → raw + 4 < 2 ^ 47 → top < 2 ^ 63 → m.sp + 16 ≡ top
    → allowed Read m.memory (m.sp + 8 * 0) 8 ≡ true → allowed Read m.memory (m.sp + 8 * 0 + 8) 8 ≡ true
    → load 8 m.memory (m.sp + 8 * 0 + 8) ≡ signed → auth code IB top signed ≡ Some raw → is_known m.log IB top raw ≡ true
    → HasCode m.memory m.pc (epilogue status) → Stands m.memory raw (Exception Svc 3) → Ended code got m trail status
end_runs code got m trail ready status raw signed top fits low back high frame first second loaded opens known (c0, (c1, (c2, (c3, (c4, c5))))) d =
    let going = ready.going in
    let wide = ready.wide in
    let numbered = ready.counted in
    let same : auth code IB (m.sp + 16) signed ≡ Some raw = ap (λ sp. auth code IB sp signed) frame ∙ opens in
    let sign_known : is_known m.log IB (m.sp + 16) raw ≡ true = ap (λ sp. is_known m.log IB sp raw) frame ∙ known in
    ended code got m trail status _ _ (
    reach code 5 m _ trail _ _ c0 going (movz_step code m (omega arith) 0 (status % 65536) 0 c0) refl
    (reach code 4 _ _ _ _ _ c1 going (movk_step code _ (omega arith) 0 (status / 65536) 1 c1) refl
    (reach code 3 _ _ _ _ _ c2 going (ldp_sp_step code _ (omega arith) 29 30 0 c2 (omega arith) first second) refl
    (reach code 2 _ _ _ _ _ c3 going (add_sp_step code _ (omega arith) 16 c3 (omega arith)) refl
    (reach code 1 _ _ _ _ _ c4 going (retab_step code _ signed raw c4 (simp (register-set, length-set, wide) loaded) same) refl
    (reach code 0 _ _ _ _ _ d going (exit_step code _ status d (simp (register-set, length-set, wide) (two_parts status fits))) refl
    (no_step code _)))))))
    refl
    (omega arith)
    (all_known-return _ _ IB _ raw raw _ m.log sign_known ready.known)
    (shape-return got _ _ _ _ raw raw _ m.log ∙ shape-more got (_ ∷ _ ∷ _ ∷ _ ∷ _ ∷ _ ∷ []) trail m.log ready.before)
    refl

-- ---- the whole

-- a program stands in memory, and nothing has run
pub record Begins (code : Code) (got : List ℕ) (m : Machine) (s : Straight) (w : Ways) : Type 0 where
  pub ready : IsReady m []
  pub count : m.count ≡ 0
  pub output : m.output ≡ []
  pub unshown : shape got [] m.log ≡ []
  pub text : HasCode m.memory m.pc (text s)
  pub leads : 0 < length s.prints → Leads_through code m.memory w × IsSigned got m.log w
  pub stub : w.stub ≡ m.pc + 12 * length s.prints + 44 + 4 * gap_behind (length s.prints)
  -- the stack lies between the program with its slot and the runtime image
  pub apart : w.stub + 16 ≤ m.sp - 16
  pub slot_apart : w.slot + 8 ≤ m.sp - 16
  pub target_apart : m.sp ≤ w.target
  pub room : 16 ≤ m.sp
  pub reads : (at : ℕ) → m.sp - 16 ≤ at → at + 8 ≤ m.sp → allowed Read m.memory at 8 ≡ true
  pub writes : (at : ℕ) → m.sp - 16 ≤ at → at + 8 ≤ m.sp → allowed Write m.memory at 8 ≡ true

pub length-calls : (gap : ℕ) (ns : List ℕ) → length (calls gap ns) ≡ 3 * length ns
length-calls gap [] = refl
length-calls gap (n ∷ ns) = let more = length-calls gap ns in omega arith

-- a word saved at the stack pointer, and another after it
abbrev saved : List Region → ℕ → ℕ → ℕ → List Region
saved memory at v w = store 8 (store 8 memory at v) (at + 8) w

allowed-saved : (right : Right) (memory : List Region) (at v w c : ℕ) → allowed right (saved memory at v w) c 8 ≡ allowed right memory c 8
allowed-saved right memory at v w c = allowed-store 8 right (store 8 memory at v) (at + 8) w c 8 ∙ allowed-store 8 right memory at v c 8

HasCode-saved : (memory : List Region) (at v w : ℕ) (place : ℕ) (is : List Instr) → (place + 4 * length is ≤ at) ⊎ (at + 16 ≤ place) → HasCode memory place is → HasCode (saved memory at v w) place is
HasCode-saved memory at v w place is (inl below) c =
    HasCode-same memory (saved memory at v w) place is
    (λ p low high. fetch-store-other 8 (store 8 memory at v) (at + 8) w p (λ h. omega arith) ∙ fetch-store-other 8 memory at v p (λ h. omega arith)) c
HasCode-saved memory at v w place is (inr above) c =
    HasCode-same memory (saved memory at v w) place is
    (λ p low high. fetch-store-other 8 (store 8 memory at v) (at + 8) w p (λ h. omega arith) ∙ fetch-store-other 8 memory at v p (λ h. omega arith)) c

load-saved : (memory : List Region) (at v w place : ℕ) → place + 8 ≤ at → load 8 (saved memory at v w) place ≡ load 8 memory place
load-saved memory at v w place below =
    load-store-other 8 8 (store 8 memory at v) (at + 8) w place (λ h. omega arith) ∙ load-store-other 8 8 memory at v place (λ h. omega arith)

-- what the whole run leaves
pub record Finished (code : Code) (got : List ℕ) (m : Machine) (s : Straight) (w : Ways) : Type 0 where
  pub later : Machine
  pub longer : List Place
  pub runs : watched code [] (10 * length s.prints + 10) (watching m []) ≡ watching later longer
  pub ended : later.ended ≡ Some (Exit (cast_signed w32 (s.returns % 2 ^ 32)))
  pub counted : later.count ≡ 10 * length s.prints + 10
  pub output : later.output ≡ map (λ n. n % 256) s.prints
  pub known : all_known later.log ≡ true
  pub shows : shape got longer later.log ≡ map (λ _. Enter w.target) s.prints ++ Enter (m.pc + 12) ∷ []

-- the code's parts, where the return address has been saved
record Parts (code : Code) (m : Machine) (s : Straight) (w : Ways) (memory : List Region) : Type 0 where
  first : HasCode m.memory m.pc (start ++ prologue)
  calls : HasCode memory (m.pc + 24) (calls (gap_behind (length s.prints)) s.prints)
  last : HasCode memory (m.pc + 24 + 12 * length s.prints) (epilogue s.returns)
  exit : Stands memory (m.pc + 4) (Exception Svc 3)
  leads : 0 < length s.prints → Leads_through code memory w

leads-saved : (code : Code) (memory : List Region) (w : Ways) (at v u : ℕ) → w.stub + 16 ≤ at → w.slot + 8 ≤ at → at + 16 ≤ w.target → Leads_through code memory w → Leads_through code (saved memory at v u) w
leads-saved code memory w at v u one two three leads = record {
  stub = HasCode-saved memory at v u w.stub (stub w.pages) (inl (omega arith)) leads.stub;
  putchar = HasCode-saved memory at v u w.target putchar (inr (omega arith)) leads.putchar;
  value = load-saved memory at v u w.slot two ∙ leads.value;
  reads = allowed-saved Read memory at v u w.slot ∙ leads.reads;
}

parts_of : (code : Code) (got : List ℕ) (m : Machine) (s : Straight) (w : Ways) → Begins code got m s w → (v u : ℕ) → Parts code m s w (saved m.memory (m.sp - 16 + 8 * 0) v u)
parts_of code got m s w b v u =
    let apart = b.apart in
    let slot_apart = b.slot_apart in
    let target_apart = b.target_apart in
    let room = b.room in
    let stub_at = b.stub in
    let gap = gap_behind (length s.prints) in
    let size = length-calls gap s.prints in
    let one = HasCode-append m.memory m.pc (start ++ prologue) (calls gap s.prints ++ epilogue s.returns) b.text in
    let two = HasCode-append m.memory (m.pc + 24) (calls gap s.prints) (epilogue s.returns) one.1 in
    let place : m.pc + 24 + 4 * length (calls gap s.prints) ≡ m.pc + 24 + 12 * length s.prints = omega arith in
    let rest = subst (λ p. HasCode m.memory p (epilogue s.returns)) place two.1 in
    let exit : HasCode m.memory (m.pc + 4) (Exception Svc 3 ∷ []) = (one.0.1.0, tt) in
    record {
      first = one.0;
      calls = HasCode-saved m.memory (m.sp - 16 + 8 * 0) v u (m.pc + 24) (calls gap s.prints) (inl (omega arith)) two.0;
      last = HasCode-saved m.memory (m.sp - 16 + 8 * 0) v u (m.pc + 24 + 12 * length s.prints) (epilogue s.returns) (inl (omega arith)) rest;
      exit = (HasCode-saved m.memory (m.sp - 16 + 8 * 0) v u (m.pc + 4) (Exception Svc 3 ∷ []) (inl (omega arith)) exit).0;
      leads = λ some. leads-saved code m.memory w (m.sp - 16 + 8 * 0) v u (omega arith) (omega arith) (omega arith) (b.leads some).0;
    }

-- `_main` was entered, and all calls were made
record Called (code : Code) (got : List ℕ) (m : Machine) (s : Straight) (w : Ways) : Type 0 where
  later : Machine
  longer : List Place
  leads : Leads code got (4 + 10 * length s.prints) m [] (map (λ _. Enter w.target) s.prints ++ Enter (m.pc + 12) ∷ []) later longer
  pc : later.pc ≡ m.pc + 24 + 12 * length s.prints
  sp : later.sp ≡ m.sp - 16
  memory : later.memory ≡ saved m.memory (m.sp - 16 + 8 * 0) (get_or m.registers 29 0) (sign code IB m.sp (m.pc + 4))
  output : later.output ≡ m.output ++ map (λ n. n % 256) s.prints
  known : is_known later.log IB m.sp (m.pc + 4) ≡ true

called_of : (code : Code) (got : List ℕ) (m : Machine) (s : Straight) (w : Ways) (entry : Entered code got m [])
    → Printed code got (10 * length s.prints) entry.later entry.longer (map (λ _. Enter w.target) s.prints) (map (λ n. n % 256) s.prints) (entry.later.pc + 12 * length s.prints)
    → Called code got m s w
called_of code got m s w entry printed = record {
  later = printed.later;
  longer = printed.longer;
  leads = leads-then code got 4 (10 * length s.prints) m [] _ _ entry.later entry.longer printed.later printed.longer entry.leads printed.leads;
  pc = printed.pc ∙ ap (λ p. p + 12 * length s.prints) entry.pc;
  sp = printed.sp ∙ entry.sp;
  memory = printed.memory ∙ entry.memory;
  output = printed.output ∙ ap (λ x. x ++ map (λ n. n % 256) s.prints) entry.output;
  known = printed.leads.kept IB m.sp (m.pc + 4) entry.known;
}

called : (code : Code) (got : List ℕ) (m : Machine) (s : Straight) (w : Ways) → Begins code got m s w → AllByRecursion (λ n. n < 2 ^ 32) s.prints
    → Parts code m s w (saved m.memory (m.sp - 16 + 8 * 0) (get_or m.registers 29 0) (sign code IB m.sp (m.pc + 4))) → Called code got m s w
called code got m s w b fits parts =
    let low = w.target_low in
    let apart = b.apart in
    let stub_at = b.stub in
    let stub_low = w.low in
    let above = b.target_apart in
    let room = b.room in
    go (enter_runs code got m [] b.ready b.room (omega arith) (omega arith) (b.writes _ (omega arith) (omega arith)) (b.writes _ (omega arith) (omega arith)) parts.first)
  where
    go : Entered code got m [] → Called code got m s w
    go entry =
        let stub_low = w.low in
        let stub_at = b.stub in
        let pc = entry.pc in
        called_of code got m s w entry (calls_run code got entry.later entry.longer entry.leads.ready w (gap_behind (length s.prints)) s.prints
        (λ some. (subst (λ x. Leads_through code x w) (sym entry.memory) (parts.leads some), record { known = entry.leads.kept IA w.slot w.target (b.leads some).1.known; listed = (b.leads some).1.listed }))
        fits (omega arith) (omega arith)
        (subst (λ x. HasCode x entry.later.pc (calls (gap_behind (length s.prints)) s.prints)) (sym entry.memory) (subst (λ p. HasCode _ p (calls (gap_behind (length s.prints)) s.prints)) (sym entry.pc) parts.calls)))

finished_of : (code : Code) (got : List ℕ) (m : Machine) (s : Straight) (w : Ways) → Begins code got m s w → (made : Called code got m s w) → Ended code got made.later made.longer s.returns → Finished code got m s w
finished_of code got m s w b made last =
    let none = b.count in
    let before = made.leads.counted in
    let after = last.counted in
    let count : 4 + 10 * length s.prints + 6 ≡ 10 * length s.prints + 10 = omega arith in
    record {
      later = last.later;
      longer = last.longer;
      runs = subst (λ n. watched code [] n (watching m []) ≡ watching last.later last.longer) count (watched-then code [] (4 + 10 * length s.prints) 6 _ _ _ made.leads.runs last.runs);
      ended = last.ended;
      counted = omega arith;
      output = last.output ∙ made.output ∙ ap (λ x. x ++ map (λ n. n % 256) s.prints) b.output;
      known = last.known;
      shows = last.shows ∙ made.leads.shows ∙ ap (λ x. (map (λ _. Enter w.target) s.prints ++ Enter (m.pc + 12) ∷ []) ++ x) b.unshown ∙ append-nil _;
    }

saved_word : (code : Code) (got : List ℕ) (m : Machine) (s : Straight) (w : Ways) → Begins code got m s w → (made : Called code got m s w) → load 8 made.later.memory (made.later.sp + 8 * 0 + 8) ≡ sign code IB m.sp (m.pc + 4)
saved_word code got m s w b made =
    let low = w.low in
    let stub_at = b.stub in
    let room = b.room in
    let at = m.sp - 16 + 8 * 0 in
    let v = get_or m.registers 29 0 in
    let u = sign code IB m.sp (m.pc + 4) in
    let may : allowed Write (store 8 m.memory at v) (at + 8) 8 ≡ true = allowed-store 8 Write m.memory at v (at + 8) 8 ∙ b.writes (at + 8) (omega arith) (omega arith) in
    let fits : u < 2 ^ 64 = sign-lt code IB m.sp (m.pc + 4) (omega arith) in
    let whole : u % 256 ^ 8 ≡ u = omega arith in
    ap (λ x. load 8 x (made.later.sp + 8 * 0 + 8)) made.memory ∙ ap (λ sp. load 8 (saved m.memory at v u) (sp + 8 * 0 + 8)) made.sp
    ∙ load-store-allowed Write 8 (store 8 m.memory at v) (at + 8) u may ∙ whole

may_read : (code : Code) (got : List ℕ) (m : Machine) (s : Straight) (w : Ways) → Begins code got m s w → (made : Called code got m s w) → (at : ℕ) → m.sp - 16 ≤ at → at + 8 ≤ m.sp → allowed Read made.later.memory at 8 ≡ true
may_read code got m s w b made at low high =
    ap (λ x. allowed Read x at 8) made.memory ∙ allowed-saved Read m.memory (m.sp - 16 + 8 * 0) _ _ at ∙ b.reads at low high

pub finish : (code : Code) (got : List ℕ) (m : Machine) (s : Straight) (w : Ways) → Begins code got m s w → AllByRecursion (λ n. n < 2 ^ 32) s.prints → s.returns < 2 ^ 32 → Finished code got m s w
finish code got m s w b fits small = go (parts_of code got m s w b (get_or m.registers 29 0) (sign code IB m.sp (m.pc + 4)))
  where
    end : Parts code m s w (saved m.memory (m.sp - 16 + 8 * 0) (get_or m.registers 29 0) (sign code IB m.sp (m.pc + 4))) → Called code got m s w → Finished code got m s w
    end parts made =
        let low = w.low in
        let stub_at = b.stub in
        let target_low = w.target_low in
        let above = b.target_apart in
        let room = b.room in
        let pc = made.pc in
        let sp = made.sp in
        let opens = auth-sign code IB m.sp (m.pc + 4) (canonical-user (m.pc + 4) (omega arith)) in
        let code_there = subst (λ x. HasCode x made.later.pc (epilogue s.returns)) (sym made.memory) (subst (λ p. HasCode _ p (epilogue s.returns)) (sym made.pc) parts.last) in
        let exit = subst (λ x. Stands x (m.pc + 4) (Exception Svc 3)) (sym made.memory) parts.exit in
        finished_of code got m s w b made (end_runs code got made.later made.longer made.leads.ready s.returns (m.pc + 4) (sign code IB m.sp (m.pc + 4)) m.sp
        small (omega arith) (omega arith) (omega arith) (omega arith)
        (may_read code got m s w b made _ (omega arith) (omega arith)) (may_read code got m s w b made _ (omega arith) (omega arith))
        (saved_word code got m s w b made) opens made.known code_there exit)

    go : Parts code m s w (saved m.memory (m.sp - 16 + 8 * 0) (get_or m.registers 29 0) (sign code IB m.sp (m.pc + 4))) → Finished code got m s w
    go parts = end parts (called code got m s w b fits parts)
