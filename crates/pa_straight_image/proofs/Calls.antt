-- A call of `_putchar` through its stub, and all of them.
use Rattle.std.proofs.Common.{◌≡◌, ℕ, suc, ◌+◌, ◌-◌, ◌*◌, ◌/◌, ◌%◌, ◌^◌, ◌<◌, true, eqb, List, [], ◌∷◌, ◌++◌, length, map, refl, sym, ap, subst, ◌∙◌, arith, Some, length-set}
use Rattle.std.specs.Prelude.{pos}
use Rattle.std.proofs.lemmas.List.{append-nil, append_assoc}
use Rattle.std.specs.List.{AllByRecursion, list_any}
use Rattle.pa_num.specs.Arithmetic.{add64, scaled64, with_part}
use Rattle.pa_pac.specs.declared.key.Key.{Key}
use Rattle.pa_pac.specs.declared.key.Key.TheVariants.{IA, IB}
use Rattle.pa_pac.specs.Log.{Log, is_known}
use Rattle.pa_pac.specs.Signing.{Code, sign, auth}
use Rattle.pa_pac.proofs.Laws.{auth-sign, canonical-user}
use Rattle.pa_mem.specs.Memory.{Region, Read, allowed, load}
use Rattle.pa_object.specs.Machine.{Machine}
use Rattle.pa_object.specs.Run.{Place, watched}
use Rattle.pa_object.specs.Shape.{Shown, Enter, shape}
use Rattle.pa_object.specs.Placed.{HasCode}
use Rattle.pa_object.proofs.Placed.{HasCode-append}
use Rattle.pa_object.proofs.Steps.{register-set, watching, reach, no_step, movz_step, movk_step, bl_step, pacibsp_step, print_step, retab_step, add64_small, scaled64_small}
use Rattle.pa_object.proofs.StepsLeads.{IsReady, Leads, leads-then, no_leads}
use Rattle.pa_object.proofs.StepsRun.{is_known-more, is_known-sign, AreBefore-more, shape-called, shape-more, all_known-enter, all_known-return}
use Rattle.pa_image.specs.Pal.{putchar}
use Rattle.pa_straight_image.specs.Code.{call, calls, stub}
use Rattle.pa_straight_image.proofs.Stub.{adrp_step, add_step, ldr_step, braa_step, shape-jumped, all_known-jumped}

pub two_parts : (n : ℕ) → n < 2 ^ 32 → with_part (n % 65536 * 2 ^ (16 * 0)) 1 (n / 65536) ≡ n
unfolding with_part
two_parts n h = omega arith

-- where the stub, its slot and `_putchar` stand
pub record Ways : Type 0 where
  pub stub : ℕ
  pub pages : ℕ
  pub slot : ℕ
  pub target : ℕ
  pub low : stub + 16 < 2 ^ 47
  pub slot_low : slot + 8 < 2 ^ 47
  pub target_low : target + 12 < 2 ^ 47
  pub page : add64 (stub - stub % 4096) (scaled64 4096 (pos pages)) ≡ slot

-- in this memory the stub leads through its slot to `_putchar`
pub record Leads_through (code : Code) (memory : List Region) (w : Ways) : Type 0 where
  pub stub : HasCode memory w.stub (stub w.pages)
  pub putchar : HasCode memory w.target putchar
  pub value : load 8 memory w.slot ≡ sign code IA w.slot w.target
  pub reads : allowed Read memory w.slot 8 ≡ true

-- the pointer in the slot was signed, and the slot is one of the imports'
pub record IsSigned (got : List ℕ) (log : Log) (w : Ways) : Type 0 where
  pub known : is_known log IA w.slot w.target ≡ true
  pub listed : list_any (λ s. eqb s w.slot) got ≡ true

-- calls of `_putchar` and their returns
pub record Printed (code : Code) (got : List ℕ) (n : ℕ) (m : Machine) (trail : List Place) (shown : List Shown) (bytes : List ℕ) (place : ℕ) : Type 0 where
  pub later : Machine
  pub longer : List Place
  pub leads : Leads code got n m trail shown later longer
  pub pc : later.pc ≡ place
  pub sp : later.sp ≡ m.sp
  pub memory : later.memory ≡ m.memory
  pub output : later.output ≡ m.output ++ bytes

printed : (code : Code) (got : List ℕ) (n : ℕ) (m : Machine) (trail : List Place) (shown : List Shown) (bytes : List ℕ) (place : ℕ) (later : Machine) (longer : List Place)
    → watched code [] n (watching m trail) ≡ watching later longer
    → IsReady later longer → later.count ≡ m.count + n → shape got longer later.log ≡ shown ++ shape got trail m.log
    → ((key : Key) (modifier raw : ℕ) → is_known m.log key modifier raw ≡ true → is_known later.log key modifier raw ≡ true)
    → later.pc ≡ place → later.sp ≡ m.sp → later.memory ≡ m.memory → later.output ≡ m.output ++ bytes
    → Printed code got n m trail shown bytes place
printed code got n m trail shown bytes place later longer runs ready counted shows kept at sp memory output = record {
  later = later;
  longer = longer;
  leads = record { runs = runs; ready = ready; counted = counted; shows = shows; kept = kept };
  pc = at;
  sp = sp;
  memory = memory;
  output = output;
}

pub call_runs : (code : Code) (got : List ℕ) (m : Machine) (trail : List Place) → IsReady m trail → (w : Ways) → Leads_through code m.memory w → IsSigned got m.log w
    → (gap n behind : ℕ) → n < 2 ^ 32 → m.pc + 12 < 2 ^ 47 → w.stub ≡ m.pc + 8 + 4 * (3 * behind + 6 + gap)
    → HasCode m.memory m.pc (call gap n behind)
    → Printed code got 10 m trail (Enter w.target ∷ []) (n % 256 ∷ []) (m.pc + 12)
call_runs code got m trail ready w through signed gap n behind fits low at (c0, (c1, (c2, c3))) = go through.stub through.putchar
  where
    go : HasCode m.memory w.stub (stub w.pages) → HasCode m.memory w.target putchar → Printed code got 10 m trail (Enter w.target ∷ []) (n % 256 ∷ []) (m.pc + 12)
    go (s0, (s1, (s2, (s3, s4)))) (d0, (d1, (d2, d3))) =
        let going = ready.going in
        let wide = ready.wide in
        let numbered = ready.counted in
        let stub_low = w.low in
        let slot_low = w.slot_low in
        let target_low = w.target_low in
        let raw : ℕ = m.pc + 4 + 4 + 4 in
        let words : scaled64 4 (pos (3 * behind + 6 + gap)) ≡ 4 * (3 * behind + 6 + gap) = scaled64_small 4 (3 * behind + 6 + gap) (omega arith) in
        let there : add64 (m.pc + 4 + 4) (scaled64 4 (pos (3 * behind + 6 + gap))) ≡ w.stub = ap (add64 (m.pc + 4 + 4)) words ∙ add64_small (m.pc + 4 + 4) (4 * (3 * behind + 6 + gap)) (omega arith) ∙ omega arith in
        let opens : auth code IB m.sp (sign code IB m.sp raw) ≡ Some raw = auth-sign code IB m.sp raw (canonical-user raw (omega arith)) in
        let leads : auth code IA w.slot (sign code IA w.slot w.target) ≡ Some w.target = auth-sign code IA w.slot w.target (canonical-user w.target (omega arith)) in
        let sign_known = is_known-sign IB m.sp raw (sign code IB m.sp raw) _ _ in
        printed code got 10 m trail _ _ _ _ _ (
        reach code 9 m _ trail _ _ c0 going (movz_step code m (omega arith) 0 (n % 65536) 0 c0) refl
        (reach code 8 _ _ _ _ _ c1 going (movk_step code _ (omega arith) 0 (n / 65536) 1 c1) refl
        (reach code 7 _ _ _ _ _ c2 going (bl_step code _ (omega arith) _ w.stub c2 there) refl
        (reach code 6 _ _ _ _ _ s0 going (adrp_step code _ (omega arith) 17 w.pages w.slot s0 w.page) refl
        (reach code 5 _ _ _ _ _ s1 going (add_step code _ (omega arith) w.slot s1 (simp (register-set, length-set, wide)) (omega arith)) refl
        (reach code 4 _ _ _ _ _ s2 going (ldr_step code _ (omega arith) w.slot (sign code IA w.slot w.target) s2 (simp (register-set, length-set, wide)) (omega arith) through.reads through.value) refl
        (reach code 3 _ _ _ _ _ s3 going (braa_step code _ (sign code IA w.slot w.target) w.slot w.target s3 (simp (register-set, length-set, wide)) (simp (register-set, length-set, wide)) leads) refl
        (reach code 2 _ _ _ _ _ d0 going (pacibsp_step code _ (omega arith) raw d0 (simp (register-set, length-set, wide))) refl
        (reach code 1 _ _ _ _ _ d1 going (print_step code _ (omega arith) n d1 (simp (register-set, length-set, wide) (two_parts n fits))) refl
        (reach code 0 _ _ _ _ _ d2 going (retab_step code _ (sign code IB m.sp raw) raw d2 (simp (register-set, length-set, wide)) opens) refl
        (no_step code _)))))))))))
        (record {
          going = going;
          wide = simp length-set wide;
          counted = omega arith;
          before = (omega arith, (omega arith, (omega arith, (omega arith, (omega arith, AreBefore-more _ _ m.log (omega arith) ready.before)))));
          known = all_known-return _ _ IB m.sp raw raw _ _ sign_known (all_known-enter _ IB m.sp raw _ _ (all_known-jumped _ _ w.slot w.target w.target _ m.log signed.known ready.known));
        })
        (omega arith)
        (shape-called got (_ ∷ _ ∷ []) _ [] (_ ∷ _ ∷ _ ∷ _ ∷ _ ∷ _ ∷ _ ∷ trail) _ _ _ _ _ _ _ _ _ (omega arith) (omega arith, (omega arith, AreBefore-more _ _ m.log (omega arith) ready.before))
        ∙ ap (λ x. Enter w.target ∷ x) (shape-jumped got (_ ∷ _ ∷ _ ∷ _ ∷ _ ∷ _ ∷ _ ∷ trail) _ _ w.slot w.target w.target _ m.log signed.listed ∙ shape-more got (_ ∷ _ ∷ _ ∷ _ ∷ _ ∷ _ ∷ _ ∷ []) trail m.log ready.before))
        (λ key modifier r h. is_known-more _ _ key modifier r (is_known-more _ _ key modifier r (is_known-more _ _ key modifier r (is_known-more _ _ key modifier r (is_known-more _ _ key modifier r h)))))
        (omega arith) refl refl refl

-- ---- one part after another

pub printed-then : (code : Code) (got : List ℕ) (n k : ℕ) (m : Machine) (trail : List Place) (shown more : List Shown) (bytes others : List ℕ) (place last : ℕ) (first : Printed code got n m trail shown bytes place)
    → Printed code got k first.later first.longer more others last → Printed code got (n + k) m trail (more ++ shown) (bytes ++ others) last
printed-then code got n k m trail shown more bytes others place last first rest = record {
  later = rest.later;
  longer = rest.longer;
  leads = leads-then code got n k m trail shown more first.later first.longer rest.later rest.longer first.leads rest.leads;
  pc = rest.pc;
  sp = rest.sp ∙ first.sp;
  memory = rest.memory ∙ first.memory;
  output = rest.output ∙ ap (λ x. x ++ others) first.output ∙ append_assoc m.output bytes others;
}

-- one more of many that are the same
same-push : {X : Type 0} (x : X) (ns : List ℕ) → map (λ _. x) ns ++ x ∷ [] ≡ x ∷ map (λ _. x) ns
same-push x [] = refl
same-push x (n ∷ ns) = ap (λ xs. x ∷ xs) (same-push x ns)

-- ---- all calls

no_calls : (code : Code) (got : List ℕ) (m : Machine) (trail : List Place) → IsReady m trail → Printed code got 0 m trail [] [] (m.pc + 12 * 0)
no_calls code got m trail ready = record {
  later = m;
  longer = trail;
  leads = no_leads code got m trail ready;
  pc = omega arith;
  sp = refl;
  memory = refl;
  output = sym (append-nil m.output);
}

more_calls : (code : Code) (got : List ℕ) (m : Machine) (trail : List Place) (n : ℕ) (ns : List ℕ) (place : ℕ) (first : Printed code got 10 m trail (Enter place ∷ []) (n % 256 ∷ []) (m.pc + 12))
    → Printed code got (10 * length ns) first.later first.longer (map (λ _. Enter place) ns) (map (λ n. n % 256) ns) (first.later.pc + 12 * length ns)
    → Printed code got (10 * suc (length ns)) m trail (Enter place ∷ map (λ _. Enter place) ns) (n % 256 ∷ map (λ n. n % 256) ns) (m.pc + 12 * suc (length ns))
more_calls code got m trail n ns place first rest =
    let pc = first.pc in
    let count : 10 + 10 * length ns ≡ 10 * suc (length ns) = omega arith in
    let last : first.later.pc + 12 * length ns ≡ m.pc + 12 * suc (length ns) = omega arith in
    subst (λ x. Printed code got x m trail (Enter place ∷ map (λ _. Enter place) ns) (n % 256 ∷ map (λ n. n % 256) ns) (m.pc + 12 * suc (length ns))) count
    (subst (λ x. Printed code got (10 + 10 * length ns) m trail x (n % 256 ∷ map (λ n. n % 256) ns) (m.pc + 12 * suc (length ns))) (same-push (Enter place) ns)
    (subst (λ x. Printed code got (10 + 10 * length ns) m trail (map (λ _. Enter place) ns ++ Enter place ∷ []) (n % 256 ∷ map (λ n. n % 256) ns) x) last
    (printed-then code got 10 (10 * length ns) m trail _ _ _ _ (m.pc + 12) (first.later.pc + 12 * length ns) first rest)))

pub calls_run : (code : Code) (got : List ℕ) (m : Machine) (trail : List Place) → IsReady m trail
    → (w : Ways) (gap : ℕ) (ns : List ℕ) → (0 < length ns → Leads_through code m.memory w × IsSigned got m.log w)
    → AllByRecursion (λ n. n < 2 ^ 32) ns → m.pc + 12 * length ns + 20 + 4 * gap < 2 ^ 47 → w.stub ≡ m.pc + 12 * length ns + 20 + 4 * gap
    → HasCode m.memory m.pc (calls gap ns)
    → Printed code got (10 * length ns) m trail (map (λ _. Enter w.target) ns) (map (λ n. n % 256) ns) (m.pc + 12 * length ns)
calls_run code got m trail ready w gap [] leads fits low at c = no_calls code got m trail ready
calls_run code got m trail ready w gap (n ∷ ns) leads fits low at c =
    let parts = HasCode-append m.memory m.pc (call gap n (length ns)) (calls gap ns) c in
    let both = leads (omega arith) in
    go both.0 both.1 (call_runs code got m trail ready w both.0 both.1 gap n (length ns) fits.0 (omega arith) (omega arith) parts.0) parts.1 (λ later longer now. calls_run code got later longer now w gap ns)
  where
    go : Leads_through code m.memory w → IsSigned got m.log w → (first : Printed code got 10 m trail (Enter w.target ∷ []) (n % 256 ∷ []) (m.pc + 12)) → HasCode m.memory (m.pc + 12) (calls gap ns)
        → ((later : Machine) (longer : List Place) → IsReady later longer → (0 < length ns → Leads_through code later.memory w × IsSigned got later.log w) → AllByRecursion (λ n. n < 2 ^ 32) ns
        → later.pc + 12 * length ns + 20 + 4 * gap < 2 ^ 47 → w.stub ≡ later.pc + 12 * length ns + 20 + 4 * gap → HasCode later.memory later.pc (calls gap ns)
        → Printed code got (10 * length ns) later longer (map (λ _. Enter w.target) ns) (map (λ n. n % 256) ns) (later.pc + 12 * length ns))
        → Printed code got (10 * suc (length ns)) m trail (Enter w.target ∷ map (λ _. Enter w.target) ns) (n % 256 ∷ map (λ n. n % 256) ns) (m.pc + 12 * suc (length ns))
    go through signed first behind rest =
        let pc = first.pc in
        more_calls code got m trail n ns w.target first (rest first.later first.longer first.leads.ready
        (λ some. (subst (λ x. Leads_through code x w) (sym first.memory) through, record { known = first.leads.kept IA w.slot w.target signed.known; listed = signed.listed }))
        fits.1 (omega arith) (omega arith)
        (subst (λ x. HasCode x first.later.pc (calls gap ns)) (sym first.memory) (subst (λ x. HasCode m.memory x (calls gap ns)) (sym first.pc) behind)))
