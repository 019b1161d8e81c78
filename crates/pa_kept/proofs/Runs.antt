-- Whole runs under a script.
use Rattle.std.proofs.Common.{◌≡◌, ℕ, zero, suc, ◌+◌, ◌<◌, List, [], ◌∷◌, length, map, refl, sym, ap, subst, ◌∙◌, arith, Option, Some, None}
use Rattle.std.specs.Prelude.{Bool, true, false, cond, eqb, ◌==◌, ◌&&◌}
use Rattle.std.proofs.lemmas.Bool.{and_parts, true≢false, eq-eqb, ne_eqb}
use Rattle.pa_num.specs.Arithmetic.{add64}
use Rattle.pa_pac.specs.Signing.{Code}
use Rattle.pa_a64.specs.declared.instr.Instr.{Instr}
use Rattle.pa_a64.specs.declared.instr.Instr.TheVariants as i
use Rattle.pa_a64.specs.declared.instr.StackOp.TheVariants.{Pacibsp}
use Rattle.pa_a64.specs.Decoding.{decoded}
use Rattle.pa_mem.specs.Memory.{Region, Read, Write, allowed, fetch, bytes_at}
use Rattle.pa_mem.proofs.Numbers.{length-bytes_at}
use Rattle.pa_object.specs.declared.end.End.{End}
use Rattle.pa_object.specs.declared.end.End.TheVariants as end
use Rattle.pa_object.specs.declared.end.Trap.{Trap}
use Rattle.pa_object.specs.declared.end.Trap.TheVariants.{FetchAbort, BadWord}
use Rattle.pa_object.specs.declared.script.Deed.{Deed}
use Rattle.pa_object.specs.declared.script.Deed.TheVariants as deed
use Rattle.pa_object.specs.declared.script.Item.{Item}
use Rattle.pa_object.specs.Machine.{Machine, register, after}
use Rattle.pa_object.specs.Traps.{trap_of}
use Rattle.pa_object.specs.Effects.{effect}
use Rattle.pa_object.specs.Script.{deed_fits, all_fit}
use Rattle.pa_object.specs.Run.{Script, Place, Watched, ends, step, on_word, on_instr, unless_trap, unless_ended, done_to, applied, applied_all, advance, placed, trailed, watched, watched_once}
use Rattle.pa_object.proofs.Growth.{effect_counts, applied_all_wrote, allowed-outlines}
use Rattle.pa_kept.specs.Kept.{CodeAt, IsKept}
use Rattle.pa_kept.proofs.Unchanged.{Same, Still, bytes_same}
use Rattle.pa_kept.proofs.Sound.{Class, Off, Head, Free, Within, Adding, Stub, Stands, Has, Fits, TakenIn, At}
use Rattle.pa_kept.proofs.Invariant.{Setup, Base, Inv, Broken, Fate, holds, broke, kept_of_fate}
use Rattle.pa_kept.proofs.Steps.{here, Here, broken_step}
use Rattle.pa_kept.proofs.Classes.{stub, within, adding, head, free}

-- ---- what a script leaves

deed_same : (first memory : List Region) (d : Deed) → Same first memory → deed_fits d first ≡ true → Same first (done_to d memory)
deed_same first memory (deed.Write at bytes) s f = bytes_same first memory at bytes s (allowed-outlines Write memory first at (length bytes) s.outlines ∙ f)
deed_same first memory (deed.Copy to from count) s f =
    let g = and_parts _ _ f in
    bytes_same first memory to (bytes_at count memory from) s (ap (λ n. allowed Write memory to n) (length-bytes_at count memory from) ∙ allowed-outlines Write memory first to count s.outlines ∙ g.1)

script_same : (first : List Region) (script : Script) (number : ℕ) (m : Machine) → all_fit script first ≡ true → Same first m.memory → Same first (applied_all script number m).memory
unfolding applied_all
script_same first [] number m f s = s
script_same first (item ∷ items) number m f s = let g = and_parts _ _ f in script_same first items number _ g.1 (one (item.step == number) g.0)
  where
    one : (b : Bool) → deed_fits item.deed first ≡ true → Same first (cond b (applied item m) m).memory
    one true g = deed_same first m.memory item.deed s g
    one false g = s

module _ (x : Setup) (script : Script) (ok : all_fit script x.first ≡ true) where
  open x use {w, cls, code, first, sound, stands_there}

  -- ---- one instruction

  by_class : (c : Class) (instr : Instr) (m : Machine) (t : List Place) (word : ℕ) → Here x m t instr word → Fits w cls m.pc (after m) c instr → At w c m t → Fate x (effect code instr m) (here m word ∷ t)
  by_class Off instr m t word h f a = absurd f
  by_class Head instr m t word h f a = subst (λ j. Here x m t j word → Fate x (effect code j m) (here m word ∷ t)) (sym f.0) (λ h. head x m t word h f.1 f.2 a) h
  by_class Free instr m t word h f a = free x instr m t word h f a
  by_class (Within b k) instr m t word h f a = within x instr b k m t word h f a
  by_class (Adding v) instr m t word h f a = adding x instr v m t word h f a
  by_class (Stub k) instr m t word h f a = stub x instr k m t word h f.1 f.0 a.0 a.1

  -- a machine and the trail behind one that it came from
  abbrev Follows : Machine → List Place → Option ℕ → Machine → Type 0
  Follows m t o n = Fate x n (cond (m.count == n.count) t (placed m.pc o t))

  same_trail : (m : Machine) (t : List Place) (o : Option ℕ) (trap : Trap) → Fate x (ends (end.Trap trap) m) t → Follows m t o (ends (end.Trap trap) m)
  same_trail m t o trap f = rw (eq-eqb m.count m.count refl) f

  longer : (m n : Machine) (t : List Place) (word : ℕ) → n.count ≡ suc m.count → Fate x n (here m word ∷ t) → Follows m t (Some word) n
  longer m n t word e f = let b : (m.count == n.count) ≡ false = ne_eqb m.count n.count (omega arith) in rw b f

  trapped : (m : Machine) (t : List Place) (trap : Trap) → Base x m t → Fate x (ends (end.Trap trap) m) t
  trapped m t trap b = holds (record {
    base = record { still = record { same = b.still.same; long = b.still.long }; counted = b.counted; signed = b.signed; ran = b.ran; trust = b.trust };
    at = λ e. absurd (grind (arith, e));
  })

  ran : (m : Machine) (t : List Place) (c : Class) → Base x m t → Stands w cls m.pc c → At w c m t → Follows m t (fetch m.memory m.pc) (on_word code (fetch m.memory m.pc) m)
  ran m t c b s a =
      let e : fetch m.memory m.pc ≡ Some s.word = b.still.same.words m.pc ∙ stands_there m.pc s.word s.there in
      subst (λ o. Follows m t o (on_word code o m)) (sym e) (subst (λ o. Follows m t (Some s.word) (on_instr code o m)) (sym s.decodes) (go (trap_of code s.instr m) refl))
    where
      go : (o : Option Trap) → trap_of code s.instr m ≡ o → Follows m t (Some s.word) (unless_trap o m (effect code s.instr m))
      go None e = longer m (effect code s.instr m) t s.word (effect_counts code s.instr m e) (by_class c s.instr m t s.word (record { base = b; there = s.there; decodes = s.decodes; runs = e }) s.fits a)
      go (Some trap) e = same_trail m t (Some s.word) trap (trapped m t trap b)

  step_holds : (m : Machine) (t : List Place) (c : Class) → Base x m t → Has w cls m.pc c → At w c m t → Follows m t (fetch m.memory m.pc) (step code m)
  unfolding step
  step_holds m t Off b h a = absurd a
  step_holds m t Head b h a = ran m t Head b h a
  step_holds m t Free b h a = ran m t Free b h a
  step_holds m t (Within d k) b h a = ran m t (Within d k) b h a
  step_holds m t (Adding v) b h a = ran m t (Adding v) b h a
  step_holds m t (Stub k) b h a = ran m t (Stub k) b h a

  broken_end : (m : Machine) (t : List Place) (trap : Trap) → Broken x m t → Fate x (ends (end.Trap trap) m) t
  broken_end m t trap b = broke (record { good = b.good; lost = b.lost; newer = b.newer; old = b.old; split = b.split; ran = b.ran; late = b.late })

  step_broken : (m : Machine) (t : List Place) → Broken x m t → Follows m t (fetch m.memory m.pc) (step code m)
  unfolding step
  step_broken m t b = at (fetch m.memory m.pc)
    where
      go : (word : ℕ) (instr : Instr) (o : Option Trap) → trap_of code instr m ≡ o → Follows m t (Some word) (unless_trap o m (effect code instr m))
      go word instr None e = longer m (effect code instr m) t word (effect_counts code instr m e) (broke (broken_step x instr m t (here m word) b))
      go word instr (Some trap) e = same_trail m t (Some word) trap (broken_end m t trap b)

      dec : (word : ℕ) (o : Option Instr) → Follows m t (Some word) (on_instr code o m)
      dec word None = same_trail m t (Some word) BadWord (broken_end m t BadWord b)
      dec word (Some instr) = go word instr (trap_of code instr m) refl

      at : (o : Option ℕ) → Follows m t o (on_word code o m)
      at None = same_trail m t None FetchAbort (broken_end m t FetchAbort b)
      at (Some word) = dec word (decoded word)

  -- ---- the script, then one instruction

  at_memory : (c : Class) (m : Machine) (t : List Place) (y : List Region) → At w c m t → At w c (record m { memory = y }) t
  at_memory Off m t y a = a
  at_memory Head m t y a = a
  at_memory Free m t y a = a
  at_memory (Within true k) m t y a = a
  at_memory (Within false k) m t y a = a
  at_memory (Adding v) m t y a = a
  at_memory (Stub k) m t y a = a

  scripted : (m : Machine) (t : List Place) (y : List Region) → Same first y → Base x m t → Base x (record m { memory = y }) t
  scripted m t y s b = record { still = record { same = s; long = b.still.long }; counted = b.counted; signed = b.signed; ran = b.ran; trust = b.trust }

  -- an ended machine stays
  stays : (m : Machine) (t : List Place) → (applied_all script m.count m).count ≡ m.count → Fate x m t → Fate x m (trailed (applied_all script m.count m) m t)
  stays m t e f = let b : ((applied_all script m.count m).count == m.count) ≡ true = eq-eqb _ _ e in rw b f

  advances : (m : Machine) (t : List Place) → Fate x m t → Fate x (advance code script m) (trailed (applied_all script m.count m) (advance code script m) t)
  unfolding advance
  advances m t f = go m.ended refl f
    where
      y : List Region
      y = (applied_all script m.count m).memory

      rest : applied_all script m.count m ≡ record m { memory = y }
      rest = (applied_all_wrote script m.count m).rest

      on : Fate x m t → m.ended ≡ None → Follows (record m { memory = y }) t (fetch y m.pc) (step code (record m { memory = y }))
      on (broke b) q = step_broken (record m { memory = y }) t (record { good = b.good; lost = b.lost; newer = b.newer; old = b.old; split = b.split; ran = b.ran; late = b.late })
      on (holds h) q = step_holds (record m { memory = y }) t (cls m.pc) (scripted m t y (script_same first script m.count m ok h.base.still.same) h.base) (sound.has m.pc) (at_memory (cls m.pc) m t y (h.at q))

      go : (e : Option End) → m.ended ≡ e → Fate x m t → Fate x (unless_ended e m (step code (applied_all script m.count m))) (trailed (applied_all script m.count m) (unless_ended e m (step code (applied_all script m.count m))) t)
      go None q f = subst (λ a. Fate x (step code a) (trailed a (step code a) t)) (sym rest) (on f q)
      go (Some e) q f = stays m t (ap (λ (a : Machine). a.count) rest) f

  runs : (n : ℕ) (v : Watched) → Fate x v.machine v.trail → Fate x (watched code script n v).machine (watched code script n v).trail
  unfolding watched
  runs zero v f = f
  runs (suc n) v f = runs n (watched_once code script v) (advances v.machine v.trail f)

  pub kept : (n : ℕ) (v : Watched) → Inv x v.machine v.trail → IsKept w (watched code script n v)
  kept n v h = kept_of_fate x _ _ (runs n v (holds h))
