-- The layout that is taken is a frame.
use Rattle.std.proofs.Common.{◌≡◌, ◌≢◌, ◌≤◌, ◌<◌, inl, inr, ⊎_elim, ℕ, suc, ◌+◌, ◌-◌, ◌*◌, ◌%◌, cond, List, ◌++◌, length, take, drop, get_or, ap, ◌∙◌, arith}
use Rattle.std.specs.Prelude.{min}
use Rattle.std.specs.List.{sum_by}
use Rattle.std.specs.Int.{next_multiple_of}
use Rattle.std.proofs.lemmas.Bool.{cases_lt, lt-ltb, le-ltb}
use Rattle.std.proofs.lemmas.List.{take_all, length-drop, length-take, length-append}
use Rattle.std.proofs.lemmas.List.Sums.{sum_by-take-drop}
use Rattle.pa_lir.specs.declared.function.LirLocal.{LirLocal}
use Rattle.pa_lir.specs.declared.function.LirFn.{LirFn}
use Rattle.pa_lir.specs.Parts.{rounded, bytes, held}
use Rattle.pa_frame.specs.declared.slots.Frame.{Frame}
use Rattle.pa_frame.specs.Frames.{Resident, OfLocal, OfTemp, IsResident, slot_at, slot_end, AreApart, saved_bytes, IsFrame, IsLaidOut, places_from, bytes_before, temp_bytes_before}
use Rattle.pa_frame.proofs.Places.{length-places, place_in_front, place_behind, bytes_first, bytes_step, bytes_rise, bytes_within, bytes_aligned}

-- ---- the code's way makes the layout

abbrev pub first_of : LirFn → ℕ
first_of f = min f.parameters (length f.locals)

-- the rest of a list, as a slice gives it
pub rest_is : (n : ℕ) (ls : List LirLocal) → take (length ls - n) (drop n ls) ≡ drop n ls
rest_is n ls = let short : length (drop n ls) ≤ length ls - n = omega (arith, length-drop n ls) in take_all (length ls - n) (drop n ls) short

pub temps_before_parameter : (f : LirFn) (l : ℕ) → l < f.parameters → temp_bytes_before f l ≡ 0
temps_before_parameter f l h = ap (λ b. cond b 0 (8 * held f)) (lt-ltb l f.parameters h)

pub temps_before_other : (f : LirFn) (l : ℕ) → f.parameters ≤ l → temp_bytes_before f l ≡ 8 * held f
temps_before_other f l h = ap (λ b. cond b 0 (8 * held f)) (le-ltb l f.parameters h)

abbrev pub joined : LirFn → ℕ → List ℕ
joined f others = places_from saved_bytes (take (first_of f) f.locals) ++ places_from others (drop (first_of f) f.locals)

pub length-joined : (f : LirFn) (others : ℕ) → length (joined f others) ≡ length f.locals
length-joined f others =
    omega (
      arith,
      length-append (places_from saved_bytes (take (first_of f) f.locals)) (places_from others (drop (first_of f) f.locals)),
      length-places saved_bytes (take (first_of f) f.locals),
      length-places others (drop (first_of f) f.locals),
      length-take (first_of f) f.locals,
      length-drop (first_of f) f.locals,
    )

-- where the temporaries end and the other locals begin
abbrev pub others_of : LirFn → ℕ
others_of f = saved_bytes + (bytes_before f (first_of f) + 8 * held f)

pub joined_at : (f : LirFn) (l : ℕ) → l < length f.locals → get_or (joined f (others_of f)) l 0 ≡ saved_bytes + (bytes_before f l + temp_bytes_before f l)
joined_at f l within =
    ⊎_elim
    (λ less. let before : l < first_of f = omega arith in
    omega (arith, place_in_front saved_bytes (others_of f) (first_of f) f.locals l before within, temps_before_parameter f l less))
    (λ more. let behind : first_of f ≤ l = omega arith in
    omega (arith, place_behind saved_bytes (others_of f) (first_of f) f.locals l behind within, temps_before_other f l more))
    (cases_lt l f.parameters)

pub bytes_parts : (f : LirFn) (n : ℕ) → bytes_before f n + sum_by rounded (drop n f.locals) ≡ bytes f
bytes_parts f n = sum_by-take-drop rounded f.locals n

-- ---- the layout is a frame

pub temp_bytes_rise : (f : LirFn) (l m : ℕ) → l ≤ m → temp_bytes_before f l ≤ temp_bytes_before f m
temp_bytes_rise f l m h =
    ⊎_elim
    (λ less. omega (arith, temps_before_parameter f l less))
    (λ more. let behind : f.parameters ≤ m = omega arith in omega (arith, temps_before_other f l more, temps_before_other f m behind))
    (cases_lt l f.parameters)

pub temp_bytes_most : (f : LirFn) (l : ℕ) → temp_bytes_before f l ≤ 8 * held f
temp_bytes_most f l =
    ⊎_elim (λ less. omega (arith, temps_before_parameter f l less)) (λ more. omega (arith, temps_before_other f l more)) (cases_lt l f.parameters)

temp_bytes_aligned : (f : LirFn) (l : ℕ) → temp_bytes_before f l % 8 ≡ 0
temp_bytes_aligned f l =
    ⊎_elim (λ less. omega (arith, temps_before_parameter f l less)) (λ more. omega (arith, temps_before_other f l more)) (cases_lt l f.parameters)

locals_apart : (f : LirFn) (frame : Frame) → IsLaidOut f frame → (l m : ℕ) → l < length f.locals → m < length f.locals → l < m → slot_end f frame (OfLocal l) ≤ slot_at frame (OfLocal m)
locals_apart f frame laid l m hl hm less =
    let next : suc l ≤ m = omega arith in
    let same : l ≤ m = omega arith in
    omega (arith, laid.locals l hl, laid.locals m hm, bytes_step f.locals l hl, bytes_rise f.locals (suc l) m next, temp_bytes_rise f l m same)

local_and_temp : (f : LirFn) (frame : Frame) → IsLaidOut f frame → (l t : ℕ) → l < length f.locals → t < held f → AreApart f frame (OfLocal l) (OfTemp t)
local_and_temp f frame laid l t hl ht =
    ⊎_elim
    (λ less. let next : suc l ≤ f.parameters = omega arith in
    inl (omega (arith, laid.locals l hl, laid.temps, bytes_step f.locals l hl, bytes_rise f.locals (suc l) f.parameters next, temps_before_parameter f l less)))
    (λ more. inr (omega (arith, laid.locals l hl, laid.temps, bytes_rise f.locals f.parameters l more, temps_before_other f l more)))
    (cases_lt l f.parameters)

other_way : (f : LirFn) (frame : Frame) (r s : Resident) → AreApart f frame r s → AreApart f frame s r
other_way f frame r s h = ⊎_elim (λ e. inr e) (λ e. inl e) h

apart : (f : LirFn) (frame : Frame) → IsLaidOut f frame → (r s : Resident) → IsResident f r → IsResident f s → r ≢ s → AreApart f frame r s
apart f frame laid (OfLocal l) (OfLocal m) hr hs ne =
    ⊎_elim
    (λ less. inl (locals_apart f frame laid l m hr hs less))
    (λ more. ⊎_elim
    (λ greater. inr (locals_apart f frame laid m l hs hr greater))
    (λ least. let same : l ≡ m = omega arith in absurd (ne (ap OfLocal same)))
    (cases_lt m l))
    (cases_lt l m)
apart f frame laid (OfLocal l) (OfTemp t) hr hs ne = local_and_temp f frame laid l t hr hs
apart f frame laid (OfTemp t) (OfLocal l) hr hs ne = other_way f frame (OfLocal l) (OfTemp t) (local_and_temp f frame laid l t hs hr)
apart f frame laid (OfTemp t) (OfTemp u) hr hs ne =
    ⊎_elim
    (λ less. inl (omega arith))
    (λ more. ⊎_elim
    (λ greater. inr (omega arith))
    (λ least. let same : t ≡ u = omega arith in absurd (ne (ap OfTemp same)))
    (cases_lt u t))
    (cases_lt t u)

aligned : (f : LirFn) (frame : Frame) → IsLaidOut f frame → (r : Resident) → IsResident f r → slot_at frame r % 8 ≡ 0
aligned f frame laid (OfLocal l) h = omega (arith, laid.locals l h, bytes_aligned f.locals l, temp_bytes_aligned f l)
aligned f frame laid (OfTemp t) h = omega (arith, laid.temps, bytes_aligned f.locals f.parameters)

behind_saved : (f : LirFn) (frame : Frame) → IsLaidOut f frame → (r : Resident) → IsResident f r → saved_bytes ≤ slot_at frame r
behind_saved f frame laid (OfLocal l) h = omega (arith, laid.locals l h)
behind_saved f frame laid (OfTemp t) h = omega (arith, laid.temps)

inside : (f : LirFn) (frame : Frame) → IsLaidOut f frame → (r : Resident) → IsResident f r → slot_end f frame r ≤ frame.size
inside f frame laid (OfLocal l) h = omega (arith, laid.size, laid.locals l h, bytes_step f.locals l h, bytes_within f.locals (suc l), temp_bytes_most f l)
inside f frame laid (OfTemp t) h = omega (arith, laid.size, laid.temps, bytes_within f.locals f.parameters)

pub is_frame : (f : LirFn) (frame : Frame) → IsLaidOut f frame → IsFrame f frame
is_frame f frame laid = record {
  apart = apart f frame laid;
  aligned = aligned f frame laid;
  behind_saved = behind_saved f frame laid;
  inside = inside f frame laid;
  size_aligned = omega (arith, laid.size);
  size_bound = omega (arith, laid.size);
}

-- ---- what the code has on its way

-- the list of all locals, how many of them are parameters, where the temporaries begin, and how many there are
pub record Cut (f : LirFn) (all : List LirLocal) (first temps temporaries : ℕ) : Type 0 where
  pub all_is : all ≡ f.locals
  pub first_is : first ≡ min f.parameters (length all)
  pub temps_is : temps ≡ saved_bytes + sum_by rounded (take first all)
  pub held_is : temporaries ≡ held f

abbrev pub rest_of : List LirLocal → ℕ → List LirLocal
rest_of all first = take (length all - first) (drop first all)

first_same : (f : LirFn) (all : List LirLocal) (first temps n : ℕ) → Cut f all first temps n → first ≡ first_of f
first_same f all first temps n cut = cut.first_is ∙ ap (λ ls. min f.parameters (length ls)) cut.all_is

front_same : (f : LirFn) (all : List LirLocal) (first temps n : ℕ) → Cut f all first temps n → take first all ≡ take (first_of f) f.locals
front_same f all first temps n cut = ap (λ k. take k all) (first_same f all first temps n cut) ∙ ap (take (first_of f)) cut.all_is

rest_same : (f : LirFn) (all : List LirLocal) (first temps n : ℕ) → Cut f all first temps n → rest_of all first ≡ drop (first_of f) f.locals
rest_same f all first temps n cut = rest_is first all ∙ (ap (λ k. drop k all) (first_same f all first temps n cut) ∙ ap (drop (first_of f)) cut.all_is)

temps_same : (f : LirFn) (all : List LirLocal) (first temps n : ℕ) → Cut f all first temps n → temps ≡ saved_bytes + bytes_before f (first_of f)
temps_same f all first temps n cut = cut.temps_is ∙ ap (λ ls. saved_bytes + sum_by rounded ls) (front_same f all first temps n cut)

others_same : (f : LirFn) (all : List LirLocal) (first temps n : ℕ) → Cut f all first temps n → temps + 8 * n ≡ others_of f
others_same f all first temps n cut = omega (arith, temps_same f all first temps n cut, cut.held_is)

-- where the last local ends
pub end_same : (f : LirFn) (all : List LirLocal) (first temps n : ℕ) → Cut f all first temps n → temps + 8 * n + sum_by rounded (rest_of all first) ≡ saved_bytes + (bytes f + 8 * held f)
end_same f all first temps n cut =
    omega (arith, others_same f all first temps n cut, ap (sum_by rounded) (rest_same f all first temps n cut), bytes_parts f (first_of f))

pub joined_same : (f : LirFn) (all : List LirLocal) (first temps n : ℕ) → Cut f all first temps n → (front places : List ℕ) → front ≡ places_from saved_bytes (take first all) → places ≡ front ++ places_from (temps + 8 * n) (rest_of all first) → places ≡ joined f (others_of f)
joined_same f all first temps n cut front places e1 e2 =
    e2 ∙ (ap (λ ps. ps ++ places_from (temps + 8 * n) (rest_of all first)) (e1 ∙ ap (places_from saved_bytes) (front_same f all first temps n cut))
    ∙ (ap (λ k. places_from saved_bytes (take (first_of f) f.locals) ++ places_from k (rest_of all first)) (others_same f all first temps n cut)
    ∙ ap (λ ls. places_from saved_bytes (take (first_of f) f.locals) ++ places_from (others_of f) ls) (rest_same f all first temps n cut)))

pub laid_out_as : (f : LirFn) (all : List LirLocal) (first temps n : ℕ) → Cut f all first temps n → (front places : List ℕ) (size : ℕ) → front ≡ places_from saved_bytes (take first all) → places ≡ front ++ places_from (temps + 8 * n) (rest_of all first) → size ≡ next_multiple_of (temps + 8 * n + sum_by rounded (rest_of all first)) 16 → IsLaidOut f (record { size = size; slots = record { locals = places; temps = temps } })
laid_out_as f all first temps n cut front places size e1 e2 e3 = record {
  count = ap length (joined_same f all first temps n cut front places e1 e2) ∙ length-joined f (others_of f);
  locals = λ l h. ap (λ ps. get_or ps l 0) (joined_same f all first temps n cut front places e1 e2) ∙ joined_at f l h;
  temps = temps_same f all first temps n cut ∙ ap (λ k. saved_bytes + k) (bytes_first f.locals f.parameters);
  size = e3 ∙ ap (λ k. next_multiple_of k 16) (end_same f all first temps n cut);
}
