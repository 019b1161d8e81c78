-- Bytes of flat code in memory.
use Rattle.std.proofs.Common.{◌≡◌, ℕ, zero, suc, ◌+◌, ◌≤◌, ◌<◌, List, [], ◌∷◌, ◌++◌, length, take, drop, sym, subst, arith}
use Rattle.pa_mem.specs.Memory.{Region, byte_at, store}
use Rattle.pa_mem.proofs.Ranges.{byte_at-store-other}
use Rattle.pa_lir.specs.Values.{Byte}
use Rattle.pa_selected.specs.Values.{Addresses, IsByte, HasBytes}

module _ (addresses : Addresses) where
  -- memory that is the same where they lie
  pub HasBytes-alike : (memory later : List Region) (at : ℕ) (bytes : List Byte) → ((i : ℕ) → at ≤ i → i < at + length bytes → byte_at later i ≡ byte_at memory i) → HasBytes addresses memory at bytes → HasBytes addresses later at bytes
  unfolding HasBytes
  HasBytes-alike memory later at [] same h = tt
  HasBytes-alike memory later at (b ∷ bs) same h = (
    subst (IsByte addresses b) (sym (same at (omega arith) (omega arith))) h.0,
    HasBytes-alike memory later (at + 1) bs (λ i low high. same i (omega arith) (omega arith)) h.1,
  )

  -- a number that is stored elsewhere leaves them
  pub HasBytes-stored : (n : ℕ) (memory : List Region) (to value at : ℕ) (bytes : List Byte) → (at < to + n → at + length bytes ≤ to) → HasBytes addresses memory at bytes → HasBytes addresses (store n memory to value) at bytes
  HasBytes-stored n memory to value at bytes off h = HasBytes-alike memory _ at bytes (λ i low high. byte_at-store-other n memory to value i (λ below. omega (arith, off))) h

  pub HasBytes-drop : (memory : List Region) (at n : ℕ) (bytes : List Byte) → HasBytes addresses memory at bytes → HasBytes addresses memory (at + n) (drop n bytes)
  unfolding HasBytes
  HasBytes-drop memory at zero bytes h = subst (λ a. HasBytes addresses memory a bytes) (omega arith) h
  HasBytes-drop memory at (suc n) [] h = tt
  HasBytes-drop memory at (suc n) (b ∷ bs) h = subst (λ a. HasBytes addresses memory a (drop n bs)) (omega arith) (HasBytes-drop memory (at + 1) n bs h.1)

  pub HasBytes-take : (memory : List Region) (at n : ℕ) (bytes : List Byte) → HasBytes addresses memory at bytes → HasBytes addresses memory at (take n bytes)
  unfolding HasBytes
  HasBytes-take memory at zero bytes h = tt
  HasBytes-take memory at (suc n) [] h = tt
  HasBytes-take memory at (suc n) (b ∷ bs) h = (h.0, HasBytes-take memory (at + 1) n bs h.1)

  pub HasBytes-append : (memory : List Region) (at : ℕ) (bytes more : List Byte) → HasBytes addresses memory at bytes → HasBytes addresses memory (at + length bytes) more → HasBytes addresses memory at (bytes ++ more)
  unfolding HasBytes
  HasBytes-append memory at [] more h k = subst (λ a. HasBytes addresses memory a more) (omega arith) k
  HasBytes-append memory at (b ∷ bs) more h k = (h.0, HasBytes-append memory (at + 1) bs more h.1 (subst (λ a. HasBytes addresses memory a more) (omega arith) k))
