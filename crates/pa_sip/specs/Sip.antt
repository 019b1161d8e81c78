-- SipHash-2-4 (J.-P. Aumasson and D. J. Bernstein, SipHash: a fast short-input PRF, section 2).
use Rattle.std.specs.Prelude.{ℕ, zero, suc, ◌+◌, ◌-◌, ◌/◌, ◌%◌, ◌^◌, List, [], ◌∷◌, ◌++◌, length, take, drop, replicate, fold, bit_xor}
use Rattle.std.specs.Int.{w64, rotate_left, from_le_bytes}
use Rattle.pa_sip.specs.declared.sip.State.{State}

-- addition modulo 2 ^ 64
abbrev pub add64 : ℕ → ℕ → ℕ
add64 x y = (x + y) % 2 ^ 64

-- the state that the two halves of the key begin with
unfoldable pub initial : ℕ → ℕ → State
initial k0 k1 = record {
  v0 = bit_xor k0 0x736f6d6570736575;
  v1 = bit_xor k1 0x646f72616e646f6d;
  v2 = bit_xor k0 0x6c7967656e657261;
  v3 = bit_xor k1 0x7465646279746573;
}

-- SipRound: each half adds, rotates and takes an exclusive or twice, and rotates a sum by 32
unfoldable pub sip_round : State → State
sip_round v =
    let a0 = add64 v.v0 v.v1 in
    let a2 = add64 v.v2 v.v3 in
    let a1 = bit_xor (rotate_left w64 v.v1 13) a0 in
    let a3 = bit_xor (rotate_left w64 v.v3 16) a2 in
    let b2 = add64 a2 a1 in
    let b0 = add64 (rotate_left w64 a0 32) a3 in
    record { v0 = b0; v1 = bit_xor (rotate_left w64 a1 17) b2; v2 = rotate_left w64 b2 32; v3 = bit_xor (rotate_left w64 a3 21) b0 }

abbrev pub rounds : ℕ → State → State
rounds zero v = v
rounds (suc n) v = rounds n (sip_round v)

-- a word goes into v3 before two rounds and into v0 behind them
unfoldable pub compressed : State → ℕ → State
compressed v word =
    let after = rounds 2 (record v { v3 = bit_xor v.v3 word }) in
    record after { v0 = bit_xor after.v0 word }

-- four rounds more, and the exclusive or of the state
unfoldable pub finalized : State → ℕ
finalized v =
    let last = rounds 4 (record v { v2 = bit_xor v.v2 0xff }) in
    bit_xor (bit_xor (bit_xor last.v0 last.v1) last.v2) last.v3

-- what fills the last word of a message of that length: zeros, and in the last byte the length modulo 256
abbrev pub padding : ℕ → List ℕ
padding len = replicate (7 - len % 8) 0 ++ (len % 256 ∷ [])

-- the number of 64 bits whose bytes these are, the lowest first
unfoldable pub word : List ℕ → ℕ
word bytes = from_le_bytes w64 bytes

-- the first n words of a message
abbrev pub words : ℕ → List ℕ → List ℕ
words zero bytes = []
words (suc n) bytes = word (take 8 bytes) ∷ words n (drop 8 bytes)

-- the words of a message with its padding
abbrev pub message_words : List ℕ → List ℕ
message_words bytes = words (length bytes / 8 + 1) (bytes ++ padding (length bytes))

unfoldable pub siphash : ℕ → ℕ → List ℕ → ℕ
siphash k0 k1 bytes = finalized (fold compressed (initial k0 k1) (message_words bytes))
