-- The key of a text: SHA-256 (FIPS 180-4) of its pieces begins SipHash-1-3, std's `DefaultHasher`.
use Rattle.std.specs.Prelude.{ℕ, List, ◌++◌, length}
use Rattle.std.specs.Int.{w64, to_le_bytes}
use Rattle.std.specs.Hash.DefaultHasher as sip
use Rattle.std.specs.declared.hash.DefaultHasher.{DefaultHasher}
use Rattle.sha2.specs.Hashers.{Holds256}
use Rattle.sha2.specs.Sha256.{sha256}
use Rattle.pa_names.specs.declared.key.TextDigest.{TextDigest}
use Rattle.pa_names.specs.declared.key.TextKey.{TextKey}

-- what a piece adds to the message: its length, as 8 bytes, the lowest first, and the piece
abbrev pub piece : List ℕ → List ℕ
piece bytes = to_le_bytes w64 (length bytes) ++ bytes

-- the pieces that were taken make this message
abbrev pub Took : TextDigest → List ℕ → Type 0
Took digest message = Holds256 digest.taken message

-- the hasher that a key begins each name with
abbrev pub start : TextKey → DefaultHasher
start key = key.start

-- that of a message: one with the message's digest written to it
abbrev pub started : List ℕ → DefaultHasher
started message = sip.write sip.initial (sha256 message)
