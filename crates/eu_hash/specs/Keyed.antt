-- What a hash by a key computes.
use Rattle.std.specs.Prelude.{ℕ, zero, suc, ◌+◌, ◌-◌, ◌*◌, ◌/◌, ◌%◌, ◌^◌, List, length, if◌then◌else◌, nat_le, bit_xor}
use Rattle.std.specs.Hash.FoldHasher.{folded_multiply, read_u64, read_short}
use Rattle.eu_hash.specs.declared.hasher.KeyedHasher.{KeyedHasher}
use Rattle.eu_hash.specs.declared.key.HashKey.{HashKey}

-- a hasher of the key of these words, which has hashed nothing
unfoldable pub begun : ℕ → ℕ → KeyedHasher
begun first second = record { state = bit_xor first 0x243f_6a88_85a3_08d3; factor = bit_xor second 0x9e37_79b9_7f4a_7c15 }

-- the key of these words
unfoldable pub key_of : ℕ → ℕ → HashKey
key_of first second = record { begun = begun first second }

-- what a table that hashes by a key begins with
abbrev pub begun_of : HashKey → KeyedHasher
begun_of k = k.begun

-- the state after the words at i and at j
abbrev pub mix : ℕ → List ℕ → ℕ → ℕ → ℕ → ℕ
mix factor bs state i j = folded_multiply (bit_xor (read_u64 bs i) state) (bit_xor (read_u64 bs j) factor)

-- the state after the first n blocks of 16 bytes
unfoldable pub mix_blocks : ℕ → List ℕ → ℕ → ℕ → ℕ
mix_blocks factor bs state zero = state
mix_blocks factor bs state (suc n) = mix factor bs (mix_blocks factor bs state n) (16 * n) (16 * n + 8)

-- the hasher after `write(bs)`: how long the text is counts, by a multiple of a secret word
unfoldable pub write : KeyedHasher → List ℕ → KeyedHasher
write h bs =
    let n = length bs in
    let short = folded_multiply (bit_xor h.state (read_short bs)) (bit_xor h.factor (2 * n)) in
    let first = (h.state + (n * h.factor) % 2 ^ 64) % 2 ^ 64 in
    let long = mix h.factor bs (mix_blocks h.factor bs first ((n - 1) / 16)) (n - 16) (n - 8) in
    record { state = if nat_le n 8 then short else long; factor = h.factor }

-- what `finish` returns
abbrev pub finish : KeyedHasher → ℕ
finish h = h.state
