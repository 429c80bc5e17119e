-- A payload of 48 octets in six words of eight, the first octet highest.
use Rattle.std.specs.Prelude.{List, [], ◌∷◌, ◌++◌, ℕ, ◌+◌, ◌*◌, ◌/◌, ◌%◌, get_or}
pub use Rattle.cell_payload.specs.declared.payload.Payload.{Payload}

-- the eight octets of a word
abbrev pub word_octets : ℕ → List ℕ
word_octets w =
    (w / 0x100000000000000 % 256) ∷ (w / 0x1000000000000 % 256) ∷ (w / 0x10000000000 % 256) ∷ (w / 0x100000000 % 256)
    ∷ (w / 0x1000000 % 256) ∷ (w / 0x10000 % 256) ∷ (w / 0x100 % 256) ∷ (w % 256) ∷ []

-- the 48 octets of a payload
abbrev pub octets_of : Payload → List ℕ
octets_of p = word_octets p.a ++ (word_octets p.b ++ (word_octets p.c ++ (word_octets p.d ++ (word_octets p.e ++ word_octets p.f))))

-- eight octets from index i on, as one word
abbrev pub word_at : List ℕ → ℕ → ℕ
word_at o i =
    get_or o i 0 * 0x100000000000000 + get_or o (i + 1) 0 * 0x1000000000000 + get_or o (i + 2) 0 * 0x10000000000 + get_or o (i + 3) 0 * 0x100000000
    + get_or o (i + 4) 0 * 0x1000000 + get_or o (i + 5) 0 * 0x10000 + get_or o (i + 6) 0 * 0x100 + get_or o (i + 7) 0

-- a payload's words, from its 48 octets
abbrev pub payload_of : List ℕ → Payload
payload_of o = record { a = word_at o 0; b = word_at o 8; c = word_at o 16; d = word_at o 24; e = word_at o 32; f = word_at o 40 }
