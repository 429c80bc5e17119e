-- The published check values, by computation from the definitions.
use Prim.Native.Nat.{ℕ}
use mathlib.Core.Path.{◌≡◌, ap, ◌∙◌}
use mathlib.Core.List.{List, [], ◌∷◌}
use lib.Bits.{bit_xor}
use Rattle.cell_crc.specs.Remainder.{bring, divide, remainder, bits, octet_bits}
use Rattle.cell_crc.specs.Checks.{header_check, payload_check}
use Rattle.cell_payload.specs.Payload.{octets_of}
use Rattle.check_vectors.specs.Message.{message}

-- octets 5 to 8, behind the check x of those before; and octet 9 likewise
abbrev next : ℕ → List ℕ
next x = bit_xor (bit_xor x 0x55) 0x35 ∷ 0x36 ∷ 0x37 ∷ 0x38 ∷ []

abbrev last : ℕ → List ℕ
last x = 0 ∷ 0 ∷ 0 ∷ bit_xor (bit_xor x 0x55) 0x39 ∷ []

pub crc8 :
    (four eight r : ℕ) → four ≡ header_check (0x31 ∷ 0x32 ∷ 0x33 ∷ 0x34 ∷ []) → eight ≡ header_check (next four) → r ≡ header_check (last eight)
    → (r ≡ bit_xor (remainder 8 0x107 (octet_bits message)) 0x55) × (r ≡ 0xA1)
unfolding message bring divide remainder bits octet_bits header_check
crc8 four eight r e f g =
    let whole : r ≡ 0xA1 = g ∙ ap (λ (x : ℕ). header_check (last x)) (f ∙ ap (λ (x : ℕ). header_check (next x)) e) in
    (whole, whole)

pub crc10 :
    (r : ℕ) → r ≡ payload_check (octets_of (record { a = 0; b = 0; c = 0; d = 0; e = 0xC4C8; f = 0xCCD0D4D8DCE0E400 }))
    → (r ≡ remainder 10 0x633 (octet_bits message)) × (r ≡ 0x199)
unfolding message bring divide remainder bits octet_bits payload_check
crc10 r e = (e, e)
