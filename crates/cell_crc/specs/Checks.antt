-- The header check and the CRC-10. (Document 01, "The cell, 53 octets".)
use Rattle.std.specs.Prelude.{List, ℕ, take}
use Rattle.std.specs.Int.Bits.{bit_xor}
use Rattle.cell_crc.specs.Remainder.{remainder, octet_bits}

-- octet 5, from octets 1 to 4: generator x^8 + x^2 + x + 1, exclusive-or 0x55
unfoldable pub header_check : List ℕ → ℕ
header_check four = bit_xor (remainder 8 0x107 (octet_bits four)) 0x55

-- the CRC-10 of a payload of 48 octets: of its first 374 bits, generator x^10 + x^9 + x^5 + x^4 + x + 1
unfoldable pub payload_check : List ℕ → ℕ
payload_check payload = remainder 10 0x633 (take 374 (octet_bits payload))
