-- The nine octets "123456789". Catalogues of checks give their remainder, CRC-8/I-432-1 and CRC-10/ATM among them.
-- (Document 01, "What the library commits to", on the standards' published vectors.)
use Rattle.std.specs.Prelude.{ℕ, List, [], ◌∷◌}

unfoldable pub message : List ℕ
message = 0x31 ∷ 0x32 ∷ 0x33 ∷ 0x34 ∷ 0x35 ∷ 0x36 ∷ 0x37 ∷ 0x38 ∷ 0x39 ∷ []
