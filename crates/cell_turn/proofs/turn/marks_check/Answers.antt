-- At each of the sixteen, computed.
use mathlib.Core.Path.{◌≡◌, subst, sym}
use Prim.Native.Nat.{ℕ, ◌*◌, ◌/◌, ◌%◌, ◌<◌}
use lib.Bits.{bit_xor}
use Rattle.cell_crc.specs.Remainder.{bring, divide, remainder, bits, octet_bits}
use Rattle.cell_crc.specs.Checks.{payload_check}
use Rattle.cell_payload.specs.Payload.{octets_of}
use Rattle.cell_crc.proofs.Below.{agree}
use Rattle.cell_crc.proofs.Check.{payload_lt}
use Rattle.cell.specs.Turning.{marks_alone}
use Rattle.cell_turn.proofs.turn.marks_check.Goals as goal

abbrev sum : ℕ → ℕ
sum n = bit_xor (bit_xor (bit_xor (n / 8 * 0x18b) (n / 4 % 2 * 0x3dc)) (n / 2 % 2 * 0x1ee)) (n % 2 * 0xf7)

right : (n : ℕ) → n < 16 → sum n ≡ payload_check (octets_of (marks_alone n))
unfolding payload_check remainder divide bring bits octet_bits
right n h = agree sum (λ n. payload_check (octets_of (marks_alone n))) 16 tt n h

pub returns : goal.returns
returns c =
    let n : ℕ = c.args.n in
    let e : sum n ≡ payload_check (octets_of (marks_alone n)) = right n c.requires in
    (e, subst (λ (z : ℕ). z < 1024) (sym e) (payload_lt (octets_of (marks_alone n))))
