-- Octet 7 and the CRC-10 change as in the turned octets.
use Prim.Native.Nat.{ℕ, ◌%◌, ◌/◌, ◌<◌}
use native.Mathlib.Nat.{mod-lt}
use native.Mathlib.Omega.{arith}
use lib.Bits.{bit_xor}
use lib.Dec.{lit<}
use Rattle.cell_crc.proofs.Limbs.{Six}
use Rattle.cell.proofs.Changes.{changed-lt, turn-changes}
use borrow.Author.Rules.{rules}
use Rattle.cell_turn.proofs.turn.turn.Goals as goal

-- four bits change
four : (w : ℕ) {m : ℕ} → m < 256 → bit_xor (w / 0x1000000000000 % 256) m / 16 < 16
four w {m} h = changed-lt (w / 0x1000000000000 % 256) m (mod-lt (w / 0x1000000000000) (lit< tt)) h

pub overflow_mul-result : goal.overflow_mul-result
overflow_mul-result c = omega (arith, four c.args.p.a c.turned_marks.ensures.1)

pub marks_check-requires : goal.marks_check-requires
marks_check-requires c = four c.args.p.a c.turned_marks.ensures.1

pub returns : goal.returns
returns c =
    let k = c in
    let m = k in
    let s = m in
    let p = s.args.p in
    let six : Six p.a p.b p.c p.d p.e p.f = search (rules, m.struct_known-1.given) in
    turn-changes p s.args.level s.args.mark six s.requires m.turned_marks.ensures.0 m.turned_marks.ensures.1 k.marks_check.ensures.0
    k.marks_check.ensures.1
