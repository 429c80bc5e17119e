-- The CRC-10 of a turned payload from the one received: bits that change in a payload change its CRC-10 by their own.
use mathlib.Core.Path.{◌≡◌, sym, ap, ap₂, ◌∙◌}
use mathlib.Core.Bool.{Bool}
use Prim.Native.Nat.{ℕ, ◌+◌, ◌*◌, ◌/◌, ◌%◌, ◌^◌, ◌<◌}
use native.Mathlib.Nat.{mod-lt}
use native.Mathlib.Omega.{arith}
use lib.Bits.{bit_xor, xor_block, xor_lt, xor_mod, xor_self, xor_zero_l, xor_zero_r}
use lib.Dec.{lit<}
use lib.Pow.{pow_pos, split}
use Rattle.cell_crc.specs.Checks.{payload_check}
use Rattle.cell_payload.specs.Payload.{octets_of, payload_of}
use Rattle.cell_payload.specs.declared.payload.Payload.{Payload}
use Rattle.cell_crc.proofs.Xor.{xor_assoc}
use Rattle.cell_crc.proofs.Check.{both, payload-both}
use Rattle.cell_crc.proofs.Limbs.{Six}
use Rattle.cell.specs.Fields.{CrcMatches}
use Rattle.cell.specs.Turning.{turned_marks, marks_alone, turned_payload}
use Rattle.cell.proofs.Turned.{marks-low}
use Rattle.cell.proofs.PayloadWords.{crc-words, remarked, turn-words}

-- the bits of an octet that change are four, if the other four stay
pub changed-lt : (x m : ℕ) → x < 256 → m < 256 → bit_xor x m / 16 < 16
changed-lt x m hx hm = let h : bit_xor x m < 256 = xor_lt 8 x m hx hm in omega arith

changed-high : (x m : ℕ) → m % 16 ≡ x % 16 → bit_xor x m / 16 * 16 ≡ bit_xor x m
changed-high x m e =
    let z : bit_xor x m % 16 ≡ 0 = xor_mod x m 4 ∙ ap (bit_xor (x % 16)) e ∙ xor_self (x % 16) in
    omega arith

-- a word in which the second octet changes
second-changed : (w m : ℕ) → m < 256 → m % 16 ≡ w / 0x1000000000000 % 256 % 16
    → bit_xor w (bit_xor (w / 0x1000000000000 % 256) m / 16 * 0x10000000000000)
    ≡ w / 0x100000000000000 * 0x100000000000000 + m * 0x1000000000000 + w % 0x1000000000000
second-changed w m hm e =
    let x : ℕ = w / 0x1000000000000 % 256 in
    let hi : ℕ = w / 0x100000000000000 in
    let lo : ℕ = w % 0x1000000000000 in
    let hx : x < 256 = mod-lt (w / 0x1000000000000) (lit< tt) in
    let h : ℕ = bit_xor x m in
    let split : w ≡ (hi * 256 + x) * 2 ^ 48 + lo = omega arith in
    let up : h / 16 * 0x10000000000000 ≡ (0 * 256 + h) * 2 ^ 48 + 0 = let z : h / 16 * 16 ≡ h = changed-high x m e in omega arith in
    let back : bit_xor x h ≡ m = sym (xor_assoc x x m) ∙ ap (λ (z : ℕ). bit_xor z m) (xor_self x) ∙ xor_zero_l m in
    ap₂ bit_xor split up
    ∙ xor_block 48 (hi * 256 + x) (0 * 256 + h) lo 0 (mod-lt w (pow_pos 48)) (lit< tt)
    ∙ ap₂ (λ (y z : ℕ). y * 2 ^ 48 + z) (xor_block 8 hi 0 x h hx (xor_lt 8 x m hx hm) ∙ ap₂ (λ (y z : ℕ). y * 256 + z) (xor_zero_r hi) back) (xor_zero_r lo)
    ∙ joined hi m lo
  where
    joined : (a m l : ℕ) → (a * 256 + m) * 2 ^ 48 + l ≡ a * 0x100000000000000 + m * 0x1000000000000 + l
    joined a m l = omega arith

-- a word whose ten low bits change
last-changed : (w k : ℕ) → k < 1024 → bit_xor w k ≡ w / 1024 * 1024 + bit_xor (w % 1024) k
last-changed w k h =
    ap₂ bit_xor (sym (split w 10)) (omega arith)
    ∙ xor_block 10 (w / 1024) 0 (w % 1024) k (mod-lt w (pow_pos 10)) h
    ∙ ap (λ (z : ℕ). z * 1024 + bit_xor (w % 1024) k) (xor_zero_r (w / 1024))

pub turn-changes : (p : Payload) (level : ℕ) (mark : Bool) {m k : ℕ} → Six p.a p.b p.c p.d p.e p.f → CrcMatches p
    → m ≡ turned_marks level mark (p.a / 0x1000000000000 % 256) → m < 256
    → k ≡ payload_check (octets_of (marks_alone (bit_xor (p.a / 0x1000000000000 % 256) m / 16))) → k < 1024
    → ◌≡◌ {A = Payload}
    (record {
      a = bit_xor p.a (bit_xor (p.a / 0x1000000000000 % 256) m / 16 * 0x10000000000000);
      b = p.b;
      c = p.c;
      d = p.d;
      e = p.e;
      f = bit_xor p.f k;
    })
    (payload_of (turned_payload level mark (octets_of p)))
turn-changes p level mark {m} {k} six right em hm ek hk =
    (λ i. record { a = first i; b = p.b; c = p.c; d = p.d; e = p.e; f = last-changed p.f k hk i })
    ∙ crc-words (remarked p m) first-lt six.1 six.2 six.3 six.4 six.5 check
    ∙ turn-words p level mark m em hm
  where
    x : ℕ
    x = p.a / 0x1000000000000 % 256

    n : ℕ
    n = bit_xor x m / 16

    first-lt : (remarked p m).a < 2 ^ 64
    first-lt = let h : p.a < 2 ^ 64 = six.0 in omega arith

    first : bit_xor p.a (n * 0x10000000000000) ≡ (remarked p m).a
    first = second-changed p.a m hm (ap (λ (z : ℕ). z % 16) em ∙ marks-low level mark x)

    sum : both p (marks_alone n) ≡ remarked p m
    sum = λ i. record {
      a = first i;
      b = xor_zero_r p.b i;
      c = xor_zero_r p.c i;
      d = xor_zero_r p.d i;
      e = xor_zero_r p.e i;
      f = xor_zero_r p.f i;
    }

    alone : Six (n * 0x10000000000000) 0 0 0 0 0
    alone = let h : n < 16 = changed-lt x m (mod-lt (p.a / 0x1000000000000) (lit< tt)) hm in (omega arith, lit< tt, lit< tt, lit< tt, lit< tt, lit< tt)

    check : bit_xor (p.f % 1024) k ≡ payload_check (octets_of (remarked p m))
    check =
        ap₂ bit_xor right.crc ek ∙ sym (payload-both p (marks_alone n) six alone) ∙ ap (λ (q : Payload). payload_check (octets_of q)) sum
