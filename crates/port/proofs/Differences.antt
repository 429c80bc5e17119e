-- The CRC-10 of a payload in which ER changes, from the one before and the bits that change.
use mathlib.Core.Path.{◌≡◌, sym, ap, ap₂, ◌∙◌}
use mathlib.Core.List.{List, ◌∷◌}
use Prim.Native.Nat.{ℕ, ◌+◌, ◌*◌, ◌/◌, ◌%◌, ◌^◌, ◌<◌}
use native.Mathlib.Nat.{mod-lt}
use native.Mathlib.Omega.{arith}
use lib.Bits.{bit_xor, xor_block, xor_lt, xor_self, xor_zero_l, xor_zero_r}
use lib.Dec.{lit<}
use lib.ListN.{length, get_or}
use Rattle.cell_crc.specs.Checks.{payload_check}
use Rattle.cell_payload.specs.Payload.{octets_of, word_at, payload_of}
use Rattle.cell_payload.specs.declared.payload.Payload.{Payload}
use Rattle.cell_crc.proofs.Check.{both, payload-both}
use Rattle.cell_crc.proofs.Limbs.{Six}
use Rattle.cell_payload.proofs.Words.{octets-of-payload}
use Rattle.cell_crc.proofs.Xor.{xor_assoc}
use Rattle.cell.specs.Octets.{AreOctets}
use Rattle.port.specs.ErAlone.{er_alone}

-- the bits that change, and the number to which they change
changed : (x y : ℕ) → bit_xor x (bit_xor x y) ≡ y
changed x y = sym (xor_assoc x x y) ∙ ap (λ (z : ℕ). bit_xor z y) (xor_self x) ∙ xor_zero_l y

-- the bits that change in two octets
abbrev pub difference : (x y h l : ℕ) → ℕ
difference x y h l = bit_xor x h * 256 + bit_xor y l

module _ (x y h l : ℕ) (hx : x < 256) (hy : y < 256) (hh : h < 256) (hl : l < 256) where
  difference-lt : difference x y h l < 65536
  difference-lt = omega (arith, xor_lt 8 x h hx hh, xor_lt 8 y l hy hl)

  pair-changed : bit_xor (x * 256 + y) (difference x y h l) ≡ h * 256 + l
  pair-changed =
      xor_block 8 x (bit_xor x h) y (bit_xor y l) hy (xor_lt 8 y l hy hl) ∙ ap₂ (λ (a b : ℕ). a * 256 + b) (changed x h) (changed y l)

  -- in the first word they stand above 32 bits
  word-changed : (w v a b : ℕ) → b < 2 ^ 32 → w ≡ (a * 65536 + (x * 256 + y)) * 2 ^ 32 + b → v ≡ (a * 65536 + (h * 256 + l)) * 2 ^ 32 + b
      → bit_xor w (difference x y h l * 0x100000000) ≡ v
  word-changed w v a b hb ew ev =
      let n : ℕ = difference x y h l in
      ap₂ bit_xor ew (omega arith)
      ∙ xor_block 32 (a * 65536 + (x * 256 + y)) (0 * 65536 + n) b 0 hb (lit< tt)
      ∙ ap₂ (λ (p q : ℕ). p * 2 ^ 32 + q)
      (xor_block 16 a 0 (x * 256 + y) n (omega arith) difference-lt ∙ ap₂ (λ (p q : ℕ). p * 65536 + q) (xor_zero_r a) pair-changed) (xor_zero_r b)
      ∙ sym ev

word_lt : (l : List ℕ) (i : ℕ) → AreOctets l → word_at l i < 2 ^ 64
word_lt l i o =
    omega (arith, o.each i, o.each (i + 1), o.each (i + 2), o.each (i + 3), o.each (i + 4), o.each (i + 5), o.each (i + 6), o.each (i + 7))

words-lt : (l : List ℕ) → AreOctets l → Six (word_at l 0) (word_at l 8) (word_at l 16) (word_at l 24) (word_at l 32) (word_at l 40)
words-lt l o = (word_lt l 0 o, word_lt l 8 o, word_lt l 16 o, word_lt l 24 o, word_lt l 32 o, word_lt l 40 o)

-- the payload with another ER
module _ (p m x y h l : ℕ) (r : List ℕ) (n : length r ≡ 44) (o : AreOctets (p ∷ m ∷ x ∷ y ∷ r)) (q : AreOctets (p ∷ m ∷ h ∷ l ∷ r)) where
  words-changed : both (payload_of (p ∷ m ∷ x ∷ y ∷ r)) (er_alone (difference x y h l)) ≡ payload_of (p ∷ m ∷ h ∷ l ∷ r)
  words-changed = λ i. record {
    a = first i;
    b = xor_zero_r (word_at r 4) i;
    c = xor_zero_r (word_at r 12) i;
    d = xor_zero_r (word_at r 20) i;
    e = xor_zero_r (word_at r 28) i;
    f = xor_zero_r (word_at r 36) i;
  }
    where
      low : ℕ
      low = get_or r 0 0 * 0x1000000 + get_or r 1 0 * 0x10000 + get_or r 2 0 * 0x100 + get_or r 3 0

      first : bit_xor (word_at (p ∷ m ∷ x ∷ y ∷ r) 0) (difference x y h l * 0x100000000) ≡ word_at (p ∷ m ∷ h ∷ l ∷ r) 0
      first =
          word-changed x y h l (o.each 2) (o.each 3) (q.each 2) (q.each 3) (word_at (p ∷ m ∷ x ∷ y ∷ r) 0) (word_at (p ∷ m ∷ h ∷ l ∷ r) 0) (p * 256 + m) low
          (omega (arith, o.each 4, o.each 5, o.each 6, o.each 7)) (omega arith) (omega arith)

  pub check-changed : payload_check (p ∷ m ∷ h ∷ l ∷ r) ≡ bit_xor (payload_check (p ∷ m ∷ x ∷ y ∷ r)) (payload_check (octets_of (er_alone (difference x y h l))))
  check-changed =
      let old : List ℕ = p ∷ m ∷ x ∷ y ∷ r in
      let new : List ℕ = p ∷ m ∷ h ∷ l ∷ r in
      let d : ℕ = difference x y h l in
      let s : d < 65536 = difference-lt x y h l (o.each 2) (o.each 3) (q.each 2) (q.each 3) in
      ap payload_check (sym (octets-of-payload new (omega arith) q.each))
      ∙ ap (λ (w : Payload). payload_check (octets_of w)) (sym words-changed)
      ∙ payload-both (payload_of old) (er_alone d) (words-lt old o) (omega arith, lit< tt, lit< tt, lit< tt, lit< tt, lit< tt)
      ∙ ap (λ (t : List ℕ). bit_xor (payload_check t) (payload_check (octets_of (er_alone d)))) (octets-of-payload old (omega arith) o.each)

-- the CRC-10 in its two octets, below six bits that stay
module _ (s t k : ℕ) (ht : t < 256) (hk : k < 1024) where
  ten-bits : bit_xor ((s * 256 + t) % 1024) k ≡ bit_xor (s % 4) (k / 256) * 256 + bit_xor t (k % 256)
  ten-bits =
      ap₂ bit_xor {x = (s * 256 + t) % 1024} {y = s % 4 * 256 + t} {u = k} {v = k / 256 * 256 + k % 256} (omega arith) (omega arith)
      ∙ xor_block 8 (s % 4) (k / 256) t (k % 256) ht (mod-lt k (lit< tt))

  pub high-changed : bit_xor s (k / 256) ≡ s / 4 * 4 + bit_xor ((s * 256 + t) % 1024) k / 256
  high-changed =
      let b : bit_xor t (k % 256) < 256 = xor_lt 8 t (k % 256) ht (mod-lt k (lit< tt)) in
      let e : bit_xor ((s * 256 + t) % 1024) k / 256 ≡ bit_xor (s % 4) (k / 256) = omega (arith, ten-bits) in
      ap₂ bit_xor {x = s} {y = s / 4 * 4 + s % 4} {u = k / 256} {v = 0 * 4 + k / 256} (omega arith) (omega arith)
      ∙ xor_block 2 (s / 4) 0 (s % 4) (k / 256) (mod-lt s (lit< tt)) (omega arith)
      ∙ ap₂ (λ (a c : ℕ). a * 4 + c) (xor_zero_r (s / 4)) (sym e)

  pub low-changed : bit_xor t (k % 256) ≡ bit_xor ((s * 256 + t) % 1024) k % 256
  low-changed =
      let b : bit_xor t (k % 256) < 256 = xor_lt 8 t (k % 256) ht (mod-lt k (lit< tt)) in
      omega (arith, ten-bits)
