-- The header check, by products with x^2 + x + 1 and its square.
use mathlib.Core.Path.{◌≡◌, refl, sym, ap, ap₂, ◌∙◌}
use mathlib.Core.List.{List, [], ◌∷◌, ◌++◌}
use Prim.Native.Nat.{ℕ, ◌+◌, ◌*◌, ◌/◌, ◌%◌, ◌^◌, ◌≤◌, ◌<◌}
use native.Mathlib.Nat.{div-eq_of_lt, lt_of_lt_of_le, mod-eq_of_lt, mod-lt, mod-mod, zero-add}
use native.Mathlib.Omega.{arith}
use lib.Bits.{bit_xor, xor_comm, xor_lt, xor_mod, xor_self, xor_shifted, xor_shr, xor_zero_l, xor_zero_r}
use lib.Dec.{lit<, lit≤}
use lib.ListN.{replicate}
use lib.Pow.{pow_pos, shr-shr}
use Rattle.cell_crc.specs.Remainder.{bring, divide, remainder, bits, octet_bits}
use Rattle.cell_crc.specs.Checks.{header_check}
use Rattle.cell_crc.specs.Formula.{times, times_square, folded_octet}
use Rattle.cell_crc.proofs.Below.{agree}
use Rattle.cell_crc.proofs.Bits.{bits-append, octet_bits-append, octets-binary}
use Rattle.cell_crc.proofs.Division.{divide-append, divide-low, remainder-lt}
use Rattle.cell_crc.proofs.Fold.{apart, rem, rem_lt, rem-more, rem-up, rem-xor, swap, up, up-xor}
use Rattle.cell_crc.proofs.Xor.{xor_assoc}

low8 : (b : ℕ) → b < 256 → divide 8 0x107 0 (bits 8 b) ≡ b
low8 b h = divide-low 8 0x107 refl 8 0 b (omega arith) ∙ zero-add (b % 256) ∙ mod-eq_of_lt h

-- octet 5 is an octet
pub header-lt : (os : List ℕ) → header_check os < 256
unfolding header_check
header-lt os = xor_lt 8 (remainder 8 0x107 (octet_bits os)) 0x55 (remainder-lt 8 0x107 refl (octet_bits os) (octets-binary os)) (lit< tt)

-- ---- products

-- the remainder of a number of 24 bits
abbrev by8 : ℕ → ℕ
by8 v = rem 8 0x107 refl 24 v

octet-own : (b : ℕ) → b < 256 → by8 b ≡ b
octet-own b h = rem-more 8 0x107 refl 16 8 b h ∙ low8 b h

-- x^8 has the remainder of x^2 + x + 1
law8 : (r : ℕ) → r < 256 → up 8 0x107 refl 8 r ≡ bit_xor (bit_xor r (up 8 0x107 refl 1 r)) (up 8 0x107 refl 2 r)
unfolding divide bring
law8 r h = agree (λ r. up 8 0x107 refl 8 r) (λ r. bit_xor (bit_xor r (up 8 0x107 refl 1 r)) (up 8 0x107 refl 2 r)) 256 tt r h

-- x^16 has that of x^4 + x^2 + 1
law16 : (r : ℕ) → r < 256 → up 8 0x107 refl 16 r ≡ bit_xor (bit_xor r (up 8 0x107 refl 2 r)) (up 8 0x107 refl 4 r)
unfolding divide bring
law16 r h = agree (λ r. up 8 0x107 refl 16 r) (λ r. bit_xor (bit_xor r (up 8 0x107 refl 2 r)) (up 8 0x107 refl 4 r)) 256 tt r h

times-up : (v : ℕ) → v < 2 ^ 22 → by8 (times v) ≡ up 8 0x107 refl 8 (by8 v)
times-up v h =
    rem-xor 8 0x107 refl 24 (bit_xor v (v * 2)) (v * 4)
    ∙ ap₂ bit_xor
    (rem-xor 8 0x107 refl 24 v (v * 2) ∙ ap (bit_xor (by8 v)) (rem-up 8 0x107 refl 24 1 23 v refl (omega arith)))
    (rem-up 8 0x107 refl 24 2 22 v refl h)
    ∙ sym (law8 (by8 v) (rem_lt 8 0x107 refl 24 v))

square-up : (v : ℕ) → v < 2 ^ 20 → by8 (times_square v) ≡ up 8 0x107 refl 16 (by8 v)
square-up v h =
    rem-xor 8 0x107 refl 24 (bit_xor v (v * 4)) (v * 16)
    ∙ ap₂ bit_xor
    (rem-xor 8 0x107 refl 24 v (v * 4) ∙ ap (bit_xor (by8 v)) (rem-up 8 0x107 refl 24 2 22 v refl (omega arith)))
    (rem-up 8 0x107 refl 24 4 20 v refl h)
    ∙ sym (law16 (by8 v) (rem_lt 8 0x107 refl 24 v))

times-lt : (n v : ℕ) → v * 4 < 2 ^ n → times v < 2 ^ n
times-lt n v h = xor_lt n (bit_xor v (v * 2)) (v * 4) (xor_lt n v (v * 2) (omega arith) (omega arith)) h

square-lt : (n v : ℕ) → v * 16 < 2 ^ n → times_square v < 2 ^ n
square-lt n v h = xor_lt n (bit_xor v (v * 4)) (v * 16) (xor_lt n v (v * 4) (omega arith) (omega arith)) h

-- folded, a number has the remainder that it had
fold-keeps : (v : ℕ) → v < 2 ^ 24 → by8 (folded_octet v) ≡ by8 v
fold-keeps v h = swap 8 0x107 refl 24 8 16 v (times (v / 256)) refl (omega arith) (times-up (v / 256) (omega arith))

fold-lt : (n v : ℕ) → 2 ^ 8 ≤ 2 ^ n → v / 256 * 4 < 2 ^ n → folded_octet v < 2 ^ n
fold-lt n v hn h = xor_lt n (v % 256) (times (v / 256)) (lt_of_lt_of_le (mod-lt v (pow_pos 8)) hn) (times-lt n (v / 256) h)

-- the remainder of a number of n bits times x^8
shifted : (n : ℕ) (v : ℕ) → remainder 8 0x107 (bits n v) ≡ up 8 0x107 refl 8 (rem 8 0x107 refl n v)
unfolding remainder
shifted n v = divide-append 8 0x107 0 (bits n v) (replicate 8 0)

-- that of an octet: the octet times x^2 + x + 1, and the two bits that are then above the octet times x^2 + x + 1 again
pub octet-formula : (b : ℕ) → b < 256 → folded_octet (times b) ≡ remainder 8 0x107 (bits 8 b)
octet-formula b h =
    let l : times b < 2 ^ 10 = times-lt 10 b (omega arith) in
    sym (octet-own (folded_octet (times b)) (fold-lt 8 (times b) (lit≤ tt) (omega arith)))
    ∙ fold-keeps (times b) (omega arith)
    ∙ times-up b (omega arith)
    ∙ ap (up 8 0x107 refl 8) (rem-more 8 0x107 refl 16 8 b h)
    ∙ sym (shifted 8 b)

-- ---- what is above the octet in a product that was folded

-- a ^ m ^ m ^ b is a ^ b
between : (a m b : ℕ) → bit_xor (bit_xor a m) (bit_xor m b) ≡ bit_xor a b
between a m b = xor_assoc a m (bit_xor m b) ∙ ap (bit_xor a) (sym (xor_assoc m m b) ∙ ap (λ (z : ℕ). bit_xor z b) (xor_self m) ∙ xor_zero_l b)

same_sum : (a b t : ℕ) → bit_xor a t ≡ bit_xor b t → a ≡ b
same_sum a b t e = sym (twice a) ∙ ap (λ (z : ℕ). bit_xor z t) e ∙ twice b
  where
    twice : (x : ℕ) → bit_xor (bit_xor x t) t ≡ x
    twice x = xor_assoc x t t ∙ ap (bit_xor x) (xor_self t) ∙ xor_zero_r x

-- x^2 + x + 1 times itself
squared : (a b c d e : ℕ)
    → bit_xor (bit_xor (bit_xor (bit_xor a b) c) (bit_xor (bit_xor b c) d)) (bit_xor (bit_xor c d) e) ≡ bit_xor (bit_xor a c) e
squared a b c d e =
    ap₂ bit_xor (ap (λ (z : ℕ). bit_xor z (bit_xor (bit_xor b c) d)) (xor_assoc a b c) ∙ between a (bit_xor b c) d)
    (ap (λ (z : ℕ). bit_xor z e) (xor_comm c d) ∙ xor_assoc d c e)
    ∙ between a d (bit_xor c e)
    ∙ sym (xor_assoc a c e)

times-high : (v : ℕ) → times v / 256 ≡ bit_xor (bit_xor (v / 2 ^ 8) (v / 2 ^ 7)) (v / 2 ^ 6)
times-high v =
    xor_shr (bit_xor v (v * 2)) (v * 4) 8
    ∙ ap₂ bit_xor (xor_shr v (v * 2) 8 ∙ ap (bit_xor (v / 2 ^ 8)) (omega arith)) (omega arith)

square-high : (v : ℕ) → times_square v / 0x10000 ≡ bit_xor (bit_xor (v / 2 ^ 16) (v / 2 ^ 14)) (v / 2 ^ 12)
square-high v =
    xor_shr (bit_xor v (v * 4)) (v * 16) 16
    ∙ ap₂ bit_xor (xor_shr v (v * 4) 16 ∙ ap (bit_xor (v / 2 ^ 16)) (omega arith)) (omega arith)

high_twice : (v : ℕ) → times (times v / 256) / 256 ≡ times_square v / 0x10000
high_twice v =
    times-high (times v / 256) ∙ ap₂ bit_xor (ap₂ bit_xor (high 8) (high 7)) (high 6)
    ∙ squared (v / 2 ^ 16) (v / 2 ^ 15) (v / 2 ^ 14) (v / 2 ^ 13) (v / 2 ^ 12)
    ∙ sym (square-high v)
  where
    high : (n : ℕ) → times v / 256 / 2 ^ n ≡ bit_xor (bit_xor (v / 2 ^ (8 + n)) (v / 2 ^ (7 + n))) (v / 2 ^ (6 + n))
    high n =
        ap (λ (z : ℕ). z / 2 ^ n) (times-high v)
        ∙ xor_shr (bit_xor (v / 2 ^ 8) (v / 2 ^ 7)) (v / 2 ^ 6) n
        ∙ ap₂ bit_xor (xor_shr (v / 2 ^ 8) (v / 2 ^ 7) n ∙ ap₂ bit_xor (shr-shr v 8 n) (shr-shr v 7 n)) (shr-shr v 6 n)

-- an octet that is added is not among these bits
high-without : (v z : ℕ) → z < 256 → times_square (bit_xor v z) / 0x10000 ≡ times_square v / 0x10000
high-without v z h = square-high (bit_xor v z) ∙ ap₂ bit_xor (ap₂ bit_xor (without 16 (omega arith)) (without 14 (omega arith))) (without 12 (omega arith)) ∙ sym (square-high v)
  where
    without : (n : ℕ) → z < 2 ^ n → bit_xor v z / 2 ^ n ≡ v / 2 ^ n
    without n l = xor_shr v z n ∙ ap (bit_xor (v / 2 ^ n)) (div-eq_of_lt l) ∙ xor_zero_r (v / 2 ^ n)

-- ---- as the code computes it

above-lt : (v : ℕ) {p : ℕ} → v < 0x100000 → p ≡ times_square v → p / 0x10000 < 256
above-lt v h e = let l : times_square v < 2 ^ 24 = square-lt 24 v (omega arith) in omega arith

pub sum_lt : (v : ℕ) {p : ℕ} → v < 0x100000 → p ≡ times_square v → bit_xor v (p / 0x10000) < 0x100000
sum_lt v {p} h e = let l = above-lt v h e in xor_lt 20 v (p / 0x10000) h (omega arith)

pub product_lt : (v : ℕ) {p y : ℕ} → v < 0x100000 → p ≡ times_square v → y ≡ times (bit_xor v (p / 0x10000)) → y < 2 ^ 22
product_lt v {p} h e f = let l = sum_lt v h e in let m = times-lt 22 (bit_xor v (p / 0x10000)) (omega arith) in omega arith

-- z is above the octet in the folded product of v ^ z, so that the low eight are what is left of v
reduced : (v z : ℕ) → v < 2 ^ 20 → z < 256 → times_square v / 0x10000 ≡ z → folded_octet (times (bit_xor v z)) % 256 ≡ up 8 0x107 refl 8 (by8 v)
reduced v z hv hz e =
    let s : ℕ = bit_xor v z in
    let hs : s < 2 ^ 20 = xor_lt 20 v z hv (omega arith) in
    let y : ℕ = times s in
    let hy : y < 2 ^ 22 = times-lt 22 s (omega arith) in
    let f : ℕ = folded_octet y in
    let hf : f < 2 ^ 16 = fold-lt 16 y (lit≤ tt) (omega arith) in
    let hl : f % 256 < 256 = mod-lt f (pow_pos 8) in
    let above : f / 256 ≡ z =
    xor_shr (y % 256) (times (y / 256)) 8
    ∙ ap₂ bit_xor (div-eq_of_lt (mod-lt y (pow_pos 8))) (high_twice s ∙ high-without v z hz ∙ e)
    ∙ xor_zero_l z in
    same_sum (f % 256) (up 8 0x107 refl 8 (by8 v)) (by8 (times z))
    (sym
    (sym (fold-keeps f (omega arith))
    ∙ rem-xor 8 0x107 refl 24 (f % 256) (times (f / 256))
    ∙ ap₂ bit_xor (octet-own (f % 256) hl) (ap (λ (t : ℕ). by8 (times t)) above))
    ∙ fold-keeps y (omega arith)
    ∙ times-up s (omega arith)
    ∙ ap (up 8 0x107 refl 8) (rem-xor 8 0x107 refl 24 v z)
    ∙ up-xor 8 0x107 refl 8 (by8 v) (by8 z) (rem_lt 8 0x107 refl 24 v) (rem_lt 8 0x107 refl 24 z)
    ∙ ap (bit_xor (up 8 0x107 refl 8 (by8 v))) (sym (times-up z (omega arith))))

low-folded : (y : ℕ) → bit_xor y (times (y / 256)) % 256 ≡ folded_octet y % 256
low-folded y =
    xor_mod y (times (y / 256)) 8
    ∙ ap (λ (t : ℕ). bit_xor t (times (y / 256) % 256)) (sym (mod-mod y 256))
    ∙ sym (xor_mod (y % 256) (times (y / 256)) 8)

pub remainder8-is : (v : ℕ) {p y q : ℕ} → v < 0x100000 → p ≡ times_square v → y ≡ times (bit_xor v (p / 0x10000)) → q ≡ times (y / 256)
    → bit_xor y q % 256 ≡ remainder 8 0x107 (bits 20 v)
remainder8-is v {p} {y} {q} h e f g =
    ap (λ (t : ℕ). bit_xor y t % 256) g ∙ low-folded y
    ∙ ap (λ (t : ℕ). folded_octet t % 256) f
    ∙ reduced v (p / 0x10000) h (above-lt v h e) (ap (λ (t : ℕ). t / 0x10000) (sym e))
    ∙ ap (up 8 0x107 refl 8) (rem-more 8 0x107 refl 4 20 v h)
    ∙ sym (shifted 20 v)

-- ---- the header

pair-bits : (a b : ℕ) → b < 256 → octet_bits (a ∷ b ∷ []) ≡ bits 16 (a * 256 + b)
unfolding octet_bits bits
pair-bits a b h = sym (bits-append 8 8 a b h)

-- two octets have the place of x^16
pairs : (h l : ℕ) → h < 2 ^ 16 → l < 2 ^ 16 → divide 8 0x107 0 (bits 16 h ++ bits 16 l) ≡ by8 (bit_xor (times_square h) l)
pairs h l hh hl =
    divide-append 8 0x107 0 (bits 16 h) (bits 16 l)
    ∙ apart 8 0x107 refl 16 (rem 8 0x107 refl 16 h) l (rem_lt 8 0x107 refl 16 h)
    ∙ sym
    (rem-xor 8 0x107 refl 24 (times_square h) l
    ∙ ap₂ bit_xor (square-up h (omega arith) ∙ ap (up 8 0x107 refl 16) (rem-more 8 0x107 refl 8 16 h hh)) (rem-more 8 0x107 refl 8 16 l hl))

-- as the code adds them
joined : (s c d : ℕ) → d < 256 → bit_xor (bit_xor s (c * 256)) d ≡ bit_xor s (c * 256 + d)
joined s c d h = xor_assoc s (c * 256) d ∙ ap (bit_xor s) (xor_shifted c 8 d h)

pub sum-of-pairs-lt : (a b c d : ℕ) {p : ℕ} → a < 256 → b < 256 → c < 256 → d < 256 → p ≡ times_square (a * 256 + b)
    → bit_xor (bit_xor p (c * 256)) d < 0x100000
sum-of-pairs-lt a b c d {p} ha hb hc hd e =
    let l = square-lt 20 (a * 256 + b) (omega arith) in
    xor_lt 20 (bit_xor p (c * 256)) d (xor_lt 20 p (c * 256) (omega arith) (omega arith)) (omega arith)

four-octets : (a b c d : ℕ) → a < 256 → b < 256 → c < 256 → d < 256
    → divide 8 0x107 0 (octet_bits (a ∷ b ∷ c ∷ d ∷ [])) ≡ by8 (bit_xor (times_square (a * 256 + b)) (c * 256 + d))
four-octets a b c d ha hb hc hd =
    ap (divide 8 0x107 0)
    (octet_bits-append (a ∷ b ∷ []) (c ∷ d ∷ []) ∙ ap₂ (λ (s t : List ℕ). s ++ t) (pair-bits a b hb) (pair-bits c d hd))
    ∙ pairs (a * 256 + b) (c * 256 + d) (omega arith) (omega arith)

pub header_is : (a b c d : ℕ) {p r : ℕ} → a < 256 → b < 256 → c < 256 → d < 256 → p ≡ times_square (a * 256 + b)
    → r ≡ remainder 8 0x107 (bits 20 (bit_xor (bit_xor p (c * 256)) d)) → bit_xor r 0x55 ≡ header_check (a ∷ b ∷ c ∷ d ∷ [])
unfolding header_check remainder
header_is a b c d {p} {r} ha hb hc hd e f =
    let v : ℕ = bit_xor (bit_xor p (c * 256)) d in
    ap (λ (z : ℕ). bit_xor z 0x55)
    (f ∙ shifted 20 v
    ∙ ap (up 8 0x107 refl 8)
    (sym (rem-more 8 0x107 refl 4 20 v (sum-of-pairs-lt a b c d ha hb hc hd e))
    ∙ ap by8 (joined p c d hd ∙ ap (λ (z : ℕ). bit_xor z (c * 256 + d)) e)
    ∙ sym (four-octets a b c d ha hb hc hd))
    ∙ sym (divide-append 8 0x107 0 (octet_bits (a ∷ b ∷ c ∷ d ∷ [])) (replicate 8 0)))
