-- The remainder is what remains. A multiple of the generator plus it is the polynomial
-- times x ^ w, and it is below x ^ w.
use mathlib.Core.Path.{◌≡◌, refl, sym, ap, ap₂, ◌∙◌, subst}
use mathlib.Core.List.{List, [], ◌∷◌, ◌++◌}
use Prim.Native.Nat.{ℕ, zero, suc, ◌+◌, ◌*◌, ◌/◌, ◌^◌, ◌<◌}
use native.Mathlib.Nat.{add_assoc, add-mul, add-zero, mul_assoc, mul_comm, mul-one, pow-suc, zero-add, zero-mul}
use lib.Arith.{digits_lt}
use lib.Bits.{bit_xor, xor_block, xor_comm, xor_self, xor_zero_r}
use lib.Dec.{lit<}
use lib.ListN.{length, replicate, take, length-append, length-replicate}
use lib.Pow.{pow_pos, pow-add}
use Rattle.cell_crc.specs.Remainder.{bring, divide, remainder, octet_bits}
use Rattle.cell_crc.specs.Checks.{header_check, payload_check}
use Rattle.cell_crc.specs.Multiple.{Binary, Remains, bits_number, product}
use Rattle.cell_crc.proofs.Xor.{xor_assoc}
use Rattle.cell_crc.proofs.Bits.{append-binary, octets-binary, take-binary, zeros-binary}
use Rattle.cell_crc.proofs.Division.{bring-lt, digit_lt, remainder-lt}

number_lt : (bs : List ℕ) → Binary bs → bits_number bs < 2 ^ length bs
unfolding bits_number
number_lt [] h = lit< tt
number_lt (b ∷ bs) h =
    subst (λ (z : ℕ). b * 2 ^ length bs + bits_number bs < z) (mul_comm 2 (2 ^ length bs) ∙ sym (pow-suc 2 (length bs))) (digits_lt h.0 (number_lt bs h.1))

number-zeros : (bs : List ℕ) (n : ℕ) → bits_number (bs ++ replicate n 0) ≡ bits_number bs * 2 ^ n
unfolding bits_number
number-zeros [] zero = refl
number-zeros [] (suc n) =
    ap (λ (z : ℕ). z + bits_number (replicate n 0)) (zero-mul (2 ^ length (replicate n 0))) ∙ zero-add (bits_number (replicate n 0)) ∙ number-zeros [] n
    ∙ zero-mul (2 ^ n) ∙ sym (zero-mul (2 ^ suc n))
number-zeros (b ∷ bs) n =
    ap₂ (λ (k m : ℕ). b * 2 ^ k + m) (length-append bs (replicate n 0) ∙ ap (λ (k : ℕ). length bs + k) (length-replicate n 0)) (number-zeros bs n)
    ∙ ap (λ (z : ℕ). b * z + bits_number bs * 2 ^ n) (pow-add 2 (length bs) n)
    ∙ ap (λ (z : ℕ). z + bits_number bs * 2 ^ n) (sym (mul_assoc b (2 ^ length bs) (2 ^ n)))
    ∙ sym (add-mul (b * 2 ^ length bs) (bits_number bs) (2 ^ n))

-- the digits of the quotient
abbrev quotients : (w g r : ℕ) → List ℕ → List ℕ
quotients w g r [] = []
quotients w g r (b ∷ bs) = (r * 2 + b) / 2 ^ w ∷ quotients w g (bring w g r b) bs

length-quotients : (w g r : ℕ) (bs : List ℕ) → length (quotients w g r bs) ≡ length bs
length-quotients w g r [] = refl
length-quotients w g r (b ∷ bs) = ap suc (length-quotients w g (bring w g r b) bs)

-- n bits below do not meet what goes up by n
raised : (x y n m : ℕ) → m < 2 ^ n → bit_xor x y * 2 ^ n + m ≡ bit_xor (x * 2 ^ n) (y * 2 ^ n + m)
raised x y n m h = sym (xor_block n x y 0 m (pow_pos n) h) ∙ ap (λ (z : ℕ). bit_xor z (y * 2 ^ n + m)) (add-zero (x * 2 ^ n))

divided : (w g r : ℕ) (bs : List ℕ) → Binary bs → r * 2 ^ length bs + bits_number bs ≡ bit_xor (product (quotients w g r bs) g) (divide w g r bs)
unfolding bits_number product divide bring
divided w g r [] h = add-zero (r * 1) ∙ mul-one r
divided w g r (b ∷ bs) h =
    let n : ℕ = length bs in
    let v : ℕ = r * 2 + b in
    let t : ℕ = v / 2 ^ w * g in
    let s : ℕ = bring w g r b in
    let qs : List ℕ = quotients w g s bs in
    let back : v ≡ bit_xor t s =
    sym (xor_zero_r v) ∙ ap (bit_xor v) (sym (xor_self t)) ∙ sym (xor_assoc v t t) ∙ xor_comm s t in
    ap (λ (z : ℕ). r * z + (b * 2 ^ n + bits_number bs)) (pow-suc 2 n ∙ mul_comm (2 ^ n) 2)
    ∙ sym (add_assoc (r * (2 * 2 ^ n)) (b * 2 ^ n) (bits_number bs))
    ∙ ap (λ (z : ℕ). z + b * 2 ^ n + bits_number bs) (sym (mul_assoc r 2 (2 ^ n)))
    ∙ ap (λ (z : ℕ). z + bits_number bs) (sym (add-mul (r * 2) b (2 ^ n)))
    ∙ ap (λ (z : ℕ). z * 2 ^ n + bits_number bs) back
    ∙ raised t s n (bits_number bs) (number_lt bs h.1)
    ∙ ap₂ (λ (k z : ℕ). bit_xor (t * 2 ^ k) z) (sym (length-quotients w g s bs)) (divided w g s bs h.1)
    ∙ sym (xor_assoc (t * 2 ^ length qs) (product qs g) (divide w g s bs))

module _ (w g : ℕ) (degree : g / 2 ^ w ≡ 1) where
  quotients-binary : (r : ℕ) (bs : List ℕ) → r < 2 ^ w → Binary bs → Binary (quotients w g r bs)
  quotients-binary r [] hr hb = tt
  quotients-binary r (b ∷ bs) hr hb =
      (digit_lt w g degree r b hr hb.0, quotients-binary (bring w g r b) bs (bring-lt w g degree r b hr hb.0) hb.1)

  pub remains : (bs : List ℕ) → Binary bs → Remains w g bs (remainder w g bs)
  unfolding remainder
  remains bs h =
      let zs : List ℕ = bs ++ replicate w 0 in
      let hz : Binary zs = append-binary bs (replicate w 0) h (zeros-binary w) in
      record {
        quotient = quotients w g 0 zs;
        digits = quotients-binary 0 zs (pow_pos w) hz;
        whole =
            sym (number-zeros bs w) ∙ sym (ap (λ (z : ℕ). z + bits_number zs) (zero-mul (2 ^ length zs)) ∙ zero-add (bits_number zs)) ∙ divided w g 0 zs hz;
        small = remainder-lt w g degree bs h;
      }

-- so the CRC-10 is what remains of the first 374 bits, and octet 5 that of the four octets before it, plus 0x55
pub payload-remains : (p : List ℕ) → Remains 10 0x633 (take 374 (octet_bits p)) (payload_check p)
unfolding payload_check
payload-remains p = remains 10 0x633 refl (take 374 (octet_bits p)) (take-binary 374 (octet_bits p) (octets-binary p))

pub header-remains : (four : List ℕ) → Remains 8 0x107 (octet_bits four) (bit_xor (header_check four) 0x55)
unfolding header_check
header-remains four =
    let r : ℕ = remainder 8 0x107 (octet_bits four) in
    subst (Remains 8 0x107 (octet_bits four)) (sym (xor_assoc r 0x55 0x55 ∙ xor_zero_r r)) (remains 8 0x107 refl (octet_bits four) (octets-binary four))
