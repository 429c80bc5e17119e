-- Long division: its remainders are below x ^ w, and it is linear.
use mathlib.Core.Path.{◌≡◌, refl, sym, ap, ap₂, ◌∙◌, subst}
use mathlib.Core.List.{List, [], ◌∷◌, ◌++◌}
use Prim.Native.Nat.{ℕ, zero, suc, ◌+◌, ◌*◌, ◌/◌, ◌%◌, ◌^◌, ◌<◌}
use native.Mathlib.Nat.{add_assoc, add-mul, add-zero, div-eq_of_lt, div-lt_iff_lt-mul, le-add_right, le-mul_of_pos_right, lt_of_le_of_lt, mod-one, mul_assoc, mul_comm, mul-one, one-mul, pow-suc, zero-div, zero-mul}
use native.Mathlib.Numerals.{one-add}
use native.Mathlib.Omega.{arith}
use lib.Arith.{digits_lt}
use lib.Bits.{bit_xor, xor_shr, xor_block, xor_zero_r}
use lib.Dec.{lit<}
use lib.ListN.{length, replicate, length-append}
use lib.Pow.{pow_pos, mod-pow-add}
use Rattle.cell_crc.specs.Remainder.{bring, divide, remainder, bits}
use Rattle.cell_crc.specs.Multiple.{Binary, sum}
use Rattle.cell_crc.proofs.Xor.{xor4, digit-mul, none}
use Rattle.cell_crc.proofs.Bits.{append-binary, bits-sum, bits-zero, sum-append, zeros-binary}

pub divide-append : (w g r : ℕ) (xs ys : List ℕ) → divide w g r (xs ++ ys) ≡ divide w g (divide w g r xs) ys
unfolding divide
divide-append w g r [] ys = refl
divide-append w g r (x ∷ xs) ys = divide-append w g (bring w g r x) xs ys

module _ (w g : ℕ) (degree : g / 2 ^ w ≡ 1) where
  -- the quotient's digit
  pub digit_lt : (r b : ℕ) → r < 2 ^ w → b < 2 → (r * 2 + b) / 2 ^ w < 2
  digit_lt r b hr hb = (div-lt_iff_lt-mul (pow_pos w)).1 (subst (λ (x : ℕ). r * 2 + b < x) (mul_comm (2 ^ w) 2) (digits_lt hr hb))

  cancels : (t : ℕ) → t < 2 → bit_xor t (t * g / 2 ^ w) ≡ 0
  cancels zero h = ap (λ (x : ℕ). x / 2 ^ w) (zero-mul g) ∙ zero-div (2 ^ w)
  cancels (suc zero) h = ap (λ (x : ℕ). bit_xor 1 (x / 2 ^ w)) (one-mul g) ∙ ap (bit_xor 1) degree
  cancels (suc (suc t)) h = none h

  pub bring-lt : (r b : ℕ) → r < 2 ^ w → b < 2 → bring w g r b < 2 ^ w
  unfolding bring
  bring-lt r b hr hb =
      subst (λ (x : ℕ). bring w g r b < x) (one-mul (2 ^ w))
      ((div-lt_iff_lt-mul (pow_pos w)).0
      (subst (λ (x : ℕ). x < 1) (sym (xor_shr (r * 2 + b) ((r * 2 + b) / 2 ^ w * g) w ∙ cancels ((r * 2 + b) / 2 ^ w) (digit_lt r b hr hb))) (lit< tt)))

  bring-xor : (r s b c : ℕ) → r < 2 ^ w → s < 2 ^ w → b < 2 → c < 2
      → bring w g (bit_xor r s) (bit_xor b c) ≡ bit_xor (bring w g r b) (bring w g s c)
  unfolding bring
  bring-xor r s b c hr hs hb hc =
      ap (λ (v : ℕ). bit_xor v (v / 2 ^ w * g)) (sym (xor_block 1 r s b c hb hc))
      ∙ ap (λ (t : ℕ). bit_xor (bit_xor (r * 2 + b) (s * 2 + c)) (t * g)) (xor_shr (r * 2 + b) (s * 2 + c) w)
      ∙ ap (bit_xor (bit_xor (r * 2 + b) (s * 2 + c))) (digit-mul ((r * 2 + b) / 2 ^ w) ((s * 2 + c) / 2 ^ w) g (digit_lt r b hr hb) (digit_lt s c hs hc))
      ∙ xor4 (r * 2 + b) (s * 2 + c) ((r * 2 + b) / 2 ^ w * g) ((s * 2 + c) / 2 ^ w * g)

  -- below x ^ w nothing is taken away
  bring-low : (r b : ℕ) → r * 2 + b < 2 ^ w → bring w g r b ≡ r * 2 + b
  unfolding bring
  bring-low r b h =
      ap (λ (t : ℕ). bit_xor (r * 2 + b) (t * g)) (div-eq_of_lt h) ∙ ap (bit_xor (r * 2 + b)) (zero-mul g) ∙ xor_zero_r (r * 2 + b)

  pub divide-lt : (r : ℕ) (bs : List ℕ) → r < 2 ^ w → Binary bs → divide w g r bs < 2 ^ w
  unfolding divide
  divide-lt r [] hr hb = hr
  divide-lt r (b ∷ bs) hr hb = divide-lt (bring w g r b) bs (bring-lt r b hr hb.0) hb.1

  -- linear in what it starts from and in the bits brought down
  pub divide-sum : (r s : ℕ) (xs ys : List ℕ) → r < 2 ^ w → s < 2 ^ w → Binary xs → Binary ys → length xs ≡ length ys
      → divide w g (bit_xor r s) (sum xs ys) ≡ bit_xor (divide w g r xs) (divide w g s ys)
  unfolding divide sum
  divide-sum r s [] [] hr hs hx hy e = refl
  divide-sum r s [] (y ∷ ys) hr hs hx hy e = let z : ◌≡◌ {A = ℕ} 0 1 = cc in absurd (omega arith)
  divide-sum r s (x ∷ xs) [] hr hs hx hy e = let z : ◌≡◌ {A = ℕ} 0 1 = cc in absurd (omega arith)
  divide-sum r s (x ∷ xs) (y ∷ ys) hr hs hx hy e =
      ap (λ (z : ℕ). divide w g z (sum xs ys)) (bring-xor r s x y hr hs hx.0 hy.0)
      ∙ divide-sum (bring w g r x) (bring w g s y) xs ys (bring-lt r x hr hx.0) (bring-lt s y hs hy.0) hx.1 hy.1 (cc)

  -- a polynomial whose degree stays below w is its own remainder
  pub divide-low : (n r x : ℕ) → r * 2 ^ n + x % 2 ^ n < 2 ^ w → divide w g r (bits n x) ≡ r * 2 ^ n + x % 2 ^ n
  unfolding divide bits
  divide-low zero r x h = sym (ap₂ (λ (a b : ℕ). a + b) (mul-one r) (mod-one x) ∙ add-zero r)
  divide-low (suc n) r x h =
      let b : ℕ = x / 2 ^ n % 2 in
      let e : r * 2 ^ suc n + x % 2 ^ suc n ≡ (r * 2 + b) * 2 ^ n + x % 2 ^ n =
      ap₂ (λ (p q : ℕ). r * p + q) (pow-suc 2 n ∙ mul_comm (2 ^ n) 2) (ap (λ (m : ℕ). x % 2 ^ m) (sym (one-add n)) ∙ mod-pow-add x 1 n)
      ∙ sym (add_assoc (r * (2 * 2 ^ n)) (b * 2 ^ n) (x % 2 ^ n))
      ∙ ap (λ (p : ℕ). p + b * 2 ^ n + x % 2 ^ n) (sym (mul_assoc r 2 (2 ^ n)))
      ∙ ap (λ (p : ℕ). p + x % 2 ^ n) (sym (add-mul (r * 2) b (2 ^ n))) in
      let l : (r * 2 + b) * 2 ^ n + x % 2 ^ n < 2 ^ w = subst (λ (y : ℕ). y < 2 ^ w) e h in
      let m : r * 2 + b < 2 ^ w = lt_of_le_of_lt (le-mul_of_pos_right (r * 2 + b) (pow_pos n)) (lt_of_le_of_lt (le-add_right ((r * 2 + b) * 2 ^ n) (x % 2 ^ n)) l) in
      ap (λ (z : ℕ). divide w g z (bits n x)) (bring-low r b m) ∙ divide-low n (r * 2 + b) x l ∙ sym e

  pub remainder-lt : (bs : List ℕ) → Binary bs → remainder w g bs < 2 ^ w
  unfolding remainder
  remainder-lt bs h = divide-lt 0 (bs ++ replicate w 0) (pow_pos w) (append-binary bs (replicate w 0) h (zeros-binary w))

  -- the remainder of a sum is the sum of the remainders
  pub remainder-sum : (xs ys : List ℕ) → Binary xs → Binary ys → length xs ≡ length ys
      → remainder w g (sum xs ys) ≡ bit_xor (remainder w g xs) (remainder w g ys)
  unfolding remainder
  remainder-sum xs ys hx hy e =
      let zs : List ℕ = replicate w 0 in
      let same : sum xs ys ++ zs ≡ sum (xs ++ zs) (ys ++ zs) =
      ap (λ (l : List ℕ). sum xs ys ++ l) (sym (bits-zero w) ∙ bits-sum w 0 0 ∙ ap₂ sum (bits-zero w) (bits-zero w)) ∙ sym (sum-append xs ys zs zs e) in
      ap (divide w g 0) same
      ∙ divide-sum 0 0 (xs ++ zs) (ys ++ zs) (pow_pos w) (pow_pos w) (append-binary xs zs hx (zeros-binary w)) (append-binary ys zs hy (zeros-binary w))
      (length-append xs zs ∙ ap (λ (n : ℕ). n + length zs) e ∙ sym (length-append ys zs))
