-- Folding: where x ^ a has the remainder of x ^ b + 1, the bits of a number from a on may be added to it at b and at 0.
use mathlib.Core.Path.{◌≡◌, sym, ap, ap₂, ◌∙◌}
use mathlib.Core.List.{List}
use Prim.Native.Nat.{ℕ, ◌+◌, ◌*◌, ◌/◌, ◌%◌, ◌^◌, ◌<◌, ◌≤◌}
use native.Mathlib.Nat.{add_comm, add-zero, le-add_right, le_trans, lt_of_lt_of_le, mod-lt, zero-add, zero-mul}
use lib.Bits.{bit_xor, xor_comm, xor_lt, xor_self, xor_zero_l, xor_zero_r}
use lib.ListN.{replicate, replicate-append-replicate}
use lib.Pow.{pow_mono, pow_pos, shl_lt, shr_lt, split}
use Rattle.cell_crc.specs.Remainder.{divide, bits}
use Rattle.cell_crc.proofs.Xor.{xor_assoc}
use Rattle.cell_crc.proofs.Bits.{bits-append, bits-binary, bits-sum, bits-zero, length-bits, zeros-binary}
use Rattle.cell_crc.proofs.Division.{divide-append, divide-lt, divide-sum}

-- the bits of x from that of weight 2 ^ i on, added to those below it at 0 and at j
unfoldable pub folded : (i j x : ℕ) → ℕ
folded i j x = bit_xor (x % 2 ^ i) (bit_xor (x / 2 ^ i) (x / 2 ^ i * 2 ^ j))

pub folded-lt : (i j k n x : ℕ) → x < 2 ^ (k + i) → i ≤ n → k + j ≤ n → folded i j x < 2 ^ n
unfolding folded
folded-lt i j k n x hx hi hj =
    let h : ℕ = x / 2 ^ i in
    let hh : h < 2 ^ k = shr_lt k i hx in
    xor_lt n (x % 2 ^ i) (bit_xor h (h * 2 ^ j)) (lt_of_lt_of_le (mod-lt x (pow_pos i)) (pow_mono hi))
    (xor_lt n h (h * 2 ^ j) (lt_of_lt_of_le hh (pow_mono (le_trans (le-add_right k j) hj))) (lt_of_lt_of_le (shl_lt k j hh) (pow_mono hj)))

module _ (w g : ℕ) (degree : g / 2 ^ w ≡ 1) where
  -- the remainder of a number of n bits
  abbrev pub rem : ℕ → ℕ → ℕ
  rem n x = divide w g 0 (bits n x)

  -- the remainder of r times x ^ n
  abbrev pub up : ℕ → ℕ → ℕ
  up n r = divide w g r (replicate n 0)

  pub rem_lt : (n x : ℕ) → rem n x < 2 ^ w
  rem_lt n x = divide-lt w g degree 0 (bits n x) (pow_pos w) (bits-binary n x)

  pub up_lt : (n r : ℕ) → r < 2 ^ w → up n r < 2 ^ w
  up_lt n r h = divide-lt w g degree r (replicate n 0) h (zeros-binary n)

  divide-xor : (n r s x y : ℕ) → r < 2 ^ w → s < 2 ^ w
      → divide w g (bit_xor r s) (bits n (bit_xor x y)) ≡ bit_xor (divide w g r (bits n x)) (divide w g s (bits n y))
  divide-xor n r s x y hr hs =
      ap (divide w g (bit_xor r s)) (bits-sum n x y)
      ∙ divide-sum w g degree r s (bits n x) (bits n y) hr hs (bits-binary n x) (bits-binary n y) (length-bits n x ∙ sym (length-bits n y))

  pub rem-xor : (n x y : ℕ) → rem n (bit_xor x y) ≡ bit_xor (rem n x) (rem n y)
  rem-xor n x y = divide-xor n 0 0 x y (pow_pos w) (pow_pos w)

  pub up-xor : (n r s : ℕ) → r < 2 ^ w → s < 2 ^ w → up n (bit_xor r s) ≡ bit_xor (up n r) (up n s)
  up-xor n r s hr hs =
      ap (divide w g (bit_xor r s)) (sym (bits-zero n)) ∙ divide-xor n r s 0 0 hr hs
      ∙ ap₂ (λ (k l : List ℕ). bit_xor (divide w g r k) (divide w g s l)) (bits-zero n) (bits-zero n)

  -- bits brought down, apart from what they are brought down to
  pub apart : (n r x : ℕ) → r < 2 ^ w → divide w g r (bits n x) ≡ bit_xor (up n r) (rem n x)
  apart n r x h =
      ap (λ (z : ℕ). divide w g z (bits n x)) (sym (xor_zero_r r)) ∙ divide-xor n r 0 0 x h (pow_pos w)
      ∙ ap (λ (l : List ℕ). bit_xor (divide w g r l) (rem n x)) (bits-zero n)

  pub rem-append : (m n x y : ℕ) → y < 2 ^ n → rem (m + n) (x * 2 ^ n + y) ≡ divide w g (rem m x) (bits n y)
  rem-append m n x y h = ap (divide w g 0) (bits-append m n x y h) ∙ divide-append w g 0 (bits m x) (bits n y)

  up-zero : (n : ℕ) → up n 0 ≡ 0
  up-zero n = up-xor n 0 0 (pow_pos w) (pow_pos w) ∙ xor_self (up n 0)

  -- zeros in front change nothing
  pub rem-more : (m n y : ℕ) → y < 2 ^ n → rem (m + n) y ≡ rem n y
  rem-more m n y h =
      ap (rem (m + n)) (sym (zero-add y) ∙ ap (λ (z : ℕ). z + y) (sym (zero-mul (2 ^ n))))
      ∙ rem-append m n 0 y h
      ∙ ap (λ (r : ℕ). divide w g r (bits n y)) (ap (divide w g 0) (bits-zero m) ∙ up-zero m)

  -- nor does the number of bits that hold it
  rem_wide : (n b q h : ℕ) → q + b ≡ n → h < 2 ^ q → rem q h ≡ rem n h
  rem_wide n b q h e hq = sym (rem-more b q h hq) ∙ ap (λ (m : ℕ). rem m h) (add_comm b q ∙ e)

  -- a number b places up
  pub rem-up : (n b q h : ℕ) → q + b ≡ n → h < 2 ^ q → rem n (h * 2 ^ b) ≡ up b (rem n h)
  rem-up n b q h e hq =
      ap₂ rem (sym e) (sym (add-zero (h * 2 ^ b))) ∙ rem-append q b h 0 (pow_pos b) ∙ ap₂ (divide w g) (rem_wide n b q h e hq) (bits-zero b)

  -- the bits from a on may give way to a z that has their remainder
  pub swap : (n a p x z : ℕ) → p + a ≡ n → x / 2 ^ a < 2 ^ p → rem n z ≡ up a (rem n (x / 2 ^ a)) → rem n (bit_xor (x % 2 ^ a) z) ≡ rem n x
  swap n a p x z e hp h =
      let l : ℕ = x % 2 ^ a in
      let r : ℕ = rem p (x / 2 ^ a) in
      let hl : l < 2 ^ a = mod-lt x (pow_pos a) in
      rem-xor n l z
      ∙ ap₂ bit_xor (ap (λ (m : ℕ). rem m l) (sym e) ∙ rem-more p a l hl) (h ∙ ap (up a) (sym (rem_wide n a p (x / 2 ^ a) e hp)))
      ∙ xor_comm (rem a l) (up a r)
      ∙ sym (ap₂ rem (sym e) (sym (split x a)) ∙ rem-append p a (x / 2 ^ a) l hl ∙ apart a r l (rem_lt p (x / 2 ^ a)))

  -- x ^ a has the remainder of x ^ b + 1
  abbrev pub Law : ℕ → ℕ → Type 0
  Law a b = (r : ℕ) → r < 2 ^ w → up a r ≡ bit_xor (up b r) r

  -- the bits from a on, of a number of k + a bits
  pub fold : (n a b p q k x : ℕ) → p + a ≡ n → q + b ≡ n → k ≤ p → k ≤ q → x < 2 ^ (k + a) → Law a b → rem n (folded a b x) ≡ rem n x
  unfolding folded
  fold n a b p q k x ea eb kp kq hx law =
      let h : ℕ = x / 2 ^ a in
      let hk : h < 2 ^ k = shr_lt k a hx in
      let r : ℕ = rem n h in
      swap n a p x (bit_xor h (h * 2 ^ b)) ea (lt_of_lt_of_le hk (pow_mono kp))
      (rem-xor n h (h * 2 ^ b)
      ∙ ap (bit_xor r) (rem-up n b q h eb (lt_of_lt_of_le hk (pow_mono kq)))
      ∙ xor_comm r (up b r)
      ∙ sym (law r (rem_lt n h)))

  up_up : (m n r : ℕ) → up n (up m r) ≡ up (m + n) r
  up_up m n r = sym (divide-append w g r (replicate m 0) (replicate n 0)) ∙ ap (divide w g r) (replicate-append-replicate m n 0)

  -- the square of a law
  pub square : (a b : ℕ) → Law a b → Law (a + a) (b + b)
  square a b law r h =
      let s : ℕ = up b r in
      let hs : s < 2 ^ w = up_lt b r h in
      sym (up_up a a r)
      ∙ law (up a r) (up_lt a r h)
      ∙ ap (λ (z : ℕ). bit_xor (up b z) z) (law r h)
      ∙ ap (λ (z : ℕ). bit_xor z (bit_xor s r)) (up-xor b s r hs h)
      ∙ xor_assoc (up b s) s (bit_xor s r)
      ∙ ap₂ bit_xor (up_up b b r) (sym (xor_assoc s s r) ∙ ap (λ (z : ℕ). bit_xor z r) (xor_self s) ∙ xor_zero_l r)
