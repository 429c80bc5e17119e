-- Exclusive-or is associative, and what follows.
use mathlib.Core.Path.{◌≡◌, refl, sym, ap, ap₂, ◌∙◌}
use Prim.Native.Nat.{ℕ, zero, suc, ◌+◌, ◌*◌, ◌/◌, ◌%◌, ◌<◌}
use native.Mathlib.Nat.{le_of_suc-le-suc, not-suc-le-zero, mod-lt, zero-mul}
use lib.Arith.{bin_ind}
use lib.Bits.{bit_xor, differ, xor_step, xor_shr, xor_mod, xor_comm, xor_zero_r, xor_self}
use lib.Dec.{lit<}

pub none : {A : Type 0} {x : ℕ} → suc (suc x) < 2 → A
none h = absurd (not-suc-le-zero (le_of_suc-le-suc (le_of_suc-le-suc h)))

differ-assoc : (x y z : ℕ) → x < 2 → y < 2 → z < 2 → differ (differ x y) z ≡ differ x (differ y z)
differ-assoc zero y z hx hy hz = refl
differ-assoc (suc zero) zero z hx hy hz = refl
differ-assoc (suc zero) (suc zero) zero hx hy hz = refl
differ-assoc (suc zero) (suc zero) (suc zero) hx hy hz = refl
differ-assoc (suc zero) (suc zero) (suc (suc z)) hx hy hz = none hz
differ-assoc (suc zero) (suc (suc y)) z hx hy hz = none hy
differ-assoc (suc (suc x)) y z hx hy hz = none hx

differ-xor : (x y : ℕ) → x < 2 → y < 2 → bit_xor x y ≡ differ x y
differ-xor zero y hx hy = refl
differ-xor (suc zero) zero hx hy = refl
differ-xor (suc zero) (suc zero) hx hy = refl
differ-xor (suc zero) (suc (suc y)) hx hy = none hy
differ-xor (suc (suc x)) y hx hy = none hx

-- the lowest digit of an exclusive-or
low_digit : (a b : ℕ) → bit_xor a b % 2 ≡ differ (a % 2) (b % 2)
low_digit a b = xor_mod a b 1 ∙ differ-xor (a % 2) (b % 2) (mod-lt a (lit< tt)) (mod-lt b (lit< tt))

pub xor_assoc : (a b c : ℕ) → bit_xor (bit_xor a b) c ≡ bit_xor a (bit_xor b c)
xor_assoc =
    bin_ind (λ (a : ℕ). (b c : ℕ) → bit_xor (bit_xor a b) c ≡ bit_xor a (bit_xor b c)) (λ b c. refl)
    (λ a ih b c.
    xor_step (bit_xor a b) c
    ∙ ap₂ (λ (x y : ℕ). bit_xor x (c / 2) * 2 + differ y (c % 2)) (xor_shr a b 1) (low_digit a b)
    ∙ ap₂ (λ (x y : ℕ). x * 2 + y) (ih (b / 2) (c / 2)) (differ-assoc (a % 2) (b % 2) (c % 2) (mod-lt a (lit< tt)) (mod-lt b (lit< tt)) (mod-lt c (lit< tt)))
    ∙ sym (ap₂ (λ (x y : ℕ). bit_xor (a / 2) x * 2 + differ (a % 2) y) (xor_shr b c 1) (low_digit b c))
    ∙ sym (xor_step a (bit_xor b c)))

-- (a ^ b) ^ (c ^ d) is (a ^ c) ^ (b ^ d)
pub xor4 : (a b c d : ℕ) → bit_xor (bit_xor a b) (bit_xor c d) ≡ bit_xor (bit_xor a c) (bit_xor b d)
xor4 a b c d =
    xor_assoc a b (bit_xor c d)
    ∙ ap (bit_xor a) (sym (xor_assoc b c d) ∙ ap (λ (x : ℕ). bit_xor x d) (xor_comm b c) ∙ xor_assoc c b d)
    ∙ sym (xor_assoc a c (bit_xor b d))

-- a digit times g
pub digit-mul : (p q g : ℕ) → p < 2 → q < 2 → bit_xor p q * g ≡ bit_xor (p * g) (q * g)
digit-mul zero q g hp hq = sym (ap (λ (x : ℕ). bit_xor x (q * g)) (zero-mul g))
digit-mul (suc zero) zero g hp hq = sym (ap (bit_xor (1 * g)) (zero-mul g) ∙ xor_zero_r (1 * g))
digit-mul (suc zero) (suc zero) g hp hq = zero-mul g ∙ sym (xor_self (1 * g))
digit-mul (suc zero) (suc (suc q)) g hp hq = none hq
digit-mul (suc (suc p)) q g hp hq = none hp
