-- Six words are folded word by word.
use mathlib.Core.Path.{◌≡◌, refl, sym, ap, ap₂, ◌∙◌, subst}
use Prim.Native.Nat.{ℕ, ◌+◌, ◌*◌, ◌/◌, ◌%◌, ◌^◌, ◌<◌, ◌≤◌}
use native.Mathlib.Omega.{arith}
use native.Mathlib.Nat.{add_assoc, add_comm, add-mul, add-zero, le-add_left, le-add_right, lt_of_le_of_lt, lt_of_lt_of_le, lt_of_mul-lt-mul_right, mod-le, mod-lt, mul_assoc, mul_right_comm, zero-add}
use lib.Arith.{digits_lt}
use lib.Bits.{bit_xor, xor_block, xor_lt, xor_zero_r}
use lib.Dec.{lit<, lit≤}
use lib.Pow.{high, low, pow-add, pow_mono, pow_pos, shr_le, shr_lt, split}
use Rattle.cell_crc.specs.Folding.{limbs}
use Rattle.cell_crc.proofs.Fold.{folded}

-- six words, each below 2 ^ 64
abbrev pub Six : (a b c d e f : ℕ) → Type 0
Six a b c d e f = (a < 2 ^ 64) × (b < 2 ^ 64) × (c < 2 ^ 64) × (d < 2 ^ 64) × (e < 2 ^ 64) × (f < 2 ^ 64)

pub limbs-xor : (a b c d e f u v w x y z : ℕ) → Six a b c d e f → Six u v w x y z
    → bit_xor (limbs a b c d e f) (limbs u v w x y z) ≡ limbs (bit_xor a u) (bit_xor b v) (bit_xor c w) (bit_xor d x) (bit_xor e y) (bit_xor f z)
limbs-xor a b c d e f u v w x y z h k =
    xor_block 64 ((((a * 2 ^ 64 + b) * 2 ^ 64 + c) * 2 ^ 64 + d) * 2 ^ 64 + e) ((((u * 2 ^ 64 + v) * 2 ^ 64 + w) * 2 ^ 64 + x) * 2 ^ 64 + y) f z h.5 k.5
    ∙ ap (λ (n : ℕ). n * 2 ^ 64 + bit_xor f z)
    (xor_block 64 (((a * 2 ^ 64 + b) * 2 ^ 64 + c) * 2 ^ 64 + d) (((u * 2 ^ 64 + v) * 2 ^ 64 + w) * 2 ^ 64 + x) e y h.4 k.4
    ∙ ap (λ (n : ℕ). n * 2 ^ 64 + bit_xor e y)
    (xor_block 64 ((a * 2 ^ 64 + b) * 2 ^ 64 + c) ((u * 2 ^ 64 + v) * 2 ^ 64 + w) d x h.3 k.3
    ∙ ap (λ (n : ℕ). n * 2 ^ 64 + bit_xor d x)
    (xor_block 64 (a * 2 ^ 64 + b) (u * 2 ^ 64 + v) c w h.2 k.2
    ∙ ap (λ (n : ℕ). n * 2 ^ 64 + bit_xor c w) (xor_block 64 a u b v h.1 k.1))))

-- a number in two parts is folded
parts : (i j x h l k : ℕ) → x ≡ h * 2 ^ i + l → l < 2 ^ i → h * 2 ^ j ≡ k → folded i j x ≡ bit_xor l (bit_xor h k)
unfolding folded
parts i j x h l k e hl up =
    ap (folded i j) e ∙ ap₂ (λ (y z : ℕ). bit_xor y (bit_xor z (z * 2 ^ j))) (low h i hl) (high h i hl) ∙ ap (λ (z : ℕ). bit_xor l (bit_xor h z)) up

-- a word more below a number in two parts
step : (h l c i : ℕ) → (h * 2 ^ i + l) * 2 ^ 64 + c ≡ h * 2 ^ (i + 64) + (l * 2 ^ 64 + c)
step h l c i =
    ap (λ (z : ℕ). z + c) (add-mul (h * 2 ^ i) l (2 ^ 64) ∙ ap (λ (z : ℕ). z + l * 2 ^ 64) (mul_assoc h (2 ^ i) (2 ^ 64) ∙ ap (λ (z : ℕ). h * z) (sym (pow-add 2 i 64))))
    ∙ add_assoc (h * 2 ^ (i + 64)) (l * 2 ^ 64) c

step-lt : {l c : ℕ} (i : ℕ) → l < 2 ^ i → c < 2 ^ 64 → l * 2 ^ 64 + c < 2 ^ (i + 64)
step-lt {l} {c} i hl hc = subst (λ (z : ℕ). l * 2 ^ 64 + c < z) (sym (pow-add 2 i 64)) (digits_lt hl hc)

-- one more word below a number in two parts: the higher part takes in the word's high bits
carry : (i j y r x d : ℕ) → j + i ≡ 64 → x ≡ y * 2 ^ i + r → x * 2 ^ 64 + d ≡ (y * 2 ^ 64 + (r * 2 ^ j + d / 2 ^ i)) * 2 ^ i + d % 2 ^ i
carry i j y r x d e h =
    let u : ℕ = d / 2 ^ i in
    let low : r * 2 ^ 64 + d ≡ (r * 2 ^ j + u) * 2 ^ i + d % 2 ^ i =
    ap₂ (λ (n z : ℕ). r * n + z) (ap (λ (k : ℕ). 2 ^ k) (sym e) ∙ pow-add 2 j i) (sym (split d i))
    ∙ ap (λ (z : ℕ). z + (u * 2 ^ i + d % 2 ^ i)) (sym (mul_assoc r (2 ^ j) (2 ^ i)))
    ∙ sym (add_assoc (r * 2 ^ j * 2 ^ i) (u * 2 ^ i) (d % 2 ^ i))
    ∙ ap (λ (z : ℕ). z + d % 2 ^ i) (sym (add-mul (r * 2 ^ j) u (2 ^ i))) in
    ap (λ (z : ℕ). z * 2 ^ 64 + d) h
    ∙ ap (λ (z : ℕ). z + d) (add-mul (y * 2 ^ i) r (2 ^ 64) ∙ ap (λ (z : ℕ). z + r * 2 ^ 64) (mul_right_comm y (2 ^ i) (2 ^ 64)))
    ∙ add_assoc (y * 2 ^ 64 * 2 ^ i) (r * 2 ^ 64) d
    ∙ ap (λ (z : ℕ). y * 2 ^ 64 * 2 ^ i + z) low
    ∙ sym (add_assoc (y * 2 ^ 64 * 2 ^ i) ((r * 2 ^ j + u) * 2 ^ i) (d % 2 ^ i))
    ∙ ap (λ (z : ℕ). z + d % 2 ^ i) (sym (add-mul (y * 2 ^ 64) (r * 2 ^ j + u) (2 ^ i)))

-- the i low bits of a word and the high bits of the next make a word
pub word_lt : (i j x y : ℕ) → i + j ≡ 64 → y < 2 ^ 64 → x % 2 ^ i * 2 ^ j + y / 2 ^ i < 2 ^ 64
word_lt i j x y e h =
    subst (λ (z : ℕ). x % 2 ^ i * 2 ^ j + y / 2 ^ i < z) (sym (pow-add 2 i j) ∙ ap (λ (k : ℕ). 2 ^ k) e)
    (digits_lt (mod-lt x (pow_pos i)) (shr_lt j i (subst (λ (k : ℕ). y < 2 ^ k) (sym e ∙ add_comm i j) h)))

low-lt : {x : ℕ} (i : ℕ) → x < 2 ^ 64 → x % 2 ^ i < 2 ^ 64
low-lt {x} i h = lt_of_le_of_lt (mod-le x (2 ^ i)) h

high_lt : {x : ℕ} (i : ℕ) → x < 2 ^ 64 → x / 2 ^ i < 2 ^ 64
high_lt {x} i h = lt_of_le_of_lt (shr_le x i) h

pub fold288-is : (a b c d e f : ℕ) → Six a b c d e f
    → limbs 0 (b % 2 ^ 32) (bit_xor c (a / 2 ^ 32)) (bit_xor d (a % 2 ^ 32 * 2 ^ 32 + b / 2 ^ 32)) (bit_xor e (a / 2 ^ 32)) (bit_xor f (a % 2 ^ 32 * 2 ^ 32 + b / 2 ^ 32))
    ≡ folded 288 128 (limbs a b c d e f)
fold288-is a b c d e f six =
    let s : ℕ = a / 2 ^ 32 in
    let t : ℕ = a % 2 ^ 32 * 2 ^ 32 + b / 2 ^ 32 in
    let m : ℕ = b % 2 ^ 32 in
    let h : ℕ = limbs 0 0 0 0 s t in
    let l : ℕ = limbs 0 m c d e f in
    let hm : 0 + m < 2 ^ 32 = subst (λ (z : ℕ). z < 2 ^ 32) (sym (zero-add m)) (mod-lt b (pow_pos 32)) in
    let hs : s < 2 ^ 64 = high_lt 32 six.0 in
    let ht : t < 2 ^ 64 = word_lt 32 32 a b refl six.1 in
    let whole : limbs a b c d e f ≡ h * 2 ^ 288 + l =
    ap (λ (z : ℕ). (((z * 2 ^ 64 + c) * 2 ^ 64 + d) * 2 ^ 64 + e) * 2 ^ 64 + f)
    (carry 32 32 (0 + s) (a % 2 ^ 32) a b refl (omega arith) ∙ ap (λ (z : ℕ). h * 2 ^ 32 + z) (sym (zero-add m)))
    ∙ ap (λ (z : ℕ). ((z * 2 ^ 64 + d) * 2 ^ 64 + e) * 2 ^ 64 + f) (step h (0 + m) c 32)
    ∙ ap (λ (z : ℕ). (z * 2 ^ 64 + e) * 2 ^ 64 + f) (step h ((0 + m) * 2 ^ 64 + c) d 96)
    ∙ ap (λ (z : ℕ). z * 2 ^ 64 + f) (step h (((0 + m) * 2 ^ 64 + c) * 2 ^ 64 + d) e 160)
    ∙ step h ((((0 + m) * 2 ^ 64 + c) * 2 ^ 64 + d) * 2 ^ 64 + e) f 224 in
    let small : l < 2 ^ 288 = step-lt 224 (step-lt 160 (step-lt 96 (step-lt 32 hm six.2) six.3) six.4) six.5 in
    let up : h * 2 ^ 128 ≡ limbs 0 0 s t 0 0 =
    sym (ap (λ (z : ℕ). z * 2 ^ 64 + 0) (add-zero (h * 2 ^ 64)) ∙ add-zero (h * 2 ^ 64 * 2 ^ 64) ∙ mul_assoc h (2 ^ 64) (2 ^ 64)) in
    sym
    (parts 288 128 (limbs a b c d e f) h l (limbs 0 0 s t 0 0) whole small up
    ∙ ap (bit_xor l)
    (limbs-xor 0 0 0 0 s t 0 0 s t 0 0 (lit< tt, lit< tt, lit< tt, lit< tt, hs, ht) (lit< tt, lit< tt, hs, ht, lit< tt, lit< tt)
    ∙ ap₂ (limbs 0 0 s t) (xor_zero_r s) (xor_zero_r t))
    ∙ limbs-xor 0 m c d e f 0 0 s t s t (lit< tt, low-lt 32 six.1, six.2, six.3, six.4, six.5) (lit< tt, lit< tt, hs, ht, hs, ht)
    ∙ ap (λ (z : ℕ). limbs 0 z (bit_xor c s) (bit_xor d t) (bit_xor e s) (bit_xor f t)) (xor_zero_r m))

-- the words above a small number are 0
top : (v c n : ℕ) → v * 2 ^ 64 + c < 2 ^ (n + 64) → v < 2 ^ n
top v c n h = lt_of_mul-lt-mul_right (2 ^ 64) (lt_of_le_of_lt (le-add_right (v * 2 ^ 64) c) (subst (λ (z : ℕ). v * 2 ^ 64 + c < z) (pow-add 2 n 64) h))

none : (v c n : ℕ) → n ≤ 64 → v * 2 ^ 64 + c < 2 ^ n → (v ≡ 0) × (c < 2 ^ n)
none v c n hn h =
    let h' : v * 2 ^ 64 + c < 2 ^ 64 = lt_of_lt_of_le h (pow_mono hn) in
    let e : v ≡ 0 = omega arith in
    (e, lt_of_le_of_lt (le-add_left c (v * 2 ^ 64)) h)

pub fold144-is : (a b c d e f : ℕ) → limbs a b c d e f < 2 ^ 288 → Six a b c d e f
    → limbs 0 0 (b / 2 ^ 16) (bit_xor (d % 2 ^ 16) (bit_xor (b / 2 ^ 16) (b % 2 ^ 16 * 2 ^ 48 + c / 2 ^ 16)))
    (bit_xor e (bit_xor (b % 2 ^ 16 * 2 ^ 48 + c / 2 ^ 16) (c % 2 ^ 16 * 2 ^ 48 + d / 2 ^ 16))) (bit_xor f (c % 2 ^ 16 * 2 ^ 48 + d / 2 ^ 16))
    ≡ folded 144 64 (limbs a b c d e f)
fold144-is a b c d e f bound six =
    let x : ℕ = (a * 2 ^ 64 + b) * 2 ^ 64 + c in
    let y : ℕ = x * 2 ^ 64 + d in
    let z : a ≡ 0 = (none a b 32 (lit≤ tt) (top (a * 2 ^ 64 + b) c 32 (top x d 96 (top y e 160 (top (y * 2 ^ 64 + e) f 224 bound))))).0 in
    let s : ℕ = b / 2 ^ 16 in
    let t : ℕ = b % 2 ^ 16 * 2 ^ 48 + c / 2 ^ 16 in
    let u : ℕ = c % 2 ^ 16 * 2 ^ 48 + d / 2 ^ 16 in
    let m : ℕ = d % 2 ^ 16 in
    let h : ℕ = limbs 0 0 0 s t u in
    let l : ℕ = limbs 0 0 0 m e f in
    let hm : 0 + m < 2 ^ 16 = subst (λ (z : ℕ). z < 2 ^ 16) (sym (zero-add m)) (mod-lt d (pow_pos 16)) in
    let hs : s < 2 ^ 64 = high_lt 16 six.1 in
    let ht : t < 2 ^ 64 = word_lt 16 48 b c refl six.2 in
    let hu : u < 2 ^ 64 = word_lt 16 48 c d refl six.3 in
    let whole : limbs a b c d e f ≡ h * 2 ^ 144 + l =
    ap (λ (z : ℕ). limbs z b c d e f) z
    ∙ ap (λ (z : ℕ). (z * 2 ^ 64 + e) * 2 ^ 64 + f)
    (carry 16 48 ((0 + s) * 2 ^ 64 + t) (c % 2 ^ 16) ((0 + b) * 2 ^ 64 + c) d refl (carry 16 48 (0 + s) (b % 2 ^ 16) (0 + b) c refl (omega arith))
    ∙ ap (λ (z : ℕ). h * 2 ^ 16 + z) (sym (zero-add m)))
    ∙ ap (λ (z : ℕ). z * 2 ^ 64 + f) (step h (0 + m) e 16)
    ∙ step h ((0 + m) * 2 ^ 64 + e) f 80 in
    sym
    (parts 144 64 (limbs a b c d e f) h l (limbs 0 0 s t u 0) whole (step-lt 80 (step-lt 16 hm six.4) six.5) (sym (add-zero (h * 2 ^ 64)))
    ∙ ap (bit_xor l)
    (limbs-xor 0 0 0 s t u 0 0 s t u 0 (lit< tt, lit< tt, lit< tt, hs, ht, hu) (lit< tt, lit< tt, hs, ht, hu, lit< tt)
    ∙ ap (limbs 0 0 s (bit_xor s t) (bit_xor t u)) (xor_zero_r u))
    ∙ limbs-xor 0 0 0 m e f 0 0 s (bit_xor s t) (bit_xor t u) u (lit< tt, lit< tt, lit< tt, low-lt 16 six.3, six.4, six.5)
    (lit< tt, lit< tt, hs, xor_lt 64 s t hs ht, xor_lt 64 t u ht hu, hu))

-- 32 bits up, within two words
raised : (s t : ℕ) → ((0 + s) * 2 ^ 64 + t) * 2 ^ 32 ≡ (0 + (s * 2 ^ 32 + t / 2 ^ 32)) * 2 ^ 64 + t % 2 ^ 32 * 2 ^ 32
raised s t = omega arith

-- below 2 ^ 144, what is above the last two words has sixteen bits
pub above : (a b c d e f : ℕ) → limbs a b c d e f < 2 ^ 144 → ((a * 2 ^ 64 + b) * 2 ^ 64 + c ≡ 0) × (d < 2 ^ 16)
above a b c d e f bound =
    let x : ℕ = (a * 2 ^ 64 + b) * 2 ^ 64 + c in
    let y : ℕ = x * 2 ^ 64 + d in
    none x d 16 (lit≤ tt) (top y e 16 (top (y * 2 ^ 64 + e) f 80 bound))

pub raised_lt : (d t : ℕ) → d < 2 ^ 16 → t < 2 ^ 64 → (d / 2 ^ 8 * 2 ^ 32 + t / 2 ^ 32 < 2 ^ 64) × (t % 2 ^ 32 * 2 ^ 32 < 2 ^ 64) × (d / 2 ^ 8 * 2 ^ 32 < 2 ^ 64)
raised_lt d t hd ht = (omega arith, omega arith, omega arith)

pub fold72-is : (a b c d e f : ℕ) → limbs a b c d e f < 2 ^ 144 → Six a b c d e f
    → limbs 0 0 0 0
    (bit_xor (e % 2 ^ 8) (bit_xor (d / 2 ^ 8) (d / 2 ^ 8 * 2 ^ 32 + (d % 2 ^ 8 * 2 ^ 56 + e / 2 ^ 8) / 2 ^ 32)))
    (bit_xor f (bit_xor (d % 2 ^ 8 * 2 ^ 56 + e / 2 ^ 8) ((d % 2 ^ 8 * 2 ^ 56 + e / 2 ^ 8) % 2 ^ 32 * 2 ^ 32)))
    ≡ folded 72 32 (limbs a b c d e f)
fold72-is a b c d e f bound six =
    let zd = above a b c d e f bound in
    let s : ℕ = d / 2 ^ 8 in
    let t : ℕ = d % 2 ^ 8 * 2 ^ 56 + e / 2 ^ 8 in
    let m : ℕ = e % 2 ^ 8 in
    let h : ℕ = limbs 0 0 0 0 s t in
    let l : ℕ = limbs 0 0 0 0 m f in
    let hm : 0 + m < 2 ^ 8 = subst (λ (z : ℕ). z < 2 ^ 8) (sym (zero-add m)) (mod-lt e (pow_pos 8)) in
    let hs : s < 2 ^ 64 = high_lt 8 (lt_of_lt_of_le zd.1 (pow_mono {i = 16} {j = 64} (lit≤ tt))) in
    let ht : t < 2 ^ 64 = word_lt 8 56 d e refl six.4 in
    let s' : ℕ = s * 2 ^ 32 + t / 2 ^ 32 in
    let t' : ℕ = t % 2 ^ 32 * 2 ^ 32 in
    let hr = raised_lt d t zd.1 ht in
    let whole : limbs a b c d e f ≡ h * 2 ^ 72 + l =
    ap (λ (z : ℕ). ((z * 2 ^ 64 + d) * 2 ^ 64 + e) * 2 ^ 64 + f) zd.0
    ∙ ap (λ (z : ℕ). z * 2 ^ 64 + f)
    (carry 8 56 (0 + s) (d % 2 ^ 8) (0 + d) e refl (omega arith) ∙ ap (λ (z : ℕ). h * 2 ^ 8 + z) (sym (zero-add m)))
    ∙ step h (0 + m) f 8 in
    sym
    (parts 72 32 (limbs a b c d e f) h l (limbs 0 0 0 0 s' t') whole (step-lt 8 hm six.5) (raised s t)
    ∙ ap (bit_xor l) (limbs-xor 0 0 0 0 s t 0 0 0 0 s' t' (lit< tt, lit< tt, lit< tt, lit< tt, hs, ht) (lit< tt, lit< tt, lit< tt, lit< tt, hr.0, hr.1))
    ∙ limbs-xor 0 0 0 0 m f 0 0 0 0 (bit_xor s s') (bit_xor t t') (lit< tt, lit< tt, lit< tt, lit< tt, low-lt 8 six.4, six.5)
    (lit< tt, lit< tt, lit< tt, lit< tt, xor_lt 64 s s' hs hr.0, xor_lt 64 t t' ht hr.1))

pub fold36-is : (a b c d e f : ℕ) → limbs a b c d e f < 2 ^ 72
    → (bit_xor (f % 2 ^ 36) (bit_xor (e * 2 ^ 28 + f / 2 ^ 36) ((e * 2 ^ 28 + f / 2 ^ 36) * 2 ^ 16)) ≡ folded 36 16 (limbs a b c d e f)) × (e < 2 ^ 8)
fold36-is a b c d e f bound =
    let y : ℕ = ((a * 2 ^ 64 + b) * 2 ^ 64 + c) * 2 ^ 64 + d in
    let ze = none y e 8 (lit≤ tt) (top (y * 2 ^ 64 + e) f 8 bound) in (
      sym
          (parts 36 16 (limbs a b c d e f) (e * 2 ^ 28 + f / 2 ^ 36) (f % 2 ^ 36) ((e * 2 ^ 28 + f / 2 ^ 36) * 2 ^ 16)
          (ap (λ (z : ℕ). (z * 2 ^ 64 + e) * 2 ^ 64 + f) ze.0 ∙ split-36 e f) (mod-lt f (pow_pos 36)) refl),
      ze.1,
    )
  where
    split-36 : (e f : ℕ) → (0 + e) * 2 ^ 64 + f ≡ (e * 2 ^ 28 + f / 2 ^ 36) * 2 ^ 36 + f % 2 ^ 36
    split-36 e f = omega arith

-- the numbers on the way fit words
pub fold36-fits : (e f : ℕ) → e < 2 ^ 8 → f < 2 ^ 64
    → (e * 2 ^ 28 < 2 ^ 64) × (e * 2 ^ 28 + f / 2 ^ 36 < 2 ^ 64) × ((e * 2 ^ 28 + f / 2 ^ 36) * 2 ^ 16 < 2 ^ 64)
fold36-fits e f he hf = (omega arith, omega arith, omega arith)

pub limbs-lt : (a b c d e f : ℕ) → Six a b c d e f → limbs a b c d e f < 2 ^ 384
limbs-lt a b c d e f six = step-lt 320 (step-lt 256 (step-lt 192 (step-lt 128 (step-lt 64 six.0 six.1) six.2) six.3) six.4) six.5
