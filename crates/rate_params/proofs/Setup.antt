-- The initial rate used and CRM, from TBE and FRTT.
use mathlib.Core.Path.{◌≡◌, refl}
use mathlib.Core.Bool.{true}
use mathlib.Core.Logic.{by_cases}
use Prim.Native.Nat.{ℕ, ◌+◌, ◌-◌, ◌*◌, ◌/◌, ◌≤◌, ◌<◌, min, max}
use native.Mathlib.Nat.{le_refl, le_trans, le_of_mul-le-mul_right, lt_of_lt_of_le, mul-le-mul_left, mul-le-mul_right, add-mul, mul_assoc, mul_comm, le-div_iff_mul-le, div-lt_iff_lt-mul, div-mul-le_self, lt-div-mul-add, pow-le-pow_right}
use native.Mathlib.Decide.{dec_lt, dec_le}
use native.Mathlib.Omega.{arith}
use lib.Pow.{pow_pos}
use borrow.Author.Tests.{eq-eqb, ne_eqb}
use Rattle.rate.specs.Gap.{gap}
use Rattle.rate.proofs.Gaps.{gap-enough}
use Rattle.rate_params.specs.Params.{Params, least, initial, tbe_rate, lowered, initial_used, tbe_fits, nrm, crm, house_set}
use Rattle.rate_params.specs.Setup.{with_setup, cells_allowed, InitialRate, Crm}
use Rattle.rate_params.proofs.Ranges.{in-range}

-- The two cases of the initial rate.
no-trip : (p : Params) → p.frtt ≡ 0 → initial_used p ≡ initial p
unfolding initial_used
no-trip p e = rw (eq-eqb p.frtt 0 e) refl

with-trip : (p : Params) → 0 < p.frtt → initial_used p ≡ lowered p
unfolding initial_used
with-trip p h = rw (ne_eqb p.frtt 0 (λ e. omega arith)) refl

by-trip : (p : Params) {P : Type 0} → (p.frtt ≡ 0 → P) → (0 < p.frtt → P) → P
by-trip p f g = by_cases (dec_lt 0 p.frtt) g (λ h. f (omega arith))

between : (p : Params) → least p ≤ initial p → (least p ≤ initial_used p) × (initial_used p ≤ initial p)
between p h =
    by-trip p (λ e. let q = no-trip p e in (omega arith, omega arith)) (λ t. let q = with-trip p t in (omega arith, omega arith))

-- the quotient falls with the divisor and rises with the dividend
div-longer : (x f g : ℕ) → 0 < f → f ≤ g → x / g ≤ x / f
div-longer x f g h l = (le-div_iff_mul-le h).1 (le_trans (mul-le-mul_left (x / g) l) (div-mul-le_self x g))

div-more : (x y f : ℕ) → 0 < f → x ≤ y → x / f ≤ y / f
div-more x y f h l = (le-div_iff_mul-le h).1 (le_trans (div-mul-le_self x f) l)

longer : (p : Params) (tbe f g : ℕ) → least p ≤ initial p → f ≤ g → initial_used (with_setup p tbe g) ≤ initial_used (with_setup p tbe f)
longer p tbe f g h l =
    by_cases (dec_lt 0 f)
    (λ t. let q = div-longer (512_000_000 * tbe) f g t l in
    let a = with-trip (with_setup p tbe f) t in
    let b = with-trip (with_setup p tbe g) (omega arith) in
    omega arith)
    (λ t. let a = no-trip (with_setup p tbe f) (omega arith) in
    let b = between (with_setup p tbe g) h in
    omega arith)

more : (p : Params) (a b frtt : ℕ) → a ≤ b → initial_used (with_setup p a frtt) ≤ initial_used (with_setup p b frtt)
more p a b frtt l =
    by_cases (dec_lt 0 frtt)
    (λ t. let q = div-more (512_000_000 * a) (512_000_000 * b) frtt t (mul-le-mul_left 512_000_000 l) in
    let x = with-trip (with_setup p a frtt) t in
    let y = with-trip (with_setup p b frtt) t in
    omega arith)
    (λ t. let x = no-trip (with_setup p a frtt) (omega arith) in
    let y = no-trip (with_setup p b frtt) (omega arith) in
    omega arith)

-- The product with the round trip.
max-times : (a b f m : ℕ) → a * f ≤ m → b * f ≤ m → max a b * f ≤ m
max-times a b f m h k =
    by_cases (dec_le a b) (λ l. let q : max a b ≡ b = omega arith in rw q k) (λ l. let q : max a b ≡ a = omega arith in rw q h)

most : (p : Params) → initial_used p * p.frtt ≤ max (512_000_000 * p.tbe) (least p * p.frtt)
most p =
    let m : ℕ = max (512_000_000 * p.tbe) (least p * p.frtt) in
    let l : min (initial p) (tbe_rate p) ≤ tbe_rate p = omega arith in
    let rounded : min (initial p) (tbe_rate p) * p.frtt ≤ 512_000_000 * p.tbe = le_trans (mul-le-mul_right p.frtt l) (div-mul-le_self (512_000_000 * p.tbe) p.frtt) in
    by-trip p
    (λ e. let none : p.frtt ≤ 0 = omega arith in omega (arith, mul-le-mul_left (initial_used p) none))
    (λ t. rw (with-trip p t) (max-times (least p) (min (initial p) (tbe_rate p)) p.frtt m (omega arith) (omega (arith, rounded))))

not_lower : (p : Params) → initial_used p < initial p → 512_000_000 * p.tbe < (initial_used p + 1) * p.frtt
not_lower p h =
    by-trip p (λ e. let q = no-trip p e in absurd (omega arith))
    (λ t. let q = with-trip p t in
    let l : tbe_rate p ≤ initial_used p = omega arith in
    lt_of_lt_of_le (lt-div-mul-add {a = 512_000_000 * p.tbe} t)
    (omega (arith, mul-le-mul_right p.frtt l, add-mul (initial_used p) 1 p.frtt)))

at-minimum : (p : Params) → least p ≤ initial p → 0 < p.frtt → 512_000_000 * p.tbe ≤ least p * p.frtt → initial_used p ≡ least p
at-minimum p h t m =
    let above : 512_000_000 * p.tbe < (least p + 1) * p.frtt = omega (arith, m, t, add-mul (least p) 1 p.frtt) in
    let l = (div-lt_iff_lt-mul t).1 above in
    let q = with-trip p t in
    omega arith

-- k gaps take at least 512,000,000,000 k over the rate
gaps : (p : Params) (k : ℕ) → 0 < initial_used p → k * gap (initial_used p) < 1000 * p.frtt → k < cells_allowed p
gaps p k h l =
    let a : ℕ = initial_used p in
    let each = mul-le-mul_left k (gap-enough a h) in
    let all = mul-le-mul_right a l in
    omega (arith, each, mul_assoc k (gap a) a, all, add-mul (k * gap a) 1 a, mul_assoc 1000 p.frtt a, mul_comm p.frtt a, most p)

-- CRM.
enough : (p : Params) → p.tbe ≤ crm p * nrm p
unfolding crm
enough p = omega (arith, lt-div-mul-add {a = p.tbe + nrm p - 1} (pow_pos p.n), pow_pos p.n)

fewest : (p : Params) (y : ℕ) → p.tbe ≤ y * nrm p → crm p ≤ y
unfolding crm
fewest p y h =
    let above : p.tbe + nrm p - 1 < (y + 1) * nrm p = omega (arith, add-mul y 1 (nrm p), pow_pos p.n) in
    let l = (div-lt_iff_lt-mul (pow_pos p.n)).1 above in
    omega arith

whole : (p : Params) (m frtt : ℕ) → crm (with_setup p (m * nrm p) frtt) ≡ m
whole p m frtt =
    let q : Params = with_setup p (m * nrm p) frtt in
    let most : m ≤ crm q = le_of_mul-le-mul_right (enough q) (pow_pos p.n) in
    omega (arith, most, fewest q m (le_refl _))

range : (p : Params) → 1 ≤ p.n → tbe_fits p ≡ true → (1 ≤ crm p) × (crm p ≤ 8_388_608)
unfolding tbe_fits crm
range p h e =
    let r = in-range 1 16_777_215 p.tbe e in
    let two : 2 ≤ nrm p = pow-le-pow_right (omega arith) h in
    let low : 1 * nrm p ≤ p.tbe + nrm p - 1 = omega arith in
    let high : p.tbe + nrm p - 1 < 8_388_609 * nrm p = omega arith in
    let below = (div-lt_iff_lt-mul (pow_pos p.n)).1 high in
    ((le-div_iff_mul-le (pow_pos p.n)).1 low, omega arith)

house : (pcr mcr icr : ℕ) → crm (house_set pcr mcr icr) ≡ 524_288
unfolding crm
house pcr mcr icr = refl

pub initial-rate : InitialRate
initial-rate = record { between = between; no_trip = no-trip; longer = longer; more = more; most = most; greatest = not_lower; minimum = at-minimum; gaps = gaps }

pub crm-is : Crm
crm-is = record { enough = enough; fewest = fewest; whole = whole; range = range; house = house }
