-- Export then import gives the canonical code.
use Prim.Native.Nat.{ℕ, ◌*◌, ◌/◌, ◌^◌, ◌≤◌, ◌<◌}
use mathlib.Core.Path.{◌≡◌, sym, ap, ◌∙◌}
use mathlib.Core.Bool.{false}
use mathlib.Core.Logic.{by_cases}
use native.Mathlib.Nat.{mul-le-mul_right, mul-div_cancel, le_antisymm, le_refl}
use native.Mathlib.Omega.{arith}
use native.Mathlib.Decide.{dec_lt}
use borrow.Author.Tests.{eq-eqb, ne_eqb, le-leb, lt-ltb}
use lib.IntN.{ℤ}
use lib.Ieee.{fin, up, down}
use lib.Ieee.Fits.{down_pos}
use Rattle.std.specs.Prelude.{Ok}
use Rattle.rate.specs.Code.{rate_of, code_of}
use Rattle.rate.proofs.Octaves.{code-none}
use Rattle.rate.proofs.Codes.{rate-le, code-greatest, code-of-rate}
use Rattle.rate_doubles.specs.Import.{Exact, split_at, accepted, of_fraction, import_of}
use Rattle.rate_doubles.specs.RoundTrip.{canonical, RoundTrip}
use Rattle.rate_doubles.proofs.Fractions.{fraction}

-- a code's rate is that of its own code, and no such rate lies between 0 and 512
rate-back : (k : ℕ) → rate_of (code_of (rate_of k)) ≡ rate_of k
rate-back k = let g = code-greatest (rate_of k) (rate-le k) in le_antisymm g.not_above (g.greatest k (le_refl (rate_of k)))

nil-below : (k : ℕ) → rate_of k < 512 → rate_of k ≡ 0
unfolding rate_of
nil-below k h = sym (rate-back k) ∙ ap rate_of (code-none (rate_of k) h)

canonical-is : (k : ℕ) → code_of (rate_of k) ≡ canonical k
unfolding canonical
canonical-is k = code-of-rate k

module _ (k m : ℕ) (e : ℤ) (v : m * up e * 512 ≡ rate_of k * down e) where
  abbrev a : ℕ
  a = m * up e

  abbrev d : ℕ
  d = down e

  units-are : a * 512 / d ≡ rate_of k
  units-are = ap (λ (z : ℕ). z / d) v ∙ mul-div_cancel (rate_of k) (down_pos e)

  back_from : 512 ≤ rate_of k → import_of (fin false m e) ≡ Ok (Exact (code_of (rate_of k)))
  unfolding of_fraction accepted split_at
  back_from h =
      let p = down_pos e in
      let l = mul-le-mul_right d h in
      let u = mul-le-mul_right d (rate-le k) in
      rw (ne_eqb a 0 (λ z. omega arith), le-leb d a (omega arith), lt-ltb a (2 ^ 32 * d) (omega arith), units-are, rate-back k, eq-eqb (a * 512) (rate_of k * d) v)

  back_none : rate_of k < 512 → import_of (fin false m e) ≡ Ok (Exact (code_of (rate_of k)))
  unfolding of_fraction
  back_none h =
      let z : a * 512 ≡ 0 * d = rw (nil-below k h) at v in
      rw (eq-eqb a 0 (omega arith), code-none (rate_of k) h)

pub round_trip : RoundTrip
round_trip k x h =
    let f = fraction x (rate_of k) 512 h in
    ap import_of f.is
    ∙ by_cases (dec_lt (rate_of k) 512) (λ l. back_none k f.m f.e f.value l) (λ l. back_from k f.m f.e f.value (omega arith))
    ∙ ap (λ (code : ℕ). Ok (Exact code)) (canonical-is k)
