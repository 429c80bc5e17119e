-- The codes of rates, and a name's VPI and VCI, fit the fields of a cell.
use mathlib.Core.Path.{◌≡◌, refl}
use mathlib.Core.Bool.{Bool, true, false, cond}
use Prim.Native.Nat.{ℕ, ◌≤◌, ◌<◌}
use native.Mathlib.Omega.{arith}
use lib.Dec.{leb}
use borrow.Author.Tests.{leb-true, le-leb}
use Rattle.rate.specs.Units.{largest_rate}
use Rattle.rate.specs.Code.{rate_of, code_of, code_or_zero}
use Rattle.rate.proofs.Codes.{code-greatest, rate-le}
use Rattle.cell.specs.Name.{vpi_in, vci_in, no_name}

-- the code of a rate has 15 bits
pub code_fits : (x : ℕ) → x ≤ largest_rate → code_of x ≤ 32767
code_fits x h = omega (arith, (code-greatest x h).fifteen)

-- a code's own code has 15 bits
pub own-fits : (k : ℕ) {x : ℕ} → x ≡ code_of (rate_of k) → x ≤ 32767
own-fits k h = rw h (code_fits _ (rate-le k))

-- and so has the code of whatever number stands where a rate should
pub any-fits : (k : ℕ) {x : ℕ} → x ≡ code_or_zero k → x ≤ 32767
unfolding code_or_zero
any-fits k h = rw h (go (leb k largest_rate) refl)
  where
    go : (b : Bool) → leb k largest_rate ≡ b → cond b (code_of k) 0 ≤ 32767
    go true e = code_fits k (leb-true _ _ e)
    go false e = omega arith

pub code_is : (x : ℕ) → x ≤ largest_rate → code_or_zero x ≡ code_of x
unfolding code_or_zero
code_is x h = rw (le-leb _ _ h)

-- a name's VPI and VCI are in range
pub vpi-fits : (v : ℕ) → v < no_name → leb (vpi_in v) 255 ≡ true
vpi-fits v h = le-leb (vpi_in v) 255 (omega (arith, h))

pub vci-fits : (v : ℕ) → leb (vci_in v) 65535 ≡ true
vci-fits v = le-leb (vci_in v) 65535 (omega arith)
