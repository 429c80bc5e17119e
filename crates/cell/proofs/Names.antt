-- A name and its pair. Within the ranges each gives the other back. Numbers outside the ranges do not
-- make the name of another pair.
use mathlib.Core.Path.{◌≡◌, refl, sym, ◌∙◌}
use mathlib.Core.Bool.{Bool, true, false, cond, ◌&&◌, and-eq-true_iff}
use Prim.Native.Nat.{ℕ, ◌≤◌, ◌<◌}
use native.Mathlib.Omega.{arith}
use borrow.Author.Tests.{le-leb, leb-true}
use lib.Dec.{leb}
use Rattle.cell.specs.Name.{name_from, vpi_in, vci_in, no_name, address_fits, address_name}

module _ (vpi vci : ℕ) where
  -- within the ranges
  pub name_in : vpi ≤ 255 → vci ≤ 65535 → name_from vpi vci ≡ address_name vpi vci
  unfolding address_name
  name_in a b = simp (le-leb _ _ a, le-leb _ _ b)

  pub name-lt : vpi ≤ 255 → vci ≤ 65535 → address_name vpi vci < no_name
  name-lt a b = rw (sym (name_in a b)) (omega (arith, a, b))

  -- a pair that makes a name is within the ranges, and the name gives it back
  pub record Named (n : ℕ) : Type 0 where
    pub vpi_fits : vpi ≤ 255
    pub vci_fits : vci ≤ 65535
    pub vpi_back : vpi_in n ≡ vpi
    pub vci_back : vci_in n ≡ vci

  pub address-named : address_name vpi vci < no_name → Named (address_name vpi vci)
  unfolding address_name
  address-named h = go (leb vpi 255) (leb vci 65535) refl refl h
    where
      go : (a b : Bool) → leb vpi 255 ≡ a → leb vci 65535 ≡ b → cond (a && b) (name_from vpi vci) no_name < no_name
          → Named (cond (a && b) (name_from vpi vci) no_name)
      go true true p q h =
          let v : vpi ≤ 255 = leb-true _ _ p in
          let c : vci ≤ 65535 = leb-true _ _ q in
          record { vpi_fits = v; vci_fits = c; vpi_back = omega (arith, v, c); vci_back = omega (arith, v, c) }
      go true false p q h = absurd (omega (arith, h))
      go false b p q h = absurd (omega (arith, h))

-- out of the ranges a pair makes no name
pub pair-out : (vpi vci : ℕ) → address_fits vpi vci ≡ false → address_name vpi vci ≡ no_name
unfolding address_name
pair-out vpi vci e = rw e

-- and within them one
pub address-lt : (vpi vci : ℕ) → address_fits vpi vci ≡ true → address_name vpi vci < no_name
address-lt vpi vci e = let h = (and-eq-true_iff (leb vpi 255) (leb vci 65535)).0 e in name-lt vpi vci (leb-true _ _ h.0) (leb-true _ _ h.1)

-- two pairs of one name are one pair
pub names_apart : (a b c d : ℕ) → address_name a b < no_name → address_name a b ≡ address_name c d → (a ≡ c) × (b ≡ d)
names_apart a b c d h e =
    let m : Named a b (address_name a b) = address-named a b h in
    let n : Named c d (address_name c d) = address-named c d (omega (arith, h, e)) in
    (sym m.vpi_back ∙ omega (arith, e) ∙ n.vpi_back, sym m.vci_back ∙ omega (arith, e) ∙ n.vci_back)

-- a name of 24 bits is that of its own pair
pub address-back : (n : ℕ) → n < no_name → address_name (vpi_in n) (vci_in n) ≡ n
address-back n h = sym (name_in (vpi_in n) (vci_in n) (omega (arith, h)) (omega arith)) ∙ omega arith
