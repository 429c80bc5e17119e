-- Names of paths, and whether two numbers are one.
use Prim.Native.Nat.{ℕ}
use mathlib.Core.Path.{◌≡◌, refl, ap, ◌∙◌}
use mathlib.Core.Bool.{Bool, true, false}
use native.Mathlib.Omega.{arith}
use lib.Dec.{eqb}
use borrow.Author.Tests.{eqb-true, eqb-false, eq-eqb}
use Rattle.cell.specs.Name.{name_from, vpi_in, vci_in, address_fits, address_name}
use Rattle.cell.proofs.Names.{Named, name_in, address-named, address-lt}
use Rattle.connection_members.specs.Path.{is_path, path_vci, path_name, path_of}

pub data Decided (x y : ℕ) : Type 0 where
  same : x ≡ y → Decided x y
  other : (x ≡ y → ⊥) → Decided x y

pub compare : (x y : ℕ) → Decided x y
compare x y = go (eqb x y) refl
  where
    go : (b : Bool) → eqb x y ≡ b → Decided x y
    go true e = same (eqb-true x y e)
    go false e = other (eqb-false x y e)

pub path-is-path : (x : ℕ) → is_path (path_of x) ≡ true
unfolding is_path
path-is-path x = eq-eqb (vci_in (path_of x)) 6 (omega arith)

-- a member's name from its path and its VCI
pub named_again : (v x : ℕ) → path_of x ≡ v → name_from (vpi_in v) (vci_in x) ≡ x
named_again v x e = omega arith

-- the path of a pair within the ranges is that of its VPI
pub path-of-address : (a b : ℕ) → address_fits a b ≡ true → path_of (address_name a b) ≡ address_name a path_vci
path-of-address a b e =
    let n : Named a b (address_name a b) = address-named a b (address-lt a b e) in
    ap path_name n.vpi_back ∙ name_in a path_vci n.vpi_fits (omega arith)
