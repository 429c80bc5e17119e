-- What holds of a table's members is kept, and what waits on a path is a number of 24 bits.
use Prim.Native.Nat.{ℕ, suc, ◌+◌, ◌-◌, ◌*◌, ◌≤◌, ◌<◌}
use mathlib.Core.Path.{◌≡◌, refl, sym, subst}
use mathlib.Core.Bool.{Bool, true, false, cond}
use mathlib.Core.List.{List, [], ◌∷◌}
use native.Mathlib.Nat.{le_trans}
use native.Mathlib.Omega.{arith}
use lib.Dec.{eqb}
use lib.ListN.{length}
use borrow.Author.Tests.{eqb-true}
use Rattle.cell.specs.Name.{no_name, vci_in}
use Rattle.connection_members.specs.Path.{first_vci}
use Rattle.connection_members.specs.Members.{Member, member_capacity, named, on_path, cells_where, without, is_member, cells_of, path_cells, with_member, with_cells}
use Rattle.connection_members.specs.Invariant.{Rising, ValidMember, ValidMembers}
use Rattle.laws.specs.All.{All}
use Rattle.connection_members.proofs.Lists.{cells-none, without-length, without_all, without-rising, with-member-length, with-member-all, with-member-rising, with-cells-length, with-cells-all, with-cells-rising, absent}

pub none-valid : ValidMembers []
none-valid = record { few = omega arith; rising = tt; each = tt }

pub without-valid : (f : ℕ → Bool) (ms : List Member) → ValidMembers ms → ValidMembers (without f ms)
without-valid f ms v = record {
  few = le_trans (without-length f ms) v.few;
  rising = without-rising f ms v.rising;
  each = without_all ValidMember f ms v.each;
}

pub with-member-valid :
    (x : ℕ) (ms : List Member) → ValidMembers ms → x < no_name → first_vci ≤ vci_in x → is_member x ms ≡ false → length ms < member_capacity
    → ValidMembers (with_member x ms)
with-member-valid x ms v c h e l = record {
  few = subst (λ (n : ℕ). n ≤ member_capacity) (sym (with-member-length x ms)) l;
  rising = with-member-rising x ms v.rising e;
  each = with-member-all ValidMember x (record { coded = c; high = h; stocked = omega arith }) ms v.each;
}

pub with-cells-valid : (x n : ℕ) (ms : List Member) → ValidMembers ms → n ≤ 65535 → ValidMembers (with_cells x n ms)
with-cells-valid x n ms v h = record {
  few = subst (λ (k : ℕ). k ≤ member_capacity) (sym (with-cells-length x n ms)) v.few;
  rising = with-cells-rising x n ms v.rising;
  each = with-cells-all ValidMember x n (λ m e f. record { coded = f.coded; high = f.high; stocked = h }) ms v.each;
}

-- at most 65,535 cells wait on a member
cells-one : (x : ℕ) (ms : List Member) → Rising ms → All ValidMember ms → cells_of x ms ≤ 65535
unfolding cells_where
cells-one x [] r h = omega arith
cells-one x (m ∷ ms) r h = go (eqb m.name x) refl (cells-one x ms r.1 h.1)
  where
    alone : m.name ≡ x → cells_of x ms ≡ 0
    alone q = cells-none (named x) ms (absent x ms (subst (λ (y : ℕ). All (λ n. y < n.name) ms) q r.0))

    go : (b : Bool) → eqb m.name x ≡ b → cells_of x ms ≤ 65535 → cond b m.cells 0 + cells_of x ms ≤ 65535
    go true q k = omega (arith, h.0.stocked, alone (eqb-true m.name x q))
    go false q k = omega (arith, k)

pub cells_fit : (x : ℕ) (ms : List Member) → ValidMembers ms → cells_of x ms ≤ 65535
cells_fit x ms v = cells-one x ms v.rising v.each

-- on a path waits what a word holds with ease: at most 256 × 65,535 cells
cells-most : (f : ℕ → Bool) (ms : List Member) → All ValidMember ms → cells_where f ms ≤ length ms * 65535
unfolding cells_where
cells-most f [] h = omega arith
cells-most f (m ∷ ms) h = go (f m.name) (cells-most f ms h.1)
  where
    go : (b : Bool) → cells_where f ms ≤ length ms * 65535 → cond b m.cells 0 + cells_where f ms ≤ suc (length ms) * 65535
    go true k = omega (arith, k, h.0.stocked)
    go false k = omega (arith, k)

pub path-cells-most : (v : ℕ) (ms : List Member) → ValidMembers ms → path_cells v ms ≤ 16_776_960
path-cells-most v ms h = omega (arith, cells-most (on_path v) ms h.each, h.few)
