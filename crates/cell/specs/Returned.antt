-- What a turned cell says, beside the received one. (Document 01, "Turning cells round" and "Traps in this trade".)
use Rattle.std.specs.Prelude.{ℕ, ◌/◌, ◌%◌, ◌≤◌, ◌≡◌, Bool, cond, ◌||◌, List, eqb}
use Rattle.cell.specs.Octets.{octet}
use Rattle.cell.specs.Fields.{Fields}

-- the fields: DIR 1, BN 0, a mark set here or on the way is set; the rest as received
unfoldable pub returned : (level : ℕ) (mark : Bool) (vpi vci : ℕ) → Fields → Fields
returned level mark vpi vci f = record {
  vpi = vpi;
  vci = vci;
  dir = 1;
  bn = 0;
  ci = cond (mark || eqb level 2) 1 f.ci;
  ni = cond (eqb level 1) 1 f.ni;
  ra = f.ra;
  er = f.er;
  ccr = f.ccr;
  mcr = f.mcr;
  ql = f.ql;
  sn = f.sn;
}

-- the octets: RA and three reserved bits of octet 7; octets 8 to 51 whole, including the reserved octets;
-- the six reserved bits of octet 52
pub record Kept (received turned : List ℕ) : Type 0 where
  pub low : octet 7 turned % 16 ≡ octet 7 received % 16
  pub middle : (i : ℕ) → 8 ≤ i → i ≤ 51 → octet i turned ≡ octet i received
  pub six : octet 52 turned / 4 ≡ octet 52 received / 4
