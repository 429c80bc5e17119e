-- What a backward cell that was held to a rate says, beside what it said before. (Document 02, L10.)
use Rattle.std.specs.Prelude.{ℕ, ◌/◌, ◌≤◌, min, ◌≡◌, List, take, drop}
use Rattle.rate.specs.Code.{rate_of, GreatestCode}
use Rattle.cell.specs.Octets.{octet}
use Rattle.cell.specs.Reading.{reading}
use Rattle.cell.specs.declared.fields.Fields.{Fields}
use Rattle.cell.specs.Read.{RmCell}
use Rattle.port.specs.Limit.{held_er, limit}

-- these fields, with another ER
abbrev pub fields_with_er : (er : ℕ) → Fields → Fields
fields_with_er er f = record {
  vpi = f.vpi;
  vci = f.vci;
  dir = f.dir;
  bn = f.bn;
  ci = f.ci;
  ni = f.ni;
  ra = f.ra;
  er = er;
  ccr = f.ccr;
  mcr = f.mcr;
  ql = f.ql;
  sn = f.sn;
}

-- octets 1 to 7 are the same, also GFC, CLP and the reserved bits of octet 7; so are octets 10 to 51 and the
-- six reserved bits of octet 52
pub record SameButEr (before after : List ℕ) : Type 0 where
  pub start : take 7 after ≡ take 7 before
  pub middle : take 42 (drop 9 after) ≡ take 42 (drop 9 before)
  pub reserved : octet 52 after / 4 ≡ octet 52 before / 4

pub record Limited (rate : ℕ) (o : List ℕ) (f : Fields) : Type 0 where
  pub accepted : (limit rate o).refusal ≡ 0
  -- it is a cell with right checks, since it is read, and reads as before except for ER
  pub fields : reading (limit rate o).cell ≡ RmCell (fields_with_er (held_er rate f.er) f)
  pub octets : SameButEr o (limit rate o).cell
  -- ER has the greatest code rate that is not above the lesser of the two; an ER not above the rate keeps its own
  pub greatest : GreatestCode (min (rate_of f.er) rate) (held_er rate f.er)
  pub kept : rate_of f.er ≤ rate → rate_of (held_er rate f.er) ≡ rate_of f.er

abbrev pub BackwardLimited : Type 0
BackwardLimited = (rate : ℕ) (o : List ℕ) (f : Fields) → reading o ≡ RmCell f → f.dir ≡ 1 → Limited rate o f

-- no backward cell leaves with an ER above the rate
abbrev pub NoneAbove : Type 0
NoneAbove = (rate : ℕ) (o : List ℕ) (f : Fields) → reading (limit rate o).cell ≡ RmCell f → f.dir ≡ 1 → rate_of f.er ≤ rate
