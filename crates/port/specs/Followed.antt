-- Connections that follow the port do not send above its capacity, all together. (Document 02, L10.)
use Rattle.std.specs.Prelude.{ℕ, ◌≤◌, ◌≡◌}
use mathlib.Core.List.{List, Forall₂}
use Rattle.rate.specs.Code.{rate_of}
use Rattle.cell.specs.Reading.{reading}
use Rattle.cell.specs.declared.fields.Fields.{Fields}
use Rattle.cell.specs.Read.{RmCell}
use Rattle.port_share.specs.Demands.{plain_sum}
use Rattle.port.specs.Port.{port}

-- a connection's rate is not above its demand, nor above the ER of some backward cell that the
-- port let pass with these demands
pub record Follows (capacity : ℕ) (ds : List ℕ) (demand rate : ℕ) : Type 0 where
  pub cell : List ℕ
  pub fields : Fields
  pub accepted : (port capacity ds cell).refusal ≡ 0
  pub passed_on : reading (port capacity ds cell).cell ≡ RmCell fields
  pub backward : fields.dir ≡ 1
  pub demanded : rate ≤ demand
  pub obeyed : rate ≤ rate_of fields.er

-- one rate for each demand
abbrev pub CapacityKept : Type 0
CapacityKept = (capacity : ℕ) (ds rs : List ℕ) → Forall₂ (Follows capacity ds) ds rs → plain_sum rs ≤ capacity
