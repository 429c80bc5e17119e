-- Received cells may pass ports on their way, which leave them as abr_limit and abr_port do. Ports never raise a
-- rate that abr_acr returns. (Document 01, "The lists of demand 3"; document 02, L10.)
use Rattle.std.specs.Prelude.{ℕ, ◌≡◌, List}
use Rattle.cell.specs.declared.fields.Fields.{Fields}
use Rattle.cell.specs.Read.{RmCell}
use Rattle.cell.specs.Fields.{cell_name}
use Rattle.cell.specs.Reading.{reading}
use Rattle.port_share.specs.Share.{fair_share}
use Rattle.port.specs.Limit.{passed, limit}
use Rattle.port.specs.Port.{port}
use Rattle.model.specs.Call.{Call, receiving}
use Rattle.abr.specs.Exports.{Observation, Transcript, zeros}
use Rattle.promise_lists.specs.Demand3.{InPlace}
use Rattle.promise_loop.specs.Loop.{FromPort}
use Rattle.exports.specs.Exports.{SameConnection, ObservedAgree}
use Rattle.exports.specs.Returned.{no_member, places_seen}

-- the same call; or a received cell, and what abr_limit or abr_port left of it, returning n (each
-- holds the ensures of that export)
pub data PortedCall : Call → Call → Type 0 where
  same : {c : Call} → PortedCall c c
  limited : (rate n : ℕ) (o p : List ℕ) → passed n p ≡ limit rate o → PortedCall (receiving o) (receiving p)
  ported : (capacity : ℕ) (demands : List ℕ) (n : ℕ) (o p : List ℕ) → passed n p ≡ port capacity demands o → PortedCall (receiving o) (receiving p)

-- a backward cell of v that abr_port left, returning n
pub record LeftByPort (v capacity : ℕ) (demands o : List ℕ) : Type 0 where
  pub before : List ℕ
  pub fields : Fields
  pub read : reading before ≡ RmCell fields
  pub backward : fields.dir ≡ 1
  pub name : cell_name fields ≡ v
  pub n : ℕ
  pub left : passed n o ≡ port capacity demands before

pub record ExportsPorts : Type 0 where
  -- any exported calls from the zero table, and the same calls with received cells as ports left them, where the
  -- slots of both go to the same connections
  pub never_raise :
      (xs ys : List Call) (os ps : List Observation) → Transcript xs zeros os → Transcript ys zeros ps → InPlace PortedCall xs ys
      → InPlace SameConnection (places_seen no_member xs os) (places_seen no_member ys ps) → InPlace ObservedAgree os ps
  -- such cells are those of the closed loop
  pub in_loop : (v capacity : ℕ) (demands o : List ℕ) → LeftByPort v capacity demands o → FromPort v (fair_share capacity demands) o
