-- Every cell that a call writes has the form of an RM cell. It also has the reserved bits and
-- octets of one, except a turned cell, which keeps what was received. (Document 01, "The cell, 53
-- octets"; document 02, L1 and L5.)
use Rattle.std.specs.Prelude.{ℕ, ◌/◌, ◌≢◌, List}
use Rattle.cell.specs.Octets.{octet}
use Rattle.cell.specs.Form.{Framed, Blank}
use Rattle.model.specs.State.{empty}
use Rattle.model.specs.Call.{Call}
use Rattle.model.specs.Aspects.{Lent, for_slot, for_out_of_rate, not_lent, lent_of}
use Rattle.model.specs.Step.{step}
use Rattle.model.specs.Run.{final}
use Rattle.laws.specs.All.{All}
use Rattle.promise_cells.specs.ReservedBit.{WrittenAs, OfOctets}

-- CLP 1 out of rate, 0 in a slot; the other calls write none
abbrev pub clp_lent : Lent → ℕ
clp_lent (for_slot t) = 0
clp_lent (for_out_of_rate v) = 1
clp_lent not_lent = 0

abbrev pub clp_of : Call → ℕ
clp_of c = clp_lent (lent_of c)

-- DIR and BN, the top bits of octet 7, are 1 and 0 only in a turned cell: a forward cell
-- has 0 and 0, a made one 1 and 1
pub record Formed (clp : ℕ) (o : List ℕ) : Type 0 where
  pub framed : Framed clp o
  pub blank : octet 7 o / 64 ≢ 2 → Blank o

-- after any list of calls from the empty table, whatever the next call is
abbrev pub WrittenForms : Type 0
WrittenForms = (cs : List Call) → All OfOctets cs → (c : Call) → WrittenAs (Formed (clp_of c)) (step (final empty cs) c).buffer
