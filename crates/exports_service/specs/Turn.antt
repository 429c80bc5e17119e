-- Whose data cell a slot of a path returns, in exported calls. It is that of the first member with data after the
-- last one served, in rising VCI, round to the lowest. Before any was served, it is that of the lowest with data.
-- A channel's data cell has the channel's own name. (Document 02, L13.)
use Rattle.std.specs.Prelude.{ℕ, ◌≤◌, ◌<◌, ◌≡◌, true, false, List}
use Rattle.std.proofs.Math.Option.{some}
use Rattle.cell.specs.Name.{name_from, vci_in}
use Rattle.connection_members.specs.Path.{is_path, path_of}
use Rattle.model.specs.Call.{Call, slot}
use Rattle.abr.specs.Exports.{Observation, Performs, Transcript, final_words, zeros}
use Rattle.exports.specs.Returned.{no_member, members_seen, went_to}
use Rattle.exports.specs.Along.{kept}
use Rattle.exports_rates.specs.Seen.{seen_of}
use Rattle.exports_service.specs.Fairness.{cells_seen, no_cells}

-- of two members of one path, the turn of x comes no later than that of z, if the VCI `last` was served last; 0
-- means none yet, since members begin at 32
pub data NotLater (last x z : ℕ) : Type 0 where
  onward : last < vci_in x → (last < vci_in z → vci_in x ≤ vci_in z) → NotLater last x z
  round : vci_in z ≤ last → vci_in x ≤ vci_in z → NotLater last x z

-- x is a member of v, data waits on it, and its turn comes first among the members of v on which data waits
pub record InTurn (waits : ℕ → ℕ) (last v x : ℕ) : Type 0 where
  pub path : path_of x ≡ v
  pub some : 0 < waits x
  pub first : (z : ℕ) → path_of z ≡ v → 0 < waits z → NotLater last x z

-- after any exported calls from the zero table, a slot that returned a data cell, kind 3, of the connection v
pub record ExportsInTurn : Type 0 where
  pub in_turn :
      (cs : List Call) (os : List Observation) → Transcript cs zeros os → (t room v : ℕ) (o : Observation) → Performs (slot t room) (final_words zeros os) o
      → went_to (members_seen no_member cs os) o.returned ≡ some v → o.returned.kind ≡ 3 → is_path v ≡ true
      → InTurn (kept cells_seen no_cells cs os) (seen_of v cs os).served v (name_from o.returned.vpi o.returned.vci)
  pub own :
      (cs : List Call) (os : List Observation) → Transcript cs zeros os → (t room v : ℕ) (o : Observation) → Performs (slot t room) (final_words zeros os) o
      → went_to (members_seen no_member cs os) o.returned ≡ some v → o.returned.kind ≡ 3 → is_path v ≡ false
      → name_from o.returned.vpi o.returned.vci ≡ v
