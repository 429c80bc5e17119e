-- What a caller knows from calls and what they returned: which names are open, and which are members.
-- (Document 01, "The lists of demand 3"; document 02, L13.)
use Rattle.std.specs.Prelude.{ℕ, ◌≡◌, true, List}
use Rattle.std.proofs.Math.Option.{none, some}
use Rattle.rate_params.specs.declared.params.Params.{Params}
use Rattle.cell.specs.Name.{address_name}
use Rattle.cell.specs.Header.{vpi_of, vci_of}
use Rattle.model.specs.Call.{Call}
use Rattle.abr.specs.Exports.{Observation}
use Rattle.exports.specs.Exports.{params_observed}
use Rattle.exports.specs.Returned.{no_member, members_seen}

-- a name is open: an open of it returned 0, and no close of it since
pub record Opened (cs : List Call) (os : List Observation) (v : ℕ) : Type 0 where
  pub params : Params
  pub given : params_observed v none cs os ≡ some params

-- a name is a member: an adding of it returned 0, and since then neither a removal of it nor a close of its path
abbrev pub KnownMember : List Call → List Observation → ℕ → Type 0
KnownMember cs os x = members_seen no_member cs os x ≡ true

-- the name of a cell, by its VPI and VCI
abbrev pub name_in : List ℕ → ℕ
name_in octets = address_name (vpi_of octets) (vci_of octets)
