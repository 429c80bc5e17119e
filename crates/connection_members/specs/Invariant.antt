-- What holds of the members of every table that calls made. (Document 02, L13.)
use Rattle.std.specs.Prelude.{◌≤◌, ◌<◌, List, [], ◌∷◌, length}
use Rattle.cell.specs.Name.{no_name, vci_in}
use Rattle.laws.specs.All.{All}
use Rattle.connection_members.specs.Path.{first_vci}
use Rattle.connection_members.specs.Members.{Member, member_capacity}

-- each name is above those before it
abbrev pub Rising : List Member → Type 0
Rising [] = Unit
Rising (m ∷ ms) = All (λ n. m.name < n.name) ms × Rising ms

pub record ValidMember (m : Member) : Type 0 where
  pub coded : m.name < no_name
  pub high : first_vci ≤ vci_in m.name
  pub stocked : m.cells ≤ 65535

pub record ValidMembers (ms : List Member) : Type 0 where
  pub few : length ms ≤ member_capacity
  pub rising : Rising ms
  pub each : All ValidMember ms
