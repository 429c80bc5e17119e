-- What holds of each open connection in every table that the calls make from an empty one.
-- It is said of the parts, so that it goes over by itself to a connection with the same parts.
use Rattle.std.specs.Prelude.{ℕ, ◌*◌, ◌≤◌, ◌<◌, ◌≡◌, true, false, Some, None}
use Rattle.rate_params.specs.declared.params.Params.{Params}
use Rattle.rate_moves.specs.declared.moves.Rate.{Rate}
use Rattle.rate_params.specs.Params.{nrm, params_fit, tbe_fits, frtt_fits, trm_time}
use Rattle.rate_moves.specs.Bounds.{Between, RateInBounds}
use Rattle.cell.specs.Name.{vci_in, no_name}
use Rattle.connection_members.specs.Path.{is_path, first_vci}
use Rattle.connection_members.specs.Members.{member_capacity}
use Rattle.connection.specs.Parts.{Connection, Pace, Unsent, Running, Queue, Change, Made, Instant, waiting, waiting_most, unanswered_most}

-- At any time the rate, and the rates before and after the last backward cell, are between
-- its bounds. Y is within its own.
pub record PartsInBounds (q : Rate) (y : ℕ) (x : Change) : Type 0 where
  pub rates : RateInBounds q
  pub before : Between q.params x.before
  pub after : Between q.params x.after
  pub counted : y ≤ unanswered_most

abbrev pub InBounds : Connection → Type 0
InBounds c = PartsInBounds c.rate c.unanswered c.change

-- A channel's data is at most 65,535 cells. A path's is at most as much for each of its members (document 02, L13).
pub record QueueFits (name : ℕ) (l : Queue) : Type 0 where
  pub channel : is_path name ≡ false → waiting l ≤ waiting_most
  pub path : waiting l ≤ member_capacity * waiting_most
  pub served : l.served ≤ 65535

-- no cell was sent after now, no forward cell after the last cell, and k is below Nrm
abbrev pub PaceFits : (now nrm : ℕ) → Pace → Type 0
PaceFits now n Unsent = Unit
PaceFits now n (Running sent forward k turned) = (forward ≤ sent) × (sent ≤ now) × (k < n)

-- A connection's name, parameters and instants, at the time of the last accepted open, slot, making or out-of-rate
-- cell. The name has 24 bits, with a path's VCI or one from 32 on.
pub record PartsValidAt (now name opened trm : ℕ) (p : Params) (pace : Pace) : Type 0 where
  pub assigned : is_path name ≡ false → first_vci ≤ vci_in name
  pub coded : name < no_name
  pub fits : params_fit p ≡ true
  pub tbe : tbe_fits p ≡ true
  pub frtt : frtt_fits p ≡ true
  pub trm_time : trm ≡ trm_time p.trm
  pub past : opened ≤ now
  pub paced : PaceFits now (nrm p) pace

-- not after now, if there is such an instant
abbrev pub NotAfter : (now : ℕ) → Instant → Type 0
NotAfter now None = Unit
NotAfter now (Some i) = i ≤ now

-- the made cell that waits has a level of the engine, and none was made after now
pub record MadeValidAt (now : ℕ) (m : Made) : Type 0 where
  pub level : m.level ≤ 2
  pub past : NotAfter now m.last

abbrev pub ValidAt : (now : ℕ) → Connection → Type 0
ValidAt now c =
    PartsValidAt now c.name c.opened c.trm c.rate.params c.pace × InBounds c × MadeValidAt now c.destination.made × NotAfter now c.out_of_rate
    × QueueFits c.name c.queue
