-- A connection, its parts, and the same connection with one part changed.
-- (Document 01, "Opening"; document 02, L9 and L13.)
use Rattle.std.specs.Prelude.{ℕ, ◌+◌, ◌-◌, false, Option, None}
use Rattle.rate_params.specs.declared.params.Params.{Params}
use Rattle.rate_moves.specs.declared.moves.Rate.{Rate}
use Rattle.rate_params.specs.Params.{initial_used, trm_time}
use Rattle.rate_moves.specs.Moves.{opened}
use Rattle.cell_payload.specs.declared.payload.Payload.{Payload}
pub use Rattle.connection.specs.declared.parts.Pace.{Pace}
pub use Rattle.connection.specs.declared.parts.Pace.TheVariants.{Unsent, Running}
pub use Rattle.connection.specs.declared.parts.Queue.{Queue}
pub use Rattle.connection.specs.declared.parts.Change.{Change}
pub use Rattle.connection.specs.declared.parts.Made.{Made}
pub use Rattle.connection.specs.declared.parts.Destination.{Destination}
pub use Rattle.connection.specs.declared.parts.Connection.{Connection}

-- an instant in nanoseconds, or none: a ready instant, or that of the last making or of the last out-of-rate cell
abbrev pub Instant : Type 0
Instant = Option ℕ

-- the one turned cell that waits, if any
abbrev pub Waiting : Type 0
Waiting = Option Payload

-- All that the calls do to a connection is made of these seven.
abbrev pub with_rate : Connection → Rate → Connection
with_rate c q = record { name = c.name; opened = c.opened; trm = c.trm; rate = q; pace = c.pace; unanswered = c.unanswered; queue = c.queue; change = c.change; destination = c.destination; out_of_rate = c.out_of_rate }

abbrev pub with_pace : Connection → Pace → Connection
with_pace c p = record { name = c.name; opened = c.opened; trm = c.trm; rate = c.rate; pace = p; unanswered = c.unanswered; queue = c.queue; change = c.change; destination = c.destination; out_of_rate = c.out_of_rate }

abbrev pub with_unanswered : Connection → ℕ → Connection
with_unanswered c y = record { name = c.name; opened = c.opened; trm = c.trm; rate = c.rate; pace = c.pace; unanswered = y; queue = c.queue; change = c.change; destination = c.destination; out_of_rate = c.out_of_rate }

abbrev pub with_queue : Connection → Queue → Connection
with_queue c l = record { name = c.name; opened = c.opened; trm = c.trm; rate = c.rate; pace = c.pace; unanswered = c.unanswered; queue = l; change = c.change; destination = c.destination; out_of_rate = c.out_of_rate }

abbrev pub with_change : Connection → Change → Connection
with_change c x = record { name = c.name; opened = c.opened; trm = c.trm; rate = c.rate; pace = c.pace; unanswered = c.unanswered; queue = c.queue; change = x; destination = c.destination; out_of_rate = c.out_of_rate }

abbrev pub with_destination : Connection → Destination → Connection
with_destination c b = record { name = c.name; opened = c.opened; trm = c.trm; rate = c.rate; pace = c.pace; unanswered = c.unanswered; queue = c.queue; change = c.change; destination = b; out_of_rate = c.out_of_rate }

abbrev pub with_out_of_rate : Connection → Instant → Connection
with_out_of_rate c i = record { name = c.name; opened = c.opened; trm = c.trm; rate = c.rate; pace = c.pace; unanswered = c.unanswered; queue = c.queue; change = c.change; destination = c.destination; out_of_rate = i }

-- the most data cells that wait on a channel or on a member (refusal 15), and the most that Y counts
abbrev pub waiting_most : ℕ
waiting_most = 65535

abbrev pub unanswered_most : ℕ
unanswered_most = 8_388_608

-- the data cells that wait; n more; n less
abbrev pub waiting : Queue → ℕ
waiting l = l.cells

abbrev pub enqueued : ℕ → Queue → Queue
enqueued n l = record { cells = l.cells + n; served = l.served }

abbrev pub dequeued : ℕ → Queue → Queue
dequeued n l = record { cells = l.cells - n; served = l.served }

-- no cell waits, none was made, and no EFCI is saved
abbrev pub fresh_destination : Destination
fresh_destination = record { efci = false; turned = None; made = record { level = 0; last = None } }

-- the allowed rate before a backward cell and after it
abbrev pub changed : (before after : ℕ) → Change
changed a b = record { before = a; after = b }

-- a connection as it starts: ACR is the ICR used, no cell sent, nothing waiting, Y = 0, no change by a backward
-- cell (document 02, L9), no out-of-rate cell
unfoldable pub fresh : (name time : ℕ) → Params → Connection
fresh v t p = record {
  name = v;
  opened = t;
  trm = trm_time p.trm;
  rate = opened p;
  pace = Unsent;
  unanswered = 0;
  queue = record { cells = 0; served = 0 };
  change = changed (initial_used p) (initial_used p);
  destination = fresh_destination;
  out_of_rate = None;
}
