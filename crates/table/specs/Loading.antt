-- The connection that an entry's words stand for, whatever they are. Each number is brought into the range in
-- which the engine adds without wrapping. That changes no number of a table that calls made.
use Rattle.std.specs.Prelude.{ℕ, ◌+◌, ◌-◌, ◌/◌, ◌%◌, ◌^◌, cond, List, ltb, eqb, get_or, Some, None}
use Rattle.rate_params.specs.declared.params.Params.{Params}
use Rattle.cell_payload.specs.declared.payload.Payload.{Payload}
use Rattle.cell.specs.Name.{no_name}
use Rattle.connection.specs.declared.parts.Pace.{Pace}
use Rattle.connection.specs.declared.parts.Pace.TheVariants.{Unsent, Running}
use Rattle.connection.specs.declared.parts.Queue.{Queue}
use Rattle.connection.specs.declared.parts.Destination.{Destination}
use Rattle.connection.specs.declared.parts.Connection.{Connection}
use Rattle.connection.specs.Parts.{changed, Waiting, Instant}
use Rattle.table.specs.Layout.{no_payload, record_from}

-- the two numbers of a word
abbrev pub high_in : (word : ℕ) → ℕ
high_in w = w / 2 ^ 32 % 2 ^ 32

abbrev pub low_in : (word : ℕ) → ℕ
low_in w = w % 2 ^ 32

abbrev pub pace_of : (sent forward word : ℕ) → Pace
pace_of sent forward w = cond (eqb (high_in w) 0) Unsent (Running (sent % 2 ^ 63) (forward % 2 ^ 63) (w % 32768) (eqb (high_in w) 2))

-- bit 0 is the saved EFCI, bit 1 says that a turned cell waits
abbrev pub waiting_of : (word : ℕ) → Payload → Waiting
waiting_of w p = cond (ltb (w % 4) 2) None (Some p)

abbrev pub payload_at : List ℕ → ℕ → Payload
payload_at l b = record { a = get_or l b 0; b = get_or l (b + 1) 0; c = get_or l (b + 2) 0; d = get_or l (b + 3) 0; e = get_or l (b + 4) 0; f = get_or l (b + 5) 0 }

abbrev pub instant_of : (word : ℕ) → Instant
instant_of w = cond (eqb w 0) None (Some ((w - 1) % 2 ^ 63))

abbrev pub destination_of : (word : ℕ) → Payload → (last : Instant) → Destination
destination_of w p i = record { efci = eqb (w % 2) 1; turned = waiting_of w p; made = record { level = high_in w; last = i } }

-- the waiting data of every path fits in 24 bits, a VCI in 16
abbrev pub queue_of : (word : ℕ) → Queue
queue_of w = record { cells = w % 2 ^ 24; served = high_in w % 2 ^ 16 }

-- an identity: a name in 24 bits, n in eight, Trm in the rest
abbrev pub name_of : (word : ℕ) → ℕ
name_of w = w % no_name

abbrev pub n_of : (word : ℕ) → ℕ
n_of w = w / 2 ^ 24 % 2 ^ 8

-- the parameters of a record from index b on
abbrev pub params_at : List ℕ → (b : ℕ) → Params
params_at l b = record {
  pcr = low_in (get_or l (b + 12) 0);
  mcr = high_in (get_or l (b + 12) 0);
  icr = low_in (get_or l (b + 13) 0);
  n = n_of (get_or l (b + 1) 0);
  r = get_or l (b + 15) 0 % 2 ^ 16;
  d = get_or l (b + 15) 0 / 2 ^ 16 % 2 ^ 16;
  c = get_or l (b + 15) 0 / 2 ^ 32 % 2 ^ 16;
  tbe = low_in (get_or l (b + 14) 0);
  frtt = high_in (get_or l (b + 14) 0);
  adtf = high_in (get_or l (b + 13) 0);
  trm = get_or l (b + 15) 0 / 2 ^ 48 % 2 ^ 16;
}

-- a connection from the words of a record from index b on
abbrev pub connection_from : List ℕ → (b : ℕ) → Connection
connection_from l b = record {
  name = name_of (get_or l (b + 1) 0);
  opened = get_or l (b + 11) 0 % 2 ^ 63;
  trm = high_in (get_or l (b + 1) 0);
  rate = record { acr = get_or l (b + 3) 0; params = params_at l b };
  pace = pace_of (get_or l (b + 5) 0) (get_or l (b + 6) 0) (get_or l (b + 7) 0);
  unanswered = low_in (get_or l (b + 8) 0);
  queue = queue_of (get_or l (b + 4) 0);
  change = changed (get_or l (b + 9) 0) (get_or l (b + 10) 0);
  destination = destination_of (get_or l (b + 2) 0) (payload_at l (b + 16)) (instant_of (get_or l (b + 22) 0));
  out_of_rate = instant_of (get_or l (b + 23) 0);
}

abbrev pub connection_at : List ℕ → (entry : ℕ) → Connection
connection_at l i = connection_from l (record_from i)

-- What the first line of a record shows of its connection. The rest is 0, none or never: nothing that a data cell asks
-- for depends on it.
abbrev pub only_n : (n : ℕ) → Params
only_n n = record { pcr = 0; mcr = 0; icr = 0; n = n; r = 0; d = 0; c = 0; tbe = 0; frtt = 0; adtf = 0; trm = 0 }

abbrev pub emptied : Waiting → Waiting
emptied None = None
emptied (Some p) = Some no_payload

abbrev pub first_line : Connection → Connection
first_line c = record {
  name = c.name;
  opened = 0;
  trm = c.trm;
  rate = record { acr = c.rate.acr; params = only_n c.rate.params.n };
  pace = c.pace;
  unanswered = 0;
  queue = c.queue;
  change = changed 0 0;
  destination = record { efci = c.destination.efci; turned = emptied c.destination.turned; made = record { level = c.destination.made.level; last = None } };
  out_of_rate = None;
}
