-- How a transmitter that is the port of its own line keeps the caps of its connections within a capacity. No open,
-- and no backward cell that it lets in, takes more than the caps of the others leave. So a rise waits by itself
-- for the falls that make room for it.
use Rattle.std.specs.Prelude.{ℕ, ◌-◌, ◌≤◌, ◌≡◌, Bool, false, true, cond, List, [], ◌∷◌, eqb}
use Rattle.std.proofs.Math.Option.{some}
use Rattle.rate.specs.Code.{rate_of}
use Rattle.rate_params.specs.declared.params.Params.{Params}
use Rattle.rate_params.specs.Params.{least, initial_used}
use Rattle.cell.specs.declared.fields.Fields.{Fields}
use Rattle.cell.specs.Read.{Reading, Refused as Unread, DataCell, RmCell}
use Rattle.cell.specs.Fields.{cell_name}
use Rattle.cell.specs.Reading.{reading}
use Rattle.port.specs.Limit.{limit}
use Rattle.model.specs.Call.{Call, receiving}
use Rattle.promise_delivery.specs.Calls.{total, is_in}
use Rattle.model.specs.Aspects.{Sort, opener, closer, arrival, slot_at, another, sort_of}
use Rattle.promise_caps.specs.Known.{Known, known_by, load}

-- each name once
abbrev pub Distinct : (names : List ℕ) → Type 0
Distinct [] = Unit
Distinct (v ∷ vs) = (is_in v vs ≡ false) × Distinct vs

-- what the caps of the other names leave
abbrev pub room : (capacity : ℕ) (names : List ℕ) → (ℕ → Known) → (name : ℕ) → ℕ
room capacity vs k v = capacity - total (λ u. cond (eqb u v) 0 (load (k u))) vs

-- the rule: the initial rate used of an open and the ER of a backward cell are at most the room of their name
abbrev pub ReadInRoom : (capacity : ℕ) (names : List ℕ) → (ℕ → Known) → Reading → Type 0
ReadInRoom capacity vs k (Unread n) = Unit
ReadInRoom capacity vs k (DataCell i j e) = Unit
ReadInRoom capacity vs k (RmCell f) = f.dir ≡ 1 → rate_of f.er ≤ room capacity vs k (cell_name f)

abbrev pub SortInRoom : (capacity : ℕ) (names : List ℕ) → (ℕ → Known) → Sort → Type 0
SortInRoom capacity vs k (opener u t p) = initial_used p ≤ room capacity vs k u
SortInRoom capacity vs k (closer u) = Unit
SortInRoom capacity vs k (arrival o) = ReadInRoom capacity vs k (reading o)
SortInRoom capacity vs k (slot_at t) = Unit
SortInRoom capacity vs k another = Unit

abbrev pub InRoom : (capacity : ℕ) (names : List ℕ) → (ℕ → Known) → Call → Type 0
InRoom capacity vs k c = SortInRoom capacity vs k (sort_of c)

-- the cap of what is open is at least its minimum
abbrev pub CapsAtLeast : (ℕ → Known) → Type 0
CapsAtLeast k = (v : ℕ) (p : Params) → (k v).given ≡ some p → least p ≤ (k v).cap

pub record RoomKept (capacity : ℕ) (vs : List ℕ) (k : ℕ → Known) : Type 0 where
  -- a call by the rule leaves caps that fit, if they did
  pub fits : (c : Call) (accepted : Bool) → InRoom capacity vs k c → total (λ v. load (known_by v c accepted (k v))) vs ≤ capacity
  -- the room of a name is never less than its own cap, so that no limit takes its minimum
  pub enough : (v : ℕ) → is_in v vs ≡ true → load (k v) ≤ room capacity vs k v
  -- a cell that was limited to the room of its name is by the rule
  pub limited :
      (rate : ℕ) (o : List ℕ) → ((f : Fields) → reading (limit rate o).cell ≡ RmCell f → f.dir ≡ 1 → rate ≤ room capacity vs k (cell_name f))
      → InRoom capacity vs k (receiving (limit rate o).cell)

abbrev pub RoomsKept : Type 0
RoomsKept = (capacity : ℕ) (vs : List ℕ) (k : ℕ → Known) → Distinct vs → CapsAtLeast k → total (λ v. load (k v)) vs ≤ capacity → RoomKept capacity vs k
