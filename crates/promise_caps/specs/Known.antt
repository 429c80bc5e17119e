-- What a transmitter knows of a name from its calls and what they returned: the parameters under which it is open,
-- and the cap of its rate. The cap is max(MCR, min(PCR, ER)) of the last backward cell. Before the first one it is
-- the initial rate used. (Document 01, "Four moves of the allowed rate"; document 02, L14.)
use Rattle.std.specs.Prelude.{ℕ, Bool, cond, eqb}
use Rattle.std.proofs.Math.Option.{Option, none, some}
use Rattle.rate.specs.Code.{rate_of}
use Rattle.rate_params.specs.declared.params.Params.{Params}
use Rattle.rate_params.specs.Params.{initial_used}
use Rattle.cell.specs.Read.{Reading, Refused as Unread, DataCell, RmCell}
use Rattle.cell.specs.Fields.{cell_name}
use Rattle.cell.specs.Reading.{reading}
use Rattle.model.specs.Call.{Call}
use Rattle.model.specs.Aspects.{Sort, opener, closer, arrival, slot_at, another, sort_of}
use Rattle.model.specs.Run.{params_after}
use Rattle.promise_loop.specs.Settled.{settled_rate}

-- a name that is opened begins with its initial rate
unfoldable pub open_cap : (a : ℕ) → Params → Option Params → ℕ
open_cap a p none = initial_used p
open_cap a p (some q) = a

-- a backward cell of an open connection allows max(MCR, min(PCR, ER)); it is accepted
unfoldable pub fed_cap : (a er : ℕ) → Option Params → ℕ
fed_cap a e none = a
fed_cap a e (some p) = settled_rate p e

unfoldable pub read_cap : (v a : ℕ) → Option Params → Reading → ℕ
read_cap v a g (Unread n) = a
read_cap v a g (DataCell i j e) = a
read_cap v a g (RmCell f) = cond (eqb f.dir 1) (cond (eqb (cell_name f) v) (fed_cap a (rate_of f.er) g) a) a

-- the cap of v after a call, from the one before and the parameters under which v was open: only an open and a
-- backward cell of v change it
abbrev pub cap_sort : (v a : ℕ) → Option Params → Sort → ℕ
cap_sort v a g (opener u t p) = cond (eqb u v) (open_cap a p g) a
cap_sort v a g (closer u) = a
cap_sort v a g (arrival o) = read_cap v a g (reading o)
cap_sort v a g (slot_at t) = a
cap_sort v a g another = a

unfoldable pub cap_by : (v a : ℕ) → Option Params → Call → ℕ
cap_by v a g c = cap_sort v a g (sort_of c)

pub record Known : Type 0 where
  pub given : Option Params
  pub cap : ℕ

-- before any call
abbrev pub unknown : Known
unknown = record { given = none; cap = 0 }

-- after a call that was accepted or not
abbrev pub known_by : (v : ℕ) → Call → (accepted : Bool) → Known → Known
known_by v c b k = record { given = params_after v c b k.given; cap = cap_by v k.cap k.given c }

-- a number for an open connection, none for a name that is not open; and so what a name's cap takes of the line
unfoldable pub if_given : Option Params → ℕ → ℕ
if_given none n = 0
if_given (some p) n = n

abbrev pub load : Known → ℕ
load k = if_given k.given k.cap
