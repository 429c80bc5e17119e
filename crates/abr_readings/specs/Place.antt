-- Where a name or a leaf leads: to an entry in use, or to none.
use Rattle.std.specs.Prelude.{◌≡◌, ℕ, ◌+◌, false, Option, Some, None, List, slice_index, slice_index_or}
use Rattle.connection.specs.declared.parts.Connection.{Connection}
use Rattle.connection.specs.Ready.{ready_instant}
use Rattle.model.specs.State.{State, free, taken}
use Rattle.model.specs.Queries.{ready_word}
use Rattle.model.specs.Answers.{Status, NothingOpen}
use Rattle.table.specs.Layout.{record_from}
use Rattle.table.specs.Loading.{low_in}
use Rattle.abr_answers.specs.declared.status.AbrConnection.{AbrConnection}
use Rattle.abr_answers.specs.Status.{kind_shown, shown_as, connection_shown}
use Rattle.abr_readings.specs.declared.place.Place.{Place}

-- the connection in entry i, by its own name
abbrev pub own_place : List ℕ → (i name : ℕ) → Place
own_place l i x = record { name = x; entry = i; kind = kind_shown x false; waiting = low_in (slice_index l (record_from i + 4)) }

-- what is shown of a connection that stands there
abbrev pub shown_in : Place → Connection → AbrConnection
shown_in p c = shown_as p.kind p.name p.entry p.waiting (ready_word (ready_instant c)) c

-- an entry in use, of which this is shown
pub record Holds (s : State) (r : Status) (p : Place) : Type 0 where
  pub holder : Connection
  pub here : slice_index_or s.entries p.entry free ≡ taken holder
  pub shows : shown_in p holder ≡ connection_shown r

-- the place that was found, or none
abbrev pub Points : State → Status → Option Place → Type 0
Points s r None = NothingOpen ≡ r
Points s r (Some p) = Holds s r p
