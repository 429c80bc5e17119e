-- A connection in range is in range again after an open, an offer, a received cell, a making,
-- a slot and an out-of-rate cell.
use Rattle.std.specs.Prelude.{Some, None}
use mathlib.Core.Bool.{Bool}
use Prim.Native.Nat.{ℕ, ◌^◌, ◌<◌}
use native.Mathlib.Omega.{arith}
use Rattle.rate_params.specs.declared.params.Params.{Params}
use Rattle.rate_params.proofs.Ranges.{trm-le}
use Rattle.cell_payload.specs.declared.payload.Payload.{Payload}
use Rattle.cell.specs.declared.fields.Fields.{Fields}
use Rattle.connection.specs.Parts.{Connection, Pace, Unsent, Running, fresh, Waiting, Made}
use Rattle.connection.specs.Pace.{paced}
use Rattle.connection.specs.Source.{offered, after_backward_cell, sent_forward, sent_data, after_out_of_rate}
use Rattle.connection.specs.Destination.{with_made, after_data_cell, after_forward_payload, sent_turned, made_left}
use Rattle.connection.specs.Slot.{after}
use Rattle.connection.specs.Kind.{Kind, Forward, Turned, Data}
use Rattle.connection.specs.Range.{PaceInRange, InRange, CountHasRoom, InstantInRange}

pub fresh-ranged : (name time : ℕ) (p : Params) → time < 2 ^ 63 → InRange (fresh name time p)
unfolding fresh
fresh-ranged name time p h = record { opened = h; trm = omega (arith, trm-le p.trm); pace = tt; made = tt; out_of_rate = tt }

module _ (c : Connection) (h : InRange c) where
  pub offered-ranged : (n : ℕ) → InRange (offered n c)
  unfolding offered
  offered-ranged n = record { opened = h.opened; trm = h.trm; pace = h.pace; made = h.made; out_of_rate = h.out_of_rate }

  pub after-data-cell-ranged : (e : Bool) → InRange (after_data_cell e c)
  unfolding after_data_cell
  after-data-cell-ranged e = record { opened = h.opened; trm = h.trm; pace = h.pace; made = h.made; out_of_rate = h.out_of_rate }

  pub after-backward-cell-ranged : (f : Fields) → InRange (after_backward_cell f c)
  unfolding after_backward_cell
  after-backward-cell-ranged f = record { opened = h.opened; trm = h.trm; pace = h.pace; made = h.made; out_of_rate = h.out_of_rate }

  pub made-ranged : (t level : ℕ) → t < 2 ^ 63 → InRange (with_made t level c)
  unfolding with_made
  made-ranged t level l = record { opened = h.opened; trm = h.trm; pace = h.pace; made = l; out_of_rate = h.out_of_rate }

  pub out-of-rate-ranged : (t : ℕ) → t < 2 ^ 63 → InRange (after_out_of_rate t c)
  unfolding after_out_of_rate
  out-of-rate-ranged t l = record { opened = h.opened; trm = h.trm; pace = h.pace; made = h.made; out_of_rate = l }

  pub after-forward-cell-ranged : (level : ℕ) (p : Payload) → InRange (after_forward_payload level p c)
  unfolding after_forward_payload
  after-forward-cell-ranged level p = record { opened = h.opened; trm = h.trm; pace = h.pace; made = h.made; out_of_rate = h.out_of_rate }

paced-ranged : (t : ℕ) (b : Bool) (p : Pace) → t < 2 ^ 63 → PaceInRange p → CountHasRoom p → PaceInRange (paced t b p)
unfolding paced
paced-ranged t b Unsent l h r = tt
paced-ranged t b (Running sent forward k turned) l h r = (l, h.1, omega arith)

left-ranged : (w : Waiting) (m : Made) → InstantInRange m.last → InstantInRange (made_left w m).last
unfolding made_left
left-ranged None m h = h
left-ranged (Some p) m h = h

-- a slot at t, with room for one more cell
pub after-ranged : (kind : Kind) (t : ℕ) (c : Connection) → t < 2 ^ 63 → InRange c → CountHasRoom c.pace → InRange (after kind t c)
unfolding after sent_forward sent_turned sent_data
after-ranged Forward t c l h r = record { opened = h.opened; trm = h.trm; pace = (l, l, omega arith); made = h.made; out_of_rate = h.out_of_rate }
after-ranged Turned t c l h r = record { opened = h.opened; trm = h.trm; pace = paced-ranged t _ c.pace l h.pace r; made = left-ranged c.destination.turned c.destination.made h.made; out_of_rate = h.out_of_rate }
after-ranged Data t c l h r = record { opened = h.opened; trm = h.trm; pace = paced-ranged t _ c.pace l h.pace r; made = h.made; out_of_rate = h.out_of_rate }
