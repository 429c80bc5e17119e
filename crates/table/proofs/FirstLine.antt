-- What the first line of a record shows is enough for the kind of the next cell, and for all that a data cell makes of
-- a connection.
use Rattle.std.specs.Prelude.{Some, None}
use Prim.Native.Nat.{ℕ}
use mathlib.Core.Path.{◌≡◌, refl, sym, ap, ap₂, ◌∙◌}
use mathlib.Core.Bool.{Bool, false, cond}
use native.Mathlib.Omega.{arith}
use Rattle.connection.specs.declared.parts.Connection.{Connection}
use Rattle.connection.specs.declared.parts.Pace.{Pace}
use Rattle.connection.specs.declared.parts.Pace.TheVariants.{Unsent, Running}
use Rattle.connection.specs.declared.parts.Queue.{Queue}
use Rattle.connection.specs.declared.kind.Kind.TheVariants.{Forward, Turned, Data}
use Rattle.connection.specs.Parts.{with_pace, with_queue, Waiting}
use Rattle.connection.specs.Pace.{paced}
use Rattle.connection.specs.Range.{InRange}
use Rattle.connection.specs.Ready.{waits, backward_waits, any_waits, last_before, ready_from, ready_instant}
use Rattle.connection.specs.Kind.{is_forward, is_turned, kind_at}
use Rattle.connection.proofs.Keeps.{data≢forward}
use Rattle.table.specs.Loading.{emptied, first_line}

-- whether a cell waits, not which
waits-emptied : (w : Waiting) → waits (emptied w) ≡ waits w
unfolding waits
waits-emptied None = refl
waits-emptied (Some p) = refl

turned-line : (c : Connection) (p : Pace) → is_turned (first_line c) p ≡ is_turned c p
unfolding is_turned backward_waits
turned-line c Unsent = refl
turned-line c (Running sent forward k turned) = rw (waits-emptied c.destination.turned)

forward-line : (t : ℕ) (c : Connection) (p : Pace) → is_forward t (first_line c) p ≡ is_forward t c p
unfolding is_forward
forward-line t c Unsent = refl
forward-line t c (Running sent forward k turned) = refl

pub kind-line : (t : ℕ) (c : Connection) → kind_at t (first_line c) ≡ kind_at t c
unfolding kind_at
kind-line t c = ap₂ (λ (a b : Bool). cond a Forward (cond b Turned Data)) (forward-line t c c.pace) (turned-line c c.pace)

-- a connection that has sent a cell is ready by its first line
ready-line : (c : Connection) (sent forward k : ℕ) (b : Bool) (q : Queue)
    → ready_instant (with_queue (with_pace (first_line c) (Running sent forward k b)) q) ≡ ready_instant (with_queue (with_pace c (Running sent forward k b)) q)
unfolding ready_instant ready_from any_waits backward_waits last_before
ready-line c sent forward k b q = rw (waits-emptied c.destination.turned)

-- and a connection that sends data has sent one
pub data-ready : (t : ℕ) (c : Connection) (q : Queue) → kind_at t c ≡ Data → ready_instant (with_queue (with_pace (first_line c) (paced t false c.pace)) q) ≡ ready_instant (with_queue (with_pace c (paced t false c.pace)) q)
unfolding kind_at is_forward paced
data-ready t c q e = go c.pace refl
  where
    go : (p : Pace) → c.pace ≡ p → ready_instant (with_queue (with_pace (first_line c) (paced t false c.pace)) q) ≡ ready_instant (with_queue (with_pace c (paced t false c.pace)) q)
    go Unsent f = absurd (data≢forward (sym e ∙ ap (λ (p : Pace). cond (is_forward t c p) Forward (cond (is_turned c p) Turned Data)) f))
    go (Running sent forward k turned) f = rw f (ready-line c t forward _ _ q)

pub line-ranged : (c : Connection) → InRange c → InRange (first_line c)
line-ranged c h = record { opened = omega arith; trm = h.trm; pace = h.pace; made = tt; out_of_rate = tt }
