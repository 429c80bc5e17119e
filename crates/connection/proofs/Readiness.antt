-- What a ready instant depends on. At an allowed rate of 0 a connection is never ready. At any other its
-- pace decides. (Document 02, L5.)
use Rattle.std.specs.Prelude.{Some, None}
use Prim.Native.Nat.{ℕ, ◌<◌}
use mathlib.Core.Path.{◌≡◌, refl, ap, ap₂, ◌∙◌}
use mathlib.Core.Logic.{◌≢◌}
use mathlib.Core.Bool.{Bool, true, false, cond}
use mathlib.Core.Option.{Option}
use native.Mathlib.Omega.{arith}
use lib.Dec.{eqb}
use borrow.Author.Tests.{eq-eqb, ne_eqb, eqb-false}
use Rattle.rate_moves.specs.declared.moves.Rate.{Rate}
use Rattle.connection.specs.Parts.{Connection, Pace, Unsent, Running, waiting, Instant}
use Rattle.connection.specs.Source.{with_served, after_out_of_rate}
use Rattle.connection.specs.Ready.{backward_waits, any_waits, last_before, ready_from, ready_instant}

module _ (c : Connection) where
  pub ready-zero : c.rate.acr ≡ 0 → ready_instant c ≡ None
  unfolding ready_instant
  ready-zero e = rw (eq-eqb c.rate.acr 0 e)

  pub ready-moving : c.rate.acr ≢ 0 → ready_instant c ≡ ready_from c c.pace
  unfolding ready_instant
  ready-moving n = rw (ne_eqb c.rate.acr 0 n)

  -- a connection that is ready at some instant has an allowed rate above 0
  pub ready-some : (i : ℕ) → ready_instant c ≡ Some i → (0 < c.rate.acr) × (ready_from c c.pace ≡ Some i)
  unfolding ready_instant
  ready-some i e = go (eqb c.rate.acr 0) refl e
    where
      go : (b : Bool) → eqb c.rate.acr 0 ≡ b → cond b None (ready_from c c.pace) ≡ Some i → (0 < c.rate.acr) × (ready_from c c.pace ≡ Some i)
      go true q e = let z : ◌≡◌ {A = ℕ} 0 1 = cc in absurd (omega arith)
      go false q e = (omega (arith, eqb-false c.rate.acr 0 q), e)

-- The ready instant depends on the rate, the pace, the opening time, Trm and on whether anything waits.
from-same :
    (c d : Connection) → d.opened ≡ c.opened → d.trm ≡ c.trm → d.rate ≡ c.rate → any_waits d ≡ any_waits c → (p : Pace) → ready_from d p ≡ ready_from c p
unfolding ready_from last_before any_waits
from-same c d o t q a Unsent = rw (o, a)
from-same c d o t q a (Running sent forward k turned) = rw (t, q, a)

waits-same : (c d : Connection) → waiting d.queue ≡ waiting c.queue → d.destination.turned ≡ c.destination.turned → d.destination.made ≡ c.destination.made → any_waits d ≡ any_waits c
unfolding any_waits backward_waits
waits-same c d l t m = rw (l, t, m)

pub ready-same :
    (c d : Connection) → d.opened ≡ c.opened → d.trm ≡ c.trm → d.rate ≡ c.rate → d.pace ≡ c.pace → waiting d.queue ≡ waiting c.queue → d.destination.turned ≡ c.destination.turned
    → d.destination.made ≡ c.destination.made → ready_instant d ≡ ready_instant c
unfolding ready_instant
ready-same c d o t q p l u m =
    ap₂ (λ (b : Bool) (i : Instant). cond b None i) (ap (λ (x : Rate). eqb x.acr 0) q)
    (from-same c d o t q (waits-same c d l u m) d.pace ∙ ap (ready_from c) p)

-- an out-of-rate cell moves none of these
pub ready-out-of-rate : (t : ℕ) (c : Connection) → ready_instant (after_out_of_rate t c) ≡ ready_instant c
unfolding after_out_of_rate
ready-out-of-rate t c = ready-same c (after_out_of_rate t c) refl refl refl refl refl refl refl

-- nor does the member that was served last
pub ready-served : (x : Option ℕ) (c : Connection) → ready_instant (with_served x c) ≡ ready_instant c
unfolding with_served
ready-served x c = ready-same c (with_served x c) refl refl refl refl refl refl refl
