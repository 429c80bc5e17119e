-- When a connection is ready: in time if anything waits, and after a cell not before a gap has passed.
use Rattle.std.specs.Prelude.{Some, None}
use Prim.Native.Nat.{ℕ, ◌+◌, ◌≤◌, max}
use mathlib.Core.Path.{◌≡◌, refl}
use mathlib.Core.Bool.{Bool, true, false, cond, ◌||◌}
use native.Mathlib.Omega.{arith}
use lib.Dec.{leb}
use Rattle.rate.specs.Gap.{gap}
use Rattle.connection.specs.Parts.{Connection, Pace, Unsent, Running}
use Rattle.connection.specs.Ready.{any_waits, last_before, ready_from, ready_instant}
use Rattle.connection.specs.Kind.{Kind, Forward, Turned, Data, is_forward, kind_at}
use Rattle.connection.specs.Pace.{paced}
use Rattle.connection.specs.Source.{sent_forward, sent_data}
use Rattle.connection.specs.Destination.{sent_turned}
use Rattle.connection.specs.Slot.{after}
use Rattle.connection.proofs.Readiness.{ready-some}
use Rattle.connection.proofs.Keeps.{not-forward, turned≢forward, data≢forward}

-- the opening time, or the last send plus the gap
unfoldable pub due_from : Connection → Pace → ℕ
due_from c Unsent = c.opened
due_from c (Running sent forward k turned) = sent + gap c.rate.acr

pub waits-ready : (c : Connection) (p : Pace) → any_waits c ≡ true → ready_from c p ≡ Some (due_from c p)
unfolding ready_from due_from
waits-ready c Unsent e = rw e
waits-ready c (Running sent forward k turned) e = rw e

due-least : (c : Connection) (p : Pace) (j : ℕ) → ready_from c p ≡ Some j → due_from c p ≤ j
unfolding ready_from due_from
due-least c Unsent j e = go (any_waits c) e
  where
    go : (x : Bool) → cond x (Some c.opened) None ≡ Some j → c.opened ≤ j
    go true e = let q : c.opened ≡ j = cc in omega arith
    go false e = let z : ◌≡◌ {A = ℕ} 0 1 = cc in absurd (omega arith)
due-least c (Running sent f k b) j e = go (any_waits c || last_before c k) (leb 2 k) e
  where
    go : (x y : Bool) → cond x (Some (sent + gap c.rate.acr)) (cond y (Some (max (sent + gap c.rate.acr) (f + c.trm))) None) ≡ Some j → sent + gap c.rate.acr ≤ j
    go true y e = let q : sent + gap c.rate.acr ≡ j = cc in omega arith
    go false true e = let q : max (sent + gap c.rate.acr) (f + c.trm) ≡ j = cc in omega arith
    go false false e = let z : ◌≡◌ {A = ℕ} 0 1 = cc in absurd (omega arith)

pub ready-due : (c : Connection) (j : ℕ) → ready_instant c ≡ Some j → due_from c c.pace ≤ j
ready-due c j e = due-least c c.pace j (ready-some c j e).1

-- the last cell went at t
data Went (t : ℕ) : Pace → Type 0 where
  went : (forward k : ℕ) (turned : Bool) → Went t (Running t forward k turned)

paced-went : (t : ℕ) (c : Connection) (b : Bool) (p : Pace) → is_forward t c p ≡ false → Went t (paced t b p)
unfolding is_forward paced
paced-went t c b Unsent e = let z : ◌≡◌ {A = ℕ} 0 1 = cc in absurd (omega arith)
paced-went t c b (Running sent forward k turned) e = went _ _ _

after-went : (k : Kind) (t : ℕ) (c : Connection) → kind_at t c ≡ k → Went t (after k t c).pace
unfolding after sent_forward sent_turned sent_data
after-went Forward t c e = went _ _ _
after-went Turned t c e = paced-went t c true c.pace (not-forward Turned t c e turned≢forward)
after-went Data t c e = paced-went t c false c.pace (not-forward Data t c e data≢forward)

went-due : (t : ℕ) (c : Connection) (p : Pace) → Went t p → due_from c p ≡ t + gap c.rate.acr
unfolding due_from
went-due t c _ (went f k b) = refl

pub sent-spaced : (t : ℕ) (c : Connection) (j : ℕ) → ready_instant (after (kind_at t c) t c) ≡ Some j → t + gap (after (kind_at t c) t c).rate.acr ≤ j
sent-spaced t c j e =
    let d = after (kind_at t c) t c in
    rw (← went-due t d d.pace (after-went (kind_at t c) t c refl)) (ready-due d j e)
