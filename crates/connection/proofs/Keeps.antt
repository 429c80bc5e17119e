-- Each call keeps what the invariant says of a connection, and its name, opening time, Trm and parameters.
use Rattle.std.specs.Prelude.{Some, None}
use Prim.Native.Nat.{ℕ, ◌+◌, ◌-◌, ◌*◌, ◌≤◌, ◌<◌}
use mathlib.Core.Path.{◌≡◌, refl, sym, ap, ◌∙◌}
use mathlib.Core.Logic.{◌≢◌}
use mathlib.Core.Bool.{Bool, true, false, cond}
use mathlib.Core.List.{List}
use mathlib.Core.Option.{Option, none, some}
use mathlib.Mathlib.Data.Bool.Basic.{or-eq-false-eq-eq-false-and-eq-false}
use native.Mathlib.Nat.{le_refl, le_trans}
use native.Mathlib.Omega.{arith}
use lib.Dec.{eqb}
use lib.Pow.{pow_pos}
use borrow.Author.Tests.{eqb-false}
use Rattle.rate_params.specs.declared.params.Params.{Params}
use Rattle.rate_moves.specs.declared.moves.Rate.{Rate}
use Rattle.rate.specs.Code.{rate_of}
use Rattle.rate_params.specs.Params.{nrm, params_fit, tbe_fits, frtt_fits}
use Rattle.rate_moves.specs.Moves.{moved, first_cell, idle, unanswered, feedback}
use Rattle.rate_moves.specs.Bounds.{RateInBounds}
use Rattle.rate_moves.proofs.FourMoves.{opened-in-bounds, first_cell-in-bounds, first_cell-mono, idle-in-bounds, idle-mono, unanswered-in-bounds, unanswered-mono, feedback-in-bounds}
use Rattle.cell.specs.declared.fields.Fields.{Fields}
use Rattle.cell.specs.Name.{vci_in, no_name}
use Rattle.connection_members.specs.Path.{is_path, first_vci}
use Rattle.connection_members.specs.Members.{member_capacity}
use Rattle.connection_members.specs.Turn.{last_after}
use Rattle.connection.specs.Parts.{Connection, Pace, Unsent, Running, Queue, waiting, dequeued, with_queue, fresh, Instant, Waiting, Made}
use Rattle.connection.specs.Pace.{paced}
use Rattle.connection.specs.Source.{offered, after_backward_cell, moved_by, sent_forward, sent_data, with_served, after_out_of_rate}
use Rattle.connection.specs.Destination.{with_made, after_data_cell, after_forward_cell, sent_turned, made_left}
use Rattle.connection.specs.Received.{after_rm_cell}
use Rattle.connection.specs.Slot.{after}
use Rattle.connection.specs.Ready.{last_before}
use Rattle.connection.specs.Kind.{Kind, Forward, Turned, Data, is_forward, is_turned, kind_at}
use Rattle.connection.specs.Invariant.{InBounds, PaceFits, ValidAt, MadeValidAt, NotAfter, QueueFits}

-- The moves before a forward cell.
moved_by-in-bounds : (t y : ℕ) (p : Pace) (q : Rate) → RateInBounds q → RateInBounds (moved_by t y p q)
unfolding moved_by
moved_by-in-bounds t y Unsent q h = first_cell-in-bounds q h
moved_by-in-bounds t y (Running sent forward k turned) q h = unanswered-in-bounds y (idle (t - forward) q) (idle-in-bounds (t - forward) q h)

pub moved_by-mono : (t y : ℕ) (p : Pace) (q : Rate) (a : ℕ) → a ≤ q.acr → (moved_by t y p (moved q a)).acr ≤ (moved_by t y p q).acr
unfolding moved_by idle
moved_by-mono t y Unsent q a h = first_cell-mono q a h
moved_by-mono t y (Running sent forward k turned) q a h =
    unanswered-mono y (idle (t - forward) q) (idle (t - forward) (moved q a)).acr (idle-mono (t - forward) q a h)

-- they change nothing but the rate
pub moved_by-only : (t y : ℕ) (p : Pace) (q : Rate) (a : ℕ) → moved_by t y p (moved q a) ≡ moved (moved_by t y p q) (moved_by t y p (moved q a)).acr
unfolding moved_by first_cell idle unanswered
moved_by-only t y Unsent q a = refl
moved_by-only t y (Running sent forward k turned) q a = refl

moved_by-params : (t y : ℕ) (p : Pace) (q : Rate) → (moved_by t y p q).params ≡ q.params
unfolding moved_by first_cell idle unanswered
moved_by-params t y Unsent q = refl
moved_by-params t y (Running sent forward k turned) q = refl

-- What stays.
pub record KeepsIdentity (c d : Connection) : Type 0 where
  pub name : d.name ≡ c.name
  pub opened : d.opened ≡ c.opened
  pub trm : d.trm ≡ c.trm
  pub params : d.rate.params ≡ c.rate.params

pub work-same : (level : ℕ) (o : List ℕ) (f : Fields) (c : Connection) → KeepsIdentity c (after_rm_cell level o f c)
unfolding after_rm_cell after_backward_cell after_forward_cell feedback
work-same level o f c = go (eqb f.dir 1)
  where
    go : (t : Bool) → KeepsIdentity c (cond t (after_backward_cell f c) (after_forward_cell level o c))
    go true = record { name = refl; opened = refl; trm = refl; params = refl }
    go false = record { name = refl; opened = refl; trm = refl; params = refl }

pub after_same : (k : Kind) (t : ℕ) (c : Connection) → KeepsIdentity c (after k t c)
unfolding after sent_forward sent_turned sent_data
after_same Forward t c = record { name = refl; opened = refl; trm = refl; params = moved_by-params t c.unanswered c.pace c.rate }
after_same Turned t c = record { name = refl; opened = refl; trm = refl; params = refl }
after_same Data t c = record { name = refl; opened = refl; trm = refl; params = refl }

-- Whatever the time.
fresh-in-bounds : (v t : ℕ) (p : Params) → params_fit p ≡ true → InBounds (fresh v t p)
unfolding fresh
fresh-in-bounds v t p e = let h = opened-in-bounds p e in record { rates = h; before = h; after = h; counted = omega arith }

cleared : (t : Bool) {y : ℕ} → y ≤ 8_388_608 → cond t 0 y ≤ 8_388_608
cleared true h = omega arith
cleared false h = h

after-backward-cell-in-bounds : (f : Fields) (c : Connection) → InBounds c → InBounds (after_backward_cell f c)
unfolding after_backward_cell feedback
after-backward-cell-in-bounds f c s =
    let h = feedback-in-bounds (eqb f.ci 1) (eqb f.ni 1) (rate_of f.er) c.rate s.rates in record {
      rates = h;
      before = s.rates;
      after = h;
      counted = cleared (eqb f.bn 0) s.counted;
    }

work-in-bounds : (level : ℕ) (o : List ℕ) (f : Fields) (c : Connection) → InBounds c → InBounds (after_rm_cell level o f c)
unfolding after_rm_cell after_forward_cell
work-in-bounds level o f c s = go (eqb f.dir 1)
  where
    go : (t : Bool) → InBounds (cond t (after_backward_cell f c) (after_forward_cell level o c))
    go true = after-backward-cell-in-bounds f c s
    go false = s

pub after-in-bounds : (k : Kind) (t : ℕ) (c : Connection) → InBounds c → InBounds (after k t c)
unfolding after sent_forward sent_turned sent_data
after-in-bounds Forward t c s =
    let p = moved_by-params t c.unanswered c.pace c.rate in record {
      rates = moved_by-in-bounds t c.unanswered c.pace c.rate s.rates;
      before = rw p s.before;
      after = rw p s.after;
      counted = omega arith;
    }
after-in-bounds Turned t c s = s
after-in-bounds Data t c s = s

-- At a time.
pace-later : (now later n : ℕ) (p : Pace) → now ≤ later → PaceFits now n p → PaceFits later n p
pace-later now later n Unsent h f = tt
pace-later now later n (Running sent forward k turned) h f = (f.0, le_trans f.1 h, f.2)

not-after-later : (now later : ℕ) → now ≤ later → (i : Instant) → NotAfter now i → NotAfter later i
not-after-later now later h None p = tt
not-after-later now later h (Some i) p = le_trans p h

pub valid-later : (now later : ℕ) → now ≤ later → (c : Connection) → ValidAt now c → ValidAt later c
valid-later now later h c p = (
  record {
    assigned = p.0.assigned;
    coded = p.0.coded;
    fits = p.0.fits;
    tbe = p.0.tbe;
    frtt = p.0.frtt;
    trm_time = p.0.trm_time;
    past = le_trans p.0.past h;
    paced = pace-later now later (nrm c.rate.params) c.pace h p.0.paced;
  },
  p.1,
  record { level = p.2.level; past = not-after-later now later h c.destination.made.last p.2.past },
  not-after-later now later h c.out_of_rate p.3,
  p.4,
)

pub fresh-valid : (v t : ℕ) (p : Params) → (is_path v ≡ false → first_vci ≤ vci_in v) → v < no_name → params_fit p ≡ true → tbe_fits p ≡ true → frtt_fits p ≡ true → ValidAt t (fresh v t p)
unfolding fresh
fresh-valid v t p l u e f g = (
  record { assigned = l; coded = u; fits = e; tbe = f; frtt = g; trm_time = refl; past = le_refl t; paced = tt },
  fresh-in-bounds v t p e,
  record { level = omega arith; past = tt },
  tt,
  record { channel = λ i. omega arith; path = omega arith; served = omega arith },
)

-- the same fixed parts, with this pace
same-parts-valid :
    {now : ℕ} (c d : Connection) → KeepsIdentity c d → ValidAt now c → PaceFits now (nrm c.rate.params) d.pace → InBounds d → MadeValidAt now d.destination.made
    → d.out_of_rate ≡ c.out_of_rate → QueueFits c.name d.queue → ValidAt now d
same-parts-valid {now} c d s p h g m o q = (
  record {
    assigned = rw s.name p.0.assigned;
    coded = rw s.name p.0.coded;
    fits = ap params_fit s.params ∙ p.0.fits;
    tbe = ap tbe_fits s.params ∙ p.0.tbe;
    frtt = ap frtt_fits s.params ∙ p.0.frtt;
    trm_time = rw (s.trm, s.params) p.0.trm_time;
    past = rw s.opened p.0.past;
    paced = rw s.params h;
  },
  g,
  m,
  rw o p.3,
  rw s.name q,
)

-- an offer within the bounds of a channel, or of a path
pub offered-valid :
    {now : ℕ} (n : ℕ) (c : Connection) → (is_path c.name ≡ false → waiting c.queue + n ≤ 65535) → waiting c.queue + n ≤ member_capacity * 65535
    → ValidAt now c → ValidAt now (offered n c)
unfolding offered
offered-valid n c h k p = (p.0, p.1, p.2, p.3, record { channel = h; path = k; served = p.4.served })

-- fewer cells wait
less-fits : (n v : ℕ) (l : Queue) → QueueFits v l → QueueFits v (dequeued n l)
less-fits n v l h = record { channel = λ e. omega (arith, h.channel e); path = omega (arith, h.path); served = h.served }

pub less-valid : {now : ℕ} (n : ℕ) (c : Connection) → ValidAt now c → ValidAt now (with_queue c (dequeued n c.queue))
less-valid n c p = (p.0, p.1, p.2, p.3, less-fits n c.name c.queue p.4)

-- another member was served last
pub served-same : (x : Option ℕ) (c : Connection) → KeepsIdentity c (with_served x c)
unfolding with_served
served-same x c = record { name = refl; opened = refl; trm = refl; params = refl }

last_fits : (x : Option ℕ) (q : ℕ) → q ≤ 65535 → last_after x q ≤ 65535
unfolding last_after
last_fits none q h = h
last_fits (some x) q h = omega arith

pub served-valid : {now : ℕ} (x : Option ℕ) (c : Connection) → ValidAt now c → ValidAt now (with_served x c)
unfolding with_served
served-valid x c p = (p.0, p.1, p.2, p.3, record { channel = p.4.channel; path = p.4.path; served = last_fits x c.queue.served p.4.served })

pub after-data-cell-valid : {now : ℕ} (e : Bool) (c : Connection) → ValidAt now c → ValidAt now (after_data_cell e c)
unfolding after_data_cell
after-data-cell-valid e c p = p

work-pace : (level : ℕ) (o : List ℕ) (f : Fields) (c : Connection) → (after_rm_cell level o f c).pace ≡ c.pace
unfolding after_rm_cell after_backward_cell after_forward_cell
work-pace level o f c = go (eqb f.dir 1)
  where
    go : (t : Bool) → (cond t (after_backward_cell f c) (after_forward_cell level o c)).pace ≡ c.pace
    go true = refl
    go false = refl

work-made : (level : ℕ) (o : List ℕ) (f : Fields) (c : Connection) → (after_rm_cell level o f c).destination.made ≡ c.destination.made
unfolding after_rm_cell after_backward_cell after_forward_cell
work-made level o f c = go (eqb f.dir 1)
  where
    go : (t : Bool) → (cond t (after_backward_cell f c) (after_forward_cell level o c)).destination.made ≡ c.destination.made
    go true = refl
    go false = refl

pub work-out-of-rate : (level : ℕ) (o : List ℕ) (f : Fields) (c : Connection) → (after_rm_cell level o f c).out_of_rate ≡ c.out_of_rate
unfolding after_rm_cell after_backward_cell after_forward_cell
work-out-of-rate level o f c = go (eqb f.dir 1)
  where
    go : (t : Bool) → (cond t (after_backward_cell f c) (after_forward_cell level o c)).out_of_rate ≡ c.out_of_rate
    go true = refl
    go false = refl

-- a cell made now, at a level of the engine
pub made-same : (t level : ℕ) (c : Connection) → KeepsIdentity c (with_made t level c)
unfolding with_made
made-same t level c = record { name = refl; opened = refl; trm = refl; params = refl }

pub made-valid : (t level : ℕ) (c : Connection) → level ≤ 2 → ValidAt t c → ValidAt t (with_made t level c)
unfolding with_made
made-valid t level c h p = (p.0, p.1, record { level = h; past = le_refl t }, p.3, p.4)

-- an out-of-rate cell now
pub out-of-rate-same : (t : ℕ) (c : Connection) → KeepsIdentity c (after_out_of_rate t c)
unfolding after_out_of_rate
out-of-rate-same t c = record { name = refl; opened = refl; trm = refl; params = refl }

pub out-of-rate-valid : (t : ℕ) (c : Connection) → ValidAt t c → ValidAt t (after_out_of_rate t c)
unfolding after_out_of_rate
out-of-rate-valid t c p = (p.0, p.1, p.2, le_refl t, p.4)

pub work-queue : (level : ℕ) (o : List ℕ) (f : Fields) (c : Connection) → (after_rm_cell level o f c).queue ≡ c.queue
unfolding after_rm_cell after_backward_cell after_forward_cell
work-queue level o f c = go (eqb f.dir 1)
  where
    go : (t : Bool) → (cond t (after_backward_cell f c) (after_forward_cell level o c)).queue ≡ c.queue
    go true = refl
    go false = refl

pub work-valid : {now : ℕ} (level : ℕ) (o : List ℕ) (f : Fields) (c : Connection) → ValidAt now c → ValidAt now (after_rm_cell level o f c)
work-valid level o f c p =
    same-parts-valid c (after_rm_cell level o f c) (work-same level o f c) p (rw (work-pace level o f c) p.0.paced) (work-in-bounds level o f c p.1) (rw (work-made level o f c) p.2) (work-out-of-rate level o f c) (rw (work-queue level o f c) p.4)

-- A cell that is no forward cell leaves k below Nrm.
pub not-forward : (k : Kind) (t : ℕ) (c : Connection) → kind_at t c ≡ k → k ≢ Forward → is_forward t c c.pace ≡ false
unfolding kind_at
not-forward k t c e n = go (is_forward t c c.pace) e
  where
    go : (b : Bool) → cond b Forward (cond (is_turned c c.pace) Turned Data) ≡ k → b ≡ false
    go true e = absurd (n (sym e))
    go false e = refl

pub turned≢forward : Turned ≢ Forward
turned≢forward e = let z : ◌≡◌ {A = ℕ} 0 1 = cc in omega arith

pub data≢forward : Data ≢ Forward
data≢forward e = let z : ◌≡◌ {A = ℕ} 0 1 = cc in omega arith

pace-next :
    (t : ℕ) (c : Connection) (b : Bool) (p : Pace) → PaceFits t (nrm c.rate.params) p → is_forward t c p ≡ false
    → PaceFits t (nrm c.rate.params) (paced t b p)
unfolding is_forward last_before paced
pace-next t c b Unsent h e = tt
pace-next t c b (Running sent forward k turned) h e =
    let ne = eqb-false k (nrm c.rate.params - 1) ((or-eq-false-eq-eq-false-and-eq-false _ _).0 e).0 in
    (le_trans h.0 h.1, le_refl t, below k (nrm c.rate.params) h.2 ne)
  where
    below : (k n : ℕ) → k < n → (k ≡ n - 1 → ⊥) → k + 1 < n
    below k n h ne = omega arith

after-pace :
    (k : Kind) (t : ℕ) (c : Connection) → kind_at t c ≡ k → PaceFits t (nrm c.rate.params) c.pace → PaceFits t (nrm c.rate.params) (after k t c).pace
unfolding after sent_forward sent_turned sent_data
after-pace Forward t c e h = (le_refl t, le_refl t, pow_pos c.rate.params.n)
after-pace Turned t c e h = pace-next t c true c.pace h (not-forward Turned t c e turned≢forward)
after-pace Data t c e h = pace-next t c false c.pace h (not-forward Data t c e data≢forward)

left-made : {now : ℕ} (w : Waiting) (m : Made) → MadeValidAt now m → MadeValidAt now (made_left w m)
unfolding made_left
left-made None m h = record { level = omega arith; past = h.past }
left-made (Some p) m h = h

after-made : (k : Kind) (t : ℕ) (c : Connection) → MadeValidAt t c.destination.made → MadeValidAt t (after k t c).destination.made
unfolding after sent_forward sent_turned sent_data
after-made Forward t c h = h
after-made Turned t c h = left-made c.destination.turned c.destination.made h
after-made Data t c h = h

pub after-out-of-rate : (k : Kind) (t : ℕ) (c : Connection) → (after k t c).out_of_rate ≡ c.out_of_rate
unfolding after sent_forward sent_turned sent_data
after-out-of-rate Forward t c = refl
after-out-of-rate Turned t c = refl
after-out-of-rate Data t c = refl

after-queue : (k : Kind) (t : ℕ) (c : Connection) → QueueFits c.name c.queue → QueueFits c.name (after k t c).queue
unfolding after sent_forward sent_turned sent_data
after-queue Forward t c h = h
after-queue Turned t c h = h
after-queue Data t c h = less-fits 1 c.name c.queue h

pub after-valid : (k : Kind) (t : ℕ) (c : Connection) → kind_at t c ≡ k → ValidAt t c → ValidAt t (after k t c)
after-valid k t c e p =
    same-parts-valid c (after k t c) (after_same k t c) p (after-pace k t c e p.0.paced) (after-in-bounds k t c p.1) (after-made k t c p.2) (after-out-of-rate k t c) (after-queue k t c p.4)
