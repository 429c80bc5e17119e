-- What a connection that waits can count on.
use Rattle.std.specs.Prelude.{Some, None}
use Prim.Native.Nat.{ℕ, suc, ◌≤◌, ◌<◌}
use mathlib.Core.Path.{◌≡◌, refl, sym, ap, subst, ◌∙◌}
use mathlib.Core.Bool.{Bool, true, false}
use mathlib.Core.List.{List, [], ◌∷◌}
use mathlib.Core.Option.{Option, some}
use native.Mathlib.Nat.{le_refl}
use native.Mathlib.Omega.{arith}
use lib.Dec.{leb}
use lib.ListN.{length}
use borrow.Author.Tests.{le-leb, lt-leb}
use Rattle.rate_params.specs.Params.{least}
use Rattle.rate.proofs.Gaps.{gap_is, gap-antitone}
use Rattle.connection.specs.declared.parts.Connection.{Connection}
use Rattle.connection.specs.declared.parts.Pace.{Pace}
use Rattle.connection.specs.declared.parts.Pace.TheVariants.{Unsent, Running}
use Rattle.connection.specs.Ready.{any_waits, ready_instant}
use Rattle.connection.specs.Kind.{kind_at}
use Rattle.connection.specs.Source.{with_served}
use Rattle.connection.specs.Slot.{after, member_served}
use Rattle.connection.specs.Parts.{Instant}
use Rattle.connection.proofs.Keeps.{after_same, served-same}
use Rattle.connection.proofs.Readiness.{ready-zero, ready-moving, ready-some, ready-served}
use Rattle.connection.proofs.Spaced.{due_from, waits-ready, sent-spaced}
use Rattle.model.specs.State.{State, Entry, free, taken, empty, find, with_time, with_members}
use Rattle.model.specs.Invariant.{Each, WellFormed}
use Rattle.model.specs.Winner.{Ahead, sooner, tied, Chosen}
use Rattle.model.proofs.Entries.{Case, same, other, case, each_at}
use Rattle.model.proofs.Frames.{name_of}
use Rattle.model.proofs.Preserved.{valid-at}
use Rattle.model.proofs.Winners.{ahead-anti}
use Rattle.model.proofs.Counts.{count, count-le, count-put}
use Rattle.model.specs.Call.{slot, Outcome, goes_to}
use Rattle.model.specs.Step.{refuse, send_from, send_step, step}
use Rattle.model.specs.Run.{run, final, is_accepted}
use Rattle.model.proofs.Effects.{Effect, refuses, idles, sends, effect}
use Rattle.model.proofs.Reached.{step-well-formed, reached-well-formed}
use Rattle.promise_service.specs.Liveness.{latest_ready, ReadySoon, Precedes, GoesTo, IsAccepted, Somewhere, here, there, slots, Liveness}
use Rattle.laws.specs.All.{All}
use Rattle.promise_lists.proofs.Interference.{put_other}
use Rattle.promise_service.proofs.SentWaited.{serves}

-- Ready in time.
due-soon : (a : ℕ) (c : Connection) (p : Pace) → 0 < a → a ≤ c.rate.acr → due_from c p ≤ latest_ready a c p
unfolding due_from latest_ready
due-soon a c Unsent h l = le_refl _
due-soon a c (Running sent forward k turned) h l = omega (arith, gap-antitone h l)

-- at a rate that is not above the allowed one
pub ready-soon : (a : ℕ) (c : Connection) → 0 < a → a ≤ c.rate.acr → any_waits c ≡ true → ReadySoon a c
ready-soon a c h l e = record {
  instant = due_from c c.pace;
  ready_at = ready-moving c (λ z. omega arith) ∙ waits-ready c c.pace e;
  soon = due-soon a c c.pace h l;
}

-- A slot from the ready instant on: to one that does not come after instant i of v
pub data Goes (s : State) (t i v : ℕ) : Outcome → Type 0 where
  goes : (j u : ℕ) (b : Chosen t j u s.entries) → Ahead j u i v → Goes s t i v (send_step (with_time t s) t u b.holder (kind_at t b.holder))

pub slot-goes :
    {s : State} (v : ℕ) (c : Connection) (i t room : ℕ) → find v s.entries ≡ taken c → ready_instant c ≡ Some i → i ≤ t → {o : Outcome}
    → Effect s (slot t room) o → IsAccepted o → Goes s t i v o
unfolding refuse is_accepted
slot-goes v c i t room f r l (refuses _ n h) a = let z : ◌≡◌ {A = ℕ} 0 1 = cc in absurd (omega arith)
slot-goes {s} v c i t room f r l (idles _ _ g b) a = absurd (omega (arith, each_at _ v s.entries c f b i r))
slot-goes {s} v c i t room f r l (sends _ _ j u g b) a =
    goes j u b (subst (λ (w : ℕ). Ahead j u i w) (name_of v s c f) (each_at _ v s.entries c f b.first i r l))

precedes : {s : State} {t i v : ℕ} {o : Outcome} → Goes s t i v o → Precedes s i v o
unfolding send_from send_step goes_to
precedes (goes j u b h) = record { instant = j; name = u; holder = b.holder; found = b.found; ready_at = b.ready_at; ahead = h; goes = refl }

goes_first :
    {s : State} {i v : ℕ} {o : Outcome} → Precedes s i v o → Each (λ d. (j : ℕ) → ready_instant d ≡ Some j → Ahead i v j d.name) s.entries → GoesTo v o
goes_first {s} {i} {v} p h =
    let b = each_at _ p.name s.entries p.holder p.found h p.instant p.ready_at in
    p.goes ∙ ap some (ahead-anti p.ahead (subst (λ (w : ℕ). Ahead i v p.instant w) (name_of p.name s p.holder p.found) b))

-- Each slot that goes to another leaves one fewer connection that is ready by i.
ready_by : ℕ → Instant → Bool
ready_by i None = false
ready_by i (Some j) = leb j i

entry_by : ℕ → Entry → Bool
entry_by i free = false
entry_by i (taken d) = ready_by i (ready_instant d)

by-now : (i j : ℕ) (d : Connection) → ready_instant d ≡ Some j → j ≤ i → entry_by i (taken d) ≡ true
unfolding ready_by entry_by
by-now i j d e l = rw e (le-leb j i l)

by-later : (i : ℕ) (d : Connection) → ((j : ℕ) → ready_instant d ≡ Some j → i < j) → entry_by i (taken d) ≡ false
unfolding ready_by entry_by
by-later i d h = go (ready_instant d) h
  where
    go : (r : Instant) → ((j : ℕ) → r ≡ Some j → i < j) → ready_by i r ≡ false
    go None h = refl
    go (Some j) h = lt-leb j i (h j refl)

none_free : (i : ℕ) → entry_by i free ≡ false
unfolding entry_by
none_free i = refl

pub ahead-by : {j u i v : ℕ} → Ahead j u i v → j ≤ i
ahead-by (sooner h) = omega arith
ahead-by (tied e h) = omega arith

-- a connection that has sent at t is not ready by t
sent-later : (t : ℕ) (d : Connection) (x : Option ℕ) (j : ℕ) → ready_instant (with_served x (after (kind_at t d) t d)) ≡ Some j → t < j
sent-later t d x j e =
    let d' = after (kind_at t d) t d in
    let r : ready_instant d' ≡ Some j = sym (ready-served x d') ∙ e in
    omega (arith, sent-spaced t d j r, gap_is d'.rate.acr (ready-some d' j r).0)

-- either the slot is v's, or v waits on and one fewer is ready by i
data Next (i v : ℕ) (c : Connection) (s : State) (o : Outcome) : Type 0 where
  own : GoesTo v o → Next i v c s o
  another : find v o.state.entries ≡ taken c → suc (count (entry_by i) o.state.entries) ≡ count (entry_by i) s.entries → Next i v c s o

slot_next : {s : State} → WellFormed s → (v : ℕ) (c : Connection) → find v s.entries ≡ taken c → (i t : ℕ) → i ≤ t → {o : Outcome} → Goes s t i v o → Next i v c s o
unfolding send_from send_step goes_to with_time with_members
slot_next {s} w v c f i t l (goes j u b h) = go (case u v)
  where
    x : Option ℕ
    x = member_served (kind_at t b.holder) b.holder s.members

    d : Connection
    d = with_served x (after (kind_at t b.holder) t b.holder)

    late : (n : ℕ) → ready_instant d ≡ Some n → i < n
    late n q = omega (arith, sent-later t b.holder x n q)

    name : d.name ≡ b.holder.name
    name = (served-same x (after (kind_at t b.holder) t b.holder)).name ∙ (after_same (kind_at t b.holder) t b.holder).name

    go : Case u v → Next i v c s (send_step (with_time t s) t u b.holder (kind_at t b.holder))
    go (same q) = own (ap some q)
    go (other q) =
        another (put_other v u (with_time t s) w.unique b.holder d b.found name (λ z. q (cc)) ∙ f)
        (count-put (entry_by i) (none_free i) (taken d) (by-later i d late) u (with_time t s) (ap (entry_by i) b.found ∙ by-now i j b.holder b.ready_at (ahead-by h)))

served :
    {s : State} → WellFormed s → (v : ℕ) (c : Connection) → find v s.entries ≡ taken c → (i : ℕ) → ready_instant c ≡ Some i → (ts : List ℕ)
    → count (entry_by i) s.entries ≤ length ts → All (λ t. i ≤ t) ts → All IsAccepted (run s (slots ts)) → Somewhere (GoesTo v) (run s (slots ts))
served {s} w v c f i r [] n l a =
    absurd (omega (arith, count-put (entry_by i) (none_free i) free (none_free i) v s (ap (entry_by i) f ∙ by-now i i c r (le_refl i))))
served {s} w v c f i r (t ∷ ts) n l a =
    go (λ f n. served {s = (step s (slot t 53)).state} (step-well-formed w (slot t 53)) v c f i r ts n l.1 a.1)
    (slot_next w v c f i t l.0 (slot-goes v c i t 53 f r l.0 (effect s w.unique (slot t 53)) a.0))
  where
    o : Outcome
    o = step s (slot t 53)

    go : (find v o.state.entries ≡ taken c → count (entry_by i) o.state.entries ≤ length ts → Somewhere (GoesTo v) (run o.state (slots ts)))
        → Next i v c s o → Somewhere (GoesTo v) (o ∷ run o.state (slots ts))
    go k (own g) = here g
    go k (another f m) = there (k f (omega arith))

pub liveness : Liveness
liveness cs v c f =
    let s = final empty cs in
    let w = reached-well-formed cs in
    let slotted : (i t room : ℕ) → ready_instant c ≡ Some i → i ≤ t → IsAccepted (step s (slot t room)) → Precedes s i v (step s (slot t room)) =
    λ i t room r l a. precedes (slot-goes v c i t room f r l (effect s w.unique (slot t room)) a) in
    record {
      guaranteed = λ e h. ready-soon (least c.rate.params) c h (valid-at w v c f).1.rates.above e;
      ready = λ e h. ready-soon c.rate.acr c h (le_refl _) e;
      never = ready-zero c;
      passed_over = λ t room z e. let h = serves t room v c f (effect s w.unique (slot t room)) e in omega (arith, (ready-some c h.instant h.ready_at).0);
      ahead = slotted;
      first = λ i t room r l a h. goes_first (slotted i t room r l a) h;
      served = λ i ts r n l a. served w v c f i r ts (omega (arith, count-le (entry_by i) s.entries, w.size)) l a;
    }
