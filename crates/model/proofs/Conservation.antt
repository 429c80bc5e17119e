-- No data cell is unaccounted: each call keeps the balance of each name, so every list does.
use Prim.Native.Nat.{ℕ, ◌+◌, ◌<◌}
use mathlib.Core.Path.{◌≡◌, refl, ◌∙◌}
use mathlib.Core.Logic.{◌≢◌}
use mathlib.Core.Bool.{Bool, true, false, cond}
use mathlib.Core.List.{List, [], ◌∷◌}
use mathlib.Core.Option.{Option, none, some}
use native.Mathlib.Omega.{arith}
use lib.Dec.{eqb}
use lib.ListN.{replicate}
use borrow.Author.Tests.{eq-eqb, ne_eqb}
use Rattle.rate_params.specs.declared.params.Params.{Params}
use Rattle.cell.specs.declared.fields.Fields.{Fields}
use Rattle.cell.specs.Name.{address_name}
use Rattle.cell.specs.Fields.{cell_name}
use Rattle.connection_members.specs.Path.{path_vci, path_of}
use Rattle.connection_members.specs.Members.{cells_of}
use Rattle.connection.specs.declared.parts.Connection.{Connection}
use Rattle.connection.specs.declared.kind.Kind.{Kind}
use Rattle.connection.specs.declared.kind.Kind.TheVariants.{Forward, Turned, Data}
use Rattle.connection.specs.Parts.{fresh, waiting, with_queue, dequeued}
use Rattle.connection.specs.Source.{offered, after_backward_cell, sent_forward, sent_data, with_served, after_out_of_rate}
use Rattle.connection.specs.Destination.{with_made, after_data_cell, after_forward_cell, sent_turned}
use Rattle.connection.specs.Received.{after_rm_cell}
use Rattle.connection.specs.Slot.{after}
use Rattle.connection.specs.Kind.{kind_at}
use Rattle.connection.proofs.Keeps.{work-same, after_same}
use Rattle.connection.proofs.Waited.{data-waits}
use Rattle.model.specs.State.{State, free, taken, capacity, empty, find, with_entry_of, with_opened, with_time, with_level, with_members, entry_cells}
use Rattle.model.specs.Invariant.{NamesUnique, WellFormed}
use Rattle.model.specs.Winner.{Chosen}
use Rattle.model.specs.Call.{Call, Outcome, closed_cells}
use Rattle.model.specs.Aspects.{members_of, discards_from}
use Rattle.model.specs.Step.{refuse, accept, replay, discard, with_offer, without_one, send_from, send_step, send_out_of_rate, idle_step, step}
use Rattle.model.specs.Run.{final, is_accepted}
use Rattle.model.specs.Conservation.{offered_to, closed_on, data_in, data_slot_of, sum_over, cells_offered, data_slots, cells_closed, cells_waiting, Conservation, cells_lost}
use Rattle.model.proofs.Entries.{Case, same, other, case, absent-find, each_free}
use Rattle.model.proofs.Frames.{put-read, put-kept, with-opened-read, freed-read}
use Rattle.model.proofs.Members.{member-waits}
use Rattle.model.proofs.Preserved.{empty-well-formed}
use Rattle.model.proofs.Effects.{OpenPassed, Effect, refuses, opens, closes, offers, receives_data, receives_rm, sets_level, idles, sends, makes, sends_out_of_rate, opens_path, adds, offers_member, removes, effect}
use Rattle.model.proofs.Reached.{step-well-formed}

-- the outcome o of the call c on s keeps the balance of v
abbrev Balanced : ℕ → State → Call → Outcome → Type 0
Balanced v s c o =
    offered_to v c (is_accepted o.answer) + cells_waiting v s ≡ data_slot_of v o.answer + cells_waiting v o.state + closed_on v c (closed_cells o.answer)

-- Refused, and a call that is no offer, slot or close.
pub cond-zero : (b : Bool) → ◌≡◌ {A = ℕ} (cond b 0 0) 0
cond-zero true = refl
cond-zero false = refl

none-lost : (v : ℕ) (u : Option ℕ) → cells_lost v 0 u ≡ 0
none-lost v none = refl
none-lost v (some u) = cond-zero (eqb u v)

refused-balanced : (v : ℕ) (s : State) (c : Call) (n : ℕ) → Balanced v s c (refuse s n)
unfolding refuse is_accepted offered_to closed_on data_slot_of closed_cells
refused-balanced v s c n = omega (arith, none-lost v (discards_from (members_of c)))

same-cells : (w z : ℕ) → z ≡ w → 0 + w ≡ 0 + z + 0
same-cells w z h = omega arith

-- a connection in its own entry, with what waits on it
kept-cells :
    (v u : ℕ) (s : State) → NamesUnique s.entries → (d e : Connection) → find u s.entries ≡ taken d → e.name ≡ d.name → waiting e.queue ≡ waiting d.queue
    → 0 + cells_waiting v s ≡ 0 + cells_waiting v (with_entry_of u (taken e) s) + 0
unfolding entry_cells
kept-cells v u s a d e f n h = same-cells _ _ (put-kept entry_cells v u s a d e f n h)

-- what waits on one name changes: by cells that come, or by cells that go
changed-cells :
    (v u : ℕ) (s : State) → NamesUnique s.entries → (d e : Connection) → find u s.entries ≡ taken d → e.name ≡ d.name → (come go : ℕ)
    → come + waiting d.queue ≡ go + waiting e.queue → cond (eqb u v) come 0 + cells_waiting v s ≡ cond (eqb u v) go 0 + cells_waiting v (with_entry_of u (taken e) s)
unfolding entry_cells
changed-cells v u s a d e f n come go h = rw (put-read entry_cells v u s a d e f n) (by (case u v))
  where
    by : Case u v → cond (eqb u v) come 0 + entry_cells (find v s.entries) ≡ cond (eqb u v) go 0 + cond (eqb u v) (waiting e.queue) (entry_cells (find v s.entries))
    by (same q) = rw (eq-eqb u v q, ← q, f) h
    by (other q) = rw (ne_eqb u v q)

-- Open: nothing waits on a fresh connection.
opened-cells : (v : ℕ) (s : State) (u t : ℕ) (p : Params) → OpenPassed s u t p → cells_waiting v (with_opened (fresh u t p) s) ≡ cells_waiting v s
unfolding fresh entry_cells
opened-cells v s u t p g = with-opened-read entry_cells v s (fresh u t p) g.new g.room ∙ by (case u v)
  where
    by : Case u v → cond (eqb u v) 0 (entry_cells (find v s.entries)) ≡ entry_cells (find v s.entries)
    by (same q) = rw (eq-eqb u v q, ← q, g.new)
    by (other q) = rw (ne_eqb u v q)

-- Close: what waited is what is answered.
ended-cells :
    (v u : ℕ) (s : State) → NamesUnique s.entries → (d : Connection) → find u s.entries ≡ taken d
    → 0 + cells_waiting v s ≡ 0 + cells_waiting v (with_entry_of u free s) + cond (eqb u v) (waiting d.queue) 0
unfolding entry_cells
ended-cells v u s a d f = rw (freed-read entry_cells v u s a) (by (case u v))
  where
    by : Case u v → 0 + entry_cells (find v s.entries) ≡ 0 + cond (eqb u v) 0 (entry_cells (find v s.entries)) + cond (eqb u v) (waiting d.queue) 0
    by (same q) = rw (eq-eqb u v q, ← q, f) (omega arith)
    by (other q) = rw (ne_eqb u v q) (omega arith)

-- Receive: an RM cell leaves the data that waits.
work-cells : (level : ℕ) (o : List ℕ) (f : Fields) (c : Connection) → waiting (after_rm_cell level o f c).queue ≡ waiting c.queue
unfolding after_rm_cell after_backward_cell after_forward_cell
work-cells level o f c = by (eqb f.dir 1)
  where
    by : (t : Bool) → waiting (cond t (after_backward_cell f c) (after_forward_cell level o c)).queue ≡ waiting c.queue
    by true = refl
    by false = refl

-- Slot: a data cell is one of those that waited.
sent-cells : (k : Kind) (t : ℕ) (c : Connection) → (k ≡ Data → 0 < waiting c.queue) → 0 + waiting c.queue ≡ data_in k + waiting (after k t c).queue
unfolding after sent_forward sent_turned sent_data data_in
sent-cells Forward t c h = refl
sent-cells Turned t c h = refl
sent-cells Data t c h = let z = h refl in omega (arith, z)

sent-balanced :
    (v : ℕ) (s : State) → NamesUnique s.entries → (t i u : ℕ) (b : Chosen t i u s.entries) → (k : Kind) (x : Option ℕ) → kind_at t b.holder ≡ k
    → 0 + cells_waiting v s ≡ cond (eqb u v) (data_in k) 0 + cells_waiting v (with_entry_of u (taken (with_served x (after k t b.holder))) s) + 0
unfolding with_served
sent-balanced v s a t i u b k x q =
    omega (
      arith,
      cond-zero (eqb u v),
      changed-cells v u s a b.holder (with_served x (after k t b.holder)) b.found (after_same k t b.holder).name 0 (data_in k)
          (sent-cells k t b.holder (λ e. data-waits t b.holder i b.ready_at b.due (q ∙ e))),
    )

-- Every effect.
effect-balanced : (v : ℕ) {s : State} → WellFormed s → {c : Call} {o : Outcome} → Effect s c o → Balanced v s c o
unfolding accept replay discard with_level with_members with_offer without_one idle_step send_step send_from send_out_of_rate with_time is_accepted offered_to closed_on data_slot_of closed_cells offered after_data_cell with_made after_out_of_rate
effect-balanced v {s} w (refuses c n h) = refused-balanced v s c n
effect-balanced v {s} w (opens a b t p g) = same-cells _ _ (opened-cells v s (address_name a b) t p g)
effect-balanced v {s} w (closes a b d f) = ended-cells v (address_name a b) s w.unique d f
effect-balanced v {s} w (offers a b n d f c h) =
    omega (arith, cond-zero (eqb (address_name a b) v), changed-cells v (address_name a b) s w.unique d (offered n d) f refl n 0 (omega arith))
effect-balanced v {s} w (receives_data o a b e u d r c z f) = kept-cells v u s w.unique d (after_data_cell e d) f refl refl
effect-balanced v {s} w (receives_rm o q d r f) =
    kept-cells v (cell_name q) s w.unique d (after_rm_cell s.level o q d) f (work-same s.level o q d).name (work-cells s.level o q d)
effect-balanced v {s} w (sets_level l h) = same-cells _ _ refl
effect-balanced v {s} w (idles t room g b) = same-cells _ _ refl
effect-balanced v {s} w (sends t room i n g b) = sent-balanced v (with_time t s) w.unique t i n b (kind_at t b.holder) _ refl
effect-balanced v {s} w (makes a b t d f g h m) = kept-cells v (address_name a b) (with_time t s) w.unique d (with_made t s.level d) f refl refl
effect-balanced v {s} w (sends_out_of_rate a b t room d f g h) = kept-cells v (address_name a b) (with_time t s) w.unique d (after_out_of_rate t d) f refl refl
effect-balanced v {s} w (opens_path a t p g) = same-cells _ _ (opened-cells v s (address_name a path_vci) t p g)
effect-balanced v {s} w (adds a b d f j) = same-cells _ _ refl
effect-balanced v {s} w (offers_member a b n d f i h) =
    omega (arith, cond-zero (eqb (path_of (address_name a b)) v), changed-cells v (path_of (address_name a b)) s w.unique d (offered n d) f refl n 0 (omega arith))
effect-balanced v {s} w (removes a b d f i) =
    let x = address_name a b in
    let n = cells_of x s.members in
    let e = changed-cells v (path_of x) s w.unique d (with_queue d (dequeued n d.queue)) f refl 0 n (omega (arith, member-waits s w.unique w.members x d f)) in
    omega (arith, cond-zero (eqb (path_of x) v), e)

-- Every list.
chain : (o r w s₁ s₂ z c₁ c₂ w' : ℕ) → o + w ≡ s₁ + w' + c₁ → r + w' ≡ s₂ + z + c₂ → (o + r) + w ≡ (s₁ + s₂) + z + (c₁ + c₂)
chain o r w s₁ s₂ z c₁ c₂ w' h k = omega arith

run-balanced :
    (v : ℕ) (s : State) → WellFormed s → (cs : List Call)
    → sum_over (λ c a. offered_to v c (is_accepted a)) s cs + cells_waiting v s ≡ sum_over (λ c a. data_slot_of v a) s cs + cells_waiting v (final s cs) + sum_over (λ c a. closed_on v c (closed_cells a)) s cs
run-balanced v s w [] = omega arith
run-balanced v s w (c ∷ cs) =
    chain (offered_to v c (is_accepted (step s c).answer)) _ _ (data_slot_of v (step s c).answer) _ _ (closed_on v c (closed_cells (step s c).answer)) _ _
    (effect-balanced v w (effect s w.unique c))
    (run-balanced v (step s c).state (step-well-formed w c) cs)

none-waits : (v : ℕ) → cells_waiting v empty ≡ 0
unfolding entry_cells empty
none-waits v = rw (absent-find v (replicate capacity free) (each_free (λ c. c.name ≢ v) capacity))

balance : (cs : List Call) (v : ℕ) → cells_offered v cs ≡ data_slots v cs + cells_waiting v (final empty cs) + cells_closed v cs
balance cs v = omega (arith, none-waits v, run-balanced v empty empty-well-formed cs)

pub conservation : Conservation
conservation = record { balance = balance; at_most_offered = λ cs v. omega (arith, balance cs v) }
