-- The change that is read is that of the last backward cell.
use Prim.Native.Nat.{ℕ}
use mathlib.Core.Path.{◌≡◌, refl, sym, ap, ◌∙◌}
use mathlib.Core.Bool.{Bool, true, false, cond}
use mathlib.Core.List.{List}
use native.Mathlib.Omega.{arith}
use lib.Dec.{eqb}
use borrow.Author.Tests.{eq-eqb, eqb-true}
use Rattle.rate_params.specs.declared.params.Params.{Params}
use Rattle.rate_params.specs.Params.{initial_used}
use Rattle.cell.specs.declared.fields.Fields.{Fields}
use Rattle.cell.specs.Read.{RmCell}
use Rattle.cell.specs.Name.{address_name}
use Rattle.cell.specs.Fields.{cell_name}
use Rattle.cell.specs.Reading.{reading}
use Rattle.connection_members.specs.Path.{path_vci}
use Rattle.connection.specs.declared.parts.Connection.{Connection}
use Rattle.connection.specs.declared.parts.Change.{Change}
use Rattle.connection.specs.declared.kind.Kind.{Kind}
use Rattle.connection.specs.declared.kind.Kind.TheVariants.{Forward, Turned, Data}
use Rattle.connection.specs.Parts.{fresh, changed}
use Rattle.connection.specs.Invariant.{ValidAt}
use Rattle.connection.specs.Kind.{kind_at}
use Rattle.connection.specs.Source.{offered, fed_back, after_backward_cell, with_served, sent_forward, sent_data, after_out_of_rate}
use Rattle.connection.specs.Destination.{with_made, after_data_cell, after_forward_cell, sent_turned}
use Rattle.connection.specs.Received.{after_rm_cell}
use Rattle.connection.specs.Slot.{after}
use Rattle.connection.proofs.Differences.{change-within}
use Rattle.model.specs.Answers.{NotOpen, Rate, Accepted}
use Rattle.model.specs.State.{State, Entry, free, taken, empty, find, with_opened, with_time}
use Rattle.model.specs.Invariant.{OnEntry, NamesUnique}
use Rattle.model.specs.Call.{Call, opening, receiving, opening_path, Outcome}
use Rattle.model.specs.Aspects.{Sort, opener, closer, arrival, slot_at, another, sort_of}
use Rattle.model.specs.Step.{refuse, accept, replay, step}
use Rattle.model.specs.Queries.{entry_acr, acr_of}
use Rattle.model.specs.Run.{final, params_given}
use Rattle.model.proofs.Entries.{find-each}
use Rattle.model.proofs.Frames.{with-opened-read}
use Rattle.model.proofs.Given.{entry_params, params-given}
use Rattle.model.proofs.Effects.{OpenPassed, Effect, refuses, opens, opens_path, effect}
use Rattle.model.proofs.Reached.{reached-well-formed}
use Rattle.promise_lists.proofs.Received.{step-fed}
use Rattle.promise_cells.specs.Changes.{ChangeBounded, not_open, between, ChangedFrom, NotFedBack, Changes, NoFeedback}
use Rattle.promise_cells.proofs.Kept.{Has, effect-kept, Stable, KeptBy}

-- Between the bounds.
bounded-entry : (last : ℕ) (x : Entry) → OnEntry (ValidAt last) x → ChangeBounded (entry_params x) (entry_acr x)
unfolding entry_params entry_acr
bounded-entry last free h = not_open
bounded-entry last (taken c) h = let w = change-within c.rate.params c.change h.1.before h.1.after in between w.0 w.1

bounded : (cs : List Call) (v : ℕ) → ChangeBounded (params_given v cs) (acr_of (final empty cs) v)
unfolding acr_of
bounded cs v =
    let s : State = final empty cs in
    rw (← params-given v cs) (bounded-entry s.last (find v s.entries) (find-each (ValidAt s.last) v s.entries (reached-well-formed cs).each))

-- An open.
opened-entry :
    (s : State) (u t : ℕ) (p : Params) → OpenPassed s u t p → entry_acr (find u (with_opened (fresh u t p) s).entries) ≡ Rate (initial_used p) (changed (initial_used p) (initial_used p))
unfolding entry_acr fresh
opened-entry s u t p g =
    ap entry_acr
    (with-opened-read (λ (x : Entry). x) u s (fresh u t p) g.new g.room ∙ ap (λ (b : Bool). cond b (taken (fresh u t p)) (find u s.entries)) (eq-eqb u u refl))

begun :
    {s : State} {o : Outcome} {vpi vci t : ℕ} {p : Params} (n : ℕ) → Effect s (opening vpi vci t p) o → o.answer ≡ Accepted n
    → acr_of o.state (address_name vpi vci) ≡ Rate (initial_used p) (changed (initial_used p) (initial_used p))
unfolding refuse accept replay acr_of with_time
begun {s} {o} {vpi} {vci} {t} {p} n h e = go p o h e
  where
    go : (p : Params) (o : Outcome) → Effect s (opening vpi vci t p) o → o.answer ≡ Accepted n → acr_of o.state (address_name vpi vci) ≡ Rate (initial_used p) (changed (initial_used p) (initial_used p))
    go p o (refuses _ k h) e = let z : ◌≡◌ {A = ℕ} 0 1 = cc in absurd (omega arith)
    go p o (opens _ _ _ _ g) e = opened-entry s (address_name vpi vci) t p g

opened-path :
    {s : State} {o : Outcome} {vpi t : ℕ} {p : Params} (n : ℕ) → Effect s (opening_path vpi t p) o → o.answer ≡ Accepted n
    → acr_of o.state (address_name vpi path_vci) ≡ Rate (initial_used p) (changed (initial_used p) (initial_used p))
unfolding refuse accept replay acr_of with_time
opened-path {s} {o} {vpi} {t} {p} n h e = go p o h e
  where
    go : (p : Params) (o : Outcome) → Effect s (opening_path vpi t p) o → o.answer ≡ Accepted n → acr_of o.state (address_name vpi path_vci) ≡ Rate (initial_used p) (changed (initial_used p) (initial_used p))
    go p o (refuses _ k h) e = let z : ◌≡◌ {A = ℕ} 0 1 = cc in absurd (omega arith)
    go p o (opens_path _ _ _ g) e = opened-entry s (address_name vpi path_vci) t p g

-- what was read stands in the entry
rate-in : (x : Entry) (a : ℕ) (z : Change) → entry_acr x ≡ Rate a z → Has (λ d. (d.rate.acr ≡ a) × (d.change ≡ z)) x
unfolding entry_acr
rate-in free a z e = let w : ◌≡◌ {A = ℕ} 0 1 = cc in absurd (omega arith)
rate-in (taken c) a z e = (cc, cc)

-- A backward cell.
fed-entry : (f : Fields) (a : ℕ) (c : Connection) → c.rate.acr ≡ a → ChangedFrom a (entry_acr (taken (after_backward_cell f c)))
unfolding entry_acr after_backward_cell
fed-entry f a c e = record { after = (fed_back f c.rate).acr; is = rw (← e) refl }

fed : (s : State) → NamesUnique s.entries → (o : List ℕ) (f : Fields) (a : ℕ) → reading o ≡ RmCell f → f.dir ≡ 1 → (x : Entry)
    → find (cell_name f) s.entries ≡ x → Has (λ d. d.rate.acr ≡ a) x → ChangedFrom a (acr_of (step s (receiving o)).state (cell_name f))
unfolding acr_of
fed s u o f a e d free q h = absurd h
fed s u o f a e d (taken c) q h = rw (step-fed s u o f c e d q) (fed-entry f a c h)

has-map : {P Q : Connection → Type 0} → ((d : Connection) → P d → Q d) → (x : Entry) → Has P x → Has Q x
has-map g free h = h
has-map g (taken d) h = g d h

fed-back :
    (cs : List Call) (o : List ℕ) (f : Fields) (a : ℕ) (x : Change) → reading o ≡ RmCell f → f.dir ≡ 1 → acr_of (final empty cs) (cell_name f) ≡ Rate a x
    → ChangedFrom a (acr_of (step (final empty cs) (receiving o)).state (cell_name f))
unfolding acr_of
fed-back cs o f a x e d q =
    let s : State = final empty cs in
    fed s (reached-well-formed cs).unique o f a e d (find (cell_name f) s.entries) refl
    (has-map (λ _ h. h.0) (find (cell_name f) s.entries) (rate-in (find (cell_name f) s.entries) a x q))

-- Every other call.
abbrev Changed : Change → Connection → Type 0
Changed x d = d.change ≡ x

work-kept : (v : ℕ) (x : Change) (level : ℕ) (o : List ℕ) (f : Fields) (d : Connection) → (f.dir ≡ 1 → ⊥) → Changed x d → Changed x (after_rm_cell level o f d)
unfolding after_rm_cell after_forward_cell
work-kept v x level o f d n m = go (eqb f.dir 1) refl
  where
    go : (t : Bool) → eqb f.dir 1 ≡ t → Changed x (cond t (after_backward_cell f d) (after_forward_cell level o d))
    go true e = absurd (n (eqb-true _ _ e))
    go false e = m

sent-kept : (x : Change) (k : Kind) (t : ℕ) (d : Connection) → Changed x d → Changed x (after k t d)
unfolding after sent_forward sent_turned sent_data
sent-kept x Forward t d m = m
sent-kept x Turned t d m = m
sent-kept x Data t d m = m

change-stable : (v : ℕ) (x : Change) (s : State) → Stable (Changed x) v s
unfolding offered after_data_cell with_made after_out_of_rate
change-stable v x s = record { offers = λ n d m. m; removals = λ n d m. m; data_cells = λ e d m. m; makings = λ t d _ _ m. m; out_of_rates = λ t d _ _ m. m }

-- a connection whose rate can be read is not closed
call_kept : (s : State) (o : Outcome) (v : ℕ) (x : Change) (b : ℕ) (y : Change) → acr_of o.state v ≡ Rate b y → (c : Sort) → NoFeedback v c → KeptBy (Changed x) v s o c
unfolding with_served acr_of entry_acr
call_kept s o v x b y e (opener u t p) q = tt
call_kept s o v x b y e (closer u) q = λ _ f. let z : NotOpen ≡ Rate b y = ap entry_acr (sym f) ∙ e in let w : ◌≡◌ {A = ℕ} 0 1 = cc in absurd (omega arith)
call_kept s o v x b y e (arrival i) q = λ f d r n g k. work-kept v x s.level i f d (λ z. q f r z n) k
call_kept s o v x b y e (slot_at t) q = λ d y z acr n e k. sent-kept x (kind_at t d) t d k
call_kept s o v x b y e another q = tt

same-change : (z : Entry) (x y : Change) (b : ℕ) → Has (Changed x) z → entry_acr z ≡ Rate b y → y ≡ x
unfolding entry_acr
same-change free x y b h e = absurd h
same-change (taken d) x y b h e = let q : d.change ≡ y = cc in sym q ∙ h

kept :
    (cs : List Call) (c : Call) (v a b : ℕ) (x y : Change) → NotFedBack v c → acr_of (final empty cs) v ≡ Rate a x
    → acr_of (step (final empty cs) c).state v ≡ Rate b y → y ≡ x
unfolding acr_of
kept cs c v a b x y q e g =
    let s : State = final empty cs in
    let u = (reached-well-formed cs).unique in
    let m = has-map (λ _ h. h.1) (find v s.entries) (rate-in (find v s.entries) a x e) in
    same-change (find v (step s c).state.entries) x y b (effect-kept (Changed x) v u (effect s u c) (change-stable v x s) (call_kept s (step s c) v x b y g (sort_of c) q) m) g

pub changes : Changes
changes = record {
  bounded = bounded;
  opens = λ cs vpi vci t n p e. begun n (effect (final empty cs) (reached-well-formed cs).unique (opening vpi vci t p)) e;
  opens_path = λ cs vpi t n p e. opened-path n (effect (final empty cs) (reached-well-formed cs).unique (opening_path vpi t p)) e;
  fed_back = fed-back;
  kept = kept;
}
