-- Two made cells of a connection lie 100 ms or more apart, and so do two of its out-of-rate cells. One law serves
-- both instants that a connection keeps.
use Rattle.std.specs.Prelude.{Some, None}
use Prim.Native.Nat.{ℕ, ◌+◌, ◌≤◌, ◌<◌}
use mathlib.Core.Path.{◌≡◌, refl, sym, ap, subst, ◌∙◌}
use mathlib.Core.Logic.{◌≢◌}
use mathlib.Core.Bool.{Bool, true, false, cond}
use mathlib.Core.List.{List, [], ◌∷◌}
use native.Mathlib.Nat.{le_refl}
use native.Mathlib.Omega.{arith}
use borrow.Author.Tests.{eq-eqb, leb-true}
use lib.Dec.{eqb}
use Rattle.cell.specs.Name.{no_name, address_name}
use Rattle.cell.specs.declared.fields.Fields.{Fields}
use Rattle.cell.proofs.Names.{names_apart}
use Rattle.connection.specs.declared.parts.Connection.{Connection}
use Rattle.connection.specs.declared.parts.Made.{Made}
use Rattle.connection.specs.declared.kind.Kind.{Kind}
use Rattle.connection.specs.declared.kind.Kind.TheVariants.{Forward, Turned, Data}
use Rattle.connection.specs.Parts.{with_queue, dequeued, Waiting, Instant}
use Rattle.connection.specs.Invariant.{NotAfter, ValidAt}
use Rattle.connection.specs.Interval.{rested}
use Rattle.connection.specs.Source.{offered, after_backward_cell, sent_forward, sent_data, with_served, after_out_of_rate}
use Rattle.connection.specs.Destination.{with_made, after_data_cell, after_forward_cell, sent_turned, made_left}
use Rattle.connection.specs.Received.{after_rm_cell}
use Rattle.connection.specs.Slot.{after}
use Rattle.connection.specs.Kind.{kind_at}
use Rattle.model.specs.State.{State, Entry, taken, empty, find, with_time}
use Rattle.model.specs.Invariant.{WellFormed}
use Rattle.model.specs.Call.{Call, closing, making, Outcome}
use Rattle.model.specs.Aspects.{Sort, opener, closer, arrival, slot_at, another, sort_of}
use Rattle.model.specs.Step.{refuse, accept, replay, step}
use Rattle.model.specs.Run.{final, is_accepted}
use Rattle.model.proofs.Frames.{name_of, put-read}
use Rattle.model.proofs.Preserved.{valid-at}
use Rattle.model.proofs.Effects.{Effect, refuses, makes, effect}
use Rattle.model.proofs.Reached.{step-well-formed, final-well-formed, reached-well-formed}
use Rattle.laws.specs.All.{All}
use Rattle.promise_cells.specs.Spaced.{Apart, MakingsSpaced}
use Rattle.promise_cells.proofs.Kept.{Has, KeptBy, effect-kept, Stable}
use Rattle.promise_lists.proofs.Moves.{closer-closes}

pub data Spacing : Type 0 where
  cell_made out_of_rate_sent : Spacing

-- the instant of a connection's last cell of each sort
abbrev Instants : Type 0
Instants = Instant × Instant

abbrev instants : Connection → Instants
instants c = (c.destination.made.last, c.out_of_rate)

abbrev pub chosen : Spacing → Instants → Instant
chosen cell_made i = i.0
chosen out_of_rate_sent i = i.1

abbrev pub last_of : Spacing → Connection → Instant
last_of k c = chosen k (instants c)

-- the last one of this sort, as it is kept, is not before t
pub record Since (k : Spacing) (t : ℕ) (c : Connection) : Type 0 where
  pub instant : ℕ
  pub at : last_of k c ≡ Some instant
  pub since : t ≤ instant

kept-since : (k : Spacing) (t : ℕ) (c d : Connection) → instants d ≡ instants c → Since k t c → Since k t d
kept-since k t c d e m = record { instant = m.instant; at = ap (chosen k) e ∙ m.at; since = m.since }

-- received cells and slots change neither
work-instants : (level : ℕ) (o : List ℕ) (f : Fields) (c : Connection) → instants (after_rm_cell level o f c) ≡ instants c
unfolding after_rm_cell after_backward_cell after_forward_cell
work-instants level o f c = go (eqb f.dir 1)
  where
    go : (t : Bool) → instants (cond t (after_backward_cell f c) (after_forward_cell level o c)) ≡ instants c
    go true = refl
    go false = refl

left-last : (w : Waiting) (m : Made) → (made_left w m).last ≡ m.last
unfolding made_left
left-last None m = refl
left-last (Some p) m = refl

after-instants : (k : Kind) (t : ℕ) (c : Connection) → instants (after k t c) ≡ instants c
unfolding after sent_forward sent_turned sent_data
after-instants Forward t c = refl
after-instants Turned t c = ap (λ (i : Instant). (i, c.out_of_rate)) (left-last c.destination.turned c.destination.made)
after-instants Data t c = refl

-- a new one is not before the last one kept, since none is after the time of the table
not_after : (k : Spacing) {now : ℕ} (c : Connection) (m : ℕ) → last_of k c ≡ Some m → ValidAt now c → m ≤ now
not_after cell_made {now} c m e h = subst (NotAfter now) e h.2.past
not_after out_of_rate_sent {now} c m e h = subst (NotAfter now) e h.3

new-made : (k : Spacing) (t x level : ℕ) (c : Connection) → t ≤ x → Since k t c → Since k t (with_made x level c)
unfolding with_made
new-made cell_made t x level c h m = record { instant = x; at = refl; since = h }
new-made out_of_rate_sent t x level c h m = record { instant = m.instant; at = m.at; since = m.since }

new-out-of-rate : (k : Spacing) (t x : ℕ) (c : Connection) → t ≤ x → Since k t c → Since k t (after_out_of_rate x c)
unfolding after_out_of_rate
new-out-of-rate cell_made t x c h m = record { instant = m.instant; at = m.at; since = m.since }
new-out-of-rate out_of_rate_sent t x c h m = record { instant = x; at = refl; since = h }

since-stable : (k : Spacing) (v t : ℕ) {s : State} → WellFormed s → Stable (Since k t) v s
unfolding offered after_data_cell
since-stable k v t {s} w = record {
  offers = λ n d m. kept-since k t d (offered n d) refl m;
  removals = λ n d m. kept-since k t d (with_queue d (dequeued n d.queue)) refl m;
  data_cells = λ e d m. kept-since k t d (after_data_cell e d) refl m;
  makings = λ x d h g m. new-made k t x s.level d (omega (arith, h, m.since, not_after k d m.instant m.at (valid-at w v d g))) m;
  out_of_rates = λ x d h g m. new-out-of-rate k t x d (omega (arith, h, m.since, not_after k d m.instant m.at (valid-at w v d g))) m;
}

-- only a close of this very pair closes it: no other pair makes its name
open_kept :
    (k : Spacing) (vpi vci : ℕ) → address_name vpi vci < no_name → (t : ℕ) (s : State) (c : Call) (o : Outcome) → c ≢ closing vpi vci → (x : Sort) → sort_of c ≡ x
    → KeptBy (Since k t) (address_name vpi vci) s o x
unfolding with_served
open_kept k vpi vci l t s c o q (opener u i p) e = tt
open_kept k vpi vci l t s c o q (closer u) e = λ z _.
    let y = closer-closes c u e in
    let n = names_apart vpi vci y.vpi y.vci l (sym (y.name ∙ z)) in
    q (y.is ∙ (λ i. closing (sym n.0 i) (sym n.1 i)))
open_kept k vpi vci l t s c o q (arrival x) e = λ f d r _ g m. kept-since k t d (after_rm_cell s.level x f d) (work-instants s.level x f d) m
open_kept k vpi vci l t s c o q (slot_at x) e = λ d v y acr n e m. kept-since k t d (with_served y (after (kind_at x d) x d)) (after-instants (kind_at x d) x d) m
open_kept k vpi vci l t s c o q another e = tt

all-since :
    (k : Spacing) (vpi vci : ℕ) → address_name vpi vci < no_name → (t : ℕ) {s : State} → WellFormed s → (cs : List Call) → All (λ c. c ≢ closing vpi vci) cs
    → Has (Since k t) (find (address_name vpi vci) s.entries) → Has (Since k t) (find (address_name vpi vci) (final s cs).entries)
all-since k vpi vci l t w [] q m = m
all-since k vpi vci l t {s} w (c ∷ cs) q m =
    all-since k vpi vci l t {s = (step s c).state} (step-well-formed w c) cs q.1
    (effect-kept (Since k t) (address_name vpi vci) w.unique (effect s w.unique c) (since-stable k (address_name vpi vci) t w) (open_kept k vpi vci l t s c (step s c) q.0 (sort_of c) refl) m)

-- an accepted call for v at t that sends or makes such a cell, 100 ms or more after the one
-- before it; it is then the last one
pub record Counts (k : Spacing) (v t : ℕ) (s : State) (o : Outcome) : Type 0 where
  pub holder : Connection
  pub found : find v s.entries ≡ taken holder
  pub rested : (m : ℕ) → last_of k holder ≡ Some m → m + 100_000_000 ≤ t
  pub after : Has (Since k t) (find v o.state.entries)

-- the name of an open connection has 24 bits
pub named-below : {s : State} → WellFormed s → (v : ℕ) (d : Connection) → find v s.entries ≡ taken d → v < no_name
named-below {s} w v d f = subst (λ (u : ℕ). u < no_name) (name_of v s d f) (valid-at w v d f).0.coded

pub rested-since : (t : ℕ) (i : Instant) → rested t i ≡ true → (m : ℕ) → i ≡ Some m → m + 100_000_000 ≤ t
unfolding rested
rested-since t i h m e = leb-true _ _ (subst (λ (j : Instant). rested t j ≡ true) e h)

-- what is asked of a call's sort: that it counts wherever it is accepted
abbrev pub Counting : (k : Spacing) (v t : ℕ) (c : Call) → Type 0
Counting k v t c = (s : State) → WellFormed s → is_accepted (step s c).answer ≡ true → Counts k v t s (step s c)

pub apart :
    (k : Spacing) (cs ds : List Call) (vpi vci t later : ℕ) (one two : Call) → Counting k (address_name vpi vci) t one → Counting k (address_name vpi vci) later two
    → Apart cs ds vpi vci one two t later
apart k cs ds vpi vci t later one two f g q a b =
    let w = reached-well-formed cs in
    let s : State = (step (final empty cs) one).state in
    let x : WellFormed s = step-well-formed w one in
    let y = f _ w a in
    let z = g _ (final-well-formed x ds) b in
    let l = named-below w (address_name vpi vci) y.holder y.found in
    let h : Since k t z.holder = subst (Has (Since k t)) z.found (all-since k vpi vci l t x ds q y.after) in
    omega (arith, h.since, z.rested h.instant h.at)

-- Made cells.
effect-counts :
    {s : State} → WellFormed s → (vpi vci t : ℕ) {o : Outcome} → Effect s (making vpi vci t) o → is_accepted o.answer ≡ true → Counts cell_made (address_name vpi vci) t s o
unfolding refuse accept replay is_accepted with_time with_made
effect-counts w vpi vci t (refuses _ n h) a = let z : ◌≡◌ {A = ℕ} 0 1 = cc in absurd (omega arith)
effect-counts {s} w vpi vci t (makes _ _ _ d f g b h) a =
    let v : ℕ = address_name vpi vci in
    let own : find v _ ≡ taken (with_made t s.level d) = put-read (λ (x : Entry). x) v v (with_time t s) w.unique d (with_made t s.level d) f refl ∙ rw (eq-eqb v v refl) refl in
    let now : Since cell_made t (with_made t s.level d) = record { instant = t; at = refl; since = le_refl t } in
    record { holder = d; found = f; rested = rested-since t d.destination.made.last h; after = subst (Has (Since cell_made t)) (sym own) now }

pub makings-spaced : MakingsSpaced
makings-spaced cs ds vpi vci t later =
    apart cell_made cs ds vpi vci t later (making vpi vci t) (making vpi vci later) (λ s w. effect-counts w vpi vci t (effect s w.unique _))
    (λ s w. effect-counts w vpi vci later (effect s w.unique _))
