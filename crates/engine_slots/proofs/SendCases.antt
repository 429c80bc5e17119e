-- What a slot that goes to an entry leaves: a forward cell, or a turned or made one.
use Prim.Native.Nat.{ℕ, ◌/◌, ◌≤◌, ◌<◌}
use mathlib.Core.Path.{◌≡◌, refl, sym, ap, subst, ◌∙◌}
use mathlib.Core.Logic.{◌≢◌}
use mathlib.Core.Bool.{Bool, false, false≢true}
use mathlib.Core.List.{List}
use mathlib.Core.Option.{none}
use native.Mathlib.Omega.{arith}
use lib.Dec.{leb}
use lib.ListN.{get_or}
use Rattle.rate.specs.Units.{latest_time}
use Rattle.cell.specs.Name.{no_name}
use Rattle.connection_members.specs.Turn.{after_serving, last_after}
use Rattle.connection.specs.declared.parts.Connection.{Connection}
use Rattle.connection.specs.declared.kind.Kind.{Kind}
use Rattle.connection.specs.declared.kind.Kind.TheVariants.{Forward, Turned}
use Rattle.connection.specs.Invariant.{ValidAt}
use Rattle.connection.specs.Kind.{kind_at}
use Rattle.connection.specs.Range.{InRange}
use Rattle.connection.specs.Source.{sent_forward, with_served}
use Rattle.connection.specs.Destination.{sent_turned, backward_cell}
use Rattle.connection.specs.Slot.{after, member_served, buffer_sent}
use Rattle.connection.proofs.Keeps.{after_same, after-valid}
use Rattle.connection.proofs.Ranged.{after-ranged}
use Rattle.connection.proofs.Reached.{acr-is-rate}
use Rattle.model.specs.State.{State, Entry, taken, leaf_of, with_entry_of, with_members, capacity}
use Rattle.model.specs.Call.{Outcome}
use Rattle.model.specs.Step.{name_answered, send_from, send_step}
use Rattle.model.specs.Tournament.{levels, neighbour, replayed}
use Rattle.model.specs.Answers.{Sent, SentCell}
use Rattle.model.specs.Details.{none_turned, rate_in, is_made, sent_with, slot_answer}
use Rattle.table.specs.Layout.{words, record_from}
use Rattle.table.specs.Loading.{connection_at}
use Rattle.table.proofs.Loaded.{load-named}
use Rattle.table_names.specs.Finding.{Located}
use Rattle.table_names.proofs.Found.{found_at}
use Rattle.table_tournament.proofs.Keyed.{neighbour-below}
use Rattle.table_tournament.proofs.Winning.{winner-key}
use Rattle.engine.specs.Contract.{buffer_content}
use Rattle.engine_slots.specs.Slots.{ForwardIn, SlotLeaves, SendsFrom}
use Rattle.table_store.specs.Updates.{Leads, WinnerUpdates, SourceMoved, BothMoved}
use Rattle.engine.proofs.Outcomes.{ranged, roomy, valid-in, loaded-is, updated-when, put-ordered}

-- Whatever the words are: the name that was loaded is one, and what a cell makes of the connection keeps it and lies
-- in range.
pub loaded-named : (l : List ℕ) (i : ℕ) {d : Connection} → d ≡ connection_at l i → d.name < no_name
loaded-named l i q = subst (λ (x : Connection). x.name < no_name) (sym q) (load-named l i)

module _ (t : ℕ) (l : List ℕ) (i : ℕ) {d : Connection} (q : d ≡ connection_at l i) where
  after-in-range : (k : Kind) → t ≤ latest_time → InRange (after k t d)
  after-in-range k h = after-ranged k t d (omega (arith, h)) (ranged l i q) (roomy l i q)

  pub forward-named : {n : Connection} → n ≡ sent_forward t d → n.name < no_name
  unfolding after
  forward-named b = subst (λ (x : ℕ). x < no_name) (sym (ap (λ (x : Connection). x.name) b ∙ (after_same Forward t d).name)) (loaded-named l i q)

  pub forward-in-range : {n : Connection} → n ≡ sent_forward t d → t ≤ latest_time → InRange n
  unfolding after
  forward-in-range b h = subst InRange (sym b) (after-in-range Forward h)

  pub turned-in-range : {n : Connection} → n ≡ sent_turned t d → t ≤ latest_time → InRange n
  unfolding after
  turned-in-range b h = subst InRange (sym b) (after-in-range Turned h)

-- a slot's outcome without a member
abbrev plain : State → (t : ℕ) → Connection → Kind → Outcome
plain s t c k = record {
  state = with_entry_of c.name (taken (after k t c)) s;
  answer = Sent c.name c.name k (after k t c).rate.acr (replayed (leaf_of c.name s) s.entries (with_entry_of c.name (taken (after k t c)) s).entries);
  buffer = buffer_sent k c (after k t c);
}

unserved : (s : State) (t : ℕ) (c : Connection) (k : Kind) → send_from s t c.name c k none ≡ plain s t c k
unfolding send_from name_answered after_serving with_members with_entry_of with_served last_after
unserved s t c k = refl

plain_send : (s : State) (t : ℕ) (c : Connection) (k : Kind) → member_served k c s.members ≡ none → send_step s t c.name c k ≡ plain s t c k
unfolding send_step
plain_send s t c k e = ap (send_from s t c.name c k) e ∙ unserved s t c k

module _ (s : State) (t i : ℕ) (c : Connection) (f : SendsFrom t i s c) where
  abbrev pub located : Located s.entries c.name i
  located = record { holder = c; here = f.here; named = refl; place = f.place }

  pub leading : Leads i s
  leading = record { unique = f.reached.unique; wins = f.leads }

  -- no neighbour has a greater key
  pub never-behind : {l : List ℕ} → l ≡ words s → i < capacity → (b : Bool) → b ≡ leb (get_or l (record_from (neighbour i)) 0) (get_or l (record_from i) 0) → b ≢ false
  never-behind e h b g z = false≢true (sym z ∙ g ∙ winner-key _ s f.reached e i (neighbour i) h (neighbour-below (capacity / 2) i h) f.leads)

  pub valid : ValidAt t c
  valid = subst (λ (z : ℕ). ValidAt z c) f.timed (valid-in s f.reached located)

  module _ (k : Kind) (kind : kind_at t c ≡ k) where
    pub next-valid : ValidAt s.last (after k t c)
    next-valid = subst (λ (y : ℕ). ValidAt y (after k t c)) (sym f.timed) (after-valid k t c kind valid)

    -- what the slot answers of the entry: its leaf, its rate before the cell, and whether the cell was a made one
    pub shown : (x a j : ℕ) → SentCell x k a j i c.rate.acr (is_made k (taken c)) ≡ sent_with s (Sent c.name x k a j)
    shown x a j =
        ap (λ (z : ℕ). SentCell x k a j z c.rate.acr (is_made k (taken c))) (sym f.place)
        ∙ ap (λ (z : Entry). SentCell x k a j (leaf_of c.name s) (rate_in z) (is_made k z)) (sym (found_at located))

    -- from the connection itself, once its entry is stored
    pub sent-out :
        {m : List ℕ} {j : ℕ} → (m ≡ words (with_entry_of c.name (taken (after k t c)) s)) × (j ≡ replayed (leaf_of c.name s) s.entries (with_entry_of c.name (taken (after k t c)) s).entries)
        → member_served k c s.members ≡ none → (old new : List ℕ) → new ≡ buffer_content (buffer_sent k c (after k t c)) old
        → SlotLeaves k t s c m (SentCell c.name k (after k t c).rate.acr j i c.rate.acr (is_made k (taken c))) old new
    sent-out {m} {j} y o old new g =
        subst
        (λ (p : Outcome). (m ≡ words p.state) × (SentCell c.name k (after k t c).rate.acr j i c.rate.acr (is_made k (taken c)) ≡ slot_answer s p) × (new ≡ buffer_content p.buffer old))
        (sym (plain_send s t c k o))
        (y.0, shown c.name (after k t c).rate.acr j ∙ ap (λ (n : ℕ). sent_with s (Sent c.name c.name k (after k t c).rate.acr n)) y.1, g)

  module _ {l : List ℕ} (e : l ≡ words s) (h : i < capacity) (d : Connection) (q : d ≡ connection_at l i) where
    is : d ≡ c
    is = loaded-is s f.reached located e h q

    pub forward-out :
        {m : List ℕ} (old new : List ℕ) (n : Connection) → n ≡ sent_forward t d → ForwardIn 0 n.name n.rate new → WinnerUpdates SourceMoved l m i n → kind_at t c ≡ Forward
        → SlotLeaves Forward t s c m (SentCell d.name Forward n.rate.acr levels i d.rate.acr false) old new
    unfolding after sent_forward member_served buffer_sent
    forward-out {m} old new n b g u kind =
        let a = after_same Forward t c in
        let v = next-valid Forward kind in
        let next-is : n ≡ after Forward t c = b ∙ ap (sent_forward t) is in
        let y =
        updated-when s f.reached.size e located (after Forward t c) a leading (subst (λ (z : Connection). WinnerUpdates SourceMoved l m i z) next-is u) (refl, refl)
        (put-ordered f.reached c.name (taken (after Forward t c)) v a.name) in
        subst (λ (z : Connection). SlotLeaves Forward t s c m (SentCell z.name Forward n.rate.acr levels i z.rate.acr false) old new) (sym is)
        (subst (λ (z : Connection). SlotLeaves Forward t s c m (SentCell c.name Forward z.rate.acr levels i c.rate.acr false) old new) (sym next-is)
        (sent-out Forward kind y refl old new ((subst (λ (z : Connection). ForwardIn 0 z.name z.rate new) next-is g).is (acr-is-rate (after Forward t c).rate v.1.rates))))

    pub turned-out :
        {m : List ℕ} (old new : List ℕ) (n : Connection) → n ≡ sent_turned t d → new ≡ backward_cell d.name d.rate.params d.destination.turned d.destination.made.level → WinnerUpdates BothMoved l m i n → (b : Bool)
        → b ≡ none_turned d.destination.turned → kind_at t c ≡ Turned → SlotLeaves Turned t s c m (SentCell d.name Turned n.rate.acr levels i d.rate.acr b) old new
    unfolding after sent_turned member_served buffer_sent
    turned-out {m} old new n a g u b w kind =
        let z = after_same Turned t c in
        let next-is : n ≡ after Turned t c = a ∙ ap (sent_turned t) is in
        let y =
        updated-when s f.reached.size e located (after Turned t c) z leading (subst (λ (x : Connection). WinnerUpdates BothMoved l m i x) next-is u) refl
        (put-ordered f.reached c.name (taken (after Turned t c)) (next-valid Turned kind) z.name) in
        subst (λ (x : Bool). SlotLeaves Turned t s c m (SentCell d.name Turned n.rate.acr levels i d.rate.acr x) old new) (sym w)
        (subst (λ (x : Connection). SlotLeaves Turned t s c m (SentCell x.name Turned n.rate.acr levels i x.rate.acr (none_turned x.destination.turned)) old new) (sym is)
        (subst (λ (x : Connection). SlotLeaves Turned t s c m (SentCell c.name Turned x.rate.acr levels i c.rate.acr (none_turned c.destination.turned)) old new) (sym next-is)
        (sent-out Turned kind y refl old new (subst (λ (x : Connection). new ≡ backward_cell x.name x.rate.params x.destination.turned x.destination.made.level) is g))))
