-- One lemma for each way out of a call: what the tests on that way say of the call's step.
use Prim.Native.Nat.{ℕ, ◌+◌, ◌≤◌, ◌<◌}
use mathlib.Core.Path.{◌≡◌, refl, sym, ap, subst, ◌∙◌}
use mathlib.Core.Bool.{true, false}
use mathlib.Core.List.{List}
use borrow.Author.Tests.{le-leb, lt-leb}
use Rattle.cell.specs.Name.{vpi_in, vci_in, no_name}
use Rattle.connection_members.specs.Path.{is_path}
use Rattle.connection_members.specs.Members.{without_path}
use Rattle.connection.specs.declared.parts.Connection.{Connection}
use Rattle.connection.specs.Parts.{waiting}
use Rattle.connection.specs.Source.{offered}
use Rattle.connection.proofs.Keeps.{KeepsIdentity}
use Rattle.model.specs.State.{State, Entry, free, taken, find, leaf_of, with_entry_of, with_level, with_members, capacity}
use Rattle.model.specs.Invariant.{WellFormed}
use Rattle.table.specs.Layout.{words}
use Rattle.table.specs.Loading.{connection_at}
use Rattle.std.specs.Prelude.{Option, Some, None}
use Rattle.table_names.specs.Finding.{Located, FindsName}
use Rattle.table_names.proofs.Found.{found_at}
use Rattle.model.specs.Answers.{Refused, Accepted, Closed}
use Rattle.model.specs.Call.{offering}
use Rattle.model.specs.Step.{refuse, accept, replay, discard, of_open, close_step, offer_step, level_step, step}
use Rattle.table_store.specs.Updates.{Updates, QueueMoved, ClosesEntry}
use Rattle.table_tournament.specs.Replaying.{Playable}
use Rattle.table_members.specs.Words.{RemovesPath}
use Rattle.engine.specs.Contract.{MeetsReading}
use Rattle.table_tournament.proofs.Orders.{ordered}
use Rattle.engine.proofs.Outcomes.{refused-out, replayed-out, discarded-out, replay-well-formed, put-ordered, below, missing, entry-located, valid-in, pair_of, loaded-is, put-at, put-becomes, updated-is}
use Rattle.engine.proofs.Members.{front, with-members, members-changed}
use Rattle.laws.specs.Require.{require}

-- Set level.
pub level-over : (s : State) (l : ℕ) → 2 < l → level_step s l ≡ refuse s 9
unfolding level_step require
level-over s l h = rw (lt-leb l 2 h)

pub level-set : (s : State) (l : ℕ) → l ≤ 2 → level_step s l ≡ accept 0 (with_level l s)
unfolding level_step require
level-set s l h = rw (le-leb l 2 h)

-- Close.
pub close-missing : (s : State) (v : ℕ) → find v s.entries ≡ free → close_step s v ≡ refuse s 11
unfolding close_step of_open
close-missing s v e = rw e

-- the state that a close leaves
abbrev closed : (name : ℕ) → State → State
closed v s = with_members (without_path v s.members) (with_entry_of v free s)

pub close-done : (s : State) (v : ℕ) (c : Connection) → find v s.entries ≡ taken c → close_step s v ≡ discard (waiting c.queue) (leaf_of v s) s (closed v s)
unfolding close_step of_open
close-done s v c e = rw e

-- the entry is cleared, then the path's members
pub close-out :
    (s : State) → WellFormed s → {l m k : List ℕ} {n : ℕ} → l ≡ words s → {v i : ℕ} → i < capacity → Located s.entries v i → {d : Connection} → d ≡ connection_at l i
    → ClosesEntry l m i v n → RemovesPath v m k → (k ≡ words (close_step s v).state) × (Closed n (waiting d.queue) ≡ (close_step s v).answer)
unfolding with_entry_of with_members
close-out s w e {v} {i} h p {d} q u r =
    let done = close-done s v p.holder (found_at p) ∙ ap (λ (x : Connection). discard (waiting x.queue) (leaf_of v s) s (closed v s)) (sym (loaded-is s w p e h q)) in
    let z = put-ordered w v free tt tt in
    let b = put-becomes s v p.place free (u.is s w.size e p.holder p.here p.named (subst (λ (x : State). Playable x.entries) (put-at s v p.place free) z)) in
    let m = r.is (front (with_entry_of v free s)) s.members (with-members (with_entry_of v free s) z.size w.members.valid b.0) (subst (λ (x : ℕ). x < no_name) p.named (valid-in s w p).0.coded) in
    discarded-out (waiting d.queue) (leaf_of v s) s (closed v s) (members-changed (with_entry_of v free s) (without_path v s.members) m, b.1) done

-- Reading what f takes out of the entry of a name: an ACR, or a contract's codes.
pub reads-missing :
    {A : Type 0} (f : Entry → A) (l : List ℕ) (v : ℕ) {r : Option ℕ} → FindsName l v r → r ≡ None → MeetsReading (λ s. f free ≡ f (find v s.entries)) l
reads-missing f l v h q = record { meets = λ s w e. ap f (sym (missing s w e v h q)) }

pub reads-found :
    {A : Type 0} (f : Entry → A) (l : List ℕ) (v : ℕ) {r : Option ℕ} {i : ℕ} → FindsName l v r → r ≡ Some i → {d : Connection} → d ≡ connection_at l i
    → MeetsReading (λ s. f (taken d) ≡ f (find v s.entries)) l
reads-found f l v h q k = record {
  meets = λ s w e.
      let p = entry-located s w e v h q in
      ap (λ (x : Connection). f (taken x)) (loaded-is s w p e (below l v h q) k) ∙ ap f (sym (found_at p));
}

-- Offer.
pub offer-missing : (s : State) (v n : ℕ) → find v s.entries ≡ free → offer_step s v n ≡ refuse s 11
unfolding offer_step of_open
offer-missing s v n e = rw e

pub offer-path : (s : State) (v n : ℕ) (c : Connection) → find v s.entries ≡ taken c → is_path v ≡ true → offer_step s v n ≡ refuse s 28
unfolding offer_step of_open require
offer-path s v n c e i = rw (e, i)

over-step : (s : State) (v n : ℕ) (c : Connection) → find v s.entries ≡ taken c → is_path v ≡ false → 65535 < waiting c.queue + n → offer_step s v n ≡ refuse s 15
unfolding offer_step of_open require
over-step s v n c e i g = rw (e, i, lt-leb (waiting c.queue + n) 65535 g)

done-step :
    (s : State) (v n : ℕ) (c : Connection) → find v s.entries ≡ taken c → is_path v ≡ false → waiting c.queue + n ≤ 65535
    → offer_step s v n ≡ replay (leaf_of v s) s (with_entry_of v (taken (offered n c)) s)
unfolding offer_step of_open require
done-step s v n c e i g = rw (e, i, le-leb (waiting c.queue + n) 65535 g)

pub offered-same : (n : ℕ) (c : Connection) → KeepsIdentity c (offered n c)
unfolding offered
offered-same n c = record { name = refl; opened = refl; trm = refl; params = refl }

pub offered-moved : (n : ℕ) (c : Connection) → QueueMoved c (offered n c)
unfolding offered
offered-moved n c = (refl, refl, refl)

-- the entry's connection, as it was loaded
module _ (s : State) (w : WellFormed s) {l : List ℕ} (e : l ≡ words s) (v n i : ℕ) (h : i < capacity) (p : Located s.entries v i) (d : Connection) (q : d ≡ connection_at l i) (b : is_path v ≡ false) where
  is : d ≡ p.holder
  is = loaded-is s w p e h q

  pub offer-over : 65535 < waiting d.queue + n → (l ≡ words (offer_step s v n).state) × (Refused 15 ≡ (offer_step s v n).answer)
  offer-over g =
      refused-out s 15 e (over-step s v n p.holder (found_at p) b (subst (λ (x : Connection). 65535 < waiting x.queue + n) is g))

  pub offer-done :
      {m : List ℕ} {k : ℕ} (x : Connection) → x ≡ offered n d → Updates QueueMoved l m i x k → waiting d.queue + n ≤ 65535
      → (m ≡ words (offer_step s v n).state) × (Accepted k ≡ (offer_step s v n).answer)
  unfolding step
  offer-done {m} {k} x a u g =
      let c : Connection = offered n p.holder in
      let done = done-step s v n p.holder (found_at p) b (subst (λ (z : Connection). waiting z.queue + n ≤ 65535) is g) in
      replayed-out (leaf_of v s) s (with_entry_of v (taken c) s)
      (updated-is s w.size e p c (offered-same n p.holder) (subst (λ (z : Connection). Updates QueueMoved l m i z k) (a ∙ ap (offered n) is) u) (offered-moved n p.holder)
      (ordered (replay-well-formed w (offering (vpi_in v) (vci_in v) n) (leaf_of v s) (with_entry_of v (taken c) s) (ap (λ (u : ℕ). offer_step s u n) (pair_of s w p) ∙ done)))) done
