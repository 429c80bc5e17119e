-- One lemma for each way out of making a backward cell.
use Prim.Native.Nat.{ℕ, ◌≤◌, ◌<◌}
use mathlib.Core.Path.{◌≡◌, refl, ap, ◌∙◌}
use mathlib.Core.Bool.{true, false}
use mathlib.Core.List.{List}
use lib.Dec.{ltb}
use lib.ListN.{set}
use borrow.Author.Tests.{lt-ltb, le-ltb}
use Rattle.laws.specs.Require.{require}
use Rattle.cell.specs.Name.{vpi_in, vci_in}
use Rattle.connection.specs.declared.parts.Connection.{Connection}
use Rattle.connection.specs.Interval.{rested}
use Rattle.connection.specs.Destination.{with_made}
use Rattle.connection.proofs.Keeps.{made-same}
use Rattle.model.specs.State.{State, taken, leaf_of, with_entry_of, with_time, capacity}
use Rattle.model.specs.Invariant.{WellFormed}
use Rattle.model.specs.Call.{making, Outcome}
use Rattle.model.specs.Step.{refuse, replay, make_step, step}
use Rattle.model.specs.Answers.{Accepted}
use Rattle.table_store.specs.Updates.{Updates, DestinationMoved}
use Rattle.table.specs.Layout.{words, last_at}
use Rattle.table_names.specs.Finding.{Located}
use Rattle.table_tournament.proofs.Orders.{ordered}
use Rattle.engine.specs.Timed.{of_timed, TimedAt}
use Rattle.engine.proofs.Outcomes.{pair_of, replayed-out, replay-well-formed, time-word, later-put, updated-is}

-- what is left of making, on the connection of the name
abbrev make_rest : State → (name time : ℕ) → Connection → Outcome
make_rest s v t c =
    require (refuse s 16) (ltb 0 s.level)
    (require (refuse s 17) (rested t c.destination.made.last)
    (replay (leaf_of v s) s (with_entry_of v (taken (with_made t s.level c)) (with_time t s))))

module _ (s : State) (v t : ℕ) where
  pub make-timed : make_step s v t ≡ of_timed s v t (make_rest s v t)
  unfolding make_step
  make-timed = refl

  module _ (c : Connection) where
    uncongested : s.level ≤ 0 → make_rest s v t c ≡ refuse s 16
    unfolding require
    uncongested l = rw (le-ltb 0 s.level l)

    soon : 0 < s.level → rested t c.destination.made.last ≡ false → make_rest s v t c ≡ refuse s 17
    unfolding require
    soon l m = rw (lt-ltb 0 s.level l, m)

    made :
        0 < s.level → rested t c.destination.made.last ≡ true → make_rest s v t c ≡ replay (leaf_of v s) s (with_entry_of v (taken (with_made t s.level c)) (with_time t s))
    unfolding require
    made l m = rw (lt-ltb 0 s.level l, m)

  module _ {i : ℕ} (k : TimedAt s v t i) where
    rest-is : make_step s v t ≡ make_rest s v t k.located.holder
    rest-is = make-timed ∙ k.passes (make_rest s v t)

    pub make-uncongested : s.level ≤ 0 → make_step s v t ≡ refuse s 16
    make-uncongested l = rest-is ∙ uncongested k.located.holder l

    pub make-soon : 0 < s.level → rested t k.located.holder.destination.made.last ≡ false → make_step s v t ≡ refuse s 17
    make-soon l m = rest-is ∙ soon k.located.holder l m

    pub make-done :
        0 < s.level → rested t k.located.holder.destination.made.last ≡ true
        → make_step s v t ≡ replay (leaf_of v s) s (with_entry_of v (taken (with_made t s.level k.located.holder)) (with_time t s))
    make-done l m = rest-is ∙ made k.located.holder l m

made-moved : (t level : ℕ) (c : Connection) → DestinationMoved c (with_made t level c)
unfolding with_made
made-moved t level c = (refl, refl)

-- the entry stored, then the time
pub make-out :
    (s : State) (w : WellFormed s) {l m : List ℕ} {n : ℕ} → l ≡ words s → {v i : ℕ} → i < capacity → (p : Located s.entries v i) (t : ℕ)
    → make_step s v t ≡ replay (leaf_of v s) s (with_entry_of v (taken (with_made t s.level p.holder)) (with_time t s)) → Updates DestinationMoved l m i (with_made t s.level p.holder) n
    → (set m last_at t ≡ words (make_step s v t).state) × (Accepted n ≡ (make_step s v t).answer)
unfolding step with_entry_of with_time
make-out s w e {v} {i} h p t done u =
    let d : Connection = with_made t s.level p.holder in
    let z = replay-well-formed w (making (vpi_in v) (vci_in v) t) (leaf_of v s) (with_entry_of v (taken d) (with_time t s)) (ap (λ (u : ℕ). make_step s u t) (pair_of s w p) ∙ done) in
    let b = updated-is s w.size e p d (made-same t s.level p.holder) u (made-moved t s.level p.holder) (ordered z) in
    replayed-out (leaf_of v s) s (with_entry_of v (taken d) (with_time t s))
    (ap (λ (x : List ℕ). set x last_at t) b.0 ∙ time-word (with_entry_of v (taken d) s) t ∙ ap words (later-put s v t d), b.1) done
