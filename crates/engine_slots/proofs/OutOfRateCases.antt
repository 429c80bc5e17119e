-- One lemma for each way out of sending an out-of-rate cell.
use Prim.Native.Nat.{ℕ, ◌<◌}
use mathlib.Core.Path.{◌≡◌, refl, ap, ◌∙◌}
use mathlib.Core.Bool.{true, false}
use mathlib.Core.List.{List}
use lib.ListN.{set}
use borrow.Author.Tests.{eq-eqb, ne_eqb}
use Rattle.laws.specs.Require.{require}
use Rattle.connection.specs.declared.parts.Connection.{Connection}
use Rattle.connection.specs.Interval.{rested}
use Rattle.connection.specs.Source.{after_out_of_rate, out_of_rate_cell}
use Rattle.connection.proofs.Keeps.{out-of-rate-same}
use Rattle.connection.proofs.Readiness.{ready-out-of-rate}
use Rattle.connection.proofs.Reached.{acr-is-rate}
use Rattle.model.specs.State.{State, taken, with_entry_of, with_time, capacity}
use Rattle.model.specs.Invariant.{WellFormed}
use Rattle.model.specs.Call.{Outcome}
use Rattle.model.specs.Step.{refuse, send_out_of_rate, out_of_rate_step}
use Rattle.model.specs.Answers.{Accepted}
use Rattle.table.specs.Layout.{words, source_words, last_at}
use Rattle.table.specs.Storing.{out_of_rate_updated}
use Rattle.table_names.specs.Finding.{Located}
use Rattle.engine.specs.Contract.{buffer_content}
use Rattle.engine.specs.Timed.{of_timed, TimedAt}
use Rattle.engine_slots.specs.Slots.{ForwardIn}
use Rattle.engine.proofs.Outcomes.{time-word, later-put, valid-in, out-of-rate-is}

-- what is left of sending, on the connection of the name
abbrev out_of_rate_rest : State → (name time : ℕ) → Connection → Outcome
out_of_rate_rest s v t c = require (refuse s 18) (rested t c.out_of_rate) (send_out_of_rate (with_time t s) t v c)

module _ (s : State) (v t room : ℕ) where
  pub out-of-rate-short : (room ≡ 53 → ⊥) → out_of_rate_step s v t room ≡ refuse s 1
  unfolding out_of_rate_step require
  out-of-rate-short h = rw (ne_eqb room 53 h)

  module _ (r : room ≡ 53) where
    pub out-of-rate-timed : out_of_rate_step s v t room ≡ of_timed s v t (out_of_rate_rest s v t)
    unfolding out_of_rate_step require
    out-of-rate-timed = rw (eq-eqb room 53 r)

    module _ {i : ℕ} (k : TimedAt s v t i) where
      rest-is : out_of_rate_step s v t room ≡ out_of_rate_rest s v t k.located.holder
      rest-is = out-of-rate-timed ∙ k.passes (out_of_rate_rest s v t)

      pub out-of-rate-soon : rested t k.located.holder.out_of_rate ≡ false → out_of_rate_step s v t room ≡ refuse s 18
      unfolding require
      out-of-rate-soon m = rest-is ∙ rw m

      pub out-of-rate-done : rested t k.located.holder.out_of_rate ≡ true → out_of_rate_step s v t room ≡ send_out_of_rate (with_time t s) t v k.located.holder
      unfolding require
      out-of-rate-done m = rest-is ∙ rw m

-- nothing but its own instant has moved
kept : (t : ℕ) (c : Connection) → (source_words (after_out_of_rate t c) ≡ source_words c) × ((after_out_of_rate t c).destination ≡ c.destination)
unfolding after_out_of_rate
kept t c = (refl, refl)

-- the instant stored, then the time; and the cell
pub out-of-rate-out :
    (s : State) (w : WellFormed s) {l m : List ℕ} → l ≡ words s → {v i : ℕ} → i < capacity → (p : Located s.entries v i) (t room : ℕ)
    → out_of_rate_step s v t room ≡ send_out_of_rate (with_time t s) t v p.holder → m ≡ out_of_rate_updated l i (after_out_of_rate t p.holder).out_of_rate
    → (old new : List ℕ) → ForwardIn 1 p.holder.name p.holder.rate new
    → (set m last_at t ≡ words (out_of_rate_step s v t room).state) × (Accepted 0 ≡ (out_of_rate_step s v t room).answer) × (new ≡ buffer_content (out_of_rate_step s v t room).buffer old)
unfolding send_out_of_rate out_of_rate_cell
out-of-rate-out s w e {v} {i} h p t room done q old new f =
    let c : Connection = p.holder in
    let d : Connection = after_out_of_rate t c in
    let m = out-of-rate-is s w e h p d (out-of-rate-same t c) (kept t c).0 (kept t c).1 (ready-out-of-rate t c) q in
    rw done (
      ap (λ (x : List ℕ). set x last_at t) m ∙ time-word (with_entry_of v (taken d) s) t ∙ ap words (later-put s v t d),
      refl,
      f.is (acr-is-rate c.rate (valid-in s w p).1.rates),
    )
