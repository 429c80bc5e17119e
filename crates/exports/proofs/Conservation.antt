-- No data cell is unaccounted, of exported calls.
use Prim.Native.Nat.{ℕ, ◌+◌, ◌≤◌}
use mathlib.Core.Path.{◌≡◌, refl, sym, ap, ◌∙◌}
use mathlib.Core.Bool.{Bool, cond}
use mathlib.Core.List.{List, [], ◌∷◌}
use native.Mathlib.Omega.{arith}
use lib.Dec.{eqb}
use Rattle.cell.specs.Name.{address_name}
use Rattle.connection.specs.declared.parts.Connection.{Connection}
use Rattle.connection.specs.Parts.{waiting}
use Rattle.connection.specs.declared.kind.Kind.TheVariants.{Forward, Turned, Data}
use Rattle.model.specs.State.{State, Entry, free, taken, empty, find, entry_cells}
use Rattle.model.specs.Invariant.{WellFormed}
use Rattle.model.specs.Answers.{Answer, Refused, Accepted, Closed, Idle, Sent}
use Rattle.model.specs.Call.{Call, Outcome, closed_cells}
use Rattle.model.specs.Step.{refuse, discard, of_open, close_step, step}
use Rattle.model.specs.Run.{run, final, is_accepted}
use Rattle.model.specs.Conservation.{offered_to, closed_on, data_in, data_slot_of, sum_over, cells_offered, data_slots, cells_closed, cells_waiting}
use Rattle.model.proofs.Preserved.{empty-well-formed}
use Rattle.model.proofs.Reached.{step-well-formed, reached-well-formed}
use Rattle.model.proofs.Conservation.{cond-zero, conservation}
use Rattle.abr_answers.specs.declared.calls.AbrClosed.{AbrClosed}
use Rattle.abr_answers.specs.Reply.{reply_of}
use Rattle.abr.specs.Exports.{Observation, Transcript, zeros, Matches, AllMatch, neither, both}
use Rattle.abr.proofs.Exports.{exports-are-run}
use Rattle.exports.specs.Conservation.{data_returned, sum_observed, slots_from, offers_observed, slots_observed, closes_observed, ExportsConservation}
use Rattle.exports.specs.Returned.{no_member, member_seen}
use Rattle.exports.proofs.Returned.{Knows, none-known, knows_after, NamesConnection, names-connection, connection-back}
use Rattle.exports.proofs.Exports.{accepted-seen}

-- what one call returned says what its answer says
data-number : (v : ℕ) (f : ℕ → Bool) (a : Answer) → NamesConnection f a → data_returned v f (reply_of a) ≡ data_slot_of v a
unfolding data_slot_of data_in
data-number v f (Refused n) h = refl
data-number v f (Accepted n) h = refl
data-number v f (Closed n k) h = refl
data-number v f Idle h = refl
data-number v f (Sent u x Forward a n) h = sym (cond-zero (eqb u v))
data-number v f (Sent u x Turned a n) h = sym (cond-zero (eqb u v))
data-number v f (Sent u x Data a n) h = ap (λ (w : ℕ). cond (eqb w v) 1 0) (connection-back f u x h)

slots-from :
    (v : ℕ) (s : State) → WellFormed s → (f : ℕ → Bool) → Knows f s → (cs : List Call) (os : List Observation) → AllMatch (run s cs) os → slots_from v f cs os ≡ sum_over (λ c a. data_slot_of v a) s cs
slots-from v s w f k [] [] neither = refl
slots-from v s w f k (c ∷ cs) (o ∷ os) (both m ms) =
    ap (λ (n : ℕ). n + slots_from v (member_seen c o f) cs os) (ap (data_returned v f) m.returned ∙ data-number v f (step s c).answer (names-connection w f k c))
    ∙ ap (λ (n : ℕ). data_slot_of v (step s c).answer + n) (slots-from v (step s c).state (step-well-formed w c) (member_seen c o f) (knows_after w c f k _ (accepted-seen w c m)) cs os ms)
slots-from v s w f k [] (o ∷ os) x4 = elim x4 [ ]
slots-from v s w f k (c ∷ cs) [] x5 = elim x5 [ ]

-- each term of one sum is that of the other
abbrev SameTerm : (Call → Observation → ℕ) → (Call → Answer → ℕ) → Type 0
SameTerm f g = (s : State) → WellFormed s → (c : Call) (o : Observation) → Matches (step s c) o → f c o ≡ g c (step s c).answer

observed-sum :
    (f : Call → Observation → ℕ) (g : Call → Answer → ℕ) → SameTerm f g → (s : State) → WellFormed s → (cs : List Call) (os : List Observation) → AllMatch (run s cs) os
    → sum_observed f cs os ≡ sum_over g s cs
observed-sum f g h s w [] [] neither = refl
observed-sum f g h s w (c ∷ cs) (o ∷ os) (both m ms) = rw (h s w c o m, observed-sum f g h (step s c).state (step-well-formed w c) cs os ms) refl
observed-sum f g h s w [] (o ∷ os) x3 = elim x3 [ ]
observed-sum f g h s w (c ∷ cs) [] x4 = elim x4 [ ]

module _ (v : ℕ) (cs : List Call) (os : List Observation) (t : Transcript cs zeros os) where
  summed : (f : Call → Observation → ℕ) (g : Call → Answer → ℕ) → SameTerm f g → sum_observed f cs os ≡ sum_over g empty cs
  summed f g h = observed-sum f g h empty empty-well-formed cs os (exports-are-run.each cs os t)

  offers : offers_observed v cs os ≡ cells_offered v cs
  offers =
      summed (λ c o. offered_to v c (eqb o.returned.refusal 0)) (λ c a. offered_to v c (is_accepted a))
      (λ s w c o m. ap (offered_to v c) (accepted-seen w c m))

  slots : slots_observed v cs os ≡ data_slots v cs
  slots = slots-from v empty empty-well-formed no_member none-known cs os (exports-are-run.each cs os t)

  closes : closes_observed v cs os ≡ cells_closed v cs
  closes = summed (λ c o. closed_on v c o.cells) (λ c a. closed_on v c (closed_cells a)) (λ s w c o m. ap (closed_on v c) m.cells)

  balance : offers_observed v cs os ≡ slots_observed v cs os + cells_waiting v (final empty cs) + closes_observed v cs os
  balance = rw (offers, slots, closes) (conservation.balance cs v)

  at_most : slots_observed v cs os ≤ offers_observed v cs os
  at_most = omega (arith, balance)

-- what a close would answer
entry_closed : (s : State) (f : Connection → Outcome) (x : Entry) → ((c : Connection) → closed_cells (f c).answer ≡ waiting c.queue) → closed_cells (of_open s x f).answer ≡ entry_cells x
unfolding of_open refuse closed_cells entry_cells
entry_closed s f free h = refl
entry_closed s f (taken c) h = h c

closed-next : (s : State) (v : ℕ) → closed_cells (close_step s v).answer ≡ cells_waiting v s
unfolding close_step discard closed_cells
closed-next s v = entry_closed s _ (find v s.entries) (λ c. refl)

pub exports-conservation : ExportsConservation
exports-conservation = record {
  balance = λ cs os t v. balance v cs os t;
  at_most_offered = λ cs os t v. at_most v cs os t;
  closed_next = λ cs os t vpi vci m r h.
      ap (λ (x : AbrClosed). x.cells) (h.meets (final empty cs) (reached-well-formed cs) (exports-are-run.last cs os t)).1 ∙ closed-next (final empty cs) (address_name vpi vci);
}
