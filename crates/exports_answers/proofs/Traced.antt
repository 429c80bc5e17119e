-- A trace recorded from slots alone passes.
use Prim.Native.Nat.{ℕ}
use mathlib.Core.Path.{◌≡◌, refl, sym, ap, ◌∙◌}
use mathlib.Core.Bool.{Bool, cond}
use mathlib.Core.List.{List, [], ◌∷◌, ◌++◌}
use lib.Dec.{eqb}
use borrow.Author.Tests.{eq-eqb, ne_eqb}
use Rattle.rate_params.specs.declared.params.Params.{Params}
use Rattle.trace_judge.specs.Octets.{judged_octets}
use Rattle.connection.specs.declared.kind.Kind.TheVariants.{Forward, Turned, Data}
use Rattle.model.specs.State.{State, find}
use Rattle.model.specs.Answers.{Answer, Refused, Accepted, Closed, Idle, Sent}
use Rattle.model.specs.Call.{Call, Outcome}
use Rattle.model.specs.Aspects.{Sort, opener, closer, arrival, slot_at, another, sort_of}
use Rattle.model.specs.Step.{step}
use Rattle.model.specs.Run.{is_accepted}
use Rattle.model.specs.Queries.{entry_acr, acr_of}
use Rattle.model.specs.Details.{rate_in, sent_with}
use Rattle.model.proofs.Entries.{Case, same, other, case}
use Rattle.abr_answers.specs.Calls.{allowed_of}
use Rattle.abr_answers.specs.Details.{sent_of}
use Rattle.abr_answers.specs.Reply.{Reply, reply_of}
use Rattle.abr.specs.Exports.{Besides, besides_by, Observation, Transcript, ended, then, final_words, zeros}
use Rattle.promise_traces.specs.InRate.{SentCell, at_sort, at_slot, closes_connection, sent_by, sent_from}
use Rattle.promise_traces.specs.Written.{trace_octets}
use Rattle.promise_traces.specs.Traces.{Opening, trace_cells}
use Rattle.promise_traces.proofs.Fits.{own-trace-passes}
use Rattle.exports.specs.Returned.{no_member, member_seen, members_seen}
use Rattle.exports.specs.Recorded.{cell_returned}
use Rattle.exports.proofs.Returned.{Knows, knows_after, NamesConnection, names-connection, connection-back}
use Rattle.exports.proofs.Known.{members-known}
use Rattle.exports.proofs.Recorded.{sent-seen, no-rule-broken}
use Rattle.exports.proofs.Transport.{Stands, Sees, sees, stands, was-accepted}
use Rattle.exports_answers.proofs.Besides.{rate-in}
use Rattle.exports_answers.specs.Traced.{slots_recorded, ExportsTraced}

-- the cell of a slot that went to u, with the rate that it returned and with the rate of v
rated : (v u t n : ℕ) (s : State)
    → ◌≡◌ {A = List SentCell} (cond (eqb u v) (record { time = t; kind = n; rate = rate_in (find u s.entries) } ∷ []) [])
    (cond (eqb u v) (record { time = t; kind = n; rate = (allowed_of (acr_of s v)).acr } ∷ []) [])
unfolding acr_of
rated v u t n s = go (case u v)
  where
    go : Case u v
        → ◌≡◌ {A = List SentCell} (cond (eqb u v) (record { time = t; kind = n; rate = rate_in (find u s.entries) } ∷ []) [])
        (cond (eqb u v) (record { time = t; kind = n; rate = (allowed_of (entry_acr (find v s.entries))).acr } ∷ []) [])
    go (same e) = rw (eq-eqb u v e) (λ i. record { time = t; kind = n; rate = (ap (λ (x : ℕ). rate_in (find x s.entries)) e ∙ rate-in (find v s.entries)) i } ∷ [])
    go (other e) = rw (ne_eqb u v e) refl

slot-cell : (v : ℕ) (f : ℕ → Bool) (t : ℕ) (s : State) (a : Answer) → NamesConnection f a
    → cell_returned v f t (sent_of (sent_with s a)).acr_before (reply_of a) ≡ cell_returned v f t (allowed_of (acr_of s v)).acr (reply_of a)
slot-cell v f t s (Refused n) h = refl
slot-cell v f t s (Accepted n) h = refl
slot-cell v f t s (Closed n k) h = refl
slot-cell v f t s Idle h = refl
slot-cell v f t s (Sent u x Forward a n) h = rw (connection-back f u x h) (rated v u t 1 s)
slot-cell v f t s (Sent u x Turned a n) h = rw (connection-back f u x h) (rated v u t 2 s)
slot-cell v f t s (Sent u x Data a n) h = rw (connection-back f u x h) (rated v u t 3 s)

-- of any call: no other sends
cell_same : (v : ℕ) (f : ℕ → Bool) (s : State) (p : Outcome) (b : Besides) → NamesConnection f p.answer → (x : Sort) → b ≡ besides_by s p x
    → at_sort x (λ t. cell_returned v f t b.before (reply_of p.answer)) ≡ at_sort x (λ t. cell_returned v f t (allowed_of (acr_of s v)).acr (reply_of p.answer))
cell_same v f s p b h (opener u t q) e = refl
cell_same v f s p b h (closer u) e = refl
cell_same v f s p b h (arrival o) e = refl
cell_same v f s p b h (slot_at t) e = ap (λ (y : Besides). cell_returned v f t y.before (reply_of p.answer)) e ∙ slot-cell v f t s p.answer h
cell_same v f s p b h another e = refl

module _ (v : ℕ) where
  one_cell : {s : State} {c : Call} {o : Observation} → Sees s c o → (f : ℕ → Bool) → Knows f s → at_slot c (λ t. cell_returned v f t o.besides.before o.returned) ≡ sent_by v s c (step s c).answer
  unfolding at_slot
  one_cell {s} {c} {o} z f k =
      ap (λ (r : Reply). at_sort (sort_of c) (λ t. cell_returned v f t o.besides.before r)) z.matches.returned
      ∙ cell_same v f s (step s c) o.besides (names-connection z.well_formed f k c) (sort_of c) z.besides
      ∙ ap (λ (r : Reply). at_sort (sort_of c) (λ t. cell_returned v f t (allowed_of (acr_of s v)).acr r)) (sym z.matches.returned)
      ∙ sent-seen v s z.well_formed f k c o z.matches (allowed_of (acr_of s v)) refl

  slots-sent : (cs : List Call) {s : State} {l : List ℕ} → Stands s l → (f : ℕ → Bool) → Knows f s → (os : List Observation) → Transcript cs l os → slots_recorded v f cs os ≡ sent_from v s cs
  unfolding sent_from
  slots-sent [] st f k [] ended = refl
  slots-sent (c ∷ cs) {s} st f k (o ∷ os) (then p t) =
      let z = sees st p in
      ap (λ (b : Bool). cond (closes_connection v c b) [] (at_slot c (λ t. cell_returned v f t o.besides.before o.returned) ++ slots_recorded v (member_seen c o f) cs os)) z.accepted
      ∙ ap (λ (x : List SentCell). cond (closes_connection v c (is_accepted (step s c).answer)) [] (x ++ slots_recorded v (member_seen c o f) cs os)) (one_cell z f k)
      ∙ ap (λ (x : List SentCell). cond (closes_connection v c (is_accepted (step s c).answer)) [] (sent_by v s c (step s c).answer ++ x))
      (slots-sent cs z.next (member_seen c o f) (knows_after z.well_formed c f k _ z.accepted) os t)
  slots-sent [] {s = s} {l = l} st f k (o ∷ os) x4 = elim x4 [ ]
  slots-sent (c ∷ cs) {s = s} {l = l} st f k [] x5 = elim x5 [ ]

pub exports-traced : ExportsTraced
exports-traced before after c v p os ps o r q x (then y t) e h =
    let k = members-known before os x in
    let z = sees (stands before os x) y in
    no-rule-broken _
    (ap (λ (xs : List SentCell). judged_octets (trace_octets p.n p.trm (trace_cells xs)))
    (slots-sent v after z.next (member_seen c o (members_seen no_member before os)) (knows_after z.well_formed c (members_seen no_member before os) k _ z.accepted) ps t)
    ∙ own-trace-passes before c v p after q (was-accepted z e))
    r h
