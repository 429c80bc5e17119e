-- A rate of 0 rises again, of exported calls.
use Prim.Native.Nat.{ℕ, ◌≤◌, min}
use mathlib.Core.Path.{◌≡◌, refl, sym, ap, subst, ◌∙◌}
use mathlib.Core.Bool.{true}
use mathlib.Core.List.{List}
use mathlib.Core.Option.{none, some}
use native.Mathlib.Omega.{arith}
use Rattle.rate.specs.Code.{rate_of}
use Rattle.rate_params.specs.declared.params.Params.{Params}
use Rattle.rate_params.specs.Params.{least, trm_time}
use Rattle.cell.specs.declared.fields.Fields.{Fields}
use Rattle.cell.specs.Fields.{cell_name}
use Rattle.connection.specs.declared.parts.Connection.{Connection}
use Rattle.connection.specs.declared.parts.Pace.{Pace}
use Rattle.connection.specs.declared.parts.Pace.TheVariants.{Unsent, Running}
use Rattle.connection.specs.Ready.{any_waits, backward_waits, last_before, ready_instant}
use Rattle.model.specs.State.{State, Entry, free, taken, empty, find}
use Rattle.model.specs.Answers.{Rate}
use Rattle.model.specs.Call.{Call, receiving}
use Rattle.model.specs.Step.{step}
use Rattle.model.specs.Queries.{entry_acr, acr_of}
use Rattle.model.specs.Run.{final}
use Rattle.model.proofs.Preserved.{valid-at}
use Rattle.abr_answers.specs.declared.calls.AbrAllowed.{AbrAllowed}
use Rattle.abr_answers.specs.Calls.{allowed_of}
use Rattle.abr.specs.Contract.{ReturnsAllowed}
use Rattle.abr.specs.Exports.{Observation, Performs, Transcript, final_words, zeros}
use Rattle.promise_lists.proofs.Moves.{moves-at}
use Rattle.promise_service.specs.Restart.{increase, Raises, has_next, Restarted}
use Rattle.promise_service.proofs.Restart.{rises, stays-at-zero}
use Rattle.promise_loop.proofs.Others.{moves-params}
use Rattle.exports.specs.Exports.{params_observed}
use Rattle.exports.proofs.Transport.{sees, stands, acr-seen}
use Rattle.exports_rates.specs.Seen.{Seen, watch, watched, seen_of}
use Rattle.exports_rates.proofs.Seen.{connection_seen, entry_seen, watches, watched-so}
use Rattle.exports_rates.proofs.Held.{open-under, acr-held, seen-held}
use Rattle.exports_service.specs.Ready.{ready_seen}
use Rattle.exports_service.specs.Served.{latest_seen, ReadyNotAfter}
use Rattle.exports_service.specs.Restart.{has_next_from, RestartedSeen, ExportsRestart}
use Rattle.exports_service.proofs.Ready.{waits-same, ready-same, rate-held}
use Rattle.exports_service.proofs.Served.{ready_by}

next-same : (c : Connection) (p : Pace) → has_next_from c.rate.params (connection_seen c) p ≡ has_next c p
unfolding any_waits backward_waits last_before
next-same c Unsent = refl
next-same c (Running sent forward n turned) = refl

module _ (f : Fields) (c : Connection) (p : Params) (b : AbrAllowed) (s : State) (r : Restarted f c s) (e : c.rate.params ≡ p) (g : r.holder.rate.params ≡ p)
    (t : r.holder.trm ≡ trm_time r.holder.rate.params.trm) (answer : b ≡ allowed_of (Rate r.holder.rate.acr r.holder.change))
  where
    abbrev d : Connection
    d = r.holder

    acr : b.acr ≡ d.rate.acr
    acr = ap (λ (x : AbrAllowed). x.acr) answer

    ready-is : ready_instant d ≡ ready_seen p b.acr (connection_seen d)
    ready-is = sym (ready-same d t) ∙ (λ i. ready_seen (g i) (sym acr i) (connection_seen d))

    next-is : has_next_from p (connection_seen c) c.pace ≡ true → has_next c c.pace ≡ true
    next-is h = sym (next-same c c.pace) ∙ ap (λ (x : Params). has_next_from x (connection_seen c) c.pace) e ∙ h

    restarted : RestartedSeen p f (connection_seen c) (connection_seen d) b
    restarted = record {
      refusal = ap (λ (x : AbrAllowed). x.refusal) answer;
      raised = subst (λ (x : Params). min (rate_of f.er) (increase x) ≤ b.acr) e (omega (arith, r.raised, acr));
      moving = omega (arith, r.moving, acr);
      ready = λ h. record { instant = (r.ready (next-is h)).instant; ready_at = sym ready-is ∙ (r.ready (next-is h)).ready_at };
      soon = λ h.
          subst (λ (x : ℕ). ReadyNotAfter (ready_seen p b.acr (connection_seen d)) (latest_seen x (connection_seen d))) (sym acr)
          (ready_by d.rate.acr d _ ready-is (r.soon (sym (waits-same c) ∙ h)));
    }

rises-seen :
    (cs : List Call) (os : List Observation) → Transcript cs zeros os → (octets : List ℕ) (f : Fields) → Raises octets f → (p : Params) → params_observed (cell_name f) none cs os ≡ some p → 1 ≤ increase p
    → (o : Observation) → Performs (receiving octets) (final_words zeros os) o → (b : AbrAllowed) → ReturnsAllowed (cell_name f) o.table b
    → RestartedSeen p f (seen_of (cell_name f) cs os) (watch (cell_name f) (receiving octets) o (watched (cell_name f) cs os)).connection b
unfolding entry_seen
rises-seen cs os x octets f raises p e i o q b h =
    let v = cell_name f in
    let s = final empty cs in
    let y = sees (stands cs os x) q in
    let held = open-under cs os x v p e in
    let c = held.holder in
    let more : 1 ≤ increase c.rate.params = subst (λ (n : Params). 1 ≤ increase n) (sym held.params) i in
    let r = rises cs octets f c raises held.found more in
    let d = r.holder in
    let params : d.rate.params ≡ p = moves-params (moves-at s y.well_formed.unique (receiving octets) v c d held.found r.found) ∙ held.params in
    let trm = (valid-at y.next.well_formed v d r.found).0.trm_time in
    let after = ((watches v).goes s (receiving octets) o (watched v cs os) (watched-so v cs os x) y).connection ∙ ap entry_seen r.found in
    subst (λ (k : Seen). RestartedSeen p f k (watch v (receiving octets) o (watched v cs os)).connection b) (sym (seen-held cs os x v c held.found))
    (subst (λ (k : Seen). RestartedSeen p f (connection_seen c) k b) (sym after)
    (restarted f c p b _ r held.params params trm (acr-held y.next v d r.found b h)))

-- a closed one answers 0
zero-after : (x : Entry) (b : AbrAllowed) → b ≡ allowed_of (entry_acr x) → ((d : Connection) → x ≡ taken d → d.rate.acr ≡ 0) → b.acr ≡ 0
unfolding entry_acr
zero-after free b e h = ap (λ (r : AbrAllowed). r.acr) e
zero-after (taken d) b e h = ap (λ (r : AbrAllowed). r.acr) e ∙ h d refl

pub exports-restart : ExportsRestart
unfolding acr_of
exports-restart = record {
  rises = rises-seen;
  stays_at_zero = λ cs os x c o q v p e l i a b h k z.
      let held = open-under cs os x v p e in
      let d = held.holder in
      let y = sees (stands cs os x) q in
      let s = final empty cs in
      let low : least d.rate.params ≡ 0 = ap least held.params ∙ l in
      let none : increase d.rate.params ≡ 0 = ap increase held.params ∙ i in
      zero-after (find v (step s c).state.entries) b (acr-seen y.next v b k)
      (λ n f. stays-at-zero cs c v d n held.found f (sym (rate-held cs os x v a h d held.found) ∙ z) low none);
}
