-- The rate of a source that hears nothing falls, as abr_acr returns it.
use Prim.Native.Nat.{ℕ, ◌≤◌, min, max}
use mathlib.Core.Path.{◌≡◌, refl, sym, ap, ◌∙◌}
use mathlib.Core.Bool.{cond}
use mathlib.Core.Option.{some}
use mathlib.Core.List.{List}
use native.Mathlib.Omega.{arith}
use lib.Dec.{eqb}
use Rattle.rate_params.specs.declared.params.Params.{Params}
use Rattle.rate_params.specs.Params.{least, initial_used, crm}
use Rattle.connection_members.specs.Members.{Member}
use Rattle.connection.specs.declared.parts.Connection.{Connection}
use Rattle.connection.specs.declared.kind.Kind.{Kind}
use Rattle.connection.specs.declared.kind.Kind.TheVariants.{Forward, Turned, Data}
use Rattle.connection.specs.Kind.{kind_at}
use Rattle.connection.specs.Slot.{member_served}
use Rattle.model.specs.State.{State, Entry, free, taken, empty, find, with_time}
use Rattle.model.specs.Answers.{Sent}
use Rattle.model.specs.Call.{Call, Outcome}
use Rattle.model.specs.Step.{refuse, accept, replay, discard, name_answered, send_from, send_step, send_out_of_rate, idle_step}
use Rattle.model.specs.Queries.{entry_acr, acr_of}
use Rattle.model.specs.Run.{final}
use Rattle.model.proofs.Conservation.{cond-zero}
use Rattle.model.proofs.Given.{entry_params}
use Rattle.model.proofs.Shown.{Shown, refusing, accepting, discarding, idling, serving, serving_out_of_rate, shown}
use Rattle.abr_answers.specs.declared.calls.AbrAllowed.{AbrAllowed}
use Rattle.abr_answers.specs.Calls.{allowed_of}
use Rattle.abr_answers.specs.Reply.{reply_of}
use Rattle.abr.specs.Exports.{final_words, zeros}
use Rattle.promise_service.specs.Deaf.{cut_times, forward_cells, forward_slot_of, forward_slots}
use Rattle.promise_service.proofs.Deaf.{deaf-falls, deaf-stays}
use Rattle.exports.proofs.Returned.{back}
use Rattle.exports.proofs.Transport.{Stands, stands, stands_after, sum-seen, acr-seen}
use Rattle.exports.proofs.Known.{params-known}
use Rattle.exports_rates.specs.Seen.{Seen, seen_of}
use Rattle.exports_rates.proofs.Held.{seen-held}
use Rattle.exports_progress.specs.Deaf.{forward_returned, forwards_returned, ExportsDeafFalls, ExportsDeafStays}

-- a slot's forward cell has its connection's own name
sent-forward : (v u a n : ℕ) (d : Connection) (ms : List Member) (k : Kind) → forward_returned v (reply_of (Sent u (name_answered u (member_served k d ms)) k a n)) ≡ cond (eqb u v) (forward_cells k) 0
unfolding forward_cells member_served name_answered
sent-forward v u a n d ms Forward = ap (λ (x : ℕ). cond (eqb x v) 1 0) (back u)
sent-forward v u a n d ms Turned = sym (cond-zero (eqb u v))
sent-forward v u a n d ms Data = sym (cond-zero (eqb u v))

shown-forward : (v : ℕ) {s : State} {c : Call} {o : Outcome} → Shown s c o → forward_returned v (reply_of o.answer) ≡ forward_slot_of v o.answer
unfolding refuse accept replay discard idle_step send_step send_from send_out_of_rate with_time forward_slot_of
shown-forward v (refusing c n h) = refl
shown-forward v (accepting c n r l g) = refl
shown-forward v (discarding c n x u r l i g) = refl
shown-forward v (idling t room g) = refl
shown-forward v {s} (serving t room i u g b) = sent-forward v u 0 0 b.holder s.members (kind_at t b.holder)
shown-forward v (serving_out_of_rate a b t room d e g) = refl

-- an open connection, by what a caller knows
pub record Open (p : Params) (x : Entry) : Type 0 where
  pub holder : Connection
  pub is : x ≡ taken holder
  pub params : holder.rate.params ≡ p

pub open-known : (x : Entry) (p : Params) → entry_params x ≡ some p → Open p x
unfolding entry_params
open-known free p e = let z : ◌≡◌ {A = ℕ} 0 1 = cc in absurd (omega arith)
open-known (taken c) p e = record { holder = c; is = refl; params = cc }

rate-read : (x : Entry) (d : Connection) → x ≡ taken d → (allowed_of (entry_acr x)).acr ≡ d.rate.acr
unfolding entry_acr
rate-read x d e = ap (λ (y : Entry). (allowed_of (entry_acr y)).acr) e

-- a rate that is read is at most what it is at most if the connection is open
read_below : (x : Entry) (m : ℕ) → ((e : Connection) → x ≡ taken e → e.rate.acr ≤ m) → (allowed_of (entry_acr x)).acr ≤ m
unfolding entry_acr
read_below free m h = omega arith
read_below (taken e) m h = h e refl

pub exports-deaf-falls : ExportsDeafFalls
unfolding acr_of
exports-deaf-falls cs os x v p e c ds ps y u j n k a b ha hb =
    let s = final empty cs in
    let st : Stands s (final_words zeros os) = stands cs os x in
    let d = open-known (find v s.entries) p (sym (params-known cs os x v) ∙ e) in
    let w = d.holder in
    let count : forwards_returned v ds ps ≡ forward_slots v s ds =
    sum-seen (λ c o. forward_returned v o.returned) (λ c a. forward_slot_of v a) (λ s c o z. ap (forward_returned v) z.matches.returned ∙ shown-forward v (shown z.well_formed c)) s (final_words zeros os) st ds ps y in
    let unanswered : (seen_of v cs os).unanswered ≡ w.unanswered = ap (λ (k : Seen). k.unanswered) (seen-held cs os x v w d.is) in
    let before : a.acr ≡ w.rate.acr = ap (λ (r : AbrAllowed). r.acr) (acr-seen st v a ha) ∙ rate-read (find v s.entries) w d.is in
    let after : b.acr ≡ (allowed_of (entry_acr (find v (final s ds).entries))).acr = ap (λ (r : AbrAllowed). r.acr) (acr-seen (stands_after st ds ps y) v b hb) in
    let q = d.params in
    let low = read_below (find v (final s ds).entries) (max (least w.rate.params) (cut_times j w.rate.params.c w.rate.acr))
    (λ f g. deaf-falls cs ds v j w f d.is g u (λ z. c (sym (ap (λ (r : Params). r.c) q) ∙ z)) (omega (arith, n, count)) (omega (arith, k, count, unanswered, ap crm q))) in
    let same : max (least w.rate.params) (cut_times j w.rate.params.c w.rate.acr) ≡ max (least p) (cut_times j p.c a.acr) = (λ i. max (least (q i)) (cut_times j (q i).c (sym before i))) in
    omega (arith, after, low, same)

-- a name is open if abr_acr returns no refusal for it
read_above : (x : Entry) (m : ℕ) → (allowed_of (entry_acr x)).refusal ≡ 0 → ((e : Connection) → x ≡ taken e → m ≤ e.rate.acr) → m ≤ (allowed_of (entry_acr x)).acr
unfolding entry_acr
read_above free m r h = absurd (omega (arith, r))
read_above (taken e) m r h = h e refl

pub exports-deaf-stays : ExportsDeafStays
unfolding acr_of
exports-deaf-stays cs os x v p e c ds ps y u a b ha hb open-still =
    let s = final empty cs in
    let st : Stands s (final_words zeros os) = stands cs os x in
    let d = open-known (find v s.entries) p (sym (params-known cs os x v) ∙ e) in
    let w = d.holder in
    let q = d.params in
    let before : a.acr ≡ w.rate.acr = ap (λ (r : AbrAllowed). r.acr) (acr-seen st v a ha) ∙ rate-read (find v s.entries) w d.is in
    let read : b ≡ allowed_of (entry_acr (find v (final s ds).entries)) = acr-seen (stands_after st ds ps y) v b hb in
    let low = read_above (find v (final s ds).entries) (min w.rate.acr (initial_used w.rate.params)) (sym (ap (λ (r : AbrAllowed). r.refusal) read) ∙ open-still)
    (λ f g. deaf-stays cs ds v w f d.is g u (ap (λ (r : Params). r.c) q ∙ c)) in
    omega (arith, before, low, ap (λ (r : AbrAllowed). r.acr) read, ap initial_used q)
