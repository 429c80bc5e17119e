-- What the forward cells of slots, and those out of rate, carry.
use Prim.Native.Nat.{ℕ, ◌≤◌}
use mathlib.Core.Path.{◌≡◌, refl, sym, ap, ◌∙◌}
use mathlib.Core.Bool.{true, false≢true}
use mathlib.Core.List.{List}
use native.Mathlib.Omega.{arith}
use lib.Dec.{lit≤}
use Rattle.rate.specs.Code.{code_of, code_below}
use Rattle.rate_params.specs.declared.params.Params.{Params}
use Rattle.rate_moves.specs.declared.moves.Rate.{Rate}
use Rattle.cell.specs.Name.{name_from, address_name}
use Rattle.cell.specs.Fields.{rm_cell}
use Rattle.cell.specs.Reading.{reading}
use Rattle.cell.specs.Read.{RmCell}
use Rattle.cell.proofs.Written.{read-written}
use Rattle.connection.specs.declared.parts.Connection.{Connection}
use Rattle.connection.specs.declared.kind.Kind.{Kind}
use Rattle.connection.specs.declared.kind.Kind.TheVariants.{Forward, Turned, Data}
use Rattle.connection.specs.Invariant.{ValidAt}
use Rattle.connection.specs.Kind.{kind_at}
use Rattle.connection.specs.Source.{out_of_rate_cell, forward_fields}
use Rattle.connection.specs.Slot.{Buffer, written, after, buffer_sent}
use Rattle.connection.proofs.Keeps.{after_same, after-valid, valid-later}
use Rattle.connection.proofs.Reached.{acr-is-rate}
use Rattle.connection.proofs.SourceCases.{forward-fits}
use Rattle.model.specs.State.{State, Entry, taken, empty, find}
use Rattle.model.specs.Invariant.{WellFormed}
use Rattle.model.specs.Answers.{Sent}
use Rattle.model.specs.Call.{Call, slot, out_of_rate, Outcome}
use Rattle.model.specs.Step.{refuse, idle_step, send_from, send_step, send_out_of_rate, step}
use Rattle.model.specs.Queries.{entry_acr, acr_of}
use Rattle.model.specs.Run.{final, is_accepted}
use Rattle.model.proofs.Effects.{Effect, refuses, idles, sends, sends_out_of_rate, effect}
use Rattle.model.proofs.Frames.{name_of}
use Rattle.model.proofs.Given.{entry_params}
use Rattle.model.proofs.Preserved.{valid-at}
use Rattle.abr_answers.specs.declared.calls.AbrAllowed.{AbrAllowed}
use Rattle.abr_answers.specs.Calls.{allowed_of}
use Rattle.abr_answers.specs.Reply.{Reply, reply_of}
use Rattle.engine.specs.Contract.{buffer_content}
use Rattle.abr.specs.Exports.{Observation, Transcript, zeros}
use Rattle.exports.proofs.Transport.{sees, stands, was-accepted, acr-seen}
use Rattle.exports.proofs.Known.{params-known}
use Rattle.exports_cells.specs.Forward.{ForwardAt, ExportsForward}
use Rattle.exports_cells.proofs.Sent.{sent-of, forward-data}

zero-code : code_of 0 ≡ 0
unfolding code_of code_below
zero-code = refl

-- a forward cell of the connection of v, which is written
record Writes (v acr : ℕ) (s : State) (b : Buffer) : Type 0 where
  holder : Connection
  found : find v s.entries ≡ taken holder
  octets : List ℕ
  buffer : b ≡ written octets
  read : reading octets ≡ RmCell (forward_fields v (record { acr = acr; params = holder.rate.params }))

abbrev rate_at : ℕ → Params → Rate
rate_at a p = record { acr = a; params = p }

forwarded : (k : Kind) → k ≡ Forward → (c d : Connection) → buffer_sent k c d ≡ written (rm_cell 0 (forward_fields d.name d.rate))
unfolding buffer_sent
forwarded Forward e c d = refl
forwarded Turned e c d = let z : ◌≡◌ {A = ℕ} 0 1 = cc in absurd (omega arith)
forwarded Data e c d = let z : ◌≡◌ {A = ℕ} 0 1 = cc in absurd (omega arith)

-- the fields come back, by the name and the rate that are known
read-forward :
    (clp last : ℕ) (c : Connection) → clp ≤ 1 → ValidAt last c → (v acr : ℕ) (p : Params) → c.name ≡ v → c.rate.acr ≡ acr → c.rate.params ≡ p
    → reading (rm_cell clp (forward_fields c.name c.rate)) ≡ RmCell (forward_fields v (rate_at acr p))
read-forward clp last c l y v acr p n a q =
    read-written clp (forward_fields c.name c.rate) l (forward-fits c.name c.rate y.0.coded (acr-is-rate c.rate y.1.rates))
    ∙ (λ i. RmCell (forward_fields (n i) (rate_at (a i) (q i))))

slot-writes : (v acr : ℕ) {s : State} → WellFormed s → {t room x n : ℕ} {o : Outcome} → Effect s (slot t room) o → o.answer ≡ Sent v x Forward acr n → Writes v acr s o.buffer
unfolding refuse send_from send_step idle_step
slot-writes v acr w (refuses _ n h) e = let z : ◌≡◌ {A = ℕ} 0 1 = cc in absurd (omega arith)
slot-writes v acr w (idles _ _ g b) e = let z : ◌≡◌ {A = ℕ} 0 1 = cc in absurd (omega arith)
slot-writes v acr {s} w {t} (sends _ _ i u g b) e =
    let c = b.holder in
    let j : u ≡ v = cc in
    let k : kind_at t c ≡ Forward = cc in
    let a : (after (kind_at t c) t c).rate.acr ≡ acr = cc in
    let f : find v s.entries ≡ taken c = ap (λ (x : ℕ). find x s.entries) (sym j) ∙ b.found in
    let same = after_same (kind_at t c) t c in
    let y = after-valid (kind_at t c) t c refl (valid-later s.last t g.since c (valid-at w v c f)) in
    record {
      holder = c;
      found = f;
      octets = rm_cell 0 (forward_fields (after (kind_at t c) t c).name (after (kind_at t c) t c).rate);
      buffer = forwarded (kind_at t c) k c (after (kind_at t c) t c);
      read = read-forward 0 t (after (kind_at t c) t c) (lit≤ tt) y v acr c.rate.params (same.name ∙ name_of v s c f) a same.params;
    }

out-of-rate-writes :
    (vpi vci t room acr : ℕ) {s : State} → WellFormed s → {o : Outcome} → Effect s (out_of_rate vpi vci t room) o → is_accepted o.answer ≡ true
    → ((d : Connection) → find (address_name vpi vci) s.entries ≡ taken d → d.rate.acr ≡ acr) → Writes (address_name vpi vci) acr s o.buffer
unfolding refuse is_accepted send_out_of_rate out_of_rate_cell
out-of-rate-writes vpi vci t room acr w (refuses _ n h) e k = absurd (false≢true e)
out-of-rate-writes vpi vci t room acr {s} w (sends_out_of_rate _ _ _ _ d f g h) e k = record {
  holder = d;
  found = f;
  octets = rm_cell 1 (forward_fields d.name d.rate);
  buffer = refl;
  read = read-forward 1 s.last d (lit≤ tt) (valid-at w (address_name vpi vci) d f) (address_name vpi vci) acr d.rate.params (name_of (address_name vpi vci) s d f) (k d f) refl;
}

-- as a caller sees it
seen-forward :
    (cs : List Call) (os : List Observation) → Transcript cs zeros os → (v acr : ℕ) (b : Buffer) (old new : List ℕ) → new ≡ buffer_content b old → Writes v acr (final empty cs) b → ForwardAt cs os v acr new
unfolding entry_params forward_fields
seen-forward cs os t v acr b old new e h = record {
  opened = record { params = h.holder.rate.params; given = params-known cs os t v ∙ ap entry_params h.found };
  read = ap reading (e ∙ ap (λ (x : Buffer). buffer_content x old) h.buffer) ∙ h.read;
  no_minimum = λ z. ap code_of z ∙ zero-code;
}

open-acr : (x : Entry) (a : AbrAllowed) → a ≡ allowed_of (entry_acr x) → (d : Connection) → x ≡ taken d → d.rate.acr ≡ a.acr
unfolding entry_acr
open-acr x a e d f = sym (ap (λ (y : AbrAllowed). y.acr) (e ∙ ap (λ (y : Entry). allowed_of (entry_acr y)) f))

pub exports-forward : ExportsForward
unfolding acr_of
exports-forward = record {
  slots = λ cs os tr t room o g k.
      let s = final empty cs in
      let v = name_from o.returned.vpi o.returned.vci in
      let y = sees (stands cs os tr) g in
      let w = sent-of Forward forward-data y k in
      let a : w.acr ≡ o.returned.acr = sym (ap (λ (r : Reply). r.acr) (y.matches.returned ∙ ap reply_of w.is)) in
      seen-forward cs os tr v o.returned.acr (step s (slot t room)).buffer o.old o.new y.matches.buffer
      (slot-writes v o.returned.acr y.well_formed (effect s y.well_formed.unique (slot t room)) (w.is ∙ ap (λ (x : ℕ). Sent v w.told Forward x w.comparisons) a));
  out_of_rate_cells = λ cs os tr vpi vci t room o g z a h.
      let s = final empty cs in
      let y = sees (stands cs os tr) g in
      seen-forward cs os tr (address_name vpi vci) a.acr (step s (out_of_rate vpi vci t room)).buffer o.old o.new y.matches.buffer
      (out-of-rate-writes vpi vci t room a.acr y.well_formed (effect s y.well_formed.unique (out_of_rate vpi vci t room)) (was-accepted y z)
      (open-acr (find (address_name vpi vci) s.entries) a (acr-seen (stands cs os tr) (address_name vpi vci) a h)));
}
