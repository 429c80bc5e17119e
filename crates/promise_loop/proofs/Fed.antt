-- A backward cell from the port: what it makes of the rate of its connection.
use Prim.Native.Nat.{ℕ, ◌+◌, ◌≤◌, min}
use mathlib.Core.Path.{◌≡◌, refl, sym, ap, subst, ◌∙◌}
use mathlib.Core.Bool.{false}
use mathlib.Core.List.{List}
use mathlib.Core.Option.{some}
use native.Mathlib.Omega.{arith}
use lib.Dec.{eqb}
use Rattle.rate.specs.Code.{rate_of}
use Rattle.rate_params.specs.declared.params.Params.{Params}
use Rattle.rate_moves.specs.declared.moves.Rate.{Rate}
use Rattle.rate_moves.specs.Moves.{feedback}
use Rattle.rate_moves.specs.Bounds.{RateInBounds}
use Rattle.rate_moves.proofs.FourMoves.{feedback-in-bounds}
use Rattle.cell.specs.declared.fields.Fields.{Fields}
use Rattle.cell.specs.Read.{RmCell}
use Rattle.cell.specs.Fields.{cell_name}
use Rattle.cell.specs.Reading.{reading}
use Rattle.std.specs.Prelude.{Some, None, Ok, Err}
use Rattle.port_share.specs.Share.{Share}
use Rattle.port.specs.Port.{port_by}
use Rattle.port.specs.Limited.{fields_with_er}
use Rattle.port.proofs.Limited.{backward-limited}
use Rattle.connection.specs.declared.parts.Connection.{Connection}
use Rattle.connection.specs.Source.{after_backward_cell}
use Rattle.model.specs.State.{State, taken, find}
use Rattle.model.specs.Invariant.{WellFormed}
use Rattle.model.specs.Call.{receiving}
use Rattle.model.specs.Step.{step}
use Rattle.model.specs.Run.{entry_rate, allowed}
use Rattle.model.proofs.Preserved.{valid-at}
use Rattle.promise_lists.proofs.Received.{step-fed}
use Rattle.promise_service.specs.Restart.{increase}
use Rattle.promise_loop.specs.Settled.{settled_rate}
use Rattle.promise_loop.specs.Share.{er_behind, port_rate, settled}
use Rattle.promise_loop.specs.Loop.{FromPort, Unmarked}
use Rattle.promise_loop.proofs.Settled.{fed-once}
use Rattle.promise_loop.proofs.Share.{behind-most, behind-same}

-- v is open, with this rate record
pub record Stands (v : ℕ) (q : Rate) (s : State) : Type 0 where
  pub holder : Connection
  pub found : find v s.entries ≡ taken holder
  pub rate : holder.rate ≡ q

pub in_bounds : {v : ℕ} {q : Rate} {s : State} → WellFormed s → Stands v q s → RateInBounds q
in_bounds {v} w h = subst RateInBounds h.rate (valid-at w v h.holder h.found).1.rates

pub allowed-is : {v : ℕ} {q : Rate} {s : State} → Stands v q s → allowed v s ≡ some q.acr
unfolding entry_rate
allowed-is h = ap entry_rate h.found ∙ ap (λ (r : Rate). some r.acr) h.rate

-- two records of one rate and the same parameters
pub same-rate : (q r : Rate) → q.acr ≡ r.acr → q.params ≡ r.params → q ≡ r
same-rate q r e f = λ i. record { acr = e i; params = f i }

-- a backward cell from the port
pub behind-read :
    (share : Share) (o : List ℕ) (f : Fields) → reading o ≡ RmCell f → f.dir ≡ 1
    → reading (port_by share o).cell ≡ RmCell (fields_with_er (er_behind share f.er) f)
unfolding port_by
behind-read (Err r) o f e d = e
behind-read (Ok None) o f e d = e
behind-read (Ok (Some share)) o f e d = (backward-limited share o f e d).fields

module _ {v : ℕ} {share : Share} {o : List ℕ} (h : FromPort v share o) where
  abbrev pub as_fed : Rate → Rate
  as_fed q = feedback (eqb h.fields.ci 1) (eqb h.fields.ni 1) (rate_of (er_behind share h.fields.er)) q

  pub from-port-step : {q : Rate} {s : State} → WellFormed s → Stands v q s → Stands v (as_fed q) (step s (receiving o)).state
  unfolding after_backward_cell
  from-port-step {q} {s} w z =
      let f : Fields = fields_with_er (er_behind share h.fields.er) h.fields in
      let r : reading o ≡ RmCell f = ap reading h.left ∙ behind-read share h.before h.fields h.read h.backward in
      let at : find (cell_name f) s.entries ≡ taken z.holder = ap (λ (u : ℕ). find u s.entries) h.name ∙ z.found in
      record {
        holder = after_backward_cell f z.holder;
        found = ap (λ (u : ℕ). find u (step s (receiving o)).state.entries) (sym h.name) ∙ step-fed s w.unique o f z.holder r h.backward at;
        rate = ap as_fed z.rate;
      }

-- it leaves at most the settled rate
pub from-port-low : {v : ℕ} {share : Share} {o : List ℕ} (h : FromPort v share o) (q : Rate) → RateInBounds q → (as_fed h q).acr ≤ settled q.params share
unfolding feedback
from-port-low {share = share} h q b =
    let e : ℕ = rate_of (er_behind share h.fields.er) in
    omega (arith, (feedback-in-bounds (eqb h.fields.ci 1) (eqb h.fields.ni 1) e q b).below, behind-most q.params share h.fields.er, b.above, b.below)

-- without marks it is a feedback with the ER that the port writes
unmarked-same : {v : ℕ} {share : Share} {o : List ℕ} (q : Rate) (t : Unmarked v q.params share o) → RateInBounds q → as_fed t.from_port q ≡ feedback false false (port_rate q.params share) q
unfolding feedback
unmarked-same {share = share} q t b =
    let e : ℕ = rate_of (er_behind share t.from_port.fields.er) in
    let m = behind-same q.params share t.from_port.fields.er t.er in
    let g : settled_rate q.params e ≡ settled q.params share = omega (arith, m) in
    let h : (feedback false false e q).acr ≡ (feedback false false (port_rate q.params share) q).acr =
    fed-once e q b ∙ ap (λ (m : ℕ). min m (q.acr + increase q.params)) g ∙ sym (fed-once (port_rate q.params share) q b) in
    rw (t.ci, t.ni) (same-rate (feedback false false e q) (feedback false false (port_rate q.params share) q) h refl)

pub unmarked-step :
    {v : ℕ} {share : Share} {p : Params} {o : List ℕ} {s : State} (q : Rate) → Unmarked v p share o → WellFormed s → Stands v q s → q.params ≡ p
    → Stands v (feedback false false (port_rate p share) q) (step s (receiving o)).state
unmarked-step {v} {share} {p} {o} {s} q t w z e = subst (λ (x : Params). Unmarked v x share o → Stands v (feedback false false (port_rate x share) q) (step s (receiving o)).state) e go t
  where
    go : Unmarked v q.params share o → Stands v (feedback false false (port_rate q.params share) q) (step s (receiving o)).state
    go t = subst (λ (x : Rate). Stands v x (step s (receiving o)).state) (unmarked-same q t (in_bounds w z)) (from-port-step t.from_port w z)
