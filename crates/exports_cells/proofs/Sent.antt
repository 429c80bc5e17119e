-- A slot that returned a kind sent a cell of that kind. A forward, turned or made one is of the
-- connection whose name it returned.
use Prim.Native.Nat.{ℕ, ◌<◌}
use mathlib.Core.Path.{◌≡◌, refl, sym, ap, subst, ◌∙◌}
use native.Mathlib.Omega.{arith}
use lib.Dec.{lit<}
use Rattle.cell.specs.Name.{name_from}
use Rattle.connection.specs.declared.kind.Kind.{Kind}
use Rattle.connection.specs.declared.kind.Kind.TheVariants.{Forward, Turned, Data}
use Rattle.connection.specs.Kind.{kind_number}
use Rattle.model.specs.State.{State}
use Rattle.model.specs.Answers.{Answer, Refused, Accepted, Closed, Idle, Sent}
use Rattle.model.specs.Call.{slot}
use Rattle.model.specs.Step.{step}
use Rattle.abr_answers.specs.Reply.{Reply, reply_of}
use Rattle.abr.specs.Exports.{Observation}
use Rattle.promise_cells.specs.Addresses.{CarriesName, SentCarries}
use Rattle.promise_cells.proofs.Addresses.{cells-carry-names}
use Rattle.exports.proofs.Returned.{back}
use Rattle.exports.proofs.Transport.{Sees}

-- the numbers of the kinds
some-kind : (k : Kind) → 0 < kind_number k
some-kind Forward = lit< tt
some-kind Turned = lit< tt
some-kind Data = lit< tt

same_kind : (j k : Kind) → kind_number j ≡ kind_number k → j ≡ k
same_kind Forward Forward e = refl
same_kind Forward Turned e = absurd (omega (arith, e))
same_kind Forward Data e = absurd (omega (arith, e))
same_kind Turned Forward e = absurd (omega (arith, e))
same_kind Turned Turned e = refl
same_kind Turned Data e = absurd (omega (arith, e))
same_kind Data Forward e = absurd (omega (arith, e))
same_kind Data Turned e = absurd (omega (arith, e))
same_kind Data Data e = refl

-- an answer with this kind, and one of this connection with it
record IsSent (k : Kind) (a : Answer) : Type 0 where
  connection : ℕ
  told : ℕ
  acr : ℕ
  comparisons : ℕ
  is : a ≡ Sent connection told k acr comparisons

pub record SentOf (k : Kind) (v : ℕ) (a : Answer) : Type 0 where
  pub told : ℕ
  pub acr : ℕ
  pub comparisons : ℕ
  pub is : a ≡ Sent v told k acr comparisons

is-sent : (k : Kind) (a : Answer) → (reply_of a).kind ≡ kind_number k → IsSent k a
is-sent k (Refused n) e = absurd (omega (arith, e, some-kind k))
is-sent k (Accepted n) e = absurd (omega (arith, e, some-kind k))
is-sent k (Closed n c) e = absurd (omega (arith, e, some-kind k))
is-sent k Idle e = absurd (omega (arith, e, some-kind k))
is-sent k (Sent v x j a n) e = record { connection = v; told = x; acr = a; comparisons = n; is = ap (λ (i : Kind). Sent v x i a n) (same_kind j k e) }

-- a cell that is written answers its connection's own name
pub sent-own : {s : State} {t room v x acr n : ℕ} {o : Observation} (k : Kind) → (k ≡ Data → ⊥) → Sees s (slot t room) o → (step s (slot t room)).answer ≡ Sent v x k acr n → x ≡ v
sent-own {s} {t} {room} {v} {x} k d z e =
    let h = subst (λ (r : State). CarriesName (slot t room) (step r (slot t room)).answer (step r (slot t room)).buffer) z.reached (cells-carry-names z.calls (slot t room)) in
    go k d (subst (λ (a : Answer). CarriesName (slot t room) a (step s (slot t room)).buffer) e h)
  where
    go : (k : Kind) → (k ≡ Data → ⊥) → SentCarries k v x (step s (slot t room)).buffer → x ≡ v
    go Forward d h = h.0
    go Turned d h = h.0
    go Data d h = absurd (d refl)

pub sent-of :
    {s : State} {t room : ℕ} {o : Observation} (k : Kind) → (k ≡ Data → ⊥) → Sees s (slot t room) o → o.returned.kind ≡ kind_number k
    → SentOf k (name_from o.returned.vpi o.returned.vci) (step s (slot t room)).answer
sent-of {s} {t} {room} k d z e =
    let w = is-sent k (step s (slot t room)).answer (sym (ap (λ (a : Reply). a.kind) z.matches.returned) ∙ e) in
    let n = ap (λ (a : Reply). name_from a.vpi a.vci) (z.matches.returned ∙ ap reply_of w.is) ∙ back w.told ∙ sent-own k d z w.is in
    record { told = w.told; acr = w.acr; comparisons = w.comparisons; is = w.is ∙ ap (λ (v : ℕ). Sent v w.told k w.acr w.comparisons) (sym n) }

pub turned-data : ◌≡◌ {A = Kind} Turned Data → ⊥
turned-data e = let z : ◌≡◌ {A = ℕ} 0 1 = cc in omega arith

pub forward-data : ◌≡◌ {A = Kind} Forward Data → ⊥
forward-data e = let z : ◌≡◌ {A = ℕ} 0 1 = cc in omega arith
