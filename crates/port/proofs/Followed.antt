-- No backward cell leaves with an ER above the rate; so connections that follow the port stay within its capacity.
use mathlib.Core.Path.{◌≡◌, refl, sym, ap, ◌∙◌, subst}
use mathlib.Core.Logic.{by_cases}
use mathlib.Core.List.{List, Forall₂}
use mathlib.Mathlib.Data.List.Forall2.Forall₂
use Prim.Native.Nat.{ℕ, ◌≤◌}
use native.Mathlib.Decide.{ℕ_discrete}
use native.Mathlib.Omega.{arith}
use Rattle.rate.specs.Code.{rate_of}
use Rattle.cell.specs.Reading.{reading}
use Rattle.cell.specs.declared.fields.Fields.{Fields}
use Rattle.cell.specs.Read.{Reading, Refused, DataCell, RmCell}
use Rattle.port_share.specs.Demands.{plain_sum}
use Rattle.port_share.specs.Share.{Share, fair_share}
use Rattle.port_share.specs.Held.{HeldTo}
use Rattle.laws.specs.declared.refusals.Refusal.{Refusal}
use Rattle.laws.specs.Refusals.{number}
use Rattle.std.specs.Prelude.{Some, None, Ok, Err}
use Rattle.port_share.proofs.Greatest.{refusal-number}
use Rattle.port_share.proofs.Held.{held_fits}
use Rattle.port.specs.Limit.{Forwarded, held_er, limit}
use Rattle.port.specs.Port.{port_by, port}
use Rattle.port.specs.Limited.{Limited, NoneAbove}
use Rattle.port.specs.Followed.{Follows, CapacityKept}
use Rattle.port.proofs.Cases.{limit-refused, limit-data, limit-forward}
use Rattle.port.proofs.Limited.{backward-limited}

-- a cell that stays as it is is read as before
same_read : {o : List ℕ} {n : ℕ} {p : Forwarded} {r : Reading} → record { refusal = n; cell = o } ≡ p → reading p.cell ≡ r → reading o ≡ r
same_read e h = ap (λ (q : Forwarded). reading q.cell) e ∙ h

pub none_above : NoneAbove
none_above rate o f h b = go (reading o) refl
  where
    go : (r : Reading) → reading o ≡ r → rate_of f.er ≤ rate
    go (Refused n) e = let q = same_read (limit-refused rate o e) h in let z : ◌≡◌ {A = ℕ} 0 1 = cc in absurd (omega arith)
    go (DataCell vpi vci efci) e = let q = same_read (limit-data rate o e) h in let z : ◌≡◌ {A = ℕ} 0 1 = cc in absurd (omega arith)
    go (RmCell g) e =
        by_cases (ℕ_discrete g.dir 1)
        (λ d. let l : Limited rate o g = backward-limited rate o g e d in
        let q : held_er rate g.er ≡ f.er = er-of (sym l.fields ∙ h) in
        let s : rate_of (held_er rate g.er) ≡ rate_of f.er = ap rate_of q in
        omega (arith, l.greatest.not_above))
        (λ d. let q : g ≡ f = fields-of (sym e ∙ same_read (limit-forward rate o e d) h) in absurd (d (ap (λ (k : Fields). k.dir) q ∙ b)))
      where
        fields-of : {u v : Fields} → RmCell u ≡ RmCell v → u ≡ v
        fields-of e = cc

        er-of : {u v : Fields} → RmCell u ≡ RmCell v → u.er ≡ v.er
        er-of e = ap (λ (k : Fields). k.er) (fields-of e)

-- ---- one rate for each demand
-- without a share nothing passes
none-followed : (capacity : ℕ) {r : Refusal} {es ds rs : List ℕ} → fair_share capacity es ≡ Err r → Forall₂ (Follows capacity es) ds rs → plain_sum rs ≤ capacity
unfolding port_by plain_sum
none-followed capacity e Forall₂.nil = omega arith
none-followed capacity {r} {es} e (Forall₂.cons h t) =
    let q : (port capacity es h.cell).refusal ≡ number r = ap (λ (a : Share). (port_by a h.cell).refusal) e in
    absurd (omega (arith, h.accepted, refusal-number capacity es e))

-- with a share the ER is not above it
told : (capacity : ℕ) (ds : List ℕ) (s : ℕ) → fair_share capacity ds ≡ Ok (Some s) → (d r : ℕ) → Follows capacity ds d r → HeldTo s d r
unfolding port_by
told capacity ds s e d r h =
    let p : port capacity ds h.cell ≡ limit s h.cell = ap (λ (a : Share). port_by a h.cell) e in
    let q : reading (limit s h.cell).cell ≡ RmCell h.fields = subst (λ (x : Forwarded). reading x.cell ≡ RmCell h.fields) p h.passed_on in
    record { demanded = h.demanded; limited = omega (arith, h.obeyed, none_above s h.cell h.fields q h.backward) }

pub capacity-kept : CapacityKept
capacity-kept capacity ds rs h = go (fair_share capacity ds) refl
  where
    go : (a : Share) → fair_share capacity ds ≡ a → plain_sum rs ≤ capacity
    go (Err r) e = none-followed capacity e h
    go (Ok None) e = held_fits.unlimited capacity ds rs e (Forall₂.imp (λ d r f. f.demanded) h)
    go (Ok (Some s)) e = held_fits.limited capacity ds rs s e (Forall₂.imp (told capacity ds s e) h)
