-- The fields of a forward cell.
use mathlib.Core.Path.{◌≡◌, refl, subst, ◌∙◌}
use mathlib.Core.Bool.{true}
use Prim.Native.Nat.{ℕ, ◌≤◌, ◌<◌}
use borrow.Author.Tests.{le-leb}
use Rattle.rate_moves.specs.declared.moves.Rate.{Rate}
use Rattle.cell.specs.declared.fields.Fields.{Fields}
use Rattle.rate.specs.Units.{largest_rate}
use Rattle.rate.specs.Code.{rate_of, code_of, code_or_zero}
use Rattle.cell.specs.Name.{vpi_in, vci_in, no_name}
use Rattle.cell.specs.Fields.{fields_fit}
use Rattle.connection.specs.Source.{forward_fields}
use Rattle.connection.specs.Range.{ForwardCarried}
use Rattle.connection.proofs.FieldsFit.{own-fits, any-fits, code_is, vpi-fits, vci-fits}

pub carried :
    (v : ℕ) (q : Rate) {e a m : ℕ} → e ≡ code_of (rate_of q.params.pcr) → a ≡ code_or_zero q.acr → m ≡ code_of (rate_of q.params.mcr)
    → ForwardCarried v q (record { vpi = vpi_in v; vci = vci_in v; dir = 0; bn = 0; ci = 0; ni = 0; ra = 0; er = e; ccr = a; mcr = m; ql = 0; sn = 0 })
unfolding forward_fields fields_fit
carried v q {e} {a} {m} er ccr mcr = record {
  meant = λ h. rw (er, ccr ∙ code_is q.acr h, mcr);
  fits = λ h.
      rw (vpi-fits v h, vci-fits v, le-leb e 32767 (own-fits q.params.pcr er), le-leb a 32767 (any-fits q.acr ccr), le-leb m 32767 (own-fits q.params.mcr mcr));
}

-- so the fields of a forward cell fit
pub forward-fits : (v : ℕ) (q : Rate) → v < no_name → q.acr ≤ largest_rate → fields_fit (forward_fields v q) ≡ true
forward-fits v q l h = let k = carried v q refl refl refl in subst (λ (f : Fields). fields_fit f ≡ true) (k.meant h) (k.fits l)
