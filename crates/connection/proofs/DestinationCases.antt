-- The fields of a made cell, and what marks a turned one.
use mathlib.Core.Path.{◌≡◌, refl, subst, ◌∙◌}
use mathlib.Core.Bool.{Bool, true, false, cond, ◌||◌}
use Prim.Native.Nat.{ℕ, ◌≤◌, ◌<◌}
use native.Mathlib.Omega.{arith}
use lib.Dec.{eqb}
use borrow.Author.Tests.{le-leb}
use mir.Val.{bool_byte as from_bool}
use Rattle.rate_params.specs.declared.params.Params.{Params}
use Rattle.cell.specs.declared.fields.Fields.{Fields}
use Rattle.rate.specs.Code.{rate_of, code_of}
use Rattle.cell.specs.Name.{vpi_in, vci_in, no_name}
use Rattle.cell.specs.Fields.{fields_fit}
use Rattle.connection.specs.Parts.{Destination}
use Rattle.connection.specs.Destination.{made_fields, waiting_ci, mark_kept}
use Rattle.connection.proofs.FieldsFit.{own-fits, vpi-fits, vci-fits}

-- a bit of the fields
bit-is : (b : Bool) → from_bool b ≡ cond b 1 0
bit-is true = refl
bit-is false = refl

bit-le : (b : Bool) {n : ℕ} → n ≡ from_bool b → n ≤ 1
bit-le true e = omega arith
bit-le false e = omega arith

pub made-carried :
    (v : ℕ) (p : Params) (level : ℕ) {ci ni e : ℕ} → ci ≡ from_bool (eqb level 2) → ni ≡ from_bool (eqb level 1) → e ≡ code_of (rate_of p.pcr)
    → (◌≡◌ {A = Fields} (record { vpi = vpi_in v; vci = vci_in v; dir = 1; bn = 1; ci = ci; ni = ni; ra = 0; er = e; ccr = 0; mcr = 0; ql = 0; sn = 0 }) (made_fields v p level))
    × (v < no_name → fields_fit (record { vpi = vpi_in v; vci = vci_in v; dir = 1; bn = 1; ci = ci; ni = ni; ra = 0; er = e; ccr = 0; mcr = 0; ql = 0; sn = 0 }) ≡ true)
unfolding made_fields fields_fit
made-carried v p level {ci} {ni} {e} c n er = (
  rw (c ∙ bit-is (eqb level 2), n ∙ bit-is (eqb level 1), er),
  λ h. rw (vpi-fits v h, vci-fits v, le-leb ci 1 (bit-le _ c), le-leb ni 1 (bit-le _ n), le-leb e 32767 (own-fits p.pcr er)),
)

-- so the fields of a made cell fit
pub made-fits : (v : ℕ) (p : Params) (level : ℕ) → v < no_name → fields_fit (made_fields v p level) ≡ true
made-fits v p level l = let k = made-carried v p level refl refl refl in subst (λ (f : Fields). fields_fit f ≡ true) k.0 (k.1 l)

-- the made cell that waits marks nothing (document 02, L2)
pub kept-is : (d : Destination) {b : Bool} → b ≡ waiting_ci d.turned → (d.efci || b) ≡ mark_kept d
unfolding mark_kept
kept-is d e = rw e
