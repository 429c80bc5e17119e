-- A forward cell of the engine's own, turned round, has no marks, and PCR as its ER.
use Prim.Native.Nat.{ℕ, ◌<◌}
use mathlib.Core.Path.{◌≡◌, refl, ap, ◌∙◌}
use mathlib.Core.Bool.{true, false}
use native.Mathlib.Nat.{le_refl}
use native.Mathlib.Omega.{arith}
use lib.Dec.{lit≤}
use Rattle.rate.proofs.Codes.{rate-le, code-greatest}
use Rattle.rate_params.specs.Params.{peak}
use Rattle.rate_moves.specs.declared.moves.Rate.{Rate}
use Rattle.rate_moves.specs.Bounds.{RateInBounds}
use Rattle.cell.specs.declared.fields.Fields.{Fields}
use Rattle.cell.specs.Read.{RmCell}
use Rattle.cell.specs.Name.{vpi_in, vci_in, no_name}
use Rattle.cell.specs.Fields.{fields_fit}
use Rattle.cell.specs.Reading.{reading}
use Rattle.cell.specs.Returned.{returned}
use Rattle.cell.proofs.Names.{address-back}
use Rattle.cell.proofs.Admits.{rm-received}
use Rattle.cell.proofs.Turned.{turned-read, turned-words}
use Rattle.cell.proofs.Written.{written-octets, read-written}
use Rattle.connection.specs.Source.{forward_fields}
use Rattle.connection.proofs.SourceCases.{forward-fits}
use Rattle.promise_loop.specs.Turned.{forward_cell, turned_back, TurnedUnmarked}
use Rattle.promise_loop.proofs.Share.{port-low}

module _ (v : ℕ) (q : Rate) (l : v < no_name) (b : RateInBounds q) where
  fit : fields_fit (forward_fields v q) ≡ true
  fit = forward-fits v q l (omega (arith, b.below, rate-le q.params.pcr))

  sent-read : reading (forward_cell v q) ≡ RmCell (forward_fields v q)
  sent-read = read-written 0 (forward_fields v q) (lit≤ tt) fit

  abbrev fields : Fields
  fields = returned 0 false (vpi_in v) (vci_in v) (forward_fields v q)

  turned-back-read : reading (turned_back v q) ≡ RmCell fields
  turned-back-read =
      let n = (rm-received (forward_cell v q) (forward_fields v q) sent-read).size in
      ap reading (turned-words 0 false (vpi_in v) (vci_in v) (forward_cell v q) n (written-octets 0 (forward_fields v q) (lit≤ tt) fit))
      ∙ turned-read 0 false (vpi_in v) (vci_in v) (forward_cell v q) n (forward_fields v q) sent-read (omega (arith, l)) (omega arith)

pub turned-unmarked : TurnedUnmarked
unfolding returned forward_fields
turned-unmarked v share q l b = record {
  from_port = record {
    before = turned_back v q;
    fields = fields v q l b;
    read = turned-back-read v q l b;
    backward = refl;
    name = address-back v l;
    left = refl;
  };
  ci = refl;
  ni = refl;
  er = omega (arith, port-low q.params share, (code-greatest (peak q.params) (rate-le q.params.pcr)).greatest q.params.pcr (le_refl _));
}
