-- A port on the way never raises a rate that abr_acr returns.
use Prim.Native.Nat.{ℕ}
use mathlib.Core.Path.{◌≡◌, sym, ap, subst}
use mathlib.Core.List.{List, [], ◌∷◌}
use Rattle.port_share.specs.Share.{Share, fair_share}
use Rattle.std.specs.Prelude.{Some, None, Ok, Err}
use Rattle.port.specs.Limit.{Forwarded}
use Rattle.port.specs.Port.{port_by}
use Rattle.model.specs.Call.{Call, receiving}
use Rattle.promise_lists.specs.Demand3.{InPlace, Comparable, equal}
use Rattle.promise_cells.specs.Ported.{held}
use Rattle.promise_cells.proofs.Ported.{comparable}
use Rattle.exports.proofs.Exports.{exports-demand3}
use Rattle.exports_rates.specs.Ported.{PortedCall, same, limited, ported, ExportsPorts}

left-cell : {a b : Forwarded} → a ≡ b → a.cell ≡ b.cell
left-cell e = ap (λ (x : Forwarded). x.cell) e

by-share : (share : Share) (o : List ℕ) → Comparable (receiving o) (receiving (port_by share o).cell)
unfolding port_by
by-share (Err r) o = equal
by-share (Ok None) o = equal
by-share (Ok (Some s)) o = comparable (held s o)

compared : {c d : Call} → PortedCall c d → Comparable c d
compared same = equal
compared (limited rate n o p e) = subst (λ (x : List ℕ). Comparable (receiving o) (receiving x)) (sym (left-cell e)) (comparable (held rate o))
compared (ported capacity demands n o p e) = subst (λ (x : List ℕ). Comparable (receiving o) (receiving x)) (sym (left-cell e)) (by-share (fair_share capacity demands) o)

each : (xs ys : List Call) → InPlace PortedCall xs ys → InPlace Comparable xs ys
each [] [] h = tt
each [] (y ∷ ys) h = h
each (x ∷ xs) [] h = h
each (x ∷ xs) (y ∷ ys) h = (compared h.0, each xs ys h.1)

pub exports-ports : ExportsPorts
exports-ports = record {
  never_raise = λ xs ys os ps t u h. exports-demand3.pairs xs ys os ps t u (each xs ys h);
  in_loop = λ v capacity demands o h.
      record { before = h.before; fields = h.fields; read = h.read; backward = h.backward; name = h.name; left = left-cell h.left };
}
