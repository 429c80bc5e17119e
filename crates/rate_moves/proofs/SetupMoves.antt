-- The moves by the initial rate used, and by the one given without a round trip.
use Prim.Native.Nat.{ℕ}
use mathlib.Core.Path.{refl, subst}
use Rattle.rate_params.specs.Params.{initial_used, crm}
use Rattle.rate_params.proofs.Setup.{initial-rate}
use Rattle.rate_moves.specs.Moves.{Rate, first_cell, idle, unanswered}
use Rattle.rate_moves.specs.SetupMoves.{MovesBy, SetupMoves}

by-used : (q : Rate) → MovesBy (initial_used q.params) (crm q.params) q
unfolding first_cell idle unanswered
by-used q = record { opens = refl; first = refl; idles = λ passed. refl; cuts = λ y. refl }

pub setup-moves : SetupMoves
setup-moves = record {
  used = by-used;
  no_trip = λ q e. subst (λ (i : ℕ). MovesBy i (crm q.params) q) (initial-rate.no_trip q.params e) (by-used q);
}
