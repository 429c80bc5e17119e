-- What TBE and FRTT have to do with the moves: they use the initial rate used and CRM. (Document 02, L14.)
use Rattle.std.specs.Prelude.{ℕ, min, max, ◌≡◌, cond, ◌&&◌, not, leb, ltb, eqb}
use Rattle.rate_params.specs.Params.{least, initial, initial_used, crm, adtf_time}
use Rattle.rate_moves.specs.Moves.{Rate, moved, opened, first_cell, idle, reduced_by, unanswered}

-- the moves that use ICR or CRM, as document 01 has them, for the initial rate i and the
-- CRM m; feedback uses neither
pub record MovesBy (i m : ℕ) (q : Rate) : Type 0 where
  pub opens : opened q.params ≡ moved q i
  pub first : first_cell q ≡ moved q (min q.acr i)
  pub idles : (passed : ℕ) → idle passed q ≡ moved q (cond (ltb (adtf_time q.params) passed) (min q.acr i) q.acr)
  pub cuts :
      (y : ℕ) → unanswered y q ≡ moved q (cond (leb m y && not (eqb q.params.c 7)) (max (least q.params) (reduced_by q.params.c q.acr)) q.acr)

-- whatever TBE and FRTT are; without a round trip that is the rate given
pub record SetupMoves : Type 0 where
  pub used : (q : Rate) → MovesBy (initial_used q.params) (crm q.params) q
  pub no_trip : (q : Rate) → q.params.frtt ≡ 0 → MovesBy (initial q.params) (crm q.params) q
