-- More capacity never lowers the share. (Document 02, L10.)
use Rattle.std.specs.Prelude.{ℕ, ◌≤◌, List, Some, None, Ok, Err}
use Rattle.laws.specs.declared.refusals.Refusal.{Refusal}
use Rattle.port_share.specs.Share.{Share, fair_share}

-- the second answer is not lower: no limit is the highest; a refusal, which does not look at the capacity, stays
pub data NotLower : Share → Share → Type 0 where
  refused : {r : Refusal} → NotLower (Err r) (Err r)
  limits : {s t : ℕ} → s ≤ t → NotLower (Ok (Some s)) (Ok (Some t))
  freed : {s : ℕ} → NotLower (Ok (Some s)) (Ok None)
  unlimited : NotLower (Ok None) (Ok None)

abbrev pub RisesWithCapacity : Type 0
RisesWithCapacity = (less more : ℕ) (ds : List ℕ) → less ≤ more → NotLower (fair_share less ds) (fair_share more ds)
