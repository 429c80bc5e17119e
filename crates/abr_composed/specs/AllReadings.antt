-- The readings of everything, each with its contract.
use Rattle.std.specs.Prelude.{ℕ, List}
use Rattle.abr_answers.specs.declared.status.AbrConnection.{AbrConnection}
use Rattle.abr_answers.specs.declared.status.AbrMember.{AbrMember}
use Rattle.abr_answers.specs.declared.status.AbrTotals.{AbrTotals}
use Rattle.abr.specs.Contract.{ReturnsStatus, ReturnsAt, ReturnsMember, ReturnsTotals}

pub record AllReadings (v leaf number : ℕ) (l : List ℕ) (r : AbrConnection) : Type 0 where
  pub inside : AbrConnection
  pub at : ReturnsAt leaf l inside
  pub member : AbrMember
  pub numbered : ReturnsMember number l member
  pub totals : AbrTotals
  pub link : ReturnsTotals l totals
  pub status : ReturnsStatus v l r
