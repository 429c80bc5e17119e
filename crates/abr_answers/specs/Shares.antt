-- What the share of an explicit-rate port returns. `Forwarded` (port/Limit) says what a port's call returns
-- and leaves. (Document 02, L10.)
use Rattle.std.specs.Prelude.{Some, None, Ok, Err}
use Rattle.rate.specs.Units.{largest_rate}
use Rattle.laws.specs.Refusals.{number}
use Rattle.port_share.specs.Share.{Share}
pub use Rattle.abr_answers.specs.declared.shares.AbrShare.{AbrShare}

-- without a limit the rate is the largest, which limits nothing
abbrev pub share_of : Share → AbrShare
share_of (Err r) = record { refusal = number r; limited = 0; rate = 0 }
share_of (Ok None) = record { refusal = 0; limited = 0; rate = largest_rate }
share_of (Ok (Some s)) = record { refusal = 0; limited = 1; rate = s }
