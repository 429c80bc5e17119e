-- The rate at which a source settles whose backward cells all pass one port. (Document 02, L10.)
use Rattle.std.specs.Prelude.{ℕ, ◌+◌, ◌-◌, ◌≤◌, ◌≡◌, List, map, Some, None, Ok, Err}
use Rattle.rate.specs.Units.{largest_rate}
use Rattle.rate.specs.Code.{rate_of, code_of}
use Rattle.rate_params.specs.declared.params.Params.{Params}
use Rattle.rate_params.specs.Params.{peak, least}
use Rattle.port_share.specs.Demands.{plain_sum}
use Rattle.port_share.specs.Share.{Share, fair_share}
use Rattle.port.specs.Limit.{held_er}
use Rattle.promise_loop.specs.Settled.{settled_rate}

-- the code of ER after the port, from the one before it: a port without a limit leaves it, and so
-- does one that refuses the call
abbrev pub er_behind : Share → (er : ℕ) → ℕ
er_behind (Err r) er = er
er_behind (Ok None) er = er
er_behind (Ok (Some share)) er = held_er share er

-- the rate that the port allows a source: its forward cells ask for PCR
abbrev pub port_rate : Params → Share → ℕ
port_rate p share = rate_of (er_behind share p.pcr)

abbrev pub settled : Params → Share → ℕ
settled p share = settled_rate p (port_rate p share)

pub record SettledRates : Type 0 where
  -- max(MCR, min(PCR, share)) for a share that is the rate of a code; for any other share the
  -- same with the rate of its code
  pub exact : (p : Params) (code : ℕ) → settled p (Ok (Some (rate_of code))) ≡ settled_rate p (rate_of code)
  pub rounded : (p : Params) (share : ℕ) → share ≤ largest_rate → settled p (Ok (Some share)) ≡ settled_rate p (rate_of (code_of share))
  -- settled sources that demand their PCR send together at most the capacity, plus what their minimums are above
  -- the rates that the port allows
  pub together :
      (capacity share : ℕ) (ps : List Params) → fair_share capacity (map peak ps) ≡ Ok (Some share)
      → plain_sum (map (λ p. settled p (Ok (Some share))) ps) ≤ capacity + plain_sum (map (λ p. least p - port_rate p (Ok (Some share))) ps)
