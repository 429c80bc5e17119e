-- The calls for an open connection meet 11 on a pair under which none is open.
use Prim.Native.Nat.{ℕ, ◌≤◌}
use mathlib.Core.Path.{◌≡◌}
use borrow.Author.Tests.{le-leb}
use Rattle.rate.specs.Units.{latest_time}
use Rattle.cell.specs.Name.{address_name}
use Rattle.model.specs.State.{State, free, find}
use Rattle.model.specs.Step.{refuse, of_open, close_step, offer_step, make_step, out_of_rate_step}
use Rattle.laws.specs.Require.{require}

module _ (s : State) (vpi vci : ℕ) (f : find (address_name vpi vci) s.entries ≡ free) where
  pub close-out : close_step s (address_name vpi vci) ≡ refuse s 11
  unfolding close_step of_open
  close-out = rw f

  pub offer-out : (n : ℕ) → offer_step s (address_name vpi vci) n ≡ refuse s 11
  unfolding offer_step of_open
  offer-out n = rw f

  pub make-out : (t : ℕ) → t ≤ latest_time → make_step s (address_name vpi vci) t ≡ refuse s 11
  unfolding make_step require of_open
  make-out t l = rw (le-leb t latest_time l, f)

  pub out-of-rate-out : (t : ℕ) → t ≤ latest_time → out_of_rate_step s (address_name vpi vci) t 53 ≡ refuse s 11
  unfolding out_of_rate_step require of_open
  out-of-rate-out t l = rw (le-leb t latest_time l, f)
