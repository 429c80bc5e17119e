-- Computed.
use Prim.Native.Nat.{ℕ, ◌-◌, ◌≤◌}
use mathlib.Core.Path.{◌≡◌, refl}
use mathlib.Core.Bool.{Bool, true, false}
use native.Mathlib.Omega.{arith}
use lib.Dec.{lit≤}
use Rattle.connection.specs.Ready.{any_waits}
use Rattle.model.specs.State.{State, Entry, free, taken, capacity, find}
use Rattle.model.specs.Queries.{entry_ready, earlier, earliest, ready_word, next_ready}
use Rattle.model.proofs.Entries.{each_free}
use Rattle.laws.specs.All.{All}
use Rattle.model.specs.Aspects.{sort_of}
use Rattle.promise_delivery.specs.Calls.{opens_name, if_open, is_in}
use Rattle.promise_delivery.specs.Turns.{Turn, table_at}
use Rattle.promise_service.specs.Progress.{NotCloser}
use Rattle.promise_delivery.specs.Served.{WaitsAt}
use Rattle.check_examples.proofs.Witness.{computing}
use Rattle.check_examples.specs.Caps.{example_names, CapsExample}

-- something waits on the connection in an entry
abbrev entry_waits : Entry → Bool
entry_waits free = false
entry_waits (taken d) = any_waits d

waits-at : (v : ℕ) (s : State) (x : Turn) (y : Entry) → find v (table_at s x).entries ≡ y → entry_waits y ≡ true → All (λ c. NotCloser v (sort_of c)) x.between → (table_at s x).last ≡ s.last → WaitsAt v s x
waits-at v s x free f e k l = let z : ◌≡◌ {A = ℕ} 0 1 = cc in absurd (omega arith)
waits-at v s x (taken d) f e k l = record { holder = d; found = f; waits = e; kept = k; still = l }

pub caps-example : CapsExample
unfolding computing entry_ready earlier earliest ready_word next_ready opens_name if_open is_in
caps-example = record {
  lag = refl;
  fit = (record { others = tt; timely = lit≤ tt; in_range = lit≤ tt; soon = lit≤ tt; held = record { among = (refl, (refl, each_free (λ d. is_in d.name example_names ≡ true) (capacity - 2))); rates = (lit≤ tt, (lit≤ tt, each_free (λ d. d.rate.acr ≤ 512_000) (capacity - 2))) }; fits = lit≤ tt; fitted = tt }, (record { others = tt; timely = lit≤ tt; in_range = lit≤ tt; soon = lit≤ tt; held = record { among = (refl, (refl, each_free (λ d. is_in d.name example_names ≡ true) (capacity - 2))); rates = (lit≤ tt, (lit≤ tt, each_free (λ d. d.rate.acr ≤ 512_000) (capacity - 2))) }; fits = lit≤ tt; fitted = tt }, (record { others = tt; timely = lit≤ tt; in_range = lit≤ tt; soon = lit≤ tt; held = record { among = (refl, (refl, each_free (λ d. is_in d.name example_names ≡ true) (capacity - 2))); rates = (lit≤ tt, (lit≤ tt, each_free (λ d. d.rate.acr ≤ 512_000) (capacity - 2))) }; fits = lit≤ tt; fitted = tt }, (record { others = tt; timely = lit≤ tt; in_range = lit≤ tt; soon = lit≤ tt; held = record { among = (refl, (refl, each_free (λ d. is_in d.name example_names ≡ true) (capacity - 2))); rates = (lit≤ tt, (lit≤ tt, each_free (λ d. d.rate.acr ≤ 512_000) (capacity - 2))) }; fits = lit≤ tt; fitted = tt }, tt))));
  waits = (waits-at 34 _ _ _ refl refl tt refl, (waits-at 34 _ _ _ refl refl tt refl, (waits-at 34 _ _ _ refl refl tt refl, (waits-at 34 _ _ _ refl refl tt refl, tt))));
  passed = refl;
}
