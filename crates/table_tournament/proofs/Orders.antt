-- The entries of a well-formed state are those that a tournament orders.
use Prim.Native.Nat.{ℕ, ◌≤◌}
use mathlib.Core.Path.{◌≡◌}
use mathlib.Core.List.{List}
use lib.ListN.{length}
use Rattle.rate.specs.Units.{latest_time}
use Rattle.connection.specs.Invariant.{ValidAt}
use Rattle.connection.proofs.Reached.{in-range, ready-below}
use Rattle.model.specs.State.{State, Entry, capacity}
use Rattle.model.specs.Invariant.{WellFormed, Each, NamesUnique}
use Rattle.model.proofs.Entries.{each_map}
use Rattle.table_tournament.specs.Replaying.{Playable}

pub entries-ordered : (now : ℕ) (ss : List Entry) → now ≤ latest_time → length ss ≡ capacity → NamesUnique ss → Each (ValidAt now) ss → Playable ss
entries-ordered now ss h g u v =
    record {
      size = g;
      unique = u;
      named = each_map (ValidAt now) _ (λ c p. p.0.coded) ss v;
      below = each_map (ValidAt now) _ (λ c p. ready-below c (in-range now c h p)) ss v;
    }

pub ordered : {r : State} → WellFormed r → Playable r.entries
ordered {r} w = entries-ordered r.last r.entries w.timely w.size w.unique w.each
