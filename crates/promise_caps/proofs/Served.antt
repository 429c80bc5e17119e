-- Where the lag does not decide, each connection is delivered its cells.
use Prim.Native.Nat.{ℕ, ◌-◌}
use mathlib.Core.Path.{subst}
use mathlib.Core.List.{List, [], ◌∷◌}
use native.Mathlib.Nat.{le_refl}
use Rattle.model.specs.State.{State, empty}
use Rattle.model.specs.Run.{final}
use Rattle.promise_delivery.specs.Turns.{Turn, slot_of, AllOnTime}
use Rattle.promise_delivery.specs.Served.{TurnsPlain}
use Rattle.promise_delivery.proofs.Served.{delivered-by}
use Rattle.promise_caps.specs.Lag.{turns_of}
use Rattle.promise_caps.specs.Fixed.{TurnsFit}
use Rattle.promise_caps.specs.Own.{caps_by, own_turns, OwnTurnsFit}
use Rattle.promise_caps.specs.Served.{Delivers, CapsDelivered}
use Rattle.promise_caps.proofs.Bounds.{caps-lag}
use Rattle.promise_caps.proofs.Fixed.{lag-bounded}
use Rattle.promise_caps.proofs.Own.{own-caps}

fixed_plain : (vs : List ℕ) (r : ℕ → ℕ) (S lag : ℕ) (xs : List Turn) (m : ℕ) (s : State) → TurnsFit vs r S lag m s xs → TurnsPlain lag s xs
fixed_plain vs r S lag [] m s f = tt
fixed_plain vs r S lag (x ∷ xs) m s f = (
  record { others = f.0.others; timely = f.0.timely; in_range = f.0.in_range },
  fixed_plain vs r S lag xs x.now (slot_of lag s x).state f.1,
)

own-plain : (vs : List ℕ) (S G lag : ℕ) (xs : List Turn) (q : ℕ → ℕ) (m : ℕ) (s : State) → OwnTurnsFit vs q S G lag m s xs → TurnsPlain lag s xs
own-plain vs S G lag [] q m s f = tt
own-plain vs S G lag (x ∷ xs) q m s f = (
  record { others = f.0.others; timely = f.0.timely; in_range = f.0.in_range },
  own-plain vs S G lag xs (caps_by q s x.between) x.now (slot_of lag s x).state f.1,
)

pub caps-delivered : CapsDelivered
caps-delivered cs vs S lag m xs = record {
  fixed = λ r long f. both _ (fixed_plain vs r S lag xs m s f) (lag-bounded cs vs r S lag m xs long f);
  counted = λ q h f long.
      both _ (own-plain vs S S lag xs q m s f)
      (turned q _ ((caps-lag cs vs q S lag m (own_turns lag q s xs)).by_count long ((own-caps cs).turns vs q S S lag m xs (le_refl S) h f)));
  bucket = λ q G N A wide h f few b long.
      both _ (own-plain vs S G lag xs q m s f)
      (turned q _ ((caps-lag cs vs q S lag m (own_turns lag q s xs)).by_bucket G N A wide ((own-caps cs).turns vs q S G lag m xs wide h f) few b long));
}
  where
    s : State
    s = final empty cs

    both : (k : ℕ) → TurnsPlain lag s xs → AllOnTime k lag s xs → Delivers s k lag xs
    both k f o = record { on_time = o; delivers = λ v d e. delivered-by cs k lag xs v d f o e }

    turned : (q : ℕ → ℕ) (k : ℕ) → AllOnTime k lag s (turns_of (own_turns lag q s xs)) → AllOnTime k lag s xs
    turned q k o = subst (AllOnTime k lag s) ((own-caps cs).same q lag xs) o
