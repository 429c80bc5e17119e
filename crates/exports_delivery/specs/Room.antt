-- The contracted minimum, always. A transmitter lets in no open and no backward cell above the room of
-- its name (`promise_caps/specs/Room`). Calling abr_limit on each backward cell before abr_receive
-- meets this. A bucket holds its opens and rises. Then its caps fit at every slot, and a leased circuit
-- needs only that something waits.
use Rattle.std.specs.Prelude.{ℕ, ◌+◌, ◌*◌, ◌≤◌, ◌≡◌, true, List, [], ◌∷◌}
use Rattle.std.proofs.Math.Option.{some}
use Rattle.rate_params.specs.declared.params.Params.{Params}
use Rattle.model.specs.Call.{Call}
use Rattle.abr.specs.Exports.{Observation, Transcript, final_words, zeros}
use Rattle.promise_delivery.specs.Calls.{total, is_in}
use Rattle.promise_caps.specs.Known.{Known, load}
use Rattle.promise_caps.specs.Room.{Distinct, InRoom}
use Rattle.exports_delivery.specs.Obeyed.{known_after, known_from}
use Rattle.exports_delivery.specs.Rounds.{Round, last_seen, RoundsRun, RoundsDelivered}
use Rattle.exports_delivery.specs.Delivered.{known_in, slots_for_open, InBucket, early}

-- each call by the rule, on what is known before it
abbrev pub AllInRoom : (capacity : ℕ) (vs : List ℕ) → (ℕ → Known) → List Call → List Observation → Type 0
AllInRoom capacity vs k [] os = Unit
AllInRoom capacity vs k (c ∷ cs) [] = Unit
AllInRoom capacity vs k (c ∷ cs) (o ∷ os) = InRoom capacity vs k c × AllInRoom capacity vs (λ v. known_after v c o (k v)) cs os

abbrev pub RoundsInRoom : (capacity : ℕ) (vs : List ℕ) → (ℕ → Known) → List Round → Type 0
RoundsInRoom capacity vs k [] = Unit
RoundsInRoom capacity vs k (x ∷ xs) = AllInRoom capacity vs k x.between x.seen × RoundsInRoom capacity vs (known_in k x) xs

-- what is open is one of these names
abbrev pub KnownAmong : (vs : List ℕ) → (ℕ → Known) → Type 0
KnownAmong vs k = (v : ℕ) (p : Params) → (k v).given ≡ some p → is_in v vs ≡ true

abbrev pub RoundsAmong : (vs : List ℕ) → (ℕ → Known) → List Round → Type 0
RoundsAmong vs k [] = Unit
RoundsAmong vs k (x ∷ xs) = KnownAmong vs (known_in k x) × RoundsAmong vs (known_in k x) xs

-- after any exported calls that were by the rule, the caps of what is open are within the capacity
abbrev pub CapsInRoom : Type 0
CapsInRoom =
    (cs : List Call) (os : List Observation) → Transcript cs zeros os → (capacity : ℕ) (vs : List ℕ) → Distinct vs → AllInRoom capacity vs (known_from [] []) cs os
    → total (λ v. load (known_from cs os v)) vs ≤ capacity

-- and rounds by the rule, on a line that carries the capacity with a slot every G, deliver
abbrev pub MinimumAlways : Type 0
MinimumAlways =
    (cs : List Call) (os : List Observation) → Transcript cs zeros os → (capacity : ℕ) (vs : List ℕ) → Distinct vs → total (λ v. load (known_from cs os v)) vs ≤ capacity
    → (S G N A lag m : ℕ) (xs : List Round) → RoundsRun S lag m (last_seen 0 cs os) (final_words zeros os) xs → RoundsInRoom capacity vs (known_from cs os) xs
    → RoundsAmong vs (known_from cs os) xs → capacity * G ≤ 512_000_000_000 → S ≤ G → slots_for_open vs (known_from cs os) ≤ N → InBucket vs S G N A 0 (known_from cs os) xs
    → early cs os m + N * G + A ≤ lag → RoundsDelivered cs os (early cs os m + N * G + A) xs
