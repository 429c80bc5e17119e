-- These conditions are enough for the rounds of a transmitter in C to deliver what `RoundsDelivered` says. They
-- are stated by the caller's calls and the answers to them.
use Rattle.std.specs.Prelude.{ℕ, ◌+◌, ◌-◌, ◌*◌, ◌≤◌, ◌≡◌, true, List, [], ◌∷◌}
use Rattle.std.proofs.Math.Option.{some}
use Rattle.rate_params.specs.declared.params.Params.{Params}
use Rattle.rate_params.specs.Params.{peak}
use Rattle.model.specs.Call.{Call}
use Rattle.abr.specs.Exports.{Observation, Transcript, final_words, zeros}
use Rattle.promise_delivery.specs.Calls.{opens_of, total, is_in}
use Rattle.promise_delivery.specs.Turns.{opens_in}
use Rattle.promise_caps.specs.Capped.{rise}
use Rattle.promise_caps.specs.Lag.{rise_count}
use Rattle.promise_caps.specs.Known.{Known, if_given}
use Rattle.exports_delivery.specs.Obeyed.{known_seen, known_from}
use Rattle.exports_delivery.specs.Rounds.{Round, last_seen, RoundsRun, turns_in, RoundsDelivered}

-- what is known before the slot of a round
abbrev pub known_in : (ℕ → Known) → Round → ℕ → Known
known_in k x v = known_seen v (k v) x.between x.seen

-- a slot for an open connection
abbrev pub slots_for : Known → ℕ
slots_for k = if_given k.given 1

-- what is open is one of these names, and its caps fit a link with a slot every G
pub record LinkFits (vs : List ℕ) (r : ℕ → ℕ) (G : ℕ) (k : ℕ → Known) : Type 0 where
  pub among : (v : ℕ) (p : Params) → (k v).given ≡ some p → is_in v vs ≡ true
  pub fits : total (λ v. if_given (k v).given (r v)) vs * G ≤ 512_000_000_000

-- 1. A cap for each name over the rounds: no rate that abr_acr returns is above it.
pub record RoundHeld (vs : List ℕ) (r : ℕ → ℕ) (S : ℕ) (k : ℕ → Known) (x : Round) : Type 0 where
  pub link : LinkFits vs r S k
  pub rates : (v : ℕ) → (x.acrs v).acr ≤ r v

abbrev pub RatesHeld : (vs : List ℕ) (r : ℕ → ℕ) (S : ℕ) → (ℕ → Known) → List Round → Type 0
RatesHeld vs r S k [] = Unit
RatesHeld vs r S k (x ∷ xs) = RoundHeld vs r S (known_in k x) x × RatesHeld vs r S (known_in k x) xs

-- 2. The peaks of what is open: then nothing is asked of the rates.
pub record PeakFits (vs : List ℕ) (r : ℕ → ℕ) (S : ℕ) (k : ℕ → Known) : Type 0 where
  pub link : LinkFits vs r S k
  pub peaks : (v : ℕ) (p : Params) → (k v).given ≡ some p → peak p ≤ r v

abbrev pub PeaksFit : (vs : List ℕ) (r : ℕ → ℕ) (S : ℕ) → (ℕ → Known) → List Round → Type 0
PeaksFit vs r S k [] = Unit
PeaksFit vs r S k (x ∷ xs) = PeakFits vs r S (known_in k x) × PeaksFit vs r S (known_in k x) xs

-- 3. The caps that the backward cells make, at each slot those of the last ones. The line is its own
-- port. The caps may rise and fall.
abbrev pub caps_of : (ℕ → Known) → ℕ → ℕ
caps_of k v = (k v).cap

abbrev pub RoundsFit : (vs : List ℕ) (G : ℕ) → (ℕ → Known) → List Round → Type 0
RoundsFit vs G k [] = Unit
RoundsFit vs G k (x ∷ xs) = LinkFits vs (caps_of (known_in k x)) G (known_in k x) × RoundsFit vs G (known_in k x) xs

-- how often the cap of v rises from one slot to the next while it is open
abbrev pub rises_seen : (v : ℕ) → (ℕ → Known) → List Round → ℕ
rises_seen v k [] = 0
rises_seen v k (x ∷ xs) = if_given (k v).given (rise_count (k v).cap (known_in k x v).cap) + rises_seen v (known_in k x) xs

-- A bucket of depth A. Each open lets in a slot of G and each rise its part of one. Each slot takes out G - S. At
-- most N connections are open at a time.
abbrev pub poured : (vs : List ℕ) (G : ℕ) → (ℕ → Known) → Round → ℕ
poured vs G k x = total (λ v. opens_of v x.between * G + if_given (k v).given (rise G (k v).cap (known_in k x v).cap)) vs

abbrev pub bucket_at : (vs : List ℕ) (S G level : ℕ) → (ℕ → Known) → Round → ℕ
bucket_at vs S G level k x = (level + poured vs G k x) - (G - S)

abbrev pub slots_for_open : (vs : List ℕ) → (ℕ → Known) → ℕ
slots_for_open vs k = total (λ v. slots_for (k v)) vs

abbrev pub InBucket : (vs : List ℕ) (S G N A level : ℕ) → (ℕ → Known) → List Round → Type 0
InBucket vs S G N A level k [] = Unit
InBucket vs S G N A level k (x ∷ xs) =
    (bucket_at vs S G level k x ≤ A) × (slots_for_open vs (known_in k x) ≤ N) × InBucket vs S G N A (bucket_at vs S G level k x) (known_in k x) xs

-- After any exported calls from the zero table, rounds on it.
module _ (cs : List Call) (os : List Observation) where
  -- how far the clock is ahead at the start: the slot before was at m, the last
  -- accepted time if nothing is overdue
  abbrev pub early : (m : ℕ) → ℕ
  early m = m - last_seen 0 cs os

  -- and a slot for each connection that is open, for each call that opens one, and for each rise
  abbrev pub behind : (vs : List ℕ) (S m : ℕ) → List Round → ℕ
  behind vs S m xs = early m + total (λ v. slots_for (known_from cs os v) + opens_in v (turns_in xs)) vs * S

  abbrev pub behind_rising : (vs : List ℕ) (S m : ℕ) → List Round → ℕ
  behind_rising vs S m xs = early m + total (λ v. slots_for (known_from cs os v) + opens_in v (turns_in xs) + rises_seen v (known_from cs os) xs) vs * S

  pub record DeliveredAfter (vs : List ℕ) (S lag m : ℕ) (xs : List Round) : Type 0 where
    pub held : (r : ℕ → ℕ) → behind vs S m xs ≤ lag → RatesHeld vs r S (known_from cs os) xs → RoundsDelivered cs os (behind vs S m xs) xs
    pub at_peaks : (r : ℕ → ℕ) → behind vs S m xs ≤ lag → PeaksFit vs r S (known_from cs os) xs → RoundsDelivered cs os (behind vs S m xs) xs
    pub counted : behind_rising vs S m xs ≤ lag → RoundsFit vs S (known_from cs os) xs → RoundsDelivered cs os (behind_rising vs S m xs) xs
    pub bucket :
        (G N A : ℕ) → S ≤ G → RoundsFit vs G (known_from cs os) xs → slots_for_open vs (known_from cs os) ≤ N → InBucket vs S G N A 0 (known_from cs os) xs → early m + N * G + A ≤ lag
        → RoundsDelivered cs os (early m + N * G + A) xs

abbrev pub ExportsDelivered : Type 0
ExportsDelivered =
    (cs : List Call) (os : List Observation) → Transcript cs zeros os → (vs : List ℕ) (S lag m : ℕ) (xs : List Round)
    → RoundsRun S lag m (last_seen 0 cs os) (final_words zeros os) xs → DeliveredAfter cs os vs S lag m xs
