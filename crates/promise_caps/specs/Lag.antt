-- How far behind its own time a slot is passed, where the caps change at any turn. Opening a connection costs a
-- slot. Raising the cap of an open one costs a part of a slot. Where the caps leave some of the link free, every
-- slot pays a part of that back. So the caps may change without end, now and then.
use Rattle.std.specs.Prelude.{ℕ, ◌+◌, ◌-◌, ◌*◌, ◌≤◌, cond, List, [], ◌∷◌, eqb, leb, ltb}
use Rattle.model.specs.State.{State, empty, find}
use Rattle.model.specs.Call.{Call}
use Rattle.model.specs.Run.{final}
use Rattle.promise_delivery.specs.Calls.{opens_of, total, if_open, is_open}
use Rattle.promise_delivery.specs.Turns.{Turn, time_passed, slot_of, TurnFits, OnTime, AllOnTime, opens_in}
use Rattle.promise_caps.specs.Capped.{rise}

-- a turn, and the caps from the slot before it on until after its own
pub record CapTurn : Type 0 where
  pub turn : Turn
  pub cap : ℕ → ℕ

abbrev pub turns_of : List CapTurn → List Turn
turns_of [] = []
turns_of (x ∷ xs) = x.turn ∷ turns_of xs

-- the slots are at most S apart or after a sleep, and the caps of each turn fit a link with a slot every G
abbrev pub CapTurnsFit : (vs : List ℕ) (S G lag m : ℕ) → State → List CapTurn → Type 0
CapTurnsFit vs S G lag m s [] = Unit
CapTurnsFit vs S G lag m s (x ∷ xs) = TurnFits vs x.cap S G m s x.turn × CapTurnsFit vs S G lag x.turn.now (slot_of lag s x.turn).state xs

-- a rise of the cap of v at this turn, if it is open before it, q being the caps before
abbrev pub raised_at : (v G : ℕ) (q : ℕ → ℕ) → State → CapTurn → ℕ
raised_at v G q s x = if_open (find v s.entries) (rise G (q v) (x.cap v))

-- the calls that open one of these names in a turn, and the rises
abbrev pub new_at : (vs : List ℕ) (G : ℕ) (q : ℕ → ℕ) → State → CapTurn → ℕ
new_at vs G q s x = total (λ v. opens_of v x.turn.between * G + raised_at v G q s x) vs

abbrev pub open_of : (vs : List ℕ) → State → ℕ
open_of vs s = total (is_open s) vs

-- the level at a slot, from the level after the slot before: opens and rises are added, and the
-- slot takes what is left free
abbrev pub bucket_level : (vs : List ℕ) (q : ℕ → ℕ) (S G level : ℕ) → State → CapTurn → ℕ
bucket_level vs q S G level s x = (level + new_at vs G q s x) - (G - S)

-- a slot for each connection that is open after a turn
abbrev pub slots_after : (vs : List ℕ) (G lag : ℕ) → State → CapTurn → ℕ
slots_after vs G lag s x = open_of vs (slot_of lag s x.turn).state * G

-- The debt at a slot, from the debt after the slot before, which was at m. More than S after m, at the end
-- of a sleep, it starts again.
unfoldable pub debt_at : (vs : List ℕ) (q : ℕ → ℕ) (S G lag m debt : ℕ) → State → CapTurn → ℕ
debt_at vs q S G lag m debt s x = cond (leb x.turn.now (m + S)) (bucket_level vs q S G debt s x) (slots_after vs G lag s x - (G - S))

-- and the debt after it: it starts again if the slot was passed its own time
unfoldable pub debt_after : (vs : List ℕ) (G lag debt : ℕ) → State → CapTurn → ℕ
debt_after vs G lag debt s x = cond (eqb (time_passed lag s x.turn) x.turn.now) (slots_after vs G lag s x) debt

-- lag is at least the debt at each slot
abbrev pub AllLong : (vs : List ℕ) (q : ℕ → ℕ) (S G lag m debt : ℕ) → State → List CapTurn → Type 0
AllLong vs q S G lag m debt s [] = Unit
AllLong vs q S G lag m debt s (x ∷ xs) =
    let d = debt_at vs q S G lag m debt s x in
    (d ≤ lag) × AllLong vs x.cap S G lag x.turn.now (debt_after vs G lag d s x) (slot_of lag s x.turn).state xs

-- then it does not decide, and each slot is passed no more than the debt behind its own time
abbrev pub AllNear : (vs : List ℕ) (q : ℕ → ℕ) (S G lag m debt : ℕ) → State → List CapTurn → Type 0
AllNear vs q S G lag m debt s [] = Unit
AllNear vs q S G lag m debt s (x ∷ xs) =
    let d = debt_at vs q S G lag m debt s x in
    OnTime d lag s x.turn × AllNear vs x.cap S G lag x.turn.now (debt_after vs G lag d s x) (slot_of lag s x.turn).state xs

abbrev pub debt_from : (vs : List ℕ) (G m : ℕ) → State → ℕ
debt_from vs G m s = (m - s.last) + open_of vs s * G

-- The sum over a stretch without anything left free.
abbrev pub rises_in : (v S lag : ℕ) (q : ℕ → ℕ) → State → List CapTurn → ℕ
rises_in v S lag q s [] = 0
rises_in v S lag q s (x ∷ xs) = raised_at v S q s x + rises_in v S lag x.cap (slot_of lag s x.turn).state xs

abbrev pub behind_caps : (vs : List ℕ) (q : ℕ → ℕ) (S lag m : ℕ) → State → List CapTurn → ℕ
behind_caps vs q S lag m s xs = (m - s.last) + total (λ v. (is_open s v + opens_in v (turns_of xs)) * S + rises_in v S lag q s xs) vs

-- The same with a whole slot for each rise.
unfoldable pub rise_count : (a b : ℕ) → ℕ
rise_count a b = cond (ltb a b) 1 0

abbrev pub count_in : (v lag : ℕ) (q : ℕ → ℕ) → State → List CapTurn → ℕ
count_in v lag q s [] = 0
count_in v lag q s (x ∷ xs) = if_open (find v s.entries) (rise_count (q v) (x.cap v)) + count_in v lag x.cap (slot_of lag s x.turn).state xs

abbrev pub behind_count : (vs : List ℕ) (q : ℕ → ℕ) (S lag m : ℕ) → State → List CapTurn → ℕ
behind_count vs q S lag m s xs = (m - s.last) + total (λ v. is_open s v + opens_in v (turns_of xs) + count_in v lag q s xs) vs * S

-- Without end: a bucket of depth A holds the opens and rises, and every slot takes out what is left free. At most
-- N connections are open at a time.
abbrev pub AllInBucket : (vs : List ℕ) (q : ℕ → ℕ) (S G N A lag level : ℕ) → State → List CapTurn → Type 0
AllInBucket vs q S G N A lag level s [] = Unit
AllInBucket vs q S G N A lag level s (x ∷ xs) =
    (bucket_level vs q S G level s x ≤ A) × (open_of vs (slot_of lag s x.turn).state ≤ N)
    × AllInBucket vs x.cap S G N A lag (bucket_level vs q S G level s x) (slot_of lag s x.turn).state xs

-- after any list of calls from the empty table; q may be any caps, and with those of the first turn that has no rise
pub record CapsLagBounded (s : State) (vs : List ℕ) (q : ℕ → ℕ) (S lag m : ℕ) (xs : List CapTurn) : Type 0 where
  pub by_debt : (G : ℕ) → S ≤ G → CapTurnsFit vs S G lag m s xs → AllLong vs q S G lag m (debt_from vs G m s) s xs → AllNear vs q S G lag m (debt_from vs G m s) s xs
  pub by_sum : behind_caps vs q S lag m s xs ≤ lag → CapTurnsFit vs S S lag m s xs → AllOnTime (behind_caps vs q S lag m s xs) lag s (turns_of xs)
  pub by_count : behind_count vs q S lag m s xs ≤ lag → CapTurnsFit vs S S lag m s xs → AllOnTime (behind_count vs q S lag m s xs) lag s (turns_of xs)
  pub by_bucket :
      (G N A : ℕ) → S ≤ G → CapTurnsFit vs S G lag m s xs → open_of vs s ≤ N → AllInBucket vs q S G N A lag 0 s xs → (m - s.last) + N * G + A ≤ lag
      → AllOnTime ((m - s.last) + N * G + A) lag s (turns_of xs)

abbrev pub CapsLag : Type 0
CapsLag = (cs : List Call) (vs : List ℕ) (q : ℕ → ℕ) (S lag m : ℕ) (xs : List CapTurn) → CapsLagBounded (final empty cs) vs q S lag m xs
