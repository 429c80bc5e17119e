-- Demand 3: one claim about whole lists of calls and pairs of them. (Document 01, "The lists of demand 3".)
use Rattle.std.specs.Prelude.{ℕ, ◌≤◌, ◌≡◌, List, [], ◌∷◌}
use Rattle.std.proofs.Math.Option.{Option, none, some}
use Rattle.rate_params.specs.declared.params.Params.{Params}
use Rattle.rate_params.specs.Params.{peak, least}
use Rattle.model.specs.State.{empty}
use Rattle.model.specs.Call.{Call, receiving, Outcome, refusal, goes_to, kind_sent}
use Rattle.model.specs.Run.{run, final, params_given, allowed}
use Rattle.promise_lists.specs.Congestion.{Backward, AtLeastAsCongested}

-- not open, by the calls and in the table; or open with an allowed rate between the minimum
-- and the peak that its open gave
pub data Bounded : Option Params → Option ℕ → Type 0 where
  not_open : Bounded none none
  between : {p : Params} {a : ℕ} → least p ≤ a → a ≤ peak p → Bounded (some p) (some a)

-- the two lists have one length, and what stands in the same place is so related
abbrev pub InPlace : {A B : Type 0} → (A → B → Type 0) → List A → List B → Type 0
InPlace R [] [] = Unit
InPlace R [] (y ∷ ys) = ⊥
InPlace R (x ∷ xs) [] = ⊥
InPlace R (x ∷ xs) (y ∷ ys) = R x y × InPlace R xs ys

-- equal calls; or backward cells, the second at least as congested as the first
pub data Comparable : Call → Call → Type 0 where
  equal : {c : Call} → Comparable c c
  congested : {a b : List ℕ} → Backward b → AtLeastAsCongested b a → Comparable (receiving a) (receiving b)

-- slots go to the same connection in both, or to none in both
abbrev pub SamePlace : Outcome → Outcome → Type 0
SamePlace o p = goes_to o.answer ≡ goes_to p.answer

-- open in neither; or open in both, with a rate in the second at most that in the first
pub data NotAbove : Option ℕ → Option ℕ → Type 0 where
  neither : NotAbove none none
  both : {a b : ℕ} → b ≤ a → NotAbove (some a) (some b)

-- the same refusal or none, the same kind of cell or none, and no rate in the second above that in the first
pub record Agree (o p : Outcome) : Type 0 where
  pub refusals : refusal o.answer ≡ refusal p.answer
  pub kinds : kind_sent o.answer ≡ kind_sent p.answer
  pub rates : (v : ℕ) → NotAbove (allowed v o.state) (allowed v p.state)

pub record Demand3 : Type 0 where
  pub bounds : (cs : List Call) (v : ℕ) → Bounded (params_given v cs) (allowed v (final empty cs))
  pub pairs :
      (xs ys : List Call) → InPlace Comparable xs ys → InPlace SamePlace (run empty xs) (run empty ys)
      → InPlace Agree (run empty xs) (run empty ys)
