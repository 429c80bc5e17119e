-- Demands 1 and 3 for exported calls, as C sees them. They are said of the numbers and structs that calls from the
-- zero table return, and of the rates that abr_acr returns.
-- (Document 01, "The lists of demand 3" and "What the library commits to", 1; document 02, L13.)
use Rattle.std.specs.Prelude.{ℕ, ◌≤◌, ◌≡◌, cond, List, [], ◌∷◌, eqb}
use Rattle.std.proofs.Math.Option.{Option, none, some}
use Rattle.rate_params.specs.declared.params.Params.{Params}
use Rattle.model.specs.Call.{Call}
use Rattle.model.specs.Run.{params_after}
use Rattle.abr_answers.specs.declared.calls.AbrAllowed.{AbrAllowed}
use Rattle.abr.specs.Contract.{ReturnsAllowed}
use Rattle.abr.specs.Exports.{Observation, Transcript, final_words, zeros}
use Rattle.promise_lists.specs.Demand3.{Bounded, InPlace, Comparable}
use Rattle.exports.specs.Returned.{no_member, places_seen}

-- the parameters under which a name is open, from the calls and the numbers that they returned: 0 is no refusal
abbrev pub params_observed : ℕ → Option Params → List Call → List Observation → Option Params
params_observed v before [] os = before
params_observed v before (c ∷ cs) [] = before
params_observed v before (c ∷ cs) (o ∷ os) = params_observed v (params_after v c (eqb o.returned.refusal 0) before) cs os

-- the rate that abr_acr returned, if it did not refuse
abbrev pub rate_returned : AbrAllowed → Option ℕ
rate_returned a = cond (eqb a.refusal 0) (some a.acr) none

-- slots go to the same connection in both, a member's to its path, or to none in both
abbrev pub SameConnection : Option ℕ → Option ℕ → Type 0
SameConnection a b = a ≡ b

-- abr_acr answers alike, with a rate in the second at most that in the first
pub record RateNotAbove (a b : AbrAllowed) : Type 0 where
  pub refusals : a.refusal ≡ b.refusal
  pub rates : b.acr ≤ a.acr

-- The same refusal or none, and the same kind of cell or none. No rate that abr_acr returns after the second call
-- is above that after the first.
pub record ObservedAgree (o p : Observation) : Type 0 where
  pub refusals : o.returned.refusal ≡ p.returned.refusal
  pub kinds : o.returned.kind ≡ p.returned.kind
  pub rates : (v : ℕ) (a b : AbrAllowed) → ReturnsAllowed v o.table a → ReturnsAllowed v p.table b → RateNotAbove a b

-- a call that returned a refusal left the table, which stood at these words, and the lent buffer
abbrev pub RefusedLeave : (before : List ℕ) → List Observation → Type 0
RefusedLeave l [] = Unit
RefusedLeave l (o ∷ os) = ((o.returned.refusal ≡ 0 → ⊥) → (o.table ≡ l) × (o.new ≡ o.old)) × RefusedLeave o.table os

-- Demand 1 of exported calls: every refused one leaves what it was lent.
abbrev pub ExportsDemand1 : Type 0
ExportsDemand1 = (cs : List Call) (os : List Observation) → Transcript cs zeros os → RefusedLeave zeros os

pub record ExportsDemand3 : Type 0 where
  pub bounds :
      (cs : List Call) (os : List Observation) → Transcript cs zeros os → (v : ℕ) (a : AbrAllowed) → ReturnsAllowed v (final_words zeros os) a
      → Bounded (params_observed v none cs os) (rate_returned a)
  pub pairs :
      (xs ys : List Call) (os ps : List Observation) → Transcript xs zeros os → Transcript ys zeros ps → InPlace Comparable xs ys
      → InPlace SameConnection (places_seen no_member xs os) (places_seen no_member ys ps)
      → InPlace ObservedAgree os ps
