-- The trace that a caller records of its own cells passes the judge. It is said of the numbers and structs that
-- exported calls from the zero table return. (Document 02, L11 and L13.)
use Rattle.std.specs.Prelude.{ℕ, ◌≡◌, Bool, cond, ◌&&◌, not, List, [], ◌∷◌, ◌++◌, eqb}
use Rattle.rate_params.specs.declared.params.Params.{Params}
use Rattle.trace_judge.specs.Octets.{judged_octets}
use Rattle.model.specs.Call.{Call}
use Rattle.abr_answers.specs.declared.calls.AbrAllowed.{AbrAllowed}
use Rattle.abr_answers.specs.declared.traces.AbrVerdict.{AbrVerdict}
use Rattle.abr_answers.specs.Traces.{judged_of}
use Rattle.abr.specs.Contract.{ReturnsAllowed}
use Rattle.abr.specs.Exports.{Observation, Transcript, final_words, zeros}
use Rattle.promise_traces.specs.InRate.{SentCell, at_slot, closes_connection}
use Rattle.promise_traces.specs.Written.{trace_octets}
use Rattle.promise_traces.specs.Traces.{Opening, trace_cells}
use Rattle.exports.specs.Returned.{no_member, member_seen, members_seen, connection_returned}
use Rattle.abr_answers.specs.Reply.{Reply}

-- the cell that a slot at this time returned, if it is one of v: kind 0 is none
abbrev pub cell_returned : (v : ℕ) → (member : ℕ → Bool) → (time rate : ℕ) → Reply → List SentCell
cell_returned v f t rate r = cond (not (eqb r.kind 0) && eqb (connection_returned f r) v) (record { time = t; kind = r.kind; rate = rate } ∷ []) []

-- The cells of v until v is closed, from the calls, what they returned and the rate that was read before
-- each of them. 0 is no refusal.
abbrev pub recorded : (v : ℕ) → (member : ℕ → Bool) → List Call → List Observation → List AbrAllowed → List SentCell
recorded v f [] os rs = []
recorded v f (c ∷ cs) [] rs = []
recorded v f (c ∷ cs) (o ∷ os) [] = []
recorded v f (c ∷ cs) (o ∷ os) (a ∷ rs) =
    cond (closes_connection v c (eqb o.returned.refusal 0)) [] (at_slot c (λ t. cell_returned v f t a.acr o.returned) ++ recorded v (member_seen c o f) cs os rs)

-- what abr_acr returns for v before each call, the first being on these words
pub data RatesRead (v : ℕ) : (first : List ℕ) → List Observation → List AbrAllowed → Type 0 where
  no_call : {l : List ℕ} → RatesRead v l [] []
  read_then : {l : List ℕ} {a : AbrAllowed} {rs : List AbrAllowed} {o : Observation} {os : List Observation} → ReturnsAllowed v l a → RatesRead v o.table os rs → RatesRead v l (o ∷ os) (a ∷ rs)

-- Take any exported calls, an open of a channel or of a path that returned 0, and any further calls. For the octets
-- of the trace abr_judge returns neither a refusal nor a broken rule.
abbrev pub RecordedPasses : Type 0
RecordedPasses =
    (before after : List Call) (c : Call) (v : ℕ) (p : Params) (os ps : List Observation) (o : Observation) (rs : List AbrAllowed) (r : AbrVerdict) → Opening c v p → Transcript before zeros os
    → Transcript (c ∷ after) (final_words zeros os) (o ∷ ps) → o.returned.refusal ≡ 0 → RatesRead v o.table ps rs
    → r ≡ judged_of (judged_octets (trace_octets p.n p.trm (trace_cells (recorded v (member_seen c o (members_seen no_member before os)) after ps rs)))) → (r.refusal ≡ 0) × (r.rule ≡ 0)
