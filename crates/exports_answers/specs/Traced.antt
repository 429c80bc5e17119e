-- A trace recorded from slots alone, with the rate before each cell that the slot returned, passes the judge.
-- (Document 02, L11 and L13.)
use Rattle.std.specs.Prelude.{ℕ, ◌≡◌, Bool, cond, List, [], ◌∷◌, ◌++◌, eqb}
use Rattle.rate_params.specs.declared.params.Params.{Params}
use Rattle.trace_judge.specs.Octets.{judged_octets}
use Rattle.model.specs.Call.{Call}
use Rattle.abr_answers.specs.declared.traces.AbrVerdict.{AbrVerdict}
use Rattle.abr_answers.specs.Traces.{judged_of}
use Rattle.abr.specs.Exports.{Observation, Transcript, final_words, zeros}
use Rattle.promise_traces.specs.InRate.{SentCell, at_slot, closes_connection}
use Rattle.promise_traces.specs.Written.{trace_octets}
use Rattle.promise_traces.specs.Traces.{Opening, trace_cells}
use Rattle.exports.specs.Returned.{no_member, member_seen, members_seen}
use Rattle.exports.specs.Recorded.{cell_returned}

-- the cells of v until v is closed, each with the rate that its slot returned as the one before it
abbrev pub slots_recorded : (v : ℕ) → (member : ℕ → Bool) → List Call → List Observation → List SentCell
slots_recorded v f [] os = []
slots_recorded v f (c ∷ cs) [] = []
slots_recorded v f (c ∷ cs) (o ∷ os) =
    cond (closes_connection v c (eqb o.returned.refusal 0)) [] (at_slot c (λ t. cell_returned v f t o.besides.before o.returned) ++ slots_recorded v (member_seen c o f) cs os)

-- Take any exported calls, an open of a channel or of a path that returned 0, and any further calls. For the octets
-- of the trace abr_judge returns neither a refusal nor a broken rule.
abbrev pub ExportsTraced : Type 0
ExportsTraced =
    (before after : List Call) (c : Call) (v : ℕ) (p : Params) (os ps : List Observation) (o : Observation) (r : AbrVerdict) → Opening c v p → Transcript before zeros os
    → Transcript (c ∷ after) (final_words zeros os) (o ∷ ps) → o.returned.refusal ≡ 0
    → r ≡ judged_of (judged_octets (trace_octets p.n p.trm (trace_cells (slots_recorded v (member_seen c o (members_seen no_member before os)) after ps)))) → (r.refusal ≡ 0) × (r.rule ≡ 0)
