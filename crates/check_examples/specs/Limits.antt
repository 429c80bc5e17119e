-- What the promises on service leave out, and must leave out. Lists of calls, computed from the empty table, go
-- beyond each of them. (Document 01, "Slots"; source rule 3.)
use Rattle.std.specs.Prelude.{ℕ, ◌≡◌, List, [], ◌∷◌}
use Rattle.std.proofs.Math.Option.{Option, none, some}
use Rattle.rate_params.specs.declared.params.Params.{Params}
use Rattle.cell.specs.Fields.{rm_cell}
use Rattle.connection.specs.declared.kind.Kind.{Kind}
use Rattle.connection.specs.declared.kind.Kind.TheVariants.{Forward, Turned, Data}
use Rattle.model.specs.State.{State, empty}
use Rattle.model.specs.Call.{Call, opening, closing, receiving, offering, slot, goes_to, kind_sent}
use Rattle.model.specs.Step.{step}
use Rattle.model.specs.Run.{final}
use Rattle.check_examples.specs.Unstarred.{refused, accepted, next, house}

-- where each call of a list goes, and the kind of cell that it sends
abbrev pub places : State → List Call → List (Option ℕ)
places s [] = []
places s (c ∷ cs) = goes_to (step s c).answer ∷ places (step s c).state cs

abbrev pub kinds : State → List Call → List (Option Kind)
kinds s [] = []
kinds s (c ∷ cs) = kind_sent (step s c).answer ∷ kinds (step s c).state cs

-- two connections are ready at 0; the lower one is closed and opened again behind each of its slots
abbrev pub opened_again : List Call
opened_again =
    slot 0 53 ∷ closing 0 32 ∷ opening 0 32 0 house ∷ offering 0 32 1 ∷ slot 0 53 ∷ closing 0 32 ∷ opening 0 32 0 house ∷ offering 0 32 1 ∷ slot 0 53 ∷ []

abbrev pub both_ready : List Call
both_ready = opening 0 33 0 house ∷ offering 0 33 1 ∷ opening 0 32 0 house ∷ offering 0 32 1 ∷ []

-- 1,000 cells a second with this n and this Trm number, and a forward RM cell of it
abbrev pub contract : (n trm : ℕ) → Params
contract n trm = record { pcr = 0x53E8; mcr = 0x4000; icr = 0x53E8; n = n; r = 4; d = 4; c = 4; tbe = 16_777_215; frtt = 0; adtf = 50; trm = trm }

abbrev pub turnable : Call
turnable = receiving (rm_cell 0 (record { vpi = 0; vci = 33; dir = 0; bn = 0; ci = 0; ni = 0; ra = 0; er = 0x53E8; ccr = 0; mcr = 0; ql = 0; sn = 0 }))

pub record Limits : Type 0 where
  -- of any number of slots none goes to VCI 33, which is ready at each: opens at that very instant count
  pub passed_over : places (final empty both_ready) opened_again ≡ some 32 ∷ none ∷ none ∷ none ∷ some 32 ∷ none ∷ none ∷ none ∷ some 32 ∷ []
  -- at Nrm 2 no data goes while answers come: forward and turned cells take turns
  pub starved :
      kinds (final empty (opening 0 33 0 (contract 1 7) ∷ offering 0 33 9 ∷ []))
      (turnable ∷ slot 0 53 ∷ slot 1_000_000 53 ∷ turnable ∷ slot 2_000_000 53 ∷ slot 3_000_000 53 ∷ turnable ∷ slot 4_000_000 53 ∷ slot 5_000_000 53 ∷ [])
      ≡ none ∷ some Forward ∷ some Turned ∷ none ∷ some Forward ∷ some Turned ∷ none ∷ some Forward ∷ some Turned ∷ []
  -- from Nrm 4 on three in a row can go without data, but not four
  pub three_without :
      kinds (final empty (opening 0 33 0 (contract 2 0) ∷ offering 0 33 9 ∷ []))
      (slot 0 53 ∷ slot 1_000_000 53 ∷ turnable ∷ slot 2_000_000 53 ∷ turnable ∷ slot 3_000_000 53 ∷ slot 4_000_000 53 ∷ slot 5_000_000 53 ∷ [])
      ≡ some Forward ∷ some Data ∷ none ∷ some Turned ∷ none ∷ some Forward ∷ some Turned ∷ some Data ∷ []
  -- a time before an idle slot's is refused behind it, and accepted without it
  pub behind_idle : next (slot 10 53 ∷ []) (opening 0 33 5 house) ≡ refused 14
  pub without_idle : next [] (opening 0 33 5 house) ≡ accepted
