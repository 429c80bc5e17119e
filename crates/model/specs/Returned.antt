-- What the code of a call returns, as the answer of the documents that it stands for: a refusal by its number.
use Rattle.std.specs.Prelude.{ℕ, Option, Some, None, Result, Ok, Err}
use Rattle.laws.specs.declared.refusals.Refusal.{Refusal}
use Rattle.laws.specs.Refusals.{number}
use Rattle.model.specs.declared.answers.Closed.{Closed as ClosedOne}
use Rattle.model.specs.declared.answers.Opened.{Opened as OpenedOne}
use Rattle.model.specs.declared.answers.Received.{Received as ReceivedOne}
use Rattle.model.specs.declared.answers.Sent.{Sent as SentOne}
use Rattle.model.specs.declared.readings.Allowed.{Allowed}
use Rattle.model.specs.declared.readings.Codes.{Codes as CodesGiven}
use Rattle.model.specs.declared.readings.Member.{Member}
use Rattle.model.specs.Answers.{Answer, Refused, Accepted, Closed, OpenAnswer, OpenRefused, Opened, ReceiveAnswer, ReceiveRefused, Received, SlotAnswer, SlotRefused, IdleSlot, SentCell, Acr, NotOpen, Rate, Contract, NoContract, Codes, MemberStatus, NoMember, AMember}

-- a call that makes no comparisons
abbrev pub done_as : Result Unit Refusal → Answer
done_as (Ok u) = Accepted 0
done_as (Err r) = Refused (number r)

-- a call that returns its comparisons
abbrev pub accepted_as : Result ℕ Refusal → Answer
accepted_as (Ok n) = Accepted n
accepted_as (Err r) = Refused (number r)

abbrev pub closed_as : Result ClosedOne Refusal → Answer
closed_as (Ok c) = Closed c.comparisons c.cells
closed_as (Err r) = Refused (number r)

abbrev pub opened_as : Result OpenedOne Refusal → OpenAnswer
opened_as (Ok o) = Opened o.comparisons o.leaf
opened_as (Err r) = OpenRefused (number r)

abbrev pub received_as : Result ReceivedOne Refusal → ReceiveAnswer
received_as (Ok c) = Received c.comparisons c.kind c.name c.leaf c.acr
received_as (Err r) = ReceiveRefused (number r)

-- a slot that is not refused: None is an idle one
abbrev pub sent_cell_as : SentOne → SlotAnswer
sent_cell_as c = SentCell c.name c.kind c.acr c.comparisons c.leaf c.acr_before c.made

abbrev pub slot_as : Option SentOne → SlotAnswer
slot_as None = IdleSlot
slot_as (Some c) = sent_cell_as c

abbrev pub sent_as : Result (Option SentOne) Refusal → SlotAnswer
sent_as (Ok x) = slot_as x
sent_as (Err r) = SlotRefused (number r)

-- the readings, whose only refusal is 11
abbrev pub allowed_as : Option Allowed → Acr
allowed_as None = NotOpen
allowed_as (Some a) = Rate a.acr a.change

abbrev pub codes_as : Option CodesGiven → Contract
codes_as None = NoContract
codes_as (Some k) = Codes k.pcr k.mcr k.icr

abbrev pub member_as : Option Member → MemberStatus
member_as None = NoMember
member_as (Some m) = AMember m.name m.waiting
