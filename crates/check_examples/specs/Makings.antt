-- The call that makes a backward cell at work, computed from the empty table. (Document 02, L1.)
use Rattle.std.specs.Prelude.{ℕ, ◌≡◌, List, [], ◌∷◌}
use Rattle.cell.specs.Fields.{rm_cell}
use Rattle.connection.specs.declared.kind.Kind.TheVariants.{Forward, Turned}
use Rattle.connection.specs.Slot.{Buffer, written}
use Rattle.model.specs.State.{empty}
use Rattle.model.specs.Call.{Call, opening, receiving, levelling, slot, making}
use Rattle.model.specs.Step.{step}
use Rattle.model.specs.Run.{final}
use Rattle.check_examples.specs.Unstarred.{refused, accepted, sent, next, house}

-- VCI 33 is open, at this level
abbrev pub open33 : (level : ℕ) → List Call
open33 l = opening 0 33 0 house ∷ levelling l ∷ []

-- a cell made at 5 ns, at level 1
abbrev pub made : List Call
made = opening 0 33 0 house ∷ levelling 1 ∷ making 0 33 5 ∷ []

-- an RM cell of VCI 33 with these bits and this ER
abbrev pub rm : (dir bn ni er : ℕ) → List ℕ
rm dir bn ni er = rm_cell 0 (record { vpi = 0; vci = 33; dir = dir; bn = bn; ci = 0; ni = ni; ra = 0; er = er; ccr = 0; mcr = 0; ql = 0; sn = 0 })

-- and the level falls to 0
abbrev pub relieved : List Call
relieved = opening 0 33 0 house ∷ levelling 1 ∷ making 0 33 5 ∷ levelling 0 ∷ []

-- The level falls to 0 and a forward cell comes, so a turned and a made cell wait. Then the first
-- cell goes, which is a forward one.
abbrev pub both_wait : List Call
both_wait = opening 0 33 0 house ∷ levelling 1 ∷ making 0 33 5 ∷ levelling 0 ∷ receiving (rm 0 0 0 0x4A00) ∷ slot 5 53 ∷ []

abbrev pub sent_turned_calls : List Call
sent_turned_calls = opening 0 33 0 house ∷ levelling 1 ∷ making 0 33 5 ∷ levelling 0 ∷ receiving (rm 0 0 0 0x4A00) ∷ slot 5 53 ∷ slot 1_000_005 53 ∷ []

-- a cell made at level 2, behind the first cell
abbrev pub made_marked : List Call
made_marked = opening 0 33 0 house ∷ levelling 2 ∷ making 0 33 5 ∷ slot 5 53 ∷ []

-- what the next slot writes
abbrev pub wrote : List Call → ℕ → Buffer
wrote cs t = (step (final empty cs) (slot t 53)).buffer

pub record Makings : Type 0 where
  -- the refusals 11, 16, 14 and 17, and exactly 100 ms
  pub not_open : next [] (making 0 33 0) ≡ refused 11
  pub uncongested : next (open33 0) (making 0 33 0) ≡ refused 16
  pub congested : next (open33 1) (making 0 33 5) ≡ accepted
  pub earlier : next made (making 0 33 4) ≡ refused 14
  pub soon : next made (making 0 33 100_000_004) ≡ refused 17
  pub rested : next made (making 0 33 100_000_005) ≡ accepted
  -- their order, where two apply
  pub late_not_open : next [] (making 0 33 4_611_686_018_427_387_905) ≡ refused 8
  pub not_open_earlier : next made (making 0 34 4) ≡ refused 11
  pub earlier_uncongested : next relieved (making 0 33 4) ≡ refused 14
  pub uncongested_soon : next relieved (making 0 33 6) ≡ refused 16
  -- Its time counts for a slot. Only a made cell waits. The connection is ready from its opening
  -- on, with a forward cell first.
  pub slot_earlier : next made (slot 4 53) ≡ refused 14
  pub first_cell : next made (slot 5 53) ≡ sent 33 Forward 512_000
  -- the turned cell goes first, then the made one, with the mark of its making
  pub turned_first : (next both_wait (slot 1_000_005 53) ≡ sent 33 Turned 512_000) × (wrote both_wait 1_000_005 ≡ written (rm 1 0 0 0x4A00))
  pub made_next : (next sent_turned_calls (slot 2_000_005 53) ≡ sent 33 Turned 512_000) × (wrote sent_turned_calls 2_000_005 ≡ written (rm 1 1 1 0x53E8))
  -- a made cell has CI at level 2, as NI at level 1
  pub made_at_level2 : wrote made_marked 1_000_005 ≡ written (rm_cell 0 (record { vpi = 0; vci = 33; dir = 1; bn = 1; ci = 1; ni = 0; ra = 0; er = 0x53E8; ccr = 0; mcr = 0; ql = 0; sn = 0 }))
