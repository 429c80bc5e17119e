-- The pairs of demand 3 are not empty. Two lists meet both of its conditions, and differ in a backward cell and
-- after it in the rate. So do lists with a path, its member and a made cell, where the rate falls to 0.
use Rattle.std.specs.Prelude.{ℕ, ◌≡◌, List, [], ◌∷◌, ◌++◌, take}
use Rattle.std.proofs.Math.Option.{Option, some}
use Rattle.rate_params.specs.Params.{house_set}
use Rattle.cell.specs.Fields.{rm_cell}
use Rattle.model.specs.State.{empty}
use Rattle.model.specs.Call.{Call, opening, receiving, offering, levelling, slot, making, opening_path, adding, offering_member, goes_to}
use Rattle.model.specs.Step.{step}
use Rattle.model.specs.Run.{run, final, allowed}
use Rattle.promise_lists.specs.Demand3.{InPlace, Comparable, SamePlace}

-- a backward cell of a pair, with this CI and this ER
abbrev pub backward_octets : (vpi vci ci er : ℕ) → List ℕ
backward_octets vpi vci ci er = rm_cell 0 (record { vpi = vpi; vci = vci; dir = 1; bn = 0; ci = ci; ni = 0; ra = 0; er = er; ccr = 0; mcr = 0; ql = 0; sn = 0 })

-- no marks; and CI 1 with a lower ER
abbrev pub unmarked : List ℕ
unmarked = backward_octets 0 33 0 0x53E8

abbrev pub congested_cell : List ℕ
congested_cell = backward_octets 0 33 1 0x4A00

-- open, offer, a forward cell, the backward cell, a data cell
abbrev pub calls : List ℕ → List Call
calls o = opening 0 33 1000 (house_set 0x53E8 0x4000 0x4A00) ∷ offering 0 33 9 ∷ slot 1000 53 ∷ receiving o ∷ slot 34_000_000 53 ∷ []

-- and of the path of VPI 1: no marks; and CI 1 with an ER of 0
abbrev pub path_unmarked : List ℕ
path_unmarked = backward_octets 1 6 0 0x53E8

abbrev pub path_stopped : List ℕ
path_stopped = backward_octets 1 6 1 0x0000

-- a path without a minimum, a member with data, a forward cell, a made cell that goes in the next slot, a channel,
-- the backward cell, and a slot, which goes to the channel
abbrev pub path_start : List Call
path_start =
    opening_path 1 1000 (house_set 0x53E8 0x0000 0x4A00) ∷ adding 1 40 ∷ offering_member 1 40 9 ∷ slot 1000 53 ∷ levelling 2 ∷ making 1 6 2000 ∷ slot 34_000_000 53
    ∷ opening 0 33 34_000_000 (house_set 0x53E8 0x4000 0x4A00) ∷ offering 0 33 1 ∷ []

abbrev pub path_calls : List ℕ → List Call
path_calls o = path_start ++ (receiving o ∷ slot 34_000_001 53 ∷ [])

-- where the last slot goes
abbrev pub last_slot : List ℕ → Option ℕ
last_slot o = goes_to (step (final empty (path_start ++ (receiving o ∷ []))) (slot 34_000_001 53)).answer

pub record Witness : Type 0 where
  pub comparable : InPlace Comparable (calls unmarked) (calls congested_cell)
  pub same_place : InPlace SamePlace (run empty (calls unmarked)) (run empty (calls congested_cell))
  pub above : allowed 33 (final empty (calls unmarked)) ≡ some 48384
  pub under : allowed 33 (final empty (calls congested_cell)) ≡ some 15360
  pub path_comparable : InPlace Comparable (path_calls path_unmarked) (path_calls path_stopped)
  pub path_same_place : InPlace SamePlace (run empty (path_calls path_unmarked)) (run empty (path_calls path_stopped))
  pub path_above : allowed 65_542 (final empty (path_calls path_unmarked)) ≡ some 48384
  pub path_at_zero : allowed 65_542 (final empty (path_calls path_stopped)) ≡ some 0
  -- the made cell went, and the channel had the last slot
  pub made_sent : goes_to (step (final empty (take 6 path_start)) (slot 34_000_000 53)).answer ≡ some 65_542
  pub channel_served : last_slot path_stopped ≡ some 33
