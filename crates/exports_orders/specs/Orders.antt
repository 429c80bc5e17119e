-- Each exported call is refused in the order that the documents give. This is stated by what a caller knows from
-- the calls before it and the numbers that they returned, and by the octets of a cell. (Document 01, "Refused
-- because of the input" and "Refused because of the state"; document 02, each request.)
use Rattle.std.specs.Prelude.{ℕ, ◌+◌, ◌≤◌, ◌<◌, ◌≡◌, ◌≢◌, true, false, List, length}
use Rattle.std.proofs.Math.Option.{Option}
use Rattle.rate.specs.Code.{codes_clear}
use Rattle.rate_params.specs.declared.params.Params.{Params}
use Rattle.rate_params.specs.Params.{params_fit, tbe_fits, frtt_fits}
use Rattle.cell.specs.Name.{address_name}
use Rattle.cell.specs.Reading.{reading}
use Rattle.connection_members.specs.Path.{is_path, path_of}
use Rattle.model.specs.State.{capacity}
use Rattle.model.specs.Call.{Call, opening, closing, receiving, offering, levelling, slot, making, out_of_rate, opening_path, adding, offering_member, removing}
use Rattle.model.specs.Orders.{Asks, Accepts, Rested}
use Rattle.abr_answers.specs.declared.cells.AbrCell.{AbrCell}
use Rattle.abr_answers.specs.Cells.{cell_of}
use Rattle.abr.specs.Exports.{Observation, Performs, Transcript, final_words, zeros}
use Rattle.exports.specs.Along.{kept}
use Rattle.exports.specs.Returned.{no_member, members_seen}
use Rattle.exports.specs.Known.{Opened}
use Rattle.exports.specs.LastTime.{last_time}
use Rattle.exports.specs.Conservation.{offers_observed, slots_observed, closes_observed}
use Rattle.exports.specs.Orders.{refusal_returned}
use Rattle.exports_cells.specs.Taken.{ConnectionOpen}
use Rattle.exports_service.specs.Fairness.{cells_seen, no_cells}
use Rattle.exports_progress.specs.PassedOver.{counts_open}
use Rattle.exports_orders.specs.Noted.{level_noted, names_noted, instants_noted}
use Rattle.exports_orders.specs.ReadOrder.{ReadOrder, read_returned}

module _ (cs : List Call) (os : List Observation) where
  -- every open, of a channel or of the path of a VPI
  abbrev pub OpenAddressSeen : (vpi vci time : ℕ) → Params → Option ℕ → Type 0
  OpenAddressSeen vpi vci t p =
      Asks 19 (codes_clear p.pcr p.mcr p.icr ≡ true)
      (Asks 7 ((vpi ≤ 255) × (vci ≤ 65_535) × (params_fit p ≡ true))
      (Asks 29 (tbe_fits p ≡ true)
      (Asks 30 (frtt_fits p ≡ true)
      (Asks 8 (t ≤ 4_611_686_018_427_387_904)
      (Asks 12 (Opened cs os (address_name vpi vci) → ⊥)
      (Asks 27 (members_seen no_member cs os (address_name vpi vci) ≡ false)
      (Asks 13 (kept counts_open 0 cs os < capacity)
      (Asks 14 (last_time cs os ≤ t)
      Accepts))))))))

  -- a member's offer and removal
  abbrev pub MemberOrder : (vpi vci : ℕ) → (Option ℕ → Type 0) → Option ℕ → Type 0
  MemberOrder vpi vci Rest =
      Asks 11 (Opened cs os (address_name vpi 6))
      (Asks 28 ((vpi ≤ 255) × (vci ≤ 65_535) × (members_seen no_member cs os (address_name vpi vci) ≡ true))
      Rest)

  abbrev pub OrderSeen : Call → Option ℕ → Type 0
  OrderSeen (opening vpi vci t p) = Asks 10 (32 ≤ vci) (OpenAddressSeen vpi vci t p)
  OrderSeen (closing vpi vci) = Asks 11 (Opened cs os (address_name vpi vci)) Accepts
  OrderSeen (receiving octets) = ReadOrder octets (Asks 11 (ConnectionOpen cs os octets) Accepts)
  -- the cells that wait are those offered, less those that slots sent and closes returned
  OrderSeen (offering vpi vci n) =
      Asks 11 (Opened cs os (address_name vpi vci))
      (Asks 28 (is_path (address_name vpi vci) ≡ false)
      (Asks 15 (offers_observed (address_name vpi vci) cs os + n ≤ 65_535 + slots_observed (address_name vpi vci) cs os + closes_observed (address_name vpi vci) cs os)
      Accepts))
  OrderSeen (levelling l) = Asks 9 (l ≤ 2) Accepts
  OrderSeen (slot t room) = Asks 1 (room ≡ 53) (Asks 8 (t ≤ 4_611_686_018_427_387_904) (Asks 14 (last_time cs os ≤ t) Accepts))
  OrderSeen (making vpi vci t) =
      Asks 8 (t ≤ 4_611_686_018_427_387_904)
      (Asks 11 (Opened cs os (address_name vpi vci))
      (Asks 14 (last_time cs os ≤ t)
      (Asks 16 (level_noted cs os ≢ 0)
      (Asks 17 (Rested t (instants_noted (address_name vpi vci) cs os).made)
      Accepts))))
  OrderSeen (out_of_rate vpi vci t room) =
      Asks 1 (room ≡ 53)
      (Asks 8 (t ≤ 4_611_686_018_427_387_904)
      (Asks 11 (Opened cs os (address_name vpi vci))
      (Asks 14 (last_time cs os ≤ t)
      (Asks 18 (Rested t (instants_noted (address_name vpi vci) cs os).out_of_rate)
      Accepts))))
  OrderSeen (opening_path vpi t p) = OpenAddressSeen vpi 6 t p
  OrderSeen (adding vpi vci) =
      Asks 10 (32 ≤ vci)
      (Asks 11 (Opened cs os (path_of (address_name vpi vci)))
      (Asks 12 (Opened cs os (address_name vpi vci) → ⊥)
      (Asks 27 (members_seen no_member cs os (address_name vpi vci) ≡ false)
      (Asks 26 (length (names_noted cs os) < 256)
      Accepts))))
  OrderSeen (offering_member vpi vci n) = MemberOrder vpi vci (Asks 15 (kept cells_seen no_cells cs os (address_name vpi vci) + n ≤ 65_535) Accepts)
  OrderSeen (removing vpi vci) = MemberOrder vpi vci Accepts

-- after any exported calls from the zero table, one call more; and abr_read of any octets
pub record ExportsOrders : Type 0 where
  pub calls :
      (cs : List Call) (os : List Observation) → Transcript cs zeros os → (c : Call) (o : Observation) → Performs c (final_words zeros os) o
      → OrderSeen cs os c (refusal_returned o.returned)
  pub reads : (octets : List ℕ) (r : AbrCell) → r ≡ cell_of (reading octets) → ReadOrder octets Accepts (read_returned r)
