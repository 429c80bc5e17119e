-- Exported calls are refused in their order, by what a caller knows. This is the order by the state, with each
-- condition in the caller's words.
use Prim.Native.Nat.{ℕ, ◌+◌, ◌≤◌, ◌<◌}
use mathlib.Core.Path.{◌≡◌, refl, sym, ap, subst, ◌∙◌}
use mathlib.Core.Logic.{◌≢◌}
use mathlib.Core.Bool.{Bool, true, false, cond, true≢false}
use mathlib.Core.List.{List}
use mathlib.Core.Option.{Option}
use native.Mathlib.Omega.{arith}
use Rattle.rate_params.specs.declared.params.Params.{Params}
use Rattle.cell.specs.Name.{address_name}
use Rattle.cell.specs.Header.{vpi_of, vci_of, type_of}
use Rattle.cell.specs.Fields.{fields_of}
use Rattle.cell.specs.Reading.{reading}
use Rattle.cell.specs.Read.{DataCell, RmCell}
use Rattle.connection_members.specs.Path.{is_path, path_of}
use Rattle.connection_members.specs.Members.{is_member, cells_of, owner}
use Rattle.model.specs.State.{State, Entry, free, taken, capacity, empty, is_free, find, entry_cells}
use Rattle.model.specs.Invariant.{WellFormed}
use Rattle.model.specs.Call.{Call, opening, closing, receiving, offering, levelling, slot, making, out_of_rate, opening_path, adding, offering_member, removing}
use Rattle.model.specs.Run.{final}
use Rattle.model.specs.Orders.{Asks, refused, passed, Accepts, Rested, last_made, last_out_of_rate, OpenAddressOrder, ReceiveOrder, OrderOf}
use Rattle.model.proofs.Effects.{is_free_lem}
use Rattle.model.proofs.Reached.{reached-well-formed}
use Rattle.abr.specs.Exports.{Observation, Transcript, zeros}
use Rattle.exports.specs.Along.{kept}
use Rattle.exports.specs.Returned.{no_member, members_seen}
use Rattle.exports.specs.Known.{Opened, name_in}
use Rattle.exports.specs.LastTime.{last_time}
use Rattle.exports.specs.Conservation.{offers_observed, slots_observed, closes_observed}
use Rattle.exports.specs.Orders.{refusal_returned}
use Rattle.exports.proofs.Known.{members-known, is_open_lem, known-open}
use Rattle.exports.proofs.LastTime.{last-time}
use Rattle.exports.proofs.Conservation.{exports-conservation}
use Rattle.exports.proofs.Orders.{exports-in-order}
use Rattle.exports.proofs.Transport.{stands-first, kept-so}
use Rattle.exports_cells.specs.Taken.{ConnectionOpen, channel, member, rm}
use Rattle.exports_cells.proofs.Taken.{member-channel, open-no-member}
use Rattle.exports_service.specs.Fairness.{cells_seen, no_cells}
use Rattle.exports_service.proofs.MemberCells.{Counts, counts, none-count}
use Rattle.exports_orders.specs.Noted.{instants_noted, Instants}
use Rattle.exports_orders.specs.ReadOrder.{ReadOrder}
use Rattle.exports_orders.specs.Orders.{OpenAddressSeen, MemberOrder, OrderSeen, ExportsOrders}
use Rattle.exports_orders.proofs.Noted.{level-noted, members-noted, instants-noted}
use Rattle.exports_orders.proofs.OpenCount.{open-noted}
use Rattle.exports_orders.proofs.ReadOrder.{read-order, reads-in-order}

-- two conditions that say the same
record Equivalent (P Q : Type 0) : Type 0 where
  to : P → Q
  from : Q → P

asks : {n : ℕ} {P Q : Type 0} {R S : Option ℕ → Type 0} {r : Option ℕ} → Equivalent P Q → (R r → S r) → Asks n P R r → Asks n Q S r
asks e h (refused x) = refused (λ q. x (e.from q))
asks e h (passed p y) = passed (e.to p) (h y)

itself : {P : Type 0} → Equivalent P P
itself = record { to = λ p. p; from = λ p. p }

by-equation : {A : Type 0} (P : A → Type 0) {x y : A} → x ≡ y → Equivalent (P x) (P y)
by-equation P e = record { to = subst P e; from = subst P (sym e) }

not_free : (x : Entry) → x ≢ free → is_free x ≡ false
unfolding is_free
not_free free h = absurd (h refl)
not_free (taken c) h = refl

module _ (cs : List Call) (os : List Observation) (t : Transcript cs zeros os) where
  abbrev now : State
  now = final empty cs

  opened : (v : ℕ) → Equivalent (find v now.entries ≢ free) (Opened cs os v)
  unfolding is_free
  opened v = record {
    to = λ h. known-open cs os t v (not_free (find v now.entries) h);
    from = λ h e. true≢false (sym (ap is_free e) ∙ is_open_lem cs os t v h);
  }

  unopened : (v : ℕ) → Equivalent (find v now.entries ≡ free) (Opened cs os v → ⊥)
  unopened v = record { to = λ e h. (opened v).from h e; from = λ n. is_free_lem (find v now.entries) (go (is_free (find v now.entries)) refl n) }
    where
      go : (b : Bool) → is_free (find v now.entries) ≡ b → (Opened cs os v → ⊥) → b ≡ true
      go true e n = refl
      go false e n = absurd (n (known-open cs os t v e))

  known_member : (x : ℕ) (b : Bool) → Equivalent (is_member x now.members ≡ b) (members_seen no_member cs os x ≡ b)
  known_member x b = by-equation (λ (y : Bool). y ≡ b) (sym (members-known cs os t x))

  since : (u : ℕ) → Equivalent (now.last ≤ u) (last_time cs os ≤ u)
  since u = by-equation (λ (l : ℕ). l ≤ u) (sym (last-time cs os t))

  waits : (v n : ℕ) → Equivalent (entry_cells (find v now.entries) + n ≤ 65535) (offers_observed v cs os + n ≤ 65535 + slots_observed v cs os + closes_observed v cs os)
  waits v n =
      let b : offers_observed v cs os ≡ slots_observed v cs os + entry_cells (find v now.entries) + closes_observed v cs os = exports-conservation.balance cs os t v in
      record { to = λ h. omega (arith, b, h); from = λ h. omega (arith, b, h) }

  member_waits : (x n : ℕ) → Equivalent (cells_of x now.members + n ≤ 65535) (kept cells_seen no_cells cs os x + n ≤ 65535)
  member_waits x n =
      by-equation (λ (f : ℕ → ℕ). f x + n ≤ 65535) (sym (kept-so cells_seen Counts counts empty zeros stands-first no_cells none-count cs os t))

  made : (v u : ℕ) → Equivalent (Rested u (last_made (find v now.entries))) (Rested u (instants_noted v cs os).made)
  made v u = by-equation (λ (i : Instants). Rested u i.made) (sym (instants-noted v cs os t))

  out_of_rate_since : (v u : ℕ) → Equivalent (Rested u (last_out_of_rate (find v now.entries))) (Rested u (instants_noted v cs os).out_of_rate)
  out_of_rate_since v u = by-equation (λ (i : Instants). Rested u i.out_of_rate) (sym (instants-noted v cs os t))

  within : {a b : Type 0} {P Q : Type 0} → Equivalent P Q → Equivalent (a × b × P) (a × b × Q)
  within e = record { to = λ h. (h.0, h.1, e.to h.2); from = λ h. (h.0, h.1, e.from h.2) }

  admits : (a b u : ℕ) (p : Params) (r : Option ℕ) → OpenAddressOrder now a b u p r → OpenAddressSeen cs os a b u p r
  admits a b u p r =
      asks itself (asks itself (asks itself (asks itself (asks itself
      (asks (unopened (address_name a b))
      (asks (known_member (address_name a b) false)
      (asks (by-equation (λ (n : ℕ). n < capacity) (sym (open-noted cs os t)))
      (asks (since u) (λ h. h)))))))))

  -- a received cell
  module _ (o : List ℕ) where
    abbrev name : ℕ
    name = name_in o

    w : WellFormed now
    w = reached-well-formed cs

    -- of data: no path's own name, and the connection that the data belongs to
    no-path : type_of o ≤ 3 → ConnectionOpen cs os o → is_path name ≡ false
    no-path l (channel k i h) = i
    no-path l (member k m h) = member-channel w name ((known_member name true).from m)
    no-path l (rm k h) = absurd (omega (arith, l, k))

    owned : type_of o ≤ 3 → ConnectionOpen cs os o → find (owner name now.members) now.entries ≢ free
    unfolding owner
    owned l (channel k i h) = rw (open-no-member w name (is_open_lem cs os t name h)) ((opened name).from h)
    owned l (member k m h) = rw ((known_member name true).from m) ((opened (path_of name)).from h)
    owned l (rm k h) = absurd (omega (arith, l, k))

    owner-open : type_of o ≤ 3 → is_path name ≡ false → find (owner name now.members) now.entries ≢ free → ConnectionOpen cs os o
    unfolding owner
    owner-open l i h = go (is_member name now.members) refl h
      where
        go : (b : Bool) → is_member name now.members ≡ b → find (cond b (path_of name) name) now.entries ≢ free → ConnectionOpen cs os o
        go true m q = member l ((known_member name true).to m) ((opened (path_of name)).to q)
        go false m q = channel l i ((opened name).to q)

    of-data : (e : Bool) (r : Option ℕ) → type_of o ≤ 3 → ReceiveOrder now (DataCell (vpi_of o) (vci_of o) e) r → Asks 11 (ConnectionOpen cs os o) Accepts r
    of-data e r l (refused x) = refused (λ q. x (no-path l q))
    of-data e r l (passed p (refused x)) = refused (λ q. x (owned l q))
    of-data e r l (passed p (passed q a)) = passed (owner-open l p q) a

    of-rm : (r : Option ℕ) → type_of o ≡ 6 → ReceiveOrder now (RmCell (fields_of o)) r → Asks 11 (ConnectionOpen cs os o) Accepts r
    unfolding fields_of
    of-rm r k h = asks (record { to = λ q. rm k ((opened name).to q); from = back }) (λ a. a) h
      where
        back : ConnectionOpen cs os o → find name now.entries ≢ free
        back (channel l i q) = absurd (omega (arith, l, k))
        back (member l m q) = absurd (omega (arith, l, k))
        back (rm l q) = (opened name).from q

    receives : (r : Option ℕ) → ReceiveOrder now (reading o) r → ReadOrder o (Asks 11 (ConnectionOpen cs os o) Accepts) r
    receives r h = read-order o (ReceiveOrder now) (Asks 11 (ConnectionOpen cs os o) Accepts) r (λ n l e. e) (λ l e q. of-data e r l q) (of-rm r) h

  of-member :
      (a b : ℕ) {R S : Option ℕ → Type 0} (r : Option ℕ) → (R r → S r)
      → Asks 11 (find (address_name a 6) now.entries ≢ free) (Asks 28 ((a ≤ 255) × (b ≤ 65535) × (is_member (address_name a b) now.members ≡ true)) R) r → MemberOrder cs os a b S r
  of-member a b r f h = asks (opened (address_name a 6)) (asks (within (known_member (address_name a b) true)) f) h

  order : (c : Call) (r : Option ℕ) → OrderOf now c r → OrderSeen cs os c r
  order (opening a b u p) r h = asks itself (admits a b u p r) h
  order (closing a b) r h = asks (opened (address_name a b)) (λ y. y) h
  order (receiving o) r h = receives o r h
  order (offering a b n) r h = asks (opened (address_name a b)) (asks itself (asks (waits (address_name a b) n) (λ y. y))) h
  order (levelling l) r h = h
  order (slot u room) r h = asks itself (asks itself (asks (since u) (λ y. y))) h
  order (making a b u) r h =
      asks itself
      (asks (opened (address_name a b))
      (asks (since u)
      (asks (by-equation (λ (l : ℕ). l ≢ 0) (sym (level-noted cs os t)))
      (asks (made (address_name a b) u) (λ y. y))))) h
  order (out_of_rate a b u room) r h = asks itself (asks itself (asks (opened (address_name a b)) (asks (since u) (asks (out_of_rate_since (address_name a b) u) (λ y. y))))) h
  order (opening_path a u p) r h = admits a 6 u p r h
  order (adding a b) r h =
      asks itself
      (asks (opened (path_of (address_name a b)))
      (asks (unopened (address_name a b))
      (asks (known_member (address_name a b) false)
      (asks (by-equation (λ (n : ℕ). n < 256) (sym (members-noted cs os t))) (λ y. y))))) h
  order (offering_member a b n) r h = of-member a b r (asks (member_waits (address_name a b) n) (λ y. y)) h
  order (removing a b) r h = of-member a b r (λ y. y) h

pub exports-orders : ExportsOrders
exports-orders = record { calls = λ cs os t c o p. order cs os t c (refusal_returned o.returned) (exports-in-order cs os t c o p); reads = reads-in-order }
