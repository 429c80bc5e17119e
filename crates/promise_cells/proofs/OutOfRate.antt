-- An out-of-rate cell changes nothing but its own instant and the time.
use Rattle.std.specs.Prelude.{Some}
use Prim.Native.Nat.{ℕ, zero, suc, ◌≤◌, ◌<◌}
use mathlib.Core.Path.{◌≡◌, refl, sym, ap, subst, ◌∙◌}
use mathlib.Core.Bool.{true}
use mathlib.Core.List.{List, [], ◌∷◌}
use native.Mathlib.Nat.{le_refl, le_trans}
use native.Mathlib.Omega.{arith}
use lib.Dec.{lit≤}
use lib.ListN.{get_or, set}
use borrow.Author.Tests.{eq-eqb}
use Rattle.rate.specs.Units.{largest_rate}
use Rattle.rate.specs.Code.{code_below, code_of}
use Rattle.rate.proofs.Codes.{rate-le}
use Rattle.cell.specs.Name.{no_name, address_name}
use Rattle.cell.specs.Fields.{rm_cell}
use Rattle.cell.proofs.Written.{read-written}
use Rattle.connection.specs.declared.parts.Connection.{Connection}
use Rattle.connection.specs.Parts.{with_out_of_rate}
use Rattle.connection.specs.Interval.{rested}
use Rattle.connection.specs.Source.{forward_fields, after_out_of_rate, out_of_rate_cell}
use Rattle.connection.specs.Slot.{after, written}
use Rattle.connection.proofs.SourceCases.{forward-fits}
use Rattle.connection.proofs.Readiness.{ready-out-of-rate}
use Rattle.model.specs.State.{State, Entry, free, taken, empty, position, holds, find, with_entry_of, with_time}
use Rattle.model.specs.Invariant.{WellFormed}
use Rattle.model.specs.Winner.{candidate_from, candidate, winner}
use Rattle.model.specs.Call.{out_of_rate, Outcome}
use Rattle.model.specs.Step.{refuse, send_out_of_rate}
use Rattle.model.specs.Run.{final, is_accepted, entry_rate}
use Rattle.model.proofs.Frames.{name_of, put-read, put-kept}
use Rattle.model.proofs.Preserved.{valid-at}
use Rattle.model.proofs.Effects.{Effect, refuses, sends_out_of_rate, effect}
use Rattle.model.proofs.Reached.{reached-well-formed}
use Rattle.promise_cells.specs.OutOfRate.{ready_in, ForwardWritten, OutOfRateChange, OutOfRateAlone, OutOfRateSpaced}
use Rattle.promise_lists.proofs.Interference.{put_other}
use Rattle.promise_cells.proofs.Kept.{Has}
use Rattle.promise_cells.proofs.Spaced.{out_of_rate_sent, Since, Counts, named-below, rested-since, apart}

-- The cell.
zero-code : code_of 0 ≡ 0
unfolding code_of code_below
zero-code = refl

forward-written : (v : ℕ) (c : Connection) → c.name ≡ v → v < no_name → c.rate.acr ≤ largest_rate → ForwardWritten v c.rate (written (out_of_rate_cell c))
unfolding out_of_rate_cell forward_fields
forward-written v c e l h = record {
  octets = ap (λ (n : ℕ). written (rm_cell 1 (forward_fields n c.rate))) e;
  read = read-written 1 (forward_fields v c.rate) (lit≤ tt) (forward-fits v c.rate l h);
  no_minimum = λ z. ap code_of z ∙ zero-code;
}

-- Slots.
winner-set : (x : ℕ) (e : Entry) (ss : List Entry) (i : ℕ) → candidate x e ≡ candidate x (get_or ss i free) → winner x (set ss i e) ≡ winner x ss
unfolding winner
winner-set x e [] i h = refl
winner-set x e (s ∷ ss) zero h = rw h
winner-set x e (s ∷ ss) (suc i) h = rw (winner-set x e ss i h)

put-winner : (x v : ℕ) (e : Entry) (s : State) → candidate x e ≡ candidate x (find v s.entries) → winner x (with_entry_of v e s).entries ≡ winner x s.entries
unfolding with_entry_of find
put-winner x v e s h = winner-set x e s.entries (position (holds v) s.entries) h

-- The connection.
candidate-kept : (x t : ℕ) (c : Connection) → candidate x (taken (after_out_of_rate t c)) ≡ candidate x (taken c)
unfolding candidate after_out_of_rate
candidate-kept x t c = ap (candidate_from x c.name) (ready-out-of-rate t c)

effect-alone :
    {s : State} → WellFormed s → (vpi vci t room : ℕ) {o : Outcome} → Effect s (out_of_rate vpi vci t room) o → is_accepted o.answer ≡ true
    → OutOfRateChange s (address_name vpi vci) t o
unfolding refuse is_accepted send_out_of_rate with_time with_entry_of after_out_of_rate entry_rate
effect-alone w vpi vci t room (refuses _ n h) a = let z : ◌≡◌ {A = ℕ} 0 1 = cc in absurd (omega arith)
effect-alone {s} w vpi vci t room (sends_out_of_rate _ _ _ _ d f g h) a =
    let v : ℕ = address_name vpi vci in
    let e = after_out_of_rate t d in
    let r : State = with_time t s in
    let n = name_of v s d f in
    let k = valid-at w v d f in
    record {
      holder = d;
      found = f;
      rested = rested-since t d.out_of_rate h;
      cell = forward-written v d n (named-below w v d f) (le_trans k.1.rates.below (rate-le d.rate.params.pcr));
      own = put-read (λ (x : Entry). x) v v r w.unique d e f refl ∙ rw (eq-eqb v v refl) refl;
      others = λ u q. put_other u v r w.unique d e f refl (λ z. q (sym (cc)));
      level = refl;
      members = refl;
      time = refl;
      rates = λ u. put-kept entry_rate u v r w.unique d e f refl refl;
      ready = λ u. put-kept ready_in u v r w.unique d e f refl (ready-out-of-rate t d);
      slots = λ x. put-winner x v (taken e) r (candidate-kept x t d ∙ sym (ap (candidate x) f));
    }

pub out-of-rate-alone : OutOfRateAlone
out-of-rate-alone cs vpi vci t room a =
    let w = reached-well-formed cs in effect-alone w vpi vci t room (effect (final empty cs) w.unique (out_of_rate vpi vci t room)) a

-- At most ten a second.
effect-counts :
    {s : State} → WellFormed s → (vpi vci t room : ℕ) {o : Outcome} → Effect s (out_of_rate vpi vci t room) o → is_accepted o.answer ≡ true
    → Counts out_of_rate_sent (address_name vpi vci) t s o
effect-counts w vpi vci t room x a =
    let z = effect-alone w vpi vci t room x a in
    let now : Since out_of_rate_sent t (with_out_of_rate z.holder (Some t)) = record { instant = t; at = refl; since = le_refl t } in
    record { holder = z.holder; found = z.found; rested = z.rested; after = subst (Has (Since out_of_rate_sent t)) (sym z.own) now }

pub out-of-rate-spaced : OutOfRateSpaced
out-of-rate-spaced cs ds vpi vci t room later later_room = apart out_of_rate_sent cs ds vpi vci t later (out_of_rate vpi vci t room) (out_of_rate vpi vci later later_room)
    (λ s w. effect-counts w vpi vci t room (effect s w.unique _)) (λ s w. effect-counts w vpi vci later later_room (effect s w.unique _))
