-- Who goes next among the members of a path, of exported calls.
use Prim.Native.Nat.{ℕ, ◌+◌, ◌≤◌, ◌<◌}
use mathlib.Core.Path.{◌≡◌, refl, sym, ap, ◌∙◌}
use mathlib.Core.Bool.{true}
use mathlib.Core.List.{List}
use mathlib.Core.Logic.{by_cases}
use mathlib.Core.Option.{Option, none, some}
use native.Mathlib.Decide.{dec_lt}
use native.Mathlib.Omega.{arith}
use Rattle.cell.specs.Name.{name_from, vpi_in, vci_in}
use Rattle.connection_members.specs.Path.{is_path, path_of}
use Rattle.connection_members.specs.Members.{Member, cells_of}
use Rattle.connection_members.specs.Turn.{first_from, or_else, turn}
use Rattle.connection_members.proofs.Turns.{first-picks, Found, found, first_found, turn-picks}
use Rattle.connection_members.specs.Invariant.{Rising}
use Rattle.connection.specs.declared.parts.Connection.{Connection}
use Rattle.connection.specs.declared.kind.Kind.{Kind}
use Rattle.connection.specs.declared.kind.Kind.TheVariants.{Forward, Turned, Data}
use Rattle.connection.specs.Kind.{kind_number, kind_at}
use Rattle.model.specs.State.{State, empty}
use Rattle.model.specs.Answers.{Sent}
use Rattle.model.specs.Call.{Call, slot}
use Rattle.model.specs.Step.{step}
use Rattle.model.specs.Run.{final}
use Rattle.model.proofs.Effects.{effect}
use Rattle.abr_answers.specs.Reply.{Reply, reply_of}
use Rattle.abr.specs.Exports.{Observation, Performs, Transcript, final_words, zeros}
use Rattle.promise_service.proofs.Fairness.{fairness}
use Rattle.exports.specs.Returned.{no_member, members_seen, went_to}
use Rattle.exports.proofs.Returned.{names-connection, went_to_lem, back}
use Rattle.exports.proofs.Transport.{Sees, sees, stands, stands-first, kept-so}
use Rattle.exports.proofs.Known.{members-known}
use Rattle.exports.specs.Along.{kept}
use Rattle.exports_rates.specs.Seen.{Seen, seen_of}
use Rattle.exports_rates.proofs.Held.{seen-held}
use Rattle.exports_service.specs.Fairness.{cells_seen, no_cells}
use Rattle.exports_service.specs.Turn.{NotLater, onward, round, InTurn, ExportsInTurn}
use Rattle.exports_service.proofs.MemberCells.{Counts, counts, none-count}
use Rattle.exports_service.proofs.Slots.{Goes, goes}

-- somebody is found, not above z
found-le : (low z x : ℕ) (o : Option ℕ) → Found low z o → o ≡ some x → x ≤ z
found-le low z x o (found y a b) e = let w : y ≡ x = cc in omega (arith, b, w)

found_some : (low z : ℕ) (o : Option ℕ) → Found low z o → o ≡ none → ⊥
found_some low z o (found y a b) e = let w : ◌≡◌ {A = ℕ} 0 1 = cc in omega arith

-- what `turn` picks, in the words of L13
module _ (v q : ℕ) (ms : List Member) (rising : Rising ms) (x : ℕ) where
  abbrev low : ℕ
  low = name_from (vpi_in v) q + 1

  from_low : first_from v low ms ≡ some x → (z : ℕ) → path_of z ≡ v → 0 < cells_of z ms → NotLater q x z
  from_low e z p h =
      let k = first-picks v low ms x e in
      onward (omega (arith, k.from, k.path)) (λ l. let m = found-le low z x _ (first_found v low z ms rising p (omega (arith, p, l)) h) e in omega (arith, m, p, k.path))

  from_lowest : first_from v low ms ≡ none → first_from v 0 ms ≡ some x → (z : ℕ) → path_of z ≡ v → 0 < cells_of z ms → NotLater q x z
  from_lowest n e z p h =
      let k = first-picks v 0 ms x e in
      let m = found-le 0 z x _ (first_found v 0 z ms rising p (omega arith) h) e in
      by_cases (dec_lt q (vci_in z))
      (λ l. absurd (found_some low z _ (first_found v low z ms rising p (omega (arith, p, l)) h) n))
      (λ l. round (omega arith) (omega (arith, m, p, k.path)))

  turn-first : turn v q ms ≡ some x → (z : ℕ) → path_of z ≡ v → 0 < cells_of z ms → NotLater q x z
  unfolding turn or_else
  turn-first e = go (first_from v low ms) refl e
    where
      go : (o : Option ℕ) → first_from v low ms ≡ o → or_else o (first_from v 0 ms) ≡ some x → (z : ℕ) → path_of z ≡ v → 0 < cells_of z ms → NotLater q x z
      go none n e = from_lowest n e
      go (some y) n e = from_low (n ∙ e)

kind-data : (k : Kind) → kind_number k ≡ 3 → k ≡ Data
kind-data Forward e = absurd (omega (arith, e))
kind-data Turned e = absurd (omega (arith, e))
kind-data Data e = refl

module _ (cs : List Call) (os : List Observation) (y : Transcript cs zeros os) (t room v : ℕ) (o : Observation) (p : Performs (slot t room) (final_words zeros os) o)
    (e : went_to (members_seen no_member cs os) o.returned ≡ some v) (k : o.returned.kind ≡ 3)
  where
    abbrev s : State
    s = final empty cs

    z : Sees s (slot t room) o
    z = sees (stands cs os y) p

    g : Goes s t v (step s (slot t room))
    g =
        let f = members_seen no_member cs os in
        goes z.well_formed.unique (effect s z.well_formed.unique (slot t room))
        (sym (ap (went_to f) z.matches.returned ∙ went_to_lem f (step s (slot t room)).answer (names-connection z.well_formed f (members-known cs os y) (slot t room))) ∙ e)

    abbrev c : Connection
    c = g.chosen.holder

    told : o.returned ≡ reply_of (Sent v g.told (kind_at t c) g.acr g.comparisons)
    told = z.matches.returned ∙ ap reply_of g.answer

    answered : (step s (slot t room)).answer ≡ Sent v g.told Data g.acr g.comparisons
    answered = g.answer ∙ ap (λ (x : Kind). Sent v g.told x g.acr g.comparisons) (kind-data (kind_at t c) (sym (ap (λ (r : Reply). r.kind) told) ∙ k))

    name : name_from o.returned.vpi o.returned.vci ≡ g.told
    name = ap (λ (r : Reply). name_from r.vpi r.vci) told ∙ back g.told

    in-turn : is_path v ≡ true → InTurn (kept cells_seen no_cells cs os) (seen_of v cs os).served v (name_from o.returned.vpi o.returned.vci)
    in-turn i =
        let turn_is = fairness.in_turn cs t room v g.told g.acr g.comparisons c g.chosen.found answered i in
        let picks = turn-picks v c.queue.served s.members g.told turn_is in
        let cells : Counts (kept cells_seen no_cells cs os) s = kept-so cells_seen Counts counts empty zeros stands-first no_cells none-count cs os y in
        let last = ap (λ (x : Seen). x.served) (seen-held cs os y v c g.chosen.found) in
        rw (name, cells, last)
        (record { path = picks.path; some = picks.some; first = turn-first v c.queue.served s.members z.well_formed.members.valid.rising g.told turn_is })

pub exports-in-turn : ExportsInTurn
exports-in-turn = record {
  in_turn = in-turn;
  own = λ cs os y t room v o p e k i. name cs os y t room v o p e k ∙ fairness.own cs t room v _ _ _ (answered cs os y t room v o p e k) i;
}
