-- No call touches what a caller can learn of a connection, or of a member, that it is not about.
use Prim.Native.Nat.{ℕ}
use mathlib.Core.Path.{◌≡◌, refl, sym, ap, ◌∙◌}
use mathlib.Core.Bool.{Bool, cond, ◌&&◌, not}
use mathlib.Core.List.{List}
use mathlib.Core.Option.{some}
use lib.Dec.{eqb}
use Rattle.cell.specs.Read.{Reading, Refused as Unread, DataCell, RmCell}
use Rattle.cell.specs.Name.{name_from, address_name}
use Rattle.cell.specs.Reading.{reading}
use Rattle.connection_members.specs.Path.{path_of}
use Rattle.connection_members.specs.Members.{owner}
use Rattle.connection.specs.declared.parts.Connection.{Connection}
use Rattle.connection.specs.declared.kind.Kind.TheVariants.{Forward, Turned, Data}
use Rattle.connection.specs.Parts.{waiting}
use Rattle.model.specs.State.{State, Entry, free, taken, is_free, empty, find, entry_cells}
use Rattle.model.specs.Answers.{Answer, Refused, Accepted, Closed, Idle, Sent}
use Rattle.model.specs.Call.{Call, closing, closed_cells}
use Rattle.model.specs.Step.{refuse, discard, of_open, close_step, step}
use Rattle.model.specs.Queries.{entry_acr, acr_of}
use Rattle.model.specs.Run.{final}
use Rattle.abr_answers.specs.Calls.{allowed_of}
use Rattle.abr_answers.specs.Reply.{Reply, reply_of}
use Rattle.model.specs.Aspects.{Subject, by_name, in_cell, in_answer, no_subject, subject_of, OnMembers, of_closed, of_added, of_offered, of_removed, of_slot, of_none, members_of}
use Rattle.abr.specs.Exports.{Observation, Performs, Transcript, final_words, zeros}
use Rattle.promise_lists.specs.Interference.{read_name, concerns, answers_name, touches, concerned, touched}
use Rattle.promise_lists.proofs.Interference.{no-interference}
use Rattle.exports.specs.Returned.{no_member, members_seen}
use Rattle.exports.proofs.Returned.{Knows, NamesConnection, names-connection, went_to_lem, back}
use Rattle.exports.proofs.Transport.{Sees, sees, stands, acr-seen}
use Rattle.exports.proofs.Known.{members-known}
use Rattle.exports_rates.proofs.Removal.{removal}
use Rattle.exports_rates.specs.Interference.{read_name_seen, names_seen, touches_seen, ExportsNoInterference, subject_seen, touched_seen}

-- whose call it is
read_name_lem : (f : ℕ → Bool) (s : State) → Knows f s → (r : Reading) → read_name_seen f r ≡ read_name s.members r
unfolding read_name owner
read_name_lem f s k (Unread n) = refl
read_name_lem f s k (DataCell vpi vci e) = ap (λ (b : Bool). some (cond b (path_of (address_name vpi vci)) (address_name vpi vci))) (k (address_name vpi vci))
read_name_lem f s k (RmCell g) = refl

subject-seen : (f : ℕ → Bool) (s : State) → Knows f s → (a : Answer) → NamesConnection f a → (x : Subject) → subject_seen f (reply_of a) x ≡ concerned s.members a x
subject-seen f s k a h (by_name v) = refl
subject-seen f s k a h (in_cell o) = read_name_lem f s k (reading o)
subject-seen f s k a h in_answer = went_to_lem f a h
subject-seen f s k a h no_subject = refl

names-seen : (f : ℕ → Bool) (s : State) → Knows f s → (c : Call) (a : Answer) → NamesConnection f a → names_seen f c (reply_of a) ≡ concerns s.members c a
unfolding concerns
names-seen f s k c a h = subject-seen f s k a h (subject_of c)

name-told : (x : ℕ) (a : Answer) → (not (eqb (reply_of a).kind 0) && eqb (name_from (reply_of a).vpi (reply_of a).vci) x) ≡ answers_name x a
unfolding answers_name
name-told x (Refused n) = refl
name-told x (Accepted n) = refl
name-told x (Closed n k) = refl
name-told x Idle = refl
name-told x (Sent v y Forward a n) = ap (λ (z : ℕ). eqb z x) (back y)
name-told x (Sent v y Turned a n) = ap (λ (z : ℕ). eqb z x) (back y)
name-told x (Sent v y Data a n) = ap (λ (z : ℕ). eqb z x) (back y)

touched-seen : (x : ℕ) (a : Answer) (k : OnMembers) → touched_seen x (reply_of a) k ≡ touched x a k
touched-seen x a (of_closed v) = refl
touched-seen x a (of_added y) = refl
touched-seen x a (of_offered y n) = refl
touched-seen x a (of_removed y) = refl
touched-seen x a of_slot = name-told x a
touched-seen x a of_none = refl

touches-seen : (x : ℕ) (c : Call) (a : Answer) → touches_seen x c (reply_of a) ≡ touches x c a
unfolding touches
touches-seen x c a = touched-seen x a (members_of c)

-- what a close returns is read off its entry
abbrev close_number : Entry → ℕ
close_number x = cond (is_free x) 11 0

close-number : (s : State) (n : Connection → ℕ) (leaf : ℕ) (r : State) (x : Entry) → (reply_of (of_open s x (λ c. discard (n c) leaf s r)).answer).refusal ≡ close_number x
unfolding of_open refuse discard is_free
close-number s n leaf r free = refl
close-number s n leaf r (taken c) = refl

close-cells : (s : State) (leaf : ℕ) (r : State) (x : Entry) → closed_cells (of_open s x (λ c. discard (waiting c.queue) leaf s r)).answer ≡ entry_cells x
unfolding of_open refuse discard closed_cells entry_cells
close-cells s leaf r free = refl
close-cells s leaf r (taken c) = refl

closes_as : {s : State} {vpi vci : ℕ} {o : Observation} → Sees s (closing vpi vci) o → (o.returned.refusal ≡ close_number (find (address_name vpi vci) s.entries)) × (o.cells ≡ entry_cells (find (address_name vpi vci) s.entries))
unfolding step close_step
closes_as {s} {vpi} {vci} z = (
  ap (λ (r : Reply). r.refusal) z.matches.returned ∙ close-number s _ _ _ (find (address_name vpi vci) s.entries),
  z.matches.cells ∙ close-cells s _ _ (find (address_name vpi vci) s.entries),
)

-- the entry of another name stays
same-entry :
    (cs : List Call) (os : List Observation) (t : Transcript cs zeros os) (c : Call) (o : Observation) → Performs c (final_words zeros os) o → (u : ℕ)
    → (names_seen (members_seen no_member cs os) c o.returned ≡ some u → ⊥) → find u (step (final empty cs) c).state.entries ≡ find u (final empty cs).entries
same-entry cs os t c o q u n =
    let y = sees (stands cs os t) q in
    let s = final empty cs in
    let f = members_seen no_member cs os in
    let m = members-known cs os t in
    let i = names-seen f s m c (step s c).answer (names-connection y.well_formed f m c) in
    no-interference.connections cs c u (λ x. n (ap (names_seen f c) y.matches.returned ∙ i ∙ x))

pub exports-no-interference : ExportsNoInterference
unfolding acr_of
exports-no-interference = record {
  rates = λ cs os t c o q u n a b h k.
      let st = stands cs os t in
      acr-seen (sees st q).next u b k ∙ ap (λ (x : Entry). allowed_of (entry_acr x)) (same-entry cs os t c o q u n) ∙ sym (acr-seen st u a h);
  closes = λ cs os t c o q vpi vci n a b h k.
      let st = stands cs os t in
      let before = closes_as (sees st h) in
      let after = closes_as (sees (sees st q).next k) in
      let e = same-entry cs os t c o q (address_name vpi vci) n in
      record { refusals = after.0 ∙ ap close_number e ∙ sym before.0; cells = after.1 ∙ ap entry_cells e ∙ sym before.1 };
  removes = λ cs os t c o q vpi vci n a b h k.
      let st = stands cs os t in
      let y = sees st q in
      let e = no-interference.members cs c (address_name vpi vci)
      (sym (touches-seen (address_name vpi vci) c (step (final empty cs) c).answer) ∙ ap (touches_seen (address_name vpi vci) c) (sym y.matches.returned) ∙ n) in
      let before = sees st h in
      let after = sees y.next k in
      let old = removal before.well_formed vpi vci in
      let new = removal after.well_formed vpi vci in
      record {
        accepted = after.accepted ∙ new.accepted ∙ e.member ∙ sym (before.accepted ∙ old.accepted);
        cells = after.matches.cells ∙ new.cells ∙ e.cells ∙ sym (before.matches.cells ∙ old.cells);
      };
}
