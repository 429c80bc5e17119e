-- No CI is lost between a received forward cell and the next turned cell that is sent, of exported calls.
use Prim.Native.Nat.{ℕ}
use mathlib.Core.Path.{◌≡◌, sym, ap, ◌∙◌, subst}
use mathlib.Core.Bool.{true, false≢true}
use mathlib.Core.List.{List}
use native.Mathlib.Omega.{arith}
use Rattle.cell.specs.Name.{name_from}
use Rattle.cell.specs.Fields.{cell_name}
use Rattle.cell.specs.Reading.{reading}
use Rattle.cell.specs.declared.fields.Fields.{Fields}
use Rattle.cell.specs.Read.{RmCell}
use Rattle.connection.specs.declared.parts.Connection.{Connection}
use Rattle.connection.specs.declared.kind.Kind.TheVariants.{Turned}
use Rattle.connection.specs.Slot.{Buffer}
use Rattle.model.specs.State.{State, Entry, taken, empty, find}
use Rattle.model.specs.Answers.{Sent}
use Rattle.model.specs.Call.{Call, receiving, Outcome}
use Rattle.model.specs.Step.{refuse, step}
use Rattle.model.specs.Run.{final, is_accepted}
use Rattle.model.proofs.Effects.{Effect, refuses, receives_data, receives_rm, effect}
use Rattle.model.proofs.BySort.{BySort, an_opening, an_opening_path, a_closing, a_receiving, a_slot, another_call, by_sort}
use Rattle.abr_answers.specs.Reply.{Reply, reply_of}
use Rattle.engine.specs.Contract.{buffer_content}
use Rattle.abr.specs.Exports.{Observation, zeros}
use Rattle.promise_lists.specs.Demand3.{InPlace}
use Rattle.promise_cells.specs.Marks.{MarkCame, with_ci as came_ci, with_efci as came_efci, at_level2 as came_level, Quiet, AllQuiet, MarkWritten, QuietSort}
use Rattle.promise_cells.proofs.Marks.{no-mark-lost}
use Rattle.exports.proofs.Returned.{back}
use Rattle.exports_cells.specs.Heard.{Heard, hears, nothing_heard}
use Rattle.exports_cells.specs.Marks.{MarkHeard, with_ci, with_efci, at_level2, QuietSeen, MarkIn, ExportsNoMarkLost}
use Rattle.exports.proofs.Known.{Held}
use Rattle.exports.proofs.Transport.{Sees, sees, stands, stands-first, stands_after, was-accepted, carry, kept-so, nothing, Anything, keeps-nothing}
use Rattle.exports_cells.proofs.Sent.{sent-own, sent-of, turned-data}
use Rattle.exports_cells.proofs.Heard.{entry_destination, Hears, keeps-hearing, hears-nothing}

-- an RM cell that is taken in has an open connection
taken-held : {s : State} {q : List ℕ} {p : Outcome} (f : Fields) → Effect s (receiving q) p → reading q ≡ RmCell f → is_accepted p.answer ≡ true → Held (cell_name f) s
unfolding refuse is_accepted
taken-held f (refuses _ n h) e a = absurd (false≢true a)
taken-held f (receives_data q vpi vci m u d r i z g) e a = let z : ◌≡◌ {A = ℕ} 0 1 = cc in absurd (omega arith)
taken-held {s} f (receives_rm q g d r h) e a = let i : g ≡ f = cc in record { holder = d; found = ap (λ (x : Fields). find (cell_name x) s.entries) (sym i) ∙ h }

mark-came : (f : Fields) (k : Heard) (s : State) (c : Connection) → Hears (cell_name f) k s → find (cell_name f) s.entries ≡ taken c → MarkHeard f k → MarkCame f c s.level
unfolding entry_destination
mark-came f k s c h g (with_ci e) = came_ci e
mark-came f k s c h g (with_efci e) = came_efci (sym (h.receiver.efci ∙ ap (λ (x : Entry). (entry_destination x).efci) g) ∙ e)
mark-came f k s c h g (at_level2 e) = came_level (sym h.level ∙ e)

quiet : (v : ℕ) (s : State) {c : Call} → BySort c → (o : Observation) → Sees s c o → QuietSeen v c o → Quiet v c (step s c).answer
quiet v s (an_opening vpi vci t p) o z q = tt
quiet v s (an_opening_path vpi t p) o z q = tt
quiet v s (a_closing vpi vci) o z q = q
quiet v s (a_receiving r) o z q = z.of_octets
quiet v s (a_slot t room) o z q = λ x acr n e.
    let r : o.returned ≡ reply_of (Sent v x Turned acr n) = z.matches.returned ∙ ap reply_of e in
    q (ap (λ (a : Reply). a.kind) r) (ap (λ (a : Reply). name_from a.vpi a.vci) r ∙ back x ∙ sent-own Turned turned-data z e)
quiet v s (another_call c e) o z q = subst (QuietSort v (step s c).answer) (sym e) tt

mark-in : (v : ℕ) (b : Buffer) (old new : List ℕ) → new ≡ buffer_content b old → MarkWritten v b → MarkIn v new
mark-in v b old new e m = record {
  fields = m.fields;
  read = ap reading (e ∙ ap (λ (x : Buffer). buffer_content x old) m.buffer) ∙ m.read;
  name = m.name;
  backward = m.backward;
  turned = m.turned;
  ci = m.ci;
}

pub exports-no-mark-lost : ExportsNoMarkLost
exports-no-mark-lost cs ds os ps octets f o p t room x y u g e d z m q k n =
    let v = cell_name f in
    let s = final empty cs in
    let one = sees (stands cs os x) y in
    let r = (step s (receiving octets)).state in
    let two = sees (stands_after one.next ds ps u) g in
    let h = taken-held f (effect s one.well_formed.unique (receiving octets)) e (was-accepted one z) in
    let heard = kept-so (hears v) (Hears v) (keeps-hearing v) empty zeros stands-first nothing_heard (hears-nothing v) cs os x in
    let still : AllQuiet v r ds =
    carry nothing Anything keeps-nothing (λ s k cs os. InPlace (QuietSeen v) cs os → AllQuiet v s cs) (λ s k _. tt) (λ s c o k cs os m z l h. (quiet v s (by_sort c) o z h.0, l h.1)) r o.table one.next 0 tt ds ps u q in
    let w = sent-of Turned turned-data two k in
    mark-in v _ p.old p.new two.matches.buffer
    (no-mark-lost cs octets f h.holder ds t room w.told w.acr w.comparisons one.of_octets e d h.found (mark-came f _ s h.holder heard h.found m) still
    (w.is ∙ ap (λ (i : ℕ). Sent i w.told Turned w.acr w.comparisons) n))
