-- Exported calls do what `run` says.
use Prim.Native.Nat.{ℕ}
use mathlib.Core.Path.{◌≡◌, refl, ap, ◌∙◌, subst}
use mathlib.Core.List.{List, [], ◌∷◌}
use mathlib.Core.Option.{Option, none, some}
use lib.ListN.{length}
use Rattle.connection.specs.Slot.{Buffer, untouched}
use Rattle.model.specs.State.{State, empty, position, is_free, find, leaf_of}
use Rattle.model.specs.Invariant.{WellFormed}
use Rattle.model.specs.Call.{Call, opening, closing, receiving, offering, levelling, slot, making, out_of_rate, opening_path, adding, offering_member, removing, Outcome, closed_cells}
use Rattle.model.specs.Step.{refuse, accept, discard, idle_step, send_step, send_from, send_out_of_rate, step}
use Rattle.model.specs.Run.{run, final}
use Rattle.model.specs.Answers.{Answer, Refused, Accepted, Closed, Idle, Sent}
use Rattle.model.specs.Details.{opened_with, open_answer, rate_in, kind_received, name_received, connection_received, received_with, receive_answer, slot_answer}
use Rattle.cell.specs.Reading.{reading}
use Rattle.connection.specs.declared.kind.Kind.{Kind}
use Rattle.model.proofs.Effects.{Effect, refuses, idles, sends, effect}
use Rattle.abr_answers.specs.declared.details.AbrOpened.{AbrOpened}
use Rattle.abr_answers.specs.declared.details.AbrReceived.{AbrReceived}
use Rattle.abr_answers.specs.Details.{opened_of, received_of, sent_of}
use Rattle.model.proofs.Preserved.{empty-well-formed}
use Rattle.model.proofs.Reached.{step-well-formed, reached-well-formed}
use Rattle.model.proofs.Shown.{Shown, refusing, accepting, discarding, idling, serving, serving_out_of_rate, shown}
use Rattle.table.specs.Layout.{words}
use Rattle.table.proofs.Words.{empty-words}
use Rattle.engine.specs.Contract.{buffer_content}
use Rattle.abr_answers.specs.declared.calls.AbrAnswer.{AbrAnswer}
use Rattle.abr_answers.specs.declared.calls.AbrClosed.{AbrClosed}
use Rattle.abr_answers.specs.Calls.{refusal_alone, answer_of, closed_of}
use Rattle.abr_answers.specs.Reply.{no_cell, reply_of, reply_in}
use Rattle.model.specs.Aspects.{Lent, for_slot, for_out_of_rate, not_lent, lent_of, members_of, discards_from, sort_of}
use Rattle.abr.specs.Exports.{besides_open, besides_receive, besides_slot, besides_by, Observation, no_slot, after_open, after_receive, after_close, Performs, abr_open, abr_close, abr_receive, abr_offer, abr_set_level, abr_make, abr_out_of_rate, abr_slot, abr_open_path, abr_add_member, abr_offer_member, abr_remove_member, Transcript, ended, then, final_words, zeros, Matches, AllMatch, neither, both, ExportsAreRun}

-- a call that is no slot, one that is lent no buffer, and one that discards no data cells
abbrev NoSlot : Lent → Type 0
NoSlot (for_slot t) = ⊥
NoSlot (for_out_of_rate v) = Unit
NoSlot not_lent = Unit

abbrev WithoutBuffer : Lent → Type 0
WithoutBuffer (for_slot t) = ⊥
WithoutBuffer (for_out_of_rate v) = ⊥
WithoutBuffer not_lent = Unit

abbrev NoDiscard : Option ℕ → Type 0
NoDiscard none = Unit
NoDiscard (some v) = ⊥

shown-no-cells : {s : State} {c : Call} {o : Outcome} → Shown s c o → NoDiscard (discards_from (members_of c)) → 0 ≡ closed_cells o.answer
unfolding refuse accept idle_step send_step send_from send_out_of_rate closed_cells
shown-no-cells (refusing c n h) u = refl
shown-no-cells (accepting c n r l g) u = refl
shown-no-cells (discarding c n x v r l e g) u = absurd (subst NoDiscard e u)
shown-no-cells (idling t room g) u = refl
shown-no-cells (serving t room i v g b) u = refl
shown-no-cells (serving_out_of_rate a b t room d f g) u = refl

no_cells : {s : State} → WellFormed s → (c : Call) → NoDiscard (discards_from (members_of c)) → 0 ≡ closed_cells (step s c).answer
no_cells w c u = shown-no-cells (shown w c) u

-- it writes none that it is not lent, and its answer is a refusal and comparisons alone
pub record Plain (c : Call) (o : Outcome) : Type 0 where
  pub buffer : WithoutBuffer (lent_of c) → o.buffer ≡ untouched
  pub answer : no_cell (answer_of o.answer).refusal (answer_of o.answer).comparisons ≡ reply_of o.answer

shown-plain : {s : State} {c : Call} {o : Outcome} → Shown s c o → NoSlot (lent_of c) → Plain c o
unfolding refuse accept discard send_out_of_rate
shown-plain (refusing c n h) u = record { buffer = λ _. refl; answer = refl }
shown-plain (accepting c n r l g) u = record { buffer = λ _. refl; answer = refl }
shown-plain (discarding c n x v r l e g) u = record { buffer = λ _. refl; answer = refl }
shown-plain (idling t room g) u = absurd u
shown-plain (serving t room i v g b) u = absurd u
shown-plain (serving_out_of_rate a b t room d f g) u = record { buffer = λ l. absurd l; answer = refl }

nothing_written : (b : Buffer) → b ≡ untouched → [] ≡ buffer_content b []
nothing_written b e = rw e refl

-- what such a call returned is all of its answer
returned-plain : {s : State} → WellFormed s → (c : Call) → NoSlot (lent_of c) → (r : AbrAnswer) → r ≡ answer_of (step s c).answer → no_cell r.refusal r.comparisons ≡ reply_of (step s c).answer
returned-plain {s} w c u r h = ap (λ (a : AbrAnswer). no_cell a.refusal a.comparisons) h ∙ (shown-plain (shown w c) u).answer

plain-matches :
    {s : State} → WellFormed s → (c : Call) → NoSlot (lent_of c) → WithoutBuffer (lent_of c) → NoDiscard (discards_from (members_of c)) → (m : List ℕ) (r : AbrAnswer) → (m ≡ words (step s c).state) × (r ≡ answer_of (step s c).answer)
    → Matches (step s c) (no_slot m r)
plain-matches {s} w c u b k m r h =
    record { table = h.0; returned = returned-plain w c u r h.1; cells = no_cells w c k; buffer = nothing_written (step s c).buffer ((shown-plain (shown w c) u).buffer b) }

discards-matches :
    {s : State} → WellFormed s → (c : Call) → NoSlot (lent_of c) → WithoutBuffer (lent_of c) → (m : List ℕ) (r : AbrClosed) → (m ≡ words (step s c).state) × (r ≡ closed_of (step s c).answer)
    → Matches (step s c) (after_close m r)
discards-matches {s} w c u b m r h = record {
  table = h.0;
  returned = returned-plain w c u (record { refusal = r.refusal; comparisons = r.comparisons }) (ap (λ (x : AbrClosed). record { refusal = x.refusal; comparisons = x.comparisons }) h.1);
  cells = ap (λ (x : AbrClosed). x.cells) h.1;
  buffer = nothing_written (step s c).buffer ((shown-plain (shown w c) u).buffer b);
}

-- what an open and a received cell return of the answer, and what a slot does
opened-answer : (l : ℕ) (a : Answer) → record { refusal = (opened_of (opened_with l a)).refusal; comparisons = (opened_of (opened_with l a)).comparisons } ≡ answer_of a
opened-answer l (Refused n) = refl
opened-answer l (Accepted n) = refl
opened-answer l (Closed n k) = refl
opened-answer l Idle = refl
opened-answer l (Sent v x k a n) = refl

received-answer :
    (q : Kind) (x l z : ℕ) (a : Answer) → record { refusal = (received_of (received_with q x l z a)).refusal; comparisons = (received_of (received_with q x l z a)).comparisons } ≡ answer_of a
received-answer q x l z (Refused n) = refl
received-answer q x l z (Accepted n) = refl
received-answer q x l z (Closed n k) = refl
received-answer q x l z Idle = refl
received-answer q x l z (Sent v y k a n) = refl

slot-reply : {s : State} {t room : ℕ} {o : Outcome} → Effect s (slot t room) o → (r : State) → reply_in (sent_of (slot_answer r o)) ≡ reply_of o.answer
unfolding refuse idle_step send_step send_from
slot-reply (refuses _ n h) r = refl
slot-reply (idles _ _ g b) r = refl
slot-reply (sends _ _ _ _ g b) r = refl

-- such a call's observation, which has more of the answer
opened-matches :
    {s : State} → WellFormed s → (c : Call) → NoSlot (lent_of c) → WithoutBuffer (lent_of c) → NoDiscard (discards_from (members_of c)) → (m : List ℕ) (r : AbrOpened)
    → (m ≡ words (step s c).state) × (r ≡ opened_of (open_answer s (step s c))) → Matches (step s c) (after_open m r)
opened-matches {s} w c u b k m r h =
    let a : AbrAnswer = record { refusal = r.refusal; comparisons = r.comparisons } in
    let z = plain-matches w c u b k m a (h.0, ap (λ (x : AbrOpened). record { refusal = x.refusal; comparisons = x.comparisons }) h.1 ∙ opened-answer (position is_free s.entries) (step s c).answer) in
    record { table = z.table; returned = z.returned; cells = z.cells; buffer = z.buffer }

received-matches :
    {s : State} → WellFormed s → (octets m : List ℕ) (r : AbrReceived) → (m ≡ words (step s (receiving octets)).state) × (r ≡ received_of (receive_answer (reading octets) s (step s (receiving octets))))
    → Matches (step s (receiving octets)) (after_receive m r)
received-matches {s} w octets m r h =
    let a : AbrAnswer = record { refusal = r.refusal; comparisons = r.comparisons } in
    let p : Outcome = step s (receiving octets) in
    let v : ℕ = connection_received (reading octets) s in
    let z =
    plain-matches w (receiving octets) tt tt tt m a (
      h.0,
      ap (λ (x : AbrReceived). record { refusal = x.refusal; comparisons = x.comparisons }) h.1
          ∙ received-answer (kind_received (reading octets)) (name_received (reading octets)) (leaf_of v s) (rate_in (find v p.state.entries)) p.answer,
    ) in
    record { table = z.table; returned = z.returned; cells = z.cells; buffer = z.buffer }

-- one call, on the words of any well-formed table
pub performs-matches : {s : State} → WellFormed s → {c : Call} {l : List ℕ} {o : Observation} → Performs c l o → l ≡ words s → Matches (step s c) o
unfolding step
performs-matches {s} w (abr_open {vpi} {vci} {t} {p} {l} {m} {r} h) e = opened-matches w (opening vpi vci t p) tt tt tt m r (h.meets s w e)
performs-matches {s} w (abr_close {vpi} {vci} {l} {m} {r} h) e = discards-matches w (closing vpi vci) tt tt m r (h.meets s w e)
performs-matches {s} w (abr_receive {o} {l} {m} {r} q h) e = received-matches w o m r (h.meets s w e)
performs-matches {s} w (abr_offer {vpi} {vci} {n} {l} {m} {r} h) e = plain-matches w (offering vpi vci n) tt tt tt m r (h.meets s w e)
performs-matches {s} w (abr_set_level {k} {l} {m} {r} h) e = plain-matches w (levelling k) tt tt tt m (refusal_alone r) (h.meets s w e)
performs-matches {s} w (abr_make {vpi} {vci} {t} {l} {m} {r} h) e = plain-matches w (making vpi vci t) tt tt tt m r (h.meets s w e)
performs-matches {s} w (abr_out_of_rate {vpi} {vci} {t} {l} {m} {old} {new} {r} h) e =
    let g = h.meets s w e in record { table = g.0; returned = returned-plain w (out_of_rate vpi vci t (length old)) tt (refusal_alone r) g.1; cells = no_cells w (out_of_rate vpi vci t (length old)) tt; buffer = g.2 }
performs-matches {s} w (abr_slot {t} {l} {m} {old} h) e =
    let g = h.meets s w e in
    record {
      table = g.0;
      returned = ap reply_in g.1 ∙ slot-reply (effect s w.unique (slot t (length old))) s;
      cells = no_cells w (slot t (length old)) tt;
      buffer = g.2;
    }
performs-matches {s} w (abr_open_path {vpi} {t} {p} {l} {m} {r} h) e = opened-matches w (opening_path vpi t p) tt tt tt m r (h.meets s w e)
performs-matches {s} w (abr_add_member {vpi} {vci} {l} {m} {r} h) e = plain-matches w (adding vpi vci) tt tt tt m r (h.meets s w e)
performs-matches {s} w (abr_offer_member {vpi} {vci} {n} {l} {m} {r} h) e = plain-matches w (offering_member vpi vci n) tt tt tt m r (h.meets s w e)
performs-matches {s} w (abr_remove_member {vpi} {vci} {l} {m} {r} h) e = discards-matches w (removing vpi vci) tt tt m r (h.meets s w e)

-- what it returned besides
pub performs-besides : {s : State} → WellFormed s → {c : Call} {l : List ℕ} {o : Observation} → Performs c l o → l ≡ words s → o.besides ≡ besides_by s (step s c) (sort_of c)
unfolding step
performs-besides {s} w (abr_open h) e = ap besides_open (h.meets s w e).1
performs-besides {s} w (abr_close h) e = refl
performs-besides {s} w (abr_receive q h) e = ap besides_receive (h.meets s w e).1
performs-besides {s} w (abr_offer h) e = refl
performs-besides {s} w (abr_set_level h) e = refl
performs-besides {s} w (abr_make h) e = refl
performs-besides {s} w (abr_out_of_rate h) e = refl
performs-besides {s} w (abr_slot h) e = ap besides_slot (h.meets s w e).1
performs-besides {s} w (abr_open_path h) e = ap besides_open (h.meets s w e).1
performs-besides {s} w (abr_add_member h) e = refl
performs-besides {s} w (abr_offer_member h) e = refl
performs-besides {s} w (abr_remove_member h) e = refl

onward :
    (s : State) → WellFormed s → (cs : List Call) (l : List ℕ) (os : List Observation) → Transcript cs l os → l ≡ words s
    → AllMatch (run s cs) os × (final_words l os ≡ words (final s cs))
onward s w [] l [] ended e = (neither, e)
onward s w [] l (o ∷ os) x e = elim x [ ]
onward s w (c ∷ cs) l [] x e = elim x [ ]
onward s w (c ∷ cs) l (o ∷ os) (then h t) e =
    let g = performs-matches w h e in
    let rest = onward (step s c).state (step-well-formed w c) cs o.table os t g.table in
    (both g rest.0, rest.1)

pub zeros-words : zeros ≡ words empty
zeros-words = rw empty-words refl

last : (cs : List Call) (os : List Observation) → Transcript cs zeros os → final_words zeros os ≡ words (final empty cs)
last cs os t = (onward empty empty-well-formed cs zeros os t zeros-words).1

pub exports-are-run : ExportsAreRun
exports-are-run = record {
  onward = onward;
  each = λ cs os t. (onward empty empty-well-formed cs zeros os t zeros-words).0;
  last = last;
  besides = λ cs os t c o h. performs-besides (reached-well-formed cs) h (last cs os t);
  acr = λ cs os t v r h. h.meets (final empty cs) (reached-well-formed cs) (last cs os t);
  contract = λ cs os t v n r h. h.meets (final empty cs) (reached-well-formed cs) (last cs os t);
  next = λ cs os t r h. h.is (final empty cs) (reached-well-formed cs) (last cs os t);
  slot_timed = λ cs os t now lag r h. h.is (final empty cs) (reached-well-formed cs) (last cs os t);
  status = λ cs os t v r h. h.meets (final empty cs) (reached-well-formed cs) (last cs os t);
  leaf = λ cs os t i r h. h.meets (final empty cs) (reached-well-formed cs) (last cs os t);
  member = λ cs os t i r h. h.meets (final empty cs) (reached-well-formed cs) (last cs os t);
  link = λ cs os t r h. h.meets (final empty cs) (reached-well-formed cs) (last cs os t);
}
