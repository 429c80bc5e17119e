-- Every cell that is written is admitted.
use Prim.Native.Nat.{ℕ, ◌/◌, ◌%◌, ◌<◌, ◌≤◌}
use mathlib.Core.Path.{◌≡◌, refl, sym, ap, subst, ◌∙◌}
use mathlib.Core.Bool.{Bool, true, false, cond, ◌||◌, true≢false, false≢true}
use mathlib.Core.List.{List, ◌∷◌, ◌++◌}
use native.Mathlib.Omega.{arith}
use borrow.Author.Tests.{ne_eqb}
use lib.Dec.{eqb, lit≤}
use lib.ListN.{length, get_or, drop, length-drop}
use lib.Seq.{get_or-drop}
use Rattle.cell.specs.declared.fields.Fields.{Fields}
use Rattle.cell.specs.Read.{RmCell}
use Rattle.cell.specs.Octets.{octet, payload, AreOctets}
use Rattle.cell.specs.Header.{header}
use Rattle.cell.specs.Fields.{fields_fit, fields_of, rm_cell}
use Rattle.cell.specs.Turning.{turned_marks, turned_payload, turned_cell}
use Rattle.cell.specs.Returned.{returned}
use Rattle.cell.specs.Form.{Framed, Blank}
use Rattle.cell.specs.Reading.{reading}
use Rattle.std.specs.Prelude.{Ok, Err}
use Rattle.laws.specs.declared.refusals.Refusal.TheVariants.{Length, Range}
use Rattle.laws.specs.Refusals.{refusal_or_0}
use Rattle.cell.specs.Writing.{writing, buffer_written}
use Rattle.cell.specs.Admitted.{Admitted}
use Rattle.cell.proofs.Admits.{taken-admitted, rm-received}
use Rattle.cell.proofs.Written.{read-written}
use Rattle.cell.proofs.Form.{carried-framed, written-form}
use Rattle.cell.proofs.Turned.{turned-read, turned-words}
use Rattle.cell_payload.specs.Payload.{payload_of}
use Rattle.connection.specs.declared.kind.Kind.{Kind}
use Rattle.connection.specs.declared.kind.Kind.TheVariants.{Forward, Turned, Data}
use Rattle.connection.specs.declared.parts.Connection.{Connection}
use Rattle.connection.specs.Kind.{kind_at, kind_number}
use Rattle.connection.specs.Slot.{Buffer, untouched, written, buffer_sent, after}
use Rattle.model.specs.State.{State}
use Rattle.model.specs.Call.{Call, Outcome}
use Rattle.model.specs.Step.{refuse, accept, replay, discard, idle_step, send_from, send_step, send_out_of_rate, step}
use Rattle.model.proofs.Shown.{Shown, refusing, accepting, discarding, idling, serving, serving_out_of_rate, shown}
use Rattle.abr_answers.specs.Reply.{Reply, no_cell, reply_of}
use Rattle.model.specs.Aspects.{Lent, for_slot, for_out_of_rate, not_lent, lent_of}
use Rattle.abr_answers.specs.Cells.{write_refusal, octets_after}
use Rattle.engine.specs.Contract.{buffer_content}
use Rattle.abr.specs.Exports.{Observation}
use Rattle.exports_cells.specs.Written.{wrote_cell, clp_written, WrittenCell, WritesAdmitted, WrittenAdmitted, wrote_for}
use Rattle.exports.proofs.Transport.{Sees, each-call}
use Rattle.promise_cells.specs.ReservedBit.{WrittenAs}
use Rattle.promise_cells.proofs.WrittenCells.{written_as}

-- what is read as an RM cell is admitted
pub read-admitted : (o : List ℕ) (f : Fields) → reading o ≡ RmCell f → Admitted o
read-admitted o f e = taken-admitted o (λ n q. let z : ◌≡◌ {A = ℕ} 0 1 = cc in omega arith)

-- a turned cell is newly framed, and has DIR 1 and BN 0
turned-framed : (level : ℕ) (b : Bool) (vpi vci : ℕ) (o : List ℕ) → length o ≡ 53 → octet 6 o ≡ 1 → Framed 0 (header 0 vpi vci ++ turned_payload level b (payload o))
unfolding turned_payload
turned-framed level b vpi vci o n p =
    carried-framed (get_or (payload o) 0 0 ∷ turned_marks level b (get_or (payload o) 1 0) ∷ drop 2 (payload o)) (simp length-drop (omega arith)) 0 vpi vci (lit≤ tt) (get_or-drop 5 o 0 0 ∙ p)

two-bits : (y : ℕ) → y / 2 % 2 ≡ 1 → y % 2 ≡ 0 → y % 4 ≡ 2
two-bits y d n = omega (arith, d, n)

halved : (x : ℕ) → x / 64 / 2 ≡ x / 128
halved x = omega arith

turned-marks : (o : List ℕ) (g : Fields) → reading o ≡ RmCell g → g.dir ≡ 1 → g.bn ≡ 0 → octet 7 o / 64 % 4 ≡ 2
unfolding fields_of
turned-marks o g e d n =
    let f = (rm-received o g e).fields in
    two-bits (octet 7 o / 64) (ap (λ (x : ℕ). x % 2) (halved (octet 7 o)) ∙ sym (ap (λ (h : Fields). h.dir) f) ∙ d) (sym (ap (λ (h : Fields). h.bn) f) ∙ n)

pub written-turned :
    (level : ℕ) (b : Bool) (o : List ℕ) (f : Fields) → AreOctets o → reading o ≡ RmCell f → (vpi vci : ℕ) → vpi ≤ 255 → vci ≤ 65535
    → WrittenCell 0 (turned_cell vpi vci (payload_of (turned_payload level b (payload o))))
unfolding returned
written-turned level b o f a e vpi vci g l =
    let r = rm-received o f e in
    let q = turned-read level b vpi vci o r.size f e g l in
    subst (WrittenCell 0) (sym (turned-words level b vpi vci o r.size a))
    (record { admitted = read-admitted _ _ q; framed = turned-framed level b vpi vci o r.size r.protocol; blank = λ n. absurd (n (turned-marks _ _ q refl refl)) })

pub written-made : (clp : ℕ) (f : Fields) → clp ≤ 1 → fields_fit f ≡ true → WrittenCell clp (rm_cell clp f)
written-made clp f l e = let h = written-form clp f l in record { admitted = read-admitted _ f (read-written clp f l e); framed = h.0; blank = λ _. h.1 }

-- a caller sees whether a cell was written
is_written : Buffer → Bool
is_written untouched = false
is_written (written o) = true

refused-writes : (l : Lent) (n : ℕ) → 0 < n → wrote_for l (no_cell n 0) ≡ false
refused-writes (for_slot t) n h = refl
refused-writes (for_out_of_rate v) n h = ne_eqb n 0 (λ e. omega (arith, h, e))
refused-writes not_lent n h = refl

not_written : (l : Lent) (r : Reply) → l ≡ not_lent → wrote_for l r ≡ false
not_written l r e = ap (λ (x : Lent). wrote_for x r) e

sent-writes : (k : Kind) (c d : Connection) → (eqb (kind_number k) 1 || eqb (kind_number k) 2) ≡ is_written (buffer_sent k c d)
unfolding buffer_sent is_written
sent-writes Forward c d = refl
sent-writes Turned c d = refl
sent-writes Data c d = refl

shown-writes : {s : State} {c : Call} {o : Outcome} → Shown s c o → wrote_cell c (reply_of o.answer) ≡ is_written o.buffer
unfolding refuse accept replay discard idle_step send_from send_step send_out_of_rate is_written
shown-writes (refusing c n h) = refused-writes (lent_of c) n h
shown-writes (accepting c n r l g) = not_written (lent_of c) _ l
shown-writes (discarding c n x u r l i g) = not_written (lent_of c) _ l
shown-writes (idling t room g) = refl
shown-writes (serving t room i u g b) = sent-writes (kind_at t b.holder) b.holder (after (kind_at t b.holder) t b.holder)
shown-writes (serving_out_of_rate a b t room d f g) = refl

buffer-seen : (P : List ℕ → Type 0) (b : Buffer) (old : List ℕ) → WrittenAs P b → is_written b ≡ true → P (buffer_content b old)
unfolding is_written
buffer-seen P untouched old h e = absurd (false≢true e)
buffer-seen P (written o) old h e = h

buffer-left : (b : Buffer) (old : List ℕ) → is_written b ≡ false → buffer_content b old ≡ old
unfolding is_written
buffer-left untouched old e = refl
buffer-left (written o) old e = absurd (true≢false e)

module _ {s : State} {c : Call} {o : Observation} (y : Sees s c o) where
  written-seen : wrote_cell c o.returned ≡ is_written (step s c).buffer
  written-seen = ap (wrote_cell c) y.matches.returned ∙ shown-writes (shown y.well_formed c)

  -- what holds of the written octets holds of those in the lent buffer, and where none are written it stays
  pub holds-seen : (P : List ℕ → Type 0) → WrittenAs P (step s c).buffer → wrote_cell c o.returned ≡ true → P o.new
  holds-seen P h e = subst P (sym y.matches.buffer) (buffer-seen P (step s c).buffer o.old h (sym written-seen ∙ e))

  pub left-seen : wrote_cell c o.returned ≡ false → o.new ≡ o.old
  left-seen e = y.matches.buffer ∙ buffer-left (step s c).buffer o.old (sym written-seen ∙ e)

-- abr_write_rm
wrote-admitted : (f : Fields) (old : List ℕ) → write_refusal f old ≡ 0 → Admitted (octets_after f old) × Framed 0 (octets_after f old) × Blank (octets_after f old)
unfolding writing buffer_written
wrote-admitted f old e = go (eqb (length old) 53) (fields_fit f) refl e
  where
    go :
        (a b : Bool) → fields_fit f ≡ b → refusal_or_0 (cond a (cond b (Ok tt) (Err Range)) (Err Length)) ≡ 0 → let o = buffer_written (cond a (cond b (Ok tt) (Err Range)) (Err Length)) (rm_cell 0 f) old in
        Admitted o × Framed 0 o × Blank o
    go true true q e = let h = written-form 0 f (lit≤ tt) in (read-admitted _ f (read-written 0 f (lit≤ tt) q), h.0, h.1)
    go true false q e = absurd (omega (arith, e))
    go false b q e = absurd (omega (arith, e))

pub written-admitted : WrittenAdmitted
written-admitted = record {
  calls = λ cs os t.
      each-call (λ c p. WrittenAs (WrittenCell (clp_written c)) p.buffer) WritesAdmitted (written_as WrittenCell written-made written-turned)
      (λ s c o z h. record { cell = holds-seen z (WrittenCell (clp_written c)) h; nothing = left-seen z }) cs os t;
  writes = λ f old new r e n z. subst (λ (o : List ℕ). Admitted o × Framed 0 o × Blank o) (sym n) (wrote-admitted f old (sym e ∙ z));
}
