use mathlib.Core.Path.{refl}
use Rattle.abr_answers.specs.Calls.{refusal_alone}
use Rattle.abr_answers.specs.Reply.{no_cell, reply_in}
use Rattle.abr.specs.Exports.{nothing_besides, besides_slot, no_slot, after_open, after_receive, after_close, abr_open, abr_close, abr_receive, abr_offer, abr_set_level, abr_make, abr_out_of_rate, abr_slot, then, ended}
use Rattle.abr_composed.proofs.each_call.Goals as goal

pub returns : goal.returns
returns c =
    let a = c in
    let m = a in
    let u = m in
    let s = u in
    let p = s in
    let n = p in
    let r = n in
    let l = r in
    let f = l in
    let o = f in
    let known = o in
    let start = known in
    record {
      opened = after_open o.abr_open-opened.new.table o.abr_open-opened.result;
      offered = no_slot f.abr_offer-offered.new.table f.abr_offer-offered.result;
      levelled = no_slot l.abr_set_level-levelled.new.table (refusal_alone l.abr_set_level-levelled.result);
      taken = after_receive r.abr_receive-taken.new.table r.abr_receive-taken.result;
      sent = record {
        table = s.abr_slot-sent.new.table;
        returned = reply_in s.abr_slot-sent.result;
        besides = besides_slot s.abr_slot-sent.result;
        cells = 0;
        old = start.args.cell.now;
        new = s.abr_slot-sent.new.cell;
      };
      left = record {
        table = u.abr_out_of_rate-left.new.table;
        returned = no_cell u.abr_out_of_rate-left.result 0;
        besides = nothing_besides;
        cells = 0;
        old = s.abr_slot-sent.new.cell;
        new = u.abr_out_of_rate-left.new.cell;
      };
      made = no_slot m.abr_make-made.new.table m.abr_make-made.result;
      closed = after_close c.abr_close-closed.new.table c.abr_close-closed.result;
      next = n.abr_next_ready-next.result;
      asked = n.abr_next_ready-next.ensures;
      passed = p.abr_slot_time-time.result;
      timed = p.abr_slot_time-time.ensures;
      rate = a.abr_acr-rate.ensures;
      table = refl;
      buffer = refl;
      transcript =
          then (abr_open o.abr_open-opened.ensures)
          (then (abr_offer f.abr_offer-offered.ensures)
          (then (abr_set_level l.abr_set_level-levelled.ensures)
          (then (abr_receive (record { each = λ i. (known.shared_slice_known-1.given i).fits }) r.abr_receive-taken.ensures)
          (then (abr_slot s.abr_slot-sent.ensures)
          (then (abr_out_of_rate u.abr_out_of_rate-left.ensures)
          (then (abr_make m.abr_make-made.ensures)
          (then (abr_close c.abr_close-closed.ensures) ended)))))));
    }
