use Rattle.abr.specs.Exports.{no_slot, after_open, after_close, abr_close, abr_open_path, abr_add_member, abr_offer_member, abr_remove_member, then, ended}
use Rattle.abr_composed.proofs.path.path_calls.Goals as goal

pub returns : goal.returns
returns c =
    let x = c in
    let g = x in
    let j = g in
    let h = j in
    record {
      opened = after_open h.abr_open_path-opened.new.table h.abr_open_path-opened.result;
      added = no_slot j.abr_add_member-added.new.table j.abr_add_member-added.result;
      offered = no_slot g.abr_offer_member-offered.new.table g.abr_offer_member-offered.result;
      removed = after_close x.abr_remove_member-removed.new.table x.abr_remove_member-removed.result;
      transcript =
          then (abr_open_path h.abr_open_path-opened.ensures)
          (then (abr_add_member j.abr_add_member-added.ensures)
          (then (abr_offer_member g.abr_offer_member-offered.ensures)
          (then (abr_remove_member x.abr_remove_member-removed.ensures)
          (then (abr_close c.abr_close.ensures) ended))));
    }
