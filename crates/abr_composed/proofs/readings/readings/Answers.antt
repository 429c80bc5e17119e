use Rattle.abr_composed.proofs.readings.readings.Goals as goal

pub returns : goal.returns
returns c =
    let l = c in
    let m = l in
    let a = m in
    record {
      inside = a.abr_at-inside.result;
      at = a.abr_at-inside.ensures;
      member = m.abr_member_at-member.result;
      numbered = m.abr_member_at-member.ensures;
      totals = l.abr_link-link.result;
      link = l.abr_link-link.ensures;
      status = c.abr_status.ensures;
    }
