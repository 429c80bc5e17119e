use borrow.Author.Rules.{rules}
use Rattle.engine_slots.proofs.SendCases.{never-behind, forward-named, forward-in-range, forward-out}
use Rattle.engine_slots.proofs.send.send_forward.Goals as goal

pub returns-then-not-leads_neighbour : goal.returns-then-not-leads_neighbour
returns-then-not-leads_neighbour c =
    let n = c in
    let st = n in
    record {
      sends = λ s x f e kind. absurd (never-behind s st.args.time st.args.i x f e st.requires.0 n.leads_neighbour.result n.leads_neighbour.ensures (c.if-not-leads_neighbour.true));
    }

pub put_forward-requires : goal.put_forward-requires
put_forward-requires c =
    let st = c in
    (search rules, forward-named st.args.time st.args.t.now st.args.i c.load-c.ensures c.sent_forward-next.ensures)

pub update_winner_source-requires : goal.update_winner_source-requires
update_winner_source-requires c =
    let st = c in
    (st.requires.0, forward-in-range st.args.time st.args.t.now st.args.i c.load-c.ensures c.sent_forward-next.ensures st.requires.1)

pub returns : goal.returns
returns c =
    let p = c in
    let n = p in
    let ld = n in
    let st = ld in
    record {
      sends = λ s x f e kind.
          forward-out s st.args.time st.args.i x f e st.requires.0 ld.load-c.result ld.load-c.ensures st.args.cell.now p.put_forward.new.cell n.sent_forward-next.result n.sent_forward-next.ensures p.put_forward.ensures c.update_winner_source.ensures kind;
    }
