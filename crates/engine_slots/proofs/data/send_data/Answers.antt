use mathlib.Core.Path.{sym, subst, ◌∙◌}
use Rattle.connection.specs.declared.parts.Connection.{Connection}
use Rattle.connection.specs.Range.{InRange, CountHasRoom}
use Rattle.table.specs.Loading.{connection_at}
use Rattle.table.proofs.FirstLine.{line-ranged}
use Rattle.table.proofs.Loaded.{load-ranged, load-room}
use Rattle.table_store.specs.Updates.{PacedUpdates}
use Rattle.engine.proofs.Members.{is-path, no-path}
use Rattle.engine_slots.proofs.DataCases.{data-ranged, served-ranged, channel-out, member-out}
use Rattle.engine_slots.proofs.data.send_data.Goals.{After-load_first_line-line}
use Rattle.engine_slots.proofs.data.send_data.Goals as goal

-- the line that is read again lies in range, whatever the words are, and so does what a data cell makes of it
line-range : (c : After-load_first_line-line) → InRange c.load_first_line-line.result
line-range c =
    let m = c.serve-member.new.t in
    let i = c.args.i in
    subst InRange (sym c.load_first_line-line.ensures) (line-ranged (connection_at m i) (load-ranged m i))

pub update_winner_paced-requires : goal.update_winner_paced-requires
update_winner_paced-requires c =
    let line-range : InRange c.load_first_line-line.result = let m = c.serve-member.new.t in let i = c.args.i in subst InRange (sym c.load_first_line-line.ensures) (line-ranged (connection_at m i) (load-ranged m i)) in
    let next-range : InRange c.sent_data-next.result = let ld = c in let m = ld.serve-member.new.t in let st = c in subst InRange (sym c.sent_data-next.ensures) (data-ranged st.args.time ld.load_first_line-line.result st.requires.1.0 (line-range) (subst (λ (x : Connection). CountHasRoom x.pace) (sym ld.load_first_line-line.ensures) (load-room m st.args.i))) in
    (c.requires.0, subst InRange (sym c.with_served.ensures) (served-ranged _ _ (next-range)))

pub returns-then-c-eq-PATH_VCI : goal.returns-then-c-eq-PATH_VCI
returns-then-c-eq-PATH_VCI c =
    let st = c in
    let sv = c in
    let ld = c in
    let sd = c in
    let u = c in
    record {
      sends = λ s x f e kind q waits old.
          let z = member-out s st.args.time st.args.i x f kind e old st.args.c q sv.serve-member.result (is-path st.args.c.name c.if-c-eq-PATH_VCI.true) waits sv.serve-member.ensures st.requires.0 ld.load_first_line-line.result ld.load_first_line-line.ensures sd.sent_data-next.result sd.sent_data-next.ensures
          (subst (λ (y : Connection). PacedUpdates sv.serve-member.new.t u.update_winner_paced.new.t st.args.i y) c.with_served.ensures u.update_winner_paced.ensures) in
          (z.0, c.data_answer.ensures ∙ z.1, z.2);
    }

pub update_winner_paced-requires-2 : goal.update_winner_paced-requires-2
update_winner_paced-requires-2 c =
    let st = c in
    let p = st.requires.1 in
    (st.requires.0, subst InRange (sym c.sent_data.ensures) (data-ranged st.args.time st.args.c p.0 p.1.1.0 p.1.1.1))

pub returns : goal.returns
returns c =
    let st = c in
    let sd = c in
    record {
      sends = λ s x f e kind q waits old.
          let z = channel-out s st.args.time st.args.i x f kind e old st.args.c q sd.sent_data.result sd.sent_data.ensures c.update_winner_paced-2.ensures (no-path st.args.c.name c.if-c-eq-PATH_VCI.false) in
          (z.0, c.data_answer-2.ensures ∙ z.1, z.2);
    }

pub sent_data-next-requires : goal.sent_data-next-requires
sent_data-next-requires c = line-range c
