use Prim.Native.Nat.{◌<◌}
use mathlib.Core.Path.{sym, subst}
use Rattle.cell.specs.Name.{no_name}
use Rattle.connection.specs.declared.parts.Connection.{Connection}
use Rattle.connection.specs.declared.kind.Kind.TheVariants.{Forward, Turned}
use Rattle.connection.specs.Range.{InRange, CountHasRoom}
use Rattle.table.proofs.Loaded.{load-named, load-room, load-ranged}
use Rattle.table.proofs.FirstLine.{line-ranged}
use Rattle.table.specs.Loading.{connection_at}
use Rattle.engine_slots.proofs.KindCases.{kind-sent, data-sent}
use Rattle.engine_slots.proofs.send.send.Goals.{After-load_first_line-line}
use Rattle.engine_slots.proofs.send.send.Goals as goal

-- what the first line shows lies in range, whatever the words are
line-range : (c : After-load_first_line-line) → InRange c.load_first_line-line.result
line-range c =
    let a = c.args in
    subst InRange (sym c.load_first_line-line.ensures) (line-ranged (connection_at a.t.now a.i) (load-ranged a.t.now a.i))

pub kind_at-requires : goal.kind_at-requires
kind_at-requires c =
    line-range c

pub send_data-requires : goal.send_data-requires
send_data-requires c =
    let line-range : InRange c.load_first_line-line.result = let a = c.args in subst InRange (sym c.load_first_line-line.ensures) (line-ranged (connection_at a.t.now a.i) (load-ranged a.t.now a.i)) in
    let st = c in
    let ld = c in
    (st.requires.0, (st.requires.1, (subst (λ (x : Connection). x.name < no_name) (sym ld.load_first_line-line.ensures) (load-named st.args.t.now st.args.i), (line-range, subst (λ (x : Connection). CountHasRoom x.pace) (sym ld.load_first_line-line.ensures) (load-room st.args.t.now st.args.i)))))

pub returns-in-Forward : goal.returns-in-Forward
returns-in-Forward c =
    let st = c in
    record {
      sends = λ s x f e waits.
          kind-sent s st.args.time st.args.i x f e st.requires.0 Forward _ c.load_first_line-line.ensures _ c.kind_at.ensures c.in-Forward.is c.send_forward.ensures;
    }

pub returns-in-Turned : goal.returns-in-Turned
returns-in-Turned c =
    let st = c in
    record {
      sends = λ s x f e waits.
          kind-sent s st.args.time st.args.i x f e st.requires.0 Turned _ c.load_first_line-line.ensures _ c.kind_at.ensures c.in-Turned.is c.send_turned.ensures;
    }

pub returns-in-Data : goal.returns-in-Data
returns-in-Data c =
    let st = c in
    record {
      sends = λ s x f e waits.
          data-sent s st.args.time st.args.i x f e st.requires.0 _ c.load_first_line-line.ensures _ c.kind_at.ensures c.in-Data.is waits c.send_data.ensures st.args.cell.now;
    }
