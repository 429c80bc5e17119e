use Rattle.table_entry.proofs.Cases.{first-line-is}
use Rattle.table_entry.proofs.load.load_first_line.Goals as goal

pub returns : goal.returns
returns c =
    first-line-is c.args.t.now c.args.i c.only_n-params.ensures c.pace_of-pace.ensures c.no_payload-payload.ensures c.waiting_of-turned.ensures c.queue_of-queue.ensures
