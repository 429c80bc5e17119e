use Rattle.table_entry.proofs.Cases.{loaded-is}
use Rattle.table_entry.proofs.load.load.Goals as goal

pub returns : goal.returns
returns c =
    loaded-is c.args.t.now c.args.i c.params_at-params.ensures c.pace_of-pace.ensures c.payload_at-payload.ensures c.waiting_of-turned.ensures c.instant_of-last.ensures c.instant_of-out_of_rate.ensures c.queue_of-queue.ensures
