use native.Mathlib.Omega.{arith}
use Rattle.table.specs.Layout.{record_width}
use Rattle.table_entry.proofs.Cleared.{cleared}
use Rattle.table_entry.proofs.record.clear_record.Goals as goal

pub returns : goal.returns
returns c = cleared c.args.t.now _ c.args.b _ record_width (omega arith) (omega arith) (c.fill.ensures.after (λ y e. e))
