-- Five stores, the last of the check of the four before it.
use Rattle.std.proofs.Common.{rules}
use Rattle.cell.proofs.Stores.{header-put}
use Rattle.cell_write.proofs.put.put_header.Goals as goal

pub returns : goal.returns
returns c = header-put _ _ _ _ _ (search rules) c.header_check-check.ensures
