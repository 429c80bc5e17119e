-- The six words, one after the other, fill octets 6 to 53.
use Rattle.std.proofs.Common.{rules}
use Rattle.cell.proofs.Stores.{payload-put}
use Rattle.cell_write.proofs.put.put_payload.Goals as goal

pub returns : goal.returns
returns c =
    payload-put c.args.cell.now c.args.p (search rules) c.put_word.ensures c.put_word-2.ensures c.put_word-3.ensures
    c.put_word-4.ensures c.put_word-5.ensures c.put_word-6.ensures
