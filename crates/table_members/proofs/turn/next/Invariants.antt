-- The loop's invariant: no member from word `first` up to word i has data.
use Rattle.table_members.proofs.Scans.{Scanning}
use Rattle.table_members.proofs.turn.next.Given as goal

abbrev pub invariant-loop-i : goal.invariant-loop-i
invariant-loop-i l = Scanning l.t l.first l.top l.i
