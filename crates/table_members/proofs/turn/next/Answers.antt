use Rattle.table_members.proofs.Scans.{scan-next, scan-found, scan-over, scan-end}
use borrow.Author.Rules.{rules}
use Rattle.table_members.proofs.turn.next.Goals as goal

pub returns-then-word-low : goal.returns-then-word-low
returns-then-word-low c = let lp = c in scan-over _ _ _ _ _ lp.requires lp.word_limit-low.ensures lp.loop-i.invariant (search rules) c.if-word-low.true

pub returns-then-word-gt0 : goal.returns-then-word-gt0
returns-then-word-gt0 c = let lp = c in scan-found _ _ _ _ _ lp.requires lp.word_limit-low.ensures lp.loop-i.invariant (search rules) c.if-word-low.false c.if-word-gt0.true

pub loop-i-preserved : goal.loop-i-preserved
loop-i-preserved c = let lp = c in scan-next _ _ _ _ _ lp.requires lp.word_limit-low.ensures lp.loop-i.invariant (search rules) c.if-word-low.false c.if-word-gt0.false

pub returns : goal.returns
returns c = let lp = c in scan-end _ _ _ _ _ lp.requires lp.word_limit-low.ensures lp.loop-i.invariant (search rules)
