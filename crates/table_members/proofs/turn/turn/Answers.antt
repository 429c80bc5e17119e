use mathlib.Core.Path.{refl}
use native.Mathlib.Omega.{arith}
use Rattle.table_members.proofs.Packed.{members-column}
use Rattle.table_members.proofs.Turns.{turn-after, turn-round, turn-channel}
use borrow.Author.Rules.{rules}
use Rattle.table_members.proofs.turn.turn.Goals as goal

pub returns-then-name-ne-PATH_VCI : goal.returns-then-name-ne-PATH_VCI
returns-then-name-ne-PATH_VCI c = turn-channel _ _ _ c.if-name-ne-PATH_VCI.true

pub returns-in-Some : goal.returns-in-Some
returns-in-Some c = let n = c in let start = n in turn-after _ _ _ _ n.if-name-ne-PATH_VCI.false (omega (arith, start.ranges.last.fits)) refl _ _ n.word_limit.ensures n.count-after.ensures _ n.next.ensures _ c.in-Some.is

pub returns-in-None : goal.returns-in-None
returns-in-None c = let n = c in let start = n in turn-round _ _ _ _ n.if-name-ne-PATH_VCI.false (omega (arith, start.ranges.last.fits)) refl _ _ n.word_limit.ensures n.count-after.ensures _ _ c.word_limit-in-None.ensures c.count_up_to.ensures _ _ n.next.ensures c.in-None.is c.next-in-None.ensures

pub count-after-requires : goal.count-after-requires
count-after-requires c = search (rules, members-column)

pub count_up_to-requires : goal.count_up_to-requires
count_up_to-requires c = search (rules, members-column)
