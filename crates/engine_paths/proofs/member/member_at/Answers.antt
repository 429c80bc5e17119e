use Rattle.engine_paths.proofs.MemberCases.{no_address, address-found}
use Rattle.engine_paths.proofs.member.member_at.Goals as goal

pub returns-then-name-ge-NO_NAME : goal.returns-then-name-ge-NO_NAME
returns-then-name-ge-NO_NAME c = no_address _ _ _ c.address_name-name.ensures c.if-name-ge-NO_NAME.true

pub returns : goal.returns
returns c = let e1 = c in address-found _ _ _ e1.address_name-name.ensures e1.if-name-ge-NO_NAME.false c.find.ensures
