use Rattle.abr_readings.proofs.MemberCases.{beyond-members, no-member-there, member-there}
use Rattle.abr_readings.proofs.members.read_member_at.Goals as goal

pub returns-then-i-ge-MEMBER_CAPACITY : goal.returns-then-i-ge-MEMBER_CAPACITY
returns-then-i-ge-MEMBER_CAPACITY c = let a = c.args in beyond-members a.t.now a.number c.if-i-ge-MEMBER_CAPACITY.true

pub returns-then-word-eq0 : goal.returns-then-word-eq0
returns-then-word-eq0 c =
    let i = c in
    let a = i.args in
    no-member-there a.t.now a.number i.if-i-ge-MEMBER_CAPACITY.false c.if-word-eq0.true

pub returns : goal.returns
returns c =
    let i = c in
    let a = i.args in
    member-there a.t.now a.number i.if-i-ge-MEMBER_CAPACITY.false c.if-word-eq0.false
