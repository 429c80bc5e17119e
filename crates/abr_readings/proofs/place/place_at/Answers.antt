use Rattle.std.proofs.Common.{◌<◌, sym, subst}
use Rattle.model.specs.State.{capacity}
use Rattle.abr_readings.specs.declared.place.Place.{Place}
use Rattle.abr_readings.proofs.LeafCases.{beyond-leaves, free-leaf, leaf-in-use}
use Rattle.abr_readings.proofs.place.place_at.Goals as goal

pub returns-then-i-ge-CAPACITY : goal.returns-then-i-ge-CAPACITY
returns-then-i-ge-CAPACITY c = record { inside = tt; points = beyond-leaves c.args.t.now c.args.leaf c.if-i-ge-CAPACITY.true }

pub returns-then-name-eq0 : goal.returns-then-name-eq0
returns-then-name-eq0 c = record { inside = tt; points = free-leaf c.args.t.now c.args.leaf c.if-i-ge-CAPACITY.false c.if-name-eq0.true }

pub returns : goal.returns
returns c = record {
  inside = subst (λ (p : Place). p.entry < capacity) (sym c.own_place.ensures) c.if-i-ge-CAPACITY.false;
  points = leaf-in-use c.args.t.now c.args.leaf c.if-i-ge-CAPACITY.false c.if-name-eq0.false c.own_place.ensures;
}
