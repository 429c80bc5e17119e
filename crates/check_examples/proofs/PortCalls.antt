-- They are so, computed; the limit is one of the shares that are.
use mathlib.Core.Path.{refl, ap, ◌∙◌}
use mathlib.Core.List.{[]}
use Rattle.port_share.specs.Demands.{in_range, plain_sum}
use Rattle.port_share.specs.Share.{Share, fair_share}
use Rattle.port_share.proofs.Examples.{examples}
use Rattle.port.specs.Limit.{held}
use Rattle.port.specs.Port.{port_by}
use Rattle.check_examples.specs.PortCalls.{wrong_header, PortCalls}
use Rattle.check_examples.proofs.Witness.{computing}

pub port-calls : PortCalls
unfolding computing port_by held fair_share in_range plain_sum
port-calls = record {
  too_many = refl;
  too_high = refl;
  length = refl;
  length_limited = ap (λ (s : Share). (port_by s []).refusal) examples.nothing ∙ refl;
  header = refl;
  header_limited = ap (λ (s : Share). (port_by s wrong_header).refusal) examples.nothing ∙ refl;
}
