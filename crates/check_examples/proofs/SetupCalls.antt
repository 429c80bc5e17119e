-- TBE and FRTT of opens, computed.
use mathlib.Core.Path.{refl}
use Rattle.model.specs.Step.{refuse, open_path_step}
use Rattle.model.specs.Queries.{entry_acr, acr_of, entry_contract, contract_of}
use Rattle.check_examples.specs.SetupCalls.{SetupCalls}
use Rattle.check_examples.proofs.Witness.{computing}

pub setup-calls : SetupCalls
unfolding computing refuse open_path_step entry_acr acr_of entry_contract contract_of
setup-calls = record {
  rates = refl;
  both = refl;
  round_trip = refl;
  late = refl;
  exposure = refl;
  widest = refl;
  of_path = refl;
  trip_of_path = refl;
  crm_one = refl;
  crm_two = refl;
  lowered = refl;
  minimum = refl;
  no_minimum = refl;
  no_trip = refl;
  enough = refl;
  starts = refl;
  sends = refl;
  first = refl;
  idles = refl;
  given = refl;
}
