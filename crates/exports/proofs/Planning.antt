-- What an open gave is exported, and its canonical codes are imported.
use Prim.Native.Nat.{ℕ}
use mathlib.Core.Path.{◌≡◌, refl, sym, ap, subst, ◌∙◌}
use mathlib.Core.List.{List}
use mathlib.Core.Option.{Option, none, some}
use lib.Ieee.{Float}
use Rattle.rate_params.specs.declared.params.Params.{Params}
use Rattle.rate.specs.Code.{rate_of}
use Rattle.rate_doubles.specs.declared.export.Exported.{Exported}
use Rattle.rate_doubles.specs.Export.{IsRate}
use Rattle.rate_doubles.specs.RoundTrip.{canonical}
use Rattle.rate_doubles.proofs.Trips.{round_trip}
use Rattle.model.specs.Answers.{Contract}
use Rattle.model.specs.State.{Entry, free, taken, empty, find}
use Rattle.model.specs.Call.{Call}
use Rattle.model.specs.Queries.{entry_contract, contract_of}
use Rattle.model.specs.Run.{final, params_given}
use Rattle.model.proofs.Preserved.{empty-well-formed}
use Rattle.model.proofs.Given.{entry_params, params-given}
use Rattle.abr_answers.specs.declared.planning.AbrImported.{AbrImported}
use Rattle.abr_answers.specs.Planning.{ExportedAs, exact_answer, imported_of, Imports}
use Rattle.abr.specs.Contract.{ReturnsContract}
use Rattle.abr.specs.Exports.{Observation, Transcript, final_words, zeros}
use Rattle.abr.proofs.Exports.{exports-are-run}
use Rattle.exports.specs.Exports.{params_observed}
use Rattle.exports.specs.Planning.{codes_of, ComesBack, Planning}
use Rattle.exports.proofs.Exports.{params-observed}

entry-codes : (x : Entry) → entry_contract x ≡ codes_of (entry_params x)
unfolding entry_contract entry_params
entry-codes free = refl
entry-codes (taken c) = refl

given : (cs : List Call) (v : ℕ) → contract_of (final empty cs) v ≡ codes_of (params_given v cs)
unfolding contract_of
given cs v = entry-codes (find v (final empty cs).entries) ∙ ap codes_of (params-given v cs)

exported :
    (cs : List Call) (os : List Observation) → Transcript cs zeros os → (v n : ℕ) (r : Exported) → ReturnsContract v (final_words zeros os) n r
    → ExportedAs (codes_of (params_observed v none cs os)) n r
exported cs os t v n r h =
    subst (λ (c : Contract). ExportedAs c n r)
    (given cs v ∙ ap codes_of (sym (params-observed v empty empty-well-formed none cs os (exports-are-run.each cs os t))))
    (exports-are-run.contract cs os t v n r h)

-- one double of the three
back : (code : ℕ) (x : Float) → IsRate x (rate_of code) → (a : AbrImported) → Imports x a → a ≡ exact_answer (canonical code)
back code x h a i = i.is ∙ ap imported_of (round_trip code x h)

comes_back : (p : Params) (n : ℕ) (r : Exported) → ExportedAs (codes_of (some p)) n r → ComesBack p r
comes_back p n r h = record {
  pcr = back p.pcr r.pcr h.1.pcr;
  mcr = back p.mcr r.mcr h.1.mcr;
  icr = back p.icr r.icr h.1.icr;
}

pub planning : Planning
planning = record {
  given = given;
  exported = exported;
  imported = λ cs os t v n r h p e. comes_back p n r (subst (λ (o : Option Params). ExportedAs (codes_of o) n r) e (exported cs os t v n r h));
}
