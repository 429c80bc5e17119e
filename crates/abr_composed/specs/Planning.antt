-- An export of a contract, and an import of its peak.
use Rattle.std.specs.Prelude.{ℕ, List}
use Rattle.rate_doubles.specs.declared.export.Exported.{Exported}
use Rattle.abr_answers.specs.declared.planning.AbrImported.{AbrImported}
use Rattle.abr_answers.specs.Planning.{Imports}
use Rattle.abr.specs.Contract.{ReturnsContract}

pub record PeakBack (v : ℕ) (l : List ℕ) (refusal : ℕ) (r : AbrImported) : Type 0 where
  pub rates : Exported
  pub exported : ReturnsContract v l refusal rates
  pub imported : Imports rates.pcr r
