-- After every list of calls, exporting a connection's contract gives the rates that its open gave. Importing them
-- gives their canonical codes. (Document 02, L8.)
use Rattle.std.specs.Prelude.{ℕ, ◌≡◌, List}
use Rattle.std.proofs.Math.Option.{Option, none, some}
use Rattle.rate_params.specs.declared.params.Params.{Params}
use Rattle.rate_doubles.specs.declared.export.Exported.{Exported}
use Rattle.rate_doubles.specs.RoundTrip.{canonical}
use Rattle.model.specs.Answers.{Contract, NoContract, Codes}
use Rattle.model.specs.State.{empty}
use Rattle.model.specs.Call.{Call}
use Rattle.model.specs.Queries.{contract_of}
use Rattle.model.specs.Run.{final, params_given}
use Rattle.abr_answers.specs.declared.planning.AbrImported.{AbrImported}
use Rattle.abr_answers.specs.Planning.{ExportedAs, exact_answer, Imports}
use Rattle.abr.specs.Contract.{ReturnsContract}
use Rattle.abr.specs.Exports.{Observation, Transcript, final_words, zeros}
use Rattle.exports.specs.Exports.{params_observed}

-- the contract of the parameters that an open gave; none if the name is not open
abbrev pub codes_of : Option Params → Contract
codes_of none = NoContract
codes_of (some p) = Codes p.pcr p.mcr p.icr

-- what abr_import returns for each of the doubles: the canonical code, and no remainder
pub record ComesBack (p : Params) (r : Exported) : Type 0 where
  pub pcr : (a : AbrImported) → Imports r.pcr a → a ≡ exact_answer (canonical p.pcr)
  pub mcr : (a : AbrImported) → Imports r.mcr a → a ≡ exact_answer (canonical p.mcr)
  pub icr : (a : AbrImported) → Imports r.icr a → a ≡ exact_answer (canonical p.icr)

pub record Planning : Type 0 where
  -- told from the calls and answers alone
  pub given : (cs : List Call) (v : ℕ) → contract_of (final empty cs) v ≡ codes_of (params_given v cs)
  -- the same of exported calls from the zero table, and what abr_export then returns
  pub exported :
      (cs : List Call) (os : List Observation) → Transcript cs zeros os → (v n : ℕ) (r : Exported) → ReturnsContract v (final_words zeros os) n r
      → ExportedAs (codes_of (params_observed v none cs os)) n r
  pub imported :
      (cs : List Call) (os : List Observation) → Transcript cs zeros os → (v n : ℕ) (r : Exported) → ReturnsContract v (final_words zeros os) n r
      → (p : Params) → params_observed v none cs os ≡ some p → ComesBack p r
