-- What the judge of a trace returns. (Document 02, L11.)
use Rattle.std.specs.Prelude.{Some, None, Ok, Err}
use Rattle.laws.specs.Refusals.{number}
use Rattle.trace_judge.specs.Rules.{Verdict}
pub use Rattle.abr_answers.specs.declared.traces.AbrVerdict.{AbrVerdict}

-- the rule and the cell count where the refusal is 0; of a trace that passes both are 0
abbrev pub judged_of : Verdict → AbrVerdict
judged_of (Err r) = record { refusal = number r; rule = 0; cell = 0 }
judged_of (Ok None) = record { refusal = 0; rule = 0; cell = 0 }
judged_of (Ok (Some b)) = record { refusal = 0; rule = b.rule; cell = b.cell }
