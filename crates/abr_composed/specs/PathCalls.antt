-- The exported calls on a path and a member in a row make a transcript, from the words at entry to the words at exit.
-- (Document 02, L13.)
use Rattle.std.specs.Prelude.{ℕ, List, [], ◌∷◌}
use Rattle.connection_members.specs.Path.{path_vci}
use Rattle.model.specs.Call.{Call, closing, opening_path, adding, offering_member, removing}
use Rattle.abr_answers.specs.declared.calls.AbrClosed.{AbrClosed}
use Rattle.abr.specs.Exports.{Observation, after_close, Transcript}
use Rattle.abr_composed.specs.declared.Arguments.{Arguments}

abbrev pub path_calls_of : Arguments → List Call
path_calls_of a =
    opening_path a.vpi a.time a.params ∷ adding a.vpi a.vci ∷ offering_member a.vpi a.vci a.cells ∷ removing a.vpi a.vci
    ∷ closing a.vpi path_vci ∷ []

-- what was observed of each call on the way
pub record PathCalls (a : Arguments) (before after : List ℕ) (r : AbrClosed) : Type 0 where
  pub opened : Observation
  pub added : Observation
  pub offered : Observation
  pub removed : Observation
  pub transcript : Transcript (path_calls_of a) before (opened ∷ added ∷ offered ∷ removed ∷ after_close after r ∷ [])
