-- What a caller knows after exported calls is so: which names are open, and which are members.
use Prim.Native.Nat.{ℕ}
use mathlib.Core.Path.{◌≡◌, refl, sym, ◌∙◌}
use mathlib.Core.Bool.{false}
use mathlib.Core.List.{List}
use mathlib.Core.Option.{none, some}
use native.Mathlib.Omega.{arith}
use Rattle.rate_params.specs.declared.params.Params.{Params}
use Rattle.connection.specs.declared.parts.Connection.{Connection}
use Rattle.model.specs.State.{State, Entry, free, taken, is_free, empty, find}
use Rattle.model.specs.Call.{Call}
use Rattle.model.specs.Run.{final}
use Rattle.model.proofs.Preserved.{empty-well-formed}
use Rattle.model.proofs.Given.{entry_params, params_at, params-given}
use Rattle.abr.specs.Exports.{Observation, Transcript, zeros}
use Rattle.abr.proofs.Exports.{exports-are-run}
use Rattle.exports.specs.Exports.{params_observed}
use Rattle.exports.specs.Returned.{no_member, members_seen}
use Rattle.exports.proofs.Returned.{Knows, none-known}
use Rattle.exports.proofs.Exports.{params-observed}
use Rattle.exports.proofs.Recorded.{knows-run}
use Rattle.exports.specs.Known.{Opened}

-- a connection under a name
pub record Held (v : ℕ) (s : State) : Type 0 where
  pub holder : Connection
  pub found : find v s.entries ≡ taken holder

module _ (cs : List Call) (os : List Observation) (t : Transcript cs zeros os) where
  pub members-known : Knows (members_seen no_member cs os) (final empty cs)
  members-known = knows-run empty-well-formed no_member none-known cs os (exports-are-run.each cs os t)

  pub params-known : (v : ℕ) → params_observed v none cs os ≡ params_at v (final empty cs)
  params-known v = params-observed v empty empty-well-formed none cs os (exports-are-run.each cs os t) ∙ sym (params-given v cs)

  given-taken : (x : Entry) (p : Params) → entry_params x ≡ some p → is_free x ≡ false
  unfolding entry_params is_free
  given-taken free p e = let z : ◌≡◌ {A = ℕ} 0 1 = cc in absurd (omega arith)
  given-taken (taken c) p e = refl

  pub is_open_lem : (v : ℕ) → Opened cs os v → is_free (find v (final empty cs).entries) ≡ false
  is_open_lem v h = given-taken (find v (final empty cs).entries) h.params (sym (params-known v) ∙ h.given)

  taken-given : (v : ℕ) (x : Entry) → params_observed v none cs os ≡ entry_params x → is_free x ≡ false → Opened cs os v
  unfolding entry_params is_free
  taken-given v free e q = let z : ◌≡◌ {A = ℕ} 0 1 = cc in absurd (omega arith)
  taken-given v (taken c) e q = record { params = c.rate.params; given = e }

  pub known-open : (v : ℕ) → is_free (find v (final empty cs).entries) ≡ false → Opened cs os v
  known-open v q = taken-given v (find v (final empty cs).entries) (params-known v) q
