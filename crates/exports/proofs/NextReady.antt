-- A slot sends exactly from the instant on that abr_next_ready returned.
use Prim.Native.Nat.{ℕ, ◌≤◌, ◌<◌}
use mathlib.Core.Path.{◌≡◌, sym, ap, subst, ◌∙◌}
use mathlib.Core.Logic.{◌≢◌}
use mathlib.Core.Option.{some}
use native.Mathlib.Omega.{arith}
use borrow.Author.Tests.{eq-eqb}
use Rattle.connection.specs.declared.kind.Kind.TheVariants.{Forward, Turned, Data}
use Rattle.model.specs.State.{empty}
use Rattle.model.specs.Answers.{Answer, Refused, Accepted, Closed, Idle, Sent}
use Rattle.model.specs.Call.{slot, goes_to}
use Rattle.model.specs.Step.{step}
use Rattle.model.specs.Run.{final}
use Rattle.model.proofs.Reached.{reached-well-formed}
use Rattle.abr_answers.specs.Reply.{Reply, reply_of}
use Rattle.abr.proofs.Exports.{performs-matches, exports-are-run}
use Rattle.promise_service.specs.Liveness.{IsAccepted}
use Rattle.promise_service.proofs.NextReady.{next-ready}
use Rattle.exports.specs.NextReady.{ExportsNextReady}
use Rattle.exports.proofs.Exports.{accepted-seen}

sent-kind : (v : ℕ) (a : Answer) → goes_to a ≡ some v → (reply_of a).kind ≢ 0
unfolding goes_to
sent-kind v (Refused n) e = let z : ◌≡◌ {A = ℕ} 0 1 = cc in absurd (omega arith)
sent-kind v (Accepted n) e = let z : ◌≡◌ {A = ℕ} 0 1 = cc in absurd (omega arith)
sent-kind v (Closed n k) e = let z : ◌≡◌ {A = ℕ} 0 1 = cc in absurd (omega arith)
sent-kind v Idle e = let z : ◌≡◌ {A = ℕ} 0 1 = cc in absurd (omega arith)
sent-kind v (Sent u x Forward a n) e = λ z. omega (arith, z)
sent-kind v (Sent u x Turned a n) e = λ z. omega (arith, z)
sent-kind v (Sent u x Data a n) e = λ z. omega (arith, z)

pub exports-next-ready : ExportsNextReady
exports-next-ready cs os tr next h t room o p z =
    let s = final empty cs in
    let w = reached-well-formed cs in
    let n = exports-are-run.next cs os tr next h in
    let m = performs-matches w p (exports-are-run.last cs os tr) in
    let a : IsAccepted (step s (slot t room)) = sym (accepted-seen w (slot t room) m) ∙ eq-eqb o.returned.refusal 0 z in
    let k : o.returned.kind ≡ (reply_of (step s (slot t room)).answer).kind = ap (λ (r : Reply). r.kind) m.returned in
    record {
      idle = λ l. k ∙ ap (λ (x : Answer). (reply_of x).kind) ((next-ready cs).idle t room a (subst (λ (i : ℕ). t < i) n l));
      sends = λ l e. let g = (next-ready cs).sends t room a (subst (λ (i : ℕ). i ≤ t) n l) in sent-kind g.name (step s (slot t room)).answer g.goes (sym k ∙ e);
    }
