-- Exported calls are refused in their order.
use Prim.Native.Nat.{ℕ}
use mathlib.Core.Path.{◌≡◌, refl, sym, ap, subst}
use mathlib.Core.Option.{some}
use lib.Dec.{eqb}
use Rattle.model.specs.State.{empty}
use Rattle.model.specs.Answers.{Answer, Refused, Accepted, Closed, Idle, Sent}
use Rattle.model.specs.Call.{refusal}
use Rattle.model.specs.Step.{step}
use Rattle.model.specs.Run.{final, is_accepted}
use Rattle.model.specs.Orders.{OrderOf}
use Rattle.model.proofs.Orders.{refused-in-order}
use Rattle.abr_answers.specs.Reply.{Reply, reply_of}
use Rattle.exports.specs.Orders.{refusal_returned, ExportsInOrder}
use Rattle.exports.proofs.Transport.{sees, stands}

returned-refusal : (a : Answer) (r : Reply) → r ≡ reply_of a → eqb r.refusal 0 ≡ is_accepted a → refusal_returned r ≡ refusal a
unfolding is_accepted refusal
returned-refusal (Refused n) r e h = rw h (ap (λ (x : Reply). some x.refusal) e)
returned-refusal (Accepted n) r e h = rw h refl
returned-refusal (Closed n k) r e h = rw h refl
returned-refusal Idle r e h = rw h refl
returned-refusal (Sent v x k a n) r e h = rw h refl

pub exports-in-order : ExportsInOrder
exports-in-order cs os t c o p =
    let z = sees (stands cs os t) p in
    subst (OrderOf (final empty cs) c) (sym (returned-refusal (step (final empty cs) c).answer o.returned z.matches.returned z.accepted)) (refused-in-order cs c)
