-- Made cells, and out-of-rate cells, lie 100 ms apart, of exported calls.
use Prim.Native.Nat.{ℕ}
use mathlib.Core.List.{List}
use Rattle.model.specs.Call.{Call}
use Rattle.promise_cells.specs.Spaced.{Apart}
use Rattle.promise_cells.proofs.OutOfRate.{out-of-rate-spaced}
use Rattle.promise_cells.proofs.Spaced.{makings-spaced}
use Rattle.exports.proofs.Transport.{sees, stands, stands_after, was-accepted}
use Rattle.exports_cells.specs.Spaced.{SeenApart, ExportsSpaced}

seen_apart : (vpi vci : ℕ) (one two : Call) (t later : ℕ) → ((cs ds : List Call) → Apart cs ds vpi vci one two t later) → SeenApart vpi vci one two t later
seen_apart vpi vci one two t later apart cs ds os ps o p x y u z h a b =
    let first = sees (stands cs os x) y in
    let second = sees (stands_after first.next ds ps u) z in
    apart cs ds h (was-accepted first a) (was-accepted second b)

pub exports-spaced : ExportsSpaced
exports-spaced = record {
  made = λ vpi vci t later. seen_apart vpi vci _ _ t later (λ cs ds. makings-spaced cs ds vpi vci t later);
  out_of_rate_cells = λ vpi vci t room later later_room. seen_apart vpi vci _ _ t later (λ cs ds. out-of-rate-spaced cs ds vpi vci t room later later_room);
}
