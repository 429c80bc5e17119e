-- abr_next_ready returns the earliest of the ready instants that a caller computes.
use Rattle.std.specs.Prelude.{None}
use Prim.Native.Nat.{ℕ, ◌≤◌}
use mathlib.Core.Path.{◌≡◌, refl, sym, subst, ◌∙◌}
use mathlib.Core.List.{List}
use Rattle.connection.specs.Ready.{ready_instant}
use Rattle.model.specs.State.{Entry, free, taken, empty, find}
use Rattle.model.specs.Invariant.{Each}
use Rattle.model.specs.Queries.{entry_ready}
use Rattle.model.specs.Run.{final}
use Rattle.model.proofs.Entries.{each_at}
use Rattle.abr.proofs.Exports.{exports-are-run}
use Rattle.promise_service.proofs.NextReady.{next-ready}
use Rattle.exports_service.specs.Next.{ExportsNext}
use Rattle.exports_service.proofs.Ready.{ready_held}
use Rattle.exports_service.proofs.Slots.{ready-each}

never-each : (ss : List Entry) → Each (λ c. ready_instant c ≡ None) ss → (u : ℕ) → entry_ready (find u ss) ≡ None
unfolding entry_ready
never-each ss h u = go (find u ss) refl
  where
    go : (x : Entry) → find u ss ≡ x → entry_ready x ≡ None
    go free f = refl
    go (taken d) f = each_at (λ c. ready_instant c ≡ None) u ss d f h

pub exports-next : ExportsNext
exports-next cs os x a h next n =
    let s = final empty cs in
    let is = exports-are-run.next cs os x next n in
    record {
      earliest = λ u i r.
          subst (λ (m : ℕ). m ≤ i) (sym is) (ready-each (λ j v. _ ≤ j) s.entries (next-ready cs).first u i (sym (ready_held cs os x u (a u) (h u)) ∙ r) s refl);
      never = λ e u. ready_held cs os x u (a u) (h u) ∙ never-each s.entries ((next-ready cs).never (sym is ∙ e)) u;
    }
