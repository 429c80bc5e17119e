-- The members of a path are served in turn, of exported calls.
use Prim.Native.Nat.{ℕ}
use mathlib.Core.Path.{◌≡◌, ap, subst, ◌∙◌}
use mathlib.Core.Bool.{Bool}
use lib.Dec.{eqb}
use Rattle.connection_members.specs.Path.{path_of}
use Rattle.model.specs.State.{State, empty}
use Rattle.model.specs.Call.{Call}
use Rattle.model.specs.Aspects.{sort_of}
use Rattle.model.specs.Run.{final}
use Rattle.abr.specs.Exports.{Observation, final_words, zeros}
use Rattle.promise_service.specs.Fairness.{data_told, data_cells_of, BothGoOn, Stretch, GoOn}
use Rattle.promise_service.proofs.Fairness.{fairness}
use Rattle.exports.specs.Along.{kept, Along}
use Rattle.exports_service.specs.Fairness.{told_returned, cells_seen, no_cells, BothGoOnSeen, data_returned_of, ExportsFair}
use Rattle.exports.proofs.Transport.{Stands, Sees, stands-first, stands, carry, kept-so, sum-seen}
use Rattle.exports_service.proofs.MemberCells.{told-number, Counts, counts, none-count, waits_in}

go_on : (v a b : ℕ) (s : State) (c : Call) (o : Observation) (f : ℕ → ℕ) → Counts f s → Sees s c o → BothGoOnSeen v a b f c o → BothGoOn v a b s c
go_on v a b s c o f m z h =
    subst (λ (y : Bool). GoOn v a b (waits_in s) y (sort_of c)) z.accepted (subst (λ (g : ℕ → ℕ). GoOn v a b g (eqb o.returned.refusal 0) (sort_of c)) m h)

pub exports-fair : ExportsFair
exports-fair cs ds os ps a b x y e h =
    let s = final empty cs in
    let st : Stands s (final_words zeros os) = stands cs os x in
    let k : ℕ → ℕ = kept cells_seen no_cells cs os in
    let m : Counts k s = kept-so cells_seen Counts counts empty zeros stands-first no_cells none-count cs os x in
    let g : Stretch (path_of a) a b s ds =
    carry cells_seen Counts counts (λ s k cs os. Along cells_seen (BothGoOnSeen (path_of a) a b) k cs os → Stretch (path_of a) a b s cs) (λ s k _. tt)
    (λ s c o k cs os m z r h. (go_on (path_of a) a b s c o k m z h.0, r h.1)) s (final_words zeros os) st k m ds ps y h in
    rw (told a st, told b st) (fairness.fair cs ds a b e g)
  where
    told : (x : ℕ) → Stands (final empty cs) (final_words zeros os) → data_returned_of x ds ps ≡ data_cells_of x (final empty cs) ds
    told x st = sum-seen (λ c o. told_returned x o.returned) (λ c a. data_told x a) (λ s c o z. ap (told_returned x) z.matches.returned ∙ told-number x _) (final empty cs) (final_words zeros os) st ds ps y
