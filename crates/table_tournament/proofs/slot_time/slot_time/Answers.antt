use Prim.Native.Nat.{ℕ, ◌-◌, min, max}
use mathlib.Core.Path.{◌≡◌, ap, ap₂, ◌∙◌}
use mathlib.Core.List.{List}
use borrow.Author.Rules.{rules}
use lib.ListN.{get_or}
use Rattle.table.specs.Layout.{last_at}
use Rattle.table.proofs.Words.{last-at}
use Rattle.table_tournament.specs.Next.{GivesNext, GivesSlotTime}
use Rattle.table_tournament.proofs.slot_time.slot_time.Goals as goal

-- from the next ready instant and the word of the last accepted time
gives-slot-time : (l : List ℕ) (t lag ready r : ℕ) → GivesNext l ready → r ≡ min t (max ready (max (get_or l last_at 0) (t - lag))) → GivesSlotTime l t lag r
gives-slot-time l t lag ready r n e = record {
  is = λ s w q. e ∙ ap (min t) (ap₂ max (n.is s w q) (ap (λ (x : ℕ). max x (t - lag)) (last-at s q)));
}

pub returns : goal.returns
returns c = gives-slot-time _ _ _ _ _ c.next_ready-ready.ensures (search rules)
