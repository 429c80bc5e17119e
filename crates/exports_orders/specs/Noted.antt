-- What a caller keeps for the refusals that look at the table, from the calls and the numbers that they returned.
-- It keeps the congestion level and the names of the members. For one connection it keeps the instants of its last
-- made cell and of its last out-of-rate cell. (Document 01, "Turning cells round"; document 02, L1, L5 and L13.)
use Rattle.std.specs.Prelude.{ℕ, Bool, cond, List, [], ◌∷◌, ltb, eqb, Some, None}
use Rattle.connection.specs.Parts.{Instant}
use Rattle.connection_members.specs.Members.{named, on_path}
use Rattle.model.specs.Call.{Call}
use Rattle.model.specs.Aspects.{Sort, opener, closer, arrival, slot_at, another, sort_of, Asked, asks_made, asks_out_of_rate, asks_none, asked_of, OnMembers, of_closed, of_added, of_offered, of_removed, of_slot, of_none, members_of}
use Rattle.abr.specs.Exports.{Observation}
use Rattle.exports.specs.Along.{kept}
use Rattle.exports_cells.specs.Heard.{level_after}

-- what a call that returned 0 makes of what is kept; a refused one leaves it
abbrev pub noted : {K : Type 0} → (Call → K → K) → Call → Observation → K → K
noted next c o k = cond (eqb o.returned.refusal 0) (next c k) k

abbrev pub level_noted : List Call → List Observation → ℕ
level_noted cs os = kept (noted level_after) 0 cs os

-- the names of the members, rising: one more in its place, and without those that pass a test
unfoldable pub with_name : ℕ → List ℕ → List ℕ
with_name x [] = x ∷ []
with_name x (y ∷ ys) = cond (ltb x y) (x ∷ y ∷ ys) (y ∷ with_name x ys)

unfoldable pub without_names : (ℕ → Bool) → List ℕ → List ℕ
without_names f [] = []
without_names f (y ∷ ys) = cond (f y) (without_names f ys) (y ∷ without_names f ys)

-- an adding, a removal, and a close of the path
abbrev pub names_by : OnMembers → List ℕ → List ℕ
names_by (of_closed v) ns = without_names (on_path v) ns
names_by (of_added x) ns = with_name x ns
names_by (of_offered x n) ns = ns
names_by (of_removed x) ns = without_names (named x) ns
names_by of_slot ns = ns
names_by of_none ns = ns

abbrev pub names_after : Call → List ℕ → List ℕ
names_after c ns = names_by (members_of c) ns

abbrev pub names_noted : List Call → List Observation → List ℕ
names_noted cs os = kept (noted names_after) [] cs os

-- the last made cell, and the last out-of-rate cell, since the open
pub record Instants : Type 0 where
  pub made : Instant
  pub out_of_rate : Instant

abbrev pub no_instants : Instants
no_instants = record { made = None; out_of_rate = None }

abbrev pub instants_by : (v : ℕ) → Instants → Sort → Instants
instants_by v i (opener u t p) = cond (eqb u v) no_instants i
instants_by v i (closer u) = cond (eqb u v) no_instants i
instants_by v i (arrival o) = i
instants_by v i (slot_at t) = i
instants_by v i another = i

abbrev pub instants_asked : (v : ℕ) → Instants → Asked → Instants
instants_asked v i (asks_made u t) = cond (eqb u v) (record { made = Some t; out_of_rate = i.out_of_rate }) i
instants_asked v i (asks_out_of_rate u t) = cond (eqb u v) (record { made = i.made; out_of_rate = Some t }) i
instants_asked v i asks_none = i

abbrev pub instants_after : (v : ℕ) → Call → Instants → Instants
instants_after v c i = instants_asked v (instants_by v i (sort_of c)) (asked_of c)

abbrev pub instants_noted : (v : ℕ) → List Call → List Observation → Instants
instants_noted v cs os = kept (noted (instants_after v)) no_instants cs os
