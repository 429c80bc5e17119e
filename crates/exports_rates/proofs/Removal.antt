-- A removal is accepted exactly of a member, and answers what waits on it.
use Prim.Native.Nat.{ℕ, ◌<◌}
use mathlib.Core.Path.{◌≡◌, refl, sym, ap, ◌∙◌}
use mathlib.Core.Bool.{Bool, true, false, cond, ◌&&◌, not}
use native.Mathlib.Omega.{arith}
use mathlib.Core.List.{List, [], ◌∷◌}
use Rattle.laws.specs.Require.{require}
use Rattle.cell.specs.Name.{no_name, address_fits, address_name}
use Rattle.cell.proofs.Names.{pair-out}
use Rattle.connection_members.specs.Path.{path_vci, path_of}
use Rattle.connection_members.specs.Members.{Member, named, is_member, cells_of}
use Rattle.connection_members.specs.Invariant.{ValidMember}
use Rattle.laws.specs.All.{All}
use Rattle.connection_members.proofs.Lists.{all_named, cells-none}
use Rattle.connection_members.proofs.Names.{path-of-address}
use Rattle.connection.specs.declared.parts.Connection.{Connection}
use Rattle.model.specs.State.{State, Entry, free, taken, is_free, find, leaf_of}
use Rattle.model.specs.Invariant.{WellFormed}
use Rattle.model.specs.Answers.{Answer}
use Rattle.model.specs.Call.{removing, closed_cells}
use Rattle.model.specs.Step.{refuse, discard, of_open, of_member, remove_step, without_one, step}
use Rattle.model.specs.Run.{is_accepted}

pub record Removal (s : State) (vpi vci : ℕ) (a : Answer) : Type 0 where
  pub accepted : is_accepted a ≡ is_member (address_name vpi vci) s.members
  pub cells : closed_cells a ≡ cells_of (address_name vpi vci) s.members

remove-answer : (s : State) (b : Bool) (n leaf : ℕ) (g : Connection → State) (x : Entry) → let a = (of_open s x (λ c. require (refuse s 28) b (discard n leaf s (g c)))).answer in
    (is_accepted a ≡ (not (is_free x) && b)) × (closed_cells a ≡ cond (not (is_free x) && b) n 0)
unfolding of_open require refuse discard is_accepted closed_cells is_free
remove-answer s b n leaf g free = (refl, refl)
remove-answer s true n leaf g (taken c) = (refl, refl)
remove-answer s false n leaf g (taken c) = (refl, refl)

member-cells : (s : State) (x : ℕ) → cond (is_member x s.members) (cells_of x s.members) 0 ≡ cells_of x s.members
member-cells s x = go (is_member x s.members) refl
  where
    go : (b : Bool) → is_member x s.members ≡ b → cond b (cells_of x s.members) 0 ≡ cells_of x s.members
    go true m = refl
    go false m = sym (cells-none (named x) s.members m)

and-false : (a : Bool) → (a && false) ≡ false
and-false true = refl
and-false false = refl

all_coded : (ms : List Member) → All ValidMember ms → All (λ m. m.name < no_name) ms
all_coded [] h = tt
all_coded (m ∷ ms) h = (h.0.coded, all_coded ms h.1)

-- a member's pair is within the ranges, and its path is open
member-fits : (s : State) → WellFormed s → (vpi vci : ℕ) → is_member (address_name vpi vci) s.members ≡ true → address_fits vpi vci ≡ true
member-fits s w vpi vci m = go (address_fits vpi vci) refl
  where
    go : (b : Bool) → address_fits vpi vci ≡ b → b ≡ true
    go true e = refl
    go false e =
        let l : address_name vpi vci < no_name = all_named (λ y. y < no_name) (address_name vpi vci) s.members (all_coded s.members w.members.valid.each) m in
        absurd (omega (arith, l, pair-out vpi vci e))

member-open : (s : State) → WellFormed s → (vpi vci : ℕ)
    → (not (is_free (find (address_name vpi path_vci) s.entries)) && (address_fits vpi vci && is_member (address_name vpi vci) s.members)) ≡ is_member (address_name vpi vci) s.members
member-open s w vpi vci = go (is_member (address_name vpi vci) s.members) refl
  where
    go : (b : Bool) → is_member (address_name vpi vci) s.members ≡ b → (not (is_free (find (address_name vpi path_vci) s.entries)) && (address_fits vpi vci && b)) ≡ b
    go true m =
        let f = member-fits s w vpi vci m in
        let e : is_free (find (address_name vpi path_vci) s.entries) ≡ false = ap (λ (v : ℕ). is_free (find v s.entries)) (sym (path-of-address vpi vci f)) ∙ w.members.on_open_path (address_name vpi vci) m in
        rw (e, f) refl
    go false m = ap (λ (b : Bool). not (is_free (find (address_name vpi path_vci) s.entries)) && b) (and-false (address_fits vpi vci)) ∙ and-false (not (is_free (find (address_name vpi path_vci) s.entries)))

pub removal : {s : State} → WellFormed s → (vpi vci : ℕ) → Removal s vpi vci (step s (removing vpi vci)).answer
unfolding step remove_step of_member
removal {s} w vpi vci =
    let x = address_name vpi vci in
    let a = remove-answer s (address_fits vpi vci && is_member x s.members) (cells_of x s.members) (leaf_of (path_of x) s) (λ c. without_one x c s) (find (address_name vpi path_vci) s.entries) in
    let e = member-open s w vpi vci in
    record { accepted = a.0 ∙ e; cells = a.1 ∙ ap (λ (b : Bool). cond b (cells_of x s.members) 0) e ∙ member-cells s x }
