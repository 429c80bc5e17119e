-- What waits on each member is what a caller counts. Offers that returned 0 bring it, and slots that return the
-- member's pair take it. A removal and a close of the path end it.
use Prim.Native.Nat.{ℕ, ◌+◌, ◌-◌}
use mathlib.Core.Path.{◌≡◌, refl, sym, ap, ◌∙◌}
use mathlib.Core.Bool.{Bool, true, false, cond}
use mathlib.Core.Option.{Option, none, some}
use mathlib.Core.List.{List}
use native.Mathlib.Omega.{arith}
use lib.Dec.{eqb}
use borrow.Author.Tests.{eqb-true}
use Rattle.connection_members.specs.Members.{named, on_path, is_member, cells_where, cells_of, Member}
use Rattle.connection_members.specs.Turn.{turn, after_serving}
use Rattle.connection_members.proofs.Lists.{cells-none, without-cells-of, with-member-cells, with-cells-of}
use Rattle.connection_members.proofs.Turns.{turn-picks}
use Rattle.connection.specs.declared.parts.Connection.{Connection}
use Rattle.connection.specs.declared.kind.Kind.{Kind}
use Rattle.connection.specs.declared.kind.Kind.TheVariants.{Forward, Turned, Data}
use Rattle.connection.specs.Slot.{member_served}
use Rattle.model.specs.State.{State, taken, empty, find}
use Rattle.model.specs.Invariant.{WellFormed}
use Rattle.model.specs.Answers.{Answer, Refused, Accepted, Closed, Idle, Sent}
use Rattle.model.specs.Step.{name_answered, step}
use Rattle.model.specs.Run.{is_accepted}
use Rattle.model.specs.Conservation.{data_in}
use Rattle.model.proofs.Conservation.{cond-zero}
use Rattle.model.proofs.ToMembers.{ToMembers, refused_kept, none_touched, idle_kept, all_closed, one_added, one_offered, one_removed, one_served, to-members}
use Rattle.abr_answers.specs.Reply.{reply_of}
use Rattle.model.specs.Aspects.{OnMembers}
use Rattle.promise_service.specs.Fairness.{data_told}
use Rattle.exports.proofs.Returned.{back, open-alone}
use Rattle.exports_service.specs.Fairness.{told_returned, cells_after, cells_seen, no_cells, cells_by}
use Rattle.exports.proofs.Transport.{Keeps}

-- the data cell that a slot returned is the one that it told
pub told-number : (x : ℕ) (a : Answer) → told_returned x (reply_of a) ≡ data_told x a
unfolding data_told data_in
told-number x (Refused n) = refl
told-number x (Accepted n) = refl
told-number x (Closed n k) = refl
told-number x Idle = refl
told-number x (Sent v y Forward a n) = sym (cond-zero (eqb y x))
told-number x (Sent v y Turned a n) = sym (cond-zero (eqb y x))
told-number x (Sent v y Data a n) = ap (λ (z : ℕ). cond (eqb z x) 1 0) (back y)

-- what waits on the members of a state
abbrev pub waits_in : State → ℕ → ℕ
waits_in s x = cells_of x s.members

-- a slot's cell
one_less : (b : Bool) (m n : ℕ) → (b ≡ true → m ≡ n) → cond b (m - 1) n ≡ n - cond b 1 0
one_less true m n h = ap (λ (k : ℕ). k - 1) (h refl)
one_less false m n h = omega arith

none-less : (b : Bool) (n : ℕ) → (b ≡ true → n ≡ 0) → n ≡ n - cond b 1 0
none-less true n h = omega (arith, h refl)
none-less false n h = omega arith

served-cells :
    (s : State) → WellFormed s → (v : ℕ) (d : Connection) → find v s.entries ≡ taken d → (k : Kind) (x a n : ℕ)
    → cells_of x (after_serving (member_served k d s.members) s.members) ≡ cells_of x s.members - data_told x (Sent v (name_answered v (member_served k d s.members)) k a n)
unfolding member_served after_serving name_answered data_told data_in
served-cells s w v d f Forward x a n = omega (arith, cond-zero (eqb v x))
served-cells s w v d f Turned x a n = omega (arith, cond-zero (eqb v x))
served-cells s w v d f Data x a n = go (turn d.name d.queue.served s.members) refl
  where
    go : (m : Option ℕ) → turn d.name d.queue.served s.members ≡ m
        → cells_of x (after_serving m s.members) ≡ cells_of x s.members - cond (eqb (name_answered v m) x) 1 0
    go none p = none-less (eqb v x) _ (λ q. cells-none (named x) s.members (ap (λ (y : ℕ). is_member y s.members) (sym (eqb-true v x q)) ∙ open-alone s w v d f))
    go (some y) p =
        with-cells-of x y _ s.members w.members.valid.rising (turn-picks _ _ s.members y p).member
        ∙ one_less (eqb y x) _ _ (λ q. ap (λ (z : ℕ). cells_of z s.members) (eqb-true y x q))

offered-cells : (b : Bool) (m n k : ℕ) → (b ≡ true → m ≡ n) → cond b (m + k) n ≡ cond b (n + k) n
offered-cells true m n k h = ap (λ (z : ℕ). z + k) (h refl)
offered-cells false m n k h = refl

cells-after :
    {s : State} → WellFormed s → {k : OnMembers} {a : Answer} {ms : List Member} → ToMembers s k a ms → (x : ℕ)
    → cells_of x ms ≡ cond (is_accepted a) (cells_by k (reply_of a) (waits_in s)) (waits_in s) x
unfolding is_accepted
cells-after w (refused_kept n) x = refl
cells-after w (none_touched n) x = refl
cells-after w idle_kept x = omega arith
cells-after {s} w (all_closed v n k) x = without-cells-of x (on_path v) s.members
cells-after {s} w (one_added y n) x = with-member-cells (named x) y s.members
cells-after {s} w (one_offered y n k i) x =
    with-cells-of x y _ s.members w.members.valid.rising i
    ∙ offered-cells (eqb y x) _ _ n (λ q. ap (λ (z : ℕ). cells_of z s.members) (eqb-true y x q))
cells-after {s} w (one_removed y n k) x = without-cells-of x (named y) s.members
cells-after {s} w (one_served u d k acr n f) x =
    served-cells s w u d f k x acr n
    ∙ ap (λ (n : ℕ). cells_of x s.members - n) (sym (told-number x (Sent u (name_answered u (member_served k d s.members)) k acr n)))

-- what is counted is so
abbrev pub Counts : (ℕ → ℕ) → State → Type 0
Counts f s = f ≡ waits_in s

pub counts : Keeps cells_seen Counts
counts = record {
  goes = λ s c o f m z.
      let a = (step s c).answer in
      let is : waits_in (step s c).state ≡ cond (is_accepted a) (cells_after c (reply_of a) (waits_in s)) (waits_in s) =
      λ i. λ x. cells-after z.well_formed (to-members z.well_formed c) x i in
      (λ i. cond (z.accepted i) (cells_after c (z.matches.returned i) (m i)) (m i)) ∙ sym is;
}

pub none-count : Counts no_cells empty
unfolding empty cells_where
none-count = refl
