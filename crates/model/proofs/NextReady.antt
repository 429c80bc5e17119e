-- The earliest ready instant. Where a slot finds none ready, it is later. Where one wins, it is the winner's. The
-- winner of all matches has it.
use Rattle.std.specs.Prelude.{Some, None}
use Prim.Native.Nat.{ℕ, suc, ◌≤◌}
use mathlib.Core.Path.{◌≡◌, refl, ap, subst, ◌∙◌}
use mathlib.Core.Bool.{Bool, true, false}
use mathlib.Core.List.{List, [], ◌∷◌}
use native.Mathlib.Nat.{le_refl}
use native.Mathlib.Omega.{arith}
use lib.Dec.{leb}
use lib.ListN.{length}
use borrow.Author.Tests.{leb-true, leb-false, le-leb}
use Rattle.connection.specs.Ready.{ready_instant}
use Rattle.connection.specs.Parts.{Instant}
use Rattle.model.specs.State.{Entry, free, taken, capacity}
use Rattle.model.specs.Invariant.{Each, NamesUnique}
use Rattle.model.specs.Winner.{none_ready, wins, winner, candidate_from, Ahead, Chosen, Best}
use Rattle.model.specs.Tournament.{levels, MatchWinner, no_winner, won_by, winner_at, in_time, winner_instant}
use Rattle.model.specs.Queries.{entry_ready, earlier, earliest}
use Rattle.model.proofs.Entries.{each_map, each_at}
use Rattle.model.proofs.Winners.{ahead-instant, winner-best}
use Rattle.model.proofs.Scanned.{root-winner}

-- an instant at n or later, never too; and one at n or earlier
abbrev pub NotBefore : ℕ → Instant → Type 0
NotBefore n None = Unit
NotBefore n (Some i) = n ≤ i

abbrev pub NotAfter : ℕ → Instant → Type 0
NotAfter n None = ⊥
NotAfter n (Some i) = i ≤ n

both-not-before : (n : ℕ) (a b : Instant) → NotBefore n a → NotBefore n b → NotBefore n (earlier a b)
unfolding earlier
both-not-before n None b p q = q
both-not-before n (Some i) None p q = p
both-not-before n (Some i) (Some j) p q = omega arith

first-not-after : (n : ℕ) (a b : Instant) → NotAfter n a → NotAfter n (earlier a b)
unfolding earlier
first-not-after n None b p = absurd p
first-not-after n (Some i) None p = p
first-not-after n (Some i) (Some j) p = omega arith

second-not-after : (n : ℕ) (a b : Instant) → NotAfter n b → NotAfter n (earlier a b)
unfolding earlier
second-not-after n None b p = p
second-not-after n (Some i) None p = absurd p
second-not-after n (Some i) (Some j) p = omega arith

-- it is one of the entries', or never
earliest-from : (n : ℕ) (ss : List Entry) → Each (λ d. (j : ℕ) → ready_instant d ≡ Some j → n ≤ j) ss → NotBefore n (earliest ss)
unfolding earliest entry_ready
earliest-from n [] h = tt
earliest-from n (free ∷ ss) h = both-not-before n None (earliest ss) tt (earliest-from n ss h.1)
earliest-from n (taken c ∷ ss) h = both-not-before n (ready_instant c) (earliest ss) (own (ready_instant c) h.0) (earliest-from n ss h.1)
  where
    own : (r : Instant) → ((j : ℕ) → r ≡ Some j → n ≤ j) → NotBefore n r
    own None k = tt
    own (Some i) k = k i refl

-- and none is earlier
pub earliest-each : (ss : List Entry) → Each (λ d. (j : ℕ) → ready_instant d ≡ Some j → NotAfter j (earliest ss)) ss
unfolding earliest entry_ready
earliest-each [] = tt
earliest-each (free ∷ ss) = (tt, each_map _ _ (λ d h j e. second-not-after j None (earliest ss) (h j e)) ss (earliest-each ss))
earliest-each (taken c ∷ ss) = (
  λ j e. first-not-after j (ready_instant c) (earliest ss) (own j (ready_instant c) e),
  each_map _ _ (λ d h j e. second-not-after j (ready_instant c) (earliest ss) (h j e)) ss (earliest-each ss),
)
  where
    own : (j : ℕ) (r : Instant) → r ≡ Some j → NotAfter j r
    own j r e = rw e (le_refl j)

-- none is ready by t
pub later-earliest : (t : ℕ) (ss : List Entry) → Best t ss none_ready → NotBefore (suc t) (earliest ss)
later-earliest t ss b = earliest-from (suc t) ss (each_map _ _ (λ d h j e. omega (arith, h j e)) ss b)

-- one is, and wins
pub chosen-earliest : (t i v : ℕ) (ss : List Entry) → Chosen t i v ss → earliest ss ≡ Some i
chosen-earliest t i v ss b =
    exactly (earliest ss) (earliest-from i ss (each_map _ _ (λ d h j e. from d.name j (h j e) (leb j t) refl) ss b.first))
    (each_at _ v ss b.holder b.found (earliest-each ss) i b.ready_at)
  where
    from : (w j : ℕ) → (j ≤ t → Ahead i v j w) → (c : Bool) → leb j t ≡ c → i ≤ j
    from w j h true e = ahead-instant (h (leb-true j t e))
    from w j h false e = omega (arith, b.due, leb-false j t e)

    exactly : (r : Instant) → NotBefore i r → NotAfter i r → r ≡ Some i
    exactly None p q = absurd q
    exactly (Some j) p q = let z : j ≡ i = omega arith in ap Some z

pub root-earliest : (ss : List Entry) → length ss ≡ capacity → NamesUnique ss → earliest ss ≡ winner_instant (winner_at ss levels 1)
unfolding in_time candidate_from winner_instant
root-earliest ss l u = go (winner_at ss levels 1) (λ t. root-winner t ss l)
  where
    never : (r : Instant) → ((t : ℕ) → NotBefore (suc t) r) → r ≡ None
    never None h = refl
    never (Some i) h = absurd (omega (arith, h i))

    go : (a : MatchWinner) → ((t : ℕ) → winner t ss ≡ in_time t a) → earliest ss ≡ winner_instant a
    go no_winner h = never (earliest ss) (λ t. later-earliest t ss (subst (Best t ss) (h t) (winner-best t ss u)))
    go (won_by i v x) h =
        let won : winner i ss ≡ wins i v = h i ∙ rw (le-leb i i (le_refl i)) in
        chosen-earliest i i v ss (subst (Best i ss) won (winner-best i ss u))
