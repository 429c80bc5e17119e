-- A limit is the greatest number that fits, and there is none where the plain sum fits.
use mathlib.Core.Path.{◌≡◌, refl, subst}
use mathlib.Core.Bool.{Bool, true, false, cond}
use mathlib.Core.List.{List, []}
use Prim.Native.Nat.{ℕ, ◌+◌, ◌≤◌, ◌<◌}
use native.Mathlib.Nat.{le_trans}
use native.Mathlib.Omega.{arith}
use lib.Dec.{leb, lit<}
use borrow.Author.Tests.{leb-true, leb-false, le-leb, lt-leb}
use Rattle.std.specs.Prelude.{Some, None, Ok, Err}
use Rattle.laws.specs.declared.refusals.Refusal.{Refusal}
use Rattle.laws.specs.Refusals.{number}
use Rattle.laws.specs.Require.{require}
use Rattle.rate.specs.Units.{largest_rate}
use Rattle.port_share.specs.Demands.{few_enough, in_range, plain_sum}
use Rattle.port_share.specs.Share.{Share, greatest_up_to, fair_share}
use Rattle.port_share.specs.Greatest.{GreatestShare, ShareGreatest}
use Rattle.port_share.proofs.Sums.{cut-plain}
use Rattle.port_share.proofs.Fitting.{below-largest, greatest-found, found-greatest}

pub limit-greatest : (capacity : ℕ) (ds : List ℕ) → in_range ds ≡ true → capacity < plain_sum ds → GreatestShare capacity ds (greatest_up_to capacity ds largest_rate)
limit-greatest capacity ds e over = found-greatest capacity ds largest_rate (λ t f. omega (arith, below-largest capacity ds over e f))

module _ (capacity : ℕ) (ds : List ℕ) where
  -- what each answer says
  data Says : Share → Type 0 where
    refused : {r : Refusal} → 0 < number r → Says (Err r)
    fits : plain_sum ds ≤ capacity → Says (Ok None)
    limits : {s : ℕ} → capacity < plain_sum ds → GreatestShare capacity ds s → Says (Ok (Some s))

  says-require : (e : Refusal) → 0 < number e → (t : Bool) {r : Share} → (t ≡ true → Says r) → Says (require (Err e) t r)
  unfolding require
  says-require e p true h = h refl
  says-require e p false h = refused p

  says_last : in_range ds ≡ true → Says (cond (leb (plain_sum ds) capacity) (Ok None) (Ok (Some (greatest_up_to capacity ds largest_rate))))
  says_last e = go (leb (plain_sum ds) capacity) refl
    where
      go : (b : Bool) → leb (plain_sum ds) capacity ≡ b → Says (cond b (Ok None) (Ok (Some (greatest_up_to capacity ds largest_rate))))
      go true f = fits (leb-true _ _ f)
      go false f = limits (leb-false _ _ f) (limit-greatest capacity ds e (leb-false _ _ f))

  says : Says (fair_share capacity ds)
  unfolding fair_share
  says = says-require _ (lit< tt) _ (λ a. says-require _ (lit< tt) _ (λ b. says_last search))

  says-limit : {s : ℕ} {a : Share} → a ≡ Ok (Some s) → Says a → (capacity < plain_sum ds) × GreatestShare capacity ds s
  says-limit e (refused p) = let z : ◌≡◌ {A = ℕ} 0 1 = cc in absurd (omega arith)
  says-limit e (fits h) = let z : ◌≡◌ {A = ℕ} 0 1 = cc in absurd (omega arith)
  says-limit {s} e (limits {s = t} l g) = let q : t ≡ s = cc in (l, subst (GreatestShare capacity ds) q g)

  says-unlimited : {a : Share} → a ≡ Ok None → Says a → plain_sum ds ≤ capacity
  says-unlimited e (refused p) = let z : ◌≡◌ {A = ℕ} 0 1 = cc in absurd (omega arith)
  says-unlimited e (fits h) = h
  says-unlimited e (limits l g) = let z : ◌≡◌ {A = ℕ} 0 1 = cc in absurd (omega arith)

  says-refused : {r : Refusal} {a : Share} → a ≡ Err r → Says a → 0 < number r
  says-refused {r} e (refused {r = k} p) = let q : k ≡ r = cc in subst (λ (z : Refusal). 0 < number z) q p
  says-refused e (fits h) = let z : ◌≡◌ {A = ℕ} 0 1 = cc in absurd (omega arith)
  says-refused e (limits l g) = let z : ◌≡◌ {A = ℕ} 0 1 = cc in absurd (omega arith)

  -- the number of a refusal is never 0
  pub refusal-number : {r : Refusal} → fair_share capacity ds ≡ Err r → 0 < number r
  refusal-number e = says-refused e says

  greatest-over : {s : ℕ} → GreatestShare capacity ds s → capacity < plain_sum ds
  greatest-over {s} g = omega (arith, g.next, cut-plain (s + 1) ds)

  found : {s : ℕ} → few_enough ds ≡ true → in_range ds ≡ true → GreatestShare capacity ds s → fair_share capacity ds ≡ Ok (Some s)
  unfolding fair_share require
  found {s} few e g =
      simp (
        few,
        e,
        lt-leb (plain_sum ds) capacity (greatest-over g),
        greatest-found capacity ds largest_rate s g (omega (arith, below-largest capacity ds (greatest-over g) e g.fits)),
      )

none-demanded : (capacity : ℕ) → fair_share capacity [] ≡ Ok None
unfolding fair_share require in_range plain_sum
none-demanded capacity = simp (le-leb 0 capacity (omega arith))

pub share-greatest : ShareGreatest
share-greatest = record {
  limited = λ capacity ds s e. says-limit capacity ds e (says capacity ds);
  found = λ capacity ds s few e g. found capacity ds few e g;
  unlimited = λ capacity ds e.
      let h : plain_sum ds ≤ capacity = says-unlimited capacity ds e (says capacity ds) in
      (h, λ t. le_trans (cut-plain t ds) h);
  none = none-demanded;
}
