-- What is read as a number was written in its shortest form.
use mathlib.Core.Path.{◌≡◌, refl, sym, ap, subst, ◌∙◌}
use mathlib.Core.Bool.{Bool, true, false, cond}
use mathlib.Core.List.{List, [], ◌∷◌}
use Prim.Native.Nat.{ℕ, zero, suc, ◌+◌, ◌-◌, ◌*◌, ◌/◌, ◌%◌, ◌^◌, ◌≤◌, ◌<◌}
use native.Mathlib.Nat.{mul-one, zero-add, add-mul, mul_assoc, mul_comm}
use native.Mathlib.Omega.{arith}
use lib.ListN.{length, get_or}
use lib.Dec.{ltb, eqb, lit<}
use lib.Pow.{pow_pos}
use borrow.Author.Tests.{ltb-true, ltb-false, eqb-true, lt-ltb, le-ltb}
use Rattle.std.specs.Prelude.{Ok, Err}
use Rattle.trace.specs.Numbers.{Number, not_shortest, read_on, written, Stands}
use Rattle.trace.specs.Shortest.{Octets, ShortestOnly}
use Rattle.trace.proofs.Groups.{value, no_number, no_end}
use Rattle.trace.proofs.LastGroup.{some_last}
use Rattle.trace.proofs.Written.{more_room}

-- the rest of a number, whose lowest group has the weight p: its value x is not 0 unless it is the whole number
record RestAt (n : ℕ) (s : List ℕ) (k v p y j : ℕ) : Type 0 where
  x : ℕ
  value : y ≡ v + x * p
  small : x < 2 * 2 ^ (7 * n)
  some : 1 < p → 0 < x
  stands : Stands s k (written n x)
  end : j ≡ k + length (written n x)

abbrev Rest : (n : ℕ) (s : List ℕ) (k v p : ℕ) → Number → Type 0
Rest n s k v p (Ok (y, j)) = RestAt n s k v p y j
Rest n s k v p (Err r) = Unit {0}

-- the tenth octet
tenth-rest : (s : List ℕ) (k v p : ℕ) → Rest 0 s k v p (read_on 0 s k v p)
unfolding read_on written
tenth-rest s k v p = go (ltb k (length s)) (eqb (get_or s k 0) 1) refl refl
  where
    go : (a b : Bool) → ltb k (length s) ≡ a → eqb (get_or s k 0) 1 ≡ b → Rest 0 s k v p (cond a (cond b (value (v + p) (k + 1)) no_number) no_end)
    go true true e f = record {
      x = 1;
      value = omega arith;
      small = lit< tt;
      some = λ _. lit< tt;
      stands = (ltb-true k (length s) e, eqb-true _ 1 f, tt);
      end = refl;
    }
    go true false e f = tt
    go false b e f = tt

-- an octet below 128 is the last
last_rest : (n : ℕ) (s : List ℕ) (k v p : ℕ) → k < length s → get_or s k 0 < 128 → (1 < p → 0 < get_or s k 0) → RestAt (suc n) s k v p (v + get_or s k 0 * p) (k + 1)
unfolding written
last_rest n s k v p h l some = record {
  x = get_or s k 0;
  value = refl;
  small = below n (get_or s k 0) l;
  some = some;
  stands = subst (Stands s k) (sym one) (h, refl, tt);
  end = ap (λ (z : List ℕ). k + length z) (sym one);
}
  where
    one : written (suc n) (get_or s k 0) ≡ get_or s k 0 ∷ []
    one = rw (lt-ltb (get_or s k 0) 128 l)

    below : (n b : ℕ) → b < 128 → b < 2 * 2 ^ (7 * suc n)
    below n b h = omega (arith, more_room n, pow_pos (7 * n))

more-rest : (n : ℕ) (s : List ℕ) (k v p y j : ℕ) → 0 < p → k < length s → 128 ≤ get_or s k 0 → get_or s k 0 < 256 → RestAt n s (k + 1) (v + (get_or s k 0 - 128) * p) (p * 128) y j
    → RestAt (suc n) s k v p y j
unfolding written
more-rest n s k v p y j pp h l g r =
    let b = get_or s k 0 in
    let x = b - 128 + r.x * 128 in
    let pos : 0 < r.x = r.some (omega (arith, pp)) in
    let low : x % 128 ≡ b - 128 = omega (arith, l, g) in
    let high : x / 128 ≡ r.x = omega (arith, l, g) in
    let is : written (suc n) x ≡ b ∷ written n r.x = rw (le-ltb x 128 (omega (arith, pos)), low, high) (ap (λ (z : ℕ). z ∷ written n r.x) (back b l)) in
    record {
      x = x;
      value = r.value ∙ sum (get_or s k 0 - 128) r.x;
      small = omega (arith, more_room n, r.small, l, g);
      some = λ _. omega (arith, pos);
      stands = subst (Stands s k) (sym is) (h, refl, r.stands);
      end = r.end ∙ next k (length (written n r.x)) ∙ ap (λ (z : List ℕ). k + length z) (sym is);
    }
  where
    sum : (c x : ℕ) → v + c * p + x * (p * 128) ≡ v + (c + x * 128) * p
    sum c x =
        let a : (c + x * 128) * p ≡ c * p + x * 128 * p = add-mul c (x * 128) p in
        let d : x * 128 * p ≡ x * (p * 128) = mul_assoc x 128 p ∙ ap (λ (z : ℕ). x * z) (mul_comm 128 p) in
        omega (arith, a, d)

    back : (b : ℕ) → 128 ≤ b → 128 + (b - 128) ≡ b
    back b l = omega arith

    next : (k m : ℕ) → k + 1 + m ≡ k + suc m
    next k m = omega arith

rest : (n : ℕ) (s : List ℕ) → Octets s → (k v p : ℕ) → 0 < p → Rest n s k v p (read_on n s k v p)
unfolding read_on
rest zero s o k v p pp = tenth-rest s k v p
rest (suc n) s o k v p pp =
    go (ltb k (length s)) (ltb (get_or s k 0) 128) (not_shortest (get_or s k 0) p) refl refl refl (read_on n s (k + 1) (v + (get_or s k 0 - 128) * p) (p * 128))
    (rest n s o (k + 1) (v + (get_or s k 0 - 128) * p) (p * 128) (omega (arith, pp)))
  where
    further : (m : Number) → k < length s → 128 ≤ get_or s k 0 → Rest n s (k + 1) (v + (get_or s k 0 - 128) * p) (p * 128) m → Rest (suc n) s k v p m
    further (Ok (y, j)) h l r = more-rest n s k v p y j pp h l (o k) r
    further (Err i) h l r = tt

    go : (a b c : Bool) → ltb k (length s) ≡ a → ltb (get_or s k 0) 128 ≡ b → not_shortest (get_or s k 0) p ≡ c → (m : Number)
        → Rest n s (k + 1) (v + (get_or s k 0 - 128) * p) (p * 128) m
        → Rest (suc n) s k v p (cond a (cond b (cond c no_number (value (v + get_or s k 0 * p) (k + 1))) m) no_end)
    go true true true e f g m r = tt
    go true true false e f g m r = last_rest n s k v p (ltb-true k (length s) e) (ltb-true (get_or s k 0) 128 f) (some_last (get_or s k 0) p g)
    go true false c e f g m r = further m (ltb-true k (length s) e) (ltb-false (get_or s k 0) 128 f) r
    go false b c e f g m r = tt

pub shortest-only : ShortestOnly
shortest-only s o k x j e =
    let r : RestAt 9 s k 0 1 x j = subst (Rest 9 s k 0 1) e (rest 9 s o k 0 1 (lit< tt)) in
    let q : r.x ≡ x = sym (r.value ∙ zero-add (r.x * 1) ∙ mul-one r.x) in
    record {
      small = subst (λ (z : ℕ). z < 2 ^ 64) q r.small;
      stands = subst (λ (z : ℕ). Stands s k (written 9 z)) q r.stands;
      end = subst (λ (z : ℕ). j ≡ k + length (written 9 z)) q r.end;
    }
