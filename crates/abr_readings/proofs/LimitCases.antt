-- CRM and the initial rate used, as the code makes them: one lemma for each way out.
use Rattle.std.proofs.Common.{◌≡◌, ℕ, ◌+◌, ◌-◌, ◌*◌, ◌/◌, ◌%◌, ◌^◌, ◌<◌, ◌≤◌, max, ap, ◌∙◌, subst, mod-eq_of_lt, div-le_self, arith, eq-eqb, ne_eqb}
use Rattle.rate_params.specs.declared.params.Params.{Params}
use Rattle.rate_params.specs.Params.{least, initial, initial_used, crm}
use Rattle.rate_params.proofs.RoundedUp.{part-rounded}
use Rattle.abr_readings.specs.Limits.{LimitsOf}

-- the last number below x, its part, and one more
pub part-is :
    (x n last r : ℕ) → x < 2 ^ 32 → last < 2 ^ 32 → (last + 1) % 2 ^ 32 ≡ x → r ≡ (last / 2 ^ (n % 32) + 1) % 2 ^ 32 → 0 < x → n < 32 → r ≡ (x + 2 ^ n - 1) / 2 ^ n
part-is x n last r fx fl e h p k =
    let before : last ≡ x - 1 = omega (arith, fx, fl, e, p) in
    let whole : last / 2 ^ n ≤ last = div-le_self last (2 ^ n) in
    h ∙ ap (λ (m : ℕ). (last / 2 ^ m + 1) % 2 ^ 32) (mod-eq_of_lt k)
    ∙ mod-eq_of_lt (omega (arith, before, whole, fx, p))
    ∙ ap (λ (m : ℕ). m / 2 ^ n + 1) before
    ∙ part-rounded x n p

module _ (p : Params) {i : ℕ} (e : i ≡ initial p) (l : least p ≤ initial p) where
  pub without-trip : p.frtt ≡ 0 → i ≡ initial_used p
  unfolding initial_used
  without-trip h = simp (eq-eqb _ _ h) e

  pub kept : (p.frtt ≡ 0 → ⊥) → i ≤ 512000000 * p.tbe / p.frtt → i ≡ initial_used p
  unfolding initial_used
  kept h k = simp (ne_eqb _ _ h) (omega (arith, e, l, k))

  pub lowered-to : (p.frtt ≡ 0 → ⊥) → 512000000 * p.tbe / p.frtt < i → {m r : ℕ} → m ≡ least p → r ≡ max m (512000000 * p.tbe / p.frtt) → r ≡ initial_used p
  unfolding initial_used
  lowered-to h k q d = simp (ne_eqb _ _ h) (omega (arith, e, l, k, q, d))

pub limits-are :
    {p q : Params} → p ≡ q → {m i : ℕ} → (0 < p.tbe → p.n < 32 → m ≡ (p.tbe + 2 ^ p.n - 1) / 2 ^ p.n) → (least p ≤ initial p → i ≡ initial_used p)
    → LimitsOf q (record { crm = m; icr = i })
unfolding crm
limits-are e {m} {i} h k = subst (λ (q : Params). LimitsOf q (record { crm = m; icr = i })) e (record { most = h; used = k })
