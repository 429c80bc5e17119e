-- Parameters that fit, as plain inequalities.
use mathlib.Core.Path.{◌≡◌, refl}
use mathlib.Core.Bool.{Bool, true, ◌&&◌}
use mathlib.Core.List.{List, [], ◌∷◌}
use Prim.Native.Nat.{ℕ, zero, suc, ◌≤◌, zero-le}
use native.Mathlib.Omega.{arith}
use lib.Dec.{leb}
use lib.ListN.{get_or}
use borrow.Author.Tests.{leb-true, le-leb}
use Rattle.laws.proofs.Tests.{both}
use Rattle.rate_params.specs.Params.{Params, peak, least, initial, within, codes_fit, rates_fit, numbers_fit, params_fit, tbe_fits, frtt_fits, trm_times, trm_time, n_most, r_most, d_most, c_most, tbe_most, adtf_most, trm_most}
use Rattle.rate_params.specs.Ranges.{Fits, SetupFits, RangesExact}

pub in-range : (low high x : ℕ) → within low high x ≡ true → (low ≤ x) × (x ≤ high)
unfolding within
in-range low high x e =
    let h = both (leb low x) (leb x high) e in (leb-true low x h.0, leb-true x high h.1)

pub fits : (p : Params) → params_fit p ≡ true → Fits p
unfolding params_fit codes_fit rates_fit numbers_fit
fits p e =
    let f = both (codes_fit p) (rates_fit p && numbers_fit p) e in
    let g = both (rates_fit p) (numbers_fit p) f.1 in
    let code = both (leb p.pcr 65535) (leb p.mcr 65535 && leb p.icr 65535) f.0 in
    let code₂ = both (leb p.mcr 65535) (leb p.icr 65535) code.1 in
    let rate = both (leb 512 (peak p)) (leb (least p) (initial p) && leb (initial p) (peak p)) g.0 in
    let rate₂ = both (leb (least p) (initial p)) (leb (initial p) (peak p)) rate.1 in
    let trm = leb p.trm trm_most in
    let adtf = within 1 adtf_most p.adtf && trm in
    let cdf = leb p.c c_most && adtf in
    let rdf = leb p.d d_most && cdf in
    let n = both (within 1 n_most p.n) (leb p.r r_most && rdf) g.1 in
    let steps = in-range 1 n_most p.n n.0 in
    let r = both (leb p.r r_most) rdf n.1 in
    let d = both (leb p.d d_most) cdf r.1 in
    let c = both (leb p.c c_most) adtf d.1 in
    let a = both (within 1 adtf_most p.adtf) trm c.1 in
    record {
      pcr_code = leb-true _ _ code.0;
      mcr_code = leb-true _ _ code₂.0;
      icr_code = leb-true _ _ code₂.1;
      peak_least = leb-true _ _ rate.0;
      low = leb-true _ _ rate₂.0;
      high = leb-true _ _ rate₂.1;
      n_least = omega (arith, steps.0);
      n_most = omega (arith, steps.1);
      r_most = leb-true _ _ r.0;
      d_most = leb-true _ _ d.0;
      c_most = leb-true _ _ c.0;
      adtf_least = (in-range 1 adtf_most p.adtf a.0).0;
      adtf_most = (in-range 1 adtf_most p.adtf a.0).1;
      trm_most = leb-true _ _ a.1;
    }

-- and the other way
admits : (p : Params) → Fits p → params_fit p ≡ true
unfolding params_fit codes_fit rates_fit numbers_fit within
admits p f = simp (
  le-leb _ _ f.pcr_code,
  le-leb _ _ f.mcr_code,
  le-leb _ _ f.icr_code,
  le-leb _ _ f.peak_least,
  le-leb _ _ f.low,
  le-leb _ _ f.high,
  le-leb _ _ f.n_least,
  le-leb _ _ f.n_most,
  le-leb _ _ f.r_most,
  le-leb _ _ f.d_most,
  le-leb _ _ f.c_most,
  le-leb _ _ f.adtf_least,
  le-leb _ _ f.adtf_most,
  le-leb _ _ f.trm_most,
)

pub ranges-exact : RangesExact
unfolding tbe_fits frtt_fits within
ranges-exact = record {
  fit = fits;
  admitted = admits;
  tbe = λ p e. in-range 1 tbe_most p.tbe e;
  tbe_admitted = λ p a b. simp (le-leb _ _ a, le-leb _ _ b);
  frtt = λ p e. leb-true _ _ e;
  frtt_admitted = λ p a. le-leb _ _ a;
}

pub setup-fits : (p : Params) → tbe_fits p ≡ true → frtt_fits p ≡ true → SetupFits p
setup-fits p e f = let h = ranges-exact.tbe p e in record { tbe_least = h.0; tbe_most = h.1; frtt_most = ranges-exact.frtt p f }

-- no Trm is longer than a tenth of a second
abbrev all_up_to : ℕ → List ℕ → Bool
all_up_to b [] = true
all_up_to b (x ∷ l) = leb x b && all_up_to b l

get_d_le : (b : ℕ) (l : List ℕ) (n : ℕ) → all_up_to b l ≡ true → get_or l n 0 ≤ b
get_d_le b [] n e = zero-le
get_d_le b (x ∷ l) zero e = leb-true x b (both (leb x b) (all_up_to b l) e).0
get_d_le b (x ∷ l) (suc n) e = get_d_le b l n (both (leb x b) (all_up_to b l) e).1

pub trm-le : (n : ℕ) → trm_time n ≤ 100_000_000
unfolding trm_time trm_times
trm-le n = get_d_le 100_000_000 trm_times n refl
