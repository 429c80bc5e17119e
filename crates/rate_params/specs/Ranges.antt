-- Parameters within their ranges. (Document 01, "Opening"; document 02, L14.)
-- The bounds stand here as the documents give them, not by the names of `Params`, so that one changed by mistake is
-- refused.
use Rattle.std.specs.Prelude.{◌≤◌, ◌≡◌, true}
use Rattle.rate_params.specs.Params.{Params, peak, least, initial, params_fit, tbe_fits, frtt_fits}

-- what `params_fit` tests, each range by itself
pub record Fits (p : Params) : Type 0 where
  pub pcr_code : p.pcr ≤ 65535
  pub mcr_code : p.mcr ≤ 65535
  pub icr_code : p.icr ≤ 65535
  pub peak_least : 512 ≤ peak p
  pub low : least p ≤ initial p
  pub high : initial p ≤ peak p
  pub n_least : 1 ≤ p.n
  pub n_most : p.n ≤ 8
  pub r_most : p.r ≤ 15
  pub d_most : p.d ≤ 15
  pub c_most : p.c ≤ 7
  pub adtf_least : 1 ≤ p.adtf
  pub adtf_most : p.adtf ≤ 1023
  pub trm_most : p.trm ≤ 7

-- what `tbe_fits` and `frtt_fits` test
pub record SetupFits (p : Params) : Type 0 where
  pub tbe_least : 1 ≤ p.tbe
  pub tbe_most : p.tbe ≤ 16_777_215
  pub frtt_most : p.frtt ≤ 16_700_000

-- The tests and the ranges are one: an open meets 7, 29 or 30 exactly if its own is left.
pub record RangesExact : Type 0 where
  pub fit : (p : Params) → params_fit p ≡ true → Fits p
  pub admitted : (p : Params) → Fits p → params_fit p ≡ true
  pub tbe : (p : Params) → tbe_fits p ≡ true → (1 ≤ p.tbe) × (p.tbe ≤ 16_777_215)
  pub tbe_admitted : (p : Params) → 1 ≤ p.tbe → p.tbe ≤ 16_777_215 → tbe_fits p ≡ true
  pub frtt : (p : Params) → frtt_fits p ≡ true → p.frtt ≤ 16_700_000
  pub frtt_admitted : (p : Params) → p.frtt ≤ 16_700_000 → frtt_fits p ≡ true
