-- What TBE and FRTT make of an open: the initial rate used, and CRM. (Document 02, L14.)
use Rattle.std.specs.Prelude.{ℕ, ◌+◌, ◌*◌, ◌/◌, ◌≤◌, ◌<◌, max, ◌≡◌, true}
use Rattle.rate.specs.Gap.{gap}
use Rattle.rate_params.specs.Params.{Params, least, initial, initial_used, tbe_fits, nrm, crm, house_set}

-- the same parameters with another TBE and FRTT
abbrev pub with_setup : Params → (tbe frtt : ℕ) → Params
with_setup p tbe frtt = record { pcr = p.pcr; mcr = p.mcr; icr = p.icr; n = p.n; r = p.r; d = p.d; c = p.c; tbe = tbe; frtt = frtt; adtf = p.adtf; trm = p.trm }

-- the cells that leave at the minimum in a round trip, rounded up
abbrev pub cells_at_minimum : Params → ℕ
cells_at_minimum p = (least p * p.frtt + 511_999_999) / 512_000_000

-- the cells that a round trip may have before feedback: TBE, or those that leave at the minimum where they are more
abbrev pub cells_allowed : Params → ℕ
cells_allowed p = max p.tbe (cells_at_minimum p)

pub record InitialRate : Type 0 where
  -- it lies between the minimum and the rate given
  pub between : (p : Params) → least p ≤ initial p → (least p ≤ initial_used p) × (initial_used p ≤ initial p)
  -- without a round trip it is the rate given
  pub no_trip : (p : Params) → p.frtt ≡ 0 → initial_used p ≡ initial p
  -- a longer round trip never raises it, more TBE never lowers it
  pub longer : (p : Params) (tbe f g : ℕ) → least p ≤ initial p → f ≤ g → initial_used (with_setup p tbe g) ≤ initial_used (with_setup p tbe f)
  pub more : (p : Params) (a b frtt : ℕ) → a ≤ b → initial_used (with_setup p a frtt) ≤ initial_used (with_setup p b frtt)
  -- At this rate no more cells leave in a round trip than TBE, or than at the minimum. Where it is lowered, a rate
  -- higher by 1 would allow more. Where the minimum allows as many, it is the minimum.
  pub most : (p : Params) → initial_used p * p.frtt ≤ max (512_000_000 * p.tbe) (least p * p.frtt)
  pub greatest : (p : Params) → initial_used p < initial p → 512_000_000 * p.tbe < (initial_used p + 1) * p.frtt
  pub minimum : (p : Params) → least p ≤ initial p → 0 < p.frtt → 512_000_000 * p.tbe ≤ least p * p.frtt → initial_used p ≡ least p
  -- cells a gap apart: one that comes k gaps after the first, within the round trip of 1,000 × FRTT nanoseconds,
  -- has fewer cells before it than those allowed
  pub gaps : (p : Params) (k : ℕ) → 0 < initial_used p → k * gap (initial_used p) < 1000 * p.frtt → k < cells_allowed p

pub record Crm : Type 0 where
  -- the least count of forward cells whose Nrm cells each come to TBE
  pub enough : (p : Params) → p.tbe ≤ crm p * nrm p
  pub fewest : (p : Params) (y : ℕ) → p.tbe ≤ y * nrm p → crm p ≤ y
  -- a whole number of Nrm cells is that number
  pub whole : (p : Params) (m frtt : ℕ) → crm (with_setup p (m * nrm p) frtt) ≡ m
  -- its range for every TBE and n of an open
  pub range : (p : Params) → 1 ≤ p.n → tbe_fits p ≡ true → (1 ≤ crm p) × (crm p ≤ 8_388_608)
  -- the house set has the CRM of document 01
  pub house : (pcr mcr icr : ℕ) → crm (house_set pcr mcr icr) ≡ 524_288
