-- What an open gives, with its ranges. (Document 01, "Opening"; document 02, L14.)
use Rattle.std.specs.Prelude.{ℕ, ◌+◌, ◌-◌, ◌*◌, ◌/◌, ◌^◌, min, max, Bool, cond, ◌&&◌, List, [], ◌∷◌, leb, eqb, get_or}
use Rattle.rate.specs.Code.{rate_of}
pub use Rattle.rate_params.specs.declared.params.Params.{Params}

-- the rates of the three codes; the initial rate as given
abbrev pub peak : Params → ℕ
peak p = rate_of p.pcr

abbrev pub least : Params → ℕ
least p = rate_of p.mcr

abbrev pub initial : Params → ℕ
initial p = rate_of p.icr

-- the rate at which TBE cells leave in one round trip, rounded down, in units of 1/512 cell a second; FRTT is in
-- microseconds (document 02, L14)
abbrev pub tbe_rate : Params → ℕ
tbe_rate p = 512_000_000 * p.tbe / p.frtt

-- the initial rate lowered to that, but never under the minimum
abbrev pub lowered : Params → ℕ
lowered p = max (least p) (min (initial p) (tbe_rate p))

-- the initial rate used: a round trip of 0 lowers nothing
unfoldable pub initial_used : Params → ℕ
initial_used p = cond (eqb p.frtt 0) (initial p) (lowered p)

-- the most of each number that an open gives; the least is 0 of r, d, c, FRTT and Trm's number, and 1 of n, TBE and
-- ADTF
abbrev pub n_most : ℕ
n_most = 8

abbrev pub r_most : ℕ
r_most = 15

abbrev pub d_most : ℕ
d_most = 15

-- 7: CDF zero
abbrev pub c_most : ℕ
c_most = 7

abbrev pub tbe_most : ℕ
tbe_most = 16_777_215

abbrev pub frtt_most : ℕ
frtt_most = 16_700_000

abbrev pub adtf_most : ℕ
adtf_most = 1023

abbrev pub trm_most : ℕ
trm_most = 7

unfoldable pub within : ℕ → ℕ → ℕ → Bool
within low high x = leb low x && leb x high

-- 0 ≤ MCR ≤ ICR ≤ PCR and 512 ≤ PCR, as rates (document 02, L5)
unfoldable pub rates_fit : Params → Bool
rates_fit p = leb 512 (peak p) && (leb (least p) (initial p) && leb (initial p) (peak p))

-- codes of 16 bits
unfoldable pub codes_fit : Params → Bool
codes_fit p = leb p.pcr 65535 && (leb p.mcr 65535 && leb p.icr 65535)

-- the other numbers but TBE and FRTT
unfoldable pub numbers_fit : Params → Bool
numbers_fit p =
    within 1 n_most p.n
    && (leb p.r r_most && (leb p.d d_most && (leb p.c c_most && (within 1 adtf_most p.adtf && leb p.trm trm_most))))

-- an open whose parameters do not fit meets refusal 7
unfoldable pub params_fit : Params → Bool
params_fit p = codes_fit p && (rates_fit p && numbers_fit p)

-- one whose TBE does not fit meets refusal 29, one whose FRTT does not, 30 (document 02, L14)
unfoldable pub tbe_fits : Params → Bool
tbe_fits p = within 1 tbe_most p.tbe

unfoldable pub frtt_fits : Params → Bool
frtt_fits p = leb p.frtt frtt_most

-- Nrm
abbrev pub nrm : Params → ℕ
nrm p = 2 ^ p.n

-- CRM: TBE / Nrm, rounded up (document 02, L14)
unfoldable pub crm : Params → ℕ
crm p = (p.tbe + nrm p - 1) / nrm p

-- ADTF counts steps of 10 ms
abbrev pub adtf_time : Params → ℕ
adtf_time p = p.adtf * 10_000_000

unfoldable pub trm_times : List ℕ
trm_times = 781_250 ∷ 1_562_500 ∷ 3_125_000 ∷ 6_250_000 ∷ 12_500_000 ∷ 25_000_000 ∷ 50_000_000 ∷ 100_000_000 ∷ []

-- Trm by its number; a number over the most, which no open gives, has 0
unfoldable pub trm_time : ℕ → ℕ
trm_time number = get_or trm_times number 0

-- the house set, with the caller's three rates
abbrev pub house_set : ℕ → ℕ → ℕ → Params
house_set pcr mcr icr = record { pcr = pcr; mcr = mcr; icr = icr; n = 5; r = 4; d = 4; c = 4; tbe = 16_777_215; frtt = 0; adtf = 50; trm = 7 }
