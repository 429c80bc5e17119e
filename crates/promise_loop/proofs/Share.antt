-- What a port allows a source, and what the sources send together.
use Prim.Native.Nat.{ℕ, ◌+◌, ◌-◌, ◌≤◌, min}
use mathlib.Core.Path.{◌≡◌}
use mathlib.Core.Logic.{by_cases}
use mathlib.Core.List.{List, [], ◌∷◌, map}
use native.Mathlib.Decide.{dec_lt}
use native.Mathlib.Nat.{le_refl}
use native.Mathlib.Omega.{arith}
use Rattle.rate.specs.Units.{largest_rate}
use Rattle.rate.specs.Code.{rate_of, code_of, GreatestCode}
use Rattle.rate.proofs.Codes.{code-greatest}
use Rattle.rate_params.specs.declared.params.Params.{Params}
use Rattle.rate_params.specs.Params.{peak, least}
use Rattle.port_share.specs.Demands.{plain_sum, cut_sum}
use Rattle.std.specs.Prelude.{Some, None, Ok, Err}
use Rattle.port_share.specs.Share.{Share}
use Rattle.port_share.proofs.Greatest.{share-greatest}
use Rattle.port.specs.Limit.{held_er}
use Rattle.port.proofs.Cases.{er-le}
use Rattle.promise_loop.specs.Settled.{settled_rate}
use Rattle.promise_loop.specs.Share.{er_behind, port_rate, settled, SettledRates}

-- the code that a port writes over an ER
er-greatest : (share er : ℕ) → GreatestCode (min (rate_of er) share) (held_er share er)
er-greatest share er = code-greatest (min (rate_of er) share) (er-le share er)

-- a code whose rate is not above the share does not allow more, up to PCR
under-share : (p : Params) (share code : ℕ) → rate_of code ≤ share → min (peak p) (rate_of code) ≤ port_rate p (Ok (Some share))
under-share p share code l =
    let g = er-greatest share p.pcr in
    by_cases (dec_lt (rate_of code) (peak p))
    (λ h. omega (arith, g.greatest code (omega arith)))
    (λ h. omega (arith, g.greatest p.pcr (omega arith)))

module _ (p : Params) where
  pub port-low : (a : Share) → port_rate p a ≤ peak p
  port-low (Err r) = le_refl _
  port-low (Ok None) = le_refl _
  port-low (Ok (Some share)) = omega (arith, (er-greatest share p.pcr).not_above)

  -- whatever ER was before the port, PCR and the ER behind it do not allow more
  pub behind-most : (a : Share) (er : ℕ) → min (peak p) (rate_of (er_behind a er)) ≤ port_rate p a
  behind-most (Err r) er = omega arith
  behind-most (Ok None) er = omega arith
  behind-most (Ok (Some share)) er = under-share p share (held_er share er) (omega (arith, (er-greatest share er).not_above))

  -- and they allow as much, if ER was not below that
  pub behind-same : (a : Share) (er : ℕ) → port_rate p a ≤ rate_of er → min (peak p) (rate_of (er_behind a er)) ≡ port_rate p a
  behind-same (Err r) er l = omega arith
  behind-same (Ok None) er l = omega arith
  behind-same (Ok (Some share)) er l =
      let low = (er-greatest share p.pcr).not_above in
      omega (arith, behind-most (Ok (Some share)) er, low, (er-greatest share er).greatest (held_er share p.pcr) (omega (arith, low)))

exact : (p : Params) (code : ℕ) → settled p (Ok (Some (rate_of code))) ≡ settled_rate p (rate_of code)
exact p code = omega (arith, (er-greatest (rate_of code) p.pcr).not_above, under-share p (rate_of code) code (le_refl _))

rounded : (p : Params) (share : ℕ) → share ≤ largest_rate → settled p (Ok (Some share)) ≡ settled_rate p (rate_of (code_of share))
rounded p share h =
    let g : GreatestCode share (code_of share) = code-greatest share h in
    let low = (er-greatest share p.pcr).not_above in
    omega (arith, low, under-share p share (code_of share) g.not_above, g.greatest (held_er share p.pcr) (omega arith))

sum-above :
    (share : ℕ) (ps : List Params)
    → plain_sum (map (λ p. settled p (Ok (Some share))) ps) ≤ cut_sum share (map peak ps) + plain_sum (map (λ p. least p - port_rate p (Ok (Some share))) ps)
unfolding plain_sum cut_sum
sum-above share [] = omega arith
sum-above share (p ∷ ps) =
    let low = (er-greatest share p.pcr).not_above in
    let one : settled p (Ok (Some share)) ≤ min (peak p) share + (least p - port_rate p (Ok (Some share))) = omega (arith, low) in
    omega (arith, one, sum-above share ps)

pub settled-rates : SettledRates
settled-rates = record {
  exact = exact;
  rounded = rounded;
  together = λ capacity share ps e. omega (arith, sum-above share ps, (share-greatest.limited capacity (map peak ps) share e).1.fits);
}
