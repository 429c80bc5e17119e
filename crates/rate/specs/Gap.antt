-- The gap between two cells, in nanoseconds: 512,000,000,000 over the allowed rate, rounded up. (Document 01, "Slots".)
use Rattle.std.specs.Prelude.{ℕ, ◌+◌, ◌-◌, ◌/◌}

unfoldable pub gap : ℕ → ℕ
gap acr = (512_000_000_000 + acr - 1) / acr
