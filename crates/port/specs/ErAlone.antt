-- For the code's own functions: the bits of ER alone.
use Rattle.std.specs.Prelude.{ℕ, ◌*◌}
use Rattle.cell_payload.specs.declared.payload.Payload.{Payload}

-- a payload with no bits set but these sixteen, where ER stands
abbrev pub er_alone : ℕ → Payload
er_alone n = record { a = n * 0x100000000; b = 0; c = 0; d = 0; e = 0; f = 0 }
