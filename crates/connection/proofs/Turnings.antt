-- A cell turned round from the words of its payload is the cell turned round from its octets.
use mathlib.Core.Path.{◌≡◌}
use mathlib.Core.List.{List}
use Prim.Native.Nat.{ℕ, ◌<◌}
use native.Mathlib.Omega.{arith}
use lib.ListN.{length, get_or, drop, length-drop}
use lib.Seq.{get_or-drop}
use Rattle.cell_payload.specs.Payload.{payload_of}
use Rattle.cell_payload.proofs.Words.{octets-of-payload}
use Rattle.cell.specs.Octets.{payload}
use Rattle.connection.specs.Parts.{Connection}
use Rattle.connection.specs.Destination.{after_forward_cell, after_forward_payload}

pub after-forward-cell-words :
    (level : ℕ) (o : List ℕ) (c : Connection) → length o ≡ 53 → ((i : ℕ) → get_or o i 0 < 256) → after_forward_payload level (payload_of (payload o)) c ≡ after_forward_cell level o c
unfolding after_forward_cell after_forward_payload
after-forward-cell-words level o c n h = rw (octets-of-payload (drop 5 o) (simp length-drop (omega arith)) (λ i. simp get_or-drop (h _)))
