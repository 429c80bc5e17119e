-- What a port's call returns where several refusals apply, computed: the number of demands, a demand, then the cell,
-- whether there is a limit or not. (Document 02, L10.)
use Rattle.std.specs.Prelude.{ℕ, ◌≡◌, List, [], ◌∷◌, replicate}
use Rattle.port.specs.Port.{port}

-- a demand above the largest rate, and a cell of 53 octets whose header is wrong
abbrev pub above_largest : ℕ
above_largest = 2_196_875_771_905

abbrev pub wrong_header : List ℕ
wrong_header = 1 ∷ replicate 52 0

pub record PortCalls : Type 0 where
  pub too_many : (port 1 (replicate 1025 above_largest) []).refusal ≡ 21
  pub too_high : (port 1 (0 ∷ above_largest ∷ []) []).refusal ≡ 22
  pub length : (port 1 [] []).refusal ≡ 1
  pub length_limited : (port 0 (1 ∷ []) []).refusal ≡ 1
  pub header : (port 1 [] wrong_header).refusal ≡ 2
  pub header_limited : (port 0 (1 ∷ []) wrong_header).refusal ≡ 2
