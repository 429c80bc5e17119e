-- Refusals in order: the rest of a call if a test passes, else what a refusal leaves. (Document 01,
-- "Refused because of the state".)
use Rattle.std.specs.Prelude.{Bool, true, false}

unfoldable pub require : {A : Type 0} → (refused : A) → Bool → (rest : A) → A
require r true rest = rest
require r false rest = r
