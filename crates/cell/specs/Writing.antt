-- What writing an RM cell answers, and what it leaves in the buffer.
-- (Document 01, "The cell, 53 octets"; the order, 1 then 7: "Refused because of the state".)
use Rattle.std.specs.Prelude.{ℕ, cond, List, eqb, Result, Ok, Err}
use Rattle.laws.specs.declared.refusals.Refusal.{Refusal}
use Rattle.laws.specs.declared.refusals.Refusal.TheVariants.{Length, Range}
use Rattle.cell.specs.Fields.{Fields, fields_fit}

-- the answer, by the buffer's length and the fields: refusal 1 comes before 7
unfoldable pub writing : ℕ → Fields → Result Unit Refusal
writing size f = cond (eqb size 53) (cond (fields_fit f) (Ok tt) (Err Range)) (Err Length)

-- the buffer afterwards: the new cell, or what stood there if it was refused
unfoldable pub buffer_written : Result Unit Refusal → (new old : List ℕ) → List ℕ
buffer_written (Ok done) new old = new
buffer_written (Err r) new old = old
