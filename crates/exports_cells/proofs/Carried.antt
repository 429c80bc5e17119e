-- The cells in the lent buffer carry their address, and no reserved bit.
use Prim.Native.Nat.{ℕ}
use mathlib.Core.Path.{◌≡◌, refl, sym, ap, ◌∙◌}
use mathlib.Core.List.{List}
use Rattle.connection.specs.declared.kind.Kind.TheVariants.{Forward, Turned, Data}
use Rattle.connection.specs.Slot.{Buffer, untouched, written}
use Rattle.model.specs.Answers.{Answer, Refused, Accepted, Closed, Idle, Sent}
use Rattle.model.specs.Step.{step}
use Rattle.abr_answers.specs.Reply.{reply_of}
use Rattle.model.specs.Aspects.{Lent, for_slot, for_out_of_rate, not_lent, lent_of}
use Rattle.promise_cells.specs.Addresses.{Carries, CarriesName, LentCarries}
use Rattle.promise_cells.specs.ReservedBit.{TopBitsClear, WrittenClear, WrittenAs}
use Rattle.promise_cells.proofs.Addresses.{cells-carry-names}
use Rattle.promise_cells.proofs.ReservedBit.{no-reserved-bit}
use Rattle.exports.proofs.Returned.{back}
use Rattle.exports.specs.Known.{name_in}
use Rattle.exports_cells.specs.Carried.{name_due, CarriesDue, ExportsCarryNames, CarriesNoBit, ExportsNoReservedBit, name_for}
use Rattle.exports.proofs.Transport.{each-call}
use Rattle.exports_cells.proofs.Written.{holds-seen}

carried : (v w : ℕ) (b : Buffer) → v ≡ w → Carries v b → WrittenAs (λ o. name_in o ≡ w) b
carried v w untouched e h = tt
carried v w (written o) e h = h ∙ e

untouched-writes : (P : List ℕ → Type 0) (b : Buffer) → b ≡ untouched → WrittenAs P b
untouched-writes P b e = rw e tt

due : (l : Lent) (a : Answer) (b : Buffer) → LentCarries l a b → WrittenAs (λ o. name_in o ≡ name_for l (reply_of a)) b
due (for_slot t) (Refused n) b h = untouched-writes _ b h
due (for_slot t) (Accepted n) b h = untouched-writes _ b h
due (for_slot t) (Closed n k) b h = untouched-writes _ b h
due (for_slot t) Idle b h = untouched-writes _ b h
due (for_slot t) (Sent v x Forward acr n) b h = carried v _ b (sym h.0 ∙ sym (back x)) h.1
due (for_slot t) (Sent v x Turned acr n) b h = carried v _ b (sym h.0 ∙ sym (back x)) h.1
due (for_slot t) (Sent v x Data acr n) b h = untouched-writes _ b h
due (for_out_of_rate v) (Refused n) b h = untouched-writes _ b h
due (for_out_of_rate v) (Accepted n) b h = carried v _ b refl h
due (for_out_of_rate v) (Closed n k) b h = absurd h
due (for_out_of_rate v) Idle b h = absurd h
due (for_out_of_rate v) (Sent u x k acr n) b h = absurd h
due not_lent a b h = untouched-writes _ b h

pub exports-carry-names : ExportsCarryNames
exports-carry-names cs os t =
    each-call (λ c p. CarriesName c p.answer p.buffer) CarriesDue (λ cs q c. cells-carry-names cs c)
    (λ s c o z h e. holds-seen z _ (due (lent_of c) (step s c).answer (step s c).buffer h) e ∙ ap (name_due c) (sym z.matches.returned)) cs os t

clear : (b : Buffer) → WrittenClear b → WrittenAs TopBitsClear b
clear untouched h = tt
clear (written o) h = h

pub exports-no-reserved-bit : ExportsNoReservedBit
exports-no-reserved-bit cs os t =
    each-call (λ c p. WrittenClear p.buffer) CarriesNoBit no-reserved-bit.calls (λ s c o z h e. holds-seen z TopBitsClear (clear (step s c).buffer h) e) cs os t
