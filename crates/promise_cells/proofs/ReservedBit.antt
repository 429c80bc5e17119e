-- No rate code that a call writes has its reserved bit set. A forward, made or out-of-rate cell has codes that the
-- engine makes. A turned cell has those of a cell that was taken in.
use Prim.Native.Nat.{ℕ, ◌+◌, ◌*◌, ◌<◌, ◌≤◌}
use mathlib.Core.Path.{◌≡◌, refl, sym, subst}
use mathlib.Core.Bool.{Bool, true, false, ◌&&◌, ◌||◌}
use mathlib.Core.List.{List}
use native.Mathlib.Omega.{arith}
use lib.Dec.{ltb, lit≤}
use borrow.Author.Tests.{ltb-true}
use Rattle.rate.specs.Code.{reserved_clear, codes_clear}
use Rattle.cell_payload.specs.Payload.{payload_of}
use Rattle.cell.specs.Octets.{octet, pair, payload, AreOctets}
use Rattle.cell.specs.Fields.{fields_fit, rates_clear, rm_cell}
use Rattle.cell.specs.Reading.{reading}
use Rattle.cell.specs.Turning.{turned_payload, turned_cell}
use Rattle.cell.specs.declared.fields.Fields.{Fields}
use Rattle.cell.specs.Read.{RmCell}
use Rattle.cell.proofs.Admits.{rm-received}
use Rattle.cell.proofs.Turned.{turned-kept, turned-words}
use Rattle.cell.proofs.Written.{written-octets, written-clear}
use Rattle.promise_cells.specs.ReservedBit.{TopBitsClear, NoReservedBit}
use Rattle.laws.proofs.Tests.{both}
use Rattle.promise_cells.proofs.WrittenCells.{written_as}

-- of two octets, the high one is below 128 where their code has bit 15 clear
top : (h l : ℕ) → h < 256 → l < 256 → reserved_clear (h * 256 + l) ≡ true → h < 128
unfolding reserved_clear
top h l a b e = go (ltb (h * 256 + l) 32768) (ltb 65535 (h * 256 + l)) refl refl e
  where
    go : (p q : Bool) → ltb (h * 256 + l) 32768 ≡ p → ltb 65535 (h * 256 + l) ≡ q → (p || q) ≡ true → h < 128
    go true q d f g = omega (arith, ltb-true (h * 256 + l) 32768 d)
    go false true d f g = absurd (omega (arith, a, b, ltb-true 65535 (h * 256 + l) f))
    go false false d f g = let z : ◌≡◌ {A = ℕ} 0 1 = cc in absurd (omega arith)

top-bits : (o : List ℕ) → AreOctets o → rates_clear o ≡ true → TopBitsClear o
unfolding rates_clear codes_clear
top-bits o a e =
    let h = both (reserved_clear (pair 8 o)) (reserved_clear (pair 10 o) && reserved_clear (pair 12 o)) e in
    let k = both (reserved_clear (pair 10 o)) (reserved_clear (pair 12 o)) h.1 in (
      top (octet 8 o) (octet 9 o) (a.each 7) (a.each 8) h.0,
      top (octet 10 o) (octet 11 o) (a.each 9) (a.each 10) k.0,
      top (octet 12 o) (octet 13 o) (a.each 11) (a.each 12) k.1,
    )

-- a cell from fields that fit
fields-clear : (clp : ℕ) (f : Fields) → clp ≤ 1 → fields_fit f ≡ true → TopBitsClear (rm_cell clp f)
fields-clear clp f h e = top-bits (rm_cell clp f) (written-octets clp f h e) (written-clear clp f h e)

-- a turned cell
turned_clear : (level : ℕ) (b : Bool) (o : List ℕ) (f : Fields) → AreOctets o → reading o ≡ RmCell f → (vpi vci : ℕ) → TopBitsClear (turned_cell vpi vci (payload_of (turned_payload level b (payload o))))
turned_clear level b o f a e vpi vci =
    let r = rm-received o f e in
    let k = turned-kept level b vpi vci o r.size in
    let t = top-bits o a r.clear in
    subst TopBitsClear (sym (turned-words level b vpi vci o r.size a)) (
      rw (k.middle 8 (lit≤ tt) (lit≤ tt)) t.0,
      rw (k.middle 10 (lit≤ tt) (lit≤ tt)) t.1,
      rw (k.middle 12 (lit≤ tt) (lit≤ tt)) t.2,
    )

pub no-reserved-bit : NoReservedBit
no-reserved-bit = record { calls = written_as (λ _. TopBitsClear) fields-clear (λ level b o f a e vpi vci _ _. turned_clear level b o f a e vpi vci); writes = λ f e. fields-clear 0 f (lit≤ tt) e }
