-- A received RM cell turned round: what it reads as, and which of its octets and bits stay.
use mathlib.Core.Path.{◌≡◌, sym, ap, ◌∙◌}
use mathlib.Core.Bool.{Bool, true, false, cond, ◌||◌}
use mathlib.Core.List.{List, ◌∷◌, ◌++◌}
use Prim.Native.Nat.{ℕ, suc, ◌+◌, ◌-◌, ◌*◌, ◌/◌, ◌%◌, ◌≤◌, ◌<◌}
use native.Mathlib.Omega.{arith}
use lib.Dec.{eqb, lit≤}
use lib.ListN.{length, get_or, drop, length-drop}
use lib.Seq.{get_or-drop}
use Rattle.cell_payload.specs.Payload.{payload_of}
use Rattle.cell_payload.proofs.Words.{octets-of-payload}
use Rattle.cell.specs.Octets.{octet, pair, payload, AreOctets}
use Rattle.cell.specs.Header.{vpi_of, vci_of, header}
use Rattle.cell.specs.Fields.{Fields, fields_of, rates_clear, with_crc}
use Rattle.cell.specs.Reading.{reading, RmCell}
use Rattle.cell.specs.Turning.{turned_marks, turned_payload, turned_cell}
use Rattle.cell.specs.Returned.{returned, Kept}
use Rattle.cell.specs.Form.{Framed}
use Rattle.cell.proofs.OctetLists.{octets-cons, octets-drop}
use Rattle.cell.proofs.Admits.{rm-received}
use Rattle.cell.proofs.Form.{carried-framed}
use Rattle.cell.proofs.WithCrc.{with_crc-size, with_crc-octets, with_crc-at, with_crc-six, carried-size, carried-octets, carried-vpi, carried-vci, carried-read}

-- a bit set by a test, or as it was
mark-le : (t : Bool) (x : ℕ) → cond t 1 (x % 2) ≤ 1
mark-le true x = lit≤ tt
mark-le false x = omega arith

module _ (level : ℕ) (mark : Bool) (x : ℕ) where
  marks-lt : turned_marks level mark x < 256
  unfolding turned_marks
  marks-lt = omega (arith, mark-le (mark || eqb level 2) (x / 32), mark-le (eqb level 1) (x / 16))

  marks-dir : turned_marks level mark x / 128 % 2 ≡ 1
  unfolding turned_marks
  marks-dir = omega (arith, mark-le (mark || eqb level 2) (x / 32), mark-le (eqb level 1) (x / 16))

  marks-bn : turned_marks level mark x / 64 % 2 ≡ 0
  unfolding turned_marks
  marks-bn = omega (arith, mark-le (mark || eqb level 2) (x / 32), mark-le (eqb level 1) (x / 16))

  marks-top : turned_marks level mark x / 64 ≡ 2
  unfolding turned_marks
  marks-top = omega (arith, mark-le (mark || eqb level 2) (x / 32), mark-le (eqb level 1) (x / 16))

  marks-ci : turned_marks level mark x / 32 % 2 ≡ cond (mark || eqb level 2) 1 (x / 32 % 2)
  unfolding turned_marks
  marks-ci = omega (arith, mark-le (mark || eqb level 2) (x / 32), mark-le (eqb level 1) (x / 16))

  marks-ni : turned_marks level mark x / 16 % 2 ≡ cond (eqb level 1) 1 (x / 16 % 2)
  unfolding turned_marks
  marks-ni = omega (arith, mark-le (mark || eqb level 2) (x / 32), mark-le (eqb level 1) (x / 16))

  pub marks-low : turned_marks level mark x % 16 ≡ x % 16
  unfolding turned_marks
  marks-low = omega (arith, mark-le (mark || eqb level 2) (x / 32), mark-le (eqb level 1) (x / 16))

module _ (level : ℕ) (mark : Bool) (vpi vci : ℕ) (o : List ℕ) (n : length o ≡ 53) where
  -- the payload before its CRC-10 is written
  abbrev marked : List ℕ
  marked = get_or (payload o) 0 0 ∷ turned_marks level mark (get_or (payload o) 1 0) ∷ drop 2 (payload o)

  abbrev turned : List ℕ
  turned = header 0 vpi vci ++ turned_payload level mark (payload o)

  marked-size : length marked ≡ 48
  marked-size = simp length-drop (omega arith)

  pub turned-size : length turned ≡ 53
  unfolding turned_payload
  turned-size = carried-size marked marked-size 0 vpi vci

  marked-octets : AreOctets o → AreOctets marked
  marked-octets a =
      let p : AreOctets (payload o) = octets-drop 5 o a in
      octets-cons (p.each 0) (octets-cons (marks-lt level mark (get_or (payload o) 1 0)) (octets-drop 2 (payload o) p))

  pub turned-octets : AreOctets o → AreOctets turned
  unfolding turned_payload
  turned-octets a = carried-octets marked marked-size 0 vpi vci (lit≤ tt) (marked-octets a)

  marks-at : octet 7 turned ≡ turned_marks level mark (octet 7 o)
  unfolding header turned_payload
  marks-at = with_crc-at marked marked-size 1 (omega arith) ∙ ap (turned_marks level mark) (get_or-drop 5 o 1 0)

  rest_at : (j : ℕ) → j < 44 → get_or turned (suc (suc (suc (suc (suc (suc (suc j))))))) 0 ≡ get_or o (5 + (2 + j)) 0
  unfolding header turned_payload
  rest_at j h =
      with_crc-at marked marked-size (suc (suc j)) (omega arith) ∙ get_or-drop 2 (payload o) j 0 ∙ get_or-drop 5 o (2 + j) 0

  middle : (i : ℕ) → 8 ≤ i → i ≤ 51 → octet i turned ≡ octet i o
  middle i l h =
      let e : i - 1 ≡ suc (suc (suc (suc (suc (suc (suc (i - 8))))))) = omega arith in
      let d : 5 + (2 + (i - 8)) ≡ i - 1 = omega arith in
      ap (λ (k : ℕ). get_or turned k 0) e ∙ rest_at (i - 8) (omega arith) ∙ ap (λ (k : ℕ). get_or o k 0) d

  -- the reserved bits and octets stay, and RA, the rates, QL and SN
  pub turned-kept : Kept o turned
  unfolding header turned_payload
  turned-kept = record {
    low = ap (λ (x : ℕ). x % 16) marks-at ∙ marks-low level mark (octet 7 o);
    middle = middle;
    six = with_crc-six marked marked-size ∙ ap (λ (x : ℕ). x / 4) (get_or-drop 2 (payload o) 44 0 ∙ get_or-drop 5 o 46 0);
  }

  pairs : (i : ℕ) → 8 ≤ i → i ≤ 50 → pair i turned ≡ pair i o
  pairs i l h =
      let a : octet i turned ≡ octet i o = middle i l (omega arith) in
      let b : octet (i + 1) turned ≡ octet (i + 1) o = middle (i + 1) (omega arith) (omega arith) in
      cc

  -- the rate codes are those received
  pub turned_clear : rates_clear turned ≡ rates_clear o
  unfolding rates_clear
  turned_clear = rw (pairs 8 (lit≤ tt) (lit≤ tt), pairs 10 (lit≤ tt) (lit≤ tt), pairs 12 (lit≤ tt) (lit≤ tt))

  turned-fields : vpi ≤ 255 → vci ≤ 65535 → fields_of turned ≡ returned level mark vpi vci (fields_of o)
  unfolding fields_of returned turned_payload
  turned-fields g l = λ i. record {
    vpi = p-vpi i;
    vci = p-vci i;
    dir = p-dir i;
    bn = p-bn i;
    ci = p-ci i;
    ni = p-ni i;
    ra = p-ra i;
    er = pairs 8 (lit≤ tt) (lit≤ tt) i;
    ccr = pairs 10 (lit≤ tt) (lit≤ tt) i;
    mcr = pairs 12 (lit≤ tt) (lit≤ tt) i;
    ql = p-long 14 (lit≤ tt) (lit≤ tt) i;
    sn = p-long 18 (lit≤ tt) (lit≤ tt) i;
  }
    where
      p-vpi : vpi_of turned ≡ vpi
      p-vpi = carried-vpi marked marked-size 0 vpi vci g

      p-vci : vci_of turned ≡ vci
      p-vci = carried-vci marked marked-size 0 vpi vci (lit≤ tt) l

      p-dir : octet 7 turned / 128 % 2 ≡ 1
      p-dir = rw marks-at (marks-dir level mark (octet 7 o))

      p-bn : octet 7 turned / 64 % 2 ≡ 0
      p-bn = rw marks-at (marks-bn level mark (octet 7 o))

      p-ci : octet 7 turned / 32 % 2 ≡ cond (mark || eqb level 2) 1 (octet 7 o / 32 % 2)
      p-ci = rw marks-at (marks-ci level mark (octet 7 o))

      p-ni : octet 7 turned / 16 % 2 ≡ cond (eqb level 1) 1 (octet 7 o / 16 % 2)
      p-ni = rw marks-at (marks-ni level mark (octet 7 o))

      p-ra : octet 7 turned / 8 % 2 ≡ octet 7 o / 8 % 2
      p-ra = omega (arith, turned-kept.low)

      p-long : (i : ℕ) → 8 ≤ i → i ≤ 48 → pair i turned * 65536 + pair (i + 2) turned ≡ pair i o * 65536 + pair (i + 2) o
      p-long i l h =
          let a : pair i turned ≡ pair i o = pairs i l (omega arith) in
          let b : pair (i + 2) turned ≡ pair (i + 2) o = pairs (i + 2) (omega arith) (omega arith) in
          cc

  -- the turned cell reads as the received one, except for VPI, VCI, DIR, BN and the marks set here
  pub turned-read : (f : Fields) → reading o ≡ RmCell f → vpi ≤ 255 → vci ≤ 65535 → reading turned ≡ RmCell (returned level mark vpi vci f)
  unfolding turned_payload
  turned-read f e g l =
      carried-read marked marked-size 0 vpi vci (lit≤ tt) (get_or-drop 5 o 0 0 ∙ (rm-received o f e).protocol) (turned_clear ∙ (rm-received o f e).clear)
      ∙ ap RmCell (turned-fields g l ∙ ap (returned level mark vpi vci) (sym (rm-received o f e).fields))

  -- its form is that of every RM cell, and DIR and BN tell it from the others
  pub turned-framed : octet 6 o ≡ 1 → Framed 0 turned
  unfolding turned_payload
  turned-framed e = carried-framed marked marked-size 0 vpi vci (lit≤ tt) (get_or-drop 5 o 0 0 ∙ e)

  pub turned-top : octet 7 turned / 64 ≡ 2
  turned-top = rw marks-at (marks-top level mark (octet 7 o))

  -- the same cell, from the words of its payload
  pub turned-words : AreOctets o → turned_cell vpi vci (payload_of (turned_payload level mark (payload o))) ≡ turned
  unfolding turned_cell turned_payload
  turned-words a =
      ap (λ (l : List ℕ). header 0 vpi vci ++ l)
      (octets-of-payload (with_crc marked) (with_crc-size marked marked-size) (with_crc-octets marked marked-size (marked-octets a)).each)
