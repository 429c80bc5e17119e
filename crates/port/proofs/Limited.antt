-- A backward cell that was held to a rate reads as before except for ER, and keeps every other bit.
use mathlib.Core.Path.{◌≡◌, refl, sym, ap, ap₂, ◌∙◌, subst}
use mathlib.Core.Bool.{true, ◌&&◌}
use mathlib.Core.List.{List, [], ◌∷◌, ◌++◌}
use Prim.Native.Nat.{ℕ, ◌+◌, ◌*◌, ◌/◌, ◌%◌, ◌<◌, min}
use native.Mathlib.Omega.{arith}
use borrow.Author.Tests.{eq-eqb, lt-ltb}
use lib.ListN.{length, get_or, take}
use lib.Seq.{length-take-le, take_at}
use Rattle.cell_crc.specs.Checks.{payload_check}
use Rattle.rate.specs.Code.{reserved_clear, codes_clear, rate_of, GreatestCode}
use Rattle.rate.proofs.Codes.{code-greatest}
use Rattle.cell.specs.Octets.{octet, pair, payload}
use Rattle.cell.specs.Header.{vpi_of, vci_of, header_right, type_of}
use Rattle.cell.specs.Fields.{fields_of, rates_clear, with_crc, crc_right}
use Rattle.cell.specs.Reading.{reading}
use Rattle.cell.specs.Admitted.{Admissible, data_cell, rm_cell, Admitted}
use Rattle.cell.specs.declared.fields.Fields.{Fields}
use Rattle.cell.specs.Read.{RmCell}
use Rattle.cell.proofs.Admits.{taken-admitted, rm-received}
use Rattle.cell.proofs.Readings.{takes-data, takes-rest, takes-fields}
use Rattle.cell.proofs.WithCrc.{with_crc-size, with_crc-at, with_crc-six, with_crc-right}
use Rattle.port.specs.Limit.{Forwarded, passed, held_er, with_er, limit}
use Rattle.port.specs.Limited.{fields_with_er, SameButEr, BackwardLimited}
use Rattle.port.proofs.Octets.{Opened, opened, open_up}
use Rattle.port.proofs.Cases.{er-le, er-fifteen, limit-backward}
use Rattle.laws.proofs.Tests.{both}

-- ---- a cell that is read as an RM cell has its header right and is of type 6
pub record Headed (o : List ℕ) : Type 0 where
  pub header : header_right o ≡ true
  pub type : type_of o ≡ 6

pub headed : (o : List ℕ) (f : Fields) → reading o ≡ RmCell f → Headed o
unfolding header_right
headed o f g = record { header = right; type = of admitted.kind }
  where
    admitted : Admitted o
    admitted = taken-admitted o (λ n e. let z : ◌≡◌ {A = ℕ} 0 1 = cc in omega arith)

    right : header_right o ≡ true
    right = eq-eqb _ _ admitted.check

    of : Admissible o → type_of o ≡ 6
    of (data_cell t) = let u = takes-data o admitted.size right t in let z : ◌≡◌ {A = ℕ} 0 1 = cc in absurd (omega arith)
    of (rm_cell t w p r) = t

-- ---- a cell that is taken apart, with another ER
module _ (a b c d e p m x y : ℕ) (r : List ℕ) (n : length r ≡ 44) (code : ℕ) where
  abbrev old : List ℕ
  old = a ∷ b ∷ c ∷ d ∷ e ∷ p ∷ m ∷ x ∷ y ∷ r

  -- the payload before its CRC-10 is written
  abbrev bare : List ℕ
  bare = p ∷ m ∷ (code / 256 % 256) ∷ (code % 256) ∷ r

  abbrev new : List ℕ
  new = a ∷ b ∷ c ∷ d ∷ e ∷ with_crc bare

  bare-size : length bare ≡ 48
  bare-size = omega arith

  new-size : length new ≡ 53
  new-size = omega (arith, with_crc-size bare bare-size)

  new-at : (i : ℕ) → i < 46 → get_or (with_crc bare) i 0 ≡ get_or bare i 0
  new-at = with_crc-at bare bare-size

  pair-at : (i : ℕ) → i + 1 < 46 → get_or (with_crc bare) i 0 * 256 + get_or (with_crc bare) (i + 1) 0 ≡ get_or bare i 0 * 256 + get_or bare (i + 1) 0
  pair-at i h = ap₂ (λ (u v : ℕ). u * 256 + v) (new-at i (omega arith)) (new-at (i + 1) h)

  new-same : SameButEr old new
  unfolding with_crc
  new-same = record {
    start = refl;
    middle = take_at (take 42 r) ((get_or r 42 0 / 4 * 4 + payload_check bare / 256) ∷ (payload_check bare % 256) ∷ []) 42 (length-take-le 42 r (omega arith));
    reserved = with_crc-six bare bare-size;
  }

  new-fields : code < 32768 → fields_of new ≡ fields_with_er code (fields_of old)
  unfolding fields_of
  new-fields h = λ i. record {
    vpi = vpi_of old;
    vci = vci_of old;
    dir = marks 128 i;
    bn = marks 64 i;
    ci = marks 32 i;
    ni = marks 16 i;
    ra = marks 8 i;
    er = p-er i;
    ccr = p-ccr i;
    mcr = p-mcr i;
    ql = p-ql i;
    sn = p-sn i;
  }
    where
      marks : (k : ℕ) → octet 7 new / k % 2 ≡ m / k % 2
      marks k = ap (λ (z : ℕ). z / k % 2) (new-at 1 (omega arith))

      p-er : (fields_of new).er ≡ code
      p-er = omega (arith, pair-at 2 (omega arith))

      p-ccr : (fields_of new).ccr ≡ (fields_of old).ccr
      p-ccr = omega (arith, pair-at 4 (omega arith))

      p-mcr : (fields_of new).mcr ≡ (fields_of old).mcr
      p-mcr = omega (arith, pair-at 6 (omega arith))

      p-ql : (fields_of new).ql ≡ (fields_of old).ql
      p-ql = omega (arith, pair-at 8 (omega arith), pair-at 10 (omega arith))

      p-sn : (fields_of new).sn ≡ (fields_of old).sn
      p-sn = omega (arith, pair-at 12 (omega arith), pair-at 14 (omega arith))

  -- bit 15 is clear in the new ER, and in the other two codes as it was
  new-clear : code < 32768 → rates_clear old ≡ true → rates_clear new ≡ true
  unfolding rates_clear codes_clear reserved_clear
  new-clear h g =
      let er : pair 8 new ≡ code = omega (arith, pair-at 2 (omega arith)) in
      rw (er, pair-at 4 (omega arith), pair-at 6 (omega arith), lt-ltb code 32768 h) (both (reserved_clear (pair 8 old)) (reserved_clear (pair 10 old) && reserved_clear (pair 12 old)) g).1

  new-read : (f : Fields) → code < 32768 → reading old ≡ RmCell f → reading new ≡ RmCell (fields_with_er code f)
  unfolding header_right crc_right
  new-read f h g =
      let s : Headed old = headed old f g in
      sym (takes-fields new (eq-eqb _ _ (with_crc-right bare bare-size)) (new-at 0 (omega arith) ∙ (rm-received old f g).protocol) (new-clear h (rm-received old f g).clear)
      ∙ takes-rest new new-size s.header s.type)
      ∙ ap RmCell (new-fields h ∙ ap (fields_with_er code) (sym (rm-received old f g).fields))

-- ---- any cell
in_cell : {o : List ℕ} → Opened o → (code : ℕ) (f : Fields) → code < 32768 → reading o ≡ RmCell f
    → (reading (take 5 o ++ with_er code (payload o)) ≡ RmCell (fields_with_er code f)) × SameButEr o (take 5 o ++ with_er code (payload o))
unfolding with_er
in_cell (opened a b c d e p m x y r n) code f h g = (new-read a b c d e p m x y r n code f h g, new-same a b c d e p m x y r n code)

pub backward-limited : BackwardLimited
backward-limited rate o f g d = record {
  accepted = ap (λ (q : Forwarded). q.refusal) (sym made);
  fields = subst (λ (q : Forwarded). reading q.cell ≡ RmCell (fields_with_er code f)) made new.0;
  octets = subst (λ (q : Forwarded). SameButEr o q.cell) made new.1;
  greatest = greatest;
  kept = λ h. omega (arith, greatest.not_above, greatest.greatest f.er (omega arith));
}
  where
    code : ℕ
    code = held_er rate f.er

    new : (reading (take 5 o ++ with_er code (payload o)) ≡ RmCell (fields_with_er code f)) × SameButEr o (take 5 o ++ with_er code (payload o))
    new = in_cell (open_up o (rm-received o f g).size) code f (er-fifteen rate f.er) g

    made : passed 0 (take 5 o ++ with_er code (payload o)) ≡ limit rate o
    made = limit-backward rate o g d refl refl

    greatest : GreatestCode (min (rate_of f.er) rate) code
    greatest = code-greatest (min (rate_of f.er) rate) (er-le rate f.er)
