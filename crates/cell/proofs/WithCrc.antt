-- A payload with its CRC-10 written new, and the cell that carries it.
use mathlib.Core.Path.{◌≡◌, refl, sym, ap, ◌∙◌}
use mathlib.Core.Bool.{true}
use mathlib.Core.List.{List, [], ◌∷◌, ◌++◌}
use Prim.Native.Nat.{ℕ, ◌+◌, ◌*◌, ◌/◌, ◌%◌, ◌≤◌, ◌<◌}
use native.Mathlib.Omega.{arith}
use borrow.Author.Tests.{eq-eqb}
use lib.ListN.{length, get_or, take, length-append, get_or-append}
use lib.Seq.{length-take-le, get_or-take, get_or_at, get_or-append-add}
use Rattle.cell_crc.specs.Checks.{header_check, payload_check}
use Rattle.cell_payload.specs.Payload.{payload_of}
use Rattle.cell_crc.proofs.Octets.{header-lt}
use Rattle.cell_crc.proofs.Check.{payload_lt, payload-own}
use Rattle.cell.specs.Octets.{octet, AreOctets}
use Rattle.cell.specs.Header.{header, first_four, vpi_of, vci_of, header_right}
use Rattle.cell.specs.Fields.{fields_of, rates_clear, with_crc, crc_right, CrcMatches}
use Rattle.cell.specs.Reading.{reading, RmCell}
use Rattle.cell.proofs.OctetLists.{octets-nil, octets-cons, octets-append, octets-take}
use Rattle.cell.proofs.Readings.{words-checked, takes-rest, takes-fields}

module _ (p : List ℕ) (n : length p ≡ 48) where
  first : length (take 46 p) ≡ 46
  first = length-take-le 46 p (omega arith)

  pub with_crc-size : length (with_crc p) ≡ 48
  unfolding with_crc
  with_crc-size = let e : length (take 46 p) ≡ 46 = first in simp length-append (omega arith)

  pub with_crc-at : (i : ℕ) → i < 46 → get_or (with_crc p) i 0 ≡ get_or p i 0
  unfolding with_crc
  with_crc-at i h = let e : length (take 46 p) ≡ 46 = first in get_or-append (take 46 p) _ 0 i (omega arith) ∙ get_or-take 46 p i 0 h

  with_crc-46 : get_or (with_crc p) 46 0 ≡ get_or p 46 0 / 4 * 4 + payload_check p / 256
  unfolding with_crc
  with_crc-46 = get_or_at (take 46 p) _ _ 0 46 first

  with_crc-47 : get_or (with_crc p) 47 0 ≡ payload_check p % 256
  unfolding with_crc
  with_crc-47 =
      let tail : List ℕ = (get_or p 46 0 / 4 * 4 + payload_check p / 256) ∷ (payload_check p % 256) ∷ [] in
      ap (λ (k : ℕ). get_or (take 46 p ++ tail) (k + 1) 0) (sym first) ∙ get_or-append-add (take 46 p) tail 1 0

  -- the six bits before the CRC-10 stay
  pub with_crc-six : get_or (with_crc p) 46 0 / 4 ≡ get_or p 46 0 / 4
  with_crc-six = let l : payload_check p < 1024 = payload_lt p in rw with_crc-46 (omega arith)

  with_crc-check : payload_check (with_crc p) ≡ payload_check p
  unfolding with_crc
  with_crc-check = let l : payload_check p < 1024 = payload_lt p in payload-own p (payload_check p / 256) (payload_check p % 256) n (omega arith)

  pub with_crc-right : (get_or (with_crc p) 46 0 * 256 + get_or (with_crc p) 47 0) % 1024 ≡ payload_check (with_crc p)
  with_crc-right = let l : payload_check p < 1024 = payload_lt p in rw (with_crc-46, with_crc-47, with_crc-check) (omega arith)

  pub with_crc-octets : AreOctets p → AreOctets (with_crc p)
  unfolding with_crc
  with_crc-octets a =
      let l : payload_check p < 1024 = payload_lt p in
      let h : get_or p 46 0 < 256 = a.each 46 in
      let high : get_or p 46 0 / 4 * 4 + payload_check p / 256 < 256 = omega arith in
      let low : payload_check p % 256 < 256 = omega arith in
      octets-append (take 46 p) _ (octets-take 46 p a) (octets-cons high (octets-cons low octets-nil))

  pub with_crc-checked : AreOctets p → CrcMatches (payload_of (with_crc p))
  with_crc-checked a = words-checked (with_crc p) with_crc-size (with_crc-octets a) with_crc-right

  module _ (clp vpi vci : ℕ) where
    abbrev pub carried : List ℕ
    carried = header clp vpi vci ++ with_crc p

    pub carried-size : length carried ≡ 53
    unfolding header
    carried-size = let e : length (with_crc p) ≡ 48 = with_crc-size in omega arith

    pub carried-octets : clp ≤ 1 → AreOctets p → AreOctets carried
    unfolding header
    carried-octets h a =
        let a1 : vpi / 16 % 16 < 256 = omega arith in
        let b : vpi % 16 * 16 + vci / 4096 % 16 < 256 = omega arith in
        let c : vci / 16 % 256 < 256 = omega arith in
        let d : vci % 16 * 16 + 12 + clp < 256 = omega arith in
        octets-cons a1 (octets-cons b (octets-cons c (octets-cons d (octets-cons (header-lt (first_four clp vpi vci)) (with_crc-octets a)))))

    pub carried-vpi : vpi ≤ 255 → vpi_of carried ≡ vpi
    unfolding header
    carried-vpi l = omega arith

    pub carried-vci : clp ≤ 1 → vci ≤ 65535 → vci_of carried ≡ vci
    unfolding header
    carried-vci h l = omega arith

    -- an RM cell of protocol 1 whose rate codes have bit 15 clear is read as one
    pub carried-read : clp ≤ 1 → get_or p 0 0 ≡ 1 → rates_clear carried ≡ true → reading carried ≡ RmCell (fields_of carried)
    unfolding header header_right crc_right
    carried-read h one clear =
        sym (takes-fields carried (eq-eqb _ _ with_crc-right) (with_crc-at 0 (omega arith) ∙ one) clear
        ∙ takes-rest carried carried-size (eq-eqb (octet 5 carried) (header_check (first_four clp vpi vci)) refl) (omega arith))
