-- What is written as an RM cell is read back: the fields, with both checks right.
use mathlib.Core.Path.{◌≡◌, refl, ap, ◌∙◌}
use mathlib.Core.Bool.{true}
use mathlib.Core.List.{List, [], ◌∷◌, ◌++◌}
use Prim.Native.Nat.{ℕ, ◌+◌, ◌*◌, ◌/◌, ◌%◌, ◌≤◌, ◌<◌}
use native.Mathlib.Omega.{arith}
use lib.Dec.{lit<}
use lib.ListN.{length, replicate}
use Rattle.rate.proofs.Codes.{codes-clear}
use Rattle.cell.specs.Octets.{octet, pair, AreOctets}
use Rattle.cell.specs.Header.{vpi_of, vci_of, header}
use Rattle.cell.specs.Fields.{Fields, fields_fit, fields_of, rates_clear, body, with_crc, rm_cell}
use Rattle.cell.specs.Reading.{reading, RmCell}
use Rattle.cell.proofs.OctetLists.{octets-nil, octets-cons, octets-append, octets-replicate}
use Rattle.cell.proofs.WithCrc.{carried-size, carried-octets, carried-vpi, carried-vci, carried-read}
use Rattle.cell.proofs.Fits.{Fit, fit}

-- the payload before its CRC-10 is written
abbrev pub unchecked : Fields → List ℕ
unchecked f = body f ++ (0 ∷ 0 ∷ [])

pub without-crc-octets : (f : Fields) → Fit f → AreOctets (unchecked f)
without-crc-octets f b =
    octets-cons (lit< tt) (octets-cons marks
    (two-octets f.er (two-octets f.ccr (two-octets f.mcr (two-octets (f.ql / 65536) (two-octets f.ql
    (two-octets (f.sn / 65536) (two-octets f.sn
    (octets-append (replicate 30 0x6A) (0 ∷ 0 ∷ []) (octets-replicate 30 (lit< tt)) (octets-cons (lit< tt) (octets-cons (lit< tt) octets-nil)))))))))))
  where
    marks : f.dir * 128 + f.bn * 64 + f.ci * 32 + f.ni * 16 + f.ra * 8 < 256
    marks = omega arith

    two-octets : (x : ℕ) {l : List ℕ} → AreOctets l → AreOctets (x / 256 % 256 ∷ x % 256 ∷ l)
    two-octets x a =
        let high : x / 256 % 256 < 256 = omega arith in
        let low : x % 256 < 256 = omega arith in octets-cons high (octets-cons low a)

module _ (clp : ℕ) (f : Fields) where
  pub written-size : length (rm_cell clp f) ≡ 53
  unfolding rm_cell
  written-size = carried-size (unchecked f) refl clp f.vpi f.vci

  pub written-octets : clp ≤ 1 → fields_fit f ≡ true → AreOctets (rm_cell clp f)
  unfolding rm_cell
  written-octets h e = carried-octets (unchecked f) refl clp f.vpi f.vci h (without-crc-octets f (fit f e))

  fields_back : clp ≤ 1 → Fit f → fields_of (rm_cell clp f) ≡ f
  unfolding fields_of header with_crc rm_cell
  fields_back h b = λ i. record {
    vpi = p-vpi i;
    vci = p-vci i;
    dir = p-dir i;
    bn = p-bn i;
    ci = p-ci i;
    ni = p-ni i;
    ra = p-ra i;
    er = p-er i;
    ccr = p-ccr i;
    mcr = p-mcr i;
    ql = p-ql i;
    sn = p-sn i;
  }
    where
      p-vpi : vpi_of (rm_cell clp f) ≡ f.vpi
      p-vpi = carried-vpi (unchecked f) refl clp f.vpi f.vci b.vpi

      p-vci : vci_of (rm_cell clp f) ≡ f.vci
      p-vci = carried-vci (unchecked f) refl clp f.vpi f.vci h b.vci

      p-dir : octet 7 (rm_cell clp f) / 128 % 2 ≡ f.dir
      p-dir = omega arith

      p-bn : octet 7 (rm_cell clp f) / 64 % 2 ≡ f.bn
      p-bn = omega arith

      p-ci : octet 7 (rm_cell clp f) / 32 % 2 ≡ f.ci
      p-ci = omega arith

      p-ni : octet 7 (rm_cell clp f) / 16 % 2 ≡ f.ni
      p-ni = omega arith

      p-ra : octet 7 (rm_cell clp f) / 8 % 2 ≡ f.ra
      p-ra = omega arith

      p-er : pair 8 (rm_cell clp f) ≡ f.er
      p-er = omega arith

      p-ccr : pair 10 (rm_cell clp f) ≡ f.ccr
      p-ccr = omega arith

      p-mcr : pair 12 (rm_cell clp f) ≡ f.mcr
      p-mcr = omega arith

      p-ql : pair 14 (rm_cell clp f) * 65536 + pair 16 (rm_cell clp f) ≡ f.ql
      p-ql = omega arith

      p-sn : pair 18 (rm_cell clp f) * 65536 + pair 20 (rm_cell clp f) ≡ f.sn
      p-sn = omega arith

  -- fields that fit have bit 15 clear in their rate codes
  pub written-clear : clp ≤ 1 → fields_fit f ≡ true → rates_clear (rm_cell clp f) ≡ true
  unfolding rates_clear fields_of
  written-clear h e =
      let b : Fit f = fit f e in
      let s : fields_of (rm_cell clp f) ≡ f = fields_back h b in
      rw (ap (λ (g : Fields). g.er) s, ap (λ (g : Fields). g.ccr) s, ap (λ (g : Fields). g.mcr) s)
      (codes-clear f.er f.ccr f.mcr b.er b.ccr b.mcr)

  pub read-written : clp ≤ 1 → fields_fit f ≡ true → reading (rm_cell clp f) ≡ RmCell f
  unfolding rm_cell
  read-written h e =
      carried-read (unchecked f) refl clp f.vpi f.vci h refl (written-clear h e) ∙ ap RmCell (fields_back h (fit f e))
