-- The fields of an RM cell, in its octets and out of them. The ranges are those of refusal 7.
-- (Document 01, "The cell, 53 octets"; document 02, L6 and L7.)
use Rattle.std.specs.Prelude.{ℕ, ◌+◌, ◌*◌, ◌/◌, ◌%◌, ◌≡◌, Bool, ◌&&◌, List, [], ◌∷◌, ◌++◌, leb, eqb, get_or, take, replicate}
use Rattle.rate.specs.Code.{codes_clear}
use Rattle.cell_crc.specs.Checks.{payload_check}
use Rattle.cell_payload.specs.Payload.{octets_of}
use Rattle.cell_payload.specs.declared.payload.Payload.{Payload}
use Rattle.cell.specs.Octets.{octet, pair, two, payload}
use Rattle.cell.specs.Header.{vpi_of, vci_of, header}
use Rattle.cell.specs.Name.{address_name}
pub use Rattle.cell.specs.declared.fields.Fields.{Fields}

-- octet 7 from the top: DIR, BN, CI, NI, RA; ER, CCR and MCR; QL; SN
unfoldable pub fields_of : List ℕ → Fields
fields_of o = record {
  vpi = vpi_of o;
  vci = vci_of o;
  dir = octet 7 o / 128 % 2;
  bn = octet 7 o / 64 % 2;
  ci = octet 7 o / 32 % 2;
  ni = octet 7 o / 16 % 2;
  ra = octet 7 o / 8 % 2;
  er = pair 8 o;
  ccr = pair 10 o;
  mcr = pair 12 o;
  ql = pair 14 o * 65536 + pair 16 o;
  sn = pair 18 o * 65536 + pair 20 o;
}

-- whether bit 15 is 0 in ER, CCR and MCR
unfoldable pub rates_clear : List ℕ → Bool
rates_clear o = codes_clear (pair 8 o) (pair 10 o) (pair 12 o)

-- the name of the connection whose cell it is
abbrev pub cell_name : Fields → ℕ
cell_name f = address_name f.vpi f.vci

-- each field fits the bits that a cell has for it; a rate code has 15, since bit 15 is reserved
unfoldable pub fields_fit : Fields → Bool
fields_fit f =
    leb f.vpi 255 && (leb f.vci 65535
    && (leb f.dir 1 && (leb f.bn 1 && (leb f.ci 1 && (leb f.ni 1 && (leb f.ra 1
    && (leb f.er 32767 && (leb f.ccr 32767 && (leb f.mcr 32767 && (leb f.ql 4_294_967_295 && leb f.sn 4_294_967_295))))))))))

-- octets 6 to 51: protocol 1, octet 7, the rates, QL, SN, and 0x6A
abbrev pub body : Fields → List ℕ
body f =
    1 ∷ (f.dir * 128 + f.bn * 64 + f.ci * 32 + f.ni * 16 + f.ra * 8)
    ∷ (two f.er ++ (two f.ccr ++ (two f.mcr ++ (two (f.ql / 65536) ++ (two f.ql ++ (two (f.sn / 65536) ++ (two f.sn ++ replicate 30 0x6A)))))))

-- a payload of 48 octets with its CRC-10 written new: the six bits before it stay
unfoldable pub with_crc : List ℕ → List ℕ
with_crc p = take 46 p ++ ((get_or p 46 0 / 4 * 4 + payload_check p / 256) ∷ (payload_check p % 256) ∷ [])

-- an RM cell of 53 octets, its six reserved bits 0
unfoldable pub rm_cell : (clp : ℕ) → Fields → List ℕ
rm_cell clp f = header clp f.vpi f.vci ++ with_crc (body f ++ (0 ∷ 0 ∷ []))

-- whether the ten bits of the CRC-10 are right
unfoldable pub crc_right : List ℕ → Bool
crc_right o = eqb (pair 52 o % 1024) (payload_check (payload o))

-- the same of a payload's words: the low ten bits of the last are its CRC-10
pub record CrcMatches (p : Payload) : Type 0 where
  pub crc : p.f % 1024 ≡ payload_check (octets_of p)
