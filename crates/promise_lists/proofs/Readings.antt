-- Two backward cells, the second at least as congested as the first, are refused with the same number, or read
-- alike except for their marks and ER.
use Prim.Native.Nat.{ℕ, ◌/◌, ◌%◌, ◌≤◌, ◌<◌}
use mathlib.Core.Path.{◌≡◌, sym, ap, ◌∙◌}
use mathlib.Core.Bool.{Bool, true, false}
use mathlib.Core.List.{List}
use native.Mathlib.Omega.{arith}
use lib.Dec.{eqb}
use lib.ListN.{get_or}
use lib.Seq.{get_or-take}
use Rattle.rate.specs.Code.{rate_of}
use Rattle.cell.specs.declared.fields.Fields.{Fields}
use Rattle.cell.specs.Read.{Reading, Refused, RmCell}
use Rattle.cell.specs.Octets.{octet}
use Rattle.cell.specs.Header.{vpi_of, vci_of, type_of}
use Rattle.cell.specs.Name.{address_name}
use Rattle.cell.specs.Fields.{fields_of, rates_clear, cell_name}
use Rattle.cell.specs.Reading.{reading}
use Rattle.promise_lists.specs.Congestion.{level_of, RightChecks, Backward, AtLeastAsCongested}
use Rattle.laws.specs.Require.{require}

-- fields of two backward cells, the second at least as congested
pub record MoreCongested (f g : Fields) : Type 0 where
  pub name : cell_name g ≡ cell_name f
  pub first : f.dir ≡ 1
  pub second : g.dir ≡ 1
  pub bn : g.bn ≡ f.bn
  pub rate : rate_of g.er ≤ rate_of f.er
  pub level : level_of f ≤ level_of g

pub data NotLessCongested : Reading → Reading → Type 0 where
  alike : (n : ℕ) → NotLessCongested (Refused n) (Refused n)
  more_congested : (f g : Fields) → MoreCongested f g → NotLessCongested (RmCell f) (RmCell g)

require-congested : (n : ℕ) (t : Bool) {r s : Reading} → NotLessCongested r s → NotLessCongested (require (Refused n) t r) (require (Refused n) t s)
unfolding require
require-congested n true h = h
require-congested n false h = alike n

-- what is left to test of an RM cell whose checks are right and whose rate codes have bit 15 clear
reading-right : (o : List ℕ) → RightChecks o → rates_clear o ≡ true → type_of o ≡ 6 → reading o ≡ require (Refused 6) (eqb (octet 6 o) 1) (RmCell (fields_of o))
unfolding reading require
reading-right o h r p = rw (h.size, h.header, p, h.crc, r)

pub reading-congested : (a b : List ℕ) → Backward b → AtLeastAsCongested b a → NotLessCongested (reading a) (reading b)
unfolding fields_of
reading-congested a b k h =
    rw (reading-right a h.right_first h.clear_first (type ∙ k.is_rm), reading-right b h.right_second h.clear_second k.is_rm, ← kept 5 (omega arith))
    (require-congested 6 (eqb (octet 6 a) 1)
    (more_congested (fields_of a) (fields_of b) (record { name = name; first = dir ∙ k.is_backward; second = k.is_backward; bn = bn; rate = h.rate; level = h.level })))
  where
    kept : (i : ℕ) → i < 6 → get_or a i 0 ≡ get_or b i 0
    kept i l = sym (get_or-take 6 a i 0 l) ∙ ap (λ o. get_or o i 0) h.rest.start ∙ get_or-take 6 b i 0 l

    name : address_name (vpi_of b) (vci_of b) ≡ address_name (vpi_of a) (vci_of a)
    name = rw (kept 0 (omega arith), kept 1 (omega arith), kept 2 (omega arith), kept 3 (omega arith))

    type : type_of a ≡ type_of b
    type = rw (kept 3 (omega arith))

    dir : octet 7 a / 128 % 2 ≡ octet 7 b / 128 % 2
    dir = omega (arith, h.rest.dir_bn)

    bn : octet 7 b / 64 % 2 ≡ octet 7 a / 64 % 2
    bn = rw h.rest.dir_bn
