-- An RM cell that is written has the form of one, and nothing outside its fields.
use mathlib.Core.Path.{◌≡◌, refl, ap, ◌∙◌}
use mathlib.Core.List.{List, [], ◌∷◌, ◌++◌}
use Prim.Native.Nat.{ℕ, suc, ◌-◌, ◌%◌, ◌≤◌, ◌<◌}
use native.Mathlib.Omega.{arith}
use lib.ListN.{length, get_or, replicate, get_or-append, get_or-replicate}
use Rattle.cell.specs.Header.{header}
use Rattle.cell.specs.Fields.{Fields, with_crc, rm_cell}
use Rattle.cell.specs.Form.{Framed, WrittenForm}
use Rattle.cell.proofs.WithCrc.{carried-size, with_crc-at, with_crc-six, with_crc-right}
use Rattle.cell.proofs.Written.{unchecked}

-- any payload of protocol 1, in a cell of any pair
pub carried-framed : (p : List ℕ) → length p ≡ 48 → (clp vpi vci : ℕ) → clp ≤ 1 → get_or p 0 0 ≡ 1 → Framed clp (header clp vpi vci ++ with_crc p)
unfolding header
carried-framed p n clp vpi vci h e = record {
  size = carried-size p n clp vpi vci;
  gfc = omega arith;
  payload_type = omega (arith, h);
  loss_priority = omega (arith, h);
  check = refl;
  protocol = with_crc-at p n 0 (omega arith) ∙ e;
  crc = with_crc-right p n;
}

-- the reserved octets stand behind 21 others
filled : (clp : ℕ) (f : Fields) (j : ℕ) → j < 30 → get_or (rm_cell clp f) (suc (suc (suc (suc (suc (suc (suc (suc (suc (suc (suc (suc (suc (suc (suc (suc (suc (suc (suc (suc (suc j))))))))))))))))))))) 0 ≡ 0x6A
unfolding rm_cell header
filled clp f j h =
    with_crc-at (unchecked f) refl (suc (suc (suc (suc (suc (suc (suc (suc (suc (suc (suc (suc (suc (suc (suc (suc j)))))))))))))))) (omega (arith, h)) ∙ get_or-append (replicate 30 0x6A) (0 ∷ 0 ∷ []) 0 j h ∙ get_or-replicate 30 j 0x6A 0 h

pub written-form : WrittenForm
unfolding rm_cell header
written-form clp f h = (
  carried-framed (unchecked f) refl clp f.vpi f.vci h refl,
  record {
    low = ap (λ (x : ℕ). x % 8) (with_crc-at (unchecked f) refl 1 (omega arith)) ∙ omega arith;
    reserved = λ i l g. ap (λ (k : ℕ). get_or (rm_cell clp f) k 0) (behind i l) ∙ filled clp f (i - 22) (omega (arith, g));
    six = with_crc-six (unchecked f) refl;
  },
)
  where
    behind : (i : ℕ) → 22 ≤ i → i - 1 ≡ suc (suc (suc (suc (suc (suc (suc (suc (suc (suc (suc (suc (suc (suc (suc (suc (suc (suc (suc (suc (suc (i - 22)))))))))))))))))))))
    behind i l = omega (arith, l)
