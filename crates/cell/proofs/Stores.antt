-- Stores into a cell, one after the other, as whole parts of it.
use mathlib.Core.Path.{◌≡◌, ap, ◌∙◌}
use mathlib.Core.List.{List, [], ◌∷◌, ◌++◌, append-nil}
use Prim.Native.Nat.{ℕ, ◌+◌, ◌*◌, ◌/◌, ◌%◌}
use native.Mathlib.Omega.{arith}
use lib.ListN.{length, take, drop, set, drop_of_length-le}
use lib.Seq.{sets, sets-eq}
use Rattle.cell_crc.specs.Checks.{header_check}
use Rattle.cell_payload.specs.Payload.{word_octets, octets_of}
use Rattle.cell_payload.specs.declared.payload.Payload.{Payload}
use Rattle.cell.specs.Header.{first_four, header}

-- six words from index 5 on fill the cell
pub payload-put : (l : List ℕ) {l1 l2 l3 l4 l5 l6 : List ℕ} (p : Payload) → length l ≡ 53
    → l1 ≡ sets l 5 (word_octets p.a) → l2 ≡ sets l1 13 (word_octets p.b) → l3 ≡ sets l2 21 (word_octets p.c)
    → l4 ≡ sets l3 29 (word_octets p.d) → l5 ≡ sets l4 37 (word_octets p.e) → l6 ≡ sets l5 45 (word_octets p.f)
    → l6 ≡ take 5 l ++ octets_of p
payload-put l p n e1 e2 e3 e4 e5 e6 =
    e6
    ∙ ap (λ (m : List ℕ). sets m 45 (word_octets p.f))
    (e5
    ∙ ap (λ (m : List ℕ). sets m 37 (word_octets p.e))
    (e4
    ∙ ap (λ (m : List ℕ). sets m 29 (word_octets p.d))
    (e3 ∙ ap (λ (m : List ℕ). sets m 21 (word_octets p.c)) (e2 ∙ ap (λ (m : List ℕ). sets m 13 (word_octets p.b)) e1))))
    ∙ sets-eq (octets_of p) l 5 (omega arith)
    ∙ ap (λ (t : List ℕ). take 5 l ++ octets_of p ++ t) (drop_of_length-le l {i = 53} (omega arith))
    ∙ append-nil (take 5 l ++ octets_of p)

-- five octets from the front
pub header-put : (l : List ℕ) (clp vpi vci h : ℕ) → length l ≡ 53 → h ≡ header_check (first_four clp vpi vci)
    → set (set (set (set (set l 0 (vpi / 16 % 16)) 1 (vpi % 16 * 16 + vci / 4096 % 16)) 2 (vci / 16 % 256)) 3 (vci % 16 * 16 + 12 + clp)) 4 h ≡ header clp vpi vci ++ drop 5 l
unfolding header
header-put l clp vpi vci h n e =
    ap (λ (x : ℕ). sets l 0 (first_four clp vpi vci ++ (x ∷ []))) e
    ∙ sets-eq (first_four clp vpi vci ++ (header_check (first_four clp vpi vci) ∷ [])) l 0 (omega arith)

-- a header, and then a payload
pub cell-put : (clp vpi vci : ℕ) (l : List ℕ) {h c : List ℕ} (p : List ℕ) → h ≡ header clp vpi vci ++ drop 5 l → c ≡ take 5 h ++ p → c ≡ header clp vpi vci ++ p
unfolding header
cell-put clp vpi vci l p e k = k ∙ ap (λ (m : List ℕ). take 5 m ++ p) e
