-- Four octets stored: the cell with another ER and its CRC-10.
use mathlib.Core.Path.{◌≡◌, sym, ap, ap₂, ◌∙◌}
use mathlib.Core.List.{List, [], ◌∷◌, ◌++◌, append-nil}
use Prim.Native.Nat.{ℕ, ◌+◌, ◌*◌, ◌/◌, ◌%◌, ◌≤◌, ◌<◌}
use native.Mathlib.Omega.{arith}
use lib.Bits.{bit_xor}
use lib.ListN.{length, get_or, take, set, drop_of_length-le}
use lib.Seq.{sets-eq}
use Rattle.cell_crc.specs.Checks.{payload_check}
use Rattle.cell_payload.specs.Payload.{octets_of}
use Rattle.cell.specs.Octets.{octet, pair, payload, AreOctets}
use Rattle.cell.specs.Fields.{with_crc}
use Rattle.cell.proofs.OctetLists.{octets-cons, octets-drop}
use Rattle.port.specs.Limit.{with_er}
use Rattle.port.specs.ErAlone.{er_alone}
use Rattle.port.proofs.Octets.{Opened, opened, open_up}
use Rattle.port.proofs.Differences.{difference, check-changed, high-changed, low-changed}

-- the last two of 44 octets
last-two : (r : List ℕ) (u v : ℕ) → length r ≡ 44 → set (set r 42 u) 43 v ≡ take 42 r ++ (u ∷ v ∷ [])
last-two r u v n =
    sets-eq (u ∷ v ∷ []) r 42 (omega arith)
    ∙ ap (λ (t : List ℕ). take 42 r ++ (u ∷ v ∷ []) ++ t) (drop_of_length-le r {i = 44} (omega arith))
    ∙ append-nil (take 42 r ++ (u ∷ v ∷ []))

module _ (p m x y h l : ℕ) (r : List ℕ) (n : length r ≡ 44) (o : AreOctets (p ∷ m ∷ x ∷ y ∷ r)) (hh : h < 256) (hl : l < 256) {k : ℕ}
    (right : (get_or r 42 0 * 256 + get_or r 43 0) % 1024 ≡ payload_check (p ∷ m ∷ x ∷ y ∷ r))
    (is : k ≡ payload_check (octets_of (er_alone (difference x y h l)))) (small : k < 1024) where
  payload-stored :
      p ∷ m ∷ h ∷ l ∷ set (set r 42 (bit_xor (get_or r 42 0) (k / 256))) 43 (bit_xor (get_or r 43 0) (k % 256)) ≡ with_crc (p ∷ m ∷ h ∷ l ∷ r)
  unfolding with_crc
  payload-stored =
      ap (λ (t : List ℕ). p ∷ m ∷ h ∷ l ∷ t)
      (last-two r _ _ n
      ∙ ap₂ (λ (u v : ℕ). take 42 r ++ (u ∷ v ∷ []))
      (high-changed s t k ht small ∙ ap (λ (c : ℕ). s / 4 * 4 + c / 256) (sym check))
      (low-changed s t k ht small ∙ ap (λ (c : ℕ). c % 256) (sym check)))
    where
      s : ℕ
      s = get_or r 42 0

      t : ℕ
      t = get_or r 43 0

      ht : t < 256
      ht = o.each 47

      new : AreOctets (p ∷ m ∷ h ∷ l ∷ r)
      new = octets-cons (o.each 0) (octets-cons (o.each 1) (octets-cons hh (octets-cons hl (octets-drop 4 (p ∷ m ∷ x ∷ y ∷ r) o))))

      check : payload_check (p ∷ m ∷ h ∷ l ∷ r) ≡ bit_xor ((s * 256 + t) % 1024) k
      check = check-changed p m x y h l r n o new ∙ ap₂ bit_xor (sym right) (sym is)

-- for a cell that is taken apart
in_cell : {o : List ℕ} → Opened o → (code : ℕ) {k : ℕ} → AreOctets o → code ≤ 65535 → pair 52 o % 1024 ≡ payload_check (payload o)
    → k ≡ payload_check (octets_of (er_alone (difference (octet 8 o) (octet 9 o) (code / 256) (code % 256)))) → k < 1024
    → set (set (set (set o 7 (code / 256)) 8 (code % 256)) 51 (bit_xor (octet 52 o) (k / 256))) 52 (bit_xor (octet 53 o) (k % 256))
    ≡ take 5 o ++ with_er code (payload o)
unfolding with_er
in_cell (opened a b c d e p m x y r n) code o f right is small =
    ap (λ (t : List ℕ). a ∷ b ∷ c ∷ d ∷ e ∷ t)
    (payload-stored p m x y (code / 256) (code % 256) r n (octets-drop 5 (a ∷ b ∷ c ∷ d ∷ e ∷ p ∷ m ∷ x ∷ y ∷ r) o)
    (omega arith) (omega arith) right is small
    ∙ ap (λ (h : ℕ). with_crc (p ∷ m ∷ h ∷ (code % 256) ∷ r)) (omega arith))

pub er-stored : (o : List ℕ) (code : ℕ) {k : ℕ} → length o ≡ 53 → AreOctets o → code ≤ 65535 → pair 52 o % 1024 ≡ payload_check (payload o)
    → k ≡ payload_check (octets_of (er_alone (difference (octet 8 o) (octet 9 o) (code / 256) (code % 256)))) → k < 1024
    → set (set (set (set o 7 (code / 256)) 8 (code % 256)) 51 (bit_xor (octet 52 o) (k / 256))) 52 (bit_xor (octet 53 o) (k % 256))
    ≡ take 5 o ++ with_er code (payload o)
er-stored o code n = in_cell (open_up o n) code
