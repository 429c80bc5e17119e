-- The CRC-10 of a payload: it has ten bits, its own ten bits do not count, and it is a remainder of the six words.
use mathlib.Core.Path.{◌≡◌, refl, sym, ap, ap₂, ◌∙◌}
use mathlib.Core.List.{List, [], ◌∷◌, ◌++◌, append_assoc, append-nil}
use Prim.Native.Nat.{ℕ, ◌+◌, ◌*◌, ◌/◌, ◌%◌, ◌^◌, ◌<◌}
use native.Mathlib.Nat.{add-zero, div-mul-le_self, lt_of_le_of_lt, mod-mod}
use native.Mathlib.Omega.{arith}
use lib.Bits.{bit_xor, xor_block, xor_lt, xor_shr}
use lib.Dec.{lit<}
use lib.ListN.{length, get_or, take, take-append-drop, drop_of_length-le}
use lib.Seq.{drop-cons, length-take-le, take-append-add, take_at}
use Rattle.cell_crc.specs.Remainder.{divide, remainder, bits, octet_bits}
use Rattle.cell_crc.specs.Checks.{payload_check}
use Rattle.cell_payload.specs.declared.payload.Payload.{Payload}
use Rattle.cell_payload.specs.Payload.{word_octets, octets_of}
use Rattle.cell_crc.specs.Folding.{limbs, wide}
use Rattle.cell_crc.proofs.Bits.{bits-append, bits-low, bits-part, bits-split, bits-zero, length-bits, octet_bits-append, octets-binary, take-binary}
use Rattle.cell_crc.proofs.Division.{remainder-lt}
use Rattle.cell_crc.proofs.Fold.{rem-xor}
use Rattle.cell_crc.proofs.Factors.{by10}
use Rattle.cell_crc.proofs.Limbs.{Six, limbs-xor}

pub payload_lt : (p : List ℕ) → payload_check p < 1024
unfolding payload_check
payload_lt p = remainder-lt 10 0x633 refl (take 374 (octet_bits p)) (take-binary 374 (octet_bits p) (octets-binary p))

-- ---- the last ten bits

length-octet_bits : (xs : List ℕ) → length (octet_bits xs) ≡ length xs * 8
unfolding octet_bits bits
length-octet_bits [] = refl
length-octet_bits (x ∷ xs) = let e : length (octet_bits xs) ≡ length xs * 8 = length-octet_bits xs in omega arith

-- the high bits of a number
high_bits : (m n x : ℕ) (rest : List ℕ) → take m (bits (m + n) x ++ rest) ≡ bits m (x / 2 ^ n)
high_bits m n x rest =
    let h : List ℕ = bits m (x / 2 ^ n) in
    ap (λ (l : List ℕ). take m (l ++ rest)) (bits-split m n x)
    ∙ ap (take m) (append_assoc h (bits n (x % 2 ^ n)) rest)
    ∙ take_at h (bits n (x % 2 ^ n) ++ rest) m (length-bits m (x / 2 ^ n))

-- the bits that count, of 46 octets and two more
counted : (p : List ℕ) (x y : ℕ) → length p ≡ 46 → take 374 (octet_bits (p ++ (x ∷ y ∷ []))) ≡ octet_bits p ++ bits 6 (x / 4)
unfolding octet_bits
counted p x y n =
    let A : List ℕ = octet_bits p in
    let B : List ℕ = bits 8 x ++ (bits 8 y ++ []) in
    let la : length A + 6 ≡ 374 = ap (λ (z : ℕ). z + 6) (length-octet_bits p ∙ ap (λ (z : ℕ). z * 8) n) in
    ap₂ take (sym la) (octet_bits-append p (x ∷ y ∷ []))
    ∙ take-append-add A B 6
    ∙ ap (λ (l : List ℕ). A ++ l) (high_bits 6 2 x (bits 8 y ++ []))

split48 : (p : List ℕ) → length p ≡ 48 → p ≡ take 46 p ++ (get_or p 46 0 ∷ get_or p 47 0 ∷ [])
split48 p n =
    sym (take-append-drop 46 p)
    ∙ ap (λ (l : List ℕ). take 46 p ++ l)
    (drop-cons p 46 0 (omega arith)
    ∙ ap (λ (l : List ℕ). get_or p 46 0 ∷ l)
    (drop-cons p 47 0 (omega arith) ∙ ap (λ (l : List ℕ). get_or p 47 0 ∷ l) (drop_of_length-le p {i = 48} (omega arith))))

-- a payload with other bits in the place of its CRC has the same CRC
pub payload-own : (p : List ℕ) (x y : ℕ) → length p ≡ 48 → x < 4 → payload_check (take 46 p ++ ((get_or p 46 0 / 4 * 4 + x) ∷ y ∷ [])) ≡ payload_check p
unfolding payload_check
payload-own p x y n h =
    let m : length (take 46 p) ≡ 46 = length-take-le 46 p (omega arith) in
    let e : (get_or p 46 0 / 4 * 4 + x) / 4 ≡ get_or p 46 0 / 4 = omega arith in
    ap (remainder 10 0x633)
    (counted (take 46 p) (get_or p 46 0 / 4 * 4 + x) y m
    ∙ ap (λ (z : ℕ). octet_bits (take 46 p) ++ bits 6 z) e
    ∙ sym (counted (take 46 p) (get_or p 46 0) (get_or p 47 0) m)
    ∙ ap (λ (l : List ℕ). take 374 (octet_bits l)) (sym (split48 p n)))

-- ---- the six words

octet-more : (n w : ℕ) (rest : List ℕ) → rest ≡ bits n w → bits 8 (w / 2 ^ n % 256) ++ rest ≡ bits (8 + n) w
octet-more n w rest e = ap (λ (l : List ℕ). bits 8 (w / 2 ^ n % 256) ++ l) e ∙ bits-part 8 n w

word-bits : (w : ℕ) → octet_bits (word_octets w) ≡ bits 64 w
unfolding octet_bits
word-bits w =
    octet-more 56 w _
    (octet-more 48 w _
    (octet-more 40 w _
    (octet-more 32 w _
    (octet-more 24 w _ (octet-more 16 w _ (octet-more 8 w _ (append-nil (bits 8 (w % 256)) ∙ bits-low 8 (w % 256) w (mod-mod w 256))))))))

word_more : (os : List ℕ) (m x w : ℕ) → octet_bits os ≡ bits m x → w < 2 ^ 64 → octet_bits (os ++ word_octets w) ≡ bits (m + 64) (x * 2 ^ 64 + w)
word_more os m x w e h =
    octet_bits-append os (word_octets w) ∙ ap₂ (λ (k l : List ℕ). k ++ l) e (word-bits w) ∙ sym (bits-append m 64 x w h)

pub payload-words : (p : Payload) → Six p.a p.b p.c p.d p.e p.f
    → payload_check (octets_of p) ≡ by10 384 (limbs p.a p.b p.c p.d p.e (p.f / 1024 * 1024))
unfolding payload_check remainder
payload-words p six =
    let x : ℕ = wide p in
    let two = word_more (word_octets p.a) 64 p.a p.b (word-bits p.a) six.1 in
    let three = word_more _ 128 _ p.c two six.2 in
    let four = word_more _ 192 _ p.d three six.3 in
    let five = word_more _ 256 _ p.e four six.4 in
    let all : octet_bits (octets_of p) ≡ bits 384 x = word_more _ 320 _ p.f five six.5 in
    let cut : take 374 (octet_bits (octets_of p)) ≡ bits 374 (x / 1024) = ap (take 374) (all ∙ sym (append-nil (bits 384 x))) ∙ high_bits 374 10 x [] in
    let low : x / 1024 * 1024 + 0 ≡ limbs p.a p.b p.c p.d p.e (p.f / 1024 * 1024) =
    masked (((((p.a * 2 ^ 64 + p.b) * 2 ^ 64 + p.c) * 2 ^ 64 + p.d) * 2 ^ 64 + p.e)) p.f in
    ap (divide 10 0x633 0)
    (ap₂ (λ (k l : List ℕ). k ++ l) cut (sym (bits-zero 10)) ∙ sym (bits-append 374 10 (x / 1024) 0 (lit< tt)) ∙ ap (bits 384) low)
  where
    masked : (h f : ℕ) → (h * 2 ^ 64 + f) / 1024 * 1024 + 0 ≡ h * 2 ^ 64 + f / 1024 * 1024
    masked h f = omega arith

-- the payload whose words are the exclusive-ors of those of p and q
abbrev pub both : Payload → Payload → Payload
both p q = record { a = bit_xor p.a q.a; b = bit_xor p.b q.b; c = bit_xor p.c q.c; d = bit_xor p.d q.d; e = bit_xor p.e q.e; f = bit_xor p.f q.f }

-- bits that change in a payload change its CRC by their own
pub payload-both : (p q : Payload) → Six p.a p.b p.c p.d p.e p.f → Six q.a q.b q.c q.d q.e q.f
    → payload_check (octets_of (both p q)) ≡ bit_xor (payload_check (octets_of p)) (payload_check (octets_of q))
payload-both p q h k =
    let f : ℕ = p.f / 1024 * 1024 in
    let g : ℕ = q.f / 1024 * 1024 in
    let hf : f < 2 ^ 64 = lt_of_le_of_lt (div-mul-le_self p.f 1024) h.5 in
    let hg : g < 2 ^ 64 = lt_of_le_of_lt (div-mul-le_self q.f 1024) k.5 in
    let low : bit_xor p.f q.f / 1024 * 1024 ≡ bit_xor f g =
    ap (λ (z : ℕ). z * 1024) (xor_shr p.f q.f 10) ∙ sym (add-zero (bit_xor (p.f / 1024) (q.f / 1024) * 1024))
    ∙ sym (xor_block 10 (p.f / 1024) (q.f / 1024) 0 0 (lit< tt) (lit< tt)) ∙ ap₂ bit_xor (add-zero f) (add-zero g) in
    payload-words (both p q) (
      xor_lt 64 p.a q.a h.0 k.0,
      xor_lt 64 p.b q.b h.1 k.1,
      xor_lt 64 p.c q.c h.2 k.2,
      xor_lt 64 p.d q.d h.3 k.3,
      xor_lt 64 p.e q.e h.4 k.4,
      xor_lt 64 p.f q.f h.5 k.5,
    )
    ∙ ap (λ (z : ℕ). by10 384 (limbs (bit_xor p.a q.a) (bit_xor p.b q.b) (bit_xor p.c q.c) (bit_xor p.d q.d) (bit_xor p.e q.e) z)) low
    ∙ ap (by10 384)
    (sym
    (limbs-xor p.a p.b p.c p.d p.e f q.a q.b q.c q.d q.e g (h.0, h.1, h.2, h.3, h.4, hf) (k.0, k.1, k.2, k.3, k.4, hg)))
    ∙ rem-xor 10 0x633 refl 384 (limbs p.a p.b p.c p.d p.e f) (limbs q.a q.b q.c q.d q.e g)
    ∙ sym (ap₂ bit_xor (payload-words p h) (payload-words q k))
