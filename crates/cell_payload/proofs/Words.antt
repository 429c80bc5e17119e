-- A payload's octets and its words tell the same.
use mathlib.Core.Path.{◌≡◌, sym, ap, ap₂, ◌∙◌}
use mathlib.Core.List.{List, [], ◌∷◌, ◌++◌}
use Prim.Native.Nat.{ℕ, zero, suc, ◌+◌, ◌*◌, ◌/◌, ◌%◌, ◌^◌, ◌<◌}
use native.Mathlib.Nat.{add_assoc}
use native.Mathlib.Omega.{arith}
use lib.ListN.{length, get_or, drop, drop_of_length-le}
use lib.Seq.{drop-cons, get_or-drop}
use Rattle.cell_payload.specs.Payload.{Payload, word_octets, octets_of, word_at, payload_of}

-- the octets of the word that eight octets make
octets-back : (a b c d e f g h : ℕ) → a < 256 → b < 256 → c < 256 → d < 256 → e < 256 → f < 256 → g < 256 → h < 256
    → word_octets
    (a * 0x100000000000000 + b * 0x1000000000000 + c * 0x10000000000 + d * 0x100000000 + e * 0x1000000 + f * 0x10000 + g * 0x100 + h)
    ≡ a ∷ b ∷ c ∷ d ∷ e ∷ f ∷ g ∷ h ∷ []
octets-back a b c d e f g h ha hb hc hd he hf hg hh =
    let w : ℕ = a * 0x100000000000000 + b * 0x1000000000000 + c * 0x10000000000 + d * 0x100000000 + e * 0x1000000 + f * 0x10000 + g * 0x100 + h in
    let e0 : w / 0x100000000000000 % 256 ≡ a = omega arith in
    let e1 : w / 0x1000000000000 % 256 ≡ b = omega arith in
    let e2 : w / 0x10000000000 % 256 ≡ c = omega arith in
    let e3 : w / 0x100000000 % 256 ≡ d = omega arith in
    let e4 : w / 0x1000000 % 256 ≡ e = omega arith in
    let e5 : w / 0x10000 % 256 ≡ f = omega arith in
    let e6 : w / 0x100 % 256 ≡ g = omega arith in
    let e7 : w % 256 ≡ h = omega arith in
    cc

-- the word that a word's octets make
word_back : (w : ℕ) → w < 2 ^ 64
    → w / 0x100000000000000 % 256 * 0x100000000000000 + w / 0x1000000000000 % 256 * 0x1000000000000 + w / 0x10000000000 % 256 * 0x10000000000
    + w / 0x100000000 % 256 * 0x100000000 + w / 0x1000000 % 256 * 0x1000000 + w / 0x10000 % 256 * 0x10000 + w / 0x100 % 256 * 0x100 + w % 256
    ≡ w
word_back w h =
    digits w (w / 0x100) (w / 0x10000) (w / 0x1000000) (w / 0x100000000) (w / 0x10000000000) (w / 0x1000000000000) (w / 0x100000000000000)
    (w / 0x100000000000000 % 256) (w / 0x1000000000000 % 256) (w / 0x10000000000 % 256) (w / 0x100000000 % 256)
    (w / 0x1000000 % 256) (w / 0x10000 % 256) (w / 0x100 % 256) (w % 256)
    (omega arith) (omega arith) (omega arith) (omega arith) (omega arith) (omega arith) (omega arith) (omega arith)
  where
    digits : (w u v x y z s t a b c d e f g h : ℕ) → w ≡ u * 256 + h → u ≡ v * 256 + g → v ≡ x * 256 + f → x ≡ y * 256 + e → y ≡ z * 256 + d
        → z ≡ s * 256 + c → s ≡ t * 256 + b → t ≡ a
        → a * 0x100000000000000 + b * 0x1000000000000 + c * 0x10000000000 + d * 0x100000000 + e * 0x1000000 + f * 0x10000 + g * 0x100 + h ≡ w
    digits w u v x y z s t a b c d e f g h p0 p1 p2 p3 p4 p5 p6 p7 = omega arith

abbrev six : (a b c d e f : ℕ) → Payload
six a b c d e f = record { a = a; b = b; c = c; d = d; e = e; f = f }

same : {a b c d e f u v w x y z : ℕ} → a ≡ u → b ≡ v → c ≡ w → d ≡ x → e ≡ y → f ≡ z → six a b c d e f ≡ six u v w x y z
same {c = c} {d = d} {e = e} {f = f} {u = u} {v = v} {w = w} {x = x} p q r s t o =
    ap₂ (λ (k l : ℕ). six k l c d e f) p q ∙ ap₂ (λ (k l : ℕ). six u v k l e f) r s ∙ ap₂ (λ (k l : ℕ). six u v w x k l) t o

pub payload-of-octets : (p : Payload) → p.a < 2 ^ 64 → p.b < 2 ^ 64 → p.c < 2 ^ 64 → p.d < 2 ^ 64 → p.e < 2 ^ 64 → p.f < 2 ^ 64
    → payload_of (octets_of p) ≡ p
payload-of-octets p ha hb hc hd he hf =
    same (word_back p.a ha) (word_back p.b hb) (word_back p.c hc) (word_back p.d hd) (word_back p.e he) (word_back p.f hf)

-- n octets of a list, from index i on
abbrev gets : List ℕ → ℕ → ℕ → List ℕ
gets l i zero = []
gets l i (suc n) = get_or l i 0 ∷ gets l (suc i) n

gets-is : (l : List ℕ) (i n : ℕ) → i + n ≡ length l → gets l i n ≡ drop i l
gets-is l i zero e = sym (drop_of_length-le l {i = i} (omega arith))
gets-is l i (suc n) e = ap (λ (t : List ℕ). get_or l i 0 ∷ t) (gets-is l (suc i) n (omega arith)) ∙ sym (drop-cons l i 0 (omega arith))

pub octets-of-payload : (l : List ℕ) → length l ≡ 48 → ((i : ℕ) → get_or l i 0 < 256) → octets_of (payload_of l) ≡ l
octets-of-payload l n h =
    ap₂ (λ (s t : List ℕ). s ++ t) (back 0)
    (ap₂ (λ (s t : List ℕ). s ++ t) (back 8)
    (ap₂ (λ (s t : List ℕ). s ++ t) (back 16)
    (ap₂ (λ (s t : List ℕ). s ++ t) (back 24) (ap₂ (λ (s t : List ℕ). s ++ t) (back 32) (back 40)))))
    ∙ gets-is l 0 48 (sym n)
  where
    back : (i : ℕ) → word_octets (word_at l i)
        ≡ get_or l i 0 ∷ get_or l (i + 1) 0 ∷ get_or l (i + 2) 0 ∷ get_or l (i + 3) 0 ∷ get_or l (i + 4) 0 ∷ get_or l (i + 5) 0 ∷ get_or l (i + 6) 0 ∷ get_or l (i + 7) 0 ∷ []
    back i =
        octets-back (get_or l i 0) (get_or l (i + 1) 0) (get_or l (i + 2) 0) (get_or l (i + 3) 0) (get_or l (i + 4) 0) (get_or l (i + 5) 0) (get_or l (i + 6) 0) (get_or l (i + 7) 0)
        (h i) (h (i + 1)) (h (i + 2)) (h (i + 3)) (h (i + 4)) (h (i + 5)) (h (i + 6)) (h (i + 7))

-- the words of a list's payload, which begins at index 5
pub payload-past : (l : List ℕ) {a b c d e f : ℕ} → a ≡ word_at l 5 → b ≡ word_at l 13 → c ≡ word_at l 21 → d ≡ word_at l 29 → e ≡ word_at l 37 → f ≡ word_at l 45
    → six a b c d e f ≡ payload_of (drop 5 l)
payload-past l p q r s t o = same (p ∙ sym (past 0)) (q ∙ sym (past 8)) (r ∙ sym (past 16)) (s ∙ sym (past 24)) (t ∙ sym (past 32)) (o ∙ sym (past 40))
  where
    past : (i : ℕ) → word_at (drop 5 l) i ≡ word_at l (5 + i)
    past i = simp (get_or-drop, add_assoc)
