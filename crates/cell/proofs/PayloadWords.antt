-- A payload made and changed as words, beside its octets.
use mathlib.Core.Path.{◌≡◌, refl, sym, ap, ap₂, ◌∙◌}
use mathlib.Core.Bool.{Bool, cond, ◌||◌}
use mathlib.Core.List.{List, [], ◌∷◌, ◌++◌}
use Prim.Native.Nat.{ℕ, ◌+◌, ◌*◌, ◌/◌, ◌%◌, ◌^◌, ◌≤◌, ◌<◌}
use native.Mathlib.Omega.{arith}
use lib.Dec.{eqb}
use lib.ListN.{drop}
use Rattle.cell_crc.specs.Checks.{payload_check}
use Rattle.cell_payload.specs.Payload.{word_octets, octets_of, word_at, payload_of}
use Rattle.cell_payload.specs.declared.payload.Payload.{Payload}
use Rattle.cell_crc.proofs.Check.{payload_lt}
use Rattle.cell_payload.proofs.Words.{payload-of-octets, octets-of-payload}
use Rattle.cell.specs.Octets.{AreOctets}
use Rattle.cell.specs.Fields.{Fields, body, with_crc}
use Rattle.cell.specs.Turning.{turned_marks, turned_payload}
use Rattle.cell.proofs.WithCrc.{with_crc-size, with_crc-octets}
use Rattle.cell.proofs.Fits.{Fit}
use Rattle.cell.proofs.Written.{without-crc-octets}

-- ---- the CRC-10 written new

-- the low ten bits of a word of eight octets
low-ten : (w a b c d e f g h k : ℕ)
    → a * 0x100000000000000 + b * 0x1000000000000 + c * 0x10000000000 + d * 0x100000000 + e * 0x1000000 + f * 0x10000 + g * 0x100 + h ≡ w
    → h < 256 → k < 1024
    → w / 1024 * 1024 + k
    ≡ a * 0x100000000000000 + b * 0x1000000000000 + c * 0x10000000000 + d * 0x100000000 + e * 0x1000000 + f * 0x10000 + (g / 4 * 4 + k / 256) * 0x100 + k % 256
low-ten w a b c d e f g h k e0 l m = omega arith

pub crc-words : (p : Payload) {k : ℕ} → p.a < 2 ^ 64 → p.b < 2 ^ 64 → p.c < 2 ^ 64 → p.d < 2 ^ 64 → p.e < 2 ^ 64 → p.f < 2 ^ 64
    → k ≡ payload_check (octets_of p)
    → ◌≡◌ {A = Payload} (record { a = p.a; b = p.b; c = p.c; d = p.d; e = p.e; f = p.f / 1024 * 1024 + k }) (payload_of (with_crc (octets_of p)))
unfolding with_crc
crc-words p {k} ha hb hc hd he hf e = λ i. record {
  a = (back i).a;
  b = (back i).b;
  c = (back i).c;
  d = (back i).d;
  e = (back i).e;
  f = last i;
}
  where
    back : p ≡ payload_of (octets_of p)
    back = sym (payload-of-octets p ha hb hc hd he hf)

    last : p.f / 1024 * 1024 + k ≡ word_at (with_crc (octets_of p)) 40
    last =
        let w : ℕ = p.f in
        ap (λ (x : ℕ). w / 1024 * 1024 + x) e
        ∙ low-ten w (w / 0x100000000000000 % 256) (w / 0x1000000000000 % 256) (w / 0x10000000000 % 256) (w / 0x100000000 % 256) (w / 0x1000000 % 256)
        (w / 0x10000 % 256) (w / 0x100 % 256) (w % 256) (payload_check (octets_of p))
        (sym (ap (λ (q : Payload). q.f) back)) (omega arith) (payload_lt (octets_of p))

-- ---- turning

pub marks-are : (level : ℕ) (mark : Bool) (x : ℕ) {ci ni : ℕ} → ci ≡ cond (mark || eqb level 2) 1 (x / 32 % 2) → ni ≡ cond (eqb level 1) 1 (x / 16 % 2)
    → 128 + ci * 32 + ni * 16 + x % 16 ≡ turned_marks level mark x
unfolding turned_marks
marks-are level mark x e k = ap₂ (λ (c n : ℕ). 128 + c * 32 + n * 16 + x % 16) e k

-- the six low octets of a word
low-octets : (h l : ℕ) → drop 2 (word_octets (h * 0x1000000000000 + l)) ≡ drop 2 (word_octets l)
low-octets h l =
    let w : ℕ = h * 0x1000000000000 + l in
    let e2 : w / 0x10000000000 % 256 ≡ l / 0x10000000000 % 256 = omega arith in
    let e3 : w / 0x100000000 % 256 ≡ l / 0x100000000 % 256 = omega arith in
    let e4 : w / 0x1000000 % 256 ≡ l / 0x1000000 % 256 = omega arith in
    let e5 : w / 0x10000 % 256 ≡ l / 0x10000 % 256 = omega arith in
    let e6 : w / 0x100 % 256 ≡ l / 0x100 % 256 = omega arith in
    let e7 : w % 256 ≡ l % 256 = omega arith in
    cc

-- a word whose second octet is another
second-octet : (w m : ℕ) → m < 256
    → word_octets (w / 0x100000000000000 * 0x100000000000000 + m * 0x1000000000000 + w % 0x1000000000000)
    ≡ (w / 0x100000000000000 % 256) ∷ m ∷ drop 2 (word_octets w)
second-octet w m h = made (w / 0x100000000000000) (w / 0x1000000000000) (w % 0x1000000000000) (omega arith) (omega arith)
  where
    made : (a k l : ℕ) → l < 0x1000000000000 → w ≡ k * 0x1000000000000 + l
        → word_octets (a * 0x100000000000000 + m * 0x1000000000000 + l) ≡ (a % 256) ∷ m ∷ drop 2 (word_octets w)
    made a k l hl e =
        let v : ℕ = a * 0x100000000000000 + m * 0x1000000000000 + l in
        let top : v / 0x100000000000000 ≡ a = omega arith in
        let next : v / 0x1000000000000 % 256 ≡ m = omega arith in
        let split : v ≡ (a * 256 + m) * 0x1000000000000 + l = omega arith in
        let low : drop 2 (word_octets v) ≡ drop 2 (word_octets w) =
        ap (λ (x : ℕ). drop 2 (word_octets x)) split ∙ low-octets (a * 256 + m) l ∙ sym (ap (λ (x : ℕ). drop 2 (word_octets x)) e ∙ low-octets k l) in
        ap₂ (λ (x y : ℕ). x % 256 ∷ y ∷ drop 2 (word_octets v)) top next ∙ ap (λ (t : List ℕ). a % 256 ∷ m ∷ t) low

-- a payload with these bits in octet 7, the second of its first word
abbrev pub remarked : Payload → ℕ → Payload
remarked p m = record {
  a = p.a / 0x100000000000000 * 0x100000000000000 + m * 0x1000000000000 + p.a % 0x1000000000000;
  b = p.b;
  c = p.c;
  d = p.d;
  e = p.e;
  f = p.f;
}

pub turn-words : (p : Payload) (level : ℕ) (mark : Bool) (m : ℕ) → m ≡ turned_marks level mark (p.a / 0x1000000000000 % 256) → m < 256
    → payload_of (with_crc (octets_of (remarked p m))) ≡ payload_of (turned_payload level mark (octets_of p))
unfolding turned_payload
turn-words p level mark m e h =
    let w : ℕ = p.a in
    let rest : List ℕ = word_octets p.b ++ (word_octets p.c ++ (word_octets p.d ++ (word_octets p.e ++ word_octets p.f))) in
    ap (λ (l : List ℕ). payload_of (with_crc (l ++ rest))) (second-octet w m h)
    ∙ ap (λ (x : ℕ). payload_of (with_crc ((w / 0x100000000000000 % 256) ∷ x ∷ (drop 2 (word_octets w) ++ rest)))) e

-- ---- writing

-- a number of 32 bits in its four octets
long-back : (x : ℕ) → x ≤ 4_294_967_295 → x / 65536 / 256 % 256 * 0x1000000 + x / 65536 % 256 * 0x10000 + x / 256 % 256 * 0x100 + x % 256 ≡ x
long-back x h =
    joined x (x / 65536) (x % 65536) _ _ _ _ (omega arith) (omega arith) (omega arith)
  where
    joined : (x h l a b c d : ℕ) → a * 256 + b ≡ h → c * 256 + d ≡ l → h * 65536 + l ≡ x → a * 0x1000000 + b * 0x10000 + c * 0x100 + d ≡ x
    joined x h l a b c d p q r = omega arith

pub without-crc-words : (f : Fields) → Fit f → {m a b : ℕ} → m ≡ f.dir * 128 + f.bn * 64 + f.ci * 32 + f.ni * 16 + f.ra * 8
    → a ≡ 0x100000000000000 + m * 0x1000000000000 + f.er * 0x100000000 + f.ccr * 0x10000 + f.mcr → b ≡ f.ql * 0x100000000 + f.sn
    → ◌≡◌ {A = Payload}
    (record { a = a; b = b; c = 0x6a6a6a6a6a6a6a6a; d = 0x6a6a6a6a6a6a6a6a; e = 0x6a6a6a6a6a6a6a6a; f = 0x6a6a6a6a6a6a0000 })
    (payload_of (body f ++ (0 ∷ 0 ∷ [])))
without-crc-words f h {m} {a} {b} em ea eb = λ i. record {
  a = first i;
  b = second i;
  c = 0x6a6a6a6a6a6a6a6a;
  d = 0x6a6a6a6a6a6a6a6a;
  e = 0x6a6a6a6a6a6a6a6a;
  f = 0x6a6a6a6a6a6a0000;
}
  where
    code : (x : ℕ) → x ≤ 32767 → x ≡ x / 256 % 256 * 256 + x % 256
    code x l = omega arith

    rates : (m r c d r1 r0 c1 c0 d1 d0 : ℕ) → r ≡ r1 * 256 + r0 → c ≡ c1 * 256 + c0 → d ≡ d1 * 256 + d0
        → 0x100000000000000 + m * 0x1000000000000 + r * 0x100000000 + c * 0x10000 + d
        ≡ 1 * 0x100000000000000 + m * 0x1000000000000 + r1 * 0x10000000000 + r0 * 0x100000000 + c1 * 0x1000000 + c0 * 0x10000 + d1 * 0x100 + d0
    rates m r c d r1 r0 c1 c0 d1 d0 p q s = omega arith

    first : a ≡ word_at (body f ++ (0 ∷ 0 ∷ [])) 0
    first =
        ea ∙ ap (λ (x : ℕ). 0x100000000000000 + x * 0x1000000000000 + f.er * 0x100000000 + f.ccr * 0x10000 + f.mcr) em
        ∙ rates _ f.er f.ccr f.mcr _ _ _ _ _ _ (code f.er h.er) (code f.ccr h.ccr) (code f.mcr h.mcr)

    longs : (q s a b c d u v w x : ℕ) → a * 0x1000000 + b * 0x10000 + c * 0x100 + d ≡ q → u * 0x1000000 + v * 0x10000 + w * 0x100 + x ≡ s
        → q * 0x100000000 + s
        ≡ a * 0x100000000000000 + b * 0x1000000000000 + c * 0x10000000000 + d * 0x100000000 + u * 0x1000000 + v * 0x10000 + w * 0x100 + x
    longs q s a b c d u v w x p r = omega arith

    second : b ≡ word_at (body f ++ (0 ∷ 0 ∷ [])) 8
    second = eb ∙ longs f.ql f.sn _ _ _ _ _ _ _ _ (long-back f.ql h.ql) (long-back f.sn h.sn)

-- the octets of the words that are written
pub with_crc-words : (f : Fields) → Fit f → {p q : Payload} → p ≡ payload_of (body f ++ (0 ∷ 0 ∷ [])) → q ≡ payload_of (with_crc (octets_of p))
    → octets_of q ≡ with_crc (body f ++ (0 ∷ 0 ∷ []))
with_crc-words f h {p} e k =
    let plain : List ℕ = body f ++ (0 ∷ 0 ∷ []) in
    let o : AreOctets plain = without-crc-octets f h in
    let same : octets_of p ≡ plain = ap octets_of e ∙ octets-of-payload plain refl o.each in
    ap octets_of (k ∙ ap (λ (l : List ℕ). payload_of (with_crc l)) same)
    ∙ octets-of-payload (with_crc plain) (with_crc-size plain refl) (with_crc-octets plain refl o).each
