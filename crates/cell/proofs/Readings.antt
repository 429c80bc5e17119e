-- What reading gives, by the tests of the cell that led there.
use mathlib.Core.Path.{◌≡◌, refl, sym, ap, ap₂, ◌∙◌, subst}
use mathlib.Core.Bool.{Bool, true, false, cond, ◌||◌, true≢false}
use mathlib.Core.List.{List, [], ◌∷◌}
use Prim.Native.Nat.{ℕ, suc, ◌*◌, ◌+◌, ◌/◌, ◌%◌, ◌≤◌, ◌<◌}
use native.Mathlib.Omega.{arith}
use borrow.Author.Tests.{eq-eqb, ne_eqb, eqb-true, eqb-false, le-leb, lt-leb, leb-true, leb-false}
use lib.Dec.{leb, eqb, lit<}
use lib.ListN.{length, get_or, take, length-drop}
use lib.Seq.{get_or-drop}
use Rattle.rate.specs.Code.{codes_clear}
use Rattle.cell_crc.specs.Checks.{header_check, payload_check}
use Rattle.cell_payload.specs.Payload.{octets_of, payload_of}
use Rattle.cell_payload.specs.declared.payload.Payload.{Payload}
use Rattle.cell_payload.proofs.Words.{octets-of-payload}
use Rattle.cell.specs.Octets.{octet, pair, payload, AreOctets}
use Rattle.cell.proofs.OctetLists.{octets-drop}
use Rattle.cell.specs.Header.{vpi_of, vci_of, type_of, header_right}
use Rattle.cell.specs.Fields.{Fields, fields_of, rates_clear, crc_right, CrcMatches}
use Rattle.cell.specs.Reading.{Reading, reading, Refused, DataCell, RmCell}
use Rattle.cell.specs.Refusals.{header_refusal, rest_refusal}
use Rattle.laws.specs.Require.{require}

-- the fields, from numbers that are equal to theirs
pub fields-are : (o : List ℕ) {vpi vci er ccr mcr ql sn : ℕ} → vpi ≡ vpi_of o → vci ≡ vci_of o → er ≡ pair 8 o → ccr ≡ pair 10 o → mcr ≡ pair 12 o
    → ql ≡ pair 14 o * 65536 + pair 16 o → sn ≡ pair 18 o * 65536 + pair 20 o
    → ◌≡◌ {A = Fields}
    (record {
      vpi = vpi;
      vci = vci;
      dir = octet 7 o / 128 % 2;
      bn = octet 7 o / 64 % 2;
      ci = octet 7 o / 32 % 2;
      ni = octet 7 o / 16 % 2;
      ra = octet 7 o / 8 % 2;
      er = er;
      ccr = ccr;
      mcr = mcr;
      ql = ql;
      sn = sn;
    })
    (fields_of o)
unfolding fields_of
fields-are o hp hv he hc hm hq hs = rw (hp, hv, he, hc, hm, hq, hs)

-- the reserved bits of its rate codes, likewise
pub codes-are : (o : List ℕ) {er ccr mcr : ℕ} → er ≡ pair 8 o → ccr ≡ pair 10 o → mcr ≡ pair 12 o → codes_clear er ccr mcr ≡ rates_clear o
unfolding rates_clear
codes-are o he hc hm = rw (he, hc, hm)

-- a data cell's reading, from its parts
pub data-same : {p p' v v' : ℕ} {e e' : Bool} → p ≡ p' → v ≡ v' → e ≡ e' → DataCell p v e ≡ DataCell p' v' e'
data-same hp hv he = λ i. DataCell (hp i) (hv i) (he i)

first-four : (o : List ℕ) → length o ≡ 53 → take 4 o ≡ octet 1 o ∷ octet 2 o ∷ octet 3 o ∷ octet 4 o ∷ []
first-four [] n = absurd (omega arith)
first-four (a ∷ []) n = absurd (omega arith)
first-four (a ∷ b ∷ []) n = absurd (omega arith)
first-four (a ∷ b ∷ c ∷ []) n = absurd (omega arith)
first-four (a ∷ b ∷ c ∷ d ∷ o) n = refl

-- octet 5 beside the check of the four before it
pub header-test : (o : List ℕ) (h : ℕ) → length o ≡ 53 → h ≡ header_check (octet 1 o ∷ octet 2 o ∷ octet 3 o ∷ octet 4 o ∷ [])
    → eqb (octet 5 o) h ≡ header_right o
unfolding header_right
header-test o h n e = ap (eqb (octet 5 o)) (e ∙ ap header_check (sym (first-four o n)))

-- the low ten bits of a payload's last word are in its last two octets
last-ten : (l : List ℕ) → (payload_of l).f % 1024 ≡ (get_or l 46 0 * 256 + get_or l 47 0) % 1024
last-ten l = omega arith

-- where these are right, the words have the right CRC-10
pub words-checked : (l : List ℕ) → length l ≡ 48 → AreOctets l → (get_or l 46 0 * 256 + get_or l 47 0) % 1024 ≡ payload_check l → CrcMatches (payload_of l)
words-checked l n a e = record { crc = last-ten l ∙ e ∙ ap payload_check (sym (octets-of-payload l n a.each)) }

-- the low ten bits of a payload's last word beside the check of its words
pub crc-test : (o : List ℕ) (p : Payload) (r : ℕ) → length o ≡ 53 → AreOctets o → p ≡ payload_of (payload o) → r ≡ payload_check (octets_of p)
    → eqb (p.f % 1024) r ≡ crc_right o
unfolding crc_right
crc-test o p r n a e k =
    ap₂ eqb
    (ap (λ (q : Payload). q.f % 1024) e ∙ low)
    (k ∙ ap (λ (q : Payload). payload_check (octets_of q)) e ∙ ap payload_check (octets-of-payload (payload o) (simp length-drop (omega arith)) (octets-drop 5 o a).each))
  where
    low : (payload_of (payload o)).f % 1024 ≡ pair 52 o % 1024
    low = last-ten (payload o) ∙ simp get_or-drop

-- what is left to test of an RM cell
abbrev pub rest : List ℕ → Reading
rest o = require (Refused 5) (crc_right o) (require (Refused 6) (eqb (octet 6 o) 1) (require (Refused 19) (rates_clear o) (RmCell (fields_of o))))

module _ (o : List ℕ) where
  refused-5 : crc_right o ≡ false → Refused 5 ≡ rest o
  unfolding require
  refused-5 w = simp w

  module _ (w : crc_right o ≡ true) where
    refused-6 : (octet 6 o ≡ 1 → ⊥) → Refused 6 ≡ rest o
    unfolding require
    refused-6 p = simp (w, ne_eqb _ _ p)

    module _ (p : octet 6 o ≡ 1) where
      refused-19 : rates_clear o ≡ false → Refused 19 ≡ rest o
      unfolding require
      refused-19 r = simp (w, eq-eqb _ _ p, r)

      pub takes-fields : rates_clear o ≡ true → RmCell (fields_of o) ≡ rest o
      unfolding require
      takes-fields r = simp (w, eq-eqb _ _ p, r)

  pub refused-1 : (length o ≡ 53 → ⊥) → Refused 1 ≡ reading o
  unfolding reading require
  refused-1 n = simp (ne_eqb _ _ n)

  module _ (n : length o ≡ 53) where
    refused-2 : header_right o ≡ false → Refused 2 ≡ reading o
    unfolding reading require
    refused-2 h = simp (eq-eqb _ _ n, h)

    module _ (h : header_right o ≡ true) where
      pub takes-data : type_of o ≤ 3 → DataCell (vpi_of o) (vci_of o) (eqb (type_of o / 2 % 2) 1) ≡ reading o
      unfolding reading require
      takes-data t = simp (eq-eqb _ _ n, h, le-leb _ _ t)

      refused-4 : 3 < type_of o → (type_of o ≡ 6 → ⊥) → Refused 4 ≡ reading o
      unfolding reading require
      refused-4 t u = simp (eq-eqb _ _ n, h, lt-leb _ _ t, ne_eqb _ _ u)

      pub takes-rest : type_of o ≡ 6 → rest o ≡ reading o
      unfolding reading require
      takes-rest u =
          let above : 3 < type_of o = omega arith in
          simp (eq-eqb _ _ n, h, lt-leb _ _ above, eq-eqb _ _ u)

-- What the header's refusal, 0 for none, says of the reading.
pub record HeaderMeets (o : List ℕ) (n : ℕ) : Type 0 where
  pub refused : (n ≡ 0 → ⊥) → reading o ≡ Refused n
  pub size : n ≡ 0 → length o ≡ 53
  pub data_cell : n ≡ 0 → leb (type_of o) 3 ≡ true → reading o ≡ DataCell (vpi_of o) (vci_of o) (eqb (type_of o / 2 % 2) 1)
  pub rm : n ≡ 0 → leb (type_of o) 3 ≡ false → reading o ≡ rest o

header_refused : (o : List ℕ) (k : ℕ) {n : ℕ} → n ≡ suc k → Refused (suc k) ≡ reading o → HeaderMeets o n
header_refused o k e q = record {
  refused = λ _. sym (ap Refused e ∙ q);
  size = λ z. absurd (omega (arith, e, z));
  data_cell = λ z. absurd (omega (arith, e, z));
  rm = λ z. absurd (omega (arith, e, z));
}

pub header-meets : (o : List ℕ) (n : ℕ) → n ≡ header_refusal o → HeaderMeets o n
unfolding header_refusal
header-meets o n e = go (eqb (length o) 53) (header_right o) (leb (type_of o) 3) (eqb (type_of o) 6) refl refl refl refl e
  where
    go : (a b d f : Bool) → eqb (length o) 53 ≡ a → header_right o ≡ b → leb (type_of o) 3 ≡ d → eqb (type_of o) 6 ≡ f
        → n ≡ cond a (cond b (cond (d || f) 0 4) 2) 1 → HeaderMeets o n
    go false b d f p q s t e = header_refused o 0 e (refused-1 o (eqb-false _ _ p))
    go true false d f p q s t e = header_refused o 1 e (refused-2 o (eqb-true _ _ p) q)
    go true true true f p q s t e =
        let m = eqb-true _ _ p in
        record {
          refused = λ z. absurd (z e);
          size = λ _. m;
          data_cell = λ _ _. sym (takes-data o m q (leb-true _ _ s));
          rm = λ _ x. absurd (true≢false (sym s ∙ x));
        }
    go true true false true p q s t e =
        let m = eqb-true _ _ p in
        record {
          refused = λ z. absurd (z e);
          size = λ _. m;
          data_cell = λ _ x. absurd (true≢false (sym x ∙ s));
          rm = λ _ _. sym (takes-rest o m q (eqb-true _ _ t));
        }
    go true true false false p q s t e = header_refused o 3 e (refused-4 o (eqb-true _ _ p) q (leb-false _ _ s) (eqb-false _ _ t))

-- The same of the rest of an RM cell.
pub record RestMeets (o : List ℕ) (n : ℕ) : Type 0 where
  pub refused : (n ≡ 0 → ⊥) → rest o ≡ Refused n
  pub taken : n ≡ 0 → rest o ≡ RmCell (fields_of o)

rest-refused : (o : List ℕ) (k : ℕ) {n : ℕ} → n ≡ suc k → Refused (suc k) ≡ rest o → RestMeets o n
rest-refused o k e q = record { refused = λ _. sym (ap Refused e ∙ q); taken = λ z. absurd (omega (arith, e, z)) }

pub rest_meets : (o : List ℕ) (n : ℕ) → n ≡ rest_refusal o → RestMeets o n
unfolding rest_refusal
rest_meets o n e = go (crc_right o) (eqb (octet 6 o) 1) (rates_clear o) refl refl refl e
  where
    go : (a b d : Bool) → crc_right o ≡ a → eqb (octet 6 o) 1 ≡ b → rates_clear o ≡ d → n ≡ cond a (cond b (cond d 0 19) 6) 5 → RestMeets o n
    go false b d p q s e = rest-refused o 4 e (refused-5 o p)
    go true false d p q s e = rest-refused o 5 e (refused-6 o p (eqb-false _ _ q))
    go true true false p q s e = rest-refused o 18 e (refused-19 o p (eqb-true _ _ q) s)
    go true true true p q s e = record { refused = λ z. absurd (z e); taken = λ _. sym (takes-fields o p (eqb-true _ _ q) s) }

-- the number of a refusal is never 0
require-number :
    (n : ℕ) → 0 < n → (t : Bool) (r : Reading) → ((m : ℕ) → r ≡ Refused m → 0 < m) → (m : ℕ) → require (Refused n) t r ≡ Refused m → 0 < m
unfolding require
require-number n p true r h m e = h m e
require-number n p false r h m e = let q : n ≡ m = cc in subst (λ (k : ℕ). 0 < k) q p

data-number : (t : Bool) (a v : ℕ) (e : Bool) (r : Reading) → ((m : ℕ) → r ≡ Refused m → 0 < m) → (m : ℕ) → cond t (DataCell a v e) r ≡ Refused m → 0 < m
data-number true a v e r h m q = let z : ◌≡◌ {A = ℕ} 0 1 = cc in absurd (omega arith)
data-number false a v e r h m q = h m q

pub refusal-number : (o : List ℕ) (n : ℕ) → reading o ≡ Refused n → 0 < n
unfolding reading
refusal-number o =
    require-number 1 (lit< tt) (eqb (length o) 53) _ (require-number 2 (lit< tt) (header_right o) _
    (data-number (leb (type_of o) 3) (vpi_of o) (vci_of o) (eqb (type_of o / 2 % 2) 1) _ (require-number 4 (lit< tt) (eqb (type_of o) 6) _
    (require-number 5 (lit< tt) (crc_right o) _ (require-number 6 (lit< tt) (eqb (octet 6 o) 1) _
    (require-number 19 (lit< tt) (rates_clear o) _ taken))))))
  where
    taken : (m : ℕ) → RmCell (fields_of o) ≡ Refused m → 0 < m
    taken m q = let z : ◌≡◌ {A = ℕ} 0 1 = cc in absurd (omega arith)
