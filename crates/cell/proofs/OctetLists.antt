-- Lists of octets, put together and taken apart.
use mathlib.Core.List.{List, [], ◌∷◌, ◌++◌}
use Prim.Native.Nat.{ℕ, zero, suc, ◌<◌}
use native.Mathlib.Omega.{arith}
use lib.Dec.{lit<}
use lib.ListN.{get_or, take, drop, replicate}
use Rattle.cell_payload.specs.Payload.{word_octets, octets_of}
use Rattle.cell_payload.specs.declared.payload.Payload.{Payload}
use Rattle.cell.specs.Octets.{AreOctets}

pub octets-nil : AreOctets []
octets-nil = record { each = λ i. lit< tt }

pub octets-cons : {x : ℕ} {l : List ℕ} → x < 256 → AreOctets l → AreOctets (x ∷ l)
octets-cons {x} {l} h a = record { each = at }
  where
    at : (i : ℕ) → get_or (x ∷ l) i 0 < 256
    at zero = h
    at (suc i) = a.each i

octets-tail : {x : ℕ} {l : List ℕ} → AreOctets (x ∷ l) → AreOctets l
octets-tail a = record { each = λ i. a.each (suc i) }

pub octets-append : (l m : List ℕ) → AreOctets l → AreOctets m → AreOctets (l ++ m)
octets-append [] m a b = b
octets-append (x ∷ l) m a b = octets-cons (a.each 0) (octets-append l m (octets-tail a) b)

pub octets-take : (n : ℕ) (l : List ℕ) → AreOctets l → AreOctets (take n l)
octets-take zero l a = octets-nil
octets-take (suc n) [] a = octets-nil
octets-take (suc n) (x ∷ l) a = octets-cons (a.each 0) (octets-take n l (octets-tail a))

pub octets-drop : (n : ℕ) (l : List ℕ) → AreOctets l → AreOctets (drop n l)
octets-drop zero l a = a
octets-drop (suc n) [] a = octets-nil
octets-drop (suc n) (x ∷ l) a = octets-drop n l (octets-tail a)

pub octets-replicate : (n : ℕ) {x : ℕ} → x < 256 → AreOctets (replicate n x)
octets-replicate zero h = octets-nil
octets-replicate (suc n) h = octets-cons h (octets-replicate n h)

-- the octets of a payload's words
pub octets-words : (p : Payload) → AreOctets (octets_of p)
octets-words p =
    octets-append (word_octets p.a) _ (word p.a)
    (octets-append (word_octets p.b) _ (word p.b)
    (octets-append (word_octets p.c) _ (word p.c)
    (octets-append (word_octets p.d) _ (word p.d) (octets-append (word_octets p.e) _ (word p.e) (word p.f)))))
  where
    word : (w : ℕ) → AreOctets (word_octets w)
    word w =
        octets-cons (omega arith)
        (octets-cons (omega arith)
        (octets-cons (omega arith)
        (octets-cons (omega arith)
        (octets-cons (omega arith) (octets-cons (omega arith) (octets-cons (omega arith) (octets-cons (omega arith) octets-nil)))))))
