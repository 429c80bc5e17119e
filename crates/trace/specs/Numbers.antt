-- A number in groups of seven bits, low group first; the top bit of an octet is 1 when more follow. (Document 02, L11.)
use Rattle.std.specs.Prelude.{ℕ, zero, suc, ◌+◌, ◌-◌, ◌*◌, ◌/◌, ◌%◌, ◌^◌, ◌<◌, ◌≡◌, Bool, cond, ◌&&◌, List, [], ◌∷◌, ◌++◌, ltb, eqb, length, get_or, Result, Ok, Err}
use Rattle.laws.specs.declared.refusals.Refusal.{Refusal}
use Rattle.laws.specs.declared.refusals.Refusal.TheVariants.{TraceNumber, TraceEnd}

-- a number and the offset after its last octet, or why there is none
abbrev pub Number : Type 0
Number = Result (ℕ × ℕ) Refusal

-- a last group of 0, where a group's one has the weight p: not the shortest form, unless it is the only group
abbrev pub not_shortest : (b p : ℕ) → Bool
not_shortest b p = eqb b 0 && ltb 1 p

-- The octet b at the offset k, where a group's one has the weight p, after groups that come to v. `more` is what
-- the octets after it give.
abbrev pub group_read : (b k v p : ℕ) → (more : Number) → Number
group_read b k v p more = cond (ltb b 128) (cond (not_shortest b p) (Err TraceNumber) (Ok (v + b * p, k + 1))) more

-- the rest of a number from the offset k on, with n octets before the tenth; the tenth has the
-- weight 2^63 and can only be 1
unfoldable pub read_on : (n : ℕ) → List ℕ → (k v p : ℕ) → Number
read_on zero s k v p = cond (ltb k (length s)) (cond (eqb (get_or s k 0) 1) (Ok (v + p, k + 1)) (Err TraceNumber)) (Err TraceEnd)
read_on (suc n) s k v p =
    cond (ltb k (length s))
    (group_read (get_or s k 0) k v p (read_on n s (k + 1) (v + (get_or s k 0 - 128) * p) (p * 128)))
    (Err TraceEnd)

-- the number that starts at an offset of a trace
abbrev pub number_at : List ℕ → (offset : ℕ) → Number
number_at s k = read_on 9 s k 0 1

-- The other way: a number in its shortest form, with at most n octets before the tenth.
unfoldable pub written : (n x : ℕ) → List ℕ
written zero x = x ∷ []
written (suc n) x = cond (ltb x 128) (x ∷ []) ((128 + x % 128) ∷ written n (x / 128))

-- numbers one after the other
unfoldable pub written_all : List ℕ → List ℕ
written_all [] = []
written_all (x ∷ xs) = written 9 x ++ written_all xs

-- the octets l stand in s from the offset k on
abbrev pub Stands : List ℕ → (k : ℕ) → (l : List ℕ) → Type 0
Stands s k [] = Unit {0}
Stands s k (b ∷ l) = (k < length s) × (get_or s k 0 ≡ b) × Stands s (k + 1) l

-- a number of 64 bits in its shortest form is read back, with the offset after it
abbrev pub ReadBack : Type 0
ReadBack = (s : List ℕ) (k x : ℕ) → x < 2 ^ 64 → Stands s k (written 9 x) → number_at s k ≡ Ok (x, k + length (written 9 x))
