-- What the tests of a cell say of the outcome.
use mathlib.Core.Path.{◌≡◌, refl, sym, ap, ◌∙◌}
use mathlib.Core.Bool.{Bool, true, false, cond}
use mathlib.Core.Logic.{by_cases}
use mathlib.Core.List.{List, ◌++◌}
use Prim.Native.Nat.{ℕ, ◌≤◌, ◌<◌, min}
use native.Mathlib.Omega.{arith}
use native.Mathlib.Decide.{ℕ_discrete}
use lib.Dec.{leb}
use lib.ListN.{take}
use borrow.Author.Tests.{eq-eqb, ne_eqb}
use Rattle.rate.specs.Units.{largest_rate}
use Rattle.rate.specs.Code.{rate_of, code_or_zero}
use Rattle.rate.proofs.Codes.{rate-le, code-greatest}
use Rattle.rate.proofs.Octaves.{or_zero_code}
use Rattle.cell.specs.Octets.{payload}
use Rattle.cell.specs.Header.{type_of}
use Rattle.cell.specs.Reading.{reading}
use Rattle.cell.specs.declared.fields.Fields.{Fields}
use Rattle.cell.specs.Read.{Reading, Refused, DataCell, RmCell}
use Rattle.cell_read.specs.RefusedAsRead.{RefusedAsRead}
use Rattle.port_share.specs.Share.{Share, fair_share}
use Rattle.laws.specs.declared.refusals.Refusal.{Refusal}
use Rattle.laws.specs.Refusals.{number}
use Rattle.std.specs.Prelude.{Some, None, Ok, Err}
use Rattle.port.specs.Limit.{passed, refusal_of, held_er, with_er, held, limit}
use Rattle.port.specs.Port.{port_by, port}

-- ---- the number of its refusal
module _ (o : List ℕ) where
  pub judged-number : {n : ℕ} → RefusedAsRead o n → n ≡ refusal_of (reading o)
  judged-number {n} j = by_cases (ℕ_discrete n 0) (λ z. z ∙ sym (zero (leb (type_of o) 3) refl z)) (λ z. sym (ap refusal_of (j.refused z)))
    where
      zero : (b : Bool) → leb (type_of o) 3 ≡ b → n ≡ 0 → refusal_of (reading o) ≡ 0
      zero true e z = ap refusal_of (j.data_cell z e)
      zero false e z = ap refusal_of (j.rm z e)

-- ---- a cell held to a rate, by what is read
module _ (rate : ℕ) (o : List ℕ) where
  by-reading : {r : Reading} → reading o ≡ r → passed (refusal_of r) (held rate o r) ≡ limit rate o
  by-reading e = ap (λ (r : Reading). passed (refusal_of r) (held rate o r)) (sym e)

  pub limit-refused : {n : ℕ} → reading o ≡ Refused n → passed n o ≡ limit rate o
  unfolding held
  limit-refused e = by-reading e

  pub limit-data : {vpi vci : ℕ} {efci : Bool} → reading o ≡ DataCell vpi vci efci → passed 0 o ≡ limit rate o
  unfolding held
  limit-data e = by-reading e

  pub limit-forward : {f : Fields} → reading o ≡ RmCell f → (f.dir ≡ 1 → ⊥) → passed 0 o ≡ limit rate o
  unfolding held
  limit-forward {f} e d =
      ap (λ (b : Bool). passed 0 (cond b (take 5 o ++ with_er (held_er rate f.er) (payload o)) o)) (sym (ne_eqb _ _ d)) ∙ by-reading e

  pub limit-backward : {f : Fields} {code : ℕ} {new : List ℕ} → reading o ≡ RmCell f → f.dir ≡ 1 → code ≡ held_er rate f.er
      → new ≡ take 5 o ++ with_er code (payload o) → passed 0 new ≡ limit rate o
  unfolding held
  limit-backward {f} e d c n =
      ap (passed 0) (n ∙ ap (λ (z : ℕ). take 5 o ++ with_er z (payload o)) c)
      ∙ ap (λ (b : Bool). passed 0 (cond b (take 5 o ++ with_er (held_er rate f.er) (payload o)) o)) (sym (eq-eqb _ _ d)) ∙ by-reading e

-- ---- ER
module _ (rate er : ℕ) where
  pub er-le : min (rate_of er) rate ≤ largest_rate
  er-le = omega (arith, rate-le er)

  -- from what stands between the two functions
  pub er-is : {r m code : ℕ} → r ≡ rate_of er → m ≡ min r rate → code ≡ code_or_zero m → code ≡ held_er rate er
  er-is e k c = c ∙ ap code_or_zero (k ∙ ap (λ (x : ℕ). min x rate) e) ∙ or_zero_code (min (rate_of er) rate) er-le

  pub er-fifteen : held_er rate er < 32768
  er-fifteen = (code-greatest (min (rate_of er) rate) er-le).fifteen

  pub er-fits : {code : ℕ} → code ≡ held_er rate er → code ≤ 65535
  er-fits e = omega (arith, e, er-fifteen)

-- ---- the port, by the share
module _ (capacity : ℕ) (ds o : List ℕ) where
  by-share : {a x : Share} → x ≡ fair_share capacity ds → x ≡ a → port_by a o ≡ port capacity ds o
  by-share e f = ap (λ (a : Share). port_by a o) (sym f ∙ e)

  pub port-refused : {r : Refusal} {x : Share} → x ≡ fair_share capacity ds → x ≡ Err r → passed (number r) o ≡ port capacity ds o
  unfolding port_by
  port-refused e f = by-share e f

  pub port-unlimited : {n : ℕ} {x : Share} → x ≡ fair_share capacity ds → x ≡ Ok None → RefusedAsRead o n → passed n o ≡ port capacity ds o
  unfolding port_by
  port-unlimited e f j = ap (λ (n : ℕ). passed n o) (judged-number o j) ∙ by-share e f

  pub port-limited : {rate n : ℕ} {x : Share} {new : List ℕ} → x ≡ fair_share capacity ds → x ≡ Ok (Some rate) → passed n new ≡ limit rate o
      → passed n new ≡ port capacity ds o
  unfolding port_by
  port-limited e f l = l ∙ by-share e f
