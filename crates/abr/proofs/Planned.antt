-- The contracts of exporting and importing out of those of the calls below them.
use Prim.Native.Nat.{ℕ}
use mathlib.Core.Path.{◌≡◌, refl, sym, ap, subst, ◌∙◌}
use mathlib.Core.List.{List}
use native.Mathlib.Omega.{arith}
use lib.Dec.{T, lit<}
use lib.Ieee.{Float, binary64, fits}
use lib.Ieee.Digits.{Equals}
use Rattle.std.specs.Prelude.{Result, Ok, Err}
use Rattle.laws.specs.declared.refusals.Refusal.{Refusal}
use Rattle.laws.specs.declared.refusals.Refusal.TheVariants.{Double}
use Rattle.laws.specs.Refusals.{number}
use Rattle.rate.specs.Code.{rate_of}
use Rattle.rate_doubles.specs.declared.export.Exported.{Exported}
use Rattle.rate_doubles.specs.declared.import.Imported.{Imported}
use Rattle.rate_doubles.specs.declared.import.Imported.TheVariants.{Exact, Below}
use Rattle.rate_doubles.specs.Import.{import_of}
use Rattle.rate_doubles.specs.Exact.{IsSum, CodeUnder, ImportedExactly}
use Rattle.rate_doubles.proofs.Exactness.{imports-exactly}
use Rattle.model.specs.Answers.{Contract}
use Rattle.model.specs.Queries.{contract_of}
use Rattle.engine.specs.Contract.{MeetsReading}
use Rattle.abr_answers.specs.declared.planning.AbrImported.{AbrImported}
use Rattle.abr_answers.specs.Planning.{nil, ExportedAs, imported_of, Imports}
use Rattle.abr.specs.Contract.{ReturnsContract}

pub exports :
    {n v : ℕ} {l : List ℕ} {c : Contract} (k : ℕ) (r : Exported) → n ≡ v → ExportedAs c k r → MeetsReading (λ s. c ≡ contract_of s n) l → ReturnsContract v l k r
exports {l = l} k r i e m =
    subst (λ (u : ℕ). ReturnsContract u l k r) i (record { meets = λ s w b. subst (λ (c : Contract). ExportedAs c k r) (m.meets s w b) e })

-- what is said of the enum, of the struct that is returned
plus_nil : (x : Float) (rate : ℕ) → Equals x rate 512 → IsSum x rate nil
plus_nil x rate h = record {
  part = 0;
  whole = 1;
  some = lit< tt;
  remainder = (refl, refl);
  input = subst (λ (a : ℕ). Equals x a 512) (omega arith) h;
}

-- a refusal has a number that is not 0
twenty : {r : Refusal} → r ≡ Double → number r ≡ 0 → ⊥
twenty e z = let q : number Double ≡ 0 = ap number (sym e) ∙ z in omega (arith, q)

answer-sum : (x : Float) (i : Result Imported Refusal) → ImportedExactly x i → (imported_of i).refusal ≡ 0 → IsSum x (rate_of (imported_of i).code) (imported_of i).remainder
answer-sum x (Err r) h z = absurd (twenty h.0 z)
answer-sum x (Ok (Exact c)) h z = plus_nil x (rate_of c) h.1
answer-sum x (Ok (Below c y)) h z = h.1

answer-greatest : (x : Float) (i : Result Imported Refusal) → ImportedExactly x i → (imported_of i).refusal ≡ 0 → CodeUnder x (imported_of i).code
answer-greatest x (Err r) h z = absurd (twenty h.0 z)
answer-greatest x (Ok (Exact c)) h z = h.0
answer-greatest x (Ok (Below c y)) h z = h.0

pub imports : (x : Float) → T (fits binary64 x) → {i : Result Imported Refusal} {r : AbrImported} → i ≡ import_of x → r ≡ imported_of i → Imports x r
imports x f {i} {r} e q =
    let is : r ≡ imported_of (import_of x) = q ∙ ap imported_of e in
    let h = imports-exactly x f in
    rw is (record { is = refl; sum = answer-sum x (import_of x) h; greatest = answer-greatest x (import_of x) h })
