-- What the refusals of the header and of the rest of an RM cell say of the reading.
use Rattle.std.proofs.Common.{◌≡◌, refl, sym, ◌∙◌, true, false, List, ℕ, leb, arith}
use mathlib.Core.Bool.{true≢false}
use Rattle.laws.specs.declared.refusals.Refusal.{Refusal}
use Rattle.laws.specs.Refusals.{number}
use Rattle.cell.specs.Header.{type_of}
use Rattle.cell.specs.Read.{Refused}
use Rattle.cell.specs.Reading.{reading}
use Rattle.cell.specs.Refusals.{header_refusal, rest_refusal}
use Rattle.cell.proofs.RefusalNumbers.{number-above-0}
use Rattle.cell.proofs.Readings.{HeaderMeets, RestMeets, header-meets, rest_meets}
use Rattle.cell_read.specs.RefusedAsRead.{RefusedAsRead}

module _ (o : List ℕ) where
  pub judged-first : (r : Refusal) → number r ≡ header_refusal o → RefusedAsRead o (number r)
  judged-first r e =
      let h : HeaderMeets o (number r) = header-meets o (number r) e in
      record { refused = h.refused; size = h.size; data_cell = h.data_cell; rm = λ z. absurd (omega (arith, z, number-above-0 r)) }

  pub first-read : (r : Refusal) → number r ≡ header_refusal o → Refused (number r) ≡ reading o
  first-read r e = sym ((judged-first r e).refused (λ z. omega (arith, z, number-above-0 r)))

  module _ (z : 0 ≡ header_refusal o) where
    pub judged-data : leb (type_of o) 3 ≡ true → RefusedAsRead o 0
    judged-data t =
        let h : HeaderMeets o 0 = header-meets o 0 z in
        record { refused = λ n. absurd (n refl); size = h.size; data_cell = h.data_cell; rm = λ _ f. absurd (true≢false (sym t ∙ f)) }

    pub judged-rest : leb (type_of o) 3 ≡ false → (n : ℕ) → n ≡ rest_refusal o → RefusedAsRead o n
    judged-rest f n e =
        let h : HeaderMeets o 0 = header-meets o 0 z in
        let r : RestMeets o n = rest_meets o n e in
        record {
          refused = λ m. h.rm refl f ∙ r.refused m;
          size = λ _. h.size refl;
          data_cell = λ _ t. absurd (true≢false (sym t ∙ f));
          rm = λ m _. h.rm refl f ∙ r.taken m;
        }

    pub rest-read : leb (type_of o) 3 ≡ false → (r : Refusal) → number r ≡ rest_refusal o → Refused (number r) ≡ reading o
    rest-read f r e = sym ((judged-rest f (number r) e).refused (λ z. omega (arith, z, number-above-0 r)))
