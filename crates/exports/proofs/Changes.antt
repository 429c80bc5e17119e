-- The change that abr_acr returns is that of the last backward cell.
use Prim.Native.Nat.{ℕ}
use mathlib.Core.Path.{◌≡◌, refl, sym, ap, ◌∙◌}
use mathlib.Core.List.{List}
use native.Mathlib.Omega.{arith}
use Rattle.cell.specs.Fields.{cell_name}
use Rattle.connection.specs.declared.parts.Change.{Change}
use Rattle.connection.specs.Change.{difference}
use Rattle.model.specs.Answers.{Acr, NotOpen, Rate}
use Rattle.model.specs.State.{empty}
use Rattle.model.specs.Call.{Call, receiving}
use Rattle.model.specs.Step.{step}
use Rattle.model.specs.Queries.{acr_of}
use Rattle.model.specs.Run.{final}
use Rattle.model.proofs.Reached.{step-well-formed, reached-well-formed}
use Rattle.abr_answers.specs.declared.calls.AbrAllowed.{AbrAllowed}
use Rattle.abr_answers.specs.Calls.{allowed_of}
use Rattle.abr.specs.Contract.{ReturnsAllowed}
use Rattle.abr.specs.Exports.{Observation, Performs, Transcript, final_words, zeros}
use Rattle.abr.proofs.Exports.{performs-matches, exports-are-run}
use Rattle.promise_cells.specs.Changes.{ChangedFrom}
use Rattle.promise_cells.proofs.Changes.{changes}
use Rattle.exports.specs.Changes.{ChangedBy, ExportsChanges}

-- of answers without a refusal
fed-answer : (r q : Acr) → ((a : ℕ) (x : Change) → r ≡ Rate a x → ChangedFrom a q) → (allowed_of r).refusal ≡ 0 → ChangedBy (allowed_of r) (allowed_of q)
unfolding difference
fed-answer NotOpen q h z = absurd (omega (arith, z))
fed-answer (Rate a x) q h z = rw (h a x refl).is (record { refusal = refl; change = refl })

kept-answer : (r q : Acr) → ((a b : ℕ) (x y : Change) → r ≡ Rate a x → q ≡ Rate b y → y ≡ x) → (allowed_of r).refusal ≡ 0 → (allowed_of q).refusal ≡ 0
    → (allowed_of q).change ≡ (allowed_of r).change
kept-answer NotOpen q h y z = absurd (omega (arith, y))
kept-answer (Rate a x) NotOpen h y z = absurd (omega (arith, z))
kept-answer (Rate a x) (Rate b w) h y z = ap difference (h a b x w refl refl)

module _ (cs : List Call) (os : List Observation) (t : Transcript cs zeros os) (v : ℕ) (c : Call) (o : Observation) (p : Performs c (final_words zeros os) o) where
  -- what abr_acr returns before the call and after it
  read-before : (a : AbrAllowed) → ReturnsAllowed v (final_words zeros os) a → a ≡ allowed_of (acr_of (final empty cs) v)
  read-before a h = exports-are-run.acr cs os t v a h

  read-after : (b : AbrAllowed) → ReturnsAllowed v o.table b → b ≡ allowed_of (acr_of (step (final empty cs) c).state v)
  read-after b h = let w = reached-well-formed cs in h.meets (step (final empty cs) c).state (step-well-formed w c) (performs-matches w p (exports-are-run.last cs os t)).table

pub exports-changes : ExportsChanges
exports-changes = record {
  fed_back = λ cs os t octets f e d o p a b h k z.
      let s = final empty cs in
      let r = acr_of s (cell_name f) in
      let q = acr_of (step s (receiving octets)).state (cell_name f) in
      rw (read-before cs os t (cell_name f) (receiving octets) o p a h, read-after cs os t (cell_name f) (receiving octets) o p b k)
      (fed-answer r q (λ x y g. changes.fed_back cs octets f x y e d g) (sym (ap (λ (n : AbrAllowed). n.refusal) (read-before cs os t (cell_name f) (receiving octets) o p a h)) ∙ z));
  kept = λ cs os t v c n o p a b h k y z.
      let s = final empty cs in
      let i = read-before cs os t v c o p a h in
      let j = read-after cs os t v c o p b k in
      ap (λ (n : AbrAllowed). n.change) j
      ∙ kept-answer (acr_of s v) (acr_of (step s c).state v) (λ x w m l. changes.kept cs c v x w m l n) (sym (ap (λ (n : AbrAllowed). n.refusal) i) ∙ y) (sym (ap (λ (n : AbrAllowed). n.refusal) j) ∙ z)
      ∙ sym (ap (λ (n : AbrAllowed). n.change) i);
}
