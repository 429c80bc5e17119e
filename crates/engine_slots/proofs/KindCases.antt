-- What a slot leaves by the kind of its cell, which the first line of the record told.
use Prim.Native.Nat.{ℕ, ◌<◌}
use mathlib.Core.Path.{◌≡◌, refl, sym, ap, subst, ◌∙◌}
use mathlib.Core.List.{List}
use Rattle.connection.specs.declared.parts.Connection.{Connection}
use Rattle.connection.specs.declared.kind.Kind.{Kind}
use Rattle.connection.specs.declared.kind.Kind.TheVariants.{Data}
use Rattle.connection.specs.Kind.{kind_at}
use Rattle.connection.specs.Parts.{waiting}
use Rattle.model.specs.State.{State, capacity}
use Rattle.model.specs.Answers.{SlotAnswer}
use Rattle.table.specs.Layout.{words}
use Rattle.table.specs.Loading.{connection_at, first_line}
use Rattle.table.proofs.FirstLine.{kind-line}
use Rattle.engine.proofs.Outcomes.{loaded-is}
use Rattle.engine_slots.specs.Slots.{SlotLeaves, SendsFrom, SendsKind, SendsData}
use Rattle.engine_slots.proofs.SendCases.{located}

module _ (s : State) (t i : ℕ) (c : Connection) (f : SendsFrom t i s c) {l : List ℕ} (e : l ≡ words s) (h : i < capacity) where
  line_of : {d : Connection} → d ≡ first_line (connection_at l i) → d ≡ first_line c
  line_of q = q ∙ ap first_line (loaded-is s f.reached (located s t i c f) e h refl)

  kind-of : {d : Connection} → d ≡ first_line (connection_at l i) → {k : Kind} → k ≡ kind_at t d → kind_at t c ≡ k
  kind-of q a = sym (a ∙ ap (kind_at t) (line_of q) ∙ kind-line t c)

  pub kind-sent :
      (k : Kind) (d : Connection) → d ≡ first_line (connection_at l i) → (x : Kind) → x ≡ kind_at t d → x ≡ k → {m : List ℕ} {r : SlotAnswer} {old new : List ℕ} → SendsKind k t i l m r old new
      → SlotLeaves (kind_at t c) t s c m r old new
  kind-sent k d q x a b {m} {r} {old} {new} u =
      let g : kind_at t c ≡ k = kind-of q a ∙ b in
      subst (λ (y : Kind). SlotLeaves y t s c m r old new) (sym g) (u.sends s c f e g)

  pub data-sent :
      (d : Connection) → d ≡ first_line (connection_at l i) → (x : Kind) → x ≡ kind_at t d → x ≡ Data → (kind_at t c ≡ Data → 0 < waiting c.queue) → {m : List ℕ} {r : SlotAnswer} → SendsData t i d l m r
      → (old : List ℕ) → SlotLeaves (kind_at t c) t s c m r old old
  data-sent d q x a b w {m} {r} u old =
      let g : kind_at t c ≡ Data = kind-of q a ∙ b in
      subst (λ (y : Kind). SlotLeaves y t s c m r old old) (sym g) (u.sends s c f e g (line_of q) (w g) old)
