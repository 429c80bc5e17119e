-- What a name is shown as: a member, a path or a channel.
use Prim.Native.Nat.{ℕ, ◌%◌}
use mathlib.Core.Path.{◌≡◌, refl}
use mathlib.Core.Bool.{Bool, true, false}
use borrow.Author.Tests.{eq-eqb, ne_eqb}
use Rattle.connection_members.specs.Path.{is_path}
use Rattle.abr_answers.specs.Status.{kind_shown}

module _ (x : ℕ) (m : Bool) where
  pub kind-member : m ≡ true → 3 ≡ kind_shown x m
  kind-member e = rw e refl

  pub kind-path : m ≡ false → x % 65536 ≡ 6 → 2 ≡ kind_shown x m
  unfolding is_path
  kind-path e h = rw (e, eq-eqb (x % 65536) 6 h) refl

  pub kind-channel : m ≡ false → (x % 65536 ≡ 6 → ⊥) → 1 ≡ kind_shown x m
  unfolding is_path
  kind-channel e h = rw (e, ne_eqb (x % 65536) 6 h) refl
