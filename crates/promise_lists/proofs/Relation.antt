-- The relation that two lists of calls keep. Their tables are equal, except for the allowed rates and for what the
-- last backward cells changed. The rates of the second are no higher.
use Prim.Native.Nat.{ℕ, zero, suc, ◌≤◌}
use mathlib.Core.Path.{◌≡◌, refl, ap}
use mathlib.Core.Bool.{Bool}
use mathlib.Core.List.{List, [], ◌∷◌}
use lib.ListN.{length, get_or, set, replicate}
use native.Mathlib.Nat.{le_refl}
use Rattle.rate_moves.specs.Moves.{moved}
use Rattle.connection_members.specs.Members.{Member}
use Rattle.connection.specs.declared.parts.Connection.{Connection}
use Rattle.connection.specs.declared.parts.Change.{Change}
use Rattle.connection.specs.Parts.{with_rate, with_change}
use Rattle.model.specs.State.{State, Entry, free, taken, empty, capacity, position, is_free, holds, find, with_entry_of, with_opened, room_left, with_time, with_level, with_members}

-- the same connection at another allowed rate, with another change by its last backward cell
abbrev pub lowered : Connection → ℕ → Change → Connection
lowered c a x = with_change (with_rate c (moved c.rate a)) x

pub data Lower : Entry → Entry → Type 0 where
  vacant : Lower free free
  lower : (c : Connection) (a : ℕ) (x : Change) → a ≤ c.rate.acr → Lower (taken c) (taken (lowered c a x))

pub data Lowers : List Entry → List Entry → Type 0 where
  end : Lowers [] []
  more : {x y : Entry} {xs ys : List Entry} → Lower x y → Lowers xs ys → Lowers (x ∷ xs) (y ∷ ys)

pub data Tables : State → State → Type 0 where
  tables :
      (l t : ℕ) (ms : List Member) {xs ys : List Entry} → Lowers xs ys
      → Tables (record { level = l; last = t; entries = xs; members = ms }) (record { level = l; last = t; entries = ys; members = ms })

-- a test that looks past the rates finds the same place in both
position-same : (f : Entry → Bool) → ((x y : Entry) → Lower x y → f x ≡ f y) → {xs ys : List Entry} → Lowers xs ys → position f xs ≡ position f ys
unfolding position
position-same f e end = refl
position-same f e (more h hs) = rw (e _ _ h, position-same f e hs)

holds_same : (v : ℕ) (x y : Entry) → Lower x y → holds v x ≡ holds v y
unfolding holds
holds_same v _ _ vacant = refl
holds_same v _ _ (lower c a x h) = refl

pub is_free-same : (x y : Entry) → Lower x y → is_free x ≡ is_free y
unfolding is_free
is_free-same _ _ vacant = refl
is_free-same _ _ (lower c a x h) = refl

length-same : {xs ys : List Entry} → Lowers xs ys → length xs ≡ length ys
length-same end = refl
length-same (more h hs) = ap suc (length-same hs)

get_d-lower : {xs ys : List Entry} → Lowers xs ys → (i : ℕ) → Lower (get_or xs i free) (get_or ys i free)
get_d-lower end i = vacant
get_d-lower (more h hs) zero = h
get_d-lower (more h hs) (suc i) = get_d-lower hs i

set-lower : {x y : Entry} → Lower x y → {xs ys : List Entry} → Lowers xs ys → (i : ℕ) → Lowers (set xs i x) (set ys i y)
set-lower n end i = end
set-lower n (more h hs) zero = more n hs
set-lower n (more h hs) (suc i) = more h (set-lower n hs i)

-- The table's functions.
pub find-lower : (v : ℕ) {s₁ s₂ : State} → Tables s₁ s₂ → Lower (find v s₁.entries) (find v s₂.entries)
unfolding find
find-lower v (tables l t ms {xs} hs) = rw (← position-same (holds v) (holds_same v) hs) (get_d-lower hs (position (holds v) xs))

pub put-tables : (v : ℕ) {x y : Entry} → Lower x y → {s₁ s₂ : State} → Tables s₁ s₂ → Tables (with_entry_of v x s₁) (with_entry_of v y s₂)
unfolding with_entry_of
put-tables v h (tables l t ms {xs} hs) = rw (← position-same (holds v) (holds_same v) hs) (tables l t ms (set-lower h hs (position (holds v) xs)))

pub with-opened-tables : (c : Connection) {s₁ s₂ : State} → Tables s₁ s₂ → Tables (with_opened c s₁) (with_opened c s₂)
unfolding with_opened
with-opened-tables c (tables l t ms {xs} hs) =
    rw (← position-same is_free is_free-same hs) (tables l t ms (set-lower (lower c c.rate.acr c.change (le_refl _)) hs (position is_free xs)))

pub room_left-same : {s₁ s₂ : State} → Tables s₁ s₂ → room_left s₁ ≡ room_left s₂
unfolding room_left
room_left-same (tables l t ms hs) = rw (position-same is_free is_free-same hs, length-same hs)

pub last-same : {s₁ s₂ : State} → Tables s₁ s₂ → s₁.last ≡ s₂.last
last-same (tables l t ms hs) = refl

pub with_time-tables : (t : ℕ) {s₁ s₂ : State} → Tables s₁ s₂ → Tables (with_time t s₁) (with_time t s₂)
unfolding with_time
with_time-tables t (tables l u ms hs) = tables l t ms hs

pub with_level-tables : (l : ℕ) {s₁ s₂ : State} → Tables s₁ s₂ → Tables (with_level l s₁) (with_level l s₂)
unfolding with_level
with_level-tables l (tables k t ms hs) = tables l t ms hs

pub with_members-tables : (ms : List Member) {s₁ s₂ : State} → Tables s₁ s₂ → Tables (with_members ms s₁) (with_members ms s₂)
unfolding with_members
with_members-tables ms (tables l t ns hs) = tables l t ms hs

pub members-same : {s₁ s₂ : State} → Tables s₁ s₂ → s₁.members ≡ s₂.members
members-same (tables l t ms hs) = refl

vacant-all : (n : ℕ) → Lowers (replicate n free) (replicate n free)
vacant-all zero = end
vacant-all (suc n) = more vacant (vacant-all n)

pub empty-tables : Tables empty empty
unfolding empty
empty-tables = tables 0 0 [] (vacant-all capacity)
