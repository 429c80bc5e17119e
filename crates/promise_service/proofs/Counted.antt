-- How many connections pass a test, along the calls of a list: one entry changes at a time.
use Prim.Native.Nat.{ℕ, zero, suc, ◌+◌, ◌≤◌}
use mathlib.Core.Path.{◌≡◌, refl, ap}
use mathlib.Core.Bool.{Bool, true, false, cond}
use mathlib.Core.List.{List, [], ◌∷◌}
use native.Mathlib.Omega.{arith}
use lib.Dec.{eqb}
use lib.ListN.{get_or, set}
use Rattle.cell.specs.declared.fields.Fields.{Fields}
use Rattle.cell.specs.Name.{address_name}
use Rattle.cell.specs.Fields.{cell_name}
use Rattle.connection_members.specs.Path.{path_vci, path_of}
use Rattle.connection_members.specs.Members.{cells_of}
use Rattle.connection.specs.declared.parts.Connection.{Connection}
use Rattle.connection.specs.declared.parts.Pace.{Pace}
use Rattle.connection.specs.declared.parts.Pace.TheVariants.{Unsent}
use Rattle.connection.specs.Parts.{fresh, with_queue, dequeued}
use Rattle.connection.specs.Source.{offered, after_backward_cell, after_out_of_rate, with_served}
use Rattle.connection.specs.Destination.{with_made, after_data_cell, after_forward_cell}
use Rattle.connection.specs.Received.{after_rm_cell}
use Rattle.connection.specs.Slot.{after, member_served}
use Rattle.connection.specs.Kind.{kind_at}
use Rattle.connection.proofs.Keeps.{work-same}
use Rattle.model.specs.State.{State, Entry, free, taken, position, holds, is_free, find, with_entry_of, with_opened, with_time, with_level, with_members}
use Rattle.model.specs.Call.{Call, slot, Outcome}
use Rattle.model.specs.Step.{refuse, accept, replay, discard, with_offer, without_one, send_from, send_step, idle_step, send_out_of_rate}
use Rattle.model.specs.Run.{is_accepted}
use Rattle.model.specs.Orders.{open_count}
use Rattle.model.proofs.Counts.{count}
use Rattle.model.proofs.Effects.{Effect, refuses, opens, closes, offers, receives_data, receives_rm, sets_level, idles, sends, makes, sends_out_of_rate, opens_path, adds, offers_member, removes}
use Rattle.promise_service.specs.PassedOver.{open_call}

abbrev pub one : Bool → ℕ
one b = cond b 1 0

module _ (f : Entry → Bool) (none : f free ≡ false) where
  pub count_set : (ss : List Entry) (i : ℕ) (x : Entry) → count f (set ss i x) + one (f (get_or ss i free)) ≤ count f ss + one (f x)
  unfolding count
  count_set [] i x = rw none (omega arith)
  count_set (y ∷ ss) zero x = go (f y) (f x)
    where
      go : (b d : Bool) → cond d (suc (count f ss)) (count f ss) + one b ≤ cond b (suc (count f ss)) (count f ss) + one d
      go true true = omega arith
      go true false = omega arith
      go false true = omega arith
      go false false = omega arith
  count_set (y ∷ ss) (suc i) x = go (f y) (count_set ss i x)
    where
      go : (b : Bool) → count f (set ss i x) + one (f (get_or ss i free)) ≤ count f ss + one (f x)
          → cond b (suc (count f (set ss i x))) (count f (set ss i x)) + one (f (get_or ss i free)) ≤ cond b (suc (count f ss)) (count f ss) + one (f x)
      go true h = omega arith
      go false h = omega arith

  -- the entry of a name, and the lowest free one
  pub count_at : (u : ℕ) (s : State) (x : Entry) → count f (with_entry_of u x s).entries + one (f (find u s.entries)) ≤ count f s.entries + one (f x)
  unfolding with_entry_of find
  count_at u s x = count_set s.entries (position (holds u) s.entries) x

-- A test of a connection's opening time and pace, which no call but a slot changes.
unfoldable pub passes : (ℕ → Pace → Bool) → Entry → Bool
passes g free = false
passes g (taken c) = g c.opened c.pace

pub work-pace : (level : ℕ) (o : List ℕ) (q : Fields) (c : Connection) → (after_rm_cell level o q c).pace ≡ c.pace
unfolding after_rm_cell after_backward_cell after_forward_cell
work-pace level o q c = go (eqb q.dir 1)
  where
    go : (b : Bool) → (cond b (after_backward_cell q c) (after_forward_cell level o c)).pace ≡ c.pace
    go true = refl
    go false = refl

module _ (g : ℕ → Pace → Bool) where
  free-fails : passes g free ≡ false
  unfolding passes
  free-fails = refl

  pub opened-count : (s : State) (c : Connection) → count (passes g) (with_opened c s).entries ≤ count (passes g) s.entries + one (g c.opened c.pace)
  unfolding with_opened passes
  opened-count s c = omega (arith, count_set (passes g) free-fails s.entries (position is_free s.entries) (taken c))

  pub freed-count : (u : ℕ) (s : State) → count (passes g) (with_entry_of u free s).entries + one (passes g (find u s.entries)) ≤ count (passes g) s.entries
  unfolding passes
  freed-count u s = omega (arith, count_at (passes g) free-fails u s free)

  pub put_count :
      (u : ℕ) (s : State) (d e : Connection) → find u s.entries ≡ taken d
      → count (passes g) (with_entry_of u (taken e) s).entries + one (g d.opened d.pace) ≤ count (passes g) s.entries + one (g e.opened e.pace)
  unfolding passes
  put_count u s d e f = rw f at (count_at (passes g) free-fails u s (taken e))

  same_count :
      (u : ℕ) (s : State) (d e : Connection) → find u s.entries ≡ taken d → e.opened ≡ d.opened → e.pace ≡ d.pace
      → count (passes g) (with_entry_of u (taken e) s).entries ≤ count (passes g) s.entries + 0
  same_count u s d e f i p =
      let h : one (g e.opened e.pace) ≡ one (g d.opened d.pace) = (λ j. one (g (i j) (p j))) in
      omega (arith, put_count u s d e f, h)

  -- every call, if a slot's connection passes only if it did before
  pub effect-count :
      {s : State} {c : Call} {o : Outcome} → Effect s c o
      → ((t room : ℕ) (d : Connection) → c ≡ slot t room → is_accepted o.answer ≡ true → one (g (after (kind_at t d) t d).opened (after (kind_at t d) t d).pace) ≤ one (g d.opened d.pace))
      → count (passes g) o.state.entries ≤ count (passes g) s.entries + cond (is_accepted o.answer) (open_call (λ t. g t Unsent) c) 0
  unfolding refuse accept replay discard send_from send_step idle_step send_out_of_rate with_time with_level with_members with_offer without_one with_served offered after_data_cell with_made after_out_of_rate fresh is_accepted open_call
  effect-count {s} (refuses c n h) k = omega arith
  effect-count {s} (opens a b t p h) k = opened-count s (fresh (address_name a b) t p)
  effect-count {s} (closes a b d f) k = omega (arith, freed-count (address_name a b) s)
  effect-count {s} (offers a b n d f i h) k = same_count (address_name a b) s d (offered n d) f refl refl
  effect-count {s} (receives_data o a b e u d r i h f) k = same_count u s d (after_data_cell e d) f refl refl
  effect-count {s} (receives_rm o q d r f) k = same_count (cell_name q) s d (after_rm_cell s.level o q d) f (work-same s.level o q d).opened (work-pace s.level o q d)
  effect-count {s} (sets_level l h) k = omega arith
  effect-count {s} (idles t room h b) k = omega arith
  effect-count {s} (sends t room i u h b) k =
      omega (arith, put_count u (with_time t s) b.holder (with_served (member_served (kind_at t b.holder) b.holder s.members) (after (kind_at t b.holder) t b.holder)) b.found, k t room b.holder refl refl)
  effect-count {s} (makes a b t d f h j m) k = same_count (address_name a b) (with_time t s) d (with_made t s.level d) f refl refl
  effect-count {s} (sends_out_of_rate a b t room d f h j) k = same_count (address_name a b) (with_time t s) d (after_out_of_rate t d) f refl refl
  effect-count {s} (opens_path a t p h) k = opened-count s (fresh (address_name a path_vci) t p)
  effect-count {s} (adds a b d f j) k = omega arith
  effect-count {s} (offers_member a b n d f i h) k = same_count (path_of (address_name a b)) s d (offered n d) f refl refl
  effect-count {s} (removes a b d f i) k = same_count (path_of (address_name a b)) s d (with_queue d (dequeued (cells_of (address_name a b) s.members) d.queue)) f refl refl

-- against the number of open connections
pub count-open : (g : ℕ → Pace → Bool) (ss : List Entry) → count (passes g) ss ≤ open_count ss
unfolding count passes open_count
count-open g [] = omega arith
count-open g (free ∷ ss) = count-open g ss
count-open g (taken c ∷ ss) = go (g c.opened c.pace) (count-open g ss)
  where
    go : (b : Bool) → count (passes g) ss ≤ open_count ss → cond b (suc (count (passes g) ss)) (count (passes g) ss) ≤ suc (open_count ss)
    go true h = omega arith
    go false h = omega arith

abbrev pub any : ℕ → Pace → Bool
any t p = true

pub open-count : (ss : List Entry) → open_count ss ≡ count (passes any) ss
unfolding count passes open_count
open-count [] = refl
open-count (free ∷ ss) = open-count ss
open-count (taken c ∷ ss) = ap suc (open-count ss)
