-- The number of open connections is what a caller counts.
use Prim.Native.Nat.{ℕ, zero, suc, ◌+◌, ◌-◌, ◌<◌}
use mathlib.Core.Path.{◌≡◌, refl, ap}
use mathlib.Core.Bool.{cond}
use mathlib.Core.List.{List, [], ◌∷◌}
use native.Mathlib.Omega.{arith}
use lib.ListN.{length, get_or, set, replicate}
use borrow.Author.Tests.{ltb-true}
use Rattle.rate_params.specs.declared.params.Params.{Params}
use Rattle.connection.specs.declared.parts.Connection.{Connection}
use Rattle.connection.specs.Parts.{fresh}
use Rattle.model.specs.State.{State, Entry, free, taken, capacity, empty, position, is_free, holds, find, with_entry_of, with_opened, room_left, with_time, with_level, with_members}
use Rattle.model.specs.Call.{Call, Outcome}
use Rattle.model.specs.Step.{refuse, accept, replay, discard, with_offer, without_one, send_from, send_step, send_out_of_rate, idle_step}
use Rattle.model.specs.Run.{final, is_accepted}
use Rattle.model.specs.Orders.{open_count}
use Rattle.model.proofs.Entries.{taken_in, lowest-free}
use Rattle.model.proofs.Effects.{OpenPassed, Effect, refuses, opens, closes, offers, receives_data, receives_rm, sets_level, idles, sends, makes, sends_out_of_rate, opens_path, adds, offers_member, removes}
use Rattle.abr.specs.Exports.{Observation, Transcript, zeros}
use Rattle.exports.specs.Along.{kept}
use Rattle.exports_progress.specs.PassedOver.{open_after, counts_open}
use Rattle.exports_orders.proofs.Noted.{noted-so}

abbrev used : Entry → ℕ
used free = 0
used (taken c) = 1

-- one entry changed
count_set : (ss : List Entry) (i : ℕ) (x : Entry) → i < length ss → open_count (set ss i x) + used (get_or ss i free) ≡ open_count ss + used x
unfolding open_count
count_set [] i x l = absurd (omega (arith, l))
count_set (free ∷ ss) zero free l = refl
count_set (free ∷ ss) zero (taken d) l = omega arith
count_set (taken c ∷ ss) zero free l = omega arith
count_set (taken c ∷ ss) zero (taken d) l = refl
count_set (free ∷ ss) (suc i) x l = count_set ss i x (omega (arith, l))
count_set (taken c ∷ ss) (suc i) x l = omega (arith, count_set ss i x (omega (arith, l)))

abbrev total : State → ℕ
total s = open_count s.entries

changed-count : (u : ℕ) (s : State) (c d : Connection) → find u s.entries ≡ taken c → total (with_entry_of u (taken d) s) ≡ total s
unfolding with_entry_of find
changed-count u s c d e =
    let i = position (holds u) s.entries in
    let k : used (get_or s.entries i free) ≡ 1 = ap used e in
    omega (arith, count_set s.entries i (taken d) (taken_in s.entries i c e), k)

freed-count : (u : ℕ) (s : State) (c : Connection) → find u s.entries ≡ taken c → total (with_entry_of u free s) ≡ total s - 1
unfolding with_entry_of find
freed-count u s c e =
    let i = position (holds u) s.entries in
    let k : used (get_or s.entries i free) ≡ 1 = ap used e in
    omega (arith, count_set s.entries i free (taken_in s.entries i c e), k)

opened-count : (u t : ℕ) (p : Params) (s : State) → OpenPassed s u t p → total (with_opened (fresh u t p) s) ≡ total s + 1
unfolding with_opened room_left
opened-count u t p s g =
    let i = position is_free s.entries in
    let l : i < length s.entries = ltb-true _ _ g.room in
    let k : used (get_or s.entries i free) ≡ 0 = ap used (lowest-free s.entries) in
    omega (arith, count_set s.entries i (taken (fresh u t p)) l, k)

effect-count : {s : State} {c : Call} {o : Outcome} → Effect s c o → total o.state ≡ cond (is_accepted o.answer) (open_after c (total s)) (total s)
unfolding refuse accept replay discard send_step send_from idle_step send_out_of_rate with_offer without_one with_time with_level with_members is_accepted
effect-count (refuses c n h) = refl
effect-count {s} (opens a b t p g) = opened-count _ t p s g
effect-count {s} (closes a b d f) = freed-count _ s d f
effect-count {s} (offers a b n d f i h) = changed-count _ s d _ f
effect-count {s} (receives_data o a b e u d r i z f) = changed-count _ s d _ f
effect-count {s} (receives_rm o q d r f) = changed-count _ s d _ f
effect-count (sets_level l h) = refl
effect-count (idles t room g b) = refl
effect-count {s} (sends t room i u g b) = changed-count u (with_time t s) b.holder _ b.found
effect-count {s} (makes a b t d f g h m) = changed-count _ (with_time t s) d _ f
effect-count {s} (sends_out_of_rate a b t room d f g h) = changed-count _ (with_time t s) d _ f
effect-count {s} (opens_path a t p g) = opened-count _ t p s g
effect-count (adds a b d f j) = refl
effect-count {s} (offers_member a b n d f i h) = changed-count _ s d _ f
effect-count {s} (removes a b d f i) = changed-count _ s d _ f

none_open : (n : ℕ) → 0 ≡ open_count (replicate n free)
unfolding open_count
none_open zero = refl
none_open (suc n) = none_open n

none_first : 0 ≡ total empty
unfolding empty
none_first = none_open capacity

pub open-noted : (cs : List Call) (os : List Observation) → Transcript cs zeros os → kept counts_open 0 cs os ≡ open_count (final empty cs).entries
open-noted cs os t = noted-so total open_after (λ s w c o e. effect-count e) 0 none_first cs os t
