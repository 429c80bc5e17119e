-- A connection that is ready is not passed over, of exported calls.
use Prim.Native.Nat.{ℕ, zero, suc, ◌+◌, ◌-◌, ◌≤◌, ◌<◌}
use mathlib.Core.Path.{◌≡◌, refl, sym, ap, ◌∙◌, subst}
use mathlib.Core.Bool.{Bool, true, false, cond}
use mathlib.Core.List.{List, [], ◌∷◌}
use mathlib.Core.Option.{Option, some}
use native.Mathlib.Nat.{le_refl}
use native.Mathlib.Omega.{arith}
use lib.Dec.{eqb}
use lib.ListN.{replicate}
use Rattle.rate_params.specs.declared.params.Params.{Params}
use Rattle.rate_params.specs.Params.{least}
use Rattle.cell.specs.Name.{address_name}
use Rattle.connection.specs.declared.parts.Connection.{Connection}
use Rattle.connection.specs.Ready.{any_waits}
use Rattle.model.specs.State.{State, Entry, free, taken, capacity, empty, find, with_entry_of, with_members}
use Rattle.model.specs.Invariant.{WellFormed}
use Rattle.model.specs.Call.{Call, opening, closing, receiving, slot, opening_path, Outcome, goes_to}
use Rattle.model.specs.Step.{refuse, discard, step}
use Rattle.model.specs.Run.{run, final, is_accepted}
use Rattle.model.specs.Queries.{entry_acr, acr_of}
use Rattle.model.proofs.Effects.{Effect, refuses, closes, effect}
use Rattle.model.proofs.BySort.{BySort, an_opening, an_opening_path, a_closing, a_receiving, a_slot, another_call, by_sort}
use Rattle.abr_answers.specs.declared.calls.AbrAllowed.{AbrAllowed}
use Rattle.abr_answers.specs.Calls.{allowed_of}
use Rattle.model.specs.Aspects.{Sort}
use Rattle.model.specs.Orders.{open_count}
use Rattle.abr.specs.Exports.{Observation, Transcript, ended, then, final_words, zeros}
use Rattle.promise_service.specs.Liveness.{latest_ready, GoesTo, Somewhere, here, there}
use Rattle.promise_service.specs.PassedOver.{open_connections, open_call, opens_by, opens_until, slot_taken, slots_taken, ReadyBy, FoundReady, open_sort}
use Rattle.promise_service.proofs.Counted.{one, passes, any, freed-count, effect-count, open-count}
use Rattle.promise_service.proofs.Liveness.{ready-soon}
use Rattle.promise_service.proofs.PassedOver.{not-passed-over}
use Rattle.exports.specs.Returned.{no_member, member_seen, members_seen, went_to, places_seen}
use Rattle.exports.specs.Along.{kept}
use Rattle.exports.proofs.Returned.{Knows, knows_after, names-connection, went_to_lem}
use Rattle.exports.proofs.Transport.{Stands, Keeps, sees, stands, stands-first, carry, kept-so, sum-seen, acr-seen}
use Rattle.exports.proofs.Known.{params-known, members-known}
use Rattle.exports_rates.specs.Seen.{Watched, watch, watched}
use Rattle.exports_rates.proofs.Seen.{connection_seen, entry_seen, Watches, watches, watched-so}
use Rattle.exports_service.specs.Ready.{waits_seen}
use Rattle.exports_service.specs.Served.{latest_seen}
use Rattle.exports_service.proofs.Ready.{waits-same}
use Rattle.exports_service.proofs.Served.{latest-same}
use Rattle.exports_progress.specs.PassedOver.{open_after, counts_open, opens_returned, slots_returned, ReadySeen, FoundReadySeen, ExportsNotPassedOver, open_by}
use Rattle.exports_progress.proofs.Deaf.{open-known}

-- The number of open connections is at most what a caller counts.
more : (b : Bool) (x y k : ℕ) → x ≤ y + cond b 1 0 → y ≤ k → x ≤ cond b (k + 1) k
more true x y k h l = omega (arith, h, l)
more false x y k h l = omega (arith, h, l)

same : (b : Bool) (x y k : ℕ) → x ≤ y + cond b 0 0 → y ≤ k → x ≤ cond b k k
same true x y k h l = omega (arith, h, l)
same false x y k h l = omega (arith, h, l)

closed-count : {s : State} (a b k : ℕ) {o : Outcome} → Effect s (closing a b) o → open_connections s ≤ k → open_connections o.state ≤ cond (is_accepted o.answer) (k - 1) k
unfolding refuse discard with_members is_accepted passes
closed-count a b k (refuses _ n h) l = l
closed-count {s} a b k (closes _ _ d f) l =
    let h : one (passes any (find (address_name a b) s.entries)) ≡ 1 = ap (λ (x : Entry). one (passes any x)) f in
    omega (arith, freed-count any (address_name a b) s, h, open-count s.entries, open-count (with_entry_of (address_name a b) free s).entries, l)

step_count : {s : State} → WellFormed s → (c : Call) → open_connections (step s c).state ≤ open_connections s + cond (is_accepted (step s c).answer) (open_call (λ t. true) c) 0
step_count {s} w c =
    omega (arith, open-count s.entries, open-count (step s c).state.entries, effect-count any (effect s w.unique c) (λ t room d e a. le_refl 1))

counts : {s : State} → WellFormed s → {c : Call} → BySort c → (k : ℕ) → open_connections s ≤ k → open_connections (step s c).state ≤ cond (is_accepted (step s c).answer) (open_after c k) k
unfolding open_call
counts {s} w (an_opening a b t p) k l = more (is_accepted (step s (opening a b t p)).answer) _ _ k (step_count w (opening a b t p)) l
counts {s} w (an_opening_path a t p) k l = more (is_accepted (step s (opening_path a t p)).answer) _ _ k (step_count w (opening_path a t p)) l
counts {s} w (a_closing a b) k l = closed-count a b k (effect s w.unique (closing a b)) l
counts {s} w (a_receiving o) k l = same (is_accepted (step s (receiving o)).answer) _ _ k (step_count w (receiving o)) l
counts {s} w (a_slot t room) k l = same (is_accepted (step s (slot t room)).answer) _ _ k (step_count w (slot t room)) l
counts {s} w (another_call c e) k l =
    let a : Bool = is_accepted (step s c).answer in
    subst (λ (x : Sort). open_connections (step s c).state ≤ cond a (open_by k x) k) (sym e)
    (same a _ _ k (subst (λ (x : Sort). open_connections (step s c).state ≤ open_connections s + cond a (open_sort (λ t. true) x) 0) e (step_count w c)) l)

abbrev AtMost : ℕ → State → Type 0
AtMost k s = open_connections s ≤ k

keeps-count : Keeps counts_open AtMost
keeps-count = record { goes = λ s c o k m z. rw z.accepted (counts z.well_formed (by_sort c) k m) }

none_open : (n : ℕ) → open_count (replicate n free) ≡ 0
unfolding open_count
none_open zero = refl
none_open (suc n) = none_open n

none_first : AtMost 0 empty
unfolding empty
none_first = omega (arith, none_open capacity)

-- What is kept of an open connection is so.
record Known (k : Watched) (c : Connection) : Type 0 where
  waits : waits_seen k.connection ≡ any_waits c
  latest : (rate : ℕ) → latest_seen rate k.connection ≡ latest_ready rate c c.pace

known : (v : ℕ) (k : Watched) (s : State) → Watches v k s → (c : Connection) → find v s.entries ≡ taken c → Known k c
unfolding entry_seen
known v k s h c f =
    let e : k.connection ≡ connection_seen c = h.connection ∙ ap entry_seen f in
    record { waits = ap waits_seen e ∙ waits-same c; latest = λ rate. ap (latest_seen rate) e ∙ sym (latest-same rate c c.pace) }

record Reads (x : Entry) : Type 0 where
  holder : Connection
  is : x ≡ taken holder
  moving : 0 < holder.rate.acr

moving-open : (x : Entry) → 0 < (allowed_of (entry_acr x)).acr → Reads x
unfolding entry_acr
moving-open free l = absurd (omega (arith, l))
moving-open (taken c) l = record { holder = c; is = refl; moving = l }

-- ready by what abr_acr returned
ready_read : (m v : ℕ) (k : Watched) {s : State} {l : List ℕ} → Stands s l → Watches v k s → ReadySeen m v k l → ReadyBy m v s
unfolding acr_of entry_acr
ready_read m v k {s} st h r =
    let e : r.rate.acr ≡ (allowed_of (entry_acr (find v s.entries))).acr = ap (λ (a : AbrAllowed). a.acr) (acr-seen st v r.rate r.read) in
    let d = moving-open (find v s.entries) (omega (arith, e, r.moving)) in
    let c = d.holder in
    let q : r.rate.acr ≡ c.rate.acr = e ∙ ap (λ (x : Entry). (allowed_of (entry_acr x)).acr) d.is in
    let w = known v k s h c d.is in
    let y = ready-soon c.rate.acr c d.moving (le_refl _) (sym w.waits ∙ r.waits) in
    record {
      holder = c;
      found = d.is;
      instant = y.instant;
      ready_at = y.ready_at;
      by = omega (arith, y.soon, w.latest c.rate.acr, r.by, ap (λ (n : ℕ). latest_seen n k.connection) q);
    }

found :
    (m v : ℕ) (ds : List Call) (ps : List Observation) {s : State} {l : List ℕ} → Stands s l → (k : Watched) → Watches v k s → Transcript ds l ps → FoundReadySeen m v k l ds ps → FoundReady m v s ds
found m v [] [] st k h ended g = tt
found m v (c ∷ cs) (o ∷ os) {s} st k h (then p t) g =
    let z = sees st p in
    let f = k.member in
    let went : went_to f o.returned ≡ goes_to (step s c).answer =
    ap (went_to f) z.matches.returned ∙ went_to_lem f (step s c).answer (names-connection z.well_formed f h.member c) in (
      λ e. let r = g.0 (ap (slot_taken c) z.accepted ∙ e) in (r.0, ready_read m v k st h r.1),
      λ n. found m v cs os z.next (watch v c o k) ((watches v).goes s c o k h z) t (g.1 (λ q. n (sym went ∙ q))),
    )
found m v [] (o ∷ os) {s = s} {l = l} st k h x8 g = elim x8 [ ]
found m v (c ∷ cs) [] {s = s} {l = l} st k h x6 g = elim x6 [ ]

-- the slot of v is the one that a caller sees as v's
place : (v : ℕ) (x : Option ℕ) (p : Outcome) (xs : List (Option ℕ)) (ps : List Outcome) → (GoesTo v p → x ≡ some v) → (Somewhere (GoesTo v) ps → Somewhere (λ y. y ≡ some v) xs)
    → Somewhere (GoesTo v) (p ∷ ps) → Somewhere (λ y. y ≡ some v) (x ∷ xs)
place v x p xs ps h r (here g) = here (h g)
place v x p xs ps h r (there g) = there (r g)

abbrev NotEmpty : List Outcome → Type 0
NotEmpty [] = ⊥
NotEmpty (p ∷ ps) = Unit

not-empty : {P : Outcome → Type 0} {ps : List Outcome} → Somewhere P ps → NotEmpty ps
not-empty (here g) = tt
not-empty (there g) = tt

knows : Keeps member_seen Knows
knows = record { goes = λ s c o f m z. knows_after z.well_formed c f m _ z.accepted }

module _ (cs : List Call) (os : List Observation) (x : Transcript cs zeros os) (ds : List Call) (ps : List Observation) (y : Transcript ds (final_words zeros os) ps) where
  abbrev s : State
  s = final empty cs

  st : Stands s (final_words zeros os)
  st = stands cs os x

  held : (v : ℕ) → Watches v (watched v cs os) s
  held v = watched-so v cs os x

  open-now : open_connections s ≤ kept counts_open 0 cs os
  open-now = kept-so counts_open AtMost keeps-count empty zeros stands-first 0 none_first cs os x

  opens : (m : ℕ) → opens_returned m ds ps ≡ opens_until m s ds
  opens m = sum-seen (λ c o. opens_by m c (eqb o.returned.refusal 0)) (λ c a. opens_by m c (is_accepted a)) (λ s c o z. ap (opens_by m c) z.accepted) s (final_words zeros os) st ds ps y

  slots : slots_returned ds ps ≡ slots_taken s ds
  slots = sum-seen (λ c o. slot_taken c (eqb o.returned.refusal 0)) (λ c a. slot_taken c (is_accepted a)) (λ s c o z. ap (slot_taken c) z.accepted) s (final_words zeros os) st ds ps y

  own-seen : (v : ℕ) → Somewhere (GoesTo v) (run s ds) → Somewhere (λ x. x ≡ some v) (places_seen (members_seen no_member cs os) ds ps)
  own-seen v =
      carry member_seen Knows knows (λ s f cs os. Somewhere (GoesTo v) (run s cs) → Somewhere (λ x. x ≡ some v) (places_seen f cs os)) (λ s f h. absurd (not-empty h))
      (λ s c o f cs os m z r. place v _ (step s c) _ _ (λ g. ap (went_to f) z.matches.returned ∙ went_to_lem f (step s c).answer (names-connection z.well_formed f m c) ∙ g) r)
      s (final_words zeros os) st (members_seen no_member cs os) (members-known cs os x) ds ps y

pub exports-not-passed-over : ExportsNotPassedOver
exports-not-passed-over = record {
  served = λ cs os x v m ds ps y g h n.
      own-seen cs os x ds ps y v
      (not-passed-over.served cs ds m v (found m v ds ps (st cs os x ds ps y) _ (held cs os x ds ps y v) y g) (omega (arith, h, slots cs os x ds ps y))
      (omega (arith, n, opens cs os x ds ps y m, slots cs os x ds ps y, open-now cs os x ds ps y)));
  guaranteed = λ cs os x v p e low w m late ds ps y l k n.
      let d = open-known (find v (final empty cs).entries) p (sym (params-known cs os x v) ∙ e) in
      let c = d.holder in
      let q = known v (watched v cs os) (final empty cs) (held cs os x ds ps y v) c d.is in
      let by : latest_ready (least c.rate.params) c c.pace ≤ m =
      omega (arith, late, q.latest (least c.rate.params), ap (λ (r : Params). latest_seen (least r) (watched v cs os).connection) d.params) in
      own-seen cs os x ds ps y v
      (not-passed-over.guaranteed cs ds v c d.is (sym q.waits ∙ w) (omega (arith, low, ap least d.params)) m by l k
      (omega (arith, n, opens cs os x ds ps y m, slots cs os x ds ps y, open-now cs os x ds ps y)));
}
