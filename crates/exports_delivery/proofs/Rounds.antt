-- A round of exported calls is a turn on the table that its words stand for.
use Prim.Native.Nat.{ℕ, ◌+◌, ◌-◌, ◌≤◌, min, max}
use mathlib.Core.Path.{◌≡◌, refl, sym, ap, subst, ◌∙◌}
use mathlib.Core.Bool.{Bool, true, false, cond, true≢false}
use mathlib.Core.List.{List, [], ◌∷◌}
use mathlib.Core.Option.{Option, none, some}
use native.Mathlib.Nat.{le_refl, le_trans}
use native.Mathlib.Omega.{arith}
use lib.Dec.{eqb}
use Rattle.rate.specs.Gap.{gap}
use Rattle.rate_params.specs.declared.params.Params.{Params}
use Rattle.rate_params.specs.Params.{least}
use Rattle.connection.specs.declared.parts.Connection.{Connection}
use Rattle.connection.specs.declared.parts.Pace.{Pace}
use Rattle.connection.specs.declared.parts.Pace.TheVariants.{Unsent, Running}
use Rattle.connection.specs.Invariant.{PaceFits}
use Rattle.model.specs.State.{State, Entry, free, taken, empty, find}
use Rattle.model.specs.Invariant.{WellFormed}
use Rattle.model.specs.Call.{Call, slot, goes_to}
use Rattle.model.specs.Step.{step}
use Rattle.model.specs.Queries.{entry_acr, acr_of, next_ready}
use Rattle.model.specs.Run.{run, final, params_after, is_accepted}
use Rattle.model.specs.Times.{time_after}
use Rattle.model.proofs.Preserved.{valid-at, empty-well-formed}
use Rattle.model.proofs.Effects.{effect}
use Rattle.model.proofs.Reached.{step-well-formed, reached-well-formed}
use Rattle.model.proofs.Times.{effect-time}
use Rattle.table.specs.Layout.{words}
use Rattle.abr_answers.specs.declared.calls.AbrAllowed.{AbrAllowed}
use Rattle.abr_answers.specs.Calls.{allowed_of}
use Rattle.abr.specs.Exports.{Observation, Transcript, final_words, zeros, Matches, AllMatch, neither, both}
use Rattle.abr.proofs.Exports.{performs-matches, exports-are-run}
use Rattle.exports.specs.Returned.{no_member, members_seen, went_to}
use Rattle.exports.proofs.Returned.{Knows, knows_after, names-connection, went_to_lem}
use Rattle.exports.proofs.Recorded.{knows-run}
use Rattle.exports.proofs.Exports.{accepted-seen}
use Rattle.exports.proofs.Known.{members-known}
use Rattle.exports.proofs.Transport.{Stands, sees, stands_after, stands as all-stand, kept-so}
use Rattle.exports_rates.specs.Seen.{Watched, watch, watched}
use Rattle.exports_rates.proofs.Seen.{entry_seen, Watches, watches, watched-so}
use Rattle.exports_service.specs.Ready.{waits_seen}
use Rattle.exports_service.proofs.Ready.{waits-same}
use Rattle.promise_service.specs.Liveness.{latest_ready}
use Rattle.promise_delivery.specs.Calls.{AllFit}
use Rattle.promise_delivery.specs.Turns.{Turn, time_passed, slot_of, OnTime, AllOnTime}
use Rattle.promise_delivery.specs.Served.{WaitsAt, AllWait, RateAt, AllRated, moved_on, AllServed, one_more, AllDelivered, TurnPlain}
use Rattle.promise_delivery.proofs.SlotTime.{slot-last}
use Rattle.promise_delivery.proofs.Calls.{step-last, final-last}
use Rattle.promise_delivery.proofs.Lists.{Reached, reach, well}
use Rattle.promise_caps.specs.Known.{Known}
use Rattle.promise_caps.specs.Own.{params_in}
use Rattle.promise_caps.specs.Served.{Delivers}
use Rattle.exports_delivery.specs.Obeyed.{known_from}
use Rattle.exports_delivery.specs.Rounds.{Round, last_seen, words_at, RoundRuns, RoundsRun, turns_in, PassedNear, AllPassedNear, watched_at, watched_after, WaitsBefore, AllWaiting, AllSent, AllRatesIn, AllSpaced, ExactlyAfter, last_cell, AllExact, RoundsDelivered}
use Rattle.exports_delivery.specs.Delivered.{known_in}
use Rattle.exports_delivery.proofs.Obeyed.{OpenWith, observed-open, step_given, given-run, given_is}

-- The last accepted time.
pub last-seen : (s : State) → WellFormed s → (cs : List Call) (os : List Observation) → AllMatch (run s cs) os → last_seen s.last cs os ≡ (final s cs).last
last-seen s w [] [] neither = refl
last-seen s w (c ∷ cs) (o ∷ os) (both m ms) =
    ap (λ (l : ℕ). last_seen l cs os) (ap (λ (b : Bool). cond b (time_after c s.last) s.last) (accepted-seen w c m) ∙ sym (effect-time (effect s w.unique c)))
    ∙ last-seen (step s c).state (step-well-formed w c) cs os ms
last-seen s w [] (o ∷ os) x3 = elim x3 [ ]
last-seen s w (c ∷ cs) [] x4 = elim x4 [ ]

either : {A : Type 0} (b : Bool) (x : A) → cond b x x ≡ x
either true x = refl
either false x = refl

-- a table with its words, its last accepted time, its members and what is known of its names
pub record At (s : State) (t : List ℕ) (last : ℕ) (f : ℕ → Bool) (k : ℕ → Known) : Type 0 where
  pub stands : Stands s t
  pub time : last ≡ s.last
  pub knows : Knows f s
  pub known : (v : ℕ) → (k v).given ≡ params_in (find v s.entries)

pub reached-at : {s : State} {t : List ℕ} {last : ℕ} {f : ℕ → Bool} {k : ℕ → Known} → At s t last f k → Reached s
reached-at a = record { calls = a.stands.calls; is = a.stands.reached }

abbrev pub turn_of : Round → Turn
turn_of x = record { between = x.between; now = x.now }

-- where the time does not move nothing has to fit
pub still-fit : (vs : List ℕ) (r : ℕ → ℕ) (S : ℕ) (cs : List Call) (s : State) → WellFormed s → (final s cs).last ≡ s.last → AllFit vs r S s cs
still-fit vs r S [] s w e = tt
still-fit vs r S (c ∷ cs) s w e =
    let l = step-last s w c in
    let k = final-last (step s c).state (step-well-formed w c) cs in
    (λ m. absurd (omega (arith, m, e, k)), still-fit vs r S cs (step s c).state (step-well-formed w c) (omega (arith, e, k, l)))

moved_later : (v g t i j : ℕ) (w : Option ℕ) → i ≤ j → moved_on v g t i w ≤ moved_on v g t j w
unfolding moved_on
moved_later v g t i j none h = h
moved_later v g t i j (some u) h = go (eqb u v)
  where
    go : (b : Bool) → cond b (t + g) i ≤ cond b (t + g) j
    go true = le_refl _
    go false = h

module _ (S lag m last : ℕ) (s : State) (t : List ℕ) (f : ℕ → Bool) (k : ℕ → Known) (a : At s t last f k) (x : Round) (h : RoundRuns S lag m last t x) where
  abbrev here : State
  here = final s x.between

  pub ran : AllMatch (run s x.between) x.seen × (words_at t x ≡ words here)
  ran = exports-are-run.onward s (well (reached-at a)) x.between t x.seen h.done a.stands.table

  pub reached-here : Reached here
  reached-here = reach (reached-at a) x.between

  last-is : last ≡ here.last
  last-is = sym h.still ∙ (ap (λ (l : ℕ). last_seen l x.between x.seen) a.time ∙ last-seen s (well (reached-at a)) x.between x.seen ran.0)

  pub still-is : here.last ≡ s.last
  still-is = sym last-is ∙ a.time

  next-is : x.next ≡ next_ready here
  next-is = h.asked.is here (well reached-here) ran.1

  time-is : x.passed ≡ time_passed lag s (turn_of x)
  time-is = h.timed.is here (well reached-here) ran.1

  pub acr-at : (v : ℕ) (d : Connection) → find v here.entries ≡ taken d → x.acrs v ≡ allowed_of (entry_acr (taken d))
  unfolding acr_of
  acr-at v d e = (h.read v).meets here (well reached-here) ran.1 ∙ ap (λ (y : Entry). allowed_of (entry_acr y)) e

  pub plain : TurnPlain s (turn_of x)
  plain = record { others = h.others; timely = omega (arith, h.timely, last-is); in_range = h.in_range }

  pub soon-is : x.now ≤ max m (next_ready here - 1) + S
  soon-is = omega (arith, h.soon, next-is)

  stands_here : Stands here (words_at t x)
  stands_here = stands_after a.stands x.between x.seen h.done

  matches : Matches (step here (slot x.passed 53)) x.sent
  matches = performs-matches (well reached-here) h.slotted ran.1

  knows_here : Knows (members_seen f x.between x.seen) here
  knows_here = knows-run (well (reached-at a)) f a.knows x.between x.seen ran.0

  pub known-here : (v : ℕ) → (known_in k x v).given ≡ params_in (find v here.entries)
  known-here v = given-run v s (reached-at a) (k v) (a.known v) x.between x.seen ran.0

  went-is : went_to (members_seen f x.between x.seen) x.sent.returned ≡ goes_to (slot_of lag s (turn_of x)).answer
  went-is =
      ap (went_to (members_seen f x.between x.seen)) matches.returned
      ∙ went_to_lem (members_seen f x.between x.seen) (step here (slot x.passed 53)).answer
      (names-connection (well reached-here) (members_seen f x.between x.seen) knows_here (slot x.passed 53))
      ∙ ap (λ (z : ℕ). goes_to (step here (slot z 53)).answer) time-is

  knows-next : Knows (members_seen f x.between x.seen) (slot_of lag s (turn_of x)).state
  knows-next y =
      sym (either (is_accepted (slot_of lag s (turn_of x)).answer) (members_seen f x.between x.seen y))
      ∙ knows_after (well reached-here) (slot (time_passed lag s (turn_of x)) 53) (members_seen f x.between x.seen) knows_here _ refl y

  known_next : (v : ℕ) → (known_in k x v).given ≡ params_in (find v (slot_of lag s (turn_of x)).state.entries)
  unfolding params_after
  known_next v = known-here v ∙ sym (either (is_accepted (slot_of lag s (turn_of x)).answer) (params_in (find v here.entries))) ∙ sym (step_given v reached-here (slot (time_passed lag s (turn_of x)) 53))

  pub at_next : At (slot_of lag s (turn_of x)).state x.sent.table x.passed (members_seen f x.between x.seen) (known_in k x)
  at_next = record {
    stands = subst (λ (n : ℕ). Stands (step here (slot n 53)).state x.sent.table) time-is (sees stands_here h.slotted).next;
    time = time-is ∙ sym (slot-last here (time_passed lag s (turn_of x)) (omega (arith, plain.timely)) (omega (arith, plain.in_range)));
    knows = knows-next;
    known = known_next;
  }

  -- the slot is passed near its own time
  near-is : (j : ℕ) → OnTime j lag s (turn_of x) → PassedNear j last x
  near-is j o = record {
    undelayed =
        time-is ∙ (o.undelayed ∙ sym (ap (λ (n : ℕ). min x.now (max n last)) next-is ∙ ap (λ (l : ℕ). min x.now (max (next_ready here) l)) last-is));
    near = subst (λ (z : ℕ). x.now ≤ z + j) (sym time-is) o.near;
  }

  -- what is kept of a name
  watched-here : (v : ℕ) (w : Watched) → Watches v w s → Watches v (watched_at v w x) here
  watched-here v w y = kept-so (watch v) (Watches v) (watches v) s t a.stands w y x.between x.seen h.done

  watched-next : (v : ℕ) (w : Watched) → Watches v w s → Watches v (watched_after v w x) (slot_of lag s (turn_of x)).state
  watched-next v w y =
      subst (λ (n : ℕ). Watches v (watched_after v w x) (step here (slot n 53)).state) time-is
      ((watches v).goes here (slot x.passed 53) x.sent (watched_at v w x) (watched-here v w y) (sees stands_here h.slotted))

  waits-is : (v : ℕ) (w : Watched) → Watches v w s → WaitsBefore v w x → WaitsAt v s (turn_of x)
  unfolding entry_seen
  waits-is v w y d = go (find v here.entries) refl (watched-here v w y).connection
    where
      go : (z : Entry) → find v here.entries ≡ z → (watched_at v w x).connection ≡ entry_seen z → WaitsAt v s (turn_of x)
      go free e q = absurd (true≢false (sym d.some ∙ ap waits_seen q))
      go (taken c) e q = record { holder = c; found = e; waits = sym (waits-same c) ∙ (sym (ap waits_seen q) ∙ d.some); kept = d.kept; still = still-is }

  rated-is : (v low high : ℕ) (w : Watched) → Watches v w s → WaitsBefore v w x → low ≤ (x.acrs v).acr → (x.acrs v).acr ≤ high → RateAt v low high s (turn_of x)
  unfolding entry_acr
  rated-is v low high w y d l u =
      let z = waits-is v w y d in
      let e : (x.acrs v).acr ≡ z.holder.rate.acr = ap (λ (y : AbrAllowed). y.acr) (acr-at v z.holder z.found) in
      record { waiting = z; above = omega (arith, l, e); below = omega (arith, u, e) }

-- All rounds.
module _ (S lag : ℕ) where
  rounds-near :
      (j : ℕ) (xs : List Round) (m last : ℕ) (s : State) (t : List ℕ) (f : ℕ → Bool) (k : ℕ → Known) → At s t last f k → RoundsRun S lag m last t xs → AllOnTime j lag s (turns_in xs)
      → AllPassedNear j last xs
  rounds-near j [] m last s t f k a h o = tt
  rounds-near j (x ∷ xs) m last s t f k a h o = (
    near-is S lag m last s t f k a x h.0 j o.0,
    rounds-near j xs x.now x.passed (slot_of lag s (turn_of x)).state x.sent.table _ _ (at_next S lag m last s t f k a x h.0) h.1 o.1,
  )

  rounds-wait :
      (v : ℕ) (w : Watched) (xs : List Round) (m last : ℕ) (s : State) (t : List ℕ) (f : ℕ → Bool) (k : ℕ → Known) → At s t last f k → RoundsRun S lag m last t xs → Watches v w s
      → AllWaiting v w xs → AllWait v lag s (turns_in xs)
  rounds-wait v w [] m last s t f k a h y d = tt
  rounds-wait v w (x ∷ xs) m last s t f k a h y d = (
    waits-is S lag m last s t f k a x h.0 v w y d.0,
    rounds-wait v (watched_after v w x) xs x.now x.passed (slot_of lag s (turn_of x)).state x.sent.table _ _ (at_next S lag m last s t f k a x h.0) h.1
        (watched-next S lag m last s t f k a x h.0 v w y) d.1,
  )

  rounds-sent :
      (v g j start n : ℕ) (xs : List Round) (m last : ℕ) (s : State) (t : List ℕ) (f : ℕ → Bool) (k : ℕ → Known) → At s t last f k → RoundsRun S lag m last t xs
      → AllDelivered v g j lag start n s (turns_in xs) → AllSent v g j start n f xs
  rounds-sent v g j start n [] m last s t f k a h d = tt
  rounds-sent v g j start n (x ∷ xs) m last s t f k a h d =
      let u = members_seen f x.between x.seen in (
        d.0,
        rounds-sent v g j start (one_more v n (went_to u x.sent.returned)) xs x.now x.passed (slot_of lag s (turn_of x)).state x.sent.table u _
            (at_next S lag m last s t f k a x h.0) h.1
            (subst (λ (w : Option ℕ). AllDelivered v g j lag start (one_more v n w) (slot_of lag s (turn_of x)).state (turns_in xs)) (sym (went-is S lag m last s t f k a x h.0)) d.1),
      )

  rounds-rated :
      (v low high : ℕ) (w : Watched) (xs : List Round) (m last : ℕ) (s : State) (t : List ℕ) (f : ℕ → Bool) (k : ℕ → Known) → At s t last f k → RoundsRun S lag m last t xs → Watches v w s
      → AllWaiting v w xs → AllRatesIn v low high xs → AllRated v low high lag s (turns_in xs)
  rounds-rated v low high w [] m last s t f k a h y d u = tt
  rounds-rated v low high w (x ∷ xs) m last s t f k a h y d u = (
    rated-is S lag m last s t f k a x h.0 v low high w y d.0 u.0.0 u.0.1,
    rounds-rated v low high (watched_after v w x) xs x.now x.passed (slot_of lag s (turn_of x)).state x.sent.table _ _ (at_next S lag m last s t f k a x h.0) h.1
        (watched-next S lag m last s t f k a x h.0 v w y) d.1 u.1,
  )

  rounds-spaced :
      (v low high from by early : ℕ) (xs : List Round) (m last : ℕ) (s : State) (t : List ℕ) (f : ℕ → Bool) (k : ℕ → Known) → At s t last f k → RoundsRun S lag m last t xs → early ≤ from
      → AllServed v low high lag from by s (turns_in xs) → AllSpaced v low high early by f xs
  rounds-spaced v low high from by early [] m last s t f k a h l d = tt
  rounds-spaced v low high from by early (x ∷ xs) m last s t f k a h l d =
      let u = members_seen f x.between x.seen in
      let w = went_to u x.sent.returned in
      let z = goes_to (slot_of lag s (turn_of x)).answer in
      let q = time_passed lag s (turn_of x) in
      let g : w ≡ z = went-is S lag m last s t f k a x h.0 in
      let e : x.passed ≡ q = time-is S lag m last s t f k a x h.0 in
      let n = (slot_of lag s (turn_of x)).state in (
        (omega (arith, e, d.0.not_late), λ k. subst (λ (n : ℕ). early ≤ n) (sym e) (le_trans l (d.0.not_early (sym g ∙ k)))),
        rounds-spaced v low high (moved_on v (gap high) q from z) (moved_on v (gap low) x.passed by w) (moved_on v (gap high) x.passed early w) xs x.now x.passed n x.sent.table u _
            (at_next S lag m last s t f k a x h.0) h.1
            (subst (λ (p : ℕ). moved_on v (gap high) p early w ≤ moved_on v (gap high) q from z) (sym e)
            (subst (λ (y : Option ℕ). moved_on v (gap high) q early y ≤ moved_on v (gap high) q from z) (sym g) (moved_later v (gap high) q early from z l)))
            (subst (λ (p : ℕ). AllServed v low high lag (moved_on v (gap high) q from z) (moved_on v (gap low) p by w) n (turns_in xs)) (sym e)
            (subst (λ (y : Option ℕ). AllServed v low high lag (moved_on v (gap high) q from z) (moved_on v (gap low) q by y) n (turns_in xs)) (sym g) d.1)),
      )

-- At one rate both instants for the next cell are a gap after the last one.
abbrev Tied : (g from by : ℕ) → Option ℕ → Type 0
Tied g from by none = Unit
Tied g from by (some l) = (from ≡ l + g) × (by ≡ l + g)

tied_on : (v g t from by : ℕ) (l w : Option ℕ) → Tied g from by l → Tied g (moved_on v g t from w) (moved_on v g t by w) (last_cell v t l w)
unfolding moved_on last_cell
tied_on v g t from by l none h = h
tied_on v g t from by l (some u) h = go (eqb u v)
  where
    go : (b : Bool) → Tied g (cond b (t + g) from) (cond b (t + g) by) (cond b (some t) l)
    go true = (refl, refl)
    go false = h

tied-exact : (g t from by : ℕ) (l : Option ℕ) → Tied g from by l → t ≤ by → from ≤ t → ExactlyAfter g l t
tied-exact g t from by none h k j = tt
tied-exact g t from by (some l) h k j = omega (arith, h.0, h.1)

spaced-exact : (v a from by : ℕ) (l : Option ℕ) (f : ℕ → Bool) (xs : List Round) → Tied (gap a) from by l → AllSpaced v a a from by f xs → AllExact v (gap a) l f xs
spaced-exact v a from by l f [] h d = tt
spaced-exact v a from by l f (x ∷ xs) h d =
    let u = members_seen f x.between x.seen in
    let w = went_to u x.sent.returned in (
      λ e. tied-exact (gap a) x.passed from by l h d.0.0 (d.0.1 e),
      spaced-exact v a (moved_on v (gap a) x.passed from w) (moved_on v (gap a) x.passed by w) (last_cell v x.passed l w) u xs (tied_on v (gap a) x.passed from by l w h) d.1,
    )

-- From the zero table.
pub at_first : (cs : List Call) (os : List Observation) → Transcript cs zeros os → At (final empty cs) (final_words zeros os) (last_seen 0 cs os) (members_seen no_member cs os) (known_from cs os)
unfolding empty
at_first cs os tr = record {
  stands = all-stand cs os tr;
  time = last-seen empty empty-well-formed cs os (exports-are-run.each cs os tr);
  knows = members-known cs os tr;
  known = given_is cs os tr;
}

soon-by : (m : ℕ) (d : Connection) (now nr : ℕ) (p : Pace) → PaceFits now nr p → d.opened ≤ now → latest_ready m d p ≤ now + gap m
unfolding latest_ready
soon-by m d now nr Unsent h l = omega arith
soon-by m d now nr (Running sent forward k turned) h l = omega (arith, h.1)

module _ (cs : List Call) (os : List Observation) (tr : Transcript cs zeros os) (S lag m j : ℕ) (xs : List Round) (h : RoundsRun S lag m (last_seen 0 cs os) (final_words zeros os) xs) (y : Delivers (final empty cs) j lag (turns_in xs)) where
  abbrev first : State
  first = final empty cs

  abbrev last : ℕ
  last = last_seen 0 cs os

  abbrev start : At first (final_words zeros os) last (members_seen no_member cs os) (known_from cs os)
  start = at_first cs os tr

  -- the first cell comes a gap after the last accepted time at the latest
  first_by : (a : ℕ) (v : ℕ) (d : Connection) → find v first.entries ≡ taken d → latest_ready a d d.pace ≤ last + gap a
  first_by a v d e =
      let z = (valid-at (reached-well-formed cs) v d e).0 in
      subst (λ (n : ℕ). latest_ready a d d.pace ≤ n + gap a) (sym start.time) (soon-by a d first.last _ d.pace z.paced z.past)

  minimum-of : (v : ℕ) (p : Params) → OpenWith p (find v first.entries) → 1 ≤ least p → AllWaiting v (watched v cs os) xs → AllSent v (gap (least p)) j (last + gap (least p)) 0 (members_seen no_member cs os) xs
  minimum-of v p c g d =
      let u = c.holder.rate.params in
      let wait = rounds-wait S lag v (watched v cs os) xs m last first (final_words zeros os) (members_seen no_member cs os) (known_from cs os) start h (watched-so v cs os tr) d in
      let n = ((y.delivers v c.holder c.found).by_contract (last + gap (least u)) (subst (λ (z : Params). 1 ≤ least z) (sym c.params) g) wait (omega (arith, start.time)) (first_by (least u) v c.holder c.found)).1 in
      subst (λ (z : Params). AllSent v (gap (least z)) j (last + gap (least z)) 0 (members_seen no_member cs os) xs) c.params
      (rounds-sent S lag v (gap (least u)) j (last + gap (least u)) 0 xs m last first (final_words zeros os) (members_seen no_member cs os) (known_from cs os) start h n)

  spaced-of :
      (v low high : ℕ) (p : Params) → OpenWith p (find v first.entries) → 1 ≤ low → AllWaiting v (watched v cs os) xs → AllRatesIn v low high xs
      → AllSpaced v low high 0 (last + gap low) (members_seen no_member cs os) xs
  spaced-of v low high p c g d u =
      let rated = rounds-rated S lag v low high (watched v cs os) xs m last first (final_words zeros os) (members_seen no_member cs os) (known_from cs os) start h (watched-so v cs os tr) d u in
      rounds-spaced S lag v low high (latest_ready high c.holder c.holder.pace) (last + gap low) 0 xs m last first (final_words zeros os) (members_seen no_member cs os) (known_from cs os) start h (omega arith)
      ((y.delivers v c.holder c.found).spaced low high (last + gap low) g rated (omega (arith, start.time)) (first_by low v c.holder c.found))

  pub rounds-delivered : RoundsDelivered cs os j xs
  rounds-delivered = record {
    near = rounds-near S lag j xs m last first (final_words zeros os) (members_seen no_member cs os) (known_from cs os) start h y.on_time;
    minimum = λ v p e g d. minimum-of v p (observed-open cs os tr v p e) g d;
    spaced = λ v low high p e g d u. spaced-of v low high p (observed-open cs os tr v p e) g d u;
    exact = λ v a p e g d u. spaced-exact v a 0 (last + gap a) none (members_seen no_member cs os) xs tt (spaced-of v a a p (observed-open cs os tr v p e) g d u);
  }
