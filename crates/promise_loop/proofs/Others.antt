-- Every other call: it never raises the rate, and leaves it where no forward cell lowers it.
use Prim.Native.Nat.{ℕ, ◌-◌, ◌≤◌, ◌<◌}
use mathlib.Core.Path.{◌≡◌, refl, sym, ap, subst, ◌∙◌}
use mathlib.Core.Logic.{◌≢◌}
use mathlib.Core.Bool.{◌&&◌, not}
use mathlib.Core.Option.{some}
use mathlib.Core.Logic.{by_cases}
use native.Mathlib.Decide.{ℕ_discrete, dec_lt}
use borrow.Author.Tests.{eq-eqb, le-leb, le-ltb, lt-leb}
use native.Mathlib.Nat.{le_refl}
use native.Mathlib.Omega.{arith}
use lib.Dec.{leb, ltb, eqb}
use Rattle.rate_params.specs.Params.{least, crm, adtf_time}
use Rattle.rate_moves.specs.declared.moves.Rate.{Rate}
use Rattle.rate_moves.specs.Moves.{first_cell, idle, unanswered, feedback}
use Rattle.rate_moves.specs.Bounds.{RateInBounds}
use Rattle.rate_moves.proofs.Cuts.{cut-le}
use Rattle.rate_moves.proofs.FourMoves.{cond-all}
use Rattle.connection.specs.declared.parts.Connection.{Connection}
use Rattle.connection.specs.declared.kind.Kind.TheVariants.{Forward}
use Rattle.model.specs.State.{State, Entry, free, taken, find}
use Rattle.model.specs.Invariant.{WellFormed}
use Rattle.model.specs.Answers.{Answer, Sent}
use Rattle.model.specs.Call.{Call, slot}
use Rattle.model.specs.Step.{step}
use Rattle.model.specs.Run.{entry_rate, allowed}
use Rattle.model.proofs.Preserved.{valid-at}
use Rattle.promise_lists.specs.Moves.{Moves, stays, first, later, fed}
use Rattle.promise_lists.proofs.Moves.{StillOpen, still_open, moves-at}
use Rattle.promise_cells.specs.Changes.{NotFedBack}
use Rattle.promise_loop.specs.Loop.{NotClosed, RateKept, Unmoved, NotLowered}
use Rattle.promise_loop.proofs.Fed.{Stands, allowed-is, same-rate}

idle-down : (t : ℕ) (q : Rate) → (idle t q).acr ≤ q.acr
unfolding idle
idle-down t q = cond-all (λ (a : ℕ). a ≤ q.acr) (ltb (adtf_time q.params) t) (omega arith) (le_refl _)

unanswered-down : (y m : ℕ) (q : Rate) → least q.params ≤ m → q.acr ≤ m → (unanswered y q).acr ≤ m
unfolding unanswered
unanswered-down y m q l h = cond-all (λ (a : ℕ). a ≤ m) (leb (crm q.params) y && not (eqb q.params.c 7)) (omega (arith, cut-le q.params.c q.acr)) h

moves-down : {v : ℕ} {d : Connection} {c : Call} {a : Answer} {q : Rate} → Moves v d c a q → NotFedBack v c → RateInBounds d.rate → q.acr ≤ d.rate.acr
unfolding first_cell idle
moves-down stays n b = le_refl _
moves-down (first e) n b = omega arith
moves-down {d = d} (later {t} {forward = forward} e) n b =
    unanswered-down d.unanswered d.rate.acr (idle (t - forward) d.rate) b.above (idle-down (t - forward) d.rate)
moves-down (fed f r k i) n b = absurd (n f r i k)

pub moves-params : {v : ℕ} {d : Connection} {c : Call} {a : Answer} {q : Rate} → Moves v d c a q → q.params ≡ d.rate.params
unfolding first_cell idle unanswered feedback
moves-params stays = refl
moves-params (first e) = refl
moves-params (later e) = refl
moves-params (fed f r k i) = refl

-- where a forward cell's moves leave the rate, every other call does
idle-kept : (t : ℕ) (q : Rate) → t ≤ adtf_time q.params → idle t q ≡ q
unfolding idle
idle-kept t q h = rw (le-ltb (adtf_time q.params) t h)

unanswered-kept : (y : ℕ) (q : Rate) → (q.params.c ≢ 7 → y < crm q.params) → unanswered y q ≡ q
unfolding unanswered
unanswered-kept y q h =
    by_cases (dec_lt y (crm q.params))
    (λ l. rw (lt-leb (crm q.params) y l))
    (λ l. by_cases (ℕ_discrete q.params.c 7)
    (λ e. rw (le-leb (crm q.params) y (omega arith), eq-eqb q.params.c 7 e))
    (λ n. absurd (l (h n))))

moves_not :
    {v : ℕ} {d : Connection} {c : Call} {a : Answer} {q : Rate} → Moves v d c a q → NotFedBack v c
    → ((t room acr n : ℕ) → c ≡ slot t room → a ≡ Sent v v Forward acr n → Unmoved t d) → q ≡ d.rate
moves_not stays n h = refl
moves_not {d = d} (first {t} {room} {acr} {n} e) _ h =
    let r = (h t room acr n refl refl).later in let z : ◌≡◌ {A = ℕ} 0 1 = cc in absurd (omega arith)
moves_not {d = d} (later {t} {room} {acr} {n} {sent} {forward} e) _ h =
    let u : Unmoved t d = h t room acr n refl refl in
    let r = u.later in
    let z : forward ≡ u.forward = cc in
    let i : idle (t - forward) d.rate ≡ d.rate = idle-kept (t - forward) d.rate (omega (arith, u.recent)) in
    ap (unanswered d.unanswered) i ∙ unanswered-kept d.unanswered d.rate u.answered
moves_not (fed f r k i) n h = absurd (n f r i k)

-- what another call leaves, v being open after it
pub record After (v : ℕ) (q : Rate) (s : State) (c : Call) : Type 0 where
  pub holder : Connection
  pub found : find v (step s c).state.entries ≡ taken holder
  pub params : holder.rate.params ≡ q.params
  pub down : NotFedBack v c → holder.rate.acr ≤ q.acr
  pub same : NotFedBack v c → NotLowered v s c → holder.rate ≡ q

pub other_step : {v : ℕ} {q : Rate} {s : State} → WellFormed s → Stands v q s → (c : Call) → StillOpen v (step s c).state → After v q s c
other_step {v} {q} {s} w z c e =
    let m = moves-at s w.unique c v z.holder e.holder z.found e.found in
    subst (λ (r : Rate). After v r s c) z.rate
    (record {
      holder = e.holder;
      found = e.found;
      params = moves-params m;
      down = λ k. moves-down m k (valid-at w v z.holder z.found).1.rates;
      same = λ k l. moves_not m k (λ t room acr n g h. l.forward_cell t room acr n z.holder g h z.found);
    })

pub not-closed : {v : ℕ} {q : Rate} {s : State} → WellFormed s → Stands v q s → (c : Call) → NotClosed v s c → StillOpen v (step s c).state
not-closed {v} {q} {s} w z c n = still_open s w.unique c v z.holder z.found (λ k. n.other_name k.vpi k.vci k.is k.name)

read-open : {v : ℕ} {s : State} (x : Entry) (a : ℕ) → find v s.entries ≡ x → entry_rate x ≡ some a → StillOpen v s
unfolding entry_rate
read-open free a e f = let z : ◌≡◌ {A = ℕ} 0 1 = cc in absurd (omega arith)
read-open (taken d) a e f = record { holder = d; found = e }

pub kept_step : {v : ℕ} {q : Rate} {s : State} → WellFormed s → Stands v q s → (c : Call) → RateKept v s c → Stands v q (step s c).state
unfolding entry_rate
kept_step {v} {q} {s} w z c k =
    let r : allowed v (step s c).state ≡ some q.acr = k.same ∙ allowed-is z in
    let x = other_step w z c (read-open _ q.acr refl r) in
    let e : some x.holder.rate.acr ≡ some q.acr = ap entry_rate (sym x.found) ∙ r in
    let f : x.holder.rate.acr ≡ q.acr = cc in
    record { holder = x.holder; found = x.found; rate = same-rate x.holder.rate q f x.params }
