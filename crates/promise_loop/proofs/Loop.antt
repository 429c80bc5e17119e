-- The allowed rate of a source in a loop with a port settles.
use Prim.Native.Nat.{ℕ, zero, suc, ◌≤◌, ◌<◌}
use mathlib.Core.Bool.{false}
use mathlib.Core.Path.{◌≡◌, refl, sym, ap, subst, ◌∙◌}
use mathlib.Core.List.{List}
use mathlib.Core.Option.{Option, some}
use native.Mathlib.Nat.{le_trans, le_of_eq}
use native.Mathlib.Omega.{arith}
use Rattle.rate_params.specs.declared.params.Params.{Params}
use Rattle.rate_moves.specs.declared.moves.Rate.{Rate}
use Rattle.rate_moves.specs.Moves.{feedback}
use Rattle.port_share.specs.Share.{Share}
use Rattle.model.specs.State.{State, Entry, free, taken, empty, find}
use Rattle.model.specs.Invariant.{WellFormed}
use Rattle.model.specs.Call.{Call, receiving}
use Rattle.model.specs.Step.{step}
use Rattle.model.specs.Run.{final, entry_rate, allowed}
use Rattle.model.proofs.Given.{entry_params, params-given}
use Rattle.model.proofs.Reached.{step-well-formed, final-well-formed, reached-well-formed}
use Rattle.promise_lists.specs.Moves.{stays, fed}
use Rattle.promise_lists.specs.Demand3.{NotAbove, both}
use Rattle.promise_service.specs.Restart.{increase}
use Rattle.promise_loop.specs.Settled.{feedback_bound, fed_times}
use Rattle.promise_loop.specs.Share.{port_rate, settled}
use Rattle.promise_loop.specs.Loop.{FromPort, Unmarked, Feedbacks, ended, fed_back, other_call, NotClosed, RateKept, NotLowered, OpenAt, Loop, ClosedLoop}
use Rattle.promise_loop.proofs.Settled.{rates-settle}
use Rattle.promise_loop.proofs.Fed.{Stands, in_bounds, allowed-is, as_fed, from-port-step, from-port-low, unmarked-step}
use Rattle.promise_loop.proofs.Others.{other_step, not-closed, kept_step}

-- after n backward cells from the port and other calls: the rate is at most m, if it was before or if n is not 0
pub record Ran (v : ℕ) (p : Params) (m : ℕ) (q : Rate) (n : ℕ) (s : State) : Type 0 where
  pub after : Rate
  pub stands : Stands v after s
  pub params : after.params ≡ p
  pub lower : q.acr ≤ m → after.acr ≤ m
  pub fed : 0 < n → after.acr ≤ m

pub run-from-port :
    {v : ℕ} {share : Share} {p : Params} {q : Rate} {s : State} {n : ℕ} {ds : List Call} → WellFormed s → Stands v q s → q.params ≡ p → Feedbacks v (FromPort v share) (NotClosed v) s n ds
    → Ran v p (settled p share) q n (final s ds)
unfolding feedback
run-from-port {q = q} w z e ended = record { after = q; stands = z; params = e; lower = λ l. l; fed = λ l. absurd (omega arith) }
run-from-port {share = share} {p} {q} w z e (fed_back {o = o} h r) =
    let x = run-from-port {q = as_fed h q} (step-well-formed w (receiving o)) (from-port-step h w z) e r in
    let low = x.lower (subst (λ (y : Params). (as_fed h q).acr ≤ settled y share) e (from-port-low h q (in_bounds w z))) in
    record { after = x.after; stands = x.stands; params = x.params; lower = λ _. low; fed = λ _. low }
run-from-port {q = q} w z e (other_call {c = c} n k r) =
    let y = other_step w z c (not-closed w z c k) in
    let x = run-from-port (step-well-formed w c) (record { holder = y.holder; found = y.found; rate = refl }) (y.params ∙ e) r in
    record { after = x.after; stands = x.stands; params = x.params; lower = λ l. x.lower (le_trans (y.down n) l); fed = x.fed }

run-unmarked :
    {v : ℕ} {share : Share} {p : Params} {q : Rate} {s : State} {n : ℕ} {ds : List Call} → WellFormed s → Stands v q s → q.params ≡ p → Feedbacks v (Unmarked v p share) (RateKept v) s n ds
    → Stands v (fed_times n (port_rate p share) q) (final s ds)
unfolding feedback
run-unmarked w z e ended = z
run-unmarked {share = share} {p = p} {q = q} w z e (fed_back {o = o} t r) = run-unmarked {q = feedback false false (port_rate p share) q} (step-well-formed w (receiving o)) (unmarked-step q t w z e) e r
run-unmarked w z e (other_call {c = c} n k r) = run-unmarked (step-well-formed w c) (kept_step w z c k) e r

run-kept :
    {v : ℕ} {share : Share} {p : Params} {q : Rate} {s : State} {n : ℕ} {ds : List Call} → WellFormed s → Stands v q s → q.params ≡ p → Feedbacks v (Unmarked v p share) (NotLowered v) s n ds
    → Feedbacks v (Unmarked v p share) (RateKept v) s n ds
unfolding feedback entry_rate
run-kept w z e ended = ended
run-kept {share = share} {p = p} {q = q} w z e (fed_back {o = o} t r) = fed_back t (run-kept {q = feedback false false (port_rate p share) q} (step-well-formed w (receiving o)) (unmarked-step q t w z e) e r)
run-kept {v} {q = q} w z e (other_call {s = s} {c = c} n l r) =
    let x = other_step w z c (not-closed w z c l.not_closed) in
    let y : Stands v q (step s c).state = record { holder = x.holder; found = x.found; rate = x.same n l } in
    other_call n (record { same = allowed-is y ∙ sym (allowed-is z) }) (run-kept (step-well-formed w c) y e r)

-- From the empty table.
record Starts (v : ℕ) (p : Params) (a : ℕ) (s : State) : Type 0 where
  rate : Rate
  stands : Stands v rate s
  params : rate.params ≡ p
  acr : rate.acr ≡ a

starts-entry : {v : ℕ} {p : Params} {a : ℕ} {s : State} (x : Entry) → find v s.entries ≡ x → entry_params x ≡ some p → entry_rate x ≡ some a → Starts v p a s
unfolding entry_params entry_rate
starts-entry free f e h = let z : ◌≡◌ {A = ℕ} 0 1 = cc in absurd (omega arith)
starts-entry (taken d) f e h = record { rate = d.rate; stands = record { holder = d; found = f; rate = refl }; params = cc; acr = cc }

starts : (cs : List Call) (v a : ℕ) (p : Params) → OpenAt cs v p a → Starts v p a (final empty cs)
starts cs v a p o = starts-entry (find v (final empty cs).entries) refl (params-given v cs ∙ o.given) o.rate

not-above : {m a : ℕ} (x : Option ℕ) → x ≡ some a → a ≤ m → NotAbove (some m) x
not-above {m} x e l = subst (NotAbove (some m)) (sym e) (both l)

-- enough of them, from any rate under these parameters
reaches :
    {v : ℕ} {share : Share} {p : Params} {q : Rate} {s : State} {n : ℕ} {ds : List Call} → WellFormed s → Stands v q s → q.params ≡ p → 1 ≤ increase p → feedback_bound p ≤ n
    → Feedbacks v (Unmarked v p share) (RateKept v) s n ds → allowed v (final s ds) ≡ some (settled p share)
reaches {v} {share} {p} {q} {s} {n} {ds} w z e h l r = allowed-is (run-unmarked w z e r) ∙ ap some (subst Ends e ends h l)
  where
    Ends : Params → Type 0
    Ends x = 1 ≤ increase x → feedback_bound x ≤ n → (fed_times n (port_rate x share) q).acr ≡ settled x share

    ends : Ends q.params
    ends = (rates-settle (port_rate q.params share) q (in_bounds w z)).reached n

module _ {v : ℕ} {q : Rate} {s : State} (w : WellFormed s) (z : Stands v q s) (share : Share) where
  abbrev er : ℕ
  er = port_rate q.params share

  stays_at : (n : ℕ) → q.acr ≡ settled q.params share → (fed_times n er q).acr ≡ settled q.params share
  stays_at zero e = e
  stays_at (suc n) e = (rates-settle er q (in_bounds w z)).falls n (le_of_eq (sym e))

  loop-at : Loop s v q.params q.acr share
  loop-at = record {
    never_above = λ n ds r. let x = run-from-port w z refl r in not-above (allowed v (final s ds)) (allowed-is x.stands) (x.fed (omega arith));
    rises = λ n ds r. allowed-is (run-unmarked w z refl r) ∙ ap some ((rates-settle er q (in_bounds w z)).rises n);
    reached = λ n ds h l r. reaches w z refl h l r;
    stays = λ n ds e r. allowed-is (run-unmarked w z refl r) ∙ ap some (stays_at n e);
    followed = λ m n other ds es r h l t. let x = run-from-port w z refl r in reaches (final-well-formed w ds) x.stands x.params h l t;
    kept = λ n ds r. run-kept w z refl r;
  }

pub closed-loop : ClosedLoop
closed-loop cs v a share p o =
    let x = starts cs v a p o in
    subst (λ (b : ℕ). Loop (final empty cs) v p b share) x.acr
    (subst (λ (y : Params). Loop (final empty cs) v y x.rate.acr share) x.params (loop-at (reached-well-formed cs) x.stands share))
