-- Since the last slot that was passed its own time every slot has sent a cell, and those cells fit the time.
use Prim.Native.Nat.{ℕ, suc, ◌+◌, ◌-◌, ◌*◌, ◌≤◌, ◌<◌, min, max}
use mathlib.Core.Path.{◌≡◌, refl, sym, ap, subst, ◌∙◌}
use mathlib.Core.Logic.{by_cases}
use mathlib.Core.Bool.{Bool, true, false, cond}
use mathlib.Core.List.{List, [], ◌∷◌, ◌++◌}
use native.Mathlib.Nat.{le_refl, le_trans, suc-mul, add-mul, mul-add, mul-le-mul_right}
use native.Mathlib.Decide.{dec_le, dec_lt}
use native.Mathlib.Omega.{arith}
use lib.Dec.{eqb, leb}
use lib.ListN.{length, length-append}
use borrow.Author.Tests.{eq-eqb, ne_eqb, leb-true, leb-false, le-ltb}
use Rattle.rate.specs.Units.{latest_time}
use Rattle.model.specs.State.{State, Entry, free, taken, find, with_time}
use Rattle.model.specs.Call.{Call, slot, Outcome}
use Rattle.model.specs.Step.{step}
use Rattle.model.specs.Queries.{next_ready}
use Rattle.model.specs.Run.{final}
use Rattle.model.proofs.Reached.{final-append}
use Rattle.promise_delivery.specs.Calls.{opens_name, opens_of, slots_sent, total, if_open, is_open, AllHeld, AllFit}
use Rattle.promise_delivery.specs.Turns.{Turn, table_at, time_passed, slot_of, TurnFits, OnTime}
use Rattle.promise_delivery.proofs.SlotTime.{slot-last}
use Rattle.promise_delivery.proofs.Calls.{final-last}
use Rattle.promise_delivery.proofs.Total.{total_mono}
use Rattle.promise_delivery.proofs.Lists.{sent-append, held-append, fit_append, opens-append, others-held, Reached, reach, well, next_of, sent-at, slept, slept-slot, slot-keeps-open}
use Rattle.promise_caps.specs.Capped.{Capped, calls_of, rise, rises_of, CapsHeld, CapsFit, ahead}
use Rattle.promise_caps.specs.Lag.{CapTurn, CapTurnsFit, raised_at, new_at, open_of, bucket_level, slots_after, debt_at, debt_after, AllLong, AllNear}
use Rattle.promise_caps.proofs.Counted.{total-sum, total_right, caps-together}
use Rattle.promise_caps.proofs.Lists.{with_cap, calls-append, caps-held-append, caps-fit-append, last_cap, last-cap-append, rises-append}

-- Calls that make s from a base table, with so many cells. Meanwhile the clock went to m from the base's last
-- time, which it was `late` ahead of. q are the caps after them, and debt has what they cost.
pub record Busy (vs : List ℕ) (S G m debt : ℕ) (q : ℕ → ℕ) (s : State) : Type 0 where
  pub base : State
  pub reached : Reached base
  pub from : ℕ → ℕ
  pub calls : List Capped
  pub late : ℕ
  pub cells : ℕ
  pub is : final base (calls_of calls) ≡ s
  pub capped : last_cap from calls ≡ q
  pub held : CapsHeld vs base calls
  pub fit : CapsFit vs G base calls
  pub few : late + total (λ v. ahead v G from base calls) vs ≤ debt + cells * (G - S)
  pub sent : cells ≤ length (slots_sent base (calls_of calls))
  pub clock : m ≤ base.last + late + cells * S

-- a base
pub busy-from : (vs : List ℕ) (S G m : ℕ) (q : ℕ → ℕ) (s : State) → Reached s → Busy vs S G m ((m - s.last) + open_of vs s * G) q s
busy-from vs S G m q s h = record {
  base = s;
  reached = h;
  from = q;
  calls = [];
  late = m - s.last;
  cells = 0;
  is = refl;
  capped = refl;
  held = tt;
  fit = tt;
  few = omega (arith, total_mono (λ v. ahead v G q s []) (λ v. is_open s v * G) (λ v. omega arith) vs, total_right (is_open s) G vs);
  sent = omega arith;
  clock = omega arith;
}

-- more may be owed
owing-more : {vs : List ℕ} {S G m d e : ℕ} {q : ℕ → ℕ} {s : State} → d ≤ e → Busy vs S G m d q s → Busy vs S G m e q s
owing-more h y = record {
  base = y.base;
  reached = y.reached;
  from = y.from;
  calls = y.calls;
  late = y.late;
  cells = y.cells;
  is = y.is;
  capped = y.capped;
  held = y.held;
  fit = y.fit;
  few = omega (arith, h, y.few);
  sent = y.sent;
  clock = y.clock;
}

-- a cap that stays is no rise
unraised : (u a : ℕ) (x : Entry) → if_open x (rise u a a) ≡ 0
unfolding if_open rise
unraised u a free = refl
unraised u a (taken d) = rw (le-ltb a a (le_refl a))

more-ahead : (i o p b rs old new G : ℕ) → o ≡ p + b → rs ≤ old + new → (i + o) * G + rs ≤ (i + p) * G + old + (b * G + new)
more-ahead i o p b rs old new G e h = omega (arith, h, add-mul i o G, add-mul i p G, ap (λ (z : ℕ). z * G) e, add-mul p b G)

-- a cell more at t, and the clock at most S later
near-debt :
    (S G base late cells debt new shares t now m : ℕ) → S ≤ G → base ≤ t → suc cells * G ≤ (t - base) + shares → late + shares ≤ debt + new + cells * (G - S)
    → m ≤ base + late + cells * S → now ≤ m + S → now ≤ t + ((debt + new) - (G - S))
near-debt S G base late cells debt new shares t now m h b c f k l =
    let e : cells * G ≡ cells * (G - S) + cells * S = ap (λ (z : ℕ). cells * z) (parts G S h) ∙ mul-add cells (G - S) S in
    omega (arith, e, suc-mul cells G)
  where
    parts : (G S : ℕ) → S ≤ G → G ≡ (G - S) + S
    parts G S h = omega arith

not-delayed : (now next last lag d : ℕ) → now ≤ min now (max next last) + d → d ≤ lag → min now (max next (max last (now - lag))) ≡ min now (max next last)
not-delayed now next last lag d h l = omega arith

not-before-now : (now next : ℕ) → (min now next < now → ⊥) → min now next ≡ now
not-before-now now next h = omega (arith, h)

at_once : (now next last lag : ℕ) → (min now (max next last) < now → ⊥) → min now (max next (max last (now - lag))) ≡ now
at_once now next last lag h = omega (arith, h)

reaches : (now t d : ℕ) → t ≡ now → now ≤ t + d
reaches now t d e = omega arith

module _ (vs : List ℕ) (S G lag : ℕ) (wide : S ≤ G) where
  module _ (m debt : ℕ) (q : ℕ → ℕ) (s : State) (z : CapTurn) (y : Busy vs S G m debt q s) (f : TurnFits vs z.cap S G m s z.turn) where
    abbrev x : Turn
    x = z.turn

    abbrev r : ℕ → ℕ
    r = z.cap

    abbrev here : State
    here = table_at s x

    abbrev past : List Call
    past = calls_of y.calls

    abbrev owed : ℕ
    owed = bucket_level vs q S G debt s z

    reached-s : Reached s
    reached-s = subst Reached y.is (reach y.reached past)

    reached-here : Reached here
    reached-here = reach reached-s x.between

    abbrev undelayed : ℕ
    undelayed = min x.now (max (next_ready here) here.last)

    -- a slot at the next ready instant, or the last accepted time
    module _ (t : ℕ) (due : next_ready here ≤ t) (since : here.last ≤ t) (until : t ≤ latest_time) where
      abbrev more : List Call
      more = x.between ++ (slot t 53 ∷ [])

      abbrev all : List Capped
      all = y.calls ++ with_cap r more

      all-is : calls_of all ≡ past ++ more
      all-is = calls-append y.calls r more

      all_end : final y.base (calls_of all) ≡ (step here (slot t 53)).state
      all_end =
          ap (final y.base) all-is
          ∙ (final-append y.base past more ∙ (ap (λ (z : State). final z more) y.is ∙ final-append s x.between (slot t 53 ∷ [])))

      all-ahead : (v : ℕ) → ahead v G y.from y.base all ≤ ahead v G y.from y.base y.calls + (opens_of v x.between * G + raised_at v G q s z)
      unfolding opens_name
      all-ahead v =
          let e : if_open (find v (final y.base past).entries) (rise G (last_cap y.from y.calls v) (r v)) ≡ raised_at v G q s z =
          ap (λ (z : State). if_open (find v z.entries) (rise G (last_cap y.from y.calls v) (r v))) y.is
          ∙ ap (λ (p : ℕ → ℕ). if_open (find v s.entries) (rise G (p v) (r v))) y.capped in
          let o : opens_of v (calls_of all) ≡ opens_of v past + opens_of v x.between =
          ap (opens_of v) all-is ∙ omega (arith, opens-append v past more, opens-append v x.between (slot t 53 ∷ [])) in
          more-ahead (is_open y.base v) (opens_of v (calls_of all)) (opens_of v past) (opens_of v x.between) (rises_of v G y.from y.base all) (rises_of v G y.from y.base y.calls)
          (raised_at v G q s z) G o (subst (λ (n : ℕ). rises_of v G y.from y.base all ≤ rises_of v G y.from y.base y.calls + n) e (rises-append v G y.from r y.base y.calls more))

      all-few : y.late + total (λ v. ahead v G y.from y.base all) vs ≤ debt + new_at vs G q s z + y.cells * (G - S)
      all-few =
          let old : ℕ → ℕ = λ v. ahead v G y.from y.base y.calls in
          let new : ℕ → ℕ = λ v. opens_of v x.between * G + raised_at v G q s z in
          let l = total_mono (λ v. ahead v G y.from y.base all) (λ v. old v + new v) all-ahead vs in
          omega (arith, y.few, l, total-sum old new vs)

      all_held : CapsHeld vs y.base all
      all_held =
          caps-held-append vs r y.base y.calls more y.held
          (subst (λ (z : State). AllHeld vs r z more) (sym y.is) (held-append vs r s x.between (slot t 53 ∷ []) (others-held vs r s x.between f.others) (f.held, tt)))

      all_fit : CapsFit vs G y.base all
      all_fit =
          caps-fit-append vs r G y.base y.calls more y.fit
          (subst (λ (z : State). AllFit vs r G z more) (sym y.is) (fit_append vs r G s x.between (slot t 53 ∷ []) f.fitted (λ _. f.fits, tt)))

      last-is : (final y.base (calls_of all)).last ≡ t
      last-is = ap (λ (z : State). z.last) all_end ∙ slot-last here t since until

      s-last : (y.base.last ≤ s.last) × (s.last ≤ t)
      s-last = (
        subst (λ (z : State). y.base.last ≤ z.last) y.is (final-last y.base (well y.reached) past),
        le_trans (final-last s (well reached-s) x.between) since,
      )

      times-are : slots_sent y.base (calls_of all) ≡ slots_sent y.base past ++ (slots_sent s x.between ++ (t ∷ []))
      times-are =
          ap (slots_sent y.base) all-is
          ∙ sent-append y.base past more
          ∙ ap (λ (z : State). slots_sent y.base past ++ slots_sent z more) y.is
          ∙ ap (λ (ts : List ℕ). slots_sent y.base past ++ ts) (sent-append s x.between (slot t 53 ∷ []))
          ∙ ap (λ (ts : List ℕ). slots_sent y.base past ++ (slots_sent s x.between ++ (ts ++ []))) (sent-at here (next_of reached-here) t since until due)

      more-sent : suc y.cells ≤ length (slots_sent y.base (calls_of all))
      more-sent = rw (times-are, length-append (slots_sent y.base past) (slots_sent s x.between ++ (t ∷ [])), length-append (slots_sent s x.between) (t ∷ [])) (omega (arith, y.sent))

      -- so the clock is not far ahead of it
      clock-near : x.now ≤ m + S → x.now ≤ t + owed
      clock-near h =
          let c = caps-together y.base (well y.reached) vs y.from G all all_held all_fit in
          let l = near-debt S G y.base.last y.late y.cells debt (new_at vs G q s z) (total (λ v. ahead v G y.from y.base all) vs) t x.now m wide
          (omega (arith, s-last.0, s-last.1)) (omega (arith, mul-le-mul_right G more-sent, last-is, c)) all-few y.clock h in
          omega (arith, l)

      busy-on : x.now ≤ m + S → Busy vs S G x.now owed r (step here (slot t 53)).state
      busy-on h = record {
        base = y.base;
        reached = y.reached;
        from = y.from;
        calls = all;
        late = y.late;
        cells = suc y.cells;
        is = all_end;
        capped = ended x.between;
        held = all_held;
        fit = all_fit;
        few = omega (arith, all-few, suc-mul y.cells (G - S));
        sent = more-sent;
        clock = omega (arith, suc-mul y.cells S, y.clock);
      }
        where
          ended : (cs : List Call) → last_cap y.from (y.calls ++ with_cap r (cs ++ (slot t 53 ∷ []))) ≡ r
          ended [] = last-cap-append y.from r y.calls (slot t 53) []
          ended (c ∷ cs) = last-cap-append y.from r y.calls c (cs ++ (slot t 53 ∷ []))

    -- passed its own time, it is a base itself
    busy-anew : Busy vs S G x.now (open_of vs (step here (slot x.now 53)).state * G) r (step here (slot x.now 53)).state
    busy-anew =
        let n = (step here (slot x.now 53)).state in
        let e : (x.now - n.last) + open_of vs n * G ≡ open_of vs n * G = omega (arith, slot-last here x.now f.timely f.in_range) in
        subst (λ (d : ℕ). Busy vs S G x.now d r n) e (busy-from vs S G x.now r n (reach reached-here (slot x.now 53 ∷ [])))

    -- a slot that is passed t, with the debt d
    abbrev Onward : (d : ℕ) → Type 0
    Onward d = OnTime d lag s x × Busy vs S G x.now (debt_after vs G lag d s z) r (slot_of lag s x).state

    abbrev After : (d : ℕ) → Bool → ℕ → Type 0
    After d b t = Busy vs S G x.now (cond b (open_of vs (step here (slot t 53)).state * G) d) r (step here (slot t 53)).state

    -- not its own time, which is near enough
    onward-overdue : (d : ℕ) → d ≤ lag → undelayed < x.now → x.now ≤ undelayed + d → Busy vs S G x.now d r (step here (slot undelayed 53)).state → Onward d
    unfolding debt_after
    onward-overdue d long h near y =
        let e : time_passed lag s x ≡ undelayed = not-delayed x.now (next_ready here) here.last lag d near long in
        let b : eqb (time_passed lag s x) x.now ≡ false = ne_eqb (time_passed lag s x) x.now (λ k. omega (arith, e, k, h)) in (
          record { undelayed = e; near = omega (arith, e, near) },
          subst (λ (c : Bool). After d c (time_passed lag s x)) (sym b) (subst (After d false) (sym e) y),
        )

    -- its own time
    onward-prompt : (d : ℕ) → (undelayed < x.now → ⊥) → Onward d
    unfolding debt_after
    onward-prompt d h =
        let p : undelayed ≡ x.now = not-before-now x.now (max (next_ready here) here.last) h in
        let e : time_passed lag s x ≡ x.now = at_once x.now (next_ready here) here.last lag h in
        let b : eqb (time_passed lag s x) x.now ≡ true = eq-eqb (time_passed lag s x) x.now e in (
          record { undelayed = e ∙ sym p; near = reaches x.now (time_passed lag s x) d e },
          subst (λ (c : Bool). After d c (time_passed lag s x)) (sym b) (subst (After d true) (sym e) busy-anew),
        )

    -- at most S after the slot before
    onward-soon : owed ≤ lag → undelayed < x.now → x.now ≤ m + S → Onward owed
    onward-soon long h soon =
        let due : next_ready here ≤ undelayed = omega (arith, h) in
        let since : here.last ≤ undelayed = omega (arith, h) in
        let until : undelayed ≤ latest_time = omega (arith, h, f.in_range) in
        onward-overdue owed long h (clock-near undelayed due since until soon) (busy-on undelayed due since until soon)

  -- The end of a sleep: the same as if a slot had come at u, before which nothing was ready.
  module _ (m debt : ℕ) (q : ℕ → ℕ) (s : State) (z : CapTurn) (y : Busy vs S G m debt q s) (f : TurnFits vs z.cap S G m s z.turn) (u : ℕ)
      (reached : Reached (with_time u (table_at s z.turn))) (soon : z.turn.now ≤ u + S) where
    abbrev at : State
    at = table_at s z.turn

    abbrev base : State
    base = with_time u at

    abbrev woken : CapTurn
    woken = record { turn = record { between = []; now = z.turn.now }; cap = z.cap }

    abbrev anew : ℕ
    anew = slots_after vs G lag s z - (G - S)

    abbrev debt-base : ℕ
    debt-base = (u - base.last) + open_of vs base * G

    abbrev awake : Busy vs S G u debt-base z.cap base
    awake = busy-from vs S G u z.cap base reached

    woken-fits : u ≤ z.turn.now → TurnFits vs z.cap S G u base woken.turn
    unfolding with_time next_ready
    woken-fits h = record {
      others = tt;
      timely = h;
      in_range = f.in_range;
      soon = omega (arith, soon);
      held = record { among = f.held.among; rates = f.held.rates };
      fits = f.fits;
      fitted = tt;
    }

    -- it owes a slot for each open connection
    owes : bucket_level vs z.cap S G debt-base base woken ≤ anew
    unfolding with_time
    owes =
        let o : open_of vs base ≤ open_of vs (slot_of lag s z.turn).state =
        total_mono (is_open base) (is_open (slot_of lag s z.turn).state) (λ v. slot-keeps-open v at (well (reached-here m debt q s z y f)) (time_passed lag s z.turn)) vs in
        owing (open_of vs base * G) (slots_after vs G lag s z) (new_at vs G z.cap base woken) u (G - S) (none vs) (mul-le-mul_right G o)
      where
        none : (us : List ℕ) → total (λ v. 0 * G + if_open (find v at.entries) (rise G (z.cap v) (z.cap v))) us ≡ 0
        none [] = refl
        none (v ∷ us) = omega (arith, unraised G (z.cap v) (find v at.entries), none us)

        owing : (a b n u f : ℕ) → n ≡ 0 → a ≤ b → ((u - u) + a + n) - f ≤ b - f
        owing a b n u f e h = omega arith

    woken-on : undelayed m debt q s z y f < z.turn.now → u ≤ undelayed m debt q s z y f → anew ≤ lag → Onward m debt q s z y f anew
    unfolding with_time next_ready
    woken-on h l long =
        let t = undelayed m debt q s z y f in
        let g = woken-fits (omega (arith, h, l)) in
        let due : next_ready at ≤ t = omega (arith, h) in
        let since : at.last ≤ t = omega (arith, h) in
        let until : t ≤ latest_time = omega (arith, h, f.in_range) in
        let near : z.turn.now ≤ t + bucket_level vs z.cap S G debt-base base woken = clock-near u debt-base z.cap base woken awake g t due l until soon in
        let on = busy-on u debt-base z.cap base woken awake g t due l until soon in
        onward-overdue m debt q s z y f anew long h (omega (arith, near, owes))
        (subst (λ (o : Outcome). Busy vs S G z.turn.now anew z.cap o.state) (slept-slot at u t l since until) (owing-more owes on))

  -- the slot is passed its own time, or one that the cells so far let it be near
  module _ (m debt : ℕ) (q : ℕ → ℕ) (s : State) (z : CapTurn) (y : Busy vs S G m debt q s) (f : TurnFits vs z.cap S G m s z.turn) where
    abbrev t : ℕ
    t = undelayed m debt q s z y f

    slept-on : t < z.turn.now → m + S < z.turn.now → slots_after vs G lag s z - (G - S) ≤ lag → Onward m debt q s z y f (slots_after vs G lag s z - (G - S))
    unfolding with_time
    slept-on h k long = by_cases (dec_le (next_ready (here m debt q s z y f)) (here m debt q s z y f).last) past ahead
      where
        past : next_ready (here m debt q s z y f) ≤ (here m debt q s z y f).last → Onward m debt q s z y f (slots_after vs G lag s z - (G - S))
        past l = woken-on m debt q s z y f (here m debt q s z y f).last (reached-here m debt q s z y f) (omega (arith, f.soon, k, l)) h (omega (arith, h)) long

        ahead : (next_ready (here m debt q s z y f) ≤ (here m debt q s z y f).last → ⊥) → Onward m debt q s z y f (slots_after vs G lag s z - (G - S))
        ahead l =
            let u = next_ready (here m debt q s z y f) - 1 in
            let r = slept (reached-here m debt q s z y f) u (omega (arith, l)) (omega (arith, h, f.in_range)) (omega (arith, l)) in
            woken-on m debt q s z y f u r (omega (arith, f.soon, k)) h (omega (arith, h)) long

    pub turn_on : debt_at vs q S G lag m debt s z ≤ lag → Onward m debt q s z y f (debt_at vs q S G lag m debt s z)
    unfolding debt_at
    turn_on long = by_cases (dec_lt t z.turn.now) overdue (onward-prompt m debt q s z y f (debt_at vs q S G lag m debt s z))
      where
        overdue : t < z.turn.now → Onward m debt q s z y f (debt_at vs q S G lag m debt s z)
        overdue h = go (leb z.turn.now (m + S)) refl long
          where
            go : (b : Bool) → leb z.turn.now (m + S) ≡ b → cond b (bucket_level vs q S G debt s z) (slots_after vs G lag s z - (G - S)) ≤ lag
                → Onward m debt q s z y f (cond b (bucket_level vs q S G debt s z) (slots_after vs G lag s z - (G - S)))
            go true e l = onward-soon m debt q s z y f l h (leb-true z.turn.now (m + S) e)
            go false e l = slept-on h (leb-false z.turn.now (m + S) e) l

  pub turns-on :
      (xs : List CapTurn) (m debt : ℕ) (q : ℕ → ℕ) (s : State) → Busy vs S G m debt q s → CapTurnsFit vs S G lag m s xs → AllLong vs q S G lag m debt s xs
      → AllNear vs q S G lag m debt s xs
  turns-on [] m debt q s y f l = tt
  turns-on (x ∷ xs) m debt q s y f l =
      let t = turn_on m debt q s x y f.0 l.0 in
      (t.0, turns-on xs x.turn.now (debt_after vs G lag (debt_at vs q S G lag m debt s x) s x) x.cap (slot_of lag s x.turn).state t.1 f.1 l.1)
