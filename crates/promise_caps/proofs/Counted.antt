-- The cells of a list by the time that each connection is open, at the caps of that time.
use Prim.Native.Nat.{ℕ, suc, ◌+◌, ◌-◌, ◌*◌, ◌/◌, ◌≤◌, ◌<◌, min}
use mathlib.Core.Path.{◌≡◌, refl, sym, ap, subst, ◌∙◌}
use mathlib.Core.Logic.{by_cases}
use mathlib.Core.Bool.{Bool, true, false, cond}
use mathlib.Core.List.{List, [], ◌∷◌, ◌++◌}
use native.Mathlib.Nat.{le_trans, suc-mul, add-mul, mul-add, mul-le-mul_left, mul-le-mul_right, mul_assoc, mul_comm, le_of_eq, le_of_mul-le-mul_right, lt-div-mul-add, div-mul-le_self}
use native.Mathlib.Decide.{dec_lt}
use native.Mathlib.Omega.{arith}
use lib.Dec.{ltb}
use lib.ListN.{length, length-append}
use borrow.Author.Tests.{ltb-true, ltb-false}
use Rattle.rate.specs.Gap.{gap}
use Rattle.rate.proofs.Gaps.{gap-enough}
use Rattle.connection.specs.declared.parts.Connection.{Connection}
use Rattle.connection.specs.declared.parts.Pace.{Pace}
use Rattle.connection.specs.declared.parts.Pace.TheVariants.{Unsent, Running}
use Rattle.connection.specs.Kind.{kind_at}
use Rattle.connection.specs.Slot.{after}
use Rattle.connection.proofs.Readiness.{ready-some}
use Rattle.model.specs.State.{State, Entry, free, taken, empty, find}
use Rattle.model.specs.Invariant.{WellFormed}
use Rattle.model.specs.Call.{Call, goes_to}
use Rattle.model.specs.Step.{step}
use Rattle.model.specs.Run.{final, is_accepted}
use Rattle.model.proofs.Effects.{effect}
use Rattle.model.proofs.Reached.{step-well-formed, reached-well-formed}
use Rattle.laws.specs.All.{All}
use Rattle.promise_traces.specs.InRate.{SentCell, sent_by}
use Rattle.promise_traces.proofs.Next.{cell_at, Next, closed, quiet, goes, effect-next}
use Rattle.model.specs.Aspects.{sort_of}
use Rattle.promise_delivery.specs.Calls.{opens_name, opens_of, time_sent, slots_sent, cells_from, total, if_open, is_open, open_rates}
use Rattle.promise_delivery.proofs.Policed.{open_from, not-before, after-from}
use Rattle.promise_delivery.proofs.Calls.{closing-sends-none, Later, absent, begun, step-later, closed-free, step-sends, sends_none, step-last, final-last}
use Rattle.promise_delivery.proofs.Total.{total-add, total-over, passes, call-in, call-rates}
use Rattle.promise_caps.specs.Capped.{Capped, calls_of, rise, RiseMost, rises_of, carried, AllUnder, CapsHeld, CapsFit, ahead, CapsCounted}

-- what an open connection may send ahead of the time for which it was open: what its cap allows since its last
-- cell, up to one cell; before its first cell, one cell
unfoldable pace_credit : (r last : ℕ) → Pace → ℕ
pace_credit r l Unsent = 512_000_000_000
pace_credit r l (Running sent forward k turned) = min 512_000_000_000 ((l - sent) * r)

unfoldable credit : (r last : ℕ) → Entry → ℕ
credit r l free = 0
credit r l (taken d) = pace_credit r l d.pace

credit-least : (r l : ℕ) (p : Pace) → pace_credit r l p ≤ 512_000_000_000
unfolding pace_credit
credit-least r l Unsent = omega arith
credit-least r l (Running sent forward k turned) = omega arith

credit-open : (r l : ℕ) (x : Entry) → credit r l x ≤ if_open x 1 * 512_000_000_000
unfolding credit if_open
credit-open r l free = omega arith
credit-open r l (taken d) = omega (arith, credit-least r l d.pace)

-- a fall leaves no more of it
credit-falls : (q r l : ℕ) (p : Pace) → r ≤ q → pace_credit r l p ≤ pace_credit q l p
unfolding pace_credit
credit-falls q r l Unsent h = omega arith
credit-falls q r l (Running sent forward k turned) h = omega (arith, mul-le-mul_left (l - sent) h)

-- a product in two parts
spent : (r a b c : ℕ) → a ≤ b + c → a * r ≤ b * r + c * r
spent r a b c h = omega (arith, mul-le-mul_right r h, add-mul b c r)

exchanged : (a b c : ℕ) → a * b * c ≡ a * c * b
exchanged a b c = omega (arith, mul_assoc a b c, mul_assoc a c b, ap (λ (z : ℕ). a * z) (mul_comm b c))

jump-sum : (j a b r d q : ℕ) → j + a ≤ 512_000_000_000 * r → 512_000_000_000 * q ≤ b → a ≡ b → r ≡ d + q → j ≤ 512_000_000_000 * d
jump-sum j a b r d q h k e f = omega arith

-- a rise from q to r, x after the last cell: the part (r - q) / r of a cell
jumps : (x q r j : ℕ) → q < r → j + min 512_000_000_000 (x * q) ≤ min 512_000_000_000 (x * r) → j * r ≤ 512_000_000_000 * (r - q)
jumps x q r j h l = by_cases (dec_lt 512_000_000_000 (x * r)) late early
  where
    parts : r ≡ (r - q) + q
    parts = omega arith

    split : (n : ℕ) → n * r ≡ n * (r - q) + n * q
    split n = ap (λ (z : ℕ). n * z) parts ∙ mul-add n (r - q) q

    early : (512_000_000_000 < x * r → ⊥) → j * r ≤ 512_000_000_000 * (r - q)
    early m =
        let a : j ≤ x * (r - q) = omega (arith, m, split x) in
        let b : j * r ≤ x * (r - q) * r = mul-le-mul_right r a in
        let c : x * r * (r - q) ≤ 512_000_000_000 * (r - q) = mul-le-mul_right (r - q) (omega (arith, m)) in
        le_trans b (le_trans (le_of_eq (exchanged x (r - q) r)) c)

    late : 512_000_000_000 < x * r → j * r ≤ 512_000_000_000 * (r - q)
    late m = by_cases (dec_lt (x * q) 512_000_000_000) some (λ k. none j (omega (arith, k)))
      where
        none : (j : ℕ) → j ≡ 0 → j * r ≤ 512_000_000_000 * (r - q)
        none j e = rw e (omega arith)

        some : x * q < 512_000_000_000 → j * r ≤ 512_000_000_000 * (r - q)
        some k =
            let a : j + x * q ≤ 512_000_000_000 = omega (arith, k, m) in
            let b : (j + x * q) * r ≤ 512_000_000_000 * r = mul-le-mul_right r a in
            let c : 512_000_000_000 * q ≤ x * r * q = mul-le-mul_right q (omega (arith, m)) in
            jump-sum (j * r) (x * q * r) (x * r * q) r (r - q) q (omega (arith, b, add-mul j (x * q) r)) c (exchanged x q r) parts

-- in units of u for a cell
rise-enough : (u q r : ℕ) → q < r → u * (r - q) ≤ ((u * (r - q) + (r - 1)) / r) * r
rise-enough u q r h = let p : 1 ≤ r = omega arith in omega (arith, lt-div-mul-add {a = u * (r - q) + (r - 1)} p)

pub rise-most : RiseMost
unfolding rise
rise-most u a b = go (ltb a b) refl
  where
    go : (x : Bool) → ltb a b ≡ x → cond x ((u * (b - a) + (b - 1)) / b) 0 ≤ u
    go false e = omega arith
    go true e =
        let n = (u * (b - a) + (b - 1)) / b in
        let h : a < b = ltb-true a b e in
        let k : n * b ≤ u * (b - a) + (b - 1) = div-mul-le_self (u * (b - a) + (b - 1)) b in
        let l : u * (b - a) ≤ u * b = mul-le-mul_left u (omega arith) in
        by_cases (dec_lt u n) (λ m. absurd (omega (arith, h, k, l, mul-le-mul_right b m, suc-mul u b))) (λ m. omega (arith, m))

scaled : (j q r u n : ℕ) → 1 ≤ r → j * r ≤ 512_000_000_000 * (r - q) → u * (r - q) ≤ n * r → j * u ≤ n * 512_000_000_000
scaled j q r u n p h l =
    le_of_mul-le-mul_right {k = r} (over (j * u * r) (j * r * u) (r - q) u (n * 512_000_000_000 * r) (n * r) (mul-le-mul_right u h) l (omega arith) (omega arith)) p
  where
    over : (a b d u c e : ℕ) → b ≤ 512_000_000_000 * d * u → u * d ≤ e → a ≡ b → c ≡ e * 512_000_000_000 → a ≤ c
    over a b d u c e h l p q = omega arith

credit-rises : (u q r l : ℕ) (p : Pace) → q < r → pace_credit r l p * u ≤ pace_credit q l p * u + ((u * (r - q) + (r - 1)) / r) * 512_000_000_000
unfolding pace_credit
credit-rises u q r l Unsent h = omega arith
credit-rises u q r l (Running sent forward k turned) h =
    let a = min 512_000_000_000 ((l - sent) * r) in
    let b = min 512_000_000_000 ((l - sent) * q) in
    let j : (a - b) + b ≤ a = omega (arith, mul-le-mul_left (l - sent) h) in
    let s = scaled (a - b) q r u ((u * (r - q) + (r - 1)) / r) (omega arith) (jumps (l - sent) q r (a - b) h j) (rise-enough u q r h) in
    adds a b u (((u * (r - q) + (r - 1)) / r) * 512_000_000_000) s
  where
    adds : (a b u n : ℕ) → (a - b) * u ≤ n → a * u ≤ b * u + n
    adds a b u n h = omega (arith, h, spent u a b (a - b) (omega arith))

credit-changes : (u q r l : ℕ) (x : Entry) → credit r l x * u ≤ credit q l x * u + if_open x (rise u q r) * 512_000_000_000
unfolding credit if_open rise
credit-changes u q r l free = omega arith
credit-changes u q r l (taken d) = go (ltb q r) refl
  where
    go : (b : Bool) → ltb q r ≡ b → pace_credit r l d.pace * u ≤ pace_credit q l d.pace * u + cond b ((u * (r - q) + (r - 1)) / r) 0 * 512_000_000_000
    go true e = credit-rises u q r l d.pace (ltb-true q r e)
    go false e = omega (arith, mul-le-mul_right u (credit-falls q r l d.pace (ltb-false q r e)))

-- time adds what the cap allows in it
credit-later : (r l m : ℕ) (p : Pace) → l ≤ m → pace_credit r m p ≤ (m - l) * r + pace_credit r l p
unfolding pace_credit
credit-later r l m Unsent h = omega arith
credit-later r l m (Running sent forward k turned) h = omega (arith, spent r (m - sent) (m - l) (l - sent) (omega arith))

-- a cell at t uses one
credit-sent : (r l t : ℕ) (p : Pace) → 1 ≤ r → l ≤ t → open_from (gap r) 0 p ≤ t → 512_000_000_000 ≤ (t - l) * r + pace_credit r l p
unfolding pace_credit open_from
credit-sent r l t Unsent z h k = omega arith
credit-sent r l t (Running sent forward n turned) z h k =
    omega (arith, gap-enough r z, spent r (gap r) (t - l) (l - sent) (omega arith))

-- and leaves none
credit-none : (r t : ℕ) (p : Pace) → open_from (gap r) 0 p ≡ t + gap r → open_from (gap r) (t + gap r + 1) p ≡ t + gap r → pace_credit r t p ≡ 0
unfolding pace_credit open_from
credit-none r t Unsent e q = absurd (omega arith)
credit-none r t (Running sent forward k turned) e q = none (t - sent) (omega arith)
  where
    none : (d : ℕ) → d ≡ 0 → min 512_000_000_000 (d * r) ≡ 0
    none d z = rw z (omega arith)

silent-sum :
    (u n car old now later dt ob os rr rs : ℕ) → n * u * 512_000_000_000 ≤ car * u + later * u + (os * u + rs) * 512_000_000_000 → later ≤ dt + now + ob * 512_000_000_000
    → now * u ≤ old * u + rr * 512_000_000_000 → n * u * 512_000_000_000 ≤ (dt + car) * u + old * u + ((ob + os) * u + (rr + rs)) * 512_000_000_000
silent-sum u n car old now later dt ob os rr rs h l k = omega (arith, h, k, mul-le-mul_right u l)

sent-sum :
    (u n car old now later dt ob os rr rs : ℕ) → n * u * 512_000_000_000 ≤ car * u + later * u + (os * u + rs) * 512_000_000_000 → later ≡ 0 → 512_000_000_000 ≤ dt + now
    → now * u ≤ old * u + rr * 512_000_000_000 → suc n * u * 512_000_000_000 ≤ (dt + car) * u + old * u + ((ob + os) * u + (rr + rs)) * 512_000_000_000
sent-sum u n car old now later dt ob os rr rs h z l k = omega (arith, h, k, mul-le-mul_right u l, ap (λ (y : ℕ). y * u) z, suc-mul n u)

module _ (v unit : ℕ) where
  abbrev Lives : (q : ℕ → ℕ) → State → List Capped → Type 0
  Lives q s xs =
      length (cells_from v s (calls_of xs)) * unit * 512_000_000_000
      ≤ carried v s xs * unit + credit (q v) s.last (find v s.entries) * unit + (opens_of v (calls_of xs) * unit + rises_of v unit q s xs) * 512_000_000_000

  module _ (q : ℕ → ℕ) (s : State) (w : WellFormed s) (x : Capped) (xs : List Capped) where
    abbrev c : Call
    c = x.call

    abbrev r : ℕ
    r = x.cap v

    abbrev next : State
    next = (step s c).state

    abbrev rest : List SentCell
    rest = cells_from v next (calls_of xs)

    abbrev here : Entry
    here = find v s.entries

    abbrev sent : List SentCell
    sent = sent_by v s c (step s c).answer

    abbrev Under : Type 0
    Under = All (λ y. y.rate ≤ r) sent

    module _ (ih : Lives x.cap next xs) where
      -- the call sends nothing on v
      silent :
          sent ≡ []
          → credit r next.last (find v next.entries) ≤ if_open here ((next.last - s.last) * r) + credit r s.last here + opens_name v (sort_of c) * 512_000_000_000
          → Lives q s (x ∷ xs)
      silent n l =
          subst
          (λ (ys : List SentCell). length (ys ++ rest) * unit * 512_000_000_000 ≤ carried v s (x ∷ xs) * unit + credit (q v) s.last here * unit + (opens_of v (calls_of (x ∷ xs)) * unit + rises_of v unit q s (x ∷ xs)) * 512_000_000_000)
          (sym n)
          (silent-sum unit (length rest) (carried v next xs) (credit (q v) s.last here) (credit r s.last here) (credit r next.last (find v next.entries))
          (if_open here ((next.last - s.last) * r)) (opens_name v (sort_of c)) (opens_of v (calls_of xs)) (if_open here (rise unit (q v) r)) (rises_of v unit x.cap next xs) ih l
          (credit-changes unit (q v) r s.last here))

      closed-step : here ≡ free → Lives q s (x ∷ xs)
      unfolding credit if_open
      closed-step f = silent (sends_none v (step-sends w c) f) (rw f (go (step-later v w c f)))
        where
          go : Later v c (find v next.entries) → credit r next.last (find v next.entries) ≤ 0 + 0 + opens_name v (sort_of c) * 512_000_000_000
          go (absent e) = rw e (omega arith)
          go (begun d e p o) = rw (e, o) (omega (arith, credit-least r next.last d.pace))

      open_step : (d : Connection) → here ≡ taken d → Under → Lives q s (x ∷ xs)
      unfolding credit if_open
      open_step d f = go (effect-next v d f w.unique (effect s w.unique c))
        where
          l : s.last ≤ next.last
          l = step-last s w c

          go : Next v s d c (step s c) → Under → Lives q s (x ∷ xs)
          go (closed h) u = silent (closing-sends-none v s c (step s c).answer (is_accepted (step s c).answer) h) (rw (closed-free v c w h) (omega arith))
          go (quiet h n m y) u = silent n (rw (f, y.found, y.stays.pace) (omega (arith, credit-later r s.last next.last d.pace l)))
          go (goes t i h n m e z due y) u =
              let k : All (λ y. y.rate ≤ r) (cell_at t d ∷ []) = subst (λ (ys : List SentCell). All (λ y. y.rate ≤ r) ys) n u in
              let a = after (kind_at t d) t d in
              let o : credit r next.last (find v next.entries) ≡ 0 =
              ap (credit r next.last) y.found ∙ (ap (pace_credit r next.last) y.stays.pace
              ∙ (ap (λ (j : ℕ). pace_credit r j a.pace) e ∙ credit-none r t a.pace (after-from (gap r) 0 t d) (after-from (gap r) (t + gap r + 1) t d))) in
              let j : credit r s.last here ≡ pace_credit r s.last d.pace = ap (credit r s.last) f in
              let p : if_open here ((next.last - s.last) * r) ≡ (t - s.last) * r =
              ap (λ (x : Entry). if_open x ((next.last - s.last) * r)) f ∙ ap (λ (b : ℕ). (b - s.last) * r) e in
              let b = credit-sent r s.last t d.pace (omega (arith, (ready-some d i z).0, k.0)) m.since (le_trans (not-before d i r z k.0) due) in
              subst
              (λ (ys : List SentCell). length (ys ++ rest) * unit * 512_000_000_000 ≤ carried v s (x ∷ xs) * unit + credit (q v) s.last here * unit + (opens_of v (calls_of (x ∷ xs)) * unit + rises_of v unit q s (x ∷ xs)) * 512_000_000_000)
              (sym n)
              (sent-sum unit (length rest) (carried v next xs) (credit (q v) s.last here) (credit r s.last here) (credit r next.last (find v next.entries))
              (if_open here ((next.last - s.last) * r)) (opens_name v (sort_of c)) (opens_of v (calls_of xs)) (if_open here (rise unit (q v) r)) (rises_of v unit x.cap next xs) ih o
              (omega (arith, j, p, b)) (credit-changes unit (q v) r s.last here))

  lives : (xs : List Capped) (q : ℕ → ℕ) (s : State) → WellFormed s → AllUnder v s xs → Lives q s xs
  lives [] q s w u = omega arith
  lives (x ∷ xs) q s w u = go (find v s.entries) refl (lives xs x.cap (step s x.call).state (step-well-formed w x.call) u.1)
    where
      go : (y : Entry) → find v s.entries ≡ y → Lives x.cap (step s x.call).state xs → Lives q s (x ∷ xs)
      go free f ih = closed-step q s w x xs ih f
      go (taken d) f ih = open_step q s w x xs ih d f u.0

one-counted :
    (s : State) → WellFormed s → (v u : ℕ) (q : ℕ → ℕ) (xs : List Capped) → AllUnder v s xs
    → length (cells_from v s (calls_of xs)) * u * 512_000_000_000 ≤ carried v s xs * u + ahead v u q s xs * 512_000_000_000
one-counted s w v u q xs h = omega (arith, lives v u xs q s w h, mul-le-mul_right u (credit-open (q v) s.last (find v s.entries)), add-mul (is_open s v) (opens_of v (calls_of xs)) u)

-- All connections.
held-under : (vs : List ℕ) (v : ℕ) (s : State) (xs : List Capped) → CapsHeld vs s xs → AllUnder v s xs
held-under vs v s [] h = tt
held-under vs v s (x ∷ xs) h = (call-rates vs x.cap v s x.call (step s x.call).answer h.0, held-under vs v (step s x.call).state xs h.1)

caps-sent-in :
    (vs : List ℕ) (s : State) → WellFormed s → (xs : List Capped) → CapsHeld vs s xs → length (slots_sent s (calls_of xs)) ≤ total (λ v. length (cells_from v s (calls_of xs))) vs
caps-sent-in vs s w [] h = omega arith
caps-sent-in vs s w (x ∷ xs) h =
    let c = x.call in
    let cs = calls_of xs in
    let n = (step s c).state in
    let rest = caps-sent-in vs n (step-well-formed w c) xs h.1 in
    rw (length-append (time_sent (sort_of c) (goes_to (step s c).answer)) (slots_sent n cs))
    (le_trans (omega (arith, rest, call-in s c vs x.cap h.0 (step-sends w c)))
    (total-add (λ v. length (sent_by v s c (step s c).answer)) (λ v. length (cells_from v n cs)) (λ v. length (cells_from v s (c ∷ cs)))
    (λ v. le_of_eq (sym (length-append (sent_by v s c (step s c).answer) (cells_from v n cs)))) vs))

pub total-sum : (f g : ℕ → ℕ) (us : List ℕ) → total (λ v. f v + g v) us ≡ total f us + total g us
total-sum f g [] = omega arith
total-sum f g (u ∷ us) = omega (arith, total-sum f g us)

open-times : (x : Entry) (d q : ℕ) → if_open x (d * q) ≡ d * if_open x q
unfolding if_open
open-times free d q = omega arith
open-times (taken c) d q = refl

total-times : (s : State) (r : ℕ → ℕ) (d : ℕ) (vs : List ℕ) → total (λ v. if_open (find v s.entries) (d * r v)) vs ≡ d * open_rates vs r s
total-times s r d [] = omega arith
total-times s r d (v ∷ vs) = omega (arith, open-times (find v s.entries) d (r v), total-times s r d vs, mul-add d (if_open (find v s.entries) (r v)) (open_rates vs r s))

carried-fits :
    (vs : List ℕ) (S : ℕ) (xs : List Capped) (s : State) → WellFormed s → CapsFit vs S s xs
    → total (λ v. carried v s xs) vs * S ≤ ((final s (calls_of xs)).last - s.last) * 512_000_000_000
carried-fits vs S [] s w h = omega (arith, none vs)
  where
    none : (us : List ℕ) → total (λ v. 0) us * S ≡ 0
    none [] = omega arith
    none (u ∷ us) = omega (arith, none us)
carried-fits vs S (x ∷ xs) s w h =
    let c = x.call in
    let n = (step s c).state in
    let d = n.last - s.last in
    let u = total-sum (λ v. if_open (find v s.entries) (d * x.cap v)) (λ v. carried v n xs) vs in
    let e = total-times s x.cap d vs in
    omega (
      arith,
      passes s.last n.last (open_rates vs x.cap s) S (λ l. omega (arith, h.0 l)),
      carried-fits vs S xs n (step-well-formed w c) h.1,
      step-last s w c,
      final-last n (step-well-formed w c) (calls_of xs),
      add-mul (d * open_rates vs x.cap s) (total (λ v. carried v n xs) vs) S,
      ap (λ (z : ℕ). z * S) (u ∙ ap (λ (z : ℕ). z + total (λ v. carried v n xs) vs) e),
    )

pub total_right : (f : ℕ → ℕ) (u : ℕ) (vs : List ℕ) → total (λ v. f v * u) vs ≡ total f vs * u
total_right f u [] = omega arith
total_right f u (v ∷ vs) = omega (arith, total_right f u vs, add-mul (f v) (total f vs) u)

pub caps-together :
    (s : State) → WellFormed s → (vs : List ℕ) (q : ℕ → ℕ) (S : ℕ) (xs : List Capped) → CapsHeld vs s xs → CapsFit vs S s xs
    → length (slots_sent s (calls_of xs)) * S ≤ ((final s (calls_of xs)).last - s.last) + total (λ v. ahead v S q s xs) vs
caps-together s w vs q S xs h f =
    let cs = calls_of xs in
    let n : ℕ → ℕ = λ v. length (cells_from v s cs) in
    let o = total-over (λ v. n v * S) (λ v. carried v s xs * S) (λ v. ahead v S q s xs) 512_000_000_000 (λ v. one-counted s w v S q xs (held-under vs v s xs h)) vs in
    le_trans (mul-le-mul_right S (caps-sent-in vs s w xs h))
    (cancelled (total n vs * S) (total (λ v. n v * S) vs) (total (λ v. carried v s xs) vs * S) (total (λ v. carried v s xs * S) vs) (total (λ v. ahead v S q s xs) vs) ((final s cs).last - s.last)
    (total_right n S vs) (total_right (λ v. carried v s xs) S vs) o (carried-fits vs S xs s w f))
  where
    cancelled : (n m c d k x : ℕ) → m ≡ n → d ≡ c → m * 512_000_000_000 ≤ d + k * 512_000_000_000 → c ≤ x * 512_000_000_000 → n ≤ x + k
    cancelled n m c d k x e f h l = omega arith

pub caps-counted : CapsCounted
caps-counted cs = let s = final empty cs in let w = reached-well-formed cs in record {
  one = λ v u q xs h. one-counted s w v u q xs h;
  all = λ vs q S xs h f. caps-together s w vs q S xs h f;
}
