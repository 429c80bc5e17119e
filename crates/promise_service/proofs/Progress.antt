-- What kinds of cell follow each other on one connection.
use Prim.Native.Nat.{ℕ, ◌+◌, ◌-◌, ◌≤◌, ◌<◌}
use mathlib.Core.Path.{◌≡◌, refl, sym, ap, subst, ◌∙◌}
use mathlib.Core.Logic.{◌≢◌, by_cases}
use mathlib.Core.Bool.{Bool, true, false, cond, ◌&&◌, ◌||◌, not, true≢false}
use mathlib.Core.List.{List, [], ◌∷◌, ◌++◌}
use mathlib.Core.Option.{some}
use native.Mathlib.Decide.{dec_lt}
use lib.Pow.{pow_mono}
use native.Mathlib.Omega.{arith}
use lib.Dec.{leb, eqb}
use lib.ListN.{length}
use borrow.Author.Tests.{eq-eqb, ne_eqb, eqb-true, eqb-false, lt-leb}
use Rattle.rate_params.specs.declared.params.Params.{Params}
use Rattle.rate_params.specs.Params.{nrm}
use Rattle.rate_params.proofs.Ranges.{fits}
use Rattle.connection.specs.declared.parts.Connection.{Connection}
use Rattle.connection.specs.declared.parts.Pace.{Pace}
use Rattle.connection.specs.declared.parts.Pace.TheVariants.{Unsent, Running}
use Rattle.connection.specs.declared.kind.Kind.{Kind}
use Rattle.connection.specs.declared.kind.Kind.TheVariants.{Forward, Turned, Data}
use Rattle.connection.specs.Parts.{fresh, waiting, with_queue, dequeued}
use Rattle.connection.specs.Invariant.{PaceFits}
use Rattle.connection.specs.Pace.{paced}
use Rattle.connection.specs.Source.{offered, after_out_of_rate, sent_forward, sent_data, with_served}
use Rattle.connection.specs.Destination.{with_made, after_data_cell, sent_turned}
use Rattle.connection.specs.Received.{after_rm_cell}
use Rattle.connection.specs.Slot.{after}
use Rattle.connection.specs.Ready.{backward_waits}
use Rattle.connection.specs.Kind.{is_forward, is_turned, kind_at}
use Rattle.connection.proofs.Keeps.{work-same, after_same}
use Rattle.model.specs.State.{State, Entry, free, taken, empty, find, entry_cells}
use Rattle.model.specs.Invariant.{OnEntry, WellFormed}
use Rattle.model.specs.Answers.{Answer, Refused, Accepted, Closed, Idle, Sent}
use Rattle.model.specs.Call.{Call, goes_to}
use Rattle.model.specs.Step.{step}
use Rattle.model.specs.Run.{final}
use Rattle.model.proofs.Preserved.{valid-at}
use Rattle.model.proofs.Reached.{step-well-formed, reached-well-formed}
use Rattle.laws.specs.All.{All}
use Rattle.promise_service.specs.Liveness.{Somewhere, here, there}
use Rattle.promise_service.specs.Progress.{OwnCell, entry_answers, own_cell, cells_sent, NoClose, turned_kind, turned_among, Progresses}
use Rattle.promise_service.proofs.Counted.{work-pace}
use Rattle.promise_service.proofs.Becomes.{Becomes, unchanged, entry_opened, entry_closed, data_offered, member_removed, data_received, rm_received, made_waits, out_of_rate_gone, cell_sent, becomes, always}

-- where a connection stands between its forward cells: before the first, or k cells after the last, with or
-- without a turned one among them
data Place : Type 0 where
  unsent : Place
  since : (k : ℕ) (turned : Bool) → Place

abbrev place : Pace → Place
place Unsent = unsent
place (Running sent forward k turned) = since k turned

-- a cell x that is sent from one place leaves it at another
data Goes (n : ℕ) : Place → OwnCell → Place → Type 0 where
  first : {x : OwnCell} → x.kind ≡ Forward → Goes n unsent x (since 0 false)
  forward : {x : OwnCell} {k : ℕ} {b : Bool} → x.kind ≡ Forward → (k < 2 → k ≡ n - 1) → Goes n (since k b) x (since 0 false)
  turned : {x : OwnCell} {k j : ℕ} {b c : Bool} → x.kind ≡ Turned → x.answers ≡ true → (b ≡ true → x.waiting ≡ 0) → j ≡ k + 1 → c ≡ true → Goes n (since k b) x (since j c)
  plain : {x : OwnCell} {k j : ℕ} {b c : Bool} → x.kind ≡ Data → k ≢ n - 1 → (b ≡ false → x.answers ≡ false) → j ≡ k + 1 → c ≡ b → Goes n (since k b) x (since j c)

-- cells in a row
data Row (n : ℕ) : Place → List OwnCell → Type 0 where
  end : {p : Place} → Row n p []
  next : {p q : Place} {x : OwnCell} {xs : List OwnCell} → Goes n p x q → Row n q xs → Row n p (x ∷ xs)

abbrev DataWaits : List OwnCell → Type 0
DataWaits xs = All (λ x. 0 < x.waiting) xs

-- At most one turned cell while data waits.
none-turned : (n : ℕ) {k : ℕ} {b : Bool} {xs : List OwnCell} → Row n (since k b) xs → b ≡ true → DataWaits xs → All (λ x. x.kind ≢ Forward) xs → turned_among xs ≡ 0
unfolding turned_among turned_kind
none-turned n end q w f = refl
none-turned n (next (forward e l) r) q w f = absurd (f.0 e)
none-turned n (next (turned e a l j c) r) q w f = absurd (omega (arith, l q, w.0))
none-turned n (next (plain e h l j c) r) q w f = rw e (omega (arith, none-turned n r (c ∙ q) w.1 f.1))

one-turned : (n : ℕ) {p : Place} {xs : List OwnCell} → Row n p xs → DataWaits xs → All (λ x. x.kind ≢ Forward) xs → turned_among xs ≤ 1
unfolding turned_among turned_kind
one-turned n end w f = omega arith
one-turned n (next (first e) r) w f = absurd (f.0 e)
one-turned n (next (forward e l) r) w f = absurd (f.0 e)
one-turned n (next (turned e a l j c) r) w f = rw e (omega (arith, none-turned n r c w.1 f.1))
one-turned n (next (plain e h l j c) r) w f = rw e (omega (arith, one-turned n r w.1 f.1))

-- Data from Nrm 4 on: one of two after a forward cell, of three after a turned one, of four.
abbrev HasData : List OwnCell → Type 0
HasData xs = Somewhere (λ x. x.kind ≡ Data) xs

data-next : (n : ℕ) → 4 ≤ n → {k : ℕ} {b : Bool} {xs : List OwnCell} → Row n (since k b) xs → k ≤ 1 → b ≡ true → DataWaits xs → 1 ≤ length xs → HasData xs
data-next n g end z q w h = absurd (omega (arith, h))
data-next n g (next (forward e l) r) z q w h = absurd (omega (arith, l (omega (arith, z)), z, g))
data-next n g (next (turned e a l j c) r) z q w h = absurd (omega (arith, l q, w.0))
data-next n g (next (plain e m l j c) r) z q w h = here e

data-after-forward : (n : ℕ) → 4 ≤ n → {xs : List OwnCell} → Row n (since 0 false) xs → DataWaits xs → 2 ≤ length xs → HasData xs
data-after-forward n g end w h = absurd (omega (arith, h))
data-after-forward n g (next (forward e l) r) w h = absurd (omega (arith, l (omega arith), g))
data-after-forward n g (next (turned e a l j c) r) w h = there (data-next n g r (omega (arith, j)) c w.1 (omega (arith, h)))
data-after-forward n g (next (plain e m l j c) r) w h = here e

data-after-turned : (n : ℕ) → 4 ≤ n → {k : ℕ} {b : Bool} {xs : List OwnCell} → Row n (since k b) xs → b ≡ true → DataWaits xs → 3 ≤ length xs → HasData xs
data-after-turned n g end q w h = absurd (omega (arith, h))
data-after-turned n g (next (forward e l) r) q w h = there (data-after-forward n g r w.1 (omega (arith, h)))
data-after-turned n g (next (turned e a l j c) r) q w h = absurd (omega (arith, l q, w.0))
data-after-turned n g (next (plain e m l j c) r) q w h = here e

data-of-four : (n : ℕ) → 4 ≤ n → {p : Place} {xs : List OwnCell} → Row n p xs → DataWaits xs → 4 ≤ length xs → HasData xs
data-of-four n g end w h = absurd (omega (arith, h))
data-of-four n g (next (first e) r) w h = there (data-after-forward n g r w.1 (omega (arith, h)))
data-of-four n g (next (forward e l) r) w h = there (data-after-forward n g r w.1 (omega (arith, h)))
data-of-four n g (next (turned e a l j c) r) w h = there (data-after-turned n g r c w.1 (omega (arith, h)))
data-of-four n g (next (plain e m l j c) r) w h = here e

-- Data alone: no two forward cells in a row.
abbrev NoAnswers : List OwnCell → Type 0
NoAnswers xs = All (λ x. x.answers ≡ false) xs

no_both : {A : Type 0} (b : Bool) → b ≡ true → b ≡ false → A
no_both b t f = absurd (true≢false (sym t ∙ f))

data-only : (n : ℕ) → 2 ≤ n → {xs : List OwnCell} → Row n (since 0 false) xs → NoAnswers xs → 1 ≤ length xs → HasData xs
data-only n g end z h = absurd (omega (arith, h))
data-only n g (next (forward e l) r) z h = absurd (omega (arith, l (omega arith), g))
data-only n g (next (turned e a l j c) r) z h = no_both _ a z.0
data-only n g (next (plain e m l j c) r) z h = here e

data-of-two : (n : ℕ) → 2 ≤ n → {p : Place} {xs : List OwnCell} → Row n p xs → NoAnswers xs → 2 ≤ length xs → HasData xs
data-of-two n g end z h = absurd (omega (arith, h))
data-of-two n g (next (first e) r) z h = there (data-only n g r z.1 (omega (arith, h)))
data-of-two n g (next (forward e l) r) z h = there (data-only n g r z.1 (omega (arith, h)))
data-of-two n g (next (turned e a l j c) r) z h = no_both _ a z.0
data-of-two n g (next (plain e m l j c) r) z h = here e

-- Answers: the first cell after a forward one, if no turned one went since, is turned; so of Nrm one is.
abbrev AnswerWaits : List OwnCell → Type 0
AnswerWaits xs = All (λ x. x.answers ≡ true) xs

abbrev HasTurned : List OwnCell → Type 0
HasTurned xs = Somewhere (λ x. x.kind ≡ Turned) xs

answer-next : (n : ℕ) → 2 ≤ n → {xs : List OwnCell} → Row n (since 0 false) xs → AnswerWaits xs → 1 ≤ length xs → HasTurned xs
answer-next n g end z h = absurd (omega (arith, h))
answer-next n g (next (forward e l) r) z h = absurd (omega (arith, l (omega arith), g))
answer-next n g (next (turned e a l j c) r) z h = here e
answer-next n g (next (plain e m l j c) r) z h = no_both _ z.0 (l refl)

-- k is below Nrm, and a turned cell since the last forward one is one of the k
abbrev Counted : (n : ℕ) → Place → Type 0
Counted n unsent = Unit
Counted n (since k b) = (k < n) × (b ≡ true → 1 ≤ k)

below_last : (k n : ℕ) → k < n → k ≢ n - 1 → k + 1 < n
below_last k n u m = by_cases (dec_lt (k + 1) n) (λ l. l) (λ l. absurd (m (omega (arith, u, l))))

answer-again : (n : ℕ) → 2 ≤ n → {k : ℕ} {b : Bool} {xs : List OwnCell} → Row n (since k b) xs → k < n → 1 ≤ k → b ≡ true → AnswerWaits xs → n + 1 ≤ length xs + k → HasTurned xs
answer-again n g end u v q z h = absurd (omega (arith, h, u))
answer-again n g (next (forward e l) r) u v q z h = there (answer-next n g r z.1 (omega (arith, h, u)))
answer-again n g (next (turned e a l j c) r) u v q z h = here e
answer-again n g (next (plain e m l j c) r) u v q z h = there (answer-again n g r (omega (arith, below_last _ n u m, j)) (omega (arith, j)) (c ∙ q) z.1 (omega (arith, h, j)))

answer-from : (n : ℕ) → 2 ≤ n → {k : ℕ} (b : Bool) {xs : List OwnCell} → Row n (since k b) xs → k < n → (b ≡ true → 1 ≤ k) → AnswerWaits xs → n ≤ length xs → HasTurned xs
answer-from n g true r u v z h = answer-again n g r u (v refl) refl z (omega (arith, v refl, h))
answer-from n g false end u v z h = absurd (omega (arith, h, u))
answer-from n g false (next (forward e l) r) u v z h = there (answer-next n g r z.1 (omega (arith, h, g)))
answer-from n g false (next (turned e a l j c) r) u v z h = here e
answer-from n g false (next (plain e m l j c) r) u v z h = no_both _ z.0 (l refl)

answer-of : (n : ℕ) → 2 ≤ n → (p : Place) {xs : List OwnCell} → Row n p xs → Counted n p → AnswerWaits xs → n ≤ length xs → HasTurned xs
answer-of n g unsent end u z h = absurd (omega (arith, h, g))
answer-of n g unsent (next (first e) r) u z h = there (answer-next n g r z.1 (omega (arith, h, g)))
answer-of n g (since k b) r u z h = answer-from n g b r u.0 u.1 z h

-- The kind that a connection sends is such a step.
due-last : (x y z : Bool) → (x || (y && z)) ≡ true → y ≡ false → x ≡ true
due-last true y z e q = refl
due-last false true z e q = absurd (true≢false q)
due-last false false z e q = absurd (true≢false (sym e))

not_last : (x y : Bool) → (x || y) ≡ false → x ≡ false
not_last true y e = e
not_last false y e = refl

answers-wait : (a x y : Bool) → (a && (not x || y)) ≡ true → (a ≡ true) × (x ≡ true → y ≡ true)
answers-wait true true y e = (refl, λ _. e)
answers-wait true false y e = (refl, λ q. absurd (true≢false (sym q)))
answers-wait false x y e = absurd (true≢false (sym e))

no_answer : (a x y : Bool) → (a && (not x || y)) ≡ false → x ≡ false → a ≡ false
no_answer true true y e q = absurd (true≢false q)
no_answer true false y e q = e
no_answer false x y e q = refl

or-true : (b : Bool) → (b || true) ≡ true
or-true true = refl
or-true false = refl

or-false : (b : Bool) → (b || false) ≡ b
or-false true = refl
or-false false = refl

module _ (t : ℕ) (d : Connection) where
  abbrev sent_cell : Kind → OwnCell
  sent_cell k = record { kind = k; waiting = waiting d.queue; answers = backward_waits d.destination }

  goes-forward : (p : Pace) → is_forward t d p ≡ true → Goes (nrm d.rate.params) (place p) (sent_cell Forward) (since 0 false)
  unfolding is_forward
  goes-forward Unsent e = first refl
  goes-forward (Running sent f k b) e = forward refl (λ l. eqb-true k _ (due-last (eqb k (nrm d.rate.params - 1)) (leb 2 k) (leb (f + d.trm) t) e (lt-leb 2 k l)))

  goes-turned : (p : Pace) → is_forward t d p ≡ false → is_turned d p ≡ true → Goes (nrm d.rate.params) (place p) (sent_cell Turned) (place (paced t true p))
  unfolding is_forward is_turned paced
  goes-turned Unsent e h = absurd (true≢false e)
  goes-turned (Running sent f k b) e h =
      let a = answers-wait (backward_waits d.destination) b (eqb (waiting d.queue) 0) h in
      turned refl a.0 (λ q. eqb-true _ _ (a.1 q)) refl (or-true b)

  goes-data : (p : Pace) → is_forward t d p ≡ false → is_turned d p ≡ false → Goes (nrm d.rate.params) (place p) (sent_cell Data) (place (paced t false p))
  unfolding is_forward is_turned paced
  goes-data Unsent e h = absurd (true≢false e)
  goes-data (Running sent f k b) e h =
      plain refl (eqb-false k _ (not_last (eqb k (nrm d.rate.params - 1)) (leb 2 k && leb (f + d.trm) t) e))
      (no_answer (backward_waits d.destination) b (eqb (waiting d.queue) 0) h) refl (or-false b)

  kind-goes : Goes (nrm d.rate.params) (place d.pace) (sent_cell (kind_at t d)) (place (after (kind_at t d) t d).pace)
  unfolding kind_at after sent_forward sent_turned sent_data
  kind-goes = go (is_forward t d d.pace) (is_turned d d.pace) refl refl
    where
      go : (x y : Bool) → is_forward t d d.pace ≡ x → is_turned d d.pace ≡ y
          → let k = cond x Forward (cond y Turned Data) in Goes (nrm d.rate.params) (place d.pace) (sent_cell k) (place (after k t d).pace)
      go true y e h = goes-forward d.pace e
      go false true e h = goes-turned d.pace e h
      go false false e h = goes-data d.pace e h

-- what a call makes of the connection d, with the cells that it sends on it
data MovedTo (d : Connection) : List OwnCell → Entry → Type 0 where
  quiet : (e : Connection) → e.rate.params ≡ d.rate.params → e.pace ≡ d.pace → MovedTo d [] (taken e)
  sent : (x : OwnCell) (e : Connection) → e.rate.params ≡ d.rate.params → Goes (nrm d.rate.params) (place d.pace) x (place e.pace) → MovedTo d (x ∷ []) (taken e)

abbrev MovedAt : Entry → List OwnCell → Entry → Type 0
MovedAt free zs y = Unit
MovedAt (taken d) zs y = MovedTo d zs y

no_own : (v : ℕ) (x : Entry) (a : Answer) → goes_to a ≢ some v → own_cell v x a ≡ []
unfolding goes_to own_cell
no_own v x (Refused n) h = refl
no_own v x (Accepted n) h = refl
no_own v x (Closed n k) h = refl
no_own v x Idle h = refl
no_own v x (Sent u y k a n) h = rw (ne_eqb u v (λ e. h (ap some e))) refl

at_rest : (x : Entry) → MovedAt x [] x
at_rest free = tt
at_rest (taken d) = quiet d refl refl

moved_at : (v : ℕ) (x y : Entry) (c : Call) (a : Answer) → Becomes v x c a y → NoClose v c → MovedAt x (own_cell v x a) y
unfolding offered after_data_cell with_made after_out_of_rate with_served own_cell entry_cells entry_answers
moved_at v x y c a (unchanged h) u = subst (λ (zs : List OwnCell). MovedAt x zs x) (sym (no_own v x a h)) (at_rest x)
moved_at v x y c a (entry_opened t n p) u = tt
moved_at v x y c a (entry_closed e) u = absurd (u e)
moved_at v x y c a (data_offered {d} n j) u = quiet (offered n d) refl refl
moved_at v x y c a (member_removed {d} n e) u = quiet (with_queue d (dequeued n d.queue)) refl refl
moved_at v x y c a (data_received {d} e j) u = quiet (after_data_cell e d) refl refl
moved_at v x y c a (rm_received {d} {o} level j f r e) u = quiet (after_rm_cell level o f d) (work-same level o f d).params (work-pace level o f d)
moved_at v x y c a (made_waits {d} t level j h) u = quiet (with_made t level d) refl refl
moved_at v x y c a (out_of_rate_gone {d} t j) u = quiet (after_out_of_rate t d) refl refl
moved_at v x y c a (cell_sent {d} {t} i m r l) u = rw (eq-eqb v v refl) (sent (sent_cell t d (kind_at t d)) (with_served m (after (kind_at t d) t d)) (after_same (kind_at t d) t d).params (kind-goes t d))

row-run : (v : ℕ) {s : State} → WellFormed s → (ds : List Call) → All (NoClose v) ds → (d : Connection) → find v s.entries ≡ taken d → Row (nrm d.rate.params) (place d.pace) (cells_sent v s ds)
row-run v w [] u d f = end
row-run v {s} w (c ∷ cs) u d f =
    subst (λ (x : Entry). Row (nrm d.rate.params) (place d.pace) (own_cell v x (step s c).answer ++ cells_sent v (step s c).state cs)) (sym f)
    (go _ (find v (step s c).state.entries) (subst (λ (x : Entry). MovedAt x (own_cell v x (step s c).answer) (find v (step s c).state.entries)) f (moved_at v _ _ c _ (becomes v s w.unique c) u.0))
    (λ e h. row-run v {s = (step s c).state} (step-well-formed w c) cs u.1 e h))
  where
    rest : List OwnCell
    rest = cells_sent v (step s c).state cs

    go : (zs : List OwnCell) (y : Entry) → MovedTo d zs y → ((e : Connection) → y ≡ taken e → Row (nrm e.rate.params) (place e.pace) rest) → Row (nrm d.rate.params) (place d.pace) (zs ++ rest)
    go zs y (quiet e p q) k = subst (λ (x : Params). Row (nrm x) (place d.pace) rest) p (subst (λ (x : Pace). Row (nrm e.rate.params) (place x) rest) q (k e refl))
    go zs y (sent x e p g) k = next g (subst (λ (z : Params). Row (nrm z) (place e.pace) rest) p (k e refl))

-- a turned cell since the last forward one is one of the cells since then
abbrev TurnedSince : Pace → Type 0
TurnedSince Unsent = Unit
TurnedSince (Running i f k b) = b ≡ true → 1 ≤ k

paced-turned : (t : ℕ) (b : Bool) (p : Pace) → TurnedSince (paced t b p)
unfolding paced
paced-turned t b Unsent = tt
paced-turned t b (Running i f k x) = λ e. omega arith

sent-turned : (k : Kind) (t : ℕ) (d : Connection) → TurnedSince (after k t d).pace
unfolding after sent_forward sent_turned sent_data
sent-turned Forward t d = λ e. absurd (true≢false (sym e))
sent-turned Turned t d = paced-turned t true d.pace
sent-turned Data t d = paced-turned t false d.pace

turned-kept : (v : ℕ) (x y : Entry) (c : Call) (a : Answer) → Becomes v x c a y → OnEntry (λ d. TurnedSince d.pace) x → OnEntry (λ d. TurnedSince d.pace) y
unfolding offered after_data_cell with_made after_out_of_rate fresh with_served
turned-kept v x y c a (unchanged n) h = h
turned-kept v x y c a (entry_opened t n p) h = tt
turned-kept v x y c a (entry_closed e) h = tt
turned-kept v x y c a (data_offered n j) h = h
turned-kept v x y c a (member_removed n e) h = h
turned-kept v x y c a (data_received e j) h = h
turned-kept v x y c a (rm_received {d} {o} level j f r e) h = subst TurnedSince (sym (work-pace level o f d)) h
turned-kept v x y c a (made_waits t level j p) h = h
turned-kept v x y c a (out_of_rate_gone t j) h = h
turned-kept v x y c a (cell_sent {d} {t} i m r l) h = sent-turned (kind_at t d) t d

counted : (now n : ℕ) (p : Pace) → PaceFits now n p → TurnedSince p → Counted n (place p)
counted now n Unsent h k = tt
counted now n (Running i f j b) h k = (h.2, k)

pub progresses : Progresses
progresses cs ds v c f u =
    let s = final empty cs in
    let w = reached-well-formed cs in
    let r = row-run v w ds u c f in
    let p = c.rate.params in
    let valid = (valid-at w v c f).0 in
    let least : 1 ≤ p.n = (fits p valid.fits).n_least in
    let two : 2 ≤ nrm p = pow_mono least in
    let k = counted s.last (nrm p) c.pace valid.paced (always (λ d. TurnedSince d.pace) (record { each = turned-kept }) v cs c f) in
    record {
      one_turned = λ h g. one-turned (nrm p) r h g;
      data_sent = λ l h g. data-of-four (nrm p) (pow_mono l) r h g;
      data_alone = λ z g. data-of-two (nrm p) two r z g;
      answer_sent = λ h g. answer-of (nrm p) two (place c.pace) r k h g;
    }
