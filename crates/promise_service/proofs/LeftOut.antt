-- Idle slots can be left out. Each call does the same on two tables that differ only in the last accepted time, if
-- its own time is before neither.
use Prim.Native.Nat.{ℕ, ◌≤◌, max}
use mathlib.Core.Path.{◌≡◌, refl, sym, ap, subst, ◌∙◌}
use mathlib.Core.Bool.{Bool, true, false, cond, true≢false}
use mathlib.Core.List.{List, [], ◌∷◌}
use native.Mathlib.Omega.{arith}
use lib.Dec.{leb}
use borrow.Author.Tests.{leb-true, leb-false, le-leb, lt-leb}
use Rattle.laws.specs.Require.{require}
use Rattle.rate_params.specs.declared.params.Params.{Params}
use Rattle.cell.specs.Read.{Reading, Refused as Unread, DataCell, RmCell}
use Rattle.cell.specs.Reading.{reading}
use Rattle.connection_members.specs.Path.{path_vci}
use Rattle.connection.specs.declared.parts.Connection.{Connection}
use Rattle.model.specs.State.{State, Entry, free, taken, find, with_entry_of, with_opened, room_left, with_time, with_level, with_members, empty}
use Rattle.model.specs.Invariant.{WellFormed}
use Rattle.model.specs.Answers.{Answer, Idle}
use Rattle.model.specs.Winner.{Winner, none_ready, wins, winner}
use Rattle.model.specs.Call.{Call, opening, closing, receiving, offering, levelling, slot, making, out_of_rate, opening_path, adding, offering_member, removing, Outcome}
use Rattle.model.specs.Step.{refuse, accept, replay, discard, of_open, open_address, open_step, open_path_step, close_step, offer_step, with_offer, without_one, add_step, of_member, offer_member_step, remove_step, data_cell_step, read_step, receive_step, level_step, send_from, send_step, idle_step, serve_entry, serve, slot_step, make_step, send_out_of_rate, out_of_rate_step, step}
use Rattle.model.specs.Run.{run, final}
use Rattle.model.proofs.Effects.{Effect, refuses, idles, sends, effect}
use Rattle.model.proofs.Reached.{step-well-formed, reached-well-formed}
use Rattle.model.proofs.Shown.{Shown, refusing, accepting, discarding, idling, serving, serving_out_of_rate, shown}
use Rattle.laws.specs.All.{All}
use Rattle.promise_lists.specs.Demand3.{InPlace}
use Rattle.promise_service.specs.LeftOut.{NotBefore, SameBehind, SameButTime, is_idle, awake, not_idle, InOrder, LeftOut}

pub same-time : (s : State) (y : ℕ) → y ≡ s.last → s ≡ with_time y s
unfolding with_time
same-time s y e = rw e refl

serve-last : (s : State) (t : ℕ) (w : Winner) → (serve (with_time t s) t w).state.last ≡ t
unfolding serve serve_entry idle_step send_step send_from with_time with_entry_of with_members
serve-last s t none_ready = refl
serve-last s t (wins i v) = go (find v s.entries)
  where
    go : (x : Entry) → (serve_entry (with_time t s) t v x).state.last ≡ t
    go free = refl
    go (taken c) = refl

kept-time : (n : ℕ) (s : State) → (with_time n s).last ≡ n
unfolding with_time
kept-time n s = refl

is-idle : (a : Answer) → a ≡ Idle → is_idle a ≡ true
unfolding is_idle
is-idle a e = ap is_idle e

module _ (x : ℕ) (s : State) where
  -- s behind an idle slot at x
  abbrev late : State
  late = with_time (max x s.last) s

  refuse-same : (n : ℕ) → SameBehind x (refuse late n) (refuse s n)
  unfolding refuse
  refuse-same n = record { answer = refl; buffer = refl; state = refl }

  require-same : (n : ℕ) (t : Bool) (o p : Outcome) → SameBehind x o p → SameBehind x (require (refuse late n) t o) (require (refuse s n) t p)
  unfolding require
  require-same n true o p h = h
  require-same n false o p h = refuse-same n

  open-same : (e : Entry) (f g : Connection → Outcome) → ((d : Connection) → SameBehind x (f d) (g d)) → SameBehind x (of_open late e f) (of_open s e g)
  unfolding of_open
  open-same free f g h = refuse-same 11
  open-same (taken d) f g h = h d

  -- the test of a time that is not before x
  timely-same : (u : ℕ) → x ≤ u → (o p : Outcome) → SameBehind x o p → SameBehind x (require (refuse late 14) (leb (max x s.last) u) o) (require (refuse s 14) (leb s.last u) p)
  timely-same u l o p h = go (leb s.last u) refl
    where
      go : (b : Bool) → leb s.last u ≡ b → SameBehind x (require (refuse late 14) (leb (max x s.last) u) o) (require (refuse s 14) (leb s.last u) p)
      go true e = rw (e, le-leb (max x s.last) u (omega (arith, leb-true s.last u e))) (require-same 14 true o p h)
      go false e = rw (e, lt-leb (max x s.last) u (omega (arith, leb-false s.last u e))) (require-same 14 false o p h)

  -- an accepted call at a time that is not before x leaves the very same
  timed-same : (u : ℕ) → x ≤ u → (o : Outcome) → o.state.last ≡ u → SameBehind x o o
  timed-same u l o e = record { answer = refl; buffer = refl; state = same-time o.state (max x o.state.last) (omega (arith, e, l)) }

  open-address-same : (vpi vci t : ℕ) (p : Params) → x ≤ t → SameBehind x (open_address late vpi vci t p) (open_address s vpi vci t p)
  unfolding open_address with_time room_left replay accept with_opened
  open-address-same vpi vci t p l =
      require-same 19 _ _ _ (require-same 7 _ _ _ (require-same 29 _ _ _ (require-same 30 _ _ _ (require-same 8 _ _ _ (require-same 12 _ _ _ (require-same 27 _ _ _ (require-same 13 _ _ _
      (timely-same t l _ _ (timed-same t l _ refl)))))))))

  read_same : (o : List ℕ) (r : Reading) → SameBehind x (read_step late o r) (read_step s o r)
  unfolding read_step data_cell_step with_time replay accept with_entry_of
  read_same o (Unread n) = refuse-same n
  read_same o (DataCell a b e) = require-same 11 _ _ _ (open-same _ _ _ (λ d. record { answer = refl; buffer = refl; state = refl }))
  read_same o (RmCell f) = open-same _ _ _ (λ d. record { answer = refl; buffer = refl; state = refl })

  pub same_step : (c : Call) → NotBefore x c → SameBehind x (step late c) (step s c)
  unfolding step open_step open_path_step close_step offer_step add_step of_member offer_member_step remove_step receive_step level_step slot_step make_step out_of_rate_step with_time with_level with_members with_entry_of replay accept discard with_offer without_one send_out_of_rate
  same_step (opening a b t p) l = require-same 10 _ _ _ (open-address-same a b t p l)
  same_step (closing a b) l = open-same _ _ _ (λ d. record { answer = refl; buffer = refl; state = refl })
  same_step (receiving o) l = read_same o (reading o)
  same_step (offering a b n) l = open-same _ _ _ (λ d. require-same 28 _ _ _ (require-same 15 _ _ _ (record { answer = refl; buffer = refl; state = refl })))
  same_step (levelling k) l = require-same 9 _ _ _ (record { answer = refl; buffer = refl; state = refl })
  same_step (slot t room) l =
      require-same 1 _ _ _ (require-same 8 _ _ _ (timely-same t l _ _ (timed-same t l (serve (with_time t s) t (winner t s.entries)) (serve-last s t (winner t s.entries)))))
  same_step (making a b t) l =
      require-same 8 _ _ _ (open-same _ _ _ (λ d. timely-same t l _ _ (require-same 16 _ _ _ (require-same 17 _ _ _ (timed-same t l _ refl)))))
  same_step (out_of_rate a b t room) l =
      require-same 1 _ _ _ (require-same 8 _ _ _ (open-same _ _ _ (λ d. timely-same t l _ _ (require-same 18 _ _ _ (timed-same t l _ refl)))))
  same_step (opening_path a t p) l = open-address-same a path_vci t p l
  same_step (adding a b) l =
      require-same 10 _ _ _ (open-same _ _ _ (λ d. require-same 12 _ _ _ (require-same 27 _ _ _ (require-same 26 _ _ _ (record { answer = refl; buffer = refl; state = refl })))))
  same_step (offering_member a b n) l = open-same _ _ _ (λ d. require-same 28 _ _ _ (require-same 15 _ _ _ (record { answer = refl; buffer = refl; state = refl })))
  same_step (removing a b) l = open-same _ _ _ (λ d. require-same 28 _ _ _ (record { answer = refl; buffer = refl; state = refl }))

same-run : (x : ℕ) (ds : List Call) (s r : State) → r ≡ with_time (max x s.last) s → All (NotBefore x) ds → InPlace (SameBehind x) (run r ds) (run s ds)
same-run x [] s r e l = tt
same-run x (c ∷ cs) s r e l =
    let h : SameBehind x (step r c) (step s c) = subst (λ (y : State). SameBehind x (step y c) (step s c)) (sym e) (same_step x s c l.0) in
    (h, same-run x cs (step s c).state (step r c).state h.state l.1)

-- an idle slot changes the last accepted time, and nothing else
pub record Rested (s : State) (o : Outcome) : Type 0 where
  pub since : s.last ≤ o.state.last
  pub state : o.state ≡ with_time o.state.last s

pub shown-idle : {s : State} {c : Call} {o : Outcome} → Shown s c o → is_idle o.answer ≡ true → Rested s o
unfolding refuse accept replay discard send_from send_step idle_step send_out_of_rate is_idle with_time
shown-idle (refusing c n h) e = absurd (true≢false (sym e))
shown-idle (accepting c n r l g) e = absurd (true≢false (sym e))
shown-idle (discarding c n x u r l i g) e = absurd (true≢false (sym e))
shown-idle (idling t room g) e = record { since = g.since; state = refl }
shown-idle (serving t room i u g b) e = absurd (true≢false (sym e))
shown-idle (serving_out_of_rate a b t room d f g) e = absurd (true≢false (sym e))

idle-time : {s : State} (t room : ℕ) {o : Outcome} → Effect s (slot t room) o → is_idle o.answer ≡ true → o.state.last ≡ t
unfolding refuse send_from send_step idle_step is_idle with_time
idle-time t room (refuses _ n h) e = absurd (true≢false (sym e))
idle-time t room (idles _ _ g b) e = refl
idle-time t room (sends _ _ i u g b) e = absurd (true≢false (sym e))

-- one more idle slot behind which the table is the same
pub rested-behind : (x : ℕ) (r s q : State) → s ≡ with_time (max x r.last) r → s.last ≤ q.last → q ≡ with_time q.last s → q ≡ with_time (max q.last r.last) r
unfolding with_time
rested-behind x r s q e l k =
    let a : s.last ≡ max x r.last = ap (λ (y : State). y.last) e in
    let b : q ≡ with_time q.last r = k ∙ ap (λ (y : State). with_time q.last y) e in
    b ∙ ap (λ (n : ℕ). with_time n r) (omega (arith, a, l))

same-all : (x : ℕ) (ds : List Call) (r s : State) → WellFormed s → s ≡ with_time (max x r.last) r → InOrder x s ds → InPlace SameButTime (not_idle (run s ds)) (run r (awake s ds))
same-all x [] r s w e l = tt
same-all x (c ∷ cs) r s w e l = go (is_idle (step s c).answer) refl (λ y r k m. same-all y cs r (step s c).state (step-well-formed w c) k m) l.1
  where
    o : Outcome
    o = step s c

    h : SameBehind x o (step r c)
    h = subst (λ (y : State). SameBehind x (step y c) (step r c)) (sym e) (same_step x r c l.0)

    at : o.state.last ≡ max x (step r c).state.last
    at = ap (λ (y : State). y.last) h.state ∙ kept-time (max x (step r c).state.last) (step r c).state

    go :
        (b : Bool) → is_idle o.answer ≡ b
        → ((y : ℕ) (r : State) → o.state ≡ with_time (max y r.last) r → InOrder y o.state cs → InPlace SameButTime (not_idle (run o.state cs)) (run r (awake o.state cs)))
        → InOrder (cond b o.state.last x) o.state cs
        → InPlace SameButTime (cond b (not_idle (run o.state cs)) (o ∷ not_idle (run o.state cs))) (run r (cond b (awake o.state cs) (c ∷ awake o.state cs)))
    go true q k m = let i = shown-idle (shown w c) q in k o.state.last r (rested-behind x r s o.state e i.since i.state) m
    go false q k m = (
      record { answer = h.answer; buffer = h.buffer; state = h.state ∙ ap (λ (n : ℕ). with_time n (step r c).state) (sym at) },
      k x (step r c).state h.state m,
    )

pub left_out : LeftOut
left_out = record {
  one = λ cs ds t room e l.
      let s = final empty cs in
      let w = reached-well-formed cs in
      let f = effect s w.unique (slot t room) in
      let q : is_idle (step s (slot t room)).answer ≡ true = is-idle _ e in
      let i = shown-idle (shown w (slot t room)) q in
      let n = idle-time t room f q in
      same-run t ds s (step s (slot t room)).state (i.state ∙ ap (λ (k : ℕ). with_time k s) (omega (arith, n, i.since))) l;
  all = λ cs ds l. let s = final empty cs in same-all 0 ds s s (reached-well-formed cs) (same-time s (max 0 s.last) (omega arith)) l;
}
