-- The data slots of a path in a list of calls are a stretch of turns among its members. These
-- turns are fair (connection_members).
use Prim.Native.Nat.{ℕ, ◌+◌, ◌≤◌, ◌<◌}
use mathlib.Core.Path.{◌≡◌, refl, sym, ap, subst, ◌∙◌}
use mathlib.Core.Logic.{◌≢◌}
use mathlib.Core.Bool.{Bool, true, false, cond, ◌&&◌, true≢false}
use mathlib.Core.List.{List, [], ◌∷◌}
use mathlib.Core.Option.{Option, none, some}
use native.Mathlib.Omega.{arith}
use lib.Dec.{eqb}
use borrow.Author.Tests.{eqb-false, eq-eqb, ne_eqb}
use Rattle.rate_params.specs.declared.params.Params.{Params}
use Rattle.cell.specs.Name.{address_name}
use Rattle.cell.specs.Fields.{cell_name}
use Rattle.connection_members.specs.Path.{path_vci, is_path, path_of}
use Rattle.connection_members.specs.Members.{Member, named, is_member, cells_of, path_cells, owner}
use Rattle.connection_members.specs.Turn.{turn, last_after}
use Rattle.connection_members.specs.Fairness.{turn_of, times_served as turns_of, BothWait}
use Rattle.connection_members.proofs.Lists.{cells-any}
use Rattle.connection_members.proofs.Turns.{turn-picks, turn-some, turn-none}
use Rattle.connection_members.proofs.Fairness.{fair as fair-turns}
use Rattle.connection.specs.declared.parts.Connection.{Connection}
use Rattle.connection.specs.declared.parts.Queue.{Queue}
use Rattle.connection.specs.declared.kind.Kind.{Kind}
use Rattle.connection.specs.declared.kind.Kind.TheVariants.{Forward, Turned, Data}
use Rattle.connection.specs.Parts.{fresh, waiting}
use Rattle.connection.specs.Source.{offered, after_out_of_rate, sent_forward, sent_data, with_served}
use Rattle.connection.specs.Destination.{with_made, after_data_cell, sent_turned}
use Rattle.connection.specs.Received.{after_rm_cell}
use Rattle.connection.specs.Slot.{after, member_served}
use Rattle.connection.specs.Kind.{kind_at}
use Rattle.connection.proofs.Keeps.{work-same, work-queue}
use Rattle.connection.proofs.Waited.{data-waits}
use Rattle.model.specs.State.{State, Entry, free, taken, is_free, empty, find, with_entry_of, with_opened, with_time, with_level, with_members}
use Rattle.model.specs.Invariant.{NamesUnique, WellFormed}
use Rattle.model.specs.Answers.{Answer, Refused, Accepted, Closed, Idle, Sent}
use Rattle.model.specs.Call.{Call, closing, slot, Outcome}
use Rattle.model.specs.Aspects.{Sort, opener, closer, arrival, slot_at, another, sort_of}
use Rattle.model.specs.Step.{refuse, accept, replay, discard, of_open, close_step, with_offer, without_one, name_answered, send_from, send_step, send_out_of_rate, idle_step, step}
use Rattle.model.specs.Run.{final, is_accepted}
use Rattle.model.specs.Conservation.{data_in}
use Rattle.model.proofs.Entries.{Case, same, other, case}
use Rattle.model.proofs.Frames.{name_of, put-read, put-kept, with-opened-read, freed-read}
use Rattle.model.proofs.Members.{path-sum}
use Rattle.model.proofs.Conservation.{cond-zero}
use Rattle.model.proofs.Effects.{OpenPassed, Effect, refuses, opens, closes, offers, receives_data, receives_rm, sets_level, idles, sends, makes, sends_out_of_rate, opens_path, adds, offers_member, removes, effect}
use Rattle.model.proofs.Reached.{step-well-formed, reached-well-formed}
use Rattle.model.proofs.Shown.{Shown, refusing, accepting, discarding, idling, serving, serving_out_of_rate, shown}
use Rattle.promise_service.specs.Fairness.{data_told, data_cells_of, BothGoOn, Stretch, Fairness, GoOn}

-- the VCI that was served last on the connection in an entry
unfoldable entry_served : Entry → ℕ
entry_served free = 0
entry_served (taken c) = c.queue.served

abbrev served_at : ℕ → State → ℕ
served_at v s = entry_served (find v s.entries)

-- a call's data slot of v, with the members as they are at it
unfoldable is_data : Kind → Bool
is_data Forward = false
is_data Turned = false
is_data Data = true

unfoldable with_slot : (v : ℕ) → Answer → List Member → List (List Member) → List (List Member)
with_slot v (Refused n) ms l = l
with_slot v (Accepted n) ms l = l
with_slot v (Closed n k) ms l = l
with_slot v Idle ms l = l
with_slot v (Sent u x k a n) ms l = cond (eqb u v && is_data k) (ms ∷ l) l

-- what the outcome of a call is to the stretch of turns l that follows it
abbrev Follows : (v x : ℕ) → State → Outcome → List (List Member) → Type 0
Follows v x s o l = data_told x o.answer + turns_of v x (served_at v o.state) l ≡ turns_of v x (served_at v s) (with_slot v o.answer s.members l)

-- Calls that are no slot leave the VCI served last.
same-turns : (v x : ℕ) (l : List (List Member)) {p q : ℕ} → p ≡ q → 0 + turns_of v x p l ≡ turns_of v x q l
same-turns v x l e = omega (arith, ap (λ (n : ℕ). turns_of v x n l) e)

kept-served :
    (v u : ℕ) (s : State) → NamesUnique s.entries → (d e : Connection) → find u s.entries ≡ taken d → e.name ≡ d.name → e.queue.served ≡ d.queue.served
    → served_at v (with_entry_of u (taken e) s) ≡ served_at v s
unfolding entry_served
kept-served v u s a d e f n h = put-kept entry_served v u s a d e f n h

opened-served : (v : ℕ) (s : State) (u t : ℕ) (p : Params) → OpenPassed s u t p → served_at v (with_opened (fresh u t p) s) ≡ served_at v s
unfolding fresh entry_served
opened-served v s u t p g = with-opened-read entry_served v s (fresh u t p) g.new g.room ∙ by (case u v)
  where
    by : Case u v → cond (eqb u v) 0 (entry_served (find v s.entries)) ≡ entry_served (find v s.entries)
    by (same q) = rw (eq-eqb u v q, ← q, g.new)
    by (other q) = rw (ne_eqb u v q)

ended-served : (v u : ℕ) (s : State) → NamesUnique s.entries → u ≢ v → served_at v (with_entry_of u free s) ≡ served_at v s
unfolding entry_served
ended-served v u s a n = freed-read entry_served v u s a ∙ rw (ne_eqb u v n)

-- Slots.
-- a slot's name is the turn's, for a pair that is no connection
told-turn : (x u : ℕ) (m : Option ℕ) → u ≢ x → cond (eqb (name_answered u m) x) 1 0 ≡ turn_of x m
unfolding name_answered turn_of
told-turn x u none n = rw (ne_eqb u x n)
told-turn x u (some y) n = refl

-- no turn on another path is this member's
another-turn : (v x u : ℕ) (m : Option ℕ) → ((y : ℕ) → m ≡ some y → path_of y ≡ u) → path_of x ≡ v → u ≢ v → turn_of x m ≡ 0
unfolding turn_of
another-turn v x u none h p n = refl
another-turn v x u (some y) h p n = rw (ne_eqb y x (λ z. n (sym (h y refl) ∙ ap path_of z ∙ p)))

-- one turn of the path's, and the turns after it
turn-then :
    (v x q r w : ℕ) (ms : List Member) (l : List (List Member)) (m : Option ℕ) → m ≡ turn v q ms → w ≡ last_after m q → r ≡ q
    → turn_of x m + turns_of v x w l ≡ turns_of v x r (ms ∷ l)
unfolding turns_of
turn-then v x q r w ms l m e g h = rw (h, g, e)

no_slot : (b : Bool) (ms : List Member) (l : List (List Member)) → cond (b && false) (ms ∷ l) l ≡ l
no_slot true ms l = refl
no_slot false ms l = refl

module _ (v x : ℕ) (s : State) (a : NamesUnique s.entries) (t u : ℕ) (d : Connection) (f : find u s.entries ≡ taken d) (p : path_of x ≡ v) (n : u ≢ x) (l : List (List Member)) where
  -- a cell that is no data cell
  other-follows :
      (e : Connection) → e.name ≡ d.name → e.queue.served ≡ d.queue.served
      → cond (eqb u x) 0 0 + turns_of v x (served_at v (with_entry_of u (taken e) s)) l ≡ turns_of v x (served_at v s) (cond (eqb u v && false) (s.members ∷ l) l)
  other-follows e q h = rw (cond-zero (eqb u x), no_slot (eqb u v) s.members l) (same-turns v x l (kept-served v u s a d e f q h))

  -- a data cell
  data-follows :
      (e : Connection) (m : Option ℕ) → e.name ≡ d.name → e.queue.served ≡ last_after m d.queue.served → m ≡ turn u d.queue.served s.members
      → cond (eqb (name_answered u m) x) 1 0 + turns_of v x (served_at v (with_entry_of u (taken e) s)) l ≡ turns_of v x (served_at v s) (cond (eqb u v && true) (s.members ∷ l) l)
  unfolding entry_served
  data-follows e m q h g = rw (told-turn x u m n, put-read entry_served v u s a d e f q) (by (case u v))
    where
      by : Case u v
          → turn_of x m + turns_of v x (cond (eqb u v) e.queue.served (served_at v s)) l ≡ turns_of v x (served_at v s) (cond (eqb u v && true) (s.members ∷ l) l)
      by (same z) =
          rw (eq-eqb u v z)
          (turn-then v x d.queue.served (served_at v s) e.queue.served s.members l m (g ∙ ap (λ (w : ℕ). turn w d.queue.served s.members) z) h
          (ap entry_served (ap (λ (w : ℕ). find w s.entries) (sym z) ∙ f)))
      by (other z) =
          rw (ne_eqb u v z, another-turn v x u m (λ y k. (turn-picks u d.queue.served s.members y (sym g ∙ k)).path) p z) (same-turns v x l refl)

  sent-follows : (k : Kind) → Follows v x s (send_step s t u d k) l
  unfolding send_step send_from member_served with_served with_members name_answered last_after after sent_forward sent_turned sent_data data_told data_in with_slot is_data
  sent-follows Forward = other-follows (with_served none (sent_forward t d)) refl refl
  sent-follows Turned = other-follows (with_served none (sent_turned t d)) refl refl
  sent-follows Data =
      let m = turn d.name d.queue.served s.members in
      data-follows (with_served m (sent_data t d)) m refl refl (ap (λ (w : ℕ). turn w d.queue.served s.members) (name_of u s d f))

-- a connection's name is no member's
open-no-member : {s : State} → WellFormed s → (u x : ℕ) (d : Connection) → find u s.entries ≡ taken d → 0 < cells_of x s.members → u ≢ x
unfolding is_free
open-no-member {s} w u x d f h e =
    true≢false (sym (w.members.no_channel x (cells-any (named x) s.members h)) ∙ ap (λ (y : ℕ). is_free (find y s.entries)) (sym e) ∙ ap is_free f)

close-accepted : (s : State) (u : ℕ) (d : Connection) → find u s.entries ≡ taken d → is_accepted (close_step s u).answer ≡ true
unfolding close_step of_open discard is_accepted
close-accepted s u d f = rw f

not-closed :
    (s : State) (a b v : ℕ) (d : Connection) → find (address_name a b) s.entries ≡ taken d → (is_accepted (step s (closing a b)).answer && eqb (address_name a b) v) ≡ false
    → address_name a b ≢ v
unfolding step
not-closed s a b v d f e = eqb-false _ _ (rw (close-accepted s (address_name a b) d f) at e)

effect-follows :
    (v x y : ℕ) {s : State} → WellFormed s → path_of x ≡ v → {c : Call} {o : Outcome} → Effect s c o → BothGoOn v x y s c → (l : List (List Member)) → Follows v x s o l
unfolding refuse accept replay discard with_level with_members with_offer without_one idle_step send_out_of_rate with_time data_told with_slot offered after_data_cell with_made after_out_of_rate
effect-follows v x y w p (refuses c n h) g l = same-turns v x l refl
effect-follows v x y {s} w p (opens a b t q z) g l = same-turns v x l (opened-served v s (address_name a b) t q z)
effect-follows v x y {s} w p (closes a b d f) g l = same-turns v x l (ended-served v (address_name a b) s w.unique (not-closed s a b v d f g))
effect-follows v x y {s} w p (offers a b n d f i h) g l = same-turns v x l (kept-served v (address_name a b) s w.unique d (offered n d) f refl refl)
effect-follows v x y {s} w p (receives_data o a b e u d r i z f) g l = same-turns v x l (kept-served v u s w.unique d (after_data_cell e d) f refl refl)
effect-follows v x y {s} w p (receives_rm o q d r f) g l =
    same-turns v x l
    (kept-served v (cell_name q) s w.unique d (after_rm_cell s.level o q d) f (work-same s.level o q d).name (ap (λ (z : Queue). z.served) (work-queue s.level o q d)))
effect-follows v x y w p (sets_level k h) g l = same-turns v x l refl
effect-follows v x y w p (idles t room z b) g l = same-turns v x l refl
effect-follows v x y {s} w p (sends t room i u z b) g l =
    sent-follows v x (with_time t s) w.unique t u b.holder b.found p (open-no-member w u x b.holder b.found g.0) l (kind_at t b.holder)
effect-follows v x y {s} w p (makes a b t d f z h m) g l =
    same-turns v x l (kept-served v (address_name a b) (with_time t s) w.unique d (with_made t s.level d) f refl refl)
effect-follows v x y {s} w p (sends_out_of_rate a b t room d f z h) g l =
    same-turns v x l (kept-served v (address_name a b) (with_time t s) w.unique d (after_out_of_rate t d) f refl refl)
effect-follows v x y {s} w p (opens_path a t q z) g l = same-turns v x l (opened-served v s (address_name a path_vci) t q z)
effect-follows v x y w p (adds a b d f j) g l = same-turns v x l refl
effect-follows v x y {s} w p (offers_member a b n d f i h) g l =
    same-turns v x l (kept-served v (path_of (address_name a b)) s w.unique d (offered n d) f refl refl)
effect-follows v x y {s} w p (removes a b d f i) g l = same-turns v x l (kept-served v (path_of (address_name a b)) s w.unique d _ f refl refl)

-- Both wait at each of the slots.
shown-waits :
    (v a b : ℕ) {s : State} → WellFormed s → {c : Call} {o : Outcome} → Shown s c o → BothGoOn v a b s c → (l : List (List Member)) → BothWait a b l
    → BothWait a b (with_slot v o.answer s.members l)
unfolding refuse accept replay discard idle_step send_from send_step send_out_of_rate with_slot with_time
shown-waits v a b w (refusing c n h) g l k = k
shown-waits v a b w (accepting c n r i h) g l k = k
shown-waits v a b w (discarding c n x u r i h z) g l k = k
shown-waits v a b w (idling t room z) g l k = k
shown-waits v a b {s} w (serving t room i u z c) g l k = go (eqb u v && is_data (kind_at t c.holder))
  where
    go : (q : Bool) → BothWait a b (cond q (s.members ∷ l) l)
    go true = ((w.members.valid.rising, g.0, g.1), k)
    go false = k
shown-waits v a b w (serving_out_of_rate i j t room d f z) g l k = k

-- A stretch of calls, and its data slots of v.
slots_of : (v : ℕ) → State → List Call → List (List Member)
slots_of v s [] = []
slots_of v s (c ∷ cs) = with_slot v (step s c).answer s.members (slots_of v (step s c).state cs)

run-follows :
    (v x y : ℕ) (s : State) → WellFormed s → path_of x ≡ v → (cs : List Call) → Stretch v x y s cs → data_cells_of x s cs ≡ turns_of v x (served_at v s) (slots_of v s cs)
unfolding turns_of slots_of
run-follows v x y s w p [] g = refl
run-follows v x y s w p (c ∷ cs) g =
    ap (λ (n : ℕ). data_told x (step s c).answer + n) (run-follows v x y (step s c).state (step-well-formed w c) p cs g.1)
    ∙ effect-follows v x y w p (effect s w.unique c) g.0 (slots_of v (step s c).state cs)

run-waits : (v a b : ℕ) (s : State) → WellFormed s → (cs : List Call) → Stretch v a b s cs → BothWait a b (slots_of v s cs)
unfolding slots_of
run-waits v a b s w [] g = tt
run-waits v a b s w (c ∷ cs) g =
    shown-waits v a b w (shown w c) g.0 (slots_of v (step s c).state cs) (run-waits v a b (step s c).state (step-well-formed w c) cs g.1)

call-swapped : (v a b : ℕ) (f : ℕ → ℕ) (y : Bool) (c : Sort) → GoOn v a b f y c → GoOn v b a f y c
call-swapped v a b f y (opener u t p) g = g
call-swapped v a b f y (closer u) g = g
call-swapped v a b f y (arrival o) g = g
call-swapped v a b f y (slot_at t) g = (g.1, g.0)
call-swapped v a b f y another g = g

swapped : (v a b : ℕ) (s : State) (cs : List Call) → Stretch v a b s cs → Stretch v b a s cs
swapped v a b s [] g = tt
swapped v a b s (c ∷ cs) g = (call-swapped v a b (λ x. cells_of x s.members) _ (sort_of c) g.0, swapped v a b (step s c).state cs g.1)

fair :
    (cs ds : List Call) (a b : ℕ) → let s = final empty cs in
    path_of a ≡ path_of b → Stretch (path_of a) a b s ds → (data_cells_of a s ds ≤ data_cells_of b s ds + 1) × (data_cells_of b s ds ≤ data_cells_of a s ds + 1)
fair cs ds a b e g =
    let s : State = final empty cs in
    let v : ℕ = path_of a in
    let w = reached-well-formed cs in
    rw (run-follows v a b s w refl ds g, run-follows v b a s w (sym e) ds (swapped v a b s ds g))
    (fair-turns v a b (served_at v s) (slots_of v s ds) refl (sym e) (run-waits v a b s w ds g))

-- Whose turn it is.
kind-in-turn :
    (k : Kind) (c : Connection) (ms : List Member) (u x : ℕ) → k ≡ Data → name_answered u (member_served k c ms) ≡ x → c.name ≡ u → 0 < path_cells u ms
    → turn u c.queue.served ms ≡ some x
unfolding member_served name_answered
kind-in-turn Forward c ms u x q h n w = let z : ◌≡◌ {A = ℕ} 0 1 = cc in absurd (omega arith)
kind-in-turn Turned c ms u x q h n w = let z : ◌≡◌ {A = ℕ} 0 1 = cc in absurd (omega arith)
kind-in-turn Data c ms u x q h n w =
    go (turn u c.queue.served ms) refl (ap (λ (i : ℕ). name_answered u (turn i c.queue.served ms)) (sym n) ∙ h)
  where
    go : (m : Option ℕ) → turn u c.queue.served ms ≡ m → name_answered u m ≡ x → m ≡ some x
    go none e h = absurd (turn-some u c.queue.served ms w e)
    go (some y) e h = ap some h

kind-own : (k : Kind) (c : Connection) (ms : List Member) (u x : ℕ) → name_answered u (member_served k c ms) ≡ x → c.name ≡ u → is_path u ≡ false → x ≡ u
unfolding member_served name_answered
kind-own Forward c ms u x h n i = sym h
kind-own Turned c ms u x h n i = sym h
kind-own Data c ms u x h n i = sym h ∙ ap (name_answered u) (turn-none c.name c.queue.served ms (ap is_path n ∙ i))

-- what a data slot's answer says of the connection that it goes to
record DataSlot (s : State) (v x : ℕ) : Type 0 where
  holder : Connection
  found : find v s.entries ≡ taken holder
  kind : Kind
  is_data_cell : kind ≡ Data
  told : name_answered v (member_served kind holder s.members) ≡ x
  waits : 0 < waiting holder.queue

data-slot : {s : State} (t room v x acr n : ℕ) {o : Outcome} → Effect s (slot t room) o → o.answer ≡ Sent v x Data acr n → DataSlot s v x
unfolding refuse send_from send_step idle_step with_time
data-slot t room v x acr n (refuses _ m h) e = let z : ◌≡◌ {A = ℕ} 0 1 = cc in absurd (omega arith)
data-slot t room v x acr n (idles _ _ g b) e = let z : ◌≡◌ {A = ℕ} 0 1 = cc in absurd (omega arith)
data-slot {s} t room v x acr n (sends _ _ i u g b) e =
    let q : u ≡ v = cc in
    let k : kind_at t b.holder ≡ Data = cc in
    let h : name_answered u (member_served (kind_at t b.holder) b.holder s.members) ≡ x = cc in
    record {
      holder = b.holder;
      found = ap (λ (w : ℕ). find w s.entries) (sym q) ∙ b.found;
      kind = kind_at t b.holder;
      is_data_cell = k;
      told = ap (λ (w : ℕ). name_answered w (member_served (kind_at t b.holder) b.holder s.members)) (sym q) ∙ h;
      waits = data-waits t b.holder i b.ready_at b.due k;
    }

in-turn :
    (cs : List Call) (t room v x acr n : ℕ) (c : Connection) → let s = final empty cs in
    find v s.entries ≡ taken c → (step s (slot t room)).answer ≡ Sent v x Data acr n → is_path v ≡ true → turn v c.queue.served s.members ≡ some x
in-turn cs t room v x acr n c f e p =
    let s : State = final empty cs in
    let w = reached-well-formed cs in
    let b = data-slot t room v x acr n (effect s w.unique (slot t room)) e in
    let q : taken b.holder ≡ taken c = sym b.found ∙ f in
    let z : b.holder ≡ c = cc in
    ap (λ (d : Connection). turn v d.queue.served s.members) (sym z)
    ∙ kind-in-turn b.kind b.holder s.members v x b.is_data_cell b.told (name_of v s b.holder b.found)
    (subst (λ (m : ℕ). 0 < m) (path-sum s w.unique w.members v b.holder b.found p) b.waits)

own : (cs : List Call) (t room v x acr n : ℕ) → (step (final empty cs) (slot t room)).answer ≡ Sent v x Data acr n → is_path v ≡ false → x ≡ v
own cs t room v x acr n e p =
    let s : State = final empty cs in
    let b = data-slot t room v x acr n (effect s (reached-well-formed cs).unique (slot t room)) e in
    kind-own b.kind b.holder s.members v x b.told (name_of v s b.holder b.found) p

-- Where a slot goes, by the name that it tells.
open-not-member : {s : State} → WellFormed s → (u : ℕ) (d : Connection) → find u s.entries ≡ taken d → is_member u s.members ≡ false
unfolding is_free
open-not-member {s} w u d f = go (is_member u s.members) refl
  where
    go : (b : Bool) → is_member u s.members ≡ b → b ≡ false
    go true e = absurd (true≢false (sym (w.members.no_channel u e) ∙ ap is_free f))
    go false e = refl

own-owner : (u x : ℕ) (ms : List Member) → u ≡ x → is_member u ms ≡ false → u ≡ owner x ms
unfolding owner
own-owner u x ms e i = rw (← e, i)

path-owner : (u x : ℕ) (ms : List Member) → is_member x ms ≡ true → path_of x ≡ u → u ≡ owner x ms
unfolding owner
path-owner u x ms i p = sym p ∙ rw i

kind-owner :
    (k : Kind) (c : Connection) (ms : List Member) (u x : ℕ) → name_answered u (member_served k c ms) ≡ x → c.name ≡ u → is_member u ms ≡ false → u ≡ owner x ms
unfolding member_served name_answered
kind-owner Forward c ms u x h n i = own-owner u x ms h i
kind-owner Turned c ms u x h n i = own-owner u x ms h i
kind-owner Data c ms u x h n i = go (turn c.name c.queue.served ms) refl h
  where
    go : (m : Option ℕ) → turn c.name c.queue.served ms ≡ m → name_answered u m ≡ x → u ≡ owner x ms
    go none e h = own-owner u x ms h i
    go (some y) e h =
        let p = turn-picks c.name c.queue.served ms y e in
        subst (λ (z : ℕ). u ≡ owner z ms) h (path-owner u y ms p.member (p.path ∙ n))

sent-owner : {s : State} → WellFormed s → (t room v x acr n : ℕ) (k : Kind) {o : Outcome} → Effect s (slot t room) o → o.answer ≡ Sent v x k acr n → v ≡ owner x s.members
unfolding refuse send_from send_step idle_step with_time
sent-owner w t room v x acr n k (refuses _ m h) e = let z : ◌≡◌ {A = ℕ} 0 1 = cc in absurd (omega arith)
sent-owner w t room v x acr n k (idles _ _ g b) e = let z : ◌≡◌ {A = ℕ} 0 1 = cc in absurd (omega arith)
sent-owner {s} w t room v x acr n k (sends _ _ i u g b) e =
    let q : u ≡ v = cc in
    let h : name_answered u (member_served (kind_at t b.holder) b.holder s.members) ≡ x = cc in
    sym q ∙ kind-owner (kind_at t b.holder) b.holder s.members u x h (name_of u s b.holder b.found) (open-not-member w u b.holder b.found)

goes : (cs : List Call) (t room v x acr n : ℕ) (k : Kind) → (step (final empty cs) (slot t room)).answer ≡ Sent v x k acr n → v ≡ owner x (final empty cs).members
goes cs t room v x acr n k e = let w = reached-well-formed cs in sent-owner w t room v x acr n k (effect (final empty cs) w.unique (slot t room)) e

pub fairness : Fairness
fairness = record { in_turn = in-turn; own = own; goes = goes; fair = fair }
