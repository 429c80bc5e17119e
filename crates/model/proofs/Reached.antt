-- Every call keeps a table well-formed. So every table that calls make from the empty one is well-formed, and its
-- slots choose as document 01 says.
use Prim.Native.Nat.{ℕ, ◌+◌, ◌-◌, ◌<◌, ◌≤◌}
use mathlib.Core.Path.{◌≡◌, refl, sym, ap, subst, ◌∙◌}
use mathlib.Core.Bool.{true, false, true≢false}
use mathlib.Core.List.{List, [], ◌∷◌, ◌++◌}
use mathlib.Core.Option.{none}
use native.Mathlib.Omega.{arith}
use Rattle.rate_params.specs.declared.params.Params.{Params}
use Rattle.cell.specs.Name.{no_name, address_fits, address_name}
use Rattle.cell.proofs.Names.{pair-out, address-named}
use Rattle.cell.specs.Fields.{cell_name}
use Rattle.connection_members.specs.Path.{is_path, path_vci, path_of}
use Rattle.connection_members.specs.Members.{Member, is_member, cells_of, with_member}
use Rattle.connection_members.specs.Turn.{turn, after_serving, last_after}
use Rattle.connection_members.proofs.Names.{path-is-path}
use Rattle.connection.specs.declared.parts.Connection.{Connection}
use Rattle.connection.specs.Parts.{fresh, waiting, with_queue, dequeued}
use Rattle.connection.specs.Source.{offered, sent_forward, sent_data, with_served, after_out_of_rate}
use Rattle.connection.specs.Destination.{with_made, after_data_cell, sent_turned}
use Rattle.connection.specs.Received.{after_rm_cell}
use Rattle.connection.specs.Slot.{after, member_served}
use Rattle.connection.specs.declared.kind.Kind.{Kind}
use Rattle.connection.specs.declared.kind.Kind.TheVariants.{Forward, Turned, Data}
use Rattle.connection.specs.Kind.{kind_at}
use Rattle.connection.specs.Invariant.{ValidAt}
use Rattle.connection.proofs.Waited.{data-waits}
use Rattle.connection.proofs.Keeps.{made-valid, out-of-rate-valid, fresh-valid, offered-valid, less-valid, served-same, served-valid, after-data-cell-valid, work-same, work-queue, work-valid, after_same, after-valid}
use Rattle.model.specs.State.{State, Entry, free, taken, empty, find, with_entry_of, with_opened, with_time, with_members}
use Rattle.model.specs.Invariant.{MembersOf, WellFormed}
use Rattle.model.specs.Winner.{winner, Best}
use Rattle.model.proofs.Frames.{name_of}
use Rattle.model.proofs.Members.{kept-members, channel-members, with-opened-members, ended-members, added-members, stocked-members, removed-members, member-waits, served-members, offered-most}
use Rattle.model.proofs.Preserved.{valid-at, put-well-formed, with-opened-well-formed, with_time-well-formed, with_level-well-formed, with_members-well-formed, empty-well-formed}
use Rattle.model.proofs.Winners.{winner-best}
use Rattle.model.specs.Call.{Call, Outcome}
use Rattle.model.specs.Step.{refuse, accept, replay, discard, with_offer, without_one, send_from, send_step, send_out_of_rate, idle_step, step}
use Rattle.model.specs.Run.{final}
use Rattle.model.proofs.Effects.{Timely, OpenPassed, AddPassed, Effect, refuses, opens, closes, offers, receives_data, receives_rm, sets_level, idles, sends, makes, sends_out_of_rate, opens_path, adds, offers_member, removes, effect}

fresh-empty : (u t : ℕ) (p : Params) → waiting (fresh u t p).queue ≡ 0
unfolding fresh
fresh-empty u t p = refl

opened-well-formed : {s : State} → WellFormed s → (u t : ℕ) (p : Params) → OpenPassed s u t p → WellFormed (with_time t (with_opened (fresh u t p) s))
unfolding with_time with_opened fresh
opened-well-formed {s} w u t p g =
    with-opened-well-formed (with_time-well-formed w t g.timely.since g.timely.until) (fresh u t p) (fresh-valid u t p g.assigned g.coded g.fits g.tbe g.frtt) g.new
    (with-opened-members s w.unique w.members (fresh u t p) g.new g.room g.no_member (fresh-empty u t p))

-- a connection that stays as it should be, and keeps its name
changed-well-formed :
    {s : State} → WellFormed s → (u : ℕ) (d e : Connection) → find u s.entries ≡ taken d → e.name ≡ d.name → (ValidAt s.last d → ValidAt s.last e)
    → (ms : List Member) → MembersOf (with_entry_of u (taken e) s).entries ms → WellFormed (with_members ms (with_entry_of u (taken e) s))
changed-well-formed {s} w u d e f n h ms m = put-well-formed w u (taken e) (h (valid-at w u d f)) (n ∙ name_of u s d f) ms m

-- and the data that waits on it
kept-well-formed :
    {s : State} → WellFormed s → (u : ℕ) (d e : Connection) → find u s.entries ≡ taken d → e.name ≡ d.name → waiting e.queue ≡ waiting d.queue
    → (ValidAt s.last d → ValidAt s.last e) → WellFormed (with_entry_of u (taken e) s)
unfolding with_entry_of with_members
kept-well-formed {s} w u d e f n q h = changed-well-formed w u d e f n h s.members (kept-members s w.unique w.members u d e f n q)

-- a channel's offer
offered-well-formed :
    {s : State} → WellFormed s → (u n : ℕ) (d : Connection) → find u s.entries ≡ taken d → is_path u ≡ false → waiting d.queue + n ≤ 65535
    → WellFormed (with_entry_of u (taken (offered n d)) s)
unfolding offered with_entry_of with_members
offered-well-formed {s} w u n d f c h =
    changed-well-formed w u d (offered n d) f refl (offered-valid n d (λ _. h) (omega (arith, h))) s.members
    (channel-members s w.unique w.members u d (offered n d) f refl c)

-- a slot's cell
sent-members :
    {s : State} → WellFormed s → (t u : ℕ) (d : Connection) → find u s.entries ≡ taken d → (k : Kind) → (k ≡ Data → 0 < waiting d.queue)
    → MembersOf (with_entry_of u (taken (with_served (member_served k d s.members) (after k t d))) s).entries (after_serving (member_served k d s.members) s.members)
unfolding member_served with_served after_serving last_after after sent_forward sent_turned sent_data
sent-members {s} w t u d f Forward h = kept-members s w.unique w.members u d (with_served none (sent_forward t d)) f refl refl
sent-members {s} w t u d f Turned h = kept-members s w.unique w.members u d (with_served none (sent_turned t d)) f refl refl
sent-members {s} w t u d f Data h =
    let waits = h refl in
    let x = turn d.name d.queue.served s.members in
    let e = served-members s w.unique w.members d.name d.queue.served d (with_served x (sent_data t d)) (ap (λ (v : ℕ). find v s.entries) (name_of u s d f) ∙ f) refl waits (omega (arith, waits)) in
    subst (λ (v : ℕ). MembersOf (with_entry_of v (taken (with_served x (sent_data t d))) s).entries (after_serving x s.members)) (name_of u s d f) e

sent-well-formed :
    {s : State} → WellFormed s → (t u : ℕ) → Timely s t → (d : Connection) → find u s.entries ≡ taken d → (k : Kind) → kind_at t d ≡ k → (k ≡ Data → 0 < waiting d.queue)
    → WellFormed (send_step (with_time t s) t u d k).state
unfolding with_time send_step send_from
sent-well-formed {s} w t u g d f k q waits =
    let v = with_time-well-formed w t g.since g.until in
    let x = member_served k d s.members in
    changed-well-formed v u d (with_served x (after k t d)) f ((served-same x (after k t d)).name ∙ (after_same k t d).name)
    (λ h. served-valid x (after k t d) (after-valid k t d q h)) _ (sent-members v t u d f k waits)

-- a pair out of the ranges is unknown in every table that calls make, so that it meets 11 (document 02, L6)
unknown : {s : State} → WellFormed s → (v : ℕ) → no_name ≤ v → find v s.entries ≡ free
unknown {s} w v h = go (find v s.entries) refl
  where
    go : (x : Entry) → find v s.entries ≡ x → x ≡ free
    go free e = refl
    go (taken d) e = absurd (omega (arith, h, name_of v s d e, (valid-at w v d e).0.coded))

-- a new member's name has 24 bits, since its path is open
joined :
    {s : State} → WellFormed s → (a b : ℕ) (d : Connection) → find (path_of (address_name a b)) s.entries ≡ taken d → AddPassed s b (address_name a b)
    → MembersOf s.entries (with_member (address_name a b) s.members)
joined {s} w a b d f j =
    added-members s w.unique w.members (address_name a b) d f coded (omega (arith, j.high, (address-named a b coded).vci_back)) j.no_channel j.no_member j.room
  where
    coded : address_name a b < no_name
    coded = below (address_name a b) (name_of (path_of (address_name a b)) s d f) (valid-at w (path_of (address_name a b)) d f).0.coded
      where
        below : (x : ℕ) → d.name ≡ path_of x → d.name < no_name → x < no_name
        below x e h = omega arith

-- a member's offer: on its path waits at most what may wait on all members
member-offered-well-formed :
    {s : State} → WellFormed s → (x n : ℕ) (d : Connection) → find (path_of x) s.entries ≡ taken d → is_member x s.members ≡ true
    → cells_of x s.members + n ≤ 65535 → WellFormed (with_offer x n d s)
unfolding with_offer offered
member-offered-well-formed {s} w x n d f i h =
    changed-well-formed w (path_of x) d (offered n d) f refl (offered-valid n d (λ c. absurd (true≢false (sym (path-is-path x) ∙ ap is_path (sym (name_of (path_of x) s d f)) ∙ c))) (offered-most s w.unique w.members x n d f i h))
    _ (stocked-members s w.unique w.members x d (offered n d) f refl i (cells_of x s.members + n) h (omega arith))

effect-well-formed : {s : State} → WellFormed s → {c : Call} {o : Outcome} → Effect s c o → WellFormed o.state
unfolding refuse accept replay discard idle_step send_out_of_rate after_data_cell with_time with_made after_out_of_rate with_offer without_one offered
effect-well-formed w (refuses c n h) = w
effect-well-formed w (opens a b t p g) = opened-well-formed w (address_name a b) t p g
effect-well-formed {s} w (closes a b d f) = put-well-formed w (address_name a b) free tt tt _ (ended-members s w.unique w.members (address_name a b))
effect-well-formed w (offers a b n d f c h) = offered-well-formed w (address_name a b) n d f c h
effect-well-formed w (receives_data o a b e u d r c z f) = kept-well-formed w u d (after_data_cell e d) f refl refl (after-data-cell-valid e d)
effect-well-formed {s} w (receives_rm o q d r f) =
    kept-well-formed w (cell_name q) d (after_rm_cell s.level o q d) f (work-same s.level o q d).name (ap waiting (work-queue s.level o q d)) (work-valid s.level o q d)
effect-well-formed w (sets_level l h) = with_level-well-formed w l h
effect-well-formed w (idles t room g b) = with_time-well-formed w t g.since g.until
effect-well-formed w (sends t room i u g b) =
    sent-well-formed w t u g b.holder b.found (kind_at t b.holder) refl (λ e. data-waits t b.holder i b.ready_at b.due e)
effect-well-formed {s} w (makes a b t d f g h m) =
    kept-well-formed (with_time-well-formed w t g.since g.until) (address_name a b) d (with_made t s.level d) f refl refl (made-valid t s.level d w.levels)
effect-well-formed w (sends_out_of_rate a b t room d f g h) =
    kept-well-formed (with_time-well-formed w t g.since g.until) (address_name a b) d (after_out_of_rate t d) f refl refl (out-of-rate-valid t d)
effect-well-formed w (opens_path a t p g) = opened-well-formed w (address_name a path_vci) t p g
effect-well-formed {s} w (adds a b d f j) = with_members-well-formed w _ (joined w a b d f j)
effect-well-formed {s} w (offers_member a b n d f i h) = member-offered-well-formed w (address_name a b) n d f i h
effect-well-formed {s} w (removes a b d f i) =
    let x = address_name a b in
    changed-well-formed w (path_of x) d (with_queue d (dequeued (cells_of x s.members) d.queue)) f refl (less-valid (cells_of x s.members) d) _
    (removed-members s w.unique w.members x d _ f refl (rest _ _ (member-waits s w.unique w.members x d f)))
  where
    rest : (m n : ℕ) → m ≤ n → n - m + m ≡ n
    rest m n h = omega arith

pub step-well-formed : {s : State} → WellFormed s → (c : Call) → WellFormed (step s c).state
step-well-formed {s} w c = effect-well-formed w (effect s w.unique c)

pub final-well-formed : {s : State} → WellFormed s → (cs : List Call) → WellFormed (final s cs)
final-well-formed {s = s} w [] = w
final-well-formed {s = s} w (c ∷ cs) = final-well-formed {s = (step s c).state} (step-well-formed w c) cs

-- every table that calls make from the empty one
pub reached-well-formed : (cs : List Call) → WellFormed (final empty cs)
reached-well-formed = final-well-formed empty-well-formed

pub reached-unknown : (cs : List Call) (a b : ℕ) → address_fits a b ≡ false → find (address_name a b) (final empty cs).entries ≡ free
reached-unknown cs a b e = unknown (reached-well-formed cs) (address_name a b) (omega (arith, pair-out a b e))

pub reached-no-path : (cs : List Call) (a b : ℕ) → address_fits a b ≡ false → find (path_of (address_name a b)) (final empty cs).entries ≡ free
reached-no-path cs a b e = unknown (reached-well-formed cs) (path_of (address_name a b)) (omega (arith, pair-out a b e))

pub reached-winner : (cs : List Call) (t : ℕ) → Best t (final empty cs).entries (winner t (final empty cs).entries)
reached-winner cs t = winner-best t (final empty cs).entries (reached-well-formed cs).unique

-- two lists, one after the other
pub final-append : (s : State) (cs ds : List Call) → final s (cs ++ ds) ≡ final (final s cs) ds
final-append s [] ds = refl
final-append s (c ∷ cs) ds = final-append (step s c).state cs ds
