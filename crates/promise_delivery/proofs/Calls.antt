-- What each call does to a name that is not open and to the last accepted time. Also what a slot that
-- sends is known to have done.
use Prim.Native.Nat.{ℕ, ◌≤◌}
use mathlib.Core.Path.{◌≡◌, refl, sym, ap, ◌∙◌, subst}
use mathlib.Core.Logic.{◌≢◌}
use mathlib.Core.Bool.{Bool, true, false, cond}
use mathlib.Core.List.{List, [], ◌∷◌}
use mathlib.Core.Option.{none}
use native.Mathlib.Nat.{le_refl, le_trans}
use native.Mathlib.Omega.{arith}
use lib.Dec.{eqb}
use lib.ListN.{length}
use borrow.Author.Tests.{eq-eqb, ne_eqb}
use Rattle.rate_params.specs.declared.params.Params.{Params}
use Rattle.cell.specs.Name.{address_name}
use Rattle.cell.specs.Fields.{cell_name}
use Rattle.connection_members.specs.Path.{path_vci, path_of}
use Rattle.connection.specs.declared.parts.Connection.{Connection}
use Rattle.connection.specs.declared.parts.Pace.TheVariants.{Unsent}
use Rattle.connection.specs.Parts.{fresh}
use Rattle.connection.specs.Source.{offered, after_out_of_rate, with_served}
use Rattle.connection.specs.Destination.{with_made, after_data_cell}
use Rattle.connection.specs.Received.{after_rm_cell}
use Rattle.connection.specs.Slot.{after}
use Rattle.connection.specs.Kind.{kind_at}
use Rattle.connection.proofs.Keeps.{work-same, after_same}
use Rattle.model.specs.State.{State, Entry, free, taken, find, with_entry_of, with_opened, with_time, with_level, with_members}
use Rattle.model.specs.Invariant.{NamesUnique, WellFormed}
use Rattle.model.specs.Answers.{Answer}
use Rattle.model.specs.Call.{Call, opening, closing, opening_path, Outcome, goes_to}
use Rattle.model.specs.Step.{refuse, accept, replay, discard, with_offer, without_one, send_from, send_step, send_out_of_rate, idle_step, step}
use Rattle.model.specs.Run.{final, is_accepted}
use Rattle.model.proofs.Entries.{taken≢free}
use Rattle.model.proofs.Frames.{put-read, with-opened-read, freed-read}
use Rattle.model.proofs.Effects.{OpenPassed, Effect, refuses, opens, closes, offers, receives_data, receives_rm, sets_level, idles, sends, makes, sends_out_of_rate, opens_path, adds, offers_member, removes, effect}
use Rattle.model.proofs.Reached.{step-well-formed}
use Rattle.laws.proofs.Tests.{both}
use Rattle.model.proofs.Shown.{Shown, refusing, accepting, discarding, idling, serving, serving_out_of_rate, shown}
use Rattle.promise_lists.proofs.Moves.{closer-closes}
use Rattle.promise_traces.specs.InRate.{cell_in, at_slot, sent_by, closes_connection, SentCell, at_sort, closes_sort}
use Rattle.promise_traces.proofs.Next.{at_none}
use Rattle.model.specs.Aspects.{sort_of, Sort, opener, closer, arrival, slot_at, another}
use Rattle.promise_delivery.specs.Calls.{opens_name, time_sent}

-- A name that is not open stays so until it is opened.
put-free :
    (v u : ℕ) (s : State) → NamesUnique s.entries → (d e : Connection) → find u s.entries ≡ taken d → e.name ≡ d.name → find v s.entries ≡ free
    → find v (with_entry_of u (taken e) s).entries ≡ free
put-free v u s a d e f n h =
    put-read (λ (x : Entry). x) v u s a d e f n ∙ ap (λ (b : Bool). cond b (taken e) (find v s.entries)) (ne_eqb u v apart) ∙ h
  where
    apart : u ≢ v
    apart q = taken≢free (sym f ∙ ap (λ (w : ℕ). find w s.entries) q ∙ h)

freed-free : (v u : ℕ) (s : State) → NamesUnique s.entries → find v s.entries ≡ free → find v (with_entry_of u free s).entries ≡ free
freed-free v u s a h = freed-read (λ (x : Entry). x) v u s a ∙ go (eqb u v)
  where
    go : (b : Bool) → cond b free (find v s.entries) ≡ free
    go true = refl
    go false = h

-- what is found under a name that was not open: nothing, or a connection that this call opened
pub data Later (v : ℕ) (c : Call) (x : Entry) : Type 0 where
  absent : x ≡ free → Later v c x
  begun : (e : Connection) → x ≡ taken e → e.pace ≡ Unsent → opens_name v (sort_of c) ≡ 1 → Later v c x

with-opened-later :
    (v u t : ℕ) (p : Params) (s : State) (c : Call) → OpenPassed s u t p → opens_name v (sort_of c) ≡ cond (eqb u v) 1 0 → find v s.entries ≡ free
    → Later v c (find v (with_opened (fresh u t p) s).entries)
unfolding fresh
with-opened-later v u t p s c g o h = go (eqb u v) refl
  where
    read : (b : Bool) → eqb u v ≡ b → find v (with_opened (fresh u t p) s).entries ≡ cond b (taken (fresh u t p)) (find v s.entries)
    read b q = with-opened-read (λ (x : Entry). x) v s (fresh u t p) g.new g.room ∙ ap (λ (z : Bool). cond z (taken (fresh u t p)) (find v s.entries)) q

    go : (b : Bool) → eqb u v ≡ b → Later v c (find v (with_opened (fresh u t p) s).entries)
    go true q = begun (fresh u t p) (read true q) refl (o ∙ ap (λ (z : Bool). cond z 1 0) q)
    go false q = absent (read false q ∙ h)

pub effect-later : (v : ℕ) {s : State} → NamesUnique s.entries → {c : Call} {o : Outcome} → Effect s c o → find v s.entries ≡ free → Later v c (find v o.state.entries)
unfolding refuse accept replay discard send_from send_step idle_step send_out_of_rate with_time with_level with_members with_offer without_one with_served offered after_data_cell with_made after_out_of_rate opens_name
effect-later v a (refuses c n z) h = absent h
effect-later v {s} a (opens vpi vci t p g) h = with-opened-later v (address_name vpi vci) t p s (opening vpi vci t p) g refl h
effect-later v {s} a (closes vpi vci d f) h = absent (freed-free v (address_name vpi vci) s a h)
effect-later v {s} a (offers vpi vci n d f i b) h = absent (put-free v (address_name vpi vci) s a d (offered n d) f refl h)
effect-later v {s} a (receives_data o vpi vci e u d r i z f) h = absent (put-free v u s a d (after_data_cell e d) f refl h)
effect-later v {s} a (receives_rm o q d r f) h = absent (put-free v (cell_name q) s a d (after_rm_cell s.level o q d) f (work-same s.level o q d).name h)
effect-later v a (sets_level l b) h = absent h
effect-later v a (idles t room g b) h = absent h
effect-later v {s} a (sends t room i u g b) h =
    let x = kind_at t b.holder in
    absent (put-free v u (with_time t s) a b.holder (with_served _ (after x t b.holder)) b.found (after_same x t b.holder).name h)
effect-later v {s} a (makes vpi vci t d f g b m) h = absent (put-free v (address_name vpi vci) (with_time t s) a d (with_made t s.level d) f refl h)
effect-later v {s} a (sends_out_of_rate vpi vci t room d f g b) h = absent (put-free v (address_name vpi vci) (with_time t s) a d (after_out_of_rate t d) f refl h)
effect-later v {s} a (opens_path vpi t p g) h = with-opened-later v (address_name vpi path_vci) t p s (opening_path vpi t p) g refl h
effect-later v a (adds vpi vci d f j) h = absent h
effect-later v {s} a (offers_member vpi vci n d f i b) h = absent (put-free v (path_of (address_name vpi vci)) s a d (offered n d) f refl h)
effect-later v {s} a (removes vpi vci d f i) h = absent (put-free v (path_of (address_name vpi vci)) s a d _ f refl h)

-- What a call sends, and when.
pub data Sends (s : State) (c : Call) (o : Outcome) : Type 0 where
  nothing : time_sent (sort_of c) (goes_to o.answer) ≡ [] → ((v : ℕ) → sent_by v s c o.answer ≡ []) → s.last ≤ o.state.last → Sends s c o
  onto :
      (t u : ℕ) (d : Connection) → time_sent (sort_of c) (goes_to o.answer) ≡ t ∷ [] → find u s.entries ≡ taken d → length (sent_by u s c o.answer) ≡ 1
      → ((v : ℕ) → u ≢ v → sent_by v s c o.answer ≡ []) → s.last ≤ t → o.state.last ≡ t → Sends s c o

no-time : (x : Sort) → time_sent x none ≡ []
no-time (opener v t p) = refl
no-time (closer v) = refl
no-time (arrival o) = refl
no-time (slot_at t) = refl
no-time another = refl

pub shown-sends : {s : State} {c : Call} {o : Outcome} → Shown s c o → Sends s c o
unfolding refuse accept discard send_from send_step idle_step send_out_of_rate with_time with_members with_entry_of goes_to sent_by at_slot cell_in
shown-sends (refusing c n z) = nothing (no-time (sort_of c)) (λ v. at_none (sort_of c) _ (λ t. refl)) (le_refl _)
shown-sends (accepting c n r l g) = nothing (no-time (sort_of c)) (λ v. at_none (sort_of c) _ (λ t. refl)) g
shown-sends (discarding c n x u r l i g) = nothing (no-time (sort_of c)) (λ v. at_none (sort_of c) _ (λ t. refl)) g
shown-sends (idling t room g) = nothing refl (λ v. refl) g.since
shown-sends (serving t room i u g b) =
    onto t u b.holder refl b.found (rw (eq-eqb u u refl)) (λ v h. rw (ne_eqb u v h)) g.since refl
shown-sends (serving_out_of_rate vpi vci t room d f g) = nothing refl (λ v. refl) g.since

pub step-sends : {s : State} → WellFormed s → (c : Call) → Sends s c (step s c)
step-sends {s} w c = shown-sends (shown w c)

pub step-later : (v : ℕ) {s : State} → WellFormed s → (c : Call) → find v s.entries ≡ free → Later v c (find v (step s c).state.entries)
step-later v {s} w c h = effect-later v w.unique (effect s w.unique c) h

-- A closed name is not open.
closing-frees : (v vpi vci : ℕ) {s : State} → NamesUnique s.entries → {o : Outcome} → Effect s (closing vpi vci) o → closes_connection v (closing vpi vci) (is_accepted o.answer) ≡ true → find v o.state.entries ≡ free
unfolding refuse discard with_members closes_connection is_accepted
closing-frees v vpi vci a (refuses c n z) e = let z : ◌≡◌ {A = ℕ} 0 1 = cc in absurd (omega arith)
closing-frees v vpi vci {s} a (closes _ _ d f) e = freed-read (λ (x : Entry). x) v (address_name vpi vci) s a ∙ ap (λ (b : Bool). cond b free (find v s.entries)) e

impossible : {A : Type 0} → false ≡ true → A
impossible e = let z : ◌≡◌ {A = ℕ} 0 1 = cc in absurd (omega arith)

pub closed-free : (v : ℕ) (c : Call) {s : State} → WellFormed s → closes_connection v c (is_accepted (step s c).answer) ≡ true → find v (step s c).state.entries ≡ free
unfolding closes_connection
closed-free v c {s} w e = go (sort_of c) refl (both (is_accepted (step s c).answer) (closes_sort v (sort_of c)) e).1
  where
    go : (x : Sort) → sort_of c ≡ x → closes_sort v x ≡ true → find v (step s c).state.entries ≡ free
    go (opener u t p) q h = impossible h
    go (closer u) q h =
        let y = closer-closes c u q in
        closing-frees v y.vpi y.vci w.unique (subst (λ (d : Call). Effect s d (step s c)) y.is (effect s w.unique c))
        (subst (λ (d : Call). closes_connection v d (is_accepted (step s c).answer) ≡ true) y.is e)
    go (arrival o) q h = impossible h
    go (slot_at t) q h = impossible h
    go another q h = impossible h

-- and a close sends nothing
closer-sends-none : (v : ℕ) (x : Sort) (f : ℕ → List SentCell) → closes_sort v x ≡ true → at_sort x f ≡ []
closer-sends-none v (opener u t p) f e = refl
closer-sends-none v (closer u) f e = refl
closer-sends-none v (arrival o) f e = refl
closer-sends-none v (slot_at t) f e = impossible e
closer-sends-none v another f e = refl

pub closing-sends-none : (v : ℕ) (s : State) (c : Call) (a : Answer) (b : Bool) → closes_connection v c b ≡ true → sent_by v s c a ≡ []
unfolding closes_connection sent_by at_slot
closing-sends-none v s c a b e = closer-sends-none v (sort_of c) _ (both b (closes_sort v (sort_of c)) e).1

-- A name that is not open sends nothing.
pub sends_none : (v : ℕ) {s : State} {c : Call} {o : Outcome} → Sends s c o → find v s.entries ≡ free → sent_by v s c o.answer ≡ []
sends_none v (nothing e n l) h = n v
sends_none v {s} (onto t u d e f x n l q) h = n v (λ (z : u ≡ v). taken≢free (sym f ∙ ap (λ (w : ℕ). find w s.entries) z ∙ h))

pub step-last : (s : State) → WellFormed s → (c : Call) → s.last ≤ (step s c).state.last
step-last s w c = go (step-sends w c)
  where
    go : Sends s c (step s c) → s.last ≤ (step s c).state.last
    go (nothing e n l) = l
    go (onto t u d e f x n l q) = omega arith

pub final-last : (s : State) → WellFormed s → (cs : List Call) → s.last ≤ (final s cs).last
final-last s w [] = le_refl _
final-last s w (c ∷ cs) = le_trans (step-last s w c) (final-last (step s c).state (step-well-formed w c) cs)
