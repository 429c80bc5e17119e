-- A property of a name's connection that every call keeps holds as long as the connection is open.
use Prim.Native.Nat.{ℕ, ◌≤◌}
use mathlib.Core.Path.{◌≡◌, refl, sym, ap, subst, ◌∙◌}
use mathlib.Core.Logic.{◌≢◌}
use mathlib.Core.Bool.{Bool, cond}
use mathlib.Core.Option.{Option}
use lib.Dec.{eqb}
use borrow.Author.Tests.{eq-eqb, ne_eqb}
use Rattle.cell.specs.Name.{address_name}
use Rattle.cell.specs.Fields.{cell_name}
use Rattle.cell.specs.Reading.{reading}
use Rattle.cell.specs.declared.fields.Fields.{Fields}
use Rattle.cell.specs.Read.{RmCell}
use Rattle.rate_params.specs.declared.params.Params.{Params}
use Rattle.connection_members.specs.Path.{path_vci, path_of}
use Rattle.connection.specs.declared.parts.Connection.{Connection}
use Rattle.connection.specs.Parts.{fresh, with_queue, dequeued}
use Rattle.connection.specs.Source.{offered, with_served, after_out_of_rate}
use Rattle.connection.specs.Destination.{with_made, after_data_cell}
use Rattle.connection.specs.Received.{after_rm_cell}
use Rattle.connection.specs.Slot.{after}
use Rattle.connection.specs.Kind.{kind_at}
use Rattle.connection.proofs.Keeps.{work-same, after_same}
use Rattle.model.specs.State.{State, Entry, free, taken, find, with_entry_of, with_opened, with_time, with_level, with_members}
use Rattle.model.specs.Invariant.{NamesUnique}
use Rattle.model.specs.Answers.{Sent}
use Rattle.model.specs.Call.{Call, Outcome}
use Rattle.model.specs.Aspects.{Sort, opener, closer, arrival, slot_at, another, sort_of}
use Rattle.model.specs.Step.{refuse, accept, replay, discard, with_offer, without_one, idle_step, send_from, send_step, send_out_of_rate}
use Rattle.model.proofs.Entries.{Case, same, other, case}
use Rattle.model.proofs.Frames.{put-read, with-opened-read, freed-read}
use Rattle.model.proofs.Effects.{OpenPassed, Effect, refuses, opens, closes, offers, receives_data, receives_rm, sets_level, idles, sends, makes, sends_out_of_rate, opens_path, adds, offers_member, removes}
use Rattle.promise_lists.proofs.Pairs.{sent-same}

abbrev pub Has : (Connection → Type 0) → Entry → Type 0
Has P free = ⊥
Has P (taken c) = P c

-- what offers, removed members, data cells, made cells and out-of-rate cells make of the connection of v keeps P,
-- on the table s
pub record Stable (P : Connection → Type 0) (v : ℕ) (s : State) : Type 0 where
  pub offers : (n : ℕ) (d : Connection) → P d → P (offered n d)
  pub removals : (n : ℕ) (d : Connection) → P d → P (with_queue d (dequeued n d.queue))
  pub data_cells : (e : Bool) (d : Connection) → P d → P (after_data_cell e d)
  pub makings : (t : ℕ) (d : Connection) → s.last ≤ t → find v s.entries ≡ taken d → P d → P (with_made t s.level d)
  pub out_of_rates : (t : ℕ) (d : Connection) → s.last ≤ t → find v s.entries ≡ taken d → P d → P (after_out_of_rate t d)

-- and so does what this call does besides: it does not close v, and the RM cell that it takes in,
-- or the cell that it sends, keeps P
abbrev pub KeptBy : (Connection → Type 0) → ℕ → State → Outcome → Sort → Type 0
KeptBy P v s o (opener u t p) = Unit
KeptBy P v s o (closer u) = u ≡ v → find v o.state.entries ≢ free
KeptBy P v s o (arrival x) = (f : Fields) (d : Connection) → reading x ≡ RmCell f → cell_name f ≡ v → find v s.entries ≡ taken d → P d → P (after_rm_cell s.level x f d)
KeptBy P v s o (slot_at t) =
    (d : Connection) (x : ℕ) (m : Option ℕ) (acr n : ℕ) → o.answer ≡ Sent v x (kind_at t d) acr n → P d → P (with_served m (after (kind_at t d) t d))
KeptBy P v s o another = Unit

module _ (P : Connection → Type 0) (v : ℕ) where
  changed-kept :
      (u : ℕ) (s : State) → NamesUnique s.entries → (d e : Connection) → find u s.entries ≡ taken d → e.name ≡ d.name
      → (u ≡ v → find v s.entries ≡ taken d → P d → P e) → Has P (find v s.entries) → Has P (find v (with_entry_of u (taken e) s).entries)
  changed-kept u s a d e f n m h = rw (put-read (λ (x : Entry). x) v u s a d e f n) (go (case u v))
    where
      go : Case u v → Has P (cond (eqb u v) (taken e) (find v s.entries))
      go (same q) =
          let g : find v s.entries ≡ taken d = ap (λ (w : ℕ). find w s.entries) (sym q) ∙ f in
          rw (eq-eqb u v q) (m q g (subst (Has P) g h))
      go (other q) = rw (ne_eqb u v q) h

  -- an open is another connection's
  opened-kept :
      (s : State) (u t : ℕ) (p : Params) → OpenPassed s u t p → Has P (find v s.entries) → Has P (find v (with_opened (fresh u t p) s).entries)
  unfolding fresh
  opened-kept s u t p g m = rw (with-opened-read (λ (x : Entry). x) v s (fresh u t p) g.new g.room) (go (case u v))
    where
      go : Case u v → Has P (cond (eqb u v) (taken (fresh u t p)) (find v s.entries))
      go (same z) = absurd (subst (Has P) (ap (λ (x : ℕ). find x s.entries) (sym z) ∙ g.new) m)
      go (other z) = rw (ne_eqb u v z) m

  freed-kept :
      (u : ℕ) (s : State) → NamesUnique s.entries → (u ≡ v → find v (with_entry_of u free s).entries ≢ free) → Has P (find v s.entries)
      → Has P (find v (with_entry_of u free s).entries)
  freed-kept u s a q m = go (case u v)
    where
      read : find v (with_entry_of u free s).entries ≡ cond (eqb u v) free (find v s.entries)
      read = freed-read (λ (x : Entry). x) v u s a

      go : Case u v → Has P (find v (with_entry_of u free s).entries)
      go (same z) = absurd (q z (read ∙ ap (λ (b : Bool). cond b free (find v s.entries)) (eq-eqb u v z)))
      go (other z) = rw (read, ne_eqb u v z) m

  pub effect-kept :
      {s : State} → NamesUnique s.entries → {c : Call} {o : Outcome} → Effect s c o → Stable P v s → KeptBy P v s o (sort_of c) → Has P (find v s.entries)
      → Has P (find v o.state.entries)
  unfolding refuse accept replay discard send_from send_step idle_step send_out_of_rate with_time with_level with_members with_offer without_one with_served offered after_data_cell with_made after_out_of_rate
  effect-kept a (refuses c n h) k q m = m
  effect-kept {s} a (opens vpi vci t p g) k q m = opened-kept s (address_name vpi vci) t p g m
  effect-kept {s} a (closes vpi vci d f) k q m = freed-kept (address_name vpi vci) s a q m
  effect-kept {s} a (offers vpi vci n d f i b) k q m = changed-kept (address_name vpi vci) s a d (offered n d) f refl (λ _ _. k.offers n d) m
  effect-kept {s} a (receives_data o vpi vci e u d r i z f) k q m = changed-kept u s a d (after_data_cell e d) f refl (λ _ _. k.data_cells e d) m
  effect-kept {s} a (receives_rm o g d r f) k q m =
      changed-kept (cell_name g) s a d (after_rm_cell s.level o g d) f (work-same s.level o g d).name (λ n h. q g d r n h) m
  effect-kept a (sets_level l b) k q m = m
  effect-kept a (idles t room g b) k q m = m
  effect-kept {s} a (sends t room i u g b) k q m =
      let x = kind_at t b.holder in
      changed-kept u (with_time t s) a b.holder (with_served _ (after x t b.holder)) b.found (after_same x t b.holder).name
      (λ z _. q b.holder _ _ _ _ (sent-same z refl refl)) m
  effect-kept {s} a (makes vpi vci t d f g b z) k q m = changed-kept (address_name vpi vci) (with_time t s) a d (with_made t s.level d) f refl (λ _ h. k.makings t d g.since h) m
  effect-kept {s} a (sends_out_of_rate vpi vci t room d f g b) k q m =
      changed-kept (address_name vpi vci) (with_time t s) a d (after_out_of_rate t d) f refl (λ _ h. k.out_of_rates t d g.since h) m
  effect-kept {s} a (opens_path vpi t p g) k q m = opened-kept s (address_name vpi path_vci) t p g m
  effect-kept a (adds vpi vci d f j) k q m = m
  effect-kept {s} a (offers_member vpi vci n d f i b) k q m = changed-kept (path_of (address_name vpi vci)) s a d (offered n d) f refl (λ _ _. k.offers n d) m
  effect-kept {s} a (removes vpi vci d f i) k q m = changed-kept (path_of (address_name vpi vci)) s a d _ f refl (λ _ _. k.removals _ d) m
