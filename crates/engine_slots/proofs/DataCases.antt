-- What a slot that sends data leaves: the code held no more of the connection than the first line of its record.
use Prim.Native.Nat.{ℕ, ◌%◌, ◌≤◌, ◌<◌}
use mathlib.Core.Path.{◌≡◌, refl, sym, ap, subst, ◌∙◌}
use mathlib.Core.Bool.{true, false}
use mathlib.Core.List.{List, ◌++◌}
use mathlib.Core.Option.{Option, none, some}
use native.Mathlib.Omega.{arith}
use Rattle.rate.specs.Units.{latest_time}
use Rattle.connection_members.specs.Path.{is_path}
use Rattle.connection_members.specs.Members.{Member, path_cells}
use Rattle.connection_members.specs.Turn.{turn, after_serving}
use Rattle.connection_members.proofs.Turns.{turn-none, turn-some}
use Rattle.connection.specs.declared.parts.Connection.{Connection}
use Rattle.connection.specs.declared.kind.Kind.TheVariants.{Data}
use Rattle.connection.specs.Invariant.{ValidAt}
use Rattle.connection.specs.Kind.{kind_at}
use Rattle.connection.specs.Parts.{waiting}
use Rattle.connection.specs.Range.{InRange, CountHasRoom}
use Rattle.connection.specs.Source.{sent_data, with_served}
use Rattle.connection.specs.Slot.{after, member_served, buffer_sent}
use Rattle.connection.proofs.Keeps.{KeepsIdentity, after_same, served-same, served-valid}
use Rattle.connection.proofs.Ranged.{after-ranged}
use Rattle.model.specs.State.{State, taken, with_entry_of, with_members, capacity}
use Rattle.model.specs.Call.{Outcome}
use Rattle.model.specs.Step.{name_answered, send_from, send_step}
use Rattle.model.specs.Answers.{Sent, SentCell}
use Rattle.model.specs.Tournament.{levels}
use Rattle.model.specs.Details.{sent_with, slot_answer}
use Rattle.model.proofs.Members.{path-sum}
use Rattle.table.specs.Layout.{words, member_words}
use Rattle.table.specs.Loading.{connection_at, first_line}
use Rattle.table.proofs.FirstLine.{data-ready}
use Rattle.table.proofs.Words.{load_at}
use Rattle.table_names.proofs.Found.{found_at}
use Rattle.table_members.specs.Words.{name_or_zero, Serves}
use Rattle.engine.specs.Contract.{buffer_content}
use Rattle.engine_slots.specs.Slots.{SlotLeaves, SendsFrom}
use Rattle.table_store.specs.Updates.{PacedUpdates}
use Rattle.engine.proofs.Outcomes.{paced-is, put-ordered}
use Rattle.engine.proofs.Members.{front, with-members, members-changed}
use Rattle.engine_slots.proofs.SendCases.{located, leading, valid, next-valid, shown, sent-out}

pub data-ranged : (t : ℕ) (c : Connection) → t ≤ latest_time → InRange c → CountHasRoom c.pace → InRange (sent_data t c)
unfolding after
data-ranged t c h r m = after-ranged Data t c (omega (arith, h)) r m

pub served-ranged : (x : Option ℕ) (c : Connection) → InRange c → InRange (with_served x c)
unfolding with_served
served-ranged x c h = record { opened = h.opened; trm = h.trm; pace = h.pace; made = h.made; out_of_rate = h.out_of_rate }

module _ (s : State) (t i : ℕ) (c : Connection) (f : SendsFrom t i s c) (kind : kind_at t c ≡ Data) {l : List ℕ} (e : l ≡ words s) (old : List ℕ) where
  -- the entry of a channel
  channel :
      {m : List ℕ} → PacedUpdates l m i (sent_data t (first_line c)) → is_path c.name ≡ false → SlotLeaves Data t s c m (SentCell c.name Data c.rate.acr levels i c.rate.acr false) old old
  unfolding after sent_data member_served buffer_sent
  channel u o =
      let a = after_same Data t c in
      sent-out s t i c f Data kind
      (paced-is s f.reached.size e (located s t i c f) (sent_data t (first_line c)) (after Data t c) a (leading s t i c f) u (refl, refl, refl) refl (data-ready t c _ kind)
      (put-ordered f.reached c.name (taken (after Data t c)) (next-valid s t i c f Data kind) a.name))
      (turn-none c.name c.queue.served s.members o) old old refl

  -- a member of a path: its word has one cell less, then the path's entry is stored
  module _ {m : List ℕ} (x : ℕ) (path : is_path c.name ≡ true) (waits : 0 < waiting c.queue) (sv : Serves c.name (c.queue.served % 65536) l m x) where
    low : (q : ℕ) → q ≤ 65535 → q % 65536 ≡ q
    low q b = omega arith

    served : (m ≡ front s ++ member_words (after_serving (turn c.name c.queue.served s.members) s.members)) × (x ≡ name_or_zero (turn c.name c.queue.served s.members))
    served =
        (subst (λ (z : ℕ). Serves c.name z l m x) (low c.queue.served (valid s t i c f).4.served) sv
        ).is (front s) s.members (with-members s f.reached.size f.reached.members.valid e) (valid s t i c f).0.coded

    -- the first line, read again
    line_after : i < capacity → (k : Connection) → k ≡ first_line (connection_at m i) → k ≡ first_line c
    unfolding with_members
    line_after h k q =
        let ms : List Member = after_serving (turn c.name c.queue.served s.members) s.members in
        q ∙ ap (λ (y : List ℕ). first_line (connection_at y i)) (members-changed s ms served.0)
        ∙ ap first_line (load_at (with_members ms s) f.reached.size i h c f.here f.reached.timely (subst (λ (z : ℕ). ValidAt z c) (sym f.timed) (valid s t i c f)))

    waiting-there : 0 < path_cells c.name s.members
    waiting-there = omega (arith, waits, path-sum s f.reached.unique f.reached.members c.name c (found_at (located s t i c f)) path)

    keeps : (o : Option ℕ) → KeepsIdentity c (with_served o (after Data t c))
    keeps o =
        let a = after_same Data t c in
        let b = served-same o (after Data t c) in
        record { name = b.name ∙ a.name; opened = b.opened ∙ a.opened; trm = b.trm ∙ a.trm; params = b.params ∙ a.params }

    abbrev LeavesMember : List ℕ → Type 0
    LeavesMember r = SlotLeaves Data t s c r (SentCell x Data c.rate.acr levels i c.rate.acr false) old old

    taken-from : {r : List ℕ} → PacedUpdates m r i (with_served (some x) (sent_data t (first_line c))) → (v : ℕ) → turn c.name c.queue.served s.members ≡ some v → LeavesMember r
    unfolding after sent_data with_served send_from name_answered with_members with_entry_of member_served buffer_sent send_step
    taken-from {r} u v p =
        let told : x ≡ v = served.1 ∙ ap name_or_zero p in
        let ms : List Member = after_serving (some v) s.members in
        let next : Connection = with_served (some v) (after Data t c) in
        let here : m ≡ words (with_members ms s) = members-changed s ms (served.0 ∙ ap (λ (y : Option ℕ). front s ++ member_words (after_serving y s.members)) p) in
        let y =
        paced-is (with_members ms s) f.reached.size here (located s t i c f) (with_served (some v) (sent_data t (first_line c))) next (keeps (some v)) (record { unique = f.reached.unique; wins = f.leads })
        (subst (λ (z : ℕ). PacedUpdates m r i (with_served (some z) (sent_data t (first_line c)))) told u) (refl, refl, refl) refl (data-ready t c _ kind)
        (put-ordered f.reached c.name (taken next) (served-valid (some v) (after Data t c) (next-valid s t i c f Data kind)) (keeps (some v)).name) in
        subst (λ (o : Outcome). (r ≡ words o.state) × (SentCell x Data c.rate.acr levels i c.rate.acr false ≡ slot_answer s o) × (old ≡ buffer_content o.buffer old))
        (sym (ap (send_from s t c.name c Data) p)) (
          y.0,
          shown s t i c f Data kind x c.rate.acr levels ∙ ap (λ (z : ℕ). sent_with s (Sent c.name z Data c.rate.acr levels)) told
              ∙ ap (λ (n : ℕ). sent_with s (Sent c.name v Data c.rate.acr n)) y.1,
          refl,
        )

    from_member : {r : List ℕ} → PacedUpdates m r i (with_served (some x) (sent_data t (first_line c))) → LeavesMember r
    from_member {r} u = go (turn c.name c.queue.served s.members) refl
      where
        go : (o : Option ℕ) → turn c.name c.queue.served s.members ≡ o → LeavesMember r
        go none p = absurd (turn-some c.name c.queue.served s.members waiting-there p)
        go (some v) p = taken-from u v p

  -- the same, where d is what the code held
  module _ (d : Connection) (q : d ≡ first_line c) where
    pub channel-out :
        {m : List ℕ} (n : Connection) → n ≡ sent_data t d → PacedUpdates l m i n → is_path d.name ≡ false → SlotLeaves Data t s c m (SentCell d.name Data d.rate.acr levels i d.rate.acr false) old old
    channel-out {m} n b u o =
        subst (λ (z : Connection). SlotLeaves Data t s c m (SentCell z.name Data z.rate.acr levels i z.rate.acr false) old old) (sym q)
        (channel (subst (λ (z : Connection). PacedUpdates l m i z) (b ∙ ap (sent_data t) q) u) (subst (λ (z : Connection). is_path z.name ≡ false) q o))

    pub member-out :
        {m r : List ℕ} (x : ℕ) → is_path d.name ≡ true → 0 < waiting c.queue → Serves d.name (d.queue.served % 65536) l m x → i < capacity → (k : Connection)
        → k ≡ first_line (connection_at m i) → (n : Connection) → n ≡ sent_data t k → PacedUpdates m r i (with_served (some x) n)
        → SlotLeaves Data t s c r (SentCell x Data k.rate.acr levels i k.rate.acr false) old old
    member-out {m} {r} x o w sv h k g n b u =
        let path = subst (λ (z : Connection). is_path z.name ≡ true) q o in
        let its = subst (λ (z : Connection). Serves z.name (z.queue.served % 65536) l m x) q sv in
        let read : k ≡ first_line c = line_after x path w its h k g in
        subst (λ (z : Connection). SlotLeaves Data t s c r (SentCell x Data z.rate.acr levels i z.rate.acr false) old old) (sym read)
        (from_member x path w its (subst (λ (z : Connection). PacedUpdates m r i (with_served (some x) z)) (b ∙ ap (sent_data t) read) u))
