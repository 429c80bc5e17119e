-- What a received cell makes of a table: the ways out of receiving.
use Prim.Native.Nat.{ℕ, ◌%◌, ◌<◌}
use mathlib.Core.Path.{◌≡◌, refl, sym, ap, subst, ◌∙◌}
use mathlib.Core.Bool.{Bool, true, false}
use mathlib.Core.List.{List, []}
use native.Mathlib.Omega.{arith}
use lib.Dec.{leb}
use lib.ListN.{length, get_or}
use borrow.Author.Tests.{eq-eqb, ne_eqb}
use Rattle.laws.specs.declared.refusals.Refusal.{Refusal}
use Rattle.laws.specs.Refusals.{number}
use Rattle.cell_payload.specs.declared.payload.Payload.{Payload}
use Rattle.cell_payload.specs.Payload.{payload_of}
use Rattle.cell.specs.declared.fields.Fields.{Fields}
use Rattle.cell.specs.Read.{Reading, Refused as Unread, DataCell, RmCell}
use Rattle.cell.specs.Octets.{payload}
use Rattle.cell.specs.Name.{address_name}
use Rattle.cell.specs.Header.{type_of}
use Rattle.cell.specs.Refusals.{header_refusal, rest_refusal}
use Rattle.cell.specs.Fields.{cell_name, fields_of}
use Rattle.cell.proofs.RefusalNumbers.{number-above-0}
use Rattle.cell_read.proofs.Cases.{judged-first, judged-rest}
use Rattle.cell.specs.Reading.{reading}
use Rattle.connection_members.specs.Path.{is_path}
use Rattle.connection_members.specs.Members.{owner}
use Rattle.laws.specs.Require.{require}
use Rattle.connection.specs.declared.parts.Connection.{Connection}
use Rattle.connection.specs.declared.kind.Kind.{Kind}
use Rattle.connection.specs.declared.kind.Kind.TheVariants.{Forward, Turned, Data}
use Rattle.connection.specs.Source.{after_backward_cell}
use Rattle.connection.specs.Destination.{after_data_cell, after_forward_cell, after_forward_payload}
use Rattle.connection.specs.Received.{after_rm_cell}
use Rattle.connection.specs.Ready.{ready_instant}
use Rattle.connection.proofs.Readiness.{ready-same}
use Rattle.connection.proofs.Keeps.{KeepsIdentity, work-same, work-valid}
use Rattle.connection.proofs.Turnings.{after-forward-cell-words}
use Rattle.model.specs.State.{State, free, taken, find, leaf_of, with_entry_of, capacity}
use Rattle.model.specs.Invariant.{WellFormed}
use Rattle.table.specs.Layout.{source_words, words, level_at}
use Rattle.table.specs.Loading.{connection_at}
use Rattle.table.specs.Storing.{efci_updated}
use Rattle.table_store.specs.Updates.{Updates, SourceMoved, DestinationMoved}
use Rattle.table_tournament.specs.Replaying.{Playable, CountsWon}
use Rattle.model.specs.Tournament.{replayed}
use Rattle.table_names.specs.Finding.{Located}
use Rattle.table_names.proofs.Found.{found_at}
use Rattle.model.specs.Answers.{ReceiveAnswer, ReceiveRefused, Received}
use Rattle.model.specs.Details.{rate_in, kind_received, name_received, connection_received, received_with, receive_answer}
use Rattle.model.proofs.Frames.{put-read}
use Rattle.model.specs.Call.{Outcome}
use Rattle.model.specs.Step.{refuse, accept, replay, of_open, data_cell_step, read_step, receive_step}
use Rattle.engine.specs.Contract.{Meets}
use Rattle.engine.proofs.Outcomes.{same_meets, refused-out, replayed-out, put-ordered, level-of, valid-in, loaded-is, updated-is, efci-is}

-- The connection: a backward cell moves the rate, a forward one is turned round from the words of its payload.
module _ (level : ℕ) (o : List ℕ) (f : Fields) (c : Connection) where
  work-answers : {r : Connection} → f.dir ≡ 1 → r ≡ after_backward_cell f c → r ≡ after_rm_cell level o f c
  unfolding after_rm_cell
  work-answers e q = rw (eq-eqb f.dir 1 e) q

  work-turns :
      {r : Connection} (p : Payload) → length o ≡ 53 → ((i : ℕ) → get_or o i 0 < 256) → (f.dir ≡ 1 → ⊥) → p ≡ payload_of (payload o) → r ≡ after_forward_payload level p c
      → r ≡ after_rm_cell level o f c
  unfolding after_rm_cell
  work-turns p n h e a q =
      rw (ne_eqb f.dir 1 e) (q ∙ ap (λ (x : Payload). after_forward_payload level x c) a ∙ after-forward-cell-words level o c n h)

  is-turning : (f.dir ≡ 1 → ⊥) → after_rm_cell level o f c ≡ after_forward_cell level o c
  unfolding after_rm_cell
  is-turning e = rw (ne_eqb f.dir 1 e)

after-data-cell-same : (e : Bool) (c : Connection) → KeepsIdentity c (after_data_cell e c)
unfolding after_data_cell
after-data-cell-same e c = record { name = refl; opened = refl; trm = refl; params = refl }

-- The step of a cell that changes its connection by g.
abbrev changing : State → ℕ → (Connection → Connection) → Outcome
changing s v g = of_open s (find v s.entries) λ c. replay (leaf_of v s) s (with_entry_of v (taken (g c)) s)

data-step : (s : State) (a b : ℕ) (e : Bool) → is_path (address_name a b) ≡ false → read_step s [] (DataCell a b e) ≡ changing s (owner (address_name a b) s.members) (after_data_cell e)
unfolding read_step data_cell_step require
data-step s a b e i = rw i

work_step : (s : State) (o : List ℕ) (f : Fields) → read_step s o (RmCell f) ≡ changing s (cell_name f) (after_rm_cell s.level o f)
unfolding read_step
work_step s o f = refl

missed : (s : State) (v : ℕ) (g : Connection → Connection) → find v s.entries ≡ free → changing s v g ≡ refuse s 11
unfolding of_open
missed s v g q = rw q

met : (s : State) (v : ℕ) (g : Connection → Connection) (c : Connection) → find v s.entries ≡ taken c → changing s v g ≡ replay (leaf_of v s) s (with_entry_of v (taken (g c)) s)
unfolding of_open
met s v g c q = rw q

pub data-on-path : (s : State) (a b : ℕ) (e : Bool) → is_path (address_name a b) ≡ true → read_step s [] (DataCell a b e) ≡ refuse s 11
unfolding read_step data_cell_step require
data-on-path s a b e i = rw i

pub data-missing :
    (s : State) (a b : ℕ) (e : Bool) → is_path (address_name a b) ≡ false → find (owner (address_name a b) s.members) s.entries ≡ free → read_step s [] (DataCell a b e) ≡ refuse s 11
data-missing s a b e i q = data-step s a b e i ∙ missed s (owner (address_name a b) s.members) (after_data_cell e) q

pub work-missing : (s : State) (o : List ℕ) (f : Fields) → find (cell_name f) s.entries ≡ free → read_step s o (RmCell f) ≡ refuse s 11
work-missing s o f q = work_step s o f ∙ missed s (cell_name f) (after_rm_cell s.level o f) q

-- a refused cell
pub receive-refused :
    {l : List ℕ} {o : Outcome} (r : Reading) (s : State) (n : ℕ) → l ≡ words s → o ≡ refuse s n → (l ≡ words o.state) × (ReceiveRefused n ≡ receive_answer r s o)
receive-refused {o = o} r s n e q =
    let h = refused-out s n e q in
    (h.0, ap (received_with (kind_received r) (name_received r) (leaf_of (connection_received r s) s) (rate_in (find (connection_received r s) o.state.entries))) h.1)

-- The step's outcome on the connection in entry i, which becomes x.
module _ (s : State) (w : WellFormed s) {v i : ℕ} (p : Located s.entries v i) (g : Connection → Connection) (name : (g p.holder).name ≡ p.holder.name) (o : Outcome) (step : o ≡ changing s v g) where
  rate-after : rate_in (find v o.state.entries) ≡ (g p.holder).rate.acr
  unfolding replay accept
  rate-after =
      ap (λ (z : Outcome). rate_in (find v z.state.entries)) (step ∙ met s v g p.holder (found_at p))
      ∙ put-read rate_in v v s w.unique p.holder (g p.holder) (found_at p) name ∙ rw (eq-eqb v v refl) refl

  -- where the words are those of the changed connection: the words, and what is answered of a cell read as r
  changed :
      {m : List ℕ} {n : ℕ} → (m ≡ words (with_entry_of v (taken (g p.holder)) s)) × (n ≡ replayed (leaf_of v s) s.entries (with_entry_of v (taken (g p.holder)) s).entries)
      → (r : Reading) → connection_received r s ≡ v → (x : Connection) → x ≡ g p.holder → (m ≡ words o.state) × (Received n (kind_received r) (name_received r) i x.rate.acr ≡ receive_answer r s o)
  changed {n = n} q r c x y =
      let h = replayed-out (leaf_of v s) s (with_entry_of v (taken (g p.holder)) s) q (step ∙ met s v g p.holder (found_at p)) in
      let rate : ℕ = rate_in (find (connection_received r s) o.state.entries) in
      let is : x.rate.acr ≡ rate = ap (λ (z : Connection). z.rate.acr) y ∙ sym (ap (λ (u : ℕ). rate_in (find u o.state.entries)) c ∙ rate-after) in (
        h.0,
        ap (Received n (kind_received r) (name_received r) i) is ∙ ap (λ (z : ℕ). Received n (kind_received r) (name_received r) z rate) (sym (ap (λ (u : ℕ). leaf_of u s) c ∙ p.place))
            ∙ ap (received_with (kind_received r) (name_received r) (leaf_of (connection_received r s) s) rate) h.1,
      )

-- a connection whose name and validity stay leaves entries that a tournament orders
work-ordered :
    (s : State) (w : WellFormed s) {v i : ℕ} (p : Located s.entries v i) (o : List ℕ) (f : Fields) → cell_name f ≡ v → Playable (with_entry_of v (taken (after_rm_cell s.level o f p.holder)) s).entries
work-ordered s w {v} p o f q =
    put-ordered w v (taken (after_rm_cell s.level o f p.holder)) (work-valid s.level o f p.holder (valid-in s w p)) ((work-same s.level o f p.holder).name ∙ p.named)

-- the saved EFCI moves no ready instant, and nothing else of the connection
after-data-cell-kept :
    (t : Bool) (c : Connection)
    → (source_words (after_data_cell t c) ≡ source_words c) × ((after_data_cell t c).destination.turned ≡ c.destination.turned) × ((after_data_cell t c).destination.made ≡ c.destination.made)
    × ((after_data_cell t c).out_of_rate ≡ c.out_of_rate)
unfolding after_data_cell
after-data-cell-kept t c = (refl, refl, refl, refl)

after-data-cell-ready : (t : Bool) (c : Connection) → ready_instant (after_data_cell t c) ≡ ready_instant c
unfolding after_data_cell
after-data-cell-ready t c = ready-same c (after_data_cell t c) refl refl refl refl refl refl refl

-- what a backward cell and a forward one leave of the other side
after-backward-cell-moved : (f : Fields) (c : Connection) → SourceMoved c (after_backward_cell f c)
unfolding after_backward_cell
after-backward-cell-moved f c = (refl, refl)

after-forward-cell-moved : (level : ℕ) (o : List ℕ) (c : Connection) → DestinationMoved c (after_forward_cell level o c)
unfolding after_forward_cell
after-forward-cell-moved level o c = (refl, refl)

-- the entry's connection, as it was loaded
module _ (s : State) (w : WellFormed s) {l : List ℕ} (e : l ≡ words s) (a b i : ℕ) (h : i < capacity) (p : Located s.entries (owner (address_name a b) s.members) i) (d : Connection) (q : d ≡ connection_at l i) (x : Connection) (z : is_path (address_name a b) ≡ false) where
  pub data-done :
      {m : List ℕ} {n : ℕ} → m ≡ efci_updated l i x.destination → CountsWon l i n → (t : Bool) → x ≡ after_data_cell t d → (u : ℕ) → u ≡ address_name a b
      → (m ≡ words (read_step s [] (DataCell a b t)).state) × (Received n Data u i x.rate.acr ≡ receive_answer (DataCell a b t) s (read_step s [] (DataCell a b t)))
  data-done {n = n} g u t y v named =
      let k = after-data-cell-kept t p.holder in
      let is : x ≡ after_data_cell t p.holder = y ∙ ap (after_data_cell t) (loaded-is s w p e h q) in
      let r =
      changed s w p (after_data_cell t) (after-data-cell-same t p.holder).name (read_step s [] (DataCell a b t)) (data-step s a b t z)
      (efci-is s w e h p (after_data_cell t p.holder) (after-data-cell-same t p.holder) k.0 k.1 k.2 k.3 (after-data-cell-ready t p.holder)
      (g ∙ ap (λ (z : Connection). efci_updated l i z.destination) is) u) (DataCell a b t) refl x is in
      (r.0, ap (λ (z : ℕ). Received n Data z i x.rate.acr) named ∙ r.1)

module _ (s : State) (w : WellFormed s) {l : List ℕ} (e : l ≡ words s) (o : List ℕ) (f : Fields) (i : ℕ) (h : i < capacity) (p : Located s.entries (cell_name f) i) (d : Connection) (q : d ≡ connection_at l i) (x : Connection) where
  -- its kind, by the direction of the cell, and its pair
  is-backward : f.dir ≡ 1 → Turned ≡ kind_received (RmCell f)
  is-backward c = rw (eq-eqb f.dir 1 c) refl

  is-forward : (f.dir ≡ 1 → ⊥) → Forward ≡ kind_received (RmCell f)
  is-forward c = rw (ne_eqb f.dir 1 c) refl

  rm-answered :
      (n v : ℕ) (k : Kind) → v ≡ cell_name f → k ≡ kind_received (RmCell f) → Received n k v i x.rate.acr ≡ Received n (kind_received (RmCell f)) (name_received (RmCell f)) i x.rate.acr
  rm-answered n v k named is = ap (λ (z : ℕ). Received n k z i x.rate.acr) named ∙ ap (λ (z : Kind). Received n z (cell_name f) i x.rate.acr) is

  pub answer-done :
      {m : List ℕ} {n : ℕ} → f.dir ≡ 1 → x ≡ after_backward_cell f d → Updates SourceMoved l m i x n → (v : ℕ) → v ≡ cell_name f
      → (m ≡ words (read_step s o (RmCell f)).state) × (Received n Turned v i x.rate.acr ≡ receive_answer (RmCell f) s (read_step s o (RmCell f)))
  answer-done {m} {n} c a u v named =
      let work : Connection = after_rm_cell s.level o f p.holder in
      let y : x ≡ work = work-answers s.level o f p.holder c (a ∙ ap (after_backward_cell f) (loaded-is s w p e h q)) in
      let r =
      changed s w p (after_rm_cell s.level o f) (work-same s.level o f p.holder).name (read_step s o (RmCell f)) (work_step s o f)
      (updated-is s w.size e p work (work-same s.level o f p.holder) (subst (λ (z : Connection). Updates SourceMoved l m i z n) y u)
      (subst (SourceMoved p.holder) (work-answers s.level o f p.holder c refl) (after-backward-cell-moved f p.holder))
      (work-ordered s w p o f refl)) (RmCell f) refl x y in
      (r.0, rm-answered n v Turned named (is-backward c) ∙ r.1)

  pub turn-done :
      {m : List ℕ} {k : ℕ} → (f.dir ≡ 1 → ⊥) → length o ≡ 53 → ((k : ℕ) → get_or o k 0 < 256) → (g : Payload) → g ≡ payload_of (payload o) → x ≡ after_forward_payload (get_or l level_at 0 % 4294967296) g d
      → Updates DestinationMoved l m i x k → (v : ℕ) → v ≡ cell_name f
      → (m ≡ words (read_step s o (RmCell f)).state) × (Received k Forward v i x.rate.acr ≡ receive_answer (RmCell f) s (read_step s o (RmCell f)))
  turn-done {m} {k} c n z g r a u v named =
      let work : Connection = after_rm_cell s.level o f p.holder in
      let y : x ≡ work =
      work-turns s.level o f p.holder g n z c r
      (a ∙ ap (λ (u : ℕ). after_forward_payload u g d) (level-of s w e) ∙ ap (after_forward_payload s.level g) (loaded-is s w p e h q)) in
      let t : work ≡ after_forward_cell s.level o p.holder = is-turning s.level o f p.holder c in
      let z =
      changed s w p (after_rm_cell s.level o f) (work-same s.level o f p.holder).name (read_step s o (RmCell f)) (work_step s o f)
      (updated-is s w.size e p work (work-same s.level o f p.holder) (subst (λ (z : Connection). Updates DestinationMoved l m i z k) y u)
      (subst (DestinationMoved p.holder) (sym t) (after-forward-cell-moved s.level o p.holder)) (work-ordered s w p o f refl)) (RmCell f) refl x y in
      (z.0, rm-answered k v Forward named (is-forward c) ∙ z.1)

-- what the refusal of a header and that of the rest of an RM cell say of the reading
module _ (o : List ℕ) where
  pub unread-header : (r : Refusal) → number r ≡ header_refusal o → reading o ≡ Unread (number r)
  unread-header r h = (judged-first o r h).refused (λ z. omega (arith, z, number-above-0 r))

  module _ (h : 0 ≡ header_refusal o) (t : leb (type_of o) 3 ≡ false) where
    pub unread-rest : (r : Refusal) → number r ≡ rest_refusal o → reading o ≡ Unread (number r)
    unread-rest r q = (judged-rest o h t (number r) q).refused (λ z. omega (arith, z, number-above-0 r))

    pub fields-read : 0 ≡ rest_refusal o → {f : Fields} → f ≡ fields_of o → reading o ≡ RmCell f
    fields-read q e = (judged-rest o h t 0 q).rm refl t ∙ sym (ap RmCell e)

-- What was read: a refusal, or a cell of 53 octets whose step is the rest.
pub unread : (s : State) (o : List ℕ) (n : ℕ) → reading o ≡ Unread n → receive_step s o ≡ refuse s n
unfolding receive_step read_step
unread s o n e = rw e

pub data-read : (o : List ℕ) (a b : ℕ) (e : Bool) → reading o ≡ DataCell a b e → (s : State) → receive_step s o ≡ read_step s [] (DataCell a b e)
unfolding receive_step read_step
data-read o a b e q s = rw q

pub rm-read : (o : List ℕ) (f : Fields) → reading o ≡ RmCell f → (s : State) → receive_step s o ≡ read_step s o (RmCell f)
unfolding receive_step
rm-read o f q s = rw q

-- the contract of receiving the octets, from that of the step of what was read
pub read_meets :
    {l m : List ℕ} {a : ReceiveAnswer} {r : Reading} {f : State → Outcome} (o : List ℕ) → reading o ≡ r → ((s : State) → receive_step s o ≡ f s) → Meets (receive_answer r) f l m a
    → Meets (receive_answer (reading o)) (λ s. receive_step s o) l m a
read_meets {l} {m} {a} o q h k = subst (λ (x : Reading). Meets (receive_answer x) (λ s. receive_step s o) l m a) (sym q) (same_meets h k)
