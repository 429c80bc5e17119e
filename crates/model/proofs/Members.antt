-- The calls keep entries and members together. Each member's path is open, no member is a channel, and what waits
-- on a path is what waits on its members. (Document 02, L13.)
use Prim.Native.Nat.{ℕ, ◌+◌, ◌-◌, ◌*◌, ◌<◌, ◌≤◌}
use mathlib.Core.Path.{◌≡◌, refl, sym, ap, subst, ◌∙◌}
use mathlib.Core.Logic.{◌≢◌}
use mathlib.Core.Bool.{Bool, true, false, cond, ◌||◌, not, true≢false}
use mathlib.Core.List.{List, []}
use mathlib.Core.Option.{Option, none, some}
use native.Mathlib.Omega.{arith}
use lib.Dec.{eqb}
use lib.ListN.{replicate, length}
use borrow.Author.Tests.{eqb-true, eqb-false, eq-eqb, ne_eqb, not-true}
use Rattle.cell.specs.Name.{vci_in, no_name}
use Rattle.connection_members.specs.Path.{is_path, first_vci, path_of}
use Rattle.connection_members.specs.Members.{Member, member_capacity, named, on_path, any_where, cells_where, is_member, cells_of, path_cells, with_member, without_member, without_path, with_cells}
use Rattle.connection_members.specs.Turn.{turn, after_serving}
use Rattle.connection_members.specs.Invariant.{ValidMembers}
use Rattle.connection_members.proofs.Names.{path-is-path}
use Rattle.connection_members.proofs.Lists.{without-member, without-one, without-path, with-member-any, with-member-cells, with-cells-any, with-cells-one, cells-on-path}
use Rattle.connection_members.proofs.Valid.{none-valid, without-valid, with-member-valid, with-cells-valid, cells_fit, path-cells-most}
use Rattle.connection_members.proofs.Turns.{turn-picks, turn-some, turn-none}
use Rattle.connection.specs.declared.parts.Connection.{Connection}
use Rattle.connection.specs.Parts.{waiting}
use Rattle.model.specs.State.{State, free, taken, capacity, is_free, find, with_entry_of, with_opened, room_left, entry_cells}
use Rattle.model.specs.Invariant.{NamesUnique, MembersOf}
use Rattle.model.proofs.Entries.{Case, same, other, case, absent-find, each_free}
use Rattle.model.proofs.Frames.{put-read, put-kept, with-opened-read, freed-read}
use Rattle.laws.proofs.Tests.{both}

-- no member at all
pub none-members : MembersOf (replicate capacity free) []
unfolding any_where cells_where entry_cells
none-members = record {
  valid = none-valid;
  on_open_path = λ x e. absurd (true≢false (sym e));
  no_channel = λ x e. absurd (true≢false (sym e));
  sum = λ v e. ap entry_cells (absent-find v (replicate capacity free) (each_free (λ c. c.name ≢ v) capacity));
}

module _ (s : State) (a : NamesUnique s.entries) {ms : List Member} (m : MembersOf s.entries ms) where
  -- a connection changes in its entry, and the members with it: none is new, and the sums hold
  pub changed-members :
      (u : ℕ) (d e : Connection) → find u s.entries ≡ taken d → e.name ≡ d.name → (ns : List Member) → ValidMembers ns
      → ((y : ℕ) → is_member y ns ≡ true → is_member y ms ≡ true)
      → ((w : ℕ) → is_path w ≡ true → cond (eqb u w) (waiting e.queue) (path_cells w ms) ≡ path_cells w ns)
      → MembersOf (with_entry_of u (taken e) s).entries ns
  unfolding is_free entry_cells
  changed-members u d e f n ns v among sums = record {
    valid = v;
    on_open_path = λ x h. put-kept is_free (path_of x) u s a d e f n refl ∙ m.on_open_path x (among x h);
    no_channel = λ x h. put-kept is_free x u s a d e f n refl ∙ m.no_channel x (among x h);
    sum = λ w p. put-read entry_cells w u s a d e f n ∙ ap (cond (eqb u w) (waiting e.queue)) (m.sum w p) ∙ sums w p;
  }

  -- what waits on an open path
  pub path-sum : (u : ℕ) (d : Connection) → find u s.entries ≡ taken d → is_path u ≡ true → waiting d.queue ≡ path_cells u ms
  unfolding entry_cells
  path-sum u d f p = ap entry_cells (sym f) ∙ m.sum u p

  -- what waits stays
  pub kept-members :
      (u : ℕ) (d e : Connection) → find u s.entries ≡ taken d → e.name ≡ d.name → waiting e.queue ≡ waiting d.queue
      → MembersOf (with_entry_of u (taken e) s).entries ms
  kept-members u d e f n q = changed-members u d e f n ms m.valid (λ y h. h) sums
    where
      sums : (w : ℕ) → is_path w ≡ true → cond (eqb u w) (waiting e.queue) (path_cells w ms) ≡ path_cells w ms
      sums w p = go (case u w)
        where
          go : Case u w → cond (eqb u w) (waiting e.queue) (path_cells w ms) ≡ path_cells w ms
          go (same z) = rw (eq-eqb u w z) (q ∙ path-sum u d f (ap is_path z ∙ p) ∙ ap (λ (x : ℕ). path_cells x ms) z)
          go (other z) = rw (ne_eqb u w z)

  -- what waits on a channel changes, and no member with it
  pub channel-members :
      (u : ℕ) (d e : Connection) → find u s.entries ≡ taken d → e.name ≡ d.name → is_path u ≡ false → MembersOf (with_entry_of u (taken e) s).entries ms
  channel-members u d e f n c = changed-members u d e f n ms m.valid (λ y h. h) sums
    where
      sums : (w : ℕ) → is_path w ≡ true → cond (eqb u w) (waiting e.queue) (path_cells w ms) ≡ path_cells w ms
      sums w p = rw (ne_eqb u w (λ z. true≢false (sym p ∙ ap is_path (sym z) ∙ c)))

  -- a new connection, on whose name no member stands and nothing waits
  pub with-opened-members :
      (d : Connection) → find d.name s.entries ≡ free → room_left s ≡ true → is_member d.name ms ≡ false → waiting d.queue ≡ 0
      → MembersOf (with_opened d s).entries ms
  unfolding is_free entry_cells
  with-opened-members d f room n q = record {
    valid = m.valid;
    on_open_path = λ x h. with-opened-read is_free (path_of x) s d f room ∙ opens (eqb d.name (path_of x)) (m.on_open_path x h);
    no_channel = λ x h. with-opened-read is_free x s d f room ∙ ap (λ (b : Bool). cond b false (is_free (find x s.entries))) (ne_eqb d.name x (apart x h)) ∙ m.no_channel x h;
    sum = λ w p. with-opened-read entry_cells w s d f room ∙ nothing (case d.name w) ∙ m.sum w p;
  }
    where
      opens : (b : Bool) {x : Bool} → x ≡ false → cond b false x ≡ false
      opens true e = refl
      opens false e = e

      apart : (x : ℕ) → is_member x ms ≡ true → d.name ≢ x
      apart x h z = true≢false (sym h ∙ ap (λ (y : ℕ). is_member y ms) (sym z) ∙ n)

      nothing : {w : ℕ} → Case d.name w → cond (eqb d.name w) (waiting d.queue) (entry_cells (find w s.entries)) ≡ entry_cells (find w s.entries)
      nothing {w} (same z) = rw (eq-eqb d.name w z, ← z, f) q
      nothing {w} (other z) = rw (ne_eqb d.name w z)

  -- a close takes a path's members with it
  pub ended-members : (u : ℕ) → MembersOf (with_entry_of u free s).entries (without_path u ms)
  unfolding is_free entry_cells
  ended-members u = record {
    valid = without-valid (on_path u) ms m.valid;
    on_open_path = λ x h. let z = stays x h in freed-read is_free (path_of x) u s a ∙ ap (λ (b : Bool). cond b true (is_free (find (path_of x) s.entries))) (ne_eqb u (path_of x) (λ e. z.1 (sym e))) ∙ m.on_open_path x z.0;
    no_channel = λ x h. freed-read is_free x u s a ∙ frees (eqb u x) (m.no_channel x (stays x h).0);
    sum = λ w p. freed-read entry_cells w u s a ∙ ap (cond (eqb u w) 0) (m.sum w p) ∙ cleared w (case u w);
  }
    where
      frees : (b : Bool) {x : Bool} → x ≡ true → cond b true x ≡ true
      frees true e = refl
      frees false e = e

      stays : (x : ℕ) → is_member x (without_path u ms) ≡ true → (is_member x ms ≡ true) × (path_of x ≢ u)
      stays x h = let z = both (is_member x ms) (not (eqb (path_of x) u)) (sym (without-member x (on_path u) ms) ∙ h) in (z.0, eqb-false _ _ (not-true _ z.1))

      cleared : (w : ℕ) → Case u w → cond (eqb u w) 0 (path_cells w ms) ≡ path_cells w (without_path u ms)
      cleared w (same e) = rw (without-path w u ms, eq-eqb u w e, eq-eqb w u (sym e))
      cleared w (other e) = rw (without-path w u ms, ne_eqb u w e, ne_eqb w u (λ z. e (sym z)))

  -- Calls on the member x of the open path d.
  pub added-members :
      (x : ℕ) (d : Connection) → find (path_of x) s.entries ≡ taken d → x < no_name → first_vci ≤ vci_in x → find x s.entries ≡ free → is_member x ms ≡ false
      → length ms < member_capacity → MembersOf s.entries (with_member x ms)
  unfolding is_free
  added-members x d f coded high new absent room = record {
    valid = with-member-valid x ms m.valid coded high absent room;
    on_open_path = λ y h. by y (λ z. is_free (find (path_of z) s.entries) ≡ false) (ap is_free f) (m.on_open_path y) h;
    no_channel = λ y h. by y (λ z. is_free (find z s.entries) ≡ true) (ap is_free new) (m.no_channel y) h;
    sum = λ w p. m.sum w p ∙ sym (with-member-cells (on_path w) x ms);
  }
    where
      -- of the new member and of the others
      by : (y : ℕ) (P : ℕ → Type 0) → P x → (is_member y ms ≡ true → P y) → is_member y (with_member x ms) ≡ true → P y
      by y P p old h = go (eqb x y) refl (sym (with-member-any (named y) x ms) ∙ h)
        where
          go : (b : Bool) → eqb x y ≡ b → (b || is_member y ms) ≡ true → P y
          go true q e = subst P (eqb-true x y q) p
          go false q e = old e

  -- as much as waits on the member more or less waits on its path
  pub stocked-members :
      (x : ℕ) (d e : Connection) → find (path_of x) s.entries ≡ taken d → e.name ≡ d.name → is_member x ms ≡ true → (k : ℕ) → k ≤ 65535
      → waiting e.queue + cells_of x ms ≡ waiting d.queue + k → MembersOf (with_entry_of (path_of x) (taken e) s).entries (with_cells x k ms)
  stocked-members x d e f n i k fit q =
      changed-members (path_of x) d e f n (with_cells x k ms) (with-cells-valid x k ms m.valid fit) (λ y h. sym (with-cells-any (named y) x k ms) ∙ h) sums
    where
      sums : (w : ℕ) → is_path w ≡ true → cond (eqb (path_of x) w) (waiting e.queue) (path_cells w ms) ≡ path_cells w (with_cells x k ms)
      sums w p = go (case (path_of x) w) (with-cells-one (on_path w) x k ms m.valid.rising i)
        where
          go : Case (path_of x) w → path_cells w (with_cells x k ms) + cond (eqb (path_of x) w) (cells_of x ms) 0 ≡ path_cells w ms + cond (eqb (path_of x) w) k 0
              → cond (eqb (path_of x) w) (waiting e.queue) (path_cells w ms) ≡ path_cells w (with_cells x k ms)
          go (same z) h =
              let g : path_cells w (with_cells x k ms) + cells_of x ms ≡ path_cells w ms + k = rw (eq-eqb (path_of x) w z) at h in
              let t : waiting d.queue ≡ path_cells w ms = path-sum (path_of x) d f (ap is_path z ∙ p) ∙ ap (λ (v : ℕ). path_cells v ms) z in
              rw (eq-eqb (path_of x) w z) (omega (arith, q, g, t))
          go (other z) h =
              let g : path_cells w (with_cells x k ms) + 0 ≡ path_cells w ms + 0 = rw (ne_eqb (path_of x) w z) at h in
              rw (ne_eqb (path_of x) w z) (omega (arith, g))

  pub removed-members :
      (x : ℕ) (d e : Connection) → find (path_of x) s.entries ≡ taken d → e.name ≡ d.name → waiting e.queue + cells_of x ms ≡ waiting d.queue
      → MembersOf (with_entry_of (path_of x) (taken e) s).entries (without_member x ms)
  removed-members x d e f n q =
      changed-members (path_of x) d e f n (without_member x ms) (without-valid (named x) ms m.valid) (λ y h. (both _ _ (sym (without-member y (named x) ms) ∙ h)).0) sums
    where
      sums : (w : ℕ) → is_path w ≡ true → cond (eqb (path_of x) w) (waiting e.queue) (path_cells w ms) ≡ path_cells w (without_member x ms)
      sums w p = go (case (path_of x) w) (without-one (on_path w) x ms)
        where
          go : Case (path_of x) w → path_cells w (without_member x ms) + cond (eqb (path_of x) w) (cells_of x ms) 0 ≡ path_cells w ms
              → cond (eqb (path_of x) w) (waiting e.queue) (path_cells w ms) ≡ path_cells w (without_member x ms)
          go (same z) h =
              let g : path_cells w (without_member x ms) + cells_of x ms ≡ path_cells w ms = rw (eq-eqb (path_of x) w z) at h in
              let t : waiting d.queue ≡ path_cells w ms = path-sum (path_of x) d f (ap is_path z ∙ p) ∙ ap (λ (v : ℕ). path_cells v ms) z in
              rw (eq-eqb (path_of x) w z) (omega (arith, q, g, t))
          go (other z) h =
              let g : path_cells w (without_member x ms) + 0 ≡ path_cells w ms = rw (ne_eqb (path_of x) w z) at h in
              rw (ne_eqb (path_of x) w z) (omega (arith, g))

  -- no more waits on a member than on its path
  pub member-waits : (x : ℕ) (d : Connection) → find (path_of x) s.entries ≡ taken d → cells_of x ms ≤ waiting d.queue
  member-waits x d f = omega (arith, cells-on-path x ms, path-sum (path_of x) d f (path-is-path x))

  -- a data cell that waited is sent; on a path it is that of the member whose turn it is
  pub served-members :
      (u q : ℕ) (d e : Connection) → find u s.entries ≡ taken d → e.name ≡ d.name → 0 < waiting d.queue → waiting e.queue + 1 ≡ waiting d.queue
      → MembersOf (with_entry_of u (taken e) s).entries (after_serving (turn u q ms) ms)
  unfolding after_serving
  served-members u q d e f n waits less = go (is_path u) refl (turn u q ms) refl
    where
      fewer : (c : ℕ) → 0 < c → waiting e.queue + c ≡ waiting d.queue + (c - 1)
      fewer c h = omega (arith, h, less)

      go : (b : Bool) → is_path u ≡ b → (x : Option ℕ) → turn u q ms ≡ x → MembersOf (with_entry_of u (taken e) s).entries (after_serving x ms)
      go false c x t = subst (λ y. MembersOf (with_entry_of u (taken e) s).entries (after_serving y ms)) (sym (turn-none u q ms c) ∙ t) (channel-members u d e f n c)
      go true c none t = absurd (turn-some u q ms (omega (arith, waits, path-sum u d f c)) t)
      go true c (some x) t =
          let p = turn-picks u q ms x t in
          let g : find (path_of x) s.entries ≡ taken d = ap (λ (v : ℕ). find v s.entries) p.path ∙ f in
          subst (λ (v : ℕ). MembersOf (with_entry_of v (taken e) s).entries (with_cells x (cells_of x ms - 1) ms)) p.path
          (stocked-members x d e g n p.member (cells_of x ms - 1) (omega (arith, cells_fit x ms m.valid)) (fewer (cells_of x ms) p.some))

  -- after a member's offer no more waits on its path than may wait on all members
  pub offered-most :
      (x n : ℕ) (d : Connection) → find (path_of x) s.entries ≡ taken d → is_member x ms ≡ true → cells_of x ms + n ≤ 65535
      → waiting d.queue + n ≤ member_capacity * 65535
  offered-most x n d f i h =
      let k = cells_of x ms + n in
      let e : path_cells (path_of x) (with_cells x k ms) + cells_of x ms ≡ path_cells (path_of x) ms + k =
      rw (eq-eqb (path_of x) (path_of x) refl) at (with-cells-one (on_path (path_of x)) x k ms m.valid.rising i) in
      omega (arith, e, path-sum (path_of x) d f (path-is-path x), path-cells-most (path_of x) (with_cells x k ms) (with-cells-valid x k ms m.valid h))
