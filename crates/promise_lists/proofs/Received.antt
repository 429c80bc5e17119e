-- What a received RM cell makes of a table.
use Prim.Native.Nat.{ℕ}
use mathlib.Core.Path.{◌≡◌, refl}
use mathlib.Core.List.{List}
use borrow.Author.Tests.{eq-eqb}
use Rattle.cell.specs.declared.fields.Fields.{Fields}
use Rattle.cell.specs.Read.{RmCell}
use Rattle.cell.specs.Fields.{cell_name}
use Rattle.cell.specs.Reading.{reading}
use Rattle.connection.specs.declared.parts.Connection.{Connection}
use Rattle.connection.specs.Source.{after_backward_cell}
use Rattle.connection.specs.Received.{after_rm_cell}
use Rattle.connection.proofs.Keeps.{work-same}
use Rattle.model.specs.State.{State, Entry, taken, find, leaf_of, with_entry_of}
use Rattle.model.specs.Invariant.{NamesUnique}
use Rattle.model.specs.Call.{receiving}
use Rattle.model.specs.Step.{accept, replay, of_open, read_step, receive_step, step}
use Rattle.model.proofs.Frames.{put-read}
use Rattle.promise_lists.proofs.Pairs.{work-backward}

pub step-rm :
    (s : State) (o : List ℕ) (f : Fields) (c : Connection) → reading o ≡ RmCell f → find (cell_name f) s.entries ≡ taken c
    → step s (receiving o) ≡ replay (leaf_of (cell_name f) s) s (with_entry_of (cell_name f) (taken (after_rm_cell s.level o f c)) s)
unfolding step receive_step read_step of_open
step-rm s o f c e q = rw (e, q)

-- a backward one: its own connection moves
pub step-fed :
    (s : State) → NamesUnique s.entries → (o : List ℕ) (f : Fields) (c : Connection) → reading o ≡ RmCell f → f.dir ≡ 1 → find (cell_name f) s.entries ≡ taken c
    → find (cell_name f) (step s (receiving o)).state.entries ≡ taken (after_backward_cell f c)
unfolding accept replay
step-fed s u o f c e d q =
    rw (
      step-rm s o f c e q,
      put-read (λ (x : Entry). x) (cell_name f) (cell_name f) s u c (after_rm_cell s.level o f c) q (work-same s.level o f c).name,
      eq-eqb (cell_name f) (cell_name f) refl,
      work-backward s.level o f c d,
    )
