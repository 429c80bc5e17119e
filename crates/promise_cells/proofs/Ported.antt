-- What a port leaves of a backward cell is at least as congested, and every other cell stays. So
-- demand 3 compares the lists.
use Prim.Native.Nat.{ℕ, ◌/◌, ◌%◌, ◌≤◌}
use mathlib.Core.Path.{◌≡◌, refl, sym, ap, ◌∙◌, subst}
use mathlib.Core.Logic.{by_cases}
use mathlib.Core.List.{List, [], ◌∷◌}
use native.Mathlib.Decide.{ℕ_discrete}
use native.Mathlib.Nat.{le_of_eq}
use native.Mathlib.Omega.{arith}
use borrow.Author.Tests.{eq-eqb}
use lib.ListN.{get_or, take}
use lib.Seq.{get_or-take, take-take}
use Rattle.rate.specs.Code.{rate_of}
use Rattle.cell.specs.declared.fields.Fields.{Fields}
use Rattle.cell.specs.Read.{Reading, Refused, DataCell, RmCell}
use Rattle.cell.specs.Octets.{octet}
use Rattle.cell.specs.Fields.{fields_of, crc_right}
use Rattle.cell.specs.Reading.{reading}
use Rattle.cell.proofs.Admits.{rm-received}
use Rattle.port.specs.Limit.{Forwarded, held_er, limit}
use Rattle.port.specs.Limited.{fields_with_er, SameButEr, Limited}
use Rattle.port.proofs.Cases.{limit-refused, limit-data, limit-forward}
use Rattle.port.proofs.Limited.{headed, backward-limited}
use Rattle.model.specs.Call.{Call, receiving}
use Rattle.promise_lists.specs.Congestion.{level_of, RightChecks, Backward, SameButFeedback, AtLeastAsCongested}
use Rattle.promise_lists.specs.Demand3.{InPlace, Comparable, equal, congested}
use Rattle.promise_lists.proofs.Demand3.{demand3}
use Rattle.promise_cells.specs.Ported.{Ported, same, held, PortsNeverRaise}

-- a cell that is read as an RM cell has right checks
right : (o : List ℕ) (f : Fields) → reading o ≡ RmCell f → RightChecks o
unfolding crc_right
right o f e = record {
  size = (rm-received o f e).size;
  header = (headed o f e).header;
  crc = eq-eqb _ _ (rm-received o f e).check;
}

-- the same except for ER is the same except for ER and the marks
no-mark : {o n : List ℕ} → SameButEr o n → SameButFeedback o n
no-mark {o} {n} s = record {
  start = sym (take-take 6 7 o (omega arith)) ∙ ap (take 6) (sym s.start) ∙ take-take 6 7 n (omega arith);
  dir_bn = ap (λ (x : ℕ). x / 64) seven;
  ra_reserved = ap (λ (x : ℕ). x % 16) seven;
  middle = sym s.middle;
  reserved = sym s.reserved;
}
  where
    seven : octet 7 o ≡ octet 7 n
    seven = sym (get_or-take 7 o 6 0 (omega arith)) ∙ ap (λ (l : List ℕ). get_or l 6 0) (sym s.start) ∙ get_or-take 7 n 6 0 (omega arith)

module _ (rate : ℕ) (o : List ℕ) (f : Fields) (e : reading o ≡ RmCell f) (d : f.dir ≡ 1) where
  limited : Limited rate o f
  limited = backward-limited rate o f e d

  abbrev new : List ℕ
  new = (limit rate o).cell

  -- what the two cells carry
  before : f ≡ fields_of o
  before = (rm-received o f e).fields

  after : fields_with_er (held_er rate f.er) f ≡ fields_of new
  after = (rm-received new (fields_with_er (held_er rate f.er) f) limited.fields).fields

  pub more-congested : AtLeastAsCongested new o
  more-congested = record {
    right_first = right o f e;
    right_second = right new _ limited.fields;
    clear_first = (rm-received o f e).clear;
    clear_second = (rm-received new _ limited.fields).clear;
    rest = no-mark limited.octets;
    rate = not-higher;
    level = le_of_eq (ap level_of (sym before) ∙ ap level_of after);
  }
    where
      not-higher : rate_of (fields_of new).er ≤ rate_of (fields_of o).er
      not-higher =
          let a : rate_of f.er ≡ rate_of (fields_of o).er = ap (λ (g : Fields). rate_of g.er) before in
          let b : rate_of (held_er rate f.er) ≡ rate_of (fields_of new).er = ap (λ (g : Fields). rate_of g.er) after in
          omega (arith, limited.greatest.not_above)

  still-backward : Backward new
  still-backward = record {
    is_rm = (headed new _ limited.fields).type;
    is_backward = sym (ap (λ (g : Fields). g.dir) after) ∙ d;
  }

unmoved : {o : List ℕ} {n : ℕ} {p : Forwarded} → record { refusal = n; cell = o } ≡ p → Comparable (receiving o) (receiving p.cell)
unmoved {o} e = subst (λ (q : Forwarded). Comparable (receiving o) (receiving q.cell)) e equal

pub comparable : {c d : Call} → Ported c d → Comparable c d
comparable same = equal
comparable (held rate o) = go (reading o) refl
  where
    go : (r : Reading) → reading o ≡ r → Comparable (receiving o) (receiving (limit rate o).cell)
    go (Refused n) e = unmoved (limit-refused rate o e)
    go (DataCell vpi vci efci) e = unmoved (limit-data rate o e)
    go (RmCell f) e =
        by_cases (ℕ_discrete f.dir 1)
        (λ d. congested (still-backward rate o f e d) (more-congested rate o f e d))
        (λ d. unmoved (limit-forward rate o e d))

each : (xs ys : List Call) → InPlace Ported xs ys → InPlace Comparable xs ys
each [] [] h = tt
each [] (y ∷ ys) h = h
each (x ∷ xs) [] h = h
each (x ∷ xs) (y ∷ ys) h = (comparable h.0, each xs ys h.1)

pub ports-never-raise : PortsNeverRaise
ports-never-raise xs ys h = demand3.pairs xs ys (each xs ys h)
