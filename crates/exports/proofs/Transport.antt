-- What carries a statement on lists of calls over to lists of exported calls. The words stand for a state.
-- Each exported call is seen as its step. What a caller keeps of the calls and the numbers that they
-- returned is kept of the states.
use Prim.Native.Nat.{ℕ}
use mathlib.Core.Path.{◌≡◌, refl, sym, ap, subst, ◌∙◌}
use mathlib.Core.Bool.{true}
use mathlib.Core.List.{List, [], ◌∷◌, ◌++◌}
use lib.Dec.{eqb}
use borrow.Author.Tests.{eq-eqb, eqb-true}
use Rattle.model.specs.State.{State, empty}
use Rattle.model.specs.Invariant.{WellFormed}
use Rattle.model.specs.Answers.{Answer}
use Rattle.model.specs.Call.{Call, Outcome}
use Rattle.model.specs.Aspects.{sort_of}
use Rattle.model.specs.Step.{step}
use Rattle.model.specs.Run.{final, is_accepted}
use Rattle.model.specs.Queries.{acr_of}
use Rattle.model.specs.Conservation.{sum_over}
use Rattle.model.proofs.Preserved.{empty-well-formed}
use Rattle.model.proofs.Reached.{step-well-formed, final-append}
use Rattle.model.proofs.BySort.{BySort, an_opening, an_opening_path, a_closing, a_receiving, a_slot, another_call, by_sort}
use Rattle.table.specs.Layout.{words}
use Rattle.abr_answers.specs.declared.calls.AbrAllowed.{AbrAllowed}
use Rattle.abr_answers.specs.Calls.{allowed_of}
use Rattle.abr.specs.Contract.{ReturnsAllowed}
use Rattle.abr.specs.Exports.{besides_by, Observation, Performs, abr_receive, Transcript, ended, then, final_words, zeros, Matches}
use Rattle.abr.proofs.Exports.{performs-matches, performs-besides, zeros-words}
use Rattle.laws.specs.All.{All}
use Rattle.promise_lists.specs.Demand3.{InPlace}
use Rattle.promise_cells.specs.ReservedBit.{OfOctets, OctetsIn}
use Rattle.exports.specs.Conservation.{sum_observed}
use Rattle.exports.proofs.Exports.{accepted-seen}
use Rattle.exports.specs.Along.{kept, Along}

-- These words are those of this state. Calls make it from the empty table, and the cells that
-- they receive consist of octets.
pub record Stands (s : State) (l : List ℕ) : Type 0 where
  pub calls : List Call
  pub reached : final empty calls ≡ s
  pub octets : All OfOctets calls
  pub well_formed : WellFormed s
  pub table : l ≡ words s

-- an exported call in this state: its table, answer and buffer, what it returned besides, and whether it was accepted
pub record Sees (s : State) (c : Call) (o : Observation) : Type 0 where
  pub calls : List Call
  pub reached : final empty calls ≡ s
  pub octets : All OfOctets calls
  pub of_octets : OfOctets c
  pub well_formed : WellFormed s
  pub matches : Matches (step s c) o
  pub besides : o.besides ≡ besides_by s (step s c) (sort_of c)
  pub accepted : eqb o.returned.refusal 0 ≡ is_accepted (step s c).answer
  pub next : Stands (step s c).state o.table

pub stands-first : Stands empty zeros
stands-first = record { calls = []; reached = refl; octets = tt; well_formed = empty-well-formed; table = zeros-words }

octets-one : (cs : List Call) (c : Call) → All OfOctets cs → OfOctets c → All OfOctets (cs ++ (c ∷ []))
octets-one [] c q h = (h, tt)
octets-one (d ∷ cs) c q h = (q.0, octets-one cs c q.1 h)

-- the octets of a received cell, by C's type; no other call has any
performed-octets : {c : Call} → BySort c → {l : List ℕ} {o : Observation} → Performs c l o → OfOctets c
performed-octets (an_opening a b t p) h = tt
performed-octets (an_opening_path a t p) h = tt
performed-octets (a_closing a b) h = tt
performed-octets (a_receiving x) (abr_receive q h) = q
performed-octets (a_slot t room) h = tt
performed-octets (another_call c e) h = subst OctetsIn (sym e) tt

pub sees : {s : State} {l : List ℕ} → Stands s l → {c : Call} {o : Observation} → Performs c l o → Sees s c o
sees {s} st {c} p =
    let m = performs-matches st.well_formed p st.table in
    record {
      calls = st.calls;
      reached = st.reached;
      octets = st.octets;
      of_octets = performed-octets (by_sort c) p;
      well_formed = st.well_formed;
      matches = m;
      besides = performs-besides st.well_formed p st.table;
      accepted = accepted-seen st.well_formed c m;
      next = record {
        calls = st.calls ++ (c ∷ []);
        reached = final-append empty st.calls (c ∷ []) ∙ ap (λ (r : State). (step r c).state) st.reached;
        octets = octets-one st.calls c st.octets (performed-octets (by_sort c) p);
        well_formed = step-well-formed st.well_formed c;
        table = m.table;
      };
    }

-- a call that returned 0 was accepted, and the other way round
pub was-accepted : {s : State} {c : Call} {o : Observation} → Sees s c o → o.returned.refusal ≡ 0 → is_accepted (step s c).answer ≡ true
was-accepted {o = o} z e = sym z.accepted ∙ eq-eqb o.returned.refusal 0 e

pub returned-zero : {s : State} {c : Call} {o : Observation} → Sees s c o → is_accepted (step s c).answer ≡ true → o.returned.refusal ≡ 0
returned-zero {o = o} z e = eqb-true o.returned.refusal 0 (z.accepted ∙ e)

pub stands_after : {s : State} {l : List ℕ} → Stands s l → (cs : List Call) (os : List Observation) → Transcript cs l os → Stands (final s cs) (final_words l os)
stands_after st [] [] ended = st
stands_after {s = s} {l = l} st (c ∷ cs) (o ∷ os) (then p t) = stands_after {s = (step s c).state} (sees st p).next cs os t
stands_after {s = s} {l = l} st [] (o ∷ os) x3 = elim x3 [ ]
stands_after {s = s} {l = l} st (c ∷ cs) [] x4 = elim x4 [ ]

-- after calls from the zero table
pub stands : (cs : List Call) (os : List Observation) → Transcript cs zeros os → Stands (final empty cs) (final_words zeros os)
stands cs os t = stands_after stands-first cs os t

-- What a caller keeps of calls and what they returned means this of the state: each call keeps it so.
pub record Keeps {K : Type 0} (next : Call → Observation → K → K) (Means : K → State → Type 0) : Type 0 where
  pub goes : (s : State) (c : Call) (o : Observation) (k : K) → Means k s → Sees s c o → Means (next c o k) (step s c).state

module _ {K : Type 0} (next : Call → Observation → K → K) (Means : K → State → Type 0) (n : Keeps next Means) where
  -- THE TRANSPORT, an induction along a trace. At each call what is kept holds, the call is seen as the step of a
  -- state that calls make, and the claim of the rest may be used. The claim may be about the state, what is kept,
  -- the calls and the observations.
  pub carry :
      (G : State → K → List Call → List Observation → Type 0) → ((s : State) (k : K) → G s k [] [])
      → ((s : State) (c : Call) (o : Observation) (k : K) (cs : List Call) (os : List Observation) → Means k s → Sees s c o → G (step s c).state (next c o k) cs os → G s k (c ∷ cs) (o ∷ os))
      → (s : State) (l : List ℕ) → Stands s l → (k : K) → Means k s → (cs : List Call) (os : List Observation) → Transcript cs l os → G s k cs os
  carry G base more s l st k m [] [] ended = base s k
  carry G base more s l st k m (c ∷ cs) (o ∷ os) (then p t) =
      let z = sees st p in more s c o k cs os m z (carry G base more (step s c).state o.table z.next (next c o k) (n.goes s c o k m z) cs os t)
  carry G base more s l st k m [] (o ∷ os) x4 = elim x4 [ ]
  carry G base more s l st k m (c ∷ cs) [] x5 = elim x5 [ ]

  -- what is kept after a trace is so
  pub kept-so : (s : State) (l : List ℕ) → Stands s l → (k : K) → Means k s → (cs : List Call) (os : List Observation) → Transcript cs l os → Means (kept next k cs os) (final s cs)
  kept-so s l st k m [] [] ended = m
  kept-so s l st k m (c ∷ cs) (o ∷ os) (then p t) = let z = sees st p in kept-so (step s c).state o.table z.next (next c o k) (n.goes s c o k m z) cs os t
  kept-so s l st k m [] (o ∷ os) x4 = elim x4 [ ]
  kept-so s l st k m (c ∷ cs) [] x5 = elim x5 [ ]

  -- every call of a trace from the zero table is so
  pub each_seen :
      (Q : K → Call → Observation → Type 0) → ((s : State) (c : Call) (o : Observation) (k : K) → Means k s → Sees s c o → Q k c o) → (k : K) → Means k empty
      → (cs : List Call) (os : List Observation) → Transcript cs zeros os → Along next Q k cs os
  each_seen Q h k m cs os t = carry (λ s k cs os. Along next Q k cs os) (λ s k. tt) (λ s c o k cs os m z r. (h s c o k m z, r)) empty zeros stands-first k m cs os t

-- A caller that keeps nothing.
abbrev pub nothing : Call → Observation → ℕ → ℕ
nothing c o k = k

abbrev pub Anything : ℕ → State → Type 0
Anything k s = Unit

pub keeps-nothing : Keeps nothing Anything
keeps-nothing = record { goes = λ s c o k m z. tt }

-- Take what is true of every outcome of every list of calls whose received cells consist of octets. If it can be
-- read off table, answer and buffer, it is true of every observation of every trace.
pub each-call :
    (P : Call → Outcome → Type 0) (Q : Call → Observation → Type 0) → ((cs : List Call) → All OfOctets cs → (c : Call) → P c (step (final empty cs) c))
    → ((s : State) (c : Call) (o : Observation) → Sees s c o → P c (step s c) → Q c o) → (cs : List Call) (os : List Observation) → Transcript cs zeros os → InPlace Q cs os
each-call P Q h read cs os t =
    carry nothing Anything keeps-nothing (λ s k cs os. InPlace Q cs os) (λ s k. tt)
    (λ s c o k cs os m z r. (read s c o z (subst (λ (x : State). P c (step x c)) z.reached (h z.calls z.octets c)), r)) empty zeros stands-first 0 tt cs os t

-- a sum over the observations of a trace is that over its answers
pub sum-seen :
    (f : Call → Observation → ℕ) (g : Call → Answer → ℕ) → ((s : State) (c : Call) (o : Observation) → Sees s c o → f c o ≡ g c (step s c).answer)
    → (s : State) (l : List ℕ) → Stands s l → (cs : List Call) (os : List Observation) → Transcript cs l os → sum_observed f cs os ≡ sum_over g s cs
sum-seen f g h s l st cs os t =
    carry nothing Anything keeps-nothing (λ s k cs os. sum_observed f cs os ≡ sum_over g s cs) (λ s k. refl) (λ s c o k cs os m z r. rw (h s c o z, r) refl) s l st 0 tt cs os t

-- what reading the allowed rate gives
pub acr-seen : {s : State} {l : List ℕ} → Stands s l → (v : ℕ) (a : AbrAllowed) → ReturnsAllowed v l a → a ≡ allowed_of (acr_of s v)
acr-seen {s} st v a h = h.meets s st.well_formed st.table
