-- What kinds of cell follow each other on one connection, as a caller sees them.
use Prim.Native.Nat.{ℕ, suc, ◌<◌}
use mathlib.Core.Path.{◌≡◌, refl, sym, ap, subst, ◌∙◌}
use mathlib.Core.Logic.{◌≢◌}
use mathlib.Core.Bool.{Bool, true, false, cond, ◌&&◌, ◌||◌, not}
use mathlib.Core.List.{List, [], ◌∷◌, ◌++◌}
use native.Mathlib.Omega.{arith}
use lib.Dec.{eqb}
use lib.ListN.{length}
use Rattle.rate_params.specs.declared.params.Params.{Params}
use Rattle.rate_params.specs.Params.{nrm}
use Rattle.connection.specs.declared.parts.Connection.{Connection}
use Rattle.connection.specs.declared.kind.Kind.{Kind}
use Rattle.connection.specs.declared.kind.Kind.TheVariants.{Forward, Turned, Data}
use Rattle.connection.specs.Kind.{kind_number}
use Rattle.connection.specs.Ready.{backward_waits}
use Rattle.model.specs.State.{State, Entry, free, taken, empty, find, entry_cells}
use Rattle.model.specs.Answers.{Answer, Refused, Accepted, Closed, Idle, Sent}
use Rattle.model.specs.Call.{Call}
use Rattle.model.specs.Step.{step}
use Rattle.model.specs.Run.{final}
use Rattle.abr_answers.specs.Reply.{reply_of}
use Rattle.abr.specs.Exports.{Observation, final_words, zeros}
use Rattle.laws.specs.All.{All}
use Rattle.promise_service.specs.Liveness.{Somewhere, here, there}
use Rattle.promise_service.specs.Progress.{OwnCell, entry_answers, own_cell, cells_sent, turned_kind, turned_among, Progress}
use Rattle.promise_service.proofs.Progress.{progresses}
use Rattle.exports.specs.Returned.{connection_returned}
use Rattle.exports.specs.Along.{kept}
use Rattle.exports.proofs.Returned.{NamesConnection, names-connection, connection-back}
use Rattle.exports.proofs.Transport.{Stands, Sees, stands, stands-first, carry, kept-so}
use Rattle.exports.proofs.Known.{params-known}
use Rattle.exports_progress.specs.Progress.{BackwardKept, WaitingKept, nothing_kept, kept_after, SeenCell, seen_cell, seen_cells, turned_seen, ProgressSeen, ExportsProgress}
use Rattle.exports_progress.proofs.Waiting.{answers_of, Waits, keeps-waiting, none-waiting}
use Rattle.exports_progress.proofs.Deaf.{open-known}

-- what a caller sees of a cell
abbrev seen : OwnCell → SeenCell
seen x = record { kind = kind_number x.kind; cells = x.waiting; answers = x.answers }

abbrev all_seen : List OwnCell → List SeenCell
all_seen [] = []
all_seen (x ∷ xs) = seen x ∷ all_seen xs

seen-append : (xs ys : List OwnCell) → all_seen (xs ++ ys) ≡ all_seen xs ++ all_seen ys
seen-append [] ys = refl
seen-append (x ∷ xs) ys = ap (λ (zs : List SeenCell). seen x ∷ zs) (seen-append xs ys)

answers-same : (x : Entry) → ((answers_of x).turned || (answers_of x).made) ≡ entry_answers x
unfolding answers_of entry_answers backward_waits
answers-same free = refl
answers-same (taken c) = refl

-- of one answer
kind-cell : (v : ℕ) (f : ℕ → Bool) (k : ℕ) (b : Bool) (u x a n : ℕ) (j : Kind) → NamesConnection f (Sent u x j a n)
    → cond (not (eqb (kind_number j) 0) && eqb (connection_returned f (reply_of (Sent u x j a n))) v) (record { kind = kind_number j; cells = k; answers = b } ∷ []) []
    ≡ all_seen (cond (eqb u v) (record { kind = j; waiting = k; answers = b } ∷ []) [])
kind-cell v f k b u x a n j h = go j (eqb (connection_returned f (reply_of (Sent u x j a n))) v) (eqb u v) (ap (λ (w : ℕ). eqb w v) (connection-back f u x h))
  where
    go : (j : Kind) (y z : Bool) → y ≡ z
        → cond (not (eqb (kind_number j) 0) && y) (record { kind = kind_number j; cells = k; answers = b } ∷ []) [] ≡ all_seen (cond z (record { kind = j; waiting = k; answers = b } ∷ []) [])
    go Forward true z e = rw (← e) refl
    go Forward false z e = rw (← e) refl
    go Turned true z e = rw (← e) refl
    go Turned false z e = rw (← e) refl
    go Data true z e = rw (← e) refl
    go Data false z e = rw (← e) refl

one_cell : (v : ℕ) (k : WaitingKept) (x : Entry) (a : Answer) → NamesConnection k.member a → k.cells ≡ entry_cells x → (k.answers.turned || k.answers.made) ≡ entry_answers x
    → seen_cell v k (reply_of a) ≡ all_seen (own_cell v x a)
unfolding own_cell
one_cell v k x (Refused n) h c b = refl
one_cell v k x (Accepted n) h c b = refl
one_cell v k x (Closed n j) h c b = refl
one_cell v k x Idle h c b = refl
one_cell v k x (Sent u y j a n) h c b = rw (c, b) (kind-cell v k.member (entry_cells x) (entry_answers x) u y a n j h)

cell-seen : (v : ℕ) (s : State) (c : Call) (o : Observation) (k : WaitingKept) → Waits v k s → Sees s c o → seen_cell v k o.returned ≡ all_seen (own_cell v (find v s.entries) (step s c).answer)
cell-seen v s c o k m z =
    ap (seen_cell v k) z.matches.returned
    ∙ one_cell v k (find v s.entries) (step s c).answer (names-connection z.well_formed k.member m.member c) m.cells
    (ap (λ (r : BackwardKept). r.turned || r.made) m.answers ∙ answers-same (find v s.entries))

-- through the view
all_back : (P : SeenCell → Type 0) (xs : List OwnCell) → All P (all_seen xs) → All (λ x. P (seen x)) xs
all_back P [] h = tt
all_back P (x ∷ xs) h = (h.0, all_back P xs h.1)

all_map : (P Q : OwnCell → Type 0) → ((x : OwnCell) → P x → Q x) → (xs : List OwnCell) → All P xs → All Q xs
all_map P Q f [] h = tt
all_map P Q f (x ∷ xs) h = (f x h.0, all_map P Q f xs h.1)

some-seen : (P : OwnCell → Type 0) (Q : SeenCell → Type 0) → ((x : OwnCell) → P x → Q (seen x)) → {xs : List OwnCell} → Somewhere P xs → Somewhere Q (all_seen xs)
some-seen P Q f (here h) = here (f _ h)
some-seen P Q f (there h) = there (some-seen P Q f h)

length_seen : (xs : List OwnCell) → length (all_seen xs) ≡ length xs
length_seen [] = refl
length_seen (x ∷ xs) = ap suc (length_seen xs)

turned-number : (k : Kind) → cond (eqb (kind_number k) 2) 1 0 ≡ turned_kind k
unfolding turned_kind
turned-number Forward = refl
turned-number Turned = refl
turned-number Data = refl

turned-seen : (xs : List OwnCell) → turned_seen (all_seen xs) ≡ turned_among xs
unfolding turned_seen turned_among
turned-seen [] = refl
turned-seen (x ∷ xs) = rw (turned-number x.kind, turned-seen xs) refl

not-forward : (k : Kind) → kind_number k ≢ 1 → k ≢ Forward
not-forward k h e = h (ap kind_number e)

progress-seen : (c : Connection) (p : Params) (xs : List OwnCell) → c.rate.params ≡ p → Progress c xs → ProgressSeen p (all_seen xs)
progress-seen c p xs e h = record {
  one_turned = λ w f. rw (turned-seen xs) (h.one_turned (all_back (λ x. 0 < x.cells) xs w) (all_map _ _ (λ x. not-forward x.kind) xs (all_back (λ x. x.kind ≢ 1) xs f)));
  data_sent = λ n w l.
      some-seen (λ x. x.kind ≡ Data) (λ x. x.kind ≡ 3) (λ x q. ap kind_number q)
      (h.data_sent (omega (arith, n, ap (λ (q : Params). q.n) e)) (all_back (λ x. 0 < x.cells) xs w) (omega (arith, l, length_seen xs)));
  data_alone = λ a l.
      some-seen (λ x. x.kind ≡ Data) (λ x. x.kind ≡ 3) (λ x q. ap kind_number q)
      (h.data_alone (all_back (λ x. x.answers ≡ false) xs a) (omega (arith, l, length_seen xs)));
  answer_sent = λ a l.
      some-seen (λ x. x.kind ≡ Turned) (λ x. x.kind ≡ 2) (λ x q. ap kind_number q)
      (h.answer_sent (all_back (λ x. x.answers ≡ true) xs a) (omega (arith, l, length_seen xs, ap nrm e)));
}

pub exports-progress : ExportsProgress
exports-progress cs os x v p e ds ps y u =
    let s = final empty cs in
    let st : Stands s (final_words zeros os) = stands cs os x in
    let k : WaitingKept = kept (kept_after v) nothing_kept cs os in
    let m = kept-so (kept_after v) (Waits v) (keeps-waiting v) empty zeros stands-first nothing_kept (none-waiting v) cs os x in
    let d = open-known (find v s.entries) p (sym (params-known cs os x v) ∙ e) in
    let same : seen_cells v k ds ps ≡ all_seen (cells_sent v s ds) =
    carry (kept_after v) (Waits v) (keeps-waiting v) (λ s k cs os. seen_cells v k cs os ≡ all_seen (cells_sent v s cs)) (λ s k. refl)
    (λ s c o k cs os m z r.
    (λ i. cell-seen v s c o k m z i ++ r i) ∙ sym (seen-append (own_cell v (find v s.entries) (step s c).answer) (cells_sent v (step s c).state cs)))
    s (final_words zeros os) st k m ds ps y in
    subst (ProgressSeen p) (sym same) (progress-seen d.holder p (cells_sent v s ds) d.params (progresses cs ds v d.holder d.is u))
