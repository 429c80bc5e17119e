-- The rate that abr_acr returns settles in a loop with a port.
use Prim.Native.Nat.{ℕ, suc, ◌+◌, ◌*◌, min}
use mathlib.Core.Path.{◌≡◌, refl, sym, ap, subst, ◌∙◌}
use mathlib.Core.Bool.{false}
use mathlib.Core.List.{List}
use mathlib.Core.Option.{none, some}
use Rattle.rate_params.specs.declared.params.Params.{Params}
use Rattle.rate_moves.specs.declared.moves.Rate.{Rate}
use Rattle.rate_moves.specs.Moves.{feedback}
use Rattle.port_share.specs.Share.{Share}
use Rattle.connection.specs.declared.parts.Connection.{Connection}
use Rattle.connection.specs.declared.kind.Kind.TheVariants.{Forward}
use Rattle.model.specs.State.{State, Entry, taken, empty}
use Rattle.model.specs.Answers.{Sent}
use Rattle.model.specs.Call.{Call, receiving}
use Rattle.model.specs.Step.{step}
use Rattle.model.specs.Run.{final, allowed}
use Rattle.model.proofs.Given.{params-given}
use Rattle.abr_answers.specs.declared.calls.AbrAllowed.{AbrAllowed}
use Rattle.abr_answers.specs.Reply.{Reply, reply_of}
use Rattle.abr.specs.Contract.{ReturnsAllowed}
use Rattle.abr.specs.Exports.{Observation, Transcript, ended as ended_here, then, final_words, zeros}
use Rattle.promise_lists.specs.Demand3.{NotAbove}
use Rattle.promise_service.specs.Restart.{increase}
use Rattle.promise_cells.specs.Changes.{NotFedBack}
use Rattle.promise_loop.specs.Share.{port_rate, settled}
use Rattle.promise_loop.specs.Loop.{FromPort, Unmarked, Feedbacks, ended as ended_at, fed_back as fed_back_at, other_call as other_at, NotClosed, RateKept, Unmoved, NotLowered, Loop}
use Rattle.promise_loop.proofs.Fed.{Stands as StandsAt, allowed-is, unmarked-step}
use Rattle.promise_loop.proofs.Others.{other_step, not-closed, kept_step}
use Rattle.promise_loop.proofs.Loop.{run-from-port, closed-loop}
use Rattle.exports.specs.Exports.{rate_returned, params_observed}
use Rattle.exports.proofs.Returned.{back}
use Rattle.exports.proofs.Transport.{Stands, Sees, sees, stands, stands_after, kept-so}
use Rattle.exports.proofs.Known.{params-known}
use Rattle.exports_rates.specs.Seen.{Seen, Watched, watch, watched_from, watched}
use Rattle.exports_rates.specs.Loop.{FeedbacksSeen, ended, fed_back, other_call, NotClosedSeen, RateKeptSeen, UnmovedSeen, NotLoweredSeen, RateLeft, read_same, not_lowered, SameRate, LoopSeen, ExportsLoop}
use Rattle.exports_rates.proofs.Seen.{connection_seen, entry_seen, Watches, watches, watched-so}
use Rattle.exports_rates.proofs.Held.{rate-seen, rate-is, open-under}

-- feedbacks, as they are in the states
open_in : (v : ℕ) (Cell : List ℕ → Type 0) {k : Watched} {l : List ℕ} {n : ℕ} {ds : List Call} {ps : List Observation} {s : State} → Stands s l → Transcript ds l ps
    → FeedbacksSeen v Cell (NotClosedSeen v) k l n ds ps → Feedbacks v Cell (NotClosed v) s n ds
open_in v Cell st ended_here ended = ended_at
open_in v Cell {k = k} {s = s} st (then {cs = cs} {l = l} {o = o} {os = os} p t) (fed_back {n = n} {octets = octets} c f) = fed_back_at c (open_in v Cell {k = watch v (receiving octets) o k} (sees st p).next t f)
open_in v Cell st (then p t) (other_call n h f) = other_at n (record { other_name = h.other_name }) (open_in v Cell (sees st p).next t f)

-- the moves of a forward cell leave the rate, by what is kept and by what is so
same-holder : {x : Entry} {d e : Connection} → x ≡ taken d → x ≡ taken e → d ≡ e
same-holder p q = cc

unmoved-so : (p : Params) (t : ℕ) (k : Seen) (d : Connection) → k ≡ connection_seen d → d.rate.params ≡ p → UnmovedSeen p t k → Unmoved t d
unmoved-so p t k d e q u = record {
  sent = u.sent;
  forward = u.forward;
  k = u.n;
  turned = u.turned;
  later = sym (ap (λ (x : Seen). x.pace) e) ∙ u.later;
  recent = rw q u.recent;
  answered = rw (q, ← ap (λ (x : Seen). x.unanswered) e) u.answered;
}

not-lowered :
    {v : ℕ} {p : Params} {q : Rate} {s : State} {l : List ℕ} {k : Watched} {c : Call} {o : Observation} → StandsAt v q s → q.params ≡ p → Watches v k s → Sees s c o
    → NotLoweredSeen v p k l c o → NotLowered v s c
unfolding entry_seen
not-lowered {v} {p} {q} {s} {l} {k} {c} {o} z e m y h = record {
  not_closed = record { other_name = h.not_closed.other_name };
  forward_cell = λ t room acr n d i a f.
      let r : o.returned ≡ reply_of (Sent v v Forward acr n) = y.matches.returned ∙ ap reply_of a in
      let same : d ≡ z.holder = same-holder f z.found in
      unmoved-so p t k.connection d (m.connection ∙ ap entry_seen f) (ap (λ (x : Connection). x.rate.params) same ∙ ap (λ (x : Rate). x.params) z.rate ∙ e)
      (h.forward_cell t room i (ap (λ (x : Reply). x.kind) r) (rw r (back v)));
}

-- a call whose forward cell, if it is one of v, does not lower the rate
not-lowered-step :
    {v : ℕ} {p : Params} {q : Rate} {s : State} {l : List ℕ} {k : Watched} {c : Call} {o : Observation} → StandsAt v q s → q.params ≡ p → Watches v k s → Sees s c o → NotFedBack v c
    → NotLoweredSeen v p k l c o → StandsAt v q (step s c).state
not-lowered-step {c = c} z e m y n h =
    let low = not-lowered z e m y h in
    let x = other_step y.well_formed z c (not-closed y.well_formed z c low.not_closed) in
    record { holder = x.holder; found = x.found; rate = x.same n low }

rate-kept : {v : ℕ} {q : Rate} {s : State} {c : Call} → StandsAt v q s → StandsAt v q (step s c).state → RateKept v s c
rate-kept z y = record { same = allowed-is y ∙ sym (allowed-is z) }

read_kept : {v : ℕ} {s : State} {l : List ℕ} {k : Watched} {c : Call} {o : Observation} → Stands s l → Sees s c o → RateKeptSeen v k l c o → RateKept v s c
read_kept {v} st y h = record { same = sym (rate-seen y.next v h.after h.answers_after) ∙ h.same ∙ rate-seen st v h.before h.answers_before }

-- where the rate stays over each other call
left_in :
    {v : ℕ} {share : Share} {p : Params} {q : Rate} {s : State} {l : List ℕ} {k : Watched} {n : ℕ} {ds : List Call} {ps : List Observation} → Stands s l → StandsAt v q s → q.params ≡ p
    → Watches v k s → Transcript ds l ps → FeedbacksSeen v (Unmarked v p share) (RateLeft v p) k l n ds ps → Feedbacks v (Unmarked v p share) (RateKept v) s n ds
unfolding feedback
left_in st z e m ended_here ended = ended_at
left_in {v = v} {share = share} {p = p'} {q = q} {s = s} {k = k} st z e m (then {cs = cs} {l = l} {o = o} {os = os} p t) (fed_back {n = n} {octets = octets} u f) =
    let y = sees st p in fed_back_at u (left_in {q = feedback false false (port_rate p' share) q} y.next (unmarked-step q u st.well_formed z e) e ((watches v).goes _ _ _ _ m y) t f)
left_in {v} st z e m (then {c = c} p t) (other_call n (read_same h) f) =
    let y = sees st p in
    let r = read_kept st y h in
    other_at n r (left_in y.next (kept_step st.well_formed z c r) e ((watches v).goes _ _ _ _ m y) t f)
left_in {v} st z e m (then p t) (other_call n (not_lowered h) f) =
    let y = sees st p in
    let x = not-lowered-step z e m y n h in
    other_at n (rate-kept z x) (left_in y.next x e ((watches v).goes _ _ _ _ m y) t f)

run-kept :
    {v : ℕ} {share : Share} {p : Params} {q : Rate} {s : State} {l : List ℕ} {k : Watched} {n : ℕ} {ds : List Call} {ps : List Observation} → Stands s l → StandsAt v q s → q.params ≡ p
    → Watches v k s → Transcript ds l ps → FeedbacksSeen v (Unmarked v p share) (NotLoweredSeen v p) k l n ds ps → FeedbacksSeen v (Unmarked v p share) (SameRate v) k l n ds ps
unfolding feedback
run-kept st z e m ended_here ended = ended
run-kept {v = v} {share = share} {p = p'} {q = q} {s = s} {k = k} st z e m (then {cs = cs} {l = l} {o = o} {os = os} p t) (fed_back {n = n} {octets = octets} u f) =
    let y = sees st p in fed_back u (run-kept {q = feedback false false (port_rate p' share) q} y.next (unmarked-step q u st.well_formed z e) e ((watches v).goes _ _ _ _ m y) t f)
run-kept {v} st z e m (then p t) (other_call n h f) =
    let y = sees st p in
    let x = not-lowered-step z e m y n h in
    other_call n (record { same = λ a b i j. rate-seen y.next v b j ∙ (rate-kept z x).same ∙ sym (rate-seen st v a i) }) (run-kept y.next x e ((watches v).goes _ _ _ _ m y) t f)

module _ (cs : List Call) (os : List Observation) (t : Transcript cs zeros os) (v : ℕ) (p : Params) (e : params_observed v none cs os ≡ some p) (share : Share) where
  abbrev words : List ℕ
  words = final_words zeros os

  st : Stands (final empty cs) words
  st = stands cs os t

  now : StandsAt v (open-under cs os t v p e).holder.rate (final empty cs)
  now = record { holder = (open-under cs os t v p e).holder; found = (open-under cs os t v p e).found; rate = refl }

  abbrev acr : ℕ
  acr = (open-under cs os t v p e).holder.rate.acr

  -- the rate is the one that abr_acr returns
  read-now : (a : AbrAllowed) → ReturnsAllowed v words a → acr ≡ a.acr
  read-now a h = rate-is a acr (rate-seen st v a h ∙ allowed-is now)

  loop : Loop (final empty cs) v p acr share
  loop = closed-loop cs v acr share p (record { given = sym (params-given v cs) ∙ sym (params-known cs os t v) ∙ e; rate = allowed-is now })

  -- after further calls
  read-then : (ds : List Call) (ps : List Observation) → Transcript ds words ps → (b : AbrAllowed) → ReturnsAllowed v (final_words words ps) b → rate_returned b ≡ allowed v (final (final empty cs) ds)
  read-then ds ps u b h = rate-seen (stands_after st ds ps u) v b h

  -- where the rate stays over each other call, from here on and from further calls on
  left : {n : ℕ} {ds : List Call} {ps : List Observation} → Transcript ds words ps → FeedbacksSeen v (Unmarked v p share) (RateLeft v p) (watched v cs os) words n ds ps
      → Feedbacks v (Unmarked v p share) (RateKept v) (final empty cs) n ds
  left u f = left_in st now (open-under cs os t v p e).params (watched-so v cs os t) u f

  left-then :
      (other : Share) {m n : ℕ} (ds : List Call) {es : List Call} (ps : List Observation) {qs : List Observation} (u : Transcript ds words ps)
      → Feedbacks v (FromPort v share) (NotClosed v) (final empty cs) m ds → Transcript es (final_words words ps) qs
      → FeedbacksSeen v (Unmarked v p other) (RateLeft v p) (watched_from v (watched v cs os) ds ps) (final_words words ps) n es qs
      → Feedbacks v (Unmarked v p other) (RateKept v) (final (final empty cs) ds) n es
  left-then other ds ps u r w g =
      let x = run-from-port st.well_formed now (open-under cs os t v p e).params r in
      left_in (stands_after st ds ps u) x.stands x.params (kept-so (watch v) (Watches v) (watches v) (final empty cs) words st (watched v cs os) (watched-so v cs os t) ds ps u) w g

  loop-seen : LoopSeen cs os v p share
  loop-seen = record {
    never_above = λ n ds ps u f b h. subst (NotAbove (some (settled p share))) (sym (read-then ds ps u b h)) (loop.never_above n ds (open_in v _ st u f));
    rises = λ n ds ps u f a b h k.
        read-then ds ps u b k ∙ loop.rises n ds (left u f) ∙ ap (λ (x : ℕ). some (min (settled p share) (x + suc n * increase p))) (read-now a h);
    reached = λ n ds ps i l u f b h. read-then ds ps u b h ∙ loop.reached n ds i l (left u f);
    stays = λ n ds ps u f a b h i k. read-then ds ps u b k ∙ loop.stays n ds (read-now a h ∙ i) (left u f);
    followed = λ other m n ds es ps qs i l u f w g b h.
        let here = stands_after st ds ps u in
        rate-seen (stands_after here es qs w) v b h ∙ loop.followed m n other ds es (open_in v _ st u f) i l (left-then other ds ps u (open_in v _ st u f) w g);
    kept = λ n ds ps u f. run-kept st now (open-under cs os t v p e).params (watched-so v cs os t) u f;
  }

pub exports-loop : ExportsLoop
exports-loop = loop-seen
