-- What a caller knows of a name is so: its parameters, and that its rate is at most the cap.
use Prim.Native.Nat.{ℕ, ◌≤◌}
use mathlib.Core.Path.{◌≡◌, refl, sym, ap, subst, ◌∙◌}
use mathlib.Core.Bool.{Bool}
use mathlib.Core.List.{List, [], ◌∷◌, ◌++◌}
use mathlib.Core.Option.{Option, none, some}
use native.Mathlib.Nat.{le_trans}
use native.Mathlib.Omega.{arith}
use Rattle.rate_params.specs.declared.params.Params.{Params}
use Rattle.rate_params.specs.Params.{least}
use Rattle.connection.specs.declared.parts.Connection.{Connection}
use Rattle.model.specs.State.{State, Entry, free, taken, capacity, empty, find}
use Rattle.model.specs.Call.{Call}
use Rattle.model.specs.Step.{step}
use Rattle.model.specs.Queries.{entry_acr, acr_of}
use Rattle.model.specs.Run.{run, final, is_accepted, params_after, given_from}
use Rattle.model.proofs.Entries.{each_at, each_free}
use Rattle.model.proofs.Frames.{name_of}
use Rattle.model.proofs.Preserved.{valid-at}
use Rattle.model.proofs.Given.{entry_params, params_at, params-given}
use Rattle.model.proofs.Reached.{reached-well-formed, final-append}
use Rattle.abr_answers.specs.declared.calls.AbrAllowed.{AbrAllowed}
use Rattle.abr_answers.specs.Calls.{allowed_of}
use Rattle.abr.specs.Contract.{ReturnsAllowed}
use Rattle.abr.specs.Exports.{Observation, Transcript, final_words, zeros, AllMatch, neither, both}
use Rattle.abr.proofs.Exports.{exports-are-run}
use Rattle.exports.specs.Exports.{params_observed}
use Rattle.exports.proofs.Exports.{accepted-seen}
use Rattle.exports.proofs.Known.{params-known}
use Rattle.promise_delivery.proofs.Lists.{Reached, reach, well}
use Rattle.promise_caps.specs.Known.{Known, unknown, cap_by}
use Rattle.promise_caps.specs.Own.{params_in, caps_by, RatesUnder}
use Rattle.promise_caps.proofs.Own.{own-caps}
use Rattle.exports_delivery.specs.Obeyed.{known_after, known_seen, known_from, ObeyedBy, ExportsObeyed}

pub entry-params : (x : Entry) → entry_params x ≡ params_in x
unfolding entry_params
entry-params free = refl
entry-params (taken d) = refl

-- an entry with a connection that has these parameters
pub record OpenWith (p : Params) (y : Entry) : Type 0 where
  pub holder : Connection
  pub found : y ≡ taken holder
  pub params : holder.rate.params ≡ p

pub found-params : (p : Params) (y : Entry) → params_in y ≡ some p → OpenWith p y
found-params p free e = let z : ◌≡◌ {A = ℕ} 0 1 = cc in absurd (omega arith)
found-params p (taken d) e = record { holder = d; found = refl; params = cc }

pub observed-open : (cs : List Call) (os : List Observation) → Transcript cs zeros os → (v : ℕ) (p : Params) → params_observed v none cs os ≡ some p → OpenWith p (find v (final empty cs).entries)
observed-open cs os t v p e =
    let y = find v (final empty cs).entries in found-params p y (sym (entry-params y) ∙ (sym (params-known cs os t v) ∙ e))

-- the parameters of a name after one more call
given-append : (v : ℕ) (s : State) (b : Option Params) (cs : List Call) (c : Call) → given_from v s b (cs ++ (c ∷ [])) ≡ params_after v c (is_accepted (step (final s cs) c).answer) (given_from v s b cs)
given-append v s b [] c = refl
given-append v s b (d ∷ cs) c = given-append v (step s d).state (params_after v d (is_accepted (step s d).answer) b) cs c

pub step_given : (v : ℕ) {s : State} → Reached s → (c : Call) → params_in (find v (step s c).state.entries) ≡ params_after v c (is_accepted (step s c).answer) (params_in (find v s.entries))
step_given v {s} h c = subst (λ (z : State). params_in (find v (step z c).state.entries) ≡ params_after v c (is_accepted (step z c).answer) (params_in (find v z.entries))) h.is (from h.calls)
  where
    from : (cs : List Call) → params_in (find v (step (final empty cs) c).state.entries) ≡ params_after v c (is_accepted (step (final empty cs) c).answer) (params_in (find v (final empty cs).entries))
    from cs =
        sym (entry-params (find v (step (final empty cs) c).state.entries))
        ∙ (ap (λ (z : State). params_at v z) (sym (final-append empty cs (c ∷ [])))
        ∙ (params-given v (cs ++ (c ∷ [])) ∙ (given-append v empty none cs c
        ∙ ap (params_after v c (is_accepted (step (final empty cs) c).answer)) (sym (params-given v cs) ∙ entry-params (find v (final empty cs).entries)))))

-- what is known after calls
pub given-run :
    (v : ℕ) (s : State) → Reached s → (k : Known) → k.given ≡ params_in (find v s.entries) → (cs : List Call) (os : List Observation) → AllMatch (run s cs) os
    → (known_seen v k cs os).given ≡ params_in (find v (final s cs).entries)
given-run v s h k e [] [] neither = e
given-run v s h k e (c ∷ cs) (o ∷ os) (both m ms) =
    given-run v (step s c).state (reach h (c ∷ [])) (known_after v c o k)
    (ap (λ (b : Bool). params_after v c b k.given) (accepted-seen (well h) c m) ∙ (ap (params_after v c (is_accepted (step s c).answer)) e ∙ sym (step_given v h c))) cs os ms
given-run v s h k e [] (o ∷ os) x4 = elim x4 [ ]
given-run v s h k e (c ∷ cs) [] x5 = elim x5 [ ]

pub cap-run :
    (v : ℕ) (s : State) → Reached s → (k : Known) → k.given ≡ params_in (find v s.entries) → (q : ℕ → ℕ) → k.cap ≡ q v → (cs : List Call) (os : List Observation) → AllMatch (run s cs) os
    → (known_seen v k cs os).cap ≡ caps_by q s cs v
cap-run v s h k e q a [] [] neither = a
cap-run v s h k e q a (c ∷ cs) (o ∷ os) (both m ms) =
    cap-run v (step s c).state (reach h (c ∷ [])) (known_after v c o k)
    (ap (λ (b : Bool). params_after v c b k.given) (accepted-seen (well h) c m) ∙ (ap (params_after v c (is_accepted (step s c).answer)) e ∙ sym (step_given v h c)))
    (λ u. cap_by u (q u) (params_in (find u s.entries)) c) (ap (λ (n : ℕ). cap_by v n k.given c) a ∙ ap (λ (g : Option Params). cap_by v (q v) g c) e) cs os ms
cap-run v s h k e q a [] (o ∷ os) x5 = elim x5 [ ]
cap-run v s h k e q a (c ∷ cs) [] x6 = elim x6 [ ]

-- from the empty table
reached-first : Reached empty
reached-first = record { calls = []; is = refl }

pub given-first : (v : ℕ) → unknown.given ≡ params_in (find v empty.entries)
given-first v = sym (params-given v []) ∙ entry-params (find v empty.entries)

pub rates-first : RatesUnder (λ v. 0) empty
unfolding empty
rates-first = each_free (λ d. d.rate.acr ≤ 0) capacity

module _ (cs : List Call) (os : List Observation) (t : Transcript cs zeros os) where
  pub given_is : (v : ℕ) → (known_from cs os v).given ≡ params_in (find v (final empty cs).entries)
  given_is v = given-run v empty reached-first unknown (given-first v) cs os (exports-are-run.each cs os t)

  pub cap-is : (v : ℕ) → (known_from cs os v).cap ≡ caps_by (λ u. 0) empty cs v
  cap-is v = cap-run v empty reached-first unknown (given-first v) (λ u. 0) refl cs os (exports-are-run.each cs os t)

  pub rates-are : RatesUnder (caps_by (λ u. 0) empty cs) (final empty cs)
  rates-are = (own-caps []).kept (λ u. 0) cs rates-first

  pub rate-under : (v : ℕ) (d : Connection) → find v (final empty cs).entries ≡ taken d → d.rate.acr ≤ (known_from cs os v).cap
  rate-under v d f =
      subst (λ (n : ℕ). d.rate.acr ≤ n) (ap (caps_by (λ u. 0) empty cs) (name_of v (final empty cs) d f) ∙ sym (cap-is v))
      (each_at (λ x. x.rate.acr ≤ caps_by (λ u. 0) empty cs x.name) v (final empty cs).entries d f rates-are)

  low-under : (v : ℕ) (p : Params) → OpenWith p (find v (final empty cs).entries) → least p ≤ (known_from cs os v).cap
  low-under v p c =
      le_trans (subst (λ (q : Params). least q ≤ c.holder.rate.acr) c.params (valid-at (reached-well-formed cs) v c.holder c.found).1.rates.above) (rate-under v c.holder c.found)

  acr-is : (v : ℕ) (a : AbrAllowed) → ReturnsAllowed v (final_words zeros os) a → (d : Connection) → find v (final empty cs).entries ≡ taken d → a.acr ≡ d.rate.acr
  unfolding acr_of entry_acr
  acr-is v a h d f = ap (λ (z : AbrAllowed). z.acr) (exports-are-run.acr cs os t v a h ∙ ap (λ (y : Entry). allowed_of (entry_acr y)) f)

  pub obeyed : (v : ℕ) → ObeyedBy cs os v
  obeyed v = record {
    given = given_is v ∙ (sym (entry-params (find v (final empty cs).entries)) ∙ sym (params-known cs os t v));
    rate = λ p a e h.
        let c = found-params p (find v (final empty cs).entries) (sym (given_is v) ∙ e) in
        let q = acr-is v a h c.holder c.found in (
          subst (λ (n : ℕ). least p ≤ n) (sym q) (subst (λ (z : Params). least z ≤ c.holder.rate.acr) c.params (valid-at (reached-well-formed cs) v c.holder c.found).1.rates.above),
          subst (λ (n : ℕ). n ≤ (known_from cs os v).cap) (sym q) (rate-under v c.holder c.found),
        );
    minimum = λ p e. low-under v p (found-params p (find v (final empty cs).entries) (sym (given_is v) ∙ e));
  }

pub exports-obeyed : ExportsObeyed
exports-obeyed cs os t v = obeyed cs os t v
