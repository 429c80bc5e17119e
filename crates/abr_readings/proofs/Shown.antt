-- What is shown of a connection's parts, out of their words.
use Rattle.std.proofs.Common.{◌≡◌, ℕ, ◌+◌, ◌-◌, ◌/◌, ◌%◌, ◌^◌, ◌<◌, ◌≤◌, Bool, true, false, cond, List, ◌++◌, refl, ap, ◌∙◌, mod-eq_of_lt, arith, pow_mono, ne_eqb, Some, None}
use Rattle.rate.specs.Units.{latest_time}
use Rattle.rate_params.specs.Params.{nrm}
use Rattle.rate_params.proofs.Ranges.{fits, setup-fits}
use Rattle.connection.specs.declared.parts.Connection.{Connection}
use Rattle.connection.specs.declared.parts.Pace.{Pace}
use Rattle.connection.specs.declared.parts.Pace.TheVariants.{Unsent, Running}
use Rattle.connection.specs.declared.parts.Queue.{Queue}
use Rattle.connection.specs.Change.{difference, as_rates}
use Rattle.connection.specs.Invariant.{ValidAt, PaceFits, QueueFits}
use Rattle.connection.specs.Range.{InstantBelow}
use Rattle.connection.specs.Ready.{ready_instant}
use Rattle.connection.specs.Parts.{Waiting, Instant}
use Rattle.connection.proofs.Reached.{in-range, ready-below}
use Rattle.model.specs.Queries.{ready_word}
use Rattle.table.specs.Layout.{halves, pace_tag, pace_sent, pace_forward, pace_k, pace_word, wait_tag, destination_tag, queue_word, instant_word, key, record_words}
use Rattle.table.specs.Loading.{high_in, low_in}
use Rattle.table.proofs.Loaded.{words_back}
use Rattle.abr_answers.specs.Status.{never, instant_shown, sent_shown, forward_shown, k_shown, backward_shown, turned_shown}
use Rattle.abr_readings.specs.Limits.{LimitsOf}
use Rattle.abr_readings.specs.Entry.{shown_with, sent_in, instant_in, entry_from}
use Rattle.abr_readings.specs.Place.{shown_in}
use Rattle.abr_readings.specs.declared.limits.Limits.{Limits}
use Rattle.abr_readings.specs.declared.place.Place.{Place}

-- the two numbers of a word
low : (h l : ℕ) → l < 2 ^ 32 → low_in (halves h l) ≡ l
low h l a = omega arith

high : (h l : ℕ) → h < 2 ^ 32 → l < 2 ^ 32 → high_in (halves h l) ≡ h
high h l a b = omega arith

-- k is below Nrm
k-below : (now n : ℕ) (p : Pace) → n ≤ 256 → PaceFits now n p → pace_k p < 2 ^ 32
k-below now n Unsent l h = omega arith
k-below now n (Running sent forward k turned) l h = omega (arith, h.2)

tag_is : (now n : ℕ) (p : Pace) → n ≤ 256 → PaceFits now n p → high_in (pace_word p) ≡ pace_tag p
tag_is now n p l h = high (pace_tag p) (pace_k p) (small p) (k-below now n p l h)
  where
    small : (p : Pace) → pace_tag p < 2 ^ 32
    small Unsent = omega arith
    small (Running sent forward k true) = omega arith
    small (Running sent forward k false) = omega arith

sent_is : (p : Pace) → sent_in (pace_tag p) (pace_sent p) ≡ sent_shown p
sent_is Unsent = refl
sent_is (Running sent forward k true) = refl
sent_is (Running sent forward k false) = refl

forward-is : (p : Pace) → sent_in (pace_tag p) (pace_forward p) ≡ forward_shown p
forward-is Unsent = refl
forward-is (Running sent forward k true) = refl
forward-is (Running sent forward k false) = refl

k-is : (p : Pace) → pace_k p ≡ k_shown p
k-is Unsent = refl
k-is (Running sent forward k turned) = refl

backward-is : (p : Pace) → pace_tag p / 2 ≡ backward_shown p
backward-is Unsent = refl
backward-is (Running sent forward k true) = refl
backward-is (Running sent forward k false) = refl

instant-is : (i : Instant) → instant_in (instant_word i) ≡ instant_shown i
instant-is None = refl
instant-is (Some i) = let less : i + 1 - 1 ≡ i = omega arith in rw (ne_eqb (i + 1) 0 (λ e. omega (arith, e)), less)

-- what waits at the destination
tag_small : (e : Bool) (w : Waiting) → wait_tag w + cond e 1 0 < 4
tag_small true None = omega arith
tag_small false None = omega arith
tag_small true (Some p) = omega arith
tag_small false (Some p) = omega arith

efci-is : (m : ℕ) (e : Bool) (w : Waiting) → halves m (wait_tag w + cond e 1 0) % 2 ≡ cond e 1 0
efci-is m true None = omega arith
efci-is m false None = omega arith
efci-is m true (Some p) = omega arith
efci-is m false (Some p) = omega arith

turned-is : (e : Bool) (w : Waiting) → (wait_tag w + cond e 1 0) / 2 ≡ turned_shown w
turned-is true None = refl
turned-is false None = refl
turned-is true (Some p) = refl
turned-is false (Some p) = refl

pub waiting-is : (x : ℕ) (q : Queue) → QueueFits x q → low_in (queue_word q) ≡ q.cells
waiting-is x q h = low q.served q.cells (omega (arith, h.path))

served-is : (x : ℕ) (q : Queue) → QueueFits x q → high_in (queue_word q) ≡ q.served
served-is x q h = high q.served q.cells (omega (arith, h.served)) (omega (arith, h.path))

-- a ready instant out of its key
ready-is : (i : Instant) → InstantBelow i → never - key i ≡ ready_word i
unfolding ready_word
ready-is None h = refl
ready-is (Some i) h = omega (arith, h)

-- everything of a connection, out of its own words
pub words-shown :
    (now : ℕ) (c : Connection) (p : Place) (g : Limits) (t : List ℕ) → now ≤ latest_time → ValidAt now c → LimitsOf c.rate.params g → entry_from p g (record_words c ++ t) 0 ≡ shown_in p c
words-shown now c p g t l v m =
    let a = fits c.rate.params v.0.fits in
    let b = setup-fits c.rate.params v.0.tbe v.0.frtt in
    let params = ap (λ (d : Connection). d.rate.params) (words_back now c t l v) in
    let most = m.most (omega (arith, b.tbe_least)) (omega (arith, a.n_most)) in
    let used = m.used a.low in
    let most-k = pow_mono a.n_most in
    let tag = tag_is now (nrm c.rate.params) c.pace most-k v.0.paced in
    let sent = ap (λ (n : ℕ). sent_in n (pace_sent c.pace)) tag ∙ sent_is c.pace in
    let forward = ap (λ (n : ℕ). sent_in n (pace_forward c.pace)) tag ∙ forward-is c.pace in
    let ready = ready-is (ready_instant c) (ready-below c (in-range now c l v)) in
    let made = instant-is c.destination.made.last in
    let out_of_rate = instant-is c.out_of_rate in
    let k = low (pace_tag c.pace) (pace_k c.pace) (k-below now (nrm c.rate.params) c.pace most-k v.0.paced) ∙ k-is c.pace in
    let unanswered : c.unanswered % 2 ^ 32 ≡ c.unanswered = mod-eq_of_lt (omega (arith, v.1.counted)) in
    let backward = ap (λ (n : ℕ). n / 2) tag ∙ backward-is c.pace in
    let made-level : ℕ = c.destination.made.level in
    let waits : ℕ = destination_tag c.destination in
    let waits-small : waits < 2 ^ 32 = omega (arith, tag_small c.destination.efci c.destination.turned) in
    let efci = efci-is made-level c.destination.efci c.destination.turned in
    let turned = ap (λ (n : ℕ). n / 2) (low made-level waits waits-small) ∙ turned-is c.destination.efci c.destination.turned in
    let level = high made-level waits (omega (arith, v.2.level)) waits-small in
    let served = served-is c.name c.queue v.4 in
    λ j. shown_with p (record { crm = most j; icr = used j }) (params j) c.rate.acr (difference (as_rates c.change)) c.opened (sent j) (forward j) (ready j) (made j) (out_of_rate j) (k j)
    (unanswered j) (backward j) (efci j) (turned j) (level j) (served j)
