-- Loading gives back the connection that stands in the entry. No number of a connection that calls made lies
-- outside the range that loading brings it into.
use Rattle.std.specs.Prelude.{Some, None}
use Prim.Native.Nat.{ℕ, ◌+◌, ◌*◌, ◌/◌, ◌%◌, ◌^◌, ◌≤◌, ◌<◌, ◌-◌}
use mathlib.Core.Path.{◌≡◌, refl, ap, ◌∙◌}
use mathlib.Core.Bool.{Bool, true, false, cond}
use mathlib.Core.List.{List, ◌++◌}
use native.Mathlib.Nat.{mod-eq_of_lt, add_assoc}
use native.Mathlib.Omega.{arith}
use borrow.Author.Tests.{ne_eqb}
use lib.Dec.{ltb, eqb}
use lib.ListN.{get_or, drop}
use lib.Pow.{pow_mono}
use lib.Seq.{get_or-drop}
use Rattle.rate.specs.Units.{latest_time}
use Rattle.rate_params.specs.Params.{nrm}
use Rattle.rate_params.specs.Ranges.{Fits, SetupFits}
use Rattle.rate_params.proofs.Ranges.{fits, setup-fits}
use Rattle.cell.specs.Name.{no_name}
use Rattle.connection.specs.declared.parts.Pace.{Pace}
use Rattle.connection.specs.declared.parts.Pace.TheVariants.{Unsent, Running}
use Rattle.connection.specs.declared.parts.Queue.{Queue}
use Rattle.connection.specs.declared.parts.Connection.{Connection}
use Rattle.connection.specs.Invariant.{ValidAt, PaceFits, NotAfter, QueueFits}
use Rattle.connection.specs.Range.{InRange, PaceInRange, CountHasRoom, InstantInRange}
use Rattle.connection.specs.Parts.{Waiting, Instant}
use Rattle.connection.proofs.Reached.{in-range}
use Rattle.table.specs.Layout.{halves, pace_sent, pace_forward, pace_word, wait_tag, waiting_payload, queue_word, record_words, record_from, instant_word}
use Rattle.table.specs.Loading.{high_in, low_in, name_of, n_of, pace_of, waiting_of, queue_of, params_at, connection_from, connection_at, instant_of}

-- the two numbers of a word
low : (h l : ℕ) → l < 2 ^ 32 → low_in (halves h l) ≡ l
low h l a = omega arith

high : (h l : ℕ) → h < 2 ^ 32 → l < 2 ^ 32 → high_in (halves h l) ≡ h
high h l a b = omega arith

-- numbers below 2^32 stay
narrow : (x : ℕ) → x < 2 ^ 32 → x % 2 ^ 32 ≡ x
narrow x l = mod-eq_of_lt l

-- Each part is what its words stand for.
count-back : (tag k : ℕ) → k < 32768 → halves tag k % 32768 ≡ k
count-back tag k l = omega arith

pace-back : (now n : ℕ) (p : Pace) → n ≤ 256 → PaceFits now n p → PaceInRange p → pace_of (pace_sent p) (pace_forward p) (pace_word p) ≡ p
pace-back now n Unsent l f h = refl
pace-back now n (Running sent forward k true) l f h =
    let m : k < 32768 = omega arith in
    rw (high 2 k (omega arith) (omega arith), mod-eq_of_lt h.0, mod-eq_of_lt h.1, count-back 2 k m)
pace-back now n (Running sent forward k false) l f h =
    let m : k < 32768 = omega arith in
    rw (high 1 k (omega arith) (omega arith), mod-eq_of_lt h.0, mod-eq_of_lt h.1, count-back 1 k m)

-- an identity
pub name_back : (t n v : ℕ) → v < no_name → name_of (t * 2 ^ 32 + (n * 2 ^ 24 + v)) ≡ v
name_back t n v a = omega arith

n-back : (t n v : ℕ) → v < no_name → n < 2 ^ 8 → n_of (t * 2 ^ 32 + (n * 2 ^ 24 + v)) ≡ n
n-back t n v a b = omega arith

trm-back : (t n v : ℕ) → v < no_name → n < 2 ^ 8 → t < 2 ^ 32 → high_in (t * 2 ^ 32 + (n * 2 ^ 24 + v)) ≡ t
trm-back t n v a b c = omega arith

-- the factors, of sixteen bits each
module _ (t c d r : ℕ) (a₁ : t < 2 ^ 16) (a₂ : c < 2 ^ 16) (a₃ : d < 2 ^ 16) (a₄ : r < 2 ^ 16) where
  abbrev factors : ℕ
  factors = t * 2 ^ 48 + (c * 2 ^ 32 + (d * 2 ^ 16 + r))

  r_back : factors % 2 ^ 16 ≡ r
  r_back = omega arith

  d-back : factors / 2 ^ 16 % 2 ^ 16 ≡ d
  d-back = omega arith

  c-back : factors / 2 ^ 32 % 2 ^ 16 ≡ c
  c-back = omega arith

  t-back : factors / 2 ^ 48 % 2 ^ 16 ≡ t
  t-back = omega arith

params-back : (c : Connection) (t : List ℕ) → c.name < no_name → Fits c.rate.params → SetupFits c.rate.params → params_at (record_words c ++ t) 0 ≡ c.rate.params
params-back c t v h g =
    let p = c.rate.params in
    let t₁ : p.trm < 2 ^ 16 = omega arith in
    let c₁ : p.c < 2 ^ 16 = omega arith in
    let d₁ : p.d < 2 ^ 16 = omega arith in
    let r₁ : p.r < 2 ^ 16 = omega arith in
    rw (
      low p.mcr p.pcr (omega arith),
      high p.mcr p.pcr (omega arith) (omega arith),
      low p.adtf p.icr (omega arith),
      high p.adtf p.icr (omega arith) (omega arith),
      low p.frtt p.tbe (omega (arith, g.tbe_most)),
      high p.frtt p.tbe (omega (arith, g.frtt_most)) (omega (arith, g.tbe_most)),
      n-back c.trm p.n c.name v (omega arith),
      r_back p.trm p.c p.d p.r t₁ c₁ d₁ r₁,
      d-back p.trm p.c p.d p.r t₁ c₁ d₁ r₁,
      c-back p.trm p.c p.d p.r t₁ c₁ d₁ r₁,
      t-back p.trm p.c p.d p.r t₁ c₁ d₁ r₁,
    )

-- what waits at the destination, and the level at which the made cell that waits was made
tag_small : (e : Bool) (w : Waiting) → wait_tag w + cond e 1 0 < 4
tag_small true None = omega arith
tag_small false None = omega arith
tag_small true (Some p) = omega arith
tag_small false (Some p) = omega arith

efci-back : (m : ℕ) (e : Bool) (w : Waiting) → eqb (halves m (wait_tag w + cond e 1 0) % 2) 1 ≡ e
efci-back m e w = ap (λ (n : ℕ). eqb n 1) last_bit ∙ go e w
  where
    last_bit : halves m (wait_tag w + cond e 1 0) % 2 ≡ (wait_tag w + cond e 1 0) % 2
    last_bit = omega arith

    go : (e : Bool) (w : Waiting) → eqb ((wait_tag w + cond e 1 0) % 2) 1 ≡ e
    go true None = refl
    go false None = refl
    go true (Some p) = refl
    go false (Some p) = refl

turned-back : (m : ℕ) (e : Bool) (w : Waiting) → waiting_of (halves m (wait_tag w + cond e 1 0)) (waiting_payload w) ≡ w
turned-back m e w = ap (λ (n : ℕ). cond (ltb n 2) None (Some (waiting_payload w))) low_bits ∙ go e w
  where
    low_bits : halves m (wait_tag w + cond e 1 0) % 4 ≡ wait_tag w + cond e 1 0
    low_bits = omega (arith, tag_small e w)

    go : (e : Bool) (w : Waiting) → cond (ltb (wait_tag w + cond e 1 0) 2) None (Some (waiting_payload w)) ≡ w
    go true None = refl
    go false None = refl
    go true (Some p) = refl
    go false (Some p) = refl

instant-back : (now : ℕ) (i : Instant) → now ≤ latest_time → NotAfter now i → instant_of (instant_word i) ≡ i
instant-back now None l h = refl
instant-back now (Some i) l h =
    let less : i + 1 - 1 ≡ i = omega arith in
    let small : i % 2 ^ 63 ≡ i = mod-eq_of_lt (omega arith) in
    rw (ne_eqb (i + 1) 0 (λ e. omega (arith, e)), less, small)

queue-back : (v : ℕ) (l : Queue) → QueueFits v l → queue_of (queue_word l) ≡ l
queue-back v l h = rw (cells l.served l.cells (omega (arith, h.path)), served l.served l.cells (omega (arith, h.served)) (omega (arith, h.path)))
  where
    cells : (q n : ℕ) → n < 2 ^ 24 → halves q n % 2 ^ 24 ≡ n
    cells q n b = omega arith

    served : (q n : ℕ) → q < 2 ^ 16 → n < 2 ^ 24 → high_in (halves q n) % 2 ^ 16 ≡ q
    served q n a b = omega arith

-- a connection from its own words
pub words_back : (now : ℕ) (c : Connection) (t : List ℕ) → now ≤ latest_time → ValidAt now c → connection_from (record_words c ++ t) 0 ≡ c
words_back now c t l h =
    let r = in-range now c l h in
    let p = c.rate.params in
    let f = fits p h.0.fits in
    let v : c.name < no_name = h.0.coded in
    let d = c.destination in
    rw (
      name_back c.trm p.n c.name v,
      mod-eq_of_lt r.opened,
      trm-back c.trm p.n c.name v (omega (arith, f.n_most)) r.trm,
      params-back c t v f (setup-fits p h.0.tbe h.0.frtt),
      pace-back now (nrm p) c.pace (pow_mono f.n_most) h.0.paced r.pace,
      narrow c.unanswered (omega (arith, h.1.counted)),
      queue-back c.name c.queue h.4,
      efci-back d.made.level d.efci d.turned,
      turned-back d.made.level d.efci d.turned,
      high d.made.level (wait_tag d.turned + cond d.efci 1 0) (omega (arith, h.2.level)) (omega (arith, tag_small d.efci d.turned)),
      instant-back now d.made.last l h.2.past,
      instant-back now c.out_of_rate l h.3,
    )

-- words further on in a list
pub from-drop : (l : List ℕ) (b : ℕ) → connection_from l b ≡ connection_from (drop b l) 0
from-drop l b = simp (get_or-drop, add_assoc)

-- Whatever the words are, what is loaded lies in range, with room for one more cell.
pace-ranged : (sent forward w : ℕ) → PaceInRange (pace_of sent forward w) × CountHasRoom (pace_of sent forward w)
pace-ranged sent forward w = go (eqb (high_in w) 0)
  where
    p : Bool → Pace
    p b = cond b Unsent (Running (sent % 2 ^ 63) (forward % 2 ^ 63) (w % 32768) (eqb (high_in w) 2))

    go : (b : Bool) → PaceInRange (p b) × CountHasRoom (p b)
    go true = (tt, tt)
    go false = ((omega arith, omega arith, omega arith), omega arith)

instant-ranged : (w : ℕ) → InstantInRange (instant_of w)
instant-ranged w = go (eqb w 0)
  where
    go : (b : Bool) → InstantInRange (cond b None (Some ((w - 1) % 2 ^ 63)))
    go true = tt
    go false = omega arith

module _ (l : List ℕ) (i : ℕ) where
  abbrev loaded_word : (number : ℕ) → ℕ
  loaded_word k = get_or l (record_from i + k) 0

  pub load-ranged : InRange (connection_at l i)
  load-ranged = record {
    opened = omega arith;
    trm = omega arith;
    made = instant-ranged (loaded_word 22);
    out_of_rate = instant-ranged (loaded_word 23);
    pace = (pace-ranged (loaded_word 5) (loaded_word 6) (loaded_word 7)).0;
  }

  pub load-room : CountHasRoom (connection_at l i).pace
  load-room = (pace-ranged (loaded_word 5) (loaded_word 6) (loaded_word 7)).1

pub load-queue : (l : List ℕ) (i : ℕ) → (connection_at l i).queue.cells < 2 ^ 24
load-queue l i = omega arith

pub load-named : (l : List ℕ) (i : ℕ) → (connection_at l i).name < no_name
load-named l i = omega arith
