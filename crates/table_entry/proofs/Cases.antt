-- A connection from the parts that were loaded one by one.
use Rattle.std.specs.Prelude.{Some, None}
use Prim.Native.Nat.{ℕ, ◌+◌, ◌%◌, ◌^◌}
use mathlib.Core.Path.{◌≡◌, refl, ◌∙◌}
use mathlib.Core.Bool.{Bool, true, false, cond}
use mathlib.Core.List.{List}
use lib.Dec.{ltb, eqb}
use lib.ListN.{get_or}
use Rattle.rate_params.specs.declared.params.Params.{Params}
use Rattle.cell_payload.specs.declared.payload.Payload.{Payload}
use Rattle.connection.specs.declared.parts.Connection.{Connection}
use Rattle.connection.specs.declared.parts.Pace.{Pace}
use Rattle.connection.specs.declared.parts.Queue.{Queue}
use Rattle.connection.specs.Parts.{changed, Waiting, Instant}
use Rattle.table.specs.Layout.{no_payload, record_from}
use Rattle.table.specs.Loading.{high_in, low_in, name_of, n_of, only_n, emptied, params_at, pace_of, payload_at, waiting_of, instant_of, queue_of, connection_at, first_line}

-- what the first line shows of a waiting cell
emptied-is : (w : ℕ) (p : Payload) → waiting_of w no_payload ≡ emptied (waiting_of w p)
emptied-is w p = go (ltb (w % 4) 2)
  where
    go : (b : Bool) → cond b None (Some no_payload) ≡ emptied (cond b None (Some p))
    go true = refl
    go false = refl

module _ (l : List ℕ) (i : ℕ) where
  abbrev word : (k : ℕ) → ℕ
  word k = get_or l (record_from i + k) 0

  pub loaded-is :
      {p : Params} {q : Pace} {y : Payload} {w : Waiting} {m o : Instant} {x : Queue} → p ≡ params_at l (record_from i) → q ≡ pace_of (word 5) (word 6) (word 7) → y ≡ payload_at l (record_from i + 16)
      → w ≡ waiting_of (word 2) y → m ≡ instant_of (word 22) → o ≡ instant_of (word 23) → x ≡ queue_of (word 4)
      → ◌≡◌ {A = Connection}
      (record {
        name = name_of (word 1);
        opened = word 11 % 2 ^ 63;
        trm = high_in (word 1);
        rate = record { acr = word 3; params = p };
        pace = q;
        unanswered = low_in (word 8);
        queue = x;
        change = changed (word 9) (word 10);
        destination = record { efci = eqb (word 2 % 2) 1; turned = w; made = record { level = high_in (word 2); last = m } };
        out_of_rate = o;
      })
      (connection_at l i)
  loaded-is {p} {q} {y} {w} {m} {o} {x} hp hq hy hw hm ho hx =
      let hv : w ≡ waiting_of (word 2) (payload_at l (record_from i + 16)) = hw ∙ (λ j. waiting_of (word 2) (hy j)) in
      λ j. record {
        name = name_of (word 1);
        opened = word 11 % 2 ^ 63;
        trm = high_in (word 1);
        rate = record { acr = word 3; params = hp j };
        pace = hq j;
        unanswered = low_in (word 8);
        queue = hx j;
        change = changed (word 9) (word 10);
        destination = record { efci = eqb (word 2 % 2) 1; turned = hv j; made = record { level = high_in (word 2); last = hm j } };
        out_of_rate = ho j;
      }

  pub first-line-is :
      {p : Params} {q : Pace} {y : Payload} {w : Waiting} {x : Queue} → p ≡ only_n (n_of (word 1)) → q ≡ pace_of (word 5) (word 6) (word 7) → y ≡ no_payload → w ≡ waiting_of (word 2) y → x ≡ queue_of (word 4)
      → ◌≡◌ {A = Connection}
      (record {
        name = name_of (word 1);
        opened = 0;
        trm = high_in (word 1);
        rate = record { acr = word 3; params = p };
        pace = q;
        unanswered = 0;
        queue = x;
        change = changed 0 0;
        destination = record { efci = eqb (word 2 % 2) 1; turned = w; made = record { level = high_in (word 2); last = None } };
        out_of_rate = None;
      })
      (first_line (connection_at l i))
  first-line-is {p} {q} {y} {w} {x} hp hq hy hw hx =
      let hv : w ≡ emptied (waiting_of (word 2) (payload_at l (record_from i + 16))) = hw ∙ (λ j. waiting_of (word 2) (hy j)) ∙ emptied-is (word 2) (payload_at l (record_from i + 16)) in
      λ j. record {
        name = name_of (word 1);
        opened = 0;
        trm = high_in (word 1);
        rate = record { acr = word 3; params = hp j };
        pace = hq j;
        unanswered = 0;
        queue = hx j;
        change = changed 0 0;
        destination = record { efci = eqb (word 2 % 2) 1; turned = hv j; made = record { level = high_in (word 2); last = None } };
        out_of_rate = None;
      }
