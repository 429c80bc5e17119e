-- What is read of an entry's words, each number straight from its word.
use Rattle.std.specs.Prelude.{ℕ, ◌+◌, ◌-◌, ◌/◌, ◌%◌, cond, List, ℤ, ◌==◌, slice_index}
use Rattle.rate_params.specs.declared.params.Params.{Params}
use Rattle.cell.specs.Name.{vpi_in, vci_in}
use Rattle.connection.specs.Parts.{changed}
use Rattle.connection.specs.Change.{difference, as_rates}
use Rattle.table.specs.Layout.{record_from}
use Rattle.table.specs.Loading.{high_in, low_in, params_at}
use Rattle.abr_answers.specs.declared.status.AbrConnection.{AbrConnection}
use Rattle.abr_answers.specs.Status.{never}
use Rattle.abr_readings.specs.declared.limits.Limits.{Limits}
use Rattle.abr_readings.specs.declared.place.Place.{Place}

-- what is shown of a connection in this place, with these limits, parameters and numbers, in the order of the fields
abbrev pub shown_with :
    Place → Limits → Params → (acr : ℕ) → (change : ℤ) → (opened sent forward ready made out_of_rate k unanswered backward efci turned level served : ℕ) → AbrConnection
shown_with p g q acr change opened sent forward ready made out_of_rate k unanswered backward efci turned level served = record {
  refusal = 0;
  kind = p.kind;
  vpi = vpi_in p.name;
  vci = vci_in p.name;
  leaf = p.entry;
  waiting = p.waiting;
  params = q;
  crm = g.crm;
  icr_used = g.icr;
  acr = acr;
  change = change;
  opened = opened;
  last_sent = sent;
  last_forward = forward;
  ready = ready;
  last_made = made;
  last_out_of_rate = out_of_rate;
  k = k;
  unanswered = unanswered;
  backward_sent = backward;
  efci = efci;
  turned = turned;
  made_level = level;
  served = served;
  reserved = 0;
}

-- the instant of a cell: never, if the pace has the tag 0; and an instant out of its word
abbrev pub sent_in : (tag instant : ℕ) → ℕ
sent_in tag i = cond (tag == 0) never i

abbrev pub instant_in : (word : ℕ) → ℕ
instant_in n = cond (n == 0) never (n - 1)

-- the words of a record from index b on
abbrev pub entry_from : Place → Limits → List ℕ → (b : ℕ) → AbrConnection
entry_from p g l b =
    shown_with p g (params_at l b) (slice_index l (b + 3)) (difference (as_rates (changed (slice_index l (b + 9)) (slice_index l (b + 10))))) (slice_index l (b + 11))
    (sent_in (high_in (slice_index l (b + 7))) (slice_index l (b + 5))) (sent_in (high_in (slice_index l (b + 7))) (slice_index l (b + 6))) (never - slice_index l b)
    (instant_in (slice_index l (b + 22))) (instant_in (slice_index l (b + 23))) (low_in (slice_index l (b + 7))) (low_in (slice_index l (b + 8))) (high_in (slice_index l (b + 7)) / 2)
    (slice_index l (b + 2) % 2) (low_in (slice_index l (b + 2)) / 2) (high_in (slice_index l (b + 2))) (high_in (slice_index l (b + 4)))

abbrev pub entry_at : List ℕ → Place → Limits → AbrConnection
entry_at l p g = entry_from p g l (record_from p.entry)
