-- What a slot and a received cell say besides what the documents ask for, held to what abr_acr returns before and
-- after them, to the octets, and to what waited. (Document 01, "Slots"; document 02, L1 and L13.)
use Rattle.std.specs.Prelude.{ℕ, ◌≡◌, ◌≢◌, Bool, List}
use Rattle.std.proofs.Math.Option.{Option, none, some}
use Rattle.cell.specs.Name.{name_from, address_name}
use Rattle.cell.specs.declared.fields.Fields.{Fields}
use Rattle.cell.specs.Read.{DataCell, RmCell}
use Rattle.cell.specs.Reading.{reading}
use Rattle.model.specs.Call.{Call, receiving, slot}
use Rattle.abr_answers.specs.declared.calls.AbrAllowed.{AbrAllowed}
use Rattle.abr.specs.Contract.{ReturnsAllowed}
use Rattle.abr.specs.Exports.{nothing_besides, Observation, Performs, Transcript, final_words, zeros}
use Rattle.exports.specs.Returned.{no_member, members_seen, connection_of, connection_returned}
use Rattle.exports.specs.Known.{name_in}
use Rattle.exports.specs.Along.{kept}
use Rattle.exports_cells.specs.Heard.{TurnedCell, hears, nothing_heard}

-- 1 if no turned cell waits
abbrev pub none_heard : Option TurnedCell → ℕ
none_heard none = 1
none_heard (some x) = 0

-- After any exported calls from the zero table:
pub record ExportsBesides : Type 0 where
  -- a slot that sent a cell returned the rate that abr_acr returned before it
  pub before :
      (cs : List Call) (os : List Observation) → Transcript cs zeros os → (t room : ℕ) (o : Observation) → Performs (slot t room) (final_words zeros os) o → o.returned.kind ≢ 0
      → (a : AbrAllowed) → ReturnsAllowed (connection_returned (members_seen no_member cs os) o.returned) (final_words zeros os) a → o.besides.before ≡ a.acr
  -- its cell was a made one exactly if it was backward and no turned one waited (`ExportsTurned` says what it carries)
  pub made :
      (cs : List Call) (os : List Observation) → Transcript cs zeros os → (t room : ℕ) (o : Observation) → Performs (slot t room) (final_words zeros os) o → o.returned.kind ≡ 2
      → let v = name_from o.returned.vpi o.returned.vci in o.besides.made ≡ none_heard (kept (hears v) nothing_heard cs os).receiver.turned
  pub not_made :
      (cs : List Call) (os : List Observation) → Transcript cs zeros os → (t room : ℕ) (o : Observation) → Performs (slot t room) (final_words zeros os) o → o.returned.kind ≢ 2
      → o.besides.made ≡ 0
  -- a received cell that was not refused: its kind, its pair, and the rate that abr_acr returns after it
  pub data_kind :
      (cs : List Call) (os : List Observation) → Transcript cs zeros os → (octets : List ℕ) (o : Observation) → Performs (receiving octets) (final_words zeros os) o → o.returned.refusal ≡ 0
      → (vpi vci : ℕ) (e : Bool) → reading octets ≡ DataCell vpi vci e → o.besides.kind ≡ 3
  pub backward_kind :
      (cs : List Call) (os : List Observation) → Transcript cs zeros os → (octets : List ℕ) (o : Observation) → Performs (receiving octets) (final_words zeros os) o → o.returned.refusal ≡ 0
      → (f : Fields) → reading octets ≡ RmCell f → f.dir ≡ 1 → o.besides.kind ≡ 2
  pub forward_kind :
      (cs : List Call) (os : List Observation) → Transcript cs zeros os → (octets : List ℕ) (o : Observation) → Performs (receiving octets) (final_words zeros os) o → o.returned.refusal ≡ 0
      → (f : Fields) → reading octets ≡ RmCell f → f.dir ≢ 1 → o.besides.kind ≡ 1
  pub pair :
      (cs : List Call) (os : List Observation) → Transcript cs zeros os → (octets : List ℕ) (o : Observation) → Performs (receiving octets) (final_words zeros os) o → o.returned.refusal ≡ 0
      → address_name o.besides.vpi o.besides.vci ≡ name_in octets
  pub after :
      (cs : List Call) (os : List Observation) → Transcript cs zeros os → (octets : List ℕ) (o : Observation) → Performs (receiving octets) (final_words zeros os) o → o.returned.refusal ≡ 0
      → (a : AbrAllowed) → ReturnsAllowed (connection_of (members_seen no_member cs os) (name_in octets)) o.table a → o.besides.acr ≡ a.acr
  -- a refused call and an idle slot return nothing besides
  pub refused :
      (cs : List Call) (os : List Observation) → Transcript cs zeros os → (c : Call) (o : Observation) → Performs c (final_words zeros os) o → o.returned.refusal ≢ 0 → o.besides ≡ nothing_besides
  pub idle :
      (cs : List Call) (os : List Observation) → Transcript cs zeros os → (t room : ℕ) (o : Observation) → Performs (slot t room) (final_words zeros os) o → o.returned.kind ≡ 0
      → o.besides ≡ nothing_besides
