-- What exported calls return for a pair, as a caller knows it.
use Prim.Native.Nat.{ℕ, ◌≤◌}
use mathlib.Core.Path.{◌≡◌, refl, sym, ap, subst, ◌∙◌}
use mathlib.Core.Bool.{Bool, true, false, not, ◌&&◌, true≢false}
use mathlib.Core.List.{List}
use mathlib.Core.Option.{none}
use native.Mathlib.Omega.{arith}
use borrow.Author.Tests.{le-leb}
use Rattle.laws.specs.Require.{require}
use Rattle.rate_doubles.specs.declared.export.Exported.{Exported}
use Rattle.cell.specs.Name.{address_fits, address_name}
use Rattle.cell.specs.Reading.{reading}
use Rattle.cell.specs.Read.{DataCell, RmCell}
use Rattle.cell.specs.declared.fields.Fields.{Fields}
use Rattle.cell.specs.Fields.{cell_name}
use Rattle.connection_members.specs.Path.{is_path, path_vci, path_of}
use Rattle.connection_members.specs.Members.{is_member, owner}
use Rattle.connection_members.proofs.Names.{path-of-address}
use Rattle.connection.specs.declared.parts.Connection.{Connection}
use Rattle.model.specs.State.{State, Entry, free, taken, is_free, empty, find}
use Rattle.model.specs.Call.{Call, closing, receiving, offering, Outcome}
use Rattle.model.specs.Step.{refuse, discard, of_open, close_step, add_step, of_member, offer_member_step, remove_step, read_step, receive_step, data_cell_step, step}
use Rattle.model.specs.Queries.{entry_acr, acr_of, entry_contract, contract_of}
use Rattle.model.specs.Run.{final, is_accepted}
use Rattle.model.proofs.Effects.{is_free_lem}
use Rattle.model.proofs.Given.{entry_params}
use Rattle.model.proofs.Reached.{reached-unknown, reached-no-path}
use Rattle.abr_answers.specs.declared.calls.AbrAllowed.{AbrAllowed}
use Rattle.abr_answers.specs.Planning.{ExportedAs}
use Rattle.abr_answers.specs.Calls.{allowed_of}
use Rattle.abr_answers.specs.Reply.{Reply, reply_of}
use Rattle.abr.specs.Exports.{Observation, Transcript, final_words, zeros}
use Rattle.promise_lists.proofs.NotOpen.{close-out, offer-out, make-out, out-of-rate-out}
use Rattle.promise_lists.proofs.Paths.{paths}
use Rattle.promise_cells.proofs.Addresses.{out-of-range-unknown, no-path-over-255}
use Rattle.exports.specs.Known.{KnownMember}
use Rattle.exports.proofs.Transport.{Sees, sees, stands, returned-zero, acr-seen}
use Rattle.exports.proofs.Known.{members-known, params-known, is_open_lem}
use Rattle.exports_cells.proofs.Taken.{open-accepted}
use Rattle.exports_cells.specs.Addresses.{NotOpened, Returns, UnknownAddress, KnownAddress, NoPath, ExportsAddresses}

-- a step that is refused returns its number
refused-seen : {s : State} {c : Call} {o : Observation} (n : ℕ) → Sees s c o → step s c ≡ refuse s n → o.returned.refusal ≡ n
unfolding refuse
refused-seen n z e = ap (λ (r : Reply). r.refusal) (z.matches.returned ∙ ap (λ (p : Outcome). reply_of p.answer) e)

no-params : (x : Entry) → entry_params x ≡ none → x ≡ free
unfolding entry_params
no-params free e = refl
no-params (taken c) e = let z : ◌≡◌ {A = ℕ} 0 1 = cc in absurd (omega arith)

-- what an entry that is taken gives
acr-zero : (x : Entry) → is_free x ≡ false → (allowed_of (entry_acr x)).refusal ≡ 0
unfolding is_free entry_acr
acr-zero free e = absurd (true≢false e)
acr-zero (taken c) e = refl

contract-zero : (x : Entry) (n : ℕ) (r : Exported) → is_free x ≡ false → ExportedAs (entry_contract x) n r → n ≡ 0
unfolding is_free entry_contract
contract-zero free n r e h = absurd (true≢false e)
contract-zero (taken c) n r e h = h.0

pub close-accepted : (s : State) (vpi vci : ℕ) → is_free (find (address_name vpi vci) s.entries) ≡ false → is_accepted (step s (closing vpi vci)).answer ≡ true
unfolding step close_step discard is_accepted
close-accepted s vpi vci e = open-accepted s (find (address_name vpi vci) s.entries) _ e (λ d. refl)

-- received cells
rm-out : (s : State) (v : ℕ) → find v s.entries ≡ free → (octets : List ℕ) (f : Fields) → reading octets ≡ RmCell f → cell_name f ≡ v → step s (receiving octets) ≡ refuse s 11
unfolding step receive_step read_step of_open
rm-out s v e octets f r n = rw (r, n, e)

either-out : (s : State) (b : Bool) → require (refuse s 11) b (refuse s 11) ≡ refuse s 11
unfolding require
either-out s true = refl
either-out s false = refl

data-out :
    (s : State) (vpi vci : ℕ) → find (address_name vpi vci) s.entries ≡ free → is_member (address_name vpi vci) s.members ≡ false → (octets : List ℕ) (e : Bool) → reading octets ≡ DataCell vpi vci e
    → step s (receiving octets) ≡ refuse s 11
unfolding step receive_step read_step data_cell_step owner of_open
data-out s vpi vci f m octets e r = rw (r, m, f) (either-out s (not (is_path (address_name vpi vci))))

-- the calls on members
add-out : (s : State) (vpi vci : ℕ) → find (path_of (address_name vpi vci)) s.entries ≡ free → 32 ≤ vci → add_step s vpi vci ≡ refuse s 11
unfolding add_step require of_open
add-out s vpi vci f l = rw (le-leb 32 vci l, f)

member-out : (s : State) (vpi vci : ℕ) → find (address_name vpi path_vci) s.entries ≡ free → (f : Connection → Outcome) → of_member s vpi vci f ≡ refuse s 11
unfolding of_member of_open
member-out s vpi vci e f = rw e

and-out : (s : State) (a b : Bool) (o : Outcome) → b ≡ false → require (refuse s 28) (a && b) o ≡ refuse s 28
unfolding require
and-out s true true o e = absurd (true≢false e)
and-out s true false o e = refl
and-out s false b o e = refl

other-out : (s : State) (vpi vci : ℕ) → is_free (find (address_name vpi path_vci) s.entries) ≡ false → is_member (address_name vpi vci) s.members ≡ false → (f : Connection → Outcome)
    → of_member s vpi vci f ≡ refuse s 28
unfolding of_member of_open is_free
other-out s vpi vci e m f = go (find (address_name vpi path_vci) s.entries) e
  where
    go : (x : Entry) → is_free x ≡ false → of_open s x (λ c. require (refuse s 28) (address_fits vpi vci && is_member (address_name vpi vci) s.members) (f c)) ≡ refuse s 28
    go free e = absurd (true≢false e)
    go (taken c) e = and-out s (address_fits vpi vci) (is_member (address_name vpi vci) s.members) (f c) m

-- As a caller knows it.
module _ (cs : List Call) (os : List Observation) (t : Transcript cs zeros os) where
  abbrev here : State
  here = final empty cs

  not-open : (v : ℕ) → NotOpened cs os v → find v here.entries ≡ free
  not-open v e = no-params (find v here.entries) (sym (params-known cs os t v) ∙ e)

  free-known : (v : ℕ) → find v here.entries ≡ free → NotOpened cs os v
  unfolding entry_params
  free-known v e = params-known cs os t v ∙ ap entry_params e

  is_member_lem : (x : ℕ) → KnownMember cs os x → is_member x here.members ≡ true
  is_member_lem x h = sym (members-known cs os t x) ∙ h

  no_member : (x : ℕ) → (KnownMember cs os x → ⊥) → is_member x here.members ≡ false
  no_member x h = go (is_member x here.members) refl
    where
      go : (b : Bool) → is_member x here.members ≡ b → b ≡ false
      go true e = absurd (h (members-known cs os t x ∙ e))
      go false e = refl

  member-free : (x : ℕ) → KnownMember cs os x → find x here.entries ≡ free
  member-free x h = is_free_lem (find x here.entries) ((stands cs os t).well_formed.members.no_channel x (is_member_lem x h))

  path-free : (vpi vci : ℕ) → find (address_name vpi path_vci) here.entries ≡ free → find (path_of (address_name vpi vci)) here.entries ≡ free
  path-free vpi vci e = go (address_fits vpi vci) refl
    where
      go : (b : Bool) → address_fits vpi vci ≡ b → find (path_of (address_name vpi vci)) here.entries ≡ free
      go true f = ap (λ (x : ℕ). find x here.entries) (path-of-address vpi vci f) ∙ e
      go false f = reached-no-path cs vpi vci f

  -- an exported call more
  refuses : (c : Call) (n : ℕ) → step here c ≡ refuse here n → Returns (final_words zeros os) c n
  refuses c n e o p = refused-seen n (sees (stands cs os t) p) e

  unknown : (vpi vci : ℕ) → find (address_name vpi vci) here.entries ≡ free → UnknownAddress (final_words zeros os) vpi vci
  unfolding step acr_of entry_acr contract_of entry_contract
  unknown vpi vci f = record {
    closes = refuses _ 11 (close-out here vpi vci f);
    offers = λ n. refuses _ 11 (offer-out here vpi vci f n);
    makes = λ u l. refuses _ 11 (make-out here vpi vci f u l);
    sends_out_of_rate = λ u l. refuses _ 11 (out-of-rate-out here vpi vci f u l);
    rm_cells = λ octets g r n. refuses _ 11 (rm-out here (address_name vpi vci) f octets g r n);
    acr = λ a h. ap (λ (x : AbrAllowed). x.refusal) (acr-seen (stands cs os t) (address_name vpi vci) a h ∙ ap (λ (x : Entry). allowed_of (entry_acr x)) f);
    exports = λ n r h. (subst (λ (x : Entry). ExportedAs (entry_contract x) n r) f (h.meets here (stands cs os t).well_formed (stands cs os t).table)).0;
  }

  known : (vpi vci : ℕ) → is_free (find (address_name vpi vci) here.entries) ≡ false → KnownAddress (final_words zeros os) vpi vci
  unfolding acr_of contract_of
  known vpi vci f = record {
    closes = λ o p. returned-zero (sees (stands cs os t) p) (close-accepted here vpi vci f);
    acr = λ a h. ap (λ (x : AbrAllowed). x.refusal) (acr-seen (stands cs os t) (address_name vpi vci) a h) ∙ acr-zero (find (address_name vpi vci) here.entries) f;
    exports = λ n r h. contract-zero (find (address_name vpi vci) here.entries) n r f (h.meets here (stands cs os t).well_formed (stands cs os t).table);
  }

  no-path : (vpi vci : ℕ) → find (address_name vpi path_vci) here.entries ≡ free → NoPath (final_words zeros os) vpi vci
  unfolding step offer_member_step remove_step
  no-path vpi vci f = record {
    adds = λ l. refuses _ 11 (add-out here vpi vci (path-free vpi vci f) l);
    offers = λ n. refuses _ 11 (member-out here vpi vci f _);
    removes = refuses _ 11 (member-out here vpi vci f _);
  }

own-offer :
    (cs : List Call) (vpi : ℕ) → vpi ≤ 255 → (n : ℕ) (x : Entry) → find (address_name vpi path_vci) (final empty cs).entries ≡ x → is_free x ≡ false
    → step (final empty cs) (offering vpi path_vci n) ≡ refuse (final empty cs) 28
unfolding is_free
own-offer cs vpi l n free f e = absurd (true≢false e)
own-offer cs vpi l n (taken c) f e = (paths.names cs vpi l).offers n c f

pub exports-addresses : ExportsAddresses
unfolding step offer_member_step remove_step
exports-addresses = record {
  unknown = λ cs os t vpi vci h. unknown cs os t vpi vci (not-open cs os t (address_name vpi vci) h);
  known = λ cs os t vpi vci h. known cs os t vpi vci (is_open_lem cs os t (address_name vpi vci) h);
  out_of_range = λ cs os t vpi vci e. free-known cs os t (address_name vpi vci) (reached-unknown cs vpi vci e);
  opens = λ cs os t vpi vci u p e l k. refuses cs os t _ 7 ((out-of-range-unknown cs vpi vci e).opens u p l k);
  opens_path = λ cs os t vpi u p l k. refuses cs os t _ 7 (no-path-over-255 cs vpi u p l k);
  member = λ cs os t vpi vci h. free-known cs os t (address_name vpi vci) (member-free cs os t (address_name vpi vci) h);
  opens_member = λ cs os t vpi vci u p h clear fit tbe frtt until. refuses cs os t _ 27 ((paths.members cs vpi vci (is_member_lem cs os t (address_name vpi vci) h)).opens u p clear fit tbe frtt until);
  no_path = λ cs os t vpi vci h. no-path cs os t vpi vci (not-open cs os t (address_name vpi path_vci) h);
  offers_other = λ cs os t vpi vci n h m. refuses cs os t _ 28 (other-out (final empty cs) vpi vci (is_open_lem cs os t (address_name vpi path_vci) h) (no_member cs os t (address_name vpi vci) m) _);
  removes_other = λ cs os t vpi vci h m. refuses cs os t _ 28 (other-out (final empty cs) vpi vci (is_open_lem cs os t (address_name vpi path_vci) h) (no_member cs os t (address_name vpi vci) m) _);
  own_data = λ cs os t vpi octets e l r. refuses cs os t _ 11 ((paths.names cs vpi l).data_cells octets e r);
  own_offer = λ cs os t vpi n l h. refuses cs os t _ 28 (own-offer cs vpi l n (find (address_name vpi path_vci) (final empty cs).entries) refl (is_open_lem cs os t (address_name vpi path_vci) h));
  data_unknown = λ cs os t vpi vci octets e r h m. refuses cs os t _ 11 (data-out (final empty cs) vpi vci (not-open cs os t (address_name vpi vci) h) (no_member cs os t (address_name vpi vci) m) octets e r);
}
