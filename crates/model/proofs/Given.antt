-- The parameters of each open connection are those that its open gave, told from the calls and answers alone.
use Prim.Native.Nat.{ℕ}
use mathlib.Core.Path.{◌≡◌, refl, ap, ◌∙◌}
use mathlib.Core.Logic.{◌≢◌}
use mathlib.Core.List.{List, [], ◌∷◌}
use mathlib.Core.Option.{Option, none, some}
use mathlib.Core.Bool.{cond}
use lib.Dec.{eqb}
use lib.ListN.{replicate}
use Rattle.rate_params.specs.declared.params.Params.{Params}
use Rattle.cell.specs.Name.{address_name}
use Rattle.cell.specs.Fields.{cell_name}
use Rattle.connection_members.specs.Path.{path_vci, path_of}
use Rattle.connection_members.specs.Members.{cells_of}
use Rattle.connection.specs.declared.parts.Connection.{Connection}
use Rattle.connection.specs.Parts.{fresh, with_queue, dequeued}
use Rattle.connection.specs.Source.{offered, with_served, after_out_of_rate}
use Rattle.connection.specs.Destination.{with_made, after_data_cell}
use Rattle.connection.specs.Received.{after_rm_cell}
use Rattle.connection.specs.Slot.{after}
use Rattle.connection.specs.Kind.{kind_at}
use Rattle.connection.proofs.Keeps.{work-same, after_same}
use Rattle.model.specs.State.{State, Entry, free, taken, capacity, empty, find, with_entry_of, with_opened, with_time, with_level, with_members}
use Rattle.model.specs.Invariant.{NamesUnique, WellFormed}
use Rattle.model.proofs.Entries.{absent-find, each_free}
use Rattle.model.proofs.Frames.{put-kept, with-opened-read, freed-read}
use Rattle.model.proofs.Preserved.{empty-well-formed}
use Rattle.model.specs.Call.{Call, Outcome}
use Rattle.model.specs.Step.{refuse, accept, replay, discard, with_offer, without_one, send_from, send_step, send_out_of_rate, idle_step, step}
use Rattle.model.specs.Run.{final, is_accepted, params_after, given_from, params_given}
use Rattle.model.proofs.Effects.{OpenPassed, Effect, refuses, opens, closes, offers, receives_data, receives_rm, sets_level, idles, sends, makes, sends_out_of_rate, opens_path, adds, offers_member, removes, effect}
use Rattle.model.proofs.Reached.{step-well-formed}

unfoldable pub entry_params : Entry → Option Params
entry_params free = none
entry_params (taken c) = some c.rate.params

abbrev pub params_at : ℕ → State → Option Params
params_at v s = entry_params (find v s.entries)

opened-params :
    (v : ℕ) (s : State) (u t : ℕ) (p : Params) → OpenPassed s u t p → params_at v (with_opened (fresh u t p) s) ≡ cond (eqb u v) (some p) (params_at v s)
unfolding fresh entry_params
opened-params v s u t p g = with-opened-read entry_params v s (fresh u t p) g.new g.room

ended-params : (v u : ℕ) (s : State) → NamesUnique s.entries → params_at v (with_entry_of u free s) ≡ cond (eqb u v) none (params_at v s)
unfolding entry_params
ended-params v u s a = freed-read entry_params v u s a

kept-params :
    (v u : ℕ) (s : State) → NamesUnique s.entries → (d e : Connection) → find u s.entries ≡ taken d → e.name ≡ d.name → e.rate.params ≡ d.rate.params
    → params_at v (with_entry_of u (taken e) s) ≡ params_at v s
unfolding entry_params
kept-params v u s a d e f n h = put-kept entry_params v u s a d e f n (ap some h)

effect-given : (v : ℕ) {s : State} → NamesUnique s.entries → {c : Call} {o : Outcome} → Effect s c o → params_at v o.state ≡ params_after v c (is_accepted o.answer) (params_at v s)
unfolding refuse accept replay discard with_level with_members idle_step send_step send_from send_out_of_rate with_time params_after is_accepted offered with_offer without_one after_data_cell with_made with_served after_out_of_rate
effect-given v u (refuses c n h) = refl
effect-given v {s} u (opens a b t p g) = opened-params v s (address_name a b) t p g
effect-given v {s} u (closes a b d f) = ended-params v (address_name a b) s u
effect-given v {s} u (offers a b n d f c h) = kept-params v (address_name a b) s u d (offered n d) f refl refl
effect-given v {s} u (receives_data o a b e i d r c z f) = kept-params v i s u d (after_data_cell e d) f refl refl
effect-given v {s} u (receives_rm o q d r f) =
    let same = work-same s.level o q d in
    kept-params v (cell_name q) s u d (after_rm_cell s.level o q d) f same.name same.params
effect-given v {s} u (sets_level l h) = refl
effect-given v {s} u (idles t room g b) = refl
effect-given v {s} u (sends t room i n g b) =
    let same = after_same (kind_at t b.holder) t b.holder in
    kept-params v n (with_time t s) u b.holder (with_served _ (after (kind_at t b.holder) t b.holder)) b.found same.name same.params
effect-given v {s} u (makes a b t d f g h m) = kept-params v (address_name a b) (with_time t s) u d (with_made t s.level d) f refl refl
effect-given v {s} u (sends_out_of_rate a b t room d f g h) = kept-params v (address_name a b) (with_time t s) u d (after_out_of_rate t d) f refl refl
effect-given v {s} u (opens_path a t p g) = opened-params v s (address_name a path_vci) t p g
effect-given v {s} u (adds a b d f j) = refl
effect-given v {s} u (offers_member a b n d f i h) = kept-params v (path_of (address_name a b)) s u d (offered n d) f refl refl
effect-given v {s} u (removes a b d f i) = kept-params v (path_of (address_name a b)) s u d (with_queue d (dequeued (cells_of (address_name a b) s.members) d.queue)) f refl refl

run-given : (v : ℕ) (s : State) → WellFormed s → (before : Option Params) → params_at v s ≡ before → (cs : List Call) → params_at v (final s cs) ≡ given_from v s before cs
run-given v s w b e [] = e
run-given v s w b e (c ∷ cs) =
    run-given v (step s c).state (step-well-formed w c) (params_after v c (is_accepted (step s c).answer) b)
    (effect-given v w.unique (effect s w.unique c) ∙ ap (params_after v c (is_accepted (step s c).answer)) e) cs

nothing-open : (v : ℕ) → params_at v empty ≡ none
unfolding entry_params empty
nothing-open v = rw (absent-find v (replicate capacity free) (each_free (λ c. c.name ≢ v) capacity))

pub params-given : (v : ℕ) (cs : List Call) → params_at v (final empty cs) ≡ params_given v cs
params-given v cs = run-given v empty empty-well-formed none (nothing-open v) cs
