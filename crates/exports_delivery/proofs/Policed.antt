-- What a caller records are the cells that slots sent.
use mathlib.Core.Path.{sym, subst}
use mathlib.Core.List.{List}
use Rattle.rate.specs.Gap.{gap}
use Rattle.rate_params.specs.declared.params.Params.{Params}
use Rattle.rate_params.specs.Params.{peak}
use Rattle.model.specs.State.{empty}
use Rattle.model.specs.Run.{final}
use Rattle.model.proofs.Reached.{reached-well-formed}
use Rattle.abr.specs.Exports.{final_words, zeros}
use Rattle.abr.proofs.Exports.{exports-are-run}
use Rattle.promise_traces.specs.InRate.{SentCell, sent_from}
use Rattle.exports.specs.Returned.{no_member, members_seen}
use Rattle.exports.proofs.Recorded.{recorded-sent}
use Rattle.exports.proofs.Known.{members-known}
use Rattle.promise_delivery.specs.Policed.{PolicedCells}
use Rattle.promise_delivery.proofs.Policed.{policed}
use Rattle.exports_delivery.specs.Policed.{ExportsPoliced}
use Rattle.exports_delivery.proofs.Obeyed.{observed-open}

pub exports-policed : ExportsPoliced
exports-policed cs ds os ps v p rs t u e r =
    let s = final empty cs in
    let w = reached-well-formed cs in
    let c = observed-open cs os t v p e in
    let l = exports-are-run.last cs os t in
    let z = recorded-sent v ds s w (members_seen no_member cs os) (members-known cs os t) (final_words zeros os) l ps rs (exports-are-run.onward s w ds (final_words zeros os) ps u l).0 r in
    subst (λ (xs : List SentCell). PolicedCells (gap (peak p)) xs) (sym z)
    (subst (λ (q : Params). PolicedCells (gap (peak q)) (sent_from v s ds)) c.params (policed cs ds v c.holder c.found))
