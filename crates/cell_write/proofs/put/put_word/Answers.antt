-- The eight octets in the place of those that stood there.
use Rattle.std.proofs.Common.{◌≡◌, ◌+◌, ◌-◌, take, drop, sym, ◌∙◌, append_assoc, arith}
use Rattle.std.proofs.lemmas.List.{drop-drop}
use lib.Seq.{sets-eq}
use Rattle.cell_payload.specs.Payload.{word_octets}
use Rattle.cell_write.proofs.put.put_word.Goals as goal

pub returns : goal.returns
returns c =
    let a = c.args in
    let e : a.at + 8 - a.at ≡ 8 = omega arith in
    rw (e, c.copy_from_slice.ensures.after, c.to_be_bytes.ensures, drop-drop 8 a.at a.cell.now)
    (sym (append_assoc (take a.at a.cell.now) (word_octets a.w) (drop (a.at + 8) a.cell.now)) ∙ sym (sets-eq (word_octets a.w) a.cell.now a.at (omega arith)))
