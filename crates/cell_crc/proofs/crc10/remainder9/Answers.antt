use mathlib.Core.Path.{◌∙◌, sym}
use Prim.Native.Nat.{◌<◌}
use native.Mathlib.Nat.{lt_of_lt_of_le}
use lib.Dec.{lit≤}
use lib.Pow.{pow_mono}
use Rattle.cell_crc.proofs.Trinomial.{low9}
use Rattle.cell_crc.proofs.crc10.remainder9.Goals as goal

pub fold144-requires-2 : goal.fold144-requires-2
fold144-requires-2 c = lt_of_lt_of_le c.fold144.ensures.1 (pow_mono {i = 208} {j = 288} (lit≤ tt))

pub fold72-requires : goal.fold72-requires
fold72-requires c = c.fold144-2.ensures.2 c.fold144.ensures.1

pub fold72-v-requires : goal.fold72-v-requires
fold72-v-requires c = lt_of_lt_of_le c.fold72.ensures.1 (pow_mono {i = 104} {j = 144} (lit≤ tt))

pub word36-requires : goal.word36-requires
word36-requires c = c.fold72-v.ensures.2 c.fold72.ensures.1

pub fold9-requires : goal.fold9-requires
fold9-requires c = c.fold18-2.ensures.2 c.fold18.ensures.1

pub returns : goal.returns
returns c =
    let h : c.fold9-2.result < 512 = c.fold9-2.ensures.2 c.fold9.ensures.1 in
    let w = c in (
      sym (low9 c.fold9-2.result h)
          ∙ c.fold9-2.ensures.0
          ∙ c.fold9.ensures.0
          ∙ c.fold18-2.ensures.0
          ∙ c.fold18.ensures.0
          ∙ c.fold36.ensures.0
          ∙ w.word36.ensures.0
          ∙ w.fold72-v.ensures.0
          ∙ w.fold72.ensures.0
          ∙ w.fold144-2.ensures.0
          ∙ w.fold144.ensures.0
          ∙ w.fold288.ensures.0,
      h,
    )
