-- The ranges of the fields that a cell can carry, as bounds. A call that writes other fields meets 7.
-- (Document 01, "The cell, 53 octets"; document 02, L6 and L7.)
use mathlib.Core.Path.{◌≡◌}
use mathlib.Core.Bool.{true, ◌&&◌, and_assoc}
use Prim.Native.Nat.{◌≤◌}
use borrow.Author.Tests.{leb-true, le-leb}
use lib.Dec.{leb}
use Rattle.laws.proofs.Tests.{both}
use Rattle.cell.specs.Fields.{Fields, fields_fit}

pub record Fit (f : Fields) : Type 0 where
  pub vpi : f.vpi ≤ 255
  pub vci : f.vci ≤ 65535
  pub dir : f.dir ≤ 1
  pub bn : f.bn ≤ 1
  pub ci : f.ci ≤ 1
  pub ni : f.ni ≤ 1
  pub ra : f.ra ≤ 1
  pub er : f.er ≤ 32767
  pub ccr : f.ccr ≤ 32767
  pub mcr : f.mcr ≤ 32767
  pub ql : f.ql ≤ 4_294_967_295
  pub sn : f.sn ≤ 4_294_967_295

pub fit : (f : Fields) → fields_fit f ≡ true → Fit f
unfolding fields_fit
fit f e0 =
    let e1 = both (leb f.vpi 255) _ e0 in
    let e2 = both (leb f.vci 65535) _ e1.1 in
    let e3 = both (leb f.dir 1) _ e2.1 in
    let e4 = both (leb f.bn 1) _ e3.1 in
    let e5 = both (leb f.ci 1) _ e4.1 in
    let e6 = both (leb f.ni 1) _ e5.1 in
    let e7 = both (leb f.ra 1) _ e6.1 in
    let e8 = both (leb f.er 32767) _ e7.1 in
    let e9 = both (leb f.ccr 32767) _ e8.1 in
    let e10 = both (leb f.mcr 32767) _ e9.1 in
    let e11 = both (leb f.ql 4294967295) _ e10.1 in
    record {
      vpi = leb-true _ _ e1.0;
      vci = leb-true _ _ e2.0;
      dir = leb-true _ _ e3.0;
      bn = leb-true _ _ e4.0;
      ci = leb-true _ _ e5.0;
      ni = leb-true _ _ e6.0;
      ra = leb-true _ _ e7.0;
      er = leb-true _ _ e8.0;
      ccr = leb-true _ _ e9.0;
      mcr = leb-true _ _ e10.0;
      ql = leb-true _ _ e11.0;
      sn = leb-true _ _ e11.1;
    }

-- and the other way: fields in these ranges are written, and no others
pub in-fields : (f : Fields) → Fit f → fields_fit f ≡ true
unfolding fields_fit
in-fields f b = simp (
  le-leb _ _ b.vpi,
  le-leb _ _ b.vci,
  le-leb _ _ b.dir,
  le-leb _ _ b.bn,
  le-leb _ _ b.ci,
  le-leb _ _ b.ni,
  le-leb _ _ b.ra,
  le-leb _ _ b.er,
  le-leb _ _ b.ccr,
  le-leb _ _ b.mcr,
  le-leb _ _ b.ql,
  le-leb _ _ b.sn,
)

-- the tests in a row
pub fits-are : (f : Fields) → (leb f.vpi 255 && leb f.vci 65535 && leb f.dir 1 && leb f.bn 1 && leb f.ci 1 && leb f.ni 1 && leb f.ra 1
    && leb f.er 32767 && leb f.ccr 32767 && leb f.mcr 32767 && leb f.ql 4_294_967_295 && leb f.sn 4_294_967_295)
    ≡ fields_fit f
unfolding fields_fit
fits-are f = simp and_assoc
