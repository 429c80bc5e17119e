use mathlib.Core.Path.{sym, ◌∙◌}
use Rattle.engine.proofs.OpenCases.{open-reserved, open-unfit, open-tbe, open-frtt, open-late}
use Rattle.engine.proofs.open.judge_input.Goals as goal

pub returns-then-not-codes_clear : goal.returns-then-not-codes_clear
returns-then-not-codes_clear c = λ s. open-reserved s _ _ _ _ (sym c.codes_clear.ensures ∙ c.if-not-codes_clear.true)

pub returns-then-not-in_range : goal.returns-then-not-in_range
returns-then-not-in_range c = λ s.
    open-unfit s _ _ _ _ (sym c.codes_clear.ensures ∙ c.if-not-codes_clear.false) (sym c.in_range.ensures ∙ c.if-not-in_range.true)

pub returns-then-not-tbe_fits : goal.returns-then-not-tbe_fits
returns-then-not-tbe_fits c = λ s.
    open-tbe s _ _ _ _ (sym c.codes_clear.ensures ∙ c.if-not-codes_clear.false) (sym c.in_range.ensures ∙ c.if-not-in_range.false)
    (sym c.tbe_fits.ensures ∙ c.if-not-tbe_fits.true)

pub returns-then-not-frtt_fits : goal.returns-then-not-frtt_fits
returns-then-not-frtt_fits c = λ s.
    open-frtt s _ _ _ _ (sym c.codes_clear.ensures ∙ c.if-not-codes_clear.false) (sym c.in_range.ensures ∙ c.if-not-in_range.false)
    (sym c.tbe_fits.ensures ∙ c.if-not-tbe_fits.false) (sym c.frtt_fits.ensures ∙ c.if-not-frtt_fits.true)

pub returns-then-time-gt-LATEST_TIME : goal.returns-then-time-gt-LATEST_TIME
returns-then-time-gt-LATEST_TIME c = λ s.
    open-late s _ _ _ _ (sym c.codes_clear.ensures ∙ c.if-not-codes_clear.false) (sym c.in_range.ensures ∙ c.if-not-in_range.false)
    (sym c.tbe_fits.ensures ∙ c.if-not-tbe_fits.false) (sym c.frtt_fits.ensures ∙ c.if-not-frtt_fits.false) c.if-time-gt-LATEST_TIME.true

pub returns : goal.returns
returns c = record {
  clear = sym c.codes_clear.ensures ∙ c.if-not-codes_clear.false;
  fits = sym c.in_range.ensures ∙ c.if-not-in_range.false;
  tbe = sym c.tbe_fits.ensures ∙ c.if-not-tbe_fits.false;
  frtt = sym c.frtt_fits.ensures ∙ c.if-not-frtt_fits.false;
  timely = c.if-time-gt-LATEST_TIME.false;
}
