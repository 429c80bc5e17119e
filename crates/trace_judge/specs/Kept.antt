-- For the code's own functions: what is kept from cell to cell, beside what was sent.
use Rattle.std.specs.Prelude.{ℕ, ◌+◌, ◌<◌, ◌^◌, Option, Some, None}
use Rattle.trace_judge.specs.Rules.{Cell, Sent, Broken, broken_at, broken_rule}

-- the first cell that breaks a rule stays the first
unfoldable pub with_broken : (nrm trm : ℕ) → Option Broken → Sent → Cell → Option Broken
with_broken nrm trm (Some b) h c = Some b
with_broken nrm trm None h c = broken_at (h.cells + 1) (broken_rule nrm trm h c)

-- one cell more: neither counts nor times wrap
pub record NextFits (h : Sent) (c : Cell) : Type 0 where
  pub cells : h.cells + 1 < 2 ^ 64
  pub time : h.time + c.since < 2 ^ 64
  pub k : h.k + 1 < 2 ^ 64

-- and so in the rules
pub record RulesFit (nrm trm : ℕ) (h : Sent) (c : Cell) : Type 0 where
  pub next : NextFits h c
  pub some : 0 < nrm
  pub due : h.forward + trm < 2 ^ 64
