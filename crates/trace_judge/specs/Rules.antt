-- The three rules over the cells of a trace. (Document 02, L11.)
use Rattle.std.specs.Prelude.{ℕ, ◌+◌, ◌^◌, Bool, cond, ◌||◌, List, [], ◌∷◌, ltb, eqb, Option, Some, None, Result, Ok}
use Rattle.laws.specs.declared.refusals.Refusal.{Refusal}
use Rattle.rate.specs.Gap.{gap}
use Rattle.rate_params.specs.Params.{trm_time}
use Rattle.rate_params.specs.Forward.{forward_due}
pub use Rattle.trace_judge.specs.declared.cells.Cell.{Cell}
pub use Rattle.trace_judge.specs.declared.rules.Sent.{Sent}
pub use Rattle.trace_judge.specs.declared.rules.Broken.{Broken}
pub use Rattle.trace_judge.specs.declared.rules.Rule.{Rule}
pub use Rattle.trace_judge.specs.declared.rules.Rule.TheVariants.{FirstForward, Spacing, ForwardDue}

-- the document's numbers of the rules
abbrev pub rule_number : Rule → ℕ
rule_number FirstForward = 1
rule_number Spacing = 2
rule_number ForwardDue = 3

-- a refusal, or the first cell that breaks a rule, counted from 1, with the lowest rule that it breaks, if there is one
abbrev pub Verdict : Type 0
Verdict = Result (Option Broken) Refusal

abbrev pub Passes : Verdict
Passes = Ok None

abbrev pub Breaks : (cell rule : ℕ) → Verdict
Breaks cell rule = Ok (Some (record { cell = cell; rule = rule }))

abbrev pub is_forward_cell : Cell → Bool
is_forward_cell c = eqb c.kind 1

-- before the first cell
abbrev pub nothing_sent : Sent
nothing_sent = record { cells = 0; time = 0; forward = 0; k = 0 }

-- one cell more
unfoldable pub with_sent : Sent → Cell → Sent
with_sent h c =
    cond (is_forward_cell c)
    (record { cells = h.cells + 1; time = h.time + c.since; forward = h.time + c.since; k = 0 })
    (record { cells = h.cells + 1; time = h.time + c.since; forward = h.forward; k = h.k + 1 })

-- a cell less than a gap after the one before, or at rate 0
unfoldable pub too_soon : Cell → Bool
too_soon c = eqb c.rate 0 || ltb c.since (gap c.rate)

-- The lowest rule that a cell breaks, if it breaks one. The first cell is a forward one (1). A later one is not too
-- soon (2), and is a forward one exactly when a slot would send one (3).
unfoldable pub broken_rule : (nrm trm : ℕ) → Sent → Cell → Option Rule
broken_rule nrm trm h c =
    cond (eqb h.cells 0) (cond (is_forward_cell c) None (Some FirstForward))
    (cond (too_soon c) (Some Spacing)
    (cond (forward_due nrm trm h.k h.forward (h.time + c.since)) (cond (is_forward_cell c) None (Some ForwardDue)) (cond (is_forward_cell c) (Some ForwardDue) None)))

-- this cell, if it breaks a rule
abbrev pub broken_at : (cell : ℕ) → Option Rule → Option Broken
broken_at cell None = None
broken_at cell (Some rule) = Some (record { cell = cell; rule = rule_number rule })

-- this cell, if it breaks a rule, and else what is found in the later ones
abbrev pub broken_or : (cell : ℕ) → Option Rule → (later : Verdict) → Verdict
broken_or cell None later = later
broken_or cell (Some rule) later = Breaks cell (rule_number rule)

-- the cells after these
unfoldable pub judged_from : (nrm trm : ℕ) → Sent → List Cell → Verdict
judged_from nrm trm h [] = Passes
judged_from nrm trm h (c ∷ cs) = broken_or (h.cells + 1) (broken_rule nrm trm h c) (judged_from nrm trm (with_sent h c) cs)

-- all cells of a trace with this n, Nrm being 2^n, and this Trm number
abbrev pub judged_cells : (n trm : ℕ) → List Cell → Verdict
judged_cells n trm cs = judged_from (2 ^ n) (trm_time trm) nothing_sent cs
