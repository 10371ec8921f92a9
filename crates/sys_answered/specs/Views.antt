-- The answer struct of a step, and what a step's core asks of a system.
-- Assumes nothing.
use Rattle.std.specs.Prelude.{◌≡◌, true}
use Rattle.rules.specs.Outcome.{Outcome, base, handed_back}
use Rattle.rules.specs.System.{Sys}
use Rattle.rules.specs.WellFormed.{well_formed}
use Rattle.sys_system.specs.declared.System.{System}
use Rattle.sys_system.specs.Views.{sys_view, system_of, SystemLaid}
use Rattle.sys_answered.specs.declared.Answered.{Answered}

-- Laid out and well formed: what the test of a system finds, and what a step keeps.
pub record Ready (s : System) : Type 0 where
  pub laid : SystemLaid s
  pub formed : well_formed base (sys_view s) ≡ true

-- A refusal hands back the system s.
abbrev pub answered_of : System → Outcome Sys → Answered
answered_of s m = handed_back (λ k x. record { answer = k; system = x }) system_of s m
