-- No second answer fits what a run promises: where actions can be read, which is asked, they are one list, and a piece of text is
-- two equations.
-- Assumes nothing.
use Prim.Native.Nat.{ℕ}
use mathlib.Core.Path.{◌≡◌, sym, ◌∙◌}
use mathlib.Core.Bool.{Bool}
use mathlib.Core.List.{List}
use Rattle.types.specs.declared.Format.{Format}
use Rattle.sys_system.specs.declared.System.{System}
use Rattle.replay_run.specs.Views.{Runs, Writes}

module _ (script : List ℕ) (from : ℕ) (f : Format) (s : System) (out : List ℕ) (place : ℕ) (write : Bool)
    (asked : Runs script from f s out place write) where
  pub one-run : (e j : ℕ) (left rest : List ℕ) → Writes script from f s out place write e left → Writes script from f s out place write j rest
      → (e ≡ j) × (left ≡ rest)
  one-run e j left rest h k =
      let p = h asked.actions asked.left asked.end asked.reads in
      let q = k asked.actions asked.left asked.end asked.reads in
      (p.next ∙ sym q.next, p.bytes ∙ sym q.bytes)
