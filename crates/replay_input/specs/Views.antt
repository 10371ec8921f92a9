-- What follows a read, what a reader lost when it failed, and where the script is.
-- Assumes nothing.
use Rattle.std.specs.Prelude.{ℕ, zero, suc, ◌+◌, ◌≤◌, eqb, ltb, if◌then◌else◌, List, length, take, Option, Result, Ok, Err}
use Rattle.std.specs.declared.io.Error.{Error}
use Rattle.std.specs.declared.ops.ControlFlow.{ControlFlow}
use Rattle.std.specs.declared.ops.ControlFlow.TheVariants.{Break, Continue}
use Rattle.std.specs.Io.KnownBytes.{Consumes}
use Rattle.replay_input.specs.declared.Source.{Source}
use Rattle.replay_input.specs.declared.Source.TheVariants as source

-- ---- reads
-- What follows a read at a place, which fails or gives so many bytes: after one that failed nothing but its error; after one that gave
-- nothing, at the end of the input, what stands before the place is all of it; else the next read follows where this one ended, unless
-- the buffer is full.
unfoldable pub next_of : Result ℕ Error → ℕ → ℕ → Result (ControlFlow ℕ ℕ) Error
next_of (Err e) at room = Err e
next_of (Ok n) at room = if eqb n 0 then Ok (Break at) else (if ltb (at + n) room then Ok (Continue (at + n)) else Ok (Break (at + n)))

-- The known bytes begin with some that stand at the start of the buffer, and lose them.
pub record ConsumesPart (old new : Option (List ℕ)) (buffer : List ℕ) : Type 0 where
  pub count : ℕ
  pub within : count ≤ length buffer
  pub bytes : Consumes old new (take count buffer)

-- ---- the arguments, the program's name among them
unfoldable pub source_of : ℕ → Source
source_of zero = source.Input
source_of (suc zero) = source.Input
source_of (suc (suc zero)) = source.Argument
source_of (suc (suc (suc n))) = source.Wrong
