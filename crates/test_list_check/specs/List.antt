-- What a list of scripts and outputs tells: how many scripts there are, and for how many of them the rules have another output.
-- Assumes nothing.
use Rattle.std.specs.Prelude.{ℕ, zero, suc, ◌+◌, ◌-◌, ◌<◌, ◌≡◌, Bool, true, false, ◌&&◌, List, [], ◌∷◌, length, take, drop, leb, eqb, None, Some}
use Rattle.std.specs.Option.{option_or}
use Rattle.lists.specs.Lists.{choose}
use Rattle.layout.specs.Bits.{field_at}
use Rattle.rules.specs.Outcome.{base}
use Rattle.rules.specs.Script.{versions}
use Rattle.rules.specs.Program.{replay}
use Rattle.test_list_check.specs.declared.Tally.{Tally}

-- The most bytes that an output may have here.
abbrev pub large : ℕ
large = 65536

-- ---- parts and pairs
-- The bytes of the part at the front, with the four of its length; 0 if it is cut.
unfoldable pub part_size : List ℕ → ℕ
part_size l = choose (leb (4 + field_at l 0 32) (length l)) (4 + field_at l 0 32) 0

-- What stands in the part at the front.
abbrev pub part_of : List ℕ → List ℕ
part_of l = take (part_size l - 4) (drop 4 l)

-- The list after its first part.
abbrev pub second : List ℕ → List ℕ
second l = drop (part_size l) l

-- A script and its output; 0 if one of them is cut.
unfoldable pub pair_size : List ℕ → ℕ
pair_size l = choose (eqb (part_size l) 0) 0 (choose (eqb (part_size (second l)) 0) 0 (part_size l + part_size (second l)))

-- A list with a part at its front, and what stands behind the part.
pub record IsPart (l part rest : List ℕ) : Type 0 where
  pub there : 0 < part_size l
  pub inside : part ≡ part_of l
  pub behind : rest ≡ second l

-- The same of a pair.
pub record IsPair (l script output rest : List ℕ) : Type 0 where
  pub there : 0 < pair_size l
  pub first : script ≡ part_of l
  pub next : output ≡ part_of (second l)
  pub behind : rest ≡ drop (pair_size l) l

-- ---- comparing
unfoldable pub equal : List ℕ → List ℕ → Bool
equal [] [] = true
equal [] (y ∷ m) = false
equal (x ∷ l) [] = false
equal (x ∷ l) (y ∷ m) = eqb x y && equal l m

-- An output that is too long for the buffer counts as another one.
unfoldable pub agrees : List ℕ → List ℕ → Bool
agrees script stored = leb (length (replay base versions script)) large && equal (replay base versions script) stored

unfoldable pub right : List ℕ → Bool
right l = agrees (part_of l) (part_of (second l))

-- ---- counting
-- The first that differs stays, if there is one.
unfoldable pub counted : Tally → Bool → Tally
counted t true = record { scripts = t.scripts + 1; differ = t.differ; first = t.first }
counted t false = record { scripts = t.scripts + 1; differ = t.differ + 1; first = option_or t.first (Some (t.scripts + 1)) }

-- `walk n l t` goes on from the place n of l. A pair that is cut differs, and is the last one.
unfoldable pub walk : ℕ → List ℕ → Tally → Tally
walk n [] t = t
walk (suc n) (x ∷ l) t = walk n l t
walk zero (x ∷ l) t = choose (eqb (pair_size (x ∷ l)) 0) (counted t false) (walk (pair_size (x ∷ l) - 1) l (counted t (right (x ∷ l))))

unfoldable pub tallied : List ℕ → Tally
tallied l = walk 0 l (record { scripts = 0; differ = 0; first = None })
