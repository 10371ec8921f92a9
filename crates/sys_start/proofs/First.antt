-- Kinds and tables as they are given: what their types say, and the tables that are used.
-- Assumes nothing.
use Prim.Native.Nat.{ℕ, zero, suc}
use mathlib.Core.Path.{◌≡◌, refl, ap}
use mathlib.Core.Bool.{Bool, true, ◌&&◌}
use mathlib.Core.List.Memᴰ
use mathlib.Core.List.{List, [], ◌∷◌}
use lib.ListN.{length, take}
use Rattle.std.specs.List.{list_all}
use mir.Val.{Val}
use denote.Shadow.{shadow}
use denote.Array.{Array, each}
use denote.Struct.Declared.{row}
use Rattle.lists.specs.Lists.{◌∈◌, all}
use Rattle.lists.proofs.Members.{all_in}
use Rattle.types.specs.declared.Kind.TheVariants.{UnorderedNonDuplicating}
use Rattle.rules.specs.Network.{kind_of}
use Rattle.link_inner.specs.declared.Table.{Table}
use Rattle.link_inner.specs.Views.{table_ok}
use Rattle.link_inner.specs.contracts.Table as table
use Rattle.sys_system.specs.Views.{TableLaid}
use Rattle.sys_system.proofs.Types.{TableTyped, table-says}
use Rattle.sys_system.proofs.Tables.{table-laid, table-parts}
use Rattle.sys_system.proofs.Laws.{take_in}

-- What is neither 0 nor 1.
pub kind-above : (k : ℕ) → (k ≡ 0 → ⊥) → (k ≡ 1 → ⊥) → UnorderedNonDuplicating ≡ kind_of k
unfolding kind_of
kind-above zero f g = absurd (f refl)
kind-above (suc zero) f g = absurd (g refl)
kind-above (suc (suc k)) f g = refl

-- ---- the library's test of a list is ours
pub listed-all : {A : Type 0} (p : A → Bool) (l : List A) → list_all p l ≡ all p l
unfolding all
listed-all p [] = refl
listed-all p (x ∷ l) = ap (λ (b : Bool). p x && b) (listed-all p l)

-- ---- the tables
-- What is told of each element of an array is told of each table in it.
each-told : (xs : List Table) (us : List Val) → shadow (each Table (row table.the_type).own_val xs us) → (t : Table) → t ∈ xs → TableTyped t
each-told [] us g t m = elim m [ ]
each-told (x ∷ xs) [] g t m = absurd g
each-told (x ∷ xs) (u ∷ us) g t (Memᴰ.head e) = rw e (table-says x (u ∷ []) g.0)
each-told (x ∷ xs) (u ∷ us) g t (Memᴰ.tail m) = each-told xs us g.1 t m

-- What the types say of an array of tables.
pub tables-say : (n : ℕ) (xs : List Table) (us : List Val) → shadow ((Array (row table.the_type) n).own_val xs us) → (length xs ≡ n)
    × ((t : Table) → t ∈ xs → TableTyped t)
tables-say n xs us g = (g.1.0.1, each-told xs g.0 g.1.1)

-- Those that pass their test are laid out.
pub tables-laid : (count : ℕ) (tables : List Table) → ((t : Table) → t ∈ tables → TableTyped t) → all table_ok (take count tables) ≡ true
    → (t : Table) → t ∈ take count tables → TableLaid t
tables-laid count tables typed e t i = table-laid t (typed t (take_in count tables t i)) (table-parts t (all_in _ _ e t i)).0
