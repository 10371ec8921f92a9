-- Any two words are the front of some bytes, so that no second answer fits what is promised for all bytes whose front they are.
-- Assumes nothing.
use Prim.Native.Nat.{ℕ, ◌^◌, ◌<◌}
use mathlib.Core.Path.{◌≡◌, sym, ◌∙◌, refl}
use mathlib.Core.List.{List, [], ◌∷◌, ◌++◌}
use Rattle.layout.specs.Bits.{field_at}
use Rattle.layout.specs.Form.{Form, filled, field}
use Rattle.layout.specs.Write.{written}
use Rattle.layout.proofs.Laws.{found}
use Rattle.layout.proofs.Back.{read-written}
use Rattle.script_bits.specs.Front.{Front, Cuts}

abbrev two : Form (List ℕ)
two = field 64 (λ a. field 64 (λ b. filled (a ∷ b ∷ [])))

abbrev pub bytes_of_two : ℕ → ℕ → List ℕ
bytes_of_two w v = written two (w ∷ v ∷ []) ++ []

module _ (w v : ℕ) (h : w < 2 ^ 64) (g : v < 2 ^ 64) where
  pub front_of : Front (bytes_of_two w v) w v
  front_of =
      let xs = bytes_of_two w v in
      let r = found two xs (read-written two (w ∷ v ∷ []) [] (h, (g, tt)) refl) in
      let e = r.follows in
      let p : w ≡ field_at xs 0 64 = cc in
      let q : v ≡ field_at xs 64 64 = cc in
      record { first = p; second = q }

  pub one-cut : (at width x y : ℕ) → Cuts w v at width x → Cuts w v at width y → x ≡ y
  one-cut at width x y j k = j (bytes_of_two w v) front_of ∙ sym (k (bytes_of_two w v) front_of)
