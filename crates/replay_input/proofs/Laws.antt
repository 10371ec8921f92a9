-- What a read leaves at the front of the buffer, by what follows it, and where the script is.
-- Assumes nothing.
use Rattle.std.proofs.Common.{ℕ, zero, suc, ◌+◌, ◌≤◌, ◌<◌, ◌≡◌, refl, sym, ap, ◌∙◌, subst, Bool, true, false, eqb, ltb, if◌then◌else◌, List, ◌++◌, length, append_assoc, take, drop, length-drop, IfOk, arith}
use Rattle.std.proofs.KnownBytes.{Consumes-kept}
use Rattle.std.proofs.Math.Seq.{take-add}
use Rattle.std.proofs.lemmas.Bool.{eqb-true, eqb-false, ltb-false}
use Rattle.std.specs.Prelude.{Option, None, Some, Result, Ok, Err}
use Rattle.std.specs.Io.KnownBytes.{Consumes, IsAtEnd, ReadConsumes}
use Rattle.std.specs.declared.io.Error.{Error}
use Rattle.std.specs.declared.ops.ControlFlow.{ControlFlow}
use Rattle.std.specs.declared.ops.ControlFlow.TheVariants.{Break, Continue}
use Rattle.replay_input.specs.declared.Source.TheVariants as source
use Rattle.replay_input.specs.Views.{next_of, ConsumesPart, source_of}

-- ---- reads
-- What came before, and then what a read gave behind it.
consumes-both : (a b c : Option (List ℕ)) (bs cs : List ℕ) → Consumes a b bs → Consumes b c cs → Consumes a c (bs ++ cs)
consumes-both None b c bs cs p q = tt
consumes-both (Some x) None c bs cs p q = absurd p
consumes-both (Some x) (Some y) None bs cs p q = absurd q
consumes-both (Some x) (Some y) (Some z) bs cs p q = p ∙ ap (λ (l : List ℕ). bs ++ l) q ∙ sym (append_assoc bs cs z)

pub consumes_more : (a b c : Option (List ℕ)) (at n : ℕ) (xs zs : List ℕ) → take at zs ≡ take at xs
    → Consumes a b (take at xs) → Consumes b c (take n (drop at zs)) → Consumes a c (take (at + n) zs)
consumes_more a b c at n xs zs k p q =
    let e = take-add at n zs ∙ ap (λ (l : List ℕ). l ++ take n (drop at zs)) k in
    subst (Consumes a c) (sym e) (consumes-both a b c (take at xs) (take n (drop at zs)) p q)

-- What is so behind a read, by what follows it. The known bytes that were taken stand before the place; another read is made past this
-- one's place; an end before the buffer's is the reader's.
abbrev pub After : Option (List ℕ) → Option (List ℕ) → ℕ → List ℕ → Result (ControlFlow ℕ ℕ) Error → Type 0
After a c at zs (Err e) = Consumes a c (take at zs)
After a c at zs (Ok (Continue place)) = (at < place) × (place ≤ length zs) × Consumes a c (take place zs)
After a c at zs (Ok (Break size)) = (size ≤ length zs) × Consumes a c (take size zs) × (size < length zs → IsAtEnd c)

after : (a b c : Option (List ℕ)) (got : Result ℕ Error) (at : ℕ) (xs zs : List ℕ) → take at zs ≡ take at xs
    → IfOk got (λ n. at + n ≤ length zs) → ReadConsumes b c got (drop at zs) → Consumes a b (take at xs)
    → After a c at zs (next_of got at (length zs))
unfolding next_of
after a b c (Err e) at xs zs k w r p = subst (Consumes a c) (sym k) (Consumes-kept a b c (take at xs) p r)
after a b c (Ok n) at xs zs k w r p = go (eqb n 0) (ltb (at + n) (length zs)) refl refl
  where
    more : Consumes a c (take (at + n) zs)
    more = consumes_more a b c at n xs zs k p r.0

    go : (s t : Bool) → eqb n 0 ≡ s → ltb (at + n) (length zs) ≡ t
        → After a c at zs (if s then Ok (Break at) else (if t then Ok (Continue (at + n)) else Ok (Break (at + n))))
    go true t h i =
        let none : n ≡ 0 = eqb-true n 0 h in
        let same : at + n ≡ at = omega (arith, none) in (
          omega (arith, w),
          subst (λ (m : ℕ). Consumes a c (take m zs)) same more,
          λ (j : at < length zs). r.1 none (omega (arith, length-drop at zs)),
        )
    go false true h i = (omega (arith, eqb-false n 0 h), w, more)
    go false false h i = (w, more, λ (j : at + n < length zs). absurd (omega (arith, ltb-false (at + n) (length zs) i)))

-- The same, as `read_all` meets it.
pub fails : (a b c : Option (List ℕ)) (got : Result ℕ Error) (e : Error) (at : ℕ) (xs zs : List ℕ) → Err e ≡ next_of got at (length zs)
    → at ≤ length zs → take at zs ≡ take at xs → IfOk got (λ n. at + n ≤ length zs) → ReadConsumes b c got (drop at zs)
    → Consumes a b (take at xs) → ConsumesPart a c zs
fails a b c got e at xs zs q h k w r p =
    record { count = at; within = h; bytes = subst (After a c at zs) (sym q) (after a b c got at xs zs k w r p) }

pub follows : (a b c : Option (List ℕ)) (got : Result ℕ Error) (x y : ControlFlow ℕ ℕ) (at : ℕ) (xs zs : List ℕ)
    → Ok x ≡ next_of got at (length zs) → x ≡ y → take at zs ≡ take at xs → IfOk got (λ n. at + n ≤ length zs)
    → ReadConsumes b c got (drop at zs) → Consumes a b (take at xs) → After a c at zs (Ok y)
follows a b c got x y at xs zs q u k w r p = subst (After a c at zs) (sym q ∙ ap Ok u) (after a b c got at xs zs k w r p)

-- ---- the arguments
pub is_input : (n : ℕ) → n ≤ 1 → source.Input ≡ source_of n
unfolding source_of
is_input zero h = refl
is_input (suc zero) h = refl
is_input (suc (suc n)) h = absurd (omega arith)

pub is_wrong : (n : ℕ) → 2 ≤ n → (n ≡ 2 → ⊥) → source.Wrong ≡ source_of n
unfolding source_of
is_wrong zero h f = absurd (omega arith)
is_wrong (suc zero) h f = absurd (omega arith)
is_wrong (suc (suc zero)) h f = absurd (f refl)
is_wrong (suc (suc (suc n))) h f = refl
