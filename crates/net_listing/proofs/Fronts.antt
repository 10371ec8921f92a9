-- On kind 0, in canonical order, a flow stands together. So the fronts are the first entry and each whose flow is another than that of the entry before.
-- Assumes nothing.
use mathlib.Core.Path.{◌≡◌, refl, sym, ap, ◌∙◌}
use mathlib.Core.Logic.{⊎_elim}
use mathlib.Core.Bool.{Bool, true, false, not, true≢false, false≢true}
use mathlib.Core.List.Memᴰ
use mathlib.Core.List.{List, [], ◌∷◌, map}
use Rattle.lists.specs.Lists.{◌∈◌, choose, keep, chain}
use Rattle.lists.proofs.Members.{and_both, in-choose, not-true}
use Rattle.std.specs.declared.cmp.Ordering.{Ordering}
use Rattle.std.specs.declared.cmp.Ordering.TheVariants.{Less, Equal, Greater}
use Rattle.types.specs.declared.Envelope.{Envelope}
use Rattle.types.specs.declared.Entry.{Entry}
use Rattle.types.specs.declared.Kind.TheVariants.{Ordered}
use Rattle.types.specs.Order.{cmp_flow, flow_key, lex, is_less, is_equal}
use Rattle.types.proofs.Laws.{less-is, lex-flip, flow-trans}
use Rattle.rules.specs.Network.{fronts}
use Rattle.rules.specs.WellFormed.{in_order}

-- ---- two flows
-- Neither after nor equal: before.
flow-less : (a b : Envelope) → not (is_less (cmp_flow b a)) ≡ true → not (is_equal (cmp_flow a b)) ≡ true → is_less (cmp_flow a b) ≡ true
unfolding cmp_flow
flow-less a b h k = go (lex (flow_key a) (flow_key b)) refl k
  where
    go : (o : Ordering) → lex (flow_key a) (flow_key b) ≡ o → not (is_equal o) ≡ true → is_less o ≡ true
    go Less e q = refl
    go Equal e q = absurd (false≢true q)
    go Greater e q = absurd (false≢true (sym (ap (λ (o : Ordering). not (is_less o)) (lex-flip (flow_key a) (flow_key b) e)) ∙ h))

-- Not after, and then before.
flow-up : (a b c : Envelope) → not (is_less (cmp_flow b a)) ≡ true → is_less (cmp_flow b c) ≡ true → is_less (cmp_flow a c) ≡ true
flow-up a b c h k = go (is_less (cmp_flow a c)) refl
  where
    go : (t : Bool) → is_less (cmp_flow a c) ≡ t → is_less (cmp_flow a c) ≡ true
    go true e = e
    go false e = absurd (true≢false (sym k ∙ not-true _ (flow-trans c a b (ap not e) h)))

-- ---- where the flow changes
abbrev changes : Envelope → Envelope → Bool
changes e f = not (is_equal (cmp_flow e f))

-- The envelopes whose flow is another than that of the one before, p before the first.
unfoldable pub breaks : Entry → List Entry → List Envelope
breaks p [] = []
breaks p (x ∷ l) = choose (changes p.envelope x.envelope) (x.envelope ∷ breaks x l) (breaks x l)

-- Each of them is of a later flow than what stands before the list.
later : (p : Entry) (l : List Entry) → chain (in_order Ordered) (p ∷ l) ≡ true → (f : Envelope) → f ∈ breaks p l → is_less (cmp_flow p.envelope f)
    ≡ true
unfolding chain in_order breaks
later p [] h f m = absurd (Memᴰ.not-nil m)
later p (x ∷ l) h f m =
    let o = and_both (not (is_less (cmp_flow x.envelope p.envelope))) _ h in
    let up : f ∈ breaks x l → is_less (cmp_flow p.envelope f) ≡ true = λ n. flow-up p.envelope x.envelope f o.0 (later x l o.1 f n) in
    let here : f ≡ x.envelope → changes p.envelope x.envelope ≡ true → is_less (cmp_flow p.envelope f) ≡ true
    = λ e q. ap (λ (g : Envelope). is_less (cmp_flow p.envelope g)) e ∙ flow-less p.envelope x.envelope o.0 q in
    ⊎_elim
    (λ t. ⊎_elim (λ e. here e t.0) up (Memᴰ.cases_cons t.1))
    (λ t. up t.1)
    (in-choose _ _ _ m)

keep_all : {A : Type 0} (p : A → Bool) (l : List A) → ((x : A) → x ∈ l → p x ≡ true) → keep p l ≡ l
unfolding keep choose
keep_all p [] f = refl
keep_all {A = A} p (x ∷ l) f = rw (f x (Memᴰ.head refl)) (ap (λ (m : List A). x ∷ m) (keep_all p l (λ y m. f y (Memᴰ.tail m))))

pub fronts-are
    : (p : Entry) (l : List Entry) → chain (in_order Ordered) (p ∷ l) ≡ true
    → fronts (map (λ (x : Entry). x.envelope) (p ∷ l)) ≡ p.envelope ∷ breaks p l
unfolding fronts keep chain in_order breaks
fronts-are p [] h = refl
fronts-are p (x ∷ l) h =
    let o = and_both (not (is_less (cmp_flow x.envelope p.envelope))) _ h in
    let other : (f : Envelope) → f ∈ breaks x l → changes p.envelope f ≡ true
    = λ f m. ap (λ (t : Ordering). not (is_equal t)) (less-is (cmp_flow p.envelope f) (flow-up p.envelope x.envelope f o.0 (later x l o.1 f m))) in
    let rest : keep (changes p.envelope) (breaks x l) ≡ breaks x l = keep_all (changes p.envelope) (breaks x l) other in
    ap (λ (r : List Envelope). p.envelope ∷ keep (changes p.envelope) r) (fronts-are x l o.1) ∙ rw rest
