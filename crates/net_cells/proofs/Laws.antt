-- Laws of cells: they are told apart and ordered as their entries are, and each is read back.
-- Assumes nothing.
use Prim.Native.Nat.{ℕ, zero, suc, ◌+◌, ◌*◌, ◌/◌, ◌%◌, ◌<◌}
use native.Mathlib.Nat.{mod-lt, mod-eq_of_lt, zero-lt-suc}
use native.Mathlib.Omega.{arith}
use mathlib.Core.Path.{◌≡◌, refl, sym, ap, ap₂, ◌∙◌}
use mathlib.Core.Bool.{Bool, true, false, not}
use mathlib.Core.List.{List, [], ◌∷◌, map}
use lib.ListN.{get_or, set}
use lib.Dec.{leb}
use borrow.Author.Tests.{le-leb, lt-leb}
use Rattle.lists.specs.Lists.{chain, lead}
use Rattle.lists.proofs.Sorted.{All}
use Rattle.types.specs.declared.Message.{Message}
use Rattle.types.specs.declared.Message.TheVariants.{Deliver, Ack}
use Rattle.types.specs.declared.Envelope.{Envelope}
use Rattle.types.specs.declared.Number.{Number}
use Rattle.types.specs.declared.Payload.{Payload}
use Rattle.rules.specs.Network.{single}
use Rattle.types.specs.declared.Entry.{Entry}
use Rattle.std.specs.declared.cmp.Ordering.{Ordering}
use Rattle.std.specs.declared.cmp.Ordering.TheVariants.{Less, Equal, Greater}
use Rattle.types.specs.Order.{cmp_n, and_then, tag_of, number_of, payload_of, cmp_envelope, cmp_flow, is_less, is_equal}
use Rattle.types.proofs.Laws.{cmp_n-less, cmp_n-equal, cmp_n-greater, cmp_n-by, and_then-assoc, and_then-equal}
use Rattle.net_cells.specs.Cells.{tags, payloads, head_with, cell_of, message_of, entry_of, cmp_cell, flow_of, Packed}

-- ---- the order
module _ (s d t s' d' t' : ℕ) (hd : d < 256) (ht : t < tags) (hd' : d' < 256) (ht' : t' < tags) where
  pub head-order : cmp_n (head_with s d t) (head_with s' d' t') ≡ and_then (cmp_n s s') (and_then (cmp_n d d') (cmp_n t t'))
  head-order = go (cmp_n s s') refl (cmp_n d d') refl (cmp_n t t') refl
    where
      go
          : (o : Ordering) → cmp_n s s' ≡ o → (p : Ordering) → cmp_n d d' ≡ p → (q : Ordering) → cmp_n t t' ≡ q
          → cmp_n (head_with s d t) (head_with s' d' t') ≡ and_then o (and_then p q)
      go Less e p f q g = cmp_n-less (head_with s d t) (head_with s' d' t') (omega (arith, cmp_n-by s s' Less e))
      go Greater e p f q g = cmp_n-greater (head_with s d t) (head_with s' d' t') (omega (arith, cmp_n-by s s' Greater e))
      go Equal e Less f q g = cmp_n-less (head_with s d t) (head_with s' d' t') (omega (arith, cmp_n-by s s' Equal e, cmp_n-by d d' Less f))
      go Equal e Greater f q g = cmp_n-greater (head_with s d t) (head_with s' d' t') (omega (arith, cmp_n-by s s' Equal e, cmp_n-by d d' Greater f))
      go Equal e Equal f Less g =
          cmp_n-less (head_with s d t) (head_with s' d' t') (omega (arith, cmp_n-by s s' Equal e, cmp_n-by d d' Equal f, cmp_n-by t t' Less g))
      go Equal e Equal f Greater g =
          cmp_n-greater (head_with s d t) (head_with s' d' t') (omega (arith, cmp_n-by s s' Equal e, cmp_n-by d d' Equal f, cmp_n-by t t' Greater g))
      go Equal e Equal f Equal g =
          cmp_n-equal (head_with s d t) (head_with s' d' t') (omega (arith, cmp_n-by s s' Equal e, cmp_n-by d d' Equal f, cmp_n-by t t' Equal g))

tag-few : (m : Message) → tag_of m < tags
tag-few (Deliver n p) = omega arith
tag-few (Ack n) = omega arith

-- Source, destination and payload are in the range of their types.
pub record Thin (e : Envelope) : Type 0 where
  pub src : e.src.0 < 256
  pub dst : e.dst.0 < 256
  pub payload : payload_of e.msg < payloads

abbrev pub Narrow : Entry → Type 0
Narrow x = Thin x.envelope

pub cell-order : (x y : Entry) → Narrow x → Narrow y → cmp_cell (cell_of x) (cell_of y) ≡ cmp_envelope x.envelope y.envelope
unfolding cmp_cell cell_of cmp_envelope
cell-order x y h k =
    let a = x.envelope in
    let b = y.envelope in
    ap
    (λ (o : Ordering). and_then o (and_then (cmp_n (number_of a.msg) (number_of b.msg)) (cmp_n (payload_of a.msg) (payload_of b.msg))))
    (head-order a.src.0 a.dst.0 (tag_of a.msg) b.src.0 b.dst.0 (tag_of b.msg) h.dst (tag-few a.msg) k.dst (tag-few b.msg))
    ∙ simp (and_then-assoc, and_then-equal)

pub cell-flow : (x : Entry) → flow_of (cell_of x) ≡ x.envelope.src.0 * 256 + x.envelope.dst.0
unfolding cell_of
cell-flow x = omega (arith, tag-few x.envelope.msg)

flow-order : (s d s' d' : ℕ) → d < 256 → d' < 256 → leb (s * 256 + d) (s' * 256 + d') ≡ not (is_less (and_then (cmp_n s' s) (and_then (cmp_n d' d) Equal)))
flow-order s d s' d' h k = go (cmp_n s' s) refl (cmp_n d' d) refl
  where
    go
        : (o : Ordering) → cmp_n s' s ≡ o → (p : Ordering) → cmp_n d' d ≡ p
        → leb (s * 256 + d) (s' * 256 + d') ≡ not (is_less (and_then o (and_then p Equal)))
    go Less e p f = lt-leb (s * 256 + d) (s' * 256 + d') (omega (arith, cmp_n-by s' s Less e))
    go Greater e p f = le-leb (s * 256 + d) (s' * 256 + d') (omega (arith, cmp_n-by s' s Greater e))
    go Equal e Less f = lt-leb (s * 256 + d) (s' * 256 + d') (omega (arith, cmp_n-by s' s Equal e, cmp_n-by d' d Less f))
    go Equal e Greater f = le-leb (s * 256 + d) (s' * 256 + d') (omega (arith, cmp_n-by s' s Equal e, cmp_n-by d' d Greater f))
    go Equal e Equal f = le-leb (s * 256 + d) (s' * 256 + d') (omega (arith, cmp_n-by s' s Equal e, cmp_n-by d' d Equal f))

-- x is of a flow up to that of y
pub cell-flows : (x y : Entry) → Narrow x → Narrow y → leb (flow_of (cell_of x)) (flow_of (cell_of y)) ≡ not (is_less (cmp_flow y.envelope x.envelope))
unfolding cmp_flow
cell-flows x y h k =
    ap₂ leb (cell-flow x) (cell-flow y)
    ∙ flow-order x.envelope.src.0 x.envelope.dst.0 y.envelope.src.0 y.envelope.dst.0 h.dst k.dst

-- ---- back
message-back : (m : Message) → message_of (tag_of m) (number_of m) (payload_of m) ≡ m
unfolding message_of
message-back (Deliver n p) = refl
message-back (Ack n) = refl

pub back : (x : Entry) → Narrow x → entry_of (cell_of x) ≡ x
unfolding entry_of cell_of
back x h =
    let t = tag-few x.envelope.msg in
    let h0 = head_with x.envelope.src.0 x.envelope.dst.0 (tag_of x.envelope.msg) in
    let a : h0 / (256 * tags) % 256 ≡ x.envelope.src.0 = omega (arith, h.src, h.dst) in
    let b : h0 / tags % 256 ≡ x.envelope.dst.0 = omega (arith, h.dst) in
    let c : h0 % tags ≡ tag_of x.envelope.msg = omega arith in
    let m =
    ap₂ (λ (k p : ℕ). message_of k (number_of x.envelope.msg) p) c (mod-eq_of_lt h.payload) ∙ message-back x.envelope.msg in
    λ i. record { envelope = record { src = record { 0 = a i }; dst = record { 0 = b i }; msg = m i }; count = x.count }

payload-in : (t n p : ℕ) → payload_of (message_of t n (p % payloads)) < payloads
unfolding message_of
payload-in zero n p = mod-lt p (omega arith)
payload-in (suc t) n p = omega arith

pub narrow : (c : List ℕ) → Narrow (entry_of c)
unfolding entry_of
narrow c = record {
  src = mod-lt (get_or c 0 0 / (256 * tags)) (zero-lt-suc 255);
  dst = mod-lt (get_or c 0 0 / tags) (zero-lt-suc 255);
  payload = payload-in (get_or c 0 0 % tags) (get_or c 1 0) (get_or c 2 0);
}

pub narrow-all : (cs : List (List ℕ)) → All Narrow (map entry_of cs)
narrow-all [] = tt
narrow-all (c ∷ cs) = (narrow c, narrow-all cs)

pub back-all : (l : List Entry) → All Narrow l → map entry_of (map cell_of l) ≡ l
back-all [] h = refl
back-all (x ∷ l) h = ap₂ (λ (y : Entry) (m : List Entry). y ∷ m) (back x h.0) (back-all l h.1)

-- ---- walks over cells are walks over their entries
module _ {A B : Type 0} (f : A → B) (P : A → Type 0) where
  pub lead-cells : (p : B → Bool) (q : A → Bool) → ((x : A) → P x → p (f x) ≡ q x) → (l : List A) → All P l → lead p (map f l) ≡ lead q l
  lead-cells p q e [] h = refl
  lead-cells p q e (x ∷ l) h =
      ap (λ (b : Bool). elim b [ true ↦ suc (lead p (map f l)) | false ↦ 0 ]) (e x h.0)
      ∙ ap (λ (n : ℕ). elim (q x) [ true ↦ suc n | false ↦ 0 ]) (lead-cells p q e l h.1)

  pub chain-cells
      : (R : B → B → Bool) (S : A → A → Bool) → ((x y : A) → P x → P y → R (f x) (f y) ≡ S x y) → (l : List A) → All P l
      → chain R (map f l) ≡ chain S l
  unfolding chain
  chain-cells R S e [] h = refl
  chain-cells R S e (x ∷ []) h = refl
  chain-cells R S e (x ∷ (y ∷ l)) h = rw (e x y h.0 h.1.0, chain-cells R S e (y ∷ l) h.1)

-- ---- two heads
module _ (x k : List ℕ) where
  pub other-head : (get_or x 0 0 ≡ get_or k 0 0 → ⊥) → false ≡ is_equal (cmp_cell x k)
  unfolding cmp_cell
  other-head n = go (cmp_n (get_or x 0 0) (get_or k 0 0)) refl
    where
      go
          : (o : Ordering) → cmp_n (get_or x 0 0) (get_or k 0 0) ≡ o
          → false ≡ is_equal (and_then o (and_then (cmp_n (get_or x 1 0) (get_or k 1 0)) (cmp_n (get_or x 2 0) (get_or k 2 0))))
      go Less e = refl
      go Equal e = absurd (n (cmp_n-by (get_or x 0 0) (get_or k 0 0) Equal e))
      go Greater e = refl

-- ---- an envelope once, and an entry with its count
pub packed : (x : Entry) (c : List ℕ) → Narrow x → c ≡ cell_of x → Packed x c
packed x c h e = record { cell = e; back = ap entry_of e ∙ back x h }

pub made-message
    : (e : Envelope) (n : Number) (p : Payload) (h : ℕ) → e.msg ≡ Deliver n p → h ≡ head_with e.src.0 e.dst.0 0
    → e.src.0 < 256 → e.dst.0 < 256 → p.0 < payloads → Packed (single e) (h ∷ n.0 ∷ p.0 ∷ 1 ∷ [])
unfolding cell_of single
made-message e n p h m q s d l = packed (single e) _ (record { src = s; dst = d; payload = rw m l }) (rw (m, q))

pub made-ack
    : (e : Envelope) (n : Number) (h : ℕ) → e.msg ≡ Ack n → h ≡ head_with e.src.0 e.dst.0 1
    → e.src.0 < 256 → e.dst.0 < 256 → Packed (single e) (h ∷ n.0 ∷ 0 ∷ 1 ∷ [])
unfolding cell_of single
made-ack e n h m q s d = packed (single e) _ (record { src = s; dst = d; payload = rw m (omega arith) }) (rw (m, q))

pub with-count : (x : Entry) (w : List ℕ) → Packed (single x.envelope) w → Packed x (set w 3 x.count)
unfolding cell_of entry_of single
with-count x w p =
    let q : (entry_of (cell_of (single x.envelope))).envelope ≡ x.envelope = ap (λ (y : Entry). y.envelope) (ap entry_of (sym p.cell) ∙ p.back) in
    record {
      cell = rw p.cell;
      back = ap (λ (v : List ℕ). entry_of (set v 3 x.count)) p.cell ∙ (λ i. record { envelope = q i; count = x.count });
    }
