-- Pieces of text one after another, and how long a line may be.
-- Assumes nothing.
use Prim.Native.Nat.{ℕ, zero, suc, ◌+◌, ◌-◌, ◌*◌, ◌≤◌, ◌<◌}
use native.Mathlib.Numerals.{add-one}
use native.Mathlib.Omega.{arith}
use mathlib.Core.Bool.{Bool, true, false}
use mathlib.Core.Path.{◌≡◌, refl, sym, ap, ◌∙◌, subst}
use mathlib.Core.List.{List, [], ◌∷◌, ◌++◌, append_assoc}
use lib.ListN.{length, take, drop, get_or, take-append-drop, length-append, length-drop}
use lib.Seq.{length-take-le, take_at, drop-append-add, drop-drop, drop-cons}
use borrow.Rule.Slice.PartMut.{put_mid, Post-is}
use mir.Syntax.{w64}
use mir.Val as val
use Rattle.lists.specs.Lists.{choose}
use Rattle.rules.specs.Program.{decimal, spaced, line}
use Rattle.replay_decimals.proofs.Laws.{length-decimal}
use Rattle.replay_lines.specs.Pieces.{put, Fits, Room, Piece}

-- ---- one piece
pub written
    : {w : Bool} {at end : ℕ} {l out left : List ℕ} → w ≡ true → end ≡ at + length l → left ≡ take at out ++ (l ++ drop end out)
    → Piece w at l out end left
unfolding put choose
written e n b = record { next = n; bytes = rw (e, ← n) b }

pub measured : {w : Bool} {at end : ℕ} {l out left : List ℕ} → w ≡ false → end ≡ at + length l → left ≡ out → Piece w at l out end left
unfolding put choose
measured e n b = record { next = n; bytes = rw e b }

pub copied
    : {w : Bool} (at : ℕ) (word out part : List ℕ) → w ≡ true → part ≡ word
    → Piece w at word out (at + length word) (put_mid at (at + length word - at) out part)
copied at word out part e h =
    let past = Post-is at (at + length word) out (omega arith) in
    written e refl (ap (λ (l : List ℕ). put_mid at (at + length word - at) out l) h ∙ ap (λ (l : List ℕ). take at out ++ (word ++ l)) past)

pub none : {w : Bool} {at : ℕ} {out : List ℕ} → Piece w at [] out at out
unfolding put choose
none {w = true} {at} {out} =
    let e : at + 0 ≡ at = omega arith in
    record { next = omega arith; bytes = rw e (sym (take-append-drop at out)) }
none {w = false} = record { next = omega arith; bytes = refl }

-- ---- a piece, then another
module _ (at : ℕ) (a out : List ℕ) (h : at + length a ≤ length out) where
  length-head : length (take at out ++ a) ≡ at + length a
  length-head = length-append (take at out) a ∙ ap (λ (k : ℕ). k + length a) (length-take-le at out (omega arith))

  length-put : length (put true at a out) ≡ length out
  unfolding put choose
  length-put =
      let t = length-take-le at out (omega arith) in
      simp (length-append, length-drop) (omega arith)

  put-put : (b : List ℕ) → put true (at + length a) b (put true at a out) ≡ put true at (a ++ b) out
  unfolding put choose
  put-put b =
      let p : List ℕ = take at out ++ a in
      let d : List ℕ = drop (at + length a) out in
      let e : at + length a + length b ≡ at + length (a ++ b) = omega (arith, length-append a b) in
      let s : take at out ++ (a ++ d) ≡ p ++ d = sym (append_assoc (take at out) a d) in
      let t : take (at + length a) (p ++ d) ≡ p = take_at p d (at + length a) length-head in
      let u : drop (at + length a + length b) (p ++ d) ≡ drop (at + length (a ++ b)) out =
      ap (λ (k : ℕ). drop (k + length b) (p ++ d)) (sym length-head)
      ∙ drop-append-add p d (length b)
      ∙ drop-drop (length b) (at + length a) out
      ∙ ap (λ (k : ℕ). drop k out) e in
      rw (s, t, u) (simp append_assoc)

put_then : (w : Bool) (at : ℕ) (a b out : List ℕ) → Fits w at a out → put w (at + length a) b (put w at a out) ≡ put w at (a ++ b) out
unfolding put choose
put_then true at a b out f = put-put at a out (f refl) b
put_then false at a b out f = refl

pub length-left : {w : Bool} {at end : ℕ} {l out left : List ℕ} → Fits w at l out → Piece w at l out end left → length left ≡ length out
unfolding put choose
length-left {w = true} {at} {end} {l} {out} f p = ap length p.bytes ∙ length-put at l out (f refl)
length-left {w = false} f p = ap length p.bytes

pub fits-first : (w : Bool) (at : ℕ) (a b out : List ℕ) → Fits w at (a ++ b) out → Fits w at a out
fits-first w at a b out f t = omega (arith, f t, length-append a b)

pub fits-then
    : {w : Bool} {at m : ℕ} {out left : List ℕ} (a b : List ℕ) → Fits w at (a ++ b) out → Piece w at a out m left → Fits w m b left
fits-then {w} {at} {m} {out} {left} a b f p t =
    let l = length-left (fits-first w at a b out f) p in
    omega (arith, f t, length-append a b, p.next)

pub piece_then
    : {w : Bool} {at m end : ℕ} {out mid left : List ℕ} (a b : List ℕ) → Fits w at (a ++ b) out → Piece w at a out m mid
    → Piece w m b mid end left → Piece w at (a ++ b) out end left
piece_then {w} {at} {m} {end} {out} {mid} {left} a b f p q =
    let e = length-append a b in
    record { next = omega (arith, p.next, q.next); bytes = q.bytes ∙ rw (p.next, p.bytes) (put_then w at a b out (fits-first w at a b out f)) }

pub room-first : {w : Bool} {at : ℕ} {out : List ℕ} (a b : List ℕ) → Room w at (a ++ b) out → Room w at a out
room-first {w} {at} {out} a b r =
    record { fits = fits-first w at a b out r.fits; small = omega (arith, r.small, length-append a b) }

pub room-then
    : {w : Bool} {at m : ℕ} {out left : List ℕ} (a b : List ℕ) → Room w at (a ++ b) out → Piece w at a out m left → Room w m b left
room-then a b r p =
    record { fits = fits-then a b r.fits p; small = omega (arith, r.small, p.next, length-append a b) }

-- ---- a piece, part by part
-- What is left to put has room, and completes the whole.
pub record Left (w : Bool) (at : ℕ) (whole before : List ℕ) (end : ℕ) (rest now : List ℕ) : Type 0 where
  pub room : Room w end rest now
  pub completes : (last : ℕ) (left : List ℕ) → Piece w end rest now last left → Piece w at whole before last left

pub left_all : {w : Bool} {at : ℕ} {whole before : List ℕ} → Room w at whole before → Left w at whole before at whole before
left_all r = record { room = r; completes = λ last left p. p }

-- one part less is left
pub left_more
    : {w : Bool} {at end m : ℕ} {whole before now mid : List ℕ} (a b : List ℕ) → Left w at whole before end (a ++ b) now → Piece w end a now m mid
    → Left w at whole before m b mid
left_more a b l p = record {
  room = room-then a b l.room p;
  completes = λ last left q. l.completes last left (piece_then a b l.room.fits p q);
}

-- ---- the numbers of a line
module _ {w : Bool} {at end : ℕ} {whole before now : List ℕ} (numbers : List ℕ) (i : ℕ) (h : i < length numbers)
    (l : Left w at whole before end (spaced (drop i numbers)) now) where
  abbrev number : ℕ
  number = get_or numbers i 0

  abbrev others : List ℕ
  others = spaced (drop (i + 1) numbers)

  next-is : spaced (drop i numbers) ≡ (32 ∷ []) ++ (decimal number ++ others)
  unfolding spaced
  next-is = rw (add-one, drop-cons numbers i 0)

  at-space : Left w at whole before end ((32 ∷ []) ++ (decimal number ++ others)) now
  at-space = subst (λ (r : List ℕ). Left w at whole before end r now) next-is l

  pub space-room : Room w end (32 ∷ []) now
  space-room = room-first (32 ∷ []) (decimal number ++ others) at-space.room

  module _ {m : ℕ} {mid : List ℕ} (p : Piece w end (32 ∷ []) now m mid) where
    at-number : Left w at whole before m (decimal number ++ others) mid
    at-number = left_more (32 ∷ []) (decimal number ++ others) at-space p

    pub number-room : Room w m (decimal number) mid
    number-room = room-first (decimal number) others at-number.room

    pub past-number : {k : ℕ} {after : List ℕ} → Piece w m (decimal number) mid k after → Left w at whole before k others after
    past-number q = left_more (decimal number) others at-number q

-- past the last one the line feed is left
spaced_past : (i : ℕ) (numbers : List ℕ) → length numbers ≤ i → spaced (drop i numbers) ≡ 10 ∷ []
unfolding spaced
spaced_past zero [] h = refl
spaced_past (suc i) [] h = refl
spaced_past zero (n ∷ l) h = absurd (omega arith)
spaced_past (suc i) (n ∷ l) h = spaced_past i l (omega arith)

pub past-all : {w : Bool} {at end : ℕ} {whole before now : List ℕ} (numbers : List ℕ) (i : ℕ) → length numbers ≤ i
    → Left w at whole before end (spaced (drop i numbers)) now → Left w at whole before end (10 ∷ []) now
past-all {w} {at} {end} {whole} {before} {now} numbers i h l =
    subst (λ (r : List ℕ). Left w at whole before end r now) (spaced_past i numbers h) l

-- ---- how long a line may be
abbrev Wide : List ℕ → Type 0
Wide [] = Unit {0}
Wide (n ∷ l) = val.Fits w64 n × Wide l

length-numbers : (l : List ℕ) → Wide l → length (spaced l) ≤ 21 * length l + 1
unfolding spaced
length-numbers [] h = omega arith
length-numbers (n ∷ l) h =
    let i = length-numbers l h.1 in
    let e = length-append (decimal n) (spaced l) in
    omega (arith, length-decimal n (omega arith))

pub length-line : (word l : List ℕ) → Wide l → length word + 21 * length l ≤ 79 → length (line word l) ≤ 80
unfolding line
length-line word l h k = omega (arith, length-append word (spaced l), length-numbers l h)

pub room-line : {w : Bool} {at : ℕ} {l out : List ℕ} → Fits w at l out × (at ≤ 4294967296) → length l ≤ 80 → Room w at l out
room-line p k = record { fits = p.0; small = omega (arith, p.1) }

-- what the code of a line promises
pub line-told
    : {w : Bool} {at end : ℕ} {l out left : List ℕ} → Piece w at l out end left → length l ≤ 80
    → (end ≡ at + length l) × (left ≡ put w at l out) × (end ≤ at + 80)
line-told p k = (p.next, p.bytes, omega (arith, p.next))
