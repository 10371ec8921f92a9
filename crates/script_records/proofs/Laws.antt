-- Why a record is read right: what stands in its fields leads its form to the value, and what follows its bits says where it ends.
-- Assumes nothing.
use Prim.Native.Nat.{ℕ, ◌+◌, ◌≤◌, ◌<◌}
use native.Mathlib.Omega.{arith}
use mathlib.Core.Path.{◌≡◌, refl, sym, ap, ◌∙◌}
use mathlib.Core.List.{List, [], ◌∷◌}
use mathlib.Core.Bool.{true, false}
use Rattle.std.specs.Prelude.{Some, None}
use native.Mathlib.Decide.{ℕ_discrete}
use borrow.Author.Tests.{le-leb, lt-leb, lt-ltb, le-ltb}
use lib.ListN.{length, get_or, drop, get_or-eq_default}
use lib.Dec.{leb, ltb, lit≤}
use Rattle.layout.specs.Bits.{field_at}
use Rattle.layout.specs.Form.{Form, filled, refuse, field, Reached, reached, stuck, Got, got, bad, follow, only, record_of}
use Rattle.layout.specs.Read.{placed, one}
use Rattle.layout.proofs.Laws.{on_reached, follow-then, found, record-fits, follow-from, fed, follow-only, follow-not}
use Rattle.script_bits.specs.Front.{Front}
use Rattle.types.specs.declared.Action.TheVariants as action
use Rattle.types.specs.declared.Envelope.{Envelope}
use Rattle.types.specs.declared.Format.{Format}
use Rattle.types.specs.declared.Message.{Message}
use Rattle.types.specs.declared.Message.TheVariants as message
use Rattle.rules.specs.Script.{header_ok, header_form, message_kinds, message_form, envelope_form, Item, end}
use Rattle.rules.specs.Script.{item, action_kinds, action_form, take_action, size_of}
use Rattle.script_places.proofs.Laws.{then_at, then-stuck, moved, fed-on, part-back}
use Rattle.script_records.specs.Views.{action_read, action_size, envelope_part, action_part}
use Rattle.script_records.specs.declared.ActionPart.{ActionPart}
use Rattle.script_records.specs.declared.ActionPart.TheVariants as actions

-- the two words that stand at a place
pub stand
    : (s : List ℕ) (at : ℕ) {xs : List ℕ} {w v : ℕ} → xs ≡ drop at s → w ≡ field_at xs 0 64 → v ≡ field_at xs 64 64 → Front (drop at s) w v
stand s at l p q = record { first = p ∙ ap (λ (ys : List ℕ). field_at ys 0 64) l; second = q ∙ ap (λ (ys : List ℕ). field_at ys 64 64) l }

-- ---- sizes
module _ {A : Type 0} (xs : List ℕ) where
  -- every record of this form has a byte, and lies within the bytes
  abbrev pub Sized : Form A → Type 0
  Sized f = (a : A) (n : ℕ) → record_of f xs ≡ got a n → (1 ≤ n) × (n ≤ length xs)

  pub sized : (w : ℕ) (k : ℕ → Form A) → 1 ≤ w → Sized (field w k)
  sized w k h a n e =
      let r = found (field w k) xs e in (
        omega (arith, r.size, follow-from xs (k (field_at xs 0 w)) (0 + w) r.follows),
        record-fits (field w k) xs e,
      )

abbrev pub count_form : ℕ → ℕ → Form ℕ
count_form w m = field w (λ c. only (leb c m) (filled c))

module _ (xs : List ℕ) where
  -- ---- the header
  module _ (known : List Format) {n k a z : ℕ} (p : n ≡ field_at xs 0 4) (q : k ≡ field_at xs 4 2) (r : a ≡ field_at xs 6 4)
      (s : z ≡ field_at xs 10 6) where
    header-rest : follow xs (header_form known) 0 ≡ follow xs (only (header_ok known n k a z) (filled (record { version = n; kind = k; actors = a }))) 16
    unfolding header_form
    header-rest = fed-on xs (header_form known) 0 (n ∷ k ∷ a ∷ z ∷ []) (p, (q, (r, (s, tt))))

    pub header_at : header_ok known n k a z ≡ true → follow xs (header_form known) 0 ≡ reached (record { version = n; kind = k; actors = a }) 16
    header_at t = header-rest ∙ follow-only xs (filled (record { version = n; kind = k; actors = a })) 16 t

    pub no_header : header_ok known n k a z ≡ false → follow xs (header_form known) 0 ≡ stuck
    no_header t = header-rest ∙ follow-not xs (filled (record { version = n; kind = k; actors = a })) 16 t

  -- ---- counts
  module _ (w m : ℕ) where
    pub count_at : {c : ℕ} → c ≡ field_at xs 0 w → c ≤ m → follow xs (count_form w m) 0 ≡ reached c w
    count_at {c} p h =
        let e : 0 + w ≡ w = omega arith in
        let n : field_at xs 0 w ≤ m = omega arith in
        follow-only xs (filled (field_at xs 0 w)) (0 + w) (le-leb _ _ n) ∙ rw (p, e)

    pub no-count : {c : ℕ} → c ≡ field_at xs 0 w → m < c → follow xs (count_form w m) 0 ≡ stuck
    no-count {c} p h =
        let n : m < field_at xs 0 w = omega arith in follow-not xs (filled (field_at xs 0 w)) (0 + w) (lt-leb _ _ n)

  module _ (f : Format) (at : ℕ) where
    -- ---- a message and an envelope
    module _ {b : ℕ} (z : b ≡ at + f.tag) {c : ℕ} (y : c ≡ b + f.number) where
      pub deliver-at
          : {n p e : ℕ} → 0 ≡ field_at xs at f.tag → n ≡ field_at xs b f.number → p ≡ field_at xs c 32 → e ≡ c + 32
          → follow xs (message_form f) at ≡ reached (message.Deliver (record { 0 = n }) (record { 0 = p })) e
      unfolding message_form message_kinds
      deliver-at {n} {p} {e} t q r s =
          let g : c ≡ at + f.tag + f.number = omega (arith, z, y) in
          let k : at + f.tag + f.number + 32 ≡ e = omega (arith, z, y, s) in
          fed xs (message_form f) at (0 ∷ n ∷ p ∷ []) (t, (moved xs f.number q z, (moved xs 32 r g, tt)))
          ∙ ap (reached (message.Deliver (record { 0 = n }) (record { 0 = p }))) k

      pub ack-at
          : {n : ℕ} → 1 ≡ field_at xs at f.tag → n ≡ field_at xs b f.number → follow xs (message_form f) at
          ≡ reached (message.Ack (record { 0 = n })) c
      unfolding message_form message_kinds
      ack-at {n} t q =
          let g : at + f.tag + f.number ≡ c = omega (arith, z, y) in
          fed xs (message_form f) at (1 ∷ n ∷ []) (t, (moved xs f.number q z, tt)) ∙ ap (reached (message.Ack (record { 0 = n }))) g

    pub no-message : 2 ≤ field_at xs at f.tag → follow xs (message_form f) at ≡ stuck
    unfolding message_form message_kinds
    no-message h = ap (λ (g : Form Message). follow xs g (at + f.tag)) (get_or-eq_default (message_kinds f) refuse h)

    module _ {s d c : ℕ} (p : s ≡ field_at xs at 8) (q : d ≡ field_at xs (at + 8) 8) (z : c ≡ at + 16) where
      behind : at + 8 + 8 ≡ c
      behind = omega (arith, z)

      pub envelope-at
          : {m : Message} {e : ℕ} → follow xs (message_form f) c ≡ reached m e
          → follow xs (envelope_form f) at ≡ reached (record { src = record { 0 = s }; dst = record { 0 = d }; msg = m }) e
      unfolding envelope_form
      envelope-at h =
          rw (p, q)
          (then_at xs (at + 8 + 8) (message_form f) (λ m. record { src = record { 0 = _ }; dst = record { 0 = _ }; msg = m })
          (ap (follow xs (message_form f)) behind ∙ h))

      pub no-envelope : follow xs (message_form f) c ≡ stuck → follow xs (envelope_form f) at ≡ stuck
      unfolding envelope_form
      no-envelope h =
          then-stuck xs (at + 8 + 8) (message_form f) (λ m. record {
            src = record { 0 = field_at xs at 8 };
            dst = record { 0 = field_at xs (at + 8) 8 };
            msg = m;
          })
          (ap (follow xs (message_form f)) behind ∙ h)

  module _ (f : Format) where
    -- ---- an action is what its kind says
    module _ {k : ℕ} (p : k ≡ field_at xs 0 3) where
      kind-rest : follow xs (action_form f) 0 ≡ follow xs (only (ltb k f.kinds) (get_or (action_kinds f) k refuse)) 3
      unfolding action_form
      kind-rest = fed-on xs (action_form f) 0 (k ∷ []) (p, tt)

      pub kind_at : k < f.kinds → follow xs (action_form f) 0 ≡ follow xs (get_or (action_kinds f) k refuse) 3
      kind_at h = kind-rest ∙ follow-only xs (get_or (action_kinds f) k refuse) 3 (lt-ltb _ _ h)

      pub no_kind : f.kinds ≤ k → follow xs (action_form f) 0 ≡ stuck
      no_kind h = kind-rest ∙ follow-not xs (get_or (action_kinds f) k refuse) 3 (le-ltb _ _ h)

      pub kind-past : k < f.kinds → 6 ≤ k → follow xs (action_form f) 0 ≡ stuck
      unfolding action_kinds
      kind-past g h = kind_at g ∙ ap (λ (i : Form Item). follow xs i 3) (get_or-eq_default (action_kinds f) refuse h)

    module _ {k : ℕ} (p : k ≡ field_at xs 0 3) (within : k < f.kinds) where
      -- a Deliver or a Drop is its envelope
      deliver-kind : k ≡ 1 → follow xs (action_form f) 0 ≡ on_reached (follow xs (envelope_form f) 3) (λ e n. reached (item (action.Deliver e)) n)
      unfolding action_kinds
      deliver-kind e =
          kind_at p within ∙ ap (λ (j : ℕ). follow xs (get_or (action_kinds f) j refuse) 3) e
          ∙ follow-then xs (envelope_form f) (λ x. filled (item (action.Deliver x))) 3

      drop-kind : k ≡ 2 → follow xs (action_form f) 0 ≡ on_reached (follow xs (envelope_form f) 3) (λ e n. reached (item (action.Drop e)) n)
      unfolding action_kinds
      drop-kind e =
          kind_at p within ∙ ap (λ (j : ℕ). follow xs (get_or (action_kinds f) j refuse) 3) e
          ∙ follow-then xs (envelope_form f) (λ x. filled (item (action.Drop x))) 3

      module _ {e : Envelope} {n : ℕ} (q : Some (e, n) ≡ envelope_part (follow xs (envelope_form f) 3)) where
        pub deliver-act : k ≡ 1 → follow xs (action_form f) 0 ≡ reached (item (action.Deliver e)) n
        deliver-act z = deliver-kind z ∙ ap (λ (r : Reached Envelope). on_reached r (λ e n. reached (item (action.Deliver e)) n)) (part-back q)

        pub drop-act : k ≡ 2 → follow xs (action_form f) 0 ≡ reached (item (action.Drop e)) n
        drop-act z = drop-kind z ∙ ap (λ (r : Reached Envelope). on_reached r (λ e n. reached (item (action.Drop e)) n)) (part-back q)

      pub no-act : None ≡ envelope_part (follow xs (envelope_form f) 3) → 1 ≤ k → k ≤ 2 → follow xs (action_form f) 0 ≡ stuck
      no-act q g h = go (ℕ_discrete k 1)
        where
          go : Dec (k ≡ 1) → follow xs (action_form f) 0 ≡ stuck
          go (yes e) = deliver-kind e ∙ ap (λ (r : Reached Envelope). on_reached r (λ e n. reached (item (action.Deliver e)) n)) (part-back q)
          go (no e) = drop-kind (omega arith) ∙ ap (λ (r : Reached Envelope). on_reached r (λ e n. reached (item (action.Drop e)) n)) (part-back q)

      pub end-kind : k ≡ 0 → follow xs (action_form f) 0 ≡ reached end 3
      unfolding action_kinds
      end-kind e = kind_at p within ∙ ap (λ (j : ℕ). follow xs (get_or (action_kinds f) j refuse) 3) e

      pub timeout-kind : {i t : ℕ} → k ≡ 3 → i ≡ field_at xs 3 8 → t ≡ field_at xs 11 5
          → follow xs (action_form f) 0 ≡ reached (item (action.Timeout (record { 0 = i }) t)) 16
      unfolding action_kinds
      timeout-kind {i} {t} e g h =
          kind_at p within ∙ ap (λ (j : ℕ). follow xs (get_or (action_kinds f) j refuse) 3) e
          ∙ fed xs (get_or (action_kinds f) 3 refuse) 3 (i ∷ t ∷ []) (g, (h, tt))

      pub crash-kind : {i : ℕ} → k ≡ 4 → i ≡ field_at xs 3 8 → follow xs (action_form f) 0 ≡ reached (item (action.Crash (record { 0 = i }))) 11
      unfolding action_kinds
      crash-kind {i} e g =
          kind_at p within ∙ ap (λ (j : ℕ). follow xs (get_or (action_kinds f) j refuse) 3) e ∙ fed xs (get_or (action_kinds f) 4 refuse) 3 (i ∷ []) (g, tt)

      pub recover-kind : {i : ℕ} → k ≡ 5 → i ≡ field_at xs 3 8 → follow xs (action_form f) 0 ≡ reached (item (action.Recover (record { 0 = i }))) 11
      unfolding action_kinds
      recover-kind {i} e g =
          kind_at p within ∙ ap (λ (j : ℕ). follow xs (get_or (action_kinds f) j refuse) 3) e ∙ fed xs (get_or (action_kinds f) 5 refuse) 3 (i ∷ []) (g, tt)

-- ---- what the answer of an action's part says of its form
abbrev pub action_back : ActionPart → Reached Item
action_back (actions.Act a n) = reached (item a) n
action_back (actions.End n) = reached end n
action_back actions.Stuck = stuck

pub action-back : {g : Reached Item} {x : ActionPart} → x ≡ action_part g → g ≡ action_back x
action-back {g = reached (item a) n} e = sym (ap action_back e)
action-back {g = reached end n} e = sym (ap action_back e)
action-back {g = stuck} e = sym (ap action_back e)

-- every action has a byte: its kind
pub action-sized : (f : Format) (xs : List ℕ) → Sized xs (action_form f)
unfolding action_form
action-sized f xs = sized xs 3 _ (lit≤ tt)

-- ---- what was taken from the front, and parts of a slice
action-sizes : (xs : List ℕ) (g : Got Item) → action_size (action_read (placed g xs 0)) ≡ size_of g
unfolding size_of placed
action-sizes xs (got end n) = omega arith
action-sizes xs (got (item a) n) = omega arith
action-sizes xs bad = refl

pub action-size : (f : Format) (xs : List ℕ) → action_size (action_read (one (action_form f) xs 0)) ≡ size_of (take_action f xs)
unfolding one take_action
action-size f xs = action-sizes xs (record_of (action_form f) xs)
