-- What the link's handler makes of a message, by its kind and its number.
-- Assumes nothing.
use Prim.Native.Nat.{ℕ, zero, suc, ◌+◌, ◌≤◌, ◌<◌}
use native.Mathlib.Omega.{arith}
use mathlib.Core.Path.{◌≡◌, refl, sym, ap, ◌∙◌}
use mathlib.Core.Bool.{Bool, true, false, ◌||◌}
use mathlib.Core.List.{List, [], ◌∷◌, ◌++◌, map}
use lib.ListN.{take, drop, get_or}
use lib.Seq.{get_or-drop}
use lib.Dec.{leb}
use Rattle.lists.specs.Lists.{choose}
use Rattle.types.specs.Capacities.{most_actors, most_pending}
use Rattle.types.specs.declared.Id.{Id}
use Rattle.types.specs.declared.Number.{Number}
use Rattle.types.specs.declared.Payload.{Payload}
use Rattle.types.specs.declared.Kind.{Kind}
use Rattle.types.specs.declared.Rule.{Rule}
use Rattle.types.specs.declared.Envelope.{Envelope}
use Rattle.types.specs.declared.Message.{Message}
use Rattle.types.specs.declared.Message.TheVariants.{Deliver, Ack}
use Rattle.std.specs.Prelude.{Option}
use Rattle.rules.specs.Outcome.{Outcome, done, refused, bind}
use Rattle.rules.specs.Inner.{Reply, reply, ignored}
use Rattle.rules.specs.Network.{Net, on_deliver}
use Rattle.rules.specs.Link.{Durable, Did, Output, Link, Send, Save, untaken, last_of, last_taken, with_taken, acking, acked_by, taken_by, handing, output}
use Rattle.rules.specs.Link.{on_msg}
use Rattle.rules.specs.System.{Sys, with_link, run_commands}
use Rattle.net_rows.specs.Views.{net_of, room_of}
use Rattle.link_rows.specs.Rows.{number_in, durable_in}
use Rattle.sys_seat.specs.Seat.{Around, holding}
use Rattle.sys_seat.proofs.Actions.{bind-same}
use Rattle.sys_reacts.specs.Views.{limits_of}
use Rattle.sys_rows.specs.Rows.{actor_of, RowsLaid}
use Rattle.sys_rows.proofs.Laws.{tail_at}
use Rattle.sys_moves.specs.Views.{Rows, actor_at, running, acked_in, passed_by, taken_in}
use Rattle.sys_deliver.specs.Views.{handed_to, only_acked}

-- ---- the last number taken from a source is that of its place
taken_at : (l : List ℕ) (n s : ℕ) → (n ≤ s → get_or l s 0 ≡ 0) → (get_or (map number_in (take n l)) s untaken).0 ≡ get_or l s 0
taken_at l zero s rest = sym (rest (omega arith))
taken_at [] (suc n) s rest = refl
taken_at (x ∷ l) (suc n) zero rest = refl
taken_at (x ∷ l) (suc n) (suc s) rest = taken_at l n s (λ h. rest (omega arith))

pub last-is : (w : List ℕ) (p : List (List ℕ)) → RowsLaid w p → (s : Id) → s.0 < most_actors → (last_taken s (durable_in w p)).0
    ≡ get_or w (8 + s.0) 0
unfolding last_taken last_of durable_in
last-is w p laid s few =
    let c = tail_at w 0 in
    let k : 4 + (4 + s.0) ≡ 8 + s.0 = omega arith in
    let z = tail_at w (4 + s.0) ∙ ap (λ (i : ℕ). get_or w i 0) k in
    let d = get_or-drop 8 w s.0 0 in
    taken_at (drop 8 w) (get_or w 4 0) s.0 (λ h. d ∙ sym z ∙ laid.tail.rest s.0 (omega arith) few) ∙ d

module _ (kind : Kind) (e : Envelope) (used : ℕ) (x : Rows) (rs : List Rule) (hall : Around e.dst) (last : Option Envelope) where
  abbrev w : List ℕ
  w = x.live

  abbrev d : Durable
  d = durable_in w x.pend

  abbrev l : Link
  l = record { durable = d; state = get_or w 7 0 }

  -- What a handler leaves, with this network.
  abbrev leaves : Net → Did → Outcome Sys
  leaves n h = run_commands (room_of x.cells) e.dst h.commands (holding e.dst hall n (with_link h.link (actor_at rs x)))

  by-handler : (m : Message) (f : Net → Outcome Sys) → ((n : Net) → bind (on_msg (limits_of most_pending) e.dst rs l e.src m) (leaves n) ≡ f n)
      → handed_to kind e m used x rs hall last ≡ bind (on_deliver e (net_of kind last x.cells used)) f
  unfolding actor_of
  by-handler m f h = bind-same (on_deliver e (net_of kind last x.cells used)) _ _ h

  -- ---- an Ack
  pub ack-is : (v : Number) → handed_to kind e (Ack v) used x rs hall last ≡ acked_in kind e v used x hall last rs
  unfolding on_msg acked_by bind with_link actor_of
  ack-is v = by-handler (Ack v) _ (λ n. refl)

  module _ (v : Number) (y : Payload) where
    -- ---- acked, and nothing more
    old-or-ignored : (a b : Bool) → (a || b) ≡ true → leb v.0 (last_taken e.src d).0 ≡ a → ignored (reply rs 2 (get_or w 7 0) e.src y.0)
        ≡ b
        → handed_to kind e (Deliver v y) used x rs hall last ≡ passed_by kind e v used x hall last rs
    unfolding on_msg choose handing acking bind with_link actor_of
    old-or-ignored true b t p q = by-handler (Deliver v y) _ (λ n. rw p)
    old-or-ignored false true t p q = by-handler (Deliver v y) _ (λ n. rw (p, q))
    old-or-ignored false false t p q = absurd (let z : ◌≡◌ {A = ℕ} 0 1 = cc in omega arith)

    pub passed_is : only_acked v.0 (last_taken e.src d).0 rs (get_or w 7 0) e.src y.0 ≡ true
        → handed_to kind e (Deliver v y) used x rs hall last ≡ passed_by kind e v used x hall last rs
    passed_is t = old-or-ignored _ _ t refl refl

    -- ---- taken
    module _ (r : Reply) (s : ℕ) (st : choose r.touched r.state (get_or w 7 0) ≡ s) where
      put-taken : (n : Net) (z : Outcome Output) → bind (bind z (taken_by e.dst l e.src v y r)) (leaves n)
          ≡ bind z (λ a. running e.dst hall (Send e.src (Ack v) ∷ (a.commands ++ Save a.durable ∷ [])) n rs (get_or w 6 0) a.durable s x)
      unfolding bind taken_by with_link actor_of
      put-taken n (done a) = rw st
      put-taken n (refused k) = refl

      newer-and-not : (a b : Bool) → (a || b) ≡ false → leb v.0 (last_taken e.src d).0 ≡ a → ignored r ≡ b
          → reply rs 2 (get_or w 7 0) e.src y.0 ≡ r
          → on_msg (limits_of most_pending) e.dst rs l e.src (Deliver v y)
          ≡ bind (output (limits_of most_pending) e.dst (with_taken e.src v d) r.out) (taken_by e.dst l e.src v y r)
      unfolding on_msg handing choose
      newer-and-not false false f p q i = rw (p, i, q)
      newer-and-not false true f p q i = absurd (let z : ◌≡◌ {A = ℕ} 0 1 = cc in omega arith)
      newer-and-not true b f p q i = absurd (let z : ◌≡◌ {A = ℕ} 0 1 = cc in omega arith)

      pub taken_is : only_acked v.0 (last_taken e.src d).0 rs (get_or w 7 0) e.src y.0 ≡ false → reply rs 2 (get_or w 7 0) e.src y.0 ≡ r
          → handed_to kind e (Deliver v y) used x rs hall last ≡ taken_in kind e v r.out s used x hall last rs
      taken_is f i = by-handler (Deliver v y) _ (λ n.
          ap (λ (z : Outcome Did). bind z (leaves n))
          (newer-and-not _ _ f refl (ap ignored (sym i)) i)
          ∙ put-taken n (output (limits_of most_pending) e.dst (with_taken e.src v d) r.out))
