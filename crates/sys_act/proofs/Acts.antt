-- How each action ends: with the actor at its seat, or with nobody there.
-- Assumes nothing.
use Prim.Native.Nat.{ℕ, ◌≤◌, ◌<◌}
use native.Mathlib.Omega.{arith}
use native.Mathlib.Decide.{dec_lt}
use mathlib.Core.Path.{◌≡◌, refl, sym, ap, ◌∙◌, subst}
use mathlib.Core.Bool.{Bool, true, false, ◌||◌}
use mathlib.Core.List.{List}
use lib.ListN.{length}
use lib.Dec.{ltb}
use borrow.Author.Tests.{ltb-true, lt-ltb, le-ltb}
use Rattle.lists.specs.Lists.{choose}
use Rattle.types.specs.declared.Id.{Id}
use Rattle.types.specs.declared.Kind.{Kind}
use Rattle.types.specs.declared.Rule.{Rule}
use Rattle.types.specs.declared.Envelope.{Envelope}
use Rattle.std.specs.Prelude.{Option, None}
use Rattle.types.specs.declared.Action.{Action}
use Rattle.types.specs.declared.Action.TheVariants.{Deliver, Drop, Timeout, Crash, Recover}
use Rattle.answers.specs.Answers.{Answer}
use Rattle.answers.specs.Answers.{Done, Ignored, OutOfRange}
use Rattle.answers.specs.Answers.{answer_of, answer_number, is_done}
use Rattle.rules.specs.Outcome.{Outcome, done, refused, bind, guard}
use Rattle.rules.specs.Network.{Net, is_duplicating, present, dropping, on_drop}
use Rattle.rules.specs.System.{Actor, Sys, systems, act}
use Rattle.net_rows.specs.declared.Sent.{Sent}
use Rattle.net_rows.specs.Views.{net_of, Changed}
use Rattle.net_rows.proofs.Ready.{drop-ready}
use Rattle.sys_seat.specs.Seat.{Around, holding}
use Rattle.sys_seat.proofs.Actions.{seat-crash, seat-drop, absent-timeout, absent-crash, absent-recover, absent-deliver}
use Rattle.sys_emits.proofs.Laws.{not-both}
use Rattle.sys_moves.specs.Views.{Rows, actor_at, sys_at, caps_of, Fine, Ended, Stepped, last_then}
use Rattle.sys_moves.proofs.Ends.{ended-refused}
use Rattle.sys_act.specs.Seats.{target, seat, seat_of, Dropped, unheard_of, crashed_row}
use Rattle.sys_act.proofs.Crashed.{crashed-laid, crashed-actor}

-- ---- which actor
pub seat-known : (n : ℕ) (a : Action) (i : Id) → i ≡ target a → ltb i.0 n ≡ true → i.0 ≡ seat n a
unfolding seat choose
seat-known n a i e h = subst (λ (j : Id). ltb j.0 n ≡ true → j.0 ≡ seat n a) (sym e) (λ k. rw k) h

pub seat-none : (n : ℕ) (a : Action) (i : Id) → i ≡ target a → ltb i.0 n ≡ false → 0 ≡ seat n a
unfolding seat choose
seat-none n a i e h = subst (λ (j : Id). ltb j.0 n ≡ false → 0 ≡ seat n a) (sym e) (λ k. rw k) h

-- The actor of an action is one of them, or the first.
pub seat-in : (n : ℕ) (a : Action) → 1 ≤ n → seat n a < n
unfolding seat choose
seat-in n a h = go (ltb (target a).0 n) refl
  where
    go : (b : Bool) → ltb (target a).0 n ≡ b → choose b (target a).0 0 < n
    go true e = ltb-true (target a).0 n e
    go false e = omega arith

seat-is : (count : ℕ) (a : Action) → ltb (target a).0 count ≡ true → seat_of count a ≡ target a
unfolding seat choose
seat-is count a h = rw h

module _ (count : ℕ) (rs : List Rule) (kind : Kind) (used n : ℕ) (x : Rows) where
  -- The one at its seat is the one that it names.
  pub stepped-at : (a b : Action) → a ≡ b → (here : Bool) → here ≡ ltb (target a).0 count → here ≡ true → (r : Sent) (x' : Rows)
      → Stepped count b (target b) rs kind used n x r x' → Stepped count a (seat_of count a) rs kind used n x r x'
  stepped-at a b e here h t r x' s =
      let q : ltb (target b).0 count ≡ true = ap (λ (z : Action). ltb (target z).0 count) (sym e) ∙ sym h ∙ t in
      subst (λ (z : Action). Stepped count z (seat_of count z) rs kind used n x r x') (sym e)
      (subst (λ (i : Id). Stepped count b i rs kind used n x r x') (sym (seat-is count b q)) s)

  -- ---- nobody there
  module _ (fine : Fine kind used n x) where
    abbrev o : (a : Action) (i : Id) → Around i → Option Envelope → Outcome Sys
    o a i hall last = systems (act (caps_of x.cells) (sys_at i hall kind last used rs x) a)

    none : (a : Action) (why : Answer) → is_done why ≡ false
        → ((i : Id) (hall : Around i) → length hall.sys.actors ≡ count → (last : Option Envelope) → o a i hall last ≡ refused (answer_number why))
        → Stepped count a (seat_of count a) rs kind used n x (record { answer = why; used = used; len = n }) x
    none a why f e = ended-refused (seat_of count a) count rs (o a (seat_of count a)) (last_then kind a) kind used n x fine why f (e (seat_of count a))

    gone : (j : Id) {k : ℕ} → k ≡ count → ltb j.0 count ≡ false → ltb j.0 k ≡ false
    gone j e h = ap (ltb j.0) e ∙ h

    pub no-timeout : (a : Action) (j : Id) (t : ℕ) → a ≡ Timeout j t → ltb (target a).0 count ≡ false
        → Stepped count a (seat_of count a) rs kind used n x (record { answer = OutOfRange; used = used; len = n }) x
    unfolding target
    no-timeout a j t e h = none a OutOfRange refl (λ i hall size last.
        ap (λ (z : Action). o z i hall last) e
        ∙ absent-timeout (caps_of x.cells) i j hall _ _ (gone j size (ap (λ (z : Action). ltb (target z).0 count) (sym e) ∙ h)) t)

    pub no-crash : (a : Action) (j : Id) → a ≡ Crash j → ltb (target a).0 count ≡ false
        → Stepped count a (seat_of count a) rs kind used n x (record { answer = OutOfRange; used = used; len = n }) x
    unfolding target
    no-crash a j e h = none a OutOfRange refl (λ i hall size last.
        ap (λ (z : Action). o z i hall last) e
        ∙ absent-crash (caps_of x.cells) i j hall _ _ (gone j size (ap (λ (z : Action). ltb (target z).0 count) (sym e) ∙ h)))

    pub no-recover : (a : Action) (j : Id) → a ≡ Recover j → ltb (target a).0 count ≡ false
        → Stepped count a (seat_of count a) rs kind used n x (record { answer = OutOfRange; used = used; len = n }) x
    unfolding target
    no-recover a j e h = none a OutOfRange refl (λ i hall size last.
        ap (λ (z : Action). o z i hall last) e
        ∙ absent-recover (caps_of x.cells) i j hall _ _ (gone j size (ap (λ (z : Action). ltb (target z).0 count) (sym e) ∙ h)))

    -- A message to nobody: 2 for its source first.
    unheard-not : (e : Envelope) (b : Bool) → is_done (choose b Ignored OutOfRange) ≡ false
    unfolding choose
    unheard-not e true = refl
    unheard-not e false = refl

    unheard-is : (b : Bool) → ◌≡◌ {A = Outcome Sys} (guard b 2 (refused 1)) (refused (answer_number (choose b Ignored OutOfRange)))
    unfolding guard choose
    unheard-is true = refl
    unheard-is false = refl

    pub no-deliver : (a : Action) (e : Envelope) → a ≡ Deliver e → ltb (target a).0 count ≡ false → (why : Answer) → why ≡ unheard_of count e
        → Stepped count a (seat_of count a) rs kind used n x (record { answer = why; used = used; len = n }) x
    unfolding target
    no-deliver a e p h why q = none a why (ap is_done q ∙ unheard-not e _) (λ i hall size last.
        ap (λ (z : Action). o z i hall last) p
        ∙ absent-deliver (caps_of x.cells) e i hall _ _ (gone e.dst size (ap (λ (z : Action). ltb (target z).0 count) (sym p) ∙ h))
        ∙ ap (λ (k : ℕ). guard (ltb e.src.0 k) 2 (refused 1)) size ∙ unheard-is _ ∙ ap (λ (z : Answer). refused (answer_number z)) (sym q))

    -- ---- a crash
    pub crashes : (i : Id) (w' : List ℕ) → w' ≡ crashed_row x.live → (answer : Answer) → answer ≡ Done
        → Stepped count (Crash i) i rs kind used n x (record { answer = answer; used = used; len = n })
        (record { cells = x.cells; live = w'; pend = x.pend; kept = x.kept; stored = x.stored })
    unfolding last_then
    crashes i w' e answer d = rw (e, d) (record {
      fine = record { net = fine.net; room = fine.room; live = crashed-laid x.live x.pend fine.live; kept = fine.kept };
      runs = λ t hall size last.
          seat-crash (caps_of x.cells) i hall (net_of kind last x.cells used) (actor_at rs x)
          ∙ ap (λ (b : Actor). done (holding i hall (net_of kind last x.cells used) b))
          (sym (crashed-actor x.live x.pend fine.live rs x.kept x.stored));
      stops = λ f. absurd (not-both true refl f);
      same = λ f. absurd (not-both true refl f);
    })

    -- ---- a Drop
    module _ (e : Envelope) (i : Id) (r : Sent) (cs' : List (List ℕ)) where
      abbrev x' : Rows
      x' = record { cells = cs'; live = x.live; pend = x.pend; kept = x.kept; stored = x.stored }

      abbrev there : Bool
      there = is_duplicating kind || present e (net_of kind None x.cells used)

      at-seat : (hall : Around i) → length hall.sys.actors ≡ count → (last : Option Envelope)
          → o (Drop e) i hall last ≡ guard (ltb e.src.0 count) 2
          (bind (guard there 3 (done (dropping e (net_of kind last x.cells used)))) (λ m. done (holding i hall m (actor_at rs x))))
      unfolding on_drop present
      at-seat hall size last =
          seat-drop (caps_of x.cells) i hall (net_of kind last x.cells used) (actor_at rs x) e
          ∙ ap (λ (k : ℕ). guard (ltb e.src.0 k) 2 (bind (on_drop e (net_of kind last x.cells used))
          (λ m. done (holding i hall m (actor_at rs x))))) size

      drop-unknown : count ≤ e.src.0 → (r ≡ record { answer = OutOfRange; used = used; len = n }) × (cs' ≡ x.cells)
          → Ended i count rs (o (Drop e) i) (last_then kind (Drop e)) kind used n x r x'
      unfolding guard
      drop-unknown h q = rw (q.0, q.1)
          (ended-refused i count rs (o (Drop e) i) (last_then kind (Drop e)) kind used n x fine OutOfRange refl
          (λ hall size last. at-seat hall size last ∙ rw (le-ltb e.src.0 count h)))

      module _ (h : e.src.0 < count) (ch : (last : Option Envelope) → Changed x.cells used n (on_drop e (net_of kind last x.cells used)) r cs') where
        left : (b : Bool) → there ≡ b → (last : Option Envelope)
            → Changed x.cells used n (guard b 3 (done (dropping e (net_of kind last x.cells used)))) r cs'
        unfolding on_drop present
        left b q last = subst (λ (t : Bool). Changed x.cells used n (guard t 3 (done (dropping e (net_of kind last x.cells used)))) r cs') q (ch last)

        fine' : Fine kind r.used r.len x'
        fine' = record {
          net = drop-ready kind None x.cells used n fine.net r cs' e (ch None);
          room = (ch None).room ∙ fine.room;
          live = fine.live;
          kept = fine.kept;
        }

        known-source : (hall : Around i) → length hall.sys.actors ≡ count → (last : Option Envelope) (b : Bool) → there ≡ b
            → o (Drop e) i hall last ≡ bind (guard b 3 (done (dropping e (net_of kind last x.cells used)))) (λ m. done (holding i hall m (actor_at rs x)))
        unfolding guard
        known-source hall size last b q = at-seat hall size last ∙ rw (lt-ltb e.src.0 count h, q)

        by-there : (b : Bool) → there ≡ b → Ended i count rs (o (Drop e) i) (last_then kind (Drop e)) kind used n x r x'
        unfolding guard bind answer_of last_then dropping
        by-there true q =
            let z = (left true q None).left in
            let t : is_done r.answer ≡ true = ap is_done z.0 in
            record {
              fine = fine';
              runs = λ _ hall size last.
                  known-source hall size last true q
                  ∙ ap (λ (m : Net). done (holding i hall m (actor_at rs x)))
                  (λ j. record { kind = kind; entries = sym (left true q last).left.1.entries j; last = last });
              stops = λ f. absurd (not-both (is_done r.answer) t f);
              same = λ f. absurd (not-both (is_done r.answer) t f);
            }
        by-there false q =
            let z = (left false q None).left in
            let f : is_done r.answer ≡ false = ap is_done z.0 in
            record {
              fine = fine';
              runs = λ t. absurd (not-both (is_done r.answer) t f);
              stops = λ _ hall size last. known-source hall size last false q ∙ ap (λ (w : Answer). refused (answer_number w)) (sym z.0);
              same = λ _. (λ j. record { cells = z.3 j; live = x.live; pend = x.pend; kept = x.kept; stored = x.stored }, z.1, z.2);
            }

      pub drops : Dropped kind e count used n x.cells r cs' → Ended i count rs (o (Drop e) i) (last_then kind (Drop e)) kind used n x r x'
      drops d = go (dec_lt e.src.0 count)
        where
          go : Dec (e.src.0 < count) → Ended i count rs (o (Drop e) i) (last_then kind (Drop e)) kind used n x r x'
          go (yes h) = by-there h (d.drops h) there refl
          go (no h) = drop-unknown (omega arith) (d.unknown (omega arith))

    pub drops-on : (a : Action) (e : Envelope) → a ≡ Drop e → (r : Sent) (cs' : List (List ℕ)) → Dropped kind e count used n x.cells r cs'
        → Stepped count a (seat_of count a) rs kind used n x r (record { cells = cs'; live = x.live; pend = x.pend; kept = x.kept; stored = x.stored })
    drops-on a e p r cs' d = subst (λ (z : Action). Stepped count z (seat_of count z) rs kind used n x r (x' e (seat_of count a) r cs')) (sym p)
        (drops e (seat_of count (Drop e)) r cs' d)
