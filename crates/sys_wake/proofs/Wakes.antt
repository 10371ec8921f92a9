-- A start and a recovery, in any system that holds the rows.
-- Assumes nothing.
use Prim.Native.Nat.{ℕ, ◌%◌}
use native.Mathlib.Omega.{arith}
use mathlib.Core.Path.{◌≡◌, refl, sym, ap, ◌∙◌}
use mathlib.Core.Bool.{Bool, true, false}
use mathlib.Core.List.{List}
use lib.ListN.{get_or, set}
use lib.Seq.{get_or-set_same, get_or-set_other, set-get_or, set-set}
use borrow.Author.Tests.{eq-eqb, ne_eqb}
use Rattle.types.specs.Capacities.{most_pending, network}
use Rattle.types.specs.declared.Id.{Id}
use Rattle.types.specs.declared.Kind.{Kind}
use Rattle.types.specs.declared.Rule.{Rule}
use Rattle.types.specs.declared.Action.TheVariants.{Recover}
use Rattle.std.specs.Prelude.{Option}
use Rattle.types.specs.declared.InnerCommand.{InnerCommand}
use Rattle.answers.specs.Answers.{Live}
use Rattle.answers.specs.Answers.{is_done}
use Rattle.rules.specs.Outcome.{Outcome, done, refused, bind, guard}
use Rattle.rules.specs.Inner.{Reply, at_start, nobody}
use Rattle.rules.specs.Timers.{set_timer}
use Rattle.rules.specs.Link.{Durable, Output, Did, output, started_by, starting, on_start}
use Rattle.rules.specs.System.{Actor, Sys, systems, with_timers, with_link, with_mark, run_commands, perform, wake, act}
use Rattle.link_timers.specs.Views.{listed}
use Rattle.net_rows.specs.declared.Sent.{Sent}
use Rattle.net_rows.specs.Views.{net_of, room_of}
use Rattle.link_tables.specs.Rows.{mark, orders}
use Rattle.link_rows.specs.Rows.{durable_in}
use Rattle.sys_seat.specs.Seat.{Around, holding}
use Rattle.sys_seat.proofs.Seats.{run-set}
use Rattle.sys_seat.proofs.Actions.{bind-same, seat-wake, seat-recover}
use Rattle.sys_emits.proofs.Laws.{not-both}
use Rattle.sys_reacts.specs.Views.{limits_of}
use Rattle.sys_rows.specs.Rows.{stored_in, actor_of}
use Rattle.sys_rows.proofs.Laws.{aside}
use Rattle.sys_moves.specs.Views.{caps_of, Rows, rows_of, actor_at, sys_at, running, reacting, Fine, Acted, last_then, Stepped, Woken}
use Rattle.sys_moves.proofs.Ends.{ended_by, ended-refused}
use Rattle.sys_wake.specs.Starts.{begun, Loaded, saved_in}
use Rattle.sys_wake.proofs.Loads.{mark-laid, Starts}
use Rattle.types.specs.declared.Envelope.{Envelope}

-- A start of the rules on the actor that the rows are.
abbrev pub waking : (me : Id) → Kind → ℕ → List Rule → Rows → Around me → Option Envelope → Outcome Sys
waking me kind used rs x hall last = systems (bind (wake (limits_of most_pending) me (sys_at me hall kind last used rs x)) (perform (room_of x.cells)))

module _ (me : Id) (kind : Kind) (used : ℕ) (rs : List Rule) (hall : Around me) (last : Option Envelope) where
  -- What the seat makes of it.
  seated : (x : Rows) → waking me kind used rs x hall last
      ≡ bind (on_start (limits_of most_pending) me rs (stored_in (get_or x.kept 5 0) (durable_in x.kept x.stored))) (λ d.
      run_commands (room_of x.cells) me d.commands (holding me hall (net_of kind last x.cells used) (with_link d.link (actor_at rs x))))
  unfolding actor_of
  seated x = seat-wake (caps_of x.cells) me hall (net_of kind last x.cells used) (actor_at rs x)

  -- On live rows that are loaded it is a rule's commands.
  module _ (x : Rows) (t : ℕ) (set_to : listed t ≡ set_timer network (listed (get_or x.live 6 0)))
      (loaded : durable_in x.live x.pend ≡ begun x.kept x.stored) where
    abbrev d : Durable
    d = durable_in x.live x.pend

    abbrev then-run : Did → Outcome Sys
    then-run y = run_commands (room_of x.cells) me y.commands (holding me hall (net_of kind last x.cells used) (with_link y.link (actor_at rs x)))

    ran-started : (r : Reply) (m : Outcome Output) → bind (bind m (started_by r)) then-run
        ≡ bind m (λ o. running me hall o.commands (net_of kind last x.cells used) rs t o.durable r.state x)
    unfolding bind started_by with_link with_timers actor_of
    ran-started r (done o) =
        run-set me hall (net_of kind last x.cells used) (with_link (record { durable = o.durable; state = r.state }) (actor_at rs x))
        (room_of x.cells) o.commands network
        ∙ ap (λ (ts : List ℕ). run_commands (room_of x.cells) me o.commands (holding me hall (net_of kind last x.cells used) (record {
          rules = rs;
          crashed = mark (get_or x.live 5 0);
          timers = ts;
          link = record { durable = o.durable; state = r.state };
          storage = stored_in (get_or x.kept 5 0) (durable_in x.kept x.stored);
        }))) (sym set_to)
    ran-started r (refused k) = refl

    pub start-runs : (os : List InnerCommand) (s : ℕ) → (at_start rs d.inner).out ≡ os → (at_start rs d.inner).state ≡ s
        → waking me kind used rs x hall last ≡ reacting me kind os t s used x hall last rs
    unfolding on_start starting
    start-runs os s e f =
        seated x
        ∙ ap (λ (b : Durable). bind (starting (limits_of most_pending) me b (at_start rs b.inner)) then-run) (sym loaded)
        ∙ ran-started (at_start rs d.inner) (output (limits_of most_pending) me d (at_start rs d.inner).out)
        ∙ (λ j. reacting me kind (e j) t (f j) used x hall last rs)

  -- It does not read the live rows but for mark and timers.
  pub waking-same : (x : Rows) (v : List ℕ) (y : List (List ℕ)) → get_or v 5 0 ≡ get_or x.live 5 0 → get_or v 6 0 ≡ get_or x.live 6 0
      → waking me kind used rs x hall last ≡ waking me kind used rs (rows_of x.cells v y x.kept x.stored) hall last
  unfolding with_link actor_of
  waking-same x v y e f = seated x ∙ bind-same _ _ _ (λ d. go d) ∙ sym (seated (rows_of x.cells v y x.kept x.stored))
    where
      go : (d : Did)
          → run_commands (room_of x.cells) me d.commands (holding me hall (net_of kind last x.cells used) (with_link d.link (actor_at rs x)))
          ≡ run_commands (room_of x.cells) me d.commands
          (holding me hall (net_of kind last x.cells used) (with_link d.link (actor_of rs v y x.kept x.stored)))
      go d = λ j. run_commands (room_of x.cells) me d.commands (holding me hall (net_of kind last x.cells used) (record {
        rules = rs;
        crashed = mark (sym e j);
        timers = listed (sym f j);
        link = d.link;
        storage = stored_in (get_or x.kept 5 0) (durable_in x.kept x.stored);
      }))

-- A rule's commands on loaded rows are a start.
module _ (me : Id) (kind : Kind) (used n : ℕ) (rs : List Rule) (x : Rows) (t : ℕ) (set_to : listed t ≡ set_timer network (listed (get_or x.live 6 0)))
    (loaded : durable_in x.live x.pend ≡ begun x.kept x.stored)
    (row : List ℕ) (value : ℕ) (st : Starts (at_start rs (saved_in x.live)) row value) where
  pub woken-by : (count : ℕ) (r : Sent) (z : Rows)
      → Acted me (reacting me kind (orders row nobody value) t (get_or row 4 0) used x) (λ last. last) kind used n x r z
      → Woken count me rs kind used n x r z
  unfolding durable_in
  woken-by count r z acted =
      ended_by me count rs (waking me kind used rs x) (λ last. last) kind used n x
      (reacting me kind (orders row nobody value) t (get_or row 4 0) used x) r z acted
      (λ hall size last. start-runs me kind used rs hall last x t set_to loaded (orders row nobody value) (get_or row 4 0) st.out st.state)

-- ---- a start, from the one on loaded rows
module _ (count : ℕ) (me : Id) (rs : List Rule) (kind : Kind) (used n : ℕ) (x : Rows) (v : List ℕ) (y : List (List ℕ))
    (loaded : Loaded x.live x.kept x.stored v y) where
  -- The rows with the live ones loaded.
  abbrev from : Rows
  from = rows_of x.cells v y x.kept x.stored

  pub from-fine : Fine kind used n x → Fine kind used n from
  from-fine fine = record { net = fine.net; room = fine.room; live = loaded.laid; kept = fine.kept }

  module _ (r : Sent) (z : Rows) (woken : Woken count me rs kind used n from r z) where
    same : (hall : Around me) (last : Option Envelope) → waking me kind used rs x hall last ≡ waking me kind used rs from hall last
    same hall last = waking-same me kind used rs hall last x v y loaded.crashed loaded.timers

    pub woken-done : is_done r.answer ≡ true → Woken count me rs kind used n x r z
    woken-done t = record {
      fine = woken.fine;
      runs = λ a hall size last. same hall last ∙ woken.runs a hall size last;
      stops = λ f. absurd (not-both (is_done r.answer) t f);
      same = λ f. absurd (not-both (is_done r.answer) t f);
    }

    -- The live rows are put back.
    pub woken-back : Fine kind used n x → is_done r.answer ≡ false
        → Woken count me rs kind used n x r (rows_of z.cells x.live x.pend z.kept z.stored)
    woken-back fine f =
        let e = woken.same f in
        record {
          fine = record { net = woken.fine.net; room = woken.fine.room; live = fine.live; kept = woken.fine.kept };
          runs = λ t. absurd (not-both (is_done r.answer) t f);
          stops = λ a hall size last. same hall last ∙ woken.stops a hall size last;
          same = λ a. ((λ j. rows_of (e.0 j).cells x.live x.pend (e.0 j).kept (e.0 j).stored), e.1, e.2);
        }

-- ---- a recovery
pub is_live : (m : ℕ) → m % 2 ≡ 0 → mark m ≡ false
is_live m e = ne_eqb (m % 2) 1 (λ f. omega arith)

pub is-crashed : (m : ℕ) → (m % 2 ≡ 0 → ⊥) → mark m ≡ true
is-crashed m n = eq-eqb (m % 2) 1 (omega arith)

module _ (count : ℕ) (i : Id) (rs : List Rule) (kind : Kind) (used n : ℕ) (x : Rows) (fine : Fine kind used n x) where
  abbrev w : List ℕ
  w = x.live

  abbrev recovering : Around i → Option Envelope → Outcome Sys
  recovering hall last = systems (act (caps_of x.cells) (sys_at i hall kind last used rs x) (Recover i))

  -- It is not crashed.
  pub live-is : mark (get_or w 5 0) ≡ false → (hall : Around i) (last : Option Envelope) → recovering hall last ≡ refused 4
  unfolding actor_of guard
  live-is e hall last = seat-recover (caps_of x.cells) i hall (net_of kind last x.cells used) (actor_at rs x) ∙ rw e

  pub stepped-live : mark (get_or w 5 0) ≡ false → Stepped count (Recover i) i rs kind used n x (record { answer = Live; used = used; len = n }) x
  stepped-live e = ended-refused i count rs recovering (last_then kind (Recover i)) kind used n x fine Live refl (λ hall size last. live-is e hall last)

  -- The rows without the mark.
  abbrev bare : Rows
  bare = rows_of x.cells (set w 5 0) x.pend x.kept x.stored

  pub bare-fine : Fine kind used n bare
  bare-fine = record { net = fine.net; room = fine.room; live = mark-laid w x.pend 0 fine.live; kept = fine.kept }

  bare-actor : with_mark false (listed (get_or w 6 0)) (actor_at rs x) ≡ actor_at rs bare
  unfolding with_mark actor_of
  bare-actor =
      let z = fine.live.room in
      let e5 = get_or-set_same w 5 0 0 (omega arith) in
      let e6 = get_or-set_other w 5 6 0 0 (λ z. omega arith) in
      let e7 = get_or-set_other w 5 7 0 0 (λ z. omega arith) in
      let e = aside w 5 0 (omega arith) (omega arith) x.pend in
      λ j. record {
        rules = rs;
        crashed = mark (sym e5 j);
        timers = listed (sym e6 j);
        link = record { durable = sym e j; state = sym e7 j };
        storage = stored_in (get_or x.kept 5 0) (durable_in x.kept x.stored);
      }

  module _ (crashed : mark (get_or w 5 0) ≡ true) where
    -- A start of this actor in its seat.
    abbrev woken-as : Around i → Option Envelope → Actor → Outcome Sys
    woken-as hall last a =
        systems (bind (wake (limits_of most_pending) i (holding i hall (net_of kind last x.cells used) a)) (perform (room_of x.cells)))

    pub recover-is : (hall : Around i) (last : Option Envelope) → recovering hall last ≡ waking i kind used rs bare hall last
    unfolding actor_of guard
    recover-is hall last =
        seat-recover (caps_of x.cells) i hall (net_of kind last x.cells used) (actor_at rs x)
        ∙ ap (λ (b : Bool). guard b 4 (woken-as hall last (with_mark false (listed (get_or w 6 0)) (actor_at rs x)))) crashed
        ∙ ap (woken-as hall last) bare-actor

    module _ (r : Sent) (z : Rows) (woken : Woken count i rs kind used n bare r z) where
      pub stepped-done : is_done r.answer ≡ true → Stepped count (Recover i) i rs kind used n x r z
      unfolding last_then
      stepped-done t = record {
        fine = woken.fine;
        runs = λ a hall size last. recover-is hall last ∙ woken.runs a hall size last;
        stops = λ f. absurd (not-both (is_done r.answer) t f);
        same = λ f. absurd (not-both (is_done r.answer) t f);
      }

      -- The mark is set again.
      pub stepped-back : is_done r.answer ≡ false
          → Stepped count (Recover i) i rs kind used n x r (rows_of z.cells (set z.live 5 (get_or w 5 0)) z.pend z.kept z.stored)
      stepped-back f =
          let e = woken.same f in
          let e1 : set z.live 5 (get_or w 5 0) ≡ w =
          ap (λ (l : List ℕ). set l 5 (get_or w 5 0)) (ap (λ (a : Rows). a.live) e.0) ∙ set-set w 5 0 (get_or w 5 0) ∙ set-get_or w 5 0 in
          let e2 : z.pend ≡ x.pend = ap (λ (a : Rows). a.pend) e.0 in
          record {
            fine = record { net = woken.fine.net; room = woken.fine.room; live = rw (e1, e2) fine.live; kept = woken.fine.kept };
            runs = λ t. absurd (not-both (is_done r.answer) t f);
            stops = λ a hall size last. recover-is hall last ∙ woken.stops a hall size last;
            same = λ a. ((λ j. rows_of (e.0 j).cells (e1 j) (e2 j) (e.0 j).kept (e.0 j).stored), e.1, e.2);
          }
