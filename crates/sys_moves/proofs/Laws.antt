-- A rule's commands: the link's output, run, is what the code does.
-- Assumes nothing.
use Prim.Native.Nat.{ℕ, suc, ◌+◌, ◌≤◌}
use native.Mathlib.Omega.{arith}
use mathlib.Core.Path.{◌≡◌, refl, sym, ap, ◌∙◌}
use mathlib.Core.Bool.{Bool, true, false}
use mathlib.Core.List.{List, [], ◌∷◌, ◌++◌}
use lib.ListN.{length, take, get_or, length-map}
use lib.Seq.{length-take-le, take_all}
use Rattle.lists.specs.Lists.{choose, any}
use Rattle.types.specs.Capacities.{most_pending, most_commands, most_told}
use Rattle.types.specs.declared.Id.{Id}
use Rattle.types.specs.declared.Kind.{Kind}
use Rattle.types.specs.declared.Rule.{Rule}
use Rattle.answers.specs.Answers.{Answer}
use Rattle.std.specs.Prelude.{Option}
use Rattle.types.specs.declared.InnerCommand.{InnerCommand}
use Rattle.types.specs.declared.InnerCommand.TheVariants as inner
use Rattle.answers.specs.Answers.{answer_of}
use Rattle.rules.specs.Outcome.{Outcome, done, refused, bind}
use Rattle.rules.specs.Link.{Durable, Command, Save, Output, process, durably, then_save, output}
use Rattle.rules.specs.System.{Actor, Sys, with_timers, with_storage, run_commands}
use Rattle.sys_seat.specs.Seat.{Around, holding}
use Rattle.sys_seat.proofs.Seats.{run-append, run-save}
use Rattle.link_timers.specs.Views.{listed}
use Rattle.net_rows.specs.Views.{net_of, room_of}
use Rattle.link_direct.specs.Direct.{asked, noted, sends}
use Rattle.link_direct.proofs.Laws.{goes}
use Rattle.link_direct.proofs.Apart.{processed}
use Rattle.link_rows.specs.Rows.{pending_in, durable_in}
use Rattle.answers.specs.Answers.{is_done}
use Rattle.sys_emits.specs.declared.Emitted.{Emitted}
use Rattle.sys_emits.specs.Views.{sys_in}
use Rattle.sys_emits.proofs.Laws.{not-both}
use Rattle.sys_reacts.specs.Views.{limits_of, refusal_of, front_of, Safe}
use Rattle.sys_reacts.specs.declared.First.TheVariants as first
use Rattle.sys_reacts.proofs.Laws.{goes_on, refuses}
use Rattle.sys_rows.specs.Rows.{Settled, Kept}
use Rattle.sys_rows.proofs.Laws.{as_settled, as-stored, stored-laid}
use Rattle.sys_moves.specs.Views.{Rows, actor_with, running, reacting, Decided, Fine, Acted}
use Rattle.types.specs.declared.Envelope.{Envelope}

-- ---- the durable part's numbers and places
next-is : (w : List ℕ) (p : List (List ℕ)) → (durable_in w p).next.0 ≡ get_or w 0 0
unfolding durable_in
next-is w p = refl

pub places-are : (w : List ℕ) (p : List (List ℕ)) → get_or w 1 0 ≤ length p → length (durable_in w p).pending ≡ get_or w 1 0
unfolding durable_in
places-are w p h = length-map (take (get_or w 1 0) p) pending_in ∙ length-take-le (get_or w 1 0) p h

-- ---- the output where numbers and places are enough
behind : Bool → Durable → List Command
behind b d = choose b (Save d ∷ []) []

module _ (me : Id) (d : Durable) (os : List InnerCommand) (room : ℕ) (h : d.next.0 + sends os ≤ 18446744073709551615)
    (k : length d.pending + sends os ≤ room) where
  pub outputs : {B : Type 0} (f : Output → Outcome B) (g : Durable → List Command → Outcome B) → ((o : Output) → f o ≡ g o.durable o.commands)
      → bind (output (limits_of room) me d os) f ≡ g (noted os d) (asked d.next.0 os ++ choose (any durably os) (Save (noted os d) ∷ []) [])
  unfolding output then_save bind
  outputs f g same =
      let z = goes (limits_of room) me os d h k in
      let y = processed (limits_of room) me os d z.output z.told in
      let b = any durably os in
      rw z.told (same _ ∙ λ j. g (y.1 j) (y.0 j ++ choose b (Save (y.1 j) ∷ []) []))

pub refused-output : (me : Id) (d : Durable) (os : List InnerCommand) (room k : ℕ) {B : Type 0} (f : Output → Outcome B) → process (limits_of room) me d os
    ≡ refused k → bind (output (limits_of room) me d os) f ≡ refused k
unfolding output bind
refused-output me d os room k f e = rw e

-- ---- where nothing is cut
pub asked-few : (n : ℕ) (os : List InnerCommand) → length (asked n os) ≤ length os
unfolding asked
asked-few n [] = omega arith
asked-few n (inner.SetTimer t ∷ os) = let z = asked-few n os in omega arith
asked-few n (inner.CancelTimer t ∷ os) = let z = asked-few n os in omega arith
asked-few n (inner.Save v ∷ os) = let z = asked-few n os in omega arith
asked-few n (inner.Send r p ∷ os) = let z = asked-few (suc n) os in omega arith

-- ---- the end of a run
module _ (me : Id) (kind : Kind) (os : List InnerCommand) (t s used n : ℕ) (x : Rows) (fine : Fine kind used n x) where
  abbrev w : List ℕ
  w = x.live

  abbrev d : Durable
  d = durable_in w x.pend

  places : length d.pending ≡ get_or w 1 0
  places = let a = fine.live.places in let b = fine.live.pending in places-are w x.pend (omega arith)

  abbrev o : Around me → Option Envelope → List Rule → Outcome Sys
  o = reacting me kind os t s used x

  -- The actor before its commands run.
  abbrev b : List Rule → Actor
  b = λ rs. actor_with rs t (noted os d) s x

  abbrev more : List Command
  more = choose (any durably os) (Save (noted os d) ∷ []) []

  module _ (why : Answer) (said : Decided w os why) where
    as-view : why ≡ answer_of (refusal_of d.next.0 (length d.pending) most_pending (sends os))
    unfolding durable_in
    as-view = said.told ∙ ap (λ (k : ℕ). answer_of (refusal_of (get_or w 0 0) k most_pending (sends os))) (sym places)

    few-numbers : d.next.0 ≤ 18446744073709551615
    unfolding durable_in
    few-numbers = said.most

    few-places : length d.pending ≤ most_pending
    few-places = let a = fine.live.pending in let c = places in omega arith

    pub enough : is_done why ≡ true → (get_or w 0 0 + sends os ≤ 18446744073709551615) × (get_or w 1 0 + sends os ≤ most_pending)
    unfolding durable_in
    enough g = let z = goes_on me d most_pending os why as-view few-numbers few-places g in (z.0, let a = z.1 in let c = places in omega arith)

    pub acted-refused : is_done why ≡ false
        → Acted me o (λ last. last) kind used n x (record { answer = why; used = used; len = n }) x
    acted-refused g = record {
      fine = fine;
      runs = λ a. absurd (not-both (is_done why) a g);
      stops = λ a hall last rs. refused-output me d os most_pending _ _ (refuses me d most_pending os why as-view few-numbers few-places g);
      same = λ a. (refl, refl, refl);
    }

  module _ (nums : get_or w 0 0 + sends os ≤ 18446744073709551615) (plcs : get_or w 1 0 + sends os ≤ most_pending) (short : length os ≤ most_commands)
      (r : Emitted) (cs' : List (List ℕ)) (source : Id)
      (safe : Safe kind me first.Nothing (take most_told (front_of source first.Nothing ++ asked (get_or w 0 0) os)) x.cells used n t r cs') where
    all-run : take most_told (front_of source first.Nothing ++ asked (get_or w 0 0) os) ≡ asked (get_or w 0 0) os
    unfolding front_of
    all-run = let z = asked-few (get_or w 0 0) os in take_all most_told (asked (get_or w 0 0) os) (omega arith)

    ends : (hall : Around me) (last : Option Envelope) (rs : List Rule)
        → o hall last rs ≡ run_commands (room_of x.cells) me (asked (get_or w 0 0) os ++ more) (sys_in me hall kind last x.cells used t (b rs))
    unfolding durable_in with_timers
    ends hall last rs = outputs me d os most_pending nums (let a = places in omega arith) _
        (λ e cmds. running me hall cmds (net_of kind last x.cells used) rs t e s x) (λ a. refl)

    -- The inner actor's commands first, then what is saved.
    split : (hall : Around me) (last : Option Envelope) (rs : List Rule) (y : Outcome Sys)
        → run_commands (room_of x.cells) me (take most_told (front_of source first.Nothing ++ asked (get_or w 0 0) os))
        (sys_in me hall kind last x.cells used t (b rs)) ≡ y
        → o hall last rs ≡ bind y (run_commands (room_of x.cells) me more)
    split hall last rs y e =
        ends hall last rs ∙ run-append (room_of x.cells) me (asked (get_or w 0 0) os) more _
        ∙ ap (λ (z : Outcome Sys). bind z (run_commands (room_of x.cells) me more))
        (ap (λ (cmds : List Command). run_commands (room_of x.cells) me cmds (sys_in me hall kind last x.cells used t (b rs))) (sym all-run) ∙ e)

    pub acted-full : is_done r.answer ≡ false
        → Acted me o (λ last. last) kind used n x (record { answer = r.answer; used = r.used; len = r.len })
        (record { cells = cs'; live = w; pend = x.pend; kept = x.kept; stored = x.stored })
    unfolding bind
    acted-full g =
        let z = safe.kept g in
        record {
          fine = record { net = safe.ready; room = safe.room ∙ fine.room; live = fine.live; kept = fine.kept };
          runs = λ a. absurd (not-both (is_done r.answer) a g);
          stops = λ a hall last rs. split hall last rs _ (safe.stops g hall last (b rs));
          same = λ a. (λ j. record { cells = z.0 j; live = w; pend = x.pend; kept = x.kept; stored = x.stored }, z.1, z.2);
        }

    module _ (t1 : is_done r.answer ≡ true) (w' : List ℕ) (p' : List (List ℕ)) (put : Settled (noted os d) r.timers s w w' p') where
      ran : (hall : Around me) (last : Option Envelope) (rs : List Rule)
          → o hall last rs ≡ run_commands (room_of x.cells) me more (sys_in me hall kind last cs' r.used r.timers (b rs))
      unfolding bind
      ran hall last rs = split hall last rs _ (safe.runs t1 hall last (b rs))

      pub acted-plain : any durably os ≡ false
          → Acted me o (λ last. last) kind used n x (record { answer = r.answer; used = r.used; len = r.len })
          (record { cells = cs'; live = w'; pend = p'; kept = x.kept; stored = x.stored })
      unfolding choose run_commands with_timers
      acted-plain f = record {
        fine = record { net = safe.ready; room = safe.room ∙ fine.room; live = put.laid; kept = fine.kept };
        runs = λ a hall last rs.
            ran hall last rs
            ∙ ap (λ (b' : Bool). run_commands (room_of x.cells) me (choose b' (Save (noted os d) ∷ []) [])
            (sys_in me hall kind last cs' r.used r.timers (b rs))) f
            ∙ ap (λ (a : Actor). done (holding me hall (net_of kind last cs' r.used) a))
            (sym (as_settled rs (noted os d) r.timers s w w' p' put x.kept x.stored));
        stops = λ a. absurd (not-both (is_done r.answer) t1 a);
        same = λ a. absurd (not-both (is_done r.answer) t1 a);
      }

      pub acted-stored : any durably os ≡ true → (k' : List ℕ) (q' : List (List ℕ)) → Kept w' p' k' q'
          → Acted me o (λ last. last) kind used n x (record { answer = r.answer; used = r.used; len = r.len })
          (record { cells = cs'; live = w'; pend = p'; kept = k'; stored = q' })
      unfolding choose run_commands with_timers with_storage
      acted-stored f k' q' e = record {
        fine = record { net = safe.ready; room = safe.room ∙ fine.room; live = put.laid; kept = stored-laid w' p' k' q' e put.laid };
        runs = λ a hall last rs.
            ran hall last rs
            ∙ ap (λ (b' : Bool). run_commands (room_of x.cells) me (choose b' (Save (noted os d) ∷ []) [])
            (sys_in me hall kind last cs' r.used r.timers (b rs))) f
            ∙ run-save me hall (net_of kind last cs' r.used) (with_timers (listed r.timers) (b rs)) (room_of x.cells) [] (noted os d)
            ∙ ap (λ (a : Actor). done (holding me hall (net_of kind last cs' r.used) a))
            (sym (as-stored rs (noted os d) r.timers s w w' p' put k' q' e));
        stops = λ a. absurd (not-both (is_done r.answer) t1 a);
        same = λ a. absurd (not-both (is_done r.answer) t1 a);
      }
