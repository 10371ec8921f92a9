-- A message that is taken: its number is noted, its Ack goes out, and the inner actor's commands after it.
-- Assumes nothing.
use Prim.Native.Nat.{ℕ, ◌+◌, ◌≤◌, ◌<◌}
use native.Mathlib.Omega.{arith}
use mathlib.Core.Path.{◌≡◌, refl, sym, ap, ◌∙◌}
use mathlib.Core.Bool.{Bool, true, false, not, ◌||◌}
use Rattle.std.specs.Prelude.{Option, Some}
use mathlib.Core.List.{List, [], ◌∷◌, ◌++◌, append_assoc}
use lib.ListN.{length, take, get_or}
use Rattle.lists.specs.Lists.{choose, any, lead}
use lib.Seq.{take_all}
use Rattle.lists.proofs.Members.{or-true}
use Rattle.net_slots.proofs.Tests.{any-yes, any-no}
use Rattle.types.specs.Capacities.{most_pending, most_commands, most_told}
use Rattle.types.specs.declared.Id.{Id}
use Rattle.types.specs.declared.Number.{Number}
use Rattle.types.specs.declared.Kind.{Kind}
use Rattle.types.specs.declared.Rule.{Rule}
use Rattle.types.specs.declared.Entry.{Entry}
use Rattle.types.specs.declared.Envelope.{Envelope}
use Rattle.types.specs.declared.InnerCommand.{InnerCommand}
use Rattle.types.specs.declared.Message.TheVariants.{Ack}
use Rattle.types.specs.Order.{same}
use Rattle.answers.specs.Answers.{Answer}
use Rattle.answers.specs.Answers.{Absent}
use Rattle.answers.specs.Answers.{answer_of, answer_number, is_done}
use Rattle.rules.specs.Outcome.{Outcome, done, refused, bind, guard}
use Rattle.rules.specs.Network.{Net, delivering, is_duplicating, present, on_deliver}
use Rattle.rules.specs.Link.{Durable, Command, Send, Save, with_taken, durably, output}
use Rattle.rules.specs.System.{Actor, Sys, with_timers, with_storage, run_commands}
use Rattle.link_timers.specs.Views.{listed}
use Rattle.net_rows.specs.Views.{last_after, entry_list, net_of, room_of, NetReady}
use Rattle.net_rows.proofs.Laws.{used-is}
use Rattle.link_direct.specs.Direct.{asked, noted, sends}
use Rattle.link_tables.specs.Rows.{mark}
use Rattle.link_rows.specs.Rows.{durable_in}
use Rattle.sys_seat.specs.Seat.{Around, holding}
use Rattle.sys_seat.proofs.Seats.{run-append, run-save}
use Rattle.sys_emits.specs.declared.Emitted.{Emitted}
use Rattle.sys_emits.specs.Views.{sys_in}
use Rattle.sys_emits.proofs.Laws.{not-both}
use Rattle.sys_reacts.specs.declared.First.{First}
use Rattle.sys_reacts.specs.declared.First.TheVariants as first
use Rattle.sys_reacts.specs.Views.{limits_of, refusal_of, front_of, following, there, Safe}
use Rattle.sys_reacts.proofs.Laws.{refuses}
use Rattle.sys_reacts.proofs.Deliver.{deliver-is}
use Rattle.sys_rows.specs.Rows.{RowsLaid, Settled, Noticed, Kept}
use Rattle.sys_rows.proofs.Laws.{as-stored, stored-laid}
use Rattle.sys_rows.proofs.Sources.{noticed-word}
use Rattle.sys_moves.specs.Views.{Rows, actor_with, running, taken_in, Decided, Fine, Acted}
use Rattle.sys_moves.proofs.Laws.{places-are, outputs, refused-output, asked-few}

module _ (source : Id) (number : Number) (os : List InnerCommand) (w : List ℕ) (p : List (List ℕ)) (laid : RowsLaid w p) (w1 : List ℕ)
    (note : Noticed source.0 number.0 w w1) where
  pub noticed-laid : RowsLaid w1 p
  noticed-laid = note.laid p laid

  pub noticed-places : get_or w 1 0 + sends os ≤ most_pending → get_or w1 1 0 + sends os ≤ most_pending
  noticed-places h = let z = noticed-word _ _ w w1 note 1 (omega arith) (λ z. omega arith) in omega arith

  pub noticed-numbers : get_or w 0 0 + sends os ≤ 18446744073709551615 → get_or w1 0 0 + sends os ≤ 18446744073709551615
  noticed-numbers h = let z = noticed-word _ _ w w1 note 0 (omega arith) (λ z. omega arith) in omega arith

  pub noticed-settled : (t s : ℕ) (w' : List ℕ) (p' : List (List ℕ)) → Settled (noted os (durable_in w1 p)) t s w1 w' p'
      → Settled (noted os (with_taken source number (durable_in w p))) t s w w' p'
  noticed-settled t s w' p' put = record {
    durable = put.durable ∙ ap (noted os) (note.durable p);
    crashed = put.crashed ∙ noticed-word _ _ w w1 note 5 (omega arith) (λ z. omega arith);
    timers = put.timers;
    state = put.state;
    laid = put.laid;
  }

-- ---- 3 before 6 and 7
module _ (kind : Kind) (e : Envelope) (cs : List (List ℕ)) (used n : ℕ) (ready : NetReady kind cs used n) (why : Answer) (at : ℕ)
    (first : at ≡ lead (λ x. not (same e x.envelope)) (entry_list cs used)) where
  pub is-there : at < used → why ≡ choose (there kind e cs used) why Absent
  unfolding there present choose
  is-there h =
      let v = used-is cs used n ready.laid in
      let z = any-yes (λ (x : Entry). same e x.envelope) (entry_list cs used) (omega arith) in
      rw (z, or-true (is_duplicating kind))

  pub not_there : used ≤ at → (k : Kind) → kind ≡ k → choose (is_duplicating k) why Absent ≡ choose (there kind e cs used) why Absent
  unfolding there present
  not_there h k q =
      let v = used-is cs used n ready.laid in
      let z = any-no (λ (x : Entry). same e x.envelope) (entry_list cs used) (omega arith) in
      rw (z, ← q) (go (is_duplicating kind))
    where
      go : (b : Bool) → choose b why Absent ≡ choose (b || false) why Absent
      go true = refl
      go false = refl

-- ---- what the rules say of it
module _ (kind : Kind) (e : Envelope) (v : Number) (os : List InnerCommand) (s used n : ℕ) (x : Rows) (fine : Fine kind used n x) where
  abbrev w : List ℕ
  w = x.live

  abbrev d : Durable
  d = with_taken e.src v (durable_in w x.pend)

  abbrev d' : Durable
  d' = noted os d

  abbrev message : First
  message = first.Message e v

  abbrev o : Around e.dst → Option Envelope → List Rule → Outcome Sys
  o = taken_in kind e v os s used x

  -- The Ack and what an output told, run and saved, with this network.
  abbrev reaction : Around e.dst → List Rule → Net → Durable → List Command → Outcome Sys
  reaction = λ hall rs m f cs. running e.dst hall (Send e.src (Ack v) ∷ (cs ++ Save f ∷ [])) m rs (get_or w 6 0) f s x

  abbrev after : Around e.dst → List Rule → Net → Outcome Sys
  after = λ hall rs m. bind (output (limits_of most_pending) e.dst d os) (λ a. reaction hall rs m a.durable a.commands)

  -- ---- numbers and places are those of the row
  places : length d.pending ≡ get_or w 1 0
  unfolding with_taken
  places = let a = fine.live.places in let b = fine.live.pending in places-are w x.pend (omega arith)

  next-is : d.next.0 ≡ get_or w 0 0
  unfolding with_taken durable_in
  next-is = refl

  module _ (why : Answer) (said : Decided w os why) where
    as-view : why ≡ answer_of (refusal_of d.next.0 (length d.pending) most_pending (sends os))
    as-view =
        said.told ∙ ap (λ (k : ℕ). answer_of (refusal_of k (get_or w 1 0) most_pending (sends os))) (sym next-is)
        ∙ ap (λ (k : ℕ). answer_of (refusal_of d.next.0 k most_pending (sends os))) (sym places)

    few : d.next.0 ≤ 18446744073709551615
    few = let a = next-is in let b = said.most in omega arith

    least : length d.pending ≤ most_pending
    least = let a = fine.live.pending in let b = places in omega arith

    pub taken_refused : is_done why ≡ false → (b : Answer) → b ≡ choose (there kind e x.cells used) why Absent → (cs' : List (List ℕ)) → cs'
        ≡ x.cells
        → Acted e.dst o (last_after kind e) kind used n x (record { answer = b; used = used; len = n })
        (record { cells = cs'; live = w; pend = x.pend; kept = x.kept; stored = x.stored })
    unfolding choose guard bind answer_of
    taken_refused g b p cs' q = rw q (go (there kind e x.cells used) refl)
      where
        go : (t : Bool) → there kind e x.cells used ≡ t
            → Acted e.dst o (last_after kind e) kind used n x (record { answer = b; used = used; len = n }) x
        go true h =
            let bw : b ≡ why = p ∙ ap (λ (t : Bool). choose t why Absent) h in
            let f : is_done b ≡ false = ap is_done bw ∙ g in
            record {
              fine = fine;
              runs = λ a. absurd (not-both (is_done b) a f);
              stops = λ a hall last rs.
                  ap (λ (z : Outcome Net). bind z (after hall rs))
                  (deliver-is kind e x.cells used n last ∙ ap (λ (t : Bool). guard t 3 (done (delivering e (net_of kind last x.cells used)))) h)
                  ∙ refused-output e.dst d os most_pending (answer_number why)
                  (λ a. reaction hall rs (delivering e (net_of kind last x.cells used)) a.durable a.commands)
                  (refuses e.dst d most_pending os why as-view few least g)
                  ∙ ap (λ (c : Answer). refused (answer_number c)) (sym bw);
              same = λ a. (refl, refl, refl);
            }
        go false h =
            let bw : b ≡ Absent = p ∙ ap (λ (t : Bool). choose t why Absent) h in
            let f : is_done b ≡ false = ap is_done bw in
            record {
              fine = fine;
              runs = λ a. absurd (not-both (is_done b) a f);
              stops = λ a hall last rs.
                  ap (λ (z : Outcome Net). bind z (after hall rs))
                  (deliver-is kind e x.cells used n last ∙ ap (λ (t : Bool). guard t 3 (done (delivering e (net_of kind last x.cells used)))) h)
                  ∙ ap (λ (c : Answer). refused (answer_number c)) (sym bw);
              same = λ a. (refl, refl, refl);
            }

  -- ---- where numbers and places are enough
  module _ (nums : get_or w 0 0 + sends os ≤ 18446744073709551615) (plcs : get_or w 1 0 + sends os ≤ most_pending) (short : length os ≤ most_commands)
      (r : Emitted) (cs' : List (List ℕ))
      (got : Safe kind e.dst message (take most_told (front_of e.src message ++ asked (get_or w 0 0) os)) x.cells used n (get_or w 6 0) r cs') where
    abbrev cmds : List Command
    cmds = Send e.src (Ack v) ∷ asked (get_or w 0 0) os

    all-run : take most_told (front_of e.src message ++ asked (get_or w 0 0) os) ≡ cmds
    unfolding front_of
    all-run = let z = asked-few (get_or w 0 0) os in take_all most_told cmds (omega arith)

    abbrev more : List Command
    more = choose (any durably os) (Save d' ∷ []) [] ++ Save d' ∷ []

    abbrev b : List Rule → Actor
    b = λ rs. actor_with rs (get_or w 6 0) d' s x

    -- The Ack and the inner actor's commands first, then what is saved.
    ends : (hall : Around e.dst) (last : Option Envelope) (rs : List Rule)
        → o hall last rs
        ≡ bind (following kind e.dst message cmds x.cells used (get_or w 6 0) hall last (b rs)) (run_commands (room_of x.cells) e.dst more)
    unfolding bind with_timers
    ends hall last rs = go (on_deliver e (net_of kind last x.cells used))
      where
        go : (z : Outcome Net) → bind z (after hall rs)
            ≡ bind (bind z (λ i. run_commands (room_of x.cells) e.dst cmds (holding e.dst hall i (with_timers (listed (get_or w 6 0)) (b rs)))))
            (run_commands (room_of x.cells) e.dst more)
        go (done i) =
            outputs e.dst d os most_pending (let a = next-is in omega arith) (let a = places in omega arith) _ (reaction hall rs i) (λ a. refl)
            ∙ ap (λ (k : ℕ). reaction hall rs i d' (asked k os ++ choose (any durably os) (Save d' ∷ []) [])) next-is
            ∙ ap (λ (l : List Command). run_commands (room_of x.cells) e.dst (Send e.src (Ack v) ∷ l) (holding e.dst hall i (b rs)))
            (append_assoc (asked (get_or w 0 0) os) (choose (any durably os) (Save d' ∷ []) []) (Save d' ∷ []))
            ∙ run-append (room_of x.cells) e.dst cmds more (holding e.dst hall i (b rs))
        go (refused k) = refl

    split : (hall : Around e.dst) (last : Option Envelope) (rs : List Rule) (y : Outcome Sys)
        → following kind e.dst message (take most_told (front_of e.src message ++ asked (get_or w 0 0) os)) x.cells used (get_or w 6 0) hall last (b rs)
        ≡ y
        → o hall last rs ≡ bind y (run_commands (room_of x.cells) e.dst more)
    split hall last rs y q =
        ends hall last rs
        ∙ ap (λ (z : Outcome Sys). bind z (run_commands (room_of x.cells) e.dst more))
        (ap (λ (l : List Command). following kind e.dst message l x.cells used (get_or w 6 0) hall last (b rs)) (sym all-run) ∙ q)

    -- Saved once or twice, it is stored.
    abbrev c : List Rule → Actor
    c = λ rs. record { rules = rs; crashed = mark (get_or w 5 0); timers = listed r.timers; link = record { durable = d'; state = s }; storage = Some d' }

    saves : (t : Bool) (hall : Around e.dst) (last : Option Envelope) (rs : List Rule)
        → run_commands (room_of x.cells) e.dst (choose t (Save d' ∷ []) [] ++ Save d' ∷ [])
        (sys_in e.dst hall kind last cs' r.used r.timers (b rs))
        ≡ done (holding e.dst hall (net_of kind last cs' r.used) (c rs))
    unfolding choose run_commands with_storage with_timers
    saves true hall last rs =
        run-save e.dst hall (net_of kind last cs' r.used) (with_timers (listed r.timers) (b rs)) (room_of x.cells) (Save d' ∷ []) d'
        ∙ run-save e.dst hall (net_of kind last cs' r.used) (c rs) (room_of x.cells) [] d'
    saves false hall last rs = run-save e.dst hall (net_of kind last cs' r.used) (with_timers (listed r.timers) (b rs)) (room_of x.cells) [] d'

    pub taken-full : is_done r.answer ≡ false
        → Acted e.dst o (last_after kind e) kind used n x (record { answer = r.answer; used = r.used; len = r.len })
        (record { cells = cs'; live = w; pend = x.pend; kept = x.kept; stored = x.stored })
    unfolding bind
    taken-full f =
        let z = got.kept f in
        record {
          fine = record { net = got.ready; room = got.room ∙ fine.room; live = fine.live; kept = fine.kept };
          runs = λ a. absurd (not-both (is_done r.answer) a f);
          stops = λ a hall last rs. split hall last rs _ (got.stops f hall last (b rs));
          same = λ a. (λ j. record { cells = z.0 j; live = w; pend = x.pend; kept = x.kept; stored = x.stored }, z.1, z.2);
        }

    pub taken-done : is_done r.answer ≡ true → (w' : List ℕ) (p' : List (List ℕ)) → Settled d' r.timers s w w' p'
        → (k' : List ℕ) (q' : List (List ℕ)) → Kept w' p' k' q'
        → Acted e.dst o (last_after kind e) kind used n x (record { answer = r.answer; used = r.used; len = r.len })
        (record { cells = cs'; live = w'; pend = p'; kept = k'; stored = q' })
    unfolding bind
    taken-done t w' p' put k' q' kept = record {
      fine = record { net = got.ready; room = got.room ∙ fine.room; live = put.laid; kept = stored-laid w' p' k' q' kept put.laid };
      runs = λ a hall last rs.
          split hall last rs _ (got.runs t hall last (b rs)) ∙ saves (any durably os) hall (last_after kind e last) rs
          ∙ ap (λ (a : Actor). done (holding e.dst hall (net_of kind (last_after kind e last) cs' r.used) a))
          (sym (as-stored rs d' r.timers s w w' p' put k' q' kept));
      stops = λ a. absurd (not-both (is_done r.answer) t a);
      same = λ a. absurd (not-both (is_done r.answer) t a);
    }
